-- Where a reader stands in its input, from one line to the next.
use Rattle.std.proofs.Common.{◌≡◌, ◌<◌, ℕ, ◌+◌, ◌-◌, ◌^◌, false, not, IsTrue, List, [], ◌∷◌, ◌++◌, length, take, drop, get_or, Option, Some}
use Rattle.std.proofs.Common.{None, IfSome, refl, ap, subst, inl, inr, sym, ◌∙◌, arith, length-append, length-drop}
use Rattle.std.specs.List.{after_first, position_or_len}
use Rattle.std.proofs.lemmas.List.{drop-append-le, drop-drop, drop_all, take_more}
use Rattle.std.proofs.lemmas.List.Sums.{passes_at_first}
use Rattle.std.proofs.lemmas.Bool.{cases_lt, eqb-true}
use Rattle.std.proofs.lemmas.List.Folds.{prefix_len-append}
use Rattle.std.proofs.lemmas.Bool.Decides.{nat_tests}
use Rattle.std.proofs.Math.Seq.{take-add, take-append_seam}
use Rattle.chart_world.specs.Fronts.{IsWhole, StandsIn, first_piece}
use Rattle.chart_world.specs.FrontLaws.{passed, whole_joined}
use Rattle.chart_world.specs.Lines.{is_line_feed}
use Rattle.chart_world.specs.Reading.{Reading, HasFeed, IsNone, unread_input, unread_up_to, unread, in_front_of, behind_first, input_length}

-- a line feed in front is the first
position_in_front : (front behind : List ℕ) → position_or_len is_line_feed front < length front
    → position_or_len is_line_feed (front ++ behind) ≡ position_or_len is_line_feed front
position_in_front front behind found = grind (arith, nat_tests, prefix_len-append (λ x. not (is_line_feed x)) front behind)

-- before the first call
pub stands_up_to : (limit : ℕ) (o : Option (List ℕ)) (r : Reading) → r ≡ unread_up_to limit → StandsIn o r o
stands_up_to limit o r is = let P : Reading → Type 0 = λ r. StandsIn o r o in subst P (sym is) (by o)
  where
    by : (o : Option (List ℕ)) → StandsIn o (unread_up_to limit) o
    by None = record { behind = refl; whole = λ _. tt; nothing = λ t. absurd (cc (t)) }
    by (Some bytes) = record { behind = refl; whole = λ _. inl refl; nothing = λ t. absurd (cc (t)) }

-- the same of the first 2^32 bytes
pub stands_first : (o : Option (List ℕ)) (r : Reading) → r ≡ unread_input → StandsIn o r o
stands_first o r is = stands_up_to (2 ^ 32) o r is

-- the stream beside the reader is as it was
pub stands_beside : (o left left' : Option (List ℕ)) (r : Reading) → left' ≡ left → StandsIn o r left → StandsIn o r left'
stands_beside o left left' r same stands = let P : Option (List ℕ) → Type 0 = λ l. StandsIn o r l in subst P (sym same) stands

-- a line that ends in a line feed is whole
feed_whole : (bytes : List ℕ) → position_or_len is_line_feed bytes < length bytes → IsWhole (first_piece bytes)
feed_whole bytes found =
    let at = position_or_len is_line_feed bytes in
    let feed : get_or bytes at 0 ≡ 10 = eqb-true (get_or bytes at 0) 10 (passes_at_first is_line_feed bytes 0 found) in
    inr (take at bytes, take_more bytes at 0 found ∙ ap (λ b. take at bytes ++ b ∷ []) feed)

-- what stands behind more bytes
behind_more : (bytes rest : List ℕ) (given given' : ℕ) → rest ≡ drop given bytes
    → given' + length (after_first is_line_feed rest) ≡ given + length rest → after_first is_line_feed rest ≡ drop given' bytes
behind_more bytes rest given given' is sum =
    let at = position_or_len is_line_feed rest in
    let less : length (after_first is_line_feed rest) ≡ length rest - (at + 1) = length-drop (at + 1) rest in
    elim (cases_lt at (length rest)) [
      | inl found ↦
          let count : given + (at + 1) ≡ given' = omega (arith, found, sum, less) in
          ap (λ l. drop (at + 1) l) is ∙ drop-drop (at + 1) given bytes ∙ ap (λ n. drop n bytes) count
      | inr none ↦
          let count : given + length rest ≡ given' = omega (arith, none, sum, less) in
          drop_all (at + 1) rest (omega (arith, none))
          ∙ sym (drop_all (length rest) rest (omega arith))
          ∙ ap (λ l. drop (length rest) l) is
          ∙ drop-drop (length rest) given bytes
          ∙ ap (λ n. drop n bytes) count
    ]

-- a whole line behind a whole front
whole_more : (bytes rest : List ℕ) (given given' : ℕ) → rest ≡ drop given bytes
    → given' + length (after_first is_line_feed rest) ≡ given + length rest → position_or_len is_line_feed rest < length rest
    → IsWhole (take given bytes) → IsWhole (take given' bytes)
whole_more bytes rest given given' is sum found whole =
    let at = position_or_len is_line_feed rest in
    let count : given + (at + 1) ≡ given' = omega (arith, found, sum, length-drop (at + 1) rest) in
    let front : take given bytes ++ first_piece rest ≡ take given' bytes =
    ap (λ l. take given bytes ++ take (at + 1) l) is ∙ sym (take-add given (at + 1) bytes) ∙ ap (λ n. take n bytes) count in
    let P : List ℕ → Type 0 = IsWhole in
    subst P front (whole_joined (take given bytes) (first_piece rest) whole (feed_whole rest found))

-- One line more is given. Until the end is found it has its line feed.
pub stands_next : (o left left' : Option (List ℕ)) (r r' : Reading) → unread r' left' ≡ behind_first (unread r left)
    → r.taken ≡ r.given + length r.pending → r'.taken ≡ r'.given + length r'.pending
    → input_length r'.taken left' ≡ input_length r.taken left → (r'.ended ≡ false → HasFeed (unread r left))
    → (r'.ended ≡ false → r.ended ≡ false) → (IsTrue r'.ended → IsNone left')
    → StandsIn o r left → StandsIn o r' left'
stands_next None left left' r r' rest counted counted' total feed before none stands = record {
  behind = rest ∙ ap behind_first stands.behind;
  whole = λ _. tt;
  nothing = none;
}
stands_next (Some bytes) left left' r r' rest counted counted' total feed before none stands =
    let here : unread r left ≡ Some (drop r.given bytes) = stands.behind in
    let there : unread r' left' ≡ Some (after_first is_line_feed (drop r.given bytes)) = rest ∙ ap behind_first here in
    let sum = passed r r' left left' (drop r.given bytes)
    (after_first is_line_feed (drop r.given bytes)) here there counted counted' total in
    record {
      behind = there ∙ ap Some (behind_more bytes (drop r.given bytes) r.given r'.given refl sum);
      whole = λ going.
          let Found : Option (List ℕ) → Type 0 = HasFeed in
          let found : position_or_len is_line_feed (drop r.given bytes) < length (drop r.given bytes) = subst Found here (feed going) in
          whole_more bytes (drop r.given bytes) r.given r'.given refl sum found (stands.whole (before going));
      nothing = none;
    }

-- what stands behind a line that is pending
behind_pending : (pending : List ℕ) (left : Option (List ℕ)) → position_or_len is_line_feed pending < length pending
    → in_front_of (after_first is_line_feed pending) left ≡ behind_first (in_front_of pending left)
behind_pending pending None found = refl
behind_pending pending (Some rest) found =
    let at = position_or_len is_line_feed pending in
    ap Some (sym (drop-append-le (at + 1) pending rest (omega (arith, found)))
    ∙ ap (λ n. drop (n + 1) (pending ++ rest)) (sym (position_in_front pending rest found)))

pub feed_pending : (pending : List ℕ) (left : Option (List ℕ)) → position_or_len is_line_feed pending < length pending
    → HasFeed (in_front_of pending left)
feed_pending pending None found = tt
feed_pending pending (Some rest) found = omega (arith, position_in_front pending rest found, found, length-append pending rest)

-- what was given is a front of the input
pub whole_given : (input front rest : List ℕ) (given : ℕ) → input ≡ front ++ rest → given ≡ length front → IsWhole (take given input)
    → IsWhole front
whole_given input front rest given split counted whole =
    let same : take given input ≡ front = ap (λ n. take n input) counted ∙ ap (λ l. take (length front) l) split
    ∙ take-append_seam front rest in
    let P : List ℕ → Type 0 = IsWhole in
    subst P same whole

-- two facts of bytes, where they are told
pub told_with : (P R Q : List ℕ → Type 0) (o : Option (List ℕ)) → ((bytes : List ℕ) → R bytes → P bytes → Q bytes) → IfSome o R → IfSome o P
    → IfSome o Q
told_with P R Q None more r p = tt
told_with P R Q (Some bytes) more r p = more bytes r p
