-- A line that is put together from several pieces.
use Rattle.std.proofs.Common.{◌≡◌, ◌≢◌, ℕ, zero, suc, ◌+◌, ◌-◌, ◌^◌, ◌≤◌, ◌<◌, Bool, ltb, inl, inr, true, false, not, cond, List, [], ◌∷◌}
use Rattle.std.proofs.Common.{◌++◌, Option, None, Some, IfSome, length, take, drop, get_or, refl, ap, sym, ◌∙◌, arith, length-append}
use Rattle.std.proofs.Common.{length-drop, subst}
use Rattle.std.specs.List.{position_or_len}
use Rattle.std.proofs.lemmas.List.{take-append-le, take-append-drop, drop-append-le, drop-drop, drop_all, length-take, get_or-take}
use Rattle.std.proofs.lemmas.List.Sums.{fails_before_first, prefix_len-le-length}
use Rattle.std.proofs.lemmas.List.Folds.{prefix_len-append, length-prefix_len}
use Rattle.std.proofs.lemmas.Bool.{eqb-false, cases_lt, lt-ltb, ltb-true, false_from_ne_true}
use Rattle.std.proofs.lemmas.Bool.Decides.{nat_tests}
use Rattle.std.proofs.Math.Seq.{take-add, drop-append_seam}
use Rattle.block_disk.specs.Counts.{HasGrown, counted}
use Rattle.block_disk.specs.Streams.{Given, left_after}
use Rattle.chart_world.specs.Lines.{is_line_feed}
use Rattle.chart_world.specs.Feed.{Gathered}
use Rattle.chart_world.specs.Reading.{in_front_of, behind_first, input_length, HasFeed, NoLineIn}

-- So many bytes stand before the first line feed, and the spill keeps the front of them.
pub record Kept (count : ℕ) (spill bytes : List ℕ) : Type 0 where
  pub before : count ≤ position_or_len is_line_feed bytes
  pub front : spill ≡ take 8192 (take count bytes)

-- So many bytes of the line are kept, where they are told, and the others are pending or left.
abbrev pub Partway : Option (List ℕ) → ℕ → List ℕ → List ℕ → Option (List ℕ) → Type 0
Partway None size spill pending left = left ≡ None
Partway (Some bytes) size spill pending left = Kept size spill bytes × (in_front_of pending left ≡ Some (drop size bytes))

-- where no line feed stands in front, the first one stands behind
pub position_behind : (count : ℕ) (bytes : List ℕ) → count ≤ position_or_len is_line_feed bytes
    → position_or_len is_line_feed bytes ≡ count + position_or_len is_line_feed (drop count bytes)
position_behind zero bytes within = omega arith
position_behind (suc count) [] within = absurd (omega arith)
position_behind (suc count) (byte ∷ bytes) within = by (is_line_feed byte) within (position_behind count bytes)
  where
    by : (b : Bool) → suc count ≤ cond (not b) (1 + position_or_len is_line_feed bytes) 0
        → (count ≤ position_or_len is_line_feed bytes
        → position_or_len is_line_feed bytes ≡ count + position_or_len is_line_feed (drop count bytes))
        → cond (not b) (1 + position_or_len is_line_feed bytes) 0 ≡ suc count + position_or_len is_line_feed (drop count bytes)
    by true within rest = absurd (omega arith)
    by false within rest = omega (arith, rest (omega arith))

-- a line feed in front is the first
pub position_in_front : (front behind : List ℕ) → position_or_len is_line_feed front < length front
    → position_or_len is_line_feed (front ++ behind) ≡ position_or_len is_line_feed front
position_in_front front behind found = grind (arith, nat_tests, prefix_len-append (λ x. not (is_line_feed x)) front behind)

-- the first line feed stands no earlier than it does in the front alone
pub position_grows : (front behind : List ℕ) → position_or_len is_line_feed front ≤ position_or_len is_line_feed (front ++ behind)
position_grows front behind = grind (
  arith,
  nat_tests,
  prefix_len-append (λ x. not (is_line_feed x)) front behind,
  prefix_len-le-length (λ x. not (is_line_feed x)) front,
)

pub position_within : (bytes : List ℕ) → position_or_len is_line_feed bytes ≤ length bytes
position_within bytes = prefix_len-le-length (λ x. not (is_line_feed x)) bytes

-- before the first line feed there is none
pub none_before : (count : ℕ) (bytes : List ℕ) → count ≤ position_or_len is_line_feed bytes → NoLineIn count (Some bytes)
none_before count bytes within k d below =
    let early : k < count = omega (arith, length-take count bytes) in
    let same : get_or (take count bytes) k d ≡ get_or bytes k d = get_or-take count bytes k d early in
    let fails : is_line_feed (get_or bytes k d) ≡ false = fails_before_first is_line_feed bytes k d (omega arith) in
    λ is. eqb-false (get_or bytes k d) 10 fails (sym same ∙ is)

-- a front that is cut may be added to
take_front : (n : ℕ) (xs ys : List ℕ) → take n (take n xs ++ ys) ≡ take n (xs ++ ys)
take_front zero xs ys = refl
take_front (suc n) [] ys = refl
take_front (suc n) (x ∷ xs) ys = ap (λ l. x ∷ l) (take_front n xs ys)

-- what an option holds
held : (xs ys : List ℕ) → Some xs ≡ Some ys → xs ≡ ys
held xs ys is = cc

-- one step of what is kept
kept_more : (size count : ℕ) (spill pending rest bytes : List ℕ) → count ≤ position_or_len is_line_feed pending → Kept size spill bytes
    → pending ++ rest ≡ drop size bytes → Kept (size + count) (take 8192 (spill ++ take count pending)) bytes
kept_more size count spill pending rest bytes within kept behind =
    let here : position_or_len is_line_feed (pending ++ rest) ≡ position_or_len is_line_feed
    (drop size bytes) = ap (λ l. position_or_len is_line_feed l) behind in
    let front : take count pending ≡ take count (drop size bytes) =
    sym (take-append-le count pending rest (omega (arith, position_within pending))) ∙ ap (λ l. take count l) behind in
    record {
      before = omega (arith, here, position_grows pending rest, position_behind size bytes kept.before);
      front =
          ap (λ l. take 8192 (l ++ take count pending)) kept.front
          ∙ take_front 8192 (take size bytes) (take count pending)
          ∙ ap (λ l. take 8192 (take size bytes ++ l)) front
          ∙ ap (λ l. take 8192 l) (sym (take-add size count bytes));
    }

-- passing some more of the line onto the spill
pub keep_step : (told left : Option (List ℕ)) (size count : ℕ) (spill pending : List ℕ) → count ≤ position_or_len is_line_feed pending
    → Partway told size spill pending left → Partway told (size + count) (take 8192 (spill ++ take count pending)) (drop count pending) left
keep_step None left size count spill pending within partway = partway
keep_step (Some bytes) None size count spill pending within partway = absurd (cc (partway.1))
keep_step (Some bytes) (Some rest) size count spill pending within partway =
    let behind : pending ++ rest ≡ drop size bytes = held _ _ partway.1 in (
      kept_more size count spill pending rest bytes within partway.0 behind,
      ap Some (sym (drop-append-le count pending rest (omega (arith, position_within pending))) ∙ ap (λ l. drop count l) behind
          ∙ drop-drop count size bytes),
    )

-- taking one more piece, once all is passed
pub refill_step : (told left left' : Option (List ℕ)) (size count : ℕ) (spill buf : List ℕ) → IfSome left (λ l. Given count l buf)
    → left' ≡ left_after count left → Partway told size spill [] left → Partway told size spill (take count buf) left'
refill_step None None left' size count spill buf given is partway = is
refill_step None (Some rest) left' size count spill buf given is partway = absurd (cc (partway))
refill_step (Some bytes) None left' size count spill buf given is partway = absurd (cc (partway.1))
refill_step (Some bytes) (Some rest) left' size count spill buf given is partway = (
  partway.0,
  ap (λ l. in_front_of (take count buf) l) is
      ∙ ap (λ l. Some (l ++ drop count rest)) given.front
      ∙ ap Some (take-append-drop count rest)
      ∙ partway.1,
)

-- what is pending isn't empty where a byte of it stands before the end
something : (size count : ℕ) (pending rest bytes : List ℕ) → count < length pending → pending ++ rest ≡ drop size bytes → bytes ≢ []
something size count pending rest [] below behind is = absurd
    (omega (arith, length-append pending rest, ap length behind, length-drop {A = ℕ} size []))
something size count pending rest (byte ∷ bytes) below behind is = absurd (cc (is))

-- so many bytes are the first line
gathered : (size : ℕ) (spill bytes : List ℕ) → bytes ≢ [] → Kept size spill bytes → position_or_len is_line_feed bytes ≡ size
    → Gathered size spill bytes
gathered size spill bytes some kept whole = record {
  some = some;
  count = sym whole ∙ sym (length-prefix_len (λ x. not (is_line_feed x)) bytes);
  front = kept.front ∙ ap (λ n. take 8192 (take n bytes)) (sym whole);
}

-- the line feed is pending
pub found : (told left : Option (List ℕ)) (size count : ℕ) (spill pending : List ℕ) → count ≡ position_or_len is_line_feed pending
    → count < length pending → Partway told size spill pending left
    → IfSome told (λ bytes. Gathered (size + count) (take 8192 (spill ++ take count pending)) bytes)
found None left size count spill pending is below partway = tt
found (Some bytes) None size count spill pending is below partway = absurd (cc (partway.1))
found (Some bytes) (Some rest) size count spill pending is below partway =
    let behind : pending ++ rest ≡ drop size bytes = held _ _ partway.1 in
    let kept = kept_more size count spill pending rest bytes (omega arith) partway.0 behind in
    let here : position_or_len is_line_feed (pending ++ rest) ≡ position_or_len is_line_feed
    (drop size bytes) = ap (λ l. position_or_len is_line_feed l) behind in
    let whole : position_or_len is_line_feed bytes ≡ size + count = omega (
      arith,
      here,
      position_in_front pending rest (omega arith),
      position_behind size bytes partway.0.before,
    ) in
    gathered (size + count) (take 8192 (spill ++ take count pending)) bytes
    (something size count pending rest bytes below behind) kept whole

-- and what stands behind it is what stands behind the first line
pub found_rest : (told left : Option (List ℕ)) (size count : ℕ) (spill pending : List ℕ) → count ≡ position_or_len is_line_feed pending
    → count < length pending → Partway told size spill pending left → in_front_of (drop (count + 1) pending) left ≡ behind_first told
found_rest None left size count spill pending is below partway = ap (λ l. in_front_of (drop (count + 1) pending) l) partway
found_rest (Some bytes) None size count spill pending is below partway = absurd (cc (partway.1))
found_rest (Some bytes) (Some rest) size count spill pending is below partway =
    let behind : pending ++ rest ≡ drop size bytes = held _ _ partway.1 in
    let here : position_or_len is_line_feed (pending ++ rest) ≡ position_or_len is_line_feed
    (drop size bytes) = ap (λ l. position_or_len is_line_feed l) behind in
    let whole : size + (count + 1) ≡ position_or_len is_line_feed bytes + 1 = omega (
      arith,
      here,
      position_in_front pending rest (omega arith),
      position_behind size bytes partway.0.before,
    ) in
    ap Some (
    sym (drop-append-le (count + 1) pending rest (omega arith))
    ∙ ap (λ l. drop (count + 1) l) behind
    ∙ drop-drop (count + 1) size bytes
    ∙ ap (λ n. drop n bytes) whole
    )

-- the first line has its line feed
pub found_feed : (told left : Option (List ℕ)) (size count : ℕ) (spill pending : List ℕ) → count ≡ position_or_len is_line_feed pending
    → count < length pending → Partway told size spill pending left → HasFeed told
found_feed None left size count spill pending is below partway = tt
found_feed (Some bytes) None size count spill pending is below partway = absurd (cc (partway.1))
found_feed (Some bytes) (Some rest) size count spill pending is below partway =
    let behind : pending ++ rest ≡ drop size bytes = held _ _ partway.1 in
    let here : position_or_len is_line_feed (pending ++ rest) ≡ position_or_len is_line_feed
    (drop size bytes) = ap (λ l. position_or_len is_line_feed l) behind in
    omega (
      arith,
      here,
      is,
      below,
      position_in_front pending rest (omega arith),
      position_behind size bytes partway.0.before,
      length-append pending rest,
      ap length behind,
      length-drop size bytes,
    )

-- no byte was passed, none is pending and none is left
pub none_there : (told left : Option (List ℕ)) (size : ℕ) (spill pending : List ℕ) → size ≡ 0 → length pending ≤ 0
    → IfSome left (λ l. l ≡ []) → Partway told size spill pending left → IfSome told (λ bytes. bytes ≡ [])
none_there None left size spill pending start empty none partway = tt
none_there (Some bytes) None size spill pending start empty none partway = absurd (cc (partway.1))
none_there (Some bytes) (Some rest) size spill pending start empty none partway =
    let behind : pending ++ rest ≡ drop size bytes = held _ _ partway.1 in
    no_bytes bytes (omega (arith, start, empty, length-append pending rest, ap length behind, ap length none, length-drop size bytes))
  where
    no_bytes : (bytes : List ℕ) → length bytes ≤ 0 → bytes ≡ []
    no_bytes [] few = refl
    no_bytes (b ∷ bs) few = absurd (omega (arith, few))

-- no byte is left behind what was passed
at_end : (size : ℕ) (bytes rest : List ℕ) → rest ≡ drop size bytes → rest ≡ [] → length bytes ≤ size
at_end size bytes rest behind none = omega (arith, length-drop size bytes, ap length behind, ap length none)

-- the input has ended behind the line
pub ended : (told left : Option (List ℕ)) (size : ℕ) (spill : List ℕ) → 0 < size → IfSome left (λ l. l ≡ [])
    → Partway told size spill [] left → IfSome told (λ bytes. Gathered size spill bytes)
ended None left size spill some none partway = tt
ended (Some bytes) None size spill some none partway = absurd (cc (partway.1))
ended (Some bytes) (Some rest) size spill some none partway =
    let short = at_end size bytes rest (held _ _ partway.1) none in
    gathered size spill bytes
    (λ is. absurd (omega (arith, ap length is, position_within bytes, partway.0.before, some)))
    partway.0
    (omega (arith, short, position_within bytes, partway.0.before))

-- behind the last line there is nothing
pub ended_rest : (told left left' : Option (List ℕ)) (size : ℕ) (spill : List ℕ) → IfSome left (λ l. l ≡ []) → left' ≡ left_after 0 left
    → Partway told size spill [] left → in_front_of [] left' ≡ behind_first told
ended_rest None None left' size spill none is partway = ap (λ l. in_front_of [] l) is
ended_rest None (Some rest) left' size spill none is partway = absurd (cc (partway))
ended_rest (Some bytes) None left' size spill none is partway = absurd (cc (partway.1))
ended_rest (Some bytes) (Some rest) left' size spill none is partway =
    let short = at_end size bytes rest (held _ _ partway.1) none in
    ap (λ l. in_front_of [] l) is
    ∙ ap Some (none ∙ sym (drop_all (position_or_len is_line_feed bytes + 1) bytes (omega (arith, short, partway.0.before))))

-- no line feed stands in what was passed and before that in what is pending
pub none_yet : (told left : Option (List ℕ)) (size limit : ℕ) (spill pending : List ℕ) → limit ≤ size + position_or_len is_line_feed pending
    → Partway told size spill pending left → NoLineIn limit told
none_yet None left size limit spill pending within partway = tt
none_yet (Some bytes) None size limit spill pending within partway = absurd (cc (partway.1))
none_yet (Some bytes) (Some rest) size limit spill pending within partway =
    let behind : pending ++ rest ≡ drop size bytes = held _ _ partway.1 in
    let here : position_or_len is_line_feed (pending ++ rest) ≡ position_or_len is_line_feed
    (drop size bytes) = ap (λ l. position_or_len is_line_feed l) behind in
    none_before limit bytes (omega (arith, here, position_grows pending rest, position_behind size bytes partway.0.before))

-- what is left stands behind what was passed and what is pending
pub left_is : (told left : Option (List ℕ)) (size count : ℕ) (spill pending : List ℕ) → count ≡ size + length pending
    → Partway told size spill pending left → left ≡ left_after count told
left_is None left size count spill pending is partway = partway
left_is (Some bytes) None size count spill pending is partway = absurd (cc (partway.1))
left_is (Some bytes) (Some rest) size count spill pending is partway =
    let behind : pending ++ rest ≡ drop size bytes = held _ _ partway.1 in
    ap Some (
    sym (drop-append_seam pending rest)
    ∙ ap (λ l. drop (length pending) l) behind
    ∙ drop-drop (length pending) size bytes
    ∙ ap (λ n. drop n bytes) (sym is)
    )

-- at the beginning nothing is kept
pub begins : (left : Option (List ℕ)) (pending : List ℕ) → Partway (in_front_of pending left) 0 [] pending left
begins None pending = refl
begins (Some rest) pending = (record { before = omega arith; front = refl }, refl)

-- passing all that is pending, where no line feed is
pub pass_all : (told left : Option (List ℕ)) (size count : ℕ) (spill pending : List ℕ) → length pending ≤ count
    → count ≤ position_or_len is_line_feed pending → Partway told size spill pending left
    → Partway told (size + count) (take 8192 (spill ++ take count pending)) [] left
pass_all told left size count spill pending all within partway =
    let P : List ℕ → Type 0 = λ l. Partway told (size + count) (take 8192 (spill ++ take count pending)) l left in
    subst P (drop_all count pending all) (keep_step told left size count spill pending within partway)

-- a take that gave nothing was asked at the end
pub none_left : (left : Option (List ℕ)) (count : ℕ) (buf : List ℕ) → count ≡ 0 → IfSome left (λ l. Given count l buf)
    → IfSome left (λ l. l ≡ [])
none_left None count buf none given = tt
none_left (Some rest) count buf none given = given.ends none

-- a take leaves the length of the whole input
pub input_step : (left left' : Option (List ℕ)) (count taken taken' : ℕ) (buf : List ℕ) → IfSome left (λ l. Given count l buf)
    → left' ≡ left_after count left → taken' ≡ taken + count → input_length taken' left' ≡ input_length taken left
input_step None left' count taken taken' buf given is sum = ap (λ l. input_length taken' l) is
input_step (Some rest) left' count taken taken' buf given is sum =
    ap (λ l. input_length taken' l) is
    ∙ ap Some (omega (arith, sum, length-drop count rest, given.within))

-- nothing is left behind nothing pending where the input has ended
pub nothing_left : (left left' : Option (List ℕ)) (pending : List ℕ) → pending ≡ [] → IfSome left (λ l. l ≡ []) → left' ≡ left_after 0 left
    → IfSome (in_front_of pending left') (λ bytes. bytes ≡ [])
nothing_left None left' pending empty none is = subst (λ o. IfSome (in_front_of pending o) (λ bytes. bytes ≡ [])) (sym is) tt
nothing_left (Some rest) left' pending empty none is = subst (λ o. IfSome (in_front_of pending o) (λ bytes. bytes ≡ [])) (sym is)
    (ap (λ l. l ++ rest) empty ∙ none)

-- a count that is one more than a later one has risen
pub counted_rises : (old mid new : ℕ) → old ≤ mid → new ≡ counted mid → HasGrown old new
counted_rises old mid new later is = elim (cases_lt mid (2 ^ 64 - 1)) [
  | inl below ↦ inl (omega (arith, later, is ∙ ap (λ b. cond b (mid + 1) mid) (lt-ltb mid (2 ^ 64 - 1) below)))
  | inr last ↦ inr (omega (
    arith,
    last,
    is ∙ ap (λ b. cond b (mid + 1) mid)
        (false_from_ne_true (ltb mid (2 ^ 64 - 1)) (λ (is : ltb mid (2 ^ 64 - 1) ≡ true). absurd
        (omega (arith, last, ltb-true mid (2 ^ 64 - 1) is)))),
  ))
]
