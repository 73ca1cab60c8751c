-- The first of the unread lines, whether it is pending or was put together.
use Rattle.std.proofs.Common.{◌≡◌, ◌≢◌, ℕ, ◌+◌, ◌≤◌, ◌<◌, List, [], ◌∷◌, ◌++◌, Option, None, Some, IfSome, Contains, length, take, drop}
use Rattle.std.proofs.Common.{get_or, subst, cond, true, ltb, refl, ap, sym, inl, inr, ◌∙◌, arith, length-append}
use Rattle.std.specs.List.{position_or_len, before_first, after_first}
use Rattle.std.proofs.lemmas.List.{take_all, take-append-le, length-take, get_or-take}
use Rattle.std.proofs.lemmas.List.Sums.{fails_before_first, passes_at_first}
use Rattle.std.proofs.lemmas.Bool.{cases_lt, eqb-false, eqb-true, lt-ltb, ltb-true, false_from_ne_true}
use Rattle.chart_world.specs.Lines.{is_line_feed, without_return, text_of, lines}
use Rattle.chart_world.specs.Feed.{Gathered}
use Rattle.chart_world.specs.Reading.{in_front_of, behind_first, told_lines, with_first}
use Rattle.chart_world.specs.LineLaws.{lines_none, lines_first}
use Rattle.chart_world.proofs.Gathering.{found_rest, begins, position_in_front}

-- a line of more than 8,192 bytes says nothing
pub text_long : (line : List ℕ) → 8192 < length line → text_of line ≡ None
text_long line long = ap (λ b. cond b None (Some (without_return line))) (lt-ltb 8192 (length line) long)

pub text_short : (line : List ℕ) → length line ≤ 8192 → text_of line ≡ Some (without_return line)
text_short line short = ap (λ b. cond b None (Some (without_return line)))
    (false_from_ne_true (ltb 8192 (length line)) (λ (is : ltb 8192 (length line) ≡ true). absurd
    (omega (arith, ltb-true 8192 (length line) is))))

-- the lines of what is unread, told by its first line
pub first_of_told : (told told' : Option (List ℕ)) (text : Option (List ℕ))
    → IfSome told (λ bytes. (bytes ≢ []) × (text_of (before_first is_line_feed bytes) ≡ text)) → told' ≡ behind_first told
    → told_lines told ≡ with_first text (told_lines told')
first_of_told told told' text first behind = by told first ∙ ap (λ o. with_first text (told_lines o)) (sym behind)
  where
    by : (told : Option (List ℕ)) → IfSome told (λ bytes. (bytes ≢ []) × (text_of (before_first is_line_feed bytes) ≡ text))
        → told_lines told ≡ with_first text (told_lines (behind_first told))
    by None first = refl
    by (Some bytes) first = ap Some (lines_first bytes first.0 ∙ ap (λ t. t ∷ lines (after_first is_line_feed bytes)) first.1)

-- what is gathered says nothing where it is too long
pub gathered_long : (told told' : Option (List ℕ)) (size : ℕ) (spill : List ℕ) → 8192 < size
    → IfSome told (λ bytes. Gathered size spill bytes) → told' ≡ behind_first told → told_lines told ≡ with_first None (told_lines told')
gathered_long told told' size spill long line behind = first_of_told told told' None (by told line) behind
  where
    by : (told : Option (List ℕ)) → IfSome told (λ bytes. Gathered size spill bytes)
        → IfSome told (λ bytes. (bytes ≢ []) × (text_of (before_first is_line_feed bytes) ≡ None))
    by None line = tt
    by (Some bytes) line = (line.some, text_long (before_first is_line_feed bytes) (omega (arith, line.count, long)))

-- and is in the spill where it isn't
pub gathered_short : (told told' : Option (List ℕ)) (size : ℕ) (spill text : List ℕ) → size ≤ 8192 → text ≡ without_return spill
    → IfSome told (λ bytes. Gathered size spill bytes) → told' ≡ behind_first told
    → told_lines told ≡ with_first (Some text) (told_lines told')
gathered_short told told' size spill text short is line behind = first_of_told told told' (Some text) (by told line) behind
  where
    by : (told : Option (List ℕ)) → IfSome told (λ bytes. Gathered size spill bytes)
        → IfSome told (λ bytes. (bytes ≢ []) × (text_of (before_first is_line_feed bytes) ≡ Some text))
    by None line = tt
    by (Some bytes) line =
        let raw = before_first is_line_feed bytes in
        let within : length raw ≤ 8192 = omega (arith, line.count, short) in
        let whole : spill ≡ raw = line.front ∙ take_all 8192 raw within in
        (line.some, text_short raw within ∙ ap (λ l. Some (without_return l)) (sym whole) ∙ ap Some (sym is))

-- the first line is pending, up to its line feed
pub here_lines : (pending : List ℕ) (left told' : Option (List ℕ)) (before : ℕ) (text : Option (List ℕ))
    → before ≡ position_or_len is_line_feed pending → before < length pending → text_of (take before pending) ≡ text
    → told' ≡ behind_first (in_front_of pending left) → told_lines (in_front_of pending left) ≡ with_first text (told_lines told')
here_lines pending left told' before text place below says behind = first_of_told (in_front_of pending left) told' text (by left) behind
  where
    by : (left : Option (List ℕ)) → IfSome (in_front_of pending left) (λ bytes. (bytes ≢ [])
        × (text_of (before_first is_line_feed bytes) ≡ text))
    by None = tt
    by (Some rest) =
        let first : before_first is_line_feed (pending ++ rest) ≡ take before pending =
        ap (λ n. take n (pending ++ rest)) (position_in_front pending rest (omega arith) ∙ sym place)
        ∙ take-append-le before pending rest (omega arith) in
        (λ is. absurd (omega (arith, below, ap length is, length-append pending rest)), ap text_of first ∙ says)

-- what stands behind it
pub here_rest : (pending pending' : List ℕ) (left : Option (List ℕ)) (before : ℕ) → before ≡ position_or_len is_line_feed pending
    → before < length pending → pending' ≡ drop (before + 1) pending → in_front_of pending' left ≡ behind_first (in_front_of pending left)
here_rest pending pending' left before place below passed = ap (λ l. in_front_of l left) passed
    ∙ found_rest (in_front_of pending left) left 0 before [] pending place below (begins left pending)

-- no bytes have no lines
pub no_lines : (told : Option (List ℕ)) → IfSome told (λ bytes. bytes ≡ []) → IfSome (told_lines told) (λ later. later ≡ [])
no_lines None none = tt
no_lines (Some bytes) none = ap lines none ∙ lines_none

-- the first line feed stands among the first bytes where these have one
pub contains_early : (count : ℕ) (bytes : List ℕ) → Contains (take count bytes) 10
    → (position_or_len is_line_feed bytes < length bytes) × (position_or_len is_line_feed bytes < count)
contains_early count bytes (k, below, is) = elim (cases_lt k (position_or_len is_line_feed bytes)) [
  | inl early ↦ absurd (eqb-false (get_or bytes k 10) 10 (fails_before_first is_line_feed bytes k 10 early)
      (sym (get_or-take count bytes k 10 (omega (arith, length-take count bytes))) ∙ is))
  | inr late ↦ (omega (arith, length-take count bytes), omega (arith, length-take count bytes))
]

-- what holds of the value of an option
pub of_value : (P : ℕ → Type 0) (o : Option ℕ) (n : ℕ) → o ≡ Some n → IfSome o P → P n
of_value P None n is holds = absurd (cc (is))
of_value P (Some m) n is holds = let e : m ≡ n = cc (is) in subst P e holds

-- the first bytes have a line feed where the first of all stands among them
pub early_contains : (count : ℕ) (bytes : List ℕ) → position_or_len is_line_feed bytes < length bytes
    → position_or_len is_line_feed bytes < count → Contains (take count bytes) 10
early_contains count bytes here early =
    let at = position_or_len is_line_feed bytes in (
      at,
      omega (arith, here, early, length-take count bytes),
      get_or-take count bytes at 10 early ∙ eqb-true (get_or bytes at 10) 10 (passes_at_first is_line_feed bytes 10 here),
    )
