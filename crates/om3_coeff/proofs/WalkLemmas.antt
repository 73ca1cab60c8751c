use Rattle.std.proofs.Common.{ℕ, ℤ, ◌≡◌, ◌+◌, ◌-◌, ◌*◌, ◌^◌, ◌<◌, ◌≤◌, min, max, ◌⊎◌, inl, inr, List, length, refl, sym, ◌∙◌, ap, ap₂}
use Rattle.std.proofs.Common.{subst, arith, lit<}
use Rattle.std.proofs.Math.Nat.{pow-le-pow_right}
use Rattle.std.proofs.lemmas.Nat.{pow_pos}
use Rattle.std.proofs.lemmas.Bool.Decides.{nat_tests}
use Rattle.std.proofs.lemmas.Int.{to_z-of_z, fits_signed_from_abs}
use Rattle.std.proofs.lemmas.Option.{same_Some}
use Rattle.std.specs.Int.{w64, cast_signed, cast_unsigned}
use Rattle.std.specs.Prelude.{Option, Some, None, slice_get}
use Rattle.om3_coeff.specs.declared.key.Key.{Key}
use Rattle.om3_coeff.specs.declared.span.Span.{Span}
use Rattle.om3_coeff.specs.Keys.{first_slot, end_slot, left_of, right_of, height, top_key, IsKey, IsNode, IsAtOrAbove, IsOver}
use Rattle.om3_coeff.specs.Spans.{IsProperIfAny, AreExtremes, IsSpanOf, hull, span_of_slot, span_over, span}
use Rattle.whole_number.specs.Range.{IsValue}
use Rattle.om3_coeff.specs.Known.{known}
use Rattle.om3_coeff.specs.View.{NodesView, Agrees, known_of, StaysSame, MayAsk}
use Rattle.om3_coeff.specs.declared.places.Place.TheVariants.{Outside, Within, Cut}
use Rattle.om3_coeff.specs.Walks.{IsPlace, IsReached, cut_keys, most_cut, StaysBelow}
use Rattle.om3_coeff.proofs.SpanLemmas.{hull-none, span_over-both, span_over-none, span_at, get_some}
use Rattle.om3_coeff.proofs.ExtremeLemmas.{span_over_is, none-clear, clear-none}
use Rattle.om3_coeff.proofs.KeyLemmas.{by_lt, height_few, height_covers, end_within, left_first, right_end, left_some, right_some}
use Rattle.om3_coeff.proofs.KeyLemmas.{left_parent, right_parent, above_itself, parent_above, above_on}
use Rattle.om3_coeff.proofs.KnownLemmas.{known_top, reached_span}

-- the ranges of a tree's keys end far below 2^63
pub key_small : (n : ℕ) (k : Key) → IsKey (height n) k → end_slot k < 2 ^ 63
key_small n k key =
    omega (arith, end_within (height n) k key.high key.within, pow-le-pow_right {n = 2} (lit< tt) {i = height n} {j = 35} (height_few n))

-- a value as the code holds it
pub same_value : (z : ℤ) → IsValue z → cast_signed w64 (cast_unsigned w64 z) ≡ z
same_value z h = to_z-of_z w64 z (fits_signed_from_abs w64 z (omega (arith, h)))

-- what asks keep keeps what a walk has come to
known_same : (old new : NodesView) (k : Key) → StaysSame old new → new.told ≡ old.told → known_of new k ≡ known_of old k
known_same old new k same told =
    ap (λ n. known new.root new.told (height n) k) same.slots
    ∙ ap (λ told. known new.root told (height old.slots) k) told
    ∙ ap (λ root. known root old.told (height old.slots) k) same.root

key_still : (old new : NodesView) (k : Key) → StaysSame old new → IsKey (height old.slots) k → IsKey (height new.slots) k
key_still old new k same key = let P : ℕ → Type 0 = λ n. IsKey (height n) k in subst P (sym same.slots) key

pub still_reached : (old new : NodesView) (k : Key) (s : Option Span) → StaysSame old new → IsReached old k s → IsReached new k s
still_reached old new k s same reached = record {
  key = key_still old new k same reached.key;
  proper = reached.proper;
  known = λ tells. known_same old new k same (same.told (same.has_told tells)) ∙ reached.known (same.has_told tells);
}

pub still_agrees : (old new : NodesView) (list : List (Option ℤ)) → StaysSame old new → Agrees old list → Agrees new list
still_agrees old new list same agrees = record {
  values = agrees.values;
  few = agrees.few;
  slots = same.slots ∙ agrees.slots;
  root = same.root ∙ agrees.root;
  tells = same.tells agrees.tells;
  told = λ k node some concerns. ap (λ told. told k) (same.told agrees.tells) ∙ agrees.told k node some concerns;
}

-- tree order
pub over_weaker : (u w : Key) (last : Option Key) → IsAtOrAbove u w → IsOver w last → IsOver u last
over_weaker u w None above over = over
over_weaker u w (Some k) above over = above_on u w k above over

left_below : (k : Key) → 1 ≤ k.level → IsAtOrAbove k (left_of k)
left_below k low = let P : Key → Type 0 = λ p. IsAtOrAbove p (left_of k) in subst P (left_parent k low) (parent_above (left_of k))

right_below : (k : Key) → 1 ≤ k.level → IsAtOrAbove k (right_of k)
right_below k low = let P : Key → Type 0 = λ p. IsAtOrAbove p (right_of k) in subst P (right_parent k low) (parent_above (right_of k))

over_asked : (k : Key) (last : Option Key) → last ≡ Some k → IsOver k last
over_asked k last e = let P : Option Key → Type 0 = λ last. IsOver k last in subst P (sym e) (above_itself k)

-- after the walk below one half
stays_over : (k half : Key) (before now : Option Key) → IsAtOrAbove k half → IsOver k before → StaysBelow half before now → IsOver k now
stays_over k half before now above over (inl same) = let P : Option Key → Type 0 = λ last. IsOver k last in subst P (sym same) over
stays_over k half before now above over (inr below) = over_weaker k half now above below

pub ask_left : (view : NodesView) (k : Key) → 1 ≤ k.level → view.asked ≡ Some k → MayAsk view (left_of k)
ask_left view k low asked =
    let P : Key → Type 0 = λ p. IsOver p view.asked in inr (subst P (sym (left_parent k low)) (over_asked k view.asked asked))

pub ask_right : (view : NodesView) (k : Key) → 1 ≤ k.level → view.asked ≡ Some k → MayAsk view (right_of k)
ask_right view k low asked =
    let P : Key → Type 0 = λ p. IsOver p view.asked in inr (subst P (sym (right_parent k low)) (over_asked k view.asked asked))

pub after_left : (k : Key) (first second : Option Key) → 1 ≤ k.level → first ≡ Some k → StaysBelow (left_of k) first second
    → IsOver k second
after_left k first second low asked below = stays_over k (left_of k) first second (left_below k low) (over_asked k first asked) below

pub after_right : (k : Key) (first second : Option Key) → 1 ≤ k.level → first ≡ Some k → StaysBelow (right_of k) first second
    → IsOver k second
after_right k first second low asked below = stays_over k (right_of k) first second (right_below k low) (over_asked k first asked) below

pub right_follows : (view : NodesView) (k : Key) (first : Option Key) → 1 ≤ k.level → first ≡ Some k
    → StaysBelow (left_of k) first view.asked → MayAsk view (right_of k)
right_follows view k first low asked below =
    let P : Key → Type 0 = λ p. IsOver p view.asked in
    inr (subst P (sym (right_parent k low)) (after_left k first view.asked low asked below))

pub left_follows : (view : NodesView) (k : Key) (first : Option Key) → 1 ≤ k.level → first ≡ Some k
    → StaysBelow (right_of k) first view.asked → MayAsk view (left_of k)
left_follows view k first low asked below =
    let P : Key → Type 0 = λ p. IsOver p view.asked in
    inr (subst P (sym (left_parent k low)) (after_right k first view.asked low asked below))

pub both_below : (k : Key) (last first second third : Option Key) → 1 ≤ k.level → first ≡ Some k → StaysBelow (left_of k) first second
    → StaysBelow (right_of k) second third → StaysBelow k last third
both_below k last first second third low asked left right =
    inr (stays_over k (right_of k) second third (right_below k low) (after_left k first second low asked left) right)

pub both_below_back : (k : Key) (last first second third : Option Key) → 1 ≤ k.level → first ≡ Some k → StaysBelow (right_of k) first second
    → StaysBelow (left_of k) second third → StaysBelow k last third
both_below_back k last first second third low asked right left =
    inr (stays_over k (left_of k) second third (left_below k low) (after_right k first second low asked right) left)

-- a part of a range without a span has none
pub none_within : (list : List (Option ℤ)) (a b c d : ℕ) → span_over list a b ≡ None → a ≤ c → d ≤ b → span_over list c d ≡ None
none_within list a b c d none from to =
    clear-none list c d (λ i v low high h. none-clear list a b none i v (omega arith) (omega arith) h)

-- one slot has one value
one_value : (list : List (Option ℤ)) (i : ℕ) (s : Span) → AreExtremes list i (i + 1) s → s.min ≡ s.max
one_value list i s h =
    let least : h.least.slot ≡ i = omega (arith, h.least.low, h.least.high) in
    let greatest : h.greatest.slot ≡ i = omega (arith, h.greatest.low, h.greatest.high) in
    same_Some s.min s.max (same_Some (Some s.min) (Some s.max)
    (sym h.least.holds ∙ ap (slice_get list) (least ∙ sym greatest) ∙ h.greatest.holds))

slot_extremes : (list : List (Option ℤ)) (i : ℕ) (s : Span) → Some s ≡ span_over list i (i + 1) → AreExtremes list i (i + 1) s
slot_extremes list i s is = let P : Option Span → Type 0 = λ s. IsSpanOf list i (i + 1) s in subst P (sym is) (span_over_is list i (i + 1))

pub slot_span : (list : List (Option ℤ)) (i : ℕ) (s : Span) → Some s ≡ span_over list i (i + 1)
    → span_of_slot (Some s.min) ≡ span_over list i (i + 1)
slot_span list i s is =
    ap (λ max. Some (let t : Span = record { min = s.min; max = max } in t)) (one_value list i s (slot_extremes list i s is)) ∙ is

-- a key of level 0 is its slot
pub slot_of : (k : Key) (i : ℕ) → k.level ≡ 0 → first_slot k ≤ i → i < end_slot k → k.index ≡ i
slot_of k i at_zero from to =
    let width : 2 ^ k.level ≡ 1 = ap (λ n. 2 ^ n) at_zero in
    omega (arith, ap (λ n. k.index * n) width, ap (λ n. (k.index + 1) * n) width)

pub slot_range : (list : List (Option ℤ)) (k : Key) → k.level ≡ 0 → span list k ≡ span_over list k.index (k.index + 1)
slot_range list k at_zero =
    let width : 2 ^ k.level ≡ 1 = ap (λ n. 2 ^ n) at_zero in
    let one : k.index * 1 ≡ k.index = omega arith in
    let next : (k.index + 1) * 1 ≡ k.index + 1 = omega arith in
    ap₂ (span_over list) (ap (λ n. k.index * n) width ∙ one) (ap (λ n. (k.index + 1) * n) width ∙ next)

-- value_at
pub value_none : (view : NodesView) (list : List (Option ℤ)) (k : Key) (s : Option Span) (i : ℕ) → Agrees view list → IsReached view k s
    → s ≡ None → first_slot k ≤ i → i < end_slot k
    → ◌≡◌ {A = Option Span} None (span_over list i (i + 1))
value_none view list k s i agrees reached none from to =
    sym (none_within list (first_slot k) (end_slot k) i (i + 1) (sym (reached_span view list k s agrees reached) ∙ none) from (omega arith))

pub value_here : (view : NodesView) (list : List (Option ℤ)) (k : Key) (s : Span) (i : ℕ) → Agrees view list → IsReached view k (Some s)
    → k.level ≡ 0 → first_slot k ≤ i → i < end_slot k
    → span_of_slot (Some s.min) ≡ span_over list i (i + 1)
value_here view list k s i agrees reached at_zero from to =
    let P : ℕ → Type 0 = λ i. span_of_slot (Some s.min) ≡ span_over list i (i + 1) in
    subst P (slot_of k i at_zero from to) (slot_span list k.index s (reached_span view list k (Some s) agrees reached
    ∙ slot_range list k at_zero))

-- the value of a slot by its span
same_slot : (x y : Option ℤ) → span_of_slot x ≡ span_of_slot y → x ≡ y
same_slot None None e = refl
same_slot None (Some v) e = absurd (cc)
same_slot (Some u) None e = absurd (cc)
same_slot (Some u) (Some v) e = ap (λ v. Some v) (ap (λ s. s.min) (same_Some _ _ e))

-- the step to a half, by the key that the code has for it
pub go_to : (old new : NodesView) (half k : Key) (s : Option Span) → half ≡ k → StaysSame old new → IsReached old k s → IsReached new half s
go_to old new half k s is same reached =
    let P : Key → Type 0 = λ k. IsReached new k s in subst P (sym is) (still_reached old new k s same reached)

pub ask_at : (view : NodesView) (half k : Key) → half ≡ k → MayAsk view k → MayAsk view half
ask_at view half k is may = let P : Key → Type 0 = λ k. MayAsk view k in subst P (sym is) may

pub left_from : (k half : Key) (i : ℕ) → half ≡ left_of k → 1 ≤ k.level → first_slot k ≤ i → first_slot half ≤ i
left_from k half i is low from = omega (arith, ap first_slot is, left_first k low, from)

pub left_to : (k half second : Key) (i first : ℕ) → half ≡ left_of k → second ≡ right_of k → first ≡ first_slot second → i < first
    → i < end_slot half
left_to k half second i first is next e to = omega (arith, ap end_slot is, ap first_slot next, e, to)

pub right_from : (second : Key) (i first : ℕ) → first ≡ first_slot second → first ≤ i → first_slot second ≤ i
right_from second i first e from = omega (arith, e, from)

pub right_to : (k half : Key) (i : ℕ) → half ≡ right_of k → 1 ≤ k.level → i < end_slot k → i < end_slot half
right_to k half i is low to = omega (arith, ap end_slot is, right_end k low, to)

pub right_small : (n : ℕ) (k half : Key) → IsKey (height n) k → 1 ≤ k.level → half ≡ right_of k → end_slot half < 2 ^ 63
right_small n k half key low is = omega (arith, ap end_slot is, right_end k low, key_small n k key)

pub value_code : (list : List (Option ℤ)) (z : ℤ) (i : ℕ) → IsValue z → span_of_slot (Some z) ≡ span_over list i (i + 1)
    → span_of_slot (Some (cast_signed w64 (cast_unsigned w64 z))) ≡ span_over list i (i + 1)
value_code list z i value h = ap (λ z. span_of_slot (Some z)) (same_value z value) ∙ h

-- a key that an end of the range cuts has halves
cut_slots : (a b first end : ℕ) → end ≡ first + 1 → a < end → first < b → (first < a) ⊎ (b < end) → ⊥
cut_slots a b first end one from to (inl cut) = omega arith
cut_slots a b first end one from to (inr cut) = omega arith

slot_width : (k : Key) → k.level ≡ 0 → end_slot k ≡ first_slot k + 1
slot_width k at_zero =
    let width : 2 ^ k.level ≡ 1 = ap (λ n. 2 ^ n) at_zero in omega (arith, ap (λ n. k.index * n) width, ap (λ n. (k.index + 1) * n) width)

pub cut_low : (a b : ℕ) (k : Key) → IsPlace a b k Cut → 1 ≤ k.level
cut_low a b k place =
    by_lt 0 k.level (λ low. low) (λ high. absurd (cut_slots a b (first_slot k) (end_slot k)
    (slot_width k (omega arith)) place.0 place.1 place.2))

-- how many keys are cut, by those in the two halves
cut_halves : (a b first middle end level : ℕ) → first < middle → middle < end → a < end → first < b → (first < a) ⊎ (b < end)
    → 1 + cut_keys a b first middle level + cut_keys a b middle end level ≤ cut_keys a b first end (level + 1)
unfolding cut_keys
cut_halves a b first middle end level low high from to (inl cut) = grind (arith, nat_tests)
cut_halves a b first middle end level low high from to (inr cut) = grind (arith, nat_tests)

pub cut_counts : (a b : ℕ) (k : Key) → IsPlace a b k Cut → 1 + most_cut a b (left_of k) + most_cut a b (right_of k) ≤ most_cut a b k
cut_counts a b k place =
    let low : 1 ≤ k.level = cut_low a b k place in
    let up : k.level - 1 + 1 ≡ k.level = omega arith in
    let left : most_cut a b (left_of k) ≡ cut_keys a b (first_slot k) (end_slot (left_of k)) (k.level - 1) =
    ap (λ first. cut_keys a b first (end_slot (left_of k)) (k.level - 1)) (left_first k low) in
    let right : most_cut a b (right_of k) ≡ cut_keys a b (end_slot (left_of k)) (end_slot k) (k.level - 1) =
    ap (λ end. cut_keys a b (end_slot (left_of k)) end (k.level - 1)) (right_end k low) in
    let whole : cut_keys a b (first_slot k) (end_slot k) (k.level - 1 + 1) ≡ most_cut a b k =
    ap (cut_keys a b (first_slot k) (end_slot k)) up in
    omega (
      arith,
      left,
      right,
      whole,
      cut_halves a b (first_slot k) (end_slot (left_of k)) (end_slot k) (k.level - 1) (left_some k low)
          (right_some k low) place.0 place.1 place.2,
    )

-- the reads of a walk below a cut key
pub cut_reads : (a b : ℕ) (k left right : Key) (before asked first second : ℕ) → IsPlace a b k Cut → left ≡ left_of k → right ≡ right_of k
    → asked ≤ before + 1 → first ≤ asked + most_cut a b left → second ≤ first + most_cut a b right → second ≤ before + most_cut a b k
cut_reads a b k left right before asked first second place l r one low high =
    omega (arith, cut_counts a b k place, ap (most_cut a b) l, ap (most_cut a b) r, one, low, high)

pub cut_reads_once : (a b : ℕ) (k : Key) (before asked : ℕ) → IsPlace a b k Cut → asked ≤ before + 1 → asked ≤ before + most_cut a b k
cut_reads_once a b k before asked place one = omega (arith, cut_counts a b k place, one)

pub cut_reads_twice : (a b : ℕ) (k left : Key) (before asked first : ℕ) → IsPlace a b k Cut → left ≡ left_of k
    → asked ≤ before + 1 → first ≤ asked + most_cut a b left → first ≤ before + most_cut a b k
cut_reads_twice a b k left before asked first place l one low = omega (arith, cut_counts a b k place, ap (most_cut a b) l, one, low)

-- the span of the slots of a walk that lie in a key's range
pub list_none : (view : NodesView) (list : List (Option ℤ)) (k : Key) (s : Option Span) (a b : ℕ) → Agrees view list → IsReached view k s
    → s ≡ None
    → ◌≡◌ {A = Option Span} None (span_over list (max a (first_slot k)) (min b (end_slot k)))
list_none view list k s a b agrees reached none =
    sym (none_within list (first_slot k) (end_slot k) (max a (first_slot k)) (min b (end_slot k))
    (sym (reached_span view list k s agrees reached) ∙ none) (omega arith) (omega arith))

outside_empty : (a b first end : ℕ) → (end ≤ a) ⊎ (b ≤ first) → min b end ≤ max a first
outside_empty a b first end (inl h) = omega arith
outside_empty a b first end (inr h) = omega arith

pub list_outside : (list : List (Option ℤ)) (a b : ℕ) (k : Key) → IsPlace a b k Outside
    → ◌≡◌ {A = Option Span} None (span_over list (max a (first_slot k)) (min b (end_slot k)))
list_outside list a b k place =
    sym (span_over-none list (max a (first_slot k)) (min b (end_slot k)) (outside_empty a b (first_slot k) (end_slot k) place))

pub list_within : (view : NodesView) (list : List (Option ℤ)) (k : Key) (s : Option Span) (t : Span) (a b : ℕ) → Agrees view list
    → IsReached view k s → s ≡ Some t → IsPlace a b k Within
    → Some t ≡ span_over list (max a (first_slot k)) (min b (end_slot k))
list_within view list k s t a b agrees reached is place =
    let from : first_slot k ≡ max a (first_slot k) = omega (arith, place.0) in
    let to : end_slot k ≡ min b (end_slot k) = omega (arith, place.1) in
    sym is ∙ reached_span view list k s agrees reached ∙ ap₂ (span_over list) from to

cut_span : (list : List (Option ℤ)) (a b first middle end : ℕ) → first < middle → middle < end → a < end → first < b
    → hull (span_over list (max a first) (min b middle)) (span_over list (max a middle) (min b end)) ≡ span_over list (max a first)
    (min b end)
cut_span list a b first middle end low high from to =
    by_lt a middle
    (λ left.
    by_lt middle b
    (λ right.
    let here : max a middle ≡ middle = omega arith in
    let there : min b middle ≡ middle = omega arith in
    ap₂ (λ (x y : ℕ). hull (span_over list (max a first) x) (span_over list y (min b end))) there here
    ∙ sym (span_over-both list (max a first) middle (min b end) (omega arith) (omega arith)))
    (λ none.
    let empty : span_over list (max a middle) (min b end) ≡ None = span_over-none list (max a middle) (min b end) (omega arith) in
    let same : min b middle ≡ min b end = omega arith in
    ap₂ (λ (x : ℕ) (y : Option Span). hull (span_over list (max a first) x) y) same empty
    ∙ hull-none (span_over list (max a first) (min b end))))
    (λ none.
    let empty : span_over list (max a first) (min b middle) ≡ None = span_over-none list (max a first) (min b middle) (omega arith) in
    let same : max a middle ≡ max a first = omega arith in
    ap₂ (λ (x : Option Span) (y : ℕ). hull x (span_over list y (min b end))) empty same)

pub list_cut : (list : List (Option ℤ)) (a b : ℕ) (k left right : Key) (x y : Option Span) → IsPlace a b k Cut → left ≡ left_of k
    → right ≡ right_of k
    → x ≡ span_over list (max a (first_slot left)) (min b (end_slot left))
    → y ≡ span_over list (max a (first_slot right)) (min b (end_slot right))
    → hull x y ≡ span_over list (max a (first_slot k)) (min b (end_slot k))
list_cut list a b k left right x y place l r ex ey =
    let low : 1 ≤ k.level = cut_low a b k place in
    let from : first_slot left ≡ first_slot k = ap first_slot l ∙ left_first k low in
    let middle : end_slot left ≡ end_slot (left_of k) = ap end_slot l in
    let again : first_slot right ≡ end_slot (left_of k) = ap first_slot r in
    let to : end_slot right ≡ end_slot k = ap end_slot r ∙ right_end k low in
    ap₂ hull
    (ex ∙ ap₂ (λ (f e : ℕ). span_over list (max a f) (min b e)) from middle)
    (ey ∙ ap₂ (λ (f e : ℕ). span_over list (max a f) (min b e)) again to)
    ∙ cut_span list a b (first_slot k) (end_slot (left_of k)) (end_slot k) (left_some k low) (right_some k low) place.0 place.1

-- the same for the keys that the code has for the halves
pub both_below_at : (k left right : Key) (last first second third : Option Key) → 1 ≤ k.level → left ≡ left_of k → right ≡ right_of k
    → first ≡ Some k → StaysBelow left first second → StaysBelow right second third → StaysBelow k last third
both_below_at k left right last first second third low l r asked below after =
    let P : Key → Type 0 = λ h. StaysBelow h first second in
    let Q : Key → Type 0 = λ h. StaysBelow h second third in
    both_below k last first second third low asked (subst P l below) (subst Q r after)

pub both_below_back_at : (k left right : Key) (last first second third : Option Key) → 1 ≤ k.level → left ≡ left_of k → right ≡ right_of k
    → first ≡ Some k → StaysBelow right first second → StaysBelow left second third → StaysBelow k last third
both_below_back_at k left right last first second third low l r asked below after =
    let P : Key → Type 0 = λ h. StaysBelow h first second in
    let Q : Key → Type 0 = λ h. StaysBelow h second third in
    both_below_back k last first second third low asked (subst P r below) (subst Q l after)

pub right_follows_at : (view : NodesView) (k left right : Key) (first : Option Key) → 1 ≤ k.level → left ≡ left_of k → right ≡ right_of k
    → first ≡ Some k → StaysBelow left first view.asked → MayAsk view right
right_follows_at view k left right first low l r asked below =
    let P : Key → Type 0 = λ h. StaysBelow h first view.asked in
    ask_at view right (right_of k) r (right_follows view k first low asked (subst P l below))

pub left_follows_at : (view : NodesView) (k left right : Key) (first : Option Key) → 1 ≤ k.level → left ≡ left_of k → right ≡ right_of k
    → first ≡ Some k → StaysBelow right first view.asked → MayAsk view left
left_follows_at view k left right first low l r asked below =
    let P : Key → Type 0 = λ h. StaysBelow h first view.asked in
    ask_at view left (left_of k) l (left_follows view k first low asked (subst P r below))

-- the walk begins at the top
pub at_top : (view : NodesView) (top : Key) (s : Option Span) (n : ℕ) → n ≡ view.slots → s ≡ view.root → IsProperIfAny s → top ≡ top_key n
    → IsReached view top s
at_top view top s n slots root proper is =
    let P : Key → Type 0 = λ k. IsReached view k s in
    let e : top ≡ top_key view.slots = is ∙ ap top_key slots in
    subst P (sym e) (record {
      key = record { high = omega arith; within = pow_pos (height view.slots - height view.slots) };
      proper = proper;
      known = λ tells. known_top view.root view.told view.slots ∙ ap (λ s. Some s) (sym root);
    })

pub top_first : (n : ℕ) → first_slot (top_key n) ≡ 0
top_first n = omega arith

pub top_end : (n : ℕ) → end_slot (top_key n) ≡ 2 ^ height n
top_end n = omega arith

-- a list's span over a range within it, by what the walk from the top gives
pub whole_list : (list : List (Option ℤ)) (a b n m : ℕ) (top : Key) (s : Option Span) → n ≡ m → top ≡ top_key n → m ≤ 2 ^ 35 → b ≤ m
    → s ≡ span_over list (max a (first_slot top)) (min b (end_slot top)) → s ≡ span_over list a b
whole_list list a b n m top s slots is few within e =
    let first : first_slot top ≡ 0 = ap first_slot is ∙ top_first n in
    let end : end_slot top ≡ 2 ^ height n = ap end_slot is ∙ top_end n in
    let fits : n ≤ 2 ^ height n = height_covers n (omega arith) in
    let from : max a (first_slot top) ≡ a = omega arith in
    let to : min b (end_slot top) ≡ b = omega arith in
    e ∙ ap₂ (span_over list) from to

-- a walk over a range cuts at most two keys a level
cut_most : (a b first end level : ℕ) → cut_keys a b first end level ≤ 2 * level
unfolding cut_keys
cut_most a b first end level = grind (arith, nat_tests)

pub top_reads : (a b n m : ℕ) (top : Key) → n ≡ m → top ≡ top_key n → most_cut a b top ≤ 2 * height m
top_reads a b n m top slots is =
    omega (arith, cut_most a b (first_slot top) (end_slot top) top.level, ap (λ k. 2 * k.level) is, ap (λ n. 2 * height n) slots)

pub value_list : (list : List (Option ℤ)) (i : ℕ) (v : Option ℤ) → i < length list → span_of_slot v ≡ span_over list i (i + 1)
    → slice_get list i ≡ Some v
value_list list i v within e =
    let x : (x : Option ℤ) × (slice_get list i ≡ Some x) = get_some list i within in
    x.1 ∙ ap (λ x. Some x) (sym (same_slot v x.0 (e ∙ span_at list i x.0 x.1)))

pub top_holds : (i n m : ℕ) (top : Key) → n ≡ m → top ≡ top_key n → n ≤ 2 ^ 35 → i < m → i < end_slot top
top_holds i n m top slots is few within =
    omega (arith, ap end_slot is, top_end n, height_covers n few)

pub node_key : (top : ℕ) (k : Key) → IsNode top k → IsKey top k
node_key top k node = record { high = node.high; within = node.within }

pub left_small : (n : ℕ) (k half : Key) → IsKey (height n) k → 1 ≤ k.level → half ≡ left_of k → end_slot half < 2 ^ 63
left_small n k half key low is = omega (arith, ap end_slot is, right_some k low, key_small n k key)
