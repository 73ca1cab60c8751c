use Rattle.std.proofs.Common.{ℕ, ℤ, ◌≡◌, ◌+◌, ◌-◌, ◌*◌, ◌^◌, ◌<◌, ◌≤◌, min, max, inl, inr, List, refl, sym, ◌∙◌, ap, subst, subst₂, arith}
use Rattle.std.proofs.lemmas.Nat.{pow_pos}
use Rattle.std.proofs.lemmas.Bool.Decides.{nat_tests}
use Rattle.std.specs.Int.{w64, cast_signed, cast_unsigned}
use Rattle.std.specs.Prelude.{Option, Some, None, IfSome, IfNone, IsSome, Result, Ok, Err, IfOk, slice_get}
use Rattle.om3_coeff.specs.declared.key.Key.{Key}
use Rattle.om3_coeff.specs.declared.span.Span.{Span}
use Rattle.om3_coeff.specs.declared.places.Place.{Place}
use Rattle.om3_coeff.specs.declared.places.Place.TheVariants.{Outside, Within, Cut}
use Rattle.om3_coeff.specs.Keys.{first_slot, end_slot, left_of, right_of, height, top_key}
use Rattle.om3_coeff.specs.Spans.{IsProper, IsProperIfAny, Holds, IsClear, AreExtremes, IsSpanOf, hull, span_over}
use Rattle.whole_number.specs.Range.{IsValue}
use Rattle.om3_coeff.specs.View.{NodesView, Agrees}
use Rattle.om3_coeff.specs.Walks.{IsPlace, IsReached, IsFirstStored, IsLastStored, IsSlotIn, cut_keys, most_cut}
use Rattle.om3_coeff.proofs.ExtremeLemmas.{span_over_is, none-clear}
use Rattle.om3_coeff.proofs.KeyLemmas.{by_lt, left_first, right_end, left_some, right_some, height_covers}
use Rattle.om3_coeff.proofs.KnownLemmas.{reached_span}
use Rattle.om3_coeff.proofs.WalkLemmas.{same_value, slot_range, cut_counts, list_none, list_outside, top_first, top_end, top_reads}

-- two facts of what a call answered
pub ok_both : {X Y : Type 0} (r : Result X Y) (P Q R : X → Type 0) → ((x : X) → P x → Q x → R x) → IfOk r P → IfOk r Q → IfOk r R
ok_both (Ok x) P Q R both p q = both x p q
ok_both (Err e) P Q R both p q = tt

-- a key that isn't outside meets the slots
pub meets : (a b : ℕ) (k : Key) (place : Place) → (place ≡ Outside → ⊥) → IsPlace a b k place → first_slot k < end_slot k
    → (a < end_slot k) × (first_slot k < b)
meets a b k Outside inside h some = absurd (inside refl)
meets a b k Within inside h some = (omega (arith, h.0, some), omega (arith, h.1, some))
meets a b k Cut inside h some = (h.0, h.1)

pub has_slots : (k : Key) → first_slot k < end_slot k
has_slots k = omega (arith, pow_pos k.level)

-- a key without a span, and one outside
pub clear_none : (view : NodesView) (list : List (Option ℤ)) (k : Key) (s : Option Span) (a b : ℕ) → Agrees view list → IsReached view k s
    → s ≡ None
    → IsClear list (max a (first_slot k)) (min b (end_slot k))
clear_none view list k s a b agrees reached none =
    none-clear list (max a (first_slot k)) (min b (end_slot k)) (sym (list_none view list k s a b agrees reached none))

pub clear_outside : (list : List (Option ℤ)) (a b : ℕ) (k : Key) → IsPlace a b k Outside
    → IsClear list (max a (first_slot k)) (min b (end_slot k))
clear_outside list a b k place = none-clear list (max a (first_slot k)) (min b (end_slot k)) (sym (list_outside list a b k place))

pub not_within : (a b : ℕ) (k : Key) → IsPlace a b k Outside → a ≤ first_slot k → end_slot k ≤ b → ⊥
not_within a b k (inl before) from to = omega (arith, before, from, to, has_slots k)
not_within a b k (inr behind) from to = omega (arith, behind, from, to, has_slots k)

-- a slot with a value
pub record IsHere (a b : ℕ) (k : Key) : Type 0 where
  pub first : first_slot k ≡ k.index
  pub end : end_slot k ≡ k.index + 1
  pub from : max a (first_slot k) ≤ k.index
  pub to : k.index < min b (end_slot k)

pub is_here : (a b : ℕ) (k : Key) (place : Place) → k.level ≡ 0 → (place ≡ Outside → ⊥) → IsPlace a b k place → IsHere a b k
is_here a b k place at_zero inside h =
    let m : (a < end_slot k) × (first_slot k < b) = meets a b k place inside h (has_slots k) in
    let width : 2 ^ k.level ≡ 1 = ap (λ n. 2 ^ n) at_zero in
    let first : first_slot k ≡ k.index = omega (arith, ap (λ n. k.index * n) width) in
    let end : end_slot k ≡ k.index + 1 = omega (arith, ap (λ n. (k.index + 1) * n) width) in
    record { first = first; end = end; from = omega (arith, m.0, first, end); to = omega (arith, m.1, first, end) }

extremes_here : (view : NodesView) (list : List (Option ℤ)) (k : Key) (s : Option Span) (t : Span) → Agrees view list → IsReached view k s
    → s ≡ Some t → k.level ≡ 0
    → AreExtremes list k.index (k.index + 1) t
extremes_here view list k s t agrees reached is at_zero =
    let e : Some t ≡ span_over list k.index (k.index + 1) = sym is ∙ reached_span view list k s agrees reached
    ∙ slot_range list k at_zero in
    let P : Option Span → Type 0 = λ s. IsSpanOf list k.index (k.index + 1) s in subst P (sym e) (span_over_is list k.index (k.index + 1))

least_here : (list : List (Option ℤ)) (i : ℕ) (t : Span) → AreExtremes list i (i + 1) t → Holds list i t.min
least_here list i t h =
    let at : h.least.slot ≡ i = omega (arith, h.least.low, h.least.high) in ap (slice_get list) (sym at) ∙ h.least.holds

proper_some : (s : Option Span) (t : Span) → s ≡ Some t → IsProperIfAny s → IsProper t
proper_some s t is h = let P : Option Span → Type 0 = λ s. IsProperIfAny s in subst P is h

pub holds_here : (view : NodesView) (list : List (Option ℤ)) (k : Key) (s : Option Span) (t : Span) → Agrees view list → IsReached view k s
    → s ≡ Some t → k.level ≡ 0
    → Holds list k.index (cast_signed w64 (cast_unsigned w64 t.min))
holds_here view list k s t agrees reached is at_zero =
    least_here list k.index t (extremes_here view list k s t agrees reached is at_zero)
    ∙ ap (λ v. Some (Some v)) (sym (same_value t.min (proper_some s t is reached.proper).low))

pub first_here : (view : NodesView) (list : List (Option ℤ)) (k : Key) (s : Option Span) (t : Span) (a b : ℕ) → Agrees view list
    → IsReached view k s → s ≡ Some t → k.level ≡ 0 → IsHere a b k
    → IsFirstStored list (max a (first_slot k)) (min b (end_slot k)) (Some (k.index, cast_signed w64 (cast_unsigned w64 t.min)))
first_here view list k s t a b agrees reached is at_zero here =
    (here.from, here.to, holds_here view list k s t agrees reached is at_zero, λ i v from to h. omega (arith, from, to, here.first))

pub last_here : (view : NodesView) (list : List (Option ℤ)) (k : Key) (s : Option Span) (t : Span) (a b : ℕ) → Agrees view list
    → IsReached view k s → s ≡ Some t → k.level ≡ 0 → IsHere a b k
    → IsLastStored list (max a (first_slot k)) (min b (end_slot k)) (Some (k.index, cast_signed w64 (cast_unsigned w64 t.min)))
last_here view list k s t a b agrees reached is at_zero here =
    (here.from, here.to, holds_here view list k s t agrees reached is at_zero, λ i v from to h. omega (arith, from, to, here.end))

pub slot_here : (view : NodesView) (k : Key) (s : Option Span) (t : Span) (a b : ℕ) → IsReached view k s → s ≡ Some t → IsHere a b k
    → IsSlotIn (max a (first_slot k)) (min b (end_slot k)) (k.index, cast_signed w64 (cast_unsigned w64 t.min))
slot_here view k s t a b reached is here =
    let value : IsValue t.min = (proper_some s t is reached.proper).low in
    let P : ℤ → Type 0 = λ v. IsValue v in
    (here.from, here.to, subst P (sym (same_value t.min value)) value)

-- what the halves give the whole: the key's range from first to end, cut in the middle
first_both : (list : List (Option ℤ)) (a b first middle end : ℕ) (found : Option (ℕ × ℤ)) → first ≤ middle → middle ≤ end
    → IsClear list (max a first) (min b middle) → IsFirstStored list (max a middle) (min b end) found
    → IsFirstStored list (max a first) (min b end) found
first_both list a b first middle end None low high clear h =
    λ i v from to holds.
    by_lt i middle (λ left. clear i v from (omega arith) holds) (λ right. h i v (omega arith) to holds)
first_both list a b first middle end (Some p) low high clear h = (
  omega (arith, h.0),
  h.1,
  h.2,
  λ i v from to holds.
      by_lt i middle (λ left. clear i v from (omega (arith, h.1, to, left)) holds) (λ right. h.3 i v (omega (arith, from, right)) to holds),
)

last_both : (list : List (Option ℤ)) (a b first middle end : ℕ) (found : Option (ℕ × ℤ)) → first ≤ middle → middle ≤ end
    → IsClear list (max a middle) (min b end) → IsLastStored list (max a first) (min b middle) found
    → IsLastStored list (max a first) (min b end) found
last_both list a b first middle end None low high clear h =
    λ i v from to holds.
    by_lt i middle (λ left. h i v from (omega arith) holds) (λ right. clear i v (omega arith) to holds)
last_both list a b first middle end (Some p) low high clear h = (
  h.0,
  omega (arith, h.1),
  h.2,
  λ i v from to holds.
      by_lt i middle (λ left. h.3 i v from (omega (arith, to, left)) holds) (λ right. clear i v (omega (arith, from, right, h.0)) to holds),
)

-- how the code's halves lie in a key
pub record AreHalves (k left right : Key) : Type 0 where
  pub first : first_slot left ≡ first_slot k
  pub middle : first_slot right ≡ end_slot left
  pub end : end_slot right ≡ end_slot k
  pub low : first_slot k < end_slot left
  pub high : end_slot left < end_slot k

pub are_halves : (k left right : Key) → 1 ≤ k.level → left ≡ left_of k → right ≡ right_of k → AreHalves k left right
are_halves k left right low l r = record {
  first = ap first_slot l ∙ left_first k low;
  middle = ap first_slot r ∙ sym (ap end_slot l);
  end = ap end_slot r ∙ right_end k low;
  low = omega (arith, ap end_slot l, left_some k low);
  high = omega (arith, ap end_slot l, right_some k low);
}

pub first_in_left : (list : List (Option ℤ)) (a b : ℕ) (k left right : Key) (p : ℕ × ℤ) → AreHalves k left right
    → IsFirstStored list (max a (first_slot left)) (min b (end_slot left)) (Some p)
    → IsFirstStored list (max a (first_slot k)) (min b (end_slot k)) (Some p)
first_in_left list a b k left right p halves h = (
  omega (arith, h.0, halves.first),
  omega (arith, h.1, halves.high),
  h.2,
  λ i v from to holds. h.3 i v (omega (arith, from, halves.first)) to holds,
)

pub slot_in_left : (a b : ℕ) (k left right : Key) (p : ℕ × ℤ) → AreHalves k left right
    → IsSlotIn (max a (first_slot left)) (min b (end_slot left)) p → IsSlotIn (max a (first_slot k)) (min b (end_slot k)) p
slot_in_left a b k left right p halves h = (omega (arith, h.0, halves.first), omega (arith, h.1, halves.high), h.2)

pub last_in_right : (list : List (Option ℤ)) (a b : ℕ) (k left right : Key) (p : ℕ × ℤ) → AreHalves k left right
    → IsLastStored list (max a (first_slot right)) (min b (end_slot right)) (Some p)
    → IsLastStored list (max a (first_slot k)) (min b (end_slot k)) (Some p)
last_in_right list a b k left right p halves h = (
  omega (arith, h.0, halves.middle, halves.low),
  omega (arith, h.1, halves.end),
  h.2,
  λ i v from to holds. h.3 i v from (omega (arith, to, halves.end)) holds,
)

pub slot_in_right : (a b : ℕ) (k left right : Key) (p : ℕ × ℤ) → AreHalves k left right
    → IsSlotIn (max a (first_slot right)) (min b (end_slot right)) p → IsSlotIn (max a (first_slot k)) (min b (end_slot k)) p
slot_in_right a b k left right p halves h =
    (omega (arith, h.0, halves.middle, halves.low), omega (arith, h.1, halves.end), h.2)

slots_wider : (x y z w : ℕ) (found : Option (ℕ × ℤ)) → z ≤ x → y ≤ w → IfSome found (IsSlotIn x y) → IfSome found (IsSlotIn z w)
slots_wider x y z w None from to h = tt
slots_wider x y z w (Some p) from to h = (omega (arith, from, h.0), omega (arith, to, h.1), h.2)

pub slots_in_right : (a b : ℕ) (k left right : Key) (found : Option (ℕ × ℤ)) → AreHalves k left right
    → IfSome found (IsSlotIn (max a (first_slot right)) (min b (end_slot right)))
    → IfSome found (IsSlotIn (max a (first_slot k)) (min b (end_slot k)))
slots_in_right a b k left right found halves =
    slots_wider (max a (first_slot right)) (min b (end_slot right)) (max a (first_slot k)) (min b (end_slot k)) found
    (omega (arith, halves.middle, halves.low)) (omega (arith, halves.end))

pub slots_in_left : (a b : ℕ) (k left right : Key) (found : Option (ℕ × ℤ)) → AreHalves k left right
    → IfSome found (IsSlotIn (max a (first_slot left)) (min b (end_slot left)))
    → IfSome found (IsSlotIn (max a (first_slot k)) (min b (end_slot k)))
slots_in_left a b k left right found halves =
    slots_wider (max a (first_slot left)) (min b (end_slot left)) (max a (first_slot k)) (min b (end_slot k)) found
    (omega (arith, halves.first)) (omega (arith, halves.high))

pub first_after_left : (list : List (Option ℤ)) (a b : ℕ) (k left right : Key) (found : Option (ℕ × ℤ)) → AreHalves k left right
    → IsClear list (max a (first_slot left)) (min b (end_slot left))
    → IsFirstStored list (max a (first_slot right)) (min b (end_slot right)) found
    → IsFirstStored list (max a (first_slot k)) (min b (end_slot k)) found
first_after_left list a b k left right found halves clear h =
    let P : ℕ → ℕ → Type 0 = λ f e. IsFirstStored list (max a f) (min b e) found in
    let Q : ℕ → Type 0 = λ f. IsClear list (max a f) (min b (end_slot left)) in
    first_both list a b (first_slot k) (end_slot left) (end_slot k) found (omega (arith, halves.low)) (omega (arith, halves.high))
    (subst Q halves.first clear)
    (subst₂ P halves.middle halves.end h)

pub last_after_right : (list : List (Option ℤ)) (a b : ℕ) (k left right : Key) (found : Option (ℕ × ℤ)) → AreHalves k left right
    → IsClear list (max a (first_slot right)) (min b (end_slot right))
    → IsLastStored list (max a (first_slot left)) (min b (end_slot left)) found
    → IsLastStored list (max a (first_slot k)) (min b (end_slot k)) found
last_after_right list a b k left right found halves clear h =
    let P : ℕ → ℕ → Type 0 = λ f e. IsClear list (max a f) (min b e) in
    let Q : ℕ → Type 0 = λ f. IsLastStored list (max a f) (min b (end_slot left)) found in
    last_both list a b (first_slot k) (end_slot left) (end_slot k) found (omega (arith, halves.low)) (omega (arith, halves.high))
    (subst₂ P halves.middle halves.end clear)
    (subst Q halves.first h)

-- a span is that of a half, where the other has none
pub other_half : (l r : Option Span) (s : Span) → hull l r ≡ Some s → (IsSome l → ⊥) → IsSome r
other_half None None s e empty = absurd (cc)
other_half None (Some r) s e empty = refl
other_half (Some l) r s e empty = absurd (empty refl)

pub other_half_back : (l r : Option Span) (s : Span) → hull l r ≡ Some s → (IsSome r → ⊥) → IsSome l
other_half_back None None s e empty = absurd (cc)
other_half_back (Some l) r s e empty = refl
other_half_back None (Some r) s e empty = absurd (empty refl)

none_not_some : {X : Type 0} (o : Option X) → o ≡ None → IsSome o → ⊥
none_not_some o e h = cc

-- a key within the slots finds a stored slot in one of its halves
pub found_right : (a b : ℕ) (k left right : Key) (l r : Option Span) (s : Span) (none found : Option (ℕ × ℤ)) → AreHalves k left right
    → hull l r ≡ Some s → none ≡ None
    → (IsSome l → a ≤ first_slot left → end_slot left ≤ b → IsSome none)
    → (IsSome r → a ≤ first_slot right → end_slot right ≤ b → IsSome found)
    → a ≤ first_slot k → end_slot k ≤ b → IsSome found
found_right a b k left right l r s none found halves whole is in_left in_right from to =
    in_right
    (other_half l r s whole (λ some. none_not_some none is
    (in_left some (omega (arith, from, halves.first)) (omega (arith, to, halves.high)))))
    (omega (arith, from, halves.middle, halves.low)) (omega (arith, to, halves.end))

pub found_left : (a b : ℕ) (k left right : Key) (l r : Option Span) (s : Span) (none found : Option (ℕ × ℤ)) → AreHalves k left right
    → hull l r ≡ Some s → none ≡ None
    → (IsSome r → a ≤ first_slot right → end_slot right ≤ b → IsSome none)
    → (IsSome l → a ≤ first_slot left → end_slot left ≤ b → IsSome found)
    → a ≤ first_slot k → end_slot k ≤ b → IsSome found
found_left a b k left right l r s none found halves whole is in_right in_left from to =
    in_left
    (other_half_back l r s whole (λ some. none_not_some none is
    (in_right some (omega (arith, from, halves.middle, halves.low)) (omega (arith, to, halves.end)))))
    (omega (arith, from, halves.first)) (omega (arith, to, halves.high))

-- the reads of a walk that goes down to one slot
pub no_cuts : (a b first end level : ℕ) → a ≤ first → end ≤ b → cut_keys a b first end level ≡ 0
unfolding cut_keys
no_cuts a b first end level from to = grind (arith, nat_tests)

cuts_sum : (a b : ℕ) (k left right : Key) (place : Place) → 1 ≤ k.level → (place ≡ Outside → ⊥) → IsPlace a b k place → left ≡ left_of k
    → right ≡ right_of k
    → most_cut a b left + most_cut a b right ≤ most_cut a b k
cuts_sum a b k left right Outside low inside h l r = absurd (inside refl)
cuts_sum a b k left right Within low inside h l r =
    let halves : AreHalves k left right = are_halves k left right low l r in
    omega (
      arith,
      no_cuts a b (first_slot left) (end_slot left) left.level (omega (arith, h.0, halves.first)) (omega (arith, h.1, halves.high)),
      no_cuts a b (first_slot right) (end_slot right) right.level (omega (arith, h.0, halves.middle, halves.low))
          (omega (arith, h.1, halves.end)),
    )
cuts_sum a b k left right Cut low inside h l r = omega (arith, cut_counts a b k h, ap (most_cut a b) l, ap (most_cut a b) r)

half_level : (k half : Key) → half.level ≡ k.level - 1 → 1 ≤ k.level → 1 + half.level ≡ k.level
half_level k half e low = omega (arith, e)

pub reads_left : (a b : ℕ) (k left right : Key) (place : Place) (before asked second : ℕ) → 1 ≤ k.level → (place ≡ Outside → ⊥)
    → IsPlace a b k place → left ≡ left_of k → right ≡ right_of k
    → asked ≤ before + 1 → second ≤ asked + (most_cut a b left + left.level) → second ≤ before + (most_cut a b k + k.level)
reads_left a b k left right place before asked second low inside h l r one below =
    omega (arith, cuts_sum a b k left right place low inside h l r, half_level k left (ap (λ k. k.level) l) low, one, below)

pub reads_right : (a b : ℕ) (k left right : Key) (place : Place) (before asked second : ℕ) → 1 ≤ k.level → (place ≡ Outside → ⊥)
    → IsPlace a b k place → left ≡ left_of k → right ≡ right_of k
    → asked ≤ before + 1 → second ≤ asked + (most_cut a b right + right.level) → second ≤ before + (most_cut a b k + k.level)
reads_right a b k left right place before asked second low inside h l r one below =
    omega (arith, cuts_sum a b k left right place low inside h l r, half_level k right (ap (λ k. k.level) r) low, one, below)

-- after one half had none
pub if_none : {P : Type 0} (found : Option (ℕ × ℤ)) → found ≡ None → IfNone found P → P
if_none {P} found is h = let Q : Option (ℕ × ℤ) → Type 0 = λ found. IfNone found P in subst Q is h

pub reads_then_right : (a b : ℕ) (k left right : Key) (place : Place) (before asked second third : ℕ) → 1 ≤ k.level → (place ≡ Outside → ⊥)
    → IsPlace a b k place → left ≡ left_of k → right ≡ right_of k
    → asked ≤ before + 1 → second ≤ asked + most_cut a b left → third ≤ second + (most_cut a b right + right.level)
    → third ≤ before + (most_cut a b k + k.level)
reads_then_right a b k left right place before asked second third low inside h l r one none below =
    omega (arith, cuts_sum a b k left right place low inside h l r, half_level k right (ap (λ k. k.level) r) low, one, none, below)

pub reads_then_left : (a b : ℕ) (k left right : Key) (place : Place) (before asked second third : ℕ) → 1 ≤ k.level → (place ≡ Outside → ⊥)
    → IsPlace a b k place → left ≡ left_of k → right ≡ right_of k
    → asked ≤ before + 1 → second ≤ asked + most_cut a b right → third ≤ second + (most_cut a b left + left.level)
    → third ≤ before + (most_cut a b k + k.level)
reads_then_left a b k left right place before asked second third low inside h l r one none below =
    omega (arith, cuts_sum a b k left right place low inside h l r, half_level k left (ap (λ k. k.level) l) low, one, none, below)

nothing_found : IsSome {T = ℕ × ℤ} None → ⊥
nothing_found h = cc

pub none_reads : (a b : ℕ) (k left right : Key) (place : Place) (found : Option (ℕ × ℤ)) (before asked second third : ℕ)
    → (place ≡ Outside → ⊥) → IsPlace a b k place → left ≡ left_of k → right ≡ right_of k
    → asked ≤ before + 1 → second ≤ asked + most_cut a b left → (a ≤ first_slot k → end_slot k ≤ b → IsSome found)
    → IfNone found (third ≤ second + most_cut a b right)
    → IfNone found (third ≤ before + most_cut a b k)
none_reads a b k left right place (Some p) before asked second third inside h l r one none in_both below = tt
none_reads a b k left right Outside None before asked second third inside h l r one none in_both below = absurd (inside refl)
none_reads a b k left right Within None before asked second third inside h l r one none in_both below = absurd
    (nothing_found (in_both h.0 h.1))
none_reads a b k left right Cut None before asked second third inside h l r one none in_both below =
    omega (arith, cut_counts a b k h, ap (most_cut a b) l, ap (most_cut a b) r, one, none, below)

pub none_reads_back : (a b : ℕ) (k left right : Key) (place : Place) (found : Option (ℕ × ℤ)) (before asked second third : ℕ)
    → (place ≡ Outside → ⊥) → IsPlace a b k place → left ≡ left_of k → right ≡ right_of k
    → asked ≤ before + 1 → second ≤ asked + most_cut a b right → (a ≤ first_slot k → end_slot k ≤ b → IsSome found)
    → IfNone found (third ≤ second + most_cut a b left)
    → IfNone found (third ≤ before + most_cut a b k)
none_reads_back a b k left right place (Some p) before asked second third inside h l r one none in_both below = tt
none_reads_back a b k left right Outside None before asked second third inside h l r one none in_both below = absurd (inside refl)
none_reads_back a b k left right Within None before asked second third inside h l r one none in_both below = absurd
    (nothing_found (in_both h.0 h.1))
none_reads_back a b k left right Cut None before asked second third inside h l r one none in_both below =
    omega (arith, cut_counts a b k h, ap (most_cut a b) l, ap (most_cut a b) r, one, none, below)

-- the walk over all slots
whole_first : (list : List (Option ℤ)) (a b c d : ℕ) (found : Option (ℕ × ℤ)) → c ≡ a → d ≡ b → IsFirstStored list c d found
    → IsFirstStored list a b found
whole_first list a b c d found e f h = let P : ℕ → ℕ → Type 0 = λ a b. IsFirstStored list a b found in subst₂ P e f h

whole_last : (list : List (Option ℤ)) (a b c d : ℕ) (found : Option (ℕ × ℤ)) → c ≡ a → d ≡ b → IsLastStored list c d found
    → IsLastStored list a b found
whole_last list a b c d found e f h = let P : ℕ → ℕ → Type 0 = λ a b. IsLastStored list a b found in subst₂ P e f h

top_from : (a n : ℕ) (top : Key) → top ≡ top_key n → max a (first_slot top) ≡ a
top_from a n top is = let first : first_slot top ≡ 0 = ap first_slot is ∙ top_first n in omega arith

top_to : (b n m : ℕ) (top : Key) → n ≡ m → top ≡ top_key n → n ≤ 2 ^ 35 → b ≤ m → min b (end_slot top) ≡ b
top_to b n m top slots is few within =
    let end : end_slot top ≡ 2 ^ height n = ap end_slot is ∙ top_end n in
    let fits : n ≤ 2 ^ height n = height_covers n few in
    omega arith

pub first_of_all : (list : List (Option ℤ)) (a b n m : ℕ) (top : Key) (found : Option (ℕ × ℤ)) → n ≡ m → top ≡ top_key n → n ≤ 2 ^ 35
    → b ≤ m
    → IsFirstStored list (max a (first_slot top)) (min b (end_slot top)) found → IsFirstStored list a b found
first_of_all list a b n m top found slots is few within = whole_first list a b _ _ found (top_from a n top is)
    (top_to b n m top slots is few within)

pub last_of_all : (list : List (Option ℤ)) (a b n m : ℕ) (top : Key) (found : Option (ℕ × ℤ)) → n ≡ m → top ≡ top_key n → n ≤ 2 ^ 35 → b ≤ m
    → IsLastStored list (max a (first_slot top)) (min b (end_slot top)) found → IsLastStored list a b found
last_of_all list a b n m top found slots is few within = whole_last list a b _ _ found (top_from a n top is)
    (top_to b n m top slots is few within)

pub all_reads : (a b n m : ℕ) (top : Key) → n ≡ m → top ≡ top_key n → most_cut a b top + top.level ≤ 3 * height m
all_reads a b n m top slots is =
    omega (arith, top_reads a b n m top slots is, ap (λ k. k.level) is, ap height slots)
