-- The ways down to the ends of a range.
use Rattle.std.proofs.Common.{ℕ, ℤ, ◌≡◌, ◌+◌, ◌*◌, ◌^◌, ◌<◌, ◌≤◌, ◌≤ℤ◌, inl, inr, arith, List, refl, sym, ◌∙◌, ap, subst}
use Rattle.std.proofs.lemmas.Bool.{cases_lt}
use Rattle.std.proofs.lemmas.Int.{ints, clamps, to_z-of_z}
use Rattle.std.proofs.lemmas.Option.{same_Some}
use Rattle.std.specs.Prelude.{Option, Some, None, Result, Ok, Err, IfErr, IsErrAnd}
use Rattle.std.specs.Int.{cast_signed, cast_unsigned, w64, int_min, int_max}
use mir.Val.{SFits}
use Rattle.om3_coeff.specs.declared.key.Key.{Key}
use Rattle.om3_coeff.specs.declared.span.Span.{Span}
use Rattle.om3_coeff.specs.declared.errors.NodeError.{NodeError}
use Rattle.om3_coeff.specs.declared.errors.NodeError.TheVariants.{DiskFault, Damaged, Missing, BadCoefficient}
use Rattle.om3_coeff.specs.Keys.{first_slot, end_slot, left_of, right_of, height, parent_of, IsOver}
use Rattle.om3_coeff.specs.Spans.{Holds, IsClear, hull}
use Rattle.om3_coeff.specs.View.{NodesView, Agrees, StaysSame, MayAsk, HasCause, HasRisen}
use Rattle.om3_coeff.specs.Walks.{IsReached, StaysBelow}
use Rattle.om3_coeff.proofs.ExtremeLemmas.{none-clear}
use Rattle.om3_coeff.proofs.KnownLemmas.{reached_span}
use Rattle.om3_coeff.proofs.KeyLemmas.{left_first, right_end, left_some, right_some, parent_above}
use Rattle.om3_coeff.proofs.WalkLemmas.{still_reached, ask_left, ask_right, ask_at, after_left, after_right, over_weaker}
use Rattle.om3_coeff.proofs.EndLemmas.{holds_here}
use Rattle.m4_groups.specs.declared.row.Row.{Row}
use Rattle.filter_scan.specs.declared.ends.Side.{Side}
use Rattle.filter_scan.specs.declared.ends.Side.TheVariants.{First, Last}
use Rattle.filter_scan.specs.Ends.{IsEndValue, IsAmong, IsEndHalf}

-- a slot is both ends of its range
slot_end : (k : Key) → k.level ≡ 0 → end_slot k ≡ k.index + 1
slot_end k zero = let width : 2 ^ k.level ≡ 1 = ap (λ n. 2 ^ n) zero in omega (arith, ap (λ n. (k.index + 1) * n) width)

slot_first : (k : Key) → k.level ≡ 0 → first_slot k ≡ k.index
slot_first k zero = let width : 2 ^ k.level ≡ 1 = ap (λ n. 2 ^ n) zero in omega (arith, ap (λ n. k.index * n) width)

pub end_here : (side : Side) (view : NodesView) (list : List (Option ℤ)) (k : Key) (t : Span) → Agrees view list → IsReached view k (Some t)
    → k.level ≡ 0
    → IsEndValue side list (first_slot k) (end_slot k) (cast_signed w64 (cast_unsigned w64 t.min))
end_here First view list k t agrees reached zero = (
  k.index,
  (
    omega (arith, slot_first k zero),
    omega (arith, slot_end k zero),
    holds_here view list k (Some t) t agrees reached refl zero,
    λ i v low high h. omega (arith, low, high, slot_first k zero),
  ),
)
end_here Last view list k t agrees reached zero = (
  k.index,
  (
    omega (arith, slot_first k zero),
    omega (arith, slot_end k zero),
    holds_here view list k (Some t) t agrees reached refl zero,
    λ i v low high h. omega (arith, low, high, slot_end k zero),
  ),
)

-- the end of a range is that of one of its halves
clear_half : (view : NodesView) (list : List (Option ℤ)) (h : Key) (o : Option Span) → o ≡ None → Agrees view list → IsReached view h o
    → IsClear list (first_slot h) (end_slot h)
clear_half view list h o none agrees reached = none-clear list (first_slot h) (end_slot h) (sym (reached_span view list h o agrees reached)
    ∙ none)

first_left : (list : List (Option ℤ)) (a m b : ℕ) (v : ℤ) → m ≤ b → IsEndValue First list a m v → IsEndValue First list a b v
first_left list a m b v le h = (h.0, (h.1.0, omega (arith, h.1.1, le), h.1.2, h.1.3))

first_right : (list : List (Option ℤ)) (a m b : ℕ) (v : ℤ) → a ≤ m → IsClear list a m → IsEndValue First list m b v
    → IsEndValue First list a b v
first_right list a m b v le clear h = (h.0, (omega (arith, h.1.0, le), h.1.1, h.1.2, λ i u low high holds. before i u low high holds))
  where
    before : (i : ℕ) (u : ℤ) → a ≤ i → i < h.0 → Holds list i u → ⊥
    before i u low high holds =
        elim (cases_lt i m) [
          | inl less ↦ clear i u low less holds
          | inr more ↦ h.1.3 i u more high holds
        ]

last_right : (list : List (Option ℤ)) (a m b : ℕ) (v : ℤ) → a ≤ m → IsEndValue Last list m b v → IsEndValue Last list a b v
last_right list a m b v le h = (h.0, (omega (arith, h.1.0, le), h.1.1, h.1.2, h.1.3))

last_left : (list : List (Option ℤ)) (a m b : ℕ) (v : ℤ) → m ≤ b → IsClear list m b → IsEndValue Last list a m v
    → IsEndValue Last list a b v
last_left list a m b v le clear h = (h.0, (h.1.0, omega (arith, h.1.1, le), h.1.2, λ i u low high holds. behind i u low high holds))
  where
    behind : (i : ℕ) (u : ℤ) → h.0 + 1 ≤ i → i < b → Holds list i u → ⊥
    behind i u low high holds =
        elim (cases_lt i m) [
          | inl less ↦ h.1.3 i u low less holds
          | inr more ↦ clear i u more high holds
        ]

-- the ranges of the halves, under the names that the code has
at_left : (side : Side) (list : List (Option ℤ)) (k h : Key) (v : ℤ) → 1 ≤ k.level → h ≡ left_of k
    → IsEndValue side list (first_slot h) (end_slot h) v → IsEndValue side list (first_slot k) (end_slot (left_of k)) v
at_left side list k h v low is e =
    let P : Key → Type 0 = λ h. IsEndValue side list (first_slot h) (end_slot h) v in
    let Q : ℕ → Type 0 = λ n. IsEndValue side list n (end_slot (left_of k)) v in
    subst Q (left_first k low) (subst P is e)

at_right : (side : Side) (list : List (Option ℤ)) (k h : Key) (v : ℤ) → 1 ≤ k.level → h ≡ right_of k
    → IsEndValue side list (first_slot h) (end_slot h) v → IsEndValue side list (end_slot (left_of k)) (end_slot k) v
at_right side list k h v low is e =
    let P : Key → Type 0 = λ h. IsEndValue side list (first_slot h) (end_slot h) v in
    let Q : ℕ → Type 0 = λ n. IsEndValue side list (end_slot (left_of k)) n v in
    subst Q (right_end k low) (subst P is e)

left_clear : (view : NodesView) (list : List (Option ℤ)) (k : Key) (o : Option Span) → 1 ≤ k.level → o ≡ None → Agrees view list
    → IsReached view (left_of k) o → IsClear list (first_slot k) (end_slot (left_of k))
left_clear view list k o low none agrees reached =
    let Q : ℕ → Type 0 = λ n. IsClear list n (end_slot (left_of k)) in
    subst Q (left_first k low) (clear_half view list (left_of k) o none agrees reached)

right_clear : (view : NodesView) (list : List (Option ℤ)) (k : Key) (o : Option Span) → 1 ≤ k.level → o ≡ None → Agrees view list
    → IsReached view (right_of k) o → IsClear list (end_slot (left_of k)) (end_slot k)
right_clear view list k o low none agrees reached =
    let Q : ℕ → Type 0 = λ n. IsClear list (end_slot (left_of k)) n in
    subst Q (right_end k low) (clear_half view list (right_of k) o none agrees reached)

pub end_step : (side : Side) (view : NodesView) (list : List (Option ℤ)) (k : Key) (l r : Option Span) (h : Key × Span) (v : ℤ)
    → 1 ≤ k.level → Agrees view list
    → IsReached view (left_of k) l → IsReached view (right_of k) r → IsEndHalf side k l r h
    → IsEndValue side list (first_slot h.0) (end_slot h.0) v → IsEndValue side list (first_slot k) (end_slot k) v
end_step First view list k l r h v low agrees left right (inl near) e =
    first_left list (first_slot k) (end_slot (left_of k)) (end_slot k) v (omega (arith, right_some k low))
    (at_left First list k h.0 v low near.0 e)
end_step First view list k l r h v low agrees left right (inr far) e =
    first_right list (first_slot k) (end_slot (left_of k)) (end_slot k) v (omega (arith, left_some k low))
    (left_clear view list k l low far.2 agrees left) (at_right First list k h.0 v low far.0 e)
end_step Last view list k l r h v low agrees left right (inl near) e =
    last_right list (first_slot k) (end_slot (left_of k)) (end_slot k) v (omega (arith, left_some k low))
    (at_right Last list k h.0 v low near.0 e)
end_step Last view list k l r h v low agrees left right (inr far) e =
    last_left list (first_slot k) (end_slot (left_of k)) (end_slot k) v (omega (arith, right_some k low))
    (right_clear view list k r low far.2 agrees right) (at_left Last list k h.0 v low far.0 e)

-- the span of a half lies in that of the range
pub record IsPart (s t : Span) : Type 0 where
  pub low : t.min ≤ℤ s.min
  pub high : s.max ≤ℤ t.max

same_span : (s t u : Span) → s ≡ u → t ≡ u → IsPart s t
same_span s t u p q = record {
  low = omega (arith, ints, ap (λ x. x.min) p, ap (λ x. x.min) q);
  high = omega (arith, ints, ap (λ x. x.max) p, ap (λ x. x.max) q);
}

part_left : (l r : Option Span) (t s : Span) → hull l r ≡ Some t → l ≡ Some s → IsPart s t
part_left None r t s e is = absurd (cc)
part_left (Some a) None t s e is = same_span s t a (sym (same_Some a s is)) (sym (same_Some a t e))
part_left (Some a) (Some b) t s e is =
    let low : int_min a.min b.min ≡ t.min = ap (λ x. x.min) (same_Some _ t e) in
    let high : int_max a.max b.max ≡ t.max = ap (λ x. x.max) (same_Some _ t e) in
    let from : a.min ≡ s.min = ap (λ x. x.min) (same_Some a s is) in
    let to : a.max ≡ s.max = ap (λ x. x.max) (same_Some a s is) in
    record { low = omega (arith, ints, clamps, low, from); high = omega (arith, ints, clamps, high, to) }

part_right : (l r : Option Span) (t s : Span) → hull l r ≡ Some t → r ≡ Some s → IsPart s t
part_right l None t s e is = absurd (cc)
part_right None (Some b) t s e is = same_span s t b (sym (same_Some b s is)) (sym (same_Some b t e))
part_right (Some a) (Some b) t s e is =
    let low : int_min a.min b.min ≡ t.min = ap (λ x. x.min) (same_Some _ t e) in
    let high : int_max a.max b.max ≡ t.max = ap (λ x. x.max) (same_Some _ t e) in
    let from : b.min ≡ s.min = ap (λ x. x.min) (same_Some b s is) in
    let to : b.max ≡ s.max = ap (λ x. x.max) (same_Some b s is) in
    record { low = omega (arith, ints, clamps, low, from); high = omega (arith, ints, clamps, high, to) }

half_part : (side : Side) (k : Key) (l r : Option Span) (h : Key × Span) (t : Span) → hull l r ≡ Some t → IsEndHalf side k l r h
    → IsPart h.1 t
half_part First k l r h t e (inl near) = part_left l r t h.1 e near.1
half_part First k l r h t e (inr far) = part_right l r t h.1 e far.1
half_part Last k l r h t e (inl near) = part_right l r t h.1 e near.1
half_part Last k l r h t e (inr far) = part_left l r t h.1 e far.1

pub among_step : (side : Side) (k : Key) (l r : Option Span) (h : Key × Span) (t : Span) (v : ℤ) → hull l r ≡ Some t
    → IsEndHalf side k l r h → IsAmong h.1 v → IsAmong t v
among_step side k l r h t v e half among =
    let part : IsPart h.1 t = half_part side k l r h t e half in record {
      low = omega (arith, ints, part.low, among.low);
      high = omega (arith, ints, part.high, among.high);
    }

-- the half is reached, may be asked, and lies below
moved : (old new : NodesView) (k h : Key) (o : Option Span) (s : Span) → StaysSame old new → h ≡ k → o ≡ Some s → IsReached old k o
    → IsReached new h (Some s)
moved old new k h o s same at is reached =
    let P : Option Span → Type 0 = λ o. IsReached new k o in
    let Q : Key → Type 0 = λ k. IsReached new k (Some s) in
    subst Q (sym at) (subst P is (still_reached old new k o same reached))

pub half_reached : (side : Side) (old new : NodesView) (k : Key) (l r : Option Span) (h : Key × Span) → StaysSame old new
    → IsReached old (left_of k) l → IsReached old (right_of k) r
    → IsEndHalf side k l r h → IsReached new h.0 (Some h.1)
half_reached First old new k l r h same left right (inl near) = moved old new (left_of k) h.0 l h.1 same near.0 near.1 left
half_reached First old new k l r h same left right (inr far) = moved old new (right_of k) h.0 r h.1 same far.0 far.1 right
half_reached Last old new k l r h same left right (inl near) = moved old new (right_of k) h.0 r h.1 same near.0 near.1 right
half_reached Last old new k l r h same left right (inr far) = moved old new (left_of k) h.0 l h.1 same far.0 far.1 left

pub half_follows : (side : Side) (view : NodesView) (k : Key) (l r : Option Span) (h : Key × Span) → 1 ≤ k.level → view.asked ≡ Some k
    → IsEndHalf side k l r h → MayAsk view h.0
half_follows First view k l r h low asked (inl near) = ask_at view h.0 (left_of k) near.0 (ask_left view k low asked)
half_follows First view k l r h low asked (inr far) = ask_at view h.0 (right_of k) far.0 (ask_right view k low asked)
half_follows Last view k l r h low asked (inl near) = ask_at view h.0 (right_of k) near.0 (ask_right view k low asked)
half_follows Last view k l r h low asked (inr far) = ask_at view h.0 (left_of k) far.0 (ask_left view k low asked)

below_left : (k h : Key) (before first second : Option Key) → 1 ≤ k.level → h ≡ left_of k → first ≡ Some k → StaysBelow h first second
    → StaysBelow k before second
below_left k h before first second low is asked below =
    let P : Key → Type 0 = λ h. StaysBelow h first second in inr (after_left k first second low asked (subst P is below))

below_right : (k h : Key) (before first second : Option Key) → 1 ≤ k.level → h ≡ right_of k → first ≡ Some k → StaysBelow h first second
    → StaysBelow k before second
below_right k h before first second low is asked below =
    let P : Key → Type 0 = λ h. StaysBelow h first second in inr (after_right k first second low asked (subst P is below))

pub half_below : (side : Side) (k : Key) (l r : Option Span) (h : Key × Span) (before first second : Option Key) → 1 ≤ k.level
    → IsEndHalf side k l r h → first ≡ Some k
    → StaysBelow h.0 first second → StaysBelow k before second
half_below First k l r h before first second low (inl near) asked below = below_left k h.0 before first second low near.0 asked below
half_below First k l r h before first second low (inr far) asked below = below_right k h.0 before first second low far.0 asked below
half_below Last k l r h before first second low (inl near) asked below = below_right k h.0 before first second low near.0 asked below
half_below Last k l r h before first second low (inr far) asked below = below_left k h.0 before first second low far.0 asked below

-- a key may be asked again after a walk below it
ask_again_after : (view : NodesView) (k : Key) (before : Option Key) → IsOver (parent_of k) before → StaysBelow k before view.asked
    → MayAsk view k
ask_again_after view k before over (inl same) = let P : Option Key → Type 0 = λ last. IsOver (parent_of k) last in
    inr (subst P (sym same) over)
ask_again_after view k before over (inr below) = inr (over_weaker (parent_of k) k view.asked (parent_above k) below)

pub ask_again : (old new : NodesView) (k : Key) → StaysSame old new → MayAsk old k → StaysBelow k old.asked new.asked → MayAsk new k
ask_again old new k same (inl top) below = inl (top ∙ ap height (sym same.slots))
ask_again old new k same (inr over) below = ask_again_after new k old.asked over below

-- both walks stay below
pub both_below : (k : Key) (first second third : Option Key) → StaysBelow k first second → StaysBelow k second third
    → StaysBelow k first third
both_below k first second third (inl p) (inl q) = inl (q ∙ p)
both_below k first second third (inr p) (inl q) = let P : Option Key → Type 0 = λ last. IsOver k last in inr (subst P (sym q) p)
both_below k first second third p (inr q) = inr q

-- the cause of an error of a later ask
risen_before : (a b c : ℕ) → b ≡ a → HasRisen b c → HasRisen a c
risen_before a b c quiet h = let P : ℕ → Type 0 = λ n. HasRisen n c in subst P quiet h

pub cause_before : (old mid new : NodesView) (e : NodeError) → StaysSame old mid → mid.faults ≡ old.faults → HasCause mid new e
    → HasCause old new e
cause_before old mid new DiskFault same quiet h = risen_before old.faults mid.faults new.faults quiet h
cause_before old mid new (Damaged page) same quiet h = same.was_bad (Damaged page) h
cause_before old mid new (Missing key) same quiet h = same.was_bad (Missing key) h
cause_before old mid new (BadCoefficient key) same quiet h = same.was_bad (BadCoefficient key) h

pub err_cause : (P : NodeError → Type 0) (result : Result (Unit {0}) NodeError) (e : NodeError) → IsErrAnd result (λ d. d ≡ e) → P e
    → IfErr result P
err_cause P (Ok u) e is h = tt
err_cause P (Err d) e is h = subst P (sym is) h

-- a row of numbers as the code holds them
pub cast_row : (P : Row → Type 0) (c : ℕ) (a l g z : ℤ) → SFits w64 a → SFits w64 l → SFits w64 g → SFits w64 z
    → P (record { column = c; first = a; least = l; greatest = g; last = z })
    → P (record {
      column = c;
      first = cast_signed w64 (cast_unsigned w64 a);
      least = cast_signed w64 (cast_unsigned w64 l);
      greatest = cast_signed w64 (cast_unsigned w64 g);
      last = cast_signed w64 (cast_unsigned w64 z);
    })
cast_row P c a l g z fa fl fg fz h =
    let A : ℤ → Type 0 = λ x. P (record { column = c; first = x; least = l; greatest = g; last = z }) in
    let a' : ℤ = cast_signed w64 (cast_unsigned w64 a) in
    let L : ℤ → Type 0 = λ x. P (record { column = c; first = a'; least = x; greatest = g; last = z }) in
    let l' : ℤ = cast_signed w64 (cast_unsigned w64 l) in
    let G : ℤ → Type 0 = λ x. P (record { column = c; first = a'; least = l'; greatest = x; last = z }) in
    let g' : ℤ = cast_signed w64 (cast_unsigned w64 g) in
    let Z : ℤ → Type 0 = λ x. P (record { column = c; first = a'; least = l'; greatest = g'; last = x }) in
    subst Z (sym (to_z-of_z w64 z fz)) (subst G (sym (to_z-of_z w64 g fg))
    (subst L (sym (to_z-of_z w64 l fl)) (subst A (sym (to_z-of_z w64 a fa)) h)))
