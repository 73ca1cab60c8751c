-- The ends of a range.
use Rattle.std.proofs.Common.{inl, inr, ◌≡◌, ℕ, ℤ, Bool, true, false, ◌≤◌, ◌<◌, ◌+◌, ◌^◌, ◌≤ℤ◌, List, Option, None, Some, arith, refl, sym}
use Rattle.std.proofs.Common.{◌∙◌, subst}
use Rattle.std.specs.Prelude.{unsigned_abs}
use Rattle.std.proofs.lemmas.Bool.{cases_lt}
use Rattle.std.proofs.lemmas.Int.{ints}
use Rattle.om3_coeff.specs.Spans.{Holds, IsClear}
use Rattle.derived_chart.specs.declared.ends.Side.{Side}
use Rattle.derived_chart.specs.declared.ends.Side.TheVariants.{First, Last}
use Rattle.derived_chart.specs.Bounds.{AreBetween, AreInLimits}
use Rattle.whole_number.specs.Range.{IsValue}
use Rattle.om3_coeff.specs.Walks.{IsFirstStored, IsLastStored}
use Rattle.derived_chart.specs.Searches.{IsWanted, HasNone, IsFound, IsEndOf, IsFirstLarge, AreHalves, IsOneFound}

pub none_empty : (large : Bool) (list : List (Option ℤ)) (p q : ℕ) → p ≡ q → HasNone large list p q
none_empty large list p q same i v low high holds wanted = absurd (omega (arith, low, high, same))

pub none_clear : (large : Bool) (list : List (Option ℤ)) (p q : ℕ) → IsClear list p q → HasNone large list p q
none_clear large list p q clear i v low high holds wanted = clear i v low high holds

-- a number between two that aren't large isn't large
inside : (a b v : ℤ) → unsigned_abs a ≤ 10 ^ 18 → unsigned_abs b ≤ 10 ^ 18 → a ≤ℤ v → v ≤ℤ b → unsigned_abs v ≤ 10 ^ 18
inside a b v small large low high = grind (arith, ints)

pub none_large : (large : Bool) (list : List (Option ℤ)) (p q : ℕ) (b : ℤ × ℤ) → large ≡ true → AreInLimits b → AreBetween list p q (Some b)
    → HasNone large list p q
none_large large list p q b is limits between i v low high holds wanted =
    let here = between i v low high holds in
    absurd (omega (arith, wanted is, inside b.0 b.1 v limits.0 limits.1 here.0 here.1))

-- a slot's value is one
same_value : (list : List (Option ℤ)) (i : ℕ) (v w : ℤ) → Holds list i v → Holds list i w → v ≡ w
same_value list i v w one other = let both : Some (Some v) ≡ Some (Some w) = sym one ∙ other in cc

found_here : (large : Bool) (list : List (Option ℤ)) (p q : ℕ) (b : ℤ × ℤ) (found : ℕ × ℤ) → q ≡ p + 1 → Holds list p b.0
    → IsOneFound large p b (Some found) → IsFound large list p q found
found_here large list p q b found single holds is = record {
  low = omega (arith, is.0);
  high = omega (arith, is.0, single);
  holds = subst (Holds list found.0) (sym is.1) (subst (λ n. Holds list n b.0) (sym is.0) holds);
  wanted = subst (IsWanted large) (sym is.1) is.2;
}

pub one_end : (side : Side) (large : Bool) (list : List (Option ℤ)) (p q : ℕ) (b : ℤ × ℤ) (o : Option (ℕ × ℤ)) → q ≡ p + 1
    → Holds list p b.0 → IsOneFound large p b o → IsEndOf side large list p q o
one_end side large list p q b None single holds is = λ i v low high there wanted.
    let P : ℕ → Type 0 = λ n. Holds list n v in
    let same = same_value list p b.0 v holds (subst P (omega (arith, low, high, single)) there) in
    is (subst (IsWanted large) (sym same) wanted)
one_end First large list p q b (Some found) single holds is = (
  found_here large list p q b found single holds is,
  λ i v low high there wanted. absurd (omega (arith, low, high, is.0)),
)
one_end Last large list p q b (Some found) single holds is = (
  found_here large list p q b found single holds is,
  λ i v low high there wanted. absurd (omega (arith, low, high, is.0, single)),
)

-- what is found in the nearer half is that of the whole range
pub end_near : (side : Side) (large : Bool) (list : List (Option ℤ)) (p q : ℕ) (h : (ℕ × ℕ) × (ℕ × ℕ)) (found : ℕ × ℤ)
    → AreHalves side p q h → IsEndOf side large list h.0.0 h.0.1 (Some found) → IsEndOf side large list p q (Some found)
end_near First large list p q h found halves is =
    let f = is.0 in
    let left = halves.0 in
    let right = halves.4 in (
      record { low = omega (arith, f.low, left); high = omega (arith, f.high, right); holds = f.holds; wanted = f.wanted },
      λ i v low high holds wanted. is.1 i v (omega (arith, low, left)) high holds wanted,
    )
end_near Last large list p q h found halves is =
    let f = is.0 in
    let right = halves.2 in
    let middle = halves.1 in
    let left = halves.3 in (
      record { low = omega (arith, f.low, middle, left); high = omega (arith, f.high, right); holds = f.holds; wanted = f.wanted },
      λ i v low high holds wanted. is.1 i v low (omega (arith, high, right)) holds wanted,
    )

-- and where that has nothing, what is found in the other one
pub end_far : (side : Side) (large : Bool) (list : List (Option ℤ)) (p q : ℕ) (h : (ℕ × ℕ) × (ℕ × ℕ)) (o : Option (ℕ × ℤ))
    → AreHalves side p q h → HasNone large list h.0.0 h.0.1 → IsEndOf side large list h.1.0 h.1.1 o → IsEndOf side large list p q o
end_far First large list p q h None halves none is =
    let left = halves.0 in
    let middle = halves.1 in
    let right = halves.2 in
    λ i v low high holds wanted. elim (cases_lt i h.0.1) [
      | inl below ↦ none i v (omega (arith, low, left)) below holds wanted
      | inr above ↦ is i v (omega (arith, above, middle)) (omega (arith, high, right)) holds wanted
    ]
end_far Last large list p q h None halves none is =
    let left = halves.0 in
    let middle = halves.1 in
    let right = halves.2 in
    λ i v low high holds wanted. elim (cases_lt i h.1.1) [
      | inl below ↦ is i v (omega (arith, low, left)) below holds wanted
      | inr above ↦ none i v (omega (arith, above, middle)) (omega (arith, high, right)) holds wanted
    ]
end_far First large list p q h (Some found) halves none is =
    let f = is.0 in
    let left = halves.0 in
    let middle = halves.1 in
    let right = halves.2 in
    let inner = halves.3 in (
      record { low = omega (arith, f.low, middle, inner); high = omega (arith, f.high, right); holds = f.holds; wanted = f.wanted },
      λ i v low high holds wanted. elim (cases_lt i h.0.1) [
        | inl below ↦ none i v (omega (arith, low, left)) below holds wanted
        | inr above ↦ is.1 i v (omega (arith, above, middle)) high holds wanted
      ],
    )
end_far Last large list p q h (Some found) halves none is =
    let f = is.0 in
    let left = halves.0 in
    let middle = halves.1 in
    let right = halves.2 in
    let inner = halves.4 in (
      record { low = omega (arith, f.low, left); high = omega (arith, f.high, inner); holds = f.holds; wanted = f.wanted },
      λ i v low high holds wanted. elim (cases_lt i h.1.1) [
        | inl below ↦ is.1 i v low below holds wanted
        | inr above ↦ none i v (omega (arith, above, middle)) (omega (arith, high, right)) holds wanted
      ],
    )

any_clear : (list : List (Option ℤ)) (p q : ℕ) → HasNone false list p q → IsClear list p q
any_clear list p q none i v low high holds = none i v low high holds (λ never. cc)

-- where any value is looked for, the ends are those of what is stored
pub first_any : (list : List (Option ℤ)) (p q : ℕ) (o : Option (ℕ × ℤ)) → IsEndOf First false list p q o → IsFirstStored list p q o
first_any list p q None is = any_clear list p q is
first_any list p q (Some found) is = (is.0.low, is.0.high, is.0.holds, any_clear list p found.0 is.1)

pub last_any : (list : List (Option ℤ)) (p q : ℕ) (o : Option (ℕ × ℤ)) → IsEndOf Last false list p q o → IsLastStored list p q o
last_any list p q None is = any_clear list p q is
last_any list p q (Some found) is = (is.0.low, is.0.high, is.0.holds, any_clear list (found.0 + 1) q is.1)

all_values : (list : List (Option ℤ)) (p q : ℕ) → HasNone true list p q → (i : ℕ) (v : ℤ) → p ≤ i → i < q → Holds list i v → IsValue v
all_values list p q none i v low high holds = elim (cases_lt (10 ^ 18) (unsigned_abs v)) [
  | inl large ↦ absurd (none i v low high holds (λ is. large))
  | inr small ↦ small
]

-- and where large ones are, what isn't large is a value that a series can hold
pub first_large : (list : List (Option ℤ)) (p q : ℕ) (o : Option (ℕ × ℤ)) → IsEndOf First true list p q o → IsFirstLarge list p q o
first_large list p q None is = all_values list p q is
first_large list p q (Some found) is = (is.0.low, is.0.high, is.0.holds, is.0.wanted refl, all_values list p found.0 is.1)
