-- The least and the greatest value of a range.
use Rattle.std.proofs.Common.{inl, inr, ◌≡◌, ℕ, ℤ, ◌<◌, ◌≤◌, ◌⊎◌, List, Option, None, Some, arith, refl, sym, ◌∙◌, subst}
use Rattle.std.specs.Prelude.{IfSome}
use Rattle.std.proofs.lemmas.Bool.{cases_lt}
use Rattle.std.proofs.lemmas.Int.{ints}
use Rattle.om3_coeff.specs.Spans.{IsClear, IsStored}
use Rattle.derived_chart.specs.declared.searches.Best.{Best}
use Rattle.derived_chart.specs.declared.searches.Best.TheVariants.{Least, Greatest}
use Rattle.derived_chart.specs.Bounds.{AreBetween}
use Rattle.derived_chart.specs.Searches.{Beats, IsBestWith, IsBestOf, IsNoBetter, IsRangeOf}

beats_itself : (best : Best) (m : ℤ) → Beats best m m
beats_itself Least m = omega (arith, ints)
beats_itself Greatest m = omega (arith, ints)

beats_on : (best : Best) (a b c : ℤ) → Beats best a b → Beats best b c → Beats best a c
beats_on Least a b c first second = omega (arith, ints, first, second)
beats_on Greatest a b c first second = omega (arith, ints, first, second)

-- where nothing is stored, what was found stays the best
pub best_clear : (best : Best) (list : List (Option ℤ)) (p q : ℕ) (found : Option ℤ) → IsClear list p q
    → IsBestWith best list p q found found
best_clear best list p q None clear = (refl, clear)
best_clear best list p q (Some m) clear = (inl refl, beats_itself best m, λ i v low high holds. absurd (clear i v low high holds))

-- and where nothing that is stored is better
pub best_kept : (best : Best) (list : List (Option ℤ)) (p q : ℕ) (found : Option ℤ) (b : ℤ × ℤ) → IsNoBetter best found b
    → AreBetween list p q (Some b) → IsBestWith best list p q found found
best_kept best list p q None b worse between = absurd worse
best_kept Least list p q (Some m) b worse between = (
  inl refl,
  omega (arith, ints),
  λ i v low high holds. omega (arith, ints, worse, (between i v low high holds).0),
)
best_kept Greatest list p q (Some m) b worse between = (
  inl refl,
  omega (arith, ints),
  λ i v low high holds. omega (arith, ints, worse, (between i v low high holds).1),
)

-- two ranges are the parts of a third
record AreParts (a b c d p q : ℕ) : Type 0 where
  split : (i : ℕ) → p ≤ i → i < q → ((a ≤ i) × (i < b)) ⊎ ((c ≤ i) × (i < d))
  first_low : p ≤ a
  first_high : b ≤ q
  second_low : p ≤ c
  second_high : d ≤ q

clear_parts : (list : List (Option ℤ)) (a b c d p q : ℕ) → AreParts a b c d p q → IsClear list a b → IsClear list c d → IsClear list p q
clear_parts list a b c d p q parts first second i v low high holds = elim (parts.split i low high) [
  | inl here ↦ first i v here.0 here.1 holds
  | inr there ↦ second i v there.0 there.1 holds
]

farther : (best : Best) (found : Option ℤ) (u v : ℤ) → Beats best v u → IfSome found (λ b. Beats best u b)
    → IfSome found (λ b. Beats best v b)
farther best None u v more beats = tt
farther best (Some b) u v more beats = beats_on best v u b more beats

-- the parts of a range, one searched after the other
best_parts : (best : Best) (list : List (Option ℤ)) (a b c d p q : ℕ) (found first second : Option ℤ) → AreParts a b c d p q
    → IsBestWith best list a b found first → IsBestWith best list c d first second → IsBestWith best list p q found second
best_parts best list a b c d p q found None None parts one two = (one.0, clear_parts list a b c d p q parts one.1 two.1)
best_parts best list a b c d p q found (Some u) None parts one two = let never : Some u ≡ None = two.0 in cc
best_parts best list a b c d p q found None (Some v) parts one two = (
  inr (stored two.0),
  subst (λ o. IfSome o (λ b. Beats best v b)) (sym one.0) tt,
  λ i w above below holds. elim (parts.split i above below) [
    | inl here ↦ absurd (one.1 i w here.0 here.1 holds)
    | inr there ↦ two.2 i w there.0 there.1 holds
  ],
)
  where
    stored : (None ≡ Some v) ⊎ IsStored list c d v → IsStored list p q v
    stored (inl never) = cc
    stored (inr is) = record {
      slot = is.slot;
      low = omega (arith, parts.second_low, is.low);
      high = omega (arith, parts.second_high, is.high);
      holds = is.holds;
    }
best_parts best list a b c d p q found (Some u) (Some v) parts one two = (
  which two.0 one.0,
  farther best found u v two.1 one.1,
  λ i w above below holds. elim (parts.split i above below) [
    | inl here ↦ beats_on best v u w two.1 (one.2 i w here.0 here.1 holds)
    | inr there ↦ two.2 i w there.0 there.1 holds
  ],
)
  where
    which : (Some u ≡ Some v) ⊎ IsStored list c d v → (found ≡ Some u) ⊎ IsStored list a b u → (found ≡ Some v) ⊎ IsStored list p q v
    which (inl same) (inl is) = inl (is ∙ same)
    which (inl same) (inr is) = let both : u ≡ v = cc in
        inr (subst (IsStored list p q) both (record {
          slot = is.slot;
          low = omega (arith, parts.first_low, is.low);
          high = omega (arith, parts.first_high, is.high);
          holds = is.holds;
        }))
    which (inr is) other = inr (record {
      slot = is.slot;
      low = omega (arith, parts.second_low, is.low);
      high = omega (arith, parts.second_high, is.high);
      holds = is.holds;
    })

-- the first half before the second, and the second before the first
pub best_left : (best : Best) (list : List (Option ℤ)) (p m q : ℕ) (found first second : Option ℤ) → p ≤ m → m ≤ q
    → IsBestWith best list p m found first → IsBestWith best list m q first second → IsBestWith best list p q found second
best_left best list p m q found first second low high = best_parts best list p m m q p q found first second (record {
  split = λ i from to. elim (cases_lt i m) [
    | inl less ↦ inl (from, less)
    | inr more ↦ inr (more, to)
  ];
  first_low = omega arith;
  first_high = high;
  second_low = low;
  second_high = omega arith;
})

pub best_right : (best : Best) (list : List (Option ℤ)) (p m q : ℕ) (found first second : Option ℤ) → p ≤ m → m ≤ q
    → IsBestWith best list m q found first → IsBestWith best list p m first second → IsBestWith best list p q found second
best_right best list p m q found first second low high = best_parts best list m q p m p q found first second (record {
  split = λ i from to. elim (cases_lt i m) [
    | inl less ↦ inr (from, less)
    | inr more ↦ inl (more, to)
  ];
  first_low = low;
  first_high = omega arith;
  second_low = omega arith;
  second_high = high;
})

-- by what is known of the range
pub best_none : (best : Best) (list : List (Option ℤ)) (p q : ℕ) (found : Option ℤ) (range : Option (ℤ × ℤ)) → range ≡ None
    → IsRangeOf list p q range → IsBestWith best list p q found found
best_none best list p q found range none is =
    let P : Option (ℤ × ℤ) → Type 0 = λ o. AreBetween list p q o in
    best_clear best list p q found (subst P none is.between)

pub best_worse : (best : Best) (list : List (Option ℤ)) (p q : ℕ) (found : Option ℤ) (range : Option (ℤ × ℤ)) (b : ℤ × ℤ) → range ≡ Some b
    → IsNoBetter best found b → IsRangeOf list p q range → IsBestWith best list p q found found
best_worse best list p q found range b some worse is =
    let P : Option (ℤ × ℤ) → Type 0 = λ o. AreBetween list p q o in
    best_kept best list p q found b worse (subst P some is.between)

-- where nothing was found before, it is that of the range
pub best_alone : (best : Best) (list : List (Option ℤ)) (p q : ℕ) (o : Option ℤ) → IsBestWith best list p q None o
    → IsBestOf best list p q o
best_alone best list p q None is = is.1
best_alone best list p q (Some m) is = (stored is.0, is.2)
  where
    stored : (None ≡ Some m) ⊎ IsStored list p q m → IsStored list p q m
    stored (inl never) = cc
    stored (inr found) = found
