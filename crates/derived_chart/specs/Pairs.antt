-- What two lists mean as two trees.
use Rattle.std.specs.Prelude.{ℕ, ℤ, ◌≡◌, Bool, true, false, List, length, Option}
use Rattle.om3_coeff.specs.declared.key.Key.{Key}
use Rattle.om3_coeff.specs.View.{NodesView}
use Rattle.om3_coeff.specs.ListNodes.{list_view}
use Rattle.derived_chart.specs.Sums.{one_of}

-- the nodes of the one or the other list, by the key of each that was asked last
abbrev pub pair_view : Bool → List (Option ℤ) → List (Option ℤ) → Option Key → Option Key → NodesView
pair_view false xs ys first second = list_view xs first
pair_view true xs ys first second = list_view ys second

-- how many slots the one or the other has
abbrev pub count_of : Bool → List (Option ℤ) → List (Option ℤ) → ℕ
count_of second xs ys = length (one_of second xs ys)

-- both lists stay
abbrev pub AreSame : List (Option ℤ) → List (Option ℤ) → List (Option ℤ) → List (Option ℤ) → Type 0
AreSame xs ys xs' ys' = (xs' ≡ xs) × (ys' ≡ ys)

-- asks leave which one is asked, and both lists
pub record KeepsPair (second now : Bool) (xs ys xs' ys' : List (Option ℤ)) : Type 0 where
  pub side : now ≡ second
  pub lists : AreSame xs ys xs' ys'
