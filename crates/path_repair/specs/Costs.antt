-- How many pages a change passes.
use Rattle.std.specs.Prelude.{ℕ, ℤ, zero, suc, ◌≡◌, ◌≢◌, ◌+◌, ◌*◌, ◌==◌, Bool, true, false, ◌&&◌, ◌||◌, nat_lt, if◌then◌else◌, List, Option}
use Rattle.om3_coeff.specs.Keys.{first_slot, end_slot}
use Rattle.tree_walk.specs.Trees.{top_of_page}
use Rattle.path_repair.specs.Sums.{sum_below}
use Rattle.path_repair.specs.Changes.{HasNew}

-- one of the slots from first on and below end is in the range of the page of this page level and index
unfoldable pub is_touched : ℕ → ℕ → ℕ → ℕ → Bool
is_touched first end level index = nat_lt first end
    && (nat_lt first (end_slot (top_of_page level index)) && nat_lt (first_slot (top_of_page level index)) end)

-- the tree of this height gets a new root for this range
unfoldable pub is_new_root : ℕ → ℕ → ℕ → Bool
is_new_root height level index = index == 0 && nat_lt height level

-- how many ranges of pages, from this one down, are touched by the slots from first on and below end, or get a new
-- root
unfoldable pub touch : ℕ → ℕ → ℕ → ℕ → ℕ → ℕ
touch first end height zero index = 0
touch first end height (suc level) index =
    if is_touched first end (suc level) index || is_new_root height (suc level) index
    then suc (sum_below (λ child. touch first end height level (128 * index + child)) 128)
    else 0

-- why a page stays as it is: nothing is stored there and nothing gets a value, or its range isn't touched and it
-- gets no new root above it
pub record IsSettled (page first end : ℕ) (values : List (Option ℤ)) (height level index : ℕ) : Type 0 where
  pub nothing : page ≡ 0 → HasNew first end values (first_slot (top_of_page level index)) (end_slot (top_of_page level index)) → ⊥
  pub untouched : page ≢ 0 → is_touched first end level index ≡ false
  pub no_root : page ≢ 0 → is_new_root height level index ≡ false

pub record IsUnsettled (page first end : ℕ) (values : List (Option ℤ)) (height level index : ℕ) : Type 0 where
  pub something : page ≡ 0 → HasNew first end values (first_slot (top_of_page level index)) (end_slot (top_of_page level index))
  pub passed : (is_touched first end level index || is_new_root height level index) ≡ true
