-- How many groups of edits there are.
use Rattle.std.specs.Prelude.{ℕ, ◌≡◌, ◌+◌, ◌-◌, ◌*◌, ◌/◌, ◌^◌, ◌≤◌, ◌<◌, List, length, Option}
use Rattle.chart_service.specs.Syncing.{edits_of}

-- Over these lines there are no more groups than others, which are the lines that spell no edit, than so many spare ones, and
-- than 64 edits go into those that do.
pub record GroupsBy (lines : List (Option (List ℕ))) (groups spare : ℕ) : Type 0 where
  pub others : ℕ
  pub counted : length lines ≡ others + length (edits_of lines)
  pub few : 64 * groups ≤ 64 * (others + spare) + length (edits_of lines)

-- Over these lines there is at most one group for each that spells no edit, for each 64 edits and for each piece taken
-- meanwhile, and three more, where the pieces are counted.
pub record FewGroups (lines : List (Option (List ℕ))) (groups pieces pieces' : ℕ) : Type 0 where
  pub others : ℕ
  pub counted : length lines ≡ others + length (edits_of lines)
  pub few : pieces' < 2 ^ 64 - 1 → groups ≤ others + length (edits_of lines) / 64 + (pieces' - pieces) + 3
