-- Where the nodes of a tree stand: a page of page level p holds the levels 7p down to 7p - 6 below one key
-- of level 7p.
use Rattle.std.specs.Prelude.{ℕ, ◌+◌, ◌-◌, ◌*◌, ◌/◌, ◌%◌, ◌^◌}
use Rattle.om3_coeff.specs.declared.key.Key.{Key}

-- the page level of a key of a level of at least 1: a seventh of its level, rounded up
unfoldable pub page_level : ℕ → ℕ
page_level level = (level + 6) / 7

-- how many levels a key lies below the top of its page, 0 to 6
unfoldable pub below_top : ℕ → ℕ
below_top level = 7 * page_level level - level

-- the index of the key at the top of its page
unfoldable pub page_index : Key → ℕ
page_index k = k.index / 2 ^ below_top k.level

-- the number of its node in the page: level by level from the top, and by rising index
unfoldable pub node_number : Key → ℕ
node_number k = (2 ^ below_top k.level - 1) + k.index % 2 ^ below_top k.level
