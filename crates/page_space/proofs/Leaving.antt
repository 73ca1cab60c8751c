-- What transactions leave.
use Rattle.std.proofs.Common.{◌≡◌, ℕ, List, Some, ap, unwrap_or}
use Rattle.block_disk.specs.View.{Image}
use Rattle.page_space.specs.declared.txn.Txn.{Txn}
use Rattle.page_space.specs.Layout.{superblock_page}
use Rattle.page_space.specs.Transactions.{held_page, left_by}

-- page 0 is left with the numbers
pub left_first : (txn : Txn) (image : Image) → left_by txn image 0 ≡ superblock_page txn.superblock
left_first txn image = ap (λ o. unwrap_or o (image 0)) txn.first

-- pages that are held alike are left alike
pub left_same : (old new : Txn) (image : Image) (p : ℕ) → held_page new p ≡ held_page old p → left_by new image p ≡ left_by old image p
left_same old new image p same = ap (λ o. unwrap_or o (image p)) same

pub left_put : (old new : Txn) (image : Image) (p : ℕ) (page : List ℕ) → held_page new p ≡ Some page → left_by new image p ≡ page
left_put old new image p page is = ap (λ o. unwrap_or o (image p)) is
