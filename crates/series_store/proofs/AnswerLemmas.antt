-- What a book answers, by what became of a tree.
use Rattle.std.proofs.Common.{◌≡◌, ℕ, ℤ, ◌≤◌, List, length, slice_get, Option, Some, Ok, sym, subst, ◌∙◌, arith}
use Rattle.block_disk.specs.View.{Image}
use Rattle.page_space.specs.declared.superblock.Superblock.{Superblock}
use Rattle.page_space.specs.declared.txn.Txn.{Txn}
use Rattle.page_space.specs.Layout.{in_use}
use Rattle.path_repair.specs.declared.errors.RepairError.{RepairError}
use Rattle.path_repair.specs.declared.errors.RepairError.TheVariants.{Full as FullTree, DiskFault as TreeFault, Damaged as DamagedTree}
use Rattle.path_repair.specs.declared.errors.RepairError.TheVariants.{NoMemory as TreeMemory}
use Rattle.path_repair.specs.Edited.{IsFullFor, IsErrorFor}
use Rattle.series_book.specs.declared.limits.TheConstants.{MOST_SLOTS}
use Rattle.series_book.specs.declared.one_series.Series.{Series}
use Rattle.series_book.specs.Edits.{with_slots, within}
use Rattle.series_book.proofs.EditLemmas.{fitted-ok, fitted-full}
use Rattle.stored_book.proofs.PagesInUse.{full_book, few_in_use}
use Rattle.stored_book.specs.Standing.{IsStore, StandsForBook}
use Rattle.series_store.specs.Changing.{IsRefusedBy}
use Rattle.series_store.specs.Errors.{error_of}

-- a book that pages stand for has no more pages than there are
pub fits_within : (total : ℕ) (book : List Series) (id : ℕ) (series : Series) (slots : List (Option ℤ)) (image : Image)
    → StandsForBook image total (with_slots book id series slots)
    → within total book id series (Ok slots) ≡ Ok (record { book = with_slots book id series slots; slots = length slots })
fits_within total book id series slots image stands = fitted-ok total (with_slots book id series slots) (length slots)
    (few_in_use image total (with_slots book id series slots) stands)

-- a tree that wants pages is a book that does
pub tree_refused : (image : Image) (s : Superblock) (total : ℕ) (book : List Series) (id : ℕ) (series : Series) (slots : List (Option ℤ))
    (old new : Txn) (e : RepairError) → IsStore image s book → s.total ≡ total → slice_get book id ≡ Some series
    → length slots ≤ MOST_SLOTS → old.superblock ≡ s → IsErrorFor old new series.slots slots e
    → IsRefusedBy (within total book id series (Ok slots)) (error_of e)
tree_refused image s total book id series slots old new (FullTree needed have) store same there few numbers error =
    let P : Superblock → Type 0 = λ s. IsFullFor s.total (in_use s) series.slots slots needed have in
    let full = full_book image s book id series slots needed have store there few (subst P numbers error.0) in
    fitted-full total (with_slots book id series slots) (length slots) needed have (sym full.0) (full.1
    ∙ same) (omega (arith, full.1, full.2))
tree_refused image s total book id series slots old new TreeFault store same there few numbers error = error
tree_refused image s total book id series slots old new (DamagedTree page) store same there few numbers error = error
tree_refused image s total book id series slots old new TreeMemory store same there few numbers error = absurd error
