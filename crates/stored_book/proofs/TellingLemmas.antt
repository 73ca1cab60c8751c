-- Pages that stand for a book tell that book.
use Rattle.std.proofs.Common.{◌≡◌, ℕ, ℤ, ◌^◌, ◌<◌, ◌≤◌, List, length, get_or, Option, None, Some, refl, sym, ap, ◌∙◌, arith}
use Rattle.std.specs.Int.{bytes_high_first}
use Rattle.std.proofs.lemmas.List.FromFn.{fill_by_all}
use Rattle.std.proofs.lemmas.Option.{slice_get-get_or}
use Rattle.block_disk.specs.View.{Image}
use Rattle.om3_coeff.specs.Spans.{span_of_slot}
use Rattle.node_page.specs.Fields.{number_at, with_bytes}
use Rattle.node_page.proofs.Bytes.{number_written}
use Rattle.page_space.specs.declared.superblock.Superblock.{Superblock}
use Rattle.page_space.specs.Layout.{word, superblock_page}
use Rattle.series_book.specs.declared.one_series.Series.{Series}
use Rattle.tree_walk.specs.declared.tree.Tree.{Tree}
use Rattle.tree_walk.specs.Trees.{StandsFor}
use Rattle.catalog_page.specs.Entries.{Entry}
use Rattle.path_repair.specs.Changes.{slot_at}
use Rattle.stored_book.specs.Records.{entry, tree_of}
use Rattle.stored_book.specs.Standing.{IsKept, IsStore, StandsForBook}
use Rattle.stored_book.specs.Books.{value_known, value_told, slots_told, series_told, book_of}
use Rattle.stored_book.proofs.OneBook.{slot_key_span, told_slot, slot_is, equal}

-- the count of series stands behind four other numbers
series_written : (s : Superblock) → superblock_page s ≡ with_bytes (superblock_page s) 24 (bytes_high_first 4 s.series)
unfolding superblock_page word with_bytes
series_written s = refl

page_long : (s : Superblock) → 24 ≤ length (superblock_page s)
unfolding superblock_page word
page_long s = omega arith

series_read : (s : Superblock) → s.series < 2 ^ 32 → number_at (superblock_page s) 4 24 ≡ s.series
series_read s small = ap (λ page. number_at page 4 24) (series_written s)
    ∙ number_written 4 24 s.series (superblock_page s) (page_long s) small

-- a slot's span tells its value
value_back : (x : Option ℤ) → value_known (Some (span_of_slot x)) ≡ x
value_back None = refl
value_back (Some v) = refl

value_is : (image : Image) (total : ℕ) (tree : Tree) (list : List (Option ℤ)) (i : ℕ) → StandsFor image total tree list → i < length list
    → value_told image tree i ≡ slot_at list i
value_is image total tree list i stands within =
    ap (λ x. value_known x) (told_slot image total tree list i stands within)
    ∙ ap (λ x. value_known (Some x)) (slot_key_span list i)
    ∙ value_back (slot_at list i)

slots_are : (image : Image) (total : ℕ) (tree : Tree) (list : List (Option ℤ)) → StandsFor image total tree list
    → slots_told image tree ≡ list
unfolding slots_told
slots_are image total tree list stands =
    sym (fill_by_all (value_told image tree) list tree.slots None (sym stands.slots) (λ i low.
    let within : i < length list = omega (arith, low, stands.slots) in
    sym (slot_is list i None within) ∙ sym (value_is image total tree list i stands within)))

pub series_are : (image : Image) (total : ℕ) (series : Series) (e : Entry) → IsKept image total series e → series ≡ series_told image e
series_are image total series e is =
    equal series (series_told image e)
    (sym is.record_is.name)
    (sym is.record_is.start)
    (sym is.record_is.step)
    (sym is.record_is.scale)
    (sym (slots_are image total (tree_of e) series.slots is.tree))

count_told : (image : Image) (s : Superblock) (book : List Series) → IsStore image s book → number_at (image 0) 4 24 ≡ length book
count_told image s book store =
    ap (λ page. number_at page 4 24) store.stands.spelled
    ∙ series_read s (omega (arith, store.stands.rules.series_high))
    ∙ store.series_are

pub told_book : (image : Image) (total : ℕ) (book : List Series) → StandsForBook image total book → book_of image ≡ book
unfolding book_of
told_book image total book stands =
    let store : IsStore image stands.superblock book = stands.store in
    let counted : number_at (image 0) 4 24 ≡ length book = count_told image stands.superblock book store in
    sym (fill_by_all (λ id. series_told image (entry image id)) book (number_at (image 0) 4 24) (series_told image (entry image 0))
    (sym counted) (λ id low.
    let d : Series = series_told image (entry image 0) in
    series_are image stands.superblock.total (get_or book id d) (entry image id)
    (store.kept id (get_or book id d) (slice_get-get_or book id d (omega (arith, low, counted))))))
