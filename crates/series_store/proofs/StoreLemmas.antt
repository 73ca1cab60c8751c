-- A store's catalog and the book for which its pages stand.
use Rattle.std.proofs.Common.{◌≡◌, ℕ, suc, ◌+◌, ◌<◌, ◌^◌, not, cond, ltb, List, [], ◌∷◌, length, Some, None, refl, sym, ap, ◌∙◌, arith}
use Rattle.std.specs.List.{position_or_len, slice_get}
use Rattle.std.specs.Str.{bytes_eq}
use Rattle.block_disk.specs.View.{Image}
use Rattle.page_space.specs.declared.superblock.Superblock.{Superblock}
use Rattle.page_space.specs.Layout.{superblock_page, IsSuperblock}
use Rattle.series_book.specs.declared.one_series.Series.{Series}
use Rattle.series_book.specs.Edits.{id_of}
use Rattle.catalog_page.specs.Entries.{Entry}
use Rattle.stored_book.specs.Records.{entry}
use Rattle.stored_book.specs.Standing.{IsStore, StandsForBook}
use Rattle.series_catalog.specs.declared.stored_series.StoredSeries.{StoredSeries}
use Rattle.series_catalog.specs.Catalogs.{entry_of, place_of, AreAsTold}
use Rattle.stored_book.proofs.NumberLemmas.{small_numbers, numbers}

-- numbers that keep their rules over some pages keep them over as many as there are
own_rules : (count : ℕ) (s : Superblock) → IsSuperblock count s → IsSuperblock s.total s
own_rules count s rules = record {
  total_low = rules.total_low;
  total_high = omega arith;
  fresh_low = rules.fresh_low;
  fresh_high = rules.fresh_high;
  head_is = rules.head_is;
  chain_high = rules.chain_high;
  none = rules.none;
  series_high = rules.series_high;
}

-- the numbers of a store are those with which its pages stand
pub store_of : (count : ℕ) (image : Image) (s : Superblock) (total : ℕ) (book : List Series) → s.total < 2 ^ 32 → IsSuperblock count s
    → image 0 ≡ superblock_page s
    → StandsForBook image total book → IsStore image s book × (s.total ≡ total)
store_of count image s total book small rules spelled stands =
    numbers image total book s stands spelled (small_numbers s.total s small (own_rules count s rules))

-- a name stands at the same place in two lists of the same names
same_first : (name : List ℕ) (items : List StoredSeries) (book : List Series) → length items ≡ length book
    → ((id : ℕ) (one : StoredSeries) (series : Series) → slice_get items id ≡ Some one → slice_get book id ≡ Some series
    → one.name ≡ series.name)
    → position_or_len (λ (one : StoredSeries). bytes_eq one.name name) items ≡ position_or_len
    (λ (series : Series). bytes_eq series.name name) book
same_first name [] [] long same = refl
same_first name [] (series ∷ book) long same = absurd (omega (arith, long))
same_first name (one ∷ items) [] long same = absurd (omega (arith, long))
same_first name (one ∷ items) (series ∷ book) long same =
    let head : one.name ≡ series.name = same 0 one series refl refl in
    let rest = same_first name items book (omega (arith, long)) (λ id a b at at'. same (suc id) a b at at') in
    ap (λ n. cond (not (bytes_eq n name)) (1 + position_or_len (λ (x : StoredSeries). bytes_eq x.name name) items) 0) head
    ∙ ap (λ k. cond (not (bytes_eq series.name name)) (1 + k) 0) rest

same_place : (name : List ℕ) (items : List StoredSeries) (book : List Series) → length items ≡ length book
    → ((id : ℕ) (one : StoredSeries) (series : Series) → slice_get items id ≡ Some one → slice_get book id ≡ Some series
    → one.name ≡ series.name)
    → place_of name items ≡ id_of name book
unfolding place_of id_of
same_place name items book long same =
    ap (λ k. cond (ltb k (length items)) (Some k) None) (same_first name items book long same)
    ∙ ap (λ n. cond (ltb (position_or_len (λ (series : Series). bytes_eq series.name name) book) n)
    (Some (position_or_len (λ (series : Series). bytes_eq series.name name) book)) None) long

-- the catalog has as many series as the book
pub as_many : (image : Image) (s : Superblock) (book : List Series) (items : List StoredSeries) → IsStore image s book
    → length items ≡ s.series → length items ≡ length book
as_many image s book items store counted = counted ∙ store.series_are

-- and they have the same names
pub same_names : (image : Image) (s : Superblock) (book : List Series) (items : List StoredSeries) (name : List ℕ) → IsStore image s book
    → AreAsTold image items → length items ≡ s.series
    → place_of name items ≡ id_of name book
same_names image s book items name store told counted =
    same_place name items book (as_many image s book items store counted) (λ id one series there there'.
    let says : entry image id ≡ entry_of one = told id one there in
    ap (λ (e : Entry). e.name) (sym says) ∙ (store.kept id series there').record_is.name)
