-- One series that pages hold.
use Rattle.std.proofs.Common.{◌≡◌, ℕ, ◌<◌, List, length, map, get_or, Some, sym, ap, subst, arith, inl, inr, ◌∙◌}
use Rattle.std.specs.List.{slice_get}
use Rattle.std.proofs.lemmas.Bool.{cases_lt}
use Rattle.std.proofs.lemmas.List.{length-map, get_or-map}
use Rattle.std.proofs.lemmas.Option.{get_or_from_slice_get, slice_get-get_or, slice_get_within}
use Rattle.block_disk.specs.View.{Image}
use Rattle.page_space.specs.declared.superblock.Superblock.{Superblock}
use Rattle.series_book.specs.declared.one_series.Series.{Series}
use Rattle.series_book.specs.Books.{IsBook}
use Rattle.stored_book.specs.OneSeries.{HoldsSeries}
use Rattle.stored_book.specs.Records.{entry}
use Rattle.stored_book.specs.Standing.{IsKept, IsStore}
use Rattle.stored_book.proofs.TellingLemmas.{series_are}

-- no two series of a book have one name
apart : (book : List Series) (i j : ℕ) (one other : Series) → IsBook book → slice_get book i ≡ Some one → slice_get book j ≡ Some other
    → one.name ≡ other.name → i < j → ⊥
apart book i j one other is at at' same before =
    let name : Series → List ℕ = λ x. x.name in
    let within : j < length book = slice_get_within book j other at' in
    let low : i < length book = omega (arith, before, within) in
    let first : get_or (map name book) i one.name ≡ one.name = get_or-map name book i one one.name low
    ∙ ap name (get_or_from_slice_get book i one one at) in
    let second : get_or (map name book) j one.name ≡ other.name = get_or-map name book j other one.name within
    ∙ ap name (get_or_from_slice_get book j other other at') in
    is.distinct i j one.name before (omega (arith, within, length-map book name)) (first ∙ same ∙ sym second)

one_id : (book : List Series) (i j : ℕ) (one other : Series) → IsBook book → slice_get book i ≡ Some one → slice_get book j ≡ Some other
    → one.name ≡ other.name → j ≡ i
one_id book i j one other is at at' same = elim (cases_lt i j) [
  | inl before ↦ absurd (apart book i j one other is at at' same before)
  | inr low ↦ elim (cases_lt j i) [
    | inl behind ↦ absurd (apart book j i other one is at' at (sym same) behind)
    | inr high ↦ omega (arith, low, high)
  ]
]

pub holds_each : (image : Image) (s : Superblock) (book : List Series) (id : ℕ) (series : Series) → IsStore image s book
    → slice_get book id ≡ Some series → HoldsSeries image s series.name series
holds_each image s book id series store there = record {
  id = id;
  there = omega (arith, slice_get_within book id series there, store.series_are);
  named = (store.kept id series there).record_is.name;
  alone = λ other low named.
      let within : other < length book = omega (arith, low, store.series_are) in
      let two : Series = get_or book other series in
      let at : slice_get book other ≡ Some two = slice_get-get_or book other series within in
      one_id book id other series two store.is_book there at (sym named ∙ (store.kept other two at).record_is.name);
  so = store.kept id series there;
}

pub one_series : (image : Image) (s : Superblock) (name : List ℕ) (series other : Series) → HoldsSeries image s name series
    → HoldsSeries image s name other → other ≡ series
one_series image s name series other holds holds' =
    let P : ℕ → Type 0 = λ id. IsKept image s.total other (entry image id) in
    let kept : IsKept image s.total other (entry image holds.id) = subst P (holds.alone holds'.id holds'.there holds'.named) holds'.so in
    series_are image s.total other (entry image holds.id) kept ∙ sym (series_are image s.total series (entry image holds.id) holds.so)
