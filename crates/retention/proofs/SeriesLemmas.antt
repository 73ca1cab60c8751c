-- The clears of a rule that names a series.
use Rattle.std.proofs.Common.{◌≡◌, ℕ, ℤ, ◌-◌, ◌/◌, ◌<◌, ◌≤◌, List, [], ◌∷◌, length, Option, None, Some, Ok, refl, sym, ap, ◌∙◌, arith}
use Rattle.std.specs.Prelude.{int_lt}
use Rattle.std.specs.List.{slice_get}
use Rattle.om3_coeff.specs.Walks.{IsFirstStored}
use Rattle.series_book.specs.declared.limits.TheConstants.{MOST_CLEARED}
use Rattle.series_book.specs.declared.one_series.Series.{Series}
use Rattle.series_book.specs.declared.edits.Edit.{Edit}
use Rattle.series_book.specs.Books.{IsBook}
use Rattle.series_book.specs.Edits.{apply, id_of, cleared}
use Rattle.series_book.specs.Pages.{count_below}
use Rattle.retention.specs.declared.rule.Rule.TheVariants.{Before, Last}
use Rattle.retention.specs.Sweeps.{at_id, named, clear_of, clears_of, clears_if, range_end, range_first, slot_time, slots_before, values_of}
use Rattle.retention.specs.Steps.{IsNext}
use Rattle.retention.proofs.SlotLemmas.{cleared_is, values_fall}
use Rattle.retention.proofs.RangeLemmas.{clears_next, clears_none}
use Rattle.retention.proofs.BookLemmas.{cleared_book, cleared_series, cleared_id, cleared_is_book, cleared_there, cleared_values}
use Rattle.retention.proofs.BookLemmas.{clear_accepted}

-- the series of the name is the one of the id
pub named_is : (book : List Series) (name : List ℕ) (id : ℕ) (series : Series) → id_of name book ≡ Some id → slice_get book id ≡ Some series
    → named book name ≡ Some series
named_is book name id series at there = ap (λ (o : Option ℕ). at_id book o) at ∙ there

-- where the old slots of an aligned range lie
pub range_lies : (old long s q : ℕ) → old ≤ long → s < old → q ≡ s / 4096
    → (range_first q ≤ s) × (s < range_end old q) × (range_end old q ≤ long) × (range_end old q - range_first q ≤ MOST_CLEARED)
range_lies old long s q within low is = (omega (arith, is), omega (arith, is, low), omega (arith, within), omega arith)

-- a series of which some first slots are old, and the first of these that is stored
pub record IsOldIn (book : List Series) (name : List ℕ) (old : Series → ℕ) (id : ℕ) (series : Series) (s : ℕ) (v : ℤ) : Type 0 where
  pub is_book : IsBook book
  pub at : id_of name book ≡ Some id
  pub there : slice_get book id ≡ Some series
  pub within : old series ≤ length series.slots
  pub stays : (after : Series) → after.start ≡ series.start → after.step ≡ series.step → length after.slots ≡ length series.slots
      → old after ≡ old series
  pub found : IsFirstStored series.slots 0 (old series) (Some (s, v))

abbrev pub first_clear : List ℕ → Series → ℕ → ℕ → Edit
first_clear name series old s = clear_of name series (range_first (s / 4096)) (range_end old (s / 4096))

abbrev pub behind_clear : List Series → ℕ → Series → ℕ → ℕ → List Series
behind_clear book id series old s = cleared_book book id series (range_first (s / 4096)) (range_end old (s / 4096))

pub series_accepted : (total : ℕ) (book : List Series) (name : List ℕ) (old : Series → ℕ) (id : ℕ) (series : Series) (s : ℕ) (v : ℤ)
    → (is : IsOldIn book name old id series s v)
    → (slots : ℕ) × (apply book total (first_clear name series (old series) s) ≡ Ok
    (record { book = behind_clear book id series (old series) s; slots = slots }))
series_accepted total book name old id series s v is =
    let lies = range_lies (old series) (length series.slots) s (s / 4096) is.within is.found.1 refl in (
      length (cleared series.slots (range_first (s / 4096)) (range_end (old series) (s / 4096) - range_first (s / 4096))),
      clear_accepted total book name id series (range_first (s / 4096))
          (range_end (old series) (s / 4096)) is.is_book is.at is.there lies.3,
    )

pub series_first : (book : List Series) (name : List ℕ) (old : Series → ℕ) (id : ℕ) (series : Series) (s : ℕ) (v : ℤ)
    → (is : IsOldIn book name old id series s v)
    → clears_if name (named book name) old ≡ first_clear name series (old series) s ∷ clears_if name
    (named (behind_clear book id series (old series) s) name) old
series_first book name old id series s v is =
    let q : ℕ = s / 4096 in
    let n : ℕ = old series in
    let first : ℕ = range_first q in
    let end : ℕ = range_end n q in
    let lies = range_lies n (length series.slots) s q is.within is.found.1 refl in
    let after : Series = cleared_series series first end in
    let new : List Series = cleared_book book id series first end in
    let changed = cleared_is series.slots first end (omega (arith, lies.0, lies.1)) lies.2 in
    let here : named new name ≡ Some after = named_is new name id after (cleared_id book name id series first end is.there
    ∙ is.at) (cleared_there book id series first end is.there) in
    let still : old after ≡ n = is.stays after refl refl changed.length_is in
    ap (λ (o : Option Series). clears_if name o old) (named_is book name id series is.at is.there)
    ∙ clears_next name series after n s q v is.found refl (record { start = refl; step = refl }) changed
    ∙ ap (λ (k : ℕ). clear_of name series first end ∷ clears_of name after k) (sym still)
    ∙ ap (λ (o : Option Series). clear_of name series first end ∷ clears_if name o old) (sym here)

pub series_fewer : (book : List Series) (name : List ℕ) (old : Series → ℕ) (id : ℕ) (series : Series) (s : ℕ) (v : ℤ)
    → (is : IsOldIn book name old id series s v)
    → values_of (behind_clear book id series (old series) s) < values_of book
series_fewer book name old id series s v is =
    let q : ℕ = s / 4096 in
    let first : ℕ = range_first q in
    let end : ℕ = range_end (old series) q in
    let lies = range_lies (old series) (length series.slots) s q is.within is.found.1 refl in
    let changed = cleared_is series.slots first end (omega (arith, lies.0, lies.1)) lies.2 in
    cleared_values book id series first end is.there
    (values_fall series.slots (cleared series.slots first (end - first)) first end s v changed lies.0 lies.1 is.found.2)

pub series_book : (book : List Series) (name : List ℕ) (old : Series → ℕ) (id : ℕ) (series : Series) (s : ℕ) (v : ℤ)
    → (is : IsOldIn book name old id series s v) → IsBook (behind_clear book id series (old series) s)
series_book book name old id series s v is = cleared_is_book book id series (range_first (s / 4096))
    (range_end (old series) (s / 4096)) is.is_book is.there

-- what is left where none of them is stored
pub series_none : (book : List Series) (name : List ℕ) (old : Series → ℕ) (id : ℕ) (series : Series) → id_of name book ≡ Some id
    → slice_get book id ≡ Some series → IsFirstStored series.slots 0 (old series) None
    → clears_if name (named book name) old ≡ []
series_none book name old id series at there clear =
    ap (λ (o : Option Series). clears_if name o old) (named_is book name id series at there) ∙ clears_none name series (old series) clear

-- so for a time, and for the last slots
pub before_stays : (series : Series) (time : ℤ) (after : Series) → after.start ≡ series.start → after.step ≡ series.step
    → length after.slots ≡ length series.slots → slots_before after time ≡ slots_before series time
unfolding slots_before
before_stays series time after start step long =
    ap (λ n. count_below (λ slot. int_lt (slot_time after slot) time) n) long
    ∙ ap (λ (a : ℤ). count_below (λ slot. int_lt (slot_time (record after { start = a }) slot) time) (length series.slots)) start
    ∙ ap (λ (d : ℕ). count_below (λ slot. int_lt (slot_time (record after { start = series.start; step = d }) slot) time)
    (length series.slots)) step

pub before_next : (total : ℕ) (book : List Series) (name : List ℕ) (time : ℤ) (id : ℕ) (series : Series) (s : ℕ) (v : ℤ)
    → (is : IsOldIn book name (λ one. slots_before one time) id series s v)
    → IsNext total book (Before name time) (first_clear name series (slots_before series time) s)
before_next total book name time id series s v is =
    let old : Series → ℕ = λ one. slots_before one time in
    let accepted = series_accepted total book name old id series s v is in
    record {
      after = behind_clear book id series (old series) s;
      slots = accepted.0;
      accepted = accepted.1;
      first = series_first book name old id series s v is;
      fewer = series_fewer book name old id series s v is;
      is_book = series_book book name old id series s v is;
    }

pub last_next : (total : ℕ) (book : List Series) (name : List ℕ) (count : ℕ) (id : ℕ) (series : Series) (s : ℕ) (v : ℤ)
    → (is : IsOldIn book name (λ one. length one.slots - count) id series s v)
    → IsNext total book (Last name count) (first_clear name series (length series.slots - count) s)
last_next total book name count id series s v is =
    let old : Series → ℕ = λ one. length one.slots - count in
    let accepted = series_accepted total book name old id series s v is in
    record {
      after = behind_clear book id series (old series) s;
      slots = accepted.0;
      accepted = accepted.1;
      first = series_first book name old id series s v is;
      fewer = series_fewer book name old id series s v is;
      is_book = series_book book name old id series s v is;
    }
