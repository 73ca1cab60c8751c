-- A series more behind those of a catalog.
use Rattle.std.proofs.Common.{◌≡◌, ◌≢◌, ℕ, zero, suc, ◌+◌, ◌-◌, ◌*◌, ◌<◌, ◌≤◌, ◌⊎◌, min, Bool, true, false, cond, ltb, List, [], ◌∷◌, ◌++◌}
use Rattle.std.proofs.Common.{length, map, get_or, Option, Some, None, AllPairs, refl, sym, ap, ◌∙◌, subst, arith, inl, inr}
use Rattle.std.specs.List.{position_or_len, position, slice_get}
use Rattle.std.specs.Str.{bytes_eq}
use Rattle.std.proofs.lemmas.Bool.Decides.{nat_tests}
use Rattle.std.proofs.lemmas.List.{length-map, map_push, get_or-map, length_push}
use Rattle.std.proofs.lemmas.List.Quantifiers.{all_pairs_push, position-Some}
use Rattle.std.proofs.lemmas.List.Sums.{fails_before_first}
use Rattle.std.proofs.lemmas.Option.{slice_get_cases}
use Rattle.std.proofs.lemmas.Slice.Eq.{bytes_eq-Decides}
use Rattle.block_disk.specs.View.{Image}
use Rattle.catalog_page.specs.Entries.{Entry, IsEntry, entry_at}
use Rattle.catalog_page.specs.Places.{page_of, number_of, records_of}
use Rattle.stored_book.specs.Records.{entry}
use Rattle.series_catalog.specs.Catalogs.{entry_of, place_of, AreFit, AreAsTold}
use Rattle.series_catalog.specs.Reading.{HasRepeatedName, AreRead}
use Rattle.series_catalog.specs.declared.stored_series.StoredSeries.{StoredSeries}

-- where no series has the name, the name of each is another
none_named : (name : List ℕ) (series : List StoredSeries) → place_of name series ≡ None
    → (k : ℕ) (d : StoredSeries) → k < length series → (get_or series k d).name ≢ name
unfolding place_of
none_named name series none k d within same =
    let test : StoredSeries → Bool = λ one. bytes_eq one.name name in
    let gone : cond (ltb (position_or_len test series) (length series)) (Some (position_or_len test series)) None ≡ None = none in
    let past : length series ≤ position_or_len test series = grind (arith, nat_tests, gone) in
    let fails : test (get_or series k d) ≡ false = fails_before_first test series k d (omega arith) in
    let passes : test (get_or series k d) ≡ true = (bytes_eq-Decides (get_or series k d).name name).1 same in
    let both : true ≡ false = sym passes ∙ fails in
    cc

-- names stay distinct with a new one behind them
pub names_more : (series : List StoredSeries) (one : StoredSeries) → AllPairs (λ a b. a ≢ b) (map (λ (s : StoredSeries). s.name) series)
    → place_of one.name series ≡ None
    → AllPairs (λ a b. a ≢ b) (map (λ (s : StoredSeries). s.name) (series ++ one ∷ []))
names_more series one distinct new =
    let name : StoredSeries → List ℕ = λ s. s.name in
    let P : List (List ℕ) → Type 0 = λ xs. AllPairs (λ a b. a ≢ b) xs in
    let others : (k : ℕ) (d : List ℕ) → k < length (map name series) → get_or (map name series) k d ≢ one.name =
    λ k d within same.
    let within' : k < length series = omega (arith, length-map series name) in
    none_named one.name series new k one within' (sym (get_or-map name series k one d within') ∙ same) in
    subst P (sym (map_push name series one)) (all_pairs_push (λ a b. a ≢ b) (map name series) one.name distinct others)

-- what stands in a longer list stood there, or it is the last
pushed : (series : List StoredSeries) (one x : StoredSeries) (id : ℕ) → slice_get (series ++ one ∷ []) id ≡ Some x
    → (slice_get series id ≡ Some x) ⊎ ((id ≡ length series) × (x ≡ one))
pushed [] one x zero is = inr (refl, cc)
pushed [] one x (suc id) is = cc
pushed (s ∷ series) one x zero is = inl is
pushed (s ∷ series) one x (suc id) is = elim (pushed series one x id is) [
  | inl there ↦ inl there
  | inr last ↦ inr (ap suc last.0, last.1)
]

pub fit_more : (fresh : ℕ) (series : List StoredSeries) (one : StoredSeries) → AreFit fresh series → IsEntry fresh (entry_of one)
    → AreFit fresh (series ++ one ∷ [])
fit_more fresh series one fit is id x there = elim (pushed series one x id there) [
  | inl before ↦ fit id x before
  | inr last ↦
      let P : StoredSeries → Type 0 = λ s. IsEntry fresh (entry_of s) in
      subst P (sym last.1) is
]

pub told_more : (image : Image) (series : List StoredSeries) (one : StoredSeries) → AreAsTold image series
    → entry image (length series) ≡ entry_of one → AreAsTold image (series ++ one ∷ [])
told_more image series one told is id x there = elim (pushed series one x id there) [
  | inl before ↦ told id x before
  | inr last ↦ ap (λ n. entry image n) last.0 ∙ is ∙ ap (λ (s : StoredSeries). entry_of s) (sym last.1)
]

some_of : (o : Option ℕ) → o ≢ None → (n : ℕ) × (o ≡ Some n)
some_of None some = absurd (some refl)
some_of (Some n) some = (n, refl)

-- a series of this name, and its place
record IsThere (name : List ℕ) (series : List StoredSeries) : Type 0 where
  at : ℕ
  one : StoredSeries
  within : at < length series
  there : slice_get series at ≡ Some one
  named : one.name ≡ name

nowhere : (n : ℕ) (series : List StoredSeries) (test : StoredSeries → Bool) → length series ≤ n → position test series ≡ Some n → ⊥
nowhere n [] test past is = cc
nowhere n (s ∷ series) test past is = omega (arith, past, (position-Some test (s ∷ series) n s is).0)

there_is : (name : List ℕ) (series : List StoredSeries) → place_of name series ≢ None → IsThere name series
unfolding place_of
there_is name series some =
    let test : StoredSeries → Bool = λ one. bytes_eq one.name name in
    let found = some_of (position test series) some in
    elim (slice_get_cases series found.0).1 [
      | inl here ↦
          let is = position-Some test series found.0 here.0 found.1 in
          let passes : bytes_eq (here.0).name name ≡ true = ap test (sym here.3) ∙ is.1 in
          record { at = found.0; one = here.0; within = here.1; there = here.2; named = (bytes_eq-Decides (here.0).name name).0 passes }
      | inr past ↦ absurd (nowhere found.0 series test past.0 found.1)
    ]

-- a series of a page whose name stood there before
pub repeated : (image : Image) (series : List StoredSeries) (one : StoredSeries) (count page : ℕ) → place_of one.name series ≢ None
    → AreAsTold image series → entry image (length series) ≡ entry_of one
    → page_of (length series) ≡ page → length series < count → HasRepeatedName image count page
repeated image series one count page some told is in_page within =
    let there = there_is one.name series some in
    record {
      first = there.at;
      second = length series;
      before = there.within;
      within = within;
      in_page = in_page;
      same = ap (λ (e : Entry). e.name) (told there.at there.one there.there) ∙ there.named ∙ sym (ap (λ (e : Entry). e.name) is);
    }

-- The records of a page of the catalog are those of the series behind those of the pages before it.
pub record IsPlace (page count len number : ℕ) : Type 0 where
  pub page_is : page_of (len + number) ≡ page
  pub number_is : number_of (len + number) ≡ number
  pub within : len + number < count

pub place_is : (page count len number : ℕ) → 1 ≤ page → len ≡ min (32 * (page - 1)) count → number < records_of page count
    → IsPlace page count len number
unfolding page_of number_of records_of
place_is page count len number low is below =
    let at : len ≡ 32 * (page - 1) = omega arith in
    record { page_is = omega arith; number_is = omega arith; within = omega arith }

pub len_more : (page count len : ℕ) → 1 ≤ page → len ≡ min (32 * (page - 1)) count → len + records_of page count ≡ min (32 * page) count
unfolding records_of
len_more page count len low is = omega arith

-- the record of the series that comes next
pub next_entry : (image : Image) (bytes : List ℕ) (page count len number : ℕ) (e : Entry) → image page ≡ bytes
    → IsPlace page count len number → entry_at bytes number ≡ e → entry image (len + number) ≡ e
next_entry image bytes page count len number e same place is =
    ap (λ p. entry_at (image p) (number_of (len + number))) place.page_is ∙ ap (λ b. entry_at b (number_of (len + number))) same
    ∙ ap (λ n. entry_at bytes n) place.number_is ∙ is

-- the first so many series of a page of these bytes stand behind the old ones
pub record IsReadTo (bytes : List ℕ) (page fresh number : ℕ) (old series : List StoredSeries) : Type 0 where
  pub len : length series ≡ length old + number
  pub fit : AreFit fresh series
  pub distinct : AllPairs (λ a b. a ≢ b) (map (λ (s : StoredSeries). s.name) series)
  pub told : (image : Image) → image page ≡ bytes → AreAsTold image old → AreAsTold image series

-- the record of the next series, as it was read
pub record IsNext (bytes : List ℕ) (page count fresh number : ℕ) (old : List StoredSeries) (one : StoredSeries) : Type 0 where
  pub place : IsPlace page count (length old) number
  pub says : entry_at bytes number ≡ entry_of one
  pub fit : IsEntry fresh (entry_of one)

pub next_is : (bytes bytes' : List ℕ) (page count fresh fresh' number : ℕ) (old : List StoredSeries) (one : StoredSeries) (r : Entry)
    → 1 ≤ page → length old ≡ min (32 * (page - 1)) count → number < records_of page count
    → bytes' ≡ bytes → fresh' ≡ fresh → r ≡ entry_at bytes' number → IsEntry fresh' r → entry_of one ≡ r
    → IsNext bytes page count fresh number old one
next_is bytes bytes' page count fresh fresh' number old one r low len below same same' is fits says =
    let P : ℕ → Type 0 = λ n. IsEntry n r in
    let Q : Entry → Type 0 = λ e. IsEntry fresh e in
    record {
      place = place_is page count (length old) number low len below;
      says = ap (λ b. entry_at b number) (sym same) ∙ sym is ∙ sym says;
      fit = subst Q (sym says) (subst P same' fits);
    }

next_told : (bytes : List ℕ) (page count fresh number : ℕ) (old series : List StoredSeries) (one : StoredSeries) (image : Image)
    → IsNext bytes page count fresh number old one → length series ≡ length old + number → image page ≡ bytes
    → entry image (length series) ≡ entry_of one
next_told bytes page count fresh number old series one image next len same =
    ap (λ n. entry image n) len ∙ next_entry image bytes page count (length old) number (entry_of one) same next.place next.says

pub read_more : (bytes : List ℕ) (page count fresh number : ℕ) (old series series' : List StoredSeries) (one : StoredSeries)
    → IsNext bytes page count fresh number old one → series' ≡ series ++ one ∷ [] → place_of one.name series ≡ None
    → IsReadTo bytes page fresh number old series → IsReadTo bytes page fresh (number + 1) old series'
read_more bytes page count fresh number old series series' one next is new read =
    let P : List StoredSeries → Type 0 = λ l. IsReadTo bytes page fresh (number + 1) old l in
    subst P (sym is) (record {
      len = omega (arith, read.len, length_push series one);
      fit = fit_more fresh series one read.fit next.fit;
      distinct = names_more series one read.distinct new;
      told = λ image same were. told_more image series one (read.told image same were)
          (next_told bytes page count fresh number old series one image next read.len same);
    })

pub bad_more : (bytes : List ℕ) (page count fresh number : ℕ) (old series : List StoredSeries) (one : StoredSeries) (image : Image)
    → IsNext bytes page count fresh number old one → IsReadTo bytes page fresh number old series
    → place_of one.name series ≢ None → image page ≡ bytes → AreAsTold image old → HasRepeatedName image count page
bad_more bytes page count fresh number old series one image next read some same were =
    let at : length series ≡ length old + number = read.len in
    repeated image series one count page some (read.told image same were)
    (next_told bytes page count fresh number old series one image next read.len same)
    (ap (λ n. page_of n) at ∙ next.place.page_is) (omega (arith, at, next.place.within))

pub read_none : (bytes : List ℕ) (page count fresh : ℕ) (old : List StoredSeries) → AreRead (page - 1) count fresh old
    → IsReadTo bytes page fresh 0 old old
read_none bytes page count fresh old read = record {
  len = omega arith;
  fit = read.fit;
  distinct = read.distinct;
  told = λ image same were. were;
}

pub read_all : (bytes : List ℕ) (page count fresh number : ℕ) (old series : List StoredSeries) → 1 ≤ page → number ≡ records_of page count
    → AreRead (page - 1) count fresh old → IsReadTo bytes page fresh number old series
    → AreRead page count fresh series
read_all bytes page count fresh number old series low all before read = record {
  len = omega (arith, read.len, all, len_more page count (length old) low before.len);
  fit = read.fit;
  distinct = read.distinct;
}
