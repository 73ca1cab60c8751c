-- Where a catalog has a name.
use Rattle.std.proofs.Common.{◌≡◌, ◌∙◌, ℕ, zero, suc, ◌+◌, ◌<◌, Bool, true, false, cond, not, List, [], ◌∷◌, length, map, get_or, Some}
use Rattle.std.proofs.Common.{None, refl, sym, ap, subst, arith}
use Rattle.std.proofs.lemmas.Bool.{lt-ltb}
use Rattle.std.proofs.lemmas.List.Quantifiers.{position-Some}
use Rattle.std.proofs.lemmas.Slice.Eq.{bytes_eq-Decides}
use Rattle.std.specs.List.{position_or_len, slice_get}
use Rattle.std.specs.Str.{bytes_eq}
use Rattle.block_disk.specs.View.{Image}
use Rattle.catalog_page.specs.Entries.{Entry}
use Rattle.page_space.specs.declared.superblock.Superblock.{Superblock}
use Rattle.series_catalog.specs.Catalogs.{AreAsTold, entry_of, place_of}
use Rattle.series_catalog.specs.declared.stored_series.StoredSeries.{StoredSeries}
use Rattle.series_store.specs.Asking.{IsNamedAt, LacksName}
use Rattle.series_store.proofs.AskLemmas.{there}
use Rattle.stored_book.specs.Records.{entry}

got : {X : Type 0} (xs : List X) (i : ℕ) (x d : X) → slice_get xs i ≡ Some x → get_or xs i d ≡ x
got [] i x d at = cc
got (y ∷ xs) zero x d at = cc
got (y ∷ xs) (suc i) x d at = got xs i x d at

-- where one passes the test, the first that does is in the list
first_low : {X : Type 0} (p : X → Bool) (xs : List X) (i : ℕ) (x : X) → slice_get xs i ≡ Some x → p x ≡ true
    → position_or_len p xs < length xs
first_low p [] i x at is = cc
first_low p (y ∷ xs) zero x at is =
    let same : y ≡ x = cc in
    let B : Bool → Type 0 = λ b. cond (not b) (1 + position_or_len p xs) 0 < length (y ∷ xs) in
    subst B (sym (ap p same ∙ is)) (omega arith)
first_low p (y ∷ xs) (suc i) x at is =
    let low = first_low p xs i x at is in
    elim (p y) as (λ b. cond (not b) (1 + position_or_len p xs) 0 < length (y ∷ xs)) [
      | true ↦ omega arith
      | false ↦ omega (arith, low)
    ]

-- the series that is found has the name
pub place_named : (name : List ℕ) (items : List StoredSeries) (id : ℕ) → place_of name items ≡ Some id → IsNamedAt items name id
unfolding place_of
place_named name items id place = λ one at.
    let p : StoredSeries → Bool = λ one. bytes_eq one.name name in
    let found = position-Some p items id one place in
    (bytes_eq-Decides one.name name).0 (sym (ap p (got items id one one at)) ∙ found.1)

-- and where none is found none has it
pub place_none : (name : List ℕ) (items : List StoredSeries) → place_of name items ≡ None → LacksName items name
unfolding place_of
place_none name items place = λ id one at named.
    let p : StoredSeries → Bool = λ one. bytes_eq one.name name in
    let low = first_low p items id one at ((bytes_eq-Decides one.name name).1 named) in
    let C : Bool → Type 0 = λ b. cond b (Some (position_or_len p items)) None ≡ None in
    let never : Some (position_or_len p items) ≡ None = subst C (lt-ltb (position_or_len p items) (length items) low) place in
    cc

-- so it is of the records of the pages
pub named_record : (image : Image) (items : List StoredSeries) (name : List ℕ) (id : ℕ) → id < length items → AreAsTold image items
    → IsNamedAt items name id → (entry image id).name ≡ name
named_record image items name id low told named =
    let one = there items id low in
    ap (λ (e : Entry). e.name) (told id one.0 one.1) ∙ named one.0 one.1

pub no_record : (image : Image) (s : Superblock) (items : List StoredSeries) (name : List ℕ) → length items ≡ s.series
    → AreAsTold image items → LacksName items name → (id : ℕ) → id < s.series → (entry image id).name ≡ name → ⊥
no_record image s items name count told lacks id low named =
    let one = there items id (omega (arith, low, count)) in
    lacks id one.0 one.1 (sym (ap (λ (e : Entry). e.name) (told id one.0 one.1)) ∙ named)

-- ---- what the records of a catalog say, as a list

pub entry_there : (items : List StoredSeries) (id : ℕ) (one : StoredSeries) → slice_get items id ≡ Some one
    → slice_get (map entry_of items) id ≡ Some (entry_of one)
entry_there [] id one at = cc
entry_there (o ∷ items) zero one at = let same : o ≡ one = cc in ap (λ (s : StoredSeries). Some (entry_of s)) same
entry_there (o ∷ items) (suc id) one at = entry_there items id one at

pub entry_is : (items : List StoredSeries) (id : ℕ) (e : Entry) → slice_get (map entry_of items) id ≡ Some e
    → (one : StoredSeries) × (slice_get items id ≡ Some one) × (e ≡ entry_of one)
entry_is [] id e at = cc
entry_is (o ∷ items) zero e at = let same : entry_of o ≡ e = cc in (o, refl, sym same)
entry_is (o ∷ items) (suc id) e at = entry_is items id e at

pub as_long : (items : List StoredSeries) → length (map entry_of items) ≡ length items
as_long [] = refl
as_long (o ∷ items) = ap suc (as_long items)

-- they are those of the pages
pub records_are : (image : Image) (items : List StoredSeries) → AreAsTold image items → (id : ℕ) (e : Entry)
    → slice_get (map entry_of items) id ≡ Some e → e ≡ entry image id
records_are image items told id e at =
    let one = entry_is items id e at in
    one.2 ∙ sym (told id one.0 one.1)
