use Rattle.series_book.specs.declared.refusals.Refusal.TheVariants.{SeriesExists, TooManySeries}
use Rattle.std.proofs.Common.{◌≡◌, ℕ, ◌++◌, ◌∷◌, [], ℤ, List, length, IsTrue, Ok, Err, refl, to_z, of_z, sym, ap, subst, ◌∙◌, arith}
use Rattle.series_book.specs.Names.{is_name}
use Rattle.std.specs.Option.{is_some}
use Rattle.std.specs.Int.{w64}
use Rattle.std.proofs.lemmas.Int.{to_z-of_z}
use Rattle.series_book.specs.Edits.{id_of, created}
use Rattle.series_book.proofs.EditLemmas.{created-exists, created-full, none_from_test}
use Rattle.series_store.proofs.StoreLemmas.{same_names, as_many}
use Rattle.series_store.proofs.StageLemmas.{staged_error, staged_store}
use Rattle.series_store.specs.Staging.{IsStagedBy}
use Rattle.series_store.specs.declared.errors.StoreError.TheVariants.{Refused}
use Rattle.block_disk.specs.View.{Image}
use Rattle.page_space.specs.Transactions.{left_by}
use Rattle.series_catalog.specs.declared.stored_series.StoredSeries.{StoredSeries}
use Rattle.stored_book.specs.Standing.{IsStore}
use Rattle.series_book.specs.declared.one_series.Series.{Series}
use Rattle.series_book.specs.Books.{IsBook}
use Rattle.series_store.proofs.CreateLemmas.{is_new_series, is_new_entry, created_answer}
use Rattle.series_store.proofs.creating.create.Goals as goal

pub returns-then-is_some-clause-answered : goal.returns-then-is_some-clause-answered
returns-then-is_some-clause-answered g c = λ total book is stands.
    let txn = c.args.txn.now in
    let base : Image = (g.P.Pages.view c.args.space.now.pages).image in
    let items : List StoredSeries = c.args.catalog.now.series.items in
    let store : IsStore (left_by txn base) txn.superblock book = (staged_store txn base total book c.requires.staged.catalog.small stands).0
    in
    let there : is_some (id_of c.args.name.now book) ≡ is_some c.find.result =
    ap (λ o. is_some o) (sym (same_names (left_by txn base) txn.superblock book items c.args.name.now store
    (c.requires.staged.catalog.are_told is) c.requires.staged.catalog.count) ∙ sym c.find.ensures.id) in
    staged_error (created book (record {
      name = c.args.name.now;
      start = c.args.start;
      step = c.args.step;
      scale = c.args.scale;
      slots = [];
    })) 0 total (Err (Refused SeriesExists)) (Refused SeriesExists) txn txn (left_by txn base) refl
    (created-exists book _ (there ∙ sym c.is_some.ensures ∙ c.if-is_some.true)) (λ same. refl)

pub returns-then-len-ge-MOST_SERIES-clause-answered : goal.returns-then-len-ge-MOST_SERIES-clause-answered
returns-then-len-ge-MOST_SERIES-clause-answered g c = λ total book is stands.
    let txn = c.args.txn.now in
    let base : Image = (g.P.Pages.view c.args.space.now.pages).image in
    let items : List StoredSeries = c.args.catalog.now.series.items in
    let store : IsStore (left_by txn base) txn.superblock book = (staged_store txn base total book c.requires.staged.catalog.small stands).0
    in
    let there : is_some (id_of c.args.name.now book) ≡ is_some c.find.result =
    ap (λ o. is_some o) (sym (same_names (left_by txn base) txn.superblock book items c.args.name.now store
    (c.requires.staged.catalog.are_told is) c.requires.staged.catalog.count) ∙ sym c.find.ensures.id) in
    let many : length items ≡ length book = as_many (left_by txn base) txn.superblock book items store c.requires.staged.catalog.count in
    staged_error (created book (record {
      name = c.args.name.now;
      start = c.args.start;
      step = c.args.step;
      scale = c.args.scale;
      slots = [];
    })) 0 total (Err (Refused TooManySeries)) (Refused TooManySeries) txn txn (left_by txn base) refl
    (created-full book _ (there ∙ sym c.is_some.ensures
    ∙ c.if-is_some.false) (omega (arith, many, c.len.ensures.count, c.if-len-ge-MOST_SERIES.true))) (λ same. refl)

pub add_series-requires-clause-entry : goal.add_series-requires-clause-entry
add_series-requires-clause-entry g c =
    is_new_entry c.args.txn.now.superblock.fresh c.in_ok-copy.field-0 c.args.start
    (to_z w64 (of_z w64 c.args.start)) c.args.step c.args.scale (to_z-of_z w64 c.args.start c.ranges.start)
    (let N : List ℕ → Type 0 = λ name. IsTrue (is_name name) in
    subst N (sym c.in_ok-copy.ensures.equal) c.in_ok-copy.ensures.named) c.requires.is_edit

pub returns-clause-answered : goal.returns-clause-answered
returns-clause-answered g c = λ total book is stands.
    let txn = c.args.txn.now in
    let base : Image = (g.P.Pages.view c.args.space.now.pages).image in
    let items : List StoredSeries = c.args.catalog.now.series.items in
    let store : IsStore (left_by txn base) txn.superblock book = (staged_store txn base total book c.requires.staged.catalog.small stands).0
    in
    let there : is_some (id_of c.args.name.now book) ≡ is_some c.find.result =
    ap (λ o. is_some o) (sym (same_names (left_by txn base) txn.superblock book items c.args.name.now store
    (c.requires.staged.catalog.are_told is) c.requires.staged.catalog.count) ∙ sym c.find.ensures.id) in
    let none = none_from_test (id_of c.args.name.now book) (there ∙ sym c.is_some.ensures ∙ c.if-is_some.false) in
    let many : length items ≡ length book = as_many (left_by txn base) txn.superblock book items store c.requires.staged.catalog.count in
    let series : List ℕ → ℤ → Series = λ name start. record {
      name = name;
      start = start;
      step = c.args.step;
      scale = c.args.scale;
      slots = [];
    } in
    let A : List ℕ → ℤ → Type 0 = λ name start. (IsBook (book ++ series name start ∷ [])
    → IsStagedBy (Ok (record { book = book ++ series name start ∷ []; slots = 0 })) 0 total c.add_series.result txn c.add_series.new.txn
    (left_by c.add_series.new.txn (g.P.Pages.view c.add_series.new.space.pages).image)) in
    created_answer total book (series c.args.name.now c.args.start) c.add_series.result txn c.add_series.new.txn
    (left_by c.add_series.new.txn (g.P.Pages.view c.add_series.new.space.pages).image) none store.is_book
    (is_new_series c.args.name.now c.args.start c.args.step c.args.scale c.in_ok-copy.ensures.named c.requires.is_edit)
    (omega (arith, many, c.len.ensures.count, c.if-len-ge-MOST_SERIES.false))
    (subst (A c.args.name.now) (to_z-of_z w64 c.args.start c.ranges.start)
    (subst (λ name. A name (to_z w64 (of_z w64 c.args.start))) c.in_ok-copy.ensures.equal
    (c.add_series.ensures.answered total book is stands)))
