use Rattle.std.proofs.Common.{◌≡◌, ℤ, [], length, sym, ap, subst, rules, w64, to_z, of_z, ◌∙◌}
use Rattle.std.specs.Int.{w128}
use Rattle.page_space.specs.Transactions.{held, left_by}
use Rattle.series_book.specs.declared.edits.Edit.{Edit}
use Rattle.series_book.specs.declared.edits.Edit.TheVariants.{Create, Append, Set, Clear}
use Rattle.series_book.specs.Edits.{apply}
use Rattle.series_store.specs.Groups.{touch_of}
use Rattle.series_store.specs.Results.{ClearsNone, KeepsBook}
use Rattle.series_store.specs.Staging.{HasRoomFor, IsStagedBy}
use Rattle.series_store.proofs.KeptLemmas.{created_keeps}
use Rattle.series_store.proofs.staging.stage.Goals as goal

pub append-requires-clause-room : goal.append-requires-clause-room
append-requires-clause-room g c =
    let R : Edit → Type 0 = λ edit. HasRoomFor (length (held c.args.txn.now)) c.args.catalog.now.series.items edit in
    subst R c.in-Append.is c.requires.room

pub set-requires-clause-room : goal.set-requires-clause-room
set-requires-clause-room g c =
    let same : to_z w128 (of_z w128 c.in-Set.time) ≡ c.in-Set.time = search rules in
    let at : Set c.in-Set.name (to_z w128 (of_z w128 c.in-Set.time))
    c.in-Set.values ≡ c.args.edit.now = ap (λ (n : ℤ). Set c.in-Set.name n c.in-Set.values) same ∙ sym c.in-Set.is in
    let R : Edit → Type 0 = λ edit. HasRoomFor (length (held c.args.txn.now)) c.args.catalog.now.series.items edit in
    subst R (sym at) c.requires.room

pub clear-requires-clause-room : goal.clear-requires-clause-room
clear-requires-clause-room g c =
    let same : to_z w128 (of_z w128 c.in-Clear.time) ≡ c.in-Clear.time = search rules in
    let at : Clear c.in-Clear.name (to_z w128 (of_z w128 c.in-Clear.time))
    c.in-Clear.count ≡ c.args.edit.now = ap (λ (n : ℤ). Clear c.in-Clear.name n c.in-Clear.count) same ∙ sym c.in-Clear.is in
    let R : Edit → Type 0 = λ edit. HasRoomFor (length (held c.args.txn.now)) c.args.catalog.now.series.items edit in
    subst R (sym at) c.requires.room

pub create-requires-clause-few : goal.create-requires-clause-few
create-requires-clause-few g c =
    let R : Edit → Type 0 = λ edit. HasRoomFor (length (held c.args.txn.now)) c.args.catalog.now.series.items edit in
    subst R c.in-Create.is c.requires.room

pub returns-in-Create-clause-answered : goal.returns-in-Create-clause-answered
returns-in-Create-clause-answered g c = λ total book told stands.
    let same : to_z w64 (of_z w64 c.in-Create.start) ≡ c.in-Create.start = search rules in
    let at : Create c.in-Create.name (to_z w64 (of_z w64 c.in-Create.start)) c.in-Create.step
    c.in-Create.scale ≡ c.args.edit.now = ap (λ (n : ℤ). Create c.in-Create.name n c.in-Create.step c.in-Create.scale) same
    ∙ sym c.in-Create.is in
    let new = c.create.new in
    let E : Edit → Type 0 = λ edit. IsStagedBy (apply book total edit) (touch_of book edit) total c.create.result c.args.txn.now new.txn
    (left_by new.txn (g.P.Pages.view new.space.pages).image) in
    subst E at (c.create.ensures.answered total book told stands)

pub returns-in-Append-clause-answered : goal.returns-in-Append-clause-answered
returns-in-Append-clause-answered g c = λ total book told stands.
    let at : Append c.in-Append.name c.in-Append.values ≡ c.args.edit.now = sym c.in-Append.is in
    let new = c.append.new in
    let E : Edit → Type 0 = λ edit. IsStagedBy (apply book total edit) (touch_of book edit) total c.append.result c.args.txn.now new.txn
    (left_by new.txn (g.P.Pages.view new.space.pages).image) in
    subst E at (c.append.ensures.answered total book told stands)

pub returns-in-Set-clause-answered : goal.returns-in-Set-clause-answered
returns-in-Set-clause-answered g c = λ total book told stands.
    let same : to_z w128 (of_z w128 c.in-Set.time) ≡ c.in-Set.time = search rules in
    let at : Set c.in-Set.name (to_z w128 (of_z w128 c.in-Set.time))
    c.in-Set.values ≡ c.args.edit.now = ap (λ (n : ℤ). Set c.in-Set.name n c.in-Set.values) same ∙ sym c.in-Set.is in
    let new = c.set.new in
    let E : Edit → Type 0 = λ edit. IsStagedBy (apply book total edit) (touch_of book edit) total c.set.result c.args.txn.now new.txn
    (left_by new.txn (g.P.Pages.view new.space.pages).image) in
    subst E at (c.set.ensures.answered total book told stands)

pub returns-in-Clear-clause-answered : goal.returns-in-Clear-clause-answered
returns-in-Clear-clause-answered g c = λ total book told stands.
    let same : to_z w128 (of_z w128 c.in-Clear.time) ≡ c.in-Clear.time = search rules in
    let at : Clear c.in-Clear.name (to_z w128 (of_z w128 c.in-Clear.time))
    c.in-Clear.count ≡ c.args.edit.now = ap (λ (n : ℤ). Clear c.in-Clear.name n c.in-Clear.count) same ∙ sym c.in-Clear.is in
    let new = c.clear.new in
    let E : Edit → Type 0 = λ edit. IsStagedBy (apply book total edit) (touch_of book edit) total c.clear.result c.args.txn.now new.txn
    (left_by new.txn (g.P.Pages.view new.space.pages).image) in
    subst E at (c.clear.ensures.answered total book told stands)

pub returns-in-Clear-clause-none_cleared : goal.returns-in-Clear-clause-none_cleared
returns-in-Clear-clause-none_cleared g c = λ total book told stands none.
    let same : to_z w128 (of_z w128 c.in-Clear.time) ≡ c.in-Clear.time = search rules in
    let at : Clear c.in-Clear.name (to_z w128 (of_z w128 c.in-Clear.time))
    c.in-Clear.count ≡ c.args.edit.now = ap (λ (n : ℤ). Clear c.in-Clear.name n c.in-Clear.count) same ∙ sym c.in-Clear.is in
    let N : Edit → Type 0 = λ edit. ClearsNone book edit in
    c.clear.ensures.none_cleared total book told stands (subst N (sym at) none)

pub returns-in-Create-clause-kept : goal.returns-in-Create-clause-kept
returns-in-Create-clause-kept g c = λ total book told stands keeps.
    let at : Create c.in-Create.name c.in-Create.start c.in-Create.step c.in-Create.scale ≡ c.args.edit.now = sym c.in-Create.is in
    let new = c.create.new in
    let E : Edit → Type 0 = λ edit. IsStagedBy (apply book total edit) (touch_of book edit) total c.create.result c.args.txn.now new.txn
    (left_by new.txn (g.P.Pages.view new.space.pages).image) in
    let K : Edit → Type 0 = λ edit. KeepsBook book (apply book total edit) in
    created_keeps book (record {
      name = c.in-Create.name;
      start = c.in-Create.start;
      step = c.in-Create.step;
      scale = c.in-Create.scale;
      slots = [];
    }) 0 total c.create.result c.args.txn.now new.txn (left_by new.txn (g.P.Pages.view new.space.pages).image)
    (subst E (sym at) (returns-in-Create-clause-answered g c total book told stands)) (subst K (sym at) keeps)

pub returns-in-Append-clause-kept : goal.returns-in-Append-clause-kept
returns-in-Append-clause-kept g c = λ total book told stands keeps.
    let at : Append c.in-Append.name c.in-Append.values ≡ c.args.edit.now = sym c.in-Append.is in
    let K : Edit → Type 0 = λ edit. KeepsBook book (apply book total edit) in
    c.append.ensures.kept total book told stands (subst K (sym at) keeps)

pub returns-in-Set-clause-kept : goal.returns-in-Set-clause-kept
returns-in-Set-clause-kept g c = λ total book told stands keeps.
    let same : to_z w128 (of_z w128 c.in-Set.time) ≡ c.in-Set.time = search rules in
    let at : Set c.in-Set.name (to_z w128 (of_z w128 c.in-Set.time))
    c.in-Set.values ≡ c.args.edit.now = ap (λ (n : ℤ). Set c.in-Set.name n c.in-Set.values) same ∙ sym c.in-Set.is in
    let K : Edit → Type 0 = λ edit. KeepsBook book (apply book total edit) in
    c.set.ensures.kept total book told stands (subst K (sym at) keeps)

pub returns-in-Clear-clause-kept : goal.returns-in-Clear-clause-kept
returns-in-Clear-clause-kept g c = λ total book told stands keeps.
    let same : to_z w128 (of_z w128 c.in-Clear.time) ≡ c.in-Clear.time = search rules in
    let at : Clear c.in-Clear.name (to_z w128 (of_z w128 c.in-Clear.time))
    c.in-Clear.count ≡ c.args.edit.now = ap (λ (n : ℤ). Clear c.in-Clear.name n c.in-Clear.count) same ∙ sym c.in-Clear.is in
    let K : Edit → Type 0 = λ edit. KeepsBook book (apply book total edit) in
    c.clear.ensures.kept total book told stands (subst K (sym at) keeps)
