use Rattle.std.proofs.Common.{ℕ, Bool, ◌++◌, ◌∙◌, [], inl, inr, refl, subst, sym}
use Rattle.series_load.proofs.BlameLemmas.{line_text, no_memory_text, none_texts, not_bad, so_on_ok}
use Rattle.series_load.proofs.SetLemmas.{does_as, keeps_as, ok_keeps_as}
use Rattle.series_load.specs.declared.said.Said.{Said}
use Rattle.series_load.specs.Steps.{DoesLine, NoBad, SaysSo}
use Rattle.series_load.proofs.LineLemmas.{adds_at, adds_empty, empty_text, line_committed, line_kept, line_starved, line_stopped, near_said}
use Rattle.series_load.proofs.LineLemmas.{some_text_of, took_nothing}
use Rattle.series_store.specs.Shown as shown
use Rattle.series_load.proofs.loader.Loader.take_line.Goals as goal

pub take_said-requires-clause-near : goal.take_said-requires-clause-near
take_said-requires-clause-near g c = λ reading is. near_said c.args.self.now.scale c.args.self.now.first c.args.line.now c.in_ok-said.said
    reading c.in_ok-said.ensures.said is

pub returns-then-is_empty-clause-does : goal.returns-then-is_empty-clause-does
returns-then-is_empty-clause-does g c = λ total book waiting old told stands keeps.
    let at = c.args.self.now in
    let text = c.args.line.now in
    line_kept at.scale at.step c.args.at text at.first at.points total at.name book waiting old _ at.first at.points at.kept at.run
    (shown.view c.args.store.now) stands
    (took_nothing (adds_at at.scale at.step c.args.at text at.first old at.points at.first at.points) at.name waiting old at.kept at.run
    (adds_empty at.scale at.step c.args.at text at.first old at.points
    (empty_text c.is_empty.result text c.is_empty.ensures c.if-is_empty.true)) keeps)

pub returns-in_err-said-clause-does : goal.returns-in_err-said-clause-does
returns-in_err-said-clause-does g c = λ total book waiting old told stands keeps.
    let at = c.args.self.now in
    line_starved at.scale at.step c.args.at c.args.line.now at.first at.points total at.name book waiting old c.in_err-said.field-0.0
    c.from_residual.result at.first at.points at.kept at.run
    (shown.view c.args.store.now) c.from_residual.ensures.1 c.in_err-said.ensures.err stands

pub returns-then-is_bad-clause-does : goal.returns-then-is_bad-clause-does
returns-then-is_bad-clause-does g c = λ total book waiting old told stands keeps.
    let at = c.args.self.now in
    let new = c.stop.new.self in
    let P : Said → Type 0 = λ s. SaysSo at.scale at.first c.args.line.now s in
    line_stopped at.scale at.step c.args.at c.args.line.now at.first at.points total at.name book waiting old c.stop.result new.first
    new.points new.kept new.run (shown.view c.args.store.now) (shown.view c.stop.new.store)
    (some_text_of c.is_empty.result c.args.line.now c.is_empty.ensures c.if-is_empty.false)
    (subst P (c.is_bad.ensures.0 c.if-is_bad.true) c.in_ok-said.ensures.said)
    (c.stop.ensures.does total book waiting old told stands keeps)

pub returns-in_err-take_said-clause-does : goal.returns-in_err-take_said-clause-does
returns-in_err-take_said-clause-does g c = λ total book waiting old told stands keeps.
    let at = c.args.self.now in
    let new = c.take_said.new.self in
    line_starved at.scale at.step c.args.at c.args.line.now at.first at.points total at.name book waiting old c.in_err-take_said.field-0.0
    c.from_residual-in_err-take_said.result new.first new.points new.kept new.run
    (shown.view c.args.store.now) c.from_residual-in_err-take_said.ensures.1 c.in_err-take_said.ensures.err stands

pub returns-then-is_full-clause-does : goal.returns-then-is_full-clause-does
returns-then-is_full-clause-does g c = λ total book waiting old told stands keeps.
    let at = c.args.self.now in
    let mid = c.take_said.new.self in
    let new = c.commit.new.self in
    let took = c.in_ok-take_said.ensures.does waiting old c.args.line.now keeps
    (some_text_of c.is_empty.result c.args.line.now c.is_empty.ensures c.if-is_empty.false) c.in_ok-said.ensures.said in
    let keeps_mid = keeps_as mid.name at.name (waiting ++ took.ends) took.new mid.kept mid.run (sym c.take_said.ensures.name) took.keeps in
    let F : Bool → Type 0 = λ b. DoesLine at.scale at.step c.args.at c.args.line.now at.first at.points total at.name book waiting old
    c.commit.result b new.points new.kept new.run (shown.view c.args.store.now) (shown.view c.commit.new.store) in
    let N : ℕ → Type 0 = λ n. DoesLine at.scale at.step c.args.at c.args.line.now at.first at.points total at.name book waiting old
    c.commit.result mid.first n new.kept new.run (shown.view c.args.store.now) (shown.view c.commit.new.store) in
    subst F (sym c.commit.ensures.first) (subst N (sym c.commit.ensures.points)
    (line_committed at.scale at.step c.args.at c.args.line.now at.first at.points total at.name book waiting old c.commit.result
    mid.first mid.points mid.kept new.kept mid.run new.run (shown.view c.args.store.now)
    (shown.view c.commit.new.store) took c.commit.ensures.run
    (does_as NoBad total at.name mid.name book (waiting ++ took.ends) c.commit.result (shown.view c.args.store.now)
    (shown.view c.commit.new.store) c.take_said.ensures.name
    (c.commit.ensures.does total book (waiting ++ took.ends) took.new told stands keeps_mid))
    (ok_keeps_as c.commit.result at.name new.name [] took.new new.kept new.run (c.commit.ensures.name
    ∙ c.take_said.ensures.name) (c.commit.ensures.keeps (waiting ++ took.ends) took.new keeps_mid))))

pub returns-clause-does : goal.returns-clause-does
returns-clause-does g c = λ total book waiting old told stands keeps.
    let at = c.args.self.now in
    let new = c.take_said.new.self in
    line_kept at.scale at.step c.args.at c.args.line.now at.first at.points total at.name book waiting old _ new.first new.points new.kept
    new.run (shown.view c.args.store.now) stands
    (c.in_ok-take_said.ensures.does waiting old c.args.line.now keeps
    (some_text_of c.is_empty.result c.args.line.now c.is_empty.ensures c.if-is_empty.false) c.in_ok-said.ensures.said)

-- ---- whatever the pages are

pub returns-then-is_empty-clause-reads : goal.returns-then-is_empty-clause-reads
returns-then-is_empty-clause-reads g c = inl (
  empty_text c.is_empty.result c.args.line.now c.is_empty.ensures c.if-is_empty.true,
  refl,
  refl,
)

pub returns-in_err-said-clause-blames : goal.returns-in_err-said-clause-blames
returns-in_err-said-clause-blames g c =
    let at = c.args.self.now in
    no_memory_text at.scale c.args.at at.first c.args.line.now c.from_residual.result c.in_err-said.field-0.0 c.from_residual.ensures.1
    c.in_err-said.ensures.err

pub returns-then-is_bad-clause-blames : goal.returns-then-is_bad-clause-blames
returns-then-is_bad-clause-blames g c =
    let at = c.args.self.now in
    let P : Said → Type 0 = λ s. SaysSo at.scale at.first c.args.line.now s in
    line_text at.scale c.args.at at.first c.args.line.now c.stop.result
    (some_text_of c.is_empty.result c.args.line.now c.is_empty.ensures c.if-is_empty.false)
    (subst P (c.is_bad.ensures.0 c.if-is_bad.true) c.in_ok-said.ensures.said) c.stop.ensures.blames

pub returns-in_err-take_said-clause-blames : goal.returns-in_err-take_said-clause-blames
returns-in_err-take_said-clause-blames g c =
    let at = c.args.self.now in
    no_memory_text at.scale c.args.at at.first c.args.line.now c.from_residual-in_err-take_said.result c.in_err-take_said.field-0.0
    c.from_residual-in_err-take_said.ensures.1 c.in_err-take_said.ensures.err

pub returns-then-is_full-clause-reads : goal.returns-then-is_full-clause-reads
returns-then-is_full-clause-reads g c = so_on_ok c.commit.result (inr (
  record {
    some = some_text_of c.is_empty.result c.args.line.now c.is_empty.ensures c.if-is_empty.false;
    said = c.in_ok-said.said;
    good = not_bad c.is_bad.result c.in_ok-said.said c.is_bad.ensures c.if-is_bad.false;
    says_it = c.in_ok-said.ensures.said;
    counted = c.commit.ensures.points ∙ c.take_said.ensures.counts;
  },
  c.commit.ensures.first ∙ c.take_said.ensures.first,
))

pub returns-then-is_full-clause-blames : goal.returns-then-is_full-clause-blames
returns-then-is_full-clause-blames g c =
    let at = c.args.self.now in
    none_texts at.scale c.args.at at.first c.args.line.now c.commit.result c.commit.ensures.blames

pub returns-clause-reads : goal.returns-clause-reads
returns-clause-reads g c = inr (
  record {
    some = some_text_of c.is_empty.result c.args.line.now c.is_empty.ensures c.if-is_empty.false;
    said = c.in_ok-said.said;
    good = not_bad c.is_bad.result c.in_ok-said.said c.is_bad.ensures c.if-is_bad.false;
    says_it = c.in_ok-said.ensures.said;
    counted = c.take_said.ensures.counts;
  },
  c.take_said.ensures.first,
)
