use Rattle.std.proofs.Common.{◌∙◌}
use Rattle.series_load.proofs.SetLemmas.{edits_none, err_passes, keeps_cleared}
use Rattle.series_store.specs.Shown as shown
use Rattle.series_load.proofs.loader.Loader.commit.Goals as goal

pub returns-in_err-commit_sets-clause-does : goal.returns-in_err-commit_sets-clause-does
returns-in_err-commit_sets-clause-does g c = λ total book waiting old told stands keeps.
    let name = c.args.self.now.name in
    let did = c.in_err-commit_sets.ensures.does total name book waiting told stands
    (record { sets_are = c.as_slice.ensures.value ∙ keeps.sets.sets_are; ats_are = c.as_slice-2.ensures.value ∙ keeps.sets.ats_are }) in
    err_passes total name book waiting c.in_err-commit_sets.field-0.0 c.from_residual.result (shown.view c.args.store.now)
    (shown.view c.commit_sets.new.store) c.from_residual.ensures.1 did.costs did.stops did.moments

pub returns-clause-does : goal.returns-clause-does
returns-clause-does g c = λ total book waiting old told stands keeps.
    c.in_ok-commit_sets.ensures.does total c.args.self.now.name book waiting told stands
    (record { sets_are = c.as_slice.ensures.value ∙ keeps.sets.sets_are; ats_are = c.as_slice-2.ensures.value ∙ keeps.sets.ats_are })

pub returns-clause-keeps : goal.returns-clause-keeps
returns-clause-keeps g c = λ waiting old keeps. keeps_cleared c.args.self.now.name old c.clear.new.self c.args.self.now.run
    c.clear.ensures.sets c.clear.ensures.ats keeps.still

pub returns-clause-edits : goal.returns-clause-edits
returns-clause-edits g c = edits_none c.clear.new.self.sets.items c.clear.new.self.ats.items c.clear.ensures.sets
