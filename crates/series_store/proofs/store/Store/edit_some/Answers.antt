use Rattle.std.proofs.Common.{refl}
use Rattle.series_store.proofs.CoverLemmas.{answered_all, answered_fail, answered_starved, damage_not_outside, did_all, did_fail}
use Rattle.series_store.proofs.store.Store.edit_some.Goals as goal

pub returns-in_err-answers-clause-answered : goal.returns-in_err-answers-clause-answered
returns-in_err-answers-clause-answered g c = λ total book told stands.
    answered_starved total book c.args.edits.now c.args.ends
    (g.P.Pages.view c.args.self.now.space.pages) c.from_residual.result c.from_residual.ensures.1

pub returns-then-is_damage-clause-answered : goal.returns-then-is_damage-clause-answered
returns-then-is_damage-clause-answered g c = λ total book told stands.
    absurd (damage_not_outside c.in-Err.cause (c.if-is_damage.ensures.damage refl)
    (c.in-Err.ensures.grouped total book told stands).outside)

pub returns-in-Ok-clause-answered : goal.returns-in-Ok-clause-answered
returns-in-Ok-clause-answered g c = λ total book told stands.
    answered_all total book c.args.edits.now c.args.ends c.commit_group.new.answers (g.P.Pages.view c.args.self.now.space.pages)
    (g.P.Pages.view c.commit_group.new.self.space.pages) stands (c.in-Ok.ensures.grouped total book told stands)

pub returns-else-is_damage-clause-answered : goal.returns-else-is_damage-clause-answered
returns-else-is_damage-clause-answered g c = λ total book told stands.
    answered_fail total book c.args.edits.now c.args.ends c.commit_group.new.answers.items (g.P.Pages.view c.args.self.now.space.pages)
    (g.P.Pages.view c.commit_group.new.self.space.pages) c.in-Err.cause stands (c.in-Err.ensures.grouped total book told stands)

pub returns-in-Ok-clause-did : goal.returns-in-Ok-clause-did
returns-in-Ok-clause-did g c = did_all _ _ _ _ _ _ _ _ _ _ _ c.commit_group.new.answers c.requires.some c.in-Ok.ensures.groups

pub returns-else-is_damage-clause-did : goal.returns-else-is_damage-clause-did
returns-else-is_damage-clause-did g c = did_fail _ _ _ _ _ _ _ _ _ _ _ _ c.in-Err.cause
    (c.if-is_damage.ensures.other refl) c.in-Err.ensures.groups
