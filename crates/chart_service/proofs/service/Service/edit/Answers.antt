use Rattle.std.proofs.Common.{subst, arith}
use Rattle.series_store.specs.Results.{IsRefusedWith, IsUnchangedFor}
use Rattle.series_store.specs.declared.errors.StoreError.{StoreError}
use Rattle.chart_service.specs.Shown as shown
use Rattle.series_store.specs.Shown as stored
use Rattle.chart_service.proofs.GroupEnds.{edit_steps}
use Rattle.chart_service.proofs.EditLemmas.{edit_done, edit_refused, edit_moments}
use Rattle.chart_service.proofs.service.Service.edit.Goals as goal

pub returns-in-Ok-clause-reply : goal.returns-in-Ok-clause-reply
returns-in-Ok-clause-reply g c = λ total book told stands.
    let self = c.args.self.now in
    edit_done total book c.args.edit.now self.sessions c.in-Ok.outcome (g.P.Pages.view (stored.pages c.edit.new.self)).image
    (c.is_sound.ensures.state total book c.requires.sound told stands) (c.in-Ok.ensures.done total book told stands)

pub returns-in-Ok-clause-moments : goal.returns-in-Ok-clause-moments
returns-in-Ok-clause-moments g c = λ total book told stands.
    let self = c.args.self.now in
    edit_moments total book c.args.edit.now self.sessions (g.P.Pages.view (shown.pages self))
    (g.P.Pages.view (stored.pages c.edit.new.self)) (c.is_sound.ensures.state total book c.requires.sound told stands)
    (c.edit.ensures.moments total book told stands)

pub returns-in-Err-Refused-clause-reply : goal.returns-in-Err-Refused-clause-reply
returns-in-Err-Refused-clause-reply g c = λ total book told stands.
    let self = c.args.self.now in
    let R : StoreError → Type 0 = λ e. IsRefusedWith total book c.args.edit.now e in
    let U : StoreError → Type 0 = λ e. IsUnchangedFor e (g.P.Pages.told (shown.pages self)) (g.P.Pages.view (shown.pages self))
    (g.P.Pages.view (stored.pages c.edit.new.self)) in
    let why = subst R c.in-Err-Refused.field-0-is (c.in-Err-Refused.ensures.refused total book told stands) in
    let kept = subst U c.in-Err-Refused.field-0-is c.in-Err-Refused.ensures.unchanged in
    edit_refused total book c.args.edit.now self.sessions c.in-Err-Refused.refusal c.refused.result
    (g.P.Pages.view (shown.pages self)).image (g.P.Pages.view (stored.pages c.edit.new.self)).image
    (c.is_sound.ensures.state total book c.requires.sound told stands) why c.refused.ensures.frame c.refused.ensures.fits stands
    (kept.image told)

pub returns-in-Err-Refused-clause-moments : goal.returns-in-Err-Refused-clause-moments
returns-in-Err-Refused-clause-moments g c = λ total book told stands.
    let self = c.args.self.now in
    edit_moments total book c.args.edit.now self.sessions (g.P.Pages.view (shown.pages self))
    (g.P.Pages.view (stored.pages c.edit.new.self)) (c.is_sound.ensures.state total book c.requires.sound told stands)
    (c.edit.ensures.moments total book told stands)

pub returns-in-Err-DiskFault-clause-moments : goal.returns-in-Err-DiskFault-clause-moments
returns-in-Err-DiskFault-clause-moments g c = λ total book told stands.
    let self = c.args.self.now in
    edit_moments total book c.args.edit.now self.sessions (g.P.Pages.view (shown.pages self))
    (g.P.Pages.view (stored.pages c.edit.new.self)) (c.is_sound.ensures.state total book c.requires.sound told stands)
    (c.edit.ensures.moments total book told stands)

pub returns-in-Err-Damaged-clause-standing : goal.returns-in-Err-Damaged-clause-standing
returns-in-Err-Damaged-clause-standing g c = λ total book told stands.
    let R : StoreError → Type 0 = λ e. IsRefusedWith total book c.args.edit.now e in
    absurd (subst R c.in-Err-Damaged.field-0-is (c.in-Err-Damaged.ensures.refused total book told stands))

pub returns-in-Err-Damaged-clause-moments : goal.returns-in-Err-Damaged-clause-moments
returns-in-Err-Damaged-clause-moments g c = λ total book told stands.
    let self = c.args.self.now in
    edit_moments total book c.args.edit.now self.sessions (g.P.Pages.view (shown.pages self))
    (g.P.Pages.view (stored.pages c.edit.new.self)) (c.is_sound.ensures.state total book c.requires.sound told stands)
    (c.edit.ensures.moments total book told stands)

pub returns-in-Err-NoMemory-clause-moments : goal.returns-in-Err-NoMemory-clause-moments
returns-in-Err-NoMemory-clause-moments g c = λ total book told stands.
    let self = c.args.self.now in
    edit_moments total book c.args.edit.now self.sessions (g.P.Pages.view (shown.pages self))
    (g.P.Pages.view (stored.pages c.edit.new.self)) (c.is_sound.ensures.state total book c.requires.sound told stands)
    (c.edit.ensures.moments total book told stands)

pub returns-in-Ok-clause-same_book : goal.returns-in-Ok-clause-same_book
returns-in-Ok-clause-same_book g c = λ total book told stands keeps. c.edit.ensures.same_book total book told stands keeps

pub returns-in-Err-Refused-clause-same_book : goal.returns-in-Err-Refused-clause-same_book
returns-in-Err-Refused-clause-same_book g c = λ total book told stands keeps. c.edit.ensures.same_book total book told stands keeps

pub returns-in-Err-DiskFault-clause-same_book : goal.returns-in-Err-DiskFault-clause-same_book
returns-in-Err-DiskFault-clause-same_book g c = λ total book told stands keeps. c.edit.ensures.same_book total book told stands keeps

pub returns-in-Err-Damaged-clause-same_book : goal.returns-in-Err-Damaged-clause-same_book
returns-in-Err-Damaged-clause-same_book g c = λ total book told stands keeps. c.edit.ensures.same_book total book told stands keeps

pub returns-in-Err-NoMemory-clause-same_book : goal.returns-in-Err-NoMemory-clause-same_book
returns-in-Err-NoMemory-clause-same_book g c = λ total book told stands keeps. c.edit.ensures.same_book total book told stands keeps

pub returns-in-Ok-clause-steps : goal.returns-in-Ok-clause-steps
returns-in-Ok-clause-steps g c = edit_steps (g.P.Pages.told (shown.pages c.args.self.now)) (g.P.Pages.told (stored.pages c.edit.new.self))
    (g.P.Pages.view (shown.pages c.args.self.now)) (g.P.Pages.view (stored.pages c.edit.new.self)) c.edit.ensures.moves

pub returns-in-Ok-clause-reads : goal.returns-in-Ok-clause-reads
returns-in-Ok-clause-reads g c = omega (arith, c.edit.ensures.moves.reads)

pub returns-in-Err-Refused-clause-steps : goal.returns-in-Err-Refused-clause-steps
returns-in-Err-Refused-clause-steps g c = edit_steps (g.P.Pages.told (shown.pages c.args.self.now))
    (g.P.Pages.told (stored.pages c.edit.new.self)) (g.P.Pages.view (shown.pages c.args.self.now))
    (g.P.Pages.view (stored.pages c.edit.new.self)) c.edit.ensures.moves

pub returns-in-Err-Refused-clause-reads : goal.returns-in-Err-Refused-clause-reads
returns-in-Err-Refused-clause-reads g c = omega (arith, c.edit.ensures.moves.reads)

pub returns-in-Err-DiskFault-clause-steps : goal.returns-in-Err-DiskFault-clause-steps
returns-in-Err-DiskFault-clause-steps g c = edit_steps (g.P.Pages.told (shown.pages c.args.self.now))
    (g.P.Pages.told (stored.pages c.edit.new.self)) (g.P.Pages.view (shown.pages c.args.self.now))
    (g.P.Pages.view (stored.pages c.edit.new.self)) c.edit.ensures.moves

pub returns-in-Err-DiskFault-clause-reads : goal.returns-in-Err-DiskFault-clause-reads
returns-in-Err-DiskFault-clause-reads g c = omega (arith, c.edit.ensures.moves.reads)

pub returns-in-Err-Damaged-clause-steps : goal.returns-in-Err-Damaged-clause-steps
returns-in-Err-Damaged-clause-steps g c = edit_steps (g.P.Pages.told (shown.pages c.args.self.now))
    (g.P.Pages.told (stored.pages c.edit.new.self)) (g.P.Pages.view (shown.pages c.args.self.now))
    (g.P.Pages.view (stored.pages c.edit.new.self)) c.edit.ensures.moves

pub returns-in-Err-Damaged-clause-reads : goal.returns-in-Err-Damaged-clause-reads
returns-in-Err-Damaged-clause-reads g c = omega (arith, c.edit.ensures.moves.reads)

pub returns-in-Err-NoMemory-clause-steps : goal.returns-in-Err-NoMemory-clause-steps
returns-in-Err-NoMemory-clause-steps g c = edit_steps (g.P.Pages.told (shown.pages c.args.self.now))
    (g.P.Pages.told (stored.pages c.edit.new.self)) (g.P.Pages.view (shown.pages c.args.self.now))
    (g.P.Pages.view (stored.pages c.edit.new.self)) c.edit.ensures.moves

pub returns-in-Err-NoMemory-clause-reads : goal.returns-in-Err-NoMemory-clause-reads
returns-in-Err-NoMemory-clause-reads g c = omega (arith, c.edit.ensures.moves.reads)
