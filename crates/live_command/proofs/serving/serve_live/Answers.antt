use Rattle.std.proofs.Common.{Err, ap, subst}
use Rattle.live_service.specs.Shown as its
use Rattle.live_command.proofs.ReadLemmas.{reads_nothing}
use Rattle.live_command.proofs.SyncLemmas.{syncs_nothing}
use Rattle.live_command.proofs.RunLemmas.{lasts_on_first, no_memory_on}
use Rattle.run_ends.specs.declared.ending.End.{End}
use Rattle.hosted_lines.specs.Doing.{IsCause, held_by, side_of}
use Rattle.hosted_lines.specs.Shown.{pages}
use Rattle.live_command.proofs.serving.serve_live.Goals as goal

pub returns-in_default-clause-ends : goal.returns-in_default-clause-ends
returns-in_default-clause-ends g c = λ total book told stands.
    let at = pages c.args.live.now in
    no_memory_on total book (held_by c.args.live.now) (g.P.Streams.left at) (g.P.Streams.left at) (g.P.Streams.sent at)
    (g.P.Pages.view at).image stands

pub returns-in_default-clause-crash : goal.returns-in_default-clause-crash
returns-in_default-clause-crash g c = λ total book told stands.
    let at = pages c.args.live.now in
    lasts_on_first total book (held_by c.args.live.now) (g.P.Streams.left at) (g.P.Streams.sent at) (g.P.Pages.view at)
    (g.met.P.Pages.rests at c.requires.sound) stands

pub returns-in_default-clause-reads : goal.returns-in_default-clause-reads
returns-in_default-clause-reads g c = λ total book told stands.
    let at = pages c.args.live.now in
    reads_nothing (g.P.Streams.left at) (its.state c.args.live.now total book) (g.P.Pages.view at).reads

pub returns-in_default-clause-syncs : goal.returns-in_default-clause-syncs
returns-in_default-clause-syncs g c =
    let at = pages c.args.live.now in
    syncs_nothing (g.P.Streams.left at) (g.P.Pages.view at).syncs

-- no line stops as done
pub returns-clause-within : goal.returns-clause-within
returns-clause-within g c = λ is.
    let side = side_of g.P.Streams in
    let C : End → Type 0 = λ end. IsCause end (side c.args.live.now) (side c.answer_lines.new.live) in
    absurd (subst C is c.in-Err.ensures.cause)

pub returns-clause-whole : goal.returns-clause-whole
returns-clause-whole g c = λ is.
    let side = side_of g.P.Streams in
    let C : End → Type 0 = λ end. IsCause end (side c.args.live.now) (side c.answer_lines.new.live) in
    absurd (subst C is c.in-Err.ensures.cause)

pub returns-clause-long : goal.returns-clause-long
returns-clause-long g c = λ is. c.in-Err.ensures.long (ap Err is)

pub returns-clause-cause : goal.returns-clause-cause
returns-clause-cause g c = λ other. c.in-Err.ensures.cause

pub returns-clause-answers : goal.returns-clause-answers
returns-clause-answers g c = λ is.
    let side = side_of g.P.Streams in
    let C : End → Type 0 = λ end. IsCause end (side c.args.live.now) (side c.answer_lines.new.live) in
    absurd (subst C is c.in-Err.ensures.cause)
