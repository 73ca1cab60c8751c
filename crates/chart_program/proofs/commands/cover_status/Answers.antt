use Rattle.std.proofs.Common.{Some, sym, subst}
use Rattle.chart_world.specs.Faults.{CountsFault}
use Rattle.run_ends.specs.Statuses.{code_of, place_of}
use Rattle.run_ends.specs.declared.ending.End.{End}
use Rattle.run_ends.specs.Faults.{end_fault}
use Rattle.run_ends.specs.declared.status.Status.{Status}
use Rattle.store_commands.specs.Faulting.{counts_end}
use Rattle.program_words.specs.declared.words.Command.TheVariants.{Cover}
use Rattle.store_commands.specs.TrafficLaws.{read_on}
use Rattle.chart_program.specs.Served.{faults_of}
use Rattle.chart_program.specs.Ran.{CommandEnds}
use Rattle.chart_program.proofs.Faults.{counts_drawn}
use Rattle.chart_program.specs.Course.{course}
use Rattle.chart_program.specs.Draw.{Draws}
use Rattle.chart_program.proofs.Drawings.{covered}
use Rattle.chart_program.proofs.Parsing.{Known}
use Rattle.chart_program.proofs.StreamPages.{drawn_by}
use Rattle.chart_program.proofs.commands.cover_status.Goals as goal

pub returns-clause-ends : goal.returns-clause-ends
returns-clause-ends g c =
    let view = g.W.Disk.view in
    let left = g.W.Streams.left in
    let sent = g.W.Streams.sent in
    let old = c.args.world.now in
    let new = c.cover-answer.new.streams in
    let faults = faults_of (g.W.Streams.read_faults old) (g.W.Streams.read_faults new) (g.W.Streams.send_faults old)
    (g.W.Streams.send_faults new) in
    let e = c.cover-answer.ensures in
    let S : Status → Type 0 = λ s. CommandEnds (Cover c.args.every) (view old) (view new) (left old) (left new) (sent old)
    (sent new) faults s.code s.place in
    let E : End → Type 0 = λ x. CommandEnds (Cover c.args.every) (view old) (view new) (left old) (left new) (sent old) (sent new) faults
    (code_of x) (place_of x) in
    subst S (sym c.status_of.ensures.status)
    (subst E (sym c.drawing_end.ensures)
    (covered (view old) (view new) (left old) (left new) (sent old) (sent new) faults c.args.every
    (record { one = c.one_frame_a_spelling.ensures; told = c.length_is_told.ensures; good = c.spellings_are_good.ensures })
    c.more_bytes_mend_nothing.ensures.stays
    c.cover-answer.result e.done (read_on c.cover-answer.result (left old) (left new) e.within e.whole) e.ends e.read e.send e.disk))

pub returns-clause-faults : goal.returns-clause-faults
returns-clause-faults g c =
    let view = g.W.Disk.view in
    let w = g.met.W.World in
    let old = c.args.world.now in
    let new = c.cover-answer.new.streams in
    let answer = c.cover-answer.result in
    let e = c.cover-answer.ensures in
    let E : End → Type 0 = λ x. CountsFault (end_fault x) (view old) (view new) in
    counts_end c.drawing_end.result c.status_of.result (view old) (view new) c.status_of.ensures.status
    (subst E (sym c.drawing_end.ensures) (counts_drawn view g.W.Streams.read_faults g.W.Streams.send_faults w.beside_read_faults
    w.beside_send_faults old new e.disk.kept answer e.read e.send e.quiet_reads e.quiet_sends))

pub returns-clause-does : goal.returns-clause-does
returns-clause-does g c =
    let at = course g.W.Disk.view g.W.Streams.left g.W.Streams.sent c.args.world.now c.cover-answer.new.streams in
    let e = c.cover-answer.ensures in
    let known : Known = record {
      one = c.one_frame_a_spelling.ensures;
      told = c.length_is_told.ensures;
      good = c.spellings_are_good.ensures;
    } in
    let E : End → Type 0 = λ x. Draws (Some c.args.every) at x in (
      c.drawing_end.result,
      c.status_of.ensures.status,
      subst E (sym c.drawing_end.ensures) (drawn_by at
          (Some c.args.every) known c.more_bytes_mend_nothing.ensures.stays c.frames_draw_the_book.ensures.book
          c.frames_draw_the_book.ensures.good c.cover-answer.result e.done
          (read_on c.cover-answer.result at.left at.left_now e.within e.whole) e.ends e.disk),
    )
