use Rattle.std.proofs.Common.{sym, subst}
use Rattle.chart_world.specs.Faults.{CountsFault, fault_in}
use Rattle.run_ends.specs.Statuses.{code_of, place_of}
use Rattle.run_ends.specs.declared.ending.End.{End}
use Rattle.run_ends.specs.Faults.{end_fault}
use Rattle.run_ends.specs.declared.status.Status.{Status}
use Rattle.store_commands.specs.Faulting.{counts_end, counts_told}
use Rattle.program_words.specs.declared.words.Command.TheVariants.{Plot}
use Rattle.store_commands.specs.TrafficLaws.{read_on}
use Rattle.chart_program.specs.Faulting.{plot_fault}
use Rattle.chart_program.specs.Plotted.{plotting_end}
use Rattle.chart_program.specs.Served.{faults_of}
use Rattle.chart_program.specs.Ran.{CommandEnds}
use Rattle.chart_program.proofs.Faults.{told_plotted}
use Rattle.chart_program.specs.Course.{course}
use Rattle.chart_program.specs.Plot.{OfPlot}
use Rattle.chart_program.proofs.Drawings.{plotted}
use Rattle.chart_program.proofs.StreamPages.{of_plot}
use Rattle.chart_program.proofs.commands.plot_status.Goals as goal

pub returns-clause-ends : goal.returns-clause-ends
returns-clause-ends g c =
    let view = g.W.Disk.view in
    let left = g.W.Streams.left in
    let sent = g.W.Streams.sent in
    let old = c.args.world.now in
    let new = c.plot-answer.new.streams in
    let faults = faults_of (g.W.Streams.read_faults old) (g.W.Streams.read_faults new) (g.W.Streams.send_faults old)
    (g.W.Streams.send_faults new) in
    let e = c.plot-answer.ensures in
    let S : Status → Type 0 = λ s. CommandEnds (Plot c.args.w c.args.h) (view old) (view new) (left old) (left new) (sent old)
    (sent new) faults s.code s.place in
    let E : End → Type 0 = λ x. CommandEnds (Plot c.args.w c.args.h) (view old) (view new) (left old) (left new) (sent old)
    (sent new) faults (code_of x) (place_of x) in
    subst S (sym c.status_of.ensures.status)
    (subst E (sym c.plotting_end.ensures) (plotted (view old) (view new) (left old) (left new) (sent old)
    (sent new) faults c.args.w c.args.h c.plot-answer.result e.done
    (read_on c.plot-answer.result (left old) (left new) e.within e.whole) e.ends e.unsent e.read e.send e.disk))

pub returns-clause-faults : goal.returns-clause-faults
returns-clause-faults g c =
    let old = g.W.Disk.view c.args.world.now in
    let new = g.W.Disk.view c.plot-answer.new.streams in
    let answer = c.plot-answer.result in
    let E : End → Type 0 = λ x. CountsFault (end_fault x) old new in
    counts_end c.plotting_end.result c.status_of.result old new c.status_of.ensures.status
    (subst E (sym c.plotting_end.ensures) (counts_told (fault_in plot_fault answer) (end_fault (plotting_end answer)) old new
    (told_plotted answer) c.plot-answer.ensures.faults))

pub returns-clause-does : goal.returns-clause-does
returns-clause-does g c =
    let at = course g.W.Disk.view g.W.Streams.left g.W.Streams.sent c.args.world.now c.plot-answer.new.streams in
    let e = c.plot-answer.ensures in
    let E : End → Type 0 = λ x. OfPlot c.args.w c.args.h at x in (
      c.plotting_end.result,
      c.status_of.ensures.status,
      subst E (sym c.plotting_end.ensures) (of_plot at c.args.w c.args.h c.plot-answer.result e.done
          (read_on c.plot-answer.result at.left at.left_now e.within e.whole) e.ends e.unsent e.disk),
    )
