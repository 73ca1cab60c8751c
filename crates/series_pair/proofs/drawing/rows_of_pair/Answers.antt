use Rattle.std.proofs.Common.{sym, subst, ◌∙◌}
use Rattle.chart_world.specs.FaultLaws.{counts_no_disk}
use Rattle.chart_world.specs.Faults.{CountsFault}
use Rattle.derived_chart.specs.Lists.{sums_of}
use Rattle.plain_chart.specs.Samples.{kept}
use Rattle.series_store.specs.Shown as shown
use Rattle.series_pair.specs.AskLaws.{pair_goes_on, still_are_pair}
use Rattle.series_pair.specs.Derived.{IsSumError, sum_fault}
use Rattle.series_pair.specs.declared.sum_error.SumError.{SumError}
use Rattle.series_pair.proofs.ChartLemmas.{cause_later, error_answer, error_faults, pair_is, rows_costs, samples_are}
use Rattle.series_pair.proofs.drawing.rows_of_pair.Goals as goal

pub returns-in-Err-clause-answer : goal.returns-in-Err-clause-answer
returns-in-Err-clause-answer g c = λ total book told stands on.
    let old = c.args.pair.now in
    let axis = c.first_axis-axis.result in
    let sums = sums_of c.args.sum on.one.slots on.other.slots in
    let are = still_are_pair c.first_axis-axis.ensures.goes (pair_is old total book c.args.sum.shift on c.requires.ready told stands) in
    let of = samples_are book old.x old.y c.args.sum c.args.grid axis on
    (λ x y xs ys. c.kept_sums_are_the_samples.ensures c.args.grid x y c.args.sum xs ys) c.first_axis-axis.ensures.step
    (c.first_axis-axis.ensures.axis total book on.one told stands on.first) in
    let cause = cause_later c.in-Err.error old c.first_axis-axis.new.pair c.derived_rows.new.trees c.first_axis-axis.ensures.goes
    c.first_axis-axis.ensures.quiet c.in-Err.ensures.cause in
    let E : SumError → Type 0 = λ e. IsSumError book old.x old.y c.args.sum.a c.args.sum.b c.args.grid e in
    subst E (sym c.error_of.ensures)
    (error_answer c.in-Err.error old c.derived_rows.new.trees total book old.x old.y c.args.sum.a c.args.sum.b c.args.grid
    (kept c.args.grid axis sums) c.requires.ready told stands cause of (c.in-Err.ensures.rows on.one.slots on.other.slots are))

pub returns-in-Ok-clause-answer : goal.returns-in-Ok-clause-answer
returns-in-Ok-clause-answer g c = λ total book told stands on.
    let old = c.args.pair.now in
    let axis = c.first_axis-axis.result in
    let are = still_are_pair c.first_axis-axis.ensures.goes (pair_is old total book c.args.sum.shift on c.requires.ready told stands) in
    let rows = c.in-Ok.ensures.rows on.one.slots on.other.slots are in
    record {
      axis = axis;
      sums = sums_of c.args.sum on.one.slots on.other.slots;
      step = c.first_axis-axis.ensures.step;
      are = samples_are book old.x old.y c.args.sum c.args.grid axis on
          (λ x y xs ys. c.kept_sums_are_the_samples.ensures c.args.grid x y c.args.sum xs ys) c.first_axis-axis.ensures.step
          (c.first_axis-axis.ensures.axis total book on.one told stands on.first);
      values = rows.1;
      rows_are = rows.0;
    }

pub returns-in-Err-clause-faults : goal.returns-in-Err-clause-faults
returns-in-Err-clause-faults g c =
    let old = c.args.pair.now in
    let axis = c.first_axis-axis.ensures in
    let going = pair_goes_on axis.goes c.derived_rows.ensures.goes in
    let cause = cause_later c.in-Err.error old c.first_axis-axis.new.pair c.derived_rows.new.trees axis.goes axis.quiet
    c.in-Err.ensures.cause in
    let E : SumError → Type 0 = λ e. CountsFault (sum_fault e) (shown.view old.store.now) (shown.view c.derived_rows.new.trees.store.now) in
    subst E (sym c.error_of.ensures) (error_faults c.in-Err.error old c.derived_rows.new.trees c.requires.ready going cause
    (λ other. c.in-Err.ensures.quiet_err other ∙ axis.quiet))

pub returns-in-Ok-clause-faults : goal.returns-in-Ok-clause-faults
returns-in-Ok-clause-faults g c =
    let axis = c.first_axis-axis.ensures in
    counts_no_disk (shown.view c.args.pair.now.store.now) (shown.view c.derived_rows.new.trees.store.now)
    (pair_goes_on axis.goes c.derived_rows.ensures.goes).looks.beside (c.in-Ok.ensures.quiet ∙ axis.quiet)

pub returns-in-Err-clause-same_reference : goal.returns-in-Err-clause-same_reference
returns-in-Err-clause-same_reference g c = (pair_goes_on c.first_axis-axis.ensures.goes c.derived_rows.ensures.goes).reference

pub returns-in-Ok-clause-same_reference : goal.returns-in-Ok-clause-same_reference
returns-in-Ok-clause-same_reference g c = (pair_goes_on c.first_axis-axis.ensures.goes c.derived_rows.ensures.goes).reference

pub returns-in-Err-clause-reads : goal.returns-in-Err-clause-reads
returns-in-Err-clause-reads g c = λ total book told stands one other first second.
    let axis = c.first_axis-axis.ensures in
    rows_costs c.args.pair.now c.first_axis-axis.new.pair total book c.args.grid c.first_axis-axis.result _ one other c.requires.ready told
    stands axis.goes axis.reads (axis.axis total book one told stands first) first second c.in-Err.ensures.reads

pub returns-in-Ok-clause-reads : goal.returns-in-Ok-clause-reads
returns-in-Ok-clause-reads g c = λ total book told stands one other first second.
    let axis = c.first_axis-axis.ensures in
    rows_costs c.args.pair.now c.first_axis-axis.new.pair total book c.args.grid c.first_axis-axis.result _ one other c.requires.ready told
    stands axis.goes axis.reads (axis.axis total book one told stands first) first second c.in-Ok.ensures.reads
