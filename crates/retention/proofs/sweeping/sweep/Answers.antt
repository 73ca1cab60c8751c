use Rattle.series_store.specs.Shown as shown
use Rattle.retention.specs.declared.sweep_error.SweepError.TheVariants.{UnknownSeries}
use Rattle.retention.proofs.StepLemmas.{err_moves, whole_commits, whole_moments, whole_reads, whole_stops, whole_swept}
use Rattle.retention.proofs.SweepLemmas.{ok_err}
use Rattle.retention.proofs.sweeping.sweep.Goals as goal

pub returns-in-Ok-clause-unknown : goal.returns-in-Ok-clause-unknown
returns-in-Ok-clause-unknown g c = λ total book told stands. (
  λ same. absurd (ok_err _ UnknownSeries same),
  λ names. absurd (ok_err c.in-Ok.swept UnknownSeries ((c.in-Ok.ensures.unknown total book told stands).1 names)),
)

pub returns-in-Ok-clause-untouched : goal.returns-in-Ok-clause-untouched
returns-in-Ok-clause-untouched g c = λ same. absurd (ok_err _ UnknownSeries same)

pub returns-in-Ok-clause-done : goal.returns-in-Ok-clause-done
returns-in-Ok-clause-done g c = λ total book told stands.
    whole_swept total book c.args.rule.now c.in-Ok.swept _ (shown.image c.sweep_some.new.store) stands.store.is_book c.from.ensures
    (c.in-Ok.ensures.done total book told stands)

pub returns-in-Ok-clause-moments : goal.returns-in-Ok-clause-moments
returns-in-Ok-clause-moments g c = λ total book told stands. whole_moments total book c.args.rule.now (shown.view c.args.store.now)
    (shown.view c.sweep_some.new.store) stands.store.is_book (c.in-Ok.ensures.moments total book told stands)

pub returns-in-Ok-clause-carries : goal.returns-in-Ok-clause-carries
returns-in-Ok-clause-carries g c = c.in-Ok.ensures.carries

pub returns-in-Ok-clause-commits : goal.returns-in-Ok-clause-commits
returns-in-Ok-clause-commits g c = λ total book told stands. whole_commits total book c.args.rule.now (shown.view c.args.store.now)
    (shown.view c.sweep_some.new.store) (c.in-Ok.ensures.commits total book told stands)

pub returns-in-Ok-clause-each : goal.returns-in-Ok-clause-each
returns-in-Ok-clause-each g c = c.in-Ok.ensures.each

pub returns-in-Ok-clause-faults : goal.returns-in-Ok-clause-faults
returns-in-Ok-clause-faults g c = c.in-Ok.ensures.faults

pub returns-in-Ok-clause-sound : goal.returns-in-Ok-clause-sound
returns-in-Ok-clause-sound g c = c.in-Ok.ensures.sound

pub returns-in-Err-clause-unknown : goal.returns-in-Err-clause-unknown
returns-in-Err-clause-unknown g c = λ total book told stands.
    let known = c.in-Err.ensures.unknown total book told stands in
    (λ same. known.0 (err_moves c.in-Err.error UnknownSeries same), λ names. err_moves c.in-Err.error UnknownSeries (known.1 names))

pub returns-in-Err-clause-untouched : goal.returns-in-Err-clause-untouched
returns-in-Err-clause-untouched g c = λ same. c.in-Err.ensures.untouched (err_moves c.in-Err.error UnknownSeries same)

pub returns-in-Err-clause-stops : goal.returns-in-Err-clause-stops
returns-in-Err-clause-stops g c = λ total book told stands. whole_stops c.in-Err.error total book c.args.rule.now
    (shown.image c.sweep_some.new.store) stands.store.is_book (c.in-Err.ensures.stops total book told stands)

pub returns-in-Err-clause-moments : goal.returns-in-Err-clause-moments
returns-in-Err-clause-moments g c = λ total book told stands. whole_moments total book c.args.rule.now (shown.view c.args.store.now)
    (shown.view c.sweep_some.new.store) stands.store.is_book (c.in-Err.ensures.moments total book told stands)

pub returns-in-Err-clause-carries : goal.returns-in-Err-clause-carries
returns-in-Err-clause-carries g c = c.in-Err.ensures.carries

pub returns-in-Err-clause-commits : goal.returns-in-Err-clause-commits
returns-in-Err-clause-commits g c = λ total book told stands. whole_commits total book c.args.rule.now (shown.view c.args.store.now)
    (shown.view c.sweep_some.new.store) (c.in-Err.ensures.commits total book told stands)

pub returns-in-Err-clause-cause : goal.returns-in-Err-clause-cause
returns-in-Err-clause-cause g c = c.in-Err.ensures.cause

pub returns-in-Err-clause-faults : goal.returns-in-Err-clause-faults
returns-in-Err-clause-faults g c = c.in-Err.ensures.faults

pub returns-in-Err-clause-sound_for : goal.returns-in-Err-clause-sound_for
returns-in-Err-clause-sound_for g c = c.in-Err.ensures.sound_for

pub returns-in-Ok-clause-lacks : goal.returns-in-Ok-clause-lacks
returns-in-Ok-clause-lacks g c = λ same. absurd (ok_err _ UnknownSeries same)

pub returns-in-Err-clause-lacks : goal.returns-in-Err-clause-lacks
returns-in-Err-clause-lacks g c = λ same. c.in-Err.ensures.lacks (err_moves c.in-Err.error UnknownSeries same)

pub returns-in-Ok-clause-few_reads : goal.returns-in-Ok-clause-few_reads
returns-in-Ok-clause-few_reads g c = λ total book told stands. whole_reads total book c.args.rule.now (shown.view c.args.store.now)
    (shown.view c.sweep_some.new.store) (c.in-Ok.ensures.few_reads total book told stands)

pub returns-in-Err-clause-few_reads : goal.returns-in-Err-clause-few_reads
returns-in-Err-clause-few_reads g c = λ total book told stands. whole_reads total book c.args.rule.now (shown.view c.args.store.now)
    (shown.view c.sweep_some.new.store) (c.in-Err.ensures.few_reads total book told stands)

pub returns-in-Err-clause-blames : goal.returns-in-Err-clause-blames
returns-in-Err-clause-blames g c = c.in-Err.ensures.blames
