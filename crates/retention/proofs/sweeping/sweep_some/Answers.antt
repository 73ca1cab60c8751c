use Rattle.std.proofs.Common.{◌≡◌, true, false, refl, sym, ◌∙◌, arith}
use Rattle.retention.proofs.SweepLemmas.{not_unknown, true_false}
use Rattle.retention.proofs.sweeping.sweep_some.Goals as goal

pub returns-then-names_none-clause-unknown : goal.returns-then-names_none-clause-unknown
returns-then-names_none-clause-unknown g c = λ total book told stands.
    (λ same. c.names_none.ensures.none total book told stands c.if-names_none.true, λ names. refl)

pub returns-then-names_none-clause-stops : goal.returns-then-names_none-clause-stops
returns-then-names_none-clause-stops g c = λ total book told stands. c.names_none.ensures.none total book told stands c.if-names_none.true

pub returns-clause-unknown : goal.returns-clause-unknown
returns-clause-unknown g c = λ total book told stands. (
  λ same. absurd (not_unknown c.clear_some.result c.clear_some.ensures.known same),
  λ names. let both : true ≡ false = sym (c.names_none.ensures.some total book told stands names) ∙ c.if-names_none.false in
      absurd (true_false both),
)

pub returns-clause-untouched : goal.returns-clause-untouched
returns-clause-untouched g c = λ same. absurd (not_unknown c.clear_some.result c.clear_some.ensures.known same)

pub returns-clause-done : goal.returns-clause-done
returns-clause-done g c = c.clear_some.ensures.done

pub returns-clause-stops : goal.returns-clause-stops
returns-clause-stops g c = c.clear_some.ensures.stops

pub returns-clause-moments : goal.returns-clause-moments
returns-clause-moments g c = c.clear_some.ensures.moments

pub returns-clause-carries : goal.returns-clause-carries
returns-clause-carries g c = c.clear_some.ensures.carries

pub returns-clause-commits : goal.returns-clause-commits
returns-clause-commits g c = c.clear_some.ensures.commits

pub returns-clause-within : goal.returns-clause-within
returns-clause-within g c = c.clear_some.ensures.within

pub returns-clause-each : goal.returns-clause-each
returns-clause-each g c = c.clear_some.ensures.each

pub returns-clause-few : goal.returns-clause-few
returns-clause-few g c = c.clear_some.ensures.few

pub returns-then-names_none-clause-commits : goal.returns-then-names_none-clause-commits
returns-then-names_none-clause-commits g c = λ total book told stands. record { syncs = omega arith; writes = omega arith }

pub returns-then-names_none-clause-within : goal.returns-then-names_none-clause-within
returns-then-names_none-clause-within g c = record { syncs = omega arith; writes = omega arith }

pub returns-clause-cause : goal.returns-clause-cause
returns-clause-cause g c = c.clear_some.ensures.cause

pub returns-clause-faults : goal.returns-clause-faults
returns-clause-faults g c = c.clear_some.ensures.faults

pub returns-clause-sound : goal.returns-clause-sound
returns-clause-sound g c = c.clear_some.ensures.sound

pub returns-clause-sound_for : goal.returns-clause-sound_for
returns-clause-sound_for g c = c.clear_some.ensures.sound_for

pub returns-then-names_none-clause-untouched : goal.returns-then-names_none-clause-untouched
returns-then-names_none-clause-untouched g c = λ same. refl

pub returns-then-names_none-clause-sound_for : goal.returns-then-names_none-clause-sound_for
returns-then-names_none-clause-sound_for g c = c.requires.sound

pub returns-then-names_none-clause-lacks : goal.returns-then-names_none-clause-lacks
returns-then-names_none-clause-lacks g c = λ same. c.names_none.ensures.lacks c.if-names_none.true

pub returns-clause-lacks : goal.returns-clause-lacks
returns-clause-lacks g c = λ same. absurd (not_unknown c.clear_some.result c.clear_some.ensures.known same)

pub returns-then-names_none-clause-few_reads : goal.returns-then-names_none-clause-few_reads
returns-then-names_none-clause-few_reads g c = λ total book told stands. omega arith

pub returns-clause-few_reads : goal.returns-clause-few_reads
returns-clause-few_reads g c = c.clear_some.ensures.few_reads

pub returns-clause-blames : goal.returns-clause-blames
returns-clause-blames g c = c.clear_some.ensures.blames
