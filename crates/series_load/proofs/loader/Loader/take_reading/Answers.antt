use Rattle.series_load.specs.Rows.{Reading}
use Rattle.series_load.proofs.ReadingLemmas.{apart_of, begins, fills, goes_on, goes_with, keeps_more, not_full}
use Rattle.series_load.proofs.RunLemmas.{run_more}
use Rattle.std.proofs.Common.{◌++◌, None, Some}
use Rattle.series_load.specs.Steps.{closed}
use Rattle.series_load.proofs.SetLemmas.{keeps_as, ok_keeps_as}
use Rattle.series_load.proofs.loader.Loader.take_reading.Goals as goal

pub returns-then-not-is_followed_by-clause-does : goal.returns-then-not-is_followed_by-clause-does
returns-then-not-is_followed_by-clause-does c = λ waiting old keeps.
    let next : Reading = record { at = c.args.at; time = c.args.next.now.time; value = c.args.next.now.value } in
    let loader = c.args.self.now in
    begins loader.step loader.name waiting old next c.close.new.self.kept c.close.new.self.run c.begin.new.self c.begin.result
    (apart_of loader.step old loader.run next c.is_followed_by.result keeps.still c.is_followed_by.ensures c.if-not-is_followed_by.true)
    (keeps_as loader.name c.close.new.self.name (waiting ++ closed old) None c.close.new.self.kept c.close.new.self.run c.close.ensures.name
    (c.in_ok-close.ensures.keeps waiting old keeps)) c.begin.ensures.at c.begin.ensures.time c.begin.ensures.last c.begin.ensures.values

pub returns-then-is_full-clause-does : goal.returns-then-is_full-clause-does
returns-then-is_full-clause-does c = λ waiting old keeps.
    let next : Reading = record { at = c.args.at; time = c.args.next.now.time; value = c.args.next.now.value } in
    let loader = c.args.self.now in
    let goes = goes_with loader.step old loader.run next c.is_followed_by.result keeps.still c.is_followed_by.ensures
    c.if-not-is_followed_by.false in
    let more = keeps_more goes.run loader.run c.push.new.self next goes.keeps c.in_ok-push.ensures.at c.in_ok-push.ensures.time
    c.in_ok-push.ensures.last c.in_ok-push.ensures.values in
    fills loader.step loader.name waiting old next loader.run c.push.new.self c.close-then-is_full.new.self.run
    c.close-then-is_full.new.self.kept c.close-then-is_full.result goes more
    (c.is_full.ensures.0 c.if-is_full.true) (ok_keeps_as c.close-then-is_full.result loader.name c.close-then-is_full.new.self.name
    (waiting ++ closed (Some (run_more goes.run next))) None c.close-then-is_full.new.self.kept c.close-then-is_full.new.self.run
    c.close-then-is_full.ensures.name (c.close-then-is_full.ensures.keeps waiting (Some (run_more goes.run next))
    (record { sets = keeps.sets; still = more })))

pub returns-clause-does : goal.returns-clause-does
returns-clause-does c = λ waiting old keeps.
    let next : Reading = record { at = c.args.at; time = c.args.next.now.time; value = c.args.next.now.value } in
    let loader = c.args.self.now in
    let goes = goes_with loader.step old loader.run next c.is_followed_by.result keeps.still c.is_followed_by.ensures
    c.if-not-is_followed_by.false in
    let more = keeps_more goes.run loader.run c.push.new.self next goes.keeps c.in_ok-push.ensures.at c.in_ok-push.ensures.time
    c.in_ok-push.ensures.last c.in_ok-push.ensures.values in
    goes_on loader.step loader.name waiting old next loader.kept loader.run c.push.new.self goes keeps.sets more
    (not_full c.is_full.result _ c.is_full.ensures c.if-is_full.false)
