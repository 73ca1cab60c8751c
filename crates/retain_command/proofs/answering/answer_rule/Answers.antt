use Rattle.std.proofs.Common.{◌∙◌, List, ap, length, subst, sym}
use Rattle.block_disk.specs.View.{Beside}
use Rattle.retention.specs.Sweeps.{LacksNamed, sweeps}
use Rattle.series_catalog.specs.declared.stored_series.StoredSeries.{StoredSeries}
use Rattle.series_store.specs.Shown as shown
use Rattle.retain_command.specs.Answers.{swept_text}
use Rattle.chart_world.specs.Faults.{fault_in}
use Rattle.chart_world.specs.FaultLaws.{counts_then}
use Rattle.run_ends.specs.Faults.{end_fault}
use Rattle.retain_command.specs.Shown.{IsBadOn}
use Rattle.retain_command.proofs.Counting.{sweep_counts}
use Rattle.retain_command.proofs.DoingLemmas.{costs_of, rule_answered, rule_stopped, says_so, sweep_fails, swept_there, unsent_fails}
use Rattle.retain_command.proofs.WorkLemmas.{sweep_short}
use Rattle.retain_command.proofs.answering.answer_rule.Goals as goal

pub returns-in-Ok-clause-does : goal.returns-in-Ok-clause-does
returns-in-Ok-clause-does g c = λ total book told stands.
    let view = g.P.Pages.view in
    let sent = g.P.Streams.sent in
    let w = g.met.P.PageWorld in
    let pages = shown.pages c.args.store.now in
    let mid = shown.pages c.sweep.new.store in
    let pages' = shown.pages c.send_swept.new.store in
    let swept = c.in-Ok.swept in
    let e = c.in-Ok.ensures in
    let made = c.send_swept.ensures in
    let n = length (swept_text swept.clears swept.used) in
    let sends = made.beside.pages_are in
    rule_answered total book c.args.rule.now c.args.at swept (view pages) (view mid) (view pages') (sent pages) (sent mid) (sent pages')
    (swept_there book c.args.rule.now swept (e.unknown total book told stands)) (e.done total book told stands)
    (e.moments total book told stands)
    (sym (w.beside_sent mid) ∙ ap (λ (b : Beside). b.sent) e.carries.beside
    ∙ w.beside_sent pages) (w.send_keeps n mid pages' sends) c.send_swept.result made.whole made.stops (g.met.P.Pages.rests mid e.sound)
    (w.send_passes n mid pages' sends) (w.send_counts n mid pages' sends)
    (costs_of (length (sweeps total book c.args.rule.now)) (view pages) (view mid) (e.few_reads total book told stands)
    (e.commits total book told stands))

pub returns-in-Err-clause-does : goal.returns-in-Err-clause-does
returns-in-Err-clause-does g c = λ total book told stands.
    let view = g.P.Pages.view in
    let sent = g.P.Streams.sent in
    let w = g.met.P.PageWorld in
    let pages = shown.pages c.args.store.now in
    let mid = shown.pages c.sweep.new.store in
    let e = c.in-Err.ensures in
    rule_stopped total book c.args.rule.now c.args.at (view pages) (view mid) (sent pages)
    (sent mid) c.in-Err.error c.end_at.result c.end_at.ensures (e.unknown total book told stands)
    (λ is. ap (λ s. shown.view s) (e.untouched is)) stands
    (sym (w.beside_sent mid) ∙ ap (λ (b : Beside). b.sent) e.carries.beside
    ∙ w.beside_sent pages) (e.stops total book told stands) (e.moments total book told stands)
    (costs_of (length (sweeps total book c.args.rule.now)) (view pages) (view mid) (e.few_reads total book told stands)
    (e.commits total book told stands))

pub returns-in-Ok-clause-faults : goal.returns-in-Ok-clause-faults
returns-in-Ok-clause-faults g c =
    counts_then (fault_in end_fault c.send_swept.result) (shown.view c.args.store.now) (shown.view c.sweep.new.store)
    (shown.view c.send_swept.new.store) c.in-Ok.ensures.faults c.send_swept.ensures.faults

pub returns-in-Err-clause-faults : goal.returns-in-Err-clause-faults
returns-in-Err-clause-faults g c = sweep_counts c.args.at c.in-Err.error c.end_at.result (shown.view c.args.store.now)
    (shown.view c.sweep.new.store) c.end_at.ensures c.in-Err.ensures.faults

pub returns-in-Err-clause-long : goal.returns-in-Err-clause-long
returns-in-Err-clause-long g c = λ same. sweep_short c.args.at c.in-Err.error c.end_at.result c.end_at.ensures same

pub returns-in-Ok-clause-says : goal.returns-in-Ok-clause-says
returns-in-Ok-clause-says g c =
    let sent = g.P.Streams.sent in
    let w = g.met.P.PageWorld in
    let pages = shown.pages c.args.store.now in
    let mid = shown.pages c.sweep.new.store in
    let pages' = shown.pages c.send_swept.new.store in
    says_so c.send_swept.result c.in-Ok.swept.clears c.in-Ok.swept.used (sent pages) (sent mid) (sent pages')
    (sym (w.beside_sent mid) ∙ ap (λ (b : Beside). b.sent) c.in-Ok.ensures.carries.beside ∙ w.beside_sent pages) c.send_swept.ensures.whole

pub returns-in-Ok-clause-fails : goal.returns-in-Ok-clause-fails
returns-in-Ok-clause-fails g c =
    let sent = g.P.Streams.sent in
    let w = g.met.P.PageWorld in
    let pages = shown.pages c.args.store.now in
    let mid = shown.pages c.sweep.new.store in
    unsent_fails c.send_swept.result c.args.rule.now c.args.at (IsBadOn c.send_swept.new.store)
    (shown.catalog c.send_swept.new.store) c.in-Ok.swept.clears c.in-Ok.swept.used
    (sent pages) (sent mid) (sent (shown.pages c.send_swept.new.store))
    (sym (w.beside_sent mid) ∙ ap (λ (b : Beside). b.sent) c.in-Ok.ensures.carries.beside ∙ w.beside_sent pages) c.send_swept.ensures.stops

pub returns-in-Err-clause-fails : goal.returns-in-Err-clause-fails
returns-in-Err-clause-fails g c =
    let sent = g.P.Streams.sent in
    let w = g.met.P.PageWorld in
    let pages = shown.pages c.args.store.now in
    let mid = shown.pages c.sweep.new.store in
    let e = c.in-Err.ensures in
    sweep_fails c.in-Err.error c.args.rule.now c.args.at (IsBadOn c.sweep.new.store) (shown.catalog c.sweep.new.store) (sent pages)
    (sent mid) c.end_at.result c.end_at.ensures
    (λ is. let P : List StoredSeries → Type 0 = λ items. LacksNamed items c.args.rule.now in
    subst P (sym (ap (λ s. shown.catalog s) (e.untouched is))) (e.lacks is))
    e.blames
    (sym (w.beside_sent mid) ∙ ap (λ (b : Beside). b.sent) e.carries.beside ∙ w.beside_sent pages)
