use Rattle.std.proofs.Common.{◌∙◌, List, Result, ap, arith, length, subst, sym}
use Rattle.block_disk.specs.View.{Beside}
use Rattle.chart_world.specs.FaultLaws.{counts_then}
use Rattle.chart_world.specs.Faults.{CountsFault, fault_in}
use Rattle.line_raster.specs.Canvas.{Canvas}
use Rattle.run_ends.specs.Faults.{end_fault}
use Rattle.run_ends.specs.declared.ending.End.{End}
use Rattle.page_space.specs.declared.superblock.Superblock.{Superblock}
use Rattle.pbm_writer.specs.Picture.{picture}
use Rattle.series_pair.specs.Derived.{IsChartAnswer, sum_fault}
use Rattle.series_pair.specs.declared.sum_error.SumError.{SumError}
use Rattle.series_store.specs.Shown as shown
use Rattle.derive_command.specs.Answers.{by_book}
use Rattle.derive_command.specs.Catalogs.{by_memory}
use Rattle.derive_command.specs.WorkLaws.{goes_further, same_series}
use Rattle.series_catalog.specs.Catalogs.{AreAsTold}
use Rattle.series_catalog.specs.declared.stored_series.StoredSeries.{StoredSeries}
use Rattle.derive_command.proofs.DoingLemmas.{causes_later, chart_cause, chart_fault, goes_looks, goes_sends, is_answer, is_picture}
use Rattle.derive_command.proofs.DoingLemmas.{request_drawn, request_refused, request_undrawn, sent_cause, undrawn, undrawn_in}
use Rattle.store_commands.specs.Faulting.{counts_told}
use Rattle.store_commands.specs.Sides.{AreBeside, side_of}
use Rattle.derive_command.specs.Doing.{end_at}
use Rattle.derive_command.proofs.WorkLemmas.{chart_short, refused_short}
use Rattle.derive_command.proofs.answering.answer_request.Goals as goal

pub returns-in-Err-clause-does : goal.returns-in-Err-clause-does
returns-in-Err-clause-does g c = λ total book told stands.
    request_refused (by_book book) c.args.request.now c.args.at c.in-Err.refusal c.refused_at.result
    (g.P.Streams.sent (shown.pages c.args.store.now)) c.refused_at.ensures
    (c.in-Err.ensures.asked total book c.requires.sound told stands)

pub returns-in-Ok-chart-clause-does : goal.returns-in-Ok-chart-clause-does
returns-in-Ok-chart-clause-does g c = λ total book told stands.
    let sent = g.P.Streams.sent in
    let w = g.met.P.PageWorld in
    let first = shown.pages c.args.store.now in
    let mid = shown.pages c.chart_of_sum-chart.new.store in
    let new = shown.pages c.send_picture.new.store in
    let asked = c.in-Ok.asked in
    let is = c.in-Ok.ensures.asked total book c.requires.sound told stands in
    let made = c.send_picture.ensures in
    let P : Result Canvas SumError → Type 0 = λ r. IsChartAnswer book asked.x asked.y asked.sum.a asked.sum.b asked.grid asked.range r in
    let chart = subst P c.in-Ok-chart.is (c.chart_of_sum-chart.ensures.answer total book told stands is.shifted) in
    request_drawn (by_book book) c.args.request.now c.args.at (sent first) (sent mid) (sent new)
    (sym (w.beside_sent mid) ∙ ap (λ (b : Beside). b.sent) c.chart_of_sum-chart.ensures.looks.beside ∙ w.beside_sent first)
    (picture c.in-Ok-chart.chart) (is_answer book c.args.request.now asked is c.in-Ok-chart.chart chart) c.send_picture.result made.whole
    made.stops

pub returns-in-Err-chart-clause-does : goal.returns-in-Err-chart-clause-does
returns-in-Err-chart-clause-does g c = λ total book told stands.
    let sent = g.P.Streams.sent in
    let w = g.met.P.PageWorld in
    let first = shown.pages c.args.store.now in
    let mid = shown.pages c.chart_of_sum-chart.new.store in
    let asked = c.in-Ok.asked in
    let is = c.in-Ok.ensures.asked total book c.requires.sound told stands in
    let P : Result Canvas SumError → Type 0 = λ r. IsChartAnswer book asked.x asked.y asked.sum.a asked.sum.b asked.grid asked.range r in
    let answer = subst P c.in-Err-chart.is (c.chart_of_sum-chart.ensures.answer total book told stands is.shifted) in
    request_undrawn (by_book book) c.args.request.now c.args.at (sent first) (sent mid)
    (sym (w.beside_sent mid) ∙ ap (λ (b : Beside). b.sent) c.chart_of_sum-chart.ensures.looks.beside ∙ w.beside_sent first)
    c.in-Err-chart.error c.end_at.result c.end_at.ensures (undrawn book c.args.request.now asked is c.in-Err-chart.error answer)

pub returns-in-Err-clause-records : goal.returns-in-Err-clause-records
returns-in-Err-clause-records g c =
    let old = c.args.store.now in
    request_refused (by_memory (shown.catalog old) (side_of g.P.Streams old)) c.args.request.now c.args.at c.in-Err.refusal
    c.refused_at.result
    (g.P.Streams.sent (shown.pages old)) c.refused_at.ensures c.in-Err.ensures.records

pub returns-in-Ok-chart-clause-records : goal.returns-in-Ok-chart-clause-records
returns-in-Ok-chart-clause-records g c =
    let sent = g.P.Streams.sent in
    let w = g.met.P.PageWorld in
    let old = c.args.store.now in
    let first = shown.pages old in
    let mid = shown.pages c.chart_of_sum-chart.new.store in
    let new = shown.pages c.send_picture.new.store in
    let made = c.send_picture.ensures in
    request_drawn (by_memory (shown.catalog old) (side_of g.P.Streams c.send_picture.new.store)) c.args.request.now c.args.at (sent first)
    (sent mid) (sent new)
    (sym (w.beside_sent mid) ∙ ap (λ (b : Beside). b.sent) c.chart_of_sum-chart.ensures.looks.beside ∙ w.beside_sent first)
    (picture c.in-Ok-chart.chart) (is_picture (shown.catalog old) c.args.request.now c.in-Ok.asked c.in-Ok.ensures.records
    c.in-Ok-chart.chart c.in-Ok-chart.ensures.size)
    c.send_picture.result made.whole made.stops

pub returns-in-Err-chart-clause-records : goal.returns-in-Err-chart-clause-records
returns-in-Err-chart-clause-records g c =
    let sent = g.P.Streams.sent in
    let w = g.met.P.PageWorld in
    let old = c.args.store.now in
    let mid = c.chart_of_sum-chart.new.store in
    let first = shown.pages old in
    let pm = shown.pages mid in
    let asked = c.in-Ok.asked in
    let looks = c.chart_of_sum-chart.ensures.looks in
    let P : Result Canvas SumError → Type 0 = λ r. Rattle.std.specs.Prelude.IfErr r
    (λ e. Rattle.series_pair.specs.Derived.IsChartCause asked.x asked.y e (shown.IsTold mid) (shown.total old) (shown.view old)
    (shown.view mid)) in
    let T : List StoredSeries → Type 0 = λ catalog. AreAsTold (shown.image mid) catalog in
    request_undrawn (by_memory (shown.catalog old) (side_of g.P.Streams mid)) c.args.request.now c.args.at (sent first) (sent pm)
    (sym (w.beside_sent pm) ∙ ap (λ (b : Beside). b.sent) looks.beside ∙ w.beside_sent first)
    c.in-Err-chart.error c.end_at.result c.end_at.ensures
    (undrawn_in (shown.catalog old) c.args.request.now asked c.in-Ok.ensures.records (side_of g.P.Streams mid) (shown.view old)
    (shown.total old) (ap (λ (s : Superblock). s.total) looks.superblock)
    (λ t. subst T (same_series looks.catalog_is) (mid.told (looks.fit c.requires.sound) t)) c.in-Ok.ensures.first c.in-Ok.ensures.second
    c.in-Err-chart.error (subst P c.in-Err-chart.is c.chart_of_sum-chart.ensures.cause))

pub returns-in-Ok-chart-clause-catalog : goal.returns-in-Ok-chart-clause-catalog
returns-in-Ok-chart-clause-catalog g c = same_series c.send_picture.ensures.beside.catalog
    ∙ same_series c.chart_of_sum-chart.ensures.looks.catalog_is

pub returns-in-Err-chart-clause-catalog : goal.returns-in-Err-chart-clause-catalog
returns-in-Err-chart-clause-catalog g c = same_series c.chart_of_sum-chart.ensures.looks.catalog_is

pub returns-in-Ok-chart-clause-goes : goal.returns-in-Ok-chart-clause-goes
returns-in-Ok-chart-clause-goes g c =
    let w = g.met.P.PageWorld in
    let side = side_of g.P.Streams in
    let first = c.args.store.now in
    let mid = c.chart_of_sum-chart.new.store in
    let new = c.send_picture.new.store in
    let looks = c.chart_of_sum-chart.ensures.looks in
    let made = c.send_picture.ensures in
    let sends = made.beside.pages_are in
    let n = length (picture c.in-Ok-chart.chart) in
    let pm = shown.pages mid in
    let pn = shown.pages new in
    goes_further (side first) (side mid) (side new)
    (goes_looks (side first) (side mid) (shown.numbers first) (shown.numbers mid) first.catalog mid.catalog
    (record { reads_are = w.beside_read_faults (shown.pages first); sends_are = w.beside_send_faults (shown.pages first) })
    (record { reads_are = w.beside_read_faults pm; sends_are = w.beside_send_faults pm })
    (ap (λ (s : Superblock). s.total)) looks)
    (goes_sends (side mid) (side new) (w.send_keeps n pm pn sends) (w.send_passes n pm pn sends) (w.send_told n pm pn sends)
    (w.send_was_told n pm pn sends) (w.send_goes_on n pm pn sends) (ap (λ (s : Superblock). s.total) made.beside.superblock)
    (omega (arith, made.read_faults)) made.send_faults)

pub returns-in-Ok-chart-clause-cause : goal.returns-in-Ok-chart-clause-cause
returns-in-Ok-chart-clause-cause g c =
    let w = g.met.P.PageWorld in
    let side = side_of g.P.Streams in
    let sent = g.P.Streams.sent in
    let first = c.args.store.now in
    let mid = c.chart_of_sum-chart.new.store in
    let new = c.send_picture.new.store in
    let looks = c.chart_of_sum-chart.ensures.looks in
    let made = c.send_picture.ensures in
    let pm = shown.pages mid in
    let was : AreBeside (shown.view first) (side first).read_faults
    (side first).send_faults = record {
      reads_are = w.beside_read_faults (shown.pages first);
      sends_are = w.beside_send_faults (shown.pages first);
    } in
    let are : AreBeside (shown.view mid) (side mid).read_faults (side mid).send_faults = record {
      reads_are = w.beside_read_faults pm;
      sends_are = w.beside_send_faults pm;
    } in
    let P : Result Canvas SumError → Type 0 = λ r. CountsFault (fault_in sum_fault r) (shown.view first) (shown.view mid) in
    causes_later (side first) (side mid) (side new) was are
    (subst P c.in-Ok-chart.is c.chart_of_sum-chart.ensures.faults) c.send_picture.result
    (goes_looks (side first) (side mid) (shown.numbers first) (shown.numbers mid) first.catalog mid.catalog was are
    (ap (λ (s : Superblock). s.total)) looks)
    (sent_cause (side mid) (side new) (picture c.in-Ok-chart.chart) (sent pm)
    (sent (shown.pages new)) c.send_picture.result made.stops made.cause)

pub returns-in-Ok-chart-clause-left : goal.returns-in-Ok-chart-clause-left
returns-in-Ok-chart-clause-left g c =
    let w = g.met.P.PageWorld in
    let first = shown.pages c.args.store.now in
    let mid = shown.pages c.chart_of_sum-chart.new.store in
    c.send_picture.ensures.left ∙ sym (w.beside_left mid) ∙ ap (λ (b : Beside). b.left) c.chart_of_sum-chart.ensures.looks.beside
    ∙ w.beside_left first

pub returns-in-Ok-chart-clause-pieces : goal.returns-in-Ok-chart-clause-pieces
returns-in-Ok-chart-clause-pieces g c =
    let w = g.met.P.PageWorld in
    let first = shown.pages c.args.store.now in
    let mid = shown.pages c.chart_of_sum-chart.new.store in
    c.send_picture.ensures.pieces ∙ sym (w.beside_pieces mid) ∙ ap (λ (b : Beside). b.pieces) c.chart_of_sum-chart.ensures.looks.beside
    ∙ w.beside_pieces first

pub returns-in-Err-chart-clause-goes : goal.returns-in-Err-chart-clause-goes
returns-in-Err-chart-clause-goes g c =
    let w = g.met.P.PageWorld in
    let side = side_of g.P.Streams in
    let first = c.args.store.now in
    let mid = c.chart_of_sum-chart.new.store in
    let pm = shown.pages mid in
    goes_looks (side first) (side mid) (shown.numbers first) (shown.numbers mid) first.catalog mid.catalog
    (record { reads_are = w.beside_read_faults (shown.pages first); sends_are = w.beside_send_faults (shown.pages first) })
    (record { reads_are = w.beside_read_faults pm; sends_are = w.beside_send_faults pm })
    (ap (λ (s : Superblock). s.total)) c.chart_of_sum-chart.ensures.looks

pub returns-in-Err-chart-clause-cause : goal.returns-in-Err-chart-clause-cause
returns-in-Err-chart-clause-cause g c =
    let side = side_of g.P.Streams in
    let first = c.args.store.now in
    let mid = c.chart_of_sum-chart.new.store in
    let P : Result Canvas SumError → Type 0 = λ r. Rattle.std.specs.Prelude.IfErr r
    (λ e. Rattle.series_pair.specs.Derived.IsChartCause c.in-Ok.asked.x c.in-Ok.asked.y e (shown.IsTold mid) (shown.total first)
    (shown.view first) (shown.view mid)) in
    chart_cause (side first) (side mid) c.in-Ok.asked.x c.in-Ok.asked.y c.args.at c.in-Err-chart.error c.end_at.result c.end_at.ensures
    (subst P c.in-Err-chart.is c.chart_of_sum-chart.ensures.cause)

pub returns-in-Err-chart-clause-left : goal.returns-in-Err-chart-clause-left
returns-in-Err-chart-clause-left g c =
    let w = g.met.P.PageWorld in
    let first = shown.pages c.args.store.now in
    let mid = shown.pages c.chart_of_sum-chart.new.store in
    sym (w.beside_left mid) ∙ ap (λ (b : Beside). b.left) c.chart_of_sum-chart.ensures.looks.beside ∙ w.beside_left first

pub returns-in-Err-chart-clause-pieces : goal.returns-in-Err-chart-clause-pieces
returns-in-Err-chart-clause-pieces g c =
    let w = g.met.P.PageWorld in
    let first = shown.pages c.args.store.now in
    let mid = shown.pages c.chart_of_sum-chart.new.store in
    sym (w.beside_pieces mid) ∙ ap (λ (b : Beside). b.pieces) c.chart_of_sum-chart.ensures.looks.beside ∙ w.beside_pieces first

pub returns-in-Ok-chart-clause-faults : goal.returns-in-Ok-chart-clause-faults
returns-in-Ok-chart-clause-faults g c =
    let first = c.args.store.now in
    let mid = c.chart_of_sum-chart.new.store in
    let new = c.send_picture.new.store in
    let P : Result Canvas SumError → Type 0 = λ r. CountsFault (fault_in sum_fault r) (shown.view first) (shown.view mid) in
    counts_then (fault_in end_fault c.send_picture.result) (shown.view first) (shown.view mid) (shown.view new)
    (subst P c.in-Ok-chart.is c.chart_of_sum-chart.ensures.faults) c.send_picture.ensures.faults

pub returns-in-Err-chart-clause-faults : goal.returns-in-Err-chart-clause-faults
returns-in-Err-chart-clause-faults g c =
    let first = c.args.store.now in
    let mid = c.chart_of_sum-chart.new.store in
    let P : Result Canvas SumError → Type 0 = λ r. CountsFault (fault_in sum_fault r) (shown.view first) (shown.view mid) in
    let error = c.in-Err-chart.error in
    let E : End → Type 0 = λ e. CountsFault (end_fault e) (shown.view first) (shown.view mid) in
    subst E (sym c.end_at.ensures) (counts_told (sum_fault error) (end_fault (end_at c.args.at error)) (shown.view first) (shown.view mid)
    (chart_fault c.args.at error) (subst P c.in-Err-chart.is c.chart_of_sum-chart.ensures.faults))

pub returns-in-Err-clause-long : goal.returns-in-Err-clause-long
returns-in-Err-clause-long g c = λ same. refused_short c.args.at c.in-Err.refusal c.refused_at.result c.refused_at.ensures same

pub returns-in-Err-chart-clause-long : goal.returns-in-Err-chart-clause-long
returns-in-Err-chart-clause-long g c = λ same. chart_short c.args.at c.in-Err-chart.error c.end_at.result c.end_at.ensures same
