use Rattle.std.proofs.Common.{arith, ◌≡◌, ◌++◌, ◌+◌, ◌≤◌, List, ℕ, ℤ, w64, ap, subst, ◌∙◌}
use mir.Val.{to_z, of_z}
use Rattle.series_store.proofs.AskLemmas.{start_same}
use Rattle.series_store.proofs.SelectedLemmas.{kept_at, told_at}
use Rattle.series_store.proofs.FitLemmas.{kept_fit}
use Rattle.stored_book.specs.Records.{entry}
use Rattle.std.specs.Prelude.{OnOk, OnErr}
use Rattle.block_disk.specs.Streams.{sent_after, PartSent}
use Rattle.series_store.specs.Sending.{pages_said, texts_of}
use Rattle.series_store.specs.Shown as stored
use Rattle.series_export.specs.Exports.{line_at, may_be_in, export_text}
use Rattle.series_export.proofs.ExportLemmas.{export_cut_by, text_is, window_few}
use Rattle.series_export.proofs.FaultLemmas.{counts_sending, counts_no_memory}
use Rattle.series_export.proofs.exporting.export_series.Goals as goal

pub returns-clause-salvaged : goal.returns-clause-salvaged
returns-clause-salvaged g c = λ series told kept.
    let info = c.info-info.result in
    let is = told_at c.args.store.now c.args.id series info c.requires.sound told c.requires.there c.info-info.ensures.stored kept.record_is
    in
    let start : ℤ = to_z w64 (of_z w64 info.start) in
    let text : c.in_ok-out.out.items ++ texts_of (line_at start info.step info.scale c.args.window) series.slots ≡ export_text series
    c.args.window =
    ap (λ l. l ++ texts_of (line_at start info.step info.scale c.args.window) series.slots) c.in_ok-out.ensures.header
    ∙ text_is series c.args.window start info.step info.scale (start_same info.start c.info-info.ensures.start
    ∙ is.start) is.step is.scale in
    let P : List ℕ → Type 0 = λ l. OnOk c.send_values.result
    (g.P.Streams.sent (stored.pages c.send_values.new.self) ≡ sent_after l (g.P.Streams.sent (stored.pages c.args.store.now))) in
    subst P text (c.send_values.ensures.sent series told kept)

pub returns-clause-salvaged_part : goal.returns-clause-salvaged_part
returns-clause-salvaged_part g c = λ series told kept.
    let info = c.info-info.result in
    let is = told_at c.args.store.now c.args.id series info c.requires.sound told c.requires.there c.info-info.ensures.stored kept.record_is
    in
    let start : ℤ = to_z w64 (of_z w64 info.start) in
    let text : c.in_ok-out.out.items ++ texts_of (line_at start info.step info.scale c.args.window) series.slots ≡ export_text series
    c.args.window =
    ap (λ l. l ++ texts_of (line_at start info.step info.scale c.args.window) series.slots) c.in_ok-out.ensures.header
    ∙ text_is series c.args.window start info.step info.scale (start_same info.start c.info-info.ensures.start
    ∙ is.start) is.step is.scale in
    let P : List ℕ → Type 0 = λ l. OnErr c.send_values.result
    (PartSent l (g.P.Streams.sent (stored.pages c.args.store.now)) (g.P.Streams.sent (stored.pages c.send_values.new.self))) in
    subst P text (c.send_values.ensures.part series told kept)

pub returns-clause-salvaged_reads : goal.returns-clause-salvaged_reads
returns-clause-salvaged_reads g c = λ series told kept.
    let info = c.info-info.result in
    let is = told_at c.args.store.now c.args.id series info c.requires.sound told c.requires.there c.info-info.ensures.stored kept.record_is
    in
    let start : ℤ = to_z w64 (of_z w64 info.start) in
    let P : ℤ → Type 0 = λ z. (stored.view c.send_values.new.self).reads ≤ (stored.view c.args.store.now).reads + pages_said
    (may_be_in z series.step c.args.window) series.slots in
    let Q : ℕ → Type 0 = λ n. (stored.view c.send_values.new.self).reads ≤ (stored.view c.args.store.now).reads + pages_said
    (may_be_in start n c.args.window) series.slots in
    subst P (start_same info.start c.info-info.ensures.start ∙ is.start) (subst Q is.step (c.send_values.ensures.reads series told kept))

pub returns-clause-cut : goal.returns-clause-cut
returns-clause-cut g c = λ series told kept.
    let info = c.info-info.result in
    let is = told_at c.args.store.now c.args.id series info c.requires.sound told c.requires.there c.info-info.ensures.stored kept.record_is
    in
    let start : ℤ = to_z w64 (of_z w64 info.start) in
    export_cut_by c.send_values.result (stored.image c.args.store.now)
    (stored.total c.args.store.now) c.args.id series c.args.window start info.step info.scale c.in_ok-out.out.items
    (g.P.Streams.sent (stored.pages c.args.store.now)) (g.P.Streams.sent (stored.pages c.send_values.new.self))
    c.in_ok-out.ensures.header (start_same info.start c.info-info.ensures.start
    ∙ is.start) is.step is.scale (c.send_values.ensures.cut series told kept)

-- a series of a book is such a one
pub returns-clause-sent : goal.returns-clause-sent
returns-clause-sent g c = λ total book series told stands there.
    returns-clause-salvaged g c series told (kept_fit (stored.image c.args.store.now) (stored.total c.args.store.now) series
    (entry (stored.image c.args.store.now) c.args.id)
    (kept_at c.args.store.now total book c.args.id series c.requires.sound told stands there))

pub returns-clause-part : goal.returns-clause-part
returns-clause-part g c = λ total book series told stands there.
    returns-clause-salvaged_part g c series told (kept_fit (stored.image c.args.store.now) (stored.total c.args.store.now) series
    (entry (stored.image c.args.store.now) c.args.id)
    (kept_at c.args.store.now total book c.args.id series c.requires.sound told stands there))

pub returns-clause-reads : goal.returns-clause-reads
returns-clause-reads g c = λ total book series told stands there.
    let fit = kept_fit (stored.image c.args.store.now) (stored.total c.args.store.now) series
    (entry (stored.image c.args.store.now) c.args.id)
    (kept_at c.args.store.now total book c.args.id series c.requires.sound told stands there) in
    omega (arith, returns-clause-salvaged_reads g c series told fit, window_few series c.args.window fit.tree.few)

pub returns-clause-no_damage : goal.returns-clause-no_damage
returns-clause-no_damage g c = λ total book series told stands there.
    c.send_values.ensures.no_damage series told (kept_at c.args.store.now total book c.args.id series c.requires.sound told stands there)

pub returns-in_err-out-clause-faults : goal.returns-in_err-out-clause-faults
returns-in_err-out-clause-faults g c = counts_no_memory c.from_residual.result (stored.view c.args.store.now) c.from_residual.ensures.1

pub returns-clause-faults : goal.returns-clause-faults
returns-clause-faults g c =
    counts_sending c.send_values.result (stored.IsTold c.args.store.now) (stored.numbers c.args.store.now) c.args.id
    (stored.view c.args.store.now) (stored.view c.send_values.new.self) c.send_values.ensures.quiet c.send_values.ensures.quiet_err
    c.send_values.ensures.quiet_sends c.send_values.ensures.sends.read_faults c.send_values.ensures.cause
