use Rattle.std.proofs.Common.{◌∙◌, ap, sym}
use Rattle.block_disk.specs.View.{Beside}
use Rattle.series_store.specs.Shown as shown
use Rattle.series_load.proofs.WorkLemmas.{any_line_done, any_line_leaves, any_line_stops}
use Rattle.series_load.proofs.load_work.LoaderLineWorkStoreEnd.line.Goals as goal

pub returns-clause-does : goal.returns-clause-does
returns-clause-does g c = λ loading stands.
    let sent = g.P.Streams.sent in
    let w = g.met.P.PageWorld in
    let loader = c.args.self.now in
    let old = c.args.from.now in
    let new = c.take_line.new.store in
    let loader' = c.take_line.new.self in
    let e = c.take_line.ensures in
    any_line_done (shown.IsTold old) (shown.IsTold new) loader loader' (shown.view old)
    (shown.view new) e.carries.is_told loading c.args.at c.args.line.now
    (sent (shown.pages old)) (sent (shown.pages new)) c.take_line.result (record { name_is = e.name; scale_is = e.scale; step_is = e.step })
    (sym (w.beside_sent (shown.pages new)) ∙ ap (λ (b : Beside). b.sent) e.carries.beside ∙ w.beside_sent (shown.pages old))
    (λ held s. e.does held.total held.book held.waiting held.open_run s.is_told s.stands s.keeps) e.reads stands

pub returns-clause-stops : goal.returns-clause-stops
returns-clause-stops g c = λ loading stands.
    let loader = c.args.self.now in
    let old = c.args.from.now in
    let new = c.take_line.new.store in
    let loader' = c.take_line.new.self in
    let e = c.take_line.ensures in
    any_line_stops (shown.IsTold old) (shown.IsTold new) loader loader' (shown.view old)
    (shown.view new) e.carries.is_told loading c.args.at c.args.line.now
    c.take_line.result (λ held s. e.does held.total held.book held.waiting held.open_run s.is_told s.stands s.keeps) e.blames stands

pub returns-clause-leaves : goal.returns-clause-leaves
returns-clause-leaves g c = λ loading stands lasts.
    let loader = c.args.self.now in
    let old = c.args.from.now in
    let new = c.take_line.new.store in
    let loader' = c.take_line.new.self in
    let e = c.take_line.ensures in
    any_line_leaves (shown.IsTold old) (shown.IsTold new) loader loader' (shown.view old)
    (shown.view new) e.carries.is_told loading c.args.at c.args.line.now
    c.take_line.result (λ held s. e.does held.total held.book held.waiting held.open_run s.is_told s.stands s.keeps) stands lasts
