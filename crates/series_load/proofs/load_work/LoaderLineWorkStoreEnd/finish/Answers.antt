use Rattle.std.proofs.Common.{◌∙◌, ◌++◌, None, refl, ap, sym}
use Rattle.block_disk.specs.View.{Beside}
use Rattle.line_runs.specs.Given.{End}
use Rattle.series_load.specs.Steps.{NoBad, closed}
use Rattle.series_store.specs.Shown as shown
use Rattle.series_load.proofs.WorkLemmas.{any_end_done, any_runs_leave, any_runs_stop, keeps_named}
use Rattle.series_load.proofs.load_work.LoaderLineWorkStoreEnd.finish.Goals as goal

pub returns-clause-does : goal.returns-clause-does
returns-clause-does g c = λ loading stands.
    let sent = g.P.Streams.sent in
    let w = g.met.P.PageWorld in
    let loader = c.args.self.now in
    let old = c.args.from.now in
    let new = c.end.new.store in
    let loader' = c.end.new.self in
    let e = c.end.ensures in
    any_end_done (shown.IsTold old) (shown.IsTold new) loader loader' (shown.view old) (shown.view new) e.carries.is_told loading NoBad
    (sent (shown.pages old)) (sent (shown.pages new)) c.end.result (record { name_is = e.name; scale_is = e.scale; step_is = e.step })
    e.first e.points (sym (w.beside_sent (shown.pages new)) ∙ ap (λ (b : Beside). b.sent) e.carries.beside
    ∙ w.beside_sent (shown.pages old))
    (λ held s. e.does held.total held.book held.waiting held.open_run s.is_told s.stands s.keeps)
    (λ held s. keeps_named loader.name loader'.name c.end.result None loader'.kept loader'.run e.name
    (e.keeps held.waiting held.open_run s.keeps)) stands

pub returns-clause-stops : goal.returns-clause-stops
returns-clause-stops g c = λ loading stands.
    let loader = c.args.self.now in
    let old = c.args.from.now in
    let new = c.end.new.store in
    let loader' = c.end.new.self in
    let e = c.end.ensures in
    any_runs_stop (shown.IsTold old) (shown.IsTold new) loader loader' (shown.view old) (shown.view new) e.carries.is_told loading End
    (λ held. held.waiting ++ closed held.open_run) c.end.result (λ held. refl)
    (λ held s. e.does held.total held.book held.waiting held.open_run s.is_told s.stands s.keeps) e.blames stands

pub returns-clause-leaves : goal.returns-clause-leaves
returns-clause-leaves g c = λ loading stands lasts.
    let loader = c.args.self.now in
    let old = c.args.from.now in
    let new = c.end.new.store in
    let loader' = c.end.new.self in
    let e = c.end.ensures in
    any_runs_leave (shown.IsTold old) (shown.IsTold new) loader loader' (shown.view old) (shown.view new) e.carries.is_told loading End
    (λ held. NoBad) (λ held. held.waiting ++ closed held.open_run) c.end.result (λ held. refl)
    (λ held s. e.does held.total held.book held.waiting held.open_run s.is_told s.stands s.keeps) stands lasts
