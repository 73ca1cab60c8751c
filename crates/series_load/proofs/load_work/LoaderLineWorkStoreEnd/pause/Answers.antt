use Rattle.std.proofs.Common.{◌∙◌, refl, ap, sym}
use Rattle.block_disk.specs.View.{Beside}
use Rattle.line_runs.specs.Given.{Pause}
use Rattle.series_load.specs.Steps.{NoBad}
use Rattle.series_store.specs.Shown as shown
use Rattle.series_load.proofs.WorkLemmas.{any_pause_done, any_runs_leave, any_runs_stop, keeps_named}
use Rattle.series_load.proofs.load_work.LoaderLineWorkStoreEnd.pause.Goals as goal

pub returns-clause-does : goal.returns-clause-does
returns-clause-does g c = λ loading stands.
    let sent = g.P.Streams.sent in
    let w = g.met.P.PageWorld in
    let loader = c.args.self.now in
    let old = c.args.from.now in
    let new = c.commit.new.store in
    let loader' = c.commit.new.self in
    let e = c.commit.ensures in
    any_pause_done (shown.IsTold old) (shown.IsTold new) loader loader' (shown.view old) (shown.view new) e.carries.is_told loading NoBad
    (sent (shown.pages old)) (sent (shown.pages new)) c.commit.result (record { name_is = e.name; scale_is = e.scale; step_is = e.step })
    e.first e.points (sym (w.beside_sent (shown.pages new)) ∙ ap (λ (b : Beside). b.sent) e.carries.beside
    ∙ w.beside_sent (shown.pages old))
    (λ held s. e.does held.total held.book held.waiting held.open_run s.is_told s.stands s.keeps)
    (λ held s. keeps_named loader.name loader'.name c.commit.result held.open_run loader'.kept loader'.run e.name
    (e.keeps held.waiting held.open_run s.keeps)) stands

pub returns-clause-stops : goal.returns-clause-stops
returns-clause-stops g c = λ loading stands.
    let loader = c.args.self.now in
    let old = c.args.from.now in
    let new = c.commit.new.store in
    let loader' = c.commit.new.self in
    let e = c.commit.ensures in
    any_runs_stop (shown.IsTold old) (shown.IsTold new) loader loader' (shown.view old) (shown.view new) e.carries.is_told loading Pause
    (λ held. held.waiting) c.commit.result (λ held. refl)
    (λ held s. e.does held.total held.book held.waiting held.open_run s.is_told s.stands s.keeps) e.blames stands

pub returns-clause-leaves : goal.returns-clause-leaves
returns-clause-leaves g c = λ loading stands lasts.
    let loader = c.args.self.now in
    let old = c.args.from.now in
    let new = c.commit.new.store in
    let loader' = c.commit.new.self in
    let e = c.commit.ensures in
    any_runs_leave (shown.IsTold old) (shown.IsTold new) loader loader' (shown.view old) (shown.view new) e.carries.is_told loading Pause
    (λ held. NoBad) (λ held. held.waiting) c.commit.result (λ held. refl)
    (λ held s. e.does held.total held.book held.waiting held.open_run s.is_told s.stands s.keeps) stands lasts
