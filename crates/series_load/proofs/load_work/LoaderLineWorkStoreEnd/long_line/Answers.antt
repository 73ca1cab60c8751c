use Rattle.std.proofs.Common.{◌++◌, None, Err, refl}
use Rattle.line_runs.specs.Given.{Line}
use Rattle.series_load.specs.Loading.{BadBy, seen}
use Rattle.series_load.specs.Steps.{closed}
use Rattle.series_store.specs.Shown as shown
use Rattle.series_load.proofs.WorkLemmas.{any_runs_leave, any_runs_stop}
use Rattle.series_load.proofs.load_work.LoaderLineWorkStoreEnd.long_line.Goals as goal

pub returns-clause-stops : goal.returns-clause-stops
returns-clause-stops g c = λ loading stands.
    let loader = c.args.self.now in
    let old = c.args.from.now in
    let new = c.stop.new.store in
    let loader' = c.stop.new.self in
    let e = c.stop.ensures in
    any_runs_stop (shown.IsTold old) (shown.IsTold new) loader loader' (shown.view old) (shown.view new) e.carries.is_told loading
    (Line c.args.at None)
    (λ held. held.waiting ++ closed held.open_run) (Err c.stop.result) (λ held. refl)
    (λ held s. e.does held.total held.book held.waiting held.open_run s.is_told s.stands s.keeps) e.blames stands

pub returns-clause-leaves : goal.returns-clause-leaves
returns-clause-leaves g c = λ loading stands lasts.
    let loader = c.args.self.now in
    let old = c.args.from.now in
    let new = c.stop.new.store in
    let loader' = c.stop.new.self in
    let e = c.stop.ensures in
    any_runs_leave (shown.IsTold old) (shown.IsTold new) loader loader' (shown.view old) (shown.view new) e.carries.is_told loading
    (Line c.args.at None)
    (λ held. BadBy (seen held loader) (Line c.args.at None) (shown.image new)) (λ held. held.waiting ++ closed held.open_run)
    (Err c.stop.result) (λ held. refl)
    (λ held s. e.does held.total held.book held.waiting held.open_run s.is_told s.stands s.keeps) stands lasts
