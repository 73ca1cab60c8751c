use Rattle.std.proofs.Common.{◌++◌}
use Rattle.series_load.specs.Steps.{IsAtLine, closed}
use Rattle.series_load.proofs.BlameLemmas.{none_line}
use Rattle.series_load.proofs.SetLemmas.{not_stopped, stopped}
use Rattle.series_store.specs.Shown as shown
use Rattle.series_load.proofs.loader.Loader.stop.Goals as goal

pub returns-in-Ok-clause-does : goal.returns-in-Ok-clause-does
returns-in-Ok-clause-does g c = λ total book waiting old told stands keeps.
    stopped c.args.at c.from.result total c.args.self.now.name book (waiting ++ closed old) c.in-Ok.field-0 (shown.view c.args.store.now)
    (shown.view c.end.new.store) c.from.ensures
    (c.in-Ok.ensures.does total book waiting old told stands keeps)

pub returns-in-Err-clause-does : goal.returns-in-Err-clause-does
returns-in-Err-clause-does g c = λ total book waiting old told stands keeps.
    not_stopped (IsAtLine c.args.at total c.args.self.now.name book (waiting ++ closed old) (shown.image c.end.new.store)) total
    c.args.self.now.name book (waiting ++ closed old) c.in-Err.end (shown.view c.args.store.now) (shown.view c.end.new.store)
    (c.in-Err.ensures.does total book waiting old told stands keeps)

pub returns-in-Ok-clause-faults : goal.returns-in-Ok-clause-faults
returns-in-Ok-clause-faults g c = c.in-Ok.ensures.faults

pub returns-in-Err-clause-faults : goal.returns-in-Err-clause-faults
returns-in-Err-clause-faults g c = c.in-Err.ensures.faults

pub returns-in-Err-clause-blames : goal.returns-in-Err-clause-blames
returns-in-Err-clause-blames g c = none_line c.args.at c.in-Err.end c.in-Err.ensures.blames
