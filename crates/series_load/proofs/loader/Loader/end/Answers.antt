use Rattle.std.proofs.Common.{◌++◌, None, refl}
use Rattle.series_load.specs.Steps.{NoBad, closed}
use Rattle.series_load.proofs.Counting.{no_memory_on}
use Rattle.series_load.proofs.SetLemmas.{does_as, no_memory_does}
use Rattle.series_store.specs.Shown as shown
use Rattle.series_load.proofs.loader.Loader.end.Goals as goal

pub returns-in_err-close-clause-does : goal.returns-in_err-close-clause-does
returns-in_err-close-clause-does g c = λ total book waiting old told stands keeps.
    no_memory_does NoBad total c.args.self.now.name book (waiting ++ closed old) c.in_err-close.field-0.0 c.from_residual.result
    (shown.view c.args.store.now) c.from_residual.ensures.1 c.in_err-close.ensures.err stands

pub returns-in_err-close-clause-faults : goal.returns-in_err-close-clause-faults
returns-in_err-close-clause-faults g c = no_memory_on c.from_residual.result c.in_err-close.field-0.0 (shown.view c.args.store.now)
    (shown.view c.args.store.now) c.from_residual.ensures.1 c.in_err-close.ensures.err refl

pub returns-clause-does : goal.returns-clause-does
returns-clause-does g c = λ total book waiting old told stands keeps.
    let loader = c.args.self.now in
    does_as NoBad total loader.name c.close.new.self.name book (waiting ++ closed old) c.commit.result (shown.view c.args.store.now)
    (shown.view c.commit.new.store) c.close.ensures.name
    (c.commit.ensures.does total book (waiting ++ closed old) None told stands (c.in_ok-close.ensures.keeps waiting old keeps))

pub returns-clause-keeps : goal.returns-clause-keeps
returns-clause-keeps g c = λ waiting old keeps. c.commit.ensures.keeps (waiting ++ closed old) None
    (c.in_ok-close.ensures.keeps waiting old keeps)
