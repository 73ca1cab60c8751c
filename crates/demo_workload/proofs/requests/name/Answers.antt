use Rattle.std.proofs.Common.{◌≡◌, true, false, sym, ◌∙◌}
use Rattle.series_book.specs.Names.{RefusesName}
use Rattle.series_book.specs.declared.errors.NameError.TheVariants.{NotAName}
use Rattle.demo_workload.specs.Workload.{name}
use Rattle.demo_workload.proofs.Rounds.{name_is}
use Rattle.demo_workload.proofs.requests.name.Goals as goal

pub unreachable-requires : goal.unreachable-requires
unreachable-requires c =
    let refused : RefusesName name NotAName = rw c.in-Err-NotAName.field-0-is at c.in-Err-NotAName.ensures.err in
    let never : true ≡ false = sym name_is ∙ refused in
    cc
