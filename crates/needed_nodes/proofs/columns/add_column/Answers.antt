use Rattle.std.proofs.Common.{subst}
use Rattle.std.specs.Prelude.{Option}
use Rattle.needed_nodes.specs.declared.blocks.Blocks.{Blocks}
use Rattle.needed_nodes.specs.declared.scan_of.ScanOf.TheVariants.{NoMemory}
use Rattle.needed_nodes.specs.Blocks.{AreBlocksIfAny, AreEndsIfAny}
use Rattle.needed_nodes.specs.Columns.{top_end}
use Rattle.needed_nodes.proofs.StepLaws.{err_cause}
use Rattle.needed_nodes.proofs.ColumnLaws.{column_some, column_none}
use Rattle.needed_nodes.proofs.columns.add_column.Goals as goal

pub returns-in_default-clause-found : goal.returns-in_default-clause-found
returns-in_default-clause-found g c =
    column_none (g.N.Nodes.view c.args.nodes.now) c.args.window.now c.args.column c.args.blocks _ _ c.in_default.is c.requires.drawn
    c.requires.ends c.requires.spans

pub ends_of-requires-clause-held : goal.ends_of-requires-clause-held
ends_of-requires-clause-held g c =
    let P : Option Blocks → Type 0 = λ o. AreBlocksIfAny c.args.window.now (top_end c.args.window.now) c.args.column o in
    subst P c.in-Some.is c.requires.held

pub ends_of-requires-clause-ends : goal.ends_of-requires-clause-ends
ends_of-requires-clause-ends g c = λ S served.
    let P : Option Blocks → Type 0 = λ o. AreEndsIfAny S c.args.window.now c.args.window.now.end c.args.column o in
    subst P c.in-Some.is (c.requires.ends S served)

pub returns-in_err-ends-clause-cause : goal.returns-in_err-ends-clause-cause
returns-in_err-ends-clause-cause g c = err_cause _ _ c.in_err-ends.field-0.0 c.from_residual.ensures.1 c.in_err-ends.ensures.cause

pub returns-in_err-push-clause-cause : goal.returns-in_err-push-clause-cause
returns-in_err-push-clause-cause g c = err_cause _ _ NoMemory c.from_residual-in_err-push.ensures.1 tt

pub returns-clause-found : goal.returns-clause-found
returns-clause-found g c =
    column_some _ c.args.window.now _ c.args.column c.in-Some.found c.args.blocks _ _ _ _ c.in_ok-ends.ends c.row_by.result c.in-Some.is
    c.requires.held c.requires.spans
    c.in_ok-ends.ensures.found c.row_by.ensures c.in_ok-push.ensures.items
