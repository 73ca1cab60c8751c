use Rattle.std.proofs.Common.{◌≡◌, length, arith}
use Rattle.std.proofs.lemmas.Grind.{common_steps}
use Rattle.chart_service.proofs.SyncLemmas.{no_text}
use Rattle.chart_service.proofs.gathering.edit_in.Goals as goal

pub returns-then-is_empty-clause-none : goal.returns-then-is_empty-clause-none
returns-then-is_empty-clause-none c = let none : length c.args.line.now ≡ 0 = grind (arith, common_steps) in no_text c.args.line.now none
