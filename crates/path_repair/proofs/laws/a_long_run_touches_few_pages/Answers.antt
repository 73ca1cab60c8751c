use Rattle.std.proofs.Common.{arith}
use Rattle.path_repair.proofs.TouchLemmas.{touch_wide}
use Rattle.path_repair.proofs.laws.a_long_run_touches_few_pages.Goals as goal

pub returns : goal.returns
returns c = λ first end level run.
    omega (arith, touch_wide 33 first end 4096 level level (omega arith) run (omega arith) (omega arith))
