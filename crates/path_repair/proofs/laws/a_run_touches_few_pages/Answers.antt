use Rattle.std.proofs.Common.{arith}
use Rattle.path_repair.proofs.TouchLemmas.{touch_wide}
use Rattle.path_repair.proofs.laws.a_run_touches_few_pages.Goals as goal

pub returns-clause-most : goal.returns-clause-most
returns-clause-most c = λ first end height level run.
    omega (arith, touch_wide 3 first end 256 height level (omega arith) run (omega arith) (omega arith))

pub returns-clause-room : goal.returns-clause-room
returns-clause-room c = λ first end height level run few.
    omega (arith, touch_wide 3 first end 256 height level (omega arith) run (omega arith) (omega arith), few)
