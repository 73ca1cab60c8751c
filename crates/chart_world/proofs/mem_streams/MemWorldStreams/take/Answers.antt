use Rattle.std.proofs.Common.{sym}
use Rattle.std.proofs.lemmas.List.{drop-drop}
use Rattle.chart_world.proofs.mem_streams.MemWorldStreams.take.Goals as goal

pub returns-then-count-gt0-clause-left : goal.returns-then-count-gt0-clause-left
returns-then-count-gt0-clause-left g c = sym (drop-drop c.move_front-count.result c.args.self.now.at c.args.self.now.input.items)

pub returns-then-count-gt0-clause-front : goal.returns-then-count-gt0-clause-front
returns-then-count-gt0-clause-front g c = rw c.as_slice.ensures.value at c.move_front-count.ensures.front

pub returns-then-count-gt0-clause-fills : goal.returns-then-count-gt0-clause-fills
returns-then-count-gt0-clause-fills g c = rw c.as_slice.ensures.value at c.move_front-count.ensures.count

pub returns-else-count-gt0-clause-left : goal.returns-else-count-gt0-clause-left
returns-else-count-gt0-clause-left g c = sym (drop-drop c.move_front-count.result c.args.self.now.at c.args.self.now.input.items)

pub returns-else-count-gt0-clause-front : goal.returns-else-count-gt0-clause-front
returns-else-count-gt0-clause-front g c = rw c.as_slice.ensures.value at c.move_front-count.ensures.front

pub returns-else-count-gt0-clause-fills : goal.returns-else-count-gt0-clause-fills
returns-else-count-gt0-clause-fills g c = rw c.as_slice.ensures.value at c.move_front-count.ensures.count
