use Rattle.std.proofs.Common.{◌≡◌, length}
use Rattle.value_filter.specs.Reading.{completed}
use Rattle.value_filter.proofs.parser.Parser.complete.Given as goal

-- the state to be reached stays the same
abbrev pub invariant-negations : goal.invariant-negations
invariant-negations l = completed l.self-inside.frames l.self-inside.steps.items ≡ completed l.fn.self.frames l.fn.self.steps

abbrev pub decreases-negations : goal.decreases-negations
decreases-negations l = length l.self-inside.frames
