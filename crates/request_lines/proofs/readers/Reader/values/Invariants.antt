use Rattle.std.proofs.Common.{◌≡◌, ◌+◌, ◌-◌, ◌<◌, ◌++◌, [], false, length, map, All}
use Rattle.std.specs.Option.{IsSome}
use Rattle.request_lines.specs.Tokens.{tokens_left}
use Rattle.request_lines.specs.Grammar.{fault, first_misfit, one_or_more, value_place}
use Rattle.request_lines.specs.Requests.{value_of}
use Rattle.request_lines.proofs.readers.Reader.values.Given as goal

abbrev pub invariant-loop-self : goal.invariant-loop-self
invariant-loop-self l = record {
  line : l.self.line ≡ l.fn.self.line;
  faults : fault (length l.fn.self.line) [] (one_or_more (value_place l.may_miss)) (tokens_left l.fn.self) l.fn.self.at
      ≡ first_misfit (value_place l.may_miss) (tokens_left l.self) l.self.at;
  values : map value_of (tokens_left l.fn.self) ≡ l.values.items ++ map value_of (tokens_left l.self);
  some : 0 < length l.values.items;
  there : l.may_miss ≡ false → All (λ value. IsSome value) l.values.items;
}

abbrev pub decreases-loop-self : goal.decreases-loop-self
decreases-loop-self l = length l.self.line + 1 - l.self.at
