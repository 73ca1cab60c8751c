use Rattle.std.proofs.Common.{◌≡◌, ◌≤◌, ◌+◌, length}
use Rattle.host_lines.specs.Grammar.{left, places_fault}
use Rattle.host_lines.proofs.faults.fault_in.Given as goal

-- the tokens so far are what their places allow
abbrev pub invariant-loop-place : goal.invariant-loop-place
invariant-loop-place l = record {
  within : l.at ≤ length l.line + 1;
  same : places_fault (length l.line) l.places (left l.line l.start) l.start ≡ places_fault (length l.line) l.rest (left l.line l.at) l.at;
}

abbrev pub decreases-loop-place : goal.decreases-loop-place
decreases-loop-place l = length l.rest
