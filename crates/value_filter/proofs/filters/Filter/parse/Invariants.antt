use Rattle.std.proofs.Common.{◌≤◌, length}
use Rattle.value_filter.proofs.Texts.{IsRead}
use Rattle.value_filter.proofs.filters.Filter.parse.Given as goal

abbrev pub invariant-pieces : goal.invariant-pieces
invariant-pieces l = record {
  read : IsRead l.text l.rest l.parser;
  short : length l.rest ≤ length l.text;
}

abbrev pub decreases-pieces : goal.decreases-pieces
decreases-pieces l = length l.rest
