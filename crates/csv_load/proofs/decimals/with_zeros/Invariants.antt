use Rattle.std.proofs.Common.{◌≡◌, ◌<◌, ◌*◌, ◌^◌}
use Rattle.csv_load.proofs.decimals.with_zeros.Given as goal

abbrev pub invariant-loop : goal.invariant-loop
invariant-loop l = record {
  value : l.value ≡ l.start * 10 ^ l.counter;
  short : l.value < 10 ^ 19;
}
