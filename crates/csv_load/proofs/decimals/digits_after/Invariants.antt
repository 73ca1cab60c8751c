use Rattle.std.proofs.Common.{◌≡◌, ◌<◌, ◌^◌, take, drop}
use Rattle.std.specs.Str.Parse.{AllDigits, digits_value_after}
use Rattle.csv_load.proofs.decimals.digits_after.Given as goal

-- the digits that are left write the number behind the value
abbrev pub invariant-loop-digit : goal.invariant-loop-digit
invariant-loop-digit l = record {
  digits : AllDigits 10 (take l.digit-index l.digits);
  value : digits_value_after 10 l.value (drop l.digit-index l.digits) ≡ digits_value_after 10 l.start l.digits;
  short : l.value < 10 ^ 19;
}
