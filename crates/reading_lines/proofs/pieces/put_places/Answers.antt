use Rattle.std.proofs.Common.{◌^◌, ◌<◌, ◌≤◌, ◌∷◌, ◌++◌, drop, ap, sym, ◌∙◌, arith}
use Rattle.std.proofs.Math.Nat.{one-le-pow, pow-le-pow_right}
use Rattle.std.proofs.lemmas.List.{drop-drop}
use Rattle.csv_load.specs.Decimals.{point_and}
use Rattle.reading_lines.specs.Lines.{last_digits}
use Rattle.reading_lines.proofs.LastDigits.{pointed}
use Rattle.reading_lines.proofs.pieces.put_places.Goals as goal

pub returns-then-scale-eq0-clause-written : goal.returns-then-scale-eq0-clause-written
unfolding last_digits
returns-then-scale-eq0-clause-written c =
    sym (ap (λ s. point_and (last_digits s c.args.size) ++ drop c.args.end c.args.line.now) c.if-scale-eq0.true)

pub nonzero_rem-size : goal.nonzero_rem-size
nonzero_rem-size c =
    let some : 1 ≤ 10 ^ c.args.scale = one-le-pow c.args.scale 10 (omega arith) in
    omega (arith, c.requires.unit, some)

pub returns-clause-written : goal.returns-clause-written
returns-clause-written c =
    let p = c.args.unit in
    let tail = drop c.args.end c.args.line.now in
    let some : 0 < 10 = omega arith in
    let low : 10 ^ c.args.scale ≤ 10 ^ 9 = pow-le-pow_right some c.requires.scale in
    let digits = sym (drop-drop 1 c.put_natural-one.result c.put_natural-one.new.line) ∙ ap (drop 1) c.put_natural-one.ensures.written in
    c.put_byte.ensures.written
    ∙ ap (λ ds. 46 ∷ ds) digits
    ∙ pointed c.args.scale c.args.size p tail (omega (arith, c.if-scale-eq0.false)) c.requires.unit low
