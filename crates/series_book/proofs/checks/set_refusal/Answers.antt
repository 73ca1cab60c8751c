use Rattle.std.proofs.Common.{◌≡◌, length, to_z, of_z, ap, arith}
use Rattle.std.specs.Int.{w128}
use Rattle.std.proofs.lemmas.Int.{to_z-of_z}
use Rattle.series_book.specs.Edits.{place_of}
use Rattle.series_book.proofs.checks.set_refusal.Goals as goal

pub returns-clause-room : goal.returns-clause-room
returns-clause-room c = λ series is.
    let told : to_z w128 (of_z w128 c.args.time) ≡ c.args.time = to_z-of_z w128 c.args.time c.ranges.time in
    omega (
      arith,
      c.place_of-place.ensures series is,
      ap (place_of series) told,
      c.if-place-from.false,
      c.from.ensures,
      ap length c.as_slice-count.ensures,
      c.if-count-gt-MOST_VALUES.false,
    )
