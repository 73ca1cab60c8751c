use Rattle.std.proofs.Common.{length, ◌++◌, refl, ap, ◌∙◌, arith}
use Rattle.reading_lines.proofs.Behind.{whole_behind, reading_behind}
use Rattle.reading_lines.proofs.lines.add_reading.Goals as goal

pub returns-clause-line : goal.returns-clause-line
returns-clause-line c =
    let line =
    whole_behind c.put_integer-start.new.line c.put_integer-start.result (omega arith)
    ∙ reading_behind c.args.scale c.args.time c.args.value _ _ _ _ c.ranges.time c.ranges.value c.put_byte-feed.ensures.written
    c.put_decimal-number.ensures.written c.put_byte-comma.ensures.written c.put_integer-start.ensures.written in
    c.in_ok-extend_from_slice.ensures.items ∙ ap (λ bytes. c.args.text.now.items ++ bytes) line

pub returns-clause-succeeds : goal.returns-clause-succeeds
returns-clause-succeeds c = λ room. refl

pub returns-in_err-extend_from_slice-clause-succeeds : goal.returns-in_err-extend_from_slice-clause-succeeds
returns-in_err-extend_from_slice-clause-succeeds c = λ room.
    let line =
    whole_behind c.put_integer-start.new.line c.put_integer-start.result (omega arith)
    ∙ reading_behind c.args.scale c.args.time c.args.value _ _ _ _ c.ranges.time c.ranges.value c.put_byte-feed.ensures.written
    c.put_decimal-number.ensures.written c.put_byte-comma.ensures.written c.put_integer-start.ensures.written in
    absurd (omega (arith, room, c.in_err-extend_from_slice.ensures.full, ap length line))
