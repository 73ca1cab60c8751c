use Rattle.std.proofs.Common.{◌-◌, ◌∷◌, ◌++◌, take, drop, refl, ap, sym, ◌∙◌, arith}
use Rattle.reading_lines.specs.Lines.{axis_row}
use Rattle.reading_lines.proofs.Behind.{whole_behind, axis_behind, appended, line_appended}
use Rattle.reading_lines.proofs.lines.add_series.Goals as goal

pub returns-clause-line : goal.returns-clause-line
returns-clause-line c =
    let row = axis_row c.args.axis.now c.args.scale in
    let bytes = take (96 - c.put_byte-start.result) (drop c.put_byte-start.result c.put_byte-start.new.line) in
    line_appended c.args.text.now.items c.args.name.now
    (32 ∷ row) c.extend_from_slice.new.self.items c.extend_from_slice-2.new.self.items bytes
    (c.in_ok-extend_from_slice.ensures.items ∙ ap (λ bytes. c.args.text.now.items ++ bytes) c.as_slice.ensures.bytes)
    (appended c.extend_from_slice-2.result c.extend_from_slice-2.new.self.items c.extend_from_slice.new.self.items bytes
    (sym c.is_err.ensures.value ∙ c.if-is_err.false) c.extend_from_slice-2.ensures.items)
    (whole_behind c.put_byte-start.new.line c.put_byte-start.result (omega arith)
    ∙ axis_behind row _ _ _ c.put_byte-feed.ensures.written c.put_axis-row.ensures.written c.put_byte-start.ensures.written)

pub returns-clause-succeeds : goal.returns-clause-succeeds
returns-clause-succeeds c = λ room. refl
