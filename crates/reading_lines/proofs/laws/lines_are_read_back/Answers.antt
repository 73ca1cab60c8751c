use Rattle.std.proofs.Common.{ℕ, ℤ, List, subst, unsigned_abs, ◌<◌, ◌^◌}
use Rattle.std.specs.Fmt.{signed_decimal}
use Rattle.csv_load.specs.Rows.{Says}
use Rattle.csv_load.specs.declared.row.Row.TheVariants.{Point}
use Rattle.reading_lines.specs.Lines.{decimal_text, reading_row}
use Rattle.reading_lines.proofs.ReadBack.{plain_time, plain_value, no_mark, says_of, without_feed, same_point}
use Rattle.reading_lines.proofs.laws.lines_are_read_back.Goals as goal

pub returns-clause-reading : goal.returns-clause-reading
returns-clause-reading c = λ scale time value small_time small_value.
    let t = signed_decimal time in
    let v = decimal_text scale value in
    says_of scale time value small_time small_value
    (c.plain_lines.ensures.fields t v (plain_time time small_time) (plain_value scale value small_value) (no_mark time v small_time))

pub returns-clause-one_reading : goal.returns-clause-one_reading
returns-clause-one_reading c = λ scale time value later other small_time small_value small_later small_other same.
    let says = λ (x y : ℤ) (small_x : unsigned_abs x < 10 ^ 19) (small_y : unsigned_abs y < 10 ^ 19).
    says_of scale x y small_x small_y
    (c.plain_lines.ensures.fields (signed_decimal x) (decimal_text scale y) (plain_time x small_x) (plain_value scale y small_y)
    (no_mark x (decimal_text scale y) small_x)) in
    let rows = without_feed (reading_row scale time value) (reading_row scale later other) same in
    let P : List ℕ → Type 0 = λ row. Says scale row (Point time value) in
    same_point time value later other
    (c.one_answer.ensures.row scale (reading_row scale later other) (Point time value) (Point later other)
    (subst P rows (says time value small_time small_value)) (says later other small_later small_other))
