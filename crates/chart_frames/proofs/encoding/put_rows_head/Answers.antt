use Rattle.std.proofs.Common.{◌≡◌, ℕ, List, ◌++◌, ◌∙◌, rules}
use Rattle.std.specs.Prelude.{FitsSigned}
use Rattle.std.specs.Int.{w64}
use Rattle.std.proofs.lemmas.Result.{on_ok_weaker}
use Rattle.chart_frames.specs.Format.{number_bytes}
use Rattle.chart_frames.specs.Spelled.{two_before, rows_before}
use Rattle.chart_frames.proofs.Writing.{step, two_step}
use Rattle.chart_frames.proofs.encoding.put_rows_head.Goals as goal

pub returns : goal.returns
unfolding rows_before
returns c =
    let v = c.args.r.now in
    let i0 = c.args.out.now.items in
    let i1 = c.put_word.new.out.items in
    let i2 = c.put_short.new.out.items in
    let i3 = c.put_short-2.new.out.items in
    let i4 = c.put_two.new.out.items in
    let i5 = c.put_short-3.new.out.items in
    let fits_lo : FitsSigned w64 v.lo = search rules in
    let fits_hi : FitsSigned w64 v.hi = search rules in
    let P : Type 0 = i5 ≡ i4 ++ number_bytes 2 v.count in
    let Q : Type 0 = (tail : List ℕ) → i5 ++ tail ≡ i0 ++ rows_before v tail in
    let go : P → Q = λ h tail.
    step i5 i4 (number_bytes 2 v.count) (tail) h
    ∙ two_step i4 i3 v.lo v.hi (number_bytes 2 v.count ++ (tail)) fits_lo fits_hi c.in_ok-put_two.ensures
    ∙ step i3 i2 (number_bytes 2 v.h) (two_before v.lo v.hi (number_bytes 2 v.count ++ (tail))) c.in_ok-put_short-2.ensures
    ∙ step i2 i1 (number_bytes 2 v.w) (number_bytes 2 v.h ++ (two_before v.lo v.hi (number_bytes 2 v.count ++ (tail))))
    c.in_ok-put_short.ensures
    ∙ step i1 i0 (number_bytes 4 v.session) (number_bytes 2
    v.w ++ (number_bytes 2 v.h ++ (two_before v.lo v.hi (number_bytes 2 v.count ++ (tail))))) c.in_ok-put_word.ensures in
    on_ok_weaker c.put_short-3.result go c.put_short-3.ensures
