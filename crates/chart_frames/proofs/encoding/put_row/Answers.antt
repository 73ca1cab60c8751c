use Rattle.std.proofs.Common.{◌≡◌, ℕ, List, ◌++◌, ◌∙◌, rules}
use Rattle.std.specs.Prelude.{FitsSigned}
use Rattle.std.specs.Int.{w64}
use Rattle.std.proofs.lemmas.Result.{on_ok_weaker}
use Rattle.chart_frames.specs.Format.{number_bytes}
use Rattle.chart_frames.specs.Spelled.{two_before, row_before}
use Rattle.chart_frames.proofs.Writing.{coded, step, two_step}
use Rattle.chart_frames.proofs.encoding.put_row.Goals as goal

pub returns : goal.returns
unfolding row_before
returns c =
    let v = c.args.row.now in
    let i0 = c.args.out.now.items in
    let i1 = c.put_short.new.out.items in
    let i2 = c.put_two.new.out.items in
    let i3 = c.put_two-2.new.out.items in
    let fits_first : FitsSigned w64 v.first = search rules in
    let fits_least : FitsSigned w64 v.least = search rules in
    let fits_greatest : FitsSigned w64 v.greatest = search rules in
    let fits_last : FitsSigned w64 v.last = search rules in
    let P : Type 0 = (rest : List ℕ) → i3 ++ rest ≡ i2 ++ two_before (coded v.greatest) (coded v.last) rest in
    let Q : Type 0 = (tail : List ℕ) → i3 ++ tail ≡ i0 ++ row_before v tail in
    let go : P → Q = λ h tail.
    two_step i3 i2 v.greatest v.last (tail) fits_greatest fits_last h
    ∙ two_step i2 i1 v.first v.least (two_before v.greatest v.last (tail)) fits_first fits_least c.in_ok-put_two.ensures
    ∙ step i1 i0 (number_bytes 2 v.column) (two_before v.first v.least (two_before v.greatest v.last (tail))) c.in_ok-put_short.ensures in
    on_ok_weaker c.put_two-2.result go c.put_two-2.ensures
