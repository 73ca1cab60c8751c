use Rattle.std.proofs.Common.{◌≡◌, ℕ, List, ◌++◌, ap, ◌∙◌, rules}
use Rattle.std.specs.Prelude.{FitsSigned}
use Rattle.std.specs.Int.{w64}
use Rattle.std.proofs.lemmas.Result.{on_ok_weaker}
use Rattle.chart_frames.specs.Format.{number_bytes}
use Rattle.chart_frames.specs.Frames.{number_of_flag}
use Rattle.chart_frames.specs.Spelled.{signed_bytes, asked_before}
use Rattle.chart_frames.proofs.Writing.{coded, step, signed_step}
use Rattle.chart_frames.proofs.report_encoding.put_asked.Goals as goal

pub returns : goal.returns
unfolding asked_before
returns c =
    let v = c.args.v.now in
    let i0 = c.args.out.now.items in
    let i1 = c.put_short.new.out.items in
    let i2 = c.put_byte.new.out.items in
    let i3 = c.put_signed.new.out.items in
    let fits_next : FitsSigned w64 v.next = search rules in
    let P : Type 0 = i3 ≡ i2 ++ signed_bytes (coded v.next) in
    let Q : Type 0 = (tail : List ℕ) → i3 ++ tail ≡ i0 ++ asked_before v.series (number_of_flag v.more) v.next tail in
    let go : P → Q = λ h tail.
    signed_step i3 i2 v.next tail fits_next h
    ∙ step i2 i1 (number_bytes 1 (number_of_flag v.more)) (signed_bytes v.next ++ tail) (c.in_ok-put_byte.ensures
    ∙ ap (λ (n : ℕ). i1 ++ number_bytes 1 n) c.number_of_flag.ensures)
    ∙ step i1 i0 (number_bytes 2 v.series) (number_bytes 1 (number_of_flag v.more) ++ (signed_bytes v.next ++ tail))
    c.in_ok-put_short.ensures in
    on_ok_weaker c.put_signed.result go c.put_signed.ensures
