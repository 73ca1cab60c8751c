use Rattle.std.proofs.Common.{ℕ, ℤ, pos, List, ◌++◌, take, get_or, sym, ap, ◌∙◌, arith}
use Rattle.std.specs.Int.{w64}
use Rattle.std.proofs.lemmas.List.{take_more}
use Rattle.std.proofs.lemmas.Int.{fits_signed_from_abs}
use Rattle.whole_number.specs.Range.{IsValue}
use Rattle.chart_frames.specs.Spelled.{signed_bytes, values_before}
use Rattle.chart_frames.proofs.ReportReads.{values_before-push}
use Rattle.chart_frames.proofs.Writing.{signed_step}
use Rattle.chart_frames.proofs.report_encoding.put_values.Goals as goal

pub loop-value-preserved : goal.loop-value-preserved
loop-value-preserved c =
    let values = c.args.values.now in
    let k = c.loop-value.value-index in
    let v = get_or values k (pos 0) in
    let small : IsValue v = c.requires k (pos 0) (omega arith) in
    let out = c.args.out.now.items in
    λ tail. signed_step c.put_signed.new.out.items c.loop-value.out.items v tail
    (fits_signed_from_abs w64 v (omega (arith, small))) c.in_ok-put_signed.ensures
    ∙ c.loop-value.invariant (signed_bytes v ++ tail) ∙ ap (λ (p : List ℕ). out ++ p) (sym (values_before-push (take k values) v tail))
    ∙ ap (λ (xs : List ℤ). out ++ values_before xs tail) (sym (take_more values k (pos 0) (omega arith)))
