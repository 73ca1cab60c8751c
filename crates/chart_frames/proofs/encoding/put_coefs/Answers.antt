use Rattle.std.proofs.Common.{ℕ, pos, false, List, ◌++◌, take, get_or, sym, ap, ◌∙◌, arith}
use Rattle.std.proofs.lemmas.List.{take_more}
use Rattle.om3_coeff.specs.declared.key.Key.{Key}
use Rattle.om3_coeff.specs.declared.coef.Coef.{Coef}
use Rattle.chart_frames.specs.Spelled.{coef_before, coefs_before}
use Rattle.chart_frames.proofs.Items.{coefs_before-push}
use Rattle.chart_frames.proofs.encoding.put_coefs.Goals as goal

pub loop-pair-preserved : goal.loop-pair-preserved
loop-pair-preserved c =
    let d : Key × Coef = (record { level = 0; index = 0 }, record { left = false; right = false; dmin = pos 0; dmax = pos 0 }) in
    let coefs = c.args.coefs.now in
    let k = c.loop-pair.pair-index in
    let e = get_or coefs k d in
    let out = c.args.out.now.items in
    λ tail. c.in_ok-put_coef.ensures tail ∙ c.loop-pair.invariant (coef_before e tail)
    ∙ ap (λ (p : List ℕ). out ++ p) (sym (coefs_before-push (take k coefs) e tail))
    ∙ ap (λ (xs : List (Key × Coef)). out ++ coefs_before xs tail) (sym (take_more coefs k d (omega arith)))
