use Rattle.std.proofs.Common.{◌^◌, ◌<◌, List, sym, subst}
use Rattle.std.specs.Prelude.{All}
use Rattle.om3_coeff.specs.declared.key.Key.{Key}
use Rattle.om3_coeff.specs.declared.coef.Coef.{Coef}
use Rattle.chart_frames.proofs.Orders.{indices_fit}
use Rattle.chart_frames.proofs.encoding.put_view.Goals as goal

pub put_coefs-requires : goal.put_coefs-requires
put_coefs-requires c =
    let P : List (Key × Coef) → Type 0 = λ xs. All (λ (e : Key × Coef). e.0.index < 2 ^ 40) xs in
    subst P (sym c.as_slice.ensures) (indices_fit c.args.v.now.slots c.args.v.now.coefs c.requires.coefs)
