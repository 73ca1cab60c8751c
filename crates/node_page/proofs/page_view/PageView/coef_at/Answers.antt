use Rattle.std.proofs.Common.{subst, sym}
use Rattle.om3_coeff.specs.declared.coef.Coef.{Coef}
use Rattle.node_page.specs.Layout.{HasDifferences}
use Rattle.node_page.proofs.page_view.PageView.coef_at.Goals as goal

pub returns-clause-differences : goal.returns-clause-differences
returns-clause-differences c =
    let P : Coef → Type 0 = λ coef. HasDifferences coef in
    subst P (sym c.coef_of.ensures) (c.args.self.now.keeps.differences c.args.node c.requires.node)
