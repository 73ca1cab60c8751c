use Rattle.std.proofs.Common.{◌∙◌, refl, sym, SFits, w64, rules}
use Rattle.std.proofs.lemmas.Int.{to_z-of_z}
use Rattle.chart_client.proofs.Spanned.{rows_spanned}
use Rattle.chart_client.proofs.client.Client.rows.Goals as goal

pub returns-clause-accepted : goal.returns-clause-accepted
returns-clause-accepted c =
    let low_fits : SFits w64 c.args.rows.now.lo = search rules in
    let high_fits : SFits w64 c.args.rows.now.hi = search rules in (
      sym c.is_open.ensures ∙ c.if-not-is_open.false,
      record {
        wide = c.in_ok-bitmap.ensures.wide;
        high = c.in_ok-bitmap.ensures.tall;
        draws = λ grid points canvas order rows. (simp to_z-of_z at c.in_ok-bitmap.ensures.draws grid points c.args.rows.now.rows canvas
            order rows) refl;
        holdings = refl;
      },
    )

pub returns-clause-columns : goal.returns-clause-columns
returns-clause-columns c = rows_spanned c.args.rows.now c.args.self.now c.in_ok-columns.columns c.in_ok-columns.ensures
