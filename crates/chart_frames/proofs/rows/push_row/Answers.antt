use Rattle.std.proofs.Common.{◌≡◌, ℕ, List, [], ◌∷◌, ◌++◌, length, Option, sym, ap, ◌∙◌, subst, arith, length-append}
use Rattle.m4_groups.specs.declared.row.Row.{Row}
use Rattle.chart_frames.specs.Fields.{rises}
use Rattle.chart_frames.specs.Frames.{FitRows}
use Rattle.chart_frames.specs.Spelled.{rows_all_before}
use Rattle.chart_frames.specs.Items.{last_column}
use Rattle.chart_frames.proofs.Orders.{FitRows-push}
use Rattle.chart_frames.proofs.Items.{rows_all_before-push}
use Rattle.chart_frames.proofs.rows.push_row.Goals as goal

pub returns-in-Ok-push-clause-fits : goal.returns-in-Ok-push-clause-fits
returns-in-Ok-push-clause-fits c =
    let old = c.args.rows.now.items in
    let last : c.last_column.result ≡ last_column old = c.last_column.ensures ∙ ap last_column c.deref.ensures.value in
    let P : List Row → Type 0 = λ xs. FitRows c.args.w xs in
    subst P (sym c.in-Ok-push.ensures.items) (FitRows-push c.args.w old c.in-Ok.row c.requires c.in-Ok.ensures.takes.0
    (ap (λ (o : Option ℕ). rises o c.in-Ok.row.column) (sym last) ∙ c.in-Ok.ensures.takes.1))

pub returns-in-Ok-push-clause-ok : goal.returns-in-Ok-push-clause-ok
returns-in-Ok-push-clause-ok c =
    let old = c.args.rows.now.items in
    let new : c.push.new.self.items ≡ old ++ c.in-Ok.row ∷ [] = c.in-Ok-push.ensures.items in (
      omega (arith, ap length new, length-append old (c.in-Ok.row ∷ [])),
      ap (λ (xs : List Row). rows_all_before xs c.in-Ok.rest.now) new ∙ rows_all_before-push old c.in-Ok.row c.in-Ok.rest.now
          ∙ ap (rows_all_before old) (sym c.in-Ok.ensures.takes.2),
    )
