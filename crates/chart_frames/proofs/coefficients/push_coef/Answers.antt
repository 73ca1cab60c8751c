use Rattle.std.proofs.Common.{◌≡◌, ℕ, ◌^◌, ◌<◌, List, [], ◌∷◌, ◌++◌, length, Option, sym, ap, ◌∙◌, subst, arith, length-append}
use Rattle.std.specs.Prelude.{All}
use Rattle.om3_coeff.specs.declared.key.Key.{Key}
use Rattle.om3_coeff.specs.declared.coef.Coef.{Coef}
use Rattle.chart_frames.specs.Fields.{follows}
use Rattle.chart_frames.specs.Frames.{key_number, FitCoefs}
use Rattle.chart_frames.specs.Spelled.{coefs_before}
use Rattle.chart_frames.specs.Items.{last_key}
use Rattle.chart_frames.proofs.Orders.{FitCoefs-push, indices_fit}
use Rattle.chart_frames.proofs.Items.{coefs_before-push}
use Rattle.chart_frames.proofs.coefficients.push_coef.Goals as goal

pub last_key-requires : goal.last_key-requires
last_key-requires c =
    let P : List (Key × Coef) → Type 0 = λ xs. All (λ (e : Key × Coef). e.0.index < 2 ^ 40) xs in
    subst P (sym c.deref.ensures.value) (indices_fit c.args.slots c.args.coefs.now.items c.requires.fits)

pub returns-in-Ok-push-clause-fits : goal.returns-in-Ok-push-clause-fits
returns-in-Ok-push-clause-fits c =
    let old = c.args.coefs.now.items in
    let last : c.last_key.result ≡ last_key old = c.last_key.ensures ∙ ap last_key c.deref.ensures.value in
    let P : List (Key × Coef) → Type 0 = λ xs. FitCoefs c.args.slots xs in
    subst P (sym c.in-Ok-push.ensures.items) (FitCoefs-push c.args.slots old c.in-Ok.pair c.requires.fits c.in-Ok.ensures.takes.0
    (ap (λ (o : Option ℕ). follows o (key_number c.in-Ok.pair.0)) (sym last) ∙ c.in-Ok.ensures.takes.1))

pub returns-in-Ok-push-clause-ok : goal.returns-in-Ok-push-clause-ok
returns-in-Ok-push-clause-ok c =
    let old = c.args.coefs.now.items in
    let new : c.push.new.self.items ≡ old ++ c.in-Ok.pair ∷ [] = c.in-Ok-push.ensures.items in (
      omega (arith, ap length new, length-append old (c.in-Ok.pair ∷ [])),
      ap (λ (xs : List (Key × Coef)). coefs_before xs c.in-Ok.rest.now) new ∙ coefs_before-push old c.in-Ok.pair c.in-Ok.rest.now
          ∙ ap (coefs_before old) (sym c.in-Ok.ensures.takes.2),
    )
