use Rattle.std.proofs.Common.{ℕ, ◌≡◌, ◌≤◌, ◌∙◌, true, Option, None, sym, ap, arith}
use Rattle.std.specs.Prelude.{slice_get}
use Rattle.om3_coeff.specs.declared.coef.Coef.{Coef}
use Rattle.chart_client.specs.Holdings.{holding_of}
use Rattle.chart_client.specs.Held.{held_by}
use Rattle.view_cover.specs.Across.{is_across}
use Rattle.progressive_view.specs.Places.{place_in, coef_if}
use Rattle.progressive_view.proofs.Used.{chosen-held}
use Rattle.progressive_view.proofs.taken.TakenTeller.coef.Goals as goal

pub returns-then-is_across : goal.returns-then-is_across
returns-then-is_across c =
    let p : ℕ = place_in c.args.self.now.sent.now c.args.key in
    let held : Option Coef = held_by (holding_of c.args.self.now.session c.args.self.now.client.now) c.args.self.now.series c.args.key in
    let unsent : coef_if (slice_get c.args.self.now.sent.now p) c.args.key ≡ None =
    ap (λ (n : ℕ). coef_if (slice_get c.args.self.now.sent.now n) c.args.key) (sym c.place_of-place.ensures.is) ∙ sym c.coef_at.ensures
    ∙ c.in-None.is in
    let low : p ≤ c.args.self.now.taken = omega (arith, c.place_of-place.ensures.is, c.if-place-self-2.true) in
    let so : is_across c.args.self.now.scope c.args.key ≡ true = sym c.is_across.ensures.test ∙ c.if-is_across.true in
    c.held.ensures ∙ sym (chosen-held (coef_if (slice_get c.args.self.now.sent.now p) c.args.key) held
    (is_across c.args.self.now.scope c.args.key) c.args.self.now.taken p unsent low so)
