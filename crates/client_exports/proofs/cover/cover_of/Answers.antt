use Rattle.std.proofs.Common.{length, ap, ◌∙◌, arith}
use Rattle.client_exports.proofs.Covers.{cover_at}
use Rattle.client_exports.proofs.cover.cover_of.Goals as goal

pub returns-clause-cover : goal.returns-clause-cover
returns-clause-cover c =
    let begun = c.in_ok-progress.ensures.begun in
    let next = c.advance_by.ensures in
    cover_at c.advance_by.new.self c.args.view.now c.args.client.now _ c.in_ok-cover.field-0 (next.view ∙ ap (λ p. p.view) begun)
    (next.holdings ∙ ap (λ p. p.holdings) begun)
    (omega (arith, next.taken, ap (λ p. p.taken) begun, ap (λ p. length p.view.coefs) begun)) c.in_ok-cover.ensures
