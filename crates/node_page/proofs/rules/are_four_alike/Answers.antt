use Rattle.std.proofs.Common.{◌≡◌, ◌+◌, ◌*◌, ℕ, get_or, ap, ◌∙◌, arith}
use Rattle.std.proofs.lemmas.Bool.{eqb-true}
use Rattle.node_page.proofs.Groups.{AreThree, alike_agreed}
use Rattle.node_page.proofs.rules.are_four_alike.Goals as goal

pub returns : goal.returns
returns c = λ yes n low high.
    let page = c.args.page.now in
    let byte = c.args.byte in
    let v = get_or page (8 + c.from.result) 0 in
    let above : get_or page (8 + byte) 0 ≡ v = ap (λ (k : ℕ). get_or page k 0) (omega arith) in
    let at = 8 + 2 * c.from-2.result in
    let below : AreThree page (2 * byte) v = record {
      first = ap (λ (k : ℕ). get_or page k 0) (omega arith) ∙ c.if-page-below.false;
      second = ap (λ (k : ℕ). get_or page k 0) (omega arith) ∙ c.if-page-below-2.false;
      third = ap (λ (k : ℕ). get_or page k 0) (omega arith) ∙ eqb-true (get_or page (at + 2) 0) v yes;
    } in
    alike_agreed page byte n v above below (c.is_none_or_full.ensures c.if-not-is_none_or_full.false) low high
