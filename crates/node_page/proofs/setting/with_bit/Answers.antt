use Rattle.std.proofs.Common.{◌∙◌, ap, sym, ◌==◌}
use Rattle.std.specs.Int.{w8}
use Rattle.std.proofs.lemmas.Nat.Bits.{bit_at_set_same, bit_at_set_other, bit_at_clear_same, bit_at_clear_other}
use Rattle.node_page.proofs.setting.with_bit.Goals as goal

pub returns-then-on-clause-bit : goal.returns-then-on-clause-bit
returns-then-on-clause-bit c = ap (λ x. x == 1) (bit_at_set_same w8 c.args.byte c.args.bit c.requires) ∙ sym c.if-on.true

pub returns-then-on-clause-others : goal.returns-then-on-clause-others
returns-then-on-clause-others c = λ i low other. bit_at_set_other w8 c.args.byte c.args.bit c.requires i other

pub returns-clause-bit : goal.returns-clause-bit
returns-clause-bit c = ap (λ x. x == 1) (bit_at_clear_same w8 c.args.byte c.args.bit c.requires) ∙ sym c.if-on.false

pub returns-clause-others : goal.returns-clause-others
returns-clause-others c = λ i low other. bit_at_clear_other w8 c.args.byte c.args.bit c.requires i low other
