use Rattle.std.proofs.Common.{◌+◌, arith}
use Rattle.node_page.proofs.Bits.{flag_made, flag_other, rest_other}
use Rattle.node_page.proofs.setting.set_flag.Goals as goal

pub returns-clause-flag : goal.returns-clause-flag
returns-clause-flag c = flag_made c.args.flag (8 + c.from-at.result) c.with_bit.result c.args.bytes.now c.args.on (omega arith)
    (omega arith) c.with_bit.ensures.bit

pub returns-clause-others : goal.returns-clause-others
returns-clause-others c = λ b few other.
    flag_other b c.args.flag (8 + c.from-at.result) c.with_bit.result c.args.bytes.now (omega arith)
    (omega arith) other c.with_bit.ensures.others

pub returns-clause-rest : goal.returns-clause-rest
returns-clause-rest c = λ k off. rest_other k c.args.flag (8 + c.from-at.result) c.with_bit.result c.args.bytes.now (omega arith)
    (omega arith) off
