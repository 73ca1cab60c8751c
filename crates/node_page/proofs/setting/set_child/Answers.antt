use Rattle.std.proofs.Common.{◌+◌, ◌*◌, inl, arith}
use Rattle.node_page.proofs.Coefs.{coef_same}
use Rattle.node_page.proofs.Puts.{IsPut, puts, child_is_put, other_child, put_rest}
use Rattle.node_page.proofs.setting.set_child.Goals as goal

pub returns-clause-child : goal.returns-clause-child
returns-clause-child c =
    let at = 2072 + 4 * c.from.result in
    let put : IsPut 4 c.args.page at c.args.bytes.now c.put.new.bytes =
    puts 4 c.args.page at c.args.bytes.now c.put.new.bytes c.to_be_bytes.result c.put.ensures c.to_be_bytes.ensures (omega arith)
    (omega arith) in
    child_is_put c.args.child c.args.page at c.args.bytes.now c.put.new.bytes (omega arith) put

pub returns-clause-others : goal.returns-clause-others
returns-clause-others c =
    let at = 2072 + 4 * c.from.result in
    let put : IsPut 4 c.args.page at c.args.bytes.now c.put.new.bytes =
    puts 4 c.args.page at c.args.bytes.now c.put.new.bytes c.to_be_bytes.result c.put.ensures c.to_be_bytes.ensures (omega arith)
    (omega arith) in
    λ n other. other_child n c.args.child c.args.page at c.args.bytes.now c.put.new.bytes (omega arith) other put

pub returns-clause-coefs : goal.returns-clause-coefs
returns-clause-coefs c =
    let at = 2072 + 4 * c.from.result in
    let put : IsPut 4 c.args.page at c.args.bytes.now c.put.new.bytes =
    puts 4 c.args.page at c.args.bytes.now c.put.new.bytes c.to_be_bytes.result c.put.ensures c.to_be_bytes.ensures (omega arith)
    (omega arith) in
    λ n few. coef_same n c.args.bytes.now c.put.new.bytes few (λ k from to. put.rest k (inl (omega (arith, to))))

pub returns-clause-rest : goal.returns-clause-rest
returns-clause-rest c =
    let at = 2072 + 4 * c.from.result in
    let put : IsPut 4 c.args.page at c.args.bytes.now c.put.new.bytes =
    puts 4 c.args.page at c.args.bytes.now c.put.new.bytes c.to_be_bytes.result c.put.ensures c.to_be_bytes.ensures (omega arith)
    (omega arith) in
    λ k beside. put_rest c.args.child c.args.page at k c.args.bytes.now c.put.new.bytes (omega arith) put beside
