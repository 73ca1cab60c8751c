use Rattle.std.proofs.Common.{◌∙◌, sym, arith, length}
use Rattle.std.specs.Prelude.{None}
use Rattle.om3_coeff.proofs.SpanLemmas.{span_over-all}
use Rattle.om3_coeff.proofs.ListLemmas.{list_agrees}
use Rattle.om3_coeff.proofs.list_nodes.ListNodes.new.Goals as goal

pub invariant_of-result : goal.invariant_of-result
invariant_of-result c = record {
  values = c.requires;
  whole = c.span_of.ensures ∙ sym (span_over-all c.args.slots.now (length c.args.slots.now) (omega arith));
}

pub returns-clause-agrees : goal.returns-clause-agrees
returns-clause-agrees c = λ few. list_agrees c.args.slots.now None c.requires few
