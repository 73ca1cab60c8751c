use Rattle.om3_coeff.proofs.SpanLemmas.{span_over-both, span_over-all}
use Rattle.om3_coeff.proofs.ExtremeLemmas.{span_over-proper}
use Rattle.om3_coeff.proofs.KeyLemmas.{span_halves}
use Rattle.om3_coeff.proofs.laws.spans_add_up.Goals as goal

pub returns-clause-ranges : goal.returns-clause-ranges
returns-clause-ranges c = span_over-both

pub returns-clause-halves : goal.returns-clause-halves
returns-clause-halves c = span_halves

pub returns-clause-proper : goal.returns-clause-proper
returns-clause-proper c = span_over-proper

pub returns-clause-all : goal.returns-clause-all
returns-clause-all c = span_over-all
