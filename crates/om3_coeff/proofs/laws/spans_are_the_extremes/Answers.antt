use Rattle.om3_coeff.specs.Spans.{span_over}
use Rattle.om3_coeff.proofs.ExtremeLemmas.{span_over_is, one_span}
use Rattle.om3_coeff.proofs.laws.spans_are_the_extremes.Goals as goal

pub returns-clause-extremes : goal.returns-clause-extremes
returns-clause-extremes c = span_over_is

pub returns-clause-one : goal.returns-clause-one
returns-clause-one c = λ list a b s h. one_span list a b s (span_over list a b) h (span_over_is list a b)
