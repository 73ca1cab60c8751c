use Rattle.om3_coeff.proofs.KnownLemmas.{known_spans}
use Rattle.om3_coeff.proofs.laws.known_spans_are_the_list_s.Goals as goal

pub returns : goal.returns
returns c = known_spans
