use Rattle.std.proofs.Common.{arith}
use Rattle.page_space.proofs.Words.{word_taken}
use Rattle.page_space.proofs.fields.word_at.Goals as goal

pub returns-clause-parts : goal.returns-clause-parts
returns-clause-parts c = word_taken _ _ (λ i. omega (arith, c.type_inv.bytes i)) c.requires c.read_u32.ensures
