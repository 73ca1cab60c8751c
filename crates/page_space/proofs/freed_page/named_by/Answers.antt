use Rattle.std.proofs.Common.{ℕ, List, [], ◌∷◌, Some, None, arith}
use Rattle.std.proofs.lemmas.Bool.Decides.{Decides-eqb}
use Rattle.std.proofs.lemmas.Slice.Eq.{strip_prefix_is}
use Rattle.page_space.proofs.Writing.{freed_some, freed_none, unmarked_none, are_zeros, no_zeros}
use Rattle.page_space.proofs.freed_page.named_by.Goals as goal

abbrev mark : List ℕ
mark = 1 ∷ 0 ∷ 0 ∷ 0 ∷ []

pub returns-in_default-clause-none : goal.returns-in_default-clause-none
returns-in_default-clause-none c = unmarked_none _ (strip_prefix_is Decides-eqb c.args.page.now mark None c.in_default.ensures.cases)

pub returns-then-not-all_zero-clause-none : goal.returns-then-not-all_zero-clause-none
returns-then-not-all_zero-clause-none c =
    let marked = strip_prefix_is Decides-eqb c.args.page.now mark (Some c.in-Some.rest) c.in-Some.ensures.cases in
    freed_none _ _ _ _ marked c.word_at-next.ensures.parts
    (no_zeros _ 4088 _ c.all_zero.ensures (omega (arith, c.in-Some.ensures.cases.2)) c.if-not-all_zero.true)

pub returns-clause-named : goal.returns-clause-named
returns-clause-named c =
    let marked = strip_prefix_is Decides-eqb c.args.page.now mark (Some c.in-Some.rest) c.in-Some.ensures.cases in
    freed_some _ _ _ _ marked c.word_at-next.ensures.parts
    (are_zeros _ 4088 _ c.all_zero.ensures (omega (arith, c.in-Some.ensures.cases.2)) c.if-not-all_zero.false)
