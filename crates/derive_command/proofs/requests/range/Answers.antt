use Rattle.std.proofs.Common.{◌∙◌, sym, subst}
use Rattle.std.proofs.lemmas.Bool.{false≢true}
use Rattle.request_lines.proofs.SpeltRanges.{range_fit, range_words}
use Rattle.request_lines.specs.Spelling.{SpellsRange}
use Rattle.request_lines.specs.declared.ranges.RangeWord.{RangeWord}
use Rattle.derive_command.proofs.requests.range.Goals as goal

pub returns-then-not-is_range-clause-none : goal.returns-then-not-is_range-clause-none
returns-then-not-is_range-clause-none c = λ range spells. false≢true (sym c.if-not-is_range.true ∙ c.is_range.ensures
    ∙ (range_fit range c.args.token.now spells).0)

pub returns-clause-spelt : goal.returns-clause-spelt
returns-clause-spelt c =
    let P : RangeWord → Type 0 = λ r. SpellsRange r c.args.token.now in
    subst P (sym c.range_of.ensures) (range_words c.args.token.now (sym c.is_range.ensures ∙ c.if-not-is_range.false))
