use Rattle.std.proofs.Common.{Some, refl, sym, ◌∙◌}
use Rattle.std.proofs.lemmas.Bool.Decides.{Decides-eqb}
use Rattle.std.proofs.lemmas.Slice.Eq.{strip_prefix_is}
use Rattle.page_space.specs.Layout.{magic}
use Rattle.page_space.proofs.Layouts.{denied, rules_small, same_numbers, has_magic, invalid_none}
use Rattle.page_space.proofs.superblock_page.superblock_in.Goals as goal

pub returns-then-not-is_valid-clause-cause : goal.returns-then-not-is_valid-clause-cause
returns-then-not-is_valid-clause-cause c =
    let marked = strip_prefix_is Decides-eqb c.args.page.now magic (Some c.in-Some.numbers) c.in-Some.ensures.cases in (
      refl,
      (
        has_magic _ _ marked,
        invalid_none _ _ _ _ c.ranges.count.fits c.in-Some-read.ensures.small marked c.in-Some-read.ensures.read
            (denied _ c.is_valid.ensures c.if-not-is_valid.true),
      ),
    )

pub returns-clause-only : goal.returns-clause-only
returns-clause-only c = λ t keeps.
    let marked = strip_prefix_is Decides-eqb c.args.page.now magic (Some c.in-Some.numbers) c.in-Some.ensures.cases in
    same_numbers t c.in-Some-read.superblock (rules_small c.args.count t c.ranges.count.fits keeps.rules) c.in-Some-read.ensures.small
    (sym keeps.spelled ∙ marked ∙ sym c.in-Some-read.ensures.read)
