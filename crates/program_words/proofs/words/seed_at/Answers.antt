use Rattle.std.proofs.Common.{map, refl, sym, ◌∙◌}
use Rattle.std.specs.Prelude.{◌≡◌}
use Rattle.std.specs.Fmt.{decimal}
use Rattle.program_words.proofs.Commands.{no_seed, other_seed, not_apart}
use Rattle.program_words.proofs.words.seed_at.Goals as goal

pub returns-in_default-parse-clause-none : goal.returns-in_default-parse-clause-none
returns-in_default-parse-clause-none c = (
  refl,
  no_seed (map (λ word. word.now) c.args.words.now) c.args.place c.in-Some.word.now c.parse.result c.in-Some.ensures
      c.parse.ensures.value.0 c.in_default-parse.field-0 c.in_default-parse.is,
)

pub returns-then-ne-clause-none : goal.returns-then-ne-clause-none
returns-then-ne-clause-none c =
    let off : c.in-Some.word.now ≡ decimal c.in-Ok.seed
    → ⊥ = λ same. not_apart c.as_str.result.now c.in-Some.word.now c.if-ne.ensures (c.as_str.ensures.value ∙ c.in-Ok-format.ensures.ok
    ∙ sym same) in (
      refl,
      other_seed (map (λ word. word.now) c.args.words.now) c.args.place c.in-Ok.seed c.in-Some.word.now c.parse.result
          c.in-Some.ensures c.parse.ensures.value.0 c.in-Ok.is off,
    )
