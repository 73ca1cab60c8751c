use Rattle.std.proofs.Common.{map, refl, sym, ap, ◌∙◌}
use Rattle.std.specs.Prelude.{Some}
use Rattle.program_words.proofs.Commands.{no_name, no_word}
use Rattle.program_words.proofs.words.name_at.Goals as goal

pub returns-in_default-clause-none : goal.returns-in_default-clause-none
returns-in_default-clause-none c = (refl, λ name is there. no_word _ name c.in_default.ensures there)

pub returns-in-Ok-clause-found : goal.returns-in-Ok-clause-found
returns-in-Ok-clause-found c = (c.in-Ok.ensures.named, c.in-Some.ensures ∙ ap Some (sym (c.in-Ok.ensures.ok ∙ c.as_bytes.ensures.value)))

pub returns-in-Err-NotAName-clause-none : goal.returns-in-Err-NotAName-clause-none
returns-in-Err-NotAName-clause-none c = (
  refl,
  no_name (map (λ word. word.now) c.args.words.now) c.args.place c.in-Some.word.now c.in-Some.ensures c.as_bytes.result.now
      c.as_bytes.ensures.value c.in-Err-NotAName.field-0 c.in-Err-NotAName.ensures.err c.in-Err-NotAName.field-0-is,
)
