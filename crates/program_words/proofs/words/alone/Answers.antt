use Rattle.std.proofs.Common.{◌<◌, ◌≤◌, ℕ, length, map, sym, subst, ◌∙◌, arith}
use Rattle.std.specs.Prelude.{slice_get}
use Rattle.std.proofs.lemmas.List.{length-map}
use Rattle.program_words.specs.Words.{IsWrongAt}
use Rattle.program_words.specs.Errors.{error_so}
use Rattle.program_words.proofs.Commands.{wrong_first, no_command, wrong_behind, right_single}
use Rattle.program_words.proofs.words.alone.Goals as goal

pub returns-in_err-command-clause-wrong : goal.returns-in_err-command-clause-wrong
returns-in_err-command-clause-wrong c =
    let words = map (λ word. word.now) c.args.words.now in
    let wrong = c.in_err-command.ensures.wrong in
    let W : ℕ → Type 0 = λ n. IsWrongAt n words in
    error_so _ W c.from_residual.result c.from_residual.ensures.1
    (λ e is. subst W (sym (is ∙ wrong.0)) (wrong_first words
    (no_command (slice_get words 0) c.requires.plot c.requires.load c.requires.demo c.requires.export c.requires.cover wrong.1)))

pub returns-then-words-gt1-clause-wrong : goal.returns-then-words-gt1-clause-wrong
returns-then-words-gt1-clause-wrong c =
    let command = c.in_ok-command.ensures.command in
    let many : 1 < length (map (λ word. word.now) c.args.words.now) = omega (
      arith,
      c.if-words-gt1.true,
      length-map c.args.words.now (λ word. word.now),
    ) in
    wrong_behind (map (λ word. word.now) c.args.words.now) c.in_ok-command.command command.1 command.0 many

pub returns-clause-command : goal.returns-clause-command
returns-clause-command c =
    let command = c.in_ok-command.ensures.command in
    let few : length (map (λ word. word.now) c.args.words.now) ≤ 1 = omega (
      arith,
      c.if-words-gt1.false,
      length-map c.args.words.now (λ word. word.now),
    ) in
    right_single (map (λ word. word.now) c.args.words.now) c.in_ok-command.command command.1 command.0 few
