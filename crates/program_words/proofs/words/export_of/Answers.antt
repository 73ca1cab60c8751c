use Rattle.std.proofs.Common.{◌≤◌, length, map, sym, subst, arith}
use Rattle.std.proofs.lemmas.List.{length-map}
use Rattle.program_words.specs.declared.words.WordsEnd.{WordsEnd}
use Rattle.program_words.specs.Words.{IsWrongBy}
use Rattle.program_words.specs.Errors.{error_so}
use Rattle.program_words.proofs.ExportWords.{export_name_end, right_export, right_window}
use Rattle.program_words.proofs.words.export_of.Goals as goal

pub returns-in_err-name-clause-wrong : goal.returns-in_err-name-clause-wrong
returns-in_err-name-clause-wrong c =
    let words = map (λ word. word.now) c.args.words.now in
    let W : WordsEnd → Type 0 = λ end. IsWrongBy end words in
    error_so _ W c.from_residual.result c.from_residual.ensures.1
    (λ e is. subst W (sym is) (export_name_end words c.in_err-name.field-0.0 c.requires c.in_err-name.ensures.none))

pub returns-then-words-le2-clause-command : goal.returns-then-words-le2-clause-command
returns-then-words-le2-clause-command c =
    let words = map (λ word. word.now) c.args.words.now in
    let name = c.in_ok-name.ensures.found in
    let few : length words ≤ 2 = omega (arith, c.if-words-le2.true, length-map c.args.words.now (λ word. word.now)) in
    (right_export words c.in_ok-name.name c.requires name.1 few, name.0, tt)

pub returns-in-Ok-clause-command : goal.returns-in-Ok-clause-command
returns-in-Ok-clause-command c =
    let words = map (λ word. word.now) c.args.words.now in
    let name = c.in_ok-name.ensures.found in
    let e = c.in-Ok.ensures in
    let few : length words ≤ 4 = omega (arith, e.all, length-map c.args.words.now (λ word. word.now)) in
    (right_window words c.in_ok-name.name c.in-Ok.window c.requires name.1 e.from e.to few, name.0, e.window)

pub returns-in-Err-clause-wrong : goal.returns-in-Err-clause-wrong
returns-in-Err-clause-wrong c =
    let name = c.in_ok-name.ensures.found in
    c.in-Err.ensures.wrong c.in_ok-name.name name.0 c.requires name.1
