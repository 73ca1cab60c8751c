use Rattle.std.proofs.Common.{◌<◌, ◌≤◌, length, map, sym, subst, arith}
use Rattle.std.proofs.lemmas.List.{length-map}
use Rattle.program_words.specs.declared.words.WordsEnd.{WordsEnd}
use Rattle.program_words.specs.Words.{IsWrongBy}
use Rattle.program_words.specs.Errors.{error_so}
use Rattle.program_words.proofs.Commands.{name_end, wrong_behind_name, right_load}
use Rattle.program_words.proofs.words.load_of.Goals as goal

pub returns-in_err-name-clause-wrong : goal.returns-in_err-name-clause-wrong
returns-in_err-name-clause-wrong c =
    let words = map (λ word. word.now) c.args.words.now in
    let W : WordsEnd → Type 0 = λ end. IsWrongBy end words in
    error_so _ W c.from_residual.result c.from_residual.ensures.1
    (λ e is. subst W (sym is) (name_end words c.in_err-name.field-0.0 c.requires c.in_err-name.ensures.none))

pub returns-then-words-gt2-clause-wrong : goal.returns-then-words-gt2-clause-wrong
returns-then-words-gt2-clause-wrong c =
    let words = map (λ word. word.now) c.args.words.now in
    let name = c.in_ok-name.ensures.found in
    let many : 2 < length words = omega (arith, c.if-words-gt2.true, length-map c.args.words.now (λ word. word.now)) in
    wrong_behind_name words c.in_ok-name.name name.0 c.requires name.1 many

pub returns-clause-command : goal.returns-clause-command
returns-clause-command c =
    let words = map (λ word. word.now) c.args.words.now in
    let name = c.in_ok-name.ensures.found in
    let few : length words ≤ 2 = omega (arith, c.if-words-gt2.false, length-map c.args.words.now (λ word. word.now)) in
    (right_load words c.in_ok-name.name c.requires name.1 few, name.0)
