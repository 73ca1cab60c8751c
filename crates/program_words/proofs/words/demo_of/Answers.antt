use Rattle.std.proofs.Common.{◌<◌, ◌≤◌, length, map, sym, subst, arith}
use Rattle.std.proofs.lemmas.List.{length-map}
use Rattle.program_words.specs.declared.words.WordsEnd.{WordsEnd}
use Rattle.program_words.specs.Words.{IsWrongBy}
use Rattle.program_words.specs.Errors.{error_so}
use Rattle.program_words.proofs.Commands.{seed_end, wrong_rounds, wrong_behind_rounds, right_demo}
use Rattle.program_words.proofs.words.demo_of.Goals as goal

pub returns-in_err-seed-clause-wrong : goal.returns-in_err-seed-clause-wrong
returns-in_err-seed-clause-wrong c =
    let words = map (λ word. word.now) c.args.words.now in
    let W : WordsEnd → Type 0 = λ end. IsWrongBy end words in
    error_so _ W c.from_residual.result c.from_residual.ensures.1
    (λ e is. subst W (sym is) (seed_end words c.in_err-seed.field-0.0 c.requires c.in_err-seed.ensures.none))

pub returns-in_default-clause-wrong : goal.returns-in_default-clause-wrong
returns-in_default-clause-wrong c =
    let seed = c.in_ok-seed.ensures.found in
    wrong_rounds (map (λ word. word.now) c.args.words.now) c.in_ok-seed.seed seed.0 c.requires seed.1 c.in_default.ensures.none

pub returns-then-words-gt3-clause-wrong : goal.returns-then-words-gt3-clause-wrong
returns-then-words-gt3-clause-wrong c =
    let words = map (λ word. word.now) c.args.words.now in
    let seed = c.in_ok-seed.ensures.found in
    let many : 3 < length words = omega (arith, c.if-words-gt3.true, length-map c.args.words.now (λ word. word.now)) in
    wrong_behind_rounds words c.in_ok-seed.seed c.in-Some.count seed.0 c.in-Some.ensures.found.0 c.requires seed.1 c.in-Some.ensures.found.1
    many

pub returns-clause-command : goal.returns-clause-command
returns-clause-command c =
    let words = map (λ word. word.now) c.args.words.now in
    let seed = c.in_ok-seed.ensures.found in
    let few : length words ≤ 3 = omega (arith, c.if-words-gt3.false, length-map c.args.words.now (λ word. word.now)) in
    (right_demo words c.in_ok-seed.seed c.in-Some.count c.requires seed.1 c.in-Some.ensures.found.1 few, seed.0, c.in-Some.ensures.found.0)
