use Rattle.std.proofs.Common.{◌<◌, ◌≤◌, length, map, arith}
use Rattle.std.proofs.lemmas.List.{length-map}
use Rattle.program_words.proofs.Commands.{wrong_second, wrong_third, wrong_fourth, right}
use Rattle.program_words.proofs.words.plot_of.Goals as goal

pub returns-in_default-clause-wrong : goal.returns-in_default-clause-wrong
returns-in_default-clause-wrong c =
    wrong_second (map (λ word. word.now) c.args.words.now) c.requires c.in_default.ensures.none

pub returns-in_default-side_at-clause-wrong : goal.returns-in_default-side_at-clause-wrong
returns-in_default-side_at-clause-wrong c =
    wrong_third (map (λ word. word.now) c.args.words.now) c.in-Some.w c.in-Some.ensures.found.0 c.requires c.in-Some.ensures.found.1
    c.in_default-side_at.ensures.none

pub returns-then-words-gt3-clause-wrong : goal.returns-then-words-gt3-clause-wrong
returns-then-words-gt3-clause-wrong c =
    let many : 3 < length (map (λ word. word.now) c.args.words.now) = omega (
      arith,
      c.if-words-gt3.true,
      length-map c.args.words.now (λ word. word.now),
    ) in
    wrong_fourth (map (λ word. word.now) c.args.words.now) c.in-Some.w c.in-Some-side_at.h c.in-Some.ensures.found.0
    c.in-Some-side_at.ensures.found.0
    c.requires c.in-Some.ensures.found.1 c.in-Some-side_at.ensures.found.1 many

pub returns-clause-command : goal.returns-clause-command
returns-clause-command c =
    let few : length (map (λ word. word.now) c.args.words.now) ≤ 3 = omega (
      arith,
      c.if-words-gt3.false,
      length-map c.args.words.now (λ word. word.now),
    ) in (
      right (map (λ word. word.now) c.args.words.now) c.in-Some.w c.in-Some-side_at.h c.requires c.in-Some.ensures.found.1
          c.in-Some-side_at.ensures.found.1 few,
      c.in-Some.ensures.found.0,
      c.in-Some-side_at.ensures.found.0,
    )
