use Rattle.std.proofs.Common.{◌<◌, ◌≤◌, length, map, arith}
use Rattle.std.proofs.lemmas.List.{length-map}
use Rattle.program_words.proofs.Commands.{wrong_every, wrong_behind_every, right_cover}
use Rattle.program_words.proofs.words.cover_of.Goals as goal

pub returns-in_default-clause-wrong : goal.returns-in_default-clause-wrong
returns-in_default-clause-wrong c = wrong_every (map (λ word. word.now) c.args.words.now) c.requires c.in_default.ensures.none

pub returns-then-words-gt2-clause-wrong : goal.returns-then-words-gt2-clause-wrong
returns-then-words-gt2-clause-wrong c =
    let words = map (λ word. word.now) c.args.words.now in
    let found = c.in-Some.ensures.found in
    let many : 2 < length words = omega (arith, c.if-words-gt2.true, length-map c.args.words.now (λ word. word.now)) in
    wrong_behind_every words c.in-Some.every found.0 c.requires found.1 many

pub returns-clause-command : goal.returns-clause-command
returns-clause-command c =
    let words = map (λ word. word.now) c.args.words.now in
    let found = c.in-Some.ensures.found in
    let few : length words ≤ 2 = omega (arith, c.if-words-gt2.false, length-map c.args.words.now (λ word. word.now)) in
    (right_cover words c.in-Some.every c.requires found.1 few, found.0)
