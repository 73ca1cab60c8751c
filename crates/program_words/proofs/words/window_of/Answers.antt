use Rattle.std.proofs.Common.{◌<◌, ◌<ℤ◌, length, map, arith}
use Rattle.std.proofs.lemmas.Int.{ints}
use Rattle.std.proofs.lemmas.List.{length-map}
use Rattle.program_words.proofs.ExportWords.{no_from, late_from, no_to, early_to, too_many}
use Rattle.program_words.proofs.words.window_of.Goals as goal

pub returns-in_default-clause-wrong : goal.returns-in_default-clause-wrong
returns-in_default-clause-wrong c = λ name named first second.
    let words = map (λ word. word.now) c.args.words.now in
    let some : 2 < length words = omega (arith, c.requires.some, length-map c.args.words.now (λ word. word.now)) in
    no_from words name c.in_default.ensures.none some named first second

pub returns-then-from-clause-wrong : goal.returns-then-from-clause-wrong
returns-then-from-clause-wrong c = λ name named first second.
    let words = map (λ word. word.now) c.args.words.now in
    let some : 2 < length words = omega (arith, c.requires.some, length-map c.args.words.now (λ word. word.now)) in
    let from = c.in-Some.ensures.found in
    late_from words name c.in-Some.from from.0 (omega (arith, ints, c.if-from.true, c.from.ensures)) from.1 some named first second

pub returns-in_default-time_at-clause-wrong : goal.returns-in_default-time_at-clause-wrong
returns-in_default-time_at-clause-wrong c = λ name named first second.
    let words = map (λ word. word.now) c.args.words.now in
    let some : 2 < length words = omega (arith, c.requires.some, length-map c.args.words.now (λ word. word.now)) in
    let from = c.in-Some.ensures.found in
    no_to words name c.in-Some.from from.0 (omega (arith, ints, c.if-from.false, c.from.ensures)) from.1 c.in_default-time_at.ensures.none
    some named first second

pub returns-then-to-from-clause-wrong : goal.returns-then-to-from-clause-wrong
returns-then-to-from-clause-wrong c = λ name named first second.
    let words = map (λ word. word.now) c.args.words.now in
    let some : 2 < length words = omega (arith, c.requires.some, length-map c.args.words.now (λ word. word.now)) in
    let from = c.in-Some.ensures.found in
    let to = c.in-Some-time_at.ensures.found in
    early_to words name c.in-Some.from c.in-Some-time_at.to from.0 (omega (arith, ints, c.if-from.false, c.from.ensures)) from.1 to.0 to.1
    (omega (arith, ints, c.if-to-from.true)) some named first second

pub returns-then-words-gt4-clause-wrong : goal.returns-then-words-gt4-clause-wrong
returns-then-words-gt4-clause-wrong c = λ name named first second.
    let words = map (λ word. word.now) c.args.words.now in
    let from = c.in-Some.ensures.found in
    let to = c.in-Some-time_at.ensures.found in
    let later : c.in-Some.from <ℤ c.in-Some-time_at.to = omega (arith, ints, c.if-to-from.false) in
    let many : 4 < length words = omega (arith, c.if-words-gt4.true, length-map c.args.words.now (λ word. word.now)) in
    too_many words name c.in-Some.from c.in-Some-time_at.to
    (record { rising = later; from_size = from.0; to_size = to.0 }) from.1 to.1 many named first second
