use Rattle.std.proofs.Common.{sym, length, get_or, arith}
use Rattle.std.proofs.lemmas.List.Sums.{position_or_len_is}
use Rattle.std.proofs.lemmas.Bool.{false_from_ne_true}
use Rattle.chart_world.specs.Lines.{is_line_feed}
use Rattle.chart_world.proofs.feed.line_feed_at.Goals as goal

pub returns-in-Some : goal.returns-in-Some
returns-in-Some c =
    let bytes = c.args.bytes.now in
    let found = c.in-Some.ensures in
    sym (position_or_len_is is_line_feed bytes c.in-Some.at 0 (omega (arith, found.0.high))
    (λ k below. false_from_ne_true (is_line_feed (get_or bytes k 0)) (found.0.before k (omega arith) below))
    (λ _. found.1))

pub returns-in-None : goal.returns-in-None
returns-in-None c =
    let bytes = c.args.bytes.now in
    sym (position_or_len_is is_line_feed bytes (length bytes) 0 (omega arith)
    (λ k below. false_from_ne_true (is_line_feed (get_or bytes k 0)) (c.in-None.ensures k (omega arith) below))
    (λ below. absurd (omega (arith, below))))
