use Rattle.std.proofs.Common.{◌≡◌, ◌∙◌, ◌-◌, ap, length, arith}
use Rattle.std.specs.List.{position_or_len}
use Rattle.chart_world.specs.Lines.{is_line_feed}
use Rattle.chart_world.specs.Reading.{Reading}
use Rattle.chart_world.proofs.Pending.{pending_full}
use Rattle.chart_world.proofs.NextLine.{contains_early, early_contains}
use Rattle.chart_world.proofs.lines.Lines.pending_line.Goals.{else-before-len-via-then-before-len+else-given-before}
use Rattle.chart_world.proofs.lines.Lines.pending_line.Goals.{else-before-len-via-else-before-len}
use Rattle.chart_world.proofs.lines.Lines.pending_line.Goals as goal

pub returns-then-given-before-clause-here : goal.returns-then-given-before-clause-here
returns-then-given-before-clause-here c =
    let given = ap (λ (r : Reading). r.given) c.self.view_is in
    let limit = ap (λ (r : Reading). r.limit) c.self.view_is in
    let pending = ap (λ (r : Reading). r.pending) c.self.view_is in
    let feed = c.self.inside.feed in
    let full = pending_full feed.bytes.items feed.start feed.end feed.ordered (omega (arith, feed.within, feed.sized, feed.bytes.ok)) in
    record {
      place = c.line_feed-before.ensures ∙ ap (λ l. position_or_len is_line_feed l) pending;
      within = omega (arith, full, ap length pending, c.len.ensures, c.if-before-len.true);
      early = omega (arith, given, limit, c.given.ensures, c.if-given-before.true);
    }

pub returns-then-given-before-clause-has : goal.returns-then-given-before-clause-has
returns-then-given-before-clause-has c =
    let old = c.args.self.now in
    let given = ap (λ (r : Reading). r.given) c.self.view_is in
    let limit = ap (λ (r : Reading). r.limit) c.self.view_is in
    let pending = ap (λ (r : Reading). r.pending) c.self.view_is in
    let feed = c.self.inside.feed in
    let full = pending_full feed.bytes.items feed.start feed.end feed.ordered (omega (arith, feed.within, feed.sized, feed.bytes.ok)) in
    let place : c.line_feed-before.result ≡ position_or_len is_line_feed old.pending = c.line_feed-before.ensures
    ∙ ap (λ l. position_or_len is_line_feed l) pending in
    early_contains (old.limit - old.given) old.pending (omega (arith, place, full, ap length pending, c.len.ensures, c.if-before-len.true))
    (omega (arith, place, given, limit, c.given.ensures, c.if-given-before.true))

pub returns-clause-none : goal.returns-clause-none
returns-clause-none c _ has =
    let old = c.args.self.now in
    let given = ap (λ (r : Reading). r.given) c.self.view_is in
    let limit = ap (λ (r : Reading). r.limit) c.self.view_is in
    let pending = ap (λ (r : Reading). r.pending) c.self.view_is in
    let early = contains_early (old.limit - old.given) old.pending has in
    let feed = c.self.inside.feed in
    let full = pending_full feed.bytes.items feed.start feed.end feed.ordered (omega (arith, feed.within, feed.sized, feed.bytes.ok)) in
    let place : c.line_feed-before.result ≡ position_or_len is_line_feed old.pending = c.line_feed-before.ensures
    ∙ ap (λ l. position_or_len is_line_feed l) pending in
    elim c.else-before-len.branch [
      | else-before-len-via-then-before-len+else-given-before w ↦ absurd
          (omega (arith, early.1, place, given, limit, w.given.ensures, w.if-given-before.false))
      | else-before-len-via-else-before-len w ↦ absurd
          (omega (arith, early.0, place, full, ap length pending, c.len.ensures, w.if-before-len.false))
    ]
