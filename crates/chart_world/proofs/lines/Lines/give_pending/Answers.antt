use Rattle.std.proofs.Common.{◌∙◌, ◌+◌, ◌≤◌, ap, drop, length, arith}
use Rattle.chart_world.specs.Reading.{Reading}
use Rattle.chart_world.proofs.Pending.{pending_passed, pending_length}
use Rattle.chart_world.proofs.lines.Lines.give_pending.Goals as goal

pub returns-then-before-gt-LONGEST-clause-pending : goal.returns-then-before-gt-LONGEST-clause-pending
returns-then-before-gt-LONGEST-clause-pending c =
    let feed = c.self.inside.feed in
    let length_is = ap (λ (r : Reading). length r.pending) c.self.view_is in
    let within : feed.start + (c.args.before + 1) ≤ feed.end = omega (
      arith,
      c.requires.within,
      length_is,
      pending_length feed.bytes.items feed.start feed.end,
    ) in
    rw (c.pass.ensures.bytes, c.pass.ensures.start, c.pass.ensures.end)
    (pending_passed feed.bytes.items feed.start feed.end (c.args.before + 1) within
    ∙ ap (λ (r : Reading). drop (c.args.before + 1) r.pending) c.self.view_is)

pub returns-clause-pending : goal.returns-clause-pending
returns-clause-pending c =
    let feed = c.self.inside.feed in
    let length_is = ap (λ (r : Reading). length r.pending) c.self.view_is in
    let within : feed.start + (c.args.before + 1) ≤ feed.end = omega (
      arith,
      c.requires.within,
      length_is,
      pending_length feed.bytes.items feed.start feed.end,
    ) in
    rw (c.pass.ensures.bytes, c.pass.ensures.start, c.pass.ensures.end)
    (pending_passed feed.bytes.items feed.start feed.end (c.args.before + 1) within
    ∙ ap (λ (r : Reading). drop (c.args.before + 1) r.pending) c.self.view_is)
