use Rattle.std.proofs.Common.{◌∙◌, ◌+◌, ap, ◌++◌, arith, slice_range}
use Rattle.chart_world.proofs.Pending.{kept_range}
use Rattle.chart_world.proofs.feed.Feed.keep.Goals as goal

pub returns-clause-spill : goal.returns-clause-spill
returns-clause-spill c =
    let self = c.args.self.now in
    let kept = c.min-kept.result in
    let added = rw c.unwrap.ensures at c.extend_from_slice.ensures.items in
    added
    ∙ ap (λ l. self.spill.items ++ slice_range l self.start (self.start + kept)) c.as_slice-bytes.ensures.value
    ∙ kept_range self.spill.items self.bytes.items self.start self.end c.args.count kept c.requires
    (omega (arith, self.short, self.spill.ok)) (omega (arith, self.short, self.spill.ok, c.len.ensures, c.min-kept.ensures))
