use Rattle.std.proofs.Common.{◌≡◌, ◌<◌, length, true, false, arith, sym, ◌∙◌}
use Rattle.std.specs.Option.{is_some}
use Rattle.std.specs.List.{list_any}
use Rattle.std.proofs.lemmas.Bool.Decides.{nat_tests}
use Rattle.series_book.specs.Pages.{ranges_with_value}
use Rattle.series_book.proofs.PageLemmas.{ranges_with_value-more, ranges_with_value-nil}
use Rattle.series_book.proofs.page_count.ranges_with_value.Goals as goal

pub loop-rest-preserved-then-holds_value : goal.loop-rest-preserved-then-holds_value
loop-rest-preserved-then-holds_value c =
    let some : 0 < length c.loop-rest.rest.now = grind (arith, nat_tests) in
    let held : list_any is_some c.split_at.result.0.now ≡ true = sym c.holds_value.ensures ∙ c.if-holds_value.true in
    let more = ranges_with_value-more c.args.size c.min.result c.loop-rest.ranges (ranges_with_value c.args.size c.args.slots.now)
    c.loop-rest.rest.now c.split_at.result.0.now c.split_at.result.1.now
    c.requires some c.min.ensures c.split_at.ensures.front c.split_at.ensures.back c.loop-rest.invariant.ranges in
    record { few = omega (arith, c.split_at.ensures.back_len, c.split_at.ensures.front_len); ranges = rw held at more }

pub loop-rest-preserved : goal.loop-rest-preserved
loop-rest-preserved c =
    let some : 0 < length c.loop-rest.rest.now = grind (arith, nat_tests) in
    let held : list_any is_some c.split_at.result.0.now ≡ false = sym c.holds_value.ensures ∙ c.if-holds_value.false in
    let more = ranges_with_value-more c.args.size c.min.result c.loop-rest.ranges (ranges_with_value c.args.size c.args.slots.now)
    c.loop-rest.rest.now c.split_at.result.0.now c.split_at.result.1.now
    c.requires some c.min.ensures c.split_at.ensures.front c.split_at.ensures.back c.loop-rest.invariant.ranges in
    record { few = omega (arith, c.split_at.ensures.back_len); ranges = omega (arith, rw held at more) }

pub returns-clause-ranges : goal.returns-clause-ranges
returns-clause-ranges c =
    let none : length c.loop-rest.rest.now ≡ 0 = grind (arith, nat_tests) in
    omega (arith, ranges_with_value-nil c.args.size c.loop-rest.rest.now none)
