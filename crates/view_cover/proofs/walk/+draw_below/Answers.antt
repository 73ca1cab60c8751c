use Rattle.std.proofs.Common.{◌≡◌, ◌≤◌, ◌∙◌, sym, ap, rules, arith}
use Rattle.std.specs.Prelude.{Some, None}
use Rattle.om3_coeff.specs.declared.span.Span.{Span}
use Rattle.om3_coeff.specs.Keys.{first_slot, end_slot, left_of, right_of}
use Rattle.om3_coeff.proofs.KeyLemmas.{left_first, right_end}
use Rattle.om3_coeff.proofs.WalkLemmas.{key_small}
use Rattle.view_cover.specs.Front.{IsInFront}
use Rattle.view_cover.specs.Walk.{scene_of, IsReached, IsAreaOf}
use Rattle.view_cover.proofs.Spans.{Basis}
use Rattle.view_cover.proofs.Parts.{empty-free, undrawn-free, last-free, part-free, part-halves, part-lowest, last-lowest}
use Rattle.view_cover.proofs.Steps.{reached-as, reached-at, reached-order, last-at, low-high, drawn-below, last-within, area-is, front-is}
use Rattle.view_cover.proofs.walk.+draw_below.Goals as goal

pub returns-in_default-clause-last : goal.returns-in_default-clause-last
returns-in_default-clause-last g t c =
    let by : Basis = (record {
      heights = c.heights_rise.ensures;
      join = c.split_and_join_undo_each_other.ensures.whole;
      proper = c.split_and_join_undo_each_other.ensures.proper;
      below = c.what_is_known.ensures.below;
      clear = c.what_is_known.ensures.clear;
      first = c.ranges_hold_those_below.ensures.first;
      last = c.ranges_hold_those_below.ensures.end;
    }) in
    let reached : IsReached (scene_of c.args.scope.now (g.T.Teller.told c.args.teller.now)) c.args.key None = reached-as
    (scene_of c.args.scope.now (g.T.Teller.told c.args.teller.now)) c.args.key c.args.span None c.in_default.is c.requires.reached in
    last-free by (scene_of c.args.scope.now (g.T.Teller.told c.args.teller.now)) c.args.key None c.args.last reached
    (empty-free by (scene_of c.args.scope.now (g.T.Teller.told c.args.teller.now)) c.args.key reached) c.requires.last

pub returns-in_default-clause-drawn : goal.returns-in_default-clause-drawn
returns-in_default-clause-drawn g t c =
    let by : Basis = (record {
      heights = c.heights_rise.ensures;
      join = c.split_and_join_undo_each_other.ensures.whole;
      proper = c.split_and_join_undo_each_other.ensures.proper;
      below = c.what_is_known.ensures.below;
      clear = c.what_is_known.ensures.clear;
      first = c.ranges_hold_those_below.ensures.first;
      last = c.ranges_hold_those_below.ensures.end;
    }) in
    let reached : IsReached (scene_of c.args.scope.now (g.T.Teller.told c.args.teller.now)) c.args.key None = reached-as
    (scene_of c.args.scope.now (g.T.Teller.told c.args.teller.now)) c.args.key c.args.span None c.in_default.is c.requires.reached in
    part-free (scene_of c.args.scope.now (g.T.Teller.told c.args.teller.now)) (first_slot c.args.key)
    (end_slot c.args.key) c.args.bitmap.now (empty-free by
    (scene_of c.args.scope.now (g.T.Teller.told c.args.teller.now)) c.args.key reached)

pub columns_of-requires : goal.columns_of-requires
columns_of-requires g t c = key_small c.args.scope.now.axis.slots c.args.key c.requires.reached.key

pub returns-in_default-columns_of-clause-last : goal.returns-in_default-columns_of-clause-last
returns-in_default-columns_of-clause-last g t c =
    let by : Basis = (record {
      heights = c.heights_rise.ensures;
      join = c.split_and_join_undo_each_other.ensures.whole;
      proper = c.split_and_join_undo_each_other.ensures.proper;
      below = c.what_is_known.ensures.below;
      clear = c.what_is_known.ensures.clear;
      first = c.ranges_hold_those_below.ensures.first;
      last = c.ranges_hold_those_below.ensures.end;
    }) in
    last-free by (scene_of c.args.scope.now (g.T.Teller.told c.args.teller.now)) c.args.key c.args.span c.args.last c.requires.reached
    (undrawn-free by (scene_of c.args.scope.now (g.T.Teller.told c.args.teller.now)) c.args.key c.args.span c.requires.reached
    c.in_default-columns_of.ensures.none) c.requires.last

pub returns-in_default-columns_of-clause-drawn : goal.returns-in_default-columns_of-clause-drawn
returns-in_default-columns_of-clause-drawn g t c =
    let by : Basis = (record {
      heights = c.heights_rise.ensures;
      join = c.split_and_join_undo_each_other.ensures.whole;
      proper = c.split_and_join_undo_each_other.ensures.proper;
      below = c.what_is_known.ensures.below;
      clear = c.what_is_known.ensures.clear;
      first = c.ranges_hold_those_below.ensures.first;
      last = c.ranges_hold_those_below.ensures.end;
    }) in
    part-free (scene_of c.args.scope.now (g.T.Teller.told c.args.teller.now)) (first_slot c.args.key)
    (end_slot c.args.key) c.args.bitmap.now (undrawn-free by
    (scene_of c.args.scope.now (g.T.Teller.told c.args.teller.now)) c.args.key c.args.span c.requires.reached
    c.in_default-columns_of.ensures.none)

pub halves_of-requires-clause-reached : goal.halves_of-requires-clause-reached
halves_of-requires-clause-reached g t c = reached-as (scene_of c.args.scope.now (g.T.Teller.told c.args.teller.now)) c.args.key c.args.span
    (Some c.in-Some.span) c.in-Some.is c.requires.reached

pub add-requires-clause-columns : goal.add-requires-clause-columns
add-requires-clause-columns g t c =
    omega (
      arith,
      c.requires.wide,
      c.area_of-area.ensures.right,
      drawn-below c.args.scope.now.axis c.args.scope.now.grid c.args.key c.in-Some-columns_of.right
          c.in-Some-columns_of.ensures.columns.right_drawn,
    )

pub add-requires-clause-order : goal.add-requires-clause-order
add-requires-clause-order g t c =
    let lo = c.args.scope.now.lo in
    let hi = c.args.scope.now.hi in
    let h = c.args.scope.now.grid.h in
    let order = reached-order c.what_is_known.ensures.proper
    (scene_of c.args.scope.now (g.T.Teller.told c.args.teller.now)) c.args.key c.in-Some.span c.requires.proper
    (reached-as (scene_of c.args.scope.now (g.T.Teller.told c.args.teller.now)) c.args.key c.args.span
    (Some c.in-Some.span) c.in-Some.is c.requires.reached) in
    low-high _ _ _ _ c.area_of-area.ensures.low c.area_of-area.ensures.high
    (c.heights_rise.ensures c.in-Some.span.min c.in-Some.span.max lo hi h order)

pub add-requires-clause-before : goal.add-requires-clause-before
add-requires-clause-before g t c = last-within (scene_of c.args.scope.now (g.T.Teller.told c.args.teller.now))
    (first_slot c.args.key) c.args.bitmap.now.w c.args.last c.requires.wide c.requires.last

pub returns-in_default-halves_of-clause-last : goal.returns-in_default-halves_of-clause-last
returns-in_default-halves_of-clause-last g t c =
    let s : Span = c.in-Some.span in
    let front : IsInFront (scene_of c.args.scope.now (g.T.Teller.told c.args.teller.now)) c.args.key s = front-is
    (scene_of c.args.scope.now (g.T.Teller.told c.args.teller.now)) c.args.key s c.in-Some-columns_of.left c.in-Some-columns_of.right
    c.in_default-halves_of.ensures.none c.in-Some-columns_of.ensures.columns in
    let area : IsAreaOf (scene_of c.args.scope.now (g.T.Teller.told c.args.teller.now)) c.args.key s c.area_of-area.result = area-is
    (scene_of c.args.scope.now (g.T.Teller.told c.args.teller.now)) c.args.key s c.area_of-area.result c.in-Some-columns_of.left
    c.in-Some-columns_of.right
    c.in-Some-columns_of.ensures.columns c.area_of-area.ensures.left c.area_of-area.ensures.right c.area_of-area.ensures.low
    c.area_of-area.ensures.high in
    last-lowest (scene_of c.args.scope.now (g.T.Teller.told c.args.teller.now)) c.args.key s c.area_of-area.result front area

pub returns-in_default-halves_of-clause-drawn : goal.returns-in_default-halves_of-clause-drawn
returns-in_default-halves_of-clause-drawn g t c =
    let by : Basis = (record {
      heights = c.heights_rise.ensures;
      join = c.split_and_join_undo_each_other.ensures.whole;
      proper = c.split_and_join_undo_each_other.ensures.proper;
      below = c.what_is_known.ensures.below;
      clear = c.what_is_known.ensures.clear;
      first = c.ranges_hold_those_below.ensures.first;
      last = c.ranges_hold_those_below.ensures.end;
    }) in
    let s : Span = c.in-Some.span in
    let front : IsInFront (scene_of c.args.scope.now (g.T.Teller.told c.args.teller.now)) c.args.key s = front-is
    (scene_of c.args.scope.now (g.T.Teller.told c.args.teller.now)) c.args.key s c.in-Some-columns_of.left c.in-Some-columns_of.right
    c.in_default-halves_of.ensures.none c.in-Some-columns_of.ensures.columns in
    let area : IsAreaOf (scene_of c.args.scope.now (g.T.Teller.told c.args.teller.now)) c.args.key s c.area_of-area.result = area-is
    (scene_of c.args.scope.now (g.T.Teller.told c.args.teller.now)) c.args.key s c.area_of-area.result c.in-Some-columns_of.left
    c.in-Some-columns_of.right
    c.in-Some-columns_of.ensures.columns c.area_of-area.ensures.left c.area_of-area.ensures.right c.area_of-area.ensures.low
    c.area_of-area.ensures.high in
    part-lowest by (scene_of c.args.scope.now (g.T.Teller.told c.args.teller.now)) c.args.key s c.area_of-area.result c.args.last _ _ front
    area c.requires.last c.add.ensures

pub left-requires-clause-fits : goal.left-requires-clause-fits
left-requires-clause-fits g t c = key_small c.args.scope.now.axis.slots c.args.key c.requires.reached.key

pub right-requires-clause-fits : goal.right-requires-clause-fits
right-requires-clause-fits g t c = key_small c.args.scope.now.axis.slots c.args.key c.requires.reached.key

pub draw_below-middle-requires : goal.draw_below-middle-requires
draw_below-middle-requires g t c κs within =
    let low : 1 ≤ c.args.key.level = c.in-Some-halves_of.ensures.low in
    let start : first_slot c.args.key ≡ first_slot c.left.result = sym (ap first_slot c.left.ensures ∙ left_first c.args.key low) in (
      search rules,
      (
        search rules,
        (
          reached-at (scene_of c.args.scope.now (g.T.Teller.told c.args.teller.now))
              (left_of c.args.key) c.left.result c.in-Some-halves_of.first c.left.ensures c.in-Some-halves_of.ensures.left,
          (
            last-at (scene_of c.args.scope.now (g.T.Teller.told c.args.teller.now)) (first_slot c.args.key)
                (first_slot c.left.result) c.args.last start c.requires.last,
            (c.requires.proper, (c.requires.wide, c.requires.fit)),
          ),
        ),
      ),
    )

pub draw_below-requires : goal.draw_below-requires
draw_below-requires g t c κs within =
    let low : 1 ≤ c.args.key.level = c.in-Some-halves_of.ensures.low in
    let start : end_slot c.left.result ≡ first_slot c.right.result = ap end_slot c.left.ensures ∙ sym (ap first_slot c.right.ensures) in (
      search rules,
      (
        search rules,
        (
          reached-at (scene_of c.args.scope.now (g.T.Teller.told c.args.teller.now))
              (right_of c.args.key) c.right.result c.in-Some-halves_of.second c.right.ensures c.in-Some-halves_of.ensures.right,
          (
            last-at (scene_of c.args.scope.now (g.T.Teller.told c.args.teller.now)) (end_slot c.left.result)
                (first_slot c.right.result) c.draw_below-middle.result start c.draw_below-middle.ensures.last,
            (c.requires.proper, (c.draw_below-middle.ensures.drawn.width ∙ c.requires.wide, c.requires.fit)),
          ),
        ),
      ),
    )

pub returns-clause-last : goal.returns-clause-last
returns-clause-last g t c =
    let stop : end_slot c.right.result ≡ end_slot c.args.key = ap end_slot c.right.ensures
    ∙ right_end c.args.key c.in-Some-halves_of.ensures.low in
    last-at (scene_of c.args.scope.now (g.T.Teller.told c.args.teller.now)) (end_slot c.right.result)
    (end_slot c.args.key) c.draw_below.result stop c.draw_below.ensures.last

pub returns-clause-drawn : goal.returns-clause-drawn
returns-clause-drawn g t c =
    let by : Basis = (record {
      heights = c.heights_rise.ensures;
      join = c.split_and_join_undo_each_other.ensures.whole;
      proper = c.split_and_join_undo_each_other.ensures.proper;
      below = c.what_is_known.ensures.below;
      clear = c.what_is_known.ensures.clear;
      first = c.ranges_hold_those_below.ensures.first;
      last = c.ranges_hold_those_below.ensures.end;
    }) in
    part-halves by (scene_of c.args.scope.now (g.T.Teller.told c.args.teller.now)) c.args.key c.left.result c.right.result
    c.in-Some-halves_of.first _ _ _ c.in-Some-halves_of.ensures.low c.left.ensures c.right.ensures
    c.in-Some-halves_of.ensures.left c.draw_below-middle.ensures.drawn c.draw_below.ensures.drawn
