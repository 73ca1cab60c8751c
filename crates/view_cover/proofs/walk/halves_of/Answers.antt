use Rattle.std.proofs.Common.{◌∙◌, sym, arith}
use Rattle.om3_coeff.proofs.WalkLemmas.{key_small}
use Rattle.view_cover.specs.Walk.{scene_of}
use Rattle.view_cover.proofs.Spans.{Basis}
use Rattle.view_cover.proofs.Steps.{reached-left, reached-right}
use Rattle.view_cover.proofs.walk.halves_of.Goals as goal

pub coef-requires-clause-key : goal.coef-requires-clause-key
coef-requires-clause-key g c = key_small c.args.scope.now.axis.slots c.args.key c.requires.reached.key

pub returns-clause-left : goal.returns-clause-left
returns-clause-left g c =
    let by : Basis = (record {
      heights = c.heights_rise.ensures;
      join = c.split_and_join_undo_each_other.ensures.whole;
      proper = c.split_and_join_undo_each_other.ensures.proper;
      below = c.what_is_known.ensures.below;
      clear = c.what_is_known.ensures.clear;
      first = c.ranges_hold_those_below.ensures.first;
      last = c.ranges_hold_those_below.ensures.end;
    }) in
    reached-left by (scene_of c.args.scope.now (g.T.Teller.told c.args.teller.now)) c.args.key c.args.span _ _
    (omega (arith, c.if-key-eq0.false)) c.requires.reached
    (sym c.coef.ensures ∙ c.in-Some.is) c.in-Ok.ensures.parts

pub returns-clause-right : goal.returns-clause-right
returns-clause-right g c =
    let by : Basis = (record {
      heights = c.heights_rise.ensures;
      join = c.split_and_join_undo_each_other.ensures.whole;
      proper = c.split_and_join_undo_each_other.ensures.proper;
      below = c.what_is_known.ensures.below;
      clear = c.what_is_known.ensures.clear;
      first = c.ranges_hold_those_below.ensures.first;
      last = c.ranges_hold_those_below.ensures.end;
    }) in
    reached-right by (scene_of c.args.scope.now (g.T.Teller.told c.args.teller.now)) c.args.key c.args.span _ _
    (omega (arith, c.if-key-eq0.false)) c.requires.reached
    (sym c.coef.ensures ∙ c.in-Some.is) c.in-Ok.ensures.parts
