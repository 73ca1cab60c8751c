use Rattle.std.proofs.Common.{ℕ, ◌<◌, ◌-◌, ◌∙◌, arith, length, All, subst, sym}
use Rattle.std.proofs.lemmas.Option.{slice_get-get_or}
use Rattle.m4_groups.specs.Heights.{IsDrawable}
use Rattle.m4_groups.proofs.Whole.{first_painted, next_painted, all_painted}
use Rattle.m4_groups.proofs.drawing.draw_all.Goals as goal

pub loop-i-preserved : goal.loop-i-preserved
loop-i-preserved c = record {
  drawn = next_painted c.args.scale.lo c.args.scale.hi c.args.scale.h c.args.rows.now (c.loop-i.i - 1) c.loop-i.i _ _ _
      c.args.bitmap.now c.loop-i.bitmap c.join.new.bitmap c.fill-in-loop-i.new.bitmap
      (omega arith) (omega arith)
      (slice_get-get_or c.args.rows.now (c.loop-i.i - 1) _ (omega arith))
      (slice_get-get_or c.args.rows.now c.loop-i.i _ (omega arith))
      c.loop-i.invariant.drawn c.join.ensures c.fill-in-loop-i.ensures;
}

pub fill-requires : goal.fill-requires
fill-requires c =
    let some : 0 < length c.args.rows.now = grind (arith, c.is_empty.ensures, c.if-is_empty.false) in
    c.requires.drawable 0 _ some

pub fill-requires-in-loop-i : goal.fill-requires-in-loop-i
fill-requires-in-loop-i c =
    let P : ℕ → Type 0 = λ w. All (IsDrawable w) c.args.rows.now in
    subst P (sym (c.join.ensures.width ∙ c.loop-i.invariant.drawn.width)) c.requires.drawable c.loop-i.i _ c.loop-i-test.true

pub join-requires-clause-order : goal.join-requires-clause-order
join-requires-clause-order c = c.requires.rising (c.loop-i.i - 1) c.loop-i.i _ (omega (arith, c.loop-i.auto.i)) c.loop-i-test.true

pub join-requires-clause-row : goal.join-requires-clause-row
join-requires-clause-row c =
    let P : ℕ → Type 0 = λ w. All (IsDrawable w) c.args.rows.now in
    subst P (sym c.loop-i.invariant.drawn.width) c.requires.drawable (c.loop-i.i - 1) _ (omega (arith, c.loop-i-test.true))

pub join-requires-clause-next : goal.join-requires-clause-next
join-requires-clause-next c =
    let P : ℕ → Type 0 = λ w. All (IsDrawable w) c.args.rows.now in
    subst P (sym c.loop-i.invariant.drawn.width) c.requires.drawable c.loop-i.i _ c.loop-i-test.true

pub loop-i-init : goal.loop-i-init
loop-i-init c =
    let some : 0 < length c.args.rows.now = grind (arith, c.is_empty.ensures, c.if-is_empty.false) in
    record {
      drawn = first_painted c.args.scale.lo c.args.scale.hi c.args.scale.h c.args.rows.now _ _ _
          (slice_get-get_or c.args.rows.now 0 _ some) c.fill.ensures;
    }

pub returns : goal.returns
returns c = all_painted c.args.scale.lo c.args.scale.hi c.args.scale.h c.args.rows.now c.loop-i.i _ _ c.loop-i-test.false
    c.loop-i.invariant.drawn
