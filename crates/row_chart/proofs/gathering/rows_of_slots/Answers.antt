use Rattle.std.proofs.Common.{◌≡◌, ℤ, ◌+◌, List, ◌∷◌, ◌++◌, [], take, Option, None, ap, sym, subst, ◌∙◌, arith}
use Rattle.std.proofs.lemmas.Grind.{common_steps}
use Rattle.std.proofs.lemmas.List.{map-append}
use Rattle.std.specs.Option.{option_to_list}
use Rattle.chart_grid.specs.declared.grid.Grid.{Grid}
use Rattle.plain_chart.specs.declared.sample.Sample.{Sample}
use Rattle.plain_chart.specs.Samples.{kept, sample_points}
use Rattle.plain_chart.proofs.Keeping.{kept_more}
use Rattle.m4_groups.specs.Points.{AreInOrder}
use Rattle.m4_groups.specs.Rows.{AreRowsOf}
use Rattle.m4_groups.specs.Gathered.{IsGathered}
use Rattle.row_chart.proofs.Order.{kept-in_order}
use Rattle.row_chart.proofs.Picture.{kept-drawable}
use Rattle.row_chart.proofs.gathering.rows_of_slots.Goals as goal

pub take_in-requires-clause-later : goal.take_in-requires-clause-later
take_in-requires-clause-later c = λ s is.
    let grid = c.args.grid in
    let slots = c.args.slots.now in
    let slot = c.loop-slot.slot in
    let o = c.sample_at-sample.result in
    let old = kept grid c.args.axis (take slot slots) in
    let more : kept grid c.args.axis (take (slot + 1) slots) ≡ old ++ option_to_list o =
    kept_more grid c.args.axis slots slot None c.loop-slot-test.true
    ∙ ap (λ x. old ++ option_to_list x) (sym c.sample_at-sample.ensures.value) in
    let points : sample_points (kept grid c.args.axis (take (slot + 1) slots)) ≡ sample_points old ++ sample_points (option_to_list o) =
    ap sample_points more ∙ map-append (λ (s : Sample). (s.time, s.value)) old (option_to_list o) in
    let Ordered : List (ℤ × ℤ) → Type 0 = λ ps. AreInOrder grid ps in
    let With : Option Sample → Type 0 = λ x. AreInOrder grid (sample_points old ++ sample_points (option_to_list x)) in
    let On : Grid → Type 0 = λ g. AreInOrder g (sample_points old ++ (s.time, s.value) ∷ []) in
    let order = subst Ordered points (kept-in_order grid c.args.axis 0 (take (slot + 1) slots) c.requires.step) in
    (c.points_follow.ensures c.loop-slot.groups (sample_points old) s.time s.value
    (subst On (sym c.loop-slot.invariant.grid) (subst With is order)) c.loop-slot.invariant.gathered).1

pub loop-slot-preserved : goal.loop-slot-preserved
loop-slot-preserved c =
    let grid = c.args.grid in
    let slots = c.args.slots.now in
    let slot = c.loop-slot.slot in
    let o = c.sample_at-sample.result in
    let old = kept grid c.args.axis (take slot slots) in
    let more : kept grid c.args.axis (take (slot + 1) slots) ≡ old ++ option_to_list o =
    kept_more grid c.args.axis slots slot None c.loop-slot-test.true
    ∙ ap (λ x. old ++ option_to_list x) (sym c.sample_at-sample.ensures.value) in
    let points : sample_points (kept grid c.args.axis (take (slot + 1) slots)) ≡ sample_points old ++ sample_points (option_to_list o) =
    ap sample_points more ∙ map-append (λ (s : Sample). (s.time, s.value)) old (option_to_list o) in
    let Gathered : List (ℤ × ℤ) → Type 0 = λ ps. IsGathered ps c.take_in.new.groups in
    record {
      grid = c.in_ok-take_in.ensures.grid ∙ c.loop-slot.invariant.grid;
      gathered = subst Gathered (sym points) (c.in_ok-take_in.ensures.gathered (sample_points old) c.loop-slot.invariant.gathered);
    }

pub returns-clause-rows : goal.returns-clause-rows
returns-clause-rows c =
    let slots = c.args.slots.now in
    let all : take c.loop-slot.slot slots ≡ slots = grind (arith, common_steps) in
    let Of : List (Option ℤ) → Type 0 = λ l. AreRowsOf c.args.grid (sample_points (kept c.args.grid c.args.axis l)) c.rows.result in
    let On : Grid → Type 0 = λ g. AreRowsOf g (sample_points (kept c.args.grid c.args.axis (take c.loop-slot.slot slots))) c.rows.result in
    subst Of all (subst On c.loop-slot.invariant.grid
    (c.rows.ensures.rows (sample_points (kept c.args.grid c.args.axis (take c.loop-slot.slot slots))) c.loop-slot.invariant.gathered))

pub returns-clause-drawable : goal.returns-clause-drawable
returns-clause-drawable c =
    kept-drawable c.args.grid c.args.axis c.args.slots.now c.rows.result c.requires.step c.requires.values (returns-clause-rows c)
