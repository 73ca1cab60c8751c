use Rattle.std.proofs.Common.{SFits, w64, rules, ◌≡◌, ◌+ℤ◌}
use Rattle.std.specs.Int.{w128}
use Rattle.std.proofs.lemmas.Int.{to_z-of_z}
use Rattle.chart_grid.proofs.Windows.{shown_at, accepted_at, refused_at}
use Rattle.chart_grid.proofs.grid.Grid.pan.Goals as goal

from_is : (c : goal.After-zoom) → c.in-Some.t0 ≡ c.args.self.now.t0 +ℤ c.args.by
from_is c =
    let end_fits : SFits w64 c.args.self.now.t0 = search rules in
    let by_fits : SFits w128 c.args.by = c.ranges.by in
    simp to_z-of_z at c.in-Some.ensures.end

to_is : (c : goal.After-zoom) → c.in-Some-moved.t1 ≡ c.args.self.now.t1 +ℤ c.args.by
to_is c =
    let end_fits : SFits w64 c.args.self.now.t1 = search rules in
    let by_fits : SFits w128 c.args.by = c.ranges.by in
    simp to_z-of_z at c.in-Some-moved.ensures.end

pub returns-clause-shown : goal.returns-clause-shown
returns-clause-shown c =
    let from_fits : SFits w128 c.in-Some.t0 = search rules in
    let to_fits : SFits w128 c.in-Some-moved.t1 = search rules in
    shown_at c.zoom.result _ _ c.in-Some.t0 c.in-Some-moved.t1 _ _ (from_is c) (to_is c) (simp to_z-of_z at c.zoom.ensures.shown)

pub returns-clause-accepted : goal.returns-clause-accepted
returns-clause-accepted c =
    let from_fits : SFits w128 c.in-Some.t0 = search rules in
    let to_fits : SFits w128 c.in-Some-moved.t1 = search rules in
    accepted_at c.zoom.result _ _ c.in-Some.t0 c.in-Some-moved.t1 (from_is c) (to_is c) (simp to_z-of_z at c.zoom.ensures.accepted)

pub returns-clause-window : goal.returns-clause-window
returns-clause-window c =
    let from_fits : SFits w128 c.in-Some.t0 = search rules in
    let to_fits : SFits w128 c.in-Some-moved.t1 = search rules in
    refused_at c.zoom.result _ _ c.in-Some.t0 c.in-Some-moved.t1 (from_is c) (to_is c) (simp to_z-of_z at c.zoom.ensures.window)
