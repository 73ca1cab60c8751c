use Rattle.std.proofs.Common.{◌≤◌, List, SFits, length, sym, subst, w64, rules, arith}
use Rattle.std.proofs.lemmas.Int.{to_z-of_z}
use Rattle.std.specs.Prelude.{Some, All}
use Rattle.om3_coeff.specs.declared.key.Key.{Key}
use Rattle.om3_coeff.specs.declared.coef.Coef.{Coef}
use Rattle.om3_coeff.specs.Coefs.{coef}
use Rattle.m4_groups.specs.declared.row.Row.{Row}
use Rattle.m4_groups.specs.Rows.{AreRising}
use Rattle.view_keys.specs.Needed.{IsNeeded}
use Rattle.view_keys.specs.Wanted.{IsWanted}
use Rattle.view_keys.specs.Listed.{IsListOf}
use Rattle.needed_nodes.specs.Answers.{seen_of, IsEntry, IsShownRow, AreDrawnAs, most_needed, points_of}
use Rattle.needed_nodes.proofs.StepLaws.{err_cause}
use Rattle.needed_nodes.proofs.ExploreLaws.{explores_at, small_keys, sorted_list, sorted_few, sorted_entries}
use Rattle.needed_nodes.proofs.surveying.survey.Goals as goal

pub sort_keys-requires-clause-small : goal.sort_keys-requires-clause-small
sort_keys-requires-clause-small g c = small_keys c.args.axis.slots c.in_ok-explored.explored.keys.items
    c.in_ok-explored.ensures.found.entries

pub returns-clause-told : goal.returns-clause-told
returns-clause-told g c = λ tells.
    let P : List (Key × Coef) → Type 0 = λ es. IsListOf
    (IsWanted (seen_of (g.N.Nodes.view c.args.nodes.now)) c.args.axis c.args.grid c.args.lo c.args.hi)
    (g.N.Nodes.view c.args.nodes.now).told es in
    subst P (sym c.from_vec.ensures)
    (sorted_list (IsWanted (seen_of (g.N.Nodes.view c.args.nodes.now)) c.args.axis c.args.grid c.args.lo c.args.hi)
    (g.N.Nodes.view c.args.nodes.now).told
    c.in_ok-explored.explored.keys.items c.sort_keys.new.keys.items c.in_ok-sort_keys.ensures.same c.in_ok-sort_keys.ensures.order
    ((explores_at (g.N.Nodes.view c.args.nodes.now) c.args.axis c.args.grid _ _ c.args.lo c.args.hi c.in_ok-explored.explored.keys.items
    c.in_ok-explored.explored.rows.items
    (to_z-of_z w64 c.args.lo (search rules)) (to_z-of_z w64 c.args.hi (search rules)) c.in_ok-explored.ensures.found).told tells))

pub returns-clause-list : goal.returns-clause-list
returns-clause-list g c = λ list agrees.
    let P : List (Key × Coef) → Type 0 = λ es. IsListOf (IsNeeded list c.args.axis c.args.grid c.args.lo c.args.hi)
    (λ k. Some (coef list k)) es in
    subst P (sym c.from_vec.ensures)
    (sorted_list (IsNeeded list c.args.axis c.args.grid c.args.lo c.args.hi) (λ k. Some (coef list k))
    c.in_ok-explored.explored.keys.items c.sort_keys.new.keys.items c.in_ok-sort_keys.ensures.same c.in_ok-sort_keys.ensures.order
    ((explores_at (g.N.Nodes.view c.args.nodes.now) c.args.axis c.args.grid _ _ c.args.lo c.args.hi c.in_ok-explored.explored.keys.items
    c.in_ok-explored.explored.rows.items
    (to_z-of_z w64 c.args.lo (search rules)) (to_z-of_z w64 c.args.hi (search rules)) c.in_ok-explored.ensures.found).of_list list agrees))

pub returns-clause-entries : goal.returns-clause-entries
returns-clause-entries g c =
    let P : List (Key × Coef) → Type 0 = λ es. All (IsEntry c.args.axis.slots) es in
    subst P (sym c.from_vec.ensures)
    (sorted_entries c.args.axis.slots c.in_ok-explored.explored.keys.items c.sort_keys.new.keys.items c.in_ok-sort_keys.ensures.same
    c.in_ok-explored.ensures.found.entries)

pub returns-clause-few : goal.returns-clause-few
returns-clause-few g c =
    let P : List (Key × Coef) → Type 0 = λ es. length es ≤ most_needed c.args.grid.w c.args.axis.slots in
    subst P (sym c.from_vec.ensures)
    (sorted_few c.in_ok-explored.explored.keys.items c.sort_keys.new.keys.items
    (most_needed c.args.grid.w c.args.axis.slots) c.in_ok-sort_keys.ensures.same
    c.in_ok-explored.ensures.found.few)

pub returns-clause-rising : goal.returns-clause-rising
returns-clause-rising g c =
    let P : List Row → Type 0 = λ rows. AreRising rows in subst P (sym c.from_vec-2.ensures) c.in_ok-explored.ensures.found.rising

pub returns-clause-shown : goal.returns-clause-shown
returns-clause-shown g c =
    let P : List Row → Type 0 = λ rows. All (IsShownRow c.args.grid.w) rows in
    subst P (sym c.from_vec-2.ensures) c.in_ok-explored.ensures.found.shown

pub explore-requires : goal.explore-requires
explore-requires g c = grind arith

pub returns-in_err-sort_keys : goal.returns-in_err-sort_keys
returns-in_err-sort_keys g c = grind arith

pub returns-clause-rows : goal.returns-clause-rows
returns-clause-rows g c = λ list agrees.
    let P : List Row → Type 0 = λ rows. AreDrawnAs c.args.grid c.args.lo c.args.hi (points_of c.args.axis c.args.grid list) rows in
    subst P (sym c.from_vec-2.ensures)
    ((explores_at (g.N.Nodes.view c.args.nodes.now) c.args.axis c.args.grid _ _ c.args.lo c.args.hi c.in_ok-explored.explored.keys.items
    c.in_ok-explored.explored.rows.items
    (to_z-of_z w64 c.args.lo c.ranges.lo) (to_z-of_z w64 c.args.hi c.ranges.hi) c.in_ok-explored.ensures.found).rows_of_list list agrees)

pub returns-in_err-explored-clause-cause : goal.returns-in_err-explored-clause-cause
returns-in_err-explored-clause-cause g c =
    let lo_fits : SFits w64 c.args.lo = c.ranges.lo in
    let hi_fits : SFits w64 c.args.hi = c.ranges.hi in
    err_cause _ _ c.in_err-explored.field-0.0 c.from_residual.ensures.1 (simp to_z-of_z at c.in_err-explored.ensures.cause)

pub returns-in_err-explored-clause-quiet_err : goal.returns-in_err-explored-clause-quiet_err
returns-in_err-explored-clause-quiet_err g c = err_cause _ _ c.in_err-explored.field-0.0 c.from_residual.ensures.1
    c.in_err-explored.ensures.quiet_err
