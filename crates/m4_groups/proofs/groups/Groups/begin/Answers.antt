use Rattle.std.proofs.Common.{ℤ, ◌≡◌, ◌≢◌, ◌∙◌, ◌+◌, List, Some, ap, ap₂, sym, subst, SFits, w64, rules}
use Rattle.std.proofs.lemmas.Int.{to_z-of_z}
use Rattle.chart_grid.specs.Projection.{column}
use Rattle.chart_grid.specs.Slots.{border}
use Rattle.m4_groups.specs.declared.row.Row.{Row}
use Rattle.m4_groups.specs.Gathered.{Gathered, with_point}
use Rattle.m4_groups.specs.Folded.{put_last}
use Rattle.m4_groups.specs.Spanned.{last_column}
use Rattle.m4_groups.proofs.Ends.{Owns, owns_new, new_rows}
use Rattle.m4_groups.proofs.groups.Groups.begin.Goals as goal

pub invariant_of-self : goal.invariant_of-self
invariant_of-self c =
    let O : List Row → Type 0 = λ l. Owns c.self.inside.grid l c.self.inside.from c.self.inside.next in
    record { own = subst O (sym c.in_err-push.ensures.items) c.self.invariant.own }

pub invariant_of-self-2 : goal.invariant_of-self-2
invariant_of-self-2 c =
    let g = c.self.inside.grid in
    let time_fits : SFits w64 c.args.t = c.ranges.t in
    let value_fits : SFits w64 c.args.v = c.ranges.v in
    let from_fits : SFits w64 c.border-self-inside.result = search rules in
    let next_fits : SFits w64 c.border-self-inside-2.result = search rules in
    let column_is : c.column_of-column.result ≡ column g c.args.t = simp to_z-of_z at c.column_of-column.ensures.value in
    let N : Gathered → Type 0 = λ s. last_column s.rows ≢ Some (column s.grid c.args.t) in
    record {
      own = owns_new g c.self.inside.rows.items c.push.new.self.items _ _ c.args.t c.args.v
          (to_z-of_z w64 c.border-self-inside.result from_fits ∙ c.border-self-inside.ensures.value ∙ ap (border g) column_is)
          (to_z-of_z w64 c.border-self-inside-2.result next_fits ∙ c.border-self-inside-2.ensures.value
          ∙ ap (λ k. border g (k + 1)) column_is)
          (new_rows c.self.inside.rows.items c.push.new.self.items c.column_of-column.result (column g c.args.t) c.args.v c.of_one.result
          column_is (subst N (sym c.self.view_is) c.requires.other) (simp to_z-of_z at c.of_one.ensures) c.in_ok-push.ensures.items);
    }

pub returns-clause-begun : goal.returns-clause-begun
returns-clause-begun c =
    let g = c.self.inside.grid in
    let time_fits : SFits w64 c.args.t = c.ranges.t in
    let value_fits : SFits w64 c.args.v = c.ranges.v in
    let column_is : c.column_of-column.result ≡ column g c.args.t = simp to_z-of_z at c.column_of-column.ensures.value in
    let N : Gathered → Type 0 = λ s. last_column s.rows ≢ Some (column s.grid c.args.t) in
    let rows_are : c.push.new.self.items ≡ put_last c.self.inside.rows.items (record { x = column g c.args.t; y = c.args.v }) =
    new_rows c.self.inside.rows.items c.push.new.self.items c.column_of-column.result (column g c.args.t) c.args.v c.of_one.result
    column_is (subst N (sym c.self.view_is) c.requires.other) (simp to_z-of_z at c.of_one.ensures) c.in_ok-push.ensures.items in
    let after : List Row → ℤ → Gathered = λ l z. record { grid = g; rows = l; latest = Some z } in
    ap₂ after rows_are (to_z-of_z w64 c.args.t time_fits) ∙ ap (λ s. with_point s c.args.t c.args.v) c.self.view_is
