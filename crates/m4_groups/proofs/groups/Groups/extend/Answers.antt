use Rattle.std.proofs.Common.{ℤ, ◌≡◌, ◌∙◌, List, Some, ap, ap₂, sym, subst, SFits, w64}
use Rattle.std.proofs.lemmas.Int.{to_z-of_z}
use Rattle.chart_grid.specs.Projection.{column}
use Rattle.m4_groups.specs.declared.row.Row.{Row}
use Rattle.m4_groups.specs.Gathered.{Gathered, with_point}
use Rattle.m4_groups.specs.Spanned.{last_column}
use Rattle.m4_groups.proofs.Ends.{owns_more}
use Rattle.m4_groups.proofs.groups.Groups.extend.Goals as goal

pub invariant_of-self : goal.invariant_of-self
invariant_of-self c =
    let value_fits : SFits w64 c.args.v = c.ranges.v in
    let L : Gathered → Type 0 = λ s. last_column s.rows ≡ Some (column s.grid c.args.t) in
    let last_is = subst L (sym c.self.view_is) c.requires.own in
    record {
      own = owns_more c.self.inside.grid c.self.inside.rows.items c.extend_last.new.rows.items c.self.inside.from c.self.inside.next
          c.args.t c.args.v
          c.self.invariant.own last_is (simp to_z-of_z at (c.extend_last.ensures (column c.self.inside.grid c.args.t) last_is));
    }

pub returns : goal.returns
returns c =
    let time_fits : SFits w64 c.args.t = c.ranges.t in
    let value_fits : SFits w64 c.args.v = c.ranges.v in
    let L : Gathered → Type 0 = λ s. last_column s.rows ≡ Some (column s.grid c.args.t) in
    let last_is = subst L (sym c.self.view_is) c.requires.own in
    let after : List Row → ℤ → Gathered = λ l z. record { grid = c.self.inside.grid; rows = l; latest = Some z } in
    ap₂ after (simp to_z-of_z at (c.extend_last.ensures (column c.self.inside.grid c.args.t) last_is)) (to_z-of_z w64 c.args.t time_fits)
    ∙ ap (λ s. with_point s c.args.t c.args.v) c.self.view_is
