-- Of what a service holds there is one proof.
use Rattle.std.specs.Prelude.{ℕ, List, Option, None, Some}
use Rattle.std.proofs.Common.{refl, ◌∙◌}
use Rattle.std.proofs.Props.{props}
use Rattle.zoom_session.specs.declared.session.Session.{Session}
use Rattle.zoom_session.specs.declared.view_spec.ViewSpec.{ViewSpec}
use Rattle.zoom_session.specs.declared.view_spec.RangeSpec.{RangeSpec}
use Rattle.zoom_session.specs.declared.view_spec.RangeSpec.TheVariants.{Auto, Fixed}
use Rattle.zoom_session.specs.Views.{IsRangeSpec}
use Rattle.chart_service.specs.Holding.{HasViewIn, AreViewsIn, KeepsSessions}

range_prop : (range : RangeSpec) → IsProp (IsRangeSpec range)
range_prop Auto = hlevel props
range_prop (Fixed lo hi) = hlevel props

view_prop : (count : ℕ) (last : Option ViewSpec) → IsProp (HasViewIn count last)
view_prop count None = hlevel props
view_prop count (Some spec) = hlevel (props, range_prop)

pub views_prop : (count : ℕ) (sessions : List Session) → IsProp (AreViewsIn count sessions)
views_prop count sessions = hlevel (props, view_prop)

pub sessions_none : (store : Type 0) (at : List Session) → store → KeepsSessions store at at
sessions_none store at is = record { store_is = is; sessions = refl }

pub sessions_then : (one two both : Type 0) (old between new : List Session) → (one → two → both) → KeepsSessions one old between
    → KeepsSessions two between new → KeepsSessions both old new
sessions_then one two both old between new join first second = record {
  store_is = join first.store_is second.store_is;
  sessions = second.sessions ∙ first.sessions;
}

pub sessions_so : (one two : Type 0) (old new : List Session) → (one → two) → KeepsSessions one old new → KeepsSessions two old new
sessions_so one two old new more kept = record { store_is = more kept.store_is; sessions = kept.sessions }
