-- The laws of followed sessions.
use Rattle.std.specs.Prelude.{◌≡◌, ◌↔◌, ℕ, ℤ, ◌≤◌, List, length, Contains, Option, Some, IsTrue}
use Rattle.chart_grid.specs.declared.axis.Axis.{Axis}
use Rattle.chart_grid.specs.declared.grid.Grid.{Grid}
use Rattle.om3_coeff.specs.declared.key.Key.{Key}
use Rattle.om3_coeff.specs.declared.coef.Coef.{Coef}
use Rattle.zoom_session.specs.declared.session.Session.{Session}
use Rattle.zoom_session.specs.declared.view_spec.ViewSpec.{ViewSpec}
use Rattle.zoom_session.specs.Plans.{AreNeeded}
use Rattle.zoom_session.specs.Sessions.{session_of, last_of}
use Rattle.live_view.specs.Groups.{followers_of, shows_one}
use Rattle.live_view.specs.Replies.{FollowsUnfiltered, followers, shows}

-- An edit of a series is pushed to just the followed sessions whose last view is one of that series.
abbrev pub EditsGoToFollowers : Type 0
EditsGoToFollowers =
    (series n : ℕ) (sessions : List Session) (followed : List ℕ)
    → Contains (followers (Some series) sessions followed) n ↔ (Contains followed n
    × IsTrue (shows series (last_of (session_of n sessions))))

-- Edits of several series are pushed to just the followed sessions whose last view is one of one of them.
abbrev pub GroupsGoToFollowers : Type 0
GroupsGoToFollowers =
    (series : List (Option ℕ)) (n : ℕ) (sessions : List Session) (followed : List ℕ)
    → Contains (followers_of series sessions followed) n ↔ (Contains followed n
    × IsTrue (shows_one series (last_of (session_of n sessions))))

-- Where a session is followed by a view without a filter, no view on as many columns needs more coefficients than its client keeps.
abbrev pub FollowedViewsFit : Type 0
FollowedViewsFit =
    (session : Session) (view : ViewSpec) (list : List (Option ℤ)) (axis : Axis) (grid : Grid) (lo hi : ℤ) (keys : List (Key × Coef))
    → FollowsUnfiltered session view → grid.w ≡ view.grid.w → AreNeeded list axis grid lo hi keys → length keys ≤ session.cache.capacity
