-- Edits that are done together, and the followed sessions that they are pushed to.
use Rattle.std.specs.Prelude.{◌≡◌, ℕ, Bool, false, ◌==◌, ◌||◌, List, [], ◌∷◌, ◌++◌, filter, Option, None, Some}
use Rattle.series_book.specs.declared.edits.Edit.{Edit}
use Rattle.chart_frames.specs.declared.frame.Frame.{Frame}
use Rattle.zoom_session.specs.declared.session.Session.{Session}
use Rattle.zoom_session.specs.declared.view_spec.ViewSpec.{ViewSpec}
use Rattle.zoom_session.specs.Sessions.{session_of, last_of}
use Rattle.live_view.specs.declared.meaning.Meaning.TheVariants.{Edit as EditOf}
use Rattle.live_view.specs.Meaning.{name_of}
use Rattle.live_view.specs.Replies.{Changes}

-- the id is one of these
abbrev pub is_one : ℕ → List (Option ℕ) → Bool
is_one id [] = false
is_one id (None ∷ others) = is_one id others
is_one id (Some other ∷ others) = (id == other) || is_one id others

-- the view is one of a series with one of these ids
abbrev pub shows_one : List (Option ℕ) → Option ViewSpec → Bool
shows_one series None = false
shows_one series (Some view) = is_one view.series series

-- the followed sessions whose last view is one of such a series: those that a frame is pushed to behind edits of them
abbrev pub followers_of : List (Option ℕ) → List Session → List ℕ → List ℕ
followers_of series sessions followed = filter (λ n. shows_one series (last_of (session_of n sessions))) followed

-- Of each edit this is the id of its series where the edit was done, as the frame says that answers it; there is none where
-- it wasn't. Names gives the ids.
abbrev pub AreChanged : (List ℕ → Option ℕ → Type 0) → List Edit → List Frame → List (Option ℕ) → Type 0
AreChanged names [] frames series = series ≡ []
AreChanged names (edit ∷ later) [] series = series ≡ []
AreChanged names (edit ∷ later) (frame ∷ frames) [] = ⊥
AreChanged names (edit ∷ later) (frame ∷ frames) (one ∷ others) =
    Changes names (EditOf (name_of edit)) frame one × AreChanged names later frames others

-- these ids stand behind others
pub record AddsChanged (names : List ℕ → Option ℕ → Type 0) (edits : List Edit) (frames : List Frame)
    (before now : List (Option ℕ)) : Type 0 where
  pub series : List (Option ℕ)
  pub changed : AreChanged names edits frames series
  pub are : now ≡ before ++ series

-- the followed sessions that the edits are pushed to, where they were answered by these frames
pub record ArePushedTo (names : List ℕ → Option ℕ → Type 0) (sessions : List Session) (edits : List Edit) (frames : List Frame)
    (followed pushed : List ℕ) : Type 0 where
  pub series : List (Option ℕ)
  pub changed : AreChanged names edits frames series
  pub pushed_to : pushed ≡ followers_of series sessions followed
