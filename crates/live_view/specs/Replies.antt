-- The answers to the lines that follow a session and end it, and what other answers mean for those that follow.
use Rattle.std.specs.Prelude.{◌≡◌, ℕ, ◌+◌, ◌*◌, Bool, true, false, ◌==◌, ◌&&◌, nat_lt, is_none, if◌then◌else◌, List, [], filter, Option}
use Rattle.std.specs.Prelude.{None, Some}
use Rattle.series_book.specs.declared.refusals.Refusal.{Refusal}
use Rattle.series_book.specs.declared.refusals.Refusal.TheVariants.{UnknownSession, NoView}
use Rattle.series_book.specs.Refusals.{number_of, pair_of}
use Rattle.series_book.specs.declared.refusal_numbers.TheConstants.{LIVE_TOO_LARGE}
use Rattle.chart_frames.specs.declared.frame.Frame.{Frame}
use Rattle.chart_frames.specs.declared.frame.Frame.TheVariants.{Done, Refused, Opened, Closed, View as ViewOf, Rows, Live, Report}
use Rattle.zoom_session.specs.declared.session.Session.{Session}
use Rattle.zoom_session.specs.declared.view_spec.ViewSpec.{ViewSpec}
use Rattle.zoom_session.specs.Sessions.{session_of, last_of}
use Rattle.live_view.specs.declared.meaning.Meaning.{Meaning}
use Rattle.live_view.specs.declared.meaning.Meaning.TheVariants.{View, Edit, Other}
use Rattle.live_view.specs.Numbers.{with_number, without_number}

-- a refusal
abbrev pub refused : Refusal → Frame
refused refusal = Refused (number_of refusal) (pair_of refusal).0 (pair_of refusal).1

-- The refusal to follow a view that may need so many coefficients, which is more than its cache holds. It has a number
-- of its own, as no request is refused by it.
abbrev pub too_large : ℕ → ℕ → Frame
too_large needed cache = Refused LIVE_TOO_LARGE needed cache

-- the most coefficients that a view of so many columns may need: on each of 35 levels one for each border between
-- columns, and two for each column
abbrev pub live_bound : ℕ → ℕ
live_bound w = (3 * w + 1) * 35

-- a view is too large to be followed: it has no filter, and may need more coefficients than the cache holds
abbrev pub is_too_large : ViewSpec → ℕ → Bool
is_too_large view cache = is_none view.filter && nat_lt cache (live_bound view.grid.w)

-- the answer to `follow n`, by the last view of the session and its cache
abbrev pub follow_view : ℕ → ℕ → Option ViewSpec → Frame
follow_view n cache None = refused NoView
follow_view n cache (Some view) =
    if is_too_large view cache then too_large (live_bound view.grid.w) cache else Live n true

-- the answer to `follow n`, by the session of this number
abbrev pub follow_reply : ℕ → Option Session → Frame
follow_reply n None = refused UnknownSession
follow_reply n (Some session) = follow_view n session.cache.capacity session.last

-- the session is followed where that is asked for, and its last view has no filter
pub record FollowsUnfiltered (session : Session) (view : ViewSpec) : Type 0 where
  pub last : session.last ≡ Some view
  pub unfiltered : view.filter ≡ None
  pub followed : follow_reply session.number (Some session) ≡ Live session.number true

-- the answer to `unfollow n`, by whether the session is open
abbrev pub unfollow_reply : ℕ → Bool → Frame
unfollow_reply n false = refused UnknownSession
unfollow_reply n true = Live n false

-- the followed sessions after such an answer
abbrev pub followed_by : Frame → List ℕ → List ℕ
followed_by (Live n true) followed = with_number n followed
followed_by (Live n false) followed = without_number n followed
followed_by (Done slots) followed = followed
followed_by (Refused number a b) followed = followed
followed_by (Opened session cache) followed = followed
followed_by (Closed session) followed = followed
followed_by (ViewOf view) followed = followed
followed_by (Rows rows) followed = followed
followed_by (Report report) followed = followed

-- the session of an answered view, unless a zoom or a pan was answered, which keep its following
abbrev pub viewed_anew : Meaning → ℕ → Option ℕ
viewed_anew View session = Some session
viewed_anew (Edit name) session = None
viewed_anew Other session = None

-- the session whose following a frame ends that answers a line: the one that was opened or closed, or whose view was answered
abbrev pub ended : Meaning → Frame → Option ℕ
ended meaning (Done slots) = None
ended meaning (Refused number a b) = None
ended meaning (Opened session cache) = Some session
ended meaning (Closed session) = Some session
ended meaning (ViewOf view) = viewed_anew meaning view.session
ended meaning (Rows rows) = viewed_anew meaning rows.session
ended meaning (Live session on) = None
ended meaning (Report report) = None

-- the followed sessions without that one
abbrev pub still_followed : Option ℕ → List ℕ → List ℕ
still_followed None followed = followed
still_followed (Some n) followed = without_number n followed

-- the view is one of the series of this id
abbrev pub shows : ℕ → Option ViewSpec → Bool
shows series None = false
shows series (Some view) = view.series == series

-- the followed sessions whose last view is one of a series: those that a frame is pushed to behind an edit of it
abbrev pub followers : Option ℕ → List Session → List ℕ → List ℕ
followers None sessions followed = []
followers (Some series) sessions followed = filter (λ n. shows series (last_of (session_of n sessions))) followed

-- This is the id of the series whose edit was done by a line, as the frame says that answers it; there is none where no
-- edit was. Names gives the ids.
abbrev pub Changes : (List ℕ → Option ℕ → Type 0) → Meaning → Frame → Option ℕ → Type 0
Changes names View frame series = series ≡ None
Changes names Other frame series = series ≡ None
Changes names (Edit name) (Done slots) series = names name series
Changes names (Edit name) (Refused number a b) series = series ≡ None
Changes names (Edit name) (Opened session cache) series = series ≡ None
Changes names (Edit name) (Closed session) series = series ≡ None
Changes names (Edit name) (ViewOf view) series = series ≡ None
Changes names (Edit name) (Rows rows) series = series ≡ None
Changes names (Edit name) (Live session on) series = series ≡ None
Changes names (Edit name) (Report report) series = series ≡ None
