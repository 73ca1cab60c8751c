-- A client follows the frames of a run that it is sent.
use Rattle.std.proofs.Common.{◌≡◌, ℕ, Bool, List, [], ◌∷◌, map, Option, refl, sym, ap, subst}
use Rattle.std.specs.List.{filter}
use Rattle.line_raster.specs.Canvas.{Canvas}
use Rattle.chart_client.specs.declared.holding.Holding.{Holding}
use Rattle.chart_frames.specs.declared.frame.Frame.{Frame}
use Rattle.chart_service.specs.Alone.{only}
use Rattle.chart_service.specs.Serving.{told}
use Rattle.chart_service.specs.State.{IsSound}
use Rattle.drawn_replies.proofs.Sending.{AllFollow, all_sent, each_follows, follow_one, follows_so, next, none_rejected}
use Rattle.drawn_replies.specs.Mirrors.{IsPictureOf, Mirrors, mirrored}
use Rattle.drawn_replies.specs.Pictures.{AcceptsAll, NoneRejected, names}
use Rattle.drawn_replies.specs.Sent.{Follows, each}
use Rattle.live_command.specs.Drawn.{ArePictured, PicturesLines, PicturesOwn, PicturesSome}
use Rattle.hosted_lines.specs.Lives.{Event, answer, push, Lives, LivesBy, lines_in}
use Rattle.live_service.proofs.FollowLemmas.{AreShort, Following, Laws, answered_well, are_short, first_mirrors, first_well}
use Rattle.live_service.specs.Following.{FollowsWell}
use Rattle.live_service.specs.LiveReplies.{LiveReplied, LiveState, Pushed}
use Rattle.live_service.specs.Showing.{IsFirst, ShowsPush}
use Rattle.zoom_session.specs.declared.session.Session.{Session}

-- what a client does with each frame that it is sent
pub record Client (is_sent : Frame → Bool) (some : List Session → List Session) : Type 0 where
  pub lines : (line : Option (List ℕ)) (frame : Frame) (old new : LiveState) → IsSound old.state → LiveReplied line frame old new
      → Follows is_sent some frame old.state new.state (IsPictureOf old.state new.state frame)
  pub pushes : (frame : Frame) (old new : LiveState) → IsSound old.state → Pushed frame old new
      → Follows is_sent some frame old.state new.state (IsPictureOf old.state new.state frame)

abbrev pub Sound : Type 0
Sound = (line : Option (List ℕ)) (frame : Frame) (old new : LiveState) → IsSound old.state → LiveReplied line frame old new
    → IsSound new.state

-- what holds of lines and pushes, whichever frames a client is sent
pub record Goes : Type 0 where
  pub line_sound : Sound
  pub push_book : (frame : Frame) (old new : LiveState) → Pushed frame old new → new.state.book ≡ old.state.book

all_client : Laws → Client each (λ ss. ss)
all_client laws = record {
  lines = λ line frame old new sound replied.
      each_follows frame old.state new.state (IsPictureOf old.state new.state frame)
      (λ h m. laws.line_draws line frame old new h sound replied m) (λ h m. laws.line_accepts line frame old new h sound replied m);
  pushes = λ frame old new sound pushed.
      each_follows frame old.state new.state (IsPictureOf old.state new.state frame)
      (λ h m. laws.push_draws frame old new h sound pushed m) (λ h m. laws.push_accepts frame old new h sound pushed m);
}

module _ (is_sent : Frame → Bool) (some : List Session → List Session) (client : Client is_sent some) where
  -- ---- the frames of a run

  follows : Goes → Following
      → (events : List Event) (frames : List Frame) (drawings : List (Option Canvas)) (old new : LiveState) (holdings now : List Holding)
      → AreShort (lines_in events) → IsSound old.state → FollowsWell old
      → Lives old events frames new → Mirrors (some old.state.sessions) holdings
      → AcceptsAll holdings (filter is_sent frames) drawings now
      → ArePictured is_sent old events frames drawings new × Mirrors (some new.state.sessions) now
  follows goes f [] [] [] old new holdings now short sound well lived m a =
      let P : LiveState → Type 0 = λ s. Mirrors (some s.state.sessions) now in
      let Q : List Holding → Type 0 = λ h. Mirrors (some old.state.sessions) h in
      ((refl, refl, lived), subst P (sym lived) (subst Q (sym a) m))
  follows goes f [] [] (d ∷ ds) old new holdings now short sound well lived m a = absurd a
  follows goes f [] (x ∷ xs) drawings old new holdings now short sound well lived m a = absurd lived
  follows goes f (e ∷ es) [] drawings old new holdings now short sound well lived m a = absurd lived
  follows goes f (answer line ∷ es) (x ∷ xs) drawings old new holdings now short sound well lived m a =
      let replied = lived.2 in
      let one = next is_sent some x xs old.state lived.0.state (IsPictureOf old.state lived.0.state x) drawings holdings now
      (client.lines line x old lived.0 sound replied) m a in
      let later = follows goes f es xs one.later lived.0 new one.holdings now short.1
      (goes.line_sound line x old lived.0 sound replied)
      (answered_well f line x old lived.0 short.0 well replied) lived.3 one.mirrors one.others in
      ((lived.0, replied, one.drawn, one.later, one.drawings_are, one.is, later.0), later.1)
  follows goes f (push ∷ es) (x ∷ xs) drawings old new holdings now short sound well lived m a =
      let pushed = lived.1 in
      let shown = follows_so is_sent some x old.state lived.0.state (IsPictureOf old.state lived.0.state x)
      (λ d. ShowsPush x d old lived.0) (client.pushes x old lived.0 sound pushed)
      (λ d h after accepted picture. record {
        pushed = pushed;
        shows = f.push_shows x old lived.0 well pushed;
        book = goes.push_book x old lived.0 pushed;
        picture = picture;
      }) in
      let one = next is_sent some x xs old.state lived.0.state (λ d. ShowsPush x d old lived.0) drawings holdings now shown m a in
      let later = follows goes f es xs one.later lived.0 new one.holdings now short pushed.replied.2
      (f.push_well x old lived.0 well pushed) lived.2 one.mirrors one.others in
      ((lived.0, pushed, one.drawn, one.later, one.drawings_are, one.is, later.0), later.1)

  some_drawn : Goes → Following
      → (input : List ℕ) (frames : List Frame) (drawings : List (Option Canvas)) (old new : LiveState) (now : List Holding)
      → IsSound old.state → IsFirst old → Mirrors (some old.state.sessions) []
      → LivesBy (told input) frames old new → AcceptsAll [] (filter is_sent frames) drawings now
      → PicturesSome is_sent (told input) frames drawings old new × Mirrors (some new.state.sessions) now
  some_drawn goes f input frames drawings old new now sound first m by a =
      let A : List (Option (List ℕ)) → Type 0 = λ l. AreShort l in
      let short : AreShort (lines_in by.events) = subst A (sym by.lines_are) (are_short input) in
      let all = follows goes f by.events frames drawings old new [] now short sound (first_well old first) by.lived m a in
      (record { events = by.events; lines_are = by.lines_are; pictured = all.0 }, all.1)

  -- ---- none is rejected

  all_follow : Sound → (events : List Event) (frames : List Frame) (old new : LiveState) → IsSound old.state
      → Lives old events frames new → AllFollow is_sent some old.state frames new.state
  all_follow line_sound [] [] old new sound lived = ap (λ (s : LiveState). s.state) lived
  all_follow line_sound [] (x ∷ xs) old new sound lived = absurd lived
  all_follow line_sound (e ∷ es) [] old new sound lived = absurd lived
  all_follow line_sound (answer line ∷ es) (x ∷ xs) old new sound lived =
      follow_one is_sent some x xs old.state lived.0.state new.state (IsPictureOf old.state lived.0.state x)
      (client.lines line x old lived.0 sound lived.2)
      (all_follow line_sound es xs lived.0 new (line_sound line x old lived.0 sound lived.2) lived.3)
  all_follow line_sound (push ∷ es) (x ∷ xs) old new sound lived =
      follow_one is_sent some x xs old.state lived.0.state new.state (IsPictureOf old.state lived.0.state x)
      (client.pushes x old lived.0 sound lived.1)
      (all_follow line_sound es xs lived.0 new lived.1.replied.2 lived.2)

  some_accepted : Sound → (lines : List (Option (List ℕ))) (frames : List Frame) (old new : LiveState) → IsSound old.state
      → Mirrors (some old.state.sessions) [] → LivesBy lines frames old new → NoneRejected (filter is_sent frames)
  some_accepted line_sound lines frames old new sound m by = λ front behind frame drawings holdings e is a r.
      none_rejected is_sent some frames front behind frame drawings old.state new.state [] holdings e
      (all_follow line_sound by.events frames old new sound by.lived) m is a r

-- ---- all of them, and those of one session

pub runs_drawn : Laws → Following
    → (input : List ℕ) (frames : List Frame) (drawings : List (Option Canvas)) (old new : LiveState) (now : List Holding)
    → IsSound old.state → IsFirst old
    → LivesBy (told input) frames old new → AcceptsAll [] frames drawings now
    → PicturesLines (told input) frames drawings old new × Mirrors new.state.sessions now
runs_drawn laws f input frames drawings old new now sound first by a =
    let A : List Frame → Type 0 = λ l. AcceptsAll [] l drawings now in
    some_drawn each (λ ss. ss) (all_client laws) (record { line_sound = laws.line_sound; push_book = laws.push_book }) f input frames
    drawings old new now sound first (first_mirrors old first) by (subst A (sym (all_sent frames)) a)

pub runs_accepted : Laws → (lines : List (Option (List ℕ))) (frames : List Frame) (old new : LiveState) → IsSound old.state
    → IsFirst old → LivesBy lines frames old new → NoneRejected frames
runs_accepted laws lines frames old new sound first by =
    let N : List Frame → Type 0 = λ l. NoneRejected l in
    subst N (all_sent frames) (some_accepted each (λ ss. ss) (all_client laws) laws.line_sound lines frames old new sound
    (first_mirrors old first) by)

own_first : (n : ℕ) (live : LiveState) → IsFirst live → Mirrors (only n live.state.sessions) []
own_first n live first = ap (λ ss. map mirrored (only n ss)) (sym first.sessions)

pub own_drawn : (n : ℕ) → Client (names n) (only n) → Goes → Following
    → (input : List ℕ) (frames : List Frame) (drawings : List (Option Canvas)) (old new : LiveState) (now : List Holding)
    → IsSound old.state → IsFirst old
    → LivesBy (told input) frames old new → AcceptsAll [] (filter (names n) frames) drawings now
    → PicturesOwn n (told input) frames drawings old new × Mirrors (only n new.state.sessions) now
own_drawn n client goes f input frames drawings old new now sound first by a =
    some_drawn (names n) (only n) client goes f input frames drawings old new now sound first (own_first n old first) by a

pub own_accepted : (n : ℕ) → Client (names n) (only n) → Sound
    → (lines : List (Option (List ℕ))) (frames : List Frame) (old new : LiveState) → IsSound old.state → IsFirst old
    → LivesBy lines frames old new → NoneRejected (filter (names n) frames)
own_accepted n client line_sound lines frames old new sound first by =
    some_accepted (names n) (only n) client line_sound lines frames old new sound (own_first n old first) by
