-- A client follows the frames of a host's run that it is sent.
use Rattle.std.proofs.Common.{◌≡◌, ◌∙◌, ℕ, Bool, true, false, List, [], ◌∷◌, ◌++◌, map, Option, None, Some, Result, Ok, Err, refl, sym, ap}
use Rattle.std.proofs.Common.{subst, inl, inr, append_assoc}
use Rattle.std.specs.List.{filter}
use Rattle.std.proofs.lemmas.Bool.{eqb-true}
use Rattle.line_raster.specs.Canvas.{Canvas}
use Rattle.chart_client.specs.Accepting.{Accepts, session_in}
use Rattle.chart_client.specs.declared.holding.Holding.{Holding}
use Rattle.chart_frames.specs.declared.frame.Frame.{Frame}
use Rattle.chart_frames.specs.declared.frame.Frame.TheVariants.{Done, Refused, Opened, Closed, View, Rows, Live, Report}
use Rattle.chart_service.proofs.Standing.{only_open}
use Rattle.chart_service.specs.Alone.{only}
use Rattle.chart_service.specs.EditGroups.{RepliesToEdits}
use Rattle.chart_service.specs.Replies.{Edits, Replies}
use Rattle.chart_service.specs.Serving.{told}
use Rattle.chart_service.specs.State.{IsSound, State}
use Rattle.drawn_replies.proofs.Sending.{AllFollow, all_sent, each_follows, follow_one, follow_then, follows_so, next, none_drawn}
use Rattle.drawn_replies.proofs.Sending.{none_rejected}
use Rattle.drawn_replies.specs.Mirrors.{DrawsTheBook, IsPictureOf, Mirrors, OnlyLacksMemory, mirrored}
use Rattle.drawn_replies.specs.Pictures.{AcceptsAll, IsDrawn, NoneRejected, names}
use Rattle.drawn_replies.specs.Sent.{Follows, FollowsOwn, each}
use Rattle.hosted_lines.specs.Hosts.{Event, Happens, InRow, OneThen, answer, group, lines_in, push, report, sweep}
use Rattle.hosted_lines.specs.Running.{HostedBy}
use Rattle.hosted_lines.proofs.SpelledLemmas.{sound_edits}
use Rattle.live_service.specs.Showing.{IsFirst, ShowsPush}
use Rattle.live_service.proofs.FollowLemmas.{AreShort, Following, Laws, answered_well, are_short, first_mirrors, first_well}
use Rattle.live_service.specs.Following.{FollowsWell}
use Rattle.live_service.specs.LiveReplies.{GroupReplied, LiveReplied, LiveState, Pushed}
use Rattle.request_lines.specs.declared.requests.Request.{Request}
use Rattle.request_lines.specs.declared.requests.Request.TheVariants.{Edit as EditRequest}
use Rattle.series_book.specs.Edits.{Edited, apply}
use Rattle.series_book.specs.declared.edits.Edit.{Edit}
use Rattle.series_book.specs.declared.refusals.Refusal.{Refusal}
use Rattle.host_lines.specs.Grammar.{host_line}
use Rattle.host_lines.specs.declared.asked.HostLine.{HostLine}
use Rattle.host_replies.specs.Replies.{Reported}
use Rattle.host_sweeps.specs.Sweeping.{SweepReplied}
use Rattle.retention.specs.declared.rule.Rule.{Rule}
use Rattle.zoom_session.specs.Sessions.{is_open}
use Rattle.zoom_session.specs.declared.session.Session.{Session}
use Rattle.host_command.specs.Drawn.{ArePictured, PicturesAsked, PicturesEvent, PicturesLines, PicturesOwn, PicturesSome}
use Rattle.host_command.proofs.ReportDrawing.{Orders, report_drawn}

pub record Requests : Type 0 where
  pub draws : (request : Request) (frame : Frame) (old new : State) (holdings : List Holding) → IsSound old
      → Replies request frame old new → Mirrors old.sessions holdings → DrawsTheBook frame old new holdings
  pub accepts : (request : Request) (frame : Frame) (old new : State) (holdings : List Holding) → IsSound old
      → Replies request frame old new → Mirrors old.sessions holdings → OnlyLacksMemory frame holdings
  pub order : Orders

-- the same of a client that is sent the frames of one session alone
pub record OwnFrames : Type 0 where
  pub requests : (n : ℕ) (request : Request) (frame : Frame) (old new : State) → IsSound old → Replies request frame old new
      → FollowsOwn n frame old new
  pub lines : (n : ℕ) (line : Option (List ℕ)) (frame : Frame) (old new : LiveState) → IsSound old.state
      → LiveReplied line frame old new → FollowsOwn n frame old.state new.state
  pub pushes : (n : ℕ) (frame : Frame) (old new : LiveState) → IsSound old.state → Pushed frame old new
      → FollowsOwn n frame old.state new.state
  pub order : Orders

pub record Groups : Type 0 where
  pub well : (edits : List Edit) (frames : List Frame) (old new : LiveState) → FollowsWell old → GroupReplied edits frames old new
      → FollowsWell new
  pub steps_well : (rule : Rule) (frame : Frame) (old new : LiveState) → FollowsWell old → SweepReplied rule frame old new
      → FollowsWell new

-- what holds of the steps of sweeps
pub record Steps : Type 0 where
  pub draws : (rule : Rule) (frame : Frame) (old new : LiveState) (holdings : List Holding) → SweepReplied rule frame old new
      → Mirrors old.state.sessions holdings → DrawsTheBook frame old.state new.state holdings
  pub accepts : (rule : Rule) (frame : Frame) (old new : LiveState) (holdings : List Holding) → SweepReplied rule frame old new
      → OnlyLacksMemory frame holdings

-- what holds of lines and pushes, whichever frames a client is sent
pub record Goes : Type 0 where
  pub line_sound : (line : Option (List ℕ)) (frame : Frame) (old new : LiveState) → IsSound old.state
      → LiveReplied line frame old new → IsSound new.state
  pub push_book : (frame : Frame) (old new : LiveState) → Pushed frame old new → new.state.book ≡ old.state.book

-- what a client does with each frame that it is sent
pub record Client (is_sent : Frame → Bool) (some : List Session → List Session) : Type 0 where
  pub lines : (line : Option (List ℕ)) (frame : Frame) (old new : LiveState) → IsSound old.state → LiveReplied line frame old new
      → Follows is_sent some frame old.state new.state (IsPictureOf old.state new.state frame)
  pub pushes : (frame : Frame) (old new : LiveState) → IsSound old.state → Pushed frame old new
      → Follows is_sent some frame old.state new.state (IsPictureOf old.state new.state frame)
  pub edits : (edit : Edit) (frame : Frame) (old new : State) → IsSound old → Replies (EditRequest edit) frame old new
      → Follows is_sent some frame old new (λ drawing. drawing ≡ None)
  pub steps : (rule : Rule) (frame : Frame) (old new : LiveState) → SweepReplied rule frame old new
      → Follows is_sent some frame old.state new.state (λ drawing. drawing ≡ None)
  pub reports : (asked : HostLine) (frame : Frame) (state : State) → Reported asked frame state
      → Follows is_sent some frame state state (PicturesAsked asked state.book frame)

-- ---- lines that are short

pub short_first : (first later : List (Option (List ℕ))) → AreShort (first ++ later) → AreShort later
short_first [] later short = short
short_first (line ∷ first) later short = short_first first later short.1

-- ---- a client that is sent all frames

-- nothing is drawn of an edit
edit_none : (given : Result Edited Refusal) (frame : Frame) (old new : State) (drawing : Option Canvas) (holdings now : List Holding)
    → Edits given frame old new → Accepts frame drawing holdings now → drawing ≡ None
edit_none (Ok edited) frame old new drawing holdings now replied accepts =
    let A : Frame → Type 0 = λ f. Accepts f drawing holdings now in (subst A replied.0 accepts).0
edit_none (Err refusal) frame old new drawing holdings now replied accepts =
    let A : Frame → Type 0 = λ f. Accepts f drawing holdings now in (subst A replied.reply accepts).0

-- nothing is drawn of the step of a sweep
step_none : (rule : Rule) (frame : Frame) (old new : LiveState) (drawing : Option Canvas) (holdings now : List Holding)
    → SweepReplied rule frame old new → Accepts frame drawing holdings now → drawing ≡ None
step_none rule frame old new drawing holdings now replied accepts =
    let A : Frame → Type 0 = λ f. Accepts f drawing holdings now in
    elim replied.0 [
      | inl refuses ↦ (subst A refuses.frame_is accepts).0
      | inr does ↦ (subst A does.frame_is accepts).0
    ]

all_client : Requests → Laws → Steps → Client each (λ ss. ss)
all_client law laws t = record {
  lines = λ line frame old new sound replied.
      each_follows frame old.state new.state (IsPictureOf old.state new.state frame)
      (λ h m. laws.line_draws line frame old new h sound replied m) (λ h m. laws.line_accepts line frame old new h sound replied m);
  pushes = λ frame old new sound pushed.
      each_follows frame old.state new.state (IsPictureOf old.state new.state frame)
      (λ h m. laws.push_draws frame old new h sound pushed m) (λ h m. laws.push_accepts frame old new h sound pushed m);
  edits = λ edit frame old new sound replied.
      each_follows frame old new (λ d. d ≡ None)
      (λ h m d now a. (
        (law.draws (EditRequest edit) frame old new h sound replied m d now a).0,
        edit_none (apply old.book old.total edit) frame old new d h now replied a,
      ))
      (λ h m. law.accepts (EditRequest edit) frame old new h sound replied m);
  steps = λ rule frame old new replied.
      each_follows frame old.state new.state (λ d. d ≡ None)
      (λ h m d now a. ((t.draws rule frame old new h replied m d now a).0, step_none rule frame old new d h now replied a))
      (λ h m. t.accepts rule frame old new h replied);
  reports = λ asked frame state reported.
      let drawn = report_drawn law.order asked frame state reported in
      each_follows frame state state (PicturesAsked asked state.book frame)
      (λ h m d now a. let t = drawn.takes d h now a in (t.0 ∙ m, t.1))
      (λ h m. drawn.lacks state.sessions h drawn.opened m);
}

-- ---- a client that is sent the frames of one session alone

not_both : (b : Bool) → b ≡ true → b ≡ false → ⊥
not_both b holds fails = cc

-- the frame of a step names no session, and the sessions stay
step_other : (n : ℕ) (rule : Rule) (frame : Frame) (old new : LiveState) → SweepReplied rule frame old new
    → (names n frame ≡ false) × (new.state.sessions ≡ old.state.sessions)
step_other n rule frame old new replied = elim replied.0 [
  | inl refuses ↦ (ap (names n) refuses.frame_is, ap (λ (s : State). s.sessions) refuses.state_same)
  | inr does ↦ (ap (names n) does.frame_is, ap (λ (s : State). s.sessions) does.state_is)
]

own_step : (n : ℕ) (rule : Rule) (frame : Frame) (old new : LiveState) → SweepReplied rule frame old new
    → Follows (names n) (only n) frame old.state new.state (λ drawing. drawing ≡ None)
own_step n rule frame old new replied =
    let other = step_other n rule frame old new replied in
    record {
      draws = λ named h m d now a. absurd (not_both (names n frame) named other.0);
      accepts = λ named h m. absurd (not_both (names n frame) named other.0);
      stays = λ unnamed. ap (only n) other.1;
    }

some_number : {m n : ℕ} → ◌≡◌ {A = Option ℕ} (Some m) (Some n) → m ≡ n
some_number is = cc

no_number : {n : ℕ} → ◌≡◌ {A = Option ℕ} None (Some n) → ⊥
no_number is = cc

no_name : false ≡ true → ⊥
no_name is = cc

-- a frame of the session that needs one needs that one
own_number : (n : ℕ) (frame : Frame) (m : ℕ) → names n frame ≡ true → session_in frame ≡ Some m → m ≡ n
own_number n (Done slots) m named is = absurd (no_name named)
own_number n (Refused number a b) m named is = absurd (no_name named)
own_number n (Opened number size) m named is = absurd (no_number is)
own_number n (Closed number) m named is = sym (some_number is) ∙ eqb-true number n named
own_number n (View view) m named is = sym (some_number is) ∙ eqb-true view.session n named
own_number n (Rows rows) m named is = sym (some_number is) ∙ eqb-true rows.session n named
own_number n (Live number on) m named is = sym (some_number is) ∙ eqb-true number n named
own_number n (Report one) m named is = absurd (no_name named)

own_open : (n : ℕ) (frame : Frame) (m : ℕ) (ss : List Session) → names n frame ≡ true → session_in frame ≡ Some m
    → is_open m ss ≡ true → is_open m (only n ss) ≡ true
own_open n frame m ss named is open_is =
    let same = own_number n frame m named is in
    ap (λ k. is_open k (only n ss)) same ∙ only_open n ss ∙ ap (λ k. is_open k ss) (sym same) ∙ open_is

own_report : Orders → (n : ℕ) (asked : HostLine) (frame : Frame) (state : State) → Reported asked frame state
    → Follows (names n) (only n) frame state state (PicturesAsked asked state.book frame)
own_report order n asked frame state reported =
    let drawn = report_drawn order asked frame state reported in
    record {
      draws = λ named h m d now a. let t = drawn.takes d h now a in (t.0 ∙ m, t.1);
      accepts = λ named h m. drawn.lacks (only n state.sessions) h
          (λ k is. own_open n frame k state.sessions named is (drawn.opened k is)) m;
      stays = λ unnamed. refl;
    }

own_client : OwnFrames → (n : ℕ) → Client (names n) (only n)
own_client own n = record {
  lines = own.lines n;
  pushes = own.pushes n;
  edits = λ edit frame old new sound replied.
      follows_so (names n) (only n) frame old new (IsPictureOf old new frame) (λ d. d ≡ None)
      (own.requests n (EditRequest edit) frame old new sound replied)
      (λ d h now a so. edit_none (apply old.book old.total edit) frame old new d h now replied a);
  steps = own_step n;
  reports = own_report own.order n;
}

-- ---- the frames of a run

module _ (is_sent : Frame → Bool) (some : List Session → List Session) (client : Client is_sent some) (goes : Goes) where
  -- edits were done, and of their frames nothing was drawn
  record EditsDrawn (frames more : List Frame) (drawings : List (Option Canvas)) (new : State) (now : List Holding) : Type 0 where
    pub drawn : List (Option Canvas)
    pub later : List (Option Canvas)
    pub drawings_are : drawings ≡ drawn ++ later
    pub none : drawn ≡ map (λ frame. None) (filter is_sent frames)
    pub holdings : List Holding
    pub mirrors : Mirrors (some new.sessions) holdings
    pub others : AcceptsAll holdings (filter is_sent more) later now

  edits_drawn : (edits : List Edit) (frames more : List Frame) (drawings : List (Option Canvas)) (old new : State)
      (holdings now : List Holding)
      → IsSound old → RepliesToEdits edits frames old new → Mirrors (some old.sessions) holdings
      → AcceptsAll holdings (filter is_sent (frames ++ more)) drawings now → EditsDrawn frames more drawings new now
  edits_drawn [] [] more drawings old new holdings now sound same m a =
      let P : State → Type 0 = λ s. Mirrors (some s.sessions) holdings in
      record {
        drawn = [];
        later = drawings;
        drawings_are = refl;
        none = refl;
        holdings = holdings;
        mirrors = subst P (sym same) m;
        others = a;
      }
  edits_drawn [] (f ∷ fs) more drawings old new holdings now sound replied m a = absurd replied
  edits_drawn (e ∷ es) [] more drawings old new holdings now sound replied m a = absurd replied
  edits_drawn (e ∷ es) (f ∷ fs) more drawings old new holdings now sound replied m a =
      let one = next is_sent some f (fs ++ more) old replied.0 (λ d. d ≡ None) drawings holdings now
      (client.edits e f old replied.0 sound replied.1.0) m a in
      let rest = edits_drawn es fs more one.later replied.0 new one.holdings now replied.1.2 replied.2 one.mirrors one.others in
      record {
        drawn = one.drawn ++ rest.drawn;
        later = rest.later;
        drawings_are = one.drawings_are ∙ ap (λ l. one.drawn ++ l) rest.drawings_are ∙ sym (append_assoc one.drawn rest.drawn rest.later);
        none = none_drawn is_sent some f fs one.drawn rest.drawn one.is rest.none;
        holdings = rest.holdings;
        mirrors = rest.mirrors;
        others = rest.others;
      }

  abbrev Behind : LiveState → List Event → List Frame → LiveState → List Holding → Type 0
  Behind between events more new now =
      (rest : List (Option Canvas)) (h : List Holding) → Mirrors (some between.state.sessions) h
      → AcceptsAll h (filter is_sent more) rest now
      → ArePictured is_sent between events more rest new × Mirrors (some new.state.sessions) now

  -- an event of one frame, and those behind it
  one_then : (event : Event) (events : List Event) (frames : List Frame) (drawings : List (Option Canvas)) (old new : LiveState)
      (holdings now : List Holding) (frame : Frame) (IsSo : Option Canvas → Type 0)
      → (row : OneThen (Happens event) (λ between more. InRow Happens between events more new) old frames)
      → row.first ≡ frame ∷ []
      → Follows is_sent some frame old.state row.between.state IsSo
      → ((drawn : List (Option Canvas)) → IsDrawn (is_sent frame) IsSo drawn → PicturesEvent is_sent event row.first drawn old row.between)
      → Behind row.between events row.more new now → Mirrors (some old.state.sessions) holdings
      → AcceptsAll holdings (filter is_sent frames) drawings now
      → ArePictured is_sent old (event ∷ events) frames drawings new × Mirrors (some new.state.sessions) now
  one_then event events frames drawings old new holdings now frame IsSo row first_is follows pictures behind m a =
      let A : List Frame → Type 0 = λ l. AcceptsAll holdings (filter is_sent l) drawings now in
      let one = next is_sent some frame row.more old.state row.between.state IsSo drawings holdings now follows m
      (subst A (row.frames_are ∙ ap (λ l. l ++ row.more) first_is) a) in
      let later = behind one.later one.holdings one.mirrors one.others in (
        record {
          first = row.first;
          drawn = one.drawn;
          between = row.between;
          pictured = pictures one.drawn one.is;
          more = row.more;
          more_drawn = one.later;
          later = later.0;
          frames_are = row.frames_are;
          drawings_are = one.drawings_are;
        },
        later.1,
      )

  no_frame : (frame : Frame) (frames : List Frame) → frame ∷ frames ≡ [] → ⊥
  no_frame frame frames is = cc

  none_left : (frames : List Frame) (drawings : List (Option Canvas)) (old new : LiveState) (holdings now : List Holding)
      → frames ≡ [] → new ≡ old → Mirrors (some old.state.sessions) holdings
      → AcceptsAll holdings (filter is_sent frames) drawings now
      → ArePictured is_sent old [] frames drawings new × Mirrors (some new.state.sessions) now
  none_left [] [] old new holdings now none same m a =
      let P : LiveState → Type 0 = λ s. Mirrors (some s.state.sessions) now in
      let Q : List Holding → Type 0 = λ h. Mirrors (some old.state.sessions) h in
      ((refl, refl, same), subst P (sym same) (subst Q (sym a) m))
  none_left [] (d ∷ ds) old new holdings now none same m a = absurd a
  none_left (x ∷ xs) drawings old new holdings now none same m a = absurd (no_frame x xs none)

  follows : Following → Groups
      → (events : List Event) (frames : List Frame) (drawings : List (Option Canvas)) (old new : LiveState) (holdings now : List Holding)
      → AreShort (lines_in events) → IsSound old.state → FollowsWell old
      → InRow Happens old events frames new → Mirrors (some old.state.sessions) holdings
      → AcceptsAll holdings (filter is_sent frames) drawings now
      → ArePictured is_sent old events frames drawings new × Mirrors (some new.state.sessions) now
  follows f g [] frames drawings old new holdings now short sound well row m a = none_left frames drawings old new holdings now row.0 row.1
      m a
  follows f g (answer line ∷ events) frames drawings old new holdings now short sound well row m a =
      let one = row.happens in
      one_then (answer line) events frames drawings old new holdings now one.frame
      (IsPictureOf old.state row.between.state one.frame) row one.frames_are
      (client.lines line one.frame old row.between sound one.replied)
      (λ drawn is. record { frame = one.frame; frames_are = one.frames_are; replied = one.replied; drawn = is })
      (λ rest h mirrors accepted.
      follows f g events row.more rest row.between new h now short.1 (goes.line_sound line one.frame old row.between sound one.replied)
      (answered_well f line one.frame old row.between short.0 well one.replied) row.later mirrors accepted)
      m a
  follows f g (report line ∷ events) frames drawings old new holdings now short sound well row m a =
      let one = row.happens in
      let S : LiveState → Type 0 = λ s. IsSound s.state in
      let W : LiveState → Type 0 = λ s. FollowsWell s in
      let F : LiveState → Type 0 = λ s. Follows is_sent some one.frame old.state s.state
      (PicturesAsked (host_line line) old.state.book one.frame) in
      one_then (report line) events frames drawings old new holdings now one.frame
      (PicturesAsked (host_line line) old.state.book one.frame) row one.frames_are
      (subst F (sym one.same) (client.reports (host_line line) one.frame old.state one.reported))
      (λ drawn is. record { frame = one.frame; frames_are = one.frames_are; reported = one.reported; drawn = is; same = one.same })
      (λ rest h mirrors accepted.
      follows f g events row.more rest row.between new h now short.1 (subst S (sym one.same) sound)
      (subst W (sym one.same) well) row.later mirrors accepted)
      m a
  follows f g (sweep line ∷ events) frames drawings old new holdings now short sound well row m a =
      let one = row.happens in
      one_then (sweep line) events frames drawings old new holdings now one.frame (λ d. d ≡ None) row one.frames_are
      (client.steps one.rule one.frame old row.between one.replied)
      (λ drawn is. record { does = one; none = is })
      (λ rest h mirrors accepted.
      follows f g events row.more rest row.between new h now short.1 one.replied.2
      (g.steps_well one.rule one.frame old row.between well one.replied) row.later mirrors accepted)
      m a
  follows f g (group lines ∷ events) frames drawings old new holdings now short sound well row m a =
      let one = row.happens in
      let A : List Frame → Type 0 = λ l. AcceptsAll holdings (filter is_sent l) drawings now in
      let e = edits_drawn one.edits row.first row.more drawings old.state row.between.state holdings now sound one.replied.replied m
      (subst A row.frames_are a) in
      let later = follows f g events row.more e.later row.between new e.holdings now (short_first lines (lines_in events) short)
      (sound_edits one.edits row.first old.state row.between.state one.replied.replied sound)
      (g.well one.edits row.first old row.between well one.replied) row.later e.mirrors e.others in (
        record {
          first = row.first;
          drawn = e.drawn;
          between = row.between;
          pictured = record { does = one; none = e.none };
          more = row.more;
          more_drawn = e.later;
          later = later.0;
          frames_are = row.frames_are;
          drawings_are = e.drawings_are;
        },
        later.1,
      )
  follows f g (push ∷ events) frames drawings old new holdings now short sound well row m a =
      let one = row.happens in
      let shown = follows_so is_sent some one.frame old.state row.between.state (IsPictureOf old.state row.between.state one.frame)
      (λ d. ShowsPush one.frame d old row.between) (client.pushes one.frame old row.between sound one.pushed)
      (λ d h now' accepted picture. record {
        pushed = one.pushed;
        shows = f.push_shows one.frame old row.between well one.pushed;
        book = goes.push_book one.frame old row.between one.pushed;
        picture = picture;
      }) in
      one_then push events frames drawings old new holdings now one.frame
      (λ d. ShowsPush one.frame d old row.between) row one.frames_are shown
      (λ drawn is. record { frame = one.frame; frames_are = one.frames_are; pushed = one.pushed; drawn = is })
      (λ rest h mirrors accepted.
      follows f g events row.more rest row.between new h now short one.pushed.replied.2
      (f.push_well one.frame old row.between well one.pushed) row.later mirrors accepted)
      m a

  some_drawn : Following → Groups
      → (input : List ℕ) (frames : List Frame) (drawings : List (Option Canvas)) (old new : LiveState) (now : List Holding)
      → IsSound old.state → IsFirst old → Mirrors (some old.state.sessions) []
      → HostedBy (told input) frames old new → AcceptsAll [] (filter is_sent frames) drawings now
      → PicturesSome is_sent (told input) frames drawings old new × Mirrors (some new.state.sessions) now
  some_drawn f g input frames drawings old new now sound first m by a =
      let A : List (Option (List ℕ)) → Type 0 = λ l. AreShort l in
      let short : AreShort (lines_in by.events) = subst A (sym by.lines_are) (are_short input) in
      let all = follows f g by.events frames drawings old new [] now short sound (first_well old first) by.happened m a in
      (record { events = by.events; lines_are = by.lines_are; pictured = all.0 }, all.1)

  -- ---- none is rejected

  edits_follow : (edits : List Edit) (frames : List Frame) (old new : State) → IsSound old → RepliesToEdits edits frames old new
      → AllFollow is_sent some old frames new
  edits_follow [] [] old new sound same = same
  edits_follow [] (f ∷ fs) old new sound replied = absurd replied
  edits_follow (e ∷ es) [] old new sound replied = absurd replied
  edits_follow (e ∷ es) (f ∷ fs) old new sound replied =
      follow_one is_sent some f fs old replied.0 new (λ d. d ≡ None) (client.edits e f old replied.0 sound replied.1.0)
      (edits_follow es fs replied.0 new replied.1.2 replied.2)

  -- an event of one frame
  one_follows : (event : Event) (events : List Event) (frames : List Frame) (old new : LiveState) (frame : Frame) (IsSo : Option Canvas
      → Type 0)
      → (row : OneThen (Happens event) (λ between more. InRow Happens between events more new) old frames)
      → row.first ≡ frame ∷ []
      → Follows is_sent some frame old.state row.between.state IsSo → AllFollow is_sent some row.between.state row.more new.state
      → AllFollow is_sent some old.state frames new.state
  one_follows event events frames old new frame IsSo row first_is one later =
      let F : List Frame → Type 0 = λ l. AllFollow is_sent some old.state l new.state in
      subst F (sym (row.frames_are ∙ ap (λ l. l ++ row.more) first_is))
      (follow_one is_sent some frame row.more old.state row.between.state new.state IsSo one later)

  all_follow : (events : List Event) (frames : List Frame) (old new : LiveState) → IsSound old.state
      → InRow Happens old events frames new → AllFollow is_sent some old.state frames new.state
  all_follow [] frames old new sound row =
      let F : List Frame → Type 0 = λ l. AllFollow is_sent some old.state l new.state in
      subst F (sym row.0) (ap (λ (s : LiveState). s.state) row.1)
  all_follow (answer line ∷ events) frames old new sound row =
      let one = row.happens in
      one_follows (answer line) events frames old new one.frame
      (IsPictureOf old.state row.between.state one.frame) row one.frames_are
      (client.lines line one.frame old row.between sound one.replied)
      (all_follow events row.more row.between new (goes.line_sound line one.frame old row.between sound one.replied) row.later)
  all_follow (report line ∷ events) frames old new sound row =
      let one = row.happens in
      let S : LiveState → Type 0 = λ s. IsSound s.state in
      let F : LiveState → Type 0 = λ s. Follows is_sent some one.frame old.state s.state
      (PicturesAsked (host_line line) old.state.book one.frame) in
      one_follows (report line) events frames old new one.frame
      (PicturesAsked (host_line line) old.state.book one.frame) row one.frames_are
      (subst F (sym one.same) (client.reports (host_line line) one.frame old.state one.reported))
      (all_follow events row.more row.between new (subst S (sym one.same) sound) row.later)
  all_follow (sweep line ∷ events) frames old new sound row =
      let one = row.happens in
      one_follows (sweep line) events frames old new one.frame (λ d. d ≡ None) row one.frames_are
      (client.steps one.rule one.frame old row.between one.replied)
      (all_follow events row.more row.between new one.replied.2 row.later)
  all_follow (group lines ∷ events) frames old new sound row =
      let one = row.happens in
      let F : List Frame → Type 0 = λ l. AllFollow is_sent some old.state l new.state in
      let later = all_follow events row.more row.between new
      (sound_edits one.edits row.first old.state row.between.state one.replied.replied sound) row.later in
      subst F (sym row.frames_are)
      (follow_then is_sent some old.state row.between.state new.state row.first row.more
      (edits_follow one.edits row.first old.state row.between.state sound one.replied.replied) later)
  all_follow (push ∷ events) frames old new sound row =
      let one = row.happens in
      one_follows push events frames old new one.frame (IsPictureOf old.state row.between.state one.frame) row one.frames_are
      (client.pushes one.frame old row.between sound one.pushed)
      (all_follow events row.more row.between new one.pushed.replied.2 row.later)

  some_accepted : (lines : List (Option (List ℕ))) (frames : List Frame) (old new : LiveState) → IsSound old.state
      → Mirrors (some old.state.sessions) [] → HostedBy lines frames old new → NoneRejected (filter is_sent frames)
  some_accepted lines frames old new sound m by = λ front behind frame drawings holdings e is a r.
      none_rejected is_sent some frames front behind frame drawings old.state new.state [] holdings e
      (all_follow by.events frames old new sound by.happened) m is a r

-- ---- all of them, and those of one session

goes_by : Laws → Goes
goes_by laws = record { line_sound = laws.line_sound; push_book = laws.push_book }

pub hosts_drawn : Requests → Laws → Following → Groups → Steps
    → (input : List ℕ) (frames : List Frame) (drawings : List (Option Canvas)) (old new : LiveState) (now : List Holding)
    → IsSound old.state → IsFirst old
    → HostedBy (told input) frames old new → AcceptsAll [] frames drawings now
    → PicturesLines (told input) frames drawings old new × Mirrors new.state.sessions now
hosts_drawn law laws f g t input frames drawings old new now sound first by a =
    let A : List Frame → Type 0 = λ l. AcceptsAll [] l drawings now in
    some_drawn each (λ ss. ss) (all_client law laws t) (goes_by laws) f g input frames drawings old new now sound first
    (first_mirrors old first) by (subst A (sym (all_sent frames)) a)

pub hosts_accepted : Requests → Laws → Steps → (lines : List (Option (List ℕ))) (frames : List Frame) (old new : LiveState)
    → IsSound old.state → IsFirst old → HostedBy lines frames old new → NoneRejected frames
hosts_accepted law laws t lines frames old new sound first by =
    let N : List Frame → Type 0 = λ l. NoneRejected l in
    subst N (all_sent frames) (some_accepted each (λ ss. ss) (all_client law laws t) (goes_by laws) lines frames old new sound
    (first_mirrors old first) by)

own_first : (n : ℕ) (live : LiveState) → IsFirst live → Mirrors (only n live.state.sessions) []
own_first n live first = ap (λ ss. map mirrored (only n ss)) (sym first.sessions)

pub own_drawn : OwnFrames → Goes → Following → Groups
    → (n : ℕ) (input : List ℕ) (frames : List Frame) (drawings : List (Option Canvas)) (old new : LiveState) (now : List Holding)
    → IsSound old.state → IsFirst old
    → HostedBy (told input) frames old new → AcceptsAll [] (filter (names n) frames) drawings now
    → PicturesOwn n (told input) frames drawings old new × Mirrors (only n new.state.sessions) now
own_drawn own goes f g n input frames drawings old new now sound first by a =
    some_drawn (names n) (only n) (own_client own n) goes f g input frames drawings old new now sound first (own_first n old first) by a

pub own_accepted : OwnFrames → Goes → (n : ℕ) (lines : List (Option (List ℕ))) (frames : List Frame) (old new : LiveState)
    → IsSound old.state → IsFirst old → HostedBy lines frames old new → NoneRejected (filter (names n) frames)
own_accepted own goes n lines frames old new sound first by =
    some_accepted (names n) (only n) (own_client own n) goes lines frames old new sound (own_first n old first) by
