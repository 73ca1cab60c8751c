-- What is drawn of frames that answer lines is the book's.
use Rattle.std.proofs.Common.{◌≡◌, ◌∙◌, inl, inr, ℕ, List, [], ◌∷◌, ◌++◌, Option, None, Some, IfSome, sym, ap, subst}
use Rattle.std.specs.Prelude.{flat_map, All, map}
use Rattle.std.specs.List.{filter}
use Rattle.std.proofs.lemmas.List.Elements.{All-nil, All-cons, All-append, All-filter}
use Rattle.block_disk.specs.Streams.{sent_after}
use Rattle.block_disk.specs.View.{View}
use Rattle.chart_client.specs.declared.holding.Holding.{Holding}
use Rattle.chart_frames.specs.declared.frame.Frame.{Frame}
use Rattle.chart_frames.specs.Frames.{Fits, spelling}
use Rattle.chart_service.specs.EditGroups.{RepliesToEdits}
use Rattle.chart_service.specs.Serving.{RepliesToAll, told}
use Rattle.chart_service.specs.State.{State, IsSound}
use Rattle.draw_command.specs.Covers.{SendsFrames}
use Rattle.draw_command.specs.Draws.{DrawsAll}
use Rattle.drawn_replies.specs.Laws.{OwnRepliesAreAccepted, OwnRepliesDrawTheBook, RepliesDrawTheBook}
use Rattle.drawn_replies.specs.Mirrors.{mirrored}
use Rattle.drawn_replies.specs.Pictures.{AcceptsAll, ArePictured, AreOwnPictured, NoneRejected, names}
use Rattle.chart_service.specs.Alone.{only}
use Rattle.host_command.specs.Drawn as hosts
use Rattle.host_command.specs.Laws.{HostsDrawTheBook, OwnHostsAreAccepted, OwnHostsDrawTheBook}
use Rattle.hosted_lines.specs.Hosts.{Event, Happens, InRow, answer, group, push, report, sweep}
use Rattle.hosted_lines.specs.Lives as lives
use Rattle.hosted_lines.specs.Lives.{Lives, LivesBy}
use Rattle.hosted_lines.specs.Running.{HostedBy}
use Rattle.line_raster.specs.Canvas.{Canvas}
use Rattle.live_command.specs.Drawn as runs
use Rattle.live_command.specs.Laws.{OwnRunsAreAccepted, OwnRunsDrawTheBook, RunsDrawTheBook}
use Rattle.live_service.specs.LiveReplies.{LiveReplied, LiveState, RepliesTo}
use Rattle.live_service.specs.Showing.{IsFirst}
use Rattle.live_view.specs.Lines.{live_line}
use Rattle.live_view.specs.declared.live_lines.LiveLine.{LiveLine}
use Rattle.live_view.specs.declared.live_lines.LiveLine.TheVariants.{Follow, Unfollow, Bad, Other}
use Rattle.program_words.specs.declared.words.Command.{Command}
use Rattle.program_words.specs.declared.words.Command.TheVariants.{Plot, Load, Demo, Run, Serve, Draw, Init, Check, ListSeries, Export}
use Rattle.program_words.specs.declared.words.Command.TheVariants.{Retain, Cover, Live, Host, Derive}
use Rattle.series_book.specs.declared.edits.Edit.{Edit}
use Rattle.chart_program.specs.Draw.{IsFrames}
use Rattle.chart_program.specs.Ran.{CoversBook, SendsAll}
use Rattle.chart_program.specs.Replies.{AreAnswers, DrawsBook, DrawsReplies, IsOfReplies, SendsSo}
use Rattle.chart_program.proofs.Parsing.{Known, accepted_by, all_drawn, pictured_by}

-- ---- frames that answer lines fit

replies_fit : (lines : List (Option (List ℕ))) (frames : List Frame) (old new : State) → RepliesToAll old lines frames new
    → All Fits frames
replies_fit [] [] old new replied = All-nil Fits
replies_fit [] (f ∷ fs) old new replied = absurd replied
replies_fit (l ∷ ls) [] old new replied = absurd replied
replies_fit (l ∷ ls) (f ∷ fs) old new replied = All-cons Fits f fs replied.1.1 (replies_fit ls fs replied.0 new replied.2)

edits_fit : (edits : List Edit) (frames : List Frame) (old new : State) → RepliesToEdits edits frames old new → All Fits frames
edits_fit [] [] old new replied = All-nil Fits
edits_fit [] (f ∷ fs) old new replied = absurd replied
edits_fit (e ∷ es) [] old new replied = absurd replied
edits_fit (e ∷ es) (f ∷ fs) old new replied = All-cons Fits f fs replied.1.1 (edits_fit es fs replied.0 new replied.2)

asked_fits : (asked : LiveLine) (text : List ℕ) (frame : Frame) (old new : LiveState) → RepliesTo asked text frame old new
    → Fits frame
asked_fits (Follow n) text frame old new replied = replied.fits
asked_fits (Unfollow n) text frame old new replied = replied.fits
asked_fits (Bad at) text frame old new replied = replied.fits
asked_fits Other text frame old new replied = replied.replied.1

line_fits : (line : Option (List ℕ)) (frame : Frame) (old new : LiveState) → LiveReplied line frame old new → Fits frame
line_fits None frame old new replied = replied.replied.1
line_fits (Some text) frame old new replied = asked_fits (live_line text) text frame old new replied

lived_fit : (events : List lives.Event) (frames : List Frame) (old new : LiveState) → Lives old events frames new
    → All Fits frames
lived_fit [] [] old new lived = All-nil Fits
lived_fit [] (f ∷ fs) old new lived = absurd lived
lived_fit (e ∷ es) [] old new lived = absurd lived
lived_fit (lives.answer line ∷ es) (f ∷ fs) old new lived = All-cons Fits f fs (line_fits line f old lived.0 lived.2)
    (lived_fit es fs lived.0 new lived.3)
lived_fit (lives.push ∷ es) (f ∷ fs) old new lived = All-cons Fits f fs lived.1.replied.1 (lived_fit es fs lived.0 new lived.2)

one_fit : (frame : Frame) (first more frames : List Frame) → frames ≡ first ++ more → first ≡ frame ∷ [] → Fits frame
    → All Fits more → All Fits frames
one_fit frame first more frames are is fits later =
    let A : List Frame → Type 0 = λ l. All Fits l in
    subst A (sym (are ∙ ap (λ l. l ++ more) is)) (All-cons Fits frame more fits later)

hosted_fit : (events : List Event) (frames : List Frame) (old new : LiveState) → InRow Happens old events frames new
    → All Fits frames
hosted_fit [] frames old new row = let A : List Frame → Type 0 = λ l. All Fits l in subst A (sym row.0) (All-nil Fits)
hosted_fit (answer line ∷ events) frames old new row =
    let one = row.happens in
    one_fit one.frame row.first row.more frames row.frames_are one.frames_are (line_fits line one.frame old row.between one.replied)
    (hosted_fit events row.more row.between new row.later)
hosted_fit (report line ∷ events) frames old new row =
    let one = row.happens in
    one_fit one.frame row.first row.more frames row.frames_are one.frames_are one.fits
    (hosted_fit events row.more row.between new row.later)
hosted_fit (sweep line ∷ events) frames old new row =
    let one = row.happens in
    one_fit one.frame row.first row.more frames row.frames_are one.frames_are one.replied.1
    (hosted_fit events row.more row.between new row.later)
hosted_fit (group lines ∷ events) frames old new row =
    let one = row.happens in
    let A : List Frame → Type 0 = λ l. All Fits l in
    subst A (sym row.frames_are) (All-append Fits row.first row.more
    (edits_fit one.edits row.first old.state row.between.state one.replied.replied)
    (hosted_fit events row.more row.between new row.later))
hosted_fit (push ∷ events) frames old new row =
    let one = row.happens in
    one_fit one.frame row.first row.more frames row.frames_are one.frames_are one.pushed.replied.1
    (hosted_fit events row.more row.between new row.later)

-- ---- the laws of what clients draw

pub record Draws : Type 0 where
  pub all : RepliesDrawTheBook
  pub own : OwnRepliesDrawTheBook
  pub live : RunsDrawTheBook
  pub own_live : OwnRunsDrawTheBook
  pub host : HostsDrawTheBook
  pub own_host : OwnHostsDrawTheBook

pub record Accepted : Type 0 where
  pub all : (lines : List (Option (List ℕ))) (frames : List Frame) (old new : State) → IsSound old → old.sessions ≡ []
      → RepliesToAll old lines frames new → NoneRejected frames
  pub own : OwnRepliesAreAccepted
  pub live : (lines : List (Option (List ℕ))) (frames : List Frame) (old new : LiveState) → IsSound old.state → IsFirst old
      → LivesBy lines frames old new → NoneRejected frames
  pub own_live : OwnRunsAreAccepted
  pub host : (lines : List (Option (List ℕ))) (frames : List Frame) (old new : LiveState) → IsSound old.state → IsFirst old
      → HostedBy lines frames old new → NoneRejected frames
  pub own_host : OwnHostsAreAccepted

-- ---- what was sent

module _ (k : Known) (input : List ℕ) (before now : Option (List ℕ)) (frames : List Frame) (AreSo : List (Option Canvas) → Type 0) where
  -- drawings that a client makes of the frames, from the first one on, are so
  abbrev Makes : Type 0
  Makes = (drawings : List (Option Canvas)) (holdings : List Holding) → AcceptsAll [] frames drawings holdings → AreSo drawings

  sends_so : (every : Option ℕ) → DrawsAll every input before now → All Fits frames → input ≡ flat_map spelling frames → Makes
      → SendsSo every frames AreSo before now
  sends_so None all fit spelled makes =
      let d = all.2 in
      let S : List Frame → Type 0 = λ fs. SendsFrames None fs d.drawings [] all.1 d.bytes in
      let sends = subst S (all_drawn k None input frames all.0 all.1 before now fit spelled d) d.sends in
      record {
        drawings = d.drawings;
        pictured = makes d.drawings all.1 (accepted_by None frames d.drawings [] all.1 d.bytes sends);
        sent = d.sent ∙ ap (λ l. sent_after l before) (pictured_by frames d.drawings [] all.1 d.bytes sends);
      }
  sends_so (Some every) all fit spelled makes =
      let d = all.2 in
      let S : List Frame → Type 0 = λ fs. SendsFrames (Some every) fs d.drawings [] all.1 d.bytes in
      let sends = subst S (all_drawn k (Some every) input frames all.0 all.1 before now fit spelled d) d.sends in
      record {
        drawings = d.drawings;
        pictured = makes d.drawings all.1 (accepted_by (Some every) frames d.drawings [] all.1 d.bytes sends);
        holdings = all.1;
        bytes = d.bytes;
        sends = sends;
        sent = d.sent;
      }

own_fit : (n : ℕ) (frames : List Frame) → All Fits frames → All Fits (filter (names n) frames)
own_fit n frames fit = All-filter (names n) Fits frames fit

-- of the frames that answer lines the pictures of the book were sent
pub draws_book : Known → Draws → (every : Option ℕ) (input : List ℕ) (before now : Option (List ℕ))
    → DrawsAll every input before now → DrawsBook every input before now
draws_book k draws every input before now all = record {
  all = λ old new lines frames r spelled.
      sends_so k input before now frames (λ ds. ArePictured old lines frames ds new) every all
      (replies_fit lines frames old new r.replied) spelled
      (λ ds h a. (draws.all lines frames ds old new [] h r.sound r.replied (ap (λ ss. map mirrored ss) (sym r.alone)) a).0);
  own = λ n old new lines frames r spelled.
      sends_so k input before now (filter (names n) frames) (λ ds. AreOwnPictured n old lines frames ds new) every all
      (own_fit n frames (replies_fit lines frames old new r.replied)) spelled
      (λ ds h a. (draws.own n lines frames ds old new [] h r.sound r.replied (ap (λ ss. map mirrored (only n ss)) (sym r.alone)) a).0);
  live = λ old new asked frames r spelled.
      sends_so k input before now frames (λ ds. runs.PicturesLines (told asked) frames ds old new) every all
      (lived_fit r.lived.events frames old new r.lived.lived) spelled
      (λ ds h a. (draws.live asked frames ds old new h r.sound r.alone r.lived a).0);
  own_live = λ n old new asked frames r spelled.
      sends_so k input before now (filter (names n) frames) (λ ds. runs.PicturesOwn n (told asked) frames ds old new) every all
      (own_fit n frames (lived_fit r.lived.events frames old new r.lived.lived)) spelled
      (λ ds h a. (draws.own_live n asked frames ds old new h r.sound r.alone r.lived a).0);
  host = λ old new asked frames r spelled.
      sends_so k input before now frames (λ ds. hosts.PicturesLines (told asked) frames ds old new) every all
      (hosted_fit r.hosted.events frames old new r.hosted.happened) spelled
      (λ ds h a. (draws.host asked frames ds old new h r.sound r.alone r.hosted a).0);
  own_host = λ n old new asked frames r spelled.
      sends_so k input before now (filter (names n) frames) (λ ds. hosts.PicturesOwn n (told asked) frames ds old new) every all
      (own_fit n frames (hosted_fit r.hosted.events frames old new r.hosted.happened)) spelled
      (λ ds h a. (draws.own_host n asked frames ds old new h r.sound r.alone r.hosted a).0);
}

-- ---- they are good input

answers_fit : (frames : List Frame) → AreAnswers frames → All Fits frames
answers_fit frames (inl served) = replies_fit served.1 frames served.0 served.2 served.3.replied
answers_fit frames (inr (inl live)) = lived_fit live.3.lived.events frames live.0 live.2 live.3.lived.lived
answers_fit frames (inr (inr host)) = hosted_fit host.3.hosted.events frames host.0 host.2 host.3.hosted.happened

answers_accepted : Accepted → (frames : List Frame) → AreAnswers frames → NoneRejected frames
answers_accepted a frames (inl served) = a.all served.1 frames served.0 served.2 served.3.sound served.3.alone served.3.replied
answers_accepted a frames (inr (inl live)) = a.live (told live.1) frames live.0 live.2 live.3.sound live.3.alone live.3.lived
answers_accepted a frames (inr (inr host)) = a.host (told host.1) frames host.0 host.2 host.3.sound host.3.alone host.3.hosted

own_accepted : Accepted → (n : ℕ) (frames : List Frame) → AreAnswers frames → NoneRejected (filter (names n) frames)
own_accepted a n frames (inl served) = a.own n served.1 frames served.0 served.2 served.3.sound served.3.alone served.3.replied
own_accepted a n frames (inr (inl live)) = a.own_live n (told live.1) frames live.0 live.2 live.3.sound live.3.alone live.3.lived
own_accepted a n frames (inr (inr host)) = a.own_host n (told host.1) frames host.0 host.2 host.3.sound host.3.alone host.3.hosted

pub replies_good : Accepted → (input : List ℕ) → IsOfReplies input → IsFrames input
replies_good a input r =
    let fit = answers_fit r.frames r.answers in
    elim r.spelled [
      | inl whole ↦ record {
        frames = r.frames;
        fit = fit;
        spelled = whole;
        accepted = answers_accepted a r.frames r.answers;
        short = r.short;
      }
      | inr one ↦ record {
        frames = filter (names one.0) r.frames;
        fit = own_fit one.0 r.frames fit;
        spelled = one.1;
        accepted = own_accepted a one.0 r.frames r.answers;
        short = r.short;
      }
    ]

-- ---- by what was told

-- what is drawn of the frames that answer lines is the book's, and they are good input
abbrev pub Book : Type 0
Book = (every : Option ℕ) (input : List ℕ) (before now : Option (List ℕ)) → DrawsAll every input before now
    → DrawsBook every input before now

abbrev pub Good : Type 0
Good = (input : List ℕ) → IsOfReplies input → IsFrames input

pub replies_drawn : Book → (o before now : Option (List ℕ)) → IfSome o (λ input. DrawsAll None input before now)
    → IfSome o (λ input. DrawsReplies input before now)
replies_drawn book None before now all = tt
replies_drawn book (Some input) before now all = book None input before now all

covers_at : Book → (command : Command) (old new : View) (input : List ℕ) (before now : Option (List ℕ))
    → SendsAll command old new input before now → CoversBook command old new input before now
covers_at book (Plot w h) old new input before now all = tt
covers_at book (Load name) old new input before now all = tt
covers_at book (Demo seed rounds) old new input before now all = tt
covers_at book Run old new input before now all = tt
covers_at book Serve old new input before now all = tt
covers_at book Draw old new input before now all = tt
covers_at book Init old new input before now all = tt
covers_at book Check old new input before now all = tt
covers_at book ListSeries old new input before now all = tt
covers_at book (Export name window) old new input before now all = tt
covers_at book Retain old new input before now all = tt
covers_at book Live old new input before now all = tt
covers_at book Host old new input before now all = tt
covers_at book Derive old new input before now all = tt
covers_at book (Cover every) old new input before now all = book (Some every) input before now all

pub covers_book : Book → (command : Command) (old new : View) (o before now : Option (List ℕ))
    → IfSome o (λ input. SendsAll command old new input before now)
    → IfSome o (λ input. CoversBook command old new input before now)
covers_book book command old new None before now all = tt
covers_book book command old new (Some input) before now all = covers_at book command old new input before now all

pub replies_end : Good → (o : Option (List ℕ)) (P : Type 0) → IfSome o (λ input. IsFrames input → P)
    → IfSome o (λ input. IsOfReplies input → P)
replies_end good None P so = tt
replies_end good (Some input) P so = λ r. so (good input r)

-- what holds at all holds where the input is those frames
pub told_good : (o : Option (List ℕ)) (P : Type 0) → P → IfSome o (λ input. IsOfReplies input → P)
told_good None P holds = tt
told_good (Some input) P holds = λ r. holds
