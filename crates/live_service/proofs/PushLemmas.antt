-- Which sessions are followed behind a line, and behind a push.
use Rattle.std.proofs.Common.{◌≡◌, ◌∙◌, ℕ, Bool, true, false, if◌then◌else◌, List, length, Option, None, Some, Result, Ok, Err, refl, sym}
use Rattle.std.proofs.Common.{ap, subst}
use Rattle.std.specs.Prelude.{IfNone, IfSome, nat_lt}
use Rattle.block_disk.specs.declared.streams.Streams.{Ghosts as StreamGhosts}
use Rattle.chart_frames.specs.declared.frame.Frame.{Frame}
use Rattle.chart_service.specs.Kinds.{MayAnswerLine}
use Rattle.chart_service.specs.Replies.{line_text, refused as refused_by}
use Rattle.chart_service.specs.declared.failure.ServiceError.{ServiceError}
use Rattle.gate_pages.specs.declared.pages.Pages.{Ghosts}
use Rattle.live_service.specs.Kinds.{MayAnswerLive}
use Rattle.live_service.specs.Pushing.{followed_after, followed_asked}
use Rattle.live_service.specs.declared.stepper.ServiceStepper.{ServiceStepper}
use Rattle.live_service.proofs.Replying.{short_by}
use Rattle.live_view.specs.Live as follows
use Rattle.live_view.specs.Lines.{live_line}
use Rattle.live_view.specs.Meaning.{meaning_in, meaning_of}
use Rattle.live_view.specs.Replies.{ended, followed_by, follow_reply, still_followed, unfollow_reply}
use Rattle.live_view.specs.declared.live.Live.{Live}
use Rattle.live_view.specs.declared.live_lines.LiveLine.{LiveLine}
use Rattle.live_view.specs.declared.live_lines.LiveLine.TheVariants.{Follow, Unfollow, Bad, Other}
use Rattle.live_view.specs.declared.meaning.Meaning.{Meaning}
use Rattle.live_view.specs.declared.meaning.Meaning.TheVariants.{Other as OtherMeant}
use Rattle.live_view.specs.declared.stepper.Stepper.{Ghosts as StepperGhosts}
use Rattle.request_lines.specs.Requests.{read_line}
use Rattle.series_book.specs.declared.refusals.Refusal.TheVariants.{LineTooLong}
use Rattle.zoom_session.specs.Sessions.{is_open, session_of}

-- a line that asks for a following
own_after : (line : List ℕ) (asked : LiveLine) (frame : Frame) (old new : List ℕ) → live_line line ≡ asked → (Other ≡ asked → ⊥)
    → new ≡ followed_asked asked line frame old
    → new ≡ followed_after (line_text line) frame old
own_after line asked frame old new is other now =
    let L : Option (List ℕ) → Type 0 = λ o. new ≡ followed_after o frame old in
    let A : LiveLine → Type 0 = λ a. new ≡ followed_asked a line frame old in
    subst L (sym (short_by line asked is other)) (subst A (sym is) now)

not_follow : (n : ℕ) → Other ≡ Follow n → ⊥
not_follow n e = cc

not_unfollow : (n : ℕ) → Other ≡ Unfollow n → ⊥
not_unfollow n e = cc

not_bad : (at : ℕ) → Other ≡ Bad at → ⊥
not_bad at e = cc

-- any other line
other_after : (line : List ℕ) (frame : Frame) (old new : List ℕ) (test : Bool) → nat_lt 8192 (length line) ≡ test → live_line line ≡ Other
    → MayAnswerLive (line_text line) frame
    → new ≡ still_followed (ended (meaning_of line) frame) old → new ≡ followed_after (line_text line) frame old
unfolding meaning_of
other_after line frame old new true test asked may now =
    let text : line_text line ≡ None = ap (λ (b : Bool). if b then None else Some line) test in
    let means : meaning_of line ≡ OtherMeant = ap (λ (b : Bool). if b then OtherMeant else meaning_in (read_line line)) test in
    let L : Option (List ℕ) → Type 0 = λ o. new ≡ followed_after o frame old in
    let M : Option (List ℕ) → Type 0 = λ o. MayAnswerLive o frame in
    let refused : frame ≡ refused_by LineTooLong = subst M text may in
    subst L (sym text) (now ∙ ap (λ (m : Meaning). still_followed (ended m frame) old) means
    ∙ ap (λ (f : Frame). still_followed (ended OtherMeant f) old) refused)
other_after line frame old new false test asked may now =
    let text : line_text line ≡ Some line = ap (λ (b : Bool). if b then None else Some line) test in
    let L : Option (List ℕ) → Type 0 = λ o. new ≡ followed_after o frame old in
    let A : LiveLine → Type 0 = λ a. new ≡ followed_asked a line frame old in
    subst L (sym text) (subst A (sym asked) now)

module _ {P : Type 0} {g : Ghosts P} {h : StepperGhosts (ServiceStepper P g) ServiceError} {streams : StreamGhosts (ServiceStepper P g)}
  where
    pub line_after : (asked : LiveLine) (line : List ℕ) (frame : Frame) (old new : Live (ServiceStepper P g) ServiceError h streams)
        → live_line line ≡ asked → MayAnswerLive (line_text line) frame → follows.RepliesTo asked line frame old new
        → follows.followed new ≡ followed_after (line_text line) frame (follows.followed old)
    line_after (Follow n) line frame old new is may r =
        own_after line (Follow n) frame (follows.followed old) (follows.followed new) is (not_follow n) (r.followed_now
        ∙ ap (λ (f : Frame). followed_by f (follows.followed old)) (sym r.is))
    line_after (Unfollow n) line frame old new is may r =
        own_after line (Unfollow n) frame (follows.followed old) (follows.followed new) is (not_unfollow n) (r.followed_now
        ∙ ap (λ (f : Frame). followed_by f (follows.followed old)) (sym r.is))
    line_after (Bad at) line frame old new is may r = own_after line (Bad at) frame (follows.followed old) (follows.followed new) is
        (not_bad at) r.followed_now
    line_after Other line frame old new is may r = other_after line frame (follows.followed old) (follows.followed new)
        (nat_lt 8192 (length line)) refl is may r.followed_now

    pub push_after : (some : Option Frame) (old new : Live (ServiceStepper P g) ServiceError h streams)
        → IfNone some (follows.Stays old new)
        → IfSome some (λ frame. follows.Pushes frame old new)
        → follows.followed new ≡ follows.followed old
    push_after None old new stays pushes = stays.followed_same
    push_after (Some frame) old new stays pushes = pushes.followed_same
