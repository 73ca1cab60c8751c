-- What live views answer, and how they change, over the relations of what answers their lines.
use Rattle.std.specs.Prelude.{ℕ, ◌≡◌, List, [], ◌∷◌, Contains, Option, Result, Ok, Err, refl}
use Rattle.std.proofs.Common.{◌∙◌}
use Rattle.block_disk.specs.declared.streams.Streams.{Ghosts as StreamGhosts}
use Rattle.series_book.specs.declared.edits.Edit.{Edit}
use Rattle.series_book.specs.declared.refusals.Refusal.TheVariants.{BadLine}
use Rattle.chart_frames.specs.declared.frame.Frame.{Frame}
use Rattle.zoom_session.specs.declared.session.Session.{Session}
use Rattle.zoom_session.specs.Sessions.{is_open, session_of}
use Rattle.live_view.specs.declared.errors.LiveFault.{LiveFault}
use Rattle.live_view.specs.declared.errors.LiveFault.TheVariants.{Stepper, NoMemory}
use Rattle.live_view.specs.declared.live.Live.{Live}
use Rattle.live_view.specs.declared.live_lines.LiveLine.{LiveLine}
use Rattle.live_view.specs.declared.live_lines.LiveLine.TheVariants.{Follow, Unfollow, Bad, Other}
use Rattle.live_view.specs.declared.stepper.Stepper.{Ghosts}
use Rattle.live_view.specs.Groups.{ArePushedTo}
use Rattle.live_view.specs.Lines.{live_line}
use Rattle.live_view.specs.Meaning.{meaning_of}
use Rattle.live_view.specs.Replies.{refused, follow_reply, unfollow_reply, followed_by, ended, still_followed, followers, Changes}
use Rattle.live_view.specs.Sessions.{open_among, viewed_among}

module _ {S F : Type 0} {g : Ghosts S F} {streams : StreamGhosts S} where
  -- what answers other lines
  abbrev pub stepper : Live S F g streams → S
  stepper it = it.stepper

  -- the sessions that are open
  abbrev pub sessions : Live S F g streams → List Session
  sessions it = g.sessions it.stepper

  -- the numbers of the followed sessions, in rising order
  abbrev pub followed : Live S F g streams → List ℕ
  followed it = it.followed.items

  -- the numbers of the sessions that a frame is still to be pushed to, in rising order
  abbrev pub pending : Live S F g streams → List ℕ
  pending it = it.pending.items

  -- no push is pending
  abbrev pub IsIdle : Live S F g streams → Type 0
  IsIdle it = pending it ≡ []

  -- all stays
  pub record Stays (old new : Live S F g streams) : Type 0 where
    pub stepper : new.stepper ≡ old.stepper
    pub followed_same : followed new ≡ followed old
    pub pending_same : pending new ≡ pending old

  -- Live itself answers, and what answers other lines stays
  pub record AnswersItself (reply answer : Frame) (old new : Live S F g streams) : Type 0 where
    pub is : answer ≡ reply
    pub stepper : new.stepper ≡ old.stepper
    pub followed_now : followed new ≡ followed_by reply (followed old)
    pub idle : IsIdle new

  -- The reply is the frame that answers the line. Its following is ended where the frame ends one, and where the line
  -- is an edit that was done, a push is pending for each session that follows its series.
  pub record PassesOn (line : List ℕ) (frame : Frame) (old new : Live S F g streams) : Type 0 where
    pub reply : g.replies old.stepper line (Ok frame) new.stepper
    pub followed_now : followed new ≡ still_followed (ended (meaning_of line) frame) (followed old)
    pub series : Option ℕ
    pub changes : Changes (g.names new.stepper) (meaning_of line) frame series
    pub pending_now : pending new ≡ followers series (sessions new) (followed old)

  -- the reply by what the line asks of live views
  abbrev pub RepliesTo : LiveLine → List ℕ → Frame → Live S F g streams → Live S F g streams → Type 0
  RepliesTo (Follow n) line answer old new = AnswersItself (follow_reply n (session_of n (sessions old))) answer old new
  RepliesTo (Unfollow n) line answer old new = AnswersItself (unfollow_reply n (is_open n (sessions old))) answer old new
  RepliesTo (Bad at) line answer old new = AnswersItself (refused (BadLine at)) answer old new
  RepliesTo Other line answer old new = PassesOn line answer old new

  -- the reply to a line
  abbrev pub Replies : List ℕ → Frame → Live S F g streams → Live S F g streams → Type 0
  Replies line answer old new = RepliesTo (live_line line) line answer old new

  -- what answers other lines failed at this one; sessions that it closed aren't followed any more
  pub record FailsAt (line : List ℕ) (fault : F) (old new : Live S F g streams) : Type 0 where
    pub other : live_line line ≡ Other
    pub failed : g.replies old.stepper line (Err fault) new.stepper
    pub followed_now : followed new ≡ open_among (sessions new) (followed old)
    pub idle : IsIdle new

  -- why a line isn't answered, and what that leaves
  abbrev pub Fails : List ℕ → LiveFault F → Live S F g streams → Live S F g streams → Type 0
  Fails line (Stepper fault) old new = FailsAt line fault old new
  Fails line NoMemory old new = Stays old new

  -- Edits are done together, each answered by its frame. A push is pending then for each session that follows a series of
  -- which one was done.
  pub record DoesEdits (edits : List Edit) (frames : List Frame) (old new : Live S F g streams) : Type 0 where
    pub done : g.does_edits old.stepper edits frames new.stepper
    pub followed_same : followed new ≡ followed old
    pub pushed_to : ArePushedTo (g.names new.stepper) (sessions new) edits frames (followed old) (pending new)

  -- what does the edits failed at them; no push is pending
  pub record FailsAtEdits (edits : List Edit) (fault : F) (old new : Live S F g streams) : Type 0 where
    pub failed : g.fails_edits old.stepper edits fault new.stepper
    pub followed_same : followed new ≡ followed old
    pub idle : IsIdle new

  -- they are done, but there was no memory to tell whom to push to; no push is pending
  pub record DoesUntold (edits : List Edit) (old new : Live S F g streams) : Type 0 where
    pub frames : List Frame
    pub done : g.does_edits old.stepper edits frames new.stepper
    pub fit : g.fit new.stepper
    pub followed_same : followed new ≡ followed old
    pub idle : IsIdle new

  -- why edits aren't answered, and what that leaves
  abbrev pub EditsFail : List Edit → LiveFault F → Live S F g streams → Live S F g streams → Type 0
  EditsFail edits (Stepper fault) old new = FailsAtEdits edits fault old new
  EditsFail edits NoMemory old new = DoesUntold edits old new

  -- the first pending push is made, with this answer of a repeat of its session
  pub record Repeats (answer : Result Frame F) (old new : Live S F g streams) : Type 0 where
    pub session : ℕ
    pub first : pending old ≡ session ∷ pending new
    pub repeat : g.repeats old.stepper session answer new.stepper

  -- it is made, and the same sessions are followed
  pub record Pushes (frame : Frame) (old new : Live S F g streams) : Type 0 where
    pub repeated : Repeats (Ok frame) old new
    pub followed_same : followed new ≡ followed old

  -- it failed, in a session that was followed; sessions that were closed by it aren't followed any more
  pub record FailsToPush (fault : F) (old new : Live S F g streams) : Type 0 where
    pub repeated : Repeats (Err fault) old new
    pub among : Contains (followed old) repeated.session
    pub followed_now : followed new ≡ open_among (sessions new) (followed old)

  -- why a push isn't made: only what answers other lines fails
  abbrev pub PushFails : LiveFault F → Live S F g streams → Live S F g streams → Type 0
  PushFails (Stepper fault) old new = FailsToPush fault old new
  PushFails NoMemory old new = ⊥

  -- a push is pending for each session that follows the series of a name, and all else stays
  pub record PushesTo (name : List ℕ) (old new : Live S F g streams) : Type 0 where
    pub stepper : new.stepper ≡ old.stepper
    pub followed_same : followed new ≡ followed old
    pub series : Option ℕ
    pub named : g.names new.stepper name series
    pub pending_now : pending new ≡ followers series (sessions new) (followed old)

  -- a push is pending for each session that is followed and has had a view, and all else stays
  pub record PushesToAll (old new : Live S F g streams) : Type 0 where
    pub stepper : new.stepper ≡ old.stepper
    pub followed_same : followed new ≡ followed old
    pub pending_now : pending new ≡ viewed_among (sessions new) (followed old)

  -- what answers the lines changes so, and all else stays
  pub record Keeps (so : Type 0) (old new : Live S F g streams) : Type 0 where
    pub changed : so
    pub followed_same : followed new ≡ followed old
    pub pending_same : pending new ≡ pending old

  pub keeps_none : {so : Type 0} (at : Live S F g streams) → so → Keeps so at at
  keeps_none at are = record { changed = are; followed_same = refl; pending_same = refl }

  pub keeps_then : {one two both : Type 0} (old between new : Live S F g streams) → (one → two → both) → Keeps one old between
      → Keeps two between new → Keeps both old new
  keeps_then old between new join first second = record {
    changed = join first.changed second.changed;
    followed_same = second.followed_same ∙ first.followed_same;
    pending_same = second.pending_same ∙ first.pending_same;
  }

  pub keeps_so : {one two : Type 0} (old new : Live S F g streams) → (one → two) → Keeps one old new → Keeps two old new
  keeps_so old new more keeps = record {
    changed = more keeps.changed;
    followed_same = keeps.followed_same;
    pending_same = keeps.pending_same;
  }
