-- Edits that a live service does together, by the relations of its stepper and over a plain book.
use Rattle.std.proofs.Common.{◌≡◌, ◌∙◌, ◌+◌, ◌*◌, ◌≤◌, ℕ, List, [], ◌∷◌, length, Option, refl, ap}
use Rattle.block_disk.specs.View.{Image}
use Rattle.block_disk.specs.declared.streams.Streams.{Ghosts as StreamGhosts}
use Rattle.block_disk.proofs.Passing.{passes_weaker}
use Rattle.chart_frames.specs.declared.frame.Frame.{Frame}
use Rattle.chart_service.specs.EditGroups.{AnswersSome}
use Rattle.chart_service.specs.Shown as shown
use Rattle.chart_service.specs.State.{State}
use Rattle.chart_service.specs.Stepping.{state_of}
use Rattle.chart_service.specs.Syncing.{group_syncs}
use Rattle.chart_service.specs.declared.failure.ServiceError.{ServiceError}
use Rattle.gate_pages.specs.Pages.{GoesOn, Quiet}
use Rattle.gate_pages.specs.declared.pages.Pages.{Ghosts}
use Rattle.live_service.specs.LiveReplies.{GroupReplied, changed_by, changed_in}
use Rattle.live_service.specs.Shown as its
use Rattle.live_service.specs.Shown.{DoesSome, live_of}
use Rattle.live_service.specs.Steps.{AnswersEdits, DoesTogether, LosesEdits}
use Rattle.live_service.specs.declared.stepper.ServiceStepper.{ServiceStepper}
use Rattle.live_service.proofs.Replying.{changes_in}
use Rattle.live_view.specs.Groups.{AreChanged, followers_of}
use Rattle.live_view.specs.Live as follows
use Rattle.live_view.specs.Meaning.{name_of}
use Rattle.live_view.specs.declared.live.Live.{Live}
use Rattle.live_view.specs.declared.meaning.Meaning.TheVariants.{Edit as EditOf}
use Rattle.live_view.specs.declared.stepper.Stepper.{Ghosts as StepperGhosts}
use Rattle.series_book.specs.declared.edits.Edit.{Edit}
use Rattle.series_book.specs.declared.one_series.Series.{Series}
use Rattle.series_book.specs.Edits.{id_of}

-- ---- over a plain book

-- the series that the edits changed are those that the book names
pub changed_is : (book : List Series) (names : List ℕ → Option ℕ
    → Type 0) (edits : List Edit) (frames : List Frame) (series : List (Option ℕ))
    → ((name : List ℕ) (id : Option ℕ) → names name id → id ≡ id_of name book) → AreChanged names edits frames series
    → series ≡ changed_by book edits frames
changed_is book names [] frames series says are = are
changed_is book names (edit ∷ later) [] series says are = are
changed_is book names (edit ∷ later) (frame ∷ frames) [] says are = absurd are
changed_is book names (edit ∷ later) (frame ∷ frames) (one ∷ others) says are =
    ap (λ (o : Option ℕ). o ∷ others) (changes_in book names (EditOf (name_of edit)) frame one says are.0)
    ∙ ap (λ l. changed_in book (EditOf (name_of edit)) frame ∷ l) (changed_is book names later frames others says are.1)

-- some first edits are done, and with them the live service's state
pub some_of : (edits : List Edit) (old : State) (followed waiting : List ℕ) (image : Image) → AnswersSome edits old image
    → DoesSome edits (live_of old followed waiting) image
some_of edits old followed waiting image a = record {
  first = a.first;
  later = a.later;
  edits_are = a.edits_are;
  frames = a.frames;
  after = live_of a.new followed (followers_of (changed_by a.new.book a.first a.frames) a.new.sessions followed);
  replied = record { replied = a.replied; followed_same = refl; pending_now = refl };
  total_is = a.total;
  stands = a.stands;
}

-- ---- of a live service

-- what the relations of the stepper say
pub record MeansEdits {P : Type 0} {g : Ghosts P} (h : StepperGhosts (ServiceStepper P g) ServiceError) : Type 0 where
  pub answers : (old : ServiceStepper P g) (edits : List Edit) (frames : List Frame) (new : ServiceStepper P g)
      → h.does_edits old edits frames new → AnswersEdits edits frames old.service new.service
  pub loses : (old : ServiceStepper P g) (edits : List Edit) (error : ServiceError) (new : ServiceStepper P g)
      → h.fails_edits old edits error new → LosesEdits edits error old.service new.service
  pub names : (it : ServiceStepper P g) (name : List ℕ) (id : Option ℕ) → h.names it name id
      → shown.ForSoundBook it.service (λ total book. id ≡ id_of name book)
  pub sessions : (it : ServiceStepper P g) → h.sessions it ≡ it.service.sessions

module _ {P : Type 0} {g : Ghosts P} {h : StepperGhosts (ServiceStepper P g) ServiceError} {streams : StreamGhosts (ServiceStepper P g)}
  where
    -- what is said of edits, answered or not
    pub record GroupFacts (edits : List Edit) (old new : Live (ServiceStepper P g) ServiceError h streams) : Type 0 where
      pub moments : its.ForBook old (λ total book. shown.PassesTo (DoesSome edits (its.state old total book)) (its.service old)
          (its.service new))
      pub reads : its.ForBook old (λ total book. (its.view new).reads ≤ (its.view old).reads + 96 * length edits)
      pub syncs : its.ForBook old (λ total book. (its.view new).syncs ≤ (its.view old).syncs + group_syncs total book edits)
      pub sessions : shown.sessions (its.service new) ≡ shown.sessions (its.service old)
      pub moves : shown.MovesSo (its.service old) (its.service new)
      pub goes_on : GoesOn (shown.under (its.service old)) (shown.under (its.service new))
      pub total : shown.total (its.service new) ≡ shown.total (its.service old)

    pub group_facts : (edits : List Edit) (old new : Live (ServiceStepper P g) ServiceError h streams)
        → DoesTogether edits (its.service old) (its.service new) → GroupFacts edits old new
    group_facts edits old new does = record {
      moments = λ total book told stands.
          passes_weaker (its.view old) (its.view new) (AnswersSome edits (state_of book total old.stepper.service.sessions))
          (DoesSome edits (its.state old total book)) (Quiet (its.view old)) (Quiet (its.view old))
          (λ image some. some_of edits (state_of book total old.stepper.service.sessions) old.followed.items old.pending.items image some)
          (λ count quiet. quiet) (does.moments total book told stands);
      reads = does.reads;
      syncs = does.syncs;
      sessions = does.sessions;
      moves = does.moves;
      goes_on = does.goes_on;
      total = does.total;
    }

    -- the frames answer them
    pub group_replied : MeansEdits h → (edits : List Edit) (frames : List Frame)
        (old new : Live (ServiceStepper P g) ServiceError h streams)
        → (its.view new).fit → follows.DoesEdits edits frames old new
        → its.ForBook old (λ total book. its.StandsSo total new (GroupReplied edits frames (its.state old total book)))
    group_replied m edits frames old new fit d = λ total book told stands.
        let answers = m.answers old.stepper edits frames new.stepper d.done in
        let behind = answers.reply total book told stands in
        let series : d.pushed_to.series ≡ changed_by behind.book edits frames =
        changed_is behind.book (h.names new.stepper) edits frames d.pushed_to.series
        (λ name id named. m.names new.stepper name id named total behind.book fit (answers.does.moves.told told) behind.stands)
        d.pushed_to.changed in
        record {
          book = behind.book;
          stands = behind.stands;
          so = record {
            replied = behind.so;
            followed_same = d.followed_same;
            pending_now = d.pushed_to.pushed_to
                ∙ ap (λ (s : List (Option ℕ)). followers_of s (h.sessions new.stepper) old.followed.items) series
                ∙ ap (λ ss. followers_of (changed_by behind.book edits frames) ss old.followed.items) (m.sessions new.stepper);
          };
        }
