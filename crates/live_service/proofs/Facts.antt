-- What is said of a live service's calls, by the relations of its stepper.
use Rattle.std.proofs.Common.{◌≡◌, ℕ, Bool, true, false, List, [], ◌∷◌, IsTrue, Option, None, Some, Result, Ok, Err, IfOk, IfErr, refl, sym}
use Rattle.std.proofs.Common.{ap, ◌∙◌, subst, inr, arith}
use Rattle.std.specs.Prelude.{Contains, IfNone, IfSome, is_some, ◌<◌, length, ◌↔◌}
use Rattle.block_disk.specs.Counts.{HasRisen}
use Rattle.block_disk.specs.View.{Now, Passes}
use Rattle.block_disk.specs.declared.streams.Streams.{Ghosts as StreamGhosts}
use Rattle.block_disk.proofs.Passing.{passes_none}
use Rattle.chart_frames.specs.declared.frame.Frame.{Frame}
use Rattle.chart_frames.specs.declared.frame.Frame.TheVariants.{Refused, Live as LiveOf}
use Rattle.chart_frames.specs.Frames.{Fits}
use Rattle.chart_service.proofs.LookLemmas.{unchanged_so}
use Rattle.chart_service.specs.Called.{AnswersSo, CommitsOnly, IsCause, LineBlamed, RequestBlamed}
use Rattle.chart_service.specs.Faulting.{step_fault}
use Rattle.chart_service.specs.LastShown.{LastsBy, OfRowsLine}
use Rattle.chart_service.specs.Opening.{OpensBy}
use Rattle.chart_service.specs.ReadingBlocks.{ReadsLine}
use Rattle.chart_service.specs.Replies.{line_text, own_zoom}
use Rattle.chart_service.specs.Shown as shown
use Rattle.chart_service.specs.Stepping.{NamesBad, IsOutside, ReadsFew, RepliedTo, Steps, state_of}
use Rattle.chart_service.specs.Syncing.{edit_of}
use Rattle.chart_service.specs.declared.failure.ServiceError.{ServiceError}
use Rattle.chart_service.specs.declared.failure.ServiceError.TheVariants.{DiskFault, Damaged, NoMemory}
use Rattle.chart_service.specs.declared.service.Service.{Service}
use Rattle.chart_world.specs.Faults.{CountsFault, fault_in}
use Rattle.gate_pages.specs.GateLaws.{goes_none}
use Rattle.gate_pages.specs.Pages.{GoesOn, Quiet}
use Rattle.gate_pages.specs.declared.pages.Pages.{Ghosts}
use Rattle.live_service.specs.Blaming.{PushBlamed}
use Rattle.live_service.specs.Kinds.{MayAnswerAsked, MayAnswerLive, MayFollow, MayPush}
use Rattle.live_service.specs.LiveReplies.{LiveReplied, Pushed, ReadsPush, changed_in}
use Rattle.live_service.specs.Shown as its
use Rattle.live_service.specs.Shown.{IsBeforeOrAfter}
use Rattle.live_service.specs.Steps.{AnswersLine, RepeatsView}
use Rattle.live_service.specs.declared.stepper.ServiceStepper.{ServiceStepper}
use Rattle.live_service.proofs.KindLemmas.{follow_stays, may_follow, may_other, may_own, may_push, may_unfollow, refused_stays}
use Rattle.live_service.proofs.KindLemmas.{unfollow_stays}
use Rattle.live_service.proofs.Replying.{changes_in, disk_cause, lacks_no_disk, never_fails, one_fewer, other_replied, other_moments}
use Rattle.live_service.proofs.Replying.{own_reads, own_replied, same_error, unread, unread_push}
use Rattle.live_view.specs.Live as follows
use Rattle.live_view.specs.Lines.{live_line}
use Rattle.live_view.specs.Meaning.{meaning_of}
use Rattle.live_view.specs.Replies.{refused, follow_reply, unfollow_reply, followed_by, followers}
use Rattle.live_view.specs.Sessions.{HaveViews, has_view}
use Rattle.live_view.specs.declared.live.Live.{Live}
use Rattle.live_view.specs.declared.live_lines.LiveLine.{LiveLine}
use Rattle.live_view.specs.declared.live_lines.LiveLine.TheVariants.{Follow, Unfollow, Bad, Other}
use Rattle.live_view.specs.declared.stepper.Stepper.{Ghosts as StepperGhosts}
use Rattle.series_book.specs.declared.one_series.Series.{Series}
use Rattle.series_book.specs.declared.refusals.Refusal.TheVariants.{BadLine}
use Rattle.series_book.specs.Edits.{id_of}
use Rattle.series_store.specs.Results.{IsUnchanged}
use Rattle.stored_book.specs.Standing.{StandsForBook}
use Rattle.zoom_session.specs.declared.session.Session.{Session}
use Rattle.zoom_session.specs.declared.view_spec.ViewSpec.{ViewSpec}
use Rattle.zoom_session.specs.Sessions.{is_open, session_of, last_of}

-- ---- a service that stays

pub record Rests {P : Type 0} {g : Ghosts P} (old new : Service P g) : Type 0 where
  pub unchanged : IsUnchanged (shown.IsTold old) (shown.view old) (shown.view new)
  pub faults : CountsFault None (shown.view old) (shown.view new)
  pub steps : Steps (shown.IsTold old) (shown.IsTold new) (shown.view old) (shown.view new)
  pub goes_on : GoesOn (shown.under old) (shown.under new)
  pub total : shown.total new ≡ shown.total old

rests_none : {P : Type 0} {g : Ghosts P} (it : Service P g) → Rests it it
rests_none it = record {
  unchanged = record { image = λ t. refl; fit = λ f. f; syncs = refl; writes = refl };
  faults = refl;
  steps = record {
    told = λ t. t;
    was_told = λ t. t;
    size = refl;
    beside = refl;
    faults = omega arith;
    syncs = record { low = omega arith; high = omega arith };
    writes = record { low = omega arith; high = omega arith };
  };
  goes_on = goes_none (shown.under it);
  total = refl;
}

-- these ask for a following
not_follow : (n : ℕ) → Other ≡ Follow n → ⊥
not_follow n e = cc

not_unfollow : (n : ℕ) → Other ≡ Unfollow n → ⊥
not_unfollow n e = cc

not_bad : (at : ℕ) → Other ≡ Bad at → ⊥
not_bad at e = cc

same_some : (E : Type 0) (one other : Option Frame) → ◌≡◌ {A = Result (Option Frame) E} (Ok one) (Ok other) → one ≡ other
same_some E one other is = cc

never_ok : (E : Type 0) (e : E) (some : Option Frame) → ◌≡◌ {A = Result (Option Frame) E} (Err e) (Ok some) → ⊥
never_ok E e some is = cc

-- no push was made exactly where none was pending
pub none_so : {E F : Type 0} (r : Result (Option Frame) E) (some : Option Frame) (Idle : Type 0) → r ≡ Ok some → ((r ≡ Ok None) ↔ Idle)
    → (◌≡◌ {A = Result (Option Frame) F} (Ok some) (Ok None)) ↔ Idle
none_so {E} {F} r some Idle is none = (
  λ e. none.0 (is ∙ ap (λ (o : Option Frame). Ok o) (same_some F some None e)),
  λ idle. ap (λ (o : Option Frame). Ok o) (same_some E some None (sym is ∙ none.1 idle)),
)

pub none_failed : {E F : Type 0} (r : Result (Option Frame) E) (error : E) (other : F) (Idle : Type 0) → r ≡ Err error
    → ((r ≡ Ok None) ↔ Idle) → (◌≡◌ {A = Result (Option Frame) F} (Err other) (Ok None)) ↔ Idle
none_failed {E} {F} r error other Idle is none = (
  λ e. absurd (never_ok F other None e),
  λ idle. absurd (never_ok E error None (sym is ∙ none.1 idle)),
)

last_there : (o : Option ViewSpec) → is_some o ≡ true → (last : ViewSpec) × (o ≡ Some last)
last_there None there = cc
last_there (Some last) there = (last, refl)

-- a frame that tells of a following, or refuses, leaves the last views
follow_leaves : (IsOfRows : (ℕ → Type 0) → ℕ → Type 0) (n : ℕ) (on : Bool) (frame : Frame) (sessions : List Session) → MayFollow n on frame
    → LastsBy IsOfRows frame sessions sessions
follow_leaves IsOfRows n on (Refused number a b) sessions may = λ m id last. last
follow_leaves IsOfRows n on (LiveOf session now) sessions may = λ m id last. last
follow_leaves IsOfRows n on frame sessions may = absurd may

own_leaves : (IsOfRows : (ℕ → Type 0) → ℕ → Type 0) (asked : LiveLine) (line : List ℕ) (frame : Frame) (sessions : List Session)
    → (Other ≡ asked → ⊥) → MayAnswerAsked asked line frame
    → LastsBy IsOfRows frame sessions sessions
own_leaves IsOfRows (Follow n) line frame sessions other may = follow_leaves IsOfRows n true frame sessions may
own_leaves IsOfRows (Unfollow n) line frame sessions other may = follow_leaves IsOfRows n false frame sessions may
own_leaves IsOfRows (Bad at) line frame sessions other may =
    let F : Frame → Type 0 = λ f. LastsBy IsOfRows f sessions sessions in subst F (sym may) (λ m id last. last)
own_leaves IsOfRows Other line frame sessions other may = absurd (other refl)

-- what the relations of the stepper say
pub record Means {P : Type 0} {g : Ghosts P} (h : StepperGhosts (ServiceStepper P g) ServiceError) : Type 0 where
  pub answers : (old : ServiceStepper P g) (line : List ℕ) (r : Result Frame ServiceError) (new : ServiceStepper P g)
      → h.replies old line r new → AnswersLine line r old.service new.service
  pub repeats : (old : ServiceStepper P g) (session : ℕ) (r : Result Frame ServiceError) (new : ServiceStepper P g)
      → h.repeats old session r new → RepeatsView session r old.service new.service
  pub names : (it : ServiceStepper P g) (name : List ℕ) (id : Option ℕ) → h.names it name id
      → shown.ForSoundBook it.service (λ total book. id ≡ id_of name book)
  pub sessions : (it : ServiceStepper P g) → h.sessions it ≡ it.service.sessions

module _ {P : Type 0} {g : Ghosts P} {h : StepperGhosts (ServiceStepper P g) ServiceError} {streams : StreamGhosts (ServiceStepper P g)}
  where
    -- what is said of a line's answer
    pub record LineFacts (line : List ℕ) (result : Result Frame ServiceError)
        (old new : Live (ServiceStepper P g) ServiceError h streams) : Type 0 where
      pub reply : its.ForBook old (λ total book. IfOk result (its.AnswersSo (LiveReplied (line_text line)) total book old new))
      pub standing : its.ForBook old (λ total book. IfErr result IsOutside)
      pub moments : its.ForBook old (λ total book. its.PassesBy (LiveReplied (line_text line)) total book old new)
      pub reads : its.ForBook old (λ total book. its.ReadsFewFor (line_text line) total book old new)
      pub may : IfOk result (λ frame. MayAnswerLive (line_text line) frame)
      pub opens : IfOk result (λ frame. OpensBy frame (shown.sessions (its.service old)) (shown.sessions (its.service new)))
      pub lasts : IfOk result (λ frame. LastsBy (OfRowsLine (line_text line)) frame (shown.sessions (its.service old))
          (shown.sessions (its.service new)))
      pub blames : IfErr result (LineBlamed (line_text line) (its.service old) (its.service new))
      pub unchanged : CommitsOnly result (its.service old) (its.service new)
      pub idle : edit_of (line_text line) ≡ [] → IsUnchanged (shown.IsTold (its.service old)) (its.view old) (its.view new)
      pub disk : result ≡ Err DiskFault → HasRisen (its.view old).faults (its.view new).faults
      pub faults : CountsFault (fault_in step_fault result) (its.view old) (its.view new)
      pub bad : IfErr result (NamesBad (shown.IsTold (its.service new)) (its.view new).size (its.view new).image)
      pub steps : Steps (shown.IsTold (its.service old)) (shown.IsTold (its.service new)) (its.view old) (its.view new)
      pub goes_on : GoesOn (shown.under (its.service old)) (shown.under (its.service new))
      pub total : shown.total (its.service new) ≡ shown.total (its.service old)

    rests_so : (old new : Live (ServiceStepper P g) ServiceError h streams) → new.stepper ≡ old.stepper
        → Rests (its.service old) (its.service new)
    rests_so old new same = let R : ServiceStepper P g → Type 0 = λ s. Rests old.stepper.service s.service in
        subst R (sym same) (rests_none old.stepper.service)

    stands_so : (old new : Live (ServiceStepper P g) ServiceError h streams) (total : ℕ) (book : List Series) → new.stepper ≡ old.stepper
        → StandsForBook (its.view old).image total book → StandsForBook (its.view new).image total book
    stands_so old new total book same stands = let S : ServiceStepper P g
        → Type 0 = λ s. StandsForBook (shown.view s.service).image total book in subst S (sym same) stands

    unread_so : (line : List ℕ) (old new : Live (ServiceStepper P g) ServiceError h streams) (total : ℕ) (book : List Series)
        → new.stepper ≡ old.stepper → its.ReadsFewFor (line_text line) total book old new
    unread_so line old new total book same =
        let Q : ServiceStepper P g → Type 0 = λ s. ReadsLine (line_text line) (shown.state old.stepper.service total book)
        (its.view old).reads (shown.view s.service).reads in
        subst Q (sym same) (unread (line_text line) (shown.state old.stepper.service total book) (its.view old).reads)

    -- a line that asks for a following
    own_facts : (line : List ℕ) (frame reply : Frame) (asked : LiveLine) (old new : Live (ServiceStepper P g) ServiceError h streams)
        → live_line line ≡ asked → (Other ≡ asked → ⊥) → new.stepper ≡ old.stepper
        → MayAnswerAsked asked line frame → OpensBy frame old.stepper.service.sessions old.stepper.service.sessions
        → ((total : ℕ) (book : List Series) → LiveReplied (line_text line) frame (its.state old total book) (its.state new total book))
        → LineFacts line (Ok frame) old new
    own_facts line frame reply asked old new is other same may opens replied =
        let rest = rests_so old new same in
        let O : ServiceStepper P g → Type 0 = λ s. OpensBy frame old.stepper.service.sessions s.service.sessions in
        let L : ServiceStepper P g → Type 0 = λ s. LastsBy
        (OfRowsLine (line_text line)) frame old.stepper.service.sessions s.service.sessions in
        record {
          reply = λ total book told stands. record {
            book = book;
            stands = stands_so old new total book same stands;
            so = replied total book;
          };
          standing = λ total book told stands. tt;
          moments = λ total book told stands.
              let Q : ServiceStepper P g → Type 0 = λ s. Passes (its.view old) (shown.view s.service)
              (IsBeforeOrAfter (LiveReplied (line_text line)) total (its.state old total book)) (Quiet (its.view old)) in
              subst Q (sym same) (passes_none (its.view old) _ _);
          reads = λ total book told stands. unread_so line old new total book same;
          may = may_own line asked frame is other may;
          opens = subst O (sym same) opens;
          lasts = subst L (sym same) (own_leaves (OfRowsLine (line_text line)) asked line frame old.stepper.service.sessions other may);
          blames = tt;
          unchanged = unchanged_so (Ok frame) _ _ _ rest.unchanged;
          idle = λ none. rest.unchanged;
          disk = λ is. absurd (never_fails Frame frame DiskFault is);
          faults = rest.faults;
          bad = tt;
          steps = rest.steps;
          goes_on = rest.goes_on;
          total = rest.total;
        }

    state_so : (old new : Live (ServiceStepper P g) ServiceError h streams) (total : ℕ) (book : List Series) → new.stepper ≡ old.stepper
        → (its.state new total book).state ≡ (its.state old total book).state
    state_so old new total book same = ap (λ (s : ServiceStepper P g). state_of book total s.service.sessions) same

    other_facts : Means h → (line : List ℕ) (frame : Frame) (old new : Live (ServiceStepper P g) ServiceError h streams)
        → live_line line ≡ Other → (its.view new).fit → follows.PassesOn line frame old new → LineFacts line (Ok frame) old new
    other_facts m line frame old new asked fit passes =
        let answers = m.answers old.stepper line (Ok frame) new.stepper passes.reply in
        record {
          reply = λ total book told stands.
              let behind = answers.reply total book told stands in
              let own = new.stepper.service.sessions in
              let series : passes.series ≡ changed_in behind.book (meaning_of line) frame =
              changes_in behind.book (h.names new.stepper) (meaning_of line) frame passes.series
              (λ name id named. m.names new.stepper name id named total behind.book fit (answers.steps.told told) behind.stands)
              passes.changes in
              record {
                book = behind.book;
                stands = behind.stands;
                so = other_replied line frame (state_of book total old.stepper.service.sessions)
                    (state_of behind.book total own) old.followed.items old.pending.items new.followed.items new.pending.items asked
                    behind.so
                    passes.followed_now
                    (passes.pending_now ∙ ap (λ (s : Option ℕ). followers s (h.sessions new.stepper) old.followed.items) series
                    ∙ ap (λ ss. followers (changed_in behind.book (meaning_of line) frame) ss old.followed.items) (m.sessions new.stepper));
              };
          standing = λ total book told stands. tt;
          moments = λ total book told stands. other_moments line total book old.stepper.service.sessions old.followed.items
              old.pending.items
              (its.view old) (its.view new) asked (answers.moments total book told stands);
          reads = answers.reads;
          may = may_other line frame asked answers.may;
          opens = answers.opens;
          lasts = answers.lasts;
          blames = tt;
          unchanged = answers.unchanged;
          idle = answers.idle;
          disk = answers.disk;
          faults = answers.faults;
          bad = tt;
          steps = answers.steps;
          goes_on = answers.goes_on;
          total = answers.total;
        }

    -- a line that is answered
    pub line_answered : Means h → (asked : LiveLine) (line : List ℕ) (frame : Frame)
        (old new : Live (ServiceStepper P g) ServiceError h streams) → live_line line ≡ asked → (its.view new).fit → Fits frame
        → follows.RepliesTo asked line frame old new → LineFacts line (Ok frame) old new
    line_answered m (Follow n) line frame old new is fit fits r =
        let own = old.stepper.service.sessions in
        let reply : frame ≡ follow_reply n (session_of n own) = r.is
        ∙ ap (λ ss. follow_reply n (session_of n ss)) (m.sessions old.stepper) in
        let M : Frame → Type 0 = λ f. MayFollow n true f in
        let O : Frame → Type 0 = λ f. OpensBy f own own in
        own_facts line frame (follow_reply n (session_of n own)) (Follow n) old new is (not_follow n) r.stepper
        (subst M (sym reply) (may_follow n (session_of n own))) (subst O (sym reply) (follow_stays n own)) (λ total book.
        own_replied line (Follow n) frame (its.state old total book) (its.state new total book) is (not_follow n) (record {
          is = reply;
          fits = fits;
          state = state_so old new total book r.stepper;
          followed_now = r.followed_now ∙ ap (λ ss. followed_by (follow_reply n (session_of n ss)) old.followed.items)
              (m.sessions old.stepper);
          idle = r.idle;
        }))
    line_answered m (Unfollow n) line frame old new is fit fits r =
        let own = old.stepper.service.sessions in
        let reply : frame ≡ unfollow_reply n (is_open n own) = r.is ∙ ap (λ ss. unfollow_reply n (is_open n ss)) (m.sessions old.stepper) in
        let M : Frame → Type 0 = λ f. MayFollow n false f in
        let O : Frame → Type 0 = λ f. OpensBy f own own in
        own_facts line frame (unfollow_reply n (is_open n own)) (Unfollow n) old new is (not_unfollow n) r.stepper
        (subst M (sym reply) (may_unfollow n (is_open n own))) (subst O (sym reply) (unfollow_stays n own)) (λ total book.
        own_replied line (Unfollow n) frame (its.state old total book) (its.state new total book) is (not_unfollow n) (record {
          is = reply;
          fits = fits;
          state = state_so old new total book r.stepper;
          followed_now = r.followed_now ∙ ap (λ ss. followed_by (unfollow_reply n (is_open n ss)) old.followed.items)
              (m.sessions old.stepper);
          idle = r.idle;
        }))
    line_answered m (Bad at) line frame old new is fit fits r =
        let own = old.stepper.service.sessions in
        let O : Frame → Type 0 = λ f. OpensBy f own own in
        own_facts line frame (refused (BadLine at)) (Bad at) old new is (not_bad at) r.stepper r.is
        (subst O (sym r.is) (refused_stays (BadLine at) own)) (λ total book.
        own_replied line (Bad at) frame (its.state old total book) (its.state new total book) is (not_bad at) (record {
          is = r.is;
          fits = fits;
          state = state_so old new total book r.stepper;
          followed_now = r.followed_now;
          idle = r.idle;
        }))
    line_answered m Other line frame old new is fit fits r = other_facts m line frame old new is fit r

    -- a line at which the service failed
    pub line_failed : Means h → (line : List ℕ) (error : ServiceError) (old new : Live (ServiceStepper P g) ServiceError h streams)
        → follows.FailsAt line error old new → LineFacts line (Err error) old new
    line_failed m line error old new fails =
        let answers = m.answers old.stepper line (Err error) new.stepper fails.failed in
        record {
          reply = λ total book told stands. tt;
          standing = answers.standing;
          moments = λ total book told stands. other_moments line total book old.stepper.service.sessions old.followed.items
              old.pending.items
              (its.view old) (its.view new) fails.other (answers.moments total book told stands);
          reads = answers.reads;
          may = tt;
          opens = tt;
          lasts = tt;
          blames = answers.blames;
          unchanged = answers.unchanged;
          idle = answers.idle;
          disk = answers.disk;
          faults = answers.faults;
          bad = answers.bad;
          steps = answers.steps;
          goes_on = answers.goes_on;
          total = answers.total;
        }

    -- want of memory, which changes nothing
    pub line_lacks : (line : List ℕ) (old new : Live (ServiceStepper P g) ServiceError h streams) → follows.Stays old new
        → LineFacts line (Err NoMemory) old new
    line_lacks line old new stays =
        let rest = rests_so old new stays.stepper in
        record {
          reply = λ total book told stands. tt;
          standing = λ total book told stands. inr refl;
          moments = λ total book told stands.
              let Q : ServiceStepper P g → Type 0 = λ s. Passes (its.view old) (shown.view s.service)
              (IsBeforeOrAfter (LiveReplied (line_text line)) total (its.state old total book)) (Quiet (its.view old)) in
              subst Q (sym stays.stepper) (passes_none (its.view old) _ _);
          reads = λ total book told stands. unread_so line old new total book stays.stepper;
          may = tt;
          opens = tt;
          lasts = tt;
          blames = tt;
          unchanged = unchanged_so (Err NoMemory) _ _ _ rest.unchanged;
          idle = λ none. rest.unchanged;
          disk = λ is. absurd (lacks_no_disk Frame is);
          faults = rest.faults;
          bad = tt;
          steps = rest.steps;
          goes_on = rest.goes_on;
          total = rest.total;
        }

    -- ---- a push

    pub record PushFacts (result : Result (Option Frame) ServiceError)
        (old new : Live (ServiceStepper P g) ServiceError h streams) : Type 0 where
      pub reply : its.ForBook old (λ total book. IfOk result (λ some. IfSome some (its.AnswersSo Pushed total book old new)))
      pub fewer : IfOk result (λ some. IfSome some (λ frame. length new.pending.items < length old.pending.items))
      pub standing : its.ForBook old (λ total book. IfErr result IsOutside)
      pub reads : its.ForBook old (λ total book. its.ReadsNext total book old new)
      pub may : IfOk result (λ some. IfSome some MayPush)
      pub opens : IfOk result (λ some. IfSome some (λ frame. OpensBy frame (shown.sessions (its.service old))
          (shown.sessions (its.service new))))
      pub lasts : IfOk result (λ some. IfSome some (λ frame. LastsBy (λ was. was) frame (shown.sessions (its.service old))
          (shown.sessions (its.service new))))
      pub blames : IfErr result (PushBlamed old new)
      pub moments : shown.PassesTo (Now (its.view old)) (its.service old) (its.service new)
      pub unchanged : IsUnchanged (shown.IsTold (its.service old)) (its.view old) (its.view new)
      pub disk : result ≡ Err DiskFault → HasRisen (its.view old).faults (its.view new).faults
      pub faults : CountsFault (fault_in step_fault result) (its.view old) (its.view new)
      pub bad : IfErr result (NamesBad (shown.IsTold (its.service new)) (its.view new).size (its.view new).image)
      pub steps : Steps (shown.IsTold (its.service old)) (shown.IsTold (its.service new)) (its.view old) (its.view new)
      pub goes_on : GoesOn (shown.under (its.service old)) (shown.under (its.service new))
      pub total : shown.total (its.service new) ≡ shown.total (its.service old)

    -- none is pending
    pub none_pushed : (old new : Live (ServiceStepper P g) ServiceError h streams) → follows.Stays old new → PushFacts (Ok None) old new
    none_pushed old new stays =
        let rest = rests_so old new stays.stepper in
        record {
          reply = λ total book told stands. tt;
          fewer = tt;
          may = tt;
          opens = tt;
          lasts = tt;
          blames = tt;
          standing = λ total book told stands. tt;
          reads = λ total book told stands.
              let Q : ServiceStepper P g → Type 0 = λ s. ReadsPush old.pending.items (shown.state old.stepper.service total book)
              (its.view old).reads (shown.view s.service).reads in
              subst Q (sym stays.stepper) (unread_push old.pending.items (shown.state old.stepper.service total book) (its.view old).reads);
          moments = let Q : ServiceStepper P g → Type 0 = λ s. Passes (its.view old) (shown.view s.service) (Now (its.view old))
              (Quiet (its.view old)) in subst Q (sym stays.stepper) (passes_none (its.view old) _ _);
          unchanged = rest.unchanged;
          disk = λ is. absurd (never_fails (Option Frame) None DiskFault is);
          faults = rest.faults;
          bad = tt;
          steps = rest.steps;
          goes_on = rest.goes_on;
          total = rest.total;
        }

    -- the session of a pending push has had a view
    pending_view : Means h → (old : Live (ServiceStepper P g) ServiceError h streams) (session : ℕ) (rest : List ℕ)
        → old.pending.items ≡ session ∷ rest → (last : ViewSpec) × (last_of (session_of session old.stepper.service.sessions) ≡ Some last)
    pending_view m old session rest first =
        let V : List ℕ → Type 0 = λ l. HaveViews (h.sessions old.stepper) l in
        let viewed : IsTrue (has_view session (h.sessions old.stepper)) = subst V first old.viewed 0 session (omega arith) in
        let S : List Session → Type 0 = λ ss. IsTrue (has_view session ss) in
        last_there (last_of (session_of session old.stepper.service.sessions)) (subst S (m.sessions old.stepper) viewed)

    -- a push reads as its zoom
    push_reads : Means h → (answer : Result Frame ServiceError) (old new : Live (ServiceStepper P g) ServiceError h streams)
        → follows.Repeats answer old new → its.ForBook old (λ total book. its.ReadsNext total book old new)
    push_reads m answer old new repeated = λ total book told stands.
        let session = repeated.session in
        let repeats = m.repeats old.stepper session answer new.stepper repeated.repeat in
        let viewed = pending_view m old session new.pending.items repeated.first in
        let R : Option ViewSpec → Type 0 = λ o. IfSome o
        (λ last. shown.ForBook old.stepper.service
        (λ total book. ReadsFew (own_zoom session last) book old.stepper.service.sessions (its.view old).reads (its.view new).reads)) in
        let N : List ℕ → Type 0 = λ l. ReadsPush l (shown.state old.stepper.service total book) (its.view old).reads (its.view new).reads in
        let own = own_reads book (last_of (session_of session old.stepper.service.sessions)) viewed.0 _ _ viewed.1
        (subst R viewed.1 repeats.reads total book told stands) in
        subst N (sym repeated.first) own

    -- it is made
    pub one_pushed : Means h → (frame : Frame) (old new : Live (ServiceStepper P g) ServiceError h streams) → follows.Pushes frame old new
        → PushFacts (Ok (Some frame)) old new
    one_pushed m frame old new pushes =
        let session = pushes.repeated.session in
        let repeats = m.repeats old.stepper session (Ok frame) new.stepper pushes.repeated.repeat in
        let viewed = pending_view m old session new.pending.items pushes.repeated.first in
        let R : Option ViewSpec → Type 0 = λ o. IfSome o
        (λ last. shown.ForBook old.stepper.service
        (λ total book. AnswersSo (RepliedTo (own_zoom session last)) total book old.stepper.service new.stepper.service frame)) in
        let replied = subst R viewed.1 repeats.reply in
        record {
          reply = λ total book told stands.
              let behind = replied total book told stands in
              record {
                book = behind.book;
                stands = behind.stands;
                so = record {
                  session = session;
                  first = pushes.repeated.first;
                  last = viewed.0;
                  viewed = viewed.1;
                  replied = behind.so;
                  followed_same = pushes.followed_same;
                };
              };
          fewer = one_fewer session old.pending.items new.pending.items pushes.repeated.first;
          standing = λ total book told stands. tt;
          reads = push_reads m (Ok frame) old new pushes.repeated;
          may = may_push session frame repeats.may;
          opens = repeats.opens;
          lasts = repeats.lasts;
          blames = tt;
          moments = repeats.moments;
          unchanged = repeats.idle;
          disk = λ is. absurd (never_fails (Option Frame) (Some frame) DiskFault is);
          faults = repeats.faults;
          bad = tt;
          steps = repeats.steps;
          goes_on = repeats.goes_on;
          total = repeats.total;
        }

    -- it failed at a page
    push_blames : (error : ServiceError) (old new : Live (ServiceStepper P g) ServiceError h streams) (session : ℕ)
        → Contains old.followed.items session → (last : ViewSpec)
        → RequestBlamed (own_zoom session last) old.stepper.service new.stepper.service error → PushBlamed old new error
    push_blames DiskFault old new session among last blamed = tt
    push_blames (Damaged page) old new session among last blamed = record {
      session = session;
      among = among;
      within = blamed.within;
      found = blamed.found;
    }
    push_blames NoMemory old new session among last blamed = tt

    -- it failed
    pub push_failed : Means h → (error : ServiceError) (old new : Live (ServiceStepper P g) ServiceError h streams)
        → follows.FailsToPush error old new → PushFacts (Err error) old new
    push_failed m error old new fails =
        let session = fails.repeated.session in
        let repeats = m.repeats old.stepper session (Err error) new.stepper fails.repeated.repeat in
        let viewed = pending_view m old session new.pending.items fails.repeated.first in
        let C : Option ViewSpec → Type 0 = λ o. IfSome o
        (λ last. IsCause (own_zoom session last) old.stepper.service new.stepper.service error) in
        let B : Option ViewSpec → Type 0 = λ o. IfSome o
        (λ last. RequestBlamed (own_zoom session last) old.stepper.service new.stepper.service error) in
        record {
          reply = λ total book told stands. tt;
          fewer = tt;
          may = tt;
          opens = tt;
          lasts = tt;
          blames = push_blames error old new session fails.among viewed.0 (subst B viewed.1 repeats.blames);
          standing = repeats.standing;
          reads = push_reads m (Err error) old new fails.repeated;
          moments = repeats.moments;
          unchanged = repeats.idle;
          disk = λ is. disk_cause (own_zoom session viewed.0) error _ _ _ _ (its.view old) (its.view new) (subst C viewed.1 repeats.cause)
              (same_error (Option Frame) error DiskFault is);
          faults = repeats.faults;
          bad = repeats.bad;
          steps = repeats.steps;
          goes_on = repeats.goes_on;
          total = repeats.total;
        }

    -- a push that is made, or none
    pub pushed : Means h → (some : Option Frame) (old new : Live (ServiceStepper P g) ServiceError h streams)
        → IfNone some (follows.Stays old new) → IfSome some (λ frame. follows.Pushes frame old new) → PushFacts (Ok some) old new
    pushed m None old new stays pushes = none_pushed old new stays
    pushed m (Some frame) old new stays pushes = one_pushed m frame old new pushes
