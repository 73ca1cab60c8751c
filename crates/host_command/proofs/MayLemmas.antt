-- What a host's run by a book sends may be sent whatever the book is.
use Rattle.std.proofs.Common.{◌∙◌, ℕ, ℤ, Bool, true, false, List, [], ◌∷◌, ◌++◌, Option, None, Some, Result, Ok, Err, refl, ap, sym, subst}
use Rattle.std.proofs.Common.{inl, inr}
use Rattle.std.specs.Prelude.{slice_get}
use Rattle.chart_frames.specs.declared.frame.Frame.{Frame}
use Rattle.chart_frames.specs.declared.frame.Frame.TheVariants.{Rows}
use Rattle.chart_frames.specs.declared.frame.RowsFrame.{RowsFrame}
use Rattle.chart_service.specs.EditGroups.{IsEditReply, RepliesToEdits, SpellEdits}
use Rattle.chart_service.specs.Replies.{Edits}
use Rattle.chart_service.specs.Serving.{told}
use Rattle.chart_service.specs.State.{State}
use Rattle.derive_command.specs.declared.request.Request.{Request as SumRequest}
use Rattle.host_lines.specs.Grammar.{host_line}
use Rattle.host_lines.specs.declared.asked.HostLine.{HostLine}
use Rattle.host_lines.specs.declared.asked.HostLine.TheVariants.{List as ListLine, Values, Sum, Sweep, Bad, Other}
use Rattle.host_replies.specs.Replies.{IsCatalog, MayReport, MayTellValues, Reported, TellsIf, TellsValues, TellsValuesOf}
use Rattle.host_sweeps.specs.Sweeping.{SweepReplied}
use Rattle.hosted_lines.specs.Answers.{MayAnswerHost, MayTellStep}
use Rattle.hosted_lines.specs.Hosts.{Event, Happens, InRow, answer, group, lines_in, push, report, sweep}
use Rattle.hosted_lines.specs.Running.{HostedBy}
use Rattle.hosted_lines.proofs.AnswersLemmas.{edit_may, may_passed, may_report, push_first, step_may, with_more}
use Rattle.live_service.proofs.FollowLemmas.{AreShort, Following, answered_well, are_short, first_well}
use Rattle.live_service.proofs.KindLemmas.{shows_push}
use Rattle.live_service.specs.Following.{FollowsWell}
use Rattle.live_service.specs.Kinds.{AnswerWithPushes, MayAnswerLive}
use Rattle.live_service.specs.LiveReplies.{LiveState, LiveReplied}
use Rattle.live_service.specs.Showing.{IsFirst}
use Rattle.retention.specs.declared.rule.Rule.{Rule}
use Rattle.series_book.specs.Edits.{Edited, apply, id_of}
use Rattle.series_book.specs.declared.edits.Edit.{Edit}
use Rattle.series_book.specs.declared.one_series.Series.{Series}
use Rattle.series_book.specs.declared.refusals.Refusal.{Refusal}
use Rattle.session_sums.specs.Sums.{AnswersSum, MayTellRows}
use Rattle.zoom_session.specs.Sessions.{is_open}
use Rattle.host_command.proofs.Drawing.{Groups, short_first}

-- ---- reports

series_may : (series : Option Series) (id : ℕ) (t0 t1 : ℤ) (frame : Frame) → TellsValues series id t0 t1 frame → MayTellValues frame
series_may None id t0 t1 frame tells = subst MayTellValues (sym tells) tt
series_may (Some series) id t0 t1 frame (inl bad) = subst MayTellValues (sym bad.1) tt
series_may (Some series) id t0 t1 frame (inr tells) = subst MayTellValues (sym tells.1) tt

values_may : (id : Option ℕ) (book : List Series) (t0 t1 : ℤ) (frame : Frame) → TellsValuesOf id book t0 t1 frame → MayTellValues frame
values_may None book t0 t1 frame tells = subst MayTellValues (sym tells) tt
values_may (Some id) book t0 t1 frame tells = series_may (slice_get book id) id t0 t1 frame tells

sum_may : (book : List Series) (request : SumRequest) (session : ℕ) (frame : Frame) → AnswersSum book request session frame
    → MayTellRows session frame
sum_may book request session (Rows rows) is = ap (λ (f : RowsFrame). f.session) is.fields.is
sum_may book request session frame is = let M : Frame → Type 0 = λ f. MayTellRows session f in subst M (sym is.frame_is) tt

sum_if : (there : Bool) (total : ℕ) (book : List Series) (request : SumRequest) (session : ℕ) (frame : Frame)
    → TellsIf there (Sum session request) total book frame → MayTellRows session frame
sum_if false total book request session frame is = let M : Frame → Type 0 = λ f. MayTellRows session f in subst M (sym is) tt
sum_if true total book request session frame is = sum_may book request session frame is

reported_may : (asked : HostLine) (frame : Frame) (state : State) → Reported asked frame state → MayReport asked frame
reported_may ListLine frame state is = subst IsCatalog (sym is) tt
reported_may (Values name t0 t1) frame state is = values_may (id_of name state.book) state.book t0 t1 frame is
reported_may (Sum session request) frame state is = sum_if (is_open session state.sessions) state.total state.book request session frame is
reported_may (Sweep rule) frame state is = absurd is
reported_may (Bad at) frame state is = is
reported_may Other frame state is = absurd is

-- ---- steps of sweeps, and edits

swept_may : (rule : Rule) (frame : Frame) (old new : LiveState) → SweepReplied rule frame old new → MayTellStep frame
swept_may rule frame old new replied = elim replied.0 [
  | inl refuses ↦ subst MayTellStep (sym refuses.frame_is) refl
  | inr does ↦ subst MayTellStep (sym does.frame_is) tt
]

edit_replied : (given : Result Edited Refusal) (frame : Frame) (old new : State) → Edits given frame old new → IsEditReply frame
edit_replied (Ok edited) frame old new replied = subst IsEditReply (sym replied.0) tt
edit_replied (Err refusal) frame old new replied = subst IsEditReply (sym replied.reply) tt

group_may : (lines : List (Option (List ℕ))) (edits : List Edit) (frames : List Frame) (old new : State) → SpellEdits lines edits
    → RepliesToEdits edits frames old new
    → AnswerWithPushes MayAnswerHost lines frames
group_may [] [] [] old new spell replied = tt
group_may [] [] (f ∷ fs) old new spell replied = absurd replied
group_may [] (e ∷ es) frames old new spell replied = absurd spell
group_may (l ∷ ls) [] frames old new spell replied = absurd spell
group_may (l ∷ ls) (e ∷ es) [] old new spell replied = absurd replied
group_may (l ∷ ls) (e ∷ es) (f ∷ fs) old new spell replied =
    inl (
      edit_may l e f spell.0 (edit_replied (apply old.book old.total e) f old replied.0 replied.1.0),
      group_may ls es fs replied.0 new spell.1 replied.2,
    )

-- ---- all frames

module _ (own : (line : Option (List ℕ)) (frame : Frame) (old new : LiveState) → LiveReplied line frame old new
    → MayAnswerLive line frame) (f : Following) (g : Groups) where
  all_may : (events : List Event) (frames : List Frame) (old new : LiveState) → AreShort (lines_in events) → FollowsWell old
      → InRow Happens old events frames new
      → AnswerWithPushes MayAnswerHost (lines_in events) frames
  all_may [] frames old new short well row =
      let F : List Frame → Type 0 = λ l. AnswerWithPushes MayAnswerHost [] l in subst F (sym row.0) tt
  all_may (answer line ∷ events) frames old new short well row =
      let one = row.happens in
      let F : List Frame → Type 0 = λ l. AnswerWithPushes MayAnswerHost (line ∷ lines_in events) l in
      let later = all_may events row.more row.between new short.1
      (answered_well f line one.frame old row.between short.0 well one.replied) row.later in
      subst F (sym (row.frames_are ∙ ap (λ l. l ++ row.more) one.frames_are))
      (inl (may_passed line one.frame one.passed (own line one.frame old row.between one.replied), later))
  all_may (report line ∷ events) frames old new short well row =
      let one = row.happens in
      let F : List Frame → Type 0 = λ l. AnswerWithPushes MayAnswerHost (Some line ∷ lines_in events) l in
      let W : LiveState → Type 0 = λ s. FollowsWell s in
      let later = all_may events row.more row.between new short.1 (subst W (sym one.same) well) row.later in
      subst F (sym (row.frames_are ∙ ap (λ l. l ++ row.more) one.frames_are))
      (inl (may_report line (host_line line) one.frame refl (reported_may (host_line line) one.frame old.state one.reported), later))
  all_may (sweep line ∷ events) frames old new short well row =
      let one = row.happens in
      let F : List Frame → Type 0 = λ l. AnswerWithPushes MayAnswerHost (Some line ∷ lines_in events) l in
      let later = all_may events row.more row.between new short.1
      (g.steps_well one.rule one.frame old row.between well one.replied) row.later in
      subst F (sym (row.frames_are ∙ ap (λ l. l ++ row.more) one.frames_are))
      (inl (step_may line one.rule one.frame one.asks (swept_may one.rule one.frame old row.between one.replied), later))
  all_may (group lines ∷ events) frames old new short well row =
      let one = row.happens in
      let F : List Frame → Type 0 = λ l. AnswerWithPushes MayAnswerHost (lines ++ lines_in events) l in
      let later = all_may events row.more row.between new (short_first lines (lines_in events) short)
      (g.well one.edits row.first old row.between well one.replied) row.later in
      subst F (sym row.frames_are)
      (with_more MayAnswerHost lines (lines_in events) row.first row.more
      (group_may lines one.edits row.first old.state row.between.state one.spell one.replied.replied) later)
  all_may (push ∷ events) frames old new short well row =
      let one = row.happens in
      let F : List Frame → Type 0 = λ l. AnswerWithPushes MayAnswerHost (lines_in events) l in
      let later = all_may events row.more row.between new short (f.push_well one.frame old row.between well one.pushed) row.later in
      subst F (sym (row.frames_are ∙ ap (λ l. l ++ row.more) one.frames_are))
      (push_first MayAnswerHost (lines_in events) one.frame row.more
      (shows_push one.frame (f.push_shows one.frame old row.between well one.pushed)) later)

  pub hosts_may : (input : List ℕ) (frames : List Frame) (old new : LiveState) → IsFirst old → HostedBy (told input) frames old new
      → AnswerWithPushes MayAnswerHost (told input) frames
  hosts_may input frames old new first by =
      let A : List (Option (List ℕ)) → Type 0 = λ l. AreShort l in
      let W : List (Option (List ℕ)) → Type 0 = λ l. AnswerWithPushes MayAnswerHost l frames in
      subst W by.lines_are (all_may by.events frames old new (subst A (sym by.lines_are) (are_short input))
      (first_well old first) by.happened)
