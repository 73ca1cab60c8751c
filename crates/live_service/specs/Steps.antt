-- What a service's answer to a line does, and a repeat of a view: all that the contracts of these calls say.
use Rattle.std.specs.Prelude.{ℕ, ◌≡◌, ◌≢◌, ◌≤◌, ◌+◌, ◌*◌, List, [], length, All, None, Some, Result, Err, IfOk, IfErr, OnErr}
use Rattle.block_disk.specs.Counts.{HasRisen}
use Rattle.block_disk.specs.View.{Now}
use Rattle.chart_frames.specs.declared.frame.Frame.{Frame}
use Rattle.gate_pages.specs.Pages.{GoesOn}
use Rattle.gate_pages.specs.declared.pages.Pages.{Ghosts}
use Rattle.series_store.specs.Results.{IsUnchanged}
use Rattle.chart_service.specs.Alone.{session_named}
use Rattle.chart_world.specs.Faults.{CountsFault, fault_in}
use Rattle.chart_service.specs.Faulting.{step_fault}
use Rattle.chart_service.specs.Called.{AnswersSo, CommitsOnly, ForLast, IsCause, IsCauseOfLine, LineBlamed, ReadsFewFor, RequestBlamed}
use Rattle.chart_service.specs.EditDamage.{NamesBadForEdit}
use Rattle.chart_service.specs.EditGroups.{AnswersSome, IsEditReply, RepliesToEdits}
use Rattle.chart_service.specs.Kinds.{MayAnswerLine, MayShow}
use Rattle.chart_service.specs.LastShown.{LastsBy, OfRowsLine}
use Rattle.chart_service.specs.Opening.{OpensBy, LosesAtMost}
use Rattle.chart_service.specs.Replies.{Replied, line_text, own_zoom}
use Rattle.chart_service.specs.Shown as shown
use Rattle.chart_service.specs.Stepping.{RepliedTo, NamesBad, IsOutside, Steps, ReadsFew}
use Rattle.chart_service.specs.Syncing.{edit_of, group_syncs}
use Rattle.chart_service.specs.declared.failure.ServiceError.{ServiceError}
use Rattle.chart_service.specs.declared.failure.ServiceError.TheVariants.{DiskFault}
use Rattle.chart_service.specs.declared.service.Service.{Service}
use Rattle.series_book.specs.declared.edits.Edit.{Edit}

module _ {P : Type 0} {g : Ghosts P} where
  -- a line is answered, or why it isn't
  pub record AnswersLine (line : List ℕ) (result : Result Frame ServiceError) (old new : Service P g) : Type 0 where
    pub reply : shown.ForBook old (λ total book. IfOk result (AnswersSo (Replied (line_text line)) total book old new))
    pub standing : shown.ForBook old (λ total book. IfErr result IsOutside)
    pub moments : shown.ForBook old (λ total book. shown.PassesBy (Replied (line_text line)) total book old new)
    pub reads : shown.ForBook old (λ total book. ReadsFewFor (line_text line) total book old new)
    pub opens : IfOk result (λ frame. OpensBy frame (shown.sessions old) (shown.sessions new))
    pub sessions : OnErr result (LosesAtMost (session_named (line_text line)) (shown.sessions old) (shown.sessions new))
    pub may : IfOk result (λ frame. MayAnswerLine (line_text line) frame)
    pub lasts : IfOk result (λ frame. LastsBy (OfRowsLine (line_text line)) frame (shown.sessions old) (shown.sessions new))
    pub unchanged : CommitsOnly result old new
    pub idle : edit_of (line_text line) ≡ [] → IsUnchanged (shown.IsTold old) (shown.view old) (shown.view new)
    pub cause : IfErr result (IsCauseOfLine (line_text line) old new)
    pub blames : IfErr result (LineBlamed (line_text line) old new)
    pub disk : result ≡ Err DiskFault → HasRisen (shown.view old).faults (shown.view new).faults
    pub faults : CountsFault (fault_in step_fault result) (shown.view old) (shown.view new)
    pub bad : IfErr result (NamesBad (shown.IsTold new) (shown.view new).size (shown.image new))
    pub steps : Steps (shown.IsTold old) (shown.IsTold new) (shown.view old) (shown.view new)
    pub goes_on : GoesOn (shown.under old) (shown.under new)
    pub total : shown.total new ≡ shown.total old

  -- a zoom of a session to the window of its last view is answered, or why it isn't
  pub record RepeatsView (session : ℕ) (result : Result Frame ServiceError) (old new : Service P g) : Type 0 where
    pub reply : ForLast session old (λ last. shown.ForBook old
        (λ total book. IfOk result (AnswersSo (RepliedTo (own_zoom session last)) total book old new)))
    pub standing : shown.ForBook old (λ total book. IfErr result IsOutside)
    pub moments : shown.PassesTo (Now (shown.view old)) old new
    pub reads : ForLast session old (λ last. shown.ForBook old
        (λ total book. ReadsFew (own_zoom session last) book (shown.sessions old) (shown.view old).reads (shown.view new).reads))
    pub opens : IfOk result (λ frame. OpensBy frame (shown.sessions old) (shown.sessions new))
    pub sessions : OnErr result (LosesAtMost (Some session) (shown.sessions old) (shown.sessions new))
    pub may : IfOk result (λ frame. MayShow session frame)
    pub lasts : IfOk result (λ frame. LastsBy (λ was. was) frame (shown.sessions old) (shown.sessions new))
    pub idle : IsUnchanged (shown.IsTold old) (shown.view old) (shown.view new)
    pub cause : ForLast session old (λ last. IfErr result (IsCause (own_zoom session last) old new))
    pub blames : ForLast session old (λ last. IfErr result (RequestBlamed (own_zoom session last) old new))
    pub faults : CountsFault (fault_in step_fault result) (shown.view old) (shown.view new)
    pub bad : IfErr result (NamesBad (shown.IsTold new) (shown.view new).size (shown.image new))
    pub steps : Steps (shown.IsTold old) (shown.IsTold new) (shown.view old) (shown.view new)
    pub goes_on : GoesOn (shown.under old) (shown.under new)
    pub total : shown.total new ≡ shown.total old

  -- what edits do that are done together, answered or not
  pub record DoesTogether (edits : List Edit) (old new : Service P g) : Type 0 where
    pub moments : shown.ForBook old (λ total book. shown.PassesTo (AnswersSome edits (shown.state old total book)) old new)
    pub reads : shown.ForBook old (λ total book. (shown.view new).reads ≤ (shown.view old).reads + 96 * length edits)
    pub syncs : shown.ForBook old (λ total book. (shown.view new).syncs ≤ (shown.view old).syncs + group_syncs total book edits)
    pub sessions : shown.sessions new ≡ shown.sessions old
    pub moves : shown.MovesSo old new
    pub goes_on : GoesOn (shown.under old) (shown.under new)
    pub total : shown.total new ≡ shown.total old

  -- they are answered by these frames
  pub record AnswersEdits (edits : List Edit) (frames : List Frame) (old new : Service P g) : Type 0 where
    pub reply : shown.ForBook old (λ total book. shown.StandsSo total new (RepliesToEdits edits frames (shown.state old total book)))
    pub left : shown.ForBook old (λ total book. AnswersSome edits (shown.state old total book) (shown.image new))
    pub replies : All IsEditReply frames
    pub does : DoesTogether edits old new
    pub faults : CountsFault None (shown.view old) (shown.view new)

  -- or why they aren't
  pub record LosesEdits (edits : List Edit) (error : ServiceError) (old new : Service P g) : Type 0 where
    pub standing : shown.ForBook old (λ total book. IsOutside error)
    pub left : shown.ForBook old (λ total book. error ≢ DiskFault → AnswersSome edits (shown.state old total book) (shown.image new))
    pub does : DoesTogether edits old new
    pub disk : error ≡ DiskFault → HasRisen (shown.view old).faults (shown.view new).faults
    pub faults : CountsFault (step_fault error) (shown.view old) (shown.view new)
    pub bad : NamesBad (shown.IsTold new) (shown.view new).size (shown.image new) error
    pub blames : NamesBadForEdit (shown.IsTold new) (shown.view new).size (shown.image new) error
    pub sound : error ≢ DiskFault → (shown.view new).fit
