-- The counts of faults behind the calls of a service.
use Rattle.std.proofs.Common.{◌≡◌, ◌∙◌, ℕ, true, false, List, Option, None, Result, Ok, Err, IfErr, refl, sym, ap, subst}
use Rattle.std.specs.Prelude.{OnErr, OnOk, IsErrAnd, is_err, ◌≢◌}
use Rattle.block_disk.specs.Counts.{HasRisen}
use Rattle.block_disk.specs.View.{View, DiskKept}
use Rattle.chart_world.specs.Faults.{Fault, FaultCounts, CountsFault, fault_in, faults_of}
use Rattle.chart_world.specs.FaultLaws.{counts_disk, counts_no_disk, counts_kept, counts_untaken}
use Rattle.chart_world.specs.declared.line_answer.LineFault.{LineFault}
use Rattle.chart_world.specs.declared.line_answer.LineFault.TheVariants as fault
use Rattle.page_space.specs.declared.superblock.Superblock.{Superblock}
use Rattle.request_lines.specs.declared.requests.Request.{Request}
use Rattle.series_catalog.specs.declared.stored_series.StoredSeries.{StoredSeries}
use Rattle.zoom_session.specs.declared.session.Session.{Session}
use Rattle.chart_service.specs.Faulting.{step_fault, serve_fault, answer_fault}
use Rattle.chart_service.specs.Looking.{IsViewCause}
use Rattle.chart_service.specs.Serving.{end_of, end_of_step}
use Rattle.chart_service.specs.Spelled.{serve_end}
use Rattle.chart_service.specs.Stepping.{IsStepCause}
use Rattle.chart_service.specs.declared.failure.AnswerEnd.{AnswerEnd}
use Rattle.chart_service.specs.declared.failure.AnswerEnd.TheVariants.{Serve, Reply}
use Rattle.std.specs.declared.alloc.AllocError.{AllocError}
use Rattle.chart_service.specs.declared.failure.ServiceError.{ServiceError}
use Rattle.chart_service.specs.declared.failure.ServiceError.TheVariants.{DiskFault, Damaged, NoMemory}

-- a call of the disk alone counts its fault
pub counts_error : (e : ServiceError) (old new : View) → new.beside ≡ old.beside → (e ≡ DiskFault → HasRisen old.faults new.faults)
    → (e ≢ DiskFault → new.faults ≡ old.faults) → CountsFault (step_fault e) old new
counts_error DiskFault old new beside risen quiet = counts_disk old new beside (risen refl)
counts_error (Damaged page) old new beside risen quiet = counts_no_disk old new beside (quiet (λ is. cc))
counts_error NoMemory old new beside risen quiet = counts_no_disk old new beside (quiet (λ is. cc))

pub counts_step : {T : Type 0} (r : Result T ServiceError) (old new : View) → new.beside ≡ old.beside
    → IfErr r (λ e. e ≡ DiskFault → HasRisen old.faults new.faults) → OnOk r (new.faults ≡ old.faults)
    → IfErr r (λ e. e ≢ DiskFault → new.faults ≡ old.faults)
    → CountsFault (fault_in step_fault r) old new
counts_step (Ok value) old new beside risen quiet quiet_err = counts_no_disk old new beside quiet
counts_step (Err e) old new beside risen quiet quiet_err = counts_error e old new beside risen quiet_err

-- why a fault of the disk was counted
cause_risen : (request : Request) (e : ServiceError) (told : Type 0) (catalog : List StoredSeries) (sessions : List Session)
    (s : Superblock) (old new : View) → IsStepCause request e told catalog sessions s old new → e ≡ DiskFault
    → HasRisen old.faults new.faults
cause_risen request DiskFault told catalog sessions s old new cause is = cause
cause_risen request (Damaged page) told catalog sessions s old new cause is = absurd (cc (is))
cause_risen request NoMemory told catalog sessions s old new cause is = absurd (cc (is))

pub step_risen : {T : Type 0} (r : Result T ServiceError) (request : Request) (told : Type 0) (catalog : List StoredSeries)
    (sessions : List Session) (s : Superblock) (old new : View) → IfErr r (λ e. IsStepCause request e told catalog sessions s old new)
    → IfErr r (λ e. e ≡ DiskFault → HasRisen old.faults new.faults)
step_risen (Ok value) request told catalog sessions s old new cause = tt
step_risen (Err e) request told catalog sessions s old new cause = cause_risen request e told catalog sessions s old new cause

view_cause_risen : (IsShown : ℕ → Type 0) (e : ServiceError) (told : Type 0) (catalog : List StoredSeries) (total : ℕ) (old new : View)
    → IsViewCause IsShown e told catalog total old new → e ≡ DiskFault → HasRisen old.faults new.faults
view_cause_risen IsShown DiskFault told catalog total old new cause is = cause
view_cause_risen IsShown (Damaged page) told catalog total old new cause is = absurd (cc (is))
view_cause_risen IsShown NoMemory told catalog total old new cause is = absurd (cc (is))

pub view_risen : {T : Type 0} (IsShown : ℕ → Type 0) (r : Result T ServiceError) (told : Type 0) (catalog : List StoredSeries) (total : ℕ)
    (old new : View) → IfErr r (λ e. IsViewCause IsShown e told catalog total old new)
    → IfErr r (λ e. e ≡ DiskFault → HasRisen old.faults new.faults)
view_risen IsShown (Ok value) told catalog total old new cause = tt
view_risen IsShown (Err e) told catalog total old new cause = view_cause_risen IsShown e told catalog total old new cause

-- ---- ends

step_end : (F : Type 0) (e : ServiceError) → answer_fault {F = F} (Serve (end_of_step e)) ≡ step_fault e
step_end F DiskFault = refl
step_end F (Damaged page) = refl
step_end F NoMemory = refl

-- an error that is passed on tells the same fault
pub fault_goes : {T E : Type 0} (tells : E → Option Fault) (r : Result T E) (e : E) (old new : View) → IsErrAnd r (λ x. x ≡ e)
    → CountsFault (tells e) old new → CountsFault (fault_in tells r) old new
fault_goes tells (Ok value) e old new is counts = absurd is
fault_goes tells (Err x) e old new is counts = let P : Option Fault → Type 0 = λ f. CountsFault f old new in
    subst P (ap tells (sym is)) counts

-- so of an error of a step
pub step_goes : {T F : Type 0} (r : Result T (AnswerEnd F)) (e : ServiceError) (old new : View)
    → IsErrAnd r (λ x. x ≡ Serve (end_of_step e)) → CountsFault (step_fault e) old new → CountsFault (fault_in answer_fault r) old new
step_goes {T} {F} r e old new is counts =
    let P : Option Fault → Type 0 = λ f. CountsFault f old new in
    fault_goes answer_fault r (Serve (end_of_step e)) old new is (subst P (sym (step_end F e)) counts)

-- and of a serving
pub serve_goes : {T : Type 0} (r : Result T (AnswerEnd AllocError)) (old new : View) → CountsFault (fault_in answer_fault r) old new
    → CountsFault (fault_in serve_fault (serve_end r)) old new
serve_goes (Ok done) old new counts = counts
serve_goes (Err (Serve e)) old new counts = counts
serve_goes (Err (Reply e)) old new counts = counts

-- where no fault was counted, each count stays
pub count_stays : {W : Type 0} (view : W → View) (part : FaultCounts → ℕ) (count : W → ℕ) → ((w : W) → part (faults_of (view w)) ≡ count w)
    → (old new : W) → CountsFault None (view old) (view new) → count new ≡ count old
count_stays view part count is old new same = sym (is new) ∙ ap part same ∙ is old

-- a fault of the lines
pub counts_lines : {W : Type 0} (f : LineFault) (view : W → View) (takes sends : W → ℕ) → ((w : W) → (view w).beside.read_faults ≡ takes w)
    → ((w : W) → (view w).beside.send_faults ≡ sends w)
    → (old new : W) → DiskKept (view old) (view new) → (f ≡ fault.ReadFault → HasRisen (takes old) (takes new))
    → (f ≢ fault.ReadFault → takes new ≡ takes old) → sends new ≡ sends old → CountsFault (serve_fault (end_of f)) (view old) (view new)
counts_lines fault.ReadFault view takes sends taken sent old new kept risen quiet same_sends = counts_untaken view takes sends taken sent
    old new kept (risen refl) same_sends
counts_lines fault.InputTooLong view takes sends taken sent old new kept risen quiet same_sends = counts_kept view takes sends taken sent
    old new kept (quiet (λ is. cc)) same_sends

-- ---- what is said of a result

pub of_err : {T E : Type 0} (r : Result T E) (A : Type 0) → is_err r ≡ true → OnErr r A → A
of_err (Ok value) A is so = absurd (cc (is))
of_err (Err e) A is so = so

pub of_ok : {T E : Type 0} (r : Result T E) (A : Type 0) → is_err r ≡ false → OnOk r A → A
of_ok (Ok value) A is so = so
of_ok (Err e) A is so = absurd (cc (is))

pub quiet_any : {T E : Type 0} (r : Result T E) (Q : E → Type 0) (P : Type 0) → P → IfErr r (λ e. Q e → P)
quiet_any (Ok value) Q P is = tt
quiet_any (Err e) Q P is = λ other. is
