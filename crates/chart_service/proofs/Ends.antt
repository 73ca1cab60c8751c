-- The ends of the answering of lines, told apart.
use Rattle.std.proofs.Common.{◌≡◌, ◌≤◌, ℕ, false, Result, Ok, Err, IfErr, refl, ap, subst, arith}
use Rattle.std.specs.Prelude.{IsErrAnd, OnOk}
use Rattle.std.proofs.Math.Dec.{eqb}
use Rattle.std.proofs.lemmas.Bool.{eqb-false}
use Rattle.block_disk.specs.View.{Image, View}
use Rattle.chart_service.specs.Answering.{EndsAtBad}
use Rattle.chart_service.specs.Making.{IsReplyEnd}
use Rattle.chart_service.specs.Serving.{end_of_step}
use Rattle.chart_service.specs.Serving as serving
use Rattle.chart_service.specs.Stepping.{NamesBad, IsUnchangedFor}
use Rattle.chart_service.specs.declared.failure.AnswerEnd.{AnswerEnd}
use Rattle.chart_service.specs.declared.failure.AnswerEnd.TheVariants.{Serve, Reply}
use Rattle.chart_service.specs.declared.failure.ServiceError.{ServiceError}
use Rattle.chart_service.specs.declared.failure.ServiceError.TheVariants as step
use Rattle.chart_service.specs.declared.failure.ServeEnd.TheVariants.{ReadFault, SendFault, DiskFault, Damaged, InputTooLong, NoMemory}

-- a number for each kind of answer
abbrev kind : {T F : Type 0} → Result T (AnswerEnd F) → ℕ
kind (Ok done) = 0
kind (Err (Serve ReadFault)) = 1
kind (Err (Serve SendFault)) = 2
kind (Err (Serve DiskFault)) = 3
kind (Err (Serve (Damaged page))) = 4
kind (Err (Serve InputTooLong)) = 5
kind (Err (Serve NoMemory)) = 6
kind (Err (Reply e)) = 7

-- answers of two kinds aren't one
pub differ : {T F A : Type 0} {r s : Result T (AnswerEnd F)} → r ≡ s → eqb (kind r) (kind s) ≡ false → A
differ {r = r} {s = s} is other = absurd (eqb-false (kind r) (kind s) other (ap kind is))

pub end_is : {T F : Type 0} {e f : AnswerEnd F} → ◌≡◌ {A = Result T (AnswerEnd F)} (Err e) (Err f) → e ≡ f
end_is is = cc

pub err_is : {T E : Type 0} {e f : E} → ◌≡◌ {A = Result T E} (Err e) (Err f) → e ≡ f
err_is is = cc

-- an error says nothing of what is done
pub on_err : {T E : Type 0} (r : Result T E) (A : Type 0) (P : E → Type 0) → IsErrAnd r P → OnOk r A
on_err (Ok v) A P is = absurd is
on_err (Err e) A P is = tt

-- an error that is passed on
pub error_is : {T E : Type 0} (r : Result T E) (e : E) → IsErrAnd r (λ x. x ≡ e) → r ≡ Err e
error_is (Ok v) e is = absurd is
error_is (Err x) e is = ap Err is

-- ---- the ends of a fault of the input

-- ---- the ends of a step

pub step_unread : {T F A : Type 0} (e : ServiceError)
    → ◌≡◌ {A = Result T (AnswerEnd F)} (Err (Serve (end_of_step e))) (Err (Serve ReadFault)) → A
step_unread step.DiskFault is = differ is refl
step_unread (step.Damaged page) is = differ is refl
step_unread step.NoMemory is = differ is refl

pub step_unsent : {T F A : Type 0} (e : ServiceError)
    → ◌≡◌ {A = Result T (AnswerEnd F)} (Err (Serve (end_of_step e))) (Err (Serve SendFault)) → A
step_unsent step.DiskFault is = differ is refl
step_unsent (step.Damaged page) is = differ is refl
step_unsent step.NoMemory is = differ is refl

pub step_short : {T F A : Type 0} (e : ServiceError)
    → ◌≡◌ {A = Result T (AnswerEnd F)} (Err (Serve (end_of_step e))) (Err (Serve InputTooLong)) → A
step_short step.DiskFault is = differ is refl
step_short (step.Damaged page) is = differ is refl
step_short step.NoMemory is = differ is refl

pub step_fault : {T F : Type 0} (e : ServiceError) → ◌≡◌ {A = Result T (AnswerEnd F)} (Err (Serve (end_of_step e))) (Err (Serve DiskFault))
    → e ≡ step.DiskFault
step_fault step.DiskFault is = refl
step_fault (step.Damaged page) is = differ is refl
step_fault step.NoMemory is = differ is refl

pub step_bad : (told : Type 0) (count : ℕ) (image : Image) (e : ServiceError) → NamesBad told count image e
    → serving.EndsAtBad told count image (end_of_step e)
step_bad told count image step.DiskFault is = tt
step_bad told count image (step.Damaged page) is = is
step_bad told count image step.NoMemory is = tt

-- unless a call of the disk failed, the pages may be called
pub step_sound : (told : Type 0) (old new : View) (e : ServiceError) → old.fit → IsUnchangedFor e told old new → (e ≡ step.DiskFault → ⊥)
    → new.fit
step_sound told old new step.DiskFault fit is other = absurd (other refl)
step_sound told old new (step.Damaged page) fit is other = is.fit fit
step_sound told old new step.NoMemory fit is other = is.fit fit

-- ---- the ends of a reply: no fault of the disk or of the input, and no page

pub reply_bad : {F : Type 0} (told : Type 0) (count : ℕ) (image : Image) (end : AnswerEnd F) → IsReplyEnd end
    → EndsAtBad told count image end
reply_bad told count image (Serve ReadFault) is = tt
reply_bad told count image (Serve SendFault) is = tt
reply_bad told count image (Serve DiskFault) is = tt
reply_bad told count image (Serve (Damaged page)) is = absurd is
reply_bad told count image (Serve InputTooLong) is = tt
reply_bad told count image (Serve NoMemory) is = tt
reply_bad told count image (Reply e) is = tt

pub not_of_disk : {T F : Type 0} (r : Result T (AnswerEnd F)) → IfErr r IsReplyEnd → r ≡ Err (Serve DiskFault) → ⊥
not_of_disk {T} {F} r ends is = let P : Result T (AnswerEnd F) → Type 0 = λ x. IfErr x IsReplyEnd in subst P is ends

pub not_of_input : {T F : Type 0} (r : Result T (AnswerEnd F)) → IfErr r IsReplyEnd → r ≡ Err (Serve ReadFault) → ⊥
not_of_input {T} {F} r ends is = let P : Result T (AnswerEnd F) → Type 0 = λ x. IfErr x IsReplyEnd in subst P is ends

pub not_of_length : {T F : Type 0} (r : Result T (AnswerEnd F)) → IfErr r IsReplyEnd → r ≡ Err (Serve InputTooLong) → ⊥
not_of_length {T} {F} r ends is = let P : Result T (AnswerEnd F) → Type 0 = λ x. IfErr x IsReplyEnd in subst P is ends

-- a count that stays is no less
pub stays : (old new : ℕ) → new ≡ old → old ≤ new
stays old new same = omega (arith, same)
