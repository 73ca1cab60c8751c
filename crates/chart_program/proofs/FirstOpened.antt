-- What a serving command says of the opening of its store, by its status.
use Rattle.std.proofs.Common.{◌≡◌, ◌<◌, ◌≤◌, Result, Ok, Err, refl, sym, subst, inl, inr, arith}
use Rattle.std.specs.Prelude.{IfErr}
use Rattle.block_disk.specs.View.{View}
use Rattle.chart_client.specs.declared.errors.ClientError.TheVariants as client
use Rattle.disk_store.specs.declared.causes.OpeningCause.TheVariants as opening
use Rattle.chart_service.specs.declared.failure.ServeEnd.TheVariants as serve_end
use Rattle.run_ends.specs.declared.status.Status.{Status}
use Rattle.store_commands.specs.Traffic.{Traffic}
use Rattle.store_commands.specs.Away.{IsTurnedAway, TurnsAway}
use Rattle.store_commands.proofs.TurnedAway.{away_by}
use Rattle.chart_program.specs.declared.lines_end.LinesEnd.{LinesEnd}
use Rattle.chart_program.specs.declared.lines_end.LinesEnd.TheVariants as lines_end
use Rattle.chart_program.specs.declared.run_end.RunEnd.{RunEnd}
use Rattle.chart_program.specs.declared.run_end.RunEnd.TheVariants as run_end
use Rattle.chart_program.specs.CommandStatuses.{OpensFirst, IsBarredBy}
use Rattle.chart_program.specs.Ended.{status_by}
use Rattle.chart_program.specs.Served.{Faults, IsWorldCause, in_world}
use Rattle.chart_program.proofs.Apart.{apart}

-- a store was opened, so the disk is large enough
first_in : {T : Type 0} (old : View) (t : Traffic) (answer : Result T RunEnd) → 128 ≤ old.size → OpensFirst old t (in_world answer)
first_in old t (Ok done) large = large
first_in old t (Err end) large = large

pub first_so : {T : Type 0} (old : View) (t : Traffic) (answer : Result T RunEnd) (told : Result T LinesEnd) → told ≡ in_world answer
    → 128 ≤ old.size → OpensFirst old t told
first_so {T} old t answer told is large =
    let P : Result T LinesEnd → Type 0 = λ r. OpensFirst old t r in
    subst P (sym is) (first_in old t answer large)

-- over a disk that is too small it was turned away
away_lines : {T : Type 0} (CanShow : Type 0) (old new : View) (t : Traffic) (faults : Faults) (answer : Result T LinesEnd)
    → OpensFirst old t answer → IfErr answer (λ end. IsWorldCause CanShow old new t.sent t.sent_now faults end) → old.size < 128
    → IsTurnedAway t.left t.left_now t.sent t.sent_now (status_by answer).code
away_lines CanShow old new t faults (Ok done) first cause few = absurd (omega (arith, first, few))
away_lines CanShow old new t faults (Err (lines_end.Opening why)) first cause few = away_by old new t.left t.left_now t.sent t.sent_now why
    cause few first.left_is first.sent_is
away_lines CanShow old new t faults (Err (lines_end.Answering end)) first cause few = absurd (omega (arith, first, few))

pub away_served : {T : Type 0} (CanShow : Type 0) (old new : View) (t : Traffic) (faults : Faults) (answer : Result T LinesEnd)
    (status : Status) → status ≡ status_by answer → OpensFirst old t answer
    → IfErr answer (λ end. IsWorldCause CanShow old new t.sent t.sent_now faults end)
    → TurnsAway old t status
away_served CanShow old new t faults answer status is first cause few =
    let P : Status → Type 0 = λ s. IsTurnedAway t.left t.left_now t.sent t.sent_now s.code in
    subst P (sym is) (away_lines CanShow old new t faults answer first cause few)

-- a block that is called damaged was found so at the opening, or as lines were answered
barred_lines : {T : Type 0} (CanShow : Type 0) (old new : View) (t : Traffic) (faults : Faults) (answer : Result T LinesEnd)
    → OpensFirst old t answer → IfErr answer (λ end. IsWorldCause CanShow old new t.sent t.sent_now faults end)
    → IsBarredBy old new t (status_by answer)
barred_lines CanShow old new t faults (Ok done) first cause is = apart is refl
barred_lines CanShow old new t faults (Err (lines_end.Opening (opening.TooSmall size))) first cause is = apart is refl
barred_lines CanShow old new t faults (Err (lines_end.Opening (opening.Damaged block))) first cause is = inl (
  first.place,
  (first.left_is, first.sent_is),
)
barred_lines CanShow old new t faults (Err (lines_end.Opening opening.DiskFault)) first cause is = apart is refl
barred_lines CanShow old new t faults (Err (lines_end.Opening opening.NoMemory)) first cause is = apart is refl
barred_lines CanShow old new t faults (Err (lines_end.Answering (run_end.Serve serve_end.ReadFault))) first cause is = apart is refl
barred_lines CanShow old new t faults (Err (lines_end.Answering (run_end.Serve serve_end.SendFault))) first cause is = apart is refl
barred_lines CanShow old new t faults (Err (lines_end.Answering (run_end.Serve serve_end.DiskFault))) first cause is = apart is refl
barred_lines CanShow old new t faults (Err (lines_end.Answering (run_end.Serve (serve_end.Damaged page)))) first cause is = inr cause
barred_lines CanShow old new t faults (Err (lines_end.Answering (run_end.Serve serve_end.InputTooLong))) first cause is = apart is refl
barred_lines CanShow old new t faults (Err (lines_end.Answering (run_end.Serve serve_end.NoMemory))) first cause is = apart is refl
barred_lines CanShow old new t faults (Err (lines_end.Answering (run_end.Show (client.Missing key)))) first cause is = apart is refl
barred_lines CanShow old new t faults (Err (lines_end.Answering (run_end.Show (client.BadCoefficient key)))) first cause is = apart is refl
barred_lines CanShow old new t faults (Err (lines_end.Answering (run_end.Show (client.UnknownSession number)))) first cause is = apart is
    refl
barred_lines CanShow old new t faults (Err (lines_end.Answering (run_end.Show client.NoMemory))) first cause is = apart is refl

pub barred_served : {T : Type 0} (CanShow : Type 0) (old new : View) (t : Traffic) (faults : Faults) (answer : Result T LinesEnd)
    (status : Status) → status ≡ status_by answer → OpensFirst old t answer
    → IfErr answer (λ end. IsWorldCause CanShow old new t.sent t.sent_now faults end)
    → IsBarredBy old new t status
barred_served CanShow old new t faults answer status is first cause =
    let P : Status → Type 0 = λ s. IsBarredBy old new t s in
    subst P (sym is) (barred_lines CanShow old new t faults answer first cause)
