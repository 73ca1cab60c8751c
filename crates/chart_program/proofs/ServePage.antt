-- The commands `serve` and `run` did as their pages say.
use Rattle.std.proofs.Common.{◌≡◌, ◌<◌, ◌^◌, ℕ, List, length, Option, None, Some, IfSome, Result, Ok, Err, refl, subst, arith}
use Rattle.block_disk.specs.View.{View}
use Rattle.gate_pages.specs.Journal.{page_count}
use Rattle.chart_client.specs.declared.errors.ClientError.TheVariants as client
use Rattle.chart_frames.specs.Frames.{key_number}
use Rattle.chart_service.specs.declared.failure.ServeEnd.TheVariants as serve_end
use Rattle.chart_world.specs.LineLaws.{told_so}
use Rattle.disk_store.specs.declared.causes.OpeningCause.TheVariants as opening
use Rattle.run_ends.specs.Statuses.{status_of}
use Rattle.run_ends.specs.declared.ending.End.{End}
use Rattle.run_ends.specs.declared.ending.End.TheVariants as ends
use Rattle.run_ends.specs.declared.status.Status.{Status}
use Rattle.store_commands.specs.Away.{TurnsAway}
use Rattle.store_commands.specs.Books.{Never}
use Rattle.store_commands.specs.Status.{opening_end}
use Rattle.store_commands.specs.Traffic.{Traffic}
use Rattle.chart_program.specs.CommandStatuses.{OpensFirst}
use Rattle.chart_program.specs.Course.{Course, IsDoneOrCut}
use Rattle.chart_program.specs.Blamed.{IsBlamed}
use Rattle.chart_program.specs.LineAnswers.{AreDrawnTexts, AreSpellings, NoneIsPassed}
use Rattle.chart_program.specs.Ended.{status_by}
use Rattle.chart_program.specs.Run.{OfRun, RejectsKey, RunDoes}
use Rattle.chart_program.specs.Serve.{AreLines, OfServe, ServeDoes, ServesLines}
use Rattle.chart_program.specs.Served.{AreTexts, Faults, Says, ServesWorld, Spelled}
use Rattle.chart_program.specs.declared.lines_end.LinesEnd.{LinesEnd}
use Rattle.chart_program.specs.declared.lines_end.LinesEnd.TheVariants as lines_end
use Rattle.chart_program.specs.declared.run_end.RunEnd.TheVariants as run_end
use Rattle.chart_program.proofs.CommandsEnd.{small_never}
use Rattle.chart_program.proofs.Ended.{told_first, told_with}

-- how a run ended by what a serving command answers
abbrev pub end_of : {T : Type 0} → Result T LinesEnd → End
end_of (Ok done) = ends.Done
end_of (Err (lines_end.Opening cause)) = opening_end cause
end_of (Err (lines_end.Answering (run_end.Serve serve_end.ReadFault))) = ends.ReadFault
end_of (Err (lines_end.Answering (run_end.Serve serve_end.SendFault))) = ends.SendFault
end_of (Err (lines_end.Answering (run_end.Serve serve_end.DiskFault))) = ends.DiskFault
end_of (Err (lines_end.Answering (run_end.Serve (serve_end.Damaged page)))) = ends.DamagedPage page
end_of (Err (lines_end.Answering (run_end.Serve serve_end.InputTooLong))) = ends.InputTooLong
end_of (Err (lines_end.Answering (run_end.Serve serve_end.NoMemory))) = ends.NoMemory
end_of (Err (lines_end.Answering (run_end.Show (client.Missing key)))) = ends.Missing (key_number key)
end_of (Err (lines_end.Answering (run_end.Show (client.BadCoefficient key)))) = ends.BadCoefficient (key_number key)
end_of (Err (lines_end.Answering (run_end.Show (client.UnknownSession number)))) = ends.UnknownSession number
end_of (Err (lines_end.Answering (run_end.Show client.NoMemory))) = ends.NoMemory

pub status_is : {T : Type 0} (answer : Result T LinesEnd) → status_by answer ≡ status_of (end_of answer)
status_is (Ok done) = refl
status_is (Err (lines_end.Opening cause)) = refl
status_is (Err (lines_end.Answering (run_end.Serve serve_end.ReadFault))) = refl
status_is (Err (lines_end.Answering (run_end.Serve serve_end.SendFault))) = refl
status_is (Err (lines_end.Answering (run_end.Serve serve_end.DiskFault))) = refl
status_is (Err (lines_end.Answering (run_end.Serve (serve_end.Damaged page)))) = refl
status_is (Err (lines_end.Answering (run_end.Serve serve_end.InputTooLong))) = refl
status_is (Err (lines_end.Answering (run_end.Serve serve_end.NoMemory))) = refl
status_is (Err (lines_end.Answering (run_end.Show (client.Missing key)))) = refl
status_is (Err (lines_end.Answering (run_end.Show (client.BadCoefficient key)))) = refl
status_is (Err (lines_end.Answering (run_end.Show (client.UnknownSession number)))) = refl
status_is (Err (lines_end.Answering (run_end.Show client.NoMemory))) = refl

-- this is so of any input
each_told : (o : Option (List ℕ)) (IsSo : List ℕ → Type 0) → ((input : List ℕ) → IsSo input) → IfSome o IsSo
each_told None IsSo so = tt
each_told (Some input) IsSo so = so input

-- what passed by this traffic from one disk to another
abbrev pub passed : View → View → Traffic → Course
passed old new t = record { old = old; new = new; left = t.left; left_now = t.left_now; sent = t.sent; sent_now = t.sent_now }

module _ {T : Type 0} (old new : View) (t : Traffic) (faults : Faults) where
  -- what a serving of a world did
  abbrev Did : Says → Type 0 → Result T LinesEnd → Type 0
  Did IsText CanShow answer = ServesWorld IsText CanShow old new t.left t.left_now t.sent t.sent_now faults answer

  serve_does : (answer : Result T LinesEnd) → Did Spelled ⊥ answer → OpensFirst old t answer
      → ServeDoes Spelled (passed old new t) (end_of answer)
  serve_does (Ok done) s first = (s.within, s.done)
  serve_does (Err (lines_end.Opening (opening.TooSmall size))) s first = (s.cause.0, omega (arith, s.cause.0, s.cause.1))
  serve_does (Err (lines_end.Opening (opening.Damaged block))) s
      first = (record { at_first = s.cause.1; took_nothing = first.left_is; sent_nothing = first.sent_is }, told_first t.left _ _ s.ends)
  serve_does (Err (lines_end.Opening opening.DiskFault)) s first = s.ends
  serve_does (Err (lines_end.Opening opening.NoMemory)) s first = s.ends
  serve_does (Err (lines_end.Answering (run_end.Serve serve_end.ReadFault))) s first = s.ends
  serve_does (Err (lines_end.Answering (run_end.Serve serve_end.SendFault))) s first = s.ends
  serve_does (Err (lines_end.Answering (run_end.Serve serve_end.DiskFault))) s first = s.ends
  serve_does (Err (lines_end.Answering (run_end.Serve (serve_end.Damaged page)))) s first = (s.cause, s.ends)
  serve_does (Err (lines_end.Answering (run_end.Serve serve_end.InputTooLong))) s first = (s.long refl, s.ends)
  serve_does (Err (lines_end.Answering (run_end.Serve serve_end.NoMemory))) s first = s.ends
  serve_does (Err (lines_end.Answering (run_end.Show (client.Missing key)))) s first = absurd s.cause.0
  serve_does (Err (lines_end.Answering (run_end.Show (client.BadCoefficient key)))) s first = absurd s.cause.0
  serve_does (Err (lines_end.Answering (run_end.Show (client.UnknownSession number)))) s first = absurd s.cause
  serve_does (Err (lines_end.Answering (run_end.Show client.NoMemory))) s first = s.ends

  run_does : (answer : Result T LinesEnd) → Did AreTexts (Unit {0}) answer → OpensFirst old t answer
      → RunDoes (passed old new t) (end_of answer)
  run_does (Ok done) s first = (s.within, s.done)
  run_does (Err (lines_end.Opening (opening.TooSmall size))) s first = (s.cause.0, omega (arith, s.cause.0, s.cause.1))
  run_does (Err (lines_end.Opening (opening.Damaged block))) s
      first = (record { at_first = s.cause.1; took_nothing = first.left_is; sent_nothing = first.sent_is }, told_first t.left _ _ s.ends)
  run_does (Err (lines_end.Opening opening.DiskFault)) s first = s.ends
  run_does (Err (lines_end.Opening opening.NoMemory)) s first = s.ends
  run_does (Err (lines_end.Answering (run_end.Serve serve_end.ReadFault))) s first = s.ends
  run_does (Err (lines_end.Answering (run_end.Serve serve_end.SendFault))) s first = s.ends
  run_does (Err (lines_end.Answering (run_end.Serve serve_end.DiskFault))) s first = s.ends
  run_does (Err (lines_end.Answering (run_end.Serve (serve_end.Damaged page)))) s first = (s.cause, s.ends)
  run_does (Err (lines_end.Answering (run_end.Serve serve_end.InputTooLong))) s first = (s.long refl, s.ends)
  run_does (Err (lines_end.Answering (run_end.Serve serve_end.NoMemory))) s first = s.ends
  run_does (Err (lines_end.Answering (run_end.Show (client.Missing key)))) s first =
      told_with t.left (λ input. Never (page_count old.size) old) (RejectsKey (passed old new t) client.Missing (key_number key)) s.ends
      (key, refl, s.cause.2)
  run_does (Err (lines_end.Answering (run_end.Show (client.BadCoefficient key)))) s first =
      told_with t.left (λ input. Never (page_count old.size) old)
      (RejectsKey (passed old new t) client.BadCoefficient (key_number key)) s.ends (key, refl, s.cause.2)
  run_does (Err (lines_end.Answering (run_end.Show (client.UnknownSession number)))) s first = absurd s.cause
  run_does (Err (lines_end.Answering (run_end.Show client.NoMemory))) s first = s.ends

  -- with good input it is done, a stream fails, or there is no memory
  module _ (IsText : Says) (CanShow : Type 0) where
    abbrev IsGood : Result T LinesEnd → List ℕ → Type 0
    IsGood answer input = AreLines old new input → IsDoneOrCut (end_of answer)

    -- a disk that holds a book never ends so
    never_good : (answer : Result T LinesEnd) → IfSome t.left (λ input. Never (page_count old.size) old) → IfSome t.left (IsGood answer)
    never_good answer never =
        told_so (λ input. Never (page_count old.size) old) (IsGood answer) t.left
        (λ input none r. absurd (none r.total r.book r.holds)) never

    good : (answer : Result T LinesEnd) → Did IsText CanShow answer → IfSome t.left (IsGood answer)
    good (Ok done) s = each_told t.left (IsGood (Ok done)) (λ input r. tt)
    good (Err (lines_end.Opening (opening.TooSmall size))) s = each_told t.left (IsGood (Err (lines_end.Opening (opening.TooSmall size))))
        (λ input r. absurd (small_never old r.total r.book r.holds (omega (arith, s.cause.0, s.cause.1))))
    good (Err (lines_end.Opening (opening.Damaged block))) s = never_good (Err (lines_end.Opening (opening.Damaged block)))
        (told_first t.left _ _ s.ends)
    good (Err (lines_end.Opening opening.DiskFault)) s = each_told t.left (IsGood (Err (lines_end.Opening opening.DiskFault)))
        (λ input r. absurd (r.whole s.cause))
    good (Err (lines_end.Opening opening.NoMemory)) s = each_told t.left (IsGood (Err (lines_end.Opening opening.NoMemory))) (λ input r. tt)
    good (Err (lines_end.Answering (run_end.Serve serve_end.ReadFault))) s = each_told t.left
        (IsGood (Err (lines_end.Answering (run_end.Serve serve_end.ReadFault)))) (λ input r. tt)
    good (Err (lines_end.Answering (run_end.Serve serve_end.SendFault))) s = each_told t.left
        (IsGood (Err (lines_end.Answering (run_end.Serve serve_end.SendFault)))) (λ input r. tt)
    good (Err (lines_end.Answering (run_end.Serve serve_end.DiskFault))) s = each_told t.left
        (IsGood (Err (lines_end.Answering (run_end.Serve serve_end.DiskFault)))) (λ input r. absurd (r.whole s.cause))
    good (Err (lines_end.Answering (run_end.Serve (serve_end.Damaged page)))) s = never_good
        (Err (lines_end.Answering (run_end.Serve (serve_end.Damaged page)))) s.ends
    good (Err (lines_end.Answering (run_end.Serve serve_end.InputTooLong))) s =
        told_so (λ input. 2 ^ 32 < length input) (IsGood (Err (lines_end.Answering (run_end.Serve serve_end.InputTooLong)))) t.left
        (λ input long r. absurd (omega (arith, r.short, long))) (s.long refl)
    good (Err (lines_end.Answering (run_end.Serve serve_end.NoMemory))) s = each_told t.left
        (IsGood (Err (lines_end.Answering (run_end.Serve serve_end.NoMemory)))) (λ input r. tt)
    good (Err (lines_end.Answering (run_end.Show (client.Missing key)))) s = never_good
        (Err (lines_end.Answering (run_end.Show (client.Missing key)))) s.ends
    good (Err (lines_end.Answering (run_end.Show (client.BadCoefficient key)))) s = never_good
        (Err (lines_end.Answering (run_end.Show (client.BadCoefficient key)))) s.ends
    good (Err (lines_end.Answering (run_end.Show (client.UnknownSession number)))) s = absurd s.cause
    good (Err (lines_end.Answering (run_end.Show client.NoMemory))) s = each_told t.left
        (IsGood (Err (lines_end.Answering (run_end.Show client.NoMemory)))) (λ input r. tt)

    serves_lines : (answer : Result T LinesEnd) → Did IsText CanShow answer → TurnsAway old t (status_by answer)
        → ServesLines IsText (passed old new t) (end_of answer)
    serves_lines answer s away =
        let A : Status → Type 0 = λ status. TurnsAway old t status in
        record {
          store = record { goes_on = s.goes_on; away = subst A (status_is answer) away };
          crash = s.crash;
          reads = s.reads;
          syncs = s.syncs;
          good = good answer s;
        }

  pub of_serve : (answer : Result T LinesEnd) → Did Spelled ⊥ answer → OpensFirst old t answer → TurnsAway old t (status_by answer)
      → NoneIsPassed AreSpellings (passed old new t) (end_of answer) → IsBlamed AreSpellings (passed old new t) (end_of answer)
      → OfServe (passed old new t) (end_of answer)
  of_serve answer s first away none blamed = (serve_does answer s first, serves_lines Spelled ⊥ answer s away, none, blamed)

  pub of_run : (answer : Result T LinesEnd) → Did AreTexts (Unit {0}) answer → OpensFirst old t answer → TurnsAway old t (status_by answer)
      → NoneIsPassed AreDrawnTexts (passed old new t) (end_of answer) → IsBlamed AreDrawnTexts (passed old new t) (end_of answer)
      → OfRun (passed old new t) (end_of answer)
  of_run answer s first away none blamed = (run_does answer s first, serves_lines AreTexts (Unit {0}) answer s away, none, blamed)
