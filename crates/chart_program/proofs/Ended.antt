-- How a serving command ends, by its status.
use Rattle.std.proofs.Common.{◌≡◌, ℕ, List, Option, Some, None, Result, Ok, Err, IfSome, refl, sym, subst, inl, inr, arith}
use Rattle.std.specs.Prelude.{IfErr}
use Rattle.block_disk.specs.View.{View}
use Rattle.chart_client.specs.declared.errors.ClientError.TheVariants as client
use Rattle.disk_store.specs.declared.causes.OpeningCause.TheVariants as opening
use Rattle.chart_service.specs.declared.failure.ServeEnd.TheVariants as serve_end
use Rattle.chart_program.specs.declared.lines_end.LinesEnd.{LinesEnd}
use Rattle.chart_program.specs.declared.lines_end.LinesEnd.TheVariants as lines_end
use Rattle.chart_program.specs.declared.run_end.RunEnd.TheVariants as run_end
use Rattle.store_commands.specs.Codes.{low_code}
use Rattle.run_ends.specs.declared.status.Status.{Status}
use Rattle.chart_program.specs.Ended.{EndsBy, HasNumberedKey, status_by}
use Rattle.chart_program.specs.Served.{Says, Faults, IsWorldCause, ServesWorld}
use Rattle.chart_program.proofs.Codes.{told_long}
use Rattle.chart_program.proofs.Apart.{apart}

-- the first of two facts, where the input is told
pub told_first : (o : Option (List ℕ)) (P Q : List ℕ → Type 0) → IfSome o (λ input. P input × Q input) → IfSome o P
told_first None P Q both = tt
told_first (Some input) P Q both = both.0

-- a fact more
pub told_with : (o : Option (List ℕ)) (P : List ℕ → Type 0) (Q : Type 0) → IfSome o P → Q → IfSome o (λ input. P input × Q)
told_with None P Q first second = tt
told_with (Some input) P Q first second = (first, second)

-- each code comes from its ends alone
pub ends_by : {T : Type 0} (IsText : Says) (CanShow : Type 0) (old new : View) (left left' before now : Option (List ℕ)) (faults : Faults)
    (answer : Result T LinesEnd) → ServesWorld IsText CanShow old new left left' before now faults answer
    → EndsBy IsText CanShow old new left left' before now faults (status_by answer).code (status_by answer).place
ends_by IsText CanShow old new left left' before now faults (Ok u) s = record {
  codes = (0, omega arith, refl);
  done = λ is. s.done;
  within = λ is. s.within;
  memory = λ is. apart is refl;
  read = λ is. apart is refl;
  stopped = λ is. apart is refl;
  send = λ is. apart is refl;
  part = λ is. apart is refl;
  fault = λ is. apart is refl;
  faulted = λ is. apart is refl;
  damaged = λ is. apart is refl;
  undamaged = λ is. apart is refl;
  much = λ is. apart is refl;
  missing = λ is. apart is refl;
  misfit = λ is. apart is refl;
  small = λ is. apart is refl;
  opened = λ is. apart is refl;
  zero_place = λ is. refl;
  holds = λ other. s.holds (λ e. cc);
  crash = s.crash;
  reads = s.reads;
  syncs = s.syncs;
  honest = s.honest;
  goes_on = s.goes_on;
}
ends_by IsText CanShow old new left left' before now faults (Err (lines_end.Opening (opening.TooSmall size))) s = record {
  codes = (9, omega arith, refl);
  done = λ is. apart is refl;
  within = λ is. apart is refl;
  memory = λ is. apart is refl;
  read = λ is. apart is refl;
  stopped = λ is. apart is refl;
  send = λ is. apart is refl;
  part = λ is. apart is refl;
  fault = λ is. apart is refl;
  faulted = λ is. apart is refl;
  damaged = λ is. apart is refl;
  undamaged = λ is. apart is refl;
  much = λ is. apart is refl;
  missing = λ is. apart is refl;
  misfit = λ is. apart is refl;
  small = λ is. (s.cause.0, omega (arith, s.cause.0, s.cause.1));
  opened = λ is. apart is refl;
  zero_place = λ is. absurd (omega (arith, low_code 12 is));
  holds = λ other. s.holds (λ e. cc);
  crash = s.crash;
  reads = s.reads;
  syncs = s.syncs;
  honest = s.honest;
  goes_on = s.goes_on;
}
ends_by IsText CanShow old new left left' before now faults (Err (lines_end.Opening (opening.Damaged block))) s = record {
  codes = (5, omega arith, refl);
  done = λ is. apart is refl;
  within = λ is. apart is refl;
  memory = λ is. apart is refl;
  read = λ is. apart is refl;
  stopped = λ is. apart is refl;
  send = λ is. apart is refl;
  part = λ is. apart is refl;
  fault = λ is. apart is refl;
  faulted = λ is. apart is refl;
  damaged = λ is. inl s.cause.1;
  undamaged = λ is. told_first left _ _ s.ends;
  much = λ is. apart is refl;
  missing = λ is. apart is refl;
  misfit = λ is. apart is refl;
  small = λ is. apart is refl;
  opened = λ is. apart is refl;
  zero_place = λ is. absurd (omega (arith, low_code 7 is));
  holds = λ other. s.holds (λ e. cc);
  crash = s.crash;
  reads = s.reads;
  syncs = s.syncs;
  honest = s.honest;
  goes_on = s.goes_on;
}
ends_by IsText CanShow old new left left' before now faults (Err (lines_end.Opening opening.DiskFault)) s = record {
  codes = (4, omega arith, refl);
  done = λ is. apart is refl;
  within = λ is. apart is refl;
  memory = λ is. apart is refl;
  read = λ is. apart is refl;
  stopped = λ is. apart is refl;
  send = λ is. apart is refl;
  part = λ is. apart is refl;
  fault = λ is. s.cause;
  faulted = λ is. s.ends;
  damaged = λ is. apart is refl;
  undamaged = λ is. apart is refl;
  much = λ is. apart is refl;
  missing = λ is. apart is refl;
  misfit = λ is. apart is refl;
  small = λ is. apart is refl;
  opened = λ is. apart is refl;
  zero_place = λ is. refl;
  holds = λ other. absurd (other refl);
  crash = s.crash;
  reads = s.reads;
  syncs = s.syncs;
  honest = s.honest;
  goes_on = s.goes_on;
}
ends_by IsText CanShow old new left left' before now faults (Err (lines_end.Opening opening.NoMemory)) s = record {
  codes = (1, omega arith, refl);
  done = λ is. apart is refl;
  within = λ is. apart is refl;
  memory = λ is. s.ends;
  read = λ is. apart is refl;
  stopped = λ is. apart is refl;
  send = λ is. apart is refl;
  part = λ is. apart is refl;
  fault = λ is. apart is refl;
  faulted = λ is. apart is refl;
  damaged = λ is. apart is refl;
  undamaged = λ is. apart is refl;
  much = λ is. apart is refl;
  missing = λ is. apart is refl;
  misfit = λ is. apart is refl;
  small = λ is. apart is refl;
  opened = λ is. apart is refl;
  zero_place = λ is. refl;
  holds = λ other. s.holds (λ e. cc);
  crash = s.crash;
  reads = s.reads;
  syncs = s.syncs;
  honest = s.honest;
  goes_on = s.goes_on;
}
ends_by IsText CanShow old new left left' before now faults (Err (lines_end.Answering (run_end.Serve serve_end.ReadFault))) s = record {
  codes = (2, omega arith, refl);
  done = λ is. apart is refl;
  within = λ is. apart is refl;
  memory = λ is. apart is refl;
  read = λ is. s.cause;
  stopped = λ is. s.ends;
  send = λ is. apart is refl;
  part = λ is. apart is refl;
  fault = λ is. apart is refl;
  faulted = λ is. apart is refl;
  damaged = λ is. apart is refl;
  undamaged = λ is. apart is refl;
  much = λ is. apart is refl;
  missing = λ is. apart is refl;
  misfit = λ is. apart is refl;
  small = λ is. apart is refl;
  opened = λ is. apart is refl;
  zero_place = λ is. refl;
  holds = λ other. s.holds (λ e. cc);
  crash = s.crash;
  reads = s.reads;
  syncs = s.syncs;
  honest = s.honest;
  goes_on = s.goes_on;
}
ends_by IsText CanShow old new left left' before now faults (Err (lines_end.Answering (run_end.Serve serve_end.SendFault))) s = record {
  codes = (3, omega arith, refl);
  done = λ is. apart is refl;
  within = λ is. apart is refl;
  memory = λ is. apart is refl;
  read = λ is. apart is refl;
  stopped = λ is. apart is refl;
  send = λ is. s.cause;
  part = λ is. s.ends;
  fault = λ is. apart is refl;
  faulted = λ is. apart is refl;
  damaged = λ is. apart is refl;
  undamaged = λ is. apart is refl;
  much = λ is. apart is refl;
  missing = λ is. apart is refl;
  misfit = λ is. apart is refl;
  small = λ is. apart is refl;
  opened = λ is. apart is refl;
  zero_place = λ is. refl;
  holds = λ other. s.holds (λ e. cc);
  crash = s.crash;
  reads = s.reads;
  syncs = s.syncs;
  honest = s.honest;
  goes_on = s.goes_on;
}
ends_by IsText CanShow old new left left' before now faults (Err (lines_end.Answering (run_end.Serve serve_end.DiskFault))) s = record {
  codes = (4, omega arith, refl);
  done = λ is. apart is refl;
  within = λ is. apart is refl;
  memory = λ is. apart is refl;
  read = λ is. apart is refl;
  stopped = λ is. apart is refl;
  send = λ is. apart is refl;
  part = λ is. apart is refl;
  fault = λ is. s.cause;
  faulted = λ is. s.ends;
  damaged = λ is. apart is refl;
  undamaged = λ is. apart is refl;
  much = λ is. apart is refl;
  missing = λ is. apart is refl;
  misfit = λ is. apart is refl;
  small = λ is. apart is refl;
  opened = λ is. apart is refl;
  zero_place = λ is. refl;
  holds = λ other. absurd (other refl);
  crash = s.crash;
  reads = s.reads;
  syncs = s.syncs;
  honest = s.honest;
  goes_on = s.goes_on;
}
ends_by IsText CanShow old new left left' before now faults
    (Err (lines_end.Answering (run_end.Serve (serve_end.Damaged page)))) s = record {
      codes = (5, omega arith, refl);
      done = λ is. apart is refl;
      within = λ is. apart is refl;
      memory = λ is. apart is refl;
      read = λ is. apart is refl;
      stopped = λ is. apart is refl;
      send = λ is. apart is refl;
      part = λ is. apart is refl;
      fault = λ is. apart is refl;
      faulted = λ is. apart is refl;
      damaged = λ is. inr s.cause;
      undamaged = λ is. s.ends;
      much = λ is. apart is refl;
      missing = λ is. apart is refl;
      misfit = λ is. apart is refl;
      small = λ is. apart is refl;
      opened = λ is. apart is refl;
      zero_place = λ is. absurd (omega (arith, low_code 7 is));
      holds = λ other. s.holds (λ e. cc);
      crash = s.crash;
      reads = s.reads;
      syncs = s.syncs;
      honest = s.honest;
      goes_on = s.goes_on;
    }
ends_by IsText CanShow old new left left' before now faults (Err (lines_end.Answering (run_end.Serve serve_end.InputTooLong))) s = record {
  codes = (6, omega arith, refl);
  done = λ is. apart is refl;
  within = λ is. apart is refl;
  memory = λ is. apart is refl;
  read = λ is. apart is refl;
  stopped = λ is. apart is refl;
  send = λ is. apart is refl;
  part = λ is. apart is refl;
  fault = λ is. apart is refl;
  faulted = λ is. apart is refl;
  damaged = λ is. apart is refl;
  undamaged = λ is. apart is refl;
  much = λ is. told_long left _ (s.long refl) s.ends;
  missing = λ is. apart is refl;
  misfit = λ is. apart is refl;
  small = λ is. apart is refl;
  opened = λ is. apart is refl;
  zero_place = λ is. absurd (omega (arith, low_code 9 is));
  holds = λ other. s.holds (λ e. cc);
  crash = s.crash;
  reads = s.reads;
  syncs = s.syncs;
  honest = s.honest;
  goes_on = s.goes_on;
}
ends_by IsText CanShow old new left left' before now faults (Err (lines_end.Answering (run_end.Serve serve_end.NoMemory))) s = record {
  codes = (1, omega arith, refl);
  done = λ is. apart is refl;
  within = λ is. apart is refl;
  memory = λ is. s.ends;
  read = λ is. apart is refl;
  stopped = λ is. apart is refl;
  send = λ is. apart is refl;
  part = λ is. apart is refl;
  fault = λ is. apart is refl;
  faulted = λ is. apart is refl;
  damaged = λ is. apart is refl;
  undamaged = λ is. apart is refl;
  much = λ is. apart is refl;
  missing = λ is. apart is refl;
  misfit = λ is. apart is refl;
  small = λ is. apart is refl;
  opened = λ is. apart is refl;
  zero_place = λ is. refl;
  holds = λ other. s.holds (λ e. cc);
  crash = s.crash;
  reads = s.reads;
  syncs = s.syncs;
  honest = s.honest;
  goes_on = s.goes_on;
}
ends_by IsText CanShow old new left left' before now faults (Err (lines_end.Answering (run_end.Show (client.Missing key)))) s = record {
  codes = (7, omega arith, refl);
  done = λ is. apart is refl;
  within = λ is. apart is refl;
  memory = λ is. apart is refl;
  read = λ is. apart is refl;
  stopped = λ is. apart is refl;
  send = λ is. apart is refl;
  part = λ is. apart is refl;
  fault = λ is. apart is refl;
  faulted = λ is. apart is refl;
  damaged = λ is. apart is refl;
  undamaged = λ is. apart is refl;
  much = λ is. apart is refl;
  missing = λ is. (s.cause.0, told_with left _ _ s.ends (key, refl, s.cause.2));
  misfit = λ is. apart is refl;
  small = λ is. apart is refl;
  opened = λ is. apart is refl;
  zero_place = λ is. absurd (omega (arith, low_code 10 is));
  holds = λ other. s.holds (λ e. cc);
  crash = s.crash;
  reads = s.reads;
  syncs = s.syncs;
  honest = s.honest;
  goes_on = s.goes_on;
}
ends_by IsText CanShow old new left left' before now faults
    (Err (lines_end.Answering (run_end.Show (client.BadCoefficient key)))) s = record {
      codes = (8, omega arith, refl);
      done = λ is. apart is refl;
      within = λ is. apart is refl;
      memory = λ is. apart is refl;
      read = λ is. apart is refl;
      stopped = λ is. apart is refl;
      send = λ is. apart is refl;
      part = λ is. apart is refl;
      fault = λ is. apart is refl;
      faulted = λ is. apart is refl;
      damaged = λ is. apart is refl;
      undamaged = λ is. apart is refl;
      much = λ is. apart is refl;
      missing = λ is. apart is refl;
      misfit = λ is. (s.cause.0, told_with left _ _ s.ends (key, refl, s.cause.2));
      small = λ is. apart is refl;
      opened = λ is. apart is refl;
      zero_place = λ is. absurd (omega (arith, low_code 11 is));
      holds = λ other. s.holds (λ e. cc);
      crash = s.crash;
      reads = s.reads;
      syncs = s.syncs;
      honest = s.honest;
      goes_on = s.goes_on;
    }
ends_by IsText CanShow old new left left' before now faults
    (Err (lines_end.Answering (run_end.Show (client.UnknownSession number)))) s = absurd s.cause
ends_by IsText CanShow old new left left' before now faults (Err (lines_end.Answering (run_end.Show client.NoMemory))) s = record {
  codes = (1, omega arith, refl);
  done = λ is. apart is refl;
  within = λ is. apart is refl;
  memory = λ is. s.ends;
  read = λ is. apart is refl;
  stopped = λ is. apart is refl;
  send = λ is. apart is refl;
  part = λ is. apart is refl;
  fault = λ is. apart is refl;
  faulted = λ is. apart is refl;
  damaged = λ is. apart is refl;
  undamaged = λ is. apart is refl;
  much = λ is. apart is refl;
  missing = λ is. apart is refl;
  misfit = λ is. apart is refl;
  small = λ is. apart is refl;
  opened = λ is. apart is refl;
  zero_place = λ is. refl;
  holds = λ other. s.holds (λ e. cc);
  crash = s.crash;
  reads = s.reads;
  syncs = s.syncs;
  honest = s.honest;
  goes_on = s.goes_on;
}

-- the keys of the ends have numbers
pub numbered_by : {T : Type 0} (CanShow : Type 0) (old new : View) (before now : Option (List ℕ)) (faults : Faults)
    (answer : Result T LinesEnd) → IfErr answer (λ end. IsWorldCause CanShow old new before now faults end) → IfErr answer HasNumberedKey
numbered_by CanShow old new before now faults (Ok u) is = tt
numbered_by CanShow old new before now faults (Err (lines_end.Opening cause)) is = tt
numbered_by CanShow old new before now faults (Err (lines_end.Answering (run_end.Serve end))) is = tt
numbered_by CanShow old new before now faults (Err (lines_end.Answering (run_end.Show (client.Missing key)))) is = is.1
numbered_by CanShow old new before now faults (Err (lines_end.Answering (run_end.Show (client.BadCoefficient key)))) is = is.1
numbered_by CanShow old new before now faults (Err (lines_end.Answering (run_end.Show (client.UnknownSession number)))) is = tt
numbered_by CanShow old new before now faults (Err (lines_end.Answering (run_end.Show client.NoMemory))) is = tt

pub ends_so : {T : Type 0} (IsText : Says) (CanShow : Type 0) (old new : View) (left left' before now : Option (List ℕ)) (faults : Faults)
    (answer : Result T LinesEnd) (status : Status) → status ≡ status_by answer
    → ServesWorld IsText CanShow old new left left' before now faults answer
    → EndsBy IsText CanShow old new left left' before now faults status.code status.place
ends_so IsText CanShow old new left left' before now faults answer status is s =
    let P : Status → Type 0 = λ x. EndsBy IsText CanShow old new left left' before now faults x.code x.place in
    subst P (sym is) (ends_by IsText CanShow old new left left' before now faults answer s)
