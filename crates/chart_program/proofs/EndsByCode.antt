-- What a command did by how it ended, so by its code and place.
use Rattle.std.proofs.Common.{◌≡◌, ℕ, zero, suc, ◌-◌, ◌<◌, ◌⊎◌, List, [], ◌∷◌, Option, Some, None, IfSome, refl, ap, arith}
use Rattle.std.specs.Prelude.{Contains, ◌≢◌, ◌^◌}
use Rattle.block_disk.specs.Counts.{HasRisen}
use Rattle.block_disk.specs.View.{Honest, View}
use Rattle.gate_pages.specs.Journal.{page_count}
use Rattle.program_words.specs.declared.words.Command.{Command}
use Rattle.program_words.specs.declared.words.Command.TheVariants.{Init, Draw}
use Rattle.run_ends.specs.Statuses.{block_of, code_of, place_of, refused_at}
use Rattle.run_ends.specs.declared.ending.End.{End}
use Rattle.run_ends.specs.declared.ending.End.TheVariants.{Done, WrongWords, NoMemory, ReadFault, SendFault, DiskFault, DamagedBlock}
use Rattle.run_ends.specs.declared.ending.End.TheVariants.{DamagedPage}
use Rattle.run_ends.specs.declared.ending.End.TheVariants.{BadInput, InputTooLong, TooMuch, Missing, BadCoefficient, TooSmall, IsStore}
use Rattle.run_ends.specs.declared.ending.End.TheVariants.{UnknownSeries, Refused, UnknownSession, RefusedLine, NoSeries}
use Rattle.store_commands.specs.Away.{IsTurnedAway}
use Rattle.store_commands.specs.Books.{HoldsAgain}
use Rattle.store_commands.specs.Codes.{low_code}
use Rattle.store_commands.specs.Loaded.{unnamed_ends}
use Rattle.chart_program.specs.CommandStatuses.{codes_of, IsOverStore, TakesNone, Bars}
use Rattle.chart_program.specs.Course.{IsDoneOrCut}
use Rattle.chart_program.specs.Served.{Faults}
use Rattle.chart_program.specs.Ran.{CommandEnds, DrawsReplies, IsBadInput, IsCutShort, IsDamaged, IsFree, IsInput, IsMade, IsOfReplies}
use Rattle.chart_program.specs.Ran.{IsRefused, IsRefusedLine}
use Rattle.chart_program.specs.Ran.{IsStreaming, IsThere, IsTooMuch, IsTooSmall, IsUndamaged, IsUnknown, IsWithin, Lacks, LeavesDisk}
use Rattle.chart_program.specs.Ran.{LeavesTold, Misfits}
use Rattle.chart_program.specs.Ran.{NamesUnopened, ReadsByInput, ReadsFew, SendsAll, SendsPart, StopsAtDisk, StopsBefore, SyncsByInput}
use Rattle.chart_program.specs.Ran.{TellsUnnamed, of_done}

-- the codes of the ends that come where no series has the name
pub unnamed_codes : (end : End) → Contains unnamed_ends end → Contains (3 ∷ 6 ∷ 14 ∷ []) (code_of end)
unnamed_codes end (zero, inside, is) = (0, omega arith, ap (λ (x : End). code_of x) is)
unnamed_codes end (suc zero, inside, is) = (1, omega arith, ap (λ (x : End). code_of x) is)
unnamed_codes end (suc (suc zero), inside, is) = (2, omega arith, ap (λ (x : End). code_of x) is)
unnamed_codes end (suc (suc (suc k)), inside, is) = absurd (omega (arith, inside))

-- the codes of an end that is done or cut
pub done_codes : (end : End) → IsDoneOrCut end → Contains of_done (code_of end)
done_codes Done is = (0, omega arith, refl)
done_codes NoMemory is = (1, omega arith, refl)
done_codes ReadFault is = (2, omega arith, refl)
done_codes SendFault is = (3, omega arith, refl)
done_codes end is = absurd is

-- with good input they are these
pub completes : (left : Option (List ℕ)) (IsGood : List ℕ → Type 0) (end : End) → IfSome left (λ input. IsGood input → IsDoneOrCut end)
    → IfSome left (λ input. IsGood input → Contains of_done (code_of end))
completes None IsGood end good = tt
completes (Some input) IsGood end good = λ is. done_codes end (good is)

-- of a command over these disks and streams
module _ (command : Command) (old new : View) (left left' before now : Option (List ℕ)) (faults : Faults) where
  -- a damaged block
  abbrev Damages : ℕ → Type 0
  Damages place = IsDamaged command old new place × IfSome left (λ input. IsUndamaged command old)
      × Bars command old new left left' before now place

  abbrev Refuses : ℕ → Type 0
  Refuses place = (now ≡ before) × IfSome left (λ input. IsRefused command old new input left' place)

  -- what it did, by how it ended
  abbrev pub Came : End → Type 0
  Came Done = IfSome left (IsWithin command left') × IfSome left (λ input. SendsAll command old new input before now)
      × IsMade command old new
  Came (WrongWords word) = ⊥
  Came NoMemory = IfSome left (λ input. IsCutShort command old new input before now)
  Came ReadFault = HasRisen faults.reads faults.reads_now
      × IfSome left (λ input. IfSome left' (StopsBefore command old new input before now))
  Came SendFault = HasRisen faults.sends faults.sends_now × IfSome left (λ input. SendsPart command old new input before now)
  Came DiskFault = HasRisen old.faults new.faults × IfSome left (λ input. StopsAtDisk command old input before now)
  Came (DamagedBlock block) = Damages block
  Came (DamagedPage page) = Damages (block_of page)
  Came (BadInput at) = IfSome left (λ input. IsBadInput command old new input at before now)
  Came InputTooLong = IfSome left (λ input. IsTooMuch command old new input (2 ^ 32) before now)
  Came (TooMuch most) = IfSome left (λ input. IsTooMuch command old new input most before now)
  Came (Missing key) = IfSome left (λ input. Lacks command old input key before now)
  Came (BadCoefficient key) = IfSome left (λ input. Misfits command old input key before now)
  Came (TooSmall blocks) = IsTooSmall command old blocks
  Came IsStore = IsThere command old 66
  Came UnknownSeries = Refuses 8
  Came (Refused at refusal) = Refuses (refused_at at refusal)
  Came (UnknownSession session) = IfSome left (λ input. NamesUnopened command old input session before now)
  Came (RefusedLine at refusal) = IfSome left (λ input. IsRefusedLine command old input (refused_at at refusal) before now)
  Came (NoSeries at) = IfSome left (λ input. IsUnknown command old new input at before now)

  on_done : (end : End) → Came end → code_of end ≡ 0 → Came Done
  on_done Done came is = came
  on_done end came is = absurd (omega (arith, is))

  on_memory : (end : End) → Came end → code_of end ≡ 3 → Came NoMemory
  on_memory NoMemory came is = came
  on_memory end came is = absurd (omega (arith, is))

  on_read : (end : End) → Came end → code_of end ≡ 4 → Came ReadFault
  on_read ReadFault came is = came
  on_read end came is = absurd (omega (arith, is))

  on_send : (end : End) → Came end → code_of end ≡ 5 → Came SendFault
  on_send SendFault came is = came
  on_send end came is = absurd (omega (arith, is))

  on_disk : (end : End) → Came end → code_of end ≡ 6 → Came DiskFault
  on_disk DiskFault came is = came
  on_disk end came is = absurd (omega (arith, is))

  on_damage : (end : End) → Came end → code_of end ≡ 7 → Damages (place_of end)
  on_damage (DamagedBlock block) came is = came
  on_damage (DamagedPage page) came is = came
  on_damage end came is = absurd (omega (arith, is))

  on_bad : (end : End) → Came end → code_of end ≡ 8 → Came (BadInput (place_of end))
  on_bad (BadInput at) came is = came
  on_bad end came is = absurd (omega (arith, is))

  on_much : (end : End) → Came end → code_of end ≡ 9 → Came (TooMuch (place_of end))
  on_much InputTooLong came is = came
  on_much (TooMuch most) came is = came
  on_much end came is = absurd (omega (arith, is))

  on_missing : (end : End) → Came end → code_of end ≡ 10 → Came (Missing (place_of end))
  on_missing (Missing key) came is = came
  on_missing end came is = absurd (omega (arith, is))

  on_misfit : (end : End) → Came end → code_of end ≡ 11 → Came (BadCoefficient (place_of end))
  on_misfit (BadCoefficient key) came is = came
  on_misfit end came is = absurd (omega (arith, is))

  on_small : (end : End) → Came end → code_of end ≡ 12 → Came (TooSmall (place_of end))
  on_small (TooSmall blocks) came is = came
  on_small end came is = absurd (omega (arith, is))

  on_there : (end : End) → Came end → code_of end ≡ 13 → IsThere command old (place_of end)
  on_there IsStore came is = came
  on_there end came is = absurd (omega (arith, is))

  on_refusal : (end : End) → Came end → code_of end ≡ 14 → Refuses (place_of end)
  on_refusal UnknownSeries came is = came
  on_refusal (Refused at refusal) came is = came
  on_refusal end came is = absurd (omega (arith, is))

  on_unopened : (end : End) → Came end → code_of end ≡ 15 → Came (UnknownSession (place_of end))
  on_unopened (UnknownSession session) came is = came
  on_unopened end came is = absurd (omega (arith, is))

  on_line : (end : End) → Came end → code_of end ≡ 16 → IfSome left (λ input. IsRefusedLine command old input (place_of end) before now)
  on_line (RefusedLine at refusal) came is = came
  on_line end came is = absurd (omega (arith, is))

  on_unknown : (end : End) → Came end → code_of end ≡ 17 → Came (NoSeries (place_of end))
  on_unknown (NoSeries at) came is = came
  on_unknown end came is = absurd (omega (arith, is))

  -- its code is one of a command, and its place is 0 where it tells no more
  some_code : (end : End) → Came end → Contains (0 ∷ 3 ∷ 4 ∷ 5 ∷ 6 ∷ 7 ∷ 8 ∷ 9 ∷ 10 ∷ 11 ∷ 12 ∷ 13 ∷ 14 ∷ 15 ∷ 16 ∷ 17 ∷ []) (code_of end)
  some_code Done came = (0, omega arith, refl)
  some_code (WrongWords word) came = absurd came
  some_code end came = (code_of end - 2, omega arith, refl)

  zero_place : (end : End) → Came end → Contains (0 ∷ 3 ∷ 4 ∷ 5 ∷ 6 ∷ []) (code_of end) → place_of end ≡ 0
  zero_place Done came low = refl
  zero_place (WrongWords word) came low = absurd came
  zero_place NoMemory came low = refl
  zero_place ReadFault came low = refl
  zero_place SendFault came low = refl
  zero_place DiskFault came low = refl
  zero_place end came low = absurd (omega (arith, low_code (code_of end) low))

  -- the same, and what is so however it ended
  pub record Ended (end : End) : Type 0 where
    pub came : Came end
    pub own : Contains (codes_of command) (code_of end)
    pub away : IsOverStore command → old.size < 128 → IsTurnedAway left left' before now (code_of end)
    pub untaken : TakesNone command → left' ≡ left
    pub reads : ReadsFew command old new
    pub reads_lines : IfSome left (λ input. ReadsByInput command old new input before now)
    pub syncs : IfSome left (λ input. SyncsByInput command old new input before now)
    pub unnamed : TellsUnnamed command old (code_of end)
    pub nothing : code_of end ≢ 0 → code_of end ≢ 5 → (IsStreaming command → ⊥) → now ≡ before
    pub pictures : code_of end ≡ 0 → command ≡ Draw → IfSome left (λ input. DrawsReplies input before now)
    pub holds : code_of end ≢ 6 → IfSome left (λ input. HoldsAgain (page_count old.size) old new)
    pub crash : IfSome left (λ input. LeavesTold command old new input before now)
    pub disk : LeavesDisk command old new
    pub honest : Honest old → Honest new
    pub complete : IfSome left (λ input. IsInput command old new input → Contains of_done (code_of end))
    pub drawn : command ≡ Draw → IfSome left (λ input. IsOfReplies input → Contains of_done (code_of end))
    pub ready : command ≡ Init → IsFree old → (HasRisen old.faults new.faults → ⊥) → (code_of end ≡ 0) ⊎ (code_of end ≡ 3)

  pub by_code : (end : End) → Ended end → CommandEnds command old new left left' before now faults (code_of end) (place_of end)
  by_code end e = record {
    codes = some_code end e.came;
    own = e.own;
    away = e.away;
    untaken = e.untaken;
    bars = λ is. (on_damage end e.came is).2;
    reads = e.reads;
    reads_lines = e.reads_lines;
    syncs = e.syncs;
    unsent = λ is. (on_refusal end e.came is).0;
    read = λ is. (on_read end e.came is).0;
    stopped = λ is. (on_read end e.came is).1;
    send = λ is. (on_send end e.came is).0;
    bad = on_bad end e.came;
    much = on_much end e.came;
    missing = on_missing end e.came;
    misfit = on_misfit end e.came;
    unopened = on_unopened end e.came;
    memory = on_memory end e.came;
    within = λ is. (on_done end e.came is).0;
    fault = λ is. (on_disk end e.came is).0;
    faulted = λ is. (on_disk end e.came is).1;
    damaged = λ is. (on_damage end e.came is).0;
    undamaged = λ is. (on_damage end e.came is).1;
    small = on_small end e.came;
    there = on_there end e.came;
    refused = λ is. (on_refusal end e.came is).1;
    unnamed = e.unnamed;
    unknown = on_unknown end e.came;
    refused_line = on_line end e.came;
    zero_place = zero_place end e.came;
    done = λ is. (on_done end e.came is).1;
    part = λ is. (on_send end e.came is).1;
    nothing = e.nothing;
    pictures = e.pictures;
    holds = e.holds;
    crash = e.crash;
    disk = e.disk;
    honest = e.honest;
    made = λ is. (on_done end e.came is).2;
    complete = e.complete;
    drawn = e.drawn;
    ready = e.ready;
  }
