-- How `init` ends, by why no store was made.
use Rattle.std.proofs.Common.{◌≡◌, ℕ, ◌<◌, ◌⊎◌, List, Option, Some, None, IfSome, refl, ap, arith, inl, inr}
use Rattle.std.specs.Prelude.{Contains}
use Rattle.block_disk.specs.Counts.{HasRisen}
use Rattle.block_disk.specs.View.{Honest, View}
use Rattle.chart_world.specs.FaultLaws.{counts_disk, counts_no_disk}
use Rattle.chart_world.specs.Faults.{CountsFault}
use Rattle.empty_store.specs.Causes.{Prevents}
use Rattle.empty_store.specs.declared.errors.InitCause.{InitCause}
use Rattle.empty_store.specs.declared.errors.InitCause.TheVariants as init
use Rattle.program_words.specs.declared.words.Command.TheVariants.{Init}
use Rattle.run_ends.specs.Statuses.{code_of, place_of}
use Rattle.run_ends.specs.declared.ending.End.{End}
use Rattle.run_ends.specs.Faults.{end_fault}
use Rattle.run_ends.specs.declared.ending.End.TheVariants.{Done, NoMemory, DiskFault, TooSmall, IsStore}
use Rattle.store_commands.specs.Away.{IsTurnedAway}
use Rattle.chart_program.specs.CommandStatuses.{codes_of}
use Rattle.chart_program.specs.Served.{Faults}
use Rattle.chart_program.specs.Ran.{CommandEnds, IsFree, IsInitEnd, LeavesDisk, init_end}
use Rattle.chart_program.proofs.Codes.{told_all}
use Rattle.chart_program.proofs.CommandsEnd.{all_told}
use Rattle.chart_program.proofs.Counts.{told_any}
use Rattle.chart_program.proofs.EndsByCode.{Came, by_code}
use Rattle.chart_program.proofs.InitLemmas.{init_holds, init_leaves}

-- each cause has its end
pub caused : (old new : View) (cause : InitCause) → Prevents cause old new → IsInitEnd (init_end cause) old new
caused old new (init.TooSmall size) is = (is.0, omega (arith, is.0, is.1))
caused old new init.IsStore is = is
caused old new init.DiskFault is = is
caused old new init.NoMemory is = tt

-- a disk that is too small turns it away
pub away_unmade : (old new : View) (left left' before now : Option (List ℕ)) (cause : InitCause) → Prevents cause old new → left' ≡ left
    → now ≡ before → old.size < 128 → IsTurnedAway left left' before now (code_of (init_end cause))
away_unmade old new left left' before now (init.TooSmall size) is same_left same few = record {
  codes = (2, omega arith, refl);
  left_is = same_left;
  sent_is = same;
}
away_unmade old new left left' before now init.IsStore is same_left same few = absurd (omega (arith, few, is.0))
away_unmade old new left left' before now init.DiskFault is same_left same few = record {
  codes = (1, omega arith, refl);
  left_is = same_left;
  sent_is = same;
}
away_unmade old new left left' before now init.NoMemory is same_left same few = record {
  codes = (0, omega arith, refl);
  left_is = same_left;
  sent_is = same;
}

-- the fault that it tells of is counted
pub counts_unmade : (old new : View) (cause : InitCause) → Prevents cause old new → new.beside ≡ old.beside
    → ((cause ≡ init.DiskFault → ⊥) → new.faults ≡ old.faults) → CountsFault (end_fault (init_end cause)) old new
counts_unmade old new (init.TooSmall size) is beside quiet = counts_no_disk old new beside (quiet (λ same. cc))
counts_unmade old new init.IsStore is beside quiet = counts_no_disk old new beside (quiet (λ same. cc))
counts_unmade old new init.DiskFault is beside quiet = counts_disk old new beside is
counts_unmade old new init.NoMemory is beside quiet = counts_no_disk old new beside (quiet (λ same. cc))

-- where a store fits and there is none, want of memory alone comes in its way
pub unmade_ready : (old new : View) (cause : InitCause) → Prevents cause old new → IsFree old → (HasRisen old.faults new.faults → ⊥)
    → (init_end cause ≡ Done) ⊎ (init_end cause ≡ NoMemory)
unmade_ready old new (init.TooSmall size) is free whole = absurd (omega (arith, is.0, is.1, free.0))
unmade_ready old new init.IsStore is free whole = absurd (free.2 (is.1 free.1))
unmade_ready old new init.DiskFault is free whole = absurd (whole is)
unmade_ready old new init.NoMemory is free whole = inr refl

never_input : (o : Option (List ℕ)) (D : Type 0) → IfSome o (λ input. ⊥ → D)
never_input None D = tt
never_input (Some input) D = λ none. absurd none

module _ (old new : View) (left left' before now : Option (List ℕ)) (faults : Faults) where
  init_came : now ≡ before → (end : End) → IsInitEnd end old new → Came Init old new left left' before now faults end
  init_came same Done is = (told_all left _ tt, told_all left _ same, is)
  init_came same NoMemory is = told_all left _ same
  init_came same DiskFault is = (is, told_all left _ same)
  init_came same (TooSmall blocks) is = is
  init_came same IsStore is = (refl, is)
  init_came same end is = absurd is

  init_own : (end : End) → IsInitEnd end old new → Contains (codes_of Init) (code_of end)
  init_own Done is = (0, omega arith, refl)
  init_own NoMemory is = (1, omega arith, refl)
  init_own DiskFault is = (2, omega arith, refl)
  init_own (TooSmall blocks) is = (3, omega arith, refl)
  init_own IsStore is = (4, omega arith, refl)
  init_own end is = absurd is

  ready_code : (end : End) → (end ≡ Done) ⊎ (end ≡ NoMemory) → (code_of end ≡ 0) ⊎ (code_of end ≡ 3)
  ready_code end (inl is) = inl (ap (λ (x : End). code_of x) is)
  ready_code end (inr is) = inr (ap (λ (x : End). code_of x) is)

  pub init_ends : (end : End) → IsInitEnd end old new → (old.size < 128 → IsTurnedAway left left' before now (code_of end)) → left' ≡ left
      → now ≡ before → LeavesDisk Init old new → (Honest old → Honest new)
      → (IsFree old → (HasRisen old.faults new.faults → ⊥) → (end ≡ Done) ⊎ (end ≡ NoMemory))
      → CommandEnds Init old new left left' before now faults (code_of end) (place_of end)
  init_ends end is away untaken sent disk honest ready = by_code Init old new left left' before now faults end (record {
    came = init_came sent end is;
    own = init_own end is;
    away = λ over. away;
    untaken = λ none. untaken;
    reads = tt;
    reads_lines = told_any left;
    syncs = told_any left;
    unnamed = tt;
    nothing = λ whole part quiet. sent;
    pictures = λ is command. cc;
    holds = λ other. told_all left _ (init_holds old new disk);
    crash = all_told left before _ (init_leaves old new disk);
    disk = disk;
    honest = honest;
    complete = never_input left _;
    drawn = λ command. cc;
    ready = λ command free whole. ready_code end (ready free whole);
  })
