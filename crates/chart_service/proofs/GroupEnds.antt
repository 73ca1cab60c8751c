-- What edits in a store are for a service.
use Rattle.std.proofs.Common.{◌≡◌, ◌+◌, ◌++◌, List, Result, Ok, Err, length, map, ap, arith, length-append}
use Rattle.std.specs.Prelude.{OnOk}
use Rattle.block_disk.specs.Counts.{HasRisen}
use Rattle.block_disk.specs.View.{View}
use Rattle.chart_frames.specs.declared.frame.Frame.{Frame}
use Rattle.page_space.specs.declared.superblock.Superblock.{Superblock}
use Rattle.series_book.specs.declared.outcomes.Outcome.{Outcome}
use Rattle.series_book.specs.declared.refusals.Refusal.{Refusal}
use Rattle.series_store.specs.Groups.{GroupMoves, IsGroupCause, answer_of}
use Rattle.series_store.specs.Results.{Moves, IsUnchanged, IsUnchangedFor}
use Rattle.series_store.specs.declared.errors.StoreError.{StoreError}
use Rattle.series_store.specs.declared.errors.StoreError.TheVariants as store
use Rattle.chart_service.specs.EditGroups.{frames_of, group_end}
use Rattle.chart_service.specs.Stepping.{Steps, GroupSteps}
use Rattle.chart_service.specs.declared.failure.ServiceError.{ServiceError}
use Rattle.chart_service.specs.declared.failure.ServiceError.TheVariants.{DiskFault}
use Rattle.chart_service.proofs.Together.{frames_length}

pub group_kept : (error : StoreError) (end : ServiceError) (told : Type 0) (old new : View) → end ≡ group_end error
    → IsUnchangedFor error told old new → (end ≡ DiskFault → ⊥) → IsUnchanged told old new
group_kept (store.Refused refusal) end told old new is kept other = kept
group_kept store.NotAStore end told old new is kept other = absurd kept
group_kept store.DiskFault end told old new is kept other = absurd (other is)
group_kept (store.Damaged page) end told old new is kept other = kept
group_kept store.NoMemory end told old new is kept other = kept

pub group_risen : (error : StoreError) (end : ServiceError) (told : Type 0) (s : Superblock) (old new : View) → end ≡ group_end error
    → IsGroupCause error told s old new → end ≡ DiskFault → HasRisen old.faults new.faults
group_risen (store.Refused refusal) end told s old new is cause disk = absurd cause
group_risen store.NotAStore end told s old new is cause disk = absurd cause
group_risen store.DiskFault end told s old new is cause disk = cause
group_risen (store.Damaged page) end told s old new is cause disk = cc (is, disk)
group_risen store.NoMemory end told s old new is cause disk = cc (is, disk)

pub group_steps : (told told' : Type 0) (old new : View) → GroupMoves told told' old new → GroupSteps told told' old new
group_steps told told' old new moves = record {
  told = moves.told;
  was_told = moves.was_told;
  size = moves.size;
  beside = moves.beside;
  faults = moves.faults;
  reads = moves.reads;
  syncs = omega (arith, moves.syncs);
  writes = omega (arith, moves.writes);
}

pub edit_steps : (told told' : Type 0) (old new : View) → Moves told told' old new → Steps told told' old new
edit_steps told told' old new moves = record {
  told = moves.told;
  was_told = moves.was_told;
  size = moves.size;
  beside = moves.beside;
  faults = moves.faults;
  syncs = moves.syncs;
  writes = moves.writes;
}

pub frames_more : {T E : Type 0} (r : Result T E) (answers slice : List (Result Outcome Refusal)) (before now : List Frame)
    → slice ≡ answers → OnOk r (now ≡ before ++ frames_of (map answer_of slice)) → OnOk r (length now ≡ length before + length answers)
frames_more (Ok t) answers slice before now same is = omega (
  arith,
  ap length is,
  length-append before (frames_of (map answer_of slice)),
  frames_length slice,
  ap length same,
)
frames_more (Err e) answers slice before now same is = tt
