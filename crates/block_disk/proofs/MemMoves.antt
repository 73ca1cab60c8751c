-- What one more call does to what a disk in memory means.
use Rattle.std.proofs.Common.{◌≡◌, ◌≢◌, ℕ, ◌+◌, ◌≤◌, ◌⊎◌, List, [], ◌∷◌, ◌++◌, length, take, drop, refl, ap, sym, ◌∙◌, arith, inl, inr}
use Rattle.std.proofs.Common.{subst, length-append, true, false, cond, eqb, Vec}
use Rattle.std.specs.declared.alloc.Global.{Global}
use Rattle.std.proofs.lemmas.Bool.Decides.{eqb_tells}
use Rattle.std.proofs.Math.Path.{fun_ext}
use Rattle.std.proofs.lemmas.List.{take-append-le, drop-append-le, take_all, drop_all}
use Rattle.block_disk.specs.View.{Image, Now, TornOff, SameOff, Rises, Moves, At, Only}
use Rattle.block_disk.specs.MemDisk.{blocks_of, put, before, before_all, HasNoSync, IsPending, MayBeLeft, view_of}
use Rattle.block_disk.specs.declared.mem_disk.Call.{Call}
use Rattle.block_disk.specs.declared.mem_disk.Call.TheVariants.{Wrote, Synced, Asked}

-- what was there before more calls
before_more : (calls : List Call) (call : Call) (image : Image)
    → before_all (calls ++ call ∷ []) image ≡ before_all calls (before call image)
before_more [] call image = refl
before_more (first ∷ calls) call image = ap (λ i. before first i) (before_more calls call image)

no_sync_front : (calls more : List Call) → HasNoSync (calls ++ more) → HasNoSync calls
no_sync_front [] more none = tt
no_sync_front (Wrote number block ∷ calls) more none = no_sync_front calls more none
no_sync_front (Synced ∷ calls) more none = none
no_sync_front (Asked ∷ calls) more none = no_sync_front calls more none

sync_last : (calls : List Call) → HasNoSync (calls ++ Synced ∷ []) → ⊥
sync_last [] none = none
sync_last (Wrote number block ∷ calls) none = sync_last calls none
sync_last (Synced ∷ calls) none = none
sync_last (Asked ∷ calls) none = sync_last calls none

-- what is pending after one more call was pending, or is by this call
pending_more : (calls : List Call) (call : Call) (number : ℕ) → IsPending (calls ++ call ∷ []) number
    → IsPending calls number ⊎ IsPending (call ∷ []) number
pending_more [] call number pending = inr pending
pending_more (Wrote one block ∷ calls) call number (inl first) = inl (inl (first.0, no_sync_front calls (call ∷ []) first.1))
pending_more (Wrote one block ∷ calls) call number (inr pending) = by (pending_more calls call number pending)
  where
    by : IsPending calls number ⊎ IsPending (call ∷ []) number
        → (((number ≡ one) × HasNoSync calls) ⊎ IsPending calls number) ⊎ IsPending (call ∷ []) number
    by (inl was) = inl (inr was)
    by (inr is) = inr is
pending_more (Synced ∷ calls) call number pending = pending_more calls call number pending
pending_more (Asked ∷ calls) call number pending = pending_more calls call number pending

-- nothing is pending after a sync
none_pending : (calls : List Call) (number : ℕ) → IsPending (calls ++ Synced ∷ []) number → ⊥
none_pending [] number pending = pending
none_pending (Wrote one block ∷ calls) number (inl first) = sync_last calls first.1
none_pending (Wrote one block ∷ calls) number (inr pending) = none_pending calls number pending
none_pending (Synced ∷ calls) number pending = none_pending calls number pending
none_pending (Asked ∷ calls) number pending = none_pending calls number pending

-- the images that a crash may leave at a moment
abbrev Left : List Call → Image → ℕ → Image → Type 0
Left calls image at left = MayBeLeft (take at calls) (before_all (drop at calls) image) left

-- one more call leaves what was possible before it
past_same : (calls : List Call) (call : Call) (image image' : Image) (at : ℕ) → before call image' ≡ image → at ≤ length calls
    → (before_all (drop at (calls ++ call ∷ [])) image' ≡ before_all (drop at calls) image) × (take at (calls ++ call ∷ []) ≡ take at calls)
past_same calls call image image' at undone within = (
  ap (λ l. before_all l image') (drop-append-le at calls (call ∷ []) within) ∙ before_more (drop at calls) call image'
      ∙ ap (λ i. before_all (drop at calls) i) undone,
  take-append-le at calls (call ∷ []) within,
)

-- after the last call, it is what may be left now
left_now : (calls : List Call) (image left : Image) (at : ℕ) → length calls ≤ at → Left calls image at left → MayBeLeft calls image left
left_now calls image left at all holds =
    let P : List Call → Type 0 = λ l. MayBeLeft l (before_all (drop at calls) image) left in
    let Q : List Call → Type 0 = λ l. MayBeLeft calls (before_all l image) left in
    subst Q (drop_all at calls all) (subst P (take_all at calls all) holds)

-- and the other way round
pub now_left : (calls : List Call) (image left : Image) (at : ℕ) → length calls ≤ at → MayBeLeft calls image left → Left calls image at left
now_left calls image left at all holds =
    let P : List Call → Type 0 = λ l. MayBeLeft l (before_all (drop at calls) image) left in
    let Q : List Call → Type 0 = λ l. MayBeLeft calls (before_all l image) left in
    subst P (sym (take_all at calls all)) (subst Q (sym (drop_all at calls all)) holds)

-- what reads give is always possible
mem_honest : (calls : List Call) (image : Image) → Left calls image (length calls) image
mem_honest calls image = now_left calls image image (length calls) (omega arith) (λ number free. refl)

-- the past stays, both ways
past_back : (calls : List Call) (call : Call) (image image' left : Image) (at : ℕ) → before call image' ≡ image → at ≤ length calls
    → Left (calls ++ call ∷ []) image' at left → Left calls image at left
past_back calls call image image' left at undone within holds =
    let same = past_same calls call image image' at undone within in
    let P : List Call → Type 0 = λ l. MayBeLeft l (before_all (drop at (calls ++ call ∷ [])) image') left in
    let Q : Image → Type 0 = λ i. MayBeLeft (take at calls) i left in
    subst Q same.0 (subst P same.1 holds)

past_kept : (calls : List Call) (call : Call) (image image' left : Image) (at : ℕ) → before call image' ≡ image → at ≤ length calls
    → Left calls image at left → Left (calls ++ call ∷ []) image' at left
past_kept calls call image image' left at undone within holds =
    let same = past_same calls call image image' at undone within in
    let P : List Call → Type 0 = λ l. MayBeLeft l (before_all (drop at (calls ++ call ∷ [])) image') left in
    let Q : Image → Type 0 = λ i. MayBeLeft (take at calls) i left in
    subst P (sym same.1) (subst Q (sym same.0) holds)

-- one more call, whose images are those before it but at these blocks
moves_one : (touched : ℕ → Type 0) (size : ℕ) (calls : List Call) (call : Call) (bytes bytes' : List ℕ)
    (faults faults' reads reads' syncs syncs' writes writes' most_reads most_syncs most_writes : ℕ)
    → before call (blocks_of bytes') ≡ blocks_of bytes
    → SameOff touched (blocks_of bytes) (blocks_of bytes')
    → ((left : Image) → MayBeLeft (calls ++ call ∷ []) (blocks_of bytes') left → TornOff touched (MayBeLeft calls (blocks_of bytes)) left)
    → faults ≤ faults' → Rises most_reads reads reads' → Rises most_syncs syncs syncs' → Rises most_writes writes writes'
    → Moves touched most_reads most_syncs most_writes (view_of size calls bytes faults reads syncs writes)
    (view_of size (calls ++ call ∷ []) bytes' faults' reads' syncs' writes')
moves_one touched size calls call bytes bytes' faults faults' reads reads' syncs syncs' writes writes' most_reads most_syncs most_writes
    undone off torn more_faults more_reads more_syncs more_writes =
    let longer : length (calls ++ call ∷ []) ≡ length calls + 1 = omega (arith, length-append calls (call ∷ [])) in
    record {
      time = record {
        later = omega (arith, longer);
        past = λ at image within holds. past_back calls call (blocks_of bytes) (blocks_of bytes') image at undone within holds;
        kept = λ at image within holds. past_kept calls call (blocks_of bytes) (blocks_of bytes') image at undone within holds;
        here = λ at image low high holds.
            let left = torn image (left_now (calls ++ call ∷ []) (blocks_of bytes') image at (omega (arith, longer, low)) holds) in
            record {
              from = left.from;
              was = now_left calls (blocks_of bytes) left.from (length calls) (omega arith) left.was;
              same = left.same;
            };
        sent_past = λ at within. refl;
        sent_here = λ at low high. refl;
      };
      honest = λ was. mem_honest (calls ++ call ∷ []) (blocks_of bytes');
      was_honest = λ is. mem_honest calls (blocks_of bytes);
      off = λ honest. off;
      size = refl;
      beside = refl;
      fit = λ fit. fit;
      faults = more_faults;
      reads = more_reads;
      syncs = more_syncs;
      writes = more_writes;
    }

-- no call was noted
pub moves_none : (touched : ℕ → Type 0) (size : ℕ) (calls : List Call) (bytes : List ℕ)
    (faults faults' reads reads' syncs syncs' writes writes' most_reads most_syncs most_writes : ℕ)
    → faults ≤ faults' → Rises most_reads reads reads' → Rises most_syncs syncs syncs' → Rises most_writes writes writes'
    → Moves touched most_reads most_syncs most_writes (view_of size calls bytes faults reads syncs writes)
    (view_of size calls bytes faults' reads' syncs' writes')
moves_none touched size calls bytes faults faults' reads reads' syncs syncs' writes writes' most_reads most_syncs most_writes more_faults
    more_reads more_syncs more_writes =
    record {
      time = record {
        later = omega arith;
        past = λ at image within holds. holds;
        kept = λ at image within holds. holds;
        here = λ at image low high holds. absurd (omega (arith, low, high));
        sent_past = λ at within. refl;
        sent_here = λ at low high. refl;
      };
      honest = λ was. was;
      was_honest = λ is. is;
      off = λ honest number free. refl;
      size = refl;
      beside = refl;
      fit = λ fit. fit;
      faults = more_faults;
      reads = more_reads;
      syncs = more_syncs;
      writes = more_writes;
    }

-- a call that isn't pending by itself, over the same bytes
pub moves_quiet : (touched : ℕ → Type 0) (size size' : ℕ) (calls calls' : List Call) (call : Call) (bytes bytes' : List ℕ)
    (faults faults' reads reads' syncs syncs' writes writes' most_reads most_syncs most_writes : ℕ)
    → ((image : Image) → before call image ≡ image) → ((number : ℕ) → IsPending (call ∷ []) number → ⊥)
    → calls' ≡ calls ++ call ∷ [] → bytes' ≡ bytes → size' ≡ size
    → faults ≤ faults' → Rises most_reads reads reads' → Rises most_syncs syncs syncs' → Rises most_writes writes writes'
    → Moves touched most_reads most_syncs most_writes (view_of size calls bytes faults reads syncs writes)
    (view_of size' calls' bytes' faults' reads' syncs' writes')
moves_quiet touched size size' calls calls' call bytes bytes' faults faults' reads reads' syncs syncs' writes writes' most_reads most_syncs
    most_writes undone free noted same kept more_faults more_reads more_syncs more_writes =
    let N : ℕ → Type 0 = λ n. Moves touched most_reads most_syncs most_writes (view_of size calls bytes faults reads syncs writes)
    (view_of n calls' bytes' faults' reads' syncs' writes') in
    let P : List ℕ → Type 0 = λ l. Moves touched most_reads most_syncs most_writes (view_of size calls bytes faults reads syncs writes)
    (view_of size calls' l faults' reads' syncs' writes') in
    let Q : List Call → Type 0 = λ l. Moves touched most_reads most_syncs most_writes (view_of size calls bytes faults reads syncs writes)
    (view_of size l bytes faults' reads' syncs' writes') in
    let still : (number : ℕ) → IsPending (calls ++ call ∷ []) number → IsPending calls number =
    λ number pending. elim (pending_more calls call number pending) [ inl was ↦ was | inr is ↦ absurd (free number is) ] in
    subst N (sym kept) (subst P (sym same) (subst Q (sym noted)
    (moves_one touched size calls call bytes bytes faults faults' reads reads' syncs syncs' writes writes' most_reads most_syncs
    most_writes
    (undone (blocks_of bytes))
    (λ number off. refl)
    (λ left holds. record {
      from = left;
      was = λ number not_pending. holds number (λ pending. not_pending (still number pending));
      same = λ number off. refl;
    })
    more_faults more_reads more_syncs more_writes)))

put_same : (one : ℕ) (block : List ℕ) (image : Image) (number : ℕ) → eqb number one ≡ true → put one block image number ≡ block
put_same one block image number is = ap (λ b. cond b block (image number)) is

put_other : (one : ℕ) (block : List ℕ) (image : Image) (number : ℕ) → eqb number one ≡ false → put one block image number ≡ image number
put_other one block image number is = ap (λ b. cond b block (image number)) is

-- a block is written, or only noted as written
pub moves_wrote : (one size size' : ℕ) (calls calls' : List Call) (block : Vec ℕ Global) (bytes bytes' : List ℕ)
    (faults faults' reads reads' syncs syncs' writes writes' most_reads most_syncs most_writes : ℕ)
    → block.items ≡ blocks_of bytes one → ((number : ℕ) → number ≢ one → blocks_of bytes' number ≡ blocks_of bytes number)
    → calls' ≡ calls ++ Wrote one block ∷ [] → size' ≡ size
    → faults ≤ faults' → Rises most_reads reads reads' → Rises most_syncs syncs syncs' → Rises most_writes writes writes'
    → Moves (At one) most_reads most_syncs most_writes (view_of size calls bytes faults reads syncs writes)
    (view_of size' calls' bytes' faults' reads' syncs' writes')
moves_wrote one size size' calls calls' block bytes bytes' faults faults' reads reads' syncs syncs' writes writes' most_reads most_syncs
    most_writes was other noted kept more_faults more_reads more_syncs more_writes =
    let N : ℕ → Type 0 = λ n. Moves (At one) most_reads most_syncs most_writes (view_of size calls bytes faults reads syncs writes)
    (view_of n calls' bytes' faults' reads' syncs' writes') in
    let Q : List Call → Type 0 = λ l. Moves (At one) most_reads most_syncs most_writes (view_of size calls bytes faults reads syncs writes)
    (view_of size l bytes' faults' reads' syncs' writes') in
    let undone : put one block.items (blocks_of bytes') ≡ blocks_of bytes =
    fun_ext (λ number. elim (eqb_tells number one) [
      | inl is ↦ put_same one block.items (blocks_of bytes') number is.0 ∙ was ∙ ap (λ n. blocks_of bytes n) (sym is.1)
      | inr not ↦ put_other one block.items (blocks_of bytes') number not.0 ∙ other number not.1
    ]) in
    let not_pending : (number : ℕ) → number ≢ one → (IsPending calls number → ⊥) → IsPending (calls ++ Wrote one block ∷ []) number → ⊥ =
    λ number not free pending. elim (pending_more calls (Wrote one block) number pending) [
      | inl before ↦ free before
      | inr is ↦ elim is [ inl here ↦ not here.0 | inr none ↦ none ]
    ] in
    subst N (sym kept) (subst Q (sym noted) (moves_one (At one) size calls
    (Wrote one block) bytes bytes' faults faults' reads reads' syncs syncs' writes writes' most_reads most_syncs most_writes
    undone
    other
    (λ left holds. record {
      from = put one (blocks_of bytes one) left;
      was = λ number free. elim (eqb_tells number one) [
        | inl is ↦ put_same one (blocks_of bytes one) left number is.0 ∙ ap (λ n. blocks_of bytes n) (sym is.1)
        | inr not ↦ put_other one (blocks_of bytes one) left number not.0 ∙ holds number (not_pending number not.1 free)
            ∙ other number not.1
      ];
      same = λ number off. elim (eqb_tells number one) [
        | inl is ↦ absurd (off is.1)
        | inr not ↦ sym (put_other one (blocks_of bytes one) left number not.0)
      ];
    })
    more_faults more_reads more_syncs more_writes))

-- after a sync a crash leaves what reads give
pub only_synced : (size : ℕ) (calls calls' : List Call) (bytes : List ℕ) (faults reads syncs writes : ℕ) → calls' ≡ calls ++ Synced ∷ []
    → Only (blocks_of bytes) (Now (view_of size calls' bytes faults reads syncs writes))
only_synced size calls calls' bytes faults reads syncs writes noted other holds =
    let left = left_now calls' (blocks_of bytes) other (length calls') (omega arith) holds in
    let free : (number : ℕ) → IsPending calls' number → ⊥ = let P : List Call → Type 0 = λ l. (number : ℕ) → IsPending l number → ⊥ in
    subst P (sym noted) (none_pending calls) in
    fun_ext (λ number. left number (free number))
