-- Blocks that are torn one after another, and what was pending.
use Rattle.std.proofs.Common.{refl, ◌≡◌, ℕ, ◌+◌, ◌-◌, ◌<◌, ◌≤◌, ◌⊎◌, Bool, true, false, cond, eqb, List, [], ◌∷◌, ◌++◌, length, take, drop}
use Rattle.std.proofs.Common.{get_or, ap, sym, ◌∙◌, arith, inl, inr, subst, IsTrue, ◌&&◌, append_assoc, length-drop}
use Rattle.std.specs.List.{list_all}
use Rattle.std.proofs.lemmas.List.{take_more, take_all, take-append-drop}
use Rattle.std.proofs.lemmas.List.Folds.{list_all-append, list_all_at}
use Rattle.std.proofs.lemmas.Bool.Decides.{eqb_tells}
use Rattle.block_disk.specs.View.{Image}
use Rattle.block_disk.specs.MemDisk.{blocks_of, put, before_all, HasNoSync, IsPending}
use Rattle.block_disk.specs.Tear.{torn, after_tear, Touched, TornBy, EndsSynced, Crashed}
use Rattle.block_disk.specs.declared.mem_disk.Call.{Call}
use Rattle.block_disk.specs.declared.mem_disk.Call.TheVariants.{Wrote, Synced, Asked}
use Rattle.block_disk.specs.declared.tear.Tear.{Tear}

-- what was touched with one more call
touched_more : (calls : List Call) (call : Call) (number : ℕ) → Touched (calls ++ call ∷ []) number
    → Touched calls number ⊎ Touched (call ∷ []) number
touched_more [] call number touched = inr touched
touched_more (Wrote one block ∷ calls) call number (inl is) = inl (inl is)
touched_more (Wrote one block ∷ calls) call number (inr later) = by (touched_more calls call number later)
  where
    by : Touched calls number ⊎ Touched (call ∷ []) number → ((number ≡ one) ⊎ Touched calls number) ⊎ Touched (call ∷ []) number
    by (inl was) = inl (inr was)
    by (inr is) = inr is
touched_more (Synced ∷ calls) call number touched = touched_more calls call number touched
touched_more (Asked ∷ calls) call number touched = touched_more calls call number touched

touched_before : (calls : List Call) (call : Call) (number : ℕ) → Touched calls number → Touched (calls ++ call ∷ []) number
touched_before [] call number touched = absurd touched
touched_before (Wrote one block ∷ calls) call number (inl is) = inl is
touched_before (Wrote one block ∷ calls) call number (inr later) = inr (touched_before calls call number later)
touched_before (Synced ∷ calls) call number touched = touched_before calls call number touched
touched_before (Asked ∷ calls) call number touched = touched_before calls call number touched

touched_last : (calls : List Call) (call : Call) (number : ℕ) → Touched (call ∷ []) number → Touched (calls ++ call ∷ []) number
touched_last [] call number touched = touched
touched_last (Wrote one block ∷ calls) call number touched = inr (touched_last calls call number touched)
touched_last (Synced ∷ calls) call number touched = touched_last calls call number touched
touched_last (Asked ∷ calls) call number touched = touched_last calls call number touched

put_same : (one : ℕ) (block : List ℕ) (image : Image) (number : ℕ) → eqb number one ≡ true → put one block image number ≡ block
put_same one block image number is = ap (λ b. cond b block (image number)) is

put_other : (one : ℕ) (block : List ℕ) (image : Image) (number : ℕ) → eqb number one ≡ false → put one block image number ≡ image number
put_other one block image number is = ap (λ b. cond b block (image number)) is

-- a call that touches nothing
tears_quiet : (tear : Tear) (calls : List Call) (call : Call) (old new left : Image) → ((number : ℕ) → Touched (call ∷ []) number → ⊥)
    → TornBy tear calls old new left → TornBy tear (calls ++ call ∷ []) old new left
tears_quiet tear calls call old new left free so_far = record {
  touched = λ number touched. elim (touched_more calls call number touched)
      [ inl was ↦ so_far.touched number was | inr is ↦ absurd (free number is) ];
  others = λ number untouched. so_far.others number (λ was. untouched (touched_before calls call number was));
}

-- one more call
pub tears_more : (tear : Tear) (calls : List Call) (call : Call) (old new left : Image) → TornBy tear calls old new left
    → TornBy tear (calls ++ call ∷ []) old new (after_tear tear call old new left)
tears_more tear calls (Wrote one block) old new left so_far =
    let block' = torn tear (old one) (new one) in
    record {
      touched = λ number touched. elim (eqb_tells number one) [
        | inl is ↦ put_same one block' left number is.0 ∙ ap (λ n. torn tear (old n) (new n)) (sym is.1)
        | inr not ↦ put_other one block' left number not.0 ∙ elim (touched_more calls (Wrote one block) number touched) [
          | inl was ↦ so_far.touched number was
          | inr is ↦ elim is [ inl here ↦ absurd (not.1 here) | inr none ↦ absurd none ]
        ]
      ];
      others = λ number untouched. elim (eqb_tells number one) [
        | inl is ↦ absurd (untouched (touched_last calls (Wrote one block) number (inl is.1)))
        | inr not ↦ put_other one block' left number not.0
            ∙ so_far.others number (λ was. untouched (touched_before calls (Wrote one block) number was))
      ];
    }
tears_more tear calls Synced old new left so_far = tears_quiet tear calls Synced old new left (λ number touched. touched) so_far
tears_more tear calls Asked old new left so_far = tears_quiet tear calls Asked old new left (λ number touched. touched) so_far

-- where no sync is among the calls, what was touched is pending, and the other way round
pending_touched : (calls : List Call) (number : ℕ) → IsPending calls number → Touched calls number
pending_touched [] number pending = absurd pending
pending_touched (Wrote one block ∷ calls) number (inl is) = inl is.0
pending_touched (Wrote one block ∷ calls) number (inr later) = inr (pending_touched calls number later)
pending_touched (Synced ∷ calls) number pending = pending_touched calls number pending
pending_touched (Asked ∷ calls) number pending = pending_touched calls number pending

touched_pending : (calls : List Call) (number : ℕ) → HasNoSync calls → Touched calls number → IsPending calls number
touched_pending [] number none touched = absurd touched
touched_pending (Wrote one block ∷ calls) number none (inl is) = inl (is, none)
touched_pending (Wrote one block ∷ calls) number none (inr later) = inr (touched_pending calls number none later)
touched_pending (Synced ∷ calls) number none touched = absurd none
touched_pending (Asked ∷ calls) number none touched = touched_pending calls number none touched

-- behind a sync, what was pending before it isn't
sync_between : (front behind : List Call) → HasNoSync (front ++ Synced ∷ behind) → ⊥
sync_between [] behind none = none
sync_between (Wrote one block ∷ front) behind none = sync_between front behind none
sync_between (Synced ∷ front) behind none = none
sync_between (Asked ∷ front) behind none = sync_between front behind none

pending_behind : (front behind : List Call) (number : ℕ) → IsPending (front ++ Synced ∷ behind) number → IsPending behind number
pending_behind [] behind number pending = pending
pending_behind (Wrote one block ∷ front) behind number (inl is) = absurd (sync_between front behind is.1)
pending_behind (Wrote one block ∷ front) behind number (inr later) = pending_behind front behind number later
pending_behind (Synced ∷ front) behind number pending = pending_behind front behind number pending
pending_behind (Asked ∷ front) behind number pending = pending_behind front behind number pending

pending_later : (front behind : List Call) (number : ℕ) → IsPending behind number → IsPending (front ++ behind) number
pending_later [] behind number pending = pending
pending_later (Wrote one block ∷ front) behind number pending = inr (pending_later front behind number pending)
pending_later (Synced ∷ front) behind number pending = pending_later front behind number pending
pending_later (Asked ∷ front) behind number pending = pending_later front behind number pending

-- one more call of a list
pub tears_step : (tear : Tear) (calls : List Call) (i : ℕ) (call : Call) (old new left left' : Image) → i < length calls
    → call ≡ get_or calls i call → TornBy tear (take i calls) old new left → left' ≡ after_tear tear call old new left
    → TornBy tear (take (i + 1) calls) old new left'
tears_step tear calls i call old new left left' below is so_far next =
    let P : List Call → Type 0 = λ l. TornBy tear l old new left' in
    let Q : Image → Type 0 = λ image. TornBy tear (take i calls ++ call ∷ []) old new image in
    let longer : take (i + 1) calls ≡ take i calls ++ call ∷ [] = take_more calls i call below
    ∙ ap (λ c. take i calls ++ c ∷ []) (sym is) in
    subst P (sym longer) (subst Q (sym next) (tears_more tear (take i calls) call old new left so_far))

-- before the first call, and after the last
pub tears_none : (tear : Tear) (old : Image) (new left : List ℕ) → left ≡ new → TornBy tear [] old (blocks_of new) (blocks_of left)
tears_none tear old new left same = record {
  touched = λ number touched. absurd touched;
  others = λ number untouched. ap (λ bytes. blocks_of bytes number) same;
}

pub tears_all : (tear : Tear) (calls : List Call) (i : ℕ) (old new left : Image) → length calls ≤ i
    → TornBy tear (take i calls) old new left → TornBy tear calls old new left
tears_all tear calls i old new left past so_far =
    let P : List Call → Type 0 = λ l. TornBy tear l old new left in
    subst P (take_all i calls past) so_far

-- the pending blocks are those that were touched since the last sync
since_pending : (record' : List Call) (synced number : ℕ) → EndsSynced (take synced record') → IsPending record' number
    → IsPending (drop synced record') number
since_pending record' synced number last pending =
    let P : List Call → Type 0 = λ l. IsPending l number in
    let Q : List Call → Type 0 = λ l. IsPending (l ++ drop synced record') number in
    let parts = subst P (sym (take-append-drop synced record')) pending in
    elim last [
      | inl none ↦ subst Q none parts
      | inr ends ↦ pending_behind ends.0 (drop synced record') number
          (subst P (append_assoc ends.0 (Synced ∷ []) (drop synced record')) (subst Q ends.1 parts))
    ]

pending_since : (record' : List Call) (synced number : ℕ) → IsPending (drop synced record') number → IsPending record' number
pending_since record' synced number pending =
    let P : List Call → Type 0 = λ l. IsPending l number in
    subst P (take-append-drop synced record') (pending_later (take synced record') (drop synced record') number pending)

pub crashed : (tear : Tear) (record' calls : List Call) (synced : ℕ) (image new old left : Image) → EndsSynced (take synced record')
    → HasNoSync (drop synced record') → calls ≡ drop synced record' → old ≡ before_all (drop synced record') image → new ≡ image
    → TornBy tear calls old new left → Crashed tear record' image left
crashed tear record' calls synced image new old left last since same undone now tears =
    let P : List Call → Type 0 = λ l. TornBy tear l old new left in
    let parts = subst P same tears in
    record {
      synced = synced;
      last = last;
      since = since;
      pending = λ number pending.
          parts.touched number (pending_touched (drop synced record') number (since_pending record' synced number last pending))
          ∙ ap (λ i. torn tear (i number) (new number)) undone
          ∙ ap (λ i. torn tear (before_all (drop synced record') image number) (i number)) now;
      others = λ number free.
          parts.others number (λ touched. free (pending_since record' synced number
          (touched_pending (drop synced record') number since touched)))
          ∙ ap (λ i. i number) now;
    }

and_right : (a b : Bool) → IsTrue (a && b) → IsTrue b
and_right true b both = both
and_right false b both = absurd (cc (both))

-- what holds of all calls holds of those behind some
pub all_behind : (p : Call → Bool) (calls : List Call) (from : ℕ) → IsTrue (list_all p calls) → IsTrue (list_all p (drop from calls))
all_behind p calls from all =
    let P : List Call → Type 0 = λ l. IsTrue (list_all p l) in
    let Q : Bool → Type 0 = λ b. IsTrue b in
    and_right (list_all p (take from calls)) (list_all p (drop from calls))
    (subst Q (list_all-append p (take from calls) (drop from calls)) (subst P (sym (take-append-drop from calls)) all))

told_true : (b c : Bool) → (b ≡ false → c ≡ false) → IsTrue c → IsTrue b
told_true true c if_not is = refl
told_true false c if_not is = absurd (cc (if_not refl, is))

-- what holds of all calls holds of one
pub all_at : (p : Call → Bool) (calls : List Call) (i : ℕ) (call : Call) → i < length calls → call ≡ get_or calls i call
    → IsTrue (list_all p calls) → IsTrue (p call)
all_at p calls i call below is all =
    let P : Call → Type 0 = λ c. IsTrue (p c) in
    subst P (sym is) (told_true (p (get_or calls i call)) (list_all p calls) (list_all_at p calls i call below) all)

-- the calls from there to the end
pub behind_all : (calls : List Call) (from : ℕ) → take (length calls - from) (drop from calls) ≡ drop from calls
behind_all calls from = take_all (length calls - from) (drop from calls) (omega (arith, length-drop from calls))
