-- What a group of edits did, of a store.
use Rattle.std.proofs.Common.{◌≡◌, ◌<◌, ℕ, Bool, false, List, [], length, take, Result, Ok, Err, Vec, refl, sym, subst, arith, inl, inr}
use Rattle.std.specs.Result.{IsErrAnd}
use Rattle.block_disk.specs.View.{Image, View, Passes}
use Rattle.block_disk.proofs.Passing.{passes_none, passes_weaker}
use Rattle.gate_pages.specs.Pages.{Quiet}
use Rattle.page_space.specs.declared.superblock.Superblock.{Superblock}
use Rattle.series_book.specs.declared.edits.Edit.{Edit}
use Rattle.series_book.specs.declared.one_series.Series.{Series}
use Rattle.series_book.specs.declared.outcomes.Outcome.{Outcome}
use Rattle.series_book.specs.declared.refusals.Refusal.{Refusal}
use Rattle.series_book.specs.EditLists.{after_edits}
use Rattle.series_catalog.specs.declared.stored_series.StoredSeries.{StoredSeries}
use Rattle.stored_book.specs.Standing.{StandsForBook}
use Rattle.series_store.specs.Groups.{IsGroupCause, IsNoneOrAll, RefuseLast}
use Rattle.series_store.specs.Grouping.{DidGroup, IsDamage, IsFailure, IsGroupAnswered, IsGroupedBy, IsGrouping, IsSameOr}
use Rattle.series_store.specs.Opening.{IsOutside}
use Rattle.series_store.specs.Staging.{IsCatalogOf}
use Rattle.series_store.specs.declared.errors.StoreError.{StoreError}
use Rattle.series_store.specs.declared.errors.StoreError.TheVariants.{Refused, NotAStore, DiskFault, Damaged, NoMemory}
use Rattle.series_store.proofs.GroupLemmas.{first_none}
use Rattle.series_store.proofs.StageLemmas.{catalog_as}

pub answered_starved : {Z : Type 0} (total : ℕ) (book : List Series) (edits : List Edit) (ends : Bool) (at : View)
    (result : Result (Vec (Result Outcome Refusal) Z) StoreError) → IsErrAnd result (λ e. e ≡ NoMemory)
    → IsGroupAnswered total book edits ends at at result
answered_starved {Z} total book edits ends at (Ok answers) is = absurd is
answered_starved {Z} total book edits ends at (Err e) is = record {
  done = tt;
  many = λ off. tt;
  outside = inr is;
  moments = tt;
  whole = record { covered = 0; within = omega arith; moments = passes_none at (IsNoneOrAll total book edits 0) (Quiet at) };
  until = λ on. record {
    covered = 0;
    within = omega arith;
    last = first_none total book edits;
    moments = passes_none at (IsNoneOrAll total book edits 0) (Quiet at);
  };
  last = λ on. tt;
  reads = omega arith;
  few_reads = tt;
  idle = tt;
}

-- a group did it

pub did_all : {Z : Type 0} (told told' : Type 0) (old new under under' : View) (s s' : Superblock) (items items' : List StoredSeries)
    (edits : List Edit) (answers : Vec (Result Outcome Refusal) Z) → 0 < length edits
    → IsGrouping told told' old new under under' s s' 1 items items' edits [] answers.items answers.items (Ok tt)
    → DidGroup told told' old new under under' s s' items items' edits (Ok answers)
did_all {Z} told told' old new under under' s s' items items' edits answers some all = record {
  covered = (all.some some (omega arith), all.within);
  moves = all.moves;
  goes_on = all.goes_on;
  cause = tt;
  unchanged = tt;
  sound = all.sound;
  total = all.total;
  slots = all.slots;
  more = all.more;
}

-- a group failed, and no page was damaged

cause_of_failure : (e : StoreError) (told : Type 0) (s : Superblock) (old new : View) → (IsDamage e → ⊥) → IsFailure e old.faults new.faults
    → IsGroupCause e told s old new
cause_of_failure (Refused refusal) told s old new other failure = failure
cause_of_failure NotAStore told s old new other failure = failure
cause_of_failure DiskFault told s old new other failure = failure
cause_of_failure (Damaged page) told s old new other failure = absurd (other tt)
cause_of_failure NoMemory told s old new other failure = tt

pub did_fail : {Z : Type 0} (told told' : Type 0) (old new under under' : View) (s s' : Superblock) (items items' : List StoredSeries)
    (edits : List Edit) (answers : List (Result Outcome Refusal)) (e : StoreError) → (IsDamage e → ⊥)
    → IsGrouping told told' old new under under' s s' 1 items items' edits [] answers answers (Err e)
    → DidGroup {Z = Z} told told' old new under under' s s' items items' edits (Err e)
did_fail {Z} told told' old new under under' s s' items items' edits answers e other group = record {
  covered = tt;
  moves = group.moves;
  goes_on = group.goes_on;
  cause = cause_of_failure e told s old new other group.failure;
  unchanged = group.unchanged;
  sound = tt;
  total = group.total;
  slots = tt;
  more = group.more;
}

same_or : (total : ℕ) (book : List Series) (edits : List Edit) (covered : ℕ) (old new : View) → StandsForBook old.image total book
    → Passes old new (IsSameOr old.image total (after_edits total book (take covered edits))) (Quiet old)
    → Passes old new (IsNoneOrAll total book edits covered) (Quiet old)
same_or total book edits covered old new stands time =
    let S : Image → Type 0 = λ i. StandsForBook i total book in
    passes_weaker old new (IsSameOr old.image total (after_edits total book (take covered edits))) (IsNoneOrAll total book edits covered)
    (Quiet old) (Quiet old)
    (λ image either. elim either [
      | inl same ↦ inl (subst S (sym same) stands)
      | inr after ↦ inr after
    ]) (λ count quiet. quiet) time

pub answered_fail : {Z : Type 0} (total : ℕ) (book : List Series) (edits : List Edit) (ends : Bool)
    (answers : List (Result Outcome Refusal)) (old new : View) (e : StoreError) → StandsForBook old.image total book
    → IsGroupedBy total book 1 ends false edits answers (Err e) old new → IsGroupAnswered {Z = Z} total book edits ends old new (Err e)
answered_fail {Z} total book edits ends answers old new e stands grouped = record {
  done = tt;
  many = λ off. tt;
  outside = grouped.outside;
  moments = tt;
  whole = record {
    covered = grouped.covered;
    within = grouped.few;
    moments = same_or total book edits grouped.covered old new stands grouped.moments;
  };
  until = λ on. record {
    covered = grouped.covered;
    within = grouped.few;
    last = grouped.last on;
    moments = same_or total book edits grouped.covered old new stands grouped.moments;
  };
  last = λ on. tt;
  reads = grouped.reads;
  few_reads = tt;
  idle = tt;
}

pub answered_all : {Z : Type 0} (total : ℕ) (book : List Series) (edits : List Edit) (ends : Bool)
    (answers : Vec (Result Outcome Refusal) Z) (old new : View) → StandsForBook old.image total book
    → IsGroupedBy total book 1 ends false edits answers.items (Ok tt) old new → IsGroupAnswered total book edits ends old new (Ok answers)
answered_all {Z} total book edits ends answers old new stands grouped =
    let M : ℕ → Type 0 = λ n. Passes old new (IsNoneOrAll total book edits n) (Quiet old) in
    let L : ℕ → Type 0 = λ n. RefuseLast total book (take n edits) in
    let time : M grouped.covered = same_or total book edits grouped.covered old new stands grouped.moments in
    record {
      done = grouped.done;
      many = grouped.many;
      outside = tt;
      moments = subst M grouped.same time;
      whole = record { covered = grouped.covered; within = grouped.few; moments = time };
      until = λ on. record { covered = grouped.covered; within = grouped.few; last = grouped.last on; moments = time };
      last = λ on. subst L grouped.same (grouped.last on);
      reads = grouped.reads;
      few_reads = grouped.few_reads;
      idle = grouped.idle refl;
    }

-- a page was called damaged: nothing was done, and then one edit was

pub damage_not_outside : (e : StoreError) → IsDamage e → IsOutside e → ⊥
damage_not_outside e is (inl fault) = let D : StoreError → Type 0 = λ e. IsDamage e in subst D fault is
damage_not_outside e is (inr memory) = let D : StoreError → Type 0 = λ e. IsDamage e in subst D memory is

-- the catalog is that of the pages after the call too
pub group_stored : (told told' : Type 0) (old new under under' : View) (s s' : Superblock) (held_pages : ℕ)
    (items items' : List StoredSeries) (edits : List Edit) (before answers added : List (Result Outcome Refusal))
    (result : Result (Unit {0}) StoreError) → old.fit
    → IsGrouping told told' old new under under' s s' held_pages items items' edits before answers added result
    → IsCatalogOf (old.fit × told) old.image s items → IsCatalogOf (new.fit × told') new.image s' items'
group_stored told told' old new under under' s s' held_pages items items' edits before answers added
    (Ok done) sound group are = group.stored
group_stored told told' old new under under' s s' held_pages items items' edits before answers added (Err e) sound group are =
    catalog_as (old.fit × told) (new.fit × told') old.image new.image s s' items items' (λ now. (sound, group.moves.was_told now.1))
    (λ now. group.image now.0 (group.moves.was_told now.1)) group.numbers group.kept are
