-- Edits are staged one after the other, and committed together.
use Rattle.std.proofs.Common.{◌≡◌, ℕ, zero, suc, ◌+◌, ◌*◌, ◌<◌, ◌≤◌, ◌⊎◌, All, Bool, true, false, List, [], ◌∷◌, ◌++◌, length, take, drop}
use Rattle.std.proofs.Common.{Some, Result, Ok, Err, is_ok, IsOk, IsErr, map, IfOk, IfErr, OnOk, OnErr, if◌then◌else◌, refl, sym, ap, ap₂}
use Rattle.std.proofs.Common.{subst, ◌∙◌, arith, inl, inr}
use Rattle.std.specs.Result.{IsErrAnd}
use Rattle.std.specs.List.{slice_get}
use Rattle.std.proofs.lemmas.Bool.{false≢true}
use Rattle.std.proofs.lemmas.List.{length_push, length-set}
use Rattle.block_disk.specs.Counts.{HasRisen}
use Rattle.block_disk.specs.View.{Image, View, Now, Only, Passes}
use Rattle.block_disk.proofs.Passing.{passes_weaker}
use Rattle.gate_pages.specs.Pages.{BeforeOrAfter, Quiet, Commits, GoesOn}
use Rattle.gate_pages.specs.GateLaws.{goes_none, goes_then}
use Rattle.gate_pages.proofs.Moving.{time_then}
use Rattle.page_space.specs.Transactions.{held, left_by}
use Rattle.page_space.specs.declared.superblock.Superblock.{Superblock}
use Rattle.page_space.specs.declared.txn.Txn.{Txn}
use Rattle.path_repair.specs.Standing.{ReadsMost}
use Rattle.series_book.specs.declared.limits.TheConstants.{MOST_SLOTS}
use Rattle.series_book.specs.declared.edits.Edit.{Edit}
use Rattle.series_book.specs.declared.one_series.Series.{Series}
use Rattle.series_book.specs.declared.outcomes.Outcome.{Outcome}
use Rattle.series_book.specs.declared.refusals.Refusal.{Refusal}
use Rattle.series_book.specs.declared.refusals.Refusal.TheVariants.{UnknownSeries}
use Rattle.series_book.specs.Edits.{Edited, IsEdit, apply}
use Rattle.series_book.specs.EditLists.{after_edits, book_behind, edits_give, slots_behind}
use Rattle.series_catalog.specs.declared.stored_series.StoredSeries.{StoredSeries}
use Rattle.series_catalog.proofs.ReadLemmas.{risen_on}
use Rattle.stored_book.specs.Standing.{StandsForBook}
use Rattle.series_store.specs.Changing.{IsRefusedBy}
use Rattle.series_store.specs.Groups.{AreDone, ChangeNone, HaveFewSlots, RefuseLast, answer_of, weight, weight_of, touch_of}
use Rattle.series_store.specs.Grouping.{Follow, IsFailure, IsGrouping, IsGroupedBy, IsNext, IsNextBy, IsSameOr}
use Rattle.series_store.specs.Opening.{IsOutside}
use Rattle.series_store.specs.Results.{ClearsNone, KeepsBook, CommitsNone, IsUnchanged, IsUnchangedFor}
use Rattle.series_store.specs.Staging.{IsCatalogOf, IsWholeOf, IsStaging, IsStagedBy, IsStageCause, IsRefusal, TakesBack}
use Rattle.series_store.specs.declared.errors.StoreError.{StoreError}
use Rattle.series_store.specs.declared.errors.StoreError.TheVariants.{Refused, NotAStore, DiskFault, Damaged, NoMemory}
use Rattle.series_store.specs.declared.staged.Staged.{Staged}
use Rattle.series_store.specs.declared.staged.Undo.{Undo}
use Rattle.series_store.specs.declared.staged.Undo.TheVariants as undo
use Rattle.series_store.proofs.CommitLemmas.{no_read, reads_leave as unchanged_by}
use Rattle.series_store.proofs.StageLemmas.{catalog_as}
use Rattle.series_store.proofs.TimeLemmas.{reads_leave}

-- a push with room
pub pushed : {T E : Type 0} (result : Result (Unit {0}) E) (old new : List T) (value : T)
    → new ≡ (if is_ok result then old ++ value ∷ [] else old) → IsOk result → new ≡ old ++ value ∷ []
pushed {T} {E} (Ok done) old new value is ok = is
pushed {T} {E} (Err e) old new value is ok = absurd (false≢true ok)

-- One edit behind others.

failure_of : (e : StoreError) (told : Type 0) (image : Image) (s : Superblock) (old new : ℕ) → (IsRefusal e → ⊥)
    → IsStageCause e told image s old new → IsFailure e old new
failure_of (Refused refusal) told image s old new none why = none tt
failure_of NotAStore told image s old new none why = why
failure_of DiskFault told image s old new none why = why
failure_of (Damaged page) told image s old new none why = tt
failure_of NoMemory told image s old new none why = tt

pub next_starved : (told : Type 0) (at under : View) (s : Superblock) (txn : Txn) (items : List StoredSeries)
    (before answers : List (Result Outcome Refusal)) (result : Result Undo StoreError) → IsErrAnd result (λ e. e ≡ NoMemory)
    → answers ≡ before
    → IsNext told told at at under under s s txn txn items items before answers result
next_starved told at under s txn items before answers (Ok u) is same = absurd is
next_starved told at under s txn items before answers (Err e) is same =
    let F : StoreError → Type 0 = λ e. IsFailure e at.faults at.faults in
    record {
      reads = no_read 96 told at;
      over = record { superblock = refl; goes_on = goes_none under };
      failure = subst F (sym is) tt;
      kept = refl;
      same = same;
      back = tt;
      staged = tt;
      answer = Err UnknownSeries;
      answers_are = tt;
      slots = tt;
    }

pub next_error : (told told' : Type 0) (old new under under' : View) (s s' : Superblock) (txn txn' : Txn) (items items' : List StoredSeries)
    (before answers : List (Result Outcome Refusal)) (result : Result Undo StoreError) (e : StoreError)
    → IsErrAnd result (λ cause. cause ≡ e) → (IsRefusal e → ⊥)
    → IsStaging told told' old new under under' s s' txn txn' items items' (Err e) → answers ≡ before
    → IsNext told told' old new under under' s s' txn txn' items items' before answers result
next_error told told' old new under under' s s' txn txn' items items' before answers (Ok u) e is none did same = absurd is
next_error told told' old new under under' s s' txn txn' items items' before answers (Err cause) e is none did same =
    let F : StoreError → Type 0 = λ e. IsFailure e old.faults new.faults in
    record {
      reads = did.reads;
      over = did.over;
      failure = subst F (sym is) (failure_of e told (left_by txn old.image) txn.superblock old.faults new.faults none did.cause);
      kept = did.kept;
      same = same;
      back = tt;
      staged = tt;
      answer = Err UnknownSeries;
      answers_are = tt;
      slots = tt;
    }

outside_of : (answer : Result Edited Refusal) (e : StoreError) → (IsRefusal e → ⊥) → IsRefusedBy answer e → IsOutside e
outside_of answer (Refused refusal) none says = absurd (none tt)
outside_of answer NotAStore none says = absurd says
outside_of answer DiskFault none says = inl refl
outside_of answer (Damaged page) none says = absurd says
outside_of answer NoMemory none says = inr refl

pub next_by_error : (total : ℕ) (book : List Series) (edit : Edit) (result : Result Undo StoreError) (txn txn' : Txn) (image' : Image)
    (before answers : List (Result Outcome Refusal)) (e : StoreError) → IsErrAnd result (λ cause. cause ≡ e) → (IsRefusal e → ⊥)
    → IsRefusedBy (apply book total edit) e → IsNextBy total book edit result txn txn' image' before answers
next_by_error total book edit (Ok u) txn txn' image' before answers e is none says = absurd is
next_by_error total book edit (Err cause) txn txn' image' before answers e is none says =
    record {
      outside = subst IsOutside (sym is) (outside_of (apply book total edit) e none says);
      answer = Err UnknownSeries;
      answers_are = tt;
      says = tt;
      stands = tt;
      few = tt;
      idle = tt;
      nothing = tt;
    }

not_error : (answer : Result Edited Refusal) (edited : Edited) → answer ≡ Ok edited → IsErr answer → ⊥
not_error answer edited is error = let E : Result Edited Refusal → Type 0 = λ answer. IsErr answer in absurd (false≢true (subst E is error))

pub next_by_ok : (total : ℕ) (book : List Series) (edit : Edit) (staged : Staged) (txn txn' : Txn) (image' : Image)
    (before answers : List (Result Outcome Refusal)) → answers ≡ before ++ Ok staged.outcome ∷ []
    → IsStagedBy (apply book total edit) (touch_of book edit) total (Ok staged) txn txn' image'
    → (ClearsNone book edit → staged.undo ≡ undo.Nothing) → (KeepsBook book (apply book total edit) → staged.undo ≡ undo.Nothing)
    → (staged.undo ≡ undo.Nothing → txn' ≡ txn) → IsNextBy total book edit (Ok staged.undo) txn txn' image' before answers
next_by_ok total book edit staged txn txn' image' before answers are by idle kept nothing =
    let done = by.done in
    let S : Result Edited Refusal → Type 0 = λ answer. StandsForBook image' total (book_behind book answer) in
    let W : Result Edited Refusal → Type 0 = λ answer. length (held txn') ≤ length (held txn) + weight_of answer (touch_of book edit) in
    record {
      outside = tt;
      answer = Ok staged.outcome;
      answers_are = are;
      says = ap (λ (n : ℕ). Ok n) done.slots ∙ sym (ap (λ (answer : Result Edited Refusal). slots_behind answer) done.accepted);
      stands = subst S (sym done.accepted) done.stands;
      few = subst W (sym done.accepted) by.few;
      idle = λ either. elim either [
        | inl refused ↦ absurd (not_error (apply book total edit) done.edited done.accepted refused)
        | inr none ↦ elim none [ inl cleared ↦ idle cleared | inr keeps ↦ kept keeps ]
      ];
      nothing = nothing;
    }

pub next_by_refused : (told : Type 0) (total : ℕ) (book : List Series) (edit : Edit) (e : StoreError) (refusal : Refusal) (txn txn' : Txn)
    (old new : View) (before answers : List (Result Outcome Refusal)) → e ≡ Refused refusal → answers ≡ before ++ Err refusal ∷ []
    → IsStagedBy (apply book total edit) (touch_of book edit) total (Err e) txn txn' (left_by txn' new.image) → told
    → (told → new.image ≡ old.image) → StandsForBook (left_by txn old.image) total book
    → IsNextBy total book edit (Ok undo.Nothing) txn txn' (left_by txn' new.image) before answers
next_by_refused told total book edit e refusal txn txn' old new before answers is are by t image stands =
    let R : StoreError → Type 0 = λ e. IsRefusedBy (apply book total edit) e in
    let A : StoreError → Type 0 = λ e. IsRefusal e → txn' ≡ txn in
    let says : apply book total edit ≡ Err refusal = subst R is by.refused in
    let same : txn' ≡ txn = subst A is by.same tt in
    let S : Result Edited Refusal → Type 0 = λ answer. StandsForBook (left_by txn' new.image) total (book_behind book answer) in
    let T : Txn → Type 0 = λ x. StandsForBook (left_by x new.image) total book in
    let I : Image → Type 0 = λ i. StandsForBook (left_by txn i) total book in
    let W : Result Edited Refusal → Type 0 = λ answer. length (held txn') ≤ length (held txn) + weight_of answer (touch_of book edit) in
    record {
      outside = tt;
      answer = Err refusal;
      answers_are = are;
      says = sym (ap (λ (answer : Result Edited Refusal). slots_behind answer) says);
      stands = subst S (sym says) (subst T (sym same) (subst I (sym (image t)) stands));
      few = subst W (sym says) (omega (arith, ap (λ (x : Txn). length (held x)) same));
      idle = λ either. refl;
      nothing = λ none. same;
    }

-- None is left, or the transaction is full: it is committed.

drop_all : {X : Type 0} (xs : List X) → drop (length xs) xs ≡ []
drop_all {X} [] = refl
drop_all {X} (x ∷ xs) = drop_all xs

drop_front : {X : Type 0} (xs ys : List X) → drop (length xs) (xs ++ ys) ≡ ys
drop_front {X} [] ys = refl
drop_front {X} (x ∷ xs) ys = drop_front xs ys

take_none : {X : Type 0} (xs : List X) → take 0 xs ≡ []
take_none {X} [] = refl
take_none {X} (x ∷ xs) = refl

pub first_none : (total : ℕ) (book : List Series) (edits : List Edit) → RefuseLast total book (take 0 edits)
first_none total book edits = let P : List Edit → Type 0 = RefuseLast total book in subst P (sym (take_none edits)) tt

by_cases : (b : Bool) (P : Type 0) → (b ≡ true → P) → (b ≡ false → P) → P
by_cases true P so other = so refl
by_cases false P so other = other refl

closed_failure : (result : Result (Unit {0}) StoreError) (old new : ℕ) → IfErr result (λ e. e ≡ DiskFault) → OnErr result (HasRisen old new)
    → IfErr result (λ e. IsFailure e old new)
closed_failure (Ok done) old new is risen = tt
closed_failure (Err e) old new is risen = let F : StoreError → Type 0 = λ e. IsFailure e old new in subst F (sym is) risen

closed_unchanged : (result : Result (Unit {0}) StoreError) (told : Type 0) (old new : View) → IfErr result (λ e. e ≡ DiskFault)
    → IfErr result (λ e. IsUnchangedFor e told old new)
closed_unchanged (Ok done) told old new is = tt
closed_unchanged (Err e) told old new is = let U : StoreError → Type 0 = λ e. IsUnchangedFor e told old new in subst U (sym is) tt

closed_outside : (result : Result (Unit {0}) StoreError) → IfErr result (λ e. e ≡ DiskFault) → IfErr result IsOutside
closed_outside (Ok done) is = tt
closed_outside (Err e) is = inl is

on_ok : (result : Result (Unit {0}) StoreError) (P : Type 0) → P → OnOk result P
on_ok (Ok done) P holds = holds
on_ok (Err e) P holds = tt

on_err : (result : Result (Unit {0}) StoreError) (P : Type 0) → P → OnErr result P
on_err (Ok done) P holds = tt
on_err (Err e) P holds = holds

ok_so : (result : Result (Unit {0}) StoreError) (P Q : Type 0) → (P → Q) → OnOk result P → OnOk result Q
ok_so (Ok done) P Q more holds = more holds
ok_so (Err e) P Q more holds = tt

err_so : (result : Result (Unit {0}) StoreError) (P Q : Type 0) → (P → Q) → OnErr result P → OnErr result Q
err_so (Ok done) P Q more holds = tt
err_so (Err e) P Q more holds = more holds

pub no_slots : HaveFewSlots []
no_slots = λ k d within. absurd (omega (arith, within))

pub closed : (told told' : Type 0) (old new under under' : View) (s s' : Superblock) (txn : Txn) (is_changed : Bool)
    (items : List StoredSeries) (edits : List Edit) (before : List (Result Outcome Refusal)) (result : Result (Unit {0}) StoreError)
    → (0 < length edits → length (held txn) ≤ 22 → ⊥) → length (held txn) ≤ 64 → Commits (held txn) told told' old new → GoesOn under under'
    → (is_changed ≡ true → told → OnOk result (new.image ≡ left_by txn old.image))
    → (is_changed ≡ true → OnOk result (s' ≡ txn.superblock))
    → (is_changed ≡ false → (new.image ≡ old.image) × (s' ≡ s)) → OnErr result (s' ≡ s) → OnOk result new.fit → OnErr result (new.fit → ⊥)
    → IfErr result (λ e. e ≡ DiskFault) → OnErr result (HasRisen old.faults new.faults)
    → IsWholeOf s.total told (left_by txn old.image) txn.superblock items → (is_changed ≡ false → IsCatalogOf told old.image s items)
    → IsGrouping told told' old new under under' s s' (length (held txn)) items items edits before before
    (drop (length before) before) result
closed told told' old new under under' s s' txn is_changed items edits before result none few commits on done numbers same old_numbers sound
    unsound error risen staged kept =
    let A : List (Result Outcome Refusal) → Type 0 = λ added. IsGrouping told told' old new under under' s s'
    (length (held txn)) items items edits before before added result in
    let stored : OnOk result (IsCatalogOf (new.fit × told') new.image s' items) = by_cases is_changed
    (OnOk result (IsCatalogOf (new.fit × told') new.image s' items))
    (λ so. catalog_by result (numbers so) (done so))
    (λ not_so. on_ok result (IsCatalogOf (new.fit × told') new.image s' items)
    (catalog_as told (new.fit × told') old.image new.image s s' items items (λ now. commits.was_told now.1) (λ now. (same not_so).0)
    (same not_so).1 refl (kept not_so))) in
    let total : s'.total ≡ s.total = by_cases is_changed (s'.total ≡ s.total) (λ so. total_by result (numbers so) old_numbers)
    (λ not_so. ap (λ (s : Superblock). s.total) (same not_so).1) in
    subst A (sym (drop_all before)) (record {
      moves = record {
        told = commits.told;
        was_told = commits.was_told;
        size = commits.size;
        beside = commits.beside;
        faults = commits.faults;
        reads = omega (arith, commits.reads);
        syncs = commits.syncs;
        writes = record { low = commits.writes.low; high = omega (arith, commits.writes.high, few) };
      };
      goes_on = on;
      failure = closed_failure result old.faults new.faults error risen;
      unchanged = closed_unchanged result told old new error;
      sound = sound;
      image = err_so result (new.fit → ⊥) (new.fit → told → new.image ≡ old.image) (λ none. λ fit. absurd (none fit)) unsound;
      numbers = old_numbers;
      kept = on_err result (items ≡ items) refl;
      total = total;
      stored = stored;
      more = omega arith;
      answers_are = sym (append_none before);
      within = omega arith;
      some = λ some room. absurd (none some room);
      slots = no_slots;
      reads = omega (arith, commits.reads);
    })
  where
    append_none : {X : Type 0} (xs : List X) → xs ++ [] ≡ xs
    append_none {X} [] = refl
    append_none {X} (x ∷ xs) = ap (λ ys. x ∷ ys) (append_none xs)

    catalog_by : (result : Result (Unit {0}) StoreError) → OnOk result (s' ≡ txn.superblock)
        → (told → OnOk result (new.image ≡ left_by txn old.image)) → OnOk result (IsCatalogOf (new.fit × told') new.image s' items)
    catalog_by (Ok it) numbers done =
        catalog_as told (new.fit × told') (left_by txn old.image) new.image txn.superblock s' items items (λ now. commits.was_told now.1)
        (λ now. done (commits.was_told now.1)) numbers refl staged.catalog
    catalog_by (Err e) numbers done = tt

    total_by : (result : Result (Unit {0}) StoreError) → OnOk result (s' ≡ txn.superblock) → OnErr result (s' ≡ s) → s'.total ≡ s.total
    total_by (Ok it) numbers same = ap (λ (s : Superblock). s.total) numbers ∙ staged.total_is
    total_by (Err e) numbers same = ap (λ (s : Superblock). s.total) same

pub closed_by : (told told' : Type 0) (old new : View) (txn : Txn) (ends is_changed : Bool) (total : ℕ) (book : List Series)
    (edits : List Edit) (before : List (Result Outcome Refusal)) (result : Result (Unit {0}) StoreError) → told
    → ((length edits ≡ 0) ⊎ (22 < length (held txn))) → Commits (held txn) told told' old new
    → (is_changed ≡ true → told → OnOk result (new.image ≡ left_by txn old.image)) → (is_changed ≡ false → new ≡ old)
    → (is_changed ≡ false → left_by txn old.image ≡ old.image)
    → IfErr result (λ e. e ≡ DiskFault) → StandsForBook (left_by txn old.image) total book
    → IsGroupedBy total book (length (held txn)) ends is_changed edits (drop (length before) before) result old new
closed_by told told' old new txn ends is_changed total book edits before result t why commits done same clean error stands =
    let A : List (Result Outcome Refusal) → Type 0 = λ added. IsGroupedBy total book
    (length (held txn)) ends is_changed edits added result old new in
    let S : Image → Type 0 = λ i. StandsForBook i total book in
    let T : List Edit → Type 0 = λ some. StandsForBook (left_by txn old.image) total (after_edits total book some) in
    let left : OnOk result (new.image ≡ left_by txn old.image) = by_cases is_changed (OnOk result (new.image ≡ left_by txn old.image))
    (λ so. done so t)
    (λ not_so. on_ok result (new.image ≡ left_by txn old.image) (ap (λ (v : View). v.image) (same not_so) ∙ sym (clean not_so))) in
    let all : T (take 0 edits) = subst T (sym (take_none edits)) stands in
    let D : Image → Type 0 = λ i. StandsForBook i total (after_edits total book (take 0 edits)) in
    subst A (sym (drop_all before)) (record {
      done = ok_so result (new.image ≡ left_by txn old.image) (AreDone total book edits [] new.image)
          (λ is. record { answered = sym (ap (λ some. edits_give total book some) (take_none edits)); stands = subst D (sym is) all }) left;
      many = λ off. on_ok result ((0 ≡ length edits)
          ⊎ (22 < length (held txn) + weight total book (take 0 edits)))
          (elim why [ inl none ↦ inl (sym none) | inr full ↦ inr (omega (arith, full)) ]);
      outside = closed_outside result error;
      reads = omega (arith, commits.reads);
      few_reads = on_ok result (new.reads ≤ old.reads + 96 * 0) (omega (arith, commits.reads));
      idle = on_ok result (is_changed ≡ false → ChangeNone total book (take 0 edits)
          → CommitsNone old new) (λ not_so none. (ap (λ (v : View). v.syncs) (same not_so), ap (λ (v : View). v.writes) (same not_so)));
      covered = 0;
      few = omega arith;
      same = on_ok result (0 ≡ 0) refl;
      last = λ on. first_none total book edits;
      moments = passes_weaker old new (BeforeOrAfter (held txn) old.image)
          (IsSameOr old.image total (after_edits total book (take 0 edits))) (Quiet old) (Quiet old)
          (λ image either. elim either [
            | inl before ↦ inl before
            | inr after ↦ inr (subst D (sym after) all)
          ]) (λ count quiet. quiet) commits.time;
    })

-- An edit couldn't be staged: none is done.

unchanged_reads : (e : StoreError) (told : Type 0) (old new : View) → IsFailure e old.faults new.faults → IsUnchanged told old new
    → IsUnchangedFor e told old new
unchanged_reads (Refused refusal) told old new why same = absurd why
unchanged_reads NotAStore told old new why same = why
unchanged_reads DiskFault told old new why same = tt
unchanged_reads (Damaged page) told old new why same = same
unchanged_reads NoMemory told old new why same = same

append_none : {X : Type 0} (xs : List X) → xs ++ [] ≡ xs
append_none {X} [] = refl
append_none {X} (x ∷ xs) = ap (λ ys. x ∷ ys) (append_none xs)

pub failed_next : (told told' : Type 0) (old new under under' : View) (s s' : Superblock) (txn txn' : Txn)
    (items items' : List StoredSeries) (edits : List Edit) (before answers : List (Result Outcome Refusal))
    (result : Result (Unit {0}) StoreError) (e : StoreError)
    → 0 < length edits → IsErrAnd result (λ cause. cause ≡ e)
    → IsNext told told' old new under under' s s' txn txn' items items' before answers (Err e)
    → IsGrouping told told' old new under under' s s' (length (held txn)) items items' edits before answers
    (drop (length before) answers) result
failed_next told told' old new under under' s s' txn txn' items items' edits before answers (Ok done) e some is next = absurd is
failed_next told told' old new under under' s s' txn txn' items items' edits before answers (Err cause) e some is next =
    let A : List (Result Outcome Refusal) → Type 0 = λ added. IsGrouping told told' old new under under' s s'
    (length (held txn)) items items' edits before answers added (Err cause) in
    let F : StoreError → Type 0 = λ e. IsFailure e old.faults new.faults in
    let U : StoreError → Type 0 = λ e. IsUnchangedFor e told old new in
    subst A (sym (ap (λ (list : List (Result Outcome Refusal)). drop (length before) list) next.same ∙ drop_all before)) (record {
      moves = record {
        told = next.reads.told;
        was_told = next.reads.was_told;
        size = next.reads.size;
        beside = next.reads.beside;
        faults = next.reads.faults;
        reads = next.reads.reads.low;
        syncs = record { low = omega (arith, next.reads.syncs); high = omega (arith, next.reads.syncs) };
        writes = record { low = omega (arith, next.reads.writes); high = omega (arith, next.reads.writes) };
      };
      goes_on = next.over.goes_on;
      failure = subst F (sym is) next.failure;
      unchanged = subst U (sym is) (unchanged_reads e told old new next.failure (unchanged_by 96 told told' old new next.reads));
      sound = tt;
      image = λ fit. next.reads.image;
      numbers = next.over.superblock;
      kept = next.kept;
      total = ap (λ (s : Superblock). s.total) next.over.superblock;
      stored = tt;
      more = omega (arith, ap length next.kept);
      answers_are = next.same ∙ sym (append_none before);
      within = omega arith;
      some = λ some room. tt;
      slots = no_slots;
      reads = omega (arith, next.reads.reads.high, some);
    })

pub failed_next_by : (told told' : Type 0) (old new : View) (txn txn' : Txn) (image' : Image) (ends is_changed : Bool) (total : ℕ)
    (book : List Series) (edit : Edit) (rest edits : List Edit) (before answers : List (Result Outcome Refusal))
    (result : Result (Unit {0}) StoreError) (e : StoreError) → edits ≡ edit ∷ rest → answers ≡ before
    → IsErrAnd result (λ cause. cause ≡ e) → Only old.image (Now old) → ReadsMost 96 told told' old new
    → IsNextBy total book edit (Err e) txn txn' image' before answers
    → IsGroupedBy total book (length (held txn)) ends is_changed edits (drop (length before) answers) result old new
failed_next_by told told' old new txn txn' image' ends is_changed total book edit rest edits before answers
    (Ok done) e are same is only reads by = absurd is
failed_next_by told told' old new txn txn' image' ends is_changed total book edit rest edits before answers
    (Err cause) e are same is only reads by =
    let A : List (Result Outcome Refusal) → Type 0 = λ added. IsGroupedBy total book (length (held txn)) ends is_changed edits added
    (Err cause) old new in
    subst A (sym (ap (λ (list : List (Result Outcome Refusal)). drop (length before) list) same ∙ drop_all before)) (record {
      done = tt;
      many = λ off. tt;
      outside = subst IsOutside (sym is) by.outside;
      reads = omega (arith, reads.reads.high, ap length are);
      few_reads = tt;
      idle = tt;
      covered = 0;
      few = omega arith;
      same = tt;
      last = λ on. first_none total book edits;
      moments = reads_leave old new (IsSameOr old.image total (after_edits total book (take 0 edits))) only (inl refl) reads.time;
    })

-- An edit is staged, and then the others.

failure_after : (result : Result (Unit {0}) StoreError) (old mid new : ℕ) → mid ≡ old → IfErr result (λ e. IsFailure e mid new)
    → IfErr result (λ e. IsFailure e old new)
failure_after (Ok done) old mid new quiet why = tt
failure_after (Err e) old mid new quiet why = each e old mid new quiet why
  where
    each : (e : StoreError) (old mid new : ℕ) → mid ≡ old → IsFailure e mid new → IsFailure e old new
    each (Refused refusal) old mid new quiet why = why
    each NotAStore old mid new quiet why = why
    each DiskFault old mid new quiet why = risen_on old mid new quiet why
    each (Damaged page) old mid new quiet why = tt
    each NoMemory old mid new quiet why = tt

pub unchanged_after : {R : Type 0} (result : Result R StoreError) (told told' : Type 0) (old mid new : View) → (told → told')
    → IsUnchanged told old mid → IfErr result (λ e. IsUnchangedFor e told' mid new) → IfErr result (λ e. IsUnchangedFor e told old new)
unchanged_after {R} (Ok done) told told' old mid new on first same = tt
unchanged_after {R} (Err e) told told' old mid new on first same = each e same
  where
    both : IsUnchanged told' mid new → IsUnchanged told old new
    both second = record {
      image = λ t. second.image (on t) ∙ first.image t;
      fit = λ fit. second.fit (first.fit fit);
      syncs = second.syncs ∙ first.syncs;
      writes = second.writes ∙ first.writes;
    }

    each : (e : StoreError) → IsUnchangedFor e told' mid new → IsUnchangedFor e told old new
    each (Refused refusal) same = both same
    each NotAStore same = same
    each DiskFault same = tt
    each (Damaged page) same = both same
    each NoMemory same = both same

takes_more : (u : Undo) (now before : List StoredSeries) → TakesBack u now before → length before ≤ length now
takes_more undo.Nothing now before same = omega (arith, ap length same)
takes_more (undo.Tree id tree) now before had = omega (
  arith,
  ap length had.now_are,
  length-set before id (record had.one { tree = had.changed }),
)
takes_more undo.Last now before has = omega (arith, ap length has.now_are, length_push before has.last)

more_after : (result : Result (Unit {0}) StoreError) (items items1 items2 items' : List StoredSeries) → length items ≤ length items1
    → length items1 ≤ length items2 → OnOk result (items' ≡ items2) → OnErr result (items' ≡ items) → length items ≤ length items'
more_after (Ok done) items items1 items2 items' first second on back = omega (arith, first, second, ap length on)
more_after (Err e) items items1 items2 items' first second on back = omega (arith, ap length back)

stored_after : (result : Result (Unit {0}) StoreError) (told : Type 0) (image : Image) (s : Superblock) (items items' : List StoredSeries)
    → OnOk result (items' ≡ items) → OnOk result (IsCatalogOf told image s items) → OnOk result (IsCatalogOf told image s items')
stored_after (Ok done) told image s items items' same are = let C : List StoredSeries → Type 0 = λ list. IsCatalogOf told image s list in
    subst C (sym same) are
stored_after (Err e) told image s items items' same are = tt

append_step : {X : Type 0} (before : List X) (one : X) (later : List X) → (before ++ one ∷ []) ++ later ≡ before ++ one ∷ later
append_step {X} [] one later = refl
append_step {X} (x ∷ before) one later = ap (λ xs. x ∷ xs) (append_step before one later)

-- the answers of the others stand behind that of the edit
answers_after : (before middle answers : List (Result Outcome Refusal)) (answer : Result Outcome Refusal) → middle ≡ before ++ answer ∷ []
    → answers ≡ middle ++ drop (length middle) answers → answers ≡ before ++ answer ∷ drop (length middle) answers
answers_after before middle answers answer first second = second
    ∙ ap (λ (list : List (Result Outcome Refusal)). list ++ drop (length middle) answers) first
    ∙ append_step before answer (drop (length middle) answers)

added_after : (before middle answers : List (Result Outcome Refusal)) (answer : Result Outcome Refusal) → middle ≡ before ++ answer ∷ []
    → answers ≡ middle ++ drop (length middle) answers → drop (length before) answers ≡ answer ∷ drop (length middle) answers
added_after before middle answers answer first second =
    let later = drop (length middle) answers in
    ap (λ (list : List (Result Outcome Refusal)). drop (length before) list) (answers_after before middle answers answer first second)
    ∙ drop_front before (answer ∷ later)

pub slots_after : (answer : Result Outcome Refusal) (later : List (Result Outcome Refusal))
    → IfOk answer (λ outcome. outcome.slots ≤ MOST_SLOTS) → HaveFewSlots later → HaveFewSlots (answer ∷ later)
slots_after answer later first rest zero d within = first
slots_after answer later first rest (suc k) d within = rest k d (omega (arith, within))

pub stepped : (told told' told'' : Type 0) (old mid new under under' under'' : View) (s s' s'' : Superblock) (txn txn' : Txn)
    (items items1 items2 items' : List StoredSeries) (edit : Edit) (rest edits : List Edit) (u : Undo)
    (before middle answers : List (Result Outcome Refusal)) (result : Result (Unit {0}) StoreError) → edits ≡ edit ∷ rest
    → IsNext told told' old mid under under' s s' txn txn' items items1 before middle (Ok u) → mid.faults ≡ old.faults
    → IsGrouping told' told'' mid new under' under'' s' s'' (length (held txn')) items1 items2 rest middle answers
    (drop (length middle) answers) result
    → OnOk result (items' ≡ items2) → OnErr result (items' ≡ items)
    → IsGrouping told told'' old new under under'' s s'' (length (held txn)) items items' edits before answers
    (drop (length before) answers) result
stepped told told' told'' old mid new under under' under'' s s' s'' txn txn' items items1 items2 items' edit rest edits u before middle
    answers result are next quiet group on back =
    let A : List (Result Outcome Refusal) → Type 0 = λ added. IsGrouping told told'' old new under under'' s s''
    (length (held txn)) items items' edits before answers added result in
    subst A (sym (added_after before middle answers next.answer next.answers_are group.answers_are)) (record {
      moves = record {
        told = λ t. group.moves.told (next.reads.told t);
        was_told = λ t. next.reads.was_told (group.moves.was_told t);
        size = group.moves.size ∙ next.reads.size;
        beside = group.moves.beside ∙ next.reads.beside;
        faults = omega (arith, next.reads.faults, group.moves.faults);
        reads = omega (arith, next.reads.reads.low, group.moves.reads);
        syncs = record {
          low = omega (arith, next.reads.syncs, group.moves.syncs.low);
          high = omega (arith, next.reads.syncs, group.moves.syncs.high);
        };
        writes = record {
          low = omega (arith, next.reads.writes, group.moves.writes.low);
          high = omega (arith, next.reads.writes, group.moves.writes.high);
        };
      };
      goes_on = goes_then under under' under'' next.over.goes_on group.goes_on;
      failure = failure_after result old.faults mid.faults new.faults quiet group.failure;
      unchanged = unchanged_after result told told' old mid new next.reads.told
          (unchanged_by 96 told told' old mid next.reads) group.unchanged;
      sound = group.sound;
      image = err_so result (new.fit → told' → new.image ≡ mid.image) (new.fit → told
          → new.image ≡ old.image) (λ same. λ fit t. same fit (next.reads.told t) ∙ next.reads.image t) group.image;
      numbers = err_so result (s'' ≡ s') (s'' ≡ s) (λ same. same ∙ next.over.superblock) group.numbers;
      kept = back;
      total = group.total ∙ ap (λ (s : Superblock). s.total) next.over.superblock;
      stored = stored_after result (new.fit × told'') new.image s'' items2 items' on group.stored;
      more = more_after result items items1 items2 items' (takes_more u items1 items next.back) group.more on back;
      answers_are = answers_after before middle answers next.answer next.answers_are group.answers_are;
      within = omega (arith, group.within, ap length are);
      some = λ some room. on_ok result (0 < length (next.answer ∷ drop (length middle) answers)) (omega arith);
      slots = slots_after next.answer (drop (length middle) answers) next.slots group.slots;
      reads = omega (arith, next.reads.reads.high, group.reads, ap length are);
    })

take_of_none : (n : ℕ) (edits : List Edit) → edits ≡ [] → take n edits ≡ []
take_of_none zero edits none = take_none edits
take_of_none (suc n) [] none = refl
take_of_none (suc n) (edit ∷ edits) none = cc

-- the answer tells what the book answers
refused_so : (answer : Result Outcome Refusal) (edited : Result Edited Refusal) → answer_of answer ≡ slots_behind edited → IsErr edited
    → IsErr answer
refused_so (Ok outcome) (Ok e) says refused = refused
refused_so (Ok outcome) (Err r) says refused = cc
refused_so (Err refusal) edited says refused = refl

pub stepped_by : (told told' : Type 0) (old mid new : View) (txn txn' : Txn) (image' : Image) (ends is_changed was_changed : Bool)
    (total : ℕ) (book : List Series) (edit : Edit) (rest edits : List Edit) (u : Undo)
    (before middle answers : List (Result Outcome Refusal)) (result : Result (Unit {0}) StoreError) → edits ≡ edit ∷ rest → told
    → Only old.image (Now old) → ReadsMost 96 told told' old mid → answers ≡ middle ++ drop (length middle) answers
    → (was_changed ≡ false → u ≡ undo.Nothing → is_changed ≡ false)
    → (by : IsNextBy total book edit (Ok u) txn txn' image' before middle) → (ends ≡ true → IsErr by.answer → rest ≡ [])
    → IsGroupedBy total (book_behind book (apply book total edit)) (length (held txn')) ends is_changed rest
    (drop (length middle) answers) result mid new
    → IsGroupedBy total book (length (held txn)) ends was_changed edits (drop (length before) answers) result old new
stepped_by told told' old mid new txn txn' image' ends is_changed was_changed total book edit rest edits u before middle answers result are
    t only reads answers_are keeps by none grouped =
    let later : List (Result Outcome Refusal) = drop (length middle) answers in
    let next : List Series = book_behind book (apply book total edit) in
    let A : List (Result Outcome Refusal) → Type 0 = λ added. IsGroupedBy total book
    (length (held txn)) ends was_changed edits added result old new in
    let E : List Edit → Type 0 = λ list. IsGroupedBy total book (length (held txn)) ends was_changed list
    (by.answer ∷ later) result old new in
    let images : Image → Type 0 = IsSameOr old.image total (after_edits total next (take grouped.covered rest)) in
    subst A (sym (added_after before middle answers by.answer by.answers_are answers_are)) (subst E (sym are) (record {
      done = ok_so result (AreDone total next rest later new.image) (AreDone total book (edit ∷ rest) (by.answer ∷ later) new.image)
          (λ done. record { answered = ap₂ (λ first list. first ∷ list) by.says done.answered; stands = done.stands }) grouped.done;
      many = λ off. ok_so result ((length later ≡ length rest) ⊎ (22 < length (held txn') + weight total next (take (length later) rest)))
          ((length (by.answer ∷ later) ≡ length (edit ∷ rest))
          ⊎ (22 < length (held txn) + (weight_of (apply book total edit) (touch_of book edit) + weight total next
          (take (length later) rest))))
          (λ either. elim either [
            | inl all ↦ inl (ap suc all)
            | inr full ↦ inr (omega (arith, full, by.few))
          ]) (grouped.many off);
      outside = grouped.outside;
      reads = omega (arith, reads.reads.high, grouped.reads);
      few_reads = ok_so result (new.reads ≤ mid.reads + 96 * length later) (new.reads ≤ old.reads + 96 * length (by.answer ∷ later))
          (λ few. omega (arith, reads.reads.high, few)) grouped.few_reads;
      idle = ok_so result (is_changed ≡ false → ChangeNone total next (take (length later) rest) → CommitsNone mid new) (was_changed ≡ false
          → ChangeNone total book (edit ∷ take (length later) rest) → CommitsNone old new)
          (λ idle. λ none changes.
          let quiet : CommitsNone mid new = idle (keeps none (by.idle changes.0)) changes.1 in
          (quiet.0 ∙ reads.syncs, quiet.1 ∙ reads.writes)) grouped.idle;
      covered = suc grouped.covered;
      few = omega (arith, grouped.few);
      last = λ on. (
        λ refused. take_of_none grouped.covered rest (none on (refused_so by.answer (apply book total edit) by.says refused)),
        grouped.last on,
      );
      same = ok_so result (grouped.covered ≡ length later) (suc grouped.covered ≡ length (by.answer ∷ later))
          (λ same. ap suc same) grouped.same;
      moments = time_then old mid new images (reads_leave old mid images only (inl refl) reads.time)
          (passes_weaker mid new (IsSameOr mid.image total (after_edits total next (take grouped.covered rest))) images (Quiet mid)
          (Quiet mid)
          (λ image either. elim either [
            | inl same ↦ inl (same ∙ reads.image t)
            | inr after ↦ inr after
          ]) (λ count quiet. quiet) grouped.moments);
    }))

-- The edits that follow an answer, and those behind it that aren't done where a refusal ends them.

-- what was done of some first edits was done of more of them
pub of_more : (told told' : Type 0) (old new under under' : View) (s s' : Superblock) (held_pages : ℕ) (items items' : List StoredSeries)
    (few edits : List Edit) (before answers added : List (Result Outcome Refusal)) (result : Result (Unit {0}) StoreError) → 0 < length few
    → length few ≤ length edits
    → IsGrouping told told' old new under under' s s' held_pages items items' few before answers added result
    → IsGrouping told told' old new under under' s s' held_pages items items' edits before answers added result
of_more told told' old new under under' s s' held_pages items items' few edits before answers added result some less group =
    record {
      moves = group.moves;
      goes_on = group.goes_on;
      failure = group.failure;
      unchanged = group.unchanged;
      sound = group.sound;
      image = group.image;
      numbers = group.numbers;
      kept = group.kept;
      total = group.total;
      stored = group.stored;
      more = group.more;
      answers_are = group.answers_are;
      within = omega (arith, group.within, less);
      some = λ any room. group.some some room;
      slots = group.slots;
      reads = omega (arith, group.reads, less);
    }

pub few_follow : (ends : Bool) (answer : Result Outcome Refusal) (rest behind : List Edit) → Follow ends answer rest behind
    → length behind ≤ length rest
few_follow ends answer rest behind (inl all) = omega (arith, ap length all.0)
few_follow ends answer rest behind (inr none) = omega (arith, ap length none.0)

pub edits_follow : (ends : Bool) (answer : Result Outcome Refusal) (rest behind : List Edit) → Follow ends answer rest behind
    → All IsEdit rest → All IsEdit behind
edits_follow ends answer rest behind (inl all) are = let A : List Edit → Type 0 = λ list. All IsEdit list in subst A (sym all.0) are
edits_follow ends answer rest behind (inr none) are = λ k d within. absurd (omega (arith, within, ap length none.0))

pub stepped_behind : (told told' told'' : Type 0) (old mid new under under' under'' : View) (s s' s'' : Superblock) (txn txn' : Txn)
    (items items1 items2 items' : List StoredSeries) (ends : Bool) (edit : Edit) (rest behind edits : List Edit) (u : Undo)
    (before middle answers : List (Result Outcome Refusal)) (result : Result (Unit {0}) StoreError) → edits ≡ edit ∷ rest
    → (next : IsNext told told' old mid under under' s s' txn txn' items items1 before middle (Ok u)) → Follow ends next.answer rest behind
    → mid.faults ≡ old.faults → IsGrouping told' told'' mid new under' under'' s' s''
    (length (held txn')) items1 items2 behind middle answers (drop (length middle) answers) result
    → OnOk result (items' ≡ items2) → OnErr result (items' ≡ items)
    → IsGrouping told told'' old new under under'' s s'' (length (held txn)) items items' edits before answers
    (drop (length before) answers) result
stepped_behind told told' told'' old mid new under under' under'' s s' s'' txn txn' items items1 items2 items' ends edit rest behind edits u
    before middle answers result are next follow quiet group on back =
    of_more told told'' old new under under'' s s'' (length (held txn)) items items' (edit ∷ behind) edits before answers
    (drop (length before) answers) result (omega arith) (omega (arith, few_follow ends next.answer rest behind follow, ap length are))
    (stepped told told' told'' old mid new under under' under'' s s' s'' txn txn' items items1 items2 items' edit behind
    (edit ∷ behind) u before middle answers result refl next quiet group on back)

take_one : (n : ℕ) (edit : Edit) (rest : List Edit) → n ≤ 1 → take n (edit ∷ []) ≡ take n (edit ∷ rest)
take_one zero edit rest few = refl
take_one (suc zero) edit rest few = ap (λ l. edit ∷ l) (sym (take_none rest))
take_one (suc (suc n)) edit rest few = absurd (omega (arith, few))

alone_by : (total : ℕ) (book : List Series) (held_pages : ℕ) (ends is_changed : Bool) (edit : Edit) (rest : List Edit)
    (answers : List (Result Outcome Refusal)) (result : Result (Unit {0}) StoreError) (old new : View) → ends ≡ true → length answers ≤ 1
    → IsGroupedBy total book held_pages ends is_changed (edit ∷ []) answers result old new
    → IsGroupedBy total book held_pages ends is_changed (edit ∷ rest) answers result old new
alone_by total book held_pages ends is_changed edit rest answers result old new on few by =
    let D : List Edit → Type 0 = λ some. (map answer_of answers ≡ edits_give total book some)
    × StandsForBook new.image total (after_edits total book some) in
    let I : List Edit → Type 0 = λ some. is_changed ≡ false → ChangeNone total book some → CommitsNone old new in
    let T : List Edit → Type 0 = λ some. Passes old new (IsSameOr old.image total (after_edits total book some)) (Quiet old) in
    let R : List Edit → Type 0 = RefuseLast total book in
    let same = take_one (length answers) edit rest few in
    record {
      done = ok_so result (AreDone total book (edit ∷ []) answers new.image) (AreDone total book (edit ∷ rest) answers new.image)
          (λ done. let both = subst D same (done.answered, done.stands) in record { answered = both.0; stands = both.1 }) by.done;
      many = λ off. let no : true ≡ false = sym on ∙ off in cc;
      outside = by.outside;
      reads = omega (arith, by.reads);
      few_reads = by.few_reads;
      idle = ok_so result (I (take (length answers) (edit ∷ []))) (I (take (length answers) (edit ∷ rest)))
          (λ idle. subst I same idle) by.idle;
      covered = by.covered;
      few = omega (arith, by.few);
      same = by.same;
      last = λ on. subst R (take_one by.covered edit rest by.few) (by.last on);
      moments = subst T (take_one by.covered edit rest by.few) by.moments;
    }

pub follow_by : (total : ℕ) (book : List Series) (held_pages : ℕ) (ends is_changed : Bool) (answer : Result Outcome Refusal) (edit : Edit)
    (rest behind edits : List Edit) (answers : List (Result Outcome Refusal)) (result : Result (Unit {0}) StoreError) (old new : View)
    → edits ≡ edit ∷ rest → Follow ends answer rest behind → length answers ≤ 1 + length behind
    → IsGroupedBy total book held_pages ends is_changed (edit ∷ behind) answers result old new
    → IsGroupedBy total book held_pages ends is_changed edits answers result old new
follow_by total book held_pages ends is_changed answer edit rest behind edits answers result old new are (inl all) few by =
    let P : List Edit → Type 0 = λ list. IsGroupedBy total book held_pages ends is_changed (edit ∷ list) answers result old new in
    let Q : List Edit → Type 0 = λ list. IsGroupedBy total book held_pages ends is_changed list answers result old new in
    subst Q (sym are) (subst P all.0 by)
follow_by total book held_pages ends is_changed answer edit rest behind edits answers result old new are (inr none) few by =
    let P : List Edit → Type 0 = λ list. IsGroupedBy total book held_pages ends is_changed (edit ∷ list) answers result old new in
    let Q : List Edit → Type 0 = λ list. IsGroupedBy total book held_pages ends is_changed list answers result old new in
    subst Q (sym are) (alone_by total book held_pages ends is_changed edit rest answers result old new none.1
    (omega (arith, few, ap length none.0)) (subst P none.0 by))

pub few_added : (behind : List Edit) (before middle answers : List (Result Outcome Refusal)) (answer : Result Outcome Refusal)
    → middle ≡ before ++ answer ∷ [] → answers ≡ middle ++ drop (length middle) answers
    → length (drop (length middle) answers) ≤ length behind → length (drop (length before) answers) ≤ 1 + length behind
few_added behind before middle answers answer first second few = omega (
  arith,
  few,
  ap length (added_after before middle answers answer first second),
)

pub none_follow : (ends : Bool) (answer : Result Outcome Refusal) (rest behind : List Edit) → Follow ends answer rest behind → ends ≡ true
    → IsErr answer → behind ≡ []
none_follow ends answer rest behind (inl all) on refused = absurd (all.1 on refused)
none_follow ends answer rest behind (inr none) on refused = none.0

get_last : {X : Type 0} (before : List X) (one : X) → slice_get (before ++ one ∷ []) (length before) ≡ Some one
get_last {X} [] one = refl
get_last {X} (x ∷ before) one = get_last before one

pub last_is : {X : Type 0} (before all : List X) (one : X) (n : ℕ) → all ≡ before ++ one ∷ [] → n + 1 ≡ length all
    → slice_get all n ≡ Some one
last_is {X} before all one n are count =
    let P : ℕ → Type 0 = λ k. slice_get (before ++ one ∷ []) k ≡ Some one in
    let Q : List X → Type 0 = λ list. slice_get list n ≡ Some one in
    subst Q (sym are) (subst P (omega (arith, count, ap length are, length_push before one)) (get_last before one))

-- where nothing was staged, the transaction leaves the pages
pub clean_after : (told : Type 0) (old mid : View) (txn txn' : Txn) → told → txn' ≡ txn → (told → mid.image ≡ old.image)
    → left_by txn old.image ≡ old.image → left_by txn' mid.image ≡ mid.image
clean_after told old mid txn txn' t same image clean =
    ap (λ (x : Txn). left_by x mid.image) same ∙ ap (λ (i : Image). left_by txn i) (image t) ∙ clean ∙ sym (image t)
