-- An edit that changes no slot.
use Rattle.std.proofs.Common.{◌≡◌, ℕ, ℤ, ◌≤◌, List, length, get_or, set, slice_get, Option, Some, Result, Ok, Err, Bool, true, false, cond}
use Rattle.std.proofs.Common.{leb, is_some, ◌++◌, ◌∷◌, [], IfOk, length-append, sym, ap, subst, refl, ◌∙◌, inl, inr, arith}
use Rattle.std.proofs.Math.ListN.{length-set}
use Rattle.std.proofs.lemmas.Bool.Decides.{eqb_tells}
use Rattle.std.proofs.lemmas.List.{same_lists, get_or-set_same, get_or-set_other}
use Rattle.std.proofs.lemmas.Option.{slice_get_within, get_or_from_slice_get}
use Rattle.block_disk.specs.View.{Image, View}
use Rattle.page_space.specs.declared.superblock.Superblock.{Superblock}
use Rattle.page_space.specs.declared.txn.Txn.{Txn}
use Rattle.page_space.specs.Transactions.{held, left_by}
use Rattle.path_repair.specs.Keeping.{KeepsCatalog}
use Rattle.path_repair.specs.Standing.{Moved}
use Rattle.series_book.specs.declared.limits.TheConstants.{MOST_SLOTS, MOST_SERIES}
use Rattle.series_book.specs.declared.one_series.Series.{Series}
use Rattle.series_book.specs.declared.refusals.Refusal.{Refusal}
use Rattle.series_book.specs.declared.refusals.Refusal.TheVariants.{SeriesExists, TooManySeries}
use Rattle.series_book.specs.Edits.{Edited, with_slots, within, fitted, created, id_of}
use Rattle.series_catalog.specs.declared.stored_series.StoredSeries.{StoredSeries}
use Rattle.stored_book.specs.Standing.{StandsForBook}
use Rattle.series_store.specs.Staging.{IsStaging, IsStagedBy, IsWholeOf, TakesBack}
use Rattle.series_store.specs.declared.errors.StoreError.{StoreError}
use Rattle.series_store.specs.declared.staged.Staged.{Staged}
use Rattle.series_store.specs.declared.staged.Undo.{Undo}
use Rattle.series_store.specs.declared.staged.Undo.TheVariants as undo
use Rattle.series_catalog.proofs.ReadLemmas.{reads_more}
use Rattle.series_store.specs.Results.{KeepsBook}
use Rattle.series_store.proofs.StageLemmas.{later_staged}

-- a book with the slots that a series has is the same
pub with_same : (book : List Series) (id : ℕ) (series : Series) → slice_get book id ≡ Some series
    → with_slots book id series series.slots ≡ book
with_same book id series there = same_lists (set book id series) book (length-set book id series) (λ k d low. elim (eqb_tells k id) [
  | inl is ↦
      let P : ℕ → Type 0 = λ j. get_or (set book id series) j d ≡ get_or book j d in
      subst P (sym is.1) (get_or-set_same book id series d (slice_get_within book id series there)
      ∙ sym (get_or_from_slice_get book id series d there))
  | inr other ↦ get_or-set_other book id k series d other.1
])

-- a tree was looked at, and nothing is staged
pub staging_kept : {most puts : ℕ} (told told' : Type 0) (old new under under' : View) (s s' : Superblock) (txn txn' : Txn)
    (items : List StoredSeries) (staged : Staged) → most ≤ 96 → puts ≤ 41
    → Moved most puts told told' old new under under' s s' txn txn' → (told → KeepsCatalog (left_by txn old.image) (left_by txn' old.image))
    → IsWholeOf s.total told (left_by txn old.image) txn.superblock items
    → txn' ≡ txn → staged.undo ≡ undo.Nothing → staged.outcome.slots ≤ MOST_SLOTS
    → IsStaging told told' old new under under' s s' txn txn' items items (Ok staged)
staging_kept {most} {puts} told told' old new under under' s s' txn txn' items staged few short moved keeps are same none fewer =
    let U : Undo → Type 0 = λ u. TakesBack u items items in
    record {
      reads = reads_more most 96 told told' old new few moved.reads;
      over = moved.over;
      total = moved.total;
      cause = tt;
      kept = tt;
      back = subst U (sym none) refl;
      nothing = λ is. same;
      stands = λ answer. (later_staged told told' old new under under' s s' txn txn' items moved keeps are).catalog;
      few = omega (arith, moved.held, short);
      slots = fewer;
    }

-- and the book is the one from before
pub staged_kept : (answer : Result Edited Refusal) (edited : Edited) (touched total : ℕ) (staged : Staged) (txn txn' : Txn) (image : Image)
    → (StandsForBook image total edited.book → answer ≡ Ok edited) → staged.outcome.slots ≡ edited.slots
    → StandsForBook image total edited.book → txn' ≡ txn → IsStagedBy answer touched total (Ok staged) txn txn' image
staged_kept answer edited touched total staged txn txn' image fit at stands same = record {
  done = record { edited = edited; accepted = fit stands; slots = at; stands = stands };
  refused = tt;
  same = tt;
  few = omega (arith, ap (λ (t : Txn). length (held t)) same);
}

pub kept_stands : (image image' : Image) (txn txn' : Txn) (total : ℕ) (book book' : List Series) → book' ≡ book → image' ≡ image
    → txn' ≡ txn → StandsForBook (left_by txn image) total book → StandsForBook (left_by txn' image') total book'
kept_stands image image' txn txn' total book book' is same kept stands =
    let B : List Series → Type 0 = λ b. StandsForBook (left_by txn' image') total b in
    let I : Image → Type 0 = λ i. StandsForBook (left_by txn' i) total book in
    let T : Txn → Type 0 = λ t. StandsForBook (left_by t image) total book in
    subst B (sym is) (subst I (sym same) (subst T (sym kept) stands))

-- and the same book has the same slots
pub slots_back : (book : List Series) (id : ℕ) (series : Series) (slots : List (Option ℤ)) → slice_get book id ≡ Some series
    → with_slots book id series slots ≡ book → slots ≡ series.slots
slots_back book id series slots there same =
    let changed : Series = record series { slots = slots } in
    ap (λ (s : Series). s.slots)
    (sym (get_or-set_same book id changed series (slice_get_within book id series there))
    ∙ ap (λ (b : List Series). get_or b id series) same ∙ get_or_from_slice_get book id series series there)

-- an answer that is no refusal
accepted : (a : Bool) (refusal : Refusal) (one edited : Edited) → cond a (Err refusal) (Ok one) ≡ Ok edited → one ≡ edited
accepted true refusal one edited is = cc
accepted false refusal one edited is = grind (arith, is)

accepted_twice : (a b : Bool) (refusal other : Refusal) (one edited : Edited)
    → cond a (Err refusal) (cond b (Err other) (Ok one)) ≡ Ok edited → one ≡ edited
accepted_twice true b refusal other one edited is = cc
accepted_twice false b refusal other one edited is = accepted b other one edited is

fitted_book : (total : ℕ) (book : List Series) (slots : ℕ) (edited : Edited) → fitted total book slots ≡ Ok edited → edited.book ≡ book
unfolding fitted
fitted_book total book slots edited is = ap (λ (e : Edited). e.book) (sym (accepted _ _ (record { book = book; slots = slots }) edited is))

created_longer : (book : List Series) (series : Series) (edited : Edited) → created book series ≡ Ok edited
    → edited.book ≡ book ++ series ∷ []
unfolding created
created_longer book series edited is = ap (λ (e : Edited). e.book)
    (sym (accepted_twice (is_some (id_of series.name book)) (leb MOST_SERIES (length book)) SeriesExists TooManySeries
    (record { book = book ++ series ∷ []; slots = 0 }) edited is))

-- a book with a series more is another
pub created_keeps : (book : List Series) (series : Series) (touched total : ℕ) (result : Result Staged StoreError) (txn txn' : Txn)
    (image : Image) → IsStagedBy (created book series) touched total result txn txn' image → KeepsBook book (created book series)
    → IfOk result (λ staged. staged.undo ≡ undo.Nothing)
created_keeps book series touched total (Ok staged) txn txn' image by keeps =
    let same = sym (created_longer book series by.done.edited by.done.accepted) ∙ keeps by.done.edited by.done.accepted in
    absurd (omega (arith, ap (λ l. length l) same, length-append book (series ∷ [])))
created_keeps book series touched total (Err e) txn txn' image by keeps = tt

-- slots that are put are others than those from before, or nothing is staged
pub put_keeps : (total : ℕ) (book : List Series) (id : ℕ) (series : Series) (slots : List (Option ℤ)) (touched : ℕ)
    (result : Result Staged StoreError) (txn txn' : Txn) (image : Image) → slice_get book id ≡ Some series
    → IsStagedBy (within total book id series (Ok slots)) touched total result txn txn' image
    → KeepsBook book (within total book id series (Ok slots)) → (slots ≡ series.slots → ⊥)
    → IfOk result (λ staged. staged.undo ≡ undo.Nothing)
put_keeps total book id series slots touched (Ok staged) txn txn' image there by keeps other =
    absurd (other (slots_back book id series slots there
    (sym (fitted_book total (with_slots book id series slots) (length slots) by.done.edited by.done.accepted)
    ∙ keeps by.done.edited by.done.accepted)))
put_keeps total book id series slots touched (Err e) txn txn' image there by keeps other = tt
