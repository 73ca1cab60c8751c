-- What a group of edits did, of the sets of runs.
use Rattle.std.proofs.Common.{◌≡◌, ℕ, ◌-◌, ◌<◌, ◌≤◌, zero, suc, List, [], ◌∷◌, ◌++◌, length, map, take, drop, Some, Result, Ok, Err, IfErr}
use Rattle.std.proofs.Common.{IfOk, refl, ap, subst, inl, inr, sym, ◌∙◌, arith, append_assoc}
use Rattle.std.specs.Prelude.{IsErr}
use Rattle.std.specs.List.{slice_get}
use Rattle.std.proofs.lemmas.List.{take-append-drop}
use Rattle.block_disk.specs.View.{Image, View, Passes}
use Rattle.block_disk.proofs.Passing.{passes_weaker}
use Rattle.chart_world.specs.Faults.{CountsFault, fault_in}
use Rattle.chart_world.specs.FaultLaws.{counts_no_disk}
use Rattle.gate_pages.specs.Pages.{Quiet}
use Rattle.page_space.specs.declared.superblock.Superblock.{Superblock}
use Rattle.series_book.specs.declared.edits.Edit.{Edit}
use Rattle.series_book.specs.declared.one_series.Series.{Series}
use Rattle.series_book.specs.declared.outcomes.Outcome.{Outcome}
use Rattle.series_book.specs.declared.refusals.Refusal.{Refusal}
use Rattle.series_book.specs.Edits.{Edited, apply}
use Rattle.series_book.specs.EditLists.{after_edits, book_behind, edits_give, slots_behind}
use Rattle.stored_book.specs.Standing.{StandsForBook}
use Rattle.series_store.specs.Groups.{AreDone, IsGroupCause, IsNoneOrAll, PassesUntil, RefuseLast, answer_of}
use Rattle.series_store.specs.Opening.{IsOutside}
use Rattle.series_store.specs.Results.{IsEditCause, IsUnchangedFor}
use Rattle.series_store.specs.declared.errors.StoreError.{StoreError}
use Rattle.series_store.specs.declared.errors.StoreError.TheVariants as store
use Rattle.run_ends.specs.Faults.{end_fault}
use Rattle.series_load.specs.Costs.{Costs, spent_by}
use Rattle.series_load.specs.Runs.{Run}
use Rattle.series_load.specs.Sets.{AreSets, IsAfter, IsPartDone, IsRefusedIn, Loads, set_of}
use Rattle.series_load.specs.Steps.{BlamesNone, Counts, DoesFirst, IsSetCause, IsSoundFor, NoBad, StopsSo, end_at}
use Rattle.run_ends.specs.declared.ending.End.{End}
use Rattle.series_load.proofs.CostLemmas.{costs_most}
use Rattle.series_load.proofs.SetLemmas.{as_many, part_none, part_then, refused_then}

abbrev sets_of : List ℕ → List Run → List Edit
sets_of name runs = map (set_of name) runs

abbrev offset_of : Run → ℕ
offset_of run = run.first.at

none_of : {X Y : Type 0} (f : X → Y) (xs : List X) → map f xs ≡ [] → xs ≡ []
none_of {X} {Y} f [] none = refl
none_of {X} {Y} f (x ∷ xs) none = cc

get_behind : {X : Type 0} (x : X) (xs : List X) (n : ℕ) → 0 < n → slice_get (x ∷ xs) (suc n - 1) ≡ slice_get xs (n - 1)
get_behind {X} x xs n some =
    let same : suc n - 1 ≡ suc (n - 1) = omega (arith, some) in
    ap (λ k. slice_get (x ∷ xs) k) same

module _ (total : ℕ) (name : List ℕ) where
  -- the sets were accepted one by one, where the last answer isn't a refusal
  loads_ok : (part : List Run) (answers : List (Result Outcome Refusal)) (book : List Series) (outcome : Outcome)
      → map answer_of answers ≡ edits_give total book (sets_of name part)
      → RefuseLast total book (sets_of name part) → slice_get answers (length answers - 1) ≡ Some (Ok outcome)
      → Loads total name book part (after_edits total book (sets_of name part))
  loads_ok [] answers book outcome given last is = refl
  loads_ok (run ∷ later) [] book outcome given last is = cc
  loads_ok (run ∷ later) (answer ∷ others) book outcome given last is = by (λ os b. loads_ok later os b outcome)
      (apply book total (set_of name run)) refl
    where
      one : answer_of answer ≡ slots_behind (apply book total (set_of name run))
      one = cc

      more : map answer_of others ≡ edits_give total (book_behind book (apply book total (set_of name run))) (sets_of name later)
      more = cc

      accepted : (again : (os : List (Result Outcome Refusal)) (b : List Series)
          → map answer_of os ≡ edits_give total b (sets_of name later) → RefuseLast total b (sets_of name later)
          → slice_get os (length os - 1) ≡ Some (Ok outcome) → Loads total name b later (after_edits total b (sets_of name later)))
          → (edited : Edited) → apply book total (set_of name run) ≡ Ok edited → (others : List (Result Outcome Refusal))
          → map answer_of others ≡ edits_give total edited.book (sets_of name later)
          → slice_get (answer ∷ others) (length (answer ∷ others) - 1) ≡ Some (Ok outcome)
          → RefuseLast total edited.book (sets_of name later)
          → Loads total name edited.book later (after_edits total edited.book (sets_of name later))
      accepted again edited is [] none behind rest =
          let P : List Run → Type 0 = λ l. Loads total name edited.book l (after_edits total edited.book (sets_of name l)) in
          subst P (sym (nothing later (sym none))) refl
        where
          nothing : (runs : List Run) → edits_give total edited.book (sets_of name runs) ≡ [] → runs ≡ []
          nothing [] none = refl
          nothing (run ∷ runs) none = cc
      accepted again edited is (other ∷ rest) same behind refuse = again (other ∷ rest) edited.book same refuse
          (sym (get_behind answer (other ∷ rest) (length (other ∷ rest)) (omega arith)) ∙ behind)

      refused : (others : List (Result Outcome Refusal)) → others ≡ [] → IsErr (answer_of answer)
          → slice_get (answer ∷ others) (length (answer ∷ others) - 1) ≡ Some (Ok outcome) → ⊥
      refused [] none error behind =
          let same : answer ≡ Ok outcome = cc in
          let E : Result Outcome Refusal → Type 0 = λ a. IsErr (answer_of a) in
          let wrong : IsErr (answer_of (Ok outcome)) = subst E same error in
          cc
      refused (other ∷ rest) none error behind = cc

      by : (again : (os : List (Result Outcome Refusal)) (b : List Series) → map answer_of os ≡ edits_give total b (sets_of name later)
          → RefuseLast total b (sets_of name later) → slice_get os (length os - 1) ≡ Some (Ok outcome)
          → Loads total name b later (after_edits total b (sets_of name later))) → (r : Result Edited Refusal)
          → apply book total (set_of name run) ≡ r → Loads total name book (run ∷ later)
          (after_edits total book (sets_of name (run ∷ later)))
      by again (Ok edited) same =
          let A : Result Edited Refusal → Type 0 = λ r. map answer_of others ≡ edits_give total (book_behind book r) (sets_of name later) in
          let R : Result Edited Refusal → Type 0 = λ r. RefuseLast total (book_behind book r) (sets_of name later) in
          let B : Result Edited Refusal → Type 0 = λ r. Loads total name edited.book later
          (after_edits total (book_behind book r) (sets_of name later)) in
          (edited, same, subst B (sym same) (accepted again edited same others (subst A same more) is (subst R same last.1)))
      by again (Err refusal) same =
          let E : Result Edited Refusal → Type 0 = λ r. IsErr r in
          let S : Result ℕ Refusal → Type 0 = λ r. IsErr r in
          let none : sets_of name later ≡ [] = last.0 (subst E (sym same) refl) in
          let G : List Edit → Type 0 = λ l. map answer_of others ≡ edits_give total
          (book_behind book (apply book total (set_of name run))) l in
          let empty : others ≡ [] = none_of answer_of others (subst G none more) in
          let T : Result Edited Refusal → Type 0 = λ r. IsErr (slots_behind r) in
          absurd (refused others empty (subst S (sym one) (subst T (sym same) refl)) is)

  -- and where it is one, the sets before it were
  refused_of : (part rest : List Run) (answers : List (Result Outcome Refusal)) (book : List Series) (refusal : Refusal) (at : ℕ)
      (image : Image) → map answer_of answers ≡ edits_give total book (sets_of name part)
      → RefuseLast total book (sets_of name part) → slice_get answers (length answers - 1) ≡ Some (Err refusal)
      → slice_get (map offset_of (part ++ rest)) (length answers - 1) ≡ Some at
      → StandsForBook image total (after_edits total book (sets_of name part)) → IsRefusedIn total name book (part ++ rest) at refusal image
  refused_of [] rest [] book refusal at image given last is place stands = cc
  refused_of [] rest (answer ∷ others) book refusal at image given last is place stands = cc
  refused_of (run ∷ later) rest [] book refusal at image given last is place stands = cc
  refused_of (run ∷ later) rest (answer ∷ others) book refusal at image given last is place stands = by
      (λ os b given last is place stands. refused_of later rest os b refusal at image given last is place stands)
      (apply book total (set_of name run)) refl
    where
      one : answer_of answer ≡ slots_behind (apply book total (set_of name run))
      one = cc

      more : map answer_of others ≡ edits_give total (book_behind book (apply book total (set_of name run))) (sets_of name later)
      more = cc

      accepted : (again : (os : List (Result Outcome Refusal)) (b : List Series)
          → map answer_of os ≡ edits_give total b (sets_of name later) → RefuseLast total b (sets_of name later)
          → slice_get os (length os - 1) ≡ Some (Err refusal) → slice_get (map offset_of (later ++ rest)) (length os - 1) ≡ Some at
          → StandsForBook image total (after_edits total b (sets_of name later))
          → IsRefusedIn total name b (later ++ rest) at refusal image) → (edited : Edited) → apply book total (set_of name run) ≡ Ok edited
          → answer_of answer ≡ Ok edited.slots → (others : List (Result Outcome Refusal))
          → map answer_of others ≡ edits_give total edited.book (sets_of name later)
          → slice_get (answer ∷ others) (length (answer ∷ others) - 1) ≡ Some (Err refusal)
          → slice_get (map offset_of (run ∷ (later ++ rest))) (length (answer ∷ others) - 1) ≡ Some at
          → RefuseLast total edited.book (sets_of name later)
          → StandsForBook image total (after_edits total edited.book (sets_of name later))
          → IsRefusedIn total name book (run ∷ (later ++ rest)) at refusal image
      accepted again edited same says [] none behind there refuse standing =
          let is_err : answer ≡ Err refusal = cc in
          let wrong : answer_of (Err refusal) ≡ Ok edited.slots = sym (ap answer_of is_err) ∙ says in
          cc
      accepted again edited same says (other ∷ others) given behind there refuse standing =
          refused_then total name book edited.book (run ∷ []) (later ++ rest) at refusal image (edited, same, refl)
          (again (other ∷ others) edited.book given refuse (sym (get_behind answer (other ∷ others) (length (other ∷ others)) (omega arith))
          ∙ behind)
          (sym (get_behind (offset_of run) (map offset_of (later ++ rest)) (length (other ∷ others)) (omega arith)) ∙ there) standing)

      refused : (r : Refusal) → apply book total (set_of name run) ≡ Err r → answer_of answer ≡ Err r → (later : List Run) → later ≡ []
          → (others : List (Result Outcome Refusal)) → others ≡ []
          → slice_get (answer ∷ others) (length (answer ∷ others) - 1) ≡ Some (Err refusal)
          → slice_get (map offset_of (run ∷ (later ++ rest))) (length (answer ∷ others) - 1) ≡ Some at
          → StandsForBook image total book → IsRefusedIn total name book (run ∷ (later ++ rest)) at refusal image
      refused r same says [] none [] empty behind there standing =
          let is_err : answer ≡ Err refusal = cc in
          let both : Err refusal ≡ Err r = sym (ap answer_of is_err) ∙ says in
          let equal : refusal ≡ r = cc in
          let P : Refusal → Type 0 = λ x. apply book total (set_of name run) ≡ Err x in
          let at_is : at ≡ run.first.at = cc in
          record {
            done = [];
            run = run;
            later = rest;
            split = refl;
            at_is = at_is;
            new = book;
            loads = refl;
            refused = subst P (sym equal) same;
            stands = standing;
          }
      refused r same says [] none (other ∷ others) empty behind there standing = cc
      refused r same says (next ∷ later) none others empty behind there standing = cc

      by : (again : (os : List (Result Outcome Refusal)) (b : List Series) → map answer_of os ≡ edits_give total b (sets_of name later)
          → RefuseLast total b (sets_of name later) → slice_get os (length os - 1) ≡ Some (Err refusal)
          → slice_get (map offset_of (later ++ rest)) (length os - 1) ≡ Some at
          → StandsForBook image total (after_edits total b (sets_of name later))
          → IsRefusedIn total name b (later ++ rest) at refusal image) → (r : Result Edited Refusal)
          → apply book total (set_of name run) ≡ r → IsRefusedIn total name book (run ∷ (later ++ rest)) at refusal image
      by again (Ok edited) same =
          let A : Result Edited Refusal → Type 0 = λ r. map answer_of others ≡ edits_give total (book_behind book r) (sets_of name later) in
          let R : Result Edited Refusal → Type 0 = λ r. RefuseLast total (book_behind book r) (sets_of name later) in
          let S : Result Edited Refusal → Type 0 = λ r. StandsForBook image total
          (after_edits total (book_behind book r) (sets_of name later)) in
          accepted again edited same (one ∙ ap slots_behind same) others (subst A same more) is place (subst R same last.1)
          (subst S same stands)
      by again (Err r) same =
          let E : Result Edited Refusal → Type 0 = λ r. IsErr r in
          let none : sets_of name later ≡ [] = last.0 (subst E (sym same) refl) in
          let G : List Edit → Type 0 = λ l. map answer_of others ≡ edits_give total
          (book_behind book (apply book total (set_of name run))) l in
          let S : Result Edited Refusal → Type 0 = λ r. StandsForBook image total
          (after_edits total (book_behind book r) (sets_of name later)) in
          let L : List Edit → Type 0 = λ l. StandsForBook image total (after_edits total book l) in
          refused r same (one ∙ ap slots_behind same) later (none_of (set_of name) later none) others
          (none_of answer_of others (subst G none more)) is place (subst L none (subst S same stands))

  -- what stands for the book behind sets of which none but the last is refused
  part_of : (part : List Run) (book : List Series) (image : Image) → RefuseLast total book (sets_of name part)
      → StandsForBook image total (after_edits total book (sets_of name part)) → IsPartDone total name book part image
  part_of [] book image last stands = part_none total name book [] image stands
  part_of (run ∷ later) book image last stands = by (λ b. part_of later b image) (apply book total (set_of name run)) refl
    where
      by : ((b : List Series) → RefuseLast total b (sets_of name later)
          → StandsForBook image total (after_edits total b (sets_of name later)) → IsPartDone total name b later image)
          → (r : Result Edited Refusal) → apply book total (set_of name run) ≡ r → IsPartDone total name book (run ∷ later) image
      by again (Ok edited) same =
          let R : Result Edited Refusal → Type 0 = λ r. RefuseLast total (book_behind book r) (sets_of name later) in
          let S : Result Edited Refusal → Type 0 = λ r. StandsForBook image total
          (after_edits total (book_behind book r) (sets_of name later)) in
          part_then total name book edited.book (run ∷ []) later image (
            edited,
            same,
            refl,
          ) (again edited.book (subst R same last.1) (subst S same stands))
      by again (Err r) same =
          let E : Result Edited Refusal → Type 0 = λ r. IsErr r in
          let S : Result Edited Refusal → Type 0 = λ r. StandsForBook image total
          (after_edits total (book_behind book r) (sets_of name later)) in
          let L : List Edit → Type 0 = λ l. StandsForBook image total (after_edits total book l) in
          part_none total name book (run ∷ later) image (subst L (last.0 (subst E (sym same) refl)) (subst S same stands))

part_more : (total : ℕ) (name : List ℕ) (book : List Series) (n : ℕ) (runs : List Run) (image : Image)
    → IsPartDone total name book (take n runs) image → IsPartDone total name book runs image
part_more total name book n runs image part = record {
  done = part.done;
  later = part.later ++ drop n runs;
  split = sym (take-append-drop n runs) ∙ ap (λ l. l ++ drop n runs) part.split ∙ append_assoc part.done part.later (drop n runs);
  after = part.after;
}

take_map : {X Y : Type 0} (f : X → Y) (n : ℕ) (xs : List X) → take n (map f xs) ≡ map f (take n xs)
take_map {X} {Y} f zero [] = refl
take_map {X} {Y} f zero (x ∷ xs) = refl
take_map {X} {Y} f (suc n) [] = refl
take_map {X} {Y} f (suc n) (x ∷ xs) = ap (λ l. f x ∷ l) (take_map f n xs)

group_moments : (total : ℕ) (name : List ℕ) (book : List Series) (runs : List Run) (sets : List Edit) (n : ℕ) (old new : View)
    → sets ≡ sets_of name runs → RefuseLast total book (take n sets) → Passes old new (IsNoneOrAll total book sets n) (Quiet old)
    → Passes old new (IsPartDone total name book runs) (Quiet old)
group_moments total name book runs sets n old new are last time =
    let same : take n sets ≡ sets_of name (take n runs) = ap (take n) are ∙ take_map (set_of name) n runs in
    passes_weaker old new (IsNoneOrAll total book sets n) (IsPartDone total name book runs) (Quiet old) (Quiet old)
    (λ image either. elim either [
      | inl before ↦ part_none total name book runs image before
      | inr after ↦
          let R : List Edit → Type 0 = RefuseLast total book in
          let S : List Edit → Type 0 = λ l. StandsForBook image total (after_edits total book l) in
          part_more total name book n runs image (part_of total name (take n runs) book image (subst R same last) (subst S same after))
    ]) (λ count quiet. quiet) time

-- some first sets were done, or the one behind them is refused
pub counted : (total : ℕ) (name : List ℕ) (book : List Series) (runs : List Run) (sets : List Edit) (ats : List ℕ)
    (answers : List (Result Outcome Refusal)) (result : Result ℕ End) (old new : View) → AreSets name runs sets ats
    → AreDone total book sets answers new.image
    → RefuseLast total book (take (length answers) sets) → Passes old new (IsNoneOrAll total book sets (length answers)) (Quiet old)
    → length answers ≤ length sets → Costs (length answers) (spent_by old) new → Counts ats answers result
    → DoesFirst total name book runs result old new
counted total name book runs sets ats answers (Ok count) old new are done last time within costs counts =
    let n = length answers in
    let same : take n sets ≡ sets_of name (take n runs) = ap (take n) are.sets_are ∙ take_map (set_of name) n runs in
    let P : List Edit → Type 0 = λ l. map answer_of answers ≡ edits_give total book l in
    let R : List Edit → Type 0 = RefuseLast total book in
    let S : List Edit → Type 0 = λ l. StandsForBook new.image total (after_edits total book l) in
    let C : ℕ → Type 0 = λ k. IsAfter total name book (take k runs) new.image in
    let N : ℕ → Type 0 = λ k. Costs k (spent_by old) new in
    record {
      costs = costs_most (length answers) (length runs) (spent_by old) new (omega (arith, within, as_many name runs sets ats are)) costs;
      few = subst N (sym counts.0) costs;
      done = subst C (sym counts.0) (record {
        new = after_edits total book (sets_of name (take n runs));
        loads = loads_ok total name (take n runs) answers book counts.1.0 (subst P same done.answered) (subst R same last) counts.1.1;
        stands = subst S same done.stands;
      });
      stops = tt;
      moments = group_moments total name book runs sets n old new are.sets_are last time;
    }
counted total name book runs sets ats answers (Err end) old new are done last time within costs counts =
    let n = length answers in
    let same : take n sets ≡ sets_of name (take n runs) = ap (take n) are.sets_are ∙ take_map (set_of name) n runs in
    let P : List Edit → Type 0 = λ l. map answer_of answers ≡ edits_give total book l in
    let R : List Edit → Type 0 = RefuseLast total book in
    let S : List Edit → Type 0 = λ l. StandsForBook new.image total (after_edits total book l) in
    let A : List ℕ → Type 0 = λ l. slice_get l (n - 1) ≡ Some counts.at in
    let B : List Run → Type 0 = λ l. slice_get (map offset_of l) (n - 1) ≡ Some counts.at in
    let whole : take n runs ++ drop n runs ≡ runs = take-append-drop n runs in
    let I : List Run → Type 0 = λ l. IsRefusedIn total name book l counts.at counts.refusal new.image in
    let E : End → Type 0 = λ e. StopsSo NoBad total name book runs new.image e in
    record {
      costs = costs_most (length answers) (length runs) (spent_by old) new (omega (arith, within, as_many name runs sets ats are)) costs;
      few = tt;
      done = tt;
      stops = subst E (sym counts.end_is) (record {
        refusal = counts.refusal;
        number_is = refl;
        so = subst I whole (refused_of total name (take n runs) (drop n runs) answers book counts.refusal counts.at new.image
            (subst P same done.answered) (subst R same last) counts.last
            (subst B (sym whole) (subst A are.ats_are counts.at_is)) (subst S same done.stands));
      });
      moments = group_moments total name book runs sets n old new are.sets_are last time;
    }

abbrev as_err : End → Result ℕ End
as_err end = Err end

pub err_as : (end end' : End) → end ≡ end' → as_err end ≡ as_err end'
err_as end end' same = ap as_err same

-- none was, where a call of the disk failed or there was no memory
pub group_failed : (total : ℕ) (name : List ℕ) (book : List Series) (runs : List Run) (sets : List Edit) (ats : List ℕ) (at : ℕ)
    (e : StoreError) (result : Result ℕ End) (told : Type 0) (old new : View) → result ≡ Err (end_at at e) → AreSets name runs sets ats
    → told → StandsForBook old.image total book → IsOutside e
    → IsUnchangedFor e told old new → PassesUntil total book sets old new → Costs (length sets) (spent_by old) new
    → DoesFirst total name book runs result old new
group_failed total name book runs sets ats at e result told old new is are says stands outside same passes costs =
    let D : Result ℕ End → Type 0 = λ r. DoesFirst total name book runs r old new in
    subst D (sym is) (record {
      costs = costs_most (length sets) (length runs) (spent_by old) new (omega (arith, as_many name runs sets ats are)) costs;
      few = tt;
      done = tt;
      stops = why e outside same;
      moments = group_moments total name book runs sets passes.covered old new are.sets_are passes.last passes.moments;
    })
  where
    why : (e : StoreError) → IsOutside e → IsUnchangedFor e told old new → StopsSo NoBad total name book runs new.image (end_at at e)
    why (store.Refused refusal) (inl is) same = cc
    why (store.Refused refusal) (inr is) same = cc
    why store.NotAStore (inl is) same = cc
    why store.NotAStore (inr is) same = cc
    why store.DiskFault outside same = tt
    why (store.Damaged page) (inl is) same = cc
    why (store.Damaged page) (inr is) same = cc
    why store.NoMemory outside same =
        let P : Image → Type 0 = λ i. StandsForBook i total book in
        part_none total name book runs new.image (subst P (sym (same.image says)) stands)

-- whatever the pages are

pub counts_as : (ats : List ℕ) (answers given : List (Result Outcome Refusal)) (result : Result ℕ End) → given ≡ answers
    → Counts ats given result → Counts ats answers result
counts_as ats answers given result same counts = let P : List (Result Outcome Refusal) → Type 0 = λ l. Counts ats l result in
    subst P same counts

pub edit_cause : (e : StoreError) (told : Type 0) (s : Superblock) (old new : View) → IsGroupCause e told s old new
    → IsEditCause e told s old new
edit_cause (store.Refused refusal) told s old new cause = absurd cause
edit_cause store.NotAStore told s old new cause = absurd cause
edit_cause store.DiskFault told s old new cause = cause
edit_cause (store.Damaged page) told s old new cause = cause
edit_cause store.NoMemory told s old new cause = cause

pub counted_cause : (ats : List ℕ) (answers : List (Result Outcome Refusal)) (result : Result ℕ End) (told : Type 0) (total : ℕ)
    (old new : View) → Counts ats answers result → IfErr result (λ e. IsSetCause e told total old new)
counted_cause ats answers (Ok count) told total old new counts = tt
counted_cause ats answers (Err end) told total old new counts =
    let P : End → Type 0 = λ e. IsSetCause e told total old new in
    subst P (sym counts.end_is) tt

pub counted_faults : (ats : List ℕ) (answers : List (Result Outcome Refusal)) (result : Result ℕ End) (old new : View)
    → Counts ats answers result → new.beside ≡ old.beside → new.faults ≡ old.faults → CountsFault (fault_in end_fault result) old new
counted_faults ats answers (Ok count) old new counts beside quiet = counts_no_disk old new beside quiet
counted_faults ats answers (Err end) old new counts beside quiet =
    let P : End → Type 0 = λ e. CountsFault (end_fault e) old new in
    subst P (sym counts.end_is) (counts_no_disk old new beside quiet)

pub counted_sound : (ats : List ℕ) (answers : List (Result Outcome Refusal)) (result : Result ℕ End) (new : View)
    → Counts ats answers result → new.fit → IfErr result (λ e. IsSoundFor e new)
counted_sound ats answers (Ok count) new counts fit = tt
counted_sound ats answers (Err end) new counts fit =
    let P : End → Type 0 = λ e. IsSoundFor e new in
    subst P (sym counts.end_is) fit

pub counted_most : (ats : List ℕ) (answers : List (Result Outcome Refusal)) (result : Result ℕ End) (most : ℕ) → Counts ats answers result
    → length answers ≤ most → IfOk result (λ count. count ≤ most)
counted_most ats answers (Ok count) most counts few = omega (arith, few, counts.0)
counted_most ats answers (Err end) most counts few = tt

pub counted_some : (ats : List ℕ) (answers : List (Result Outcome Refusal)) (result : Result ℕ End) → Counts ats answers result
    → 0 < length answers → IfOk result (λ count. 0 < count)
counted_some ats answers (Ok count) counts some = omega (arith, some, counts.0)
counted_some ats answers (Err end) counts some = tt

-- no set is a bad line
pub counted_blames : (ats : List ℕ) (answers : List (Result Outcome Refusal)) (result : Result ℕ End) → Counts ats answers result
    → IfErr result (λ e. BlamesNone e)
counted_blames ats answers (Ok count) counts = tt
counted_blames ats answers (Err end) counts =
    let P : End → Type 0 = λ e. BlamesNone e in
    subst P (sym counts.end_is) tt

pub set_blames : (at : ℕ) (e : StoreError) → BlamesNone (end_at at e)
set_blames at (store.Refused refusal) = tt
set_blames at store.NotAStore = tt
set_blames at store.DiskFault = tt
set_blames at (store.Damaged page) = tt
set_blames at store.NoMemory = tt
