-- Sets, one after the other.
use Rattle.std.proofs.Common.{◌≡◌, ◌≢◌, ℕ, zero, suc, ℤ, ◌==◌, Bool, true, false, List, [], ◌∷◌, ◌++◌, length, map, take, drop, Option}
use Rattle.std.proofs.Common.{None, Some, Result, Ok, Err, refl, ap, ap₂, subst, sym, ◌∙◌, arith, append_assoc, length-drop, take_all, ◌-◌}
use Rattle.std.proofs.Common.{◌≤◌}
use Rattle.std.specs.Option.{IsSome}
use Rattle.std.specs.Prelude.{IsErrAnd, OnOk, IfErr}
use Rattle.std.proofs.lemmas.List.{append-nil, length-map, map-append, take-append-drop}
use Rattle.std.proofs.lemmas.Bool.{eqb-true}
use Rattle.std.proofs.lemmas.List.Elements.{All-map}
use Rattle.block_disk.specs.View.{Image, View, Passes}
use Rattle.block_disk.proofs.Passing.{passes_none, passes_weaker}
use Rattle.gate_pages.proofs.Moving.{time_then}
use Rattle.gate_pages.specs.Pages.{Quiet}
use Rattle.series_book.specs.declared.one_series.Series.{Series}
use Rattle.series_book.specs.declared.edits.Edit.{Edit}
use Rattle.series_book.specs.declared.edits.Edit.TheVariants.{Set}
use Rattle.series_book.specs.declared.refusals.Refusal.{Refusal}
use Rattle.series_book.specs.Edits.{IsEdit}
use Rattle.page_space.specs.declared.superblock.Superblock.{Superblock}
use Rattle.page_space.specs.Layout.{Keeps as KeepsPage}
use Rattle.stored_book.specs.Damage.{IsBadForEdit}
use Rattle.stored_book.specs.Standing.{StandsForBook}
use Rattle.series_store.specs.Results.{IsUnchangedFor, IsEditCause}
use Rattle.series_store.specs.declared.errors.StoreError.{StoreError}
use Rattle.series_store.specs.declared.errors.StoreError.TheVariants as store
use Rattle.series_load.specs.Rows.{Reading}
use Rattle.series_load.specs.Costs.{Costs, spent_by}
use Rattle.series_load.specs.Runs.{Run, readings}
use Rattle.series_load.specs.Sets.{AreEdits, AreSets, IsAfter, IsPartDone, IsRefusedIn, Loads, set_of}
use Rattle.series_load.specs.Steps.{Does, DoesFirst, IsAtLine, IsSetCause, Keeps, KeepsRun, KeepsRuns, NoBad, StopsSo, closed, end_at}
use Rattle.run_ends.specs.declared.ending.End.{End}
use Rattle.run_ends.specs.declared.ending.End.TheVariants.{NoMemory, BadInput, Refused}
use Rattle.series_load.specs.declared.kept_sets.KeptSets.{KeptSets}
use Rattle.series_load.specs.declared.open_run.OpenRun.{OpenRun}
use Rattle.series_load.proofs.CostLemmas.{costs_none}

-- sets behind sets
pub loads_then : (total : ℕ) (name : List ℕ) (old mid new : List Series) (runs ends : List Run) → Loads total name old runs mid
    → Loads total name mid ends new → Loads total name old (runs ++ ends) new
loads_then total name old mid new [] ends first second = let P : List Series → Type 0 = λ b. Loads total name b ends new in
    subst P first second
loads_then total name old mid new (run ∷ runs) ends first second = (
  first.0,
  first.1,
  loads_then total name first.0.book mid new runs ends first.2 second,
)

pub after_then : (total : ℕ) (name : List ℕ) (old mid : List Series) (runs ends : List Run) (image : Image) → Loads total name old runs mid
    → IsAfter total name mid ends image → IsAfter total name old (runs ++ ends) image
after_then total name old mid runs ends image first after = record {
  new = after.new;
  loads = loads_then total name old mid after.new runs ends first after.loads;
  stands = after.stands;
}

-- no set
pub after_none : (total : ℕ) (name : List ℕ) (book : List Series) (image : Image) → StandsForBook image total book
    → IsAfter total name book [] image
after_none total name book image stands = record { new = book; loads = refl; stands = stands }

all_there : (rs : List Reading) → map Some (map (λ r. r.value) rs) ≡ map (λ r. Some r.value) rs
all_there [] = refl
all_there (r ∷ rs) = ap (λ l. Some r.value ∷ l) (all_there rs)

-- the set that is made of what is kept of a run
pub set_is : (name : List ℕ) (run : Run) (kept : OpenRun) (edit : Edit) → KeepsRun run kept
    → edit ≡ Set name kept.time (map Some kept.values.items) → edit ≡ set_of name run
set_is name run kept edit keeps is =
    let P : ℤ → Type 0 = λ t. edit ≡ Set name t (map Some kept.values.items) in
    subst P keeps.time_is is ∙ ap (λ v. Set name run.first.time (map Some v)) keeps.values_are
    ∙ ap (λ v. Set name run.first.time v) (all_there (readings run))

-- a set more is kept
pub sets_more : (name : List ℕ) (runs : List Run) (run : Run) (sets sets' : List Edit) (ats ats' : List ℕ) (set : Edit) (at : ℕ)
    → AreSets name runs sets ats → set ≡ set_of name run → at ≡ run.first.at → sets' ≡ sets ++ set ∷ [] → ats' ≡ ats ++ at ∷ []
    → AreSets name (runs ++ run ∷ []) sets' ats'
sets_more name runs run sets sets' ats ats' set at are is place sets_are ats_are = record {
  sets_are = sets_are ∙ ap₂ (λ xs x. xs ++ x ∷ []) are.sets_are is ∙ sym (map-append (set_of name) runs (run ∷ []));
  ats_are = ats_are ∙ ap₂ (λ xs x. xs ++ x ∷ []) are.ats_are place ∙ sym (map-append (λ (run : Run). run.first.at) runs (run ∷ []));
}

-- the run that stands open ends: where there is one, its set is kept
pub keeps_none : (name : List ℕ) (waiting : List Run) (old : Option Run) (kept : KeptSets) (run : OpenRun) → run.values.items ≡ []
    → KeepsRuns name waiting old kept run → KeepsRuns name (waiting ++ closed old) None kept run
keeps_none name waiting None kept run none keeps =
    let P : List Run → Type 0 = λ w. AreSets name w kept.sets.items kept.ats.items in
    record { sets = subst P (sym (append-nil waiting)) keeps.sets; still = none }
keeps_none name waiting (Some open_run) kept run none keeps = let is : map (λ r. r.value)
    (readings open_run) ≡ [] = sym keeps.still.values_are ∙ none in cc

pub keeps_set : (name : List ℕ) (waiting : List Run) (old : Option Run) (kept kept' : KeptSets) (run run' : OpenRun) (set : Edit)
    → run.values.items ≢ [] → KeepsRuns name waiting old kept run → set ≡ Set name run.time (map Some run.values.items)
    → kept'.sets.items ≡ kept.sets.items ++ set ∷ [] → kept'.ats.items ≡ kept.ats.items ++ run.at ∷ [] → run'.values.items ≡ []
    → KeepsRuns name (waiting ++ closed old) None kept' run'
keeps_set name waiting None kept kept' run run' set some keeps is sets ats none = absurd (some keeps.still)
keeps_set name waiting (Some open_run) kept kept' run run' set some keeps is sets ats none = record {
  sets = sets_more name waiting open_run kept.sets.items kept'.sets.items kept.ats.items kept'.ats.items set run.at keeps.sets
      (set_is name open_run run set keeps.still is) keeps.still.at_is sets ats;
  still = none;
}

-- why an edit wasn't done is why a set wasn't; the pages are as they were
pub cause_of : (at : ℕ) (e : StoreError) (told told' : Type 0) (s : Superblock) (old new : View) → (told' → told) → new.size ≡ old.size
    → (told → KeepsPage old.size s (old.image 0)) → IsUnchangedFor e told old new → IsEditCause e told s old new
    → IsSetCause (end_at at e) told' s.total old new
cause_of at (store.Refused refusal) told told' s old new was size keeps same cause = tt
cause_of at store.NotAStore told told' s old new was size keeps same cause = absurd cause
cause_of at store.DiskFault told told' s old new was size keeps same cause = cause
cause_of at (store.Damaged page) told told' s old new was size keeps same cause =
    let I : Image → Type 0 = λ i. IsBadForEdit old.size i page in
    let C : ℕ → Type 0 = λ n. IsBadForEdit n new.image page in (
      cause.0,
      λ t. subst C (sym size) (subst I (sym (same.image (was t)))
          (record { numbers = s; keeps = keeps (was t); so = (cause.0, cause.1 (was t)) })),
    )
cause_of at store.NoMemory told told' s old new was size keeps same cause = tt

-- there are values
pub some_items : (n : ℕ) (values : List ℤ) (b : Bool) → n ≡ length values → b ≡ (n == 0) → b ≡ false → values ≢ []
some_items n [] b count tests is none =
    let here : b ≡ true = tests ∙ ap (λ k. k == 0) count in
    cc
some_items n (v ∷ vs) b count tests is none = cc

pub none_items : (n : ℕ) (values : List ℤ) (b : Bool) → n ≡ length values → b ≡ (n == 0) → b ≡ true → values ≡ []
none_items n [] b count tests is = refl
none_items n (v ∷ vs) b count tests is =
    let none : length (v ∷ vs) ≡ 0 = eqb-true (length (v ∷ vs)) 0 (sym (ap (λ k. k == 0) count) ∙ sym tests ∙ is) in
    absurd (omega (arith, none))

-- so the set is one that a book can be asked
pub set_is_edit : (edit : Edit) (name : List ℕ) (time : ℤ) (values : List ℤ) → edit ≡ Set name time (map Some values) → values ≢ []
    → IsEdit edit
set_is_edit edit name time [] is some = absurd (some refl)
set_is_edit edit name time (v ∷ vs) is some =
    let P : Edit → Type 0 = IsEdit in
    subst P (sym is) (omega arith, All-map (λ value. IsSome value) Some (v ∷ vs) (λ k d below. refl))

-- ---- sets of some first runs

pub part_none : (total : ℕ) (name : List ℕ) (book : List Series) (runs : List Run) (image : Image) → StandsForBook image total book
    → IsPartDone total name book runs image
part_none total name book runs image stands = record {
  done = [];
  later = runs;
  split = refl;
  after = after_none total name book image stands;
}

pub part_then : (total : ℕ) (name : List ℕ) (book mid : List Series) (first second : List Run) (image : Image)
    → Loads total name book first mid → IsPartDone total name mid second image → IsPartDone total name book (first ++ second) image
part_then total name book mid first second image loads part = record {
  done = first ++ part.done;
  later = part.later;
  split = ap (λ l. first ++ l) part.split ∙ sym (append_assoc first part.done part.later);
  after = after_then total name book mid first part.done image loads part.after;
}

pub refused_then : (total : ℕ) (name : List ℕ) (book mid : List Series) (first second : List Run) (at : ℕ) (refusal : Refusal)
    (image : Image) → Loads total name book first mid → IsRefusedIn total name mid second at refusal image
    → IsRefusedIn total name book (first ++ second) at refusal image
refused_then total name book mid first second at refusal image loads is = record {
  done = first ++ is.done;
  run = is.run;
  later = is.later;
  split = ap (λ l. first ++ l) is.split ∙ sym (append_assoc first is.done (is.run ∷ is.later));
  at_is = is.at_is;
  new = is.new;
  loads = loads_then total name book mid is.new first is.done loads is.loads;
  refused = is.refused;
  stands = is.stands;
}

pub stops_then : (total : ℕ) (name : List ℕ) (book mid : List Series) (first second : List Run) (image : Image) (e : End)
    → Loads total name book first mid → StopsSo NoBad total name mid second image e
    → StopsSo NoBad total name book (first ++ second) image e
stops_then total name book mid first second image NoMemory loads why = part_then total name book mid first second image loads why
stops_then total name book mid first second image (Refused at number) loads why =
    record {
      refusal = why.refusal;
      number_is = why.number_is;
      so = refused_then total name book mid first second at why.refusal image loads why.so;
    }
stops_then total name book mid first second image end loads why = why

part_moments : (total : ℕ) (name : List ℕ) (book mid_book : List Series) (first second : List Run) (old new : View)
    → Loads total name book first mid_book → Passes old new (IsPartDone total name mid_book second) (Quiet old)
    → Passes old new (IsPartDone total name book (first ++ second)) (Quiet old)
part_moments total name book mid_book first second old new loads time =
    passes_weaker old new (IsPartDone total name mid_book second) (IsPartDone total name book (first ++ second)) (Quiet old) (Quiet old)
    (λ image part. part_then total name book mid_book first second image loads part) (λ count quiet. quiet) time

-- some first sets, and then the others
pub does_then : (total : ℕ) (name : List ℕ) (book : List Series) (runs : List Run) (count : ℕ) (result : Result (Unit {0}) End)
    (old mid new : View) → count ≤ length runs → (first : DoesFirst total name book runs (Ok count) old mid)
    → Does NoBad total name first.done.new (drop count runs) result mid new → Does NoBad total name book runs result old new
does_then total name book runs count result old mid new few first second =
    let all : List Run = take count runs ++ drop count runs in
    let P : List Run → Type 0 = λ r. Does NoBad total name book r result old new in
    let Q : List Run → Type 0 = λ r. Passes old mid (IsPartDone total name book r) (Quiet old) in
    let same : all ≡ runs = take-append-drop count runs in
    let C : List Run → Type 0 = λ r. Costs (length r) (spent_by old) new in
    subst P same (by result (subst C (sym same) costs) second.done second.stops
    (time_then old mid new (IsPartDone total name book all) (subst Q (sym same) first.moments)
    (part_moments total name book first.done.new (take count runs) (drop count runs) mid new first.done.loads second.moments)))
  where
    costs : Costs (length runs) (spent_by old) new
    costs = record {
      reads = omega (arith, few, first.few.reads, second.costs.reads, length-drop count runs);
      syncs = omega (arith, few, first.few.syncs, second.costs.syncs, length-drop count runs);
      writes = omega (arith, few, first.few.writes, second.costs.writes, length-drop count runs);
    }

    by : (r : Result (Unit {0}) End) → Costs (length (take count runs ++ drop count runs)) (spent_by old) new
        → OnOk r (IsAfter total name first.done.new (drop count runs) new.image)
        → IfErr r (λ e. StopsSo NoBad total name first.done.new (drop count runs) new.image e)
        → Passes old new (IsPartDone total name book (take count runs ++ drop count runs)) (Quiet old)
        → Does NoBad total name book (take count runs ++ drop count runs) r old new
    by (Ok v) cost done stops time = record {
      costs = cost;
      done = after_then total name book first.done.new (take count runs) (drop count runs) new.image first.done.loads done;
      stops = tt;
      moments = time;
    }
    by (Err e) cost done stops time = record {
      costs = cost;
      done = tt;
      stops = stops_then total name book first.done.new (take count runs) (drop count runs) new.image e first.done.loads stops;
      moments = time;
    }

pub does_none : (total : ℕ) (name : List ℕ) (book : List Series) (runs : List Run) (v : Unit {0}) (at : View) → length runs ≡ 0
    → StandsForBook at.image total book → Does NoBad total name book runs (Ok v) at at
does_none total name book [] v at none stands = record {
  costs = costs_none 0 at;
  done = after_none total name book at.image stands;
  stops = tt;
  moments = passes_none at (IsPartDone total name book []) (Quiet at);
}
does_none total name book (run ∷ runs) v at none stands = absurd (omega (arith, none))

-- an error that is passed on
pub err_passes : (total : ℕ) (name : List ℕ) (book : List Series) (runs : List Run) (e : End) (result : Result (Unit {0}) End)
    (old new : View) → IsErrAnd result (λ x. x ≡ e) → Costs (length runs) (spent_by old) new
    → StopsSo NoBad total name book runs new.image e → Passes old new (IsPartDone total name book runs) (Quiet old)
    → Does NoBad total name book runs result old new
err_passes total name book runs e (Ok v) old new is costs stops time = absurd is
err_passes total name book runs e (Err x) old new is costs stops time =
    let P : End → Type 0 = λ y. StopsSo NoBad total name book runs new.image y in
    record { costs = costs; done = tt; stops = subst P (sym is) stops; moments = time }

-- want of memory before a set was done
pub no_memory_does : {T : Type 0} (B : ℕ → Type 0) (total : ℕ) (name : List ℕ) (book : List Series) (runs : List Run) (e : End)
    (result : Result T End) (at : View) → IsErrAnd result (λ x. x ≡ e) → e ≡ NoMemory → StandsForBook at.image total book
    → Does B total name book runs result at at
no_memory_does {T} B total name book runs e (Ok v) at is none stands = absurd is
no_memory_does {T} B total name book runs e (Err x) at is none stands =
    let P : End → Type 0 = λ y. StopsSo B total name book runs at.image y in
    record {
      costs = costs_none (length runs) at;
      done = tt;
      stops = subst P (sym (is ∙ none)) (part_none total name book runs at.image stands);
      moments = passes_none at (IsPartDone total name book runs) (Quiet at);
    }

-- the runs before a bad line were stored
pub stopped : {T U : Type 0} (at place total : ℕ) (name : List ℕ) (book : List Series) (runs : List Run) (v : T) (before now : View)
    → place ≡ at → Does NoBad total name book runs (Ok v) before now
    → Does {T = U} (IsAtLine at total name book runs now.image) total name book runs (Err (BadInput place)) before now
stopped at place total name book runs v before now same does = record {
  costs = does.costs;
  done = tt;
  stops = record { at_is = same; after = does.done };
  moments = does.moments;
}

pub stops_more : (B : ℕ → Type 0) (total : ℕ) (name : List ℕ) (book : List Series) (runs : List Run) (image : Image) (e : End)
    → StopsSo NoBad total name book runs image e → StopsSo B total name book runs image e
stops_more B total name book runs image (BadInput at) why = absurd why
stops_more B total name book runs image end why = why

pub not_stopped : {T U : Type 0} (B : ℕ → Type 0) (total : ℕ) (name : List ℕ) (book : List Series) (runs : List Run) (e : End)
    (before now : View) → Does {T = T} NoBad total name book runs (Err e) before now
    → Does {T = U} B total name book runs (Err e) before now
not_stopped {T} {U} B total name book runs e before now does = record {
  costs = does.costs;
  done = tt;
  stops = stops_more B total name book runs now.image e does.stops;
  moments = does.moments;
}

-- the list of sets is cleared
pub keeps_cleared : (name : List ℕ) (old : Option Run) (kept : KeptSets) (run : OpenRun) → kept.sets.items ≡ [] → kept.ats.items ≡ []
    → Keeps old run → KeepsRuns name [] old kept run
keeps_cleared name old kept run sets ats still = record { sets = record { sets_are = sets; ats_are = ats }; still = still }

pub edits_none : (sets : List Edit) (ats : List ℕ) → sets ≡ [] → AreEdits sets ats
edits_none [] ats none = record { edits = λ k d within. absurd (omega (arith, within)); placed = omega arith }
edits_none (set ∷ sets) ats none = cc

-- the sets behind the first ones
drop_map : {X Y : Type 0} (f : X → Y) (n : ℕ) (xs : List X) → drop n (map f xs) ≡ map f (drop n xs)
drop_map {X} {Y} f zero xs = refl
drop_map {X} {Y} f (suc n) [] = refl
drop_map {X} {Y} f (suc n) (x ∷ xs) = drop_map f n xs

pub sets_drop : (name : List ℕ) (n : ℕ) (runs : List Run) (sets : List Edit) (ats : List ℕ) → AreSets name runs sets ats
    → AreSets name (drop n runs) (drop n sets) (drop n ats)
sets_drop name n runs sets ats are = record {
  sets_are = ap (drop n) are.sets_are ∙ drop_map (set_of name) n runs;
  ats_are = ap (drop n) are.ats_are ∙ drop_map (λ (run : Run). run.first.at) n runs;
}

slice_all : {X : Type 0} (n : ℕ) (xs : List X) → take (length xs - n) (drop n xs) ≡ drop n xs
slice_all {X} n xs = take_all (length xs - n) (drop n xs) (omega (arith, length-drop n xs))

pub sets_behind : (name : List ℕ) (n : ℕ) (runs : List Run) (sets : List Edit) (ats : List ℕ) → AreSets name runs sets ats
    → AreSets name (drop n runs) (take (length sets - n) (drop n sets)) (take (length ats - n) (drop n ats))
sets_behind name n runs sets ats are =
    let d = sets_drop name n runs sets ats are in
    record { sets_are = slice_all n sets ∙ d.sets_are; ats_are = slice_all n ats ∙ d.ats_are }

-- the name stays
pub keeps_as : (name name' : List ℕ) (waiting : List Run) (old : Option Run) (kept : KeptSets) (run : OpenRun) → name' ≡ name
    → KeepsRuns name' waiting old kept run → KeepsRuns name waiting old kept run
keeps_as name name' waiting old kept run same keeps = let K : List ℕ → Type 0 = λ n. KeepsRuns n waiting old kept run in subst K same keeps

pub ok_keeps_as : {T : Type 0} (result : Result T End) (name name' : List ℕ) (waiting : List Run) (old : Option Run) (kept : KeptSets)
    (run : OpenRun) → name' ≡ name → OnOk result (KeepsRuns name' waiting old kept run) → OnOk result (KeepsRuns name waiting old kept run)
ok_keeps_as {T} (Ok v) name name' waiting old kept run same keeps = keeps_as name name' waiting old kept run same keeps
ok_keeps_as {T} (Err e) name name' waiting old kept run same keeps = tt

pub does_as : {T : Type 0} (B : ℕ → Type 0) (total : ℕ) (name name' : List ℕ) (book : List Series) (runs : List Run) (result : Result T End)
    (old new : View) → name' ≡ name → Does B total name' book runs result old new → Does B total name book runs result old new
does_as {T} B total name name' book runs result old new same does = let D : List ℕ
    → Type 0 = λ n. Does B total n book runs result old new in subst D same does

-- as many sets as runs
pub as_many : (name : List ℕ) (runs : List Run) (sets : List Edit) (ats : List ℕ) → AreSets name runs sets ats → length sets ≡ length runs
as_many name runs sets ats are = ap length are.sets_are ∙ length-map runs (set_of name)

pub runs_of_none : (name : List ℕ) (runs : List Run) (sets : List Edit) (ats : List ℕ) → AreSets name runs sets ats → length sets ≡ 0
    → length runs ≡ 0
runs_of_none name runs sets ats are none = omega (arith, none, ap length are.sets_are, length-map runs (set_of name))
