-- The clears of a rule one after the other.
use Rattle.std.proofs.Common.{◌≡◌, ◌≢◌, ℕ, zero, suc, ◌+◌, ◌<◌, ◌≤◌, Bool, true, false, List, [], ◌∷◌, ◌++◌, length, take, Option, None}
use Rattle.std.proofs.Common.{Some, Result, Ok, Err, IfErr, refl, sym, ap, subst, ◌∙◌, arith, inl, inr, append_assoc, length-append}
use Rattle.std.specs.Option.{is_some}
use Rattle.std.proofs.lemmas.List.{append-nil, length-take, take_all}
use Rattle.std.proofs.lemmas.Bool.Decides.{nat_tests}
use Rattle.std.specs.Prelude.{MatchOption, nat_lt, not}
use Rattle.series_store.specs.Asking.{IsFound}
use Rattle.series_store.specs.declared.series_info.SeriesInfo.{SeriesInfo}
use Rattle.series_book.specs.Edits.{id_of}
use Rattle.block_disk.specs.View.{Image, View, Now, Only, Passes}
use Rattle.block_disk.proofs.Passing.{passes_none, passes_weaker}
use Rattle.gate_pages.specs.Pages.{Quiet}
use Rattle.gate_pages.proofs.Moving.{time_then}
use Rattle.page_space.specs.Layout.{Keeps as KeepsPage}
use Rattle.page_space.specs.declared.superblock.Superblock.{Superblock}
use Rattle.series_book.specs.declared.edits.Edit.{Edit}
use Rattle.series_book.specs.declared.one_series.Series.{Series}
use Rattle.series_book.specs.declared.outcomes.Outcome.{Outcome}
use Rattle.series_book.specs.declared.refusals.Refusal.{Refusal}
use Rattle.series_book.specs.Books.{IsBook}
use Rattle.series_book.specs.Edits.{Edited, apply}
use Rattle.series_book.specs.EditLists.{after_edits, book_behind}
use Rattle.series_book.specs.Pages.{pages_of}
use Rattle.series_book.proofs.EditListLemmas.{after_append}
use Rattle.series_store.specs.Results.{IsBeforeOrAfter, IsDone, IsEditCause, IsRefusedWith, IsUnchangedFor}
use Rattle.series_store.specs.declared.errors.StoreError.{StoreError}
use Rattle.series_store.specs.declared.errors.StoreError.TheVariants as store
use Rattle.series_store.proofs.TimeLemmas.{reads_leave}
use Rattle.stored_book.specs.Damage.{IsBadForRequest}
use Rattle.stored_book.specs.Standing.{StandsForBook}
use Rattle.retention.specs.declared.rule.Rule.{Rule}
use Rattle.retention.specs.declared.sweep_error.SweepError.{SweepError}
use Rattle.retention.specs.declared.sweep_error.SweepError.TheVariants.{UnknownSeries, DiskFault, Damaged, NoMemory}
use Rattle.retention.specs.Steps.{IsNext}
use Rattle.retention.specs.Stepping.{ClearsTo, DidNext, DidOrNone, HadNone, IsOneOf, KeepsFor, NowOrNext, StepsSo, clear_error}
use Rattle.retention.specs.Drops.{book_stepped}
use Rattle.retention.specs.Moving.{CommitsFew}
use Rattle.retention.specs.Sweeping.{IsAfterFirst, IsNextOrNone, IsOutside, IsReadCause, IsSoundFor, IsSweptSome, StopsSomeSo}
use Rattle.retention.specs.Sweeps.{sweeps, sweeps_some}
use Rattle.retention.proofs.LookLemmas.{commits_more, commits_then}

-- ---- one clear

ok_same : (a b : Edited) → ◌≡◌ {A = Result Edited Refusal} (Ok a) (Ok b) → a ≡ b
ok_same a b same = cc

same_after : (total : ℕ) (book after : List Series) (clear : Edit) (slots : ℕ) (edited : Edited)
    → apply book total clear ≡ Ok (record { book = after; slots = slots }) → apply book total clear ≡ Ok edited → edited.book ≡ after
same_after total book after clear slots edited accepted is = ap (λ (e : Edited). e.book)
    (ok_same edited (record { book = after; slots = slots }) (sym is ∙ accepted))

one_of_two : (total : ℕ) (book after : List Series) (clear : Edit) (slots : ℕ) (image : Image)
    → apply book total clear ≡ Ok (record { book = after; slots = slots }) → IsBeforeOrAfter total book clear image
    → IsOneOf total book after image
one_of_two total book after clear slots image accepted (inl before) = inl before
one_of_two total book after clear slots image accepted (inr done) =
    let P : List Series → Type 0 = StandsForBook image total in
    inr (subst P (same_after total book after clear slots done.edited accepted done.accepted) done.stands)

clear_moments : (total : ℕ) (book after : List Series) (clear : Edit) (slots : ℕ) (old new : View)
    → apply book total clear ≡ Ok (record { book = after; slots = slots }) → Passes old new (IsBeforeOrAfter total book clear) (Quiet old)
    → Passes old new (IsOneOf total book after) (Quiet old)
clear_moments total book after clear slots old new accepted time =
    passes_weaker old new (IsBeforeOrAfter total book clear) (IsOneOf total book after) (Quiet old) (Quiet old)
    (λ image either. one_of_two total book after clear slots image accepted either) (λ count quiet. quiet) time

pub clear_does : {T : Type 0} (total : ℕ) (book after : List Series) (clear : Edit) (slots : ℕ) (outcome : Outcome) (v : T) (old new : View)
    → apply book total clear ≡ Ok (record { book = after; slots = slots }) → IsDone total book clear outcome new.image
    → Passes old new (IsBeforeOrAfter total book clear) (Quiet old) → ClearsTo total book after (Ok v) old new
clear_does total book after clear slots outcome v old new accepted done time =
    let P : List Series → Type 0 = StandsForBook new.image total in
    record {
      done = subst P (same_after total book after clear slots done.edited accepted done.accepted) done.stands;
      stops = tt;
      moments = clear_moments total book after clear slots old new accepted time;
    }

keeps_for : (e : StoreError) (told : Type 0) (total : ℕ) (book : List Series) (clear : Edit) (old new : View) → told
    → StandsForBook old.image total book → IsRefusedWith total book clear e → IsUnchangedFor e told old new
    → KeepsFor total book new.image (clear_error e)
keeps_for (store.Refused refusal) told total book clear old new says stands refused same = let P : Image
    → Type 0 = λ i. StandsForBook i total book in subst P (sym (same.image says)) stands
keeps_for store.NotAStore told total book clear old new says stands refused same = absurd refused
keeps_for store.DiskFault told total book clear old new says stands refused same = tt
keeps_for (store.Damaged page) told total book clear old new says stands refused same = absurd refused
keeps_for store.NoMemory told total book clear old new says stands refused same = let P : Image
    → Type 0 = λ i. StandsForBook i total book in subst P (sym (same.image says)) stands

pub clear_fails : {T : Type 0} (total : ℕ) (book after : List Series) (clear : Edit) (slots : ℕ) (cause : StoreError) (error : SweepError)
    (told : Type 0) (old new : View) → error ≡ clear_error cause → apply book total clear ≡ Ok (record { book = after; slots = slots })
    → told → StandsForBook old.image total book
    → IsRefusedWith total book clear cause → IsUnchangedFor cause told old new
    → Passes old new (IsBeforeOrAfter total book clear) (Quiet old) → ClearsTo {T = T} total book after (Err error) old new
clear_fails total book after clear slots cause error told old new is accepted says stands refused same time =
    let P : SweepError → Type 0 = KeepsFor total book new.image in
    record {
      done = tt;
      stops = subst P (sym is) (keeps_for cause told total book clear old new says stands refused same);
      moments = clear_moments total book after clear slots old new accepted time;
    }

pub clear_cause : (e : StoreError) (told told' : Type 0) (s : Superblock) (old new : View) → (told' → told) → new.size ≡ old.size
    → (told → KeepsPage old.size s (old.image 0)) → IsUnchangedFor e told old new → IsEditCause e told s old new
    → IsReadCause (clear_error e) told' s.total old new
clear_cause (store.Refused refusal) told told' s old new was size keeps same cause = tt
clear_cause store.NotAStore told told' s old new was size keeps same cause = absurd cause
clear_cause store.DiskFault told told' s old new was size keeps same cause = cause
clear_cause (store.Damaged page) told told' s old new was size keeps same cause =
    let I : Image → Type 0 = λ i. IsBadForRequest old.size i page in
    let C : ℕ → Type 0 = λ n. IsBadForRequest n new.image page in (
      cause.0,
      λ t. subst C (sym size) (subst I (sym (same.image (was t)))
          (record { numbers = s; keeps = keeps (was t); so = (cause.0, inr (cause.1 (was t))) })),
    )
clear_cause store.NoMemory told told' s old new was size keeps same cause = tt

pub clear_sound : (e : StoreError) (told : Type 0) (old new : View) → IsUnchangedFor e told old new → old.fit
    → IsSoundFor (clear_error e) new
clear_sound (store.Refused refusal) told old new same fit = same.fit fit
clear_sound store.NotAStore told old new same fit = absurd same
clear_sound store.DiskFault told old new same fit = tt
clear_sound (store.Damaged page) told old new same fit = same.fit fit
clear_sound store.NoMemory told old new same fit = same.fit fit

-- ---- the next clear

keeps_at : (e : SweepError) (total : ℕ) (book : List Series) (image : Image) → IsOutside e → StandsForBook image total book
    → KeepsFor total book image e
keeps_at UnknownSeries total book image outside stands = absurd outside
keeps_at DiskFault total book image outside stands = tt
keeps_at (Damaged page) total book image outside stands = absurd outside
keeps_at NoMemory total book image outside stands = stands

pub looks_sound : (e : SweepError) (new : View) → new.fit → IsSoundFor e new
looks_sound UnknownSeries new fit = fit
looks_sound DiskFault new fit = tt
looks_sound (Damaged page) new fit = fit
looks_sound NoMemory new fit = fit

stays : (total : ℕ) (book : List Series) (old new : View) → new.image ≡ old.image → StandsForBook old.image total book
    → StandsForBook new.image total book
stays total book old new same stands = let P : Image → Type 0 = λ i. StandsForBook i total book in subst P (sym same) stands

read_moments : (total : ℕ) (book : List Series) (rule : Rule) (old new : View) → Only old.image (Now old)
    → StandsForBook old.image total book → Passes old new (Now old) (Quiet old) → Passes old new (NowOrNext total book rule) (Quiet old)
read_moments total book rule old new only stands time = reads_leave old new (NowOrNext total book rule) only (inl stands) time

pub step_fails : (total : ℕ) (book : List Series) (rule : Rule) (e : SweepError) (old new : View) → Only old.image (Now old)
    → StandsForBook old.image total book → new.image ≡ old.image → Passes old new (Now old) (Quiet old) → IsOutside e → CommitsFew 0 old new
    → StepsSo total book rule (Err e) old new
step_fails total book rule e old new only stands same time outside few =
    record {
      commits = commits_more 0 (length (sweeps_some total book rule 1)) old new (omega arith) few;
      done = tt;
      stops = keeps_at e total book new.image outside (stays total book old new same stands);
      moments = read_moments total book rule old new only stands time;
    }

pub step_none : (total : ℕ) (book : List Series) (rule : Rule) (old new : View) → Only old.image (Now old)
    → StandsForBook old.image total book → new.image ≡ old.image → Passes old new (Now old) (Quiet old) → CommitsFew 0 old new
    → sweeps total book rule ≡ [] → StepsSo total book rule (Ok false) old new
step_none total book rule old new only stands same time few none =
    record {
      commits = commits_more 0 (length (sweeps_some total book rule 1)) old new (omega arith) few;
      done = record { none = none; stands = stays total book old new same stands };
      stops = tt;
      moments = read_moments total book rule old new only stands time;
    }

next_moments : (total : ℕ) (book : List Series) (rule : Rule) (clear : Edit) (next : IsNext total book rule clear) (image : Image)
    → IsOneOf total book next.after image → NowOrNext total book rule image
next_moments total book rule clear next image (inl before) = inl before
next_moments total book rule clear next image (inr after) = inr (record { clear = clear; next = next; stands = after })

step_moments : (total : ℕ) (book : List Series) (rule : Rule) (clear : Edit) (next : IsNext total book rule clear) (old mid new : View)
    → Only old.image (Now old) → StandsForBook old.image total book → Passes old mid (Now old) (Quiet old)
    → Passes mid new (IsOneOf total book next.after) (Quiet mid) → Passes old new (NowOrNext total book rule) (Quiet old)
step_moments total book rule clear next old mid new only stands time later =
    time_then old mid new (NowOrNext total book rule) (read_moments total book rule old mid only stands time)
    (passes_weaker mid new (IsOneOf total book next.after) (NowOrNext total book rule) (Quiet mid) (Quiet mid)
    (next_moments total book rule clear next) (λ count quiet. quiet) later)

-- a rule that has a next clear may make one
one_next : (total : ℕ) (book : List Series) (rule : Rule) (clear : Edit) → IsNext total book rule clear
    → length (sweeps_some total book rule 1) ≡ 1
one_next total book rule clear next = ap (λ cs. length (take 1 cs)) next.first

commits_next : (total : ℕ) (book : List Series) (rule : Rule) (clear : Edit) (old new : View) → IsNext total book rule clear
    → CommitsFew 1 old new → CommitsFew (length (sweeps_some total book rule 1)) old new
commits_next total book rule clear old new next few = commits_more 1 (length (sweeps_some total book rule 1)) old new
    (omega (arith, one_next total book rule clear next)) few

pub step_done : {T : Type 0} (total : ℕ) (book : List Series) (rule : Rule) (clear : Edit) (next : IsNext total book rule clear) (v : T)
    (old mid new : View) → Only old.image (Now old) → StandsForBook old.image total book → Passes old mid (Now old) (Quiet old)
    → ClearsTo total book next.after (Ok v) mid new → CommitsFew 1 old new → StepsSo total book rule (Ok true) old new
step_done total book rule clear next v old mid new only stands time clears few =
    record {
      commits = commits_next total book rule clear old new next few;
      done = record { clear = clear; next = next; stands = clears.done };
      stops = tt;
      moments = step_moments total book rule clear next old mid new only stands time clears.moments;
    }

pub step_stops : {T : Type 0} (total : ℕ) (book : List Series) (rule : Rule) (clear : Edit) (next : IsNext total book rule clear)
    (e : SweepError) (old mid new : View) → Only old.image (Now old) → StandsForBook old.image total book
    → Passes old mid (Now old) (Quiet old)
    → ClearsTo {T = T} total book next.after (Err e) mid new → CommitsFew 1 old new → StepsSo total book rule (Err e) old new
step_stops total book rule clear next e old mid new only stands time clears few =
    record {
      commits = commits_next total book rule clear old new next few;
      done = tt;
      stops = clears.stops;
      moments = step_moments total book rule clear next old mid new only stands time clears.moments;
    }

-- ---- the clears of a step

-- how far a step has come, and what was possible at each moment so far
pub record Going (total : ℕ) (book : List Series) (rule : Rule) (most clears : ℕ) (old now : View) : Type 0 where
  pub made : List Edit
  pub count : length made ≡ clears
  pub after : List Series
  pub is_book : IsBook after
  pub all : sweeps total book rule ≡ made ++ sweeps total after rule
  pub reached : after_edits total book made ≡ after
  pub stands : StandsForBook now.image total after
  pub moments : Passes old now (IsAfterFirst total book (sweeps_some total book rule most)) (Quiet old)

take_front : (xs ys : List Edit) → take (length xs) (xs ++ ys) ≡ xs
take_front [] ys = refl
take_front (x ∷ xs) ys = ap (λ zs. x ∷ zs) (take_front xs ys)

take_within : (xs ys : List Edit) (most : ℕ) → length xs ≤ most → take (length xs) (take most (xs ++ ys)) ≡ xs
take_within [] ys most low = refl
take_within (x ∷ xs) ys zero low = absurd (omega (arith, low))
take_within (x ∷ xs) ys (suc most) low = ap (λ zs. x ∷ zs) (take_within xs ys most (omega (arith, low)))

-- the pages stand for the book behind the clears so far
some_at : (total : ℕ) (book : List Series) (rule : Rule) (most : ℕ) (made later : List Edit) (after : List Series) (image : Image)
    → length made ≤ most → sweeps total book rule ≡ made ++ later → after_edits total book made ≡ after → StandsForBook image total after
    → IsAfterFirst total book (sweeps_some total book rule most) image
some_at total book rule most made later after image low all reached stands =
    let front : take (length made) (sweeps_some total book rule most) ≡ made = ap (λ cs. take (length made) (take most cs)) all
    ∙ take_within made later most low in
    let P : List Series → Type 0 = StandsForBook image total in
    record {
      done = length made;
      few = omega (arith, low, length-take most (sweeps total book rule), ap length all, length-append made later);
      stands = subst P (sym (ap (after_edits total book) front ∙ reached)) stands;
    }

pub going_some : (total : ℕ) (book : List Series) (rule : Rule) (most clears : ℕ) (old now : View) (image : Image) → clears ≤ most
    → (going : Going total book rule most clears old now) → StandsForBook image total going.after
    → IsAfterFirst total book (sweeps_some total book rule most) image
going_some total book rule most clears old now image low going stands =
    some_at total book rule most going.made (sweeps total going.after rule) going.after image
    (omega (arith, low, going.count)) going.all going.reached stands

pub going_none : (total : ℕ) (book : List Series) (rule : Rule) (most : ℕ) (at : View) → StandsForBook at.image total book
    → Going total book rule most 0 at at
going_none total book rule most at stands = record {
  made = [];
  count = refl;
  after = book;
  is_book = stands.store.is_book;
  all = refl;
  reached = refl;
  stands = stands;
  moments = passes_none at (IsAfterFirst total book (sweeps_some total book rule most)) (Quiet at);
}

-- the clears so far and the next one
made_next : (total : ℕ) (book : List Series) (rule : Rule) (made : List Edit) (after : List Series) (clear : Edit)
    (next : IsNext total after rule clear) → sweeps total book rule ≡ made ++ sweeps total after rule
    → sweeps total book rule ≡ (made ++ clear ∷ []) ++ sweeps total next.after rule
made_next total book rule made after clear next all = all ∙ ap (λ cs. made ++ cs) next.first
    ∙ sym (append_assoc made (clear ∷ []) (sweeps total next.after rule))

reached_next : (total : ℕ) (book : List Series) (rule : Rule) (made : List Edit) (after : List Series) (clear : Edit)
    (next : IsNext total after rule clear) → after_edits total book made ≡ after → after_edits total book (made ++ clear ∷ []) ≡ next.after
reached_next total book rule made after clear next reached =
    after_append total book made (clear ∷ []) ∙ ap (λ (b : List Series). after_edits total b (clear ∷ [])) reached
    ∙ ap (λ (r : Result Edited Refusal). book_behind after r) next.accepted

now_some : (total : ℕ) (book : List Series) (rule : Rule) (most clears : ℕ) (old now : View) → clears < most
    → (going : Going total book rule most clears old now) (image : Image) → NowOrNext total going.after rule image
    → IsAfterFirst total book (sweeps_some total book rule most) image
now_some total book rule most clears old now low going image (inl before) = going_some total book rule most clears old now image
    (omega (arith, low)) going before
now_some total book rule most clears old now low going image (inr did) =
    some_at total book rule most (going.made ++ did.clear ∷ []) (sweeps total did.next.after rule) did.next.after image
    (omega (arith, low, length-append going.made (did.clear ∷ []), going.count))
    (made_next total book rule going.made going.after did.clear did.next going.all)
    (reached_next total book rule going.made going.after did.clear did.next going.reached) did.stands

pub later_moments : (total : ℕ) (book : List Series) (rule : Rule) (most clears : ℕ) (old now new : View) → clears < most
    → (going : Going total book rule most clears old now) → Passes now new (NowOrNext total going.after rule) (Quiet now)
    → Passes old new (IsAfterFirst total book (sweeps_some total book rule most)) (Quiet old)
later_moments total book rule most clears old now new low going time =
    time_then old now new (IsAfterFirst total book (sweeps_some total book rule most)) going.moments
    (passes_weaker now new (NowOrNext total going.after rule) (IsAfterFirst total book (sweeps_some total book rule most)) (Quiet now)
    (Quiet now) (now_some total book rule most clears old now low going) (λ count quiet. quiet) time)

-- a look behind the last clear of a step
pub look_moments : (total : ℕ) (book : List Series) (rule : Rule) (most clears : ℕ) (old now new : View) → clears ≤ most
    → (going : Going total book rule most clears old now) → Only now.image (Now now) → Passes now new (Now now) (Quiet now)
    → Passes old new (IsAfterFirst total book (sweeps_some total book rule most)) (Quiet old)
look_moments total book rule most clears old now new low going only time =
    let Some : Image → Type 0 = IsAfterFirst total book (sweeps_some total book rule most) in
    time_then old now new Some going.moments (reads_leave now new Some only
    (going_some total book rule most clears old now now.image low going going.stands) time)

did_so : (b : Bool) (total : ℕ) (book : List Series) (rule : Rule) (image : Image) → b ≡ true → DidOrNone total book rule image b
    → DidNext total book rule image
did_so true total book rule image is did = did
did_so false total book rule image is did = cc

none_so : (b : Bool) (total : ℕ) (book : List Series) (rule : Rule) (image : Image) → b ≡ false → DidOrNone total book rule image b
    → HadNone total book rule image
none_so true total book rule image is did = cc
none_so false total book rule image is did = did

pub going_more : (total : ℕ) (book : List Series) (rule : Rule) (most clears : ℕ) (more : Bool) (old now new : View) → clears < most
    → (going : Going total book rule most clears old now) → more ≡ true → StepsSo total going.after rule (Ok more) now new
    → Going total book rule most (clears + 1) old new
going_more total book rule most clears more old now new low going is steps =
    let did : DidNext total going.after rule new.image = did_so more total going.after rule new.image is steps.done in
    record {
      made = going.made ++ did.clear ∷ [];
      count = omega (arith, length-append going.made (did.clear ∷ []), going.count);
      after = did.next.after;
      is_book = did.next.is_book;
      all = made_next total book rule going.made going.after did.clear did.next going.all;
      reached = reached_next total book rule going.made going.after did.clear did.next going.reached;
      stands = did.stands;
      moments = later_moments total book rule most clears old now new low going steps.moments;
    }

-- whether there are more
none_more : (most n : ℕ) → n ≤ most → false ≡ nat_lt most n
none_more most n few = let test : nat_lt most n ≡ false = grind (arith, nat_tests) in sym test

some_more : (most n : ℕ) → most < n → true ≡ nat_lt most n
some_more most n many = let test : nat_lt most n ≡ true = grind (arith, nat_tests) in sym test

more_so : (total : ℕ) (after : List Series) (rule : Rule) (next : Option Edit) (most n : ℕ) → IsNextOrNone total after rule next
    → n ≡ most + length (sweeps total after rule) → is_some next ≡ nat_lt most n
more_so total after rule None most n none is = none_more most n (omega (arith, is, ap length none))
more_so total after rule (Some clear) most n next is = some_more most n (omega (arith, is, ap length next.first))

swept_so : (total : ℕ) (book : List Series) (rule : Rule) (most clears used : ℕ) (more : Bool) (old now : View) (image : Image)
    (going : Going total book rule most clears old now) → sweeps_some total book rule most ≡ going.made
    → more ≡ nat_lt most (length (sweeps total book rule))
    → used ≡ pages_of going.after → StandsForBook image total going.after
    → IsSweptSome total book rule most (record { clears = clears; used = used; more = more }) image
swept_so total book rule most clears used more old now image going made more_is counted stands =
    let here : book_stepped total book rule most ≡ going.after = ap (after_edits total book) made ∙ going.reached in
    let P : List Series → Type 0 = StandsForBook image total in
    record {
      clears = sym going.count ∙ sym (ap length made);
      used = counted ∙ sym (ap pages_of here);
      more = more_is;
      stands = subst P (sym here) stands;
    }

-- no clear is left
pub swept_end : (total : ℕ) (book : List Series) (rule : Rule) (most clears used : ℕ) (more : Bool) (old now new : View) → clears < most
    → (going : Going total book rule most clears old now) → more ≡ false → StepsSo total going.after rule (Ok more) now new
    → ((after : List Series) → StandsForBook new.image total after → used ≡ pages_of after)
    → IsSweptSome total book rule most (record { clears = clears; used = used; more = false }) new.image
swept_end total book rule most clears used more old now new low going is steps counted =
    let had : HadNone total going.after rule new.image = none_so more total going.after rule new.image is steps.done in
    let all : sweeps total book rule ≡ going.made = going.all ∙ ap (λ cs. going.made ++ cs) had.none ∙ append-nil going.made in
    let made : sweeps_some total book rule most ≡ going.made = ap (take most) all
    ∙ take_all most going.made (omega (arith, low, going.count)) in
    swept_so total book rule most clears used false old now new.image going made
    (none_more most (length (sweeps total book rule)) (omega (arith, low, ap length all, going.count)))
    (counted going.after had.stands) had.stands

-- so many were made, and a look said whether there is one more
pub swept_last : (total : ℕ) (book : List Series) (rule : Rule) (most clears used : ℕ) (more : Bool) (next : Option Edit)
    (old now new : View) → clears ≤ most → most ≤ clears → (going : Going total book rule most clears old now) → new.image ≡ now.image
    → more ≡ is_some next → IsNextOrNone total going.after rule next
    → ((after : List Series) → StandsForBook new.image total after → used ≡ pages_of after)
    → IsSweptSome total book rule most (record { clears = clears; used = used; more = more }) new.image
swept_last total book rule most clears used more next old now new low up going same is so counted =
    let long : most ≡ length going.made = omega (arith, low, up, going.count) in
    let made : sweeps_some total book rule most ≡ going.made = ap (take most) going.all
    ∙ ap (λ n. take n (going.made ++ sweeps total going.after rule)) long ∙ take_front going.made (sweeps total going.after rule) in
    let stands : StandsForBook new.image total going.after = stays total going.after now new same going.stands in
    let count : length (sweeps total book rule) ≡ most + length (sweeps total going.after rule) = omega (
      arith,
      ap length going.all,
      length-append going.made (sweeps total going.after rule),
      long,
    ) in
    swept_so total book rule most clears used more old now new.image going made (is
    ∙ more_so total going.after rule next most (length (sweeps total book rule)) so count) (counted going.after stands) stands

-- why not all were done
stops_so : (e : SweepError) (total : ℕ) (book : List Series) (rule : Rule) (most clears : ℕ) (old now : View) (image : Image)
    → clears ≤ most → (going : Going total book rule most clears old now) → KeepsFor total going.after image e
    → StopsSomeSo total book rule most image e
stops_so UnknownSeries total book rule most clears old now image low going keeps = absurd keeps
stops_so DiskFault total book rule most clears old now image low going keeps = tt
stops_so (Damaged page) total book rule most clears old now image low going keeps = absurd keeps
stops_so NoMemory total book rule most clears old now image low going keeps = going_some total book rule most clears old now image low going
    keeps

pub swept_stops : (total : ℕ) (book : List Series) (rule : Rule) (most clears : ℕ) (e : SweepError) (old now new : View) → clears ≤ most
    → (going : Going total book rule most clears old now) → StepsSo total going.after rule (Err e) now new
    → StopsSomeSo total book rule most new.image e
swept_stops total book rule most clears e old now new low going steps = stops_so e total book rule most clears old now new.image low going
    steps.stops

pub look_stops : (total : ℕ) (book : List Series) (rule : Rule) (most clears : ℕ) (e : SweepError) (old now new : View) → clears ≤ most
    → (going : Going total book rule most clears old now) → new.image ≡ now.image → IsOutside e
    → StopsSomeSo total book rule most new.image e
look_stops total book rule most clears e old now new low going same outside =
    stops_so e total book rule most clears old now new.image low going
    (keeps_at e total going.after new.image outside (stays total going.after now new same going.stands))

-- how many clears were made
pub going_few : (total : ℕ) (book : List Series) (rule : Rule) (most clears : ℕ) (old now : View) → clears ≤ most
    → (going : Going total book rule most clears old now) → clears ≤ length (sweeps_some total book rule most)
going_few total book rule most clears old now low going =
    omega (
      arith,
      low,
      going.count,
      length-take most (sweeps total book rule),
      ap length going.all,
      length-append going.made (sweeps total going.after rule),
    )

-- how many commits there were
pub going_commits : (total : ℕ) (book : List Series) (rule : Rule) (most clears : ℕ) (old now new : View) → clears < most
    → (going : Going total book rule most clears old now) → CommitsFew clears old now
    → CommitsFew (length (sweeps_some total going.after rule 1)) now new
    → CommitsFew (length (sweeps_some total book rule most)) old new
going_commits total book rule most clears old now new low going before later =
    commits_more (clears + length (sweeps_some total going.after rule 1)) (length (sweeps_some total book rule most)) old new
    (omega (
      arith,
      low,
      going.count,
      length-take most (sweeps total book rule),
      length-take 1 (sweeps total going.after rule),
      ap length going.all,
      length-append going.made (sweeps total going.after rule),
    ))
    (commits_then clears (length (sweeps_some total going.after rule 1)) old now new before later)

pub look_commits : (total : ℕ) (book : List Series) (rule : Rule) (most clears : ℕ) (old now new : View) → clears ≤ most
    → (going : Going total book rule most clears old now) → CommitsFew clears old now → CommitsFew 0 now new
    → CommitsFew (length (sweeps_some total book rule most)) old new
look_commits total book rule most clears old now new low going before later =
    commits_more (clears + 0) (length (sweeps_some total book rule most)) old new
    (omega (
      arith,
      low,
      going.count,
      length-take most (sweeps total book rule),
      ap length going.all,
      length-append going.made (sweeps total going.after rule),
    ))
    (commits_then clears 0 old now new before later)

pub is_known : (e : SweepError) (told : Type 0) (total : ℕ) (old new : View) → IsReadCause e told total old new → e ≢ UnknownSeries
is_known UnknownSeries told total old new cause is = cause
is_known DiskFault told total old new cause is = cc
is_known (Damaged page) told total old new cause is = cc
is_known NoMemory told total old new cause is = cc

-- whether a series of a name is there
none_is : (b : Bool) → false ≡ not b → b ≡ true
none_is true is = refl
none_is false is = cc

some_is : (b : Bool) → true ≡ not b → b ≡ false
some_is true is = cc
some_is false is = refl

pub none_there : (o : Option SeriesInfo) (b : Bool) (name : List ℕ) (book : List Series) → is_some o ≡ not b
    → MatchOption o (id_of name book ≡ None) (IsFound name book) → (b ≡ true → id_of name book ≡ None) × (id_of name book ≡ None → b ≡ true)
none_there None b name book is info = (λ yes. info, λ none. none_is b is)
none_there (Some found) b name book is info = (
  λ yes. let other : b ≡ false = some_is b is in let both : true ≡ false = sym yes ∙ other in
      cc,
  λ none. let both : None ≡ Some found.id = sym none ∙ info.0 in cc,
)

pub lacks_there : (o : Option SeriesInfo) (b : Bool) (P : Type 0) (Q : SeriesInfo → Type 0) → is_some o ≡ not b → b ≡ true
    → MatchOption o P Q → P
lacks_there None b P Q is none info = info
lacks_there (Some found) b P Q is none info = let other : b ≡ false = some_is b is in let both : true ≡ false = sym none ∙ other in cc

pub not_unknown : {T : Type 0} (r : Result T SweepError) → IfErr r (λ e. e ≢ UnknownSeries) → r ≡ Err UnknownSeries → ⊥
not_unknown {T} (Ok v) known is = cc
not_unknown {T} (Err e) known is = let same : e ≡ UnknownSeries = cc in known same

-- a clear that is there
pub next_none : (total : ℕ) (book : List Series) (rule : Rule) (o : Option Edit) → o ≡ None
    → MatchOption o (sweeps total book rule ≡ []) (λ clear. IsNext total book rule clear) → sweeps total book rule ≡ []
next_none total book rule o is so = let P : Option Edit
    → Type 0 = λ x. MatchOption x (sweeps total book rule ≡ []) (λ clear. IsNext total book rule clear) in subst P is so

pub next_some : (total : ℕ) (book : List Series) (rule : Rule) (o : Option Edit) (clear : Edit) → o ≡ Some clear
    → MatchOption o (sweeps total book rule ≡ []) (λ clear. IsNext total book rule clear) → IsNext total book rule clear
next_some total book rule o clear is so = let P : Option Edit
    → Type 0 = λ x. MatchOption x (sweeps total book rule ≡ []) (λ clear. IsNext total book rule clear) in subst P is so

-- an outcome that isn't the other
pub err_ok : {T E : Type 0} (x : T) (e : E) → ◌≡◌ {A = Result T E} (Err e) (Ok x) → ⊥
err_ok x e never = cc

pub ok_err : {T E : Type 0} (x : T) (e : E) → ◌≡◌ {A = Result T E} (Ok x) (Err e) → ⊥
ok_err x e never = cc

pub ok_apart : {E : Type 0} → ◌≡◌ {A = Result Bool E} (Ok true) (Ok false) → ⊥
ok_apart never = cc

pub true_false : true ≡ false → ⊥
true_false never = cc
