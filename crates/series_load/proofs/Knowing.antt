-- The series of a name.
use Rattle.std.proofs.Common.{◌≡◌, ◌≢◌, ℕ, ◌<◌, List, [], length, Option, None, Some, Result, Ok, Err, OnOk, IfErr, IfSome, refl, subst}
use Rattle.std.proofs.Common.{inl, sym, ◌∙◌, arith}
use Rattle.std.specs.Prelude.{◌↔◌, IfOk, IsErrAnd, MatchOption, slice_get}
use Rattle.block_disk.specs.View.{Image, View}
use Rattle.series_book.specs.declared.one_series.Series.{Series}
use Rattle.series_book.specs.Edits.{id_of}
use Rattle.stored_book.specs.Standing.{StandsForBook}
use Rattle.series_catalog.specs.declared.stored_series.StoredSeries.{StoredSeries}
use Rattle.series_store.proofs.AskLemmas.{there}
use Rattle.series_store.specs.Asking.{IsInfo, IsNamedAt, IsStoredInfo}
use Rattle.series_store.specs.declared.series_info.SeriesInfo.{SeriesInfo}
use Rattle.block_disk.proofs.Passing.{passes_none}
use Rattle.gate_pages.specs.Pages.{Quiet}
use Rattle.series_load.specs.Ends.{EndsAtBad, EndsAtBadOf, EndsLoad, IsLoadCause, IsRead, OfScale, Outcome, Stopped}
use Rattle.series_load.specs.Fronts.{PlacedLine}
use Rattle.series_load.specs.Rows.{AreTable}
use Rattle.series_load.specs.Runs.{nothing}
use Rattle.series_load.specs.Sets.{AreFirstOf, IsAfterSome, IsNamed}
use Rattle.series_load.specs.Steps.{IsSoundFor}
use Rattle.run_ends.specs.declared.ending.End.{End}
use Rattle.run_ends.specs.declared.ending.End.TheVariants.{BadInput, InputTooLong, UnknownSeries, NoMemory}
use Rattle.series_load.proofs.CostLemmas.{costs_none}
use Rattle.series_load.proofs.Joined.{told_nothing}
use Rattle.series_load.proofs.SetLemmas.{after_none}

-- what is told of the series that was found
abbrev pub Tells : List ℕ → List Series → SeriesInfo → Type 0
Tells name book info = (id_of name book ≡ Some info.id) ×
    ((series : Series) → slice_get book info.id ≡ Some series → IsInfo series info.id info)

-- the series that was found is that of the book
pub named_at : (name : List ℕ) (book : List Series) (series : Series) (info : SeriesInfo) → Tells name book info
    → IsNamed book name series → slice_get book info.id ≡ Some series
named_at name book series info tells named =
    let same : named.id ≡ info.id = id_same name book named.id info.id named.id_is tells.0 in
    let P : ℕ → Type 0 = λ i. slice_get book i ≡ Some series in
    subst P same named.there
  where
    id_same : (name : List ℕ) (book : List Series) (i j : ℕ) → id_of name book ≡ Some i → id_of name book ≡ Some j → i ≡ j
    id_same name book i j first second = let both : Some i ≡ Some j = sym first ∙ second in cc

-- no series was found
pub none_so : (o : Option SeriesInfo) (P : Type 0) (Q : SeriesInfo → Type 0) → o ≡ None → MatchOption o P Q → P
none_so None P Q is match = match
none_so (Some info) P Q is match = cc

pub not_named : (name : List ℕ) (book : List Series) (series : Series) → id_of name book ≡ None → IsNamed book name series → ⊥
not_named name book series none named = let both : None ≡ Some named.id = sym none ∙ named.id_is in cc

-- where one was, the name isn't unknown
pub found_so : {T : Type 0} (name : List ℕ) (book : List Series) (info : SeriesInfo) (result : Result T End) → Tells name book info
    → result ≢ Err UnknownSeries → ((result ≡ Err UnknownSeries) ↔ (id_of name book ≡ None))
found_so name book info result tells known = (λ is. absurd (known is), λ none. let both : None ≡ Some info.id = sym none ∙ tells.0 in cc)

pub no_memory_known : {T : Type 0} (result : Result T End) (e : End) → IsErrAnd result (λ x. x ≡ e) → e ≡ NoMemory
    → result ≢ Err UnknownSeries
no_memory_known (Ok v) e is none same = absurd is
no_memory_known (Err x) e is none same = let other : x ≡ NoMemory = is ∙ none in cc

pub no_memory_short : {T : Type 0} (result : Result T End) (e : End) → IsErrAnd result (λ x. x ≡ e) → e ≡ NoMemory
    → result ≢ Err InputTooLong
no_memory_short (Ok v) e is none same = absurd is
no_memory_short (Err x) e is none same = let other : x ≡ NoMemory = is ∙ none in cc

pub err_is : {T : Type 0} {one other : End} → ◌≡◌ {A = Result T End} (Err one) (Err other) → one ≡ other
err_is is = cc

-- before anything was read
first_none : (series : Series) (o : Option (List ℕ)) → AreFirstOf series.scale series.step o []
first_none series None = tt
first_none series (Some input) =
    let T : List PlacedLine → Type 0 = λ l. AreTable series.scale l [] in
    record {
      front = [];
      rest = input;
      early = omega arith;
      rows = [];
      reads = record { begins = record { split = refl; whole = inl (inl refl) }; table = subst T (sym told_nothing) (inl tt) };
      ended = inl (None, nothing);
    }

pub some_at_first : (total : ℕ) (name : List ℕ) (book : List Series) (series : Series) (o : Option (List ℕ)) (image : Image)
    → StandsForBook image total book → IsAfterSome total name book series o image
some_at_first total name book series o image stands =
    record { runs = []; first = first_none series o; after = after_none total name book image stands }

-- the load ended before a line was taken
pub unstarted : (total : ℕ) (name : List ℕ) (book : List Series) (series : Series) (o : Option (List ℕ)) (e : End)
    (result : Result ℕ End) (at : View) → IsErrAnd result (λ x. x ≡ e) → e ≡ NoMemory → IsAfterSome total name book series o at.image
    → Outcome total name book series o o result at at
unstarted total name book series o e (Ok count) at is none some = absurd is
unstarted total name book series o e (Err x) at is none some =
    let E : End → Type 0 = λ y. Stopped total name book series o o y at at in
    subst E (sym (is ∙ none))
    (record {
      costs = record { runs = []; first = first_none series o; costs = costs_none 0 at };
      ends = no_ends o;
      some = some;
      moments = passes_none at (IsAfterSome total name book series o) (Quiet at);
    })
  where
    no_ends : (i : Option (List ℕ)) → IfSome i (λ input. EndsLoad total name book series input o at.image NoMemory)
    no_ends None = tt
    no_ends (Some input) = tt

pub no_count : {T : Type 0} (result : Result T End) (e : End) (P : T → Type 0) → IsErrAnd result (λ x. x ≡ e) → IfOk result P
no_count {T} (Ok v) e P is = absurd is
no_count {T} (Err x) e P is = tt

pub no_value : {T : Type 0} (result : Result T End) (e : End) (P : Type 0) → IsErrAnd result (λ x. x ≡ e) → OnOk result P
no_value (Ok v) e P is = absurd is
no_value (Err x) e P is = tt

-- want of memory
pub no_memory_cause : {T : Type 0} (told : Type 0) (result : Result T End) (e : End) (total : ℕ) (old new : View)
    (reads reads' : ℕ) → IsErrAnd result (λ x. x ≡ e) → e ≡ NoMemory → IfErr result (λ x. IsLoadCause x told total old new reads reads')
no_memory_cause told (Ok v) e total old new reads reads' is none = tt
no_memory_cause {T} told (Err x) e total old new reads reads' is none =
    let P : End → Type 0 = λ y. IsLoadCause y told total old new reads reads' in
    subst P (sym (is ∙ none)) tt

pub no_memory_sound : {T : Type 0} (result : Result T End) (e : End) (new : View) → IsErrAnd result (λ x. x ≡ e) → e ≡ NoMemory
    → new.fit → IfErr result (λ x. IsSoundFor x new)
no_memory_sound (Ok v) e new is none fit = tt
no_memory_sound (Err x) e new is none fit =
    let P : End → Type 0 = λ y. IsSoundFor y new in
    subst P (sym (is ∙ none)) fit

-- ---- the line that is told, by the catalog

-- the series of this id says the scale
stored_line : (catalog : List StoredSeries) (name : List ℕ) (id : ℕ) (info : SeriesInfo) (scale : ℕ) → id < length catalog
    → IsNamedAt catalog name id → ((one : StoredSeries) → slice_get catalog id ≡ Some one → IsStoredInfo one info) → scale ≡ info.scale
    → (input : List ℕ) (end : End) → EndsAtBad scale input end → EndsAtBadOf catalog name input end
stored_line catalog name id info scale low named stored same input (BadInput at) is =
    let one = there catalog id low in
    let P : ℕ → Type 0 = λ n. EndsAtBad n input (BadInput at) in
    record {
      id = id;
      one = one.0;
      there = one.1;
      named = named one.0 one.1;
      so = subst P (same ∙ (stored one.0 one.1).scale) is;
    }
stored_line catalog name id info scale low named stored same input end is = tt

pub at_bad_of : (catalog : List StoredSeries) (name : List ℕ) (o : Option (List ℕ)) (id : ℕ) (info : SeriesInfo) (scale : ℕ)
    (result : Result ℕ End) → id < length catalog → IsNamedAt catalog name id
    → ((one : StoredSeries) → slice_get catalog id ≡ Some one → IsStoredInfo one info) → scale ≡ info.scale
    → IfErr result (λ e. IfSome o (λ input. EndsAtBad scale input e))
    → IfErr result (λ e. IfSome o (λ input. EndsAtBadOf catalog name input e))
at_bad_of catalog name o id info scale (Ok count) low named stored same line = tt
at_bad_of catalog name None id info scale (Err e) low named stored same line = tt
at_bad_of catalog name (Some input) id info scale (Err e) low named stored same line =
    stored_line catalog name id info scale low named stored same input e line

pub read_of : (catalog : List StoredSeries) (name : List ℕ) (o : Option (List ℕ)) (id : ℕ) (info : SeriesInfo) (scale : ℕ)
    (result : Result ℕ End) → id < length catalog → IsNamedAt catalog name id
    → ((one : StoredSeries) → slice_get catalog id ≡ Some one → IsStoredInfo one info) → scale ≡ info.scale
    → IfOk result (λ count. IfSome o (λ input. IsRead scale input count))
    → IfOk result (λ count. IfSome o (λ input. OfScale catalog name (λ scale. IsRead scale input count)))
read_of catalog name o id info scale (Err e) low named stored same read = tt
read_of catalog name None id info scale (Ok count) low named stored same read = tt
read_of catalog name (Some input) id info scale (Ok count) low named stored same read =
    let one = there catalog id low in
    let P : ℕ → Type 0 = λ n. IsRead n input count in
    record {
      id = id;
      one = one.0;
      there = one.1;
      named = named one.0 one.1;
      so = subst P (same ∙ (stored one.0 one.1).scale) read;
    }

-- no line was read
pub no_line : (catalog : List StoredSeries) (name : List ℕ) (o : Option (List ℕ))
    → IfSome o (λ input. EndsAtBadOf catalog name input UnknownSeries)
no_line catalog name None = tt
no_line catalog name (Some input) = tt

pub no_memory_line : {T : Type 0} (catalog : List StoredSeries) (name : List ℕ) (o : Option (List ℕ)) (result : Result T End) (e : End)
    → IsErrAnd result (λ x. x ≡ e) → e ≡ NoMemory → IfErr result (λ x. IfSome o (λ input. EndsAtBadOf catalog name input x))
no_memory_line {T} catalog name o (Ok v) e is none = tt
no_memory_line {T} catalog name None (Err x) e is none = tt
no_memory_line {T} catalog name (Some input) (Err x) e is none =
    let P : End → Type 0 = λ y. EndsAtBadOf catalog name input y in
    subst P (sym (is ∙ none)) tt
