-- What is said of all values of a series is sent.
use Rattle.std.proofs.Common.{◌≡◌, ℕ, ℤ, ◌+◌, ◌*◌, ◌^◌, ◌<◌, ◌≤◌, Bool, true, false, ◌&&◌, List, [], ◌++◌, length, take, Option, None, Some}
use Rattle.std.proofs.Common.{refl, sym, ap, subst, arith, ◌∙◌}
use Rattle.std.specs.Prelude.{Result, Ok, Err, OnOk, OnErr, IfErr}
use Rattle.std.specs.Result.{IsErrAnd}
use Rattle.std.proofs.lemmas.List.{append_assoc, append-nil, length-append}
use Rattle.std.proofs.lemmas.Option.{slice_get_past}
use Rattle.std.proofs.Math.Nat.{pow-le-pow_right}
use Rattle.std.proofs.Math.Seq.{take-append_seam}
use Rattle.block_disk.specs.Streams.{sent_after, PartSent}
use Rattle.block_disk.specs.View.{Image, View}
use Rattle.om3_coeff.specs.Keys.{page_levels, first_slot, end_slot}
use Rattle.om3_coeff.specs.Spans.{AreSlots, span}
use Rattle.om3_coeff.proofs.KeyLemmas.{height_covers}
use Rattle.catalog_page.specs.Entries.{Entry}
use Rattle.page_space.specs.declared.superblock.Superblock.{Superblock}
use Rattle.path_repair.specs.Changes.{value_of, slot_at}
use Rattle.path_repair.specs.Sums.{join_below}
use Rattle.path_repair.specs.TreePages.{count_where, is_stored}
use Rattle.path_repair.proofs.CountLemmas.{count_le}
use Rattle.series_book.specs.declared.limits.TheConstants.{MOST_SLOTS}
use Rattle.series_book.specs.Pages.{series_pages}
use Rattle.series_catalog.specs.Catalogs.{entry_of}
use Rattle.series_catalog.specs.declared.stored_series.StoredSeries.{StoredSeries}
use Rattle.stored_book.specs.Records.{entry}
use Rattle.stored_book.proofs.PageCounts.{counts_same}
use Rattle.tree_walk.specs.declared.tree.Tree.{Tree}
use Rattle.tree_walk.specs.Trees.{top_of_page, IsTree, StandsFor}
use Rattle.series_store.specs.Sending.{said_of, first_said, is_said_in, may_be_said_in, pages_said, said, texts_of, IsGiven, GivesBy}
use Rattle.series_store.specs.Sending.{IsSendCause, IsSeriesCause, IsNoDamage, SendsPart, HasUnfitPage}
use Rattle.series_store.specs.declared.send_errors.SendError.{SendError}
use Rattle.series_store.specs.declared.send_errors.SendError.TheVariants.{SendFault, DiskFault, Damaged, NoMemory}
use Rattle.series_store.specs.WhereFit.{IsTreeWhereFit, StandsWhereFit}
use Rattle.series_store.proofs.BookCountLemmas.{root_stands}
use Rattle.series_store.proofs.FitLemmas.{root_fits}
use Rattle.series_store.proofs.SendLemmas.{join_same, by_as, given_as, given_front, texts_same}

-- the range of a root page
pub root_range : (levels : ℕ) → levels ≤ 5 → end_slot (top_of_page levels 0) ≤ MOST_SLOTS
root_range levels few =
    let some : 0 < 2 = omega arith in
    let high : 7 * levels ≤ 35 = omega (arith, few) in
    once (2 ^ (7 * levels)) (2 ^ 35) (pow-le-pow_right some high)
  where
    once : (p most : ℕ) → p ≤ most → (0 + 1) * p ≤ most
    once p most few = omega (arith, few)

-- nothing is said of slots past the end
pub past_end : (text : ℕ → ℤ → List ℕ) (list : List (Option ℤ)) (i : ℕ) → length list ≤ i → said text list i ≡ []
unfolding slot_at
past_end text list i past = ap (λ x. said_of text i (value_of x)) (slice_get_past list i past)

pub all_said : (text : ℕ → ℤ → List ℕ) (list : List (Option ℤ)) (end : ℕ) → length list ≤ end
    → join_below (said text list) end ≡ texts_of text list
all_said text list end covers = join_same (said text list) (length list) end covers (λ i low high. past_end text list i low)

none_said : (f : ℕ → List ℕ) (p : ℕ) → join_below f (0 * p) ≡ []
unfolding join_below
none_said f p = let zero : 0 * p ≡ 0 = omega arith in ap (λ n. join_below f n) zero

unsent : (before : Option (List ℕ)) → before ≡ sent_after [] before
unsent None = refl
unsent (Some bytes) = ap Some (sym (append-nil bytes))

-- at first all waits
pub all_waits : (f : ℕ → List ℕ) (p : ℕ) (front : List ℕ) (before : Option (List ℕ))
    → IsGiven (front ++ join_below f (0 * p)) before before front
all_waits f p front before = record {
  done = [];
  split = ap (λ l. front ++ l) (none_said f p) ∙ append-nil front;
  sent = unsent before;
}

pub given_all : (text : List ℕ) (before now : Option (List ℕ)) (waits : List ℕ) → IsGiven text before now waits → waits ≡ []
    → now ≡ sent_after text before
given_all text before now waits given none =
    let whole : text ≡ given.done = given.split ∙ ap (λ l. given.done ++ l) none ∙ append-nil given.done in
    given.sent ∙ ap (λ l. sent_after l before) (sym whole)

pub given_some : (text : List ℕ) (before now : Option (List ℕ)) (waits : List ℕ) → IsGiven text before now waits → PartSent text before now
given_some text before now waits given = record {
  count = length given.done;
  within = omega (arith, ap (λ l. length l) given.split, length-append given.done waits);
  sent = given.sent ∙ ap (λ l. sent_after l before)
      (sym (ap (λ l. take (length given.done) l) given.split ∙ take-append_seam given.done waits));
}

-- what a tree's root gives
pub record IsTreeSent (may : ℕ → ℕ → Bool) (text : ℕ → ℤ
    → List ℕ) (list : List (Option ℤ)) (front : List ℕ) (old new : View) (waits : List ℕ) (r : Result (Unit {0}) SendError) : Type 0 where
  pub reads : new.reads ≤ old.reads + pages_said may list
  pub gives : GivesBy r (front ++ texts_of text list) old.beside.sent new.beside.sent waits

pub tree_sent : (may : ℕ → ℕ → Bool) (text : ℕ → ℤ → List ℕ) (list : List (Option ℤ)) (image : Image) (total levels : ℕ) (tree : Tree)
    (front waits : List ℕ) (old new : View) (r : Result (Unit {0}) SendError) → levels ≡ page_levels tree.slots → tree.slots ≤ MOST_SLOTS
    → StandsWhereFit image total tree list
    → ((list : List (Option ℤ)) → AreSlots list → IsTreeWhereFit image total list levels 0 tree.root
    → tree.span ≡ span list (top_of_page levels 0)
    → SendsPart (said (first_said tree.slots text) list) (first_slot (top_of_page levels 0)) (end_slot (top_of_page levels 0))
    (count_where (is_said_in may tree.slots list) levels 0) old new front waits r)
    → IsTreeSent may text list front old new waits r
tree_sent may text list image total levels tree front waits old new r is few stands part =
    let root = root_fits image total tree list levels is stands in
    let whole = part list stands.values root.pages root.top_is in
    let levels_are : page_levels (length list) ≡ levels = ap page_levels (sym stands.slots) ∙ sym is in
    let covers : length list ≤ 2 ^ (7 * levels) = omega (arith, height_covers (length list) stands.few, ap (λ l. 2 ^ (7 * l)) levels_are) in
    let pages : count_where (is_said_in may tree.slots list) levels 0 ≡ pages_said may list =
    ap (λ l. count_where (is_said_in may tree.slots list) l 0) (sym levels_are)
    ∙ ap (λ n. count_where (is_said_in may n list) (page_levels (length list)) 0) stands.slots in
    record {
      reads = omega (arith, whole.reads, pages);
      gives = by_as r (front ++ join_below (said (first_said tree.slots text) list) (end_slot (top_of_page levels 0)))
          (front ++ texts_of text list) waits old.beside.sent new.beside.sent
          (ap (λ l. front ++ l) (all_said (first_said tree.slots text) list (end_slot (top_of_page levels 0))
          (once (length list) (2 ^ (7 * levels)) covers) ∙ texts_same tree.slots text list (omega (arith, stands.slots))))
          (whole.gives front old.beside.sent (all_waits (said (first_said tree.slots text) list) (2 ^ (7 * levels)) front old.beside.sent));
    }
  where
    once : (n p : ℕ) → n ≤ p → n ≤ (0 + 1) * p
    once n p few = omega (arith, few)

-- a tree that stands for a list has no damaged page
pub tree_sound : (image : Image) (total levels : ℕ) (tree : Tree) (list : List (Option ℤ)) (e : SendError) → levels ≡ page_levels tree.slots
    → StandsFor image total tree list
    → ((list : List (Option ℤ)) → AreSlots list → IsTree image total list levels 0 tree.root → tree.span ≡ span list (top_of_page levels 0)
    → IsNoDamage e) → IsNoDamage e
tree_sound image total levels tree list e is stands sound =
    let root = root_stands image total tree list levels is stands in
    sound list stands.values root.pages root.top_is

-- what waits at the end is sent too
pub sent_at_end : (may : ℕ → ℕ → Bool) (text : ℕ → ℤ
    → List ℕ) (list : List (Option ℤ)) (front waits later : List ℕ) (old mid new : View) (r : Result (Unit {0}) SendError)
    → IsTreeSent may text list front old mid waits (Ok tt)
    → ((t : List ℕ) (before : Option (List ℕ)) → IsGiven t before mid.beside.sent waits → GivesBy r t before new.beside.sent later)
    → OnOk r (later ≡ []) → OnOk r (new.beside.sent ≡ sent_after (front ++ texts_of text list) old.beside.sent)
sent_at_end may text list front waits later old mid new (Ok done) sent gives none =
    given_all (front ++ texts_of text list) old.beside.sent new.beside.sent later
    (gives (front ++ texts_of text list) old.beside.sent sent.gives) none
sent_at_end may text list front waits later old mid new (Err e) sent gives none = tt

pub part_at_end : (may : ℕ → ℕ → Bool) (text : ℕ → ℤ
    → List ℕ) (list : List (Option ℤ)) (front waits later : List ℕ) (old mid new : View) (r : Result (Unit {0}) SendError)
    → IsTreeSent may text list front old mid waits (Ok tt)
    → ((t : List ℕ) (before : Option (List ℕ)) → IsGiven t before mid.beside.sent waits → GivesBy r t before new.beside.sent later)
    → OnErr r (PartSent (front ++ texts_of text list) old.beside.sent new.beside.sent)
part_at_end may text list front waits later old mid new (Ok done) sent gives = tt
part_at_end may text list front waits later old mid new (Err e) sent gives =
    let is = gives (front ++ texts_of text list) old.beside.sent sent.gives in
    given_some (front ++ texts_of text list) old.beside.sent new.beside.sent is.0 is.2

-- of a part what waits is sent, and what was sent is a front of the whole
some_given : (r : Result (Unit {0}) SendError) (text part more : List ℕ) (before now : Option (List ℕ)) (later : List ℕ)
    → text ≡ part ++ more → GivesBy r part before now later → PartSent text before now
some_given (Ok done) text part more before now later is given =
    given_some text before now (later ++ more) (given_as (part ++ more) text (later ++ more) before now now (sym is) refl
    (given_front part more later before now given))
some_given (Err e) text part more before now later is given =
    given_some text before now (given.0 ++ more) (given_as (part ++ more) text (given.0 ++ more) before now now (sym is) refl
    (given_front part more given.0 before now given.2))

-- where a page was damaged, what waits is sent, and all that was sent is a front
pub part_at_damage : (may : ℕ → ℕ → Bool) (text : ℕ → ℤ
    → List ℕ) (list : List (Option ℤ)) (front waits later : List ℕ) (old mid new : View) (e : SendError) (page : ℕ)
    (r : Result (Unit {0}) SendError) → e ≡ Damaged page → IsTreeSent may text list front old mid waits (Err e)
    → ((t : List ℕ) (before : Option (List ℕ)) → IsGiven t before mid.beside.sent waits → GivesBy r t before new.beside.sent later)
    → PartSent (front ++ texts_of text list) old.beside.sent new.beside.sent
part_at_damage may text list front waits later old mid new e page r damaged sent gives =
    let R : SendError → Type 0 = λ x. GivesBy (Err x) (front ++ texts_of text list) old.beside.sent mid.beside.sent waits in
    let is = subst R damaged sent.gives in
    let more = is.1.0 in
    let given = is.2 in
    let whole : front ++ texts_of text list ≡ (given.done ++ waits) ++ more = given.split ∙ ap (λ l. given.done ++ l) is.1.1
    ∙ sym (append_assoc given.done waits more) in
    let waiting : IsGiven (given.done ++ waits) old.beside.sent mid.beside.sent waits = record {
      done = given.done;
      split = refl;
      sent = given.sent;
    } in
    some_given r (front ++ texts_of text list) (given.done ++ waits) more old.beside.sent new.beside.sent later whole
    (gives (given.done ++ waits) old.beside.sent waiting)

-- so it is of any error
pub so_on_error : {X : Type 0} (r : Result (Unit {0}) SendError) → X → OnErr r X
so_on_error (Ok done) x = tt
so_on_error (Err e) x = x

-- and where the tree's values weren't all given
pub part_on_error : (may : ℕ → ℕ → Bool) (text : ℕ → ℤ
    → List ℕ) (list : List (Option ℤ)) (front waits : List ℕ) (old new : View) (r : Result (Unit {0}) SendError) (e : SendError)
    → IsErrAnd r (λ x. x ≡ e) → IsTreeSent may text list front old new waits (Err e)
    → OnErr r (PartSent (front ++ texts_of text list) old.beside.sent new.beside.sent)
part_on_error may text list front waits old new (Ok done) e is sent = tt
part_on_error may text list front waits old new (Err x) e is sent = given_some
    (front ++ texts_of text list) old.beside.sent new.beside.sent sent.gives.0 sent.gives.2

-- why not all values of the series were sent, by its record
pub series_cause : (e : SendError) (told : Type 0) (s : Superblock) (id : ℕ) (one : StoredSeries) (old new : View)
    → (told → entry old.image id ≡ entry_of one) → IsSendCause e told old new s.total
    (page_levels one.tree.slots) one.tree.root one.tree.span → IsSeriesCause e told s id old new
series_cause SendFault told s id one old new is cause = cause
series_cause DiskFault told s id one old new is cause = cause
series_cause (Damaged at) told s id one old new is cause =
    let P : Entry → Type 0 = λ e. HasUnfitPage old.image s.total (page_levels e.slots) e.root e.span at in
    (cause.0, λ t. subst P (sym (is t)) (cause.1 t))
series_cause NoMemory told s id one old new is cause = cause

pub series_cause_by : (r : Result (Unit {0}) SendError) (told : Type 0) (s : Superblock) (id : ℕ) (one : StoredSeries) (old new : View)
    → (told → entry old.image id ≡ entry_of one) → IfErr r
    (λ e. IsSendCause e told old new s.total (page_levels one.tree.slots) one.tree.root one.tree.span)
    → IfErr r (λ e. IsSeriesCause e told s id old new)
series_cause_by (Ok done) told s id one old new is cause = tt
series_cause_by (Err e) told s id one old new is cause = series_cause e told s id one old new is cause

-- what stands beside the pages is what the stream tells
pub sent_told : (r : Result (Unit {0}) SendError) (text : List ℕ) (before before' now now' : Option (List ℕ)) → before ≡ before'
    → now ≡ now' → OnOk r (now ≡ sent_after text before) → OnOk r (now' ≡ sent_after text before')
sent_told r text before before' now now' same same' sent =
    let P : Option (List ℕ) → Type 0 = λ o. OnOk r (now' ≡ sent_after text o) in
    let Q : Option (List ℕ) → Type 0 = λ o. OnOk r (o ≡ sent_after text before) in
    subst P same (subst Q same' sent)

pub part_told : (r : Result (Unit {0}) SendError) (text : List ℕ) (before before' now now' : Option (List ℕ)) → before ≡ before'
    → now ≡ now' → OnErr r (PartSent text before now) → OnErr r (PartSent text before' now')
part_told r text before before' now now' same same' sent =
    let P : Option (List ℕ) → Type 0 = λ o. OnErr r (PartSent text o now') in
    let Q : Option (List ℕ) → Type 0 = λ o. OnErr r (PartSent text before o) in
    subst P same (subst Q same' sent)

-- and they are no more than the tree has
first_true : (a b : Bool) → (a && b) ≡ true → a ≡ true
first_true true b is = refl
first_true false b is = absurd (cc)

pub said_few : (may : ℕ → ℕ → Bool) (list : List (Option ℤ)) → length list ≤ MOST_SLOTS → pages_said may list ≤ series_pages list
said_few may list few =
    omega (
      arith,
      count_le (is_said_in may (length list) list) (is_stored list) (page_levels (length list)) 0
          (λ l q is. first_true (is_stored list l q) (may_be_said_in may (length list) l q) is),
      counts_same list few,
    )
