-- What is said of the values of a list is given slot by slot.
use Rattle.std.proofs.Common.{◌≡◌, ◌≢◌, ℕ, ℤ, zero, suc, ◌+◌, ◌-◌, ◌*◌, ◌^◌, ◌<◌, ◌≤◌, ltb, Bool, true, is_some, ◌&&◌, List, [], ◌++◌}
use Rattle.std.proofs.Common.{length, take, drop, slice_get, Option, None, Some, refl, sym, ap, subst, arith, inl, inr, ◌∙◌}
use Rattle.std.specs.Prelude.{Result, Ok, Err, IfErr}
use Rattle.std.specs.Result.{IsErrAnd}
use Rattle.std.proofs.lemmas.Bool.{cases_lt}
use Rattle.std.proofs.lemmas.Bool.Decides.{nat_tests}
use Rattle.std.proofs.lemmas.List.{append_assoc, append-nil, take-append-drop}
use Rattle.block_disk.specs.Streams.{sent_after, PartSent}
use Rattle.block_disk.specs.View.{Image, View, Now, Beside, sent_now, Passes}
use Rattle.block_disk.proofs.Passing.{Between, passes_none, passes_weaker, sends_then_sends}
use Rattle.gate_pages.specs.GateLaws.{goes_none, goes_then}
use Rattle.gate_pages.specs.Pages.{Quiet}
use Rattle.om3_coeff.specs.declared.span.Span.{Span}
use Rattle.node_page.specs.Fields.{child_at}
use Rattle.om3_coeff.specs.Keys.{first_slot, end_slot}
use Rattle.om3_coeff.specs.Spans.{AreSlots, span_of_slot, span}
use Rattle.om3_coeff.proofs.ExtremeLemmas.{none-clear}
use Rattle.page_space.specs.declared.superblock.Superblock.{Superblock}
use Rattle.path_repair.specs.Changes.{value_of, slot_at}
use Rattle.path_repair.specs.Damage.{AreBelow}
use Rattle.path_repair.specs.Forms.{AreTops}
use Rattle.path_repair.specs.Sums.{sum_below, join_below}
use Rattle.path_repair.specs.TreePages.{count_where}
use Rattle.path_repair.proofs.CountLemmas.{count_one}
use Rattle.path_repair.proofs.ListLemmas.{width, child_end}
use Rattle.path_repair.proofs.SumLemmas.{sum_suc, sum_none, sum_upto}
use Rattle.series_catalog.proofs.ReadLemmas.{risen_on}
use Rattle.stored_book.proofs.OneBook.{slot_key_span}
use Rattle.tree_walk.specs.Trees.{top_of_page}
use Rattle.series_store.specs.Counting.{Looks, IsBadFor, IsPageCause}
use Rattle.series_store.specs.Sending.{said_of, first_said, is_said_in, may_be_said_in, said, texts_of, IsLeft, IsGiven, GivesBy, Sends}
use Rattle.series_store.specs.Sending.{IsTextCause, IsSendCause, IsNoDamage, send_error_of, SendsPart, HasUnfitPage}
use Rattle.series_store.specs.declared.errors.StoreError.{StoreError}
use Rattle.series_store.specs.declared.errors.StoreError.TheVariants as store
use Rattle.series_store.specs.declared.send_errors.SendError.{SendError}
use Rattle.series_store.specs.declared.send_errors.SendError.TheVariants.{SendFault, DiskFault, Damaged, NoMemory}
use Rattle.series_store.specs.WhereFit.{IsFitPage, IsTreeWhereFit}
use Rattle.series_store.proofs.FitLemmas.{child_fits}

sent_on : (one two : List ℕ) (before : Option (List ℕ)) → sent_after two (sent_after one before) ≡ sent_after (one ++ two) before
sent_on one two None = refl
sent_on one two (Some bytes) = ap Some (append_assoc bytes one two)

-- a send that failed gave a front of what waited
pub given_part : (text waiting : List ℕ) (before mid now : Option (List ℕ)) → IsGiven text before mid waiting → PartSent waiting mid now
    → (rest : List ℕ) × IsGiven text before now rest
given_part text waiting before mid now given part =
    let front = take part.count waiting in
    let rest = drop part.count waiting in (
      rest,
      record {
        done = given.done ++ front;
        split = given.split ∙ ap (λ l. given.done ++ l) (sym (take-append-drop part.count waiting))
            ∙ sym (append_assoc given.done front rest);
        sent = part.sent ∙ ap (λ o. sent_after front o) given.sent ∙ sent_on given.done front before;
      },
    )

-- one that did not gave all of it
pub given_whole : (text waiting waits : List ℕ) (before mid now : Option (List ℕ)) → IsGiven text before mid waiting
    → now ≡ sent_after waiting mid → waits ≡ [] → IsGiven text before now waits
given_whole text waiting waits before mid now given sent none = record {
  done = given.done ++ waiting;
  split = given.split ∙ sym (append-nil (given.done ++ waiting)) ∙ ap (λ l. given.done ++ waiting ++ l) (sym none);
  sent = sent ∙ ap (λ o. sent_after waiting o) given.sent ∙ sent_on given.done waiting before;
}

-- a text more waits
pub given_more : (text more waiting waits : List ℕ) (before now : Option (List ℕ)) → IsGiven text before now waiting
    → waits ≡ waiting ++ more → IsGiven (text ++ more) before now waits
given_more text more waiting waits before now given added = record {
  done = given.done;
  split = ap (λ l. l ++ more) given.split ∙ append_assoc given.done waiting more ∙ ap (λ l. given.done ++ l) (sym added);
  sent = given.sent;
}

-- what was sent is a front of each longer text
pub given_front : (text more waiting : List ℕ) (before now : Option (List ℕ)) → IsGiven text before now waiting
    → IsGiven (text ++ more) before now (waiting ++ more)
given_front text more waiting before now given = given_more text more waiting (waiting ++ more) before now given refl

pub given_as : (text other waiting : List ℕ) (before now now' : Option (List ℕ)) → text ≡ other → now' ≡ now
    → IsGiven text before now waiting → IsGiven other before now' waiting
given_as text other waiting before now now' same sent given = record {
  done = given.done;
  split = sym same ∙ given.split;
  sent = sent ∙ given.sent;
}

pub by_as : (r : Result (Unit {0}) SendError) (text other waiting : List ℕ) (before now : Option (List ℕ)) → text ≡ other
    → GivesBy r text before now waiting → GivesBy r other before now waiting
by_as (Ok done) text other waiting before now same given = given_as text other waiting before now now same refl given
by_as (Err e) text other waiting before now same given = (given.0, given.1, given_as text other given.0 before now now same refl given.2)

-- what is said of slots one after the other
join_suc : (f : ℕ → List ℕ) (n : ℕ) → join_below f (suc n) ≡ join_below f n ++ f n
unfolding join_below
join_suc f n = refl

pub join_alike : (f g : ℕ → List ℕ) (n : ℕ) → ((i : ℕ) → i < n → f i ≡ g i) → join_below f n ≡ join_below g n
unfolding join_below
join_alike f g zero alike = refl
join_alike f g (suc n) alike =
    let before : join_below f n ≡ join_below g n = join_alike f g n (λ i within. alike i (omega (arith, within))) in
    join_suc f n ∙ ap (λ l. l ++ f n) before ∙ ap (λ l. join_below g n ++ l) (alike n (omega arith)) ∙ sym (join_suc g n)

join_silent : (f : ℕ → List ℕ) (first n : ℕ) → ((i : ℕ) → first ≤ i → i < first + n → f i ≡ [])
    → join_below f (first + n) ≡ join_below f first
join_silent f first zero silent = let none : first + 0 ≡ first = omega arith in ap (λ n. join_below f n) none
join_silent f first (suc n) silent =
    let next : first + suc n ≡ suc (first + n) = omega arith in
    ap (λ n. join_below f n) next
    ∙ join_suc f (first + n)
    ∙ ap (λ l. join_below f (first + n) ++ l) (silent (first + n) (omega arith) (omega arith))
    ∙ append-nil (join_below f (first + n))
    ∙ join_silent f first n (λ i low high. silent i low (omega (arith, high)))

pub join_same : (f : ℕ → List ℕ) (first end : ℕ) → first ≤ end → ((i : ℕ) → first ≤ i → i < end → f i ≡ [])
    → join_below f end ≡ join_below f first
join_same f first end order silent =
    let sum : end ≡ first + (end - first) = omega (arith, order) in
    ap (λ n. join_below f n) sum ∙ join_silent f first (end - first) (λ i low high. silent i low (omega (arith, high, sum)))

join_on : (f : ℕ → List ℕ) (first n : ℕ) → (more : List ℕ) × (join_below f (first + n) ≡ join_below f first ++ more)
join_on f first zero =
    let none : first + 0 ≡ first = omega arith in
    ([], ap (λ n. join_below f n) none ∙ sym (append-nil (join_below f first)))
join_on f first (suc n) =
    let next : first + suc n ≡ suc (first + n) = omega arith in
    let before = join_on f first n in (
      before.0 ++ f (first + n),
      ap (λ n. join_below f n) next ∙ join_suc f (first + n) ∙ ap (λ l. l ++ f (first + n)) before.1
          ∙ append_assoc (join_below f first) before.0 (f (first + n)),
    )

join_more : (f : ℕ → List ℕ) (first end : ℕ) → first ≤ end → (more : List ℕ) × (join_below f end ≡ join_below f first ++ more)
join_more f first end order =
    let sum : first + (end - first) ≡ end = omega (arith, order) in
    let on = join_on f first (end - first) in
    (on.0, ap (λ n. join_below f n) (sym sum) ∙ on.1)

-- where nothing is said, nothing is given
pub part_silent : (f : ℕ → List ℕ) (first end pages : ℕ) (at : View) (waiting : List ℕ) → first ≤ end
    → ((i : ℕ) → first ≤ i → i < end → f i ≡ []) → SendsPart f first end pages at at waiting waiting (Ok tt)
part_silent f first end pages at waiting order silent = record {
  reads = omega arith;
  gives = λ front before given.
      let same = join_same f first end order silent in
      given_as (front ++ join_below f first) (front ++ join_below f end) waiting before at.beside.sent at.beside.sent
      (ap (λ l. front ++ l) (sym same)) refl given;
}

-- one part after another
pub part_then : (f : ℕ → List ℕ) (first mid end pages more : ℕ) (old between new : View) (w w' w'' : List ℕ)
    (r : Result (Unit {0}) SendError) → SendsPart f first mid pages old between w w' (Ok tt) → SendsPart f mid end more between new w' w'' r
    → SendsPart f first end (pages + more) old new w w'' r
part_then f first mid end pages more old between new w w' w'' r one two = record {
  reads = omega (arith, one.reads, two.reads);
  gives = λ front before given. two.gives front before (one.gives front before given);
}

-- what is left of a text is left of each longer one, with what that has more
left_more : (e : SendError) (waiting rest more : List ℕ) → IsLeft e waiting rest → IsLeft e waiting (rest ++ more)
left_more SendFault waiting rest more left = tt
left_more DiskFault waiting rest more left = tt
left_more (Damaged page) waiting rest more left = (left.0 ++ more, ap (λ l. l ++ more) left.1 ∙ append_assoc waiting left.0 more)
left_more NoMemory waiting rest more left = tt

-- and all that waits is left
left_all : (e : SendError) (waiting : List ℕ) → IsLeft e waiting waiting
left_all SendFault waiting = tt
left_all DiskFault waiting = tt
left_all (Damaged page) waiting = ([], sym (append-nil waiting))
left_all NoMemory waiting = tt

-- an error leaves a front of each longer text
pub part_stops : (f : ℕ → List ℕ) (first end last pages more : ℕ) (old new : View) (w w' : List ℕ) (e : SendError) → end ≤ last
    → pages ≤ more → SendsPart f first end pages old new w w' (Err e) → SendsPart f first last more old new w w' (Err e)
part_stops f first end last pages more old new w w' e order few part = record {
  reads = omega (arith, part.reads, few);
  gives = λ front before given.
      let is = part.gives front before given in
      let on = join_more f end last order in (
        is.0 ++ on.0,
        left_more e w' is.0 on.0 is.1,
        given_as (front ++ join_below f end ++ on.0) (front ++ join_below f last) (is.0 ++ on.0) before new.beside.sent new.beside.sent
            (append_assoc front (join_below f end) on.0 ∙ ap (λ l. front ++ l) (sym on.1)) refl
            (given_front (front ++ join_below f end) on.0 is.0 before new.beside.sent is.2),
      );
}

-- a page was read
pub part_read : (f : ℕ → List ℕ) (at : ℕ) (old new : View) (w : List ℕ) → new.beside ≡ old.beside → new.reads ≤ old.reads + 1
    → SendsPart f at at 1 old new w w (Ok tt)
part_read f at old new w same read = record {
  reads = read;
  gives = λ front before given. given_as (front ++ join_below f at) (front ++ join_below f at) w before old.beside.sent new.beside.sent refl
      (ap (λ (b : Beside). b.sent) same) given;
}

pub part_fails : (f : ℕ → List ℕ) (at : ℕ) (old new : View) (w : List ℕ) (e : SendError) → new.beside ≡ old.beside
    → new.reads ≤ old.reads + 1 → SendsPart f at at 1 old new w w (Err e)
part_fails f at old new w e same read = record {
  reads = read;
  gives = λ front before given. (
    w,
    left_all e w,
    given_as (front ++ join_below f at)
        (front ++ join_below f at) w before old.beside.sent new.beside.sent refl (ap (λ (b : Beside). b.sent) same) given,
  );
}

-- nothing is said of a slot that holds nothing
empty_slot : (x : Option (Option ℤ)) → ((v : ℤ) → x ≡ Some (Some v) → ⊥) → value_of x ≡ None
empty_slot None none = refl
empty_slot (Some None) none = refl
empty_slot (Some (Some v)) none = absurd (none v refl)

pub said_none : (text : ℕ → ℤ → List ℕ) (list : List (Option ℤ)) (level index : ℕ) → span list (top_of_page level index) ≡ None → (i : ℕ)
    → first_slot (top_of_page level index) ≤ i → i < end_slot (top_of_page level index) → said text list i ≡ []
unfolding slot_at
said_none text list level index none i low high =
    ap (λ x. said_of text i x) (empty_slot (slice_get list i)
    (λ v holds. none-clear list (first_slot (top_of_page level index)) (end_slot (top_of_page level index)) none i v low high holds))

silent_slot : (text : ℕ → ℤ → List ℕ) (i : ℕ) (x : Option ℤ) → ((value : ℤ) → text i value ≡ []) → said_of text i x ≡ []
silent_slot text i None silent = refl
silent_slot text i (Some v) silent = silent v

pub said_silent : (text : ℕ → ℤ → List ℕ) (list : List (Option ℤ)) (first end : ℕ)
    → ((slot : ℕ) (value : ℤ) → first ≤ slot → slot < end → text slot value ≡ []) → (i : ℕ) → first ≤ i → i < end → said text list i ≡ []
said_silent text list first end silent i low high = silent_slot text i (slot_at list i) (λ value. silent i value low high)

-- of the first slots all is said, and of the others nothing
pub is_said : (slots : ℕ) (text : ℕ → ℤ → List ℕ) (slot : ℕ) (value : ℤ) → slot < slots → first_said slots text slot value ≡ text slot value
is_said slots text slot value within = let here : ltb slot slots ≡ true = grind (arith, nat_tests) in rw here refl

pub slot_said : (slots : ℕ) (text : ℕ → ℤ → List ℕ) (slot : ℕ) (x : Option ℤ) → slot < slots
    → said_of (first_said slots text) slot x ≡ said_of text slot x
slot_said slots text slot None within = refl
slot_said slots text slot (Some v) within = is_said slots text slot v within

-- a list of so many slots has no others
pub texts_same : (slots : ℕ) (text : ℕ → ℤ → List ℕ) (list : List (Option ℤ)) → length list ≤ slots
    → texts_of (first_said slots text) list ≡ texts_of text list
texts_same slots text list few = join_alike (said (first_said slots text) list) (said text list) (length list)
    (λ i within. slot_said slots text i (slot_at list i) (omega (arith, few, within)))

-- a range of a slot
slot_range : (index slots : ℕ) → index * 2 ^ 0 < slots → index < slots
slot_range index slots within = omega (arith, within)

pub slot_there : (level index slots : ℕ) → level ≡ 0 → first_slot (top_of_page level index) < slots → index < slots
slot_there level index slots is within =
    let P : ℕ → Type 0 = λ l. first_slot (top_of_page l index) < slots in
    slot_range index slots (subst P is within)

in_order : (index p : ℕ) → index * p ≤ (index + 1) * p
in_order index p = omega arith

pub part_order : (level index : ℕ) → first_slot (top_of_page level index) ≤ end_slot (top_of_page level index)
part_order level index = in_order index (2 ^ (7 * level))

-- a slot with a span holds its least value
slot_value : (x : Option ℤ) (s : Span) → Some s ≡ span_of_slot x → x ≡ Some s.min
slot_value None s is = absurd (cc)
slot_value (Some v) s is = ap (λ (o : Option Span). least o) (sym is)
  where
    least : Option Span → Option ℤ
    least None = None
    least (Some s) = Some s.min

value_part : (text : ℕ → ℤ → List ℕ) (list : List (Option ℤ)) (pages index : ℕ) (s : Span) (old new : View) (w w' : List ℕ)
    (r : Result (Unit {0}) SendError) → Some s ≡ span list (top_of_page 0 index) → new.reads ≡ old.reads
    → ((t : List ℕ) (before : Option (List ℕ)) → IsGiven t before old.beside.sent w
    → GivesBy r (t ++ text index s.min) before new.beside.sent w')
    → SendsPart (said text list) (first_slot (top_of_page 0 index)) (end_slot (top_of_page 0 index)) pages old new w w' r
value_part text list pages index s old new w w' r there reads gives =
    let holds : slot_at list index ≡ Some s.min = slot_value (slot_at list index) s (there ∙ slot_key_span list index) in
    let begin : index * 2 ^ 0 ≡ index = omega arith in
    let end : (index + 1) * 2 ^ 0 ≡ suc index = omega arith in
    let f = said text list in
    record {
      reads = omega (arith, reads);
      gives = λ front before given.
          let start = given_as (front ++ join_below f (index * 2 ^ 0))
          (front ++ join_below f index) w before old.beside.sent old.beside.sent (ap (λ n. front ++ join_below f n) begin) refl given in
          by_as r (front ++ join_below f index ++ text index s.min) (front ++ join_below f ((index + 1) * 2 ^ 0)) w' before new.beside.sent
          (append_assoc front (join_below f index) (text index s.min)
          ∙ ap (λ l. front ++ l) (ap (λ l. join_below f index ++ l) (ap (λ x. said_of text index x) (sym holds))
          ∙ sym (join_suc f index) ∙ ap (λ n. join_below f n) (sym end)))
          (gives (front ++ join_below f index) before start);
    }

pub part_value : (text : ℕ → ℤ → List ℕ) (list : List (Option ℤ)) (pages level index : ℕ) (s : Span) (old new : View) (w w' : List ℕ)
    (r : Result (Unit {0}) SendError) → level ≡ 0 → Some s ≡ span list (top_of_page level index) → new.reads ≡ old.reads
    → ((t : List ℕ) (before : Option (List ℕ)) → IsGiven t before old.beside.sent w
    → GivesBy r (t ++ text index s.min) before new.beside.sent w')
    → SendsPart (said text list) (first_slot (top_of_page level index)) (end_slot (top_of_page level index)) pages old new w w' r
part_value text list pages level index s old new w w' r is there reads gives =
    let P : ℕ → Type 0 = λ l. SendsPart (said text list) (first_slot (top_of_page l index))
    (end_slot (top_of_page l index)) pages old new w w' r in
    let S : ℕ → Type 0 = λ l. Some s ≡ span list (top_of_page l index) in
    subst P (sym is) (value_part text list pages index s old new w w' r (subst S is there) reads gives)

-- why the text of a value wasn't sent is why the values below weren't
pub value_cause : (e : SendError) (told : Type 0) (old new : View) (total level page : ℕ) (top : Option Span) → IsTextCause e old new
    → IsSendCause e told old new total level page top
value_cause SendFault told old new total level page top cause = cause
value_cause DiskFault told old new total level page top cause = absurd cause
value_cause (Damaged at) told old new total level page top cause = absurd cause
value_cause NoMemory told old new total level page top cause = tt

pub no_damage : (e : SendError) (old new : View) → IsTextCause e old new → IsNoDamage e
no_damage SendFault old new cause = tt
no_damage DiskFault old new cause = tt
no_damage (Damaged at) old new cause = absurd cause
no_damage NoMemory old new cause = tt

pub no_damage_by : (r : Result (Unit {0}) SendError) (old new : View) → IfErr r (λ e. IsTextCause e old new) → IfErr r IsNoDamage
no_damage_by (Ok done) old new cause = tt
no_damage_by (Err e) old new cause = no_damage e old new cause

pub value_cause_by : (r : Result (Unit {0}) SendError) (told : Type 0) (old new : View) (total level page : ℕ) (top : Option Span)
    → IfErr r (λ e. IsTextCause e old new) → IfErr r (λ e. IsSendCause e told old new total level page top)
value_cause_by (Ok done) told old new total level page top cause = tt
value_cause_by (Err e) told old new total level page top cause = value_cause e told old new total level page top cause

-- the same behind a call at which no send failed
pub text_cause_then : (r : Result (Unit {0}) SendError) (told : Type 0) (old mid new : View) (total level page : ℕ) (top : Option Span)
    → mid.beside.send_faults ≡ old.beside.send_faults → IfErr r (λ e. IsTextCause e mid new)
    → IfErr r (λ e. IsSendCause e told old new total level page top)
text_cause_then (Ok done) told old mid new total level page top quiet cause = tt
text_cause_then (Err SendFault) told old mid new total level page top quiet cause = risen_on old.beside.send_faults mid.beside.send_faults
    new.beside.send_faults quiet cause
text_cause_then (Err DiskFault) told old mid new total level page top quiet cause = absurd cause
text_cause_then (Err (Damaged at)) told old mid new total level page top quiet cause = absurd cause
text_cause_then (Err NoMemory) told old mid new total level page top quiet cause = tt

-- the same where the stream tells what was sent
pub given_part_on : (text waiting piece : List ℕ) (before mid mid' now now' : Option (List ℕ)) → piece ≡ waiting → mid ≡ mid' → now ≡ now'
    → IsGiven text before mid waiting → PartSent piece mid' now' → (rest : List ℕ) × IsGiven text before now rest
given_part_on text waiting piece before mid mid' now now' all same same' given part =
    let L : List ℕ → Type 0 = λ l. PartSent l mid now in
    let P : Option (List ℕ) → Type 0 = λ o. PartSent piece o now in
    let Q : Option (List ℕ) → Type 0 = λ o. PartSent piece mid' o in
    given_part text waiting before mid now given (subst L all (subst P (sym same) (subst Q (sym same') part)))

pub given_whole_on : (text waiting piece waits : List ℕ) (before mid mid' now now' : Option (List ℕ)) → piece ≡ waiting → mid ≡ mid'
    → now ≡ now' → IsGiven text before mid waiting → now' ≡ sent_after piece mid' → waits ≡ [] → IsGiven text before now waits
given_whole_on text waiting piece waits before mid mid' now now' all same same' given sent none =
    given_whole text waiting waits before mid now given (same' ∙ sent ∙ ap (λ l. sent_after l mid') all
    ∙ ap (λ o. sent_after waiting o) (sym same)) none

-- for want of memory the text isn't given, and what was sent is a front of both
pub given_lost : (r : Result (Unit {0}) SendError) (text more waiting waits : List ℕ) (before now : Option (List ℕ))
    → IsErrAnd r (λ e. e ≡ NoMemory) → IsGiven text before now waiting → GivesBy r (text ++ more) before now waits
given_lost (Ok done) text more waiting waits before now is given = absurd is
given_lost (Err e) text more waiting waits before now is given =
    let P : SendError → Type 0 = λ x. GivesBy (Err x) (text ++ more) before now waits in
    subst P (sym is) (waiting ++ more, tt, given_front text more waiting before now given)

-- calls that read pages and send bytes, one after the other
pub sends_none : (told : Type 0) (at under : View) (s : Superblock) → Sends told told at at under under s s
sends_none told at under s = record {
  time = passes_none at (Now at) (Between at at);
  told = λ t. t;
  was_told = λ t. t;
  image = λ t. refl;
  size = refl;
  fit = λ f. f;
  faults = omega arith;
  reads = omega arith;
  syncs = refl;
  writes = refl;
  left = refl;
  read_faults = refl;
  send_faults = omega arith;
  pieces = refl;
  superblock = refl;
  goes_on = goes_none under;
}

-- no byte is sent while pages are read
quiet_now : (old new : View) (images : Image → Type 0) → Passes old new images (Quiet old) → sent_now new ≡ sent_now old
quiet_now old new images passes = elim (cases_lt old.clock new.clock) [
  | inl moved ↦ passes.sent_here new.clock moved (omega arith)
  | inr stood ↦
      let same : new.clock ≡ old.clock = omega (arith, stood, passes.later) in
      passes.sent_past new.clock stood ∙ ap (λ time. old.sent_by time) same
]

pub sends_looks : (told told' : Type 0) (old new under under' : View) (s s' : Superblock) → Looks told told' old new under under' s s'
    → Sends told told' old new under under' s s'
sends_looks told told' old new under under' s s' looks =
    let kept = looks.kept in
    let same = quiet_now old new (Now old) kept.time in
    record {
      time = passes_weaker old new (Now old) (Now old) (Quiet old) (Between old new) (λ image left. left)
          (λ count quiet. (omega (arith, quiet), omega (arith, quiet, same))) kept.time;
      told = kept.told;
      was_told = kept.was_told;
      image = kept.image;
      size = kept.size;
      fit = kept.fit;
      faults = kept.faults;
      reads = kept.reads;
      syncs = kept.syncs;
      writes = kept.writes;
      left = ap (λ (b : Beside). b.left) kept.beside;
      read_faults = ap (λ (b : Beside). b.read_faults) kept.beside;
      send_faults = omega (arith, ap (λ (b : Beside). b.send_faults) kept.beside);
      pieces = ap (λ (b : Beside). b.pieces) kept.beside;
      superblock = looks.over.superblock;
      goes_on = looks.over.goes_on;
    }

pub sends_then : (told told' told'' : Type 0) (old mid new under under' under'' : View) (s s' s'' : Superblock)
    → Sends told told' old mid under under' s s' → Sends told' told'' mid new under' under'' s' s''
    → Sends told told'' old new under under'' s s''
sends_then told told' told'' old mid new under under' under'' s s' s'' first second = record {
  time = sends_then_sends old mid new first.time second.time;
  told = λ t. second.told (first.told t);
  was_told = λ t. first.was_told (second.was_told t);
  image = λ t. second.image (first.told t) ∙ first.image t;
  size = second.size ∙ first.size;
  fit = λ f. second.fit (first.fit f);
  faults = omega (arith, first.faults, second.faults);
  reads = omega (arith, first.reads, second.reads);
  syncs = second.syncs ∙ first.syncs;
  writes = second.writes ∙ first.writes;
  left = second.left ∙ first.left;
  read_faults = second.read_faults ∙ first.read_faults;
  send_faults = omega (arith, first.send_faults, second.send_faults);
  pieces = second.pieces ∙ first.pieces;
  superblock = second.superblock ∙ first.superblock;
  goes_on = goes_then under under' under'' first.goes_on second.goes_on;
}

-- why a page wasn't read is why the values below it weren't sent
pub page_send_cause : (e : StoreError) (told : Type 0) (old new : View) (total level below page : ℕ) (top : Option Span) → level ≡ suc below
    → page ≢ 0 → page < total → IsPageCause e told old new total level page top
    → IsSendCause (send_error_of e) told old new total level page top
page_send_cause (store.Refused refusal) told old new total level below page top is some low bad = tt
page_send_cause store.NotAStore told old new total level below page top is some low bad = tt
page_send_cause store.DiskFault told old new total level below page top is some low bad = bad
page_send_cause (store.Damaged at) told old new total level below page top is some low bad = (
  omega (arith, bad.0, low),
  λ t.
      let P : ℕ → Type 0 = λ l. HasUnfitPage old.image total l page top at in
      let B : ℕ → Type 0 = λ l. IsBadFor total l top (old.image page) in
      subst P (sym is) (inl (some, bad.0, subst B is (bad.1 t))),
)
page_send_cause store.NoMemory told old new total level below page top is some low bad = tt

-- and so is one that is unfit below a child
unfit_child : (old mid : Image) (total total' level below page number child at : ℕ) (top part : Option Span) (bytes : List ℕ) (spans : ℕ
    → Option Span) → mid ≡ old → total' ≡ total → level ≡ suc below → page ≢ 0 → child < 128
    → number ≡ child_at bytes child → part ≡ spans (127 + child) → bytes ≡ old page → AreBelow top bytes spans
    → HasUnfitPage mid total' below number part at → HasUnfitPage old total level page top at
unfit_child old mid total total' level below page number child at top part bytes spans same same_total is some within is_child is_part read
    split bad =
    let P : ℕ → Type 0 = λ l. HasUnfitPage old total l page top at in
    let I : Image → Type 0 = λ image. HasUnfitPage image total' below number part at in
    let T : ℕ → Type 0 = λ n. HasUnfitPage old n below number part at in
    let N : ℕ → Type 0 = λ n. HasUnfitPage old total below n part at in
    let S : Option Span → Type 0 = λ s. HasUnfitPage old total below (child_at bytes child) s at in
    let B : List ℕ → Type 0 = λ b. HasUnfitPage old total below (child_at b child) (spans (127 + child)) at in
    let A : List ℕ → Type 0 = λ b. AreBelow top b spans in
    subst P (sym is) (inr (
      some,
      spans,
      child,
      subst A read split,
      within,
      subst B read (subst S is_part (subst N is_child (subst T same_total (subst I same bad)))),
    ))

-- and so is why those below a child weren't
pub child_send_cause : (e : SendError) (told told' : Type 0) (old mid new under under' : View) (s s' : Superblock)
    (level below page number child : ℕ) (top part : Option Span) (bytes : List ℕ) (spans : ℕ → Option Span)
    → Sends told told' old mid under under' s s'
    → mid.faults ≡ old.faults → mid.beside.send_faults ≡ old.beside.send_faults → level ≡ suc below → page ≢ 0 → child < 128
    → number ≡ child_at bytes child → part ≡ spans (127 + child) → (told → bytes ≡ old.image page) → AreBelow top bytes spans
    → IsSendCause e told' mid new s'.total below number part → IsSendCause e told old new s.total level page top
child_send_cause SendFault told told' old mid new under under' s s' level below page number child top part bytes spans sends quiet
    quiet_sends is some within is_child is_part read split bad = risen_on old.beside.send_faults mid.beside.send_faults
    new.beside.send_faults quiet_sends bad
child_send_cause DiskFault told told' old mid new under under' s s' level below page number child top part bytes spans sends quiet
    quiet_sends is some within is_child is_part read split bad = risen_on old.faults mid.faults new.faults quiet bad
child_send_cause (Damaged at) told told' old mid new under under' s s' level below page number child top part bytes spans sends quiet
    quiet_sends is some within is_child is_part read split bad =
    let same : s'.total ≡ s.total = ap (λ (x : Superblock). x.total) sends.superblock in (
      omega (arith, bad.0, same),
      λ t. unfit_child old.image mid.image s.total s'.total level below page number child at top part bytes spans
          (sends.image t) same is some within is_child is_part (read t) split (bad.1 (sends.told t)),
    )
child_send_cause NoMemory told told' old mid new under under' s s' level below page number child top part bytes spans sends quiet
    quiet_sends is some within is_child is_part read split bad = tt

-- the ranges of a page's children follow one another
first_child : (q p w : ℕ) → w ≡ 128 * p → q * w ≡ (128 * q + 0) * p
first_child q p w e = omega (arith, ap (λ n. q * n) e)

last_child : (q p w : ℕ) → w ≡ 128 * p → (128 * q + 128) * p ≡ (q + 1) * w
last_child q p w e = omega (arith, ap (λ n. (q + 1) * n) e)

next_child : (q c p : ℕ) → (128 * q + c + 1) * p ≡ (128 * q + (c + 1)) * p
next_child q c p = omega arith

-- a page of which something may be said, and where a value is stored
pub said_here : (may : ℕ → ℕ → Bool) (slots : ℕ) (list : List (Option ℤ)) (level index : ℕ) (s : Span)
    → Some s ≡ span list (top_of_page level index) → may_be_said_in may slots level index ≡ true
    → is_said_in may slots list level index ≡ true
said_here may slots list level index s there is = ap (λ o. is_some o && may_be_said_in may slots level index) (sym there) ∙ is

-- the numbers of a part may be written otherwise
pub part_as : (f : ℕ → List ℕ) (first end pages first' end' more : ℕ) (old new : View) (w w' : List ℕ) (r : Result (Unit {0}) SendError)
    → first ≡ first' → end ≡ end' → pages ≡ more → SendsPart f first end pages old new w w' r → SendsPart f first' end' more old new w w' r
part_as f first end pages first' end' more old new w w' r same same_end same_pages part =
    let P : ℕ → Type 0 = λ n. SendsPart f n end' more old new w w' r in
    let Q : ℕ → Type 0 = λ n. SendsPart f first n more old new w w' r in
    let R : ℕ → Type 0 = λ n. SendsPart f first end n old new w w' r in
    subst P same (subst Q same_end (subst R same_pages part))

-- how many pages the first children have
abbrev pages_before : (List (Option ℤ) → ℕ → ℕ → Bool) → List (Option ℤ) → ℕ → ℕ → ℕ → ℕ
pages_before has list below index child = sum_below (λ c. count_where (has list) below (128 * index + c)) child

-- what is said below the children before this one is given
pub record IsSending (has : List (Option ℤ) → ℕ → ℕ
    → Bool) (told told' : Type 0) (old new under under' : View) (s s' : Superblock) (text : ℕ → ℤ
    → List ℕ) (level below index page : ℕ) (top : Option Span) (waiting waits : List ℕ) (child : ℕ) : Type 0 where
  pub sends : Sends told told' old new under under' s s'
  pub few : length waits < 16384
  pub part : (list : List (Option ℤ)) → told → AreSlots list → IsTreeWhereFit old.image s.total list level index page
      → top ≡ span list (top_of_page level index)
      → SendsPart (said text list) (first_slot (top_of_page level index)) (first_slot (top_of_page below (128 * index + child)))
      (1 + sum_below (λ c. count_where (has list) below (128 * index + c)) child) old new waiting waits (Ok tt)

pub send_start : (has : List (Option ℤ) → ℕ → ℕ → Bool) (told told' : Type 0) (old new under under' : View) (s s' : Superblock) (text : ℕ
    → ℤ → List ℕ) (level below index page : ℕ) (top : Option Span) (waiting : List ℕ) → level ≡ suc below
    → Looks told told' old new under under' s s' → new.reads ≤ old.reads + 1 → length waiting < 16384
    → IsSending has told told' old new under under' s s' text level below index page top waiting waiting 0
send_start has told told' old new under under' s s' text level below index page top waiting is looks read few = record {
  sends = sends_looks told told' old new under under' s s' looks;
  few = few;
  part = λ list t slots tree top_is.
      let at = first_slot (top_of_page level index) in
      let begin : at ≡ first_slot (top_of_page below (128 * index + 0)) = ap (λ l. index * 2 ^ (7 * l)) is
      ∙ first_child index (2 ^ (7 * below)) (2 ^ (7 * suc below)) (width below) in
      part_as (said text list) at at 1 at (first_slot (top_of_page below (128 * index + 0)))
      (1 + pages_before has list below index 0) old new waiting waiting (Ok tt) refl begin
      (omega (arith, sum_none (λ c. count_where (has list) below (128 * index + c))))
      (part_read (said text list) at old new waiting looks.kept.beside read);
}

-- what the last child gives
child_part : (has : List (Option ℤ) → ℕ → ℕ → Bool) (told told' : Type 0) (old mid new under under' : View) (s s' : Superblock) (text : ℕ
    → ℤ → List ℕ) (level below index page number child : ℕ) (top part : Option Span) (bytes : List ℕ) (spans : ℕ
    → Option Span) (waiting waits later : List ℕ) (r : Result (Unit {0}) SendError) (list : List (Option ℤ))
    → IsSending has told told' old mid under under' s s' text level below index page top waiting waits child → level ≡ suc below → page ≢ 0
    → child < 128 → number ≡ child_at bytes child → part ≡ spans (127 + child) → (told → bytes ≡ old.image page)
    → (told → IsFitPage s.total level top (old.image page))
    → AreTops list below index (λ c. spans (127 + c)) → told → AreSlots list → IsTreeWhereFit old.image s.total list level index page
    → top ≡ span list (top_of_page level index)
    → ((list : List (Option ℤ)) → told' → AreSlots list → IsTreeWhereFit mid.image s'.total list below (128 * index + child) number
    → part ≡ span list (top_of_page below (128 * index + child))
    → SendsPart (said text list) (first_slot (top_of_page below (128 * index + child)))
    (end_slot (top_of_page below (128 * index + child))) (count_where (has list) below (128 * index + child)) mid new waits later r)
    → SendsPart (said text list) (first_slot (top_of_page level index)) (end_slot (top_of_page below (128 * index + child)))
    ((1 + pages_before has list below index child) + count_where (has list) below (128 * index + child)) old new waiting later r
child_part has told told' old mid new under under' s s' text level below index page number child top part bytes spans waiting waits later r
    list way is some within is_child is_part read fit tops t slots tree top_is more =
    let stands = child_fits old.image mid.image s.total s'.total list level below index page number child top part bytes spans
    (way.sends.image t) (ap (λ (x : Superblock). x.total) way.sends.superblock) is some within is_child is_part (read t)
    (fit t) tops top_is tree in
    part_then (said text list) (first_slot (top_of_page level index)) (first_slot (top_of_page below (128 * index + child)))
    (end_slot (top_of_page below (128 * index + child))) (1 + pages_before has list below index child)
    (count_where (has list) below (128 * index + child)) old mid new waiting waits later r
    (way.part list t slots tree top_is) (more list (way.sends.told t) slots stands.tree stands.top_is)

pub send_on : (has : List (Option ℤ) → ℕ → ℕ → Bool) (told told' told'' : Type 0) (old mid new under under' under'' : View)
    (s s' s'' : Superblock) (text : ℕ → ℤ → List ℕ) (level below index page number child : ℕ) (top part : Option Span) (bytes : List ℕ)
    (spans : ℕ → Option Span) (waiting waits later : List ℕ)
    → IsSending has told told' old mid under under' s s' text level below index page top waiting waits child → level ≡ suc below → page ≢ 0
    → child < 128 → number ≡ child_at bytes child → part ≡ spans (127 + child) → (told → bytes ≡ old.image page)
    → (told → IsFitPage s.total level top (old.image page))
    → ((list : List (Option ℤ)) → told → AreSlots list → IsTreeWhereFit old.image s.total list level index page
    → top ≡ span list (top_of_page level index) → AreTops list below index (λ c. spans (127 + c)))
    → Sends told' told'' mid new under' under'' s' s'' → length later < 16384
    → ((list : List (Option ℤ)) → told' → AreSlots list → IsTreeWhereFit mid.image s'.total list below (128 * index + child) number
    → part ≡ span list (top_of_page below (128 * index + child))
    → SendsPart (said text list) (first_slot (top_of_page below (128 * index + child)))
    (end_slot (top_of_page below (128 * index + child))) (count_where (has list) below (128 * index + child)) mid new waits later
    (Ok tt))
    → IsSending has told told'' old new under under'' s s'' text level below index page top waiting later (child + 1)
send_on has told told' told'' old mid new under under' under'' s s' s'' text level below index page number child top part bytes spans
    waiting waits later way is some within is_child is_part read fit tops sends few more = record {
      sends = sends_then told told' told'' old mid new under under' under'' s s' s'' way.sends sends;
      few = few;
      part = λ list t slots tree top_is.
          let next : suc child ≡ child + 1 = omega arith in
          let pages : (1 + pages_before has list below index child) + count_where (has list) below
          (128 * index + child) ≡ 1 + pages_before has list below index (child + 1) = omega (
            arith,
            sum_suc (λ c. count_where (has list) below (128 * index + c)) child,
            ap (λ n. pages_before has list below index n) next,
          ) in
          part_as (said text list) (first_slot (top_of_page level index)) (end_slot (top_of_page below (128 * index + child)))
          ((1 + pages_before has list below index child) + count_where (has list) below (128 * index + child))
          (first_slot (top_of_page level index)) (first_slot (top_of_page below (128 * index + (child + 1))))
          (1 + pages_before has list below index (child + 1)) old new waiting later (Ok tt)
          refl (next_child index child (2 ^ (7 * below))) pages
          (child_part has told told' old mid new under under' s s' text level below index page number child top part bytes spans waiting
          waits
          later (Ok tt) list way is some within is_child is_part read fit (tops list t slots tree top_is) t slots tree top_is more);
    }

-- a page has at least the pages of its children
counted : (has : List (Option ℤ) → ℕ → ℕ → Bool) (list : List (Option ℤ)) (level below index : ℕ) → level ≡ suc below
    → has list level index ≡ true → count_where (has list) level index ≡ suc (pages_before has list below index 128)
counted has list level below index is there =
    let P : ℕ → Type 0 = λ l. count_where (has list) l index ≡ suc (pages_before has list below index 128) in
    let S : ℕ → Type 0 = λ l. has list l index ≡ true in
    subst P (sym is) (count_one (has list) below index (subst S is there))

ends_within : (level below index child : ℕ) → level ≡ suc below → child < 128
    → end_slot (top_of_page below (128 * index + child)) ≤ end_slot (top_of_page level index)
ends_within level below index child is within =
    let P : ℕ → Type 0 = λ l. end_slot (top_of_page below (128 * index + child)) ≤ end_slot (top_of_page l index) in
    subst P (sym is) (child_end below index child within)

pub child_range : (level below index child most : ℕ) → level ≡ suc below → child < 128 → end_slot (top_of_page level index) ≤ most
    → end_slot (top_of_page below (128 * index + child)) ≤ most
child_range level below index child most is within few = omega (arith, ends_within level below index child is within, few)

pub send_stops : (has : List (Option ℤ) → ℕ → ℕ → Bool) (told told' : Type 0) (old mid new under under' : View) (s s' : Superblock)
    (text : ℕ → ℤ → List ℕ) (level below index page number child : ℕ) (top part : Option Span) (bytes : List ℕ) (spans : ℕ
    → Option Span) (waiting waits later : List ℕ) (e : SendError) (list : List (Option ℤ))
    → IsSending has told told' old mid under under' s s' text level below index page top waiting waits child → level ≡ suc below → page ≢ 0
    → child < 128 → number ≡ child_at bytes child → part ≡ spans (127 + child) → (told → bytes ≡ old.image page)
    → (told → IsFitPage s.total level top (old.image page))
    → AreTops list below index (λ c. spans (127 + c)) → told → AreSlots list → IsTreeWhereFit old.image s.total list level index page
    → top ≡ span list (top_of_page level index) → has list level index ≡ true
    → ((list : List (Option ℤ)) → told' → AreSlots list → IsTreeWhereFit mid.image s'.total list below (128 * index + child) number
    → part ≡ span list (top_of_page below (128 * index + child))
    → SendsPart (said text list) (first_slot (top_of_page below (128 * index + child)))
    (end_slot (top_of_page below (128 * index + child))) (count_where (has list) below (128 * index + child)) mid new waits later
    (Err e))
    → SendsPart (said text list) (first_slot (top_of_page level index)) (end_slot (top_of_page level index))
    (count_where (has list) level index) old new waiting later (Err e)
send_stops has told told' old mid new under under' s s' text level below index page number child top part bytes spans waiting waits later e
    list way is some within is_child is_part read fit tops t slots tree top_is there more =
    part_stops (said text list) (first_slot (top_of_page level index)) (end_slot (top_of_page below (128 * index + child)))
    (end_slot (top_of_page level index)) ((1 + pages_before has list below index child) + count_where (has list) below
    (128 * index + child)) (count_where (has list) level index) old new waiting later e
    (ends_within level below index child is within)
    (omega (
      arith,
      sum_upto (λ c. count_where (has list) below (128 * index + c)) child 128 within,
      counted has list level below index is there,
    ))
    (child_part has told told' old mid new under under' s s' text level below index page number child top part bytes spans waiting waits
    later (Err e) list way is some within is_child is_part read fit tops t slots tree top_is more)

-- where the page wasn't read, or doesn't fit
pub send_none : (has : List (Option ℤ) → ℕ → ℕ → Bool) (f : ℕ
    → List ℕ) (list : List (Option ℤ)) (level below index : ℕ) (old new : View) (waiting : List ℕ) (e : SendError) → level ≡ suc below
    → has list level index ≡ true → new.beside ≡ old.beside → new.reads ≤ old.reads + 1
    → SendsPart f (first_slot (top_of_page level index)) (end_slot (top_of_page level index))
    (count_where (has list) level index) old new waiting waiting (Err e)
send_none has f list level below index old new waiting e is there same read =
    part_stops f (first_slot (top_of_page level index)) (first_slot (top_of_page level index)) (end_slot (top_of_page level index)) 1
    (count_where (has list) level index) old new waiting waiting e
    (part_order level index) (omega (arith, counted has list level below index is there))
    (part_fails f (first_slot (top_of_page level index)) old new waiting e same read)

-- where all children are done
pub send_end : (has : List (Option ℤ) → ℕ → ℕ → Bool) (told told' : Type 0) (old new under under' : View) (s s' : Superblock) (text : ℕ → ℤ
    → List ℕ) (level below index page child : ℕ) (top : Option Span) (waiting waits : List ℕ) (list : List (Option ℤ))
    → IsSending has told told' old new under under' s s' text level below index page top waiting waits child → level ≡ suc below
    → child ≡ 128 → told → AreSlots list → IsTreeWhereFit old.image s.total list level index page
    → top ≡ span list (top_of_page level index) → has list level index ≡ true
    → SendsPart (said text list) (first_slot (top_of_page level index)) (end_slot (top_of_page level index))
    (count_where (has list) level index) old new waiting waits (Ok tt)
send_end has told told' old new under under' s s' text level below index page child top waiting waits list way is end t slots tree top_is
    there =
    let last : first_slot (top_of_page below (128 * index + child)) ≡ end_slot (top_of_page level index) =
    ap (λ c. (128 * index + c) * 2 ^ (7 * below)) end ∙ last_child index (2 ^ (7 * below)) (2 ^ (7 * suc below)) (width below)
    ∙ ap (λ l. (index + 1) * 2 ^ (7 * l)) (sym is) in
    let pages : 1 + pages_before has list below index child ≡ count_where (has list) level index = omega (
      arith,
      ap (λ c. pages_before has list below index c) end,
      counted has list level below index is there,
    ) in
    part_as (said text list) (first_slot (top_of_page level index)) (first_slot (top_of_page below (128 * index + child)))
    (1 + pages_before has list below index child) (first_slot (top_of_page level index)) (end_slot (top_of_page level index))
    (count_where (has list) level index) old new waiting waits (Ok tt)
    refl last pages (way.part list t slots tree top_is)

-- the same by what is handed on
pub stops_by : (has : List (Option ℤ) → ℕ → ℕ → Bool) (r : Result (Unit {0}) SendError) (e : SendError) (told told' : Type 0)
    (old mid new under under' : View) (s s' : Superblock) (text : ℕ → ℤ
    → List ℕ) (level below index page number child : ℕ) (top part : Option Span) (bytes : List ℕ) (spans : ℕ
    → Option Span) (waiting waits later : List ℕ) (list : List (Option ℤ))
    → IsErrAnd r (λ x. x ≡ e) → IsSending has told told' old mid under under' s s' text level below index page top waiting waits child
    → level ≡ suc below → page ≢ 0 → child < 128 → number ≡ child_at bytes child → part ≡ spans (127 + child)
    → (told → bytes ≡ old.image page) → (told → IsFitPage s.total level top (old.image page))
    → AreTops list below index (λ c. spans (127 + c)) → told → AreSlots list → IsTreeWhereFit old.image s.total list level index page
    → top ≡ span list (top_of_page level index) → has list level index ≡ true
    → ((list : List (Option ℤ)) → told' → AreSlots list → IsTreeWhereFit mid.image s'.total list below (128 * index + child) number
    → part ≡ span list (top_of_page below (128 * index + child))
    → SendsPart (said text list) (first_slot (top_of_page below (128 * index + child)))
    (end_slot (top_of_page below (128 * index + child))) (count_where (has list) below (128 * index + child)) mid new waits later
    (Err e))
    → SendsPart (said text list) (first_slot (top_of_page level index)) (end_slot (top_of_page level index))
    (count_where (has list) level index) old new waiting later r
stops_by has (Ok done) e told told' old mid new under under' s s' text level below index page number child top part bytes spans waiting
    waits later list is_error way is some within is_child is_part read fit tops t slots tree top_is there more = absurd is_error
stops_by has (Err x) e told told' old mid new under under' s s' text level below index page number child top part bytes spans waiting waits
    later list is_error way is some within is_child is_part read fit tops t slots tree top_is there more =
    let P : SendError → Type 0 = λ y. SendsPart (said text list) (first_slot (top_of_page level index)) (end_slot (top_of_page level index))
    (count_where (has list) level index) old new waiting later (Err y) in
    subst P (sym is_error) (send_stops has told told' old mid new under under' s s' text level below index page number child top part bytes
    spans waiting waits later e list way is some within is_child is_part read fit tops t slots tree top_is there more)

pub none_by : (has : List (Option ℤ) → ℕ → ℕ → Bool) (r : Result (Unit {0}) SendError) (e : SendError) (f : ℕ
    → List ℕ) (list : List (Option ℤ)) (level below index : ℕ) (old new : View) (waiting : List ℕ) → level ≡ suc below
    → has list level index ≡ true → new.beside ≡ old.beside → new.reads ≤ old.reads + 1
    → IsErrAnd r (λ x. x ≡ e) → SendsPart f (first_slot (top_of_page level index)) (end_slot (top_of_page level index))
    (count_where (has list) level index) old new waiting waiting r
none_by has (Ok done) e f list level below index old new waiting is there same read is_error = absurd is_error
none_by has (Err x) e f list level below index old new waiting is there same read is_error =
    let P : SendError → Type 0 = λ y. SendsPart f (first_slot (top_of_page level index)) (end_slot (top_of_page level index))
    (count_where (has list) level index) old new waiting waiting (Err y) in
    subst P (sym is_error) (send_none has f list level below index old new waiting e is there same read)

-- where a page wasn't read by a fault of the disk, none was damaged
pub fault_only : (e : SendError) (error : StoreError) → e ≡ send_error_of error → error ≡ store.DiskFault → IsNoDamage e
fault_only e error is fault =
    let P : StoreError → Type 0 = λ x. IsNoDamage (send_error_of x) in
    subst IsNoDamage (sym is) (subst P (sym fault) tt)

-- an error that is handed on is the result
pub error_is : (r : Result (Unit {0}) SendError) (e : SendError) → IsErrAnd r (λ x. x ≡ e) → r ≡ Err e
error_is (Ok done) e is = absurd is
error_is (Err x) e is = ap (λ (y : SendError). Err y) is
