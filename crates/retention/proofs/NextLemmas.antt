-- The next clear of a rule, as it is found.
use Rattle.std.proofs.Common.{◌≡◌, ℕ, ℤ, suc, ◌+◌, ◌-◌, ◌*◌, ◌/◌, ◌<◌, ◌≤◌, min, Bool, true, false, cond, ltb, List, [], length, Option}
use Rattle.std.proofs.Common.{None, Some, Result, Ok, Err, IfOk, refl, sym, ap, subst, ◌∙◌, arith}
use Rattle.std.specs.Prelude.{nat_le}
use Rattle.std.specs.Option.{is_some}
use Rattle.std.specs.List.{slice_get, position, position_or_len}
use Rattle.std.specs.Str.{bytes_eq}
use Rattle.std.proofs.lemmas.Bool.Decides.{nat_tests}
use Rattle.std.proofs.lemmas.Option.{same_Some}
use Rattle.om3_coeff.specs.Walks.{IsFirstStored}
use Rattle.series_book.specs.declared.edits.Edit.{Edit}
use Rattle.series_book.specs.declared.one_series.Series.{Series}
use Rattle.series_book.specs.Axes.{IsAxisOf}
use Rattle.series_book.specs.Books.{IsBook}
use Rattle.series_book.specs.Edits.{id_of}
use Rattle.series_book.specs.Pages.{pages_of}
use Rattle.retention.specs.declared.oldest.Oldest.{Oldest}
use Rattle.retention.specs.declared.rule.Rule.{Rule}
use Rattle.retention.specs.declared.rule.Rule.TheVariants.{Before, Last, Free}
use Rattle.retention.specs.declared.sweep_error.SweepError.{SweepError}
use Rattle.retention.specs.Steps.{IsNext}
use Rattle.retention.specs.Sweeping.{AreKept, IsFirstClear, IsFirstOrNone, IsKept, IsNextOrNone}
use Rattle.retention.specs.Sweeps.{Found, Names, clear_of, clear_page, found_at, found_in, named, old_slots, older, oldest, oldest_among}
use Rattle.retention.specs.Sweeps.{range_end, range_first, slots_before, sweeps, at_id}
use Rattle.retention.proofs.FreeLemmas.{free_next}
use Rattle.retention.proofs.LawLemmas.{old_before, old_last, unnamed}
use Rattle.retention.proofs.OldestLemmas.{first_place}
use Rattle.retention.proofs.SeriesLemmas.{before_next, first_clear, last_next, series_none}

some_id : (n m id : ℕ) → cond (ltb n m) (Some n) None ≡ Some id → id < m
some_id n m id is = by (ltb n m) refl is
  where
    by : (b : Bool) → ltb n m ≡ b → cond b (Some n) None ≡ Some id → id < m
    by true test given = let same : n ≡ id = same_Some n id given in grind (arith, nat_tests)
    by false test given = cc

pub id_within : (name : List ℕ) (book : List Series) (id : ℕ) → id_of name book ≡ Some id → id < length book
unfolding id_of
id_within name book id at = some_id (position_or_len (λ (one : Series). bytes_eq one.name name) book) (length book) id at

pub named_none : (total : ℕ) (book : List Series) (rule : Rule) (name : List ℕ) → Names rule name → id_of name book ≡ None
    → sweeps total book rule ≡ []
named_none total book (Before n time) name named_so none = unnamed book n (λ one. slots_before one time)
    (ap (λ (o : Option ℕ). at_id book o) (ap (λ m. id_of m book) named_so ∙ none))
named_none total book (Last n count) name named_so none = unnamed book n (λ one. length one.slots - count)
    (ap (λ (o : Option ℕ). at_id book o) (ap (λ m. id_of m book) named_so ∙ none))
named_none total book (Free pages) name named_so none = absurd named_so

first_next : (total : ℕ) (book : List Series) (rule : Rule) (name : List ℕ) (id : ℕ) (series : Series) (next : Option Edit) → IsBook book
    → Names rule name → id_of name book ≡ Some id → slice_get book id ≡ Some series
    → IsFirstOrNone name series (old_slots rule series) next → IsNextOrNone total book rule next
first_next total book (Before n time) name id series None is named_so at there clear =
    series_none book n (λ one. slots_before one time) id series (ap (λ m. id_of m book) named_so ∙ at) there clear
first_next total book (Before n time) name id series (Some clear) is named_so at there first =
    let P : Edit → Type 0 = λ x. IsNext total book (Before n time) x in
    subst P (ap (λ m. first_clear m series (slots_before series time) first.slot) named_so ∙ sym first.is)
    (before_next total book n time id series first.slot first.value
    (old_before book n time id series (first.slot, first.value) is (ap (λ m. id_of m book) named_so ∙ at) there first.found))
first_next total book (Last n count) name id series None is named_so at there clear =
    series_none book n (λ one. length one.slots - count) id series (ap (λ m. id_of m book) named_so ∙ at) there clear
first_next total book (Last n count) name id series (Some clear) is named_so at there first =
    let P : Edit → Type 0 = λ x. IsNext total book (Last n count) x in
    subst P (ap (λ m. first_clear m series (length series.slots - count) first.slot) named_so ∙ sym first.is)
    (last_next total book n count id series first.slot first.value
    (old_last book n count id series (first.slot, first.value) is (ap (λ m. id_of m book) named_so ∙ at) there first.found))
first_next total book (Free pages) name id series next is named_so at there first = absurd named_so

pub named_next : (total : ℕ) (book : List Series) (rule : Rule) (name : List ℕ) (id : ℕ) (series : Series)
    (r : Result (Option Edit) SweepError) → IsBook book → Names rule name → id_of name book ≡ Some id → slice_get book id ≡ Some series
    → IfOk r (IsFirstOrNone name series (old_slots rule series)) → IfOk r (IsNextOrNone total book rule)
named_next total book rule name id series (Ok next) is named_so at there first = first_next total book rule name id series next is named_so
    at there first
named_next total book rule name id series (Err e) is named_so at there first = tt

-- the first stored slot, as it was found
pub none_first : (slots : List (Option ℤ)) (n m : ℕ) (found : Option (ℕ × ℤ)) → n ≡ m → found ≡ None → IsFirstStored slots 0 n found
    → IsFirstStored slots 0 m None
none_first slots n m found same none first =
    let P : ℕ → Type 0 = λ k. IsFirstStored slots 0 k found in
    let Q : Option (ℕ × ℤ) → Type 0 = λ o. IsFirstStored slots 0 m o in
    subst Q none (subst P same first)

pub some_first : (slots : List (Option ℤ)) (n m : ℕ) (found : Option (ℕ × ℤ)) (p : ℕ × ℤ) → n ≡ m → found ≡ Some p
    → IsFirstStored slots 0 n found → IsFirstStored slots 0 m (Some p)
some_first slots n m found p same some first =
    let P : ℕ → Type 0 = λ k. IsFirstStored slots 0 k found in
    let Q : Option (ℕ × ℤ) → Type 0 = λ o. IsFirstStored slots 0 m o in
    subst Q some (subst P same first)

pub clear_is : (name : List ℕ) (series : Series) (old n slot : ℕ) (value : ℤ) (clear : Edit) → old ≡ n
    → IsFirstStored series.slots 0 n (Some (slot, value))
    → clear ≡ clear_of name series (range_first (slot / 4096)) (range_end old (slot / 4096)) → IsFirstClear name series n clear
clear_is name series old n slot value clear same found is =
    record {
      slot = slot;
      value = value;
      found = found;
      is = is ∙ ap (λ k. clear_of name series (range_first (slot / 4096)) (range_end k (slot / 4096))) same;
    }

pub kept_none : (id : ℕ) (series : Series) → IsFirstStored series.slots 0 (length series.slots) None
    → AreKept (found_in id series (position is_some series.slots)) None
kept_none id series clear =
    let P : Option ℕ → Type 0 = λ o. AreKept (found_in id series o) None in
    subst P (sym (first_place series.slots None clear)) refl

pub kept_some : (id : ℕ) (series : Series) (p : ℕ × ℤ) (kept : Oldest) → IsFirstStored series.slots 0 (length series.slots) (Some p)
    → kept.id ≡ id → IsAxisOf series kept.axis → kept.slot ≡ p.0 → AreKept (found_in id series (position is_some series.slots)) (Some kept)
kept_some id series p kept found same axis slot =
    let P : Option ℕ → Type 0 = λ o. AreKept (found_in id series o) (Some kept) in
    subst P (sym (first_place series.slots (Some p) found)) (record { id = same; axis = axis; slot = slot })

-- the oldest slot, as it was found
pub free_found : (total pages : ℕ) (book : List Series) (found : Found) (clear : Edit) → IsBook book
    → nat_le pages (total - pages_of book) ≡ false → oldest book ≡ Some found → clear ≡ clear_page found
    → IsNext total book (Free pages) clear
free_found total pages book found clear is few at same =
    let P : Edit → Type 0 = λ x. IsNext total book (Free pages) x in
    subst P (sym same) (free_next total pages book found is few at)

pub page_is : (it : Found) (name : List ℕ) (slot end long : ℕ) → name ≡ it.series.name → slot ≡ it.slot
    → end ≡ min (slot / 128 * 128 + 128) long → long ≡ length it.series.slots
    → clear_of name it.series (slot / 128 * 128) end ≡ clear_page it
page_is it name slot end long named slot_is end_is long_is =
    ap (λ n. clear_of n it.series (slot / 128 * 128) end) named
    ∙ ap (λ e. clear_of it.series.name it.series (slot / 128 * 128) e) (end_is ∙ ap (min (slot / 128 * 128 + 128)) long_is)
    ∙ ap (λ s. clear_of it.series.name it.series (s / 128 * 128) (min (s / 128 * 128 + 128) (length it.series.slots))) slot_is

pub kept_zero : (book : List Series) → AreKept (oldest_among book 0) None
unfolding oldest_among
kept_zero book = refl

among_more : (book : List Series) (id : ℕ) (series : Series) → slice_get book id ≡ Some series
    → oldest_among book (suc id) ≡ older (oldest_among book id) (found_at id (Some series))
unfolding oldest_among
among_more book id series at = ap (λ (o : Option Series). older (oldest_among book id) (found_at id o)) at

pub kept_more : (book : List Series) (id : ℕ) (series : Series) (kept : Option Oldest) → slice_get book id ≡ Some series
    → AreKept (older (oldest_among book id) (found_at id (Some series))) kept → AreKept (oldest_among book (id + 1)) kept
kept_more book id series kept at are =
    let P : Option Found → Type 0 = λ o. AreKept o kept in
    let next : suc id ≡ id + 1 = omega arith in
    subst P (sym (among_more book id series at) ∙ ap (oldest_among book) next) are

pub kept_all : (book : List Series) (id n : ℕ) (kept : Option Oldest) → id ≤ n → n ≤ id → n ≡ length book
    → AreKept (oldest_among book id) kept → AreKept (oldest book) kept
kept_all book id n kept low up count are =
    let P : ℕ → Type 0 = λ k. AreKept (oldest_among book k) kept in
    let all : id ≡ length book = omega (arith, low, up, count) in
    subst P all are

pub none_kept : (o : Option Found) (kept : Option Oldest) → kept ≡ None → AreKept o kept → o ≡ None
none_kept None kept is are = refl
none_kept (Some it) kept is are = let P : Option Oldest → Type 0 = λ k. AreKept (Some it) k in absurd (subst P is are)

pub some_kept : (o : Option Found) (kept : Option Oldest) (k : Oldest) → kept ≡ Some k → AreKept o kept
    → (it : Found) × (o ≡ Some it) × IsKept it k
some_kept None kept k is are = let both : None ≡ Some k = sym are ∙ is in cc
some_kept (Some it) kept k is are = let P : Option Oldest → Type 0 = λ x. AreKept (Some it) x in (it, refl, subst P is are)

pub le_true : (a b : ℕ) → a ≤ b → nat_le a b ≡ true
le_true a b low = grind (arith, nat_tests)

pub le_false : (a b : ℕ) → b < a → nat_le a b ≡ false
le_false a b low = grind (arith, nat_tests)

pub free_result : (total pages : ℕ) (book : List Series) (it : Found) (r : Result (Option Edit) SweepError) → IsBook book
    → nat_le pages (total - pages_of book) ≡ false → oldest book ≡ Some it → IfOk r (λ next. next ≡ Some (clear_page it))
    → IfOk r (IsNextOrNone total book (Free pages))
free_result total pages book it (Ok None) is few at same = cc
free_result total pages book it (Ok (Some clear)) is few at same = free_found total pages book it clear is few at
    (same_Some clear (clear_page it) same)
free_result total pages book it (Err e) is few at same = tt
