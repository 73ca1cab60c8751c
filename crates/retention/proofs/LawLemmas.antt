-- What the clears of a rule do to a book.
use Rattle.std.proofs.Common.{◌≡◌, ℕ, ℤ, zero, suc, ◌+◌, ◌-◌, ◌/◌, ◌<◌, ◌≤◌, ◌⊎◌, Bool, true, false, List, [], ◌∷◌, length, Option, None}
use Rattle.std.proofs.Common.{Some, Result, Ok, refl, sym, ap, subst, ◌∙◌, arith, inl, inr}
use Rattle.std.specs.Prelude.{nat_le, ◌<ℤ◌, IsOk}
use Rattle.std.specs.List.{slice_get}
use Rattle.std.proofs.lemmas.Bool.{cases_lt}
use Rattle.std.proofs.lemmas.Bool.Decides.{nat_tests}
use Rattle.std.proofs.lemmas.Option.{slice_get_within, same_Some}
use Rattle.om3_coeff.specs.Walks.{IsFirstStored}
use Rattle.series_book.specs.declared.one_series.Series.{Series}
use Rattle.series_book.specs.declared.edits.Edit.{Edit}
use Rattle.series_book.specs.declared.refusals.Refusal.{Refusal}
use Rattle.series_book.specs.Books.{IsBook}
use Rattle.series_book.specs.Edits.{Edited, apply, id_of}
use Rattle.series_book.specs.EditLists.{after_edits, book_behind}
use Rattle.series_book.specs.Pages.{pages_of}
use Rattle.series_book.proofs.BookLemmas.{IsSeries-there}
use Rattle.retention.specs.declared.rule.Rule.{Rule}
use Rattle.retention.specs.declared.rule.Rule.TheVariants.{Before, Last, Free}
use Rattle.retention.specs.Sweeps.{Found, at_id, clear_page, clears_if, clears_of, named, oldest, range_end, range_first, slot_time}
use Rattle.retention.specs.Sweeps.{slots_before, sweeps, values_of}
use Rattle.retention.specs.Drops.{AreAccepted, HoldsNothing, LosesIn, LosesSlots}
use Rattle.retention.specs.Steps.{IsNext}
use Rattle.retention.proofs.SlotLemmas.{cleared_is, first_stored}
use Rattle.retention.proofs.BookLemmas.{cleared_series, cleared_count, cleared_id, cleared_others, cleared_there}
use Rattle.retention.proofs.SeriesLemmas.{IsOldIn, before_next, before_stays, behind_clear, first_clear, last_next, named_is, range_lies}
use Rattle.retention.proofs.SeriesLemmas.{series_accepted, series_book, series_fewer, series_first, series_none}
use Rattle.retention.proofs.OldestLemmas.{oldest_none}
use Rattle.retention.proofs.FreeLemmas.{free_enough, free_next, free_none}
use Rattle.retention.proofs.TimeLemmas.{before_few, before_is, before_slot}

-- a rule makes no clear, or a first one
abbrev pub NoneOrNext : ℕ → List Series → Rule → Type 0
NoneOrNext total book rule = (sweeps total book rule ≡ []) ⊎ ((clear : Edit) × IsNext total book rule clear)

pub unnamed : (book : List Series) (name : List ℕ) (old : Series → ℕ) → named book name ≡ None → clears_if name (named book name) old ≡ []
unnamed book name old none = ap (λ (o : Option Series). clears_if name o old) none

pub old_before : (book : List Series) (name : List ℕ) (time : ℤ) (id : ℕ) (series : Series) (p : ℕ × ℤ) → IsBook book
    → id_of name book ≡ Some id → slice_get book id ≡ Some series → IsFirstStored series.slots 0 (slots_before series time) (Some p)
    → IsOldIn book name (λ one. slots_before one time) id series p.0 p.1
old_before book name time id series p is at there found = record {
  is_book = is;
  at = at;
  there = there;
  within = before_few series time;
  stays = before_stays series time;
  found = found;
}

pub old_last : (book : List Series) (name : List ℕ) (count : ℕ) (id : ℕ) (series : Series) (p : ℕ × ℤ) → IsBook book
    → id_of name book ≡ Some id → slice_get book id ≡ Some series → IsFirstStored series.slots 0 (length series.slots - count) (Some p)
    → IsOldIn book name (λ one. length one.slots - count) id series p.0 p.1
old_last book name count id series p is at there found = record {
  is_book = is;
  at = at;
  there = there;
  within = omega arith;
  stays = λ after start step long. ap (λ n. n - count) long;
  found = found;
}

-- the series of a name
found_series : (book : List Series) (name : List ℕ) (IsSo : Type 0) → (named book name ≡ None → IsSo)
    → ((id : ℕ) (series : Series) → id_of name book ≡ Some id → slice_get book id ≡ Some series → IsSo) → IsSo
found_series book name IsSo none some = by_id (id_of name book) refl
  where
    by_series : (id : ℕ) (o : Option Series) → id_of name book ≡ Some id → slice_get book id ≡ o → IsSo
    by_series id None at there = none (ap (λ (o : Option ℕ). at_id book o) at ∙ there)
    by_series id (Some series) at there = some id series at there

    by_id : (o : Option ℕ) → id_of name book ≡ o → IsSo
    by_id None at = none (ap (λ (o : Option ℕ). at_id book o) at)
    by_id (Some id) at = by_series id (slice_get book id) at refl

before_or_none : (total : ℕ) (book : List Series) (name : List ℕ) (time : ℤ) (id : ℕ) (series : Series) (o : Option (ℕ × ℤ)) → IsBook book
    → id_of name book ≡ Some id → slice_get book id ≡ Some series → IsFirstStored series.slots 0 (slots_before series time) o
    → NoneOrNext total book (Before name time)
before_or_none total book name time id series None is at there clear = inl
    (series_none book name (λ one. slots_before one time) id series at there clear)
before_or_none total book name time id series (Some p) is at there found =
    inr (
      first_clear name series (slots_before series time) p.0,
      before_next total book name time id series p.0 p.1 (old_before book name time id series p is at there found),
    )

last_or_none : (total : ℕ) (book : List Series) (name : List ℕ) (count id : ℕ) (series : Series) (o : Option (ℕ × ℤ)) → IsBook book
    → id_of name book ≡ Some id → slice_get book id ≡ Some series → IsFirstStored series.slots 0 (length series.slots - count) o
    → NoneOrNext total book (Last name count)
last_or_none total book name count id series None is at there clear = inl
    (series_none book name (λ one. length one.slots - count) id series at there clear)
last_or_none total book name count id series (Some p) is at there found =
    inr (
      first_clear name series (length series.slots - count) p.0,
      last_next total book name count id series p.0 p.1 (old_last book name count id series p is at there found),
    )

free_or_none : (total pages : ℕ) (book : List Series) → IsBook book → NoneOrNext total book (Free pages)
free_or_none total pages book is = by (nat_le pages (total - pages_of book)) refl
  where
    one : (o : Option Found) → nat_le pages (total - pages_of book) ≡ false → oldest book ≡ o → NoneOrNext total book (Free pages)
    one None few at = inl (free_none total pages book at)
    one (Some found) few at = inr (clear_page found, free_next total pages book found is few at)

    by : (b : Bool) → nat_le pages (total - pages_of book) ≡ b → NoneOrNext total book (Free pages)
    by true enough = inl (free_enough total pages book enough)
    by false few = one (oldest book) few refl

pub none_or_next : (total : ℕ) (book : List Series) (rule : Rule) → IsBook book → NoneOrNext total book rule
none_or_next total book (Before name time) is =
    found_series book name (NoneOrNext total book (Before name time)) (λ none. inl (unnamed book name (λ one. slots_before one time) none))
    (λ id series at there. let first = first_stored series.slots (slots_before series time) (before_few series time) in
    before_or_none total book name time id series first.0 is at there first.1)
none_or_next total book (Last name count) is =
    found_series book name (NoneOrNext total book (Last name count))
    (λ none. inl (unnamed book name (λ one. length one.slots - count) none))
    (λ id series at there. let first = first_stored series.slots (length series.slots - count) (omega arith) in
    last_or_none total book name count id series first.0 is at there first.1)
none_or_next total book (Free pages) is = free_or_none total pages book is

-- the book behind a first clear
pub behind_first : (total : ℕ) (book : List Series) (rule : Rule) (clear : Edit) (next : IsNext total book rule clear)
    → book_behind book (apply book total clear) ≡ next.after
behind_first total book rule clear next = ap (λ (r : Result Edited Refusal). book_behind book r) next.accepted

pub after_first : (total : ℕ) (book : List Series) (rule : Rule) (clear : Edit) (next : IsNext total book rule clear)
    → after_edits total book (sweeps total book rule) ≡ after_edits total next.after (sweeps total next.after rule)
after_first total book rule clear next =
    ap (after_edits total book) next.first ∙ ap (λ (b : List Series). after_edits total b (sweeps total next.after rule))
    (behind_first total book rule clear next)

-- What is so of a book without clears, and of one where it is so behind the first, is so of all.
pub by_clears : (P : List Series → Type 0) (total : ℕ) (rule : Rule)
    → ((book : List Series) → IsBook book → sweeps total book rule ≡ [] → P book)
    → ((book : List Series) (clear : Edit) → IsBook book → (next : IsNext total book rule clear) → P next.after → P book)
    → (n : ℕ) (book : List Series) → IsBook book → values_of book ≤ n → P book
by_clears P total rule at_none at_first zero book is few = elim (none_or_next total book rule is) [
  | inl none ↦ at_none book is none
  | inr first ↦ absurd (omega (arith, few, first.1.fewer))
]
by_clears P total rule at_none at_first (suc n) book is few = elim (none_or_next total book rule is) [
  | inl none ↦ at_none book is none
  | inr first ↦ at_first book first.0 is first.1 (by_clears P total rule at_none at_first n first.1.after first.1.is_book
      (omega (arith, few, first.1.fewer)))
]

-- each clear is accepted
ok_is : {T E : Type 0} (r : Result T E) (v : T) → r ≡ Ok v → IsOk r
ok_is {T} {E} r v is = let P : Result T E → Type 0 = λ x. IsOk x in subst P (sym is) refl

pub all_accepted : (total : ℕ) (book : List Series) (rule : Rule) → IsBook book → AreAccepted total book (sweeps total book rule)
all_accepted total book rule is =
    by_clears (λ b. AreAccepted total b (sweeps total b rule)) total rule (λ b is none. let P : List Edit → Type 0 = AreAccepted total b in
    subst P (sym none) tt)
    (λ b clear is next later.
    let P : List Edit → Type 0 = AreAccepted total b in
    let Q : List Series → Type 0 = λ x. AreAccepted total x (sweeps total next.after rule) in
    subst P (sym next.first) (ok_is (apply b total clear) _ next.accepted, subst Q (sym (behind_first total b rule clear next)) later))
    (values_of book) book is (omega arith)

-- a book stays a book
pub after_is_book : (total : ℕ) (book : List Series) (rule : Rule) → IsBook book → IsBook (after_edits total book (sweeps total book rule))
after_is_book total book rule is =
    by_clears (λ b. IsBook (after_edits total b (sweeps total b rule))) total rule
    (λ b is none. subst IsBook (sym (ap (after_edits total b) none)) is)
    (λ b clear is next later. subst IsBook (sym (after_first total b rule clear next)) later) (values_of book) book is (omega arith)

-- enough pages are free, or nothing is stored
abbrev FreeOrEmpty : ℕ → ℕ → List Series → Type 0
FreeOrEmpty total pages book = (pages ≤ total - pages_of book) ⊎ HoldsNothing book

enough_free : (total pages used : ℕ) → nat_le pages (total - used) ≡ true → pages ≤ total - used
enough_free total pages used enough = grind (arith, nat_tests)

free_ends : (total pages : ℕ) (book : List Series) → IsBook book → sweeps total book (Free pages) ≡ [] → FreeOrEmpty total pages book
free_ends total pages book is none = by (nat_le pages (total - pages_of book)) refl
  where
    one : (o : Option Found) → nat_le pages (total - pages_of book) ≡ false → oldest book ≡ o → FreeOrEmpty total pages book
    one None few at = inr (oldest_none book at)
    one (Some found) few at = let next = free_next total pages book found is few at in
        let both : [] ≡ clear_page found ∷ sweeps total next.after (Free pages) = sym none ∙ next.first in cc

    by : (b : Bool) → nat_le pages (total - pages_of book) ≡ b → FreeOrEmpty total pages book
    by true enough = inl (enough_free total pages (pages_of book) enough)
    by false few = one (oldest book) few refl

pub freed : (total pages : ℕ) (book : List Series) → IsBook book
    → FreeOrEmpty total pages (after_edits total book (sweeps total book (Free pages)))
freed total pages book is =
    by_clears (λ b. FreeOrEmpty total pages (after_edits total b (sweeps total b (Free pages)))) total (Free pages)
    (λ b is none. let P : List Edit → Type 0 = λ edits. FreeOrEmpty total pages (after_edits total b edits) in
    subst P (sym none) (free_ends total pages b is none))
    (λ b clear is next later. let P : List Series → Type 0 = FreeOrEmpty total pages in
    subst P (sym (after_first total b (Free pages) clear next)) later) (values_of book) book is (omega arith)

-- a rule that names a series takes its old slots, and nothing else
record OldOnes (book : List Series) (name : List ℕ) (old : Series → ℕ) (id : ℕ) (series : Series) : Type 0 where
  is_book : IsBook book
  at : id_of name book ≡ Some id
  there : slice_get book id ≡ Some series
  within : old series ≤ length series.slots
  stays : (after : Series) → after.start ≡ series.start → after.step ≡ series.step → length after.slots ≡ length series.slots
      → old after ≡ old series

abbrev LosesOld : List Series → (Series → ℕ) → ℕ → List Series → Type 0
LosesOld book old id after = LosesIn (λ one slot. slot < old one) id book after

loses_none : (book : List Series) (name : List ℕ) (old : Series → ℕ) (id : ℕ) (series : Series) → OldOnes book name old id series
    → IsFirstStored series.slots 0 (old series) None → LosesOld book old id book
loses_none book name old id series is clear = record {
  count = refl;
  before = series;
  was = is.there;
  after = series;
  is = is.there;
  loses = record {
    name = refl;
    start = refl;
    step = refl;
    scale = refl;
    length_is = refl;
    lost = λ slot value low held. clear slot value (omega arith) low held;
    kept = λ slot recent. refl;
  };
  others = λ other apart. refl;
}

loses_first : (total : ℕ) (book : List Series) (name : List ℕ) (old : Series
    → ℕ) (id : ℕ) (series : Series) (p : ℕ × ℤ) (final : List Series) → OldOnes book name old id series
    → IsFirstStored series.slots 0 (old series) (Some p)
    → LosesOld (behind_clear book id series (old series) p.0) old id final → LosesOld book old id final
loses_first total book name old id series p final is found later =
    let q : ℕ = p.0 / 4096 in
    let first : ℕ = range_first q in
    let end : ℕ = range_end (old series) q in
    let lies = range_lies (old series) (length series.slots) p.0 q is.within found.1 refl in
    let changed = cleared_is series.slots first end (omega (arith, lies.0, lies.1)) lies.2 in
    let mid : Series = cleared_series series first end in
    let same : later.before ≡ mid = same_Some later.before mid (sym later.was ∙ cleared_there book id series first end is.there) in
    let L : Series → Type 0 = λ x. LosesSlots (λ slot. slot < old x) x later.after in
    let loses : LosesSlots (λ slot. slot < old mid) mid later.after = subst L same later.loses in
    let still : old mid ≡ old series = is.stays mid refl refl changed.length_is in
    record {
      count = later.count ∙ cleared_count book id series first end;
      before = series;
      was = is.there;
      after = later.after;
      is = later.is;
      loses = record {
        name = loses.name;
        start = loses.start;
        step = loses.step;
        scale = loses.scale;
        length_is = loses.length_is ∙ changed.length_is;
        lost = λ slot value low held. loses.lost slot value (omega (arith, still, low)) held;
        kept = λ slot recent. loses.kept slot (λ low. recent (omega (arith, still, low)))
            ∙ changed.out slot (inr (end_below slot (old series) q recent));
      };
      others = λ other apart. later.others other apart ∙ cleared_others book id other series first end apart;
    }
  where
    end_below : (slot n q : ℕ) → (slot < n → ⊥) → range_end n q ≤ slot
    end_below slot n q recent = elim (cases_lt slot n) [ inl low ↦ absurd (recent low) | inr up ↦ omega (arith, up) ]

old_in : (book : List Series) (name : List ℕ) (old : Series → ℕ) (id : ℕ) (series : Series) (p : ℕ × ℤ) → OldOnes book name old id series
    → IsFirstStored series.slots 0 (old series) (Some p) → IsOldIn book name old id series p.0 p.1
old_in book name old id series p is found = record {
  is_book = is.is_book;
  at = is.at;
  there = is.there;
  within = is.within;
  stays = is.stays;
  found = found;
}

ones_on : (book : List Series) (name : List ℕ) (old : Series → ℕ) (id : ℕ) (series : Series) (p : ℕ × ℤ) → OldOnes book name old id series
    → IsFirstStored series.slots 0 (old series) (Some p)
    → OldOnes (behind_clear book id series (old series) p.0) name old id
    (cleared_series series (range_first (p.0 / 4096)) (range_end (old series) (p.0 / 4096)))
ones_on book name old id series p is found =
    let q : ℕ = p.0 / 4096 in
    let first : ℕ = range_first q in
    let end : ℕ = range_end (old series) q in
    let lies = range_lies (old series) (length series.slots) p.0 q is.within found.1 refl in
    let changed = cleared_is series.slots first end (omega (arith, lies.0, lies.1)) lies.2 in
    let mid : Series = cleared_series series first end in
    let still : old mid ≡ old series = is.stays mid refl refl changed.length_is in
    record {
      is_book = series_book book name old id series p.0 p.1 (old_in book name old id series p is found);
      at = cleared_id book name id series first end is.there ∙ is.at;
      there = cleared_there book id series first end is.there;
      within = omega (arith, still, is.within, changed.length_is);
      stays = λ after start step long. is.stays after start step (long ∙ changed.length_is) ∙ sym still;
    }

abbrev swept : ℕ → List Series → List ℕ → (Series → ℕ) → List Series
swept total book name old = after_edits total book (clears_if name (named book name) old)

swept_first : (total : ℕ) (book : List Series) (name : List ℕ) (old : Series → ℕ) (id : ℕ) (series : Series) (p : ℕ × ℤ)
    → IsOldIn book name old id series p.0 p.1
    → swept total book name old ≡ swept total (behind_clear book id series (old series) p.0) name old
swept_first total book name old id series p is =
    let accepted = series_accepted total book name old id series p.0 p.1 is in
    ap (after_edits total book) (series_first book name old id series p.0 p.1 is)
    ∙ ap (λ (r : Result Edited Refusal). after_edits total (book_behind book r)
    (clears_if name (named (behind_clear book id series (old series) p.0) name) old)) accepted.1

loses_end : (total : ℕ) (book : List Series) (name : List ℕ) (old : Series → ℕ) (id : ℕ) (series : Series) → OldOnes book name old id series
    → IsFirstStored series.slots 0 (old series) None → LosesOld book old id (swept total book name old)
loses_end total book name old id series is clear =
    let P : List Series → Type 0 = LosesOld book old id in
    subst P (sym (ap (after_edits total book) (series_none book name old id series is.at is.there clear)))
    (loses_none book name old id series is clear)

fewer_in : (book : List Series) (name : List ℕ) (old : Series → ℕ) (id : ℕ) (series : Series) (p : ℕ × ℤ) → OldOnes book name old id series
    → IsFirstStored series.slots 0 (old series) (Some p) → values_of (behind_clear book id series (old series) p.0) < values_of book
fewer_in book name old id series p is found = series_fewer book name old id series p.0 p.1 (old_in book name old id series p is found)

loses_by : (total : ℕ) (book : List Series) (name : List ℕ) (old : Series → ℕ) (id : ℕ) (series : Series) (o : Option (ℕ × ℤ))
    → OldOnes book name old id series → IsFirstStored series.slots 0 (old series) o
    → ((p : ℕ × ℤ) → IsFirstStored series.slots 0 (old series) (Some p)
    → LosesOld (behind_clear book id series (old series) p.0) old id
    (swept total (behind_clear book id series (old series) p.0) name old))
    → LosesOld book old id (swept total book name old)
loses_by total book name old id series None is clear later = loses_end total book name old id series is clear
loses_by total book name old id series (Some p) is found later =
    let new : List Series = behind_clear book id series (old series) p.0 in
    let P : List Series → Type 0 = LosesOld book old id in
    subst P (sym (swept_first total book name old id series p (old_in book name old id series p is found)))
    (loses_first total book name old id series p (swept total new name old) is found (later p found))

loses_all : (n total : ℕ) (book : List Series) (name : List ℕ) (old : Series → ℕ) (id : ℕ) (series : Series)
    → OldOnes book name old id series → values_of book ≤ n → LosesOld book old id (swept total book name old)
loses_all zero total book name old id series is few =
    let first = first_stored series.slots (old series) is.within in
    loses_by total book name old id series first.0 is first.1
    (λ p found. absurd (omega (arith, few, fewer_in book name old id series p is found)))
loses_all (suc n) total book name old id series is few =
    let first = first_stored series.slots (old series) is.within in
    loses_by total book name old id series first.0 is first.1 (λ p found.
    loses_all n total (behind_clear book id series (old series) p.0) name old id
    (cleared_series series (range_first (p.0 / 4096)) (range_end (old series) (p.0 / 4096)))
    (ones_on book name old id series p is found) (omega (arith, few, fewer_in book name old id series p is found)))

-- the same of other words for the old slots
loses_as : (Old New : Series → ℕ → Type 0) (id : ℕ) (book after : List Series)
    → ((series : Series) (slot : ℕ) → slot < length series.slots → New series slot → Old series slot)
    → ((series : Series) (slot : ℕ) → Old series slot → New series slot)
    → LosesIn Old id book after → LosesIn New id book after
loses_as Old New id book after to from loses = record {
  count = loses.count;
  before = loses.before;
  was = loses.was;
  after = loses.after;
  is = loses.is;
  loses = record {
    name = loses.loses.name;
    start = loses.loses.start;
    step = loses.loses.step;
    scale = loses.loses.scale;
    length_is = loses.loses.length_is;
    lost = λ slot value new held. loses.loses.lost slot value
        (to loses.before slot (omega (arith, loses.loses.length_is, slice_get_within loses.after.slots slot (Some value) held)) new) held;
    kept = λ slot recent. loses.loses.kept slot (λ old. recent (from loses.before slot old));
  };
  others = loses.others;
}

pub loses_before : (total : ℕ) (book : List Series) (name : List ℕ) (time : ℤ) (id : ℕ) (series : Series) → IsBook book
    → id_of name book ≡ Some id → slice_get book id ≡ Some series
    → LosesIn (λ one slot. slot_time one slot <ℤ time) id book (after_edits total book (sweeps total book (Before name time)))
loses_before total book name time id series is at there =
    loses_as (λ one slot. slot < slots_before one time) (λ one slot. slot_time one slot <ℤ time) id book
    (after_edits total book (sweeps total book (Before name time)))
    (λ one slot within early. (before_is one time slot within).1 early)
    (λ one slot low. (before_is one time slot (omega (arith, low, before_few one time))).0 low)
    (loses_all (values_of book) total book name (λ one. slots_before one time) id series
    (record { is_book = is; at = at; there = there; within = before_few series time; stays = before_stays series time }) (omega arith))

pub loses_last : (total : ℕ) (book : List Series) (name : List ℕ) (count id : ℕ) (series : Series) → IsBook book → id_of name book ≡ Some id
    → slice_get book id ≡ Some series
    → LosesIn (λ one slot. slot + count < length one.slots) id book (after_edits total book (sweeps total book (Last name count)))
loses_last total book name count id series is at there =
    loses_as (λ one slot. slot < length one.slots - count) (λ one slot. slot + count < length one.slots) id book
    (after_edits total book (sweeps total book (Last name count)))
    (λ one slot within early. omega (arith, early)) (λ one slot low. omega (arith, low))
    (loses_all (values_of book) total book name (λ one. length one.slots - count) id series
    (record { is_book = is; at = at; there = there; within = omega arith; stays = λ after start step long. ap (λ n. n - count) long })
    (omega arith))

-- all but the last slots are those before the time of the first of these
pub last_is_before : (total : ℕ) (book : List Series) (name : List ℕ) (count id : ℕ) (series : Series) → IsBook book
    → id_of name book ≡ Some id → slice_get book id ≡ Some series
    → sweeps total book (Last name count) ≡ sweeps total book (Before name (slot_time series (length series.slots - count)))
last_is_before total book name count id series is at there =
    let step : 1 ≤ series.step = (IsSeries-there book id series is there).step_above_zero in
    let n : ℕ = length series.slots - count in
    let same : slots_before series (slot_time series n) ≡ n = before_slot series n step (omega arith) in
    ap (λ (o : Option Series). clears_if name o (λ one. length one.slots - count)) (named_is book name id series at there)
    ∙ ap (λ k. clears_of name series k) (sym same)
    ∙ sym (ap (λ (o : Option Series). clears_if name o (λ one. slots_before one (slot_time series n)))
    (named_is book name id series at there))
