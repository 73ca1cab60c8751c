-- The clears that free pages.
use Rattle.std.proofs.Common.{◌≡◌, ℕ, zero, suc, ◌+◌, ◌-◌, ◌<◌, ◌≤◌, min, true, false, cond, List, [], ◌∷◌, length, Option, None, Some}
use Rattle.std.proofs.Common.{Result, Ok, refl, sym, ap, ◌∙◌, arith}
use Rattle.std.specs.Prelude.{nat_le}
use Rattle.std.proofs.lemmas.Option.{slice_get_within}
use Rattle.series_book.specs.declared.limits.TheConstants.{MOST_CLEARED, PAGE_SLOTS}
use Rattle.series_book.specs.declared.one_series.Series.{Series}
use Rattle.series_book.specs.declared.edits.Edit.{Edit}
use Rattle.series_book.specs.declared.refusals.Refusal.{Refusal}
use Rattle.series_book.specs.Books.{IsBook}
use Rattle.series_book.specs.Edits.{Edited, apply, cleared}
use Rattle.series_book.specs.EditLists.{book_behind}
use Rattle.series_book.specs.Pages.{pages_of}
use Rattle.retention.specs.declared.rule.Rule.TheVariants.{Free}
use Rattle.retention.specs.Sweeps.{Found, clear_page, frees, oldest, page_first, sweeps, unless_none, values_of}
use Rattle.retention.specs.Drops.{IsOldest}
use Rattle.retention.specs.Steps.{IsNext}
use Rattle.retention.proofs.SlotLemmas.{cleared_is, values_fall}
use Rattle.retention.proofs.BookLemmas.{cleared_book, cleared_is_book, cleared_values, clear_accepted, id_by_name}
use Rattle.retention.proofs.OldestLemmas.{oldest_is}

abbrev pub page_end : Found → ℕ
page_end found = min (page_first found.slot + PAGE_SLOTS) (length found.series.slots)

abbrev pub behind_page : List Series → Found → List Series
behind_page book found = cleared_book book found.id found.series (page_first found.slot) (page_end found)

page_lies : (slot long : ℕ) → slot < long → (page_first slot ≤ slot) × (slot < min (page_first slot + PAGE_SLOTS) long)
    × (min (page_first slot + PAGE_SLOTS) long ≤ long) × (min (page_first slot + PAGE_SLOTS) long - page_first slot ≤ MOST_CLEARED)
page_lies slot long low = (omega arith, omega (arith, low), omega arith, omega arith)

held_within : (book : List Series) (found : Found) → IsOldest book found → found.slot < length found.series.slots
held_within book found is = slice_get_within found.series.slots found.slot (Some is.value) is.holds

pub page_accepted : (total : ℕ) (book : List Series) (found : Found) → IsBook book → IsOldest book found
    → (slots : ℕ) × (apply book total (clear_page found) ≡ Ok (record { book = behind_page book found; slots = slots }))
page_accepted total book found is oldest_slot =
    let lies = page_lies found.slot (length found.series.slots) (held_within book found oldest_slot) in (
      length (cleared found.series.slots (page_first found.slot) (page_end found - page_first found.slot)),
      clear_accepted total book found.series.name found.id found.series (page_first found.slot) (page_end found) is
          (id_by_name book found.id found.series is oldest_slot.there) oldest_slot.there lies.3,
    )

pub page_fewer : (book : List Series) (found : Found) → IsOldest book found → values_of (behind_page book found) < values_of book
page_fewer book found oldest_slot =
    let lies = page_lies found.slot (length found.series.slots) (held_within book found oldest_slot) in
    let first : ℕ = page_first found.slot in
    let end : ℕ = page_end found in
    let changed = cleared_is found.series.slots first end (omega (arith, lies.0, lies.1)) lies.2 in
    cleared_values book found.id found.series first end oldest_slot.there
    (values_fall found.series.slots (cleared found.series.slots first (end - first)) first end found.slot oldest_slot.value changed
    lies.0 lies.1 oldest_slot.holds)

pub page_is_book : (book : List Series) (found : Found) → IsBook book → IsOldest book found → IsBook (behind_page book found)
page_is_book book found is oldest_slot = cleared_is_book book found.id found.series (page_first found.slot)
    (page_end found) is oldest_slot.there

pub behind_is : (total : ℕ) (book : List Series) (found : Found) → IsBook book → IsOldest book found
    → book_behind book (apply book total (clear_page found)) ≡ behind_page book found
behind_is total book found is oldest_slot = ap (λ (r : Result Edited Refusal). book_behind book r)
    (page_accepted total book found is oldest_slot).1

-- more steps than there are values change nothing
abbrev step : ℕ → ℕ → ℕ → List Series → Option Found → List Edit
step total pages n book found = unless_none found (λ clear. frees total pages n (book_behind book (apply book total clear)))

pub frees_same : (total pages n m : ℕ) (book : List Series) → IsBook book → values_of book ≤ n → values_of book ≤ m
    → frees total pages n book ≡ frees total pages m book
unfolding frees
frees_same total pages zero zero book is few many = refl
frees_same total pages zero (suc m) book is few many = elim (nat_le pages (total - pages_of book)) as
    (λ b. [] ≡ cond b [] (step total pages m book (oldest book))) [
      | true ↦ refl
      | false ↦ by (oldest book) refl
    ]
  where
    by : (o : Option Found) → oldest book ≡ o → [] ≡ step total pages m book o
    by None at = refl
    by (Some found) at = absurd (omega (arith, page_fewer book found (oldest_is book found at), few))
frees_same total pages (suc n) zero book is few many = elim (nat_le pages (total - pages_of book)) as
    (λ b. cond b [] (step total pages n book (oldest book)) ≡ []) [
      | true ↦ refl
      | false ↦ by (oldest book) refl
    ]
  where
    by : (o : Option Found) → oldest book ≡ o → step total pages n book o ≡ []
    by None at = refl
    by (Some found) at = absurd (omega (arith, page_fewer book found (oldest_is book found at), many))
frees_same total pages (suc n) (suc m) book is few many = elim (nat_le pages (total - pages_of book)) as
    (λ b. cond b [] (step total pages n book (oldest book)) ≡ cond b [] (step total pages m book (oldest book))) [
      | true ↦ refl
      | false ↦ by (oldest book) refl (frees_same total pages n m)
    ]
  where
    by : (o : Option Found) → oldest book ≡ o → ((b : List Series) → IsBook b → values_of b ≤ n → values_of b ≤ m
        → frees total pages n b ≡ frees total pages m b) → step total pages n book o ≡ step total pages m book o
    by None at more = refl
    by (Some found) at more =
        let oldest_slot = oldest_is book found at in
        let fewer = page_fewer book found oldest_slot in
        let new : List Series = behind_page book found in
        let here : book_behind book (apply book total (clear_page found)) ≡ new = behind_is total book found is oldest_slot in
        ap (λ cs. clear_page found ∷ cs) (ap (frees total pages n) here
        ∙ more new (page_is_book book found is oldest_slot) (omega (arith, fewer, few)) (omega (arith, fewer, many))
        ∙ sym (ap (frees total pages m) here))

pub free_enough : (total pages : ℕ) (book : List Series) → nat_le pages (total - pages_of book) ≡ true → sweeps total book (Free pages) ≡ []
unfolding frees
free_enough total pages book enough = by (values_of book)
  where
    by : (n : ℕ) → frees total pages n book ≡ []
    by zero = refl
    by (suc n) = rw enough refl

pub free_none : (total pages : ℕ) (book : List Series) → oldest book ≡ None → sweeps total book (Free pages) ≡ []
unfolding frees
free_none total pages book none = by (values_of book)
  where
    by : (n : ℕ) → frees total pages n book ≡ []
    by zero = refl
    by (suc n) = elim (nat_le pages (total - pages_of book)) as (λ b. cond b [] (step total pages n book (oldest book)) ≡ []) [
      | true ↦ refl
      | false ↦ ap (λ (o : Option Found). step total pages n book o) none
    ]

pub free_next : (total pages : ℕ) (book : List Series) (found : Found) → IsBook book → nat_le pages (total - pages_of book) ≡ false
    → oldest book ≡ Some found → IsNext total book (Free pages) (clear_page found)
unfolding frees
free_next total pages book found is few at =
    let oldest_slot = oldest_is book found at in
    let fewer = page_fewer book found oldest_slot in
    let accepted = page_accepted total book found is oldest_slot in
    let new : List Series = behind_page book found in
    let here : book_behind book (apply book total (clear_page found)) ≡ new = behind_is total book found is oldest_slot in
    let new_book : IsBook new = page_is_book book found is oldest_slot in
    let by : (n : ℕ) → values_of new < n → frees total pages n book ≡ clear_page found ∷ frees total pages (values_of new) new = λ n.
    elim n as (λ n. values_of new < n → frees total pages n book ≡ clear_page found ∷ frees total pages (values_of new) new) [
      | zero ↦ λ low. absurd (omega (arith, low))
      | suc m ↦ λ low. rw few (ap (λ (o : Option Found). step total pages m book o) at
          ∙ ap (λ cs. clear_page found ∷ cs) (ap (frees total pages m) here
          ∙ frees_same total pages m (values_of new) new new_book (omega (arith, low)) (omega arith)))
    ] in
    record { after = new; slots = accepted.0; accepted = accepted.1; first = by (values_of book) fewer; fewer = fewer; is_book = new_book }
