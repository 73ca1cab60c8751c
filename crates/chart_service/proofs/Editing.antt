-- What an accepted edit leaves: the book has no fewer series, and the edited one is in range.
use Rattle.std.proofs.Common.{◌≡◌, ℕ, ℤ, ◌≤◌, true, false, List, [], ◌∷◌, ◌++◌, length, get_or, Option, None, Some, Result, Ok, Err, refl}
use Rattle.std.proofs.Common.{ap, sym, ◌∙◌, subst, arith, length-append}
use Rattle.std.specs.Prelude.{nat_lt, nat_le, is_some, slice_get, if◌then◌else◌}
use Rattle.std.proofs.Math.ListN.{length-set}
use Rattle.std.proofs.lemmas.List.Elements.{All-get_or}
use Rattle.std.proofs.lemmas.Option.{slice_get_within}
use Rattle.std.proofs.Common.{get_or-set_same}
use Rattle.series_book.specs.declared.limits.TheConstants.{MOST_SLOTS, MOST_SERIES}
use Rattle.series_book.specs.declared.one_series.Series.{Series}
use Rattle.series_book.specs.declared.refusals.Refusal.{Refusal}
use Rattle.series_book.specs.declared.refusals.Refusal.TheVariants.{SeriesExists, TooManySeries, Full}
use Rattle.series_book.specs.declared.edits.Edit.{Edit}
use Rattle.series_book.specs.declared.edits.Edit.TheVariants.{Create, Append, Set, Clear}
use Rattle.series_book.specs.Pages.{pages_of}
use Rattle.series_book.specs.Books.{IsSeries, IsBook}
use Rattle.series_book.specs.Edits.{Edited, apply, created, fitted, within, unbounded, with_slots, change_series, change_at, id_of}
use Rattle.series_book.specs.Edits.{appended, set_at, cleared_at}

-- other slots stand in a series that is there
record Changes (book : List Series) (e : Edited) : Type 0 where
  id : ℕ
  series : Series
  there : slice_get book id ≡ Some series
  slots : List (Option ℤ)
  is : e.book ≡ with_slots book id series slots
  count : e.slots ≡ length slots

fitted_so : (total : ℕ) (book : List Series) (slots : ℕ) (e : Edited) → fitted total book slots ≡ Ok e → (e.book ≡ book) × (e.slots ≡ slots)
unfolding fitted
fitted_so total book slots e is =
    (elim (nat_lt total (pages_of book)) as (λ b. (if b then Err (Full (pages_of book) total)
    else Ok (record { book = book; slots = slots })) ≡ Ok e → (e.book ≡ book) × (e.slots ≡ slots)) [
      | true ↦ λ h. cc
      | false ↦ λ h. (
        let same : record { book = book; slots = slots } ≡ e = cc in ap (λ x. x.book) (sym same),
        let same : record { book = book; slots = slots } ≡ e = cc in ap (λ x. x.slots) (sym same),
      )
    ]) is

within_so : (total : ℕ) (book : List Series) (id : ℕ) (series : Series) (r : Result (List (Option ℤ)) Refusal) (e : Edited)
    → slice_get book id ≡ Some series → within total book id series r ≡ Ok e → Changes book e
within_so total book id series (Err refusal) e there is = cc
within_so total book id series (Ok slots) e there is =
    let made = fitted_so total (with_slots book id series slots) (length slots) e is in
    record { id = id; series = series; there = there; slots = slots; is = made.0; count = made.1 }

unbounded_so : (book : List Series) (id : ℕ) (series : Series) (r : Result (List (Option ℤ)) Refusal) (e : Edited)
    → slice_get book id ≡ Some series → unbounded book id series r ≡ Ok e → Changes book e
unbounded_so book id series (Err refusal) e there is = cc
unbounded_so book id series (Ok slots) e there is =
    let made : record { book = with_slots book id series slots; slots = length slots } ≡ e = cc in
    record {
      id = id;
      series = series;
      there = there;
      slots = slots;
      is = sym (ap (λ x. x.book) made);
      count = sym (ap (λ x. x.slots) made);
    }

series_so : (book : List Series) (id : ℕ) (o : Option Series) (change : ℕ → Series → Result Edited Refusal) (e : Edited)
    → slice_get book id ≡ o → ((series : Series) → slice_get book id ≡ Some series → change id series ≡ Ok e → Changes book e)
    → change_series id o change ≡ Ok e → Changes book e
series_so book id None change e there so is = cc
series_so book id (Some series) change e there so is = so series there is

change_so : (book : List Series) (o : Option ℕ) (change : ℕ → Series → Result Edited Refusal) (e : Edited)
    → ((id : ℕ) (series : Series) → slice_get book id ≡ Some series → change id series ≡ Ok e → Changes book e)
    → change_at book o change ≡ Ok e → Changes book e
change_so book None change e so is = cc
change_so book (Some id) change e so is = series_so book id (slice_get book id) change e refl (so id) is

-- the book has no fewer series, and the slots are as many as a series may have
pub record Leaves (book : List Series) (e : Edited) : Type 0 where
  pub more : length book ≤ length e.book
  pub slots : IsBook e.book → e.slots ≤ MOST_SLOTS

changed : (book : List Series) (e : Edited) → Changes book e → Leaves book e
changed book e c =
    let inside = slice_get_within book c.id c.series c.there in
    let new : Series = record c.series { slots = c.slots } in
    record {
      more = omega (arith, ap length c.is, length-set book c.id new);
      slots = λ b.
          let here : get_or e.book c.id new ≡ new = ap (λ l. get_or l c.id new) c.is ∙ get_or-set_same book c.id new new inside in
          let series : IsSeries (get_or e.book c.id new) = All-get_or IsSeries e.book c.id new
          (omega (arith, inside, ap length c.is, length-set book c.id new)) b.all_in_range in
          let small : length c.slots ≤ MOST_SLOTS = (subst IsSeries here series).slots_in_range in
          omega (arith, small, c.count);
    }

added : (book : List Series) (series : Series) (e : Edited) → created book series ≡ Ok e → Leaves book e
unfolding created
added book series e is =
    let none : Result Edited Refusal = Ok (record { book = book ++ series ∷ []; slots = 0 }) in
    (elim (is_some (id_of series.name book)) as (λ b. (if b then Err SeriesExists
    else if nat_le MOST_SERIES (length book) then Err TooManySeries else none) ≡ Ok e → Leaves book e) [
      | true ↦ λ h. cc
      | false ↦ λ h. (elim (nat_le MOST_SERIES (length book)) as (λ b. (if b then Err TooManySeries else none) ≡ Ok e → Leaves book e) [
        | true ↦ λ k. cc
        | false ↦ λ k.
            let same : record { book = book ++ series ∷ []; slots = 0 } ≡ e = cc in
            record {
              more = omega (arith, ap (λ x. length x.book) same, length-append book (series ∷ []));
              slots = λ b. omega (arith, ap (λ x. x.slots) same);
            }
      ]) h
    ]) is

pub edit_leaves : (book : List Series) (total : ℕ) (edit : Edit) (e : Edited) → apply book total edit ≡ Ok e → Leaves book e
edit_leaves book total (Create name start step scale) e is = added book
    (record { name = name; start = start; step = step; scale = scale; slots = [] }) e is
edit_leaves book total (Append name values) e is =
    changed book e (change_so book (id_of name book) (λ id series. within total book id series (appended series values)) e
    (λ id series there made. within_so total book id series (appended series values) e there made) is)
edit_leaves book total (Set name time values) e is =
    changed book e (change_so book (id_of name book) (λ id series. within total book id series (set_at series time values)) e
    (λ id series there made. within_so total book id series (set_at series time values) e there made) is)
edit_leaves book total (Clear name time count) e is =
    changed book e (change_so book (id_of name book) (λ id series. unbounded book id series (cleared_at series time count)) e
    (λ id series there made. unbounded_so book id series (cleared_at series time count) e there made) is)

-- the slots of an accepted edit are as many as a frame may tell
pub edit_fits : (book : List Series) (total : ℕ) (edit : Edit) (more : List Series) (slots : ℕ)
    → apply book total edit ≡ Ok (record { book = more; slots = slots }) → IsBook more → slots ≤ MOST_SLOTS
edit_fits book total edit more slots is sound = (edit_leaves book total edit (record { book = more; slots = slots }) is).slots sound
