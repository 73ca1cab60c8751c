-- With what an edit is refused: only a full book tells numbers, and these are small.
use Rattle.std.proofs.Common.{◌≡◌, ℕ, ℤ, ◌+◌, ◌<◌, ◌^◌, Bool, true, false, cond, ltb, leb, List, [], ◌∷◌, ◌++◌, length, max, Option, Some}
use Rattle.std.proofs.Common.{None, Result, Ok, Err, refl, subst, arith}
use Rattle.std.specs.Prelude.{int_lt, ⊤}
use Rattle.std.specs.List.{list_any, slice_get}
use Rattle.std.specs.Option.{is_some}
use Rattle.series_book.specs.declared.limits.TheConstants.{MOST_SERIES, MOST_VALUES, MOST_CLEARED}
use Rattle.series_book.specs.declared.one_series.Series.{Series}
use Rattle.series_book.specs.declared.edits.Edit.{Edit}
use Rattle.series_book.specs.declared.edits.Edit.TheVariants.{Create, Append, Set, Clear}
use Rattle.series_book.specs.declared.refusals.Refusal.{Refusal}
use Rattle.series_book.specs.declared.refusals.Refusal.TheVariants.{LineTooLong, BadLine, BadFilter, UnknownSession, SessionOpen}
use Rattle.series_book.specs.declared.refusals.Refusal.TheVariants.{TooManySessions, BadCache, UnknownSeries, SeriesExists, TooManySeries}
use Rattle.series_book.specs.declared.refusals.Refusal.TheVariants.{OffGrid, BeforeStart, ValueTooLarge, RangeTooLong, SeriesFull, NoView}
use Rattle.series_book.specs.declared.refusals.Refusal.TheVariants.{BadWindow, BadCanvas, BadRange, ViewTooLarge, Full}
use Rattle.series_book.specs.Books.{IsBook}
use Rattle.series_book.specs.Edits.{Edited, apply, id_of, is_too_large, is_off_grid, is_overfull, overwritten, cleared, unless, appended}
use Rattle.series_book.specs.Edits.{set_at, cleared_at, place_of, created, fitted, within, unbounded, change_series, change_at, with_slots}
use Rattle.series_book.specs.Pages.{pages_of}
use Rattle.series_book.proofs.BookLemmas.{IsSeries-there, pages_of_few}
use Rattle.series_book.proofs.LawLemmas.{AreInRange, IsBook-with_slots, appended_fits, set_fits}

-- with what an edit may be refused, where so many pages may be taken
abbrev pub IsEditRefusal : ℕ → Refusal → Type 0
IsEditRefusal total LineTooLong = ⊥
IsEditRefusal total (BadLine at) = ⊥
IsEditRefusal total (BadFilter at) = ⊥
IsEditRefusal total UnknownSession = ⊥
IsEditRefusal total SessionOpen = ⊥
IsEditRefusal total TooManySessions = ⊥
IsEditRefusal total BadCache = ⊥
IsEditRefusal total UnknownSeries = ⊤
IsEditRefusal total SeriesExists = ⊤
IsEditRefusal total TooManySeries = ⊤
IsEditRefusal total OffGrid = ⊤
IsEditRefusal total BeforeStart = ⊤
IsEditRefusal total ValueTooLarge = ⊤
IsEditRefusal total RangeTooLong = ⊤
IsEditRefusal total SeriesFull = ⊤
IsEditRefusal total NoView = ⊥
IsEditRefusal total BadWindow = ⊥
IsEditRefusal total BadCanvas = ⊥
IsEditRefusal total BadRange = ⊥
IsEditRefusal total (ViewTooLarge needed cache) = ⊥
IsEditRefusal total (Full needed have) = (needed < 2 ^ 64) × (have ≡ total)

so_refused : (total : ℕ) (one other : Refusal) → one ≡ other → IsEditRefusal total one → IsEditRefusal total other
so_refused total one other same is = let P : Refusal → Type 0 = IsEditRefusal total in subst P same is

-- each cause refuses so
abbrev RefuseSo : ℕ → List (Bool × Refusal) → Type 0
RefuseSo total [] = Unit {0}
RefuseSo total (cause ∷ causes) = IsEditRefusal total cause.1 × RefuseSo total causes

unless_refuses : (total : ℕ) (causes : List (Bool × Refusal)) (slots : List (Option ℤ)) (refusal : Refusal) → RefuseSo total causes
    → unless causes slots ≡ Err refusal → IsEditRefusal total refusal
unless_refuses total [] slots refusal all is = cc
unless_refuses total (cause ∷ causes) slots refusal all is =
    let here : (b : Bool) → cond b (Err cause.1) (unless causes slots) ≡ Err refusal → IsEditRefusal total refusal =
    λ b. elim b as (λ b. cond b (Err cause.1) (unless causes slots) ≡ Err refusal → IsEditRefusal total refusal) [
      | true ↦ λ same. let one : cause.1 ≡ refusal = cc in so_refused total cause.1 refusal one all.0
      | false ↦ λ later. unless_refuses total causes slots refusal all.1 later
    ] in
    here cause.0 is

-- a book that has too many pages
fitted_refuses : (total : ℕ) (book : List Series) (slots : ℕ) (refusal : Refusal) → IsBook book → fitted total book slots ≡ Err refusal
    → IsEditRefusal total refusal
unfolding fitted
fitted_refuses total book slots refusal is given =
    let made : Result Edited Refusal = Ok (record { book = book; slots = slots }) in
    let here : (b : Bool) → cond b (Err (Full (pages_of book) total)) made ≡ Err refusal → IsEditRefusal total refusal =
    λ b. elim b as (λ b. cond b (Err (Full (pages_of book) total)) made ≡ Err refusal → IsEditRefusal total refusal) [
      | true ↦ λ refused.
          let one : Full (pages_of book) total ≡ refusal = cc in
          so_refused total (Full (pages_of book) total) refusal one (omega (arith, pages_of_few book is), refl)
      | false ↦ λ (same : made ≡ Err refusal). cc
    ] in
    here (ltb total (pages_of book)) given

within_refuses : (total : ℕ) (book : List Series) (id : ℕ) (series : Series) (slots : Result (List (Option ℤ)) Refusal) (refusal : Refusal)
    → IsBook book → slice_get book id ≡ Some series
    → ((given : List (Option ℤ)) → slots ≡ Ok given → AreInRange series given) → ((r : Refusal) → slots ≡ Err r → IsEditRefusal total r)
    → within total book id series slots ≡ Err refusal → IsEditRefusal total refusal
within_refuses total book id series (Err r) refusal is there fits refuses given = let one : r ≡ refusal = cc in
    so_refused total r refusal one (refuses r refl)
within_refuses total book id series (Ok slots) refusal is there fits refuses given =
    fitted_refuses total (with_slots book id series slots) (length slots) refusal
    (IsBook-with_slots book id series slots is there (fits slots refl)) given

unbounded_refuses : (total : ℕ) (book : List Series) (id : ℕ) (series : Series) (slots : Result (List (Option ℤ)) Refusal)
    (refusal : Refusal) → ((r : Refusal) → slots ≡ Err r → IsEditRefusal total r) → unbounded book id series slots ≡ Err refusal
    → IsEditRefusal total refusal
unbounded_refuses total book id series (Err r) refusal refuses given = let one : r ≡ refusal = cc in
    so_refused total r refusal one (refuses r refl)
unbounded_refuses total book id series (Ok slots) refusal refuses given = cc

series_refuses : (total : ℕ) (book : List Series) (id : ℕ) (there : Option Series) (change : ℕ → Series
    → Result Edited Refusal) (refusal : Refusal) → slice_get book id ≡ there
    → ((series : Series) → slice_get book id ≡ Some series → change id series ≡ Err refusal → IsEditRefusal total refusal)
    → change_series id there change ≡ Err refusal → IsEditRefusal total refusal
series_refuses total book id None change refusal is refuses given = let one : UnknownSeries ≡ refusal = cc in
    so_refused total UnknownSeries refusal one tt
series_refuses total book id (Some series) change refusal is refuses given = refuses series is given

change_refuses : (total : ℕ) (book : List Series) (found : Option ℕ) (change : ℕ → Series → Result Edited Refusal) (refusal : Refusal)
    → ((id : ℕ) (series : Series) → slice_get book id ≡ Some series → change id series ≡ Err refusal → IsEditRefusal total refusal)
    → change_at book found change ≡ Err refusal → IsEditRefusal total refusal
change_refuses total book None change refusal refuses given = let one : UnknownSeries ≡ refusal = cc in
    so_refused total UnknownSeries refusal one tt
change_refuses total book (Some id) change refusal refuses given = series_refuses total book id (slice_get book id) change refusal refl
    (refuses id) given

created_refuses : (total : ℕ) (book : List Series) (series : Series) (refusal : Refusal) → created book series ≡ Err refusal
    → IsEditRefusal total refusal
unfolding created
created_refuses total book series refusal given =
    let made : Result Edited Refusal = Ok (record { book = book ++ series ∷ []; slots = 0 }) in
    let last : (b : Bool) → cond b (Err TooManySeries) made ≡ Err refusal → IsEditRefusal total refusal =
    λ b. elim b as (λ b. cond b (Err TooManySeries) made ≡ Err refusal → IsEditRefusal total refusal) [
      | true ↦ λ full. let one : TooManySeries ≡ refusal = cc in so_refused total TooManySeries refusal one tt
      | false ↦ λ (same : made ≡ Err refusal). cc
    ] in
    let here : (b : Bool) → cond b (Err SeriesExists) (cond (leb MOST_SERIES (length book)) (Err TooManySeries) made) ≡ Err refusal
    → IsEditRefusal total refusal =
    λ b. elim b as (λ b. cond b (Err SeriesExists) (cond (leb MOST_SERIES (length book)) (Err TooManySeries) made) ≡ Err refusal
    → IsEditRefusal total refusal) [
      | true ↦ λ there. let one : SeriesExists ≡ refusal = cc in so_refused total SeriesExists refusal one tt
      | false ↦ λ rest. last (leb MOST_SERIES (length book)) rest
    ] in
    here (is_some (id_of series.name book)) given

append_refuses : (total : ℕ) (series : Series) (values : List (Option ℤ)) (refusal : Refusal) → appended series values ≡ Err refusal
    → IsEditRefusal total refusal
unfolding appended
append_refuses total series values refusal is =
    unless_refuses total ((list_any is_too_large values, ValueTooLarge) ∷ (
      ltb MOST_VALUES (length values),
      RangeTooLong,
    ) ∷ (is_overfull series (length series.slots + length values), SeriesFull) ∷ [])
    (series.slots ++ values) refusal (tt, (tt, (tt, tt))) is

set_refuses : (total : ℕ) (series : Series) (time : ℤ) (values : List (Option ℤ)) (refusal : Refusal)
    → set_at series time values ≡ Err refusal → IsEditRefusal total refusal
unfolding set_at
set_refuses total series time values refusal is =
    unless_refuses total
    ((is_off_grid series time, OffGrid) ∷ (int_lt time series.start, BeforeStart) ∷ (
      list_any is_too_large values,
      ValueTooLarge,
    ) ∷ (ltb MOST_VALUES (length values), RangeTooLong)
    ∷ (is_overfull series (max (length series.slots) (place_of series time + length values)), SeriesFull) ∷ [])
    (overwritten series.slots (place_of series time) values) refusal (tt, (tt, (tt, (tt, (tt, tt))))) is

clear_refuses : (total : ℕ) (series : Series) (time : ℤ) (count : ℕ) (refusal : Refusal) → cleared_at series time count ≡ Err refusal
    → IsEditRefusal total refusal
unfolding cleared_at
clear_refuses total series time count refusal is =
    unless_refuses total ((is_off_grid series time, OffGrid) ∷ (int_lt time series.start, BeforeStart) ∷ (
      ltb MOST_CLEARED count,
      RangeTooLong,
    ) ∷ [])
    (cleared series.slots (place_of series time) count) refusal (tt, (tt, (tt, tt))) is

pub edit_refuses : (book : List Series) (total : ℕ) (edit : Edit) (refusal : Refusal) → IsBook book → apply book total edit ≡ Err refusal
    → IsEditRefusal total refusal
edit_refuses book total (Create name start step scale) refusal is given = created_refuses total book
    (record { name = name; start = start; step = step; scale = scale; slots = [] }) refusal given
edit_refuses book total (Append name values) refusal is given =
    change_refuses total book (id_of name book) _ refusal
    (λ id series there change. within_refuses total book id series (appended series values) refusal is there
    (λ slots is_ok. appended_fits series values slots (IsSeries-there book id series is there) is_ok)
    (append_refuses total series values) change)
    given
edit_refuses book total (Set name time values) refusal is given =
    change_refuses total book (id_of name book) _ refusal
    (λ id series there change. within_refuses total book id series (set_at series time values) refusal is there
    (λ slots is_ok. set_fits series time values slots (IsSeries-there book id series is there) is_ok)
    (set_refuses total series time values) change)
    given
edit_refuses book total (Clear name time count) refusal is given =
    change_refuses total book (id_of name book) _ refusal
    (λ id series there change. unbounded_refuses total book id series (cleared_at series time count) refusal
    (clear_refuses total series time count) change) given
