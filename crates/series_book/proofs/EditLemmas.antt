use Rattle.std.proofs.Common.{◌≡◌, ℕ, ◌+◌, ◌-◌, ◌<◌, ◌≤◌, min, take, drop, true, false, ltb, leb, List, [], ◌∷◌, ◌++◌, length, set}
use Rattle.std.proofs.Common.{replicate, Option, Some, None, Ok, Err, ℤ, IfSome, refl, sym, ap, ◌∙◌, subst, arith}
use Rattle.std.specs.Option.{is_some}
use Rattle.std.specs.List.{slice_get}
use Rattle.std.proofs.lemmas.Bool.Decides.{nat_tests}
use Rattle.std.proofs.lemmas.List.{take_all, get_or-set_same, set-set, set-get_or, length-set, length-replicate}
use Rattle.std.proofs.lemmas.Option.{get_or_from_slice_get, slice_get_within, slice_get-get_or, MatchOption-at_some}
use Rattle.series_book.specs.declared.limits.TheConstants.{MOST_SERIES, FIXED_PAGES}
use Rattle.series_book.specs.declared.one_series.Series.{Series}
use Rattle.series_book.specs.declared.refusals.Refusal.TheVariants.{SeriesExists, TooManySeries, Full}
use Rattle.series_book.specs.Books.{LimitedBook}
use Rattle.series_book.specs.Pages.{count_below, ranges_with_value, level_pages, first_covering, page_levels, series_pages, pages_of}
use Rattle.series_book.specs.Edits.{id_of, overwritten, cleared, appended, cleared_at, created, fitted, within, unbounded, change_at}
use Rattle.series_book.proofs.SlotLemmas.{overwritten-end, overwritten-cleared, length-overwritten}

-- a book without a series has the fixed pages
pub pages_of-nil : (book : List Series) → book ≡ [] → FIXED_PAGES ≡ pages_of book
unfolding pages_of
pages_of-nil book none = let P : List Series → Type 0 = λ book. FIXED_PAGES ≡ pages_of book in subst P (sym none) refl

-- a series without slots has no pages
pub series_pages-nil : (slots : List (Option ℤ)) → slots ≡ [] → series_pages slots ≡ 0
unfolding series_pages page_levels first_covering level_pages ranges_with_value count_below
series_pages-nil slots none = let P : List (Option ℤ) → Type 0 = λ slots. series_pages slots ≡ 0 in subst P (sym none) refl

pub created-exists : (book : List Series) (series : Series) → is_some (id_of series.name book) ≡ true
    → created book series ≡ Err SeriesExists
unfolding created
created-exists book series there = rw there refl

pub created-full : (book : List Series) (series : Series) → is_some (id_of series.name book) ≡ false → MOST_SERIES ≤ length book
    → created book series ≡ Err TooManySeries
unfolding created
created-full book series new full = let test : leb MOST_SERIES (length book) ≡ true = grind (arith, nat_tests) in rw (new, test) refl

pub created-ok : (book : List Series) (series : Series) → is_some (id_of series.name book) ≡ false → length book < MOST_SERIES
    → created book series ≡ Ok (record { book = book ++ series ∷ []; slots = 0 })
unfolding created
created-ok book series new room = let test : leb MOST_SERIES (length book) ≡ false = grind (arith, nat_tests) in rw (new, test) refl

-- an id that isn't there
pub none_from_test : {X : Type 0} (o : Option X) → is_some o ≡ false → o ≡ None
none_from_test None no_value = refl
none_from_test (Some x) no_value = cc

pub fitted-full : (total : ℕ) (book : List Series) (slots needed have : ℕ) → needed ≡ pages_of book → have ≡ total → have < needed
    → fitted total book slots ≡ Err (Full needed have)
unfolding fitted
fitted-full total book slots needed have needed_is have_is over =
    let test : ltb total (pages_of book) ≡ true = grind (arith, nat_tests) in
    rw (test, needed_is, have_is) refl

pub fitted-ok : (total : ℕ) (book : List Series) (slots : ℕ) → pages_of book ≤ total
    → fitted total book slots ≡ Ok (record { book = book; slots = slots })
unfolding fitted
fitted-ok total book slots fits = let test : ltb total (pages_of book) ≡ false = grind (arith, nat_tests) in rw test refl

-- a fact on the series that is there
pub if_there : {X : Type 0} (o : Option X) (x : X) (P : X → Type 0) → o ≡ Some x → P x → IfSome o P
if_there {X} o x P is holds = let Q : Option X → Type 0 = λ o. IfSome o P in subst Q (sym is) holds

-- the series of an id after it was put there
pub slice_get-set : (book changed : List Series) (id : ℕ) (old new : Series) → slice_get book id ≡ Some old → changed ≡ set book id new
    → slice_get changed id ≡ Some new
slice_get-set book changed id old new there changed_is =
    let within' : id < length book = slice_get_within book id old there in
    let long : id < length (set book id new) = omega (arith, length-set book id new) in
    ap (λ xs. slice_get xs id) changed_is ∙ slice_get-get_or (set book id new) id new long
    ∙ ap Some (get_or-set_same book id new new within')

-- a book whose series is put back is as it was
pub restored : (book changed : List Series) (id : ℕ) (old new : Series) → slice_get book id ≡ Some old → changed ≡ set book id new
    → set changed id old ≡ book
restored book changed id old new there changed_is =
    ap (λ xs. set xs id old) changed_is ∙ set-set book id new old
    ∙ ap (set book id) (sym (get_or_from_slice_get book id old old there)) ∙ set-get_or book id old

-- a changed series is the one that stands there
pub set-again : (book changed : List Series) (id : ℕ) (new : Series) → changed ≡ set book id new → changed ≡ set changed id new
set-again book changed id new changed_is =
    changed_is ∙ sym (set-set book id new new) ∙ ap (λ xs. set xs id new) (sym changed_is)

-- a book and its total
pub same_limited : (limited : LimitedBook) (book : List Series) (total : ℕ) → book ≡ limited.book → total ≡ limited.total
    → ◌≡◌ {A = LimitedBook} (record { book = book; total = total }) limited
same_limited limited book total book_is total_is = rw (book_is, total_is) refl

-- an append, as the code does it
pub append_is : (book : List Series) (total : ℕ) (name : List ℕ) (id : ℕ) (series : Series) (values run : List (Option ℤ)) (place : ℕ)
    → id_of name book ≡ Some id → slice_get book id ≡ Some series → appended series values ≡ Ok (series.slots ++ values)
    → place ≡ length series.slots → run ≡ values
    → change_at book (id_of name book) (λ id series. within total book id series (appended series values))
    ≡ within total book id series (Ok (overwritten series.slots place run))
append_is book total name id series values run place found there accepted place_is run_is =
    rw (found, there, accepted, place_is, run_is, overwritten-end) refl

-- a clear, as the code does it
pub clear_is : (book changed : List Series) (name : List ℕ) (id : ℕ) (series : Series) (time : ℤ) (count place from n slots : ℕ)
    (run : List (Option ℤ))
    → id_of name book ≡ Some id → slice_get book id ≡ Some series → cleared_at series time count ≡ Ok (cleared series.slots place count)
    → from ≡ min place (length series.slots) → n ≡ min (from + count) (length series.slots) - from → run ≡ replicate n None
    → changed ≡ set book id (record series { slots = overwritten series.slots from run }) → slots ≡ length series.slots
    → change_at book (id_of name book) (λ id series. unbounded book id series (cleared_at series time count))
    ≡ Ok (record { book = changed; slots = slots })
clear_is book changed name id series time count place from n slots run found there accepted from_is n_is run_is changed_is slots_is =
    let same : overwritten series.slots from run ≡ cleared series.slots place count = overwritten-cleared series.slots run place count from
    n from_is n_is run_is in
    let long : length run ≡ n = ap length run_is ∙ length-replicate n None in
    let kept : length (cleared series.slots place count) ≡ length series.slots =
    omega (arith, ap length same, length-overwritten series.slots run from) in
    rw (found, there, accepted, kept, changed_is, slots_is, same) refl

-- a create, as the code does it
pub created_as : (book inside added : List Series) (name copied : List ℕ) (start begun : ℤ) (step scale : ℕ) (series : Series)
    → inside ≡ book → added ≡ inside ++ series ∷ []
    → series ≡ record { name = copied; start = begun; step = step; scale = scale; slots = [] }
    → copied ≡ name → begun ≡ start → is_some (id_of name book) ≡ false → length book < MOST_SERIES
    → created book (record { name = name; start = start; step = step; scale = scale; slots = [] }) ≡ Ok (record { book = added; slots = 0 })
created_as book inside added name copied start begun step scale series same added_is series_is copied_is begun_is new room =
    rw (added_is, same, series_is, copied_is, begun_is)
    (created-ok book (record { name = name; start = start; step = step; scale = scale; slots = [] }) new room)

-- a put that was taken back leaves the book as it was
pub undo : (book changed back : List Series) (id place before : ℕ) (series : Series) (run displaced : List (Option ℤ))
    → slice_get book id ≡ Some series → changed ≡ set book id (record series { slots = overwritten series.slots place run })
    → displaced ≡ take (length run) (drop place series.slots) → before ≡ length series.slots
    → ((series : Series) (old run : List (Option ℤ)) → changed ≡ set changed id (record series { slots = overwritten old place run })
    → displaced ≡ take (length run) (drop place old) → before ≡ length old → back ≡ set changed id (record series { slots = old }))
    → back ≡ book
undo book changed back id place before series run displaced there changed_is displaced_is before_is undoes =
    undoes series series.slots run (set-again book changed id _ changed_is) displaced_is before_is
    ∙ restored book changed id series _ there changed_is

-- a put makes no series shorter
pub no_shorter : (book changed : List Series) (id place before : ℕ) (series : Series) (run : List (Option ℤ))
    → slice_get book id ≡ Some series → changed ≡ set book id (record series { slots = overwritten series.slots place run })
    → before ≡ length series.slots → IfSome (slice_get changed id) (λ series. before ≤ length series.slots)
no_shorter book changed id place before series run there changed_is before_is =
    if_there (slice_get changed id) (record series { slots = overwritten series.slots place run }) _
    (slice_get-set book changed id series _ there changed_is)
    (omega (arith, length-overwritten series.slots run place))

-- a put that needs too many pages
pub within-full : (book changed : List Series) (total id place needed have : ℕ) (series : Series) (run : List (Option ℤ))
    → changed ≡ set book id (record series { slots = overwritten series.slots place run })
    → needed ≡ pages_of changed → have ≡ total → have < needed
    → within total book id series (Ok (overwritten series.slots place run)) ≡ Err (Full needed have)
within-full book changed total id place needed have series run changed_is needed_is have_is over =
    fitted-full total _ _ needed have (needed_is ∙ ap pages_of changed_is) have_is over

-- a put within the total
pub within-ok : (book changed : List Series) (total id place needed slots : ℕ) (series : Series) (run : List (Option ℤ))
    → slice_get book id ≡ Some series → changed ≡ set book id (record series { slots = overwritten series.slots place run })
    → needed ≡ pages_of changed → needed ≤ total → IfSome (slice_get changed id) (λ series. slots ≡ length series.slots)
    → within total book id series (Ok (overwritten series.slots place run)) ≡ Ok (record { book = changed; slots = slots })
within-ok book changed total id place needed slots series run there changed_is needed_is fits slots_are =
    let written : Series = record series { slots = overwritten series.slots place run } in
    let count : slots ≡ length (overwritten series.slots place run) =
    MatchOption-at_some _ _ written (slice_get-set book changed id series written there changed_is) slots_are in
    rw (changed_is, count) (fitted-ok total _ _ (omega (arith, needed_is, ap pages_of changed_is)))

-- an empty vector that was filled up
pub resized-nil : {X : Type 0} (n m : ℕ) (items : List X) (x : X) → items ≡ [] → m ≡ 0 → take n items ++ replicate (n - m) x ≡ replicate n x
resized-nil {X} n m items x none none' =
    let whole : n - 0 ≡ n = omega arith in
    let nothing : take n items ≡ [] = take_all n items (omega (arith, ap length none)) ∙ none in
    rw (nothing, none', whole) refl
