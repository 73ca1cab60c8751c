-- What a store tells of its series, by what its pages stand for.
use Rattle.std.proofs.Common.{◌≡◌, ℕ, zero, suc, ◌+◌, ◌^◌, ◌<◌, ◌≤◌, ◌⊎◌, Bool, cond, not, ltb, List, [], ◌∷◌, length, ℤ, w64, Option, Some}
use Rattle.std.proofs.Common.{None, refl, sym, ap, subst, arith, inl, inr, ◌∙◌}
use mir.Val.{to_z, of_z}
use Rattle.std.proofs.lemmas.Option.{slice_get_within}
use Rattle.std.proofs.lemmas.Int.{to_z-of_z, fits_signed_from_abs}
use Rattle.std.specs.Prelude.{MatchOption}
use Rattle.std.specs.List.{position, position_or_len, slice_get}
use Rattle.std.specs.Str.{bytes_eq}
use Rattle.whole_number.specs.Range.{IsValue}
use Rattle.block_disk.specs.View.{Image, View}
use Rattle.catalog_page.specs.Entries.{Entry}
use Rattle.om3_coeff.specs.View.{Agrees}
use Rattle.om3_coeff.specs.Spans.{IsProperIfAny}
use Rattle.page_space.specs.Layout.{superblock_page, IsSuperblock, Keeps as KeepsPage}
use Rattle.page_space.specs.declared.superblock.Superblock.{Superblock}
use Rattle.series_book.specs.declared.limits.TheConstants.{MOST_SLOTS}
use Rattle.series_book.specs.Edits.{id_of}
use Rattle.series_book.specs.declared.one_series.Series.{Series}
use Rattle.series_store.specs.Asking.{IsBadPage, IsInfo}
use Rattle.series_store.specs.declared.series_info.SeriesInfo.{SeriesInfo}
use Rattle.series_catalog.specs.Catalogs.{entry_of, place_of, AreFit, AreAsTold}
use Rattle.series_catalog.specs.declared.stored_series.StoredSeries.{StoredSeries}
use Rattle.stored_book.proofs.NumberLemmas.{numbers, small_numbers}
use Rattle.stored_book.specs.Records.{entry, tree_of}
use Rattle.stored_book.specs.Standing.{IsStore, IsKept, StandsForBook}
use Rattle.tree_walk.specs.declared.tree.Tree.{Tree}
use Rattle.tree_walk.specs.declared.trail.Trail.{Trail}
use Rattle.tree_walk.specs.Paths.{IsDamaged}
use Rattle.tree_walk.specs.PagedNodes.{ground, paged_view, IsFit, IsTrail}
use Rattle.tree_walk.specs.SpaceViews.{space_view}
use Rattle.tree_walk.specs.Trees.{StandsFor}
use Rattle.tree_walk.proofs.StandingLemmas.{standing_agrees, standing_sound}

-- the pages stand for the book with the numbers that the store has
pub own_store : (size total : ℕ) (image : Image) (book : List Series) (s : Superblock) → IsSuperblock size s → s.total < 2 ^ 32
    → image 0 ≡ superblock_page s → StandsForBook image total book → IsStore image s book × (s.total ≡ total)
own_store size total image book s rules small spelled stands = numbers image total book s stands spelled
    (small_numbers s.total s small (record {
      total_low = rules.total_low;
      total_high = omega arith;
      fresh_low = rules.fresh_low;
      fresh_high = rules.fresh_high;
      head_is = rules.head_is;
      chain_high = rules.chain_high;
      none = rules.none;
      series_high = rules.series_high;
    }))

-- lists of as many elements that are alike have the same first place
same_first : {A : Type 0} → {B : Type 0} → (p : A → Bool) (q : B → Bool) (xs : List A) (ys : List B) → length xs ≡ length ys
    → ((k : ℕ) (x : A) (y : B) → slice_get xs k ≡ Some x → slice_get ys k ≡ Some y → p x ≡ q y)
    → position_or_len p xs ≡ position_or_len q ys
same_first p q [] [] long alike = refl
same_first p q [] (y ∷ ys) long alike = absurd (omega (arith, long))
same_first p q (x ∷ xs) [] long alike = absurd (omega (arith, long))
same_first p q (x ∷ xs) (y ∷ ys) long alike =
    let here : p x ≡ q y = alike 0 x y refl refl in
    let rest : position_or_len p xs ≡ position_or_len q ys = same_first p q xs ys (omega (arith, long))
    (λ k a b at at'. alike (suc k) a b at at') in
    ap (λ b. cond (not b) (1 + position_or_len p xs) 0) here ∙ ap (λ n. cond (not (q y)) (1 + n) 0) rest

same_place : {A : Type 0} → {B : Type 0} → (p : A → Bool) (q : B → Bool) (xs : List A) (ys : List B) → length xs ≡ length ys
    → ((k : ℕ) (x : A) (y : B) → slice_get xs k ≡ Some x → slice_get ys k ≡ Some y → p x ≡ q y) → position p xs ≡ position q ys
same_place p q xs ys long alike =
    let first = same_first p q xs ys long alike in
    ap (λ n. cond (ltb n (length xs)) (Some n) None) first
    ∙ ap (λ n. cond (ltb (position_or_len q ys) n) (Some (position_or_len q ys)) None) long

pub as_many : (image : Image) (s : Superblock) (book : List Series) (series : List StoredSeries) → IsStore image s book
    → length series ≡ s.series → length series ≡ length book
as_many image s book series store count = count ∙ store.series_are

-- the catalog finds a name where the book has it
pub same_id : (image : Image) (s : Superblock) (book : List Series) (series : List StoredSeries) (name : List ℕ) → IsStore image s book
    → length series ≡ s.series → AreAsTold image series → place_of name series ≡ id_of name book
unfolding place_of id_of
same_id image s book series name store count told =
    same_place (λ (one : StoredSeries). bytes_eq one.name name) (λ (one : Series). bytes_eq one.name name) series book
    (as_many image s book series store count)
    (λ k one two at at'. ap (λ n. bytes_eq n name) (sym (ap (λ (e : Entry). e.name) (told k one at))
    ∙ (store.kept k two at').record_is.name))

-- a series of the catalog and its record
pub kept_as : (image : Image) (s : Superblock) (book : List Series) (series : List StoredSeries) (id : ℕ) (one : StoredSeries)
    (two : Series) → IsStore image s book → AreAsTold image series → slice_get series id ≡ Some one → slice_get book id ≡ Some two
    → IsKept image s.total two (entry_of one)
kept_as image s book series id one two store told at at' =
    let P : Entry → Type 0 = λ e. IsKept image s.total two e in
    subst P (told id one at) (store.kept id two at')

-- and its tree stands for the slots of what its record and its tree stand for
pub kept_tree : (image : Image) (total : ℕ) (items : List StoredSeries) (id : ℕ) (one : StoredSeries) (series : Series)
    → AreAsTold image items → slice_get items id ≡ Some one → IsKept image total series (entry image id)
    → StandsFor image total one.tree series.slots
kept_tree image total items id one series told at kept =
    let P : Entry → Type 0 = λ e. IsKept image total series e in
    let as_told : IsKept image total series (entry_of one) = subst P (told id one at) kept in
    as_told.tree

pub info_is : (image : Image) (s : Superblock) (book : List Series) (series : List StoredSeries) (id : ℕ) (one : StoredSeries)
    (two : Series) (info : SeriesInfo) → IsStore image s book → AreAsTold image series → slice_get series id ≡ Some one
    → slice_get book id ≡ Some two
    → info.id ≡ id → info.start ≡ one.start → info.step ≡ one.step → info.scale ≡ one.scale → info.slots ≡ one.tree.slots
    → info.span ≡ one.tree.span → IsInfo two id info
info_is image s book series id one two info store told at at' id_is start step scale slots span =
    let is = kept_as image s book series id one two store told at at' in
    record {
      id_is = id_is;
      start = start ∙ is.record_is.start;
      step = step ∙ is.record_is.step;
      scale = scale ∙ is.record_is.scale;
      slots = slots ∙ is.tree.slots;
      span_is = span ∙ is.tree.root_span;
    }

-- the nodes of a selected series agree with its slots
pub agrees : (told : Type 0) (view under : View) (s : Superblock) (book : List Series) (series : List StoredSeries) (id : ℕ)
    (one : StoredSeries) (two : Series) (tree : Tree) (trail : Trail) → told → IsStore view.image s book → AreAsTold view.image series
    → slice_get series id ≡ Some one → slice_get book id ≡ Some two → tree ≡ one.tree
    → Agrees (paged_view (ground told view under s tree) trail) two.slots
agrees told view under s book series id one two tree trail t store as_told at at' same =
    let is = kept_as view.image s book series id one two store as_told at at' in
    let P : Tree → Type 0 = λ tr. StandsFor view.image s.total tr two.slots in
    standing_agrees (ground told view under s tree) trail two.slots t (subst P (sym same) is.tree)

pub there : {A : Type 0} (list : List A) (id : ℕ) → id < length list → (a : A) × (slice_get list id ≡ Some a)
there {A} [] id low = absurd (omega (arith, low))
there {A} (x ∷ xs) zero low = (x, refl)
there {A} (x ∷ xs) (suc id) low = there xs id (omega (arith, low))

-- a page of which the nodes of a series tell is damaged on the way to a key of its tree
pub bad_in : (told : Type 0) (view : View) (s : Superblock) (items : List StoredSeries) (id : ℕ) (one : StoredSeries) (tree : Tree)
    (page : ℕ) → (told → KeepsPage view.size s (view.image 0)) → length items ≡ s.series → (told → AreAsTold view.image items)
    → slice_get items id ≡ Some one → tree ≡ one.tree → (page < s.total) × (told → IsDamaged view.image s.total tree page)
    → IsBadPage told s.total view page
bad_in told view s items id one tree page keeps count says at same is =
    let E : Entry → Type 0 = λ e. IsDamaged view.image s.total (tree_of e) page in
    let T : Tree → Type 0 = λ t. IsDamaged view.image s.total t page in (
      is.0,
      λ t. record {
        numbers = s;
        keeps = keeps t;
        so = (
          is.0,
          inl (record {
            id = id;
            there = omega (arith, slice_get_within items id one at, count);
            damaged = subst E (sym (says t id one at)) (subst T same (is.1 t));
          }),
        );
      },
    )

-- and where the pages stand for a book, none is
pub whole_in : (image : Image) (s : Superblock) (book : List Series) (items : List StoredSeries) (id : ℕ) (one : StoredSeries)
    (two : Series) (tree : Tree) (page : ℕ) → IsStore image s book → AreAsTold image items → slice_get items id ≡ Some one
    → slice_get book id ≡ Some two → tree ≡ one.tree → IsDamaged image s.total tree page → ⊥
whole_in image s book items id one two tree page store told at at' same damaged =
    let is = kept_as image s book items id one two store told at at' in
    let P : Tree → Type 0 = λ t. StandsFor image s.total t two.slots in
    standing_sound image s.total tree two.slots page (subst P (sym same) is.tree) damaged

-- a record of the catalog that says what is in range names a tree that may be asked
pub tree_fits : (size : ℕ) (s : Superblock) (series : List StoredSeries) (id : ℕ) (one : StoredSeries) → IsSuperblock size s
    → AreFit s.fresh series → slice_get series id ≡ Some one → one.tree.root < s.total
tree_fits size s series id one rules fits at =
    let is = fits id one at in
    elim (zero_or_more one.tree.root) [
      | inl none ↦ omega (arith, none, rules.total_low)
      | inr some ↦ omega (arith, is.root.high (λ none. omega (arith, some, none)), rules.fresh_high)
    ]
  where
    zero_or_more : (n : ℕ) → (n ≡ 0) ⊎ (0 < n)
    zero_or_more zero = inl refl
    zero_or_more (suc n) = inr (omega arith)

pub fit : (told : Type 0) (view : View) (s : Superblock) (tree : Tree) (trail : Trail) → view.fit → tree.slots ≤ MOST_SLOTS
    → tree.root < s.total → IsProperIfAny tree.span → IsTrail told (space_view s view) tree trail
    → IsFit told (space_view s view) tree trail
fit told view s tree trail sound few root proper is = record {
  sound = sound;
  few = omega (arith, few);
  root = root;
  proper = proper;
  trail_is = is;
}

-- a start that is in range is one of 64 bits
pub start_same : (start : ℤ) → IsValue start → to_z w64 (of_z w64 start) ≡ start
start_same start few = to_z-of_z w64 start (fits_signed_from_abs w64 start (omega (arith, few)))

pub none_so : {X : Type 0} → (found : Option X) (P : Type 0) (Q : X → Type 0) → found ≡ None → P → MatchOption found P Q
none_so found P Q none is =
    let M : Option _ → Type 0 = λ o. MatchOption o P Q in
    subst M (sym none) is
