-- The values of all series are counted, and what a check finds is told of the pages.
use Rattle.std.proofs.Common.{◌≡◌, ℕ, ℤ, zero, suc, ◌+◌, ◌*◌, ◌^◌, ◌<◌, ◌≤◌, List, [], ◌∷◌, length, take, get_or, Option, Some, refl, sym}
use Rattle.std.proofs.Common.{ap, subst, arith, inl, inr, ◌∙◌}
use Rattle.std.specs.List.{slice_get}
use Rattle.std.proofs.lemmas.Bool.{cases_lt}
use Rattle.std.proofs.lemmas.List.Sums.{sum_by_more}
use Rattle.std.proofs.lemmas.Option.{slice_get-get_or, slice_get_within, same_Some}
use Rattle.std.proofs.Math.Nat.{pow-le-pow_right}
use Rattle.block_disk.specs.View.{Image, View, Rises}
use Rattle.catalog_page.specs.Entries.{Entry}
use Rattle.om3_coeff.specs.Keys.{page_levels}
use Rattle.om3_coeff.specs.Spans.{span}
use Rattle.whole_number.specs.Range.{IsValue}
use Rattle.page_space.specs.declared.superblock.Superblock.{Superblock}
use Rattle.page_space.specs.Spaces.{Stands}
use Rattle.path_repair.specs.Sums.{sum_below}
use Rattle.path_repair.specs.TreePages.{tree_pages}
use Rattle.path_repair.proofs.SumLemmas.{sum_suc, sum_same, sum_upto, length_join}
use Rattle.series_book.specs.declared.limits.TheConstants.{MOST_SLOTS}
use Rattle.series_book.specs.declared.one_series.Series.{Series}
use Rattle.series_catalog.specs.Catalogs.{AreAsTold}
use Rattle.series_catalog.specs.declared.stored_series.StoredSeries.{StoredSeries}
use Rattle.series_catalog.proofs.ReadLemmas.{risen_on}
use Rattle.stored_book.specs.Records.{pages_of_tree, pages_of_trees}
use Rattle.stored_book.specs.Standing.{IsStore}
use Rattle.stored_book.proofs.PagesInUse.{in_use_is}
use Rattle.tree_walk.specs.declared.tree.Tree.{Tree}
use Rattle.tree_walk.specs.Holding.{KeptWalking}
use Rattle.tree_walk.specs.Trees.{top_of_page, IsTree, StandsFor}
use Rattle.path_repair.specs.Damage.{HasBadLink}
use Rattle.series_store.specs.Counting.{values_in, values_of, values_below, pages_of_series, pages_of_root, Looks, HasBadPage, HasBadTree}
use Rattle.series_store.specs.Counting.{HasBadTreeOf, IsSoundTree, IsSoundChain, AreSound, AreSoundTrees, IsTreesCause, IsChainCause}
use Rattle.series_store.specs.Counting.{IsCheckCause}
use Rattle.series_store.specs.declared.errors.StoreError.{StoreError}
use Rattle.series_store.specs.declared.errors.StoreError.TheVariants.{Refused, NotAStore, DiskFault, Damaged, NoMemory}
use Rattle.series_store.proofs.AskLemmas.{kept_as}
use Rattle.series_store.proofs.LookLemmas.{looks_then}
use Rattle.series_store.proofs.ValueLemmas.{values_all}

pub some_at : {X : Type 0} → (xs : List X) (i : ℕ) → i < length xs → (x : X) × (slice_get xs i ≡ Some x)
some_at [] i within = absurd (omega (arith, within))
some_at (x ∷ xs) zero within = (x, refl)
some_at (x ∷ xs) (suc i) within = some_at xs i (omega (arith, within))

-- the tree of a series of the catalog stands for that of the book
pub tree_stands : (image : Image) (s : Superblock) (book : List Series) (items : List StoredSeries) (id : ℕ) (one : StoredSeries)
    (two : Series) → IsStore image s book → AreAsTold image items → slice_get items id ≡ Some one → slice_get book id ≡ Some two
    → StandsFor image s.total one.tree two.slots
tree_stands image s book items id one two store told there there' = (kept_as image s book items id one two store told there there').tree

-- its root's page and span stand for all slots
pub record RootStands (image : Image) (total : ℕ) (tree : Tree) (list : List (Option ℤ)) (levels : ℕ) : Type 0 where
  pub pages : IsTree image total list levels 0 tree.root
  pub top_is : tree.span ≡ span list (top_of_page levels 0)

pub root_stands : (image : Image) (total : ℕ) (tree : Tree) (list : List (Option ℤ)) (levels : ℕ) → levels ≡ page_levels tree.slots
    → StandsFor image total tree list → RootStands image total tree list levels
root_stands image total tree list levels is stands =
    let same : levels ≡ page_levels (length list) = is ∙ ap page_levels stands.slots in
    let P : ℕ → Type 0 = λ l. IsTree image total list l 0 tree.root in
    let S : ℕ → Type 0 = λ l. tree.span ≡ span list (top_of_page l 0) in
    record { pages = subst P (sym same) stands.pages; top_is = subst S (sym same) stands.root_span }

root_pages : (image : Image) (items : List StoredSeries) (id : ℕ) (one : StoredSeries) → slice_get items id ≡ Some one
    → pages_of_root image items id ≡ length (tree_pages image (page_levels one.tree.slots) one.tree.root)
root_pages image items id one there = ap (λ (found : Option StoredSeries). pages_of_series image found) there

-- the trees of the first so many series are counted, and each page of theirs was read once
pub record AreCounted (told told' : Type 0) (old new under under' : View) (s s' : Superblock) (items : List StoredSeries)
    (values count : ℕ) : Type 0 where
  pub looks : Looks told told' old new under under' s s'
  pub few : values ≤ count * MOST_SLOTS
  pub counts : (book : List Series) → told → IsStore old.image s book → AreAsTold old.image items → length items ≡ length book
      → values ≡ values_of (take count book)
  pub reads : told → new.reads ≤ old.reads + sum_below (pages_of_root old.image items) count
  pub whole : told → (id : ℕ) (one : StoredSeries) → id < count → slice_get items id ≡ Some one
      → IsSoundTree old.image s.total one.tree.slots (page_levels one.tree.slots) 0 one.tree.root one.tree.span

pub near_root : (levels : ℕ) → levels ≤ 5 → (0 + 1) * 128 ^ levels ≤ MOST_SLOTS
near_root levels low =
    let some : 0 < 128 = omega arith in
    let most : 128 ^ levels ≤ 128 ^ 5 = pow-le-pow_right some low in
    omega (arith, most)

pub few_values : (more levels : ℕ) → levels ≤ 5 → more ≤ 128 ^ levels → more ≤ MOST_SLOTS
few_values more levels low few =
    let some : 0 < 128 = omega arith in
    let most : 128 ^ levels ≤ 128 ^ 5 = pow-le-pow_right some low in
    omega (arith, few, most)

few_more : (values more count p : ℕ) → values ≤ count * p → more ≤ p → values + more ≤ (count + 1) * p
few_more values more count p few less = omega (arith, few, less)

-- the values of one series more
more_values : (book : List Series) (count values more : ℕ) (two : Series) → slice_get book count ≡ Some two
    → values ≡ values_of (take count book) → more ≡ values_in two.slots → values + more ≡ values_of (take (count + 1) book)
more_values book count values more two there sum here =
    let within : count < length book = slice_get_within book count two there in
    let is : get_or book count two ≡ two = same_Some (get_or book count two) two (sym (slice_get-get_or book count two within) ∙ there) in
    omega (
      arith,
      sum,
      here,
      sum_by_more (λ (series : Series). values_in series.slots) book count two within,
      ap (λ (series : Series). values_in series.slots) is,
    )

covered : (list : List (Option ℤ)) (slots levels : ℕ) → slots ≡ length list → slots ≤ 128 ^ levels → length list ≤ 128 ^ levels
covered list slots levels is few = omega (arith, is, few)

sound_here : (old mid : Image) (total total' levels : ℕ) (one two : StoredSeries) → mid ≡ old → total' ≡ total
    → levels ≡ page_levels one.tree.slots → one ≡ two → IsSoundTree mid total' one.tree.slots levels 0 one.tree.root one.tree.span
    → IsSoundTree old total two.tree.slots (page_levels two.tree.slots) 0 two.tree.root two.tree.span
sound_here old mid total total' levels one two same same_total is one_is sound =
    let I : Image → Type 0 = λ image. IsSoundTree image total' one.tree.slots levels 0 one.tree.root one.tree.span in
    let T : ℕ → Type 0 = λ n. IsSoundTree old n one.tree.slots levels 0 one.tree.root one.tree.span in
    let L : ℕ → Type 0 = λ l. IsSoundTree old total one.tree.slots l 0 one.tree.root one.tree.span in
    let O : StoredSeries → Type 0 = λ x. IsSoundTree old total x.tree.slots (page_levels x.tree.slots) 0 x.tree.root x.tree.span in
    subst O one_is (subst L is (subst T same_total (subst I same sound)))

-- what the tree of a series stands for at the moment at which it is counted
pub stands_then : (old mid : Image) (s s' : Superblock) (book : List Series) (items : List StoredSeries) (id levels : ℕ)
    (one : StoredSeries) (two : Series) → mid ≡ old → s' ≡ s → IsStore old s book → AreAsTold old items
    → slice_get items id ≡ Some one → slice_get book id ≡ Some two → levels ≡ page_levels one.tree.slots
    → RootStands mid s'.total one.tree two.slots levels
stands_then old mid s s' book items id levels one two same same_numbers store are there there' is =
    let I : Image → Type 0 = λ image. RootStands image s'.total one.tree two.slots levels in
    let S : Superblock → Type 0 = λ x. RootStands old x.total one.tree two.slots levels in
    subst I (sym same) (subst S (sym same_numbers) (root_stands old s.total one.tree two.slots levels is
    (tree_stands old s book items id one two store are there there')))

pub trees_on : (told told' told'' : Type 0) (old mid new under under' under'' : View) (s s' s'' : Superblock) (items : List StoredSeries)
    (one : StoredSeries) (values more count levels : ℕ) → AreCounted told told' old mid under under' s s' items values count
    → slice_get items count ≡ Some one → levels ≡ page_levels one.tree.slots → levels ≤ 5 → one.tree.slots ≤ 128 ^ levels
    → Looks told' told'' mid new under' under'' s' s'' → more ≤ 128 ^ levels
    → ((list : List (Option ℤ)) → told' → ((i : ℕ) (v : ℤ) → slice_get list i ≡ Some (Some v) → IsValue v) → length list ≡ one.tree.slots
    → IsTree mid.image s'.total list levels 0 one.tree.root → one.tree.span ≡ span list (top_of_page levels 0)
    → more ≡ values_below list levels 0)
    → (told' → Rises (length (tree_pages mid.image levels one.tree.root)) mid.reads new.reads)
    → (told' → IsSoundTree mid.image s'.total one.tree.slots levels 0 one.tree.root one.tree.span)
    → AreCounted told told'' old new under under'' s s'' items (values + more) (count + 1)
trees_on told told' told'' old mid new under under' under'' s s' s'' items one values more count levels way there is low covers looks few
    counts reads whole = record {
      looks = looks_then told told' told'' old mid new under under' under'' s s' s'' way.looks looks;
      few = few_more values more count (MOST_SLOTS) way.few (few_values more levels low few);
      counts = λ book t store are long.
          let two = some_at book count (omega (arith, long, slice_get_within items count one there)) in
          let stands = tree_stands old.image s book items count one two.0 store are there two.1 in
          let root = stands_then old.image mid.image s s' book items count levels one two.0
          (way.looks.kept.image t) way.looks.over.superblock store are there two.1 is in
          let here : more ≡ values_below two.0.slots levels 0 = counts two.0.slots (way.looks.kept.told t) stands.values
          (sym stands.slots) root.pages root.top_is in
          more_values book count values more two.0 two.1 (way.counts book t store are long) (here
          ∙ values_all two.0.slots levels (covered two.0.slots one.tree.slots levels stands.slots covers));
      reads = λ t.
          let next : suc count ≡ count + 1 = omega arith in
          let P : ℕ → Type 0 = λ n. new.reads ≤ old.reads + sum_below (pages_of_root old.image items) n in
          let I : Image → Type 0 = λ image. new.reads ≤ mid.reads + length (tree_pages image levels one.tree.root) in
          let L : ℕ → Type 0 = λ l. new.reads ≤ mid.reads + length (tree_pages old.image l one.tree.root) in
          let here : new.reads ≤ mid.reads + pages_of_root old.image items count = omega (
            arith,
            root_pages old.image items count one there,
            subst L is (subst I (way.looks.kept.image t) (reads (way.looks.kept.told t)).high),
          ) in
          subst P next (omega (arith, way.reads t, here, sum_suc (pages_of_root old.image items) count));
      whole = λ t id other below found. elim (cases_lt id count) [
        | inl before ↦ way.whole t id other before found
        | inr past ↦
            let at : id ≡ count = omega (arith, below, past) in
            let one_is : one ≡ other = same_Some one other (sym there ∙ ap (slice_get items) (sym at) ∙ found) in
            sound_here old.image mid.image s.total s'.total levels one other (way.looks.kept.image t)
            (ap (λ (x : Superblock). x.total) way.looks.over.superblock) is one_is (whole (way.looks.kept.told t))
      ];
    }

-- where some of the pages of one more tree were read, no more were than all trees have
pub trees_read : (told told' told'' : Type 0) (old mid new under under' under'' : View) (s s' s'' : Superblock) (items : List StoredSeries)
    (one : StoredSeries) (values count levels : ℕ) → AreCounted told told' old mid under under' s s' items values count
    → slice_get items count ≡ Some one → levels ≡ page_levels one.tree.slots
    → (told' → Rises (length (tree_pages mid.image levels one.tree.root)) mid.reads new.reads)
    → told → new.reads ≤ old.reads + sum_below (pages_of_root old.image items) (length items)
trees_read told told' told'' old mid new under under' under'' s s' s'' items one values count levels way there is reads t =
    let I : Image → Type 0 = λ image. new.reads ≤ mid.reads + length (tree_pages image levels one.tree.root) in
    let L : ℕ → Type 0 = λ l. new.reads ≤ mid.reads + length (tree_pages old.image l one.tree.root) in
    omega (
      arith,
      way.reads t,
      root_pages old.image items count one there,
      subst L is (subst I (way.looks.kept.image t) (reads (way.looks.kept.told t)).high),
      sum_upto (pages_of_root old.image items) count (length items) (slice_get_within items count one there),
    )

-- where pages stand for a book, its trees and the chain share no page
trees_length : (image : Image) (items : List StoredSeries) (count : ℕ) → AreAsTold image items → length items ≡ count
    → sum_below (pages_of_root image items) (length items) ≡ length (pages_of_trees image count)
trees_length image items count are long =
    let same = sum_same (pages_of_root image items) (λ id. length (pages_of_tree image id)) (length items) (λ id low.
    let one = some_at items id low in
    root_pages image items id one.0 one.1 ∙ ap (λ (e : Entry). length (tree_pages image (page_levels e.slots) e.root))
    (sym (are id one.0 one.1))) in
    same ∙ ap (λ n. sum_below (λ id. length (pages_of_tree image id)) n) long ∙ sym (length_join (pages_of_tree image) count)

pub once_read : (image : Image) (s : Superblock) (book : List Series) (items : List StoredSeries) (before mid after : ℕ)
    → IsStore image s book → AreAsTold image items → length items ≡ length book
    → mid ≤ before + sum_below (pages_of_root image items) (length items) → after ≤ mid + s.chain → after + 17 ≤ before + s.fresh
once_read image s book items before mid after store are long trees chain =
    omega (
      arith,
      trees,
      chain,
      trees_length image items (length book) are long,
      in_use_is s.total image s (pages_of_trees image (length book)) store.freed store.stands,
      store.stands.rules.chain_high,
    )

pub trees_whole : (image : Image) (total count : ℕ) (items : List StoredSeries) → count ≡ length items
    → ((id : ℕ) (one : StoredSeries) → id < count → slice_get items id ≡ Some one
    → IsSoundTree image total one.tree.slots (page_levels one.tree.slots) 0 one.tree.root one.tree.span)
    → AreSoundTrees image total items
trees_whole image total count items end whole id one there = whole id one (omega (arith, end, slice_get_within items id one there)) there

-- the pages say of their series what the catalog in memory says
told_bad : (image : Image) (s : Superblock) (items : List StoredSeries) (at : ℕ) → AreAsTold image items → length items ≡ s.series
    → HasBadTreeOf image s.total items at → HasBadTree image s at
told_bad image s items at are long bad =
    let P : Entry → Type 0 = λ e. HasBadPage image s.total e.slots (page_levels e.slots) 0 e.root e.span at in
    record {
      id = bad.id;
      within = omega (arith, long, slice_get_within items bad.id bad.one bad.there);
      bad = subst P (sym (are bad.id bad.one bad.there)) bad.bad;
    }

pub check_trees : (e : StoreError) (told : Type 0) (old new : View) (s : Superblock) (items : List StoredSeries)
    → (told → AreAsTold old.image items) → length items ≡ s.series → IsTreesCause e told old new s.total items
    → IsCheckCause e told s old new
check_trees (Refused refusal) told old new s items are long bad = bad
check_trees NotAStore told old new s items are long bad = bad
check_trees DiskFault told old new s items are long bad = bad
check_trees (Damaged at) told old new s items are long bad = λ t. inl (told_bad old.image s items at (are t) long (bad t))
check_trees NoMemory told old new s items are long bad = tt

pub check_chain : (e : StoreError) (told told' : Type 0) (old mid new : View) (s s' : Superblock) → KeptWalking told told' old mid
    → mid.faults ≡ old.faults → s' ≡ s → IsChainCause e told' s' mid new → IsCheckCause e told s old new
check_chain (Refused refusal) told told' old mid new s s' kept quiet same bad = bad
check_chain NotAStore told told' old mid new s s' kept quiet same bad = bad
check_chain DiskFault told told' old mid new s s' kept quiet same bad = risen_on old.faults mid.faults new.faults quiet bad
check_chain (Damaged at) told told' old mid new s s' kept quiet same bad = λ t.
    let I : Image → Type 0 = λ image. HasBadLink image s' s'.chain at in
    let S : Superblock → Type 0 = λ x. HasBadLink old.image x x.chain at in
    inr (subst S same (subst I (kept.image t) (bad (kept.told t))))
check_chain NoMemory told told' old mid new s s' kept quiet same bad = tt

pub check_whole : (told told' : Type 0) (old mid : View) (s s' : Superblock) (items : List StoredSeries) → KeptWalking told told' old mid
    → s' ≡ s → (told → AreAsTold old.image items) → length items ≡ s.series → (told → AreSoundTrees old.image s.total items)
    → (told' → IsSoundChain mid.image s' s'.chain)
    → told → AreSound old.image s
check_whole told told' old mid s s' items kept same are long trees chain t =
    let I : Image → Type 0 = λ image. IsSoundChain image s' s'.chain in
    let S : Superblock → Type 0 = λ x. IsSoundChain old.image x x.chain in
    record {
      trees = λ id within.
          let one = some_at items id (omega (arith, long, within)) in
          let P : Entry → Type 0 = λ e. IsSoundTree old.image s.total e.slots (page_levels e.slots) 0 e.root e.span in
          subst P (sym (are t id one.0 one.1)) (trees t id one.0 one.1);
      chain = subst S same (subst I (kept.image t) (chain (kept.told t)));
    }

-- the same pages stand with the same numbers
pub stands_on : (old mid : Image) (s s' : Superblock) (count : ℕ) (taken freed : List ℕ) → mid ≡ old → s' ≡ s
    → Stands count old s taken freed → Stands count mid s' taken freed
stands_on old mid s s' count taken freed same same_numbers stands =
    let I : Image → Type 0 = λ image. Stands count image s' taken freed in
    let S : Superblock → Type 0 = λ x. Stands count old x taken freed in
    subst I (sym same) (subst S (sym same_numbers) stands)
