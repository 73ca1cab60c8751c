-- Two series of a store as two trees: what asks and turns keep of them.
use Rattle.std.proofs.Common.{◌≡◌, ◌∙◌, ◌⊎◌, ℕ, ℤ, ◌<◌, Bool, false, true, List, length, Option, Some, refl, sym, ap, subst, inl, inr}
use Rattle.std.proofs.Common.{arith}
use Rattle.std.specs.List.{slice_get}
use Rattle.block_disk.specs.Counts.{HasRisen}
use Rattle.block_disk.specs.View.{Image}
use Rattle.gate_pages.specs.declared.pages.Pages.{Ghosts}
use Rattle.om3_coeff.specs.View.{Agrees, HasCause, StaysSame}
use Rattle.om3_coeff.specs.declared.errors.NodeError.{NodeError}
use Rattle.om3_coeff.specs.declared.errors.NodeError.TheVariants.{DiskFault, Damaged, Missing, BadCoefficient}
use Rattle.page_space.specs.Shown as spaces
use Rattle.page_space.specs.declared.space.Space.{Space}
use Rattle.page_space.specs.declared.superblock.Superblock.{Superblock}
use Rattle.derived_chart.specs.Sums.{one_of}
use Rattle.retention.proofs.LookLemmas.{looks_asked, looks_none, looks_then}
use Rattle.retention.specs.Moving.{Looks, LooksOnly}
use Rattle.series_book.specs.declared.one_series.Series.{Series}
use Rattle.series_catalog.specs.Shown.{series_in}
use Rattle.series_catalog.specs.declared.catalog.Catalog.{Catalog}
use Rattle.series_catalog.specs.declared.stored_series.StoredSeries.{StoredSeries}
use Rattle.series_store.proofs.AskLemmas.{there}
use Rattle.series_store.proofs.SelectedLemmas.{agrees_at, whole_at}
use Rattle.series_store.specs.Asking.{IsTreeAt}
use Rattle.series_store.specs.Shown as shown
use Rattle.series_store.specs.declared.store.Store.{Store}
use Rattle.stored_book.specs.Standing.{StandsForBook}
use Rattle.tree_walk.specs.declared.tree.Tree.{Tree}
use Rattle.series_pair.specs.Damage.{IsBadOnWay}
use Rattle.series_pair.specs.DamageLaws.{way_at, way_later}
use Rattle.series_pair.specs.Asking.{ArePair, Causes, GoesPair, IsPair, IsReady, KeepsPair, count, pair_view}
use Rattle.series_pair.specs.Pairs.{counted, side_of, slots_at, slots_of}
use Rattle.series_pair.specs.declared.store_pair.StorePair.{StorePair}

-- the one that is asked is there
pub low_side : (second : Bool) (x y n : ℕ) → x < n → y < n → side_of second x y < n
low_side false x y n first other = first
low_side true x y n first other = other

-- it is the one or the other
one_side : (second : Bool) (x y : ℕ) → (side_of second x y ≡ x) ⊎ (side_of second x y ≡ y)
one_side false x y = inl refl
one_side true x y = inr refl

-- what a tree of a catalog is of its series
pub slots_there : (catalog : List StoredSeries) (id : ℕ) (tree : Tree) → id < length catalog → IsTreeAt catalog id tree
    → tree.slots ≡ slots_at catalog id
slots_there catalog id tree low is =
    let one = there catalog id low in
    ap (λ (t : Tree). t.slots) (is one.0 one.1) ∙ sym (ap slots_of one.1)

-- of the one that is asked the nodes tell what the catalog does
counted_each : (side now : Bool) (asked : ℕ) (each : Bool → ℕ) → asked ≡ each now → counted side now asked (each side) ≡ each side
counted_each false false asked each is = is
counted_each false true asked each is = refl
counted_each true false asked each is = refl
counted_each true true asked each is = is

counted_here : (now : Bool) (asked : ℕ) (each : Bool → ℕ) → asked ≡ counted now now asked (each now)
counted_here false asked each = refl
counted_here true asked each = refl

module _ {P : Type 0} {g : Ghosts P} where
  pub pair_keeps : (at : StorePair P g) → KeepsPair at at
  pair_keeps at = record {
    reference = refl;
    side = refl;
    first = refl;
    second = refl;
    store = shown.selected_keeps at.store.now;
    faults = omega arith;
  }

  pub pair_keeps_on : {old mid new : StorePair P g} → KeepsPair old mid → KeepsPair mid new → KeepsPair old new
  pair_keeps_on {old} {mid} {new} before after = record {
    reference = after.reference ∙ before.reference;
    side = after.side ∙ before.side;
    first = after.first ∙ before.first;
    second = after.second ∙ before.second;
    store = shown.selected_keeps_on old.store.now mid.store.now new.store.now before.store after.store;
    faults = omega (arith, before.faults, after.faults);
  }

  nodes_stay : {old new : StorePair P g} → KeepsPair old new → StaysSame (shown.nodes old.store.now) (shown.nodes new.store.now)
  nodes_stay {old} {new} kept = shown.selected_stays old.store.now new.store.now kept.store

  pub pair_stays : {old new : StorePair P g} → KeepsPair old new → StaysSame (pair_view old) (pair_view new)
  pair_stays {old} {new} kept =
      let same = nodes_stay kept in
      record {
        slots = same.slots;
        root = same.root;
        tells = same.tells;
        has_told = same.has_told;
        told = same.told;
        bad = same.bad;
        was_bad = same.was_bad;
      }

  -- they keep that it is a pair, and how many slots each has
  pub asks_keep_pair : {old new : StorePair P g} → KeepsPair old new → IsPair old → IsPair new
  asks_keep_pair {old} {new} kept pair =
      let catalog = kept.store.catalog in
      let many : length (shown.catalog new.store.now) ≡ length
      (shown.catalog old.store.now) = ap (λ (c : Catalog). length (series_in c)) catalog in
      let id : side_of new.is_second new.x new.y ≡ side_of old.is_second old.x
      old.y = (λ i. side_of (kept.side i) (kept.first i) (kept.second i)) in
      let T : Tree → Type 0 = λ t. IsTreeAt (shown.catalog new.store.now) (side_of new.is_second new.x new.y) t in
      let C : Catalog → Type 0 = λ c. IsTreeAt (series_in c) (side_of new.is_second new.x new.y) old.store.now.tree in
      let I : ℕ → Type 0 = λ n. IsTreeAt (shown.catalog old.store.now) n old.store.now.tree in
      record {
        first = omega (arith, many, kept.first, pair.first);
        second = omega (arith, many, kept.second, pair.second);
        selected = subst T (sym kept.store.pages.tree) (subst C (sym catalog) (subst I (sym id) pair.selected));
      }

  asks_keep_counts : {old new : StorePair P g} → KeepsPair old new → (side : Bool) → count side new ≡ count side old
  asks_keep_counts {old} {new} kept side =
      let slots = (nodes_stay kept).slots in
      let catalog = kept.store.catalog in
      λ i. counted side (kept.side i) (slots i) (slots_at (series_in (catalog i)) (side_of side (kept.first i) (kept.second i)))

  -- of a pair the catalog tells it of each
  pub count_is : (side : Bool) (at : StorePair P g) → IsPair at
      → count side at ≡ slots_at (shown.catalog at.store.now) (side_of side at.x at.y)
  count_is side at pair =
      let store = at.store.now in
      let here = slots_there (shown.catalog store) (side_of at.is_second at.x at.y) (shown.selected store)
      (low_side at.is_second at.x at.y (length (shown.catalog store)) pair.first pair.second) pair.selected in
      counted_each side at.is_second (shown.nodes store).slots (λ s. slots_at (shown.catalog store) (side_of s at.x at.y)) here

  -- a turn leaves it
  turns_keep_counts : (old new : StorePair P g) → IsPair old → IsPair new → new.store.now.catalog ≡ old.store.now.catalog → new.x ≡ old.x
      → new.y ≡ old.y → (side : Bool) → count side new ≡ count side old
  turns_keep_counts old new was is catalog first second side =
      count_is side new is ∙ (λ i. slots_at (series_in (catalog i)) (side_of side (first i) (second i))) ∙ sym (count_is side old was)

  pub looks_nowhere : (at : Store P g) → LooksOnly at at
  looks_nowhere at = looks_none (shown.IsTold at) (shown.view at) (shown.under at) (shown.numbers at) (shown.kept_catalog at)

  pub looks_on : (old mid new : Store P g) → LooksOnly old mid → LooksOnly mid new → LooksOnly old new
  looks_on old mid new before after =
      looks_then (shown.IsTold old) (shown.IsTold mid) (shown.IsTold new) (shown.view old) (shown.view mid) (shown.view new)
      (shown.under old) (shown.under mid) (shown.under new)
      (shown.numbers old) (shown.numbers mid) (shown.numbers new) (shown.kept_catalog old) (shown.kept_catalog mid)
      (shown.kept_catalog new) before after

  -- another series is selected
  looks_same : (old new : Store P g) → new.space ≡ old.space → new.catalog ≡ old.catalog → LooksOnly old new
  looks_same old new space catalog =
      let S : Space P g → Type 0 = λ s. Looks (shown.IsTold old) (g.told (spaces.pages s)) (shown.view old) (g.view (spaces.pages s))
      (shown.under old) (g.under (spaces.pages s)) (shown.numbers old) (spaces.numbers s) old.catalog new.catalog in
      let C : Catalog → Type 0 = λ c. Looks (shown.IsTold old) (shown.IsTold old) (shown.view old) (shown.view old) (shown.under old)
      (shown.under old) (shown.numbers old) (shown.numbers old) old.catalog c in
      subst S (sym space) (subst C (sym catalog) (looks_nowhere old))

  -- it is the one at this side
  pub selects_side : (old new : Store P g) (id side : ℕ) → id ≡ side → new.catalog ≡ old.catalog
      → ((series : StoredSeries) → slice_get (shown.catalog old) id ≡ Some series → shown.selected new ≡ series.tree)
      → shown.Selects new side
  selects_side old new id side same catalog slots = λ one at.
      let C : Catalog → Type 0 = λ c. slice_get (series_in c) side ≡ Some one in
      let I : ℕ → Type 0 = λ n. slice_get (shown.catalog old) n ≡ Some one in
      slots one (subst I (sym same) (subst C catalog at))

  pub turns_go : (old new : StorePair P g) → new.store.ghost_name ≡ old.store.ghost_name → new.x ≡ old.x → new.y ≡ old.y
      → new.store.now.space ≡ old.store.now.space → new.store.now.catalog ≡ old.store.now.catalog → IsPair old → IsPair new
      → GoesPair old new
  turns_go old new reference first second space catalog was is = record {
    reference = reference;
    first = first;
    second = second;
    looks = looks_same old.store.now new.store.now space catalog;
    pair = λ pair. is;
    counts = turns_keep_counts old new was is catalog first second;
  }

  pub pair_goes_nowhere : (at : StorePair P g) → GoesPair at at
  pair_goes_nowhere at = record {
    reference = refl;
    first = refl;
    second = refl;
    looks = looks_nowhere at.store.now;
    pair = λ is. is;
    counts = λ side. refl;
  }

  pub pair_goes_on : {old mid new : StorePair P g} → GoesPair old mid → GoesPair mid new → GoesPair old new
  pair_goes_on {old} {mid} {new} before after = record {
    reference = after.reference ∙ before.reference;
    first = after.first ∙ before.first;
    second = after.second ∙ before.second;
    looks = looks_on old.store.now mid.store.now new.store.now before.looks after.looks;
    pair = λ is. after.pair (before.pair is);
    counts = λ side. after.counts side ∙ before.counts side;
  }

  asks_look : {old new : StorePair P g} → KeepsPair old new → LooksOnly old.store.now new.store.now
  asks_look {old} {new} kept =
      let o = old.store.now in
      let n = new.store.now in
      looks_asked (shown.IsTold o) (shown.IsTold n) (shown.view o) (shown.view n) (shown.under o) (shown.under n)
      (shown.numbers o) (shown.numbers n) (shown.selected o) (shown.selected n) (shown.kept_catalog o)
      (shown.kept_catalog n) kept.store.pages kept.faults kept.store.catalog

  pub asks_are_steps : {old new : StorePair P g} → KeepsPair old new → GoesPair old new
  asks_are_steps kept = record {
    reference = kept.reference;
    first = kept.first;
    second = kept.second;
    looks = asks_look kept;
    pair = asks_keep_pair kept;
    counts = asks_keep_counts kept;
  }

  -- a pair stays ready
  pub still_ready : {old new : StorePair P g} → GoesPair old new → IsReady old → IsReady new
  still_ready going ready = (going.looks.fit ready.0, going.pair ready.1)

  -- the pages stand for the same book behind a look
  pub stands_later : (old new : Store P g) (total : ℕ) (book : List Series) → LooksOnly old new → shown.IsTold old
      → StandsForBook (shown.image old) total book → StandsForBook (shown.image new) total book
  stands_later old new total book looks told stands =
      let I : Image → Type 0 = λ i. StandsForBook i total book in
      subst I (sym (looks.image told)) stands

  pub still_are_pair : {old new : StorePair P g} {xs ys : List (Option ℤ)} → GoesPair old new → ArePair old xs ys → ArePair new xs ys
  still_are_pair {old} {new} going are = record {
    ready = still_ready going are.ready;
    told = going.looks.told are.told;
    total = are.total;
    book = are.book;
    stands = stands_later old.store.now new.store.now are.total are.book going.looks are.told are.stands;
    one = are.one;
    other = are.other;
    first = ap (λ n. slice_get are.book n) going.first ∙ are.first;
    second = ap (λ n. slice_get are.book n) going.second ∙ are.second;
    first_is = are.first_is;
    second_is = are.second_is;
  }

  side_agrees : (second : Bool) (at : StorePair P g) (xs ys : List (Option ℤ)) → ArePair at xs ys
      → shown.Selects at.store.now (side_of second at.x at.y) → Agrees (shown.nodes at.store.now) (one_of second xs ys)
  side_agrees false at xs ys are selected =
      let L : List (Option ℤ) → Type 0 = λ l. Agrees (shown.nodes at.store.now) l in
      subst L are.first_is (agrees_at at.store.now are.total are.book at.x are.one are.ready.0 are.told are.stands are.ready.1.first
      selected are.first)
  side_agrees true at xs ys are selected =
      let L : List (Option ℤ) → Type 0 = λ l. Agrees (shown.nodes at.store.now) l in
      subst L are.second_is (agrees_at at.store.now are.total are.book at.y are.other are.ready.0 are.told are.stands are.ready.1.second
      selected are.second)

  pub pair_agrees : {at : StorePair P g} {xs ys : List (Option ℤ)} → ArePair at xs ys → Agrees (pair_view at) (one_of at.is_second xs ys)
  pair_agrees {at} {xs} {ys} are =
      let a = side_agrees at.is_second at xs ys are are.ready.1.selected in
      record { values = a.values; few = a.few; slots = a.slots; root = a.root; tells = a.tells; told = a.told }

  pub pair_counts : (at : StorePair P g) → (pair_view at).slots ≡ count at.is_second at
  pair_counts at = counted_here at.is_second (shown.nodes at.store.now).slots
      (λ s. slots_at (shown.catalog at.store.now) (side_of s at.x at.y))

  pub asks_have_cause : (e : NodeError) {old new : StorePair P g} → KeepsPair old new → HasCause (pair_view old) (pair_view new) e
      → Causes old new e
  asks_have_cause DiskFault kept cause = λ ready. cause
  asks_have_cause (Damaged page) {old} {new} kept bad = λ ready.
      let o = old.store.now in
      let n = new.store.now in
      let id = side_of old.is_second old.x old.y in
      let low = low_side old.is_second old.x old.y (length (shown.catalog o)) ready.1.first ready.1.second in (
        way_later (shown.IsTold o) (shown.IsTold n) (shown.view o) (shown.view n) (shown.under o) (shown.under n) (shown.numbers o)
            (shown.numbers n)
            (shown.kept_catalog o) (shown.kept_catalog n) old.x old.y (shown.total o) page (asks_look kept)
            (way_at o old.x old.y id page (one_side old.is_second old.x old.y) ready.0 low ready.1.selected bad),
        whole_at o id page ready.0 low ready.1.selected bad,
      )
  asks_have_cause (Missing key) kept never = λ ready. never
  asks_have_cause (BadCoefficient key) kept never = λ ready. never

  pub causes_later : (e : NodeError) (old mid new : StorePair P g) → GoesPair old mid
      → (shown.view mid.store.now).faults ≡ (shown.view old.store.now).faults → Causes mid new e → Causes old new e
  causes_later DiskFault old mid new going quiet cause = λ ready.
      let R : ℕ → Type 0 = λ n. HasRisen n (shown.view new.store.now).faults in
      subst R quiet (cause (still_ready going ready))
  causes_later (Damaged page) old mid new going quiet cause = λ ready.
      let is = cause (still_ready going ready) in
      let N : Superblock → Type 0 = λ s. IsBadOnWay old.x old.y (shown.IsTold new.store.now) s.total (shown.view new.store.now) page in
      let X : ℕ → Type 0 = λ n. IsBadOnWay n mid.y (shown.IsTold new.store.now) (shown.total mid.store.now)
      (shown.view new.store.now) page in
      let Y : ℕ → Type 0 = λ n. IsBadOnWay old.x n (shown.IsTold new.store.now) (shown.total mid.store.now)
      (shown.view new.store.now) page in (
        subst N going.looks.superblock (subst Y going.second (subst X going.first is.0)),
        λ total book told stands. is.1 total book (going.looks.told told)
            (stands_later old.store.now mid.store.now total book going.looks told stands),
      )
  causes_later (Missing key) old mid new going quiet cause = λ ready. cause (still_ready going ready)
  causes_later (BadCoefficient key) old mid new going quiet cause = λ ready. cause (still_ready going ready)
