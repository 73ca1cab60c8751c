-- The way from the root to a key, step by step.
use Rattle.std.proofs.Common.{◌≡◌, ◌≢◌, ℕ, suc, ◌+◌, ◌-◌, ◌*◌, ◌/◌, ◌%◌, ◌^◌, ◌<◌, ◌≤◌, List, Some, sym, ap, subst, inl, inr, ◌∙◌, arith}
use Rattle.std.proofs.lemmas.Bool.{cases_lt}
use Rattle.std.proofs.lemmas.Nat.{shr-shr}
use Rattle.block_disk.specs.View.{Image, View, Now}
use Rattle.block_disk.specs.Counts.{HasRisen}
use Rattle.block_disk.proofs.Passing.{passes_weaker, now_back}
use Rattle.gate_pages.specs.Pages.{Quiet, Reads}
use Rattle.gate_pages.proofs.Moving.{time_then}
use Rattle.om3_coeff.specs.declared.key.Key.{Key}
use Rattle.om3_coeff.specs.declared.errors.NodeError.{NodeError}
use Rattle.om3_coeff.specs.declared.errors.NodeError.TheVariants.{DiskFault, Damaged, Missing, BadCoefficient}
use Rattle.om3_coeff.specs.Keys.{page_levels, height, parent_of, IsNode, IsAtOrAbove, MayFollow}
use Rattle.node_page.specs.Fields.{child_at}
use Rattle.node_page.specs.Places.{page_level}
use Rattle.tree_walk.specs.declared.tree.Tree.{Tree}
use Rattle.tree_walk.specs.declared.trail.Trail.{Trail}
use Rattle.tree_walk.specs.declared.held_page.HeldPage.{HeldPage}
use Rattle.tree_walk.specs.Paths.{path_index, path_child, page_below}
use Rattle.tree_walk.specs.Trails.{number_at, bytes_at, IsHeld, AreHeld, IsLinked, LeadsTo}
use Rattle.tree_walk.specs.Holding.{IsBadPage, IsHit, IsSameAbove, KeptWalking, IsHoldCause, IsBadStep, IsStepCause, NamesNone, IsBadOnPath}
use Rattle.tree_walk.specs.Holding.{IsCauseOf}
use Rattle.tree_walk.proofs.PathLemmas.{level_low, level_few, level_grows, level_more, top_page, root_below, held_below, next_below}
use Rattle.tree_walk.proofs.PathLemmas.{on_path}

-- the same for an equal number of page levels
pub held_by : (told : Type 0) (image : Image) (total levels n : ℕ) (pages : List HeldPage) (len : ℕ) → levels ≡ n
    → AreHeld told image total levels pages len → AreHeld told image total n pages len
held_by told image total levels n pages len same held = λ depth within.
    let P : ℕ → Type 0 = λ l. IsHeld told image total (l - depth) (number_at pages depth) (bytes_at pages depth) in
    subst P same (held depth within)

-- a read keeps what asks keep, and so do two stretches of asks
pub read_keeps : (told told' : Type 0) (old new : View) → Reads told told' old new → KeptWalking told told' old new
read_keeps told told' old new reads = record {
  time = reads.time;
  told = reads.told;
  was_told = reads.was_told;
  image = reads.image;
  size = reads.size;
  beside = reads.beside;
  fit = reads.fit;
  faults = reads.faults;
  reads = reads.reads.low;
  syncs = reads.syncs;
  writes = reads.writes;
}

pub keep_on : (told told' told'' : Type 0) (old mid new : View) → KeptWalking told told' old mid → KeptWalking told' told'' mid new
    → KeptWalking told told'' old new
keep_on told told' told'' old mid new first second = record {
  time = time_then old mid new (Now old) first.time
      (passes_weaker mid new (Now mid) (Now old) (Quiet mid) (Quiet mid) (now_back old mid (Quiet old) first.time)
      (λ count quiet. quiet) second.time);
  told = λ t. second.told (first.told t);
  was_told = λ t. first.was_told (second.was_told t);
  image = λ t. second.image (first.told t) ∙ first.image t;
  size = second.size ∙ first.size;
  beside = second.beside ∙ first.beside;
  fit = λ f. second.fit (first.fit f);
  faults = omega (arith, first.faults, second.faults);
  reads = omega (arith, first.reads, second.reads);
  syncs = second.syncs ∙ first.syncs;
  writes = second.writes ∙ first.writes;
}

-- the ways to two keys are one down to the page of the parent of one of them, where the other lies below
-- that parent
pub one_way : (k last : Key) (p : ℕ) → IsAtOrAbove (parent_of k) last → page_level (suc k.level) < p → path_child last p ≡ path_child k p
unfolding path_child path_index
one_way k last p above deep =
    let low : suc k.level ≤ 7 * (p - 1) = level_low (suc k.level) (p - 1) (omega (arith, deep)) in
    let l : (suc k.level - last.level) + (7 * (p - 1) - suc k.level) ≡ 7 * (p - 1) - last.level = omega (arith, low, above.higher) in
    let m : 1 + (7 * (p - 1) - suc k.level) ≡ 7 * (p - 1) - k.level = omega (arith, low) in
    ap (λ n. n % 128)
    (ap (λ n. last.index / 2 ^ n) (sym l)
    ∙ sym (shr-shr last.index (suc k.level - last.level) (7 * (p - 1) - suc k.level))
    ∙ ap (λ n. n / 2 ^ (7 * (p - 1) - suc k.level)) above.holds
    ∙ shr-shr k.index 1 (7 * (p - 1) - suc k.level)
    ∙ ap (λ n. k.index / 2 ^ n) m)

-- no read is made down to the page of the key's parent, where the key asked last lies below that parent
pub record IsSaved (before now shared at : ℕ) (was is : Trail) : Type 0 where
  pub still : at ≤ shared → is ≡ was
  pub none : at ≤ shared → now ≡ before
  pub one : at ≤ shared + 1 → now ≤ before + 1

-- the depth of the page of a key's parent
abbrev pub shared_depth : ℕ → Key → ℕ
shared_depth levels k = levels - page_level (suc k.level)

-- the pages down to a depth are held, and are those on the way to the key
pub record IsOnWay (told told' : Type 0) (old new : View) (tree : Tree) (levels : ℕ) (was is : Trail) (k : Key) (at : ℕ) : Type 0 where
  pub kept : KeptWalking told told' old new
  pub held : AreHeld told' new.image new.size levels is.pages.items is.len
  pub asked : is.asked ≡ was.asked
  pub root : number_at is.pages.items 0 ≡ tree.root
  pub long : at < is.len
  pub links : (d : ℕ) → d < at → IsLinked is.pages.items k levels d
  pub reads : new.reads ≤ old.reads + (at + 1)
  pub saved : (last : Key) → LeadsTo tree was.pages.items was.len last → IsAtOrAbove (parent_of k) last
      → IsSaved old.reads new.reads (shared_depth levels k) at was is

-- the root's page is held
pub way_start : (told told' : Type 0) (old new : View) (tree : Tree) (levels : ℕ) (was is : Trail) (k : Key) → Reads told told' old new
    → AreHeld told' new.image new.size levels is.pages.items is.len → is.asked ≡ was.asked → IsHit is 0 tree.root
    → (IsHit was 0 tree.root → new.reads ≡ old.reads) → (IsHit was 0 tree.root → is ≡ was)
    → IsOnWay told told' old new tree levels was is k 0
way_start told told' old new tree levels was is k reads held asked reached hit still = record {
  kept = read_keeps told told' old new reads;
  held = held;
  asked = asked;
  root = reached.is;
  long = reached.long;
  links = λ d below. absurd (omega (arith, below));
  reads = omega (arith, reads.reads.high);
  saved = λ last leads above.
      let found : IsHit was 0 tree.root = record { long = omega (arith, leads.long); is = leads.root } in
      record {
        still = λ within. still found;
        none = λ within. hit found;
        one = λ within. omega (arith, hit found);
      };
}

-- a link stays where the pages above stay
link_stays : (old new : List HeldPage) (k : Key) (levels at d : ℕ) → IsSameAbove (at + 1) old new → d < at → IsLinked old k levels d
    → IsLinked new k levels d
link_stays old new k levels at d same below link = record {
  is = same.numbers (d + 1) (omega (arith, below)) ∙ link.is
      ∙ ap (λ b. child_at b (path_child k (levels - d))) (sym (same.bytes d (omega (arith, below))));
  there = λ none. link.there (sym (same.numbers (d + 1) (omega (arith, below))) ∙ none);
}

-- a link on the way to the key asked last is one on the way to the key
link_shared : (tree : Tree) (levels len : ℕ) (pages : List HeldPage) (k last : Key) (at : ℕ) → levels ≡ page_levels tree.slots
    → LeadsTo tree pages len last → IsAtOrAbove (parent_of k) last
    → at < shared_depth levels k → IsLinked pages k levels at
link_shared tree levels len pages k last at is leads above deep =
    let lower : page_level last.level ≤ page_level (suc k.level) = level_more last.level (suc k.level) above.higher in
    let link = leads.links at (omega (arith, deep, lower, is)) in
    let P : ℕ → Type 0 = λ n. IsLinked pages last n at in
    let here : IsLinked pages last levels at = subst P (sym is) link in
    record {
      is = here.is ∙ ap (child_at (bytes_at pages at)) (one_way k last (levels - at) above (omega (arith, deep)));
      there = here.there;
    }

shared_long : (tree : Tree) (levels len : ℕ) (pages : List HeldPage) (k last : Key) (at : ℕ) → levels ≡ page_levels tree.slots
    → LeadsTo tree pages len last → IsAtOrAbove (parent_of k) last
    → at < shared_depth levels k → at + 1 < len
shared_long tree levels len pages k last at is leads above deep =
    let lower : page_level last.level ≤ page_level (suc k.level) = level_more last.level (suc k.level) above.higher in
    omega (arith, deep, lower, is, leads.long)

-- what a step makes of the reads saved
saved_on : (tree : Tree) (levels before mid now : ℕ) (was half is : Trail) (k last : Key) (at : ℕ) → levels ≡ page_levels tree.slots
    → LeadsTo tree was.pages.items was.len last → IsAtOrAbove (parent_of k) last
    → now ≤ mid + 1 → (at + 1 < half.len → IsLinked half.pages.items k levels at → now ≡ mid)
    → (at + 1 < half.len → IsLinked half.pages.items k levels at → is ≡ half)
    → IsSaved before mid (shared_depth levels k) at was half → IsSaved before now (shared_depth levels k) (at + 1) was is
saved_on tree levels before mid now was half is k last at same leads above one hit still saved =
    let linked : at < shared_depth levels k → IsLinked half.pages.items k levels at = λ deep.
    let P : Trail → Type 0 = λ t. IsLinked t.pages.items k levels at in
    subst P (sym (saved.still (omega (arith, deep)))) (link_shared tree levels was.len was.pages.items k last at same leads above deep) in
    let long : at < shared_depth levels k → at + 1 < half.len = λ deep.
    let Q : Trail → Type 0 = λ t. at + 1 < t.len in
    subst Q (sym (saved.still (omega (arith, deep)))) (shared_long tree levels was.len was.pages.items k last at same leads above deep) in
    record {
      still = λ within.
          let deep : at < shared_depth levels k = omega (arith, within) in
          still (long deep) (linked deep) ∙ saved.still (omega (arith, within));
      none = λ within.
          let deep : at < shared_depth levels k = omega (arith, within) in
          hit (long deep) (linked deep) ∙ saved.none (omega (arith, within));
      one = λ within. omega (arith, one, saved.none (omega (arith, within)));
    }

-- one page more
pub way_on : (told told' told'' : Type 0) (old mid new : View) (tree : Tree) (levels : ℕ) (was half is : Trail) (k : Key) (at : ℕ)
    → levels ≡ page_levels tree.slots
    → IsOnWay told told' old mid tree levels was half k at → Reads told' told'' mid new
    → AreHeld told'' new.image new.size levels is.pages.items is.len → is.asked ≡ half.asked
    → IsSameAbove (at + 1) half.pages.items is.pages.items → at + 1 < is.len → IsLinked is.pages.items k levels at
    → (at + 1 < half.len → IsLinked half.pages.items k levels at → new.reads ≡ mid.reads)
    → (at + 1 < half.len → IsLinked half.pages.items k levels at → is ≡ half)
    → IsOnWay told told'' old new tree levels was is k (at + 1)
way_on told told' told'' old mid new tree levels was half is k at same way reads held asked above long linked hit still = record {
  kept = keep_on told told' told'' old mid new way.kept (read_keeps told' told'' mid new reads);
  held = held;
  asked = asked ∙ way.asked;
  root = above.numbers 0 (omega arith) ∙ way.root;
  long = long;
  links = λ d below. elim (cases_lt d at) [
    | inl less ↦ link_stays half.pages.items is.pages.items k levels at d above less (way.links d less)
    | inr more ↦
        let here : at ≡ d = omega (arith, below, more) in
        let P : ℕ → Type 0 = λ n. IsLinked is.pages.items k levels n in subst P here linked
  ];
  reads = omega (arith, reads.reads.high, way.reads);
  saved = λ last leads over.
      saved_on tree levels old.reads mid.reads new.reads was half is k last at same leads over reads.reads.high hit still
      (way.saved last leads over);
}

-- the end of the way
pub way_leads : (told told' : Type 0) (old new : View) (tree : Tree) (levels : ℕ) (was is : Trail) (k : Key) (at : ℕ)
    → levels ≡ page_levels tree.slots → IsNode (height tree.slots) k
    → at ≡ levels - page_level k.level → IsOnWay told told' old new tree levels was is k at → LeadsTo tree is.pages.items is.len k
way_leads told told' old new tree levels was is k at same node depth way = record {
  node = node;
  long = omega (arith, same, depth, way.long);
  root = way.root;
  links = λ d below. let P : ℕ → Type 0 = λ n. IsLinked is.pages.items k n d in
      subst P same (way.links d (omega (arith, below, same, depth)));
}

-- the reads in tree order
pub order_reads : (told told' : Type 0) (old new : View) (tree : Tree) (levels : ℕ) (was is : Trail) (k last : Key) (at : ℕ)
    → levels ≡ page_levels tree.slots
    → at ≡ levels - page_level k.level → IsOnWay told told' old new tree levels was is k at → LeadsTo tree was.pages.items was.len last
    → MayFollow (height tree.slots) (Some last) k
    → new.reads ≤ old.reads + 1
order_reads told told' old new tree levels was is k last at same depth way leads (inl top) =
    omega (arith, way.reads, depth, same, top_page k.level (page_levels tree.slots) top)
order_reads told told' old new tree levels was is k last at same depth way leads (inr above) =
    (way.saved last leads above).one (omega (arith, depth, level_grows k.level))

pub top_reads : (told told' : Type 0) (old new : View) (tree : Tree) (levels : ℕ) (was is : Trail) (k : Key) (at : ℕ)
    → levels ≡ page_levels tree.slots
    → at ≡ levels - page_level k.level → IsOnWay told told' old new tree levels was is k at → k.level ≡ height tree.slots
    → new.reads ≤ old.reads + 1
top_reads told told' old new tree levels was is k at same depth way top =
    omega (arith, way.reads, depth, same, top_page k.level (page_levels tree.slots) top)

-- the same after a step that failed
pub order_reads_failed : (told told' : Type 0) (old mid : View) (new : ℕ) (tree : Tree) (levels : ℕ) (was is : Trail) (k last : Key)
    (at : ℕ) → levels ≡ page_levels tree.slots
    → at < levels - page_level k.level → IsOnWay told told' old mid tree levels was is k at → new ≤ mid.reads + 1
    → LeadsTo tree was.pages.items was.len last → MayFollow (height tree.slots) (Some last) k
    → new ≤ old.reads + 1
order_reads_failed told told' old mid new tree levels was is k last at same deep way one leads (inl top) =
    absurd (omega (arith, deep, same, top_page k.level (page_levels tree.slots) top))
order_reads_failed told told' old mid new tree levels was is k last at same deep way one leads (inr above) =
    omega (arith, one, (way.saved last leads above).none (omega (arith, deep, level_grows k.level)))

pub top_reads_failed : (levels new old at : ℕ) (tree : Tree) (k : Key) → levels ≡ page_levels tree.slots → at < levels - page_level k.level
    → k.level ≡ height tree.slots → new ≤ old + 1
top_reads_failed levels new old at tree k same deep top =
    absurd (omega (arith, deep, same, top_page k.level (page_levels tree.slots) top))

-- why the root's page wasn't held
pub root_bad : (told : Type 0) (old new : View) (tree : Tree) (k : Key) (levels : ℕ) (e : NodeError) → levels ≡ page_levels tree.slots
    → IsNode (height tree.slots) k → tree.root < old.size
    → IsHoldCause told old new tree.root (levels - 0) e → IsCauseOf told old new tree k e
root_bad told old new tree k levels DiskFault same node low cause = cause
root_bad told old new tree k levels (Damaged page) same node low cause =
    let P : ℕ → Type 0 = λ n. IsBadPage (old.image n) (levels - 0) in
    let Q : ℕ → Type 0 = λ n. IsBadPage (old.image page) n in (
      omega (arith, cause.0, low),
      λ tells. record {
        level = levels;
        above = omega (arith, level_few k.level (page_levels tree.slots) node.high, same);
        below = omega (arith, same);
        there = on_path old.image tree k levels page 0 (omega (arith, same)) (omega (arith, same))
            (root_below old.image tree.root (path_index k levels) ∙ ap (λ n. Some n) (sym cause.0));
        bad = inl (subst Q (let e : levels - 0 ≡ levels = omega arith in e) (subst P (sym cause.0) (cause.1 tells)));
      },
    )
root_bad told old new tree k levels (Missing key) same node low cause = cause
root_bad told old new tree k levels (BadCoefficient key) same node low cause = cause

risen_since : (old mid new : ℕ) → mid ≡ old → HasRisen mid new → HasRisen old new
risen_since old mid new same (inl risen) = inl (omega (arith, same, risen))
risen_since old mid new same (inr last) = inr (omega (arith, same, last.0), omega (arith, same, last.1))

-- a page on the way and a bad one below it
bad_here : (told told' : Type 0) (old mid : View) (tree : Tree) (levels : ℕ) (was is : Trail) (k : Key) (at page : ℕ)
    → levels ≡ page_levels tree.slots → at < levels - page_level k.level
    → IsOnWay told told' old mid tree levels was is k at → told → IsBadStep mid is.pages.items k levels at page
    → IsBadOnPath old tree k page
bad_here told told' old mid tree levels was is k at page same deep way tells (inl bad) =
    let pages = is.pages.items in
    let number : ℕ = number_at pages at in
    let held = way.held at way.long in
    let image : mid.image ≡ old.image = way.kept.image tells in
    let bytes : bytes_at pages at ≡ old.image number = held.as_told (way.kept.told tells) ∙ ap (λ (i : Image). i number) image in
    let low : k.level ≤ 7 * (levels - at) = level_low k.level (levels - at) (omega (arith, deep)) in
    let there : page_below mid.image tree.root at (path_index k (levels - at)) ≡ Some number =
    held_below told' mid.image mid.size tree.root levels pages is.len k at way.held way.root way.links way.long (omega (arith, deep)) low
    (way.kept.told tells) in
    let P : List ℕ → Type 0 = λ b. NamesNone old.size k (levels - at) b in
    let none : P (bytes_at pages at) = record {
      keeps = held.keeps;
      level_is = held.level_is;
      below = omega (arith, deep);
      none = elim bad.1 [ inl none ↦ inl none | inr past ↦ inr (omega (arith, past, way.kept.size)) ];
    } in
    let R : ℕ → Type 0 = λ p. IsBadOnPath old tree k p in
    let here : R number = record {
      level = levels - at;
      above = omega (arith, deep);
      below = omega (arith, same);
      there = on_path old.image tree k (levels - at) number at (omega (arith, same)) (omega (arith, same, deep))
          (ap (λ (i : Image). page_below i tree.root at (path_index k (levels - at))) (sym image) ∙ there);
      bad = inr (subst P bytes none);
    } in
    subst R (sym bad.0) here
bad_here told told' old mid tree levels was is k at page same deep way tells (inr bad) =
    let pages = is.pages.items in
    let number : ℕ = number_at pages at in
    let held = way.held at way.long in
    let image : mid.image ≡ old.image = way.kept.image tells in
    let bytes : bytes_at pages at ≡ old.image number = held.as_told (way.kept.told tells) ∙ ap (λ (i : Image). i number) image in
    let low : k.level ≤ 7 * (levels - at) = level_low k.level (levels - at) (omega (arith, deep)) in
    let lower : k.level ≤ 7 * (levels - (at + 1)) = level_low k.level (levels - (at + 1)) (omega (arith, deep)) in
    let there : page_below mid.image tree.root at (path_index k (levels - at)) ≡ Some number =
    held_below told' mid.image mid.size tree.root levels pages is.len k at way.held way.root way.links way.long (omega (arith, deep)) low
    (way.kept.told tells) in
    let there' : page_below old.image tree.root at (path_index k (levels - at)) ≡ Some number =
    ap (λ (i : Image). page_below i tree.root at (path_index k (levels - at))) (sym image) ∙ there in
    let next : page ≡ child_at (old.image number) (path_child k (levels - at)) = bad.1
    ∙ ap (λ b. child_at b (path_child k (levels - at))) bytes in
    let some : child_at (old.image number) (path_child k (levels - at)) ≢ 0 = λ none. bad.0 (sym bad.1 ∙ next ∙ none) in
    let up : levels - at ≡ suc (levels - (at + 1)) = omega (arith, deep) in
    let S : ℕ → Type 0 = λ n. page_below old.image tree.root at (path_index k n) ≡ Some number in
    let T : ℕ → Type 0 = λ n. child_at (old.image number) (path_child k n) ≢ 0 in
    let below = next_below old.image tree.root at k (levels - (at + 1)) number lower (subst S up there') (subst T up some) in
    let one : suc at ≡ at + 1 = omega arith in
    let V : Image → Type 0 = λ i. IsBadPage (i page) (levels - (at + 1)) in
    record {
      level = levels - (at + 1);
      above = omega (arith, deep);
      below = omega (arith, same);
      there = on_path old.image tree k (levels - (at + 1)) page (suc at) (omega (arith, same)) (omega (arith, same, deep))
          (below ∙ ap (λ n. Some (child_at (old.image number) (path_child k n))) (sym up) ∙ ap (λ n. Some n) (sym next));
      bad = inl (subst V image bad.2);
    }

-- why a page on the way wasn't held
pub way_bad : (told told' : Type 0) (old mid new : View) (tree : Tree) (levels : ℕ) (was is : Trail) (k : Key) (at : ℕ) (e : NodeError)
    → levels ≡ page_levels tree.slots → at < levels - page_level k.level
    → IsOnWay told told' old mid tree levels was is k at → mid.faults ≡ old.faults → IsStepCause told' mid new is.pages.items k levels at e
    → IsCauseOf told old new tree k e
way_bad told told' old mid new tree levels was is k at DiskFault same deep way quiet cause = risen_since old.faults mid.faults new.faults
    quiet cause
way_bad told told' old mid new tree levels was is k at (Damaged page) same deep way quiet cause = (
  omega (arith, cause.0, way.kept.size),
  λ tells. bad_here told told' old mid tree levels was is k at page same deep way tells
      (cause.1 (way.kept.told tells)),
)
way_bad told told' old mid new tree levels was is k at (Missing key) same deep way quiet cause = cause
way_bad told told' old mid new tree levels was is k at (BadCoefficient key) same deep way quiet cause = cause
