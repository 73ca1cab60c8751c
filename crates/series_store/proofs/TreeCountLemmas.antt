-- The values of a tree are counted child by child.
use Rattle.std.proofs.Common.{◌≡◌, ◌≢◌, ℕ, ℤ, zero, suc, ◌+◌, ◌*◌, ◌^◌, ◌<◌, ◌≤◌, is_some, List, length, Option, None, Some, refl, sym, ap}
use Rattle.std.proofs.Common.{subst, arith, inl, inr, ◌∙◌}
use Rattle.std.specs.Prelude.{Result, Ok, Err, OnOk, OnErr, IfErr}
use Rattle.std.proofs.lemmas.Bool.{cases_lt}
use Rattle.std.proofs.lemmas.Nat.{pow-add}
use Rattle.std.proofs.lemmas.Option.{slice_get_past}
use Rattle.std.proofs.Math.Nat.{one-le-pow, mul-le-mul_left, mul-le-mul_right}
use Rattle.block_disk.specs.View.{Image, View, Rises}
use Rattle.om3_coeff.specs.declared.span.Span.{Span}
use Rattle.om3_coeff.specs.Spans.{AreSlots, span, span_of_slot}
use Rattle.node_page.specs.Fields.{child_at}
use Rattle.node_page.specs.Layout.{has_child}
use Rattle.page_space.specs.declared.superblock.Superblock.{Superblock}
use Rattle.path_repair.specs.Changes.{value_of, slot_at}
use Rattle.path_repair.specs.Damage.{AreBelow}
use Rattle.path_repair.specs.Forms.{AreTops}
use Rattle.path_repair.specs.Keeping.{IsMatched}
use Rattle.path_repair.specs.Sums.{sum_below}
use Rattle.path_repair.specs.TreePages.{tree_pages}
use Rattle.path_repair.proofs.OpenLemmas.{there, child_below}
use Rattle.path_repair.proofs.TreeLemmas.{own_pages}
use Rattle.path_repair.proofs.SumLemmas.{below_next, sum_suc, sum_none, sum_upto, length_join}
use Rattle.stored_book.proofs.OneBook.{slot_key_span}
use Rattle.tree_walk.specs.Holding.{KeptWalking}
use Rattle.tree_walk.specs.Trees.{top_of_page, HoldsNodes, IsTree}
use Rattle.series_book.specs.declared.limits.TheConstants.{MOST_SLOTS}
use Rattle.series_catalog.proofs.ReadLemmas.{risen_on}
use Rattle.series_store.specs.Counting.{values_below, Looks, IsBadFor, IsSlot, AreParts, HasNoSlot, HasBadPage, IsSoundPage, IsSoundTree}
use Rattle.series_store.specs.Counting.{NamesWithin, IsPageCause, IsTreeCause}
use Rattle.series_store.specs.declared.errors.StoreError.{StoreError}
use Rattle.series_store.specs.declared.errors.StoreError.TheVariants.{Refused, NotAStore, DiskFault, Damaged, NoMemory}
use Rattle.series_store.proofs.LookLemmas.{looks_then}
use Rattle.series_store.proofs.ValueLemmas.{no_parts, part_more}

-- a page with a span isn't none
pub is_there : (page : ℕ) (top : Option Span) (s : Span) → IsMatched page top → top ≡ Some s → page ≢ 0
is_there page top s matched some none =
    let never : None ≡ Some s = sym (matched.0 none) ∙ some in
    cc

-- a page that is bad for its place is one of its tree
pub page_cause : (e : StoreError) (told : Type 0) (old new : View) (total slots level below index page : ℕ) (top : Option Span)
    → level ≡ suc below → page ≢ 0 → IsPageCause e told old new total level page top
    → IsTreeCause e told old new total slots level index page top
page_cause (Refused refusal) told old new total slots level below index page top is some bad = bad
page_cause NotAStore told old new total slots level below index page top is some bad = bad
page_cause DiskFault told old new total slots level below index page top is some bad = bad
page_cause (Damaged at) told old new total slots level below index page top is some bad = λ t.
    let P : ℕ → Type 0 = λ l. HasBadPage old.image total slots l index page top at in
    let B : ℕ → Type 0 = λ l. IsBadFor total l top (old.image page) in
    subst P (sym is) (inl (some, bad.0, inl (subst B is (bad.1 t))))
page_cause NoMemory told old new total slots level below index page top is some bad = bad

-- and so is one of which a slot is bad
pub slot_cause : (image : Image) (total slots level below index page : ℕ) (top : Option Span) (bytes : List ℕ) (spans : ℕ → Option Span)
    → level ≡ suc below → page ≢ 0 → bytes ≡ image page → AreBelow top bytes spans → level ≡ 1 → HasNoSlot slots index spans
    → HasBadPage image total slots level index page top page
slot_cause image total slots level below index page top bytes spans is some read split lowest none =
    let P : ℕ → Type 0 = λ l. HasBadPage image total slots l index page top page in
    let A : List ℕ → Type 0 = λ b. AreBelow top b spans in
    subst P (sym is) (inl (some, refl, inr (record { lowest = sym is ∙ lowest; spans = spans; below = subst A read split; none = none })))

-- and so is one that is bad below a child
bad_child : (old mid : Image) (total total' slots level below index page number child at : ℕ) (top part : Option Span) (bytes : List ℕ)
    (spans : ℕ → Option Span) → mid ≡ old → total' ≡ total → level ≡ suc below → page ≢ 0 → child < 128
    → number ≡ child_at bytes child → part ≡ spans (127 + child) → bytes ≡ old page → AreBelow top bytes spans
    → HasBadPage mid total' slots below (128 * index + child) number part at → HasBadPage old total slots level index page top at
bad_child old mid total total' slots level below index page number child at top part bytes spans same same_total is some within is_child
    is_part read split bad =
    let here = 128 * index + child in
    let P : ℕ → Type 0 = λ l. HasBadPage old total slots l index page top at in
    let I : Image → Type 0 = λ image. HasBadPage image total' slots below here number part at in
    let T : ℕ → Type 0 = λ n. HasBadPage old n slots below here number part at in
    let N : ℕ → Type 0 = λ n. HasBadPage old total slots below here n part at in
    let S : Option Span → Type 0 = λ s. HasBadPage old total slots below here (child_at bytes child) s at in
    let B : List ℕ → Type 0 = λ b. HasBadPage old total slots below here (child_at b child) (spans (127 + child)) at in
    let A : List ℕ → Type 0 = λ b. AreBelow top b spans in
    subst P (sym is) (inr (
      some,
      spans,
      child,
      subst A read split,
      within,
      subst B read (subst S is_part (subst N is_child (subst T same_total (subst I same bad)))),
    ))

pub child_cause : (e : StoreError) (told told' : Type 0) (old mid new : View)
    (total total' slots level below index here page number child : ℕ) (top part : Option Span) (bytes : List ℕ) (spans : ℕ → Option Span)
    → here ≡ 128 * index + child → KeptWalking told told' old mid → mid.faults ≡ old.faults → total' ≡ total
    → level ≡ suc below → page ≢ 0 → child < 128 → number ≡ child_at bytes child → part ≡ spans (127 + child)
    → (told → bytes ≡ old.image page) → AreBelow top bytes spans
    → IsTreeCause e told' mid new total' slots below here number part → IsTreeCause e told old new total slots level index page top
child_cause (Refused refusal) told told' old mid new total total' slots level below index here page number child top part bytes spans at
    kept quiet same is some within is_child is_part read split bad = bad
child_cause NotAStore told told' old mid new total total' slots level below index here page number child top part bytes spans at kept quiet
    same is some within is_child is_part read split bad = bad
child_cause DiskFault told told' old mid new total total' slots level below index here page number child top part bytes spans at kept quiet
    same is some within is_child is_part read split bad = risen_on old.faults mid.faults new.faults quiet bad
child_cause (Damaged found) told told' old mid new total total' slots level below index here page number child top part bytes spans at kept
    quiet same is some within is_child is_part read split bad = λ t.
    let H : ℕ → Type 0 = λ i. HasBadPage mid.image total' slots below i number part found in
    bad_child old.image mid.image total total' slots level below index page number child found top part bytes spans
    (kept.image t) same is some within is_child is_part (read t) split (subst H at (bad (kept.told t)))
child_cause NoMemory told told' old mid new total total' slots level below index here page number child top part bytes spans at kept quiet
    same is some within is_child is_part read split bad = bad

-- a slot of a list may hold what it does
slot_of_list : (list : List (Option ℤ)) (slot : ℕ) (value : Option ℤ) → slot_at list slot ≡ value
    → IsSlot (length list) slot (span_of_slot value)
unfolding slot_at
slot_of_list list slot None is = tt
slot_of_list list slot (Some v) is = elim (cases_lt slot (length list)) [
  | inl within ↦ (refl, within)
  | inr past ↦
      let none : None ≡ Some v = sym (ap value_of (slice_get_past list slot past)) ∙ is in
      absurd (cc)
]

-- the parts of a page that stands for a list may hold what they do
pub parts_hold : (list : List (Option ℤ)) (slots level below index : ℕ) (spans : ℕ → Option Span) → length list ≡ slots → level ≡ suc below
    → level ≡ 1 → AreTops list below index (λ c. spans (127 + c)) → AreParts slots index spans
parts_hold list slots level below index spans long is lowest tops = λ child within.
    let low : below ≡ 0 = omega (arith, is, lowest) in
    let slot = 128 * index + child in
    let A : ℕ → Type 0 = λ b. spans (127 + child) ≡ span list (top_of_page b slot) in
    let here : spans (127 + child) ≡ span_of_slot (slot_at list slot) = subst A low (tops child within) ∙ slot_key_span list slot in
    let H : Option Span → Type 0 = λ held. IsSlot slots slot held in
    let L : ℕ → Type 0 = λ n. IsSlot n slot (span_of_slot (slot_at list slot)) in
    subst H (sym here) (subst L long (slot_of_list list slot (slot_at list slot) refl))

pub never_bad : (slots index : ℕ) (spans : ℕ → Option Span) → AreParts slots index spans → HasNoSlot slots index spans → ⊥
never_bad slots index spans parts none = none.bad (parts none.child none.within)

-- a range that isn't a slot is of one of the first 2^28 pages
pub near_index : (index level : ℕ) → level ≢ 0 → (index + 1) * 128 ^ level ≤ MOST_SLOTS → index < 2 ^ 28
near_index index zero high near = absurd (high refl)
near_index index (suc level) high near =
    let some : 1 ≤ 128 ^ level = one-le-pow level 128 (omega arith) in
    few index (128 ^ level) some (subst (λ (p : ℕ). (index + 1) * p ≤ MOST_SLOTS) (power level) near)
  where
    few : (index p : ℕ) → 1 ≤ p → (index + 1) * (128 * p) ≤ MOST_SLOTS → index < 2 ^ 28
    few index p some near = omega (arith, near, mul-le-mul_left (index + 1) some)

    power : (level : ℕ) → 128 ^ suc level ≡ 128 * 128 ^ level
    power level =
        let next : suc level ≡ 1 + level = omega arith in
        ap (λ k. 128 ^ k) next ∙ pow-add 128 1 level

near_part : (index level below child : ℕ) → level ≡ suc below → child < 128 → (index + 1) * 128 ^ level ≤ MOST_SLOTS
    → (128 * index + child + 1) * 128 ^ below ≤ MOST_SLOTS
near_part index level below child is within near =
    let next : level ≡ 1 + below = omega (arith, is) in
    let power : 128 ^ level ≡ 128 * 128 ^ below = ap (λ k. 128 ^ k) next ∙ pow-add 128 1 below in
    part index child (128 ^ below) within (subst (λ (p : ℕ). (index + 1) * p ≤ MOST_SLOTS) power near)
  where
    part : (index child p : ℕ) → child < 128 → (index + 1) * (128 * p) ≤ MOST_SLOTS → (128 * index + child + 1) * p ≤ MOST_SLOTS
    part index child p within near = omega (
      arith,
      near,
      mul-le-mul_right p (let high : 128 * index + child + 1 ≤ 128 * (index + 1) = omega (arith, within) in high),
    )

pub near_here : (index here level below child : ℕ) → here ≡ 128 * index + child → level ≡ suc below → child < 128
    → (index + 1) * 128 ^ level ≤ MOST_SLOTS → (here + 1) * 128 ^ below ≤ MOST_SLOTS
near_here index here level below child at is within near =
    let P : ℕ → Type 0 = λ i. (i + 1) * 128 ^ below ≤ MOST_SLOTS in
    subst P (sym at) (near_part index level below child is within near)

pub part_slot : (slots index here child : ℕ) (held : Option Span) (spans : ℕ → Option Span) → here ≡ 128 * index + child
    → held ≡ spans (127 + child) → child < 128 → AreParts slots index spans → IsSlot slots here held
part_slot slots index here child held spans at is within parts =
    let H : ℕ → Type 0 = λ i. IsSlot slots i held in
    let S : Option Span → Type 0 = λ s. IsSlot slots (128 * index + child) s in
    subst H (sym at) (subst S (sym is) (parts child within))

pub sound_slot : (image : Image) (total slots level index page : ℕ) (top : Option Span) → level ≡ 0 → IsSlot slots index top
    → IsSoundTree image total slots level index page top
sound_slot image total slots level index page top lowest holds =
    let L : ℕ → Type 0 = λ l. IsSoundTree image total slots l index page top in
    subst L (sym lowest) holds

-- where its range has no span nothing is stored, and no page is read
pub sound_none : (image : Image) (total slots level index page : ℕ) (top : Option Span) → (1 ≤ level → IsMatched page top) → top ≡ None
    → IsSoundTree image total slots level index page top
sound_none image total slots zero index page top matched none =
    let H : Option Span → Type 0 = λ held. IsSlot slots index held in
    subst H (sym none) tt
sound_none image total slots (suc level) index page top matched none = inl ((matched (omega arith)).1 none)

-- the page of a child is there where its range has a span
pub child_matched : (total level child number : ℕ) (bytes : List ℕ) (part : Option Span) → IsSoundPage total level bytes → 1 < level
    → child < 128 → number ≡ child_at bytes child → has_child bytes child ≡ is_some part → IsMatched number part
child_matched total level child number bytes None sound high within is has =
    let none : child_at bytes child ≡ 0 = (sound.keeps.children child within).empty has in
    (λ zero. refl, λ none'. is ∙ none)
child_matched total level child number bytes (Some s) sound high within is has =
    let P : ℕ → Type 0 = λ l. 1 < l in (
      λ zero. absurd ((sound.keeps.children child within).there (subst P (sym sound.level_is) high) has (sym is ∙ zero)),
      λ none. absurd (cc),
    )

-- the pages of a range's tree, from its page level and its top
pub nodes_of : (image : Image) (total : ℕ) (list : List (Option ℤ)) (level below index page : ℕ) → level ≡ suc below → page ≢ 0
    → IsTree image total list level index page → HoldsNodes list level index (image page)
nodes_of image total list level below index page is some tree =
    let P : ℕ → Type 0 = λ l. IsTree image total list l index page in
    let H : ℕ → Type 0 = λ l. HoldsNodes list l index (image page) in
    subst H (sym is) (there image total list below index page some (subst P is tree)).nodes

pub children_of : (image : Image) (total : ℕ) (list : List (Option ℤ)) (level below index page : ℕ) → level ≡ suc below → page ≢ 0
    → IsTree image total list level index page
    → (child : ℕ) → child < 128 → IsTree image total list below (128 * index + child) (child_at (image page) child)
children_of image total list level below index page is some tree =
    let P : ℕ → Type 0 = λ l. IsTree image total list l index page in
    (there image total list below index page some (subst P is tree)).children

pub children_below : (image : Image) (total : ℕ) (list : List (Option ℤ)) (level below index page : ℕ) → 0 < total → level ≡ suc below
    → page ≢ 0 → IsTree image total list level index page
    → (child : ℕ) → child < 128 → child_at (image page) child < total
children_below image total list level below index page low is some tree child within =
    child_below image total list below (128 * index + child) (child_at (image page) child) low
    (children_of image total list level below index page is some tree child within)

-- a child's page and span stand for its part of the list
pub record ChildStands (image : Image) (total : ℕ) (list : List (Option ℤ)) (below index number child : ℕ)
    (part : Option Span) : Type 0 where
  pub tree : IsTree image total list below (128 * index + child) number
  pub top_is : part ≡ span list (top_of_page below (128 * index + child))

pub child_stands : (old mid : Image) (total total' : ℕ) (list : List (Option ℤ)) (level below index page number child : ℕ)
    (part : Option Span) (bytes : List ℕ) (spans : ℕ → Option Span) → mid ≡ old → total' ≡ total → level ≡ suc below → page ≢ 0
    → child < 128
    → number ≡ child_at bytes child → part ≡ spans (127 + child) → bytes ≡ old page → AreTops list below index (λ c. spans (127 + c))
    → IsTree old total list level index page → ChildStands mid total' list below index number child part
child_stands old mid total total' list level below index page number child part bytes spans same same_total is some within is_child is_part
    read tops tree =
    let I : Image → Type 0 = λ image. IsTree image total' list below (128 * index + child) number in
    let T : ℕ → Type 0 = λ n. IsTree old n list below (128 * index + child) number in
    let N : ℕ → Type 0 = λ n. IsTree old total list below (128 * index + child) n in
    let B : List ℕ → Type 0 = λ b. IsTree old total list below (128 * index + child) (child_at b child) in
    record {
      tree = subst I (sym same) (subst T (sym same_total)
          (subst N (sym is_child) (subst B (sym read) (children_of old total list level below index page is some tree child within))));
      top_is = is_part ∙ tops child within;
    }

-- the pages of the trees of the children below a number
abbrev pub pages_below : Image → ℕ → List ℕ → ℕ → ℕ
pages_below image below bytes child = sum_below (λ c. length (tree_pages image below (child_at bytes c))) child

-- the children below a number are counted, and each page of theirs was read once
pub record IsCounting (told told' : Type 0) (old new under under' : View) (s s' : Superblock) (slots level below index page : ℕ)
    (top : Option Span) (bytes : List ℕ) (spans : ℕ → Option Span) (values child : ℕ) : Type 0 where
  pub looks : Looks told told' old new under under' s s'
  pub few : values ≤ child * 128 ^ below
  pub counts : (list : List (Option ℤ)) → told → AreSlots list → length list ≡ slots → IsTree old.image s.total list level index page
      → top ≡ span list (top_of_page level index)
      → values ≡ sum_below (λ c. values_below list below (128 * index + c)) child
  pub reads : told → new.reads ≤ old.reads + 1 + pages_below old.image below bytes child
  pub whole : told → (c : ℕ) → c < child → IsSoundTree old.image s.total slots below (128 * index + c) (child_at bytes c) (spans (127 + c))

pub count_start : (told told' : Type 0) (old new under under' : View) (s s' : Superblock) (slots level below index page : ℕ)
    (top : Option Span) (bytes : List ℕ) (spans : ℕ → Option Span) → Looks told told' old new under under' s s' → new.reads ≤ old.reads + 1
    → IsCounting told told' old new under under' s s' slots level below index page top bytes spans 0 0
count_start told told' old new under under' s s' slots level below index page top bytes spans looks one = record {
  looks = looks;
  few = omega arith;
  counts = λ list t values long tree is. no_parts list below index;
  reads = λ t. omega (arith, one, sum_none (λ c. length (tree_pages old.image below (child_at bytes c))));
  whole = λ t c low. absurd (omega (arith, low));
}

few_more : (values more child p : ℕ) → values ≤ child * p → more ≤ p → values + more ≤ (child + 1) * p
few_more values more child p few less = omega (arith, few, less)

sound_child : (old mid : Image) (total total' slots below here number child : ℕ) (part : Option Span) (bytes : List ℕ) (spans : ℕ
    → Option Span) → mid ≡ old → total' ≡ total → number ≡ child_at bytes child → part ≡ spans (127 + child)
    → IsSoundTree mid total' slots below here number part
    → IsSoundTree old total slots below here (child_at bytes child) (spans (127 + child))
sound_child old mid total total' slots below here number child part bytes spans same same_total is_child is_part sound =
    let I : Image → Type 0 = λ image. IsSoundTree image total' slots below here number part in
    let T : ℕ → Type 0 = λ n. IsSoundTree old n slots below here number part in
    let N : ℕ → Type 0 = λ n. IsSoundTree old total slots below here n part in
    let S : Option Span → Type 0 = λ x. IsSoundTree old total slots below here (child_at bytes child) x in
    subst S is_part (subst N is_child (subst T same_total (subst I same sound)))

-- the pages of one child more are read
read_more : (old mid : Image) (below number child first between last : ℕ) (bytes : List ℕ) → mid ≡ old → number ≡ child_at bytes child
    → between ≤ first + 1 + pages_below old below bytes child → last ≤ between + length (tree_pages mid below number)
    → last ≤ first + 1 + (pages_below old below bytes child + length (tree_pages old below (child_at bytes child)))
read_more old mid below number child first between last bytes same is_child before more =
    let I : Image → Type 0 = λ image. last ≤ between + length (tree_pages image below number) in
    let N : ℕ → Type 0 = λ n. last ≤ between + length (tree_pages old below n) in
    omega (arith, before, subst N is_child (subst I same more))

pub count_on : (told told' told'' : Type 0) (old mid new under under' under'' : View) (s s' s'' : Superblock)
    (slots level below index here page number : ℕ) (top part : Option Span) (bytes : List ℕ) (spans : ℕ
    → Option Span) (values more child : ℕ)
    → here ≡ 128 * index + child → IsCounting told told' old mid under under' s s' slots level below index page top bytes spans values child
    → level ≡ suc below → page ≢ 0 → child < 128 → number ≡ child_at bytes child → part ≡ spans (127 + child)
    → (told → bytes ≡ old.image page)
    → ((list : List (Option ℤ)) → told → AreSlots list → length list ≡ slots → IsTree old.image s.total list level index page
    → top ≡ span list (top_of_page level index) → AreTops list below index (λ c. spans (127 + c)))
    → Looks told' told'' mid new under' under'' s' s'' → more ≤ 128 ^ below
    → ((list : List (Option ℤ)) → told' → AreSlots list → length list ≡ slots → IsTree mid.image s'.total list below here number
    → part ≡ span list (top_of_page below here) → more ≡ values_below list below here)
    → (told' → Rises (length (tree_pages mid.image below number)) mid.reads new.reads)
    → (told' → IsSoundTree mid.image s'.total slots below here number part)
    → IsCounting told told'' old new under under'' s s'' slots level below index page top bytes spans (values + more) (child + 1)
count_on told told' told'' old mid new under under' under'' s s' s'' slots level below index here page number top part bytes spans values
    more child at way is some within is_child is_part read tops looks few counts reads whole =
    let S : ℕ → Type 0 = λ i. IsSoundTree mid.image s'.total slots below i number part in
    let total_is = ap (λ (x : Superblock). x.total) way.looks.over.superblock in
    record {
      looks = looks_then told told' told'' old mid new under under' under'' s s' s'' way.looks looks;
      few = few_more values more child (128 ^ below) way.few few;
      counts = λ list t are long tree top_is.
          let stands = child_stands old.image mid.image s.total s'.total list level below index page number child part bytes spans
          (way.looks.kept.image t) total_is is some within is_child is_part (read t) (tops list t are long tree top_is) tree in
          let C : ℕ → Type 0 = λ i. IsTree mid.image s'.total list below i number → part ≡ span list (top_of_page below i)
          → more ≡ values_below list below i in
          part_more list below index values more child (way.counts list t are long tree top_is)
          (subst C at (counts list (way.looks.kept.told t) are long) stands.tree stands.top_is);
      reads = λ t.
          let next : suc child ≡ child + 1 = omega arith in
          let P : ℕ → Type 0 = λ n. new.reads ≤ old.reads + 1 + pages_below old.image below bytes n in
          subst P next (omega (
            arith,
            sum_suc (λ c. length (tree_pages old.image below (child_at bytes c))) child,
            read_more old.image mid.image below number child old.reads mid.reads new.reads bytes (way.looks.kept.image t) is_child
                (way.reads t) (reads (way.looks.kept.told t)).high,
          ));
      whole = λ t. below_next (λ c. IsSoundTree old.image s.total slots below (128 * index + c) (child_at bytes c) (spans (127 + c))) child
          (way.whole t)
          (sound_child old.image mid.image s.total s'.total slots below (128 * index + child) number child part bytes spans
          (way.looks.kept.image t) total_is is_child is_part (subst S at (whole (way.looks.kept.told t))));
    }

-- a page, and all those below it
pages_of_page : (image : Image) (level below page : ℕ) (bytes : List ℕ) → level ≡ suc below → page ≢ 0 → bytes ≡ image page
    → length (tree_pages image level page) ≡ 1 + pages_below image below bytes 128
pages_of_page image level below page bytes is some read =
    let P : ℕ → Type 0 = λ l. length (tree_pages image l page) ≡ 1 + pages_below image below bytes 128 in
    let B : List ℕ → Type 0 = λ b. length (tree_pages image (suc below) page) ≡ 1 + pages_below image below b 128 in
    let own : length (tree_pages image (suc below) page) ≡ 1 + pages_below image below (image page) 128 =
    omega (
      arith,
      ap (λ l. length l) (own_pages image below page some),
      length_join (λ c. tree_pages image below (child_at (image page) c)) 128,
    ) in
    subst P (sym is) (subst B (sym read) own)

-- where the page alone was read, or some of the children too, no more was than there is
pub read_one_page : (old new : View) (level below page : ℕ) → level ≡ suc below → page ≢ 0 → Rises 1 old.reads new.reads
    → Rises (length (tree_pages old.image level page)) old.reads new.reads
read_one_page old new level below page is some one = record {
  low = one.low;
  high = omega (arith, one.high, pages_of_page old.image level below page (old.image page) is some refl);
}

pub read_some : (told told' told'' : Type 0) (old mid new under under' under'' : View) (s s' s'' : Superblock)
    (slots level below index page number : ℕ) (top : Option Span) (bytes : List ℕ) (spans : ℕ → Option Span) (values child : ℕ)
    → IsCounting told told' old mid under under' s s' slots level below index page top bytes spans values child
    → Looks told' told'' mid new under' under'' s' s'' → level ≡ suc below → page ≢ 0 → child < 128 → number ≡ child_at bytes child
    → (told → bytes ≡ old.image page)
    → (told' → Rises (length (tree_pages mid.image below number)) mid.reads new.reads) → told
    → Rises (length (tree_pages old.image level page)) old.reads new.reads
read_some told told' told'' old mid new under under' under'' s s' s'' slots level below index page number top bytes spans values child way
    looks is some within is_child read reads t = record {
      low = omega (arith, way.looks.kept.reads, looks.kept.reads);
      high = omega (
        arith,
        pages_of_page old.image level below page bytes is some (read t),
        read_more old.image mid.image below number child old.reads mid.reads new.reads bytes (way.looks.kept.image t) is_child (way.reads t)
            (reads (way.looks.kept.told t)).high,
        sum_upto (λ c. length (tree_pages old.image below (child_at bytes c))) child 128 within,
      );
    }

pub read_all : (told told' : Type 0) (old new under under' : View) (s s' : Superblock) (slots level below index page : ℕ)
    (top : Option Span) (bytes : List ℕ) (spans : ℕ → Option Span) (values child : ℕ)
    → IsCounting told told' old new under under' s s' slots level below index page top bytes spans values child → level ≡ suc below
    → page ≢ 0 → child ≡ 128 → (told → bytes ≡ old.image page) → told
    → Rises (length (tree_pages old.image level page)) old.reads new.reads
read_all told told' old new under under' s s' slots level below index page top bytes spans values child way is some end read t =
    let P : ℕ → Type 0 = λ n. new.reads ≤ old.reads + 1 + pages_below old.image below bytes n in
    record {
      low = way.looks.kept.reads;
      high = omega (arith, subst P end (way.reads t), pages_of_page old.image level below page bytes is some (read t));
    }

-- the whole tree is sound, where all children are
pub sound_end : (image : Image) (total slots level below index page child : ℕ) (top : Option Span) (bytes : List ℕ) (spans : ℕ
    → Option Span) → level ≡ suc below → page ≢ 0 → 128 ≤ child → bytes ≡ image page → IsSoundPage total level bytes
    → AreBelow top bytes spans
    → ((c : ℕ) → c < child → IsSoundTree image total slots below (128 * index + c) (child_at bytes c) (spans (127 + c)))
    → IsSoundTree image total slots level index page top
sound_end image total slots level below index page child top bytes spans is some end read sound split children =
    let P : ℕ → Type 0 = λ l. IsSoundTree image total slots l index page top in
    let S : ℕ → Type 0 = λ l. IsSoundPage total l (image page) in
    let B : List ℕ → Type 0 = λ b. IsSoundPage total level b in
    let A : List ℕ → Type 0 = λ b. AreBelow top b spans in
    let C : List ℕ → Type 0 = λ b. (c : ℕ) → c < 128
    → IsSoundTree image total slots below (128 * index + c) (child_at b c) (spans (127 + c)) in
    subst P (sym is) (inr (
      some,
      subst S is (subst B read sound),
      spans,
      subst A read split,
      subst C read (λ c low. children c (omega (arith, low, end))),
    ))

-- why a page wasn't read, by its bytes
pub read_cause : {T : Type 0} → (r : Result T StoreError) (told : Type 0) (old new : View) (total total' level page : ℕ) (top : Option Span)
    (bytes : List ℕ) → total' ≡ total → (told → bytes ≡ old.image page) → IfErr r (λ e. e ≡ Damaged page)
    → OnErr r (IsBadFor total' level top bytes)
    → IfErr r (λ e. IsPageCause e told old new total level page top)
read_cause (Ok v) told old new total total' level page top bytes same read is bad = tt
read_cause (Err e) told old new total total' level page top bytes same read is bad =
    let P : StoreError → Type 0 = λ x. IsPageCause x told old new total level page top in
    let T : ℕ → Type 0 = λ n. IsBadFor n level top bytes in
    let B : List ℕ → Type 0 = λ b. IsBadFor total level top b in
    subst P (sym is) (refl, λ t. subst B (read t) (subst T same bad))

pub sound_total : {E : Type 0} → (r : Result (Unit {0}) E) (total total' level : ℕ) (bytes : List ℕ) → total' ≡ total
    → OnOk r (IsSoundPage total' level bytes) → OnOk r (IsSoundPage total level bytes)
sound_total r total total' level bytes same sound =
    let P : ℕ → Type 0 = λ n. OnOk r (IsSoundPage n level bytes) in
    subst P same sound

-- the page that a call names is the one that it was given
pub within_here : {T : Type 0} (r : Result T StoreError) (total page : ℕ) → page < total → IfErr r (λ e. e ≡ Damaged page)
    → IfErr r (NamesWithin total)
within_here (Ok v) total page low is = tt
within_here (Err e) total page low is = subst (NamesWithin total) (sym is) low
