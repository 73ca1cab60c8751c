-- Pages that stay as they are, and slots.
use Rattle.std.proofs.Common.{◌≡◌, ◌≢◌, ℕ, ℤ, zero, suc, ◌+◌, ◌-◌, ◌*◌, ◌^◌, ◌<◌, ◌≤◌, ◌&&◌, ◌++◌, Bool, true, false, cond, eqb, ltb, List}
use Rattle.std.proofs.Common.{slice_get, Option, None, Some, refl, sym, ap, ap₂, subst, arith, inl, inr, ◌∙◌}
use Rattle.std.proofs.lemmas.Bool.{cases_lt, lt-ltb, le-ltb, le-leb, lt-leb, eq-eqb}
use Rattle.std.proofs.lemmas.Bool.Decides.{eqb_tells}
use Rattle.block_disk.specs.View.{Image}
use Rattle.om3_coeff.specs.declared.span.Span.{Span}
use Rattle.om3_coeff.specs.Keys.{first_slot, end_slot}
use Rattle.om3_coeff.specs.Spans.{span_of_slot, span_over, span}
use Rattle.om3_coeff.proofs.ExtremeLemmas.{none-clear, clear-none}
use Rattle.page_space.specs.declared.superblock.Superblock.{Superblock}
use Rattle.page_space.specs.Spaces.{times, Stands}
use Rattle.tree_walk.specs.Trees.{top_of_page, IsTree}
use Rattle.path_repair.specs.Changes.{value_of, slot_at, given, new_slot, IsChanged, HasNew, AreSame}
use Rattle.path_repair.specs.Costs.{is_touched, is_new_root, IsSettled}
use Rattle.path_repair.specs.TreePages.{tree_pages, low, IsRooted}
use Rattle.path_repair.specs.Standing.{AreLists, IsPlaced, IsRepaired}
use Rattle.path_repair.proofs.TreeLemmas.{no_pages, no_slots, low_fits}
use Rattle.path_repair.proofs.ListLemmas.{slot_span, tree_same, over_same}

pub same_pages : (count : ℕ) (image : Image) (s : Superblock) (taken taken' freed : List ℕ) → Stands count image s taken freed
    → ((p : ℕ) → times p taken ≡ times p taken') → Stands count image s taken' freed
same_pages count image s taken taken' freed stands same = record {
  spelled = stands.spelled;
  rules = stands.rules;
  head_is = stands.head_is;
  chain_is = stands.chain_is;
  linked = stands.linked;
  parted = λ p. omega (arith, stands.parted p, same p);
}

-- a slot of both ranges
pub touched_at : (first end level index i : ℕ) → first ≤ i → i < end → first_slot (top_of_page level index) ≤ i
    → i < end_slot (top_of_page level index) → is_touched first end level index ≡ true
unfolding is_touched
touched_at first end level index i from to low high =
    let one : ltb first end ≡ true = lt-ltb first end (omega (arith, from, to)) in
    let two : ltb first (end_slot (top_of_page level index)) ≡ true = lt-ltb first (end_slot (top_of_page level index))
    (omega (arith, from, high)) in
    let three : ltb (first_slot (top_of_page level index)) end ≡ true = lt-ltb (first_slot (top_of_page level index)) end
    (omega (arith, low, to)) in
    ap (λ b. b && (ltb first (end_slot (top_of_page level index)) && ltb (first_slot (top_of_page level index)) end)) one
    ∙ ap (λ b. b && ltb (first_slot (top_of_page level index)) end) two ∙ three

pub new_touched : (first end : ℕ) (values : List (Option ℤ)) (level index : ℕ)
    → HasNew first end values (first_slot (top_of_page level index)) (end_slot (top_of_page level index))
    → is_touched first end level index ≡ true
new_touched first end values level index new = touched_at first end level index new.slot new.from new.to new.low new.high

-- a slot that is not to be changed
pub slot_before : (first end : ℕ) (values : List (Option ℤ)) (i : ℕ) (old : Option ℤ) → i < first → new_slot first end values i old ≡ old
unfolding new_slot
slot_before first end values i old before = ap (λ b. cond (b && ltb i end) (given (slice_get values (i - first)) old) old)
    (lt-leb first i before)

pub slot_behind : (first end : ℕ) (values : List (Option ℤ)) (i : ℕ) (old : Option ℤ) → first ≤ i → end ≤ i
    → new_slot first end values i old ≡ old
unfolding new_slot
slot_behind first end values i old from behind =
    ap (λ b. cond (b && ltb i end) (given (slice_get values (i - first)) old) old) (le-leb first i from)
    ∙ ap (λ b. cond b (given (slice_get values (i - first)) old) old) (le-ltb i end behind)

pub slot_in : (first end : ℕ) (values : List (Option ℤ)) (i : ℕ) (old : Option ℤ) → first ≤ i → i < end
    → new_slot first end values i old ≡ given (slice_get values (i - first)) old
unfolding new_slot
slot_in first end values i old from to =
    ap (λ b. cond (b && ltb i end) (given (slice_get values (i - first)) old) old) (le-leb first i from)
    ∙ ap (λ b. cond b (given (slice_get values (i - first)) old) old) (lt-ltb i end to)

both : (b : Bool) → b ≡ true → b ≡ false → ⊥
both b is never = grind (arith, is, never)

-- where the range isn't touched, the list stays
pub untouched : (first end : ℕ) (values list list' : List (Option ℤ)) (level index : ℕ) → IsChanged first end values list list'
    → is_touched first end level index ≡ false
    → AreSame list list' (first_slot (top_of_page level index)) (end_slot (top_of_page level index))
untouched first end values list list' level index changed none i low high = elim (cases_lt i first) [
  | inl before ↦ changed i ∙ slot_before first end values i (slot_at list i) before
  | inr from ↦ elim (cases_lt i end) [
    | inl to ↦ absurd (both (is_touched first end level index) (touched_at first end level index i from to low high) none)
    | inr behind ↦ changed i ∙ slot_behind first end values i (slot_at list i) from behind
  ]
]

-- a slot that holds a value and held none was given it
given_new : (at : Option (Option ℤ)) (v : ℤ) → given at None ≡ Some v → at ≡ Some (Some v)
given_new None v is = absurd (grind (arith, is))
given_new (Some None) v is = absurd (grind (arith, is))
given_new (Some (Some w)) v is = ap (λ x. Some x) is

pub new_value : (first end : ℕ) (values list list' : List (Option ℤ)) (i : ℕ) (v : ℤ) → IsChanged first end values list list'
    → slot_at list i ≡ None → slot_at list' i ≡ Some v
    → (first ≤ i) × (i < end) × (slice_get values (i - first) ≡ Some (Some v))
new_value first end values list list' i v changed old new =
    let is : new_slot first end values i None ≡ Some v = sym (ap (λ x. new_slot first end values i x) old) ∙ sym (changed i) ∙ new in
    elim (cases_lt i first) [
      | inl before ↦ absurd (grind (arith, sym (slot_before first end values i None before) ∙ is))
      | inr from ↦ elim (cases_lt i end) [
        | inl to ↦ (from, to, given_new (slice_get values (i - first)) v (sym (slot_in first end values i None from to) ∙ is))
        | inr behind ↦ absurd (grind (arith, sym (slot_behind first end values i None from behind) ∙ is))
      ]
    ]

pub value_none : (x : Option (Option ℤ)) → ((v : ℤ) → x ≡ Some (Some v) → ⊥) → value_of x ≡ None
value_none None never = refl
value_none (Some None) never = refl
value_none (Some (Some v)) never = absurd (never v refl)

value_some : (x : Option (Option ℤ)) (v : ℤ) → x ≡ Some (Some v) → value_of x ≡ Some v
value_some x v is = ap (λ y. value_of y) is

-- nothing is stored in the changed list's range, where nothing was and nothing is given
pub still_none : (first end : ℕ) (values list list' : List (Option ℤ)) (a b : ℕ) → IsChanged first end values list list'
    → span_over list a b ≡ None → (HasNew first end values a b → ⊥) → span_over list' a b ≡ None
unfolding slot_at
still_none first end values list list' a b changed none never = clear-none list' a b (λ i v low high holds.
    let old : slot_at list i ≡ None = value_none (slice_get list i) (λ w is. none-clear list a b none i w low high is) in
    let new = new_value first end values list list' i v changed old (value_some (slice_get list' i) v holds) in
    never (record { slot = i; low = low; high = high; from = new.0; to = new.1; value = v; is = new.2 }))

-- a root that is none
pub rooted_none : (image : Image) (total : ℕ) (list : List (Option ℤ)) (height level index page : ℕ) → page ≡ 0
    → IsRooted image total list height (suc level) index page → span list (top_of_page (suc level) index) ≡ None
rooted_none image total list height level index page none (inl whole) = elim whole.tree [
  | inl empty ↦ empty.1
  | inr there ↦ absurd (there.0 none)
]
rooted_none image total list height level index page none (inr lower) = absurd (lower.some none)

-- a root of the whole range
pub rooted_whole : (image : Image) (total : ℕ) (list : List (Option ℤ)) (height level index page : ℕ) → page ≢ 0
    → is_new_root height level index ≡ false → IsRooted image total list height level index page
    → (level ≤ height) × IsTree image total list level index page
unfolding is_new_root
rooted_whole image total list height level index page some low_is (inl whole) = elim whole.fits [
  | inl fits ↦ (fits, whole.tree)
  | inr none ↦ absurd (some none)
]
rooted_whole image total list height level index page some low_is (inr lower) =
    absurd (both (eqb index 0 && ltb height level) (ap (λ b. b && ltb height level) (eq-eqb index 0 lower.first)
    ∙ lt-ltb height level lower.above) low_is)

pub settled : (count : ℕ) (image : Image) (s : Superblock) (first end : ℕ) (values list list' : List (Option ℤ))
    (height level index page : ℕ) (top : Option Span) (others : List ℕ) → AreLists first end values list list'
    → IsPlaced count image s list list' height (suc level) index page top others → IsSettled page first end values height (suc level) index
    → IsRepaired count image image s list' (suc level) index page top others
settled count image s first end values list list' height level index page top others lists placed stays = elim (eqb_tells page 0) [
  | inl is ↦
      let old : span list (top_of_page (suc level) index) ≡ None = rooted_none image s.total list height level index page is.1 placed.rooted
      in
      let new : span list' (top_of_page (suc level) index) ≡ None
      = still_none first end values list list' (first_slot (top_of_page (suc level) index))
      (end_slot (top_of_page (suc level) index)) lists.changed old (stays.nothing is.1) in
      record {
        tree = inl (is.1, new);
        top_is = placed.top_is ∙ old ∙ sym new;
        freed = placed.freed;
        stands = same_pages count image s (tree_pages image (low height (suc level)) page ++ others)
            (tree_pages image (suc level) page ++ others) placed.freed placed.stands
            (λ p. ap (λ l. times p (l ++ others)) (no_pages image (low height (suc level)) page is.1
            ∙ sym (no_pages image (suc level) page is.1)));
        same = λ p there. refl;
      }
  | inr is ↦
      let whole = rooted_whole image s.total list height (suc level) index page is.1 (stays.no_root is.1) placed.rooted in
      let same = untouched first end values list list' (suc level) index lists.changed (stays.untouched is.1) in
      record {
        tree = tree_same image s.total list list' (suc level) index page same whole.1;
        top_is = placed.top_is ∙ sym (over_same list list' (first_slot (top_of_page (suc level) index))
            (end_slot (top_of_page (suc level) index)) same);
        freed = placed.freed;
        stands = same_pages count image s (tree_pages image (low height (suc level)) page ++ others)
            (tree_pages image (suc level) page ++ others) placed.freed placed.stands
            (λ p. ap (λ l. times p (l ++ others)) (ap (λ l. tree_pages image l page) (low_fits height (suc level) whole.0)));
        same = λ p there. refl;
      }
]

-- a slot's key
pub slot_top : (list : List (Option ℤ)) (index : ℕ) → span list (top_of_page 0 index) ≡ span_of_slot (slot_at list index)
slot_top list index =
    let one : 2 ^ (7 * 0) ≡ 1 = refl in
    ap₂ (λ a b. span_over list a b) (omega (arith, ap (λ w. index * w) one)) (omega (arith, ap (λ w. (index + 1) * w) one))
    ∙ slot_span list index

pub slot_repaired : (count : ℕ) (image : Image) (s : Superblock) (first end : ℕ) (values list list' : List (Option ℤ))
    (height index page : ℕ) (top top' : Option Span) (others : List ℕ) → AreLists first end values list list'
    → IsPlaced count image s list list' height 0 index page top others
    → ((old : Option ℤ) → top ≡ span_of_slot old → top' ≡ span_of_slot (new_slot first end values index old))
    → IsRepaired count image image s list' 0 index 0 top' others
slot_repaired count image s first end values list list' height index page top top' others lists placed after = record {
  tree = refl;
  top_is = after (slot_at list index) (placed.top_is ∙ slot_top list index) ∙ sym (ap (λ x. span_of_slot x) (lists.changed index))
      ∙ sym (slot_top list' index);
  freed = placed.freed;
  stands = same_pages count image s (tree_pages image (low height 0) page ++ others)
      (tree_pages image 0 0 ++ others) placed.freed placed.stands
      (λ p. ap (λ l. times p (l ++ others)) (ap (λ l. tree_pages image l page) (low_fits height 0 (omega arith)) ∙ no_slots image page
      ∙ sym (no_slots image 0)));
  same = λ p there. refl;
}

-- the same at a page level that is one more than the children's, or none
pub settled_at : (count : ℕ) (image : Image) (s : Superblock) (first end : ℕ) (values list list' : List (Option ℤ))
    (height level below index page : ℕ) (top : Option Span) (others : List ℕ) → level ≡ suc below → AreLists first end values list list'
    → IsPlaced count image s list list' height level index page top others → IsSettled page first end values height level index
    → IsRepaired count image image s list' level index page top others
settled_at count image s first end values list list' height level below index page top others is lists placed stays =
    let P : ℕ → Type 0 = λ l. IsPlaced count image s list list' height l index page top others in
    let S : ℕ → Type 0 = λ l. IsSettled page first end values height l index in
    let R : ℕ → Type 0 = λ l. IsRepaired count image image s list' l index page top others in
    subst R (sym is) (settled count image s first end values list list' height below index page top others lists (subst P is placed)
    (subst S is stays))

-- a slot that is in no changed range
slot_apart : (first end : ℕ) (values : List (Option ℤ)) (i : ℕ) (old : Option ℤ) → is_touched first end 0 i ≡ false
    → new_slot first end values i old ≡ old
slot_apart first end values i old apart = elim (cases_lt i first) [
  | inl before ↦ slot_before first end values i old before
  | inr from ↦ elim (cases_lt i end) [
    | inl to ↦ absurd (both (is_touched first end 0 i) (touched_at first end 0 i i from to (omega arith) (omega arith)) apart)
    | inr behind ↦ slot_behind first end values i old from behind
  ]
]

-- a slot has no page
rooted_slot : (image : Image) (total : ℕ) (list : List (Option ℤ)) (height index page : ℕ) → IsRooted image total list height 0 index page
    → page ≡ 0
rooted_slot image total list height index page (inl whole) = whole.tree
rooted_slot image total list height index page (inr lower) = absurd (omega (arith, lower.above))

-- a range that no changed slot is in, and that gets no new root, settles whatever its page is
pub apart_settles : (page first end : ℕ) (values : List (Option ℤ)) (height level index : ℕ) → is_touched first end level index ≡ false
    → is_new_root height level index ≡ false → IsSettled page first end values height level index
apart_settles page first end values height level index untouched no_root = record {
  nothing = λ none new. both (is_touched first end level index) (new_touched first end values level index new) untouched;
  untouched = λ some. untouched;
  no_root = λ some. no_root;
}

-- and stays as it is, a slot too
pub apart_repaired : (count : ℕ) (image : Image) (s : Superblock) (first end : ℕ) (values list list' : List (Option ℤ))
    (height level index page : ℕ) (top : Option Span) (others : List ℕ) → AreLists first end values list list'
    → is_touched first end level index ≡ false → is_new_root height level index ≡ false
    → IsPlaced count image s list list' height level index page top others
    → IsRepaired count image image s list' level index page top others
apart_repaired count image s first end values list list' height zero index page top others lists untouched no_root placed =
    let R : ℕ → Type 0 = λ p. IsRepaired count image image s list' 0 index p top others in
    subst R (sym (rooted_slot image s.total list height index page placed.rooted))
    (slot_repaired count image s first end values list list' height index page top top others lists placed (λ old is. is
    ∙ ap (λ x. span_of_slot x) (sym (slot_apart first end values index old untouched))))
apart_repaired count image s first end values list list' height (suc level) index page top others lists untouched no_root placed =
    settled count image s first end values list list' height level index page top others lists placed
    (apart_settles page first end values height (suc level) index untouched no_root)

pub slot_repaired_at : (count : ℕ) (image : Image) (s : Superblock) (first end : ℕ) (values list list' : List (Option ℤ))
    (height level index page : ℕ) (top top' : Option Span) (others : List ℕ) → level ≡ 0 → AreLists first end values list list'
    → IsPlaced count image s list list' height level index page top others
    → ((old : Option ℤ) → top ≡ span_of_slot old → top' ≡ span_of_slot (new_slot first end values index old))
    → IsRepaired count image image s list' level index 0 top' others
slot_repaired_at count image s first end values list list' height level index page top top' others is lists placed after =
    let P : ℕ → Type 0 = λ l. IsPlaced count image s list list' height l index page top others in
    let R : ℕ → Type 0 = λ l. IsRepaired count image image s list' l index 0 top' others in
    subst R (sym is) (slot_repaired count image s first end values list list' height index page top top' others lists
    (subst P is placed) after)

pub value_there : (x : Option (Option ℤ)) (v : ℤ) → value_of x ≡ Some v → x ≡ Some (Some v)
value_there None v is = absurd (grind (arith, is))
value_there (Some None) v is = absurd (grind (arith, is))
value_there (Some (Some w)) v is = ap (λ y. Some y) is

-- something is stored where a slot is given a value
pub new_stored : (first end : ℕ) (values list list' : List (Option ℤ)) (a b : ℕ) → IsChanged first end values list list'
    → HasNew first end values a b → span_over list' a b ≡ None → ⊥
unfolding slot_at
new_stored first end values list list' a b changed new none =
    let is : slot_at list' new.slot ≡ Some new.value = changed new.slot
    ∙ slot_in first end values new.slot (slot_at list new.slot) new.from new.to ∙ ap (λ x. given x (slot_at list new.slot)) new.is in
    none-clear list' a b none new.slot new.value new.low new.high (value_there (slice_get list' new.slot) new.value is)
