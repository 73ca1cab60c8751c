-- A change of which no slot is told to be changed.
use Rattle.std.proofs.Common.{◌≡◌, ◌≢◌, ℕ, ℤ, suc, ◌+◌, ◌*◌, ◌^◌, ◌<◌, ◌≤◌, ◌++◌, ◌∷◌, ◌&&◌, Bool, true, false, eqb, List, length, get_or}
use Rattle.std.proofs.Common.{slice_get, Option, None, Some, refl, sym, ap, subst, arith, inl, inr, ◌∙◌}
use Rattle.std.proofs.lemmas.Bool.{cases_lt, le-ltb}
use Rattle.std.proofs.lemmas.Bool.Decides.{eqb_tells}
use Rattle.std.proofs.lemmas.List.{same_lists}
use Rattle.std.proofs.lemmas.Option.{slice_get-get_or}
use Rattle.block_disk.specs.View.{Image, View}
use Rattle.om3_coeff.specs.declared.span.Span.{Span}
use Rattle.om3_coeff.specs.Keys.{first_slot, end_slot}
use Rattle.om3_coeff.specs.Spans.{span_of_slot, span_over, span}
use Rattle.om3_coeff.proofs.ExtremeLemmas.{none-clear}
use Rattle.page_space.specs.declared.superblock.Superblock.{Superblock}
use Rattle.page_space.specs.declared.txn.Txn.{Txn}
use Rattle.page_space.specs.Transactions.{left_by}
use Rattle.page_space.specs.Spaces.{times}
use Rattle.tree_walk.specs.Trees.{top_of_page}
use Rattle.node_page.specs.Fields.{child_at}
use Rattle.path_repair.specs.Changes.{value_of, slot_at, new_slot, HasNew, AreSame}
use Rattle.path_repair.specs.Costs.{touch, is_new_root, IsSettled}
use Rattle.path_repair.specs.TreePages.{tree_pages, low, IsRooted}
use Rattle.path_repair.specs.Standing.{AreLists, IsPlaced, IsRepaired, ForPlaced, Moved}
use Rattle.path_repair.proofs.ListLemmas.{width, tree_same, over_same}
use Rattle.path_repair.proofs.MoveLemmas.{told_on, moved_more}
use Rattle.path_repair.proofs.PartLemmas.{rest}
use Rattle.path_repair.proofs.RepairLemmas.{IsOnWay, way_child, passed_below}
use Rattle.path_repair.proofs.StayLemmas.{same_pages, slot_top, untouched, still_none, value_none, rooted_none, rooted_whole, new_stored}
use Rattle.path_repair.proofs.TreeLemmas.{low_fits}

-- what is so, with the children below i, while no slot is told to be changed
pub record IsStill (told : Type 0) (old : View) (t t' : Txn) (first end : ℕ) (values : List (Option ℤ)) (height level below index page : ℕ)
    (top : Option Span) (is_changed : Bool) (i : ℕ) : Type 0 where
  pub old_page : is_changed ≡ false → (page ≢ 0) × (is_new_root height level index ≡ false)
  pub kept : is_changed ≡ false → t' ≡ t
  pub same : is_changed ≡ false → ForPlaced told old t first end values height level index page top
      (λ list list'. AreSame list list' (first_slot (top_of_page level index)) (first_slot (top_of_page below (128 * index + i))))
  pub idle : ForPlaced told old t first end values height level index page top (λ list list'. level ≤ height → list' ≡ list
      → is_changed ≡ false)

-- a tree that is as high as the range gets no new root there
no_root_of : (height level index : ℕ) → level ≤ height → is_new_root height level index ≡ false
unfolding is_new_root
no_root_of height level index fits = ap (λ b. eqb index 0 && b) (le-ltb height level fits) ∙ none (eqb index 0)
  where
    none : (b : Bool) → (b && false) ≡ false
    none true = refl
    none false = refl

first_child : (level below index : ℕ) → level ≡ suc below
    → first_slot (top_of_page below (128 * index + 0)) ≡ first_slot (top_of_page level index)
first_child level below index is = subst (λ l. first_slot (top_of_page below (128 * index + 0)) ≡ first_slot (top_of_page l index)) (sym is)
    (omega (arith, ap (λ n. index * n) (width below)))

last_child : (level below index : ℕ) → level ≡ suc below
    → first_slot (top_of_page below (128 * index + 128)) ≡ end_slot (top_of_page level index)
last_child level below index is = subst (λ l. first_slot (top_of_page below (128 * index + 128)) ≡ end_slot (top_of_page l index)) (sym is)
    (omega (arith, ap (λ n. (index + 1) * n) (width below)))

-- where nothing is stored and nothing is given, no slot changes
none_same : (first end : ℕ) (values list list' : List (Option ℤ)) (a b : ℕ) → span_over list a b ≡ None → span_over list' a b ≡ None
    → AreSame list list' a b
unfolding slot_at
none_same first end values list list' a b old new i low high =
    value_none (slice_get list' i) (λ v is. none-clear list' a b new i v low high is)
    ∙ sym (value_none (slice_get list i) (λ v is. none-clear list a b old i v low high is))

settled_in : (count : ℕ) (image : Image) (s : Superblock) (first end : ℕ) (values list list' : List (Option ℤ))
    (height level index page : ℕ) (top : Option Span) (others : List ℕ) → AreLists first end values list list'
    → IsPlaced count image s list list' height (suc level) index page top others → IsSettled page first end values height (suc level) index
    → AreSame list list' (first_slot (top_of_page (suc level) index)) (end_slot (top_of_page (suc level) index))
settled_in count image s first end values list list' height level index page top others lists placed stays = elim (eqb_tells page 0) [
  | inl is ↦
      let old : span list (top_of_page (suc level) index) ≡ None = rooted_none image s.total list height level index page is.1 placed.rooted
      in
      none_same first end values list list' (first_slot (top_of_page (suc level) index)) (end_slot (top_of_page (suc level) index)) old
      (still_none first end values list list' (first_slot (top_of_page (suc level) index))
      (end_slot (top_of_page (suc level) index)) lists.changed old (stays.nothing is.1))
  | inr is ↦ untouched first end values list list' (suc level) index lists.changed (stays.untouched is.1)
]

pub settled_same : (count : ℕ) (image : Image) (s : Superblock) (first end : ℕ) (values list list' : List (Option ℤ))
    (height level below index page : ℕ) (top : Option Span) (others : List ℕ) → level ≡ suc below → AreLists first end values list list'
    → IsPlaced count image s list list' height level index page top others → IsSettled page first end values height level index
    → AreSame list list' (first_slot (top_of_page level index)) (end_slot (top_of_page level index))
settled_same count image s first end values list list' height level below index page top others is lists placed stays =
    let P : ℕ → Type 0 = λ l. IsPlaced count image s list list' height l index page top others in
    let S : ℕ → Type 0 = λ l. IsSettled page first end values height l index in
    let R : ℕ → Type 0 = λ l. AreSame list list' (first_slot (top_of_page l index)) (end_slot (top_of_page l index)) in
    subst R (sym is) (settled_in count image s first end values list list' height below index page top others lists (subst P is placed)
    (subst S is stays))

-- a slot whose span stays
span_one : (a b : Option ℤ) → span_of_slot a ≡ span_of_slot b → a ≡ b
span_one None None same = refl
span_one None (Some v) same = absurd (grind (arith, same))
span_one (Some v) None same = absurd (grind (arith, same))
span_one (Some v) (Some w) same = grind (arith, same)

slot_in_range : (index i : ℕ) → first_slot (top_of_page 0 index) ≤ i → i < end_slot (top_of_page 0 index) → i ≡ index
slot_in_range index i low high =
    let one : 2 ^ (7 * 0) ≡ 1 = refl in
    omega (arith, low, high, ap (λ w. index * w) one, ap (λ w. (index + 1) * w) one)

pub slot_same : (count : ℕ) (image : Image) (s : Superblock) (first end : ℕ) (values list list' : List (Option ℤ))
    (height level index page : ℕ) (top top' : Option Span) (others : List ℕ) → level ≡ 0 → AreLists first end values list list'
    → IsPlaced count image s list list' height level index page top others
    → ((old : Option ℤ) → top ≡ span_of_slot old → top' ≡ span_of_slot (new_slot first end values index old)) → top' ≡ top
    → AreSame list list' (first_slot (top_of_page level index)) (end_slot (top_of_page level index))
slot_same count image s first end values list list' height level index page top top' others is lists placed after stays =
    let T : ℕ → Type 0 = λ l. top ≡ span list (top_of_page l index) in
    let R : ℕ → Type 0 = λ l. AreSame list list' (first_slot (top_of_page l index)) (end_slot (top_of_page l index)) in
    let old : top ≡ span_of_slot (slot_at list index) = subst T is placed.top_is ∙ slot_top list index in
    let new : top' ≡ span_of_slot (slot_at list' index) = after (slot_at list index) old
    ∙ ap (λ x. span_of_slot x) (sym (lists.changed index)) in
    let same : slot_at list' index ≡ slot_at list index = span_one (slot_at list' index) (slot_at list index) (sym new ∙ stays ∙ old) in
    subst R (sym is) (λ i low high. let at = slot_in_range index i low high in subst (λ j. slot_at list' j ≡ slot_at list j) (sym at) same)

pub slot_idle : (count : ℕ) (image : Image) (s : Superblock) (first end : ℕ) (values list list' : List (Option ℤ))
    (height level index page : ℕ) (top top' : Option Span) (others : List ℕ) → level ≡ 0 → AreLists first end values list list'
    → IsPlaced count image s list list' height level index page top others
    → ((old : Option ℤ) → top ≡ span_of_slot old → top' ≡ span_of_slot (new_slot first end values index old)) → list' ≡ list
    → top' ≡ top
slot_idle count image s first end values list list' height level index page top top' others is lists placed after equal =
    let T : ℕ → Type 0 = λ l. top ≡ span list (top_of_page l index) in
    let old : top ≡ span_of_slot (slot_at list index) = subst T is placed.top_is ∙ slot_top list index in
    after (slot_at list index) old ∙ ap (λ x. span_of_slot x) (sym (lists.changed index)) ∙ ap (λ l. span_of_slot (slot_at l index)) equal
    ∙ sym old

-- a page that is opened
pub still_start : (told : Type 0) (old : View) (t t' : Txn) (first end : ℕ) (values : List (Option ℤ)) (height level below index page : ℕ)
    (top : Option Span) (is_changed : Bool) → level ≡ suc below
    → (is_changed ≡ false → (page ≢ 0) × (is_new_root height level index ≡ false))
    → (page ≢ 0 → is_new_root height level index ≡ false → is_changed ≡ false)
    → (page ≢ 0 → is_new_root height level index ≡ false → t' ≡ t)
    → (page ≡ 0 → HasNew first end values (first_slot (top_of_page level index)) (end_slot (top_of_page level index)))
    → IsStill told old t t' first end values height level below index page top is_changed 0
still_start told old t t' first end values height level below index page top is_changed is was new read something = record {
  old_page = was;
  kept = λ no. read (was no).0 (was no).1;
  same = λ no base count list list' others at lists placed i low high. absurd (omega (arith, low, high, first_child level below index is));
  idle = λ base count list list' others at lists placed fits equal.
      let some : page ≢ 0 = λ none.
      let P : ℕ → Type 0 = λ l. IsRooted (left_by t base) t.superblock.total list height l index page in
      let N : ℕ → Type 0 = λ l. span list (top_of_page l index) ≡ None in
      let E : List (Option ℤ) → Type 0 = λ l. span l (top_of_page level index) ≡ None in
      let empty : span list (top_of_page level index) ≡ None = subst N (sym is)
      (rooted_none (left_by t base) t.superblock.total list height below index page none (subst P is placed.rooted)) in
      new_stored first end values list list' (first_slot (top_of_page level index)) (end_slot (top_of_page level index)) lists.changed
      (something none) (subst E (sym equal) empty) in
      new some (no_root_of height level index fits);
}

-- a child that is changed, or not
pub still_on : (told told' : Type 0) (old mid under under' : View) (s s' : Superblock) (t t' t'' : Txn) (first end : ℕ)
    (values : List (Option ℤ)) (height level below index page : ℕ) (top : Option Span) (number : ℕ) (bytes : List ℕ) (spans : ℕ
    → Option Span) (i child_height child_level child_index child_page : ℕ) (child_top : Option Span) (is_changed is_changed' : Bool)
    → IsOnWay told told' old mid under under' s s' t t' first end values height level below index page top number bytes spans i → i < 128
    → level ≡ suc below
    → child_height ≡ height → child_level ≡ below → child_index ≡ 128 * index + i → child_page ≡ child_at bytes i
    → child_top ≡ spans (127 + i)
    → IsStill told old t t' first end values height level below index page top is_changed i
    → (is_changed' ≡ false → is_changed ≡ false) → (is_changed' ≡ false → t'' ≡ t')
    → (is_changed' ≡ false → ForPlaced told' mid t' first end values child_height child_level child_index child_page child_top
    (λ list list'. AreSame list list' (first_slot (top_of_page child_level child_index))
    (end_slot (top_of_page child_level child_index))))
    → (is_changed ≡ false → ForPlaced told' mid t' first end values child_height child_level child_index child_page child_top
    (λ list list'. child_level ≤ child_height → list' ≡ list → is_changed' ≡ false))
    → IsStill told old t t'' first end values height level below index page top is_changed' (i + 1)
still_on told told' old mid under under' s s' t t' t'' first end values height level below index page top number bytes spans i child_height
    child_level child_index child_page child_top is_changed is_changed' way within is is_height is_level is_index is_page is_top still was
    kept same idle = record {
      old_page = λ no. still.old_page (was no);
      kept = λ no. kept no ∙ still.kept (was no);
      same = λ no base count list list' others at lists placed.
          let child = way_child told told' old mid under under' s s' t t' first end values height level below index page top number bytes
          spans
          i child_height child_level child_index child_page child_top way within is_height is_level is_index is_page is_top base count list
          list' others at lists placed in
          let at' = told_on (1 + passed_below first end height below index i) told told' old mid base way.moved.reads at in
          let before = still.same (was no) base count list list' others at lists placed in
          let here = same no base count list list' (number ∷ (rest (left_by t' base) height below bytes i ++ others)) at' lists child in
          let L : ℕ → Type 0 = λ l. AreSame list list' (first_slot (top_of_page l child_index)) (end_slot (top_of_page l child_index)) in
          let I : ℕ → Type 0 = λ q. AreSame list list' (first_slot (top_of_page below q)) (end_slot (top_of_page below q)) in
          let next : end_slot (top_of_page below (128 * index + i)) ≡ first_slot
          (top_of_page below (128 * index + (i + 1))) = ap (λ n. n * 2 ^ (7 * below)) (omega arith) in
          λ j low high. elim (cases_lt j (first_slot (top_of_page below (128 * index + i)))) [
            | inl less ↦ before j low less
            | inr more ↦ subst I is_index (subst L is_level here) j more (omega (arith, high, next))
          ];
      idle = λ base count list list' others at lists placed fits equal.
          let child = way_child told told' old mid under under' s s' t t' first end values height level below index page top number bytes
          spans
          i child_height child_level child_index child_page child_top way within is_height is_level is_index is_page is_top base count list
          list' others at lists placed in
          let at' = told_on (1 + passed_below first end height below index i) told told' old mid base way.moved.reads at in
          idle (still.idle base count list list' others at lists placed fits equal) base count list list'
          (number ∷ (rest (left_by t' base) height below bytes i ++ others)) at' lists child
          (omega (arith, fits, is, is_height, is_level)) equal;
    }

pub still_same : (told : Type 0) (old : View) (t t' : Txn) (first end : ℕ) (values : List (Option ℤ)) (height level below index page : ℕ)
    (top : Option Span) (is_changed : Bool) (i : ℕ) → level ≡ suc below → i ≡ 128 → is_changed ≡ false
    → IsStill told old t t' first end values height level below index page top is_changed i
    → ForPlaced told old t first end values height level index page top
    (λ list list'. AreSame list list' (first_slot (top_of_page level index)) (end_slot (top_of_page level index)))
still_same told old t t' first end values height level below index page top is_changed i is last unchanged still base count list list'
    others at lists placed =
    let N : ℕ → Type 0 = λ n. AreSame list list' (first_slot (top_of_page level index))
    (first_slot (top_of_page below (128 * index + n))) in
    let E : ℕ → Type 0 = λ e. AreSame list list' (first_slot (top_of_page level index)) e in
    subst E (last_child level below index is) (subst N last (still.same unchanged base count list list' others at lists placed))

-- the pages stand for the changed list too
pub still_repaired : (count : ℕ) (image : Image) (s : Superblock) (list list' : List (Option ℤ)) (height level index page : ℕ)
    (top : Option Span) (others : List ℕ) → page ≢ 0 → is_new_root height level index ≡ false
    → AreSame list list' (first_slot (top_of_page level index)) (end_slot (top_of_page level index))
    → IsPlaced count image s list list' height level index page top others
    → IsRepaired count image image s list' level index page top others
still_repaired count image s list list' height level index page top others some no_root same placed =
    let whole = rooted_whole image s.total list height level index page some no_root placed.rooted in
    record {
      tree = tree_same image s.total list list' level index page same whole.1;
      top_is = placed.top_is ∙ sym (over_same list list' (first_slot (top_of_page level index)) (end_slot (top_of_page level index)) same);
      freed = placed.freed;
      stands = same_pages count image s (tree_pages image (low height level) page ++ others)
          (tree_pages image level page ++ others) placed.freed placed.stands
          (λ p. ap (λ l. times p (l ++ others)) (ap (λ l. tree_pages image l page) (low_fits height level whole.0)));
      same = λ p there. refl;
    }

-- as many slots that hold the same are the same list
pub lists_equal : (list list' : List (Option ℤ)) (b : ℕ) → length list ≤ b → length list' ≡ length list → AreSame list list' 0 b
    → list' ≡ list
unfolding slot_at
lists_equal list list' b within lengths same = same_lists list' list lengths (λ k d low.
    let new : slot_at list' k ≡ get_or list' k d = ap (λ x. value_of x) (slice_get-get_or list' k d low) in
    let old : slot_at list k ≡ get_or list k d = ap (λ x. value_of x) (slice_get-get_or list k d (omega (arith, low, lengths))) in
    sym new ∙ same k (omega arith) (omega (arith, low, lengths, within)) ∙ old)

pub moved_still : (told told' : Type 0) (old new under under' : View) (s s' : Superblock) (t t' : Txn) (first end : ℕ)
    (values : List (Option ℤ)) (height level below index page : ℕ) (top : Option Span) (number : ℕ) (bytes : List ℕ) (spans : ℕ
    → Option Span) (i : ℕ)
    → IsOnWay told told' old new under under' s s' t t' first end values height level below index page top number bytes spans i → i ≡ 128
    → touch first end height level index ≡ 1 + passed_below first end height below index 128
    → Moved (touch first end height level index) (touch first end height level index) told told' old new under under' s s' t t'
moved_still told told' old new under under' s s' t t' first end values height level below index page top number bytes spans i way at whole =
    let before = passed_below first end height below index i in
    let same = ap (λ n. passed_below first end height below index n) at in
    moved_more (1 + before) (touch first end height level index) before
    (touch first end height level index) told told' old new under under' s s' t t' (omega (arith, same, whole))
    (omega (arith, same, whole)) way.moved
