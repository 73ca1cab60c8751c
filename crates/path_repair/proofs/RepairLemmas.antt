-- One child after the other is changed.
use Rattle.std.proofs.Common.{◌≡◌, ◌≢◌, ℕ, ℤ, ◌+◌, ◌*◌, ◌<◌, ◌≤◌, ◌++◌, ◌∷◌, true, suc, List, length, Option, sym, ap, subst, arith, inl}
use Rattle.std.proofs.Common.{inr, ◌∙◌}
use Rattle.block_disk.specs.View.{Image, View}
use Rattle.om3_coeff.specs.declared.span.Span.{Span}
use Rattle.om3_coeff.specs.Keys.{first_slot, end_slot}
use Rattle.om3_coeff.specs.Spans.{span}
use Rattle.tree_walk.specs.Trees.{top_of_page}
use Rattle.node_page.specs.Fields.{child_at}
use Rattle.page_space.specs.declared.superblock.Superblock.{Superblock}
use Rattle.page_space.specs.declared.txn.Txn.{Txn}
use Rattle.page_space.specs.Transactions.{left_by, held}
use Rattle.path_repair.specs.Forms.{IsForm}
use Rattle.path_repair.specs.Changes.{HasNew}
use Rattle.path_repair.specs.TreePages.{is_stored}
use Rattle.path_repair.proofs.CountLemmas.{truth, none_of}
use Rattle.path_repair.proofs.StayLemmas.{new_stored}
use Rattle.path_repair.specs.Sums.{sum_below}
use Rattle.path_repair.specs.Costs.{touch}
use Rattle.path_repair.specs.Standing.{AreTold, AreLists, Moved, IsPlaced, IsPartWay, IsRepaired}
use Rattle.path_repair.proofs.SumLemmas.{sum_upto, sum_suc}
use Rattle.path_repair.proofs.MoveLemmas.{moved_then, moved_more, told_on}
use Rattle.path_repair.proofs.PartLemmas.{rest, start_child, end_child}

-- what the changes of so many children cost
abbrev pub passed_below : ℕ → ℕ → ℕ → ℕ → ℕ → ℕ → ℕ
passed_below first end height below index i = sum_below (λ child. touch first end height below (128 * index + child)) i

pub record IsOnWay (told told' : Type 0) (old new under under' : View) (s s' : Superblock) (t t' : Txn) (first end : ℕ)
    (values : List (Option ℤ)) (height level below index page : ℕ) (top : Option Span) (number : ℕ) (bytes : List ℕ) (spans : ℕ
    → Option Span) (i : ℕ) : Type 0 where
  pub moved : Moved (1 + passed_below first end height below index i)
      (passed_below first end height below index i) told told' old new under under' s s' t t'
  pub form : IsForm level s.total bytes
  pub part : (base : Image) (count : ℕ) (list list' : List (Option ℤ)) (others : List ℕ) → AreTold told old base
      → AreLists first end values list list' → IsPlaced count (left_by t base) t.superblock list list' height level index page top others
      → IsPartWay count (left_by t base) (left_by t' base) t'.superblock list list' height below index number bytes
      (λ child. spans (127 + child)) i others

pub way_start : (told told' : Type 0) (old new under under' : View) (s s' : Superblock) (t t' : Txn) (first end : ℕ)
    (values : List (Option ℤ)) (height level below index page : ℕ) (top : Option Span) (number : ℕ) (bytes : List ℕ) (spans : ℕ
    → Option Span)
    → Moved 1 0 told told' old new under under' s s' t t' → IsForm level s.total bytes
    → ((base : Image) (count : ℕ) (list list' : List (Option ℤ)) (others : List ℕ) → AreTold told old base
    → AreLists first end values list list' → IsPlaced count (left_by t base) t.superblock list list' height level index page top others
    → IsPartWay count (left_by t base) (left_by t' base) t'.superblock list list' height below index number bytes
    (λ child. spans (127 + child)) 0 others)
    → IsOnWay told told' old new under under' s s' t t' first end values height level below index page top number bytes spans 0
way_start told told' old new under under' s s' t t' first end values height level below index page top number bytes spans moved form
    part = record {
      moved = moved_more 1 (1 + passed_below first end height below index 0) 0
          (passed_below first end height below index 0) told told' old new under under' s s' t t' (omega arith) (omega arith) moved;
      form = form;
      part = part;
    }

-- where the next child stands
pub way_child : (told told' : Type 0) (old new under under' : View) (s s' : Superblock) (t t' : Txn) (first end : ℕ)
    (values : List (Option ℤ)) (height level below index page : ℕ) (top : Option Span) (number : ℕ) (bytes : List ℕ) (spans : ℕ
    → Option Span) (i child_height child_level child_index child_page : ℕ) (child_top : Option Span)
    → IsOnWay told told' old new under under' s s' t t' first end values height level below index page top number bytes spans i → i < 128
    → child_height ≡ height → child_level ≡ below → child_index ≡ 128 * index + i → child_page ≡ child_at bytes i
    → child_top ≡ spans (127 + i)
    → (base : Image) (count : ℕ) (list list' : List (Option ℤ)) (others : List ℕ) → AreTold told old base
    → AreLists first end values list list' → IsPlaced count (left_by t base) t.superblock list list' height level index page top others
    → IsPlaced count (left_by t' base) t'.superblock list list' child_height child_level child_index child_page child_top
    (number ∷ (rest (left_by t' base) height below bytes i ++ others))
way_child told told' old new under under' s s' t t' first end values height level below index page top number bytes spans i child_height
    child_level child_index child_page child_top way within is_height is_level is_index is_page is_top base count list list' others at lists
    placed =
    let there = start_child count (left_by t base) (left_by t' base) t'.superblock list list' height below index number bytes
    (λ child. spans (127 + child)) i others within (way.part base count list list' others at lists placed) in
    let H : ℕ → Type 0 = λ h. IsPlaced count (left_by t' base) t'.superblock list list' h child_level child_index child_page child_top
    (number ∷ (rest (left_by t' base) height below bytes i ++ others)) in
    let L : ℕ → Type 0 = λ l. IsPlaced count (left_by t' base) t'.superblock list list' height l child_index child_page child_top
    (number ∷ (rest (left_by t' base) height below bytes i ++ others)) in
    let I : ℕ → Type 0 = λ q. IsPlaced count (left_by t' base) t'.superblock list list' height below q child_page child_top
    (number ∷ (rest (left_by t' base) height below bytes i ++ others)) in
    let G : ℕ → Type 0 = λ p. IsPlaced count (left_by t' base) t'.superblock list list' height below (128 * index + i) p child_top
    (number ∷ (rest (left_by t' base) height below bytes i ++ others)) in
    let T : Option Span → Type 0 = λ s. IsPlaced count (left_by t' base) t'.superblock list list' height below (128 * index + i)
    (child_at bytes i) s (number ∷ (rest (left_by t' base) height below bytes i ++ others)) in
    subst H (sym is_height) (subst L (sym is_level) (subst I (sym is_index) (subst G (sym is_page) (subst T (sym is_top) there))))

-- a child is changed
pub way_on : (told told' told'' : Type 0) (old mid new under under' under'' : View) (s s' s'' : Superblock) (t t' t'' : Txn) (first end : ℕ)
    (values : List (Option ℤ)) (height level below index page : ℕ) (top : Option Span) (number : ℕ) (bytes bytes' : List ℕ)
    (spans spans' : ℕ → Option Span) (i child_height child_level child_index child_page next_page : ℕ) (child_top next_top : Option Span)
    → IsOnWay told told' old mid under under' s s' t t' first end values height level below index page top number bytes spans i → i < 128
    → child_height ≡ height → child_level ≡ below → child_index ≡ 128 * index + i → child_page ≡ child_at bytes i
    → child_top ≡ spans (127 + i)
    → Moved (touch first end child_height child_level child_index)
    (touch first end child_height child_level child_index) told' told'' mid new under' under'' s' s'' t' t''
    → ((base : Image) (count : ℕ) (list list' : List (Option ℤ)) (others : List ℕ) → AreTold told' mid base
    → AreLists first end values list list' → IsPlaced count
    (left_by t' base) t'.superblock list list' child_height child_level child_index child_page child_top others
    → IsRepaired count (left_by t' base) (left_by t'' base) t''.superblock list' child_level child_index next_page next_top others)
    → IsForm level s.total bytes'
    → child_at bytes' i ≡ next_page → ((c : ℕ) → c ≢ i → child_at bytes' c ≡ child_at bytes c) → spans' (127 + i) ≡ next_top
    → ((n : ℕ) → n ≢ 127 + i → spans' n ≡ spans n)
    → IsOnWay told told'' old new under under'' s s'' t t'' first end values height level below index page top number bytes' spans' (i + 1)
way_on told told' told'' old mid new under under' under'' s s' s'' t t' t'' first end values height level below index page top number bytes
    bytes' spans spans' i child_height child_level child_index child_page next_page child_top next_top way within is_height is_level
    is_index is_page is_top moved repaired form page_is pages_are top_is tops_are =
    let cost = touch first end height below (128 * index + i) in
    let costs : touch first end child_height child_level child_index ≡ cost = ap (λ h. touch first end h child_level child_index) is_height
    ∙ ap (λ l. touch first end height l child_index) is_level ∙ ap (λ q. touch first end height below q) is_index in
    let before = passed_below first end height below index i in
    let sum : passed_below first end height below index (i + 1) ≡ before + cost = ap (λ n. passed_below first end height below index n)
    (next i) ∙ sum_suc (λ child. touch first end height below (128 * index + child)) i in
    record {
      moved = moved_more (1 + before + touch first end child_height child_level child_index)
          (1 + passed_below first end height below index (i + 1)) (before + touch first end child_height child_level child_index)
          (passed_below first end height below index (i + 1)) told told'' old new under under'' s s'' t t''
          (omega (arith, sum, costs)) (omega (arith, sum, costs))
          (moved_then (1 + before) (touch first end child_height child_level child_index) before
          (touch first end child_height child_level child_index) told told' told'' old mid new under under' under'' s s' s'' t t' t''
          way.moved moved);
      form = form;
      part = λ base count list list' others at lists placed.
          let child = way_child told told' old mid under under' s s' t t' first end values height level below index page top number bytes
          spans i child_height child_level child_index child_page child_top way within is_height is_level is_index is_page is_top base
          count list list' others at lists placed in
          let done = repaired base count list list' (number ∷ (rest (left_by t' base) height below bytes i ++ others))
          (told_on (1 + before) told told' old mid base way.moved.reads at) lists child in
          let L : ℕ → Type 0 = λ l. IsRepaired count (left_by t' base)
          (left_by t'' base) t''.superblock list' l child_index next_page next_top
          (number ∷ (rest (left_by t' base) height below bytes i ++ others)) in
          let I : ℕ → Type 0 = λ q. IsRepaired count (left_by t' base) (left_by t'' base) t''.superblock list' below q next_page next_top
          (number ∷ (rest (left_by t' base) height below bytes i ++ others)) in
          let N : ℕ → Type 0 = λ n. IsPartWay count (left_by t base)
          (left_by t'' base) t''.superblock list list' height below index number bytes' (λ child. spans' (127 + child)) n others in
          subst N (sym (next i)) (end_child count (left_by t base) (left_by t' base)
          (left_by t'' base) t'.superblock t''.superblock list list' height below index number bytes bytes'
          (λ child. spans (127 + child)) (λ child. spans' (127 + child)) i next_page next_top others within
          (way.part base count list list' others at lists placed) moved.total
          (subst I is_index (subst L is_level done)) page_is pages_are top_is
          (λ c other. tops_are (127 + c) (λ is. other (omega (arith, is)))));
    }
  where
    next : (i : ℕ) → i + 1 ≡ suc i
    next i = omega arith

-- a change of a child failed
pub way_moved : (told told' told'' : Type 0) (old mid new under under' under'' : View) (s s' s'' : Superblock) (t t' t'' : Txn)
    (first end : ℕ) (values : List (Option ℤ)) (height level below index page : ℕ) (top : Option Span) (number : ℕ) (bytes : List ℕ)
    (spans : ℕ → Option Span) (i child_height child_level child_index : ℕ)
    → IsOnWay told told' old mid under under' s s' t t' first end values height level below index page top number bytes spans i → i < 128
    → child_height ≡ height → child_level ≡ below → child_index ≡ 128 * index + i
    → Moved (touch first end child_height child_level child_index)
    (touch first end child_height child_level child_index) told' told'' mid new under' under'' s' s'' t' t''
    → touch first end height level index ≡ 1 + passed_below first end height below index 128
    → Moved (touch first end height level index) (touch first end height level index) told told'' old new under under'' s s'' t t''
way_moved told told' told'' old mid new under under' under'' s s' s'' t t' t'' first end values height level below index page top number
    bytes spans i child_height child_level child_index way within is_height is_level is_index moved whole =
    let cost = touch first end height below (128 * index + i) in
    let costs : touch first end child_height child_level child_index ≡ cost = ap (λ h. touch first end h child_level child_index) is_height
    ∙ ap (λ l. touch first end height l child_index) is_level ∙ ap (λ q. touch first end height below q) is_index in
    let before = passed_below first end height below index i in
    let most = sum_upto (λ child. touch first end height below (128 * index + child)) i 128 within in
    moved_more (1 + before + touch first end child_height child_level child_index) (touch first end height level index)
    (before + touch first end child_height child_level child_index)
    (touch first end height level index) told told'' old new under under'' s s'' t t''
    (omega (arith, costs, most, whole)) (omega (arith, costs, most, whole))
    (moved_then (1 + before) (touch first end child_height child_level child_index) before
    (touch first end child_height child_level child_index) told told' told'' old mid new under under' under'' s s' s'' t t' t''
    way.moved moved)

-- there is room for what a child's change puts
pub way_room : (told told' : Type 0) (old new under under' : View) (s s' : Superblock) (t t' : Txn) (first end : ℕ)
    (values : List (Option ℤ)) (height level below index page : ℕ) (top : Option Span) (number : ℕ) (bytes : List ℕ) (spans : ℕ
    → Option Span) (i child_height child_level child_index : ℕ)
    → IsOnWay told told' old new under under' s s' t t' first end values height level below index page top number bytes spans i → i < 128
    → child_height ≡ height → child_level ≡ below → child_index ≡ 128 * index + i
    → touch first end height level index ≡ 1 + passed_below first end height below index 128
    → length (held t) + touch first end height level index ≤ 64
    → length (held t') + touch first end child_height child_level child_index ≤ 64
way_room told told' old new under under' s s' t t' first end values height level below index page top number bytes spans i child_height
    child_level child_index way within is_height is_level is_index whole room =
    let costs : touch first end child_height child_level child_index ≡ touch first end height below
    (128 * index + i) = ap (λ h. touch first end h child_level child_index) is_height
    ∙ ap (λ l. touch first end height l child_index) is_level ∙ ap (λ q. touch first end height below q) is_index in
    omega (arith, costs, sum_upto (λ child. touch first end height below (128 * index + child)) i 128 within, whole, room, way.moved.held)

-- all children are changed
pub way_end : (told told' told'' : Type 0) (old mid new under under' under'' : View) (s s' s'' : Superblock) (t t' t'' : Txn)
    (first end : ℕ) (values : List (Option ℤ)) (height level below index page : ℕ) (top : Option Span) (number : ℕ) (bytes : List ℕ)
    (spans : ℕ → Option Span) (i : ℕ)
    → IsOnWay told told' old mid under under' s s' t t' first end values height level below index page top number bytes spans i → i ≡ 128
    → Moved 0 1 told' told'' mid new under' under'' s' s'' t' t''
    → touch first end height level index ≡ 1 + passed_below first end height below index 128
    → Moved (touch first end height level index) (touch first end height level index) told told'' old new under under'' s s'' t t''
way_end told told' told'' old mid new under under' under'' s s' s'' t t' t'' first end values height level below index page top number bytes
    spans i way at moved whole =
    let before = passed_below first end height below index i in
    let same = ap (λ n. passed_below first end height below index n) at in
    moved_more (1 + before + 0) (touch first end height level index) (before + 1)
    (touch first end height level index) told told'' old new under under'' s s'' t t'' (omega (arith, same, whole))
    (omega (arith, same, whole))
    (moved_then (1 + before) 0 before 1 told told' told'' old mid new under under' under'' s s' s'' t t' t'' way.moved moved)

pub way_last : (told told' : Type 0) (old new under under' : View) (s s' : Superblock) (t t' : Txn) (first end : ℕ)
    (values : List (Option ℤ)) (height level below index page : ℕ) (top : Option Span) (number : ℕ) (bytes : List ℕ) (spans : ℕ
    → Option Span) (i : ℕ)
    → IsOnWay told told' old new under under' s s' t t' first end values height level below index page top number bytes spans i → i ≡ 128
    → touch first end height level index ≡ 1 + passed_below first end height below index 128
    → length (held t) + touch first end height level index ≤ 64 → length (held t') < 64
way_last told told' old new under under' s s' t t' first end values height level below index page top number bytes spans i way at whole
    room =
    omega (arith, way.moved.held, ap (λ n. passed_below first end height below index n) at, whole, room)

-- the changed list has a stored value where a slot is given one
pub gives : (first end : ℕ) (values list list' : List (Option ℤ)) (level index : ℕ) → AreLists first end values list list'
    → HasNew first end values (first_slot (top_of_page level index)) (end_slot (top_of_page level index))
    → is_stored list' level index ≡ true
gives first end values list list' level index lists new = elim (truth (is_stored list' level index)) [
  | inl is ↦ is
  | inr none ↦ absurd (new_stored first end values list list' (first_slot (top_of_page level index))
      (end_slot (top_of_page level index)) lists.changed new (none_of (span list' (top_of_page level index)) none))
]
