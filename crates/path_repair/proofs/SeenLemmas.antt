-- Pages are counted before a change.
use Rattle.std.proofs.Common.{◌≡◌, ◌≢◌, ℕ, ℤ, zero, suc, ◌+◌, ◌-◌, ◌*◌, ◌<◌, ◌≤◌, ◌⊎◌, true, false, is_some, List, length, slice_get}
use Rattle.std.proofs.Common.{Option, None, Some, IsSome, refl, sym, ap, subst, arith, inl, inr, ◌∙◌}
use Rattle.std.proofs.lemmas.Bool.{cases_lt}
use Rattle.std.proofs.lemmas.Bool.Decides.{eqb_tells}
use Rattle.std.proofs.lemmas.Option.{slice_get_cases}
use Rattle.block_disk.specs.View.{Image, View}
use Rattle.om3_coeff.specs.Keys.{first_slot, end_slot}
use Rattle.om3_coeff.specs.Spans.{span}
use Rattle.om3_coeff.proofs.ExtremeLemmas.{none-clear, clear-none}
use Rattle.node_page.specs.Fields.{child_at, level_at}
use Rattle.node_page.specs.Layout.{KeepsLayout}
use Rattle.page_space.specs.declared.superblock.Superblock.{Superblock}
use Rattle.page_space.specs.declared.txn.Txn.{Txn}
use Rattle.page_space.specs.Transactions.{left_by}
use Rattle.tree_walk.specs.Trees.{top_of_page}
use Rattle.path_repair.specs.Changes.{value_of, slot_at, given, IsChanged}
use Rattle.path_repair.specs.Costs.{touch, is_touched, is_new_root, IsSettled, IsUnsettled}
use Rattle.path_repair.specs.Sums.{sum_below}
use Rattle.path_repair.specs.TreePages.{tree_pages, low, page_count, is_stored, IsRooted}
use Rattle.path_repair.specs.Standing.{AreTold, AreLists, Moved, IsSeen}
use Rattle.path_repair.proofs.SumLemmas.{sum_none, sum_suc, sum_swap, sum_same, sum_upto, length_join}
use Rattle.path_repair.proofs.TreeLemmas.{no_pages, no_slots, own_pages, low_fits}
use Rattle.path_repair.proofs.ListLemmas.{tree_same}
use Rattle.path_repair.proofs.StayLemmas.{value_none, slot_before, slot_behind, slot_in, value_there, rooted_none, rooted_whole, still_none}
use Rattle.path_repair.proofs.StayLemmas.{untouched, apart_settles}
use Rattle.path_repair.proofs.CountLemmas.{count_one, count_slots, truth, none_of, none_is, stored_is, pages_length, count_no, lower_up}
use Rattle.path_repair.proofs.OpenLemmas.{IsFirst, there, child_below, first_none, first_lower, lower_of, root_above, none_rooted}
use Rattle.path_repair.proofs.MoveLemmas.{moved_then, moved_more, told_on}
use Rattle.path_repair.specs.Keeping.{look_most, count_most}
use Rattle.path_repair.proofs.RepairLemmas.{passed_below, gives}
use Rattle.path_repair.proofs.ReadLemmas.{counted_below}

-- a page that is there
pub record IsSound (image : Image) (total level page : ℕ) : Type 0 where
  pub keeps : KeepsLayout (image page)
  pub level_is : level_at (image page) ≡ level
  pub below : (child : ℕ) → child < 128 → child_at (image page) child < total

pub sound_at : (image : Image) (total : ℕ) (list : List (Option ℤ)) (height level below index page : ℕ) → level ≡ suc below → page ≢ 0
    → is_new_root height level index ≡ false → 0 < total → IsRooted image total list height level index page
    → IsSound image total level page
sound_at image total list height level below index page is some old positive rooted =
    let N : ℕ → Type 0 = λ l. is_new_root height l index ≡ false in
    let R : ℕ → Type 0 = λ l. IsRooted image total list height l index page in
    let S : ℕ → Type 0 = λ l. IsSound image total l page in
    let whole = rooted_whole image total list height (suc below) index page some (subst N is old) (subst R is rooted) in
    let here = there image total list below index page some whole.1 in
    subst S (sym is) (record {
      keeps = here.nodes.keeps;
      level_is = here.nodes.level_is;
      below = λ child within. child_below image total list below (128 * index + child) (child_at (image page) child) positive
          (here.children child within);
    })

pub seen_read : (image : Image) (total : ℕ) (list : List (Option ℤ)) (height level below index page : ℕ) (bytes : List ℕ)
    → level ≡ suc below → page ≢ 0 → is_new_root height level index ≡ false → IsRooted image total list height level index page
    → bytes ≡ image page
    → IsSeen image total list height below index page bytes 0
seen_read image total list height level below index page bytes is some old rooted read =
    let N : ℕ → Type 0 = λ l. is_new_root height l index ≡ false in
    let R : ℕ → Type 0 = λ l. IsRooted image total list height l index page in
    let B : List ℕ → Type 0 = λ b. IsSeen image total list height below index page b 0 in
    let whole = rooted_whole image total list height (suc below) index page some (subst N is old) (subst R is rooted) in
    let here = there image total list below index page some whole.1 in
    let fits : below ≤ height = omega (arith, whole.0) in
    subst B (sym read) (record {
      rooted = λ child within. inl (record { fits = inl fits; tree = here.children child within });
      sum = omega (
        arith,
        sum_same (λ child. length (tree_pages image (low height below) (child_at (image page) child)))
            (λ child. length (tree_pages image below (child_at (image page) child))) 128
            (λ child within. ap (λ l. length (tree_pages image l (child_at (image page) child))) (low_fits height below fits)),
        length_join (λ child. tree_pages image below (child_at (image page) child)) 128,
        ap (λ l. length l) (own_pages image below page some),
        ap (λ l. length (tree_pages image l page)) (low_fits height (suc below) whole.0),
      );
    })

first_of : (image : Image) (total : ℕ) (list : List (Option ℤ)) (height below index page : ℕ)
    → (page ≡ 0) ⊎ (is_new_root height (suc below) index ≡ true) → IsRooted image total list height (suc below) index page
    → IsFirst image total list height below index page (span list (top_of_page (suc below) index))
first_of image total list height below index page new rooted = elim (eqb_tells page 0) [
  | inl is ↦ first_none image total list height below index page (span list (top_of_page (suc below) index)) is.1 refl
      (rooted_none image total list height below index page is.1 rooted)
  | inr is ↦
      let above : height < suc below = elim new [
        | inl none ↦ absurd (is.1 none)
        | inr root ↦ root_above height (suc below) index root
      ] in
      first_lower image total list height below index page (span list (top_of_page (suc below) index))
      (lower_of image total list height (suc below) index page is.1 above rooted) refl
]

pub seen_new : (image : Image) (total : ℕ) (list : List (Option ℤ)) (height level below index page : ℕ) (bytes : List ℕ) → level ≡ suc below
    → (page ≡ 0) ⊎ (is_new_root height level index ≡ true) → IsRooted image total list height level index page
    → child_at bytes 0 ≡ page → ((c : ℕ) → 0 < c → c < 128 → child_at bytes c ≡ 0)
    → IsSeen image total list height below index page bytes 1
seen_new image total list height level below index page bytes is new rooted first_is none_are =
    let N : ℕ → Type 0 = λ l. (page ≡ 0) ⊎ (is_new_root height l index ≡ true) in
    let R : ℕ → Type 0 = λ l. IsRooted image total list height l index page in
    let first = first_of image total list height below index page (subst N is new) (subst R is rooted) in
    let each : ℕ → ℕ = λ child. length (tree_pages image (low height below) (child_at bytes child)) in
    let nothing : ℕ → ℕ = λ child. 0 in
    let none : (c : ℕ) → c < 128 → c ≢ 0 → nothing c ≡ each c = λ c within apart.
    sym (ap (λ l. length l) (no_pages image (low height below) (child_at bytes c) (none_are c (positive c apart) within))) in
    record {
      rooted = λ c within. elim (cases_lt 0 c) [
        | inl some ↦
            let P : ℕ → Type 0 = λ p. IsRooted image total list height below (128 * index + c) p in
            subst P (sym (none_are c some within)) (none_rooted image total list height below (128 * index + c) 0 refl
            (first.others c some within))
        | inr none ↦
            let zero_is : 0 ≡ c = omega (arith, none) in
            let P : ℕ → Type 0 = λ at. IsRooted image total list height below (128 * index + at) (child_at bytes at) in
            let Q : ℕ → Type 0 = λ p. IsRooted image total list height below (128 * index + 0) p in
            subst P zero_is (subst Q (sym first_is) first.first)
      ];
      sum = omega (
        arith,
        sum_swap each nothing 0 128 (omega arith) none,
        zeros 128,
        ap (λ p. length (tree_pages image (low height below) p)) first_is,
        ap (λ l. length l) first.pages,
      );
    }
  where
    positive : (c : ℕ) → c ≢ 0 → 0 < c
    positive c some = elim (cases_lt 0 c) [
      | inl is ↦ is
      | inr none ↦ absurd (some (omega (arith, none)))
    ]

    zeros : (n : ℕ) → sum_below (λ child. 0) n ≡ 0
    zeros zero = sum_none (λ child. 0)
    zeros (suc n) = sum_suc (λ child. 0) n ∙ omega (arith, zeros n)

given_some : (x : Option (Option ℤ)) (v : ℤ) → IsSome x → given x (Some v) ≡ None → ⊥
given_some None v some is = grind (arith, some)
given_some (Some None) v some is = grind (arith, is)
given_some (Some (Some w)) v some is = grind (arith, is)

filled : (xs : List (Option ℤ)) (i : ℕ) → i < length xs → IsSome (slice_get xs i)
filled xs i within = elim (slice_get_cases xs i).1 [
  | inl found ↦ ap (λ x. is_some x) found.2
  | inr past ↦ absurd (omega (arith, within, past.0))
]

-- where no slot is cleared, a stored value stays one
pub stored_stays : (first end : ℕ) (values list list' : List (Option ℤ)) (level index : ℕ) → IsChanged first end values list list'
    → end ≤ first + length values → is_stored list level index ≡ true → is_stored list' level index ≡ true
unfolding slot_at
stored_stays first end values list list' level index changed fills is = elim (truth (is_stored list' level index)) [
  | inl there ↦ there
  | inr none ↦
      let a = first_slot (top_of_page level index) in
      let b = end_slot (top_of_page level index) in
      let empty' = none_of (span list' (top_of_page level index)) none in
      let empty : span list (top_of_page level index) ≡ None = clear-none list a b (λ i v lower higher holds.
      let old : slot_at list i ≡ Some v = ap (λ x. value_of x) holds in
      elim (cases_lt i first) [
        | inl before ↦ none-clear list' a b empty' i v lower higher
            (value_there (slice_get list' i) v (changed i ∙ slot_before first end values i (slot_at list i) before ∙ old))
        | inr from ↦ elim (cases_lt i end) [
          | inl to ↦ absurd (given_some (slice_get values (i - first)) v (filled values (i - first) (omega (arith, from, to, fills)))
              (sym (ap (λ x. given (slice_get values (i - first)) x) old) ∙ sym (slot_in first end values i (slot_at list i) from to)
              ∙ sym (changed i) ∙ value_none (slice_get list' i) (λ w at. none-clear list' a b empty' i w lower higher at)))
          | inr behind ↦ none-clear list' a b empty' i v lower higher
              (value_there (slice_get list' i) v (changed i ∙ slot_behind first end values i (slot_at list i) from behind ∙ old))
        ]
      ]) in
      absurd (grind (arith, is, none_is (span list (top_of_page level index)) empty))
]

pub settled_count : (image : Image) (total first end : ℕ) (values list list' : List (Option ℤ)) (height level below index page : ℕ)
    → level ≡ suc below → AreLists first end values list list' → IsRooted image total list height level index page
    → IsSettled page first end values height level index
    → length (tree_pages image (low height level) page) ≡ page_count list' level index
settled_count image total first end values list list' height level below index page is lists rooted stays =
    let R : ℕ → Type 0 = λ l. IsRooted image total list height l index page in
    let S : ℕ → Type 0 = λ l. IsSettled page first end values height l index in
    let G : ℕ → Type 0 = λ l. length (tree_pages image (low height l) page) ≡ page_count list' l index in
    let rooted' = subst R is rooted in
    let stays' = subst S is stays in
    subst G (sym is) (elim (eqb_tells page 0) [
      | inl none ↦
          let empty = still_none first end values list list' (first_slot (top_of_page (suc below) index))
          (end_slot (top_of_page (suc below) index)) lists.changed (rooted_none image total list height below index page none.1 rooted')
          (stays'.nothing none.1) in
          ap (λ l. length l) (no_pages image (low height (suc below)) page none.1)
          ∙ sym (count_no (is_stored list') below index (none_is (span list' (top_of_page (suc below) index)) empty))
      | inr some ↦
          let whole = rooted_whole image total list height (suc below) index page some.1 (stays'.no_root some.1) rooted' in
          let same = untouched first end values list list' (suc below) index lists.changed (stays'.untouched some.1) in
          ap (λ l. length (tree_pages image l page)) (low_fits height (suc below) whole.0)
          ∙ pages_length image total list' (suc below) index page (tree_same image total list list' (suc below) index page same whole.1)
    ])

-- a page that is passed stands for a range where the changed list has a stored value
pub passed_stored : (image : Image) (total first end : ℕ) (values list list' : List (Option ℤ)) (height level below index page : ℕ)
    → level ≡ suc below → AreLists first end values list list' → end ≤ first + length values
    → IsRooted image total list height level index page → IsUnsettled page first end values height level index
    → is_stored list' level index ≡ true
passed_stored image total first end values list list' height level below index page is lists fills rooted passes = elim (eqb_tells page 0) [
  | inl none ↦ gives first end values list list' level index lists (passes.something none.1)
  | inr some ↦
      let R : ℕ → Type 0 = λ l. IsRooted image total list height l index page in
      let S : ℕ → Type 0 = λ l. is_stored list l index ≡ true in
      stored_stays first end values list list' level index lists.changed fills
      (subst S (sym is) (rooted_stored image total list height below index page some.1 (subst R is rooted)))
]
  where
    rooted_stored : (image : Image) (total : ℕ) (list : List (Option ℤ)) (height below index page : ℕ) → page ≢ 0
        → IsRooted image total list height (suc below) index page → is_stored list (suc below) index ≡ true
    rooted_stored image total list height below index page some (inl whole) = stored_is (span list (top_of_page (suc below) index))
        (there image total list below index page some whole.tree).stored
    rooted_stored image total list height below index page some (inr lower) = ap (λ q. is_stored list (suc below) q) lower.first
        ∙ (lower_up image total list height (suc below) page some (omega (arith, lower.above)) lower.tree).0

-- how many pages the children have, and how many they need
abbrev pub had : Image → ℕ → ℕ → List ℕ → ℕ → ℕ
had image height below bytes i = sum_below (λ child. length (tree_pages image (low height below) (child_at bytes child))) i

abbrev pub need : List (Option ℤ) → ℕ → ℕ → ℕ → ℕ
need list' below index i = sum_below (λ child. page_count list' below (128 * index + child)) i

pub record IsCounting (told told' : Type 0) (old new under under' : View) (s s' : Superblock) (t : Txn) (first end : ℕ)
    (values : List (Option ℤ)) (height level below index page : ℕ) (bytes : List ℕ) (start pages i : ℕ) : Type 0 where
  pub moved : Moved (look_most height level index page + counted_below bytes first end height below index i) 0 told told' old new under
      under' s s' t t
  pub few : pages ≤ 1 + passed_below first end height below index i
  pub counts : (base : Image) (list list' : List (Option ℤ)) → AreTold told old base → AreLists first end values list list'
      → end ≤ first + length values → IsRooted (left_by t base) s.total list height level index page
      → pages + had (left_by t base) height below bytes i ≡ start + need list' below index i

-- the reads of one more child
count_at : (first end height below index i child_height child_level child_index child_page : ℕ) (bytes : List ℕ) → child_height ≡ height
    → child_level ≡ below → child_index ≡ 128 * index + i → child_page ≡ child_at bytes i
    → counted_below bytes first end height below index
    (i + 1) ≡ counted_below bytes first end height below index i + count_most child_page first end child_height child_level child_index
count_at first end height below index i child_height child_level child_index child_page bytes is_height is_level is_index is_page =
    let costs : count_most child_page first end child_height child_level child_index ≡ count_most (child_at bytes i) first end height below
    (128 * index + i)
    = ap (λ p. count_most p first end child_height child_level child_index) is_page
    ∙ ap (λ h. count_most (child_at bytes i) first end h child_level child_index) is_height
    ∙ ap (λ l. count_most (child_at bytes i) first end height l child_index) is_level
    ∙ ap (λ q. count_most (child_at bytes i) first end height below q) is_index in
    let next : i + 1 ≡ suc i = omega arith in
    omega (
      arith,
      ap (λ n. counted_below bytes first end height below index n) next
          ∙ sum_suc (λ child. count_most (child_at bytes child) first end height below (128 * index + child)) i,
      costs,
    )

pub count_start : (told told' : Type 0) (old new under under' : View) (s s' : Superblock) (t : Txn) (first end : ℕ)
    (values : List (Option ℤ)) (height level below index page : ℕ) (bytes : List ℕ) (pages : ℕ)
    → Moved (look_most height level index page) 0 told told' old new under under' s s' t t → pages ≤ 1
    → IsCounting told told' old new under under' s s' t first end values height level below index page bytes pages pages 0
count_start told told' old new under under' s s' t first end values height level below index page bytes pages moved few = record {
  moved = moved_more (look_most height level index page)
      (look_most height level index page + counted_below bytes first end height below index 0) 0 0 told told' old new under under' s s' t t
      (omega arith) (omega arith) moved;
  few = omega (arith, few);
  counts = λ base list list' at lists fills rooted. omega (
    arith,
    sum_none (λ child. length (tree_pages (left_by t base) (low height below) (child_at bytes child))),
    sum_none (λ child. page_count list' below (128 * index + child)),
  );
}

pub count_on : (told told' told'' : Type 0) (old mid new under under' under'' : View) (s s' s'' : Superblock) (t : Txn) (first end : ℕ)
    (values : List (Option ℤ)) (height level below index page : ℕ) (bytes : List ℕ)
    (start pages more i child_height child_level child_index child_page : ℕ)
    → IsCounting told told' old mid under under' s s' t first end values height level below index page bytes start pages i → i < 128
    → child_height ≡ height → child_level ≡ below → child_index ≡ 128 * index + i → child_page ≡ child_at bytes i
    → Moved (count_most child_page first end child_height child_level child_index) 0 told' told'' mid new under' under'' s' s'' t t
    → more ≤ touch first end child_height child_level child_index
    → ((base : Image) (list list' : List (Option ℤ)) → AreTold told' mid base → AreLists first end values list list'
    → end ≤ first + length values → IsRooted (left_by t base) s'.total list child_height child_level child_index child_page
    → more + length (tree_pages (left_by t base) (low child_height child_level) child_page) ≡ page_count list' child_level child_index)
    → ((base : Image) (list : List (Option ℤ)) → AreTold told old base → IsRooted (left_by t base) s.total list height level index page
    → IsSeen (left_by t base) s.total list height below index page bytes start)
    → IsCounting told told'' old new under under'' s s'' t first end values height level below index page bytes start (pages + more) (i + 1)
count_on told told' told'' old mid new under under' under'' s s' s'' t first end values height level below index page bytes start pages more
    i child_height child_level child_index child_page way within is_height is_level is_index is_page moved fewer counted seen =
    let cost = touch first end height below (128 * index + i) in
    let costs : touch first end child_height child_level child_index ≡ cost = ap (λ h. touch first end h child_level child_index) is_height
    ∙ ap (λ l. touch first end height l child_index) is_level ∙ ap (λ q. touch first end height below q) is_index in
    let before = passed_below first end height below index i in
    let sum : passed_below first end height below index (i + 1) ≡ before + cost = ap (λ n. passed_below first end height below index n)
    (next i) ∙ sum_suc (λ child. touch first end height below (128 * index + child)) i in
    let read = look_most height level index page + counted_below bytes first end height below index i in
    let reads = count_at first end height below index i child_height child_level child_index child_page bytes is_height is_level is_index
    is_page in
    record {
      moved = moved_more (read + count_most child_page first end child_height child_level child_index)
          (look_most height level index page + counted_below bytes first end height below index (i + 1)) 0 0 told told'' old new under
          under'' s s'' t t (omega (arith, reads)) (omega arith)
          (moved_then read (count_most child_page first end child_height child_level child_index) 0 0 told told' told'' old mid new under
          under' under'' s s' s'' t t t way.moved moved);
      few = omega (arith, way.few, fewer, sum, costs);
      counts = λ base list list' at lists fills rooted.
          let image = left_by t base in
          let there_is = (seen base list at rooted).rooted i within in
          let T : ℕ → Type 0 = λ total. IsRooted image total list height below (128 * index + i) (child_at bytes i) in
          let H : ℕ → Type 0 = λ h. IsRooted image s'.total list h child_level child_index child_page in
          let L : ℕ → Type 0 = λ l. IsRooted image s'.total list height l child_index child_page in
          let I : ℕ → Type 0 = λ q. IsRooted image s'.total list height below q child_page in
          let G : ℕ → Type 0 = λ p. IsRooted image s'.total list height below (128 * index + i) p in
          let same : s.total ≡ s'.total = sym (ap (λ (one : Superblock). one.total) way.moved.over.superblock) in
          let one = counted base list list' (told_on read told told' old mid base way.moved.reads at) lists fills
          (subst H (sym is_height) (subst L (sym is_level) (subst I (sym is_index) (subst G (sym is_page) (subst T same there_is))))) in
          let own : length (tree_pages image (low child_height child_level) child_page) ≡ length
          (tree_pages image (low height below) (child_at bytes i))
          = ap (λ h. length (tree_pages image (low h child_level) child_page)) is_height
          ∙ ap (λ l. length (tree_pages image (low height l) child_page)) is_level
          ∙ ap (λ p. length (tree_pages image (low height below) p)) is_page in
          let needs : page_count list' child_level child_index ≡ page_count list' below
          (128 * index + i) = ap (λ l. page_count list' l child_index) is_level ∙ ap (λ q. page_count list' below q) is_index in
          omega (
            arith,
            way.counts base list list' at lists fills rooted,
            one,
            own,
            needs,
            ap (λ n. had image height below bytes n) (next i)
                ∙ sum_suc (λ child. length (tree_pages image (low height below) (child_at bytes child))) i,
            ap (λ n. need list' below index n) (next i) ∙ sum_suc (λ child. page_count list' below (128 * index + child)) i,
          );
    }
  where
    next : (i : ℕ) → i + 1 ≡ suc i
    next i = omega arith

pub count_child : (told told' : Type 0) (old mid under under' : View) (s s' : Superblock) (t : Txn) (first end : ℕ)
    (values : List (Option ℤ)) (height level below index page : ℕ) (bytes : List ℕ)
    (start pages i child_height child_level child_index child_page : ℕ)
    → IsCounting told told' old mid under under' s s' t first end values height level below index page bytes start pages i → i < 128
    → child_height ≡ height → child_level ≡ below → child_index ≡ 128 * index + i → child_page ≡ child_at bytes i
    → (base : Image) (list : List (Option ℤ)) → IsSeen (left_by t base) s.total list height below index page bytes start
    → IsRooted (left_by t base) s'.total list child_height child_level child_index child_page
count_child told told' old mid under under' s s' t first end values height level below index page bytes start pages i child_height
    child_level child_index child_page way within is_height is_level is_index is_page base list seen =
    let image = left_by t base in
    let T : ℕ → Type 0 = λ total. IsRooted image total list height below (128 * index + i) (child_at bytes i) in
    let H : ℕ → Type 0 = λ h. IsRooted image s'.total list h child_level child_index child_page in
    let L : ℕ → Type 0 = λ l. IsRooted image s'.total list height l child_index child_page in
    let I : ℕ → Type 0 = λ q. IsRooted image s'.total list height below q child_page in
    let G : ℕ → Type 0 = λ p. IsRooted image s'.total list height below (128 * index + i) p in
    let same : s.total ≡ s'.total = sym (ap (λ (one : Superblock). one.total) way.moved.over.superblock) in
    subst H (sym is_height) (subst L (sym is_level) (subst I (sym is_index) (subst G (sym is_page) (subst T same (seen.rooted i within)))))

pub count_end : (image : Image) (total first end : ℕ) (values list list' : List (Option ℤ)) (height level below index page : ℕ)
    (bytes : List ℕ) (start pages i : ℕ) → level ≡ suc below → i ≡ 128
    → pages + had image height below bytes i ≡ start + need list' below index i
    → IsSeen image total list height below index page bytes start → is_stored list' level index ≡ true
    → pages + length (tree_pages image (low height level) page) ≡ page_count list' level index
count_end image total first end values list list' height level below index page bytes start pages i is at counted seen stored =
    let S : ℕ → Type 0 = λ l. is_stored list' l index ≡ true in
    let G : ℕ → Type 0 = λ l. pages + length (tree_pages image (low height l) page) ≡ page_count list' l index in
    let one = count_one (is_stored list') below index (subst S is stored) in
    subst G (sym is) (omega (
      arith,
      one,
      counted,
      seen.sum,
      ap (λ n. had image height below bytes n) at,
      ap (λ n. need list' below index n) at,
    ))

pub slots_count : (image : Image) (list' : List (Option ℤ)) (height level index page : ℕ) → level ≡ 0
    → 0 + length (tree_pages image (low height level) page) ≡ page_count list' level index
slots_count image list' height level index page is =
    let G : ℕ → Type 0 = λ l. 0 + length (tree_pages image (low height l) page) ≡ page_count list' l index in
    subst G (sym is) (omega (
      arith,
      ap (λ l. length (tree_pages image l page)) (low_fits height 0 (omega arith)),
      ap (λ l. length l) (no_slots image page),
      count_slots (is_stored list') index,
    ))

-- a place that no slot of the change is in, and that gets no new root, has its pages already
pub apart_count : (image : Image) (total first end : ℕ) (values list list' : List (Option ℤ)) (height level index page : ℕ)
    → AreLists first end values list list' → IsRooted image total list height level index page
    → is_touched first end level index ≡ false → is_new_root height level index ≡ false
    → 0 + length (tree_pages image (low height level) page) ≡ page_count list' level index
apart_count image total first end values list list' height zero index page lists rooted untouched no_root = slots_count image list' height 0
    index page refl
apart_count image total first end values list list' height (suc below) index page lists rooted untouched no_root =
    omega (
      arith,
      settled_count image total first end values list list' height (suc below) below index page refl lists rooted
          (apart_settles page first end values height (suc below) index untouched no_root),
    )

-- a count of a child failed
pub count_moved : (told told' told'' : Type 0) (old mid new under under' under'' : View) (s s' s'' : Superblock) (t : Txn) (first end : ℕ)
    (values : List (Option ℤ)) (height level below index page : ℕ) (bytes : List ℕ)
    (start pages i child_height child_level child_index child_page : ℕ)
    → IsCounting told told' old mid under under' s s' t first end values height level below index page bytes start pages i → i < 128
    → child_height ≡ height → child_level ≡ below → child_index ≡ 128 * index + i → child_page ≡ child_at bytes i
    → Moved (count_most child_page first end child_height child_level child_index) 0 told' told'' mid new under' under'' s' s'' t t
    → look_most height level index page + counted_below bytes first end height below index 128 ≤ count_most page first end height level
    index
    → Moved (count_most page first end height level index) 0 told told'' old new under under'' s s'' t t
count_moved told told' told'' old mid new under under' under'' s s' s'' t first end values height level below index page bytes start pages i
    child_height child_level child_index child_page way within is_height is_level is_index is_page moved most =
    let read = look_most height level index page + counted_below bytes first end height below index i in
    let reads = count_at first end height below index i child_height child_level child_index child_page bytes is_height is_level is_index
    is_page in
    let next : i + 1 ≡ suc i = omega arith in
    let all = sum_upto (λ child. count_most (child_at bytes child) first end height below (128 * index + child)) i 128 within in
    let own = sum_suc (λ child. count_most (child_at bytes child) first end height below (128 * index + child)) i in
    moved_more (read + count_most child_page first end child_height child_level child_index)
    (count_most page first end height level index) 0 0 told told'' old new under under'' s s'' t t
    (omega (arith, reads, all, own, most, ap (λ n. counted_below bytes first end height below index n) next)) (omega arith)
    (moved_then read (count_most child_page first end child_height child_level child_index) 0 0 told told' told'' old mid new under under'
    under'' s s' s'' t t t way.moved moved)

pub count_room : (first end height level below index i child_height child_level child_index : ℕ) → i < 128 → child_height ≡ height
    → child_level ≡ below → child_index ≡ 128 * index + i
    → touch first end height level index ≡ 1 + passed_below first end height below index 128 → touch first end height level index ≤ 64
    → 1 + passed_below first end height below index i + touch first end child_height child_level child_index ≤ 64
count_room first end height level below index i child_height child_level child_index within is_height is_level is_index whole room =
    let costs : touch first end child_height child_level child_index ≡ touch first end height below
    (128 * index + i) = ap (λ h. touch first end h child_level child_index) is_height
    ∙ ap (λ l. touch first end height l child_index) is_level ∙ ap (λ q. touch first end height below q) is_index in
    omega (arith, costs, sum_upto (λ child. touch first end height below (128 * index + child)) i 128 within, whole, room)
