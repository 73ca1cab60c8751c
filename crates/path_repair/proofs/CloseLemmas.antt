-- A page whose children are all changed is put, or given back.
use Rattle.std.proofs.Common.{◌≡◌, ◌≢◌, ℕ, ℤ, zero, suc, ◌+◌, ◌*◌, ◌<◌, ◌≤◌, ◌++◌, true, false, is_some, List, [], ◌∷◌, slice_index, Option}
use Rattle.std.proofs.Common.{None, IsSome, refl, sym, ap, subst, arith, inl, inr, ◌∙◌}
use Rattle.std.proofs.lemmas.Bool.{cases_lt}
use Rattle.block_disk.specs.View.{Image}
use Rattle.om3_coeff.specs.declared.span.Span.{Span}
use Rattle.om3_coeff.specs.Keys.{first_slot, end_slot}
use Rattle.om3_coeff.specs.Spans.{span}
use Rattle.node_page.specs.Fields.{level_at, child_at, flag_at}
use Rattle.node_page.specs.Layout.{KeepsLayout, IsChild, AreFlags, AreDifferences, has_child}
use Rattle.page_space.specs.declared.superblock.Superblock.{Superblock}
use Rattle.page_space.specs.declared.txn.Txn.{Txn}
use Rattle.page_space.specs.Layout.{IsGiven, with_head}
use Rattle.page_space.specs.Spaces.{times, Stands}
use Rattle.page_space.proofs.Counting.{times_here, times_more, times_append, once_low, once_most}
use Rattle.tree_walk.specs.Trees.{top_of_page, IsTree, HoldsNodes}
use Rattle.path_repair.specs.Forms.{IsForm}
use Rattle.path_repair.specs.TreePages.{tree_pages, low}
use Rattle.path_repair.specs.Standing.{part, IsRepaired, IsPartWay}
use Rattle.path_repair.proofs.SumLemmas.{times_in_join, join_same, join_none}
use Rattle.path_repair.proofs.TreeLemmas.{no_pages, own_pages, tree_frame, pages_frame}
use Rattle.path_repair.proofs.ListLemmas.{part_none, child_first, child_end}
use Rattle.path_repair.proofs.StayLemmas.{same_pages}
use Rattle.path_repair.proofs.CountLemmas.{none_of}
use Rattle.path_repair.proofs.PartLemmas.{piece, piece_done}
use Rattle.page_spans.specs.Heaps.{IsKept}
use Rattle.page_spans.specs.Lists.{AreLeavesOf, AreNodesOf}
use Rattle.path_repair.proofs.FormLemmas.{leaves_of}

-- a tree without a stored value has no page
pub none_page : (image : Image) (total : ℕ) (list : List (Option ℤ)) (level index page : ℕ) → IsTree image total list level index page
    → span list (top_of_page level index) ≡ None → page ≡ 0
none_page image total list zero index page tree empty = tree
none_page image total list (suc level) index page (inl (none, is)) empty = none
none_page image total list (suc level) index page (inr (some, low, stored, nodes, children)) empty =
    let S : Option Span → Type 0 = λ s. IsSome s in absurd (not_some (subst S empty stored))
  where
    not_some : IsSome {T = Span} None → ⊥
    not_some is = grind (arith, is)

-- the page that is changed is none of its children's pages, none of the others and none of those freed
pub record IsAlone (count : ℕ) (image : Image) (height level number : ℕ) (bytes : List ℕ) (i : ℕ) (others freed : List ℕ) : Type 0 where
  pub children : times number (part image height level bytes i 128) ≡ 0
  pub others_are : times number others ≡ 0
  pub freed_are : times number freed ≡ 0
  pub some : (p : ℕ) → 0 < times p others → 0 < p

pub alone : (count : ℕ) (image : Image) (s : Superblock) (height level number : ℕ) (bytes : List ℕ) (i : ℕ) (others freed : List ℕ)
    → Stands count image s (number ∷ (part image height level bytes i 128 ++ others)) freed
    → IsAlone count image height level number bytes i others freed
alone count image s height level number bytes i others freed stands =
    let here = times_here number number (part image height level bytes i 128 ++ others) refl in
    let sum = times_append number (part image height level bytes i 128) others in
    let most = once_most s.fresh number in
    let whole = stands.parted number in
    record {
      children = omega (arith, here, sum, most, whole);
      others_are = omega (arith, here, sum, most, whole);
      freed_are = omega (arith, here, sum, most, whole);
      some = λ p is. elim (cases_lt p 17) [
        | inl low ↦ absurd (omega (
          arith,
          is,
          stands.parted p,
          once_low s.fresh p low,
          times_more p number (part image height level bytes i 128 ++ others),
          times_append p (part image height level bytes i 128) others,
        ))
        | inr high ↦ omega (arith, high)
      ];
    }

apart : (p number : ℕ) (ps : List ℕ) → times number ps ≡ 0 → 0 < times p ps → p ≢ number
apart p number ps none is same = omega (arith, none, is, ap (λ q. times q ps) same)

pub close_none : (count : ℕ) (before old new : Image) (s s' : Superblock) (list list' : List (Option ℤ)) (height level index number : ℕ)
    (bytes : List ℕ) (tops : ℕ → Option Span) (others : List ℕ)
    → IsPartWay count before old s list list' height level index number bytes tops 128 others
    → span list' (top_of_page (suc level) index) ≡ None
    → ((taken left freed : List ℕ) → Stands count old s taken freed → ((q : ℕ) → times q taken ≡ times q (number ∷ left))
    → Stands count new s' left (number ∷ freed))
    → ((p : ℕ) → 0 < p → p ≢ number → new p ≡ old p)
    → IsRepaired count before new s' list' (suc level) index 0 None others
close_none count before old new s s' list list' height level index number bytes tops others way empty frees kept =
    let by_itself = alone count old s height level number bytes 128 others way.freed way.stands in
    let none : (c : ℕ) → c < 128 → child_at bytes c ≡ 0 = λ c within. none_page old s.total list' level (128 * index + c) (child_at bytes c)
    (way.done c within)
    (part_none list' (first_slot (top_of_page (suc level) index)) (end_slot (top_of_page (suc level) index))
    (first_slot (top_of_page level (128 * index + c))) (end_slot (top_of_page level (128 * index + c))) (child_first level index c)
    (child_end level index c within) empty) in
    let no_part : part old height level bytes 128 128 ≡ [] = join_none (piece old height level bytes 128) 128
    (λ c within. piece_done old height level bytes 128 c within ∙ no_pages old level (child_at bytes c) (none c within)) in
    record {
      tree = inl (refl, empty);
      top_is = sym empty;
      freed = number ∷ way.freed;
      stands = same_pages count new s' others (tree_pages new (suc level) 0 ++ others) (number ∷ way.freed)
          (frees (number ∷ (part old height level bytes 128 128 ++ others)) others way.freed way.stands
          (λ q. ap (λ l. times q (number ∷ (l ++ others))) no_part))
          (λ p. ap (λ l. times p (l ++ others)) (sym (no_pages new (suc level) 0 refl)));
      same = λ p is. kept p (by_itself.some p is) (apart p number others by_itself.others_are is) ∙ way.same p is;
    }

pub close_some : (count : ℕ) (before old new : Image) (s s' : Superblock) (list list' : List (Option ℤ)) (height level index number : ℕ)
    (bytes bytes' : List ℕ) (tops : ℕ → Option Span) (top : Option Span) (others : List ℕ)
    → IsPartWay count before old s list list' height level index number bytes tops 128 others → 1 ≤ number → number < s.total
    → s'.total ≡ s.total
    → top ≡ span list' (top_of_page (suc level) index) → IsSome top → HoldsNodes list' (suc level) index bytes'
    → ((c : ℕ) → c < 128 → child_at bytes' c ≡ child_at bytes c)
    → ((taken freed : List ℕ) → Stands count old s taken freed → times number freed ≡ 0 → Stands count new s' taken freed)
    → new number ≡ bytes' → ((p : ℕ) → p ≢ number → new p ≡ old p)
    → IsRepaired count before new s' list' (suc level) index number top others
close_some count before old new s s' list list' height level index number bytes bytes' tops top others way low high total top_is some nodes
    children puts here kept =
    let by_itself = alone count old s height level number bytes 128 others way.freed way.stands in
    let page_some : number ≢ 0 = λ none. omega (arith, low, none) in
    let child_is : (c : ℕ) → c < 128 → child_at (new number) c ≡ child_at bytes c = λ c within. ap (λ b. child_at b c) here
    ∙ children c within in
    let child_kept : (c : ℕ) → c < 128 → (p : ℕ) → 0 < times p (tree_pages old level (child_at bytes c)) → new p ≡ old p = λ c within p is.
    kept p (apart p number (part old height level bytes 128 128) by_itself.children
    (omega (
      arith,
      is,
      ap (λ l. times p l) (piece_done old height level bytes 128 c within),
      times_in_join p (piece old height level bytes 128) c 128 within,
    ))) in
    let S : Option Span → Type 0 = λ t. IsSome t in
    let H : List ℕ → Type 0 = λ b. HoldsNodes list' (suc level) index b in
    record {
      tree = inr (
        page_some,
        omega (arith, high, total),
        subst S top_is some,
        subst H (sym here) nodes,
        λ c within.
            let P : ℕ → Type 0 = λ page. IsTree new s'.total list' level (128 * index + c) page in
            let Q : ℕ → Type 0 = λ t. IsTree new t list' level (128 * index + c) (child_at bytes c) in
            subst P (sym (child_is c within)) (subst Q (sym total)
            (tree_frame old new s.total list' level (128 * index + c) (child_at bytes c) (way.done c within) (child_kept c within))),
      );
      top_is = top_is;
      freed = way.freed;
      stands = same_pages count new s' (number ∷ (part old height level bytes 128 128 ++ others))
          (tree_pages new (suc level) number ++ others) way.freed
          (puts (number ∷ (part old height level bytes 128 128 ++ others)) way.freed way.stands by_itself.freed_are) (λ p.
          ap (λ l. times p (l ++ others)) (sym (own_pages new level number page_some
          ∙ ap (λ l. number ∷ l) (join_same (λ c. tree_pages new level (child_at (new number) c)) (piece old height level bytes 128) 128
          (λ c within.
          ap (λ q. tree_pages new level q) (child_is c within) ∙ pages_frame old new level (child_at bytes c) (child_kept c within)
          ∙ sym (piece_done old height level bytes 128 c within))))));
      same = λ p is. kept p (apart p number others by_itself.others_are is) ∙ way.same p is;
    }

some_there : (image : Image) (total : ℕ) (list : List (Option ℤ)) (level index page : ℕ) (top : Option Span)
    → IsTree image total list (suc level) index page → top ≡ span list (top_of_page (suc level) index) → is_some top ≡ true → page ≡ 0 → ⊥
some_there image total list level index page top (inl (none, empty)) top_is is zero_is = grind (
  arith,
  sym (ap (λ t. is_some t) (top_is ∙ empty)) ∙ is,
)
some_there image total list level index page top (inr (some, low, stored, nodes, children)) top_is is zero_is = some zero_is

-- the page keeps its layout
pub close_layout : (count : ℕ) (before old : Image) (s : Superblock) (list list' : List (Option ℤ)) (height level index number total : ℕ)
    (bytes bytes' : List ℕ) (tops : ℕ → Option Span) (others : List ℕ)
    → IsPartWay count before old s list list' height level index number bytes tops 128 others → suc level ≤ 5
    → IsForm (suc level) total bytes → IsKept bytes bytes'
    → AreFlags bytes' → AreDifferences bytes' → ((c : ℕ) → c < 128 → has_child bytes' c ≡ is_some (tops c))
    → KeepsLayout bytes' × (level_at bytes' ≡ suc level)
unfolding level_at
close_layout count before old s list list' height level index number total bytes bytes' tops others way few form kept flags differences
    has =
    let level_is : slice_index bytes' 1 ≡ suc level = kept.rest 1 (inl (omega arith)) ∙ form.level_is in (
      record {
        kind = kept.rest 0 (inl (omega arith)) ∙ form.kind;
        level = (omega (arith, level_is), omega (arith, level_is, few));
        reserved = λ k spare. elim spare [
          | inl front ↦ kept.rest k (inl front.1) ∙ form.reserved k (inl front)
          | inr back ↦ kept.rest k (inr (omega (arith, back.0))) ∙ form.reserved k (inr back)
        ];
        flags = flags;
        differences = differences;
        children = λ c within. child_keeps old s.total list' level (128 * index + c) c bytes' (tops c) (way.tops_done c within)
            (has c within) level_is
            (let P : ℕ → Type 0 = λ page. IsTree old s.total list' level (128 * index + c) page in
            subst P (sym (kept.children c within)) (way.done c within));
      },
      level_is,
    )
  where
    child_keeps : (image : Image) (total : ℕ) (list : List (Option ℤ)) (level index c : ℕ) (page : List ℕ) (top : Option Span)
        → top ≡ span list (top_of_page level index) → has_child page c ≡ is_some top → slice_index page 1 ≡ suc level
        → IsTree image total list level index (child_at page c) → IsChild page c
    child_keeps image total list zero index c page top top_is has level_is tree = record {
      lowest = λ one. tree;
      empty = λ is. tree;
      there = λ above is. absurd (omega (arith, above, level_is));
    }
    child_keeps image total list (suc level) index c page top top_is has level_is tree = record {
      lowest = λ one. absurd (omega (arith, one, level_is));
      empty = λ is. none_page image total list (suc level) index (child_at page c) tree (sym top_is ∙ none_of top (sym has ∙ is));
      there = λ above is none. some_there image total list level index (child_at page c) top tree top_is (sym has ∙ is) none;
    }

-- the same at a page level that is one more than the children's
pub close_none_at : (count : ℕ) (before old new : Image) (s s' : Superblock) (list list' : List (Option ℤ))
    (height level below index number : ℕ) (bytes : List ℕ) (spans spans' : ℕ → Option Span) (top : Option Span) (others : List ℕ)
    → level ≡ suc below
    → IsPartWay count before old s list list' height below index number bytes (λ child. spans (127 + child)) 128 others
    → top ≡ spans' 0 → top ≡ None → ((l : List (Option ℤ)) (v q : ℕ) → 1 ≤ v → AreLeavesOf l v q spans
    → spans' 0 ≡ span l (top_of_page v q))
    → ((taken left freed : List ℕ) → Stands count old s taken freed → ((q : ℕ) → times q taken ≡ times q (number ∷ left))
    → Stands count new s' left (number ∷ freed))
    → ((p : ℕ) → 0 < p → p ≢ number → new p ≡ old p)
    → IsRepaired count before new s' list' level index 0 top others
close_none_at count before old new s s' list list' height level below index number bytes spans spans' top others is way top_is none gathered
    frees kept =
    let P : ℕ → Type 0 = λ l. IsRepaired count before new s' list' l index 0 None others in
    let T : Option Span → Type 0 = λ t. IsRepaired count before new s' list' level index 0 t others in
    let leaves : AreLeavesOf list' (suc below) index spans = leaves_of list' (suc below) below index spans refl
    (λ c within. way.tops_done c within) in
    let empty : span list' (top_of_page (suc below) index) ≡ None = sym (gathered list' (suc below) index (omega arith) leaves) ∙ sym top_is
    ∙ none in
    subst T (sym none) (subst P (sym is) (close_none count before old new s s' list list' height below index number bytes
    (λ child. spans (127 + child)) others way empty frees kept))

pub close_some_at : (count : ℕ) (before old new : Image) (s s' : Superblock) (list list' : List (Option ℤ))
    (height level below index number total : ℕ) (bytes bytes' : List ℕ) (spans spans' : ℕ
    → Option Span) (top : Option Span) (others : List ℕ) → level ≡ suc below
    → IsPartWay count before old s list list' height below index number bytes (λ child. spans (127 + child)) 128 others → 1 ≤ number
    → number < s.total → s'.total ≡ s.total → level ≤ 5
    → top ≡ spans' 0 → IsSome top → ((l : List (Option ℤ)) (v q : ℕ) → 1 ≤ v → AreLeavesOf l v q spans
    → spans' 0 ≡ span l (top_of_page v q))
    → ((l : List (Option ℤ)) (v q : ℕ) → 1 ≤ v → AreLeavesOf l v q spans → AreNodesOf l v q bytes')
    → IsForm level total bytes → IsKept bytes bytes'
    → (IsSome (spans' 0) → flag_at bytes 254 ≡ false → flag_at bytes 255 ≡ false → AreFlags bytes') → AreDifferences bytes'
    → ((c : ℕ) → c < 128 → has_child bytes' c ≡ is_some (spans (127 + c)))
    → ((taken freed : List ℕ) → Stands count old s taken freed → times number freed ≡ 0 → Stands count new s' taken freed)
    → new number ≡ bytes' → ((p : ℕ) → p ≢ number → new p ≡ old p)
    → IsRepaired count before new s' list' level index number top others
close_some_at count before old new s s' list list' height level below index number total bytes bytes' spans spans' top others is way low
    high same few top_is some gathered nodes form kept flags differences has puts here stays =
    let P : ℕ → Type 0 = λ l. IsRepaired count before new s' list' l index number top others in
    let F : ℕ → Type 0 = λ l. IsForm l total bytes in
    let S : Option Span → Type 0 = λ t. IsSome t in
    let leaves : AreLeavesOf list' (suc below) index spans = leaves_of list' (suc below) below index spans refl
    (λ c within. way.tops_done c within) in
    let layout = close_layout count before old s list list' height below index number total bytes bytes'
    (λ child. spans (127 + child)) others way (omega (arith, is, few)) (subst F is form) kept
    (flags (subst S top_is some) (form.spare 254 (omega arith) (omega arith)) (form.spare 255 (omega arith) (omega arith))) differences has
    in
    subst P (sym is) (close_some count before old new s s' list list' height below index number bytes bytes'
    (λ child. spans (127 + child)) top others way low high same
    (top_is ∙ gathered list' (suc below) index (omega arith) leaves) some
    (record { keeps = layout.0; level_is = layout.1; nodes = nodes list' (suc below) index (omega arith) leaves })
    kept.children puts here stays)

-- what freeing a page does to the numbers of page 0
pub free_numbers : (t t' : Txn) (p : ℕ) → ((IsGiven t.superblock.fresh p × (t.superblock.chain + 17 < t.superblock.fresh) → ⊥) → t' ≡ t)
    → (IsGiven t.superblock.fresh p → t.superblock.chain + 17 < t.superblock.fresh → t'.superblock ≡ with_head t.superblock p)
    → (t'.superblock.series ≡ t.superblock.series) × (t'.superblock.fresh ≡ t.superblock.fresh)
free_numbers t t' p nothing freed = elim (cases_lt p 17) [
  | inl low ↦ still t t' (nothing (λ is. omega (arith, low, is.0.0)))
  | inr high ↦ elim (cases_lt p t.superblock.fresh) [
    | inr past ↦ still t t' (nothing (λ is. omega (arith, past, is.0.1)))
    | inl given ↦ elim (cases_lt (t.superblock.chain + 17) t.superblock.fresh) [
      | inr full ↦ still t t' (nothing (λ is. omega (arith, full, is.1)))
      | inl room ↦
          let is = freed (high, given) room in
          (ap (λ (s : Superblock). s.series) is, ap (λ (s : Superblock). s.fresh) is)
    ]
  ]
]
  where
    still : (t t' : Txn) → t' ≡ t → (t'.superblock.series ≡ t.superblock.series) × (t'.superblock.fresh ≡ t.superblock.fresh)
    still t t' same = (ap (λ (one : Txn). one.superblock.series) same, ap (λ (one : Txn). one.superblock.fresh) same)
