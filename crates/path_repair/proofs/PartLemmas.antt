-- The children of a page are changed one after the other.
use Rattle.std.proofs.Common.{◌≡◌, ◌≢◌, ℕ, ℤ, suc, ◌+◌, ◌*◌, ◌<◌, ◌≤◌, ◌++◌, cond, eqb, ltb, List, [], ◌∷◌, length, Option, refl, sym, ap}
use Rattle.std.proofs.Common.{subst, arith, inl, inr, ◌∙◌}
use Rattle.std.proofs.lemmas.Bool.{cases_lt, lt-ltb, le-ltb, eq-eqb, ne_eqb}
use Rattle.std.proofs.lemmas.Bool.Decides.{eqb_tells}
use Rattle.std.proofs.lemmas.List.{length-append}
use Rattle.block_disk.specs.View.{Image}
use Rattle.om3_coeff.specs.declared.span.Span.{Span}
use Rattle.om3_coeff.specs.Spans.{span}
use Rattle.node_page.specs.Fields.{child_at}
use Rattle.page_space.specs.declared.superblock.Superblock.{Superblock}
use Rattle.page_space.specs.Spaces.{times}
use Rattle.page_space.proofs.Counting.{times_more, times_append, times_shift}
use Rattle.tree_walk.specs.Trees.{top_of_page, IsTree}
use Rattle.path_repair.specs.Sums.{sum_below, join_below}
use Rattle.path_repair.specs.TreePages.{tree_pages, low, count_where, is_stored_in_either, IsRooted}
use Rattle.path_repair.specs.Standing.{SameOn, part, IsPlaced, IsRepaired, IsPartWay}
use Rattle.path_repair.proofs.SumLemmas.{sum_swap, sum_le, times_swap, times_in_join, length_join}
use Rattle.path_repair.proofs.TreeLemmas.{pages_frame, tree_frame, no_pages, low_fits, low_above}
use Rattle.path_repair.proofs.StayLemmas.{same_pages}
use Rattle.path_repair.proofs.CountLemmas.{rooted_length, pages_length, count_right}

-- the pages of one child
abbrev pub piece : Image → ℕ → ℕ → List ℕ → ℕ → ℕ → List ℕ
piece image height level bytes i child = tree_pages image (cond (ltb child i) level (low height level)) (child_at bytes child)

pub piece_done : (image : Image) (height level : ℕ) (bytes : List ℕ) (i child : ℕ) → child < i
    → piece image height level bytes i child ≡ tree_pages image level (child_at bytes child)
piece_done image height level bytes i child before = ap (λ b. tree_pages image (cond b level (low height level)) (child_at bytes child))
    (lt-ltb child i before)

pub piece_left : (image : Image) (height level : ℕ) (bytes : List ℕ) (i child : ℕ) → i ≤ child
    → piece image height level bytes i child ≡ tree_pages image (low height level) (child_at bytes child)
piece_left image height level bytes i child after = ap (λ b. tree_pages image (cond b level (low height level)) (child_at bytes child))
    (le-ltb child i after)

-- the pages of the other children
abbrev pub others_of : Image → ℕ → ℕ → List ℕ → ℕ → ℕ → List ℕ
others_of image height level bytes i child = cond (eqb child i) [] (piece image height level bytes i child)

abbrev pub rest : Image → ℕ → ℕ → List ℕ → ℕ → List ℕ
rest image height level bytes i = join_below (others_of image height level bytes i) 128

rest_here : (image : Image) (height level : ℕ) (bytes : List ℕ) (i : ℕ) → others_of image height level bytes i i ≡ []
rest_here image height level bytes i = ap (λ b. cond b [] (piece image height level bytes i i)) (eq-eqb i i refl)

rest_other : (image : Image) (height level : ℕ) (bytes : List ℕ) (i child : ℕ) → child ≢ i
    → others_of image height level bytes i child ≡ piece image height level bytes i child
rest_other image height level bytes i child other = ap (λ b. cond b [] (piece image height level bytes i child)) (ne_eqb child i other)

-- the pages of a part are those of one child and those of the others
part_times : (image : Image) (height level : ℕ) (bytes : List ℕ) (i p : ℕ) → i < 128
    → times p (part image height level bytes i 128) ≡ times p (tree_pages image (low height level) (child_at bytes i)) + times p
    (rest image height level bytes i)
part_times image height level bytes i p within =
    let swap = times_swap p (piece image height level bytes i) (others_of image height level bytes i) i 128 within
    (λ c low other. rest_other image height level bytes i c other) in
    omega (
      arith,
      swap,
      ap (λ l. times p l) (rest_here image height level bytes i),
      ap (λ l. times p l) (piece_left image height level bytes i i (omega arith)),
    )

-- how many pages the other children have at most
rest_length : (count : ℕ) (before image : Image) (s : Superblock) (list list' : List (Option ℤ)) (height level index number : ℕ)
    (bytes : List ℕ) (tops : ℕ → Option Span) (i : ℕ) (others : List ℕ) → i < 128
    → IsPartWay count before image s list list' height level index number bytes tops i others
    → length (rest image height level bytes i) + count_where (is_stored_in_either list list') level (128 * index + i) ≤ sum_below
    (λ child. count_where (is_stored_in_either list list') level (128 * index + child)) 128
rest_length count before image s list list' height level index number bytes tops i others within way =
    let most : ℕ → ℕ = λ child. count_where (is_stored_in_either list list') level (128 * index + child) in
    let but : ℕ → ℕ = λ child. cond (eqb child i) 0 (most child) in
    let swap = sum_swap most but i 128 within (λ c low other. ap (λ b. cond b 0 (most c)) (ne_eqb c i other)) in
    let here : but i ≡ 0 = ap (λ b. cond b 0 (most i)) (eq-eqb i i refl) in
    let less = sum_le (λ c. length (others_of image height level bytes i c)) but 128 (λ c low. elim (eqb_tells c i) [
      | inl is ↦ omega (arith, ap (λ b. length (cond b [] (piece image height level bytes i c))) (eq-eqb c i is.1))
      | inr is ↦
          let own : but c ≡ most c = ap (λ b. cond b 0 (most c)) (ne_eqb c i is.1) in
          let long = ap (λ l. length l) (rest_other image height level bytes i c is.1) in
          elim (cases_lt c i) [
            | inl done ↦ omega (
              arith,
              own,
              long,
              ap (λ l. length l) (piece_done image height level bytes i c done),
              pages_length image s.total list' level (128 * index + c) (child_at bytes c) (way.done c done),
              count_right list list' level (128 * index + c),
            )
            | inr left ↦ omega (
              arith,
              own,
              long,
              ap (λ l. length l) (piece_left image height level bytes i c left),
              rooted_length image s.total list list' height level (128 * index + c) (child_at bytes c) (way.left c left low),
            )
          ]
    ]) in
    omega (arith, swap, here, less, length_join (others_of image height level bytes i) 128)

pub start_child : (count : ℕ) (before image : Image) (s : Superblock) (list list' : List (Option ℤ)) (height level index number : ℕ)
    (bytes : List ℕ) (tops : ℕ → Option Span) (i : ℕ) (others : List ℕ) → i < 128
    → IsPartWay count before image s list list' height level index number bytes tops i others
    → IsPlaced count image s list list' height level (128 * index + i) (child_at bytes i) (tops i)
    (number ∷ (rest image height level bytes i ++ others))
start_child count before image s list list' height level index number bytes tops i others within way = record {
  rooted = way.left i (omega arith) within;
  top_is = way.tops_left i (omega arith) within;
  freed = way.freed;
  stands = same_pages count image s (number ∷ (part image height level bytes i 128 ++ others))
      (tree_pages image (low height level) (child_at bytes i) ++ (number ∷ (rest image height level bytes i ++ others))) way.freed
      way.stands (λ p.
      omega (
        arith,
        times_append p (part image height level bytes i 128) others,
        part_times image height level bytes i p within,
        times_append p (tree_pages image (low height level) (child_at bytes i)) (number ∷ (rest image height level bytes i ++ others)),
        times_append p (rest image height level bytes i) others,
        times_shift p number (part image height level bytes i 128 ++ others) (rest image height level bytes i ++ others),
      ));
  roomy = omega (
    arith,
    way.roomy,
    rest_length count before image s list list' height level index number bytes tops i others within way,
    length-append (rest image height level bytes i) others,
  );
}

-- the children below the next one
step_same : (i c : ℕ) → c ≢ i → ltb c (suc i) ≡ ltb c i
step_same i c other = elim (cases_lt c i) [
  | inl low ↦ lt-ltb c (suc i) (omega (arith, low)) ∙ sym (lt-ltb c i low)
  | inr high ↦ le-ltb c (suc i) (below_next i c other high) ∙ sym (le-ltb c i high)
]
  where
    below_next : (i c : ℕ) → c ≢ i → i ≤ c → suc i ≤ c
    below_next i c other high = elim (cases_lt i c) [
      | inl low ↦ omega (arith, low)
      | inr same ↦ absurd (other (omega (arith, high, same)))
    ]

abbrev IsOther : Image → Image → ℕ → ℕ → List ℕ → ℕ → ℕ → Type 0
IsOther image image' height level bytes i c = (p : ℕ) → 0 < times p (piece image height level bytes i c) → image' p ≡ image p

-- the pages of another child stay
other_pages : (image image' : Image) (height level number i c : ℕ) (bytes : List ℕ) (others : List ℕ) → c < 128 → c ≢ i
    → SameOn (number ∷ (rest image height level bytes i ++ others)) image image' → IsOther image image' height level bytes i c
other_pages image image' height level number i c bytes others within other same p there =
    same p (omega (
      arith,
      there,
      times_more p number (rest image height level bytes i ++ others),
      times_append p (rest image height level bytes i) others,
      times_in_join p (others_of image height level bytes i) c 128 within,
      ap (λ l. times p l) (rest_other image height level bytes i c other),
    ))

next_piece : (image image' : Image) (height level i c : ℕ) (bytes bytes' : List ℕ) → c ≢ i → child_at bytes' c ≡ child_at bytes c
    → IsOther image image' height level bytes i c
    → piece image' height level bytes' (suc i) c ≡ piece image height level bytes i c
next_piece image image' height level i c bytes bytes' other kept same =
    ap (λ b. tree_pages image' (cond b level (low height level)) (child_at bytes' c)) (step_same i c other)
    ∙ ap (λ page. tree_pages image' (cond (ltb c i) level (low height level)) page) kept
    ∙ pages_frame image image' (cond (ltb c i) level (low height level)) (child_at bytes c) same

-- a root whose pages stay
pub rooted_frame : (image image' : Image) (total : ℕ) (list : List (Option ℤ)) (height level index page : ℕ)
    → ((p : ℕ) → 0 < times p (tree_pages image (low height level) page) → image' p ≡ image p)
    → IsRooted image total list height level index page → IsRooted image' total list height level index page
rooted_frame image image' total list height level index page same (inl whole) = inl (record {
  fits = whole.fits;
  tree = elim whole.fits [
    | inl fits ↦ tree_frame image image' total list level index page whole.tree
        (λ p there. same p (omega (arith, there, ap (λ l. times p (tree_pages image l page)) (low_fits height level fits))))
    | inr none ↦ tree_frame image image' total list level index page whole.tree
        (λ p there. absurd (omega (arith, there, ap (λ l. times p l) (no_pages image level page none))))
  ];
})
rooted_frame image image' total list height level index page same (inr lower) = inr (record {
  above = lower.above;
  some = lower.some;
  first = lower.first;
  within = lower.within;
  tree = tree_frame image image' total list height 0 page lower.tree
      (λ p there. same p (omega (arith, there, ap (λ l. times p (tree_pages image l page)) (low_above height level lower.above))));
})

pub end_child : (count : ℕ) (before image image' : Image) (s s' : Superblock) (list list' : List (Option ℤ)) (height level index number : ℕ)
    (bytes bytes' : List ℕ) (tops tops' : ℕ → Option Span) (i page : ℕ) (top : Option Span) (others : List ℕ) → i < 128
    → IsPartWay count before image s list list' height level index number bytes tops i others
    → s'.total ≡ s.total
    → IsRepaired count image image' s' list' level (128 * index + i) page top (number ∷ (rest image height level bytes i ++ others))
    → child_at bytes' i ≡ page → ((c : ℕ) → c ≢ i → child_at bytes' c ≡ child_at bytes c) → tops' i ≡ top
    → ((c : ℕ) → c ≢ i → tops' c ≡ tops c)
    → IsPartWay count before image' s' list list' height level index number bytes' tops' (suc i) others
end_child count before image image' s s' list list' height level index number bytes bytes' tops tops' i page top others within way total
    repaired page_is pages top_is tops_are =
    let other : (c : ℕ) → c < 128 → c ≢ i → IsOther image image' height level bytes i c = λ c low apart.
    other_pages image image' height level number i c bytes others low apart repaired.same in
    record {
      done = λ c low. elim (eqb_tells c i) [
        | inl is ↦
            let P : ℕ → Type 0 = λ at. IsTree image' s'.total list' level (128 * index + at) (child_at bytes' at) in
            let Q : ℕ → Type 0 = λ p. IsTree image' s'.total list' level (128 * index + i) p in
            subst P (sym is.1) (subst Q (sym page_is) repaired.tree)
        | inr is ↦
            let before_i : c < i = before_next i c is.1 low in
            let P : ℕ → Type 0 = λ t. IsTree image' t list' level (128 * index + c) (child_at bytes' c) in
            let Q : ℕ → Type 0 = λ p. IsTree image' s.total list' level (128 * index + c) p in
            subst P (sym total) (subst Q (sym (pages c is.1))
            (tree_frame image image' s.total list' level (128 * index + c) (child_at bytes c) (way.done c before_i)
            (λ p there. other c (omega (arith, low, within)) is.1 p
            (omega (arith, there, ap (λ l. times p l) (piece_done image height level bytes i c before_i))))))
      ];
      left = λ c high low.
          let apart : c ≢ i = λ is. omega (arith, is, high) in
          let P : ℕ → Type 0 = λ t. IsRooted image' t list height level (128 * index + c) (child_at bytes' c) in
          let Q : ℕ → Type 0 = λ p. IsRooted image' s.total list height level (128 * index + c) p in
          subst P (sym total) (subst Q (sym (pages c apart))
          (rooted_frame image image' s.total list height level (128 * index + c) (child_at bytes c)
          (λ p there. other c low apart p (omega (
            arith,
            there,
            ap (λ l. times p l) (piece_left image height level bytes i c (omega (arith, high))),
          )))
          (way.left c (omega (arith, high)) low)));
      tops_done = λ c low. elim (eqb_tells c i) [
        | inl is ↦
            let P : ℕ → Type 0 = λ at. tops' at ≡ span list' (top_of_page level (128 * index + at)) in
            subst P (sym is.1) (top_is ∙ repaired.top_is)
        | inr is ↦ tops_are c is.1 ∙ way.tops_done c (before_next i c is.1 low)
      ];
      tops_left = λ c high low. tops_are c (λ is. omega (arith, is, high)) ∙ way.tops_left c (omega (arith, high)) low;
      freed = repaired.freed;
      stands = same_pages count image' s' (tree_pages image' level page ++ (number ∷ (rest image height level bytes i ++ others)))
          (number ∷ (part image' height level bytes' (suc i) 128 ++ others)) repaired.freed repaired.stands (λ p.
          let swap = times_swap p (piece image' height level bytes' (suc i)) (others_of image height level bytes i) i 128 within
          (λ c low apart. rest_other image height level bytes i c apart
          ∙ sym (next_piece image image' height level i c bytes bytes' apart (pages c apart) (other c low apart))) in
          omega (
            arith,
            swap,
            ap (λ l. times p l) (rest_here image height level bytes i),
            ap (λ l. times p l) (piece_done image' height level bytes' (suc i) i (omega arith)),
            ap (λ q. times p (tree_pages image' level q)) page_is,
            times_append p (tree_pages image' level page) (number ∷ (rest image height level bytes i ++ others)),
            times_append p (rest image height level bytes i) others,
            times_append p (part image' height level bytes' (suc i) 128) others,
            times_shift p number (part image' height level bytes' (suc i) 128 ++ others) (rest image height level bytes i ++ others),
          ));
      same = λ p there. repaired.same p (omega (
        arith,
        there,
        times_more p number (rest image height level bytes i ++ others),
        times_append p (rest image height level bytes i) others,
      )) ∙ way.same p there;
      roomy = omega (arith, way.roomy, total);
    }
  where
    before_next : (i c : ℕ) → c ≢ i → c < suc i → c < i
    before_next i c other low = elim (cases_lt c i) [
      | inl less ↦ less
      | inr high ↦ absurd (other (omega (arith, low, high)))
    ]
