-- The keys of a page's places, and the spans that a list has there.
use Rattle.std.proofs.Common.{ℕ, ℤ, zero, suc, ◌≡◌, ◌+◌, ◌-◌, ◌*◌, ◌^◌, ◌<◌, ◌≤◌, inl, inr, List, sym, ◌∙◌, ap, ap₂, subst, cond, ltb}
use Rattle.std.proofs.Common.{arith}
use Rattle.std.proofs.Math.Nat.{pow-succ', pow-le-pow_right}
use Rattle.std.proofs.lemmas.Bool.{cases_lt, cases_eq, ltb-true, ltb-false, cond_both}
use Rattle.std.specs.Prelude.{Option, None}
use Rattle.om3_coeff.specs.declared.key.Key.{Key}
use Rattle.om3_coeff.specs.declared.span.Span.{Span}
use Rattle.om3_coeff.specs.declared.coef.Coef.{Coef}
use Rattle.om3_coeff.specs.Keys.{left_of, right_of, first_slot, end_slot}
use Rattle.om3_coeff.specs.Spans.{AreSlots, hull, span}
use Rattle.om3_coeff.specs.Coefs.{coef_of, coef}
use Rattle.om3_coeff.proofs.KeyLemmas.{same_key, span_halves}
use Rattle.om3_coeff.proofs.ExtremeLemmas.{span_over-proper}
use Rattle.node_page.specs.Fields.{coef_at}
use Rattle.node_page.specs.Places.{node_number}
use Rattle.node_page.proofs.KeyPlaces.{key_of, HasKey, node_has_key, node_few, one_key}
use Rattle.page_spans.specs.Heaps.{AreProper, IsHeap}
use Rattle.page_spans.proofs.HeapLemmas.{hull_empty}
use Rattle.page_spans.specs.Lists.{key_of_top, key_of_leaf, AreNodesOf, AreLeavesOf}

-- place n lies so many levels below the top
record IsDepth (n d : ℕ) : Type 0 where
  pub from : 2 ^ d ≤ n + 1
  pub to : n + 1 < 2 * 2 ^ d

one_depth : (n d e : ℕ) → IsDepth n d → IsDepth n e → d ≡ e
one_depth n d e one other = elim (cases_lt d e) [
  | inl less ↦
      let up : 2 ^ suc d ≤ 2 ^ e = pow-le-pow_right {n = 2} (omega arith) less in
      absurd (omega (arith, up, pow-succ' 2 d, one.to, other.from))
  | inr more ↦ elim (cases_lt e d) [
    | inl less ↦
        let up : 2 ^ suc e ≤ 2 ^ d = pow-le-pow_right {n = 2} (omega arith) less in
        absurd (omega (arith, up, pow-succ' 2 e, other.to, one.from))
    | inr equal ↦ omega (arith, more, equal)
  ]
]

by_test : (P : ℕ → Type 0) (a b x y : ℕ) → (a < b → P x) → (b ≤ a → P y) → P (cond (ltb a b) x y)
by_test P a b x y less more = cond_both (ltb a b) x y P (λ e. less (ltb-true a b e)) (λ e. more (ltb-false a b e))

-- how many levels place n lies below the top
unfoldable pub depth_of : ℕ → ℕ
depth_of n =
    cond (ltb n 1) 0 (cond (ltb n 3) 1 (cond (ltb n 7) 2
    (cond (ltb n 15) 3 (cond (ltb n 31) 4 (cond (ltb n 63) 5 (cond (ltb n 127) 6 7))))))

depth_is : (n : ℕ) → n < 255 → IsDepth n (depth_of n)
unfolding depth_of
depth_is n few =
    by_test (IsDepth n) n 1 0 _ (λ to. record { from = omega arith; to = omega (arith, to) }) (λ a.
    by_test (IsDepth n) n 3 1 _ (λ to. record { from = omega (arith, a); to = omega (arith, to) }) (λ a.
    by_test (IsDepth n) n 7 2 _ (λ to. record { from = omega (arith, a); to = omega (arith, to) }) (λ a.
    by_test (IsDepth n) n 15 3 _ (λ to. record { from = omega (arith, a); to = omega (arith, to) }) (λ a.
    by_test (IsDepth n) n 31 4 _ (λ to. record { from = omega (arith, a); to = omega (arith, to) }) (λ a.
    by_test (IsDepth n) n 63 5 _ (λ to. record { from = omega (arith, a); to = omega (arith, to) }) (λ a.
    by_test (IsDepth n) n 127 6 7 (λ to. record { from = omega (arith, a); to = omega (arith, to) }) (λ a.
    record { from = omega (arith, a); to = omega (arith, few) })))))))

depth_few : (n : ℕ) → n < 127 → depth_of n < 7
depth_few n few = elim (cases_lt (depth_of n) 7) [
  | inl less ↦ less
  | inr more ↦
      let is : IsDepth n (depth_of n) = depth_is n (omega (arith, few)) in
      let up : 2 ^ 7 ≤ 2 ^ depth_of n = pow-le-pow_right {n = 2} (omega arith) more in
      absurd (omega (arith, up, is.from, few))
]

-- the depth of the places below
depth_left : (n : ℕ) → n < 127 → depth_of (2 * n + 1) ≡ suc (depth_of n)
depth_left n few =
    let d = depth_of n in
    let is : IsDepth n d = depth_is n (omega (arith, few)) in
    let below : IsDepth (2 * n + 1) (suc d) = record {
      from = omega (arith, is.from, pow-succ' 2 d);
      to = omega (arith, is.to, pow-succ' 2 d);
    } in
    one_depth (2 * n + 1) (depth_of (2 * n + 1)) (suc d) (depth_is (2 * n + 1) (omega (arith, few))) below

depth_right : (n : ℕ) → n < 127 → depth_of (2 * n + 2) ≡ suc (depth_of n)
depth_right n few =
    let d = depth_of n in
    let is : IsDepth n d = depth_is n (omega (arith, few)) in
    let below : IsDepth (2 * n + 2) (suc d) = record {
      from = omega (arith, is.from, pow-succ' 2 d);
      to = omega (arith, is.to, pow-succ' 2 d);
    } in
    one_depth (2 * n + 2) (depth_of (2 * n + 2)) (suc d) (depth_is (2 * n + 2) (omega (arith, few))) below

-- the key of a place
abbrev pub key_at : ℕ → ℕ → ℕ → Key
key_at p q n = key_of p q (depth_of n) (n + 1 - 2 ^ depth_of n)

index_left : (q w n : ℕ) → w ≤ n + 1 → q * (2 * w) + (2 * n + 1 + 1 - 2 * w) ≡ 2 * (q * w + (n + 1 - w))
index_left q w n from = omega (arith, from)

index_right : (q w n : ℕ) → w ≤ n + 1 → q * (2 * w) + (2 * n + 2 + 1 - 2 * w) ≡ 2 * (q * w + (n + 1 - w)) + 1
index_right q w n from = omega (arith, from)

pub key_left : (p q n : ℕ) → n < 127 → key_at p q (2 * n + 1) ≡ left_of (key_at p q n)
key_left p q n few =
    let d = depth_of n in
    let is : IsDepth n d = depth_is n (omega (arith, few)) in
    let width : 2 ^ depth_of (2 * n + 1) ≡ 2 * 2 ^ d = ap (λ (d : ℕ). 2 ^ d) (depth_left n few) ∙ pow-succ' 2 d in
    same_key (key_at p q (2 * n + 1)) (left_of (key_at p q n)) (omega (arith, depth_left n few))
    (ap (λ (w : ℕ). q * w + (2 * n + 1 + 1 - w)) width ∙ index_left q (2 ^ d) n is.from)

pub key_right : (p q n : ℕ) → n < 127 → key_at p q (2 * n + 2) ≡ right_of (key_at p q n)
key_right p q n few =
    let d = depth_of n in
    let is : IsDepth n d = depth_is n (omega (arith, few)) in
    let width : 2 ^ depth_of (2 * n + 2) ≡ 2 * 2 ^ d = ap (λ (d : ℕ). 2 ^ d) (depth_right n few) ∙ pow-succ' 2 d in
    same_key (key_at p q (2 * n + 2)) (right_of (key_at p q n)) (omega (arith, depth_right n few))
    (ap (λ (w : ℕ). q * w + (2 * n + 2 + 1 - w)) width ∙ index_right q (2 ^ d) n is.from)

pub key_first : (p q : ℕ) → key_at p q 0 ≡ key_of_top p q
key_first p q =
    let none : IsDepth 0 0 = record { from = omega arith; to = omega arith } in
    let depth : depth_of 0 ≡ 0 = one_depth 0 (depth_of 0) 0 (depth_is 0 (omega arith)) none in
    ap (λ (d : ℕ). key_of p q d (0 + 1 - 2 ^ d)) depth
    ∙ same_key (key_of p q 0 (0 + 1 - 2 ^ 0)) (key_of_top p q) (omega arith) (omega arith)

pub key_last : (p q c : ℕ) → c < 128 → key_at p q (127 + c) ≡ key_of_leaf p q c
key_last p q c few =
    let seven : IsDepth (127 + c) 7 = record { from = omega arith; to = omega (arith, few) } in
    let depth : depth_of (127 + c) ≡ 7 = one_depth (127 + c) (depth_of (127 + c)) 7 (depth_is (127 + c) (omega (arith, few))) seven in
    ap (λ (d : ℕ). key_of p q d (127 + c + 1 - 2 ^ d)) depth
    ∙ same_key (key_of p q 7 (127 + c + 1 - 2 ^ 7)) (key_of_leaf p q c) (omega arith) (omega arith)

pub key_has : (p q n : ℕ) → 1 ≤ p → n < 127 → HasKey p q n (key_at p q n)
key_has p q n low few =
    let is : IsDepth n (depth_of n) = depth_is n (omega (arith, few)) in node_has_key p q n (depth_of n) low (depth_few n few) is.from is.to

-- the span that a list has at a place
abbrev pub place_span : List (Option ℤ) → ℕ → ℕ → ℕ → Option Span
place_span list p q n = span list (key_at p q n)

spans_join : (list : List (Option ℤ)) (p q n : ℕ) → 1 ≤ p → n < 127
    → place_span list p q n ≡ hull (place_span list p q (2 * n + 1)) (place_span list p q (2 * n + 2))
spans_join list p q n low few =
    span_halves list (key_at p q n) (key_has p q n low few).low
    ∙ sym (ap₂ hull (ap (span list) (key_left p q n few)) (ap (span list) (key_right p q n few)))

coefs_join : (list : List (Option ℤ)) (p q n : ℕ) → n < 127
    → coef list (key_at p q n) ≡ coef_of (place_span list p q (2 * n + 1)) (place_span list p q (2 * n + 2))
coefs_join list p q n few = sym (ap₂ coef_of (ap (span list) (key_left p q n few)) (ap (span list) (key_right p q n few)))

-- a page that holds a list's nodes has a heap, the list's spans
pub list_heap : (list : List (Option ℤ)) (p q : ℕ) (page : List ℕ) → 1 ≤ p → AreNodesOf list p q page
    → IsHeap (place_span list p q) (coef_at page)
list_heap list p q page low nodes = λ n few.
    let has : HasKey p q n (key_at p q n) = key_has p q n low few in
    record {
      span = spans_join list p q n low few;
      coef = ap (coef_at page) (sym has.node) ∙ nodes (key_at p q n) has.low has.level has.page ∙ coefs_join list p q n few;
    }

pub list_proper : (list : List (Option ℤ)) (p q : ℕ) → AreSlots list → AreProper (place_span list p q)
list_proper list p q slots = λ n few. span_over-proper list (first_slot (key_at p q n)) (end_slot (key_at p q n)) slots

pub list_top : (list : List (Option ℤ)) (p q : ℕ) → place_span list p q 0 ≡ span list (key_of_top p q)
list_top list p q = ap (span list) (key_first p q)

pub list_leaf : (list : List (Option ℤ)) (p q c : ℕ) → c < 128 → place_span list p q (127 + c) ≡ span list (key_of_leaf p q c)
list_leaf list p q c few = ap (span list) (key_last p q c few)

-- a heap over a list's leaves has the list's spans
pub heap_over : (m : ℕ) (list : List (Option ℤ)) (p q : ℕ) (spans : ℕ → Option Span) (coefs : ℕ → Coef) → 1 ≤ p → IsHeap spans coefs
    → AreLeavesOf list p q spans
    → (n : ℕ) → 127 ≤ n + m → n < 255 → spans n ≡ place_span list p q n
heap_over zero list p q spans coefs low heap leaves n from few =
    let leaf : n ≡ 127 + (n - 127) = omega (arith, from) in
    subst (λ (n : ℕ). spans n ≡ place_span list p q n) (sym leaf) (leaves (n - 127) (omega (arith, few))
    ∙ sym (list_leaf list p q (n - 127) (omega (arith, few))))
heap_over (suc m) list p q spans coefs low heap leaves n from few =
    let below : (n : ℕ) → 127 ≤ n + m → n < 255 → spans n ≡ place_span list p q n = heap_over m list p q spans coefs low heap leaves in
    elim (cases_lt (n + m) 127) [
      | inr more ↦ below n more few
      | inl less ↦
          let node : n < 127 = omega (arith, less) in
          (heap n node).span ∙ ap₂ hull (below (2 * n + 1) (omega (arith, from)) (omega (arith, node)))
          (below (2 * n + 2) (omega (arith, from)) (omega (arith, node)))
          ∙ sym (spans_join list p q n low node)
    ]

pub top_over : (list : List (Option ℤ)) (p q : ℕ) (spans : ℕ → Option Span) (coefs : ℕ → Coef) → 1 ≤ p → IsHeap spans coefs
    → AreLeavesOf list p q spans
    → spans 0 ≡ span list (key_of_top p q)
top_over list p q spans coefs low heap leaves = heap_over 127 list p q spans coefs low heap leaves 0 (omega arith) (omega arith)
    ∙ list_top list p q

-- and its page holds the list's nodes
pub nodes_over : (list : List (Option ℤ)) (p q : ℕ) (spans : ℕ → Option Span) (page : List ℕ) → 1 ≤ p → IsHeap spans (coef_at page)
    → AreLeavesOf list p q spans
    → AreNodesOf list p q page
nodes_over list p q spans page low heap leaves = λ k some level index.
    let n = node_number k in
    let few : n < 127 = node_few k in
    let has : HasKey p q n (key_at p q n) = key_has p q n low few in
    let same : key_at p q n ≡ k = one_key (key_at p q n) k (has.level ∙ sym level) (has.page ∙ sym index) has.node in
    let all : (n : ℕ) → 127 ≤ n + 127 → n < 255 → spans n ≡ place_span list p q n = heap_over 127 list p q spans
    (coef_at page) low heap leaves in
    (heap n few).coef ∙ ap₂ coef_of (all (2 * n + 1) (omega arith) (omega (arith, few)))
    (all (2 * n + 2) (omega arith) (omega (arith, few)))
    ∙ sym (coefs_join list p q n few) ∙ ap (coef list) same

-- leaves that stay are those of the same list
pub leaves_stay : (list : List (Option ℤ)) (p q : ℕ) (old new : ℕ → Option Span) → ((n : ℕ) → 127 ≤ n → new n ≡ old n)
    → AreLeavesOf list p q old → AreLeavesOf list p q new
leaves_stay list p q old new stay leaves = λ c few. stay (127 + c) (omega arith) ∙ leaves c few

-- spans that are those of every heap that a page's coefficients have have a list's leaves, where the page holds the list's nodes
pub leaves_spread : (list : List (Option ℤ)) (p q : ℕ) (spans : ℕ → Option Span) (page : List ℕ) (top : Option Span) → AreSlots list → 1 ≤ p
    → AreNodesOf list p q page
    → top ≡ span list (key_of_top p q)
    → ((want : ℕ → Option Span) → IsHeap want (coef_at page) → AreProper want → want 0 ≡ top → (n : ℕ) → n < 255 → spans n ≡ want n)
    → AreLeavesOf list p q spans
leaves_spread list p q spans page top slots low nodes is same = λ c few.
    same (place_span list p q) (list_heap list p q page low nodes) (list_proper list p q slots) (list_top list p q
    ∙ sym is) (127 + c) (omega (arith, few))
    ∙ list_leaf list p q c few

-- where a range holds nothing, its parts hold nothing
nothing_below : (m : ℕ) (list : List (Option ℤ)) (p q : ℕ) → 1 ≤ p → m ≤ 127 → span list (key_of_top p q) ≡ None → (n : ℕ) → n ≤ 2 * m
    → place_span list p q n ≡ None
nothing_below zero list p q low few none n to =
    let first : n ≡ 0 = omega arith in
    subst (λ (n : ℕ). place_span list p q n ≡ None) (sym first) (list_top list p q ∙ none)
nothing_below (suc m) list p q low few none n to =
    let before : (n : ℕ) → n ≤ 2 * m → place_span list p q n ≡ None = nothing_below m list p q low (omega (arith, few)) none in
    let both = hull_empty (place_span list p q (2 * m + 1)) (place_span list p q (2 * m + 2))
    (sym (spans_join list p q m low (omega (arith, few))) ∙ before m (omega arith)) in
    elim (cases_lt n (2 * m + 1)) [
      | inl less ↦ before n (omega (arith, less))
      | inr more ↦ elim (cases_eq n (2 * m + 1)) [
        | inl same ↦ subst (λ (n : ℕ). place_span list p q n ≡ None) (sym same) both.0
        | inr other ↦
            let last : n ≡ 2 * m + 2 = omega (arith, more, other, to) in
            subst (λ (n : ℕ). place_span list p q n ≡ None) (sym last) both.1
      ]
    ]

pub leaves_of_nothing : (list : List (Option ℤ)) (p q : ℕ) (spans : ℕ → Option Span) → ((n : ℕ) → spans n ≡ None) → 1 ≤ p
    → span list (key_of_top p q) ≡ None → AreLeavesOf list p q spans
leaves_of_nothing list p q spans all low none = λ leaf few.
    all (127 + leaf) ∙ sym (nothing_below 127 list p q low (omega arith) none (127 + leaf) (omega (arith, few)))
    ∙ list_leaf list p q leaf few
