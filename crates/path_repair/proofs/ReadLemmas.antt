-- How many pages are read while those are counted that a change needs more.
use Rattle.std.proofs.Common.{◌≡◌, ◌≢◌, ℕ, zero, suc, ◌+◌, ◌*◌, ◌<◌, ◌≤◌, ◌||◌, true, false, cond, List, refl, sym, ap, subst, arith, inl}
use Rattle.std.proofs.Common.{inr, ◌∙◌}
use Rattle.std.proofs.lemmas.Bool.{cases_eq, ne_eqb, eq-eqb}
use Rattle.node_page.specs.Fields.{child_at}
use Rattle.path_repair.specs.Sums.{sum_below}
use Rattle.path_repair.specs.Costs.{touch, is_touched, is_new_root}
use Rattle.path_repair.specs.Keeping.{IsRead, IsNew, IsLookedAt, look_most, count_most, root_level}
use Rattle.path_repair.proofs.SumLemmas.{sum_le, sum_swap}
use Rattle.path_repair.proofs.CountLemmas.{truth}
use Rattle.path_repair.proofs.MoveLemmas.{touch_suc}
use Rattle.path_repair.proofs.DamageLemmas.{root_here, root_lower, root_child, root_first}

look_none : (height level index page : ℕ) → page ≡ 0 → look_most height level index page ≡ 0
unfolding look_most
look_none height level index page none = ap (λ b. cond b 0 (cond (is_new_root height level index) 0 1)) (eq-eqb page 0 none)

look_root : (height level index page : ℕ) → is_new_root height level index ≡ true → look_most height level index page ≡ 0
unfolding look_most
look_root height level index page new = elim (cases_eq page 0) [
  | inl none ↦ ap (λ b. cond b 0 (cond (is_new_root height level index) 0 1)) (eq-eqb page 0 none)
  | inr some ↦ ap (λ b. cond b 0 (cond (is_new_root height level index) 0 1)) (ne_eqb page 0 some) ∙ ap (λ b. cond b 0 1) new
]

pub look_page : (height level index page : ℕ) → page ≢ 0 → is_new_root height level index ≡ false → look_most height level index page ≡ 1
unfolding look_most
look_page height level index page some old = ap (λ b. cond b 0 (cond (is_new_root height level index) 0 1)) (ne_eqb page 0 some)
    ∙ ap (λ b. cond b 0 1) old

count_none : (page first end height level index : ℕ) → page ≡ 0 → count_most page first end height level index ≡ 0
unfolding count_most
count_none page first end height level index none = ap (λ b. cond b 0 (touch first end height (root_level height level index) index))
    (eq-eqb page 0 none)

count_some : (page first end height level index : ℕ) → page ≢ 0
    → count_most page first end height level index ≡ touch first end height (root_level height level index) index
unfolding count_most
count_some page first end height level index some = ap (λ b. cond b 0 (touch first end height (root_level height level index) index))
    (ne_eqb page 0 some)

pub count_less : (page first end height level index : ℕ)
    → count_most page first end height level index ≤ touch first end height (root_level height level index) index
count_less page first end height level index = elim (cases_eq page 0) [
  | inl none ↦ omega (arith, count_none page first end height level index none)
  | inr some ↦ omega (arith, count_some page first end height level index some)
]

sum_zeros : (n : ℕ) → sum_below (λ c. 0) n ≡ 0
unfolding sum_below
sum_zeros zero = refl
sum_zeros (suc n) = omega (arith, sum_zeros n)

-- so many pages are read for the children below n
abbrev pub counted_below : List ℕ → ℕ → ℕ → ℕ → ℕ → ℕ → ℕ → ℕ
counted_below bytes first end height below index n = sum_below
    (λ child. count_most (child_at bytes child) first end height below (128 * index + child)) n

read_children : (first end height below index page : ℕ) (bytes : List ℕ)
    → (is_touched first end (suc below) index || is_new_root height (suc below) index) ≡ true → IsRead height (suc below) index page bytes
    → look_most height (suc below) index page + counted_below bytes first end height below index 128 ≤ count_most page first end height
    (suc below) index
read_children first end height below index page bytes passed read =
    let each = sum_le (λ child. count_most (child_at bytes child) first end height below (128 * index + child))
    (λ child. touch first end height below (128 * index + child)) 128
    (λ c within. omega (
      arith,
      count_less (child_at bytes c) first end height below (128 * index + c),
      ap (λ l. touch first end height l (128 * index + c)) (root_child height below index c read.old),
    )) in
    omega (
      arith,
      each,
      look_page height (suc below) index page read.some read.old,
      count_some page first end height (suc below) index read.some,
      ap (λ l. touch first end height l index) (root_here height (suc below) index read.old),
      touch_suc first end height below index passed,
    )

new_index : (height level index : ℕ) → is_new_root height level index ≡ true → index ≡ 0
unfolding is_new_root
new_index height level index new = grind (arith, new)

new_children : (first end height below index page : ℕ) (bytes : List ℕ) → IsNew height (suc below) index page bytes
    → look_most height (suc below) index page + counted_below bytes first end height below index 128 ≤ count_most page first end height
    (suc below) index
new_children first end height below index page bytes new =
    let each : ℕ → ℕ = λ child. count_most (child_at bytes child) first end height below (128 * index + child) in
    let nothing : ℕ → ℕ = λ child. 0 in
    let others : (c : ℕ) → c < 128 → c ≢ 0 → nothing c ≡ each c = λ c within apart.
    sym (count_none (child_at bytes c) first end height below (128 * index + c) (new.none c (omega (arith, apart)) within)) in
    let sum : sum_below each 128 + 0 ≡ sum_below nothing 128 + each 0 = sum_swap each nothing 0 128 (omega arith) others in
    let one : each 0 ≡ count_most page first end height below
    (128 * index + 0) = ap (λ p. count_most p first end height below (128 * index + 0)) new.first in
    elim new.why [
      | inl none ↦
          omega (
            arith,
            sum,
            sum_zeros 128,
            one,
            count_none page first end height below (128 * index + 0) none,
            look_none height (suc below) index page none,
          )
      | inr root ↦ elim (cases_eq page 0) [
        | inl none ↦ omega (
          arith,
          sum,
          sum_zeros 128,
          one,
          count_none page first end height below (128 * index + 0) none,
          look_none height (suc below) index page none,
        )
        | inr some ↦
            let zero_is = new_index height (suc below) index root in
            let at : 128 * index + 0 ≡ index = omega (arith, zero_is) in
            omega (
              arith,
              sum,
              sum_zeros 128,
              one,
              look_root height (suc below) index page root,
              count_some page first end height below (128 * index + 0) some,
              ap (λ l. touch first end height l (128 * index + 0)) (root_first height below index root),
              ap (λ q. touch first end height height q) at,
              count_some page first end height (suc below) index some,
              ap (λ l. touch first end height l index) (root_lower height (suc below) index root),
            )
      ]
    ]

pub look_children : (first end height level below index page : ℕ) (bytes : List ℕ) → level ≡ suc below
    → (is_touched first end level index || is_new_root height level index) ≡ true → IsLookedAt height level index page bytes
    → look_most height level index page + counted_below bytes first end height below index 128 ≤ count_most page first end height level
    index
look_children first end height level below index page bytes is passed looked =
    let P : ℕ → Type 0 = λ l. (is_touched first end l index || is_new_root height l index) ≡ true in
    let L : ℕ → Type 0 = λ l. IsLookedAt height l index page bytes in
    let G : ℕ → Type 0 = λ l. look_most height l index page + counted_below bytes first end height below index 128 ≤ count_most page first
    end height l index in
    subst G (sym is) (at_suc first end height below index page bytes (subst P is passed) (subst L is looked))
  where
    at_suc : (first end height below index page : ℕ) (bytes : List ℕ)
        → (is_touched first end (suc below) index || is_new_root height (suc below) index) ≡ true
        → IsLookedAt height (suc below) index page bytes
        → look_most height (suc below) index page + counted_below bytes first end height below index 128 ≤ count_most page first end height
        (suc below) index
    at_suc first end height below index page bytes passed (inl read) = read_children first end height below index page bytes passed read
    at_suc first end height below index page bytes passed (inr new) = new_children first end height below index page bytes new

pub look_less : (first end height level below index page : ℕ) → level ≡ suc below
    → (is_touched first end level index || is_new_root height level index) ≡ true
    → look_most height level index page ≤ count_most page first end height level index
look_less first end height level below index page is passed =
    let P : ℕ → Type 0 = λ l. (is_touched first end l index || is_new_root height l index) ≡ true in
    let G : ℕ → Type 0 = λ l. look_most height l index page ≤ count_most page first end height l index in
    subst G (sym is) (at_suc first end height below index page (subst P is passed))
  where
    at_suc : (first end height below index page : ℕ)
        → (is_touched first end (suc below) index || is_new_root height (suc below) index) ≡ true
        → look_most height (suc below) index page ≤ count_most page first end height (suc below) index
    at_suc first end height below index page passed = elim (cases_eq page 0) [
      | inl none ↦ omega (arith, look_none height (suc below) index page none)
      | inr some ↦ elim (truth (is_new_root height (suc below) index)) [
        | inl root ↦ omega (arith, look_root height (suc below) index page root)
        | inr old ↦ omega (
          arith,
          look_page height (suc below) index page some old,
          count_some page first end height (suc below) index some,
          ap (λ l. touch first end height l index) (root_here height (suc below) index old),
          touch_suc first end height below index passed,
        )
      ]
    ]
