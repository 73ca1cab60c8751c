-- A page of page level 1 has no children: their bytes are 0.
use Rattle.std.proofs.Common.{◌≡◌, ℕ, zero, suc, ◌+◌, ◌-◌, ◌*◌, ◌/◌, ◌^◌, ◌<◌, ◌≤◌, List, get_or, inl, inr, refl, ap, ◌∙◌, arith}
use Rattle.std.proofs.lemmas.Bool.{cases_order}
use Rattle.byteorder.specs.Endian.{big_from}
use Rattle.node_page.specs.Fields.{number_at, level_at, child_at}
use Rattle.node_page.specs.Layout.{AreChildren}
use Rattle.node_page.proofs.Blank.{big_zero}

-- a number is 0 where its bytes are
zero_bytes : (n i : ℕ) (xs : List ℕ) → big_from i n xs ≡ 0 → (k : ℕ) → i ≤ k → k < i + n → get_or xs k 0 ≡ 0
zero_bytes zero i xs none k low high = absurd (omega (arith, low, high))
zero_bytes (suc n) i xs none k low high =
    let some : 0 < 256 ^ n = pow_some n in
    let first : get_or xs i 0 ≡ 0 = no_factor (get_or xs i 0) (256 ^ n) (big_from (suc i) n xs) some none in
    let rest : big_from (suc i) n xs ≡ 0 = omega (arith, none) in
    elim (cases_order k i) [
      | inl same ↦ ap (λ (j : ℕ). get_or xs j 0) same ∙ first
      | inr differ ↦ zero_bytes n (suc i) xs rest k (elim differ [ inl less ↦ omega (arith, less, low) | inr more ↦ omega (arith, more) ])
          (omega (arith, high))
    ]
  where
    pow_some : (n : ℕ) → 0 < 256 ^ n
    pow_some zero = omega arith
    pow_some (suc n) = let above = pow_some n in omega (arith, above)

    no_factor : (b p r : ℕ) → 0 < p → b * p + r ≡ 0 → b ≡ 0
    no_factor zero p r some none = refl
    no_factor (suc b) p r some none = absurd (omega (arith, some, none))

pub no_children : (page : List ℕ) → level_at page ≡ 1 → ((k : ℕ) → 2072 ≤ k → k < 2584 → get_or page k 0 ≡ 0) → AreChildren page
unfolding child_at number_at
no_children page low zeros child few =
    let none : child_at page child ≡ 0 = big_zero 4 (2072 + 4 * child) page
    (λ k from to. zeros k (omega (arith, from)) (omega (arith, to, few))) in
    record { lowest = λ _. none; empty = λ _. none; there = λ more _ _. absurd (omega (arith, more, low)) }

pub childless : (page : List ℕ) → level_at page ≡ 1 → AreChildren page → (k : ℕ) → 2072 ≤ k → k < 2584 → get_or page k 0 ≡ 0
unfolding child_at number_at
childless page low children k from to =
    let child = (k - 2072) / 4 in
    zero_bytes 4 (2072 + 4 * child) page ((children child (omega (arith, to))).lowest low) k (omega (arith, from)) (omega arith)
