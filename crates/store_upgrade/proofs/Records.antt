-- The records of a page while their levels are set.
use Rattle.std.proofs.Common.{◌≡◌, ◌≢◌, ℕ, zero, suc, ◌+◌, ◌*◌, ◌<◌, ◌≤◌, cond, eqb, List, take, set, length, get_or, refl, sym, ap, subst}
use Rattle.std.proofs.Common.{arith, inl, inr, ◌∙◌}
use Rattle.std.proofs.lemmas.Bool.{cases_Bool, cases_lt, ne_eqb}
use Rattle.std.proofs.lemmas.Bool.Decides.{eqb_tells}
use Rattle.std.proofs.lemmas.List.{drop-set-lt, length-set, get_or-set_same, get_or-set_other}
use Rattle.block_disk.specs.Blocks.{IsBlock}
use Rattle.om3_coeff.specs.Keys.{page_levels}
use Rattle.catalog_page.specs.Fields.{record_bytes, used_at, slots_at}
use Rattle.store_upgrade.specs.OldStores.{KeepsOldRules, HasOldRecord, IsOldRecord, IsInUse}
use Rattle.store_upgrade.specs.Upgraded.{levels_of, with_level, with_levels, upgraded_page}

record_stays : (page : List ℕ) (k x i : ℕ) → k < 8 + 96 * i → record_bytes (set page k x) i ≡ record_bytes page i
unfolding record_bytes
record_stays page k x i below = ap (λ (l : List ℕ). take 96 l) (drop-set-lt (8 + 96 * i) page k x below)

level_stays : (page : List ℕ) (n i : ℕ) → n < i → record_bytes (with_level page n) i ≡ record_bytes page i
level_stays page n i below = elim (cases_Bool (eqb (used_at (record_bytes page n)) 0)) [
  | inl is ↦ ap (λ b. record_bytes (cond b page (set page (88 + 96 * n) (levels_of page n))) i) is
  | inr is ↦
      ap (λ b. record_bytes (cond b page (set page (88 + 96 * n) (levels_of page n))) i) is
      ∙ record_stays page (88 + 96 * n) (levels_of page n) i (omega (arith, below))
]

-- the records behind those of which the levels are set are as they were
pub later_stays : (page : List ℕ) (n i : ℕ) → n ≤ i → record_bytes (with_levels page n) i ≡ record_bytes page i
unfolding with_levels
later_stays page zero i from = refl
later_stays page (suc n) i from = level_stays (with_levels page n) n i (omega (arith, from)) ∙ later_stays page n i (omega (arith, from))

pub later_old : (page : List ℕ) (n : ℕ) → n < 32 → KeepsOldRules page → HasOldRecord (with_levels page n) n
later_old page n few keeps =
    let P : List ℕ → Type 0 = λ bytes. IsInUse bytes → IsOldRecord bytes in
    subst P (sym (later_stays page n n (omega arith))) (keeps.records n few)

pub one_more : (page : List ℕ) (n : ℕ) → with_levels page (n + 1) ≡ with_level (with_levels page n) n
unfolding with_levels
one_more page n = let more : n + 1 ≡ suc n = omega arith in ap (λ m. with_levels page m) more

pub none_set : (page : List ℕ) → with_levels page 0 ≡ page
unfolding with_levels
none_set page = refl

pub levels_length : (page : List ℕ) (n : ℕ) → length (with_levels page n) ≡ length page
unfolding with_levels
levels_length page zero = refl
levels_length page (suc n) = elim (cases_Bool (eqb (used_at (record_bytes (with_levels page n) n)) 0)) [
  | inl is ↦ ap (λ b. length (cond b (with_levels page n) (set (with_levels page n) (88 + 96 * n) (levels_of (with_levels page n) n)))) is
      ∙ levels_length page n
  | inr is ↦
      ap (λ b. length (cond b (with_levels page n) (set (with_levels page n) (88 + 96 * n) (levels_of (with_levels page n) n)))) is
      ∙ length-set (with_levels page n) (88 + 96 * n) (levels_of (with_levels page n) n)
      ∙ levels_length page n
]

-- no other byte is set
pub levels_rest : (page : List ℕ) (n k : ℕ) → ((i : ℕ) → i < n → k ≡ 88 + 96 * i → IsInUse (record_bytes page i) → ⊥)
    → get_or (with_levels page n) k 0 ≡ get_or page k 0
unfolding with_levels
levels_rest page zero k other = refl
levels_rest page (suc n) k other =
    let mid = with_levels page n in
    let x = levels_of mid n in
    let before = levels_rest page n k (λ i low. other i (omega (arith, low))) in
    elim (eqb_tells (used_at (record_bytes mid n)) 0) [
      | inl is ↦ ap (λ b. get_or (cond b mid (set mid (88 + 96 * n) x)) k 0) is.0 ∙ before
      | inr is ↦
          let U : List ℕ → Type 0 = λ bytes. IsInUse bytes in
          let off : k ≢ 88 + 96 * n = λ here. other n (omega arith) here (subst U (later_stays page n n (omega arith)) is.1) in
          ap (λ b. get_or (cond b mid (set mid (88 + 96 * n) x)) k 0) is.0 ∙ get_or-set_other mid (88 + 96 * n) k x 0 off ∙ before
    ]

pub levels_set : (page : List ℕ) (n i : ℕ) → IsBlock page → n ≤ 32 → i < n → IsInUse (record_bytes page i)
    → get_or (with_levels page n) (88 + 96 * i) 0 ≡ levels_of page i
unfolding with_levels
levels_set page zero i whole few low used = absurd (omega (arith, low))
levels_set page (suc n) i whole few low used =
    let mid = with_levels page n in
    let at = 88 + 96 * n in
    let x = levels_of mid n in
    let same : record_bytes mid n ≡ record_bytes page n = later_stays page n n (omega arith) in
    elim (cases_lt i n) [
      | inl below ↦
          let before = levels_set page n i whole (omega (arith, few)) below used in
          elim (cases_Bool (eqb (used_at (record_bytes mid n)) 0)) [
            | inl is ↦ ap (λ b. get_or (cond b mid (set mid at x)) (88 + 96 * i) 0) is ∙ before
            | inr is ↦ ap (λ b. get_or (cond b mid (set mid at x)) (88 + 96 * i) 0) is
                ∙ get_or-set_other mid at (88 + 96 * i) x 0 (λ e. omega (arith, e, below)) ∙ before
          ]
      | inr above ↦
          let here : i ≡ n = omega (arith, low, above) in
          let U : ℕ → Type 0 = λ m. IsInUse (record_bytes page m) in
          let V : List ℕ → Type 0 = λ bytes. IsInUse bytes in
          let is = subst V (sym same) (subst U here used) in
          let within : at < length mid = omega (arith, levels_length page n, whole, few) in
          ap (λ m. get_or (cond (eqb (used_at (record_bytes mid n)) 0) mid (set mid at x)) (88 + 96 * m) 0) here
          ∙ ap (λ b. get_or (cond b mid (set mid at x)) at 0) (ne_eqb (used_at (record_bytes mid n)) 0 is)
          ∙ get_or-set_same mid at x 0 within
          ∙ ap (λ (bytes : List ℕ). page_levels (slots_at bytes)) same
          ∙ ap (λ m. levels_of page m) (sym here)
    ]

pub page_kind : (page : List ℕ) → IsBlock page → get_or (upgraded_page page) 0 0 ≡ 4
page_kind page whole = get_or-set_same (with_levels page 32) 0 4 0 (omega (arith, levels_length page 32, whole))

pub page_levels_set : (page : List ℕ) (i : ℕ) → IsBlock page → i < 32 → IsInUse (record_bytes page i)
    → get_or (upgraded_page page) (88 + 96 * i) 0 ≡ levels_of page i
page_levels_set page i whole low used = get_or-set_other (with_levels page 32) 0 (88 + 96 * i) 4 0 (λ e. omega (arith, e))
    ∙ levels_set page 32 i whole (omega arith) low used

pub page_rest : (page : List ℕ) (k : ℕ) → k ≢ 0 → ((i : ℕ) → i < 32 → k ≡ 88 + 96 * i → IsInUse (record_bytes page i) → ⊥)
    → get_or (upgraded_page page) k 0 ≡ get_or page k 0
page_rest page k off other = get_or-set_other (with_levels page 32) 0 k 4 0 off ∙ levels_rest page 32 k other
