-- Which kinds admit a length.
use Rattle.std.proofs.Common.{◌≡◌, ℕ, ◌<◌, ◌≤◌, inl, inr, Bool, true, false, eqb, refl, sym, ap, ◌∙◌, arith}
use Rattle.std.proofs.lemmas.Bool.{eqb-true, ne_eqb, both_ways, cases_lt}
use Rattle.chart_frames.specs.Fields.{admits, is_view_length, is_catalog_length}

pub admits_done : (length kind : ℕ) → admits length kind ≡ true → kind ≡ 1 → length ≡ 9
unfolding admits
admits_done length kind h e = eqb-true length 9 (sym (ap (admits length) e) ∙ h)

pub admits_refused : (length kind : ℕ) → admits length kind ≡ true → kind ≡ 2 → length ≡ 18
unfolding admits
admits_refused length kind h e = eqb-true length 18 (sym (ap (admits length) e) ∙ h)

pub admits_opened : (length kind : ℕ) → admits length kind ≡ true → kind ≡ 3 → length ≡ 9
unfolding admits
admits_opened length kind h e = eqb-true length 9 (sym (ap (admits length) e) ∙ h)

pub admits_closed : (length kind : ℕ) → admits length kind ≡ true → kind ≡ 4 → length ≡ 5
unfolding admits
admits_closed length kind h e = eqb-true length 5 (sym (ap (admits length) e) ∙ h)

pub admits_view : (length kind : ℕ) → admits length kind ≡ true → kind ≡ 5 → is_view_length length ≡ true
unfolding admits
admits_view length kind h e = sym (ap (admits length) e) ∙ h

pub admits_live : (length kind : ℕ) → admits length kind ≡ true → kind ≡ 7 → length ≡ 6
unfolding admits
admits_live length kind h e = eqb-true length 6 (sym (ap (admits length) e) ∙ h)

pub admits_catalog : (length kind : ℕ) → admits length kind ≡ true → kind ≡ 8 → is_catalog_length length ≡ true
unfolding admits
admits_catalog length kind h e = sym (ap (admits length) e) ∙ h

pub admits_swept : (length kind : ℕ) → admits length kind ≡ true → kind ≡ 10 → length ≡ 8
unfolding admits
admits_swept length kind h e = eqb-true length 8 (sym (ap (admits length) e) ∙ h)

none : (b : Bool) → b ≡ false → b ≡ true → ⊥
none b e f = both_ways b e f

admits_high : (length kind : ℕ) → 10 < kind → admits length kind ≡ false
unfolding admits
admits_high length kind high =
    let a : eqb kind 1 ≡ false = ne_eqb kind 1 (λ e. omega (arith, e)) in
    let b : eqb kind 2 ≡ false = ne_eqb kind 2 (λ e. omega (arith, e)) in
    let c : eqb kind 3 ≡ false = ne_eqb kind 3 (λ e. omega (arith, e)) in
    let d : eqb kind 4 ≡ false = ne_eqb kind 4 (λ e. omega (arith, e)) in
    let e : eqb kind 5 ≡ false = ne_eqb kind 5 (λ e. omega (arith, e)) in
    let f : eqb kind 6 ≡ false = ne_eqb kind 6 (λ e. omega (arith, e)) in
    let g : eqb kind 7 ≡ false = ne_eqb kind 7 (λ e. omega (arith, e)) in
    let i : eqb kind 8 ≡ false = ne_eqb kind 8 (λ e. omega (arith, e)) in
    let j : eqb kind 9 ≡ false = ne_eqb kind 9 (λ e. omega (arith, e)) in
    let k : eqb kind 10 ≡ false = ne_eqb kind 10 (λ e. omega (arith, e)) in
    rw (a, b, c, d, e, f, g, i, j, k) refl

admits_low : (length kind : ℕ) → kind ≡ 0 → admits length kind ≡ false
unfolding admits
admits_low length kind e = ap (admits length) e

-- a kind is 1 to 10
pub admits_some : (length kind : ℕ) → admits length kind ≡ true → (1 ≤ kind) × (kind ≤ 10)
admits_some length kind h = (
  elim (cases_lt 0 kind) [
    | inl some ↦ omega (
      arith,
      some,
    )
    | inr empty ↦ absurd (none (admits length kind) (admits_low length kind (omega (arith, empty))) h)
  ],
  elim (cases_lt 10 kind) [ inl high ↦ absurd (none (admits length kind) (admits_high length kind high) h) | inr low ↦ low ],
)
