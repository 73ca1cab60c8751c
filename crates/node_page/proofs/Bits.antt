-- Flags: which byte one stands in, and what setting one changes.
use Rattle.std.proofs.Common.{◌≡◌, ◌≢◌, ℕ, ◌+◌, ◌/◌, ◌%◌, ◌<◌, ◌≤◌, ◌⊎◌, inl, inr, Bool, ◌==◌, List, length, get_or, set, sym, ap, ◌∙◌}
use Rattle.std.proofs.Common.{arith}
use Rattle.std.proofs.lemmas.Bool.{cases_order}
use Rattle.std.proofs.lemmas.List.{get_or-set_same, get_or-set_other}
use Rattle.std.specs.Int.{bit_at}
use Rattle.node_page.specs.Fields.{flag_at}

-- a flag depends on its byte alone
pub flag_same : (b : ℕ) (old new : List ℕ) → get_or new (8 + b / 8) 0 ≡ get_or old (8 + b / 8) 0 → flag_at new b ≡ flag_at old b
unfolding flag_at
flag_same b old new same = ap (λ (byte : ℕ). bit_at byte (b % 8) == 1) same

-- a byte in the place of that of flag f gives flag f by its bit
pub flag_made : (f at made : ℕ) (page : List ℕ) (on : Bool) → at ≡ 8 + f / 8 → at < length page → (bit_at made (f % 8) == 1) ≡ on
    → flag_at (set page at made) f ≡ on
unfolding flag_at
flag_made f at made page on place within is =
    ap (λ (j : ℕ). bit_at (get_or (set page at made) j 0) (f % 8) == 1) (sym place)
    ∙ ap (λ (x : ℕ). bit_at x (f % 8) == 1) (get_or-set_same page at made 0 within) ∙ is

-- and all others as before, where the other bits are the same
pub flag_other : (b f at made : ℕ) (page : List ℕ) → at ≡ 8 + f / 8 → at < length page → b ≢ f
    → ((i : ℕ) → i < 8 → i ≢ f % 8 → bit_at made i ≡ bit_at (get_or page at 0) i) → flag_at (set page at made) b ≡ flag_at page b
unfolding flag_at
flag_other b f at made page is within other bits =
    elim (cases_order (b / 8) (f / 8)) [
      | inl same ↦
          let bit : b % 8 ≢ f % 8 = λ e. other (omega (arith, same, e)) in
          let place : 8 + b / 8 ≡ at = omega (arith, same, is) in
          ap (λ (j : ℕ). bit_at (get_or (set page at made) j 0) (b % 8) == 1) place
          ∙ ap (λ (x : ℕ). bit_at x (b % 8) == 1) (get_or-set_same page at made 0 within)
          ∙ ap (λ (x : ℕ). x == 1) (bits (b % 8) (omega arith) bit)
          ∙ ap (λ (j : ℕ). bit_at (get_or page j 0) (b % 8) == 1) (sym place)
      | inr differ ↦
          let place : 8 + b / 8 ≢ at = λ e. elim differ [ inl less ↦ omega (arith, less, e, is) | inr more ↦ omega (arith, more, e, is) ] in
          ap (λ (x : ℕ). bit_at x (b % 8) == 1) (get_or-set_other page at (8 + b / 8) made 0 place)
    ]

-- bytes that hold no flag stay
pub rest_other : (k f at made : ℕ) (page : List ℕ) → at ≡ 8 + f / 8 → f < 256 → (k < 8) ⊎ (40 ≤ k)
    → get_or (set page at made) k 0 ≡ get_or page k 0
rest_other k f at made page is low off =
    let place : k ≢ at = λ e. elim off [ inl front ↦ omega (arith, front, e, is) | inr behind ↦ omega (arith, behind, e, is, low) ] in
    get_or-set_other page at k made 0 place
