-- What the tests of the rules show.
use Rattle.std.proofs.Common.{◌≡◌, ℕ, ◌+◌, ◌-◌, ◌<◌, ◌≤◌, Bool, true, false, not, List, length, get_or, take, drop, refl, sym, ap, ◌∙◌}
use Rattle.std.proofs.Common.{arith, length-drop}
use Rattle.std.proofs.lemmas.List.{get_or-drop, get_or-take, length-take-le}
use mathlib.Core.Bool.{beq}

-- a part of a page is all zero exactly where the page's bytes there are
pub zero_in : (at n : ℕ) (page : List ℕ) → at + n ≤ length page
    → ((k : ℕ) → k < length (take n (drop at page)) → get_or (take n (drop at page)) k 0 ≡ 0)
    → (k : ℕ) → at ≤ k → k < at + n → get_or page k 0 ≡ 0
zero_in at n page within zero k from to =
    let j = k - at in
    let part = drop at page in
    let low : j < n = omega (arith, from, to) in
    let size : length (take n part) ≡ n = length-take-le n part (omega (arith, length-drop at page, within)) in
    let place : at + j ≡ k = omega (arith, from) in
    ap (λ (i : ℕ). get_or page i 0) (sym place) ∙ sym (get_or-drop at page j 0) ∙ sym (get_or-take n part j 0 low)
    ∙ zero j (omega (arith, size, low))

pub zero_out : (at n : ℕ) (page : List ℕ) → at + n ≤ length page → ((k : ℕ) → at ≤ k → k < at + n → get_or page k 0 ≡ 0)
    → (k : ℕ) → k < length (take n (drop at page)) → get_or (take n (drop at page)) k 0 ≡ 0
zero_out at n page within zero k low =
    let part = drop at page in
    let size : length (take n part) ≡ n = length-take-le n part (omega (arith, length-drop at page, within)) in
    let less : k < n = omega (arith, size, low) in
    get_or-take n part k 0 less ∙ get_or-drop at page k 0 ∙ zero (at + k) (omega arith) (omega (arith, less))

-- two tests of which it was found that they don't differ
pub same_test : (a b : Bool) → not (beq a b) ≡ false → a ≡ b
same_test true true h = refl
same_test false false h = refl
same_test true false h = cc
same_test false true h = cc
