-- The clears of the first slots of a series, one an aligned range.
use Rattle.std.proofs.Common.{◌≡◌, ℕ, ℤ, zero, suc, ◌+◌, ◌-◌, ◌*◌, ◌/◌, ◌<◌, ◌≤◌, Bool, true, false, List, [], ◌∷◌, map, Some, refl, sym}
use Rattle.std.proofs.Common.{ap, ap₂, ◌∙◌, arith, inl, inr}
use Rattle.std.specs.List.{filter, range_with_len}
use Rattle.std.proofs.lemmas.Bool.{cases_lt}
use Rattle.om3_coeff.specs.Spans.{IsClear}
use Rattle.om3_coeff.specs.Walks.{IsFirstStored}
use Rattle.series_book.specs.declared.edits.Edit.{Edit}
use Rattle.series_book.specs.declared.edits.Edit.TheVariants.{Clear}
use Rattle.series_book.specs.declared.one_series.Series.{Series}
use Rattle.retention.specs.Sweeps.{clear_of, clears_of, holds_value, range_end, range_first, slot_time}
use Rattle.retention.proofs.SlotLemmas.{IsCleared, holds_none, holds_one, holds_same}

-- no number passes
filter_none : (p : ℕ → Bool) (xs : List ℕ) → ((i : ℕ) → p i ≡ false) → filter p xs ≡ []
filter_none p [] none = refl
filter_none p (x ∷ xs) none = rw (none x) (filter_none p xs none)

filter_same : (p r : ℕ → Bool) (a n : ℕ) → ((i : ℕ) → a ≤ i → r i ≡ p i) → filter r (range_with_len a n) ≡ filter p (range_with_len a n)
filter_same p r a zero same = refl
filter_same p r a (suc n) same =
    let rest : filter r (range_with_len (a + 1) n) ≡ filter p (range_with_len (a + 1) n) = filter_same p r (a + 1) n
    (λ i from. same i (omega (arith, from))) in
    let here : r a ≡ p a = same a (omega arith) in
    rw (here, rest) refl

-- Where q passes the one test and is the first that does, and the other test lets through those behind it, the
-- numbers of the one are q and those of the other.
filter_next : (p r : ℕ → Bool) (a n q : ℕ) → a ≤ q → q < a + n → p q ≡ true → ((i : ℕ) → i < q → p i ≡ false)
    → ((i : ℕ) → i ≤ q → r i ≡ false) → ((i : ℕ) → q < i → r i ≡ p i)
    → filter p (range_with_len a n) ≡ q ∷ filter r (range_with_len a n)
filter_next p r a zero q from to passes before none after = absurd (omega (arith, from, to))
filter_next p r a (suc n) q from to passes before none after = elim (cases_lt a q) [
  | inl low ↦
      let here : p a ≡ false = before a low in
      let there : r a ≡ false = none a (omega (arith, low)) in
      let rest : filter p (range_with_len (a + 1) n) ≡ q ∷ filter r (range_with_len (a + 1) n) = filter_next p r (a + 1) n q
      (omega (arith, low)) (omega (arith, to)) passes before none after in
      rw (here, there) rest
  | inr high ↦
      let at : q ≡ a = omega (arith, from, high) in
      let here : p a ≡ true = sym (ap p at) ∙ passes in
      let there : r a ≡ false = none a (omega (arith, at)) in
      let rest : filter r (range_with_len (a + 1) n) ≡ filter p (range_with_len (a + 1) n) = filter_same p r (a + 1) n
      (λ i past. after i (omega (arith, at, past))) in
      rw (here, there, rest) (ap (λ k. k ∷ filter p (range_with_len (a + 1) n)) (sym at))
]

-- no clear where none of the slots holds a value
pub clears_none : (name : List ℕ) (series : Series) (old : ℕ) → IsClear series.slots 0 old → clears_of name series old ≡ []
unfolding clears_of
clears_none name series old clear =
    let none : filter (λ q. holds_value series.slots (range_first q) (range_end old q)) (range_with_len 0 old) ≡ [] =
    filter_none (λ q. holds_value series.slots (range_first q) (range_end old q)) (range_with_len 0 old)
    (λ q. holds_none series.slots (range_first q) (range_end old q) (λ i v from to h. clear i v (omega arith) (omega (arith, to)) h)) in
    ap (λ qs. map (λ q. clear_of name series (range_first q) (range_end old q)) qs) none

-- the same places in time
pub record IsSameAxis (series after : Series) : Type 0 where
  pub start : after.start ≡ series.start
  pub step : after.step ≡ series.step

same_clear : (name : List ℕ) (series after : Series) (old q : ℕ) → IsSameAxis series after
    → clear_of name after (range_first q) (range_end old q) ≡ clear_of name series (range_first q) (range_end old q)
same_clear name series after old q same = ap₂ (λ start step. Clear name
    (slot_time (record series { start = start; step = step }) (range_first q)) (range_end old q - range_first q)) same.start same.step

map_same : (f g : ℕ → Edit) (xs : List ℕ) → ((i : ℕ) → f i ≡ g i) → map f xs ≡ map g xs
map_same f g [] same = refl
map_same f g (x ∷ xs) same = ap₂ (λ y ys. y ∷ ys) (same x) (map_same f g xs same)

range_of : (s q : ℕ) → q ≡ s / 4096 → (q * 4096 ≤ s) × (s < (q + 1) * 4096)
range_of s q is = (omega (arith, is), omega (arith, is))

-- the first clear is that of the first range with a value, and the others are those of what it leaves
pub clears_next : (name : List ℕ) (series after : Series) (old s q : ℕ) (v : ℤ) → IsFirstStored series.slots 0 old (Some (s, v))
    → q ≡ s / 4096 → IsSameAxis series after → IsCleared series.slots after.slots (range_first q) (range_end old q)
    → clears_of name series old ≡ clear_of name series (range_first q) (range_end old q) ∷ clears_of name after old
unfolding clears_of
clears_next name series after old s q v found is axis cleared =
    let low = (range_of s q is).0 in
    let high = (range_of s q is).1 in
    let p : ℕ → Bool = λ q. holds_value series.slots (range_first q) (range_end old q) in
    let r : ℕ → Bool = λ q. holds_value after.slots (range_first q) (range_end old q) in
    let split : filter p (range_with_len 0 old) ≡ q ∷ filter r (range_with_len 0 old) =
    filter_next p r 0 old q (omega arith) (omega (arith, low, found.1))
    (holds_one series.slots (range_first q) (range_end old q) s v low (omega (arith, high, found.1)) found.2)
    (λ i before. holds_none series.slots (range_first i) (range_end old i)
    (λ j w from to h. found.3 j w (omega arith) (omega (arith, before, low, to)) h))
    (λ i up. holds_none after.slots (range_first i) (range_end old i) (λ j w from to h. elim (cases_lt j (range_first q)) [
      | inl before ↦ found.3 j w (omega arith) (omega (arith, before, low)) (sym (cleared.out j (inl before)) ∙ h)
      | inr here ↦ cleared.gone j w here (omega (arith, up, to)) h
    ]))
    (λ i past. holds_same series.slots after.slots (range_first i) (range_end old i)
    (λ j from to. cleared.out j (inr (omega (arith, past, from))))) in
    ap (λ qs. map (λ q. clear_of name series (range_first q) (range_end old q)) qs) split
    ∙ ap (λ cs. clear_of name series (range_first q) (range_end old q) ∷ cs)
    (map_same (λ q. clear_of name series (range_first q) (range_end old q)) (λ q. clear_of name after (range_first q) (range_end old q))
    (filter r (range_with_len 0 old)) (λ i. sym (same_clear name series after old i axis)))
