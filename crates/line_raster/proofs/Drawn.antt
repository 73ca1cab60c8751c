use Rattle.std.proofs.Common.{◌≡◌, ℕ, ◌+◌, ◌<◌, ◌≤◌, ◌↔◌, ◌⊎◌, refl, ◌∙◌, inl, inr, arith}
use Rattle.std.proofs.lemmas.Bool.{cases_order}
use Rattle.line_raster.specs.Canvas.{Canvas, Adds}

-- `p` or `a`, and then `b` as well
widened : (p q r a b : Type 0) → (q ↔ (p ⊎ a)) → (r ↔ (q ⊎ b)) → (r ↔ (p ⊎ (a ⊎ b)))
widened p q r a b first second = (
  (λ h. elim (second.0 h) [
    | inl k ↦ elim (first.0 k) [ inl was ↦ inl was | inr here ↦ inr (inl here) ]
    | inr here ↦ inr (inr here)
  ]),
  (λ h. elim h [
    | inl was ↦ second.1 (inl (first.1 (inl was)))
    | inr either ↦ elim either [ inl here ↦ second.1 (inl (first.1 (inr here))) | inr here ↦ second.1 (inr here) ]
  ]),
)

-- `p` or `a`, where `a` is `b` in other words
reworded : (p q a b : Type 0) → (q ↔ (p ⊎ a)) → (a ↔ b) → (q ↔ (p ⊎ b))
reworded p q a b first same = (
  (λ h. elim (first.0 h) [ inl was ↦ inl was | inr here ↦ inr (same.0 here) ]),
  (λ h. elim h [ inl was ↦ first.1 (inl was) | inr here ↦ first.1 (inr (same.1 here)) ]),
)

-- drawing one set and then another draws both
pub both : (a b : ℕ → ℕ → Type 0) (first second third : Canvas) → Adds a first second → Adds b second third
    → Adds (λ x y. a x y ⊎ b x y) first third
both a b first second third p q = record {
  width = q.width ∙ p.width;
  height = q.height ∙ p.height;
  pixels = λ x y column row.
      let same_column : x < second.w = omega arith in
      let same_row : y < second.h = omega arith in
      widened _ _ _ (a x y) (b x y) (p.pixels x y column row) (q.pixels x y same_column same_row);
}

-- drawing a set draws the same set in other words
pub alike : (a b : ℕ → ℕ → Type 0) (old new : Canvas) → Adds a old new → ((x y : ℕ) → x < old.w → y < old.h → a x y ↔ b x y)
    → Adds b old new
alike a b old new p same = record {
  width = p.width;
  height = p.height;
  pixels = λ x y column row. reworded _ _ (a x y) (b x y) (p.pixels x y column row) (same x y column row);
}

-- a set with no pixel on the canvas is drawn by doing nothing
pub none : (a : ℕ → ℕ → Type 0) (c : Canvas) → ((x y : ℕ) → x < c.w → y < c.h → a x y → ⊥) → Adds a c c
none a c off = record {
  width = refl;
  height = refl;
  pixels = λ x y column row. ((λ black. inl black), (λ h. elim h [ inl black ↦ black | inr here ↦ absurd (off x y column row here) ]));
}

-- a set that was drawn column by column up to a column, and then in that column
pub next_column : (s here : ℕ → ℕ → Type 0) (at next : ℕ) (old now new : Canvas) → next ≡ at + 1 → Adds (λ x y. s x y × (x < at)) old now
    → Adds here now new → ((x y : ℕ) → x < old.w → y < old.h → here x y ↔ (s x y × (x ≡ at))) → Adds (λ x y. s x y × (x < next)) old new
next_column s here at next old now new is_next before added same =
    alike _ _ old new (both _ _ old now new before added)
    (λ x y column row. (
      (λ h. elim h [
        | inl left ↦ (left.0, omega (arith, is_next, left.1))
        | inr this ↦ let k : s x y × (x ≡ at) = (same x y column row).0 this in (k.0, omega (arith, is_next, k.1))
      ]),
      (λ h. elim (cases_order x at) [
        | inl level ↦ inr ((same x y column row).1 (h.0, level))
        | inr apart ↦ elim apart [ inl left ↦ inl (h.0, left) | inr right ↦ absurd (omega (arith, is_next, h.1, right)) ]
      ]),
    ))

-- it is drawn whole once no column is left
pub last_column : (s : ℕ → ℕ → Type 0) (end : ℕ) (old new : Canvas) → Adds (λ x y. s x y × (x < end)) old new
    → ((x y : ℕ) → s x y → x < end) → Adds s old new
last_column s end old new drawn within = alike _ _ old new drawn (λ x y column row. ((λ h. h.0), (λ h. (h, within x y h))))

-- nothing is drawn before its first column
pub no_column : (s : ℕ → ℕ → Type 0) (start : ℕ) (c : Canvas) → ((x y : ℕ) → s x y → start ≤ x) → Adds (λ x y. s x y × (x < start)) c c
no_column s start c within = none _ c (λ x y column row h. let k : start ≤ x = within x y h.0 in omega (arith, h.1))
