-- What is drawn, row by row.
use Rattle.std.proofs.Common.{ℕ, ℤ, zero, suc, ◌≡◌, ◌<◌, ◌⊎◌, ◌↔◌, inl, inr, arith, refl, sym, ◌∙◌, subst, subst₂, List, [], ◌∷◌, take}
use Rattle.std.proofs.Common.{slice_get, Some, IsTrue}
use Rattle.line_raster.specs.Canvas.{Canvas, Adds, black_at}
use Rattle.line_raster.specs.Segment.{On, InFill}
use Rattle.m4_groups.specs.declared.row.Row.{Row}
use Rattle.m4_groups.specs.Drawn.{first_of, last_of, Drawn}

-- one set of pixels after another
pub both : (a b : ℕ → ℕ → Type 0) (first second third : Canvas) → Adds a first second → Adds b second third
    → Adds (λ x y. a x y ⊎ b x y) first third
both a b first second third f g = record {
  width = g.width ∙ f.width;
  height = g.height ∙ f.height;
  pixels = λ x y in_w in_h.
      let in_w' : x < second.w = omega (arith, in_w, f.width) in
      let in_h' : y < second.h = omega (arith, in_h, f.height) in
      let p : IsTrue (black_at second x y) ↔ (IsTrue (black_at first x y) ⊎ a x y) = f.pixels x y in_w in_h in
      let q : IsTrue (black_at third x y) ↔ (IsTrue (black_at second x y) ⊎ b x y) = g.pixels x y in_w' in_h' in (
        λ t. elim (q.0 t) [ inl s ↦ elim (p.0 s) [ inl o ↦ inl o | inr k ↦ inr (inl k) ] | inr k ↦ inr (inr k) ],
        λ t. elim t [ inl o ↦ q.1 (inl (p.1 (inl o))) | inr k ↦ elim k [ inl m ↦ q.1 (inl (p.1 (inr m))) | inr m ↦ q.1 (inr m) ] ],
      );
}

-- the same pixels in other words
pub alike : (a b : ℕ → ℕ → Type 0) (old new : Canvas) → ((x y : ℕ) → a x y ↔ b x y) → Adds a old new → Adds b old new
alike a b old new same f = record {
  width = f.width;
  height = f.height;
  pixels = λ x y in_w in_h.
      let p : IsTrue (black_at new x y) ↔ (IsTrue (black_at old x y) ⊎ a x y) = f.pixels x y in_w in_h in (
        λ t. elim (p.0 t) [ inl o ↦ inl o | inr k ↦ inr ((same x y).0 k) ],
        λ t. elim t [ inl o ↦ p.1 (inl o) | inr k ↦ p.1 (inr ((same x y).1 k)) ],
      );
}

-- no pixel at all
pub nothing : (a : ℕ → ℕ → Type 0) (c : Canvas) → ((x y : ℕ) → a x y → ⊥) → Adds a c c
nothing a c none = record {
  width = refl;
  height = refl;
  pixels = λ x y in_w in_h. (λ t. inl t, λ t. elim t [ inl o ↦ o | inr k ↦ absurd (none x y k) ]);
}

-- the pixels of the next row, and of the join to it
abbrev pub More : Row → Row → ℕ → ℤ → Type 0
More q r x y = On (last_of q) (first_of r) x y ⊎ InFill r.column r.least r.greatest x y

-- the first row alone
pub first_drawn : (rs : List Row) (r : Row) (x : ℕ) (y : ℤ) → slice_get rs 0 ≡ Some r
    → InFill r.column r.least r.greatest x y ↔ Drawn (take 1 rs) x y
first_drawn [] r x y e = absurd (cc)
first_drawn (a ∷ rs) r x y e =
    let same : r ≡ a = cc in
    let P : Row → Type 0 = λ t. InFill t.column t.least t.greatest x y ↔ Drawn (a ∷ []) x y in
    subst P (sym same) (λ h. inl h, λ h. elim h [ inl k ↦ k | inr k ↦ absurd (elim k [ inl m ↦ m | inr m ↦ m ]) ])

two_drawn : (a b : Row) (x : ℕ) (y : ℤ) → (Drawn (a ∷ []) x y ⊎ More a b x y) ↔ Drawn (a ∷ (b ∷ [])) x y
two_drawn a b x y = (to, back)
  where
    to : Drawn (a ∷ []) x y ⊎ More a b x y → Drawn (a ∷ (b ∷ [])) x y
    to (inl (inl fill)) = inl fill
    to (inl (inr (inl none))) = absurd none
    to (inl (inr (inr none))) = absurd none
    to (inr (inl on)) = inr (inl on)
    to (inr (inr fill)) = inr (inr (inl fill))

    back : Drawn (a ∷ (b ∷ [])) x y → Drawn (a ∷ []) x y ⊎ More a b x y
    back (inl fill) = inl (inl fill)
    back (inr (inl on)) = inr (inl on)
    back (inr (inr (inl fill))) = inr (inr fill)
    back (inr (inr (inr (inl none)))) = absurd none
    back (inr (inr (inr (inr none)))) = absurd none

regrouped : (F O A B C : Type 0) → (A ⊎ C) ↔ B → ((F ⊎ (O ⊎ A)) ⊎ C) ↔ (F ⊎ (O ⊎ B))
regrouped F O A B C e = (
  λ h. elim h [
    | inl k ↦ elim k [ inl f ↦ inl f | inr m ↦ elim m [ inl o ↦ inr (inl o) | inr a ↦ inr (inr (e.0 (inl a))) ] ]
    | inr c ↦ inr (inr (e.0 (inr c)))
  ],
  λ h. elim h [
    | inl f ↦ inl (inl f)
    | inr k ↦ elim k [
      | inl o ↦ inl (inr (inl o))
      | inr b ↦ elim (e.1 b) [ inl a ↦ inl (inr (inr a)) | inr c ↦ inr c ]
    ]
  ],
)

-- one row more
pub next_drawn : (rs : List Row) (j : ℕ) (q r : Row) (x : ℕ) (y : ℤ) → slice_get rs j ≡ Some q → slice_get rs (suc j) ≡ Some r
    → (Drawn (take (suc j) rs) x y ⊎ More q r x y) ↔ Drawn (take (suc (suc j)) rs) x y
next_drawn [] j q r x y e f = absurd (cc)
next_drawn (a ∷ []) j q r x y e f = absurd (cc)
next_drawn (a ∷ (b ∷ rs)) zero q r x y e f =
    let first : q ≡ a = cc in
    let second : r ≡ b = cc in
    let P : Row → Row → Type 0 = λ s t. (Drawn (a ∷ []) x y ⊎ More s t x y) ↔ Drawn (a ∷ (b ∷ [])) x y in
    subst₂ P (sym first) (sym second) (two_drawn a b x y)
next_drawn (a ∷ (b ∷ rs)) (suc j) q r x y e f =
    regrouped (InFill a.column a.least a.greatest x y) (On (last_of a) (first_of b) x y)
    (Drawn (take (suc j) (b ∷ rs)) x y) (Drawn (take (suc (suc j)) (b ∷ rs)) x y) (More q r x y)
    (next_drawn (b ∷ rs) j q r x y e f)
