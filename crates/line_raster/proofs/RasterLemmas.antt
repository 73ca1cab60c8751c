use Rattle.std.proofs.Common.{◌≡◌, ℕ, ℤ, zero, suc, ◌+◌, ◌↔◌, ◌⊎◌, List, [], ◌∷◌, Some, refl, sym, ◌∙◌, ap, subst, inl, inr, arith}
use Rattle.std.specs.Prelude.{slice_get}
use Rattle.line_raster.specs.declared.position.Point.{Point}
use Rattle.line_raster.specs.Segment.{On}
use Rattle.line_raster.specs.Raster.{IsAt, IsPoint, IsBetween, InRaster, OnNext, AlongPoints}

-- what `Some` holds
held : (p q : Point) → Some p ≡ Some q → p ≡ q
held p q e = cc

-- the place after a later one
later : (i : ℕ) → suc i + 1 ≡ suc (i + 1)
later i = omega arith

-- no pixel is in the raster of no point
pub InRaster-none : (x : ℕ) (y : ℤ) → InRaster [] x y → ⊥
InRaster-none x y h = elim h [ inl point ↦ (let e = point.here in cc) | inr between ↦ (let e = between.here in cc) ]

-- a point of the list is the first or one of the rest
point_from : (p : Point) (ps : List Point) (x : ℕ) (y : ℤ) (i : ℕ) (point : Point) → slice_get (p ∷ ps) i ≡ Some point → IsAt point x y
    → IsAt p x y ⊎ IsPoint ps x y
point_from p ps x y zero point here pixel = inl (subst (λ (q : Point). IsAt q x y) (sym (held p point here)) pixel)
point_from p ps x y (suc i) point here pixel = inr (record { position = i; point = point; here = here; pixel = pixel })

-- a segment of the list begins at the first point or at one of the rest
between_from : (p : Point) (ps : List Point) (x : ℕ) (y : ℤ) (i : ℕ) (first second : Point) → slice_get (p ∷ ps) i ≡ Some first
    → slice_get (p ∷ ps) (i + 1) ≡ Some second → On first second x y → OnNext p ps x y ⊎ IsBetween ps x y
between_from p [] x y zero first second here next pixel = (let e = next in cc)
between_from p (q ∷ qs) x y zero first second here next pixel =
    inl (subst (λ (b : Point). On p b x y) (sym (held q second next))
    (subst (λ (a : Point). On a second x y) (sym (held p first here)) pixel))
between_from p ps x y (suc i) first second here next pixel =
    inr (record {
      position = i;
      first = first;
      second = second;
      here = here;
      next = ap (slice_get (p ∷ ps)) (sym (later i)) ∙ next;
      pixel = pixel;
    })

-- the segment to the next point is one of the list
next_between : (p : Point) (ps : List Point) (x : ℕ) (y : ℤ) → OnNext p ps x y → IsBetween (p ∷ ps) x y
next_between p [] x y h = absurd h
next_between p (q ∷ qs) x y h = record { position = 0; first = p; second = q; here = refl; next = refl; pixel = h }

-- The raster of a point, the segment to the next point, and the raster of the rest.
pub InRaster-more : (p : Point) (ps : List Point) (x : ℕ) (y : ℤ)
    → InRaster (p ∷ ps) x y ↔ (IsAt p x y ⊎ (OnNext p ps x y ⊎ InRaster ps x y))
InRaster-more p ps x y = (
  (λ h. elim h [
    | inl k ↦ elim (point_from p ps x y k.position k.point k.here k.pixel) [ inl at ↦ inl at | inr rest ↦ inr (inr (inl rest)) ]
    | inr k ↦ elim (between_from p ps x y k.position k.first k.second k.here k.next k.pixel)
        [ inl on ↦ inr (inl on) | inr rest ↦ inr (inr (inr rest)) ]
  ]),
  (λ h. elim h [
    | inl at ↦ inl (record { position = 0; point = p; here = refl; pixel = at })
    | inr more ↦ elim more [
      | inl on ↦ inr (next_between p ps x y on)
      | inr rest ↦ elim rest [
        | inl k ↦ inl (record { position = suc k.position; point = k.point; here = k.here; pixel = k.pixel })
        | inr k ↦ inr (record {
          position = suc k.position;
          first = k.first;
          second = k.second;
          here = k.here;
          next = ap (slice_get (p ∷ ps)) (later k.position) ∙ k.next;
          pixel = k.pixel;
        })
      ]
    ]
  ]),
)

-- the raster, walked along the list
pub InRaster-along : (ps : List Point) (x : ℕ) (y : ℤ) → InRaster ps x y ↔ AlongPoints ps x y
InRaster-along [] x y = ((λ h. InRaster-none x y h), (λ h. absurd h))
InRaster-along (p ∷ ps) x y =
    let more = InRaster-more p ps x y in
    let rest = InRaster-along ps x y in (
      (λ h. elim (more.0 h) [ inl at ↦ inl at | inr k ↦ inr (elim k [ inl on ↦ inl on | inr r ↦ inr (rest.0 r) ]) ]),
      (λ h. elim h [
        | inl at ↦ more.1 (inl at)
        | inr k ↦ elim k
            [ inl on ↦ more.1 (inr (inl on)) | inr r ↦ more.1 (inr (inr (rest.1 r))) ]
      ]),
    )
