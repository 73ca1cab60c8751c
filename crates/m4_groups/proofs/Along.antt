-- The raster of points, one point after another.
use Rattle.std.proofs.Common.{ℕ, ℤ, zero, suc, ◌≡◌, ◌+◌, ◌↔◌, inl, inr, arith, refl, ap, ◌∙◌, subst, List, [], ◌∷◌, slice_get, Some, subst₂}
use Rattle.line_raster.specs.declared.position.Point.{Point}
use Rattle.line_raster.specs.Segment.{On}
use Rattle.line_raster.specs.Raster.{IsAt, IsPoint, IsBetween, InRaster, OnNext, AlongPoints}

at_least_one : (p : Point) (ps : List Point) (x : ℕ) (y : ℤ) → IsPoint ps x y → IsPoint (p ∷ ps) x y
at_least_one p ps x y h = record { position = suc h.position; point = h.point; here = h.here; pixel = h.pixel }

between_later : (p : Point) (ps : List Point) (x : ℕ) (y : ℤ) → IsBetween ps x y → IsBetween (p ∷ ps) x y
between_later p ps x y h =
    let e : suc h.position + 1 ≡ suc (h.position + 1) = omega arith in
    record {
      position = suc h.position;
      first = h.first;
      second = h.second;
      here = h.here;
      next = ap (slice_get (p ∷ ps)) e ∙ h.next;
      pixel = h.pixel;
    }

raster_later : (p : Point) (ps : List Point) (x : ℕ) (y : ℤ) → InRaster ps x y → InRaster (p ∷ ps) x y
raster_later p ps x y (inl h) = inl (at_least_one p ps x y h)
raster_later p ps x y (inr h) = inr (between_later p ps x y h)

next_between : (p : Point) (ps : List Point) (x : ℕ) (y : ℤ) → OnNext p ps x y → InRaster (p ∷ ps) x y
next_between p [] x y h = absurd h
next_between p (q ∷ ps) x y h = inr (record { position = 0; first = p; second = q; here = refl; next = refl; pixel = h })

pub raster_of_along : (ps : List Point) (x : ℕ) (y : ℤ) → AlongPoints ps x y → InRaster ps x y
raster_of_along [] x y h = absurd h
raster_of_along (p ∷ ps) x y (inl at) = inl (record { position = 0; point = p; here = refl; pixel = at })
raster_of_along (p ∷ ps) x y (inr (inl on)) = next_between p ps x y on
raster_of_along (p ∷ ps) x y (inr (inr rest)) = raster_later p ps x y (raster_of_along ps x y rest)

along_of_point : (ps : List Point) (n : ℕ) (p : Point) (x : ℕ) (y : ℤ) → slice_get ps n ≡ Some p → IsAt p x y → AlongPoints ps x y
along_of_point [] n p x y e at = absurd (cc)
along_of_point (q ∷ ps) zero p x y e at =
    let P : Point → Type 0 = λ s. IsAt s x y in
    let same : p ≡ q = cc in
    inl (subst P same at)
along_of_point (q ∷ ps) (suc n) p x y e at = inr (inr (along_of_point ps n p x y e at))

along_of_between : (ps : List Point) (n : ℕ) (p q : Point) (x : ℕ) (y : ℤ) → slice_get ps n ≡ Some p → slice_get ps (suc n) ≡ Some q
    → On p q x y → AlongPoints ps x y
along_of_between [] n p q x y e f on = absurd (cc)
along_of_between (a ∷ []) zero p q x y e f on = absurd (cc)
along_of_between (a ∷ (b ∷ ps)) zero p q x y e f on =
    let P : Point → Point → Type 0 = λ s t. On s t x y in
    let first : p ≡ a = cc in
    let second : q ≡ b = cc in
    inr (inl (subst₂ P first second on))
along_of_between (a ∷ ps) (suc n) p q x y e f on = inr (inr (along_of_between ps n p q x y e f on))

pub along_of_raster : (ps : List Point) (x : ℕ) (y : ℤ) → InRaster ps x y → AlongPoints ps x y
along_of_raster ps x y (inl h) = along_of_point ps h.position h.point x y h.here h.pixel
along_of_raster ps x y (inr h) =
    let e : suc h.position ≡ h.position + 1 = omega arith in
    let next : slice_get ps (suc h.position) ≡ Some h.second = ap (slice_get ps) e ∙ h.next in
    along_of_between ps h.position h.first h.second x y h.here next h.pixel

pub raster_along : (ps : List Point) (x : ℕ) (y : ℤ) → InRaster ps x y ↔ AlongPoints ps x y
raster_along ps x y = (along_of_raster ps x y, raster_of_along ps x y)
