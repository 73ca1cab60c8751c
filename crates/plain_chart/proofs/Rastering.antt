-- The raster of a list of points, one point more.
use Rattle.std.proofs.Common.{◌≡◌, ℕ, ℤ, ◌+◌, ◌-◌, ◌*◌, ◌/◌, ◌<◌, ◌≤◌, ◌-ℤ◌, ◌↔◌, ◌⊎◌, inl, inr, List, [], ◌∷◌, ◌++◌, length, get_or}
use Rattle.std.proofs.Common.{Option, None, Some, sym, ap, subst, ◌∙◌, refl, arith, length-append}
use Rattle.std.proofs.Math.ListN.{get_or-append}
use Rattle.std.proofs.Math.Seq.{get_or-append_seam}
use Rattle.std.proofs.lemmas.Int.{ints}
use Rattle.std.proofs.lemmas.Bool.{cases_lt}
use Rattle.std.proofs.lemmas.Nat.{div-mul-add}
use Rattle.std.proofs.Math.Nat.{mul_comm}
use Rattle.std.proofs.lemmas.Option.{slice_get_within, slice_get-get_or, get_or_from_slice_get}
use Rattle.std.specs.Prelude.{slice_get, unsigned_abs}
use Rattle.line_raster.specs.declared.position.Point.{Point}
use Rattle.line_raster.specs.Segment.{On, columns, rows, share, towards}
use Rattle.line_raster.specs.Raster.{InRaster, IsAt, IsPoint, IsBetween}
use Rattle.plain_chart.specs.Chart.{OnFrom, last_of}

-- all steps' share is the whole distance
share_all : (m d : ℕ) → 0 < m → share m d m ≡ d
share_all m d some =
    let same : 2 * m * d + m ≡ d * (2 * m) + m = omega (arith, mul_comm d (2 * m)) in
    ap (λ n. n / (2 * m)) same ∙ div-mul-add d (2 * m) m (omega (arith, some))

-- all rows from one height towards another lead there
towards_all : (a b : ℤ) → towards a b (unsigned_abs (b -ℤ a)) ≡ b
towards_all a b = grind (arith, ints)

no_rows : (a b : ℤ) → unsigned_abs (b -ℤ a) ≡ 0 → b ≡ a
no_rows a b none = grind (arith, ints)

end_high : (p q : Point) → p.x ≤ q.x → columns p q < rows p q → (x : ℕ) (y : ℤ) → IsAt q x y → On p q x y
end_high p q order high x y at =
    inr (inr (record {
      high = high;
      n = rows p q;
      reached = omega arith;
      row = at.row ∙ sym (towards_all p.y q.y);
      column = omega (arith, at.column, share_all (rows p q) (columns p q) (omega (arith, high)));
    }))

end_wide : (p q : Point) → p.x ≤ q.x → rows p q ≤ columns p q → 0 < columns p q → (x : ℕ) (y : ℤ) → IsAt q x y → On p q x y
end_wide p q order wide some x y at =
    inr (inl (record {
      wide = wide;
      some = some;
      n = columns p q;
      reached = omega arith;
      column = omega (arith, at.column);
      row = at.row ∙ sym (ap (towards p.y q.y) (share_all (columns p q) (rows p q) some) ∙ towards_all p.y q.y);
    }))

end_dot : (p q : Point) → p.x ≤ q.x → columns p q ≡ 0 → rows p q ≡ 0 → (x : ℕ) (y : ℤ) → IsAt q x y → On p q x y
end_dot p q order no_columns none x y at =
    inl (record {
      no_columns = no_columns;
      no_rows = none;
      column = omega (arith, at.column);
      row = at.row ∙ no_rows p.y q.y none;
    })

-- the segment from a point to itself is the point
pub on_itself : (p : Point) (x : ℕ) (y : ℤ) → On p p x y ↔ IsAt p x y
on_itself p x y = (
  λ on. there on,
  λ at. inl (record {
    no_columns = omega arith;
    no_rows = omega (arith, ints);
    column = at.column;
    row = at.row;
  }),
)
  where
    there : On p p x y → IsAt p x y
    there (inl dot) = record { column = dot.column; row = dot.row }
    there (inr (inl wide)) = absurd (omega (arith, wide.some))
    there (inr (inr high)) = absurd (omega (arith, ints, high.high))

-- the last point of a segment lies on it
pub on_end : (p q : Point) → p.x ≤ q.x → (x : ℕ) (y : ℤ) → IsAt q x y → On p q x y
on_end p q order x y at =
    elim (cases_lt (columns p q) (rows p q)) [
      | inl high ↦ end_high p q order high x y at
      | inr wide ↦ elim (cases_lt 0 (columns p q)) [
        | inl some ↦ end_wide p q order wide some x y at
        | inr none ↦ end_dot p q order (omega (arith, none)) (omega (arith, none, wide)) x y at
      ]
    ]

-- an element of the list with one more is an old one or that one
in_more : (ps : List Point) (q r : Point) (i : ℕ) → slice_get (ps ++ q ∷ []) i ≡ Some r
    → ((i < length ps) × (slice_get ps i ≡ Some r)) ⊎ ((i ≡ length ps) × (r ≡ q))
in_more ps q r i is =
    let within : i < length (ps ++ q ∷ []) = slice_get_within (ps ++ q ∷ []) i r is in
    let here : get_or (ps ++ q ∷ []) i r ≡ r = get_or_from_slice_get (ps ++ q ∷ []) i r r is in
    elim (cases_lt i (length ps)) [
      | inl old ↦ inl (old, slice_get-get_or ps i r old ∙ ap Some (sym (get_or-append ps (q ∷ []) r i old) ∙ here))
      | inr new ↦
          let at : i ≡ length ps = omega (arith, within, new, length-append ps (q ∷ [])) in
          let P : ℕ → Type 0 = λ k. get_or (ps ++ q ∷ []) k r ≡ r in
          inr (at, sym (subst P at here) ∙ get_or-append_seam ps q [] r)
    ]

old_in_more : (ps : List Point) (q r : Point) (i : ℕ) → slice_get ps i ≡ Some r → slice_get (ps ++ q ∷ []) i ≡ Some r
old_in_more ps q r i is =
    let within : i < length ps = slice_get_within ps i r is in
    let more : i < length (ps ++ q ∷ []) = omega (arith, within, length-append ps (q ∷ [])) in
    slice_get-get_or (ps ++ q ∷ []) i r more ∙ ap Some (get_or-append ps (q ∷ []) r i within ∙ get_or_from_slice_get ps i r r is)

pub new_in_more : {X : Type 0} (ps : List X) (q : X) → slice_get (ps ++ q ∷ []) (length ps) ≡ Some q
new_in_more ps q =
    let more : length ps < length (ps ++ q ∷ []) = omega (arith, length-append ps (q ∷ [])) in
    slice_get-get_or (ps ++ q ∷ []) (length ps) q more ∙ ap Some (get_or-append_seam ps q [] q)

from_point : (ps : List Point) (q : Point) (last : Option Point) → ((p : Point) → last ≡ Some p → p.x ≤ q.x) → (x : ℕ) (y : ℤ) → IsAt q x y
    → OnFrom last q x y
from_point ps q None order x y at = at
from_point ps q (Some p) order x y at = on_end p q (order p refl) x y at

more_point : (ps : List Point) (q : Point) (last : Option Point) → ((p : Point) → last ≡ Some p → p.x ≤ q.x) → (x : ℕ) (y : ℤ)
    → IsPoint (ps ++ q ∷ []) x y → InRaster ps x y ⊎ OnFrom last q x y
more_point ps q last order x y h =
    elim (in_more ps q h.point h.position h.here) [
      | inl old ↦ inl (inl (record { position = h.position; point = h.point; here = old.1; pixel = h.pixel }))
      | inr new ↦
          let P : Point → Type 0 = λ r. IsAt r x y in
          inr (from_point ps q last order x y (subst P new.1 h.pixel))
    ]

more_between : (ps : List Point) (q : Point) (last : Option Point) → last ≡ last_of ps → (x : ℕ) (y : ℤ) → IsBetween (ps ++ q ∷ []) x y
    → InRaster ps x y ⊎ OnFrom last q x y
more_between ps q last is x y h =
    elim (in_more ps q h.second (h.position + 1) h.next) [
      | inl old ↦ elim (in_more ps q h.first h.position h.here) [
        | inl first ↦ inl (inr (record {
          position = h.position;
          first = h.first;
          second = h.second;
          here = first.1;
          next = old.1;
          pixel = h.pixel;
        }))
        | inr none ↦ absurd (omega (arith, old.0, none.0))
      ]
      | inr new ↦ elim (in_more ps q h.first h.position h.here) [
        | inl first ↦
            let at : h.position ≡ length ps - 1 = omega (arith, new.0) in
            let I : ℕ → Type 0 = λ i. slice_get ps i ≡ Some h.first in
            let L : Option Point → Type 0 = λ l. OnFrom l q x y in
            let Q : Point → Type 0 = λ r. On h.first r x y in
            inr (subst L (sym (is ∙ subst I at first.1)) (subst Q new.1 h.pixel))
        | inr none ↦ absurd (omega (arith, new.0, none.0))
      ]
    ]

from_last : (ps : List Point) (q : Point) (last : Option Point) → last ≡ last_of ps → (x : ℕ) (y : ℤ) → OnFrom last q x y
    → InRaster (ps ++ q ∷ []) x y
from_last ps q None is x y at = inl (record { position = length ps; point = q; here = new_in_more ps q; pixel = at })
from_last ps q (Some p) is x y on =
    let within : length ps - 1 < length ps = slice_get_within ps (length ps - 1) p (sym is) in
    let at : length ps ≡ length ps - 1 + 1 = omega (arith, within) in
    let N : ℕ → Type 0 = λ i. slice_get (ps ++ q ∷ []) i ≡ Some q in
    inr (record {
      position = length ps - 1;
      first = p;
      second = q;
      here = old_in_more ps q p (length ps - 1) (sym is);
      next = subst N at (new_in_more ps q);
      pixel = on;
    })

in_old : (ps : List Point) (q : Point) (x : ℕ) (y : ℤ) → InRaster ps x y → InRaster (ps ++ q ∷ []) x y
in_old ps q x y (inl h) = inl (record {
  position = h.position;
  point = h.point;
  here = old_in_more ps q h.point h.position h.here;
  pixel = h.pixel;
})
in_old ps q x y (inr h) =
    inr (record {
      position = h.position;
      first = h.first;
      second = h.second;
      here = old_in_more ps q h.first h.position h.here;
      next = old_in_more ps q h.second (h.position + 1) h.next;
      pixel = h.pixel;
    })

-- the raster of one point more is the raster so far and the segment to that point
pub raster_more : (ps : List Point) (q : Point) (last : Option Point) → last ≡ last_of ps → ((p : Point) → last ≡ Some p → p.x ≤ q.x)
    → (x : ℕ) (y : ℤ) → (InRaster ps x y ⊎ OnFrom last q x y) ↔ InRaster (ps ++ q ∷ []) x y
raster_more ps q last is order x y = (
  (λ h. elim h [ inl old ↦ in_old ps q x y old | inr next ↦ from_last ps q last is x y next ]),
  (λ h. elim h [ inl point ↦ more_point ps q last order x y point | inr between ↦ more_between ps q last is x y between ]),
)
