-- A point more, in order of time.
use Rattle.std.proofs.Common.{suc, ℕ, ℤ, ◌≡◌, ◌-◌, ◌<◌, ◌≤◌, ◌<ℤ◌, inl, inr, arith, refl, ap, sym, ◌∙◌, subst, List, [], ◌∷◌, ◌++◌, map}
use Rattle.std.proofs.Common.{length, get_or, slice_get, option_map, Option, Some, IfSome, All, AllPairs, length-append}
use Rattle.std.proofs.lemmas.Int.{ints}
use Rattle.std.proofs.lemmas.Bool.{cases_lt}
use Rattle.std.proofs.lemmas.List.{map_push, length-map}
use Rattle.std.proofs.lemmas.List.Elements.{All-head, All-tail, All-map, All-push}
use Rattle.std.proofs.lemmas.List.Kept.{AllPairs-cons}
use Rattle.std.proofs.lemmas.List.Quantifiers.{all_pairs_push}
use Rattle.std.proofs.lemmas.Option.{slice_get-get_or, slice_get-map}
use Rattle.chart_grid.specs.declared.grid.Grid.{Grid}
use Rattle.chart_grid.specs.Projection.{InWindow, column}
use Rattle.chart_grid.proofs.Rising.{column-rising}
use Rattle.line_raster.specs.declared.position.Point.{Point}
use Rattle.m4_groups.specs.declared.row.Row.{Row}
use Rattle.m4_groups.specs.Points.{AreInOrder, spots}
use Rattle.m4_groups.specs.Rows.{AreRowsOf}
use Rattle.m4_groups.specs.Gathered.{Gathered, IsGathered, IsLater}
use Rattle.m4_groups.specs.Folded.{rows_from, put_last}
use Rattle.m4_groups.proofs.Sets.{AllPairs-head, AllPairs-tail, AllPairs-none, GoRight, rows_from-are}
use Rattle.m4_groups.proofs.Unique.{AreRows-one}
use Rattle.m4_groups.proofs.Pushed.{rows_from-push}

-- the points after the first of a list in order
pub order-tail : (g : Grid) (p : ℤ × ℤ) (ps : List (ℤ × ℤ)) → AreInOrder g (p ∷ ps) → AreInOrder g ps
order-tail g p ps o = record {
  shown = All-tail (λ q. InWindow g q.0) p ps o.shown;
  rising = AllPairs-tail (λ a b. a.0 <ℤ b.0) p ps o.rising;
}

-- the columns of points in order don't fall
pub spots-right : (g : Grid) (points : List (ℤ × ℤ)) → AreInOrder g points → GoRight (spots g points)
spots-right g [] o = AllPairs-none (λ p q. p.x ≤ q.x)
spots-right g (p ∷ ps) o =
    let spot : ℤ × ℤ → Point = λ q. record { x = column g q.0; y = q.1 } in
    let shown : InWindow g p.0 = All-head (λ q. InWindow g q.0) p ps o.shown in
    let others : All (λ q. InWindow g q.0) ps = All-tail (λ q. InWindow g q.0) p ps o.shown in
    let later : All (λ q. p.0 <ℤ q.0) ps = AllPairs-head (λ a b. a.0 <ℤ b.0) p ps o.rising in
    AllPairs-cons (λ a b. a.x ≤ b.x) (spot p) (spots g ps)
    (All-map (λ q. column g p.0 ≤ q.x) spot ps
    (λ k d lt. column-rising g p.0 (get_or ps k d).0 shown (others k d lt) (omega (arith, ints, later k d lt))))
    (spots-right g ps (order-tail g p ps o))

-- the rows of points in order are the folded ones
pub rows-folded : (g : Grid) (points : List (ℤ × ℤ)) (rows : List Row) → AreInOrder g points → AreRowsOf g points rows
    → rows ≡ rows_from (spots g points)
rows-folded g points rows o h =
    AreRows-one (spots g points) rows (rows_from (spots g points)) h (rows_from-are (spots g points) (spots-right g points o))

last_time : (points : List (ℤ × ℤ)) (d : ℤ × ℤ) → 0 < length points
    → slice_get (map (λ p. p.0) points) (length points - 1) ≡ Some (get_or points (length points - 1) d).0
last_time points d some =
    slice_get-map (λ p. p.0) points (length points - 1)
    ∙ ap (option_map (λ p. p.0)) (slice_get-get_or points (length points - 1) d (omega (arith, some)))

-- each point is before a time that is later than the latest
all-before : (points : List (ℤ × ℤ)) (l : Option ℤ) (t : ℤ) → AllPairs (λ p q. p.0 <ℤ q.0) points
    → l ≡ slice_get (map (λ p. p.0) points) (length points - 1) → IfSome l (λ u. u <ℤ t) → (k : ℕ) (d : ℤ × ℤ) → k < length points
    → (get_or points k d).0 <ℤ t
all-before points l t rising e later k d lt =
    let P : Option ℤ → Type 0 = λ o. IfSome o (λ u. u <ℤ t) in
    let last : (get_or points (length points - 1) d).0 <ℤ t = subst P (e ∙ last_time points d (omega (arith, lt))) later in
    elim (cases_lt k (length points - 1)) [
      | inl early ↦ omega (arith, ints, last, rising k (length points - 1) d early (omega (arith, lt)))
      | inr late ↦
          let same : k ≡ length points - 1 = omega (arith, late, lt) in
          let Q : ℕ → Type 0 = λ n. (get_or points n d).0 <ℤ t in
          subst Q (sym same) last
    ]

-- the order of a list with a later point
pub order-push : (g : Grid) (points : List (ℤ × ℤ)) (l : Option ℤ) (t v : ℤ) → AreInOrder g points
    → l ≡ slice_get (map (λ p. p.0) points) (length points - 1) → InWindow g t → IfSome l (λ u. u <ℤ t)
    → AreInOrder g (points ++ (t, v) ∷ [])
order-push g points l t v o e shown later = record {
  shown = All-push (λ p. InWindow g p.0) points (t, v) o.shown shown;
  rising = all_pairs_push (λ p q. p.0 <ℤ q.0) points (t, v) o.rising (all-before points l t o.rising e later);
}

last-pushed : (times : List ℤ) (n : ℕ) (t : ℤ) → n ≡ length times → slice_get (times ++ t ∷ []) n ≡ Some t
last-pushed [] n t e = ap (slice_get (t ∷ [])) e
last-pushed (u ∷ us) n t e = ap (slice_get (u ∷ (us ++ t ∷ []))) e ∙ last-pushed us (length us) t refl

latest-push : (points : List (ℤ × ℤ)) (t v : ℤ) → Some t ≡ slice_get (map (λ p. p.0) (points ++ (t, v) ∷ []))
    (length (points ++ (t, v) ∷ []) - 1)
latest-push points t v =
    let times : List ℤ = map (λ p. p.0) points in
    let n : length (points ++ (t, v) ∷ []) - 1 ≡ length times =
    omega (arith, length-append points ((t, v) ∷ []), length-map points (λ p. p.0)) in
    sym (ap (λ l. slice_get l (length (points ++ (t, v) ∷ []) - 1)) (map_push (λ p. p.0) points (t, v))
    ∙ last-pushed times (length (points ++ (t, v) ∷ []) - 1) t n)

-- what was gathered of a list with a point more
pub IsGathered-push : (points : List (ℤ × ℤ)) (s : Gathered) (t v : ℤ) (rows : List Row) → InWindow s.grid t → IsLater s t
    → rows ≡ put_last s.rows (record { x = column s.grid t; y = v }) → IsGathered points s
    → IsGathered (points ++ (t, v) ∷ []) (record { grid = s.grid; rows = rows; latest = Some t })
IsGathered-push points s t v rows shown later e h =
    let g : Grid = s.grid in
    let order : AreInOrder g (points ++ (t, v) ∷ []) = order-push g points s.latest t v h.order h.latest shown later in
    let spot : Point = record { x = column g t; y = v } in
    let folded : rows ≡ rows_from (spots g (points ++ (t, v) ∷ [])) =
    e ∙ ap (λ l. put_last l spot) (rows-folded g points s.rows h.order h.rows)
    ∙ sym (rows_from-push (spots g points) spot)
    ∙ sym (ap rows_from (map_push (λ p. record { x = column g p.0; y = p.1 }) points (t, v))) in
    let P : List Row → Type 0 = λ l. AreRowsOf g (points ++ (t, v) ∷ []) l in
    record {
      order = order;
      rows = subst P (sym folded) (rows_from-are (spots g (points ++ (t, v) ∷ [])) (spots-right g (points ++ (t, v) ∷ []) order));
      latest = latest-push points t v;
    }

-- the last point of a list in order lies in the window
last-shown : (g : Grid) (points : List (ℤ × ℤ)) (t v : ℤ) → AreInOrder g (points ++ (t, v) ∷ []) → InWindow g t
last-shown g [] t v o = All-head (λ q. InWindow g q.0) (t, v) [] o.shown
last-shown g (p ∷ ps) t v o = last-shown g ps t v (order-tail g p (ps ++ (t, v) ∷ []) o)

-- and is later than the one before it
last-later : (g : Grid) (points : List (ℤ × ℤ)) (t v : ℤ) → AreInOrder g (points ++ (t, v) ∷ [])
    → IfSome (slice_get (map (λ p. p.0) points) (length points - 1)) (λ u. u <ℤ t)
last-later g [] t v o = tt
last-later g (p ∷ []) t v o = All-head (λ q. p.0 <ℤ q.0) (t, v) [] (AllPairs-head (λ a b. a.0 <ℤ b.0) p ((t, v) ∷ []) o.rising)
last-later g (p ∷ (q ∷ ps)) t v o =
    let P : ℕ → Type 0 = λ n. IfSome (slice_get (map (λ r. r.0) (p ∷ (q ∷ ps))) n) (λ u. u <ℤ t) in
    let e : suc (length (q ∷ ps) - 1) ≡ length (p ∷ (q ∷ ps)) - 1 = omega arith in
    subst P e (last-later g (q ∷ ps) t v (order-tail g p ((q ∷ ps) ++ (t, v) ∷ []) o))

-- the next point of a list in order may be pushed
pub point-follows : (s : Gathered) (points : List (ℤ × ℤ)) (t v : ℤ) → AreInOrder s.grid (points ++ (t, v) ∷ []) → IsGathered points s
    → InWindow s.grid t × IsLater s t
point-follows s points t v o h =
    let P : Option ℤ → Type 0 = λ l. IfSome l (λ u. u <ℤ t) in
    (last-shown s.grid points t v o, subst P (sym h.latest) (last-later s.grid points t v o))
