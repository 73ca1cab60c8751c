-- The last row.
use Rattle.std.proofs.Common.{ℕ, ℤ, zero, suc, set, ◌≡◌, ◌≢◌, ◌+◌, ◌<◌, ◌≤ℤ◌, ◌<ℤ◌, ◌↔◌, arith, refl, subst, length, get_or, ap, sym, ◌∙◌}
use Rattle.std.proofs.Common.{List, [], ◌∷◌, ◌++◌, Option, Some, true, false, cond, ◌==◌, eqb-true}
use Rattle.chart_grid.specs.declared.grid.Grid.{Grid}
use Rattle.chart_grid.specs.Projection.{InWindow, column}
use Rattle.chart_grid.specs.Slots.{border}
use Rattle.chart_grid.proofs.Rising.{column-between}
use Rattle.line_raster.specs.declared.position.Point.{Point}
use Rattle.m4_groups.specs.declared.row.Row.{Row}
use Rattle.m4_groups.specs.Folded.{row_of_one, row_to, end_with, put_last}
use Rattle.m4_groups.specs.Spanned.{last_column}
use Rattle.m4_groups.proofs.Pushed.{put_last-same}

-- rows with a last one are some
pub some_rows : (rs : List Row) (c : ℕ) → last_column rs ≡ Some c → 0 < length rs
some_rows [] c e = cc
some_rows (r ∷ rs) c e = omega arith

-- the last row has the last column
last_row : (rs : List Row) (n c : ℕ) (d : Row) → length rs ≡ suc n → last_column rs ≡ Some c → (get_or rs n d).column ≡ c
last_row [] n c d l e = cc
last_row (r ∷ []) zero c d l e = cc
last_row (r ∷ []) (suc n) c d l e = absurd (omega (arith, l))
last_row (r ∷ (q ∷ rs)) zero c d l e = absurd (omega (arith, l))
last_row (r ∷ (q ∷ rs)) (suc n) c d l e = last_row (q ∷ rs) n c d (omega (arith, l)) e

end_column : (r : Row) (s : Point) → last_column (end_with r s) ≡ Some s.x
end_column r s =
    elim (s.x == r.column) as (λ b. (s.x == r.column) ≡ b → last_column (cond b (row_to r s.y ∷ []) (r ∷ (row_of_one s ∷ []))) ≡ Some s.x) [
      | true ↦ λ e. ap Some (sym (eqb-true s.x r.column e))
      | false ↦ λ e. refl
    ] refl

behind : (r : Row) (rs : List Row) (c : ℕ) → last_column rs ≡ Some c → last_column (r ∷ rs) ≡ Some c
behind r [] c e = cc
behind r (q ∷ rs) c e = e

-- the last row with a point is that of the point's column
put_column : (rs : List Row) (s : Point) → last_column (put_last rs s) ≡ Some s.x
put_column [] s = refl
put_column (r ∷ []) s = end_column r s
put_column (r ∷ (q ∷ rs)) s = behind r (put_last (q ∷ rs) s) s.x (put_column (q ∷ rs) s)

-- a point of another column than the last row's gets a row of its own
pub put_last-new : (rs : List Row) (s : Point) → (last_column rs ≡ Some s.x → ⊥) → put_last rs s ≡ rs ++ row_of_one s ∷ []
put_last-new [] s other = refl
put_last-new (r ∷ []) s other =
    elim (s.x == r.column) as (λ b. (s.x == r.column) ≡ b
    → cond b (row_to r s.y ∷ []) (r ∷ (row_of_one s ∷ [])) ≡ r ∷ (row_of_one s ∷ [])) [
      | true ↦ λ e. absurd (other (ap Some (sym (eqb-true s.x r.column e))))
      | false ↦ λ e. refl
    ] refl
put_last-new (r ∷ (q ∷ rs)) s other = ap (λ l. r ∷ l) (put_last-new (q ∷ rs) s other)

-- a point of the last row's column changes that row alone
pub put_last-own : (rs : List Row) (n c : ℕ) (v : ℤ) (r : Row) → length rs ≡ suc n → r ≡ get_or rs n r → last_column rs ≡ Some c
    → put_last rs (record { x = c; y = v }) ≡ set rs n (row_to r v)
put_last-own rs n c v r l er e =
    put_last-same rs n (record { x = c; y = v }) r l er (sym (ap (λ (q : Row). q.column) er ∙ last_row rs n c r l e))

-- rows with a row of one point behind them are the rows with that point
pub new_rows : (rs new : List Row) (c x : ℕ) (v : ℤ) (r : Row) → c ≡ x → last_column rs ≢ Some x → r ≡ row_of_one (record { x = c; y = v })
    → new ≡ rs ++ r ∷ [] → new ≡ put_last rs (record { x = x; y = v })
new_rows rs new c x v r c_is other r_is new_is =
    new_is ∙ ap (λ q. rs ++ q ∷ []) (r_is ∙ ap (λ k. row_of_one (record { x = k; y = v })) c_is)
    ∙ sym (put_last-new rs (record { x = x; y = v }) other)

abbrev pub Owns : Grid → List Row → ℤ → ℤ → Type 0
Owns g rows from next = (t : ℤ) → InWindow g t → ((from ≤ℤ t) × (t <ℤ next)) ↔ (last_column rows ≡ Some (column g t))

-- a point of the last row's column leaves its ends
pub owns_more : (g : Grid) (rows new : List Row) (from next t v : ℤ) → Owns g rows from next → last_column rows ≡ Some (column g t)
    → new ≡ put_last rows (record { x = column g t; y = v }) → Owns g new from next
owns_more g rows new from next t v owns own is = λ u shown.
    let same : last_column rows ≡ last_column new = own ∙ sym (ap last_column is ∙ put_column rows (record { x = column g t; y = v })) in
    let P : Option ℕ → Type 0 = λ o. ((from ≤ℤ u) × (u <ℤ next)) ↔ (o ≡ Some (column g u)) in
    subst P same (owns u shown)

inside_some : (a b : ℕ) → Some a ≡ Some b → a ≡ b
inside_some a b e = cc

-- a point of another column brings that column's ends
pub owns_new : (g : Grid) (rows new : List Row) (from next t v : ℤ) → from ≡ border g (column g t) → next ≡ border g (column g t + 1)
    → new ≡ put_last rows (record { x = column g t; y = v }) → Owns g new from next
owns_new g rows new from next t v begins ends is = λ u shown.
    let last : last_column new ≡ Some (column g t) = ap last_column is ∙ put_column rows (record { x = column g t; y = v }) in
    let between = column-between g (column g t) u shown in
    let F : ℤ → Type 0 = λ z. (z ≤ℤ u) × (u <ℤ border g (column g t + 1)) in
    let N : ℤ → Type 0 = λ z. (from ≤ℤ u) × (u <ℤ z) in (
      (λ h. last ∙ ap Some (sym (between.1 (subst F begins (subst N ends h))))),
      (λ h. subst N (sym ends) (subst F (sym begins) (between.0 (sym (inside_some (column g t) (column g u) (sym last ∙ h)))))),
    )
