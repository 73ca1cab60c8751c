-- The points that a filtered view keeps: in order of time, and where they lie on the canvas.
use Rattle.std.proofs.Common.{ℤ, ◌≡◌, true, false, List, [], ◌∷◌, Option, refl, sym, ap, subst}
use Rattle.std.specs.Prelude.{cond, filter, Bool}
use Rattle.std.proofs.lemmas.List.Elements.{All-filter}
use Rattle.std.proofs.lemmas.List.Kept.{AllPairs-filter}
use Rattle.std.specs.Prelude.{◌<ℤ◌}
use Rattle.chart_grid.specs.declared.grid.Grid.{Grid}
use Rattle.chart_grid.specs.Projection.{InWindow}
use Rattle.m4_groups.specs.Points.{AreInOrder, pixels}
use Rattle.plain_chart.specs.declared.sample.Sample.{Sample}
use Rattle.plain_chart.specs.declared.value_range.ValueRange.{ValueRange}
use Rattle.plain_chart.specs.Chart.{place, places}
use Rattle.value_filter.specs.declared.steps.Step.{Step}
use Rattle.query_rewriter.specs.Kept.{passes}
use Rattle.plain_chart.specs.Samples.{sample_points}

-- whether a filter keeps a point
abbrev Keeps : Option (List Step) → ℤ × ℤ → Bool
Keeps o p = passes o (record { time = p.0; value = p.1 })

abbrev point : Sample → ℤ × ℤ
point s = (s.time, s.value)

kept-points : (o : Option (List Step)) (ss : List Sample) → sample_points (filter (passes o) ss) ≡ filter (Keeps o) (sample_points ss)
kept-points o [] = refl
kept-points o (s ∷ ss) =
    elim (passes o s) as (λ b. sample_points (cond b (s ∷ filter (passes o) ss) (filter (passes o) ss)) ≡ cond b
    (point s ∷ filter (Keeps o) (sample_points ss)) (filter (Keeps o) (sample_points ss))) [
      | true ↦ ap (λ ps. point s ∷ ps) (kept-points o ss)
      | false ↦ kept-points o ss
    ]

-- what is kept of points in order is in order
pub order-kept : (g : Grid) (o : Option (List Step)) (ss : List Sample) → AreInOrder g (sample_points ss)
    → AreInOrder g (sample_points (filter (passes o) ss))
order-kept g o ss order =
    subst (λ (ps : List (ℤ × ℤ)). AreInOrder g ps) (sym (kept-points o ss)) (record {
      shown = All-filter (Keeps o) (λ p. InWindow g p.0) (sample_points ss) order.shown;
      rising = AllPairs-filter (λ p q. p.0 <ℤ q.0) (Keeps o) (sample_points ss) order.rising;
    })

-- the pixels of samples are their places
pub placed : (g : Grid) (range : ValueRange) (ss : List Sample) → pixels g range.lo range.hi (sample_points ss) ≡ places g range ss
placed g range [] = refl
placed g range (s ∷ ss) = ap (λ ps. place g range s ∷ ps) (placed g range ss)
