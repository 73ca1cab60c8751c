-- The boxes of the lowest keys drawn in a column, with those of the rectangles of each two consecutive ones, fill it from
-- the least to the greatest of them.
use Rattle.std.proofs.Common.{ℕ, ℤ, zero, suc, ◌≡◌, ◌≤◌, ◌≤ℤ◌, ◌<ℤ◌, ◌⊎◌, inl, inr, sym, ◌∙◌, subst, arith}
use Rattle.std.specs.Int.{int_min, int_max}
use Rattle.std.proofs.lemmas.Bool.{cases_lt}
use Rattle.std.proofs.lemmas.Int.{ints, by_lt_z}
use Rattle.chart_grid.specs.Projection.{height}
use Rattle.om3_coeff.specs.declared.key.Key.{Key}
use Rattle.om3_coeff.specs.declared.span.Span.{Span}
use Rattle.om3_coeff.specs.Keys.{first_slot, left_of, right_of, IsAtOrAbove}
use Rattle.om3_coeff.proofs.KeyLemmas.{left_first, right_end}
use Rattle.view_keys.specs.Ranges.{IsInRange}
use Rattle.view_keys.proofs.Ranging.{shared-above, first-in_range}
use Rattle.view_cover.specs.Scene.{Scene, IsSeen, IsDrawnIn}
use Rattle.view_cover.specs.Front.{IsLowest, AreConsecutive}
use Rattle.view_cover.specs.Cover.{bottom, top, InRectangle, InCover}
use Rattle.view_cover.proofs.Spans.{Basis}
use Rattle.view_cover.proofs.Trees.{level-same, seen-one, seen-above, left-parent}
use Rattle.view_cover.proofs.Fronts.{lowest-ends, lowest-apart}
use Rattle.view_cover.proofs.Shrinking.{lowest-front}
use Rattle.view_cover.proofs.Listed.{column-between}
use Rattle.view_cover.proofs.Ends.{some-slots, middle-is, below-half, in-halves, HasLast, HasFirst, last-of, first-of}

-- the spans of seen keys are ordered
abbrev pub AreOrdered : Scene → Type 0
AreOrdered scene = (k : Key) (s : Span) → IsSeen scene k s → s.min ≤ℤ s.max

-- one of the two spans reaches down to the row y, and one of them up to it
pub record Reach (scene : Scene) (s t : Span) (y : ℤ) : Type 0 where
  pub down : (bottom scene s ≤ℤ y) ⊎ (bottom scene t ≤ℤ y)
  pub up : (y ≤ℤ top scene s) ⊎ (y ≤ℤ top scene t)

min-left : (a b y : ℤ) → a ≤ℤ y → int_min a b ≤ℤ y
min-left a b y h = grind (arith, ints, h)

min-right : (a b y : ℤ) → b ≤ℤ y → int_min a b ≤ℤ y
min-right a b y h = grind (arith, ints, h)

max-left : (a b y : ℤ) → y ≤ℤ a → y ≤ℤ int_max a b
max-left a b y h = grind (arith, ints, h)

max-right : (a b y : ℤ) → y ≤ℤ b → y ≤ℤ int_max a b
max-right a b y h = grind (arith, ints, h)

reach-rectangle : (scene : Scene) (k l : Key) (s t : Span) (c : ℕ) (y : ℤ) → IsDrawnIn scene.axis scene.grid k c → Reach scene s t y
    → InRectangle scene k s l t c y
reach-rectangle scene k l s t c y drawn r = record {
  columns = record { first = c; first_drawn = inl drawn; from = omega arith; last = c; last_drawn = inl drawn; to = omega arith };
  above = elim r.down [ inl h ↦ min-left (bottom scene s) (bottom scene t) y h | inr h ↦ min-right (bottom scene s) (bottom scene t) y h ];
  below = elim r.up [ inl h ↦ max-left (top scene s) (top scene t) y h | inr h ↦ max-right (top scene s) (top scene t) y h ];
}

-- a lowest key that is drawn in a column
pub record Drawn (scene : Scene) (c : ℕ) (k : Key) (s : Span) : Type 0 where
  pub lowest : IsLowest scene k s
  pub drawn : IsDrawnIn scene.axis scene.grid k c

in-box : (scene : Scene) (c : ℕ) (k : Key) (s : Span) (y : ℤ) → Drawn scene c k s → bottom scene s ≤ℤ y → y ≤ℤ top scene s
    → InCover scene c y
in-box scene c k s y d low high = inl (record {
  key = k;
  span = s;
  front = lowest-front scene k s c d.lowest d.drawn;
  pixel = reach-rectangle scene k k s s c y d.drawn (record { down = inl low; up = inl high });
})

in-join : (scene : Scene) (c : ℕ) (k l : Key) (s t : Span) (y : ℤ) → Drawn scene c k s → Drawn scene c l t → AreConsecutive scene k l
    → Reach scene s t y → InCover scene c y
in-join scene c k l s t y d e next r = inr (record {
  key = k;
  span = s;
  front = lowest-front scene k s c d.lowest d.drawn;
  next = l;
  next_span = t;
  next_front = lowest-front scene l t c e.lowest e.drawn;
  consecutive = next;
  pixel = reach-rectangle scene k l s t c y d.drawn r;
})

-- the last lowest key below the left half and the first one below the right half are consecutive
halves-meet : Basis → (scene : Scene) (k : Key) (s : Span) → 1 ≤ k.level → IsSeen scene k s
    → (f : HasLast scene (left_of k)) (g : HasFirst scene (right_of k)) → AreConsecutive scene f.key g.key
halves-meet by scene k s low seen f g = record {
  order = omega (arith, by.last (left_of k) f.key f.above, middle-is k, by.first (right_of k) g.key g.above);
  none_between = λ m u front from to.
      let inside : IsInRange k (first_slot m) = record {
        from = omega (arith, from, some-slots f.key, by.first (left_of k) f.key f.above, left_first k low);
        to = omega (arith, to, some-slots m, some-slots g.key, by.last (right_of k) g.key g.above, right_end k low);
      } in
      elim (cases_lt k.level m.level) [
        | inl under ↦ lowest-ends by scene m k u s front.lowest seen
            (shared-above m k (first_slot m) (omega (arith, under)) (first-in_range m) inside) under
        | inr over ↦ elim (in-halves scene k m u front.lowest (shared-above k m (first_slot m) over inside (first-in_range m)) (left_of k)
            (seen-above by scene (left_of k) f.key f.span (omega (arith, seen.key.high)) f.above f.lowest.seen).0 (left-parent k low)
            (seen-above by scene (left_of k) f.key f.span (omega (arith, seen.key.high)) f.above f.lowest.seen).1) [
              | inl left ↦ f.none m u front.lowest left from
              | inr right ↦ g.none m u front.lowest right to
            ]
      ];
}

-- the last lowest key of the left half is drawn in the column, where one of each half is
last-drawn : Basis → (scene : Scene) (c : ℕ) (k a b : Key) (s t : Span) → Drawn scene c a s → Drawn scene c b t → IsAtOrAbove (left_of k) a
    → IsAtOrAbove (right_of k) b
    → (f : HasLast scene (left_of k)) → Drawn scene c f.key f.span
last-drawn by scene c k a b s t at_a at_b left right f = record {
  lowest = f.lowest;
  drawn = elim (lowest-apart by scene a f.key s f.span at_a.lowest f.lowest) [
    | inl same ↦ subst (λ (w : Key). IsDrawnIn scene.axis scene.grid w c) same at_a.drawn
    | inr apart ↦ elim apart [
      | inr before ↦ absurd (f.none a s at_a.lowest left before)
      | inl behind ↦ record {
        slot = first_slot f.key;
        in_range = first-in_range f.key;
        in_column = column-between scene.axis scene.grid c at_a.drawn.slot (first_slot f.key) at_b.drawn.slot
            (omega (arith, behind, at_a.drawn.in_range.to))
            (omega (
              arith,
              some-slots f.key,
              by.last (left_of k) f.key f.above,
              middle-is k,
              by.first (right_of k) b right,
              at_b.drawn.in_range.from,
            )) at_a.drawn.in_column at_b.drawn.in_column;
      }
    ]
  ];
}

first-drawn : Basis → (scene : Scene) (c : ℕ) (k a b : Key) (s t : Span) → Drawn scene c a s → Drawn scene c b t → IsAtOrAbove (left_of k) a
    → IsAtOrAbove (right_of k) b
    → (g : HasFirst scene (right_of k)) → Drawn scene c g.key g.span
first-drawn by scene c k a b s t at_a at_b left right g = record {
  lowest = g.lowest;
  drawn = elim (lowest-apart by scene g.key b g.span t g.lowest at_b.lowest) [
    | inl same ↦ subst (λ (w : Key). IsDrawnIn scene.axis scene.grid w c) (sym same) at_b.drawn
    | inr apart ↦ elim apart [
      | inr before ↦ absurd (g.none b t at_b.lowest right before)
      | inl behind ↦ record {
        slot = first_slot g.key;
        in_range = first-in_range g.key;
        in_column = column-between scene.axis scene.grid c at_a.drawn.slot (first_slot g.key) at_b.drawn.slot
            (omega (arith, at_a.drawn.in_range.to, by.last (left_of k) a left, middle-is k, by.first (right_of k) g.key g.above))
            (omega (arith, some-slots g.key, behind, at_b.drawn.in_range.from)) at_a.drawn.in_column at_b.drawn.in_column;
      }
    ]
  ];
}

int-cases : (a b : ℤ) → (a ≤ℤ b) ⊎ (b <ℤ a)
int-cases a b = by_lt_z b a inr inl

-- Between a lowest key on the left and one on the right: where three parts fill the rows between their ends, all is filled.
chain : (scene : Scene) → AreOrdered scene → ((u v : ℤ) → u ≤ℤ v
    → height u scene.lo scene.hi scene.grid.h ≤ℤ height v scene.lo scene.hi scene.grid.h)
    → (c : ℕ) (f g : Key) (s p q t : Span) (y : ℤ) → Drawn scene c f p → Drawn scene c g q
    → (Reach scene s p y → InCover scene c y) → (Reach scene p q y → InCover scene c y) → (Reach scene q t y → InCover scene c y)
    → Reach scene s t y → InCover scene c y
chain scene ordered rise c f g s p q t y at_f at_g first second third r =
    let p_rows : bottom scene p ≤ℤ top scene p = rise p.min p.max (ordered f p at_f.lowest.seen) in
    let q_rows : bottom scene q ≤ℤ top scene q = rise q.min q.max (ordered g q at_g.lowest.seen) in
    elim r.down [
      | inl s_low ↦ elim r.up [
        | inl s_high ↦ first (record { down = inl s_low; up = inl s_high })
        | inr t_high ↦ elim (int-cases y (top scene p)) [
          | inl p_high ↦ first (record { down = inl s_low; up = inr p_high })
          | inr p_less ↦ elim (int-cases y (top scene q)) [
            | inl q_high ↦ second (record { down = inl (omega (arith, ints, p_rows, p_less)); up = inr q_high })
            | inr q_less ↦ third (record { down = inl (omega (arith, ints, q_rows, q_less)); up = inr t_high })
          ]
        ]
      ]
      | inr t_low ↦ elim r.up [
        | inr t_high ↦ third (record { down = inr t_low; up = inr t_high })
        | inl s_high ↦ elim (int-cases (bottom scene p) y) [
          | inl p_low ↦ first (record { down = inr p_low; up = inl s_high })
          | inr p_more ↦ elim (int-cases (bottom scene q) y) [
            | inl q_low ↦ second (record { down = inr q_low; up = inl (omega (arith, ints, p_rows, p_more)) })
            | inr q_more ↦ third (record { down = inr t_low; up = inl (omega (arith, ints, q_rows, q_more)) })
          ]
        ]
      ]
    ]

-- what is filled below a key
abbrev Fills : Scene → ℕ → ℤ → ℕ → Type 0
Fills scene c y n = (k : Key) (s : Span) → k.level ≤ n → IsSeen scene k s → (a b : Key) (t u : Span) → Drawn scene c a t → Drawn scene c b u
    → IsAtOrAbove k a → IsAtOrAbove k b → Reach scene t u y → InCover scene c y

reach-turned : (scene : Scene) (s t : Span) (y : ℤ) → Reach scene s t y → Reach scene t s y
reach-turned scene s t y r = record {
  down = elim r.down [ inl h ↦ inr h | inr h ↦ inl h ];
  up = elim r.up [ inl h ↦ inr h | inr h ↦ inl h ];
}

fill-one : (scene : Scene) (c : ℕ) (y : ℤ) (a b : Key) (t u : Span) → Drawn scene c a t → Drawn scene c b u → a ≡ b → Reach scene t u y
    → InCover scene c y
fill-one scene c y a b t u at_a at_b same r =
    let one : IsSeen scene a u = subst (λ (w : Key). IsSeen scene w u) (sym same) at_b.lowest.seen in
    let spans : u ≡ t = seen-one scene a u t one at_a.lowest.seen in
    let here : Reach scene t t y = subst (λ (v : Span). Reach scene t v y) spans r in
    in-box scene c a t y at_a (elim here.down [ inl h ↦ h | inr h ↦ h ]) (elim here.up [ inl h ↦ h | inr h ↦ h ])

fill-across : Basis → (scene : Scene) → AreOrdered scene → (c : ℕ) (y : ℤ) (n : ℕ) → Fills scene c y n → (k : Key) (s : Span)
    → k.level ≤ suc n → 1 ≤ k.level → IsSeen scene k s
    → (a b : Key) (t u : Span) → Drawn scene c a t → Drawn scene c b u → IsAtOrAbove (left_of k) a → IsAtOrAbove (right_of k) b
    → Reach scene t u y → InCover scene c y
fill-across by scene ordered c y n fills k s few low seen a b t u at_a at_b left right r =
    let l = seen-above by scene (left_of k) a t (omega (arith, seen.key.high)) left at_a.lowest.seen in
    let h = seen-above by scene (right_of k) b u (omega (arith, seen.key.high)) right at_b.lowest.seen in
    let f : HasLast scene (left_of k) = last-of by scene (left_of k) l.0 l.1 in
    let g : HasFirst scene (right_of k) = first-of by scene (right_of k) h.0 h.1 in
    let at_f = last-drawn by scene c k a b t u at_a at_b left right f in
    let at_g = first-drawn by scene c k a b t u at_a at_b left right g in
    chain scene ordered (λ v w. by.heights v w scene.lo scene.hi scene.grid.h) c f.key g.key t f.span g.span u y at_f at_g
    (λ q. fills (left_of k) l.0 (omega (arith, few, low)) l.1 a f.key t f.span at_a at_f left f.above q)
    (λ q. in-join scene c f.key g.key f.span g.span y at_f at_g (halves-meet by scene k s low seen f g) q)
    (λ q. fills (right_of k) h.0 (omega (arith, few, low)) h.1 g.key b g.span u at_g at_b g.above right q)
    r

fill-halves : Basis → (scene : Scene) → AreOrdered scene → (c : ℕ) (y : ℤ) (n : ℕ) → Fills scene c y n → (k : Key) (s : Span)
    → k.level ≤ suc n → 1 ≤ k.level → IsSeen scene k s
    → (a b : Key) (t u : Span) → Drawn scene c a t → Drawn scene c b u → IsAtOrAbove (left_of k) a ⊎ IsAtOrAbove (right_of k) a
    → IsAtOrAbove (left_of k) b ⊎ IsAtOrAbove (right_of k) b
    → Reach scene t u y → InCover scene c y
fill-halves by scene ordered c y n fills k s few low seen a b t u at_a at_b (inl left) (inl left_b) r =
    let l = seen-above by scene (left_of k) a t (omega (arith, seen.key.high)) left at_a.lowest.seen in
    fills (left_of k) l.0 (omega (arith, few, low)) l.1 a b t u at_a at_b left left_b r
fill-halves by scene ordered c y n fills k s few low seen a b t u at_a at_b (inr right) (inr right_b) r =
    let h = seen-above by scene (right_of k) a t (omega (arith, seen.key.high)) right at_a.lowest.seen in
    fills (right_of k) h.0 (omega (arith, few, low)) h.1 a b t u at_a at_b right right_b r
fill-halves by scene ordered c y n fills k s few low seen a b t u at_a at_b (inl left) (inr right) r =
    fill-across by scene ordered c y n fills k s few low seen a b t u at_a at_b left right r
fill-halves by scene ordered c y n fills k s few low seen a b t u at_a at_b (inr right) (inl left) r =
    fill-across by scene ordered c y n fills k s few low seen b a u t at_b at_a left right (reach-turned scene t u y r)

-- a key below a lowest one is that one
under-lowest : Basis → (scene : Scene) (k b : Key) (s u : Span) → IsLowest scene k s → IsSeen scene b u → IsAtOrAbove k b → k ≡ b
under-lowest by scene k b s u low seen above =
    elim (cases_lt b.level k.level) [
      | inl under ↦ absurd (lowest-ends by scene k b s u low seen above under)
      | inr same ↦ level-same k b above same
    ]

fill-step : Basis → (scene : Scene) → AreOrdered scene → (c : ℕ) (y : ℤ) (n : ℕ) → Fills scene c y n → Fills scene c y (suc n)
fill-step by scene ordered c y n fills k s few seen a b t u at_a at_b above_a above_b r =
    elim (cases_lt a.level k.level) [
      | inr high ↦
          (let same : k ≡ a = level-same k a above_a high in
          fill-one scene c y a b t u at_a at_b
          (under-lowest by scene a b t u at_a.lowest at_b.lowest.seen (subst (λ (w : Key). IsAtOrAbove w b) same above_b)) r)
      | inl under ↦
          (let low : 1 ≤ k.level = omega (arith, under) in
          elim (cases_lt b.level k.level) [
            | inr high ↦
                (let same : k ≡ b = level-same k b above_b high in
                fill-one scene c y a b t u at_a at_b
                (sym (under-lowest by scene b a u t at_b.lowest at_a.lowest.seen (subst (λ (w : Key). IsAtOrAbove w a) same above_a))) r)
            | inl under_b ↦ fill-halves by scene ordered c y n fills k s few low seen a b t u at_a at_b (below-half k a under above_a)
                (below-half k b under_b above_b) r
          ])
    ]

fill-down : Basis → (scene : Scene) → AreOrdered scene → (c : ℕ) (y : ℤ) (n : ℕ) → Fills scene c y n
fill-down by scene ordered c y zero k s few seen a b t u at_a at_b above_a above_b r =
    fill-one scene c y a b t u at_a at_b (sym (level-same k a above_a (omega (arith, few))) ∙ level-same k b above_b (omega (arith, few))) r
fill-down by scene ordered c y (suc n) k s few seen a b t u at_a at_b above_a above_b r =
    fill-step by scene ordered c y n (fill-down by scene ordered c y n) k s few seen a b t u at_a at_b above_a above_b r

-- The column is filled between two lowest keys that are drawn in it.
pub fills-column : Basis → (scene : Scene) → AreOrdered scene → (c : ℕ) (y : ℤ) (k : Key) (s : Span) → IsSeen scene k s
    → (a b : Key) (t u : Span) → Drawn scene c a t → Drawn scene c b u
    → IsAtOrAbove k a → IsAtOrAbove k b → Reach scene t u y → InCover scene c y
fills-column by scene ordered c y k s seen a b t u at_a at_b above_a above_b r =
    fill-down by scene ordered c y k.level k s (omega arith) seen a b t u at_a at_b above_a above_b r
