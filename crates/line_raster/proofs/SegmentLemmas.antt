use Rattle.std.proofs.Common.{◌≡◌, ℕ, ℤ, pos, negsuc, ◌+◌, ◌*◌, ◌<◌, ◌≤◌, ◌+ℤ◌, ◌-ℤ◌, ◌≤ℤ◌, ◌<ℤ◌, ◌↔◌, refl, sym, ◌∙◌, inl, inr, arith}
use Rattle.std.proofs.Common.{unsigned_abs}
use Rattle.std.proofs.lemmas.Int.{ints}
use Rattle.std.proofs.lemmas.Bool.{cases_lt}
use Rattle.std.proofs.lemmas.Nat.{div_below}
use Rattle.std.proofs.Math.Nat.{mul-le-mul_right}
use Rattle.line_raster.specs.declared.position.Point.{Point}
use Rattle.line_raster.specs.Segment.{columns, rows, share, towards, InRow, InFill}
use Rattle.line_raster.specs.Run.{InRun, IsCut}

-- the rows between two cuts are a steep segment's pixels in a column
pub steep_run : (p q : Point) (from to : ℤ) (x k first end : ℕ) → from ≡ p.y → to ≡ q.y → columns p q < rows p q → p.x + k ≡ x
    → end ≤ rows p q + 1 → IsCut (rows p q) (columns p q) first k → IsCut (rows p q) (columns p q) end (k + 1) → (a : ℕ) (b : ℤ)
    → ((a ≡ x) × InRun from to first end b) ↔ (InRow p q a b × (a ≡ x))
steep_run p q from to x k first end is_from is_to high column bound begun ended a b = (
  (λ h.
      let within : h.1.n ≤ rows p q = omega (arith, bound, h.1.short) in
      let below : share (rows p q) (columns p q) h.1.n < k + 1 = (ended h.1.n within).0 h.1.short in
      let above : k ≤ share (rows p q) (columns p q) h.1.n =
      elim (cases_lt (share (rows p q) (columns p q) h.1.n) k) [
        | inl left ↦ (let early : h.1.n < first = (begun h.1.n within).1 left in
            absurd (omega (arith, early, h.1.begun)))
        | inr right ↦ right
      ] in
      let level : b ≡ towards p.y q.y h.1.n = h.1.row ∙ (λ t. towards (is_from t) (is_to t) h.1.n) in
      (record { high = high; n = h.1.n; reached = within; row = level; column = omega (arith, h.0, column, below, above) }, h.0)),
  (λ h.
      let at : share (rows p q) (columns p q) h.0.n ≡ k = omega (arith, h.0.column, h.1, column) in (
        h.1,
        record {
          n = h.0.n;
          begun = elim (cases_lt h.0.n first) [
            | inl early ↦
                (let left : share (rows p q) (columns p q) h.0.n < k = (begun h.0.n h.0.reached).0 early in
                absurd (omega (arith, left, at)))
            | inr late ↦ late
          ];
          short = (ended h.0.n h.0.reached).1 (omega (arith, at));
          row = h.0.row ∙ (λ t. towards (sym is_from t) (sym is_to t) h.0.n);
        },
      )),
)

-- a share is no more than the whole
pub share-le : (most distance n : ℕ) → 0 < most → n ≤ most → share most distance n ≤ distance
share-le most distance n some reached =
    let part : n * distance ≤ most * distance = mul-le-mul_right distance reached in
    let below : share most distance n < distance + 1 = div_below (2 * n * distance + most) (2 * most) (distance + 1) (omega arith)
    (omega (arith, part)) in
    omega (arith, below)

-- the pixels of a steep segment too
pub steep_within : (p q : Point) (a : ℕ) (b : ℤ) → p.x ≤ q.x → InRow p q a b → (p.x ≤ a) × (a < q.x + 1)
steep_within p q a b order h =
    let part = share-le (rows p q) (columns p q) h.n (omega (arith, h.high)) h.reached in
    (omega (arith, h.column), omega (arith, h.column, part))

-- an integer that isn't negative is a number of rows
size_of : (z : ℤ) → pos 0 ≤ℤ z → pos (unsigned_abs z) ≡ z
size_of (pos n) h = refl
size_of (negsuc n) h = absurd (omega (arith, ints, h))

-- towards a row below
pub towards_down : (from to : ℤ) (n : ℕ) → to <ℤ from → towards from to n ≡ from -ℤ pos n
towards_down from to n down = grind (arith, ints)

-- towards a row that isn't below
pub towards_up : (from to : ℤ) (n : ℕ) → from ≤ℤ to → towards from to n ≡ from +ℤ pos n
towards_up from to n up = grind (arith, ints)

-- a run of rows downwards
pub run_down : (from to : ℤ) (first end x : ℕ) (low high : ℤ) → to <ℤ from → low ≡ (from -ℤ pos end) +ℤ pos 1 → high ≡ from -ℤ pos first
    → (a : ℕ) (b : ℤ) → InFill x low high a b ↔ ((a ≡ x) × InRun from to first end b)
run_down from to first end x low high down is_low is_high a b = (
  (λ h.
      let n : ℕ = unsigned_abs (from -ℤ b) in
      let e : pos n ≡ from -ℤ b = size_of (from -ℤ b) (omega (arith, ints, h.below, is_high)) in (
        h.here,
        record {
          n = n;
          begun = omega (arith, ints, e, h.below, is_high);
          short = omega (arith, ints, e, h.above, is_low);
          row = (let level : b ≡ from -ℤ pos n = omega (arith, ints, e) in level ∙ sym (towards_down from to n down));
        },
      )),
  (λ h.
      let level : b ≡ from -ℤ pos h.1.n = h.1.row ∙ towards_down from to h.1.n down in
      record { here = h.0; above = omega (arith, ints, level, is_low, h.1.short); below = omega (arith, ints, level, is_high, h.1.begun) }),
)

-- a run of rows upwards
pub run_up : (from to : ℤ) (first end x : ℕ) (low high : ℤ) → from ≤ℤ to → low ≡ from +ℤ pos first → high ≡ (from +ℤ pos end) -ℤ pos 1
    → (a : ℕ) (b : ℤ) → InFill x low high a b ↔ ((a ≡ x) × InRun from to first end b)
run_up from to first end x low high up is_low is_high a b = (
  (λ h.
      let n : ℕ = unsigned_abs (b -ℤ from) in
      let e : pos n ≡ b -ℤ from = size_of (b -ℤ from) (omega (arith, ints, h.above, is_low)) in (
        h.here,
        record {
          n = n;
          begun = omega (arith, ints, e, h.above, is_low);
          short = omega (arith, ints, e, h.below, is_high);
          row = (let level : b ≡ from +ℤ pos n = omega (arith, ints, e) in level ∙ sym (towards_up from to n up));
        },
      )),
  (λ h.
      let level : b ≡ from +ℤ pos h.1.n = h.1.row ∙ towards_up from to h.1.n up in
      record { here = h.0; above = omega (arith, ints, level, is_low, h.1.begun); below = omega (arith, ints, level, is_high, h.1.short) }),
)
