use Rattle.std.proofs.Common.{◌≡◌, ℕ, ℤ, pos, negsuc, zero, suc, ◌+◌, ◌-◌, ◌*◌, ◌%◌, ◌<◌, ◌≤◌, ◌+ℤ◌, ◌-ℤ◌, ◌*ℤ◌, ◌≤ℤ◌, ◌<ℤ◌, neg_ℤ, refl}
use Rattle.std.proofs.Common.{sym, ◌∙◌, ap, inl, inr, arith, unsigned_abs}
use Rattle.std.proofs.lemmas.Int.{ints, clamps, by_lt_z}
use Rattle.std.proofs.lemmas.Bool.{cases_lt, cases_order}
use Rattle.std.proofs.lemmas.Nat.{div-add-mod', mod_below}
use Rattle.std.proofs.Math.Nat.{mul-le-mul_right}
use Rattle.std.specs.Int.{int_min, int_max}
use Rattle.line_raster.specs.declared.position.Point.{Point}
use Rattle.line_raster.specs.Segment.{columns, rows, share, towards, InColumn, InRow}
use Rattle.line_raster.specs.Ideal.{row_distance, column_distance, IsNearestRow, IsNearestColumn}
use Rattle.line_raster.proofs.SegmentLemmas.{towards_down, towards_up}

-- how far u steps are from k parts, of which most are a step
abbrev gap : ℕ → ℕ → ℤ → ℕ
gap most k u = unsigned_abs (u *ℤ pos most -ℤ pos k)

gap_forwards : (most k a : ℕ) → gap most k (pos a) ≡ (a * most - k) + (k - a * most)
gap_forwards most k a = omega (arith, ints)

gap_backwards : (most k b : ℕ) → gap most k (negsuc b) ≡ suc b * most + k
gap_backwards most k b = omega (arith, ints)

share_low : (most distance n : ℕ) → 0 < most → 2 * (share most distance n * most) ≤ 2 * (n * distance) + most
share_low most distance n some =
    let e = div-add-mod' (2 * n * distance + most) (2 * most) in
    let b : (2 * n * distance + most) % (2 * most) < 2 * most = mod_below (2 * n * distance + most) (2 * most) (omega arith) in
    omega (arith, e, b)

share_high : (most distance n : ℕ) → 0 < most → 2 * (n * distance) < 2 * (share most distance n * most) + most
share_high most distance n some =
    let e = div-add-mod' (2 * n * distance + most) (2 * most) in
    let b : (2 * n * distance + most) % (2 * most) < 2 * most = mod_below (2 * n * distance + most) (2 * most) (omega arith) in
    omega (arith, e, b)

-- no other number of steps is nearer than the share
share_nearest : (most distance n : ℕ) (u : ℤ) → 0 < most → gap most (n * distance) (pos (share most distance n)) ≤ gap most (n * distance) u
share_nearest most distance n (pos a) some =
    let m : ℕ = share most distance n in
    let low = share_low most distance n some in
    let high = share_high most distance n some in
    let here = gap_forwards most (n * distance) m in
    let there = gap_forwards most (n * distance) a in
    elim (cases_order a m) [
      | inl same ↦ omega (arith, ap (gap most (n * distance)) (ap pos same))
      | inr apart ↦ elim apart [
        | inl left ↦ (let step : (a + 1) * most ≤ m * most = mul-le-mul_right most (omega (arith, left)) in
            omega (arith, low, high, here, there, step))
        | inr right ↦ (let step : (m + 1) * most ≤ a * most = mul-le-mul_right most (omega (arith, right)) in
            omega (arith, low, high, here, there, step))
      ]
    ]
share_nearest most distance n (negsuc b) some =
    let low = share_low most distance n some in
    let high = share_high most distance n some in
    let here = gap_forwards most (n * distance) (share most distance n) in
    let there = gap_backwards most (n * distance) b in
    let step : 1 * most ≤ suc b * most = mul-le-mul_right most (omega arith) in
    omega (arith, low, high, here, there, step)

-- one that is as near is no more steps
share_tie : (most distance n : ℕ) (u : ℤ) → 0 < most → gap most (n * distance) u ≡ gap most (n * distance) (pos (share most distance n))
    → unsigned_abs u ≤ share most distance n
share_tie most distance n (pos a) some tie =
    let m : ℕ = share most distance n in
    let low = share_low most distance n some in
    let high = share_high most distance n some in
    let here = gap_forwards most (n * distance) m in
    let there = gap_forwards most (n * distance) a in
    elim (cases_lt m a) [
      | inl right ↦ (let step : (m + 1) * most ≤ a * most = mul-le-mul_right most (omega (arith, right)) in
          absurd (omega (arith, low, high, here, there, step, tie)))
      | inr within ↦ within
    ]
share_tie most distance n (negsuc b) some tie =
    let low = share_low most distance n some in
    let high = share_high most distance n some in
    let here = gap_forwards most (n * distance) (share most distance n) in
    let there = gap_backwards most (n * distance) b in
    let step : 1 * most ≤ suc b * most = mul-le-mul_right most (omega arith) in
    absurd (omega (arith, low, high, here, there, step, tie))

-- a size doesn't depend on the sign
size_turned : (u : ℤ) → unsigned_abs (neg_ℤ u) ≡ unsigned_abs u
size_turned (pos zero) = refl
size_turned (pos (suc n)) = refl
size_turned (negsuc n) = refl

-- neither does a gap
gap_turned : (most k : ℕ) (u : ℤ) → unsigned_abs (neg_ℤ u *ℤ pos most -ℤ neg_ℤ (pos k)) ≡ gap most k u
gap_turned most k (pos zero) = omega (arith, ints)
gap_turned most k (pos (suc a)) = omega (arith, ints)
gap_turned most k (negsuc a) = omega (arith, ints)

-- a product with a number of steps back
times_back : (n k : ℕ) → pos n *ℤ neg_ℤ (pos k) ≡ neg_ℤ (pos (n * k))
times_back n zero = omega (arith, ints)
times_back n (suc k) = omega (arith, ints)

-- the distance of a row from the straight line, upwards and downwards
row_distance_up : (p q : Point) (x n : ℕ) (z : ℤ) → p.y ≤ℤ q.y → x ≡ p.x + n
    → row_distance p q x z ≡ gap (columns p q) (n * rows p q) (z -ℤ p.y)
row_distance_up p q x n z up column =
    let way : q.y -ℤ p.y ≡ pos (rows p q) = omega (arith, ints) in
    let along : pos x -ℤ pos p.x ≡ pos n = omega (arith, ints, column) in
    (λ t. unsigned_abs ((z -ℤ p.y) *ℤ pos (columns p q) -ℤ along t *ℤ way t))

row_distance_down : (p q : Point) (x n : ℕ) (z : ℤ) → q.y <ℤ p.y → x ≡ p.x + n
    → row_distance p q x z ≡ gap (columns p q) (n * rows p q) (p.y -ℤ z)
row_distance_down p q x n z down column =
    let way : q.y -ℤ p.y ≡ neg_ℤ (pos (rows p q)) = omega (arith, ints) in
    let along : pos x -ℤ pos p.x ≡ pos n = omega (arith, ints, column) in
    let turned : z -ℤ p.y ≡ neg_ℤ (p.y -ℤ z) = omega (arith, ints) in
    (λ t. unsigned_abs (turned t *ℤ pos (columns p q) -ℤ (along t *ℤ way t)))
    ∙ ap (λ w. unsigned_abs (neg_ℤ (p.y -ℤ z) *ℤ pos (columns p q) -ℤ w)) (times_back n (rows p q))
    ∙ gap_turned (columns p q) (n * rows p q) (p.y -ℤ z)

-- steps of a length that goes back
steps_back : (u : ℤ) (k : ℕ) → u *ℤ neg_ℤ (pos k) ≡ neg_ℤ (u *ℤ pos k)
steps_back (pos n) zero = omega (arith, ints)
steps_back (pos n) (suc k) = omega (arith, ints)
steps_back (negsuc n) zero = omega (arith, ints)
steps_back (negsuc n) (suc k) = omega (arith, ints)

-- a number of steps back times a length
back_times : (n k : ℕ) → neg_ℤ (pos n) *ℤ pos k ≡ neg_ℤ (pos (n * k))
back_times zero k = omega (arith, ints)
back_times (suc n) k = omega (arith, ints)

-- a gap sideways doesn't depend on the sign
gap_sideways : (most distance n : ℕ) (u : ℤ) → unsigned_abs (u *ℤ neg_ℤ (pos most) -ℤ neg_ℤ (pos n) *ℤ pos distance) ≡ gap most
    (n * distance) u
gap_sideways most distance n u =
    let back = steps_back u most in
    let away = back_times n distance in
    let turned : neg_ℤ (u *ℤ pos most) -ℤ neg_ℤ (pos (n * distance)) ≡ neg_ℤ (u *ℤ pos most -ℤ pos (n * distance)) = omega (arith, ints) in
    (λ t. unsigned_abs (back t -ℤ away t)) ∙ ap unsigned_abs turned ∙ size_turned (u *ℤ pos most -ℤ pos (n * distance))

-- the distance of a column from the straight line
column_distance_up : (p q : Point) (y z : ℤ) (n : ℕ) → p.y ≤ℤ q.y → y ≡ p.y +ℤ pos n
    → column_distance p q z y ≡ gap (rows p q) (n * columns p q) (z -ℤ pos p.x)
column_distance_up p q y z n up row =
    let way : q.y -ℤ p.y ≡ pos (rows p q) = omega (arith, ints) in
    let along : y -ℤ p.y ≡ pos n = omega (arith, ints, row) in
    (λ t. unsigned_abs ((z -ℤ pos p.x) *ℤ way t -ℤ along t *ℤ pos (columns p q)))

column_distance_down : (p q : Point) (y z : ℤ) (n : ℕ) → q.y <ℤ p.y → y ≡ p.y -ℤ pos n
    → column_distance p q z y ≡ gap (rows p q) (n * columns p q) (z -ℤ pos p.x)
column_distance_down p q y z n down row =
    let way : q.y -ℤ p.y ≡ neg_ℤ (pos (rows p q)) = omega (arith, ints) in
    let along : y -ℤ p.y ≡ neg_ℤ (pos n) = omega (arith, ints, row) in
    (λ t. unsigned_abs ((z -ℤ pos p.x) *ℤ way t -ℤ along t *ℤ pos (columns p q)))
    ∙ gap_sideways (rows p q) (columns p q) n (z -ℤ pos p.x)

-- a flat segment's pixel is the nearest of its column
pub row_is_nearest : (p q : Point) (x : ℕ) (y : ℤ) → InColumn p q x y → IsNearestRow p q x y
row_is_nearest p q x y h =
    let c : ℕ = columns p q in
    let k : ℕ = h.n * rows p q in
    let m : ℕ = share c (rows p q) h.n in
    by_lt_z q.y p.y
    (λ down.
    let here : p.y -ℤ y ≡ pos m = (let e = towards_down p.y q.y m down in omega (arith, ints, h.row, e)) in
    let at : row_distance p q x y ≡ gap c k (pos m) = row_distance_down p q x h.n y down h.column ∙ ap (gap c k) here in
    record {
      nearest = λ z. omega (arith, at, row_distance_down p q x h.n z down h.column, share_nearest c (rows p q) h.n (p.y -ℤ z) h.some);
      tie = λ z tie.
          let less = share_tie c (rows p q) h.n (p.y -ℤ z) h.some (sym (row_distance_down p q x h.n z down h.column) ∙ tie ∙ at) in
          omega (arith, ints, less, here);
    })
    (λ up.
    let here : y -ℤ p.y ≡ pos m = (let e = towards_up p.y q.y m up in omega (arith, ints, h.row, e)) in
    let at : row_distance p q x y ≡ gap c k (pos m) = row_distance_up p q x h.n y up h.column ∙ ap (gap c k) here in
    record {
      nearest = λ z. omega (arith, at, row_distance_up p q x h.n z up h.column, share_nearest c (rows p q) h.n (z -ℤ p.y) h.some);
      tie = λ z tie.
          let less = share_tie c (rows p q) h.n (z -ℤ p.y) h.some (sym (row_distance_up p q x h.n z up h.column) ∙ tie ∙ at) in
          omega (arith, ints, less, here);
    })

-- a steep segment's pixel is the nearest of its row
pub column_is_nearest : (p q : Point) (x : ℕ) (y : ℤ) → InRow p q x y → IsNearestColumn p q x y
column_is_nearest p q x y h =
    let r : ℕ = rows p q in
    let k : ℕ = h.n * columns p q in
    let m : ℕ = share r (columns p q) h.n in
    let some : 0 < r = omega (arith, h.high) in
    let here : pos x -ℤ pos p.x ≡ pos m = omega (arith, ints, h.column) in
    let go = λ (at : (z : ℤ) → column_distance p q z y ≡ gap r k (z -ℤ pos p.x)).
    let first : column_distance p q (pos x) y ≡ gap r k (pos m) = at (pos x) ∙ ap (gap r k) here in
    let near : IsNearestColumn p q x y = record {
      nearest = λ z. omega (arith, first, at z, share_nearest r (columns p q) h.n (z -ℤ pos p.x) some);
      tie = λ z tie.
          let less = share_tie r (columns p q) h.n (z -ℤ pos p.x) some (sym (at z) ∙ tie ∙ first) in
          omega (arith, ints, less, here);
    } in
    near in
    by_lt_z q.y p.y
    (λ down. go (λ z. column_distance_down p q y z h.n down (h.row ∙ towards_down p.y q.y h.n down)))
    (λ up. go (λ z. column_distance_up p q y z h.n up (h.row ∙ towards_up p.y q.y h.n up)))

-- a flat segment has one pixel in a column
pub one_row : (p q : Point) (x : ℕ) (y z : ℤ) → InColumn p q x y → InColumn p q x z → z ≡ y
one_row p q x y z h k =
    let same : k.n ≡ h.n = omega (arith, h.column, k.column) in
    k.row ∙ ap (λ n. towards p.y q.y (share (columns p q) (rows p q) n)) same ∙ sym h.row

-- a steep segment has one pixel in a row
pub one_column : (p q : Point) (x z : ℕ) (y : ℤ) → InRow p q x y → InRow p q z y → z ≡ x
one_column p q x z y h k =
    let same : k.n ≡ h.n =
    by_lt_z q.y p.y
    (λ down. let e = towards_down p.y q.y h.n down in let f = towards_down p.y q.y k.n down in omega (arith, ints, h.row, k.row, e, f))
    (λ up. let e = towards_up p.y q.y h.n up in let f = towards_up p.y q.y k.n up in omega (arith, ints, h.row, k.row, e, f)) in
    k.column ∙ ap (λ n. p.x + share (rows p q) (columns p q) n) same ∙ sym h.column

-- the pixel of a flat segment in a column
pub row_pixel : (p q : Point) (x n : ℕ) (y : ℤ) → rows p q ≤ columns p q → 0 < columns p q → p.x + n ≡ x → n ≤ columns p q
    → y ≡ towards p.y q.y (share (columns p q) (rows p q) n) → InColumn p q x y
row_pixel p q x n y wide some column reached row = record {
  wide = wide;
  some = some;
  n = n;
  reached = reached;
  column = sym column;
  row = row;
}

-- the pixel of a steep segment in a row
pub column_pixel : (p q : Point) (y : ℤ) (n x : ℕ) → columns p q < rows p q → int_min p.y q.y ≤ℤ y → y ≤ℤ int_max p.y q.y
    → n ≡ unsigned_abs (y -ℤ p.y) → x ≡ p.x + share (rows p q) (columns p q) n → InRow p q x y
column_pixel p q y n x high above below is_n column =
    by_lt_z q.y p.y
    (λ down. record {
      high = high;
      n = n;
      reached = omega (arith, ints, clamps, above, below, is_n, down);
      row = (let e = towards_down p.y q.y n down in omega (arith, ints, clamps, above, below, is_n, down, e));
      column = column;
    })
    (λ up. record {
      high = high;
      n = n;
      reached = omega (arith, ints, clamps, above, below, is_n, up);
      row = (let e = towards_up p.y q.y n up in omega (arith, ints, clamps, above, below, is_n, up, e));
      column = column;
    })
