use Rattle.std.proofs.Common.{◌≡◌, ℕ, ℤ, ◌+◌, ◌*◌, ◌/◌, ◌<◌, ◌≤◌, ◌-ℤ◌, refl, sym, ◌∙◌, ap, inl, inr, arith, unsigned_abs}
use Rattle.std.proofs.lemmas.Int.{ints, by_lt_z}
use Rattle.std.proofs.lemmas.Bool.{cases_lt, cases_eq}
use Rattle.std.proofs.lemmas.Nat.{div-mul-add}
use Rattle.line_raster.specs.declared.position.Point.{Point}
use Rattle.line_raster.specs.Segment.{columns, rows, share, towards, On}
use Rattle.line_raster.proofs.SegmentLemmas.{towards_down, towards_up}

-- no step has no share
share_none : (most distance : ℕ) → 0 < most → share most distance 0 ≡ 0
share_none most distance some =
    let e : 2 * 0 * distance + most ≡ 0 * (2 * most) + most = omega arith in
    ap (λ m. m / (2 * most)) e ∙ div-mul-add 0 (2 * most) most (omega arith)

-- all steps have the whole
share_all : (most distance : ℕ) → 0 < most → share most distance most ≡ distance
share_all most distance some =
    let e : 2 * most * distance + most ≡ distance * (2 * most) + most = omega arith in
    ap (λ m. m / (2 * most)) e ∙ div-mul-add distance (2 * most) most (omega arith)

-- no row towards another is where it began
towards_none : (a b : ℤ) → a ≡ towards a b 0
towards_none a b =
    by_lt_z b a
    (λ down. let e = towards_down a b 0 down in omega (arith, ints, e))
    (λ up. let e = towards_up a b 0 up in omega (arith, ints, e))

-- all rows lead to it
towards_all : (a b : ℤ) → b ≡ towards a b (unsigned_abs (b -ℤ a))
towards_all a b =
    by_lt_z b a
    (λ down. let e = towards_down a b (unsigned_abs (b -ℤ a)) down in omega (arith, ints, e))
    (λ up. let e = towards_up a b (unsigned_abs (b -ℤ a)) up in omega (arith, ints, e))

-- the first end lies on the segment
pub on_first : (p q : Point) → On p q p.x p.y
on_first p q =
    elim (cases_lt (columns p q) (rows p q)) [
      | inl high ↦ inr (inr (record {
        high = high;
        n = 0;
        reached = omega arith;
        row = towards_none p.y q.y;
        column = omega (arith, share_none (rows p q) (columns p q) (omega (arith, high)));
      }))
      | inr wide ↦ elim (cases_eq (columns p q) 0) [
        | inl none ↦ inl (record { no_columns = none; no_rows = omega (arith, wide, none); column = refl; row = refl })
        | inr apart ↦
            let some : 0 < columns p q = omega (arith, apart) in
            inr (inl (record {
              wide = wide;
              some = some;
              n = 0;
              reached = omega arith;
              column = omega arith;
              row = towards_none p.y q.y ∙ ap (towards p.y q.y) (sym (share_none (columns p q) (rows p q) some));
            }))
      ]
    ]

-- so does the last end
pub on_last : (p q : Point) → p.x ≤ q.x → On p q q.x q.y
on_last p q order =
    elim (cases_lt (columns p q) (rows p q)) [
      | inl high ↦ inr (inr (record {
        high = high;
        n = rows p q;
        reached = omega arith;
        row = towards_all p.y q.y;
        column = omega (arith, order, share_all (rows p q) (columns p q) (omega (arith, high)));
      }))
      | inr wide ↦ elim (cases_eq (columns p q) 0) [
        | inl none ↦ inl (record {
          no_columns = none;
          no_rows = omega (arith, wide, none);
          column = omega (arith, order, none);
          row = (let e : rows p q ≡ 0 = omega (arith, wide, none) in omega (arith, ints, e));
        })
        | inr apart ↦
            let some : 0 < columns p q = omega (arith, apart) in
            inr (inl (record {
              wide = wide;
              some = some;
              n = columns p q;
              reached = omega arith;
              column = omega (arith, order);
              row = towards_all p.y q.y ∙ ap (towards p.y q.y) (sym (share_all (columns p q) (rows p q) some));
            }))
      ]
    ]
