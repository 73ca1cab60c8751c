-- Canvases with the same black pixels have one picture.
use Rattle.std.proofs.Common.{◌≡◌, ◌∙◌, ℕ, zero, suc, ◌+◌, ◌*◌, ◌<◌, ◌≤◌, Bool, true, false, cond, ◌&&◌, ◌++◌, map, IsTrue, refl, ap, sym}
use Rattle.std.proofs.Common.{arith}
use Rattle.std.proofs.lemmas.Bool.Decides.{nat_tests}
use Rattle.std.specs.List.{range_with_len}
use Rattle.std.specs.Prelude.{nat_lt}
use Rattle.line_raster.specs.Canvas.{Canvas, black_at}
use Rattle.pbm_writer.specs.Picture.{byte_at, head, ink, picture, row, row_bytes, rows_below}
use Rattle.series_pair.specs.Derived.{AreAlike}

same_truth : (a b : Bool) → (IsTrue a → IsTrue b) → (IsTrue b → IsTrue a) → a ≡ b
same_truth true true there back = refl
same_truth true false there back = sym (there refl)
same_truth false true there back = back refl
same_truth false false there back = refl

module _ (one other : Canvas) (alike : AreAlike one other) where
  ink_same : (x y : ℕ) → y < one.h → ink other x y ≡ ink one x y
  ink_same x y low =
      let within : (nat_lt x one.w && black_at other x y) ≡ (nat_lt x one.w && black_at one x y) =
      elim (nat_lt x one.w) as (λ b. nat_lt x one.w ≡ b → (b && black_at other x y) ≡ (b && black_at one x y)) [
        | true ↦ λ is. let pixel = alike.pixels x y (grind (arith, nat_tests, is)) low in
            same_truth (black_at other x y) (black_at one x y) pixel.0 pixel.1
        | false ↦ λ is. refl
      ] refl in
      ap (λ b. cond b 1 0) (ap (λ w. nat_lt x w && black_at other x y) alike.width ∙ within)

  byte_same : (k y : ℕ) → y < one.h → byte_at other k y ≡ byte_at one k y
  byte_same k y low = λ i.
      128 * ink_same (8 * k) y low i + 64 * ink_same (8 * k + 1) y low i + 32 * ink_same (8 * k + 2) y low i + 16 * ink_same
      (8 * k + 3) y low i
      + 8 * ink_same (8 * k + 4) y low i + 4 * ink_same (8 * k + 5) y low i + 2 * ink_same (8 * k + 6) y low i + ink_same
      (8 * k + 7) y low i

  row_same : (y : ℕ) → y < one.h → row other y ≡ row one y
  row_same y low = λ i. map (λ k. byte_same k y low i) (range_with_len 0 (row_bytes (alike.width i)))

  rows_same : (y : ℕ) → y ≤ one.h → rows_below other y ≡ rows_below one y
  rows_same zero low = refl
  rows_same (suc y) low = λ i. row_same y (omega (arith, low)) i ++ rows_same y (omega (arith, low)) i

  pub picture_same : picture other ≡ picture one
  picture_same = (λ i. head (alike.width i) (alike.height i) ++ rows_below other (alike.height i))
      ∙ ap (λ rows. head one.w one.h ++ rows) (rows_same one.h (omega arith))
