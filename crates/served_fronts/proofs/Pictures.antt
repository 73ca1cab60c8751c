-- Samples have one picture.
use Rattle.std.proofs.Common.{◌≡◌, ℕ, zero, suc, ◌+◌, ◌*◌, ◌<◌, ◌≤◌, Bool, true, false, List, [], ◌∷◌, ◌++◌, map, refl, ap, sym}
use Rattle.std.proofs.Common.{◌∙◌, arith}
use Rattle.std.specs.Prelude.{IsTrue, nat_lt, ◌&&◌, if◌then◌else◌}
use Rattle.std.specs.List.{range_with_len}
use Rattle.std.proofs.lemmas.Bool.Decides.{nat_tests}
use Rattle.line_raster.specs.Canvas.{Canvas, black_at}
use Rattle.pbm_writer.specs.Picture.{ink, byte_at, row_bytes, row, rows_below, head, picture}
use Rattle.served_fronts.specs.Laws.{ChartsHaveOnePicture}

same_bool : (a b : Bool) → (IsTrue a → IsTrue b) → (IsTrue b → IsTrue a) → a ≡ b
same_bool true true to from = refl
same_bool true false to from = sym (to refl)
same_bool false true to from = from refl
same_bool false false to from = refl

abbrev dot : Bool → Bool → ℕ
dot t v = if t && v then 1 else 0

same_map : (f g : ℕ → ℕ) (l : List ℕ) → ((k : ℕ) → f k ≡ g k) → map f l ≡ map g l
same_map f g [] same = refl
same_map f g (k ∷ ks) same = ap (λ x. x ∷ map f ks) (same k) ∙ ap (λ xs. g k ∷ xs) (same_map f g ks same)

module _ (c d : Canvas) (w : d.w ≡ c.w) (h : d.h ≡ c.h) (same : (x y : ℕ) → x < c.w → y < c.h → black_at c x y ≡ black_at d x y) where
  ink_at : (x y : ℕ) → y < c.h → (b : Bool) → nat_lt x c.w ≡ b → dot (nat_lt x c.w) (black_at c x y) ≡ dot (nat_lt x c.w) (black_at d x y)
  ink_at x y below true test = ap (λ v. dot (nat_lt x c.w) v) (same x y (grind (arith, nat_tests, test)) below)
  ink_at x y below false test = ap (λ t. dot t (black_at c x y)) test ∙ sym (ap (λ t. dot t (black_at d x y)) test)

  same_ink : (x y : ℕ) → y < c.h → ink c x y ≡ ink d x y
  same_ink x y below = ink_at x y below (nat_lt x c.w) refl ∙ ap (λ n. dot (nat_lt x n) (black_at d x y)) (sym w)

  same_byte : (k y : ℕ) → y < c.h → byte_at c k y ≡ byte_at d k y
  same_byte k y below = omega (
    arith,
    same_ink (8 * k) y below,
    same_ink (8 * k + 1) y below,
    same_ink (8 * k + 2) y below,
    same_ink (8 * k + 3) y below,
    same_ink (8 * k + 4) y below,
    same_ink (8 * k + 5) y below,
    same_ink (8 * k + 6) y below,
    same_ink (8 * k + 7) y below,
  )

  same_row : (y : ℕ) → y < c.h → row c y ≡ row d y
  same_row y below =
      same_map (λ k. byte_at c k y) (λ k. byte_at d k y) (range_with_len 0 (row_bytes c.w)) (λ k. same_byte k y below)
      ∙ ap (λ n. map (λ k. byte_at d k y) (range_with_len 0 (row_bytes n))) (sym w)

  same_rows : (y : ℕ) → y ≤ c.h → rows_below c y ≡ rows_below d y
  same_rows zero low = refl
  same_rows (suc y) low = ap (λ r. r ++ rows_below c y) (same_row y (omega (arith, low)))
      ∙ ap (λ rs. row d y ++ rs) (same_rows y (omega (arith, low)))

  same_picture : picture c ≡ picture d
  same_picture = ap (λ rs. head c.w c.h ++ rs) (same_rows c.h (omega arith)) ∙ ap (λ n. head n c.h ++ rows_below d c.h) (sym w)
      ∙ ap (λ n. head d.w n ++ rows_below d n) (sym h)

pub one_picture : ChartsHaveOnePicture
one_picture g range samples c d is other =
    same_picture c d (other.width ∙ sym is.width) (other.height ∙ sym is.height) (λ x y left low.
    let at : x < g.w = omega (arith, left, is.width) in
    let under : y < g.h = omega (arith, low, is.height) in
    let p = is.pixels x y at under in
    let q = other.pixels x y at under in
    same_bool (black_at c x y) (black_at d x y) (λ t. q.1 (p.0 t)) (λ t. p.1 (q.0 t)))
