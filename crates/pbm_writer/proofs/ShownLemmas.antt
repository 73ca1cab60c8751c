use Rattle.std.proofs.Common.{◌≡◌, ℕ, zero, suc, ◌+◌, ◌-◌, ◌*◌, ◌/◌, ◌%◌, ◌<◌, ◌≤◌, ◌↔◌, Bool, true, false, ◌&&◌, cond, List, [], ◌∷◌, ◌++◌}
use Rattle.std.proofs.Common.{length, get_or, IsTrue, refl, sym, ◌∙◌, ap, subst, inl, inr, arith, length-append}
use Rattle.std.specs.Prelude.{nat_lt}
use Rattle.std.specs.Int.{bit_at}
use Rattle.std.proofs.lemmas.Bool.{cases_eq}
use Rattle.std.proofs.lemmas.Bool.Decides.{nat_tests}
use Rattle.std.proofs.lemmas.List.{get_or-append-add, get_or_append_left, take_at}
use Rattle.std.proofs.lemmas.List.FromFn.{length-map-range_with_len, get_or-map-range_with_len}
use Rattle.line_raster.specs.Canvas.{Canvas, black_at}
use Rattle.pbm_writer.specs.Picture.{ink, byte_at, row_bytes, row, rows_below, head, picture, place, Shows}

-- bit 7 - m of a byte is its m-th pixel
bit_of : (a b c d e f g h m : ℕ) → a ≤ 1 → b ≤ 1 → c ≤ 1 → d ≤ 1 → e ≤ 1 → f ≤ 1 → g ≤ 1 → h ≤ 1 → m < 8
    → bit_at (128 * a + 64 * b + 32 * c + 16 * d + 8 * e + 4 * f + 2 * g + h) (7 - m) ≡ get_or (a ∷ b ∷ c ∷ d ∷ e ∷ f ∷ g ∷ h ∷ []) m 0
bit_of a b c d e f g h zero pa pb pc pd pe pf pg ph m = omega arith
bit_of a b c d e f g h (suc zero) pa pb pc pd pe pf pg ph m = omega arith
bit_of a b c d e f g h (suc (suc zero)) pa pb pc pd pe pf pg ph m = omega arith
bit_of a b c d e f g h (suc (suc (suc zero))) pa pb pc pd pe pf pg ph m = omega arith
bit_of a b c d e f g h (suc (suc (suc (suc zero)))) pa pb pc pd pe pf pg ph m = omega arith
bit_of a b c d e f g h (suc (suc (suc (suc (suc zero))))) pa pb pc pd pe pf pg ph m = omega arith
bit_of a b c d e f g h (suc (suc (suc (suc (suc (suc zero)))))) pa pb pc pd pe pf pg ph m = omega arith
bit_of a b c d e f g h (suc (suc (suc (suc (suc (suc (suc zero))))))) pa pb pc pd pe pf pg ph m = omega arith
bit_of a b c d e f g h (suc (suc (suc (suc (suc (suc (suc (suc n)))))))) pa pb pc pd pe pf pg ph m = absurd (omega arith)

-- a pixel adds at most 1
ink-le : (c : Canvas) (x y : ℕ) → ink c x y ≤ 1
ink-le c x y = elim (nat_lt x c.w && black_at c x y) as (λ b. cond b 1 0 ≤ 1) [ true ↦ omega arith | false ↦ omega arith ]

-- the m-th of a byte's pixels
pixel_of : (c : Canvas) (k y m : ℕ) → m < 8 → get_or
    (ink c (8 * k) y ∷ ink c (8 * k + 1) y ∷ ink c (8 * k + 2) y ∷ ink c (8 * k + 3) y ∷ ink c (8 * k + 4) y ∷ ink c (8 * k + 5) y ∷ ink c
    (8 * k + 6) y ∷ ink c (8 * k + 7) y ∷ []) m 0 ≡ ink c (8 * k + m) y
pixel_of c k y zero m = ap (λ x. ink c x y) (omega arith)
pixel_of c k y (suc zero) m = refl
pixel_of c k y (suc (suc zero)) m = refl
pixel_of c k y (suc (suc (suc zero))) m = refl
pixel_of c k y (suc (suc (suc (suc zero)))) m = refl
pixel_of c k y (suc (suc (suc (suc (suc zero))))) m = refl
pixel_of c k y (suc (suc (suc (suc (suc (suc zero)))))) m = refl
pixel_of c k y (suc (suc (suc (suc (suc (suc (suc zero))))))) m = refl
pixel_of c k y (suc (suc (suc (suc (suc (suc (suc (suc n)))))))) m = absurd (omega arith)

-- the bit of a pixel's byte is the pixel's ink
bit_of_byte : (c : Canvas) (x y : ℕ) → bit_at (byte_at c (x / 8) y) (7 - x % 8) ≡ ink c x y
bit_of_byte c x y =
    let k : ℕ = x / 8 in
    let m : x % 8 < 8 = omega arith in
    let at : 8 * k + x % 8 ≡ x = omega arith in
    bit_of (ink c (8 * k) y) (ink c (8 * k + 1) y) (ink c (8 * k + 2) y) (ink c (8 * k + 3) y) (ink c (8 * k + 4) y) (ink c (8 * k + 5) y)
    (ink c (8 * k + 6) y) (ink c (8 * k + 7) y) (x % 8)
    (ink-le c (8 * k) y) (ink-le c (8 * k + 1) y) (ink-le c (8 * k + 2) y) (ink-le c (8 * k + 3) y) (ink-le c (8 * k + 4) y)
    (ink-le c (8 * k + 5) y) (ink-le c (8 * k + 6) y) (ink-le c (8 * k + 7) y) m
    ∙ pixel_of c k y (x % 8) m
    ∙ ap (λ j. ink c j y) at

-- 1 stands for true
abbrev one_if : Bool → ℕ
one_if b = cond b 1 0

-- and only for it
one_if_true : (b : Bool) → (one_if b ≡ 1) ↔ IsTrue b
one_if_true true = ((λ h. refl), (λ h. refl))
one_if_true false = ((λ h. absurd (omega (arith, h))), (λ h. cc))

-- ink on the canvas is black
ink-within : (c : Canvas) (x y : ℕ) → x < c.w → (ink c x y ≡ 1) ↔ IsTrue (black_at c x y)
ink-within c x y within =
    let t : nat_lt x c.w ≡ true = grind (arith, nat_tests) in
    let e : ink c x y ≡ one_if (black_at c x y) = ap (λ b. cond (b && black_at c x y) 1 0) t in
    let k = one_if_true (black_at c x y) in
    ((λ h. k.0 (sym e ∙ h)), (λ h. e ∙ k.1 h))

-- beyond it there is none
ink-beyond : (c : Canvas) (x y : ℕ) → c.w ≤ x → ink c x y ≡ 0
ink-beyond c x y beyond =
    let f : nat_lt x c.w ≡ false = grind (arith, nat_tests) in
    ap (λ b. cond (b && black_at c x y) 1 0) f

-- the bytes of the rows, in their places
byte_in_rows : (c : Canvas) (n j y : ℕ) → j < row_bytes c.w → y < n
    → get_or (rows_below c n) ((n - 1 - y) * row_bytes c.w + j) 0 ≡ byte_at c j y
byte_in_rows c zero j y in_row below = absurd (omega (arith, below))
byte_in_rows c (suc n) j y in_row below =
    let r : ℕ = row_bytes c.w in
    let size : length (row c n) ≡ r = length-map-range_with_len (λ k. byte_at c k n) 0 r in
    elim (cases_eq y n) [
      | inl same ↦
          let at : (suc n - 1 - y) * r + j ≡ j = (let z : suc n - 1 - y ≡ 0 = omega (arith, same) in
          let e : (suc n - 1 - y) * r ≡ 0 = ap (λ m. m * r) z ∙ omega arith in omega (arith, e)) in
          ap (λ m. get_or (row c n ++ rows_below c n) m 0) at
          ∙ get_or_append_left (row c n) (rows_below c n) 0 j (omega (arith, size, in_row))
          ∙ get_or-map-range_with_len (λ k. byte_at c k n) 0 r j j 0 in_row (omega arith)
          ∙ ap (byte_at c j) (sym same)
      | inr apart ↦
          let at : (suc n - 1 - y) * r + j ≡ length
          (row c n) + ((n - 1 - y) * r + j) = (let z : suc n - 1 - y ≡ suc (n - 1 - y) = omega (arith, below, apart) in
          omega (arith, size, ap (λ m. m * r) z)) in
          ap (λ m. get_or (row c n ++ rows_below c n) m 0) at
          ∙ get_or-append-add (row c n) (rows_below c n) ((n - 1 - y) * r + j) 0
          ∙ byte_in_rows c n j y in_row (omega (arith, below, apart))
    ]

-- how many bytes the rows take
length-rows_below : (c : Canvas) (n : ℕ) → length (rows_below c n) ≡ n * row_bytes c.w
length-rows_below c zero = omega arith
length-rows_below c (suc n) = omega (
  arith,
  length-append (row c n) (rows_below c n),
  length-map-range_with_len (λ k. byte_at c k n) 0 (row_bytes c.w),
  length-rows_below c n,
)

-- the bit of each pixel in the picture
bit_in_picture : (c : Canvas) (x y : ℕ) → x < 8 * row_bytes c.w → y < c.h
    → bit_at (get_or (picture c) (place c x y) 0) (7 - x % 8) ≡ ink c x y
bit_in_picture c x y within below =
    ap (λ b. bit_at b (7 - x % 8)) (get_or-append-add (head c.w c.h) (rows_below c c.h) ((c.h - 1 - y) * row_bytes c.w + x / 8) 0
    ∙ byte_in_rows c c.h (x / 8) y (omega (arith, within)) below)
    ∙ bit_of_byte c x y

-- a row's bytes have room for its pixels
room : (w x : ℕ) → x < w → x < 8 * row_bytes w
room w x h = omega (arith, h)

-- the picture shows the canvas
pub picture_shows : (c : Canvas) (bytes : List ℕ) → bytes ≡ picture c → Shows c bytes
picture_shows c bytes e =
    let shown : Shows c (picture c) = record {
      front = take_at (head c.w c.h) (rows_below c c.h) _ refl;
      size = length-append (head c.w c.h) (rows_below c c.h) ∙ ap (λ n. length (head c.w c.h) + n) (length-rows_below c c.h);
      pixels = λ x y in_w in_h.
          let bit = bit_in_picture c x y (room c.w x in_w) in_h in
          let k = ink-within c x y in_w in
          ((λ h. k.0 (sym bit ∙ h)), (λ h. bit ∙ k.1 h));
      padding = λ x y beyond within in_h. bit_in_picture c x y within in_h ∙ ink-beyond c x y beyond;
    } in
    subst (λ (l : List ℕ). Shows c l) (sym e) shown
