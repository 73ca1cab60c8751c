use Rattle.std.proofs.Common.{◌≡◌, ℕ, ◌+◌, ◌-◌, ◌*◌, ◌<◌, ◌≤◌, ◌↔◌, ◌⊎◌, Bool, true, false, List, ◌++◌, length, get_or, set, take, drop}
use Rattle.std.proofs.Common.{replicate, IsTrue, refl, sym, ◌∙◌, ap, subst, inl, inr, arith, length-append, length-drop}
use Rattle.std.proofs.lemmas.List.{get_or_append_left, get_or-append_right, get_or-take, get_or-drop, get_or-replicate, length-replicate}
use Rattle.std.proofs.lemmas.List.{length-take-le}
use Rattle.std.proofs.lemmas.List.{get_or_default, get_or-set_same, get_or-set_other}
use Rattle.std.proofs.lemmas.Bool.{cases_lt, cases_order, cases_eq}
use Rattle.std.proofs.lemmas.Nat.{mul-add-lt, same_from_place}
use Rattle.std.proofs.Math.Nat.{mul-le-mul_right}
use borrow.Rule.Slice.PartMut.{put_mid}
use Rattle.line_raster.specs.Canvas.{Canvas, black_at, Adds, IsBlank}

-- before the written part a list stays as it was
put_mid_below : (a k : ℕ) (xs ys : List Bool) (i : ℕ) → i < a → a ≤ length xs → get_or (put_mid a k xs ys) i false ≡ get_or xs i false
put_mid_below a k xs ys i p q =
    let n : length (take a xs) ≡ a = length-take-le a xs q in
    get_or_append_left (take a xs) _ false i (omega arith) ∙ get_or-take a xs i false p

-- behind it too
put_mid_above : (a k : ℕ) (xs ys : List Bool) (i : ℕ) → a + k ≤ i → a ≤ length xs → length ys ≡ k
    → get_or (put_mid a k xs ys) i false ≡ get_or xs i false
put_mid_above a k xs ys i p q r =
    let n : length (take a xs) ≡ a = length-take-le a xs q in
    get_or-append_right (take a xs) _ a i false n (omega arith)
    ∙ get_or-append_right ys _ k (i - a) false r (omega arith)
    ∙ get_or-drop k (drop a xs) (i - a - k) false
    ∙ get_or-drop a xs (k + (i - a - k)) false
    ∙ ap (λ j. get_or xs j false) (omega arith)

-- within it stands what was written
put_mid_within : (a k : ℕ) (xs : List Bool) (i : ℕ) → a ≤ i → i < a + k → a ≤ length xs
    → get_or (put_mid a k xs (replicate k true)) i false ≡ true
put_mid_within a k xs i p r q =
    let n : length (take a xs) ≡ a = length-take-le a xs q in
    let m : length (replicate k true) ≡ k = length-replicate k true in
    get_or-append_right (take a xs) _ a i false n p
    ∙ get_or_append_left (replicate k true) _ false (i - a) (omega arith)
    ∙ get_or-replicate k (i - a) true false (omega arith)

-- the place of a pixel among the cells is within them
place_within : (w h x y : ℕ) (cells : List Bool) → length cells ≡ w * h → x < w → y < h → x * h + y < length cells
place_within w h x y cells n column row = omega (arith, n, mul-add-lt x h y w column row)

-- what is read at a pixel's place is its colour
pub read_pixel : (w h x y i j k : ℕ) (cells : List Bool) (c : Canvas) (b : Bool)
    → (let d : Canvas = record { w = w; h = h; cells = cells } in d ≡ c) → length cells ≡ w * h → x < c.w → y < c.h → i ≡ x → j ≡ h → k ≡ y
    → b ≡ get_or cells (i * j + k) b → b ≡ black_at c x y
unfolding black_at
read_pixel w h x y i j k cells c b e n column row is_x is_h is_y read =
    let P : Canvas → Type 0 = λ d. x < d.w → y < d.h → b ≡ black_at d x y in
    let place : i * j + k ≡ x * h + y = λ t. is_x t * is_h t + is_y t in
    subst P e
    (λ p q. read ∙ ap (λ m. get_or cells m b) place ∙ get_or_default cells (x * h + y) b false (place_within w h x y cells n p q))
    column row

-- a canvas of white cells is white
pub blank : (w h : ℕ) (cells : List Bool) → cells ≡ replicate (w * h) false → IsBlank w h (record { w = w; h = h; cells = cells })
unfolding black_at
blank w h cells e = record {
  width = refl;
  height = refl;
  white = λ x y column row. ap (λ l. get_or l (x * h + y) false) e
      ∙ get_or-replicate (w * h) (x * h + y) false false (omega (arith, mul-add-lt x h y w column row));
}

-- a place in another column lies before the column or behind it
other_column : (h x y a : ℕ) → y < h → (x ≡ a → ⊥) → (x * h + y < a * h) ⊎ (a * h + h ≤ x * h + y)
other_column h x y a row apart =
    elim (cases_order x a) [
      | inl same ↦ absurd (apart same)
      | inr sides ↦ elim sides [
        | inl left ↦ inl (let k : (x + 1) * h ≤ a * h = mul-le-mul_right h (omega arith) in omega (arith, k))
        | inr right ↦ inr (let k : (a + 1) * h ≤ x * h = mul-le-mul_right h (omega arith) in omega (arith, k))
      ]
    ]

-- a pixel that is as it was, and isn't of the set
kept : (new old : Bool) (s : Type 0) → new ≡ old → (s → ⊥) → IsTrue new ↔ (IsTrue old ⊎ s)
kept new old s e outside =
    ((λ h. inl (subst IsTrue e h)), (λ h. elim h [ inl was ↦ subst IsTrue (sym e) was | inr k ↦ absurd (outside k) ]))

-- a pixel that is black now, and is of the set
blackened : (new old : Bool) (s : Type 0) → new ≡ true → s → IsTrue new ↔ (IsTrue old ⊎ s)
blackened new old s e within = ((λ h. inr within), (λ h. e))

-- a pixel after a part of its column's cells was written
written_pixel : (w h a low end from count : ℕ) (cells : List Bool) → length cells ≡ w * h → a < w → low ≤ end → end ≤ h → from ≡ a * h + low
    → count ≡ end - low → (x y : ℕ) → x < w → y < h
    → IsTrue (get_or (put_mid from count cells (replicate count true)) (x * h + y) false) ↔ (IsTrue (get_or cells (x * h + y) false)
    ⊎ (x ≡ a) × (low ≤ y) × (y < end))
written_pixel w h a low end from count cells n column order rows is_from is_count x y in_x in_y =
    let room : a * h + h ≤ w * h = let k : (a + 1) * h ≤ w * h = mul-le-mul_right h (omega arith) in omega (arith, k) in
    let start : from ≤ length cells = omega arith in
    let size : length (replicate count true) ≡ count = length-replicate count true in
    let below = λ (k : x * h + y < from) (out : (x ≡ a) × (low ≤ y) × (y < end)
    → ⊥). kept _ _ _ (put_mid_below from count cells (replicate count true) (x * h + y) k start) out in
    let above = λ (k : from + count ≤ x * h + y) (out : (x ≡ a) × (low ≤ y) × (y < end)
    → ⊥). kept _ _ _ (put_mid_above from count cells (replicate count true) (x * h + y) k start size) out in
    elim (cases_eq x a) [
      | inl same ↦
          let place : x * h + y ≡ a * h + y = ap (λ m. m * h + y) same in
          elim (cases_lt y low) [
            | inl under ↦ below (omega arith) (λ k. omega (arith, k.1))
            | inr from_low ↦ elim (cases_lt y end) [
              | inl within ↦ blackened _ _ _ (put_mid_within from count cells (x * h + y) (omega arith) (omega arith) start) (
                same,
                from_low,
                within,
              )
              | inr over ↦ above (omega arith) (λ k. omega (arith, k.2))
            ]
          ]
      | inr apart ↦ elim (other_column h x y a in_y apart) [
        | inl left ↦ below (omega arith) (λ k. apart k.0)
        | inr right ↦ above (omega arith) (λ k. apart k.0)
      ]
    ]

-- what a canvas shows after a part of one column's cells was written
pub filled : (w h a low end from count : ℕ) (cells before written after : List Bool) (was : Canvas)
    → (let d : Canvas = record { w = w; h = h; cells = cells } in d ≡ was) → length cells ≡ w * h → before ≡ cells
    → written ≡ replicate count true → after ≡ put_mid from count before written → a < was.w → low ≤ end → end ≤ was.h → from ≡ a * h + low
    → count ≡ end - low → Adds (λ x y. (x ≡ a) × (low ≤ y) × (y < end)) was (record { w = w; h = h; cells = after })
unfolding black_at
filled w h a low end from count cells before written after was e n is_before is_written is_after column order rows is_from is_count =
    let P : Canvas → Type 0 = λ d. a < d.w → end ≤ d.h
    → Adds (λ x y. (x ≡ a) × (low ≤ y) × (y < end)) d (record { w = w; h = h; cells = after }) in
    let same : after ≡ put_mid from count cells (replicate count true) = is_after
    ∙ (λ t. put_mid from count (is_before t) (is_written t)) in
    subst P e (λ in_w in_h. record {
      width = refl;
      height = refl;
      pixels = λ x y in_x in_y.
          let Q : List Bool → Type 0 = λ l. IsTrue (get_or l (x * h + y) false) ↔ (IsTrue (get_or cells (x * h + y) false) ⊎ (x ≡ a)
          × (low ≤ y) × (y < end)) in
          subst Q (sym same) (written_pixel w h a low end from count cells n in_w order in_h is_from is_count x y in_x in_y);
    })
    column rows

-- a part of a column lies within the cells
pub part_within : (w h a low end from count : ℕ) → a < w → low ≤ end → end ≤ h → from ≡ a * h + low → count ≡ end - low
    → from + count ≤ w * h
part_within w h a low end from count column order rows is_from is_count =
    let k : (a + 1) * h ≤ w * h = mul-le-mul_right h (omega arith) in omega (arith, k)

-- what fills a part, at that part's length
pub part_filled : (from count : ℕ) (before written : List Bool) → from + count ≤ length before
    → written ≡ replicate (length (take count (drop from before))) true → written ≡ replicate count true
part_filled from count before written within e =
    e ∙ ap (λ m. replicate m true) (length-take-le count (drop from before) (omega (arith, length-drop from before)))

-- writing a part keeps the length
pub length-put_mid : (from count : ℕ) (before written : List Bool) → from + count ≤ length before → written ≡ replicate count true
    → length (put_mid from count before written) ≡ length before
length-put_mid from count before written within e =
    let size : length written ≡ count = ap length e ∙ length-replicate count true in
    let front : length (take from before) ≡ from = length-take-le from before (omega arith) in
    omega (
      arith,
      size,
      front,
      length-append (take from before) (written ++ drop count (drop from before)),
      length-append written (drop count (drop from before)),
      length-drop count (drop from before),
      length-drop from before,
    )

-- what a canvas shows after one cell was written
pub set_pixel : (w h a b at : ℕ) (cells after : List Bool) (was : Canvas)
    → (let d : Canvas = record { w = w; h = h; cells = cells } in d ≡ was) → length cells ≡ w * h → after ≡ set cells at true → a < was.w
    → b < was.h → at ≡ a * h + b → Adds (λ x y. (x ≡ a) × (y ≡ b)) was (record { w = w; h = h; cells = after })
unfolding black_at
set_pixel w h a b at cells after was e n is_after column row is_at =
    let P : Canvas → Type 0 = λ d. a < d.w → b < d.h → Adds (λ x y. (x ≡ a) × (y ≡ b)) d (record { w = w; h = h; cells = after }) in
    subst P e (λ in_w in_h. record {
      width = refl;
      height = refl;
      pixels = λ x y in_x in_y.
          let Q : List Bool → Type 0 = λ l. IsTrue (get_or l (x * h + y) false) ↔ (IsTrue (get_or cells (x * h + y) false) ⊎ (x ≡ a)
          × (y ≡ b)) in
          subst Q (sym is_after)
          (elim (cases_eq (x * h + y) at) [
            | inl same ↦
                let here = same_from_place x y a b h in_y in_h (same ∙ is_at) in
                blackened _ _ _ (ap (λ m. get_or (set cells at true) m false) same
                ∙ get_or-set_same cells at true false (omega (arith, is_at, place_within w h a b cells n in_w in_h))) here
            | inr apart ↦
                kept _ _ _ (get_or-set_other cells at (x * h + y) true false apart)
                (λ k. apart ((λ t. k.0 t * h + k.1 t) ∙ sym is_at))
          ]);
    })
    column row
