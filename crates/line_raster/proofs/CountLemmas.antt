use Rattle.std.proofs.Common.{◌≡◌, ℕ, zero, suc, ◌+◌, ◌*◌, ◌≤◌, Bool, false, List, ◌∷◌, length, get_or, take, drop, refl, sym, ◌∙◌, ap}
use Rattle.std.proofs.Common.{arith, sum_by, count_by, cond}
use Rattle.std.specs.List.{range_with_len}
use Rattle.std.proofs.lemmas.List.{drop_more, take_all}
use Rattle.std.proofs.Math.Seq.{take-add, drop-drop}
use Rattle.std.proofs.Math.Nat.{mul-le-mul_right}
use Rattle.std.proofs.lemmas.List.Sums.{sum_by-cons, sum_by-append}
use Rattle.line_raster.specs.Canvas.{Canvas, black_at, black_pixels}

-- the black ones of a list of cells
abbrev black_cells : List Bool → ℕ
black_cells l = count_by (λ b. b) l

-- the black ones among n cells, counted by their places
counted : (l : List Bool) (from a n : ℕ) → from + a + n ≤ length l
    → count_by (λ y. get_or l (from + y) false) (range_with_len a n) ≡ black_cells (take n (drop (from + a) l))
counted l from a zero within = refl
counted l from a (suc n) within =
    let rest : count_by (λ y. get_or l (from + y) false) (range_with_len (a + 1) n) ≡ black_cells
    (take n (drop (from + (a + 1)) l)) = counted l from (a + 1) n (omega arith) in
    let next : from + (a + 1) ≡ from + a + 1 = omega arith in
    let parts : get_or l (from + a) false ∷ take n (drop (from + a + 1) l) ≡ take (suc n) (drop (from + a) l) = ap (take (suc n))
    (sym (drop_more l (from + a) false (omega arith))) in
    sum_by-cons (λ y. cond (get_or l (from + y) false) 1 0) a (range_with_len (a + 1) n)
    ∙ ap (λ m. cond (get_or l (from + a) false) 1 0 + m) (rest ∙ ap (λ j. black_cells (take n (drop j l))) next)
    ∙ sym (sum_by-cons (λ b. cond b 1 0) (get_or l (from + a) false) (take n (drop (from + a + 1) l)))
    ∙ ap black_cells parts

-- the black ones of n columns, from column a on
counted_columns : (h a n : ℕ) (l : List Bool) → (a + n) * h ≤ length l
    → sum_by (λ x. count_by (λ y. get_or l (x * h + y) false) (range_with_len 0 h)) (range_with_len a n) ≡ black_cells
    (take (n * h) (drop (a * h) l))
counted_columns h a zero l within = ap (λ m. black_cells (take m (drop (a * h) l))) (let e : 0 ≡ zero * h = omega arith in e)
counted_columns h a (suc n) l within =
    let column = λ (x : ℕ). count_by (λ y. get_or l (x * h + y) false) (range_with_len 0 h) in
    let room : a * h + h ≤ length l = (let k : (a + 1) * h ≤ (a + suc n) * h = mul-le-mul_right h (omega arith) in
    omega (arith, k, within)) in
    let first : column a ≡ black_cells (take h (drop (a * h + 0) l)) = counted l (a * h) 0 h (omega (arith, room)) in
    let rest : sum_by column (range_with_len (a + 1) n) ≡ black_cells (take (n * h) (drop ((a + 1) * h) l)) = counted_columns h (a + 1) n l
    (let k : (a + 1 + n) * h ≡ (a + suc n) * h = omega arith in omega (arith, k, within)) in
    let at : (a + 1) * h ≡ a * h + h = omega arith in
    let here : a * h + 0 ≡ a * h = omega arith in
    let size : h + n * h ≡ suc n * h = omega arith in
    sum_by-cons column a (range_with_len (a + 1) n)
    ∙ (λ t. (first ∙ ap (λ j. black_cells (take h (drop j l))) here) t + (rest ∙ ap (λ j. black_cells (take (n * h) (drop j l))) at
    ∙ ap (λ m. black_cells (take (n * h) m)) (sym (drop-drop h (a * h) l))) t)
    ∙ sym (sum_by-append (λ b. cond b 1 0) (take h (drop (a * h) l)) (take (n * h) (drop h (drop (a * h) l))))
    ∙ ap black_cells (sym (take-add h (n * h) (drop (a * h) l)))
    ∙ ap (λ m. black_cells (take m (drop (a * h) l))) size

-- the black ones of all cells are the black pixels
pub black_pixels-stored : (w h : ℕ) (cells : List Bool) (c : Canvas) → (let d : Canvas = record { w = w; h = h; cells = cells } in d ≡ c)
    → length cells ≡ w * h → black_cells cells ≡ black_pixels c
unfolding black_at
black_pixels-stored w h cells c e n =
    let stored : Canvas = record { w = w; h = h; cells = cells } in
    let zero_place : 0 * h ≡ 0 = omega arith in
    let whole : take (w * h) (drop (0 * h) cells) ≡ cells = ap (λ j. take (w * h) (drop j cells)) zero_place
    ∙ take_all (w * h) cells (omega (arith, n)) in
    sym (counted_columns h 0 w cells (omega (arith, n)) ∙ ap black_cells whole) ∙ ap black_pixels e
