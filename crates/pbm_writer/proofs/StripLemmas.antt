use Rattle.std.proofs.Common.{◌≡◌, ◌≢◌, ℕ, zero, suc, ◌+◌, ◌-◌, ◌*◌, ◌%◌, ◌<◌, ◌≤◌, List, [], ◌∷◌, ◌++◌, length, get_or, set, take, drop}
use Rattle.std.proofs.Common.{refl, sym, ◌∙◌, ap, inl, inr, arith, length-drop, length-set}
use Rattle.std.proofs.lemmas.List.{get_or-set_other, get_or-set_same, get_or-take, get_or-drop, take-append-drop, length-take-le}
use Rattle.std.proofs.lemmas.List.FromFn.{fill_by_all}
use Rattle.std.proofs.lemmas.Bool.{cases_eq}
use Rattle.std.proofs.lemmas.Nat.{mul-add-lt, mod-mul-add, same_from_place}
use Rattle.line_raster.specs.Canvas.{Canvas}
use Rattle.pbm_writer.specs.Picture.{byte_at, row_bytes, row, rows_below}
use Rattle.pbm_writer.specs.Strip.{IsStrip, IsColumn}

-- one row more
pub strip_more : (c : Canvas) (k y i v : ℕ) (old now : List ℕ) → length old ≡ c.h * row_bytes c.w → k < row_bytes c.w → y < c.h
    → i ≡ (c.h - 1 - y) * row_bytes c.w + k → v ≡ byte_at c k y → IsStrip c k y old now → IsStrip c k (y + 1) old (set now i v)
strip_more c k y i v old now size in_row in_h is_i is_v before =
    let within : i < length now = omega (
      arith,
      is_i,
      before.size,
      size,
      mul-add-lt (c.h - 1 - y) (row_bytes c.w) k c.h (omega arith) in_row,
    ) in
    record {
      size = length-set now i v ∙ before.size;
      written = λ b below.
          elim (cases_eq b y) [
            | inl same ↦ ap (λ m. get_or (set now i v) m 0) (ap (λ m. (c.h - 1 - m) * row_bytes c.w + k) same ∙ sym is_i)
                ∙ get_or-set_same now i v 0 within ∙ is_v ∙ ap (byte_at c k) (sym same)
            | inr apart ↦
                let other : (c.h - 1 - b) * row_bytes c.w + k ≢ i = λ e.
                (let same = same_from_place (c.h - 1 - b) k (c.h - 1 - y) k (row_bytes c.w) in_row in_row (e ∙ is_i) in
                apart (omega (arith, same.0, below, in_h))) in
                get_or-set_other now i _ v 0 other ∙ before.written b (omega (arith, below, apart))
          ];
      others = λ j apart.
          let other : j ≢ i = λ e. apart (ap (λ m. m % row_bytes c.w) (e ∙ is_i) ∙ mod-mul-add (c.h - 1 - y) (row_bytes c.w) k in_row) in
          get_or-set_other now i j v 0 other ∙ before.others j apart;
    }

-- bytes 0 to k - 1 of each row are written
pub record HasStrips (c : Canvas) (k : ℕ) (rows : List ℕ) : Type 0 where
  pub size : length rows ≡ c.h * row_bytes c.w
  pub written : (j y : ℕ) → j < k → y < c.h → get_or rows ((c.h - 1 - y) * row_bytes c.w + j) 0 ≡ byte_at c j y

-- one byte of each row more
pub strips_more : (c : Canvas) (k : ℕ) (now new : List ℕ) → k < row_bytes c.w → HasStrips c k now → IsStrip c k c.h now new
    → HasStrips c (k + 1) new
strips_more c k now new in_row before strip = record {
  size = strip.size ∙ before.size;
  written = λ j y below in_h.
      elim (cases_eq j k) [
        | inl same ↦ ap (λ m. get_or new ((c.h - 1 - y) * row_bytes c.w + m) 0) same ∙ strip.written y in_h
            ∙ ap (λ m. byte_at c m y) (sym same)
        | inr apart ↦
            let left : j < k = omega (arith, below, apart) in
            let other : ((c.h - 1 - y) * row_bytes c.w + j) % row_bytes c.w ≢ k = λ e. apart
            (sym (mod-mul-add (c.h - 1 - y) (row_bytes c.w) j (omega (arith, left, in_row))) ∙ e) in
            strip.others _ other ∙ before.written j y left in_h
      ];
}

-- rows whose bytes are all written
rows_written : (c : Canvas) (n : ℕ) (rows : List ℕ) → length rows ≡ n * row_bytes c.w
    → ((j y : ℕ) → j < row_bytes c.w → y < n → get_or rows ((n - 1 - y) * row_bytes c.w + j) 0 ≡ byte_at c j y) → rows ≡ rows_below c n
rows_written c zero [] size written = refl
rows_written c zero (b ∷ bs) size written = absurd (omega (arith, size))
rows_written c (suc n) rows size written =
    let r : ℕ = row_bytes c.w in
    let room : r ≤ length rows = omega (arith, size) in
    let first : take r rows ≡ row c n =
    fill_by_all (λ k. byte_at c k n) (take r rows) r 0 (length-take-le r rows room)
    (λ j below.
    let at : j ≡ (suc n - 1 - n) * r + j = (let e : (suc n - 1 - n) * r ≡ 0 = (let z : suc n - 1 - n ≡ 0 = omega arith in
    ap (λ m. m * r) z ∙ omega arith) in omega (arith, e)) in
    get_or-take r rows j 0 below ∙ ap (λ m. get_or rows m 0) at ∙ written j n below (omega arith)) in
    let rest : drop r rows ≡ rows_below c n =
    rows_written c n (drop r rows) (omega (arith, length-drop r rows, size))
    (λ j y below in_h.
    let at : r + ((n - 1 - y) * r + j) ≡ (suc n - 1 - y) * r + j = (let e : suc n - 1 - y ≡ suc (n - 1 - y) = omega (arith, in_h) in
    omega (arith, ap (λ m. m * r) e)) in
    get_or-drop r rows ((n - 1 - y) * r + j) 0 ∙ ap (λ m. get_or rows m 0) at ∙ written j y below (omega (arith, in_h))) in
    sym (take-append-drop r rows) ∙ (λ t. first t ++ rest t)

-- all rows are written
pub strips_all : (c : Canvas) (rows : List ℕ) (k : ℕ) → row_bytes c.w ≤ k → HasStrips c k rows → rows ≡ rows_below c c.h
strips_all c rows k all strips = rows_written c c.h rows strips.size (λ j y below in_h. strips.written j y (omega (arith, below, all)) in_h)

-- where a byte of a row stands among the rows
pub place_in_rows : (c : Canvas) (above r k y : ℕ) (rows : List ℕ) → length rows ≡ c.h * row_bytes c.w → above ≡ c.h - 1 - y
    → r ≡ row_bytes c.w → y < c.h → k < row_bytes c.w → above * r + k < length rows
place_in_rows c above r k y rows size is_above is_r in_h in_row =
    let e : above * r ≡ (c.h - 1 - y) * row_bytes c.w = λ t. is_above t * is_r t in
    omega (arith, size, e, mul-add-lt (c.h - 1 - y) (row_bytes c.w) k c.h (omega (arith, in_h)) in_row)

-- one byte of a column more
pub column_more : (c : Canvas) (k y i v : ℕ) (old now : List ℕ) → y < length old → i ≡ y → v ≡ byte_at c k y → IsColumn c k y old now
    → IsColumn c k (y + 1) old (set now i v)
column_more c k y i v old now room is_i is_v before = record {
  size = length-set now i v ∙ before.size;
  written = λ b below.
      elim (cases_eq b y) [
        | inl same ↦ ap (λ m. get_or (set now i v) m 0) (same ∙ sym is_i)
            ∙ get_or-set_same now i v 0 (omega (arith, is_i, before.size, room)) ∙ is_v ∙ ap (byte_at c k) (sym same)
        | inr apart ↦ get_or-set_other now i b v 0 (λ e. apart (e ∙ is_i)) ∙ before.written b (omega (arith, below, apart))
      ];
}
