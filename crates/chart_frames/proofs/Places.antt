-- How far a frame was read: reading on, and more bytes.
use Rattle.std.proofs.Common.{◌≡◌, ℕ, ◌+◌, ◌-◌, ◌*◌, ◌≤◌, List, [], ◌∷◌, ◌++◌, length, drop, Result, refl, sym, ap, ◌∙◌, subst, arith}
use Rattle.std.proofs.Common.{append_assoc, length-append}
use Rattle.std.proofs.lemmas.List.{drop_at}
use Rattle.om3_coeff.specs.declared.key.Key.{Key}
use Rattle.om3_coeff.specs.declared.coef.Coef.{Coef}
use Rattle.m4_groups.specs.declared.row.Row.{Row}
use Rattle.chart_frames.specs.declared.fields.Stop.{Stop}
use Rattle.chart_frames.specs.declared.frame.ViewFrame.{ViewFrame}
use Rattle.chart_frames.specs.declared.frame.RowsFrame.{RowsFrame}
use Rattle.chart_frames.specs.declared.item_stop.ItemStop.{ItemStop}
use Rattle.chart_frames.specs.declared.item_stop.ItemStop.TheVariants as stops
use Rattle.chart_frames.specs.declared.opening.Opening.{Opening}
use Rattle.chart_frames.specs.declared.opening.Opening.TheVariants as openings
use Rattle.chart_frames.specs.declared.place.Place.{Place}
use Rattle.chart_frames.specs.declared.place.Place.TheVariants as places
use Rattle.chart_frames.specs.Format.{number_bytes, spell}
use Rattle.chart_frames.specs.Reading.{read}
use Rattle.chart_frames.specs.Fields.{coefs_fields, rows_fields, frame_fields}
use Rattle.chart_frames.specs.Frames.{view_numbers, rows_numbers, FitCoefs, FitRows, FitsViewHead, FitsRowsHead}
use Rattle.chart_frames.specs.Spelled.{framed, place_before, source_before, view_before, coef_before, coefs_before, rows_before, row_before}
use Rattle.chart_frames.specs.Spelled.{rows_all_before, frame_before}
use Rattle.chart_frames.specs.Items.{Fails, last_key, last_column}
use Rattle.chart_frames.specs.Places.{Opens, Reached, ViewReached, RowsReached, IsWhole, AreAll, Leaves, view_frame, rows_frame}
use Rattle.chart_frames.proofs.Numbers.{length-number_bytes}
use Rattle.chart_frames.proofs.Frames.{view_spelled, rows_frame_spelled, view_read_on, rows_read_on}

-- ---- lengths

number_more : (size n : ℕ) (tail : List ℕ) → length (number_bytes size n ++ tail) ≡ size + length tail
number_more size n tail = omega (arith, length-append (number_bytes size n) tail, length-number_bytes size n)

place_length : (v : ViewFrame) (tail : List ℕ) → length (place_before v tail) ≡ 26 + length tail
unfolding place_before
place_length v tail = simp number_more (omega arith)

source_length : (v : ViewFrame) (tail : List ℕ) → length (source_before v tail) ≡ 57 + length tail
unfolding source_before
source_length v tail = simp number_more (omega arith)

coef_length : (e : Key × Coef) (tail : List ℕ) → length (coef_before e tail) ≡ 25 + length tail
unfolding coef_before
coef_length e tail = simp number_more (omega arith)

coefs_length : (coefs : List (Key × Coef)) (tail : List ℕ) → length (coefs_before coefs tail) ≡ 25 * length coefs + length tail
coefs_length [] tail = omega arith
coefs_length (e ∷ es) tail = omega (arith, coef_length e (coefs_before es tail), coefs_length es tail)

framed_length : (total kind : ℕ) (tail : List ℕ) → length (framed total kind tail) ≡ 5 + length tail
framed_length total kind tail = omega (arith, number_more 4 total (number_bytes 1 kind ++ tail), number_more 1 kind tail)

view_length : (v : ViewFrame) (coefs : List (Key × Coef)) (tail : List ℕ)
    → length (framed (84 + 25 * v.count) 5 (view_before v (coefs_before coefs tail))) ≡ 88 + 25 * length coefs + length tail
view_length v coefs tail =
    omega (
      arith,
      framed_length (84 + 25 * v.count) 5 (view_before v (coefs_before coefs tail)),
      place_length v (source_before v (coefs_before coefs tail)),
      source_length v (coefs_before coefs tail),
      coefs_length coefs tail,
    )

head_length : (r : RowsFrame) (tail : List ℕ) → length (rows_before r tail) ≡ 26 + length tail
unfolding rows_before
head_length r tail = simp number_more (omega arith)

row_length : (r : Row) (tail : List ℕ) → length (row_before r tail) ≡ 34 + length tail
unfolding row_before
row_length r tail = simp number_more (omega arith)

rows_length : (rows : List Row) (tail : List ℕ) → length (rows_all_before rows tail) ≡ 34 * length rows + length tail
rows_length [] tail = omega arith
rows_length (r ∷ rs) tail = omega (arith, row_length r (rows_all_before rs tail), rows_length rs tail)

rows_frame_length : (r : RowsFrame) (rows : List Row) (tail : List ℕ)
    → length (framed (27 + 34 * r.count) 6 (rows_before r (rows_all_before rows tail))) ≡ 31 + 34 * length rows + length tail
rows_frame_length r rows tail =
    omega (
      arith,
      framed_length (27 + 34 * r.count) 6 (rows_before r (rows_all_before rows tail)),
      head_length r (rows_all_before rows tail),
      rows_length rows tail,
    )

-- ---- what lies behind

behind : (bytes front rest : List ℕ) (n : ℕ) → bytes ≡ front ++ rest → length bytes ≡ n + length rest → drop n bytes ≡ rest
behind bytes front rest n e len =
    let front_is : length front ≡ n = omega (arith, len, ap length e, length-append front rest) in
    ap (drop n) e ∙ drop_at front rest n front_is

-- so many bytes stand before the next coefficient
pub view_room : (bytes : List ℕ) (v : ViewFrame) (coefs : List (Key × Coef)) → ViewReached bytes v coefs
    → 88 + 25 * length coefs ≤ length bytes
view_room bytes v coefs h = omega (arith, ap length h.begins, view_length v coefs h.rest)

view_behind : (bytes : List ℕ) (v : ViewFrame) (coefs : List (Key × Coef)) (h : ViewReached bytes v coefs)
    → drop (88 + 25 * length coefs) bytes ≡ h.rest
view_behind bytes v coefs h =
    behind bytes (spell frame_fields (view_numbers v coefs)) h.rest (88 + 25 * length coefs) (h.begins
    ∙ sym (view_spelled v coefs h.rest h.room)) (ap length h.begins ∙ view_length v coefs h.rest)

pub rows_room : (bytes : List ℕ) (r : RowsFrame) (rows : List Row) → RowsReached bytes r rows → 31 + 34 * length rows ≤ length bytes
rows_room bytes r rows h = omega (arith, ap length h.begins, rows_frame_length r rows h.rest)

rows_behind : (bytes : List ℕ) (r : RowsFrame) (rows : List Row) (h : RowsReached bytes r rows)
    → drop (31 + 34 * length rows) bytes ≡ h.rest
rows_behind bytes r rows h =
    behind bytes (spell frame_fields (rows_numbers r rows)) h.rest (31 + 34 * length rows) (h.begins
    ∙ sym (rows_frame_spelled r rows h.rest h.room)) (ap length h.begins ∙ rows_frame_length r rows h.rest)

-- ---- reading on

view_begins : (bytes : List ℕ) (v : ViewFrame) (old new : List (Key × Coef)) (h : ViewReached bytes v old) (items tail : List ℕ)
    → items ≡ drop (88 + 25 * length old) bytes
    → coefs_before new tail ≡ coefs_before old items → bytes ≡ framed (84 + 25 * v.count) 5 (view_before v (coefs_before new tail))
view_begins bytes v old new h items tail is same =
    h.begins ∙ ap (λ (p : List ℕ). framed (84 + 25 * v.count) 5 (view_before v p))
    (ap (coefs_before old) (sym (is ∙ view_behind bytes v old h)) ∙ sym same)

pub view_reached_on : (bytes : List ℕ) (v : ViewFrame) (old new : List (Key × Coef)) (h : ViewReached bytes v old) (items tail : List ℕ)
    → items ≡ drop (88 + 25 * length old) bytes
    → FitCoefs v.slots new → length new ≤ v.count → coefs_before new tail ≡ coefs_before old items → ViewReached bytes v new
view_reached_on bytes v old new h items tail is fits room same = record {
  head = h.head;
  fits = fits;
  room = room;
  rest = tail;
  begins = view_begins bytes v old new h items tail is same;
}

pub view_whole_on : (bytes : List ℕ) (v : ViewFrame) (old new : List (Key × Coef)) (h : ViewReached bytes v old) (items tail : List ℕ)
    → items ≡ drop (88 + 25 * length old) bytes
    → length new ≡ v.count → coefs_before new tail ≡ coefs_before old items → IsWhole bytes v new (length tail)
view_whole_on bytes v old new h items tail is count same = record {
  count = count;
  rest = tail;
  begins = view_begins bytes v old new h items tail is same;
  left_is = refl;
}

fails_same : (e : ItemStop) (r s : Result (List ℕ) Stop) → r ≡ s → Fails e s → Fails e r
fails_same (stops.Stop e) r s same h = same ∙ h
fails_same stops.NoMemory r s same h = tt

pub view_fails_on : (bytes : List ℕ) (v : ViewFrame) (old new : List (Key × Coef)) (h : ViewReached bytes v old) (items tail : List ℕ)
    (e : ItemStop) → items ≡ drop (88 + 25 * length old) bytes
    → FitCoefs v.slots new → length new ≤ v.count → coefs_before new tail ≡ coefs_before old items
    → Fails e (read (coefs_fields v.slots (last_key new) (v.count - length new)) tail) → Fails e (read frame_fields bytes)
view_fails_on bytes v old new h items tail e is fits room same fails =
    fails_same e (read frame_fields bytes) (read (coefs_fields v.slots (last_key new) (v.count - length new)) tail)
    (ap (read frame_fields) (view_begins bytes v old new h items tail is same) ∙ view_read_on v new tail h.head fits room) fails

rows_begins : (bytes : List ℕ) (r : RowsFrame) (old new : List Row) (h : RowsReached bytes r old) (items tail : List ℕ)
    → items ≡ drop (31 + 34 * length old) bytes
    → rows_all_before new tail ≡ rows_all_before old items → bytes ≡ framed (27 + 34 * r.count) 6 (rows_before r (rows_all_before new tail))
rows_begins bytes r old new h items tail is same =
    h.begins ∙ ap (λ (p : List ℕ). framed (27 + 34 * r.count) 6 (rows_before r p))
    (ap (rows_all_before old) (sym (is ∙ rows_behind bytes r old h)) ∙ sym same)

pub rows_reached_on : (bytes : List ℕ) (r : RowsFrame) (old new : List Row) (h : RowsReached bytes r old) (items tail : List ℕ)
    → items ≡ drop (31 + 34 * length old) bytes
    → FitRows r.w new → length new ≤ r.count → rows_all_before new tail ≡ rows_all_before old items → RowsReached bytes r new
rows_reached_on bytes r old new h items tail is fits room same = record {
  head = h.head;
  fits = fits;
  room = room;
  rest = tail;
  begins = rows_begins bytes r old new h items tail is same;
}

pub rows_whole_on : (bytes : List ℕ) (r : RowsFrame) (old new : List Row) (h : RowsReached bytes r old) (items tail : List ℕ)
    → items ≡ drop (31 + 34 * length old) bytes
    → length new ≡ r.count → rows_all_before new tail ≡ rows_all_before old items → AreAll bytes r new (length tail)
rows_whole_on bytes r old new h items tail is count same = record {
  count = count;
  rest = tail;
  begins = rows_begins bytes r old new h items tail is same;
  left_is = refl;
}

pub rows_fails_on : (bytes : List ℕ) (r : RowsFrame) (old new : List Row) (h : RowsReached bytes r old) (items tail : List ℕ) (e : ItemStop)
    → items ≡ drop (31 + 34 * length old) bytes
    → FitRows r.w new → length new ≤ r.count → rows_all_before new tail ≡ rows_all_before old items
    → Fails e (read (rows_fields r.w (last_column new) (r.count - length new)) tail) → Fails e (read frame_fields bytes)
rows_fails_on bytes r old new h items tail e is fits room same fails =
    fails_same e (read frame_fields bytes) (read (rows_fields r.w (last_column new) (r.count - length new)) tail)
    (ap (read frame_fields) (rows_begins bytes r old new h items tail is same) ∙ rows_read_on r new tail h.head fits room) fails

-- ---- a whole frame

view_again : (v : ViewFrame) (coefs : List (Key × Coef)) (tail : List ℕ)
    → framed (84 + 25 * v.count) 5 (view_before v (coefs_before coefs tail)) ≡ frame_before (view_frame v coefs) tail
unfolding place_before source_before
view_again v coefs tail = refl

rows_again : (r : RowsFrame) (rows : List Row) (tail : List ℕ)
    → framed (27 + 34 * r.count) 6 (rows_before r (rows_all_before rows tail)) ≡ frame_before (rows_frame r rows) tail
unfolding rows_before
rows_again r rows tail = refl

pub view_leaves : (bytes : List ℕ) (v : ViewFrame) (coefs : List (Key × Coef)) (left : ℕ) → ViewReached bytes v coefs
    → IsWhole bytes v coefs left → Leaves bytes (view_frame v coefs) left
view_leaves bytes v coefs left h w = record {
  fits = record { head = record { place = h.head.place; source = h.head.source; most = h.head.most }; count = sym w.count; coefs = h.fits };
  rest = w.rest;
  begins = w.begins ∙ view_again v coefs w.rest;
  left_is = w.left_is;
}

pub rows_leaves : (bytes : List ℕ) (r : RowsFrame) (rows : List Row) (left : ℕ) → RowsReached bytes r rows → AreAll bytes r rows left
    → Leaves bytes (rows_frame r rows) left
rows_leaves bytes r rows left h w = record {
  fits = record {
    head = record {
      session = h.head.session;
      width = h.head.width;
      height = h.head.height;
      range = h.head.range;
      most = h.head.most;
    };
    count = sym w.count;
    rows = h.fits;
  };
  rest = w.rest;
  begins = w.begins ∙ rows_again r rows w.rest;
  left_is = w.left_is;
}

-- ---- more bytes

-- what was read of the front of some bytes is read of the front of more of them
pub fed : (bytes more : List ℕ) (place : Place) → Reached bytes place → Reached (bytes ++ more) place
fed bytes more places.Start h = tt
fed bytes more (places.View v coefs) h = record {
  head = h.head;
  fits = h.fits;
  room = h.room;
  rest = h.rest ++ more;
  begins = ap (λ (p : List ℕ). p ++ more) (h.begins ∙ sym (view_spelled v coefs.items h.rest h.room))
      ∙ append_assoc (spell frame_fields (view_numbers v coefs.items)) h.rest more
      ∙ view_spelled v coefs.items (h.rest ++ more) h.room;
}
fed bytes more (places.Rows r rows) h = record {
  head = h.head;
  fits = h.fits;
  room = h.room;
  rest = h.rest ++ more;
  begins = ap (λ (p : List ℕ). p ++ more) (h.begins ∙ sym (rows_frame_spelled r rows.items h.rest h.room))
      ∙ append_assoc (spell frame_fields (rows_numbers r rows.items)) h.rest more
      ∙ rows_frame_spelled r rows.items (h.rest ++ more) h.room;
}

-- ---- nothing but the opening

pub opened_view : (bytes rest : List ℕ) (opening : Opening) (v : ViewFrame) (coefs : List (Key × Coef)) → opening ≡ openings.View v
    → coefs ≡ [] → Opens bytes opening rest → ViewReached bytes v coefs
opened_view bytes rest opening v coefs is none h =
    let P : Opening → Type 0 = λ o. Opens bytes o rest in
    let Q : List (Key × Coef) → Type 0 = λ xs. ViewReached bytes v xs in
    let opens : FitsViewHead v × (bytes ≡ framed (84 + 25 * v.count) 5 (view_before v rest)) = subst P is h in
    subst Q (sym none) (record {
      head = opens.0;
      fits = record { each = λ k d lt. absurd (omega (arith, lt)); order = λ i j d lt end. absurd (omega (arith, end)) };
      room = omega arith;
      rest = rest;
      begins = opens.1;
    })

pub opened_rows : (bytes rest : List ℕ) (opening : Opening) (r : RowsFrame) (rows : List Row) → opening ≡ openings.Rows r → rows ≡ []
    → Opens bytes opening rest → RowsReached bytes r rows
opened_rows bytes rest opening r rows is none h =
    let P : Opening → Type 0 = λ o. Opens bytes o rest in
    let Q : List Row → Type 0 = λ xs. RowsReached bytes r xs in
    let opens : FitsRowsHead r × (bytes ≡ framed (27 + 34 * r.count) 6 (rows_before r rest)) = subst P is h in
    subst Q (sym none) (record {
      head = opens.0;
      fits = record { each = λ k d lt. absurd (omega (arith, lt)); order = λ i j d lt end. absurd (omega (arith, end)) };
      room = omega arith;
      rest = rest;
      begins = opens.1;
    })
