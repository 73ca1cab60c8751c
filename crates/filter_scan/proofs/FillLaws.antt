-- How a table fills, range by range.
use Rattle.std.proofs.Common.{ℕ, ℤ, ◌≡◌, ◌+◌, ◌*◌, ◌^◌, ◌<◌, ◌≤◌, ◌⊎◌, inl, inr, arith, List, length, sym, ◌∙◌, ap, subst, get_or-set_same}
use Rattle.std.proofs.Common.{get_or-set_other}
use Rattle.std.proofs.lemmas.Bool.{cases_lt}
use Rattle.std.proofs.lemmas.Int.{ints}
use Rattle.std.proofs.lemmas.Option.{same_Some}
use Rattle.std.specs.Prelude.{Option, Some, None, ◌≢◌, slice_get}
use Rattle.std.specs.Int.{cast_signed, cast_unsigned, w64}
use Rattle.chart_grid.specs.Projection.{column}
use Rattle.chart_grid.specs.Slots.{slot_time}
use Rattle.om3_coeff.specs.declared.key.Key.{Key}
use Rattle.om3_coeff.specs.declared.span.Span.{Span}
use Rattle.om3_coeff.specs.Keys.{first_slot, end_slot, left_of, right_of}
use Rattle.om3_coeff.specs.Spans.{Holds, AreExtremes, IsSpanOf, span}
use Rattle.om3_coeff.specs.View.{NodesView, Agrees}
use Rattle.om3_coeff.specs.Walks.{IsReached}
use Rattle.om3_coeff.proofs.ExtremeLemmas.{span_over_is, none-clear}
use Rattle.om3_coeff.proofs.KnownLemmas.{reached_span}
use Rattle.om3_coeff.proofs.KeyLemmas.{left_first, right_end}
use Rattle.om3_coeff.proofs.EndLemmas.{holds_here, has_slots}
use Rattle.m4_groups.specs.declared.row.Row.{Row}
use Rattle.value_filter.specs.declared.steps.Step.{Step}
use Rattle.filter_scan.specs.declared.scans.Scan.{Scan}
use Rattle.filter_scan.specs.Table.{entry, joined, with_row}
use Rattle.filter_scan.specs.Taken.{Takes, IsTaken, IsRowOf, IsNoneTaken, IsRowIn, Fills, FillsSlot, row_of}
use Rattle.filter_scan.specs.Shares.{TakesNone, TakesAll}
use Rattle.filter_scan.specs.Ends.{IsWholeRow}
use Rattle.filter_scan.proofs.Merging.{row_more, row_same}

-- nothing was taken before the first slot
pub fills_start : (s : Scan) (f : Option (List Step)) (list : List (Option ℤ)) (n : ℕ) (table : List (Option Row)) → n ≡ 0
    → ((c : ℕ) → entry table c ≡ None) → Fills s f list n table
fills_start s f list n table zero none = record {
  each = λ c.
      let P : Option Row → Type 0 = λ o. IsRowIn (Takes s f c) list 0 n o in
      subst P (sym (none c)) (λ i v h. omega (arith, h.high, zero));
}

-- nothing is taken of a range
pub fills_none : (s : Scan) (f : Option (List Step)) (list : List (Option ℤ)) (a b : ℕ) (table : List (Option Row)) → a ≤ b
    → ((c : ℕ) → IsNoneTaken (Takes s f c) list a b) → Fills s f list a table → Fills s f list b table
fills_none s f list a b table le none h = record { each = λ c. row_same (Takes s f c) list 0 a b (entry table c) le (h.each c) (none c) }

-- the row of a range is put into the table
other_column : (c d : ℕ) → (c < d) ⊎ (d < c) → c ≢ d
other_column c d (inl h) = λ e. omega (arith, h, e)
other_column c d (inr h) = λ e. omega (arith, h, e)

pub fills_row : (s : Scan) (f : Option (List Step)) (list : List (Option ℤ)) (a b : ℕ) (old : List (Option Row)) (r : Row) → a ≤ b
    → r.column < length old → IsRowOf (Takes s f r.column) list a b r → ((c : ℕ) → c ≢ r.column → IsNoneTaken (Takes s f c) list a b)
    → Fills s f list a old → Fills s f list b (with_row old r)
fills_row s f list a b old r le short is none h = record { each = λ c. at c }
  where
    own : (c : ℕ) → c ≡ r.column → IsRowIn (Takes s f c) list 0 b (entry (with_row old r) c)
    own c e =
        let P : Option Row → Type 0 = λ o. IsRowIn (Takes s f r.column) list 0 b o in
        let Q : ℕ → Type 0 = λ d. IsRowIn (Takes s f d) list 0 b (entry (with_row old r) d) in
        subst Q (sym e)
        (subst P (sym (get_or-set_same old r.column (Some (joined (entry old r.column) r)) None short))
        (row_more (Takes s f r.column) list 0 a b (entry old r.column) r (omega arith) le (h.each r.column) is))

    other : (c : ℕ) → c ≢ r.column → IsRowIn (Takes s f c) list 0 b (entry (with_row old r) c)
    other c ne =
        let P : Option Row → Type 0 = λ o. IsRowIn (Takes s f c) list 0 b o in
        subst P (sym (get_or-set_other old r.column c (Some (joined (entry old r.column) r)) None ne))
        (row_same (Takes s f c) list 0 a b (entry old c) le (h.each c) (none c ne))

    at : (c : ℕ) → IsRowIn (Takes s f c) list 0 b (entry (with_row old r) c)
    at c =
        elim (cases_lt c r.column) [
          | inl less ↦ other c (other_column c r.column (inl less))
          | inr le ↦ elim (cases_lt r.column c) [
            | inl less ↦ other c (other_column c r.column (inr less))
            | inr more ↦ own c (omega (arith, le, more))
          ]
        ]

-- a key without a span
pub fills_missing : (view : NodesView) (s : Scan) (f : Option (List Step)) (list : List (Option ℤ)) (k : Key) (o : Option Span)
    (table : List (Option Row)) → o ≡ None
    → Agrees view list → IsReached view k o → Fills s f list (first_slot k) table → Fills s f list (end_slot k) table
fills_missing view s f list k o table is agrees reached h =
    let none : span list k ≡ None = sym (reached_span view list k o agrees reached) ∙ is in
    fills_none s f list (first_slot k) (end_slot k) table (omega (arith, has_slots k))
    (λ c i v t. none-clear list (first_slot k) (end_slot k) none i v t.low t.high t.holds) h

-- the values of a key's range lie in its span
pub extremes_of : (view : NodesView) (list : List (Option ℤ)) (k : Key) (o : Option Span) (t : Span) → o ≡ Some t → Agrees view list
    → IsReached view k o → AreExtremes list (first_slot k) (end_slot k) t
extremes_of view list k o t is agrees reached =
    let P : Option Span → Type 0 = λ s. IsSpanOf list (first_slot k) (end_slot k) s in
    subst P (sym (reached_span view list k o agrees reached) ∙ is) (span_over_is list (first_slot k) (end_slot k))

-- a key of which nothing is taken
pub fills_nothing : (view : NodesView) (s : Scan) (f : Option (List Step)) (list : List (Option ℤ)) (k : Key) (o : Option Span) (t : Span)
    (table : List (Option Row)) → o ≡ Some t
    → TakesNone s f k t → Agrees view list → IsReached view k o → Fills s f list (first_slot k) table → Fills s f list (end_slot k) table
fills_nothing view s f list k o t table is none agrees reached h =
    let ends : AreExtremes list (first_slot k) (end_slot k) t = extremes_of view list k o t is agrees reached in
    fills_none s f list (first_slot k) (end_slot k) table (omega (arith, has_slots k))
    (λ c i v u. none.none c i v u.low u.high (ends.above i v u.low u.high u.holds) (ends.below i v u.low u.high u.holds) u.takes) h

-- a key of which everything is taken
whole_row : (s : Scan) (f : Option (List Step)) (list : List (Option ℤ)) (k : Key) (t : Span) (r : Row) → TakesAll s f k t r.column
    → AreExtremes list (first_slot k) (end_slot k) t
    → IsWholeRow list (first_slot k) (end_slot k) r → IsRowOf (Takes s f r.column) list (first_slot k) (end_slot k) r
whole_row s f list k t r all ends h = record {
  first_at = h.first.0;
  first = taken h.first.0 r.first h.first.1.0 h.first.1.1 h.first.1.2;
  before = λ i v less u. h.first.1.3 i v u.low less u.holds;
  least_at = h.extremes.least.slot;
  least = taken h.extremes.least.slot r.least h.extremes.least.low h.extremes.least.high h.extremes.least.holds;
  above = λ i v u. h.extremes.above i v u.low u.high u.holds;
  greatest_at = h.extremes.greatest.slot;
  greatest = taken h.extremes.greatest.slot r.greatest h.extremes.greatest.low h.extremes.greatest.high h.extremes.greatest.holds;
  below = λ i v u. h.extremes.below i v u.low u.high u.holds;
  last_at = h.last.0;
  last = taken h.last.0 r.last h.last.1.0 h.last.1.1 h.last.1.2;
  behind = λ i v less u. h.last.1.3 i v (omega arith) u.high u.holds;
}
  where
    taken : (i : ℕ) (v : ℤ) → first_slot k ≤ i → i < end_slot k → Holds list i v
        → IsTaken (Takes s f r.column) list (first_slot k) (end_slot k) i v
    taken i v low high holds = record {
      low = low;
      high = high;
      holds = holds;
      takes = all.each i v low high (ends.above i v low high holds) (ends.below i v low high holds);
    }

pub fills_whole : (view : NodesView) (s : Scan) (f : Option (List Step)) (list : List (Option ℤ)) (k : Key) (o : Option Span) (t : Span)
    (c : ℕ) (old new : List (Option Row)) (r : Row) → o ≡ Some t
    → TakesAll s f k t c → r.column ≡ c → length old ≡ s.grid.w → new ≡ with_row old r → Agrees view list → IsReached view k o
    → IsWholeRow list (first_slot k) (end_slot k) r
    → Fills s f list (first_slot k) old → Fills s f list (end_slot k) new
fills_whole view s f list k o t c old new r is all at sized e agrees reached whole h =
    let P : List (Option Row) → Type 0 = λ table. Fills s f list (end_slot k) table in
    let Q : ℕ → Type 0 = λ c. TakesAll s f k t c in
    let own : TakesAll s f k t r.column = subst Q (sym at) all in
    subst P (sym e)
    (fills_row s f list (first_slot k) (end_slot k) old r (omega (arith, has_slots k)) (omega (arith, all.inside.drawn, at, sized))
    (whole_row s f list k t r own (extremes_of view list k o t is agrees reached) whole)
    (λ d ne i v u. ne (sym u.takes.place ∙ own.inside.place i u.low u.high)) h)

-- a slot
slot_end : (k : Key) → k.level ≡ 0 → end_slot k ≡ k.index + 1
slot_end k zero = let width : 2 ^ k.level ≡ 1 = ap (λ n. 2 ^ n) zero in omega (arith, ap (λ n. (k.index + 1) * n) width)

slot_first : (k : Key) → k.level ≡ 0 → first_slot k ≡ k.index
slot_first k zero = let width : 2 ^ k.level ≡ 1 = ap (λ n. 2 ^ n) zero in omega (arith, ap (λ n. k.index * n) width)

one_value : (list : List (Option ℤ)) (i j : ℕ) (u v : ℤ) → Holds list i u → Holds list j v → i ≡ j → u ≡ v
one_value list i j u v p q e = same_Some u v (same_Some (Some u) (Some v) (sym p ∙ ap (slice_get list) e ∙ q))

slot_row : (s : Scan) (f : Option (List Step)) (list : List (Option ℤ)) (i c : ℕ) (v : ℤ) → Holds list i v → Takes s f c i v
    → IsRowOf (Takes s f c) list i (i + 1) (row_of c v)
slot_row s f list i c v holds takes = record {
  first_at = i;
  first = here;
  before = λ j u less t. omega (arith, less, t.low);
  least_at = i;
  least = here;
  above = λ j u t. (let e : v ≡ u = same j u t in omega (arith, ints, e));
  greatest_at = i;
  greatest = here;
  below = λ j u t. (let e : v ≡ u = same j u t in omega (arith, ints, e));
  last_at = i;
  last = here;
  behind = λ j u less t. omega (arith, less, t.high);
}
  where
    here : IsTaken (Takes s f c) list i (i + 1) i v
    here = record { low = omega arith; high = omega arith; holds = holds; takes = takes }

    same : (j : ℕ) (u : ℤ) → IsTaken (Takes s f c) list i (i + 1) j u → v ≡ u
    same j u t = one_value list i j v u holds t.holds (omega (arith, t.low, t.high))

slot_table : (s : Scan) (f : Option (List Step)) (list : List (Option ℤ)) (i : ℕ) (v : ℤ) (old new : List (Option Row)) → Holds list i v
    → length old ≡ s.grid.w → FillsSlot s f i v old new
    → Fills s f list i old → Fills s f list (i + 1) new
slot_table s f list i v old new holds sized (inl none) h =
    let P : List (Option Row) → Type 0 = λ table. Fills s f list (i + 1) table in
    subst P (sym none.1) (fills_none s f list i (i + 1) old (omega arith) (λ c j u t. none.0 c (moved c j u t)) h)
  where
    moved : (c j : ℕ) (u : ℤ) → IsTaken (Takes s f c) list i (i + 1) j u → Takes s f c i v
    moved c j u t =
        let at : j ≡ i = omega (arith, t.low, t.high) in
        let e : u ≡ v = one_value list j i u v t.holds holds at in
        let Q : ℕ → Type 0 = λ n. Takes s f c n u in
        let R : ℤ → Type 0 = λ z. Takes s f c i z in
        subst R e (subst Q at t.takes)
slot_table s f list i v old new holds sized (inr some) h =
    let r : Row = some.0 in
    let P : List (Option Row) → Type 0 = λ table. Fills s f list (i + 1) table in
    let Q : Row → Type 0 = λ q. IsRowOf (Takes s f r.column) list i (i + 1) q in
    subst P (sym some.2)
    (fills_row s f list i (i + 1) old r (omega arith) (omega (arith, some.1.2, sized))
    (subst Q (sym some.1.1) (slot_row s f list i r.column v holds some.1.0))
    (λ d ne j u t. ne (sym t.takes.place ∙ moved j (omega (arith, t.low, t.high)) ∙ some.1.0.place)) h)
  where
    moved : (j : ℕ) → j ≡ i → column s.grid (slot_time s.axis j) ≡ column s.grid (slot_time s.axis i)
    moved j e = ap (λ n. column s.grid (slot_time s.axis n)) e

pub fills_slot : (view : NodesView) (s : Scan) (f : Option (List Step)) (list : List (Option ℤ)) (k : Key) (o : Option Span) (t : Span)
    (old new : List (Option Row)) → o ≡ Some t → k.level ≡ 0
    → length old ≡ s.grid.w → FillsSlot s f k.index (cast_signed w64 (cast_unsigned w64 t.min)) old new → Agrees view list
    → IsReached view k o
    → Fills s f list (first_slot k) old → Fills s f list (end_slot k) new
fills_slot view s f list k o t old new is zero sized slot agrees reached h =
    let P : ℕ → Type 0 = λ n. Fills s f list n old in
    let Q : ℕ → Type 0 = λ n. Fills s f list n new in
    subst Q (sym (slot_end k zero))
    (slot_table s f list k.index (cast_signed w64 (cast_unsigned w64 t.min)) old new
    (holds_here view list k o t agrees reached is zero) sized slot (subst P (slot_first k zero) h))

-- the halves of a key
pub fills_left : (s : Scan) (f : Option (List Step)) (list : List (Option ℤ)) (k left : Key) (table : List (Option Row)) → 1 ≤ k.level
    → left ≡ left_of k
    → Fills s f list (first_slot k) table → Fills s f list (first_slot left) table
fills_left s f list k left table low is h = let P : ℕ → Type 0 = λ n. Fills s f list n table in
    subst P (sym (left_first k low) ∙ ap first_slot (sym is)) h

pub fills_middle : (s : Scan) (f : Option (List Step)) (list : List (Option ℤ)) (k left right : Key) (table : List (Option Row))
    → 1 ≤ k.level → left ≡ left_of k → right ≡ right_of k
    → Fills s f list (end_slot left) table → Fills s f list (first_slot right) table
fills_middle s f list k left right table low l r h =
    let P : ℕ → Type 0 = λ n. Fills s f list n table in
    let e : end_slot left ≡ first_slot right = omega (arith, ap end_slot l, ap first_slot r) in subst P e h

pub fills_right : (s : Scan) (f : Option (List Step)) (list : List (Option ℤ)) (k right : Key) (table : List (Option Row)) → 1 ≤ k.level
    → right ≡ right_of k
    → Fills s f list (end_slot right) table → Fills s f list (end_slot k) table
fills_right s f list k right table low is h = let P : ℕ → Type 0 = λ n. Fills s f list n table in
    subst P (ap end_slot is ∙ right_end k low) h
