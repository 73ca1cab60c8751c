use Rattle.std.proofs.Common.{ℕ, suc, ℤ, ◌≡◌, ◌≢◌, ◌<◌, ◌≤◌, ◌≤ℤ◌, ◌<ℤ◌, inl, inr, List, length, set, refl, sym, ap, subst, arith, le_refl}
use Rattle.std.proofs.Common.{get_or-set_same, get_or-set_other}
use Rattle.std.proofs.lemmas.Int.{ints, clamps, by_lt_z}
use Rattle.std.proofs.lemmas.Bool.{cases_eq}
use Rattle.std.specs.Prelude.{Option, Some, None}
use Rattle.std.specs.Int.{int_min, int_max}
use Rattle.om3_coeff.specs.declared.key.Key.{Key}
use Rattle.om3_coeff.specs.declared.span.Span.{Span}
use Rattle.om3_coeff.specs.Keys.{first_slot, end_slot}
use Rattle.om3_coeff.specs.Spans.{IsProper, Holds, AreExtremes}
use Rattle.whole_number.specs.Range.{IsValue}
use Rattle.om3_coeff.proofs.KeyLemmas.{by_lt}
use Rattle.view_keys.specs.Wanted.{Seen}
use Rattle.needed_nodes.specs.declared.window.Window.{Window}
use Rattle.needed_nodes.specs.declared.blocks.Block.{Block}
use Rattle.needed_nodes.specs.declared.blocks.Blocks.{Blocks}
use Rattle.needed_nodes.specs.Ranks.{rank, IsInside}
use Rattle.needed_nodes.specs.Serving.{shown_by, IsClearBy}
use Rattle.needed_nodes.specs.Blocks.{IsBlock, AreBlocks, AreEnds, IsSpanBelow, AreBlocksIfAny, AreEndsIfAny, IsSpanBelowIfAny, entry}
use Rattle.needed_nodes.specs.Blocks.{HoldBlocks, HoldEnds, HoldSpans}
use Rattle.needed_nodes.specs.Entering.{both_spans, with_block}
use Rattle.needed_nodes.proofs.Nesting.{some_slot}
use Rattle.needed_nodes.proofs.RankLaws.{inside_rank}

-- a table with one entry changed
each_entry : (P : ℕ → Option Blocks → Type 0) (n c : ℕ) (table : List (Option Blocks)) (bs : Option Blocks) → c < length table
    → P c bs → ((d : ℕ) → d < n → d ≢ c → P d (entry table d)) → (d : ℕ) → d < n → P d (entry (set table c bs) d)
each_entry P n c table bs within here there d below = elim (cases_eq d c) [
  | inl same ↦
      let value : entry (set table c bs) c ≡ bs = get_or-set_same table c bs None within in
      let Q : ℕ → Type 0 = λ d. P d (entry (set table c bs) d) in
      let R : Option Blocks → Type 0 = λ b. P c b in
      subst Q (sym same) (subst R (sym value) here)
  | inr other ↦
      let value : entry (set table c bs) d ≡ entry table d = get_or-set_other table c d bs None other in
      let R : Option Blocks → Type 0 = λ b. P d b in
      subst R (sym value) (there d below other)
]

-- the blocks before a slot are before a later one
blocks_on : (w : Window) (x y c : ℕ) (bs : Option Blocks) → x ≤ y → AreBlocksIfAny w x c bs → AreBlocksIfAny w y c bs
blocks_on w x y c None le h = tt
blocks_on w x y c (Some bs) le h = record {
  first = h.first;
  last = h.last;
  proper = h.proper;
  first_part = h.first_part;
  last_part = h.last_part;
  order = h.order;
  end = omega (arith, h.end);
}

pub hold_blocks_on : (w : Window) (x y : ℕ) (table : List (Option Blocks)) → x ≤ y → HoldBlocks w x table → HoldBlocks w y table
hold_blocks_on w x y table le h c below = blocks_on w x y c (entry table c) le (h c below)

both_proper : (a b : Span) → IsProper a → IsProper b → IsProper (both_spans a b)
both_proper a b p q =
    by_lt_z a.min b.min
    (λ less. by_lt_z a.max b.max
    (λ less'. record { ordered = omega (arith, ints, clamps, p.ordered, q.ordered); low = low_first less; high = high_second less' })
    (λ more'. record { ordered = omega (arith, ints, clamps, p.ordered, q.ordered); low = low_first less; high = high_first more' }))
    (λ more. by_lt_z a.max b.max
    (λ less'. record { ordered = omega (arith, ints, clamps, p.ordered, q.ordered); low = low_second more; high = high_second less' })
    (λ more'. record { ordered = omega (arith, ints, clamps, p.ordered, q.ordered); low = low_second more; high = high_first more' }))
  where
    P : ℤ → Type 0
    P z = IsValue z

    low_first : a.min <ℤ b.min → IsValue (int_min a.min b.min)
    low_first less = let e : int_min a.min b.min ≡ a.min = omega (arith, ints, clamps) in subst IsValue (sym e) p.low

    low_second : b.min ≤ℤ a.min → IsValue (int_min a.min b.min)
    low_second more = let e : int_min a.min b.min ≡ b.min = omega (arith, ints, clamps) in subst IsValue (sym e) q.low

    high_second : a.max <ℤ b.max → IsValue (int_max a.max b.max)
    high_second less = let e : int_max a.max b.max ≡ b.max = omega (arith, ints, clamps) in subst IsValue (sym e) q.high

    high_first : b.max ≤ℤ a.max → IsValue (int_max a.max b.max)
    high_first more = let e : int_max a.max b.max ≡ a.max = omega (arith, ints, clamps) in subst IsValue (sym e) p.high

-- a block behind the others
first_before : (w : Window) (x c : ℕ) (bs : Blocks) → AreBlocks w x c bs → end_slot bs.first.key ≤ x
first_before w x c bs h = elim h.order [
  | inl same ↦ omega (arith, h.end, ap (λ b. end_slot b.key) same)
  | inr before ↦ omega (arith, before, h.end, some_slot bs.last.key)
]

blocks_enter : (w : Window) (c : ℕ) (bs : Option Blocks) (b : Block) → IsBlock w c b → AreBlocksIfAny w (first_slot b.key) c bs
    → AreBlocks w (end_slot b.key) c (with_block bs b)
blocks_enter w c None b own h = record {
  first = own;
  last = own;
  proper = own.proper;
  first_part = record { low = omega (arith, ints); high = omega (arith, ints) };
  last_part = record { low = omega (arith, ints); high = omega (arith, ints) };
  order = inl refl;
  end = le_refl (end_slot b.key);
}
blocks_enter w c (Some bs) b own h = record {
  first = h.first;
  last = own;
  proper = both_proper bs.span b.span h.proper own.proper;
  first_part = record { low = omega (arith, ints, clamps, h.first_part.low); high = omega (arith, ints, clamps, h.first_part.high) };
  last_part = record { low = omega (arith, ints, clamps); high = omega (arith, ints, clamps) };
  order = inr (first_before w (first_slot b.key) c bs h);
  end = le_refl (end_slot b.key);
}

pub hold_blocks_enter : (w : Window) (c : ℕ) (table : List (Option Blocks)) (b : Block) → length table ≡ w.grid.w → IsBlock w c b
    → HoldBlocks w (first_slot b.key) table → HoldBlocks w (end_slot b.key) (set table c (Some (with_block (entry table c) b)))
hold_blocks_enter w c table b sized own h =
    each_entry (AreBlocksIfAny w (end_slot b.key)) w.grid.w c table (Some (with_block (entry table c) b)) (omega (arith, own.inside.shown))
    (blocks_enter w c (entry table c) b own (h c own.inside.shown))
    (λ d below other. blocks_on w (first_slot b.key) (end_slot b.key) d (entry table d) (omega (arith, some_slot b.key)) (h d below))

-- between two slots all slots of columns are clear
ends_on : (S : Seen) (w : Window) (x y c : ℕ) (bs : Option Blocks) → ((i : ℕ) → rank w i ≡ suc c → x ≤ i → i < y → IsClearBy S w i)
    → AreEndsIfAny S w x c bs → AreEndsIfAny S w y c bs
ends_on S w x y c None clear h = λ i is to. by_lt i x (λ less. h i is less) (λ from. clear i is from to)
ends_on S w x y c (Some bs) clear h = record {
  first = h.first;
  last = h.last;
  before = h.before;
  behind = λ i is past to. by_lt i x (λ less. h.behind i is past less) (λ from. clear i is from to);
}

pub hold_ends_on : (S : Seen) (w : Window) (x y : ℕ) (table : List (Option Blocks))
    → ((c i : ℕ) → c < w.grid.w → rank w i ≡ suc c → x ≤ i → i < y → IsClearBy S w i) → HoldEnds S w x table → HoldEnds S w y table
hold_ends_on S w x y table clear h c below = ends_on S w x y c (entry table c) (λ i is from to. clear c i below is from to) (h c below)

ends_enter : (S : Seen) (w : Window) (c : ℕ) (bs : Option Blocks) (b : Block) → shown_by S w b.key ≡ Some (Some b.span)
    → AreEndsIfAny S w (first_slot b.key) c bs → AreEnds S w (end_slot b.key) c (with_block bs b)
ends_enter S w c None b seen h = record {
  first = seen;
  last = seen;
  before = h;
  behind = λ i is past to. absurd (omega arith);
}
ends_enter S w c (Some bs) b seen h = record {
  first = h.first;
  last = seen;
  before = h.before;
  behind = λ i is past to. absurd (omega arith);
}

pub hold_ends_enter : (S : Seen) (w : Window) (c : ℕ) (table : List (Option Blocks)) (b : Block) → length table ≡ w.grid.w
    → IsInside w c b.key
    → shown_by S w b.key ≡ Some (Some b.span)
    → HoldEnds S w (first_slot b.key) table → HoldEnds S w (end_slot b.key) (set table c (Some (with_block (entry table c) b)))
hold_ends_enter S w c table b sized own seen h =
    each_entry (AreEndsIfAny S w (end_slot b.key)) w.grid.w c table (Some (with_block (entry table c) b)) (omega (arith, own.shown))
    (ends_enter S w c (entry table c) b seen (h c own.shown))
    (λ d below other.
    ends_on S w (first_slot b.key) (end_slot b.key) d (entry table d)
    (λ i is from to. absurd (other (omega (arith, is, inside_rank w c b.key i own from to)))) (h d below))

-- between two slots no slot of a column holds a value
span_on : (list : List (Option ℤ)) (w : Window) (x y c : ℕ) (bs : Option Blocks) → x ≤ y
    → ((i : ℕ) (v : ℤ) → rank w i ≡ suc c → x ≤ i → i < y → Holds list i v → ⊥)
    → IsSpanBelowIfAny list w x c bs → IsSpanBelowIfAny list w y c bs
span_on list w x y c None le none h = λ i v is to holds. by_lt i x (λ less. h i v is less holds) (λ from. none i v is from to holds)
span_on list w x y c (Some bs) le none h = record {
  least_at = h.least_at;
  least_in = h.least_in;
  least_below = omega (arith, h.least_below);
  least = h.least;
  greatest_at = h.greatest_at;
  greatest_in = h.greatest_in;
  greatest_below = omega (arith, h.greatest_below);
  greatest = h.greatest;
  above = λ i v is to holds. by_lt i x (λ less. h.above i v is less holds) (λ from. absurd (none i v is from to holds));
  below = λ i v is to holds. by_lt i x (λ less. h.below i v is less holds) (λ from. absurd (none i v is from to holds));
}

pub hold_spans_on : (list : List (Option ℤ)) (w : Window) (x y : ℕ) (table : List (Option Blocks)) → x ≤ y
    → ((c i : ℕ) (v : ℤ) → c < w.grid.w → rank w i ≡ suc c → x ≤ i → i < y → Holds list i v → ⊥) → HoldSpans list w x table
    → HoldSpans list w y table
hold_spans_on list w x y table le none h c below =
    span_on list w x y c (entry table c) le (λ i v is from to holds. none c i v below is from to holds) (h c below)

-- the slots of a block's range are of its column
inside_span : (list : List (Option ℤ)) (w : Window) (c : ℕ) (b : Block) → IsInside w c b.key
    → AreExtremes list (first_slot b.key) (end_slot b.key) b.span
    → ((i : ℕ) (v : ℤ) → rank w i ≡ suc c → i < first_slot b.key → Holds list i v → ⊥) → IsSpanBelow list w (end_slot b.key) c b.span
inside_span list w c b own h none = record {
  least_at = h.least.slot;
  least_in = inside_rank w c b.key h.least.slot own h.least.low h.least.high;
  least_below = h.least.high;
  least = h.least.holds;
  greatest_at = h.greatest.slot;
  greatest_in = inside_rank w c b.key h.greatest.slot own h.greatest.low h.greatest.high;
  greatest_below = h.greatest.high;
  greatest = h.greatest.holds;
  above = λ i v is to holds. by_lt i (first_slot b.key) (λ less. absurd (none i v is less holds)) (λ from. h.above i v from to holds);
  below = λ i v is to holds. by_lt i (first_slot b.key) (λ less. absurd (none i v is less holds)) (λ from. h.below i v from to holds);
}

-- the lesser of two least values, and the greater of two greatest ones
record HeldAt (list : List (Option ℤ)) (w : Window) (x c : ℕ) (v : ℤ) : Type 0 where
  slot : ℕ
  in_column : rank w slot ≡ suc c
  below : slot < x
  holds : Holds list slot v

held_as : (list : List (Option ℤ)) (w : Window) (x c : ℕ) (u v : ℤ) → u ≡ v → HeldAt list w x c u → HeldAt list w x c v
held_as list w x c u v e h = let P : ℤ → Type 0 = λ z. HeldAt list w x c z in subst P e h

lesser : (list : List (Option ℤ)) (w : Window) (x c : ℕ) (a b : ℤ) → HeldAt list w x c a → HeldAt list w x c b
    → HeldAt list w x c (int_min a b)
lesser list w x c a b h g =
    by_lt_z a b (λ less. held_as list w x c a (int_min a b) (omega (arith, ints, clamps)) h)
    (λ more. held_as list w x c b (int_min a b) (omega (arith, ints, clamps)) g)

greater : (list : List (Option ℤ)) (w : Window) (x c : ℕ) (a b : ℤ) → HeldAt list w x c a → HeldAt list w x c b
    → HeldAt list w x c (int_max a b)
greater list w x c a b h g =
    by_lt_z a b (λ less. held_as list w x c b (int_max a b) (omega (arith, ints, clamps)) g)
    (λ more. held_as list w x c a (int_max a b) (omega (arith, ints, clamps)) h)

span_with : (list : List (Option ℤ)) (w : Window) (c : ℕ) (s : Span) (b : Block) → IsInside w c b.key
    → AreExtremes list (first_slot b.key) (end_slot b.key) b.span
    → IsSpanBelow list w (first_slot b.key) c s → IsSpanBelow list w (end_slot b.key) c (both_spans s b.span)
span_with list w c s b own h g =
    let k : Key = b.key in
    let some : first_slot k < end_slot k = some_slot k in
    let low : HeldAt list w (end_slot k) c (int_min s.min b.span.min) =
    lesser list w (end_slot k) c s.min b.span.min
    (record { slot = g.least_at; in_column = g.least_in; below = omega (arith, g.least_below); holds = g.least })
    (record {
      slot = h.least.slot;
      in_column = inside_rank w c k h.least.slot own h.least.low h.least.high;
      below = h.least.high;
      holds = h.least.holds;
    }) in
    let high : HeldAt list w (end_slot k) c (int_max s.max b.span.max) =
    greater list w (end_slot k) c s.max b.span.max
    (record { slot = g.greatest_at; in_column = g.greatest_in; below = omega (arith, g.greatest_below); holds = g.greatest })
    (record {
      slot = h.greatest.slot;
      in_column = inside_rank w c k h.greatest.slot own h.greatest.low h.greatest.high;
      below = h.greatest.high;
      holds = h.greatest.holds;
    }) in
    record {
      least_at = low.slot;
      least_in = low.in_column;
      least_below = low.below;
      least = low.holds;
      greatest_at = high.slot;
      greatest_in = high.in_column;
      greatest_below = high.below;
      greatest = high.holds;
      above = λ i v is to holds. by_lt i (first_slot k)
          (λ less. omega (arith, ints, clamps, g.above i v is less holds))
          (λ from. omega (arith, ints, clamps, h.above i v from to holds));
      below = λ i v is to holds. by_lt i (first_slot k)
          (λ less. omega (arith, ints, clamps, g.below i v is less holds))
          (λ from. omega (arith, ints, clamps, h.below i v from to holds));
    }

span_enter : (list : List (Option ℤ)) (w : Window) (c : ℕ) (bs : Option Blocks) (b : Block) → IsInside w c b.key
    → AreExtremes list (first_slot b.key) (end_slot b.key) b.span
    → IsSpanBelowIfAny list w (first_slot b.key) c bs → IsSpanBelow list w (end_slot b.key) c (with_block bs b).span
span_enter list w c None b own h g = inside_span list w c b own h g
span_enter list w c (Some bs) b own h g = span_with list w c bs.span b own h g

pub hold_spans_enter : (list : List (Option ℤ)) (w : Window) (c : ℕ) (table : List (Option Blocks)) (b : Block) → length table ≡ w.grid.w
    → IsInside w c b.key
    → AreExtremes list (first_slot b.key) (end_slot b.key) b.span
    → HoldSpans list w (first_slot b.key) table → HoldSpans list w (end_slot b.key) (set table c (Some (with_block (entry table c) b)))
hold_spans_enter list w c table b sized own h g =
    each_entry (IsSpanBelowIfAny list w (end_slot b.key)) w.grid.w c table (Some (with_block (entry table c) b)) (omega (arith, own.shown))
    (span_enter list w c (entry table c) b own h (g c own.shown))
    (λ d below other.
    span_on list w (first_slot b.key) (end_slot b.key) d (entry table d) (omega (arith, some_slot b.key))
    (λ i v is from to holds. other (omega (arith, is, inside_rank w c b.key i own from to))) (g d below))
