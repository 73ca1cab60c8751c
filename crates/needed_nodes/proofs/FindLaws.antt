use Rattle.std.proofs.Common.{ℕ, zero, suc, ℤ, ◌≡◌, ◌+◌, ◌-◌, ◌*◌, ◌^◌, ◌≤◌, ◌⊎◌, inl, inr, List, [], ◌∷◌, ◌++◌, length, refl, sym, ap}
use Rattle.std.proofs.Common.{subst, arith}
use Rattle.std.specs.Prelude.{Option, Some, None, slice_set, ⊤}
use Rattle.om3_coeff.specs.declared.key.Key.{Key}
use Rattle.om3_coeff.specs.declared.span.Span.{Span}
use Rattle.om3_coeff.specs.declared.coef.Coef.{Coef}
use Rattle.om3_coeff.specs.Keys.{first_slot, end_slot, left_of, right_of}
use Rattle.om3_coeff.specs.View.{NodesView, StaysSame}
use Rattle.om3_coeff.proofs.KeyLemmas.{left_first, right_end}
use Rattle.view_keys.specs.Wanted.{Seen, IsWanted}
use Rattle.needed_nodes.specs.declared.window.Window.{Window}
use Rattle.needed_nodes.specs.declared.blocks.Block.{Block}
use Rattle.needed_nodes.specs.declared.blocks.Blocks.{Blocks}
use Rattle.needed_nodes.specs.Ranks.{rank, first_rank, last_rank, IsCutKey, IsInside, IsOutside, IsTopmost}
use Rattle.needed_nodes.specs.Answers.{CanSplit}
use Rattle.needed_nodes.specs.Serving.{Serves, ServesList, shown_by, IsReady}
use Rattle.needed_nodes.specs.Gathering.{Gathered}
use Rattle.needed_nodes.specs.Blocks.{IsCutBelow, most_cut, entry, HoldBlocks, HoldEnds, HoldSpans, Finds}
use Rattle.needed_nodes.specs.Entering.{with_block}
use Rattle.needed_nodes.proofs.Nesting.{some_slot, left_below, right_below, below_on, below_itself, below_cases}
use Rattle.needed_nodes.proofs.Nesting.BelowCase.{at_key, in_left, in_right}
use Rattle.needed_nodes.proofs.RankLaws.{rank_rises, rank_order, outside_below, outside_rank, inside_not_cut, inside_below}
use Rattle.needed_nodes.proofs.ServeLaws.{serves_later, cut_wanted, clear_slot, clear_key, stays_below_at, serves_list_later, node_of}
use Rattle.needed_nodes.proofs.GatherLaws.{gathers_nothing}
use Rattle.needed_nodes.proofs.BlockLaws.{hold_blocks_on, hold_blocks_enter, hold_ends_on, hold_ends_enter, hold_spans_on, hold_spans_enter}
use Rattle.needed_nodes.proofs.StepLaws.{list_extremes, list_none, Halves, gathers_halves, halves_apart, left_apart, right_apart}
use Rattle.needed_nodes.proofs.StepLaws.{count_halves, some_count, through_halves}

-- a cut key has a level, and so has a coefficient
pub cut_low : (w : Window) (k : Key) → IsCutKey w k → 1 ≤ k.level
cut_low w k cut = elim (low_cases k.level) [
  | inl none ↦
      let one : end_slot k - 1 ≡ first_slot k = omega (arith, ap (λ n. k.index * 2 ^ n) none, ap (λ n. (k.index + 1) * 2 ^ n) none) in
      absurd (omega (arith, cut, ap (rank w) one))
  | inr some ↦ some
]
  where
    low_cases : (n : ℕ) → (n ≡ 0) ⊎ (1 ≤ n)
    low_cases zero = inl refl
    low_cases (suc n) = inr (omega arith)

-- the halves of a cut key are topmost where they lie within a column
pub top_left : (w : Window) (k l : Key) → 1 ≤ k.level → l ≡ left_of k → IsCutKey w k → IsTopmost w l
top_left w k l low el cut =
    let P : Key → Type 0 = λ b. IsTopmost w b in
    subst P (sym el) (inr (record { above = k; level = omega arith; below = left_below k low; cut = cut }))

pub top_right : (w : Window) (k r : Key) → 1 ≤ k.level → r ≡ right_of k → IsCutKey w k → IsTopmost w r
top_right w k r low er cut =
    let P : Key → Type 0 = λ b. IsTopmost w b in
    subst P (sym er) (inr (record { above = k; level = omega arith; below = right_below k low; cut = cut }))

-- how many keys are cut
pub most_halves : (w : Window) (k : Key) → IsCutKey w k → 1 + most_cut w (left_of k) + most_cut w (right_of k) ≤ most_cut w k
most_halves w k cut =
    let low : 1 ≤ k.level = cut_low w k cut in
    let from : first_rank w (left_of k) ≡ first_rank w k = ap (rank w) (left_first k low) in
    let to : last_rank w (right_of k) ≡ last_rank w k = ap (λ n. rank w (n - 1)) (right_end k low) in
    let middle : last_rank w (left_of k) ≤ first_rank w (right_of k) =
    rank_rises w (end_slot (left_of k) - 1) (first_slot (right_of k)) (omega arith) in
    let level : suc (k.level - 1) ≡ k.level = omega arith in
    omega (
      arith,
      count_halves (k.level - 1) (last_rank w (left_of k) - first_rank w (left_of k)) (last_rank w (right_of k) - first_rank w (right_of k))
          (last_rank w k - first_rank w k)
          (omega (arith, from, to, middle, rank_order w (left_of k), rank_order w (right_of k), cut)) (omega (arith, cut)),
      ap (λ n. n * (last_rank w k - first_rank w k)) level,
    )

pub most_some : (w : Window) (k : Key) → IsCutKey w k → 1 ≤ most_cut w k
most_some w k cut = some_count k.level (last_rank w k - first_rank w k) (cut_low w k cut) (omega (arith, cut))

-- the same with the halves under other names
pub most_parts : (w : Window) (k l r : Key) → l ≡ left_of k → r ≡ right_of k → IsCutKey w k → 1 + most_cut w l + most_cut w r ≤ most_cut w k
most_parts w k l r el er cut = omega (arith, most_halves w k cut, ap (most_cut w) el, ap (most_cut w) er)

-- the cut keys below a key that is not cut, or has no span, are none that are seen
pub no_cuts : (v : NodesView) (w : Window) (k : Key) (Kind : Seen → Key → Type 0) (items : List (Key × Coef)) → IsReady v w k None
    → Gathered v w (IsCutBelow w k) Kind (most_cut w k) items items
no_cuts v w k Kind items ready =
    gathers_nothing v w (IsCutBelow w k) Kind (most_cut w k) items
    (λ S served b node part seen kind.
    let none : shown_by S w b ≡ Some None = clear_key S w k b ready.key (ready.known S served) part.below in
    let some : shown_by S w b ≡ Some (Some seen.0) = seen.1 in cc)

pub no_cuts_outside : (v : NodesView) (w : Window) (k : Key) (Kind : Seen → Key → Type 0) (items : List (Key × Coef)) → IsOutside w k
    → Gathered v w (IsCutBelow w k) Kind (most_cut w k) items items
no_cuts_outside v w k Kind items out =
    gathers_nothing v w (IsCutBelow w k) Kind (most_cut w k) items
    (λ S served b node part seen kind. omega (arith, (outside_below w k b part.below out).even, part.cut))

pub no_cuts_inside : (v : NodesView) (w : Window) (c : ℕ) (k : Key) (Kind : Seen → Key → Type 0) (items : List (Key × Coef))
    → IsInside w c k
    → Gathered v w (IsCutBelow w k) Kind (most_cut w k) items items
no_cuts_inside v w c k Kind items own =
    gathers_nothing v w (IsCutBelow w k) Kind (most_cut w k) items
    (λ S served b node part seen kind. inside_not_cut w c b (inside_below w c k b part.below own) part.cut)

cut_halves : (v : NodesView) (w : Window) (k : Key) → 1 ≤ k.level → IsCutKey w k
    → Halves v w k (IsCutBelow w (left_of k)) (IsCutBelow w (right_of k)) (IsCutBelow w k) (λ S b. ⊤) (λ S b. ⊤) (λ S b. ⊤)
cut_halves v w k low cut = record {
  left_apart = λ b h is. left_apart k b low h.below is;
  right_apart = λ b h is. right_apart k b low h.below is;
  apart = λ b h g. halves_apart k b h.below g.below;
  own = record { below = below_itself k; cut = cut };
  left = λ b h. record { below = below_on k (left_of k) b (left_below k low) h.below; cut = h.cut };
  right = λ b h. record { below = below_on k (right_of k) b (right_below k low) h.below; cut = h.cut };
  left_kind = λ S served b h seen kind. tt;
  right_kind = λ S served b h seen kind. tt;
  covers = λ S served b node h seen kind. elim (below_cases k b low h.below) [
    | at_key is ↦ inl is
    | in_left below ↦ inr (inl (record { below = below; cut = h.cut }, tt))
    | in_right below ↦ inr (inr (record { below = below; cut = h.cut }, tt))
  ];
}

-- the cut keys of a cut key's halves, and the key
pub cuts_both : (v u t : NodesView) (w : Window) (k l r : Key) (s : Span) (c : Coef) (old one mid new : List (Key × Coef)) → l ≡ left_of k
    → r ≡ right_of k
    → IsCutKey w k → IsReady v w k (Some s) → ((S : Seen) → Serves v w S → S.told k ≡ Some c) → CanSplit c → one ≡ old ++ (k, c) ∷ []
    → StaysSame v u → Gathered u w (IsCutBelow w l) (λ S b. ⊤) (most_cut w l) one mid
    → StaysSame v t → Gathered t w (IsCutBelow w r) (λ S b. ⊤) (most_cut w r) mid new
    → Gathered v w (IsCutBelow w k) (λ S b. ⊤) (most_cut w k) old new
cuts_both v u t w k l r s c old one mid new el er cut ready told good is same_u g same_t h =
    let low : 1 ≤ k.level = cut_low w k cut in
    let L : Key → Type 0 = λ b. Gathered u w (IsCutBelow w b) (λ S x. ⊤) (most_cut w b) one mid in
    let R : Key → Type 0 = λ b. Gathered t w (IsCutBelow w b) (λ S x. ⊤) (most_cut w b) mid new in
    gathers_halves v u t w k c (IsCutBelow w (left_of k)) (IsCutBelow w (right_of k)) (IsCutBelow w k) (λ S b. ⊤) (λ S b. ⊤) (λ S b. ⊤)
    (most_cut w (left_of k)) (most_cut w (right_of k)) (most_cut w k) old one mid new
    (cut_halves v w k low cut) (most_halves w k cut) (node_of v w k (Some s) ready low) good
    (λ S served. record { kind = tt; seen = (s, ready.known S served); coef = told S served })
    is same_u (subst L el g) same_t (subst R er h)

-- the tables: a key with no span, one outside the columns, and one within a column
pub ends_none : (v : NodesView) (w : Window) (k : Key) (table : List (Option Blocks)) → IsReady v w k None
    → (S : Seen) → Serves v w S → HoldEnds S w (first_slot k) table → HoldEnds S w (end_slot k) table
ends_none v w k table ready S served =
    hold_ends_on S w (first_slot k) (end_slot k) table (λ c i below is from to. clear_slot S w k i ready.key (ready.known S served) from to)

pub ends_outside : (w : Window) (k : Key) (table : List (Option Blocks)) → IsOutside w k → (S : Seen) → HoldEnds S w (first_slot k) table
    → HoldEnds S w (end_slot k) table
ends_outside w k table out S =
    hold_ends_on S w (first_slot k) (end_slot k) table (λ c i below is from to. absurd (outside_rank w k c i out from to below is))

pub blocks_pass : (w : Window) (k : Key) (table : List (Option Blocks)) → HoldBlocks w (first_slot k) table
    → HoldBlocks w (end_slot k) table
blocks_pass w k table = hold_blocks_on w (first_slot k) (end_slot k) table (omega (arith, some_slot k))

pub spans_none : (v : NodesView) (w : Window) (k : Key) (table : List (Option Blocks)) → IsReady v w k None
    → (list : List (Option ℤ)) → ServesList v w list → HoldSpans list w (first_slot k) table → HoldSpans list w (end_slot k) table
spans_none v w k table ready list served =
    hold_spans_on list w (first_slot k) (end_slot k) table (omega (arith, some_slot k))
    (λ c i x below is from to holds. list_none v w k list ready served i x from to holds)

pub spans_outside : (w : Window) (k : Key) (table : List (Option Blocks)) → IsOutside w k
    → (list : List (Option ℤ)) → HoldSpans list w (first_slot k) table → HoldSpans list w (end_slot k) table
spans_outside w k table out list =
    hold_spans_on list w (first_slot k) (end_slot k) table (omega (arith, some_slot k))
    (λ c i x below is from to holds. outside_rank w k c i out from to below is)

-- a block, with the table under another name
pub blocks_entered : (v : NodesView) (w : Window) (c : ℕ) (k : Key) (s : Span) (table new : List (Option Blocks)) → IsReady v w k (Some s)
    → IsTopmost w k
    → IsInside w c k → length table ≡ w.grid.w → new ≡ slice_set table c (Some (with_block (entry table c) (record { key = k; span = s })))
    → HoldBlocks w (first_slot k) table → HoldBlocks w (end_slot k) new
blocks_entered v w c k s table new ready top own sized is h =
    let b : Block = record { key = k; span = s } in
    let P : List (Option Blocks) → Type 0 = λ t. HoldBlocks w (end_slot k) t in
    subst P (sym is) (hold_blocks_enter w c table b sized (record { key = ready.key; inside = own; top = top; proper = ready.proper }) h)

pub ends_entered : (v : NodesView) (w : Window) (c : ℕ) (k : Key) (s : Span) (table new : List (Option Blocks)) → IsReady v w k (Some s)
    → IsInside w c k → length table ≡ w.grid.w → new ≡ slice_set table c (Some (with_block (entry table c) (record { key = k; span = s })))
    → (S : Seen) → Serves v w S → HoldEnds S w (first_slot k) table → HoldEnds S w (end_slot k) new
ends_entered v w c k s table new ready own sized is S served h =
    let b : Block = record { key = k; span = s } in
    let P : List (Option Blocks) → Type 0 = λ t. HoldEnds S w (end_slot k) t in
    subst P (sym is) (hold_ends_enter S w c table b sized own (ready.known S served) h)

pub spans_entered : (v : NodesView) (w : Window) (c : ℕ) (k : Key) (s : Span) (table new : List (Option Blocks)) → IsReady v w k (Some s)
    → IsInside w c k → length table ≡ w.grid.w → new ≡ slice_set table c (Some (with_block (entry table c) (record { key = k; span = s })))
    → (list : List (Option ℤ)) → ServesList v w list → HoldSpans list w (first_slot k) table → HoldSpans list w (end_slot k) new
spans_entered v w c k s table new ready own sized is list served h =
    let b : Block = record { key = k; span = s } in
    let P : List (Option Blocks) → Type 0 = λ t. HoldSpans list w (end_slot k) t in
    subst P (sym is) (hold_spans_enter list w c table b sized own (list_extremes v w k s list ready served) h)

-- What a walk finds: below a key with no span, outside the columns, within one, and below a cut key.
pub finds_none : (v : NodesView) (w : Window) (k : Key) (s : Option Span) (items : List (Key × Coef)) (table : List (Option Blocks))
    → s ≡ None → IsReady v w k s
    → Finds v v w k items items table table
finds_none v w k s items table none given =
    let P : Option Span → Type 0 = λ o. IsReady v w k o in
    let ready : IsReady v w k None = subst P none given in
    record {
      below = inl refl;
      cuts = no_cuts v w k (λ S b. ⊤) items ready;
      blocks = blocks_pass w k table;
      ends = ends_none v w k table ready;
      spans = spans_none v w k table ready;
    }

pub finds_outside : (v : NodesView) (w : Window) (k : Key) (items : List (Key × Coef)) (table : List (Option Blocks)) → IsOutside w k
    → Finds v v w k items items table table
finds_outside v w k items table out = record {
  below = inl refl;
  cuts = no_cuts_outside v w k (λ S b. ⊤) items out;
  blocks = blocks_pass w k table;
  ends = λ S served. ends_outside w k table out S;
  spans = λ list served. spans_outside w k table out list;
}

pub finds_inside : (v : NodesView) (w : Window) (c : ℕ) (k : Key) (s : Span) (o : Option Span) (items : List (Key × Coef))
    (table new : List (Option Blocks)) → o ≡ Some s → IsReady v w k o
    → IsTopmost w k → IsInside w c k → length table ≡ w.grid.w
    → new ≡ slice_set table c (Some (with_block (entry table c) (record { key = k; span = s })))
    → Finds v v w k items items table new
finds_inside v w c k s o items table new is given top own sized set =
    let P : Option Span → Type 0 = λ o. IsReady v w k o in
    let ready : IsReady v w k (Some s) = subst P is given in
    record {
      below = inl refl;
      cuts = no_cuts_inside v w c k (λ S b. ⊤) items own;
      blocks = blocks_entered v w c k s table new ready top own sized set;
      ends = ends_entered v w c k s table new ready own sized set;
      spans = spans_entered v w c k s table new ready own sized set;
    }

pub finds_halves : (v u t z : NodesView) (w : Window) (k l r : Key) (s : Span) (o : Option Span) (c : Coef)
    (old one mid new : List (Key × Coef)) (table first second : List (Option Blocks))
    → l ≡ left_of k → r ≡ right_of k → IsCutKey w k → o ≡ Some s → IsReady v w k o
    → ((S : Seen) → Serves v w S → S.told k ≡ Some c) → CanSplit c → one ≡ old ++ (k, c) ∷ [] → u.asked ≡ Some k
    → StaysSame v u → Finds u t w l one mid table first → StaysSame v t → Finds t z w r mid new first second
    → Finds v z w k old new table second
finds_halves v u t z w k l r s o c old one mid new table first second el er cut is given told good pushed asked same_u g same_t h =
    let low : 1 ≤ k.level = cut_low w k cut in
    let P : Option Span → Type 0 = λ o. IsReady v w k o in
    let ready : IsReady v w k (Some s) = subst P is given in
    record {
      below = stays_below_at k l r v.asked u.asked t.asked z.asked low el er asked g.below h.below;
      cuts = cuts_both v u t w k l r s c old one mid new el er cut ready told good pushed same_u g.cuts same_t h.cuts;
      blocks = through_halves (λ x T. HoldBlocks w x T) k l r table first second low el er g.blocks h.blocks;
      ends = λ S served. through_halves (λ x T. HoldEnds S w x T) k l r table first second low el er
          (g.ends S (serves_later v u w S same_u served)) (h.ends S (serves_later v t w S same_t served));
      spans = λ list served. through_halves (λ x T. HoldSpans list w x T) k l r table first second low el er
          (g.spans list (serves_list_later v u w list same_u served)) (h.spans list (serves_list_later v t w list same_t served));
    }

-- the counts of reads on the way
pub reads_asked : (w : Window) (k : Key) (r0 r1 : ℕ) → IsCutKey w k → r1 ≤ r0 + 1 → r1 ≤ r0 + most_cut w k
reads_asked w k r0 r1 cut a = omega (arith, a, most_some w k cut)

pub reads_first : (w : Window) (k l : Key) (r0 r1 r2 : ℕ) → IsCutKey w k → l ≡ left_of k → r1 ≤ r0 + 1 → r2 ≤ r1 + most_cut w l
    → r2 ≤ r0 + most_cut w k
reads_first w k l r0 r1 r2 cut el a b = omega (arith, a, b, most_parts w k l (right_of k) el refl cut)

pub reads_both : (w : Window) (k l r : Key) (r0 r1 r2 r3 : ℕ) → IsCutKey w k → l ≡ left_of k → r ≡ right_of k → r1 ≤ r0 + 1
    → r2 ≤ r1 + most_cut w l → r3 ≤ r2 + most_cut w r
    → r3 ≤ r0 + most_cut w k
reads_both w k l r r0 r1 r2 r3 cut el er a b d = omega (arith, a, b, d, most_parts w k l r el er cut)

pub cut_wanted_as : (v : NodesView) (w : Window) (k : Key) (s : Span) (o : Option Span) → o ≡ Some s → IsReady v w k o → IsCutKey w k
    → (S : Seen) → Serves v w S → IsWanted S w.axis w.grid w.lo w.hi k
cut_wanted_as v w k s o is ready cut S served =
    let P : Option Span → Type 0 = λ o. shown_by S w k ≡ Some o in
    cut_wanted S w k s (node_of v w k o ready (cut_low w k cut)) (subst P is (ready.known S served)) cut
