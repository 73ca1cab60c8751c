use Rattle.std.proofs.Common.{ℕ, suc, ℤ, ◌≡◌, ◌+◌, ◌-◌, ◌*◌, ◌^◌, ◌<◌, ◌≤◌, ◌≤ℤ◌, inl, inr, true, false, List, [], ◌∷◌, ◌++◌, refl, sym}
use Rattle.std.proofs.Common.{◌∙◌, ap, subst, arith, le_refl}
use Rattle.std.proofs.Math.Nat.{mul-le-mul_right}
use Rattle.std.proofs.lemmas.Int.{ints}
use Rattle.std.proofs.lemmas.Option.{same_Some}
use Rattle.std.proofs.lemmas.List.{map-append}
use Rattle.std.proofs.lemmas.List.Elements.{All-nil, All-push, All-weaker, Contains-append_left, Contains-push}
use Rattle.std.proofs.lemmas.List.Quantifiers.{all_pairs_push}
use Rattle.std.specs.Prelude.{Option, Some, None, IfSome, unwrap_or, Contains}
use Rattle.chart_grid.specs.Slots.{IsInColumn}
use Rattle.om3_coeff.specs.declared.key.Key.{Key}
use Rattle.om3_coeff.specs.declared.span.Span.{Span}
use Rattle.om3_coeff.specs.declared.coef.Coef.{Coef}
use Rattle.om3_coeff.specs.Keys.{first_slot, end_slot, height, IsNode, IsKey}
use Rattle.om3_coeff.specs.Spans.{IsProper, Holds, span}
use Rattle.whole_number.specs.Range.{IsValue}
use Rattle.om3_coeff.specs.View.{NodesView, StaysSame}
use Rattle.om3_coeff.proofs.ExtremeLemmas.{none-clear}
use Rattle.om3_coeff.proofs.KeyLemmas.{by_lt, height_covers}
use Rattle.m4_groups.specs.declared.row.Row.{Row}
use Rattle.m4_groups.specs.Rows.{columns_of}
use Rattle.view_keys.specs.Wanted.{Seen, IsClearBefore, IsClearBehind}
use Rattle.needed_nodes.specs.declared.window.Window.{Window}
use Rattle.needed_nodes.specs.declared.blocks.Block.{Block}
use Rattle.needed_nodes.specs.declared.blocks.Blocks.{Blocks}
use Rattle.needed_nodes.specs.declared.ends.Sought.{Sought}
use Rattle.needed_nodes.specs.declared.ends.EndValues.{EndValues}
use Rattle.needed_nodes.specs.Answers.{IsShownRow}
use Rattle.needed_nodes.specs.Ranks.{rank, IsInside, IsBelow}
use Rattle.needed_nodes.specs.Serving.{Serves, ServesList, list_seen, shown_by, IsClearBy, IsReady}
use Rattle.needed_nodes.specs.Gathering.{IsSeenBy, Gathered}
use Rattle.needed_nodes.specs.Blocks.{IsPartOf, IsBlock, AreBlocks, AreEnds, AreBlocksIfAny, AreEndsIfAny, IsSpanBelowIfAny, entry}
use Rattle.needed_nodes.specs.Blocks.{HoldBlocks, HoldEnds, HoldSpans}
use Rattle.needed_nodes.specs.Ends.{MayHold, HoldsSought, most_ends, IsAmong, AreAmong, IsFirstIn, IsLastIn, Follows}
use Rattle.needed_nodes.specs.Columns.{MayHoldEnd, IsEndKey, IsInColumns, IsFirstOf, IsLastOf, HasEnds, row_by, IsRowOf, HasColumn}
use Rattle.needed_nodes.specs.Columns.{HasColumns}
use Rattle.needed_nodes.proofs.Nesting.{some_slot, slot_key}
use Rattle.needed_nodes.proofs.RankLaws.{column_rank, rank_column, shown_slot, inside_rank, inside_below, block_holds}
use Rattle.needed_nodes.proofs.ServeLaws.{HasSlot, unclear_slot, serves_list_later, list_shown}
use Rattle.needed_nodes.proofs.GatherLaws.{Joins, gathers_nothing, gathers_join, gathers_earlier, gathers_as}

-- a slot of a column is one of the window
pub shown_end : (w : Window) (c i : ℕ) → rank w i ≡ suc c → c < w.grid.w → i < w.end
shown_end w c i is drawn =
    let own : IsInColumn w.axis w.grid c i = rank_column w c i is drawn in (shown_slot w i own.slot own.shown).1

in_column_end : (w : Window) (c i : ℕ) → IsInColumn w.axis w.grid c i → i < w.end
in_column_end w c i own = (shown_slot w i own.slot own.shown).1

-- a slot that a list's tree shows to be clear holds nothing
pub list_clear_slot : (v : NodesView) (w : Window) (list : List (Option ℤ)) (i : ℕ) (x : ℤ) → ServesList v w list → i < w.end
    → IsClearBy (list_seen list) w i → Holds list i x → ⊥
list_clear_slot v w list i x served below clear holds =
    let few : w.axis.slots ≤ 2 ^ 35 = omega (arith, served.few, served.slots) in
    let none_off : height w.axis.slots - 0 ≡ height w.axis.slots = omega arith in
    let key : IsKey (height w.axis.slots) (slot_key i) = record {
      high = omega arith;
      within = omega (arith, below, w.stop.within, height_covers w.axis.slots few, ap (λ n. 2 ^ n) none_off);
    } in
    let shown : shown_by (list_seen list) w (slot_key i) ≡ Some (span list (slot_key i)) = list_shown list w
    (slot_key i) served.values served.slots key in
    let none : span list (slot_key i) ≡ None = same_Some (span list (slot_key i)) None (sym shown ∙ clear) in
    none-clear list (first_slot (slot_key i)) (end_slot (slot_key i)) none i x (omega arith) (omega arith) holds

-- the first and the last block of a column are ready, and may hold its ends
pub ready_first : (v : NodesView) (w : Window) (x c : ℕ) (bs : Blocks) → v.fit → v.slots ≡ w.axis.slots → AreBlocks w x c bs
    → ((S : Seen) → Serves v w S → AreEnds S w w.end c bs) → IsReady v w bs.first.key (Some bs.first.span)
ready_first v w x c bs fit slots blocks ends = record {
  fit = fit;
  slots = slots;
  key = blocks.first.key;
  proper = blocks.first.proper;
  known = λ S served. (ends S served).first;
}

pub ready_last : (v : NodesView) (w : Window) (x c : ℕ) (bs : Blocks) → v.fit → v.slots ≡ w.axis.slots → AreBlocks w x c bs
    → ((S : Seen) → Serves v w S → AreEnds S w w.end c bs) → IsReady v w bs.last.key (Some bs.last.span)
ready_last v w x c bs fit slots blocks ends = record {
  fit = fit;
  slots = slots;
  key = blocks.last.key;
  proper = blocks.last.proper;
  known = λ S served. (ends S served).last;
}

clear_first : (S : Seen) (w : Window) (c : ℕ) (bs : Blocks) → AreEnds S w w.end c bs → IsClearBefore S w.axis w.grid c bs.first.key
clear_first S w c bs h i own before = h.before i (column_rank w c i own) before

clear_last : (S : Seen) (w : Window) (c : ℕ) (bs : Blocks) → AreEnds S w w.end c bs → IsClearBehind S w.axis w.grid c bs.last.key
clear_last S w c bs h i own behind = h.behind i (column_rank w c i own) behind (in_column_end w c i own)

abbrev pub sought_both : Sought
sought_both = record { first = true; last = true }

abbrev pub sought_first : Sought
sought_first = record { first = true; last = false }

abbrev pub sought_last : Sought
sought_last = record { first = false; last = true }

-- the blocks of a column with one block
pub one_block : (w : Window) (x c : ℕ) (bs : Blocks) → AreBlocks w x c bs → first_slot bs.last.key ≤ first_slot bs.first.key
    → bs.first ≡ bs.last
one_block w x c bs blocks le = elim blocks.order [
  | inl same ↦ same
  | inr before ↦ absurd (omega (arith, before, le, some_slot bs.first.key))
]

pub two_blocks : (w : Window) (x c : ℕ) (bs : Blocks) → AreBlocks w x c bs → first_slot bs.first.key < first_slot bs.last.key
    → end_slot bs.first.key ≤ first_slot bs.last.key
two_blocks w x c bs blocks less = elim blocks.order [
  | inl same ↦ absurd (omega (arith, less, ap (λ b. first_slot b.key) same))
  | inr before ↦ before
]

pub hold_both : (v : NodesView) (w : Window) (c : ℕ) (bs : Blocks) → bs.first ≡ bs.last
    → ((S : Seen) → Serves v w S → AreEnds S w w.end c bs)
    → (S : Seen) → Serves v w S → MayHold S w c sought_both bs.first.key
hold_both v w c bs same ends S served = record {
  first = λ on. clear_first S w c bs (ends S served);
  last = λ on. (let P : Block → Type 0 = λ b. IsClearBehind S w.axis w.grid c b.key in
      subst P (sym same) (clear_last S w c bs (ends S served)));
}

pub hold_first : (v : NodesView) (w : Window) (c : ℕ) (bs : Blocks) → ((S : Seen) → Serves v w S → AreEnds S w w.end c bs)
    → (S : Seen) → Serves v w S → MayHold S w c sought_first bs.first.key
hold_first v w c bs ends S served = record { first = λ on. clear_first S w c bs (ends S served); last = λ on. absurd (cc) }

pub hold_last : (v : NodesView) (w : Window) (c : ℕ) (bs : Blocks) → ((S : Seen) → Serves v w S → AreEnds S w w.end c bs)
    → (S : Seen) → Serves v w S → MayHold S w c sought_last bs.last.key
hold_last v w c bs ends S served = record { first = λ on. absurd (cc); last = λ on. clear_last S w c bs (ends S served) }

-- a seen key of the column that may hold its first stored slot lies below the first block, and one that
-- may hold the last one below the last block
meets : (b k : Key) (i j : ℕ) → first_slot b ≤ i → i < end_slot k → first_slot k ≤ j → j < end_slot b
    → (m : ℕ) × (first_slot b ≤ m) × (m < end_slot b) × (first_slot k ≤ m) × (m < end_slot k)
meets b k i j p q r s =
    by_lt (first_slot b) (first_slot k)
    (λ less. (first_slot k, omega arith, omega arith, le_refl (first_slot k), some_slot k))
    (λ more. (first_slot b, le_refl (first_slot b), some_slot b, more, omega arith))

below_block : (w : Window) (x c : ℕ) (b : Block) (k : Key) (i j : ℕ) → IsBlock w c b → IsKey (height w.axis.slots) k → IsInside w c k
    → first_slot b.key ≤ i → i < end_slot k → first_slot k ≤ j → j < end_slot b.key → IsBelow b.key k
below_block w x c b k i j block key own p q r s =
    let m : (m : ℕ) × (first_slot b.key ≤ m) × (m < end_slot b.key) × (first_slot k ≤ m) × (m < end_slot k) = meets b.key k i j p q r s in
    block_holds w c b.key k m.0 block.top key own m.1 m.2 m.3 m.4

below_first : (S : Seen) (w : Window) (x c : ℕ) (bs : Blocks) (k : Key) → AreBlocks w x c bs → AreEnds S w w.end c bs
    → IsKey (height w.axis.slots) k → IsInside w c k
    → IsSeenBy S w k → IsClearBefore S w.axis w.grid c k → IsBelow bs.first.key k
below_first S w x c bs k blocks ends key own seen clear =
    let h : HasSlot S w k = unclear_slot S w k seen.0 key seen.1 in
    let g : HasSlot S w bs.first.key = unclear_slot S w bs.first.key bs.first.span blocks.first.key ends.first in
    let from : first_slot bs.first.key ≤ h.slot =
    by_lt h.slot (first_slot bs.first.key)
    (λ less. absurd (h.unclear (ends.before h.slot (inside_rank w c k h.slot own h.from h.to) less)))
    (λ le. le) in
    let to : first_slot k ≤ g.slot =
    by_lt g.slot (first_slot k)
    (λ less. absurd (g.unclear (clear g.slot
    (rank_column w c g.slot (inside_rank w c bs.first.key g.slot blocks.first.inside g.from g.to) own.shown) less)))
    (λ le. le) in
    below_block w x c bs.first k h.slot g.slot blocks.first key own from h.to to g.to

below_last : (S : Seen) (w : Window) (x c : ℕ) (bs : Blocks) (k : Key) → AreBlocks w x c bs → AreEnds S w w.end c bs
    → IsKey (height w.axis.slots) k → IsInside w c k
    → IsSeenBy S w k → IsClearBehind S w.axis w.grid c k → IsBelow bs.last.key k
below_last S w x c bs k blocks ends key own seen clear =
    let h : HasSlot S w k = unclear_slot S w k seen.0 key seen.1 in
    let g : HasSlot S w bs.last.key = unclear_slot S w bs.last.key bs.last.span blocks.last.key ends.last in
    let from : h.slot < end_slot bs.last.key =
    by_lt h.slot (end_slot bs.last.key)
    (λ less. less)
    (λ past. absurd (h.unclear (ends.behind h.slot (inside_rank w c k h.slot own h.from h.to) past
    (shown_end w c h.slot (inside_rank w c k h.slot own h.from h.to) own.shown)))) in
    let to : g.slot < end_slot k =
    by_lt g.slot (end_slot k)
    (λ less. less)
    (λ past. absurd (g.unclear (clear g.slot
    (rank_column w c g.slot (inside_rank w c bs.last.key g.slot blocks.last.inside g.from g.to) own.shown) past))) in
    below_block w x c bs.last k g.slot h.slot blocks.last key own g.from to h.from from

node_key : (w : Window) (k : Key) → IsNode (height w.axis.slots) k → IsKey (height w.axis.slots) k
node_key w k node = record { high = node.high; within = node.within }

-- the keys of both ends, found from one block
pub ends_of_one : (v : NodesView) (w : Window) (x c : ℕ) (bs : Blocks) (old new : List (Key × Coef)) → AreBlocks w x c bs
    → bs.first ≡ bs.last
    → ((S : Seen) → Serves v w S → AreEnds S w w.end c bs)
    → Gathered v w (IsBelow bs.first.key) (HoldsSought w c sought_both) (most_ends (Some bs.first.span) sought_both bs.first.key) old new
    → Gathered v w (IsInside w c) (MayHoldEnd w c) (2 * height w.axis.slots) old new
ends_of_one v w x c bs old new blocks same ends g =
    gathers_as v w (IsBelow bs.first.key) (IsInside w c) (HoldsSought w c sought_both) (MayHoldEnd w c)
    (most_ends (Some bs.first.span) sought_both bs.first.key) (2 * height w.axis.slots) old new
    (λ k below. inside_below w c bs.first.key k below blocks.first.inside)
    (λ S served k below seen kind. (kind.0, elim kind.1 [ inl first ↦ inl first.1 | inr last ↦ inr last.1 ]))
    (λ S served k node own seen kind. elim kind.1 [
      | inl before ↦ (below_first S w x c bs k blocks (ends S served) (node_key w k node) own seen before, (kind.0, inl (refl, before)))
      | inr behind ↦ (
        (let P : Block → Type 0 = λ b. IsBelow b.key k in
            subst P (sym same) (below_last S w x c bs k blocks (ends S served) (node_key w k node) own seen behind)),
        (kind.0, inr (refl, behind)),
      )
    ])
    (omega (arith, blocks.first.key.high)) g

-- the keys of both ends, found from two blocks
pub ends_of_two : (v u : NodesView) (w : Window) (x c : ℕ) (bs : Blocks) (old mid new : List (Key × Coef)) → AreBlocks w x c bs
    → end_slot bs.first.key ≤ first_slot bs.last.key
    → ((S : Seen) → Serves v w S → AreEnds S w w.end c bs) → StaysSame v u
    → Gathered v w (IsBelow bs.first.key) (HoldsSought w c sought_first) (most_ends (Some bs.first.span) sought_first bs.first.key) old mid
    → Gathered u w (IsBelow bs.last.key) (HoldsSought w c sought_last) (most_ends (Some bs.last.span) sought_last bs.last.key) mid new
    → Gathered v w (IsInside w c) (MayHoldEnd w c) (2 * height w.axis.slots) old new
ends_of_two v u w x c bs old mid new blocks apart ends same g h =
    let joins : Joins v w (IsBelow bs.first.key) (IsBelow bs.last.key) (IsInside w c) (HoldsSought w c sought_first)
    (HoldsSought w c sought_last) (MayHoldEnd w c) = record {
      apart = λ k p q. omega (arith, p.to, q.from, apart, some_slot k);
      first = λ k below. inside_below w c bs.first.key k below blocks.first.inside;
      second = λ k below. inside_below w c bs.last.key k below blocks.last.inside;
      first_kind = λ S served k node below seen kind. (
        kind.0,
        elim kind.1 [
          | inl first ↦ inl first.1
          | inr last ↦ (let off : false ≡ true = last.0 in absurd (cc))
        ],
      );
      second_kind = λ S served k node below seen kind. (
        kind.0,
        elim kind.1 [
          | inl first ↦ (let off : false ≡ true = first.0 in absurd (cc))
          | inr last ↦ inr last.1
        ],
      );
      covers = λ S served k node own seen kind. elim kind.1 [
        | inl before ↦ inl (
          below_first S w x c bs k blocks (ends S served) (node_key w k node) own seen before,
          (kind.0, inl (refl, before)),
        )
        | inr behind ↦ inr (
          below_last S w x c bs k blocks (ends S served) (node_key w k node) own seen behind,
          (kind.0, inr (refl, behind)),
        )
      ];
    } in
    gathers_join v w (IsBelow bs.first.key) (IsBelow bs.last.key) (IsInside w c) (HoldsSought w c sought_first)
    (HoldsSought w c sought_last) (MayHoldEnd w c)
    (most_ends (Some bs.first.span) sought_first bs.first.key) (most_ends (Some bs.last.span) sought_last bs.last.key)
    (2 * height w.axis.slots) old mid new
    joins (omega (arith, blocks.first.key.high, blocks.last.key.high)) g
    (gathers_earlier v u w (IsBelow bs.last.key) (HoldsSought w c sought_last)
    (most_ends (Some bs.last.span) sought_last bs.last.key) mid new same h)

-- the first stored value of the first block is that of the column
pub first_of_column : (v : NodesView) (w : Window) (x c : ℕ) (bs : Blocks) (list : List (Option ℤ)) (o : Option ℤ) → AreBlocks w x c bs
    → ServesList v w list
    → AreEnds (list_seen list) w w.end c bs → IsFirstIn list w (first_slot bs.first.key) (end_slot bs.first.key) o → IsFirstOf list w c o
first_of_column v w x c bs list None blocks served ends h = h
first_of_column v w x c bs list (Some value) blocks served ends h = (
  h.0,
  inside_rank w c bs.first.key h.0 blocks.first.inside h.1 h.2,
  h.3,
  λ j u is before holds.
      by_lt j (first_slot bs.first.key)
      (λ less. list_clear_slot v w list j u served (shown_end w c j is blocks.first.inside.shown) (ends.before j is less) holds)
      (λ from. h.4 j u from before holds),
)

pub last_of_column : (v : NodesView) (w : Window) (x c : ℕ) (bs : Blocks) (list : List (Option ℤ)) (o : Option ℤ) → AreBlocks w x c bs
    → ServesList v w list
    → AreEnds (list_seen list) w w.end c bs → IsLastIn list w (first_slot bs.last.key) (end_slot bs.last.key) o → IsLastOf list w c o
last_of_column v w x c bs list None blocks served ends h = h
last_of_column v w x c bs list (Some value) blocks served ends h = (
  h.0,
  inside_rank w c bs.last.key h.0 blocks.last.inside h.1 h.2,
  h.3,
  λ j u is behind holds.
      by_lt j (end_slot bs.last.key)
      (λ less. h.4 j u (omega arith) less holds)
      (λ past. list_clear_slot v w list j u served (shown_end w c j is blocks.last.inside.shown)
      (ends.behind j is past (shown_end w c j is blocks.last.inside.shown)) holds),
)

-- values that lie within a block's span lie within the column's
among_wider : (s b : Span) (o : Option ℤ) → IsPartOf s b → IfSome o (IsAmong (Some b)) → IfSome o (IsAmong (Some s))
among_wider s b None part h = tt
among_wider s b (Some v) part h = (omega (arith, ints, part.low, h.0), omega (arith, ints, part.high, h.1))

pub has_ends_one : (v t : NodesView) (w : Window) (x c : ℕ) (bs : Blocks) (old new : List (Key × Coef)) (values : EndValues)
    → AreBlocks w x c bs → bs.first ≡ bs.last
    → ((S : Seen) → Serves v w S → AreEnds S w w.end c bs) → Follows v t w c bs.first.key (Some bs.first.span) sought_both old new values
    → HasEnds v w c bs.span old new values
has_ends_one v t w x c bs old new values blocks same ends f = record {
  gathered = ends_of_one v w x c bs old new blocks same ends f.gathered;
  among = record {
    first = among_wider bs.span bs.first.span values.first blocks.first_part f.among.first;
    last = among_wider bs.span bs.first.span values.last blocks.first_part f.among.last;
  };
  first = λ list served. first_of_column v w x c bs list values.first blocks served (ends (list_seen list) served.serves)
      (f.first list served refl refl);
  last = λ list served.
      let P : Block → Type 0 = λ b. IsLastIn list w (first_slot b.key) (end_slot b.key) values.last in
      last_of_column v w x c bs list values.last blocks served (ends (list_seen list) served.serves)
      (subst P same (f.last list served refl refl));
}

pub has_ends_two : (v u t : NodesView) (w : Window) (x c : ℕ) (bs : Blocks) (old mid new : List (Key × Coef))
    (front back values : EndValues) → AreBlocks w x c bs
    → end_slot bs.first.key ≤ first_slot bs.last.key → ((S : Seen) → Serves v w S → AreEnds S w w.end c bs) → StaysSame v u
    → Follows v u w c bs.first.key (Some bs.first.span) sought_first old mid front
    → Follows u t w c bs.last.key (Some bs.last.span) sought_last mid new back
    → values.first ≡ front.first → values.last ≡ back.last → HasEnds v w c bs.span old new values
has_ends_two v u t w x c bs old mid new front back values blocks apart ends same f g ef eg = record {
  gathered = ends_of_two v u w x c bs old mid new blocks apart ends same f.gathered g.gathered;
  among = record {
    first = (let P : Option ℤ → Type 0 = λ o. IfSome o (IsAmong (Some bs.span)) in
        subst P (sym ef) (among_wider bs.span bs.first.span front.first blocks.first_part f.among.first));
    last = (let P : Option ℤ → Type 0 = λ o. IfSome o (IsAmong (Some bs.span)) in
        subst P (sym eg) (among_wider bs.span bs.last.span back.last blocks.last_part g.among.last));
  };
  first = λ list served.
      let P : Option ℤ → Type 0 = λ o. IsFirstOf list w c o in
      subst P (sym ef) (first_of_column v w x c bs list front.first blocks served (ends (list_seen list) served.serves)
      (f.first list served refl refl));
  last = λ list served.
      let P : Option ℤ → Type 0 = λ o. IsLastOf list w c o in
      subst P (sym eg) (last_of_column v w x c bs list back.last blocks served (ends (list_seen list) served.serves)
      (g.last list (serves_list_later v u w list same served) refl refl));
}

-- the counts of reads
pub reads_one : (w : Window) (x c : ℕ) (bs : Blocks) (r0 r1 far : ℕ) → AreBlocks w x c bs
    → r1 ≤ r0 + most_ends (Some bs.first.span) sought_both bs.first.key + far
    → r1 ≤ r0 + (2 * height w.axis.slots + 2 * far)
reads_one w x c bs r0 r1 far blocks a = omega (arith, a, blocks.first.key.high)

pub reads_start : (w : Window) (x c : ℕ) (bs : Blocks) (r0 r1 far : ℕ) → AreBlocks w x c bs
    → r1 ≤ r0 + most_ends (Some bs.first.span) sought_first bs.first.key + far
    → r1 ≤ r0 + (2 * height w.axis.slots + 2 * far)
reads_start w x c bs r0 r1 far blocks a = omega (arith, a, blocks.first.key.high)

pub reads_two : (w : Window) (x c : ℕ) (bs : Blocks) (r0 r1 r2 far : ℕ) → AreBlocks w x c bs
    → r1 ≤ r0 + most_ends (Some bs.first.span) sought_first bs.first.key + far
    → r2 ≤ r1 + most_ends (Some bs.last.span) sought_last bs.last.key + far → r2 ≤ r0 + (2 * height w.axis.slots + 2 * far)
reads_two w x c bs r0 r1 r2 far blocks a b = omega (arith, a, b, blocks.first.key.high, blocks.last.key.high)

-- the row of a column
value_between : (lo v hi : ℤ) → lo ≤ℤ v → v ≤ℤ hi → IsValue lo → IsValue hi → IsValue v
value_between lo v hi a b p q = omega (arith, ints, a, b, p, q)

among_or : (o : Option ℤ) (s : Span) → IsProper s → IfSome o (IsAmong (Some s))
    → (s.min ≤ℤ unwrap_or o s.min) × (unwrap_or o s.min ≤ℤ s.max)
among_or None s proper h = (omega (arith, ints), proper.ordered)
among_or (Some v) s proper h = (h.0, h.1)

shown_row : (w : Window) (c : ℕ) (s : Span) (values : EndValues) → c < w.grid.w → IsProper s → AreAmong (Some s) values
    → IsShownRow w.grid.w (row_by c s values)
shown_row w c s values drawn proper among =
    let first : (s.min ≤ℤ unwrap_or values.first s.min)
    × (unwrap_or values.first s.min ≤ℤ s.max) = among_or values.first s proper among.first in
    let last : (s.min ≤ℤ unwrap_or values.last s.min) × (unwrap_or values.last s.min ≤ℤ s.max) = among_or values.last s proper among.last in
    record {
      drawable = record {
        column = drawn;
        order = proper.ordered;
        first = value_between s.min (unwrap_or values.first s.min) s.max first.0 first.1 proper.low proper.high;
        least = proper.low;
        greatest = proper.high;
        last = value_between s.min (unwrap_or values.last s.min) s.max last.0 last.1 proper.low proper.high;
      };
      first_low = first.0;
      first_high = first.1;
      last_low = last.0;
      last_high = last.1;
    }

first_value : (list : List (Option ℤ)) (w : Window) (c : ℕ) (o : Option ℤ) (d : ℤ) → IsFirstOf list w c o
    → IsFirstOf list w c (Some (unwrap_or o d))
first_value list w c None d h = absurd h
first_value list w c (Some v) d h = h

last_value : (list : List (Option ℤ)) (w : Window) (c : ℕ) (o : Option ℤ) (d : ℤ) → IsLastOf list w c o
    → IsLastOf list w c (Some (unwrap_or o d))
last_value list w c None d h = absurd h
last_value list w c (Some v) d h = h

pub column_some : (v : NodesView) (w : Window) (x c : ℕ) (bs : Blocks) (o : Option Blocks) (old new : List (Key × Coef))
    (rows later : List Row) (values : EndValues) (row : Row) → o ≡ Some bs
    → AreBlocksIfAny w x c o → ((list : List (Option ℤ)) → ServesList v w list → IsSpanBelowIfAny list w w.end c o)
    → HasEnds v w c bs.span old new values → row ≡ row_by c bs.span values → later ≡ rows ++ row ∷ [] → HasColumn v w c old new rows later
column_some v w x c bs o old new rows later values row is given spans ends made pushed =
    let P : Option Blocks → Type 0 = λ o. AreBlocksIfAny w x c o in
    let blocks : AreBlocks w x c bs = subst P is given in
    let R : Row → Type 0 = λ r. IsShownRow w.grid.w r in
    record {
      gathered = ends.gathered;
      row = inr (record {
        row = row;
        is = pushed;
        column = ap (λ r. r.column) made;
        shown = subst R (sym made) (shown_row w c bs.span values blocks.first.inside.shown blocks.proper ends.among);
        of_list = λ list served.
            let Q : Option Blocks → Type 0 = λ o. IsSpanBelowIfAny list w w.end c o in
            let T : Row → Type 0 = λ r. IsRowOf list w r in
            subst T (sym made) (record {
              first = first_value list w c values.first bs.span.min (ends.first list served);
              span = subst Q is (spans list served);
              last = last_value list w c values.last bs.span.min (ends.last list served);
            });
      });
    }

pub column_none : (v : NodesView) (w : Window) (c : ℕ) (o : Option Blocks) (items : List (Key × Coef)) (rows : List Row) → o ≡ None
    → c < w.grid.w
    → ((S : Seen) → Serves v w S → AreEndsIfAny S w w.end c o)
    → ((list : List (Option ℤ)) → ServesList v w list → IsSpanBelowIfAny list w w.end c o)
    → HasColumn v w c items items rows rows
column_none v w c o items rows is drawn ends spans = record {
  gathered =
      gathers_nothing v w (IsInside w c) (MayHoldEnd w c) (2 * height w.axis.slots) items
      (λ S served k node own seen kind.
      let P : Option Blocks → Type 0 = λ o. AreEndsIfAny S w w.end c o in
      let clear : AreEndsIfAny S w w.end c None = subst P is (ends S served) in
      let h : HasSlot S w k = unclear_slot S w k seen.0 (node_key w k node) seen.1 in
      let place : rank w h.slot ≡ suc c = inside_rank w c k h.slot own h.from h.to in
      h.unclear (clear h.slot place (shown_end w c h.slot place drawn)));
  row = inl (record {
    is = refl;
    empty = λ list served i value place holds.
        let Q : Option Blocks → Type 0 = λ o. IsSpanBelowIfAny list w w.end c o in
        let none : IsSpanBelowIfAny list w w.end c None = subst Q is (spans list served) in
        none i value place (shown_end w c i place drawn) holds;
  });
}

-- no columns, and one more
pub no_columns : (v : NodesView) (w : Window) (items : List (Key × Coef)) → HasColumns v w 0 items items []
no_columns v w items = record {
  gathered =
      gathers_nothing v w (IsInColumns w 0) (IsEndKey w) (0 * (2 * height w.axis.slots)) items
      (λ S served k node part seen kind. omega (arith, part.below));
  rising = λ i j d less short. absurd (omega arith);
  shown = All-nil (IsShownRow w.grid.w);
  below = All-nil (λ r. r.column < 0);
  each = λ list served. All-nil (IsRowOf list w);
  every = λ list served c i value less is holds. absurd (omega arith);
}

one_column : (w : Window) (n : ℕ) (k : Key) (S : Seen) → IsInside w n k → IsEndKey w S k → MayHoldEnd w n S k
one_column w n k S own kind =
    let same : kind.column ≡ n = omega (arith, own.first, kind.inside.first) in
    let P : ℕ → Type 0 = λ c. MayHoldEnd w c S k in subst P same kind.clear

keys_more : (v u : NodesView) (w : Window) (n : ℕ) (old mid new : List (Key × Coef)) → StaysSame v u
    → Gathered v w (IsInColumns w n) (IsEndKey w) (n * (2 * height w.axis.slots)) old mid
    → Gathered u w (IsInside w n) (MayHoldEnd w n) (2 * height w.axis.slots) mid new
    → Gathered v w (IsInColumns w (n + 1)) (IsEndKey w) ((n + 1) * (2 * height w.axis.slots)) old new
keys_more v u w n old mid new same g h =
    let joins : Joins v w (IsInColumns w n) (IsInside w n) (IsInColumns w (n + 1)) (IsEndKey w) (MayHoldEnd w n) (IsEndKey w) = record {
      apart = λ k part own. omega (arith, part.below, part.inside.first, own.first);
      first = λ k part. record { column = part.column; below = omega (arith, part.below); inside = part.inside };
      second = λ k own. record { column = n; below = omega arith; inside = own };
      first_kind = λ S served k node part seen kind. kind;
      second_kind = λ S served k node own seen kind. record { column = n; inside = own; clear = kind };
      covers = λ S served k node part seen kind.
          by_lt part.column n
          (λ less. inl (record { column = part.column; below = less; inside = part.inside }, kind))
          (λ more.
          let same_column : part.column ≡ n = omega (arith, part.below) in
          let P : ℕ → Type 0 = λ c. IsInside w c k in
          let own : IsInside w n k = subst P same_column part.inside in
          inr (own, one_column w n k S own kind));
    } in
    gathers_join v w (IsInColumns w n) (IsInside w n) (IsInColumns w (n + 1)) (IsEndKey w) (MayHoldEnd w n) (IsEndKey w)
    (n * (2 * height w.axis.slots)) (2 * height w.axis.slots) ((n + 1) * (2 * height w.axis.slots)) old mid new joins (omega arith) g
    (gathers_earlier v u w (IsInside w n) (MayHoldEnd w n) (2 * height w.axis.slots) mid new same h)

contains_more : (rows : List Row) (r : Row) (c : ℕ) → Contains (columns_of rows) c → Contains (columns_of (rows ++ r ∷ [])) c
contains_more rows r c h =
    let P : List ℕ → Type 0 = λ cs. Contains cs c in
    subst P (sym (map-append (λ r. r.column) rows (r ∷ []))) (Contains-append_left (columns_of rows) (r.column ∷ []) c h)

contains_last : (rows : List Row) (r : Row) → Contains (columns_of (rows ++ r ∷ [])) r.column
contains_last rows r =
    let P : List ℕ → Type 0 = λ cs. Contains cs r.column in
    subst P (sym (map-append (λ r. r.column) rows (r ∷ []))) (Contains-push (columns_of rows) r.column)

pub more_columns : (v u : NodesView) (w : Window) (n : ℕ) (old mid new : List (Key × Coef)) (rows later : List Row) → StaysSame v u
    → HasColumns v w n old mid rows → HasColumn u w n mid new rows later
    → HasColumns v w (n + 1) old new later
more_columns v u w n old mid new rows later same h g = elim g.row [
  | inl none ↦
      let P : List Row → Type 0 = λ rs. HasColumns v w (n + 1) old new rs in
      subst P (sym none.is) (record {
        gathered = keys_more v u w n old mid new same h.gathered g.gathered;
        rising = h.rising;
        shown = h.shown;
        below = All-weaker (λ r. r.column < n) (λ r. r.column < n + 1) (λ r less. omega arith) rows h.below;
        each = h.each;
        every = λ list served c i value less is holds.
            by_lt c n (λ below. h.every list served c i value below is holds)
            (λ more.
            let same_column : c ≡ n = omega arith in
            absurd (none.empty list (serves_list_later v u w list same served) i value (is ∙ ap suc same_column) holds));
      })
  | inr some ↦
      let P : List Row → Type 0 = λ rs. HasColumns v w (n + 1) old new rs in
      subst P (sym some.is) (record {
        gathered = keys_more v u w n old mid new same h.gathered g.gathered;
        rising = all_pairs_push (λ r s. r.column < s.column) rows some.row h.rising
            (λ k d less. omega (arith, h.below k d less, some.column));
        shown = All-push (IsShownRow w.grid.w) rows some.row h.shown some.shown;
        below =
            All-push (λ r. r.column < n + 1) rows some.row
            (All-weaker (λ r. r.column < n) (λ r. r.column < n + 1) (λ r less. omega arith) rows h.below)
            (omega (arith, some.column));
        each = λ list served. All-push (IsRowOf list w) rows some.row (h.each list served)
            (some.of_list list (serves_list_later v u w list same served));
        every = λ list served c i value less is holds.
            by_lt c n (λ below. contains_more rows some.row c (h.every list served c i value below is holds))
            (λ more.
            let same_column : some.row.column ≡ c = omega (arith, some.column) in
            let Q : ℕ → Type 0 = λ b. Contains (columns_of (rows ++ some.row ∷ [])) b in
            subst Q same_column (contains_last rows some.row));
      })
]

-- an entry by its place under another name
pub held_at : (w : Window) (x c d : ℕ) (table : List (Option Blocks)) → d ≡ c → c < w.grid.w → HoldBlocks w x table
    → AreBlocksIfAny w x c (entry table d)
held_at w x c d table is below h = let P : ℕ → Type 0 = λ n. AreBlocksIfAny w x c (entry table n) in subst P (sym is) (h c below)

pub ends_at : (S : Seen) (w : Window) (x c d : ℕ) (table : List (Option Blocks)) → d ≡ c → c < w.grid.w → HoldEnds S w x table
    → AreEndsIfAny S w x c (entry table d)
ends_at S w x c d table is below h = let P : ℕ → Type 0 = λ n. AreEndsIfAny S w x c (entry table n) in subst P (sym is) (h c below)

pub spans_at : (list : List (Option ℤ)) (w : Window) (x c d : ℕ) (table : List (Option Blocks)) → d ≡ c → c < w.grid.w
    → HoldSpans list w x table → IsSpanBelowIfAny list w x c (entry table d)
spans_at list w x c d table is below h = let P : ℕ → Type 0 = λ n. IsSpanBelowIfAny list w x c (entry table n) in
    subst P (sym is) (h c below)

-- the counts of reads
pub reads_column : (r0 r1 r2 n each : ℕ) → r1 ≤ r0 + n * each → r2 ≤ r1 + each → r2 ≤ r0 + (n + 1) * each
reads_column r0 r1 r2 n each a b = omega (arith, a, b)

pub reads_within : (r0 r1 n m each : ℕ) → n ≤ m → r1 ≤ r0 + n * each → r1 ≤ r0 + m * each
reads_within r0 r1 n m each le a = omega (arith, a, mul-le-mul_right {m = n} {n = m} each le)
