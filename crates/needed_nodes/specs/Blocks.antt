-- What the table of blocks says of the slots before a place.
use Rattle.std.specs.Prelude.{ℕ, ℤ, suc, ◌≡◌, ◌-◌, ◌*◌, ◌<◌, ◌≤◌, ◌≤ℤ◌, ◌⊎◌, List, slice_index_or, Option, None, Some, ⊤}
use Rattle.om3_coeff.specs.declared.key.Key.{Key}
use Rattle.om3_coeff.specs.declared.span.Span.{Span}
use Rattle.om3_coeff.specs.declared.coef.Coef.{Coef}
use Rattle.om3_coeff.specs.Keys.{first_slot, end_slot, height, IsKey}
use Rattle.om3_coeff.specs.Spans.{IsProper, Holds}
use Rattle.om3_coeff.specs.View.{NodesView}
use Rattle.om3_coeff.specs.Walks.{StaysBelow}
use Rattle.view_keys.specs.Wanted.{Seen}
use Rattle.needed_nodes.specs.declared.window.Window.{Window}
use Rattle.needed_nodes.specs.declared.blocks.Block.{Block}
use Rattle.needed_nodes.specs.declared.blocks.Blocks.{Blocks}
use Rattle.needed_nodes.specs.Ranks.{rank, first_rank, last_rank, IsInside, IsTopmost, IsBelow, IsCutKey}
use Rattle.needed_nodes.specs.Serving.{Serves, ServesList, shown_by, IsClearBy}
use Rattle.needed_nodes.specs.Gathering.{Gathered}

-- the cut keys at or below a key
pub record IsCutBelow (w : Window) (k c : Key) : Type 0 where
  pub below : IsBelow k c
  pub cut : IsCutKey w c

-- how many they are at most
abbrev pub most_cut : Window → Key → ℕ
most_cut w k = k.level * (last_rank w k - first_rank w k)

-- the block is a key within column c, with a proper span, and no larger key is within it
pub record IsBlock (w : Window) (c : ℕ) (b : Block) : Type 0 where
  pub key : IsKey (height w.axis.slots) b.key
  pub inside : IsInside w c b.key
  pub top : IsTopmost w b.key
  pub proper : IsProper b.span

-- the span lies within another one
pub record IsPartOf (whole part : Span) : Type 0 where
  pub low : whole.min ≤ℤ part.min
  pub high : part.max ≤ℤ whole.max

-- the first and the last block of column c, both before slot x: they are one, or the first lies before
-- the last
pub record AreBlocks (w : Window) (x c : ℕ) (bs : Blocks) : Type 0 where
  pub first : IsBlock w c bs.first
  pub last : IsBlock w c bs.last
  pub proper : IsProper bs.span
  pub first_part : IsPartOf bs.span bs.first.span
  pub last_part : IsPartOf bs.span bs.last.span
  pub order : (bs.first ≡ bs.last) ⊎ (end_slot bs.first.key ≤ first_slot bs.last.key)
  pub end : end_slot bs.last.key ≤ x

-- For what S shows, they are seen, and the column's slots before the first one and those behind the
-- last one and below x are clear.
pub record AreEnds (S : Seen) (w : Window) (x c : ℕ) (bs : Blocks) : Type 0 where
  pub first : shown_by S w bs.first.key ≡ Some (Some bs.first.span)
  pub last : shown_by S w bs.last.key ≡ Some (Some bs.last.span)
  pub before : (i : ℕ) → rank w i ≡ suc c → i < first_slot bs.first.key → IsClearBy S w i
  pub behind : (i : ℕ) → rank w i ≡ suc c → end_slot bs.last.key ≤ i → i < x → IsClearBy S w i

-- The span has the least and the greatest value that the list stores in column c below slot x.
pub record IsSpanBelow (list : List (Option ℤ)) (w : Window) (x c : ℕ) (s : Span) : Type 0 where
  pub least_at : ℕ
  pub least_in : rank w least_at ≡ suc c
  pub least_below : least_at < x
  pub least : Holds list least_at s.min
  pub greatest_at : ℕ
  pub greatest_in : rank w greatest_at ≡ suc c
  pub greatest_below : greatest_at < x
  pub greatest : Holds list greatest_at s.max
  pub above : (i : ℕ) (v : ℤ) → rank w i ≡ suc c → i < x → Holds list i v → s.min ≤ℤ v
  pub below : (i : ℕ) (v : ℤ) → rank w i ≡ suc c → i < x → Holds list i v → v ≤ℤ s.max

-- each of the three for a column's entry, which is nothing where no block was met
abbrev pub AreBlocksIfAny : Window → ℕ → ℕ → Option Blocks → Type 0
AreBlocksIfAny w x c None = ⊤
AreBlocksIfAny w x c (Some bs) = AreBlocks w x c bs

abbrev pub AreEndsIfAny : Seen → Window → ℕ → ℕ → Option Blocks → Type 0
AreEndsIfAny S w x c None = (i : ℕ) → rank w i ≡ suc c → i < x → IsClearBy S w i
AreEndsIfAny S w x c (Some bs) = AreEnds S w x c bs

abbrev pub IsSpanBelowIfAny : List (Option ℤ) → Window → ℕ → ℕ → Option Blocks → Type 0
IsSpanBelowIfAny list w x c None = (i : ℕ) (v : ℤ) → rank w i ≡ suc c → i < x → Holds list i v → ⊥
IsSpanBelowIfAny list w x c (Some bs) = IsSpanBelow list w x c bs.span

-- the entry of column c
abbrev pub entry : List (Option Blocks) → ℕ → Option Blocks
entry table c = slice_index_or table c None

-- and for each column
abbrev pub HoldBlocks : Window → ℕ → List (Option Blocks) → Type 0
HoldBlocks w x table = (c : ℕ) → c < w.grid.w → AreBlocksIfAny w x c (entry table c)

abbrev pub HoldEnds : Seen → Window → ℕ → List (Option Blocks) → Type 0
HoldEnds S w x table = (c : ℕ) → c < w.grid.w → AreEndsIfAny S w x c (entry table c)

abbrev pub HoldSpans : List (Option ℤ) → Window → ℕ → List (Option Blocks) → Type 0
HoldSpans list w x table = (c : ℕ) → c < w.grid.w → IsSpanBelowIfAny list w x c (entry table c)

-- What a walk found at or below the key k: the cut keys there, and what the table says of the slots
-- before the key's range it now says of those before its end.
pub record Finds (old new : NodesView) (w : Window) (k : Key) (keys more : List (Key × Coef))
    (table later : List (Option Blocks)) : Type 0 where
  pub below : StaysBelow k old.asked new.asked
  pub cuts : Gathered old w (IsCutBelow w k) (λ S c. ⊤) (most_cut w k) keys more
  pub blocks : HoldBlocks w (first_slot k) table → HoldBlocks w (end_slot k) later
  pub ends : (S : Seen) → Serves old w S → HoldEnds S w (first_slot k) table → HoldEnds S w (end_slot k) later
  pub spans : (list : List (Option ℤ)) → ServesList old w list → HoldSpans list w (first_slot k) table → HoldSpans list w (end_slot k) later
