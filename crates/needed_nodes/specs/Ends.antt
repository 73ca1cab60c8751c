-- The keys on the ways to the first and to the last stored slot of a column, and the values there.
use Rattle.std.specs.Prelude.{ℕ, ℤ, ◌+◌, ◌*◌, ◌<◌, ◌≤◌, ◌≤ℤ◌, ◌⊎◌, ◌≡◌, IsTrue, Bool, ◌&&◌, is_none, if◌then◌else◌, List, Option, None}
use Rattle.std.specs.Prelude.{Some, IfSome, IsSome}
use Rattle.chart_grid.specs.Projection.{height}
use Rattle.om3_coeff.specs.declared.key.Key.{Key}
use Rattle.om3_coeff.specs.declared.span.Span.{Span}
use Rattle.om3_coeff.specs.declared.coef.Coef.{Coef}
use Rattle.om3_coeff.specs.Keys.{first_slot, end_slot}
use Rattle.om3_coeff.specs.View.{NodesView}
use Rattle.om3_coeff.specs.Walks.{StaysBelow}
use Rattle.om3_coeff.specs.Spans.{Holds, IsClear}
use Rattle.view_keys.specs.Flat.{IsFlat}
use Rattle.view_keys.specs.Wanted.{Seen, IsClearBefore, IsClearBehind}
use Rattle.needed_nodes.specs.declared.window.Window.{Window}
use Rattle.needed_nodes.specs.declared.ends.Sought.{Sought}
use Rattle.needed_nodes.specs.declared.ends.EndValues.{EndValues}
use Rattle.needed_nodes.specs.Ranks.{IsBelow}
use Rattle.needed_nodes.specs.Serving.{ServesList, shown_by}
use Rattle.needed_nodes.specs.Gathering.{Gathered}

-- an end that is sought lies in the key's range or behind it: all slots of the column before the range
-- are clear; the other end likewise
pub record MayHold (S : Seen) (w : Window) (c : ℕ) (sought : Sought) (k : Key) : Type 0 where
  pub first : IsTrue sought.first → IsClearBefore S w.axis w.grid c k
  pub last : IsTrue sought.last → IsClearBehind S w.axis w.grid c k

-- what is seen of the key isn't flat
abbrev pub IsUnevenBy : Seen → Window → Key → Type 0
IsUnevenBy S w k = (s : Span) → shown_by S w k ≡ Some (Some s) → IsFlat w.lo w.hi w.grid.h s → ⊥

-- the keys that hold a sought end, and aren't flat
abbrev pub HoldsSought : Window → ℕ → Sought → Seen → Key → Type 0
HoldsSought w c sought S k =
    IsUnevenBy S w k
    × ((IsTrue sought.first × IsClearBefore S w.axis w.grid c k) ⊎ (IsTrue sought.last × IsClearBehind S w.axis w.grid c k))

-- one where it is sought
abbrev pub one_if : Bool → ℕ
one_if b = if b then 1 else 0

-- how many they are at most, at or below a key with this span
abbrev pub most_ends : Option Span → Sought → Key → ℕ
most_ends None sought k = 0
most_ends (Some s) sought k = k.level * (one_if sought.first + one_if sought.last)

-- what is sought in the halves of a range: the last one is in the first half only where the second half
-- has no span
abbrev pub sought_left : Sought → Option Span → Sought
sought_left sought right = record { first = sought.first; last = sought.last && is_none right }

abbrev pub sought_right : Sought → Option Span → Sought
sought_right sought left = record { first = sought.first && is_none left; last = sought.last }

-- the values of a range of one slot, or of one height
abbrev pub slot_values : Sought → ℤ → EndValues
slot_values sought v = record {
  first = if sought.first then Some v else None;
  last = if sought.last then Some v else None;
}

-- the first value that is there
abbrev pub either : Option ℤ → Option ℤ → Option ℤ
either None b = b
either (Some a) b = Some a

-- the values of a range by those of its halves
abbrev pub halves_values : EndValues → EndValues → EndValues
halves_values l r = record { first = either l.first r.first; last = either r.last l.last }

-- the value lies from the least to the greatest of a span
abbrev pub IsAmong : Option Span → ℤ → Type 0
IsAmong None v = ⊥
IsAmong (Some s) v = (s.min ≤ℤ v) × (v ≤ℤ s.max)

-- each value that was found lies within the span
pub record AreAmong (s : Option Span) (values : EndValues) : Type 0 where
  pub first : IfSome values.first (IsAmong s)
  pub last : IfSome values.last (IsAmong s)

-- slot i holds a value of the height of v
pub record HoldsAs (list : List (Option ℤ)) (w : Window) (i : ℕ) (v : ℤ) : Type 0 where
  pub value : ℤ
  pub stored : Holds list i value
  pub same : height v w.lo w.hi w.grid.h ≡ height value w.lo w.hi w.grid.h

-- v has the height of the first stored value of the slots from a on and below b
abbrev pub IsFirstIn : List (Option ℤ) → Window → ℕ → ℕ → Option ℤ → Type 0
IsFirstIn list w a b None = ⊥
IsFirstIn list w a b (Some v) = (i : ℕ) × (a ≤ i) × (i < b) × HoldsAs list w i v × IsClear list a i

-- it has that of the last one
abbrev pub IsLastIn : List (Option ℤ) → Window → ℕ → ℕ → Option ℤ → Type 0
IsLastIn list w a b None = ⊥
IsLastIn list w a b (Some v) = (i : ℕ) × (a ≤ i) × (i < b) × HoldsAs list w i v × IsClear list (i + 1) b

-- What a walk found at or below the key k of column c, which has the span s if any: the keys that hold a
-- sought end, and the values there.
pub record Follows (old new : NodesView) (w : Window) (c : ℕ) (k : Key) (s : Option Span) (sought : Sought) (keys more : List (Key × Coef))
    (values : EndValues) : Type 0 where
  pub below : StaysBelow k old.asked new.asked
  pub gathered : Gathered old w (IsBelow k) (HoldsSought w c sought) (most_ends s sought k) keys more
  pub among : AreAmong s values
  pub first : (list : List (Option ℤ)) → ServesList old w list → IsTrue sought.first → IsSome s
      → IsFirstIn list w (first_slot k) (end_slot k) values.first
  pub last : (list : List (Option ℤ)) → ServesList old w list → IsTrue sought.last → IsSome s
      → IsLastIn list w (first_slot k) (end_slot k) values.last
