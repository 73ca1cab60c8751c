-- What a walk knows of the nodes that it asks for a window.
use Rattle.std.specs.Prelude.{ℕ, ℤ, ◌≡◌, ◌^◌, ◌≤◌, List, length, Option, Some, ⊤}
use Rattle.om3_coeff.specs.declared.key.Key.{Key}
use Rattle.om3_coeff.specs.declared.span.Span.{Span}
use Rattle.om3_coeff.specs.declared.errors.NodeError.{NodeError}
use Rattle.om3_coeff.specs.Keys.{height, top_key, IsKey}
use Rattle.om3_coeff.specs.Spans.{AreSlots, IsProperIfAny, span}
use Rattle.om3_coeff.specs.Coefs.{coef}
use Rattle.om3_coeff.specs.Known.{known, IsKnownClear}
use Rattle.om3_coeff.specs.View.{NodesView, HasCause}
use Rattle.view_keys.specs.Wanted.{Seen, IsWanted}
use Rattle.needed_nodes.specs.declared.window.Window.{Window}
use Rattle.needed_nodes.specs.declared.scan_of.ScanOf.{ScanOf}
use Rattle.needed_nodes.specs.declared.scan_of.ScanOf.TheVariants.{Node, NoMemory}
use Rattle.needed_nodes.specs.Answers.{NamesOf}

-- the nodes give for each key that S makes wanted the coefficient that S tells
pub record Serves (view : NodesView) (w : Window) (S : Seen) : Type 0 where
  pub tells : view.tells
  pub root : view.root ≡ S.root
  pub told : (k : Key) → IsWanted S w.axis w.grid w.lo w.hi k → view.told k ≡ S.told k

-- what the tree over a list of slots shows
abbrev pub list_seen : List (Option ℤ) → Seen
list_seen list = record { root = span list (top_key (length list)); told = λ k. Some (coef list k) }

-- they give the list's coefficients for the keys that the view wants
pub record ServesList (view : NodesView) (w : Window) (list : List (Option ℤ)) : Type 0 where
  pub values : AreSlots list
  pub few : length list ≤ 2 ^ 35
  pub slots : w.axis.slots ≡ length list
  pub serves : Serves view w (list_seen list)

-- what S shows of a key, and that slot i is known to hold nothing
abbrev pub shown_by : Seen → Window → Key → Option (Option Span)
shown_by S w k = known S.root S.told (height w.axis.slots) k

abbrev pub IsClearBy : Seen → Window → ℕ → Type 0
IsClearBy S w i = IsKnownClear S.root S.told (height w.axis.slots) i

-- the nodes may be asked, and a walk has come to the key k, which has the span s if any
pub record IsReady (view : NodesView) (w : Window) (k : Key) (s : Option Span) : Type 0 where
  pub fit : view.fit
  pub slots : view.slots ≡ w.axis.slots
  pub key : IsKey (height w.axis.slots) k
  pub proper : IsProperIfAny s
  pub known : (S : Seen) → Serves view w S → shown_by S w k ≡ Some s

-- a key that the error names is wanted
abbrev pub NamesWanted : NodesView → Window → NodeError → Type 0
NamesWanted view w e = (S : Seen) → Serves view w S → NamesOf (IsWanted S w.axis w.grid w.lo w.hi) e

-- an error of a walk is one that an ask of the nodes gave, for a wanted key; want of memory is free
abbrev pub IsCauseOf : NodesView → NodesView → Window → ScanOf → Type 0
IsCauseOf old new w (Node e) = HasCause old new e × NamesWanted old w e
IsCauseOf old new w NoMemory = ⊤
