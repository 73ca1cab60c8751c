-- What a walk gathers: keys with their coefficients.
use Rattle.std.specs.Prelude.{ℕ, ◌≡◌, ◌≢◌, ◌≤◌, List, [], ◌∷◌, ◌++◌, length, All, Contains, Some, ⊤}
use Rattle.om3_coeff.specs.declared.key.Key.{Key}
use Rattle.om3_coeff.specs.declared.span.Span.{Span}
use Rattle.om3_coeff.specs.declared.coef.Coef.{Coef}
use Rattle.om3_coeff.specs.Keys.{height, IsNode}
use Rattle.om3_coeff.specs.View.{NodesView}
use Rattle.view_keys.specs.Wanted.{Seen}
use Rattle.view_keys.specs.Listed.{keys_of}
use Rattle.needed_nodes.specs.declared.window.Window.{Window}
use Rattle.needed_nodes.specs.Answers.{CanSplit}
use Rattle.needed_nodes.specs.Serving.{Serves, shown_by}

-- no key stands twice
abbrev pub AreApart : List (Key × Coef) → Type 0
AreApart [] = ⊤
AreApart (e ∷ es) = All (λ later. e.0 ≢ later.0) es × AreApart es

-- S shows a span of the key
abbrev pub IsSeenBy : Seen → Window → Key → Type 0
IsSeenBy S w k = (s : Span) × (shown_by S w k ≡ Some (Some s))

-- the key is seen and of this kind, and its coefficient is the one that S tells
pub record IsToldBy (S : Seen) (w : Window) (Kind : Seen → Key → Type 0) (e : Key × Coef) : Type 0 where
  pub kind : Kind S e.0
  pub seen : IsSeenBy S w e.0
  pub coef : S.told e.0 ≡ Some e.1

-- To the list were added keys of a part of the tree, at most so many and each once, with coefficients
-- that split. For what the nodes serve they are all seen keys of this kind there.
pub record Gathered (view : NodesView) (w : Window) (Part : Key → Type 0) (Kind : Seen → Key
    → Type 0) (most : ℕ) (old new : List (Key × Coef)) : Type 0 where
  pub more : List (Key × Coef)
  pub is : new ≡ old ++ more
  pub nodes : All (λ e. IsNode (height w.axis.slots) e.0) more
  pub inside : All (λ e. Part e.0) more
  pub good : All (λ e. CanSplit e.1) more
  pub apart : AreApart more
  pub few : length more ≤ most
  pub told : (S : Seen) → Serves view w S → All (IsToldBy S w Kind) more
  pub all : (S : Seen) → Serves view w S → (k : Key) → IsNode (height w.axis.slots) k → Part k → IsSeenBy S w k → Kind S k
      → Contains (keys_of more) k
