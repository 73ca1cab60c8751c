-- What the nodes over sent and held coefficients mean.
use Rattle.std.specs.Prelude.{ℕ, ◌≡◌, ◌^◌, ◌≤◌, ◌++◌, List, AllPairs, Option, None, Some}
use Rattle.std.specs.Option.{option_map}
use Rattle.om3_coeff.specs.declared.key.Key.{Key}
use Rattle.om3_coeff.specs.declared.span.Span.{Span}
use Rattle.om3_coeff.specs.declared.coef.Coef.{Coef}
use Rattle.om3_coeff.specs.declared.errors.NodeError.{NodeError}
use Rattle.om3_coeff.specs.declared.errors.NodeError.TheVariants.{DiskFault, Damaged, Missing, BadCoefficient}
use Rattle.om3_coeff.specs.Keys.{height}
use Rattle.om3_coeff.specs.Spans.{IsProperIfAny}
use Rattle.om3_coeff.specs.Coefs.{parts}
use Rattle.om3_coeff.specs.Known.{known}
use Rattle.om3_coeff.specs.View.{NodesView}
use Rattle.coefficient_cache.specs.Caches.{Cache}
use Rattle.coefficient_cache.specs.Pairs.{series_key, in_series, coefficient_at}
use Rattle.chart_frames.specs.Frames.{Precedes}
use Rattle.view_keys.specs.Wanted.{Seen}
use Rattle.chart_client.specs.Failing.{IsMissing, IsMisfit}
use Rattle.chart_client.specs.declared.held_nodes.HeldNodes.{HeldNodes}

-- the coefficient that is sent for a key of a series
abbrev pub sent_for : ℕ → List (Key × Coef) → Key → Option Coef
sent_for series sent key = coefficient_at (in_series series sent) (series_key series key)

-- the coefficient that is sent for a key of a series or, where none is, the one that is held
abbrev pub held_told : ℕ → List (Key × Coef) → Cache → Key → Option Coef
held_told series sent cache key = coefficient_at (in_series series sent ++ cache.pairs) (series_key series key)

-- what is seen of the series
abbrev pub seen_of : HeldNodes → Seen
seen_of nodes = record { root = nodes.root; told = held_told nodes.series nodes.sent.now nodes.cache.now }

-- a coefficient, where it can be used: where the key's span is seen, it splits that span
abbrev pub usable_by : Option (Option Span) → Option Coef → Option Coef
usable_by None c = c
usable_by (Some None) c = c
usable_by (Some (Some s)) None = None
usable_by (Some (Some s)) (Some c) = option_map (λ halves. c) (parts s c)

-- the usable coefficient of a key
abbrev pub usable : Seen → ℕ → Key → Option Coef
usable seen slots k = usable_by (known seen.root seen.told (height slots) k) (seen.told k)

-- what is seen by the usable coefficients
abbrev pub usable_seen : Seen → ℕ → Seen
usable_seen seen slots = record { root = seen.root; told = usable seen slots }

-- the nodes may be asked: the tree is not too high, its root's span is proper, and what is sent is in order
pub record IsFit (sent : List (Key × Coef)) (slots : ℕ) (root : Option Span) : Type 0 where
  pub few : slots ≤ 2 ^ 35
  pub proper : IsProperIfAny root
  pub order : AllPairs Precedes sent

-- which errors come: that of a key without a coefficient, and that of one whose coefficient doesn't fit
abbrev pub IsHeldError : Seen → ℕ → NodeError → Type 0
IsHeldError seen slots DiskFault = ⊥
IsHeldError seen slots (Damaged page) = ⊥
IsHeldError seen slots (Missing key) = IsMissing seen key
IsHeldError seen slots (BadCoefficient key) = IsMisfit seen slots key

-- nodes that tell these coefficients, and read no block
abbrev pub view_with : (Key → Option Coef) → HeldNodes → NodesView
view_with told nodes = record {
  fit = IsFit nodes.sent.now nodes.slots nodes.root;
  slots = nodes.slots;
  root = nodes.root;
  tells = Unit {0};
  told = told;
  asked = nodes.asked;
  reads = 0;
  faults = 0;
  bad = IsHeldError (seen_of nodes) nodes.slots;
}

-- they tell the usable coefficients among those that are sent or held
abbrev pub held_view : HeldNodes → NodesView
held_view nodes = view_with (usable (seen_of nodes) nodes.slots) nodes

-- the same with all that are sent or held
abbrev pub told_view : HeldNodes → NodesView
told_view nodes = view_with (held_told nodes.series nodes.sent.now nodes.cache.now) nodes

-- what asks keep: all but the key asked last
pub record Stays (old new : HeldNodes) : Type 0 where
  pub series : new.series ≡ old.series
  pub sent : new.sent.now ≡ old.sent.now
  pub cache : new.cache.now ≡ old.cache.now
  pub slots : new.slots ≡ old.slots
  pub root : new.root ≡ old.root
