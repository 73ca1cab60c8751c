-- What is seen by the usable coefficients is what is seen by all.
use Rattle.std.proofs.Common.{ℕ, ℤ, zero, suc, ◌≡◌, ◌+◌, ◌-◌, ◌/◌, ◌⊎◌, inl, inr, List, refl, sym, ◌∙◌, ap, ap₂, arith}
use Rattle.std.proofs.lemmas.Bool.{cases_lt}
use Rattle.std.proofs.lemmas.List.Elements.{All-weaker}
use Rattle.std.specs.Prelude.{Option, Some, None}
use Rattle.std.specs.Option.{option_map}
use Rattle.om3_coeff.specs.declared.key.Key.{Key}
use Rattle.om3_coeff.specs.declared.span.Span.{Span}
use Rattle.om3_coeff.specs.declared.coef.Coef.{Coef}
use Rattle.om3_coeff.specs.Keys.{height}
use Rattle.om3_coeff.specs.Coefs.{parts}
use Rattle.om3_coeff.specs.Known.{half, known_below, known_from, known}
use Rattle.chart_grid.specs.declared.axis.Axis.{Axis}
use Rattle.chart_grid.specs.declared.grid.Grid.{Grid}
use Rattle.view_keys.specs.Ranges.{IsWithin, IsCut}
use Rattle.view_keys.specs.Flat.{IsFlat}
use Rattle.view_keys.specs.Wanted.{Seen, IsWanted, IsClearBefore, IsClearBehind}
use Rattle.view_keys.specs.Listed.{IsListOf}
use Rattle.view_keys.proofs.Ranging.{slot_key}
use Rattle.chart_client.specs.HeldNodes.{usable_by, usable, usable_seen}

parts_below : (index : ℕ) (s : Span) (c : Coef) (q : Option (Option Span × Option Span)) → parts s c ≡ q
    → known_below index (Some (Some s)) (option_map (λ halves. c) q) ≡ option_map (half index) (parts s c)
parts_below index s c None is = sym (ap (λ (p : Option (Option Span × Option Span)). option_map (half index) p) is)
parts_below index s c (Some halves) is = refl

usable_below : (index : ℕ) (above : Option (Option Span)) (c : Option Coef)
    → known_below index above (usable_by above c) ≡ known_below index above c
usable_below index None c = refl
usable_below index (Some None) c = refl
usable_below index (Some (Some s)) None = refl
usable_below index (Some (Some s)) (Some c) = parts_below index s c (parts s c) refl

usable_from : (seen : Seen) (slots depth level index : ℕ) → level + depth ≡ height slots
    → known_from seen.root (usable seen slots) depth level index ≡ known_from seen.root seen.told depth level index
unfolding known_from
usable_from seen slots zero level index levels = refl
usable_from seen slots (suc depth) level index levels =
    let p : Key = record { level = suc level; index = index / 2 } in
    let above : Option (Option Span) = known_from seen.root seen.told depth (suc level) (index / 2) in
    let deep : height slots - suc level ≡ depth = omega (arith, levels) in
    let here : known seen.root seen.told (height slots) p ≡ above =
    ap (λ (n : ℕ). known_from seen.root seen.told n (suc level) (index / 2)) deep in
    ap (λ (x : Option (Option Span)). known_below index x (usable seen slots p))
    (usable_from seen slots depth (suc level) (index / 2) (omega (arith, levels)))
    ∙ ap (λ (x : Option (Option Span)). known_below index above (usable_by x (seen.told p))) here
    ∙ usable_below index above (seen.told p)

-- the same is known of each key
pub usable_known : (seen : Seen) (slots : ℕ) (k : Key)
    → known seen.root (usable seen slots) (height slots) k ≡ known seen.root seen.told (height slots) k
unfolding known_from
usable_known seen slots k = elim (cases_lt k.level (height slots)) [
  | inl low ↦ usable_from seen slots (height slots - k.level) k.level k.index (omega (arith, low))
  | inr high ↦
      (let none : height slots - k.level ≡ 0 = omega (arith, high) in
      ap (λ (n : ℕ). known_from seen.root (usable seen slots) n k.level k.index) none
      ∙ sym (ap (λ (n : ℕ). known_from seen.root seen.told n k.level k.index) none))
]

from_parts : (c d : Coef) (q : Option (Option Span × Option Span)) → option_map (λ halves. d) q ≡ Some c → Some d ≡ Some c
from_parts c d None bad = let e : ◌≡◌ {A = Option Coef} None (Some c) = bad in cc
from_parts c d (Some halves) good = good

-- the usable coefficient is the one that is told
pub usable_told : (above : Option (Option Span)) (told : Option Coef) (c : Coef) → usable_by above told ≡ Some c → told ≡ Some c
usable_told None told c is = is
usable_told (Some None) told c is = is
usable_told (Some (Some s)) None c is = is
usable_told (Some (Some s)) (Some d) c is = from_parts c d (parts s d) is

-- one that splits the key's span is usable
pub usable_split : (seen : Seen) (slots : ℕ) (k : Key) (s : Span) (c : Coef) (halves : Option Span × Option Span)
    → known seen.root seen.told (height slots) k ≡ Some (Some s)
    → seen.told k ≡ Some c → parts s c ≡ Some halves → usable seen slots k ≡ Some c
usable_split seen slots k s c halves known_so told splits =
    ap₂ (λ (above : Option (Option Span)) (t : Option Coef). usable_by above t) known_so told
    ∙ ap (λ (q : Option (Option Span × Option Span)). option_map (λ halves. c) q) splits

-- one that is missing or doesn't split it isn't
pub unusable_missing : (above : Option (Option Span)) (told : Option Coef) → told ≡ None → usable_by above told ≡ None
unusable_missing None told missing = missing
unusable_missing (Some None) told missing = missing
unusable_missing (Some (Some s)) told missing = ap (λ (t : Option Coef). usable_by (Some (Some s)) t) missing

pub unusable_misfit : (above : Option (Option Span)) (told : Option Coef) (s : Span) (c : Coef) → above ≡ Some (Some s) → told ≡ Some c
    → parts s c ≡ None
    → usable_by above told ≡ None
unusable_misfit above told s c known_so is splits_not =
    ap₂ (λ (x : Option (Option Span)) (t : Option Coef). usable_by x t) known_so is
    ∙ ap (λ (q : Option (Option Span × Option Span)). option_map (λ halves. c) q) splits_not

-- ---- wanted keys

-- where the same is known of each key, the same keys are wanted
reason_same : (a b : Seen) (axis : Axis) (grid : Grid) (lo hi : ℤ) (c : ℕ) (k : Key) (s : Span)
    → ((w : Key) → known b.root b.told (height axis.slots) w ≡ known a.root a.told (height axis.slots) w)
    → IsCut axis grid c k ⊎ (IsWithin axis grid c k × (IsFlat lo hi grid.h s → ⊥)
    × (IsClearBefore a axis grid c k ⊎ IsClearBehind a axis grid c k))
    → IsCut axis grid c k ⊎ (IsWithin axis grid c k × (IsFlat lo hi grid.h s → ⊥)
    × (IsClearBefore b axis grid c k ⊎ IsClearBehind b axis grid c k))
reason_same a b axis grid lo hi c k s same (inl cut) = inl cut
reason_same a b axis grid lo hi c k s same (inr (within, uneven, inl clear)) = inr (
  within,
  uneven,
  inl (λ i here before. same (slot_key i) ∙ clear i here before),
)
reason_same a b axis grid lo hi c k s same (inr (within, uneven, inr clear)) = inr (
  within,
  uneven,
  inr (λ i here behind. same (slot_key i) ∙ clear i here behind),
)

wanted_same : (a b : Seen) (axis : Axis) (grid : Grid) (lo hi : ℤ) (k : Key)
    → ((w : Key) → known b.root b.told (height axis.slots) w ≡ known a.root a.told (height axis.slots) w)
    → IsWanted a axis grid lo hi k → IsWanted b axis grid lo hi k
wanted_same a b axis grid lo hi k same w = record {
  node = w.node;
  span = w.span;
  known_so = same k ∙ w.known_so;
  column = w.column;
  shown = w.shown;
  reason = reason_same a b axis grid lo hi w.column k w.span same w.reason;
}

pub usable_wanted : (seen : Seen) (axis : Axis) (grid : Grid) (lo hi : ℤ) (k : Key)
    → IsWanted (usable_seen seen axis.slots) axis grid lo hi k → IsWanted seen axis grid lo hi k
usable_wanted seen axis grid lo hi k w = wanted_same (usable_seen seen axis.slots) seen axis grid lo hi k
    (λ v. sym (usable_known seen axis.slots v)) w

pub wanted_usable : (seen : Seen) (axis : Axis) (grid : Grid) (lo hi : ℤ) (k : Key) → IsWanted seen axis grid lo hi k
    → IsWanted (usable_seen seen axis.slots) axis grid lo hi k
wanted_usable seen axis grid lo hi k w = wanted_same seen (usable_seen seen axis.slots) axis grid lo hi k
    (λ v. usable_known seen axis.slots v) w

-- a list of the wanted keys with their usable coefficients is one with those told
pub usable_list : (seen : Seen) (axis : Axis) (grid : Grid) (lo hi : ℤ) (es : List (Key × Coef))
    → IsListOf (IsWanted (usable_seen seen axis.slots) axis grid lo hi) (usable seen axis.slots) es
    → IsListOf (IsWanted seen axis grid lo hi) seen.told es
usable_list seen axis grid lo hi es list = record {
  order = list.order;
  each = All-weaker (λ e. IsWanted (usable_seen seen axis.slots) axis grid lo hi e.0) (λ e. IsWanted seen axis grid lo hi e.0)
      (λ e w. usable_wanted seen axis grid lo hi e.0 w) es list.each;
  all = λ k w. list.all k (wanted_usable seen axis grid lo hi k w);
  coefs = All-weaker (λ e. usable seen axis.slots e.0 ≡ Some e.1) (λ e. seen.told e.0 ≡ Some e.1)
      (λ e is. usable_told (known seen.root seen.told (height axis.slots) e.0) (seen.told e.0) e.1 is) es list.coefs;
}
