-- What a scan takes of a range, by its span.
use Rattle.std.specs.Prelude.{ℕ, ℤ, ◌≡◌, ◌<◌, ◌≤◌, ◌≤ℤ◌, max, min, Bool, true, false, List, Option, ⊤}
use Rattle.chart_grid.specs.Projection.{column}
use Rattle.chart_grid.specs.Slots.{slot_time}
use Rattle.om3_coeff.specs.declared.key.Key.{Key}
use Rattle.om3_coeff.specs.declared.span.Span.{Span}
use Rattle.om3_coeff.specs.Keys.{first_slot, end_slot}
use Rattle.value_filter.specs.declared.steps.Step.{Step}
use Rattle.value_filter.specs.declared.box_answers.BoxAnswer.{BoxAnswer}
use Rattle.value_filter.specs.declared.box_answers.BoxAnswer.TheVariants.{All, Nothing as NoPoint, Mixed}
use Rattle.query_rewriter.specs.Kept.{passes}
use Rattle.filter_scan.specs.declared.scans.Scan.{Scan}
use Rattle.filter_scan.specs.declared.shares.Share.{Share}
use Rattle.filter_scan.specs.declared.shares.Share.TheVariants.{Nothing, Everything, Part}
use Rattle.filter_scan.specs.Taken.{Takes}

-- at each of these slots the filter's truth at each value of the span is this
pub record AllPass (s : Scan) (f : Option (List Step)) (a b : ℕ) (span : Span) (truth : Bool) : Type 0 where
  pub each : (i : ℕ) (v : ℤ) → a ≤ i → i < b → span.min ≤ℤ v → v ≤ℤ span.max
      → passes f (record { time = slot_time s.axis i; value = v }) ≡ truth

-- what an answer on slots and a span says
abbrev pub IsAnswerOn : Scan → Option (List Step) → ℕ × ℕ → Span → BoxAnswer → Type 0
IsAnswerOn s f slots span All = AllPass s f slots.0 slots.1 span true
IsAnswerOn s f slots span NoPoint = AllPass s f slots.0 slots.1 span false
IsAnswerOn s f slots span Mixed = ⊤

-- the slots of the key's range are slots of the scan, of column c, and more than a few
pub record IsInside (s : Scan) (k : Key) (c : ℕ) : Type 0 where
  pub level : 3 ≤ k.level
  pub from : s.from ≤ first_slot k
  pub to : end_slot k ≤ s.end
  pub place : (i : ℕ) → first_slot k ≤ i → i < end_slot k → column s.grid (slot_time s.axis i) ≡ c
  pub drawn : c < s.grid.w

-- what a share says of the slots of a key's range
abbrev pub IsWhole : Scan → Key → Share → Type 0
IsWhole s k Nothing = ⊥
IsWhole s k (Everything c) = IsInside s k c
IsWhole s k Part = ⊤

-- the scan takes no value of the span, at any slot of the key's range
pub record TakesNone (s : Scan) (f : Option (List Step)) (k : Key) (span : Span) : Type 0 where
  pub none : (c i : ℕ) (v : ℤ) → first_slot k ≤ i → i < end_slot k → span.min ≤ℤ v → v ≤ℤ span.max → Takes s f c i v → ⊥

-- it takes all of them, for column c
pub record TakesAll (s : Scan) (f : Option (List Step)) (k : Key) (span : Span) (c : ℕ) : Type 0 where
  pub inside : IsInside s k c
  pub each : (i : ℕ) (v : ℤ) → first_slot k ≤ i → i < end_slot k → span.min ≤ℤ v → v ≤ℤ span.max → Takes s f c i v

-- a slot of the scan is in the key's range
pub record Meets (s : Scan) (k : Key) : Type 0 where
  pub some : max s.from (first_slot k) < min s.end (end_slot k)

-- what a share says of a key's range
abbrev pub IsShare : Scan → Option (List Step) → Key → Span → Share → Type 0
IsShare s f k span Nothing = TakesNone s f k span
IsShare s f k span (Everything c) = TakesAll s f k span c
IsShare s f k span Part = Meets s k
