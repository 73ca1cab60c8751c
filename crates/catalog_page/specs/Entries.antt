-- What a record says of its series.
use Rattle.std.specs.Prelude.{ℕ, ℤ, ◌≡◌, ◌≢◌, ◌≤◌, ◌<◌, ◌^◌, ◌==◌, ◌↔◌, if◌then◌else◌, IsTrue, List, Option, None, Some, pos}
use Rattle.whole_number.specs.Range.{IsValue}
use Rattle.whole_number.specs.SlotTimes.{EndsInTime}
use Rattle.om3_coeff.specs.declared.span.Span.{Span}
use Rattle.om3_coeff.specs.Spans.{IsProperIfAny}
use Rattle.series_book.specs.Names.{is_name}
use Rattle.series_book.specs.declared.limits.TheConstants.{MOST_SLOTS}
use Rattle.catalog_page.specs.declared.series_record.Record.{Record}
use Rattle.catalog_page.specs.Fields.{record_bytes, name_at, scale_at, step_at, start_at, slots_at, root_at, min_at, max_at}

-- The span is that of the stored values; there is none where no page is the root.
pub record Entry : Type 0 where
  pub name : List ℕ
  pub scale : ℕ
  pub step : ℕ
  pub start : ℤ
  pub slots : ℕ
  pub root : ℕ
  pub span : Option Span

abbrev pub span_in : List ℕ → Option Span
span_in bytes = if root_at bytes == 0 then None else Some (record { min = min_at bytes; max = max_at bytes })

-- what 96 bytes say
unfoldable pub entry_in : List ℕ → Entry
entry_in bytes = record {
  name = name_at bytes;
  scale = scale_at bytes;
  step = step_at bytes;
  start = start_at bytes;
  slots = slots_at bytes;
  root = root_at bytes;
  span = span_in bytes;
}

-- what record i of a page says
abbrev pub entry_at : List ℕ → ℕ → Entry
entry_at page i = entry_in (record_bytes page i)

-- what a `Record` says
abbrev pub entry_of : Record → Entry
entry_of r = record {
  name = r.name.now;
  scale = r.scale;
  step = r.step;
  start = r.start;
  slots = r.slots;
  root = r.root;
  span = r.span;
}

-- the ends of a span, 0 where there is none
abbrev pub least_of : Option Span → ℤ
least_of None = pos 0
least_of (Some span) = span.min

abbrev pub greatest_of : Option Span → ℤ
greatest_of None = pos 0
greatest_of (Some span) = span.max

-- a root is a page that was given out, and there is none without a slot
pub record IsRoot (fresh root slots : ℕ) : Type 0 where
  pub low : root ≢ 0 → 17 ≤ root
  pub high : root ≢ 0 → root < fresh
  pub none : slots ≡ 0 → root ≡ 0

-- what is said is in range, where the first page that was never used is this one
pub record IsEntry (fresh : ℕ) (e : Entry) : Type 0 where
  pub named : IsTrue (is_name e.name)
  pub scale : e.scale ≤ 9
  pub step_low : 1 ≤ e.step
  pub step_high : e.step ≤ 2 ^ 31
  pub start : IsValue e.start
  pub slots : e.slots ≤ MOST_SLOTS
  pub last : EndsInTime e.start e.step e.slots
  pub root : IsRoot fresh e.root e.slots
  pub rooted : (e.span ≡ None) ↔ (e.root ≡ 0)
  pub span : IsProperIfAny e.span
