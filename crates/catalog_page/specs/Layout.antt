-- The rules of a catalog page and of the fields of a record, in the order in which they are named.
use Rattle.std.specs.Prelude.{ℕ, ◌≡◌, ◌+◌, ◌<◌, ◌≤◌, ◌≤ℤ◌, ◌^◌, pos, IsTrue, List, slice_index}
use Rattle.whole_number.specs.Range.{IsValue}
use Rattle.whole_number.specs.SlotTimes.{EndsInTime}
use Rattle.block_disk.specs.Blocks.{block_size}
use Rattle.om3_coeff.specs.Keys.{page_levels}
use Rattle.series_book.specs.Names.{is_name}
use Rattle.series_book.specs.declared.limits.TheConstants.{MOST_SLOTS}
use Rattle.catalog_page.specs.Fields.{record_bytes, used_at, length_at, scale_at, name_at, step_at, start_at, slots_at, root_at, min_at}
use Rattle.catalog_page.specs.Fields.{max_at, levels_at}
use Rattle.catalog_page.specs.Entries.{IsRoot}
use Rattle.catalog_page.specs.declared.errors.BadField.{BadField}
use Rattle.catalog_page.specs.declared.errors.BadField.TheVariants.{Used, Length, Scale, Name, Step, Start, Slots, Root, Min, Max, Levels}
use Rattle.catalog_page.specs.declared.errors.BadField.TheVariants.{Spare}
use Rattle.catalog_page.specs.declared.errors.BadCatalog.{BadCatalog}
use Rattle.catalog_page.specs.declared.errors.BadCatalog.TheVariants.{Kind, Reserved, Record, Unused}

-- the bytes from an offset on and below another are 0
abbrev pub IsClear : List ℕ → ℕ → ℕ → Type 0
IsClear bytes from to = (k : ℕ) → from ≤ k → k < to → slice_index bytes k ≡ 0

-- The rules of a record of a series.

abbrev pub IsUsed : List ℕ → Type 0
IsUsed bytes = used_at bytes ≡ 1

abbrev pub IsLength : List ℕ → Type 0
IsLength bytes = (1 ≤ length_at bytes) × (length_at bytes ≤ 31)

abbrev pub IsScale : List ℕ → Type 0
IsScale bytes = scale_at bytes ≤ 9

-- the bytes of a name, and zeros behind them
pub record IsName (bytes : List ℕ) : Type 0 where
  pub named : IsTrue (is_name (name_at bytes))
  pub padded : IsClear bytes (4 + length_at bytes) 35

abbrev pub IsStep : List ℕ → Type 0
IsStep bytes = (1 ≤ step_at bytes) × (step_at bytes ≤ 2 ^ 31)

abbrev pub IsStart : List ℕ → Type 0
IsStart bytes = IsValue (start_at bytes)

-- no more than a series may have, and the last one stands at a time
pub record IsSlots (bytes : List ℕ) : Type 0 where
  pub few : slots_at bytes ≤ MOST_SLOTS
  pub last : EndsInTime (start_at bytes) (step_at bytes) (slots_at bytes)

abbrev pub HasRoot : ℕ → List ℕ → Type 0
HasRoot fresh bytes = IsRoot fresh (root_at bytes) (slots_at bytes)

abbrev pub IsMin : List ℕ → Type 0
IsMin bytes = IsValue (min_at bytes) × (root_at bytes ≡ 0 → min_at bytes ≡ pos 0)

abbrev pub IsMax : List ℕ → Type 0
IsMax bytes = IsValue (max_at bytes) × (min_at bytes ≤ℤ max_at bytes) × (root_at bytes ≡ 0 → max_at bytes ≡ pos 0)

-- the page levels are those of the slots
abbrev pub IsLevels : List ℕ → Type 0
IsLevels bytes = levels_at bytes ≡ page_levels (slots_at bytes)

-- the byte in front of the name, and that behind its place
abbrev pub HasGaps : List ℕ → Type 0
HasGaps bytes = (slice_index bytes 3 ≡ 0) × (slice_index bytes 35 ≡ 0)

-- the bytes of no field are 0
abbrev pub IsSpare : List ℕ → Type 0
IsSpare bytes = HasGaps bytes × IsClear bytes 60 64 × IsClear bytes 81 96

-- a record of a series, where the first page that was never used is this one
pub record IsRecord (fresh : ℕ) (bytes : List ℕ) : Type 0 where
  pub used : IsUsed bytes
  pub len : IsLength bytes
  pub scale : IsScale bytes
  pub name : IsName bytes
  pub step : IsStep bytes
  pub start : IsStart bytes
  pub slots : IsSlots bytes
  pub root : HasRoot fresh bytes
  pub min : IsMin bytes
  pub max : IsMax bytes
  pub levels : IsLevels bytes
  pub spare : IsSpare bytes

-- the field breaks its rule, and those before it keep theirs
abbrev pub IsFirstBadField : BadField → ℕ → List ℕ → Type 0
IsFirstBadField Used fresh b = IsUsed b → ⊥
IsFirstBadField Length fresh b = IsUsed b × (IsLength b → ⊥)
IsFirstBadField Scale fresh b = IsUsed b × IsLength b × (IsScale b → ⊥)
IsFirstBadField Name fresh b = IsUsed b × IsLength b × IsScale b × (IsName b → ⊥)
IsFirstBadField Step fresh b = IsUsed b × IsLength b × IsScale b × IsName b × (IsStep b → ⊥)
IsFirstBadField Start fresh b = IsUsed b × IsLength b × IsScale b × IsName b × IsStep b × (IsStart b → ⊥)
IsFirstBadField Slots fresh b = IsUsed b × IsLength b × IsScale b × IsName b × IsStep b × IsStart b × (IsSlots b → ⊥)
IsFirstBadField Root fresh b =
    IsUsed b × IsLength b × IsScale b × IsName b × IsStep b × IsStart b × IsSlots b × (HasRoot fresh b → ⊥)
IsFirstBadField Min fresh b =
    IsUsed b × IsLength b × IsScale b × IsName b × IsStep b × IsStart b × IsSlots b × HasRoot fresh b × (IsMin b → ⊥)
IsFirstBadField Max fresh b =
    IsUsed b × IsLength b × IsScale b × IsName b × IsStep b × IsStart b × IsSlots b × HasRoot fresh b × IsMin b × (IsMax b → ⊥)
IsFirstBadField Levels fresh b =
    IsUsed b × IsLength b × IsScale b × IsName b × IsStep b × IsStart b × IsSlots b × HasRoot fresh b × IsMin b × IsMax b × (IsLevels b → ⊥)
IsFirstBadField Spare fresh b =
    IsUsed b × IsLength b × IsScale b × IsName b × IsStep b × IsStart b × IsSlots b × HasRoot fresh b × IsMin b × IsMax b × IsLevels b
    × (IsSpare b → ⊥)

-- The rules of a page with so many series.

abbrev pub IsKind : List ℕ → Type 0
IsKind page = slice_index page 0 ≡ 4

-- the bytes of no record are 0
abbrev pub IsReserved : List ℕ → Type 0
IsReserved page = IsClear page 1 8 × IsClear page 3080 block_size

abbrev pub HasRecord : ℕ → List ℕ → ℕ → Type 0
HasRecord fresh page i = IsRecord fresh (record_bytes page i)

-- the record is one of no series: all 0
abbrev pub IsUnused : List ℕ → ℕ → Type 0
IsUnused page i = IsClear (record_bytes page i) 0 96

-- The records of the first `count` series are in use, and the others up to 31 aren't.
pub record KeepsLayout (count fresh : ℕ) (page : List ℕ) : Type 0 where
  pub kind : IsKind page
  pub reserved : IsReserved page
  pub used : (i : ℕ) → i < count → HasRecord fresh page i
  pub unused : (i : ℕ) → count ≤ i → i < 32 → IsUnused page i

-- the first record of a series of which a field breaks its rule, and its first field that does
pub record IsFirstBadRecord (number : ℕ) (field : BadField) (count fresh : ℕ) (page : List ℕ) : Type 0 where
  pub within : number < count
  pub before : (i : ℕ) → i < number → HasRecord fresh page i
  pub bad : IsFirstBadField field fresh (record_bytes page number)

-- the first record behind those of the series that isn't all 0
pub record IsFirstUsed (number count : ℕ) (page : List ℕ) : Type 0 where
  pub behind : count ≤ number
  pub within : number < 32
  pub before : (i : ℕ) → count ≤ i → i < number → IsUnused page i
  pub bad : IsUnused page number → ⊥

-- this breaks its rule, and what comes before it keeps its own
abbrev pub IsFirstBad : BadCatalog → ℕ → ℕ → List ℕ → Type 0
IsFirstBad Kind count fresh page = IsKind page → ⊥
IsFirstBad Reserved count fresh page = IsKind page × (IsReserved page → ⊥)
IsFirstBad (Record number field) count fresh page = IsKind page × IsReserved page × IsFirstBadRecord number field count fresh page
IsFirstBad (Unused number) count fresh page =
    IsKind page × IsReserved page × ((i : ℕ) → i < count → HasRecord fresh page i) × IsFirstUsed number count page
