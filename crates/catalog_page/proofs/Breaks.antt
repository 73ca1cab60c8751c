-- What is named as bad breaks the layout.
use Rattle.std.proofs.Common.{ℕ, List}
use Rattle.catalog_page.specs.Fields.{record_bytes}
use Rattle.catalog_page.specs.declared.errors.BadField.{BadField}
use Rattle.catalog_page.specs.declared.errors.BadField.TheVariants.{Used, Length, Scale, Name, Step, Start, Slots, Root, Min, Max, Levels}
use Rattle.catalog_page.specs.declared.errors.BadField.TheVariants.{Spare}
use Rattle.catalog_page.specs.declared.errors.BadCatalog.{BadCatalog}
use Rattle.catalog_page.specs.declared.errors.BadCatalog.TheVariants.{Kind, Reserved, Record, Unused}
use Rattle.catalog_page.specs.Layout.{IsRecord, IsFirstBadField, KeepsLayout, IsFirstBad}

field_breaks : (field : BadField) (fresh : ℕ) (b : List ℕ) → IsFirstBadField field fresh b → IsRecord fresh b → ⊥
field_breaks Used fresh b bad rules = bad rules.used
field_breaks Length fresh b bad rules = bad.1 rules.len
field_breaks Scale fresh b bad rules = bad.2 rules.scale
field_breaks Name fresh b bad rules = bad.3 rules.name
field_breaks Step fresh b bad rules = bad.4 rules.step
field_breaks Start fresh b bad rules = bad.5 rules.start
field_breaks Slots fresh b bad rules = bad.6 rules.slots
field_breaks Root fresh b bad rules = bad.7 rules.root
field_breaks Min fresh b bad rules = bad.8 rules.min
field_breaks Max fresh b bad rules = bad.9 rules.max
field_breaks Levels fresh b bad rules = bad.10 rules.levels
field_breaks Spare fresh b bad rules = bad.11 rules.spare

pub bad_breaks : (page : List ℕ) (count fresh : ℕ) (bad : BadCatalog) → IsFirstBad bad count fresh page → KeepsLayout count fresh page → ⊥
bad_breaks page count fresh Kind bad keeps = bad keeps.kind
bad_breaks page count fresh Reserved bad keeps = bad.1 keeps.reserved
bad_breaks page count fresh (Record number field) bad keeps =
    field_breaks field fresh (record_bytes page number) bad.2.bad (keeps.used number bad.2.within)
bad_breaks page count fresh (Unused number) bad keeps = bad.3.bad (keeps.unused number bad.3.behind bad.3.within)
