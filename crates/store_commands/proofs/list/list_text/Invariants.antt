use Rattle.std.specs.Prelude.{◌≡◌, flat_map, map, take}
use Rattle.series_catalog.specs.Catalogs.{entry_of}
use Rattle.series_store.specs.Shown as shown
use Rattle.store_commands.specs.Listed.{entry_line, list_text}
use Rattle.store_commands.proofs.list.list_text.Given as goal

abbrev pub invariant-loop-id : goal.invariant-loop-id
invariant-loop-id g l = record {
  books : shown.ForSoundBook l.store (λ total book. l.text.items ≡ list_text (take l.id book));
  records : l.text.items ≡ flat_map entry_line (take l.id (map entry_of (shown.catalog l.store)));
}
