-- A copy of a series holds the same.
use Rattle.std.proofs.Common.{◌≡◌, ℕ, ◌<◌, ◌^◌, zero, suc, length, List, [], ◌∷◌, Option, None, Some, IfSome, sym, subst}
use Rattle.std.specs.Prelude.{All, slice_get}
use Rattle.std.proofs.lemmas.List.Elements.{All-head, All-tail}
use Rattle.block_disk.specs.Streams.{sent_after}
use Rattle.block_disk.specs.View.{Image, View}
use Rattle.gate_pages.specs.Journal.{page_count, pages_of}
use Rattle.series_book.specs.Books.{IsSeries}
use Rattle.series_book.specs.declared.one_series.Series.{Series}
use Rattle.series_export.specs.Exports.{export_text}
use Rattle.series_export.specs.RoundTrips.{IsBegunAs, HoldsSame, StandsForSame}
use Rattle.series_export.specs.Room.{HasRoomFor, GoesThrough}
use Rattle.series_export.specs.declared.window.Window.{Window}
use Rattle.series_load.specs.Ends.{IsLoaded}
use Rattle.series_load.specs.Sets.{IsNamed}
use Rattle.stored_book.proofs.CurrentLemmas.{recovers_new}
use Rattle.stored_book.specs.Standing.{StandsForBook}
use Rattle.disk_store.specs.Held.{HoldsBook}
use Rattle.store_commands.specs.Books.{HoldsPages}
use Rattle.store_commands.specs.Copied.{IsCopied, HoldsRoomFor, EndsFitting, FitsInto}
use Rattle.store_commands.specs.Exported.{ExportsAll}
use Rattle.store_commands.specs.Loaded.{IsLoadEnd, LoadEnds, LoadsAll, LoadsToBad, RefusesRun}
use Rattle.store_commands.specs.Traffic.{Traffic}
use Rattle.run_ends.specs.declared.ending.End.{End}
use Rattle.run_ends.specs.declared.ending.End.TheVariants.{Done, NoMemory, ReadFault, SendFault, DiskFault, DamagedBlock, DamagedPage}
use Rattle.run_ends.specs.declared.ending.End.TheVariants.{BadInput, InputTooLong, TooSmall, UnknownSeries, Refused}
use Rattle.store_commands.proofs.LoadEnds.{small_never}

pages_so : (count total : ℕ) (P Q : Image → Type 0) (disk : View) → ((image : Image) → P image → Q image) → HoldsPages count total P disk
    → HoldsPages count total Q disk
pages_so count total P Q disk more holds = record {
  honest = holds.honest;
  on = record { readable = holds.on.readable; within = holds.on.within; so = more _ holds.on.so };
  images = holds.images;
}

-- what is so of each element is so of one
at : {X : Type 0} (P : X → Type 0) (xs : List X) (i : ℕ) (x : X) → All P xs → slice_get xs i ≡ Some x → P x
at P [] i x all is = cc
at P (y ∷ ys) zero x all is =
    let same : y ≡ x = cc in
    subst P same (All-head P y ys all)
at P (y ∷ ys) (suc i) x all is = at P ys i x (All-tail P y ys all) is

same_bytes : (bytes text : List ℕ) → Some bytes ≡ sent_after text (Some []) → bytes ≡ text
same_bytes bytes text is = cc

pub copied : ((total : ℕ) (name : List ℕ) (book : List Series) (series begun : Series) (count : ℕ) (image : Image) → IsSeries series
    → IsBegunAs series begun → IsNamed book name begun → IsLoaded total name book begun (export_text series None) count image
    → StandsForSame total name series image)
    → (name copy : List ℕ) (source_count count : ℕ) (source old new : View) (bytes : List ℕ) (before now : Option (List ℕ))
    → ExportsAll name None source_count source (Some []) (Some bytes) → LoadsAll copy count old new bytes before now
    → IsCopied name copy source_count count source old new
copied law name copy source_count count source old new bytes before now exported loads = λ total book holds series named total' book' held
    begun named' alike.
    let same : bytes ≡ export_text series None = same_bytes bytes (export_text series None) (exported total book holds series named) in
    let done = loads total' book' held begun named' in
    let fits : IsSeries series = at IsSeries book named.id series
    (holds.images source.image holds.honest).stands.store.is_book.all_in_range named.there in
    let P : Image → Type 0 = IsLoaded total' copy book' begun bytes done.0 in
    let Q : Image → Type 0 = StandsForSame total' copy series in
    pages_so count total' P Q new (λ image loaded.
    let L : List ℕ → Type 0 = λ l. IsLoaded total' copy book' begun l done.0 image in
    law total' copy book' series begun done.0 image fits alike named' (subst L same loaded)) done.1

pub exported_same : ((series after : Series) (window : Option Window) → HoldsSame series after
    → export_text after window ≡ export_text series window)
    → (copy : List ℕ) (count total : ℕ) (series : Series) (window : Option Window) (disk : View) (before now : Option (List ℕ))
    → HoldsPages count total (StandsForSame total copy series) disk → ExportsAll copy window count disk before now
    → now ≡ sent_after (export_text series window) before
exported_same law copy count total series window disk before now holds exported =
    let so = holds.on.so in
    let held : HoldsBook count total so.book disk = record {
      honest = holds.honest;
      images = λ image left.
          let is = holds.images image left in
          let P : Image → Type 0 = λ pages. StandsForBook pages total so.book in
          recovers_new count image total so.book is.0 holds.on.within (subst P (sym is.1) so.stands);
    } in
    let T : List ℕ → Type 0 = λ l. now ≡ sent_after l before in
    subst T (law series so.holds.after window so.holds.same) (exported total so.book held so.holds.after so.holds.named)

-- what is so of the bytes that are left to take
given : (left : Option (List ℕ)) (bytes : List ℕ) (P : List ℕ → Type 0) → left ≡ Some bytes → IfSome left P → P bytes
given left bytes P is so = let Q : Option (List ℕ) → Type 0 = λ l. IfSome l P in subst Q is so

module _ (law : (total : ℕ) (name : List ℕ) (book : List Series) (series begun : Series) (count : ℕ) (image : Image) → IsSeries series
    → IsBegunAs series begun → IsNamed book name begun → IsLoaded total name book begun (export_text series None) count image
    → StandsForSame total name series image)
    (through : (total : ℕ) (name : List ℕ) (book : List Series) (series begun : Series) → IsSeries series
    → HasRoomFor total name book series → IsNamed book name begun → GoesThrough total name book begun (export_text series None)) where
  -- how a load ends where there is room
  module _ (copy : List ℕ) (series : Series) (bytes : List ℕ) (old new : View) (t : Traffic) (is : IsSeries series)
      (text : bytes ≡ export_text series None) (told : t.left ≡ Some bytes) (has : HoldsRoomFor copy series old) where
    -- it goes through
    fits : GoesThrough has.total copy has.book has.room.new.begun (export_text series None)
    fits = through has.total copy has.book series has.room.new.begun is has.room has.room.new.named

    -- what is so of the input is so of the text of the export
    of_text : (P : List ℕ → Type 0) → IfSome t.left P → P (export_text series None)
    of_text P so = subst P text (given t.left bytes P told so)

    ends_fitting : (end : End) → IsLoadEnd end copy old new t → EndsFitting copy series bytes old new end
    ends_fitting Done came =
        let loaded = of_text (λ input. LoadsAll copy (page_count old.size) old new input t.sent t.sent_now) came.1 has.total has.book
        has.holds has.room.new.begun has.room.new.named in (
          has.total,
          pages_so (page_count old.size) has.total (IsLoaded has.total copy has.book has.room.new.begun (export_text series None) loaded.0)
              (StandsForSame has.total copy series) new
              (λ image so. law has.total copy has.book series has.room.new.begun loaded.0 image is has.room.new.alike has.room.new.named so)
              loaded.1,
        )
    ends_fitting NoMemory came = tt
    ends_fitting ReadFault came = tt
    ends_fitting SendFault came = tt
    ends_fitting DiskFault came = tt
    ends_fitting (DamagedBlock block) came = absurd (came.0.1 has.total has.book has.holds)
    ends_fitting (DamagedPage page) came = absurd (came.1 has.total has.book has.holds)
    ends_fitting (BadInput place) came =
        let bad = of_text (λ input. LoadsToBad copy (page_count old.size) old new input place) came.0 has.total has.book has.holds
        has.room.new.begun has.room.new.named in
        absurd (fits.good place (pages_of (page_count old.size) new.image) bad.on.so)
    ends_fitting InputTooLong came = given t.left bytes (λ input. 2 ^ 32 < length input) told came.0
    ends_fitting (TooSmall blocks) came = absurd (small_never old has.total has.book has.holds came.0.1)
    ends_fitting UnknownSeries came = absurd (came.0 has.total has.book has.holds has.room.new.begun has.room.new.named)
    ends_fitting (Refused place number) came =
        let refused = of_text (λ input. RefusesRun copy (page_count old.size) old new input place number) came.0 has.total has.book
        has.holds has.room.new.begun has.room.new.named in
        absurd (fits.accepted place refused.refusal (pages_of (page_count old.size) new.image) refused.so.on.so)
    ends_fitting end came = absurd came.0

  pub fits_into : (name copy : List ℕ) (source_count : ℕ) (source old new : View) (bytes : List ℕ) (t : Traffic) (end : End)
      → ExportsAll name None source_count source (Some []) (Some bytes) → t.left ≡ Some bytes → LoadEnds copy old new t end
      → FitsInto name copy source_count source old new bytes end
  fits_into name copy source_count source old new bytes t end exported told ends = λ total book holds series named has.
      let same : bytes ≡ export_text series None = same_bytes bytes (export_text series None) (exported total book holds series named) in
      let is : IsSeries series = at IsSeries book named.id series
      (holds.images source.image holds.honest).stands.store.is_book.all_in_range named.there in
      ends_fitting copy series bytes old new t is same told has end ends.is
