-- A disk that held a book holds one again.
use Rattle.std.specs.Prelude.{pos}
use Rattle.std.specs.Str.{bytes_eq}
use Rattle.std.proofs.Common.{◌≡◌, ◌≢◌, ℕ, List, [], Option, None, Some, IfSome, Result, Err, refl, subst, sym, slice_get, get_or}
use Rattle.std.proofs.lemmas.Option.{slice_get-get_or}
use Rattle.std.proofs.lemmas.List.Quantifiers.{position-Some}
use Rattle.block_disk.specs.View.{Image, View, Now, DiskKept, Passes}
use Rattle.gate_pages.specs.Journal.{page_count}
use Rattle.series_book.specs.declared.one_series.Series.{Series}
use Rattle.series_book.specs.Edits.{id_of}
use Rattle.disk_store.specs.Held.{HoldsBook}
use Rattle.disk_store.specs.Openings.{Opens}
use Rattle.stored_book.proofs.CurrentLemmas.{recovers_new}
use Rattle.stored_book.specs.Standing.{StandsForBook}
use Rattle.chart_service.specs.State.{State}
use Rattle.series_load.specs.Sets.{IsAfterSome}
use Rattle.run_ends.specs.declared.ending.End.{End}
use Rattle.run_ends.specs.declared.ending.End.TheVariants as ends
use Rattle.chart_world.specs.LineLaws.{told_so}
use Rattle.store_commands.specs.Books.{FromBook, HoldsAgain, HoldsPages, OfBook}
use Rattle.store_commands.specs.Storing.{Stores}
use Rattle.store_commands.specs.Traffic.{Traffic}
use Rattle.store_commands.proofs.Held.{held, holds_sent}

pub again_opened : (old mid : View) → Opens (page_count old.size) old mid → HoldsAgain (page_count old.size) old mid
again_opened old mid opens = λ total book holds. (book, held old mid opens total book holds)

pub again_sent : (count : ℕ) (old mid new : View) (sent : ℕ → Type 0) → DiskKept mid new → Passes mid new (Now mid) sent
    → HoldsAgain count old mid → HoldsAgain count old new
again_sent count old mid new sent kept time again = λ total book holds.
    let there = again total book holds in
    (there.0, holds_sent count total there.0 mid new sent kept time there.1)

pub again_from : (count : ℕ) (old new : View) (Done : State → State → Type 0) → FromBook count old new Done → HoldsAgain count old new
again_from count old new Done from = λ total book holds.
    let there = from total book holds in
    (there.0.book, there.2)

-- ---- a load

abbrev unnamed : Series
unnamed = record { name = []; start = pos 0; step = 1; scale = 0; slots = [] }

-- the id of a name is that of a series
pub series_there : (book : List Series) (name : List ℕ) (id : ℕ) → id_of name book ≡ Some id
    → (series : Series) × (slice_get book id ≡ Some series)
unfolding id_of
series_there book name id is =
    let within = (position-Some (λ (series : Series). bytes_eq series.name name) book id unnamed is).0 in
    (get_or book id unnamed, slice_get-get_or book id unnamed within)

-- after the sets of some first runs
after_held : (count total : ℕ) (name : List ℕ) (book : List Series) (series : Series) (left : Option (List ℕ)) (new : View)
    → HoldsPages count total (IsAfterSome total name book series left) new → (next : List Series) × HoldsBook count total next new
after_held count total name book series left new p =
    let S : Image → Type 0 = λ pages. StandsForBook pages total p.on.so.after.new in (
      p.on.so.after.new,
      record {
        honest = p.honest;
        images = λ image is. let there = p.images image is in
            recovers_new count image total p.on.so.after.new there.0 p.on.within (subst S (sym there.1) p.on.so.after.stands);
      },
    )

pub again_loaded : (name : List ℕ) (count : ℕ) (old new : View) (t : Traffic) (answer : Result ℕ End) → answer ≢ Err ends.DiskFault
    → Stores name count old new t answer → HoldsAgain count old new
again_loaded name count old new t answer other s = λ total book holds.
    (elim (id_of name book) as (λ o. id_of name book ≡ o → (next : List Series) × HoldsBook count total next new) [
      | None ↦ λ none. (book, ((s.untouched (s.unnamed total book holds none)).0 total book holds).0)
      | Some id ↦ λ is.
          let there = series_there book name id is in
          after_held count total name book there.0 t.left new
          (s.some other total book holds there.0 (record { id = id; id_is = is; there = there.1 }))
    ]) refl

-- where a part of an input was done
pub again_told : (count : ℕ) (old new : View) (left : Option (List ℕ)) (S : ℕ → List Series → List ℕ → Type 0)
    → ((total : ℕ) (book : List Series) (input : List ℕ) → S total book input → (next : List Series) × HoldsBook count total next new)
    → IfSome left (λ input. OfBook count old (λ total book. S total book input))
    → IfSome left (λ input. HoldsAgain count old new)
again_told count old new left S next is =
    told_so (λ input. OfBook count old (λ total book. S total book input)) (λ input. HoldsAgain count old new) left
    (λ input all total book holds. next total book input (all total book holds)) is
