-- How many blocks a serving command reads, and how often it syncs.
use Rattle.std.proofs.Common.{◌≡◌, ℕ, ◌+◌, ◌-◌, ◌^◌, ◌<◌, List, [], length, Option, Some, None, IfSome, refl, sym, subst, inl, arith}
use Rattle.std.specs.Prelude.{⊤}
use Rattle.std.specs.List.{filter}
use Rattle.block_disk.specs.View.{View, Honest, Beside}
use Rattle.chart_world.specs.Fronts.{says}
use Rattle.chart_world.specs.LineLaws.{lines_none, told_so}
use Rattle.chart_service.specs.ReadingBlocks.{ReadsInTurn, ReadsLines}
use Rattle.chart_service.specs.State.{State}
use Rattle.chart_service.specs.Stepping.{state_of}
use Rattle.chart_service.specs.Syncing.{SyncsLines, edits_of}
use Rattle.disk_store.proofs.Opened.{syncs_few}
use Rattle.disk_store.specs.Openings.{Opens}
use Rattle.gate_pages.specs.Journal.{page_count, pages_of}
use Rattle.series_book.specs.declared.one_series.Series.{Series}
use Rattle.stored_book.specs.Standing.{StandsForBook}
use Rattle.store_commands.proofs.Held.{RestsNew, held, stands_held}
use Rattle.store_commands.specs.Books.{begun}
use Rattle.zoom_session.specs.declared.session.Session.{Session}
use Rattle.chart_program.specs.Served.{ReadsFrom, ReadsServing, SyncsFrom, SyncsServing}

-- of a command of which nothing is said
pub told_any : (o : Option (List ℕ)) → IfSome o (λ input. ⊤)
told_any None = tt
told_any (Some input) = tt

-- no lines read nothing, and sync nothing
none_read : (input : List ℕ) (state : State) (count : ℕ) → ReadsLines input state count count
none_read input state count =
    let T : List (Option (List ℕ)) → Type 0 = λ l. ReadsInTurn state (filter says l) [] state count count in
    record {
      front = [];
      rest = input;
      begins = record { split = refl; whole = inl (inl refl) };
      frames = [];
      between = state;
      count = count;
      answered = subst T (sym lines_none) (refl, refl);
      last = inl refl;
    }

none_synced : (input : List ℕ) (total : ℕ) (book : List Series) (pieces count : ℕ) → SyncsLines input total book pieces count count
none_synced input total book pieces count =
    let C : List (Option (List ℕ)) → Type 0 = λ l. length l ≡ 0 + length (edits_of l) in
    record {
      front = [];
      rest = input;
      begins = record { split = refl; whole = inl (inl refl) };
      others = 0;
      counted = subst C (sym lines_none) refl;
      few = omega arith;
    }

pub reads_none : (left : Option (List ℕ)) (count : ℕ) (at : View) → IfSome left (λ input. ReadsFrom count at at input at.reads)
reads_none None count at = tt
reads_none (Some input) count at = λ total book holds. none_read input (begun total book) at.reads

pub syncs_none : (left : Option (List ℕ)) (count : ℕ) (at : View) → IfSome left (λ input. SyncsFrom count at at input at.syncs)
syncs_none None count at = tt
syncs_none (Some input) count at = λ total book holds small. none_synced input total book (at.beside.pieces - at.beside.pieces) at.syncs

-- lines are served over a store that is opened first
pub reads_opened : (left : Option (List ℕ)) (old mid new : View) → Opens (page_count old.size) old mid
    → IfSome left (λ input. ReadsFrom (page_count old.size) mid new input mid.reads) → IfSome left (λ input. ReadsServing old new input)
reads_opened left old mid new opens =
    told_so (λ input. ReadsFrom (page_count old.size) mid new input mid.reads) (λ input. ReadsServing old new input) left
    (λ input reads. (mid.reads, opens.reads.high, λ total book holds. reads total book (held old mid opens total book holds)))

pub syncs_opened : (left : Option (List ℕ)) (old mid new : View) → Opens (page_count old.size) old mid
    → IfSome left (λ input. SyncsFrom (page_count old.size) mid new input mid.syncs) → IfSome left (λ input. SyncsServing old new input)
syncs_opened left old mid new opens =
    told_so (λ input. SyncsFrom (page_count old.size) mid new input mid.syncs) (λ input. SyncsServing old new input) left
    (λ input syncs. (
      mid.syncs,
      syncs_few (page_count old.size) old mid opens.few,
      λ total book holds small.
          let P : Beside → Type 0 = λ b. SyncsLines input total book (new.beside.pieces - b.pieces) mid.syncs new.syncs in
          subst P opens.beside_is (syncs total book (held old mid opens total book holds) small),
    ))

-- none was opened
pub reads_unopened : (left : Option (List ℕ)) (old new : View) → Opens (page_count old.size) old new
    → IfSome left (λ input. ReadsServing old new input)
reads_unopened None old new opens = tt
reads_unopened (Some input) old new opens = (new.reads, opens.reads.high, λ total book holds. none_read input (begun total book) new.reads)

pub syncs_unopened : (left : Option (List ℕ)) (old new : View) → Opens (page_count old.size) old new
    → IfSome left (λ input. SyncsServing old new input)
syncs_unopened None old new opens = tt
syncs_unopened (Some input) old new opens = (
  new.syncs,
  syncs_few (page_count old.size) old new opens.few,
  λ total book holds small. none_synced input total book (new.beside.pieces - old.beside.pieces) new.syncs,
)

-- by a service with no session open, over the pages of a disk
pub reads_served : (left : Option (List ℕ)) (count : ℕ) (old new : View) (own : List Session) → RestsNew count old → own ≡ []
    → ((total : ℕ) (book : List Series) → Honest old → StandsForBook (pages_of count old.image) total book
    → IfSome left (λ input. ReadsLines input (state_of book total own) old.reads new.reads))
    → IfSome left (λ input. ReadsFrom count old new input old.reads)
reads_served None count old new own rests alone reads = tt
reads_served (Some input) count old new own rests alone reads = λ total book holds.
    let S : List Session → Type 0 = λ s. ReadsLines input (state_of book total s) old.reads new.reads in
    subst S alone (reads total book holds.honest (stands_held count total book old rests holds))

pub syncs_served : (left : Option (List ℕ)) (count : ℕ) (old new : View) (before now : ℕ) → RestsNew count old → old.beside.pieces ≡ before
    → new.beside.pieces ≡ now → ((total : ℕ) (book : List Series) → Honest old → StandsForBook (pages_of count old.image) total book
    → IfSome left (λ input. now < 2 ^ 64 - 1 → SyncsLines input total book (now - before) old.syncs new.syncs))
    → IfSome left (λ input. SyncsFrom count old new input old.syncs)
syncs_served None count old new before now rests was is syncs = tt
syncs_served (Some input) count old new before now rests was is syncs = λ total book holds small.
    let B : ℕ → Type 0 = λ n. SyncsLines input total book (new.beside.pieces - n) old.syncs new.syncs in
    let N : ℕ → Type 0 = λ n. SyncsLines input total book (n - before) old.syncs new.syncs in
    subst B (sym was) (subst N (sym is) (syncs total book holds.honest (stands_held count total book old rests holds)
    (omega (arith, small, is))))
