-- What takes leave of a load, and what calls move.
use Rattle.std.proofs.Common.{◌≡◌, ◌∙◌, ℕ, ◌≤◌, List, None, inl, inr, sym, subst, arith}
use Rattle.std.proofs.lemmas.Bool.{cases_lt}
use Rattle.block_disk.specs.Counts.{HasRisen}
use Rattle.block_disk.specs.View.{Image, View, DiskKept, Now, Only, Passes, sent_now}
use Rattle.chart_world.specs.FaultLaws.{disk_stays, takes_stay}
use Rattle.chart_world.specs.Faults.{CountsFault}
use Rattle.line_runs.specs.Given.{Given}
use Rattle.stored_book.specs.Standing.{StandsForBook}
use Rattle.series_load.specs.Costs.{Costs, Spent}
use Rattle.series_load.specs.Ends.{IsLoadCause}
use Rattle.series_load.specs.Loading.{Booked, Held, Lasts, Loading, LoadingDoes, NoneSent, RestsSo, Scanned, StandsFor, StandsSo}
use Rattle.run_ends.specs.declared.ending.End.{End}
use Rattle.run_ends.specs.declared.ending.End.TheVariants.{ReadFault, DiskFault, DamagedPage}
use Rattle.series_load.specs.declared.loader.Loader.{Loader}

-- quiet calls
pub none_sent : (since count : ℕ) (old new : View) (images : Image → Type 0) → Passes old new images (λ n. n ≡ sent_now old)
    → NoneSent since count old → NoneSent since count new
none_sent since count old new images time quiet = record {
  later = omega (arith, quiet.later, time.later);
  here = λ at low high. elim (cases_lt old.clock at) [
    | inl late ↦ time.sent_here at late high ∙ quiet.here old.clock quiet.later (omega arith)
    | inr early ↦ time.sent_past at early ∙ quiet.here at low early
  ];
}

-- a take costs no set
costs_kept : (sets : ℕ) (before : Spent) (old new : View) → DiskKept old new → Costs sets before old → Costs sets before new
costs_kept sets before old new kept costs = record {
  reads = omega (arith, kept.reads, costs.reads);
  syncs = omega (arith, kept.syncs, costs.syncs);
  writes = omega (arith, kept.writes, costs.writes);
}

held_taken : (told told' : Type 0) (old new : View) (loader : Loader) (held : Held) → (told → told') → DiskKept old new
    → Passes old new (Now old) (λ n. n ≡ sent_now old) → StandsSo told old loader held → StandsSo told' new loader held
held_taken told told' old new loader held more kept time s =
    let P : Image → Type 0 = λ i. StandsForBook i held.total held.book in
    record {
      is_told = more s.is_told;
      stands = subst P (sym kept.image) s.stands;
      keeps = s.keeps;
      quiet = none_sent held.since held.count old new (Now old) time s.quiet;
      costs = costs_kept held.asked held.before old new kept s.costs;
      seen_is = s.seen_is;
    }

pub stands_taken : (told told' : Type 0) (old new : View) (loader : Loader) (loading : Loading) → (told → told') → DiskKept old new
    → Passes old new (Now old) (λ n. n ≡ sent_now old) → StandsFor told old loader loading → StandsFor told' new loader loading
stands_taken told told' old new loader (Booked held) more kept time s = held_taken told told' old new loader held more kept time s
stands_taken told told' old new loader (Scanned scan) more kept time is = is

held_rests : (held : Held) (at : View) → Only at.image (Now at) → StandsForBook at.image held.total held.book → (image : Image)
    → Now at image → StandsForBook image held.total held.book
held_rests held at only stands image left =
    let P : Image → Type 0 = λ i. StandsForBook i held.total held.book in
    subst P (sym (only image left)) stands

pub now_rests : (told : Type 0) (at : View) (loader : Loader) (loading : Loading) → Only at.image (Now at)
    → StandsFor told at loader loading → (image : Image) → Now at image → RestsSo loading image
now_rests told at loader (Booked held) only s image left = held_rests held at only s.stands image left
now_rests told at loader (Scanned scan) only is image left = tt

-- it stays known what a load holds
pub lasts_on : (loading : Loading) (it : Given) (text : List ℕ) (behind : Loading) → LoadingDoes loading it text behind → Lasts loading
    → Lasts behind
lasts_on (Booked held) it text (Booked next) did lasts = tt
lasts_on (Booked held) it text (Scanned scan) did lasts = absurd did
lasts_on (Scanned scan) it text behind did lasts = absurd lasts

pub fewer : (points first later : ℕ) → first ≤ later → points ≤ first → points ≤ later
fewer points first later less few = omega (arith, less, few)

risen_more : (old mid new : ℕ) → mid ≡ old → HasRisen mid new → HasRisen old new
risen_more old mid new same (inl risen) = inl (omega (arith, same, risen))
risen_more old mid new same (inr last) = inr (omega (arith, same, last.0), last.1 ∙ same)

-- why a later call ended is why all ended, where no fault was counted before
pub cause_later : (told : Type 0) (total total' : ℕ) (old mid new : View) (reads reads' reads'' : ℕ)
    → old.beside.read_faults ≡ reads → mid.beside.read_faults ≡ reads' → CountsFault None old mid → total' ≡ total → (end : End)
    → IsLoadCause end told total' mid new reads' reads'' → IsLoadCause end told total old new reads reads''
cause_later told total total' old mid new reads reads' reads'' was are quiet same ReadFault is =
    risen_more reads reads' reads'' (sym are ∙ takes_stay old mid quiet ∙ was) is
cause_later told total total' old mid new reads reads' reads'' was are quiet same DiskFault is =
    risen_more old.faults mid.faults new.faults (disk_stays old mid quiet) is
cause_later told total total' old mid new reads reads' reads'' was are quiet same (DamagedPage page) is =
    (omega (arith, is.0, same), is.1)
cause_later told total total' old mid new reads reads' reads'' was are quiet same end is = is
