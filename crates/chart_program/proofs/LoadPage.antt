-- The command `load` did as its page says.
use Rattle.std.proofs.Common.{◌≡◌, ℕ, List, Option, Some, None, IfSome, subst, refl, arith}
use Rattle.block_disk.specs.View.{View}
use Rattle.run_ends.specs.Statuses.{status_of}
use Rattle.run_ends.specs.declared.ending.End.{End}
use Rattle.run_ends.specs.declared.ending.End.TheVariants.{Done, NoMemory, ReadFault, SendFault, DiskFault, DamagedBlock, DamagedPage}
use Rattle.run_ends.specs.declared.ending.End.TheVariants.{BadInput, InputTooLong, TooSmall, UnknownSeries, Refused}
use Rattle.gate_pages.specs.Journal.{page_count}
use Rattle.store_commands.specs.Away.{TurnsAway}
use Rattle.store_commands.specs.Loaded.{IsLoadEnd, LoadEnds, LoadsToBad, LoadsWithin, RefusesRun}
use Rattle.store_commands.specs.Traffic.{Traffic}
use Rattle.chart_program.specs.Course.{Course, IsDoneOrCut}
use Rattle.chart_program.specs.Load.{AreReadings, LoadDoes, OfLoad}
use Rattle.chart_program.proofs.CommandsEnd.{both_told}
use Rattle.chart_program.proofs.StorePages.{unopened_good}

-- what is so of the input, where it is told
of_input : (left : Option (List ℕ)) (input : List ℕ) (P : List ℕ → Type 0) → left ≡ Some input → IfSome left P → P input
of_input left input P is so = let Q : Option (List ℕ) → Type 0 = λ l. IfSome l P in subst Q is so

module _ (name : List ℕ) (old new : View) (t : Traffic) where
  abbrev at : Course
  at = record { old = old; new = new; left = t.left; left_now = t.left_now; sent = t.sent; sent_now = t.sent_now }

  load_does : (end : End) → IsLoadEnd end name old new t → LoadDoes name at end
  load_does Done is = is
  load_does NoMemory is = is
  load_does ReadFault is = (is.1, is.2)
  load_does SendFault is = is.1
  load_does DiskFault is = is.1
  load_does (DamagedBlock block) is = (record { at_first = is.0.0; took_nothing = is.1; sent_nothing = is.2 }, is.0.1)
  load_does (DamagedPage page) is = is
  load_does (BadInput offset) is = is
  load_does InputTooLong is = is
  load_does (TooSmall blocks) is = is.0
  load_does UnknownSeries is = (is.0, record { holds = is.1; crash = is.2 }, is.3, is.4)
  load_does (Refused offset number) is = is
  load_does end is = absurd is.0

  -- with good input it is done, a stream fails, or there is no memory
  load_good : (input : List ℕ) → t.left ≡ Some input → AreReadings name old new input → (end : End) → IsLoadEnd end name old new t
      → IsDoneOrCut end
  load_good input told r Done is = tt
  load_good input told r NoMemory is = tt
  load_good input told r ReadFault is = tt
  load_good input told r SendFault is = tt
  load_good input told r DiskFault is = absurd (r.whole is.0)
  load_good input told r (DamagedPage page) is = absurd (is.1 r.total r.book r.holds)
  load_good input told r (BadInput offset) is =
      let bad = of_input t.left input (λ bytes. LoadsToBad name (page_count old.size) old new bytes offset) told is.0 r.total r.book r.holds
      r.series r.named in
      absurd (r.none_bad offset _ bad.on.so)
  load_good input told r InputTooLong is =
      let much = of_input t.left input (λ bytes. LoadsWithin name (page_count old.size) old new bytes) told is.1 r.total r.book r.holds
      r.series r.named in
      absurd (omega (arith, r.short, much.on.so.past))
  load_good input told r UnknownSeries is = absurd (is.0 r.total r.book r.holds r.series r.named)
  load_good input told r (Refused offset number) is =
      let refused = of_input t.left input (λ bytes. RefusesRun name (page_count old.size) old new bytes offset number) told is.0 r.total
      r.book r.holds r.series r.named in
      absurd (r.none_refused offset refused.refusal _ refused.so.on.so)
  load_good input told r end is = unopened_good old new
      (record { total = r.total; book = r.book; holds = r.holds; whole = r.whole }) end is.0

  good_of : (left : Option (List ℕ)) → t.left ≡ left → (end : End) → IsLoadEnd end name old new t
      → IfSome left (λ input. AreReadings name old new input → IsDoneOrCut end)
  good_of None told end is = tt
  good_of (Some input) told end is = λ r. load_good input told r end is

  pub of_load : (end : End) → LoadEnds name old new t end → TurnsAway old t (status_of end) → OfLoad name at end
  of_load end e away = record {
    does = load_does end e.is;
    store = record { goes_on = e.goes_on; away = away };
    unnamed = e.unnamed;
    lacks = e.lacks;
    crash = both_told t.left t.sent _ _ e.crash e.kept;
    costs = e.costs;
    line = e.line;
    read = e.read;
    good = good_of t.left refl end e.is;
  }
