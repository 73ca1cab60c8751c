-- The commands that serve lines end as their own clauses say.
use Rattle.std.proofs.Common.{◌≡◌, ℕ, ◌<◌, ◌≤◌, zero, suc, List, Option, Some, None, IfSome, refl, sym, arith}
use Rattle.std.specs.Prelude.{Contains}
use Rattle.block_disk.specs.View.{View}
use Rattle.disk_store.specs.Held.{HoldsBook}
use Rattle.disk_store.proofs.Opened.{is_large}
use Rattle.series_book.specs.declared.one_series.Series.{Series}
use Rattle.gate_pages.specs.Journal.{page_count}
use Rattle.program_words.specs.declared.words.Command.TheVariants.{Run, Serve}
use Rattle.chart_program.specs.Served.{Says, Faults, Spelled, AreTexts}
use Rattle.store_commands.specs.Away.{IsTurnedAway}
use Rattle.chart_program.specs.CommandStatuses.{codes_of, IsBarred}
use Rattle.chart_program.specs.Ended.{EndsBy}
use Rattle.chart_program.specs.Ran.{CommandEnds, AreLines, of_done}
use Rattle.chart_program.proofs.CommandCodes.{never, of_lines, lines_codes}

pub both_told : (o b : Option (List ℕ)) (P : List ℕ → Type 0) (Q : Type 0) → IfSome o P → Q
    → IfSome o (λ input. IfSome b (λ bytes. P input × Q))
both_told None b P Q first second = tt
both_told (Some input) None P Q first second = tt
both_told (Some input) (Some bytes) P Q first second = (first, second)

pub all_told : (o b : Option (List ℕ)) (P : Type 0) → P → IfSome o (λ input. IfSome b (λ bytes. P))
all_told None b P holds = tt
all_told (Some input) None P holds = tt
all_told (Some input) (Some bytes) P holds = holds

-- a disk that holds a book isn't too small
pub small_never : (old : View) (total : ℕ) (book : List Series) → HoldsBook (page_count old.size) total book old → old.size ≤ 127 → ⊥
small_never old total book holds small = omega (arith, small, is_large old.size total old.image book (holds.images old.image holds.honest))

-- with a good input it is done, a stream fails, or there is no memory
lines_completed : (IsText : Says) (CanShow : Type 0) (old new : View) (input : List ℕ) (left' before now : Option (List ℕ))
    (faults : Faults) (code place : ℕ) → AreLines old new input
    → EndsBy IsText CanShow old new (Some input) left' before now faults code place → Contains of_lines code → Contains of_done code
lines_completed IsText CanShow old new input left' before now faults code place r e (zero, inside, is) = (0, omega arith, is)
lines_completed IsText CanShow old new input left' before now faults code place r e (suc zero, inside, is) = (1, omega arith, is)
lines_completed IsText CanShow old new input left' before now faults code place r e (suc (suc zero), inside, is) = (2, omega arith, is)
lines_completed IsText CanShow old new input left' before now faults code place r e (suc (suc (suc zero)), inside, is) = (
  3,
  omega arith,
  is,
)
lines_completed IsText CanShow old new input left' before now faults code place r e (
  suc (suc (suc (suc zero))),
  inside,
  is,
) = absurd (r.whole (e.fault (sym is)))
lines_completed IsText CanShow old new input left' before now faults code place r e (
  suc (suc (suc (suc (suc zero)))),
  inside,
  is,
) = absurd (e.undamaged (sym is) r.total r.book r.holds)
lines_completed IsText CanShow old new input left' before now faults code place r e (
  suc (suc (suc (suc (suc (suc zero))))),
  inside,
  is,
) = absurd (omega (arith, r.short, (e.much (sym is)).1))
lines_completed IsText CanShow old new input left' before now faults code place r e (
  suc (suc (suc (suc (suc (suc (suc zero)))))),
  inside,
  is,
) = absurd ((e.missing (sym is)).1.0 r.total r.book r.holds)
lines_completed IsText CanShow old new input left' before now faults code place r e (
  suc (suc (suc (suc (suc (suc (suc (suc zero))))))),
  inside,
  is,
) = absurd ((e.misfit (sym is)).1.0 r.total r.book r.holds)
lines_completed IsText CanShow old new input left' before now faults code place r e (
  suc (suc (suc (suc (suc (suc (suc (suc (suc zero)))))))),
  inside,
  is,
) = absurd (small_never old r.total r.book r.holds (omega (arith, (e.small (sym is)).1)))
lines_completed IsText CanShow old new input left' before now faults code place r e
    (suc (suc (suc (suc (suc (suc (suc (suc (suc (suc zero))))))))), inside, is) = absurd (e.opened (sym is))
lines_completed IsText CanShow old new input left' before now faults code place r e
    (suc (suc (suc (suc (suc (suc (suc (suc (suc (suc (suc k)))))))))), inside, is) = absurd (omega (arith, inside))

lines_complete : (IsText : Says) (CanShow : Type 0) (old new : View) (left left' before now : Option (List ℕ)) (faults : Faults)
    (code place : ℕ) → EndsBy IsText CanShow old new left left' before now faults code place
    → IfSome left (λ input. AreLines old new input → Contains of_done code)
lines_complete IsText CanShow old new None left' before now faults code place e = tt
lines_complete IsText CanShow old new (Some input) left' before now faults code place e = λ good.
    lines_completed IsText CanShow old new input left' before now faults code place good e e.codes

pub run_ends : (old new : View) (left left' before now : Option (List ℕ)) (faults : Faults) (code place : ℕ)
    → EndsBy AreTexts (Unit {0}) old new left left' before now faults code place → Contains (codes_of Run) code
    → (old.size < 128 → IsTurnedAway left left' before now code)
    → (code ≡ 7 → IsBarred (page_count old.size) new left left' before now place)
    → CommandEnds Run old new left left' before now faults code place
run_ends old new left left' before now faults code place e own away bars = record {
  codes = lines_codes code e.codes;
  own = own;
  away = λ over. away;
  untaken = λ none. absurd none;
  bars = bars;
  reads = tt;
  reads_lines = e.reads;
  syncs = e.syncs;
  unsent = λ is. absurd (never of_lines code 14 e.codes refl is);
  read = e.read;
  stopped = e.stopped;
  send = e.send;
  bad = λ is. absurd (never of_lines code 8 e.codes refl is);
  much = e.much;
  missing = λ is. (e.missing is).1;
  misfit = λ is. (e.misfit is).1;
  unopened = λ is. absurd (e.opened is);
  memory = e.memory;
  within = e.within;
  fault = e.fault;
  faulted = e.faulted;
  damaged = e.damaged;
  undamaged = e.undamaged;
  small = e.small;
  there = λ is. absurd (never of_lines code 13 e.codes refl is);
  refused = λ is. absurd (never of_lines code 14 e.codes refl is);
  unnamed = tt;
  unknown = λ is. absurd (never of_lines code 17 e.codes refl is);
  refused_line = λ is. absurd (never of_lines code 16 e.codes refl is);
  zero_place = e.zero_place;
  done = e.done;
  part = e.part;
  nothing = λ some unsent quiet. absurd (quiet tt);
  pictures = λ is command. cc;
  holds = e.holds;
  crash = e.crash;
  disk = e.goes_on;
  honest = e.honest;
  made = λ is. tt;
  complete = lines_complete AreTexts (Unit {0}) old new left left' before now faults code place e;
  drawn = λ command. cc;
  ready = λ command. cc;
}

pub serve_ends : (old new : View) (left left' before now : Option (List ℕ)) (faults : Faults) (code place : ℕ)
    → EndsBy Spelled ⊥ old new left left' before now faults code place → Contains (codes_of Serve) code
    → (old.size < 128 → IsTurnedAway left left' before now code)
    → (code ≡ 7 → IsBarred (page_count old.size) new left left' before now place)
    → CommandEnds Serve old new left left' before now faults code place
serve_ends old new left left' before now faults code place e own away bars = record {
  codes = lines_codes code e.codes;
  own = own;
  away = λ over. away;
  untaken = λ none. absurd none;
  bars = bars;
  reads = tt;
  reads_lines = e.reads;
  syncs = e.syncs;
  unsent = λ is. absurd (never of_lines code 14 e.codes refl is);
  read = e.read;
  stopped = e.stopped;
  send = e.send;
  bad = λ is. absurd (never of_lines code 8 e.codes refl is);
  much = e.much;
  missing = λ is. absurd (e.missing is).0;
  misfit = λ is. absurd (e.misfit is).0;
  unopened = λ is. absurd (e.opened is);
  memory = e.memory;
  within = e.within;
  fault = e.fault;
  faulted = e.faulted;
  damaged = e.damaged;
  undamaged = e.undamaged;
  small = e.small;
  there = λ is. absurd (never of_lines code 13 e.codes refl is);
  refused = λ is. absurd (never of_lines code 14 e.codes refl is);
  unnamed = tt;
  unknown = λ is. absurd (never of_lines code 17 e.codes refl is);
  refused_line = λ is. absurd (never of_lines code 16 e.codes refl is);
  zero_place = e.zero_place;
  done = e.done;
  part = e.part;
  nothing = λ some unsent quiet. absurd (quiet tt);
  pictures = λ is command. cc;
  holds = e.holds;
  crash = e.crash;
  disk = e.goes_on;
  honest = e.honest;
  made = λ is. tt;
  complete = lines_complete Spelled ⊥ old new left left' before now faults code place e;
  drawn = λ command. cc;
  ready = λ command. cc;
}
