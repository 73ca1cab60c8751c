-- A run of lines of which it is known what the load holds, in the words of what it holds.
use Rattle.std.proofs.Common.{◌≡◌, ℕ, List, [], ◌∷◌, Option, refl, subst, inl, inr}
use Rattle.block_disk.specs.Streams.{sent_after}
use Rattle.block_disk.specs.View.{Image, View}
use Rattle.chart_world.specs.declared.line_answer.LineFault.TheVariants as fault
use Rattle.line_runs.specs.Carried.{Carries, Done}
use Rattle.line_runs.specs.Given.{Given}
use Rattle.line_runs.specs.Moments.{Since}
use Rattle.line_runs.specs.Runs as runs
use Rattle.line_runs.specs.declared.lines_stop.LinesStop.{LinesStop}
use Rattle.line_runs.specs.declared.lines_stop.LinesStop.TheVariants as stop
use Rattle.run_ends.specs.declared.ending.End.{End}
use Rattle.stored_book.specs.Standing.{StandsForBook}
use Rattle.series_load.specs.Loading.{Booked, Held, IsBooked, LoadDoes, LoadLeaves, LoadStops, Loading, LoadingDoes, LoadingLeaves}
use Rattle.series_load.specs.Loading.{LoadingStops, RestsSo, Scanned, StandsFor, StandsSo}
use Rattle.series_load.specs.declared.loader.Loader.{Loader}

booked_of : (P : Held → Type 0) (loading : Loading) → IsBooked P loading → (held : Held) × (loading ≡ Booked held) × P held
booked_of P (Booked held) is = (held, refl, is)
booked_of P (Scanned scan) is = absurd is

pub carries_booked : (given : List Given) (held : Held) (text : List ℕ) (behind : Loading)
    → Carries LoadingDoes (Booked held) given text behind
    → (last : Held) × (behind ≡ Booked last) × Carries LoadDoes held given text last
carries_booked [] held text behind all = (held, all.1, (all.0, refl))
carries_booked (it ∷ later) held text behind all =
    let one = booked_of (λ next. LoadDoes held it all.first next) all.between all.does in
    let P : Loading → Type 0 = λ l. Carries LoadingDoes l later all.more behind in
    let rest = carries_booked later one.0 all.more behind (subst P one.1 all.others) in (
      rest.0,
      rest.1,
      record { first = all.first; between = one.0; does = one.2; more = all.more; others = rest.2; texts = all.texts },
    )

module _ (start : Held) where
  abbrev last_of : (done : Done LoadingDoes (Booked start))
      → (last : Held) × (done.behind ≡ Booked last) × Carries LoadDoes start done.given done.text last
  last_of done = carries_booked done.given start done.text done.behind done.carries

  abbrev pub done_booked : Done LoadingDoes (Booked start) → Done LoadDoes start
  done_booked done = record { given = done.given; text = done.text; behind = (last_of done).0; carries = (last_of done).2 }

  pub runs_booked : (AreSo : List ℕ → List Given → Type 0) (IsNow : Loading → Type 0) (input before now : Option (List ℕ))
      → runs.Runs LoadingDoes (Booked start) AreSo IsNow input before now
      → runs.Runs LoadDoes start AreSo (λ held. IsNow (Booked held)) input before now
  runs_booked AreSo IsNow input before now all = record {
    done = done_booked all.done;
    are = all.are;
    stands = subst IsNow (last_of all.done).1 all.stands;
    sent = all.sent;
  }

  module _ (told : Type 0) (loader : Loader) (view : View) where
    abbrev Stops : Loading → Given → End → Option (List ℕ) → Type 0
    Stops loading it end was = LoadingStops loading it view end

    abbrev pub HeldStops : Held → Given → End → Option (List ℕ) → Type 0
    HeldStops held it end was = LoadStops held it view end

    pub stops_booked : (o left before now : Option (List ℕ)) (pieces pieces' : ℕ) (why : LinesStop End)
        → runs.StopsSo LoadingDoes Stops (StandsFor told view loader) (Booked start) o left before now pieces pieces' why
        → runs.StopsSo LoadDoes HeldStops (StandsSo told view loader) start o left before now pieces pieces' why
    stops_booked o left before now pieces pieces' (stop.Fault fault.ReadFault) is =
        runs_booked (runs.AreTaken pieces pieces' left) (StandsFor told view loader) o before now is
    stops_booked o left before now pieces pieces' (stop.Fault fault.InputTooLong) is =
        runs_booked (runs.AreWithin pieces pieces') (StandsFor told view loader) o before now is
    stops_booked o left before now pieces pieces' (stop.Work end) is =
        let S : Loading → Type 0 = λ l. Stops l is.next end (sent_after is.done.text before) in
        record { done = done_booked is.done; next = is.next; are = is.are; few = is.few; why = subst S (last_of is.done).1 is.why }

  ahead_booked : (o before : Option (List ℕ)) (from : ℕ) (image : Image) (sent : ℕ)
      → runs.IsAhead LoadingDoes RestsSo LoadingLeaves (Booked start) o before from image sent
      → runs.IsAhead LoadDoes (λ held i. StandsForBook i held.total held.book) LoadLeaves start o before from image sent
  ahead_booked o before from image sent all = record {
    done = done_booked all.done;
    is = elim all.is [
      | inl rests ↦
          let R : Loading → Type 0 = λ l. RestsSo l image in
          inl (record { are = rests.are; rests_so = subst R (last_of all.done).1 rests.rests_so; sent_is = rests.sent_is })
      | inr amid ↦
          let L : Loading → Type 0 = λ l. LoadingLeaves l amid.next amid.begun image sent in
          inr (record {
            next = amid.next;
            are = amid.are;
            begun = amid.begun;
            begun_is = amid.begun_is;
            leaves_so = subst L (last_of all.done).1 amid.leaves_so;
          })
    ];
  }

  pub since_booked : (o before : Option (List ℕ)) (from : ℕ) (old new : View)
      → Since old new (runs.IsAhead LoadingDoes RestsSo LoadingLeaves (Booked start) o before from)
      → Since old new (runs.IsAhead LoadDoes (λ held i. StandsForBook i held.total held.book) LoadLeaves start o before from)
  since_booked o before from old new all = record {
    goes = all.goes;
    here = λ time image low high left. ahead_booked o before from image (new.sent_by time) (all.here time image low high left);
  }
