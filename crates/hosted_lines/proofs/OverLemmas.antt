-- What was done from a book on was done by books.
use Rattle.std.proofs.Common.{◌≡◌, ℕ, List, [], ◌∷◌, Option, Result, Ok, Err, refl, subst, inl, inr}
use Rattle.std.specs.Prelude.{OnOk, IfErr}
use Rattle.block_disk.specs.Streams.{sent_after}
use Rattle.block_disk.specs.View.{Image, View}
use Rattle.chart_world.specs.declared.line_answer.LineFault.TheVariants as fault
use Rattle.line_runs.specs.Carried.{Carries, Done}
use Rattle.line_runs.specs.Given.{Given}
use Rattle.line_runs.specs.Moments.{Since}
use Rattle.line_runs.specs.Runs.{AreTakenWithin, AreUpTo, IsAheadWithin, Runs, StopsSoWithin}
use Rattle.line_runs.specs.declared.lines_stop.LinesStop.{LinesStop}
use Rattle.line_runs.specs.declared.lines_stop.LinesStop.TheVariants as stop
use Rattle.run_ends.specs.declared.ending.End.{End}
use Rattle.series_book.specs.declared.edits.Edit.{Edit}
use Rattle.hosted_lines.specs.Doing.{Held}
use Rattle.hosted_lines.specs.Standing.{Any, DoesFrom, LeavesFrom, Over, RestsFrom, Stand, Stands, StopsFrom}
use Rattle.hosted_lines.specs.Working.{Does, Hosted, IsHosted, Leaves, Rests, Stops}

record OverBooks (old : Hosted) (given : List Given) (text : List ℕ) (stand : Stand) : Type 0 where
  pub new : Hosted
  pub is : stand ≡ Over new
  pub carries : Carries Does old given text new

over_books : (given : List Given) (old : Hosted) (text : List ℕ) (stand : Stand) → Carries DoesFrom (Over old) given text stand
    → OverBooks old given text stand
over_books [] old text stand all = record { new = old; is = all.1; carries = (all.0, refl) }
over_books (it ∷ later) old text stand all =
    by all.between all.does (λ mid same. over_books later mid all.more stand (let C : Stand
    → Type 0 = λ b. Carries DoesFrom b later all.more stand in subst C same all.others)) refl
  where
    by : (between : Stand) → DoesFrom (Over old) it all.first between
        → ((mid : Hosted) → all.between ≡ Over mid → OverBooks mid later all.more stand) → all.between ≡ between
        → OverBooks old (it ∷ later) text stand
    by (Any named) does others same = absurd does
    by (Over mid) does others same =
        let rest = others mid same in
        record {
          new = rest.new;
          is = rest.is;
          carries = record { first = all.first; between = mid; does = does; more = all.more; others = rest.carries; texts = all.texts };
        }

module _ (old : Hosted) where
  done_books : (done : Done DoesFrom (Over old)) → OverBooks old done.given done.text done.behind
  done_books done = over_books done.given old done.text done.behind done.carries

  module _ (edits : List Edit) (told : Type 0) (view : View) (held : Held) (now : Option (List ℕ)) where
    abbrev IsNow : Stand → Type 0
    IsNow stand = Stands stand edits told view held now

    abbrev AreNow : Hosted → Type 0
    AreNow hosted = IsHosted hosted edits told view held now

    over_runs : (AreSo : List ℕ → List Given → Type 0) (input before : Option (List ℕ))
        → Runs DoesFrom (Over old) AreSo IsNow input before now → Runs Does old AreSo AreNow input before now
    over_runs AreSo input before r =
        let books = done_books r.done in
        record {
          done = record { given = r.done.given; text = r.done.text; behind = books.new; carries = books.carries };
          are = r.are;
          stands = subst IsNow books.is r.stands;
          sent = r.sent;
        }

    module _ (limit : ℕ) (input left before : Option (List ℕ)) (pieces pieces' : ℕ) where
      abbrev Stopping : Stand → Given → End → Option (List ℕ) → Type 0
      Stopping stand it end earlier = StopsFrom stand it told view.size view.image earlier now view.reads view.syncs end

      abbrev Stopped : Hosted → Given → End → Option (List ℕ) → Type 0
      Stopped hosted it end earlier = Stops hosted it view.image now view.reads view.syncs end

      over_stop : (why : LinesStop End) → StopsSoWithin limit DoesFrom Stopping IsNow (Over old) input left before now pieces pieces' why
          → StopsSoWithin limit Does Stopped AreNow old input left before now pieces pieces' why
      over_stop (stop.Fault fault.ReadFault) r = over_runs (AreTakenWithin limit pieces pieces' left) input before r
      over_stop (stop.Fault fault.InputTooLong) r = over_runs (AreUpTo limit pieces pieces') input before r
      over_stop (stop.Work end) r =
          let books = done_books r.done in
          let W : Stand → Type 0 = λ s. Stopping s r.next end (sent_after r.done.text before) in
          record {
            done = record { given = r.done.given; text = r.done.text; behind = books.new; carries = books.carries };
            next = r.next;
            are = r.are;
            few = r.few;
            why = subst W books.is r.why;
          }

      pub over_stops : {T : Type 0} (answer : Result T (LinesStop End))
          → IfErr answer (StopsSoWithin limit DoesFrom Stopping IsNow (Over old) input left before now pieces pieces')
          → IfErr answer (StopsSoWithin limit Does Stopped AreNow old input left before now pieces pieces')
      over_stops {T} (Ok v) stops = tt
      over_stops {T} (Err why) stops = over_stop why stops

    pub over_done : {T E : Type 0} (answer : Result T E) (AreSo : List ℕ → List Given → Type 0) (input before : Option (List ℕ))
        → OnOk answer (Runs DoesFrom (Over old) AreSo IsNow input before now)
        → OnOk answer (Runs Does old AreSo AreNow input before now)
    over_done {T} {E} (Ok v) AreSo input before r = over_runs AreSo input before r
    over_done {T} {E} (Err e) AreSo input before r = tt

  -- ---- moments

  module _ (limit : ℕ) (input before : Option (List ℕ)) (from : ℕ) where
    over_ahead : (image : Image) (count : ℕ) → IsAheadWithin limit DoesFrom RestsFrom LeavesFrom (Over old) input before from image count
        → IsAheadWithin limit Does Rests Leaves old input before from image count
    over_ahead image count a =
        let books = done_books a.done in
        let R : Stand → Type 0 = λ s. RestsFrom s image in
        record {
          done = record { given = a.done.given; text = a.done.text; behind = books.new; carries = books.carries };
          is = elim a.is [
            | inl between ↦ inl (record { are = between.are; rests_so = subst R books.is between.rests_so; sent_is = between.sent_is })
            | inr amid ↦ inr (let L : Stand → Type 0 = λ s. LeavesFrom s amid.next amid.begun image count in
                record {
                  next = amid.next;
                  are = amid.are;
                  begun = amid.begun;
                  begun_is = amid.begun_is;
                  leaves_so = subst L books.is amid.leaves_so;
                })
          ];
        }

    pub over_lasts : (first last : View) → Since first last (IsAheadWithin limit DoesFrom RestsFrom LeavesFrom (Over old) input before from)
        → Since first last (IsAheadWithin limit Does Rests Leaves old input before from)
    over_lasts first last since =
        record {
          goes = since.goes;
          here = λ time image low high left. over_ahead image (last.sent_by time)
              (since.here time image low high left);
        }
