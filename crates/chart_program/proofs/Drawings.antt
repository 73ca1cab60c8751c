-- What a plot and a drawing did, by what they answer.
use Rattle.std.proofs.Common.{◌≡◌, ◌≢◌, ◌^◌, inl, inr, ℕ, List, [], ◌∷◌, Option, None, Some, Result, Ok, Err, IfSome, IfErr, OnOk, refl}
use Rattle.std.proofs.Common.{arith}
use Rattle.std.specs.Prelude.{Contains}
use Rattle.block_disk.specs.Counts.{HasRisen}
use Rattle.block_disk.specs.View.{View}
use Rattle.gate_pages.specs.GateLaws.{kept_told}
use Rattle.draw_command.specs.Alone.{StaysAlone}
use Rattle.chart_world.specs.LineLaws.{told_so}
use Rattle.om3_coeff.specs.declared.key.Key.{Key}
use Rattle.chart_frames.specs.Frames.{key_number}
use Rattle.program_words.specs.declared.words.Command.TheVariants.{Plot, Draw, Cover}
use Rattle.draw_command.specs.declared.draw_end.DrawEnd.{DrawEnd}
use Rattle.draw_command.specs.declared.draw_end.DrawEnd.TheVariants as draw_end
use Rattle.draw_command.specs.declared.draw_end.DrawEnd.TheVariants.{NoMemory, ReadFault, InputTooLong, BadFrame, Missing, BadCoefficient}
use Rattle.draw_command.specs.declared.draw_end.DrawEnd.TheVariants.{UnknownSession}
use Rattle.run_ends.specs.Statuses.{code_of, place_of}
use Rattle.store_commands.specs.Traffic.{WasRead}
use Rattle.chart_program.specs.declared.input.InputEnd.TheVariants as input
use Rattle.chart_program.specs.declared.plot.PlotEnd.{PlotEnd}
use Rattle.chart_program.specs.declared.plot.PlotEnd.TheVariants.{Input, SendFault}
use Rattle.chart_program.specs.Slots.{FirstBad, HasTooMany, IsTooLong, most_slots}
use Rattle.chart_program.specs.Plotted.{SendsPlot, EndsPlot, plotting_end}
use Rattle.draw_command.specs.Draws.{DrawsAll, DrawsWithin, StopsAtFrame, EndsDraw}
use Rattle.chart_program.specs.CommandStatuses.{codes_of, drawing_end}
use Rattle.chart_program.specs.Served.{Faults}
use Rattle.chart_program.specs.Ran.{CommandEnds, HasTooMuch, IsFrames, IsSlots, of_done}
use Rattle.chart_program.proofs.Codes.{no_bad, no_much, told_all, told_both}
use Rattle.chart_program.proofs.CommandsEnd.{all_told}
use Rattle.chart_program.proofs.Counts.{told_any}
use Rattle.chart_program.proofs.DiskKept.{alone_leaves, alone_holds}
use Rattle.chart_program.proofs.EndsByCode.{Came, by_code}
use Rattle.draw_command.proofs.DrawnFrames.{Stay}
use Rattle.chart_program.proofs.DrawnBook.{Book, Good, replies_drawn, replies_end}
use Rattle.chart_program.proofs.Parsing.{Known, bad_never, much_never, missing_never, misfit_never, unopened_never, good_so}

slots_good : (o : Option (List ℕ)) (P : Type 0) → P → IfSome o (λ input. IsSlots input → P)
slots_good None P is = tt
slots_good (Some input) P is = λ good. is

-- the key that a view lacks has the number that is told
keyed : (left before now : Option (List ℕ)) (every : Option ℕ) (why : Key → DrawEnd) (key : Key)
    → IfSome left (λ input. StopsAtFrame every input before now (why key))
    → IfSome left (λ input. (k : Key) × (key_number key ≡ key_number k) × StopsAtFrame every input before now (why k))
keyed left before now every why key ends =
    told_so (λ input. StopsAtFrame every input before now (why key)) (λ input. (k : Key) × (key_number key ≡ key_number k)
    × StopsAtFrame every input before now (why k)) left (λ input stops. (key, refl, stops)) ends

-- of what was sent, and of the counts of faults
module _ {T : Type 0} (old new : View) (left left' before now : Option (List ℕ)) (faults : Faults) where
  -- ---- a plot

  module _ (w h : ℕ) where
    plot_came : (r : Result T PlotEnd) → OnOk r (IfSome left (λ input. SendsPlot w h input before now)) → OnOk r (WasRead left left')
        → IfErr r (λ end. IfSome left (λ input. EndsPlot w h input left' before now end))
        → IfErr r (λ end. end ≢ SendFault → now ≡ before) → (r ≡ Err (Input input.ReadFault) → HasRisen faults.reads faults.reads_now)
        → (r ≡ Err SendFault → HasRisen faults.sends faults.sends_now)
        → Came (Plot w h) old new left left' before now faults (plotting_end r)
    plot_came (Ok all) done within ends unsent read send = (within, done, tt)
    plot_came (Err SendFault) done within ends unsent read send = (send refl, ends)
    plot_came (Err (Input input.NoMemory)) done within ends unsent read send = told_all left _ (unsent (λ e. cc))
    plot_came (Err (Input input.ReadFault)) done within ends unsent read send = (read refl, ends)
    plot_came (Err (Input input.InputTooLong)) done within ends unsent read send = told_so IsTooLong
        (λ input. HasTooMuch input (2 ^ 32)) left (λ input long. inr (refl, long)) ends
    plot_came (Err (Input (input.BadLine at))) done within ends unsent read send = ends
    plot_came (Err (Input input.TooManySlots)) done within ends unsent read send = told_so HasTooMany
        (λ input. HasTooMuch input most_slots) left (λ input many. inl (refl, many)) ends

    plot_own : (r : Result T PlotEnd) → Contains (codes_of (Plot w h)) (code_of (plotting_end r))
    plot_own (Ok all) = (0, omega arith, refl)
    plot_own (Err SendFault) = (3, omega arith, refl)
    plot_own (Err (Input input.NoMemory)) = (1, omega arith, refl)
    plot_own (Err (Input input.ReadFault)) = (2, omega arith, refl)
    plot_own (Err (Input input.InputTooLong)) = (5, omega arith, refl)
    plot_own (Err (Input (input.BadLine at))) = (4, omega arith, refl)
    plot_own (Err (Input input.TooManySlots)) = (5, omega arith, refl)

    plot_unsent : (r : Result T PlotEnd) → IfErr r (λ end. end ≢ SendFault → now ≡ before) → code_of (plotting_end r) ≢ 0
        → code_of (plotting_end r) ≢ 5 → now ≡ before
    plot_unsent (Ok all) unsent whole part = absurd (whole refl)
    plot_unsent (Err SendFault) unsent whole part = absurd (part refl)
    plot_unsent (Err (Input why)) unsent whole part = unsent (λ e. cc)

    -- good input is plotted, unless a stream fails or there is no memory
    plot_good : (r : Result T PlotEnd) → IfErr r (λ end. IfSome left (λ input. EndsPlot w h input left' before now end))
        → IfSome left (λ input. IsSlots input → Contains of_done (code_of (plotting_end r)))
    plot_good (Ok all) ends = slots_good left _ (0, omega arith, refl)
    plot_good (Err SendFault) ends = slots_good left _ (3, omega arith, refl)
    plot_good (Err (Input input.NoMemory)) ends = slots_good left _ (1, omega arith, refl)
    plot_good (Err (Input input.ReadFault)) ends = slots_good left _ (2, omega arith, refl)
    plot_good (Err (Input input.InputTooLong)) ends =
        told_so IsTooLong (λ input. IsSlots input → Contains of_done 9) left
        (λ input long good. absurd (no_much input (2 ^ 32) good (inr (refl, long)))) ends
    plot_good (Err (Input (input.BadLine at))) ends =
        told_so (λ input. FirstBad input at) (λ input. IsSlots input
        → Contains of_done 8) left (λ input bad good. absurd (no_bad input at good bad)) ends
    plot_good (Err (Input input.TooManySlots)) ends =
        told_so HasTooMany (λ input. IsSlots input → Contains of_done 9) left
        (λ input many good. absurd (no_much input most_slots good (inl (refl, many)))) ends

    pub plotted : (r : Result T PlotEnd) → OnOk r (IfSome left (λ input. SendsPlot w h input before now)) → OnOk r (WasRead left left')
        → IfErr r (λ end. IfSome left (λ input. EndsPlot w h input left' before now end))
        → IfErr r (λ end. end ≢ SendFault → now ≡ before) → (r ≡ Err (Input input.ReadFault) → HasRisen faults.reads faults.reads_now)
        → (r ≡ Err SendFault → HasRisen faults.sends faults.sends_now) → StaysAlone old new
        → CommandEnds (Plot w h) old new left left' before now faults (code_of (plotting_end r)) (place_of (plotting_end r))
    plotted r done within ends unsent read send disk = by_code (Plot w h) old new left left' before now faults (plotting_end r) (record {
      came = plot_came r done within ends unsent read send;
      own = plot_own r;
      away = λ over. absurd over;
      untaken = λ none. absurd none;
      reads = tt;
      reads_lines = told_any left;
      syncs = told_any left;
      unnamed = tt;
      nothing = λ whole part quiet. plot_unsent r unsent whole part;
      pictures = λ is command. cc;
      holds = λ other. told_all left _ (alone_holds old new disk);
      crash = all_told left before _ (alone_leaves old new disk);
      disk = disk.kept;
      honest = kept_told old new disk.kept;
      complete = plot_good r ends;
      drawn = λ command. cc;
      ready = λ command. cc;
    })

  -- ---- a drawing

  drawing_own : (r : Result T DrawEnd) → Contains (0 ∷ 3 ∷ 4 ∷ 5 ∷ 8 ∷ 9 ∷ 10 ∷ 11 ∷ 15 ∷ []) (code_of (drawing_end r))
  drawing_own (Ok all) = (0, omega arith, refl)
  drawing_own (Err NoMemory) = (1, omega arith, refl)
  drawing_own (Err ReadFault) = (2, omega arith, refl)
  drawing_own (Err draw_end.SendFault) = (3, omega arith, refl)
  drawing_own (Err InputTooLong) = (5, omega arith, refl)
  drawing_own (Err (BadFrame at)) = (4, omega arith, refl)
  drawing_own (Err (Missing key)) = (6, omega arith, refl)
  drawing_own (Err (BadCoefficient key)) = (7, omega arith, refl)
  drawing_own (Err (UnknownSession n)) = (8, omega arith, refl)

  drawing_done : (r : Result T DrawEnd) (S : Type 0) → OnOk r S → code_of (drawing_end r) ≡ 0 → S
  drawing_done (Ok all) S so is = so
  drawing_done (Err NoMemory) S so is = absurd (omega (arith, is))
  drawing_done (Err why) S so is = absurd (omega (arith, is))

  -- good input is drawn, unless a stream fails or there is no memory
  drawing_good : (every : Option ℕ) → Known → Stay → (r : Result T DrawEnd)
      → IfErr r (λ end. IfSome left (λ input. EndsDraw every input left' before now end))
      → IfSome left (λ input. IsFrames input → Contains of_done (code_of (drawing_end r)))
  drawing_good every known stay (Ok all) ends = good_so left _ (0, omega arith, refl)
  drawing_good every known stay (Err NoMemory) ends = good_so left _ (1, omega arith, refl)
  drawing_good every known stay (Err ReadFault) ends = good_so left _ (2, omega arith, refl)
  drawing_good every known stay (Err draw_end.SendFault) ends = good_so left _ (3, omega arith, refl)
  drawing_good every known stay (Err InputTooLong) ends = much_never every _ left left' before now ends
  drawing_good every known stay (Err (BadFrame at)) ends = bad_never every known stay _ left left' before now at ends
  drawing_good every known stay (Err (Missing key)) ends = missing_never every known _ left left' before now key ends
  drawing_good every known stay (Err (BadCoefficient key)) ends = misfit_never every known _ left left' before now key ends
  drawing_good every known stay (Err (UnknownSession n)) ends = unopened_never every known _ left left' before now n ends

  draw_came : (r : Result T DrawEnd) → OnOk r (IfSome left (λ input. DrawsAll None input before now)) → OnOk r (WasRead left left')
      → IfErr r (λ end. IfSome left (λ input. EndsDraw None input left' before now end))
      → (r ≡ Err ReadFault → HasRisen faults.reads faults.reads_now) → (r ≡ Err draw_end.SendFault → HasRisen faults.sends faults.sends_now)
      → Came Draw old new left left' before now faults (drawing_end r)
  draw_came (Ok all) done within ends read send = (within, done, tt)
  draw_came (Err NoMemory) done within ends read send = ends
  draw_came (Err ReadFault) done within ends read send = (read refl, ends)
  draw_came (Err draw_end.SendFault) done within ends read send = (send refl, ends)
  draw_came (Err InputTooLong) done within ends read send = told_both left (2 ^ 32 ≡ 2 ^ 32)
      (λ input. DrawsWithin None input before now) refl ends
  draw_came (Err (BadFrame at)) done within ends read send = ends
  draw_came (Err (Missing key)) done within ends read send = keyed left before now None Missing key ends
  draw_came (Err (BadCoefficient key)) done within ends read send = keyed left before now None BadCoefficient key ends
  draw_came (Err (UnknownSession n)) done within ends read send = ends

  pub drawn : Known → Stay → Book → Good → (r : Result T DrawEnd) → OnOk r (IfSome left (λ input. DrawsAll None input before now))
      → OnOk r (WasRead left left')
      → IfErr r (λ end. IfSome left (λ input. EndsDraw None input left' before now end))
      → (r ≡ Err ReadFault → HasRisen faults.reads faults.reads_now)
      → (r ≡ Err draw_end.SendFault → HasRisen faults.sends faults.sends_now) → StaysAlone old new
      → CommandEnds Draw old new left left' before now faults (code_of (drawing_end r)) (place_of (drawing_end r))
  drawn known stay book good r done within ends read send disk = by_code Draw old new left left' before now faults (drawing_end r) (record {
    came = draw_came r done within ends read send;
    own = drawing_own r;
    away = λ over. absurd over;
    untaken = λ none. absurd none;
    reads = tt;
    reads_lines = told_any left;
    syncs = told_any left;
    unnamed = tt;
    nothing = λ whole part quiet. absurd (quiet tt);
    pictures = λ is command. replies_drawn book left before now (drawing_done r _ done is);
    holds = λ other. told_all left _ (alone_holds old new disk);
    crash = all_told left before _ (alone_leaves old new disk);
    disk = disk.kept;
    honest = kept_told old new disk.kept;
    complete = drawing_good None known stay r ends;
    drawn = λ command. replies_end good left _ (drawing_good None known stay r ends);
    ready = λ command. cc;
  })

  -- and one with covers
  module _ (every : ℕ) where
    cover_came : (r : Result T DrawEnd) → OnOk r (IfSome left (λ input. DrawsAll (Some every) input before now))
        → OnOk r (WasRead left left') → IfErr r (λ end. IfSome left (λ input. EndsDraw (Some every) input left' before now end))
        → (r ≡ Err ReadFault → HasRisen faults.reads faults.reads_now)
        → (r ≡ Err draw_end.SendFault → HasRisen faults.sends faults.sends_now)
        → Came (Cover every) old new left left' before now faults (drawing_end r)
    cover_came (Ok all) done within ends read send = (within, done, tt)
    cover_came (Err NoMemory) done within ends read send = ends
    cover_came (Err ReadFault) done within ends read send = (read refl, ends)
    cover_came (Err draw_end.SendFault) done within ends read send = (send refl, ends)
    cover_came (Err InputTooLong) done within ends read send = told_both left (2 ^ 32 ≡ 2 ^ 32)
        (λ input. DrawsWithin (Some every) input before now) refl ends
    cover_came (Err (BadFrame at)) done within ends read send = ends
    cover_came (Err (Missing key)) done within ends read send = keyed left before now (Some every) Missing key ends
    cover_came (Err (BadCoefficient key)) done within ends read send = keyed left before now (Some every) BadCoefficient key ends
    cover_came (Err (UnknownSession n)) done within ends read send = ends

    pub covered : Known → Stay → (r : Result T DrawEnd) → OnOk r (IfSome left (λ input. DrawsAll (Some every) input before now))
        → OnOk r (WasRead left left')
        → IfErr r (λ end. IfSome left (λ input. EndsDraw (Some every) input left' before now end))
        → (r ≡ Err ReadFault → HasRisen faults.reads faults.reads_now)
        → (r ≡ Err draw_end.SendFault → HasRisen faults.sends faults.sends_now) → StaysAlone old new
        → CommandEnds (Cover every) old new left left' before now faults (code_of (drawing_end r)) (place_of (drawing_end r))
    covered known stay r done within ends read send disk = by_code (Cover every) old new left left' before now faults (drawing_end r)
        (record {
          came = cover_came r done within ends read send;
          own = drawing_own r;
          away = λ over. absurd over;
          untaken = λ none. absurd none;
          reads = tt;
          reads_lines = told_any left;
          syncs = told_any left;
          unnamed = tt;
          nothing = λ whole part quiet. absurd (quiet tt);
          pictures = λ is command. cc;
          holds = λ other. told_all left _ (alone_holds old new disk);
          crash = all_told left before _ (alone_leaves old new disk);
          disk = disk.kept;
          honest = kept_told old new disk.kept;
          complete = drawing_good (Some every) known stay r ends;
          drawn = λ command. cc;
          ready = λ command. cc;
        })
