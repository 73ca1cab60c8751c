-- The commands that never call the disk did as their pages say.
use Rattle.std.proofs.Common.{◌≡◌, ◌≢◌, ◌^◌, ℕ, List, Option, Result, Ok, Err, IfErr, OnOk, refl, inl, inr}
use Rattle.chart_frames.specs.Frames.{key_number}
use Rattle.chart_world.specs.LineLaws.{told_so}
use Rattle.draw_command.proofs.DrawnFrames.{Stay}
use Rattle.draw_command.specs.Alone.{StaysAlone}
use Rattle.draw_command.specs.Draws.{DrawsAll, EndsDraw, StopsAtFrame}
use Rattle.draw_command.specs.declared.draw_end.DrawEnd.{DrawEnd}
use Rattle.draw_command.specs.declared.draw_end.DrawEnd.TheVariants as draw_end
use Rattle.draw_command.specs.declared.draw_end.DrawEnd.TheVariants.{NoMemory, ReadFault, InputTooLong, BadFrame, Missing, BadCoefficient}
use Rattle.draw_command.specs.declared.draw_end.DrawEnd.TheVariants.{UnknownSession}
use Rattle.om3_coeff.specs.declared.key.Key.{Key}
use Rattle.store_commands.proofs.InputLemmas.{any_told}
use Rattle.chart_program.specs.declared.input.InputEnd.TheVariants as input
use Rattle.chart_program.specs.declared.plot.PlotEnd.{PlotEnd}
use Rattle.chart_program.specs.declared.plot.PlotEnd.TheVariants.{Input, SendFault}
use Rattle.chart_program.specs.CommandStatuses.{drawing_end}
use Rattle.chart_program.specs.Course.{Course, IsDoneOrCut, IsShort, KeptBook, OfInput, SentNothing}
use Rattle.chart_program.specs.Draw.{DrawDoes, Draws, IsFrames, StopsAtKey}
use Rattle.chart_program.specs.Plot.{IsSlots, OfPlot, PlotDoes}
use Rattle.chart_program.specs.Plotted.{EndsPlot, SendsPlot, plotting_end}
use Rattle.chart_program.specs.Replies.{DrawsBook}
use Rattle.chart_program.specs.Slots.{FirstBad, HasTooMany, IsTooLong, most_slots}
use Rattle.chart_program.proofs.Codes.{no_bad, no_much}
use Rattle.chart_program.proofs.DiskKept.{alone_keeps, alone_leaves}
use Rattle.chart_program.proofs.DrawnBook.{Book, Good, replies_end}
use Rattle.chart_program.proofs.Parsing.{Known, bad_never, good_so, misfit_never, missing_never, much_never, unopened_never}

kept_alone : (c : Course) → StaysAlone c.old c.new → KeptBook c
kept_alone c alone = record { holds = alone_keeps c.old c.new alone; crash = alone_leaves c.old c.new alone }

-- the key that a view lacks has the number that is told
keyed : (c : Course) (every : Option ℕ) (why : Key → DrawEnd) (key : Key)
    → OfInput c (λ input. StopsAtFrame every input c.sent c.sent_now (why key)) → StopsAtKey every c why (key_number key)
keyed c every why key ends =
    let Stops : List ℕ → Type 0 = λ input. StopsAtFrame every input c.sent c.sent_now (why key) in
    told_so Stops (λ input. (k : Key) × (key_number key ≡ key_number k)
    × StopsAtFrame every input c.sent c.sent_now (why k)) c.left (λ input stops. (key, refl, stops)) ends

module _ {T : Type 0} (c : Course) where
  -- ---- a plot

  module _ (w h : ℕ) where
    plot_does : (r : Result T PlotEnd) → OnOk r (IsShort c) → OnOk r (OfInput c (λ input. SendsPlot w h input c.sent c.sent_now))
        → IfErr r (λ end. OfInput c (λ input. EndsPlot w h input c.left_now c.sent c.sent_now end))
        → IfErr r (λ end. end ≢ SendFault → SentNothing c) → PlotDoes w h c (plotting_end r)
    plot_does (Ok all) short done ends unsent = (short, done)
    plot_does (Err SendFault) short done ends unsent = ends
    plot_does (Err (Input input.NoMemory)) short done ends unsent = unsent (λ e. cc)
    plot_does (Err (Input input.ReadFault)) short done ends unsent = (ends, unsent (λ e. cc))
    plot_does (Err (Input input.InputTooLong)) short done ends unsent = (ends, unsent (λ e. cc))
    plot_does (Err (Input (input.BadLine at))) short done ends unsent = (ends, unsent (λ e. cc))
    plot_does (Err (Input input.TooManySlots)) short done ends unsent = (refl, ends, unsent (λ e. cc))

    -- good input is plotted, unless a stream fails or there is no memory
    abbrev GoodSlots : Result T PlotEnd → List ℕ → Type 0
    GoodSlots r input = IsSlots input → IsDoneOrCut (plotting_end r)

    plot_good : (r : Result T PlotEnd) → IfErr r (λ end. OfInput c (λ input. EndsPlot w h input c.left_now c.sent c.sent_now end))
        → OfInput c (GoodSlots r)
    plot_good (Ok all) ends = any_told c.left (GoodSlots (Ok all)) (λ input good. tt)
    plot_good (Err SendFault) ends = any_told c.left (GoodSlots (Err SendFault)) (λ input good. tt)
    plot_good (Err (Input input.NoMemory)) ends = any_told c.left (GoodSlots (Err (Input input.NoMemory))) (λ input good. tt)
    plot_good (Err (Input input.ReadFault)) ends = any_told c.left (GoodSlots (Err (Input input.ReadFault))) (λ input good. tt)
    plot_good (Err (Input input.InputTooLong)) ends =
        told_so IsTooLong (GoodSlots (Err (Input input.InputTooLong))) c.left
        (λ i long good. absurd (no_much i (2 ^ 32) good (inr (refl, long)))) ends
    plot_good (Err (Input (input.BadLine at))) ends =
        told_so (λ i. FirstBad i at) (GoodSlots (Err (Input (input.BadLine at)))) c.left (λ i bad good. absurd (no_bad i at good bad)) ends
    plot_good (Err (Input input.TooManySlots)) ends =
        told_so HasTooMany (GoodSlots (Err (Input input.TooManySlots))) c.left
        (λ i many good. absurd (no_much i most_slots good (inl (refl, many)))) ends

    pub of_plot : (r : Result T PlotEnd) → OnOk r (OfInput c (λ input. SendsPlot w h input c.sent c.sent_now)) → OnOk r (IsShort c)
        → IfErr r (λ end. OfInput c (λ input. EndsPlot w h input c.left_now c.sent c.sent_now end))
        → IfErr r (λ end. end ≢ SendFault → SentNothing c) → StaysAlone c.old c.new → OfPlot w h c (plotting_end r)
    of_plot r done short ends unsent alone = record {
      does = plot_does r short done ends unsent;
      disk = alone.kept;
      kept = kept_alone c alone;
      good = plot_good r ends;
    }

  -- ---- a drawing, with covers or with none

  module _ (every : Option ℕ) where
    draw_does : Book → (r : Result T DrawEnd) → OnOk r (IsShort c) → OnOk r (OfInput c (λ input. DrawsAll every input c.sent c.sent_now))
        → IfErr r (λ end. OfInput c (λ input. EndsDraw every input c.left_now c.sent c.sent_now end))
        → DrawDoes every c (drawing_end r)
    draw_does book (Ok all) short done ends = (
      short,
      done,
      told_so (λ input. DrawsAll every input c.sent c.sent_now) (λ input. DrawsBook every input c.sent c.sent_now) c.left
          (λ input all. book every input c.sent c.sent_now all) done,
    )
    draw_does book (Err NoMemory) short done ends = ends
    draw_does book (Err ReadFault) short done ends = ends
    draw_does book (Err draw_end.SendFault) short done ends = ends
    draw_does book (Err InputTooLong) short done ends = ends
    draw_does book (Err (BadFrame at)) short done ends = ends
    draw_does book (Err (Missing key)) short done ends = keyed c every Missing key ends
    draw_does book (Err (BadCoefficient key)) short done ends = keyed c every BadCoefficient key ends
    draw_does book (Err (UnknownSession n)) short done ends = ends

    -- good input is drawn, unless a stream fails or there is no memory
    draw_good : Known → Stay → (r : Result T DrawEnd)
        → IfErr r (λ end. OfInput c (λ input. EndsDraw every input c.left_now c.sent c.sent_now end))
        → OfInput c (λ input. IsFrames input → IsDoneOrCut (drawing_end r))
    draw_good known stay (Ok all) ends = good_so c.left _ tt
    draw_good known stay (Err NoMemory) ends = good_so c.left _ tt
    draw_good known stay (Err ReadFault) ends = good_so c.left _ tt
    draw_good known stay (Err draw_end.SendFault) ends = good_so c.left _ tt
    draw_good known stay (Err InputTooLong) ends = much_never every _ c.left c.left_now c.sent c.sent_now ends
    draw_good known stay (Err (BadFrame at)) ends = bad_never every known stay _ c.left c.left_now c.sent c.sent_now at ends
    draw_good known stay (Err (Missing key)) ends = missing_never every known _ c.left c.left_now c.sent c.sent_now key ends
    draw_good known stay (Err (BadCoefficient key)) ends = misfit_never every known _ c.left c.left_now c.sent c.sent_now key ends
    draw_good known stay (Err (UnknownSession n)) ends = unopened_never every known _ c.left c.left_now c.sent c.sent_now n ends

    pub drawn_by : Known → Stay → Book → Good → (r : Result T DrawEnd)
        → OnOk r (OfInput c (λ input. DrawsAll every input c.sent c.sent_now)) → OnOk r (IsShort c)
        → IfErr r (λ end. OfInput c (λ input. EndsDraw every input c.left_now c.sent c.sent_now end)) → StaysAlone c.old c.new
        → Draws every c (drawing_end r)
    drawn_by known stay book good r done short ends alone = record {
      does = draw_does book r short done ends;
      disk = alone.kept;
      kept = kept_alone c alone;
      good = draw_good known stay r ends;
      replies = replies_end good c.left _ (draw_good known stay r ends);
    }
