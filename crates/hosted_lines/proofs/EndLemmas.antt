-- How a host's run over an input ended, by what a run of lines says.
use Rattle.std.proofs.Common.{◌≡◌, ◌≢◌, ◌∙◌, ◌≤◌, ℕ, ◌+◌, List, [], ◌∷◌, ◌++◌, length, Option, None, Some, IfSome, refl, ap, sym, subst}
use Rattle.std.proofs.Common.{inl, inr, arith, append_assoc}
use Rattle.std.specs.Prelude.{OnOk, IfErr, Result, Ok, Err}
use Rattle.std.specs.List.{filter}
use Rattle.std.proofs.lemmas.List.{append-nil}
use Rattle.block_disk.specs.Streams.{sent_after}
use Rattle.block_disk.specs.View.{Image, View, Now, Only, sent_now}
use Rattle.block_disk.specs.SentLaws.{sent_none}
use Rattle.chart_frames.specs.declared.frame.Frame.{Frame}
use Rattle.chart_service.specs.MomentLaws.{since_none}
use Rattle.chart_service.specs.Moments as moments
use Rattle.chart_service.specs.Serving.{told}
use Rattle.chart_world.specs.Fronts.{says}
use Rattle.chart_world.specs.LineLaws.{lines_none}
use Rattle.chart_world.specs.declared.line_answer.LineFault.TheVariants as fault
use Rattle.line_runs.specs.Carried.{Carries}
use Rattle.line_runs.specs.Ends.{run_end}
use Rattle.line_runs.specs.Given.{Given, pauses}
use Rattle.line_runs.specs.GivenLaws.{pauses_joined}
use Rattle.line_runs.specs.Moments.{Since}
use Rattle.line_runs.specs.Runs as runs
use Rattle.line_runs.specs.Runs.{FewPauses}
use Rattle.line_runs.specs.declared.lines_stop.LinesStop.{LinesStop}
use Rattle.line_runs.specs.declared.lines_stop.LinesStop.TheVariants as stop
use Rattle.live_service.specs.LiveReplies.{LiveState}
use Rattle.run_ends.specs.declared.ending.End.{End}
use Rattle.run_ends.specs.declared.ending.End.TheVariants as ends
use Rattle.series_book.specs.declared.edits.Edit.{Edit}
use Rattle.series_book.specs.declared.one_series.Series.{Series}
use Rattle.served_lines.specs.Turning.{lines_of}
use Rattle.served_lines.proofs.Carried.{all_ended, lines_all, told_are}
use Rattle.stored_book.specs.Standing.{StandsForBook}
use Rattle.hosted_lines.specs.Amid.{IsThereAhead}
use Rattle.hosted_lines.specs.Doing.{Held, held_with}
use Rattle.hosted_lines.specs.Groups.{FewGroups}
use Rattle.hosted_lines.specs.Hosting.{Begun, HostCost, HostMoment, HostStop}
use Rattle.hosted_lines.specs.Hosts.{Event, Happens, HappensFor, InRow, groups_in, lines_in}
use Rattle.hosted_lines.specs.Input.{most_bytes}
use Rattle.hosted_lines.specs.Lives.{spelled}
use Rattle.hosted_lines.specs.Running.{CostsLines, EndsSo, FirstLines, HostedBy, IsAhead, SendsAll, SendsFirst}
use Rattle.hosted_lines.specs.Working.{AreTold, Does, Hosted, IsHosted, Leaves, Rests, Stops, Turn, counted_of, live_at}
use Rattle.hosted_lines.proofs.AmidLemmas.{amid_wide}
use Rattle.hosted_lines.proofs.CountLemmas.{few_all, few_more, few_none}
use Rattle.hosted_lines.proofs.EventLemmas.{length_more, sent_then}
use Rattle.hosted_lines.proofs.FrontLemmas.{AreBefore, AreFirst, Place, first_placed, given_front, next_front, placed}
use Rattle.hosted_lines.proofs.RowLemmas.{lines_joined, row_plain, row_then}
use Rattle.hosted_lines.proofs.TurnLemmas.{ended, paused, split_both, turned}
use Rattle.hosted_lines.proofs.WorkLemmas.{hosted_at}

-- before the first line
abbrev pub first_at : ℕ → List Series → Held → View → Option (List ℕ) → Hosted
first_at total book held view sent = hosted_at total book held view.reads view.syncs [] sent

module _ (total : ℕ) (book : List Series) (held : Held) (view : View) (before : Option (List ℕ)) where
  abbrev start : Hosted
  start = first_at total book held view before

  -- ---- all that was given is answered

  module _ (new : View) (held' : Held) (edits : List Edit) (told_now : Type 0) (now : Option (List ℕ)) where
    abbrev IsNow : Hosted → Type 0
    IsNow hosted = IsHosted hosted edits told_now new held' now

    abbrev There : List Series → Type 0
    There after = StandsForBook new.image total after

    module _ (given : List Given) (text : List ℕ) (behind : Hosted) (carries : Carries Does start given text behind)
        (none : behind.ahead ≡ []) (stands : IsNow behind) where
      turn : Turn start (lines_all given) (pauses given) text behind
      turn = turned given start text behind carries

      lines_are : (all : List (Option (List ℕ))) → lines_all given ≡ all → lines_in turn.events ≡ all
      lines_are all is = sym (append-nil (lines_in turn.events)) ∙ ap (λ l. lines_in turn.events ++ l) (sym none) ∙ sym turn.split ∙ is

      idle_now : (live_at behind).pending ≡ []
      idle_now = stands.idle

      there : There behind.book
      there = let P : ℕ → Type 0 = λ n. StandsForBook new.image n behind.book in subst P turn.total_is stands.stands

      sent_is : (o : Option (List ℕ)) → now ≡ sent_after text before → now ≡ sent_after (spelled turn.frames) before
      sent_is o sent = sent ∙ ap (λ t. sent_after t before) turn.text_is

      hosted : (all : List (Option (List ℕ))) → lines_all given ≡ all → HostedBy all turn.frames (live_at start) (live_at behind)
      hosted all is = record {
        events = turn.events;
        lines_are = lines_are all is;
        happened = row_plain (counted_of start) (counted_of behind) turn.events turn.frames turn.happened;
      }

      first : (input : List ℕ) → now ≡ sent_after text before → AreFirst input given → SendsFirst There input (live_at start) before now
      first input sent are = record {
        frames = turn.frames;
        state = live_at behind;
        first = record {
          front = are.front;
          rest = are.rest;
          begins = are.begins;
          early = are.early;
          hosted = hosted (told are.front) (told_are given are.front are.given_are);
        };
        idle = idle_now;
        there = there;
        sent = sent_is before sent;
      }

    done_ends : (o : Option (List ℕ)) (pieces pieces' : ℕ) → runs.Runs Does start (runs.AreAll pieces pieces') IsNow o before now
        → IfSome o (λ input. SendsAll There input (live_at start) before now)
    done_ends None pieces pieces' all = tt
    done_ends (Some input) pieces pieces' all =
        let done = all.done in
        let none = ended all.are.earlier done.given start done.text done.behind all.are.paused all.are.given_are done.carries in
        let are : lines_all done.given ≡ told input = ap lines_all all.are.given_are ∙ all_ended all.are.earlier
        ∙ told_are all.are.earlier input all.are.lines_are in
        record {
          frames = (turn done.given done.text done.behind done.carries none all.stands).frames;
          state = live_at done.behind;
          hosted = hosted done.given done.text done.behind done.carries none all.stands (told input) are;
          idle = idle_now done.given done.text done.behind done.carries none all.stands;
          there = there done.given done.text done.behind done.carries none all.stands;
          sent = sent_is done.given done.text done.behind done.carries none all.stands before all.sent;
        }

    read_ends : (o left : Option (List ℕ)) (pieces pieces' : ℕ)
        → runs.Runs Does start (runs.AreTakenWithin most_bytes pieces pieces' left) IsNow o before now
        → IfSome o (λ input. EndsSo There input (live_at start) left before now ends.ReadFault)
    unfolding first
    read_ends None left pieces pieces' all = tt
    read_ends (Some input) left pieces pieces' all =
        let done = all.done in
        let none = paused done.given start done.text done.behind all.are.paused done.carries in
        record {
          sends = first done.given done.text done.behind done.carries none all.stands input all.sent all.are.first;
          whole = all.are.whole;
          behind = all.are.behind;
        }

    long_ends : (o left : Option (List ℕ)) (pieces pieces' : ℕ)
        → runs.Runs Does start (runs.AreUpTo most_bytes pieces pieces') IsNow o before now
        → IfSome o (λ input. EndsSo There input (live_at start) left before now ends.InputTooLong)
    unfolding first
    long_ends None left pieces pieces' all = tt
    long_ends (Some input) left pieces pieces' all =
        let done = all.done in
        let none = paused done.given start done.text done.behind all.are.paused done.carries in
        record {
          sends = first done.given done.text done.behind done.carries none all.stands input all.sent all.are.first;
          unended = all.are.unended;
          past = all.are.past;
        }

  -- ---- what comes next is on its way

  module _ (given : List Given) (text : List ℕ) (mid : Hosted) (carries : Carries Does start given text mid) (next : Given) where
    abbrev before_it : Turn start (lines_all given) (pauses given) text mid
    before_it = turned given start text mid carries

    begun_all : (frames : List Frame) (new : LiveState) → (b : Begun (mid.ahead ++ lines_of next) frames (live_at mid) new)
        → lines_all given ++ lines_of next ≡ lines_in (before_it.events ++ b.events) ++ b.rest
    begun_all frames new b =
        split_both [] (lines_all given) (lines_of next) (lines_in before_it.events) mid.ahead
        (lines_in b.events) b.rest before_it.split b.split
        ∙ ap (λ l. l ++ b.rest) (sym (lines_joined before_it.events b.events))

    abbrev begun_place : (input : List ℕ) → AreBefore input given next
        → (frames : List Frame) (new : LiveState) (b : Begun (mid.ahead ++ lines_of next) frames (live_at mid) new)
        → Place input (lines_in (before_it.events ++ b.events)) b.rest
    begun_place input are frames new b =
        placed input (lines_in (before_it.events ++ b.events)) b.rest
        (next_front input given next (lines_in (before_it.events ++ b.events) ++ b.rest) (begun_all frames new b) are)

    begun_happened : (frames : List Frame) (new : LiveState) (b : Begun (mid.ahead ++ lines_of next) frames (live_at mid) new)
        → InRow Happens (live_at start) (before_it.events ++ b.events) (before_it.frames ++ frames) new
    begun_happened frames new b =
        row_then Happens (live_at start) (live_at mid) new before_it.events b.events before_it.frames frames
        (row_plain (counted_of start) (counted_of mid) before_it.events before_it.frames before_it.happened) b.happened

    begun_first : (input : List ℕ) → AreBefore input given next → (frames : List Frame) (new : LiveState)
        → Begun (mid.ahead ++ lines_of next) frames (live_at mid) new → FirstLines input (before_it.frames ++ frames) (live_at start) new
    begun_first input are frames new b =
        first_placed input (before_it.events ++ b.events) b.rest (before_it.frames ++ frames) (live_at start) new
        (begun_happened frames new b) (begun_place input are frames new b)

    abbrev begun_row : (input : List ℕ) → AreBefore input given next → (shown more : List Frame) (new : LiveState)
        → Begun (mid.ahead ++ lines_of next) (shown ++ more) (live_at mid) new
        → FirstLines input ((before_it.frames ++ shown) ++ more) (live_at start) new
    begun_row input are shown more new b =
        let R : List Frame → Type 0 = λ l. InRow Happens (live_at start) (before_it.events ++ b.events) l new in
        first_placed input (before_it.events ++ b.events) b.rest ((before_it.frames ++ shown) ++ more) (live_at start) new
        (subst R (sym (append_assoc before_it.frames shown more)) (begun_happened (shown ++ more) new b))
        (begun_place input are (shown ++ more) new b)

    -- the book that is there
    there_row : (input : List ℕ) (are : AreBefore input given next) (image : Image) (shown more : List Frame) (new : LiveState)
        (b : Begun (mid.ahead ++ lines_of next) (shown ++ more) (live_at mid) new)
        → IsThereAhead (λ after. StandsForBook image mid.total after) more b.rest new
        → IsThereAhead (λ after. StandsForBook image total after) more (told (begun_row input are shown more new b).rest) new
    there_row input are image shown more new b there =
        let p = begun_place input are (shown ++ more) new b in
        amid_wide (λ after. StandsForBook image mid.total after) (λ after. StandsForBook image total after) more new
        (λ after stands. let P : ℕ → Type 0 = λ n. StandsForBook image n after in
        subst P before_it.total_is stands) b.rest (told p.rest) p.beyond p.left_are there

    sent_first : mid.sent ≡ sent_after (spelled before_it.frames) before
    sent_first = before_it.sent_is ∙ ap (λ t. sent_after t before) before_it.text_is

    stop_ends : (input : List ℕ) → AreBefore input given next → (image : Image) (left now : Option (List ℕ)) (end : End)
        → HostStop (mid.ahead ++ lines_of next) mid.total (live_at mid) image mid.sent now end
        → EndsSo (λ after. StandsForBook image total after) input (live_at start) left before now end
    stop_ends input are image left now ends.NoMemory s =
        record {
          shown = before_it.frames ++ s.shown;
          more = s.more;
          few = s.few;
          state = s.state;
          first = begun_row input are s.shown s.more s.state s.begun;
          there = there_row input are image s.shown s.more s.state s.begun s.stands;
          sent = sent_then before_it.frames s.shown before mid.sent now sent_first s.sent;
        }
    stop_ends input are image left now ends.SendFault s =
        let P : ℕ → Type 0 = λ n. StandsForBook image n s.state.state.book in
        record {
          shown = before_it.frames ++ s.shown;
          last = s.last;
          more = s.more;
          few = s.few;
          state = s.state;
          first = begun_row input are s.shown (s.last ∷ s.more) s.state s.begun;
          there = subst P before_it.total_is s.stands;
          between = s.between;
          whole = sent_then before_it.frames s.shown before mid.sent s.between sent_first s.whole;
          part = s.part;
        }
    stop_ends input are image left now ends.DiskFault s = record {
      frames = before_it.frames ++ s.frames;
      state = s.state;
      first = begun_first input are s.frames s.state s.begun;
      sent = sent_then before_it.frames s.frames before mid.sent now sent_first s.sent;
    }
    stop_ends input are image left now end s = absurd s

    amid_ahead : (input : List ℕ) → AreBefore input given next → (from begun : ℕ) (image : Image) (count : ℕ) → begun ≡ from + length text
        → HostMoment (mid.ahead ++ lines_of next) mid.total (live_at mid) begun image count
        → IsAhead (λ after. StandsForBook image total after) input (live_at start) from count
    amid_ahead input are from begun image count counted m =
        record {
          shown = before_it.frames ++ m.shown;
          more = m.more;
          few = m.few;
          state = m.state;
          first = begun_row input are m.shown m.more m.state m.begun;
          there = there_row input are image m.shown m.more m.state m.begun m.stands;
          low = omega (arith, m.low, counted, ap length before_it.text_is, length_more before_it.frames m.shown);
          high = omega (
            arith,
            m.high,
            counted,
            ap length before_it.text_is,
            length_more before_it.frames (m.shown ++ m.more),
            ap (λ l. length (spelled l)) (append_assoc before_it.frames m.shown m.more),
          );
        }

    groups_all : (events : List Event) (lines : List (Option (List ℕ))) (pieces pieces' : ℕ) → lines ≡ lines_in (before_it.events ++ events)
        → groups_in events ≤ 1 → FewPauses pieces pieces' (given ++ next ∷ [])
        → FewGroups lines (groups_in (before_it.events ++ events)) pieces pieces'
    groups_all events lines pieces pieces' are one few =
        few_more before_it.events events lines (pauses given) pieces pieces' are before_it.groups one
        (λ counts. omega (arith, few counts, pauses_joined given (next ∷ [])))

    cost_all : (input : List ℕ) → AreBefore input given next → (pieces pieces' : ℕ) → FewPauses pieces pieces' (given ++ next ∷ [])
        → (reads syncs : ℕ) → HostCost 1 (mid.ahead ++ lines_of next) (counted_of mid) reads syncs
        → CostsLines input (counted_of start) pieces pieces' reads syncs
    cost_all input are pieces pieces' few reads syncs c =
        let all : lines_all given ++ lines_of next ≡ lines_in (before_it.events ++ c.events) ++ c.rest =
        split_both [] (lines_all given) (lines_of next) (lines_in before_it.events) mid.ahead
        (lines_in c.events) c.rest before_it.split c.split
        ∙ ap (λ l. l ++ c.rest) (sym (lines_joined before_it.events c.events)) in
        let p = placed input (lines_in (before_it.events ++ c.events)) c.rest
        (next_front input given next (lines_in (before_it.events ++ c.events) ++ c.rest) all are) in
        record {
          front = p.front;
          rest = p.rest;
          begins = p.begins;
          events = before_it.events ++ c.events;
          lines_are = sym p.done_are;
          frames = before_it.frames ++ c.frames;
          state = c.state;
          happened = row_then HappensFor (counted_of start)
              (counted_of mid) c.state before_it.events c.events before_it.frames c.frames before_it.happened c.happened;
          groups = groups_all c.events (told p.front) pieces pieces' p.done_are c.few few;
          last = elim c.last [
            | inl done ↦ inl done
            | inr failed ↦ inr (record {
              event = failed.event;
              later = failed.later ++ p.beyond;
              next = p.left_are ∙ ap (λ l. l ++ p.beyond) failed.next ∙ append_assoc (lines_in (failed.event ∷ [])) failed.later p.beyond;
              costs = failed.costs;
            })
          ];
        }

  -- between lines
  rest_ahead : (given : List Given) (text : List ℕ) (mid : Hosted) (carries : Carries Does start given text mid) (input : List ℕ)
      → AreFirst input given → (from : ℕ) (image : Image) (count : ℕ) → Rests mid image → count ≡ from + length text
      → IsAhead (λ after. StandsForBook image total after) input (live_at start) from count
  rest_ahead given text mid carries input are from image count rests counted =
      let t = turned given start text mid carries in
      let P : ℕ → Type 0 = λ n. StandsForBook image n mid.book in
      record {
        shown = t.frames;
        more = [];
        few = omega arith;
        state = live_at mid;
        first = first_placed input t.events mid.ahead (t.frames ++ []) (live_at start) (live_at mid)
            (let F : List Frame → Type 0 = λ l. InRow Happens (live_at start) t.events l (live_at mid) in
            subst F (sym (append-nil t.frames)) (row_plain (counted_of start) (counted_of mid) t.events t.frames t.happened))
            (placed input (lines_in t.events) mid.ahead (given_front input given (lines_in t.events ++ mid.ahead) t.split are));
        there = inl (subst P t.total_is rests);
        low = omega (arith, counted, ap length t.text_is);
        high = omega (arith, counted, ap length t.text_is, ap (λ l. length (spelled l)) (append-nil t.frames));
      }

  rest_cost : (given : List Given) (text : List ℕ) (mid : Hosted) (carries : Carries Does start given text mid) (input : List ℕ)
      → AreFirst input given → (pieces pieces' : ℕ) → FewPauses pieces pieces' given → (reads syncs : ℕ) → reads ≡ mid.reads
      → syncs ≡ mid.syncs → CostsLines input (counted_of start) pieces pieces' reads syncs
  rest_cost given text mid carries input are pieces pieces' few reads syncs r s =
      let t = turned given start text mid carries in
      let p = placed input (lines_in t.events) mid.ahead (given_front input given (lines_in t.events ++ mid.ahead) t.split are) in
      record {
        front = p.front;
        rest = p.rest;
        begins = p.begins;
        events = t.events;
        lines_are = sym p.done_are;
        frames = t.frames;
        state = counted_of mid;
        happened = t.happened;
        groups = few_all t.events (told p.front) (pauses given) pieces pieces' p.done_are t.groups few;
        last = inl (r, s);
      }

-- ---- all ends

module _ (total : ℕ) (book : List Series) (held : Held) (view : View) (before : Option (List ℕ)) (new : View) (held' : Held)
    (edits : List Edit) (told_now : Type 0) (left left' now : Option (List ℕ)) (pieces pieces' : ℕ) where
  abbrev StandsNow : Hosted → Type 0
  StandsNow hosted = IsHosted hosted edits told_now new held' now

  abbrev Stopping : Hosted → Given → End → Option (List ℕ) → Type 0
  Stopping hosted it end earlier = Stops hosted it new.image now new.reads new.syncs end

  abbrev Ending : End → Type 0
  Ending end = IfSome left (λ input. EndsSo (λ after. StandsForBook new.image total after) input
      (held_with total book held) left' before now end)

  abbrev Costing : Type 0
  Costing = IfSome left (λ input. CostsLines input (record { live = held_with total book held; reads = view.reads; syncs = view.syncs })
      pieces pieces' new.reads new.syncs)

  abbrev begin : Hosted
  begin = first_at total book held view before

  work_ends : (o : Option (List ℕ)) (end : End) → runs.RunsToWithin most_bytes Does
      (λ s it e b. Stopping s it e b) begin o before pieces pieces' end
      → IfSome o (λ input. EndsSo (λ after. StandsForBook new.image total after) input (held_with total book held) left' before now end)
  work_ends None end r = tt
  work_ends (Some input) end r =
      stop_ends total book held view before r.done.given r.done.text r.done.behind r.done.carries r.next input r.are new.image left' now end
      r.why.why

  pub ends_so : {T : Type 0} (answer : Result T (LinesStop End))
      → OnOk answer (runs.Runs Does begin (runs.AreAll pieces pieces') StandsNow left before now)
      → IfErr answer (runs.StopsSoWithin most_bytes Does
      (λ s it e b. Stopping s it e b) StandsNow begin left left' before now pieces pieces') → Ending (run_end answer)
  ends_so {T} (Ok v) done stops = done_ends total book held view before new held' edits told_now now left pieces pieces' done
  ends_so {T} (Err (stop.Fault fault.ReadFault)) done stops = read_ends total book held view before new held' edits told_now now left left'
      pieces pieces' stops
  ends_so {T} (Err (stop.Fault fault.InputTooLong)) done stops = long_ends total book held view before new held' edits told_now now left
      left' pieces pieces' stops
  ends_so {T} (Err (stop.Work end)) done stops = work_ends left end stops

  -- ---- moments

  crash_one : (input bytes : List ℕ) (from : ℕ) (image : Image) (count : ℕ)
      → runs.IsAheadWithin most_bytes Does Rests Leaves begin (Some input) (Some bytes) from image count
      → IsAhead (λ after. StandsForBook image total after) input (held_with total book held) from count
  crash_one input bytes from image count a = elim a.is [
    | inl between ↦ rest_ahead total book held view before a.done.given a.done.text a.done.behind a.done.carries input between.are from
        image count between.rests_so between.sent_is
    | inr amid ↦ amid_ahead total book held view before a.done.given a.done.text a.done.behind a.done.carries amid.next input amid.are from
        amid.begun image count amid.begun_is amid.leaves_so
  ]

  pub lasts_so : (o earlier : Option (List ℕ)) → (AreTold earlier
      → Since view new (runs.IsAheadWithin most_bytes Does Rests Leaves begin o earlier (sent_now view)))
      → IfSome o (λ input. IfSome earlier (λ bytes. moments.Since view new
      (λ image sent. IsAhead (λ after. StandsForBook image total after) input (held_with total book held) (sent_now view) sent)))
  lasts_so None earlier lasts = tt
  lasts_so (Some input) None lasts = tt
  lasts_so (Some input) (Some bytes) lasts =
      let since = lasts tt in
      record {
        goes = since.goes;
        here = λ time image low high crash. crash_one input bytes (sent_now view) image (new.sent_by time)
            (since.here time image low high crash);
      }

  -- ---- costs

  done_costs : (o : Option (List ℕ)) → runs.Runs Does begin (runs.AreAll pieces pieces') StandsNow o before now
      → IfSome o (λ input. CostsLines input (counted_of begin) pieces pieces' new.reads new.syncs)
  done_costs None all = tt
  done_costs (Some input) all =
      let done = all.done in
      let none = ended all.are.earlier done.given begin done.text done.behind all.are.paused all.are.given_are done.carries in
      let t = turned done.given begin done.text done.behind done.carries in
      let are : lines_all done.given ≡ told input = ap lines_all all.are.given_are ∙ all_ended all.are.earlier
      ∙ told_are all.are.earlier input all.are.lines_are in
      let lines_so : lines_in t.events ≡ told input = sym (append-nil (lines_in t.events)) ∙ ap (λ l. lines_in t.events ++ l) (sym none)
      ∙ sym t.split ∙ are in
      record {
        front = input;
        rest = [];
        begins = record { split = sym (append-nil input); whole = inr refl };
        events = t.events;
        lines_are = lines_so;
        frames = t.frames;
        state = counted_of done.behind;
        happened = t.happened;
        groups = few_all t.events (told input) (pauses done.given) pieces pieces' (sym lines_so) t.groups all.are.few;
        last = inl (sym all.stands.reads_are, sym all.stands.syncs_are);
      }

  work_costs : (o : Option (List ℕ)) (end : End) → runs.RunsToWithin most_bytes Does
      (λ s it e b. Stopping s it e b) begin o before pieces pieces' end
      → IfSome o (λ input. CostsLines input (counted_of begin) pieces pieces' new.reads new.syncs)
  work_costs None end r = tt
  work_costs (Some input) end r = cost_all total book held view before r.done.given r.done.text r.done.behind r.done.carries r.next input
      r.are pieces pieces' r.few new.reads new.syncs r.why.cost

  read_costs : (o : Option (List ℕ)) → runs.Runs Does begin (runs.AreTakenWithin most_bytes pieces pieces' left') StandsNow o before now
      → IfSome o (λ input. CostsLines input (counted_of begin) pieces pieces' new.reads new.syncs)
  read_costs None all = tt
  read_costs (Some input) all =
      rest_cost total book held view before all.done.given all.done.text all.done.behind all.done.carries input all.are.first pieces pieces'
      all.are.few new.reads new.syncs (sym all.stands.reads_are) (sym all.stands.syncs_are)

  long_costs : (o : Option (List ℕ)) → runs.Runs Does begin (runs.AreUpTo most_bytes pieces pieces') StandsNow o before now
      → IfSome o (λ input. CostsLines input (counted_of begin) pieces pieces' new.reads new.syncs)
  long_costs None all = tt
  long_costs (Some input) all =
      rest_cost total book held view before all.done.given all.done.text all.done.behind all.done.carries input all.are.first pieces pieces'
      all.are.few new.reads new.syncs (sym all.stands.reads_are) (sym all.stands.syncs_are)

  pub costs_so : {T : Type 0} (answer : Result T (LinesStop End))
      → OnOk answer (runs.Runs Does begin (runs.AreAll pieces pieces') StandsNow left before now)
      → IfErr answer (runs.StopsSoWithin most_bytes Does
      (λ s it e b. Stopping s it e b) StandsNow begin left left' before now pieces pieces') → Costing
  costs_so {T} (Ok v) done stops = done_costs left done
  costs_so {T} (Err (stop.Fault fault.ReadFault)) done stops = read_costs left stops
  costs_so {T} (Err (stop.Fault fault.InputTooLong)) done stops = long_costs left stops
  costs_so {T} (Err (stop.Work end)) done stops = work_costs left end stops

-- ---- nothing is done

module _ (total : ℕ) (book : List Series) (held : Held) where
  hosted_none : (input : List ℕ) → FirstLines input [] (held_with total book held) (held_with total book held)
  hosted_none input = record {
    front = [];
    rest = input;
    begins = record { split = refl; whole = inl (inl refl) };
    early = omega arith;
    hosted = record { events = []; lines_are = sym (ap (λ l. filter says l) lines_none); happened = (refl, refl) };
  }

  pub none_ends : (o left before : Option (List ℕ)) (image : Image) → StandsForBook image total book
      → IfSome o (λ input. EndsSo (λ after. StandsForBook image total after) input
      (held_with total book held) left before before ends.NoMemory)
  none_ends None left before image stands = tt
  none_ends (Some input) left before image stands =
      record {
        shown = [];
        more = [];
        few = omega arith;
        state = held_with total book held;
        first = hosted_none input;
        there = inl stands;
        sent = sent_none before;
      }

  pub none_lasts : (o before : Option (List ℕ)) (view : View) → Only view.image (Now view) → StandsForBook view.image total book
      → IfSome o (λ input. IfSome before (λ bytes. moments.Since view view
      (λ image sent. IsAhead (λ after. StandsForBook image total after) input (held_with total book held) (sent_now view) sent)))
  none_lasts None before view only stands = tt
  none_lasts (Some input) None view only stands = tt
  none_lasts (Some input) (Some bytes) view only stands =
      let S : Image → Type 0 = λ i. StandsForBook i total book in
      since_none view (λ image sent. IsAhead (λ after. StandsForBook image total after) input (held_with total book held)
      (sent_now view) sent)
      (λ image left. record {
        shown = [];
        more = [];
        few = omega arith;
        state = held_with total book held;
        first = hosted_none input;
        there = inl (subst S (sym (only image left)) stands);
        low = omega arith;
        high = omega arith;
      })

  pub none_costs : (o : Option (List ℕ)) (pieces pieces' reads syncs : ℕ)
      → IfSome o (λ input. CostsLines input (record { live = held_with total book held; reads = reads; syncs = syncs }) pieces pieces' reads
      syncs)
  none_costs None pieces pieces' reads syncs = tt
  none_costs (Some input) pieces pieces' reads syncs = record {
    front = [];
    rest = input;
    begins = record { split = refl; whole = inl (inl refl) };
    events = [];
    lines_are = sym (ap (λ l. filter says l) lines_none);
    frames = [];
    state = record { live = held_with total book held; reads = reads; syncs = syncs };
    happened = (refl, refl);
    groups = few_none (told []) pieces pieces' (ap (λ l. filter says l) lines_none);
    last = inl (refl, refl);
  }

-- behind any end but a fault of the disk calls may be made
pub sound_behind : {T S Fit Sound : Type 0} (cause : End → S → S → Type 0) (old new : S) (answer : Result T (LinesStop End)) → (Fit → Sound)
    → ((end : End) → cause end old new → end ≢ ends.DiskFault → Sound) → OnOk answer Fit
    → IfErr answer (λ stop. (runs.harms_of (λ end. Unit {0}) stop → ⊥) → Fit) → IfErr answer (runs.cause_of cause old new)
    → run_end answer ≢ ends.DiskFault → Sound
sound_behind {T} {S} {Fit} {Sound} cause old new (Ok v) sound caused fit otherwise why other = sound fit
sound_behind {T} {S} {Fit} {Sound} cause old new (Err (stop.Fault f)) sound caused fit otherwise why other = sound
    (otherwise (λ none. none))
sound_behind {T} {S} {Fit} {Sound} cause old new (Err (stop.Work end)) sound caused fit otherwise why other = caused end why other
