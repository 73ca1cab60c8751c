-- An event is done by one call, which sends nothing, and its frames are sent by another, which leaves all but the streams.
use Rattle.std.proofs.Common.{◌≡◌, ◌∙◌, ℕ, ◌+◌, ◌≤◌, List, [], ◌∷◌, ◌++◌, length, Option, Result, Ok, Err, IfSome, refl, ap, sym, subst}
use Rattle.std.proofs.Common.{inl, inr, arith, length-append}
use Rattle.std.specs.Prelude.{OnOk, IfErr}
use Rattle.std.proofs.lemmas.List.{append-nil}
use Rattle.block_disk.specs.Streams.{sent_after}
use Rattle.block_disk.specs.View.{Image, View, DiskKept, Now, Only, Passes, sent_now}
use Rattle.chart_frames.specs.declared.frame.Frame.{Frame}
use Rattle.chart_service.specs.MomentLaws.{through_by, through_then}
use Rattle.chart_service.specs.Moments.{Through}
use Rattle.chart_service.specs.Serving.{most_ahead}
use Rattle.chart_service.specs.State.{IsSound}
use Rattle.chart_service.specs.Stepping.{state_of}
use Rattle.live_service.specs.LiveReplies.{LiveState}
use Rattle.run_ends.specs.declared.ending.End.{End}
use Rattle.run_ends.specs.declared.ending.End.TheVariants.{NoMemory, SendFault}
use Rattle.series_book.specs.declared.one_series.Series.{Series}
use Rattle.stored_book.specs.Standing.{StandsForBook}
use Rattle.hosted_lines.specs.Doing.{Held, held_with}
use Rattle.hosted_lines.specs.Hosting.{Begun, DoesHost, FramesStop, HostCost, HostDone, HostMoment, HostStop, counted_with}
use Rattle.hosted_lines.specs.Hosts.{Costs, Event, Happens, HappensFor, InRow, groups_in, lines_in}
use Rattle.hosted_lines.specs.Lives.{spelled}
use Rattle.hosted_lines.proofs.FaultLemmas.{told_any}
use Rattle.hosted_lines.proofs.HostLemmas.{counted_at}
use Rattle.hosted_lines.proofs.RowLemmas.{row_one}

module _ (lines : List (Option (List ℕ))) (event : Event) (are : lines_in (event ∷ []) ≡ lines) (total : ℕ) (old : LiveState) where
  no_more : lines ≡ lines_in (event ∷ []) ++ []
  no_more = sym are ∙ sym (append-nil (lines_in (event ∷ [])))

  made_begun : (frames : List Frame) (new : LiveState) → Happens event frames old new → Begun lines frames old new
  made_begun frames new happens = record {
    events = event ∷ [];
    rest = [];
    split = no_more;
    happened = row_one Happens old new event frames happens;
  }

  -- ---- what it costs

  module _ (reads reads' syncs syncs' : ℕ) (costs : Costs event old reads reads' syncs syncs') where
    -- it failed
    pub made_failed : (groups : ℕ) → HostCost groups lines (counted_at old reads syncs) reads' syncs'
    made_failed groups = record {
      events = [];
      rest = lines;
      split = refl;
      frames = [];
      state = counted_at old reads syncs;
      happened = (refl, refl);
      few = omega arith;
      last = inr (record { event = event; later = []; next = no_more; costs = costs });
    }

    module _ (frames : List Frame) (held : Held) (book : List Series) (happens : Happens event frames old (held_with total book held)) where
      made_row : InRow HappensFor (counted_at old reads syncs) (event ∷ []) frames (counted_with total book held reads' syncs')
      made_row = row_one HappensFor (counted_at old reads syncs) (counted_with total book held reads' syncs') event frames
          (record { happens = happens; costs = costs })

      made_done : (image : Image) (before now : Option (List ℕ)) → StandsForBook image total book
          → IsSound (state_of book total held.sessions) → now ≡ sent_after (spelled frames) before
          → HostDone (groups_in (event ∷ [])) lines total (counted_at old reads syncs) image held reads' syncs' before now
      made_done image before now stands sound sent =
          record {
            frames = frames;
            book = book;
            stands = stands;
            sound = sound;
            events = event ∷ [];
            lines_are = are;
            happened = made_row;
            few = omega arith;
            sent = sent;
          }

      made_cost : HostCost (groups_in (event ∷ [])) lines (counted_at old reads syncs) reads' syncs'
      made_cost = record {
        events = event ∷ [];
        rest = [];
        split = no_more;
        frames = frames;
        state = counted_with total book held reads' syncs';
        happened = made_row;
        few = omega arith;
        last = inl (refl, refl);
      }

  -- ---- its frames are sent, or some of them

  module _ (frames : List Frame) (few : length frames ≤ most_ahead) (new : LiveState) (happens : Happens event frames old new) where
    all_moment : (from : ℕ) (image : Image) (count : ℕ) → StandsForBook image total new.state.book → from ≤ count
        → count ≤ from + length (spelled frames) → HostMoment lines total old from image count
    all_moment from image count stands low high = record {
      shown = [];
      more = frames;
      few = few;
      state = new;
      begun = made_begun frames new happens;
      stands = inl stands;
      low = omega (arith, low);
      high = high;
    }

    sending_moments : (from : ℕ) (mid view : View) → StandsForBook mid.image total new.state.book → from ≡ sent_now mid
        → Only mid.image (Now mid) → Passes mid view (Now mid) (λ count. (sent_now mid ≤ count) × (count ≤ sent_now view))
        → sent_now view ≤ sent_now mid + length (spelled frames) → Through mid view (HostMoment lines total old from)
    sending_moments from mid view stands same only sends most =
        let S : Image → Type 0 = λ i. StandsForBook i total new.state.book in
        through_by mid view (Now mid) (λ count. (sent_now mid ≤ count) × (count ≤ sent_now view)) (HostMoment lines total old from) sends
        (λ image count left sent. all_moment from image count (subst S (sym (only image left)) stands) (omega (arith, sent.0, same))
        (omega (arith, sent.1, most, same)))

    cut_stops : (image : Image) (before now : Option (List ℕ)) (end : End) → StandsForBook image total new.state.book
        → FramesStop frames before now end → HostStop lines total old image before now end
    cut_stops image before now NoMemory stands s =
        let B : List Frame → Type 0 = λ l. Begun lines l old new in
        record {
          shown = s.shown;
          more = s.later;
          few = omega (arith, few, ap length s.frames_are, length-append s.shown s.later);
          state = new;
          begun = subst B s.frames_are (made_begun frames new happens);
          stands = inl stands;
          sent = s.sent;
        }
    cut_stops image before now SendFault stands s =
        let B : List Frame → Type 0 = λ l. Begun lines l old new in
        record {
          shown = s.shown;
          last = s.last;
          more = s.later;
          few = omega (arith, few, ap length s.frames_are, length-append s.shown (s.last ∷ s.later));
          state = new;
          begun = subst B s.frames_are (made_begun frames new happens);
          stands = stands;
          between = s.between;
          whole = s.whole;
          part = s.part;
        }
    cut_stops image before now end stands s = absurd s

  pub made_sends : {T : Type 0} (frames : List Frame) → length frames ≤ most_ahead → (held held' : Held) → held' ≡ held
      → (book : List Series) → Happens event frames old (held_with total book held) → IsSound (state_of book total held.sessions)
      → (view mid new : View) (before between now : Option (List ℕ)) → StandsForBook mid.image total book
      → Through view mid (HostMoment lines total old (sent_now view)) → sent_now mid ≡ sent_now view → between ≡ before
      → Costs event old view.reads mid.reads view.syncs mid.syncs → DiskKept mid new → (result : Result T End)
      → OnOk result (now ≡ sent_after (spelled frames) between) → IfErr result (FramesStop frames between now)
      → Only mid.image (Now mid) → Passes mid new (Now mid) (λ count. (sent_now mid ≤ count) × (count ≤ sent_now new))
      → sent_now new ≤ sent_now mid + length (spelled frames)
      → DoesHost (groups_in (event ∷ [])) lines total old result view new held' before now
  made_sends {T} frames few held held' same book happens sound view mid new before between now stands made quiet unsent costs kept result
      whole stops only sends most =
      let S : Image → Type 0 = λ i. StandsForBook i total book in
      let H : Held → Type 0 = λ h. DoesHost (groups_in (event ∷ [])) lines total old result view new h before now in
      let R : ℕ → Type 0 = λ n. Costs event old view.reads n view.syncs new.syncs in
      let Y : ℕ → Type 0 = λ n. Costs event old view.reads mid.reads view.syncs n in
      let there : StandsForBook new.image total book = subst S (sym kept.image) stands in
      let cost : Costs event old view.reads new.reads view.syncs new.syncs = subst R (sym kept.reads) (subst Y (sym kept.syncs) costs) in
      let moments = told_any (through_then view mid new (HostMoment lines total old (sent_now view)) made
      (sending_moments frames few (held_with total book held) happens (sent_now view) mid new stands (sym quiet) only sends most))
      before in
      subst H (sym same) (by result whole stops there moments cost)
    where
      by : (r : Result T End) → OnOk r (now ≡ sent_after (spelled frames) between) → IfErr r (FramesStop frames between now)
          → StandsForBook new.image total book → IfSome before (λ bytes. Through view new (HostMoment lines total old (sent_now view)))
          → Costs event old view.reads new.reads view.syncs new.syncs
          → DoesHost (groups_in (event ∷ [])) lines total old r view new held before now
      by (Ok v) whole stops there moments cost = record {
        done = made_done view.reads new.reads view.syncs new.syncs cost frames held book happens new.image before now there sound (whole
            ∙ ap (sent_after (spelled frames)) unsent);
        stops = tt;
        moments = moments;
        cost = made_cost view.reads new.reads view.syncs new.syncs cost frames held book happens;
      }
      by (Err end) whole stops there moments cost =
          let P : Option (List ℕ) → Type 0 = λ b. FramesStop frames b now end in
          record {
            done = tt;
            stops = cut_stops frames few (held_with total book held) happens new.image before now end there (subst P unsent stops);
            moments = moments;
            cost = made_cost view.reads new.reads view.syncs new.syncs cost frames held book happens;
          }
