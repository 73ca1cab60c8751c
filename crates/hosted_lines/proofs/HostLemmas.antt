-- What calls of a host do, one after the other.
use Rattle.std.proofs.Common.{◌≡◌, ◌∙◌, ℕ, ◌+◌, ◌≤◌, List, [], ◌∷◌, ◌++◌, length, Option, None, Some, Result, Ok, Err, IfSome, refl, ap}
use Rattle.std.proofs.Common.{sym, subst, inl, inr, arith, append_assoc}
use Rattle.std.proofs.lemmas.List.{append-nil}
use Rattle.block_disk.specs.View.{Image, View, sent_now}
use Rattle.block_disk.specs.SentLaws.{sent_is, sent_none}
use Rattle.chart_frames.specs.declared.frame.Frame.{Frame}
use Rattle.chart_service.specs.MomentLaws.{through_none, through_so, through_then}
use Rattle.chart_service.specs.Moments.{Through}
use Rattle.chart_service.specs.State.{IsSound}
use Rattle.chart_service.specs.Stepping.{state_of}
use Rattle.live_service.specs.LiveReplies.{LiveState}
use Rattle.run_ends.specs.declared.ending.End.{End}
use Rattle.run_ends.specs.declared.ending.End.TheVariants.{NoMemory, SendFault, DiskFault}
use Rattle.series_book.specs.declared.one_series.Series.{Series}
use Rattle.stored_book.specs.Standing.{StandsForBook}
use Rattle.hosted_lines.specs.Doing.{AreFirst, CountsSent, DoesLines, Held, LinesDone, LinesMoment, LinesRead, LinesStop, held_with}
use Rattle.hosted_lines.specs.Hosting.{Begun, DoesHost, HostCost, HostDone, HostMoment, HostStop, counted_with}
use Rattle.hosted_lines.specs.Hosts.{Counted, Event, Happens, HappensFor, InRow, answer, groups_in, lines_in, push}
use Rattle.hosted_lines.specs.Lives.{LivesBy, spelled, lines_in as live_lines}
use Rattle.hosted_lines.proofs.AmidLemmas.{amid_on}
use Rattle.hosted_lines.proofs.CountLemmas.{groups_joined, groups_of_live}
use Rattle.hosted_lines.proofs.EventLemmas.{length_more, sent_then}
use Rattle.hosted_lines.proofs.FaultLemmas.{told_any}
use Rattle.hosted_lines.proofs.RowLemmas.{ArePassed, lines_joined, lines_of_live, of_live, row_of_live, row_of_reads, row_plain, row_then}

abbrev pub counted_at : LiveState → ℕ → ℕ → Counted
counted_at live reads syncs = record { live = live; reads = reads; syncs = syncs }

abbrev pub begun_none : (lines : List (Option (List ℕ))) (at : LiveState) → Begun lines [] at at
begun_none lines at = record { events = []; rest = lines; split = refl; happened = (refl, refl) }

-- ---- what a live service does of a line

module _ (lines : List (Option (List ℕ))) (passed : ArePassed lines) (old : LiveState) where
  passed_first : (first all : List (Option (List ℕ))) → AreFirst lines first → all ≡ first → ArePassed all
  passed_first first all (inl none) is = subst ArePassed (sym (is ∙ none)) tt
  passed_first first all (inr same) is = subst ArePassed (sym (is ∙ same)) passed

  begun_live : (first : List (Option (List ℕ))) (frames : List Frame) (new : LiveState) → AreFirst lines first
      → LivesBy first frames old new → Begun lines frames old new
  begun_live first frames new (inl none) lives = record {
    events = of_live lives.events;
    rest = lines;
    split = ap (λ l. l ++ lines) (sym (lines_of_live lives.events ∙ lives.lines_are ∙ none));
    happened = row_of_live old new lives.events frames
        (passed_first first (live_lines lives.events) (inl none) lives.lines_are) lives.lived;
  }
  begun_live first frames new (inr all) lives = record {
    events = of_live lives.events;
    rest = [];
    split = sym (append-nil lines) ∙ ap (λ l. l ++ []) (sym (lines_of_live lives.events ∙ lives.lines_are ∙ all));
    happened = row_of_live old new lives.events frames (passed_first first (live_lines lives.events) (inr all) lives.lines_are) lives.lived;
  }

  live_done : (total : ℕ) (image : Image) (held : Held) (from to syncs syncs' : ℕ) (before now : Option (List ℕ)) → syncs' ≡ syncs
      → LinesDone lines total old image held from to before now
      → HostDone 0 lines total (counted_at old from syncs) image held to syncs' before now
  live_done total image held from to syncs syncs' before now same d =
      let N : ℕ → Type 0 = λ n. InRow HappensFor (counted_at old from syncs) (of_live d.reads.events) d.frames
      (counted_with total d.book held to n) in
      record {
        frames = d.frames;
        book = d.book;
        stands = d.stands;
        sound = d.sound;
        events = of_live d.reads.events;
        lines_are = lines_of_live d.reads.events ∙ d.reads.lines_are;
        happened = subst N (sym same) (row_of_reads syncs old (held_with total d.book held) d.reads.events d.frames from to
            (passed_first lines (live_lines d.reads.events) (inr refl) d.reads.lines_are) d.reads.reads);
        few = omega (arith, groups_of_live d.reads.events);
        sent = d.sent;
      }

  live_stop : (total : ℕ) (image : Image) (before now : Option (List ℕ)) (end : End) → LinesStop lines total old image before now end
      → HostStop lines total old image before now end
  live_stop total image before now NoMemory s = record {
    shown = s.shown;
    more = s.more;
    few = omega (arith, s.few);
    state = s.state;
    begun = begun_live s.first (s.shown ++ s.more) s.state s.are_first s.lives;
    stands = inl s.stands;
    sent = s.sent;
  }
  live_stop total image before now SendFault s = record {
    shown = s.shown;
    last = s.last;
    more = [];
    few = omega arith;
    state = s.state;
    begun = begun_live s.first (s.shown ++ s.last ∷ []) s.state s.are_first s.lives;
    stands = s.stands;
    between = s.between;
    whole = s.whole;
    part = s.part;
  }
  live_stop total image before now DiskFault s =
      record { frames = s.frames; state = s.state; begun = begun_live s.first s.frames s.state s.are_first s.lives; sent = s.sent }
  live_stop total image before now end s = absurd s

  live_moment : (total from : ℕ) (image : Image) (sent : ℕ) → LinesMoment lines total old from image sent
      → HostMoment lines total old from image sent
  live_moment total from image sent m = record {
    shown = m.shown;
    more = m.more;
    few = omega (arith, m.few);
    state = m.state;
    begun = begun_live m.first (m.shown ++ m.more) m.state m.are_first m.lives;
    stands = inl m.stands;
    low = m.low;
    high = m.high;
  }

  live_cost : (from to syncs syncs' : ℕ) → syncs' ≡ syncs → LinesRead lines old from to
      → HostCost 0 lines (counted_at old from syncs) to syncs'
  live_cost from to syncs syncs' same r =
      let few : groups_in (of_live r.answered.events) ≤ 0 = omega (arith, groups_of_live r.answered.events) in
      let row = row_of_reads syncs old r.state r.answered.events r.frames from r.count
      (passed_first r.first (live_lines r.answered.events) r.are_first r.answered.lines_are) r.answered.reads in
      elim r.are_first [
        | inl none ↦ record {
          events = of_live r.answered.events;
          rest = lines;
          split = ap (λ l. l ++ lines) (sym (lines_of_live r.answered.events ∙ r.answered.lines_are ∙ none));
          frames = r.frames;
          state = counted_at r.state r.count syncs;
          happened = row;
          few = few;
          last = elim r.last [
            | inl done ↦ inl (done, same)
            | inr failed ↦ elim failed [
              | inl line ↦ inr (record {
                event = answer line.0;
                later = [];
                next = line.2;
                costs = record { reads_few = line.3; syncs_few = omega (arith, same) };
              })
              | inr pushed ↦ inr (record {
                event = push;
                later = lines;
                next = refl;
                costs = record { reads_few = pushed; syncs_few = same };
              })
            ]
          ];
        }
        | inr all ↦ record {
          events = of_live r.answered.events;
          rest = [];
          split = sym (append-nil lines) ∙ ap (λ l. l ++ []) (sym (lines_of_live r.answered.events ∙ r.answered.lines_are ∙ all));
          frames = r.frames;
          state = counted_at r.state r.count syncs;
          happened = row;
          few = few;
          last = elim r.last [
            | inl done ↦ inl (done, same)
            | inr failed ↦ elim failed [
              | inl line ↦ let no : [] ≡ line.0 ∷ [] = sym line.1 ∙ all ∙ line.2 in absurd (cc (no))
              | inr pushed ↦ inr (record { event = push; later = []; next = refl; costs = record { reads_few = pushed; syncs_few = same } })
            ]
          ];
        }
      ]

live_moments : (lines : List (Option (List ℕ))) → ArePassed lines
    → (total : ℕ) (old : LiveState) (view view' : View) (before : Option (List ℕ))
    → IfSome before (λ bytes. Through view view' (LinesMoment lines total old (sent_now view)))
    → IfSome before (λ bytes. Through view view' (HostMoment lines total old (sent_now view)))
live_moments lines passed total old view view' None m = tt
live_moments lines passed total old view view' (Some bytes) m =
    through_so view view' (LinesMoment lines total old (sent_now view)) (HostMoment lines total old (sent_now view))
    (λ image count one. live_moment lines passed old total (sent_now view) image count one) m

-- a call that syncs nothing
pub live_does : {T : Type 0} (lines : List (Option (List ℕ))) → ArePassed lines
    → (total : ℕ) (old : LiveState) (result : Result T End) (view view' : View) (held : Held) (before now : Option (List ℕ))
    → view'.syncs ≡ view.syncs → DoesLines lines total old result view view' held before now
    → DoesHost 0 lines total old result view view' held before now
live_does {T} lines passed total old (Ok v) view view' held before now same d = record {
  done = live_done lines passed old total view'.image held view.reads view'.reads view.syncs view'.syncs before now same d.done;
  stops = tt;
  moments = live_moments lines passed total old view view' before d.moments;
  cost = live_cost lines passed old view.reads view'.reads view.syncs view'.syncs same d.reads;
}
live_does {T} lines passed total old (Err end) view view' held before now same d = record {
  done = tt;
  stops = live_stop lines passed old total view'.image before now end d.stops;
  moments = live_moments lines passed total old view view' before d.moments;
  cost = live_cost lines passed old view.reads view'.reads view.syncs view'.syncs same d.reads;
}

-- ---- one call behind another

module _ (groups : ℕ) (lines more : List (Option (List ℕ))) (total : ℕ) (old : Counted) (image : Image) (held : Held) (reads syncs : ℕ)
    (before between : Option (List ℕ)) (d : HostDone groups lines total old image held reads syncs before between) where
  abbrev pub reached : Counted
  reached = counted_with total d.book held reads syncs

  split_then : (events : List Event) (rest : List (Option (List ℕ))) → more ≡ lines_in events ++ rest
      → lines ++ more ≡ lines_in (d.events ++ events) ++ rest
  split_then events rest split =
      ap (λ l. l ++ more) (sym d.lines_are)
      ∙ ap (λ l. lines_in d.events ++ l) split
      ∙ sym (append_assoc (lines_in d.events) (lines_in events) rest)
      ∙ ap (λ l. l ++ rest) (sym (lines_joined d.events events))

  abbrev begun_then : (frames : List Frame) (new : LiveState) → Begun more frames reached.live new
      → Begun (lines ++ more) (d.frames ++ frames) old.live new
  begun_then frames new b = record {
    events = d.events ++ b.events;
    rest = b.rest;
    split = split_then b.events b.rest b.split;
    happened = row_then Happens old.live reached.live new d.events b.events d.frames frames
        (row_plain old reached d.events d.frames d.happened) b.happened;
  }

  abbrev begun_row : (shown others : List Frame) (new : LiveState) → Begun more (shown ++ others) reached.live new
      → Begun (lines ++ more) ((d.frames ++ shown) ++ others) old.live new
  begun_row shown others new b =
      let whole = begun_then (shown ++ others) new b in
      let P : List Frame → Type 0 = λ l. InRow Happens old.live whole.events l new in
      record {
        events = whole.events;
        rest = b.rest;
        split = whole.split;
        happened = subst P (sym (append_assoc d.frames shown others)) whole.happened;
      }

  done_then : (groups' : ℕ) (image' : Image) (held' : Held) (reads' syncs' : ℕ) (now : Option (List ℕ))
      → HostDone groups' more total reached image' held' reads' syncs' between now
      → HostDone (groups + groups') (lines ++ more) total old image' held' reads' syncs' before now
  done_then groups' image' held' reads' syncs' now e = record {
    frames = d.frames ++ e.frames;
    book = e.book;
    stands = e.stands;
    sound = e.sound;
    events = d.events ++ e.events;
    lines_are = lines_joined d.events e.events ∙ ap (λ l. l ++ lines_in e.events) d.lines_are ∙ ap (λ l. lines ++ l) e.lines_are;
    happened = row_then HappensFor old reached (counted_with total e.book held' reads' syncs') d.events e.events d.frames e.frames
        d.happened e.happened;
    few = omega (arith, groups_joined d.events e.events, d.few, e.few);
    sent = sent_then d.frames e.frames before between now d.sent e.sent;
  }

  stop_then : (image' : Image) (now : Option (List ℕ)) (end : End) → HostStop more total reached.live image' between now end
      → HostStop (lines ++ more) total old.live image' before now end
  stop_then image' now NoMemory s = record {
    shown = d.frames ++ s.shown;
    more = s.more;
    few = s.few;
    state = s.state;
    begun = begun_row s.shown s.more s.state s.begun;
    stands = s.stands;
    sent = sent_then d.frames s.shown before between now d.sent s.sent;
  }
  stop_then image' now SendFault s = record {
    shown = d.frames ++ s.shown;
    last = s.last;
    more = s.more;
    few = s.few;
    state = s.state;
    begun = begun_row s.shown (s.last ∷ s.more) s.state s.begun;
    stands = s.stands;
    between = s.between;
    whole = sent_then d.frames s.shown before between s.between d.sent s.whole;
    part = s.part;
  }
  stop_then image' now DiskFault s = record {
    frames = d.frames ++ s.frames;
    state = s.state;
    begun = begun_then s.frames s.state s.begun;
    sent = sent_then d.frames s.frames before between now d.sent s.sent;
  }
  stop_then image' now end s = absurd s

  moment_then : (sent sent' : ℕ) (image' : Image) (count : ℕ) → sent' ≡ sent + length (spelled d.frames)
      → HostMoment more total reached.live sent' image' count → HostMoment (lines ++ more) total old.live sent image' count
  moment_then sent sent' image' count counted m = record {
    shown = d.frames ++ m.shown;
    more = m.more;
    few = m.few;
    state = m.state;
    begun = begun_row m.shown m.more m.state m.begun;
    stands = m.stands;
    low = omega (arith, m.low, counted, length_more d.frames m.shown);
    high = omega (
      arith,
      m.high,
      counted,
      length_more d.frames (m.shown ++ m.more),
      ap (λ l. length (spelled l)) (append_assoc d.frames m.shown m.more),
    );
  }

  cost_then : (groups' reads' syncs' : ℕ) → HostCost groups' more reached reads' syncs'
      → HostCost (groups + groups') (lines ++ more) old reads' syncs'
  cost_then groups' reads' syncs' c = record {
    events = d.events ++ c.events;
    rest = c.rest;
    split = split_then c.events c.rest c.split;
    frames = d.frames ++ c.frames;
    state = c.state;
    happened = row_then HappensFor old reached c.state d.events c.events d.frames c.frames d.happened c.happened;
    few = omega (arith, groups_joined d.events c.events, d.few, c.few);
    last = c.last;
  }

-- ---- more lines stand behind those that are answered

abbrev begun_wide : (lines more : List (Option (List ℕ))) (frames : List Frame) (old new : LiveState) → Begun lines frames old new
    → Begun (lines ++ more) frames old new
begun_wide lines more frames old new b = record {
  events = b.events;
  rest = b.rest ++ more;
  split = ap (λ l. l ++ more) b.split ∙ append_assoc (lines_in b.events) b.rest more;
  happened = b.happened;
}

pub stop_wide : (lines more : List (Option (List ℕ))) (total : ℕ) (old : LiveState) (image : Image) (before now : Option (List ℕ))
    (end : End) → HostStop lines total old image before now end → HostStop (lines ++ more) total old image before now end
stop_wide lines more total old image before now NoMemory s = record {
  shown = s.shown;
  more = s.more;
  few = s.few;
  state = s.state;
  begun = begun_wide lines more (s.shown ++ s.more) old s.state s.begun;
  stands = amid_on (λ book. StandsForBook image total book) s.more s.state s.begun.rest more s.stands;
  sent = s.sent;
}
stop_wide lines more total old image before now SendFault s = record {
  shown = s.shown;
  last = s.last;
  more = s.more;
  few = s.few;
  state = s.state;
  begun = begun_wide lines more (s.shown ++ s.last ∷ s.more) old s.state s.begun;
  stands = s.stands;
  between = s.between;
  whole = s.whole;
  part = s.part;
}
stop_wide lines more total old image before now DiskFault s =
    record { frames = s.frames; state = s.state; begun = begun_wide lines more s.frames old s.state s.begun; sent = s.sent }
stop_wide lines more total old image before now end s = absurd s

pub moment_wide : (lines more : List (Option (List ℕ))) (total : ℕ) (old : LiveState) (from : ℕ) (image : Image) (sent : ℕ)
    → HostMoment lines total old from image sent → HostMoment (lines ++ more) total old from image sent
moment_wide lines more total old from image sent m = record {
  shown = m.shown;
  more = m.more;
  few = m.few;
  state = m.state;
  begun = begun_wide lines more (m.shown ++ m.more) old m.state m.begun;
  stands = amid_on (λ book. StandsForBook image total book) m.more m.state m.begun.rest more m.stands;
  low = m.low;
  high = m.high;
}

pub cost_wide : (groups : ℕ) (lines more : List (Option (List ℕ))) (old : Counted) (reads syncs : ℕ) → HostCost groups lines old reads syncs
    → HostCost groups (lines ++ more) old reads syncs
cost_wide groups lines more old reads syncs c = record {
  events = c.events;
  rest = c.rest ++ more;
  split = ap (λ l. l ++ more) c.split ∙ append_assoc (lines_in c.events) c.rest more;
  frames = c.frames;
  state = c.state;
  happened = c.happened;
  few = c.few;
  last = elim c.last [
    | inl done ↦ inl done
    | inr failed ↦ inr (record {
      event = failed.event;
      later = failed.later ++ more;
      next = ap (λ l. l ++ more) failed.next ∙ append_assoc (lines_in (failed.event ∷ [])) failed.later more;
      costs = failed.costs;
    })
  ];
}

pub moments_wide : (lines more : List (Option (List ℕ))) (total : ℕ) (old : LiveState) (view view' : View) (before : Option (List ℕ))
    → IfSome before (λ bytes. Through view view' (HostMoment lines total old (sent_now view)))
    → IfSome before (λ bytes. Through view view' (HostMoment (lines ++ more) total old (sent_now view)))
moments_wide lines more total old view view' None m = tt
moments_wide lines more total old view view' (Some bytes) m =
    through_so view view' (HostMoment lines total old (sent_now view)) (HostMoment (lines ++ more) total old (sent_now view))
    (λ image count one. moment_wide lines more total old (sent_now view) image count one) m

-- a call that failed, with more lines behind its own
pub fails_wide : {T U : Type 0} (groups : ℕ) (lines more : List (Option (List ℕ))) (total : ℕ) (old : LiveState) (end : End)
    (view view' : View) (held : Held) (before now : Option (List ℕ))
    → DoesHost {T = T} groups lines total old (Err end) view view' held before now
    → DoesHost {T = U} groups (lines ++ more) total old (Err end) view view' held before now
fails_wide {T} {U} groups lines more total old end view view' held before now d = record {
  done = tt;
  stops = stop_wide lines more total old view'.image before now end d.stops;
  moments = moments_wide lines more total old view view' before d.moments;
  cost = cost_wide groups lines more (counted_at old view.reads view.syncs) view'.reads view'.syncs d.cost;
}

-- ---- both

moments_then : (groups : ℕ) (lines more : List (Option (List ℕ))) (total : ℕ) (old : LiveState) (held : Held) (view mid new : View)
    (before between : Option (List ℕ)) (d : HostDone groups lines total
    (counted_at old view.reads view.syncs) mid.image held mid.reads mid.syncs before between) → CountsSent before view
    → CountsSent between mid
    → IfSome before (λ bytes. Through view mid (HostMoment lines total old (sent_now view)))
    → IfSome between (λ bytes. Through mid new (HostMoment more total (held_with total d.book held) (sent_now mid)))
    → IfSome before (λ bytes. Through view new (HostMoment (lines ++ more) total old (sent_now view)))
moments_then groups lines more total old held view mid new None between d begins counts first second = tt
moments_then groups lines more total old held view mid new (Some sent) None d begins counts first second = let no = d.sent in
    absurd (cc (no))
moments_then groups lines more total old held view mid new (Some sent) (Some all) d begins counts first second =
    let counted = sent_is sent (spelled d.frames) (Some all) (sent_now view) (sent_now mid) begins d.sent counts in
    through_then view mid new (HostMoment (lines ++ more) total old (sent_now view))
    (through_so view mid (HostMoment lines total old (sent_now view)) (HostMoment (lines ++ more) total old (sent_now view))
    (λ image count one. moment_wide lines more total old (sent_now view) image count one) first)
    (through_so mid new (HostMoment more total (held_with total d.book held) (sent_now mid))
    (HostMoment (lines ++ more) total old (sent_now view))
    (λ image count m. moment_then groups lines more total (counted_at old view.reads view.syncs) mid.image held mid.reads mid.syncs
    (Some sent) (Some all) d (sent_now view) (sent_now mid) image count counted m) second)

pub host_then : {T : Type 0} (groups groups' : ℕ) (lines more : List (Option (List ℕ))) (total : ℕ) (old : LiveState) (held held' : Held)
    (view mid new : View) (before between now : Option (List ℕ))
    (d : HostDone groups lines total (counted_at old view.reads view.syncs) mid.image held mid.reads mid.syncs before between)
    → CountsSent before view → CountsSent between mid
    → IfSome before (λ bytes. Through view mid (HostMoment lines total old (sent_now view)))
    → (result : Result T End) → DoesHost groups' more total (held_with total d.book held) result mid new held' between now
    → DoesHost (groups + groups') (lines ++ more) total old result view new held' before now
host_then {T} groups groups' lines more total old held held' view mid new before between now d begins counts first (Ok v) second = record {
  done = done_then groups lines more total (counted_at old view.reads view.syncs) mid.image held mid.reads mid.syncs before between d
      groups' new.image held' new.reads new.syncs now second.done;
  stops = tt;
  moments = moments_then groups lines more total old held view mid new before between d begins counts first second.moments;
  cost = cost_then groups lines more total (counted_at old view.reads view.syncs) mid.image held mid.reads mid.syncs before between d
      groups' new.reads new.syncs second.cost;
}
host_then {T} groups groups' lines more total old held held' view mid new before between now d begins counts first
    (Err end) second = record {
      done = tt;
      stops = stop_then groups lines more total (counted_at old view.reads view.syncs) mid.image held mid.reads mid.syncs before between d
          new.image now end second.stops;
      moments = moments_then groups lines more total old held view mid new before between d begins counts first second.moments;
      cost = cost_then groups lines more total (counted_at old view.reads view.syncs) mid.image held mid.reads mid.syncs before between d
          groups' new.reads new.syncs second.cost;
    }

-- nothing is done
pub none_hosts : {T : Type 0} (groups : ℕ) (v : T) (total : ℕ) (book : List Series) (held : Held) (at : View) (before : Option (List ℕ))
    → StandsForBook at.image total book → IsSound (state_of book total held.sessions)
    → DoesHost {T = T} groups [] total (held_with total book held) (Ok v) at at held before before
none_hosts {T} groups v total book held at before stands sound = record {
  done = record {
    frames = [];
    book = book;
    stands = stands;
    sound = sound;
    events = [];
    lines_are = refl;
    happened = (refl, refl);
    few = omega arith;
    sent = sent_none before;
  };
  stops = tt;
  moments = told_any (through_none at (HostMoment [] total (held_with total book held) (sent_now at))) before;
  cost = record {
    events = [];
    rest = [];
    split = refl;
    frames = [];
    state = counted_with total book held at.reads at.syncs;
    happened = (refl, refl);
    few = omega arith;
    last = inl (refl, refl);
  };
}

pub lines_so : {T : Type 0} (groups : ℕ) (lines other : List (Option (List ℕ))) (total : ℕ) (old : LiveState) (result : Result T End)
    (view view' : View) (held : Held) (before now : Option (List ℕ)) → lines ≡ other
    → DoesHost groups lines total old result view view' held before now → DoesHost groups other total old result view view' held before now
lines_so {T} groups lines other total old result view view' held before now same does =
    let P : List (Option (List ℕ)) → Type 0 = λ l. DoesHost groups l total old result view view' held before now in subst P same does
