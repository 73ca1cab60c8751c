-- Events of a host in a row, their lines and their frames.
use Rattle.std.proofs.Common.{◌≡◌, ◌∙◌, ℕ, List, [], ◌∷◌, ◌++◌, Option, Some, refl, ap, sym, subst, arith, append_assoc}
use Rattle.std.specs.Prelude.{⊤}
use Rattle.std.proofs.lemmas.List.{append-nil}
use Rattle.chart_frames.specs.declared.frame.Frame.{Frame}
use Rattle.chart_service.specs.Serving.{unless_empty}
use Rattle.live_service.specs.LiveReplies.{LiveState}
use Rattle.hosted_lines.specs.Hosts.{Counted, Event, Happens, HappensFor, InRow, IsPassed, answer, group, lines_in, push, report, sweep}
use Rattle.hosted_lines.specs.Lives.{Event as LiveEvent, Lives, answer as answered, lines_in as live_lines, push as pushed}
use Rattle.hosted_lines.specs.Reads.{ReadsInTurn}

module _ {X : Type 0} (happens : Event → List Frame → X → X → Type 0) where
  -- events behind others do what both do
  pub row_then : (old mid new : X) (first later : List Event) (frames more : List Frame) → InRow happens old first frames mid
      → InRow happens mid later more new → InRow happens old (first ++ later) (frames ++ more) new
  row_then old mid new [] later frames more one two =
      let P : X → Type 0 = λ x. InRow happens x later more new in
      let F : List Frame → Type 0 = λ f. InRow happens old later (f ++ more) new in
      subst F (sym one.0) (subst P one.1 two)
  row_then old mid new (event ∷ events) later frames more one two = record {
    first = one.first;
    between = one.between;
    happens = one.happens;
    more = one.more ++ more;
    later = row_then one.between mid new events later one.more more one.later two;
    frames_are = ap (λ f. f ++ more) one.frames_are ∙ append_assoc one.first one.more more;
  }

  pub row_one : (old new : X) (event : Event) (frames : List Frame) → happens event frames old new
      → InRow happens old (event ∷ []) frames new
  row_one old new event frames one =
      record { first = frames; between = new; happens = one; more = []; later = (refl, refl); frames_are = sym (append-nil frames) }

-- without what they cost
pub row_plain : (old new : Counted) (events : List Event) (frames : List Frame) → InRow HappensFor old events frames new
    → InRow Happens old.live events frames new.live
row_plain old new [] frames row = (row.0, ap (λ (c : Counted). c.live) row.1)
row_plain old new (event ∷ later) frames row = record {
  first = row.first;
  between = row.between.live;
  happens = row.happens.happens;
  more = row.more;
  later = row_plain row.between new later row.more row.later;
  frames_are = row.frames_are;
}

pub lines_joined : (first later : List Event) → lines_in (first ++ later) ≡ lines_in first ++ lines_in later
lines_joined [] later = refl
lines_joined (answer line ∷ events) later = ap (λ l. line ∷ l) (lines_joined events later)
lines_joined (report line ∷ events) later = ap (λ l. Some line ∷ l) (lines_joined events later)
lines_joined (sweep line ∷ events) later = ap (λ l. Some line ∷ l) (lines_joined events later)
lines_joined (group lines ∷ events) later =
    ap (λ l. lines ++ l) (lines_joined events later) ∙ sym (append_assoc lines (lines_in events) (lines_in later))
lines_joined (push ∷ events) later = lines_joined events later

-- ---- lines that are answered alone, and their pushes

-- none of them asks anything of the host alone
abbrev pub ArePassed : List (Option (List ℕ)) → Type 0
ArePassed [] = ⊤
ArePassed (line ∷ later) = IsPassed line × ArePassed later

pub passed_line : (line : List ℕ) → IsPassed (Some line) → ArePassed (unless_empty (Some line))
passed_line [] passed = tt
passed_line (byte ∷ bytes) passed = (passed, tt)

abbrev pub of_live : List LiveEvent → List Event
of_live [] = []
of_live (answered line ∷ later) = answer line ∷ of_live later
of_live (pushed ∷ later) = push ∷ of_live later

pub lines_of_live : (events : List LiveEvent) → lines_in (of_live events) ≡ live_lines events
lines_of_live [] = refl
lines_of_live (answered line ∷ later) = ap (λ l. line ∷ l) (lines_of_live later)
lines_of_live (pushed ∷ later) = lines_of_live later

pub row_of_live : (old new : LiveState) (events : List LiveEvent) (frames : List Frame) → ArePassed (live_lines events)
    → Lives old events frames new → InRow Happens old (of_live events) frames new
row_of_live old new [] [] passed lived = (refl, lived)
row_of_live old new [] (frame ∷ frames) passed lived = absurd lived
row_of_live old new (answered line ∷ later) [] passed lived = absurd lived
row_of_live old new (pushed ∷ later) [] passed lived = absurd lived
row_of_live old new (answered line ∷ later) (frame ∷ frames) passed lived = record {
  first = frame ∷ [];
  between = lived.0;
  happens = record { passed = passed.0; frame = frame; frames_are = refl; idle = lived.1; replied = lived.2 };
  more = frames;
  later = row_of_live lived.0 new later frames passed.1 lived.3;
  frames_are = refl;
}
row_of_live old new (pushed ∷ later) (frame ∷ frames) passed lived = record {
  first = frame ∷ [];
  between = lived.0;
  happens = record { frame = frame; frames_are = refl; pushed = lived.1 };
  more = frames;
  later = row_of_live lived.0 new later frames passed lived.2;
  frames_are = refl;
}

abbrev counted : LiveState → ℕ → ℕ → Counted
counted live reads syncs = record { live = live; reads = reads; syncs = syncs }

-- while the disk isn't synced
pub row_of_reads : (syncs : ℕ) (old new : LiveState) (events : List LiveEvent) (frames : List Frame) (from to : ℕ)
    → ArePassed (live_lines events) → ReadsInTurn old events frames new from to
    → InRow HappensFor (counted old from syncs) (of_live events) frames (counted new to syncs)
row_of_reads syncs old new [] [] from to passed row = (refl, (λ i. counted (row.0 i) (row.1 i) syncs))
row_of_reads syncs old new [] (frame ∷ frames) from to passed row = absurd row
row_of_reads syncs old new (answered line ∷ later) [] from to passed row = absurd row
row_of_reads syncs old new (pushed ∷ later) [] from to passed row = absurd row
row_of_reads syncs old new (answered line ∷ later) (frame ∷ frames) from to passed row = record {
  first = frame ∷ [];
  between = counted row.0 row.1 syncs;
  happens = record {
    happens = record { passed = passed.0; frame = frame; frames_are = refl; idle = row.2; replied = row.3 };
    costs = record { reads_few = row.4; syncs_few = omega arith };
  };
  more = frames;
  later = row_of_reads syncs row.0 new later frames row.1 to passed.1 row.5;
  frames_are = refl;
}
row_of_reads syncs old new (pushed ∷ later) (frame ∷ frames) from to passed row = record {
  first = frame ∷ [];
  between = counted row.0 row.1 syncs;
  happens = record {
    happens = record { frame = frame; frames_are = refl; pushed = row.2 };
    costs = record { reads_few = row.3; syncs_few = refl };
  };
  more = frames;
  later = row_of_reads syncs row.0 new later frames row.1 to passed row.4;
  frames_are = refl;
}
