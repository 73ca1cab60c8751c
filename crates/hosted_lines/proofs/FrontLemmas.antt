-- Which lines of an input were answered, by lines that were given.
use Rattle.std.proofs.Common.{◌≡◌, ◌∙◌, ℕ, ◌≤◌, ◌⊎◌, List, [], ◌∷◌, ◌++◌, length, Option, ap, sym, subst, inl, inr, arith, append_assoc}
use Rattle.std.proofs.Common.{length-append}
use Rattle.std.specs.List.{filter, after_first}
use Rattle.std.proofs.lemmas.List.{append-nil}
use Rattle.chart_frames.specs.declared.frame.Frame.{Frame}
use Rattle.chart_service.specs.Serving.{told, unless_empty}
use Rattle.chart_world.specs.FrontLaws.{told_split, whole_joined}
use Rattle.chart_world.specs.Fronts.{says, BeginsWith, IsWhole, first_piece}
use Rattle.chart_world.specs.LineLaws.{lines_none, piece_ends, piece_line, pieces, told_behind}
use Rattle.chart_world.specs.Lines.{is_line_feed, lines}
use Rattle.line_runs.specs.Given.{AreBeforeWithin, AreFirstWithin, Given, IsNextWithin, Line, NextLineWithin, Pause, End}
use Rattle.live_service.specs.LiveReplies.{LiveState}
use Rattle.served_lines.specs.Turning.{lines_of}
use Rattle.served_lines.proofs.Carried.{lines_all, told_are}
use Rattle.served_lines.proofs.Reached.{first_of, no_lines}
use Rattle.hosted_lines.specs.Hosts.{Event, Happens, InRow, lines_in}
use Rattle.hosted_lines.specs.Input.{most_bytes}
use Rattle.hosted_lines.specs.Running.{FirstLines}

-- these are some first lines of the input, with pauses
abbrev pub AreFirst : List ℕ → List Given → Type 0
AreFirst = AreFirstWithin most_bytes

-- and this comes behind them
abbrev pub AreBefore : List ℕ → List Given → Given → Type 0
AreBefore = AreBeforeWithin most_bytes

-- a front of the input, and the lines in it
pub record Front (input : List ℕ) (all : List (Option (List ℕ))) : Type 0 where
  pub front : List ℕ
  pub rest : List ℕ
  pub begins : BeginsWith input front rest
  pub early : length front ≤ most_bytes
  pub told_is : told front ≡ all

pub front_so : (input : List ℕ) (all other : List (Option (List ℕ))) → all ≡ other → Front input all → Front input other
front_so input all other same f = let P : List (Option (List ℕ)) → Type 0 = λ l. Front input l in subst P same f

-- ---- with the next line

module _ (input front rest : List ℕ) (begins : BeginsWith input front rest) (early : length front ≤ most_bytes) where
  same_front : (all : List (Option (List ℕ))) → told front ≡ all → Front input all
  same_front all is = record { front = front; rest = rest; begins = begins; early = early; told_is = is }

  whole_of : (bytes : List ℕ) (line : Option (List ℕ)) (later : List (Option (List ℕ))) → IsWhole front ⊎ (bytes ≡ [])
      → lines bytes ≡ line ∷ later → IsWhole front
  whole_of bytes line later (inl whole) is = whole
  whole_of bytes line later (inr none) is = absurd (no_lines (sym (ap lines none ∙ lines_none) ∙ is))

  line_front : (line : Option (List ℕ)) → NextLineWithin most_bytes (length front) rest line → Front input (told front ++ unless_empty line)
  line_front line next =
      let first = first_piece rest in
      let whole = whole_of rest line next.later begins.whole next.lines_are in
      record {
        front = front ++ first;
        rest = after_first is_line_feed rest;
        begins = record {
          split = begins.split ∙ ap (λ l. front ++ l) (pieces rest) ∙ sym (append_assoc front first (after_first is_line_feed rest));
          whole = elim (piece_ends rest) [
            | inl ends ↦ inl (whole_joined front first whole ends)
            | inr none ↦ inr none
          ];
        };
        early = omega (arith, next.early, length-append front first);
        told_is = told_behind front first whole ∙ ap (λ l. told front ++ filter says l)
            (piece_line rest line (first_of rest line next.later next.lines_are));
      }

  more_front : (next : Given) → IsNextWithin most_bytes (length front) rest next → Front input (told front ++ lines_of next)
  more_front (Line at line) is = line_front line is.1
  more_front Pause is = same_front (told front ++ []) (sym (append-nil (told front)))
  more_front End is = same_front (told front ++ []) (sym (append-nil (told front)))

-- ---- the first of them

-- a part of a front is a front
part_begins : (input front rest piece behind : List ℕ) → BeginsWith input front rest → BeginsWith front piece behind
    → BeginsWith input piece (behind ++ rest)
part_begins input front rest piece behind all part = record {
  split = all.split ∙ ap (λ l. l ++ rest) part.split ∙ append_assoc piece behind rest;
  whole = elim part.whole [
    | inl whole ↦ inl whole
    | inr none ↦ elim all.whole [
      | inl whole ↦ inl (subst IsWhole (part.split ∙ ap (λ l. piece ++ l) none ∙ append-nil piece) whole)
      | inr end ↦ inr (ap (λ l. l ++ rest) none ∙ end)
    ]
  ];
}

-- what was told behind whole lines, or nothing
behind_told : (front rest : List ℕ) → IsWhole front ⊎ (rest ≡ []) → told (front ++ rest) ≡ told front ++ told rest
behind_told front rest (inl whole) = told_behind front rest whole
behind_told front rest (inr none) =
    ap (λ l. told (front ++ l)) none ∙ ap told (append-nil front) ∙ sym (append-nil (told front))
    ∙ ap (λ l. told front ++ l) (sym (ap (filter says) lines_none)) ∙ ap (λ l. told front ++ told l) (sym none)

-- the first lines, and those behind them up to the end of the input
pub record Place (input : List ℕ) (done left : List (Option (List ℕ))) : Type 0 where
  pub front : List ℕ
  pub rest : List ℕ
  pub begins : BeginsWith input front rest
  pub early : length front ≤ most_bytes
  pub done_are : told front ≡ done
  pub beyond : List (Option (List ℕ))
  pub left_are : told rest ≡ left ++ beyond

pub placed : (input : List ℕ) (done left : List (Option (List ℕ))) → Front input (done ++ left) → Place input done left
placed input done left f =
    let s = told_split (length f.front) f.front done left (omega arith) f.told_is in
    record {
      front = s.front;
      rest = s.rest ++ f.rest;
      begins = part_begins input f.front f.rest s.front s.rest f.begins s.begins;
      early = omega (arith, f.early, ap length s.begins.split, length-append s.front s.rest);
      done_are = s.first_are;
      beyond = told f.rest;
      left_are = behind_told s.rest f.rest (whole_behind s.front s.rest f.front s.begins.split f.begins.whole)
          ∙ ap (λ l. l ++ told f.rest) s.later_are;
    }
  where
    nothing_behind : (front piece : List ℕ) → front ++ piece ≡ [] → piece ≡ []
    nothing_behind [] piece none = none
    nothing_behind (b ∷ bs) piece none = absurd (cc (none))

    whole_part : (front piece : List ℕ) → IsWhole (front ++ piece) → IsWhole piece
    whole_part [] piece whole = whole
    whole_part (b ∷ bs) piece (inl none) = absurd (cc (none))
    whole_part (b ∷ bs) piece (inr ([], is)) = inl (nothing_behind bs piece (cc (is)))
    whole_part (b ∷ bs) piece (inr (x ∷ xs, is)) = whole_part bs piece (inr (xs, cc (is)))

    whole_behind : (front piece all : List ℕ) {rest : List ℕ} → all ≡ front ++ piece → IsWhole all ⊎ (rest ≡ [])
        → IsWhole piece ⊎ (rest ≡ [])
    whole_behind front piece all {rest} is (inl whole) = inl (whole_part front piece (subst IsWhole is whole))
    whole_behind front piece all {rest} is (inr none) = inr none

abbrev pub first_placed : (input : List ℕ) (events : List Event) (left : List (Option (List ℕ))) (frames : List Frame) (old new : LiveState)
    → InRow Happens old events frames new → Place input (lines_in events) left → FirstLines input frames old new
first_placed input events left frames old new happened p = record {
  front = p.front;
  rest = p.rest;
  begins = p.begins;
  early = p.early;
  hosted = record { events = events; lines_are = sym p.done_are; happened = happened };
}

-- what was given is a front of the input, and so it is with what comes next
pub given_front : (input : List ℕ) (given : List Given) (all : List (Option (List ℕ))) → lines_all given ≡ all → AreFirst input given
    → Front input all
given_front input given all is are =
    record {
      front = are.front;
      rest = are.rest;
      begins = are.begins;
      early = are.early;
      told_is = sym (told_are given are.front are.given_are) ∙ is;
    }

pub next_front : (input : List ℕ) (given : List Given) (next : Given) (all : List (Option (List ℕ)))
    → lines_all given ++ lines_of next ≡ all → AreBefore input given next → Front input all
next_front input given next all is are =
    let first = are.first in
    front_so input (told first.front ++ lines_of next) all (ap (λ l. l ++ lines_of next) (sym (told_are given first.front first.given_are))
    ∙ is)
    (more_front input first.front first.rest first.begins first.early next are.next_is)
