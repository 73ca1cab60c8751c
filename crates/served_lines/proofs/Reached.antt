-- How far in its input a service is, by lines that were given.
use Rattle.std.proofs.Common.{◌≡◌, ◌≢◌, ◌∙◌, ℕ, ◌+◌, ◌^◌, ◌≤◌, ◌⊎◌, List, [], ◌∷◌, ◌++◌, length, true, false, Option, Some, refl, ap, sym}
use Rattle.std.proofs.Common.{subst, inl, inr, arith, append_assoc, length-append}
use Rattle.std.specs.List.{filter, after_first}
use Rattle.std.proofs.lemmas.List.{append-nil}
use Rattle.chart_world.specs.FrontLaws.{FrontOf, told_split, whole_joined}
use Rattle.chart_world.specs.Fronts.{says, BeginsWith, IsWhole, first_piece}
use Rattle.chart_world.specs.LineLaws.{lines_first, lines_none, piece_ends, piece_line, pieces, told_behind}
use Rattle.chart_world.specs.Lines.{is_line_feed, lines}
use Rattle.chart_world.specs.Reading.{Reading}
use Rattle.line_runs.specs.Given.{Given, IsNext, Line, NextLine, Pause, End}
use Rattle.chart_service.specs.Making.{Makes, AreMade}
use Rattle.chart_service.specs.Serving.{RepliesToAll, told, unless_empty}
use Rattle.chart_service.specs.State.{State}
use Rattle.chart_frames.specs.declared.frame.Frame.{Frame}
use Rattle.block_disk.specs.Streams.{sent_after}
use Rattle.chart_service.proofs.Progress.{PassesLines, Progress}
use Rattle.served_lines.specs.Turning.{lines_of}

-- a reader that has given so many bytes, with none pending
abbrev pub reading_at : ℕ → Reading
reading_at given = record {
  given = given;
  pending = [];
  taken = given;
  line = [];
  offset = 0;
  usable = true;
  ended = false;
  limit = 2 ^ 32;
}

nothing_behind : (front piece : List ℕ) → front ++ piece ≡ [] → piece ≡ []
nothing_behind [] piece none = none
nothing_behind (b ∷ bs) piece none = absurd (cc (none))

-- what ends as whole lines do ends so from any place on
whole_behind : (front piece : List ℕ) → IsWhole (front ++ piece) → IsWhole piece
whole_behind [] piece whole = whole
whole_behind (b ∷ bs) piece (inl none) = absurd (cc (none))
whole_behind (b ∷ bs) piece (inr ([], is)) = inl (nothing_behind bs piece (cc (is)))
whole_behind (b ∷ bs) piece (inr (x ∷ xs, is)) = whole_behind bs piece (inr (xs, cc (is)))

pub no_lines : {line : Option (List ℕ)} {later : List (Option (List ℕ))} → [] ≡ line ∷ later → ⊥
no_lines {line} {later} none = cc

-- a part of a front is a front
begins_in : (input front rest piece behind : List ℕ) → BeginsWith input front rest → BeginsWith front piece behind
    → BeginsWith input piece (behind ++ rest)
begins_in input front rest piece behind all part = record {
  split = all.split ∙ ap (λ l. l ++ rest) part.split ∙ append_assoc piece behind rest;
  whole = elim part.whole [
    | inl whole ↦ inl whole
    | inr none ↦ elim all.whole [
      | inl whole ↦ inl (subst IsWhole (part.split ∙ ap (λ l. piece ++ l) none ∙ append-nil piece) whole)
      | inr end ↦ inr (ap (λ l. l ++ rest) none ∙ end)
    ]
  ];
}

-- the first line stands before the others
pub first_of : (bytes : List ℕ) (line : Option (List ℕ)) (later : List (Option (List ℕ))) → lines bytes ≡ line ∷ later
    → lines bytes ≡ line ∷ lines (after_first is_line_feed bytes)
first_of bytes line later is =
    let some : bytes ≢ [] = λ none. absurd (no_lines (sym (ap lines none ∙ lines_none) ∙ is)) in
    let first = lines_first bytes some in
    first ∙ ap (λ l. l ∷ lines (after_first is_line_feed bytes)) (same_first (sym first ∙ is))
  where
    same_first : {a : Option (List ℕ)} {b : List (Option (List ℕ))} → a ∷ b ≡ line ∷ later → a ≡ line
    same_first {a} {b} same = cc

none_told : (bytes : List ℕ) → 1 ≤ length (told bytes) → 1 ≤ length bytes
none_told [] some = omega (arith, some, ap (λ l. length (filter says l)) lines_none)
none_told (b ∷ bs) some = omega arith

module _ (input front rest : List ℕ) (begins : BeginsWith input front rest) (early : length front ≤ 2 ^ 32)
    (done ahead : List (Option (List ℕ))) (told_is : told front ≡ done ++ ahead) where
  -- the place behind the first of the lines given
  abbrev pub place : FrontOf front done ahead
  place = told_split (length front) front done ahead (omega arith) told_is

  abbrev pub behind : List ℕ
  behind = place.rest ++ rest

  pub place_begins : BeginsWith input place.front behind
  place_begins = begins_in input front rest place.front place.rest begins place.begins

  place_length : length front ≡ length place.front + length place.rest
  place_length = omega (arith, ap length place.begins.split, length-append place.front place.rest)

  pub place_early : length place.front ≤ 2 ^ 32
  place_early = omega (arith, early, place_length)

  -- the first lines are answered
  abbrev pub reached : {S F : Type 0} (makes : Makes S F) (v w : S) (old state : State) (before now : Option (List ℕ)) (frames : List Frame)
      (text : List ℕ) → RepliesToAll old done frames state → AreMade makes v w done frames text → now ≡ sent_after text before
      → Progress (AreMade makes v w) input (Some behind) (length place.front) old state before now
  reached makes v w old state before now frames text replied made sent =
      let R : List (Option (List ℕ)) → Type 0 = λ l. RepliesToAll old l frames state in
      let M : List (Option (List ℕ)) → Type 0 = λ l. AreMade makes v w l frames text in
      record {
        rest = behind;
        told_rest = refl;
        front = place.front;
        begins = place_begins;
        counted = refl;
        early = place_early;
        text = text;
        answers = record { frames = frames; replied = subst R (sym place.first_are) replied; texts = subst M (sym place.first_are) made };
        sent = sent;
      }

  -- the lines that stand there, and what is given next
  record Stretch (all : List (Option (List ℕ))) : Type 0 where
    pub piece : List ℕ
    pub later : List ℕ
    pub here : BeginsWith behind piece later
    pub told_piece : told piece ≡ all
    pub within : length place.front + length piece ≤ 2 ^ 32

  no_line : Stretch ahead
  no_line = record {
    piece = place.rest;
    later = rest;
    here = record {
      split = refl;
      whole = elim begins.whole [
        | inl whole ↦ inl (whole_behind place.front place.rest (subst IsWhole place.begins.split whole))
        | inr none ↦ inr none
      ];
    };
    told_piece = place.later_are;
    within = omega (arith, early, place_length);
  }

  one_line : (line : Option (List ℕ)) → NextLine (length front) rest line → Stretch (ahead ++ unless_empty line)
  one_line line next = by (whole_of rest begins.whole next.lines_are)
    where
      whole_of : (bytes : List ℕ) → IsWhole front ⊎ (bytes ≡ []) → lines bytes ≡ line ∷ next.later → IsWhole front
      whole_of bytes (inl whole) is = whole
      whole_of bytes (inr none) is = absurd (no_lines (sym (ap lines none ∙ lines_none) ∙ is))

      lines_behind : lines rest ≡ line ∷ lines (after_first is_line_feed rest)
      lines_behind = first_of rest line next.later next.lines_are

      by : IsWhole front → Stretch (ahead ++ unless_empty line)
      by whole =
          let first = first_piece rest in
          let here = whole_behind place.front place.rest (subst IsWhole place.begins.split whole) in
          record {
            piece = place.rest ++ first;
            later = after_first is_line_feed rest;
            here = record {
              split = ap (λ l. place.rest ++ l) (pieces rest) ∙ sym (append_assoc place.rest first (after_first is_line_feed rest));
              whole = elim (piece_ends rest) [
                | inl ends ↦ inl (whole_joined place.rest first here ends)
                | inr none ↦ inr none
              ];
            };
            told_piece = told_behind place.rest first here
                ∙ ap (λ l. l ++ told first) place.later_are ∙ ap (λ l. ahead ++ filter says l) (piece_line rest line lines_behind);
            within = omega (arith, next.early, place_length, length-append place.rest first);
          }

  stretch : (next : Given) → IsNext (length front) rest next → Stretch (ahead ++ lines_of next)
  stretch (Line at line) is = one_line line is.1
  stretch Pause is = let T : List (Option (List ℕ)) → Type 0 = λ l. Stretch l in subst T (sym (append-nil ahead)) no_line
  stretch End is = let T : List (Option (List ℕ)) → Type 0 = λ l. Stretch l in subst T (sym (append-nil ahead)) no_line

  -- the first of them are passed
  pub record Passing (all : List (Option (List ℕ))) : Type 0 where
    pub piece : List ℕ
    pub later : List ℕ
    pub here : BeginsWith behind piece later
    pub told_piece : told piece ≡ all
    pub passes : PassesLines (reading_at (length place.front)) (reading_at (length place.front + length piece)) (Some behind) (Some later)
        all

  pub passing : (next : Given) (all more : List (Option (List ℕ))) → IsNext (length front) rest next → ahead ++ lines_of next ≡ all ++ more
      → 1 ≤ length (ahead ++ lines_of next) → Passing all
  passing next all more is are some =
      let s = stretch next is in
      let f = told_split (length s.piece) s.piece all more (omega arith) (s.told_piece ∙ are) in
      let here = begins_in behind s.piece s.later f.front f.rest s.here f.begins in
      let some_bytes = none_told s.piece (omega (arith, some, ap length s.told_piece)) in
      record {
        piece = f.front;
        later = f.rest ++ s.later;
        here = here;
        told_piece = f.first_are;
        passes = λ input' front' rest' told_rest counted begins'.
            let same : behind ≡ rest' = cc (told_rest) in
            let whole = whole_at front' rest' begins'.whole (omega (
              arith,
              some_bytes,
              ap length same,
              ap length s.here.split,
              length-append s.piece s.later,
            )) in
            record {
              piece = f.front;
              later = f.rest ++ s.later;
              whole = whole;
              told_piece = f.first_are;
              told_all = told_behind front' f.front whole ∙ ap (λ l. told front' ++ l) f.first_are;
              here = let B : List ℕ → Type 0 = λ r. BeginsWith r f.front (f.rest ++ s.later) in subst B same here;
              told_rest = refl;
              begins = record {
                split = begins'.split ∙ ap (λ r. front' ++ r) (sym same ∙ here.split)
                    ∙ sym (append_assoc front' f.front (f.rest ++ s.later));
                whole = elim here.whole [
                  | inl ends ↦ inl (whole_joined front' f.front whole ends)
                  | inr none ↦ inr none
                ];
              };
              counted = omega (arith, counted, length-append front' f.front);
              early = omega (arith, s.within, ap length f.begins.split, length-append f.front f.rest);
            };
      }
    where
      whole_at : (front' rest' : List ℕ) → IsWhole front' ⊎ (rest' ≡ []) → 1 ≤ length rest' → IsWhole front'
      whole_at front' rest' (inl whole) some = whole
      whole_at front' rest' (inr none) some = absurd (omega (arith, some, ap length none))
