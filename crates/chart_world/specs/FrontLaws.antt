-- One line more of an input is read.
use Rattle.std.proofs.Common.{◌≡◌, ◌≢◌, ◌≤◌, ◌<◌, ℕ, zero, suc, ◌+◌, ◌⊎◌, Bool, true, false, cond, List, [], ◌∷◌, ◌++◌, length, Option}
use Rattle.std.proofs.Common.{Some, None, IfSome, refl, ap, subst, inl, inr, sym, ◌∙◌, arith, append_assoc, length-append, length-drop}
use Rattle.std.specs.List.{filter, before_first, after_first, position_or_len}
use Rattle.std.proofs.lemmas.List.{append-nil}
use Rattle.chart_world.specs.Fronts.{says, IsWhole, BeginsWith, first_piece, Gives}
use Rattle.chart_world.specs.LineLaws.{lines_none, lines_first, no_rest, pieces, piece_ends, piece_line, said, told_behind}
use Rattle.chart_world.specs.Lines.{is_line_feed, text_of, lines}
use Rattle.chart_world.specs.Reading.{IsReadUp, Reading, unread, told_lines, with_first, behind_first, input_length}

pub some_left : (rest : List ℕ) (line : Option (List ℕ)) (later : List (Option (List ℕ))) → lines rest ≡ line ∷ later → rest ≢ []
some_left rest line later first none = let none_first : [] ≡ line ∷ later = sym lines_none ∙ ap lines (sym none) ∙ first in cc

pub whole_front : (front rest : List ℕ) → IsWhole front ⊎ (rest ≡ []) → rest ≢ [] → IsWhole front
whole_front front rest (inl whole) some = whole
whole_front front rest (inr none) some = absurd (some none)

pub whole_joined : (front piece : List ℕ) → IsWhole front → IsWhole piece → IsWhole (front ++ piece)
whole_joined front piece whole (inl none) =
    let P : List ℕ → Type 0 = λ p. IsWhole (front ++ p) in
    let Q : List ℕ → Type 0 = IsWhole in
    subst P (sym none) (subst Q (sym (append-nil front)) whole)
whole_joined front piece whole (inr ends) =
    inr (front ++ ends.0, ap (λ p. front ++ p) ends.1 ∙ sym (append_assoc front ends.0 (10 ∷ [])))

-- the bytes passed and those unread are the input
pub passed : (old new : Reading) (left left' : Option (List ℕ)) (rest rest' : List ℕ) → unread old left ≡ Some rest
    → unread new left' ≡ Some rest' → old.taken ≡ old.given + length old.pending → new.taken ≡ new.given + length new.pending
    → input_length new.taken left' ≡ input_length old.taken left → new.given + length rest' ≡ old.given + length rest
passed old new None left' rest rest' is is' counted counted' total = cc
passed old new (Some l) None rest rest' is is' counted counted' total = cc
passed old new (Some l) (Some l') rest rest' is is' counted counted' total =
    let sum : new.taken + length l' ≡ old.taken + length l = cc in
    let here : old.pending ++ l ≡ rest = cc in
    let there : new.pending ++ l' ≡ rest' = cc in
    omega (arith, sum, counted, counted', ap length here, ap length there, length-append old.pending l, length-append new.pending l')

pub behind_told : (rest : List ℕ) (bytes bytes' : Option (List ℕ)) → bytes ≡ Some rest → bytes' ≡ behind_first bytes
    → bytes' ≡ Some (after_first is_line_feed rest)
behind_told rest bytes bytes' told is = is ∙ ap behind_first told

pub told_after : (rest : List ℕ) (bytes bytes' : Option (List ℕ)) (line : Option (List ℕ)) → bytes ≡ Some rest
    → bytes' ≡ Some (after_first is_line_feed rest) → told_lines bytes ≡ with_first line (told_lines bytes')
    → lines rest ≡ line ∷ lines (after_first is_line_feed rest)
told_after rest bytes bytes' line told told' first =
    let P : Option (List ℕ) → Type 0 = λ b. told_lines b ≡ with_first line (told_lines bytes') in
    let Q : Option (List ℕ) → Type 0 = λ b. told_lines (Some rest) ≡ with_first line (told_lines b) in
    let both : Some (lines rest) ≡ Some (line ∷ lines (after_first is_line_feed rest)) = subst Q told' (subst P told first) in
    cc

-- the line that was read, in the words of the line that is passed on
pub same_line : (bytes bytes' : Option (List ℕ)) (text line : List ℕ) → text ≡ line
    → told_lines bytes ≡ with_first (Some line) (told_lines bytes') → told_lines bytes ≡ with_first (Some text) (told_lines bytes')
same_line bytes bytes' text line same told =
    let P : List ℕ → Type 0 = λ l. told_lines bytes ≡ with_first (Some l) (told_lines bytes') in
    subst P (sym same) told

pub begins_more : (input front rest : List ℕ) → BeginsWith input front rest → rest ≢ []
    → BeginsWith input (front ++ first_piece rest) (after_first is_line_feed rest)
begins_more input front rest b some =
    let whole = whole_front front rest b.whole some in
    record {
      split = b.split ∙ ap (λ l. front ++ l) (pieces rest) ∙ sym (append_assoc front (first_piece rest) (after_first is_line_feed rest));
      whole = elim (piece_ends rest) [
        | inl ended ↦ inl (whole_joined front (first_piece rest) whole ended)
        | inr none ↦ inr none
      ];
    }

pub gives_by : (old new : Reading) (left left' line : Option (List ℕ))
    → told_lines (unread old left) ≡ with_first line (told_lines (unread new left')) → unread new left' ≡ behind_first (unread old left)
    → old.taken ≡ old.given + length old.pending → new.taken ≡ new.given + length new.pending
    → input_length new.taken left' ≡ input_length old.taken left → Gives old new left left' line
gives_by old new left left' line first rest counted counted_new total = record {
  first = first;
  rest = rest;
  counted = counted;
  counted_new = counted_new;
  total = total;
}

-- the first line of what is left, and what stands behind it
pub record Passed (input front rest : List ℕ) (bytes : Option (List ℕ)) (given : ℕ) (line : Option (List ℕ)) : Type 0 where
  pub some : rest ≢ []
  pub whole : IsWhole front
  pub lines_are : lines rest ≡ line ∷ lines (after_first is_line_feed rest)
  pub told_rest : bytes ≡ Some (after_first is_line_feed rest)
  pub begins : BeginsWith input (front ++ first_piece rest) (after_first is_line_feed rest)
  pub counted : given ≡ length (front ++ first_piece rest)

pub passes : (input front rest : List ℕ) (r r' : Reading) (left left' : Option (List ℕ)) (line : Option (List ℕ))
    → unread r left ≡ Some rest → r.given ≡ length front → BeginsWith input front rest → Gives r r' left left' line
    → Passed input front rest (unread r' left') r'.given line
passes input front rest r r' left left' line told_rest given begins gives =
    let told' = behind_told rest (unread r left) (unread r' left') told_rest gives.rest in
    let lines_are = told_after rest (unread r left) (unread r' left') line told_rest told' gives.first in
    let sum = passed r r' left left' rest (after_first is_line_feed rest) told_rest told' gives.counted gives.counted_new gives.total in
    let some = some_left rest line (lines (after_first is_line_feed rest)) lines_are in
    record {
      some = some;
      whole = whole_front front rest begins.whole some;
      lines_are = lines_are;
      told_rest = told';
      begins = begins_more input front rest begins some;
      counted = omega (
        arith,
        sum,
        given,
        ap length (pieces rest),
        length-append (first_piece rest) (after_first is_line_feed rest),
        length-append front (first_piece rest),
      );
    }

-- an input whose lines were all given has no more bytes than they have
pub read_whole : (o left : Option (List ℕ)) (r : Reading) (most : ℕ) → IfSome (told_lines (unread r left)) (λ all. all ≡ [])
    → r.taken ≡ r.given + length r.pending → r.given ≤ most → input_length r.taken left ≡ input_length 0 o
    → IfSome o (λ input. length input ≤ most)
read_whole None left r most none counted few whole = tt
read_whole (Some input) None r most none counted few whole = cc
read_whole (Some input) (Some l) r most none counted few whole =
    let sum : r.taken + length l ≡ 0 + length input = cc in
    omega (arith, sum, counted, few, ap length (no_rest (r.pending ++ l) none), length-append r.pending l)

-- of no bytes both parts are none
none_behind : (bytes front rest : List ℕ) → bytes ≡ front ++ rest → bytes ≡ [] → (front ≡ []) × (rest ≡ [])
none_behind bytes [] rest split none = (refl, sym split ∙ none)
none_behind bytes (b ∷ bs) rest split none = let e : [] ≡ b ∷ (bs ++ rest) = sym none ∙ split in cc

-- an input of which more was taken than so many bytes has more
pub longer : (o left : Option (List ℕ)) (taken most : ℕ) → most < taken → input_length taken left ≡ input_length 0 o
    → IfSome o (λ input. most < length input)
longer None left taken most past whole = tt
longer (Some input) None taken most past whole = cc
longer (Some input) (Some l) taken most past whole =
    let sum : taken + length l ≡ 0 + length input = cc in
    omega (arith, sum, past)

-- of an input whose lines were all given nothing is left
pub read_up : (o left left' : Option (List ℕ)) (r r' : Reading) → IfSome (told_lines (unread r left)) (λ all. all ≡ [])
    → unread r' left' ≡ behind_first (unread r left) → input_length r'.taken left' ≡ input_length 0 o → IsReadUp o left'
read_up None left left' r r' none rest whole = tt
read_up (Some input) left None r r' none rest whole = cc
read_up (Some input) None (Some l') r r' none rest whole = cc
read_up (Some input) (Some l) (Some l') r r' none rest whole =
    let nothing : r.pending ++ l ≡ [] = no_rest (r.pending ++ l) none in
    let here : r'.pending ++ l' ≡ after_first is_line_feed (r.pending ++ l) = cc in
    let behind : r'.pending ++ l' ≡ [] = here ∙ ap (after_first is_line_feed) nothing in
    ap Some (none_behind (r'.pending ++ l') r'.pending l' refl behind).1

-- some first of the lines that say something, and the bytes that they stand in
pub record FrontOf (bytes : List ℕ) (first later : List (Option (List ℕ))) : Type 0 where
  pub front : List ℕ
  pub rest : List ℕ
  pub begins : BeginsWith bytes front rest
  pub first_are : filter says (lines front) ≡ first
  pub later_are : filter says (lines rest) ≡ later

-- with the piece of the first line in front
front_more : (bytes : List ℕ) (line : Option (List ℕ)) (first first' later : List (Option (List ℕ)))
    → lines bytes ≡ line ∷ lines (after_first is_line_feed bytes) → filter says (line ∷ []) ++ first ≡ first'
    → FrontOf (after_first is_line_feed bytes) first later → FrontOf bytes first' later
front_more bytes line first first' later is more f =
    let piece = first_piece bytes in
    record {
      front = piece ++ f.front;
      rest = f.rest;
      begins = record {
        split = pieces bytes ∙ ap (λ l. piece ++ l) f.begins.split ∙ sym (append_assoc piece f.front f.rest);
        whole = elim (piece_ends bytes) [
          | inl whole ↦ elim f.begins.whole [
            | inl ended ↦ inl (whole_joined piece f.front whole ended)
            | inr none ↦ inr none
          ]
          | inr none ↦ inr (none_behind (after_first is_line_feed bytes) f.front f.rest f.begins.split none).1
        ];
      };
      first_are = elim (piece_ends bytes) [
        | inl whole ↦ told_behind piece f.front whole ∙ ap (λ l. filter says l ++ filter says (lines f.front)) (piece_line bytes line is)
            ∙ ap (λ l. filter says (line ∷ []) ++ l) f.first_are ∙ more
        | inr none ↦
            let empty = (none_behind (after_first is_line_feed bytes) f.front f.rest f.begins.split none).0 in
            let none_first : [] ≡ first = sym (ap (λ l. filter says (lines l)) empty ∙ ap (filter says) lines_none) ∙ f.first_are in
            ap (λ l. filter says (lines (piece ++ l))) empty ∙ ap (λ l. filter says (lines l)) (append-nil piece)
            ∙ ap (filter says) (piece_line bytes line is)
            ∙ sym (append-nil (filter says (line ∷ []))) ∙ ap (λ l. filter says (line ∷ []) ++ l) none_first ∙ more
      ];
      later_are = f.later_are;
    }

-- the first line is the first of those that say something, or says nothing
told_first : (bytes : List ℕ) (line : Option (List ℕ)) (first later : List (Option (List ℕ)))
    → lines bytes ≡ line ∷ lines (after_first is_line_feed bytes) → filter says (lines bytes) ≡ first ++ later → first ≢ []
    → ((first' : List (Option (List ℕ))) → filter says (lines (after_first is_line_feed bytes)) ≡ first' ++ later
    → FrontOf (after_first is_line_feed bytes) first' later)
    → ((v : Bool) → says line ≡ v → FrontOf bytes first later)
told_first bytes line [] later all is some behind v says_so = absurd (some refl)
told_first bytes line (l ∷ first) later all is some behind true says_so =
    let rest = filter says (lines (after_first is_line_feed bytes)) in
    let here : line ∷ rest ≡ l ∷ (first ++ later) = sym (ap (filter says) all ∙ ap (λ v. cond v (line ∷ rest) rest) says_so) ∙ is in
    let same : line ≡ l = cc (here) in
    let next : rest ≡ first ++ later = cc (here) in
    front_more bytes line first (l ∷ first) later all (ap (λ t. t ++ first) (said line says_so)
    ∙ ap (λ x. x ∷ first) same) (behind first next)
told_first bytes line (l ∷ first) later all is some behind false says_so =
    let rest = filter says (lines (after_first is_line_feed bytes)) in
    let next : rest ≡ (l ∷ first) ++ later = sym (ap (filter says) all ∙ ap (λ v. cond v (line ∷ rest) rest) says_so) ∙ is in
    front_more bytes line (l ∷ first) (l ∷ first) later all (ap (λ v. cond v (line ∷ []) [] ++ (l ∷ first)) says_so)
    (behind (l ∷ first) next)

-- a front of whole lines has so many of the lines that say something
pub told_split : (most : ℕ) (bytes : List ℕ) (first later : List (Option (List ℕ))) → length bytes ≤ most
    → filter says (lines bytes) ≡ first ++ later → FrontOf bytes first later
told_split most bytes [] later few is = record {
  front = [];
  rest = bytes;
  begins = record { split = refl; whole = inl (inl refl) };
  first_are = ap (filter says) lines_none;
  later_are = is;
}
told_split most [] (l ∷ first) later few is = let e : [] ≡ l ∷ (first ++ later) = sym (ap (filter says) lines_none) ∙ is in cc
told_split zero (b ∷ bs) (l ∷ first) later few is = absurd (omega (arith, few))
told_split (suc most) (b ∷ bs) (l ∷ first) later few is =
    let bytes : List ℕ = b ∷ bs in
    let line = text_of (before_first is_line_feed bytes) in
    let behind = after_first is_line_feed bytes in
    let all : lines bytes ≡ line ∷ lines behind = lines_first bytes (λ e. cc) in
    let shorter : length behind ≤ most = omega (arith, few, length-drop (position_or_len is_line_feed bytes + 1) bytes) in
    told_first bytes line (l ∷ first) later all is (λ e. cc) (λ first' more. told_split most behind first' later shorter more)
    (says line) refl
