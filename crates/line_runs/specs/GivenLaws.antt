-- What is given of whole lines, of a line more and of a pause more.
use Rattle.std.proofs.Common.{◌≡◌, ◌∙◌, ℕ, ◌+◌, List, [], ◌∷◌, ◌++◌, length, map, Option, refl, ap, sym, subst, inl, inr, arith}
use Rattle.std.proofs.Common.{length-append}
use Rattle.std.specs.List.{flat_map}
use Rattle.chart_world.specs.Fronts.{IsWhole}
use Rattle.chart_world.specs.Laws.{with_line_feed}
use Rattle.chart_world.specs.LineLaws.{joined_lines, split_none, split_whole}
use Rattle.chart_world.specs.Lines.{lines, split_lines, text_of}
use Rattle.std.proofs.lemmas.List.{append-nil}
use Rattle.line_runs.specs.Given.{EndsPaused, Given, Line, Pause, End, given_from, given_lines, pauses, unpaused}

-- how many bytes lines have, with a line feed behind each
abbrev bytes_of : List (List ℕ) → ℕ
bytes_of [] = 0
bytes_of (line ∷ later) = length line + 1 + bytes_of later

bytes_joined : (parts : List (List ℕ)) → bytes_of parts ≡ length (flat_map with_line_feed parts)
bytes_joined [] = refl
bytes_joined (line ∷ later) =
    omega (arith, bytes_joined later, length-append (with_line_feed line) (flat_map with_line_feed later), length-append line (10 ∷ []))

bytes_whole : (front : List ℕ) → IsWhole front → bytes_of (split_lines front) ≡ length front
bytes_whole front (inl none) =
    let P : List ℕ → Type 0 = λ f. bytes_of (split_lines f) ≡ length f in
    subst P (sym none) (ap bytes_of split_none)
bytes_whole front (inr whole) =
    let P : List ℕ → Type 0 = λ f. bytes_of (split_lines f) ≡ length f in
    subst P (sym whole.1) (bytes_joined (split_lines (whole.0 ++ 10 ∷ [])) ∙ ap length (joined_lines whole.0))

given_at : (at at' : ℕ) (parts : List (List ℕ)) → at ≡ at' → given_from at parts ≡ given_from at' parts
given_at at at' parts same = ap (λ a. given_from a parts) same

from_joined : (at : ℕ) (xs ys : List (List ℕ)) → given_from at (xs ++ ys) ≡ given_from at xs ++ given_from (at + bytes_of xs) ys
from_joined at [] ys = given_at at (at + 0) ys (omega arith)
from_joined at (x ∷ xs) ys =
    ap (λ l. Line at (text_of x) ∷ l) (from_joined (at + length x + 1) xs ys
    ∙ ap (λ l. given_from (at + length x + 1) xs ++ l)
    (given_at (at + length x + 1 + bytes_of xs) (at + (length x + 1 + bytes_of xs)) ys (omega arith)))

one_from : (at : ℕ) (line : Option (List ℕ)) (parts : List (List ℕ)) → map text_of parts ≡ line ∷ []
    → given_from at parts ≡ Line at line ∷ []
one_from at line [] is = cc
one_from at line (part ∷ []) is = let same : text_of part ≡ line = cc in ap (λ t. Line at t ∷ []) same
one_from at line (part ∷ other ∷ later) is = cc

one_given : (at : ℕ) (line : Option (List ℕ)) (piece : List ℕ) → lines piece ≡ line ∷ [] → given_from at (split_lines piece) ≡ Line at
    line ∷ []
unfolding lines
one_given at line piece is = one_from at line (split_lines piece) is

-- of no bytes nothing is
pub given_none : given_lines [] ≡ []
unfolding given_lines
given_none = ap (given_from 0) split_none

-- behind whole lines a line more is
pub given_more : (front piece : List ℕ) (line : Option (List ℕ)) → IsWhole front → lines piece ≡ line ∷ []
    → given_lines (front ++ piece) ≡ given_lines front ++ Line (length front) line ∷ []
unfolding given_lines
given_more front piece line whole is =
    ap (given_from 0) (split_whole front piece whole)
    ∙ from_joined 0 (split_lines front) (split_lines piece)
    ∙ ap (λ l. given_from 0 (split_lines front) ++ l)
    (given_at (0 + bytes_of (split_lines front)) (length front) (split_lines piece) (omega (arith, bytes_whole front whole))
    ∙ one_given (length front) line piece is)

-- ---- pauses

pub unpaused_joined : (first later : List Given) → unpaused (first ++ later) ≡ unpaused first ++ unpaused later
unpaused_joined [] later = refl
unpaused_joined (Line at line ∷ first) later = ap (λ l. Line at line ∷ l) (unpaused_joined first later)
unpaused_joined (Pause ∷ first) later = unpaused_joined first later
unpaused_joined (End ∷ first) later = ap (λ l. End ∷ l) (unpaused_joined first later)

pub pauses_joined : (first later : List Given) → pauses (first ++ later) ≡ pauses first + pauses later
pauses_joined [] later = omega arith
pauses_joined (Line at line ∷ first) later = pauses_joined first later
pauses_joined (Pause ∷ first) later = omega (arith, pauses_joined first later)
pauses_joined (End ∷ first) later = pauses_joined first later

-- a pause more is no line more
pub unpaused_pause : (given : List Given) → unpaused (given ++ Pause ∷ []) ≡ unpaused given
unpaused_pause given = unpaused_joined given (Pause ∷ []) ∙ append-nil (unpaused given)

pub pauses_paused : (given : List Given) (p : EndsPaused given) → pauses given ≡ pauses p.earlier + 1
pauses_paused given p = omega (arith, ap pauses p.given_are, pauses_joined p.earlier (Pause ∷ []))
