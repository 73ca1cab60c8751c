-- The lines of whole lines with more bytes behind them, and their places.
use Rattle.std.proofs.Common.{◌≡◌, ℕ, ◌+◌, List, [], ◌∷◌, ◌++◌, length, map, refl, ap, subst, inl, inr, ◌⊎◌, sym, ◌∙◌, arith, length-append}
use Rattle.std.proofs.Common.{Option}
use Rattle.std.specs.List.{filter, flat_map}
use Rattle.std.proofs.lemmas.List.{append-nil}
use Rattle.std.proofs.lemmas.List.Elements.{filter-append}
use Rattle.chart_world.specs.Laws.{with_line_feed}
use Rattle.chart_world.specs.Lines.{split_lines, text_of, lines}
use Rattle.chart_world.specs.LineLaws.{split_none, split_whole, joined_lines}
use Rattle.chart_world.specs.Fronts.{says, IsWhole, BeginsWith}
use Rattle.series_load.specs.Fronts.{PlacedLine, placed_from, told}
use Rattle.series_load.specs.Steps.{if_told}

-- how many bytes lines have, with a line feed behind each
abbrev bytes_of : List (List ℕ) → ℕ
bytes_of [] = 0
bytes_of (line ∷ later) = length line + 1 + bytes_of later

bytes_joined : (parts : List (List ℕ)) → bytes_of parts ≡ length (flat_map with_line_feed parts)
bytes_joined [] = refl
bytes_joined (line ∷ later) = omega (
  arith,
  bytes_joined later,
  length-append (with_line_feed line) (flat_map with_line_feed later),
  length-append line (10 ∷ []),
)

bytes_whole : (front : List ℕ) → IsWhole front → bytes_of (split_lines front) ≡ length front
bytes_whole front (inl none) =
    let P : List ℕ → Type 0 = λ f. bytes_of (split_lines f) ≡ length f in
    subst P (sym none) (ap bytes_of split_none)
bytes_whole front (inr whole) =
    let P : List ℕ → Type 0 = λ f. bytes_of (split_lines f) ≡ length f in
    subst P (sym whole.1) (bytes_joined (split_lines (whole.0 ++ 10 ∷ [])) ∙ ap length (joined_lines whole.0))

placed_at : (at at' : ℕ) (parts : List (List ℕ)) → at ≡ at' → placed_from at parts ≡ placed_from at' parts
placed_at at at' parts same = ap (λ a. placed_from a parts) same

placed_joined : (at : ℕ) (xs ys : List (List ℕ)) → placed_from at (xs ++ ys) ≡ placed_from at xs ++ placed_from (at + bytes_of xs) ys
placed_joined at [] ys = placed_at at (at + 0) ys (omega arith)
placed_joined at (x ∷ xs) ys =
    ap (λ l. record { at = at; text = text_of x } ∷ l) (placed_joined (at + length x + 1) xs ys
    ∙ ap (λ l. placed_from (at + length x + 1) xs ++ l)
    (placed_at (at + length x + 1 + bytes_of xs) (at + (length x + 1 + bytes_of xs)) ys (omega arith)))

one_line : (at : ℕ) (text : Option (List ℕ)) (parts : List (List ℕ)) → map text_of parts ≡ text ∷ []
    → placed_from at parts ≡ record { at = at; text = text } ∷ []
one_line at text [] is = cc
one_line at text (part ∷ []) is = let same : text_of part ≡ text = cc in ap (λ t. record { at = at; text = t } ∷ []) same
one_line at text (part ∷ other ∷ later) is = cc

one_placed : (at : ℕ) (text : Option (List ℕ)) (piece : List ℕ) → lines piece ≡ text ∷ []
    → placed_from at (split_lines piece) ≡ record { at = at; text = text } ∷ []
unfolding lines
one_placed at text piece is = one_line at text (split_lines piece) is

-- behind whole lines the others stand at their places
told_whole : (front rest : List ℕ) → IsWhole front → told (front ++ rest) ≡ told front ++ filter (λ (line : PlacedLine). says line.text)
    (placed_from (length front) (split_lines rest))
unfolding told
told_whole front rest whole =
    let test = λ (line : PlacedLine). says line.text in
    ap (λ parts. filter test (placed_from 0 parts)) (split_whole front rest whole)
    ∙ ap (filter test) (placed_joined 0 (split_lines front) (split_lines rest))
    ∙ filter-append test (placed_from 0 (split_lines front)) (placed_from (0 + bytes_of (split_lines front)) (split_lines rest))
    ∙ ap (λ l. filter test (placed_from 0 (split_lines front)) ++ filter test l)
    (placed_at (0 + bytes_of (split_lines front)) (length front) (split_lines rest) (omega (arith, bytes_whole front whole)))

-- a line more, at its place
pub told_joined : (front piece : List ℕ) (text : Option (List ℕ)) → IsWhole front → lines piece ≡ text ∷ []
    → told (front ++ piece) ≡ told front ++ if_told (length front) text
told_joined front piece text whole is =
    told_whole front piece whole ∙ ap (λ l. told front ++ filter (λ (line : PlacedLine). says line.text) l)
    (one_placed (length front) text piece is)

-- the lines of an input are those of its front and those behind it
pub told_begins : (input front rest : List ℕ) → BeginsWith input front rest
    → told input ≡ told front ++ filter (λ (line : PlacedLine). says line.text) (placed_from (length front) (split_lines rest))
told_begins input front rest begins = ap told begins.split ∙ by begins.whole
  where
    by : IsWhole front ⊎ (rest ≡ []) → told (front ++ rest) ≡ told front ++ filter (λ (line : PlacedLine). says line.text)
        (placed_from (length front) (split_lines rest))
    by (inl whole) = told_whole front rest whole
    by (inr none) =
        let P : List ℕ → Type 0 = λ r. told (front ++ r) ≡ told front ++ filter (λ (line : PlacedLine). says line.text)
        (placed_from (length front) (split_lines r)) in
        subst P (sym none) (ap told (append-nil front)
        ∙ sym (ap (λ parts. told front ++ filter (λ (line : PlacedLine). says line.text) (placed_from (length front) parts)) split_none
        ∙ append-nil (told front)))

pub told_nothing : told [] ≡ []
unfolding told
told_nothing = let test = λ (line : PlacedLine). says line.text in ap (λ parts. filter test (placed_from 0 parts)) split_none
