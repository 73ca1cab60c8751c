-- Laws of the lines of bytes, of whole lines with more bytes behind them, and of the first line with its line feed.
use Rattle.std.proofs.Common.{◌≡◌, ◌≢◌, ◌⊎◌, ℕ, ◌+◌, ◌<◌, List, [], ◌∷◌, ◌++◌, Bool, true, false, cond, get_or, take, length-append, length}
use Rattle.std.proofs.Common.{map, refl, ap, subst, inl, inr, sym, ◌∙◌, arith, append_assoc, Option, None, Some, IfSome}
use Rattle.std.specs.List.{slice_split, onto_first, filter, flat_map, before_first, after_first, position_or_len}
use Rattle.std.proofs.lemmas.List.Splits.{slice_split_first, slice_split_none, slice_split-cons_yes, slice_split-cons_no}
use Rattle.std.proofs.lemmas.List.Splits.{length-slice_split}
use Rattle.std.proofs.lemmas.List.Sums.{fails_before_first, passes_at_first}
use Rattle.std.proofs.lemmas.List.Elements.{filter-append}
use Rattle.std.proofs.lemmas.List.{take_all, take_more, drop_all, append-nil, map-append, take-append-drop, append_cancel_right}
use Rattle.std.proofs.lemmas.Bool.{cases_lt, ne_eqb, eqb-true}
use Rattle.chart_world.specs.Laws.{with_line_feed, JoinedLines, RestLine}
use Rattle.chart_world.specs.Fronts.{says, IsWhole, first_piece}
use Rattle.chart_world.specs.Lines.{is_line_feed, NoLineFeed, without_empty_end, split_lines, text_of, lines}

pub lines_none : lines [] ≡ []
unfolding lines split_lines
lines_none = refl

-- behind a first part, the last part is still the last
end_behind : (part : List ℕ) (parts : List (List ℕ)) → 0 < length parts → without_empty_end (part ∷ parts) ≡ part ∷ without_empty_end parts
end_behind part [] some = absurd (omega arith)
end_behind [] (next ∷ parts) some = refl
end_behind (byte ∷ bytes) (next ∷ parts) some = refl

-- one part that isn't empty stays
one_part : (part : List ℕ) → part ≢ [] → without_empty_end (part ∷ []) ≡ part ∷ []
one_part [] some = absurd (some refl)
one_part (byte ∷ bytes) some = refl

parts_some : (bytes : List ℕ) → 0 < length (slice_split is_line_feed bytes)
parts_some bytes = omega (arith, length-slice_split is_line_feed bytes)

-- the first line is what stands before the first line feed, and the others are those of the bytes behind it
pub split_first : (bytes : List ℕ) → bytes ≢ [] → split_lines bytes ≡ before_first is_line_feed bytes ∷ split_lines
    (after_first is_line_feed bytes)
unfolding split_lines
split_first bytes some = elim (cases_lt (position_or_len is_line_feed bytes) (length bytes)) [
  | inl found ↦ ap without_empty_end (slice_split_first is_line_feed bytes 0 found)
      ∙ end_behind (before_first is_line_feed bytes) (slice_split is_line_feed (after_first is_line_feed bytes))
      (parts_some (after_first is_line_feed bytes))
  | inr none ↦
      let whole : before_first is_line_feed bytes ≡ bytes = take_all (position_or_len is_line_feed bytes) bytes none in
      let nothing : after_first is_line_feed bytes ≡ [] = drop_all (position_or_len is_line_feed bytes + 1) bytes (omega arith) in
      ap without_empty_end (slice_split_none is_line_feed bytes (λ k d below. fails_before_first is_line_feed bytes k d (omega arith)))
      ∙ one_part bytes some
      ∙ ap (λ l. l ∷ []) (sym whole)
      ∙ ap (λ l. before_first is_line_feed bytes ∷ without_empty_end (slice_split is_line_feed l)) (sym nothing)
]

pub lines_first : (bytes : List ℕ) → bytes ≢ [] → lines bytes ≡ text_of (before_first is_line_feed bytes) ∷ lines
    (after_first is_line_feed bytes)
unfolding lines
lines_first bytes some = ap (λ parts. map text_of parts) (split_first bytes some)

-- nothing has no lines
pub split_none : split_lines [] ≡ []
unfolding split_lines
split_none = refl

-- a line feed in front is an empty line
split_feed : (byte : ℕ) (bytes : List ℕ) → is_line_feed byte ≡ true → split_lines (byte ∷ bytes) ≡ [] ∷ split_lines bytes
unfolding split_lines
split_feed byte bytes is = ap without_empty_end (slice_split-cons_yes is_line_feed byte bytes is)
    ∙ end_behind [] (slice_split is_line_feed bytes) (parts_some bytes)

-- a byte in front of parts that aren't all empty
onto_parts : (byte : ℕ) (bytes : List ℕ) (parts : List (List ℕ)) → bytes ≢ [] → slice_split is_line_feed bytes ≡ parts
    → without_empty_end (onto_first byte parts) ≡ onto_first byte (without_empty_end parts)
onto_parts byte bytes [] some is = refl
onto_parts byte bytes ([] ∷ []) some is = absurd (some (blank bytes is))
  where
    whole : (first : ℕ) (later : List ℕ) (b : Bool)
        → cond b ([] ∷ slice_split is_line_feed later) (onto_first first (slice_split is_line_feed later)) ≡ [] ∷ [] → first ∷ later ≡ []
    whole first later true is = absurd (omega (arith, parts_some later, ap length is))
    whole first later false is = absurd (by (slice_split is_line_feed later) is)
      where
        by : (parts : List (List ℕ)) → onto_first first parts ≡ [] ∷ [] → ⊥
        by [] is = cc (is)
        by (part ∷ parts) is = cc (is)

    blank : (bytes : List ℕ) → slice_split is_line_feed bytes ≡ [] ∷ [] → bytes ≡ []
    blank [] is = refl
    blank (first ∷ later) is = whole first later (is_line_feed first) is
onto_parts byte bytes ((first ∷ part) ∷ []) some is = refl
onto_parts byte bytes ([] ∷ (next ∷ parts)) some is = refl
onto_parts byte bytes ((first ∷ part) ∷ (next ∷ parts)) some is = refl

-- another byte is in front of the first line
split_other : (byte : ℕ) (bytes : List ℕ) → is_line_feed byte ≡ false → bytes ≢ []
    → split_lines (byte ∷ bytes) ≡ onto_first byte (split_lines bytes)
unfolding split_lines
split_other byte bytes is some = ap without_empty_end (slice_split-cons_no is_line_feed byte bytes is)
    ∙ onto_parts byte bytes (slice_split is_line_feed bytes) some refl

-- bytes have a line
split_some : (bytes : List ℕ) → bytes ≢ [] → 0 < length (split_lines bytes)
split_some bytes some = omega (arith, ap length (split_first bytes some))

-- bytes in front of a line feed are not nothing
not_nothing : (bytes : List ℕ) → with_line_feed bytes ≢ []
not_nothing [] is = cc (is)
not_nothing (byte ∷ bytes) is = cc (is)

joined_onto : (byte : ℕ) (parts : List (List ℕ)) → 0 < length parts
    → flat_map with_line_feed (onto_first byte parts) ≡ byte ∷ flat_map with_line_feed parts
joined_onto byte [] some = absurd (omega arith)
joined_onto byte (part ∷ parts) some = refl

pub joined_lines : JoinedLines
joined_lines [] = ap (λ parts. flat_map with_line_feed parts) (split_feed 10 [] refl ∙ ap (λ parts. [] ∷ parts) split_none)
joined_lines (byte ∷ bytes) = by (is_line_feed byte) refl (joined_lines bytes)
  where
    by : (b : Bool) → is_line_feed byte ≡ b → flat_map with_line_feed (split_lines (with_line_feed bytes)) ≡ with_line_feed bytes
        → flat_map with_line_feed (split_lines (byte ∷ with_line_feed bytes)) ≡ byte ∷ with_line_feed bytes
    by true is rest = ap (λ parts. flat_map with_line_feed parts) (split_feed byte (with_line_feed bytes) is) ∙ ap (λ l. 10 ∷ l) rest
        ∙ ap (λ b. b ∷ with_line_feed bytes) (sym (eqb-true byte 10 is))
    by false is rest = ap (λ parts. flat_map with_line_feed parts) (split_other byte (with_line_feed bytes) is (not_nothing bytes))
        ∙ joined_onto byte (split_lines (with_line_feed bytes)) (split_some (with_line_feed bytes) (not_nothing bytes))
        ∙ ap (λ l. byte ∷ l) rest

onto_behind : (byte : ℕ) (parts behind : List (List ℕ)) → 0 < length parts
    → onto_first byte (parts ++ behind) ≡ onto_first byte parts ++ behind
onto_behind byte [] behind some = absurd (omega arith)
onto_behind byte (part ∷ parts) behind some = refl

-- a rest without a line feed is one line
split_rest : (rest : List ℕ) → NoLineFeed rest → rest ≢ [] → split_lines rest ≡ rest ∷ []
unfolding split_lines
split_rest rest none some = ap without_empty_end (slice_split_none is_line_feed rest
    (λ k d below. ne_eqb (get_or rest k d) 10 (none k d below))) ∙ one_part rest some

pub rest_line : RestLine
rest_line [] rest none some = split_feed 10 rest refl ∙ ap (λ parts. [] ∷ parts) (split_rest rest none some)
    ∙ ap (λ parts. parts ++ rest ∷ []) (sym (split_feed 10 [] refl ∙ ap (λ parts. [] ∷ parts) split_none))
rest_line (byte ∷ bytes) rest none some = by (is_line_feed byte) refl (rest_line bytes rest none some)
  where
    nonempty : with_line_feed bytes ++ rest ≢ []
    nonempty is = absurd (omega (arith, ap length is, length-append (with_line_feed bytes) rest, length-append bytes (10 ∷ [])))

    by : (b : Bool) → is_line_feed byte ≡ b → split_lines (with_line_feed bytes ++ rest) ≡ split_lines (with_line_feed bytes) ++ rest ∷ []
        → split_lines (byte ∷ (with_line_feed bytes ++ rest)) ≡ split_lines (byte ∷ with_line_feed bytes) ++ rest ∷ []
    by true is later = split_feed byte (with_line_feed bytes ++ rest) is ∙ ap (λ parts. [] ∷ parts) later
        ∙ ap (λ parts. parts ++ rest ∷ []) (sym (split_feed byte (with_line_feed bytes) is))
    by false is later = split_other byte (with_line_feed bytes ++ rest) is nonempty
        ∙ ap (λ parts. onto_first byte parts) later
        ∙ onto_behind byte (split_lines (with_line_feed bytes)) (rest ∷ []) (split_some (with_line_feed bytes) (not_nothing bytes))
        ∙ ap (λ parts. parts ++ rest ∷ []) (sym (split_other byte (with_line_feed bytes) is (not_nothing bytes)))

-- a line feed ends a part
parts_joined : (before rest : List ℕ) → slice_split is_line_feed
    (before ++ 10 ∷ rest) ≡ slice_split is_line_feed before ++ slice_split is_line_feed rest
parts_joined [] rest = refl
parts_joined (b ∷ bs) rest =
    ap (λ parts. cond (is_line_feed b) ([] ∷ parts) (onto_first b parts)) (parts_joined bs rest)
    ∙ (elim (is_line_feed b) as (λ t. cond t ([] ∷ (slice_split is_line_feed bs ++ slice_split is_line_feed rest))
    (onto_first b (slice_split is_line_feed bs ++ slice_split is_line_feed rest)) ≡ cond t ([] ∷ slice_split is_line_feed bs)
    (onto_first b (slice_split is_line_feed bs)) ++ slice_split is_line_feed rest) [
      | true ↦ refl
      | false ↦ onto_behind b (slice_split is_line_feed bs) (slice_split is_line_feed rest) (parts_some bs)
    ])

-- only the last part may be dropped
end_joined : (xs ys : List (List ℕ)) → 0 < length ys → without_empty_end (xs ++ ys) ≡ xs ++ without_empty_end ys
end_joined [] ys some = refl
end_joined ([] ∷ []) [] some = absurd (omega arith)
end_joined ([] ∷ []) (y ∷ ys) some = refl
end_joined ([] ∷ (x ∷ xs)) ys some = ap (λ l. [] ∷ l) (end_joined (x ∷ xs) ys some)
end_joined ((b ∷ bs) ∷ xs) ys some = ap (λ l. (b ∷ bs) ∷ l) (end_joined xs ys some)

split_joined : (before rest : List ℕ) → split_lines (before ++ 10 ∷ rest) ≡ slice_split is_line_feed before ++ split_lines rest
unfolding split_lines
split_joined before rest = ap without_empty_end (parts_joined before rest)
    ∙ end_joined (slice_split is_line_feed before) (slice_split is_line_feed rest) (parts_some rest)

split_ended : (before rest : List ℕ) → split_lines ((before ++ 10 ∷ []) ++ rest) ≡ split_lines (before ++ 10 ∷ []) ++ split_lines rest
split_ended before rest =
    let parts = slice_split is_line_feed before in
    let whole : split_lines (before ++ 10 ∷ []) ≡ parts = split_joined before [] ∙ ap (λ l. parts ++ l) split_none ∙ append-nil parts in
    ap split_lines (append_assoc before (10 ∷ []) rest) ∙ split_joined before rest ∙ ap (λ l. l ++ split_lines rest) (sym whole)

-- the lines of whole lines and of what stands behind them are those of both
pub split_whole : (front rest : List ℕ) → IsWhole front → split_lines (front ++ rest) ≡ split_lines front ++ split_lines rest
split_whole front rest (inl none) =
    let P : List ℕ → Type 0 = λ f. split_lines (f ++ rest) ≡ split_lines f ++ split_lines rest in
    subst P (sym none) (ap (λ l. l ++ split_lines rest) (sym split_none))
split_whole front rest (inr whole) =
    let P : List ℕ → Type 0 = λ f. split_lines (f ++ rest) ≡ split_lines f ++ split_lines rest in
    subst P (sym whole.1) (split_ended whole.0 rest)

pub lines_joined : (front rest : List ℕ) → IsWhole front → lines (front ++ rest) ≡ lines front ++ lines rest
unfolding lines
lines_joined front rest whole = ap (map text_of) (split_whole front rest whole) ∙ map-append text_of (split_lines front) (split_lines rest)

pub pieces : (bytes : List ℕ) → bytes ≡ first_piece bytes ++ after_first is_line_feed bytes
pieces bytes = sym (take-append-drop (position_or_len is_line_feed bytes + 1) bytes)

-- the piece is a whole line, or nothing stands behind it
pub piece_ends : (bytes : List ℕ) → IsWhole (first_piece bytes) ⊎ (after_first is_line_feed bytes ≡ [])
piece_ends bytes =
    let at = position_or_len is_line_feed bytes in
    elim (cases_lt at (length bytes)) [
      | inl found ↦
          let feed : get_or bytes at 0 ≡ 10 = eqb-true (get_or bytes at 0) 10 (passes_at_first is_line_feed bytes 0 found) in
          inl (inr (take at bytes, take_more bytes at 0 found ∙ ap (λ b. take at bytes ++ b ∷ []) feed))
      | inr none ↦ inr (drop_all (at + 1) bytes (omega arith))
    ]

-- where the first of the bytes' lines is known, it is the line of the first piece
pub piece_line : (bytes : List ℕ) (line : Option (List ℕ)) → lines bytes ≡ line ∷ lines (after_first is_line_feed bytes)
    → lines (first_piece bytes) ≡ line ∷ []
piece_line bytes line first =
    let rest = after_first is_line_feed bytes in
    elim (piece_ends bytes) [
      | inl whole ↦
          append_cancel_right (lines (first_piece bytes)) (line ∷ []) (lines rest)
          (sym (lines_joined (first_piece bytes) rest whole) ∙ ap lines (sym (pieces bytes)) ∙ first)
      | inr none ↦
          let all : first_piece bytes ≡ bytes = sym (pieces bytes ∙ ap (λ l. first_piece bytes ++ l) none
          ∙ append-nil (first_piece bytes)) in
          ap lines all ∙ first ∙ ap (λ l. line ∷ l) (ap lines none ∙ lines_none)
    ]

-- bytes without a line are none
pub no_rest : (rest : List ℕ) → lines rest ≡ [] → rest ≡ []
no_rest [] none = refl
no_rest (b ∷ bs) none = let first = lines_first (b ∷ bs) (λ e. cc) in cc

-- more bytes behind whole lines, among the lines that say something
pub told_behind : (front piece : List ℕ) → IsWhole front
    → filter says (lines (front ++ piece)) ≡ filter says (lines front) ++ filter says (lines piece)
told_behind front piece whole = ap (filter says) (lines_joined front piece whole) ∙ filter-append says (lines front) (lines piece)

-- a line more behind whole lines, among those that say something
pub told_more : (front piece : List ℕ) (line : Option (List ℕ)) → IsWhole front → lines piece ≡ line ∷ []
    → filter says (lines (front ++ piece)) ≡ filter says (lines front) ++ filter says (line ∷ [])
told_more front piece line whole first =
    ap (filter says) (lines_joined front piece whole ∙ ap (λ l. lines front ++ l) first) ∙ filter-append says (lines front) (line ∷ [])

pub says_text : (text : List ℕ) → 0 < length text → says (Some text) ≡ true
says_text [] some = absurd (omega (arith, some))
says_text (b ∷ bs) some = refl

pub said : (line : Option (List ℕ)) → says line ≡ true → filter says (line ∷ []) ≡ line ∷ []
said line some = ap (λ b. cond b (line ∷ []) []) some

-- what holds of bytes, where they are told
pub told_so : (P Q : List ℕ → Type 0) (o : Option (List ℕ)) → ((bytes : List ℕ) → P bytes → Q bytes) → IfSome o P → IfSome o Q
told_so P Q None more h = tt
told_so P Q (Some bytes) more h = more bytes h
