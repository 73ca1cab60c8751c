-- How many blocks the lines of an input have read so far.
use Rattle.std.proofs.lemmas.Bool.{cases_lt}
use Rattle.std.proofs.Common.{◌≡◌, ◌≤◌, ◌+◌, ◌*◌, arith, ℕ, List, [], ◌∷◌, ◌++◌, length, Option, None, Some, Result, Ok, Err, IfSome, refl}
use Rattle.std.proofs.Common.{sym, subst, inl, inr}
use Rattle.std.specs.Prelude.{true, ⊤}
use Rattle.std.specs.List.{filter}
use Rattle.chart_world.specs.LineLaws.{lines_none, said}
use Rattle.chart_world.specs.Fronts.{says}
use Rattle.chart_frames.specs.declared.frame.Frame.{Frame}
use Rattle.request_lines.specs.declared.requests.Request.{Request}
use Rattle.request_lines.specs.Requests.{read_line}
use Rattle.series_book.specs.declared.edits.Edit.{Edit}
use Rattle.chart_service.specs.EditGroups.{SpellsEdit, SpellEdits}
use Rattle.chart_service.specs.ReadingBlocks.{ReadsRead, ReadsLine, ReadsFirst, ReadsInTurn, ReadsLines}
use Rattle.chart_service.specs.Replies.{line_text}
use Rattle.chart_service.specs.Serving.{unless_empty, RepliesToAll}
use Rattle.chart_service.specs.State.{State}
use Rattle.chart_service.specs.Stepping.{ReadsFew}
use Rattle.chart_service.proofs.ReadLemmas.{reads_none}
use Rattle.chart_service.proofs.Sending.{text_is}

-- ---- a line

read_none : (read : Result Request ℕ) (state : State) (n : ℕ) → ReadsRead read state n n
read_none (Err at) state n = refl
read_none (Ok request) state n = reads_none request state.book state.sessions n

-- a line may read nothing
pub line_none : (line : Option (List ℕ)) (state : State) (n : ℕ) → ReadsLine line state n n
line_none None state n = refl
line_none (Some text) state n = read_none (read_line text) state n

pub first_none : (lines : List (Option (List ℕ))) (state : State) (n : ℕ) → ReadsFirst lines state n n
first_none [] state n = refl
first_none (line ∷ later) state n = line_none line state n

-- it reads what its request may
pub line_reads : (line : List ℕ) (request : Request) (state : State) (old new : ℕ) → length line ≤ 8192 → read_line line ≡ Ok request
    → ReadsFew request state.book state.sessions old new → ReadsLine (line_text line) state old new
line_reads line request state old new short is reads =
    let L : Option (List ℕ) → Type 0 = λ l. ReadsLine l state old new in
    let R : Result Request ℕ → Type 0 = λ r. ReadsRead r state old new in
    subst L (sym (text_is line short)) (subst R (sym is) reads)

-- a line that isn't empty
pub text_reads : (text : List ℕ) (state : State) (old new : ℕ) → length text ≤ 8192 → says (Some text) ≡ true
    → ReadsLine (line_text text) state old new → ReadsFirst (unless_empty (Some text)) state old new
text_reads text state old new short some reads =
    let L : Option (List ℕ) → Type 0 = λ l. ReadsLine l state old new in
    let F : List (Option (List ℕ)) → Type 0 = λ l. ReadsFirst l state old new in
    subst F (sym (said (Some text) some)) (subst L (text_is text short) reads)

-- ---- lines in turn

-- one line at most
abbrev AreFew : List (Option (List ℕ)) → Type 0
AreFew [] = ⊤
AreFew (line ∷ later) = later ≡ []

few_lines : (line : Option (List ℕ)) → AreFew (unless_empty line)
few_lines None = refl
few_lines (Some []) = tt
few_lines (Some (byte ∷ bytes)) = refl

turn : (old new : State) (lines : List (Option (List ℕ))) (frames : List Frame) (from to : ℕ) → AreFew lines
    → RepliesToAll old lines frames new → ReadsFirst lines old from to → ReadsInTurn old lines frames new from to
turn old new [] [] from to few replied reads = (replied, reads)
turn old new [] (f ∷ fs) from to few replied reads = absurd replied
turn old new (l ∷ ls) [] from to few replied reads = absurd replied
turn old new (l ∷ []) (f ∷ []) from to few replied reads = (replied.0, to, replied.1, reads, (replied.2, refl))
turn old new (l ∷ []) (f ∷ (g ∷ fs)) from to few replied reads = absurd replied.2
turn old new (l ∷ (k ∷ ls)) (f ∷ fs) from to few replied reads = absurd (cc (few))

-- lines read what they may, however they are answered
abbrev pub ReadsTurn : List (Option (List ℕ)) → State → ℕ → ℕ → Type 0
ReadsTurn all state from to = (frames : List Frame) (new : State) → RepliesToAll state all frames new
    → ReadsInTurn state all frames new from to

pub one_turn : (line : Option (List ℕ)) (state : State) (from to : ℕ) → ReadsFirst (unless_empty line) state from to
    → ReadsTurn (unless_empty line) state from to
one_turn line state from to reads frames new replied = turn state new (unless_empty line) frames from to (few_lines line) replied reads

spelled_reads : (line : Option (List ℕ)) (edit : Edit) (state : State) (from to : ℕ) → SpellsEdit line edit → to ≤ from + 96
    → ReadsLine line state from to
spelled_reads None edit state from to spells most = absurd spells
spelled_reads (Some []) edit state from to spells most = absurd spells
spelled_reads (Some (b ∷ bs)) edit state from to spells most =
    let R : Result Request ℕ → Type 0 = λ r. ReadsRead r state from to in
    subst R (sym spells) most

-- edits read at most 96 blocks each
pub edits_turn : (all : List (Option (List ℕ))) (edits : List Edit) (state : State) (from to : ℕ) → SpellEdits all edits → from ≤ to
    → to ≤ from + 96 * length edits → ReadsTurn all state from to
edits_turn [] [] state from to spells low high [] new replied = (replied, omega (arith, low, high))
edits_turn [] [] state from to spells low high (f ∷ fs) new replied = absurd replied
edits_turn [] (e ∷ es) state from to spells low high frames new replied = absurd spells
edits_turn (l ∷ ls) [] state from to spells low high frames new replied = absurd spells
edits_turn (l ∷ ls) (e ∷ es) state from to spells low high [] new replied = absurd replied
edits_turn (l ∷ ls) (e ∷ es) state from to spells low high (f ∷ fs) new replied = elim (cases_lt (from + 96) to) [
  | inl more ↦ (
    replied.0,
    from + 96,
    replied.1,
    spelled_reads l e state from (from + 96) spells.0 (omega arith),
    edits_turn ls es replied.0 (from + 96) to spells.1 (omega (arith, more)) (omega (arith, high)) fs new replied.2,
  )
  | inr most ↦ (
    replied.0,
    to,
    replied.1,
    spelled_reads l e state from to spells.0 most,
    edits_turn ls es replied.0 to to spells.1 (omega arith) (omega arith) fs new replied.2,
  )
]

pub turns_joined : (old between new : State) (lines more : List (Option (List ℕ))) (frames answers : List Frame) (from count to : ℕ)
    → ReadsInTurn old lines frames between from count → ReadsInTurn between more answers new count to
    → ReadsInTurn old (lines ++ more) (frames ++ answers) new from to
turns_joined old between new [] more [] answers from count to first next =
    let S : State → Type 0 = λ s. ReadsInTurn s more answers new count to in
    let N : ℕ → Type 0 = λ n. ReadsInTurn old more answers new n to in
    subst N first.1 (subst S first.0 next)
turns_joined old between new [] more (f ∷ fs) answers from count to first next = absurd first
turns_joined old between new (l ∷ ls) more [] answers from count to first next = absurd first
turns_joined old between new (l ∷ ls) more (f ∷ fs) answers from count to first next = (
  first.0,
  first.1,
  first.2,
  first.3,
  turns_joined first.0 between new ls more fs answers first.1 count to first.4 next,
)

-- where no line was given
pub no_line_read : (o : Option (List ℕ)) (state : State) (count : ℕ) → IfSome o (λ input. ReadsLines input state count count)
no_line_read None state count = tt
no_line_read (Some input) state count =
    let T : List (Option (List ℕ)) → Type 0 = λ l. ReadsInTurn state (filter says l) [] state count count in
    record {
      front = [];
      rest = input;
      begins = record { split = refl; whole = inl (inl refl) };
      frames = [];
      between = state;
      count = count;
      answered = subst T (sym lines_none) (refl, refl);
      last = inl refl;
    }
