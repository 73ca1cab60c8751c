-- Which lines are requests.
use Rattle.std.specs.Prelude.{◌≡◌, ℕ, ℤ, ◌≤◌, ◌^◌, List, [], ◌∷◌, Option, None, Some, IsTrue, unsigned_abs}
use Rattle.whole_number.specs.Spelling.{SpellsNatural, SpellsInteger}
use Rattle.series_book.specs.Names.{is_name}
use Rattle.request_lines.specs.Spelling.{SpellsRange}
use Rattle.request_lines.specs.Tokens.{tokens}
use Rattle.derive_command.specs.declared.request.Request.{Request}
use Rattle.derive_command.specs.declared.tokens.Words.{Words}
use Rattle.derive_command.specs.declared.tokens.Numbers.{Numbers}

-- a factor is at most 10^9 in size
abbrev pub IsFactor : ℤ → Type 0
IsFactor factor = unsigned_abs factor ≤ 10 ^ 9

-- nine words, in the order of a line
abbrev pub words_of : Words → List (List ℕ)
words_of w = w.first.now ∷ w.second.now ∷ w.a.now ∷ w.b.now ∷ w.w.now ∷ w.h.now ∷ w.t0.now ∷ w.t1.now ∷ w.range.now ∷ []

-- the words are NAME NAME A B W H T0 T1 RANGE with what is asked for
pub record SpellsWords (r : Request) (words : List (List ℕ)) : Type 0 where
  pub a : List ℕ
  pub b : List ℕ
  pub w : List ℕ
  pub h : List ℕ
  pub t0 : List ℕ
  pub t1 : List ℕ
  pub range : List ℕ
  pub words_are : words ≡ r.first ∷ r.second ∷ a ∷ b ∷ w ∷ h ∷ t0 ∷ t1 ∷ range ∷ []
  pub first_is : IsTrue (is_name r.first)
  pub second_is : IsTrue (is_name r.second)
  pub a_is : SpellsInteger a r.a
  pub b_is : SpellsInteger b r.b
  pub a_small : IsFactor r.a
  pub b_small : IsFactor r.b
  pub w_is : SpellsNatural w r.w
  pub h_is : SpellsNatural h r.h
  pub t0_is : SpellsInteger t0 r.t0
  pub t1_is : SpellsInteger t1 r.t1
  pub range_is : SpellsRange r.range range

-- a line spells a request: its tokens, which single spaces part, are the words of the request
abbrev pub Spells : Request → List ℕ → Type 0
Spells request line = SpellsWords request (tokens line)

-- a line says a request; one that is too long says none
abbrev pub Says : Option (List ℕ) → Request → Type 0
Says None request = ⊥
Says (Some text) request = Spells request text

-- a line says no request
abbrev pub SaysNone : Option (List ℕ) → Type 0
SaysNone line = (request : Request) → Says line request → ⊥

-- the words that are no names spell these numbers and this range
pub record SpellsNumbers (words : Words) (n : Numbers) : Type 0 where
  pub a_is : SpellsInteger words.a.now n.a
  pub b_is : SpellsInteger words.b.now n.b
  pub a_small : IsFactor n.a
  pub b_small : IsFactor n.b
  pub w_is : SpellsNatural words.w.now n.w
  pub h_is : SpellsNatural words.h.now n.h
  pub t0_is : SpellsInteger words.t0.now n.t0
  pub t1_is : SpellsInteger words.t1.now n.t1
  pub range_is : SpellsRange n.range words.range.now
