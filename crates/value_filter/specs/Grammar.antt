-- The grammar of filters, and where a text leaves it.
use Rattle.std.specs.Prelude.{◌≡◌, ℕ, suc, ℤ, ◌+◌, List, [], ◌∷◌, ◌++◌, length, MatchResult, Result}
use Rattle.value_filter.specs.declared.atoms.Subject.{Subject}
use Rattle.value_filter.specs.declared.atoms.Comparison.{Comparison}
use Rattle.value_filter.specs.declared.steps.Step.{Step}
use Rattle.value_filter.specs.declared.steps.TheConstants.{OPEN_AT_ONCE}
use Rattle.value_filter.specs.declared.faults.FilterFault.{FilterFault}
use Rattle.value_filter.specs.declared.faults.FilterFault.TheVariants.{At, NoMemory}
use Rattle.value_filter.specs.declared.tokens.Token.{Token}
use Rattle.value_filter.specs.declared.tokens.Token.TheVariants.{Subject as SubjectToken, Sign, Number, AndWord, OrWord, NotWord, Open}
use Rattle.value_filter.specs.declared.tokens.Token.TheVariants.{Close}
use Rattle.value_filter.specs.Expressions.{Expression, Compare, Negate, Both, Either}
use Rattle.value_filter.specs.Steps.{expression_of}
use Rattle.value_filter.specs.Pieces.{past_spaces, next_piece, Spells, Begins}

-- the phrases of the grammar: expr, conj and unit
pub data Phrase : Type 0 where
  Disjunction : Phrase
  Conjunction : Phrase
  Operand : Phrase

-- the tokens are a phrase that says the expression, and in which at most `room` of `not` and `(` are
-- open at once
pub data Derives : Phrase → ℕ → List Token → Expression → Type 0 where
  -- unit = atom | "not" unit | "(" expr ")"
  atom : (room : ℕ) (subject : Subject) (comparison : Comparison) (number : ℤ) →
      Derives Operand room (SubjectToken subject ∷ (Sign comparison ∷ (Number number ∷ [])))
      (Compare (record { subject = subject; comparison = comparison; number = number }))
  negation : (room : ℕ) (tokens : List Token) (f : Expression) → Derives Operand room tokens f →
      Derives Operand (suc room) (NotWord ∷ tokens) (Negate f)
  group : (room : ℕ) (tokens : List Token) (f : Expression) → Derives Disjunction room tokens f →
      Derives Operand (suc room) (Open ∷ (tokens ++ Close ∷ [])) f
  -- conj = unit | conj "and" unit
  operand : (room : ℕ) (tokens : List Token) (f : Expression) → Derives Operand room tokens f →
      Derives Conjunction room tokens f
  both : (room : ℕ) (first second : List Token) (f g : Expression) → Derives Conjunction room first f →
      Derives Operand room second g → Derives Conjunction room (first ++ AndWord ∷ second) (Both f g)
  -- expr = conj | expr "or" conj
  conjunction : (room : ℕ) (tokens : List Token) (f : Expression) → Derives Conjunction room tokens f →
      Derives Disjunction room tokens f
  either : (room : ℕ) (first second : List Token) (f g : Expression) → Derives Disjunction room first f →
      Derives Conjunction room second g → Derives Disjunction room (first ++ OrWord ∷ second) (Either f g)

-- the tokens are a whole filter
abbrev pub AreFilter : List Token → Expression → Type 0
AreFilter tokens f = Derives Disjunction OPEN_AT_ONCE tokens f

-- some filter begins with the tokens
abbrev pub MayBegin : List Token → Type 0
MayBegin tokens = (rest : List Token) × (f : Expression) × AreFilter (tokens ++ rest) f

-- the text spells the filter
pub record IsFilter (text : List ℕ) (f : Expression) : Type 0 where
  pub tokens : List Token
  pub rest : List ℕ
  pub begins : Begins text tokens rest
  pub blank : past_spaces rest ≡ []
  pub derives : AreFilter tokens f

-- the text leaves the grammar at this offset: what stands before it may begin a filter; the piece
-- there, if one does, is no token with which a filter may go on; and if none does, the text's tokens
-- are no filter
pub record LeavesAt (text : List ℕ) (at : ℕ) : Type 0 where
  pub tokens : List Token
  pub rest : List ℕ
  pub begins : Begins text tokens rest
  pub may_begin : MayBegin tokens
  pub stops : (token : Token) → Spells (next_piece rest) token → MayBegin (tokens ++ token ∷ []) → ⊥
  pub unfinished : past_spaces rest ≡ [] → (f : Expression) → AreFilter tokens f → ⊥
  pub place : at + length (past_spaces rest) ≡ length text

abbrev pub RefusesText : List ℕ → FilterFault → Type 0
RefusesText text (At at) = LeavesAt text at
RefusesText text NoMemory = Unit {0}

-- the filter is what reading gives, unless memory ran out
abbrev pub Gives : Expression → Result (List Step) FilterFault → Type 0
Gives f result = MatchResult result (λ steps. expression_of steps ≡ f) (λ fault. fault ≡ NoMemory)
