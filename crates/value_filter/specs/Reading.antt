-- How tokens are taken one by one. Each answer is the state behind a token, or nothing where it can't
-- stand there.
use Rattle.std.specs.Prelude.{◌≡◌, ℕ, ◌+◌, nat_lt, if◌then◌else◌, List, [], ◌∷◌, ◌++◌, Option, Some, None}
use Rattle.value_filter.specs.declared.atoms.Subject.{Subject}
use Rattle.value_filter.specs.declared.atoms.Comparison.{Comparison}
use Rattle.value_filter.specs.declared.steps.Step.{Step}
use Rattle.value_filter.specs.declared.steps.Step.TheVariants.{Test, Not, And, Or}
use Rattle.value_filter.specs.declared.steps.TheConstants.{OPEN_AT_ONCE}
use Rattle.value_filter.specs.declared.faults.FilterFault.{FilterFault}
use Rattle.value_filter.specs.declared.faults.FilterFault.TheVariants.{At, NoMemory}
use Rattle.value_filter.specs.declared.tokens.Token.{Token}
use Rattle.value_filter.specs.declared.tokens.Token.TheVariants.{Subject as SubjectToken, Sign, Number, AndWord, OrWord, NotWord, Open}
use Rattle.value_filter.specs.declared.tokens.Token.TheVariants.{Close}
use Rattle.value_filter.specs.declared.frames.Frame.{Frame}
use Rattle.value_filter.specs.declared.frames.Frame.TheVariants.{Disjunct, Conjunct, Negation, Parenthesis}
use Rattle.value_filter.specs.declared.parser.Phase.{Phase}
use Rattle.value_filter.specs.declared.parser.Phase.TheVariants.{AwaitsOperand, AwaitsSign, AwaitsNumber, HasOperand}

-- what is awaited, what is open, the innermost first, and the steps so far
pub record State : Type 0 where
  pub phase : Phase
  pub frames : List Frame
  pub steps : List Step

-- how many of `not` and `(` are open
abbrev pub opened : List Frame → ℕ
opened [] = 0
opened (Disjunct ∷ frames) = opened frames
opened (Conjunct ∷ frames) = opened frames
opened (Negation ∷ frames) = opened frames + 1
opened (Parenthesis ∷ frames) = opened frames + 1

abbrev pub initial : State
initial = record { phase = AwaitsOperand; frames = []; steps = [] }

-- the state behind an operand: the `not`s before it are closed, and then the `and` before these
unfoldable pub completed : List Frame → List Step → State
completed [] steps = record { phase = HasOperand; frames = []; steps = steps }
completed (Disjunct ∷ frames) steps = record { phase = HasOperand; frames = Disjunct ∷ frames; steps = steps }
completed (Conjunct ∷ frames) steps = record { phase = HasOperand; frames = frames; steps = steps ++ And ∷ [] }
completed (Negation ∷ frames) steps = completed frames (steps ++ Not ∷ [])
completed (Parenthesis ∷ frames) steps = record { phase = HasOperand; frames = Parenthesis ∷ frames; steps = steps }

-- the state behind a conjunction: the `or` before it is closed
unfoldable pub joined : List Frame → List Step → State
joined [] steps = record { phase = HasOperand; frames = []; steps = steps }
joined (Disjunct ∷ frames) steps = record { phase = HasOperand; frames = frames; steps = steps ++ Or ∷ [] }
joined (Conjunct ∷ frames) steps = record { phase = HasOperand; frames = Conjunct ∷ frames; steps = steps }
joined (Negation ∷ frames) steps = record { phase = HasOperand; frames = Negation ∷ frames; steps = steps }
joined (Parenthesis ∷ frames) steps = record { phase = HasOperand; frames = Parenthesis ∷ frames; steps = steps }

-- an open frame more, and an operand is awaited
abbrev pub awaiting : Frame → State → State
awaiting frame state = record { phase = AwaitsOperand; frames = frame ∷ state.frames; steps = state.steps }

unfoldable pub opening : Frame → State → Option State
opening frame state = if nat_lt (opened state.frames) OPEN_AT_ONCE then Some (awaiting frame state) else None

-- behind `)`, which closes an open `(`
unfoldable pub closed : List Frame → List Step → Option State
closed (Parenthesis ∷ frames) steps = Some (completed frames steps)
closed _ steps = None

-- behind a token where an operand is awaited
unfoldable pub begun : Token → State → Option State
begun (SubjectToken subject) state = Some (record { phase = AwaitsSign subject; frames = state.frames; steps = state.steps })
begun NotWord state = opening Negation state
begun Open state = opening Parenthesis state
begun _ state = None

unfoldable pub compared : Subject → Token → State → Option State
compared subject (Sign comparison) state = Some (record {
  phase = AwaitsNumber subject comparison;
  frames = state.frames;
  steps = state.steps;
})
compared subject _ state = None

unfoldable pub numbered : Subject → Comparison → Token → State → Option State
numbered subject comparison (Number number) state =
    Some (completed state.frames (state.steps ++ Test (record { subject = subject; comparison = comparison; number = number }) ∷ []))
numbered subject comparison _ state = None

-- behind a token where an operand stands
unfoldable pub continued : Token → State → Option State
continued AndWord state = Some (awaiting Conjunct state)
continued OrWord state = Some (awaiting Disjunct (joined state.frames state.steps))
continued Close state = let all = joined state.frames state.steps in closed all.frames all.steps
continued _ state = None

-- behind a token
abbrev pub taken_in : Phase → Token → State → Option State
taken_in AwaitsOperand token state = begun token state
taken_in (AwaitsSign subject) token state = compared subject token state
taken_in (AwaitsNumber subject comparison) token state = numbered subject comparison token state
taken_in HasOperand token state = continued token state

unfoldable pub taken : Token → State → Option State
taken token state = taken_in state.phase token state

-- the steps where the text may end
abbrev pub left_over : List Frame → List Step → Option (List Step)
left_over [] steps = Some steps
left_over _ steps = None

abbrev pub finished_in : Phase → State → Option (List Step)
finished_in HasOperand state = let all = joined state.frames state.steps in left_over all.frames all.steps
finished_in _ state = None

unfoldable pub finished : State → Option (List Step)
finished state = finished_in state.phase state

-- what is said where there is no next state
abbrev pub Refuses : {A : Type 0} → Option A → ℕ → FilterFault → Type 0
Refuses next offset (At at) = (next ≡ None) × (at ≡ offset)
Refuses next offset NoMemory = Unit {0}
