-- Taking the tokens of a phrase, one by one, gives the steps of its expression.
use Rattle.std.proofs.Common.{◌≡◌, ℕ, suc, ◌+◌, ◌<◌, true, List, [], ◌∷◌, ◌++◌, Option, Some, None, refl, ap, ◌∙◌, append_assoc, arith}
use Rattle.std.proofs.Common.{nat_lt, if◌then◌else◌}
use Rattle.std.specs.Option.{option_and_then}
use Rattle.std.proofs.lemmas.Option.{same_Some}
use Rattle.std.proofs.lemmas.Bool.Decides.{nat_tests}
use Rattle.value_filter.specs.declared.steps.Step.{Step}
use Rattle.value_filter.specs.declared.steps.Step.TheVariants.{Test, Not, And, Or}
use Rattle.value_filter.specs.declared.tokens.Token.{Token}
use Rattle.value_filter.specs.declared.tokens.Token.TheVariants.{Subject as SubjectToken, Sign, Number, AndWord, OrWord, NotWord, Open}
use Rattle.value_filter.specs.declared.tokens.Token.TheVariants.{Close}
use Rattle.value_filter.specs.declared.frames.Frame.{Frame}
use Rattle.value_filter.specs.declared.frames.Frame.TheVariants.{Disjunct, Conjunct, Negation, Parenthesis}
use Rattle.value_filter.specs.declared.parser.Phase.TheVariants.{AwaitsOperand, HasOperand}
use Rattle.value_filter.specs.Expressions.{Expression}
use Rattle.value_filter.specs.Steps.{postfix}
use Rattle.value_filter.specs.Grammar.{Phrase, Disjunction, Conjunction, Operand, Derives, atom, negation, group, operand, both}
use Rattle.value_filter.specs.Grammar.{conjunction, either, AreFilter}
use Rattle.value_filter.specs.Reading.{State, opened, initial, completed, joined, opening, closed, begun, compared, numbered, continued}
use Rattle.value_filter.specs.Reading.{taken, left_over, finished}

-- the state behind tokens
abbrev pub taken_all : List Token → State → Option State
taken_all [] state = Some state
taken_all (token ∷ tokens) state = option_and_then (taken_all tokens) (taken token state)

-- the states of the two phases that a phrase begins and ends with
abbrev pub awaits : List Frame → List Step → State
awaits frames steps = record { phase = AwaitsOperand; frames = frames; steps = steps }

abbrev pub has : List Frame → List Step → State
has frames steps = record { phase = HasOperand; frames = frames; steps = steps }

-- frames before which a conjunction or a disjunction begins
abbrev pub Fits : Phrase → List Frame → Type 0
Fits Operand frames = Unit {0}
Fits Conjunction [] = Unit {0}
Fits Conjunction (Disjunct ∷ frames) = Unit {0}
Fits Conjunction (Conjunct ∷ frames) = ⊥
Fits Conjunction (Negation ∷ frames) = ⊥
Fits Conjunction (Parenthesis ∷ frames) = Unit {0}
Fits Disjunction [] = Unit {0}
Fits Disjunction (Disjunct ∷ frames) = ⊥
Fits Disjunction (Conjunct ∷ frames) = ⊥
Fits Disjunction (Negation ∷ frames) = ⊥
Fits Disjunction (Parenthesis ∷ frames) = Unit {0}

pub Fits-conjunction : (frames : List Frame) → Fits Disjunction frames → Fits Conjunction frames
Fits-conjunction [] fits = tt
Fits-conjunction (Disjunct ∷ frames) fits = tt
Fits-conjunction (Conjunct ∷ frames) fits = fits
Fits-conjunction (Negation ∷ frames) fits = fits
Fits-conjunction (Parenthesis ∷ frames) fits = tt

pub completed-fits : (frames : List Frame) (steps : List Step) → Fits Conjunction frames → completed frames steps ≡ has frames steps
unfolding completed
completed-fits [] steps fits = refl
completed-fits (Disjunct ∷ frames) steps fits = refl
completed-fits (Conjunct ∷ frames) steps fits = absurd fits
completed-fits (Negation ∷ frames) steps fits = absurd fits
completed-fits (Parenthesis ∷ frames) steps fits = refl

pub joined-fits : (frames : List Frame) (steps : List Step) → Fits Disjunction frames → joined frames steps ≡ has frames steps
unfolding joined
joined-fits [] steps fits = refl
joined-fits (Disjunct ∷ frames) steps fits = absurd fits
joined-fits (Conjunct ∷ frames) steps fits = absurd fits
joined-fits (Negation ∷ frames) steps fits = absurd fits
joined-fits (Parenthesis ∷ frames) steps fits = refl

-- tokens behind tokens
goes_step : (next : Option State) (tokens more : List Token) (to : State)
    → ((state : State) → taken_all tokens state ≡ Some to → taken_all (tokens ++ more) state ≡ taken_all more to)
    → option_and_then (taken_all tokens) next ≡ Some to → option_and_then (taken_all (tokens ++ more)) next ≡ taken_all more to
goes_step None tokens more to again e = cc
goes_step (Some state) tokens more to again e = again state e

pub goes : (tokens more : List Token) (from to : State) → taken_all tokens from ≡ Some to
    → taken_all (tokens ++ more) from ≡ taken_all more to
goes [] more from to e = ap (taken_all more) (same_Some from to e)
goes (token ∷ tokens) more from to e = goes_step (taken token from) tokens more to (λ state h. goes tokens more state to h) e

-- nothing stands behind a token that can't stand there
pub stuck : (tokens more : List Token) (token : Token) (from to : State) → taken_all tokens from ≡ Some to → taken token to ≡ None
    → taken_all (tokens ++ (token ∷ more)) from ≡ None
stuck tokens more token from to e none = goes tokens (token ∷ more) from to e ∙ ap (option_and_then (taken_all more)) none

-- what taking the tokens of a phrase gives
abbrev pub Completes : Phrase → ℕ → List Token → Expression → Type 0
Completes Operand room tokens f = (frames : List Frame) (steps : List Step) → opened frames + room ≡ 64
    → taken_all tokens (awaits frames steps) ≡ Some (completed frames (steps ++ postfix f))
Completes Conjunction room tokens f = (frames : List Frame) (steps : List Step) → opened frames + room ≡ 64 → Fits Conjunction frames
    → taken_all tokens (awaits frames steps) ≡ Some (has frames (steps ++ postfix f))
Completes Disjunction room tokens f = (frames : List Frame) (steps : List Step) → opened frames + room ≡ 64 → Fits Disjunction frames
    → (reached_frames : List Frame) × (reached_steps : List Step)
    × (taken_all tokens (awaits frames steps) ≡ Some (has reached_frames reached_steps))
    × (joined reached_frames reached_steps ≡ has frames (steps ++ postfix f))

opens : (frame : Frame) (frames : List Frame) (steps : List Step) (room : ℕ) → opened frames + suc room ≡ 64
    → opening frame (awaits frames steps) ≡ Some (awaits (frame ∷ frames) steps)
unfolding opening
opens frame frames steps room e =
    let below : opened frames < 64 = omega arith in
    let open_one : nat_lt (opened frames) 64 ≡ true = grind (arith, nat_tests) in
    ap (λ b. if b then Some (awaits (frame ∷ frames) steps) else None) open_one

takes-atom : (s : _) (c : _) (n : _) (frames : List Frame) (steps : List Step)
    → taken_all (SubjectToken s ∷ (Sign c ∷ (Number n ∷ []))) (awaits frames steps) ≡ Some
    (completed frames (steps ++ Test (record { subject = s; comparison = c; number = n }) ∷ []))
unfolding taken begun compared numbered
takes-atom s c n frames steps = refl

takes-not : (tokens : List Token) (frames : List Frame) (steps : List Step) (room : ℕ) → opened frames + suc room ≡ 64
    → taken_all (NotWord ∷ tokens) (awaits frames steps) ≡ taken_all tokens (awaits (Negation ∷ frames) steps)
unfolding taken begun
takes-not tokens frames steps room e = ap (option_and_then (taken_all tokens)) (opens Negation frames steps room e)

takes-open : (tokens : List Token) (frames : List Frame) (steps : List Step) (room : ℕ) → opened frames + suc room ≡ 64
    → taken_all (Open ∷ tokens) (awaits frames steps) ≡ taken_all tokens (awaits (Parenthesis ∷ frames) steps)
unfolding taken begun
takes-open tokens frames steps room e = ap (option_and_then (taken_all tokens)) (opens Parenthesis frames steps room e)

takes-and : (tokens : List Token) (frames : List Frame) (steps : List Step)
    → taken_all (AndWord ∷ tokens) (has frames steps) ≡ taken_all tokens (awaits (Conjunct ∷ frames) steps)
unfolding taken continued
takes-and tokens frames steps = refl

takes-or : (tokens : List Token) (frames to : List Frame) (steps written : List Step) → joined frames steps ≡ has to written
    → taken_all (OrWord ∷ tokens) (has frames steps) ≡ taken_all tokens (awaits (Disjunct ∷ to) written)
unfolding taken continued
takes-or tokens frames to steps written e = ap (λ (state : State). taken_all tokens (awaits (Disjunct ∷ state.frames) state.steps)) e

takes-close : (frames to : List Frame) (steps written : List Step) → joined frames steps ≡ has (Parenthesis ∷ to) written
    → taken_all (Close ∷ []) (has frames steps) ≡ Some (completed to written)
unfolding taken continued closed
takes-close frames to steps written e = ap (λ (state : State). option_and_then (taken_all []) (closed state.frames state.steps)) e

pub complete : {phrase : Phrase} {room : ℕ} {tokens : List Token} {f : Expression} → Derives phrase room tokens f
    → Completes phrase room tokens f
unfolding completed joined
complete (atom room s c n) = λ frames steps e. takes-atom s c n frames steps
complete (negation room tokens f d) = λ frames steps e.
    takes-not tokens frames steps room e
    ∙ complete d (Negation ∷ frames) steps (omega arith)
    ∙ ap (λ written. Some (completed frames written)) (append_assoc steps (postfix f) (Not ∷ []))
complete (group room tokens f d) = λ frames steps e.
    let room_left : (opened frames + 1) + room ≡ 64 = omega arith in
    let inner = complete d (Parenthesis ∷ frames) steps room_left tt in
    takes-open (tokens ++ Close ∷ []) frames steps room e
    ∙ goes tokens (Close ∷ []) (awaits (Parenthesis ∷ frames) steps) (has inner.0 inner.1) inner.2
    ∙ takes-close inner.0 frames inner.1 (steps ++ postfix f) inner.3
complete (operand room tokens f d) = λ frames steps e fits.
    complete d frames steps e ∙ ap Some (completed-fits frames (steps ++ postfix f) fits)
complete (both room first second f g d b) = λ frames steps e fits.
    goes first (AndWord ∷ second) (awaits frames steps) (has frames (steps ++ postfix f)) (complete d frames steps e fits)
    ∙ takes-and second frames (steps ++ postfix f)
    ∙ complete b (Conjunct ∷ frames) (steps ++ postfix f) e
    ∙ ap (λ written. Some (has frames written)) (append_assoc (steps ++ postfix f) (postfix g) (And ∷ [])
    ∙ append_assoc steps (postfix f) (postfix g ++ And ∷ []))
complete (conjunction room tokens f d) = λ frames steps e fits.
    (frames, steps ++ postfix f, complete d frames steps e (Fits-conjunction frames fits), joined-fits frames (steps ++ postfix f) fits)
complete (either room first second f g d b) = λ frames steps e fits.
    let left = complete d frames steps e fits in (
      Disjunct ∷ frames,
      (steps ++ postfix f) ++ postfix g,
      goes first (OrWord ∷ second) (awaits frames steps) (has left.0 left.1) left.2
          ∙ takes-or second left.0 frames left.1 (steps ++ postfix f) left.3
          ∙ complete b (Disjunct ∷ frames) (steps ++ postfix f) e tt,
      ap (has frames) (append_assoc (steps ++ postfix f) (postfix g) (Or ∷ []) ∙ append_assoc steps (postfix f) (postfix g ++ Or ∷ [])),
    )

-- the tokens of a filter are taken, and its steps are what is left
pub complete_all : (tokens : List Token) (f : Expression) → AreFilter tokens f
    → (state : State) × (taken_all tokens initial ≡ Some state) × (finished state ≡ Some (postfix f))
unfolding finished
complete_all tokens f d =
    let whole = complete d [] [] refl tt in (
      has whole.0 whole.1,
      whole.2,
      ap (λ (state : State). left_over state.frames state.steps) whole.3,
    )
