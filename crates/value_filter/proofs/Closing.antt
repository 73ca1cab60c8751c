-- What is closed behind an operand and behind a conjunction.
use Rattle.std.proofs.Common.{◌≡◌, List, [], ◌∷◌, ◌++◌, refl, sym, ap, ◌∙◌}
use Rattle.value_filter.specs.declared.steps.Step.{Step}
use Rattle.value_filter.specs.declared.steps.Step.TheVariants.{Not, And, Or}
use Rattle.value_filter.specs.declared.frames.Frame.{Frame}
use Rattle.value_filter.specs.declared.frames.Frame.TheVariants.{Disjunct, Conjunct, Negation, Parenthesis}
use Rattle.value_filter.specs.declared.parser.Phase.{Phase}
use Rattle.value_filter.specs.Reading.{State, completed, joined}
use Rattle.value_filter.proofs.Reached.{has}

pub completed_not : (frames to : List Frame) (steps written : List Step) (state : State) → frames ≡ Negation ∷ to
    → written ≡ steps ++ Not ∷ []
    → completed frames steps ≡ state → completed to written ≡ state
unfolding completed
completed_not frames to steps written state f w e = ap (completed to) w ∙ sym (ap (λ fs. completed fs steps) f) ∙ e

pub completed_and : (frames to : List Frame) (steps written : List Step) (state : State) → frames ≡ Conjunct ∷ to
    → written ≡ steps ++ And ∷ []
    → completed frames steps ≡ state → has to written ≡ state
unfolding completed
completed_and frames to steps written state f w e = ap (has to) w ∙ sym (ap (λ fs. completed fs steps) f) ∙ e

pub completed_else : (frames : List Frame) (steps : List Step) → ((to : List Frame) → frames ≡ Negation ∷ to → ⊥)
    → ((to : List Frame) → frames ≡ Conjunct ∷ to → ⊥)
    → completed frames steps ≡ has frames steps
unfolding completed
completed_else [] steps no_not no_and = refl
completed_else (Disjunct ∷ frames) steps no_not no_and = refl
completed_else (Conjunct ∷ frames) steps no_not no_and = absurd (no_and frames refl)
completed_else (Negation ∷ frames) steps no_not no_and = absurd (no_not frames refl)
completed_else (Parenthesis ∷ frames) steps no_not no_and = refl

pub completed_none : (frames same to : List Frame) (steps : List Step) (state : State) → same ≡ frames → to ≡ same
    → ((fs : List Frame) → frames ≡ Negation ∷ fs → ⊥) → ((fs : List Frame) → same ≡ Conjunct ∷ fs → ⊥)
    → completed frames steps ≡ state → has to steps ≡ state
completed_none frames same to steps state s t no_not no_and e =
    ap (λ fs. has fs steps) (t ∙ s) ∙ sym (completed_else frames steps no_not (λ fs h. no_and fs (s ∙ h))) ∙ e

pub joined_or : (phase : Phase) (frames to : List Frame) (steps written : List Step) (state : State)
    → record { phase = phase; frames = frames; steps = steps } ≡ state
    → frames ≡ Disjunct ∷ to → written ≡ steps ++ Or ∷ [] → has to written ≡ joined state.frames state.steps
unfolding joined
joined_or phase frames to steps written state e f w =
    ap (has to) w ∙ sym (ap (λ fs. joined fs steps) f) ∙ ap (λ (s : State). joined s.frames s.steps) e

joined_else : (frames : List Frame) (steps : List Step) → ((to : List Frame) → frames ≡ Disjunct ∷ to → ⊥)
    → joined frames steps ≡ has frames steps
unfolding joined
joined_else [] steps no_or = refl
joined_else (Disjunct ∷ frames) steps no_or = absurd (no_or frames refl)
joined_else (Conjunct ∷ frames) steps no_or = refl
joined_else (Negation ∷ frames) steps no_or = refl
joined_else (Parenthesis ∷ frames) steps no_or = refl

pub joined_none : (phase : Phase) (frames to : List Frame) (steps : List Step) (state : State)
    → record { phase = phase; frames = frames; steps = steps } ≡ state
    → to ≡ frames → ((fs : List Frame) → frames ≡ Disjunct ∷ fs → ⊥) → has to steps ≡ joined state.frames state.steps
joined_none phase frames to steps state e t no_or =
    ap (λ fs. has fs steps) t ∙ sym (joined_else frames steps no_or) ∙ ap (λ (s : State). joined s.frames s.steps) e
