-- Telling steps on a box gives the answers of their expressions.
use Rattle.std.proofs.Common.{◌≡◌, ℕ, suc, ◌+◌, ◌<◌, ◌≤◌, true, List, [], ◌∷◌, ◌++◌, length, drop, Option, Some, None, refl, sym, ap, ◌∙◌}
use Rattle.std.proofs.Common.{subst, arith, nat_lt, ◌*◌, max, append_assoc, append-nil, if◌then◌else◌, get_or, add-one, drop-cons}
use Rattle.std.proofs.lemmas.List.{drop_all}
use Rattle.std.specs.Option.{option_and_then}
use Rattle.std.proofs.lemmas.Option.{same_Some, cond_some}
use Rattle.std.proofs.lemmas.Bool.Decides.{nat_tests}
use Rattle.value_filter.specs.declared.atoms.Atom.{Atom}
use Rattle.value_filter.specs.declared.box_answers.BoxAnswer.{BoxAnswer}
use Rattle.value_filter.specs.declared.steps.Step.{Step}
use Rattle.value_filter.specs.declared.steps.Step.TheVariants.{Test, Not, And, Or}
use Rattle.value_filter.specs.Expressions.{Expression, Compare, Negate, Both, Either}
use Rattle.value_filter.specs.Boxes.{Interval, IsAnswer, IsAtomAnswer, interval_of, negated, both_of, either_of}
use Rattle.value_filter.specs.Steps.{after_step, rebuilt, expression_of, postfix, AreOfExpression}
use Rattle.value_filter.specs.Telling.{HasRoom, AreAnswers}
use Rattle.value_filter.specs.declared.tokens.Token.{Token}
use Rattle.value_filter.specs.Grammar.{Phrase, Disjunction, Conjunction, Operand, Derives, atom as compare, negation, group, operand, both}
use Rattle.value_filter.specs.Grammar.{conjunction, either, AreFilter}

pub answers-length : (pending : List Expression) (times values : Interval) (answers : List BoxAnswer)
    → AreAnswers pending times values answers → length answers ≡ length pending
answers-length [] times values [] are = refl
answers-length [] times values (a ∷ answers) are = absurd are
answers-length (f ∷ pending) times values [] are = absurd are
answers-length (f ∷ pending) times values (a ∷ answers) are = ap suc (answers-length pending times values answers are.1)

-- where there is a state behind the step, there is room for it
has_room : (step : Step) (pending next : List Expression) → after_step step pending ≡ Some next → HasRoom step (length pending)
unfolding after_step
has_room (Test atom) pending next e =
    let test = (cond_some (nat_lt (length pending) 131) (Compare atom ∷ pending) next e).0 in
    grind (arith, nat_tests)
has_room Not [] next e = cc
has_room Not (f ∷ pending) next e = omega arith
has_room And [] next e = cc
has_room And (g ∷ []) next e = cc
has_room And (g ∷ (f ∷ pending)) next e = omega arith
has_room Or [] next e = cc
has_room Or (g ∷ []) next e = cc
has_room Or (g ∷ (f ∷ pending)) next e = omega arith

pub answers_have_room : (step : Step) (pending next : List Expression) (times values : Interval) (answers : List BoxAnswer)
    → AreAnswers pending times values answers → after_step step pending ≡ Some next → HasRoom step (length answers)
answers_have_room step pending next times values answers are e =
    let P : ℕ → Type 0 = λ n. HasRoom step n in
    subst P (sym (answers-length pending times values answers are)) (has_room step pending next e)

told_test_at : (atom : Atom) (pending next : List Expression) (times values : Interval) (answers : List BoxAnswer) (answer : BoxAnswer)
    → IsAtomAnswer atom (interval_of atom.subject times values) answer → AreAnswers pending times values answers
    → after_step (Test atom) pending ≡ Some next
    → AreAnswers next times values (answer ∷ answers)
unfolding after_step
told_test_at atom pending next times values answers answer is are e =
    let found = cond_some (nat_lt (length pending) 131) (Compare atom ∷ pending) next e in
    let P : List Expression → Type 0 = λ fs. AreAnswers fs times values (answer ∷ answers) in
    subst P found.1 (is, are)

told_not_at : (pending next : List Expression) (times values : Interval) (answers new : List BoxAnswer)
    → AreAnswers pending times values answers → after_step Not pending ≡ Some next
    → ((a : BoxAnswer) (below : List BoxAnswer) → answers ≡ a ∷ below → new ≡ negated a ∷ below) → AreAnswers next times values new
unfolding after_step
told_not_at [] next times values answers new are e h = cc
told_not_at (f ∷ pending) next times values [] new are e h = absurd are
told_not_at (f ∷ pending) next times values (a ∷ answers) new are e h =
    let P : List Expression → Type 0 = λ fs. AreAnswers fs times values new in
    let Q : List BoxAnswer → Type 0 = λ xs. AreAnswers (Negate f ∷ pending) times values xs in
    subst P (same_Some (Negate f ∷ pending) next e) (subst Q (sym (h a answers refl)) ((a, are.0, refl), are.1))

told_and_at : (pending next : List Expression) (times values : Interval) (answers new : List BoxAnswer)
    → AreAnswers pending times values answers → after_step And pending ≡ Some next
    → ((a b : BoxAnswer) (below : List BoxAnswer) → answers ≡ b ∷ (a ∷ below) → new ≡ both_of a b ∷ below)
    → AreAnswers next times values new
unfolding after_step
told_and_at [] next times values answers new are e h = cc
told_and_at (g ∷ []) next times values answers new are e h = cc
told_and_at (g ∷ (f ∷ pending)) next times values [] new are e h = absurd are
told_and_at (g ∷ (f ∷ pending)) next times values (b ∷ []) new are e h = absurd are.1
told_and_at (g ∷ (f ∷ pending)) next times values (b ∷ (a ∷ answers)) new are e h =
    let P : List Expression → Type 0 = λ fs. AreAnswers fs times values new in
    let Q : List BoxAnswer → Type 0 = λ xs. AreAnswers (Both f g ∷ pending) times values xs in
    subst P (same_Some (Both f g ∷ pending) next e) (subst Q (sym (h a b answers refl)) ((a, b, are.1.0, are.0, refl), are.1.1))

told_or_at : (pending next : List Expression) (times values : Interval) (answers new : List BoxAnswer)
    → AreAnswers pending times values answers → after_step Or pending ≡ Some next
    → ((a b : BoxAnswer) (below : List BoxAnswer) → answers ≡ b ∷ (a ∷ below) → new ≡ either_of a b ∷ below)
    → AreAnswers next times values new
unfolding after_step
told_or_at [] next times values answers new are e h = cc
told_or_at (g ∷ []) next times values answers new are e h = cc
told_or_at (g ∷ (f ∷ pending)) next times values [] new are e h = absurd are
told_or_at (g ∷ (f ∷ pending)) next times values (b ∷ []) new are e h = absurd are.1
told_or_at (g ∷ (f ∷ pending)) next times values (b ∷ (a ∷ answers)) new are e h =
    let P : List Expression → Type 0 = λ fs. AreAnswers fs times values new in
    let Q : List BoxAnswer → Type 0 = λ xs. AreAnswers (Either f g ∷ pending) times values xs in
    subst P (same_Some (Either f g ∷ pending) next e) (subst Q (sym (h a b answers refl)) ((a, b, are.1.0, are.0, refl), are.1.1))

pub told_test : (step : Step) (atom : Atom) (pending next : List Expression) (times values : Interval) (answers new : List BoxAnswer)
    (answer : BoxAnswer) → step ≡ Test atom → new ≡ answer ∷ answers
    → IsAtomAnswer atom (interval_of atom.subject times values) answer → AreAnswers pending times values answers
    → after_step step pending ≡ Some next
    → AreAnswers next times values new
told_test step atom pending next times values answers new answer is pushed holds are e =
    let P : List BoxAnswer → Type 0 = λ xs. AreAnswers next times values xs in
    subst P (sym pushed) (told_test_at atom pending next times values answers answer holds are (ap (λ s. after_step s pending) (sym is)
    ∙ e))

pub told_not : (step : Step) (pending next : List Expression) (times values : Interval) (answers new : List BoxAnswer) → step ≡ Not
    → AreAnswers pending times values answers → after_step step pending ≡ Some next
    → ((a : BoxAnswer) (below : List BoxAnswer) → answers ≡ a ∷ below → new ≡ negated a ∷ below) → AreAnswers next times values new
told_not step pending next times values answers new is are e h =
    told_not_at pending next times values answers new are (ap (λ s. after_step s pending) (sym is) ∙ e) h

pub told_and : (step : Step) (pending next : List Expression) (times values : Interval) (answers new : List BoxAnswer) → step ≡ And
    → AreAnswers pending times values answers → after_step step pending ≡ Some next
    → ((a b : BoxAnswer) (below : List BoxAnswer) → answers ≡ b ∷ (a ∷ below) → new ≡ both_of a b ∷ below)
    → AreAnswers next times values new
told_and step pending next times values answers new is are e h =
    told_and_at pending next times values answers new are (ap (λ s. after_step s pending) (sym is) ∙ e) h

pub told_or : (step : Step) (pending next : List Expression) (times values : Interval) (answers new : List BoxAnswer) → step ≡ Or
    → AreAnswers pending times values answers → after_step step pending ≡ Some next
    → ((a b : BoxAnswer) (below : List BoxAnswer) → answers ≡ b ∷ (a ∷ below) → new ≡ either_of a b ∷ below)
    → AreAnswers next times values new
told_or step pending next times values answers new is are e h =
    told_or_at pending next times values answers new are (ap (λ s. after_step s pending) (sym is) ∙ e) h

-- a step more, of those that are left
rebuilt-step : (after : Option (List Expression)) (steps : List Step) (f : Expression) → option_and_then (rebuilt steps) after ≡ Some f
    → (next : List Expression) × (after ≡ Some next) × (rebuilt steps next ≡ Some f)
rebuilt-step None steps f e = cc
rebuilt-step (Some next) steps f e = (next, refl, e)

pub rebuilt-next : (step : Step) (steps : List Step) (pending : List Expression) (f : Expression) → rebuilt (step ∷ steps) pending ≡ Some f
    → (next : List Expression) × (after_step step pending ≡ Some next) × (rebuilt steps next ≡ Some f)
rebuilt-next step steps pending f e = rebuilt-step (after_step step pending) steps f e

-- behind the last step one answer is left
pub last_answer : (pending : List Expression) (f : Expression) (times values : Interval) (answers : List BoxAnswer) (answer : BoxAnswer)
    (below : List BoxAnswer)
    → rebuilt [] pending ≡ Some f → AreAnswers pending times values answers → answers ≡ answer ∷ below → IsAnswer f times values answer
last_answer [] f times values answers answer below e are is = cc
last_answer (g ∷ (h ∷ pending)) f times values answers answer below e are is = cc
last_answer (g ∷ []) f times values [] answer below e are is = absurd are
last_answer (g ∷ []) f times values (a ∷ answers) answer below e are is =
    let P : Expression → Type 0 = λ h. IsAnswer h times values answer in
    let Q : BoxAnswer → Type 0 = λ b. IsAnswer g times values b in
    let same : a ≡ answer = cc in
    subst P (same_Some g f e) (subst Q same are.0)

pub some_left : (pending : List Expression) (f : Expression) (times values : Interval) (answers : List BoxAnswer)
    → rebuilt [] pending ≡ Some f → AreAnswers pending times values answers → 0 < length answers
some_left [] f times values answers e are = cc
some_left (g ∷ pending) f times values [] e are = absurd are
some_left (g ∷ pending) f times values (a ∷ answers) e are = omega arith

-- the expression that the steps are of
pub rebuilt-expression_of : (steps : List Step) (f : Expression) → rebuilt steps [] ≡ Some f → expression_of steps ≡ f
rebuilt-expression_of steps f e = rw e refl

pub are_of : (steps : List Step) → AreOfExpression steps → rebuilt steps [] ≡ Some (expression_of steps)
are_of steps (f, e) = e ∙ ap Some (sym (rebuilt-expression_of steps f e))

-- the most answers that an expression's steps leave pending at once
abbrev pub need : Expression → ℕ
need (Compare atom) = 1
need (Negate f) = need f
need (Both f g) = max (need f) (need g + 1)
need (Either f g) = max (need f) (need g + 1)

room_for_one : (pending : List Expression) → length pending + 1 ≤ 131 → nat_lt (length pending) 131 ≡ true
room_for_one pending room = grind (arith, nat_tests)

-- the steps of an expression give it back, where there is room for them
pub rebuilt-postfix : (f : Expression) (steps : List Step) (pending : List Expression) → length pending + need f ≤ 131
    → rebuilt (postfix f ++ steps) pending ≡ rebuilt steps (f ∷ pending)
unfolding after_step
rebuilt-postfix (Compare atom) steps pending room =
    ap (λ b. option_and_then (rebuilt steps) (if b then Some (Compare atom ∷ pending) else None)) (room_for_one pending room)
rebuilt-postfix (Negate f) steps pending room =
    ap (λ ss. rebuilt ss pending) (append_assoc (postfix f) (Not ∷ []) steps)
    ∙ rebuilt-postfix f (Not ∷ steps) pending room
rebuilt-postfix (Both f g) steps pending room =
    ap (λ ss. rebuilt ss pending) (append_assoc (postfix f) (postfix g ++ And ∷ []) steps
    ∙ ap (λ ss. postfix f ++ ss) (append_assoc (postfix g) (And ∷ []) steps))
    ∙ rebuilt-postfix f (postfix g ++ (And ∷ steps)) pending (omega arith)
    ∙ rebuilt-postfix g (And ∷ steps) (f ∷ pending) (omega arith)
rebuilt-postfix (Either f g) steps pending room =
    ap (λ ss. rebuilt ss pending) (append_assoc (postfix f) (postfix g ++ Or ∷ []) steps
    ∙ ap (λ ss. postfix f ++ ss) (append_assoc (postfix g) (Or ∷ []) steps))
    ∙ rebuilt-postfix f (postfix g ++ (Or ∷ steps)) pending (omega arith)
    ∙ rebuilt-postfix g (Or ∷ steps) (f ∷ pending) (omega arith)

pub postfix-rebuilt : (f : Expression) → need f ≤ 131 → rebuilt (postfix f) [] ≡ Some f
postfix-rebuilt f room = ap (λ ss. rebuilt ss []) (sym (append-nil (postfix f))) ∙ rebuilt-postfix f [] [] (omega arith)

-- the filters of the grammar need no more than there is room for
abbrev pub most : Phrase → ℕ
most Operand = 1
most Conjunction = 2
most Disjunction = 3

derived-need : {phrase : Phrase} {room : ℕ} {tokens : List Token} {f : Expression} → Derives phrase room tokens f
    → need f ≤ 2 * room + most phrase
derived-need (compare room s c n) = omega arith
derived-need (negation room tokens f d) = omega (arith, derived-need d)
derived-need (group room tokens f d) = omega (arith, derived-need d)
derived-need (operand room tokens f d) = omega (arith, derived-need d)
derived-need (both room first second f g d b) = omega (arith, derived-need d, derived-need b)
derived-need (conjunction room tokens f d) = omega (arith, derived-need d)
derived-need (either room first second f g d b) = omega (arith, derived-need d, derived-need b)

pub filter-rebuilt : (tokens : List Token) (f : Expression) → AreFilter tokens f → rebuilt (postfix f) [] ≡ Some f
filter-rebuilt tokens f d = postfix-rebuilt f (omega (arith, derived-need d))

-- the step at an index, and those behind it
pub next_step : (steps : List Step) (index : ℕ) (d : Step) (pending : List Expression) (f : Expression) → index < length steps
    → rebuilt (drop index steps) pending ≡ Some f
    → (next : List Expression) × (after_step (get_or steps index d) pending ≡ Some next) × (rebuilt (drop (index + 1) steps) next ≡ Some f)
next_step steps index d pending f within e =
    let parts : drop index steps ≡ get_or steps index d ∷ drop (index + 1) steps = rw (add-one, drop-cons steps index d) in
    rebuilt-next (get_or steps index d) (drop (index + 1) steps) pending f (ap (λ ss. rebuilt ss pending) (sym parts) ∙ e)

pub all_told : (steps : List Step) (index : ℕ) (pending : List Expression) (f : Expression) → length steps ≤ index
    → rebuilt (drop index steps) pending ≡ Some f → rebuilt [] pending ≡ Some f
all_told steps index pending f past e = ap (λ ss. rebuilt ss pending) (sym (drop_all index steps past)) ∙ e
