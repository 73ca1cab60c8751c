-- What the tokens before a state are: each open frame stands for some of them.
use Rattle.std.proofs.Common.{◌≡◌, ℕ, zero, suc, ◌+◌, ◌<◌, true, List, [], ◌∷◌, ◌++◌, Some, None, refl, sym, ap, ◌∙◌, subst, append_assoc}
use Rattle.std.proofs.Common.{append-nil, arith, nat_lt, pos}
use Rattle.std.proofs.lemmas.Option.{same_Some, cond_some}
use Rattle.std.proofs.lemmas.Bool.Decides.{nat_tests}
use Rattle.value_filter.specs.declared.atoms.Subject.{Subject}
use Rattle.value_filter.specs.declared.atoms.Comparison.{Comparison}
use Rattle.value_filter.specs.declared.atoms.Subject.TheVariants.{Time}
use Rattle.value_filter.specs.declared.atoms.Comparison.TheVariants.{Less}
use Rattle.value_filter.specs.declared.steps.Step.{Step}
use Rattle.value_filter.specs.declared.steps.Step.TheVariants.{Test, Not, And, Or}
use Rattle.value_filter.specs.declared.tokens.Token.{Token}
use Rattle.value_filter.specs.declared.tokens.Token.TheVariants.{Subject as SubjectToken, Sign, Number, AndWord, OrWord, NotWord, Open}
use Rattle.value_filter.specs.declared.tokens.Token.TheVariants.{Close}
use Rattle.value_filter.specs.declared.frames.Frame.{Frame}
use Rattle.value_filter.specs.declared.frames.Frame.TheVariants.{Disjunct, Conjunct, Negation, Parenthesis}
use Rattle.value_filter.specs.declared.parser.Phase.{Phase}
use Rattle.value_filter.specs.declared.parser.Phase.TheVariants.{AwaitsOperand, AwaitsSign, AwaitsNumber, HasOperand}
use Rattle.value_filter.specs.Expressions.{Expression, Compare, Negate, Both, Either}
use Rattle.value_filter.specs.Steps.{postfix}
use Rattle.value_filter.specs.Grammar.{Phrase, Disjunction, Conjunction, Operand, Derives, atom, negation, group, operand, both}
use Rattle.value_filter.specs.Grammar.{conjunction, either, AreFilter, MayBegin}
use Rattle.value_filter.specs.Reading.{State, opened, initial, completed, joined, opening, closed, begun, compared, numbered, continued}
use Rattle.value_filter.specs.Reading.{taken_in, taken, left_over, finished_in, finished}
use Rattle.value_filter.proofs.Reached.{awaits, has, Fits, taken_all, complete_all, stuck}

-- the frames stand for these tokens and have written these steps, and so many more may be open
abbrev pub Opens : List Frame → List Token → List Step → ℕ → Type 0
Opens [] tokens steps room = (tokens ≡ []) × (steps ≡ []) × (room ≡ 64)
Opens (Disjunct ∷ frames) tokens steps room =
    (before side : List Token) × (earlier : List Step) × (f : Expression) × (tokens ≡ before ++ (side ++ OrWord ∷ []))
    × (steps ≡ earlier ++ postfix f)
    × Derives Disjunction room side f × Fits Disjunction frames × Opens frames before earlier room
Opens (Conjunct ∷ frames) tokens steps room =
    (before side : List Token) × (earlier : List Step) × (f : Expression) × (tokens ≡ before ++ (side ++ AndWord ∷ []))
    × (steps ≡ earlier ++ postfix f)
    × Derives Conjunction room side f × Fits Conjunction frames × Opens frames before earlier room
Opens (Negation ∷ frames) tokens steps room =
    (before : List Token) × (tokens ≡ before ++ NotWord ∷ []) × Opens frames before steps (suc room)
Opens (Parenthesis ∷ frames) tokens steps room =
    (before : List Token) × (tokens ≡ before ++ Open ∷ []) × Opens frames before steps (suc room)

pub opened-room : (frames : List Frame) (tokens : List Token) (steps : List Step) (room : ℕ) → Opens frames tokens steps room
    → opened frames + room ≡ 64
opened-room [] tokens steps room o = omega (arith, o.2)
opened-room (Disjunct ∷ frames) tokens steps room o = opened-room frames o.0 o.2 room o.8
opened-room (Conjunct ∷ frames) tokens steps room o = opened-room frames o.0 o.2 room o.8
opened-room (Negation ∷ frames) tokens steps room o = omega (arith, opened-room frames o.0 steps (suc room) o.2)
opened-room (Parenthesis ∷ frames) tokens steps room o = omega (arith, opened-room frames o.0 steps (suc room) o.2)

-- each phrase is a disjunction
pub as_conjunction : (room : ℕ) (tokens : List Token) (f : Expression) (phrase : Phrase) (frames : List Frame)
    → Fits phrase (Disjunct ∷ frames) → Derives phrase room tokens f → Derives Conjunction room tokens f
as_conjunction room tokens f Disjunction frames fits d = absurd fits
as_conjunction room tokens f Conjunction frames fits d = d
as_conjunction room tokens f Operand frames fits d = operand room tokens f d

pub as_disjunction : (room : ℕ) (tokens : List Token) (f : Expression) (phrase : Phrase) → Derives phrase room tokens f
    → Derives Disjunction room tokens f
as_disjunction room tokens f Disjunction d = d
as_disjunction room tokens f Conjunction d = conjunction room tokens f d
as_disjunction room tokens f Operand d = conjunction room tokens f (operand room tokens f d)

as_operand : (room : ℕ) (tokens : List Token) (f : Expression) (phrase : Phrase) (frames : List Frame) → Fits phrase (Negation ∷ frames)
    → Derives phrase room tokens f → Derives Operand room tokens f
as_operand room tokens f Disjunction frames fits d = absurd fits
as_operand room tokens f Conjunction frames fits d = absurd fits
as_operand room tokens f Operand frames fits d = d

as_side : (room : ℕ) (tokens : List Token) (f : Expression) (phrase : Phrase) (frames : List Frame) → Fits phrase (Conjunct ∷ frames)
    → Derives phrase room tokens f → Derives Operand room tokens f
as_side room tokens f Disjunction frames fits d = absurd fits
as_side room tokens f Conjunction frames fits d = absurd fits
as_side room tokens f Operand frames fits d = d

-- regrouped lists
behind_one : {A : Type 0} (x : A) (before tokens phrase : List A) → tokens ≡ before ++ x ∷ [] → tokens ++ phrase ≡ before ++ (x ∷ phrase)
behind_one x before tokens phrase e = ap (λ xs. xs ++ phrase) e ∙ append_assoc before (x ∷ []) phrase

behind_side : {A : Type 0} (x : A) (before side tokens phrase : List A) → tokens ≡ before ++ (side ++ x ∷ [])
    → tokens ++ phrase ≡ before ++ (side ++ (x ∷ phrase))
behind_side x before side tokens phrase e =
    ap (λ xs. xs ++ phrase) e ∙ append_assoc before (side ++ x ∷ []) phrase ∙ ap (λ xs. before ++ xs) (append_assoc side (x ∷ []) phrase)

-- some filter begins with less
pub may_begin-less : (tokens more : List Token) → MayBegin (tokens ++ more) → MayBegin tokens
may_begin-less tokens more m =
    let P : List Token → Type 0 = λ ts. AreFilter ts m.1 in
    (more ++ m.0, m.1, subst P (append_assoc tokens more m.0) m.2)

may_begin-same : (tokens same : List Token) → tokens ≡ same → MayBegin same → MayBegin tokens
may_begin-same tokens same e m = subst MayBegin (sym e) m

-- with any phrase that may stand behind the frames some filter begins
pub extends : (frames : List Frame) (phrase : Phrase) (tokens : List Token) (steps : List Step) (room : ℕ) (side : List Token)
    (f : Expression)
    → Opens frames tokens steps room → Fits phrase frames → Derives phrase room side f → MayBegin (tokens ++ side)
extends [] phrase tokens steps room side f o fits d =
    let P : ℕ → Type 0 = λ n. Derives Disjunction n side f in
    let whole : AreFilter side f = subst P o.2 (as_disjunction room side f phrase d) in
    let Q : List Token → Type 0 = λ ts. AreFilter ts f in
    may_begin-same (tokens ++ side) side (ap (λ ts. ts ++ side) o.0) ([], f, subst Q (sym (append-nil side)) whole)
extends (Disjunct ∷ frames) phrase tokens steps room side f o fits d =
    may_begin-same (tokens ++ side) (o.0 ++ (o.1 ++ (OrWord ∷ side))) (behind_side OrWord o.0 o.1 tokens side o.4)
    (extends frames Disjunction o.0 o.2 room (o.1 ++ (OrWord ∷ side)) (Either o.3 f) o.8 o.7
    (either room o.1 side o.3 f o.6 (as_conjunction room side f phrase frames fits d)))
extends (Conjunct ∷ frames) phrase tokens steps room side f o fits d =
    may_begin-same (tokens ++ side) (o.0 ++ (o.1 ++ (AndWord ∷ side))) (behind_side AndWord o.0 o.1 tokens side o.4)
    (extends frames Conjunction o.0 o.2 room (o.1 ++ (AndWord ∷ side)) (Both o.3 f) o.8 o.7
    (both room o.1 side o.3 f o.6 (as_side room side f phrase frames fits d)))
extends (Negation ∷ frames) phrase tokens steps room side f o fits d =
    may_begin-same (tokens ++ side) (o.0 ++ (NotWord ∷ side)) (behind_one NotWord o.0 tokens side o.1)
    (extends frames Operand o.0 steps (suc room) (NotWord ∷ side) (Negate f) o.2 tt
    (negation room side f (as_operand room side f phrase frames fits d)))
extends (Parenthesis ∷ frames) phrase tokens steps room side f o fits d =
    may_begin-less (tokens ++ side) (Close ∷ [])
    (may_begin-same ((tokens ++ side) ++ Close ∷ []) (o.0 ++ (Open ∷ (side ++ Close ∷ [])))
    (append_assoc tokens side (Close ∷ []) ∙ behind_one Open o.0 tokens (side ++ Close ∷ []) o.1)
    (extends frames Operand o.0 steps (suc room) (Open ∷ (side ++ Close ∷ [])) f o.2 tt
    (group room side f (as_disjunction room side f phrase d))))

-- a phrase stands behind the frames
pub record Stands (phrase : Phrase) (frames : List Frame) (steps : List Step) (tokens : List Token) : Type 0 where
  pub before : List Token
  pub side : List Token
  pub earlier : List Step
  pub f : Expression
  pub room : ℕ
  pub tokens_are : tokens ≡ before ++ side
  pub steps_are : steps ≡ earlier ++ postfix f
  pub derives : Derives phrase room side f
  pub opens : Opens frames before earlier room
  pub fits : Fits phrase frames

-- the tokens are those of the state
abbrev pub IsIn : Phase → List Frame → List Step → List Token → Type 0
IsIn AwaitsOperand frames steps tokens = (room : ℕ) × Opens frames tokens steps room
IsIn (AwaitsSign s) frames steps tokens = (before : List Token) × (room : ℕ) × (tokens ≡ before ++ SubjectToken s ∷ [])
    × Opens frames before steps room
IsIn (AwaitsNumber s c) frames steps tokens = (before : List Token) × (room : ℕ) × (tokens ≡ before ++ (SubjectToken s ∷ (Sign c ∷ [])))
    × Opens frames before steps room
IsIn HasOperand frames steps tokens = Stands Conjunction frames steps tokens

abbrev pub Is : State → List Token → Type 0
Is state tokens = IsIn state.phase state.frames state.steps tokens

-- behind an operand
pub is_completed : (frames : List Frame) (steps : List Step) (tokens before side : List Token) (earlier : List Step) (f : Expression)
    (room : ℕ)
    → tokens ≡ before ++ side → steps ≡ earlier ++ postfix f → Derives Operand room side f → Opens frames before earlier room
    → Is (completed frames steps) tokens
unfolding completed
is_completed [] steps tokens before side earlier f room ts ss d o =
    record {
      before = before;
      side = side;
      earlier = earlier;
      f = f;
      room = room;
      tokens_are = ts;
      steps_are = ss;
      derives = operand room side f d;
      opens = o;
      fits = tt;
    }
is_completed (Disjunct ∷ frames) steps tokens before side earlier f room ts ss d o =
    record {
      before = before;
      side = side;
      earlier = earlier;
      f = f;
      room = room;
      tokens_are = ts;
      steps_are = ss;
      derives = operand room side f d;
      opens = o;
      fits = tt;
    }
is_completed (Conjunct ∷ frames) steps tokens before side earlier f room ts ss d o =
    record {
      before = o.0;
      side = o.1 ++ (AndWord ∷ side);
      earlier = o.2;
      f = Both o.3 f;
      room = room;
      tokens_are = ts ∙ behind_side AndWord o.0 o.1 before side o.4;
      steps_are = ap (λ xs. xs ++ And ∷ []) ss ∙ append_assoc earlier (postfix f) (And ∷ []) ∙ ap (λ xs. xs ++ (postfix f ++ And ∷ [])) o.5
          ∙ append_assoc o.2 (postfix o.3) (postfix f ++ And ∷ []);
      derives = both room o.1 side o.3 f o.6 d;
      opens = o.8;
      fits = o.7;
    }
is_completed (Negation ∷ frames) steps tokens before side earlier f room ts ss d o =
    is_completed frames (steps ++ Not ∷ []) tokens o.0 (NotWord ∷ side) earlier (Negate f) (suc room)
    (ts ∙ behind_one NotWord o.0 before side o.1)
    (ap (λ xs. xs ++ Not ∷ []) ss ∙ append_assoc earlier (postfix f) (Not ∷ []))
    (negation room side f d) o.2
is_completed (Parenthesis ∷ frames) steps tokens before side earlier f room ts ss d o =
    record {
      before = before;
      side = side;
      earlier = earlier;
      f = f;
      room = room;
      tokens_are = ts;
      steps_are = ss;
      derives = operand room side f d;
      opens = o;
      fits = tt;
    }

-- behind a conjunction, as the disjunction that it ends
pub is_joined : (frames : List Frame) (steps : List Step) (tokens : List Token) → Stands Conjunction frames steps tokens
    → Stands Disjunction (joined frames steps).frames (joined frames steps).steps tokens
unfolding joined
is_joined [] steps tokens s =
    record {
      before = s.before;
      side = s.side;
      earlier = s.earlier;
      f = s.f;
      room = s.room;
      tokens_are = s.tokens_are;
      steps_are = s.steps_are;
      derives = conjunction s.room s.side s.f s.derives;
      opens = s.opens;
      fits = tt;
    }
is_joined (Disjunct ∷ frames) steps tokens s =
    let o = s.opens in
    record {
      before = o.0;
      side = o.1 ++ (OrWord ∷ s.side);
      earlier = o.2;
      f = Either o.3 s.f;
      room = s.room;
      tokens_are = s.tokens_are ∙ behind_side OrWord o.0 o.1 s.before s.side o.4;
      steps_are = ap (λ xs. xs ++ Or ∷ []) s.steps_are ∙ append_assoc s.earlier (postfix s.f) (Or ∷ [])
          ∙ ap (λ xs. xs ++ (postfix s.f ++ Or ∷ [])) o.5 ∙ append_assoc o.2 (postfix o.3) (postfix s.f ++ Or ∷ []);
      derives = either s.room o.1 s.side o.3 s.f o.6 s.derives;
      opens = o.8;
      fits = o.7;
    }
is_joined (Conjunct ∷ frames) steps tokens s = absurd s.fits
is_joined (Negation ∷ frames) steps tokens s = absurd s.fits
is_joined (Parenthesis ∷ frames) steps tokens s =
    record {
      before = s.before;
      side = s.side;
      earlier = s.earlier;
      f = s.f;
      room = s.room;
      tokens_are = s.tokens_are;
      steps_are = s.steps_are;
      derives = conjunction s.room s.side s.f s.derives;
      opens = s.opens;
      fits = tt;
    }

-- one token more
is_opened : (frame : Frame) (word : Token) (frames : List Frame) (steps : List Step) (tokens : List Token) (to : State)
    → ((room : ℕ) → Opens frames tokens steps (suc room) → Opens (frame ∷ frames) (tokens ++ word ∷ []) steps room)
    → (room : ℕ) → Opens frames tokens steps room → opening frame (awaits frames steps) ≡ Some to → Is to (tokens ++ word ∷ [])
unfolding opening
is_opened frame word frames steps tokens to adds room o e =
    let found = cond_some (nat_lt (opened frames) 64) (awaits (frame ∷ frames) steps) to e in
    let P : State → Type 0 = λ state. Is state (tokens ++ word ∷ []) in
    subst P found.1 (one_open room o (opened-room frames tokens steps room o) (below found.0))
  where
    below : nat_lt (opened frames) 64 ≡ true → opened frames < 64
    below t = grind (arith, nat_tests)

    one_open : (room : ℕ) → Opens frames tokens steps room → opened frames + room ≡ 64 → opened frames < 64
        → IsIn AwaitsOperand (frame ∷ frames) steps (tokens ++ word ∷ [])
    one_open zero o e less = absurd (omega arith)
    one_open (suc room) o e less = (room, adds room o)

is_begun : (token : Token) (frames : List Frame) (steps : List Step) (tokens : List Token) (to : State)
    → IsIn AwaitsOperand frames steps tokens → begun token (awaits frames steps) ≡ Some to → Is to (tokens ++ token ∷ [])
unfolding begun
is_begun (SubjectToken s) frames steps tokens to i e =
    let P : State → Type 0 = λ state. Is state (tokens ++ SubjectToken s ∷ []) in
    subst P (same_Some _ to e) (tokens, i.0, refl, i.1)
is_begun NotWord frames steps tokens to i e =
    is_opened Negation NotWord frames steps tokens to (λ room o. (tokens, refl, o)) i.0 i.1 e
is_begun Open frames steps tokens to i e =
    is_opened Parenthesis Open frames steps tokens to (λ room o. (tokens, refl, o)) i.0 i.1 e
is_begun (Sign c) frames steps tokens to i e = cc
is_begun (Number n) frames steps tokens to i e = cc
is_begun AndWord frames steps tokens to i e = cc
is_begun OrWord frames steps tokens to i e = cc
is_begun Close frames steps tokens to i e = cc

is_compared : (s : Subject) (token : Token) (frames : List Frame) (steps : List Step) (tokens : List Token) (to : State)
    → IsIn (AwaitsSign s) frames steps tokens → compared s token (record { phase = AwaitsSign s; frames = frames; steps = steps }) ≡ Some to
    → Is to (tokens ++ token ∷ [])
unfolding compared
is_compared s (Sign c) frames steps tokens to i e =
    let P : State → Type 0 = λ state. Is state (tokens ++ Sign c ∷ []) in
    subst P (same_Some _ to e) (i.0, i.1, behind_one (SubjectToken s) i.0 tokens (Sign c ∷ []) i.2, i.3)
is_compared s (SubjectToken x) frames steps tokens to i e = cc
is_compared s (Number n) frames steps tokens to i e = cc
is_compared s AndWord frames steps tokens to i e = cc
is_compared s OrWord frames steps tokens to i e = cc
is_compared s NotWord frames steps tokens to i e = cc
is_compared s Open frames steps tokens to i e = cc
is_compared s Close frames steps tokens to i e = cc

is_numbered : (s : Subject) (c : Comparison) (token : Token) (frames : List Frame) (steps : List Step) (tokens : List Token) (to : State)
    → IsIn (AwaitsNumber s c) frames steps tokens → numbered s c token
    (record { phase = AwaitsNumber s c; frames = frames; steps = steps }) ≡ Some to → Is to (tokens ++ token ∷ [])
unfolding numbered
is_numbered s c (Number n) frames steps tokens to i e =
    let P : State → Type 0 = λ state. Is state (tokens ++ Number n ∷ []) in
    subst P (same_Some _ to e)
    (is_completed frames (steps ++ Test (record { subject = s; comparison = c; number = n }) ∷ []) (tokens ++ Number n ∷ []) i.0
    (SubjectToken s ∷ (Sign c ∷ (Number n ∷ []))) steps
    (Compare (record { subject = s; comparison = c; number = n })) i.1
    (ap (λ xs. xs ++ Number n ∷ []) i.2 ∙ append_assoc i.0 (SubjectToken s ∷ (Sign c ∷ [])) (Number n ∷ []))
    refl (atom i.1 s c n) i.3)
is_numbered s c (SubjectToken x) frames steps tokens to i e = cc
is_numbered s c (Sign x) frames steps tokens to i e = cc
is_numbered s c AndWord frames steps tokens to i e = cc
is_numbered s c OrWord frames steps tokens to i e = cc
is_numbered s c NotWord frames steps tokens to i e = cc
is_numbered s c Open frames steps tokens to i e = cc
is_numbered s c Close frames steps tokens to i e = cc

is_closed : (frames : List Frame) (steps : List Step) (tokens : List Token) (to : State)
    → Stands Disjunction frames steps tokens → closed frames steps ≡ Some to → Is to (tokens ++ Close ∷ [])
unfolding closed
is_closed (Parenthesis ∷ frames) steps tokens to s e =
    let o = s.opens in
    let P : State → Type 0 = λ state. Is state (tokens ++ Close ∷ []) in
    subst P (same_Some _ to e)
    (is_completed frames steps (tokens ++ Close ∷ []) o.0 (Open ∷ (s.side ++ Close ∷ [])) s.earlier s.f (suc s.room)
    (ap (λ xs. xs ++ Close ∷ []) s.tokens_are ∙ append_assoc s.before s.side (Close ∷ [])
    ∙ behind_one Open o.0 s.before (s.side ++ Close ∷ []) o.1)
    s.steps_are (group s.room s.side s.f s.derives) o.2)
is_closed [] steps tokens to s e = cc
is_closed (Disjunct ∷ frames) steps tokens to s e = cc
is_closed (Conjunct ∷ frames) steps tokens to s e = cc
is_closed (Negation ∷ frames) steps tokens to s e = cc

is_continued : (token : Token) (frames : List Frame) (steps : List Step) (tokens : List Token) (to : State)
    → Stands Conjunction frames steps tokens → continued token (has frames steps) ≡ Some to → Is to (tokens ++ token ∷ [])
unfolding continued
is_continued AndWord frames steps tokens to s e =
    let P : State → Type 0 = λ state. Is state (tokens ++ AndWord ∷ []) in
    subst P (same_Some _ to e) (
      s.room,
      (
        s.before,
        s.side,
        s.earlier,
        s.f,
        ap (λ xs. xs ++ AndWord ∷ []) s.tokens_are ∙ append_assoc s.before s.side (AndWord ∷ []),
        s.steps_are,
        s.derives,
        s.fits,
        s.opens,
      ),
    )
is_continued OrWord frames steps tokens to c e =
    let s = is_joined frames steps tokens c in
    let P : State → Type 0 = λ state. Is state (tokens ++ OrWord ∷ []) in
    subst P (same_Some _ to e) (
      s.room,
      (
        s.before,
        s.side,
        s.earlier,
        s.f,
        ap (λ xs. xs ++ OrWord ∷ []) s.tokens_are ∙ append_assoc s.before s.side (OrWord ∷ []),
        s.steps_are,
        s.derives,
        s.fits,
        s.opens,
      ),
    )
is_continued Close frames steps tokens to s e =
    is_closed (joined frames steps).frames (joined frames steps).steps tokens to (is_joined frames steps tokens s) e
is_continued (SubjectToken x) frames steps tokens to s e = cc
is_continued (Sign x) frames steps tokens to s e = cc
is_continued (Number x) frames steps tokens to s e = cc
is_continued NotWord frames steps tokens to s e = cc
is_continued Open frames steps tokens to s e = cc

is_taken_in : (phase : Phase) (token : Token) (frames : List Frame) (steps : List Step) (tokens : List Token) (to : State)
    → IsIn phase frames steps tokens → taken_in phase token (record { phase = phase; frames = frames; steps = steps }) ≡ Some to
    → Is to (tokens ++ token ∷ [])
is_taken_in AwaitsOperand token frames steps tokens to i e = is_begun token frames steps tokens to i e
is_taken_in (AwaitsSign s) token frames steps tokens to i e = is_compared s token frames steps tokens to i e
is_taken_in (AwaitsNumber s c) token frames steps tokens to i e = is_numbered s c token frames steps tokens to i e
is_taken_in HasOperand token frames steps tokens to i e = is_continued token frames steps tokens to i e

pub is_taken : (token : Token) (from to : State) (tokens : List Token) → Is from tokens → taken token from ≡ Some to
    → Is to (tokens ++ token ∷ [])
unfolding taken
is_taken token from to tokens i e = is_taken_in from.phase token from.frames from.steps tokens to i e

pub is_initial : Is initial []
is_initial = (64, (refl, refl, refl))

-- some filter begins with the tokens of each state
less_than_zero : (s : Subject) (c : Comparison) (frames : List Frame) (steps : List Step) (tokens : List Token) (room : ℕ)
    → Opens frames tokens steps room
    → MayBegin (tokens ++ (SubjectToken s ∷ (Sign c ∷ (Number (pos 0) ∷ []))))
less_than_zero s c frames steps tokens room o =
    extends frames Operand tokens steps room (SubjectToken s ∷ (Sign c ∷ (Number (pos 0) ∷ []))) _ o tt (atom room s c (pos 0))

pub is-may_begin : (phase : Phase) (frames : List Frame) (steps : List Step) (tokens : List Token) → IsIn phase frames steps tokens
    → MayBegin tokens
is-may_begin AwaitsOperand frames steps tokens i =
    may_begin-less tokens _ (less_than_zero Time Less frames steps tokens i.0 i.1)
is-may_begin (AwaitsSign s) frames steps tokens i =
    may_begin-less tokens _ (may_begin-same _ _ (behind_one (SubjectToken s) i.0 tokens (Sign Less ∷ (Number (pos 0) ∷ [])) i.2)
    (less_than_zero s Less frames steps i.0 i.1 i.3))
is-may_begin (AwaitsNumber s c) frames steps tokens i =
    may_begin-less tokens _ (may_begin-same _ _ (ap (λ xs. xs ++ Number (pos 0) ∷ []) i.2
    ∙ append_assoc i.0 (SubjectToken s ∷ (Sign c ∷ [])) (Number (pos 0) ∷ [])) (less_than_zero s c frames steps i.0 i.1 i.3))
is-may_begin HasOperand frames steps tokens s =
    may_begin-same tokens (s.before ++ s.side) s.tokens_are
    (extends frames Conjunction s.before s.earlier s.room s.side s.f s.opens s.fits s.derives)

-- the tokens behind which the text may end are a filter
is_left_over : (frames : List Frame) (steps written : List Step) (tokens : List Token) → Stands Disjunction frames steps tokens
    → left_over frames steps ≡ Some written
    → (f : Expression) × AreFilter tokens f × (written ≡ postfix f)
is_left_over [] steps written tokens s e =
    let o = s.opens in
    let P : ℕ → Type 0 = λ room. Derives Disjunction room s.side s.f in
    let Q : List Token → Type 0 = λ ts. AreFilter ts s.f in (
      s.f,
      subst Q (sym (s.tokens_are ∙ ap (λ ts. ts ++ s.side) o.0)) (subst P o.2 s.derives),
      sym (same_Some steps written e) ∙ s.steps_are ∙ ap (λ ss. ss ++ postfix s.f) o.1,
    )
is_left_over (frame ∷ frames) steps written tokens s e = cc

is_finished_in : (phase : Phase) (frames : List Frame) (steps written : List Step) (tokens : List Token) → IsIn phase frames steps tokens
    → finished_in phase (record { phase = phase; frames = frames; steps = steps }) ≡ Some written
    → (f : Expression) × AreFilter tokens f × (written ≡ postfix f)
is_finished_in HasOperand frames steps written tokens s e =
    is_left_over (joined frames steps).frames (joined frames steps).steps written tokens (is_joined frames steps tokens s) e
is_finished_in AwaitsOperand frames steps written tokens s e = cc
is_finished_in (AwaitsSign x) frames steps written tokens s e = cc
is_finished_in (AwaitsNumber x c) frames steps written tokens s e = cc

pub is_finished : (state : State) (written : List Step) (tokens : List Token) → Is state tokens → finished state ≡ Some written
    → (f : Expression) × AreFilter tokens f × (written ≡ postfix f)
unfolding finished
is_finished state written tokens i e = is_finished_in state.phase state.frames state.steps written tokens i e

-- a token that can't stand behind a state can't stand behind its tokens
pub stuck-may_begin : (tokens : List Token) (token : Token) (state : State) → taken_all tokens initial ≡ Some state
    → taken token state ≡ None
    → MayBegin (tokens ++ token ∷ []) → ⊥
stuck-may_begin tokens token state reached none m =
    let whole = complete_all ((tokens ++ token ∷ []) ++ m.0) m.1 m.2 in
    let stops : taken_all ((tokens ++ token ∷ []) ++ m.0) initial ≡ None =
    ap (λ ts. taken_all ts initial) (append_assoc tokens (token ∷ []) m.0) ∙ stuck tokens m.0 token initial state reached none in
    let clash : None ≡ Some whole.0 = sym stops ∙ whole.1 in
    cc

-- where the text may not end, the tokens are no filter
pub unfinished-no_filter : (tokens : List Token) (f : Expression) (state : State) → taken_all tokens initial ≡ Some state
    → finished state ≡ None
    → AreFilter tokens f → ⊥
unfinished-no_filter tokens f state reached none d =
    let whole = complete_all tokens f d in
    let same : state ≡ whole.0 = same_Some state whole.0 (sym reached ∙ whole.1) in
    let clash : None ≡ Some (postfix f) = sym none ∙ ap finished same ∙ whole.2 in
    cc
