-- What a text's tokens say of it as a whole.
use Rattle.std.proofs.Common.{◌≡◌, ℕ, ◌+◌, ◌<◌, List, [], ◌∷◌, ◌++◌, length, drop, Option, Some, None, refl, sym, ap, ◌∙◌, subst}
use Rattle.std.proofs.Common.{append_assoc, append-nil, arith, ◌⊎◌, inl, inr}
use Rattle.std.specs.Option.{option_and_then}
use Rattle.std.proofs.lemmas.Option.{same_Some}
use Rattle.value_filter.specs.declared.steps.Step.{Step}
use Rattle.value_filter.specs.declared.faults.FilterFault.{FilterFault}
use Rattle.value_filter.specs.declared.faults.FilterFault.TheVariants.{At, NoMemory}
use Rattle.value_filter.specs.declared.tokens.Token.{Token}
use Rattle.value_filter.specs.Expressions.{Expression}
use Rattle.value_filter.specs.Steps.{postfix, rebuilt, expression_of, AreOfExpression}
use Rattle.value_filter.specs.Pieces.{past_spaces, first_piece, next_piece, past_piece, Spells, Begins}
use Rattle.value_filter.specs.Grammar.{AreFilter, MayBegin, IsFilter, LeavesAt, RefusesText}
use Rattle.value_filter.specs.Reading.{State, initial, taken, finished, Refuses}
use Rattle.value_filter.proofs.Reached.{taken_all, goes, complete_all}
use Rattle.value_filter.proofs.Opened.{Is, is_initial, is_taken, is-may_begin, is_finished, stuck-may_begin, unfinished-no_filter}
use Rattle.value_filter.proofs.Told.{rebuilt-expression_of, filter-rebuilt}
use Rattle.value_filter.proofs.Words.{one_token, spells_empty}

-- a piece more
begins_more : (tokens : List Token) (text rest : List ℕ) (token : Token) → Begins text tokens rest → Spells (next_piece rest) token
    → Begins text (tokens ++ token ∷ []) (past_piece rest)
begins_more [] text rest token b s =
    let P : List ℕ → Type 0 = λ xs. Spells (next_piece xs) token in
    (subst P (sym b) s, ap past_piece b)
begins_more (t ∷ tokens) text rest token b s = (b.0, begins_more tokens (past_piece text) rest token b.1 s)

-- where only spaces are left no token stands
blank_piece : first_piece [] ≡ []
unfolding first_piece
blank_piece = refl

no_token : (rest : List ℕ) (token : Token) → past_spaces rest ≡ [] → Spells (next_piece rest) token → ⊥
no_token rest token blank s =
    let P : List ℕ → Type 0 = λ piece. Spells piece token in
    spells_empty token (subst P (ap first_piece blank ∙ blank_piece) s)

-- a text that begins with tokens, and has more in all
goes_on : (tokens more : List Token) (text rest blank : List ℕ) → Begins text tokens rest → Begins text more blank → past_spaces blank ≡ []
    → (behind : List Token) × (more ≡ tokens ++ behind) × Begins rest behind blank
goes_on [] more text rest blank b m e =
    let P : List ℕ → Type 0 = λ xs. Begins xs more blank in
    (more, refl, subst P b m)
goes_on (t ∷ tokens) [] text rest blank b m e =
    let P : List ℕ → Type 0 = λ xs. Spells (next_piece xs) t in
    absurd (no_token blank t e (subst P m b.0))
goes_on (t ∷ tokens) (u ∷ more) text rest blank b m e =
    let same : u ≡ t = one_token (next_piece text) u t m.0 b.0 in
    let tail = goes_on tokens more (past_piece text) rest blank b.1 m.1 e in
    (tail.0, ap (λ x. x ∷ more) same ∙ ap (λ xs. t ∷ xs) tail.1, tail.2)

-- a text that leaves the grammar spells no filter
leaves_at : (behind : List Token) (text : List ℕ) (at : ℕ) (f : Expression) (l : LeavesAt text at) (more : List Token) (blank : List ℕ)
    → more ≡ l.tokens ++ behind → Begins l.rest behind blank → past_spaces blank ≡ [] → AreFilter more f → ⊥
leaves_at [] text at f l more blank m b e d =
    let P : List Token → Type 0 = λ ts. AreFilter ts f in
    l.unfinished (ap past_spaces b ∙ e) f (subst P (m ∙ append-nil l.tokens) d)
leaves_at (t ∷ behind) text at f l more blank m b e d =
    let P : List Token → Type 0 = λ ts. AreFilter ts f in
    l.stops t b.0 (behind, f, subst P (m ∙ sym (append_assoc l.tokens (t ∷ []) behind)) d)

pub leaves-no_filter : (text : List ℕ) (at : ℕ) (f : Expression) → LeavesAt text at → IsFilter text f → ⊥
leaves-no_filter text at f l i =
    let a = goes_on l.tokens i.tokens text l.rest i.rest l.begins i.begins i.blank in
    leaves_at a.0 text at f l i.tokens i.rest a.1 a.2 i.blank i.derives

pub refused-gives : (text : List ℕ) (fault : FilterFault) → RefusesText text fault → (f : Expression) → IsFilter text f → fault ≡ NoMemory
refused-gives text NoMemory r f i = refl
refused-gives text (At at) r f i = absurd (leaves-no_filter text at f r i)

-- how far a text is read: its tokens so far, and the state behind them
pub record IsRead (text rest : List ℕ) (state : State) : Type 0 where
  pub tokens : List Token
  pub behind : List ℕ
  pub begins : Begins text tokens behind
  pub here : rest ≡ past_spaces behind
  pub reached : taken_all tokens initial ≡ Some state

-- the tokens of a state that is reached
is_step : (next : Option State) (tokens before : List Token) (token : Token) (from to : State) → Is from before → taken token from ≡ next
    → ((state : State) → Is state (before ++ token ∷ []) → taken_all tokens state ≡ Some to → Is to ((before ++ token ∷ []) ++ tokens))
    → option_and_then (taken_all tokens) next ≡ Some to → Is to (before ++ (token ∷ tokens))
is_step None tokens before token from to i e again h = cc
is_step (Some state) tokens before token from to i e again h =
    let P : List Token → Type 0 = λ ts. Is to ts in
    subst P (append_assoc before (token ∷ []) tokens) (again state (is_taken token from state before i e) h)

is_reached : (tokens before : List Token) (from to : State) → Is from before → taken_all tokens from ≡ Some to → Is to (before ++ tokens)
is_reached [] before from to i e =
    let P : State → Type 0 = λ s. Is s (before ++ []) in
    let Q : List Token → Type 0 = λ ts. Is from ts in
    subst P (same_Some from to e) (subst Q (sym (append-nil before)) i)
is_reached (token ∷ tokens) before from to i e =
    is_step (taken token from) tokens before token from to i refl (λ state j h. is_reached tokens (before ++ token ∷ []) state to j h) e

reached_is : (tokens : List Token) (state : State) → taken_all tokens initial ≡ Some state → Is state tokens
reached_is tokens state e = is_reached tokens [] initial state is_initial e

-- a token more is read
pub read_more : (text rest : List ℕ) (state to : State) (token : Token) → IsRead text rest state → Spells (first_piece rest) token
    → taken token state ≡ Some to
    → IsRead text (past_spaces (drop (length (first_piece rest)) rest)) to
read_more text rest state to token r s e =
    let P : List ℕ → Type 0 = λ xs. Spells (first_piece xs) token in
    record {
      tokens = r.tokens ++ token ∷ [];
      behind = past_piece r.behind;
      begins = begins_more r.tokens text r.behind token r.begins (subst P r.here s);
      here = ap (λ xs. past_spaces (drop (length (first_piece xs)) xs)) r.here;
      reached = goes r.tokens (token ∷ []) initial state r.reached ∙ ap (option_and_then (taken_all [])) e;
    }

-- where reading stops: at a piece that is no token, at a token that can't stand there, or at the end
some_left : (rest behind : List ℕ) → rest ≡ past_spaces behind → 0 < length rest → past_spaces behind ≡ [] → ⊥
some_left rest behind here some blank = absurd (omega (arith, some, ap length here, ap length blank))

place_is : (text rest behind : List ℕ) (at : ℕ) → rest ≡ past_spaces behind → at + length rest ≡ length text
    → at + length (past_spaces behind) ≡ length text
place_is text rest behind at here e = ap (λ n. at + n) (sym (ap length here)) ∙ e

begins_some : (tokens : List Token) (state : State) → taken_all tokens initial ≡ Some state → MayBegin tokens
begins_some tokens state e = is-may_begin state.phase state.frames state.steps tokens (reached_is tokens state e)

pub stops_at_piece : (text rest : List ℕ) (state : State) (at : ℕ) → IsRead text rest state → 0 < length rest
    → at + length rest ≡ length text
    → ((token : Token) → Spells (first_piece rest) token → ⊥) → LeavesAt text at
stops_at_piece text rest state at r some place none =
    record {
      tokens = r.tokens;
      rest = r.behind;
      begins = r.begins;
      may_begin = begins_some r.tokens state r.reached;
      stops = λ token s m. none token (let P : List ℕ → Type 0 = λ xs. Spells (first_piece xs) token in subst P (sym r.here) s);
      unfinished = λ blank f d. some_left rest r.behind r.here some blank;
      place = place_is text rest r.behind at r.here place;
    }

pub stops_at_token : (text rest : List ℕ) (state : State) (at : ℕ) (token : Token) → IsRead text rest state → 0 < length rest
    → at + length rest ≡ length text
    → Spells (first_piece rest) token → taken token state ≡ None → LeavesAt text at
stops_at_token text rest state at token r some place s none =
    record {
      tokens = r.tokens;
      rest = r.behind;
      begins = r.begins;
      may_begin = begins_some r.tokens state r.reached;
      stops = λ other spells m.
          let P : List ℕ → Type 0 = λ xs. Spells (first_piece xs) token in
          let Q : Token → Type 0 = λ t. MayBegin (r.tokens ++ t ∷ []) in
          stuck-may_begin r.tokens token state r.reached none
          (subst Q (one_token (next_piece r.behind) other token spells (subst P r.here s)) m);
      unfinished = λ blank f d. some_left rest r.behind r.here some blank;
      place = place_is text rest r.behind at r.here place;
    }

pub stops_at_end : (text rest : List ℕ) (state : State) (at : ℕ) → IsRead text rest state → rest ≡ [] → at ≡ length text
    → finished state ≡ None → LeavesAt text at
stops_at_end text rest state at r end place none =
    let blank : past_spaces r.behind ≡ [] = sym r.here ∙ end in
    record {
      tokens = r.tokens;
      rest = r.behind;
      begins = r.begins;
      may_begin = begins_some r.tokens state r.reached;
      stops = λ token s m. no_token r.behind token blank s;
      unfinished = λ b f d. unfinished-no_filter r.tokens f state r.reached none d;
      place = omega (arith, ap length blank, place);
    }

-- the steps of a text that is read to its end
pub finished-are_of : (text rest : List ℕ) (state : State) (steps : List Step) → IsRead text rest state → finished state ≡ Some steps
    → AreOfExpression steps
finished-are_of text rest state steps r e =
    let whole = is_finished state steps r.tokens (reached_is r.tokens state r.reached) e in
    (whole.0, ap (λ ss. rebuilt ss []) whole.2 ∙ filter-rebuilt r.tokens whole.0 whole.1)

pub finished-is_filter : (text rest : List ℕ) (state : State) (steps : List Step) → IsRead text rest state → rest ≡ []
    → finished state ≡ Some steps
    → IsFilter text (expression_of steps)
finished-is_filter text rest state steps r end e =
    let whole = is_finished state steps r.tokens (reached_is r.tokens state r.reached) e in
    let same : expression_of steps ≡ whole.0 = rebuilt-expression_of steps whole.0 (ap (λ ss. rebuilt ss []) whole.2
    ∙ filter-rebuilt r.tokens whole.0 whole.1) in
    let P : Expression → Type 0 = λ f. AreFilter r.tokens f in
    record { tokens = r.tokens; rest = r.behind; begins = r.begins; blank = sym r.here ∙ end; derives = subst P (sym same) whole.1 }

-- its steps are those of the filter
pub finished-postfix : (text rest : List ℕ) (state : State) (steps : List Step) → IsRead text rest state → finished state ≡ Some steps
    → steps ≡ postfix (expression_of steps)
finished-postfix text rest state steps r e =
    let whole = is_finished state steps r.tokens (reached_is r.tokens state r.reached) e in
    let same : expression_of steps ≡ whole.0 = rebuilt-expression_of steps whole.0 (ap (λ ss. rebuilt ss []) whole.2
    ∙ filter-rebuilt r.tokens whole.0 whole.1) in
    whole.2 ∙ ap postfix (sym same)

-- a text of a filter is read to its end, and gives its steps
same_tokens : (behind : List Token) (rest blank : List ℕ) → Begins rest behind blank → past_spaces rest ≡ [] → behind ≡ []
same_tokens [] rest blank b e = refl
same_tokens (t ∷ behind) rest blank b e = absurd (no_token rest t e b.0)

pub finished-one : (text rest : List ℕ) (state : State) (steps : List Step) → IsRead text rest state → rest ≡ []
    → finished state ≡ Some steps
    → (f : Expression) → IsFilter text f → expression_of steps ≡ f
finished-one text rest state steps r end e f i =
    let a = goes_on r.tokens i.tokens text r.behind i.rest r.begins i.begins i.blank in
    let same : i.tokens ≡ r.tokens = a.1 ∙ ap (λ ts. r.tokens ++ ts) (same_tokens a.0 r.behind i.rest a.2 (sym r.here ∙ end))
    ∙ append-nil r.tokens in
    let P : List Token → Type 0 = λ ts. AreFilter ts f in
    let whole = complete_all r.tokens f (subst P same i.derives) in
    let at : state ≡ whole.0 = same_Some state whole.0 (sym r.reached ∙ whole.1) in
    let written : steps ≡ postfix f = same_Some steps (postfix f) (sym e ∙ ap finished at ∙ whole.2) in
    rebuilt-expression_of steps f (ap (λ ss. rebuilt ss []) written ∙ filter-rebuilt r.tokens f (subst P same i.derives))

-- what is answered where a token is refused, and at the end
pub token_refused : (text rest : List ℕ) (state : State) (at : ℕ) (token : Token) (fault : FilterFault) → IsRead text rest state
    → 0 < length rest → at + length rest ≡ length text
    → Spells (first_piece rest) token → Refuses (taken token state) at fault → RefusesText text fault
token_refused text rest state at token NoMemory r some place s f = tt
token_refused text rest state at token (At offset) r some place s f =
    let P : ℕ → Type 0 = λ n. LeavesAt text n in
    subst P (sym f.1) (stops_at_token text rest state at token r some place s f.0)

pub end_refused : (text rest : List ℕ) (state : State) (at : ℕ) (fault : FilterFault) → IsRead text rest state → rest ≡ []
    → at ≡ length text
    → Refuses (finished state) at fault → RefusesText text fault
end_refused text rest state at NoMemory r end place f = tt
end_refused text rest state at (At offset) r end place f =
    stops_at_end text rest state offset r end (f.1 ∙ place) f.0

-- the tokens of a text that spells two filters are the same
pub one_filter : (text : List ℕ) (f g : Expression) → IsFilter text f → IsFilter text g → f ≡ g
one_filter text f g i j =
    let a = goes_on i.tokens j.tokens text i.rest j.rest i.begins j.begins j.blank in
    let same : j.tokens ≡ i.tokens = a.1 ∙ ap (λ ts. i.tokens ++ ts) (same_tokens a.0 i.rest j.rest a.2 i.blank) ∙ append-nil i.tokens in
    let P : List Token → Type 0 = λ ts. AreFilter ts g in
    let first = complete_all i.tokens f i.derives in
    let second = complete_all i.tokens g (subst P same j.derives) in
    let at : first.0 ≡ second.0 = same_Some first.0 second.0 (sym first.1 ∙ second.1) in
    let steps : postfix f ≡ postfix g = same_Some (postfix f) (postfix g) (sym first.2 ∙ ap finished at ∙ second.2) in
    same_Some f g (sym (filter-rebuilt i.tokens f i.derives) ∙ ap (λ ss. rebuilt ss []) steps
    ∙ filter-rebuilt i.tokens g (subst P same j.derives))

-- of two beginnings of a text one goes on from the other
both_begin : (tokens more : List Token) (text rest behind : List ℕ) → Begins text tokens rest → Begins text more behind
    → ((next : List Token) × (more ≡ tokens ++ next) × Begins rest next behind)
    ⊎ ((next : List Token) × (tokens ≡ more ++ next) × Begins behind next rest)
both_begin [] more text rest behind b m =
    let P : List ℕ → Type 0 = λ xs. Begins xs more behind in
    inl (more, refl, subst P b m)
both_begin (t ∷ tokens) [] text rest behind b m =
    let P : List ℕ → Type 0 = λ xs. Begins xs (t ∷ tokens) rest in
    inr (t ∷ tokens, refl, subst P m b)
both_begin (t ∷ tokens) (u ∷ more) text rest behind b m =
    let same : u ≡ t = one_token (next_piece text) u t m.0 b.0 in
    elim (both_begin tokens more (past_piece text) rest behind b.1 m.1) [
      | inl l ↦ inl (l.0, ap (λ x. x ∷ more) same ∙ ap (λ xs. t ∷ xs) l.1, l.2)
      | inr r ↦ inr (r.0, ap (λ x. x ∷ tokens) (sym same) ∙ ap (λ xs. u ∷ xs) r.1, r.2)
    ]

-- what goes on from a place where the text leaves the grammar goes on by nothing
nothing_more : (text : List ℕ) (a : ℕ) (l : LeavesAt text a) (next more : List Token) (behind : List ℕ) → more ≡ l.tokens ++ next
    → Begins l.rest next behind
    → MayBegin more → l.rest ≡ behind
nothing_more text a l [] more behind m b may = b
nothing_more text a l (t ∷ next) more behind m b may =
    let P : List Token → Type 0 = λ ts. AreFilter ts may.1 in
    absurd (l.stops t b.0 (
      next ++ may.0,
      may.1,
      subst P (ap (λ ts. ts ++ may.0) m ∙ append_assoc l.tokens (t ∷ next) may.0
          ∙ sym (append_assoc l.tokens (t ∷ []) (next ++ may.0))) may.2,
    ))

same_offset : (text rest behind : List ℕ) (a b : ℕ) → rest ≡ behind → a + length (past_spaces rest) ≡ length text
    → b + length (past_spaces behind) ≡ length text → a ≡ b
same_offset text rest behind a b e p q = omega (arith, ap (λ xs. length (past_spaces xs)) e, p, q)

pub one_offset : (text : List ℕ) (a b : ℕ) → LeavesAt text a → LeavesAt text b → a ≡ b
one_offset text a b l m =
    elim (both_begin l.tokens m.tokens text l.rest m.rest l.begins m.begins) [
      | inl n ↦ same_offset text l.rest m.rest a b (nothing_more text a l n.0 m.tokens m.rest n.1 n.2 m.may_begin) l.place m.place
      | inr n ↦ same_offset text l.rest m.rest a b (sym (nothing_more text b m n.0 l.tokens l.rest n.1 n.2 l.may_begin)) l.place m.place
    ]
