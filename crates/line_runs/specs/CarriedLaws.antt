-- What is given behind other things does what both do.
use Rattle.std.proofs.Common.{◌≡◌, ◌∙◌, ℕ, List, [], ◌∷◌, ◌++◌, refl, sym, ap, subst, append_assoc}
use Rattle.std.proofs.lemmas.List.{append-nil}
use Rattle.line_runs.specs.Carried.{Carries, Done}
use Rattle.line_runs.specs.Given.{Given, Line, Pause, End, unpaused}

-- some of it was done, and then the others
pub record CarriesBoth {State : Type 0} (does : State → Given → List ℕ → State → Type 0) (first later : List Given) (state : State)
    (text : List ℕ) (behind : State) : Type 0 where
  pub begin : List ℕ
  pub between : State
  pub begins : Carries does state first begin between
  pub more : List ℕ
  pub others : Carries does between later more behind
  pub texts : text ≡ begin ++ more

module _ {State : Type 0} (does : State → Given → List ℕ → State → Type 0) where
  pub carries_one : (state behind : State) (it : Given) (text : List ℕ) → does state it text behind
      → Carries does state (it ∷ []) text behind
  carries_one state behind it text done =
      record { first = text; between = behind; does = done; more = []; others = (refl, refl); texts = sym (append-nil text) }

  pub carries_then : (first later : List Given) (state between behind : State) (text more : List ℕ)
      → Carries does state first text between → Carries does between later more behind
      → Carries does state (first ++ later) (text ++ more) behind
  carries_then [] later state between behind text more (none, same) second =
      let P : State → Type 0 = λ s. Carries does s later more behind in
      let Q : List ℕ → Type 0 = λ t. Carries does state later (t ++ more) behind in
      subst Q (sym none) (subst P same second)
  carries_then (it ∷ first) later state between behind text more one second = record {
    first = one.first;
    between = one.between;
    does = one.does;
    more = one.more ++ more;
    others = carries_then first later one.between between behind one.more more one.others second;
    texts = ap (λ t. t ++ more) one.texts ∙ append_assoc one.first one.more more;
  }

  pub carries_both : (first later : List Given) (state : State) (text : List ℕ) (behind : State)
      → Carries does state (first ++ later) text behind → CarriesBoth does first later state text behind
  carries_both [] later state text behind all =
      record { begin = []; between = state; begins = (refl, refl); more = text; others = all; texts = refl }
  carries_both (it ∷ first) later state text behind all =
      let rest = carries_both first later all.between all.more behind all.others in
      record {
        begin = all.first ++ rest.begin;
        between = rest.between;
        begins = record {
          first = all.first;
          between = all.between;
          does = all.does;
          more = rest.begin;
          others = rest.begins;
          texts = refl;
        };
        more = rest.more;
        others = rest.others;
        texts = all.texts ∙ ap (λ t. all.first ++ t) rest.texts ∙ sym (append_assoc all.first rest.begin rest.more);
      }

  -- where a pause does nothing, lines with pauses do what the lines do
  pub carries_unpaused : ((state : State) (text : List ℕ) (behind : State) → does state Pause text behind → (text ≡ []) × (behind ≡ state))
      → (given : List Given) (state : State) (text : List ℕ) (behind : State) → Carries does state given text behind
      → Carries does state (unpaused given) text behind
  carries_unpaused idle [] state text behind all = all
  carries_unpaused idle (Line at line ∷ later) state text behind all = record {
    first = all.first;
    between = all.between;
    does = all.does;
    more = all.more;
    others = carries_unpaused idle later all.between all.more behind all.others;
    texts = all.texts;
  }
  carries_unpaused idle (Pause ∷ later) state text behind all =
      let none = idle state all.first all.between all.does in
      let P : State → Type 0 = λ s. Carries does s (unpaused later) text behind in
      let Q : List ℕ → Type 0 = λ t. Carries does all.between (unpaused later) t behind in
      subst P none.1 (subst Q (sym (all.texts ∙ ap (λ t. t ++ all.more) none.0))
      (carries_unpaused idle later all.between all.more behind all.others))
  carries_unpaused idle (End ∷ later) state text behind all = record {
    first = all.first;
    between = all.between;
    does = all.does;
    more = all.more;
    others = carries_unpaused idle later all.between all.more behind all.others;
    texts = all.texts;
  }

  -- what each thing that is done keeps, they keep
  pub carries_on : (Keeps : State → Type 0)
      → ((state : State) (it : Given) (text : List ℕ) (behind : State) → does state it text behind → Keeps state → Keeps behind)
      → (given : List Given) (state : State) (text : List ℕ) (behind : State) → Carries does state given text behind → Keeps state
      → Keeps behind
  carries_on Keeps on [] state text behind all is = subst Keeps (sym all.1) is
  carries_on Keeps on (it ∷ later) state text behind all is =
      carries_on Keeps on later all.between all.more behind all.others (on state it all.first all.between all.does is)

  -- nothing was done, and one thing more was
  abbrev pub done_none : (state : State) → Done does state
  done_none state = record { given = []; text = []; behind = state; carries = (refl, refl) }

  abbrev pub done_more : {state : State} (done : Done does state) (next : Given) (text : List ℕ) (behind : State)
      → does done.behind next text behind → Done does state
  done_more {state} done next text behind did = record {
    given = done.given ++ next ∷ [];
    text = done.text ++ text;
    behind = behind;
    carries = carries_then done.given (next ∷ []) state done.behind behind done.text text done.carries
        (carries_one done.behind behind next text did);
  }
