-- What is done of what is given, one after the other.
use Rattle.std.specs.Prelude.{◌≡◌, ℕ, List, [], ◌∷◌, ◌++◌, Option}
use Rattle.block_disk.specs.Streams.{sent_after}
use Rattle.line_runs.specs.Given.{Given}

-- it was done: this was sent, and this state stands now
pub record DoesOne {State : Type 0} (does : State → Given → List ℕ → State → Type 0) (IsNow : State → Type 0) (state : State)
    (it : Given) (before now : Option (List ℕ)) : Type 0 where
  pub text : List ℕ
  pub behind : State
  pub done : does state it text behind
  pub stands : IsNow behind
  pub sent : now ≡ sent_after text before

-- the first, and those behind it
pub record Follows {State : Type 0} (one : List ℕ → State → Type 0) (later : State → List ℕ → Type 0) (text : List ℕ) : Type 0 where
  pub first : List ℕ
  pub between : State
  pub does : one first between
  pub more : List ℕ
  pub others : later between more
  pub texts : text ≡ first ++ more

-- these, one after the other, send this and lead to this state
abbrev pub Carries : {State : Type 0} (does : State → Given → List ℕ → State → Type 0) → State → List Given → List ℕ → State → Type 0
Carries {State} does state [] text behind = (text ≡ []) × (behind ≡ state)
Carries {State} does state (it ∷ later) text behind = Follows (does state it) (λ between more. Carries does between later more behind) text

-- some of what is given was done, from a state on
pub record Done {State : Type 0} (does : State → Given → List ℕ → State → Type 0) (state : State) : Type 0 where
  pub given : List Given
  pub text : List ℕ
  pub behind : State
  pub carries : Carries does state given text behind
