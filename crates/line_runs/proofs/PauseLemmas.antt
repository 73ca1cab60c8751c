-- How many pauses there are, by the pieces that are taken.
use Rattle.std.proofs.Common.{◌≡◌, ◌≢◌, ◌∙◌, ◌⊎◌, ℕ, ◌+◌, ◌-◌, ◌<◌, ◌≤◌, ◌^◌, List, [], ◌∷◌, ◌++◌, get_or, length, take, Option, Some, None}
use Rattle.std.proofs.Common.{ap, sym, arith, inl, inr, length-append}
use Rattle.std.proofs.lemmas.List.{get_or_append_left, get_or-take, length-take}
use Rattle.chart_world.specs.Lines.{NoLineFeed}
use Rattle.chart_world.specs.Reading.{HasLine, IsNone, Reading, Took, unread}
use Rattle.line_runs.specs.Given.{EndsPaused, Given, Line, Pause, pauses}
use Rattle.line_runs.specs.GivenLaws.{pauses_joined, pauses_paused}
use Rattle.line_runs.specs.Runs.{FewPauses}

-- as many pieces were taken as there are pauses, or one less, where no byte is left
abbrev pub Counted : Option (List ℕ) → ℕ → ℕ → List Given → Type 0
Counted bytes before now given =
    now < 2 ^ 64 - 1 → (before + pauses given ≤ now) ⊎ ((before + pauses given ≤ now + 1) × IsNone bytes)

-- the next line stands ready, or the work was paused just now
abbrev pub Waits : Reading → Option (List ℕ) → ℕ → ℕ → List Given → Type 0
Waits r bytes before now given =
    (HasLine r × Counted bytes before now given) ⊎ ((HasLine r → ⊥) × ((p : EndsPaused given) × Counted bytes before now p.earlier))

pub counted_later : (bytes : Option (List ℕ)) (before now now' : ℕ) (given : List Given) → now ≤ now' → Counted bytes before now given
    → Counted bytes before now' given
counted_later bytes before now now' given later c = λ small. elim (c (omega (arith, small, later))) [
  | inl enough ↦ inl (omega (arith, enough, later))
  | inr less ↦ inr (omega (arith, less.0, later), less.1)
]

-- with a pause more
pub few_paused : (bytes : Option (List ℕ)) (before now now' : ℕ) (given : List Given) → now ≤ now' → Counted bytes before now given
    → FewPauses before now' (given ++ Pause ∷ [])
few_paused bytes before now now' given later c = λ small. elim (c (omega (arith, small, later))) [
  | inl enough ↦ omega (arith, enough, later, pauses_joined given (Pause ∷ []))
  | inr less ↦ omega (arith, less.0, later, pauses_joined given (Pause ∷ []))
]

few_ready : (bytes : Option (List ℕ)) (before now now' : ℕ) (given : List Given) → now ≤ now' → Counted bytes before now given
    → FewPauses before now' given
few_ready bytes before now now' given later c = λ small. elim (c (omega (arith, small, later))) [
  | inl enough ↦ omega (arith, enough, later)
  | inr less ↦ omega (arith, less.0, later)
]

pub few_waits : (r : Reading) (bytes : Option (List ℕ)) (before now now' : ℕ) (given : List Given) → now ≤ now'
    → Waits r bytes before now given → FewPauses before now' given
few_waits r bytes before now now' given later (inl (has, c)) = few_ready bytes before now now' given later c
few_waits r bytes before now now' given later (inr (none, (p, c))) = λ small. elim (c (omega (arith, small, later))) [
  | inl enough ↦ omega (arith, enough, later, pauses_paused given p)
  | inr less ↦ omega (arith, less.0, later, pauses_paused given p)
]

-- one thing more, that is no pause
pub few_more : (before now : ℕ) (given : List Given) (next : Given) → pauses (next ∷ []) ≡ 0 → FewPauses before now given
    → FewPauses before now (given ++ next ∷ [])
few_more before now given next none few = λ small. omega (arith, few small, pauses_joined given (next ∷ []), none)

-- ---- a line is given

some_told : (bytes : Option (List ℕ)) (rest : List ℕ) → bytes ≡ Some rest → rest ≢ [] → IsNone bytes → ⊥
some_told None rest is some none = cc (is)
some_told (Some b) rest is some none = let same : b ≡ rest = cc (is) in some (sym same ∙ none)

-- where a byte is left
all_counted : (bytes : Option (List ℕ)) (rest : List ℕ) (before now : ℕ) (given : List Given) → bytes ≡ Some rest → rest ≢ []
    → Counted bytes before now given → now < 2 ^ 64 - 1 → before + pauses given ≤ now
all_counted bytes rest before now given is some c small = elim (c small) [
  | inl enough ↦ enough
  | inr less ↦ absurd (some_told bytes rest is some less.1)
]

pub counted_line : (r : Reading) (bytes bytes' : Option (List ℕ)) (rest : List ℕ) (before now now' at : ℕ) (line : Option (List ℕ))
    (given : List Given) → bytes ≡ Some rest → rest ≢ [] → (HasLine r → now' ≡ now) → ((HasLine r → ⊥) → Took now now' bytes')
    → now ≤ now' → Waits r bytes before now given → Counted bytes' before now' (given ++ Line at line ∷ [])
counted_line r bytes bytes' rest before now now' at line given is some same took later (inl (has, c)) = λ small.
    inl (omega (
      arith,
      all_counted bytes rest before now given is some c (omega (arith, small, later)),
      pauses_joined given (Line at line ∷ []),
      later,
    ))
counted_line r bytes bytes' rest before now now' at line given is some same took later (inr (none, (p, c))) = λ small.
    let most = all_counted bytes rest before now p.earlier is some c (omega (arith, small, later)) in
    elim (took none) [
      | inl grown ↦ elim grown [
        | inl more ↦ inl (omega (arith, most, pauses_paused given p, pauses_joined given (Line at line ∷ []), more))
        | inr full ↦ absurd (omega (arith, full, small))
      ]
      | inr end ↦ inr (omega (arith, most, pauses_paused given p, pauses_joined given (Line at line ∷ []), later), end)
    ]

-- ---- no line is given

pub paused_waits : (r : Reading) (bytes : Option (List ℕ)) (before now : ℕ) (given : List Given) → (HasLine r → ⊥)
    → Waits r bytes before now given → EndsPaused given
paused_waits r bytes before now given unready (inl (has, c)) = absurd (unready has)
paused_waits r bytes before now given unready (inr (none, (p, c))) = p

-- a line that stands ready ends with a line feed, which is unread
pub no_feed : (r : Reading) (left : Option (List ℕ)) (rest : List ℕ) (count : ℕ) → unread r left ≡ Some rest
    → NoLineFeed (take count rest) → (length r.pending ≤ count) ⊎ (r.limit - r.given ≤ count) → HasLine r → ⊥
no_feed r None rest count is none most has = cc (is)
no_feed r (Some l) rest count is none most (k, below, here) =
    let same : r.pending ++ l ≡ rest = cc (is) in
    let low : k < r.limit - r.given = omega (arith, below, length-take (r.limit - r.given) r.pending) in
    let within : k < length r.pending = omega (arith, below, length-take (r.limit - r.given) r.pending) in
    let early : k < count = elim most [
      | inl all ↦ omega (arith, within, all)
      | inr first ↦ omega (arith, low, first)
    ] in
    let there : get_or rest k 10 ≡ 10 =
    ap (λ b. get_or b k 10) (sym same) ∙ get_or_append_left r.pending l 10 k within
    ∙ sym (get_or-take (r.limit - r.given) r.pending k 10 low) ∙ here in
    none k 10 (omega (arith, early, within, ap length same, length-append r.pending l, length-take count rest))
    (get_or-take count rest k 10 early ∙ there)

pub none_ready : (r : Reading) (left : Option (List ℕ)) (rest : List ℕ) → unread r left ≡ Some rest → rest ≡ [] → HasLine r → ⊥
none_ready r None rest is none has = cc (is)
none_ready r (Some l) rest is none (k, below, here) =
    let same : r.pending ++ l ≡ rest = cc (is) in
    absurd (omega (
      arith,
      below,
      length-take (r.limit - r.given) r.pending,
      ap length same,
      ap length none,
      length-append r.pending l,
    ))
