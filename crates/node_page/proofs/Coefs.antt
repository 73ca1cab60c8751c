-- What the parts of setting a coefficient make.
use Rattle.std.proofs.Common.{◌≡◌, ◌≢◌, ℕ, ℤ, ◌+◌, ◌*◌, ◌/◌, ◌<◌, ◌≤◌, ◌⊎◌, inl, inr, Bool, List, get_or, ap, subst, ◌∙◌, arith}
use Rattle.std.specs.Int.{w64, cast_signed}
use Rattle.om3_coeff.specs.declared.coef.Coef.{Coef}
use Rattle.node_page.specs.Fields.{signed_at, flag_at, coef_at}
use Rattle.node_page.proofs.Bytes.{number_same}
use Rattle.node_page.proofs.Bits.{flag_same}
use Rattle.std.proofs.lemmas.Bool.{cases_order}

-- one flag is set
pub record FlagSet (old new : List ℕ) (flag : ℕ) (on : Bool) : Type 0 where
  pub is : flag_at new flag ≡ on
  pub others : (b : ℕ) → b < 256 → b ≢ flag → flag_at new b ≡ flag_at old b
  pub rest : (k : ℕ) → (k < 8) ⊎ (40 ≤ k) → get_or new k 0 ≡ get_or old k 0

-- one signed number is set
pub record NumberSet (old new : List ℕ) (offset : ℕ) (z : ℤ) : Type 0 where
  pub is : signed_at new offset ≡ z
  pub rest : (k : ℕ) → (k < offset) ⊎ (offset + 8 ≤ k) → get_or new k 0 ≡ get_or old k 0

-- the steps of setting a coefficient
pub record CoefSteps (b0 b1 b2 b3 b4 : List ℕ) (node : ℕ) (coef : Coef) : Type 0 where
  pub low : node < 127
  pub left : FlagSet b0 b1 (2 * node) coef.left
  pub right : FlagSet b1 b2 (2 * node + 1) coef.right
  pub least : NumberSet b2 b3 (40 + 16 * node) coef.dmin
  pub greatest : NumberSet b3 b4 (40 + 16 * node + 8) coef.dmax

signed_same : (at : ℕ) (old new : List ℕ) → ((k : ℕ) → at ≤ k → k < at + 8 → get_or new k 0 ≡ get_or old k 0)
    → signed_at new at ≡ signed_at old at
unfolding signed_at
signed_same at old new same = ap (cast_signed w64) (number_same 8 at old new same)

-- numbers leave the flags
flags_stay : (b0 b1 b2 b3 b4 : List ℕ) (node : ℕ) (coef : Coef) → CoefSteps b0 b1 b2 b3 b4 node coef → (b : ℕ) → b < 256
    → flag_at b4 b ≡ flag_at b2 b
flags_stay b0 b1 b2 b3 b4 node coef steps b few =
    let place : 8 + b / 8 < 40 = omega (arith, few) in
    flag_same b b3 b4 (steps.greatest.rest (8 + b / 8) (inl (omega (arith, place))))
    ∙ flag_same b b2 b3 (steps.least.rest (8 + b / 8) (inl (omega (arith, place))))

abbrev pub made : Bool → Bool → ℤ → ℤ → Coef
made left right dmin dmax = record { left = left; right = right; dmin = dmin; dmax = dmax }

made_same : (l l' r r' : Bool) (a a' b b' : ℤ) → l ≡ l' → r ≡ r' → a ≡ a' → b ≡ b' → made l r a b ≡ made l' r' a' b'
made_same l l' r r' a a' b b' el er ea eb =
    ap (λ (x : Bool). made x r a b) el ∙ ap (λ (x : Bool). made l' x a b) er ∙ ap (λ (x : ℤ). made l' r' x b) ea
    ∙ ap (λ (x : ℤ). made l' r' a' x) eb

-- the coefficient of a page by its four fields
pub coef_made : (page : List ℕ) (node : ℕ) (l r : Bool) (a b : ℤ) → flag_at page (2 * node) ≡ l → flag_at page (2 * node + 1) ≡ r
    → signed_at page (40 + 16 * node) ≡ a → signed_at page (40 + 16 * node + 8) ≡ b → coef_at page node ≡ made l r a b
unfolding coef_at
coef_made page node l r a b el er ea eb =
    made_same (flag_at page (2 * node)) l (flag_at page (2 * node + 1)) r (signed_at page (40 + 16 * node)) a
    (signed_at page (40 + 16 * node + 8)) b el er ea eb

pub coef_is_set : (b0 b1 b2 b3 b4 : List ℕ) (node : ℕ) (coef : Coef) → CoefSteps b0 b1 b2 b3 b4 node coef → coef_at b4 node ≡ coef
coef_is_set b0 b1 b2 b3 b4 node coef steps =
    let low = steps.low in
    let stay = flags_stay b0 b1 b2 b3 b4 node coef steps in
    let left : flag_at b4 (2 * node) ≡ coef.left = stay (2 * node) (omega (arith, low))
    ∙ steps.right.others (2 * node) (omega (arith, low)) (λ e. omega (arith, e)) ∙ steps.left.is in
    let right : flag_at b4 (2 * node + 1) ≡ coef.right = stay (2 * node + 1) (omega (arith, low)) ∙ steps.right.is in
    let least : signed_at b4 (40 + 16 * node) ≡ coef.dmin =
    signed_same (40 + 16 * node) b3 b4 (λ k from to. steps.greatest.rest k (inl (omega (arith, to)))) ∙ steps.least.is in
    coef_made b4 node coef.left coef.right coef.dmin coef.dmax left right least steps.greatest.is

same_made : (n : ℕ) (old new : List ℕ) → flag_at new (2 * n) ≡ flag_at old (2 * n) → flag_at new (2 * n + 1) ≡ flag_at old (2 * n + 1)
    → signed_at new (40 + 16 * n) ≡ signed_at old (40 + 16 * n) → signed_at new (40 + 16 * n + 8) ≡ signed_at old (40 + 16 * n + 8)
    → coef_at new n ≡ coef_at old n
unfolding coef_at
same_made n old new el er ea eb =
    made_same (flag_at new (2 * n)) (flag_at old (2 * n)) (flag_at new (2 * n + 1)) (flag_at old (2 * n + 1))
    (signed_at new (40 + 16 * n)) (signed_at old (40 + 16 * n)) (signed_at new (40 + 16 * n + 8))
    (signed_at old (40 + 16 * n + 8)) el er ea eb

-- a flag of another node, or of none
other_flag : (b0 b1 b2 b3 b4 : List ℕ) (node : ℕ) (coef : Coef) → CoefSteps b0 b1 b2 b3 b4 node coef → (b : ℕ) → b < 256 → b ≢ 2 * node
    → b ≢ 2 * node + 1 → flag_at b4 b ≡ flag_at b0 b
other_flag b0 b1 b2 b3 b4 node coef steps b few left right =
    flags_stay b0 b1 b2 b3 b4 node coef steps b few ∙ steps.right.others b few right ∙ steps.left.others b few left

-- a byte behind the flags and beside the two differences
other_byte : (b0 b1 b2 b3 b4 : List ℕ) (node : ℕ) (coef : Coef) → CoefSteps b0 b1 b2 b3 b4 node coef → (k : ℕ) → 40 ≤ k
    → (k < 40 + 16 * node) ⊎ (56 + 16 * node ≤ k) → get_or b4 k 0 ≡ get_or b0 k 0
other_byte b0 b1 b2 b3 b4 node coef steps k behind (inl before) =
    steps.greatest.rest k (inl (omega (arith, before))) ∙ steps.least.rest k (inl before) ∙ steps.right.rest k (inr behind)
    ∙ steps.left.rest k (inr behind)
other_byte b0 b1 b2 b3 b4 node coef steps k behind (inr after) =
    steps.greatest.rest k (inr (omega (arith, after))) ∙ steps.least.rest k (inr (omega (arith, after))) ∙ steps.right.rest k (inr behind)
    ∙ steps.left.rest k (inr behind)

beside : (n node k : ℕ) → n ≢ node → 40 + 16 * n ≤ k → k < 56 + 16 * n → (k < 40 + 16 * node) ⊎ (56 + 16 * node ≤ k)
beside n node k other from to = elim (cases_order n node) [
  | inl same ↦ absurd (other same)
  | inr differ ↦ elim differ [ inl less ↦ inl (omega (arith, less, to)) | inr more ↦ inr (omega (arith, more, from)) ]
]

pub others_stay : (b0 b1 b2 b3 b4 : List ℕ) (node : ℕ) (coef : Coef) → CoefSteps b0 b1 b2 b3 b4 node coef → (n : ℕ) → n < 127 → n ≢ node
    → coef_at b4 n ≡ coef_at b0 n
others_stay b0 b1 b2 b3 b4 node coef steps n few other =
    let byte : (k : ℕ) → 40 + 16 * n ≤ k → k < 56 + 16 * n → get_or b4 k 0 ≡ get_or b0 k 0 =
    λ k from to. other_byte b0 b1 b2 b3 b4 node coef steps k (omega (arith, from)) (beside n node k other from to) in
    let flag : (b : ℕ) → b < 254 → b ≢ 2 * node → b ≢ 2 * node + 1
    → flag_at b4 b ≡ flag_at b0 b = λ b low. other_flag b0 b1 b2 b3 b4 node coef steps b (omega (arith, low)) in
    same_made n b0 b4
    (flag (2 * n) (omega (arith, few)) (λ e. other (omega (arith, e))) (λ e. omega (arith, e)))
    (flag (2 * n + 1) (omega (arith, few)) (λ e. omega (arith, e)) (λ e. other (omega (arith, e))))
    (signed_same (40 + 16 * n) b0 b4 (λ k from to. byte k from (omega (arith, to))))
    (signed_same (40 + 16 * n + 8) b0 b4 (λ k from to. byte k (omega (arith, from)) (omega (arith, to))))

pub spare_stay : (b0 b1 b2 b3 b4 : List ℕ) (node : ℕ) (coef : Coef) → CoefSteps b0 b1 b2 b3 b4 node coef → (b : ℕ) → 254 ≤ b → b < 256
    → flag_at b4 b ≡ flag_at b0 b
spare_stay b0 b1 b2 b3 b4 node coef steps b low high =
    other_flag b0 b1 b2 b3 b4 node coef steps b high (λ e. omega (arith, e, low, steps.low)) (λ e. omega (arith, e, low, steps.low))

pub rest_stay : (b0 b1 b2 b3 b4 : List ℕ) (node : ℕ) (coef : Coef) → CoefSteps b0 b1 b2 b3 b4 node coef → (k : ℕ) → (k < 8) ⊎ (2072 ≤ k)
    → get_or b4 k 0 ≡ get_or b0 k 0
rest_stay b0 b1 b2 b3 b4 node coef steps k (inl front) =
    steps.greatest.rest k (inl (omega (arith, front))) ∙ steps.least.rest k (inl (omega (arith, front))) ∙ steps.right.rest k (inl front)
    ∙ steps.left.rest k (inl front)
rest_stay b0 b1 b2 b3 b4 node coef steps k (inr behind) =
    let behind' : 40 ≤ k = omega (arith, behind) in
    other_byte b0 b1 b2 b3 b4 node coef steps k behind' (inr (omega (arith, behind, steps.low)))

-- coefficients depend on their bytes alone
pub coef_same : (n : ℕ) (old new : List ℕ) → n < 127 → ((k : ℕ) → 8 ≤ k → k < 2072 → get_or new k 0 ≡ get_or old k 0)
    → coef_at new n ≡ coef_at old n
coef_same n old new few same =
    same_made n old new
    (flag_same (2 * n) old new (same (8 + 2 * n / 8) (omega arith) (omega (arith, few))))
    (flag_same (2 * n + 1) old new (same (8 + (2 * n + 1) / 8) (omega arith) (omega (arith, few))))
    (signed_same (40 + 16 * n) old new (λ k from to. same k (omega (arith, from)) (omega (arith, few, to))))
    (signed_same (40 + 16 * n + 8) old new (λ k from to. same k (omega (arith, from)) (omega (arith, few, to))))

pub number_moved : (old new : List ℕ) (at place : ℕ) (z : ℤ) → at ≡ place → NumberSet old new at z → NumberSet old new place z
number_moved old new at place z is set =
    let P : ℕ → Type 0 = λ a. NumberSet old new a z in subst P is set
