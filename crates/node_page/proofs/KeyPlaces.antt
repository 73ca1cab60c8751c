-- Where the node of a key stands, by the key of its parent.
use Rattle.std.proofs.Common.{◌≡◌, ℕ, zero, suc, ◌+◌, ◌-◌, ◌*◌, ◌/◌, ◌%◌, ◌^◌, ◌<◌, ◌≤◌, sym, ap, inl, inr, ◌∙◌, arith}
use Rattle.std.proofs.Math.Nat.{div-div-eq-div-mul, pow-succ', pow-le-pow_right, mod-lt, one-le-pow}
use Rattle.std.proofs.lemmas.Nat.{mod-pow-add, div-add-mod', div-mul-add, mod-mul-add}
use Rattle.std.proofs.lemmas.Bool.{cases_lt}
use Rattle.om3_coeff.proofs.KeyLemmas.{same_key}
use Rattle.om3_coeff.specs.declared.key.Key.{Key}
use Rattle.om3_coeff.specs.Keys.{parent_of}
use Rattle.node_page.specs.Places.{page_level, below_top, page_index, node_number}

pub level_of_top : (level p : ℕ) → level ≡ 7 * p → page_level level ≡ p
unfolding page_level
level_of_top level p is = omega (arith, is)

pub level_above : (level p : ℕ) → level ≡ 7 * p → page_level (suc level) ≡ suc p
unfolding page_level
level_above level p is = omega (arith, is)

pub below_few : (level : ℕ) → below_top level < 7
unfolding below_top page_level
below_few level = omega arith

pub below_sum : (level : ℕ) → level + below_top level ≡ 7 * page_level level
unfolding below_top page_level
below_sum level = omega arith

below_more : (level : ℕ) → page_level (suc level) ≡ page_level level → below_top level ≡ suc (below_top (suc level))
below_more level same = omega (arith, below_sum level, below_sum (suc level), same)

below_none : (level p : ℕ) → level ≡ 7 * p → below_top level ≡ 0
below_none level p is = omega (arith, below_sum level, level_of_top level p is, is)

below_six : (level p : ℕ) → level ≡ 7 * p → below_top (suc level) ≡ 6
below_six level p is = omega (arith, below_sum (suc level), level_above level p is, is)

-- the place in a page of the key so many levels below its top
abbrev part : ℕ → ℕ → ℕ
part b index = (2 ^ b - 1) + index % 2 ^ b

pow_two : (b : ℕ) → 0 < 2 ^ b
pow_two b = let h = one-le-pow b 2 (omega arith) in omega arith

part_few : (b index : ℕ) → b < 7 → part b index < 127
part_few zero index few = omega arith
part_few (suc zero) index few = omega arith
part_few (suc (suc zero)) index few = omega arith
part_few (suc (suc (suc zero))) index few = omega arith
part_few (suc (suc (suc (suc zero)))) index few = omega arith
part_few (suc (suc (suc (suc (suc zero))))) index few = omega arith
part_few (suc (suc (suc (suc (suc (suc zero)))))) index few = omega arith
part_few (suc (suc (suc (suc (suc (suc (suc b))))))) index few = absurd (omega (arith, few))

part_below : (b index : ℕ) → part (suc b) index ≡ 2 * part b (index / 2) + 1 + index % 2
part_below b index =
    let w = 2 ^ b in
    let double : 2 ^ suc b ≡ 2 * w = pow-succ' 2 b in
    let sum : b + 1 ≡ suc b = omega arith in
    let split : index % 2 ^ (b + 1) ≡ (index / 2 ^ 1 % w) * 2 ^ 1 + index % 2 ^ 1 = mod-pow-add index b 1 in
    let split' : index % 2 ^ suc b ≡ (index / 2 % w) * 2 + index % 2 = ap (λ (n : ℕ). index % 2 ^ n) (sym sum) ∙ split in
    omega (arith, double, split', pow_two b)

index_below : (b index : ℕ) → index / 2 / 2 ^ b ≡ index / 2 ^ suc b
index_below b index = div-div-eq-div-mul index 2 (2 ^ b) ∙ ap (λ (n : ℕ). index / n) (sym (pow-succ' 2 b))

pub node_few : (k : Key) → node_number k < 127
unfolding node_number
node_few k = part_few (below_top k.level) k.index (below_few k.level)

pub top_index : (k : Key) (p : ℕ) → k.level ≡ 7 * p → page_index k ≡ k.index
unfolding page_index
top_index k p is = ap (λ (b : ℕ). k.index / 2 ^ b) (below_none k.level p is) ∙ omega arith

pub top_node : (k : Key) (p : ℕ) → k.level ≡ 7 * p → node_number k ≡ 0
unfolding node_number
top_node k p is = ap (λ (b : ℕ). part b k.index) (below_none k.level p is) ∙ omega arith

pub same_page : (k : Key) → page_level (suc k.level) ≡ page_level k.level → page_index (parent_of k) ≡ page_index k
unfolding page_index
same_page k same =
    let b = below_top (suc k.level) in
    index_below b k.index ∙ ap (λ (n : ℕ). k.index / 2 ^ n) (sym (below_more k.level same))

pub node_below : (k : Key) → page_level (suc k.level) ≡ page_level k.level → node_number k ≡ 2 * node_number (parent_of k) + 1 + k.index % 2
unfolding node_number
node_below k same =
    let b = below_top (suc k.level) in
    ap (λ (n : ℕ). part n k.index) (below_more k.level same) ∙ part_below b k.index

pub index_above : (k : Key) (p : ℕ) → k.level ≡ 7 * p → page_index (parent_of k) ≡ k.index / 128
unfolding page_index
index_above k p is = ap (λ (b : ℕ). k.index / 2 / 2 ^ b) (below_six k.level p is) ∙ omega arith

pub node_above : (k : Key) (p : ℕ) → k.level ≡ 7 * p → node_number (parent_of k) ≡ 63 + k.index % 128 / 2
unfolding node_number
node_above k p is = ap (λ (b : ℕ). part b (k.index / 2)) (below_six k.level p is) ∙ omega arith

part_high : (b index : ℕ) → part b index + 1 < 2 ^ suc b
part_high b index = omega (arith, mod-lt index (pow_two b), pow-succ' 2 b, pow_two b)

part_low : (b c index : ℕ) → b < c → 2 ^ suc b ≤ part c index + 1
part_low b c index less =
    let up : 2 ^ suc b ≤ 2 ^ c = pow-le-pow_right {n = 2} (omega arith) less in
    omega (arith, up, pow_two c)

-- the place in a page tells how far below the top it is
part_depth : (b c i j : ℕ) → part b i ≡ part c j → b ≡ c
part_depth b c i j same = elim (cases_lt b c) [
  | inl less ↦ absurd (omega (arith, part_high b i, part_low b c j less, same))
  | inr more ↦ elim (cases_lt c b) [
    | inl less ↦ absurd (omega (arith, part_high c j, part_low c b i less, same))
    | inr equal ↦ omega (arith, more, equal)
  ]
]

-- two keys of one page with one node are the same
pub one_key : (k l : Key) → page_level k.level ≡ page_level l.level → page_index k ≡ page_index l → node_number k ≡ node_number l → k ≡ l
unfolding page_index node_number
one_key k l level page node =
    let b = below_top k.level in
    let c = below_top l.level in
    let depth : b ≡ c = part_depth b c k.index l.index node in
    let levels : k.level ≡ l.level = omega (arith, below_sum k.level, below_sum l.level, depth, level) in
    let page' : k.index / 2 ^ b ≡ l.index / 2 ^ b = page ∙ ap (λ (n : ℕ). l.index / 2 ^ n) (sym depth) in
    let node' : part b k.index ≡ part b l.index = node ∙ ap (λ (n : ℕ). part n l.index) (sym depth) in
    let rest : k.index % 2 ^ b ≡ l.index % 2 ^ b = omega (arith, node') in
    let index : k.index ≡ l.index =
    sym (div-add-mod' k.index (2 ^ b)) ∙ ap (λ (n : ℕ). n * 2 ^ b + k.index % 2 ^ b) page'
    ∙ ap (λ (n : ℕ). l.index / 2 ^ b * 2 ^ b + n) rest ∙ div-add-mod' l.index (2 ^ b) in
    same_key k l levels index

-- the number of nodes of a level in a page, as it is computed in 64 bits
pub width_few : (b : ℕ) → b ≤ 6 → (1 ≤ 1 * 2 ^ b % 18446744073709551616) × (1 * 2 ^ b % 18446744073709551616 ≤ 64)
width_few zero few = (omega arith, omega arith)
width_few (suc zero) few = (omega arith, omega arith)
width_few (suc (suc zero)) few = (omega arith, omega arith)
width_few (suc (suc (suc zero))) few = (omega arith, omega arith)
width_few (suc (suc (suc (suc zero)))) few = (omega arith, omega arith)
width_few (suc (suc (suc (suc (suc zero))))) few = (omega arith, omega arith)
width_few (suc (suc (suc (suc (suc (suc zero)))))) few = (omega arith, omega arith)
width_few (suc (suc (suc (suc (suc (suc (suc b))))))) few = absurd (omega (arith, few))

below_top_of : (p d : ℕ) → 1 ≤ p → d < 7 → below_top (7 * p - d) ≡ d
unfolding below_top page_level
below_top_of p d low few = omega (arith, low, few)

level_of : (p d : ℕ) → 1 ≤ p → d < 7 → page_level (7 * p - d) ≡ p
unfolding page_level
level_of p d low few = omega (arith, low, few)

-- the key of a node so many levels below the top of a page
abbrev pub key_of : ℕ → ℕ → ℕ → ℕ → Key
key_of p q d r = record { level = 7 * p - d; index = q * 2 ^ d + r }

pub record HasKey (p q n : ℕ) (k : Key) : Type 0 where
  pub low : 1 ≤ k.level
  pub level : page_level k.level ≡ p
  pub page : page_index k ≡ q
  pub node : node_number k ≡ n

pub node_has_key : (p q n d : ℕ) → 1 ≤ p → d < 7 → 2 ^ d ≤ n + 1 → n + 1 < 2 * 2 ^ d → HasKey p q n (key_of p q d (n + 1 - 2 ^ d))
unfolding page_index node_number
node_has_key p q n d low few from to =
    let w = 2 ^ d in
    let r = n + 1 - w in
    let less : r < w = omega (arith, from, to, pow_two d) in
    let depth : below_top (7 * p - d) ≡ d = below_top_of p d low few in
    let rest : (q * w + r) % w ≡ r = mod-mul-add q w r less in
    record {
      low = omega (arith, low, few);
      level = level_of p d low few;
      page = ap (λ (b : ℕ). (q * w + r) / 2 ^ b) depth ∙ div-mul-add q w r less;
      node = ap (λ (b : ℕ). part b (q * w + r)) depth ∙ omega (arith, rest, from, pow_two d);
    }

abbrev pub SomeKey : ℕ → ℕ → ℕ → Type 0
SomeKey p q n = (k : Key) × (1 ≤ k.level) × (page_level k.level ≡ p) × (page_index k ≡ q) × (node_number k ≡ n)

at_depth : (p q n d : ℕ) → 1 ≤ p → d < 7 → 2 ^ d ≤ n + 1 → n + 1 < 2 * 2 ^ d → SomeKey p q n
at_depth p q n d low few from to =
    let has = node_has_key p q n d low few from to in (key_of p q d (n + 1 - 2 ^ d), has.low, has.level, has.page, has.node)

-- every node of a page is that of a key
pub every_node : (p q n : ℕ) → 1 ≤ p → n < 127 → SomeKey p q n
every_node p q n low few = elim (cases_lt n 1) [
  | inl a ↦ at_depth p q n 0 low (omega arith) (omega arith) (omega (arith, a))
  | inr a ↦ elim (cases_lt n 3) [
    | inl b ↦ at_depth p q n 1 low (omega arith) (omega (arith, a)) (omega (arith, b))
    | inr b ↦ elim (cases_lt n 7) [
      | inl c ↦ at_depth p q n 2 low (omega arith) (omega (arith, b)) (omega (arith, c))
      | inr c ↦ elim (cases_lt n 15) [
        | inl d ↦ at_depth p q n 3 low (omega arith) (omega (arith, c)) (omega (arith, d))
        | inr d ↦ elim (cases_lt n 31) [
          | inl e ↦ at_depth p q n 4 low (omega arith) (omega (arith, d)) (omega (arith, e))
          | inr e ↦ elim (cases_lt n 63) [
            | inl f ↦ at_depth p q n 5 low (omega arith) (omega (arith, e)) (omega (arith, f))
            | inr f ↦ at_depth p q n 6 low (omega arith) (omega (arith, f)) (omega (arith, few))
          ]
        ]
      ]
    ]
  ]
]
