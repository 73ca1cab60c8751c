-- What follows where pages stand.
use Rattle.std.proofs.Common.{◌≡◌, ℕ, ◌+◌, ◌<◌, ◌^◌, List, [], ◌∷◌, length, refl, sym, ap, subst, arith, ◌∙◌}
use Rattle.block_disk.specs.View.{Image}
use Rattle.page_space.specs.declared.superblock.Superblock.{Superblock}
use Rattle.page_space.specs.Layout.{IsGiven, freed_page}
use Rattle.page_space.specs.Spaces.{times, once, first, IsLinked, Stands}
use Rattle.page_space.specs.Standing.{IsApart, IsSame}
use Rattle.page_space.proofs.Counting.{times_more, once_in, once_given, once_most}
use Rattle.page_space.proofs.Layouts.{rules_small, same_numbers, same_next}
use Rattle.page_space.proofs.Spacing.{first_small, freed_given, linked_same}

pub apart : (count : ℕ) (image : Image) (s : Superblock) (taken freed : List ℕ) (p : ℕ) → Stands count image s taken freed
    → IsApart s taken freed p
apart count image s taken freed p stands = record {
  once = omega (arith, stands.parted p, once_most s.fresh p);
  given = λ there. once_given s.fresh p (omega (arith, there, stands.parted p));
  kept = λ given. stands.parted p ∙ once_in s.fresh p given.0 given.1;
}

-- pages of one image that are linked from one page on are the same, where they are as many
same_chain : (fresh : ℕ) (image : Image) (ps qs : List ℕ) → fresh < 2 ^ 32 → ((p : ℕ) → 0 < times p ps → IsGiven fresh p)
    → ((p : ℕ) → 0 < times p qs → IsGiven fresh p)
    → length qs ≡ length ps → first qs ≡ first ps → IsLinked image ps → IsLinked image qs → qs ≡ ps
same_chain fresh image [] [] small given given' long start linked linked' = refl
same_chain fresh image [] (q ∷ qs) small given given' long start linked linked' = absurd (omega (arith, long))
same_chain fresh image (p ∷ ps) [] small given given' long start linked linked' = absurd (omega (arith, long))
same_chain fresh image (p ∷ ps) (q ∷ qs) small given given' long start linked linked' =
    let behind : (r : ℕ) → 0 < times r ps → IsGiven fresh r = λ r there. given r (omega (arith, there, times_more r p ps)) in
    let behind' : (r : ℕ) → 0 < times r qs → IsGiven fresh r = λ r there. given' r (omega (arith, there, times_more r q qs)) in
    let named : freed_page (first qs) ≡ freed_page (first ps) = sym linked'.0 ∙ ap image start ∙ linked.0 in
    let next : first qs ≡ first ps = same_next (first qs) (first ps) (first_small fresh qs small behind')
    (first_small fresh ps small behind) named in
    let rest : qs ≡ ps = same_chain fresh image ps qs small behind behind' (omega (arith, long)) next linked.1 linked'.1 in
    ap (λ l. q ∷ l) rest ∙ ap (λ r. r ∷ ps) start

pub one_state : (count : ℕ) (image : Image) (s other : Superblock) (taken taken' freed freed' : List ℕ) → count < 2 ^ 32
    → Stands count image s taken freed → Stands count image other taken' freed' → IsSame s other taken taken' freed freed'
one_state count image s other taken taken' freed freed' small stands stands' =
    let numbers : other ≡ s = same_numbers other s (rules_small count other small stands'.rules) (rules_small count s small stands.rules)
    (sym stands'.spelled ∙ stands.spelled) in
    let fits : s.fresh < 2 ^ 32 = omega (arith, small, stands.rules.fresh_high, stands.rules.total_high) in
    let given : (p : ℕ) → 0 < times p freed → IsGiven s.fresh p = freed_given count image s taken freed stands in
    let fresh : other.fresh ≡ s.fresh = ap (λ t. t.fresh) numbers in
    let given' : (p : ℕ) → 0 < times p freed' → IsGiven s.fresh p = λ p there.
    let P : ℕ → Type 0 = λ n. IsGiven n p in subst P fresh (freed_given count image other taken' freed' stands' p there) in
    let long : length freed' ≡ length freed = sym stands'.chain_is ∙ ap (λ t. t.chain) numbers ∙ stands.chain_is in
    let start : first freed' ≡ first freed = sym stands'.head_is ∙ ap (λ t. t.head) numbers ∙ stands.head_is in
    let chain : freed' ≡ freed = same_chain s.fresh image freed freed' fits given given' long start stands.linked stands'.linked in
    record {
      numbers = numbers;
      chain = chain;
      in_use = λ p. omega (arith, stands'.parted p, stands.parted p, ap (λ l. times p l) chain, ap (λ n. once n p) fresh);
    }

pub stands_on : (count : ℕ) (old new : Image) (s : Superblock) (taken taken' freed : List ℕ) → new 0 ≡ old 0
    → ((p : ℕ) → 0 < times p freed → new p ≡ old p)
    → ((p : ℕ) → times p taken' ≡ times p taken) → Stands count old s taken freed → Stands count new s taken' freed
stands_on count old new s taken taken' freed zero same like stands = record {
  spelled = zero ∙ stands.spelled;
  rules = stands.rules;
  head_is = stands.head_is;
  chain_is = stands.chain_is;
  linked = linked_same old new freed same stands.linked;
  parted = λ p. ap (λ n. n + times p freed) (like p) ∙ stands.parted p;
}
