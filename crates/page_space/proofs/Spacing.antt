-- Pages stand for those in use and those freed, and go on doing so.
use Rattle.std.proofs.Common.{◌≡◌, ◌≢◌, ℕ, suc, ◌+◌, ◌-◌, ◌<◌, ◌≤◌, ◌^◌, List, [], ◌∷◌, ◌++◌, length, drop, refl, sym, ap, arith, inl, inr}
use Rattle.std.proofs.Common.{◌∙◌, ◌⊎◌}
use Rattle.std.proofs.lemmas.Bool.Decides.{eqb_tells}
use Rattle.std.proofs.lemmas.List.{length-append}
use Rattle.block_disk.specs.View.{Image}
use Rattle.page_space.specs.declared.superblock.Superblock.{Superblock}
use Rattle.page_space.specs.Layout.{superblock_page, freed_page, in_use, IsGiven, IsNext, Links, with_fresh, without_head, with_head}
use Rattle.page_space.specs.Layout.{with_series}
use Rattle.page_space.specs.Spaces.{times, first, once, IsLinked, Stands}
use Rattle.page_space.proofs.Counting.{times_here, times_other, times_more, times_shift, times_append, once_in, once_high, once_given}
use Rattle.page_space.proofs.Counting.{once_most, once_step, count_given}
use Rattle.page_space.proofs.Layouts.{same_next, fresh_rules, next_rules, head_rules, series_rules}

pub freed_given : (count : ℕ) (image : Image) (s : Superblock) (taken freed : List ℕ) → Stands count image s taken freed → (p : ℕ)
    → 0 < times p freed → IsGiven s.fresh p
freed_given count image s taken freed stands p there = once_given s.fresh p (omega (arith, there, stands.parted p))

-- as many pages are in use and freed as were ever in use
pub stands_counts : (count : ℕ) (image : Image) (s : Superblock) (taken freed : List ℕ) → Stands count image s taken freed
    → length taken + length freed + 17 ≡ s.fresh
stands_counts count image s taken freed stands =
    let whole : 17 + (s.fresh - 17) ≡ s.fresh = omega (arith, stands.rules.fresh_low) in
    let counted = count_given (s.fresh - 17) (taken ++ freed) (λ p. times_append p taken freed ∙ stands.parted p
    ∙ ap (λ f. once f p) (sym whole)) in
    omega (arith, counted, length-append taken freed, whole)

-- so many pages are in use: page 0 and the catalog, and those behind it
pub stands_used : (count : ℕ) (image : Image) (s : Superblock) (taken freed : List ℕ) → Stands count image s taken freed
    → in_use s ≡ 17 + length taken
stands_used count image s taken freed stands = omega (arith, stands_counts count image s taken freed stands, stands.chain_is)

-- a chain stays where its pages stay
pub linked_same : (old new : Image) (ps : List ℕ) → ((p : ℕ) → 0 < times p ps → new p ≡ old p) → IsLinked old ps → IsLinked new ps
linked_same old new [] same linked = linked
linked_same old new (p ∷ ps) same linked =
    let here : 0 < times p (p ∷ ps) = omega (arith, times_here p p ps refl) in
    (same p here ∙ linked.0, linked_same old new ps (λ q there. same q (omega (arith, there, times_more q p ps))) linked.1)

-- the first of some pages, where all were ever in use
pub first_small : (fresh : ℕ) (ps : List ℕ) → fresh < 2 ^ 32 → ((p : ℕ) → 0 < times p ps → IsGiven fresh p) → first ps < 2 ^ 32
first_small fresh [] small given = omega arith
first_small fresh (p ∷ ps) small given =
    let here : 0 < times p (p ∷ ps) = omega (arith, times_here p p ps refl) in
    omega (arith, (given p here).1, small)

-- what follows the head of a chain
follows : (s : Superblock) (fs : List ℕ) → s.chain ≡ suc (length fs) → ((p : ℕ) → 0 < times p fs → IsGiven s.fresh p) → IsNext s (first fs)
follows s [] chain given = record { last = (λ one. refl, λ none. chain); given = λ some. absurd (some refl) }
follows s (f ∷ fs) chain given =
    let here : 0 < times f (f ∷ fs) = omega (arith, times_here f f fs refl) in
    record {
      last = (λ one. absurd (omega (arith, one, chain)), λ none. absurd (omega (arith, none, (given f here).0)));
      given = λ some. given f here;
    }

-- the head of a chain keeps its layout
pub head_links : (count : ℕ) (image : Image) (s : Superblock) (taken freed : List ℕ) → s.chain ≢ 0 → Stands count image s taken freed
    → Links s (first (drop 1 freed)) (image s.head)
head_links count image s taken [] some stands = absurd (some stands.chain_is)
head_links count image s taken (f ∷ fs) some stands = record {
  spelled = ap (λ p. image p) stands.head_is ∙ stands.linked.0;
  rule = follows s fs stands.chain_is (λ p there. freed_given count image s taken (f ∷ fs) stands p
      (omega (arith, there, times_more p f fs)));
}

-- the first page that was never used is taken
pub take_fresh : (count : ℕ) (old new : Image) (s : Superblock) (taken freed : List ℕ) → s.chain ≡ 0 → s.fresh < s.total
    → new 0 ≡ superblock_page (with_fresh s) → Stands count old s taken freed
    → Stands count new (with_fresh s) (s.fresh ∷ taken) (drop 1 freed)
take_fresh count old new s taken (f ∷ fs) none room spelled stands = absurd (omega (arith, none, stands.chain_is))
take_fresh count old new s taken [] none room spelled stands = record {
  spelled = spelled;
  rules = fresh_rules count s room stands.rules;
  head_is = stands.head_is;
  chain_is = stands.chain_is;
  linked = stands.linked;
  parted = λ p. elim (cases p) [
    | inl is ↦ omega (
      arith,
      times_here p s.fresh taken is,
      stands.parted p,
      once_high s.fresh p (omega (arith, is)),
      once_in (s.fresh + 1) p (omega (arith, is, stands.rules.fresh_low)) (omega (arith, is)),
    )
    | inr other ↦ omega (arith, times_other p s.fresh taken other, stands.parted p, once_step s.fresh p other)
  ];
}
  where
    cases : (p : ℕ) → (p ≡ s.fresh) ⊎ (p ≢ s.fresh)
    cases p = elim (eqb_tells p s.fresh) [ inl is ↦ inl is.1 | inr is ↦ inr is.1 ]

-- the head of the chain is taken
pub take_head : (count : ℕ) (old new : Image) (s : Superblock) (next : ℕ) (taken freed : List ℕ) → s.chain ≢ 0 → s.fresh < 2 ^ 32
    → next < 2 ^ 32 → IsNext s next → old s.head ≡ freed_page next → new 0 ≡ superblock_page (without_head s next)
    → ((p : ℕ) → 0 < p → new p ≡ old p) → Stands count old s taken freed
    → Stands count new (without_head s next) (s.head ∷ taken) (drop 1 freed)
take_head count old new s next taken [] some small small' is read spelled same stands = absurd (some stands.chain_is)
take_head count old new s next taken (f ∷ fs) some small small' is read spelled same stands =
    let given : (p : ℕ) → 0 < times p fs → IsGiven s.fresh p =
    λ p there. freed_given count old s taken (f ∷ fs) stands p (omega (arith, there, times_more p f fs)) in
    record {
      spelled = spelled;
      rules = next_rules count s next some is stands.rules;
      head_is = same_next next (first fs) small' (first_small s.fresh fs small given) (sym read ∙ ap (λ p. old p) stands.head_is
          ∙ stands.linked.0);
      chain_is = omega (arith, stands.chain_is);
      linked = linked_same old new fs (λ p there. same p (omega (arith, (given p there).0))) stands.linked.1;
      parted = λ p. ap (λ h. times p (h ∷ taken) + times p fs) stands.head_is ∙ times_shift p f taken fs ∙ stands.parted p;
    }

-- a page in use can be freed
pub gives : (count : ℕ) (image : Image) (s : Superblock) (p : ℕ) (taken rest freed : List ℕ)
    → ((q : ℕ) → times q taken ≡ times q (p ∷ rest)) → Stands count image s taken freed → IsGiven s.fresh p × (s.chain + 17 < s.fresh)
gives count image s p taken rest freed parts stands =
    let here : 0 < times p taken = omega (arith, parts p, times_here p p rest refl) in
    let long : 0 < length taken = nonempty taken here in (
      once_given s.fresh p (omega (arith, here, stands.parted p)),
      omega (arith, stands_counts count image s taken freed stands, long, stands.chain_is),
    )
  where
    nonempty : (xs : List ℕ) → 0 < times p xs → 0 < length xs
    nonempty [] some = some
    nonempty (x ∷ xs) some = omega arith

-- a page is freed
pub give : (count : ℕ) (old new : Image) (s : Superblock) (p : ℕ) (taken rest freed : List ℕ) → new 0 ≡ superblock_page (with_head s p)
    → new p ≡ freed_page s.head → ((q : ℕ) → 0 < q → q ≢ p → new q ≡ old q) → ((q : ℕ) → times q taken ≡ times q (p ∷ rest))
    → Stands count old s taken freed → Stands count new (with_head s p) rest (p ∷ freed)
give count old new s p taken rest freed spelled page same parts stands =
    let can = gives count old s p taken rest freed parts stands in
    let here : 0 < times p taken = omega (arith, parts p, times_here p p rest refl) in
    record {
      spelled = spelled;
      rules = head_rules count s p can.0.0 can.0.1 can.1 stands.rules;
      head_is = refl;
      chain_is = omega (arith, stands.chain_is);
      linked = (
        page ∙ ap (λ n. freed_page n) stands.head_is,
        linked_same old new freed (λ q there. same q
            (omega (arith, (freed_given count old s taken freed stands q there).0))
            (λ is. omega (arith, there, ap (λ r. times r freed) is, here, stands.parted p, once_most s.fresh p)))
            stands.linked,
      );
      parted = λ q. sym (times_shift q p rest freed) ∙ ap (λ n. n + times q freed) (sym (parts q)) ∙ stands.parted q;
    }

-- other pages than page 0 and those of the chain may change
pub stands_put : (count : ℕ) (old new : Image) (s : Superblock) (p : ℕ) (taken freed : List ℕ) → 0 < p → times p freed ≡ 0
    → ((q : ℕ) → q ≢ p → new q ≡ old q) → Stands count old s taken freed → Stands count new s taken freed
stands_put count old new s p taken freed behind none same stands = record {
  spelled = same 0 (λ is. omega (arith, behind, is)) ∙ stands.spelled;
  rules = stands.rules;
  head_is = stands.head_is;
  chain_is = stands.chain_is;
  linked = linked_same old new freed (λ q there. same q (λ is. omega (arith, there, none, ap (λ r. times r freed) is))) stands.linked;
  parted = stands.parted;
}

-- the number of series changes
pub stands_series : (count : ℕ) (old new : Image) (s : Superblock) (n : ℕ) (taken freed : List ℕ) → n ≤ 512
    → new 0 ≡ superblock_page (with_series s n) → ((q : ℕ) → 0 < q → new q ≡ old q) → Stands count old s taken freed
    → Stands count new (with_series s n) taken freed
stands_series count old new s n taken freed few spelled same stands = record {
  spelled = spelled;
  rules = series_rules count s n few stands.rules;
  head_is = stands.head_is;
  chain_is = stands.chain_is;
  linked = linked_same old new freed (λ q there. same q (omega (arith, (freed_given count old s taken freed stands q there).0)))
      stands.linked;
  parted = stands.parted;
}
