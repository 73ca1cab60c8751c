-- Pages that are apart stay so while a tree is changed.
use Rattle.std.proofs.Common.{◌≡◌, ◌≢◌, ℕ, zero, suc, ◌+◌, ◌-◌, ◌*◌, ◌^◌, ◌<◌, ◌≤◌, Bool, cond, ltb, List, [], ◌∷◌, length, unwrap_or, refl}
use Rattle.std.proofs.Common.{sym, ap, subst, arith, inl, inr, ◌∙◌}
use Rattle.std.proofs.lemmas.Bool.{cases_lt, lt-ltb, le-ltb}
use Rattle.std.proofs.lemmas.Bool.Decides.{eqb_tells}
use Rattle.block_disk.specs.View.{Image}
use Rattle.std.specs.Int.{bytes_high_first}
use Rattle.node_page.specs.Fields.{number_at, with_bytes, child_at}
use Rattle.node_page.proofs.Bytes.{number_written}
use Rattle.page_space.specs.declared.superblock.Superblock.{Superblock}
use Rattle.page_space.specs.declared.txn.Txn.{Txn}
use Rattle.page_space.specs.declared.errors.SpaceError.TheVariants as space
use Rattle.page_space.specs.Causes.{FromChain, FromFresh, Takes, Refuses}
use Rattle.page_space.specs.Layout.{word, freed_page, IsGiven, IsNext, IsSuperblock, Links, without_head, with_head}
use Rattle.page_space.specs.Spaces.{times, once}
use Rattle.page_space.specs.Transactions.{left_by, OnlyFirst}
use Rattle.page_space.proofs.Counting.{times_here, times_other, times_more, once_high, once_in, once_given, once_most, once_step}
use Rattle.path_repair.specs.Apart.{TellsUnfit, AreChained, AreApart, IsChain, StandsApart, reached_pages, and_page, and_tree, and_children}
use Rattle.path_repair.specs.Damage.{HasBadLink}
use Rattle.path_repair.specs.Keeping.{root_level}
use Rattle.path_repair.specs.Sums.{sum_below}
use Rattle.path_repair.proofs.SumLemmas.{sum_same, sum_swap}

-- ---- the page that a page of the chain names

freed_written : (next : ℕ) → freed_page next ≡ with_bytes (freed_page next) 4 (bytes_high_first 4 next)
unfolding freed_page word with_bytes
freed_written next = refl

freed_long : (next : ℕ) → 4 ≤ length (freed_page next)
unfolding freed_page
freed_long next = omega arith

named : (next : ℕ) → next < 2 ^ 32 → number_at (freed_page next) 4 4 ≡ next
named next small = ap (λ page. number_at page 4 4) (freed_written next) ∙ number_written 4 4 next (freed_page next) (freed_long next) small

next_small : (s : Superblock) (next total : ℕ) → s.fresh ≤ total → total < 2 ^ 32 → IsNext s next → next < 2 ^ 32
next_small s zero total below small is = omega arith
next_small s (suc next) total below small is = omega (arith, (is.given (λ none. omega (arith, none))).1, below, small)

-- ---- how often a page is one

pub page_times : (p page : ℕ) (ps : List ℕ) → times p (page ∷ ps) ≡ times p (page ∷ []) + times p ps
page_times p page ps = elim (eqb_tells p page) [
  | inl is ↦ omega (arith, times_here p page ps is.1, times_here p page [] is.1)
  | inr is ↦ omega (arith, times_other p page ps is.1, times_other p page [] is.1)
]

page_itself : (page : ℕ) → times page (page ∷ []) ≡ 1
page_itself page = times_here page page [] refl

-- ---- chains

-- a chain stays where its pages stay
chain_same : (stored old new : Image) (from s : Superblock) (ps : List ℕ) → ((p : ℕ) → 0 < times p ps → new p ≡ old p)
    → IsChain stored from old s ps → IsChain stored from new s ps
chain_same stored old new from s [] same chain = chain
chain_same stored old new from s (p ∷ ps) same chain =
    let here : new p ≡ old p = same p (omega (arith, times_here p p ps refl)) in
    let back : (next : ℕ) → Links s next (new p) → Links s next (old p) = λ next links. let P : List ℕ
    → Type 0 = λ page. Links s next page in subst P here links in
    let on : (next : ℕ) → Links s next (old p) → Links s next (new p) = λ next links. let P : List ℕ → Type 0 = λ page. Links s next page in
    subst P (sym here) links in (
      chain.0,
      chain.1,
      λ none. chain.2 (λ next links. none next (on next links)),
      λ next links. chain_same stored old new from (without_head s next) ps (λ q there. same q (omega (arith, there, times_more q p ps)))
          (chain.3 next (back next links)),
    )

-- the chain as it is stored
chained_start : (stored : Image) (from s : Superblock) (left : ℕ) (ps : List ℕ) → s.chain ≡ left
    → ((at : ℕ) → HasBadLink stored s left at → HasBadLink stored from from.chain at) → AreChained stored s ps
    → IsChain stored from stored s ps
chained_start stored from s left [] is bad chained = chained
chained_start stored from s zero (p ∷ ps) is bad chained = absurd (chained.0 is)
chained_start stored from s (suc left) (p ∷ ps) is bad chained =
    let L : ℕ → ℕ → Type 0 = λ next page. Links s next (stored page) in (
      sym chained.1,
      chained.0,
      λ none. bad p (inl (chained.1, λ next links. none next (subst (L next) (sym chained.1) links))),
      λ next links.
          let at_head = subst (L next) chained.1 links in
          chained_start stored from (without_head s next) left ps (omega (arith, is)) (λ at broken. bad at (inr (next, at_head, broken)))
          (chained.2 next at_head),
    )

-- ---- pages that are apart

pub apart_on : {fits : ℕ → ℕ → Bool} (stored image : Image) (from s : Superblock) (mine mine' kept kept' : ℕ → ℕ)
    → ((p : ℕ) → mine' p + kept' p ≤ mine p + kept p) → ((p : ℕ) → 0 < kept' p → 0 < kept p)
    → StandsApart fits stored image from s mine kept → StandsApart fits stored image from s mine' kept'
apart_on {fits} stored image from s mine mine' kept kept' less some apart = record {
  small = apart.small;
  tells = apart.tells;
  freed = apart.freed;
  chain = apart.chain;
  parted = λ p. omega (arith, apart.parted p, less p);
  same = λ p there. apart.same p (some p there);
}

-- those of a tree that isn't changed are left
pub apart_settled : {fits : ℕ → ℕ → Bool} (stored image : Image) (from s : Superblock) (height level index page : ℕ) (mine kept : ℕ → ℕ)
    → StandsApart fits stored image from s mine (and_tree fits stored height level index page kept)
    → StandsApart fits stored image from s mine kept
apart_settled {fits} stored image from s height level index page mine kept apart =
    apart_on stored image from s mine mine (and_tree fits stored height level index page kept) kept (λ p. omega arith)
    (λ p there. omega (arith, there)) apart

pub apart_start : (fits : ℕ → ℕ → Bool) (image : Image) (s : Superblock) (pages : List ℕ) → TellsUnfit image s.total fits
    → AreApart image s pages → StandsApart fits image image s s (λ p. 0) (λ p. times p pages)
apart_start fits image s pages tells apart = record {
  small = apart.small;
  tells = tells;
  freed = apart.chain;
  chain = chained_start image s s s.chain apart.chain refl (λ at bad. bad) apart.chained;
  parted = λ p. omega (arith, apart.once p);
  same = λ p there. refl;
}

-- a page in hand was in use, and is neither left alone nor in the chain
record IsAlone (stored image : Image) (from s : Superblock) (page : ℕ) (kept : ℕ → ℕ) (freed : List ℕ) : Type 0 where
  pub given : IsGiven s.fresh page
  pub unkept : kept page ≡ 0
  pub unfreed : times page freed ≡ 0

alone : {fits : ℕ → ℕ → Bool} (stored image : Image) (from s : Superblock) (page : ℕ) (mine kept : ℕ
    → ℕ) (apart : StandsApart fits stored image from s (and_page page mine) kept) → IsAlone stored image from s page kept apart.freed
alone {fits} stored image from s page mine kept apart =
    let parted = apart.parted page in
    let most = once_most s.fresh page in
    let here = page_itself page in
    record {
      given = once_given s.fresh page (omega (arith, parted, here));
      unkept = omega (arith, parted, here, most);
      unfreed = omega (arith, parted, here, most);
    }

kept_high : {fits : ℕ → ℕ → Bool} (stored image : Image) (from s : Superblock) (mine kept : ℕ → ℕ) (p : ℕ)
    → StandsApart fits stored image from s mine kept → 0 < kept p → 0 < p
kept_high {fits} stored image from s mine kept p apart there = omega (
  arith,
  (once_given s.fresh p (omega (arith, apart.parted p, there))).0,
)

freed_high : {fits : ℕ → ℕ → Bool} (stored image : Image) (from s : Superblock) (mine kept : ℕ → ℕ) (p : ℕ)
    → (apart : StandsApart fits stored image from s mine kept) → 0 < times p apart.freed → 0 < p
freed_high {fits} stored image from s mine kept p apart there = omega (
  arith,
  (once_given s.fresh p (omega (arith, apart.parted p, there))).0,
)

differs : (p page : ℕ) (count : ℕ → ℕ) → count page ≡ 0 → 0 < count p → p ≢ page
differs p page count none there same = omega (arith, none, there, ap count same)

-- ---- a page is put

pub apart_put : {fits : ℕ → ℕ → Bool} (stored old new : Image) (from s s' : Superblock) (page : ℕ) (mine kept : ℕ → ℕ) → s' ≡ s
    → ((p : ℕ) → p ≢ page → new p ≡ old p)
    → StandsApart fits stored old from s (and_page page mine) kept → StandsApart fits stored new from s' mine kept
apart_put {fits} stored old new from s s' page mine kept same others apart =
    let by_itself = alone stored old from s page mine kept apart in
    let S : Superblock → Type 0 = λ t. StandsApart fits stored new from t mine kept in
    subst S (sym same) (record {
      small = apart.small;
      tells = apart.tells;
      freed = apart.freed;
      chain = chain_same stored old new from s apart.freed
          (λ p there. others p (differs p page (λ q. times q apart.freed) by_itself.unfreed there)) apart.chain;
      parted = λ p. omega (arith, apart.parted p);
      same = λ p there. others p (differs p page kept by_itself.unkept there) ∙ apart.same p there;
    })

-- ---- a page is given back

pushed_next : (s : Superblock) (page : ℕ) → IsSuperblock s.total s → IsNext (with_head s page) s.head
pushed_next s page rules = record {
  last = (λ one. rules.none.0 (omega (arith, one)), λ none. omega (arith, rules.none.1 none));
  given = rules.head_is;
}

popped : (s : Superblock) (page : ℕ) → without_head (with_head s page) s.head ≡ s
popped s page = ap (λ n. with_chain s n) (let back : s.chain + 1 - 1 ≡ s.chain = omega arith in back)
  where
    with_chain : Superblock → ℕ → Superblock
    with_chain s n = record { total = s.total; fresh = s.fresh; head = s.head; chain = n; series = s.series }

freed_chain : (stored old new : Image) (from s : Superblock) (page : ℕ) (ps : List ℕ) → IsSuperblock s.total s → s.total < 2 ^ 32
    → new page ≡ freed_page s.head → ((p : ℕ) → 0 < times p ps → new p ≡ old p)
    → IsChain stored from old s ps → IsChain stored from new (with_head s page) (page ∷ ps)
freed_chain stored old new from s page ps rules small here same chain =
    let rule = pushed_next s page rules in
    let head_small : s.head < 2 ^ 32 = next_small (with_head s page) s.head s.total rules.fresh_high small rule in (
      refl,
      λ none. absurd (omega (arith, none)),
      λ none. absurd (none s.head (record { spelled = here; rule = rule })),
      λ next links.
          let same_next : s.head ≡ next =
          sym (named s.head head_small) ∙ ap (λ page. number_at page 4 4) (sym here ∙ links.spelled)
          ∙ named next (next_small (with_head s page) next s.total rules.fresh_high small links.rule) in
          let P : Superblock → Type 0 = λ t. IsChain stored from new t ps in
          let N : ℕ → Type 0 = λ n. IsChain stored from new (without_head (with_head s page) n) ps in
          subst N same_next (subst P (sym (popped s page)) (chain_same stored old new from s ps same chain)),
    )

given_back : {fits : ℕ → ℕ → Bool} (stored old new : Image) (from s s' : Superblock) (page : ℕ) (mine kept : ℕ → ℕ) → IsSuperblock s.total s
    → s' ≡ with_head s page → new page ≡ freed_page s.head → ((p : ℕ) → 0 < p → p ≢ page → new p ≡ old p)
    → StandsApart fits stored old from s (and_page page mine) kept → StandsApart fits stored new from s' mine kept
given_back {fits} stored old new from s s' page mine kept rules is here others apart =
    let by_itself = alone stored old from s page mine kept apart in
    let S : Superblock → Type 0 = λ t. StandsApart fits stored new from t mine kept in
    subst S (sym is) (record {
      small = apart.small;
      tells = apart.tells;
      freed = page ∷ apart.freed;
      chain = freed_chain stored old new from s page apart.freed rules apart.small here
          (λ p there. others p (freed_high stored old from s (and_page page mine) kept p apart there)
          (differs p page (λ q. times q apart.freed) by_itself.unfreed there)) apart.chain;
      parted = λ p. omega (arith, apart.parted p, page_times p page apart.freed);
      same = λ p there. others p (kept_high stored old from s (and_page page mine) kept p apart there)
          (differs p page kept by_itself.unkept there) ∙ apart.same p there;
    })

pub apart_free : {fits : ℕ → ℕ → Bool} (stored base : Image) (from : Superblock) (t t' : Txn) (page : ℕ) (mine kept : ℕ → ℕ)
    → ((IsGiven t.superblock.fresh page × (t.superblock.chain + 17 < t.superblock.fresh) → ⊥) → t' ≡ t)
    → (IsGiven t.superblock.fresh page → t.superblock.chain + 17 < t.superblock.fresh → t'.superblock ≡ with_head t.superblock page)
    → (IsGiven t.superblock.fresh page → t.superblock.chain + 17 < t.superblock.fresh → left_by t' base page ≡ freed_page t.superblock.head)
    → ((p : ℕ) → 0 < p → p ≢ page → left_by t' base p ≡ left_by t base p)
    → StandsApart fits stored (left_by t base) from t.superblock (and_page page mine) kept
    → StandsApart fits stored (left_by t' base) from t'.superblock mine kept
apart_free {fits} stored base from t t' page mine kept nothing numbers here others apart =
    let by_itself = alone stored (left_by t base) from t.superblock page mine kept apart in
    elim (cases_lt (t.superblock.chain + 17) t.superblock.fresh) [
      | inl room ↦ given_back stored (left_by t base) (left_by t' base) from t.superblock t'.superblock page mine kept t.rules
          (numbers by_itself.given room) (here by_itself.given room) others apart
      | inr full ↦
          let T : Txn → Type 0 = λ u. StandsApart fits stored (left_by u base) from u.superblock mine kept in
          subst T (sym (nothing (λ is. omega (arith, full, is.1))))
          (apart_on stored (left_by t base) from t.superblock (and_page page mine) mine kept kept (λ p. omega arith)
          (λ p there. there) apart)
    ]

-- ---- a page is taken

chain_taken : {fits : ℕ → ℕ → Bool} (told : Type 0) (stored old new : Image) (from s s' : Superblock) (page : ℕ) (mine kept : ℕ → ℕ) → told
    → ((p : ℕ) → 0 < p → new p ≡ old p) → FromChain told old s s' page
    → (freed : List ℕ) → IsChain stored from old s freed → ((p : ℕ) → mine p + (kept p + times p freed) ≤ once s.fresh p)
    → ((p : ℕ) → 0 < kept p → old p ≡ stored p) → s.total < 2 ^ 32 → TellsUnfit stored s.total fits
    → StandsApart fits stored new from s' (and_page page mine) kept
chain_taken {fits} told stored old new from s s' page mine kept is others taken [] chain parted same small tells = absurd (taken.some chain)
chain_taken {fits} told stored old new from s s' page mine kept is others taken (q ∷ freed) chain parted same small tells =
    let S : Superblock → Type 0 = λ t. StandsApart fits stored new from t (and_page page mine) kept in
    let page_is : page ≡ q = taken.head_is ∙ chain.0 in
    let high : (p : ℕ) → 0 < times p freed → 0 < p = λ p there. omega (
      arith,
      (once_given s.fresh p (omega (arith, parted p, there, times_more p q freed))).0,
    ) in
    let L : ℕ → Type 0 = λ p. Links s s'.head (old p) in
    let links : Links s s'.head (old q) = subst L chain.0 (record { spelled = taken.spelled is; rule = taken.rule }) in
    subst S (sym taken.after) (record {
      small = small;
      tells = tells;
      freed = freed;
      chain = chain_same stored old new from (without_head s s'.head) freed (λ p there. others p (high p there)) (chain.3 s'.head links);
      parted = λ p. omega (arith, parted p, page_times p q freed, ap (λ n. times p (n ∷ [])) page_is);
      same = λ p there. others p (omega (arith, (once_given s.fresh p (omega (arith, parted p, there))).0)) ∙ same p there;
    })

fresh_taken : {fits : ℕ → ℕ → Bool} (stored old new : Image) (from s s' : Superblock) (page : ℕ) (mine kept : ℕ → ℕ) → 17 ≤ page
    → ((p : ℕ) → 0 < p → new p ≡ old p) → FromFresh s s' page
    → (freed : List ℕ) → IsChain stored from old s freed → ((p : ℕ) → mine p + (kept p + times p freed) ≤ once s.fresh p)
    → ((p : ℕ) → 0 < kept p → old p ≡ stored p) → s.total < 2 ^ 32 → TellsUnfit stored s.total fits
    → StandsApart fits stored new from s' (and_page page mine) kept
fresh_taken {fits} stored old new from s s' page mine kept low others taken (q ∷ freed) chain parted same small tells = absurd
    (chain.1 taken.none)
fresh_taken {fits} stored old new from s s' page mine kept low others taken [] chain parted same small tells =
    let S : Superblock → Type 0 = λ t. StandsApart fits stored new from t (and_page page mine) kept in
    subst S (sym taken.after) (record {
      small = small;
      tells = tells;
      freed = [];
      chain = chain;
      parted = λ p. elim (eqb_tells p page) [
        | inl is ↦
            let at : p ≡ s.fresh = is.1 ∙ taken.fresh_is in
            omega (
              arith,
              parted p,
              once_high s.fresh p (omega (arith, at)),
              once_in (s.fresh + 1) p (omega (arith, is.1, low)) (omega (arith, at)),
              times_here p page [] is.1,
            )
        | inr is ↦ omega (arith, parted p, once_step s.fresh p (λ at. is.1 (at ∙ sym taken.fresh_is)), times_other p page [] is.1)
      ];
      same = λ p there. others p (omega (arith, (once_given s.fresh p (omega (arith, parted p, there))).0)) ∙ same p there;
    })

pub apart_taken : {fits : ℕ → ℕ → Bool} (told : Type 0) (stored base : Image) (from : Superblock) (t t' : Txn) (page : ℕ) (mine kept : ℕ
    → ℕ) → told → OnlyFirst t t' → IsGiven t'.superblock.fresh page → Takes told (left_by t base) t.superblock t'.superblock page
    → StandsApart fits stored (left_by t base) from t.superblock mine kept
    → StandsApart fits stored (left_by t' base) from t'.superblock (and_page page mine) kept
apart_taken {fits} told stored base from t t' page mine kept is first given takes apart =
    let others : (p : ℕ) → 0 < p → left_by t' base p ≡ left_by t base p = λ p some. ap (λ bytes. unwrap_or bytes (base p))
    (first.others p some) in
    elim takes [
      | inl taken ↦ chain_taken told stored (left_by t base)
          (left_by t' base) from t.superblock t'.superblock page mine kept is others taken apart.freed apart.chain apart.parted apart.same
          apart.small apart.tells
      | inr taken ↦ fresh_taken stored (left_by t base)
          (left_by t' base) from t.superblock t'.superblock page mine kept given.0 others taken apart.freed apart.chain apart.parted
          apart.same apart.small apart.tells
    ]

-- why none was taken
chain_broken : (stored image : Image) (from s : Superblock) (page : ℕ) (freed : List ℕ) → s.chain ≢ 0 → page ≡ s.head
    → ((next : ℕ) → Links s next (image s.head) → ⊥) → IsChain stored from image s freed → HasBadLink stored from from.chain page
chain_broken stored image from s page [] some is none chain = absurd (some chain)
chain_broken stored image from s page (q ∷ freed) some is none chain =
    let B : ℕ → Type 0 = λ at. HasBadLink stored from from.chain at in
    let N : ℕ → Type 0 = λ p. (next : ℕ) → Links s next (image p) → ⊥ in
    subst B (sym (is ∙ chain.0)) (chain.2 (subst N chain.0 none))

pub apart_broken : {fits : ℕ → ℕ → Bool} (told : Type 0) (stored image : Image) (from s : Superblock) (page : ℕ) (mine kept : ℕ
    → ℕ) (old new : ℕ) → told → Refuses (space.Damaged page) told image s old new → StandsApart fits stored image from s mine kept
    → HasBadLink stored from from.chain page
apart_broken {fits} told stored image from s page mine kept old new is refused apart = chain_broken stored image from s page apart.freed
    refused.0 refused.1.0 (refused.1.1 is) apart.chain

-- ---- the children of a page

-- how often a page is one of a child's
abbrev pub child_times : (ℕ → ℕ → Bool) → Image → ℕ → ℕ → ℕ → List ℕ → ℕ → ℕ → ℕ
child_times fits stored height below index bytes p child = times p
    (reached_pages fits stored (root_level height below (128 * index + child)) (child_at bytes child))

abbrev left_times : (ℕ → ℕ → Bool) → Image → ℕ → ℕ → ℕ → List ℕ → ℕ → ℕ → ℕ → ℕ
left_times fits stored height below index bytes p i child = cond (ltb child i) 0 (child_times fits stored height below index bytes p child)

-- all of them are left at first
pub children_first : (fits : ℕ → ℕ → Bool) (stored : Image) (height below index : ℕ) (bytes : List ℕ) (kept : ℕ → ℕ) (p : ℕ)
    → and_children fits stored height below index bytes 0 kept p ≡ sum_below
    (child_times fits stored height below index bytes p) 128 + kept p
children_first fits stored height below index bytes kept p =
    ap (λ n. n + kept p) (sum_same (left_times fits stored height below index bytes p 0)
    (child_times fits stored height below index bytes p) 128
    (λ c low. ap (λ b. cond b 0 (child_times fits stored height below index bytes p c)) (le-ltb c 0 (omega arith))))

-- the next one, and those behind it
pub children_next : (fits : ℕ → ℕ → Bool) (stored : Image) (height below index : ℕ) (bytes : List ℕ) (i : ℕ) (kept : ℕ → ℕ) (p : ℕ)
    → i < 128
    → and_children fits stored height below index bytes i kept p ≡ child_times fits stored height below index bytes p i + and_children fits
    stored height below index bytes (i + 1) kept p
children_next fits stored height below index bytes i kept p within =
    let times_at = child_times fits stored height below index bytes p in
    let f = left_times fits stored height below index bytes p i in
    let g = left_times fits stored height below index bytes p (i + 1) in
    let swap = sum_swap f g i 128 within (λ c low other. elim (cases_lt c i) [
      | inl before ↦ ap (λ b. cond b 0 (times_at c)) (lt-ltb c (i + 1) (omega (arith, before)))
          ∙ sym (ap (λ b. cond b 0 (times_at c)) (lt-ltb c i before))
      | inr after ↦
          let past : i + 1 ≤ c = beyond c i other after in
          ap (λ b. cond b 0 (times_at c)) (le-ltb c (i + 1) past) ∙ sym (ap (λ b. cond b 0 (times_at c)) (le-ltb c i after))
    ]) in
    let here : f i ≡ times_at i = ap (λ b. cond b 0 (times_at i)) (le-ltb i i (omega arith)) in
    let gone : g i ≡ 0 = ap (λ b. cond b 0 (times_at i)) (lt-ltb i (i + 1) (omega arith)) in
    omega (arith, swap, here, gone)
  where
    beyond : (c i : ℕ) → c ≢ i → i ≤ c → i + 1 ≤ c
    beyond c i other after = elim (cases_lt i c) [ inl more ↦ omega (arith, more) | inr less ↦ absurd (other (omega (arith, less, after))) ]
