-- A page spells one superblock, or names one next page.
use Rattle.std.proofs.Common.{◌≡◌, ◌≢◌, ℕ, zero, suc, ◌+◌, ◌<◌, ◌≤◌, ◌^◌, Bool, true, false, IsTrue, ◌↔◌, List, ◌++◌, drop, refl, sym, ap}
use Rattle.std.proofs.Common.{subst, arith, ◌∙◌}
use Rattle.std.specs.Prelude.{replicate}
use Rattle.std.proofs.lemmas.List.{append_cancel_left}
use Rattle.page_space.specs.declared.superblock.Superblock.{Superblock}
use Rattle.page_space.specs.Layout.{magic, superblock_page, freed_page, HasMagic, IsGiven, IsSuperblock, IsSmall, IsNext, Keeps, Links}
use Rattle.page_space.specs.Layout.{with_fresh, without_head, with_head, with_series}
use Rattle.page_space.proofs.Words.{word_front}

-- what a test denied
pub denied : {P : Type 0} (test : Bool) → (IsTrue test ↔ P) → test ≡ false → P → ⊥
denied test tells is so =
    let told : test ≡ true = tells.1 so in
    cc

-- numbers that keep their rules fit in four bytes
pub rules_small : (count : ℕ) (s : Superblock) → count < 2 ^ 32 → IsSuperblock count s → IsSmall s
rules_small count s small rules = record {
  total = omega (arith, small, rules.total_high);
  fresh = omega (arith, small, rules.total_high, rules.fresh_high);
  head = by s.head rules.head_is;
  chain = omega (arith, small, rules.total_high, rules.fresh_high, rules.chain_high);
  series = omega (arith, rules.series_high);
}
  where
    by : (head : ℕ) → (head ≢ 0 → IsGiven s.fresh head) → head < 2 ^ 32
    by zero given = omega arith
    by (suc n) given = omega (arith, (given (λ none. omega (arith, none))).1, small, rules.total_high, rules.fresh_high)

abbrev of : ℕ → ℕ → ℕ → ℕ → ℕ → Superblock
of total fresh head chain series = record { total = total; fresh = fresh; head = head; chain = chain; series = series }

-- the numbers behind the magic
pub same_numbers : (a b : Superblock) → IsSmall a → IsSmall b → superblock_page a ≡ superblock_page b → a ≡ b
unfolding superblock_page
same_numbers a b sa sb same =
    let one = word_front a.total b.total _ _ sa.total sb.total (append_cancel_left magic _ _ same) in
    let two = word_front a.fresh b.fresh _ _ sa.fresh sb.fresh one.1 in
    let three = word_front a.head b.head _ _ sa.head sb.head two.1 in
    let four = word_front a.chain b.chain _ _ sa.chain sb.chain three.1 in
    let five = word_front a.series b.series _ _ sa.series sb.series four.1 in
    equal a b one.0 two.0 three.0 four.0 five.0
  where
    equal : (a b : Superblock) → a.total ≡ b.total → a.fresh ≡ b.fresh → a.head ≡ b.head → a.chain ≡ b.chain → a.series ≡ b.series → a ≡ b
    equal a b t f h c s =
        ap (λ n. of n a.fresh a.head a.chain a.series) t
        ∙ ap (λ n. of b.total n a.head a.chain a.series) f
        ∙ ap (λ n. of b.total b.fresh n a.chain a.series) h
        ∙ ap (λ n. of b.total b.fresh b.head n a.series) c
        ∙ ap (λ n. of b.total b.fresh b.head b.chain n) s

-- a page of the chain names one page
pub same_next : (a b : ℕ) → a < 2 ^ 32 → b < 2 ^ 32 → freed_page a ≡ freed_page b → a ≡ b
unfolding freed_page
same_next a b small small' same = (word_front a b (replicate 4088 0) (replicate 4088 0) small small' (ap (λ l. drop 4 l) same)).0

-- the rules stay
pub fresh_rules : (count : ℕ) (s : Superblock) → s.fresh < s.total → IsSuperblock count s → IsSuperblock count (with_fresh s)
fresh_rules count s room rules = record {
  total_low = rules.total_low;
  total_high = rules.total_high;
  fresh_low = omega (arith, rules.fresh_low);
  fresh_high = omega (arith, room);
  head_is = λ some. ((rules.head_is some).0, omega (arith, (rules.head_is some).1));
  chain_high = omega (arith, rules.chain_high);
  none = rules.none;
  series_high = rules.series_high;
}

pub next_rules : (count : ℕ) (s : Superblock) (next : ℕ) → s.chain ≢ 0 → IsNext s next → IsSuperblock count s
    → IsSuperblock count (without_head s next)
next_rules count s next some is rules =
    let more : 1 ≤ s.chain = positive s.chain some in
    record {
      total_low = rules.total_low;
      total_high = rules.total_high;
      fresh_low = rules.fresh_low;
      fresh_high = rules.fresh_high;
      head_is = is.given;
      chain_high = omega (arith, rules.chain_high, more);
      none = (λ none. is.last.0 (omega (arith, none, more)), λ none. omega (arith, is.last.1 none));
      series_high = rules.series_high;
    }
  where
    positive : (n : ℕ) → n ≢ 0 → 1 ≤ n
    positive zero some = absurd (some refl)
    positive (suc n) some = omega arith

pub head_rules : (count : ℕ) (s : Superblock) (p : ℕ) → 17 ≤ p → p < s.fresh → s.chain + 17 < s.fresh → IsSuperblock count s
    → IsSuperblock count (with_head s p)
head_rules count s p low high room rules = record {
  total_low = rules.total_low;
  total_high = rules.total_high;
  fresh_low = rules.fresh_low;
  fresh_high = rules.fresh_high;
  head_is = λ some. (low, high);
  chain_high = omega (arith, room);
  none = (λ none. absurd (omega (arith, none)), λ none. absurd (omega (arith, none, low)));
  series_high = rules.series_high;
}

pub series_rules : (count : ℕ) (s : Superblock) (n : ℕ) → n ≤ 512 → IsSuperblock count s → IsSuperblock count (with_series s n)
series_rules count s n few rules = record {
  total_low = rules.total_low;
  total_high = rules.total_high;
  fresh_low = rules.fresh_low;
  fresh_high = rules.fresh_high;
  head_is = rules.head_is;
  chain_high = rules.chain_high;
  none = rules.none;
  series_high = few;
}

-- the magic
pub has_magic : (page numbers : List ℕ) → page ≡ magic ++ numbers → HasMagic page
has_magic page numbers is = is ∙ ap (λ l. magic ++ drop 8 l) (sym is)

pub marked : (s : Superblock) → HasMagic (superblock_page s)
unfolding superblock_page
marked s = refl

-- page 0 keeps its layout for no other numbers
pub invalid_none : (count : ℕ) (page numbers : List ℕ) (s : Superblock) → count < 2 ^ 32 → IsSmall s → page ≡ magic ++ numbers
    → superblock_page s ≡ magic ++ numbers → (IsSuperblock count s → ⊥) → (t : Superblock) → Keeps count t page → ⊥
invalid_none count page numbers s few small marked read invalid t keeps =
    let same = same_numbers t s (rules_small count t few keeps.rules) small (sym keeps.spelled ∙ marked ∙ sym read) in
    let P : Superblock → Type 0 = λ u. IsSuperblock count u in
    invalid (subst P same keeps.rules)

-- and the head of the chain for no other page
pub unlinked_none : (s : Superblock) (next : ℕ) (page : List ℕ) → s.fresh < 2 ^ 32 → next < 2 ^ 32 → page ≡ freed_page next
    → (IsNext s next → ⊥) → (n : ℕ) → Links s n page → ⊥
unlinked_none s next page small fits is wrong n links =
    let same = same_next n next (by n links.rule.given) fits (sym links.spelled ∙ is) in
    let P : ℕ → Type 0 = λ m. IsNext s m in
    wrong (subst P same links.rule)
  where
    by : (m : ℕ) → (m ≢ 0 → IsGiven s.fresh m) → m < 2 ^ 32
    by zero given = omega arith
    by (suc m) given = omega (arith, (given (λ none. omega (arith, none))).1, small)
