-- Page 0 decides the numbers with which pages stand.
use Rattle.std.proofs.Common.{◌≡◌, ◌≢◌, ℕ, zero, suc, ◌<◌, ◌^◌, List, ◌++◌, take, drop, refl, sym, ap, subst, ◌∙◌, arith}
use Rattle.std.proofs.lemmas.List.{append_cancel_left}
use Rattle.std.proofs.lemmas.Nat.{from_be_bytes-to_be_bytes_4}
use Rattle.std.specs.Int.{w32, from_be_bytes}
use Rattle.block_disk.specs.View.{Image}
use Rattle.page_space.specs.declared.superblock.Superblock.{Superblock}
use Rattle.page_space.specs.Layout.{magic, word, superblock_page, IsGiven, IsSuperblock, IsSmall}
use Rattle.series_book.specs.declared.one_series.Series.{Series}
use Rattle.stored_book.specs.Standing.{IsStore, StandsForBook}

word_back : (n : ℕ) → n < 2 ^ 32 → from_be_bytes w32 (word n) ≡ n
unfolding word
word_back n small = from_be_bytes-to_be_bytes_4 n small

word_first : (n : ℕ) (rest : List ℕ) → take 4 (word n ++ rest) ≡ word n
unfolding word
word_first n rest = refl

word_behind : (n : ℕ) (rest : List ℕ) → drop 4 (word n ++ rest) ≡ rest
unfolding word
word_behind n rest = refl

-- bytes that begin with a number begin with no other
word_front : (a b : ℕ) (xs ys : List ℕ) → a < 2 ^ 32 → b < 2 ^ 32 → word a ++ xs ≡ word b ++ ys → (a ≡ b) × (xs ≡ ys)
word_front a b xs ys small small' same =
    let read : (n : ℕ) (rest : List ℕ) → n < 2 ^ 32 → from_be_bytes w32 (take 4 (word n ++ rest)) ≡ n =
    λ n rest fits. ap (λ l. from_be_bytes w32 l) (word_first n rest) ∙ word_back n fits in (
      sym (read a xs small) ∙ ap (λ l. from_be_bytes w32 (take 4 l)) same ∙ read b ys small',
      sym (word_behind a xs) ∙ ap (λ l. drop 4 l) same ∙ word_behind b ys,
    )

abbrev of : ℕ → ℕ → ℕ → ℕ → ℕ → Superblock
of total fresh head chain series = record { total = total; fresh = fresh; head = head; chain = chain; series = series }

equal : (a b : Superblock) → a.total ≡ b.total → a.fresh ≡ b.fresh → a.head ≡ b.head → a.chain ≡ b.chain → a.series ≡ b.series → a ≡ b
equal a b t f h c s =
    ap (λ n. of n a.fresh a.head a.chain a.series) t
    ∙ ap (λ n. of b.total n a.head a.chain a.series) f
    ∙ ap (λ n. of b.total b.fresh n a.chain a.series) h
    ∙ ap (λ n. of b.total b.fresh b.head n a.series) c
    ∙ ap (λ n. of b.total b.fresh b.head b.chain n) s

-- page 0 spells one superblock
pub one_page : (a b : Superblock) → IsSmall a → IsSmall b → superblock_page a ≡ superblock_page b → a ≡ b
unfolding superblock_page
one_page a b sa sb same =
    let one = word_front a.total b.total _ _ sa.total sb.total (append_cancel_left magic _ _ same) in
    let two = word_front a.fresh b.fresh _ _ sa.fresh sb.fresh one.1 in
    let three = word_front a.head b.head _ _ sa.head sb.head two.1 in
    let four = word_front a.chain b.chain _ _ sa.chain sb.chain three.1 in
    let five = word_front a.series b.series _ _ sa.series sb.series four.1 in
    equal a b one.0 two.0 three.0 four.0 five.0

-- numbers that keep their rules fit in four bytes
small_head : (fresh head : ℕ) → fresh < 2 ^ 32 → (head ≢ 0 → IsGiven fresh head) → head < 2 ^ 32
small_head fresh zero fits given = omega arith
small_head fresh (suc n) fits given = omega (arith, (given (λ none. omega (arith, none))).1, fits)

pub small_numbers : (count : ℕ) (s : Superblock) → count < 2 ^ 32 → IsSuperblock count s → IsSmall s
small_numbers count s small rules = record {
  total = omega (arith, small, rules.total_high);
  fresh = omega (arith, small, rules.total_high, rules.fresh_high);
  head = small_head s.fresh s.head (omega (arith, small, rules.total_high, rules.fresh_high)) rules.head_is;
  chain = omega (arith, small, rules.total_high, rules.fresh_high, rules.chain_high);
  series = omega (arith, rules.series_high);
}

pub numbers : (image : Image) (total : ℕ) (book : List Series) (s : Superblock) → StandsForBook image total book
    → image 0 ≡ superblock_page s → IsSmall s → IsStore image s book × (s.total ≡ total)
numbers image total book s stands spelled small =
    let t : Superblock = stands.superblock in
    let store : IsStore image t book = stands.store in
    let same : t ≡ s = one_page t s (small_numbers t.total t store.small store.stands.rules) small (sym store.stands.spelled ∙ spelled) in
    let P : Superblock → Type 0 = λ u. IsStore image u book in
    (subst P same store, sym (ap (λ (u : Superblock). u.total) same) ∙ stands.total_is)

-- two stores of the same pages have the same numbers
pub one_superblock : (image : Image) (s t : Superblock) (book book' : List Series) → IsStore image s book → IsStore image t book' → t ≡ s
one_superblock image s t book book' store store' =
    one_page t s (small_numbers t.total t store'.small store'.stands.rules) (small_numbers s.total s store.small store.stands.rules)
    (sym store'.stands.spelled ∙ store.stands.spelled)
