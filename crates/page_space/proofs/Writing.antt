-- Pages written from front to back, and read so.
use Rattle.std.proofs.Common.{◌≡◌, ℕ, suc, ◌+◌, Bool, true, false, ◌↔◌, IsTrue, List, [], ◌∷◌, ◌++◌, length, take, drop, refl, sym, ap}
use Rattle.std.proofs.Common.{arith, zero-add, ◌∙◌}
use Rattle.std.specs.Prelude.{replicate}
use Rattle.std.proofs.lemmas.List.{append_assoc, append_cancel_left}
use Rattle.page_space.specs.declared.superblock.Superblock.{Superblock}
use Rattle.page_space.specs.Layout.{magic, word, superblock_page, freed_page}
use Rattle.page_space.proofs.Words.{word_behind}

pub take_front : (front rest : List ℕ) → take (length front) (front ++ rest) ≡ front
take_front [] rest = refl
take_front (b ∷ front) rest = ap (λ l. b ∷ l) (take_front front rest)

pub drop_front : (front rest : List ℕ) (n : ℕ) → drop (length front + n) (front ++ rest) ≡ drop n rest
drop_front [] rest n = ap (λ m. drop m rest) (zero-add n)
drop_front (b ∷ front) rest n =
    let step : suc (length front) + n ≡ suc (length front + n) = omega arith in
    ap (λ m. drop m (b ∷ (front ++ rest))) step ∙ drop_front front rest n

drop_zeros : (k : ℕ) → drop {A = ℕ} 4 (replicate (4 + k) 0) ≡ replicate k 0
drop_zeros k =
    let four : 4 + k ≡ suc (suc (suc (suc k))) = omega arith in
    ap (λ m. drop {A = ℕ} 4 (replicate m 0)) four

-- a number is put behind what was written
pub put_step : (front : List ℕ) (at k n : ℕ) (page page' : List ℕ) → length front ≡ at → page ≡ front ++ replicate (4 + k) 0
    → page' ≡ take at page ++ (word n ++ drop (at + 4) page) → page' ≡ (front ++ word n) ++ replicate k 0
put_step front at k n page page' len is put =
    let zeros : List ℕ = replicate (4 + k) 0 in
    let taken : take at (front ++ zeros) ≡ front = ap (λ m. take m (front ++ zeros)) (sym len) ∙ take_front front zeros in
    let dropped : drop (at + 4) (front ++ zeros) ≡ replicate k 0 = ap (λ m. drop (m + 4) (front ++ zeros)) (sym len)
    ∙ drop_front front zeros 4 ∙ drop_zeros k in
    put
    ∙ ap (λ l. take at l ++ (word n ++ drop (at + 4) l)) is
    ∙ ap (λ l. l ++ (word n ++ drop (at + 4) (front ++ zeros))) taken
    ∙ ap (λ l. front ++ (word n ++ l)) dropped
    ∙ sym (append_assoc front (word n) (replicate k 0))

-- a page 0 written so
pub written : (s : Superblock) (p1 p2 p3 p4 p5 p6 : List ℕ)
    → p1 ≡ magic ++ replicate 4088 0
    → p2 ≡ take 8 p1 ++ (word s.total ++ drop 12 p1)
    → p3 ≡ take 12 p2 ++ (word s.fresh ++ drop 16 p2)
    → p4 ≡ take 16 p3 ++ (word s.head ++ drop 20 p3)
    → p5 ≡ take 20 p4 ++ (word s.chain ++ drop 24 p4)
    → p6 ≡ take 24 p5 ++ (word s.series ++ drop 28 p5)
    → p6 ≡ superblock_page s
unfolding superblock_page word
written s p1 p2 p3 p4 p5 p6 one two three four five six =
    let f2 = magic ++ word s.total in
    let f3 = f2 ++ word s.fresh in
    let f4 = f3 ++ word s.head in
    let f5 = f4 ++ word s.chain in
    let is2 = put_step magic 8 4084 s.total p1 p2 refl one two in
    let is3 = put_step f2 12 4080 s.fresh p2 p3 refl is2 three in
    let is4 = put_step f3 16 4076 s.head p3 p4 refl is3 four in
    let is5 = put_step f4 20 4072 s.chain p4 p5 refl is4 five in
    put_step f5 24 4068 s.series p5 p6 refl is5 six

-- a page of the chain written so
pub written_freed : (next : ℕ) (p1 p2 : List ℕ) → p1 ≡ (1 ∷ 0 ∷ 0 ∷ 0 ∷ []) ++ replicate 4092 0 → p2 ≡ take 4 p1 ++ (word next ++ drop 8 p1)
    → p2 ≡ freed_page next
unfolding freed_page word
written_freed next p1 p2 one two = put_step (1 ∷ 0 ∷ 0 ∷ 0 ∷ []) 4 4088 next p1 p2 refl one two

-- the rest of a page, told to be zero or not
pub are_zeros : (all : Bool) (n : ℕ) (l : List ℕ) → (IsTrue all ↔ (l ≡ replicate (length l) 0)) → length l ≡ n → all ≡ true
    → l ≡ replicate n 0
are_zeros all n l tells len is = tells.0 is ∙ ap (λ m. replicate m 0) len

pub no_zeros : (all : Bool) (n : ℕ) (l : List ℕ) → (IsTrue all ↔ (l ≡ replicate (length l) 0)) → length l ≡ n → all ≡ false
    → l ≡ replicate n 0 → ⊥
no_zeros all n l tells len none is =
    let some : all ≡ true = tells.1 (is ∙ ap (λ m. replicate m 0) (sym len)) in
    cc

-- what stands behind the first number
pub behind : (a b : ℕ) (xs ys : List ℕ) → word a ++ xs ≡ word b ++ ys → xs ≡ ys
behind a b xs ys same = sym (word_behind a xs) ∙ ap (λ l. drop 4 l) same ∙ word_behind b ys

-- a page 0 read so
pub read_some : (s : Superblock) (numbers r1 r2 r3 r4 r5 : List ℕ)
    → numbers ≡ word s.total ++ r1 → r1 ≡ word s.fresh ++ r2 → r2 ≡ word s.head ++ r3 → r3 ≡ word s.chain ++ r4 → r4 ≡ word s.series ++ r5
    → r5 ≡ replicate 4068 0 → superblock_page s ≡ magic ++ numbers
unfolding superblock_page
read_some s numbers r1 r2 r3 r4 r5 one two three four five zeros =
    sym (ap (λ l. magic ++ l) one
    ∙ ap (λ l. magic ++ (word s.total ++ l)) two
    ∙ ap (λ l. magic ++ (word s.total ++ (word s.fresh ++ l))) three
    ∙ ap (λ l. magic ++ (word s.total ++ (word s.fresh ++ (word s.head ++ l)))) four
    ∙ ap (λ l. magic ++ (word s.total ++ (word s.fresh ++ (word s.head ++ (word s.chain ++ l))))) five
    ∙ ap (λ l. magic ++ (word s.total ++ (word s.fresh ++ (word s.head ++ (word s.chain ++ (word s.series ++ l)))))) zeros)

pub read_none : (a b c d e : ℕ) (numbers r1 r2 r3 r4 r5 : List ℕ)
    → numbers ≡ word a ++ r1 → r1 ≡ word b ++ r2 → r2 ≡ word c ++ r3 → r3 ≡ word d ++ r4 → r4 ≡ word e ++ r5
    → (r5 ≡ replicate 4068 0 → ⊥) → (s : Superblock) → superblock_page s ≡ magic ++ numbers → ⊥
unfolding superblock_page
read_none a b c d e numbers r1 r2 r3 r4 r5 one two three four five other s same =
    let at1 = behind s.total a _ _ (append_cancel_left magic _ _ same ∙ one) in
    let at2 = behind s.fresh b _ _ (at1 ∙ two) in
    let at3 = behind s.head c _ _ (at2 ∙ three) in
    let at4 = behind s.chain d _ _ (at3 ∙ four) in
    other (sym (behind s.series e _ _ (at4 ∙ five)))

-- a page of the chain read so
pub freed_some : (next : ℕ) (page rest zeros : List ℕ) → page ≡ (1 ∷ 0 ∷ 0 ∷ 0 ∷ []) ++ rest → rest ≡ word next ++ zeros
    → zeros ≡ replicate 4088 0 → page ≡ freed_page next
unfolding freed_page
freed_some next page rest zeros marked named is =
    marked ∙ ap (λ l. 1 ∷ 0 ∷ 0 ∷ 0 ∷ l) named ∙ ap (λ l. 1 ∷ 0 ∷ 0 ∷ 0 ∷ (word next ++ l)) is

pub freed_none : (next : ℕ) (page rest zeros : List ℕ) → page ≡ (1 ∷ 0 ∷ 0 ∷ 0 ∷ []) ++ rest → rest ≡ word next ++ zeros
    → (zeros ≡ replicate 4088 0 → ⊥) → (n : ℕ) → page ≡ freed_page n → ⊥
unfolding freed_page
freed_none next page rest zeros marked named other n is =
    other (behind next n zeros (replicate 4088 0) (sym named ∙ ap (λ l. drop 4 l) (sym marked ∙ is)))

pub unmarked_none : (page : List ℕ) → ((rest : List ℕ) → page ≡ (1 ∷ 0 ∷ 0 ∷ 0 ∷ []) ++ rest → ⊥) → (n : ℕ) → page ≡ freed_page n → ⊥
unfolding freed_page
unmarked_none page unmarked n is = unmarked (word n ++ replicate 4088 0) is
