-- Directories of the journal.
use Rattle.std.proofs.Common.{◌≡◌, ℕ, zero, suc, ◌+◌, ◌*◌, ◌<◌, ◌≤◌, ◌^◌, Bool, true, false, cond, eqb, leb, ◌&&◌, List, [], ◌∷◌, ◌++◌}
use Rattle.std.proofs.Common.{length, take, drop, get_or, Some, None, refl, sym, ap, arith, ◌∙◌, IsTrue, rules}
use Rattle.std.proofs.lemmas.List.{take_more}
use Rattle.std.proofs.lemmas.List.FromFn.{map-range_with_len_more}
use Rattle.std.proofs.lemmas.Nat.{from_be_bytes-to_be_bytes_4}
use Rattle.std.specs.Cmp.Lexicographic.{pointwise}
use Rattle.std.specs.List.{starts_with}
use Rattle.std.specs.Int.{w32, from_be_bytes, to_be_bytes}
use Rattle.block_disk.specs.View.{Image}
use Rattle.block_disk.specs.MemDisk.{replaced}
use Rattle.block_disk.proofs.Blocks.{replaced_there, replaced_before}
use Rattle.gate_pages.specs.Batch.{Entry, numbers, all_below, is_distinct}
use Rattle.gate_pages.specs.Journal.{magic, number_at, numbers_in, keeps_layout, directory, images}

-- a number that was put is read again
pub number_there : (block : List ℕ) (offset n : ℕ) → offset ≤ length block → n < 2 ^ 32
    → number_at (replaced block offset (to_be_bytes w32 n)) offset ≡ n
unfolding number_at
number_there block offset n within small =
    ap (λ l. from_be_bytes w32 l) (replaced_there block offset (to_be_bytes w32 n) within) ∙ from_be_bytes-to_be_bytes_4 n small

pub number_same : (block block' : List ℕ) (offset : ℕ) → take 4 (drop offset block') ≡ take 4 (drop offset block)
    → number_at block' offset ≡ number_at block offset
unfolding number_at
number_same block block' offset same = ap (λ l. from_be_bytes w32 l) same

-- numbers that each stay stay all
pub numbers_same : (count : ℕ) (block block' : List ℕ)
    → ((k : ℕ) → k < count → number_at block' (12 + 4 * k) ≡ number_at block (12 + 4 * k))
    → numbers_in block' count ≡ numbers_in block count
numbers_same zero block block' same = refl
numbers_same (suc count) block block' same =
    let more : count + 1 ≡ suc count = omega arith in
    let step : (b : List ℕ) → numbers_in b (suc count) ≡ numbers_in b count ++ number_at b (12 + 4 * count) ∷ [] =
    λ b. ap (λ n. numbers_in b n) (sym more) ∙ map-range_with_len_more (λ i. number_at b (12 + 4 * i)) 0 count count (omega arith) in
    step block'
    ∙ ap (λ l. l ++ number_at block' (12 + 4 * count) ∷ []) (numbers_same count block block' (λ k below. same k (omega (arith, below))))
    ∙ ap (λ n. numbers_in block count ++ n ∷ []) (same count (omega arith))
    ∙ sym (step block)

pub numbers_more : (block : List ℕ) (count : ℕ) → numbers_in block (count + 1) ≡ numbers_in block count ++ number_at block
    (12 + 4 * count) ∷ []
numbers_more block count = map-range_with_len_more (λ i. number_at block (12 + 4 * i)) 0 count count (omega arith)

-- one more number is put behind those that were put
pub numbers_step : (block : List ℕ) (count n : ℕ) (ns : List ℕ) → 12 + 4 * count + 4 ≤ length block → n < 2 ^ 32 → count < length ns
    → get_or ns count 0 ≡ n → numbers_in block count ≡ take count ns
    → numbers_in (replaced block (12 + 4 * count) (to_be_bytes w32 n)) (count + 1) ≡ take (count + 1) ns
numbers_step block count n ns within small below is so_far =
    let block' = replaced block (12 + 4 * count) (to_be_bytes w32 n) in
    numbers_more block' count
    ∙ ap (λ l. l ++ number_at block' (12 + 4 * count) ∷ [])
    (numbers_same count block block' (λ k before. number_same block block' (12 + 4 * k)
    (replaced_before block (12 + 4 * count) (to_be_bytes w32 n) (12 + 4 * k) 4 (omega (arith, within)) (omega (arith, before))))
    ∙ so_far)
    ∙ ap (λ m. take count ns ++ m ∷ []) (number_there block (12 + 4 * count) n (omega (arith, within)) small ∙ sym is)
    ∙ sym (take_more ns count 0 below)

le_true : (a b : ℕ) → a ≤ b → leb a b ≡ true
le_true a b within = search (rules, within)

-- a block with these parts is a directory
pub keeps : (count many : ℕ) (block ns : List ℕ) → take 8 block ≡ magic → number_at block 8 ≡ many → many ≤ 64 → numbers_in block many ≡ ns
    → IsTrue (all_below count ns) → IsTrue (is_distinct ns) → directory count block ≡ Some ns
unfolding keeps_layout
keeps count many block ns front is few found below distinct =
    let starts : starts_with eqb block magic ≡ true = ap (λ l. pointwise eqb magic l) front in
    let all : numbers_in block (number_at block 8) ≡ ns = ap (λ n. numbers_in block n) is ∙ found in
    let layout : keeps_layout count block ≡ true =
    ap (λ b. b && (leb (number_at block 8) 64 && (all_below count (numbers_in block (number_at block 8))
    && is_distinct (numbers_in block (number_at block 8))))) starts
    ∙ ap (λ b. b && (all_below count (numbers_in block (number_at block 8)) && is_distinct (numbers_in block (number_at block 8))))
    (ap (λ n. leb n 64) is ∙ le_true many 64 few)
    ∙ ap (λ l. all_below count l && is_distinct l) all
    ∙ ap (λ b. b && is_distinct ns) below ∙ distinct in
    ap (λ b. cond b (Some (numbers_in block (number_at block 8))) None) layout ∙ ap (λ l. Some l) all

-- a block that isn't one
pub no_mark : (count : ℕ) (block : List ℕ) → starts_with eqb block magic ≡ false → None ≡ directory count block
unfolding keeps_layout
no_mark count block unmarked =
    let rest = leb (number_at block 8) 64 && (all_below count (numbers_in block (number_at block 8))
    && is_distinct (numbers_in block (number_at block 8))) in
    sym (ap (λ b. cond (b && rest) (Some (numbers_in block (number_at block 8))) None) unmarked)

pub too_many : (count : ℕ) (block : List ℕ) → 64 < number_at block 8 → None ≡ directory count block
unfolding keeps_layout
too_many count block many =
    let starts = starts_with eqb block magic in
    let rest = all_below count (numbers_in block (number_at block 8)) && is_distinct (numbers_in block (number_at block 8)) in
    sym (ap (λ b. cond (starts && (b && rest)) (Some (numbers_in block (number_at block 8))) None) (gt_false (number_at block 8) 64 many)
    ∙ ap (λ b. cond b (Some (numbers_in block (number_at block 8))) None) (and_false starts))
  where
    gt_false : (a b : ℕ) → b < a → leb a b ≡ false
    gt_false a b above = search (rules, above)

    and_false : (b : Bool) → (b && false) ≡ false
    and_false true = refl
    and_false false = refl

pub some_above : (count : ℕ) (block ns : List ℕ) → numbers_in block (number_at block 8) ≡ ns → all_below count ns ≡ false
    → None ≡ directory count block
unfolding keeps_layout
some_above count block ns is above =
    let starts = starts_with eqb block magic in
    let few = leb (number_at block 8) 64 in
    sym (ap (λ l. cond (starts && (few && (all_below count l && is_distinct l))) (Some l) None) is
    ∙ ap (λ b. cond (starts && (few && (b && is_distinct ns))) (Some ns) None) above
    ∙ by starts few ns)
  where
    by : (a b : Bool) (l : List ℕ) → cond (a && (b && false)) (Some l) None ≡ None
    by true true l = refl
    by true false l = refl
    by false b l = refl

pub some_twice : (count : ℕ) (block ns : List ℕ) → numbers_in block (number_at block 8) ≡ ns → is_distinct ns ≡ false
    → None ≡ directory count block
unfolding keeps_layout
some_twice count block ns is twice =
    let starts = starts_with eqb block magic in
    let few = leb (number_at block 8) 64 in
    sym (ap (λ l. cond (starts && (few && (all_below count l && is_distinct l))) (Some l) None) is
    ∙ ap (λ b. cond (starts && (few && (all_below count ns && b))) (Some ns) None) twice
    ∙ by starts few (all_below count ns) ns)
  where
    by : (a b c : Bool) (l : List ℕ) → cond (a && (b && (c && false))) (Some l) None ≡ None
    by true true true l = refl
    by true true false l = refl
    by true false c l = refl
    by false b c l = refl

-- and one that is
pub keeps_all : (count : ℕ) (block ns : List ℕ) → numbers_in block (number_at block 8) ≡ ns → starts_with eqb block magic ≡ true
    → number_at block 8 ≤ 64 → all_below count ns ≡ true → is_distinct ns ≡ true → Some ns ≡ directory count block
unfolding keeps_layout
keeps_all count block ns is starts few below distinct =
    sym (ap (λ l. cond (starts_with eqb block magic && (leb (number_at block 8) 64 && (all_below count l && is_distinct l))) (Some l) None)
    is
    ∙ ap (λ b. cond (b && (leb (number_at block 8) 64 && (all_below count ns && is_distinct ns))) (Some ns) None) starts
    ∙ ap (λ b. cond (b && (all_below count ns && is_distinct ns)) (Some ns) None) (le_true (number_at block 8) 64 few)
    ∙ ap (λ b. cond (b && is_distinct ns) (Some ns) None) below
    ∙ ap (λ b. cond b (Some ns) None) distinct)

-- the images of a journal, one by one
pub images_from : (batch : List Entry) (block : ℕ) (image : Image)
    → ((k : ℕ) → k < length batch → image (block + k) ≡ (get_or batch k (0, [])).1) → images (numbers batch) block image ≡ batch
images_from [] block image each = refl
images_from (entry ∷ batch) block image each =
    let here : block + 0 ≡ block = omega arith in
    let first : image block ≡ entry.1 = ap image (sym here) ∙ each 0 (omega arith) in
    ap (λ (page : List ℕ). (entry.0, page) ∷ images (numbers batch) (block + 1) image) first
    ∙ ap (λ (l : List Entry). entry ∷ l) (images_from batch (block + 1) image (λ k below.
    let next : block + 1 + k ≡ block + suc k = omega arith in
    ap image next ∙ each (suc k) (omega (arith, below))))

pub image_at : (ns : List ℕ) (block : ℕ) (image : Image) (k : ℕ) → k < length ns
    → get_or (images ns block image) k (0, []) ≡ (get_or ns k 0, image (block + k))
image_at [] block image k below = absurd (omega (arith, below))
image_at (n ∷ ns) block image zero below = let here : block ≡ block + 0 = omega arith in ap (λ b. (n, image b)) here
image_at (n ∷ ns) block image (suc k) below =
    let next : block + 1 + k ≡ block + suc k = omega arith in
    image_at ns (block + 1) image k (omega (arith, below)) ∙ ap (λ b. (get_or ns k 0, image b)) next
