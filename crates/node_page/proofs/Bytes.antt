-- Numbers at an offset of a page, and bytes written there.
use Rattle.std.proofs.Common.{◌≡◌, ℕ, zero, suc, ◌+◌, ◌-◌, ◌*◌, ◌^◌, ◌<◌, ◌≤◌, List, ◌++◌, length, get_or, take, drop, refl, sym, ap, ◌∙◌}
use Rattle.std.proofs.Common.{arith, length-append, length-drop}
use Rattle.std.proofs.Math.Seq.{drop-append_seam}
use Rattle.std.proofs.Math.ListN.{get_or-append}
use Rattle.std.proofs.lemmas.List.{get_or-drop, get_or-take, get_or-append_right, length-take-le}
use Rattle.byteorder.specs.Endian.{big_from}
use Rattle.byteorder.specs.Numbers.{big_from-take, big_number-reads_back}
use Rattle.std.specs.Int.{bytes_high_first}
use Rattle.node_page.specs.Fields.{number_at, with_bytes}

big_same : (n i : ℕ) (xs ys : List ℕ) → ((k : ℕ) → i ≤ k → k < i + n → get_or xs k 0 ≡ get_or ys k 0) → big_from i n xs ≡ big_from i n ys
big_same zero i xs ys same = refl
big_same (suc n) i xs ys same =
    let byte : get_or xs i 0 ≡ get_or ys i 0 = same i (omega arith) (omega arith) in
    let rest : big_from (suc i) n xs ≡ big_from (suc i) n ys = big_same n (suc i) xs ys
    (λ k low high. same k (omega (arith, low)) (omega (arith, high))) in
    ap (λ (b : ℕ). b * 256 ^ n + big_from (suc i) n xs) byte ∙ ap (λ (r : ℕ). get_or ys i 0 * 256 ^ n + r) rest

big_drop : (n i at : ℕ) (xs : List ℕ) → big_from i n (drop at xs) ≡ big_from (at + i) n xs
big_drop zero i at xs = refl
big_drop (suc n) i at xs =
    let byte : get_or (drop at xs) i 0 ≡ get_or xs (at + i) 0 = get_or-drop at xs i 0 in
    let step : at + suc i ≡ suc (at + i) = omega arith in
    let rest : big_from (suc i) n (drop at xs) ≡ big_from (suc (at + i)) n xs = big_drop n (suc i) at xs
    ∙ ap (λ (j : ℕ). big_from j n xs) step in
    ap (λ (b : ℕ). b * 256 ^ n + big_from (suc i) n (drop at xs)) byte ∙ ap (λ (r : ℕ). get_or xs (at + i) 0 * 256 ^ n + r) rest

-- a number is read at an offset
number_from : (size at : ℕ) (page : List ℕ) → big_from 0 size (drop at page) ≡ number_at page size at
unfolding number_at
number_from size at page = let same : at + 0 ≡ at = omega arith in big_drop size 0 at page ∙ ap (λ (j : ℕ). big_from j size page) same

pub number_read : (size at : ℕ) (page : List ℕ) → at + size ≤ length page
    → big_from 0 size (take (length page - at) (drop at page)) ≡ number_at page size at
number_read size at page within = big_from-take 0 size (length page - at) (drop at page) (omega (arith, within)) ∙ number_from size at page

-- it depends on its own bytes alone
pub number_same : (size at : ℕ) (old new : List ℕ) → ((k : ℕ) → at ≤ k → k < at + size → get_or new k 0 ≡ get_or old k 0)
    → number_at new size at ≡ number_at old size at
unfolding number_at
number_same size at old new same = big_same size at new old same

drop_front : (at : ℕ) (old rest : List ℕ) → at ≤ length old → drop at (take at old ++ rest) ≡ rest
drop_front at old rest within =
    let size : length (take at old) ≡ at = length-take-le at old within in
    ap (λ (n : ℕ). drop n (take at old ++ rest)) (sym size) ∙ drop-append_seam (take at old) rest

-- the number that was written is read again
pub number_written : (size at x : ℕ) (old : List ℕ) → at ≤ length old → x < 256 ^ size
    → number_at (with_bytes old at (bytes_high_first size x)) size at ≡ x
unfolding with_bytes
number_written size at x old within fits =
    let bytes = bytes_high_first size x in
    let tail = drop (at + length bytes) old in
    sym (number_from size at (take at old ++ (bytes ++ tail)))
    ∙ ap (λ (l : List ℕ). big_from 0 size l) (drop_front at old (bytes ++ tail) within)
    ∙ big_number-reads_back size x tail fits

-- bytes before the offset stay
pub written_before : (at k : ℕ) (old bytes : List ℕ) → at ≤ length old → k < at → get_or (with_bytes old at bytes) k 0 ≡ get_or old k 0
unfolding with_bytes
written_before at k old bytes within before =
    let rest = bytes ++ drop (at + length bytes) old in
    get_or-append (take at old) rest 0 k (omega (arith, length-take-le at old within)) ∙ get_or-take at old k 0 before

-- so do those behind the bytes written
pub written_behind : (at k : ℕ) (old bytes : List ℕ) → at ≤ length old → at + length bytes ≤ k
    → get_or (with_bytes old at bytes) k 0 ≡ get_or old k 0
unfolding with_bytes
written_behind at k old bytes within behind =
    let n = length bytes in
    let tail = drop (at + n) old in
    let size : length (take at old) ≡ at = length-take-le at old within in
    let j = k - at - n in
    let first : get_or (take at old ++ (bytes ++ tail)) k 0 ≡ get_or (bytes ++ tail) (k - at) 0 =
    get_or-append_right (take at old) (bytes ++ tail) at k 0 size (omega arith) in
    let second : get_or (bytes ++ tail) (k - at) 0 ≡ get_or tail j 0 = get_or-append_right bytes tail n (k - at) 0 refl (omega arith) in
    let third : get_or tail j 0 ≡ get_or old (at + n + j) 0 = get_or-drop (at + n) old j 0 in
    let same : at + n + j ≡ k = omega arith in
    first ∙ second ∙ third ∙ ap (λ (m : ℕ). get_or old m 0) same

-- there are as many bytes as before
pub written_length : (at : ℕ) (old bytes : List ℕ) → at + length bytes ≤ length old → length (with_bytes old at bytes) ≡ length old
unfolding with_bytes
written_length at old bytes within =
    let n = length bytes in
    length-append (take at old) (bytes ++ drop (at + n) old)
    ∙ omega (
      arith,
      length-take-le at old (omega (arith, within)),
      length-append bytes (drop (at + n) old),
      length-drop (at + n) old,
      within,
    )
