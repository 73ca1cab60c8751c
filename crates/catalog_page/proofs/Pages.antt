-- Records within pages, and pages of which a record is set.
use Rattle.std.proofs.Common.{◌≡◌, ◌≢◌, ℕ, ◌+◌, ◌-◌, ◌*◌, ◌/◌, ◌%◌, ◌<◌, ◌≤◌, ◌⊎◌, ◌++◌, List, zero, suc, length, take, drop, get_or, inl}
use Rattle.std.proofs.Common.{inr, refl, sym, ap, subst, ◌∙◌, arith, length-drop}
use Rattle.std.specs.Prelude.{replicate}
use Rattle.std.proofs.Math.Seq.{take-append_seam, drop-append_seam}
use Rattle.std.proofs.lemmas.Bool.{cases_lt, cases_order}
use Rattle.std.proofs.lemmas.List.{get_or-take, get_or-drop, get_or_past, get_or-replicate, length-replicate, length-take-le}
use Rattle.std.proofs.lemmas.Grind.{same_number_lists}
use Rattle.block_disk.specs.Blocks.{block_size, IsBlock}
use Rattle.node_page.specs.Fields.{with_bytes}
use Rattle.node_page.proofs.Bytes.{written_before, written_behind, written_length}
use Rattle.page_space.specs.Layout.{catalog_page}
use Rattle.catalog_page.specs.Fields.{record_bytes}
use Rattle.catalog_page.specs.Entries.{entry_at}
use Rattle.catalog_page.specs.Layout.{IsRecord, HasRecord, KeepsLayout}
use Rattle.catalog_page.specs.Spelling.{Spells}
use Rattle.node_page.specs.Numbers.{IsBytes}
use Rattle.catalog_page.proofs.Fit.{record_spells, one_spelling}

pub byte_in : (page : List ℕ) (i k : ℕ) → k < 96 → get_or (record_bytes page i) k 0 ≡ get_or page (8 + 96 * i + k) 0
unfolding record_bytes
byte_in page i k low = get_or-take 96 (drop (8 + 96 * i) page) k 0 low ∙ get_or-drop (8 + 96 * i) page k 0

pub length_in : (page : List ℕ) (i : ℕ) → IsBlock page → i < 32 → length (record_bytes page i) ≡ 96
unfolding record_bytes
length_in page i whole low = length-take-le 96 (drop (8 + 96 * i) page) (omega (arith, length-drop (8 + 96 * i) page, whole, low))

bytes_in : (page : List ℕ) (i : ℕ) → IsBlock page → i < 32 → IsBytes page → IsBytes (record_bytes page i)
bytes_in page i whole low fits k = elim (cases_lt k 96) [
  | inl less ↦ subst (λ (n : ℕ). n < 256) (sym (byte_in page i k less)) (fits (8 + 96 * i + k))
  | inr past ↦
      subst (λ (n : ℕ). n < 256) (sym (get_or_past (record_bytes page i) k 0 (omega (arith, length_in page i whole low, past))))
      (omega arith)
]

-- a record depends on its bytes alone
record_same : (i : ℕ) (old new : List ℕ) → IsBlock old → IsBlock new → i < 32
    → ((k : ℕ) → 8 + 96 * i ≤ k → k < 104 + 96 * i → get_or new k 0 ≡ get_or old k 0) → record_bytes new i ≡ record_bytes old i
record_same i old new whole whole' low same =
    let size : length (record_bytes new i) ≡ 96 = length_in new i whole' low in
    same_number_lists (record_bytes new i) (record_bytes old i) (size ∙ sym (length_in old i whole low)) (λ k less.
    let within : k < 96 = omega (arith, less, size) in
    byte_in new i k within ∙ same (8 + 96 * i + k) (omega arith) (omega (arith, within)) ∙ sym (byte_in old i k within))

-- a record is set
pub record IsSet (number : ℕ) (part old new : List ℕ) : Type 0 where
  pub small : number < 32
  pub whole : IsBlock old
  pub size : length part ≡ 96
  pub set : new ≡ with_bytes old (8 + 96 * number) part

pub set_whole : (number : ℕ) (part old new : List ℕ) → IsSet number part old new → IsBlock new
set_whole number part old new is =
    ap length is.set ∙ written_length (8 + 96 * number) old part (omega (arith, is.small, is.size, is.whole)) ∙ is.whole

pub set_rest : (number : ℕ) (part old new : List ℕ) → IsSet number part old new → (k : ℕ) → (k < 8 + 96 * number) ⊎ (104 + 96 * number ≤ k)
    → get_or new k 0 ≡ get_or old k 0
set_rest number part old new is k (inl less) =
    ap (λ (l : List ℕ). get_or l k 0) is.set ∙ written_before (8 + 96 * number) k old part (omega (arith, is.small, is.whole)) less
set_rest number part old new is k (inr more) =
    ap (λ (l : List ℕ). get_or l k 0) is.set ∙ written_behind (8 + 96 * number) k old part (omega (arith, is.small, is.whole))
    (omega (arith, more, is.size))

set_back : (at : ℕ) (old part : List ℕ) → at ≤ length old → length part ≡ 96 → take 96 (drop at (with_bytes old at part)) ≡ part
unfolding with_bytes
set_back at old part within size =
    let tail = drop (at + length part) old in
    let front : length (take at old) ≡ at = length-take-le at old within in
    let dropped : drop at (take at old ++ (part ++ tail)) ≡ part ++ tail =
    ap (λ (i : ℕ). drop i (take at old ++ (part ++ tail))) (sym front) ∙ drop-append_seam (take at old) (part ++ tail) in
    ap (λ (l : List ℕ). take 96 l) dropped ∙ ap (λ (i : ℕ). take i (part ++ tail)) (sym size) ∙ take-append_seam part tail

pub set_itself : (number : ℕ) (part old new : List ℕ) → IsSet number part old new → record_bytes new number ≡ part
unfolding record_bytes
set_itself number part old new is =
    ap (λ (l : List ℕ). take 96 (drop (8 + 96 * number) l)) is.set
    ∙ set_back (8 + 96 * number) old part (omega (arith, is.small, is.whole)) is.size

pub set_others : (number : ℕ) (part old new : List ℕ) → IsSet number part old new → (i : ℕ) → i < 32 → i ≢ number
    → record_bytes new i ≡ record_bytes old i
set_others number part old new is i low other =
    record_same i old new is.whole (set_whole number part old new is) low (λ k from to.
    set_rest number part old new is k (elim (cases_order i number) [
      | inl same ↦ absurd (other same)
      | inr differ ↦ elim differ [ inl less ↦ inl (omega (arith, less, to)) | inr more ↦ inr (omega (arith, more, from)) ]
    ]))

pub below_next : (i n : ℕ) → i < n + 1 → i ≢ n → i < n
below_next i n low other = elim (cases_order i n) [
  | inl same ↦ absurd (other same)
  | inr differ ↦ elim differ [ inl less ↦ less | inr more ↦ absurd (omega (arith, low, more)) ]
]

-- with a record that keeps the rules the page keeps its layout, and has one more series where the record was of none
pub set_keeps : (number count count' fresh : ℕ) (part old new : List ℕ) → IsSet number part old new → IsRecord fresh part → number < count'
    → count' ≤ 32 → count ≤ count'
    → ((i : ℕ) → i < count' → i ≢ number → i < count) → KeepsLayout count fresh old → KeepsLayout count' fresh new
set_keeps number count count' fresh part old new is rules within few more behind keeps =
    record {
      kind = set_rest number part old new is 0 (inl (omega arith)) ∙ keeps.kind;
      reserved = (
        λ k low high. set_rest number part old new is k (inl (omega (arith, high))) ∙ keeps.reserved.0 k low high,
        λ k low high. set_rest number part old new is k (inr (omega (arith, low, is.small))) ∙ keeps.reserved.1 k low high,
      );
      used = λ i low. elim (cases_order i number) [
        | inl same ↦ subst (λ (n : ℕ). HasRecord fresh new n) (sym same)
            (subst (λ (l : List ℕ). IsRecord fresh l) (sym (set_itself number part old new is)) rules)
        | inr differ ↦
            let other : i ≢ number = λ same. elim differ [ inl less ↦ omega (arith, less, same) | inr high ↦ omega (arith, high, same) ] in
            subst (λ (l : List ℕ). IsRecord fresh l) (sym (set_others number part old new is i (omega (arith, low, few)) other))
            (keeps.used i (behind i low other))
      ];
      unused = λ i high low k from to.
          let same : record_bytes new i ≡ record_bytes old i = set_others number part old new is i low
          (λ e. omega (arith, e, high, within)) in
          ap (λ (l : List ℕ). get_or l k 0) same ∙ keeps.unused i (omega (arith, high, more)) low k from to;
    }

-- Pages that say the same.

used_byte : (one other : List ℕ) (i fresh fresh' : ℕ) → IsBlock one → IsBlock other → IsBytes one → IsBytes other → i < 32
    → HasRecord fresh one i → HasRecord fresh' other i → entry_at one i ≡ entry_at other i → record_bytes one i ≡ record_bytes other i
used_byte one other i fresh fresh' whole whole' fits fits' low r r' same =
    let a = record_bytes one i in
    let b = record_bytes other i in
    let s : Spells (entry_at one i) a = record_spells fresh a (length_in one i whole low) r in
    let s' : Spells (entry_at other i) b = record_spells fresh' b (length_in other i whole' low) r' in
    one_spelling (entry_at one i) a b (bytes_in one i whole low fits) (bytes_in other i whole' low fits') s
    (subst (λ e. Spells e b) (sym same) s')

pub record Alike (one other : List ℕ) (count fresh fresh' : ℕ) : Type 0 where
  pub whole : IsBlock one
  pub whole' : IsBlock other
  pub fits : IsBytes one
  pub fits' : IsBytes other
  pub keeps : KeepsLayout count fresh one
  pub keeps' : KeepsLayout count fresh' other
  pub same : (i : ℕ) → i < count → entry_at one i ≡ entry_at other i

record_byte : (one other : List ℕ) (count fresh fresh' : ℕ) → Alike one other count fresh fresh' → (i j : ℕ) → i < 32 → j < 96
    → get_or (record_bytes one i) j 0 ≡ get_or (record_bytes other i) j 0
record_byte one other count fresh fresh' alike i j low within = elim (cases_lt i count) [
  | inl used ↦
      ap (λ (l : List ℕ). get_or l j 0) (used_byte one other i fresh fresh' alike.whole alike.whole' alike.fits alike.fits' low
      (alike.keeps.used i used) (alike.keeps'.used i used) (alike.same i used))
  | inr unused ↦ alike.keeps.unused i unused low j (omega arith) within ∙ sym (alike.keeps'.unused i unused low j (omega arith) within)
]

within_byte : (one other : List ℕ) (count fresh fresh' : ℕ) → Alike one other count fresh fresh' → (k : ℕ) → 8 ≤ k → k < 3080
    → get_or one k 0 ≡ get_or other k 0
within_byte one other count fresh fresh' alike k low high =
    let i = (k - 8) / 96 in
    let j = (k - 8) % 96 in
    let within : j < 96 = omega arith in
    let place : 8 + 96 * i + j ≡ k = omega (arith, low) in
    ap (λ (n : ℕ). get_or one n 0) (sym place) ∙ sym (byte_in one i j within)
    ∙ record_byte one other count fresh fresh' alike i j (omega (arith, low, high)) within
    ∙ byte_in other i j within ∙ ap (λ (n : ℕ). get_or other n 0) place

front_byte : (one other : List ℕ) (count fresh fresh' : ℕ) → Alike one other count fresh fresh' → (k : ℕ) → k < 8
    → get_or one k 0 ≡ get_or other k 0
front_byte one other count fresh fresh' alike zero low = alike.keeps.kind ∙ sym alike.keeps'.kind
front_byte one other count fresh fresh' alike (suc k) low =
    alike.keeps.reserved.0 (suc k) (omega arith) low ∙ sym (alike.keeps'.reserved.0 (suc k) (omega arith) low)

pub alike_same : (one other : List ℕ) (count fresh fresh' : ℕ) → Alike one other count fresh fresh' → one ≡ other
alike_same one other count fresh fresh' alike =
    same_number_lists one other (alike.whole ∙ sym alike.whole') (λ k low. elim (cases_lt k 8) [
      | inl front ↦ front_byte one other count fresh fresh' alike k front
      | inr from ↦ elim (cases_lt k 3080) [
        | inl to ↦ within_byte one other count fresh fresh' alike k from to
        | inr past ↦
            let below : k < block_size = omega (arith, low, alike.whole) in
            alike.keeps.reserved.1 k past below ∙ sym (alike.keeps'.reserved.1 k past below)
      ]
    ])

-- A page without a series.

blank_byte : (k : ℕ) → 1 ≤ k → k < block_size → get_or catalog_page k 0 ≡ 0
unfolding catalog_page
blank_byte zero low high = absurd (omega (arith, low))
blank_byte (suc k) low high = get_or-replicate 4095 k 0 0 (omega (arith, high))

blank_kind : get_or catalog_page 0 0 ≡ 4
unfolding catalog_page
blank_kind = refl

blank_whole : IsBlock catalog_page
unfolding catalog_page
blank_whole = let rest : length {A = ℕ} (replicate 4095 0) ≡ 4095 = length-replicate {A = ℕ} 4095 0 in omega (arith, rest)

pub blank_keeps : (fresh : ℕ) → KeepsLayout 0 fresh catalog_page
blank_keeps fresh = record {
  kind = blank_kind;
  reserved = (λ k low high. blank_byte k low (omega (arith, high)), λ k low high. blank_byte k (omega (arith, low)) high);
  used = λ i low. absurd (omega (arith, low));
  unused = λ i high low k from to. byte_in catalog_page i k to ∙ blank_byte (8 + 96 * i + k) (omega arith) (omega (arith, low, to));
}

no_series_byte : (page : List ℕ) (fresh : ℕ) → KeepsLayout 0 fresh page → (k : ℕ) → 1 ≤ k → k < block_size → get_or page k 0 ≡ 0
no_series_byte page fresh keeps k low high = elim (cases_lt k 8) [
  | inl front ↦ keeps.reserved.0 k low front
  | inr from ↦ elim (cases_lt k 3080) [
    | inl to ↦
        let i = (k - 8) / 96 in
        let j = (k - 8) % 96 in
        let within : j < 96 = omega arith in
        let place : 8 + 96 * i + j ≡ k = omega (arith, from) in
        ap (λ (n : ℕ). get_or page n 0) (sym place) ∙ sym (byte_in page i j within)
        ∙ keeps.unused i (omega arith) (omega (arith, from, to)) j (omega arith) within
    | inr past ↦ keeps.reserved.1 k past high
  ]
]

pub no_series : (page : List ℕ) (fresh : ℕ) → IsBlock page → KeepsLayout 0 fresh page → page ≡ catalog_page
no_series page fresh whole keeps =
    same_number_lists page catalog_page (whole ∙ sym blank_whole) (λ k low. byte k (omega (arith, low, whole)))
  where
    byte : (k : ℕ) → k < block_size → get_or page k 0 ≡ get_or catalog_page k 0
    byte zero high = keeps.kind ∙ sym blank_kind
    byte (suc k) high = no_series_byte page fresh keeps (suc k) (omega arith) high ∙ sym (blank_byte (suc k) (omega arith) high)
