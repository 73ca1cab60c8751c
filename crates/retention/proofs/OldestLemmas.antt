-- The first stored slot of least time.
use Rattle.std.proofs.Common.{◌≡◌, ℕ, ℤ, zero, suc, ◌<◌, ◌≤◌, ◌⊎◌, Bool, true, false, cond, ltb, List, [], ◌∷◌, length, get_or, Option}
use Rattle.std.proofs.Common.{None, Some, refl, sym, ap, subst, ◌∙◌, arith, inl, inr}
use Rattle.std.specs.Prelude.{pos, ◌*◌, int_lt, ◌<ℤ◌, ◌≤ℤ◌, ◌+ℤ◌}
use Rattle.std.proofs.Math.Nat.{mul-le-mul_right}
use Rattle.std.specs.Option.{is_some}
use Rattle.std.specs.List.{slice_get, position, position_or_len}
use Rattle.std.proofs.lemmas.Bool.{cases_lt}
use Rattle.std.proofs.lemmas.Bool.Decides.{nat_tests}
use Rattle.std.proofs.lemmas.Int.{ints}
use Rattle.std.proofs.lemmas.List.Sums.{position_or_len_is}
use Rattle.std.proofs.lemmas.Option.{slice_get_within, slice_get-get_or, get_or_from_slice_get, same_Some}
use Rattle.om3_coeff.specs.Spans.{Holds, IsClear}
use Rattle.om3_coeff.specs.Walks.{IsFirstStored}
use Rattle.series_book.specs.declared.one_series.Series.{Series}
use Rattle.retention.specs.Sweeps.{Found, found_at, found_in, found_time, older, oldest, oldest_among, slot_time}
use Rattle.retention.specs.Drops.{IsOldest, HoldsNothing}
use Rattle.retention.proofs.SlotLemmas.{first_stored}

abbrev pub slot_of : Option (ℕ × ℤ) → Option ℕ
slot_of None = None
slot_of (Some p) = Some p.0

place_in : (n m k : ℕ) → n ≡ k → k < m → cond (ltb n m) (Some n) None ≡ Some k
place_in n m k is within = let test : ltb n m ≡ true = grind (arith, nat_tests) in rw test (ap (λ j. Some j) is)

place_past : (n m : ℕ) → n ≡ m → cond (ltb n m) (Some n) None ≡ None
place_past n m is = let test : ltb n m ≡ false = grind (arith, nat_tests) in rw test refl

empty_at : (slots : List (Option ℤ)) (b k : ℕ) → IsClear slots 0 b → k < b → k < length slots → is_some (get_or slots k None) ≡ false
empty_at slots b k clear before within = by (get_or slots k None) refl
  where
    by : (x : Option ℤ) → get_or slots k None ≡ x → is_some x ≡ false
    by None is = refl
    by (Some v) is = absurd (clear k v (omega arith) before (slice_get-get_or slots k None within ∙ ap (λ y. Some y) is))

-- the first stored slot is the first place that passes
pub first_place : (slots : List (Option ℤ)) (o : Option (ℕ × ℤ)) → IsFirstStored slots 0 (length slots) o
    → position is_some slots ≡ slot_of o
first_place slots None clear =
    place_past (position_or_len is_some slots) (length slots)
    (position_or_len_is is_some slots (length slots) None (omega arith) (λ k before. empty_at slots (length slots) k clear before before)
    (λ past. absurd (omega (arith, past))))
first_place slots (Some p) found =
    let held : is_some (get_or slots p.0 None) ≡ true = ap (λ (x : Option ℤ). is_some x)
    (get_or_from_slice_get slots p.0 (Some p.1) None found.2) in
    place_in (position_or_len is_some slots) (length slots) p.0
    (position_or_len_is is_some slots p.0 None (omega (arith, found.1))
    (λ k before. empty_at slots p.0 k found.3 before (omega (arith, before, found.1))) (λ within. held)) found.1

pub found_is : (id : ℕ) (there : Option Series) (series : Series) (o : Option (ℕ × ℤ)) → there ≡ Some series
    → IsFirstStored series.slots 0 (length series.slots) o → found_at id there ≡ found_in id series (slot_of o)
found_is id there series o is first = ap (λ (x : Option Series). found_at id x) is
    ∙ ap (λ (x : Option ℕ). found_in id series x) (first_place series.slots o first)

-- what is so of the oldest slot among some first series
pub record IsOldestAmong (book : List Series) (n : ℕ) (found : Found) : Type 0 where
  pub low : found.id < n
  pub there : slice_get book found.id ≡ Some found.series
  pub value : ℤ
  pub holds : Holds found.series.slots found.slot value
  pub least : (id slot : ℕ) (series : Series) (value : ℤ) → id < n → slice_get book id ≡ Some series → Holds series.slots slot value
      → found_time found ≤ℤ slot_time series slot
  pub first : (id slot : ℕ) (series : Series) (value : ℤ) → id < found.id → slice_get book id ≡ Some series → Holds series.slots slot value
      → found_time found <ℤ slot_time series slot

abbrev pub AreOldestAmong : List Series → ℕ → Option Found → Type 0
AreOldestAmong book n None = (id slot : ℕ) (series : Series) (value : ℤ) → id < n → slice_get book id ≡ Some series
    → Holds series.slots slot value → ⊥
AreOldestAmong book n (Some found) = IsOldestAmong book n found

-- one more series
later_time : (start : ℤ) (a b : ℕ) → a ≤ b → (start +ℤ pos a) ≤ℤ (start +ℤ pos b)
later_time start a b after = grind (arith, ints)

pub later_slots : (series : Series) (s slot : ℕ) → s ≤ slot → slot_time series s ≤ℤ slot_time series slot
later_slots series s slot after = later_time series.start (s * series.step) (slot * series.step) (mul-le-mul_right series.step after)

is_less : (a b : ℤ) → int_lt a b ≡ true → a <ℤ b
is_less a b test = grind (arith, ints)

is_no_less : (a b : ℤ) → int_lt a b ≡ false → b ≤ℤ a
is_no_less a b test = grind (arith, ints)

less_on : (a b c : ℤ) → a <ℤ b → b ≤ℤ c → a <ℤ c
less_on a b c low up = omega (arith, ints, low, up)

up_to : (a b c : ℤ) → a <ℤ b → b ≤ℤ c → a ≤ℤ c
up_to a b c low up = omega (arith, ints, low, up)

le_on : (a b c : ℤ) → a ≤ℤ b → b ≤ℤ c → a ≤ℤ c
le_on a b c low up = omega (arith, ints, low, up)

before_or : (id n : ℕ) → id < suc n → (id < n) ⊎ (id ≡ n)
before_or id n low = elim (cases_lt id n) [ inl before ↦ inl before | inr past ↦ inr (omega (arith, low, past)) ]

same_series : (book : List Series) (id n : ℕ) (one other : Series) → id ≡ n → slice_get book id ≡ Some one → slice_get book n ≡ Some other
    → one ≡ other
same_series book id n one other at here there = same_Some one other (sym here ∙ ap (slice_get book) at ∙ there)

-- no slot of the next series is stored
no_more : (book : List Series) (n : ℕ) (series : Series) (best : Option Found) → slice_get book n ≡ Some series
    → IsClear series.slots 0 (length series.slots) → AreOldestAmong book n best → AreOldestAmong book (suc n) best
no_more book n series None there clear none = λ id slot one value low here holds. elim (before_or id n low) [
  | inl before ↦ none id slot one value before here holds
  | inr at ↦
      let same : one ≡ series = same_series book id n one series at here there in
      let P : Series → Type 0 = λ x. Holds x.slots slot value in
      let held : Holds series.slots slot value = subst P same holds in
      clear slot value (omega arith) (slice_get_within series.slots slot (Some value) held) held
]
no_more book n series (Some found) there clear best = record {
  low = omega (arith, best.low);
  there = best.there;
  value = best.value;
  holds = best.holds;
  least = λ id slot one value low here holds. elim (before_or id n low) [
    | inl before ↦ best.least id slot one value before here holds
    | inr at ↦
        let same : one ≡ series = same_series book id n one series at here there in
        let P : Series → Type 0 = λ x. Holds x.slots slot value in
        let held : Holds series.slots slot value = subst P same holds in
        absurd (clear slot value (omega arith) (slice_get_within series.slots slot (Some value) held) held)
  ];
  first = best.first;
}

-- the first stored slot of the next series is no later than the others of it
in_series : (book : List Series) (n : ℕ) (series : Series) (p : ℕ × ℤ) → slice_get book n ≡ Some series
    → IsFirstStored series.slots 0 (length series.slots) (Some p) → (id slot : ℕ) (one : Series) (value : ℤ) → id ≡ n
    → slice_get book id ≡ Some one → Holds one.slots slot value
    → slot_time series p.0 ≤ℤ slot_time one slot
in_series book n series p there found id slot one value at here holds =
    let same : one ≡ series = same_series book id n one series at here there in
    let P : Series → Type 0 = λ x. Holds x.slots slot value in
    let T : Series → Type 0 = λ x. slot_time series p.0 ≤ℤ slot_time x slot in
    let held : Holds series.slots slot value = subst P same holds in
    subst T (sym same) (later_slots series p.0 slot (elim (cases_lt slot p.0) [
      | inl before ↦ absurd (found.3 slot value (omega arith) before held)
      | inr from ↦ from
    ]))

abbrev found_first : ℕ → Series → ℕ → Found
found_first id series slot = record { id = id; series = series; slot = slot }

-- it is the oldest where none was found before
the_first : (book : List Series) (n : ℕ) (series : Series) (p : ℕ × ℤ) → slice_get book n ≡ Some series
    → IsFirstStored series.slots 0 (length series.slots) (Some p) → AreOldestAmong book n None
    → IsOldestAmong book (suc n) (found_first n series p.0)
the_first book n series p there found none = record {
  low = omega arith;
  there = there;
  value = p.1;
  holds = found.2;
  least = λ id slot one value low here holds. elim (before_or id n low) [
    | inl before ↦ absurd (none id slot one value before here holds)
    | inr at ↦ in_series book n series p there found id slot one value at here holds
  ];
  first = λ id slot one value low here holds. absurd (none id slot one value low here holds);
}

-- or where it is before the one that was
a_newer : (book : List Series) (n : ℕ) (series : Series) (p : ℕ × ℤ) (best : Found) → slice_get book n ≡ Some series
    → IsFirstStored series.slots 0 (length series.slots) (Some p) → IsOldestAmong book n best
    → slot_time series p.0 <ℤ found_time best → IsOldestAmong book (suc n) (found_first n series p.0)
a_newer book n series p best there found is less = record {
  low = omega arith;
  there = there;
  value = p.1;
  holds = found.2;
  least = λ id slot one value low here holds. elim (before_or id n low) [
    | inl before ↦ up_to (slot_time series p.0) (found_time best) (slot_time one slot) less (is.least id slot one value before here holds)
    | inr at ↦ in_series book n series p there found id slot one value at here holds
  ];
  first = λ id slot one value low here holds. less_on (slot_time series p.0) (found_time best) (slot_time one slot) less
      (is.least id slot one value low here holds);
}

-- and else it isn't
the_same : (book : List Series) (n : ℕ) (series : Series) (p : ℕ × ℤ) (best : Found) → slice_get book n ≡ Some series
    → IsFirstStored series.slots 0 (length series.slots) (Some p) → IsOldestAmong book n best
    → found_time best ≤ℤ slot_time series p.0 → IsOldestAmong book (suc n) best
the_same book n series p best there found is no_less = record {
  low = omega (arith, is.low);
  there = is.there;
  value = is.value;
  holds = is.holds;
  least = λ id slot one value low here holds. elim (before_or id n low) [
    | inl before ↦ is.least id slot one value before here holds
    | inr at ↦ le_on (found_time best) (slot_time series p.0) (slot_time one slot) no_less
        (in_series book n series p there found id slot one value at here holds)
  ];
  first = is.first;
}

of_two : (book : List Series) (n : ℕ) (series : Series) (p : ℕ × ℤ) (best : Found) (b : Bool)
    → int_lt (slot_time series p.0) (found_time best) ≡ b → slice_get book n ≡ Some series
    → IsFirstStored series.slots 0 (length series.slots) (Some p) → IsOldestAmong book n best
    → AreOldestAmong book (suc n) (cond b (Some (found_first n series p.0)) (Some best))
of_two book n series p best true test there found is = a_newer book n series p best there found is
    (is_less (slot_time series p.0) (found_time best) test)
of_two book n series p best false test there found is = the_same book n series p best there found is
    (is_no_less (slot_time series p.0) (found_time best) test)

pub with_next : (book : List Series) (n : ℕ) (series : Series) (o : Option (ℕ × ℤ)) (best : Option Found) → slice_get book n ≡ Some series
    → IsFirstStored series.slots 0 (length series.slots) o → AreOldestAmong book n best
    → AreOldestAmong book (suc n) (older best (found_in n series (slot_of o)))
with_next book n series None None there clear is = no_more book n series None there clear is
with_next book n series None (Some best) there clear is = no_more book n series (Some best) there clear is
with_next book n series (Some p) None there found is = the_first book n series p there found is
with_next book n series (Some p) (Some best) there found is = of_two book n series p best
    (int_lt (slot_time series p.0) (found_time best)) refl there found is

some_series : (book : List Series) (n : ℕ) → n < length book → (series : Series) × (slice_get book n ≡ Some series)
some_series [] n low = absurd (omega (arith, low))
some_series (x ∷ xs) zero low = (x, refl)
some_series (x ∷ xs) (suc n) low = some_series xs n (omega (arith, low))

pub oldest_next : (book : List Series) (n : ℕ) (series : Series) (o : Option (ℕ × ℤ)) → slice_get book n ≡ Some series
    → IsFirstStored series.slots 0 (length series.slots) o
    → oldest_among book (suc n) ≡ older (oldest_among book n) (found_in n series (slot_of o))
unfolding oldest_among
oldest_next book n series o there first = ap (λ f. older (oldest_among book n) f) (found_is n (slice_get book n) series o there first)

pub oldest_among_is : (book : List Series) (n : ℕ) → n ≤ length book → AreOldestAmong book n (oldest_among book n)
unfolding oldest_among
oldest_among_is book zero within = λ id slot series value low here holds. omega (arith, low)
oldest_among_is book (suc n) within =
    let series = some_series book n (omega (arith, within)) in
    let first = first_stored series.0.slots (length series.0.slots) (omega arith) in
    let P : Option Found → Type 0 = λ f. AreOldestAmong book (suc n) f in
    subst P (sym (oldest_next book n series.0 first.0 series.1 first.1))
    (with_next book n series.0 first.0 (oldest_among book n) series.1 first.1 (oldest_among_is book n (omega (arith, within))))

-- the oldest stored slot of the book
pub oldest_is : (book : List Series) (found : Found) → oldest book ≡ Some found → IsOldest book found
oldest_is book found is =
    let P : Option Found → Type 0 = λ f. AreOldestAmong book (length book) f in
    let among : IsOldestAmong book (length book) found = subst P is (oldest_among_is book (length book) (omega arith)) in
    record {
      there = among.there;
      value = among.value;
      holds = among.holds;
      least = λ id slot series value here holds. among.least id slot series value (slice_get_within book id series here) here holds;
      first = among.first;
    }

pub oldest_none : (book : List Series) → oldest book ≡ None → HoldsNothing book
oldest_none book is =
    let P : Option Found → Type 0 = λ f. AreOldestAmong book (length book) f in
    let none : AreOldestAmong book (length book) None = subst P is (oldest_among_is book (length book) (omega arith)) in
    λ id slot series value here holds. none id slot series value (slice_get_within book id series here) here holds
