-- Slots that stand before a time.
use Rattle.std.proofs.Common.{◌≡◌, ℕ, ℤ, zero, suc, ◌+◌, ◌-◌, ◌*◌, ◌<◌, ◌≤◌, Bool, true, false, cond, length, refl, sym, ap, ◌∙◌, arith}
use Rattle.std.proofs.Common.{inl, inr}
use Rattle.std.specs.Prelude.{pos, ◌/◌, ◌-ℤ◌, unsigned_abs, int_lt, ◌<ℤ◌, ◌≤ℤ◌, ◌+ℤ◌, ◌↔◌}
use Rattle.std.proofs.Math.Nat.{le-div_iff_mul-le, mul-le-mul_right, mul-lt-mul_of_pos_right}
use Rattle.std.proofs.lemmas.Bool.{cases_lt}
use Rattle.std.proofs.lemmas.Int.{ints}
use Rattle.series_book.specs.declared.one_series.Series.{Series}
use Rattle.series_book.specs.Edits.{distance}
use Rattle.series_book.specs.Pages.{count_below}
use Rattle.retention.specs.Sweeps.{slot_time, slots_before}

-- the numbers below n that pass are those below k
pub record IsCut (p : ℕ → Bool) (n k : ℕ) : Type 0 where
  pub within : k ≤ n
  pub below : (i : ℕ) → i < k → p i ≡ true
  pub above : (i : ℕ) → k ≤ i → i < n → p i ≡ false

-- where a number passes with all below it, they are so many as the count says
more_cut : (p : ℕ → Bool) (n k : ℕ) (b : Bool) → ((i j : ℕ) → i ≤ j → p j ≡ true → p i ≡ true) → IsCut p n k → p n ≡ b
    → IsCut p (suc n) (k + cond b 1 0)
more_cut p n k true falls is here = record {
  within = omega (arith, is.within);
  below = λ i low. falls i n (omega (arith, low, is.within)) here;
  above = λ i up low. elim (cases_lt k n) [
    | inl short ↦
        let yes : p k ≡ true = falls k n (is.within) here in
        let no : p k ≡ false = is.above k (omega arith) short in
        cc
    | inr whole ↦ absurd (omega (arith, up, low, whole))
  ];
}
more_cut p n k false falls is here = record {
  within = omega (arith, is.within);
  below = λ i low. is.below i (omega (arith, low));
  above = λ i up low. elim (cases_lt i n) [
    | inl before ↦ is.above i (omega (arith, up)) before
    | inr past ↦ let at : i ≡ n = omega (arith, past, low) in ap p at ∙ here
  ];
}

cut_is : (p : ℕ → Bool) (n : ℕ) → ((i j : ℕ) → i ≤ j → p j ≡ true → p i ≡ true) → IsCut p n (count_below p n)
unfolding count_below
cut_is p zero falls = record {
  within = omega arith;
  below = λ i low. absurd (omega (arith, low));
  above = λ i up low. absurd (omega (arith, low));
}
cut_is p (suc n) falls = more_cut p n (count_below p n) (p n) falls (cut_is p n falls) refl

-- there is one such number
one_cut : (p : ℕ → Bool) (n k m : ℕ) → IsCut p n k → IsCut p n m → k ≡ m
one_cut p n k m one other = elim (cases_lt k m) [
  | inl less ↦
      let no : p k ≡ false = one.above k (omega arith) (omega (arith, less, other.within)) in
      let yes : p k ≡ true = other.below k less in
      cc
  | inr up ↦ elim (cases_lt m k) [
    | inl less ↦
        let no : p m ≡ false = other.above m (omega arith) (omega (arith, less, one.within)) in
        let yes : p m ≡ true = one.below m less in
        cc
    | inr same ↦ omega (arith, up, same)
  ]
]

lt_on : (start time : ℤ) (a b : ℕ) → a ≤ b → int_lt (start +ℤ pos b) time ≡ true → int_lt (start +ℤ pos a) time ≡ true
lt_on start time a b up test = grind (arith, ints)

is_less : (a b : ℤ) → int_lt a b ≡ true → a <ℤ b
is_less a b test = grind (arith, ints)

less_is : (a b : ℤ) → a <ℤ b → int_lt a b ≡ true
less_is a b less = grind (arith, ints)

not_less : (a b : ℤ) → (a <ℤ b → ⊥) → int_lt a b ≡ false
not_less a b late = by (int_lt a b) refl
  where
    by : (t : Bool) → int_lt a b ≡ t → t ≡ false
    by true is = absurd (late (is_less a b is))
    by false is = refl

abbrev test_of : Series → ℤ → ℕ → Bool
test_of series time slot = int_lt (slot_time series slot) time

falls_in : (series : Series) (time : ℤ) (i j : ℕ) → i ≤ j → test_of series time j ≡ true → test_of series time i ≡ true
falls_in series time i j up test = lt_on series.start time (i * series.step) (j * series.step) (mul-le-mul_right series.step up) test

before_cut : (series : Series) (time : ℤ) → IsCut (test_of series time) (length series.slots) (slots_before series time)
unfolding slots_before
before_cut series time = cut_is (test_of series time) (length series.slots) (falls_in series time)

pub before_few : (series : Series) (time : ℤ) → slots_before series time ≤ length series.slots
before_few series time = (before_cut series time).within

-- the slots before a time are those whose time is below it
pub before_is : (series : Series) (time : ℤ) (slot : ℕ) → slot < length series.slots
    → (slot < slots_before series time) ↔ (slot_time series slot <ℤ time)
before_is series time slot within = (
  λ low. is_less (slot_time series slot) time ((before_cut series time).below slot low),
  λ early. elim (cases_lt slot (slots_before series time)) [
    | inl low ↦ low
    | inr up ↦
        let no : int_lt (slot_time series slot) time ≡ false = (before_cut series time).above slot up within in
        let yes : int_lt (slot_time series slot) time ≡ true = less_is (slot_time series slot) time early in
        cc
  ],
)

-- a number of slots that splits them so is that of the slots before the time
pub before_count : (series : Series) (time : ℤ) (n : ℕ) → n ≤ length series.slots
    → ((slot : ℕ) → slot < length series.slots → (slot < n) ↔ (slot_time series slot <ℤ time)) → slots_before series time ≡ n
before_count series time n within splits =
    one_cut (test_of series time) (length series.slots) (slots_before series time) n (before_cut series time) (record {
      within = within;
      below = λ i low. less_is (slot_time series i) time ((splits i (omega (arith, low, within))).0 low);
      above = λ i up low. not_less (slot_time series i) time (λ early. let less : i < n = (splits i low).1 early in
          omega (arith, less, up));
    })

earlier : (start : ℤ) (a b : ℕ) → a < b → (start +ℤ pos a) <ℤ (start +ℤ pos b)
earlier start a b less = grind (arith, ints)

no_earlier : (start : ℤ) (a b : ℕ) → b ≤ a → (start +ℤ pos a) <ℤ (start +ℤ pos b) → ⊥
no_earlier start a b up less = omega (arith, ints, up, less)

-- as many slots stand before the time of a slot as slots stand before it
pub before_slot : (series : Series) (n : ℕ) → 1 ≤ series.step → n ≤ length series.slots → slots_before series (slot_time series n) ≡ n
before_slot series n some within = before_count series (slot_time series n) n within (λ slot low. (
  λ less. earlier series.start (slot * series.step) (n * series.step) (mul-lt-mul_of_pos_right less some),
  λ early. elim (cases_lt slot n) [
    | inl less ↦ less
    | inr up ↦ absurd (no_earlier series.start (slot * series.step) (n * series.step) (mul-le-mul_right series.step up) early)
  ],
))

-- none stands before the start
none_early : (start time : ℤ) (n : ℕ) → time ≤ℤ start → (start +ℤ pos n) <ℤ time → ⊥
none_early start time n late early = omega (arith, ints, late, early)

pub before_none : (series : Series) (time : ℤ) → time ≤ℤ series.start → 0 ≡ slots_before series time
before_none series time late = sym (before_count series time 0 (omega arith)
    (λ slot within. (λ low. absurd (omega (arith, low)), λ early. absurd (none_early series.start time (slot * series.step) late early))))

-- one stands before a time where it is nearer to the start
nearer : (start time : ℤ) (n : ℕ) → start <ℤ time → (n ≤ unsigned_abs (time -ℤ start) - 1) ↔ ((start +ℤ pos n) <ℤ time)
nearer start time n late = (λ low. grind (arith, ints), λ early. grind (arith, ints))

pub before_place : (series : Series) (time : ℤ) (slot : ℕ) → 1 ≤ series.step → series.start <ℤ time
    → (slot ≤ (distance series time - 1) / series.step) ↔ (slot_time series slot <ℤ time)
before_place series time slot some late =
    let d : ℕ = distance series time - 1 in
    let steps : (slot ≤ d / series.step) ↔ (slot * series.step ≤ d) = le-div_iff_mul-le some in
    let times : (slot * series.step ≤ d) ↔ (slot_time series slot <ℤ time) = nearer series.start time (slot * series.step) late in
    (λ low. times.0 (steps.0 low), λ early. steps.1 (times.1 early))

pub before_all : (series : Series) (time : ℤ) (place : ℕ) → 1 ≤ series.step → series.start <ℤ time
    → place ≡ (distance series time - 1) / series.step → length series.slots ≤ place → length series.slots ≡ slots_before series time
before_all series time place some late is far =
    sym (before_count series time (length series.slots) (omega arith)
    (λ slot within. (λ low. (before_place series time slot some late).0 (omega (arith, far, within, is)), λ early. within)))

pub before_some : (series : Series) (time : ℤ) (place : ℕ) → 1 ≤ series.step → series.start <ℤ time
    → place ≡ (distance series time - 1) / series.step → place < length series.slots → place + 1 ≡ slots_before series time
before_some series time place some late is near =
    sym (before_count series time (place + 1) (omega (arith, near)) (λ slot within. (
      λ low. (before_place series time slot some late).0 (omega (arith, low, is)),
      λ early. let low = (before_place series time slot some late).1 early in omega (arith, low, is),
    )))
