-- Which records keep the rules, and what they say.
use Rattle.std.proofs.Common.{◌≡◌, ℕ, ℤ, pos, zero, suc, ◌+◌, ◌-◌, ◌<◌, ◌≤◌, ◌==◌, ◌&&◌, ◌↔◌, IsTrue, Bool, false, Option, None, Some, List}
use Rattle.std.proofs.Common.{length, drop, get_or, inl, inr, refl, sym, ap, subst, ◌∙◌, arith, length-drop}
use Rattle.std.specs.Prelude.{◌≤ℤ◌, nat_le}
use Rattle.std.specs.List.{list_all}
use Rattle.std.specs.Int.Signed.{≤ℤ_refl}
use Rattle.std.proofs.lemmas.Bool.{and_parts, leb-true, cases_lt}
use Rattle.std.proofs.lemmas.Bool.Decides.{eqb_tells}
use Rattle.std.proofs.lemmas.List.{get_or-take, get_or-drop, length-take-le}
use Rattle.std.proofs.lemmas.Grind.{same_number_lists}
use Rattle.whole_number.specs.Range.{IsValue}
use Rattle.whole_number.specs.SlotTimes.{EndsInTime}
use Rattle.om3_coeff.specs.declared.span.Span.{Span}
use Rattle.om3_coeff.specs.Spans.{IsProperIfAny}
use Rattle.om3_coeff.specs.Keys.{page_levels}
use Rattle.series_book.specs.Names.{is_name, is_name_byte}
use Rattle.catalog_page.specs.Fields.{length_at, name_at, step_at, start_at, root_at, slots_at, min_at, max_at}
use Rattle.catalog_page.specs.Entries.{Entry, IsEntry, IsRoot, entry_in, least_of, greatest_of}
use Rattle.catalog_page.specs.Layout.{IsRecord}
use Rattle.catalog_page.specs.Spelling.{Spells}
use Rattle.node_page.specs.Numbers.{IsBytes, number_bytes, signed_bytes}
use Rattle.catalog_page.proofs.Spelled.{no_root, span_if}

-- a name has 1 to 31 bytes
name_length : (name : List ℕ) → IsTrue (is_name name) → (1 ≤ length name) × (length name ≤ 31)
unfolding is_name
name_length name named =
    let parts = and_parts (nat_le 1 (length name) && nat_le (length name) 31) (list_all is_name_byte name) named in
    let sizes = and_parts (nat_le 1 (length name)) (nat_le (length name) 31) parts.0 in
    (leb-true 1 (length name) sizes.0, leb-true (length name) 31 sizes.1)

least_fits : (s : Option Span) → IsProperIfAny s → IsValue (least_of s)
least_fits None proper = omega arith
least_fits (Some s) proper = proper.low

greatest_fits : (s : Option Span) → IsProperIfAny s → IsValue (greatest_of s)
greatest_fits None proper = omega arith
greatest_fits (Some s) proper = proper.high

ends_ordered : (s : Option Span) → IsProperIfAny s → least_of s ≤ℤ greatest_of s
ends_ordered None proper = ≤ℤ_refl (pos 0)
ends_ordered (Some s) proper = proper.ordered

ends_same : (start start' : ℤ) (step step' slots slots' : ℕ) → start ≡ start' → step ≡ step' → slots ≡ slots' → EndsInTime start step slots
    → EndsInTime start' step' slots'
ends_same start start' step step' slots slots' same same' same'' ends =
    subst (λ (z : ℤ). EndsInTime z step' slots') same
    (subst (λ (n : ℕ). EndsInTime start n slots') same' (subst (λ (n : ℕ). EndsInTime start step n) same'' ends))

-- what is in range is spelled by a record that keeps the rules
pub spelled_record : (fresh : ℕ) (e : Entry) (b : List ℕ) → IsEntry fresh e → (e.span ≡ None) ↔ (e.root ≡ 0) → Spells e b → IsRecord fresh b
spelled_record fresh e b fits rooted s =
    let len = name_length e.name fits.named in
    let ordered : least_of e.span ≤ℤ max_at b = subst (λ (z : ℤ). least_of e.span ≤ℤ z) (sym s.max) (ends_ordered e.span fits.span) in
    record {
      used = s.used;
      len = (omega (arith, s.len, len.0), omega (arith, s.len, len.1));
      scale = omega (arith, s.scale, fits.scale);
      name = record {
        named = subst (λ (l : List ℕ). IsTrue (is_name l)) (sym s.name) fits.named;
        padded = λ k low high. s.padded k (omega (arith, low, s.len)) high;
      };
      step = (omega (arith, s.step, fits.step_low), omega (arith, s.step, fits.step_high));
      start = subst IsValue (sym s.start) fits.start;
      slots = record {
        few = omega (arith, s.slots, fits.slots);
        last = ends_same e.start (start_at b) e.step (step_at b) e.slots (slots_at b) (sym s.start) (sym s.step) (sym s.slots) fits.last;
      };
      root = subst (λ (n : ℕ). IsRoot fresh n (slots_at b)) (sym s.root) (subst (λ (n : ℕ). IsRoot fresh e.root n) (sym s.slots) fits.root);
      min = (
        subst IsValue (sym s.min) (least_fits e.span fits.span),
        λ none. s.min ∙ ap least_of (rooted.1 (sym s.root ∙ none)),
      );
      max = (
        subst IsValue (sym s.max) (greatest_fits e.span fits.span),
        subst (λ (z : ℤ). z ≤ℤ max_at b) (sym s.min) ordered,
        λ none. s.max ∙ ap greatest_of (rooted.1 (sym s.root ∙ none)),
      );
      levels = s.levels ∙ ap page_levels (sym s.slots);
      spare = s.spare;
    }

span_fits : (root : ℕ) (min max : ℤ) → IsValue min → IsValue max → min ≤ℤ max → IsProperIfAny (span_if (root == 0) min max)
span_fits root min max low high ordered = elim (eqb_tells root 0) [
  | inl none ↦ subst (λ (t : Bool). IsProperIfAny (span_if t min max)) (sym none.0) tt
  | inr more ↦ subst (λ (t : Bool). IsProperIfAny (span_if t min max)) (sym more.0) (record { ordered = ordered; low = low; high = high })
]

span_rooted : (root : ℕ) (min max : ℤ) → (span_if (root == 0) min max ≡ None) ↔ (root ≡ 0)
span_rooted root min max = (
  λ none. elim (eqb_tells root 0) [
    | inl is ↦ is.1
    | inr more ↦ absurd (let no : span_if false min max ≡ None = ap (λ (t : Bool). span_if t min max) (sym more.0) ∙ none in cc)
  ],
  λ is. ap (λ (t : Bool). span_if t min max) (no_root root is),
)

-- a record that keeps the rules says what is in range
pub record_entry : (fresh : ℕ) (b : List ℕ) → IsRecord fresh b → IsEntry fresh (entry_in b)
unfolding entry_in
record_entry fresh b r = record {
  named = r.name.named;
  scale = r.scale;
  step_low = r.step.0;
  step_high = r.step.1;
  start = r.start;
  slots = r.slots.few;
  last = r.slots.last;
  root = r.root;
  rooted = span_rooted (root_at b) (min_at b) (max_at b);
  span = span_fits (root_at b) (min_at b) (max_at b) r.min.0 r.max.0 r.max.1;
}

least_told : (root : ℕ) (min max : ℤ) → (root ≡ 0 → min ≡ pos 0) → min ≡ least_of (span_if (root == 0) min max)
least_told root min max rule = elim (eqb_tells root 0) [
  | inl none ↦ rule none.1 ∙ ap (λ (t : Bool). least_of (span_if t min max)) (sym none.0)
  | inr more ↦ ap (λ (t : Bool). least_of (span_if t min max)) (sym more.0)
]

greatest_told : (root : ℕ) (min max : ℤ) → (root ≡ 0 → max ≡ pos 0) → max ≡ greatest_of (span_if (root == 0) min max)
greatest_told root min max rule = elim (eqb_tells root 0) [
  | inl none ↦ rule none.1 ∙ ap (λ (t : Bool). greatest_of (span_if t min max)) (sym none.0)
  | inr more ↦ ap (λ (t : Bool). greatest_of (span_if t min max)) (sym more.0)
]

-- it is a spelling of what it says
pub record_spells : (fresh : ℕ) (b : List ℕ) → length b ≡ 96 → IsRecord fresh b → Spells (entry_in b) b
unfolding entry_in
record_spells fresh b whole r =
    let size : length (name_at b) ≡ length_at b = length-take-le (length_at b) (drop 4 b)
    (omega (arith, length-drop 4 b, whole, r.len.1)) in
    record {
      whole = whole;
      used = r.used;
      len = sym size;
      scale = refl;
      name = refl;
      padded = λ k low high. r.name.padded k (omega (arith, low, size)) high;
      step = refl;
      start = refl;
      slots = refl;
      root = refl;
      min = least_told (root_at b) (min_at b) (max_at b) r.min.1;
      max = greatest_told (root_at b) (min_at b) (max_at b) r.max.2;
      levels = r.levels;
      spare = r.spare;
    }

name_byte : (e : Entry) (b : List ℕ) → Spells e b → (k : ℕ) → 4 ≤ k → k < 4 + length e.name → get_or b k 0 ≡ get_or e.name (k - 4) 0
name_byte e b s k low high =
    let j = k - 4 in
    let place : 4 + j ≡ k = omega (arith, low) in
    let within : j < length_at b = omega (arith, low, high, s.len) in
    ap (λ (i : ℕ). get_or b i 0) (sym place) ∙ sym (get_or-drop 4 b j 0) ∙ sym (get_or-take (length_at b) (drop 4 b) j 0 within)
    ∙ ap (λ (l : List ℕ). get_or l j 0) s.name

front_byte : (e : Entry) (a b : List ℕ) → Spells e a → Spells e b → (k : ℕ) → k < 4 → get_or a k 0 ≡ get_or b k 0
front_byte e a b s s' zero low = s.used ∙ sym s'.used
front_byte e a b s s' (suc zero) low = s.len ∙ sym s'.len
front_byte e a b s s' (suc (suc zero)) low = s.scale ∙ sym s'.scale
front_byte e a b s s' (suc (suc (suc k))) low =
    let last : suc (suc (suc k)) ≡ 3 = omega (arith, low) in
    ap (λ (i : ℕ). get_or a i 0) last ∙ s.spare.0.0 ∙ sym s'.spare.0.0 ∙ ap (λ (i : ℕ). get_or b i 0) (sym last)

named_byte : (e : Entry) (a b : List ℕ) → Spells e a → Spells e b → (k : ℕ) → 4 ≤ k → k < 36 → get_or a k 0 ≡ get_or b k 0
named_byte e a b s s' k low high = elim (cases_lt k (4 + length e.name)) [
  | inl name ↦ name_byte e a s k low name ∙ sym (name_byte e b s' k low name)
  | inr past ↦ elim (cases_lt k 35) [
    | inl padded ↦ s.padded k past padded ∙ sym (s'.padded k past padded)
    | inr gap ↦
        let last : k ≡ 35 = omega (arith, gap, high) in
        ap (λ (i : ℕ). get_or a i 0) last ∙ s.spare.0.1 ∙ sym s'.spare.0.1 ∙ ap (λ (i : ℕ). get_or b i 0) (sym last)
  ]
]

short_byte : (e : Entry) (a b : List ℕ) → IsBytes a → IsBytes b → Spells e a → Spells e b → (k : ℕ) → 36 ≤ k → k < 60
    → get_or a k 0 ≡ get_or b k 0
short_byte e a b fits fits' s s' k low high = elim (cases_lt k 40) [
  | inl step ↦ number_bytes 4 36 a b fits fits' (s.step ∙ sym s'.step) k low step
  | inr start ↦ elim (cases_lt k 48) [
    | inl less ↦ signed_bytes 40 a b fits fits' (s.start ∙ sym s'.start) k start less
    | inr slots ↦ elim (cases_lt k 56) [
      | inl less ↦ number_bytes 8 48 a b fits fits' (s.slots ∙ sym s'.slots) k slots less
      | inr root ↦ number_bytes 4 56 a b fits fits' (s.root ∙ sym s'.root) k root high
    ]
  ]
]

span_byte : (e : Entry) (a b : List ℕ) → IsBytes a → IsBytes b → Spells e a → Spells e b → (k : ℕ) → 60 ≤ k → k < 96
    → get_or a k 0 ≡ get_or b k 0
span_byte e a b fits fits' s s' k low high = elim (cases_lt k 64) [
  | inl gap ↦ s.spare.1 k low gap ∙ sym (s'.spare.1 k low gap)
  | inr min ↦ elim (cases_lt k 72) [
    | inl less ↦ signed_bytes 64 a b fits fits' (s.min ∙ sym s'.min) k min less
    | inr max ↦ elim (cases_lt k 80) [
      | inl less ↦ signed_bytes 72 a b fits fits' (s.max ∙ sym s'.max) k max less
      | inr past ↦ elim (cases_lt k 81) [
        | inl less ↦
            let at : k ≡ 80 = omega (arith, past, less) in
            ap (λ (i : ℕ). get_or a i 0) at ∙ s.levels ∙ sym s'.levels ∙ ap (λ (i : ℕ). get_or b i 0) (sym at)
        | inr gap ↦ s.spare.2 k gap high ∙ sym (s'.spare.2 k gap high)
      ]
    ]
  ]
]

-- there is one spelling
pub one_spelling : (e : Entry) (a b : List ℕ) → IsBytes a → IsBytes b → Spells e a → Spells e b → a ≡ b
one_spelling e a b fits fits' s s' =
    same_number_lists a b (s.whole ∙ sym s'.whole) (λ k low. elim (cases_lt k 4) [
      | inl front ↦ front_byte e a b s s' k front
      | inr name ↦ elim (cases_lt k 36) [
        | inl less ↦ named_byte e a b s s' k name less
        | inr step ↦ elim (cases_lt k 60) [
          | inl less ↦ short_byte e a b fits fits' s s' k step less
          | inr span ↦ span_byte e a b fits fits' s s' k span (omega (arith, low, s.whole))
        ]
      ]
    ])
