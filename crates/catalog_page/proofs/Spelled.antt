-- What the steps of spelling a record make, and what follows from a spelling.
use Rattle.std.proofs.Common.{◌≡◌, ◌≢◌, ℕ, ℤ, ◌+◌, ◌<◌, ◌≤◌, ◌↔◌, ◌==◌, if◌then◌else◌, Bool, true, false, Option, None, Some, List, ◌++◌}
use Rattle.std.proofs.Common.{length, take, drop, get_or, inl, inr, refl, sym, ap, ◌∙◌, arith}
use Rattle.std.proofs.Math.Seq.{take-append_seam, drop-append_seam}
use Rattle.std.proofs.lemmas.List.{length-take-le}
use Rattle.std.proofs.lemmas.Bool.Decides.{eqb_tells}
use Rattle.om3_coeff.specs.declared.span.Span.{Span}
use Rattle.om3_coeff.specs.Keys.{page_levels}
use Rattle.node_page.specs.Fields.{with_bytes}
use Rattle.node_page.proofs.Bytes.{number_same, written_before, written_behind, written_length}
use Rattle.catalog_page.specs.Fields.{used_at, length_at, scale_at, step_at, start_at, slots_at, root_at, min_at, max_at, levels_at}
use Rattle.catalog_page.specs.Entries.{Entry, entry_in, least_of, greatest_of}
use Rattle.catalog_page.specs.Spelling.{Spells}
use Rattle.catalog_page.proofs.Numbers.{signed_same}

-- the numbers are set first, then the span, the fields of one byte and last the name
pub record Steps (e : Entry) (b0 b1 b2 b3 b4 : List ℕ) : Type 0 where
  pub short : length e.name ≤ 31
  pub blank : (k : ℕ) → k < 96 → get_or b0 k 0 ≡ 0
  pub step : step_at b1 ≡ e.step
  pub start : start_at b1 ≡ e.start
  pub slots : slots_at b1 ≡ e.slots
  pub root : root_at b1 ≡ e.root
  pub low : (k : ℕ) → k < 36 → get_or b1 k 0 ≡ get_or b0 k 0
  pub high : (k : ℕ) → 60 ≤ k → get_or b1 k 0 ≡ get_or b0 k 0
  pub min : min_at b2 ≡ least_of e.span
  pub max : max_at b2 ≡ greatest_of e.span
  pub below : (k : ℕ) → k < 64 → get_or b2 k 0 ≡ get_or b1 k 0
  pub above : (k : ℕ) → 80 ≤ k → get_or b2 k 0 ≡ get_or b1 k 0
  pub whole : length b3 ≡ 96
  pub used : used_at b3 ≡ 1
  pub len : length_at b3 ≡ length e.name
  pub scale : scale_at b3 ≡ e.scale
  pub levels : levels_at b3 ≡ page_levels e.slots
  pub rest : (k : ℕ) → 3 ≤ k → k ≢ 80 → get_or b3 k 0 ≡ get_or b2 k 0
  pub named : b4 ≡ with_bytes b3 4 e.name

-- bytes before the name
before : (e : Entry) (b0 b1 b2 b3 b4 : List ℕ) → Steps e b0 b1 b2 b3 b4 → (k : ℕ) → k < 4 → get_or b4 k 0 ≡ get_or b3 k 0
before e b0 b1 b2 b3 b4 s k low =
    ap (λ (l : List ℕ). get_or l k 0) s.named ∙ written_before 4 k b3 e.name (omega (arith, s.whole)) low

-- bytes behind it
behind : (e : Entry) (b0 b1 b2 b3 b4 : List ℕ) → Steps e b0 b1 b2 b3 b4 → (k : ℕ) → 4 + length e.name ≤ k → get_or b4 k 0 ≡ get_or b3 k 0
behind e b0 b1 b2 b3 b4 s k high =
    ap (λ (l : List ℕ). get_or l k 0) s.named ∙ written_behind 4 k b3 e.name (omega (arith, s.whole)) high

-- bytes of the numbers
number_bytes : (e : Entry) (b0 b1 b2 b3 b4 : List ℕ) → Steps e b0 b1 b2 b3 b4 → (k : ℕ) → 36 ≤ k → k < 64 → get_or b4 k 0 ≡ get_or b1 k 0
number_bytes e b0 b1 b2 b3 b4 s k low high =
    behind e b0 b1 b2 b3 b4 s k (omega (arith, low, s.short)) ∙ s.rest k (omega (arith, low)) (λ is. omega (arith, is, high))
    ∙ s.below k high

-- bytes of the span
span_bytes : (e : Entry) (b0 b1 b2 b3 b4 : List ℕ) → Steps e b0 b1 b2 b3 b4 → (k : ℕ) → 64 ≤ k → k ≢ 80 → get_or b4 k 0 ≡ get_or b2 k 0
span_bytes e b0 b1 b2 b3 b4 s k low other = behind e b0 b1 b2 b3 b4 s k (omega (arith, low, s.short)) ∙ s.rest k (omega (arith, low)) other

-- bytes of no field
blank_byte : (e : Entry) (b0 b1 b2 b3 b4 : List ℕ) → Steps e b0 b1 b2 b3 b4 → (k : ℕ) → 4 + length e.name ≤ k → k < 36 → get_or b4 k 0 ≡ 0
blank_byte e b0 b1 b2 b3 b4 s k low high =
    behind e b0 b1 b2 b3 b4 s k low ∙ s.rest k (omega (arith, low)) (λ is. omega (arith, is, high)) ∙ s.below k (omega (arith, high))
    ∙ s.low k high ∙ s.blank k (omega (arith, high))

read_back : (n : ℕ) (old name : List ℕ) → 4 ≤ length old → n ≡ length name → take n (drop 4 (with_bytes old 4 name)) ≡ name
unfolding with_bytes
read_back n old name within size =
    let tail = drop (4 + length name) old in
    let front : length (take 4 old) ≡ 4 = length-take-le 4 old within in
    let dropped : drop 4 (take 4 old ++ (name ++ tail)) ≡ name ++ tail =
    ap (λ (i : ℕ). drop i (take 4 old ++ (name ++ tail))) (sym front) ∙ drop-append_seam (take 4 old) (name ++ tail) in
    ap (λ (l : List ℕ). take n l) dropped ∙ ap (λ (i : ℕ). take i (name ++ tail)) size ∙ take-append_seam name tail

pub spelled : (e : Entry) (b0 b1 b2 b3 b4 : List ℕ) → Steps e b0 b1 b2 b3 b4 → Spells e b4
spelled e b0 b1 b2 b3 b4 s =
    let len : length_at b4 ≡ length e.name = before e b0 b1 b2 b3 b4 s 1 (omega arith) ∙ s.len in
    record {
      whole = ap length s.named ∙ written_length 4 b3 e.name (omega (arith, s.whole, s.short)) ∙ s.whole;
      used = before e b0 b1 b2 b3 b4 s 0 (omega arith) ∙ s.used;
      len = len;
      scale = before e b0 b1 b2 b3 b4 s 2 (omega arith) ∙ s.scale;
      name = ap (λ (l : List ℕ). take (length_at b4) (drop 4 l)) s.named ∙ read_back (length_at b4) b3 e.name (omega (arith, s.whole)) len;
      padded = λ k low high. blank_byte e b0 b1 b2 b3 b4 s k low (omega (arith, high));
      step = number_same 4 36 b1 b4 (λ k low high. number_bytes e b0 b1 b2 b3 b4 s k low (omega (arith, high))) ∙ s.step;
      start = signed_same 40 b1 b4 (λ k low high. number_bytes e b0 b1 b2 b3 b4 s k (omega (arith, low)) (omega (arith, high))) ∙ s.start;
      slots = number_same 8 48 b1 b4 (λ k low high. number_bytes e b0 b1 b2 b3 b4 s k (omega (arith, low)) (omega (arith, high))) ∙ s.slots;
      root = number_same 4 56 b1 b4 (λ k low high. number_bytes e b0 b1 b2 b3 b4 s k (omega (arith, low)) (omega (arith, high))) ∙ s.root;
      min = signed_same 64 b2 b4 (λ k low high. span_bytes e b0 b1 b2 b3 b4 s k low (λ is. omega (arith, is, high))) ∙ s.min;
      max = signed_same 72 b2 b4 (λ k low high. span_bytes e b0 b1 b2 b3 b4 s k (omega (arith, low)) (λ is. omega (arith, is, high)))
          ∙ s.max;
      levels = behind e b0 b1 b2 b3 b4 s 80 (omega (arith, s.short)) ∙ s.levels;
      spare = (
        (
          before e b0 b1 b2 b3 b4 s 3 (omega arith) ∙ s.rest 3 (omega arith) (λ is. omega (arith, is)) ∙ s.below 3 (omega arith)
              ∙ s.low 3 (omega arith) ∙ s.blank 3 (omega arith),
          blank_byte e b0 b1 b2 b3 b4 s 35 (omega (arith, s.short)) (omega arith),
        ),
        λ k low high. number_bytes e b0 b1 b2 b3 b4 s k (omega (arith, low)) high ∙ s.high k low ∙ s.blank k (omega (arith, high)),
        λ k low high. span_bytes e b0 b1 b2 b3 b4 s k (omega (arith, low)) (λ is. omega (arith, is, low)) ∙ s.above k (omega (arith, low))
            ∙ s.high k (omega (arith, low)) ∙ s.blank k high,
      );
    }

-- What a spelling says.

pub some_root : (root : ℕ) → (root ≡ 0 → ⊥) → (root == 0) ≡ false
some_root root some = elim (eqb_tells root 0) [ inl none ↦ absurd (some none.1) | inr more ↦ more.0 ]

pub no_root : (root : ℕ) → root ≡ 0 → (root == 0) ≡ true
no_root root none = elim (eqb_tells root 0) [ inl is ↦ is.0 | inr more ↦ absurd (more.1 none) ]

-- a span, unless there is no root
abbrev pub span_if : Bool → ℤ → ℤ → Option Span
span_if none min max = if none then None else Some (record { min = min; max = max })

span_told : (root : ℕ) (min max : ℤ) (s : Option Span) → (s ≡ None) ↔ (root ≡ 0) → min ≡ least_of s → max ≡ greatest_of s
    → span_if (root == 0) min max ≡ s
span_told root min max None rooted least greatest = ap (λ (b : Bool). span_if b min max) (no_root root (rooted.0 refl))
span_told root min max (Some s) rooted least greatest =
    ap (λ (b : Bool). span_if b min max) (some_root root (λ zero. let no : Some s ≡ None = rooted.1 zero in cc))
    ∙ ap (λ (z : ℤ). span_if false z max) least ∙ ap (λ (z : ℤ). span_if false s.min z) greatest

entries_same : (a b : Entry) → a.name ≡ b.name → a.scale ≡ b.scale → a.step ≡ b.step → a.start ≡ b.start → a.slots ≡ b.slots
    → a.root ≡ b.root → a.span ≡ b.span → a ≡ b
entries_same a b name scale step start slots root span =
    ap (λ x. of x a.scale a.step a.start a.slots a.root a.span) name
    ∙ ap (λ x. of b.name x a.step a.start a.slots a.root a.span) scale
    ∙ ap (λ x. of b.name b.scale x a.start a.slots a.root a.span) step
    ∙ ap (λ x. of b.name b.scale b.step x a.slots a.root a.span) start
    ∙ ap (λ x. of b.name b.scale b.step b.start x a.root a.span) slots
    ∙ ap (λ x. of b.name b.scale b.step b.start b.slots x a.span) root
    ∙ ap (λ x. of b.name b.scale b.step b.start b.slots b.root x) span
  where
    of : List ℕ → ℕ → ℕ → ℤ → ℕ → ℕ → Option Span → Entry
    of name scale step start slots root span =
        record { name = name; scale = scale; step = step; start = start; slots = slots; root = root; span = span }

pub entry_told : (e : Entry) (bytes : List ℕ) → (e.span ≡ None) ↔ (e.root ≡ 0) → Spells e bytes → entry_in bytes ≡ e
unfolding entry_in
entry_told e bytes rooted s =
    let same : (e.span ≡ None) ↔ (root_at bytes ≡ 0) = (λ none. s.root ∙ rooted.0 none, λ zero. rooted.1 (sym s.root ∙ zero)) in
    entries_same (entry_in bytes) e s.name s.scale s.step s.start s.slots s.root
    (span_told (root_at bytes) (min_at bytes) (max_at bytes) e.span same s.min s.max)
