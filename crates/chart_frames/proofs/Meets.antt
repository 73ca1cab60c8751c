-- The numbers of a frame whose fields meet their rules meet the rules of the format.
use Rattle.std.proofs.Common.{◌≡◌, ℕ, ℤ, zero, suc, pos, ◌+◌, ◌-◌, ◌*◌, ◌/◌, ◌%◌, ◌^◌, ◌<◌, ◌≤◌, ◌⊎◌, inl, inr, Bool, true, false, ◌&&◌}
use Rattle.std.proofs.Common.{◌||◌, cond, ltb, leb, eqb, List, [], ◌∷◌, length, Option, Some, None, refl, sym, ap, ◌∙◌, subst, arith}
use Rattle.std.specs.Prelude.{◌≤ℤ◌, ◌<ℤ◌, int_lt, int_le, slice_get, option_map}
use Rattle.std.specs.Bool.{IsTrue}
use Rattle.std.specs.Int.{w64, cast_signed}
use Rattle.std.proofs.Math.Facts.{Fits-of_z}
use Rattle.std.proofs.lemmas.Int.{ints, to_z-of_z, fits_signed_from_abs}
use Rattle.std.proofs.lemmas.Bool.{le-leb, lt-ltb, eq-eqb, and_from}
use Rattle.om3_coeff.specs.declared.key.Key.{Key}
use Rattle.om3_coeff.specs.declared.coef.Coef.{Coef}
use Rattle.om3_coeff.specs.Keys.{height, IsNode}
use Rattle.m4_groups.specs.declared.row.Row.{Row}
use Rattle.whole_number.specs.Range.{IsValue, is_time, is_value, IsTime}
use Rattle.chart_frames.specs.declared.limits.TheConstants.{MOST_SLOTS}
use Rattle.series_book.specs.declared.refusal_numbers.TheConstants.{SUM_TOO_LARGE}
use Rattle.whole_number.specs.SlotTimes.{ends_in_time}
use Rattle.chart_frames.specs.declared.frame.ViewFrame.{ViewFrame}
use Rattle.chart_frames.specs.declared.frame.RowsFrame.{RowsFrame}
use Rattle.chart_frames.specs.Format.{Format, stop, field, Meets, after}
use Rattle.chart_frames.specs.Fields.{signed, within, is_zero, is_view_length, is_rows_length, is_report_length, is_length, admits}
use Rattle.chart_frames.specs.Fields.{session_fields, side_field, side_fields, series_fields, window_fields, range_fields, axis_fields}
use Rattle.chart_frames.specs.Fields.{slots_field, has_field, rmin_field, rmax_field, stored_fields, count_fields, level_of, index_of}
use Rattle.chart_frames.specs.Fields.{is_key, follows, is_difference, key_field, difference_field, coef_fields, coefs_fields, place_fields}
use Rattle.chart_frames.specs.Fields.{source_fields, view_fields, row_count_fields, rises, column_field, value_field, at_most_field}
use Rattle.chart_frames.specs.Fields.{at_least_field, between_field, row_fields, rows_fields, head_fields, done_fields, names_first}
use Rattle.chart_frames.specs.Fields.{names_second, refused_fields, opened_fields, flag_fields, live_fields, kind_fields, length_field}
use Rattle.chart_frames.specs.Fields.{kind_field, frame_fields}
use Rattle.chart_frames.specs.Frames.{unsigned, key_number, flags_of, coefs_numbers, all_rows_numbers, view_numbers, rows_numbers}
use Rattle.chart_frames.specs.Frames.{IsSession, IsSide, IsWindow, IsRange, IsAxis, IsStored, IsCoef, FitsCoef, Precedes, FitCoefs}
use Rattle.chart_frames.specs.Frames.{FitsViewHead, FitsRow, FitRows, FitsRowsHead, FitsRefused, FitsOpened, number_of_flag}
use Rattle.chart_frames.specs.Items.{last_key, last_column}
use Rattle.chart_frames.proofs.Orders.{height_bound, index_bound, level_of-number, index_of-number}

-- ---- tests

pub or_right : (x y : Bool) → y ≡ true → (x || y) ≡ true
or_right true y h = refl
or_right false y h = h

pub or_left : (x y : Bool) → x ≡ true → (x || y) ≡ true
or_left true y h = refl
or_left false y h = absurd cc

pub within_from : (low high n : ℕ) → low ≤ n → n ≤ high → within low high n ≡ true
within_from low high n p q = and_from (leb low n) (leb n high) (le-leb low n p) (le-leb n high q)

lt_from : (a b : ℤ) → a <ℤ b → int_lt a b ≡ true
lt_from a b h = grind (arith, ints)

le_from : (a b : ℤ) → a ≤ℤ b → int_le a b ≡ true
le_from a b h = grind (arith, ints)

zero_from : (z : ℤ) → z ≡ pos 0 → is_zero z ≡ true
zero_from z e = ap is_zero e

-- ---- signed numbers

-- a number that eight bytes hold
abbrev IsSmall : ℤ → Type 0
IsSmall z = IsTime z

pub round : (z : ℤ) → IsSmall z → cast_signed w64 (unsigned z) ≡ z
round z small = to_z-of_z w64 z (fits_signed_from_abs w64 z (omega arith))

below : (z : ℤ) → IsSmall z → unsigned z < 256 ^ 8
below z small = let f = Fits-of_z {w = w64} {z = z} (fits_signed_from_abs w64 z (omega arith)) in omega (arith, f)

pub value_small : (z : ℤ) → IsValue z → IsSmall z
value_small z h = omega (arith, h)

-- a signed field in front
pub meets_signed : (ok : ℤ → Bool) (next : ℤ → Format) (z : ℤ) (ns : List ℕ) → IsSmall z → ok z ≡ true → Meets (next z) ns
    → Meets (signed ok next) (unsigned z ∷ ns)
meets_signed ok next z ns small holds rest =
    let P : ℤ → Type 0 = λ t. Meets (next t) ns in
    (below z small, (ap ok (round z small) ∙ holds, subst P (sym (round z small)) rest))

-- ---- groups

session_meets : (s : ℕ) (next : Format) (ns : List ℕ) → IsSession s → Meets next ns → Meets (session_fields next) (s ∷ ns)
unfolding session_fields
session_meets s next ns h rest = (omega (arith, h.high), (le-leb 1 s h.low, rest))

pub series_meets : (s : ℕ) (next : Format) (ns : List ℕ) → s < 512 → Meets next ns → Meets (series_fields next) (s ∷ ns)
unfolding series_fields
series_meets s next ns h rest = (omega (arith, h), (lt-ltb s 512 h, rest))

sides_meet : (w h : ℕ) (next : ℕ → Format) (ns : List ℕ) → IsSide w → IsSide h → Meets (next w) ns → Meets (side_fields next) (w ∷ (h ∷ ns))
unfolding side_fields side_field
sides_meet w h next ns p q rest =
    (omega (arith, p.high), (within_from 1 4096 w p.low p.high, (omega (arith, q.high), (within_from 1 4096 h q.low q.high, rest))))

window_meets : (t0 t1 : ℤ) (next : Format) (ns : List ℕ) → IsWindow t0 t1 → Meets next ns
    → Meets (window_fields next) (unsigned t0 ∷ (unsigned t1 ∷ ns))
unfolding window_fields
window_meets t0 t1 next ns h rest =
    meets_signed is_time (λ t0. signed (λ t1. is_time t1 && int_lt t0 t1) (λ t1. next)) t0 (unsigned t1 ∷ ns) h.from (le-leb _ _ h.from)
    (meets_signed (λ t1. is_time t1 && int_lt t0 t1) (λ t1. next) t1 ns h.to
    (and_from (is_time t1) (int_lt t0 t1) (le-leb _ _ h.to) (lt_from t0 t1 h.forward)) rest)

range_meets : (lo hi : ℤ) (next : Format) (ns : List ℕ) → IsRange lo hi → Meets next ns
    → Meets (range_fields next) (unsigned lo ∷ (unsigned hi ∷ ns))
unfolding range_fields
range_meets lo hi next ns h rest =
    meets_signed is_value (λ lo. signed (λ hi. is_value hi && int_le lo hi) (λ hi. next)) lo (unsigned hi ∷ ns) (value_small lo h.low)
    (le-leb _ _ h.low)
    (meets_signed (λ hi. is_value hi && int_le lo hi) (λ hi. next) hi ns (value_small hi h.high)
    (and_from (is_value hi) (int_le lo hi) (le-leb _ _ h.high) (le_from lo hi h.ordered)) rest)

slots_meets : (start : ℤ) (step slots : ℕ) (next : ℕ → Format) (ns : List ℕ) → IsAxis start step slots → Meets (next slots) ns
    → Meets (slots_field start step next) (slots ∷ ns)
unfolding slots_field
slots_meets start step slots next ns h rest = (
  omega (arith, h.limit),
  (and_from (leb slots MOST_SLOTS) (ends_in_time start step slots) (le-leb slots MOST_SLOTS h.limit) h.last, rest),
)

pub axis_meets : (start : ℤ) (step slots : ℕ) (next : ℕ → Format) (ns : List ℕ) → IsAxis start step slots → Meets (next slots) ns
    → Meets (axis_fields next) (unsigned start ∷ (step ∷ (slots ∷ ns)))
unfolding axis_fields
axis_meets start step slots next ns h rest =
    meets_signed is_value (λ start. field 4 (within 1 (2 ^ 31)) (λ step. slots_field start step next)) start (step ∷ (slots ∷ ns))
    (value_small start h.first) (le-leb _ _ h.first)
    (omega (arith, h.most), (within_from 1 (2 ^ 31) step h.least h.most, slots_meets start step slots next ns h rest))

-- there is a stored value, or none
flag_cases : (has : ℕ) → has ≤ 1 → (has ≡ 0) ⊎ (has ≡ 1)
flag_cases zero h = inl refl
flag_cases (suc zero) h = inr refl
flag_cases (suc (suc n)) h = absurd (omega arith)

has_test : (slots has : ℕ) → has ≤ 1 → (has ≡ 1 → 1 ≤ slots) → (leb has 1 && (eqb has 0 || leb 1 slots)) ≡ true
has_test slots has h some =
    and_from (leb has 1) (eqb has 0 || leb 1 slots) (le-leb has 1 h) (elim (flag_cases has h) [
      | inl none ↦ or_left (eqb has 0) (leb 1 slots) (eq-eqb has 0 none)
      | inr one ↦ or_right (eqb has 0) (leb 1 slots) (le-leb 1 slots (some one))
    ])

pub none_test : (has : ℕ) (z : ℤ) → has ≤ 1 → (has ≡ 0 → z ≡ pos 0) → (eqb has 1 || is_zero z) ≡ true
none_test has z h none = elim (flag_cases has h) [
  | inl empty ↦ or_right (eqb has 1) (is_zero z) (zero_from z (none empty))
  | inr one ↦ or_left (eqb has 1) (is_zero z) (eq-eqb has 1 one)
]

pub stored_meets : (slots has : ℕ) (rmin rmax : ℤ) (next : Format) (ns : List ℕ) → IsStored slots has rmin rmax → Meets next ns
    → Meets (stored_fields slots next) (has ∷ (unsigned rmin ∷ (unsigned rmax ∷ ns)))
unfolding stored_fields has_field rmin_field rmax_field
stored_meets slots has rmin rmax next ns h rest = (
  omega (arith, h.flag),
  (
    has_test slots has h.flag h.somewhere,
    meets_signed (λ rmin. is_value rmin && (eqb has 1 || is_zero rmin))
        (λ rmin. signed (λ rmax. is_value rmax && (int_le rmin rmax && (eqb has 1 || is_zero rmax))) (λ rmax. next)) rmin
        (unsigned rmax ∷ ns)
        (value_small rmin h.range.low) (and_from (is_value rmin) (eqb has 1 || is_zero rmin) (le-leb _ _ h.range.low)
        (none_test has rmin h.flag h.none_least))
        (meets_signed (λ rmax. is_value rmax && (int_le rmin rmax && (eqb has 1 || is_zero rmax))) (λ rmax. next) rmax ns
        (value_small rmax h.range.high)
        (and_from (is_value rmax) (int_le rmin rmax && (eqb has 1 || is_zero rmax)) (le-leb _ _ h.range.high)
        (and_from (int_le rmin rmax) (eqb has 1 || is_zero rmax) (le_from rmin rmax h.range.ordered)
        (none_test has rmax h.flag h.none_greatest))) rest),
  ),
)

count_meets : (length count : ℕ) (next : ℕ → Format) (ns : List ℕ) → count ≤ 131072 → 84 + 25 * count ≡ length → Meets (next count) ns
    → Meets (count_fields length next) (count ∷ ns)
unfolding count_fields
count_meets length count next ns most e rest = (omega (arith, most), (eq-eqb (84 + 25 * count) length e, rest))

view_meets : (v : ViewFrame) (next : ℕ → ℕ → Format) (ns : List ℕ) → FitsViewHead v → Meets (next v.slots v.count) ns
    → Meets (view_fields (84 + 25 * v.count) next) (v.session ∷ (v.series ∷ (v.w ∷ (v.h ∷ (unsigned
    v.t0 ∷ (unsigned v.t1 ∷ (unsigned v.lo ∷ (unsigned v.hi
    ∷ (unsigned v.start ∷ (v.step ∷ (v.slots ∷ (v.has ∷ (unsigned v.rmin ∷ (unsigned v.rmax ∷ (v.count ∷ ns)))))))))))))))
unfolding view_fields place_fields source_fields
view_meets v next ns h rest =
    let total = 84 + 25 * v.count in
    let counted : ℕ → Format = λ slots. stored_fields slots (count_fields total (next slots)) in
    let shown : ℕ → Format = λ w. window_fields (source_fields total next) in
    let n7 : List ℕ = v.count ∷ ns in
    let n6 : List ℕ = v.has ∷ (unsigned v.rmin ∷ (unsigned v.rmax ∷ n7)) in
    let n5 : List ℕ = unsigned v.start ∷ (v.step ∷ (v.slots ∷ n6)) in
    let n4 : List ℕ = unsigned v.lo ∷ (unsigned v.hi ∷ n5) in
    let n3 : List ℕ = unsigned v.t0 ∷ (unsigned v.t1 ∷ n4) in
    let n2 : List ℕ = v.w ∷ (v.h ∷ n3) in
    let n1 : List ℕ = v.series ∷ n2 in
    session_meets v.session (series_fields (side_fields shown)) n1 h.place.named
    (series_meets v.series (side_fields shown) n2 h.place.known
    (sides_meet v.w v.h shown n3 h.place.width h.place.height
    (window_meets v.t0 v.t1 (source_fields total next) n4 h.place.window
    (range_meets v.lo v.hi (axis_fields counted) n5 h.source.range
    (axis_meets v.start v.step v.slots counted n6 h.source.axis
    (stored_meets v.slots v.has v.rmin v.rmax (count_fields total (next v.slots)) n7 h.source.stored
    (count_meets total v.count (next v.slots) ns h.most refl rest)))))))

-- ---- coefficients

flags_by : (l r : Bool) → (l || r) ≡ true → (1 ≤ cond l 1 0 + cond r 2 0) × (cond l 1 0 + cond r 2 0 ≤ 3)
flags_by true true h = (omega arith, omega arith)
flags_by true false h = (omega arith, omega arith)
flags_by false true h = (omega arith, omega arith)
flags_by false false h = absurd cc

flags_within : (c : Coef) → IsCoef c → (1 ≤ flags_of c) × (flags_of c ≤ 3)
flags_within c h = flags_by c.left c.right h.some

single_by : (l r : Bool) (z : ℤ) → ((l && r) ≡ false → z ≡ pos 0) → (eqb (cond l 1 0 + cond r 2 0) 3 || is_zero z) ≡ true
single_by true true z h = refl
single_by true false z h = zero_from z (h refl)
single_by false true z h = zero_from z (h refl)
single_by false false z h = zero_from z (h refl)

coef_meets : (c : Coef) (next : Format) (ns : List ℕ) → IsCoef c → Meets next ns
    → Meets (coef_fields next) (flags_of c ∷ (unsigned c.dmin ∷ (unsigned c.dmax ∷ ns)))
unfolding coef_fields difference_field
coef_meets c next ns h rest =
    let flags = flags_within c h in (
      omega (arith, flags.1),
      (
        within_from 1 3 (flags_of c) flags.0 flags.1,
        meets_signed (is_difference (flags_of c)) (λ d. signed (is_difference (flags_of c)) (λ d. next)) c.dmin
            (unsigned c.dmax ∷ ns) h.least
            (and_from (is_time c.dmin) (eqb (flags_of c) 3 || is_zero c.dmin) (le-leb _ _ h.least)
            (single_by c.left c.right c.dmin h.single_least))
            (meets_signed (is_difference (flags_of c)) (λ d. next) c.dmax ns h.greatest
            (and_from (is_time c.dmax) (eqb (flags_of c) 3 || is_zero c.dmax) (le-leb _ _ h.greatest)
            (single_by c.left c.right c.dmax h.single_greatest)) rest),
      ),
    )

key_test : (slots : ℕ) (k : Key) → IsNode (height slots) k → is_key slots (key_number k) ≡ true
key_test slots k node =
    let fits = index_bound slots k node in
    let P : ℕ → ℕ → Type 0 = λ level index. (within 1 (height slots) level && ltb index (2 ^ (height slots - level))) ≡ true in
    let plain : P k.level k.index = and_from (within 1 (height slots) k.level) (ltb k.index (2 ^ (height slots - k.level)))
    (within_from 1 (height slots) k.level node.low node.high) (lt-ltb k.index (2 ^ (height slots - k.level)) node.within) in
    let Q : ℕ → Type 0 = λ level. P level k.index in
    let R : ℕ → Type 0 = λ index. P (level_of (key_number k)) index in
    subst R (sym (index_of-number k fits)) (subst Q (sym (level_of-number k fits)) plain)

key_below : (slots : ℕ) (k : Key) → IsNode (height slots) k → key_number k < 256 ^ 8
key_below slots k node = omega (arith, index_bound slots k node, height_bound slots, node.high)

follows_by : (a b c d a' b' c' d' : ℕ) → a ≡ a' → b ≡ b' → c ≡ c' → d ≡ d' → (a' < b') ⊎ ((a' ≡ b') × (c' < d'))
    → (ltb a b || (eqb a b && ltb c d)) ≡ true
follows_by a b c d a' b' c' d' e f g h (inl lower) = or_left (ltb a b) (eqb a b && ltb c d) (lt-ltb a b (omega (arith, lower, e, f)))
follows_by a b c d a' b' c' d' e f g h (inr same) =
    or_right (ltb a b) (eqb a b && ltb c d) (and_from (eqb a b) (ltb c d) (eq-eqb a b (omega (arith, same.0, e, f)))
    (lt-ltb c d (omega (arith, same.1, g, h))))

-- the numbers of keys in order come in order
follows_from : (slots : ℕ) (a b : Key × Coef) → FitsCoef slots a → FitsCoef slots b → Precedes a b
    → follows (Some (key_number a.0)) (key_number b.0) ≡ true
follows_from slots a b p q order =
    let below_a = index_bound slots a.0 p.key in
    let below_b = index_bound slots b.0 q.key in
    follows_by (level_of (key_number b.0)) (level_of (key_number a.0)) (index_of (key_number a.0))
    (index_of (key_number b.0)) b.0.level a.0.level a.0.index b.0.index
    (level_of-number b.0 below_b) (level_of-number a.0 below_a) (index_of-number a.0 below_a) (index_of-number b.0 below_b) order

-- each coefficient fits, and comes behind the one before
abbrev Chain : ℕ → Option ℕ → List (Key × Coef) → Type 0
Chain slots last [] = Unit {0}
Chain slots last (e ∷ es) = FitsCoef slots e × (IsTrue (follows last (key_number e.0)) × Chain slots (Some (key_number e.0)) es)

abbrev last_from : Option ℕ → List (Key × Coef) → Option ℕ
last_from last [] = last
last_from last (e ∷ es) = last_from (Some (key_number e.0)) es

FitCoefs-tail : (slots : ℕ) (e : Key × Coef) (es : List (Key × Coef)) → FitCoefs slots (e ∷ es) → FitCoefs slots es
FitCoefs-tail slots e es fit = record {
  each = λ k d lt. fit.each (suc k) d (omega arith);
  order = λ i j d lt end. fit.order (suc i) (suc j) d (omega arith) (omega arith);
}

chain_behind : (slots : ℕ) (e : Key × Coef) (es : List (Key × Coef)) → FitCoefs slots (e ∷ es) → Chain slots (Some (key_number e.0)) es
chain_behind slots e [] fit = tt
chain_behind slots e (d ∷ ds) fit =
    let first : FitsCoef slots e = fit.each 0 e (omega arith) in
    let second : FitsCoef slots d = fit.each 1 e (omega arith) in
    let order : Precedes e d = fit.order 0 1 e (omega arith) (omega arith) in
    (second, (follows_from slots e d first second order, chain_behind slots d ds (FitCoefs-tail slots e (d ∷ ds) fit)))

chain_of : (slots : ℕ) (coefs : List (Key × Coef)) → FitCoefs slots coefs → Chain slots None coefs
chain_of slots [] fit = tt
chain_of slots (e ∷ es) fit = (fit.each 0 e (omega arith), (refl, chain_behind slots e es fit))

last_behind : (e : Key × Coef) (es : List (Key × Coef)) → last_from (Some (key_number e.0)) es ≡ last_key (e ∷ es)
last_behind e [] = refl
last_behind e (d ∷ ds) =
    let k : length (e ∷ (d ∷ ds)) - 1 ≡ suc (length (d ∷ ds) - 1) = omega arith in
    last_behind d ds ∙ ap (λ (i : ℕ). option_map (λ (a : Key × Coef). key_number a.0) (slice_get (e ∷ (d ∷ ds)) i)) (sym k)

last_of : (coefs : List (Key × Coef)) → last_from None coefs ≡ last_key coefs
last_of [] = refl
last_of (e ∷ es) = last_behind e es

chain_meets : (slots : ℕ) (last : Option ℕ) (coefs : List (Key × Coef)) (count : ℕ) → Chain slots last coefs → length coefs ≤ count
    → Meets (coefs_fields slots last count) (coefs_numbers coefs)
unfolding coefs_fields key_field
chain_meets slots last [] count chain room = tt
chain_meets slots last (e ∷ es) zero chain room = absurd (omega arith)
chain_meets slots last (e ∷ es) (suc count) chain room = (
  key_below slots e.0 chain.0.key,
  (
    and_from (is_key slots (key_number e.0)) (follows last (key_number e.0)) (key_test slots e.0 chain.0.key) chain.1.0,
    coef_meets e.1 (coefs_fields slots (Some (key_number e.0)) count) (coefs_numbers es) chain.0.coef
        (chain_meets slots (Some (key_number e.0)) es count chain.1.1 (omega arith)),
  ),
)

chain_after : (slots : ℕ) (last : Option ℕ) (coefs : List (Key × Coef)) (count : ℕ) → length coefs ≤ count
    → after (coefs_fields slots last count) (coefs_numbers coefs) ≡ coefs_fields slots (last_from last coefs) (count - length coefs)
unfolding coefs_fields key_field coef_fields difference_field
chain_after slots last [] count room = let e : count ≡ count - 0 = omega arith in ap (coefs_fields slots last) e
chain_after slots last (e ∷ es) zero room = absurd (omega arith)
chain_after slots last (e ∷ es) (suc count) room =
    let k : count - length es ≡ suc count - suc (length es) = omega arith in
    chain_after slots (Some (key_number e.0)) es count (omega arith) ∙ ap (coefs_fields slots (last_from (Some (key_number e.0)) es)) k

-- ---- a view

view_length_test : (count : ℕ) → count ≤ 131072 → is_view_length (84 + 25 * count) ≡ true
view_length_test count most =
    let rest : 84 + 25 * count - 84 ≡ 25 * count = omega arith in
    and_from (leb 84 (84 + 25 * count)) (eqb ((84 + 25 * count - 84) % 25) 0
    && leb ((84 + 25 * count - 84) / 25) 131072) (le-leb 84 (84 + 25 * count) (omega arith))
    (and_from (eqb ((84 + 25 * count - 84) % 25) 0) (leb ((84 + 25 * count - 84) / 25) 131072)
    (eq-eqb ((84 + 25 * count - 84) % 25) 0 (omega arith)) (le-leb ((84 + 25 * count - 84) / 25) 131072 (omega arith)))

length_of_view : (length : ℕ) → is_view_length length ≡ true → is_length length ≡ true
length_of_view length h =
    or_right (eqb length 5) _ (or_right (eqb length 6) _
    (or_right (eqb length 9) _ (or_right (eqb length 18) _
    (or_left (is_view_length length) (is_rows_length length || is_report_length length) h))))

-- a view up to some of its coefficients
pub view_numbers_meet : (v : ViewFrame) (coefs : List (Key × Coef)) → FitsViewHead v → FitCoefs v.slots coefs → length coefs ≤ v.count
    → Meets frame_fields (view_numbers v coefs)
unfolding frame_fields length_field kind_field kind_fields admits
view_numbers_meet v coefs head fit room =
    let long = view_length_test v.count head.most in (
      omega (arith, head.most),
      (
        length_of_view (84 + 25 * v.count) long,
        (
          omega arith,
          (
            long,
            view_meets v (λ slots count. coefs_fields slots None count) (coefs_numbers coefs) head
                (chain_meets v.slots None coefs v.count (chain_of v.slots coefs fit) room),
          ),
        ),
      ),
    )

pub view_numbers_after : (v : ViewFrame) (coefs : List (Key × Coef)) → length coefs ≤ v.count
    → after frame_fields (view_numbers v coefs) ≡ coefs_fields v.slots (last_key coefs) (v.count - length coefs)
unfolding frame_fields length_field kind_field kind_fields view_fields place_fields source_fields session_fields series_fields side_fields
    side_field window_fields range_fields axis_fields slots_field stored_fields has_field rmin_field rmax_field count_fields
view_numbers_after v coefs room =
    chain_after v.slots None coefs v.count room ∙ ap (λ (last : Option ℕ). coefs_fields v.slots last (v.count - length coefs))
    (last_of coefs)

-- ---- rows

row_meets : (w : ℕ) (r : Row) (next : Format) (ns : List ℕ) → FitsRow w r → Meets next ns
    → Meets (row_fields next) (unsigned r.first ∷ (unsigned r.least ∷ (unsigned r.greatest ∷ (unsigned r.last ∷ ns))))
unfolding row_fields value_field at_most_field at_least_field between_field
row_meets w r next ns h rest =
    meets_signed is_value (λ first. signed (λ v. is_value v
    && int_le v first) (λ least. signed (λ v. is_value v
    && int_le first v) (λ greatest. signed (λ v. is_value v && (int_le least v && int_le v greatest)) (λ v. next))))
    r.first (unsigned r.least ∷ (unsigned r.greatest ∷ (unsigned r.last ∷ ns))) (value_small r.first h.first) (le-leb _ _ h.first)
    (meets_signed (λ v. is_value v && int_le v r.first)
    (λ least. signed (λ v. is_value v && int_le r.first v)
    (λ greatest. signed (λ v. is_value v && (int_le least v && int_le v greatest)) (λ v. next)))
    r.least (unsigned r.greatest ∷ (unsigned r.last ∷ ns)) (value_small r.least h.least)
    (and_from (is_value r.least) (int_le r.least r.first) (le-leb _ _ h.least) (le_from r.least r.first h.order.least_first))
    (meets_signed (λ v. is_value v && int_le r.first v)
    (λ greatest. signed (λ v. is_value v && (int_le r.least v && int_le v greatest)) (λ v. next))
    r.greatest (unsigned r.last ∷ ns) (value_small r.greatest h.greatest)
    (and_from (is_value r.greatest) (int_le r.first r.greatest) (le-leb _ _ h.greatest)
    (le_from r.first r.greatest h.order.first_greatest))
    (meets_signed (λ v. is_value v && (int_le r.least v && int_le v r.greatest)) (λ v. next) r.last ns (value_small r.last h.last)
    (and_from (is_value r.last) (int_le r.least r.last && int_le r.last r.greatest) (le-leb _ _ h.last)
    (and_from (int_le r.least r.last) (int_le r.last r.greatest) (le_from r.least r.last h.order.least_last)
    (le_from r.last r.greatest h.order.last_greatest))) rest)))

abbrev RowChain : ℕ → Option ℕ → List Row → Type 0
RowChain w last [] = Unit {0}
RowChain w last (r ∷ rs) = FitsRow w r × (IsTrue (rises last r.column) × RowChain w (Some r.column) rs)

abbrev last_row_from : Option ℕ → List Row → Option ℕ
last_row_from last [] = last
last_row_from last (r ∷ rs) = last_row_from (Some r.column) rs

FitRows-tail : (w : ℕ) (r : Row) (rs : List Row) → FitRows w (r ∷ rs) → FitRows w rs
FitRows-tail w r rs fit = record {
  each = λ k d lt. fit.each (suc k) d (omega arith);
  order = λ i j d lt end. fit.order (suc i) (suc j) d (omega arith) (omega arith);
}

rows_behind : (w : ℕ) (r : Row) (rs : List Row) → FitRows w (r ∷ rs) → RowChain w (Some r.column) rs
rows_behind w r [] fit = tt
rows_behind w r (s ∷ rs) fit =
    let order : r.column < s.column = fit.order 0 1 r (omega arith) (omega arith) in
    (fit.each 1 r (omega arith), (lt-ltb r.column s.column order, rows_behind w s rs (FitRows-tail w r (s ∷ rs) fit)))

rows_chain_of : (w : ℕ) (rows : List Row) → FitRows w rows → RowChain w None rows
rows_chain_of w [] fit = tt
rows_chain_of w (r ∷ rs) fit = (fit.each 0 r (omega arith), (refl, rows_behind w r rs fit))

last_row_behind : (r : Row) (rs : List Row) → last_row_from (Some r.column) rs ≡ last_column (r ∷ rs)
last_row_behind r [] = refl
last_row_behind r (s ∷ rs) =
    let k : length (r ∷ (s ∷ rs)) - 1 ≡ suc (length (s ∷ rs) - 1) = omega arith in
    last_row_behind s rs ∙ ap (λ (i : ℕ). option_map (λ (a : Row). a.column) (slice_get (r ∷ (s ∷ rs)) i)) (sym k)

last_row_of : (rows : List Row) → last_row_from None rows ≡ last_column rows
last_row_of [] = refl
last_row_of (r ∷ rs) = last_row_behind r rs

rows_meet : (w : ℕ) (last : Option ℕ) (rows : List Row) (count : ℕ) → w ≤ 4096 → RowChain w last rows → length rows ≤ count
    → Meets (rows_fields w last count) (all_rows_numbers rows)
unfolding rows_fields column_field
rows_meet w last [] count wide chain room = tt
rows_meet w last (r ∷ rs) zero wide chain room = absurd (omega arith)
rows_meet w last (r ∷ rs) (suc count) wide chain room = (
  omega (arith, chain.0.column, wide),
  (
    and_from (ltb r.column w) (rises last r.column) (lt-ltb r.column w chain.0.column) chain.1.0,
    row_meets w r (rows_fields w (Some r.column) count) (all_rows_numbers rs) chain.0
        (rows_meet w (Some r.column) rs count wide chain.1.1 (omega arith)),
  ),
)

rows_after : (w : ℕ) (last : Option ℕ) (rows : List Row) (count : ℕ) → length rows ≤ count
    → after (rows_fields w last count) (all_rows_numbers rows) ≡ rows_fields w (last_row_from last rows) (count - length rows)
unfolding rows_fields column_field row_fields value_field at_most_field at_least_field between_field
rows_after w last [] count room = let e : count ≡ count - 0 = omega arith in ap (rows_fields w last) e
rows_after w last (r ∷ rs) zero room = absurd (omega arith)
rows_after w last (r ∷ rs) (suc count) room =
    let k : count - length rs ≡ suc count - suc (length rs) = omega arith in
    rows_after w (Some r.column) rs count (omega arith) ∙ ap (rows_fields w (last_row_from (Some r.column) rs)) k

rows_length_test : (count : ℕ) → count ≤ 4096 → is_rows_length (27 + 34 * count) ≡ true
rows_length_test count most =
    and_from (leb 27 (27 + 34 * count)) (eqb ((27 + 34 * count - 27) % 34) 0
    && leb ((27 + 34 * count - 27) / 34) 4096) (le-leb 27 (27 + 34 * count) (omega arith))
    (and_from (eqb ((27 + 34 * count - 27) % 34) 0) (leb ((27 + 34 * count - 27) / 34) 4096)
    (eq-eqb ((27 + 34 * count - 27) % 34) 0 (omega arith)) (le-leb ((27 + 34 * count - 27) / 34) 4096 (omega arith)))

length_of_rows : (length : ℕ) → is_rows_length length ≡ true → is_length length ≡ true
length_of_rows length h =
    or_right (eqb length 5) _ (or_right (eqb length 6) _ (or_right (eqb length 9) _ (or_right (eqb length 18) _
    (or_right (is_view_length length) (is_rows_length length || is_report_length length)
    (or_left (is_rows_length length) (is_report_length length) h)))))

pub length_of_report : (length : ℕ) → is_report_length length ≡ true → is_length length ≡ true
length_of_report length h =
    or_right (eqb length 5) _ (or_right (eqb length 6) _ (or_right (eqb length 9) _ (or_right (eqb length 18) _
    (or_right (is_view_length length) (is_rows_length length || is_report_length length)
    (or_right (is_rows_length length) (is_report_length length) h)))))

head_meets : (r : RowsFrame) (next : ℕ → ℕ → Format) (ns : List ℕ) → FitsRowsHead r → Meets (next r.w r.count) ns
    → Meets (head_fields (27 + 34 * r.count) next) (r.session ∷ (r.w ∷ (r.h ∷ (unsigned r.lo ∷ (unsigned r.hi ∷ (r.count ∷ ns))))))
unfolding head_fields row_count_fields
head_meets r next ns h rest =
    let total = 27 + 34 * r.count in
    let counted : ℕ → Format = λ w. range_fields (row_count_fields total w (next w)) in
    let counting : Meets (row_count_fields total r.w (next r.w)) (r.count ∷ ns) = (
      omega (arith, h.most, h.width.high),
      (and_from (leb r.count r.w) (eqb total total) (le-leb r.count r.w h.most) (eq-eqb total total refl), rest),
    ) in
    session_meets r.session (side_fields counted) (r.w ∷ (r.h ∷ (unsigned r.lo ∷ (unsigned r.hi ∷ (r.count ∷ ns))))) h.session
    (sides_meet r.w r.h counted (unsigned r.lo ∷ (unsigned r.hi ∷ (r.count ∷ ns))) h.width h.height
    (range_meets r.lo r.hi (row_count_fields total r.w (next r.w)) (r.count ∷ ns) h.range counting))

-- rows up to some of them
pub rows_numbers_meet : (r : RowsFrame) (rows : List Row) → FitsRowsHead r → FitRows r.w rows → length rows ≤ r.count
    → Meets frame_fields (rows_numbers r rows)
unfolding frame_fields length_field kind_field kind_fields admits
rows_numbers_meet r rows head fit room =
    let long = rows_length_test r.count (omega (arith, head.most, head.width.high)) in (
      omega (arith, head.most, head.width.high),
      (
        length_of_rows (27 + 34 * r.count) long,
        (
          omega arith,
          (
            long,
            head_meets r (λ w count. rows_fields w None count) (all_rows_numbers rows) head
                (rows_meet r.w None rows r.count head.width.high (rows_chain_of r.w rows fit) room),
          ),
        ),
      ),
    )

pub rows_numbers_after : (r : RowsFrame) (rows : List Row) → length rows ≤ r.count
    → after frame_fields (rows_numbers r rows) ≡ rows_fields r.w (last_column rows) (r.count - length rows)
unfolding frame_fields length_field kind_field kind_fields head_fields session_fields side_fields side_field range_fields row_count_fields
rows_numbers_after r rows room =
    rows_after r.w None rows r.count room ∙ ap (λ (last : Option ℕ). rows_fields r.w last (r.count - length rows)) (last_row_of rows)

-- ---- frames without items

pub done_meets : (slots : ℕ) → slots ≤ MOST_SLOTS → Meets frame_fields (9 ∷ (1 ∷ (slots ∷ [])))
unfolding frame_fields length_field kind_field kind_fields admits done_fields
done_meets slots h = (omega arith, (refl, (omega arith, (refl, (omega arith, (le-leb slots MOST_SLOTS h, tt))))))

named_test : (named : Bool) (n : ℕ) → (named ≡ false → n ≡ 0) → (named || eqb n 0) ≡ true
named_test true n h = refl
named_test false n h = eq-eqb n 0 (h refl)

pub refused_meets : (number a b : ℕ) → FitsRefused number a b → Meets frame_fields (18 ∷ (2 ∷ (number ∷ (a ∷ (b ∷ [])))))
unfolding frame_fields length_field kind_field kind_fields admits refused_fields
refused_meets number a b h = (
  omega arith,
  (
    refl,
    (
      omega arith,
      (
        refl,
        (
          omega (arith, h.high),
          (
            within_from 1 SUM_TOO_LARGE number h.low h.high,
            (
              omega (arith, h.first),
              (
                named_test (names_first number) a h.no_first,
                (omega (arith, h.second), (named_test (names_second number) b h.no_second, tt)),
              ),
            ),
          ),
        ),
      ),
    ),
  ),
)

pub opened_meets : (session cache : ℕ) → FitsOpened session cache → Meets frame_fields (9 ∷ (3 ∷ (session ∷ (cache ∷ []))))
unfolding frame_fields length_field kind_field kind_fields admits opened_fields
opened_meets session cache h =
    let room : Format = field 4 (within 1 131072) (λ cache. stop) in
    let cached : Meets room (cache ∷ []) = (omega (arith, h.high), (within_from 1 131072 cache h.low h.high, tt)) in
    (omega arith, (refl, (omega arith, (refl, session_meets session room (cache ∷ []) h.named cached))))

pub closed_meets : (session : ℕ) → IsSession session → Meets frame_fields (5 ∷ (4 ∷ (session ∷ [])))
unfolding frame_fields length_field kind_field kind_fields admits
closed_meets session h = (omega arith, (refl, (omega arith, (refl, session_meets session stop [] h tt))))

pub flag_meets : (on : Bool) → Meets (flag_fields stop) (number_of_flag on ∷ [])
unfolding flag_fields
flag_meets true = (omega arith, (refl, tt))
flag_meets false = (omega arith, (refl, tt))

pub live_meets : (session : ℕ) (on : Bool) → IsSession session → Meets frame_fields (6 ∷ (7 ∷ (session ∷ (number_of_flag on ∷ []))))
unfolding frame_fields length_field kind_field kind_fields admits live_fields
live_meets session on h =
    (omega arith, (refl, (omega arith, (refl, session_meets session (flag_fields stop) (number_of_flag on ∷ []) h (flag_meets on)))))
