use Rattle.std.proofs.Common.{ℤ, pos, ◌≡◌, ◌+ℤ◌, ◌-ℤ◌, ◌⊎◌, inl, inr, Bool, true, false, cond, ◌&&◌, refl, sym, ◌∙◌, ap, ap₂, subst, arith}
use Rattle.std.proofs.lemmas.Int.{ints, clamps}
use Rattle.std.proofs.lemmas.Option.{same_Some, cond_some}
use Rattle.std.proofs.lemmas.Result.{IfOk-weaker}
use Rattle.std.proofs.lemmas.Bool.Decides.{nat_tests}
use Rattle.std.specs.Prelude.{Option, Some, None, is_some, IsErr, IfOk, Result, Ok, ok_or, int_le}
use Rattle.std.specs.Int.{int_min, int_max}
use Rattle.whole_number.specs.Range.{IsValue}
use Rattle.om3_coeff.specs.declared.span.Span.{Span}
use Rattle.om3_coeff.specs.declared.coef.Coef.{Coef}
use Rattle.om3_coeff.specs.Spans.{IsProper, IsProperIfAny, is_proper, hull}
use Rattle.om3_coeff.specs.Coefs.{coef_of, left_part, right_part, IsFlat, IsBadFor, IsBad, if_proper, proper_only, is_flat, parts_by, parts}

-- the test says what the relation says
pub proper_true : (s : Span) → IsProper s → is_proper s ≡ true
unfolding is_proper
proper_true s h = grind (arith, ints, nat_tests, h.ordered, h.low, h.high)

pub proper_is : (s : Span) → is_proper s ≡ true → IsProper s
unfolding is_proper
proper_is s e = record {
  ordered = grind (arith, ints, nat_tests);
  low = grind (arith, ints, nat_tests);
  high = grind (arith, ints, nat_tests);
}

pub flat_true : (c : Coef) → IsFlat c → is_flat c ≡ true
flat_true c h = grind (arith, ints, nat_tests, h.0, h.1)

pub flat_is : (c : Coef) → is_flat c ≡ true → IsFlat c
flat_is c e = (grind (arith, ints, nat_tests), grind (arith, ints, nat_tests))

-- the least values of joined spans are recovered
left_min : (a b : ℤ) → cond (int_le (a -ℤ b) (pos 0)) (int_min a b) (int_min a b +ℤ (a -ℤ b)) ≡ a
left_min a b = grind (arith, ints)

right_min : (a b : ℤ) → cond (int_le (a -ℤ b) (pos 0)) (int_min a b -ℤ (a -ℤ b)) (int_min a b) ≡ b
right_min a b = grind (arith, ints)

left_max : (a b : ℤ) → cond (int_le (pos 0) (a -ℤ b)) (int_max a b) (int_max a b +ℤ (a -ℤ b)) ≡ a
left_max a b = grind (arith, ints)

right_max : (a b : ℤ) → cond (int_le (pos 0) (a -ℤ b)) (int_max a b -ℤ (a -ℤ b)) (int_max a b) ≡ b
right_max a b = grind (arith, ints)

both_true : (a b : Bool) → a && b ≡ true → (a ≡ true) × (b ≡ true)
both_true true b e = (refl, e)
both_true false b e = absurd (cc)

one_false : (a b : Bool) → a && b ≡ false → (a ≡ false) ⊎ (b ≡ false)
one_false true b e = inr e
one_false false b e = inl refl

false_by : (a b : Bool) → (a ≡ false) ⊎ (b ≡ false) → a && b ≡ false
false_by true b h = elim h [ inl e ↦ absurd (cc) | inr e ↦ e ]
false_by false b h = refl

not_both : (a : Bool) → a ≡ true → a ≡ false → ⊥
not_both a t f = cc

is_false : (a : Bool) → (a ≡ true → ⊥) → a ≡ false
is_false true h = absurd (h refl)
is_false false h = refl

span_is : (s : Span) (min max : ℤ) → min ≡ s.min → max ≡ s.max → (let t : Span = record { min = min; max = max } in t) ≡ s
span_is s min max e f = ap₂ (λ (min max : ℤ). let t : Span = record { min = min; max = max } in t) e f

coef_is : (c : Coef) (left right : Bool) (dmin dmax : ℤ) → left ≡ c.left → right ≡ c.right → dmin ≡ c.dmin → dmax ≡ c.dmax
    → (let t : Coef = record { left = left; right = right; dmin = dmin; dmax = dmax } in t) ≡ c
coef_is c left right dmin dmax e f g h =
    ap₂ (λ (left right : Bool). let t : Coef = record { left = left; right = right; dmin = dmin; dmax = dmax } in t) e f
    ∙ ap₂ (λ (dmin dmax : ℤ). let t : Coef = record { left = c.left; right = c.right; dmin = dmin; dmax = dmax } in t) g h

if_both : (l r s t : Span) → IsProper l → IsProper r → s ≡ l → t ≡ r → if_proper s t ≡ Some (Some l, Some r)
if_both l r s t pl pr e f =
    ap₂ if_proper e f ∙ ap (λ b. cond b (Some (let p : Option Span × Option Span = (Some l, Some r) in p)) None)
    (ap₂ (λ a b. a && b) (proper_true l pl) (proper_true r pr))

-- the joined spans are split into the two that made them
pub parts_joined : (left right : Option Span) (s : Span) → IsProperIfAny left → IsProperIfAny right → hull left right ≡ Some s
    → parts s (coef_of left right) ≡ Some (left, right)
unfolding parts
parts_joined None None s pl pr e = absurd (cc)
parts_joined (Some l) None s pl pr e =
    let pair : Option Span × Option Span = (Some l, None) in
    let P : Span → Type 0 = λ t. parts t (coef_of (Some l) None) ≡ Some pair in
    subst P (same_Some l s e) (ap (λ b. cond b (Some pair) None) (proper_true l pl))
parts_joined None (Some r) s pl pr e =
    let pair : Option Span × Option Span = (None, Some r) in
    let P : Span → Type 0 = λ t. parts t (coef_of None (Some r)) ≡ Some pair in
    subst P (same_Some r s e) (ap (λ b. cond b (Some pair) None) (proper_true r pr))
parts_joined (Some l) (Some r) s pl pr e =
    let whole : Span = record { min = int_min l.min r.min; max = int_max l.max r.max } in
    let pair : Option Span × Option Span = (Some l, Some r) in
    let P : Span → Type 0 = λ t. parts t (coef_of (Some l) (Some r)) ≡ Some pair in
    subst P (same_Some whole s e)
    (if_both l r (left_part whole (coef_of (Some l) (Some r))) (right_part whole (coef_of (Some l) (Some r))) pl pr
    (span_is l _ _ (left_min l.min r.min) (left_max l.max r.max))
    (span_is r _ _ (right_min l.min r.min) (right_max l.max r.max)))

-- what a split gives: proper spans that join to what was split
pub record AreParts (s : Span) (c : Coef) (left right : Option Span) : Type 0 where
  pub left_proper : IsProperIfAny left
  pub right_proper : IsProperIfAny right
  pub whole : hull left right ≡ Some s
  pub coef : coef_of left right ≡ c

parts_of_pair : (s : Span) (c : Coef) (a b left right : Option Span)
    → Some (let p : Option Span × Option Span = (a, b) in p) ≡ Some (left, right)
    → AreParts s c a b → AreParts s c left right
parts_of_pair s c a b left right e h =
    let pair : (let p : Option Span × Option Span = (a, b) in p) ≡ (left, right) = same_Some _ _ e in
    let P : Option Span × Option Span → Type 0 = λ p. AreParts s c p.0 p.1 in
    subst P pair h

min_again : (m d : ℤ) → int_min (cond (int_le d (pos 0)) m (m +ℤ d)) (cond (int_le d (pos 0)) (m -ℤ d) m) ≡ m
min_again m d = grind (arith, ints)

max_again : (m d : ℤ) → int_max (cond (int_le (pos 0) d) m (m +ℤ d)) (cond (int_le (pos 0) d) (m -ℤ d) m) ≡ m
max_again m d = grind (arith, ints)

min_apart : (m d : ℤ) → cond (int_le d (pos 0)) m (m +ℤ d) -ℤ cond (int_le d (pos 0)) (m -ℤ d) m ≡ d
min_apart m d = grind (arith, ints)

max_apart : (m d : ℤ) → cond (int_le (pos 0) d) m (m +ℤ d) -ℤ cond (int_le (pos 0) d) (m -ℤ d) m ≡ d
max_apart m d = grind (arith, ints)

by_parts : (left_flag right_flag : Bool) (s : Span) (c : Coef) (left right : Option Span) → c.left ≡ left_flag → c.right ≡ right_flag
    → parts_by left_flag right_flag s c ≡ Some (left, right) → AreParts s c left right
by_parts false false s c left right el er e = absurd (cc)
by_parts true false s c left right el er e =
    let pair : Option Span × Option Span = (Some s, None) in
    let h : (is_flat c && is_proper s ≡ true) × (pair ≡ (left, right)) = cond_some (is_flat c && is_proper s) pair (left, right) e in
    let good : (is_flat c ≡ true) × (is_proper s ≡ true) = both_true (is_flat c) (is_proper s) h.0 in
    let flat : IsFlat c = flat_is c good.0 in
    parts_of_pair s c (Some s) None left right (ap (λ p. Some p) h.1) (record {
      left_proper = proper_is s good.1;
      right_proper = tt;
      whole = refl;
      coef = coef_is c true false (pos 0) (pos 0) (sym el) (sym er) (sym flat.0) (sym flat.1);
    })
by_parts false true s c left right el er e =
    let pair : Option Span × Option Span = (None, Some s) in
    let h : (is_flat c && is_proper s ≡ true) × (pair ≡ (left, right)) = cond_some (is_flat c && is_proper s) pair (left, right) e in
    let good : (is_flat c ≡ true) × (is_proper s ≡ true) = both_true (is_flat c) (is_proper s) h.0 in
    let flat : IsFlat c = flat_is c good.0 in
    parts_of_pair s c None (Some s) left right (ap (λ p. Some p) h.1) (record {
      left_proper = tt;
      right_proper = proper_is s good.1;
      whole = refl;
      coef = coef_is c false true (pos 0) (pos 0) (sym el) (sym er) (sym flat.0) (sym flat.1);
    })
by_parts true true s c left right el er e =
    let pair : Option Span × Option Span = (Some (left_part s c), Some (right_part s c)) in
    let test : Bool = is_proper (left_part s c) && is_proper (right_part s c) in
    let h : (test ≡ true) × (pair ≡ (left, right)) = cond_some test pair (left, right) e in
    let good : (is_proper (left_part s c) ≡ true) × (is_proper (right_part s c) ≡ true) = both_true (is_proper (left_part s c))
    (is_proper (right_part s c)) h.0 in
    parts_of_pair s c (Some (left_part s c)) (Some (right_part s c)) left right (ap (λ p. Some p) h.1) (record {
      left_proper = proper_is (left_part s c) good.0;
      right_proper = proper_is (right_part s c) good.1;
      whole = ap (λ t. Some t) (span_is s _ _ (min_again s.min c.dmin) (max_again s.max c.dmax));
      coef = coef_is c true true _ _ (sym el) (sym er) (min_apart s.min c.dmin) (max_apart s.max c.dmax);
    })

pub parts_are : (s : Span) (c : Coef) (left right : Option Span) → parts s c ≡ Some (left, right) → AreParts s c left right
unfolding parts
parts_are s c left right e = by_parts c.left c.right s c left right refl refl e

-- where a coefficient splits no span
none_cond : (b : Bool) (p : Option Span × Option Span) → cond b (Some p) None ≡ None → b ≡ false
none_cond true p e = absurd (cc)
none_cond false p e = refl

no_parts_by : (left right : Bool) (s : Span) (c : Coef) → parts_by left right s c ≡ None → IsBadFor left right s c
no_parts_by false false s c e = tt
no_parts_by true false s c e =
    elim (one_false (is_flat c) (is_proper s) (none_cond (is_flat c && is_proper s) (Some s, None) e)) [
      | inl f ↦ inl (λ flat. not_both (is_flat c) (flat_true c flat) f)
      | inr f ↦ inr (λ proper. not_both (is_proper s) (proper_true s proper) f)
    ]
no_parts_by false true s c e =
    elim (one_false (is_flat c) (is_proper s) (none_cond (is_flat c && is_proper s) (None, Some s) e)) [
      | inl f ↦ inl (λ flat. not_both (is_flat c) (flat_true c flat) f)
      | inr f ↦ inr (λ proper. not_both (is_proper s) (proper_true s proper) f)
    ]
no_parts_by true true s c e =
    let l : Span = left_part s c in
    let r : Span = right_part s c in
    elim (one_false (is_proper l) (is_proper r) (none_cond (is_proper l && is_proper r) (Some l, Some r) e)) [
      | inl f ↦ inl (λ proper. not_both (is_proper l) (proper_true l proper) f)
      | inr f ↦ inr (λ proper. not_both (is_proper r) (proper_true r proper) f)
    ]

cond_none : (b : Bool) (p : Option Span × Option Span) → b ≡ false → cond b (Some p) None ≡ None
cond_none b p e = ap (λ b. cond b (Some p) None) e

bad_by : (left right : Bool) (s : Span) (c : Coef) → IsBadFor left right s c → parts_by left right s c ≡ None
bad_by false false s c h = refl
bad_by true false s c h =
    cond_none (is_flat c && is_proper s) (Some s, None) (false_by (is_flat c) (is_proper s)
    (elim h [
      | inl f ↦ inl (is_false (is_flat c) (λ t. f (flat_is c t)))
      | inr f ↦ inr (is_false (is_proper s) (λ t. f (proper_is s t)))
    ]))
bad_by false true s c h =
    cond_none (is_flat c && is_proper s) (None, Some s) (false_by (is_flat c) (is_proper s)
    (elim h [
      | inl f ↦ inl (is_false (is_flat c) (λ t. f (flat_is c t)))
      | inr f ↦ inr (is_false (is_proper s) (λ t. f (proper_is s t)))
    ]))
bad_by true true s c h =
    let l : Span = left_part s c in
    let r : Span = right_part s c in
    cond_none (is_proper l && is_proper r) (Some l, Some r) (false_by (is_proper l) (is_proper r)
    (elim h [
      | inl f ↦ inl (is_false (is_proper l) (λ t. f (proper_is l t)))
      | inr f ↦ inr (is_false (is_proper r) (λ t. f (proper_is r t)))
    ]))

pub no_parts : (s : Span) (c : Coef) → parts s c ≡ None → IsBad s c
unfolding parts
no_parts s c e = no_parts_by c.left c.right s c e

pub bad_parts : (s : Span) (c : Coef) → IsBad s c → parts s c ≡ None
unfolding parts
bad_parts s c h = bad_by c.left c.right s c h

-- the hull of proper spans is proper
pub hull-proper : (left right : Option Span) → IsProperIfAny left → IsProperIfAny right → IsProperIfAny (hull left right)
hull-proper None right pl pr = pr
hull-proper (Some l) None pl pr = pl
hull-proper (Some l) (Some r) pl pr = record {
  ordered = omega (arith, ints, clamps, pl.ordered, pr.ordered);
  low = grind (arith, ints, pl.low, pr.low);
  high = grind (arith, ints, pl.high, pr.high);
}

-- a span whose ends are those of another one, where either is a value
module _ (s t : Span) (low : IsValue s.min → s.min ≡ t.min) (low_back : IsValue t.min → s.min ≡ t.min)
    (high : IsValue s.max → s.max ≡ t.max) (high_back : IsValue t.max → s.max ≡ t.max) where
  same_from : IsProper s → s ≡ t
  same_from p = span_is t s.min s.max (low p.low) (high p.high)

  same_back : IsProper t → s ≡ t
  same_back q = span_is t s.min s.max (low_back q.low) (high_back q.high)

  none_of : (b : Bool) → is_proper t ≡ b → is_proper s ≡ false → cond false (Some s) None ≡ cond b (Some t) None
  none_of true e f = absurd (not_both (is_proper s) (ap is_proper (same_back (proper_is t e)) ∙ e) f)
  none_of false e f = refl

  proper_alike : (b : Bool) → is_proper s ≡ b → cond b (Some s) None ≡ proper_only t
  proper_alike true e = ap₂ (λ (a : Bool) (x : Span). cond a (Some x) None) (sym e
      ∙ ap is_proper (same_from (proper_is s e))) (same_from (proper_is s e))
  proper_alike false e = none_of (is_proper t) refl e

-- a part whose ends were answered is the exact one
pub part_is : (low high : ℤ) (t : Span) → (IsValue low → low ≡ t.min) → (IsValue t.min → low ≡ t.min) → (IsValue high → high ≡ t.max)
    → (IsValue t.max → high ≡ t.max)
    → proper_only (record { min = low; max = high }) ≡ proper_only t
part_is low high t a b c d =
    let s : Span = record { min = low; max = high } in
    proper_alike s t a b c d (is_proper s) refl

-- the code's parts
both_proper : (a b : Bool) (l r : Span) → cond (is_some (cond a (Some l) None)
    && is_some (cond b (Some r) None)) (Some (let p : Option Span × Option Span = (cond a (Some l) None, cond b (Some r) None) in p)) None
    ≡ cond (a && b) (Some (let p : Option Span × Option Span = (Some l, Some r) in p)) None
both_proper true true l r = refl
both_proper true false l r = refl
both_proper false b l r = refl

pub parts_both : (s : Span) (c : Coef) (l r : Option Span) → c.left ≡ true → c.right ≡ true → l ≡ proper_only (left_part s c)
    → r ≡ proper_only (right_part s c)
    → cond (is_some l && is_some r) (Some (let p : Option Span × Option Span = (l, r) in p)) None ≡ parts s c
unfolding parts
parts_both s c l r el er e f =
    ap₂ (λ (l r : Option Span). cond (is_some l && is_some r) (Some (let p : Option Span × Option Span = (l, r) in p)) None) e f
    ∙ both_proper (is_proper (left_part s c)) (is_proper (right_part s c)) (left_part s c) (right_part s c)
    ∙ sym (ap₂ (λ (a b : Bool). parts_by a b s c) el er)

left_cond : (b : Bool) (s : Span) → cond (is_some (cond b (Some s) None))
    (Some (let p : Option Span × Option Span = (cond b (Some s) None, None) in p)) None
    ≡ cond b (Some (let p : Option Span × Option Span = (Some s, None) in p)) None
left_cond true s = refl
left_cond false s = refl

right_cond : (b : Bool) (s : Span) → cond (is_some (cond b (Some s) None))
    (Some (let p : Option Span × Option Span = (None, cond b (Some s) None) in p)) None
    ≡ cond b (Some (let p : Option Span × Option Span = (None, Some s) in p)) None
right_cond true s = refl
right_cond false s = refl

pub parts_left : (s : Span) (c : Coef) (l : Option Span) → c.left ≡ true → c.right ≡ false
    → l ≡ cond (is_flat c && is_proper s) (Some s) None
    → cond (is_some l) (Some (let p : Option Span × Option Span = (l, None) in p)) None ≡ parts s c
unfolding parts
parts_left s c l el er e =
    ap (λ (l : Option Span). cond (is_some l) (Some (let p : Option Span × Option Span = (l, None) in p)) None) e
    ∙ left_cond (is_flat c && is_proper s) s
    ∙ sym (ap₂ (λ (a b : Bool). parts_by a b s c) el er)

pub parts_right : (s : Span) (c : Coef) (r : Option Span) → c.left ≡ false → c.right ≡ true
    → r ≡ cond (is_flat c && is_proper s) (Some s) None
    → cond (is_some r) (Some (let p : Option Span × Option Span = (None, r) in p)) None ≡ parts s c
unfolding parts
parts_right s c r el er e =
    ap (λ (r : Option Span). cond (is_some r) (Some (let p : Option Span × Option Span = (None, r) in p)) None) e
    ∙ right_cond (is_flat c && is_proper s) s
    ∙ sym (ap₂ (λ (a b : Bool). parts_by a b s c) el er)

pub parts_neither : (s : Span) (c : Coef) → c.left ≡ false → c.right ≡ false → ◌≡◌ {A = Option (Option Span × Option Span)} None (parts s c)
unfolding parts
parts_neither s c el er = sym (ap₂ (λ (a b : Bool). parts_by a b s c) el er)

-- what a split answers
err_bad : {E : Type 0} (p : Option (Option Span × Option Span)) (err : E) (s : Span) (c : Coef) → p ≡ parts s c
    → (IsErr (ok_or p err) → IsBad s c) × (IsBad s c → IsErr (ok_or p err))
err_bad None err s c e = (λ h. no_parts s c (sym e), λ h. refl)
err_bad (Some p) err s c e = (λ h. absurd (cc), λ h. absurd (cc (bad_parts s c h)))

pub split_bad : {E : Type 0} (p : Option (Option Span × Option Span)) (err : E) (r : Result (Option Span × Option Span) E) (s : Span)
    (c : Coef) → p ≡ parts s c → r ≡ ok_or p err
    → (IsErr r → IsBad s c) × (IsBad s c → IsErr r)
split_bad {E} p err r s c e f =
    let P : Result (Option Span × Option Span) E → Type 0 = λ r. (IsErr r → IsBad s c) × (IsBad s c → IsErr r) in
    subst P (sym f) (err_bad p err s c e)

ok_parts : {E : Type 0} (p : Option (Option Span × Option Span)) (err : E) (s : Span) (c : Coef) → p ≡ parts s c
    → IfOk (ok_or p err) (λ halves. AreParts s c halves.0 halves.1)
ok_parts None err s c e = tt
ok_parts (Some p) err s c e = parts_are s c p.0 p.1 (sym e)

pub split_parts : {E : Type 0} (p : Option (Option Span × Option Span)) (err : E) (r : Result (Option Span × Option Span) E) (s : Span)
    (c : Coef) → p ≡ parts s c → r ≡ ok_or p err
    → IfOk r (λ halves. AreParts s c halves.0 halves.1)
split_parts {E} p err r s c e f =
    let P : Result (Option Span × Option Span) E → Type 0 = λ r. IfOk r (λ halves. AreParts s c halves.0 halves.1) in
    subst P (sym f) (ok_parts p err s c e)

pub split_joined : {E : Type 0} (p : Option (Option Span × Option Span)) (err : E) (r : Result (Option Span × Option Span) E) (s : Span)
    (c : Coef) (left right : Option Span)
    → p ≡ parts s c → r ≡ ok_or p err → IsProperIfAny left → IsProperIfAny right → c ≡ coef_of left right
    → ◌≡◌ {A = Option Span} (Some s) (hull left right) → r ≡ Ok (left, right)
split_joined p err r s c left right e f pl pr same whole =
    f ∙ ap (λ p. ok_or p err) (e ∙ ap (parts s) same ∙ parts_joined left right s pl pr (sym whole))

pub split_proper : {E : Type 0} (p : Option (Option Span × Option Span)) (err : E) (r : Result (Option Span × Option Span) E) (s : Span)
    (c : Coef) → p ≡ parts s c → r ≡ ok_or p err
    → IfOk r (λ halves. IsProperIfAny halves.0 × IsProperIfAny halves.1)
split_proper p err r s c e f =
    IfOk-weaker r (λ halves. AreParts s c halves.0 halves.1) (λ halves. IsProperIfAny halves.0 × IsProperIfAny halves.1)
    (λ halves h. (h.left_proper, h.right_proper)) (split_parts p err r s c e f)

pub split_whole : {E : Type 0} (p : Option (Option Span × Option Span)) (err : E) (r : Result (Option Span × Option Span) E) (s : Span)
    (c : Coef) → p ≡ parts s c → r ≡ ok_or p err
    → IfOk r (λ halves. hull halves.0 halves.1 ≡ Some s)
split_whole p err r s c e f =
    IfOk-weaker r (λ halves. AreParts s c halves.0 halves.1) (λ halves. hull halves.0 halves.1 ≡ Some s)
    (λ halves h. h.whole) (split_parts p err r s c e f)
