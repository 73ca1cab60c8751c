-- Keys of one series: which are the same, and needed lists as pairs of a list.
use Rattle.std.proofs.Common.{◌≡◌, ◌≢◌, ℕ, zero, suc, ◌+◌, ◌<◌, ◌≤◌, true, false, ◌&&◌, ◌||◌, nat_eq, List, [], ◌∷◌, ◌++◌, length, take}
use Rattle.std.proofs.Common.{get_or, is_some, refl, sym, ap, ◌∙◌, arith, add-one, cond, Some, None}
use Rattle.std.specs.Bool.{Decides, beq}
use Rattle.std.specs.Cmp.{IsEquivalence, decided, booleans_Decides}
use Rattle.std.specs.Ordering.{int_eq}
use Rattle.std.proofs.lemmas.Bool.Decides.{Decides-eqb, Decides-int_eq, Decides-and, Decides-like}
use Rattle.std.proofs.lemmas.List.{take_more, map-append}
use Rattle.om3_coeff.specs.declared.key.Key.{Key}
use Rattle.om3_coeff.specs.declared.coef.Coef.{Coef}
use Rattle.coefficient_cache.specs.declared.series_key.SeriesKey.{SeriesKey}
use Rattle.coefficient_cache.specs.Pairs.{series_key, key_eq, coefficient_eq, in_series, has}
use Rattle.coefficient_cache.specs.Views.{AreDistinct}
use Rattle.coefficient_cache.proofs.Finds.{has-append}

pub Decides-key_eq : (a b : SeriesKey) → Decides (key_eq a b) (a ≡ b)
Decides-key_eq a b =
    Decides-like (key_eq a b)
    (λ t. (λ i. record { series = t.0 i; level = t.1.0 i; index = t.1.1 i }))
    (λ e. (ap (λ k. k.series) e, (ap (λ k. k.level) e, ap (λ k. k.index) e)))
    (Decides-and (nat_eq a.series b.series) (nat_eq a.level b.level && nat_eq a.index b.index)
    (Decides-eqb a.series b.series)
    (Decides-and (nat_eq a.level b.level) (nat_eq a.index b.index) (Decides-eqb a.level b.level) (Decides-eqb a.index b.index)))

pub Decides-coefficient_eq : (a b : Coef) → Decides (coefficient_eq a b) (a ≡ b)
Decides-coefficient_eq a b =
    Decides-like (coefficient_eq a b)
    (λ t. (λ i. record { left = t.0 i; right = t.1.0 i; dmin = t.1.1.0 i; dmax = t.1.1.1 i }))
    (λ e. (ap (λ k. k.left) e, (ap (λ k. k.right) e, (ap (λ k. k.dmin) e, ap (λ k. k.dmax) e))))
    (Decides-and (beq a.left b.left) (beq a.right b.right && (int_eq a.dmin b.dmin && int_eq a.dmax b.dmax))
    (booleans_Decides a.left b.left)
    (Decides-and (beq a.right b.right) (int_eq a.dmin b.dmin && int_eq a.dmax b.dmax)
    (booleans_Decides a.right b.right)
    (Decides-and (int_eq a.dmin b.dmin) (int_eq a.dmax b.dmax) (Decides-int_eq a.dmin b.dmin) (Decides-int_eq a.dmax b.dmax))))

pub key_laws : IsEquivalence key_eq
key_laws = decided key_eq Decides-key_eq

pub key_exact : (a b : SeriesKey) → key_eq a b ≡ true → a ≡ b
key_exact a b = (Decides-key_eq a b).0

-- two keys of one series are the same only where the keys are
pub key_from : (series : ℕ) (a b : Key) → series_key series a ≡ series_key series b → a ≡ b
key_from series a b e = λ i. record { level = (e i).level; index = (e i).index }

-- one needed key more
pub in_series-more : (series : ℕ) (needed : List (Key × Coef)) (i : ℕ) (d : Key × Coef) → i < length needed
    → in_series series (take (i + 1) needed) ≡ in_series series (take i needed) ++ (
      series_key series (get_or needed i d).0,
      (get_or needed i d).1,
    ) ∷ []
in_series-more series needed i d h =
    ap (in_series series) (take_more needed i d h) ∙ map-append (λ e. (series_key series e.0, e.1)) (take i needed) (get_or needed i d ∷ [])

-- none of the first i needed keys is the key
not_among : (series : ℕ) (needed : List (Key × Coef)) (key : Key) (d : Key × Coef) (i : ℕ) → i ≤ length needed
    → ((j : ℕ) → j < i → (get_or needed j d).0 ≢ key) → has (in_series series (take i needed)) (series_key series key) ≡ false
not_among series needed key d zero h apart = refl
not_among series needed key d (suc i) h apart =
    let xs = in_series series (take i needed) in
    let k = series_key series key in
    let e : SeriesKey × Coef = (series_key series (get_or needed i d).0, (get_or needed i d).1) in
    let other : key_eq k e.0 ≡ false = elim (key_eq k e.0) as (λ b. key_eq k e.0 ≡ b → key_eq k e.0 ≡ false) [
      | true ↦ λ t. absurd (apart i (omega arith) (sym (key_from series key (get_or needed i d).0 (key_exact k e.0 t))))
      | false ↦ λ t. t
    ] refl in
    ap (λ n. has (in_series series (take n needed)) k) (sym (add-one i))
    ∙ ap (λ ys. has ys k) (in_series-more series needed i d (omega arith))
    ∙ has-append (key_eq k) xs (e ∷ [])
    ∙ (λ j. not_among series needed key d i (omega arith) (λ n m. apart n (omega arith)) j || is_some (cond (other j) (Some e.1) None))

-- where no two needed keys are the same, those before the one at i are other keys
pub is_fresh : (series : ℕ) (needed : List (Key × Coef)) (i : ℕ) (d : Key × Coef) → AreDistinct needed → i < length needed
    → has (in_series series (take i needed)) (series_key series (get_or needed i d).0) ≡ false
is_fresh series needed i d distinct h = not_among series needed (get_or needed i d).0 d i (omega arith) (λ j lt. distinct j i d lt h)
