-- What is known of the keys of a page whose coefficients are told.
use Rattle.std.proofs.Common.{ℕ, zero, suc, ◌≡◌, ◌+◌, ◌*◌, ◌%◌, ◌<◌, ◌≤◌, ◌==◌, inl, inr, List, sym, ◌∙◌, ap, ap₂, subst, refl, Bool, true}
use Rattle.std.proofs.Common.{false, cond, arith}
use Rattle.std.proofs.lemmas.Bool.{cases_lt, cases_eq, eq-eqb, ne_eqb}
use Rattle.std.specs.Prelude.{Option, None, Some, Result, Ok, Err, OnOk, OnErr, IfErr}
use Rattle.std.specs.Option.{option_map}
use Rattle.om3_coeff.specs.declared.key.Key.{Key}
use Rattle.om3_coeff.specs.declared.span.Span.{Span}
use Rattle.om3_coeff.specs.declared.coef.Coef.{Coef}
use Rattle.om3_coeff.specs.Keys.{left_of, right_of, parent_of}
use Rattle.om3_coeff.specs.Coefs.{parts}
use Rattle.om3_coeff.specs.Known.{known, known_below, half}
use Rattle.om3_coeff.proofs.KnownLemmas.{known_step}
use Rattle.om3_coeff.proofs.KeyLemmas.{left_parent, right_parent}
use Rattle.node_page.specs.Fields.{coef_at}
use Rattle.node_page.proofs.KeyPlaces.{HasKey}
use Rattle.page_spans.specs.Heaps.{HasHalves, IsSplit}
use Rattle.page_spans.specs.Failing.{IsUnsplit, IsFirstBad}
use Rattle.page_spans.specs.Lists.{key_of_leaf}
use Rattle.page_spans.specs.Seen.{IsSeen, HasBadKey}
use Rattle.page_spans.proofs.PageKeys.{key_at, key_left, key_right, key_first, key_last, key_has}

either : (b : Bool) (x : Option Span) → cond b x x ≡ x
either true x = refl
either false x = refl

below_is : (index : ℕ) (s : Option Span) (c : Coef) (l r : Option Span) → HasHalves s c l r
    → known_below index (Some s) (Some c) ≡ Some (cond (index % 2 == 0) l r)
below_is index None c l r h =
    ap (λ (x : Option Span). Some x) (sym (either (index % 2 == 0) None)
    ∙ ap₂ (λ (l r : Option Span). cond (index % 2 == 0) l r) (sym h.0) (sym h.1))
below_is index (Some s) c l r h = ap (option_map (half index)) h

half_left : (i : ℕ) (l r : Option Span) → cond (2 * i % 2 == 0) l r ≡ l
half_left i l r = ap (λ (b : Bool). cond b l r) (eq-eqb (2 * i % 2) 0 (omega arith))

half_right : (i : ℕ) (l r : Option Span) → cond ((2 * i + 1) % 2 == 0) l r ≡ r
half_right i l r = ap (λ (b : Bool). cond b l r) (ne_eqb ((2 * i + 1) % 2) 0 (λ e. omega (arith, e)))

-- the key k has this span and this coefficient, which splits it into those of its halves
pub record IsKnownNode (root : Option Span) (told : Key
    → Option Coef) (highest : ℕ) (k : Key) (s : Option Span) (c : Coef) (l r : Option Span) : Type 0 where
  pub low : 1 ≤ k.level
  pub high : k.level ≤ highest
  pub seen : known root told highest k ≡ Some s
  pub is : told k ≡ Some c
  pub halves : HasHalves s c l r

known_left : (root : Option Span) (told : Key → Option Coef) (highest : ℕ) (k : Key) (s : Option Span) (c : Coef) (l r : Option Span)
    → IsKnownNode root told highest k s c l r
    → known root told highest (left_of k) ≡ Some l
known_left root told highest k s c l r node =
    let above : parent_of (left_of k) ≡ k = left_parent k node.low in
    let less : (left_of k).level < highest = omega (arith, node.low, node.high) in
    known_step root told highest (left_of k) less
    ∙ ap₂ (λ (s : Option (Option Span)) (c : Option Coef). known_below (2 * k.index) s c) (ap (known root told highest) above
    ∙ node.seen) (ap told above ∙ node.is)
    ∙ below_is (2 * k.index) s c l r node.halves ∙ ap (λ (x : Option Span). Some x) (half_left k.index l r)

known_right : (root : Option Span) (told : Key → Option Coef) (highest : ℕ) (k : Key) (s : Option Span) (c : Coef) (l r : Option Span)
    → IsKnownNode root told highest k s c l r
    → known root told highest (right_of k) ≡ Some r
known_right root told highest k s c l r node =
    let above : parent_of (right_of k) ≡ k = right_parent k node.low in
    let less : (right_of k).level < highest = omega (arith, node.low, node.high) in
    known_step root told highest (right_of k) less
    ∙ ap₂ (λ (s : Option (Option Span)) (c : Option Coef). known_below (2 * k.index + 1) s c) (ap (known root told highest) above
    ∙ node.seen) (ap told above ∙ node.is)
    ∙ below_is (2 * k.index + 1) s c l r node.halves ∙ ap (λ (x : Option Span). Some x) (half_right k.index l r)

-- the spans that are split from a known top are known
known_places : (m : ℕ) (root : Option Span) (told : Key → Option Coef) (highest p q : ℕ) (page : List ℕ) (top : Span) (spans : ℕ
    → Option Span) → m ≤ 127
    → IsSeen root told highest p q page top → spans 0 ≡ Some top → ((n : ℕ) → n < m → IsSplit spans (coef_at page) n)
    → (n : ℕ) → n ≤ 2 * m → known root told highest (key_at p q n) ≡ Some (spans n)
known_places zero root told highest p q page top spans few seen is splits n to =
    let none : n ≡ 0 = omega arith in
    subst (λ (n : ℕ). known root told highest (key_at p q n) ≡ Some (spans n)) (sym none)
    (ap (known root told highest) (key_first p q) ∙ seen.seen ∙ sym (ap (λ (x : Option Span). Some x) is))
known_places (suc m) root told highest p q page top spans few seen is splits n to =
    let before : (n : ℕ) → n ≤ 2 * m → known root told highest (key_at p q n) ≡ Some (spans n) =
    known_places m root told highest p q page top spans (omega (arith, few)) seen is (λ n less. splits n (omega (arith, less))) in
    let low : m < 127 = omega (arith, few) in
    let k = key_at p q m in
    let has : HasKey p q m k = key_has p q m seen.low low in
    let node : IsKnownNode root told highest k (spans m) (coef_at page m) (spans (2 * m + 1)) (spans (2 * m + 2)) = record {
      low = has.low;
      high = omega (arith, seen.high);
      seen = before m (omega arith);
      is = seen.told_is k has.low has.level has.page ∙ ap (λ (n : ℕ). Some (coef_at page n)) has.node;
      halves = splits m (omega arith);
    } in
    elim (cases_lt n (2 * m + 1)) [
      | inl less ↦ before n (omega (arith, less))
      | inr more ↦ elim (cases_eq n (2 * m + 1)) [
        | inl same ↦
            subst (λ (n : ℕ). known root told highest (key_at p q n) ≡ Some (spans n)) (sym same)
            (ap (known root told highest) (key_left p q m low)
            ∙ known_left root told highest k (spans m) (coef_at page m) (spans (2 * m + 1)) (spans (2 * m + 2)) node)
        | inr other ↦
            let last : n ≡ 2 * m + 2 = omega (arith, more, other, to) in
            subst (λ (n : ℕ). known root told highest (key_at p q n) ≡ Some (spans n)) (sym last)
            (ap (known root told highest) (key_right p q m low)
            ∙ known_right root told highest k (spans m) (coef_at page m) (spans (2 * m + 1)) (spans (2 * m + 2)) node)
      ]
    ]

bad_span : (s : Option Span) (c : Coef) → IsUnsplit s c → (t : Span) × ((s ≡ Some t) × (parts t c ≡ None))
bad_span None c h = absurd h
bad_span (Some s) c h = (s, (refl, h))

bad_key : (root : Option Span) (told : Key → Option Coef) (highest p q : ℕ) (page : List ℕ) (top : Span) (spans : ℕ
    → Option Span) (node : ℕ)
    → IsSeen root told highest p q page top → spans 0 ≡ Some top → IsFirstBad spans (coef_at page) node
    → HasBadKey root told highest p q page
bad_key root told highest p q page top spans node seen is bad =
    let few : node < 127 = bad.within in
    let has : HasKey p q node (key_at p q node) = key_has p q node seen.low few in
    let found = bad_span (spans node) (coef_at page node) bad.none in
    record {
      key = key_at p q node;
      low = has.low;
      level_is = has.level;
      index_is = has.page;
      span = found.0;
      seen = known_places node root told highest p q page top spans (omega (arith, few)) seen is bad.above node (omega arith)
          ∙ ap (λ (x : Option Span). Some x) found.1.0;
      none = ap (λ (n : ℕ). parts found.0 (coef_at page n)) has.node ∙ found.1.1;
    }

-- what spreading shows of the leaves, and of a page that can't be spread
pub leaves_known : {A E : Type 0} (r : Result A E) (root : Option Span) (told : Key
    → Option Coef) (highest p q : ℕ) (page : List ℕ) (top : Span) (spans : ℕ → Option Span)
    → IsSeen root told highest p q page top → spans 0 ≡ Some top → OnOk r ((n : ℕ) → n < 127 → IsSplit spans (coef_at page) n)
    → OnOk r ((leaf : ℕ) → leaf < 128 → known root told highest (key_of_leaf p q leaf) ≡ Some (spans (127 + leaf)))
leaves_known (Ok x) root told highest p q page top spans seen is splits = λ leaf few.
    sym (ap (known root told highest) (key_last p q leaf few))
    ∙ known_places 127 root told highest p q page top spans (omega arith) seen is splits (127 + leaf) (omega (arith, few))
leaves_known (Err e) root told highest p q page top spans seen is splits = tt

pub key_is_bad : {A E : Type 0} (r : Result A E) (node : E → ℕ) (root : Option Span) (told : Key
    → Option Coef) (highest p q : ℕ) (page : List ℕ) (top : Span) (spans : ℕ → Option Span)
    → IsSeen root told highest p q page top → spans 0 ≡ Some top → IfErr r (λ e. IsFirstBad spans (coef_at page) (node e))
    → OnErr r (HasBadKey root told highest p q page)
key_is_bad (Ok x) node root told highest p q page top spans seen is bad = tt
key_is_bad (Err e) node root told highest p q page top spans seen is bad = bad_key root told highest p q page top spans (node e) seen is bad
