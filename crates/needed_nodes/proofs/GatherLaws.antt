use Rattle.std.proofs.Common.{ℕ, zero, suc, ◌≡◌, ◌≢◌, ◌+◌, ◌<◌, ◌≤◌, ◌⊎◌, inl, inr, List, [], ◌∷◌, ◌++◌, length, get_or, refl, sym, ◌∙◌, ap}
use Rattle.std.proofs.Common.{subst, arith, append_assoc, length-append, le_refl}
use Rattle.std.proofs.lemmas.List.{append-nil, map-append}
use Rattle.std.proofs.lemmas.List.Elements.{All-nil, All-head, All-tail, All-append, All-weaker, Contains-append_left}
use Rattle.std.proofs.lemmas.List.Elements.{Contains-append_right, Contains-push}
use Rattle.std.specs.Prelude.{All, Contains}
use Rattle.om3_coeff.specs.declared.key.Key.{Key}
use Rattle.om3_coeff.specs.declared.coef.Coef.{Coef}
use Rattle.om3_coeff.specs.Keys.{height, IsNode}
use Rattle.om3_coeff.specs.View.{NodesView, StaysSame}
use Rattle.view_keys.specs.Wanted.{Seen}
use Rattle.view_keys.specs.Listed.{keys_of}
use Rattle.needed_nodes.specs.declared.window.Window.{Window}
use Rattle.needed_nodes.specs.Answers.{CanSplit}
use Rattle.needed_nodes.specs.Serving.{Serves}
use Rattle.needed_nodes.specs.Gathering.{AreApart, IsSeenBy, IsToldBy, Gathered}
use Rattle.needed_nodes.proofs.ServeLaws.{serves_later}

-- no key of two lists stands twice
apart_both : (xs ys : List (Key × Coef)) → AreApart xs → AreApart ys → All (λ e. All (λ f. e.0 ≢ f.0) ys) xs → AreApart (xs ++ ys)
apart_both [] ys a b cross = b
apart_both (x ∷ xs) ys a b cross = (
  All-append (λ f. x.0 ≢ f.0) xs ys a.0 (All-head (λ e. All (λ f. e.0 ≢ f.0) ys) x xs cross),
  apart_both xs ys a.1 b (All-tail (λ e. All (λ f. e.0 ≢ f.0) ys) x xs cross),
)

-- nothing was gathered where there is nothing to gather
pub gathers_nothing : (v : NodesView) (w : Window) (Part : Key → Type 0) (Kind : Seen → Key → Type 0) (most : ℕ) (items : List (Key × Coef))
    → ((S : Seen) → Serves v w S → (k : Key) → IsNode (height w.axis.slots) k → Part k → IsSeenBy S w k → Kind S k → ⊥)
    → Gathered v w Part Kind most items items
gathers_nothing v w Part Kind most items none = record {
  more = [];
  is = sym (append-nil items);
  nodes = All-nil (λ e. IsNode (height w.axis.slots) e.0);
  inside = All-nil (λ e. Part e.0);
  good = All-nil (λ e. CanSplit e.1);
  apart = tt;
  few = omega arith;
  told = λ S served. All-nil (IsToldBy S w Kind);
  all = λ S served k node part seen kind. absurd (none S served k node part seen kind);
}

-- one key was gathered
one_all : (P : Key × Coef → Type 0) (e : Key × Coef) → P e → All P (e ∷ [])
one_all P e h = All-append P [] (e ∷ []) (All-nil P) (λ k d less. one_at P e h k d less)
  where
    one_at : (P : Key × Coef → Type 0) (e : Key × Coef) → P e → (k : ℕ) (d : Key × Coef) → k < length (e ∷ []) → P (get_or (e ∷ []) k d)
    one_at P e h zero d less = h
    one_at P e h (suc k) d less = absurd (omega arith)

pub gathers_one : (v : NodesView) (w : Window) (Kind : Seen → Key → Type 0) (key : Key) (c : Coef) (items : List (Key × Coef))
    → IsNode (height w.axis.slots) key → CanSplit c → ((S : Seen) → Serves v w S → IsToldBy S w Kind (key, c))
    → Gathered v w (λ k. k ≡ key) Kind 1 items (items ++ (key, c) ∷ [])
gathers_one v w Kind key c items node good told = record {
  more = (key, c) ∷ [];
  is = refl;
  nodes = one_all (λ e. IsNode (height w.axis.slots) e.0) (key, c) node;
  inside = one_all (λ e. e.0 ≡ key) (key, c) refl;
  good = one_all (λ e. CanSplit e.1) (key, c) good;
  apart = (All-nil (λ later. key ≢ later.0), tt);
  few = le_refl 1;
  told = λ S served. one_all (IsToldBy S w Kind) (key, c) (told S served);
  all = λ S served k node part seen kind.
      let P : Key → Type 0 = λ b. Contains (key ∷ []) b in subst P (sym part) (Contains-push [] key);
}

-- what was told of the keys of a part is told of them as keys of another kind
told_as : (S : Seen) (w : Window) (Part : Key → Type 0) (Kind Kind' : Seen → Key → Type 0) (items : List (Key × Coef))
    → ((k : Key) → IsNode (height w.axis.slots) k → Part k → IsSeenBy S w k → Kind S k → Kind' S k)
    → All (λ e. IsNode (height w.axis.slots) e.0) items → All (λ e. Part e.0) items
    → All (IsToldBy S w Kind) items → All (IsToldBy S w Kind') items
told_as S w Part Kind Kind' items kinds nodes inside told k d less =
    let t : IsToldBy S w Kind (get_or items k d) = told k d less in
    record { kind = kinds (get_or items k d).0 (nodes k d less) (inside k d less) t.seen t.kind; seen = t.seen; coef = t.coef }

contains_left : (xs ys : List (Key × Coef)) (k : Key) → Contains (keys_of xs) k → Contains (keys_of (xs ++ ys)) k
contains_left xs ys k h =
    let P : List Key → Type 0 = λ ks. Contains ks k in
    subst P (sym (map-append (λ e. e.0) xs ys)) (Contains-append_left (keys_of xs) (keys_of ys) k h)

contains_right : (xs ys : List (Key × Coef)) (k : Key) → Contains (keys_of ys) k → Contains (keys_of (xs ++ ys)) k
contains_right xs ys k h =
    let P : List Key → Type 0 = λ ks. Contains ks k in
    subst P (sym (map-append (λ e. e.0) xs ys)) (Contains-append_right (keys_of xs) (keys_of ys) k h)

-- how two parts make up a third one
pub record Joins (v : NodesView) (w : Window) (Part₁ Part₂ Part : Key → Type 0) (Kind₁ Kind₂ Kind : Seen → Key → Type 0) : Type 0 where
  pub apart : (k : Key) → Part₁ k → Part₂ k → ⊥
  pub first : (k : Key) → Part₁ k → Part k
  pub second : (k : Key) → Part₂ k → Part k
  pub first_kind : (S : Seen) → Serves v w S → (k : Key) → IsNode (height w.axis.slots) k → Part₁ k → IsSeenBy S w k → Kind₁ S k → Kind S k
  pub second_kind : (S : Seen) → Serves v w S → (k : Key) → IsNode (height w.axis.slots) k → Part₂ k → IsSeenBy S w k → Kind₂ S k → Kind S k
  pub covers : (S : Seen) → Serves v w S → (k : Key) → IsNode (height w.axis.slots) k → Part k → IsSeenBy S w k → Kind S k
      → (Part₁ k × Kind₁ S k) ⊎ (Part₂ k × Kind₂ S k)

pub gathers_join : (v : NodesView) (w : Window) (Part₁ Part₂ Part : Key → Type 0) (Kind₁ Kind₂ Kind : Seen → Key
    → Type 0) (m n most : ℕ) (old mid new : List (Key × Coef))
    → Joins v w Part₁ Part₂ Part Kind₁ Kind₂ Kind → m + n ≤ most → Gathered v w Part₁ Kind₁ m old mid → Gathered v w Part₂ Kind₂ n mid new
    → Gathered v w Part Kind most old new
gathers_join v w Part₁ Part₂ Part Kind₁ Kind₂ Kind m n most old mid new joins few g h = record {
  more = g.more ++ h.more;
  is = h.is ∙ ap (λ items. items ++ h.more) g.is ∙ append_assoc old g.more h.more;
  nodes = All-append (λ e. IsNode (height w.axis.slots) e.0) g.more h.more g.nodes h.nodes;
  inside = All-append (λ e. Part e.0) g.more h.more
      (All-weaker (λ e. Part₁ e.0) (λ e. Part e.0) (λ e part. joins.first e.0 part) g.more g.inside)
      (All-weaker (λ e. Part₂ e.0) (λ e. Part e.0) (λ e part. joins.second e.0 part) h.more h.inside);
  good = All-append (λ e. CanSplit e.1) g.more h.more g.good h.good;
  apart = apart_both g.more h.more g.apart h.apart
      (All-weaker (λ e. Part₁ e.0) (λ e. All (λ f. e.0 ≢ f.0) h.more)
      (λ e here k d less same. joins.apart e.0 here (let P : Key → Type 0 = λ b. Part₂ b in subst P (sym same) (h.inside k d less)))
      g.more g.inside);
  few = omega (arith, length-append g.more h.more, g.few, h.few);
  told = λ S served. All-append (IsToldBy S w Kind) g.more h.more
      (told_as S w Part₁ Kind₁ Kind g.more (joins.first_kind S served) g.nodes g.inside (g.told S served))
      (told_as S w Part₂ Kind₂ Kind h.more (joins.second_kind S served) h.nodes h.inside (h.told S served));
  all = λ S served k node part seen kind. elim (joins.covers S served k node part seen kind) [
    | inl p ↦ contains_left g.more h.more k (g.all S served k node p.0 seen p.1)
    | inr p ↦ contains_right g.more h.more k (h.all S served k node p.0 seen p.1)
  ];
}

-- what was gathered later was gathered of the nodes as they were before
pub gathers_earlier : (v u : NodesView) (w : Window) (Part : Key → Type 0) (Kind : Seen → Key
    → Type 0) (most : ℕ) (old new : List (Key × Coef))
    → StaysSame v u → Gathered u w Part Kind most old new → Gathered v w Part Kind most old new
gathers_earlier v u w Part Kind most old new same g = record {
  more = g.more;
  is = g.is;
  nodes = g.nodes;
  inside = g.inside;
  good = g.good;
  apart = g.apart;
  few = g.few;
  told = λ S served. g.told S (serves_later v u w S same served);
  all = λ S served. g.all S (serves_later v u w S same served);
}

-- the same keys as those of another part and kind
pub gathers_as : (v : NodesView) (w : Window) (Part Part' : Key → Type 0) (Kind Kind' : Seen → Key
    → Type 0) (m most : ℕ) (old new : List (Key × Coef))
    → ((k : Key) → Part k → Part' k)
    → ((S : Seen) → Serves v w S → (k : Key) → Part k → IsSeenBy S w k → Kind S k → Kind' S k)
    → ((S : Seen) → Serves v w S → (k : Key) → IsNode (height w.axis.slots) k → Part' k → IsSeenBy S w k → Kind' S k → Part k × Kind S k)
    → m ≤ most → Gathered v w Part Kind m old new → Gathered v w Part' Kind' most old new
gathers_as v w Part Part' Kind Kind' m most old new parts kinds covers few g = record {
  more = g.more;
  is = g.is;
  nodes = g.nodes;
  inside = All-weaker (λ e. Part e.0) (λ e. Part' e.0) (λ e part. parts e.0 part) g.more g.inside;
  good = g.good;
  apart = g.apart;
  few = omega (arith, g.few);
  told = λ S served. told_as S w Part Kind Kind' g.more (λ k node part seen kind. kinds S served k part seen kind) g.nodes g.inside
      (g.told S served);
  all = λ S served k node part seen kind.
      let back : Part k × Kind S k = covers S served k node part seen kind in g.all S served k node back.0 seen back.1;
}
