use Rattle.std.proofs.Common.{ℕ, suc, ℤ, ◌≡◌, ◌+◌, ◌*◌, ◌≤◌, ◌⊎◌, inl, inr, List, [], ◌∷◌, ◌++◌, sym, ◌∙◌, ap, subst, arith, le_refl}
use Rattle.std.proofs.Math.Nat.{mul-le-mul_left}
use Rattle.std.proofs.lemmas.Option.{same_Some}
use Rattle.std.proofs.lemmas.Result.{err_from_is_err_and}
use Rattle.std.specs.Prelude.{Option, Some, None, Result, Err, IfErr, IsErrAnd}
use Rattle.om3_coeff.specs.declared.key.Key.{Key}
use Rattle.om3_coeff.specs.declared.span.Span.{Span}
use Rattle.om3_coeff.specs.declared.coef.Coef.{Coef}
use Rattle.om3_coeff.specs.declared.errors.NodeError.{NodeError}
use Rattle.om3_coeff.specs.declared.errors.NodeError.TheVariants.{DiskFault, Damaged, Missing, BadCoefficient}
use Rattle.om3_coeff.specs.Keys.{first_slot, end_slot, left_of, right_of, height, IsNode}
use Rattle.om3_coeff.specs.Spans.{IsClear, AreExtremes, IsSpanOf, span}
use Rattle.om3_coeff.specs.View.{NodesView, StaysSame, HasRisen, HasCause}
use Rattle.om3_coeff.proofs.ExtremeLemmas.{span_over_is}
use Rattle.om3_coeff.proofs.KeyLemmas.{left_first, right_end}
use Rattle.view_keys.specs.Wanted.{Seen}
use Rattle.needed_nodes.specs.declared.window.Window.{Window}
use Rattle.needed_nodes.specs.declared.scan_of.ScanOf.{ScanOf}
use Rattle.needed_nodes.specs.declared.scan_of.ScanOf.TheVariants.{Node, NoMemory}
use Rattle.needed_nodes.specs.Ranks.{IsBelow}
use Rattle.needed_nodes.specs.Answers.{CanSplit}
use Rattle.needed_nodes.specs.Serving.{Serves, ServesList, list_seen, IsReady, IsCauseOf}
use Rattle.needed_nodes.specs.Gathering.{IsSeenBy, IsToldBy, Gathered}
use Rattle.needed_nodes.proofs.Nesting.{some_slot}
use Rattle.needed_nodes.proofs.ServeLaws.{serves_later, list_shown}
use Rattle.needed_nodes.proofs.GatherLaws.{Joins, gathers_one, gathers_join, gathers_earlier}

-- a cause stays one for the nodes as they were before
risen_earlier : (a b c : ℕ) → b ≡ a → HasRisen b c → HasRisen a c
risen_earlier a b c quiet h = let P : ℕ → Type 0 = λ n. HasRisen n c in subst P quiet h

pub has_cause_earlier : (v u t : NodesView) (e : NodeError) → StaysSame v u → u.faults ≡ v.faults → HasCause u t e → HasCause v t e
has_cause_earlier v u t DiskFault same quiet h = risen_earlier v.faults u.faults t.faults quiet h
has_cause_earlier v u t (Damaged page) same quiet h = same.was_bad (Damaged page) h
has_cause_earlier v u t (Missing key) same quiet h = same.was_bad (Missing key) h
has_cause_earlier v u t (BadCoefficient key) same quiet h = same.was_bad (BadCoefficient key) h

pub cause_earlier : (v u t : NodesView) (w : Window) (e : ScanOf) → StaysSame v u → u.faults ≡ v.faults → IsCauseOf u t w e
    → IsCauseOf v t w e
cause_earlier v u t w (Node e) same quiet h = (
  has_cause_earlier v u t e same quiet h.0,
  λ S served. h.1 S (serves_later v u w S same served),
)
cause_earlier v u t w NoMemory same quiet h = tt

-- the span that a walk has of a key is the list's
pub list_span : (v : NodesView) (w : Window) (k : Key) (s : Option Span) (list : List (Option ℤ)) → IsReady v w k s → ServesList v w list
    → span list k ≡ s
list_span v w k s list ready served =
    same_Some (span list k) s (sym (list_shown list w k served.values served.slots ready.key) ∙ ready.known (list_seen list) served.serves)

pub list_extremes : (v : NodesView) (w : Window) (k : Key) (s : Span) (list : List (Option ℤ)) → IsReady v w k (Some s)
    → ServesList v w list
    → AreExtremes list (first_slot k) (end_slot k) s
list_extremes v w k s list ready served =
    let P : Option Span → Type 0 = λ o. IsSpanOf list (first_slot k) (end_slot k) o in
    subst P (list_span v w k (Some s) list ready served) (span_over_is list (first_slot k) (end_slot k))

pub list_none : (v : NodesView) (w : Window) (k : Key) (list : List (Option ℤ)) → IsReady v w k None → ServesList v w list
    → IsClear list (first_slot k) (end_slot k)
list_none v w k list ready served =
    let P : Option Span → Type 0 = λ o. IsSpanOf list (first_slot k) (end_slot k) o in
    subst P (list_span v w k None list ready served) (span_over_is list (first_slot k) (end_slot k))

-- what holds up to a key's range and on to its end, by its halves
pub through_halves : {X : Type 0} (P : ℕ → X → Type 0) (k l r : Key) (a b c : X) → 1 ≤ k.level → l ≡ left_of k → r ≡ right_of k
    → (P (first_slot l) a → P (end_slot l) b) → (P (first_slot r) b → P (end_slot r) c) → P (first_slot k) a → P (end_slot k) c
through_halves {X} P k l r a b c low el er left right h =
    let A : ℕ → Type 0 = λ x. P x a in
    let B : ℕ → Type 0 = λ x. P x b in
    let C : ℕ → Type 0 = λ x. P x c in
    let start : first_slot k ≡ first_slot l = sym (left_first k low) ∙ sym (ap first_slot el) in
    let middle : end_slot l ≡ first_slot r = ap end_slot el ∙ sym (ap first_slot er) in
    let end : end_slot r ≡ end_slot k = ap end_slot er ∙ right_end k low in
    subst C end (right (subst B middle (left (subst A start h))))

-- nothing lies below both halves, or below a half and at the key
pub halves_apart : (k b : Key) → IsBelow (left_of k) b → IsBelow (right_of k) b → ⊥
halves_apart k b h g = omega (arith, h.to, g.from, some_slot b)

pub left_apart : (k b : Key) → 1 ≤ k.level → IsBelow (left_of k) b → b ≡ k → ⊥
left_apart k b low h same = omega (arith, h.lower, ap (λ c. c.level) same)

pub right_apart : (k b : Key) → 1 ≤ k.level → IsBelow (right_of k) b → b ≡ k → ⊥
right_apart k b low h same = omega (arith, h.lower, ap (λ c. c.level) same)

-- how a key and two parts make up a third one
pub record Halves (v : NodesView) (w : Window) (k : Key) (Left Right Part : Key → Type 0) (LeftKind RightKind Kind : Seen → Key
    → Type 0) : Type 0 where
  pub left_apart : (b : Key) → Left b → b ≡ k → ⊥
  pub right_apart : (b : Key) → Right b → b ≡ k → ⊥
  pub apart : (b : Key) → Left b → Right b → ⊥
  pub own : Part k
  pub left : (b : Key) → Left b → Part b
  pub right : (b : Key) → Right b → Part b
  pub left_kind : (S : Seen) → Serves v w S → (b : Key) → Left b → IsSeenBy S w b → LeftKind S b → Kind S b
  pub right_kind : (S : Seen) → Serves v w S → (b : Key) → Right b → IsSeenBy S w b → RightKind S b → Kind S b
  pub covers : (S : Seen) → Serves v w S → (b : Key) → IsNode (height w.axis.slots) b → Part b → IsSeenBy S w b → Kind S b
      → (b ≡ k) ⊎ ((Left b × LeftKind S b) ⊎ (Right b × RightKind S b))

pub gathers_halves : (v u t : NodesView) (w : Window) (k : Key) (c : Coef) (Left Right Part : Key → Type 0) (LeftKind RightKind Kind : Seen
    → Key → Type 0) (m n most : ℕ) (old one mid new : List (Key × Coef))
    → Halves v w k Left Right Part LeftKind RightKind Kind → 1 + m + n ≤ most → IsNode (height w.axis.slots) k → CanSplit c
    → ((S : Seen) → Serves v w S → IsToldBy S w Kind (k, c)) → one ≡ old ++ (k, c) ∷ []
    → StaysSame v u → Gathered u w Left LeftKind m one mid → StaysSame v t → Gathered t w Right RightKind n mid new
    → Gathered v w Part Kind most old new
gathers_halves v u t w k c Left Right Part LeftKind RightKind Kind m n most old one mid new halves few node good told is same_u g same_t h =
    let First : Key → Type 0 = λ b. b ≡ k in
    let Both : Key → Type 0 = λ b. (b ≡ k) ⊎ Left b in
    let P : List (Key × Coef) → Type 0 = λ items. Gathered v w First Kind 1 old items in
    let own : P one = subst P (sym is) (gathers_one v w Kind k c old node good told) in
    let KindAt : Seen → Key → Type 0 = λ S b. Kind S b in
    let first : Joins v w First Left Both Kind LeftKind Kind = record {
      apart = λ b here there. halves.left_apart b there here;
      first = λ b here. inl here;
      second = λ b there. inr there;
      first_kind = λ S served b bnode here seen kind. kind;
      second_kind = λ S served b bnode there seen kind. halves.left_kind S served b there seen kind;
      covers = λ S served b bnode part seen kind. elim part [
        | inl here ↦ inl (here, kind)
        | inr there ↦ elim (halves.covers S served b bnode (halves.left b there) seen kind) [
          | inl here ↦ inl (here, kind)
          | inr sides ↦ elim sides [ inl l ↦ inr l | inr r ↦ absurd (halves.apart b there r.0) ]
        ]
      ];
    } in
    let second : Joins v w Both Right Part Kind RightKind Kind = record {
      apart = λ b part there. elim part [ inl here ↦ halves.right_apart b there here | inr l ↦ halves.apart b l there ];
      first = λ b part. elim part [
        | inl here ↦ (let Q : Key → Type 0 = λ x. Part x in
            subst Q (sym here) halves.own)
        | inr l ↦ halves.left b l
      ];
      second = λ b there. halves.right b there;
      first_kind = λ S served b bnode here seen kind. kind;
      second_kind = λ S served b bnode there seen kind. halves.right_kind S served b there seen kind;
      covers = λ S served b bnode part seen kind. elim (halves.covers S served b bnode part seen kind) [
        | inl here ↦ inl (inl here, kind)
        | inr sides ↦ elim sides [ inl l ↦ inl (inr l.0, kind) | inr r ↦ inr r ]
      ];
    } in
    gathers_join v w Both Right Part Kind RightKind Kind (1 + m) n most old mid new second few
    (gathers_join v w First Left Both Kind LeftKind Kind 1 m (1 + m) old one mid first (le_refl (1 + m)) own
    (gathers_earlier v u w Left LeftKind m one mid same_u g))
    (gathers_earlier v t w Right RightKind n mid new same_t h)

-- counts of keys and reads
pub count_halves : (m x y z : ℕ) → x + y ≤ z → 1 ≤ z → 1 + m * x + m * y ≤ suc m * z
count_halves m x y z le some = omega (arith, mul-le-mul_left {m = x + y} {n = z} m le)

pub some_count : (m z : ℕ) → 1 ≤ m → 1 ≤ z → 1 ≤ m * z
some_count m z a b = omega (arith, mul-le-mul_left {m = 1} {n = z} m b)

-- what holds of the error that a `?` answers
pub err_cause : {T : Type 0} (r : Result T ScanOf) (Q : ScanOf → Type 0) (e : ScanOf) → IsErrAnd r (λ x. x ≡ e) → Q e → IfErr r Q
err_cause {T} r Q e h q =
    let p : (y : ScanOf) × (r ≡ Err y) × (y ≡ e) = err_from_is_err_and r h in
    let P : Result T ScanOf → Type 0 = λ x. IfErr x Q in
    subst P (sym p.1) (subst Q (sym p.2) q)
