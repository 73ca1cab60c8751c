use Rattle.std.proofs.Common.{ℕ, zero, suc, ℤ, ◌≡◌, ◌+◌, ◌*◌, ◌%◌, ◌^◌, ◌<◌, ◌≤◌, ◌⊎◌, inl, inr, cond, List, length, refl, sym, ◌∙◌, ap}
use Rattle.std.proofs.Common.{ap₂, subst, arith}
use Rattle.std.proofs.lemmas.Option.{same_Some}
use Rattle.std.specs.Prelude.{Option, Some, None, ◌==◌}
use Rattle.std.specs.Option.{option_map}
use Rattle.om3_coeff.specs.declared.key.Key.{Key}
use Rattle.om3_coeff.specs.declared.span.Span.{Span}
use Rattle.om3_coeff.specs.declared.coef.Coef.{Coef}
use Rattle.om3_coeff.specs.Keys.{first_slot, end_slot, left_of, right_of, height, IsKey, IsNode, IsOver}
use Rattle.om3_coeff.specs.Spans.{AreSlots, span}
use Rattle.om3_coeff.specs.Coefs.{parts}
use Rattle.om3_coeff.specs.Known.{half, known_below, known}
use Rattle.om3_coeff.specs.View.{NodesView, StaysSame, known_of}
use Rattle.om3_coeff.specs.Walks.{StaysBelow}
use Rattle.om3_coeff.proofs.CoefLemmas.{AreParts, parts_are}
use Rattle.om3_coeff.proofs.KeyLemmas.{left_first, right_end, left_some, right_some, left_parent, right_parent, left_key, right_key}
use Rattle.om3_coeff.proofs.KeyLemmas.{above_itself, same_key}
use Rattle.om3_coeff.proofs.KnownLemmas.{known_step, known_clear, known_spans}
use Rattle.view_keys.specs.Flat.{IsFlat}
use Rattle.view_keys.specs.Wanted.{Seen, IsWanted, IsClearBefore, IsClearBehind}
use Rattle.needed_nodes.specs.declared.window.Window.{Window}
use Rattle.needed_nodes.specs.Ranks.{IsBelow, IsCutKey, IsInside}
use Rattle.needed_nodes.specs.Serving.{Serves, ServesList, list_seen, shown_by, IsClearBy, IsReady}
use Rattle.needed_nodes.specs.Ends.{IsUnevenBy}
use Rattle.needed_nodes.proofs.Nesting.{at_or_above, slot_key, slot_below, over_half, over_right}
use Rattle.needed_nodes.proofs.RankLaws.{CutBy, cut_by, is_cut, inside_within, within_inside}

-- what nodes serve they serve before and after asks
pub serves_later : (v u : NodesView) (w : Window) (S : Seen) → StaysSame v u → Serves v w S → Serves u w S
serves_later v u w S same h = record {
  tells = same.tells h.tells;
  root = same.root ∙ h.root;
  told = λ k wanted. ap (λ f. f k) (same.told h.tells) ∙ h.told k wanted;
}

pub serves_earlier : (v u : NodesView) (w : Window) (S : Seen) → StaysSame v u → Serves u w S → Serves v w S
serves_earlier v u w S same h = record {
  tells = same.has_told h.tells;
  root = sym same.root ∙ h.root;
  told = λ k wanted. sym (ap (λ f. f k) (same.told (same.has_told h.tells))) ∙ h.told k wanted;
}

pub serves_list_later : (v u : NodesView) (w : Window) (list : List (Option ℤ)) → StaysSame v u → ServesList v w list → ServesList u w list
serves_list_later v u w list same h = record {
  values = h.values;
  few = h.few;
  slots = h.slots;
  serves = serves_later v u w (list_seen list) same h.serves;
}

pub serves_list_earlier : (v u : NodesView) (w : Window) (list : List (Option ℤ)) → StaysSame v u → ServesList u w list
    → ServesList v w list
serves_list_earlier v u w list same h = record {
  values = h.values;
  few = h.few;
  slots = h.slots;
  serves = serves_earlier v u w (list_seen list) same h.serves;
}

pub ready_later : (v u : NodesView) (w : Window) (k : Key) (s : Option Span) → StaysSame v u → u.fit → IsReady v w k s → IsReady u w k s
ready_later v u w k s same fit h = record {
  fit = fit;
  slots = same.slots ∙ h.slots;
  key = h.key;
  proper = h.proper;
  known = λ S served. h.known S (serves_earlier v u w S same served);
}

-- what nodes tell themselves
abbrev pub own_seen : NodesView → Seen
own_seen v = record { root = v.root; told = v.told }

pub serves_own : (v : NodesView) (w : Window) → v.tells → Serves v w (own_seen v)
serves_own v w tells = record { tells = tells; root = refl; told = λ k wanted. refl }

pub known_own : (v : NodesView) (w : Window) (k : Key) (s : Option Span) → IsReady v w k s → v.tells → known_of v k ≡ Some s
known_own v w k s ready tells =
    ap (λ n. known v.root v.told (height n) k) ready.slots ∙ ready.known (own_seen v) (serves_own v w tells)

-- what a list's tree shows is the list's
pub list_shown : (list : List (Option ℤ)) (w : Window) (k : Key) → AreSlots list → w.axis.slots ≡ length list
    → IsKey (height w.axis.slots) k
    → shown_by (list_seen list) w k ≡ Some (span list k)
list_shown list w k values slots key =
    let P : ℕ → Type 0 = λ n. IsKey (height n) k → known (list_seen list).root (list_seen list).told (height n) k ≡ Some (span list k) in
    subst P (sym slots) (λ own. known_spans (list_seen list).root (list_seen list).told list k values refl own
    (λ v node higher above some. refl)) key

-- what is shown of the halves of a key
even : (q : ℕ) → (2 * q) % 2 ≡ 0
even q = omega arith

odd : (q : ℕ) → (2 * q + 1) % 2 ≡ 1
odd q = omega arith

pub shown_left : (S : Seen) (w : Window) (k : Key) (s : Span) (c : Coef) (l r : Option Span) → IsNode (height w.axis.slots) k
    → shown_by S w k ≡ Some (Some s) → S.told k ≡ Some c → parts s c ≡ Some (l, r) → shown_by S w (left_of k) ≡ Some l
shown_left S w k s c l r node seen told split =
    let H : ℕ = height w.axis.slots in
    let P : Key → Type 0 = λ p. known_below (2 * k.index) (known S.root S.told H p) (S.told p) ≡ Some l in
    let here : P k =
    ap₂ (λ a b. known_below (2 * k.index) a b) seen told
    ∙ ap (option_map (half (2 * k.index))) split
    ∙ ap (λ n. Some (cond (n == 0) l r)) (even k.index) in
    known_step S.root S.told H (left_of k) (omega (arith, node.low, node.high)) ∙ subst P (sym (left_parent k node.low)) here

pub shown_right : (S : Seen) (w : Window) (k : Key) (s : Span) (c : Coef) (l r : Option Span) → IsNode (height w.axis.slots) k
    → shown_by S w k ≡ Some (Some s) → S.told k ≡ Some c → parts s c ≡ Some (l, r) → shown_by S w (right_of k) ≡ Some r
shown_right S w k s c l r node seen told split =
    let H : ℕ = height w.axis.slots in
    let P : Key → Type 0 = λ p. known_below (2 * k.index + 1) (known S.root S.told H p) (S.told p) ≡ Some r in
    let here : P k =
    ap₂ (λ a b. known_below (2 * k.index + 1) a b) seen told
    ∙ ap (option_map (half (2 * k.index + 1))) split
    ∙ ap (λ n. Some (cond (n == 0) l r)) (odd k.index) in
    known_step S.root S.told H (right_of k) (omega (arith, node.low, node.high)) ∙ subst P (sym (right_parent k node.low)) here

-- after an ask a walk has come to both halves
pub node_of : (v : NodesView) (w : Window) (k : Key) (s : Option Span) → IsReady v w k s → 1 ≤ k.level → IsNode (height w.axis.slots) k
node_of v w k s ready low = record { low = low; high = ready.key.high; within = ready.key.within }

-- what was told of the key that was asked
pub told_served : (v : NodesView) (w : Window) (k : Key) (c : Coef) (S : Seen) → (v.tells → v.told k ≡ Some c) → Serves v w S
    → IsWanted S w.axis w.grid w.lo w.hi k → S.told k ≡ Some c
told_served v w k c S told served wanted = sym (served.told k wanted) ∙ told served.tells

pub ready_left : (v u : NodesView) (w : Window) (k : Key) (s : Span) (c : Coef) (l r : Option Span) → IsReady v w k (Some s) → 1 ≤ k.level
    → ((S : Seen) → Serves v w S → IsWanted S w.axis w.grid w.lo w.hi k) → StaysSame v u → u.fit → (v.tells → v.told k ≡ Some c)
    → parts s c ≡ Some (l, r)
    → IsReady u w (left_of k) l
ready_left v u w k s c l r ready low wanted same fit told split =
    let node : IsNode (height w.axis.slots) k = node_of v w k (Some s) ready low in
    let both : AreParts s c l r = parts_are s c l r split in
    record {
      fit = fit;
      slots = same.slots ∙ ready.slots;
      key = left_key (height w.axis.slots) k node;
      proper = both.left_proper;
      known = λ S served.
          let before : Serves v w S = serves_earlier v u w S same served in
          shown_left S w k s c l r node (ready.known S before) (told_served v w k c S told before (wanted S before)) split;
    }

pub ready_right : (v u : NodesView) (w : Window) (k : Key) (s : Span) (c : Coef) (l r : Option Span) → IsReady v w k (Some s) → 1 ≤ k.level
    → ((S : Seen) → Serves v w S → IsWanted S w.axis w.grid w.lo w.hi k) → StaysSame v u → u.fit → (v.tells → v.told k ≡ Some c)
    → parts s c ≡ Some (l, r)
    → IsReady u w (right_of k) r
ready_right v u w k s c l r ready low wanted same fit told split =
    let node : IsNode (height w.axis.slots) k = node_of v w k (Some s) ready low in
    let both : AreParts s c l r = parts_are s c l r split in
    record {
      fit = fit;
      slots = same.slots ∙ ready.slots;
      key = right_key (height w.axis.slots) k node;
      proper = both.right_proper;
      known = λ S served.
          let before : Serves v w S = serves_earlier v u w S same served in
          shown_right S w k s c l r node (ready.known S before) (told_served v w k c S told before (wanted S before)) split;
    }

-- a slot of a key that has no span is clear, and so is every key below it
pub clear_slot : (S : Seen) (w : Window) (k : Key) (i : ℕ) → IsKey (height w.axis.slots) k → shown_by S w k ≡ Some None → first_slot k ≤ i
    → i < end_slot k → IsClearBy S w i
clear_slot S w k i key none from to =
    known_clear S.root S.told (height w.axis.slots) k (slot_key i) key.high (at_or_above k (slot_key i) (slot_below k i from to)) none

pub clear_key : (S : Seen) (w : Window) (k b : Key) → IsKey (height w.axis.slots) k → shown_by S w k ≡ Some None → IsBelow k b
    → shown_by S w b ≡ Some None
clear_key S w k b key none below = known_clear S.root S.told (height w.axis.slots) k b key.high (at_or_above k b below) none

-- a key is not clear where one of its slots isn't
pub record HasSlot (S : Seen) (w : Window) (k : Key) : Type 0 where
  pub slot : ℕ
  pub from : first_slot k ≤ slot
  pub to : slot < end_slot k
  pub unclear : IsClearBy S w slot → ⊥

slot_in_left : (S : Seen) (w : Window) (k : Key) → 1 ≤ k.level → HasSlot S w (left_of k) → HasSlot S w k
slot_in_left S w k low h = record {
  slot = h.slot;
  from = omega (arith, h.from, left_first k low);
  to = omega (arith, h.to, right_some k low);
  unclear = h.unclear;
}

slot_in_right : (S : Seen) (w : Window) (k : Key) → 1 ≤ k.level → HasSlot S w (right_of k) → HasSlot S w k
slot_in_right S w k low h = record {
  slot = h.slot;
  from = omega (arith, h.from, left_some k low);
  to = omega (arith, h.to, right_end k low);
  unclear = h.unclear;
}

-- one of the halves of a key that isn't clear isn't clear
unknown_left : (S : Seen) (w : Window) (k : Key) (a : Option (Option Span)) (c : Option Coef) → IsNode (height w.axis.slots) k
    → shown_by S w k ≡ a → S.told k ≡ c → known_below (2 * k.index) a c ≡ None → shown_by S w (left_of k) ≡ Some None → ⊥
unknown_left S w k a c node ea ec none clear =
    let H : ℕ = height w.axis.slots in
    let P : Key → Type 0 = λ p. known_below (2 * k.index) (known S.root S.told H p) (S.told p) ≡ None in
    let here : P k = ap₂ (λ a b. known_below (2 * k.index) a b) ea ec ∙ none in
    let left : shown_by S w (left_of k) ≡ None =
    known_step S.root S.told H (left_of k) (omega (arith, node.low, node.high)) ∙ subst P (sym (left_parent k node.low)) here in
    cc

abbrev EitherUnclear : Seen → Window → Key → Type 0
EitherUnclear S w k = (shown_by S w (left_of k) ≡ Some None → ⊥) ⊎ (shown_by S w (right_of k) ≡ Some None → ⊥)

both_unclear : (S : Seen) (w : Window) (k : Key) (s : Span) (c : Coef) (l r : Option Span) → IsNode (height w.axis.slots) k
    → shown_by S w k ≡ Some (Some s) → S.told k ≡ Some c → parts s c ≡ Some (l, r) → EitherUnclear S w k
both_unclear S w k s c (Some l) r node seen told split =
    inl (λ clear. let left : shown_by S w (left_of k) ≡ Some (Some l) = shown_left S w k s c (Some l) r node seen told split in cc)
both_unclear S w k s c None (Some r) node seen told split =
    inr (λ clear. let right : shown_by S w (right_of k) ≡ Some (Some r) = shown_right S w k s c None (Some r) node seen told split in cc)
both_unclear S w k s c None None node seen told split =
    let both : AreParts s c None None = parts_are s c None None split in absurd (let e : None ≡ Some s = both.whole in cc)

split_unclear : (S : Seen) (w : Window) (k : Key) (s : Span) (c : Coef) (p : Option (Option Span × Option Span))
    → IsNode (height w.axis.slots) k
    → shown_by S w k ≡ Some (Some s) → S.told k ≡ Some c → parts s c ≡ p → EitherUnclear S w k
split_unclear S w k s c None node seen told split =
    inl (unknown_left S w k (Some (Some s)) (Some c) node seen told (ap (option_map (half (2 * k.index))) split))
split_unclear S w k s c (Some p) node seen told split = both_unclear S w k s c p.0 p.1 node seen told split

told_unclear : (S : Seen) (w : Window) (k : Key) (a : Option (Option Span)) (c : Option Coef) → IsNode (height w.axis.slots) k
    → shown_by S w k ≡ a → S.told k ≡ c → (a ≡ Some None → ⊥) → EitherUnclear S w k
told_unclear S w k None c node ea ec some = inl (unknown_left S w k None c node ea ec refl)
told_unclear S w k (Some None) c node ea ec some = absurd (some refl)
told_unclear S w k (Some (Some s)) None node ea ec some = inl (unknown_left S w k (Some (Some s)) None node ea ec refl)
told_unclear S w k (Some (Some s)) (Some c) node ea ec some = split_unclear S w k s c (parts s c) node ea ec refl

unclear_at : (S : Seen) (w : Window) (level : ℕ) (k : Key) → k.level ≡ level → IsKey (height w.axis.slots) k
    → (shown_by S w k ≡ Some None → ⊥) → HasSlot S w k
unclear_at S w zero k levels key some =
    let one : 2 ^ k.level ≡ 1 = ap (λ n. 2 ^ n) levels in
    let same : slot_key k.index ≡ k = same_key (slot_key k.index) k (sym levels) refl in
    let P : Key → Type 0 = λ b. shown_by S w b ≡ Some None → ⊥ in
    record {
      slot = k.index;
      from = omega (arith, ap (λ n. k.index * n) one);
      to = omega (arith, ap (λ n. (k.index + 1) * n) one);
      unclear = subst P (sym same) some;
    }
unclear_at S w (suc level) k levels key some =
    let low : 1 ≤ k.level = omega arith in
    let node : IsNode (height w.axis.slots) k = record { low = low; high = key.high; within = key.within } in
    elim (told_unclear S w k (shown_by S w k) (S.told k) node refl refl some) [
      | inl left ↦ slot_in_left S w k low (unclear_at S w level (left_of k) (omega arith) (left_key (height w.axis.slots) k node) left)
      | inr right ↦ slot_in_right S w k low (unclear_at S w level (right_of k) (omega arith) (right_key (height w.axis.slots) k node) right)
    ]

-- a key with a span has a slot that isn't clear
pub unclear_slot : (S : Seen) (w : Window) (k : Key) (s : Span) → IsKey (height w.axis.slots) k → shown_by S w k ≡ Some (Some s)
    → HasSlot S w k
unclear_slot S w k s key seen = unclear_at S w k.level k refl key (λ clear. cc)

over_own : (k : Key) (asked : Option Key) → asked ≡ Some k → IsOver k asked
over_own k asked is =
    let P : Option Key → Type 0 = λ a. IsOver k a in subst P (sym is) (above_itself k)

over_after : (k : Key) (asked now : Option Key) → 1 ≤ k.level → asked ≡ Some k → StaysBelow (left_of k) asked now → IsOver k now
over_after k asked now low is stays = elim stays [
  | inl same ↦ over_own k now (same ∙ is)
  | inr over ↦ over_half k now low over
]

pub stays_below : (k : Key) (old asked between now : Option Key) → 1 ≤ k.level → asked ≡ Some k → StaysBelow (left_of k) asked between
    → StaysBelow (right_of k) between now → StaysBelow k old now
stays_below k old asked between now low is left right = elim right [
  | inl same ↦
      let P : Option Key → Type 0 = λ a. IsOver k a in
      inr (subst P (sym same) (over_after k asked between low is left))
  | inr over ↦ inr (over_right k now low over)
]

-- which keys are wanted
pub cut_wanted : (S : Seen) (w : Window) (k : Key) (s : Span) → IsNode (height w.axis.slots) k → shown_by S w k ≡ Some (Some s)
    → IsCutKey w k → IsWanted S w.axis w.grid w.lo w.hi k
cut_wanted S w k s node seen cut =
    let by : CutBy w k = cut_by w k cut in
    record { node = node; span = s; known_so = seen; column = by.column; shown = by.shown; reason = inl by.cut }

pub end_wanted : (S : Seen) (w : Window) (c : ℕ) (k : Key) (s : Span) → IsNode (height w.axis.slots) k → shown_by S w k ≡ Some (Some s)
    → IsInside w c k
    → (IsFlat w.lo w.hi w.grid.h s → ⊥) → IsClearBefore S w.axis w.grid c k ⊎ IsClearBehind S w.axis w.grid c k
    → IsWanted S w.axis w.grid w.lo w.hi k
end_wanted S w c k s node seen own uneven clear =
    record { node = node; span = s; known_so = seen; column = c; shown = own.shown; reason = inr (inside_within w c k own, uneven, clear) }

-- a key is uneven where the span that is seen of it is
pub uneven_of : (S : Seen) (w : Window) (k : Key) (s : Span) → shown_by S w k ≡ Some (Some s) → (IsFlat w.lo w.hi w.grid.h s → ⊥)
    → IsUnevenBy S w k
uneven_of S w k s seen uneven t there flat =
    let same : t ≡ s = same_Some t s (same_Some (Some t) (Some s) (sym there ∙ seen)) in
    let P : Span → Type 0 = λ x. IsFlat w.lo w.hi w.grid.h x in uneven (subst P same flat)

-- what a wanted key is
pub record WantedEnd (S : Seen) (w : Window) (k : Key) : Type 0 where
  pub column : ℕ
  pub inside : IsInside w column k
  pub uneven : IsUnevenBy S w k
  pub clear : IsClearBefore S w.axis w.grid column k ⊎ IsClearBehind S w.axis w.grid column k

pub wanted_cases : (S : Seen) (w : Window) (k : Key) → IsWanted S w.axis w.grid w.lo w.hi k → IsCutKey w k ⊎ WantedEnd S w k
wanted_cases S w k wanted = elim wanted.reason [
  | inl cut ↦ inl (is_cut w wanted.column k cut)
  | inr own ↦ inr (record {
    column = wanted.column;
    inside = within_inside w wanted.column k own.0;
    uneven = uneven_of S w k wanted.span wanted.known_so own.1;
    clear = own.2;
  })
]

-- the same under other names
pub ready_as : (v : NodesView) (w : Window) (k : Key) (s t : Option Span) → s ≡ t → IsReady v w k s → IsReady v w k t
ready_as v w k s t e h = let P : Option Span → Type 0 = λ o. IsReady v w k o in subst P e h

pub ready_at : (v : NodesView) (w : Window) (k l : Key) (s : Option Span) → l ≡ k → IsReady v w k s → IsReady v w l s
ready_at v w k l s e h = let P : Key → Type 0 = λ b. IsReady v w b s in subst P (sym e) h

pub ready_on : (v u : NodesView) (w : Window) (k l : Key) (s : Option Span) → l ≡ k → StaysSame v u → u.fit → IsReady v w k s
    → IsReady u w l s
ready_on v u w k l s e same fit h = ready_at u w k l s e (ready_later v u w k s same fit h)

pub stays_below_at : (k l r : Key) (old asked between now : Option Key) → 1 ≤ k.level → l ≡ left_of k → r ≡ right_of k → asked ≡ Some k
    → StaysBelow l asked between → StaysBelow r between now
    → StaysBelow k old now
stays_below_at k l r old asked between now low el er is left right =
    let P : Key → Type 0 = λ b. StaysBelow b asked between in
    let Q : Key → Type 0 = λ b. StaysBelow b between now in
    stays_below k old asked between now low is (subst P el left) (subst Q er right)
