use Rattle.std.proofs.Common.{ℕ, suc, ℤ, ◌≡◌, ◌+◌, ◌-◌, ◌*◌, ◌^◌, ◌<◌, ◌≤◌, ◌≤ℤ◌, ◌⊎◌, inl, inr, Bool, true, false, cond, List, [], ◌∷◌}
use Rattle.std.proofs.Common.{◌++◌, refl, sym, ◌∙◌, ap, subst, arith}
use Rattle.std.proofs.lemmas.Int.{ints, clamps}
use Rattle.std.proofs.lemmas.Option.{same_Some}
use Rattle.std.specs.Prelude.{Option, Some, None, IsTrue, IsSome, IfSome, is_none, ◌&&◌}
use Rattle.std.specs.Int.{int_min, int_max}
use Rattle.chart_grid.specs.Slots.{IsInColumn}
use Rattle.om3_coeff.specs.declared.key.Key.{Key}
use Rattle.om3_coeff.specs.declared.span.Span.{Span}
use Rattle.om3_coeff.specs.declared.coef.Coef.{Coef}
use Rattle.om3_coeff.specs.Keys.{first_slot, end_slot, left_of, right_of, height, IsNode, IsAtOrAbove}
use Rattle.om3_coeff.specs.Known.{known}
use Rattle.om3_coeff.specs.Spans.{Holds, IsClear, AreExtremes, hull}
use Rattle.om3_coeff.specs.View.{NodesView, StaysSame}
use Rattle.om3_coeff.proofs.KeyLemmas.{by_lt, left_first, right_end, left_some, right_some, left_key, right_key}
use Rattle.chart_grid.specs.Projection.{height as height_of}
use Rattle.view_keys.specs.Flat.{IsFlat}
use Rattle.view_keys.specs.Wanted.{Seen, IsWanted, IsClearBefore, IsClearBehind}
use Rattle.needed_nodes.specs.declared.window.Window.{Window}
use Rattle.needed_nodes.specs.declared.ends.Sought.{Sought}
use Rattle.needed_nodes.specs.declared.ends.EndValues.{EndValues}
use Rattle.needed_nodes.specs.Ranks.{IsInside, IsBelow}
use Rattle.needed_nodes.specs.Answers.{CanSplit}
use Rattle.needed_nodes.specs.Serving.{Serves, ServesList, shown_by, IsReady}
use Rattle.needed_nodes.specs.Gathering.{Gathered}
use Rattle.needed_nodes.specs.Ends.{MayHold, HoldsSought, one_if, most_ends, sought_left, sought_right, slot_values, either, halves_values}
use Rattle.needed_nodes.specs.Ends.{IsAmong, AreAmong, HoldsAs, IsFirstIn, IsLastIn, Follows}
use Rattle.needed_nodes.proofs.StoredEnds.{FirstStored, LastStored, first_stored, last_stored}
use Rattle.needed_nodes.proofs.Nesting.{at_or_above, some_slot, left_below, right_below, below_on, below_itself, below_cases}
use Rattle.needed_nodes.proofs.Nesting.BelowCase.{at_key, in_left, in_right}
use Rattle.needed_nodes.proofs.RankLaws.{inside_below, inside_rank, rank_column}
use Rattle.needed_nodes.proofs.ServeLaws.{uneven_of, HasSlot, unclear_slot, serves_later, serves_earlier, end_wanted, clear_slot, clear_key}
use Rattle.needed_nodes.proofs.ServeLaws.{node_of, stays_below_at, serves_list_later}
use Rattle.needed_nodes.proofs.GatherLaws.{gathers_nothing}
use Rattle.needed_nodes.proofs.StepLaws.{list_extremes, list_none, Halves, gathers_halves, halves_apart, left_apart, right_apart}
use Rattle.needed_nodes.proofs.StepLaws.{some_count}

and_true : (a b : Bool) → (a && b) ≡ true → (a ≡ true) × (b ≡ true)
and_true true b h = (refl, h)
and_true false b h = absurd (cc)

true_and : (a b : Bool) → a ≡ true → b ≡ true → (a && b) ≡ true
true_and true b p q = q
true_and false b p q = p

none_is : {X : Type 0} (o : Option X) → is_none o ≡ true → o ≡ None
none_is None h = refl
none_is (Some x) h = absurd (cc)

is_none_true : {X : Type 0} (o : Option X) → o ≡ None → is_none o ≡ true
is_none_true None h = refl
is_none_true (Some x) h = absurd (cc)

-- the key is one that the view wants where it may hold a sought end
pub sought_wanted : (v : NodesView) (w : Window) (c : ℕ) (k : Key) (s : Span) (sought : Sought) → IsReady v w k (Some s) → 1 ≤ k.level
    → IsInside w c k
    → (IsFlat w.lo w.hi w.grid.h s → ⊥) → IsTrue sought.first ⊎ IsTrue sought.last → ((S : Seen) → Serves v w S → MayHold S w c sought k)
    → (S : Seen) → Serves v w S → IsWanted S w.axis w.grid w.lo w.hi k
sought_wanted v w c k s sought ready low own uneven some hold S served =
    end_wanted S w c k s (node_of v w k (Some s) ready low) (ready.known S served) own uneven
    (elim some [ inl first ↦ inl ((hold S served).first first) | inr last ↦ inr ((hold S served).last last) ])

-- a half may hold what is sought in it
hold_left : (S : Seen) (w : Window) (c : ℕ) (k : Key) (sought : Sought) (right : Option Span) → IsNode (height w.axis.slots) k
    → shown_by S w (right_of k) ≡ Some right → MayHold S w c sought k → MayHold S w c (sought_left sought right) (left_of k)
hold_left S w c k sought right node shown h = record {
  first = λ first i column before. h.first first i column (omega (arith, left_first k node.low));
  last = λ last i column behind.
      let both : (sought.last ≡ true) × (is_none right ≡ true) = and_true sought.last (is_none right) last in
      by_lt i (end_slot k)
      (λ less. clear_slot S w (right_of k) i (right_key (height w.axis.slots) k node)
      (shown ∙ ap (λ o. Some o) (none_is right both.1)) behind (omega (arith, right_end k node.low)))
      (λ past. h.last both.0 i column past);
}

hold_right : (S : Seen) (w : Window) (c : ℕ) (k : Key) (sought : Sought) (left : Option Span) → IsNode (height w.axis.slots) k
    → shown_by S w (left_of k) ≡ Some left → MayHold S w c sought k → MayHold S w c (sought_right sought left) (right_of k)
hold_right S w c k sought left node shown h = record {
  first = λ first i column before.
      let both : (sought.first ≡ true) × (is_none left ≡ true) = and_true sought.first (is_none left) first in
      by_lt i (first_slot k)
      (λ less. h.first both.0 i column less)
      (λ from. clear_slot S w (left_of k) i (left_key (height w.axis.slots) k node)
      (shown ∙ ap (λ o. Some o) (none_is left both.1)) (omega (arith, left_first k node.low)) before);
  last = λ last i column behind. h.last last i column (omega (arith, right_end k node.low));
}

pub may_hold_left : (v u : NodesView) (w : Window) (c : ℕ) (k l : Key) (s : Option Span) (sought sl : Sought) (right : Option Span)
    → l ≡ left_of k → sl ≡ sought_left sought right
    → IsReady v w k s → 1 ≤ k.level → StaysSame v u → IsReady u w (right_of k) right → ((S : Seen) → Serves v w S → MayHold S w c sought k)
    → (S : Seen) → Serves u w S → MayHold S w c sl l
may_hold_left v u w c k l s sought sl right el es ready low same there hold S served =
    let P : Key → Type 0 = λ b. MayHold S w c sl b in
    let Q : Sought → Type 0 = λ x. MayHold S w c x (left_of k) in
    subst P (sym el) (subst Q (sym es)
    (hold_left S w c k sought right (node_of v w k s ready low) (there.known S served) (hold S (serves_earlier v u w S same served))))

pub may_hold_right : (v u t : NodesView) (w : Window) (c : ℕ) (k r : Key) (s : Option Span) (sought sr : Sought) (left : Option Span)
    → r ≡ right_of k → sr ≡ sought_right sought left
    → IsReady v w k s → 1 ≤ k.level → StaysSame v u → StaysSame v t → IsReady u w (left_of k) left
    → ((S : Seen) → Serves v w S → MayHold S w c sought k)
    → (S : Seen) → Serves t w S → MayHold S w c sr r
may_hold_right v u t w c k r s sought sr left er es ready low same same_t there hold S served =
    let before : Serves v w S = serves_earlier v t w S same_t served in
    let P : Key → Type 0 = λ b. MayHold S w c sr b in
    let Q : Sought → Type 0 = λ x. MayHold S w c x (right_of k) in
    subst P (sym er) (subst Q (sym es)
    (hold_right S w c k sought left (node_of v w k s ready low) (there.known S (serves_later v u w S same before)) (hold S before)))

pub inside_left : (w : Window) (c : ℕ) (k l : Key) → 1 ≤ k.level → l ≡ left_of k → IsInside w c k → IsInside w c l
inside_left w c k l low el own =
    let P : Key → Type 0 = λ b. IsInside w c b in subst P (sym el) (inside_below w c k (left_of k) (left_below k low) own)

pub inside_right : (w : Window) (c : ℕ) (k r : Key) → 1 ≤ k.level → r ≡ right_of k → IsInside w c k → IsInside w c r
inside_right w c k r low er own =
    let P : Key → Type 0 = λ b. IsInside w c b in subst P (sym er) (inside_below w c k (right_of k) (right_below k low) own)

-- a half with a span has a slot of the column that isn't clear
in_column : (w : Window) (c : ℕ) (k : Key) (i : ℕ) → IsInside w c k → first_slot k ≤ i → i < end_slot k → IsInColumn w.axis w.grid c i
in_column w c k i own from to = rank_column w c i (inside_rank w c k i own from to) own.shown

right_empty : (S : Seen) (w : Window) (c : ℕ) (k b : Key) (right : Option Span) → IsNode (height w.axis.slots) k → IsInside w c k
    → shown_by S w (right_of k) ≡ Some right → IsBelow (left_of k) b → IsClearBehind S w.axis w.grid c b → right ≡ None
right_empty S w c k b None node own shown below clear = refl
right_empty S w c k b (Some s) node own shown below clear =
    let h : HasSlot S w (right_of k) = unclear_slot S w (right_of k) s (right_key (height w.axis.slots) k node) shown in
    absurd (h.unclear (clear h.slot
    (in_column w c k h.slot own (omega (arith, h.from, left_some k node.low)) (omega (arith, h.to, right_end k node.low)))
    (omega (arith, h.from, below.to))))

left_empty : (S : Seen) (w : Window) (c : ℕ) (k b : Key) (left : Option Span) → IsNode (height w.axis.slots) k → IsInside w c k
    → shown_by S w (left_of k) ≡ Some left → IsBelow (right_of k) b → IsClearBefore S w.axis w.grid c b → left ≡ None
left_empty S w c k b None node own shown below clear = refl
left_empty S w c k b (Some s) node own shown below clear =
    let h : HasSlot S w (left_of k) = unclear_slot S w (left_of k) s (left_key (height w.axis.slots) k node) shown in
    absurd (h.unclear (clear h.slot
    (in_column w c k h.slot own (omega (arith, h.from, left_first k node.low)) (omega (arith, h.to, right_some k node.low)))
    (omega (arith, h.to, below.from))))

-- which keys hold a sought end, by the halves
end_halves : (v u : NodesView) (w : Window) (c : ℕ) (k : Key) (sought : Sought) (left right : Option Span) → IsNode (height w.axis.slots) k
    → IsInside w c k
    → StaysSame v u → IsReady u w (left_of k) left → IsReady u w (right_of k) right
    → Halves v w k (IsBelow (left_of k)) (IsBelow (right_of k)) (IsBelow k)
    (HoldsSought w c (sought_left sought right)) (HoldsSought w c (sought_right sought left)) (HoldsSought w c sought)
end_halves v u w c k sought left right node own same_views lready rready = record {
  left_apart = λ b h is. left_apart k b node.low h is;
  right_apart = λ b h is. right_apart k b node.low h is;
  apart = λ b h g. halves_apart k b h g;
  own = below_itself k;
  left = λ b h. below_on k (left_of k) b (left_below k node.low) h;
  right = λ b h. below_on k (right_of k) b (right_below k node.low) h;
  left_kind = λ S served b h seen kind. (
    kind.0,
    elim kind.1 [
      | inl first ↦ inl first
      | inr last ↦ inr ((and_true sought.last (is_none right) last.0).0, last.1)
    ],
  );
  right_kind = λ S served b h seen kind. (
    kind.0,
    elim kind.1 [
      | inl first ↦ inl ((and_true sought.first (is_none left) first.0).0, first.1)
      | inr last ↦ inr last
    ],
  );
  covers = λ S served b bnode h seen kind.
      let later : Serves u w S = serves_later v u w S same_views served in
      elim (below_cases k b node.low h) [
        | at_key is ↦ inl is
        | in_left below ↦ inr (inl (
          below,
          (
            kind.0,
            elim kind.1 [
              | inl first ↦ inl first
              | inr last ↦ inr (
                true_and sought.last (is_none right) last.0
                    (is_none_true right (right_empty S w c k b right node own (rready.known S later) below last.1)),
                last.1,
              )
            ],
          ),
        ))
        | in_right below ↦ inr (inr (
          below,
          (
            kind.0,
            elim kind.1 [
              | inl first ↦ inl (
                true_and sought.first (is_none left) first.0
                    (is_none_true left (left_empty S w c k b left node own (lready.known S later) below first.1)),
                first.1,
              )
              | inr last ↦ inr last
            ],
          ),
        ))
      ];
}

-- how many they are
count_both : (m : ℕ) (f l : Bool) → (f ≡ true) ⊎ (l ≡ true)
    → 1 + m * (one_if f + one_if (l && false)) + m * (one_if (f && false) + one_if l) ≤ suc m * (one_if f + one_if l)
count_both m true true some = omega arith
count_both m true false some = omega arith
count_both m false true some = omega arith
count_both m false false some = elim some [ inl h ↦ absurd (cc) | inr h ↦ absurd (cc) ]

count_one : (m : ℕ) (f l : Bool) → (f ≡ true) ⊎ (l ≡ true) → 1 + m * (one_if f + one_if (l && true)) ≤ suc m * (one_if f + one_if l)
count_one m true true some = omega arith
count_one m true false some = omega arith
count_one m false true some = omega arith
count_one m false false some = elim some [ inl h ↦ absurd (cc) | inr h ↦ absurd (cc) ]

count_other : (m : ℕ) (f l : Bool) → (f ≡ true) ⊎ (l ≡ true) → 1 + m * (one_if (f && true) + one_if l) ≤ suc m * (one_if f + one_if l)
count_other m true true some = omega arith
count_other m true false some = omega arith
count_other m false true some = omega arith
count_other m false false some = elim some [ inl h ↦ absurd (cc) | inr h ↦ absurd (cc) ]

count_ends : (m : ℕ) (k : Key) (sought : Sought) (s : Span) (left right : Option Span) → k.level ≡ suc m
    → IsTrue sought.first ⊎ IsTrue sought.last → hull left right ≡ Some s
    → 1 + most_ends left (sought_left sought right) (left_of k) + most_ends right (sought_right sought left)
    (right_of k) ≤ suc m * (one_if sought.first + one_if sought.last)
count_ends m k sought s (Some a) (Some b) level some whole =
    let down : k.level - 1 ≡ m = omega arith in
    omega (
      arith,
      count_both m sought.first sought.last some,
      ap (λ n. n * (one_if sought.first + one_if (sought.last && false))) down,
      ap (λ n. n * (one_if (sought.first && false) + one_if sought.last)) down,
    )
count_ends m k sought s (Some a) None level some whole =
    let down : k.level - 1 ≡ m = omega arith in
    omega (arith, count_one m sought.first sought.last some, ap (λ n. n * (one_if sought.first + one_if (sought.last && true))) down)
count_ends m k sought s None (Some b) level some whole =
    let down : k.level - 1 ≡ m = omega arith in
    omega (arith, count_other m sought.first sought.last some, ap (λ n. n * (one_if (sought.first && true) + one_if sought.last)) down)
count_ends m k sought s None None level some whole = absurd (cc)

pub most_ends_halves : (k l r : Key) (sought sl sr : Sought) (s : Span) (left right : Option Span) → 1 ≤ k.level → l ≡ left_of k
    → r ≡ right_of k
    → sl ≡ sought_left sought right → sr ≡ sought_right sought left → IsTrue sought.first ⊎ IsTrue sought.last → hull left right ≡ Some s
    → 1 + most_ends left sl l + most_ends right sr r ≤ most_ends (Some s) sought k
most_ends_halves k l r sought sl sr s left right low el er esl esr some whole =
    let up : k.level ≡ suc (k.level - 1) = omega arith in
    omega (
      arith,
      count_ends (k.level - 1) k sought s left right up some whole,
      ap (λ x. most_ends left x l) esl,
      ap (λ b. most_ends left (sought_left sought right) b) el,
      ap (λ x. most_ends right x r) esr,
      ap (λ b. most_ends right (sought_right sought left) b) er,
      ap (λ n. n * (one_if sought.first + one_if sought.last)) up,
    )

some_flag : (f l : Bool) → (f ≡ true) ⊎ (l ≡ true) → 1 ≤ one_if f + one_if l
some_flag true l some = omega arith
some_flag false true some = omega arith
some_flag false false some = elim some [ inl h ↦ absurd (cc) | inr h ↦ absurd (cc) ]

-- nothing to gather
pub ends_none : (v : NodesView) (w : Window) (c : ℕ) (k : Key) (sought : Sought) (items : List (Key × Coef)) → IsReady v w k None
    → Gathered v w (IsBelow k) (HoldsSought w c sought) (most_ends None sought k) items items
ends_none v w c k sought items ready =
    gathers_nothing v w (IsBelow k) (HoldsSought w c sought) (most_ends None sought k) items
    (λ S served b node part seen kind.
    let none : shown_by S w b ≡ Some None = clear_key S w k b ready.key (ready.known S served) part in
    let some : shown_by S w b ≡ Some (Some seen.0) = seen.1 in cc)

pub ends_unsought : (v : NodesView) (w : Window) (c : ℕ) (k : Key) (s : Option Span) (sought : Sought) (items : List (Key × Coef))
    → (sought.first ≡ false) × (sought.last ≡ false)
    → Gathered v w (IsBelow k) (HoldsSought w c sought) (most_ends s sought k) items items
ends_unsought v w c k s sought items off =
    gathers_nothing v w (IsBelow k) (HoldsSought w c sought) (most_ends s sought k) items
    (λ S served b node part seen kind. elim kind.1 [
      | inl first ↦ (let on : sought.first ≡ true = first.0 in let none : sought.first ≡ false = off.0 in cc)
      | inr last ↦ (let on : sought.last ≡ true = last.0 in let none : sought.last ≡ false = off.1 in cc)
    ])

pub ends_slot : (v : NodesView) (w : Window) (c : ℕ) (k : Key) (s : Option Span) (sought : Sought) (items : List (Key × Coef)) → k.level ≡ 0
    → Gathered v w (IsBelow k) (HoldsSought w c sought) (most_ends s sought k) items items
ends_slot v w c k s sought items none =
    gathers_nothing v w (IsBelow k) (HoldsSought w c sought) (most_ends s sought k) items
    (λ S served b node part seen kind. omega (arith, node.low, part.lower))

-- what is seen below a flat key is flat, and each value of a flat span has its height
abbrev pub FlatBelow : Type 0
FlatBelow =
    (root : Option Span) (told : Key → Option Coef) (top : ℕ) (w k : Key) (lo hi : ℤ) (h : ℕ) (s t : Span)
    → w.level ≤ top → IsAtOrAbove w k → known root told top w ≡ Some (Some t) → known root told top k ≡ Some (Some s)
    → IsFlat lo hi h t → IsFlat lo hi h s

abbrev pub FlatValues : Type 0
FlatValues = (lo hi v : ℤ) (h : ℕ) (s : Span) → IsFlat lo hi h s → s.min ≤ℤ v → v ≤ℤ s.max → height_of v lo hi h ≡ height_of s.min lo hi h

ends_flat : FlatBelow → (v : NodesView) (w : Window) (c : ℕ) (k : Key) (s : Span) (sought : Sought) (items : List (Key × Coef))
    → IsReady v w k (Some s) → IsFlat w.lo w.hi w.grid.h s
    → Gathered v w (IsBelow k) (HoldsSought w c sought) (most_ends (Some s) sought k) items items
ends_flat below v w c k s sought items ready flat =
    gathers_nothing v w (IsBelow k) (HoldsSought w c sought) (most_ends (Some s) sought k) items
    (λ S served b node part seen kind.
    kind.0 seen.0 seen.1
    (below S.root S.told (height w.axis.slots) k b w.lo w.hi w.grid.h seen.0 s ready.key.high (at_or_above k b part)
    (ready.known S served) seen.1 flat))

-- the keys of the halves, and the key
pub ends_both : (v u t : NodesView) (w : Window) (c : ℕ) (k l r : Key) (s : Span) (sought sl sr : Sought) (left right : Option Span)
    (coef : Coef) (old one mid new : List (Key × Coef))
    → l ≡ left_of k → r ≡ right_of k → sl ≡ sought_left sought right → sr ≡ sought_right sought left
    → IsReady v w k (Some s) → 1 ≤ k.level → IsInside w c k → (IsFlat w.lo w.hi w.grid.h s → ⊥) → IsTrue sought.first ⊎ IsTrue sought.last
    → ((S : Seen) → Serves v w S → MayHold S w c sought k)
    → hull left right ≡ Some s → StaysSame v u → IsReady u w (left_of k) left → IsReady u w (right_of k) right
    → ((S : Seen) → Serves v w S → S.told k ≡ Some coef) → CanSplit coef → one ≡ old ++ (k, coef) ∷ []
    → Gathered u w (IsBelow l) (HoldsSought w c sl) (most_ends left sl l) one mid
    → StaysSame v t → Gathered t w (IsBelow r) (HoldsSought w c sr) (most_ends right sr r) mid new
    → Gathered v w (IsBelow k) (HoldsSought w c sought) (most_ends (Some s) sought k) old new
ends_both v u t w c k l r s sought sl sr left right coef old one mid new el er esl esr ready low own uneven some hold whole same_u lready
    rready told good is g same_t h =
    let node : IsNode (height w.axis.slots) k = node_of v w k (Some s) ready low in
    let L : Key → Sought → Type 0 = λ b x. Gathered u w (IsBelow b) (HoldsSought w c x) (most_ends left x b) one mid in
    let R : Key → Sought → Type 0 = λ b x. Gathered t w (IsBelow b) (HoldsSought w c x) (most_ends right x b) mid new in
    let gl : L (left_of k) (sought_left sought right) =
    (let P : Key → Type 0 = λ b. L b (sought_left sought right) in let Q : Sought → Type 0 = λ x. L l x in subst P el (subst Q esl g)) in
    let gr : R (right_of k) (sought_right sought left) =
    (let P : Key → Type 0 = λ b. R b (sought_right sought left) in let Q : Sought → Type 0 = λ x. R r x in subst P er (subst Q esr h)) in
    gathers_halves v u t w k coef (IsBelow (left_of k)) (IsBelow (right_of k)) (IsBelow k)
    (HoldsSought w c (sought_left sought right)) (HoldsSought w c (sought_right sought left)) (HoldsSought w c sought)
    (most_ends left (sought_left sought right) (left_of k)) (most_ends right (sought_right sought left) (right_of k))
    (most_ends (Some s) sought k) old one mid new
    (end_halves v u w c k sought left right node own same_u lready rready)
    (most_ends_halves k (left_of k) (right_of k) sought (sought_left sought right)
    (sought_right sought left) s left right low refl refl refl refl some whole)
    node good
    (λ S served. record {
      kind = (
        uneven_of S w k s (ready.known S served) uneven,
        elim some [ inl first ↦ inl (first, (hold S served).first first) | inr last ↦ inr (last, (hold S served).last last) ],
      );
      seen = (s, ready.known S served);
      coef = told S served;
    })
    is same_u gl same_t gr

-- values lie within the span
either_among : (a b : Option ℤ) (P Q R : ℤ → Type 0) → ((v : ℤ) → P v → R v) → ((v : ℤ) → Q v → R v) → IfSome a P → IfSome b Q
    → IfSome (either a b) R
either_among None b P Q R p q h g = some_map b Q R q g
  where
    some_map : (b : Option ℤ) (Q R : ℤ → Type 0) → ((v : ℤ) → Q v → R v) → IfSome b Q → IfSome b R
    some_map None Q R q g = tt
    some_map (Some x) Q R q g = q x g
either_among (Some a) b P Q R p q h g = p a h

among_left : (s : Span) (left right : Option Span) (v : ℤ) → hull left right ≡ Some s → IsAmong left v → IsAmong (Some s) v
among_left s None right v whole h = absurd h
among_left s (Some a) None v whole h =
    let P : Span → Type 0 = λ t. IsAmong (Some t) v in subst P (same_Some a s whole) h
among_left s (Some a) (Some b) v whole h =
    let t : Span = record { min = int_min a.min b.min; max = int_max a.max b.max } in
    let P : Span → Type 0 = λ t. IsAmong (Some t) v in
    subst P (same_Some t s whole) (omega (arith, ints, clamps, h.0), omega (arith, ints, clamps, h.1))

among_right : (s : Span) (left right : Option Span) (v : ℤ) → hull left right ≡ Some s → IsAmong right v → IsAmong (Some s) v
among_right s left None v whole h = absurd h
among_right s None (Some b) v whole h =
    let P : Span → Type 0 = λ t. IsAmong (Some t) v in subst P (same_Some b s whole) h
among_right s (Some a) (Some b) v whole h =
    let t : Span = record { min = int_min a.min b.min; max = int_max a.max b.max } in
    let P : Span → Type 0 = λ t. IsAmong (Some t) v in
    subst P (same_Some t s whole) (omega (arith, ints, clamps, h.0), omega (arith, ints, clamps, h.1))

pub among_halves : (s : Span) (left right : Option Span) (l r values : EndValues) → hull left right ≡ Some s → AreAmong left l
    → AreAmong right r → values ≡ halves_values l r
    → AreAmong (Some s) values
among_halves s left right l r values whole h g is =
    let P : EndValues → Type 0 = λ x. AreAmong (Some s) x in
    subst P (sym is) (record {
      first = either_among l.first r.first (IsAmong left) (IsAmong right) (IsAmong (Some s)) (λ v. among_left s left right v whole)
          (λ v. among_right s left right v whole) h.first g.first;
      last = either_among r.last l.last (IsAmong right) (IsAmong left) (IsAmong (Some s)) (λ v. among_right s left right v whole)
          (λ v. among_left s left right v whole) g.last h.last;
    })

pub among_none : (s : Option Span) (values : EndValues) → values.first ≡ None → values.last ≡ None → AreAmong s values
among_none s values first last =
    let P : Option ℤ → Type 0 = λ o. IfSome o (IsAmong s) in record { first = subst P (sym first) tt; last = subst P (sym last) tt }

cond_among : (b : Bool) (v : ℤ) (P : ℤ → Type 0) → P v → IfSome (cond b (Some v) None) P
cond_among true v P h = h
cond_among false v P h = tt

pub among_slot : (s : Span) (sought : Sought) (values : EndValues) → s.min ≤ℤ s.max → values ≡ slot_values sought s.min
    → AreAmong (Some s) values
among_slot s sought values order is =
    let P : EndValues → Type 0 = λ x. AreAmong (Some s) x in
    let here : IsAmong (Some s) s.min = (omega (arith, ints), order) in
    subst P (sym is) (record {
      first = cond_among sought.first s.min (IsAmong (Some s)) here;
      last = cond_among sought.last s.min (IsAmong (Some s)) here;
    })

-- the first stored value of a range
first_wider : (list : List (Option ℤ)) (w : Window) (a b c : ℕ) (o : Option ℤ) → b ≤ c → IsFirstIn list w a b o → IsFirstIn list w a c o
first_wider list w a b c None le h = h
first_wider list w a b c (Some v) le h = (h.0, h.1, omega (arith, h.2), h.3, h.4)

first_later : (list : List (Option ℤ)) (w : Window) (a b c : ℕ) (o : Option ℤ) → a ≤ b → IsClear list a b → IsFirstIn list w b c o
    → IsFirstIn list w a c o
first_later list w a b c None le clear h = h
first_later list w a b c (Some v) le clear h =
    (h.0, omega (arith, h.1), h.2, h.3, λ i x from to. by_lt i b (λ less. clear i x from less) (λ past. h.4 i x past to))

last_wider : (list : List (Option ℤ)) (w : Window) (a b c : ℕ) (o : Option ℤ) → a ≤ b → IsLastIn list w b c o → IsLastIn list w a c o
last_wider list w a b c None le h = h
last_wider list w a b c (Some v) le h = (h.0, omega (arith, h.1), h.2, h.3, h.4)

last_earlier : (list : List (Option ℤ)) (w : Window) (a b c : ℕ) (o : Option ℤ) → b ≤ c → IsClear list b c → IsLastIn list w a b o
    → IsLastIn list w a c o
last_earlier list w a b c None le clear h = h
last_earlier list w a b c (Some v) le clear h =
    (h.0, h.1, omega (arith, h.2), h.3, λ i x from to. by_lt i b (λ less. h.4 i x from less) (λ past. clear i x past to))

-- where a value was found in the first part it is taken, else that of the second one
either_first : (list : List (Option ℤ)) (w : Window) (x y : ℕ) (a b : Option ℤ) → IsFirstIn list w x y a → IsFirstIn list w x y (either a b)
either_first list w x y None b h = absurd h
either_first list w x y (Some v) b h = h

either_last : (list : List (Option ℤ)) (w : Window) (x y : ℕ) (a b : Option ℤ) → IsLastIn list w x y a → IsLastIn list w x y (either a b)
either_last list w x y None b h = absurd h
either_last list w x y (Some v) b h = h

none_among : (o : Option ℤ) → IfSome o (IsAmong None) → o ≡ None
none_among None h = refl
none_among (Some v) h = absurd h

first_by : (u : NodesView) (w : Window) (k : Key) (left right : Option Span) (f : Bool) (a b : Option ℤ) (s : Span) (list : List (Option ℤ))
    → 1 ≤ k.level → hull left right ≡ Some s
    → IsReady u w (left_of k) left → ServesList u w list → IfSome a (IsAmong left) → f ≡ true
    → (f ≡ true → IsSome left → IsFirstIn list w (first_slot (left_of k)) (end_slot (left_of k)) a)
    → ((f && is_none left) ≡ true → IsSome right → IsFirstIn list w (first_slot (right_of k)) (end_slot (right_of k)) b)
    → IsFirstIn list w (first_slot k) (end_slot k) (either a b)
first_by u w k (Some l) right f a b s list low whole ready served among on h g =
    let here : IsFirstIn list w (first_slot (left_of k)) (end_slot (left_of k)) a = h on refl in
    let P : ℕ → Type 0 = λ n. IsFirstIn list w n (end_slot k) a in
    either_first list w (first_slot k) (end_slot k) a b
    (subst P (left_first k low) (first_wider list w (first_slot (left_of k)) (end_slot (left_of k)) (end_slot k) a
    (omega (arith, right_some k low)) here))
first_by u w k None None f a b s list low whole ready served among on h g = absurd (cc)
first_by u w k None (Some r) f a b s list low whole ready served among on h g =
    let none : a ≡ None = none_among a among in
    let there : IsFirstIn list w (first_slot (right_of k)) (end_slot (right_of k)) b = g (true_and f true on refl) refl in
    let clear : IsClear list (first_slot (left_of k)) (end_slot (left_of k)) = list_none u w (left_of k) list ready served in
    let whole_range : IsFirstIn list w (first_slot (left_of k)) (end_slot (right_of k)) b =
    first_later list w (first_slot (left_of k)) (first_slot (right_of k)) (end_slot (right_of k)) b
    (omega (arith, some_slot (left_of k))) clear there in
    let P : ℕ → Type 0 = λ n. IsFirstIn list w n (end_slot (right_of k)) b in
    let Q : ℕ → Type 0 = λ n. IsFirstIn list w (first_slot k) n b in
    let R : Option ℤ → Type 0 = λ o. IsFirstIn list w (first_slot k) (end_slot k) (either o b) in
    subst R (sym none) (subst Q (right_end k low) (subst P (left_first k low) whole_range))

last_by : (u : NodesView) (w : Window) (k : Key) (left right : Option Span) (f : Bool) (a b : Option ℤ) (s : Span) (list : List (Option ℤ))
    → 1 ≤ k.level → hull left right ≡ Some s
    → IsReady u w (right_of k) right → ServesList u w list → IfSome b (IsAmong right) → f ≡ true
    → ((f && is_none right) ≡ true → IsSome left → IsLastIn list w (first_slot (left_of k)) (end_slot (left_of k)) a)
    → (f ≡ true → IsSome right → IsLastIn list w (first_slot (right_of k)) (end_slot (right_of k)) b)
    → IsLastIn list w (first_slot k) (end_slot k) (either b a)
last_by u w k left (Some r) f a b s list low whole ready served among on h g =
    let here : IsLastIn list w (first_slot (right_of k)) (end_slot (right_of k)) b = g on refl in
    let P : ℕ → Type 0 = λ n. IsLastIn list w (first_slot k) n b in
    either_last list w (first_slot k) (end_slot k) b a
    (subst P (right_end k low) (last_wider list w (first_slot k) (first_slot (right_of k)) (end_slot (right_of k)) b
    (omega (arith, left_some k low)) here))
last_by u w k None None f a b s list low whole ready served among on h g = absurd (cc)
last_by u w k (Some l) None f a b s list low whole ready served among on h g =
    let none : b ≡ None = none_among b among in
    let there : IsLastIn list w (first_slot (left_of k)) (end_slot (left_of k)) a = h (true_and f true on refl) refl in
    let clear : IsClear list (first_slot (right_of k)) (end_slot (right_of k)) = list_none u w (right_of k) list ready served in
    let whole_range : IsLastIn list w (first_slot (left_of k)) (end_slot (right_of k)) a =
    last_earlier list w (first_slot (left_of k)) (end_slot (left_of k)) (end_slot (right_of k)) a
    (omega (arith, some_slot (right_of k))) clear there in
    let P : ℕ → Type 0 = λ n. IsLastIn list w n (end_slot (right_of k)) a in
    let Q : ℕ → Type 0 = λ n. IsLastIn list w (first_slot k) n a in
    let R : Option ℤ → Type 0 = λ o. IsLastIn list w (first_slot k) (end_slot k) (either o a) in
    subst R (sym none) (subst Q (right_end k low) (subst P (left_first k low) whole_range))

-- the values of the halves under other names
pub first_halves : (u : NodesView) (w : Window) (k l r : Key) (left right : Option Span) (sought sl sr : Sought) (lv rv values : EndValues)
    (s : Span) (list : List (Option ℤ)) → 1 ≤ k.level
    → l ≡ left_of k → r ≡ right_of k → sl ≡ sought_left sought right → sr ≡ sought_right sought left → hull left right ≡ Some s
    → values ≡ halves_values lv rv
    → IsReady u w (left_of k) left → ServesList u w list → AreAmong left lv → IsTrue sought.first
    → (IsTrue sl.first → IsSome left → IsFirstIn list w (first_slot l) (end_slot l) lv.first)
    → (IsTrue sr.first → IsSome right → IsFirstIn list w (first_slot r) (end_slot r) rv.first)
    → IsFirstIn list w (first_slot k) (end_slot k) values.first
first_halves u w k l r left right sought sl sr lv rv values s list low el er esl esr whole is ready served among on h g =
    let H : Key → Sought → Type 0 = λ b x. IsTrue x.first → IsSome left → IsFirstIn list w (first_slot b) (end_slot b) lv.first in
    let G : Key → Sought → Type 0 = λ b x. IsTrue x.first → IsSome right → IsFirstIn list w (first_slot b) (end_slot b) rv.first in
    let hl : H (left_of k) (sought_left sought right) =
    (let P : Key → Type 0 = λ b. H b (sought_left sought right) in let Q : Sought → Type 0 = λ x. H l x in subst P el (subst Q esl h)) in
    let gr : G (right_of k) (sought_right sought left) =
    (let P : Key → Type 0 = λ b. G b (sought_right sought left) in let Q : Sought → Type 0 = λ x. G r x in subst P er (subst Q esr g)) in
    let R : EndValues → Type 0 = λ x. IsFirstIn list w (first_slot k) (end_slot k) x.first in
    subst R (sym is) (first_by u w k left right sought.first lv.first rv.first s list low whole ready served among.first on hl gr)

pub last_halves : (u : NodesView) (w : Window) (k l r : Key) (left right : Option Span) (sought sl sr : Sought) (lv rv values : EndValues)
    (s : Span) (list : List (Option ℤ)) → 1 ≤ k.level
    → l ≡ left_of k → r ≡ right_of k → sl ≡ sought_left sought right → sr ≡ sought_right sought left → hull left right ≡ Some s
    → values ≡ halves_values lv rv
    → IsReady u w (right_of k) right → ServesList u w list → AreAmong right rv → IsTrue sought.last
    → (IsTrue sl.last → IsSome left → IsLastIn list w (first_slot l) (end_slot l) lv.last)
    → (IsTrue sr.last → IsSome right → IsLastIn list w (first_slot r) (end_slot r) rv.last)
    → IsLastIn list w (first_slot k) (end_slot k) values.last
last_halves u w k l r left right sought sl sr lv rv values s list low el er esl esr whole is ready served among on h g =
    let H : Key → Sought → Type 0 = λ b x. IsTrue x.last → IsSome left → IsLastIn list w (first_slot b) (end_slot b) lv.last in
    let G : Key → Sought → Type 0 = λ b x. IsTrue x.last → IsSome right → IsLastIn list w (first_slot b) (end_slot b) rv.last in
    let hl : H (left_of k) (sought_left sought right) =
    (let P : Key → Type 0 = λ b. H b (sought_left sought right) in let Q : Sought → Type 0 = λ x. H l x in subst P el (subst Q esl h)) in
    let gr : G (right_of k) (sought_right sought left) =
    (let P : Key → Type 0 = λ b. G b (sought_right sought left) in let Q : Sought → Type 0 = λ x. G r x in subst P er (subst Q esr g)) in
    let R : EndValues → Type 0 = λ x. IsLastIn list w (first_slot k) (end_slot k) x.last in
    subst R (sym is) (last_by u w k left right sought.last lv.last rv.last s list low whole ready served among.last on hl gr)

-- a value has its own height
itself : (list : List (Option ℤ)) (w : Window) (i : ℕ) (v : ℤ) → Holds list i v → HoldsAs list w i v
itself list w i v holds = record { value = v; stored = holds; same = refl }

-- a range of one slot
one_slot : (k : Key) → k.level ≡ 0 → end_slot k ≡ first_slot k + 1
one_slot k none = omega (arith, ap (λ n. k.index * 2 ^ n) none, ap (λ n. (k.index + 1) * 2 ^ n) none)

pub first_slot_value : (v : NodesView) (w : Window) (k : Key) (s : Span) (sought : Sought) (values : EndValues) (list : List (Option ℤ))
    → k.level ≡ 0 → values ≡ slot_values sought s.min
    → IsReady v w k (Some s) → ServesList v w list → IsTrue sought.first → IsFirstIn list w (first_slot k) (end_slot k) values.first
first_slot_value v w k s sought values list none is ready served on =
    let h : AreExtremes list (first_slot k) (end_slot k) s = list_extremes v w k s list ready served in
    let one : end_slot k ≡ first_slot k + 1 = one_slot k none in
    let value : values.first ≡ Some s.min = ap (λ x. x.first) is ∙ ap (λ b. cond b (Some s.min) None) on in
    let P : Option ℤ → Type 0 = λ o. IsFirstIn list w (first_slot k) (end_slot k) o in
    subst P (sym value) (
      h.least.slot,
      h.least.low,
      h.least.high,
      itself list w h.least.slot s.min h.least.holds,
      λ i x from to. absurd (omega (arith, h.least.high, one)),
    )

pub last_slot_value : (v : NodesView) (w : Window) (k : Key) (s : Span) (sought : Sought) (values : EndValues) (list : List (Option ℤ))
    → k.level ≡ 0 → values ≡ slot_values sought s.min
    → IsReady v w k (Some s) → ServesList v w list → IsTrue sought.last → IsLastIn list w (first_slot k) (end_slot k) values.last
last_slot_value v w k s sought values list none is ready served on =
    let h : AreExtremes list (first_slot k) (end_slot k) s = list_extremes v w k s list ready served in
    let one : end_slot k ≡ first_slot k + 1 = one_slot k none in
    let value : values.last ≡ Some s.min = ap (λ x. x.last) is ∙ ap (λ b. cond b (Some s.min) None) on in
    let P : Option ℤ → Type 0 = λ o. IsLastIn list w (first_slot k) (end_slot k) o in
    subst P (sym value) (
      h.least.slot,
      h.least.low,
      h.least.high,
      itself list w h.least.slot s.min h.least.holds,
      λ i x from to. absurd (omega (arith, h.least.low, one)),
    )

-- a range of one height: each of its values stands for the first and for the last one
pub first_flat_value : FlatValues → (v : NodesView) (w : Window) (k : Key) (s : Span) (sought : Sought) (values : EndValues)
    (list : List (Option ℤ)) → IsFlat w.lo w.hi w.grid.h s
    → values ≡ slot_values sought s.min → IsReady v w k (Some s) → ServesList v w list → IsTrue sought.first
    → IsFirstIn list w (first_slot k) (end_slot k) values.first
first_flat_value level v w k s sought values list flat is ready served on =
    let h : AreExtremes list (first_slot k) (end_slot k) s = list_extremes v w k s list ready served in
    let m : FirstStored list (first_slot k) (end_slot k) = first_stored list (first_slot k)
    (end_slot k) h.least.slot s.min h.least.low h.least.high h.least.holds in
    let value : values.first ≡ Some s.min = ap (λ x. x.first) is ∙ ap (λ b. cond b (Some s.min) None) on in
    let P : Option ℤ → Type 0 = λ o. IsFirstIn list w (first_slot k) (end_slot k) o in
    let same : height_of m.value w.lo w.hi w.grid.h ≡ height_of s.min w.lo w.hi w.grid.h =
    level w.lo w.hi m.value w.grid.h s flat (h.above m.slot m.value m.from m.to m.holds) (h.below m.slot m.value m.from m.to m.holds) in
    subst P (sym value) (m.slot, m.from, m.to, record { value = m.value; stored = m.holds; same = sym same }, m.clear)

pub last_flat_value : FlatValues → (v : NodesView) (w : Window) (k : Key) (s : Span) (sought : Sought) (values : EndValues)
    (list : List (Option ℤ)) → IsFlat w.lo w.hi w.grid.h s
    → values ≡ slot_values sought s.min → IsReady v w k (Some s) → ServesList v w list → IsTrue sought.last
    → IsLastIn list w (first_slot k) (end_slot k) values.last
last_flat_value level v w k s sought values list flat is ready served on =
    let h : AreExtremes list (first_slot k) (end_slot k) s = list_extremes v w k s list ready served in
    let m : LastStored list (first_slot k) (end_slot k) = last_stored list (first_slot k)
    (end_slot k) h.least.slot s.min h.least.low h.least.high h.least.holds in
    let value : values.last ≡ Some s.min = ap (λ x. x.last) is ∙ ap (λ b. cond b (Some s.min) None) on in
    let P : Option ℤ → Type 0 = λ o. IsLastIn list w (first_slot k) (end_slot k) o in
    let same : height_of m.value w.lo w.hi w.grid.h ≡ height_of s.min w.lo w.hi w.grid.h =
    level w.lo w.hi m.value w.grid.h s flat (h.above m.slot m.value m.from m.to m.holds) (h.below m.slot m.value m.from m.to m.holds) in
    subst P (sym value) (m.slot, m.from, m.to, record { value = m.value; stored = m.holds; same = sym same }, m.clear)

-- What a walk finds: below a key with no span, where nothing is sought, at a slot, and below a key.
pub follows_none : (v : NodesView) (w : Window) (c : ℕ) (k : Key) (s : Option Span) (sought : Sought) (items : List (Key × Coef))
    (values : EndValues) → s ≡ None → IsReady v w k s
    → values.first ≡ None → values.last ≡ None → Follows v v w c k s sought items items values
follows_none v w c k s sought items values none given first last =
    let P : Option Span → Type 0 = λ o. IsReady v w k o in
    let ready : IsReady v w k None = subst P none given in
    let Q : Option Span → Type 0 = λ o. Follows v v w c k o sought items items values in
    subst Q (sym none) (record {
      below = inl refl;
      gathered = ends_none v w c k sought items ready;
      among = among_none None values first last;
      first = λ list served on some. absurd (cc);
      last = λ list served on some. absurd (cc);
    })

pub follows_unsought : (v : NodesView) (w : Window) (c : ℕ) (k : Key) (s : Option Span) (sought : Sought) (items : List (Key × Coef))
    (values : EndValues)
    → (sought.first ≡ false) × (sought.last ≡ false) → values.first ≡ None → values.last ≡ None
    → Follows v v w c k s sought items items values
follows_unsought v w c k s sought items values off first last = record {
  below = inl refl;
  gathered = ends_unsought v w c k s sought items off;
  among = among_none s values first last;
  first = λ list served on some. (let none : sought.first ≡ false = off.0 in absurd (cc));
  last = λ list served on some. (let none : sought.last ≡ false = off.1 in absurd (cc));
}

pub follows_slot : (v : NodesView) (w : Window) (c : ℕ) (k : Key) (s : Span) (o : Option Span) (sought : Sought) (items : List (Key × Coef))
    (values : EndValues) → o ≡ Some s → IsReady v w k o
    → k.level ≡ 0 → values ≡ slot_values sought s.min → Follows v v w c k o sought items items values
follows_slot v w c k s o sought items values is given none set =
    let P : Option Span → Type 0 = λ o. IsReady v w k o in
    let ready : IsReady v w k (Some s) = subst P is given in
    let Q : Option Span → Type 0 = λ o. Follows v v w c k o sought items items values in
    subst Q (sym is) (record {
      below = inl refl;
      gathered = ends_slot v w c k (Some s) sought items none;
      among = among_slot s sought values ready.proper.ordered set;
      first = λ list served on some. first_slot_value v w k s sought values list none set ready served on;
      last = λ list served on some. last_slot_value v w k s sought values list none set ready served on;
    })

pub follows_flat : FlatBelow → FlatValues → (v : NodesView) (w : Window) (c : ℕ) (k : Key) (s : Span) (o : Option Span) (sought : Sought)
    (items : List (Key × Coef)) (values : EndValues) → o ≡ Some s
    → IsReady v w k o → IsFlat w.lo w.hi w.grid.h s → values ≡ slot_values sought s.min → Follows v v w c k o sought items items values
follows_flat below level v w c k s o sought items values is given flat set =
    let P : Option Span → Type 0 = λ o. IsReady v w k o in
    let ready : IsReady v w k (Some s) = subst P is given in
    let Q : Option Span → Type 0 = λ o. Follows v v w c k o sought items items values in
    subst Q (sym is) (record {
      below = inl refl;
      gathered = ends_flat below v w c k s sought items ready flat;
      among = among_slot s sought values ready.proper.ordered set;
      first = λ list served on some. first_flat_value level v w k s sought values list flat set ready served on;
      last = λ list served on some. last_flat_value level v w k s sought values list flat set ready served on;
    })

pub follows_halves : (v u t z : NodesView) (w : Window) (c : ℕ) (k l r : Key) (s : Span) (o : Option Span) (sought sl sr : Sought)
    (left right : Option Span) (coef : Coef)
    (old one mid new : List (Key × Coef)) (lv rv values : EndValues)
    → l ≡ left_of k → r ≡ right_of k → sl ≡ sought_left sought right → sr ≡ sought_right sought left
    → o ≡ Some s → IsReady v w k o → 1 ≤ k.level → IsInside w c k → (IsFlat w.lo w.hi w.grid.h s → ⊥)
    → IsTrue sought.first ⊎ IsTrue sought.last → ((S : Seen) → Serves v w S → MayHold S w c sought k)
    → hull left right ≡ Some s → u.asked ≡ Some k → StaysSame v u → IsReady u w (left_of k) left → IsReady u w (right_of k) right
    → ((S : Seen) → Serves v w S → S.told k ≡ Some coef) → CanSplit coef → one ≡ old ++ (k, coef) ∷ []
    → Follows u t w c l left sl one mid lv → StaysSame v t → Follows t z w c r right sr mid new rv → values ≡ halves_values lv rv
    → Follows v z w c k o sought old new values
follows_halves v u t z w c k l r s o sought sl sr left right coef old one mid new lv rv values el er esl esr is given low own uneven some
    hold whole asked same_u lready rready told good pushed g same_t h set =
    let P : Option Span → Type 0 = λ o. IsReady v w k o in
    let ready : IsReady v w k (Some s) = subst P is given in
    let Q : Option Span → Type 0 = λ o. Follows v z w c k o sought old new values in
    subst Q (sym is) (record {
      below = stays_below_at k l r v.asked u.asked t.asked z.asked low el er asked g.below h.below;
      gathered = ends_both v u t w c k l r s sought sl sr left right coef old one mid new el er esl esr ready low own uneven some hold whole
          same_u lready rready told good pushed g.gathered same_t h.gathered;
      among = among_halves s left right lv rv values whole g.among h.among set;
      first = λ list served on some.
          first_halves u w k l r left right sought sl sr lv rv values s list low el er esl esr whole set lready
          (serves_list_later v u w list same_u served) g.among on
          (g.first list (serves_list_later v u w list same_u served)) (h.first list (serves_list_later v t w list same_t served));
      last = λ list served on some.
          last_halves u w k l r left right sought sl sr lv rv values s list low el er esl esr whole set rready
          (serves_list_later v u w list same_u served) h.among on
          (g.last list (serves_list_later v u w list same_u served)) (h.last list (serves_list_later v t w list same_t served));
    })

-- the counts of reads on the way
pub end_reads_asked : (k : Key) (sought : Sought) (s : Span) (r0 r1 : ℕ) (o : Option Span) → o ≡ Some s → 1 ≤ k.level
    → IsTrue sought.first ⊎ IsTrue sought.last → r1 ≤ r0 + 1 → r1 ≤ r0 + most_ends o sought k
end_reads_asked k sought s r0 r1 o is low some a =
    omega (
      arith,
      a,
      some_count k.level (one_if sought.first + one_if sought.last) low (some_flag sought.first sought.last some),
      ap (λ o. most_ends o sought k) is,
    )

pub end_reads_first : (k l : Key) (sought sl : Sought) (s : Span) (left right : Option Span) (r0 r1 r2 : ℕ) (o : Option Span) → o ≡ Some s
    → 1 ≤ k.level → l ≡ left_of k → sl ≡ sought_left sought right
    → IsTrue sought.first ⊎ IsTrue sought.last → hull left right ≡ Some s → r1 ≤ r0 + 1 → r2 ≤ r1 + most_ends left sl l
    → r2 ≤ r0 + most_ends o sought k
end_reads_first k l sought sl s left right r0 r1 r2 o is low el esl some whole a b =
    omega (
      arith,
      a,
      b,
      most_ends_halves k l (right_of k) sought sl (sought_right sought left) s left right low el refl esl refl some whole,
      ap (λ o. most_ends o sought k) is,
    )

pub end_reads_both : (k l r : Key) (sought sl sr : Sought) (s : Span) (left right : Option Span) (r0 r1 r2 r3 : ℕ) (o : Option Span)
    → o ≡ Some s → 1 ≤ k.level → l ≡ left_of k → r ≡ right_of k
    → sl ≡ sought_left sought right → sr ≡ sought_right sought left → IsTrue sought.first ⊎ IsTrue sought.last → hull left right ≡ Some s
    → r1 ≤ r0 + 1 → r2 ≤ r1 + most_ends left sl l → r3 ≤ r2 + most_ends right sr r → r3 ≤ r0 + most_ends o sought k
end_reads_both k l r sought sl sr s left right r0 r1 r2 r3 o is low el er esl esr some whole a b d =
    omega (arith, a, b, d, most_ends_halves k l r sought sl sr s left right low el er esl esr some whole, ap (λ o. most_ends o sought k) is)

-- the same where the first ask may read more blocks
pub far_asked : (k : Key) (sought : Sought) (s : Span) (r0 r1 far : ℕ) (o : Option Span) → o ≡ Some s → 1 ≤ k.level
    → IsTrue sought.first ⊎ IsTrue sought.last → r1 ≤ r0 + far → r1 ≤ r0 + most_ends o sought k + far
far_asked k sought s r0 r1 far o is low some a = omega (arith, a)

pub far_first : (k l : Key) (sought sl : Sought) (s : Span) (left right : Option Span) (r0 r1 r2 far : ℕ) (o : Option Span) → o ≡ Some s
    → 1 ≤ k.level → l ≡ left_of k → sl ≡ sought_left sought right
    → IsTrue sought.first ⊎ IsTrue sought.last → hull left right ≡ Some s → r1 ≤ r0 + far → r2 ≤ r1 + most_ends left sl l
    → r2 ≤ r0 + most_ends o sought k + far
far_first k l sought sl s left right r0 r1 r2 far o is low el esl some whole a b =
    omega (arith, end_reads_first k l sought sl s left right (r0 + far) r1 r2 o is low el esl some whole (omega (arith, a)) b)

pub far_both : (k l r : Key) (sought sl sr : Sought) (s : Span) (left right : Option Span) (r0 r1 r2 r3 far : ℕ) (o : Option Span)
    → o ≡ Some s → 1 ≤ k.level → l ≡ left_of k → r ≡ right_of k
    → sl ≡ sought_left sought right → sr ≡ sought_right sought left → IsTrue sought.first ⊎ IsTrue sought.last → hull left right ≡ Some s
    → r1 ≤ r0 + far → r2 ≤ r1 + most_ends left sl l → r3 ≤ r2 + most_ends right sr r → r3 ≤ r0 + most_ends o sought k + far
far_both k l r sought sl sr s left right r0 r1 r2 r3 far o is low el er esl esr some whole a b d =
    omega (
      arith,
      end_reads_both k l r sought sl sr s left right (r0 + far) r1 r2 r3 o is low el er esl esr some whole
          (omega (arith, a)) b d,
    )

pub sought_wanted_as : (v : NodesView) (w : Window) (c : ℕ) (k : Key) (s : Span) (o : Option Span) (sought : Sought) → o ≡ Some s
    → IsReady v w k o → 1 ≤ k.level → IsInside w c k
    → (IsFlat w.lo w.hi w.grid.h s → ⊥) → IsTrue sought.first ⊎ IsTrue sought.last → ((S : Seen) → Serves v w S → MayHold S w c sought k)
    → (S : Seen) → Serves v w S → IsWanted S w.axis w.grid w.lo w.hi k
sought_wanted_as v w c k s o sought is given low own uneven some hold =
    let P : Option Span → Type 0 = λ o. IsReady v w k o in
    sought_wanted v w c k s sought (subst P is given) low own uneven some hold
