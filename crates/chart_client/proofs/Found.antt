-- What a survey of the sent and held coefficients shows of a view.
use Rattle.std.proofs.Common.{ℕ, ℤ, ◌≡◌, ◌^◌, ◌<◌, ◌≤◌, ◌↔◌, inl, inr, Bool, List, length, get_or, sym, ◌∙◌, ap, ap₂, subst, arith, true}
use Rattle.std.proofs.Common.{false, pos}
use Rattle.std.proofs.lemmas.List.{length-map, get_or-map}
use Rattle.std.specs.Prelude.{Option, Some, None, Contains, if◌then◌else◌}
use Rattle.om3_coeff.specs.declared.key.Key.{Key}
use Rattle.om3_coeff.specs.declared.span.Span.{Span}
use Rattle.om3_coeff.specs.declared.coef.Coef.{Coef}
use Rattle.om3_coeff.specs.declared.errors.NodeError.{NodeError}
use Rattle.om3_coeff.specs.declared.errors.NodeError.TheVariants as node
use Rattle.om3_coeff.specs.Keys.{top_key, height}
use Rattle.om3_coeff.specs.Spans.{AreSlots, span}
use Rattle.om3_coeff.specs.Coefs.{coef}
use Rattle.om3_coeff.specs.Known.{known}
use Rattle.om3_coeff.specs.View.{NodesView, AgreesOn, HasCause}
use Rattle.chart_grid.specs.declared.axis.Axis.{Axis}
use Rattle.chart_grid.specs.declared.grid.Grid.{Grid}
use Rattle.coefficient_cache.specs.Caches.{Cache}
use Rattle.view_keys.specs.Needed.{IsNeeded}
use Rattle.view_keys.specs.Wanted.{Seen, IsWanted}
use Rattle.view_keys.specs.Listed.{IsListOf, keys_of}
use Rattle.chart_frames.specs.declared.frame.ViewFrame.{ViewFrame}
use Rattle.chart_frames.specs.Frames.{FitsView}
use Rattle.chart_client.specs.Holdings.{told_by, root_of, axis_of, seen_by}
use Rattle.chart_client.specs.Agreeing.{Agrees}
use Rattle.chart_client.specs.Failing.{Fails, IsFirstFailing, NoneFails}
use Rattle.chart_client.specs.HeldNodes.{usable, usable_seen, held_told, held_view, Stays, seen_of as nodes_of}
use Rattle.chart_client.specs.Keeping.{same_seen}
use Rattle.chart_client.specs.declared.held_nodes.HeldNodes.{HeldNodes}
use Rattle.chart_client.specs.Searching.{FailsAs, IsFirst, IsFirstOf}
use Rattle.chart_client.specs.declared.failure.Failure.{Failure}
use Rattle.chart_client.specs.declared.errors.ClientError.{ClientError}
use Rattle.chart_client.specs.declared.errors.ClientError.TheVariants as client
use Rattle.chart_client.specs.Finding.{IsErrorOf, FindsNone, error_of}
use Rattle.needed_nodes.specs.declared.scan_of.ScanOf.{ScanOf}
use Rattle.needed_nodes.specs.declared.scan_of.ScanOf.TheVariants.{Node}
use Rattle.needed_nodes.specs.Answers.{NamesOf, IsCauseFor, AgreesForView, AreDrawnAs, points_of}
use Rattle.m4_groups.specs.declared.row.Row.{Row}
use Rattle.chart_client.proofs.Usable.{usable_wanted, wanted_usable, usable_told, unusable_missing, unusable_misfit, usable_list}

-- ---- the listed keys

abbrev no_coef : Coef
no_coef = record { left = false; right = false; dmin = pos 0; dmax = pos 0 }

-- where a key stands in a list
pub record Stands (es : List (Key × Coef)) (k : Key) : Type 0 where
  pub place : ℕ
  pub inside : place < length es
  pub at : (get_or es place (k, no_coef)).0 ≡ k

pub stands : (es : List (Key × Coef)) (k : Key) → Contains (keys_of es) k → Stands es k
stands es k there =
    let f : Key × Coef → Key = λ e. e.0 in
    let inside : there.0 < length es = omega (arith, there.1, length-map es f) in
    record { place = there.0; inside = inside; at = sym (get_or-map f es there.0 (k, no_coef) k inside) ∙ there.2 }

some_not_none : (c : Coef) → ◌≡◌ {A = Option Coef} (Some c) None → ⊥
some_not_none c e = cc

-- a wanted key is told
pub record Told (told : Key → Option Coef) (es : List (Key × Coef)) (k : Key) : Type 0 where
  pub coef : Coef
  pub is : told k ≡ Some coef

pub told_listed : (Kind : Key → Type 0) (told : Key → Option Coef) (es : List (Key × Coef)) (k : Key) → IsListOf Kind told es → Kind k
    → Told told es k
told_listed Kind told es k list kind =
    let s : Stands es k = stands es k (list.all k kind) in
    let e : Key × Coef = get_or es s.place (k, no_coef) in
    record {
      coef = e.1;
      is = subst (λ (x : Key). told x ≡ Some e.1) s.at (list.coefs s.place (k, no_coef) s.inside);
    }

-- where all wanted keys are listed with usable coefficients, none fails
pub none_fails : (seen : Seen) (axis : Axis) (grid : Grid) (lo hi : ℤ) (es : List (Key × Coef))
    → IsListOf (IsWanted (usable_seen seen axis.slots) axis grid lo hi) (usable seen axis.slots) es → NoneFails seen axis grid lo hi
none_fails seen axis grid lo hi es list k wanted fails =
    let t : Told (usable seen axis.slots) es k =
    told_listed (IsWanted (usable_seen seen axis.slots) axis grid lo hi) (usable seen axis.slots) es k list
    (wanted_usable seen axis grid lo hi k wanted) in
    elim fails [
      | inl missing ↦ some_not_none t.coef (sym t.is
          ∙ unusable_missing (known seen.root seen.told (height axis.slots) k) (seen.told k) missing)
      | inr misfit ↦ some_not_none t.coef (sym t.is
          ∙ unusable_misfit (known seen.root seen.told (height axis.slots) k)
          (seen.told k) misfit.span misfit.coef misfit.known_so misfit.told misfit.splits_not)
    ]

-- ---- a list that agrees

-- what the law of needed and wanted keys says of a list
abbrev pub Law : List (Option ℤ) → Axis → Grid → ℤ → ℤ → Seen → Type 0
Law list axis grid lo hi seen =
    AreSlots list → length list ≤ 2 ^ 35 → axis.slots ≡ length list → seen.root ≡ span list (top_key (length list)) →
    ((k : Key) → IsNeeded list axis grid lo hi k → IsWanted seen axis grid lo hi k → seen.told k ≡ Some (coef list k)) →
    (k : Key) → IsWanted seen axis grid lo hi k ↔ IsNeeded list axis grid lo hi k

right : (view : ViewFrame) (cache : Cache) (grid : Grid) (list : List (Option ℤ)) (es : List (Key × Coef)) (k : Key)
    → Agrees view cache grid list → IsListOf (IsWanted (seen_by view cache) (axis_of view) grid view.lo view.hi) (told_by view cache) es
    → IsWanted (seen_by view cache) (axis_of view) grid view.lo view.hi k → told_by view cache k ≡ Some (coef list k)
right view cache grid list es k agrees listed wanted =
    let t : Told (told_by view cache) es k = told_listed (IsWanted (seen_by view cache) (axis_of view) grid view.lo view.hi)
    (told_by view cache) es k listed wanted in
    t.is ∙ ap (λ (c : Coef). Some c) (agrees.told k t.coef wanted t.is)

right_usable : (view : ViewFrame) (cache : Cache) (grid : Grid) (list : List (Option ℤ)) (es : List (Key × Coef)) (k : Key)
    → Agrees view cache grid list → IsListOf (IsWanted (usable_seen (seen_by view cache) view.slots) (axis_of view) grid view.lo view.hi)
    (usable (seen_by view cache) view.slots) es
    → IsWanted (seen_by view cache) (axis_of view) grid view.lo view.hi k → usable (seen_by view cache) view.slots k ≡ Some (coef list k)
right_usable view cache grid list es k agrees listed wanted =
    let seen : Seen = seen_by view cache in
    let t : Told (usable seen view.slots) es k =
    told_listed (IsWanted (usable_seen seen view.slots) (axis_of view) grid view.lo view.hi) (usable seen view.slots) es k listed
    (wanted_usable seen (axis_of view) grid view.lo view.hi k wanted) in
    let told : told_by view cache k ≡ Some t.coef = usable_told (known seen.root seen.told (height view.slots) k)
    (told_by view cache k) t.coef t.is in
    t.is ∙ ap (λ (c : Coef). Some c) (agrees.told k t.coef wanted told)

-- where all wanted keys are listed, the nodes agree with each list that agrees with the view, on the keys that the view needs
pub agrees_on : (view : ViewFrame) (cache : Cache) (grid : Grid) (list : List (Option ℤ)) (es : List (Key × Coef)) (nodes : NodesView)
    → Law list (axis_of view) grid view.lo view.hi (seen_by view cache) → FitsView view → Agrees view cache grid list
    → IsListOf (IsWanted (usable_seen (seen_by view cache) view.slots) (axis_of view) grid view.lo view.hi)
    (usable (seen_by view cache) view.slots) es
    → nodes.slots ≡ view.slots → nodes.root ≡ root_of view → nodes.tells → nodes.told ≡ usable (seen_by view cache) view.slots
    → AgreesOn (IsNeeded list (axis_of view) grid view.lo view.hi) nodes list
agrees_on view cache grid list es nodes law fits agrees listed slots root tells told =
    let few : length list ≤ 2 ^ 35 = omega (arith, fits.head.source.axis.limit, agrees.slots) in
    let plain : IsListOf (IsWanted (seen_by view cache) (axis_of view) grid view.lo view.hi) (told_by view cache) es = usable_list
    (seen_by view cache) (axis_of view) grid view.lo view.hi es listed in
    let same = law agrees.values few agrees.slots agrees.root (λ k needed wanted. right view cache grid list es k agrees plain wanted) in
    record {
      values = agrees.values;
      few = few;
      slots = slots ∙ agrees.slots;
      root = root ∙ agrees.root;
      tells = tells;
      told = λ k node some needed. ap (λ (t : Key → Option Coef). t k) told
          ∙ right_usable view cache grid list es k agrees listed ((same k).1 needed);
    }

-- ---- the nodes may be asked

-- ---- failures

fails_as : (seen : Seen) (slots : ℕ) (k : Key) (b : Bool) → FailsAs seen slots k b → Fails seen slots k
fails_as seen slots k true how = inl how
fails_as seen slots k false how = inr how

pub first_failing : (seen : Seen) (axis : Axis) (grid : Grid) (lo hi : ℤ) (f : Failure)
    → IsFirst seen axis.slots (IsWanted seen axis grid lo hi) f → IsFirstFailing seen axis grid lo hi f.key
first_failing seen axis grid lo hi f h = record {
  wanted = h.kind;
  fails = fails_as seen axis.slots f.key f.is_missing h.how;
  first = h.first;
}

-- ---- from what a survey answers to what is said of a view

names_wider : (A B : Key → Type 0) (e : NodeError) → ((k : Key) → A k → B k) → NamesOf A e → NamesOf B e
names_wider A B node.DiskFault to h = tt
names_wider A B (node.Damaged page) to h = tt
names_wider A B (node.Missing key) to h = to key h
names_wider A B (node.BadCoefficient key) to h = to key h

-- ---- the nodes of a view

-- the nodes and the axis that are asked for a view
pub record AreFor (nodes : HeldNodes) (axis : Axis) (view : ViewFrame) (cache : Cache) : Type 0 where
  pub axis_is : axis ≡ axis_of view
  pub series : nodes.series ≡ view.series
  pub sent : nodes.sent.now ≡ view.coefs
  pub cache_is : nodes.cache.now ≡ cache
  pub slots : nodes.slots ≡ view.slots
  pub root : nodes.root ≡ root_of view

told_same : (nodes : HeldNodes) (axis : Axis) (view : ViewFrame) (cache : Cache) → AreFor nodes axis view cache
    → held_told nodes.series nodes.sent.now nodes.cache.now ≡ told_by view cache
told_same nodes axis view cache are =
    ap (λ (x : ℕ). held_told x nodes.sent.now nodes.cache.now) are.series
    ∙ ap (λ (x : List (Key × Coef)). held_told view.series x nodes.cache.now) are.sent
    ∙ ap (λ (x : Cache). held_told view.series view.coefs x) are.cache_is

view_seen : (nodes : HeldNodes) (axis : Axis) (view : ViewFrame) (cache : Cache) → AreFor nodes axis view cache
    → nodes_of nodes ≡ seen_by view cache
view_seen nodes axis view cache are =
    ap₂ (λ (r : Option Span) (t : Key → Option Coef). let seen : Seen = record { root = r; told = t } in
    seen) are.root (told_same nodes axis view cache are)

view_told : (nodes : HeldNodes) (axis : Axis) (view : ViewFrame) (cache : Cache) → AreFor nodes axis view cache
    → usable (nodes_of nodes) nodes.slots ≡ usable (seen_by view cache) view.slots
view_told nodes axis view cache are = ap₂ (λ (s : Seen) (n : ℕ). usable s n) (view_seen nodes axis view cache are) are.slots

-- ---- from what a survey answers to what is said of a view

-- what holds of a range by other names of its ends
pub range_at : (P : ℤ → ℤ → Type 0) (a b lo hi : ℤ) → a ≡ lo → b ≡ hi → P a b → P lo hi
range_at P a b lo hi low high h = subst (λ (x : ℤ). P x hi) low (subst (λ (x : ℤ). P a x) high h)

-- the list that it gives
abbrev pub Lists : HeldNodes → Axis → Grid → ℤ → ℤ → List (Key × Coef) → Type 0
Lists nodes axis grid lo hi es = IsListOf (IsWanted (usable_seen (nodes_of nodes) nodes.slots) axis grid lo hi)
    (usable (nodes_of nodes) nodes.slots) es

abbrev ViewLists : Seen → ℕ → Axis → Grid → ℤ → ℤ → List (Key × Coef) → Type 0
ViewLists seen slots axis grid lo hi es = IsListOf (IsWanted (usable_seen seen slots) axis grid lo hi) (usable seen slots) es

listed_of : (nodes : HeldNodes) (axis : Axis) (view : ViewFrame) (cache : Cache) (grid : Grid) (es : List (Key × Coef))
    → AreFor nodes axis view cache
    → Lists nodes axis grid view.lo view.hi es → ViewLists (seen_by view cache) view.slots (axis_of view) grid view.lo view.hi es
listed_of nodes axis view cache grid es are list =
    subst (λ (a : Axis). ViewLists (seen_by view cache) view.slots a grid view.lo view.hi es) are.axis_is
    (subst (λ (n : ℕ). ViewLists (seen_by view cache) n axis grid view.lo view.hi es) are.slots
    (subst (λ (s : Seen). ViewLists s nodes.slots axis grid view.lo view.hi es) (view_seen nodes axis view cache are) list))

pub found_wanted : (nodes : HeldNodes) (axis : Axis) (view : ViewFrame) (cache : Cache) (grid : Grid) (es : List (Key × Coef))
    → AreFor nodes axis view cache
    → Lists nodes axis grid view.lo view.hi es → IsListOf (IsWanted (seen_by view cache) (axis_of view) grid view.lo view.hi)
    (told_by view cache) es
found_wanted nodes axis view cache grid es are list = usable_list (seen_by view cache) (axis_of view) grid view.lo view.hi es
    (listed_of nodes axis view cache grid es are list)

pub found_usable : (nodes : HeldNodes) (axis : Axis) (view : ViewFrame) (cache : Cache) (grid : Grid) (es : List (Key × Coef))
    → AreFor nodes axis view cache
    → Lists nodes axis grid view.lo view.hi es → NoneFails (seen_by view cache) (axis_of view) grid view.lo view.hi
found_usable nodes axis view cache grid es are list = none_fails (seen_by view cache) (axis_of view) grid view.lo view.hi es
    (listed_of nodes axis view cache grid es are list)

-- the rows that it gives
pub found_rows : (nodes : HeldNodes) (axis : Axis) (view : ViewFrame) (cache : Cache) (grid : Grid) (es : List (Key × Coef))
    (rows : List Row) (list : List (Option ℤ))
    → Law list (axis_of view) grid view.lo view.hi (seen_by view cache) → FitsView view → AreFor nodes axis view cache
    → Lists nodes axis grid view.lo view.hi es → Agrees view cache grid list
    → (AgreesForView (held_view nodes) axis grid view.lo view.hi list → AreDrawnAs grid view.lo view.hi (points_of axis grid list) rows)
    → AreDrawnAs grid view.lo view.hi (points_of (axis_of view) grid list) rows
found_rows nodes axis view cache grid es rows list law fits are lists agrees gives =
    let on : AgreesOn (IsNeeded list (axis_of view) grid view.lo view.hi) (held_view nodes) list =
    agrees_on view cache grid list es (held_view nodes) law fits agrees
    (listed_of nodes axis view cache grid es are lists) are.slots are.root tt
    (view_told nodes axis view cache are) in
    subst (λ (a : Axis). AreDrawnAs grid view.lo view.hi (points_of a grid list) rows) are.axis_is
    (gives (subst (λ (a : Axis). AgreesOn (IsNeeded list a grid view.lo view.hi) (held_view nodes) list) (sym are.axis_is) on))

-- the key that its error names
found_names : (nodes new : HeldNodes) (axis : Axis) (view : ViewFrame) (cache : Cache) (grid : Grid) (s : ScanOf) (e : NodeError)
    → AreFor nodes axis view cache
    → nodes_of new ≡ nodes_of nodes → s ≡ Node e → IsCauseFor (held_view nodes) (held_view new) axis grid view.lo view.hi s
    → NamesOf (IsWanted (nodes_of new) axis grid view.lo view.hi) e
found_names nodes new axis view cache grid s e are same is cause =
    let P : Seen → Type 0 = λ x. NamesOf (IsWanted x axis grid view.lo view.hi) e in
    let here : IsCauseFor (held_view nodes) (held_view new) axis grid view.lo view.hi (Node e) =
    subst (λ (x : ScanOf). IsCauseFor (held_view nodes) (held_view new) axis grid view.lo view.hi x) is cause in
    let slots : nodes.slots ≡ axis.slots = are.slots ∙ sym (ap (λ (a : Axis). a.slots) are.axis_is) in
    let at : NamesOf (IsWanted (usable_seen (nodes_of nodes) axis.slots) axis grid view.lo view.hi)
    e = subst (λ (n : ℕ). P (usable_seen (nodes_of nodes) n)) slots (here.1 tt) in
    subst P (sym same)
    (names_wider (IsWanted (usable_seen (nodes_of nodes) axis.slots) axis grid view.lo view.hi)
    (IsWanted (nodes_of nodes) axis grid view.lo view.hi) e
    (λ k wanted. usable_wanted (nodes_of nodes) axis grid view.lo view.hi k wanted) at)

-- the error that comes of it
error_found : (view : ViewFrame) (cache : Cache) (grid : Grid) (e : ClientError)
    → IsErrorOf (seen_by view cache) (axis_of view) grid view.lo view.hi e → FindsNone view cache grid e
error_found view cache grid (client.Missing key) h = h
error_found view cache grid (client.BadCoefficient key) h = h
error_found view cache grid (client.UnknownSession number) h = h
error_found view cache grid client.NoMemory h = tt

found_error : (nodes new : HeldNodes) (axis : Axis) (view : ViewFrame) (cache : Cache) (grid : Grid) (e : ClientError)
    → AreFor nodes axis view cache
    → nodes_of new ≡ nodes_of nodes → IsErrorOf (nodes_of new) axis grid view.lo view.hi e → FindsNone view cache grid e
found_error nodes new axis view cache grid e are same error =
    error_found view cache grid e
    (subst (λ (s : Seen). IsErrorOf s (axis_of view) grid view.lo view.hi e) (same ∙ view_seen nodes axis view cache are)
    (subst (λ (a : Axis). IsErrorOf (nodes_of new) a grid view.lo view.hi e) are.axis_is error))

error_by : (seen : Seen) (axis : Axis) (grid : Grid) (lo hi : ℤ) (k : Key) (b : Bool) → IsFirstFailing seen axis grid lo hi k
    → FailsAs seen axis.slots k b
    → IsErrorOf seen axis grid lo hi (if b then client.Missing k else client.BadCoefficient k)
error_by seen axis grid lo hi k true first how = (first, how)
error_by seen axis grid lo hi k false first how = (first, how)

axis_slots : (nodes new : HeldNodes) (axis : Axis) (view : ViewFrame) (cache : Cache) → AreFor nodes axis view cache → Stays nodes new
    → new.slots ≡ axis.slots
axis_slots nodes new axis view cache are kept = kept.slots ∙ are.slots ∙ sym (ap (λ (a : Axis). a.slots) are.axis_is)

-- the first failure that is found gives the view's error
pub found_failure : (nodes new : HeldNodes) (axis : Axis) (view : ViewFrame) (cache : Cache) (grid : Grid) (r : Option Failure)
    (f : Failure) (e : ClientError)
    → AreFor nodes axis view cache → Stays nodes new
    → IsFirstOf (nodes_of new) new.slots (IsWanted (nodes_of new) axis grid view.lo view.hi) r → r ≡ Some f → e ≡ error_of f
    → FindsNone view cache grid e
found_failure nodes new axis view cache grid r f e are kept first is error =
    let P : ℕ → Option Failure → Type 0 = λ n o. IsFirstOf (nodes_of new) n (IsWanted (nodes_of new) axis grid view.lo view.hi) o in
    let here : IsFirst (nodes_of new) axis.slots (IsWanted (nodes_of new) axis grid view.lo view.hi) f =
    subst (λ (n : ℕ). P n (Some f)) (axis_slots nodes new axis view cache are kept)
    (subst (λ (o : Option Failure). P new.slots o) is first) in
    subst (λ (x : ClientError). FindsNone view cache grid x) (sym error)
    (found_error nodes new axis view cache grid (error_of f) are (same_seen nodes new kept)
    (error_by (nodes_of new) axis grid view.lo view.hi f.key f.is_missing
    (first_failing (nodes_of new) axis grid view.lo view.hi f here) here.how))

-- an error that the nodes gave is that of a wanted key that fails
met_fails : (nodes new : HeldNodes) (Kind : Key → Type 0) (e : NodeError) → HasCause (held_view nodes) (held_view new) e → NamesOf Kind e
    → ((k : Key) → Kind k → Fails (nodes_of nodes) nodes.slots k → ⊥) → ⊥
met_fails nodes new Kind node.DiskFault cause names none = elim cause [ inl less ↦ omega (arith, less) | inr more ↦ omega (arith, more) ]
met_fails nodes new Kind (node.Damaged page) cause names none = cause
met_fails nodes new Kind (node.Missing key) cause names none = none key names (inl cause)
met_fails nodes new Kind (node.BadCoefficient key) cause names none = none key names (inr cause)

-- so there is a first one
pub found_some : (nodes new : HeldNodes) (axis : Axis) (view : ViewFrame) (cache : Cache) (grid : Grid) (s : ScanOf) (e : NodeError)
    (r : Option Failure)
    → AreFor nodes axis view cache → Stays nodes new → s ≡ Node e → IsCauseFor (held_view nodes) (held_view new) axis grid view.lo view.hi s
    → IsFirstOf (nodes_of new) new.slots (IsWanted (nodes_of new) axis grid view.lo view.hi) r → r ≡ None → ⊥
found_some nodes new axis view cache grid s e r are kept is cause first none =
    let Kind : Key → Type 0 = IsWanted (nodes_of new) axis grid view.lo view.hi in
    let same : nodes_of new ≡ nodes_of nodes = same_seen nodes new kept in
    let here : IsCauseFor (held_view nodes) (held_view new) axis grid view.lo view.hi (Node e) =
    subst (λ (x : ScanOf). IsCauseFor (held_view nodes) (held_view new) axis grid view.lo view.hi x) is cause in
    let clear : IsFirstOf (nodes_of new) new.slots Kind None = subst (λ (o : Option Failure). IsFirstOf (nodes_of new) new.slots Kind o)
    none first in
    met_fails nodes new Kind e here.0 (found_names nodes new axis view cache grid s e are same is cause)
    (λ k wanted fails. clear k wanted
    (subst (λ (x : Seen). Fails x new.slots k) (sym same) (subst (λ (n : ℕ). Fails (nodes_of nodes) n k) (sym kept.slots) fails)))
