-- A frame has one answer: it is accepted, or it isn't for one cause.
use Rattle.std.proofs.Common.{ℕ, ◌≡◌, ◌-◌, ◌^◌, ◌<◌, ◌⊎◌, inl, inr, true, false, List, refl, sym, ◌∙◌, ap, subst, arith}
use Rattle.std.proofs.Math.Pow.{pow_mono}
use Rattle.std.specs.Prelude.{Option, Some, None, IsSome, is_some}
use Rattle.line_raster.specs.Canvas.{Canvas}
use Rattle.om3_coeff.specs.declared.key.Key.{Key}
use Rattle.om3_coeff.specs.declared.coef.Coef.{Coef}
use Rattle.om3_coeff.specs.Keys.{height, IsNode}
use Rattle.om3_coeff.proofs.KeyLemmas.{height_few}
use Rattle.chart_grid.specs.declared.grid.Grid.{Grid}
use Rattle.view_keys.specs.Wanted.{Seen}
use Rattle.chart_frames.specs.declared.frame.Frame.{Frame}
use Rattle.chart_frames.specs.declared.frame.Frame.TheVariants.{Done, Refused, Opened, Closed, View, Rows, Live, Report}
use Rattle.chart_frames.specs.declared.frame.ViewFrame.{ViewFrame}
use Rattle.chart_client.specs.declared.holding.Holding.{Holding}
use Rattle.chart_client.specs.declared.errors.ClientError.{ClientError}
use Rattle.chart_client.specs.declared.errors.ClientError.TheVariants.{Missing, BadCoefficient, UnknownSession, NoMemory}
use Rattle.chart_client.specs.Holdings.{holding_of, axis_of, seen_by}
use Rattle.chart_client.specs.Agreeing.{IsGridOf}
use Rattle.chart_client.specs.Failing.{IsMissing, IsMisfit, IsFirstFailing}
use Rattle.chart_client.specs.Accepting.{Accepts, AcceptsView, FailsView, Rejects, HasNumber, session_in}
use Rattle.chart_client.proofs.Entries.{same_or_apart}
use Rattle.chart_client.proofs.Grids.{grid_one}

abbrev How : Type 1
How = Seen → ℕ → Key → Type 0

abbrev missing : How
missing seen slots k = IsMissing seen k

-- a key of this view fails first
record FailsAt (how : How) (key : Key) (view : ViewFrame) (h : Holding) (grid : Grid) : Type 0 where
  first : IsFirstFailing (seen_by view h.cache) (axis_of view) grid view.lo view.hi key
  so : how (seen_by view h.cache) view.slots key

same_view : (a b : ViewFrame) → ◌≡◌ {A = Frame} (View a) (View b) → a ≡ b
same_view a b e = cc

same_some : {X : Type 0} (a b : X) → ◌≡◌ {A = Option X} (Some a) (Some b) → a ≡ b
same_some a b e = cc

-- the failure of a view's frame, at the session's holding and on a grid of the view
fails_at : (how : How) (key : Key) (view : ViewFrame) (old : List Holding) (h : Holding) (grid : Grid)
    → holding_of view.session old ≡ Some h → IsGridOf view grid
    → FailsView how key (View view) old → FailsAt how key view h grid
fails_at how key view old h grid open_is is f =
    let views : f.view ≡ view = sym (same_view view f.view f.is) in
    let opens : holding_of view.session old ≡ Some f.holding = subst (λ (v : ViewFrame). holding_of v.session old ≡ Some f.holding) views
    f.open_is in
    let holds : f.holding ≡ h = same_some f.holding h (sym opens ∙ open_is) in
    let here : FailsAt how key view f.holding f.grid = subst (λ (v : ViewFrame). FailsAt how key v f.holding f.grid) views
    (record { first = f.first; so = f.how }) in
    let grids : f.grid ≡ grid = grid_one view f.grid grid (subst (λ (v : ViewFrame). IsGridOf v f.grid) views f.grid_is) is in
    subst (λ (g : Grid). FailsAt how key view h g) grids (subst (λ (x : Holding). FailsAt how key view x f.grid) holds here)

-- ---- accepted, and not rejected

not_view : (how : How) (key : Key) (frame : Frame) (old : List Holding) → FailsView how key frame old
    → ((view : ViewFrame) → frame ≡ View view → ⊥) → ⊥
not_view how key frame old f other = other f.view f.is

no_failure : (how : How) (key : Key) (frame : Frame) (drawing : Option Canvas) (old new : List Holding) → Accepts frame drawing old new
    → FailsView how key frame old → ⊥
no_failure how key (Done slots) drawing old new accepts f = not_view how key (Done slots) old f (λ view e. cc)
no_failure how key (Refused number a b) drawing old new accepts f = not_view how key (Refused number a b) old f (λ view e. cc)
no_failure how key (Opened number size) drawing old new accepts f = not_view how key (Opened number size) old f (λ view e. cc)
no_failure how key (Closed number) drawing old new accepts f = not_view how key (Closed number) old f (λ view e. cc)
no_failure how key (View view) None old new accepts f = accepts
no_failure how key (View view) (Some drawing) old new accepts f =
    let accepted : AcceptsView view accepts.0.cache drawing old new = accepts.2 in
    let at : FailsAt how key view accepts.0 accepted.grid = fails_at how key view old accepts.0 accepted.grid accepts.1 accepted.grid_is f
    in
    accepted.usable key at.first.wanted at.first.fails
no_failure how key (Rows rows) drawing old new accepts f = not_view how key (Rows rows) old f (λ view e. cc)
no_failure how key (Live number on) drawing old new accepts f = not_view how key (Live number on) old f (λ view e. cc)
no_failure how key (Report report) drawing old new accepts f = not_view how key (Report report) old f (λ view e. cc)

none_some : {X : Type 0} (x : X) → ◌≡◌ {A = Option X} None (Some x) → ⊥
none_some x e = cc

shut : (o : Option Holding) → o ≡ None → IsSome o → ⊥
shut o none some = let e : false ≡ true = sym (ap (λ (x : Option Holding). is_some x) none) ∙ some in cc

shut_at : (m n : ℕ) (old : List Holding) → ◌≡◌ {A = Option ℕ} (Some m) (Some n) → holding_of n old ≡ None → IsSome (holding_of m old) → ⊥
shut_at m n old is none some = shut (holding_of m old) (ap (λ (k : ℕ). holding_of k old) (same_some m n is) ∙ none) some

is_open : (o : Option Holding) (h : Holding) → o ≡ Some h → IsSome o
is_open o h is = ap (λ (x : Option Holding). is_some x) is

no_unknown : (frame : Frame) (drawing : Option Canvas) (old new : List Holding) (n : ℕ) → Accepts frame drawing old new
    → session_in frame ≡ Some n → holding_of n old ≡ None → ⊥
no_unknown (Done slots) drawing old new n accepts is none = none_some n is
no_unknown (Refused number a b) drawing old new n accepts is none = none_some n is
no_unknown (Opened number size) drawing old new n accepts is none = none_some n is
no_unknown (Closed number) drawing old new n accepts is none = shut_at number n old is none accepts.1
no_unknown (View view) None old new n accepts is none = accepts
no_unknown (View view) (Some drawing) old new n accepts is none =
    shut_at view.session n old is none (is_open (holding_of view.session old) accepts.0 accepts.1)
no_unknown (Rows rows) None old new n accepts is none = accepts
no_unknown (Rows rows) (Some drawing) old new n accepts is none = shut_at rows.session n old is none accepts.0
no_unknown (Live number on) drawing old new n accepts is none = shut_at number n old is none accepts.1
no_unknown (Report report) drawing old new n accepts is none = none_some n is

pub accepted_only : (frame : Frame) (drawing : Option Canvas) (old new : List Holding) (e : ClientError) → Accepts frame drawing old new
    → Rejects frame e old → e ≡ NoMemory
accepted_only frame drawing old new (Missing key) accepts rejects = absurd (no_failure missing key frame drawing old new accepts rejects)
accepted_only frame drawing old new (BadCoefficient key) accepts rejects = absurd
    (no_failure IsMisfit key frame drawing old new accepts rejects)
accepted_only frame drawing old new (UnknownSession n) accepts rejects = absurd
    (no_unknown frame drawing old new n accepts rejects.0 rejects.1)
accepted_only frame drawing old new NoMemory accepts rejects = refl

-- ---- one cause

-- two failures of one frame, at one holding and on one grid
record Both (a b : How) (x y : Key) : Type 0 where
  view : ViewFrame
  h : Holding
  grid : Grid
  one : FailsAt a x view h grid
  other : FailsAt b y view h grid

both : (a b : How) (x y : Key) (frame : Frame) (old : List Holding) → FailsView a x frame old → FailsView b y frame old → Both a b x y
both a b x y frame old f g = record {
  view = f.view;
  h = f.holding;
  grid = f.grid;
  one = record { first = f.first; so = f.how };
  other = fails_at b y f.view old f.holding f.grid f.open_is f.grid_is (subst (λ (z : Frame). FailsView b y z old) f.is g);
}

one_key : (a b : How) (x y : Key) → Both a b x y → x ≡ y
one_key a b x y s =
    same_or_apart x y (λ before. s.other.first.first x s.one.first.wanted s.one.first.fails before)
    (λ before. s.one.first.first y s.other.first.wanted s.other.first.fails before)

not_both_ways : (x y : Key) → Both missing IsMisfit x y → ⊥
not_both_ways x y s =
    let told : Key → Option Coef = (seen_by s.view s.h.cache).told in
    let none : told x ≡ None = s.one.so in
    let some : told x ≡ Some s.other.so.coef = ap told (one_key missing IsMisfit x y s) ∙ s.other.so.told in
    none_some s.other.so.coef (sym none ∙ some)

unknown_fails : (how : How) (key : Key) (frame : Frame) (n : ℕ) (old : List Holding) → FailsView how key frame old
    → session_in frame ≡ Some n → holding_of n old ≡ None → ⊥
unknown_fails how key frame n old f is none =
    let at : session_in (View f.view) ≡ Some n = ap (λ (z : Frame). session_in z) (sym f.is) ∙ is in
    shut_at f.view.session n old at none (is_open (holding_of f.view.session old) f.holding f.open_is)

-- the errors are the same, or one of them is want of memory
abbrev pub AreOne : ClientError → ClientError → Type 0
AreOne d e = (d ≡ NoMemory) ⊎ ((e ≡ NoMemory) ⊎ (d ≡ e))

pub rejected_once : (frame : Frame) (old : List Holding) (d e : ClientError) → Rejects frame d old → Rejects frame e old → AreOne d e
rejected_once frame old NoMemory e one other = inl refl
rejected_once frame old (Missing x) NoMemory one other = inr (inl refl)
rejected_once frame old (Missing x) (Missing y) one other =
    inr (inr (ap (λ (k : Key). Missing k) (one_key missing missing x y (both missing missing x y frame old one other))))
rejected_once frame old (Missing x) (BadCoefficient y) one other = absurd
    (not_both_ways x y (both missing IsMisfit x y frame old one other))
rejected_once frame old (Missing x) (UnknownSession n) one other = absurd (unknown_fails missing x frame n old one other.0 other.1)
rejected_once frame old (BadCoefficient x) NoMemory one other = inr (inl refl)
rejected_once frame old (BadCoefficient x) (Missing y) one other = absurd
    (not_both_ways y x (both missing IsMisfit y x frame old other one))
rejected_once frame old (BadCoefficient x) (BadCoefficient y) one other =
    inr (inr (ap (λ (k : Key). BadCoefficient k) (one_key IsMisfit IsMisfit x y (both IsMisfit IsMisfit x y frame old one other))))
rejected_once frame old (BadCoefficient x) (UnknownSession n) one other = absurd (unknown_fails IsMisfit x frame n old one other.0 other.1)
rejected_once frame old (UnknownSession n) NoMemory one other = inr (inl refl)
rejected_once frame old (UnknownSession n) (Missing y) one other = absurd (unknown_fails missing y frame n old other one.0 one.1)
rejected_once frame old (UnknownSession n) (BadCoefficient y) one other = absurd (unknown_fails IsMisfit y frame n old other one.0 one.1)
rejected_once frame old (UnknownSession n) (UnknownSession m) one other =
    inr (inr (ap (λ (k : ℕ). UnknownSession k) (same_some n m (sym one.0 ∙ other.0))))

-- ---- a key that an error names

node_small : (slots : ℕ) (k : Key) → IsNode (height slots) k → k.index < 2 ^ 40
node_small slots k node = omega (arith, node.within, pow_mono {i = height slots - k.level} {j = 40} (omega (arith, height_few slots)))

pub key_numbered : (frame : Frame) (e : ClientError) (old : List Holding) → Rejects frame e old → HasNumber e
key_numbered frame (Missing key) old f = node_small f.view.slots key f.first.wanted.node
key_numbered frame (BadCoefficient key) old f = node_small f.view.slots key f.first.wanted.node
key_numbered frame (UnknownSession n) old f = tt
key_numbered frame NoMemory old f = tt
