-- Streams: what stands at the front of some bytes is one of three things.
use Rattle.std.proofs.Common.{◌≡◌, ℕ, ◌+◌, ◌-◌, ◌≤◌, inl, inr, List, ◌++◌, length, drop, Option, Some, None, Result, Ok, Err, refl, sym, ap}
use Rattle.std.proofs.Common.{◌∙◌, subst, arith, length-append}
use Rattle.std.proofs.lemmas.List.{drop_at, drop-drop}
use Rattle.chart_frames.specs.declared.fields.Stop.{Stop}
use Rattle.chart_frames.specs.declared.fields.Stop.TheVariants.{More, Bad}
use Rattle.chart_frames.specs.declared.frame.Frame.{Frame}
use Rattle.chart_frames.specs.declared.errors.FrameFault.{FrameFault}
use Rattle.chart_frames.specs.declared.errors.FrameFault.TheVariants as faults
use Rattle.chart_frames.specs.Format.{number_in, Breaks}
use Rattle.chart_frames.specs.Reading.{read}
use Rattle.chart_frames.specs.Fields.{frame_fields}
use Rattle.chart_frames.specs.Frames.{Fits, spelling}
use Rattle.chart_frames.specs.Pending.{Pending, held}
use Rattle.chart_frames.specs.declared.item_stop.ItemStop.{ItemStop}
use Rattle.chart_frames.specs.declared.item_stop.ItemStop.TheVariants as stops
use Rattle.chart_frames.specs.declared.place.Place.{Place}
use Rattle.chart_frames.specs.declared.place.Place.TheVariants as places
use Rattle.chart_frames.specs.Items.{Fails}
use Rattle.chart_frames.specs.Places.{Reached, Leaves}
use Rattle.chart_frames.specs.Stream.{Answers, Takes, IsPartial, IsOnly}
use Rattle.chart_frames.proofs.Numbers.{IsBytes}
use Rattle.chart_frames.proofs.FormatLaws.{breaks_read, read_breaks, breaks_stay}
use Rattle.chart_frames.proofs.Fills.{FrameSized, frame_sized}
use Rattle.chart_frames.proofs.Frames.{frame_again, spelled, same_frame}

abbrev answer : Result (List ℕ) Stop → Result (List ℕ) Stop
answer r = r

ok_bad : (tail : List ℕ) (left : ℕ) → answer (Ok tail) ≡ answer (Err (Bad left)) → ⊥
ok_bad tail left e = grind (arith, e)

more_bad : (left : ℕ) → answer (Err More) ≡ answer (Err (Bad left)) → ⊥
more_bad left e = grind (arith, e)

bad_left : (a b : ℕ) → answer (Err (Bad a)) ≡ answer (Err (Bad b)) → a ≡ b
bad_left a b e = cc

-- a frame's spelling breaks no rule
pub spelled_good : (f : Frame) (x : List ℕ) (at : ℕ) → Fits f → Breaks frame_fields (spelling f ++ x) at → ⊥
spelled_good f x at fits b =
    let found = breaks_read frame_fields (spelling f ++ x) at b in ok_bad x found.0 (sym (frame_again f x fits) ∙ found.2)

-- it has the length that its first field tells
pub spelled_length : (f : Frame) (x : List ℕ) → Fits f → length (spelling f) ≡ 4 + number_in 4 (spelling f ++ x)
spelled_length f x fits =
    let sized = subst (FrameSized (spelling f ++ x)) (frame_again f x fits) (frame_sized (spelling f ++ x)) in
    omega (arith, sized.1, length-append (spelling f) x)

-- the first field that breaks its rule stays the first
pub one_break : (bytes more : List ℕ) (at other : ℕ) → Breaks frame_fields bytes at → Breaks frame_fields (bytes ++ more) other → at ≡ other
one_break bytes more at other b d =
    let found = breaks_read frame_fields (bytes ++ more) at (breaks_stay frame_fields bytes more at b) in
    let again = breaks_read frame_fields (bytes ++ more) other d in
    let same = bad_left found.0 again.0 (sym found.2 ∙ again.2) in
    omega (arith, same, found.1, again.1)

-- ---- the three outcomes

-- reading wants more bytes exactly where the bytes are part of a frame
pub more_partial : (held : Pending) → read frame_fields held.rest ≡ Err More → IsPartial held
more_partial held e = record {
  few = subst (FrameSized held.rest) e (frame_sized held.rest);
  good = λ at b. let found = breaks_read frame_fields held.rest at b in more_bad found.0 (sym e ∙ found.2);
}

pub bad_at : (held : Pending) (left : ℕ) → IsBytes held.rest → read frame_fields held.rest ≡ Err (Bad left)
    → (within : ℕ) × (within + left ≡ length held.rest) × Breaks frame_fields held.rest within
bad_at held left fits e = read_breaks frame_fields held.rest left fits e

-- ---- one answer

not_partial : (held : Pending) (f : Frame) (x : List ℕ) → Fits f → held.rest ≡ spelling f ++ x → IsPartial held → ⊥
not_partial held f x fits e partial =
    let told : length (spelling f) ≡ 4 + number_in 4 held.rest = spelled_length f x fits ∙ ap (λ (p : List ℕ). 4 + number_in 4 p) (sym e) in
    let long : length held.rest ≡ length (spelling f) + length x = ap length e ∙ length-append (spelling f) x in
    elim partial.few [ inl few ↦ omega (arith, told, long, few) | inr few ↦ omega (arith, told, long, few) ]

same_break : (bytes : List ℕ) (a b : ℕ) → Breaks frame_fields bytes a → Breaks frame_fields bytes b → a ≡ b
same_break bytes a b p q =
    let first = breaks_read frame_fields bytes a p in
    let second = breaks_read frame_fields bytes b q in
    let same = bad_left first.0 second.0 (sym first.2 ∙ second.2) in
    omega (arith, same, first.1, second.1)

-- where a frame stands at the front, it is given
pub only_frame : (held : Pending) (r : Result (Option Frame) FrameFault) (new : Pending) → Answers held r new
    → (f : Frame) (x : List ℕ) → Fits f → held.rest ≡ spelling f ++ x → IsOnly r (Ok (Some f))
only_frame held (Ok (Some g)) new h f x fits e =
    let same = same_frame f g x new.rest fits h.fits (sym e ∙ h.front) in ap (λ (k : Frame). Ok (Some k)) same.0
only_frame held (Ok None) new h f x fits e = absurd (not_partial held f x fits e h.0)
only_frame held (Err (faults.BadFrame at)) new h f x fits e =
    let P : List ℕ → Type 0 = λ p. Breaks frame_fields p h.0.0 in absurd (spelled_good f x h.0.0 fits (subst P e h.0.2))
only_frame held (Err faults.NoMemory) new h f x fits e = tt

-- where a complete field breaks its rule, that is answered
pub only_bad : (held : Pending) (r : Result (Option Frame) FrameFault) (new : Pending) → Answers held r new
    → (within : ℕ) → Breaks frame_fields held.rest within → IsOnly r (Err (faults.BadFrame (held.given + within)))
only_bad held (Ok (Some g)) new h within b =
    let P : List ℕ → Type 0 = λ p. Breaks frame_fields p within in absurd (spelled_good g new.rest within h.fits (subst P h.front b))
only_bad held (Ok None) new h within b = absurd (h.0.good within b)
only_bad held (Err (faults.BadFrame at)) new h within b =
    let same = same_break held.rest within h.0.0 b h.0.2 in
    ap (λ (n : ℕ). Err (faults.BadFrame n)) (omega (arith, same, h.0.1))
only_bad held (Err faults.NoMemory) new h within b = tt

-- where more bytes are needed, that is answered
pub only_more : (held : Pending) (r : Result (Option Frame) FrameFault) (new : Pending) → Answers held r new → IsPartial held
    → IsOnly r (Ok None)
only_more held (Ok (Some g)) new h partial = absurd (not_partial held g new.rest h.fits h.front partial)
only_more held (Ok None) new h partial = refl
only_more held (Err (faults.BadFrame at)) new h partial = absurd (partial.good h.0.0 h.0.2)
only_more held (Err faults.NoMemory) new h partial = tt

-- ---- the answer for the bytes held

-- reading ended for this cause
pub stopped : (e : ItemStop) (s t : Stop) (r : Result (List ℕ) Stop) → e ≡ stops.Stop s → s ≡ t → Fails e r → r ≡ Err t
stopped e s t r p q h = let P : ItemStop → Type 0 = λ d. Fails d r in let found : r ≡ Err s = subst P p h in
    found ∙ ap (λ (k : Stop). Err k) q

leaves_front : (bytes : List ℕ) (f : Frame) (left : ℕ) (h : Leaves bytes f left) → bytes ≡ spelling f ++ h.rest
leaves_front bytes f left h = h.begins ∙ sym (spelled f h.rest h.fits)

pub left_within : (bytes : List ℕ) (f : Frame) (left : ℕ) → Leaves bytes f left → left ≤ length bytes
left_within bytes f left h = omega (arith, ap length (leaves_front bytes f left h), length-append (spelling f) h.rest, h.left_is)

-- the frame at the front is taken
pub takes_of : (given : ℕ) (bytes : List ℕ) (f : Frame) (left : ℕ) → Leaves bytes f left
    → Takes (held given bytes) (held (given + (length bytes - left)) (drop (length bytes - left) bytes)) f
takes_of given bytes f left h =
    let front = leaves_front bytes f left h in
    let taken : length (spelling f) ≡ length bytes - left = omega (arith, ap length front, length-append (spelling f) h.rest, h.left_is) in
    let rest : drop (length bytes - left) bytes ≡ h.rest = ap (drop (length bytes - left)) front
    ∙ drop_at (spelling f) h.rest (length bytes - left) taken in
    record {
      fits = h.fits;
      front = front ∙ ap (λ (p : List ℕ). spelling f ++ p) (sym rest);
      given = ap (λ (n : ℕ). given + n) (sym taken);
    }

-- nothing is taken
pub nothing_taken : (given : ℕ) (bytes : List ℕ) → held (given + 0) (drop 0 bytes) ≡ held given bytes
nothing_taken given bytes = let e : given + 0 ≡ given = omega arith in ap (λ (n : ℕ). held n bytes) e

pub more_of : (given : ℕ) (bytes : List ℕ) → read frame_fields bytes ≡ Err More
    → Answers (held given bytes) (Ok None) (held (given + 0) (drop 0 bytes))
more_of given bytes e = (more_partial (held given bytes) e, nothing_taken given bytes)

pub bad_within : (bytes : List ℕ) (left : ℕ) → IsBytes bytes → read frame_fields bytes ≡ Err (Bad left) → left ≤ length bytes
bad_within bytes left fits e = let found = read_breaks frame_fields bytes left fits e in omega (arith, found.1)

pub bad_of : (given : ℕ) (bytes : List ℕ) (left : ℕ) → IsBytes bytes → read frame_fields bytes ≡ Err (Bad left)
    → Answers (held given bytes) (Err (faults.BadFrame (given + (length bytes - left)))) (held (given + 0) (drop 0 bytes))
bad_of given bytes left fits e =
    let found = read_breaks frame_fields bytes left fits e in
    ((found.0, omega (arith, found.1), found.2), nothing_taken given bytes)

pub at_start : (place : Place) (bytes : List ℕ) → place ≡ places.Start → Reached bytes place
at_start place bytes e = let P : Place → Type 0 = λ p. Reached bytes p in subst P (sym e) tt

pub dropped : (start taken : ℕ) (bytes : List ℕ) → drop taken (drop start bytes) ≡ drop (start + taken) bytes
dropped start taken bytes = drop-drop taken start bytes

-- the bytes held stand at the end of all that are kept
pub answers_behind : (given start taken : ℕ) (bytes rest : List ℕ) (now : Pending) (r : Result (Option Frame) FrameFault)
    → held given (drop start bytes) ≡ now → rest ≡ drop start bytes
    → Answers (held given rest) r (held (given + taken) (drop taken rest))
    → Answers now r (held (given + taken) (drop (start + taken) bytes))
answers_behind given start taken bytes rest now r view is h =
    let behind : drop taken rest ≡ drop (start + taken) bytes = ap (drop taken) is ∙ dropped start taken bytes in
    let P : Pending → Type 0 = λ p. Answers p r (held (given + taken) (drop (start + taken) bytes)) in
    let Q : List ℕ → Type 0 = λ b. Answers (held given rest) r (held (given + taken) b) in
    subst P (ap (held given) is ∙ view) (subst Q behind h)
