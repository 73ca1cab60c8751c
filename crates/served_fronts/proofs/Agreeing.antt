-- First bytes agree.
use Rattle.std.proofs.Common.{◌≡◌, ℕ, zero, suc, ◌-◌, ◌≤◌, true, false, List, [], ◌∷◌, ◌++◌, length, take, refl, ap}
use Rattle.std.proofs.Common.{sym, subst, ◌∙◌, arith, length-append}
use Rattle.std.specs.Prelude.{flat_map, nat_le}
use Rattle.std.proofs.lemmas.List.{take-append-le}
use Rattle.chart_frames.specs.declared.frame.Frame.{Frame}
use Rattle.chart_frames.specs.Frames.{spelling}
use Rattle.chart_service.specs.State.{State}
use Rattle.chart_service.specs.Serving.{RepliesToAll}
use Rattle.chart_service.specs.Replies.{RepliesToLine}
use Rattle.served_fronts.specs.Books.{Line}
use Rattle.served_fronts.specs.Laws.{FirstBytesAgree}
use Rattle.served_fronts.proofs.Fronts.{take_behind, low_of, high_of}

abbrev pub OneReply : Type 0
OneReply = (line : Line) (frame other : Frame) (old new behind : State) → RepliesToLine line frame old new
    → RepliesToLine line other old behind → (frame ≡ other) × (new ≡ behind)

pub take_zero : (n : ℕ) (xs ys : List ℕ) → n ≤ 0 → take n xs ≡ take n ys
take_zero zero xs ys low = refl
take_zero (suc n) xs ys low = absurd (omega (arith, low))

-- behind one text
pub joined : (x a b : List ℕ) (n : ℕ) → (length x ≤ n → take (n - length x) a ≡ take (n - length x) b) → take n (x ++ a) ≡ take n (x ++ b)
joined x a b n later = (elim (nat_le (length x) n) as (λ c. nat_le (length x) n ≡ c → take n (x ++ a) ≡ take n (x ++ b)) [
  | true ↦ λ test. let low = low_of (length x) n test in take_behind x a n low ∙ ap (λ l. x ++ l) (later low) ∙ sym (take_behind x b n low)
  | false ↦ λ test.
      let few : n ≤ length x = omega (arith, high_of (length x) n test) in
      take-append-le n x a few ∙ sym (take-append-le n x b few)
]) refl

pub agree : OneReply → FirstBytesAgree
agree one [] others behind more [] shown old new state n replied again same few low = take_zero n [] (flat_map spelling shown) few
agree one [] others behind more (f ∷ fs) shown old new state n replied again same few low = absurd replied
agree one (l ∷ ls) others behind more [] shown old new state n replied again same few low = absurd replied
agree one (l ∷ ls) [] behind more (f ∷ fs) [] old new state n replied again same few low = take_zero n (flat_map spelling (f ∷ fs)) [] low
agree one (l ∷ ls) [] behind more (f ∷ fs) (g ∷ gs) old new state n replied again same few low = absurd again
agree one (l ∷ ls) (m ∷ ms) behind more (f ∷ fs) [] old new state n replied again same few low = absurd again
agree one (l ∷ ls) (m ∷ ms) behind more (f ∷ fs) (g ∷ gs) old new state n replied again same few low =
    let first : l ≡ m = cc in
    let rest : ls ++ behind ≡ ms ++ more = cc in
    let L : Line → Type 0 = λ line. RepliesToLine line g old again.0 in
    let is = one l f g old replied.0 again.0 replied.1.0 (subst L (sym first) again.1.0) in
    let S : State → Type 0 = λ s. RepliesToAll s ms gs state in
    let x = spelling f in
    let same_size : length (spelling g) ≡ length x = ap (λ h. length (spelling h)) (sym is.0) in
    joined x (flat_map spelling fs) (flat_map spelling gs) n
    (λ low'. agree one ls ms behind more fs gs replied.0 new state (n - length x) replied.2 (subst S (sym is.1) again.2) rest
    (omega (arith, few, low', length-append x (flat_map spelling fs)))
    (omega (arith, low, low', same_size, length-append (spelling g) (flat_map spelling gs))))
    ∙ ap (λ h. take n (spelling h ++ flat_map spelling gs)) is.0

-- the frames that answer some first lines are the first frames
pub first_frames : OneReply → (lines more : List Line) (frames first : List Frame) (old new state : State)
    → RepliesToAll old (lines ++ more) frames new
    → RepliesToAll old lines first state → (rest : List Frame) × (frames ≡ first ++ rest)
first_frames one [] more frames [] old new state replied again = (frames, refl)
first_frames one [] more frames (g ∷ gs) old new state replied again = absurd again
first_frames one (l ∷ ls) more [] first old new state replied again = absurd replied
first_frames one (l ∷ ls) more (f ∷ fs) [] old new state replied again = absurd again
first_frames one (l ∷ ls) more (f ∷ fs) (g ∷ gs) old new state replied again =
    let is = one l f g old replied.0 again.0 replied.1.0 again.1.0 in
    let S : State → Type 0 = λ s. RepliesToAll s ls gs state in
    let later = first_frames one ls more fs gs replied.0 new state replied.2 (subst S (sym is.1) again.2) in
    (later.0, ap (λ h. h ∷ fs) is.0 ∙ ap (λ l. g ∷ l) later.1)
