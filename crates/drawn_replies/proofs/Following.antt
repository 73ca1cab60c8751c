-- A client follows all replies to lines.
use Rattle.std.proofs.Common.{ℕ, ◌≡◌, List, [], ◌∷◌, ◌++◌, map, Option, refl, ap, sym, subst}
use Rattle.line_raster.specs.Canvas.{Canvas}
use Rattle.chart_client.specs.declared.holding.Holding.{Holding}
use Rattle.chart_frames.specs.declared.frame.Frame.{Frame}
use Rattle.chart_service.specs.State.{State, IsSound}
use Rattle.chart_service.specs.Replies.{RepliesToLine}
use Rattle.chart_service.specs.Serving.{RepliesToAll}
use Rattle.chart_client.specs.declared.errors.ClientError.{ClientError}
use Rattle.chart_client.specs.declared.errors.ClientError.TheVariants.{NoMemory}
use Rattle.chart_client.specs.Accepting.{Rejects}
use Rattle.drawn_replies.specs.Mirrors.{mirrored, Mirrors, DrawsTheBook, OnlyLacksMemory}
use Rattle.drawn_replies.specs.Pictures.{AcceptsAll, ArePictured, NoneRejected}

-- what holds of each single reply
abbrev pub Follows : Type 0
Follows = (line : Option (List ℕ)) (frame : Frame) (old new : State) (holdings : List Holding)
    → IsSound old → RepliesToLine line frame old new → Mirrors old.sessions holdings → DrawsTheBook frame old new holdings

pub follows_all : Follows → (lines : List (Option (List ℕ))) (frames : List Frame) (drawings : List (Option Canvas)) (old new : State)
    (holdings now : List Holding) → IsSound old → RepliesToAll old lines frames new → Mirrors old.sessions holdings
    → AcceptsAll holdings frames drawings now → ArePictured old lines frames drawings new × Mirrors new.sessions now
follows_all each [] [] [] old new holdings now sound all m a =
    let P : State → Type 0 = λ s. Mirrors s.sessions now in
    let Q : List Holding → Type 0 = λ h. Mirrors old.sessions h in
    ((refl, refl, all), subst P (sym all) (subst Q (sym a) m))
follows_all each [] [] (d ∷ ds) old new holdings now sound all m a = absurd a
follows_all each [] (f ∷ fs) drawings old new holdings now sound all m a = absurd all
follows_all each (l ∷ ls) [] drawings old new holdings now sound all m a = absurd all
follows_all each (l ∷ ls) (f ∷ fs) [] old new holdings now sound all m a = absurd a
follows_all each (l ∷ ls) (f ∷ fs) (d ∷ ds) old new holdings now sound all m a =
    let here = each l f old all.0 holdings sound all.1.0 m d a.0 a.1 in
    let later = follows_all each ls fs ds all.0 new a.0 now all.1.2 all.2 here.0 a.2 in
    ((all.0, all.1.0, here.1, later.0), later.1)

abbrev pub Lacks : Type 0
Lacks = (line : Option (List ℕ)) (frame : Frame) (old new : State) (holdings : List Holding)
    → IsSound old → RepliesToLine line frame old new → Mirrors old.sessions holdings → OnlyLacksMemory frame holdings

none_rejected : Follows → Lacks → (lines : List (Option (List ℕ))) (front behind : List Frame) (frame : Frame)
    (drawings : List (Option Canvas)) (old new : State)
    (holdings now : List Holding) (e : ClientError) → IsSound old → RepliesToAll old lines (front ++ frame ∷ behind) new
    → Mirrors old.sessions holdings
    → AcceptsAll holdings front drawings now → Rejects frame e now → e ≡ NoMemory
none_rejected each lacks [] [] behind frame drawings old new holdings now e sound all m a r = absurd all
none_rejected each lacks [] (f ∷ fs) behind frame drawings old new holdings now e sound all m a r = absurd all
none_rejected each lacks (l ∷ ls) [] behind frame [] old new holdings now e sound all m a r =
    let R : List Holding → Type 0 = λ h. Rejects frame e h in
    lacks l frame old all.0 holdings sound all.1.0 m e (subst R a r)
none_rejected each lacks (l ∷ ls) [] behind frame (d ∷ ds) old new holdings now e sound all m a r = absurd a
none_rejected each lacks (l ∷ ls) (f ∷ fs) behind frame [] old new holdings now e sound all m a r = absurd a
none_rejected each lacks (l ∷ ls) (f ∷ fs) behind frame (d ∷ ds) old new holdings now e sound all m a r =
    let here = each l f old all.0 holdings sound all.1.0 m d a.0 a.1 in
    none_rejected each lacks ls fs behind frame ds all.0 new a.0 now e all.1.2 all.2 here.0 a.2 r

-- a client accepts all replies, from the first one on
pub accepted : Follows → Lacks → (lines : List (Option (List ℕ))) (frames : List Frame) (old new : State) → IsSound old → old.sessions ≡ []
    → RepliesToAll old lines frames new → NoneRejected frames
accepted each lacks lines frames old new sound none all = λ front behind frame drawings holdings e is a r.
    let P : List Frame → Type 0 = λ fs. RepliesToAll old lines fs new in
    none_rejected each lacks lines front behind frame drawings old new [] holdings e sound (subst P is all)
    (ap (λ ss. map mirrored ss) (sym none)) a r
