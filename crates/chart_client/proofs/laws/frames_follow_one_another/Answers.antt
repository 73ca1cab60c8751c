use Rattle.std.proofs.Common.{◌≡◌, refl, ◌∙◌, ap, subst, List, [], ◌∷◌, ◌++◌}
use Rattle.std.specs.Prelude.{Option, Some, None}
use Rattle.std.specs.List.{cons_option}
use Rattle.line_raster.specs.Canvas.{Canvas}
use Rattle.chart_frames.specs.declared.frame.Frame.{Frame}
use Rattle.chart_client.specs.declared.holding.Holding.{Holding}
use Rattle.chart_client.specs.Accepting.{Accepts, AcceptsAll}
use Rattle.chart_client.proofs.laws.frames_follow_one_another.Goals as goal

cons_append : (d : Option Canvas) (xs ys : List Canvas) → cons_option d xs ++ ys ≡ cons_option d (xs ++ ys)
cons_append None xs ys = refl
cons_append (Some x) xs ys = refl

next : (frames : List Frame) (drawings : List Canvas) (old between new : List Holding) (frame : Frame) (drawing : Option Canvas)
    → AcceptsAll frames drawings old between → Accepts frame drawing between new
    → AcceptsAll (frames ++ frame ∷ []) (drawings ++ cons_option drawing []) old new
next [] drawings old between new frame drawing all last = (
  drawing,
  new,
  [],
  subst (λ (hs : List Holding). Accepts frame drawing hs new) all.1 last,
  (refl, refl),
  ap (λ (l : List Canvas). l ++ cons_option drawing []) all.0,
)
next (f ∷ frames) drawings old between new frame drawing all last = (
  all.0,
  all.1,
  all.2 ++ cons_option drawing [],
  all.3,
  next frames all.2 all.1 between new frame drawing all.4 last,
  ap (λ (l : List Canvas). l ++ cons_option drawing []) all.5 ∙ cons_append all.0 all.2 (cons_option drawing []),
)

pub returns-clause-next : goal.returns-clause-next
returns-clause-next c = λ frames drawings old between new frame drawing all last.
    next frames drawings old between new frame drawing all last
