use Rattle.std.proofs.Common.{◌≡◌, ◌++◌, List, [], ℕ, sym, ap, subst, ◌∙◌}
use Rattle.std.proofs.lemmas.List.{append-nil}
use Rattle.std.specs.Prelude.{Option, Some, None, Result, Ok, Err}
use Rattle.chart_frames.specs.declared.errors.FrameFault.{FrameFault}
use Rattle.chart_frames.specs.declared.errors.FrameFault.TheVariants.{BadFrame}
use Rattle.chart_frames.specs.declared.frame.Frame.{Frame}
use Rattle.chart_frames.specs.Frames.{spelling}
use Rattle.chart_frames.specs.Pending.{Pending, held}
use Rattle.chart_frames.specs.Stream.{IsOnly}
use Rattle.chart_client.specs.Showing.{Spells}
use Rattle.chart_client.proofs.screen.read.Goals as goal

-- what a decoder that was fed the bytes holds
fed : (bytes : List ℕ) (new now : Pending) (f : Frame) → new ≡ held 0 [] → now.rest ≡ new.rest ++ bytes → Spells bytes f
    → now.rest ≡ spelling f ++ []
fed bytes new now f fresh is spelled =
    is ∙ ap (λ (p : Pending). p.rest ++ bytes) fresh ∙ spelled.is ∙ sym (append-nil (spelling f))

same_frame : (f g : Frame) → ◌≡◌ {A = Result (Option Frame) FrameFault} (Ok (Some f)) (Ok (Some g)) → f ≡ g
same_frame f g e = cc

frame_given : (bytes : List ℕ) (f g : Frame) (r : Result (Option Frame) FrameFault) → r ≡ Ok (Some g) → IsOnly r (Ok (Some f))
    → Spells bytes f → Spells bytes g
frame_given bytes f g r is only spelled =
    subst (λ (h : Frame). Spells bytes h) (same_frame f g
    (subst (λ (x : Result (Option Frame) FrameFault). IsOnly x (Ok (Some f))) is only)) spelled

not_partial : (f : Frame) (r : Result (Option Frame) FrameFault) → r ≡ Ok None → IsOnly r (Ok (Some f)) → ⊥
not_partial f r is only =
    let e : ◌≡◌ {A = Result (Option Frame) FrameFault} (Ok (Some f))
    (Ok None) = subst (λ (x : Result (Option Frame) FrameFault). IsOnly x (Ok (Some f))) is only in cc

not_bad : (f : Frame) (at : ℕ) (r : Result (Option Frame) FrameFault) → r ≡ Err (BadFrame at) → IsOnly r (Ok (Some f)) → ⊥
not_bad f at r is only =
    let e : ◌≡◌ {A = Result (Option Frame) FrameFault} (Ok (Some f))
    (Err (BadFrame at)) = subst (λ (x : Result (Option Frame) FrameFault). IsOnly x (Ok (Some f))) is only in cc

pub returns-in-Ok-Some-clause-frame : goal.returns-in-Ok-Some-clause-frame
returns-in-Ok-Some-clause-frame c =
    let f : Frame = c.requires.0 in
    let spelled : Spells c.args.bytes.now f = c.requires.1 in
    frame_given c.args.bytes.now f c.in-Ok-Some.frame c.next.result (c.in-Ok-Some.is
    ∙ ap (λ (o : Option Frame). Ok o) c.in-Ok-Some.field-0-is)
    (c.next.ensures.frame f [] spelled.fits (fed c.args.bytes.now c.new-decoder.result c.feed.new.self f c.new-decoder.ensures
    c.in-Ok.ensures.ok spelled)) spelled

pub unreachable-requires : goal.unreachable-requires
unreachable-requires c =
    let f : Frame = c.requires.0 in
    let spelled : Spells c.args.bytes.now f = c.requires.1 in
    not_partial f c.next.result (c.in-Ok-None.is ∙ ap (λ (o : Option Frame). Ok o) c.in-Ok-None.field-0-is)
    (c.next.ensures.frame f [] spelled.fits (fed c.args.bytes.now c.new-decoder.result c.feed.new.self f c.new-decoder.ensures
    c.in-Ok.ensures.ok spelled))

pub unreachable-requires-in-Err-BadFrame : goal.unreachable-requires-in-Err-BadFrame
unreachable-requires-in-Err-BadFrame c =
    let f : Frame = c.requires.0 in
    let spelled : Spells c.args.bytes.now f = c.requires.1 in
    not_bad f c.in-Err-BadFrame.field-0-0 c.next.result (c.in-Err-BadFrame.is ∙ ap (λ (e : FrameFault). Err e) c.in-Err-BadFrame.field-0-is)
    (c.next.ensures.frame f [] spelled.fits (fed c.args.bytes.now c.new-decoder.result c.feed.new.self f c.new-decoder.ensures
    c.in-Ok.ensures.ok spelled))
