use Rattle.std.proofs.Common.{◌≡◌, ℕ, List, ◌++◌, length, drop, sym, ap, ◌∙◌, subst, arith, length-append, length-drop}
use Rattle.std.proofs.lemmas.List.{drop-append-le}
use Rattle.chart_frames.specs.Places.{Reached}
use Rattle.chart_frames.proofs.Places.{fed}
use Rattle.chart_frames.proofs.decoder.Decoder.feed.Goals as goal
use Rattle.chart_frames.proofs.decoder.Decoder.feed.Goals.{in-Ok, in-Err}

pub invariant_of-self : goal.invariant_of-self
invariant_of-self c =
    let start = c.drop_given-self-inside.result in
    let old = c.drop_given-self-inside.new.bytes.items in
    let new = c.extend_from_slice.new.self.items in
    let held = drop c.self.inside.start c.self.inside.bytes.items in
    let place = c.self.inside.place in
    let rest : drop start old ≡ held = c.drop_given-self-inside.ensures.rest in
    let P : List ℕ → Type 0 = λ bytes. Reached bytes place in
    elim c.match-extend_from_slice.branch [
      | in-Ok w ↦
          let grown : new ≡ old ++ c.args.piece.now = w.in-Ok.ensures.items in
          let more : drop start new ≡ held ++ c.args.piece.now =
          ap (drop start) grown ∙ drop-append-le start old c.args.piece.now c.drop_given-self-inside.ensures.bounds
          ∙ ap (λ (p : List ℕ). p ++ c.args.piece.now) rest in
          record {
            start = omega (arith, ap length grown, length-append old c.args.piece.now, c.drop_given-self-inside.ensures.bounds);
            counted = omega (
              arith,
              ap length more,
              length-append held c.args.piece.now,
              length-drop c.self.inside.start c.self.inside.bytes.items,
              c.self.invariant.counted,
              c.if-piece-self.false,
              c.len.ensures,
            );
            reached = subst P (sym more) (fed held c.args.piece.now place c.self.invariant.reached);
          }
      | in-Err w ↦
          let kept : new ≡ old = w.in-Err.ensures.items in
          let same : drop start new ≡ held = ap (drop start) kept ∙ rest in
          record {
            start = omega (arith, ap length kept, c.drop_given-self-inside.ensures.bounds);
            counted = omega (arith, ap length same, c.self.invariant.counted);
            reached = subst P (sym same) c.self.invariant.reached;
          }
    ]
