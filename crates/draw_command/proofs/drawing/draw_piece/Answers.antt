use Rattle.draw_command.proofs.Errors.{error_so}
use Rattle.draw_command.proofs.DrawnFrames.{piece_unfed}
use Rattle.draw_command.proofs.drawing.draw_piece.Goals as goal

pub returns-in_err-feed-clause-stops : goal.returns-in_err-feed-clause-stops
returns-in_err-feed-clause-stops g c =
    error_so _ _ c.from_residual.result c.from_residual.ensures.1
    (λ e is. piece_unfed c.args.every c.args.piece.now c.args.decoder.now c.args.client.now (g.S.Streams.sent c.args.streams.now) e is)
