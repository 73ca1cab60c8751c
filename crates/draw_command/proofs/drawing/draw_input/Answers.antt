use Rattle.draw_command.proofs.Errors.{error_so}
use Rattle.draw_command.proofs.DrawnFrames.{no_memory_first}
use Rattle.draw_command.proofs.drawing.draw_input.Goals as goal

pub returns-in_err-client-clause-ends : goal.returns-in_err-client-clause-ends
returns-in_err-client-clause-ends g c =
    error_so _ _ c.from_residual.result c.from_residual.ensures.1
    (λ e is. no_memory_first c.args.every (g.S.Streams.left c.args.streams.now) (g.S.Streams.left c.args.streams.now)
    (g.S.Streams.sent c.args.streams.now) e is)

pub returns-in_err-buffer-clause-ends : goal.returns-in_err-buffer-clause-ends
returns-in_err-buffer-clause-ends g c =
    error_so _ _ c.from_residual-in_err-buffer.result c.from_residual-in_err-buffer.ensures.1
    (λ e is. no_memory_first c.args.every (g.S.Streams.left c.args.streams.now) (g.S.Streams.left c.args.streams.now)
    (g.S.Streams.sent c.args.streams.now) e is)
