use Rattle.std.proofs.Common.{refl, arith}
use Rattle.std.proofs.lemmas.Result.{err_from_is_err_and}
use Rattle.chart_world.proofs.feed.Feed.refill.Goals as goal

pub returns-in_err-count : goal.returns-in_err-count
returns-in_err-count g c =
    let failed = c.in_err-count.ensures in
    let err = err_from_is_err_and c.from_residual.result c.from_residual.ensures.1 in
    rw err.1 (record {
      given = tt;
      left = tt;
      start = tt;
      end = tt;
      taken = tt;
      ended = tt;
      ended_nothing = tt;
      left_on_err = failed.left_on_err;
      passed_on_err = c.requires.passed;
      taken_on_err = refl;
      spill = refl;
      limit = refl;
      cause = failed.cause;
      quiet = tt;
      sent = c.take.ensures.sent;
      send_faults = c.take.ensures.send_faults;
      read_faults = c.take.ensures.read_faults;
      pieces = omega (arith, failed.no_piece_on_err);
      piece = tt;
      beside = c.take.ensures.beside;
    })
