-- Where a serving command was done, no line was passed over, as its page says.
use Rattle.std.proofs.Common.{Result, Ok, Err}
use Rattle.block_disk.specs.View.{View}
use Rattle.chart_client.specs.declared.errors.ClientError.TheVariants as client
use Rattle.chart_service.specs.declared.failure.ServeEnd.TheVariants as serve_end
use Rattle.disk_store.specs.declared.causes.OpeningCause.TheVariants as opening
use Rattle.store_commands.specs.Traffic.{Traffic}
use Rattle.chart_program.specs.LineAnswers.{AnswersTold, IsSentOf, NoneIsPassed}
use Rattle.chart_program.specs.declared.lines_end.LinesEnd.{LinesEnd}
use Rattle.chart_program.specs.declared.lines_end.LinesEnd.TheVariants as lines_end
use Rattle.chart_program.specs.declared.run_end.RunEnd.TheVariants as run_end
use Rattle.chart_program.proofs.ServePage.{end_of, passed}

pub none_passed : {T : Type 0} (IsSent : IsSentOf) (old new : View) (t : Traffic) (answer : Result T LinesEnd)
    → AnswersTold IsSent t.left t.sent t.sent_now answer → NoneIsPassed IsSent (passed old new t) (end_of answer)
none_passed IsSent old new t (Ok done) each = each
none_passed IsSent old new t (Err (lines_end.Opening (opening.TooSmall size))) each = tt
none_passed IsSent old new t (Err (lines_end.Opening (opening.Damaged block))) each = tt
none_passed IsSent old new t (Err (lines_end.Opening opening.DiskFault)) each = tt
none_passed IsSent old new t (Err (lines_end.Opening opening.NoMemory)) each = tt
none_passed IsSent old new t (Err (lines_end.Answering (run_end.Serve serve_end.ReadFault))) each = tt
none_passed IsSent old new t (Err (lines_end.Answering (run_end.Serve serve_end.SendFault))) each = tt
none_passed IsSent old new t (Err (lines_end.Answering (run_end.Serve serve_end.DiskFault))) each = tt
none_passed IsSent old new t (Err (lines_end.Answering (run_end.Serve (serve_end.Damaged page)))) each = tt
none_passed IsSent old new t (Err (lines_end.Answering (run_end.Serve serve_end.InputTooLong))) each = tt
none_passed IsSent old new t (Err (lines_end.Answering (run_end.Serve serve_end.NoMemory))) each = tt
none_passed IsSent old new t (Err (lines_end.Answering (run_end.Show (client.Missing key)))) each = tt
none_passed IsSent old new t (Err (lines_end.Answering (run_end.Show (client.BadCoefficient key)))) each = tt
none_passed IsSent old new t (Err (lines_end.Answering (run_end.Show (client.UnknownSession number)))) each = tt
none_passed IsSent old new t (Err (lines_end.Answering (run_end.Show client.NoMemory))) each = tt
