use Rattle.std.proofs.Common.{ℕ, ◌≡◌, ◌<◌, length, get_or}
use Rattle.client_exports.specs.declared.answer.Answer.{Answer}
use Rattle.client_exports.specs.Answers.{TellsColumn}
use Rattle.client_exports.proofs.stream.Stream.tell_columns.Given as goal

-- the columns before x are told
abbrev pub invariant-loop-x : goal.invariant-loop-x
invariant-loop-x l = record {
  size : length l.out ≡ length l.fn.out;
  told : (i : ℕ) (d : Answer) → i < l.x → TellsColumn l.self.columns i (get_or l.out i d);
}
