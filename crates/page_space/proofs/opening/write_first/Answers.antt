-- An error leaves the pages, or is one of the disk.
use Rattle.std.proofs.Common.{refl, rules}
use Rattle.std.proofs.lemmas.Result.{err_from_is_err_and}
use Rattle.page_space.proofs.opening.write_first.Goals as goal

pub returns-in_err-batch : goal.returns-in_err-batch
returns-in_err-batch g c =
    let err = err_from_is_err_and c.from_residual.result c.from_residual.ensures.1 in
    rw (err.1, err.2, c.in_err-batch.ensures.cause) (record {
      cause = tt;
      quiet = tt;
      quiet_err = λ _. refl;
      no_memory = λ _. refl;
      unsound = λ is. absurd (cc (is));
      goes_on = search rules;
      commits = search rules;
      done = λ _. tt;
      sound = tt;
      superblock = tt;
    })

pub returns-in_err-commit : goal.returns-in_err-commit
returns-in_err-commit g c =
    let failed = c.in_err-commit.ensures in
    let err = err_from_is_err_and c.from_residual-in_err-commit.result c.from_residual-in_err-commit.ensures.1 in
    rw (err.1, err.2) (record {
      cause = failed.cause;
      quiet = tt;
      quiet_err = λ no. absurd (no refl);
      no_memory = λ is. absurd (cc (is));
      unsound = λ _. failed.unsound;
      goes_on = c.commit.ensures.goes_on;
      commits = search rules;
      done = λ _. tt;
      sound = tt;
      superblock = tt;
    })
