-- What is so of an error.
use Rattle.std.specs.Prelude.{Result, Ok, Err, IfErr, IsErrAnd}

-- an error that is so is also so, where that follows
pub error_so : {T E : Type 0} (P Q : E → Type 0) (r : Result T E) → IsErrAnd r P → ((e : E) → P e → Q e) → IfErr r Q
error_so P Q (Ok v) is more = tt
error_so P Q (Err e) is more = more e is
