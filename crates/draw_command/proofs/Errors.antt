-- What is so of an answer.
use Rattle.std.specs.Prelude.{◌≢◌, Result, Ok, Err, IfErr, IsErrAnd, OnOk}

-- an error that is so is also so, where that follows
pub error_so : {T E : Type 0} (P Q : E → Type 0) (r : Result T E) → IsErrAnd r P → ((e : E) → P e → Q e) → IfErr r Q
error_so P Q (Ok v) is more = tt
error_so P Q (Err e) is more = more e is

pub if_err : {T E : Type 0} (P Q : E → Type 0) (r : Result T E) → IfErr r P → ((e : E) → P e → Q e) → IfErr r Q
if_err P Q (Ok v) is more = tt
if_err P Q (Err e) is more = more e is

pub on_ok : {T E : Type 0} (P Q : Type 0) (r : Result T E) → OnOk r P → (P → Q) → OnOk r Q
on_ok P Q (Ok v) is more = more is
on_ok P Q (Err e) is more = tt

-- what is done has no error
pub done_is_no_err : {T E : Type 0} (v : T) (e : E) → ◌≢◌ {A = Result T E} (Ok v) (Err e)
done_is_no_err v e is = cc
