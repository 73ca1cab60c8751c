use Rattle.std.proofs.Common.{length}
use Rattle.std.proofs.lemmas.Result.{err_from_is_err_and}
use Rattle.request_lines.specs.declared.places.Place.TheVariants.{Where}
use Rattle.request_lines.proofs.TokenLemmas.{beyond}
use Rattle.request_lines.proofs.GrammarLemmas.{fault-none_behind, fault-behind, misses_behind}
use Rattle.request_lines.proofs.RowLemmas.{no_filter, some_filter}
use Rattle.request_lines.proofs.readers.Reader.filter.Goals as goal

pub returns-then-not-has_token-clause-ok : goal.returns-then-not-has_token-clause-ok
returns-then-not-has_token-clause-ok c =
    let past = beyond _ c.args.self.now.at (length c.args.self.now.line) c.has_token.ensures.1 c.if-not-has_token.true in
    (fault-none_behind _ Where _ past, no_filter _ past)

pub returns-in_err-token-clause-err : goal.returns-in_err-token-clause-err
returns-in_err-token-clause-err c =
    let p = err_from_is_err_and c.from_residual.result c.from_residual.ensures.1 in
    rw (p.1, p.2) (misses_behind Where _ _ (c.has_token.ensures.0 c.if-not-has_token.false) c.in_err-token.ensures.err)

pub returns-clause-ok : goal.returns-clause-ok
returns-clause-ok c = (
  fault-behind _ Where _ _ c.in_ok-token.ensures.ok.0,
  some_filter Where _ _ _ _ c.in_ok-token.ensures.ok.0 c.rest.ensures.bytes c.in_ok-text.ensures,
)
