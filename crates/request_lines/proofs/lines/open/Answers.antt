use Rattle.std.proofs.Common.{◌∷◌, [], length, refl, ◌∙◌}
use Rattle.request_lines.specs.declared.places.Place.TheVariants.{Session, Natural}
use Rattle.request_lines.specs.declared.line_kinds.LineKind.TheVariants.{Open}
use Rattle.request_lines.specs.Grammar.{nothing, at_most_one}
use Rattle.request_lines.proofs.TokenLemmas.{beyond}
use Rattle.request_lines.proofs.GrammarLemmas.{fault-end, fault-none, fault-one, fault-takes, misses_one, misses_end_one}
use Rattle.request_lines.proofs.RowLemmas.{passed-ends, reads-misses, reads-misses_end, reads-exit, open_alone, open_sized}
use Rattle.request_lines.proofs.lines.open.Goals as goal

pub returns-in_err-session-clause-reads : goal.returns-in_err-session-clause-reads
returns-in_err-session-clause-reads c =
    reads-exit Open c.args.reader.now _ _ c.from_residual.ensures.1
    (reads-misses Open [] Session [] _ _ _ refl refl c.in_err-session.ensures.err)

pub returns-then-not-has_token-clause-reads : goal.returns-then-not-has_token-clause-reads
returns-then-not-has_token-clause-reads c =
    let past = beyond _ c.session.new.self.at (length c.session.new.self.line) c.has_token.ensures.1 c.if-not-has_token.true in (
      passed-ends (Session ∷ []) (at_most_one Natural) _ _ (_, c.in_ok-session.ensures.ok.0, refl) (fault-none _ Natural _ past),
      open_alone _ _ _ c.in_ok-session.ensures.ok.0 past c.in_ok-session.ensures.ok.1,
    )

pub returns-in_err-cache-clause-reads : goal.returns-in_err-cache-clause-reads
returns-in_err-cache-clause-reads c =
    reads-exit Open c.args.reader.now _ _ c.from_residual-in_err-cache.ensures.1
    (reads-misses_end Open (Session ∷ []) (at_most_one Natural) _ _ _ refl refl (_, c.in_ok-session.ensures.ok.0, refl)
    (misses_one Natural _ _ (c.has_token.ensures.0 c.if-not-has_token.false) c.in_err-cache.ensures.err))

pub returns-in_err-end-clause-reads : goal.returns-in_err-end-clause-reads
returns-in_err-end-clause-reads c =
    reads-exit Open c.args.reader.now _ _ c.from_residual-in_err-end.ensures.1
    (reads-misses_end Open (Session ∷ []) (at_most_one Natural) _ _ _ refl refl (_, c.in_ok-session.ensures.ok.0, refl)
    (misses_end_one Natural _ _ _ c.in_ok-cache.ensures.ok.0 c.in_err-end.ensures.err))

pub returns-clause-reads : goal.returns-clause-reads
returns-clause-reads c = (
  passed-ends (Session ∷ []) (at_most_one Natural) _ _ (_, c.in_ok-session.ensures.ok.0, refl)
      (fault-one _ Natural _ c.in_ok-cache.ensures.ok.0.there
      ∙ fault-takes _ Natural [] nothing _ _ c.in_ok-cache.ensures.ok.0 ∙ fault-end _ _ c.in_ok-end.ensures.ok),
  open_sized _ _ _ _ _ c.in_ok-session.ensures.ok.0 c.in_ok-cache.ensures.ok.0 c.in_ok-end.ensures.ok c.in_ok-session.ensures.ok.1
      c.in_ok-cache.ensures.ok.1,
)
