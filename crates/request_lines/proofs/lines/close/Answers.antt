use Rattle.std.proofs.Common.{◌∷◌, [], refl, ◌∙◌}
use Rattle.request_lines.specs.declared.places.Place.TheVariants.{Session}
use Rattle.request_lines.specs.declared.line_kinds.LineKind.TheVariants.{Close}
use Rattle.request_lines.specs.Grammar.{nothing}
use Rattle.request_lines.proofs.GrammarLemmas.{fault-end}
use Rattle.request_lines.proofs.RowLemmas.{passed-fault, reads-misses, reads-misses_end, reads-exit, close_is}
use Rattle.request_lines.proofs.lines.close.Goals as goal

pub returns-in_err-session-clause-reads : goal.returns-in_err-session-clause-reads
returns-in_err-session-clause-reads c =
    reads-exit Close c.args.reader.now _ _ c.from_residual.ensures.1
    (reads-misses Close [] Session [] _ _ _ refl
    refl c.in_err-session.ensures.err)

pub returns-in_err-end-clause-reads : goal.returns-in_err-end-clause-reads
returns-in_err-end-clause-reads c =
    reads-exit Close c.args.reader.now _ _ c.from_residual-in_err-end.ensures.1
    (reads-misses_end Close (Session ∷ []) nothing _ _ _ refl refl
    (_, c.in_ok-session.ensures.ok.0, refl) c.in_err-end.ensures.err)

pub returns-clause-reads : goal.returns-clause-reads
returns-clause-reads c = (
  passed-fault _ (Session ∷ []) [] nothing _ _
      (_, c.in_ok-session.ensures.ok.0, refl)
      ∙ fault-end _ _ c.in_ok-end.ensures.ok,
  close_is _ _ _
      c.in_ok-session.ensures.ok.0
      c.in_ok-end.ensures.ok
      c.in_ok-session.ensures.ok.1,
)
