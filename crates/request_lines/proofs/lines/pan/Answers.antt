use Rattle.std.proofs.Common.{◌∷◌, [], refl, ◌∙◌, arith}
use Rattle.std.specs.Int.{w128}
use Rattle.std.proofs.lemmas.Int.{to_z-of_z, fits_signed_from_abs}
use Rattle.request_lines.specs.declared.places.Place.TheVariants.{Integer, Session}
use Rattle.request_lines.specs.declared.line_kinds.LineKind.TheVariants.{Pan}
use Rattle.request_lines.specs.Grammar.{nothing}
use Rattle.request_lines.proofs.GrammarLemmas.{fault-end}
use Rattle.request_lines.proofs.RowLemmas.{passed-fault, reads-misses, reads-misses_end, reads-exit, pan_is}
use Rattle.request_lines.proofs.lines.pan.Goals as goal

pub returns-in_err-session-clause-reads : goal.returns-in_err-session-clause-reads
returns-in_err-session-clause-reads c =
    reads-exit Pan c.args.reader.now _ _ c.from_residual.ensures.1
    (reads-misses Pan [] Session (Integer ∷ []) _ _ _ refl
    refl c.in_err-session.ensures.err)

pub returns-in_err-by-clause-reads : goal.returns-in_err-by-clause-reads
returns-in_err-by-clause-reads c =
    reads-exit Pan c.args.reader.now _ _ c.from_residual-in_err-by.ensures.1
    (reads-misses Pan (Session ∷ []) Integer [] _ _ _ refl
    (_, c.in_ok-session.ensures.ok.0, refl) c.in_err-by.ensures.err)

pub returns-in_err-end-clause-reads : goal.returns-in_err-end-clause-reads
returns-in_err-end-clause-reads c =
    reads-exit Pan c.args.reader.now _ _ c.from_residual-in_err-end.ensures.1
    (reads-misses_end Pan (Session ∷ Integer ∷ []) nothing _ _ _ refl refl
    (_, c.in_ok-session.ensures.ok.0, (_, c.in_ok-by.ensures.ok.0, refl)) c.in_err-end.ensures.err)

pub returns-clause-reads : goal.returns-clause-reads
returns-clause-reads c = (
  passed-fault _ (Session ∷ Integer ∷ []) [] nothing _ _
      (_, c.in_ok-session.ensures.ok.0, (_, c.in_ok-by.ensures.ok.0, refl))
      ∙ fault-end _ _ c.in_ok-end.ensures.ok,
  pan_is _ _ _ _ _ _
      c.in_ok-session.ensures.ok.0 c.in_ok-by.ensures.ok.0
      c.in_ok-end.ensures.ok
      c.in_ok-session.ensures.ok.1
      c.in_ok-by.ensures.ok.1
      (to_z-of_z w128 c.in_ok-by.by (fits_signed_from_abs w128 c.in_ok-by.by (omega (arith, c.in_ok-by.ensures.ok.2)))),
)
