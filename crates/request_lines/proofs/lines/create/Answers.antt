use Rattle.std.proofs.Common.{◌∷◌, [], refl, ◌∙◌, arith, w64}
use Rattle.std.proofs.lemmas.Int.{to_z-of_z, fits_signed_from_abs}
use Rattle.request_lines.specs.declared.places.Place.TheVariants.{Name, Scale, Start, Step}
use Rattle.request_lines.specs.declared.line_kinds.LineKind.TheVariants.{Create}
use Rattle.request_lines.specs.Grammar.{nothing}
use Rattle.request_lines.proofs.GrammarLemmas.{fault-end}
use Rattle.request_lines.proofs.RowLemmas.{passed-fault, reads-misses, reads-misses_end, reads-exit, create_is}
use Rattle.request_lines.proofs.lines.create.Goals as goal

pub returns-in_err-name-clause-reads : goal.returns-in_err-name-clause-reads
returns-in_err-name-clause-reads c =
    reads-exit Create c.args.reader.now _ _ c.from_residual.ensures.1
    (reads-misses Create [] Name (Start ∷ Step ∷ Scale ∷ []) _ _ _ refl
    refl c.in_err-name.ensures.err)

pub returns-in_err-start-clause-reads : goal.returns-in_err-start-clause-reads
returns-in_err-start-clause-reads c =
    reads-exit Create c.args.reader.now _ _ c.from_residual-in_err-start.ensures.1
    (reads-misses Create (Name ∷ []) Start (Step ∷ Scale ∷ []) _ _ _ refl
    (_, c.in_ok-name.ensures.ok.0, refl) c.in_err-start.ensures.err)

pub returns-in_err-step-clause-reads : goal.returns-in_err-step-clause-reads
returns-in_err-step-clause-reads c =
    reads-exit Create c.args.reader.now _ _ c.from_residual-in_err-step.ensures.1
    (reads-misses Create (Name ∷ Start ∷ []) Step (Scale ∷ []) _ _ _ refl
    (_, c.in_ok-name.ensures.ok.0, (_, c.in_ok-start.ensures.ok.0, refl)) c.in_err-step.ensures.err)

pub returns-in_err-scale-clause-reads : goal.returns-in_err-scale-clause-reads
returns-in_err-scale-clause-reads c =
    reads-exit Create c.args.reader.now _ _ c.from_residual-in_err-scale.ensures.1
    (reads-misses Create (Name ∷ Start ∷ Step ∷ []) Scale [] _ _ _ refl
    (_, c.in_ok-name.ensures.ok.0, (_, c.in_ok-start.ensures.ok.0, (_, c.in_ok-step.ensures.ok.0, refl))) c.in_err-scale.ensures.err)

pub returns-in_err-end-clause-reads : goal.returns-in_err-end-clause-reads
returns-in_err-end-clause-reads c =
    reads-exit Create c.args.reader.now _ _ c.from_residual-in_err-end.ensures.1
    (reads-misses_end Create (Name ∷ Start ∷ Step ∷ Scale ∷ []) nothing _ _ _ refl refl
    (_, c.in_ok-name.ensures.ok.0, (_, c.in_ok-start.ensures.ok.0, (_, c.in_ok-step.ensures.ok.0, (_, c.in_ok-scale.ensures.ok.0, refl))))
    c.in_err-end.ensures.err)

pub returns-clause-reads : goal.returns-clause-reads
returns-clause-reads c = (
  passed-fault _ (Name ∷ Start ∷ Step ∷ Scale ∷ []) [] nothing _ _
      (_, c.in_ok-name.ensures.ok.0, (_, c.in_ok-start.ensures.ok.0, (_, c.in_ok-step.ensures.ok.0, (_, c.in_ok-scale.ensures.ok.0, refl))))
      ∙ fault-end _ _ c.in_ok-end.ensures.ok,
  create_is _ _ _ _ _ _ _ _ _ _
      c.in_ok-name.ensures.ok.0 c.in_ok-start.ensures.ok.0 c.in_ok-step.ensures.ok.0 c.in_ok-scale.ensures.ok.0
      c.in_ok-end.ensures.ok
      c.in_ok-name.ensures.ok.1
      c.in_ok-start.ensures.ok.1
      (to_z-of_z w64 c.in_ok-start.start (fits_signed_from_abs w64 c.in_ok-start.start (omega (arith, c.in_ok-start.ensures.ok.2))))
      c.in_ok-step.ensures.ok.1
      c.in_ok-scale.ensures.ok.1,
)
