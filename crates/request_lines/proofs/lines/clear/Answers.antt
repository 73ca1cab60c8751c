use Rattle.std.proofs.Common.{◌∷◌, [], refl, ◌∙◌, arith}
use Rattle.std.specs.Int.{w128}
use Rattle.std.proofs.lemmas.Int.{to_z-of_z, fits_signed_from_abs}
use Rattle.request_lines.specs.declared.places.Place.TheVariants.{Integer, Name, Natural}
use Rattle.request_lines.specs.declared.line_kinds.LineKind.TheVariants.{Clear}
use Rattle.request_lines.specs.Grammar.{nothing}
use Rattle.request_lines.proofs.GrammarLemmas.{fault-end}
use Rattle.request_lines.proofs.RowLemmas.{passed-fault, reads-misses, reads-misses_end, reads-exit, clear_is}
use Rattle.request_lines.proofs.lines.clear.Goals as goal

pub returns-in_err-name-clause-reads : goal.returns-in_err-name-clause-reads
returns-in_err-name-clause-reads c =
    reads-exit Clear c.args.reader.now _ _ c.from_residual.ensures.1
    (reads-misses Clear [] Name (Integer ∷ Natural ∷ []) _ _ _ refl
    refl c.in_err-name.ensures.err)

pub returns-in_err-time-clause-reads : goal.returns-in_err-time-clause-reads
returns-in_err-time-clause-reads c =
    reads-exit Clear c.args.reader.now _ _ c.from_residual-in_err-time.ensures.1
    (reads-misses Clear (Name ∷ []) Integer (Natural ∷ []) _ _ _ refl
    (_, c.in_ok-name.ensures.ok.0, refl) c.in_err-time.ensures.err)

pub returns-in_err-count-clause-reads : goal.returns-in_err-count-clause-reads
returns-in_err-count-clause-reads c =
    reads-exit Clear c.args.reader.now _ _ c.from_residual-in_err-count.ensures.1
    (reads-misses Clear (Name ∷ Integer ∷ []) Natural [] _ _ _ refl
    (_, c.in_ok-name.ensures.ok.0, (_, c.in_ok-time.ensures.ok.0, refl)) c.in_err-count.ensures.err)

pub returns-in_err-end-clause-reads : goal.returns-in_err-end-clause-reads
returns-in_err-end-clause-reads c =
    reads-exit Clear c.args.reader.now _ _ c.from_residual-in_err-end.ensures.1
    (reads-misses_end Clear (Name ∷ Integer ∷ Natural ∷ []) nothing _ _ _ refl refl
    (_, c.in_ok-name.ensures.ok.0, (_, c.in_ok-time.ensures.ok.0, (_, c.in_ok-count.ensures.ok.0, refl))) c.in_err-end.ensures.err)

pub returns-clause-reads : goal.returns-clause-reads
returns-clause-reads c = (
  passed-fault _ (Name ∷ Integer ∷ Natural ∷ []) [] nothing _ _
      (_, c.in_ok-name.ensures.ok.0, (_, c.in_ok-time.ensures.ok.0, (_, c.in_ok-count.ensures.ok.0, refl)))
      ∙ fault-end _ _ c.in_ok-end.ensures.ok,
  clear_is _ _ _ _ _ _ _ _
      c.in_ok-name.ensures.ok.0 c.in_ok-time.ensures.ok.0 c.in_ok-count.ensures.ok.0
      c.in_ok-end.ensures.ok
      c.in_ok-name.ensures.ok.1
      c.in_ok-time.ensures.ok.1
      (to_z-of_z w128 c.in_ok-time.time (fits_signed_from_abs w128 c.in_ok-time.time (omega (arith, c.in_ok-time.ensures.ok.2))))
      c.in_ok-count.ensures.ok.1,
)
