use Rattle.std.proofs.Common.{◌∷◌, [], refl, arith}
use Rattle.std.specs.Int.{w128}
use Rattle.std.proofs.lemmas.Int.{to_z-of_z, fits_signed_from_abs}
use Rattle.request_lines.specs.declared.places.Place.TheVariants.{Integer, Name}
use Rattle.request_lines.specs.declared.line_kinds.LineKind.TheVariants.{Set}
use Rattle.request_lines.specs.Grammar.{one_or_more}
use Rattle.request_lines.proofs.RowLemmas.{passed-ends, reads-misses, reads-misses_end, reads-exit, set_is}
use Rattle.request_lines.proofs.lines.set.Goals as goal

pub returns-in_err-name-clause-reads : goal.returns-in_err-name-clause-reads
returns-in_err-name-clause-reads c =
    reads-exit Set c.args.reader.now _ _ c.from_residual.ensures.1
    (reads-misses Set [] Name (Integer ∷ []) _ _ _ refl
    refl c.in_err-name.ensures.err)

pub returns-in_err-time-clause-reads : goal.returns-in_err-time-clause-reads
returns-in_err-time-clause-reads c =
    reads-exit Set c.args.reader.now _ _ c.from_residual-in_err-time.ensures.1
    (reads-misses Set (Name ∷ []) Integer [] _ _ _ refl
    (_, c.in_ok-name.ensures.ok.0, refl) c.in_err-time.ensures.err)

pub returns-in_err-values-clause-reads : goal.returns-in_err-values-clause-reads
returns-in_err-values-clause-reads c =
    reads-exit Set c.args.reader.now _ _ c.from_residual-in_err-values.ensures.1
    (reads-misses_end Set (Name ∷ Integer ∷ []) (one_or_more Integer) _ _ _ refl refl
    (_, c.in_ok-name.ensures.ok.0, (_, c.in_ok-time.ensures.ok.0, refl)) c.in_err-values.ensures.err)

pub returns-clause-reads : goal.returns-clause-reads
returns-clause-reads c = (
  passed-ends (Name ∷ Integer ∷ []) (one_or_more Integer) _ _
      (_, c.in_ok-name.ensures.ok.0, (_, c.in_ok-time.ensures.ok.0, refl))
      c.in_ok-values.ensures.ok.0,
  set_is _ _ _ _ _ _ _
      c.in_ok-name.ensures.ok.0 c.in_ok-time.ensures.ok.0
      c.in_ok-name.ensures.ok.1
      c.in_ok-time.ensures.ok.1
      (to_z-of_z w128 c.in_ok-time.time (fits_signed_from_abs w128 c.in_ok-time.time (omega (arith, c.in_ok-time.ensures.ok.2))))
      c.in_ok-values.ensures.ok.1,
)
