use Rattle.std.proofs.Common.{◌∷◌, [], refl}
use Rattle.request_lines.specs.declared.places.Place.TheVariants.{Name, Value}
use Rattle.request_lines.specs.declared.line_kinds.LineKind.TheVariants.{Append}
use Rattle.request_lines.specs.Grammar.{one_or_more}
use Rattle.request_lines.proofs.RowLemmas.{passed-ends, reads-misses, reads-misses_end, reads-exit, append_is}
use Rattle.request_lines.proofs.lines.append.Goals as goal

pub returns-in_err-name-clause-reads : goal.returns-in_err-name-clause-reads
returns-in_err-name-clause-reads c =
    reads-exit Append c.args.reader.now _ _ c.from_residual.ensures.1
    (reads-misses Append [] Name [] _ _ _ refl
    refl c.in_err-name.ensures.err)

pub returns-in_err-values-clause-reads : goal.returns-in_err-values-clause-reads
returns-in_err-values-clause-reads c =
    reads-exit Append c.args.reader.now _ _ c.from_residual-in_err-values.ensures.1
    (reads-misses_end Append (Name ∷ []) (one_or_more Value) _ _ _ refl refl
    (_, c.in_ok-name.ensures.ok.0, refl) c.in_err-values.ensures.err)

pub returns-clause-reads : goal.returns-clause-reads
returns-clause-reads c = (
  passed-ends (Name ∷ []) (one_or_more Value) _ _
      (_, c.in_ok-name.ensures.ok.0, refl)
      c.in_ok-values.ensures.ok.0,
  append_is _ _ _ _
      c.in_ok-name.ensures.ok.0
      c.in_ok-name.ensures.ok.1
      c.in_ok-values.ensures.ok.1,
)
