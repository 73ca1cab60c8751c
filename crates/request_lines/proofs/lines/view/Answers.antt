use Rattle.std.proofs.Common.{◌∷◌, [], refl, arith}
use Rattle.std.specs.Int.{w128}
use Rattle.std.proofs.lemmas.Int.{to_z-of_z, fits_signed_from_abs}
use Rattle.request_lines.specs.declared.places.Place.TheVariants.{Integer, Name, Natural, Range, Session, Where}
use Rattle.request_lines.specs.declared.line_kinds.LineKind.TheVariants.{View}
use Rattle.request_lines.specs.Grammar.{any_behind}
use Rattle.request_lines.proofs.RowLemmas.{passed-ends, reads-misses, reads-misses_end, reads-exit, view_is}
use Rattle.request_lines.proofs.lines.view.Goals as goal

pub returns-in_err-session-clause-reads : goal.returns-in_err-session-clause-reads
returns-in_err-session-clause-reads c =
    reads-exit View c.args.reader.now _ _ c.from_residual.ensures.1
    (reads-misses View [] Session (Name ∷ Natural ∷ Natural ∷ Integer ∷ Integer ∷ Range ∷ []) _ _ _ refl
    refl c.in_err-session.ensures.err)

pub returns-in_err-name-clause-reads : goal.returns-in_err-name-clause-reads
returns-in_err-name-clause-reads c =
    reads-exit View c.args.reader.now _ _ c.from_residual-in_err-name.ensures.1
    (reads-misses View (Session ∷ []) Name (Natural ∷ Natural ∷ Integer ∷ Integer ∷ Range ∷ []) _ _ _ refl
    (_, c.in_ok-session.ensures.ok.0, refl) c.in_err-name.ensures.err)

pub returns-in_err-w-clause-reads : goal.returns-in_err-w-clause-reads
returns-in_err-w-clause-reads c =
    reads-exit View c.args.reader.now _ _ c.from_residual-in_err-w.ensures.1
    (reads-misses View (Session ∷ Name ∷ []) Natural (Natural ∷ Integer ∷ Integer ∷ Range ∷ []) _ _ _ refl
    (_, c.in_ok-session.ensures.ok.0, (_, c.in_ok-name.ensures.ok.0, refl)) c.in_err-w.ensures.err)

pub returns-in_err-h-clause-reads : goal.returns-in_err-h-clause-reads
returns-in_err-h-clause-reads c =
    reads-exit View c.args.reader.now _ _ c.from_residual-in_err-h.ensures.1
    (reads-misses View (Session ∷ Name ∷ Natural ∷ []) Natural (Integer ∷ Integer ∷ Range ∷ []) _ _ _ refl
    (_, c.in_ok-session.ensures.ok.0, (_, c.in_ok-name.ensures.ok.0, (_, c.in_ok-w.ensures.ok.0, refl))) c.in_err-h.ensures.err)

pub returns-in_err-t0-clause-reads : goal.returns-in_err-t0-clause-reads
returns-in_err-t0-clause-reads c =
    reads-exit View c.args.reader.now _ _ c.from_residual-in_err-t0.ensures.1
    (reads-misses View (Session ∷ Name ∷ Natural ∷ Natural ∷ []) Integer (Integer ∷ Range ∷ []) _ _ _ refl
    (_, c.in_ok-session.ensures.ok.0, (_, c.in_ok-name.ensures.ok.0, (_, c.in_ok-w.ensures.ok.0, (_, c.in_ok-h.ensures.ok.0, refl))))
    c.in_err-t0.ensures.err)

pub returns-in_err-t1-clause-reads : goal.returns-in_err-t1-clause-reads
returns-in_err-t1-clause-reads c =
    reads-exit View c.args.reader.now _ _ c.from_residual-in_err-t1.ensures.1
    (reads-misses View (Session ∷ Name ∷ Natural ∷ Natural ∷ Integer ∷ []) Integer (Range ∷ []) _ _ _ refl (
      _,
      c.in_ok-session.ensures.ok.0,
      (
        _,
        c.in_ok-name.ensures.ok.0,
        (_, c.in_ok-w.ensures.ok.0, (_, c.in_ok-h.ensures.ok.0, (_, c.in_ok-t0.ensures.ok.0, refl))),
      ),
    ) c.in_err-t1.ensures.err)

pub returns-in_err-range-clause-reads : goal.returns-in_err-range-clause-reads
returns-in_err-range-clause-reads c =
    reads-exit View c.args.reader.now _ _ c.from_residual-in_err-range.ensures.1
    (reads-misses View (Session ∷ Name ∷ Natural ∷ Natural ∷ Integer ∷ Integer ∷ []) Range [] _ _ _ refl (
      _,
      c.in_ok-session.ensures.ok.0,
      (
        _,
        c.in_ok-name.ensures.ok.0,
        (_, c.in_ok-w.ensures.ok.0, (_, c.in_ok-h.ensures.ok.0, (_, c.in_ok-t0.ensures.ok.0, (_, c.in_ok-t1.ensures.ok.0, refl)))),
      ),
    )
    c.in_err-range.ensures.err)

pub returns-in_err-filter-clause-reads : goal.returns-in_err-filter-clause-reads
returns-in_err-filter-clause-reads c =
    reads-exit View c.args.reader.now _ _ c.from_residual-in_err-filter.ensures.1
    (reads-misses_end View (Session ∷ Name ∷ Natural ∷ Natural ∷ Integer ∷ Integer ∷ Range ∷ []) (any_behind Where) _ _ _ refl refl (
      _,
      c.in_ok-session.ensures.ok.0,
      (
        _,
        c.in_ok-name.ensures.ok.0,
        (
          _,
          c.in_ok-w.ensures.ok.0,
          (
            _,
            c.in_ok-h.ensures.ok.0,
            (_, c.in_ok-t0.ensures.ok.0, (_, c.in_ok-t1.ensures.ok.0, (_, c.in_ok-range.ensures.ok.0, refl))),
          ),
        ),
      ),
    ) c.in_err-filter.ensures.err)

pub returns-clause-reads : goal.returns-clause-reads
returns-clause-reads c = (
  passed-ends (Session ∷ Name ∷ Natural ∷ Natural ∷ Integer ∷ Integer ∷ Range ∷ []) (any_behind Where) _ _ (
    _,
    c.in_ok-session.ensures.ok.0,
    (
      _,
      c.in_ok-name.ensures.ok.0,
      (
        _,
        c.in_ok-w.ensures.ok.0,
        (
          _,
          c.in_ok-h.ensures.ok.0,
          (_, c.in_ok-t0.ensures.ok.0, (_, c.in_ok-t1.ensures.ok.0, (_, c.in_ok-range.ensures.ok.0, refl))),
        ),
      ),
    ),
  )
      c.in_ok-filter.ensures.ok.0,
  view_is _ _ _ _ _ _ _ _ _ _ _ _ _ _ _ _ _ _
      c.in_ok-session.ensures.ok.0 c.in_ok-name.ensures.ok.0 c.in_ok-w.ensures.ok.0 c.in_ok-h.ensures.ok.0 c.in_ok-t0.ensures.ok.0
      c.in_ok-t1.ensures.ok.0 c.in_ok-range.ensures.ok.0
      c.in_ok-filter.ensures.ok.1
      c.in_ok-session.ensures.ok.1
      c.in_ok-name.ensures.ok.1
      c.in_ok-w.ensures.ok.1
      c.in_ok-h.ensures.ok.1
      c.in_ok-t0.ensures.ok.1
      (to_z-of_z w128 c.in_ok-t0.t0 (fits_signed_from_abs w128 c.in_ok-t0.t0 (omega (arith, c.in_ok-t0.ensures.ok.2))))
      c.in_ok-t1.ensures.ok.1
      (to_z-of_z w128 c.in_ok-t1.t1 (fits_signed_from_abs w128 c.in_ok-t1.t1 (omega (arith, c.in_ok-t1.ensures.ok.2))))
      c.in_ok-range.ensures.ok.1,
)
