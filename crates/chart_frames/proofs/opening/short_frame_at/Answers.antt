use Rattle.std.proofs.Common.{◌≡◌, ℕ, sym, subst, arith, rules}
use Rattle.std.specs.Prelude.{IfOk, IfErr, Err}
use Rattle.chart_frames.specs.Frames.{Fits}
use Rattle.chart_frames.specs.Reading.{read}
use Rattle.chart_frames.specs.Fields.{kind_fields}
use Rattle.chart_frames.specs.Spelled.{framed, frame_before}
use Rattle.chart_frames.proofs.Admits.{admits_done, admits_refused, admits_opened, admits_closed, admits_live, admits_swept, admits_some}
use Rattle.chart_frames.proofs.opening.short_frame_at.Goals as goal

pub returns-in-1-clause-ok : goal.returns-in-1-clause-ok
returns-in-1-clause-ok c =
    let P : ℕ → Type 0 = λ k. IfOk c.done_at.result (λ x. Fits x.0 × (framed 9 k c.args.bytes.now ≡ frame_before x.0 x.1.now)) in
    let Q : ℕ → Type 0 = λ l. IfOk c.done_at.result (λ x. Fits x.0 × (framed l c.args.kind c.args.bytes.now ≡ frame_before x.0 x.1.now)) in
    subst Q (sym (admits_done c.args.length c.args.kind c.requires.admitted c.in-1.is)) (subst P (sym c.in-1.is) c.done_at.ensures.takes)

pub returns-in-2-clause-ok : goal.returns-in-2-clause-ok
returns-in-2-clause-ok c =
    let P : ℕ → Type 0 = λ k. IfOk c.refused_at.result (λ x. Fits x.0 × (framed 18 k c.args.bytes.now ≡ frame_before x.0 x.1.now)) in
    let Q : ℕ → Type 0 = λ l. IfOk c.refused_at.result (λ x. Fits x.0
    × (framed l c.args.kind c.args.bytes.now ≡ frame_before x.0 x.1.now)) in
    subst Q (sym (admits_refused c.args.length c.args.kind c.requires.admitted c.in-2.is))
    (subst P (sym c.in-2.is) c.refused_at.ensures.takes)

pub returns-in-3-clause-ok : goal.returns-in-3-clause-ok
returns-in-3-clause-ok c =
    let P : ℕ → Type 0 = λ k. IfOk c.opened_at.result (λ x. Fits x.0 × (framed 9 k c.args.bytes.now ≡ frame_before x.0 x.1.now)) in
    let Q : ℕ → Type 0 = λ l. IfOk c.opened_at.result (λ x. Fits x.0
    × (framed l c.args.kind c.args.bytes.now ≡ frame_before x.0 x.1.now)) in
    subst Q (sym (admits_opened c.args.length c.args.kind c.requires.admitted c.in-3.is))
    (subst P (sym c.in-3.is) c.opened_at.ensures.takes)

pub returns-in-4-clause-ok : goal.returns-in-4-clause-ok
returns-in-4-clause-ok c =
    let P : ℕ → Type 0 = λ k. IfOk c.closed_at.result (λ x. Fits x.0 × (framed 5 k c.args.bytes.now ≡ frame_before x.0 x.1.now)) in
    let Q : ℕ → Type 0 = λ l. IfOk c.closed_at.result (λ x. Fits x.0
    × (framed l c.args.kind c.args.bytes.now ≡ frame_before x.0 x.1.now)) in
    subst Q (sym (admits_closed c.args.length c.args.kind c.requires.admitted c.in-4.is))
    (subst P (sym c.in-4.is) c.closed_at.ensures.takes)

pub returns-in-7-clause-ok : goal.returns-in-7-clause-ok
returns-in-7-clause-ok c =
    let P : ℕ → Type 0 = λ k. IfOk c.live_at.result (λ x. Fits x.0 × (framed 6 k c.args.bytes.now ≡ frame_before x.0 x.1.now)) in
    let Q : ℕ → Type 0 = λ l. IfOk c.live_at.result (λ x. Fits x.0 × (framed l c.args.kind c.args.bytes.now ≡ frame_before x.0 x.1.now)) in
    subst Q (sym (admits_live c.args.length c.args.kind c.requires.admitted c.in-7.is)) (subst P (sym c.in-7.is) c.live_at.ensures.takes)

pub returns-in_default-clause-ok : goal.returns-in_default-clause-ok
returns-in_default-clause-ok c =
    let some = admits_some c.args.length c.args.kind c.requires.admitted in
    let is : c.args.kind ≡ 10 = omega (
      arith,
      some.0,
      some.1,
      c.requires.no_coefs,
      c.requires.no_rows,
      c.requires.no_series,
      c.requires.no_values,
    ) in
    let P : ℕ → Type 0 = λ k. IfOk c.swept_at.result (λ x. Fits x.0 × (framed 8 k c.args.bytes.now ≡ frame_before x.0 x.1.now)) in
    let Q : ℕ → Type 0 = λ l. IfOk c.swept_at.result (λ x. Fits x.0 × (framed l c.args.kind c.args.bytes.now ≡ frame_before x.0 x.1.now)) in
    subst Q (sym (admits_swept c.args.length c.args.kind c.requires.admitted is)) (subst P (sym is) c.swept_at.ensures.takes)

pub returns-in_default-clause-err : goal.returns-in_default-clause-err
unfolding kind_fields
returns-in_default-clause-err c =
    let some = admits_some c.args.length c.args.kind c.requires.admitted in
    let is : c.args.kind ≡ 10 = omega (
      arith,
      some.0,
      some.1,
      c.requires.no_coefs,
      c.requires.no_rows,
      c.requires.no_series,
      c.requires.no_values,
    ) in
    let P : ℕ → Type 0 = λ k. IfErr c.swept_at.result (λ e. read (kind_fields c.args.length k) c.args.bytes.now ≡ Err e) in
    subst P (sym is) (search (rules, c.swept_at.ensures.reads))
