-- Blocks that weren't read.
use Rattle.std.proofs.Common.{ℕ, ℤ, ◌+ℤ◌, List, Option, None, Some, refl, arith}
use Rattle.std.specs.Prelude.{slice_get}
use Rattle.request_lines.specs.declared.requests.Request.{Request}
use Rattle.request_lines.specs.declared.requests.Request.TheVariants.{Edit as EditRequest, Open, View as ViewRequest, Zoom, Pan, Close}
use Rattle.series_book.specs.declared.one_series.Series.{Series}
use Rattle.series_book.specs.Edits.{id_of}
use Rattle.value_filter.specs.declared.steps.Step.{Step}
use Rattle.zoom_session.specs.declared.session.Session.{Session}
use Rattle.zoom_session.specs.declared.view_spec.ViewSpec.{ViewSpec}
use Rattle.zoom_session.specs.Sessions.{session_of, last_of}
use Rattle.chart_service.specs.Stepping.{series_at, ReadsBy, ReadsByText, ReadsFew, ReadsFor, ReadsLast, ReadsRows}

pub reads_for : (w n : ℕ) (o : Option Series) → ReadsFor w o n n
reads_for w n None = refl
reads_for w n (Some one) = omega arith

pub reads_rows : (t0 t1 : ℤ) (n : ℕ) (o : Option Series) → ReadsRows t0 t1 o n n
reads_rows t0 t1 n None = refl
reads_rows t0 t1 n (Some one) = λ from to start stop. omega arith

pub reads_by : (filter : Option (List Step)) (w : ℕ) (t0 t1 : ℤ) (o : Option Series) (n : ℕ) → ReadsBy filter w t0 t1 o n n
reads_by None w t0 t1 o n = reads_for w n o
reads_by (Some steps) w t0 t1 o n = reads_rows t0 t1 n o

reads_text : (text : Option (List ℕ)) (w : ℕ) (t0 t1 : ℤ) (o : Option Series) (n : ℕ) → ReadsByText text w t0 t1 o n n
reads_text None w t0 t1 o n = reads_for w n o
reads_text (Some text) w t0 t1 o n = reads_rows t0 t1 n o

pub reads_last : (book : List Series) (n : ℕ) (window : ViewSpec → ℤ × ℤ) (o : Option ViewSpec) → ReadsLast book o window n n
reads_last book n window None = refl
reads_last book n window (Some last) = reads_by last.filter last.grid.w (window last).0 (window last).1 (slice_get book last.series) n

pub reads_none : (request : Request) (book : List Series) (sessions : List Session) (n : ℕ) → ReadsFew request book sessions n n
reads_none (EditRequest edit) book sessions n = omega arith
reads_none (Open number cache) book sessions n = refl
reads_none (ViewRequest number name w h t0 t1 word text) book sessions n = reads_text text w t0 t1 (series_at book (id_of name book)) n
reads_none (Zoom number t0 t1) book sessions n = reads_last book n (λ (last : ViewSpec). (t0, t1)) (last_of (session_of number sessions))
reads_none (Pan number by) book sessions n = reads_last book n (λ (last : ViewSpec). (last.grid.t0 +ℤ by, last.grid.t1 +ℤ by))
    (last_of (session_of number sessions))
reads_none (Close number) book sessions n = refl
