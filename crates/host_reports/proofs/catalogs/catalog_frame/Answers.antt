use Rattle.std.proofs.Common.{◌≤◌, ◌∷◌, [], length, All, arith, sym, ap, subst, ◌∙◌, length-append}
use Rattle.std.proofs.lemmas.List.Elements.{All-push}
use Rattle.chart_frames.specs.Frames.{FitsListed}
use Rattle.host_reports.proofs.ListLemmas.{listed_more, listed_all}
use Rattle.host_reports.proofs.catalogs.catalog_frame.Goals as goal

pub loop-id-preserved : goal.loop-id-preserved
loop-id-preserved g c = (
  λ total book fit told stands.
      let is = c.in-Some.ensures.books total book fit told stands in
      let info = c.info.ensures.info total book is.series fit told stands is.there in
      listed_more book c.loop-id.id c.loop-id.series.items c.push.new.self.items c.in_ok-listed_series.field-0 is.series is.there
      (c.in_ok-listed_series.ensures.listed is.series c.loop-id.id is.name info)
      (c.loop-id.invariant.0 total book fit told stands) c.in_ok-push.ensures.items,
  subst (All FitsListed) (sym c.in_ok-push.ensures.items)
      (All-push FitsListed c.loop-id.series.items c.in_ok-listed_series.field-0 c.loop-id.invariant.1 c.in_ok-listed_series.ensures.fits),
  ap length c.in_ok-push.ensures.items ∙ length-append c.loop-id.series.items (c.in_ok-listed_series.field-0 ∷ [])
      ∙ omega (arith, c.loop-id.invariant.2),
)

pub returns-clause-frame : goal.returns-clause-frame
returns-clause-frame g c = λ total book fit told stands.
    let long : length book ≤ c.loop-id.id = omega (
      arith,
      c.loop-id-test.false,
      c.loop-id.auto.id-end,
      c.len-id-end.ensures.books total book fit told stands,
    ) in
    λ i. record {
      total = c.total.ensures.books total book fit told stands i;
      used = c.used.ensures.books total book fit told stands i;
      series = (c.from_vec.ensures ∙ listed_all book c.loop-id.id c.loop-id.series.items long
          (c.loop-id.invariant.0 total book fit told stands)) i;
    }
