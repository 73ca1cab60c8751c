use Rattle.std.proofs.Common.{◌≡◌, ◌<◌, ℕ, refl, sym, ◌∙◌, ap, subst, List, length, SFits, to_z, of_z, w64, rules}
use Rattle.std.specs.Prelude.{All}
use Rattle.std.proofs.lemmas.Result.{IfOk-from_err}
use Rattle.m4_groups.specs.Heights.{IsDrawable}
use Rattle.chart_frames.specs.Frames.{IsRange}
use Rattle.chart_client.proofs.Found.{range_at}
use Rattle.std.proofs.Math.ListN.{set}
use Rattle.std.proofs.lemmas.Int.{to_z-of_z}
use Rattle.om3_coeff.specs.declared.key.Key.{Key}
use Rattle.om3_coeff.specs.declared.coef.Coef.{Coef}
use Rattle.coefficient_cache.specs.Pairs.{in_series}
use Rattle.coefficient_cache.specs.Views.{AreDistinct, renewed}
use Rattle.chart_frames.specs.declared.frame.Frame.TheVariants.{View}
use Rattle.chart_client.specs.declared.holding.Holding.{Holding}
use Rattle.chart_client.specs.declared.errors.ClientError.{ClientError}
use Rattle.chart_client.specs.Accepting.{Rejects, viewed}
use Rattle.chart_client.proofs.Places.{IsAt, at_held, at_none, same_held, inside_items, same_cache, order_distinct}
use Rattle.chart_client.proofs.Spanned.{view_spanned}
use Rattle.chart_client.proofs.Viewed.{IsDrawn, view_accepted, view_rejected, err_as}
use Rattle.chart_client.proofs.client.Client.view.Goals as goal

pub returns-in_default-clause-rejected : goal.returns-in_default-clause-rejected
returns-in_default-clause-rejected c = (refl, at_none c.args.view.now.session c.args.self.now (sym c.place_of.ensures ∙ c.in_default.is))

pub returns-in_err-findings-clause-rejected : goal.returns-in_err-findings-clause-rejected
returns-in_err-findings-clause-rejected c =
    let at : IsAt c.args.view.now.session c.args.self.now c.in-Some.place c.index.result.now =
    at_held c.args.view.now.session c.self.inside.holdings.items c.args.self.now c.in-Some.place c.index.result.now c.self.view_is
    (sym c.place_of.ensures ∙ c.in-Some.is) c.index.ensures in
    err_as c.from_residual.result (λ (e : ClientError). Rejects (View c.args.view.now) e c.args.self.now) c.in_err-findings.field-0.0
    c.from_residual.ensures.1
    (view_rejected c.args.view.now c.args.self.now c.in-Some.place c.index.result.now c.grid_of-grid.result c.in_err-findings.field-0.0 at
    c.grid_of-grid.ensures c.in_err-findings.ensures.failed)

pub index_mut-holding-requires : goal.index_mut-holding-requires
index_mut-holding-requires c =
    let inside : c.in-Some.place < length c.self.inside.holdings.items =
    inside_items c.args.view.now.session c.self.inside.holdings.items c.args.self.now c.in-Some.place c.index.result.now c.self.view_is
    (at_held c.args.view.now.session c.self.inside.holdings.items c.args.self.now c.in-Some.place c.index.result.now c.self.view_is
    (sym c.place_of.ensures ∙ c.in-Some.is) c.index.ensures) in
    search rules

pub renew-requires : goal.renew-requires
renew-requires c =
    subst (λ (es : List (Key × Coef)). AreDistinct es) (sym c.as_slice.ensures)
    (order_distinct c.in_ok-findings.findings.needed c.in_ok-findings.ensures.wanted.order)

pub returns-clause-accepted : goal.returns-clause-accepted
returns-clause-accepted c =
    let low_fits : SFits w64 c.args.view.now.lo = search rules in
    let high_fits : SFits w64 c.args.view.now.hi = search rules in
    let held : Holding = c.index_mut-holding.result.now in
    let es : List (Key × Coef) = c.in_ok-findings.findings.needed in
    let at : IsAt c.args.view.now.session c.args.self.now c.in-Some.place held =
    at_held c.args.view.now.session c.self.inside.holdings.items c.args.self.now c.in-Some.place held c.self.view_is
    (sym c.place_of.ensures ∙ c.in-Some.is) c.index_mut-holding.ensures.value in
    let same : c.index.result.now ≡ held =
    same_held c.self.inside.holdings.items c.in-Some.place c.index.result.now held
    (inside_items c.args.view.now.session c.self.inside.holdings.items c.args.self.now c.in-Some.place held c.self.view_is at)
    c.index.ensures c.index_mut-holding.ensures.value in
    let drawn : IsDrawn c.args.view.now c.index.result.now.cache c.grid_of-grid.result es c.in_ok-findings.findings.rows
    c.in_ok-bitmap.bitmap =
    record {
      fits = c.requires;
      grid_is = c.grid_of-grid.ensures;
      usable = c.in_ok-findings.ensures.usable;
      wanted = c.in_ok-findings.ensures.wanted;
      shown = c.in_ok-findings.ensures.rows;
      wide = c.in_ok-bitmap.ensures.wide;
      high = c.in_ok-bitmap.ensures.tall;
      draws = λ g points of canvas order rows heights.
          (simp to_z-of_z at c.in_ok-bitmap.ensures.draws g points of canvas order rows) heights;
    } in
    let renewed_is : c.renew.new.self ≡ viewed c.args.view.now held.cache es =
    same_cache c.renew.new.self (renewed held.cache.capacity held.cache.pairs (in_series c.args.view.now.series es)) held.cache.capacity
    (c.in_ok-renew.ensures.renewed ∙ ap (λ (l : List (Key × Coef)). renewed held.cache.capacity held.cache.pairs
    (in_series c.args.view.now.series l)) c.as_slice.ensures)
    c.in_ok-renew.ensures.capacity in
    view_accepted c.args.view.now c.args.self.now _ c.in-Some.place held c.grid_of-grid.result es c.in_ok-findings.findings.rows
    c.in_ok-bitmap.bitmap c.renew.new.self
    (record { order = c.points_are_the_samples.ensures.order; placed = c.points_are_the_samples.ensures.places }) at
    (subst (λ (h : Holding). IsDrawn c.args.view.now h.cache c.grid_of-grid.result es c.in_ok-findings.findings.rows c.in_ok-bitmap.bitmap)
    same drawn)
    renewed_is
    (ap (λ (hs : List Holding). set hs c.in-Some.place (record { number = held.number; cache = c.renew.new.self })) c.self.view_is)

pub picture_of-requires : goal.picture_of-requires
picture_of-requires c =
    let low_fits : SFits w64 c.args.view.now.lo = search rules in
    let high_fits : SFits w64 c.args.view.now.hi = search rules in
    let low : c.args.view.now.lo ≡ to_z w64 (of_z w64 c.args.view.now.lo) = sym (to_z-of_z w64 c.args.view.now.lo low_fits) in
    let high : c.args.view.now.hi ≡ to_z w64 (of_z w64 c.args.view.now.hi) = sym (to_z-of_z w64 c.args.view.now.hi high_fits) in
    let range : IsRange (to_z w64 (of_z w64 c.args.view.now.lo))
    (to_z w64 (of_z w64 c.args.view.now.hi)) = range_at IsRange c.args.view.now.lo c.args.view.now.hi _ _ low high
    c.requires.head.source.range in
    record {
      some_columns = c.requires.head.place.width.low;
      columns = c.requires.head.place.width.high;
      some_rows = c.requires.head.place.height.low;
      high = c.requires.head.place.height.high;
      range = range.ordered;
      low_end = range.low;
      high_end = range.high;
      rising = c.in_ok-findings.ensures.rising;
      drawable = subst (λ (w : ℕ). All (IsDrawable w) c.in_ok-findings.findings.rows) c.grid_of-grid.ensures.canvas.columns
          c.in_ok-findings.ensures.drawable;
    }

pub returns-in_err-findings-clause-accepted : goal.returns-in_err-findings-clause-accepted
returns-in_err-findings-clause-accepted c = IfOk-from_err c.from_residual.result _ c.from_residual.ensures.0

pub returns-in_err-bitmap-clause-accepted : goal.returns-in_err-bitmap-clause-accepted
returns-in_err-bitmap-clause-accepted c = IfOk-from_err c.from_residual-in_err-bitmap.result _ c.from_residual-in_err-bitmap.ensures.0

pub returns-clause-rejected : goal.returns-clause-rejected
returns-clause-rejected c = tt

pub returns-clause-kept : goal.returns-clause-kept
returns-clause-kept c = tt

pub returns-in_err-findings-clause-columns : goal.returns-in_err-findings-clause-columns
returns-in_err-findings-clause-columns c = IfOk-from_err c.from_residual.result _ c.from_residual.ensures.0

pub returns-in_err-bitmap-clause-columns : goal.returns-in_err-bitmap-clause-columns
returns-in_err-bitmap-clause-columns c = IfOk-from_err c.from_residual-in_err-bitmap.result _ c.from_residual-in_err-bitmap.ensures.0

pub returns-clause-columns : goal.returns-clause-columns
returns-clause-columns c =
    let at : IsAt c.args.view.now.session c.args.self.now c.in-Some.place c.index.result.now =
    at_held c.args.view.now.session c.self.inside.holdings.items c.args.self.now c.in-Some.place c.index.result.now c.self.view_is
    (sym c.place_of.ensures ∙ c.in-Some.is) c.index.ensures in
    view_spanned c.args.view.now c.args.self.now c.in-Some.place c.index.result.now c.grid_of-grid.result c.in_ok-findings.findings.rows
    c.of-columns.result
    at c.grid_of-grid.ensures c.in_ok-findings.ensures.rows c.of-columns.ensures
