use Rattle.std.proofs.Common.{◌∙◌, ℤ, SFits, rules, subst, sym}
use Rattle.std.proofs.lemmas.Int.{to_z-of_z}
use Rattle.std.specs.Int.{w64}
use Rattle.series_pair.specs.Derived.{AreShifted}
use Rattle.series_store.specs.Shown as shown
use Rattle.derive_command.proofs.AskLemmas.{ids_refused, lacks_refused, off_grid_in, on_grid_in, view_known, view_refused, view_refused_in}
use Rattle.derive_command.proofs.asking.asked_of.Goals as goal

pub returns-in-Err-clause-asked : goal.returns-in-Err-clause-asked
returns-in-Err-clause-asked g c = λ total book sound told stands.
    ids_refused book c.args.request.now c.in-Err.refusal (c.in-Err.ensures.ids total book sound told stands)

pub returns-in_default-clause-asked : goal.returns-in_default-clause-asked
returns-in_default-clause-asked g c = λ total book sound told stands. (
  c.in-Ok.ids.0,
  c.in-Ok.ids.1,
  c.in-Ok.ensures.ids total book sound told stands,
  c.in_default.ensures.shift total book sound told stands,
)

pub returns-in-Err-view_of-clause-asked : goal.returns-in-Err-view_of-clause-asked
returns-in-Err-view_of-clause-asked g c = λ total book sound told stands.
    view_refused book c.args.request.now c.in-Ok.ids.0 c.in-Ok.ids.1 c.in-Some.shift (c.in-Ok.ensures.ids total book sound told stands)
    (c.in-Some.ensures.shift total book sound told stands) c.in-Err-view_of.refusal c.in-Err-view_of.ensures.view

pub returns-clause-asked : goal.returns-clause-asked
returns-clause-asked g c = λ total book sound told stands.
    let view = c.in-Ok-view_of.ensures.view in
    let fits : SFits w64 c.in-Some.shift = search rules in
    let S : ℤ → Type 0 = λ d. AreShifted book c.in-Ok.ids.0 c.in-Ok.ids.1 d in
    record {
      named = c.in-Ok.ensures.ids total book sound told stands;
      shifted = subst S (sym (c.sum_of.ensures.shift ∙ to_z-of_z w64 c.in-Some.shift fits))
          (c.in-Some.ensures.shift total book sound told stands);
      a = c.sum_of.ensures.a;
      b = c.sum_of.ensures.b;
      grid_is = view.0;
      range_is = view.1;
    }

pub returns-in-Err-clause-lacks : goal.returns-in-Err-clause-lacks
returns-in-Err-clause-lacks g c = λ is. c.in-Err.ensures.lacks.1

pub returns-in-Err-view_of-clause-lacks : goal.returns-in-Err-view_of-clause-lacks
returns-in-Err-view_of-clause-lacks g c = λ is. absurd
    (view_known c.args.request.now c.in-Err-view_of.refusal c.in-Err-view_of.ensures.view is)

pub returns-in-Err-clause-records : goal.returns-in-Err-clause-records
returns-in-Err-clause-records g c = lacks_refused (shown.catalog c.args.store.now) c.args.request.now c.in-Err.refusal
    c.in-Err.ensures.lacks.0 c.in-Err.ensures.lacks.1

pub returns-in_default-clause-records : goal.returns-in_default-clause-records
returns-in_default-clause-records g c =
    off_grid_in (shown.catalog c.args.store.now) c.args.request.now c.in-Ok.ids.0 c.in-Ok.ids.1 c.in-Ok.ensures.named c.in-Ok.ensures.first
    c.in-Ok.ensures.second c.in_default.ensures.records

pub returns-in-Err-view_of-clause-records : goal.returns-in-Err-view_of-clause-records
returns-in-Err-view_of-clause-records g c =
    view_refused_in (shown.catalog c.args.store.now) c.args.request.now
    (on_grid_in (shown.catalog c.args.store.now) c.args.request.now c.in-Ok.ids.0 c.in-Ok.ids.1 c.in-Ok.ensures.named c.in-Some.shift
    c.in-Some.ensures.records)
    c.in-Err-view_of.refusal c.in-Err-view_of.ensures.view

pub returns-clause-records : goal.returns-clause-records
returns-clause-records g c = record {
  named = c.in-Ok.ensures.named;
  on_grid = on_grid_in (shown.catalog c.args.store.now) c.args.request.now c.in-Ok.ids.0 c.in-Ok.ids.1 c.in-Ok.ensures.named c.in-Some.shift
      c.in-Some.ensures.records;
  grid_is = c.in-Ok-view_of.ensures.view.0;
}
