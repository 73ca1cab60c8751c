use Rattle.std.proofs.Common.{◌≡◌, ◌<◌, ◌≤ℤ◌, ◌==◌, true, false, if◌then◌else◌, List, Option, Some, None, refl, sym, ap, ◌∙◌, subst}
use Rattle.std.proofs.Common.{replicate, to_z, of_z, w64, rules}
use Rattle.std.specs.Prelude.{AllPairs}
use Rattle.om3_coeff.specs.declared.key.Key.{Key}
use Rattle.om3_coeff.specs.declared.coef.Coef.{Coef}
use Rattle.om3_coeff.specs.declared.span.Span.{Span}
use Rattle.om3_coeff.specs.Spans.{IsProperIfAny}
use Rattle.chart_grid.specs.declared.axis.Axis.{Axis}
use Rattle.chart_frames.specs.declared.frame.ViewFrame.{ViewFrame}
use Rattle.chart_frames.specs.Frames.{FitsView, IsRange, Precedes}
use Rattle.std.proofs.lemmas.Int.{to_z-of_z}
use Rattle.std.proofs.lemmas.List.Elements.{All-weaker}
use Rattle.m4_groups.specs.Heights.{IsDrawable}
use Rattle.chart_client.specs.declared.held_nodes.HeldNodes.{HeldNodes}
use Rattle.chart_client.specs.Holdings.{axis_of, root_of, seen_by}
use Rattle.view_keys.specs.Wanted.{IsWanted}
use Rattle.needed_nodes.specs.Answers.{AgreesForView, AreDrawnAs, IsCauseFor, IsShownRow, points_of}
use Rattle.chart_client.specs.HeldNodes.{held_view, seen_of, IsFit}
use Rattle.chart_client.specs.Searching.{IsFirstOf}
use Rattle.chart_client.proofs.Found.{range_at, Lists, AreFor, found_wanted, found_usable, found_rows, found_some, found_failure}
use Rattle.chart_client.proofs.finding.find.Goals as goal

pub unreachable-requires : goal.unreachable-requires
unreachable-requires c =
    let low : to_z w64 (of_z w64 c.args.view.now.lo) ≡ c.args.view.now.lo = to_z-of_z w64 c.args.view.now.lo (search rules) in
    let high : to_z w64 (of_z w64 c.args.view.now.hi) ≡ c.args.view.now.hi = to_z-of_z w64 c.args.view.now.hi (search rules) in
    let nodes : HeldNodes = record {
      series = c.args.view.now.series;
      sent = c.as_slice.result;
      cache = c.args.cache;
      slots = c.args.view.now.slots;
      root = c.root_of.result;
      asked = None;
      hints = replicate 64 (0, 0);
    } in
    let are : AreFor nodes c.axis_of-axis.result c.args.view.now c.args.cache.now =
    record {
      axis_is = c.axis_of-axis.ensures;
      series = refl;
      sent = c.as_slice.ensures;
      cache_is = refl;
      slots = refl;
      root = c.root_of.ensures;
    } in
    found_some nodes c.survey.new.nodes c.axis_of-axis.result c.args.view.now c.args.cache.now c.args.grid c.in-Err-Node.field-0
    c.in-Err-Node.field-0-0 c.first_failing.result are
    c.survey.ensures.kept c.in-Err-Node.field-0-is (range_at
    (λ lo hi. IsCauseFor (held_view nodes) (held_view c.survey.new.nodes) c.axis_of-axis.result c.args.grid lo hi c.in-Err-Node.field-0)
    _ _ c.args.view.now.lo c.args.view.now.hi low high c.in-Err-Node.ensures.cause)
    (range_at (λ lo hi. IsFirstOf (seen_of c.survey.new.nodes) c.survey.new.nodes.slots
    (IsWanted (seen_of c.survey.new.nodes) c.axis_of-axis.result c.args.grid lo hi) c.first_failing.result) _ _ c.args.view.now.lo
    c.args.view.now.hi low high c.first_failing.ensures) c.in_default.is

pub returns-in-Ok-clause-wanted : goal.returns-in-Ok-clause-wanted
returns-in-Ok-clause-wanted c =
    let low : to_z w64 (of_z w64 c.args.view.now.lo) ≡ c.args.view.now.lo = to_z-of_z w64 c.args.view.now.lo (search rules) in
    let high : to_z w64 (of_z w64 c.args.view.now.hi) ≡ c.args.view.now.hi = to_z-of_z w64 c.args.view.now.hi (search rules) in
    let nodes : HeldNodes = record {
      series = c.args.view.now.series;
      sent = c.as_slice.result;
      cache = c.args.cache;
      slots = c.args.view.now.slots;
      root = c.root_of.result;
      asked = None;
      hints = replicate 64 (0, 0);
    } in
    let are : AreFor nodes c.axis_of-axis.result c.args.view.now c.args.cache.now =
    record {
      axis_is = c.axis_of-axis.ensures;
      series = refl;
      sent = c.as_slice.ensures;
      cache_is = refl;
      slots = refl;
      root = c.root_of.ensures;
    } in
    found_wanted nodes c.axis_of-axis.result c.args.view.now c.args.cache.now c.args.grid c.in-Ok.findings.needed are
    (range_at (λ lo hi. Lists nodes c.axis_of-axis.result c.args.grid lo hi c.in-Ok.findings.needed) _ _ c.args.view.now.lo
    c.args.view.now.hi low high (c.in-Ok.ensures.told tt))

pub returns-in-Ok-clause-usable : goal.returns-in-Ok-clause-usable
returns-in-Ok-clause-usable c =
    let low : to_z w64 (of_z w64 c.args.view.now.lo) ≡ c.args.view.now.lo = to_z-of_z w64 c.args.view.now.lo (search rules) in
    let high : to_z w64 (of_z w64 c.args.view.now.hi) ≡ c.args.view.now.hi = to_z-of_z w64 c.args.view.now.hi (search rules) in
    let nodes : HeldNodes = record {
      series = c.args.view.now.series;
      sent = c.as_slice.result;
      cache = c.args.cache;
      slots = c.args.view.now.slots;
      root = c.root_of.result;
      asked = None;
      hints = replicate 64 (0, 0);
    } in
    let are : AreFor nodes c.axis_of-axis.result c.args.view.now c.args.cache.now =
    record {
      axis_is = c.axis_of-axis.ensures;
      series = refl;
      sent = c.as_slice.ensures;
      cache_is = refl;
      slots = refl;
      root = c.root_of.ensures;
    } in
    found_usable nodes c.axis_of-axis.result c.args.view.now c.args.cache.now c.args.grid c.in-Ok.findings.needed are
    (range_at (λ lo hi. Lists nodes c.axis_of-axis.result c.args.grid lo hi c.in-Ok.findings.needed) _ _ c.args.view.now.lo
    c.args.view.now.hi low high (c.in-Ok.ensures.told tt))

pub returns-in-Ok-clause-rows : goal.returns-in-Ok-clause-rows
returns-in-Ok-clause-rows c = λ list agrees.
    let low : to_z w64 (of_z w64 c.args.view.now.lo) ≡ c.args.view.now.lo = to_z-of_z w64 c.args.view.now.lo (search rules) in
    let high : to_z w64 (of_z w64 c.args.view.now.hi) ≡ c.args.view.now.hi = to_z-of_z w64 c.args.view.now.hi (search rules) in
    let nodes : HeldNodes = record {
      series = c.args.view.now.series;
      sent = c.as_slice.result;
      cache = c.args.cache;
      slots = c.args.view.now.slots;
      root = c.root_of.result;
      asked = None;
      hints = replicate 64 (0, 0);
    } in
    let are : AreFor nodes c.axis_of-axis.result c.args.view.now c.args.cache.now =
    record {
      axis_is = c.axis_of-axis.ensures;
      series = refl;
      sent = c.as_slice.ensures;
      cache_is = refl;
      slots = refl;
      root = c.root_of.ensures;
    } in
    found_rows nodes c.axis_of-axis.result c.args.view.now c.args.cache.now c.args.grid c.in-Ok.findings.needed c.in-Ok.findings.rows list
    (c.wanted_keys_are_needed.ensures.same list (axis_of c.args.view.now) c.args.grid c.args.view.now.lo c.args.view.now.hi
    (seen_by c.args.view.now c.args.cache.now))
    c.requires are (range_at (λ lo hi. Lists nodes c.axis_of-axis.result c.args.grid lo hi c.in-Ok.findings.needed) _ _ c.args.view.now.lo
    c.args.view.now.hi low high (c.in-Ok.ensures.told tt)) agrees
    (range_at (λ lo hi. AgreesForView (held_view nodes) c.axis_of-axis.result c.args.grid lo hi list
    → AreDrawnAs c.args.grid lo hi (points_of c.axis_of-axis.result c.args.grid list) c.in-Ok.findings.rows) _ _ c.args.view.now.lo
    c.args.view.now.hi low high (c.in-Ok.ensures.rows list))

pub returns-in-Some-clause-failed : goal.returns-in-Some-clause-failed
returns-in-Some-clause-failed c =
    let low : to_z w64 (of_z w64 c.args.view.now.lo) ≡ c.args.view.now.lo = to_z-of_z w64 c.args.view.now.lo (search rules) in
    let high : to_z w64 (of_z w64 c.args.view.now.hi) ≡ c.args.view.now.hi = to_z-of_z w64 c.args.view.now.hi (search rules) in
    let nodes : HeldNodes = record {
      series = c.args.view.now.series;
      sent = c.as_slice.result;
      cache = c.args.cache;
      slots = c.args.view.now.slots;
      root = c.root_of.result;
      asked = None;
      hints = replicate 64 (0, 0);
    } in
    let are : AreFor nodes c.axis_of-axis.result c.args.view.now c.args.cache.now =
    record {
      axis_is = c.axis_of-axis.ensures;
      series = refl;
      sent = c.as_slice.ensures;
      cache_is = refl;
      slots = refl;
      root = c.root_of.ensures;
    } in
    found_failure nodes c.survey.new.nodes c.axis_of-axis.result c.args.view.now c.args.cache.now c.args.grid c.first_failing.result
    c.in-Some.failure c.error_of.result are
    c.survey.ensures.kept (range_at (λ lo hi. IsFirstOf (seen_of c.survey.new.nodes) c.survey.new.nodes.slots
    (IsWanted (seen_of c.survey.new.nodes) c.axis_of-axis.result c.args.grid lo hi) c.first_failing.result) _ _ c.args.view.now.lo
    c.args.view.now.hi low high c.first_failing.ensures) c.in-Some.is c.error_of.ensures

-- the span of all slots is one, where there is any
proper_root : (view : ViewFrame) → IsRange view.rmin view.rmax → IsProperIfAny (root_of view)
proper_root view range = elim (view.has == 1) as (λ b. IsProperIfAny (if b then Some (record { min = view.rmin; max = view.rmax })
    else None)) [
      | true ↦ record { ordered = range.ordered; low = range.low; high = range.high }
      | false ↦ tt
    ]

-- the nodes of a view may be asked
may_be_asked : (view : ViewFrame) (sent : List (Key × Coef)) (root : Option Span) → FitsView view → sent ≡ view.coefs → root ≡ root_of view
    → IsFit sent view.slots root
may_be_asked view sent root fits sent_is root_is =
    let limit = fits.head.source.axis.limit in
    let order = fits.coefs.order in
    let proper = proper_root view fits.head.source.stored.range in record {
      few = search rules;
      proper = subst (λ (r : Option Span). IsProperIfAny r) (sym root_is) proper;
      order = subst (λ (es : List (Key × Coef)). AllPairs Precedes es) (sym sent_is) order;
    }

pub survey-requires : goal.survey-requires
survey-requires c =
    let low : to_z w64 (of_z w64 c.args.view.now.lo) ≡ c.args.view.now.lo = to_z-of_z w64 c.args.view.now.lo (search rules) in
    let high : to_z w64 (of_z w64 c.args.view.now.hi) ≡ c.args.view.now.hi = to_z-of_z w64 c.args.view.now.hi (search rules) in
    record {
      fit = may_be_asked c.args.view.now c.as_slice.result.now c.root_of.result c.requires c.as_slice.ensures c.root_of.ensures;
      slots = ap (λ (a : Axis). a.slots) c.axis_of-axis.ensures;
      step = subst (λ (a : Axis). 0 < a.step) (sym c.axis_of-axis.ensures) c.requires.head.source.axis.least;
      range = range_at (λ lo hi. lo ≤ℤ hi) c.args.view.now.lo c.args.view.now.hi _ _ (sym low)
          (sym high) c.requires.head.source.range.ordered;
    }

pub first_failing-requires : goal.first_failing-requires
first_failing-requires c =
    let low : to_z w64 (of_z w64 c.args.view.now.lo) ≡ c.args.view.now.lo = to_z-of_z w64 c.args.view.now.lo (search rules) in
    let high : to_z w64 (of_z w64 c.args.view.now.hi) ≡ c.args.view.now.hi = to_z-of_z w64 c.args.view.now.hi (search rules) in
    record {
      fit = c.survey.ensures.fit;
      slots = ap (λ (a : Axis). a.slots) c.axis_of-axis.ensures ∙ sym c.survey.ensures.kept.slots;
      step = subst (λ (a : Axis). 0 < a.step) (sym c.axis_of-axis.ensures) c.requires.head.source.axis.least;
      order = range_at (λ lo hi. lo ≤ℤ hi) c.args.view.now.lo c.args.view.now.hi _ _ (sym low)
          (sym high) c.requires.head.source.range.ordered;
    }

pub returns-in-Ok-clause-rising : goal.returns-in-Ok-clause-rising
returns-in-Ok-clause-rising c = c.in-Ok.ensures.rising

pub returns-in-Ok-clause-drawable : goal.returns-in-Ok-clause-drawable
returns-in-Ok-clause-drawable c = All-weaker (IsShownRow c.args.grid.w) (IsDrawable c.args.grid.w)
    (λ row shown. shown.drawable) c.in-Ok.findings.rows c.in-Ok.ensures.shown

pub returns-in-Ok-clause-failed : goal.returns-in-Ok-clause-failed
returns-in-Ok-clause-failed c = tt

pub returns-in-Err-NoMemory : goal.returns-in-Err-NoMemory
returns-in-Err-NoMemory c = record { wanted = tt; usable = tt; rows = λ list agrees. tt; rising = tt; drawable = tt; failed = tt }

pub returns-in-Some-clause-wanted : goal.returns-in-Some-clause-wanted
returns-in-Some-clause-wanted c = tt

pub returns-in-Some-clause-usable : goal.returns-in-Some-clause-usable
returns-in-Some-clause-usable c = tt

pub returns-in-Some-clause-rising : goal.returns-in-Some-clause-rising
returns-in-Some-clause-rising c = tt

pub returns-in-Some-clause-drawable : goal.returns-in-Some-clause-drawable
returns-in-Some-clause-drawable c = tt

pub returns-in-Some-clause-rows : goal.returns-in-Some-clause-rows
returns-in-Some-clause-rows c = λ list agrees. tt
