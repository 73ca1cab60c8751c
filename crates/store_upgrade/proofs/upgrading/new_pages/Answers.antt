use Rattle.std.proofs.Common.{◌≡◌, ◌∙◌, ◌-◌, ℕ, refl, subst, arith}
use Rattle.gate_pages.specs.GateLaws.{goes_none, goes_then}
use Rattle.gate_pages.specs.Batch.{AllBelow}
use Rattle.gate_pages.specs.Entries.{entries}
use Rattle.store_upgrade.specs.Upgrading.{HasOldCatalog, HasNewPages}
use Rattle.store_upgrade.proofs.Looking.{looks_none, looks_one, looks_then, looks_more}
use Rattle.store_upgrade.proofs.Renewed.{gathered_first, gathered_more}
use Rattle.store_upgrade.proofs.upgrading.new_pages.Goals as goal

pub loop-p-init : goal.loop-p-init
loop-p-init g c =
    let view = g.P.Pages.view c.args.pages.now in
    let told = g.P.Pages.told c.args.pages.now in
    let under = g.P.Pages.under c.args.pages.now in
    record {
      whole = c.renew_first.ensures.whole;
      gathered = gathered_first told (c.args.page.now ≡ view.image 0) view under under c.renew_first.new.page c.args.page.now
          (entries c.in_ok-batch.batch) (entries c.put.new.self) (goes_none under) c.renew_first.ensures.page (λ is. is)
          c.in_ok-batch.ensures c.put.ensures.page c.put.ensures.len;
      same = refl;
    }

pub loop-p-preserved : goal.loop-p-preserved
loop-p-preserved g c =
    let view = g.P.Pages.view in
    let told = g.P.Pages.told in
    let under = g.P.Pages.under in
    let old = c.args.pages.now in
    let mid = c.loop-p.pages in
    let new = c.new_page.new.pages in
    let e = c.in_ok-new_page.ensures in
    record {
      whole = c.new_page.ensures.whole;
      gathered = gathered_more (told old) (told mid) (told new) (c.args.page.now ≡ (view old).image 0) (view old) (view mid) (view new)
          (under old) (under mid) (under new) c.new_page.new.page (entries c.loop-p.batch) (entries c.put-in-loop-p.new.self) c.loop-p.p
          (omega arith) (omega arith) c.loop-p.invariant.gathered c.new_page.ensures.reads c.new_page.ensures.goes_on e.kept e.page
          c.put-in-loop-p.ensures.page c.put-in-loop-p.ensures.len;
      same = e.quiet ∙ c.loop-p.invariant.same;
    }

pub returns-in_err-batch-clause-looks : goal.returns-in_err-batch-clause-looks
returns-in_err-batch-clause-looks g c =
    let told = g.P.Pages.told c.args.pages.now in
    let view = g.P.Pages.view c.args.pages.now in
    looks_more 0 16 told told view view (omega arith) (looks_none told view)

pub returns-in_err-batch-clause-goes_on : goal.returns-in_err-batch-clause-goes_on
returns-in_err-batch-clause-goes_on g c = goes_none (g.P.Pages.under c.args.pages.now)

pub returns-in_err-new_page-clause-looks : goal.returns-in_err-new_page-clause-looks
returns-in_err-new_page-clause-looks g c =
    let view = g.P.Pages.view in
    let told = g.P.Pages.told in
    let old = c.args.pages.now in
    let mid = c.loop-p.pages in
    let new = c.new_page.new.pages in
    looks_then (c.loop-p.p - 1) 1 16 (told old) (told mid) (told new) (view old) (view mid) (view new) (omega (arith, c.loop-p-test.true))
    c.loop-p.invariant.gathered.looks (looks_one (told mid) (told new) (view mid) (view new) c.new_page.ensures.reads)

pub returns-in_err-new_page-clause-goes_on : goal.returns-in_err-new_page-clause-goes_on
returns-in_err-new_page-clause-goes_on g c =
    let under = g.P.Pages.under in
    goes_then (under c.args.pages.now) (under c.loop-p.pages)
    (under c.new_page.new.pages) c.loop-p.invariant.gathered.goes_on c.new_page.ensures.goes_on

pub returns-clause-looks : goal.returns-clause-looks
returns-clause-looks g c =
    let view = g.P.Pages.view in
    let told = g.P.Pages.told in
    let old = c.args.pages.now in
    let new = c.loop-p.pages in
    looks_more (c.loop-p.p - 1) 16 (told old) (told new) (view old) (view new)
    (omega (arith, c.loop-p.auto.p-end)) c.loop-p.invariant.gathered.looks

pub returns-clause-goes_on : goal.returns-clause-goes_on
returns-clause-goes_on g c = c.loop-p.invariant.gathered.goes_on

pub returns-clause-few : goal.returns-clause-few
returns-clause-few g c = omega (arith, c.loop-p.invariant.gathered.len, c.loop-p-test.false, c.loop-p.auto.p-end)

pub returns-clause-below : goal.returns-clause-below
returns-clause-below g c =
    let end : c.loop-p.p ≡ 17 = omega (arith, c.loop-p-test.false, c.loop-p.auto.p-end) in
    subst (λ (n : ℕ). AllBelow n (entries c.loop-p.batch)) end c.loop-p.invariant.gathered.below

pub returns-clause-kept : goal.returns-clause-kept
returns-clause-kept g c = λ told.
    let end : c.loop-p.p ≡ 17 = omega (arith, c.loop-p-test.false, c.loop-p.auto.p-end) in
    let image = (g.P.Pages.view c.args.pages.now).image in
    subst (λ (n : ℕ). HasOldCatalog n image) end (c.loop-p.invariant.gathered.kept told)

pub returns-clause-pages : goal.returns-clause-pages
returns-clause-pages g c = λ told first.
    let end : c.loop-p.p ≡ 17 = omega (arith, c.loop-p-test.false, c.loop-p.auto.p-end) in
    let image = (g.P.Pages.view c.args.pages.now).image in
    subst (λ (n : ℕ). HasNewPages n (entries c.loop-p.batch) image) end (c.loop-p.invariant.gathered.pages told first)
