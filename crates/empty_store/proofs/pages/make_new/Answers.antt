use Rattle.std.proofs.lemmas.Result.{IfOk-weaker}
use Rattle.store_upgrade.proofs.Magics.{tells_current, tells_other}
use Rattle.empty_store.proofs.pages.make_new.Goals as goal

pub returns-in-Ok-true-clause-cause : goal.returns-in-Ok-true-clause-cause
returns-in-Ok-true-clause-cause g c = λ told.
    tells_current (g.P.Pages.view c.args.pages).image c.in-Ok-true.field-0 (c.in-Ok-true.ensures.old told) c.in-Ok-true.field-0-test

pub returns-in-Ok-false-clause-fresh : goal.returns-in-Ok-false-clause-fresh
returns-in-Ok-false-clause-fresh g c =
    IfOk-weaker c.write_pages.result _ _ (λ made sound told old.
    tells_other (g.P.Pages.view c.args.pages).image c.in-Ok-false.field-0 (c.in-Ok-false.ensures.old told) c.in-Ok-false.field-0-test old)
    c.write_pages.ensures.sound

pub returns-in-Ok-false-clause-kept : goal.returns-in-Ok-false-clause-kept
returns-in-Ok-false-clause-kept g c = λ told old.
    absurd (tells_other (g.P.Pages.view c.args.pages).image c.in-Ok-false.field-0
    (c.in-Ok-false.ensures.old told) c.in-Ok-false.field-0-test old)
