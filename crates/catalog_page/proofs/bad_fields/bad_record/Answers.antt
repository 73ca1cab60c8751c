use Rattle.std.proofs.Common.{subst, below_more, rules}
use Rattle.catalog_page.specs.Layout.{IsRecord}
use Rattle.catalog_page.proofs.bad_fields.bad_record.Goals as goal

pub loop-number-preserved : goal.loop-number-preserved
loop-number-preserved c =
    let kept : IsRecord c.args.fresh c.bytes_of.result.now = search rules in
    record { so_far = below_more _ _ c.loop-number.invariant.so_far (subst (λ b. IsRecord c.args.fresh b) c.bytes_of.ensures.bytes kept) }
