use Rattle.std.proofs.Common.{◌≤◌, length, take, refl, arith}
use Rattle.chart_frames.proofs.Numbers.{IsBytes}
use Rattle.chart_frames.proofs.ReportReads.{padded_short, padded_bad, padded_good, padded_taken}
use Rattle.chart_frames.proofs.catalog_reading.padded_at.Goals as goal

pub returns-then-bytes-lt-NAME_BYTES-clause-reads : goal.returns-then-bytes-lt-NAME_BYTES-clause-reads
returns-then-bytes-lt-NAME_BYTES-clause-reads c = λ next. padded_short c.args.size next c.args.bytes.now (omega arith)

pub returns-then-not-is_padded-clause-reads : goal.returns-then-not-is_padded-clause-reads
returns-then-not-is_padded-clause-reads c =
    let fits : IsBytes c.args.bytes.now = λ i. omega (arith, c.type_inv.bytes i) in
    let long : 31 ≤ length c.args.bytes.now = omega arith in
    λ next. padded_bad c.args.size next c.args.bytes.now c.split_at.result.0.now fits long c.split_at.ensures.front
    c.if-not-is_padded.ensures

pub returns-clause-reads : goal.returns-clause-reads
returns-clause-reads c =
    let fits : IsBytes c.args.bytes.now = λ i. omega (arith, c.type_inv.bytes i) in
    let long : 31 ≤ length c.args.bytes.now = omega arith in
    λ next. padded_good c.args.size next c.args.bytes.now c.split_at.result.0.now c.split_at.result.1.now fits long c.split_at.ensures.front
    c.split_at.ensures.back c.if-not-is_padded.ensures

pub returns-clause-takes : goal.returns-clause-takes
returns-clause-takes c =
    let long : 31 ≤ length c.args.bytes.now = omega arith in
    padded_taken c.args.size c.args.bytes.now c.split_at.result.0.now c.split_at.result.1.now
    (take c.args.size c.split_at.result.0.now) c.requires long c.split_at.ensures.front c.split_at.ensures.back refl
    c.if-not-is_padded.ensures
