use Rattle.std.proofs.Common.{◌≡◌, ℕ, ◌+◌, ◌*◌, length, drop, ap, ◌∙◌, arith}
use Rattle.chart_frames.proofs.Places.{rows_room, rows_reached_on, rows_whole_on, rows_fails_on}
use Rattle.chart_frames.proofs.place.more_rows.Goals as goal

pub split_at-requires : goal.split_at-requires
split_at-requires c =
    let room = rows_room c.args.bytes.now c.args.frame.now c.args.rows.now.items c.requires in omega (arith, room, c.len.ensures)

pub returns-in-Ok-clause-reached : goal.returns-in-Ok-clause-reached
returns-in-Ok-clause-reached c =
    let is : c.split_at.result.1.now ≡ drop (31 + 34 * length c.args.rows.now.items) c.args.bytes.now =
    let many : c.len.result ≡ length c.args.rows.now.items = omega (arith, c.len.ensures) in
    c.split_at.ensures.back ∙ ap (λ (k : ℕ). drop (31 + 34 * k) c.args.bytes.now) many in
    rows_reached_on c.args.bytes.now c.args.frame.now c.args.rows.now.items c.fill_rows.new.rows.items c.requires c.split_at.result.1.now
    c.in-Ok.left.now is c.fill_rows.ensures.fits c.fill_rows.ensures.room c.in-Ok.ensures.ok.1

pub returns-in-Ok-clause-ok : goal.returns-in-Ok-clause-ok
returns-in-Ok-clause-ok c =
    let is : c.split_at.result.1.now ≡ drop (31 + 34 * length c.args.rows.now.items) c.args.bytes.now =
    let many : c.len.result ≡ length c.args.rows.now.items = omega (arith, c.len.ensures) in
    c.split_at.ensures.back ∙ ap (λ (k : ℕ). drop (31 + 34 * k) c.args.bytes.now) many in
    rows_whole_on c.args.bytes.now c.args.frame.now c.args.rows.now.items c.fill_rows.new.rows.items c.requires c.split_at.result.1.now
    c.in-Ok.left.now is c.in-Ok.ensures.ok.0 c.in-Ok.ensures.ok.1

pub returns-in-Err-clause-reached : goal.returns-in-Err-clause-reached
returns-in-Err-clause-reached c =
    let is : c.split_at.result.1.now ≡ drop (31 + 34 * length c.args.rows.now.items) c.args.bytes.now =
    let many : c.len.result ≡ length c.args.rows.now.items = omega (arith, c.len.ensures) in
    c.split_at.ensures.back ∙ ap (λ (k : ℕ). drop (31 + 34 * k) c.args.bytes.now) many in
    rows_reached_on c.args.bytes.now c.args.frame.now c.args.rows.now.items c.fill_rows.new.rows.items c.requires c.split_at.result.1.now
    c.in-Err.ensures.err.0 is c.fill_rows.ensures.fits c.fill_rows.ensures.room c.in-Err.ensures.err.1

pub returns-in-Err-clause-err : goal.returns-in-Err-clause-err
returns-in-Err-clause-err c =
    let is : c.split_at.result.1.now ≡ drop (31 + 34 * length c.args.rows.now.items) c.args.bytes.now =
    let many : c.len.result ≡ length c.args.rows.now.items = omega (arith, c.len.ensures) in
    c.split_at.ensures.back ∙ ap (λ (k : ℕ). drop (31 + 34 * k) c.args.bytes.now) many in
    rows_fails_on c.args.bytes.now c.args.frame.now c.args.rows.now.items c.fill_rows.new.rows.items c.requires c.split_at.result.1.now
    c.in-Err.ensures.err.0 c.in-Err.stop is c.fill_rows.ensures.fits c.fill_rows.ensures.room c.in-Err.ensures.err.1
    c.in-Err.ensures.err.2
