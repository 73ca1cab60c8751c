use Rattle.std.proofs.Common.{◌≡◌, ℕ, ◌+◌, ◌*◌, length, drop, ap, ◌∙◌, arith}
use Rattle.chart_frames.proofs.Places.{view_room, view_reached_on, view_whole_on, view_fails_on}
use Rattle.chart_frames.proofs.place.more_coefs.Goals as goal

pub split_at-requires : goal.split_at-requires
split_at-requires c =
    let room = view_room c.args.bytes.now c.args.view.now c.args.coefs.now.items c.requires in omega (arith, room, c.len.ensures)

pub returns-in-Ok-clause-reached : goal.returns-in-Ok-clause-reached
returns-in-Ok-clause-reached c =
    let is : c.split_at.result.1.now ≡ drop (88 + 25 * length c.args.coefs.now.items) c.args.bytes.now =
    let many : c.len.result ≡ length c.args.coefs.now.items = omega (arith, c.len.ensures) in
    c.split_at.ensures.back ∙ ap (λ (k : ℕ). drop (88 + 25 * k) c.args.bytes.now) many in
    view_reached_on c.args.bytes.now c.args.view.now c.args.coefs.now.items c.fill_coefs.new.coefs.items c.requires c.split_at.result.1.now
    c.in-Ok.left.now is c.fill_coefs.ensures.fits c.fill_coefs.ensures.room c.in-Ok.ensures.ok.1

pub returns-in-Ok-clause-ok : goal.returns-in-Ok-clause-ok
returns-in-Ok-clause-ok c =
    let is : c.split_at.result.1.now ≡ drop (88 + 25 * length c.args.coefs.now.items) c.args.bytes.now =
    let many : c.len.result ≡ length c.args.coefs.now.items = omega (arith, c.len.ensures) in
    c.split_at.ensures.back ∙ ap (λ (k : ℕ). drop (88 + 25 * k) c.args.bytes.now) many in
    view_whole_on c.args.bytes.now c.args.view.now c.args.coefs.now.items c.fill_coefs.new.coefs.items c.requires c.split_at.result.1.now
    c.in-Ok.left.now is c.in-Ok.ensures.ok.0 c.in-Ok.ensures.ok.1

pub returns-in-Err-clause-reached : goal.returns-in-Err-clause-reached
returns-in-Err-clause-reached c =
    let is : c.split_at.result.1.now ≡ drop (88 + 25 * length c.args.coefs.now.items) c.args.bytes.now =
    let many : c.len.result ≡ length c.args.coefs.now.items = omega (arith, c.len.ensures) in
    c.split_at.ensures.back ∙ ap (λ (k : ℕ). drop (88 + 25 * k) c.args.bytes.now) many in
    view_reached_on c.args.bytes.now c.args.view.now c.args.coefs.now.items c.fill_coefs.new.coefs.items c.requires c.split_at.result.1.now
    c.in-Err.ensures.err.0 is c.fill_coefs.ensures.fits c.fill_coefs.ensures.room c.in-Err.ensures.err.1

pub returns-in-Err-clause-err : goal.returns-in-Err-clause-err
returns-in-Err-clause-err c =
    let is : c.split_at.result.1.now ≡ drop (88 + 25 * length c.args.coefs.now.items) c.args.bytes.now =
    let many : c.len.result ≡ length c.args.coefs.now.items = omega (arith, c.len.ensures) in
    c.split_at.ensures.back ∙ ap (λ (k : ℕ). drop (88 + 25 * k) c.args.bytes.now) many in
    view_fails_on c.args.bytes.now c.args.view.now c.args.coefs.now.items c.fill_coefs.new.coefs.items c.requires c.split_at.result.1.now
    c.in-Err.ensures.err.0 c.in-Err.stop is c.fill_coefs.ensures.fits c.fill_coefs.ensures.room c.in-Err.ensures.err.1
    c.in-Err.ensures.err.2
