use Rattle.std.proofs.Common.{◌≡◌, ◌-◌, length, drop, Err, arith}
use Rattle.chart_frames.specs.declared.fields.Stop.TheVariants.{More, Bad}
use Rattle.chart_frames.specs.Reading.{read}
use Rattle.chart_frames.specs.Fields.{frame_fields}
use Rattle.chart_frames.proofs.Numbers.{IsBytes}
use Rattle.chart_frames.proofs.Streams.{stopped, left_within, takes_of, more_of, bad_within, bad_of, at_start}
use Rattle.chart_frames.proofs.decoder.answer_of.Goals as goal

pub overflow_sub-result : goal.overflow_sub-result
overflow_sub-result c = left_within c.args.bytes.now c.in-Ok.frame c.in-Ok.left c.in-Ok.ensures.ok

pub overflow_sub-at : goal.overflow_sub-at
overflow_sub-at c =
    let bytes : IsBytes c.args.bytes.now = λ i. omega (arith, c.type_inv.bytes i) in
    let read_bad : read frame_fields c.args.bytes.now ≡ Err (Bad c.in-Err-Stop-Bad.left) =
    stopped _ _ (Bad c.in-Err-Stop-Bad.left) (read frame_fields c.args.bytes.now) c.in-Err-Stop-Bad.field-0-is
    c.in-Err-Stop-Bad.field-0-0-is c.in-Err-Stop-Bad.ensures.err in
    bad_within c.args.bytes.now c.in-Err-Stop-Bad.left bytes read_bad

pub returns-in-Ok-clause-answers : goal.returns-in-Ok-clause-answers
returns-in-Ok-clause-answers c = takes_of c.args.given c.args.bytes.now c.in-Ok.frame c.in-Ok.left c.in-Ok.ensures.ok

pub returns-in-Ok-clause-reached : goal.returns-in-Ok-clause-reached
returns-in-Ok-clause-reached c = at_start c.frame_at.new.place
    (drop (length c.args.bytes.now - c.in-Ok.left) c.args.bytes.now) c.in-Ok.ensures.start

pub returns-in-Err-Stop-More-clause-answers : goal.returns-in-Err-Stop-More-clause-answers
returns-in-Err-Stop-More-clause-answers c =
    more_of c.args.given c.args.bytes.now (stopped _ _ More
    (read frame_fields c.args.bytes.now) c.in-Err-Stop-More.field-0-is c.in-Err-Stop-More.field-0-0-is c.in-Err-Stop-More.ensures.err)

pub returns-in-Err-Stop-Bad-clause-answers : goal.returns-in-Err-Stop-Bad-clause-answers
returns-in-Err-Stop-Bad-clause-answers c =
    let bytes : IsBytes c.args.bytes.now = λ i. omega (arith, c.type_inv.bytes i) in
    let read_bad : read frame_fields c.args.bytes.now ≡ Err (Bad c.in-Err-Stop-Bad.left) =
    stopped _ _ (Bad c.in-Err-Stop-Bad.left) (read frame_fields c.args.bytes.now) c.in-Err-Stop-Bad.field-0-is
    c.in-Err-Stop-Bad.field-0-0-is c.in-Err-Stop-Bad.ensures.err in
    bad_of c.args.given c.args.bytes.now c.in-Err-Stop-Bad.left bytes read_bad
