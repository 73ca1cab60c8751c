use Rattle.std.proofs.Common.{ℕ, ℤ, ◌-◌, ◌^◌, List, Option, Ok, Err, IsTrue, IfSome, All, length, refl, ap, sym, subst, ◌∙◌, arith}
use Rattle.std.proofs.lemmas.List.Elements.{All-nil}
use Rattle.chart_world.specs.Reading.{NoLineIn, Reading, input_length, unread}
use Rattle.chart_world.specs.FrontLaws.{read_up, same_line}
use Rattle.chart_world.specs.StandsLaws.{stands_first}
use Rattle.plain_chart.specs.Samples.{IsSlot}
use Rattle.chart_service.proofs.Outcomes.{ok_err}
use Rattle.chart_program.specs.declared.input.InputEnd.{InputEnd}
use Rattle.chart_program.specs.Reads.{Stops, end_of}
use Rattle.chart_service.proofs.Ends.{error_is}
use Rattle.chart_program.proofs.Faults.{is_of_take}
use Rattle.program_words.specs.Errors.{error_so}
use Rattle.chart_program.proofs.Ending.{start_so, end_so, read_all, bad_so, too_long_bad, not_added_so, early_so, fault_so, line_so}
use Rattle.chart_program.proofs.Ending.{values_so, few_so}
use Rattle.chart_program.proofs.input.read_slots.Goals as goal

pub lines-init : goal.lines-init
lines-init g c =
    let fresh = c.in_ok-lines.ensures in
    let U : Reading → Type 0 = λ r. IsTrue r.usable in
    let V : List (Option ℤ) → Type 0 = All IsSlot in
    record {
      usable = subst U (sym fresh) refl;
      counted = omega (arith, ap (λ r. r.taken) fresh, ap (λ r. r.given) fresh, ap (λ r. length r.pending) fresh);
      within = omega (arith, ap (λ r. r.given) fresh);
      limited = ap (λ (r : Reading). r.limit) fresh;
      total = refl;
      stands_in = stands_first (g.S.Streams.left c.args.from.now) c.in_ok-lines.lines fresh;
      values = subst V (sym c.new-slots.ensures.items) (All-nil IsSlot);
      few = omega (arith, c.new-slots.ensures.len);
      progress = start_so (g.S.Streams.left c.args.from.now) c.in_ok-lines.lines c.new-slots.result.items fresh c.new-slots.ensures.items;
      sent = refl;
      send_faults = refl;
      read_faults = refl;
      beside = g.met.S.Streams.takes_none c.args.from.now;
    }

pub returns-in-End-clause-all : goal.returns-in-End-clause-all
returns-in-End-clause-all g c =
    end_so (g.S.Streams.left c.args.from.now) (unread c.lines.lines (g.S.Streams.left c.lines.from)) c.lines.lines.given c.lines.slots.items
    (c.in_ok-next.ensures.end (ap Ok c.in-End.is)) c.lines.invariant.progress

pub returns-in-End-clause-within : goal.returns-in-End-clause-within
returns-in-End-clause-within g c =
    read_all (g.S.Streams.left c.args.from.now) (unread c.lines.lines (g.S.Streams.left c.lines.from)) c.lines.lines.given
    (2 ^ 32) c.lines.slots.items
    (c.in_ok-next.ensures.end (ap Ok c.in-End.is)) c.lines.invariant.within c.lines.invariant.progress

pub returns-in-End-clause-whole : goal.returns-in-End-clause-whole
returns-in-End-clause-whole g c =
    let left = g.S.Streams.left in
    let e = c.in_ok-next.ensures in
    let taken = ap (λ (r : Reading). r.taken) c.in_ok-lines.ensures in
    let total = e.total ∙ c.lines.invariant.total ∙ ap (λ n. input_length n (left c.args.from.now)) taken in
    read_up (left c.args.from.now) (left c.lines.from) (left c.next.new.from) c.lines.lines c.next.new.self
    (e.end (ap Ok c.in-End.is)) e.rest total

pub returns-in-TooLong-clause-ends : goal.returns-in-TooLong-clause-ends
returns-in-TooLong-clause-ends g c =
    bad_so (g.S.Streams.left c.args.from.now) (unread c.lines.lines (g.S.Streams.left c.lines.from))
    (unread c.next.new.self (g.S.Streams.left c.next.new.from)) c.lines.lines.given c.offset.result c.lines.slots.items _
    (c.in_ok-next.ensures.too_long (ap Ok c.in-TooLong.is)) too_long_bad (c.offset.ensures
    ∙ c.in_ok-next.ensures.offset_too_long (ap Ok c.in-TooLong.is))
    (early_so c.lines.lines c.next.new.self (g.S.Streams.left c.lines.from)
    (g.S.Streams.left c.next.new.from) c.in_ok-next.ensures.rest c.lines.invariant.counted c.in_ok-next.ensures.given
    c.in_ok-next.ensures.total (omega (arith, c.in_ok-next.ensures.within, c.lines.invariant.limited))) c.lines.invariant.progress

pub returns-in_err-next-clause-ends : goal.returns-in_err-next-clause-ends
returns-in_err-next-clause-ends g c =
    let f = c.in_err-next.field-0.0 in
    let limited = c.lines.invariant.limited in
    let N : ℕ → Type 0 = λ n. NoLineIn (n - c.lines.lines.given) (unread c.lines.lines (g.S.Streams.left c.lines.from)) in
    let stops = fault_so (g.S.Streams.left c.args.from.now) c.lines.lines c.next.new.self (g.S.Streams.left c.lines.from)
    (g.S.Streams.left c.next.new.from) c.lines.slots.items f
    (λ h. c.lines.invariant.stands_in.whole (c.in_err-next.ensures.not_ended (ap Err h)))
    (λ h. c.in_err-next.ensures.read_before (ap Err h)) (λ h. subst N limited (c.in_err-next.ensures.past_before (ap Err h)))
    (λ h. omega (arith, c.in_err-next.ensures.past (ap Err h), limited))
    c.in_err-next.ensures.left_on_err c.lines.invariant.counted c.in_err-next.ensures.total c.lines.invariant.progress in
    let S : InputEnd → Type 0 = λ e. IfSome (g.S.Streams.left c.args.from.now)
    (λ input. Stops input (g.S.Streams.left c.next.new.from) e) in
    error_so _ _ c.from_residual-in_err-next.result c.from_residual-in_err-next.ensures.1 (λ e is. subst S (sym is) stops)

pub returns-in_err-add_line-in-Line-clause-ends : goal.returns-in_err-add_line-in-Line-clause-ends
returns-in_err-add_line-in-Line-clause-ends g c =
    let bytes = unread c.lines.lines (g.S.Streams.left c.lines.from) in
    let bytes' = unread c.next.new.self (g.S.Streams.left c.next.new.from) in
    let e = c.in_err-add_line-in-Line.field-0.0 in
    let told = same_line bytes bytes' c.line.result.now c.next.new.self.line c.line.ensures.line
    (c.in_ok-next.ensures.line (ap Ok c.in-Line.is)) in
    let at = c.offset-in-Line.ensures ∙ c.in_ok-next.ensures.offset (ap Ok c.in-Line.is) in
    let stops = not_added_so (g.S.Streams.left c.args.from.now) bytes bytes'
    (g.S.Streams.left c.next.new.from) c.lines.lines.given c.offset-in-Line.result c.lines.slots.items c.line.result.now e
    told at (early_so c.lines.lines c.next.new.self (g.S.Streams.left c.lines.from)
    (g.S.Streams.left c.next.new.from) c.in_ok-next.ensures.rest c.lines.invariant.counted c.in_ok-next.ensures.given
    c.in_ok-next.ensures.total (omega (arith, c.in_ok-next.ensures.within, c.lines.invariant.limited)))
    c.in_err-add_line-in-Line.ensures.ends c.lines.invariant.progress in
    let S : InputEnd → Type 0 = λ x. IfSome (g.S.Streams.left c.args.from.now)
    (λ input. Stops input (g.S.Streams.left c.next.new.from) x) in
    error_so _ _ c.from_residual-in_err-add_line-in-Line.result c.from_residual-in_err-add_line-in-Line.ensures.1
    (λ x is. subst S (sym is) stops)

pub lines-preserved : goal.lines-preserved
lines-preserved g c =
    let bytes = unread c.lines.lines (g.S.Streams.left c.lines.from) in
    let bytes' = unread c.next.new.self (g.S.Streams.left c.next.new.from) in
    let done = c.in_ok-add_line-in-Line.ensures.done in
    let inv = c.lines.invariant in
    let next = c.in_ok-next.ensures in
    let told = same_line bytes bytes' c.line.result.now c.next.new.self.line c.line.ensures.line
    (c.in_ok-next.ensures.line (ap Ok c.in-Line.is)) in
    record {
      usable = next.usable;
      counted = next.given;
      within = omega (arith, next.within, inv.limited);
      limited = next.limit ∙ inv.limited;
      total = next.total ∙ inv.total;
      stands_in = next.stands (g.S.Streams.left c.args.from.now) inv.stands_in;
      values = values_so c.line.result.now c.lines.slots.items c.add_line.new.slots.items done inv.values;
      few = omega (
        arith,
        few_so c.line.result.now c.lines.slots.items c.add_line.new.slots.items done
            (omega (arith, inv.few, c.lines.slots.ok)),
        c.add_line.new.slots.ok,
      );
      progress = line_so (g.S.Streams.left c.args.from.now) c.lines.lines c.next.new.self (g.S.Streams.left c.lines.from)
          (g.S.Streams.left c.next.new.from) c.lines.slots.items c.add_line.new.slots.items c.line.result.now
          told next.rest inv.counted next.given next.total (omega (arith, inv.few, c.lines.slots.ok)) done inv.progress;
      sent = next.sent ∙ inv.sent;
      send_faults = next.send_faults ∙ inv.send_faults;
      read_faults = next.quiet (ok_err _ _) ∙ inv.read_faults;
      beside = g.met.S.Streams.takes_then c.args.from.now c.lines.from c.next.new.from inv.beside next.beside;
    }

pub returns-in_err-next-clause-quiet_reads : goal.returns-in_err-next-clause-quiet_reads
returns-in_err-next-clause-quiet_reads g c = λ other.
    let f = c.in_err-next.field-0.0 in
    let is = error_is c.from_residual-in_err-next.result (end_of f) c.from_residual-in_err-next.ensures.1 in
    c.in_err-next.ensures.quiet (λ read. is_of_take f c.from_residual-in_err-next.result is other (cc)) ∙ c.lines.invariant.read_faults

pub returns-in_err-add_line-in-Line-clause-quiet_reads : goal.returns-in_err-add_line-in-Line-clause-quiet_reads
returns-in_err-add_line-in-Line-clause-quiet_reads g c = λ other. c.in_ok-next.ensures.quiet (ok_err _ _) ∙ c.lines.invariant.read_faults

pub returns-in-End-clause-quiet_reads : goal.returns-in-End-clause-quiet_reads
returns-in-End-clause-quiet_reads g c = λ other. c.in_ok-next.ensures.quiet (ok_err _ _) ∙ c.lines.invariant.read_faults

pub returns-in-TooLong-clause-quiet_reads : goal.returns-in-TooLong-clause-quiet_reads
returns-in-TooLong-clause-quiet_reads g c = λ other. c.in_ok-next.ensures.quiet (ok_err _ _) ∙ c.lines.invariant.read_faults
