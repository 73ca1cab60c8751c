use Rattle.std.proofs.Common.{ℕ, List, Option, None, Some, IfSome, ◌≡◌, ◌∙◌, ◌+◌, ◌-◌, ◌≤◌, ◌<◌, ◌++◌, [], length, take, ap, sym, subst}
use Rattle.std.proofs.Common.{inl, inr, arith, rules}
use Rattle.std.specs.List.{position_or_len}
use Rattle.block_disk.specs.Streams.{left_after}
use Rattle.chart_world.specs.Lines.{is_line_feed}
use Rattle.chart_world.specs.Feed.{pending_of, given_of}
use Rattle.chart_world.specs.Reading.{in_front_of, IsNone}
use Rattle.chart_world.proofs.Pending.{pending_full, pending_from, pending_piece}
use Rattle.chart_world.proofs.Gathering.{found, found_feed, found_rest, none_there, none_yet, left_is, pass_all, ended, ended_rest}
use Rattle.chart_world.proofs.Gathering.{none_left, refill_step, input_step, nothing_left, counted_rises}
use Rattle.chart_world.proofs.NextLine.{early_contains}
use Rattle.chart_world.proofs.feed.Feed.gather.Goals.{else-before-len-via-then-before-len+else-given-before}
use Rattle.chart_world.proofs.feed.Feed.gather.Goals.{else-before-len-via-else-before-len}
use Rattle.chart_world.proofs.feed.Feed.gather.Goals as goal

-- behind a take that gave nothing there is still nothing
still_none : (left left' : Option (List ℕ)) → IfSome left (λ l. l ≡ []) → left' ≡ left_after 0 left → IsNone left'
still_none None left' none is = subst IsNone (sym is) tt
still_none (Some rest) left' none is = subst IsNone (sym is) none

pub returns-then-given-before-clause-line : goal.returns-then-given-before-clause-line
returns-then-given-before-clause-line g c =
    let streams = g.S.Streams in
    let told = in_front_of (pending_of c.args.self.now) (streams.left c.args.from.now) in
    let at = c.loop-self.self in
    let full = pending_full at.bytes.items at.start at.end at.ordered (omega (arith, at.within, at.sized, at.bytes.ok)) in
    rw (c.pass.ensures.spill, c.keep.ensures.spill)
    (found told (streams.left c.loop-self.from) c.loop-self.length c.line_feed-before.result at.spill.items
    (pending_of at) c.line_feed-before.ensures (omega (arith, full, c.if-before-len.true, c.len.ensures)) c.loop-self.invariant.partway)

pub returns-then-given-before-clause-rest : goal.returns-then-given-before-clause-rest
returns-then-given-before-clause-rest g c =
    let streams = g.S.Streams in
    let told = in_front_of (pending_of c.args.self.now) (streams.left c.args.from.now) in
    let at = c.loop-self.self in
    let before = c.line_feed-before.result in
    let full = pending_full at.bytes.items at.start at.end at.ordered (omega (arith, at.within, at.sized, at.bytes.ok)) in
    let below : before < length (pending_of at) = omega (arith, full, c.if-before-len.true, c.len.ensures) in
    let next : at.start + before + 1 ≡ at.start + (before + 1) = omega arith in
    rw (c.pass.ensures.bytes, c.pass.ensures.start, c.pass.ensures.end, c.keep.ensures.bytes, c.keep.ensures.start, c.keep.ensures.end)
    (ap (λ l. in_front_of l (streams.left c.loop-self.from))
    (pending_from at.bytes.items at.start (at.start + before + 1) at.end (before + 1) next (omega (arith, full, below)))
    ∙ found_rest told (streams.left c.loop-self.from) c.loop-self.length before at.spill.items
    (pending_of at) c.line_feed-before.ensures below c.loop-self.invariant.partway)

pub returns-then-self-2-clause-past_before : goal.returns-then-self-2-clause-past_before
returns-then-self-2-clause-past_before g c _ =
    let streams = g.S.Streams in
    let told = in_front_of (pending_of c.args.self.now) (streams.left c.args.from.now) in
    let at = c.loop-self.self in
    let given = c.loop-self.invariant.given in
    let within : c.args.self.now.limit - given_of c.args.self.now ≤ c.loop-self.length + c.line_feed-before.result =
    elim c.else-before-len.branch [
      | else-before-len-via-then-before-len+else-given-before w ↦ omega (
        arith,
        given,
        c.loop-self.invariant.limit,
        w.given.ensures,
        w.if-given-before.false,
      )
      | else-before-len-via-else-before-len w ↦ omega (
        arith,
        given,
        c.loop-self.invariant.limit,
        w.if-before-len.false,
        c.len.ensures,
        c.if-self-2.true,
      )
    ] in
    none_yet told (streams.left c.loop-self.from) c.loop-self.length (c.args.self.now.limit - given_of c.args.self.now) at.spill.items
    (pending_of at) (omega (arith, within, c.line_feed-before.ensures)) c.loop-self.invariant.partway

pub returns-then-self-2-clause-left_on_err : goal.returns-then-self-2-clause-left_on_err
returns-then-self-2-clause-left_on_err g c =
    let streams = g.S.Streams in
    let told = in_front_of (pending_of c.args.self.now) (streams.left c.args.from.now) in
    let at = c.loop-self.self in
    let full = pending_full at.bytes.items at.start at.end at.ordered (omega (arith, at.within, at.sized, at.bytes.ok)) in
    left_is told (streams.left c.loop-self.from) c.loop-self.length (at.taken - given_of c.args.self.now) at.spill.items (pending_of at)
    (omega (arith, full, c.loop-self.invariant.given, at.counted)) c.loop-self.invariant.partway

pub returns-in_default-clause-read_before : goal.returns-in_default-clause-read_before
returns-in_default-clause-read_before g c _ =
    let streams = g.S.Streams in
    let told = in_front_of (pending_of c.args.self.now) (streams.left c.args.from.now) in
    let at = c.loop-self.self in
    let length' = c.len-in-loop-self-2.result in
    let full = pending_full at.bytes.items at.start at.end at.ordered (omega (arith, at.within, at.sized, at.bytes.ok)) in
    let all : length (pending_of at) ≤ length' = omega (arith, full, c.len-in-loop-self-2.ensures) in
    let within : length' ≤ c.line_feed-before.result =
    elim c.else-before-len.branch [
      | else-before-len-via-then-before-len+else-given-before w ↦ omega (
        arith,
        w.given.ensures,
        w.if-given-before.false,
        w.if-before-len.true,
        c.len.ensures,
        c.if-self-2.false,
        at.counted,
      )
      | else-before-len-via-else-before-len w ↦ omega (arith, w.if-before-len.false, c.len.ensures, c.len-in-loop-self-2.ensures)
    ] in
    let passed = pass_all told (streams.left c.loop-self.from) c.loop-self.length length' at.spill.items (pending_of at) all
    (omega (arith, within, c.line_feed-before.ensures)) c.loop-self.invariant.partway in
    let spill = take 8192 (at.spill.items ++ take length' (pending_of at)) in
    none_yet told (streams.left c.loop-self.from) (c.loop-self.length + length')
    (c.refill.new.self.taken - given_of c.args.self.now) spill []
    (omega (
      arith,
      c.in_default.ensures.taken_on_err,
      c.keep-in-loop-self.ensures.taken,
      c.loop-self.invariant.given,
      c.len-in-loop-self-2.ensures,
      at.counted,
    )) passed

pub returns-in_default-clause-left_on_err : goal.returns-in_default-clause-left_on_err
returns-in_default-clause-left_on_err g c =
    let streams = g.S.Streams in
    let told = in_front_of (pending_of c.args.self.now) (streams.left c.args.from.now) in
    let at = c.loop-self.self in
    let length' = c.len-in-loop-self-2.result in
    let full = pending_full at.bytes.items at.start at.end at.ordered (omega (arith, at.within, at.sized, at.bytes.ok)) in
    let all : length (pending_of at) ≤ length' = omega (arith, full, c.len-in-loop-self-2.ensures) in
    let within : length' ≤ c.line_feed-before.result =
    elim c.else-before-len.branch [
      | else-before-len-via-then-before-len+else-given-before w ↦ omega (
        arith,
        w.given.ensures,
        w.if-given-before.false,
        w.if-before-len.true,
        c.len.ensures,
        c.if-self-2.false,
        at.counted,
      )
      | else-before-len-via-else-before-len w ↦ omega (arith, w.if-before-len.false, c.len.ensures, c.len-in-loop-self-2.ensures)
    ] in
    let passed = pass_all told (streams.left c.loop-self.from) c.loop-self.length length' at.spill.items (pending_of at) all
    (omega (arith, within, c.line_feed-before.ensures)) c.loop-self.invariant.partway in
    let spill = take 8192 (at.spill.items ++ take length' (pending_of at)) in
    c.in_default.ensures.left_on_err
    ∙ left_is told (streams.left c.loop-self.from) (c.loop-self.length + length')
    (c.refill.new.self.taken - given_of c.args.self.now) spill []
    (omega (
      arith,
      c.in_default.ensures.taken_on_err,
      c.keep-in-loop-self.ensures.taken,
      c.loop-self.invariant.given,
      c.len-in-loop-self-2.ensures,
      at.counted,
    )) passed

pub returns-else-length-eq0-clause-line : goal.returns-else-length-eq0-clause-line
returns-else-length-eq0-clause-line g c =
    let streams = g.S.Streams in
    let told = in_front_of (pending_of c.args.self.now) (streams.left c.args.from.now) in
    let at = c.loop-self.self in
    let length' = c.len-in-loop-self-2.result in
    let full = pending_full at.bytes.items at.start at.end at.ordered (omega (arith, at.within, at.sized, at.bytes.ok)) in
    let all : length (pending_of at) ≤ length' = omega (arith, full, c.len-in-loop-self-2.ensures) in
    let within : length' ≤ c.line_feed-before.result =
    elim c.else-before-len.branch [
      | else-before-len-via-then-before-len+else-given-before w ↦ omega (
        arith,
        w.given.ensures,
        w.if-given-before.false,
        w.if-before-len.true,
        c.len.ensures,
        c.if-self-2.false,
        at.counted,
      )
      | else-before-len-via-else-before-len w ↦ omega (arith, w.if-before-len.false, c.len.ensures, c.len-in-loop-self-2.ensures)
    ] in
    let passed = pass_all told (streams.left c.loop-self.from) c.loop-self.length length' at.spill.items (pending_of at) all
    (omega (arith, within, c.line_feed-before.ensures)) c.loop-self.invariant.partway in
    let spill = take 8192 (at.spill.items ++ take length' (pending_of at)) in
    let none = none_left (streams.left c.loop-self.from) c.in-Ok.count c.refill.new.self.bytes.items c.if-count-eq0.true
    c.in-Ok.ensures.given in
    let same : c.len-in-loop-self.result ≡ length' = c.len-in-loop-self.ensures ∙ sym c.len-in-loop-self-2.ensures in
    rw (c.refill.ensures.spill, c.keep-in-loop-self.ensures.spill, same)
    (ended told (streams.left c.loop-self.from) (c.loop-self.length + length') spill
    (omega (arith, c.if-length-eq0.false, same)) none passed)

pub returns-else-length-eq0-clause-rest : goal.returns-else-length-eq0-clause-rest
returns-else-length-eq0-clause-rest g c =
    let streams = g.S.Streams in
    let told = in_front_of (pending_of c.args.self.now) (streams.left c.args.from.now) in
    let at = c.loop-self.self in
    let length' = c.len-in-loop-self-2.result in
    let full = pending_full at.bytes.items at.start at.end at.ordered (omega (arith, at.within, at.sized, at.bytes.ok)) in
    let all : length (pending_of at) ≤ length' = omega (arith, full, c.len-in-loop-self-2.ensures) in
    let within : length' ≤ c.line_feed-before.result =
    elim c.else-before-len.branch [
      | else-before-len-via-then-before-len+else-given-before w ↦ omega (
        arith,
        w.given.ensures,
        w.if-given-before.false,
        w.if-before-len.true,
        c.len.ensures,
        c.if-self-2.false,
        at.counted,
      )
      | else-before-len-via-else-before-len w ↦ omega (arith, w.if-before-len.false, c.len.ensures, c.len-in-loop-self-2.ensures)
    ] in
    let passed = pass_all told (streams.left c.loop-self.from) c.loop-self.length length' at.spill.items (pending_of at) all
    (omega (arith, within, c.line_feed-before.ensures)) c.loop-self.invariant.partway in
    let spill = take 8192 (at.spill.items ++ take length' (pending_of at)) in
    let none = none_left (streams.left c.loop-self.from) c.in-Ok.count c.refill.new.self.bytes.items c.if-count-eq0.true
    c.in-Ok.ensures.given in
    let nothing : pending_of c.refill.new.self ≡ [] =
    rw (c.in-Ok.ensures.start, c.in-Ok.ensures.end, c.if-count-eq0.true) (pending_piece c.refill.new.self.bytes.items 0) in
    let left = c.in-Ok.ensures.left ∙ ap (λ n. left_after n (streams.left c.loop-self.from)) c.if-count-eq0.true in
    ap (λ l. in_front_of l (streams.left c.refill.new.from)) nothing
    ∙ ended_rest told (streams.left c.loop-self.from) (streams.left c.refill.new.from) (c.loop-self.length + length') spill none left passed

pub returns-then-given-before-clause-took : goal.returns-then-given-before-clause-took
returns-then-given-before-clause-took g c none = elim c.loop-self.invariant.took [
  | inl (unmoved, same) ↦
      let at = c.loop-self.self in
      let old = c.args.self.now in
      let full = pending_full at.bytes.items at.start at.end at.ordered (omega (arith, at.within, at.sized, at.bytes.ok)) in
      let place : c.line_feed-before.result ≡ position_or_len is_line_feed (pending_of old) = c.line_feed-before.ensures
      ∙ ap (λ l. position_or_len is_line_feed l) same in
      absurd (none (early_contains (old.limit - given_of old) (pending_of old)
      (omega (arith, place, full, ap length same, c.if-before-len.true, c.len.ensures))
      (omega (arith, place, c.given.ensures, c.loop-self.invariant.given, c.loop-self.invariant.limit, unmoved, c.if-given-before.true))))
  | inr risen ↦ inl risen
]

pub returns-then-length-eq0-clause-took : goal.returns-then-length-eq0-clause-took
returns-then-length-eq0-clause-took g c _ =
    let streams = g.S.Streams in
    let nothing : pending_of c.refill.new.self ≡ [] = rw (
      c.in-Ok.ensures.start,
      c.in-Ok.ensures.end,
      c.if-count-eq0.true,
    ) (pending_piece c.refill.new.self.bytes.items 0) in
    inr (nothing_left (streams.left c.loop-self.from) (streams.left c.refill.new.from) (pending_of c.refill.new.self) nothing
    (none_left (streams.left c.loop-self.from) c.in-Ok.count c.refill.new.self.bytes.items c.if-count-eq0.true c.in-Ok.ensures.given)
    (c.in-Ok.ensures.left ∙ ap (λ n. left_after n (streams.left c.loop-self.from)) c.if-count-eq0.true))

pub returns-else-length-eq0-clause-took : goal.returns-else-length-eq0-clause-took
returns-else-length-eq0-clause-took g c _ =
    let streams = g.S.Streams in
    let nothing : pending_of c.refill.new.self ≡ [] = rw (
      c.in-Ok.ensures.start,
      c.in-Ok.ensures.end,
      c.if-count-eq0.true,
    ) (pending_piece c.refill.new.self.bytes.items 0) in
    inr (nothing_left (streams.left c.loop-self.from) (streams.left c.refill.new.from) (pending_of c.refill.new.self) nothing
    (none_left (streams.left c.loop-self.from) c.in-Ok.count c.refill.new.self.bytes.items c.if-count-eq0.true c.in-Ok.ensures.given)
    (c.in-Ok.ensures.left ∙ ap (λ n. left_after n (streams.left c.loop-self.from)) c.if-count-eq0.true))

pub loop-self-preserved : goal.loop-self-preserved
loop-self-preserved g c =
    let streams = g.S.Streams in
    let told = in_front_of (pending_of c.args.self.now) (streams.left c.args.from.now) in
    let at = c.loop-self.self in
    let length' = c.len-in-loop-self-2.result in
    let full = pending_full at.bytes.items at.start at.end at.ordered (omega (arith, at.within, at.sized, at.bytes.ok)) in
    let all : length (pending_of at) ≤ length' = omega (arith, full, c.len-in-loop-self-2.ensures) in
    let within : length' ≤ c.line_feed-before.result =
    elim c.else-before-len.branch [
      | else-before-len-via-then-before-len+else-given-before w ↦ omega (
        arith,
        w.given.ensures,
        w.if-given-before.false,
        w.if-before-len.true,
        c.len.ensures,
        c.if-self-2.false,
        at.counted,
      )
      | else-before-len-via-else-before-len w ↦ omega (arith, w.if-before-len.false, c.len.ensures, c.len-in-loop-self-2.ensures)
    ] in
    let passed = pass_all told (streams.left c.loop-self.from) c.loop-self.length length' at.spill.items (pending_of at) all
    (omega (arith, within, c.line_feed-before.ensures)) c.loop-self.invariant.partway in
    let spill = take 8192 (at.spill.items ++ take length' (pending_of at)) in
    let same : c.len-in-loop-self.result ≡ length' = c.len-in-loop-self.ensures ∙ sym c.len-in-loop-self-2.ensures in
    let count = c.in-Ok.count in
    let piece : pending_of c.refill.new.self ≡ take count c.refill.new.self.bytes.items =
    rw (c.in-Ok.ensures.start, c.in-Ok.ensures.end) (pending_piece c.refill.new.self.bytes.items count) in
    record {
      partway = rw (c.refill.ensures.spill, c.keep-in-loop-self.ensures.spill, same, piece)
          (refill_step told (streams.left c.loop-self.from) (streams.left c.refill.new.from)
          (c.loop-self.length + length') count spill c.refill.new.self.bytes.items c.in-Ok.ensures.given c.in-Ok.ensures.left passed);
      given = omega (
        arith,
        c.in-Ok.ensures.taken,
        c.in-Ok.ensures.start,
        c.in-Ok.ensures.end,
        c.keep-in-loop-self.ensures.taken,
        c.loop-self.invariant.given,
        c.len-in-loop-self.ensures,
        at.counted,
      );
      forward = omega (arith, c.loop-self.invariant.forward, c.in-Ok.ensures.taken, c.keep-in-loop-self.ensures.taken);
      limit = c.refill.ensures.limit ∙ c.keep-in-loop-self.ensures.limit ∙ c.loop-self.invariant.limit;
      total = input_step (streams.left c.loop-self.from)
          (streams.left c.refill.new.from) count at.taken c.refill.new.self.taken c.refill.new.self.bytes.items c.in-Ok.ensures.given
          c.in-Ok.ensures.left (c.in-Ok.ensures.taken ∙ ap (λ n. n + count) c.keep-in-loop-self.ensures.taken)
          ∙ c.loop-self.invariant.total;
      sent = search rules;
      send_faults = search rules;
      read_faults = omega (arith, c.loop-self.invariant.read_faults, c.refill.ensures.read_faults);
      quiet = c.in-Ok.ensures.quiet ∙ c.loop-self.invariant.quiet;
      pieces = omega (arith, c.loop-self.invariant.pieces, c.refill.ensures.pieces);
      took = inr (counted_rises (streams.pieces c.args.from.now) (streams.pieces c.loop-self.from)
          (streams.pieces c.refill.new.from) c.loop-self.invariant.pieces (c.in-Ok.ensures.piece (omega (arith, c.if-count-eq0.false))));
      beside = g.met.S.Streams.takes_then _ _ _ c.loop-self.invariant.beside c.refill.ensures.beside;
    }

pub returns-then-given-before-clause-feed : goal.returns-then-given-before-clause-feed
returns-then-given-before-clause-feed g c _ =
    let streams = g.S.Streams in
    let told = in_front_of (pending_of c.args.self.now) (streams.left c.args.from.now) in
    let at = c.loop-self.self in
    let full = pending_full at.bytes.items at.start at.end at.ordered (omega (arith, at.within, at.sized, at.bytes.ok)) in
    found_feed told (streams.left c.loop-self.from) c.loop-self.length c.line_feed-before.result at.spill.items
    (pending_of at) c.line_feed-before.ensures (omega (arith, full, c.if-before-len.true, c.len.ensures)) c.loop-self.invariant.partway

pub returns-then-length-eq0-clause-none : goal.returns-then-length-eq0-clause-none
returns-then-length-eq0-clause-none g c _ =
    let streams = g.S.Streams in
    let told = in_front_of (pending_of c.args.self.now) (streams.left c.args.from.now) in
    let at = c.loop-self.self in
    let full = pending_full at.bytes.items at.start at.end at.ordered (omega (arith, at.within, at.sized, at.bytes.ok)) in
    let none = none_left (streams.left c.loop-self.from) c.in-Ok.count c.refill.new.self.bytes.items c.if-count-eq0.true
    c.in-Ok.ensures.given in
    none_there told (streams.left c.loop-self.from) c.loop-self.length at.spill.items (pending_of at) (omega (arith, c.if-length-eq0.true))
    (omega (arith, full, c.len-in-loop-self.ensures, c.len-in-loop-self-2.ensures, c.if-length-eq0.true)) none
    c.loop-self.invariant.partway

pub returns-then-given-before-clause-begun : goal.returns-then-given-before-clause-begun
returns-then-given-before-clause-begun g c _ = c.if-self.false

pub returns-then-given-before-clause-ended : goal.returns-then-given-before-clause-ended
returns-then-given-before-clause-ended g c is = absurd
    (omega (arith, c.loop-self.self.passed (sym c.keep.ensures.ended ∙ sym c.pass.ensures.ended ∙ is), c.if-before-len.true, c.len.ensures))

pub returns-then-given-before-clause-passes : goal.returns-then-given-before-clause-passes
returns-then-given-before-clause-passes g c =
    let at = c.loop-self.self in
    let given : given_of c.pass.new.self ≡ given_of c.args.self.now + c.loop-self.length + c.line_feed-before.result + 1 =
    omega (
      arith,
      c.pass.ensures.start,
      c.pass.ensures.end,
      c.pass.ensures.taken,
      c.keep.ensures.start,
      c.keep.ensures.end,
      c.keep.ensures.taken,
      c.loop-self.invariant.given,
      at.counted,
      c.if-before-len.true,
      c.len.ensures,
    ) in
    (omega (arith, given), omega (arith, given))

pub returns-then-given-before-clause-within : goal.returns-then-given-before-clause-within
returns-then-given-before-clause-within g c = omega (
  arith,
  c.pass.ensures.start,
  c.pass.ensures.end,
  c.pass.ensures.taken,
  c.keep.ensures.start,
  c.keep.ensures.end,
  c.keep.ensures.taken,
  c.given.ensures,
  c.if-given-before.true,
  c.loop-self.invariant.limit,
)

pub returns-then-given-before-clause-quiet : goal.returns-then-given-before-clause-quiet
returns-then-given-before-clause-quiet g c _ = c.loop-self.invariant.quiet

pub returns-then-given-before-clause-total : goal.returns-then-given-before-clause-total
returns-then-given-before-clause-total g c = rw (c.pass.ensures.taken, c.keep.ensures.taken) c.loop-self.invariant.total

pub returns-then-given-before-clause-forward : goal.returns-then-given-before-clause-forward
returns-then-given-before-clause-forward g c = rw (c.pass.ensures.taken, c.keep.ensures.taken) c.loop-self.invariant.forward

pub returns-then-self-2-clause-quiet : goal.returns-then-self-2-clause-quiet
returns-then-self-2-clause-quiet g c _ = c.loop-self.invariant.quiet

pub returns-then-self-2-clause-past : goal.returns-then-self-2-clause-past
returns-then-self-2-clause-past g c _ = omega (arith, c.loop-self.invariant.limit, c.if-self-2.true)

pub returns-in_default-clause-not_ended : goal.returns-in_default-clause-not_ended
returns-in_default-clause-not_ended g c _ = c.if-self.false

pub returns-in_default-clause-read_fault : goal.returns-in_default-clause-read_fault
returns-in_default-clause-read_fault g c _ = rw c.loop-self.invariant.quiet at c.in_default.ensures.cause

pub returns-in_default-clause-read_within : goal.returns-in_default-clause-read_within
returns-in_default-clause-read_within g c _ = omega (
  arith,
  c.loop-self.invariant.limit,
  c.in_default.ensures.taken_on_err,
  c.keep-in-loop-self.ensures.taken,
  c.if-self-2.false,
)

pub returns-in_default-clause-total : goal.returns-in_default-clause-total
returns-in_default-clause-total g c = cc (
  c.in_default.ensures.taken_on_err,
  c.in_default.ensures.left_on_err,
  c.keep-in-loop-self.ensures.taken,
  c.loop-self.invariant.total,
)

pub returns-in_default-clause-forward : goal.returns-in_default-clause-forward
returns-in_default-clause-forward g c = omega (
  arith,
  c.loop-self.invariant.forward,
  c.in_default.ensures.taken_on_err,
  c.keep-in-loop-self.ensures.taken,
)

pub returns-then-length-eq0-clause-begun : goal.returns-then-length-eq0-clause-begun
returns-then-length-eq0-clause-begun g c _ = c.if-self.false

pub returns-then-length-eq0-clause-quiet : goal.returns-then-length-eq0-clause-quiet
returns-then-length-eq0-clause-quiet g c _ = c.in-Ok.ensures.quiet ∙ c.loop-self.invariant.quiet

pub returns-then-length-eq0-clause-ended : goal.returns-then-length-eq0-clause-ended
returns-then-length-eq0-clause-ended g c _ =
    let streams = g.S.Streams in
    let none = none_left (streams.left c.loop-self.from) c.in-Ok.count c.refill.new.self.bytes.items c.if-count-eq0.true
    c.in-Ok.ensures.given in
    still_none (streams.left c.loop-self.from) (streams.left c.refill.new.from) none (c.in-Ok.ensures.left
    ∙ ap (λ n. left_after n (streams.left c.loop-self.from)) c.if-count-eq0.true)

pub returns-then-length-eq0-clause-total : goal.returns-then-length-eq0-clause-total
returns-then-length-eq0-clause-total g c =
    let streams = g.S.Streams in
    input_step (streams.left c.loop-self.from) (streams.left c.refill.new.from) c.in-Ok.count c.loop-self.self.taken c.refill.new.self.taken
    c.refill.new.self.bytes.items c.in-Ok.ensures.given c.in-Ok.ensures.left (c.in-Ok.ensures.taken
    ∙ ap (λ n. n + c.in-Ok.count) c.keep-in-loop-self.ensures.taken)
    ∙ c.loop-self.invariant.total

pub returns-then-length-eq0-clause-forward : goal.returns-then-length-eq0-clause-forward
returns-then-length-eq0-clause-forward g c = omega (
  arith,
  c.loop-self.invariant.forward,
  c.in-Ok.ensures.taken,
  c.keep-in-loop-self.ensures.taken,
)

pub returns-then-length-eq0-clause-within : goal.returns-then-length-eq0-clause-within
returns-then-length-eq0-clause-within g c = omega (
  arith,
  c.in-Ok.ensures.taken,
  c.keep-in-loop-self.ensures.taken,
  c.if-count-eq0.true,
  c.if-self-2.false,
  c.loop-self.invariant.limit,
)

pub returns-else-length-eq0-clause-begun : goal.returns-else-length-eq0-clause-begun
returns-else-length-eq0-clause-begun g c _ = c.if-self.false

pub returns-else-length-eq0-clause-quiet : goal.returns-else-length-eq0-clause-quiet
returns-else-length-eq0-clause-quiet g c _ = c.in-Ok.ensures.quiet ∙ c.loop-self.invariant.quiet

pub returns-else-length-eq0-clause-ended : goal.returns-else-length-eq0-clause-ended
returns-else-length-eq0-clause-ended g c _ =
    let streams = g.S.Streams in
    let none = none_left (streams.left c.loop-self.from) c.in-Ok.count c.refill.new.self.bytes.items c.if-count-eq0.true
    c.in-Ok.ensures.given in
    still_none (streams.left c.loop-self.from) (streams.left c.refill.new.from) none (c.in-Ok.ensures.left
    ∙ ap (λ n. left_after n (streams.left c.loop-self.from)) c.if-count-eq0.true)

pub returns-else-length-eq0-clause-total : goal.returns-else-length-eq0-clause-total
returns-else-length-eq0-clause-total g c =
    let streams = g.S.Streams in
    input_step (streams.left c.loop-self.from) (streams.left c.refill.new.from) c.in-Ok.count c.loop-self.self.taken c.refill.new.self.taken
    c.refill.new.self.bytes.items c.in-Ok.ensures.given c.in-Ok.ensures.left (c.in-Ok.ensures.taken
    ∙ ap (λ n. n + c.in-Ok.count) c.keep-in-loop-self.ensures.taken)
    ∙ c.loop-self.invariant.total

pub returns-else-length-eq0-clause-forward : goal.returns-else-length-eq0-clause-forward
returns-else-length-eq0-clause-forward g c = omega (
  arith,
  c.loop-self.invariant.forward,
  c.in-Ok.ensures.taken,
  c.keep-in-loop-self.ensures.taken,
)

pub returns-else-length-eq0-clause-within : goal.returns-else-length-eq0-clause-within
returns-else-length-eq0-clause-within g c = omega (
  arith,
  c.in-Ok.ensures.taken,
  c.keep-in-loop-self.ensures.taken,
  c.if-count-eq0.true,
  c.if-self-2.false,
  c.loop-self.invariant.limit,
)

pub returns-then-length-eq0-clause-found : goal.returns-then-length-eq0-clause-found
returns-then-length-eq0-clause-found g c _ = c.in-Ok.ensures.ended_nothing c.if-count-eq0.true

pub returns-then-length-eq0-clause-passes_none : goal.returns-then-length-eq0-clause-passes_none
returns-then-length-eq0-clause-passes_none g c _ = omega (
  arith,
  c.in-Ok.ensures.taken,
  c.in-Ok.ensures.start,
  c.in-Ok.ensures.end,
  c.keep-in-loop-self.ensures.taken,
  c.loop-self.invariant.given,
  c.len-in-loop-self.ensures,
  c.loop-self.self.counted,
  c.if-count-eq0.true,
  c.if-length-eq0.true,
)

pub returns-else-length-eq0-clause-passes : goal.returns-else-length-eq0-clause-passes
returns-else-length-eq0-clause-passes g c =
    let given : given_of c.refill.new.self ≡ given_of c.args.self.now + (c.loop-self.length + c.len-in-loop-self.result) =
    omega (
      arith,
      c.in-Ok.ensures.taken,
      c.in-Ok.ensures.start,
      c.in-Ok.ensures.end,
      c.keep-in-loop-self.ensures.taken,
      c.loop-self.invariant.given,
      c.len-in-loop-self.ensures,
      c.loop-self.self.counted,
      c.if-count-eq0.true,
    ) in
    (omega (arith, given, c.if-length-eq0.false), omega (arith, given))

pub returns-then-given-before-clause-limit : goal.returns-then-given-before-clause-limit
returns-then-given-before-clause-limit g c = c.pass.ensures.limit ∙ c.keep.ensures.limit ∙ c.loop-self.invariant.limit

pub returns-then-self-2-clause-limit : goal.returns-then-self-2-clause-limit
returns-then-self-2-clause-limit g c = c.loop-self.invariant.limit

pub returns-in_default-clause-limit : goal.returns-in_default-clause-limit
returns-in_default-clause-limit g c = c.refill.ensures.limit ∙ c.keep-in-loop-self.ensures.limit ∙ c.loop-self.invariant.limit

pub returns-then-length-eq0-clause-limit : goal.returns-then-length-eq0-clause-limit
returns-then-length-eq0-clause-limit g c = c.refill.ensures.limit ∙ c.keep-in-loop-self.ensures.limit ∙ c.loop-self.invariant.limit

pub returns-else-length-eq0-clause-limit : goal.returns-else-length-eq0-clause-limit
returns-else-length-eq0-clause-limit g c = c.refill.ensures.limit ∙ c.keep-in-loop-self.ensures.limit ∙ c.loop-self.invariant.limit
