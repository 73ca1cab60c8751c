use Rattle.std.proofs.Common.{ℕ, IfSome, List, Option, sym, true, false, ◌≡◌, ◌+◌, ◌-◌, ◌∙◌, [], Some, None, Ok, length, take, drop, ap}
use Rattle.std.proofs.Common.{arith, length-drop, refl}
use Rattle.chart_world.specs.Feed.{pending_of, Gathered}
use Rattle.chart_world.specs.Reading.{Reading, HasFeed, HasLine, Took, told_lines, with_first, unread, in_front_of, behind_first}
use Rattle.chart_world.specs.Reading.{input_length}
use Rattle.chart_world.specs.Fronts.{StandsIn}
use Rattle.chart_world.specs.StandsLaws.{feed_pending, stands_next}
use Rattle.chart_world.proofs.Pending.{pending_full}
use Rattle.chart_world.proofs.NextLine.{here_lines, here_rest, gathered_long, gathered_short, no_lines, of_value}
use Rattle.chart_world.proofs.lines.Lines.next.Goals as goal

pub returns-in-Some : goal.returns-in-Some
returns-in-Some g c =
    let left = g.S.Streams.left c.args.from.now in
    let here = c.in-Some.ensures.here in
    let old = c.args.self.now in
    let new = c.give_pending.new.self in
    let before = c.in-Some.before in
    let at = c.self.inside.feed in
    let full = pending_full at.bytes.items at.start at.end at.ordered (omega (arith, at.within, at.sized, at.bytes.ok)) in
    let whole : old.taken ≡ old.given + length old.pending =
    omega (
      arith,
      full,
      at.counted,
      at.ordered,
      ap (λ (r : Reading). r.taken) c.self.view_is,
      ap (λ (r : Reading). r.given) c.self.view_is,
      ap (λ (r : Reading). length r.pending) c.self.view_is,
    ) in
    let behind : length new.pending ≡ length (drop (before + 1) old.pending) = ap length c.give_pending.ensures.pending in
    let counted : new.taken ≡ new.given + length new.pending =
    omega (
      arith,
      whole,
      behind,
      length-drop (before + 1) old.pending,
      c.give_pending.ensures.taken,
      c.give_pending.ensures.passed,
      here.within,
    ) in
    let rest : unread new left ≡ behind_first (unread old left) = here_rest old.pending new.pending left before here.place here.within
    c.give_pending.ensures.pending in
    let feed : HasFeed (unread old left) = feed_pending old.pending left (omega (arith, here.place, here.within)) in
    let stands : (input : Option (List ℕ)) → StandsIn input old left → StandsIn input new left =
    λ input at. stands_next input left left old new rest whole counted (ap (λ n. input_length n left) c.give_pending.ensures.taken)
    (λ _. feed) (λ going. sym c.give_pending.ensures.ended ∙ going) (λ end. at.nothing (sym c.give_pending.ensures.ended ∙ end)) at in
    let some = here_lines old.pending left (unread new left) before (Some new.line) here.place here.within in
    let none = here_lines old.pending left (unread new left) before None here.place here.within in
    record {
      line = grind (arith, counted, rest, some, none);
      too_long = grind (arith, counted, rest, some, none);
      end = grind (arith, counted, rest, some, none);
      rest = rest;
      given = counted;
      passes = grind (arith, counted, rest, some, none);
      passes_too_long = grind (arith, counted, rest, some, none);
      passes_end = grind (arith, counted, rest, some, none);
      within = grind (arith, counted, rest, some, none);
      offset = grind (arith, counted, rest, some, none);
      offset_too_long = grind (arith, counted, rest, some, none);
      offset_end = grind (arith, counted, rest, some, none);
      offset_fault = tt;
      no_line = grind (arith, counted, rest, some, none);
      read_fault = λ is. absurd (cc (is));
      read_before = λ is. absurd (cc (is));
      read_within = λ is. absurd (cc (is));
      past = λ is. absurd (cc (is));
      past_before = λ is. absurd (cc (is));
      left_on_err = tt;
      feed = λ _. feed;
      not_ended = λ is. absurd (cc (is));
      stands = stands;
      usable = c.give_pending.ensures.usable;
      unusable = tt;
      limit = c.give_pending.ensures.limit;
      total = grind (arith, counted, rest, some, none);
      forward = grind (arith, counted, rest, some, none);
      waits = λ _. refl;
      sent = refl;
      send_faults = refl;
      read_faults = omega arith;
      quiet = λ _. refl;
      pieces = omega arith;
      took = grind (arith, counted, rest, some, none);
      beside = g.met.S.Streams.takes_none _;
    }

pub returns-in-Ok-None : goal.returns-in-Ok-None
returns-in-Ok-None g c =
    let left = g.S.Streams.left c.args.from.now in
    let at = c.gather.new.self in
    let full = pending_full at.bytes.items at.start at.end at.ordered (omega (arith, at.within, at.sized, at.bytes.ok)) in
    let pending : pending_of c.self.inside.feed ≡ c.args.self.now.pending = ap (λ (r : Reading). r.pending) c.self.view_is in
    let none : IfSome (told_lines (unread c.args.self.now left)) (λ later. later ≡ []) =
    rw (← pending) (no_lines (in_front_of (pending_of c.self.inside.feed) left)
    (c.gather.ensures.none (c.in-Ok-None.is ∙ ap Ok c.in-Ok-None.field-0-is))) in
    let counted : at.taken ≡ at.taken - (at.end - at.start) + length (pending_of at) = omega (arith, full, at.counted, at.ordered) in
    let old = c.args.self.now in
    let was = c.self.inside.feed in
    let full_before = pending_full was.bytes.items was.start was.end was.ordered (omega (arith, was.within, was.sized, was.bytes.ok)) in
    let taken = ap (λ (r : Reading). r.taken) c.self.view_is in
    let limit = ap (λ (r : Reading). r.limit) c.self.view_is in
    let ended = ap (λ (r : Reading). r.ended) c.self.view_is in
    let whole : old.taken ≡ old.given + length old.pending =
    omega (arith, full_before, was.counted, was.ordered, taken, ap (λ (r : Reading). r.given) c.self.view_is, ap length pending) in
    let later = g.S.Streams.left c.gather.new.from in
    let total : input_length at.taken later ≡ input_length old.taken left = rw (← taken) c.gather.ensures.total in
    let rest : in_front_of (pending_of at) later ≡ behind_first (unread old left) = rw (← pending) c.in-Ok-None.ensures.rest in
    let found : at.ended ≡ true = c.gather.ensures.found (c.in-Ok-None.is ∙ ap Ok c.in-Ok-None.field-0-is) in
    let off : at.ended ≡ false → ⊥ = λ is. cc (found, is) in
    record {
      line = λ is. absurd (cc (is));
      too_long = λ is. absurd (cc (is));
      end = λ _. none;
      rest = rest;
      given = counted;
      passes = λ is. absurd (cc (is));
      passes_too_long = λ is. absurd (cc (is));
      passes_end = grind (arith, full, none);
      within = grind (arith, full, none);
      offset = λ is. absurd (cc (is));
      offset_too_long = λ is. absurd (cc (is));
      offset_end = grind (arith, full, none);
      offset_fault = tt;
      no_line = grind (arith, full, none);
      read_fault = λ is. absurd (cc (is));
      read_before = λ is. absurd (cc (is));
      read_within = λ is. absurd (cc (is));
      past = λ is. absurd (cc (is));
      past_before = λ is. absurd (cc (is));
      left_on_err = tt;
      feed = λ is. absurd (off is);
      not_ended = λ is. absurd (cc (is));
      stands = λ input stands. stands_next input left later old _ rest whole counted total (λ is. absurd (off is))
          (λ is. absurd (off is)) c.in-Ok-None.ensures.ended stands;
      usable = grind (arith, full, none);
      unusable = tt;
      limit = c.gather.ensures.limit ∙ limit;
      total = total;
      forward = grind (arith, full, none);
      waits = grind (arith, full, none);
      sent = c.gather.ensures.sent;
      send_faults = c.gather.ensures.send_faults;
      read_faults = c.gather.ensures.read_faults;
      quiet = grind (arith, full, none);
      pieces = c.gather.ensures.pieces;
      took = grind (arith, full, none);
      beside = c.gather.ensures.beside;
    }

pub returns-in-Err : goal.returns-in-Err
returns-in-Err g c = grind arith

pub returns-then-length : goal.returns-then-length
returns-then-length g c =
    let left = g.S.Streams.left c.args.from.now in
    let told = in_front_of (pending_of c.self.inside.feed) left in
    let after = in_front_of (pending_of c.gather.new.self) (g.S.Streams.left c.gather.new.from) in
    let at = c.gather.new.self in
    let spill = c.gather.new.self.spill.items in
    let full = pending_full at.bytes.items at.start at.end at.ordered (omega (arith, at.within, at.sized, at.bytes.ok)) in
    let counted : at.taken ≡ at.taken - (at.end - at.start) + length (pending_of at) = omega (arith, full, at.counted, at.ordered) in
    let given = ap (λ (r : Reading). r.given) c.self.view_is in
    let pending : pending_of c.self.inside.feed ≡ c.args.self.now.pending = ap (λ (r : Reading). r.pending) c.self.view_is in
    let Line : ℕ → Type 0 = λ n. IfSome told (λ bytes. Gathered n spill bytes) in
    let line = of_value Line c.in-Ok-Some.field-0 c.in-Ok-Some.length c.in-Ok-Some.field-0-is c.in-Ok-Some.ensures.line in
    let long : told_lines (unread c.args.self.now left) ≡ with_first None (told_lines after) =
    rw (← pending) (gathered_long told after c.in-Ok-Some.length spill c.if-length.true line c.in-Ok-Some.ensures.rest) in
    let limited = ap (λ (r : Reading). r.limit) c.self.view_is in
    let took : (HasLine c.args.self.now → ⊥) → Took (g.S.Streams.pieces c.args.from.now) (g.S.Streams.pieces c.gather.new.from) after =
    λ none. c.in-Ok-Some.ensures.took (λ has. none (rw (← given, ← pending, ← limited) has)) in
    let old = c.args.self.now in
    let was = c.self.inside.feed in
    let full_before = pending_full was.bytes.items was.start was.end was.ordered (omega (arith, was.within, was.sized, was.bytes.ok)) in
    let taken = ap (λ (r : Reading). r.taken) c.self.view_is in
    let limit = ap (λ (r : Reading). r.limit) c.self.view_is in
    let ended = ap (λ (r : Reading). r.ended) c.self.view_is in
    let whole : old.taken ≡ old.given + length old.pending =
    omega (arith, full_before, was.counted, was.ordered, taken, ap (λ (r : Reading). r.given) c.self.view_is, ap length pending) in
    let later = g.S.Streams.left c.gather.new.from in
    let total : input_length at.taken later ≡ input_length old.taken left = rw (← taken) c.gather.ensures.total in
    let rest : after ≡ behind_first (unread old left) = rw (← pending) c.in-Ok-Some.ensures.rest in
    let Feeds : ℕ → Type 0 = λ n. at.ended ≡ false → HasFeed told in
    let feed : at.ended ≡ false → HasFeed (unread old left) = rw (← pending)
    (of_value Feeds c.in-Ok-Some.field-0 c.in-Ok-Some.length c.in-Ok-Some.field-0-is c.in-Ok-Some.ensures.feed) in
    let before : at.ended ≡ false → old.ended ≡ false = λ is. sym ended ∙ c.in-Ok-Some.ensures.begun is in
    record {
      line = grind arith;
      too_long = λ _. long;
      end = grind arith;
      rest = grind arith;
      given = counted;
      passes = grind arith;
      passes_too_long = grind arith;
      passes_end = grind arith;
      within = grind arith;
      offset = grind arith;
      offset_too_long = grind arith;
      offset_end = grind arith;
      offset_fault = grind arith;
      no_line = grind arith;
      read_fault = grind arith;
      quiet = grind arith;
      read_before = grind arith;
      read_within = grind arith;
      past = grind arith;
      past_before = grind arith;
      left_on_err = grind arith;
      feed = feed;
      not_ended = grind arith;
      stands = λ input stands. stands_next input left later old _ rest whole counted total feed before c.in-Ok-Some.ensures.ended stands;
      usable = grind arith;
      unusable = grind arith;
      limit = c.gather.ensures.limit ∙ limit;
      total = grind arith;
      forward = grind arith;
      waits = grind arith;
      sent = grind arith;
      send_faults = grind arith;
      read_faults = grind arith;
      pieces = grind arith;
      took = took;
      beside = grind arith;
    }

pub returns : goal.returns
returns g c =
    let left = g.S.Streams.left c.args.from.now in
    let told = in_front_of (pending_of c.self.inside.feed) left in
    let after = in_front_of (pending_of c.gather.new.self) (g.S.Streams.left c.gather.new.from) in
    let at = c.gather.new.self in
    let spill = c.gather.new.self.spill.items in
    let full = pending_full at.bytes.items at.start at.end at.ordered (omega (arith, at.within, at.sized, at.bytes.ok)) in
    let counted : at.taken ≡ at.taken - (at.end - at.start) + length (pending_of at) = omega (arith, full, at.counted, at.ordered) in
    let given = ap (λ (r : Reading). r.given) c.self.view_is in
    let pending : pending_of c.self.inside.feed ≡ c.args.self.now.pending = ap (λ (r : Reading). r.pending) c.self.view_is in
    let text = rw c.as_slice.ensures.value at c.text_len-end.ensures.text in
    let Line : ℕ → Type 0 = λ n. IfSome told (λ bytes. Gathered n spill bytes) in
    let line = of_value Line c.in-Ok-Some.field-0 c.in-Ok-Some.length c.in-Ok-Some.field-0-is c.in-Ok-Some.ensures.line in
    let short : told_lines (unread c.args.self.now left) ≡ with_first (Some (take c.text_len-end.result spill)) (told_lines after) =
    rw (← pending) (gathered_short told after c.in-Ok-Some.length spill
    (take c.text_len-end.result spill) c.if-length.false text line c.in-Ok-Some.ensures.rest) in
    let limited = ap (λ (r : Reading). r.limit) c.self.view_is in
    let took : (HasLine c.args.self.now → ⊥) → Took (g.S.Streams.pieces c.args.from.now) (g.S.Streams.pieces c.gather.new.from) after =
    λ none. c.in-Ok-Some.ensures.took (λ has. none (rw (← given, ← pending, ← limited) has)) in
    let old = c.args.self.now in
    let was = c.self.inside.feed in
    let full_before = pending_full was.bytes.items was.start was.end was.ordered (omega (arith, was.within, was.sized, was.bytes.ok)) in
    let taken = ap (λ (r : Reading). r.taken) c.self.view_is in
    let limit = ap (λ (r : Reading). r.limit) c.self.view_is in
    let ended = ap (λ (r : Reading). r.ended) c.self.view_is in
    let whole : old.taken ≡ old.given + length old.pending =
    omega (arith, full_before, was.counted, was.ordered, taken, ap (λ (r : Reading). r.given) c.self.view_is, ap length pending) in
    let later = g.S.Streams.left c.gather.new.from in
    let total : input_length at.taken later ≡ input_length old.taken left = rw (← taken) c.gather.ensures.total in
    let rest : after ≡ behind_first (unread old left) = rw (← pending) c.in-Ok-Some.ensures.rest in
    let Feeds : ℕ → Type 0 = λ n. at.ended ≡ false → HasFeed told in
    let feed : at.ended ≡ false → HasFeed (unread old left) = rw (← pending)
    (of_value Feeds c.in-Ok-Some.field-0 c.in-Ok-Some.length c.in-Ok-Some.field-0-is c.in-Ok-Some.ensures.feed) in
    let before : at.ended ≡ false → old.ended ≡ false = λ is. sym ended ∙ c.in-Ok-Some.ensures.begun is in
    record {
      line = λ _. short;
      too_long = grind arith;
      end = grind arith;
      rest = rest;
      given = counted;
      passes = grind arith;
      passes_too_long = grind arith;
      passes_end = grind arith;
      within = grind arith;
      offset = grind arith;
      offset_too_long = grind arith;
      offset_end = grind arith;
      offset_fault = grind arith;
      no_line = grind arith;
      read_fault = grind arith;
      read_before = grind arith;
      read_within = grind arith;
      past = grind arith;
      past_before = grind arith;
      left_on_err = grind arith;
      feed = feed;
      not_ended = grind arith;
      stands = λ input stands. stands_next input left later old _ rest whole counted total feed before c.in-Ok-Some.ensures.ended stands;
      usable = grind arith;
      unusable = grind arith;
      limit = c.gather.ensures.limit ∙ limit;
      total = grind arith;
      forward = grind arith;
      waits = grind arith;
      sent = grind arith;
      send_faults = grind arith;
      read_faults = grind arith;
      quiet = grind arith;
      pieces = grind arith;
      took = took;
      beside = grind arith;
    }
