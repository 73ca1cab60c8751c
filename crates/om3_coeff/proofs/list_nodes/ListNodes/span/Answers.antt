use Rattle.std.proofs.Common.{◌∙◌, ◌≡◌, ◌-◌, ap, ap₂, length, take, drop, ℕ}
use Rattle.std.specs.Prelude.{min}
use Rattle.om3_coeff.specs.Keys.{first_slot, end_slot}
use Rattle.om3_coeff.specs.Spans.{span_of}
use Rattle.om3_coeff.proofs.SpanLemmas.{span_within}
use Rattle.om3_coeff.proofs.list_nodes.ListNodes.span.Goals as goal

pub returns : goal.returns
returns c =
    let list = c.args.self.now.slots.now in
    let from : c.min-first.result ≡ min (first_slot c.args.key) (length c.args.self.now.slots.now) =
    c.min-first.ensures ∙ ap (λ n. min n (length c.args.self.now.slots.now)) c.first.ensures in
    let to : c.min-end.result ≡ min (end_slot c.args.key) (length c.args.self.now.slots.now) =
    c.min-end.ensures ∙ ap (λ n. min n (length c.args.self.now.slots.now)) c.end.ensures in
    c.span_of.ensures
    ∙ ap₂ (λ (f e : ℕ). span_of (take (e - f) (drop f c.args.self.now.slots.now))) from to
    ∙ span_within c.args.self.now.slots.now (first_slot c.args.key) (end_slot c.args.key)
