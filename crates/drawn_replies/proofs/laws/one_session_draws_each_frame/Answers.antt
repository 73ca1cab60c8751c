use Rattle.std.proofs.Common.{sym, ◌∙◌}
use Rattle.om3_coeff.specs.Keys.{left_of, right_of, first_slot, end_slot}
use Rattle.om3_coeff.specs.Spans.{span}
use Rattle.drawn_replies.proofs.Agreement.{Laws}
use Rattle.drawn_replies.proofs.OneSession.{own_follows}
use Rattle.drawn_replies.proofs.Steps.{replies, step-of}
use Rattle.drawn_replies.proofs.Tops.{top-span}
use Rattle.drawn_replies.proofs.laws.one_session_draws_each_frame.Goals as goal

-- what the laws below give
laws : goal.After-split_and_join_undo_each_other → Laws
laws c = record {
  same = c.wanted_keys_are_needed.ensures.same;
  spans = c.wanted_keys_are_needed.ensures.spans;
  gives = c.sent_and_held_give_the_needed.ensures;
  order = c.points_are_the_samples.ensures.order;
  tops = λ list few. top-span c.spans_add_up.ensures.all list few;
  splits = λ list k s values low is.
      c.split_and_join_undo_each_other.ensures.split (span list (left_of k)) (span list (right_of k)) s
      (c.spans_add_up.ensures.proper list (first_slot (left_of k)) (end_slot (left_of k)) values)
      (c.spans_add_up.ensures.proper list (first_slot (right_of k)) (end_slot (right_of k)) values)
      (sym (c.spans_add_up.ensures.halves list k low) ∙ is);
}

pub returns-clause-lines : goal.returns-clause-lines
returns-clause-lines c n line frame old new sound replied = own_follows (laws c) n frame old new sound (step-of line frame old new replied)

pub returns-clause-requests : goal.returns-clause-requests
returns-clause-requests c n request frame old new sound replied = own_follows (laws c) n frame old new sound
    (replies request frame old new replied)
