-- Turns one after the other.
use Rattle.std.proofs.Common.{◌≡◌, ◌∙◌, ℕ, ◌+◌, ◌*◌, ◌≤◌, List, [], ◌++◌, length, Option, refl, ap, sym, subst, arith, append_assoc}
use Rattle.std.proofs.Common.{length-append}
use Rattle.std.proofs.lemmas.List.{append-nil}
use Rattle.block_disk.specs.SentLaws.{sent_none, sent_more}
use Rattle.series_book.specs.declared.edits.Edit.{Edit}
use Rattle.series_book.specs.EditLists.{after_edits}
use Rattle.series_book.proofs.EditListLemmas.{after_append}
use Rattle.series_store.specs.Groups.{weight}
use Rattle.chart_service.specs.Making.{Makes}
use Rattle.chart_service.specs.State.{State}
use Rattle.chart_service.specs.Syncing.{edits_of}
use Rattle.chart_service.specs.Telling.{replies_joined}
use Rattle.chart_service.proofs.Made.{made_joined}
use Rattle.chart_service.proofs.SyncLemmas.{edits_joined, weight_joined}
use Rattle.chart_service.proofs.TurnLemmas.{turns_joined}
use Rattle.served_lines.specs.Turning.{Answered, Costs, Held, Turn}

-- edits behind others leave the book that all of them do
pub books_then : (a b c : State) (done later : List Edit) → b.total ≡ a.total → b.book ≡ after_edits a.total a.book done
    → c.book ≡ after_edits b.total b.book later → c.book ≡ after_edits a.total a.book (done ++ later)
books_then a b c done later total_is book_is next =
    next ∙ ap (λ t. after_edits t b.book later) total_is ∙ ap (λ k. after_edits a.total k later) book_is
    ∙ sym (after_append a.total a.book done later)

pub costs_then : (a b : State) (done later : List Edit) (lines more : List (Option (List ℕ))) (p q x y z : ℕ) → b.total ≡ a.total
    → b.book ≡ after_edits a.total a.book done → Costs a done lines p x y → Costs b later more q y z
    → Costs a (done ++ later) (lines ++ more) (p + q) x z
costs_then a b done later lines more p q x y z total_is book_is first second =
    let W : ℕ → Type 0 = λ t. second.heavy * 22 ≤ weight t b.book later in
    let paid : second.heavy * 22 ≤ weight a.total (after_edits a.total a.book done) later =
    subst (λ k. second.heavy * 22 ≤ weight a.total k later) book_is (subst W total_is second.heavy_paid) in
    record {
      others = first.others + second.others;
      counted = omega (
        arith,
        first.counted,
        second.counted,
        length-append lines more,
        ap length (edits_joined lines more),
        length-append
            (edits_of lines) (edits_of more),
      );
      full = first.full + second.full;
      heavy = first.heavy + second.heavy;
      few = omega (arith, first.few, second.few);
      full_paid = omega (arith, first.full_paid, second.full_paid, length-append done later);
      heavy_paid = omega (arith, first.heavy_paid, paid, weight_joined a.total a.book done later);
    }

module _ {S F : Type 0} (makes : Makes S F) where
  -- nothing is answered
  pub answered_none : (at : Held S) → Answered makes at at [] []
  answered_none at = record {
    front = [];
    split = append-nil at.ahead;
    frames = [];
    replied = refl;
    made = (refl, refl);
    sent = sent_none at.sent;
    reads = (refl, refl);
    total_is = refl;
    book_is = refl;
  }

  -- lines are kept back
  abbrev pub behind : Held S → List (Option (List ℕ)) → Held S
  behind at lines = record {
    kept = at.kept;
    state = at.state;
    ahead = at.ahead ++ lines;
    sent = at.sent;
    reads = at.reads;
    syncs =
        at.syncs;
  }

  abbrev pub kept_back : (at : Held S) (lines : List (Option (List ℕ))) → Answered makes at (behind at lines) lines []
  kept_back at lines = record {
    front = [];
    split = refl;
    frames = [];
    replied = refl;
    made = (refl, refl);
    sent = sent_none at.sent;
    reads = (refl, refl);
    total_is = refl;
    book_is = refl;
  }

  abbrev pub answered_then : (a b c : Held S) (lines more : List (Option (List ℕ))) (text reply : List ℕ)
      → Answered makes a b lines text → Answered makes b c more reply → Answered makes a c (lines ++ more) (text ++ reply)
  answered_then a b c lines more text reply first second = record {
    front = first.front ++ second.front;
    split = sym (append_assoc a.ahead lines more) ∙ ap (λ l. l ++ more) first.split ∙ append_assoc first.front b.ahead more
        ∙ ap (λ l. first.front ++ l) second.split ∙ sym (append_assoc first.front second.front c.ahead);
    frames = first.frames ++ second.frames;
    replied = replies_joined a.state b.state c.state first.front second.front first.frames second.frames first.replied second.replied;
    made = made_joined makes a.kept b.kept c.kept first.front second.front (first.front ++ second.front) first.frames
        second.frames text reply second.made first.made;
    sent = sent_more text reply a.sent b.sent c.sent first.sent second.sent;
    reads = turns_joined a.state b.state c.state first.front second.front first.frames second.frames a.reads b.reads c.reads
        first.reads second.reads;
    total_is = second.total_is ∙ first.total_is;
    book_is = books_then a.state b.state c.state (edits_of first.front) (edits_of second.front) first.total_is first.book_is
        second.book_is ∙ ap (after_edits a.state.total a.state.book) (sym (edits_joined first.front second.front));
  }

  pub turn_then : (a b c : Held S) (lines more : List (Option (List ℕ))) (p q : ℕ) (text reply : List ℕ)
      → Turn makes a b lines p text → Turn makes b c more q reply → Turn makes a c (lines ++ more) (p + q) (text ++ reply)
  turn_then a b c lines more p q text reply first second =
      let front = first.answered.front in
      let next = second.answered.front in
      let C : List Edit → Type 0 = λ e. Costs a.state e (lines ++ more) (p + q) a.syncs c.syncs in
      record {
        answered = answered_then a b c lines more text reply first.answered second.answered;
        costs = subst C (sym (edits_joined front next)) (costs_then a.state b.state (edits_of front) (edits_of next) lines more p q
            a.syncs b.syncs c.syncs first.answered.total_is first.answered.book_is first.costs second.costs);
      }

  pub turn_none : (at : Held S) → Turn makes at at [] 0 []
  turn_none at = record {
    answered = record {
      front = [];
      split = append-nil at.ahead;
      frames = [];
      replied = refl;
      made = (refl, refl);
      sent = sent_none at.sent;
      reads = (refl, refl);
      total_is = refl;
      book_is = refl;
    };
    costs = record {
      others = 0;
      counted = refl;
      full = 0;
      heavy = 0;
      few = omega arith;
      full_paid = omega arith;
      heavy_paid = omega arith;
    };
  }
