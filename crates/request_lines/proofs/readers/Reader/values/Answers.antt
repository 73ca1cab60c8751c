use Rattle.std.proofs.Common.{◌≡◌, ◌++◌, ◌∷◌, [], length, map, sym, ap, ◌∙◌, arith}
use Rattle.std.specs.Option.{IsSome}
use Rattle.std.proofs.lemmas.Result.{err_from_is_err_and}
use Rattle.std.proofs.lemmas.List.{append-nil, append_assoc, length_push}
use Rattle.std.proofs.lemmas.List.Elements.{All-nil, All-push}
use Rattle.request_lines.specs.Tokens.{next_token}
use Rattle.request_lines.specs.Requests.{value_of}
use Rattle.request_lines.proofs.TokenLemmas.{tokens_left-none, beyond}
use Rattle.request_lines.proofs.GrammarLemmas.{list-takes, list-misses, list-misses-later, misfit-takes, misfit-none, values-takes}
use Rattle.request_lines.proofs.GrammarLemmas.{takes-line}
use Rattle.request_lines.proofs.readers.Reader.values.Goals as goal

pub returns-in_err-push_value-clause-err : goal.returns-in_err-push_value-clause-err
returns-in_err-push_value-clause-err c =
    let p = err_from_is_err_and c.from_residual.result c.from_residual.ensures.1 in
    rw (p.1, p.2) (list-misses _ _ _ c.in_err-push_value.ensures.err)

pub loop-self-init : goal.loop-self-init
loop-self-init c =
    let takes = c.in_ok-push_value.ensures.ok.0 in
    let items : c.push_value.new.values.items ≡ value_of (next_token c.args.self.now) ∷ [] =
    c.in_ok-push_value.ensures.ok.1 ∙ ap (λ xs. xs ++ value_of (next_token c.args.self.now) ∷ []) c.new-values.ensures.items in
    record {
      line = takes-line _ _ _ takes;
      faults = list-takes _ _ _ _ takes;
      values = rw items (values-takes _ _ _ takes);
      some = omega (arith, ap length items);
      there = λ all. rw items (All-push (λ value. IsSome value) [] _ (All-nil (λ value. IsSome value))
          (c.in_ok-push_value.ensures.there all));
    }

pub loop-self-preserved : goal.loop-self-preserved
loop-self-preserved c =
    let takes = c.in_ok-push_value-2.ensures.ok.0 in
    let items = c.in_ok-push_value-2.ensures.ok.1 in
    record {
      line = takes-line _ _ _ takes ∙ c.loop-self.invariant.line;
      faults = c.loop-self.invariant.faults ∙ misfit-takes _ _ _ takes;
      values = c.loop-self.invariant.values ∙ ap (λ xs. c.loop-self.values.items ++ xs) (values-takes _ _ _ takes)
          ∙ rw items (sym (append_assoc c.loop-self.values.items (value_of (next_token c.loop-self.self) ∷ []) _));
      some = omega (arith, ap length items, length_push c.loop-self.values.items (value_of (next_token c.loop-self.self)));
      there = λ all. rw items (All-push (λ value. IsSome value) _ _ (c.loop-self.invariant.there all)
          (c.in_ok-push_value-2.ensures.there all));
    }

pub returns-in_err-push_value-2-clause-err : goal.returns-in_err-push_value-2-clause-err
returns-in_err-push_value-2-clause-err c =
    let p = err_from_is_err_and c.from_residual-in_err-push_value-2.result c.from_residual-in_err-push_value-2.ensures.1 in
    rw (p.1, p.2) (list-misses-later _ _ _ _ (c.has_token.ensures.0 c.loop-self-test.true) c.loop-self.invariant.faults
    c.in_err-push_value-2.ensures.err)

pub returns-clause-ok : goal.returns-clause-ok
returns-clause-ok c =
    let past = beyond _ c.loop-self.self.at (length c.loop-self.self.line) c.has_token.ensures.1 c.loop-self-test.false in (
      c.loop-self.invariant.faults ∙ misfit-none _ _ past,
      c.from_vec.ensures ∙ sym (c.loop-self.invariant.values
          ∙ ap (λ ts. c.loop-self.values.items ++ map value_of ts) (tokens_left-none _ past) ∙ append-nil _),
    )
