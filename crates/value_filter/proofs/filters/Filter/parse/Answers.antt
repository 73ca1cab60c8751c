use Rattle.std.proofs.Common.{◌≡◌, ℕ, ◌+◌, ◌-◌, ◌<◌, ◌≤◌, List, [], length, drop, refl, sym, ap, ◌∙◌, subst, arith, length-drop}
use Rattle.std.proofs.lemmas.Grind.{common_steps}
use Rattle.std.proofs.lemmas.List.{take_rest}
use Rattle.std.proofs.lemmas.Result.{err_from_is_err_and}
use Rattle.value_filter.specs.Pieces.{past_spaces, first_piece, Spells}
use Rattle.value_filter.proofs.Texts.{IsRead, read_more, stops_at_piece, token_refused, end_refused, refused-gives, leaves-no_filter}
use Rattle.value_filter.proofs.Texts.{finished-are_of, finished-is_filter, finished-postfix, finished-one}
use Rattle.value_filter.proofs.filters.Filter.parse.Goals as goal

-- the offset of the piece
place : (text rest : List ℕ) → length rest ≤ length text → length text - length rest + length rest ≡ length text
place text rest short = omega arith

pub returns-in_default-clause-err : goal.returns-in_default-clause-err
returns-in_default-clause-err c =
    let some : 0 < length c.pieces.rest.now = grind (arith, common_steps, c.pieces-test.ensures) in
    stops_at_piece c.args.text.now c.pieces.rest.now c.pieces.parser _ c.pieces.invariant.read some
    (place c.args.text.now c.pieces.rest.now c.pieces.invariant.short)
    (λ token s. c.in_default.ensures.none token (let P : List ℕ → Type 0 = λ piece. Spells piece token in
    subst P (sym c.first_piece-piece.ensures.piece) s))

pub returns-in_default-clause-reads : goal.returns-in_default-clause-reads
returns-in_default-clause-reads c = λ f i.
    absurd (leaves-no_filter c.args.text.now _ f (stops_at_piece c.args.text.now c.pieces.rest.now c.pieces.parser _ c.pieces.invariant.read
    (grind (arith, common_steps, c.pieces-test.ensures)) (place c.args.text.now c.pieces.rest.now c.pieces.invariant.short)
    (λ token s. c.in_default.ensures.none token (let P : List ℕ → Type 0 = λ piece. Spells piece token in
    subst P (sym c.first_piece-piece.ensures.piece) s))) i)

pub returns-in_err-take-clause-err : goal.returns-in_err-take-clause-err
returns-in_err-take-clause-err c =
    let p = err_from_is_err_and c.from_residual.result c.from_residual.ensures.1 in
    let some : 0 < length c.pieces.rest.now = grind (arith, common_steps, c.pieces-test.ensures) in
    let P : List ℕ → Type 0 = λ piece. Spells piece c.in-Some.token in
    rw (p.1, p.2)
    (token_refused c.args.text.now c.pieces.rest.now c.pieces.parser _ c.in-Some.token _ c.pieces.invariant.read some
    (place c.args.text.now c.pieces.rest.now c.pieces.invariant.short)
    (subst P c.first_piece-piece.ensures.piece c.in-Some.ensures.found) c.in_err-take.ensures.err)

pub returns-in_err-take-clause-reads : goal.returns-in_err-take-clause-reads
returns-in_err-take-clause-reads c = λ f i.
    let p = err_from_is_err_and c.from_residual.result c.from_residual.ensures.1 in
    let some : 0 < length c.pieces.rest.now = grind (arith, common_steps, c.pieces-test.ensures) in
    let P : List ℕ → Type 0 = λ piece. Spells piece c.in-Some.token in
    rw (p.1, p.2)
    (refused-gives c.args.text.now _
    (token_refused c.args.text.now c.pieces.rest.now c.pieces.parser _ c.in-Some.token _ c.pieces.invariant.read some
    (place c.args.text.now c.pieces.rest.now c.pieces.invariant.short)
    (subst P c.first_piece-piece.ensures.piece c.in-Some.ensures.found) c.in_err-take.ensures.err) f i)

pub pieces-preserved : goal.pieces-preserved
pieces-preserved c =
    let P : List ℕ → Type 0 = λ piece. Spells piece c.in-Some.token in
    let Q : List ℕ → Type 0 = λ xs. IsRead c.args.text.now xs c.take.new.self in
    let n : ℕ = length c.first_piece-piece.result.now in
    let behind = take_rest c.pieces.rest.now n in
    let same : c.past_spaces-rest-in-pieces.result.now ≡ past_spaces (drop (length (first_piece c.pieces.rest.now)) c.pieces.rest.now) =
    c.past_spaces-rest-in-pieces.ensures.rest ∙ ap past_spaces (behind
    ∙ ap (λ p. drop (length p) c.pieces.rest.now) c.first_piece-piece.ensures.piece) in
    record {
      read = subst Q (sym same)
          (read_more c.args.text.now c.pieces.rest.now c.pieces.parser c.take.new.self c.in-Some.token c.pieces.invariant.read
          (subst P c.first_piece-piece.ensures.piece c.in-Some.ensures.found) c.in_ok-take.ensures.ok);
      short = omega (
        arith,
        c.past_spaces-rest-in-pieces.ensures.within,
        ap length behind,
        length-drop n c.pieces.rest.now,
        c.pieces.invariant.short,
      );
    }

pub returns-in_err-steps-clause-err : goal.returns-in_err-steps-clause-err
returns-in_err-steps-clause-err c =
    let p = err_from_is_err_and c.from_residual-in_err-steps.result c.from_residual-in_err-steps.ensures.1 in
    let end : c.pieces.rest.now ≡ [] = grind (arith, common_steps, c.pieces-test.ensures) in
    rw (p.1, p.2)
    (end_refused c.args.text.now c.pieces.rest.now c.pieces.parser _ _ c.pieces.invariant.read end refl c.in_err-steps.ensures.err)

pub returns-in_err-steps-clause-reads : goal.returns-in_err-steps-clause-reads
returns-in_err-steps-clause-reads c = λ f i.
    let p = err_from_is_err_and c.from_residual-in_err-steps.result c.from_residual-in_err-steps.ensures.1 in
    let end : c.pieces.rest.now ≡ [] = grind (arith, common_steps, c.pieces-test.ensures) in
    rw (p.1, p.2)
    (refused-gives c.args.text.now _
    (end_refused c.args.text.now c.pieces.rest.now c.pieces.parser _ _ c.pieces.invariant.read end refl c.in_err-steps.ensures.err) f i)

pub invariant_of-result : goal.invariant_of-result
invariant_of-result c = finished-are_of c.args.text.now c.pieces.rest.now c.pieces.parser c.in_ok-steps.steps.items c.pieces.invariant.read
    c.in_ok-steps.ensures.ok

pub returns-clause-ok : goal.returns-clause-ok
returns-clause-ok c =
    let end : c.pieces.rest.now ≡ [] = grind (arith, common_steps, c.pieces-test.ensures) in
    finished-is_filter c.args.text.now c.pieces.rest.now c.pieces.parser c.in_ok-steps.steps.items c.pieces.invariant.read end
    c.in_ok-steps.ensures.ok

pub returns-clause-reads : goal.returns-clause-reads
returns-clause-reads c = λ f i.
    let end : c.pieces.rest.now ≡ [] = grind (arith, common_steps, c.pieces-test.ensures) in
    finished-one c.args.text.now c.pieces.rest.now c.pieces.parser c.in_ok-steps.steps.items c.pieces.invariant.read end
    c.in_ok-steps.ensures.ok f i

pub returns-clause-steps : goal.returns-clause-steps
returns-clause-steps c = finished-postfix c.args.text.now c.pieces.rest.now c.pieces.parser c.in_ok-steps.steps.items
    c.pieces.invariant.read c.in_ok-steps.ensures.ok
