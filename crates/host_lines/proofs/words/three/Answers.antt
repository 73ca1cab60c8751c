use Rattle.std.proofs.Common.{◌≡◌, ◌∙◌, ℕ, List, ◌∷◌, length, ap, sym, arith}
use Rattle.request_lines.specs.Tokens.{tokens}
use Rattle.store_commands.proofs.TokenLemmas.{of_some, some_token}
use Rattle.host_lines.proofs.words.three.Goals as goal

-- three tokens aren't more
no_fourth : (bytes behind third rest : List ℕ) (x y z : List ℕ) → tokens bytes ≡ x ∷ tokens behind → tokens behind ≡ y ∷ tokens third
    → tokens third ≡ z ∷ tokens rest → length (tokens bytes) ≡ 3 → ⊥
no_fourth bytes behind third rest x y z one two more three = absurd
    (omega (arith, some_token rest, ap length one, ap length two, ap length more, three))

pub returns-then-is_some-clause-other : goal.returns-then-is_some-clause-other
returns-then-is_some-clause-other c = λ three.
    of_some c.cut-3.result _ _ (sym c.is_some.ensures ∙ c.if-is_some.true) c.cut-3.ensures.cut (λ parts more.
    no_fourth c.args.bytes.now c.in_ok-first.behind.now c.in_ok-second.third.now parts.1.now c.in_ok-first.first.now
    c.in_ok-second.second.now parts.0.now c.in_ok-first.ensures.cut c.in_ok-second.ensures.cut more three)
