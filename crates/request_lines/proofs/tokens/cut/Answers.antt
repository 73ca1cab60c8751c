use Rattle.std.proofs.Common.{◌∙◌, ◌∷◌, ◌+◌, take, sym, ap}
use Rattle.request_lines.specs.Tokens.{tokens}
use Rattle.request_lines.proofs.TokenLemmas.{cut_found, cut_none, place_found, place_missing, whole_rest}
use Rattle.request_lines.proofs.tokens.cut.Goals as goal

pub returns-in-Some-clause-cut : goal.returns-in-Some-clause-cut
returns-in-Some-clause-cut c =
    cut_found c.args.bytes.now c.in-Some.place (sym (place_found _ _ _ c.in-Some.ensures.place)) c.in-Some.ensures.within
    ∙ ap (λ l. take c.in-Some.place c.args.bytes.now ∷ tokens l) (whole_rest c.args.bytes.now (c.in-Some.place + 1))

pub returns-in-None-clause-one : goal.returns-in-None-clause-one
returns-in-None-clause-one c = λ none. cut_none c.args.bytes.now (place_missing _ _ c.in-None.ensures.place)
