use Rattle.std.proofs.Common.{rules, ◌≡◌, ◌∙◌, ap, ap₂, subst, true, List, map, string_bytes, codes, Global}
use Rattle.std.proofs.lemmas.Result.{IfOk-weaker}
use Rattle.clap.specs.Words.{App, Text, app_of, is_simple, new_app, rule_of, with_rule}
use Rattle.clap.specs.Kinds.{FailsBy}
use Rattle.clap.specs.Simple.{Shape, app_of_fields, on_top, matches_of}
use Rattle.clap.specs.Faults.{fault_of, is_simple_and_free}
use Rattle.program_words.proofs.WalkLemmas.{chart, word_rule, operand_rule, plain_shape, simple, simple_and_free}
use Rattle.program_words.proofs.ReadLemmas.{are_texts}
use Rattle.program_words.proofs.FoundLemmas.{parse_found, parse_fails}
use Rattle.program_words.proofs.reading.parse.Goals as goal

-- the command is made as its definition says
app_is : (c : goal.After-try_get_matches_from) → app_of c.in_ok-command.command ≡ chart
app_is c =
    let word_is : rule_of c.action-word.result ≡ word_rule = search rules in
    let operand_is : rule_of c.action-operands.result ≡ operand_rule = search rules in
    let unnamed : app_of c.no_binary_name.result ≡ on_top (λ (s : Shape). record s { no_binary_name = true }) (new_app (codes "chart")) =
    ap app_of_fields c.no_binary_name.ensures ∙ ap (on_top (λ (s : Shape). record s { no_binary_name = true })) c.new-3.ensures.app in
    let unhelped : app_of c.disable_help_flag.result ≡ on_top (λ (s : Shape). record s { no_binary_name = true; disable_help_flag = true })
    (new_app (codes "chart")) =
    ap app_of_fields c.disable_help_flag.ensures ∙ ap (on_top (λ (s : Shape). record s { disable_help_flag = true })) unnamed in
    let plain : app_of c.disable_version_flag.result ≡ on_top plain_shape (new_app (codes "chart")) =
    ap app_of_fields c.disable_version_flag.ensures ∙ ap (on_top (λ (s : Shape). record s { disable_version_flag = true })) unhelped in
    c.in_ok-command.ensures.shape (search rules) ∙ ap₂ with_rule (c.in_ok-arg.ensures.shape (search rules)
    ∙ ap₂ with_rule plain word_is) operand_is

pub returns-clause-found : goal.returns-clause-found
returns-clause-found c =
    let is : app_of c.in_ok-command.command ≡ chart = app_is c in
    let words : List Text = map (string_bytes {Z = Global}) c.args.words.now in
    let parse = c.try_get_matches_from in
    let fails : FailsBy (fault_of chart words) parse.result = subst (λ (a : App). FailsBy (fault_of a words) parse.result) is
    (parse.ensures.kinds (ap is_simple_and_free is ∙ simple_and_free)) in
    parse_found words parse.result (are_texts c.args.words.now) fails
    (IfOk-weaker parse.result _ _ (λ m h. (h (ap is_simple is ∙ simple)).0 ∙ ap (λ (a : App). matches_of a words) is) parse.ensures.matches)

pub returns-clause-fails : goal.returns-clause-fails
returns-clause-fails c =
    let is : app_of c.in_ok-command.command ≡ chart = app_is c in
    let words : List Text = map (string_bytes {Z = Global}) c.args.words.now in
    let parse = c.try_get_matches_from in
    let fails : FailsBy (fault_of chart words) parse.result = subst (λ (a : App). FailsBy (fault_of a words) parse.result) is
    (parse.ensures.kinds (ap is_simple_and_free is ∙ simple_and_free)) in
    parse_fails words parse.result (are_texts c.args.words.now) fails
