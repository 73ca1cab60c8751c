use Rattle.std.proofs.Common.{◌≡◌, ℕ, ◌-◌, List, length, take, drop, arith, ap, ◌∙◌}
use Rattle.std.proofs.lemmas.Grind.{common_steps}
use Rattle.std.specs.List.{prefix_len, suffix_len}
use Rattle.csv_load.specs.Fields.{trimmed, is_space, without_end}
use Rattle.csv_load.proofs.fields.trimmed.Goals as goal

-- what is left behind the spaces in front
rest_is : (field : List ℕ) (n : ℕ) → take (length field - n) (drop n field) ≡ drop n field
rest_is field n = grind (arith, common_steps)

trimmed_is : (field rest : List ℕ) (n k : ℕ) → n ≡ prefix_len is_space field → rest ≡ drop n field → k ≡ suffix_len is_space rest
    → take (length rest - k) rest ≡ trimmed field
unfolding trimmed
trimmed_is field rest n k in_front rest_is at_end =
    ap (λ j. take (length rest - j) rest) at_end
    ∙ ap without_end (rest_is ∙ ap (λ j. drop j field) in_front)

pub returns : goal.returns
returns c =
    trimmed_is c.args.field.now (take (length c.args.field.now - c.spaces_in_front.result) (drop c.spaces_in_front.result c.args.field.now))
    c.spaces_in_front.result c.spaces_at_end.result
    c.spaces_in_front.ensures.count (rest_is c.args.field.now c.spaces_in_front.result) c.spaces_at_end.ensures.count
