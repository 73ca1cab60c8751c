-- Where all lines of an input are rules, none is bad, and none names a series that isn't there.
use Rattle.std.proofs.Common.{◌≡◌, ◌∙◌, ℕ, true, cond, List, [], ◌∷◌, ◌++◌, Option, Some, None, ap, subst}
use Rattle.std.specs.List.{filter}
use Rattle.chart_service.specs.Serving.{told}
use Rattle.chart_world.specs.FrontLaws.{some_left, whole_front}
use Rattle.chart_world.specs.Fronts.{says}
use Rattle.chart_world.specs.LineLaws.{says_text, told_behind}
use Rattle.series_book.specs.declared.one_series.Series.{Series}
use Rattle.retention.specs.declared.rule.Rule.{Rule}
use Rattle.retention.specs.Drops.{book_swept}
use Rattle.retention.specs.Sweeps.{NamesNone}
use Rattle.retain_command.specs.Answers.{AreRules, book_behind}
use Rattle.retain_command.specs.Rules.{Says}
use Rattle.store_commands.specs.InputLines.{NextLine}
use Rattle.retain_command.specs.Sweeping.{FirstRules, SweepsToBad, SweepsToUnknown, left_by}
use Rattle.retain_command.proofs.RuleLemmas.{spells_some}
use Rattle.retain_command.proofs.SpellLemmas.{one_rule}

says_one : (line : Option (List ℕ)) (first second : Rule) → Says line first → Says line second → first ≡ second
says_one None first second one two = absurd one
says_one (Some text) first second one two = one_rule text first second one two

says_true : (line : Option (List ℕ)) (rule : Rule) → Says line rule → says line ≡ true
says_true None rule is = absurd is
says_true (Some text) rule is = says_text text (spells_some rule text is)

-- behind some first lines the others are rules over the book that those leave
split : (total : ℕ) (book : List Series) (first others : List (Option (List ℕ))) (rules mine : List Rule)
    → AreRules total book (first ++ others) rules → AreRules total book first mine
    → (later : List Rule) × AreRules total (book_behind total book mine) others later
split total book [] others rules [] are own = (rules, are)
split total book [] others rules (m ∷ ms) are own = absurd own
split total book (l ∷ ls) others [] mine are own = absurd are
split total book (l ∷ ls) others (r ∷ rs) [] are own = absurd own
split total book (l ∷ ls) others (r ∷ rs) (m ∷ ms) are own =
    let P : Rule → Type 0 = λ x. AreRules total (book_swept total book x) (ls ++ others) rs in
    split total (book_swept total book m) ls others rs ms (subst P (says_one l r m are.0 own.0) are.2) own.2

first_of : (total : ℕ) (book : List Series) (line : Option (List ℕ)) (others : List (Option (List ℕ))) (rules : List Rule)
    → AreRules total book (line ∷ others) rules → (rule : Rule) × Says line rule × (NamesNone book rule → ⊥)
first_of total book line others [] are = absurd are
first_of total book line others (r ∷ rs) are = (r, are.0, are.1)

-- the next line is a rule, and a series that it names is there
at_next : (total : ℕ) (book : List Series) (input : List ℕ) (rules : List Rule) (first : FirstRules total book input) (given : ℕ)
    (line : Option (List ℕ)) → AreRules total book (told input) rules → NextLine given first.rest line → says line ≡ true
    → (rule : Rule) × Says line rule × (NamesNone (left_by total book input first) rule → ⊥)
at_next total book input rules first given line are next some =
    let whole = whole_front first.front first.rest first.begins.whole (some_left first.rest line next.later next.lines_are) in
    let P : List (Option (List ℕ)) → Type 0 = λ l. AreRules total book l rules in
    let behind : told first.rest ≡ line ∷ filter says next.later = ap (filter says) next.lines_are
    ∙ ap (λ b. cond b (line ∷ filter says next.later) (filter says next.later)) some in
    let all : told input ≡ told first.front ++ line ∷ filter says next.later = ap told first.begins.split
    ∙ told_behind first.front first.rest whole ∙ ap (λ l. told first.front ++ l) behind in
    let others = split total book (told first.front) (line ∷ filter says next.later) rules first.rules (subst P all are) first.are in
    first_of total (left_by total book input first) line (filter says next.later) others.0 others.1

pub bad_never : (IsThere : List Series → Type 0) (total : ℕ) (book : List Series) (input : List ℕ) (before now : Option (List ℕ))
    (place : ℕ) (rules : List Rule) → AreRules total book (told input) rules → SweepsToBad IsThere total book input before now place → ⊥
bad_never IsThere total book input before now place rules are bad =
    let rule = at_next total book input rules bad.swept.first _ bad.line are bad.next bad.some in
    bad.none rule.0 rule.1

pub unknown_never : (IsThere : List Series → Type 0) (total : ℕ) (book : List Series) (input : List ℕ) (before now : Option (List ℕ))
    (place : ℕ) (rules : List Rule) → AreRules total book (told input) rules → SweepsToUnknown IsThere total book input before now place → ⊥
unknown_never IsThere total book input before now place rules are stop =
    let rule = at_next total book input rules stop.swept.first _ stop.line are stop.next (says_true stop.line stop.rule stop.says_it) in
    let P : Rule → Type 0 = λ r. NamesNone (left_by total book input stop.swept.first) r in
    rule.2 (subst P (says_one stop.line stop.rule rule.0 stop.says_it rule.1) stop.unknown)
