use Rattle.std.proofs.Common.{◌≡◌, Some, IfOk, IfErr, sym, ap, ◌∙◌, subst}
use Rattle.request_lines.specs.Tokens.{Cursor, next_token, past_token}
use Rattle.request_lines.specs.Grammar.{kind_of}
use Rattle.request_lines.specs.Requests.{Reads, IsRequest, RefusesLine, read_line, ReadsAs}
use Rattle.request_lines.proofs.RowLemmas.{line_start, line-reads, line-unknown}
use Rattle.request_lines.proofs.SpeltLines.{spelt_so, only_read}
use Rattle.request_lines.proofs.lines.parse_line.Goals as goal

-- the answer of a line of a known kind
answer : (c : goal.After-read)
    → IfOk c.read.result (IsRequest c.args.line.now) × IfErr c.read.result (RefusesLine c.args.line.now)
    × ReadsAs (read_line c.args.line.now) c.read.result
answer c =
    let kind : kind_of (next_token (line_start c.args.line.now)) ≡ Some c.in-Some.kind =
    ap kind_of (ap next_token (sym c.new-reader.ensures) ∙ sym c.word-word.ensures.word) ∙ sym c.in-Some.ensures in
    let P : Cursor → Type 0 = λ cursor. Reads c.in-Some.kind cursor c.read.result in
    line-reads c.args.line.now c.in-Some.kind c.read.result kind
    (subst P (c.word-word.ensures.past ∙ ap past_token c.new-reader.ensures) c.read.ensures.reads)

pub returns-in-Some-clause-ok : goal.returns-in-Some-clause-ok
returns-in-Some-clause-ok c = (answer c).0

pub returns-in-Some-clause-err : goal.returns-in-Some-clause-err
returns-in-Some-clause-err c = (answer c).1

pub returns-in-Some-clause-reading : goal.returns-in-Some-clause-reading
returns-in-Some-clause-reading c = (answer c).2

pub returns-in-None-clause-err : goal.returns-in-None-clause-err
returns-in-None-clause-err c =
    (line-unknown c.args.line.now
    (ap kind_of (ap next_token (sym c.new-reader.ensures) ∙ sym c.word-word.ensures.word) ∙ sym c.in-None.ensures)).0

pub returns-in-None-clause-reading : goal.returns-in-None-clause-reading
returns-in-None-clause-reading c =
    (line-unknown c.args.line.now
    (ap kind_of (ap next_token (sym c.new-reader.ensures) ∙ sym c.word-word.ensures.word) ∙ sym c.in-None.ensures)).1

pub returns-in-Some-clause-spelt : goal.returns-in-Some-clause-spelt
returns-in-Some-clause-spelt c = spelt_so c.args.line.now c.read.result (answer c).0

pub returns-in-Some-clause-only : goal.returns-in-Some-clause-only
returns-in-Some-clause-only c = λ request spells. only_read c.args.line.now request c.read.result spells (answer c).2

pub returns-in-None-clause-only : goal.returns-in-None-clause-only
returns-in-None-clause-only c = λ request spells. only_read c.args.line.now request _ spells (returns-in-None-clause-reading c)
