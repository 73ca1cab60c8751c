-- How many groups there are over lines.
use Rattle.std.proofs.Common.{◌≡◌, ◌∙◌, ℕ, ◌+◌, ◌-◌, ◌*◌, ◌/◌, ◌^◌, ◌<◌, ◌≤◌, List, [], ◌∷◌, ◌++◌, length, Option, None, Some, Result, Ok}
use Rattle.std.proofs.Common.{Err, refl, ap, sym, subst, arith, length-append}
use Rattle.std.proofs.Math.Nat.{le-div_iff_mul-le}
use Rattle.std.proofs.lemmas.List.{append-nil}
use Rattle.chart_service.specs.EditGroups.{SpellEdits}
use Rattle.chart_service.specs.Serving.{unless_empty}
use Rattle.chart_service.specs.Syncing.{edit_asked, edit_of, edit_read, edits_of}
use Rattle.chart_service.proofs.SyncLemmas.{edits_joined, spelled_edits}
use Rattle.request_lines.specs.declared.requests.Request.{Request}
use Rattle.request_lines.specs.declared.requests.Request.TheVariants.{Edit as EditRequest, Open, View as ViewRequest, Zoom, Pan, Close}
use Rattle.request_lines.specs.Requests.{read_line}
use Rattle.series_book.specs.declared.edits.Edit.{Edit}
use Rattle.served_lines.proofs.Steps.{IsSaid, none_spelt}
use Rattle.hosted_lines.specs.Groups.{FewGroups, GroupsBy}
use Rattle.hosted_lines.specs.Hosts.{Event, answer, group, groups_in, lines_in, push, report, sweep}
use Rattle.hosted_lines.specs.Lives.{Event as LiveEvent, answer as answered, push as pushed}
use Rattle.hosted_lines.proofs.RowLemmas.{lines_joined, of_live}
use Rattle.hosted_lines.proofs.SpelledLemmas.{spelled_length}

divided : (n k m : ℕ) → 0 < k → n * k ≤ m → n ≤ m / k
divided n k m some most = (le-div_iff_mul-le some).1 most

-- ---- events

pub groups_joined : (first later : List Event) → groups_in (first ++ later) ≡ groups_in first + groups_in later
groups_joined [] later = omega arith
groups_joined (answer line ∷ events) later = groups_joined events later
groups_joined (report line ∷ events) later = groups_joined events later
groups_joined (sweep line ∷ events) later = groups_joined events later
groups_joined (group lines ∷ events) later = omega (arith, groups_joined events later)
groups_joined (push ∷ events) later = groups_joined events later

-- a line that is answered alone is in no group
pub groups_of_live : (events : List LiveEvent) → groups_in (of_live events) ≡ 0
groups_of_live [] = refl
groups_of_live (answered line ∷ later) = groups_of_live later
groups_of_live (pushed ∷ later) = groups_of_live later

-- ---- lines

pub by_none : (spare : ℕ) → GroupsBy [] 0 spare
by_none spare = record { others = 0; counted = refl; few = omega arith }

pub by_then : (lines more : List (Option (List ℕ))) (groups groups' spare spare' : ℕ) → GroupsBy lines groups spare
    → GroupsBy more groups' spare' → GroupsBy (lines ++ more) (groups + groups') (spare + spare')
by_then lines more groups groups' spare spare' one two =
    let joined = ap length (edits_joined lines more) in
    let both = length-append (edits_of lines) (edits_of more) in
    record {
      others = one.others + two.others;
      counted = omega (arith, one.counted, two.counted, length-append lines more, joined, both);
      few = omega (arith, one.few, two.few, joined, both);
    }

-- no group
asked_few : (request : Request) → length (edit_asked request) ≤ 1
asked_few (EditRequest edit) = omega arith
asked_few (Open number cache) = omega arith
asked_few (ViewRequest number name w h t0 t1 word text) = omega arith
asked_few (Zoom number t0 t1) = omega arith
asked_few (Pan number by) = omega arith
asked_few (Close number) = omega arith

read_few : (read : Result Request ℕ) → length (edit_read read) ≤ 1
read_few (Err at) = omega arith
read_few (Ok request) = asked_few request

edit_few : (line : Option (List ℕ)) → length (edit_of line) ≤ 1
edit_few None = omega arith
edit_few (Some text) = read_few (read_line text)

edits_few : (all : List (Option (List ℕ))) → length (edits_of all) ≤ length all
edits_few [] = omega arith
edits_few (line ∷ later) = omega (arith, edits_few later, edit_few line, length-append (edit_of line) (edits_of later))

pub by_any : (lines : List (Option (List ℕ))) → GroupsBy lines 0 0
by_any lines = record { others = length lines - length (edits_of lines); counted = omega (arith, edits_few lines); few = omega arith }

-- no more groups over the same lines
pub by_fewer : (lines other : List (Option (List ℕ))) (groups groups' spare : ℕ) → other ≡ lines → groups' ≤ groups
    → GroupsBy lines groups spare → GroupsBy other groups' spare
by_fewer lines other groups groups' spare same fewer by =
    let G : List (Option (List ℕ)) → Type 0 = λ l. GroupsBy l groups' spare in
    subst G (sym same) (record { others = by.others; counted = by.counted; few = omega (arith, fewer, by.few) })

module _ (lines : List (Option (List ℕ))) (edits : List Edit) (spell : SpellEdits lines edits) where
  edits_all : length lines ≡ 0 + length (edits_of lines)
  edits_all = omega (arith, spelled_length lines edits spell, ap length (spelled_edits lines edits spell))

  -- a group of 64 edits
  pub by_many : 64 ≤ length edits → GroupsBy lines 1 0
  by_many many = record { others = 0; counted = edits_all; few = omega (arith, many, ap length (spelled_edits lines edits spell)) }

  -- one at a pause
  pub by_pause : GroupsBy (lines ++ []) 1 1
  by_pause =
      let G : List (Option (List ℕ)) → Type 0 = λ l. GroupsBy l 1 1 in
      subst G (sym (append-nil lines)) (record { others = 0; counted = edits_all; few = omega arith })

  -- one before another line
  pub by_other : (line : Option (List ℕ)) → IsSaid line → edit_of line ≡ [] → GroupsBy (lines ++ unless_empty line) 1 0
  by_other line said none =
      by_then lines (unless_empty line) 0 1 0 0 (record { others = 0; counted = edits_all; few = omega arith })
      (record { others = 1; counted = omega (arith, ap length said, ap length (none_spelt line none)); few = omega arith })

-- ---- a run

-- with so many pauses, and a group more
few_so : (lines : List (Option (List ℕ))) (groups all paused pieces pieces' : ℕ) → GroupsBy lines groups paused → all ≤ groups + 1
    → (pieces' < 2 ^ 64 - 1 → pieces + paused ≤ pieces' + 2) → FewGroups lines all pieces pieces'
few_so lines groups all paused pieces pieces' by one few = record {
  others = by.others;
  counted = by.counted;
  few = λ counts.
      let full = groups - (by.others + paused) in
      let half = divided full 64 (length (edits_of lines)) (omega arith) (omega (arith, by.few)) in
      omega (arith, few counts, one, half);
}

-- these events, which answer these lines
pub few_all : (events : List Event) (lines : List (Option (List ℕ))) (paused pieces pieces' : ℕ) → lines ≡ lines_in events
    → GroupsBy (lines_in events) (groups_in events) paused → (pieces' < 2 ^ 64 - 1 → pieces + paused ≤ pieces' + 2)
    → FewGroups lines (groups_in events) pieces pieces'
few_all events lines paused pieces pieces' are by few =
    few_so lines (groups_in events) (groups_in events) paused pieces pieces'
    (by_fewer (lines_in events) lines (groups_in events) (groups_in events) paused are (omega arith) by) (omega arith) few

-- and later ones, of which at most one is a group
pub few_more : (events later : List Event) (lines : List (Option (List ℕ))) (paused pieces pieces' : ℕ) → lines ≡ lines_in (events ++ later)
    → GroupsBy (lines_in events) (groups_in events) paused → groups_in later ≤ 1 → (pieces' < 2 ^ 64 - 1 → pieces + paused ≤ pieces' + 2)
    → FewGroups lines (groups_in (events ++ later)) pieces pieces'
few_more events later lines paused pieces pieces' are by one few =
    let more = by_then (lines_in events) (lines_in later) (groups_in events) 0 paused 0 by (by_any (lines_in later)) in
    few_so lines (groups_in events) (groups_in (events ++ later)) paused pieces pieces'
    (by_fewer (lines_in events ++ lines_in later) lines (groups_in events) (groups_in events) paused (are
    ∙ lines_joined events later) (omega arith)
    (record { others = more.others; counted = more.counted; few = omega (arith, more.few) }))
    (omega (arith, one, groups_joined events later)) few

-- nothing is done
pub few_none : (lines : List (Option (List ℕ))) (pieces pieces' : ℕ) → lines ≡ [] → FewGroups lines 0 pieces pieces'
few_none lines pieces pieces' none =
    let F : List (Option (List ℕ)) → Type 0 = λ l. FewGroups l 0 pieces pieces' in
    subst F (sym none) (record { others = 0; counted = refl; few = λ counts. omega arith })
