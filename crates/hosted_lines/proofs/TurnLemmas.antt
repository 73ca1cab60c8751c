-- What is given to a host one after the other is one turn.
use Rattle.std.proofs.Common.{◌≡◌, ◌∙◌, ℕ, ◌+◌, List, [], ◌∷◌, ◌++◌, Option, refl, ap, sym, subst, arith, append_assoc}
use Rattle.std.proofs.lemmas.List.{append-nil}
use Rattle.block_disk.specs.SentLaws.{sent_more, sent_none}
use Rattle.line_runs.specs.Carried.{Carries}
use Rattle.line_runs.specs.CarriedLaws.{carries_both}
use Rattle.line_runs.specs.Given.{EndsPaused, Given, Line, Pause, End, pauses}
use Rattle.served_lines.specs.Turning.{lines_of, pauses_of}
use Rattle.served_lines.proofs.Carried.{lines_all}
use Rattle.hosted_lines.specs.Groups.{GroupsBy}
use Rattle.hosted_lines.specs.Hosts.{HappensFor, groups_in, lines_in}
use Rattle.hosted_lines.specs.Lives.{spelled}
use Rattle.hosted_lines.specs.Working.{Does, Hosted, Turn, counted_of}
use Rattle.hosted_lines.proofs.CountLemmas.{by_none, by_then, groups_joined}
use Rattle.hosted_lines.proofs.EventLemmas.{spelled_more}
use Rattle.hosted_lines.proofs.RowLemmas.{lines_joined, row_then}

pub turn_none : (at : Hosted) → Turn at [] 0 [] at
turn_none at = record {
  events = [];
  split = append-nil at.ahead;
  frames = [];
  happened = (refl, refl);
  groups = by_none 0;
  text_is = refl;
  sent_is = sent_none at.sent;
  total_is = refl;
}

-- the lines of both
pub split_both : (ahead lines more first mid second behind : List (Option (List ℕ))) → ahead ++ lines ≡ first ++ mid
    → mid ++ more ≡ second ++ behind → ahead ++ (lines ++ more) ≡ (first ++ second) ++ behind
split_both ahead lines more first mid second behind one two =
    sym (append_assoc ahead lines more)
    ∙ ap (λ l. l ++ more) one
    ∙ append_assoc first mid more
    ∙ ap (λ l. first ++ l) two
    ∙ sym (append_assoc first second behind)

-- the groups of both
groups_then : (old mid new : Hosted) (lines more : List (Option (List ℕ))) (p q : ℕ) (text later : List ℕ) (one : Turn old lines p text mid)
    (two : Turn mid more q later new) → GroupsBy (lines_in (one.events ++ two.events)) (groups_in (one.events ++ two.events)) (p + q)
groups_then old mid new lines more p q text later one two =
    let L : List (Option (List ℕ)) → Type 0 = λ l. GroupsBy l (groups_in one.events + groups_in two.events) (p + q) in
    let N : ℕ → Type 0 = λ n. GroupsBy (lines_in (one.events ++ two.events)) n (p + q) in
    subst N (sym (groups_joined one.events two.events))
    (subst L (sym (lines_joined one.events two.events))
    (by_then (lines_in one.events) (lines_in two.events) (groups_in one.events) (groups_in two.events) p q one.groups two.groups))

pub turn_then : (old mid new : Hosted) (lines more : List (Option (List ℕ))) (p q : ℕ) (text later : List ℕ) → Turn old lines p text mid
    → Turn mid more q later new → Turn old (lines ++ more) (p + q) (text ++ later) new
turn_then old mid new lines more p q text later one two = record {
  events = one.events ++ two.events;
  split = split_both old.ahead lines more (lines_in one.events) mid.ahead (lines_in two.events) new.ahead one.split two.split
      ∙ ap (λ l. l ++ new.ahead) (sym (lines_joined one.events two.events));
  frames = one.frames ++ two.frames;
  happened = row_then HappensFor (counted_of old) (counted_of mid)
      (counted_of new) one.events two.events one.frames two.frames one.happened two.happened;
  groups = groups_then old mid new lines more p q text later one two;
  text_is = ap (λ t. t ++ later) one.text_is ∙ ap (λ t. spelled one.frames ++ t) two.text_is ∙ sym (spelled_more one.frames two.frames);
  sent_is = sent_more text later old.sent mid.sent new.sent one.sent_is two.sent_is;
  total_is = two.total_is ∙ one.total_is;
}

pauses_more : (it : Given) (later : List Given) → pauses_of it + pauses later ≡ pauses (it ∷ later)
pauses_more (Line at line) later = omega arith
pauses_more Pause later = omega arith
pauses_more End later = omega arith

pub turned : (given : List Given) (old : Hosted) (text : List ℕ) (new : Hosted) → Carries Does old given text new
    → Turn old (lines_all given) (pauses given) text new
turned [] old text new all =
    let T : List ℕ → Type 0 = λ t. Turn old [] 0 t new in
    let N : Hosted → Type 0 = λ h. Turn old [] 0 [] h in
    subst T (sym all.0) (subst N (sym all.1) (turn_none old))
turned (it ∷ later) old text new all =
    let T : List ℕ → Type 0 = λ t. Turn old (lines_of it ++ lines_all later) (pauses (it ∷ later)) t new in
    let N : ℕ → Type 0 = λ n. Turn old (lines_of it ++ lines_all later) n (all.first ++ all.more) new in
    subst T (sym all.texts) (subst N (pauses_more it later)
    (turn_then old all.between new (lines_of it) (lines_all later) (pauses_of it) (pauses later) all.first all.more all.does.0
    (turned later all.between all.more new all.others)))

-- behind a pause nothing is kept back
pub paused : (given : List Given) (old : Hosted) (text : List ℕ) (new : Hosted) → EndsPaused given → Carries Does old given text new
    → new.ahead ≡ []
paused given old text new p all =
    let C : List Given → Type 0 = λ l. Carries Does old l text new in
    let both = carries_both Does p.earlier (Pause ∷ []) old text new (subst C p.given_are all) in
    ap (λ (h : Hosted). h.ahead) both.others.others.1 ∙ both.others.does.1

pub none_both : (front rest : List (Option (List ℕ))) → front ++ rest ≡ [] → rest ≡ []
none_both [] rest none = none
none_both (line ∷ front) rest none = absurd (cc (none))

-- nor behind the end that comes then
pub ended : (earlier given : List Given) (old : Hosted) (text : List ℕ) (new : Hosted) → EndsPaused earlier → given ≡ earlier ++ End ∷ []
    → Carries Does old given text new → new.ahead ≡ []
ended earlier given old text new p is all =
    let C : List Given → Type 0 = λ l. Carries Does old l text new in
    let both = carries_both Does earlier (End ∷ []) old text new (subst C is all) in
    let none = paused earlier old both.begin both.between p both.begins in
    let turn = both.others.does.0 in
    ap (λ (h : Hosted). h.ahead) both.others.others.1
    ∙ none_both (lines_in turn.events) both.others.between.ahead (sym turn.split ∙ append-nil both.between.ahead ∙ none)
