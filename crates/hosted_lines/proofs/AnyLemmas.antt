-- All lines of an input are answered, whatever the pages are.
use Rattle.std.proofs.Common.{◌≡◌, ◌∙◌, ℕ, List, [], ◌∷◌, ◌++◌, Option, None, Some, IfSome, Result, Ok, Err, refl, ap, sym, subst}
use Rattle.std.specs.Prelude.{OnOk}
use Rattle.std.proofs.lemmas.List.{append-nil}
use Rattle.block_disk.specs.View.{View}
use Rattle.chart_service.specs.Serving.{told}
use Rattle.line_runs.specs.Carried.{Carries}
use Rattle.line_runs.specs.CarriedLaws.{carries_both}
use Rattle.line_runs.specs.Given.{EndsPaused, Given, Pause, End}
use Rattle.line_runs.specs.Runs.{AreAll, Runs}
use Rattle.series_book.specs.declared.edits.Edit.{Edit}
use Rattle.served_lines.specs.Turning.{lines_of}
use Rattle.served_lines.proofs.Carried.{all_ended, lines_all, told_are}
use Rattle.zoom_session.specs.declared.session.Session.{Session}
use Rattle.hosted_lines.specs.Answers.{Answers, MayAnswerHost, Sends, Watched, followed_behind}
use Rattle.hosted_lines.specs.Doing.{Held}
use Rattle.hosted_lines.specs.Standing.{AnswersSome, Any, DoesFrom, IsNamed, Named, Over, Stand, Stands, watched_of}
use Rattle.hosted_lines.proofs.AnswersLemmas.{answers_none, answers_then}
use Rattle.hosted_lines.proofs.TurnLemmas.{none_both, split_both}

some_none : (at : Named) → AnswersSome at [] [] at
some_none at = record { front = []; split = append-nil at.ahead; answers = answers_none MayAnswerHost followed_behind at.watched }

some_then : (old mid new : Named) (lines more : List (Option (List ℕ))) (text later : List ℕ) → AnswersSome old lines text mid
    → AnswersSome mid more later new
    → AnswersSome old (lines ++ more) (text ++ later) new
some_then old mid new lines more text later one two = record {
  front = one.front ++ two.front;
  split = split_both old.ahead lines more one.front mid.ahead two.front new.ahead one.split two.split;
  answers = answers_then MayAnswerHost followed_behind one.front two.front old.watched mid.watched new.watched text later one.answers
      two.answers;
}

pub record Answered (old : Named) (given : List Given) (text : List ℕ) (stand : Stand) : Type 0 where
  pub new : Named
  pub is : stand ≡ Any new
  pub some : AnswersSome old (lines_all given) text new

pub answered : (given : List Given) (old : Named) (text : List ℕ) (stand : Stand) → Carries DoesFrom (Any old) given text stand
    → Answered old given text stand
answered [] old text stand all =
    let T : List ℕ → Type 0 = λ t. AnswersSome old [] t old in record { new = old; is = all.1; some = subst T (sym all.0) (some_none old) }
answered (it ∷ later) old text stand all =
    by all.between all.does (λ mid same. answered later mid all.more stand (let C : Stand
    → Type 0 = λ b. Carries DoesFrom b later all.more stand in subst C same all.others)) refl
  where
    by : (between : Stand) → DoesFrom (Any old) it all.first between
        → ((mid : Named) → all.between ≡ Any mid → Answered mid later all.more stand) → all.between ≡ between
        → Answered old (it ∷ later) text stand
    by (Any mid) does others same =
        let rest = others mid same in
        let T : List ℕ → Type 0 = λ t. AnswersSome old (lines_of it ++ lines_all later) t rest.new in
        record {
          new = rest.new;
          is = rest.is;
          some = subst T (sym all.texts)
              (some_then old mid rest.new (lines_of it) (lines_all later) all.first all.more does.0 rest.some);
        }
    by (Over hosted) does others same = absurd does

-- ---- behind a pause nothing is kept back

any_same : (old new : Named) → ◌≡◌ {A = Stand} (Any old) (Any new) → old ≡ new
any_same old new same = cc

pause_none : (new mid : Named) (text : List ℕ) (between : Stand) → DoesFrom (Any mid) Pause text between → between ≡ Any new
    → new.ahead ≡ []
pause_none new mid text (Any next) does same = sym (ap (λ (n : Named). n.ahead) (any_same next new same)) ∙ does.1
pause_none new mid text (Over hosted) does same = absurd does

paused : (given : List Given) (old : Named) (text : List ℕ) (stand : Stand) → EndsPaused given → Carries DoesFrom (Any old) given text stand
    → (t : Answered old given text stand) × (t.new.ahead ≡ [])
paused given old text stand p all =
    let C : List Given → Type 0 = λ l. Carries DoesFrom (Any old) l text stand in
    let both = carries_both DoesFrom p.earlier (Pause ∷ []) (Any old) text stand (subst C p.given_are all) in
    let t = answered given old text stand all in
    let first = answered p.earlier old both.begin both.between both.begins in
    let D : Stand → Type 0 = λ b. DoesFrom b Pause both.others.first both.others.between in (
      t,
      pause_none t.new first.new both.others.first both.others.between (subst D first.is both.others.does) (sym both.others.others.1
          ∙ t.is),
    )

end_none : (new mid : Named) (text : List ℕ) → mid.ahead ≡ [] → (between : Stand) → DoesFrom (Any mid) End text between → between ≡ Any new
    → new.ahead ≡ []
end_none new mid text none (Any next) does same =
    sym (ap (λ (n : Named). n.ahead) (any_same next new same))
    ∙ none_both does.0.front next.ahead (sym does.0.split ∙ append-nil mid.ahead ∙ none)
end_none new mid text none (Over hosted) does same = absurd does

ended : (earlier given : List Given) (old : Named) (text : List ℕ) (stand : Stand) → EndsPaused earlier → given ≡ earlier ++ End ∷ []
    → Carries DoesFrom (Any old) given text stand
    → (t : Answered old given text stand) × (t.new.ahead ≡ [])
ended earlier given old text stand p is all =
    let C : List Given → Type 0 = λ l. Carries DoesFrom (Any old) l text stand in
    let both = carries_both DoesFrom earlier (End ∷ []) (Any old) text stand (subst C is all) in
    let t = answered given old text stand all in
    let first = paused earlier old both.begin both.between p both.begins in
    let D : Stand → Type 0 = λ b. DoesFrom b End both.others.first both.others.between in (
      t,
      end_none t.new first.0.new both.others.first first.1 both.others.between (subst D first.0.is both.others.does)
          (sym both.others.others.1 ∙ t.is),
    )

-- ---- all lines

module _ (watched : Watched) (edits : List Edit) (told_now : Type 0) (view : View) (held : Held) (before now : Option (List ℕ))
    (pieces pieces' : ℕ) where
  abbrev IsNow : Stand → Type 0
  IsNow stand = Stands stand edits told_now view held now

  abbrev begin : Named
  begin = record { ahead = []; watched = watched }

  sends_all : (input : List ℕ) → Runs DoesFrom (Any begin) (AreAll pieces pieces') IsNow (Some input) before now
      → Sends MayAnswerHost followed_behind (told input) watched (watched_of held) before now
  sends_all input all =
      let done = all.done in
      let t = ended all.are.earlier done.given begin done.text done.behind all.are.paused all.are.given_are done.carries in
      let new = t.0.new in
      let some = t.0.some in
      let are : lines_all done.given ≡ told input = ap lines_all all.are.given_are ∙ all_ended all.are.earlier
      ∙ told_are all.are.earlier input all.are.lines_are in
      let front : some.front ≡ told input = sym (append-nil some.front) ∙ ap (λ l. some.front ++ l) (sym t.1) ∙ sym some.split ∙ are in
      let stands : IsNamed new edits held = subst IsNow t.0.is all.stands in
      let L : List (Option (List ℕ)) → Type 0 = λ l. Answers MayAnswerHost followed_behind l watched (watched_of held) done.text in
      let S : Watched → Type 0 = λ w. Answers MayAnswerHost followed_behind some.front watched w done.text in
      record { text = done.text; answers = subst L front (subst S stands.watched_are some.answers); sent = all.sent }

  pub all_sends : {T E : Type 0} (answer : Result T E) (input : Option (List ℕ))
      → OnOk answer (Runs DoesFrom (Any begin) (AreAll pieces pieces') IsNow input before now)
      → OnOk answer (IfSome input (λ bytes. Sends MayAnswerHost followed_behind (told bytes) watched (watched_of held) before now))
  all_sends {T} {E} (Ok v) None all = tt
  all_sends {T} {E} (Ok v) (Some input) all = sends_all input all
  all_sends {T} {E} (Err e) input all = tt
