-- What calls of a host are for its work on lines, over a book and whatever the pages are.
use Rattle.std.proofs.Common.{◌≡◌, ℕ, List, [], ◌++◌, Option, Result, Ok, Err, refl, ap, sym, subst}
use Rattle.std.specs.Prelude.{OnOk, IfErr, ⊤}
use Rattle.std.proofs.lemmas.List.{append-nil}
use Rattle.block_disk.specs.View.{View, sent_now}
use Rattle.block_disk.specs.SentLaws.{sent_none}
use Rattle.chart_service.proofs.Sending.{ok_so}
use Rattle.chart_service.specs.EditGroups.{SpellEdits}
use Rattle.chart_service.specs.State.{IsSound}
use Rattle.chart_service.specs.Stepping.{state_of}
use Rattle.line_runs.specs.Carried.{DoesOne}
use Rattle.line_runs.specs.Given.{Given}
use Rattle.line_runs.specs.Moments as runs
use Rattle.run_ends.specs.declared.ending.End.{End}
use Rattle.run_ends.specs.declared.ending.End.TheVariants.{NoMemory}
use Rattle.series_book.specs.declared.edits.Edit.{Edit}
use Rattle.series_book.specs.declared.one_series.Series.{Series}
use Rattle.served_lines.specs.Turning.{lines_of, pauses_of}
use Rattle.stored_book.specs.Standing.{StandsForBook}
use Rattle.zoom_session.specs.declared.session.Session.{Session}
use Rattle.hosted_lines.specs.Answers.{Answers, MayAnswerHost, Sends, Watched, followed_behind}
use Rattle.hosted_lines.specs.Blaming.{BlamesFirst, BlamesHost, OfDamaged}
use Rattle.hosted_lines.specs.Doing.{Held, held_with}
use Rattle.hosted_lines.specs.Groups.{GroupsBy}
use Rattle.hosted_lines.specs.Hosting.{DoesHost}
use Rattle.hosted_lines.specs.Standing.{Any, DoesFrom, IsNamed, LastsFrom, LeavesFrom, Named, Over, Stand, Stands, StopsFrom, watched_of}
use Rattle.hosted_lines.specs.Working.{Does, Hosted, IsHosted, KeepsNone}
use Rattle.hosted_lines.proofs.AnswersLemmas.{answers_none}
use Rattle.hosted_lines.proofs.WorkLemmas.{host_does, host_keeps, host_lacks, host_leaves, host_stops, none_kept, sound_of}

module _ (edits : List Edit) (told : Type 0) (view : View) (held : Held) (before : Option (List ℕ)) (it : Given) where
  -- ---- calls that settle what was kept back, and what is given behind it

  module _ {T : Type 0} (result : Result T End) (view' : View) (held' : Held) (now : Option (List ℕ))
      (does : (lines : List (Option (List ℕ))) → SpellEdits lines edits → (total : ℕ) (book : List Series) → told
      → StandsForBook view.image total book
      → IsSound (state_of book total held.sessions)
      → DoesHost {T = T} 1 (lines ++ lines_of it) total (held_with total book held) result view view' held' before now) where
    module _ (told' : Type 0) (more : told → told') (edits' : List Edit) (none : edits' ≡ []) where
      abbrev IsNow : Stand → Type 0
      IsNow stand = Stands stand edits' told' view' held' now

      over_one : (hosted : Hosted) → DoesOne Does (λ h. IsHosted h edits' told' view' held' now) hosted it before now
          → DoesOne DoesFrom IsNow (Over hosted) it before now
      over_one hosted d = record { text = d.text; behind = Over d.behind; done = d.done; stands = d.stands; sent = d.sent }

      any_one : (named : Named) → IsNamed named edits held
          → Sends MayAnswerHost followed_behind (named.ahead ++ lines_of it) (watched_of held) (watched_of held') before now
          → DoesOne DoesFrom IsNow (Any named) it before now
      any_one named is s =
          let front = named.ahead ++ lines_of it in
          let S : Watched → Type 0 = λ w. Answers MayAnswerHost followed_behind front w (watched_of held') s.text in
          record {
            text = s.text;
            behind = Any (record { ahead = []; watched = watched_of held' });
            done = (
              record { front = front; split = sym (append-nil front); answers = subst S (sym is.watched_are) s.answers },
              none_kept it,
            );
            stands = record { spell = subst (SpellEdits []) (sym none) tt; watched_are = refl };
            sent = s.sent;
          }

      pub stand_does : ((lines : List (Option (List ℕ))) → SpellEdits lines edits → GroupsBy (lines ++ lines_of it) 1 (pauses_of it))
          → OnOk result (held'.pending ≡ [])
          → ((lines : List (Option (List ℕ))) → SpellEdits lines edits
          → OnOk result (Sends MayAnswerHost followed_behind (lines ++ lines_of it) (watched_of held) (watched_of held') before now))
          → (stand : Stand) → Stands stand edits told view held before → OnOk result (DoesOne DoesFrom IsNow stand it before now)
      stand_does by idle sends (Any named) is =
          ok_so result (Sends MayAnswerHost followed_behind (named.ahead ++ lines_of it) (watched_of held) (watched_of held') before now)
          (DoesOne DoesFrom IsNow (Any named) it before now)
          (λ s. any_one named is s) (sends named.ahead is.spell)
      stand_does by idle sends (Over hosted) is =
          ok_so result (DoesOne Does (λ h. IsHosted h edits' told' view' held' now) hosted it before now)
          (DoesOne DoesFrom IsNow (Over hosted) it before now) (λ d. over_one hosted d)
          (host_does hosted edits told view held before is it view' held' now told' (more is.told_so) edits' none
          (by hosted.ahead is.spell) result idle
          (does hosted.ahead is.spell hosted.total hosted.book is.told_so is.stands (sound_of is)))

    pub stand_stops : (told' : Type 0)
        → ((lines : List (Option (List ℕ))) → SpellEdits lines edits
        → IfErr result (OfDamaged (BlamesFirst MayAnswerHost followed_behind BlamesHost (lines ++ lines_of it)
        (watched_of held) before now told' view'.size view'.image)))
        → (stand : Stand) → Stands stand edits told view held before
        → IfErr result (λ end. StopsFrom stand it told' view'.size view'.image before now view'.reads view'.syncs end)
    stand_stops told' blames (Any named) is =
        let W : Watched → Type 0 = λ w. IfErr result
        (OfDamaged (BlamesFirst MayAnswerHost followed_behind BlamesHost
        (named.ahead ++ lines_of it) w before now told' view'.size view'.image)) in
        subst W (sym is.watched_are) (blames named.ahead is.spell)
    stand_stops told' blames (Over hosted) is =
        host_stops hosted edits told view held before is it view' held' now result
        (does hosted.ahead is.spell hosted.total hosted.book is.told_so is.stands (sound_of is))

    pub stand_leaves : (stand : Stand) → Stands stand edits told view held before → LastsFrom stand
        → runs.Through view view' (LeavesFrom stand it (sent_now view))
    stand_leaves (Any named) is lasts = absurd lasts
    stand_leaves (Over hosted) is lasts =
        host_leaves hosted edits told view held before is it view' held' now lasts result
        (does hosted.ahead is.spell hosted.total hosted.book is.told_so is.stands (sound_of is))

  -- ---- what is given is kept back, or is nothing

  pub stand_keeps : (more : List (Option (List ℕ))) → lines_of it ≡ more → ((ahead : List (Option (List ℕ))) → KeepsNone it ahead)
      → (edits' : List Edit)
      → ((lines : List (Option (List ℕ))) → SpellEdits lines edits → SpellEdits (lines ++ more) edits') → (stand : Stand)
      → Stands stand edits told view held before
      → DoesOne DoesFrom (λ s. Stands s edits' told view held before) stand it before before
  stand_keeps more same keeps edits' spell (Any named) is =
      let S : Watched → Type 0 = λ w. Answers MayAnswerHost followed_behind [] w (watched_of held) [] in
      record {
        text = [];
        behind = Any (record { ahead = named.ahead ++ more; watched = watched_of held });
        done = (
          record {
            front = [];
            split = ap (λ l. named.ahead ++ l) same;
            answers = subst S (sym is.watched_are) (answers_none MayAnswerHost followed_behind (watched_of held));
          },
          keeps (named.ahead ++ more),
        );
        stands = record { spell = spell named.ahead is.spell; watched_are = refl };
        sent = sent_none before;
      }
  stand_keeps more same keeps edits' spell (Over hosted) is =
      let d = host_keeps hosted edits told view held before is it (hosted.ahead ++ more) edits' (ap (λ l. hosted.ahead ++ l) same)
      (keeps (hosted.ahead ++ more)) (spell hosted.ahead is.spell) in
      record { text = d.text; behind = Over d.behind; done = d.done; stands = d.stands; sent = d.sent }

  -- there was no memory
  pub stand_lacks : (stand : Stand) → Stands stand edits told view held before
      → StopsFrom stand it told view.size view.image before before view.reads view.syncs NoMemory
  stand_lacks (Any named) is = tt
  stand_lacks (Over hosted) is = host_lacks hosted edits told view held before is it
