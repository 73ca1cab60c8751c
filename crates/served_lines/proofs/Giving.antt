-- What was given whatever the pages are.
use Rattle.std.proofs.Common.{◌≡◌, ◌∙◌, ℕ, List, ◌++◌, Option, refl, sym, subst}
use Rattle.std.specs.Borrow.{GName}
use Rattle.block_disk.specs.View.{Image, View}
use Rattle.line_runs.specs.Carried.{DoesOne}
use Rattle.line_runs.specs.Given.{Given}
use Rattle.series_book.specs.declared.edits.Edit.{Edit}
use Rattle.zoom_session.specs.declared.session.Session.{Session}
use Rattle.zoom_session.specs.Sessions.{is_open}
use Rattle.chart_service.specs.Blaming.{BlamesEnd, GivesLast}
use Rattle.chart_service.specs.EditGroups.{SpellEdits}
use Rattle.chart_service.specs.Making.{Makes}
use Rattle.chart_service.specs.Naming.{GivesFirst}
use Rattle.chart_service.specs.declared.failure.AnswerEnd.{AnswerEnd}
use Rattle.served_lines.specs.Standing.{IsNamed, StandsSo}
use Rattle.served_lines.specs.Turning.{Any, Does, GivesText, KeepsNone, Named, StopsAt, lines_of}

module _ {S F : Type 0} (makes : Makes S F) (named : Named S) (name name' : GName) (kept kept' : S) (own sessions : List Session)
    (before now : Option (List ℕ)) (were : List Edit) (is : IsNamed named name kept were own) (same : name' ≡ name) where
  pub gives_does : (it : Given) (edits : List Edit) (told : Type 0) (new : View) (front ahead : List (Option (List ℕ)))
      → named.ahead ++ lines_of it ≡ front ++ ahead → SpellEdits ahead edits → KeepsNone it ahead
      → GivesLast makes front kept kept' own sessions before now
      → DoesOne (Does makes) (λ s. StandsSo s name' kept' edits told new sessions now) (Any named) it before now
  gives_does it edits told new front ahead split spells none given =
      let gives = given.gives in
      let next : Named S = record { name = name'; kept = kept'; ahead = ahead; sessions = sessions } in
      let from : Named S = record { name = name; kept = kept; ahead = named.ahead; sessions = own } in
      let one : GivesText makes from next front gives.text = λ earlier later sent. record {
        gives = record {
          frames = gives.frames;
          fits = gives.fits;
          answers = gives.answers;
          named = gives.named;
          open_now = gives.open_now;
          text = gives.text;
          made = gives.made;
          sent = sent;
        };
        lasts = given.lasts;
      } in
      let K : S → Type 0 = λ k. GivesText makes (record { name = name; kept = k; ahead = named.ahead; sessions = own }) next front
      gives.text in
      let O : List Session → Type 0 = λ o. GivesText makes
      (record { name = name; kept = named.kept; ahead = named.ahead; sessions = o }) next front gives.text in
      record {
        text = gives.text;
        behind = Any next;
        done = (
          record {
            same_reference = same ∙ sym is.name_is;
            front = front;
            split = split;
            gives = subst O (sym is.sessions_are) (subst K (sym is.kept_is) one);
          },
          none,
        );
        stands = record { name_is = refl; kept_is = refl; spells = spells; sessions_are = refl };
        sent = gives.sent;
      }

  pub gives_stops : (it : Given) (told : Type 0) (count : ℕ) (image : Image) (end : AnswerEnd F)
      → GivesFirst makes kept kept' (λ n. is_open n own) before now end
      → BlamesEnd makes (named.ahead ++ lines_of it) kept kept' own before now told count image end
      → StopsAt makes named it name' kept' told count image before now end
  gives_stops it told count image end gives blames =
      let B : S → Type 0 = λ k. BlamesEnd makes (named.ahead ++ lines_of it) k kept' own before now told count image end in
      let C : List Session → Type 0 = λ o. BlamesEnd makes
      (named.ahead ++ lines_of it) named.kept kept' o before now told count image end in
      let K : S → Type 0 = λ k. GivesFirst makes k kept' (λ n. is_open n own) before now end in
      let O : List Session → Type 0 = λ o. GivesFirst makes named.kept kept' (λ n. is_open n o) before now end in
      record {
        same_reference = same ∙ sym is.name_is;
        gives = subst O (sym is.sessions_are) (subst K (sym is.kept_is) gives);
        blames = subst C (sym is.sessions_are) (subst B (sym is.kept_is) blames);
      }
