-- What is given does nothing.
use Rattle.std.proofs.Common.{◌≡◌, ◌∙◌, ℕ, List, [], ◌∷◌, ◌++◌, length, Option, Some, refl, ap, sym, subst, arith}
use Rattle.std.proofs.lemmas.List.{append-nil}
use Rattle.std.specs.Borrow.{GName}
use Rattle.block_disk.specs.SentLaws.{sent_none}
use Rattle.block_disk.specs.View.{View}
use Rattle.line_runs.specs.Carried.{DoesOne}
use Rattle.line_runs.specs.Given.{End, Line}
use Rattle.series_book.specs.declared.edits.Edit.{Edit}
use Rattle.zoom_session.specs.declared.session.Session.{Session}
use Rattle.chart_service.specs.Making.{Makes}
use Rattle.chart_service.specs.Serving.{unless_empty}
use Rattle.chart_service.proofs.Blaming.{last_none}
use Rattle.served_lines.specs.Standing.{StandsSo}
use Rattle.served_lines.specs.Turning.{Any, Does, Over, Stand, Turn}
use Rattle.served_lines.proofs.Giving.{gives_does}
use Rattle.served_lines.proofs.TurnLemmas.{turn_none}

pub none_said : (bytes : List ℕ) → length bytes ≡ 0 → unless_empty (Some bytes) ≡ []
none_said [] none = refl
none_said (byte ∷ bytes) none = absurd (omega (arith, none))

module _ {S F : Type 0} (makes : Makes S F) (name : GName) (kept : S) (edits : List Edit) (told : Type 0) (at : View) (own : List Session)
    (before : Option (List ℕ)) where
  -- an empty line
  pub empty_does : (stand : Stand S) (position : ℕ) (bytes : List ℕ) → length bytes ≡ 0 → StandsSo stand name kept edits told at own before
      → DoesOne (Does makes) (λ s. StandsSo s name kept edits told at own before) stand (Line position (Some bytes)) before before
  empty_does (Any named) position bytes none is =
      gives_does makes named name name kept kept own own before before edits is refl
      (Line position (Some bytes)) edits told at [] named.ahead
      (ap (λ (l : List (Option (List ℕ))). named.ahead ++ l) (none_said bytes none) ∙ append-nil named.ahead) is.spells tt
      (last_none makes kept own before)
  empty_does (Over held) position bytes none is =
      let T : List (Option (List ℕ)) → Type 0 = λ l. Turn makes held held l 0 [] in
      record {
        text = [];
        behind = Over held;
        done = (subst T (sym (none_said bytes none)) (turn_none makes held), tt);
        stands = is;
        sent = sent_none before;
      }

  -- the end
  pub end_does : (stand : Stand S) → StandsSo stand name kept edits told at own before
      → DoesOne (Does makes) (λ s. StandsSo s name kept edits told at own before) stand End before before
  end_does (Any named) is =
      gives_does makes named name name kept kept own own before before edits is refl End edits told at [] named.ahead
      (append-nil named.ahead) is.spells tt
      (last_none makes kept own before)
  end_does (Over held) is =
      record { text = []; behind = Over held; done = (turn_none makes held, tt); stands = is; sent = sent_none before }
