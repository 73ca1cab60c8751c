-- Which lines so far are answered, whatever the pages are.
use Rattle.std.proofs.Common.{◌≡◌, ◌∙◌, ℕ, List, [], ◌∷◌, ◌++◌, length, Option, Some, None, IfSome, refl, ap, sym, subst, inl}
use Rattle.std.specs.List.{filter, after_first}
use Rattle.std.proofs.lemmas.List.{append-nil}
use Rattle.std.proofs.lemmas.List.Elements.{filter-append}
use Rattle.block_disk.specs.View.{Image}
use Rattle.chart_service.specs.Blaming.{Blames}
use Rattle.chart_service.specs.Serving.{told, unless_empty}
use Rattle.chart_world.specs.FrontLaws.{Passed, passes}
use Rattle.chart_world.specs.Fronts.{BeginsWith, Gives, says, first_piece}
use Rattle.chart_world.specs.LineLaws.{lines_none, no_rest, piece_line, told_behind, told_more}
use Rattle.chart_world.specs.Lines.{is_line_feed, lines}
use Rattle.chart_world.specs.Reading.{Reading, told_lines, unread, unread_input}
use Rattle.live_service.specs.Kinds.{MayAnswerLive}
use Rattle.live_service.specs.Pushing.{followed_after}
use Rattle.run_ends.specs.declared.ending.End.{End}
use Rattle.run_ends.specs.declared.ending.End.TheVariants as ends
use Rattle.hosted_lines.specs.Answers.{Sends, Watched}
use Rattle.hosted_lines.specs.Blaming.{BlamesFirst, OfDamaged}
use Rattle.hosted_lines.proofs.AnswersLemmas.{sends_both, sends_none}
use Rattle.hosted_lines.proofs.BlameLemmas.{blames_before, blames_behind}

-- they are told by a front of the input, and the bytes left are behind it
pub record Answered (input : List ℕ) (bytes : Option (List ℕ)) (given : ℕ) (old new : Watched) (before now : Option (List ℕ)) : Type 0 where
  pub front : List ℕ
  pub rest : List ℕ
  pub begins : BeginsWith input front rest
  pub told_rest : bytes ≡ Some rest
  pub counted : given ≡ length front
  pub sends : Sends MayAnswerLive followed_after (told front) old new before now

answered_first : (input : List ℕ) (r : Reading) (at : Watched) (before : Option (List ℕ)) → r ≡ unread_input
    → Answered input (unread r (Some input)) r.given at at before before
answered_first input r at before fresh =
    let P : Reading → Type 0 = λ x. Answered input (unread x (Some input)) x.given at at before before in
    let L : List (Option (List ℕ)) → Type 0 = λ l. Sends MayAnswerLive followed_after l at at before before in
    subst P (sym fresh) (record {
      front = [];
      rest = input;
      begins = record { split = refl; whole = inl (inl refl) };
      told_rest = refl;
      counted = refl;
      sends = subst L (sym (ap (λ l. filter says l) lines_none)) (sends_none MayAnswerLive followed_after at before);
    })

module _ (input : List ℕ) (r r' : Reading) (left left' line : Option (List ℕ)) (gives : Gives r r' left left' line) (old mid new : Watched)
    (before between now : Option (List ℕ))
    (sends : Sends MayAnswerLive followed_after (unless_empty line) mid new between now)
    (g : Answered input (unread r left) r.given old mid before between) where
  it_passes : Passed input g.front g.rest (unread r' left') r'.given line
  it_passes = passes input g.front g.rest r r' left left' line g.told_rest g.counted g.begins gives

  answered_line : Answered input (unread r' left') r'.given old new before now
  answered_line =
      let piece = first_piece g.rest in
      let both : told (g.front ++ piece) ≡ told g.front ++ unless_empty line = told_more g.front piece line it_passes.whole
      (piece_line g.rest line it_passes.lines_are) in
      let L : List (Option (List ℕ)) → Type 0 = λ l. Sends MayAnswerLive followed_after l old new before now in
      record {
        front = g.front ++ piece;
        rest = after_first is_line_feed g.rest;
        begins = it_passes.begins;
        told_rest = it_passes.told_rest;
        counted = it_passes.counted;
        sends = subst L (sym both) (sends_both MayAnswerLive followed_after (told g.front)
            (unless_empty line) old mid new before between now g.sends sends);
      }

-- where no line is left, all are
answered_all : (input : List ℕ) (bytes : Option (List ℕ)) (given : ℕ) (old new : Watched) (before now : Option (List ℕ))
    → IfSome (told_lines bytes) (λ all. all ≡ [])
    → Answered input bytes given old new before now → Sends MayAnswerLive followed_after (told input) old new before now
answered_all input bytes given old new before now none g =
    let P : Option (List ℕ) → Type 0 = λ b. IfSome (told_lines b) (λ all. all ≡ []) in
    let rest_none : g.rest ≡ [] = no_rest g.rest (subst P g.told_rest none) in
    let all : g.front ≡ input = sym (g.begins.split ∙ ap (λ l. g.front ++ l) rest_none ∙ append-nil g.front) in
    let Q : List ℕ → Type 0 = λ i. Sends MayAnswerLive followed_after (told i) old new before now in
    subst Q all g.sends

-- ---- where the input is told

abbrev pub FarAnswered : Option (List ℕ) → Option (List ℕ) → ℕ → Watched → Watched → Option (List ℕ) → Option (List ℕ) → Type 0
FarAnswered o bytes given old new before now = IfSome o (λ input. Answered input bytes given old new before now)

pub far_answered_first : (o : Option (List ℕ)) (r : Reading) (at : Watched) (before : Option (List ℕ)) → r ≡ unread_input
    → FarAnswered o (unread r o) r.given at at before before
far_answered_first None r at before fresh = tt
far_answered_first (Some input) r at before fresh = answered_first input r at before fresh

pub far_answered_kept : (o bytes : Option (List ℕ)) (given : ℕ) (old new new' : Watched) (before now now' : Option (List ℕ)) → new' ≡ new
    → now' ≡ now
    → FarAnswered o bytes given old new before now → FarAnswered o bytes given old new' before now'
far_answered_kept o bytes given old new new' before now now' same unsent far =
    let S : Watched → Type 0 = λ s. FarAnswered o bytes given old s before now' in
    let N : Option (List ℕ) → Type 0 = λ n. FarAnswered o bytes given old new before n in
    subst S (sym same) (subst N (sym unsent) far)

pub far_answered_line : (o : Option (List ℕ)) (r r' : Reading) (left left' line : Option (List ℕ)) → Gives r r' left left' line
    → (old mid new : Watched) (before between now : Option (List ℕ))
    → Sends MayAnswerLive followed_after (unless_empty line) mid new between now
    → FarAnswered o (unread r left) r.given old mid before between → FarAnswered o (unread r' left') r'.given old new before now
far_answered_line None r r' left left' line gives old mid new before between now sends far = tt
far_answered_line (Some input) r r' left left' line gives old mid new before between now sends far = answered_line input r r' left left'
    line gives old mid new before between now sends far

pub answered_far : (o bytes : Option (List ℕ)) (given : ℕ) (old new : Watched) (before now : Option (List ℕ))
    → IfSome (told_lines bytes) (λ all. all ≡ []) → FarAnswered o bytes given old new before now
    → IfSome o (λ input. Sends MayAnswerLive followed_after (told input) old new before now)
answered_far None bytes given old new before now none far = tt
answered_far (Some input) bytes given old new before now none far = answered_all input bytes given old new before now none far

-- ---- a page that is called damaged

module _ (input : List ℕ) (r r' : Reading) (left left' line : Option (List ℕ)) (gives : Gives r r' left left' line) (old mid : Watched)
    (before between now : Option (List ℕ)) (is_told : Type 0) (count : ℕ) (image : Image) (page : ℕ)
    (blames : BlamesFirst MayAnswerLive followed_after Blames (unless_empty line) mid between now is_told count image page)
    (g : Answered input (unread r left) r.given old mid before between) where
  blamed_line : BlamesFirst MayAnswerLive followed_after Blames (told input) old before now is_told count image page
  blamed_line =
      let passed = passes input g.front g.rest r r' left left' line g.told_rest g.counted g.begins gives in
      let later = after_first is_line_feed g.rest in
      let parts : told input ≡ told g.front ++ (unless_empty line ++ told later) =
      ap told g.begins.split ∙ told_behind g.front g.rest passed.whole ∙ ap (λ l. told g.front ++ filter says l) passed.lines_are
      ∙ ap (λ l. told g.front ++ l) (filter-append says (line ∷ []) (lines later)) in
      let L : List (Option (List ℕ)) → Type 0 = λ l.
      BlamesFirst MayAnswerLive followed_after Blames l old before now is_told count image page in
      subst L (sym parts) (blames_behind MayAnswerLive followed_after Blames is_told count image page (told g.front)
      (unless_empty line ++ told later) old mid before between now g.sends
      (blames_before MayAnswerLive followed_after Blames is_told count image page (unless_empty line) (told later) mid between now blames))

pub far_blamed : (o : Option (List ℕ)) (r r' : Reading) (left left' line : Option (List ℕ)) → Gives r r' left left' line
    → (old mid : Watched) (before between now : Option (List ℕ)) (is_told : Type 0) (count : ℕ) (image : Image) (e : End)
    → OfDamaged (BlamesFirst MayAnswerLive followed_after Blames (unless_empty line) mid between now is_told count image) e
    → FarAnswered o (unread r left) r.given old mid before between
    → OfDamaged (λ page. IfSome o (λ input. BlamesFirst MayAnswerLive followed_after Blames
    (told input) old before now is_told count image page)) e
far_blamed None r r' left left' line gives old mid before between now is_told count image (ends.DamagedPage page) blames far = tt
far_blamed (Some input) r r' left left' line gives old mid before between now is_told count image (ends.DamagedPage page) blames far =
    blamed_line input r r' left left' line gives old mid before between now is_told count image page blames far
far_blamed o r r' left left' line gives old mid before between now is_told count image e blames far = tt
