-- What is given one after the other is one turn.
use Rattle.std.proofs.Common.{◌≡◌, ◌∙◌, ℕ, ◌+◌, List, [], ◌∷◌, ◌++◌, length, map, Option, None, Some, refl, ap, sym, subst, arith}
use Rattle.std.specs.List.{filter}
use Rattle.std.proofs.lemmas.List.{append-nil}
use Rattle.chart_world.specs.Fronts.{says}
use Rattle.chart_world.specs.Lines.{lines, split_lines, text_of}
use Rattle.line_runs.specs.Carried.{Carries}
use Rattle.line_runs.specs.CarriedLaws.{carries_both}
use Rattle.line_runs.specs.Given.{EndsPaused, Given, Line, Pause, End, given_from, given_lines, pauses, unpaused}
use Rattle.chart_service.specs.Making.{Makes}
use Rattle.chart_service.specs.Serving.{told, unless_empty}
use Rattle.served_lines.specs.Turning.{Any, Does, Held, Over, Stand, Turn, lines_of, pauses_of}
use Rattle.served_lines.proofs.TurnLemmas.{turn_none, turn_then}

-- all that is given
abbrev pub lines_all : List Given → List (Option (List ℕ))
lines_all [] = []
lines_all (it ∷ later) = lines_of it ++ lines_all later

pauses_more : (it : Given) (later : List Given) → pauses_of it + pauses later ≡ pauses (it ∷ later)
pauses_more (Line at line) later = omega arith
pauses_more Pause later = omega arith
pauses_more End later = omega arith

all_unpaused : (given : List Given) → lines_all (unpaused given) ≡ lines_all given
all_unpaused [] = refl
all_unpaused (Line at line ∷ later) = ap (λ l. unless_empty line ++ l) (all_unpaused later)
all_unpaused (Pause ∷ later) = all_unpaused later
all_unpaused (End ∷ later) = all_unpaused later

pub said_first : (line : Option (List ℕ)) (later : List (Option (List ℕ)))
    → unless_empty line ++ filter says later ≡ filter says (line ∷ later)
said_first None later = refl
said_first (Some []) later = refl
said_first (Some (byte ∷ bytes)) later = refl

all_from : (at : ℕ) (parts : List (List ℕ)) → lines_all (given_from at parts) ≡ filter says (map text_of parts)
all_from at [] = refl
all_from at (part ∷ parts) =
    ap (λ l. unless_empty (text_of part) ++ l) (all_from (at + length part + 1) parts) ∙ said_first (text_of part) (map text_of parts)

all_lines : (front : List ℕ) → lines_all (given_lines front) ≡ told front
unfolding lines given_lines
all_lines front = all_from 0 (split_lines front)

-- they are the lines that say something
pub told_are : (given : List Given) (front : List ℕ) → unpaused given ≡ given_lines front → lines_all given ≡ told front
told_are given front are = sym (all_unpaused given) ∙ ap lines_all are ∙ all_lines front

pub all_ended : (earlier : List Given) → lines_all (earlier ++ End ∷ []) ≡ lines_all earlier
all_ended [] = refl
all_ended (Line at line ∷ later) = ap (λ l. unless_empty line ++ l) (all_ended later)
all_ended (Pause ∷ later) = all_ended later
all_ended (End ∷ later) = all_ended later

module _ {S F : Type 0} (makes : Makes S F) where
  -- what stands behind them over a book
  pub record Turned (old : Held S) (given : List Given) (text : List ℕ) (stand : Stand S) : Type 0 where
    pub new : Held S
    pub is : stand ≡ Over new
    pub turn : Turn makes old new (lines_all given) (pauses given) text

  pub turned : (given : List Given) (old : Held S) (text : List ℕ) (stand : Stand S) → Carries (Does makes) (Over old) given text stand
      → Turned old given text stand
  turned [] old text stand all =
      let T : List ℕ → Type 0 = λ t. Turn makes old old [] 0 t in
      record { new = old; is = all.1; turn = subst T (sym all.0) (turn_none makes old) }
  turned (it ∷ later) old text stand all =
      by all.between all.does (λ mid same. turned later mid all.more stand
      (let C : Stand S → Type 0 = λ b. Carries (Does makes) b later all.more stand in subst C same all.others)) refl
    where
      by : (between : Stand S) → Does makes (Over old) it all.first between
          → ((mid : Held S) → all.between ≡ Over mid → Turned mid later all.more stand) → all.between ≡ between
          → Turned old (it ∷ later) text stand
      by (Any named) does others same = absurd does
      by (Over mid) does others same =
          let rest = others mid same in
          let both = turn_then makes old mid rest.new (lines_of it) (lines_all later) (pauses_of it) (pauses later) all.first all.more
          does.0 rest.turn in
          let P : ℕ → Type 0 = λ p. Turn makes old rest.new (lines_of it ++ lines_all later) p (all.first ++ all.more) in
          let T : List ℕ → Type 0 = λ t. Turn makes old rest.new (lines_of it ++ lines_all later) (pauses (it ∷ later)) t in
          record { new = rest.new; is = rest.is; turn = subst T (sym all.texts) (subst P (pauses_more it later) both) }

  over_one : (old new : Held S) → ◌≡◌ {A = Stand S} (Over old) (Over new) → old ≡ new
  over_one old new same = cc

  pause_none : (new mid : Held S) (text : List ℕ) (between : Stand S) → Does makes (Over mid) Pause text between → between ≡ Over new
      → new.ahead ≡ []
  pause_none new mid text (Any named) does same = absurd does
  pause_none new mid text (Over next) does same = sym (ap (λ h. h.ahead) (over_one next new same)) ∙ does.1

  -- behind a pause nothing is kept back
  pub paused : (given : List Given) (old : Held S) (text : List ℕ) (stand : Stand S) → EndsPaused given
      → Carries (Does makes) (Over old) given text stand → (t : Turned old given text stand) × (t.new.ahead ≡ [])
  paused given old text stand p all =
      let C : List Given → Type 0 = λ l. Carries (Does makes) (Over old) l text stand in
      let both = carries_both (Does makes) p.earlier (Pause ∷ []) (Over old) text stand (subst C p.given_are all) in
      let t = turned given old text stand all in
      let first = turned p.earlier old both.begin both.between both.begins in
      let D : Stand S → Type 0 = λ b. Does makes b Pause both.others.first both.others.between in (
        t,
        pause_none t.new first.new both.others.first both.others.between (subst D first.is both.others.does) (sym both.others.others.1
            ∙ t.is),
      )

  none_both : (front rest : List (Option (List ℕ))) → front ++ rest ≡ [] → rest ≡ []
  none_both [] rest none = none
  none_both (line ∷ front) rest none = absurd (cc (none))

  end_none : (new mid : Held S) (text : List ℕ) → mid.ahead ≡ [] → (between : Stand S) → Does makes (Over mid) End text between
      → between ≡ Over new
      → new.ahead ≡ []
  end_none new mid text none (Any named) does same = absurd does
  end_none new mid text none (Over next) does same =
      sym (ap (λ h. h.ahead) (over_one next new same))
      ∙ none_both does.0.answered.front next.ahead (sym does.0.answered.split ∙ append-nil mid.ahead ∙ none)

  -- nor behind the end that comes then
  pub ended : (earlier given : List Given) (old : Held S) (text : List ℕ) (stand : Stand S) → EndsPaused earlier
      → given ≡ earlier ++ End ∷ []
      → Carries (Does makes) (Over old) given text stand → (t : Turned old given text stand) × (t.new.ahead ≡ [])
  ended earlier given old text stand p is all =
      let C : List Given → Type 0 = λ l. Carries (Does makes) (Over old) l text stand in
      let both = carries_both (Does makes) earlier (End ∷ []) (Over old) text stand (subst C is all) in
      let t = turned given old text stand all in
      let first = paused earlier old both.begin both.between p both.begins in
      let D : Stand S → Type 0 = λ b. Does makes b End both.others.first both.others.between in (
        t,
        end_none t.new first.0.new both.others.first first.1 both.others.between (subst D first.0.is both.others.does) (sym
            both.others.others.1 ∙ t.is),
      )
