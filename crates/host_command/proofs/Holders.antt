-- What a client holds of an open session.
use Rattle.std.proofs.Common.{ℕ, ◌≡◌, ◌==◌, Bool, true, false, ◌||◌, List, [], ◌∷◌, map, Some, refl, ap, arith}
use Rattle.std.specs.Option.{option_map}
use Rattle.chart_client.specs.declared.holding.Holding.{Holding}
use Rattle.chart_client.specs.Holdings.{holding_of}
use Rattle.chart_grid.specs.declared.grid.Grid.{Grid}
use Rattle.drawn_replies.specs.Mirrors.{mirrored}
use Rattle.m4_groups.specs.Points.{pixels}
use Rattle.plain_chart.specs.Chart.{place, places}
use Rattle.plain_chart.specs.Samples.{sample_points}
use Rattle.plain_chart.specs.declared.sample.Sample.{Sample}
use Rattle.plain_chart.specs.declared.value_range.ValueRange.{ValueRange}
use Rattle.zoom_session.specs.Sessions.{is_open, session_of}
use Rattle.zoom_session.specs.declared.session.Session.{Session}

abbrev mirror : List Session → List Holding
mirror ss = map mirrored ss

-- the holding of a session mirrors it
held_by : (n : ℕ) (s : Session) (ss : List Session) (b : Bool) → (s.number == n) ≡ b
    → holding_of n (mirror ss) ≡ option_map mirrored (session_of n ss)
    → holding_of n (mirror (s ∷ ss)) ≡ option_map mirrored (session_of n (s ∷ ss))
held_by n s ss true is ih = rw is refl
held_by n s ss false is ih = rw is ih

pub held : (n : ℕ) (ss : List Session) → holding_of n (mirror ss) ≡ option_map mirrored (session_of n ss)
held n [] = refl
held n (s ∷ ss) = held_by n s ss (s.number == n) refl (held n ss)

-- a session that is open is found
or_true : (a b : Bool) → a ≡ false → (a || b) ≡ true → b ≡ true
or_true true b is h = absurd (grind (arith, is))
or_true false b is h = h

there_later : (n : ℕ) (s : Session) (ss : List Session) → (s.number == n) ≡ false → (t : Session) × (session_of n ss ≡ Some t)
    → (t : Session) × (session_of n (s ∷ ss) ≡ Some t)
there_later n s ss is found = (found.0, rw is found.1)

there_by : (n : ℕ) (s : Session) (ss : List Session) (b : Bool) → (s.number == n) ≡ b → is_open n (s ∷ ss) ≡ true
    → (is_open n ss ≡ true → (t : Session) × (session_of n ss ≡ Some t)) → (t : Session) × (session_of n (s ∷ ss) ≡ Some t)
there_by n s ss true is here ih = (s, rw is refl)
there_by n s ss false is here ih =
    there_later n s ss is (ih (or_true (s.number == n) (is_open n ss) is here))

pub there : (n : ℕ) (ss : List Session) → is_open n ss ≡ true → (t : Session) × (session_of n ss ≡ Some t)
there n [] here = absurd (grind (arith, here))
there n (s ∷ ss) here = there_by n s ss (s.number == n) refl here (there n ss)

-- ---- where points lie

-- the pixels of samples are their places
pub placed : (g : Grid) (range : ValueRange) (ss : List Sample) → pixels g range.lo range.hi (sample_points ss) ≡ places g range ss
placed g range [] = refl
placed g range (s ∷ ss) = ap (λ ps. place g range s ∷ ps) (placed g range ss)
