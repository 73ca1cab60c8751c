-- How often the lines so far have synced the disk.
use Rattle.std.proofs.Common.{◌≡◌, ◌∙◌, ℕ, ◌+◌, ◌*◌, ◌≤◌, List, [], ◌++◌, length, Option, Some, None, IfSome, refl, ap, sym, subst, inl}
use Rattle.std.proofs.Common.{arith, length-append}
use Rattle.std.specs.List.{after_first}
use Rattle.chart_service.proofs.SyncLemmas.{edits_joined}
use Rattle.chart_service.specs.Serving.{told, unless_empty}
use Rattle.chart_service.specs.Syncing.{edits_of}
use Rattle.chart_world.specs.FrontLaws.{Passed, passes}
use Rattle.chart_world.specs.Fronts.{BeginsWith, Gives, first_piece}
use Rattle.chart_world.specs.LineLaws.{piece_line, told_more}
use Rattle.chart_world.specs.Lines.{is_line_feed}
use Rattle.chart_world.specs.Reading.{Reading, unread, unread_input}
use Rattle.hosted_lines.proofs.SyncLemmas.{none_syncs}
use Rattle.live_command.specs.Syncs.{SyncsLines}

-- the lines so far have synced so often, from one number to another
pub record Synced (input : List ℕ) (bytes : Option (List ℕ)) (given from to : ℕ) : Type 0 where
  pub front : List ℕ
  pub rest : List ℕ
  pub begins : BeginsWith input front rest
  pub told_rest : bytes ≡ Some rest
  pub counted : given ≡ length front
  pub few : to ≤ from + 4 * length (edits_of (told front))

synced_first : (input : List ℕ) (r : Reading) (count : ℕ) → r ≡ unread_input → Synced input (unread r (Some input)) r.given count count
synced_first input r count fresh =
    let P : Reading → Type 0 = λ x. Synced input (unread x (Some input)) x.given count count in
    subst P (sym fresh) (record {
      front = [];
      rest = input;
      begins = record { split = refl; whole = inl (inl refl) };
      told_rest = refl;
      counted = refl;
      few = none_syncs (edits_of (told [])) count count refl;
    })

module _ (input : List ℕ) (r r' : Reading) (left left' line : Option (List ℕ)) (gives : Gives r r' left left' line) (from between to : ℕ)
    (few : to ≤ between + 4 * length (edits_of (unless_empty line))) (g : Synced input (unread r left) r.given from between) where
  it_passes : Passed input g.front g.rest (unread r' left') r'.given line
  it_passes = passes input g.front g.rest r r' left left' line g.told_rest g.counted g.begins gives

  edits_all : edits_of (told (g.front ++ first_piece g.rest)) ≡ edits_of (told g.front) ++ edits_of (unless_empty line)
  edits_all = ap edits_of (told_more g.front (first_piece g.rest) line it_passes.whole (piece_line g.rest line it_passes.lines_are))
      ∙ edits_joined (told g.front) (unless_empty line)

  synced_line : Synced input (unread r' left') r'.given from to
  synced_line = record {
    front = g.front ++ first_piece g.rest;
    rest = after_first is_line_feed g.rest;
    begins = it_passes.begins;
    told_rest = it_passes.told_rest;
    counted = it_passes.counted;
    few = omega (arith, g.few, few, ap length edits_all, length-append (edits_of (told g.front)) (edits_of (unless_empty line)));
  }

-- ---- where the input is told

abbrev pub FarSynced : Option (List ℕ) → Option (List ℕ) → ℕ → ℕ → ℕ → Type 0
FarSynced o bytes given from to = IfSome o (λ input. Synced input bytes given from to)

pub far_synced_first : (o : Option (List ℕ)) (r : Reading) (count : ℕ) → r ≡ unread_input → FarSynced o (unread r o) r.given count count
far_synced_first None r count fresh = tt
far_synced_first (Some input) r count fresh = synced_first input r count fresh

pub far_synced_kept : (o bytes : Option (List ℕ)) (given from to to' : ℕ) → to' ≡ to → FarSynced o bytes given from to
    → FarSynced o bytes given from to'
far_synced_kept o bytes given from to to' same far = let P : ℕ → Type 0 = λ n. FarSynced o bytes given from n in subst P (sym same) far

pub far_synced_line : (o : Option (List ℕ)) (r r' : Reading) (left left' line : Option (List ℕ)) → Gives r r' left left' line
    → (from between to : ℕ) → to ≤ between + 4 * length (edits_of (unless_empty line)) → FarSynced o (unread r left) r.given from between
    → FarSynced o (unread r' left') r'.given from to
far_synced_line None r r' left left' line gives from between to few far = tt
far_synced_line (Some input) r r' left left' line gives from between to few far = synced_line input r r' left left' line gives from between
    to few far

pub syncs_far : (o bytes : Option (List ℕ)) (given from to : ℕ) → FarSynced o bytes given from to
    → IfSome o (λ input. SyncsLines input from to)
syncs_far None bytes given from to far = tt
syncs_far (Some input) bytes given from to far = record { front = far.front; rest = far.rest; begins = far.begins; few = far.few }

pub nothing_synced : (input : List ℕ) (count : ℕ) → SyncsLines input count count
nothing_synced input count = record {
  front = [];
  rest = input;
  begins = record { split = refl; whole = inl (inl refl) };
  few = none_syncs (edits_of (told [])) count count refl;
}

pub syncs_nothing : (o : Option (List ℕ)) (count : ℕ) → IfSome o (λ input. SyncsLines input count count)
syncs_nothing None count = tt
syncs_nothing (Some input) count = nothing_synced input count
