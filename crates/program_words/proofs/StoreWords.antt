-- The words of a command tell by the first one whether it uses no store.
use Rattle.std.proofs.Common.{◌≡◌, ℕ, Bool, true, false, List, [], ◌∷◌, ◌++◌, refl, ap, if◌then◌else◌}
use Rattle.program_words.specs.CommandLine.{is_lone, before_lone, behind_lone, plain_words}
use Rattle.program_words.specs.Stores.{begins_storeless, is_storeless, names_storeless, uses_no_store}
use Rattle.program_words.specs.Words.{Spells}
use Rattle.program_words.specs.declared.words.Command.{Command}
use Rattle.program_words.specs.declared.words.Command.TheVariants.{Plot, Load, Demo, Run, Serve, Draw, Init, Check, ListSeries, Export}
use Rattle.program_words.specs.declared.words.Command.TheVariants.{Retain, Cover, Live, Host, Derive}

-- the first word is the command's own
pub storeless_of : (command : Command) (words : List (List ℕ)) → Spells command words → begins_storeless words ≡ uses_no_store command
storeless_of (Plot w h) words is = ap begins_storeless is.0
storeless_of (Load name) words is = ap begins_storeless is.0
storeless_of (Demo seed count) words is = ap begins_storeless is.0
storeless_of Run words is = ap begins_storeless is
storeless_of Serve words is = ap begins_storeless is
storeless_of Draw words is = ap begins_storeless is
storeless_of Init words is = ap begins_storeless is
storeless_of Check words is = ap begins_storeless is
storeless_of ListSeries words is = ap begins_storeless is
storeless_of (Export name window) words is = ap begins_storeless is.0
storeless_of Retain words is = ap begins_storeless is
storeless_of (Cover every) words is = ap begins_storeless is.0
storeless_of Live words is = ap begins_storeless is
storeless_of Host words is = ap begins_storeless is
storeless_of Derive words is = ap begins_storeless is

-- the first of the plain words is the first word, or the one behind two hyphens
pub begins_plain : (words : List (List ℕ)) → begins_storeless (plain_words words) ≡ names_storeless words
unfolding before_lone behind_lone
begins_plain [] = refl
begins_plain (word ∷ words) =
    elim (is_lone word) as (λ (x : Bool). begins_storeless
    ((if x then [] else word ∷ before_lone words) ++ (if x then words else behind_lone words)) ≡ (if x then begins_storeless words
    else is_storeless word)) [
      | true ↦ refl
      | false ↦ refl
    ]
