-- What `clap` makes of all words.
use Rattle.std.proofs.Common.{Bool, true, false, List, [], ◌∷◌, ◌++◌, ◌≡◌, refl, sym, ap, subst, ◌∙◌, map, ◌||◌, fold, is_some}
use Rattle.std.proofs.Common.{if◌then◌else◌}
use Rattle.std.specs.Str.{IsUtf8}
use Rattle.std.specs.Prelude.{String, string_bytes, ⊤}
use Rattle.std.proofs.lemmas.Str.{IsUtf8-string_bytes}
use Rattle.std.specs.List.{list_any}
use Rattle.clap.specs.Kinds.{Kinds, or_else}
use Rattle.clap.specs.Walk.{Text, Walk, walked, settled, finished}
use Rattle.clap.specs.Simple.{App, built, entered, matches_of}
use Rattle.clap.specs.Faults.{walk_fault, entered_fault, settle_fault, defaults_fault, check_fault, fault_of}
use Rattle.clap.specs.declared.error.kind.ErrorKind.TheVariants as kind
use Rattle.clap.proofs.OnLiterals.{clap_on_literals}
use Rattle.program_words.specs.CommandLine.{is_lone, is_flag, before_lone, behind_lone, plain_words, has_flag}
use Rattle.program_words.proofs.WalkLemmas.{chart, rules, rows, at_none, at_more}
use Rattle.program_words.proofs.FaultLemmas.{unknown}
use Rattle.program_words.proofs.TurnLemmas.{shape, at_read, front_of, last_of, front_last, walked_trailing, walked_plain, walked_lone}
use Rattle.program_words.proofs.TurnLemmas.{trailing_free, plain_free, lone_free, flag_refused}

and_more : (seen : List Text) (w : Text) (ws : List Text) → (seen ++ w ∷ []) ++ ws ≡ seen ++ w ∷ ws
and_more [] w ws = refl
and_more (x ∷ xs) w ws = ap (λ (l : List Text). x ∷ l) (and_more xs w ws)

and_none : (seen : List Text) → seen ++ [] ≡ seen
and_none [] = refl
and_none (x ∷ xs) = ap (λ (l : List Text). x ∷ l) (and_none xs)

-- each word is text
abbrev pub AreTexts : List Text → Type 0
AreTexts [] = ⊤
AreTexts (w ∷ ws) = IsUtf8 w × AreTexts ws

pub are_texts : {Z : Type 0} (words : List (String Z)) → AreTexts (map string_bytes words)
are_texts [] = tt
are_texts (w ∷ ws) = (IsUtf8-string_bytes w, are_texts ws)

pub fault_trailing : (seen ws : List Text) → walk_fault shape [] (at_read seen true) ws ≡ []
unfolding walk_fault
fault_trailing seen [] = refl
fault_trailing seen (w ∷ ws) =
    let P : Kinds → Type 0 = λ kinds. or_else kinds (walk_fault shape [] (walked rules [] (at_read seen true) w) ws) ≡ [] in
    let Q : Walk → Type 0 = λ state. walk_fault shape [] state ws ≡ [] in
    subst P (sym (trailing_free seen w)) (subst Q (sym (walked_trailing seen w)) (fault_trailing (seen ++ w ∷ []) ws))

pub walk_trailing : (seen ws : List Text) → fold (walked rules []) (at_read seen true) ws ≡ at_read (seen ++ ws) true
walk_trailing seen [] = ap (λ (l : List Text). at_read l true) (sym (and_none seen))
walk_trailing seen (w ∷ ws) =
    ap (λ (state : Walk). fold (walked rules []) state ws) (walked_trailing seen w)
    ∙ walk_trailing (seen ++ w ∷ []) ws
    ∙ ap (λ (l : List Text). at_read l true) (and_more seen w ws)

-- the faults, by whether a word is a flag
abbrev fault_if : Bool → Kinds
fault_if flagged = if flagged then unknown else []

pub fault_plain : (seen ws : List Text) → AreTexts ws → walk_fault shape [] (at_read seen false) ws ≡ fault_if (has_flag ws)
unfolding walk_fault before_lone
fault_plain seen [] utf8 = refl
fault_plain seen (w ∷ ws) utf8 =
    let F : Bool → Type 0 = λ lone. walk_fault shape [] (at_read seen false) (w ∷ ws) ≡ fault_if
    (list_any is_flag (if lone then [] else w ∷ before_lone ws)) in
    let P : Kinds → Type 0 = λ kinds. or_else kinds (walk_fault shape [] (walked rules [] (at_read seen false) w) ws) ≡ [] in
    let Q : Walk → Type 0 = λ state. walk_fault shape [] state ws ≡ [] in
    let R : Kinds → Type 0 = λ kinds. or_else kinds (walk_fault shape [] (walked rules [] (at_read seen false) w) ws) ≡ unknown in
    let S : Kinds → Type 0 = λ kinds. or_else kinds (walk_fault shape [] (walked rules [] (at_read seen false) w) ws) ≡ fault_if
    (has_flag ws) in
    let T : Walk → Type 0 = λ state. walk_fault shape [] state ws ≡ fault_if (has_flag ws) in
    let G : Bool → Type 0 = λ flagged. walk_fault shape [] (at_read seen false) (w ∷ ws) ≡ fault_if
    (flagged || list_any is_flag (before_lone ws)) in
    subst F refl ((elim (is_lone w) as (λ (b : Bool). is_lone w ≡ b → F b) [
      | true ↦ λ lone. subst P (sym (lone_free seen w lone)) (subst Q (sym (walked_lone seen w lone)) (fault_trailing seen ws))
      | false ↦ λ lone. ((elim (is_flag w) as (λ (b : Bool). is_flag w ≡ b → G b) [
        | true ↦ λ flagged. subst R (sym (flag_refused seen w utf8.0 lone flagged)) refl
        | false ↦ λ plain. subst S (sym (plain_free seen w lone plain))
            (subst T (sym (walked_plain seen w lone plain)) (fault_plain (seen ++ w ∷ []) ws utf8.1))
      ]) refl)
    ]) refl)

-- behind the words the walk has read the command and its operands
pub record IsRead (seen words : List Text) (state : Walk) : Type 0 where
  pub trailing : Bool
  pub is : state ≡ at_read (seen ++ plain_words words) trailing

pub walk_plain : (seen ws : List Text) → has_flag ws ≡ false → IsRead seen ws (fold (walked rules []) (at_read seen false) ws)
unfolding before_lone behind_lone
walk_plain seen [] unflagged = record { trailing = false; is = ap (λ (l : List Text). at_read l false) (sym (and_none seen)) }
walk_plain seen (w ∷ ws) unflagged =
    let state = fold (walked rules []) (at_read seen false) (w ∷ ws) in
    let Flags : Bool → Type 0 = λ lone. list_any is_flag (if lone then [] else w ∷ before_lone ws) ≡ false in
    let Read : Bool → Type 0 = λ lone. (t : Bool) × (state ≡ at_read
    (seen ++ ((if lone then [] else w ∷ before_lone ws) ++ (if lone then ws else behind_lone ws))) t) in
    let read : Read (is_lone w) = (elim (is_lone w) as (λ (b : Bool). is_lone w ≡ b → Flags b → Read b) [
      | true ↦ λ lone none. (true, ap (λ (s : Walk). fold (walked rules []) s ws) (walked_lone seen w lone) ∙ walk_trailing seen ws)
      | false ↦ λ lone none. ((elim (is_flag w) as (λ (b : Bool). is_flag w ≡ b → (b || list_any is_flag (before_lone ws)) ≡ false
          → Read false) [
            | true ↦ λ flagged bad. absurd (let so : true ≡ false = bad in cc)
            | false ↦ λ plain rest.
                let later = walk_plain (seen ++ w ∷ []) ws rest in (
                  later.trailing,
                  ap (λ (s : Walk). fold (walked rules []) s ws) (walked_plain seen w lone plain) ∙ later.is
                      ∙ ap (λ (l : List Text). at_read l later.trailing) (and_more seen w (plain_words ws)),
                )
          ]) refl none)
    ]) refl unflagged in
    record { trailing = read.0; is = read.1 }

-- the faults and what is found, by the faults of the walk and where it ends
abbrev app : App
app = built chart

abbrev level : Kinds → Walk → Kinds
level faults end = or_else faults (or_else (entered_fault app end.stopped) (or_else (settle_fault rules false end.held)
    (or_else (defaults_fault (settled rules end.held).rows rules)
    (check_fault shape (finished rules end.held) (is_some (entered app end.stopped))))))

whole : (ws : List Text) → fault_of chart ws ≡ level (walk_fault shape [] (at_none false) ws) (fold (walked rules []) (at_none false) ws)
unfolding clap_on_literals
whole ws = refl

found : (ws : List Text) → matches_of chart ws ≡ finished rules (fold (walked rules []) (at_none false) ws).held
unfolding clap_on_literals
found ws = refl

more_level : (c : Text) (os : List Text) (o : Text) (t : Bool) → level [] (at_more c os o t) ≡ []
unfolding clap_on_literals
more_level c [] o t = refl
more_level c (x ∷ xs) o t = refl

read_level : (c : Text) (os : List Text) (t : Bool) → level [] (at_read (c ∷ os) t) ≡ []
unfolding clap_on_literals
read_level c [] t = refl
read_level c (x ∷ xs) t = more_level c (front_of x xs) (last_of x xs) t

none_level : (t : Bool) → level [] (at_read [] t) ≡ kind.MissingRequiredArgument ∷ []
unfolding clap_on_literals
none_level t = refl

more_found : (c : Text) (os : List Text) (o : Text) (t : Bool) → finished rules (at_more c os o t).held ≡ rows c (os ++ o ∷ [])
unfolding clap_on_literals
more_found c [] o t = refl
more_found c (x ∷ xs) o t = refl

read_found : (c : Text) (os : List Text) (t : Bool) → finished rules (at_read (c ∷ os) t).held ≡ rows c os
unfolding clap_on_literals
read_found c [] t = refl
read_found c (x ∷ xs) t = more_found c (front_of x xs) (last_of x xs) t ∙ ap (λ (l : List Text). rows c l) (front_last x xs)

-- a flag is refused
pub flag_fails : (ws : List Text) → AreTexts ws → has_flag ws ≡ true → fault_of chart ws ≡ unknown
flag_fails ws utf8 flagged =
    let P : Kinds → Type 0 = λ kinds. level kinds (fold (walked rules []) (at_none false) ws) ≡ unknown in
    let so : walk_fault shape [] (at_none false) ws ≡ unknown = fault_plain [] ws utf8 ∙ ap fault_if flagged in
    whole ws ∙ subst P (sym so) refl

-- no word at all is refused
pub none_fails : (ws : List Text) → AreTexts ws → has_flag ws ≡ false → plain_words ws ≡ []
    → fault_of chart ws ≡ kind.MissingRequiredArgument ∷ []
none_fails ws utf8 unflagged none =
    let read = walk_plain [] ws unflagged in
    let so : walk_fault shape [] (at_none false) ws ≡ [] = fault_plain [] ws utf8 ∙ ap fault_if unflagged in
    let P : Kinds → Type 0 = λ kinds. level kinds (fold (walked rules []) (at_none false) ws) ≡ kind.MissingRequiredArgument ∷ [] in
    let Q : Walk → Type 0 = λ state. level [] state ≡ kind.MissingRequiredArgument ∷ [] in
    let R : List Text → Type 0 = λ seen. level [] (at_read seen read.trailing) ≡ kind.MissingRequiredArgument ∷ [] in
    whole ws ∙ subst P (sym so) (subst Q (sym read.is) (subst R (sym none) (none_level read.trailing)))

-- a command and operands are taken
pub words_pass : (ws : List Text) (c : Text) (os : List Text) → AreTexts ws → has_flag ws ≡ false → plain_words ws ≡ c ∷ os
    → fault_of chart ws ≡ []
words_pass ws c os utf8 unflagged some =
    let read = walk_plain [] ws unflagged in
    let so : walk_fault shape [] (at_none false) ws ≡ [] = fault_plain [] ws utf8 ∙ ap fault_if unflagged in
    let P : Kinds → Type 0 = λ kinds. level kinds (fold (walked rules []) (at_none false) ws) ≡ [] in
    let Q : Walk → Type 0 = λ state. level [] state ≡ [] in
    let R : List Text → Type 0 = λ seen. level [] (at_read seen read.trailing) ≡ [] in
    whole ws ∙ subst P (sym so) (subst Q (sym read.is) (subst R (sym some) (read_level c os read.trailing)))

-- and found
pub words_found : (ws : List Text) (c : Text) (os : List Text) → has_flag ws ≡ false → plain_words ws ≡ c ∷ os
    → matches_of chart ws ≡ rows c os
words_found ws c os unflagged some =
    let read = walk_plain [] ws unflagged in
    let Q : Walk → Type 0 = λ state. finished rules state.held ≡ rows c os in
    let R : List Text → Type 0 = λ seen. finished rules (at_read seen read.trailing).held ≡ rows c os in
    found ws ∙ subst Q (sym read.is) (subst R (sym some) (read_found c os read.trailing))
