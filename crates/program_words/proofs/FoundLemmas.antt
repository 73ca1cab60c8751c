-- What a parse gives, by what `clap` makes of the words.
use Rattle.std.proofs.Common.{Bool, true, false, List, [], ◌∷◌, Some, ◌≡◌, inl, inr, refl, sym, ap, subst, ◌∙◌, codes, Result, Ok, Err}
use Rattle.std.proofs.Common.{IfOk, IfErr}
use Rattle.clap.specs.Words.{found_of, kind_of}
use Rattle.clap.specs.Kinds.{FailsBy, HasKind}
use Rattle.clap.specs.Walk.{Row, Text, rows_of, first_of, all_of}
use Rattle.clap.specs.Simple.{matches_of}
use Rattle.clap.specs.Faults.{fault_of}
use Rattle.clap.specs.declared.error.Error.{Error}
use Rattle.clap.specs.declared.error.kind.ErrorKind.TheVariants as kind
use Rattle.clap.specs.declared.parser.matches.ArgMatches.{ArgMatches}
use Rattle.program_words.specs.CommandLine.{plain_words, has_flag}
use Rattle.program_words.specs.Found.{IsFound, Fails, found_operands}
use Rattle.program_words.proofs.WalkLemmas.{chart, rows}
use Rattle.program_words.proofs.FaultLemmas.{unknown}
use Rattle.program_words.proofs.ReadLemmas.{AreTexts, flag_fails, none_fails, words_pass, words_found}

command_in : (c : Text) (os : List Text) → first_of (codes "command") (rows c os) ≡ Some c
command_in c [] = refl
command_in c (o ∷ os) = refl

operands_in : (c : Text) (os : List Text) → all_of (codes "operand") (rows c os) ≡ found_operands os
operands_in c [] = refl
operands_in c (o ∷ os) = refl

by_words : (ws : List Text) (found : List Row) → AreTexts ws → fault_of chart ws ≡ [] → found ≡ matches_of chart ws → has_flag ws ≡ false
    → (read : List Text) → plain_words ws ≡ read → IsFound ws found
by_words ws found utf8 free is unflagged [] none = absurd (let bad : [] ≡ kind.MissingRequiredArgument ∷ [] = sym free
    ∙ none_fails ws utf8 unflagged none in cc)
by_words ws found utf8 free is unflagged (c ∷ os) some =
    let are : found ≡ rows c os = is ∙ words_found ws c os unflagged some in
    record {
      unflagged = unflagged;
      command = c;
      operands = os;
      are = some;
      command_found = ap (first_of (codes "command")) are ∙ command_in c os;
      operands_found = ap (all_of (codes "operand")) are ∙ operands_in c os;
    }

pub found_so : (ws : List Text) (found : List Row) → AreTexts ws → fault_of chart ws ≡ [] → found ≡ matches_of chart ws → IsFound ws found
found_so ws found utf8 free is =
    (elim (has_flag ws) as (λ (b : Bool). has_flag ws ≡ b → IsFound ws found) [
      | true ↦ λ flagged. absurd (let bad : [] ≡ unknown = sym free ∙ flag_fails ws utf8 flagged in cc)
      | false ↦ λ unflagged. by_words ws found utf8 free is unflagged (plain_words ws) refl
    ]) refl

kind_so : (ws : List Text) (e : Error) → AreTexts ws → HasKind (fault_of chart ws) e → has_flag ws ≡ false → (read : List Text)
    → plain_words ws ≡ read → Fails ws (kind_of e)
kind_so ws e utf8 has unflagged [] none = inr (inr none)
kind_so ws e utf8 has unflagged (c ∷ os) some =
    let so : HasKind [] e = subst (λ kinds. HasKind kinds e) (words_pass ws c os utf8 unflagged some) has in
    elim so [ inl memory ↦ inl memory | inr none ↦ absurd none ]

pub fails_so : (ws : List Text) (e : Error) → AreTexts ws → HasKind (fault_of chart ws) e → Fails ws (kind_of e)
fails_so ws e utf8 has =
    (elim (has_flag ws) as (λ (b : Bool). has_flag ws ≡ b → Fails ws (kind_of e)) [
      | true ↦ λ flagged. inr (inl flagged)
      | false ↦ λ unflagged. kind_so ws e utf8 has unflagged (plain_words ws) refl
    ]) refl

pub parse_found : (ws : List Text) (r : Result ArgMatches Error) → AreTexts ws → FailsBy (fault_of chart ws) r
    → IfOk r (λ m. rows_of (found_of m) ≡ matches_of chart ws) → IfOk r (λ m. IsFound ws (rows_of (found_of m)))
parse_found ws (Ok m) utf8 free is = found_so ws (rows_of (found_of m)) utf8 free is
parse_found ws (Err e) utf8 has is = is

pub parse_fails : (ws : List Text) (r : Result ArgMatches Error) → AreTexts ws → FailsBy (fault_of chart ws) r
    → IfErr r (λ e. Fails ws (kind_of e))
parse_fails ws (Ok m) utf8 free = tt
parse_fails ws (Err e) utf8 has = fails_so ws e utf8 has
