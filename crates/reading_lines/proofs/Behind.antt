-- A line is written from its end to its front: what stands from its start on.
use Rattle.std.proofs.Common.{◌≡◌, ℕ, ◌-◌, ℤ, false, List, [], ◌∷◌, ◌++◌, Result, Ok, Err, to_z, of_z, w64, length, take, drop, arith}
use Rattle.std.proofs.Common.{length-drop, ap, ap₂, sym, ◌∙◌, append_assoc}
use Rattle.std.specs.Fmt.{signed_decimal}
use Rattle.std.specs.Int.RustNames.{FitsSigned}
use Rattle.std.specs.Prelude.{is_ok, is_err, if◌then◌else◌}
use Rattle.std.proofs.lemmas.Int.{to_z-of_z}
use Rattle.std.proofs.lemmas.List.{take_all}
use Rattle.reading_lines.specs.Lines.{decimal_text, reading_line}

-- the whole of a line of 96 bytes from its start on
pub whole_behind : (line : List ℕ) (start : ℕ) → length line ≡ 96 → take (96 - start) (drop start line) ≡ drop start line
whole_behind line start all = take_all (96 - start) (drop start line) (omega (arith, length-drop start line, all))

pub reading_behind : (scale : ℕ) (time value : ℤ) (feed number comma start : List ℕ) → FitsSigned w64 time → FitsSigned w64 value
    → feed ≡ 10 ∷ [] → number ≡ decimal_text scale (to_z w64 (of_z w64 value)) ++ feed → comma ≡ 44 ∷ number
    → start ≡ signed_decimal (to_z w64 (of_z w64 time)) ++ comma → start ≡ reading_line scale time value
reading_behind scale time value feed number comma start time_fits value_fits fed valued marked timed =
    let told : number ≡ decimal_text scale value ++ 10 ∷ [] = valued
    ∙ ap₂ (λ z bytes. decimal_text scale z ++ bytes) (to_z-of_z w64 value value_fits) fed in
    timed ∙ ap₂ (λ z bytes. signed_decimal z ++ bytes) (to_z-of_z w64 time time_fits) (marked ∙ ap (λ bytes. 44 ∷ bytes) told)
    ∙ sym (append_assoc (signed_decimal time) (44 ∷ decimal_text scale value) (10 ∷ []))

pub axis_behind : (axis feed row start : List ℕ) → feed ≡ 10 ∷ [] → row ≡ axis ++ feed → start ≡ 32 ∷ row → start ≡ (32 ∷ axis) ++ 10 ∷ []
axis_behind axis feed row start fed told marked = marked ∙ ap (λ bytes. 32 ∷ bytes) (told ∙ ap (λ bytes. axis ++ bytes) fed)

-- what was appended, where that didn't fail
pub appended : {T E : Type 0} (result : Result T E) (new old bytes : List ℕ) → is_err result ≡ false
    → new ≡ (if is_ok result then old ++ bytes else old) → new ≡ old ++ bytes
appended (Ok value) new old bytes fine is = is
appended (Err error) new old bytes fine is = absurd (cc)

pub line_appended : (old name tail between new bytes : List ℕ) → between ≡ old ++ name → new ≡ between ++ bytes → bytes ≡ tail ++ 10 ∷ []
    → new ≡ old ++ ((name ++ tail) ++ 10 ∷ [])
line_appended old name tail between new bytes first second are =
    second
    ∙ ap (λ front. front ++ bytes) first
    ∙ append_assoc old name bytes
    ∙ ap (λ behind. old ++ (name ++ behind)) are
    ∙ ap (λ behind. old ++ behind) (sym (append_assoc name tail (10 ∷ [])))
