-- Which line an end calls bad, whatever the pages are.
use Rattle.std.proofs.Common.{◌≡◌, ◌≢◌, ◌∙◌, ℕ, ◌<◌, Bool, true, false, IsTrue, List, Result, Ok, Err, length, subst, sym}
use Rattle.std.specs.Prelude.{◌↔◌, IfErr, IsErrAnd, OnOk}
use Rattle.run_ends.specs.declared.ending.End.{End}
use Rattle.run_ends.specs.declared.ending.End.TheVariants.{NoMemory, BadInput}
use Rattle.series_load.specs.Steps.{BlamesLine, BlamesNone, BlamesText, SaysSo}
use Rattle.series_load.specs.declared.said.Said.{Said}
use Rattle.series_load.specs.declared.said.Said.TheVariants.{Bad}

pub not_bad : (b : Bool) (said : Said) → (IsTrue b ↔ (said ≡ Bad)) → b ≡ false → said ≢ Bad
not_bad b said tests not_so = λ is. let both : true ≡ false = sym (tests.1 is) ∙ not_so in cc

pub so_on_ok : {T P : Type 0} (result : Result T End) → P → OnOk result P
so_on_ok {T} {P} (Ok v) is = is
so_on_ok {T} {P} (Err e) is = tt

-- no line at all is none at this offset
pub none_line : (at : ℕ) (end : End) → BlamesNone end → BlamesLine at end
none_line at (BadInput place) none = absurd none
none_line at end none = tt

none_text : (scale at : ℕ) (first : Bool) (text : List ℕ) (end : End) → BlamesNone end → BlamesText scale at first text end
none_text scale at first text (BadInput place) none = absurd none
none_text scale at first text end none = tt

pub none_texts : {T : Type 0} (scale at : ℕ) (first : Bool) (text : List ℕ) (result : Result T End) → IfErr result (λ e. BlamesNone e)
    → IfErr result (λ e. BlamesText scale at first text e)
none_texts {T} scale at first text (Ok v) none = tt
none_texts {T} scale at first text (Err e) none = none_text scale at first text e none

-- a line that is bad
pub line_text : (scale at : ℕ) (first : Bool) (text : List ℕ) (end : End) → 0 < length text → SaysSo scale first text Bad
    → BlamesLine at end → BlamesText scale at first text end
line_text scale at first text (BadInput place) some bad is = (is, some, bad)
line_text scale at first text end some bad is = tt

-- want of memory
pub no_memory_text : {T : Type 0} (scale at : ℕ) (first : Bool) (text : List ℕ) (result : Result T End) (e : End)
    → IsErrAnd result (λ x. x ≡ e) → e ≡ NoMemory → IfErr result (λ x. BlamesText scale at first text x)
no_memory_text {T} scale at first text (Ok v) e is none = absurd is
no_memory_text {T} scale at first text (Err x) e is none =
    let P : End → Type 0 = λ y. BlamesText scale at first text y in
    subst P (sym (is ∙ none)) tt
