-- What a root's span and told coefficients show of the keys below it.
use Rattle.std.specs.Prelude.{ℕ, zero, suc, ◌≡◌, ◌-◌, ◌/◌, ◌%◌, ◌==◌, if◌then◌else◌, Option, None, Some}
use Rattle.std.specs.Option.{option_map}
use Rattle.om3_coeff.specs.declared.key.Key.{Key}
use Rattle.om3_coeff.specs.declared.span.Span.{Span}
use Rattle.om3_coeff.specs.declared.coef.Coef.{Coef}
use Rattle.om3_coeff.specs.Coefs.{parts}

-- the half in which the key with this index lies
abbrev pub half : ℕ → Option Span × Option Span → Option Span
half index halves = if index % 2 == 0 then halves.0 else halves.1

-- What is known of a key, given what is known of its parent and the parent's coefficient, where that
-- is told: nothing, or its span, or that it has none.
abbrev pub known_below : ℕ → Option (Option Span) → Option Coef → Option (Option Span)
known_below index None c = None
known_below index (Some None) c = Some None
known_below index (Some (Some s)) None = None
known_below index (Some (Some s)) (Some c) = option_map (half index) (parts s c)

-- what is known of the key that lies this far below the top
unfoldable pub known_from : Option Span → (Key → Option Coef) → ℕ → ℕ → ℕ → Option (Option Span)
known_from root told zero level index = Some root
known_from root told (suc depth) level index =
    known_below index (known_from root told depth (suc level) (index / 2)) (told (record { level = suc level; index = index / 2 }))

-- What is known of a key of a tree whose highest level is top: the top has the root's span, and each
-- key below has what its parent's coefficient gives it. A key is seen with the span s where this is
-- Some (Some s).
abbrev pub known : Option Span → (Key → Option Coef) → ℕ → Key → Option (Option Span)
known root told top k = known_from root told (top - k.level) k.level k.index

-- slot i is known to hold nothing
abbrev pub IsKnownClear : Option Span → (Key → Option Coef) → ℕ → ℕ → Type 0
IsKnownClear root told top i = known root told top (record { level = 0; index = i }) ≡ Some None
