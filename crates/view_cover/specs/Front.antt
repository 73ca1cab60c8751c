-- The lowest keys that are seen in the window.
use Rattle.std.specs.Prelude.{ℕ, ◌≡◌, ◌≤◌}
use Rattle.om3_coeff.specs.declared.key.Key.{Key}
use Rattle.om3_coeff.specs.declared.span.Span.{Span}
use Rattle.om3_coeff.specs.Keys.{first_slot, end_slot, parent_of}
use Rattle.view_cover.specs.Scene.{Scene, IsSeen, IsDrawnIn}

-- the key is seen with the span s, and no half of it is seen
pub record IsLowest (scene : Scene) (k : Key) (s : Span) : Type 0 where
  pub seen : IsSeen scene k s
  pub no_half : (half : Key) (t : Span) → parent_of half ≡ k → IsSeen scene half t → ⊥

-- The front has the keys, those of single slots too, that are seen and meet the window, and of which no
-- half is seen. This key is one of them, with the span s.
pub record IsInFront (scene : Scene) (k : Key) (s : Span) : Type 0 where
  pub lowest : IsLowest scene k s
  pub column : ℕ
  pub drawn : IsDrawnIn scene.axis scene.grid k column

-- no key of the front lies between the slots a and b
abbrev pub IsFreeBetween : Scene → ℕ → ℕ → Type 0
IsFreeBetween scene a b = (m : Key) (s : Span) → IsInFront scene m s → a ≤ first_slot m → end_slot m ≤ b → ⊥

-- the key l is the next one of the front behind the key k
pub record AreConsecutive (scene : Scene) (k l : Key) : Type 0 where
  pub order : end_slot k ≤ first_slot l
  pub none_between : IsFreeBetween scene (end_slot k) (first_slot l)
