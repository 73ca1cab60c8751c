-- The keys of the tree over a series' slots: which slots a key covers, and which keys lie above which.
use Rattle.std.specs.Prelude.{ℕ, suc, ◌≡◌, ◌+◌, ◌-◌, ◌*◌, ◌/◌, ◌^◌, ◌<◌, ◌≤◌, ◌⊎◌, nat_le, if◌then◌else◌, Option, None, Some}
use Rattle.om3_coeff.specs.declared.key.Key.{Key}

-- the first slot of a key's range, and the slot behind its last one
abbrev pub first_slot : Key → ℕ
first_slot k = k.index * 2 ^ k.level

abbrev pub end_slot : Key → ℕ
end_slot k = (k.index + 1) * 2 ^ k.level

-- the keys of the two halves of a key's range, one level below
abbrev pub left_of : Key → Key
left_of k = record { level = k.level - 1; index = 2 * k.index }

abbrev pub right_of : Key → Key
right_of k = record { level = k.level - 1; index = 2 * k.index + 1 }

-- the key one level above, whose range holds this one's
abbrev pub parent_of : Key → Key
parent_of k = record { level = suc k.level; index = k.index / 2 }

-- the number of page levels of a series of n slots, at most 2^35: the least k of at least 1 with 128^k >= n
unfoldable pub page_levels : ℕ → ℕ
page_levels n =
    if nat_le n (128 ^ 1) then 1
    else (if nat_le n (128 ^ 2) then 2 else (if nat_le n (128 ^ 3) then 3 else (if nat_le n (128 ^ 4) then 4 else 5)))

-- the highest level of the tree over n slots
abbrev pub height : ℕ → ℕ
height n = 7 * page_levels n

-- the key at the top of the tree over n slots
abbrev pub top_key : ℕ → Key
top_key n = record { level = height n; index = 0 }

-- a key of a tree whose highest level is top; one of level 0 is a slot
pub record IsKey (top : ℕ) (k : Key) : Type 0 where
  pub high : k.level ≤ top
  pub within : k.index < 2 ^ (top - k.level)

-- a key that has a coefficient
pub record IsNode (top : ℕ) (k : Key) : Type 0 where
  pub low : 1 ≤ k.level
  pub high : k.level ≤ top
  pub within : k.index < 2 ^ (top - k.level)

-- the key w is k or lies above it
pub record IsAtOrAbove (w k : Key) : Type 0 where
  pub higher : k.level ≤ w.level
  pub holds : k.index / 2 ^ (w.level - k.level) ≡ w.index

-- the key w is the one asked last or lies above it
abbrev pub IsOver : Key → Option Key → Type 0
IsOver w None = ⊥
IsOver w (Some k) = IsAtOrAbove w k

-- Tree order: a key may be asked after the one asked last where it is the top, or where its parent is
-- the key asked last or lies above it.
abbrev pub MayFollow : ℕ → Option Key → Key → Type 0
MayFollow top last k = (k.level ≡ top) ⊎ IsOver (parent_of k) last
