-- A batch of pages, each with its number.
use Rattle.std.specs.Prelude.{ℕ, ◌<◌, IsSome, Bool, true, not, ◌&&◌, ◌==◌, nat_lt, if◌then◌else◌, List, [], ◌∷◌, map, Option, None, Some}
use Rattle.std.specs.Prelude.{unwrap_or}
use Rattle.std.specs.List.{list_any, list_all}
use Rattle.block_disk.specs.View.{Image}

-- a page with its number
abbrev pub Entry : Type 0
Entry = ℕ × List ℕ

-- the page of this number in a batch
abbrev pub page_in : List Entry → ℕ → Option (List ℕ)
page_in [] number = None
page_in (entry ∷ batch) number = if number == entry.0 then Some entry.1 else page_in batch number

-- pages with those of a batch in their places
abbrev pub put_all : List Entry → Image → Image
put_all batch pages number = unwrap_or (page_in batch number) (pages number)

abbrev pub numbers : List Entry → List ℕ
numbers batch = map (λ entry. entry.0) batch

-- the number is one of these
abbrev pub is_one_of : List ℕ → ℕ → Bool
is_one_of ns number = list_any (λ n. n == number) ns

-- each page of a batch has a number below the count
abbrev pub AllBelow : ℕ → List Entry → Type 0
AllBelow count batch = (number : ℕ) → IsSome (page_in batch number) → number < count

-- no number stands twice
abbrev pub is_distinct : List ℕ → Bool
is_distinct [] = true
is_distinct (n ∷ ns) = not (is_one_of ns n) && is_distinct ns

abbrev pub all_below : ℕ → List ℕ → Bool
all_below count ns = list_all (λ n. nat_lt n count) ns
