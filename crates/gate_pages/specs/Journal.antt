-- The blocks of a store: a gate, a directory, the images of the journal, and the pages.
use Rattle.std.specs.Prelude.{ℕ, ◌+◌, ◌*◌, ◌-◌, ◌^◌, min, Bool, ◌&&◌, ◌==◌, nat_le, if◌then◌else◌, List, [], ◌∷◌, map, take, drop}
use Rattle.std.specs.Prelude.{slice_index, Option, None, Some}
use Rattle.std.specs.List.{starts_with, range_with_len}
use Rattle.std.specs.Int.{w32, from_be_bytes}
use Rattle.std.proofs.Math.Dec.{eqb}
use Rattle.block_disk.specs.View.{Image}
use Rattle.gate_pages.specs.Batch.{Entry, put_all, is_distinct, all_below}

-- the most blocks of a disk that are used
abbrev pub most_blocks : ℕ
most_blocks = 2 ^ 32 - 1

-- how many pages a disk of so many blocks has
abbrev pub page_count : ℕ → ℕ
page_count size = min size most_blocks - 66

-- the gate is open exactly where the first byte of block 0 is 1
abbrev pub is_open : List ℕ → Bool
is_open gate = slice_index gate 0 == 1

-- CHARTDIR
abbrev pub magic : List ℕ
magic = 67 ∷ 72 ∷ 65 ∷ 82 ∷ 84 ∷ 68 ∷ 73 ∷ 82 ∷ []

-- the number in the four bytes from an offset on, the highest byte first
unfoldable pub number_at : List ℕ → ℕ → ℕ
number_at block offset = from_be_bytes w32 (take 4 (drop offset block))

-- so many page numbers, from byte 12 on
abbrev pub numbers_in : List ℕ → ℕ → List ℕ
numbers_in block count = map (λ i. number_at block (12 + 4 * i)) (range_with_len 0 count)

-- a directory keeps its layout: the magic, a count of at most 64, and distinct numbers of pages
unfoldable pub keeps_layout : ℕ → List ℕ → Bool
keeps_layout count block =
    starts_with eqb block magic
    && (nat_le (number_at block 8) 64
    && (all_below count (numbers_in block (number_at block 8))
    && is_distinct (numbers_in block (number_at block 8))))

-- the page numbers of a directory that keeps its layout
abbrev pub directory : ℕ → List ℕ → Option (List ℕ)
directory count block = if keeps_layout count block then Some (numbers_in block (number_at block 8)) else None

-- the pages as they lie: page p is block p + 66
abbrev pub home : Image → Image
home image page = image (page + 66)

-- the images of the journal from a block on, each with the number of its page
abbrev pub images : List ℕ → ℕ → Image → List Entry
images [] block image = []
images (n ∷ ns) block image = (n, image block) ∷ images ns (block + 1) image

-- the pages as they lie, with the images of the journal in their places where there is a directory
abbrev pub replayed : Option (List ℕ) → Image → Image
replayed None image = home image
replayed (Some ns) image = put_all (images ns 2 image) (home image)

-- The pages that an image stands for: each image stands for one list of pages.
abbrev pub pages_of : ℕ → Image → Image
pages_of count image = if is_open (image 0) then replayed (directory count (image 1)) image else home image
