-- The kind in the bytes of a frame.
use Rattle.std.proofs.Common.{◌≡◌, ℕ, ◌<◌, ◌^◌, List, [], ◌∷◌, ◌++◌, drop, Option, None, Some, refl, ap, ◌∙◌, arith}
use Rattle.std.proofs.lemmas.List.{drop_at}
use Rattle.chart_frames.specs.declared.frame.Frame.TheVariants as frame
use Rattle.chart_frames.specs.declared.frame.RowsFrame.{RowsFrame}
use Rattle.chart_frames.specs.declared.frame.ViewFrame.{ViewFrame}
use Rattle.chart_frames.specs.Fields.{length_field, kind_field, kind_fields, frame_fields}
use Rattle.chart_frames.specs.Format.{number_bytes, number_in, spell}
use Rattle.chart_frames.specs.Frames.{numbers_of, spelling}
use Rattle.chart_frames.proofs.Numbers.{length-number_bytes, number_again}

-- behind the four bytes of the length
pub kind_at : (n k : ℕ) (later : List ℕ) → k < 256 ^ 1 → number_in 1 (drop 4 (spell frame_fields (n ∷ (k ∷ later)))) ≡ k
unfolding frame_fields length_field kind_field
kind_at n k later low =
    let rest = number_bytes 1 k ++ spell (kind_fields n k) later in
    ap (number_in 1) (drop_at (number_bytes 4 n) rest 4 (length-number_bytes 4 n)) ∙ number_again 1 k (spell (kind_fields n k) later) low

abbrev second : List ℕ → Option ℕ
second [] = None
second (n ∷ []) = None
second (n ∷ (k ∷ later)) = Some k

kind_from : (numbers : List ℕ) (k : ℕ) → second numbers ≡ Some k → k < 256 ^ 1 → number_in 1 (drop 4 (spell frame_fields numbers)) ≡ k
kind_from [] k is low = absurd (let never : None ≡ Some k = is in cc)
kind_from (n ∷ []) k is low = absurd (let never : None ≡ Some k = is in cc)
kind_from (n ∷ (m ∷ later)) k is low = let same : m ≡ k = cc in kind_at n m later (omega (arith, low, same)) ∙ same

pub view_kind : (view : ViewFrame) → number_in 1 (drop 4 (spelling (frame.View view))) ≡ 5
view_kind view = kind_from (numbers_of (frame.View view)) 5 refl (omega arith)

pub rows_kind : (rows : RowsFrame) → number_in 1 (drop 4 (spelling (frame.Rows rows))) ≡ 6
rows_kind rows = kind_from (numbers_of (frame.Rows rows)) 6 refl (omega arith)
