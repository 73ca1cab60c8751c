-- Rows, as lines come behind them.
use Rattle.std.proofs.Common.{◌≡◌, ℕ, List, [], ◌∷◌, ◌++◌, Option, refl, ap, inl, inr}
use Rattle.series_load.specs.Fronts.{PlacedLine}
use Rattle.series_load.specs.Rows.{Reading, IsRow, AreRows, IsHeader, AreTable}

rows_more : (scale : ℕ) (lines : List PlacedLine) (rows : List (Option Reading)) (line : PlacedLine) (row : Option Reading)
    → AreRows scale lines rows → IsRow scale line row → AreRows scale (lines ++ line ∷ []) (rows ++ row ∷ [])
rows_more scale [] [] line row are is = (is, tt)
rows_more scale [] (r ∷ rs) line row are is = absurd are
rows_more scale (l ∷ ls) [] line row are is = absurd are
rows_more scale (l ∷ ls) (r ∷ rs) line row are is = (are.0, rows_more scale ls rs line row are.1 is)

-- a row more
pub table_more : (scale : ℕ) (lines : List PlacedLine) (rows : List (Option Reading)) (line : PlacedLine) (row : Option Reading)
    → AreTable scale lines rows → IsRow scale line row → AreTable scale (lines ++ line ∷ []) (rows ++ row ∷ [])
table_more scale lines rows line row (inl are) is = inl (rows_more scale lines rows line row are is)
table_more scale lines rows line row (inr has) is = inr (record {
  header = has.header;
  later = has.later ++ line ∷ [];
  split = ap (λ l. l ++ line ∷ []) has.split;
  is_header = has.is_header;
  rows_are = rows_more scale has.later rows line row has.rows_are is;
})

-- no line says no row
pub no_rows : (scale : ℕ) (lines : List PlacedLine) (rows : List (Option Reading)) → lines ≡ [] → AreTable scale lines rows → rows ≡ []
no_rows scale [] [] none table = refl
no_rows scale [] (r ∷ rs) none (inl are) = absurd are
no_rows scale [] (r ∷ rs) none (inr has) = let split = has.split in cc
no_rows scale (l ∷ ls) rows none table = cc

-- a header alone
pub table_header : (scale : ℕ) (line : PlacedLine) → IsHeader scale line → AreTable scale (line ∷ []) []
table_header scale line is = inr (record { header = line; later = []; split = refl; is_header = is; rows_are = tt })
