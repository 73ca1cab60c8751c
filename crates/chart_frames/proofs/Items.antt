-- Items read one after the other.
use Rattle.std.proofs.Common.{◌≡◌, ℕ, suc, ◌-◌, ◌<◌, List, [], ◌∷◌, ◌++◌, length, Option, Some, refl, sym, ap, subst, ◌∙◌, arith}
use Rattle.om3_coeff.specs.declared.key.Key.{Key}
use Rattle.om3_coeff.specs.declared.coef.Coef.{Coef}
use Rattle.m4_groups.specs.declared.row.Row.{Row}
use Rattle.chart_frames.specs.Format.{Format, stop}
use Rattle.chart_frames.specs.Reading.{read}
use Rattle.chart_frames.specs.Fields.{key_field, coef_fields, coefs_fields, column_field, row_fields, rows_fields}
use Rattle.chart_frames.specs.declared.item_stop.ItemStop.{ItemStop}
use Rattle.chart_frames.specs.declared.item_stop.ItemStop.TheVariants as stops
use Rattle.chart_frames.specs.Items.{Fails, last_key, last_column}
use Rattle.chart_frames.specs.Spelled.{coef_before, coefs_before, row_before, rows_all_before}

pub coefs_before-push : (xs : List (Key × Coef)) (e : Key × Coef) (tail : List ℕ)
    → coefs_before (xs ++ e ∷ []) tail ≡ coefs_before xs (coef_before e tail)
coefs_before-push [] e tail = refl
coefs_before-push (x ∷ xs) e tail = ap (coef_before x) (coefs_before-push xs e tail)

pub rows_all_before-push : (xs : List Row) (r : Row) (tail : List ℕ)
    → rows_all_before (xs ++ r ∷ []) tail ≡ rows_all_before xs (row_before r tail)
rows_all_before-push [] r tail = refl
rows_all_before-push (x ∷ xs) r tail = ap (row_before x) (rows_all_before-push xs r tail)

-- some coefficient is left
pub coefs_fields-next : (slots : ℕ) (last : Option ℕ) (k count : ℕ) → k < count
    → coefs_fields slots last (count - k) ≡ key_field slots last (λ key. coef_fields (coefs_fields slots (Some key) (count - suc k)))
unfolding coefs_fields
coefs_fields-next slots last k count below = let e : count - k ≡ suc (count - suc k) = omega arith in rw e refl

-- none is
pub coefs_fields-end : (slots : ℕ) (last : Option ℕ) (k count : ℕ) → k ≡ count → coefs_fields slots last (count - k) ≡ stop
unfolding coefs_fields
coefs_fields-end slots last k count same = let e : count - k ≡ 0 = omega (arith, same) in rw e refl

-- some row is left
pub rows_fields-next : (w : ℕ) (last : Option ℕ) (k count : ℕ) → k < count
    → rows_fields w last (count - k) ≡ column_field w last (λ column. row_fields (rows_fields w (Some column) (count - suc k)))
unfolding rows_fields
rows_fields-next w last k count below = let e : count - k ≡ suc (count - suc k) = omega arith in rw e refl

-- none is
pub rows_fields-end : (w : ℕ) (last : Option ℕ) (k count : ℕ) → k ≡ count → rows_fields w last (count - k) ≡ stop
unfolding rows_fields
rows_fields-end w last k count same = let e : count - k ≡ 0 = omega (arith, same) in rw e refl

fails_by : (e : ItemStop) (f g : Format) (bytes : List ℕ) → f ≡ g → Fails e (read g bytes) → Fails e (read f bytes)
fails_by (stops.Stop e) f g bytes same h = ap (λ (k : Format). read k bytes) same ∙ h
fails_by stops.NoMemory f g bytes same h = tt

-- reading ends at the next coefficient
pub coefs_ended : (e : ItemStop) (slots : ℕ) (xs ys : List (Key × Coef)) (count : ℕ) (tail : List ℕ) → length xs < count → ys ≡ xs
    → ((next : ℕ → Format) → Fails e (read (key_field slots (last_key xs) (λ key. coef_fields (next key))) tail))
    → Fails e (read (coefs_fields slots (last_key ys) (count - length ys)) tail)
coefs_ended e slots xs ys count tail below same found =
    let P : List (Key × Coef) → Type 0 = λ zs. Fails e (read (coefs_fields slots (last_key zs) (count - length zs)) tail) in
    subst P (sym same) (fails_by e (coefs_fields slots (last_key xs) (count - length xs))
    (key_field slots (last_key xs) (λ key. coef_fields (coefs_fields slots (Some key) (count - suc (length xs))))) tail
    (coefs_fields-next slots (last_key xs) (length xs) count below)
    (found (λ key. coefs_fields slots (Some key) (count - suc (length xs)))))

-- reading ends at the next row
pub rows_ended : (e : ItemStop) (w : ℕ) (xs ys : List Row) (count : ℕ) (tail : List ℕ) → length xs < count → ys ≡ xs
    → ((next : ℕ → Format) → Fails e (read (column_field w (last_column xs) (λ column. row_fields (next column))) tail))
    → Fails e (read (rows_fields w (last_column ys) (count - length ys)) tail)
rows_ended e w xs ys count tail below same found =
    let P : List Row → Type 0 = λ zs. Fails e (read (rows_fields w (last_column zs) (count - length zs)) tail) in
    subst P (sym same) (fails_by e (rows_fields w (last_column xs) (count - length xs))
    (column_field w (last_column xs) (λ column. row_fields (rows_fields w (Some column) (count - suc (length xs))))) tail
    (rows_fields-next w (last_column xs) (length xs) count below) (found (λ column. rows_fields w (Some column) (count - suc (length xs)))))
