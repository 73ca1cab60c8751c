-- A catalog lists the series one by one.
use Rattle.std.proofs.Common.{◌≡◌, ℕ, suc, zero, ◌+◌, ◌≤◌, List, [], ◌∷◌, ◌++◌, map, take, length, slice_get, Option, None, Some, sym, ap}
use Rattle.std.proofs.Common.{subst, arith, ◌∙◌}
use Rattle.std.proofs.lemmas.List.{map-append, take_all}
use Rattle.chart_frames.specs.declared.reports.ListedSeries.{ListedSeries}
use Rattle.series_book.specs.declared.one_series.Series.{Series}
use Rattle.host_reports.specs.Reports.{listed}

one_more : (book : List Series) (id : ℕ) (series : Series) → slice_get book id ≡ Some series
    → take (suc id) book ≡ take id book ++ series ∷ []
one_more [] id series there = absurd (cc)
one_more (one ∷ book) zero series there = ap (λ (o : Option Series). first o) there
  where
    first : Option Series → List Series
    first None = []
    first (Some s) = s ∷ []
one_more (one ∷ book) (suc id) series there = ap (λ l. one ∷ l) (one_more book id series there)

pub listed_more : (book : List Series) (id : ℕ) (items now : List ListedSeries) (one : ListedSeries) (series : Series)
    → slice_get book id ≡ Some series → one ≡ listed series → items ≡ map listed (take id book) → now ≡ items ++ one ∷ []
    → now ≡ map listed (take (id + 1) book)
listed_more book id items now one series there is before added =
    let P : ℕ → Type 0 = λ n. now ≡ map listed (take n book) in
    let next : suc id ≡ id + 1 = omega arith in
    subst P next
    (added ∙ ap (λ l. l ++ one ∷ []) before ∙ ap (λ x. map listed (take id book) ++ x ∷ []) is
    ∙ sym (map-append listed (take id book) (series ∷ [])) ∙ ap (λ l. map listed l) (sym (one_more book id series there)))

pub listed_all : (book : List Series) (id : ℕ) (items : List ListedSeries) → length book ≤ id → items ≡ map listed (take id book)
    → items ≡ map listed book
listed_all book id items long are = are ∙ ap (λ l. map listed l) (take_all id book long)
