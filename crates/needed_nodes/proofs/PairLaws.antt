-- Lists of rows that stand beside each other.
use Rattle.std.proofs.Common.{ℕ, zero, suc, ◌≡◌, ◌<◌, List, [], ◌∷◌, map, length, get_or, refl, ap, ap₂, arith}
use Rattle.std.proofs.lemmas.List.Elements.{All-nil, All-cons}
use Rattle.std.specs.Prelude.{All, ⊤}
use Rattle.m4_groups.specs.declared.row.Row.{Row}
use Rattle.m4_groups.specs.Rows.{AreRising}

-- both lists are as long as each other, and R holds of each row and the one beside it
abbrev pub ArePairs : (Row → Row → Type 0) → List Row → List Row → Type 0
ArePairs R [] [] = ⊤
ArePairs R [] (e ∷ es) = ⊥
ArePairs R (r ∷ rs) [] = ⊥
ArePairs R (r ∷ rs) (e ∷ es) = R r e × ArePairs R rs es

pub choose : (R : Row → Row → Type 0) (rows : List Row) → ((k : ℕ) (d : Row) → k < length rows → (e : Row) × R (get_or rows k d) e)
    → (es : List Row) × ArePairs R rows es
choose R [] each = ([], tt)
choose R (r ∷ rs) each =
    let first : (e : Row) × R r e = each 0 r (omega arith) in
    let rest : (es : List Row) × ArePairs R rs es = choose R rs (λ k d less. each (suc k) d (omega arith)) in
    (first.0 ∷ rest.0, (first.1, rest.1))

pub pairs_map : {X : Type 0} (R : Row → Row → Type 0) (f : Row → X) → ((r e : Row) → R r e → f r ≡ f e) → (rows es : List Row)
    → ArePairs R rows es → map f rows ≡ map f es
pairs_map {X} R f same [] [] h = refl
pairs_map {X} R f same [] (e ∷ es) h = absurd h
pairs_map {X} R f same (r ∷ rs) [] h = absurd h
pairs_map {X} R f same (r ∷ rs) (e ∷ es) h = ap₂ (λ x xs. x ∷ xs) (same r e h.0) (pairs_map R f same rs es h.1)

pub pairs_all : (R : Row → Row → Type 0) (Q : Row → Type 0) → ((r e : Row) → R r e → Q e) → (rows es : List Row) → ArePairs R rows es
    → All Q es
pairs_all R Q each [] [] h = All-nil Q
pairs_all R Q each [] (e ∷ es) h = absurd h
pairs_all R Q each (r ∷ rs) [] h = absurd h
pairs_all R Q each (r ∷ rs) (e ∷ es) h = All-cons Q e es (each r e h.0) (pairs_all R Q each rs es h.1)

pairs_length : (R : Row → Row → Type 0) (rows es : List Row) → ArePairs R rows es → length rows ≡ length es
pairs_length R [] [] h = refl
pairs_length R [] (e ∷ es) h = absurd h
pairs_length R (r ∷ rs) [] h = absurd h
pairs_length R (r ∷ rs) (e ∷ es) h = ap suc (pairs_length R rs es h.1)

pair_at : (R : Row → Row → Type 0) (rows es : List Row) (i : ℕ) (d : Row) → ArePairs R rows es → i < length rows
    → R (get_or rows i d) (get_or es i d)
pair_at R [] [] i d h less = absurd (omega arith)
pair_at R [] (e ∷ es) i d h less = absurd h
pair_at R (r ∷ rs) [] i d h less = absurd h
pair_at R (r ∷ rs) (e ∷ es) zero d h less = h.0
pair_at R (r ∷ rs) (e ∷ es) (suc i) d h less = pair_at R rs es i d h.1 (omega arith)

pub pairs_rise : (R : Row → Row → Type 0) → ((r e : Row) → R r e → r.column ≡ e.column) → (rows es : List Row) → ArePairs R rows es
    → AreRising rows → AreRising es
pairs_rise R same rows es h rising i j d less short =
    let size : length rows ≡ length es = pairs_length R rows es h in
    omega (
      arith,
      rising i j d less (omega (arith, short, size)),
      same (get_or rows i d) (get_or es i d) (pair_at R rows es i d h (omega (arith, less, short, size))),
      same (get_or rows j d) (get_or es j d) (pair_at R rows es j d h (omega (arith, short, size))),
    )
