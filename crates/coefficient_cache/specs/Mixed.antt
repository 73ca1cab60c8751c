-- A key as one number, by which it is hashed.
use Rattle.std.specs.Prelude.{ℕ, ◌≡◌, ◌+◌, ◌*◌, ◌^◌, ◌%◌, true, ◌&&◌, nat_eq}
use Rattle.std.specs.Hash as fed
use Rattle.std.proofs.lemmas.Bool.Decides.{Decides-eqb, Decides-and}
use Rattle.coefficient_cache.specs.declared.series_key.SeriesKey.{SeriesKey}
use Rattle.coefficient_cache.specs.Pairs.{key_eq}

-- the level above the series above the index, as 64 bits
abbrev pub mixed : SeriesKey → ℕ
mixed k = (k.level * 2 ^ 56 + k.series * 2 ^ 40 + k.index) % 2 ^ 64

-- keys that are the same are hashed alike
pub fed_alike : (x y : SeriesKey) → key_eq x y ≡ true → fed.u64 (mixed x) ≡ fed.u64 (mixed y)
fed_alike x y same =
    let all =
    (Decides-and (nat_eq x.series y.series) (nat_eq x.level y.level && nat_eq x.index y.index)
    (Decides-eqb x.series y.series)
    (Decides-and (nat_eq x.level y.level) (nat_eq x.index y.index) (Decides-eqb x.level y.level) (Decides-eqb x.index y.index))).0 same in
    (λ i. fed.u64 ((all.1.0 i * 2 ^ 56 + all.0 i * 2 ^ 40 + all.1.1 i) % 2 ^ 64))
