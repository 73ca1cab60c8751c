use Rattle.std.proofs.Common.{refl, inl, inr}
use Rattle.derive_command.proofs.asking.ids_of.Goals as goal

pub returns-in_default-clause-ids : goal.returns-in_default-clause-ids
returns-in_default-clause-ids g c = λ total book sound told stands. (refl, inl (c.in_default.ensures.info total book sound told stands))

pub returns-in_default-series-clause-ids : goal.returns-in_default-series-clause-ids
returns-in_default-series-clause-ids g c = λ total book sound told stands. (
  refl,
  inr (c.in_default-series.ensures.info total book sound told stands),
)

pub returns-clause-ids : goal.returns-clause-ids
returns-clause-ids g c = λ total book sound told stands.
    record {
      first = (c.in-Some.ensures.info total book sound told stands).0;
      second = (c.in-Some-series.ensures.info total book sound told stands).0;
    }

pub returns-in_default-clause-lacks : goal.returns-in_default-clause-lacks
returns-in_default-clause-lacks g c = (refl, inl c.in_default.ensures.named)

pub returns-in_default-series-clause-lacks : goal.returns-in_default-series-clause-lacks
returns-in_default-series-clause-lacks g c = (refl, inr c.in_default-series.ensures.named)

pub returns-clause-named : goal.returns-clause-named
returns-clause-named g c = record { first = c.in-Some.ensures.named; second = c.in-Some-series.ensures.named }
