use Rattle.std.proofs.Common.{length, arith}
use Rattle.om3_coeff.specs.Keys.{height}
use Rattle.om3_coeff.proofs.KeyLemmas.{height_few}
use Rattle.live_view.proofs.BoundLemmas.{bound-fits, keys-fit}
use Rattle.live_view.proofs.laws.followed_views_fit.Goals as goal

pub returns-clause-needed : goal.returns-clause-needed
returns-clause-needed c = λ session view list axis grid lo hi keys follows same are_needed.
    keys-fit (length keys) grid.w view.grid.w (height (length list)) session.cache.capacity
    (c.keys_of_a_view_are_few.ensures.needed list axis grid lo hi keys are_needed.order are_needed.each)
    (height_few (length list)) same
    (bound-fits session.number session.cache.capacity session.last view follows.followed follows.last follows.unfiltered)

pub returns-clause-columns : goal.returns-clause-columns
returns-clause-columns c = λ session view follows size.
    omega (
      arith,
      size.1,
      bound-fits session.number session.cache.capacity session.last view follows.followed follows.last
          follows.unfiltered,
    )
