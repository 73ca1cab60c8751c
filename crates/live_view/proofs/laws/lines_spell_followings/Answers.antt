use Rattle.live_view.proofs.SpellingLemmas.{follows-spelt, request-asks-nothing, unfollows-spelt}
use Rattle.live_view.proofs.laws.lines_spell_followings.Goals as goal

pub returns-clause-follow : goal.returns-clause-follow
returns-clause-follow c = follows-spelt

pub returns-clause-unfollow : goal.returns-clause-unfollow
returns-clause-unfollow c = unfollows-spelt

pub returns-clause-requests : goal.returns-clause-requests
returns-clause-requests c = request-asks-nothing
