use Rattle.std.proofs.lemmas.List.Kept.{IsStrictlyIncreasing-filter}
use Rattle.zoom_session.specs.Sessions.{session_of, last_of}
use Rattle.live_view.specs.Replies.{shows}
use Rattle.live_view.proofs.SetLemmas.{contains-filter}
use Rattle.live_view.proofs.laws.edits_go_to_followers.Goals as goal

pub returns-clause-just : goal.returns-clause-just
returns-clause-just c = λ series n sessions followed. contains-filter (λ m. shows series (last_of (session_of m sessions))) followed n

pub returns-clause-rising : goal.returns-clause-rising
returns-clause-rising c = λ series sessions followed rising. IsStrictlyIncreasing-filter
    (λ m. shows series (last_of (session_of m sessions))) followed rising
