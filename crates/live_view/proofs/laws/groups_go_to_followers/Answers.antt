use Rattle.zoom_session.specs.Sessions.{session_of, last_of}
use Rattle.live_view.specs.Groups.{shows_one}
use Rattle.live_view.proofs.GroupLemmas.{group-of-one, group-rises}
use Rattle.live_view.proofs.SetLemmas.{contains-filter}
use Rattle.live_view.proofs.laws.groups_go_to_followers.Goals as goal

pub returns-clause-just : goal.returns-clause-just
returns-clause-just c = λ series n sessions followed. contains-filter (λ m. shows_one series (last_of (session_of m sessions))) followed n

pub returns-clause-rising : goal.returns-clause-rising
returns-clause-rising c = λ series sessions followed rising. group-rises series sessions followed rising

pub returns-clause-one : goal.returns-clause-one
returns-clause-one c = λ series sessions followed. group-of-one series sessions followed
