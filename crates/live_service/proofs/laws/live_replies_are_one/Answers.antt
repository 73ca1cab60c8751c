use Rattle.live_service.proofs.OneAnswer.{line_one, push_one}
use Rattle.live_service.proofs.OneEdit.{group_one}
use Rattle.live_service.proofs.laws.live_replies_are_one.Goals as goal

pub returns-clause-lines : goal.returns-clause-lines
returns-clause-lines c = λ line frame other old new behind a b. line_one frame other old new behind c.replies_are_one.ensures.line line a b

pub returns-clause-pushes : goal.returns-clause-pushes
returns-clause-pushes c = λ frame other old new behind a b. push_one frame other old new behind c.replies_are_one.ensures.request a b

pub returns-clause-groups : goal.returns-clause-groups
returns-clause-groups c = λ edits frames others old new behind a b.
    group_one c.replies_are_one.ensures.request edits frames others old new behind a b
