use Rattle.std.proofs.Common.{◌≡◌, ◌-◌}
use Rattle.series_store.proofs.SendLemmas.{IsSending}
use Rattle.series_store.specs.Sending.{first_said, is_said_in}
use Rattle.series_store.proofs.sending.+send_below.Given as goal

abbrev pub decreases-send_below : goal.decreases-send_below
decreases-send_below g l = l.level

abbrev pub invariant-loop-child : goal.invariant-loop-child
invariant-loop-child g l = IsSending (is_said_in (g.T.Texts.may_be_said l.fn.texts) l.fn.slots) (g.P.Pages.told l.fn.space.pages)
    (g.P.Pages.told l.space.pages) (g.P.Pages.view l.fn.space.pages) (g.P.Pages.view l.space.pages) (g.P.Pages.under l.fn.space.pages)
    (g.P.Pages.under l.space.pages) l.fn.space.superblock l.space.superblock
    (first_said l.fn.slots (g.T.Texts.text l.fn.texts)) l.fn.level
    (l.fn.level - 1) l.fn.index l.fn.page l.fn.top l.fn.out.items l.out.items l.child
    × ((g.P.Pages.view l.space.pages).faults ≡ (g.P.Pages.view l.fn.space.pages).faults)
    × ((g.P.Pages.view l.space.pages).beside.send_faults ≡ (g.P.Pages.view l.fn.space.pages).beside.send_faults)
