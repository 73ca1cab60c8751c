use Rattle.std.proofs.Common.{IfOk, sym, subst}
use Rattle.retention.specs.Sweeping.{IsNextOrNone}
use Rattle.retention.specs.declared.rule.Rule.{Rule}
use Rattle.std.specs.Prelude.{IfErr}
use Rattle.retention.specs.Damage.{Asks, BlamesSo, IsBadForLook}
use Rattle.retention.proofs.sweeping.next_clear.Goals as goal

pub returns-in-Before-clause-next : goal.returns-in-Before-clause-next
returns-in-Before-clause-next g c = c.next_named.ensures.next

pub returns-in-Before-clause-is_edit : goal.returns-in-Before-clause-is_edit
returns-in-Before-clause-is_edit g c = c.next_named.ensures.is_edit

pub returns-in-Before-clause-outside : goal.returns-in-Before-clause-outside
returns-in-Before-clause-outside g c = c.next_named.ensures.outside

pub returns-in-Before-clause-cause : goal.returns-in-Before-clause-cause
returns-in-Before-clause-cause g c = c.next_named.ensures.cause

pub returns-in-Before-clause-faults : goal.returns-in-Before-clause-faults
returns-in-Before-clause-faults g c = c.next_named.ensures.faults

pub returns-in-Before-clause-looks : goal.returns-in-Before-clause-looks
returns-in-Before-clause-looks g c = c.next_named.ensures.looks

pub returns-in-Last-clause-next : goal.returns-in-Last-clause-next
returns-in-Last-clause-next g c = c.next_named-in-Last.ensures.next

pub returns-in-Last-clause-is_edit : goal.returns-in-Last-clause-is_edit
returns-in-Last-clause-is_edit g c = c.next_named-in-Last.ensures.is_edit

pub returns-in-Last-clause-outside : goal.returns-in-Last-clause-outside
returns-in-Last-clause-outside g c = c.next_named-in-Last.ensures.outside

pub returns-in-Last-clause-cause : goal.returns-in-Last-clause-cause
returns-in-Last-clause-cause g c = c.next_named-in-Last.ensures.cause

pub returns-in-Last-clause-faults : goal.returns-in-Last-clause-faults
returns-in-Last-clause-faults g c = c.next_named-in-Last.ensures.faults

pub returns-in-Last-clause-looks : goal.returns-in-Last-clause-looks
returns-in-Last-clause-looks g c = c.next_named-in-Last.ensures.looks

pub returns-in-Free-clause-next : goal.returns-in-Free-clause-next
returns-in-Free-clause-next g c = λ total book told stands.
    let R : Rule → Type 0 = λ r. IfOk c.next_free.result (IsNextOrNone total book r) in
    subst R (sym c.in-Free.is) (c.next_free.ensures.next total book told stands)

pub returns-in-Free-clause-is_edit : goal.returns-in-Free-clause-is_edit
returns-in-Free-clause-is_edit g c = c.next_free.ensures.is_edit

pub returns-in-Free-clause-outside : goal.returns-in-Free-clause-outside
returns-in-Free-clause-outside g c = c.next_free.ensures.outside

pub returns-in-Free-clause-cause : goal.returns-in-Free-clause-cause
returns-in-Free-clause-cause g c = c.next_free.ensures.cause

pub returns-in-Free-clause-faults : goal.returns-in-Free-clause-faults
returns-in-Free-clause-faults g c = c.next_free.ensures.faults

pub returns-in-Free-clause-looks : goal.returns-in-Free-clause-looks
returns-in-Free-clause-looks g c = c.next_free.ensures.looks

pub returns-in-Before-clause-blames : goal.returns-in-Before-clause-blames
returns-in-Before-clause-blames g c = c.next_named.ensures.blames

pub returns-in-Last-clause-blames : goal.returns-in-Last-clause-blames
returns-in-Last-clause-blames g c = c.next_named-in-Last.ensures.blames

pub returns-in-Free-clause-blames : goal.returns-in-Free-clause-blames
returns-in-Free-clause-blames g c =
    let new = c.next_free.new.store in
    let R : Rule → Type 0 = λ r. IfErr c.next_free.result (λ e. BlamesSo (IsBadForLook (Asks r)) e new) in
    subst R (sym c.in-Free.is) c.next_free.ensures.blames
