-- What takes leave of the work of a host, and what calls move one after the other.
use Rattle.std.proofs.Common.{◌≡◌, ◌∙◌, ℕ, ◌≤◌, List, Option, None, Some, ap, sym, subst, arith}
use Rattle.block_disk.specs.Streams.{sent_after}
use Rattle.block_disk.specs.View.{Image, View, DiskKept, Now, Only}
use Rattle.chart_world.specs.Faults.{CountsFault}
use Rattle.line_runs.specs.Given.{Given}
use Rattle.run_ends.specs.declared.ending.End.{End}
use Rattle.series_book.specs.declared.edits.Edit.{Edit}
use Rattle.stored_book.specs.Standing.{StandsForBook}
use Rattle.zoom_session.specs.declared.session.Session.{Session}
use Rattle.hosted_lines.specs.Doing.{AreBeside, Goes, Held, Side}
use Rattle.hosted_lines.specs.GoesLaws.{IsBeside, held_of, held_same, host_cause_later}
use Rattle.hosted_lines.specs.Standing.{Any, DoesFrom, LastsFrom, Over, RestsFrom, Stand, Stands, watched_of}
use Rattle.hosted_lines.specs.Working.{AreTold, CausesEnd, Hosted, IsFit, IsHosted}

pub fit_kept : (old new : View) (pending pending' : List ℕ) (edits : List Edit) → DiskKept old new → pending' ≡ pending
    → IsFit old pending edits → IsFit new pending' edits
fit_kept old new pending pending' edits kept same fit = record {
  sound = kept.fit fit.sound;
  idle = same ∙ fit.idle;
  few = fit.few;
  are_edits = fit.are_edits;
}

pub held_kept : {sessions sessions' : List Session} {followed followed' pending pending' : List ℕ} → sessions' ≡ sessions
    → followed' ≡ followed → pending' ≡ pending → held_of sessions' followed' pending' ≡ held_of sessions followed pending
held_kept {sessions} {sessions'} {followed} {followed'} {pending} {pending'} same same_followed same_pending = held_same sessions sessions'
    followed followed' pending pending' same same_followed same_pending

kept_so : (hosted : Hosted) (edits : List Edit) (told told' : Type 0) (old new : View) (held held' : Held) (before now : Option (List ℕ))
    → (told → told') → DiskKept old new → held' ≡ held → now ≡ before → IsHosted hosted edits told old held before
    → IsHosted hosted edits told' new held' now
kept_so hosted edits told told' old new held held' before now more disk same unsent is =
    let P : Image → Type 0 = λ i. StandsForBook i hosted.total hosted.book in
    record {
      told_so = more is.told_so;
      stands = subst P (sym disk.image) is.stands;
      sound = is.sound;
      held_is = is.held_is ∙ sym same;
      idle = is.idle;
      spell = is.spell;
      sent_is = is.sent_is ∙ sym unsent;
      reads_are = is.reads_are ∙ sym disk.reads;
      syncs_are = is.syncs_are ∙ sym disk.syncs;
    }

pub stands_kept : (stand : Stand) (edits : List Edit) (told told' : Type 0) (old new : View) (held held' : Held)
    (before now : Option (List ℕ)) → (told → told') → DiskKept old new → held' ≡ held → now ≡ before
    → Stands stand edits told old held before → Stands stand edits told' new held' now
stands_kept (Any named) edits told told' old new held held' before now more disk same unsent is =
    record { spell = is.spell; watched_are = is.watched_are ∙ sym (ap watched_of same) }
stands_kept (Over hosted) edits told told' old new held held' before now more disk same unsent is =
    kept_so hosted edits told told' old new held held' before now more disk same unsent is

told_after : (text : List ℕ) (before : Option (List ℕ)) → AreTold before → AreTold (sent_after text before)
told_after text None told = absurd told
told_after text (Some bytes) told = tt

pub lasts_on : (stand : Stand) (it : Given) (text : List ℕ) (behind : Stand) → DoesFrom stand it text behind → LastsFrom stand
    → LastsFrom behind
lasts_on (Any old) it text behind does lasts = absurd lasts
lasts_on (Over old) it text (Any new) does lasts = absurd does
lasts_on (Over old) it text (Over new) does lasts = subst AreTold (sym does.0.sent_is) (told_after text old.sent lasts)

pub now_rests : (stand : Stand) (edits : List Edit) (told : Type 0) (at : View) (held : Held) (sent : Option (List ℕ))
    → Only at.image (Now at) → Stands stand edits told at held sent → (image : Image) → Now at image → RestsFrom stand image
now_rests (Any named) edits told at held sent only stands image left = tt
now_rests (Over hosted) edits told at held sent only stands image left =
    let P : Image → Type 0 = λ i. StandsForBook i hosted.total hosted.book in subst P (sym (only image left)) stands.stands

pub no_less : {one other : ℕ} → other ≡ one → one ≤ other
no_less {one} {other} is = omega (arith, is)

pub besides : {at : View} {reads sends : ℕ} → at.beside.read_faults ≡ reads → at.beside.send_faults ≡ sends → AreBeside at reads sends
besides {at} {reads} {sends} r s = record { reads_are = r; sends_are = s }

-- why a later call ended is why all ended, where no fault was counted before
pub causes_later : (old mid new : Side) → IsBeside old → IsBeside mid → CountsFault None old.view mid.view → (end : End) → Goes old mid
    → CausesEnd end mid new → CausesEnd end old new
causes_later old mid new was are quiet end goes is = record {
  cause = host_cause_later old mid new end was are quiet is.cause;
  within = is.within;
  sound = is.sound;
}
