-- What takes leave of the work on lines, and what calls move one after the other.
use Rattle.std.proofs.Common.{◌≡◌, ◌∙◌, ℕ, ◌≤◌, List, Option, None, Some, refl, ap, sym, subst, arith}
use Rattle.std.specs.Borrow.{GName}
use Rattle.block_disk.specs.View.{Image, View, DiskKept, Now, Only}
use Rattle.block_disk.specs.Streams.{sent_after}
use Rattle.chart_world.specs.FaultLaws.{disk_stays, sends_stay}
use Rattle.chart_world.specs.Faults.{CountsFault}
use Rattle.gate_pages.specs.GateLaws.{goes_none, goes_then as goes_on_then}
use Rattle.gate_pages.specs.Pages.{GoesOn}
use Rattle.line_runs.specs.Given.{Given}
use Rattle.page_space.specs.declared.superblock.Superblock.{Superblock}
use Rattle.series_book.specs.declared.edits.Edit.{Edit}
use Rattle.stored_book.specs.Standing.{StandsForBook}
use Rattle.zoom_session.specs.declared.session.Session.{Session}
use Rattle.chart_service.specs.Making.{Makes}
use Rattle.chart_service.specs.declared.failure.AnswerEnd.{AnswerEnd}
use Rattle.chart_service.specs.declared.failure.AnswerEnd.TheVariants.{Serve, Reply}
use Rattle.chart_service.specs.declared.failure.ServeEnd.TheVariants.{ReadFault, SendFault, DiskFault, Damaged, InputTooLong, NoMemory}
use Rattle.chart_service.proofs.DiskKept.{serves_none, serves_then, serves_kept, risen_since}
use Rattle.served_lines.specs.Going.{AreBeside, Goes, IsCause, Side}
use Rattle.served_lines.specs.Standing.{IsFit, StandsSo}
use Rattle.served_lines.specs.Turning.{Any, AreTold, Does, Lasting, Over, Rests, Stand}

pub fit_kept : (old new : View) (edits : List Edit) → DiskKept old new → IsFit old edits → IsFit new edits
fit_kept old new edits kept fit = record { sound = kept.fit fit.sound; few = fit.few; are_edits = fit.are_edits }

pub stands_kept : {S : Type 0} (stand : Stand S) (name : GName) (kept : S) (edits : List Edit) (told told' : Type 0) (old new : View)
    (own sessions : List Session) (before now : Option (List ℕ)) → (told → told') → DiskKept old new → sessions ≡ own → now ≡ before
    → StandsSo stand name kept edits told old own before → StandsSo stand name kept edits told' new sessions now
stands_kept (Any named) name kept edits told told' old new own sessions before now more disk same unsent is =
    record { name_is = is.name_is; kept_is = is.kept_is; spells = is.spells; sessions_are = is.sessions_are ∙ sym same }
stands_kept (Over held) name kept edits told told' old new own sessions before now more disk same unsent is =
    let P : Image → Type 0 = λ i. StandsForBook i held.state.total held.state.book in
    record {
      told_so = more is.told_so;
      stands = subst P (sym disk.image) is.stands;
      sessions_are = is.sessions_are ∙ sym same;
      kept_is = is.kept_is;
      spells = is.spells;
      sent_is = is.sent_is ∙ sym unsent;
      reads_are = is.reads_are ∙ sym disk.reads;
      syncs_are = is.syncs_are ∙ sym disk.syncs;
    }

told_after : (text : List ℕ) (before : Option (List ℕ)) → AreTold before → AreTold (sent_after text before)
told_after text None told = absurd told
told_after text (Some bytes) told = tt

pub lasts_on : {S F : Type 0} (makes : Makes S F) (stand : Stand S) (it : Given) (text : List ℕ) (behind : Stand S)
    → Does makes stand it text behind → Lasting stand → Lasting behind
lasts_on makes (Any old) it text (Any new) does lasts = absurd lasts
lasts_on makes (Any old) it text (Over new) does lasts = absurd lasts
lasts_on makes (Over old) it text (Any new) does lasts = absurd does
lasts_on makes (Over old) it text (Over new) does lasts =
    subst AreTold (sym does.0.answered.sent) (told_after text old.sent lasts)

pub now_rests : {S : Type 0} (stand : Stand S) (name : GName) (kept : S) (edits : List Edit) (told : Type 0) (at : View)
    (sessions : List Session) (sent : Option (List ℕ)) → Only at.image (Now at) → StandsSo stand name kept edits told at sessions sent
    → (image : Image) → Now at image → Rests stand image
now_rests (Any named) name kept edits told at sessions sent only stands image left = tt
now_rests (Over held) name kept edits told at sessions sent only stands image left =
    let P : Image → Type 0 = λ i. StandsForBook i held.state.total held.state.book in subst P (sym (only image left)) stands.stands

pub same_total : {one other : Superblock} → other ≡ one → other.total ≡ one.total
same_total {one} {other} is = ap (λ (s : Superblock). s.total) is

pub no_less : {one other : ℕ} → other ≡ one → one ≤ other
no_less {one} {other} is = omega (arith, is)

pub besides : {at : View} {reads sends : ℕ} → at.beside.read_faults ≡ reads → at.beside.send_faults ≡ sends → AreBeside at reads sends
besides {at} {reads} {sends} r s = record { reads_are = r; sends_are = s }

-- ---- what calls move

pub goes_nowhere : (at : Side) → Goes at at
goes_nowhere at = record {
  serves = serves_none at.told at.view;
  goes_on = goes_none at.under;
  total_is = refl;
  reads = omega arith;
  sends = omega arith;
}

pub goes_further : (old mid new : Side) → Goes old mid → Goes mid new → Goes old new
goes_further old mid new first second = record {
  serves = serves_then old.told mid.told new.told old.view mid.view new.view first.serves second.serves;
  goes_on = goes_on_then old.under mid.under new.under first.goes_on second.goes_on;
  total_is = second.total_is ∙ first.total_is;
  reads = omega (arith, first.reads, second.reads);
  sends = omega (arith, first.sends, second.sends);
}

-- takes
pub goes_streams : (old new : Side) → DiskKept old.view new.view → (old.told → new.told) → (new.told → old.told)
    → GoesOn old.under new.under → new.total ≡ old.total → old.read_faults ≤ new.read_faults → old.send_faults ≤ new.send_faults
    → Goes old new
goes_streams old new kept told was_told on total_is reads sends = record {
  serves = serves_kept old.told new.told old.view new.view kept told was_told;
  goes_on = on;
  total_is = total_is;
  reads = reads;
  sends = sends;
}

-- why a later call ended is why all ended, where no fault was counted before
module _ {F : Type 0} (old mid new : Side) (was : AreBeside old.view old.read_faults old.send_faults)
    (are : AreBeside mid.view mid.read_faults mid.send_faults) (quiet : CountsFault None old.view mid.view) where
  pub cause_later : (end : AnswerEnd F) → IsCause end mid new → IsCause end old new
  cause_later (Serve ReadFault) is = absurd is
  cause_later (Serve SendFault) is = risen_since old.send_faults mid.send_faults new.send_faults
      (sym are.sends_are ∙ sends_stay old.view mid.view quiet ∙ was.sends_are) is
  cause_later (Serve DiskFault) is = risen_since old.view.faults mid.view.faults new.view.faults (disk_stays old.view mid.view quiet) is
  cause_later (Serve (Damaged page)) is = is
  cause_later (Serve InputTooLong) is = is
  cause_later (Serve NoMemory) is = tt
  cause_later (Reply error) is = tt
