use Rattle.std.proofs.Common.{◌+◌, length, refl, sym, ◌∙◌, ap, add-zero}
use Rattle.chart_frames.specs.declared.frame.Frame.{Frame}
use Rattle.chart_frames.specs.Frames.{spelling}
use Rattle.demo_workload.specs.declared.summaries.Summary.{Summary}
use Rattle.demo_workload.proofs.Summing.{added_so}
use Rattle.demo_workload.proofs.summaries.Summary.add.Goals as goal

pub returns-in-Done-clause-summary : goal.returns-in-Done-clause-summary
returns-in-Done-clause-summary c = λ frames pictures is.
    let now : Summary = c.args.self.now in
    added_so frames pictures c.args.frame.now c.args.picture.now _ now
    (now.done + 1) now.refused now.views now.sent c.black.result is c.in-Done.is refl (sym (add-zero now.refused))
    (sym (add-zero now.views)) (sym (add-zero now.sent)) c.black.ensures.pixels

pub returns-in-Refused-clause-summary : goal.returns-in-Refused-clause-summary
returns-in-Refused-clause-summary c = λ frames pictures is.
    let now : Summary = c.args.self.now in
    added_so frames pictures c.args.frame.now c.args.picture.now _ now now.done
    (now.refused + 1) now.views now.sent c.black.result is c.in-Refused.is (sym (add-zero now.done)) refl (sym (add-zero now.views))
    (sym (add-zero now.sent)) c.black.ensures.pixels

pub returns-in-Opened-clause-summary : goal.returns-in-Opened-clause-summary
returns-in-Opened-clause-summary c = λ frames pictures is.
    let now : Summary = c.args.self.now in
    added_so frames pictures c.args.frame.now c.args.picture.now _ now now.done now.refused now.views now.sent c.black.result is
    c.in-Opened.is (sym (add-zero now.done)) (sym (add-zero now.refused)) (sym (add-zero now.views))
    (sym (add-zero now.sent)) c.black.ensures.pixels

pub returns-in-Closed-clause-summary : goal.returns-in-Closed-clause-summary
returns-in-Closed-clause-summary c = λ frames pictures is.
    let now : Summary = c.args.self.now in
    added_so frames pictures c.args.frame.now c.args.picture.now _ now now.done now.refused now.views now.sent c.black.result is
    c.in-Closed.is (sym (add-zero now.done)) (sym (add-zero now.refused)) (sym (add-zero now.views))
    (sym (add-zero now.sent)) c.black.ensures.pixels

pub returns-in-View-clause-summary : goal.returns-in-View-clause-summary
returns-in-View-clause-summary c = λ frames pictures is.
    let now : Summary = c.args.self.now in
    c.add_view.ensures ∙ added_so frames pictures c.args.frame.now c.args.picture.now _ now now.done now.refused (now.views + 1)
    (now.sent + c.args.bytes) c.black.result is c.in-View.is (sym (add-zero now.done)) (sym (add-zero now.refused)) refl
    (ap (λ n. now.sent + n) (c.requires.spelled ∙ ap (λ (f : Frame). length (spelling f)) c.in-View.is)) c.black.ensures.pixels

pub returns-in-Rows-clause-summary : goal.returns-in-Rows-clause-summary
returns-in-Rows-clause-summary c = λ frames pictures is.
    let now : Summary = c.args.self.now in
    c.add_view-in-Rows.ensures ∙ added_so frames pictures c.args.frame.now c.args.picture.now _ now now.done now.refused (now.views + 1)
    (now.sent + c.args.bytes) c.black.result is c.in-Rows.is (sym (add-zero now.done)) (sym (add-zero now.refused)) refl
    (ap (λ n. now.sent + n) (c.requires.spelled ∙ ap (λ (f : Frame). length (spelling f)) c.in-Rows.is)) c.black.ensures.pixels

pub returns-in-Live-clause-summary : goal.returns-in-Live-clause-summary
returns-in-Live-clause-summary c = λ frames pictures is.
    let now : Summary = c.args.self.now in
    added_so frames pictures c.args.frame.now c.args.picture.now _ now now.done now.refused now.views now.sent c.black.result is
    c.in-Live.is (sym (add-zero now.done)) (sym (add-zero now.refused)) (sym (add-zero now.views))
    (sym (add-zero now.sent)) c.black.ensures.pixels

pub returns-in-Report-clause-summary : goal.returns-in-Report-clause-summary
returns-in-Report-clause-summary c = λ frames pictures is.
    let now : Summary = c.args.self.now in
    added_so frames pictures c.args.frame.now c.args.picture.now _ now now.done now.refused now.views now.sent c.black.result is
    c.in-Report.is (sym (add-zero now.done)) (sym (add-zero now.refused)) (sym (add-zero now.views))
    (sym (add-zero now.sent)) c.black.ensures.pixels
