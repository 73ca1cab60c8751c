use Rattle.std.proofs.Common.{◌≡◌, ◌∙◌, ℤ, rules, sym, ap, subst, to_z, of_z}
use Rattle.std.specs.Int.{w128}
use Rattle.host_lines.specs.declared.asked.HostLine.{HostLine}
use Rattle.host_lines.specs.declared.asked.HostLine.TheVariants.{Values}
use Rattle.series_store.specs.Shown as stored
use Rattle.host_replies.specs.Reading.{Reads}
use Rattle.host_replies.proofs.ReadLemmas.{sum_why}
use Rattle.host_replies.proofs.reading.reply_at.Goals as goal

pub returns-in-Values : goal.returns-in-Values
returns-in-Values g c =
    let name = c.in-Values.name in
    let t0 = to_z w128 (of_z w128 c.in-Values.t0) in
    let t1 = to_z w128 (of_z w128 c.in-Values.t1) in
    let from : t0 ≡ c.in-Values.t0 = search rules in
    let to : t1 ≡ c.in-Values.t1 = search rules in
    let at : Values name t0 t1 ≡ c.args.asked.now = ap (λ (t : ℤ). Values name t t1) from ∙ ap (λ (t : ℤ). Values name c.in-Values.t0 t) to
    ∙ sym c.in-Values.is in
    let R : HostLine → Type 0 = λ asked. Reads asked c.args.store.now c.values_reply.new.store c.values_reply.result in
    let said = c.values_reply.ensures in
    subst R at (record {
      reply = said.reply;
      standing = said.standing;
      fits = said.fits;
      may = said.may;
      looks = said.looks;
      reads = said.reads;
      reads_over = λ total book told stands. said.reads;
      cause = said.cause;
      faults = said.faults;
    })

pub returns-in-Sum : goal.returns-in-Sum
returns-in-Sum g c =
    let at = c.args.store.now in
    let later = c.sum_frame.new.store in
    let said = c.sum_frame.ensures in
    let R : HostLine → Type 0 = λ asked. Reads asked at later c.sum_frame.result in
    subst R (sym c.in-Sum.is) (record {
      reply = said.reply;
      standing = said.outside;
      fits = said.fits;
      may = said.may;
      looks = said.looks;
      reads = tt;
      reads_over = said.reads;
      cause = sum_why (stored.IsTold at) (stored.IsTold later) (stored.view at) (stored.view later) (stored.under at) (stored.under later)
          (stored.numbers at) (stored.numbers later) (stored.kept_catalog at) (stored.kept_catalog later) said.looks
          c.in-Sum.session c.in-Sum.request c.sum_frame.result at.space.rules.total_high said.cause;
      faults = said.faults;
    })
