use Rattle.std.proofs.Common.{◌≡◌, ◌∙◌, ℕ, Option, ap, sym, subst}
use Rattle.std.specs.Prelude.{is_some}
use Rattle.chart_service.specs.Shown as shown
use Rattle.host_lines.specs.declared.asked.HostLine.{HostLine}
use Rattle.host_replies.specs.Replies.{has_session}
use Rattle.host_replies.proofs.ReplyLemmas.{open_by_cache}
use Rattle.host_replies.proofs.replies.has_session.Goals as goal

pub returns-in-Sum : goal.returns-in-Sum
returns-in-Sum g c =
    let ss = shown.sessions c.args.service.now in
    let P : HostLine → Type 0 = λ asked. c.is_some.result ≡ has_session asked ss in
    subst P (sym c.in-Sum.is) (c.is_some.ensures ∙ ap (λ (o : Option ℕ). is_some o) c.cache.ensures.cache
    ∙ open_by_cache c.in-Sum.session ss)
