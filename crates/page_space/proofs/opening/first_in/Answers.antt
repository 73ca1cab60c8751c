-- Page 0 is read.
use Rattle.std.proofs.Common.{◌≡◌, ◌∙◌, sym}
use Rattle.std.proofs.lemmas.Result.{IfOk-weaker, IfErr-weaker}
use Rattle.page_space.specs.Causes.{Unreadable, Unopened}
use Rattle.page_space.specs.Layout.{IsSuperblock, Keeps}
use Rattle.page_space.specs.declared.superblock.Superblock.{Superblock}
use Rattle.page_space.proofs.Reading.{rules_at, keeps_at, unopened}
use Rattle.page_space.proofs.opening.first_in.Goals as goal

pub returns-clause-cause : goal.returns-clause-cause
returns-clause-cause g c =
    let old = g.P.Pages.view c.args.pages.now in
    let new = g.P.Pages.view c.get.new.self in
    let told = g.P.Pages.told c.args.pages.now in
    let page = c.get.new.out in
    let same : c.count.result ≡ old.size = c.count.ensures ∙ c.get.ensures.reads.size in
    IfErr-weaker c.superblock_in.result (λ cause. Unreadable cause c.count.result page) (λ cause. Unopened cause told old new)
    (λ cause. unopened cause c.count.result page told old new same c.in_ok-get.ensures.page) c.superblock_in.ensures.cause

pub returns-clause-superblock : goal.returns-clause-superblock
returns-clause-superblock g c =
    let old = g.P.Pages.view c.args.pages.now in
    let told = g.P.Pages.told c.args.pages.now in
    let page = c.get.new.out in
    let same : c.count.result ≡ old.size = c.count.ensures ∙ c.get.ensures.reads.size in
    IfOk-weaker c.superblock_in.result (λ s. Keeps c.count.result s page) (λ s. told → Keeps old.size s (old.image 0))
    (λ s keeps is. keeps_at c.count.result old.size s page (old.image 0) same (c.in_ok-get.ensures.page is) keeps)
    c.superblock_in.ensures.keeps

pub returns-clause-only : goal.returns-clause-only
returns-clause-only g c =
    let old = g.P.Pages.view c.args.pages.now in
    let told = g.P.Pages.told c.args.pages.now in
    let page = c.get.new.out in
    let same : c.count.result ≡ old.size = c.count.ensures ∙ c.get.ensures.reads.size in
    IfOk-weaker c.superblock_in.result (λ s. (t : Superblock) → Keeps c.count.result t page → t ≡ s) (λ s. told → (t : Superblock)
    → Keeps old.size t (old.image 0) → t ≡ s)
    (λ s only is t keeps. only t (keeps_at old.size c.count.result t (old.image 0) page (sym same)
    (sym (c.in_ok-get.ensures.page is)) keeps)) c.superblock_in.ensures.only

pub returns-clause-rules : goal.returns-clause-rules
returns-clause-rules g c =
    let old = g.P.Pages.view c.args.pages.now in
    let same : c.count.result ≡ old.size = c.count.ensures ∙ c.get.ensures.reads.size in
    IfOk-weaker c.superblock_in.result (λ s. Keeps c.count.result s c.get.new.out) (λ s. IsSuperblock old.size s)
    (λ s keeps. rules_at c.count.result old.size s same keeps.rules) c.superblock_in.ensures.keeps
