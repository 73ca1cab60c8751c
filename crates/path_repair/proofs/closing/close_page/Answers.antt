use Rattle.std.proofs.Common.{Some, is_some, length, cond, unwrap_or, ap, refl, sym, subst, arith, ◌∙◌}
use Rattle.std.proofs.lemmas.Bool.{ne_eqb, eq-eqb}
use Rattle.page_space.specs.declared.superblock.Superblock.{Superblock}
use Rattle.page_space.specs.Transactions.{left_by, held, held_page}
use Rattle.page_spans.specs.Heaps.{span_at}
use Rattle.path_repair.proofs.CountLemmas.{none_of}
use Rattle.path_repair.proofs.CloseLemmas.{close_none_at, close_some_at, free_numbers}
use Rattle.path_repair.proofs.ApartLemmas.{apart_free, apart_put}
use Rattle.path_repair.proofs.SpaceLemmas.{moved_put, one_at_most}
use Rattle.path_repair.specs.Repairs as repairs
use Rattle.page_space.specs.Shown as shown
use Rattle.path_repair.proofs.closing.close_page.Goals as goal

pub returns-then-is_none-clause-repaired : goal.returns-then-is_none-clause-repaired
returns-then-is_none-clause-repaired g c = λ base before count list list' others below is slots way.
    close_none_at count before (left_by c.args.txn.now base)
    (left_by c.free.new.txn base) c.args.txn.now.superblock c.free.new.txn.superblock list list' c.args.at.height c.args.at.level below
    c.args.at.index c.args.number c.args.bytes.now (span_at c.args.spans.now)
    (span_at c.gather.new.self) c.top-span.result others is way
    c.top-span.ensures.span (none_of c.top-span.result c.if-is_none.ensures) c.gather.ensures.top
    (λ taken left freed. c.free.ensures.stands count base taken left freed)
    (λ p some other. ap (λ page. unwrap_or page (base p)) (c.free.ensures.others p some other))

pub returns-clause-repaired : goal.returns-clause-repaired
returns-clause-repaired g c = λ base before count list list' others below is slots way.
    close_some_at count before (left_by c.args.txn.now base)
    (left_by c.put.new.txn base) c.args.txn.now.superblock c.put.new.txn.superblock list list' c.args.at.height c.args.at.level below
    c.args.at.index c.args.number (shown.total c.args.space.now) c.args.bytes.now c.gather.new.bytes (span_at c.args.spans.now)
    (span_at c.gather.new.self) c.top-span.result others is way
    c.requires.first (omega (arith, c.requires.below, c.requires.total))
    (ap (λ (one : Superblock). one.total) c.put.ensures.superblock) c.requires.level.1 c.top-span.ensures.span c.if-is_none.ensures
    c.gather.ensures.top c.gather.ensures.nodes c.requires.form c.gather.ensures.kept c.gather.ensures.flags
    c.gather.ensures.differences c.gather.ensures.children
    (λ taken freed. c.put.ensures.stands count base taken freed)
    (ap (λ page. unwrap_or page (base c.args.number)) (c.put.ensures.page c.args.number
    ∙ ap (λ b. cond b (Some c.gather.new.bytes) (held_page c.args.txn.now c.args.number)) (eq-eqb c.args.number c.args.number refl)))
    (λ p other. ap (λ page. unwrap_or page (base p)) (c.put.ensures.page p
    ∙ ap (λ b. cond b (Some c.gather.new.bytes) (held_page c.args.txn.now p)) (ne_eqb p c.args.number other)))

pub returns-then-is_none-clause-moved : goal.returns-then-is_none-clause-moved
returns-then-is_none-clause-moved g c =
    let numbers = free_numbers c.args.txn.now c.free.new.txn c.args.number c.free.ensures.nothing c.free.ensures.superblock in
    subst (λ space. repairs.Moves 0 1 c.args.space.now space c.args.txn.now c.free.new.txn) (sym c.free.ensures.same)
    (moved_put (shown.IsTold c.args.space.now) (shown.view c.args.space.now) (shown.under c.args.space.now)
    (shown.numbers c.args.space.now) c.args.txn.now c.free.new.txn c.free.ensures.same_total numbers.0 (omega (arith, numbers.1))
    (one_at_most _ _ _ c.free.ensures.len))

pub returns-clause-moved : goal.returns-clause-moved
returns-clause-moved g c =
    let same = c.put.ensures.superblock in
    subst (λ space. repairs.Moves 0 1 c.args.space.now space c.args.txn.now c.put.new.txn) (sym c.put.ensures.same)
    (moved_put (shown.IsTold c.args.space.now) (shown.view c.args.space.now) (shown.under c.args.space.now)
    (shown.numbers c.args.space.now) c.args.txn.now c.put.new.txn (ap (λ (s : Superblock). s.total) same)
    (ap (λ (s : Superblock). s.series) same) (omega (arith, ap (λ (s : Superblock). s.fresh) same))
    (one_at_most (is_some (held_page c.args.txn.now c.args.number)) (length (held c.args.txn.now)) (length (held c.put.new.txn))
    (omega (arith, c.put.ensures.len))))

pub returns-then-is_none-clause-apart : goal.returns-then-is_none-clause-apart
returns-then-is_none-clause-apart g c = λ fits base stored from mine kept apart.
    apart_free stored base from c.args.txn.now c.free.new.txn c.args.number mine kept c.free.ensures.nothing c.free.ensures.superblock
    (λ given room. ap (λ page. unwrap_or page (base c.args.number)) (c.free.ensures.page given room))
    (λ p some other. ap (λ page. unwrap_or page (base p)) (c.free.ensures.others p some other)) apart

pub returns-clause-apart : goal.returns-clause-apart
returns-clause-apart g c = λ fits base stored from mine kept apart.
    apart_put stored (left_by c.args.txn.now base) (left_by c.put.new.txn base) from c.args.txn.now.superblock c.put.new.txn.superblock
    c.args.number mine kept c.put.ensures.superblock
    (λ p other. ap (λ page. unwrap_or page (base p)) (c.put.ensures.page p
    ∙ ap (λ b. cond b (Some c.gather.new.bytes) (held_page c.args.txn.now p)) (ne_eqb p c.args.number other))) apart
