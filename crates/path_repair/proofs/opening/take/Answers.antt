use Rattle.std.proofs.Common.{◌∷◌, drop, unwrap_or, sym, ap, subst, arith}
use Rattle.block_disk.specs.View.{Image}
use Rattle.page_space.specs.Spaces.{Stands}
use Rattle.page_space.specs.Transactions.{left_by}
use Rattle.page_space.proofs.Spacing.{stands_counts}
use Rattle.page_space.specs.Causes.{Refuses}
use Rattle.page_space.specs.declared.errors.SpaceError.{SpaceError}
use Rattle.page_space.specs.declared.errors.SpaceError.TheVariants.{Full, Damaged}
use Rattle.path_repair.specs.Apart.{StandsApart, and_page}
use Rattle.path_repair.proofs.ApartLemmas.{apart_taken, apart_broken}
use Rattle.path_repair.specs.Keeping.{IsOwn}
use Rattle.path_repair.proofs.KeepLemmas.{taken_own}
use Rattle.path_repair.proofs.SpaceLemmas.{moved_read, moved_take}
use Rattle.page_space.specs.Shown as shown
use Rattle.path_repair.proofs.opening.take.Goals as goal

pub returns-in-Ok-clause-taken : goal.returns-in-Ok-clause-taken
returns-in-Ok-clause-taken g c = λ base count used freed told stands.
    let before : Image → Type 0 = λ image. Stands count (left_by c.args.txn.now image) c.args.txn.now.superblock used freed in
    let after : Image → Type 0 = λ image. Stands count (left_by c.alloc.new.txn image) c.alloc.new.txn.superblock (c.in-Ok.page ∷ used)
    (drop 1 freed) in
    record {
      freed = drop 1 freed;
      stands = subst after told.are (c.in-Ok.ensures.stands told.are_told count used freed (subst before (sym told.are) stands));
      same = λ q some. ap (λ page. unwrap_or page (base q)) (c.alloc.ensures.pages.others q some);
    }

pub returns-in-Err-Full-clause-sound : goal.returns-in-Err-Full-clause-sound
returns-in-Err-Full-clause-sound g c = λ base count used freed told stands room.
    let P : SpaceError → Type 0 = λ e. Refuses e (shown.IsTold c.args.space.now)
    (left_by c.args.txn.now (shown.image c.args.space.now)) c.args.txn.now.superblock (shown.view c.args.space.now).faults
    (shown.view c.alloc.new.self).faults in
    let refused : P (Full c.in-Err-Full.needed c.in-Err-Full.have) = subst P c.in-Err-Full.field-0-is c.in-Err-Full.ensures.cause in
    let full = refused.0 in
    absurd (omega (
      arith,
      room,
      full.0,
      full.1,
      stands.chain_is,
      stands_counts count (left_by c.args.txn.now base) c.args.txn.now.superblock used freed stands,
    ))

pub returns-in-Err-Damaged-clause-sound : goal.returns-in-Err-Damaged-clause-sound
returns-in-Err-Damaged-clause-sound g c = λ base count used freed told stands room.
    let before : Image → Type 0 = λ image. Stands count (left_by c.args.txn.now image) c.args.txn.now.superblock used freed in
    absurd (c.in-Err-Damaged.ensures.undamaged told.are_told count c.in-Err-Damaged.page used freed
    (subst before (sym told.are) stands) c.in-Err-Damaged.field-0-is)

pub returns-in-Ok-clause-own : goal.returns-in-Ok-clause-own
returns-in-Ok-clause-own g c = λ base level told.
    let P : Image → Type 0 = λ image. IsOwn (left_by c.args.txn.now image) c.args.txn.now.superblock.fresh c.alloc.new.txn.superblock.fresh
    level c.in-Ok.page in
    subst P told.are (taken_own (shown.IsTold c.args.space.now)
    (left_by c.args.txn.now (shown.image c.args.space.now)) c.args.txn.now.superblock c.alloc.new.txn.superblock level c.in-Ok.page
    told.are_told c.in-Ok.ensures.takes c.in-Ok.ensures.given)

pub returns-in-Ok-clause-apart : goal.returns-in-Ok-clause-apart
returns-in-Ok-clause-apart g c = λ base fits stored from mine kept told apart.
    let before : Image → Type 0 = λ image. StandsApart fits stored
    (left_by c.args.txn.now image) from c.args.txn.now.superblock mine kept in
    let after : Image → Type 0 = λ image. StandsApart fits stored (left_by c.alloc.new.txn image) from c.alloc.new.txn.superblock
    (and_page c.in-Ok.page mine) kept in
    subst after told.are (apart_taken (shown.IsTold c.args.space.now) stored
    (shown.image c.args.space.now) from c.args.txn.now c.alloc.new.txn c.in-Ok.page mine kept told.are_told c.alloc.ensures.pages
    c.in-Ok.ensures.given c.in-Ok.ensures.takes (subst before (sym told.are) apart))

pub returns-in-Err-Damaged-clause-broken : goal.returns-in-Err-Damaged-clause-broken
returns-in-Err-Damaged-clause-broken g c = λ base fits stored from mine kept told apart.
    let before : Image → Type 0 = λ image. StandsApart fits stored
    (left_by c.args.txn.now image) from c.args.txn.now.superblock mine kept in
    let P : SpaceError → Type 0 = λ e. Refuses e (shown.IsTold c.args.space.now)
    (left_by c.args.txn.now (shown.image c.args.space.now)) c.args.txn.now.superblock (shown.view c.args.space.now).faults
    (shown.view c.alloc.new.self).faults in
    let refused : P (Damaged c.in-Err-Damaged.page) = subst P c.in-Err-Damaged.field-0-is c.in-Err-Damaged.ensures.cause in
    apart_broken (shown.IsTold c.args.space.now) stored
    (left_by c.args.txn.now (shown.image c.args.space.now)) from c.args.txn.now.superblock c.in-Err-Damaged.page mine kept
    (shown.view c.args.space.now).faults (shown.view c.alloc.new.self).faults told.are_told refused (subst before (sym told.are) apart)

pub returns-in-Ok-clause-moved : goal.returns-in-Ok-clause-moved
returns-in-Ok-clause-moved g c =
    moved_take (shown.IsTold c.args.space.now) (shown.IsTold c.alloc.new.self) (shown.view c.args.space.now) (shown.view c.alloc.new.self)
    (shown.under c.args.space.now) (shown.under c.alloc.new.self) (shown.numbers c.args.space.now)
    (shown.numbers c.alloc.new.self) c.args.txn.now c.alloc.new.txn
    (shown.left c.args.space.now c.args.txn.now) c.in-Ok.page c.alloc.ensures.reads c.alloc.ensures.goes_on c.alloc.ensures.superblock
    c.alloc.ensures.pages c.in-Ok.ensures.takes

pub returns-in-Err-Full-clause-moved : goal.returns-in-Err-Full-clause-moved
returns-in-Err-Full-clause-moved g c =
    moved_read (shown.IsTold c.args.space.now) (shown.IsTold c.alloc.new.self) (shown.view c.args.space.now) (shown.view c.alloc.new.self)
    (shown.under c.args.space.now) (shown.under c.alloc.new.self) (shown.numbers c.args.space.now)
    (shown.numbers c.alloc.new.self) c.args.txn.now c.alloc.new.txn c.alloc.ensures.reads c.alloc.ensures.goes_on
    c.alloc.ensures.superblock c.in-Err-Full.ensures.same

pub returns-in-Err-DiskFault-clause-moved : goal.returns-in-Err-DiskFault-clause-moved
returns-in-Err-DiskFault-clause-moved g c =
    moved_read (shown.IsTold c.args.space.now) (shown.IsTold c.alloc.new.self) (shown.view c.args.space.now) (shown.view c.alloc.new.self)
    (shown.under c.args.space.now) (shown.under c.alloc.new.self) (shown.numbers c.args.space.now)
    (shown.numbers c.alloc.new.self) c.args.txn.now c.alloc.new.txn c.alloc.ensures.reads c.alloc.ensures.goes_on
    c.alloc.ensures.superblock c.in-Err-DiskFault.ensures.same

pub returns-in-Err-Damaged-clause-moved : goal.returns-in-Err-Damaged-clause-moved
returns-in-Err-Damaged-clause-moved g c =
    moved_read (shown.IsTold c.args.space.now) (shown.IsTold c.alloc.new.self) (shown.view c.args.space.now) (shown.view c.alloc.new.self)
    (shown.under c.args.space.now) (shown.under c.alloc.new.self) (shown.numbers c.args.space.now)
    (shown.numbers c.alloc.new.self) c.args.txn.now c.alloc.new.txn c.alloc.ensures.reads c.alloc.ensures.goes_on
    c.alloc.ensures.superblock c.in-Err-Damaged.ensures.same
