use Rattle.std.proofs.Common.{◌∙◌, ◌-◌, List, IsTrue, length, take, drop, sym, ap, subst, arith}
use Rattle.std.specs.List.{list_all}
use Rattle.block_disk.specs.MemDisk.{blocks_of, before_all, HasNoSync}
use Rattle.block_disk.specs.Record.{call_fits}
use Rattle.block_disk.specs.Tear.{EndsSynced}
use Rattle.block_disk.specs.declared.mem_disk.Call.{Call}
use Rattle.block_disk.proofs.MemMoves.{now_left}
use Rattle.block_disk.proofs.Tears.{crashed, all_behind, behind_all}
use Rattle.block_disk.proofs.mem_disk.MemDisk.after_crash.Goals as goal

pub tear_all-requires-clause-fits : goal.tear_all-requires-clause-fits
tear_all-requires-clause-fits c =
    let self = c.args.self in
    let calls = c.as_slice-calls.result.now in
    let P : List Call → Type 0 = λ l. IsTrue (list_all (call_fits self.blocks) l) in
    subst P (sym (behind_all calls c.undo-synced.result))
    (all_behind (call_fits self.blocks) calls c.undo-synced.result (subst P (sym c.as_slice-calls.ensures.value) self.noted))

pub returns-clause-left : goal.returns-clause-left
returns-clause-left c =
    let self = c.args.self in
    let calls = self.record.items in
    let synced = c.undo-synced.result in
    let slice = c.as_slice-calls.result.now in
    let PE : List Call → Type 0 = λ l. EndsSynced (take synced l) in
    let PN : List Call → Type 0 = λ l. HasNoSync (drop synced l) in
    let image = blocks_of self.bytes.items in
    let undone =
    ap (λ l. blocks_of l) c.as_slice-3.ensures.value
    ∙ c.undo-synced.ensures.undone
    ∙ ap (λ l. before_all (drop synced l) (blocks_of c.in_ok-old.old.items)) c.as_slice-2.ensures.value
    ∙ ap (λ b. before_all (drop synced calls) (blocks_of b)) (c.in_ok-old.ensures.items ∙ c.as_slice.ensures.value) in
    let left = crashed c.args.tear calls (take (length slice - synced) (drop synced slice)) synced image (blocks_of c.as_slice-4.result.now)
    (blocks_of c.as_slice-3.result.now) (blocks_of c.in_ok-bytes.bytes.items)
    (subst PE c.as_slice-2.ensures.value c.undo-synced.ensures.synced)
    (subst PN c.as_slice-2.ensures.value c.undo-synced.ensures.since)
    (behind_all slice synced ∙ ap (λ l. drop synced l) c.as_slice-calls.ensures.value)
    undone
    (ap (λ l. blocks_of l) c.as_slice-4.ensures.value)
    c.in_ok-bytes.ensures.torn in
    left

pub returns-clause-possible : goal.returns-clause-possible
returns-clause-possible c =
    let self = c.args.self in
    let calls = self.record.items in
    let synced = c.undo-synced.result in
    let slice = c.as_slice-calls.result.now in
    let PE : List Call → Type 0 = λ l. EndsSynced (take synced l) in
    let PN : List Call → Type 0 = λ l. HasNoSync (drop synced l) in
    let image = blocks_of self.bytes.items in
    let undone =
    ap (λ l. blocks_of l) c.as_slice-3.ensures.value
    ∙ c.undo-synced.ensures.undone
    ∙ ap (λ l. before_all (drop synced l) (blocks_of c.in_ok-old.old.items)) c.as_slice-2.ensures.value
    ∙ ap (λ b. before_all (drop synced calls) (blocks_of b)) (c.in_ok-old.ensures.items ∙ c.as_slice.ensures.value) in
    let left = crashed c.args.tear calls (take (length slice - synced) (drop synced slice)) synced image (blocks_of c.as_slice-4.result.now)
    (blocks_of c.as_slice-3.result.now) (blocks_of c.in_ok-bytes.bytes.items)
    (subst PE c.as_slice-2.ensures.value c.undo-synced.ensures.synced)
    (subst PN c.as_slice-2.ensures.value c.undo-synced.ensures.since)
    (behind_all slice synced ∙ ap (λ l. drop synced l) c.as_slice-calls.ensures.value)
    undone
    (ap (λ l. blocks_of l) c.as_slice-4.ensures.value)
    c.in_ok-bytes.ensures.torn in
    now_left calls image (blocks_of c.in_ok-bytes.bytes.items) (length calls) (omega arith) left.others
