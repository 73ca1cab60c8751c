use Rattle.std.proofs.Common.{◌≡◌, ℕ, ◌+◌, ◌<◌, List, get_or, take, drop, length, sym, ◌∙◌, arith, length-drop}
use Rattle.std.proofs.lemmas.Bool.{eqb-true}
use Rattle.std.proofs.lemmas.List.{get_or-drop, get_or-take, length-take-le}
use Rattle.block_disk.specs.Blocks.{IsBlock}
use Rattle.node_page.proofs.FullPages.{flags_of_full, nodes_of_full}
use Rattle.node_page.proofs.rules.are_all_set.Goals as goal

-- the bytes of a part that is full
full_at : (page : List ℕ) → IsBlock page → ((k : ℕ) → k < length (take 31 (drop 8 page)) → get_or (take 31 (drop 8 page)) k 0 ≡ 255)
    → (k : ℕ) → k < 31 → get_or page (8 + k) 0 ≡ 255
full_at page whole all k few =
    let part = drop 8 page in
    let size : length (take 31 part) ≡ 31 = length-take-le 31 part (omega (arith, length-drop 8 page, whole)) in
    sym (get_or-drop 8 page k 0) ∙ sym (get_or-take 31 part k 0 few) ∙ all k (omega (arith, size, few))

pub returns-then-are_full-clause-flags : goal.returns-then-are_full-clause-flags
returns-then-are_full-clause-flags c last =
    let page = c.args.page.now in
    flags_of_full page (full_at page c.requires.whole (c.are_full.ensures c.if-are_full.true)) (eqb-true (get_or page 39 0) 63 last)

pub returns-then-are_full-clause-full : goal.returns-then-are_full-clause-full
returns-then-are_full-clause-full c last =
    let page = c.args.page.now in
    nodes_of_full page (full_at page c.requires.whole (c.are_full.ensures c.if-are_full.true)) (eqb-true (get_or page 39 0) 63 last)
