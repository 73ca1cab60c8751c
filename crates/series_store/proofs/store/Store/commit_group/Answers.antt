use Rattle.std.proofs.Common.{◌≡◌, ℕ, List, length, drop, Result, false, sym, subst, arith}
use Rattle.series_book.specs.declared.outcomes.Outcome.{Outcome}
use Rattle.series_book.specs.declared.refusals.Refusal.{Refusal}
use Rattle.tree_walk.proofs.TrailLemmas.{any_trail}
use Rattle.tree_walk.specs.SpaceViews.{space_view}
use Rattle.series_store.specs.Shown as shown
use Rattle.series_store.specs.Grouping.{IsGroupedBy}
use Rattle.block_disk.specs.View.{Image}
use Rattle.page_space.specs.Transactions.{held, left_by}
use Rattle.stored_book.specs.Standing.{StandsForBook}
use Rattle.series_store.proofs.DoneLemmas.{begun}
use Rattle.series_store.proofs.CoverLemmas.{group_stored}
use Rattle.series_store.proofs.store.Store.commit_group.Goals as goal

pub commit_all-requires-clause-staged : goal.commit_all-requires-clause-staged
commit_all-requires-clause-staged g c =
    let base = c.begin.new.self in
    begun (g.P.Pages.view base.space.pages).fit (g.P.Pages.told base.space.pages)
    (g.P.Pages.view base.space.pages).image base.space.superblock c.in_ok-txn.txn base.catalog.series.items
    (rw c.begin.ensures.space c.requires.sound)
    c.in_ok-txn.ensures.superblock c.in_ok-txn.ensures.left
    (record {
      small = base.small;
      count = base.count;
      fits = base.fits;
      are_told = λ now. base.told now.0 now.1;
      whole = λ now. base.whole now.0 now.1;
    })

pub invariant_of-self : goal.invariant_of-self
invariant_of-self g c =
    let told = g.P.Pages.told in
    let view = g.P.Pages.view in
    let under = g.P.Pages.under in
    let base = c.begin.new.self in
    let new = c.commit_all.new.space in
    let group = c.commit_all.ensures.groups in
    let stored = group_stored (told base.space.pages) (told new.pages) (view base.space.pages) (view new.pages) (under base.space.pages)
    (under new.pages) base.space.superblock new.superblock
    (length (held c.in_ok-txn.txn)) base.catalog.series.items c.commit_all.new.catalog.series.items c.args.edits.now
    c.args.answers.now.items c.commit_all.new.answers.items
    (drop (length c.args.answers.now.items) c.commit_all.new.answers.items) c.commit_all.result
    (rw c.begin.ensures.space c.requires.sound) group
    (record {
      small = base.small;
      count = base.count;
      fits = base.fits;
      are_told = λ now. base.told now.0 now.1;
      whole = λ now. base.whole now.0 now.1;
    }) in
    record {
      small = stored.small;
      count = stored.count;
      fits = stored.fits;
      told = λ fit now. stored.are_told (fit, now);
      whole = λ fit now. stored.whole (fit, now);
      few = base.few;
      root = omega (arith, base.root, group.total);
      proper = base.proper;
      trail_is = any_trail (told new.pages) (space_view new.superblock (view new.pages)) base.tree base.trail
          (rw c.begin.ensures.trail c.requires.idle.trail_is);
    }

pub returns-clause-grouped : goal.returns-clause-grouped
returns-clause-grouped g c = rw (
  shown.ForBook,
  shown.IsTold,
  shown.image,
  shown.view,
  shown.pages,
  ← c.begin.ensures.space,
) (λ total book told stands.
    let old = c.begin.new.self.space.pages in
    let new = c.commit_all.new.space.pages in
    let answers = c.commit_all.new.answers.items in
    let left : left_by c.in_ok-txn.txn (g.P.Pages.view old).image ≡ (g.P.Pages.view old).image = c.in_ok-txn.ensures.left told in
    let S : Image → Type 0 = λ i. StandsForBook i total book in
    let N : ℕ → Type 0 = λ n. IsGroupedBy total book n c.args.ends false c.args.edits.now
    (drop (length c.args.answers.now.items) answers) c.commit_all.result (g.P.Pages.view old) (g.P.Pages.view new) in
    let B : List (Result Outcome Refusal) → Type 0 = λ before. IsGroupedBy total book 1 c.args.ends false c.args.edits.now
    (drop (length before) answers) c.commit_all.result (g.P.Pages.view old) (g.P.Pages.view new) in
    subst B c.requires.none (subst N c.in_ok-txn.ensures.len
    (c.commit_all.ensures.grouped total book told (subst S (sym left) stands) (λ none. left))))
