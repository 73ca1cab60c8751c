use Rattle.std.proofs.Common.{◌≡◌, ◌<◌, ◌^◌, sym, ap, subst, inl, arith, ◌∙◌, ℕ}
use Rattle.page_space.specs.declared.superblock.Superblock.{Superblock}
use Rattle.page_space.specs.Layout.{in_use}
use Rattle.series_catalog.specs.Catalogs.{AreFit}
use Rattle.stored_book.proofs.PagesInUse.{in_use_of}
use Rattle.tree_walk.proofs.StepLemmas.{error_so}
use Rattle.series_store.specs.Counting.{NamesWithin, IsCheckCause}
use Rattle.series_store.specs.Opening.{IsOutside}
use Rattle.series_store.specs.declared.errors.StoreError.{StoreError}
use Rattle.series_store.proofs.AskLemmas.{own_store, as_many}
use Rattle.series_store.proofs.BookCountLemmas.{check_trees, check_chain, check_whole, stands_on, once_read}
use Rattle.series_store.proofs.LookLemmas.{looks_then}
use Rattle.series_store.proofs.StayLemmas.{Stay, told_on, whole_on, trail_on}
use Rattle.series_store.proofs.store.Store.check.Goals as goal

pub invariant_of-self : goal.invariant_of-self
invariant_of-self g c =
    let kept = c.count_trees.ensures.looks.kept in
    let same : c.count_trees.new.space.superblock ≡ c.args.self.now.space.superblock = c.count_trees.ensures.looks.over.superblock in
    let stay : Stay (g.P.Pages.told c.args.self.now.space.pages) (g.P.Pages.told c.count_trees.new.space.pages)
    (g.P.Pages.view c.args.self.now.space.pages) (g.P.Pages.view c.count_trees.new.space.pages) = record {
      was_fit = λ fit. c.requires.sound;
      was_told = kept.was_told;
      image = kept.image;
    } in
    let P : Superblock → Type 0 = λ s. s.total < 2 ^ 32 in
    let F : Superblock → Type 0 = λ s. AreFit s.fresh c.args.self.now.catalog.series.items in
    let R : Superblock → Type 0 = λ s. c.args.self.now.tree.root < s.total in
    record {
      small = subst P (sym same) c.args.self.now.small;
      count = c.args.self.now.count ∙ ap (λ (s : Superblock). s.series) (sym same);
      fits = subst F (sym same) c.args.self.now.fits;
      told = told_on (g.P.Pages.told c.args.self.now.space.pages) (g.P.Pages.told c.count_trees.new.space.pages)
          (g.P.Pages.view c.args.self.now.space.pages)
          (g.P.Pages.view c.count_trees.new.space.pages) c.args.self.now.catalog.series.items stay c.args.self.now.told;
      whole = whole_on (g.P.Pages.told c.args.self.now.space.pages) (g.P.Pages.told c.count_trees.new.space.pages)
          (g.P.Pages.view c.args.self.now.space.pages)
          (g.P.Pages.view c.count_trees.new.space.pages) c.args.self.now.space.superblock c.count_trees.new.space.superblock stay same
          c.args.self.now.whole;
      few = c.args.self.now.few;
      root = subst R (sym same) c.args.self.now.root;
      proper = c.args.self.now.proper;
      trail_is = trail_on (g.P.Pages.told c.args.self.now.space.pages) (g.P.Pages.told c.count_trees.new.space.pages)
          (g.P.Pages.view c.args.self.now.space.pages)
          (g.P.Pages.view c.count_trees.new.space.pages) c.args.self.now.space.superblock c.count_trees.new.space.superblock
          c.args.self.now.tree c.args.self.now.trail stay same c.args.self.now.trail_is;
    }

pub returns-in_err-values-clause-a_store : goal.returns-in_err-values-clause-a_store
returns-in_err-values-clause-a_store g c = λ total book told stands.
    let store = own_store (g.P.Pages.view c.args.self.now.space.pages).size total
    (g.P.Pages.view c.args.self.now.space.pages).image book c.args.self.now.space.superblock c.args.self.now.space.rules
    c.args.self.now.small (c.args.self.now.space.spelled c.requires.sound told) stands in
    error_so _ IsOutside c.from_residual.result c.from_residual.ensures.1
    (λ e same. inl (same ∙ c.in_err-values.ensures.stands book told store.0 (c.args.self.now.told c.requires.sound told)
    (as_many (g.P.Pages.view c.args.self.now.space.pages).image c.args.self.now.space.superblock book
    c.args.self.now.catalog.series.items store.0 c.args.self.now.count)))

pub returns-in_err-values-clause-cause : goal.returns-in_err-values-clause-cause
returns-in_err-values-clause-cause g c =
    let U : StoreError → Type 0 = λ e. IsCheckCause e (g.P.Pages.told c.args.self.now.space.pages) c.args.self.now.space.superblock
    (g.P.Pages.view c.args.self.now.space.pages) (g.P.Pages.view c.count_trees.new.space.pages) in
    error_so _ U c.from_residual.result c.from_residual.ensures.1
    (λ e same. subst U (sym same) (check_trees c.in_err-values.field-0.0 (g.P.Pages.told c.args.self.now.space.pages)
    (g.P.Pages.view c.args.self.now.space.pages)
    (g.P.Pages.view c.count_trees.new.space.pages) c.args.self.now.space.superblock c.args.self.now.catalog.series.items
    (c.args.self.now.told c.requires.sound) c.args.self.now.count c.in_err-values.ensures.cause))

pub invariant_of-self-2 : goal.invariant_of-self-2
invariant_of-self-2 g c =
    let looks = looks_then (g.P.Pages.told c.args.self.now.space.pages) (g.P.Pages.told c.count_trees.new.space.pages)
    (g.P.Pages.told c.pass_chain.new.space.pages) (g.P.Pages.view c.args.self.now.space.pages)
    (g.P.Pages.view c.count_trees.new.space.pages) (g.P.Pages.view c.pass_chain.new.space.pages)
    (g.P.Pages.under c.args.self.now.space.pages) (g.P.Pages.under c.count_trees.new.space.pages)
    (g.P.Pages.under c.pass_chain.new.space.pages) c.args.self.now.space.superblock c.count_trees.new.space.superblock
    c.pass_chain.new.space.superblock c.count_trees.ensures.looks c.pass_chain.ensures.looks in
    let kept = looks.kept in
    let same : c.pass_chain.new.space.superblock ≡ c.args.self.now.space.superblock = looks.over.superblock in
    let stay : Stay (g.P.Pages.told c.args.self.now.space.pages) (g.P.Pages.told c.pass_chain.new.space.pages)
    (g.P.Pages.view c.args.self.now.space.pages) (g.P.Pages.view c.pass_chain.new.space.pages) = record {
      was_fit = λ fit. c.requires.sound;
      was_told = kept.was_told;
      image = kept.image;
    } in
    let P : Superblock → Type 0 = λ s. s.total < 2 ^ 32 in
    let F : Superblock → Type 0 = λ s. AreFit s.fresh c.args.self.now.catalog.series.items in
    let R : Superblock → Type 0 = λ s. c.args.self.now.tree.root < s.total in
    record {
      small = subst P (sym same) c.args.self.now.small;
      count = c.args.self.now.count ∙ ap (λ (s : Superblock). s.series) (sym same);
      fits = subst F (sym same) c.args.self.now.fits;
      told = told_on (g.P.Pages.told c.args.self.now.space.pages) (g.P.Pages.told c.pass_chain.new.space.pages)
          (g.P.Pages.view c.args.self.now.space.pages)
          (g.P.Pages.view c.pass_chain.new.space.pages) c.args.self.now.catalog.series.items stay c.args.self.now.told;
      whole = whole_on (g.P.Pages.told c.args.self.now.space.pages) (g.P.Pages.told c.pass_chain.new.space.pages)
          (g.P.Pages.view c.args.self.now.space.pages)
          (g.P.Pages.view c.pass_chain.new.space.pages) c.args.self.now.space.superblock c.pass_chain.new.space.superblock stay same
          c.args.self.now.whole;
      few = c.args.self.now.few;
      root = subst R (sym same) c.args.self.now.root;
      proper = c.args.self.now.proper;
      trail_is = trail_on (g.P.Pages.told c.args.self.now.space.pages) (g.P.Pages.told c.pass_chain.new.space.pages)
          (g.P.Pages.view c.args.self.now.space.pages)
          (g.P.Pages.view c.pass_chain.new.space.pages) c.args.self.now.space.superblock c.pass_chain.new.space.superblock
          c.args.self.now.tree c.args.self.now.trail stay same c.args.self.now.trail_is;
    }

pub returns-in_err-pass_chain-clause-a_store : goal.returns-in_err-pass_chain-clause-a_store
returns-in_err-pass_chain-clause-a_store g c = λ total book told stands.
    let store = own_store (g.P.Pages.view c.args.self.now.space.pages).size total
    (g.P.Pages.view c.args.self.now.space.pages).image book c.args.self.now.space.superblock c.args.self.now.space.rules
    c.args.self.now.small (c.args.self.now.space.spelled c.requires.sound told) stands in
    let looks = c.count_trees.ensures.looks in
    error_so _ IsOutside c.from_residual-in_err-pass_chain.result c.from_residual-in_err-pass_chain.ensures.1
    (λ e same. subst IsOutside (sym same) (c.in_err-pass_chain.ensures.stands c.args.self.now.space.superblock.total _ store.0.freed
    (looks.kept.told told)
    (stands_on (g.P.Pages.view c.args.self.now.space.pages).image
    (g.P.Pages.view c.count_trees.new.space.pages).image c.args.self.now.space.superblock c.count_trees.new.space.superblock
    c.args.self.now.space.superblock.total _ store.0.freed (looks.kept.image told) looks.over.superblock store.0.stands)))

pub returns-in_err-pass_chain-clause-cause : goal.returns-in_err-pass_chain-clause-cause
returns-in_err-pass_chain-clause-cause g c =
    let looks = c.count_trees.ensures.looks in
    let U : StoreError → Type 0 = λ e. IsCheckCause e (g.P.Pages.told c.args.self.now.space.pages) c.args.self.now.space.superblock
    (g.P.Pages.view c.args.self.now.space.pages) (g.P.Pages.view c.pass_chain.new.space.pages) in
    error_so _ U c.from_residual-in_err-pass_chain.result c.from_residual-in_err-pass_chain.ensures.1
    (λ e same. subst U (sym same) (check_chain c.in_err-pass_chain.field-0.0 (g.P.Pages.told c.args.self.now.space.pages)
    (g.P.Pages.told c.count_trees.new.space.pages) (g.P.Pages.view c.args.self.now.space.pages)
    (g.P.Pages.view c.count_trees.new.space.pages)
    (g.P.Pages.view c.pass_chain.new.space.pages) c.args.self.now.space.superblock c.count_trees.new.space.superblock looks.kept
    c.in_ok-values.ensures.quiet looks.over.superblock c.in_err-pass_chain.ensures.cause))

pub returns-in_err-pass_chain-clause-looks : goal.returns-in_err-pass_chain-clause-looks
returns-in_err-pass_chain-clause-looks g c =
    looks_then (g.P.Pages.told c.args.self.now.space.pages) (g.P.Pages.told c.count_trees.new.space.pages)
    (g.P.Pages.told c.pass_chain.new.space.pages) (g.P.Pages.view c.args.self.now.space.pages)
    (g.P.Pages.view c.count_trees.new.space.pages) (g.P.Pages.view c.pass_chain.new.space.pages)
    (g.P.Pages.under c.args.self.now.space.pages) (g.P.Pages.under c.count_trees.new.space.pages)
    (g.P.Pages.under c.pass_chain.new.space.pages) c.args.self.now.space.superblock c.count_trees.new.space.superblock
    c.pass_chain.new.space.superblock c.count_trees.ensures.looks c.pass_chain.ensures.looks

pub returns-clause-counts : goal.returns-clause-counts
returns-clause-counts g c = λ total book told stands.
    let store = own_store (g.P.Pages.view c.args.self.now.space.pages).size total
    (g.P.Pages.view c.args.self.now.space.pages).image book c.args.self.now.space.superblock c.args.self.now.space.rules
    c.args.self.now.small (c.args.self.now.space.spelled c.requires.sound told) stands in
    let same : c.pass_chain.new.space.superblock ≡ c.args.self.now.space.superblock = c.pass_chain.ensures.looks.over.superblock
    ∙ c.count_trees.ensures.looks.over.superblock in
    let long = as_many (g.P.Pages.view c.args.self.now.space.pages).image c.args.self.now.space.superblock book
    c.args.self.now.catalog.series.items store.0 c.args.self.now.count in
    record {
      series = c.len.ensures.count ∙ long;
      values = c.in_ok-values.ensures.counts book told store.0 (c.args.self.now.told c.requires.sound told) long;
      used = c.used.ensures.used ∙ ap (λ (s : Superblock). in_use s) same
          ∙ in_use_of (g.P.Pages.view c.args.self.now.space.pages).image c.args.self.now.space.superblock book store.0;
      total_is = c.total.ensures.total ∙ ap (λ (s : Superblock). s.total) same ∙ store.1;
    }

pub returns-clause-whole : goal.returns-clause-whole
returns-clause-whole g c = λ told.
    let looks = c.count_trees.ensures.looks in
    check_whole (g.P.Pages.told c.args.self.now.space.pages) (g.P.Pages.told c.count_trees.new.space.pages)
    (g.P.Pages.view c.args.self.now.space.pages)
    (g.P.Pages.view c.count_trees.new.space.pages) c.args.self.now.space.superblock c.count_trees.new.space.superblock
    c.args.self.now.catalog.series.items looks.kept looks.over.superblock
    (c.args.self.now.told c.requires.sound) c.args.self.now.count c.in_ok-values.ensures.whole c.in_ok-pass_chain.ensures.whole told

pub returns-clause-looks : goal.returns-clause-looks
returns-clause-looks g c =
    looks_then (g.P.Pages.told c.args.self.now.space.pages) (g.P.Pages.told c.count_trees.new.space.pages)
    (g.P.Pages.told c.pass_chain.new.space.pages) (g.P.Pages.view c.args.self.now.space.pages)
    (g.P.Pages.view c.count_trees.new.space.pages) (g.P.Pages.view c.pass_chain.new.space.pages)
    (g.P.Pages.under c.args.self.now.space.pages) (g.P.Pages.under c.count_trees.new.space.pages)
    (g.P.Pages.under c.pass_chain.new.space.pages) c.args.self.now.space.superblock c.count_trees.new.space.superblock
    c.pass_chain.new.space.superblock c.count_trees.ensures.looks c.pass_chain.ensures.looks

pub returns-in_err-values-clause-reads : goal.returns-in_err-values-clause-reads
returns-in_err-values-clause-reads g c = λ total book told stands.
    let store = own_store (g.P.Pages.view c.args.self.now.space.pages).size total
    (g.P.Pages.view c.args.self.now.space.pages).image book c.args.self.now.space.superblock c.args.self.now.space.rules
    c.args.self.now.small (c.args.self.now.space.spelled c.requires.sound told) stands in
    let long = as_many (g.P.Pages.view c.args.self.now.space.pages).image c.args.self.now.space.superblock book
    c.args.self.now.catalog.series.items store.0 c.args.self.now.count in
    once_read (g.P.Pages.view c.args.self.now.space.pages).image c.args.self.now.space.superblock book c.args.self.now.catalog.series.items
    (g.P.Pages.view c.args.self.now.space.pages).reads (g.P.Pages.view c.count_trees.new.space.pages).reads
    (g.P.Pages.view c.count_trees.new.space.pages).reads store.0 (c.args.self.now.told c.requires.sound told) long
    (c.count_trees.ensures.reads told)
    (omega arith)

pub returns-in_err-pass_chain-clause-reads : goal.returns-in_err-pass_chain-clause-reads
returns-in_err-pass_chain-clause-reads g c = λ total book told stands.
    let store = own_store (g.P.Pages.view c.args.self.now.space.pages).size total
    (g.P.Pages.view c.args.self.now.space.pages).image book c.args.self.now.space.superblock c.args.self.now.space.rules
    c.args.self.now.small (c.args.self.now.space.spelled c.requires.sound told) stands in
    let long = as_many (g.P.Pages.view c.args.self.now.space.pages).image c.args.self.now.space.superblock book
    c.args.self.now.catalog.series.items store.0 c.args.self.now.count in
    once_read (g.P.Pages.view c.args.self.now.space.pages).image c.args.self.now.space.superblock book c.args.self.now.catalog.series.items
    (g.P.Pages.view c.args.self.now.space.pages).reads (g.P.Pages.view c.count_trees.new.space.pages).reads
    (g.P.Pages.view c.pass_chain.new.space.pages).reads store.0 (c.args.self.now.told c.requires.sound told) long
    (c.count_trees.ensures.reads told)
    (omega (arith, c.pass_chain.ensures.reads, ap (λ (s : Superblock). s.chain) c.count_trees.ensures.looks.over.superblock))

pub returns-clause-reads : goal.returns-clause-reads
returns-clause-reads g c = λ total book told stands.
    let store = own_store (g.P.Pages.view c.args.self.now.space.pages).size total
    (g.P.Pages.view c.args.self.now.space.pages).image book c.args.self.now.space.superblock c.args.self.now.space.rules
    c.args.self.now.small (c.args.self.now.space.spelled c.requires.sound told) stands in
    let long = as_many (g.P.Pages.view c.args.self.now.space.pages).image c.args.self.now.space.superblock book
    c.args.self.now.catalog.series.items store.0 c.args.self.now.count in
    once_read (g.P.Pages.view c.args.self.now.space.pages).image c.args.self.now.space.superblock book c.args.self.now.catalog.series.items
    (g.P.Pages.view c.args.self.now.space.pages).reads (g.P.Pages.view c.count_trees.new.space.pages).reads
    (g.P.Pages.view c.pass_chain.new.space.pages).reads store.0 (c.args.self.now.told c.requires.sound told) long
    (c.count_trees.ensures.reads told)
    (omega (arith, c.pass_chain.ensures.reads, ap (λ (s : Superblock). s.chain) c.count_trees.ensures.looks.over.superblock))

pub returns-in_err-values-clause-within : goal.returns-in_err-values-clause-within
returns-in_err-values-clause-within g c =
    let W : StoreError → Type 0 = λ e. NamesWithin c.args.self.now.space.superblock.total e in
    error_so _ W c.from_residual.result c.from_residual.ensures.1 (λ e same. subst W (sym same) c.in_err-values.ensures.within)

pub returns-in_err-pass_chain-clause-within : goal.returns-in_err-pass_chain-clause-within
returns-in_err-pass_chain-clause-within g c =
    let W : StoreError → Type 0 = λ e. NamesWithin c.args.self.now.space.superblock.total e in
    let N : ℕ → Type 0 = λ n. NamesWithin n c.in_err-pass_chain.field-0.0 in
    error_so _ W c.from_residual-in_err-pass_chain.result c.from_residual-in_err-pass_chain.ensures.1
    (λ e same. subst W (sym same) (subst N (ap (λ (s : Superblock). s.total) c.count_trees.ensures.looks.over.superblock)
    c.in_err-pass_chain.ensures.within))

pub returns-in_err-values-clause-quiet_err : goal.returns-in_err-values-clause-quiet_err
returns-in_err-values-clause-quiet_err g c =
    error_so _ _ c.from_residual.result c.from_residual.ensures.1
    (λ e same other. c.in_err-values.ensures.quiet_err (λ is. other (same ∙ is)))

pub returns-in_err-pass_chain-clause-quiet_err : goal.returns-in_err-pass_chain-clause-quiet_err
returns-in_err-pass_chain-clause-quiet_err g c =
    error_so _ _ c.from_residual-in_err-pass_chain.result c.from_residual-in_err-pass_chain.ensures.1
    (λ e same other. c.in_err-pass_chain.ensures.quiet_err (λ is. other (same ∙ is)) ∙ c.in_ok-values.ensures.quiet)
