use Rattle.std.proofs.Common.{◌≡◌, ◌<◌, ◌^◌, sym, ap, subst, ◌∙◌}
use Rattle.page_space.specs.declared.superblock.Superblock.{Superblock}
use Rattle.series_catalog.specs.Catalogs.{AreFit}
use Rattle.series_store.proofs.StayLemmas.{Stay, told_on, whole_on, trail_on}
use Rattle.series_store.proofs.streams.StoreStreams.take.Goals as goal

pub invariant_of-self : goal.invariant_of-self
invariant_of-self g c =
    let same : c.take.new.self.superblock ≡ c.args.self.now.space.superblock = c.take.ensures.beside.superblock in
    let stay : Stay (g.P.Pages.told c.args.self.now.space.pages) (g.P.Pages.told c.take.new.self.pages)
    (g.P.Pages.view c.args.self.now.space.pages) (g.P.Pages.view c.take.new.self.pages) = record {
      was_fit = g.met.P.PageWorld.take_was_fit c.args.self.now.space.pages c.take.new.self.pages c.take.ensures.beside.pages_are;
      was_told = g.met.P.PageWorld.take_was_told c.args.self.now.space.pages c.take.new.self.pages c.take.ensures.beside.pages_are;
      image = λ told. (g.met.P.PageWorld.take_keeps c.args.self.now.space.pages c.take.new.self.pages
          c.take.ensures.beside.pages_are).image;
    } in
    let P : Superblock → Type 0 = λ s. s.total < 2 ^ 32 in
    let F : Superblock → Type 0 = λ s. AreFit s.fresh c.args.self.now.catalog.series.items in
    let R : Superblock → Type 0 = λ s. c.args.self.now.tree.root < s.total in
    record {
      small = subst P (sym same) c.args.self.now.small;
      count = c.args.self.now.count ∙ ap (λ (s : Superblock). s.series) (sym same);
      fits = subst F (sym same) c.args.self.now.fits;
      told = told_on (g.P.Pages.told c.args.self.now.space.pages) (g.P.Pages.told c.take.new.self.pages)
          (g.P.Pages.view c.args.self.now.space.pages)
          (g.P.Pages.view c.take.new.self.pages) c.args.self.now.catalog.series.items stay c.args.self.now.told;
      whole = whole_on (g.P.Pages.told c.args.self.now.space.pages) (g.P.Pages.told c.take.new.self.pages)
          (g.P.Pages.view c.args.self.now.space.pages)
          (g.P.Pages.view c.take.new.self.pages) c.args.self.now.space.superblock c.take.new.self.superblock stay same
          c.args.self.now.whole;
      few = c.args.self.now.few;
      root = subst R (sym same) c.args.self.now.root;
      proper = c.args.self.now.proper;
      trail_is = trail_on (g.P.Pages.told c.args.self.now.space.pages) (g.P.Pages.told c.take.new.self.pages)
          (g.P.Pages.view c.args.self.now.space.pages)
          (g.P.Pages.view c.take.new.self.pages) c.args.self.now.space.superblock c.take.new.self.superblock c.args.self.now.tree
          c.args.self.now.trail stay same c.args.self.now.trail_is;
    }
