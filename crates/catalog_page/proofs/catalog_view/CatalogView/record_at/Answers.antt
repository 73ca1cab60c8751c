use Rattle.std.proofs.Common.{◌∙◌, sym, ap, subst}
use Rattle.catalog_page.specs.Fields.{record_bytes}
use Rattle.catalog_page.specs.Entries.{entry_in, IsEntry}
use Rattle.catalog_page.proofs.Fit.{record_entry}
use Rattle.catalog_page.proofs.catalog_view.CatalogView.record_at.Goals as goal

pub returns-clause-fit : goal.returns-clause-fit
returns-clause-fit c =
    let view = c.args.self.now in
    subst (λ e. IsEntry view.fresh e) (sym (c.record_of.ensures ∙ ap entry_in c.bytes_of.ensures.bytes))
    (record_entry view.fresh (record_bytes view.bytes.now c.args.number) (view.keeps.used c.args.number c.requires))
