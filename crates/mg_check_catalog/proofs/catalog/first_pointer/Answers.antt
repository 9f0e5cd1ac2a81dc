use Rattle.std.proofs.Common.{◌∙◌, List, ap, ℕ}
use Rattle.mg_base.specs.Fields.{u32_at}
use Rattle.mg_check_catalog.proofs.CatalogLemmas.{first_absent}
use Rattle.mg_header.specs.declared.header.TheConstants.{CATALOG_AT}
use Rattle.mg_check_catalog.proofs.catalog.first_pointer.Goals as goal

pub returns-in-None : goal.returns-in-None
returns-in-None c = first_absent c.args.size c.args.pages.now c.in-None.ensures.page

pub returns-in-Some : goal.returns-in-Some
returns-in-Some c = c.get_u32.ensures
    ∙ ap (λ (b : List ℕ). u32_at b CATALOG_AT) (c.in-Some.ensures.page c.args.size)
