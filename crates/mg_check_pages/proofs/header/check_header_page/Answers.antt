use Rattle.std.proofs.Common.{◌∙◌, Err, ap, sym}
use Rattle.mg_header.specs.declared.header.HeadFault.{HeadFault}
use Rattle.mg_check_pages.proofs.HeaderLemmas.{test_where_damaged, test_where_other, test_where_read}
use Rattle.mg_check_pages.proofs.header.check_header_page.Goals as goal

pub returns-in-Ok : goal.returns-in-Ok
returns-in-Ok c = sym (test_where_read c.args.b.now c.args.size c.in-Ok.field-0
    (sym c.open_header.ensures ∙ c.in-Ok.is))

pub returns-in-Err-NotADatabase : goal.returns-in-Err-NotADatabase
returns-in-Err-NotADatabase c = sym (test_where_other c.args.b.now c.args.size
    c.in-Err-NotADatabase.field c.in-Err-NotADatabase.found c.wanted_of.result
    (sym c.open_header.ensures ∙ (c.in-Err-NotADatabase.is
    ∙ ap (λ (fault : HeadFault). Err fault) c.in-Err-NotADatabase.field-0-is))
    c.wanted_of.ensures.magic c.wanted_of.ensures.major c.wanted_of.ensures.minor
    c.wanted_of.ensures.size)

pub returns-in-Err-Damaged : goal.returns-in-Err-Damaged
returns-in-Err-Damaged c = sym (test_where_damaged c.args.b.now c.args.size
    c.in-Err-Damaged.damage
    (sym c.open_header.ensures ∙ (c.in-Err-Damaged.is
    ∙ ap (λ (fault : HeadFault). Err fault) c.in-Err-Damaged.field-0-is)))
