use Rattle.std.proofs.Common.{arith, inl, refl}
use Rattle.mg_check_catalog.proofs.CatalogLemmas.{catalog_cause, catalog_list, catalog_sound, front_cause, front_list, front_sound, listed_sound, no_front}
use Rattle.mg_check_catalog.proofs.catalog.rung_findings.Goals as goal

pub returns-in_err-front-clause-cause : goal.returns-in_err-front-clause-cause
returns-in_err-front-clause-cause c = λ failed. front_cause c.args.size c.args.pages.now
    (c.in_err-front.ensures.cause refl)

pub returns-in_err-front-clause-sound : goal.returns-in_err-front-clause-sound
returns-in_err-front-clause-sound c = front_sound c.args.size c.args.pages.now
    c.lawful_fronts_pass.ensures c.lawful_tables_pass.ensures c.requires
    (c.in_err-front.ensures.cause refl)

pub returns-then-len-gt0-clause-list : goal.returns-then-len-gt0-clause-list
returns-then-len-gt0-clause-list c = front_list c.args.size c.args.pages.now
    c.in_ok-front.front.items c.in_ok-front.ensures.list
    (omega (arith, c.if-len-gt0.true, c.len.ensures))

pub returns-then-len-gt0-clause-sound : goal.returns-then-len-gt0-clause-sound
returns-then-len-gt0-clause-sound c = listed_sound c.args.size c.args.pages.now
    c.lawful_fronts_pass.ensures c.lawful_tables_pass.ensures c.requires c.in_ok-front.front.items
    c.in_ok-front.ensures.list (omega (arith, c.if-len-gt0.true, c.len.ensures))

pub returns-in_err-catalog_findings-clause-cause : goal.returns-in_err-catalog_findings-clause-cause
returns-in_err-catalog_findings-clause-cause c = λ failed. catalog_cause c.args.size
    c.args.pages.now (c.in_err-catalog_findings.ensures.cause refl)

pub returns-in_err-catalog_findings-clause-sound : goal.returns-in_err-catalog_findings-clause-sound
returns-in_err-catalog_findings-clause-sound c = catalog_sound c.args.size c.args.pages.now
    c.lawful_fronts_pass.ensures c.lawful_tables_pass.ensures c.requires
    (no_front c.args.size c.args.pages.now c.in_ok-front.front.items c.in_ok-front.ensures.list
    (omega (arith, c.if-len-gt0.false, c.len.ensures)))
    (inl (c.in_err-catalog_findings.ensures.cause refl))

pub returns-clause-list : goal.returns-clause-list
returns-clause-list c = catalog_list c.args.size c.args.pages.now
    c.in_ok-catalog_findings.field-0.items
    (no_front c.args.size c.args.pages.now c.in_ok-front.front.items c.in_ok-front.ensures.list
    (omega (arith, c.if-len-gt0.false, c.len.ensures))) c.in_ok-catalog_findings.ensures.list

pub returns-clause-sound : goal.returns-clause-sound
returns-clause-sound c = catalog_sound c.args.size c.args.pages.now
    c.lawful_fronts_pass.ensures c.lawful_tables_pass.ensures c.requires
    (no_front c.args.size c.args.pages.now c.in_ok-front.front.items c.in_ok-front.ensures.list
    (omega (arith, c.if-len-gt0.false, c.len.ensures))) c.catalog_findings.ensures.decided
