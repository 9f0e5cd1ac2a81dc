use Rattle.std.proofs.Common.{arith, refl}
use Rattle.mg_check_front.proofs.FrontLemmas.{header_cause, header_list, inventory_cause, inventory_list, transaction_cause, transaction_list}
use Rattle.mg_check_front.proofs.front.front_findings.Goals as goal

pub returns-in_err-one_finding-in-Err-clause-cause :
    goal.returns-in_err-one_finding-in-Err-clause-cause
returns-in_err-one_finding-in-Err-clause-cause c = λ failed. header_cause c.args.size
    c.args.pages.now c.check_header.result c.in-Err.damage c.in-Err.is c.check_header.ensures.test

pub returns-in-Err-clause-list : goal.returns-in-Err-clause-list
returns-in-Err-clause-list c = header_list c.args.size c.args.pages.now c.check_header.result
    c.in-Err.damage c.in_ok-one_finding-in-Err.field-0.items c.in-Err.is c.check_header.ensures.test
    c.in_ok-one_finding-in-Err.ensures

pub returns-in_err-inventory-clause-cause : goal.returns-in_err-inventory-clause-cause
returns-in_err-inventory-clause-cause c = λ failed. inventory_cause c.args.size c.args.pages.now
    c.check_header.result c.in-Ok.is c.check_header.ensures.test
    (c.in_err-inventory.ensures.cause refl)

pub returns-then-len-gt0-clause-list : goal.returns-then-len-gt0-clause-list
returns-then-len-gt0-clause-list c = inventory_list c.args.size c.args.pages.now
    c.check_header.result c.in_ok-inventory.inventory.items c.in-Ok.is c.check_header.ensures.test
    c.in_ok-inventory.ensures.list (omega (arith, c.if-len-gt0.true, c.len.ensures))

pub returns-in_err-transaction_findings-clause-cause :
    goal.returns-in_err-transaction_findings-clause-cause
returns-in_err-transaction_findings-clause-cause c = λ failed. transaction_cause c.args.size
    c.args.pages.now c.check_header.result c.in_ok-inventory.inventory.items c.in-Ok.is
    c.check_header.ensures.test c.in_ok-inventory.ensures.list
    (omega (arith, c.if-len-gt0.false, c.len.ensures))
    (c.in_err-transaction_findings.ensures.cause refl)

pub returns-clause-list : goal.returns-clause-list
returns-clause-list c = transaction_list c.args.size c.args.pages.now c.check_header.result
    c.in_ok-inventory.inventory.items c.in_ok-transaction_findings.field-0.items c.in-Ok.is
    c.check_header.ensures.test c.in_ok-inventory.ensures.list
    (omega (arith, c.if-len-gt0.false, c.len.ensures))
    c.in_ok-transaction_findings.ensures.list
