use Rattle.std.proofs.Common.{inl, inr, length, refl}
use Rattle.mg_base.specs.Checks.{verdict}
use Rattle.mg_base.specs.Image.{page_at}
use Rattle.mg_findings.specs.Findings.{Tells}
use Rattle.mg_check_inventory.specs.ImagePages.{bit_checks, numbered}
use Rattle.mg_check_inventory.specs.TransactionRung.{IsTipsFinding}
use Rattle.mg_check_inventory.specs.TestLaws.{some_told, tells_same}
use Rattle.mg_check_inventory.proofs.transactions.transaction_findings.Goals as goal

pub returns-in_err-note-clause-cause : goal.returns-in_err-note-clause-cause
returns-in_err-note-clause-cause c = λ failed none. some_told
    (Tells (verdict (numbered 0)
    (bit_checks c.args.size (page_at c.args.size c.args.pages.now) 0))) c.check_bit.result
    (c.in_err-note.ensures.cause refl)
    (tells_same c.check_bit.result (verdict (numbered 0)
    (bit_checks c.args.size (page_at c.args.size c.args.pages.now) 0)) c.check_bit.ensures)
    (λ f told. none f (inl told))

pub returns-in_err-note-2-clause-cause : goal.returns-in_err-note-2-clause-cause
returns-in_err-note-2-clause-cause c = λ failed none. some_told
    (IsTipsFinding c.args.size (page_at c.args.size c.args.pages.now) (length c.args.pages.now))
    c.check_tips.result (c.in_err-note-2.ensures.cause refl) c.check_tips.ensures
    (λ f found. none f (inr found))
