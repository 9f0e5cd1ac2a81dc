use Rattle.mg_image.specs.Tables.{has}
use Rattle.mg_reading.specs.Found.{image_facts}
use Rattle.mg_layout.specs.Choices.{AreLawful, DoTablesStay, rows_with}
use Rattle.mg_layout.proofs.ChoiceLemmas.{stay_refuted}
use Rattle.mg_layout.proofs.RefusalLemmas.{passed_on}
use Rattle.mg_layout.proofs.choices.check_choice.Goals as goal

pub returns-in_err-others-clause-broken : goal.returns-in_err-others-clause-broken
returns-in_err-others-clause-broken c = passed_on
    (AreLawful c.args.image.now.size (image_facts c.args.image.now) c.args.found.now
    (has c.args.more.now))
    (DoTablesStay c.args.image.now.size
    (rows_with (image_facts c.args.image.now) c.args.found.now (has c.args.taken.now))
    (rows_with (image_facts c.args.image.now) c.args.found.now (has c.args.more.now)))
    (λ stay. (stay.more, stay.named_more)) c.from_residual-in_err-others.result
    c.in_err-others.field-0.0 c.from_residual-in_err-others.ensures.1
    c.in_err-others.ensures.broken

pub returns-then-not-do_tables_stay-clause-broken :
    goal.returns-then-not-do_tables_stay-clause-broken
returns-then-not-do_tables_stay-clause-broken c = stay_refuted c.args.image.now.size
    (rows_with (image_facts c.args.image.now) c.args.found.now (has c.args.taken.now))
    (rows_with (image_facts c.args.image.now) c.args.found.now (has c.args.more.now))
    c.in_ok-tables.tables.items c.in_ok-others.others.items c.in_ok-tables.ensures.tables
    c.in_ok-others.ensures.tables
    (λ stay. absurd (let passed = c.if-not-do_tables_stay.ensures.1
    (rw (c.deref.ensures.value, c.deref-2.ensures.value) stay) in cc))
