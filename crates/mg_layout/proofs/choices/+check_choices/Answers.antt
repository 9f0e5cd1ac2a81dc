use Rattle.std.proofs.Common.{◌∙◌, sym, rules}
use Rattle.mg_image.specs.Tables.{has}
use Rattle.mg_reading.specs.Found.{image_facts}
use Rattle.mg_layout.specs.Choices.{AreAlwaysLawful, AreLawfulFrom, DoTablesStay, rows_with}
use Rattle.mg_layout.proofs.ChoiceLemmas.{lawful_at_end, lawful_from, within_both, within_more}
use Rattle.mg_layout.proofs.RefusalLemmas.{on_success, refuses_more}
use Rattle.mg_layout.proofs.choices.+check_choices.Goals as goal

pub returns-in_default-clause-lawful : goal.returns-in_default-clause-lawful
returns-in_default-clause-lawful t c = on_success
    (DoTablesStay c.args.image.now.size
    (rows_with (image_facts c.args.image.now) c.args.found.now (has c.args.taken.now))
    (rows_with (image_facts c.args.image.now) c.args.found.now (has c.args.more.now)))
    (AreLawfulFrom c.args.image.now.size (image_facts c.args.image.now) c.args.found.now
    c.args.taken.now c.args.more.now c.args.open_.now)
    (lawful_at_end c.args.image.now.size (image_facts c.args.image.now) c.args.found.now
    c.args.taken.now c.args.more.now c.args.open_.now c.requires.catalog.backs
    c.in_default.ensures.cases) c.check_choice.result c.check_choice.ensures.stay

pub returns-in_default-clause-broken : goal.returns-in_default-clause-broken
returns-in_default-clause-broken t c = refuses_more
    (DoTablesStay c.args.image.now.size
    (rows_with (image_facts c.args.image.now) c.args.found.now (has c.args.taken.now))
    (rows_with (image_facts c.args.image.now) c.args.found.now (has c.args.more.now)))
    (AreAlwaysLawful c.args.image.now.size (image_facts c.args.image.now) c.args.found.now)
    (λ lawful. lawful (has c.args.taken.now) (has c.args.more.now) c.requires.within)
    c.check_choice.result c.check_choice.ensures.broken

pub check_choices-requires-2 : goal.check_choices-requires-2
check_choices-requires-2 t c = (
  search rules,
  (
    c.requires.catalog,
    within_more c.args.taken.now c.args.more.now c.deref.result.now c.in-Some.t.now
        (c.deref.ensures.value ∙ c.in_ok-wider.ensures) c.requires.within,
  ),
)

pub check_choices-requires-3 : goal.check_choices-requires-3
check_choices-requires-3 t c = (
  search rules,
  (
    c.requires.catalog,
    within_both c.args.taken.now c.args.more.now c.deref-2.result.now c.deref-3.result.now
        c.in-Some.t.now (c.deref-2.ensures.value ∙ c.in_ok-both.ensures)
        (c.deref-3.ensures.value ∙ c.in_ok-wider.ensures) c.requires.within,
  ),
)

pub returns-clause-lawful : goal.returns-clause-lawful
returns-clause-lawful t c = on_success
    (AreLawfulFrom c.args.image.now.size (image_facts c.args.image.now) c.args.found.now
    c.deref-2.result.now c.deref-3.result.now c.in-Some.later.now)
    (AreLawfulFrom c.args.image.now.size (image_facts c.args.image.now) c.args.found.now
    c.args.taken.now c.args.more.now c.args.open_.now)
    (lawful_from c.args.image.now.size (image_facts c.args.image.now) c.args.found.now
    c.args.taken.now c.args.more.now c.deref-2.result.now c.deref-3.result.now c.args.open_.now
    c.in-Some.later.now c.in-Some.t.now (c.deref-2.ensures.value ∙ c.in_ok-both.ensures)
    (c.deref-3.ensures.value ∙ c.in_ok-wider.ensures) c.in-Some.ensures.cases.0
    c.in_ok-check_choices.ensures.lawful
    (rw (c.deref.ensures.value, sym c.deref-3.ensures.value)
    at c.in_ok-check_choices-2.ensures.lawful))
    c.check_choices-3.result c.check_choices-3.ensures.lawful
