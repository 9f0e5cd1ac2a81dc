use Rattle.mg_image.specs.Tables.{has}
use Rattle.mg_reading.specs.Found.{image_facts}
use Rattle.mg_layout.specs.Choices.{AreAlwaysLawful, AreLawful, Names}
use Rattle.mg_layout.specs.HasPages.{NamesTables}
use Rattle.mg_layout.specs.Refusals.{NamesSome}
use Rattle.mg_layout.specs.Standing.{stand_in}
use Rattle.mg_layout.proofs.CatalogLemmas.{catalog_found}
use Rattle.mg_layout.proofs.ChoiceLemmas.{lawful_choice}
use Rattle.mg_layout.proofs.NamesLemmas.{catalog_key, names_always, names_are, table_found}
use Rattle.mg_layout.proofs.RefusalLemmas.{on_given, passed_on, refuses_more}
use Rattle.mg_layout.proofs.catalog.named_tables.Goals as goal

pub check_choices-requires-clause-within : goal.check_choices-requires-clause-within
check_choices-requires-clause-within c = λ t is. is

pub check_choices-requires-clause-catalog : goal.check_choices-requires-clause-catalog
check_choices-requires-clause-catalog c = rw c.deref-3.ensures.value (catalog_found c.args.coding
    c.args.image.now c.args.catalog.now.table c.args.catalog.now.pages.data_pages.items
    c.in_ok-found.found.items (catalog_key c.args.catalog.now.table c.requires.shape)
    (table_found c.args.coding c.args.image.now
    c.args.catalog.now.table c.args.catalog.now.pages.data_pages.items c.deref.result.now
    c.in_ok-found.found.items c.deref.ensures.value c.in_ok-found.ensures.found
    c.in_ok-found.ensures.records))

pub returns-in_err-check_choices-clause-broken : goal.returns-in_err-check_choices-clause-broken
returns-in_err-check_choices-clause-broken c = passed_on
    (AreAlwaysLawful c.args.image.now.size (image_facts c.args.image.now) c.deref-3.result.now)
    (NamesSome c.args.coding c.args.image.now (stand_in c.args.catalog.now))
    (λ names. rw c.deref-3.ensures.value (names_always c.args.coding c.one_reading.ensures.plain
    c.one_reading.ensures.packed c.args.image.now (stand_in c.args.catalog.now)
    c.in_ok-found.found.items (catalog_key c.args.catalog.now.table c.requires.shape)
    (table_found c.args.coding c.args.image.now
    c.args.catalog.now.table c.args.catalog.now.pages.data_pages.items c.deref.result.now
    c.in_ok-found.found.items c.deref.ensures.value c.in_ok-found.ensures.found
    c.in_ok-found.ensures.records) names))
    c.from_residual-in_err-check_choices.result c.in_err-check_choices.field-0.0
    c.from_residual-in_err-check_choices.ensures.1 c.in_err-check_choices.ensures.broken

pub tables_with-requires : goal.tables_with-requires
tables_with-requires c = rw c.deref-5.ensures.value (catalog_found c.args.coding
    c.args.image.now c.args.catalog.now.table c.args.catalog.now.pages.data_pages.items
    c.in_ok-found.found.items (catalog_key c.args.catalog.now.table c.requires.shape)
    (table_found c.args.coding c.args.image.now
    c.args.catalog.now.table c.args.catalog.now.pages.data_pages.items c.deref.result.now
    c.in_ok-found.found.items c.deref.ensures.value c.in_ok-found.ensures.found
    c.in_ok-found.ensures.records))

pub returns-clause-names : goal.returns-clause-names
returns-clause-names c = on_given
    (λ tables. Names c.args.image.now.size (image_facts c.args.image.now) c.deref-5.result.now
    (has c.deref-6.result.now) tables.items)
    (λ tables. NamesTables c.args.coding c.args.image.now (stand_in c.args.catalog.now)
    tables.items)
    (λ tables named. names_are c.args.coding c.args.image.now (stand_in c.args.catalog.now)
    c.in_ok-found.found.items c.in_ok-writers.writers.items tables.items
    (catalog_key c.args.catalog.now.table c.requires.shape)
    (table_found c.args.coding c.args.image.now
    c.args.catalog.now.table c.args.catalog.now.pages.data_pages.items c.deref.result.now
    c.in_ok-found.found.items c.deref.ensures.value c.in_ok-found.ensures.found
    c.in_ok-found.ensures.records)
    (rw c.deref-2.ensures.value at c.in_ok-writers.ensures)
    (rw (c.deref-3.ensures.value, c.deref-4.ensures.value)
    at c.in_ok-check_choices.ensures.lawful)
    (rw (c.deref-5.ensures.value, c.deref-6.ensures.value) at named))
    c.tables_with.result c.tables_with.ensures.tables

pub returns-clause-broken : goal.returns-clause-broken
returns-clause-broken c = refuses_more
    (AreLawful c.args.image.now.size (image_facts c.args.image.now) c.deref-5.result.now
    (has c.deref-6.result.now))
    (NamesSome c.args.coding c.args.image.now (stand_in c.args.catalog.now))
    (λ names. rw (c.deref-5.ensures.value, c.deref-6.ensures.value) (lawful_choice
    c.args.image.now.size (image_facts c.args.image.now) c.in_ok-found.found.items
    (has c.in_ok-writers.writers.items) (names_always c.args.coding
    c.one_reading.ensures.plain c.one_reading.ensures.packed c.args.image.now
    (stand_in c.args.catalog.now) c.in_ok-found.found.items
    (catalog_key c.args.catalog.now.table c.requires.shape)
    (table_found c.args.coding c.args.image.now
    c.args.catalog.now.table c.args.catalog.now.pages.data_pages.items c.deref.result.now
    c.in_ok-found.found.items c.deref.ensures.value c.in_ok-found.ensures.found
    c.in_ok-found.ensures.records) names)))
    c.tables_with.result c.tables_with.ensures.broken
