use Rattle.std.proofs.Common.{refl}
use Rattle.std.proofs.lemmas.Bool.{false≢true}
use Rattle.mg_reading.proofs.held.check_image.Goals as goal

pub returns-then-not-has_header-clause-header : goal.returns-then-not-has_header-clause-header
returns-then-not-has_header-clause-header c = tt

pub returns-then-not-has_header-clause-transactions : goal.returns-then-not-has_header-clause-transactions
returns-then-not-has_header-clause-transactions c = tt

pub returns-then-not-has_header-clause-inventory : goal.returns-then-not-has_header-clause-inventory
returns-then-not-has_header-clause-inventory c = tt

pub returns-then-not-has_header-clause-broken : goal.returns-then-not-has_header-clause-broken
returns-then-not-has_header-clause-broken c = λ is. absurd (false≢true (c.if-not-has_header.ensures.1 is))

pub returns-then-not-has_transactions-clause-header : goal.returns-then-not-has_transactions-clause-header
returns-then-not-has_transactions-clause-header c = tt

pub returns-then-not-has_transactions-clause-transactions : goal.returns-then-not-has_transactions-clause-transactions
returns-then-not-has_transactions-clause-transactions c = tt

pub returns-then-not-has_transactions-clause-inventory : goal.returns-then-not-has_transactions-clause-inventory
returns-then-not-has_transactions-clause-inventory c = tt

pub returns-then-not-has_transactions-clause-broken : goal.returns-then-not-has_transactions-clause-broken
returns-then-not-has_transactions-clause-broken c = (c.if-not-has_header.ensures.0 refl, λ is. absurd (false≢true (c.if-not-has_transactions.ensures.1 is)))

pub returns-then-not-has_inventory-clause-header : goal.returns-then-not-has_inventory-clause-header
returns-then-not-has_inventory-clause-header c = tt

pub returns-then-not-has_inventory-clause-transactions : goal.returns-then-not-has_inventory-clause-transactions
returns-then-not-has_inventory-clause-transactions c = tt

pub returns-then-not-has_inventory-clause-inventory : goal.returns-then-not-has_inventory-clause-inventory
returns-then-not-has_inventory-clause-inventory c = tt

pub returns-then-not-has_inventory-clause-broken : goal.returns-then-not-has_inventory-clause-broken
returns-then-not-has_inventory-clause-broken c = (c.if-not-has_header.ensures.0 refl, c.if-not-has_transactions.ensures.0 refl, λ is. absurd (false≢true (c.if-not-has_inventory.ensures.1 is)))

pub returns-clause-header : goal.returns-clause-header
returns-clause-header c = c.if-not-has_header.ensures.0 refl

pub returns-clause-transactions : goal.returns-clause-transactions
returns-clause-transactions c = c.if-not-has_transactions.ensures.0 refl

pub returns-clause-inventory : goal.returns-clause-inventory
returns-clause-inventory c = c.if-not-has_inventory.ensures.0 refl

pub returns-clause-broken : goal.returns-clause-broken
returns-clause-broken c = tt
