use Rattle.mg_model.specs.DurableCommitLaws.{durable_is_committed}
use Rattle.mg_model.specs.DurableLaws.{durable_is_database}
use Rattle.mg_model.specs.LimboLaws.{durable_is_limbo, durable_is_own}
use Rattle.mg_model.proofs.laws.durables_outlast.Goals as goal

pub returns-clause-database : goal.returns-clause-database
returns-clause-database c = durable_is_database

pub returns-clause-committed : goal.returns-clause-committed
returns-clause-committed c = λ o h t opening legal. durable_is_committed o opening h legal t

pub returns-clause-limbo : goal.returns-clause-limbo
returns-clause-limbo c = λ o h t opening legal. durable_is_limbo o opening h legal t

pub returns-clause-changes : goal.returns-clause-changes
returns-clause-changes c = λ o h t opening legal limbo. durable_is_own o opening h legal t limbo
