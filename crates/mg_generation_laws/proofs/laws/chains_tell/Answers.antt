use Rattle.mg_generation_laws.specs.KeptShowLaws.{chain_shows_database, chain_shows_view, chain_tells_obstacle}
use Rattle.mg_generation_laws.proofs.laws.chains_tell.Goals as goal

pub returns-clause-views : goal.returns-clause-views
returns-clause-views c = λ o h table key chain t stand runs.
    chain_shows_view o h table key chain stand t runs

pub returns-clause-database : goal.returns-clause-database
returns-clause-database c = chain_shows_database

pub returns-clause-obstacles : goal.returns-clause-obstacles
returns-clause-obstacles c = λ o h t table key chain opening legal stand runs.
    chain_tells_obstacle o h table key chain stand opening legal t runs
