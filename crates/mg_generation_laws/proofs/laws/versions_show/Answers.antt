use Rattle.mg_generation_laws.specs.ShowLaws.{view_shows, database_shows, durable_shows, commit_shows}
use Rattle.mg_generation_laws.proofs.laws.versions_show.Goals as goal

pub returns-clause-views : goal.returns-clause-views
returns-clause-views c = λ o h table key gs t it. view_shows o h table key gs it t

pub returns-clause-database : goal.returns-clause-database
returns-clause-database c = database_shows

pub returns-clause-durables : goal.returns-clause-durables
returns-clause-durables c = λ o h table key gs k it. durable_shows o h table key gs it k

pub returns-clause-commit : goal.returns-clause-commit
returns-clause-commit c = commit_shows
