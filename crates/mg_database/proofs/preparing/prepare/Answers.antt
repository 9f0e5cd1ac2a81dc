use Rattle.std.proofs.Common.{◌≤◌, refl, subst, sym}
use Rattle.mg_base.specs.declared.geometry.Geometry.{Geometry}
use Rattle.mg_format.specs.FormatLaws.{empty_clean}
use Rattle.mg_database.proofs.PreparingLemmas.{not_asked, not_held, not_prepared_as, prepared}
use Rattle.mg_survey.specs.Survey.{new_pages}
use Rattle.mg_database.proofs.preparing.prepare.Goals as goal

pub returns-in-Err : goal.returns-in-Err
returns-in-Err g c = not_asked g.D.Disk.meaning c.args.disk c.ask.new.disk c.args.limit c.in-Err.field-0 1
    c.of_pool.result c.in-Err.ensures.asks c.ask.ensures.same c.of_pool.ensures

pub returns-in-Err-with_cache : goal.returns-in-Err-with_cache
returns-in-Err-with_cache g c = not_held g.D.Disk.meaning c.args.disk c.ask.new.disk c.in-Err-with_cache.disk c.args.limit
    c.of_pool-in-Err-with_cache.result c.in-Ok.ensures.asks.content c.ask.ensures.same c.in-Ok.ensures.asks.steady
    c.in-Err-with_cache.ensures.err.0
    c.of_pool-in-Err-with_cache.ensures

pub make_if-requires-clause-clean : goal.make_if-requires-clause-clean
make_if-requires-clause-clean g c = empty_clean c.in-Ok-with_cache.store c.in-Ok-with_cache.ensures.dirty

pub make_if-requires-clause-room : goal.make_if-requires-clause-room
make_if-requires-clause-room g c = subst (λ (x : Geometry). new_pages ≤ x.limit)
    (sym c.in-Ok-with_cache.ensures.geometry) c.in-Ok.ensures.survey.room

pub returns-in-Ok-make_if : goal.returns-in-Ok-make_if
returns-in-Ok-make_if g c = prepared g.D.Disk.meaning c.args.disk c.ask.new.disk c.args.limit
    c.in-Ok.surveyed c.in-Ok-with_cache.store c.make_if.new.store c.in-Ok.ensures.asks.content
    c.ask.ensures.same c.in-Ok.ensures.asks.steady c.in-Ok.ensures.asks.none_failed c.in-Ok.ensures.survey c.in-Ok.ensures.reads
    c.in-Ok-with_cache.ensures.pool c.in-Ok-with_cache.ensures.disk
    c.in-Ok-with_cache.ensures.geometry (empty_clean c.in-Ok-with_cache.store c.in-Ok-with_cache.ensures.dirty)
    c.in-Ok-with_cache.ensures.online c.in-Ok.surveyed.unmade refl c.in-Ok-make_if.ensures

pub returns-in-Err-make_if : goal.returns-in-Err-make_if
returns-in-Err-make_if g c = not_prepared_as g.D.Disk.meaning c.args.disk c.ask.new.disk c.args.limit
    c.in-Ok.surveyed c.in-Ok-with_cache.store c.make_if.new.store c.in-Ok.ensures.asks.content
    c.ask.ensures.same c.in-Ok.ensures.asks.steady c.in-Ok.ensures.asks.none_failed c.in-Ok.ensures.survey c.in-Ok.ensures.reads
    c.in-Ok-with_cache.ensures.pool c.in-Ok-with_cache.ensures.disk
    c.in-Ok-with_cache.ensures.geometry (empty_clean c.in-Ok-with_cache.store c.in-Ok-with_cache.ensures.dirty)
    c.in-Ok-with_cache.ensures.online c.in-Ok.surveyed.unmade c.in-Err-make_if.fault c.into_disk.result
    c.of_pool-in-Err-make_if.result refl c.in-Err-make_if.ensures c.into_disk.ensures
    c.of_pool-in-Err-make_if.ensures
