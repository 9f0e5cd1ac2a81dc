use Rattle.std.proofs.Common.{ap}
use Rattle.mg_base.specs.declared.geometry.Geometry.{Geometry}
use Rattle.mg_pool.specs.Pool.{shown}
use Rattle.mg_txlist.specs.ReadingLaws.{read_held}
use Rattle.mg_database.proofs.LoadingLemmas.{at_ok, catalog_strays, head_differs, head_missing, head_read, seen_alone}
use Rattle.mg_database.proofs.loading.read_first.Goals as goal

pub returns-in-Err-clause-refused : goal.returns-in-Err-clause-refused
returns-in-Err-clause-refused g c = λ image tells. head_missing g.D.Disk.meaning c.page_of.new.store
    c.new-batch.result.pages c.args.store.now.geometry (shown c.args.store.now.dirty image) c.in-Err.fault
    c.new-batch.ensures.pages c.in-Err.ensures.refusal

pub returns-in-Ok-open_header-clause-refused : goal.returns-in-Ok-open_header-clause-refused
returns-in-Ok-open_header-clause-refused g c = λ image tells. catalog_strays g.D.Disk.meaning c.page_of.new.store
    c.args.store.now.geometry (shown c.args.store.now.dirty image) c.in-Ok-open_header.header
    c.check_catalog.result
    (head_read c.in-Ok.page c.as_slice.result.now (shown c.args.store.now.dirty image) c.geometry-size.result.size
    c.args.store.now.geometry.size c.open_header.result _ c.as_slice.ensures
    (seen_alone c.args.store.now image c.new-batch.result 0 c.in-Ok.page c.new-batch.ensures.pages
    (c.in-Ok.ensures.seen image tells))
    (ap (λ (x : Geometry). x.size) c.geometry-size.ensures) c.open_header.ensures c.in-Ok-open_header.is)
    c.check_catalog.ensures

pub returns-clause-refused : goal.returns-clause-refused
returns-clause-refused g c = λ image tells. head_differs g.D.Disk.meaning c.page_of.new.store
    c.args.store.now.geometry (shown c.args.store.now.dirty image) c.in-Err-open_header.fault c.fault_of.result
    (head_read c.in-Ok.page c.as_slice.result.now (shown c.args.store.now.dirty image) c.geometry-size.result.size
    c.args.store.now.geometry.size c.open_header.result _ c.as_slice.ensures
    (seen_alone c.args.store.now image c.new-batch.result 0 c.in-Ok.page c.new-batch.ensures.pages
    (c.in-Ok.ensures.seen image tells))
    (ap (λ (x : Geometry). x.size) c.geometry-size.ensures) c.open_header.ensures c.in-Err-open_header.is)
    c.fault_of.ensures

pub returns-in-Ok-open_header-clause-held : goal.returns-in-Ok-open_header-clause-held
returns-in-Ok-open_header-clause-held g c = at_ok c.check_catalog.result
    (read_held c.page_of.new.store c.new-batch.result.pages 0 c.in-Ok.page c.new-batch.ensures.pages
    c.in-Ok.ensures.read)
