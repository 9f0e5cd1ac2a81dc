use Rattle.std.proofs.Common.{ap, ◌∙◌, length, refl, subst, sym}
use Rattle.mg_base.specs.declared.geometry.Geometry.{Geometry}
use Rattle.mg_heap.specs.declared.table.TablePages.{TablePages}
use Rattle.mg_model.specs.declared.table.Table.{Table}
use Rattle.mg_pool.specs.Pool.{shown}
use Rattle.mg_space.specs.Taking.{IsGeometry}
use Rattle.mg_space.specs.ViewLaws.{keeps_on}
use Rattle.mg_txlist.specs.Reading.{is_head_or_tip}
use Rattle.mg_txlist.specs.ReadingLaws.{head_first}
use Rattle.mg_txlist.specs.declared.list.TxList.{TxList}
use Rattle.mg_database.proofs.LoadingLemmas.{catalog_lawful, front_read, list_alone, list_refused, memory_alone, memory_refused, memory_told, nobody_active, says_pages, space_up, table_alone, table_refused}
use Rattle.mg_txlist.specs.TxList.{TipsAreBelow}
use Rattle.mg_database.proofs.loading.load.Goals as goal

pub returns-in-Err-load-clause-refused : goal.returns-in-Err-load-clause-refused
returns-in-Err-load-clause-refused g c = λ image tells. list_refused g.D.Disk.meaning c.args.store.now
    c.read_first.new.store c.load.new.store image c.in-Err-load.fault c.read_first.ensures.keeps tells
    (c.in-Err-load.ensures.refused image)

pub returns-in-Err-check_table-clause-refused : goal.returns-in-Err-check_table-clause-refused
returns-in-Err-check_table-clause-refused g c = λ image tells. table_refused g.D.Disk.meaning
    c.args.store.now c.read_first.new.store c.load.new.store c.check_table.new.store image c.in-Ok.header
    c.in-Ok-load.list.first c.in-Ok-load.list.pages.items c.in-Err-check_table.fault
    c.read_first.ensures.keeps
    (keeps_on g.D.Disk.meaning g.met.D.Disk.counts_now c.args.store.now c.read_first.new.store
    c.load.new.store c.read_first.ensures.keeps c.load.ensures.keeps) tells
    (c.in-Ok.ensures.says image tells) (c.in-Ok-load.ensures.says image)
    (c.in-Err-check_table.ensures.tests image)

pub returns-in-Err-check_table-clause-keeps : goal.returns-in-Err-check_table-clause-keeps
returns-in-Err-check_table-clause-keeps g c = keeps_on g.D.Disk.meaning g.met.D.Disk.counts_now
    c.args.store.now c.load.new.store c.check_table.new.store
    (keeps_on g.D.Disk.meaning g.met.D.Disk.counts_now c.args.store.now c.read_first.new.store
    c.load.new.store c.read_first.ensures.keeps c.load.ensures.keeps) c.check_table.ensures.keeps

pub returns-clause-keeps : goal.returns-clause-keeps
returns-clause-keeps g c = keeps_on g.D.Disk.meaning g.met.D.Disk.counts_now c.args.store.now
    c.load.new.store c.check_table.new.store
    (keeps_on g.D.Disk.meaning g.met.D.Disk.counts_now c.args.store.now c.read_first.new.store
    c.load.new.store c.read_first.ensures.keeps c.load.ensures.keeps) c.check_table.ensures.keeps

pub returns-clause-says : goal.returns-clause-says
returns-clause-says g c = λ image tells. says_pages g.D.Disk.meaning c.args.store.now c.read_first.new.store
    c.load.new.store image c.in-Ok.header c.in-Ok-load.list _ _
    c.in-Ok-check_table.pages.pointers.items c.in-Ok-check_table.pages.data_pages.items
    c.read_first.ensures.keeps
    (keeps_on g.D.Disk.meaning g.met.D.Disk.counts_now c.args.store.now c.read_first.new.store
    c.load.new.store c.read_first.ensures.keeps c.load.ensures.keeps) tells
    (c.in-Ok.ensures.says image tells) (c.in-Ok-load.ensures.says image)
    (c.in-Ok-check_table.ensures.tests image)
    (ap (λ (t : Table). t.pointer) c.in-Ok-catalog_table.ensures) c.markers_of-markers.ensures

pub returns-clause-reads : goal.returns-clause-reads
returns-clause-reads g c = front_read g.D.Disk.meaning c.args.store.now c.load.new.store
    c.check_table.new.store c.in-Ok-load.list.pages.items
    c.in-Ok-check_table.pages.pointers.items c.in-Ok-check_table.pages.data_pages.items
    (head_first g.D.Disk.meaning c.args.store.now c.read_first.new.store
    c.load.new.store (length c.in-Ok-load.list.pages.items) (is_head_or_tip c.in-Ok-load.list.pages.items)
    (is_head_or_tip c.in-Ok-load.list.pages.items) c.read_first.ensures.reads refl
    (c.in-Ok-load.ensures.reads.head_held c.in-Ok.ensures.held) (λ n is. is))
    c.in-Ok-check_table.ensures.reads

pub returns-clause-lawful : goal.returns-clause-lawful
returns-clause-lawful g c = record {
  list = c.in-Ok-load.ensures.list;
  size_is = c.in-Ok-load.ensures.size ∙ ap (λ (x : Geometry). x.size) c.read_first.ensures.keeps.geometry;
  tips = subst (λ (x : Geometry). TipsAreBelow x.limit c.in-Ok-load.list) c.read_first.ensures.keeps.geometry
      c.in-Ok-load.ensures.tips;
  undrawn = c.in-Ok-load.ensures.fresh;
  idle = nobody_active c.in-Ok-load.list c.in-Ok-load.ensures.fresh;
  undecided = c.in-Ok-undecided.ensures;
  catalog_is = (catalog_lawful c.in-Ok-catalog_table.catalog _ c.in-Ok-catalog_table.ensures
      c.in-Ok.ensures.catalog).0;
  catalog_below = (catalog_lawful c.in-Ok-catalog_table.catalog _ c.in-Ok-catalog_table.ensures
      c.in-Ok.ensures.catalog).1;
}

pub returns-in-Err-clause-keeps : goal.returns-in-Err-clause-keeps
returns-in-Err-clause-keeps g c = c.read_first.ensures.keeps

pub returns-in-Err-clause-lawful : goal.returns-in-Err-clause-lawful
returns-in-Err-clause-lawful g c = tt

pub returns-in-Err-clause-fault : goal.returns-in-Err-clause-fault
returns-in-Err-clause-fault g c = c.in-Err.ensures.fault

pub returns-in-Err-clause-own : goal.returns-in-Err-clause-own
returns-in-Err-clause-own g c = c.in-Err.ensures.own

pub returns-in-Err-clause-refused : goal.returns-in-Err-clause-refused
returns-in-Err-clause-refused g c = c.in-Err.ensures.refused

pub load-requires-clause-pool : goal.load-requires-clause-pool
load-requires-clause-pool g c = c.read_first.ensures.keeps.pool

pub load-requires-clause-geometry : goal.load-requires-clause-geometry
load-requires-clause-geometry g c = subst IsGeometry (sym c.read_first.ensures.keeps.geometry)
    c.requires.geometry

pub returns-in-Err-load-clause-keeps : goal.returns-in-Err-load-clause-keeps
returns-in-Err-load-clause-keeps g c = keeps_on g.D.Disk.meaning g.met.D.Disk.counts_now c.args.store.now
    c.read_first.new.store
    c.load.new.store c.read_first.ensures.keeps c.load.ensures.keeps

pub returns-in-Err-load-clause-fault : goal.returns-in-Err-load-clause-fault
returns-in-Err-load-clause-fault g c = space_up TxList g.D.Disk.meaning c.args.store.now c.read_first.new.store
    c.load.new.store c.in-Err-load.fault c.read_first.ensures.keeps c.in-Ok.ensures.fault.2
    c.in-Err-load.ensures.fault

pub returns-in-Err-load-clause-own : goal.returns-in-Err-load-clause-own
returns-in-Err-load-clause-own g c = list_alone TxList c.in-Err-load.fault c.in-Err-load.ensures.own

pub undecided-requires-clause-list : goal.undecided-requires-clause-list
undecided-requires-clause-list g c = c.in-Ok-load.ensures.list

pub undecided-requires-clause-undrawn : goal.undecided-requires-clause-undrawn
undecided-requires-clause-undrawn g c = c.in-Ok-load.ensures.fresh

pub returns-in-Err-undecided-clause-keeps : goal.returns-in-Err-undecided-clause-keeps
returns-in-Err-undecided-clause-keeps g c = keeps_on g.D.Disk.meaning g.met.D.Disk.counts_now c.args.store.now
    c.read_first.new.store
    c.load.new.store c.read_first.ensures.keeps c.load.ensures.keeps

pub returns-in-Err-undecided-clause-fault : goal.returns-in-Err-undecided-clause-fault
returns-in-Err-undecided-clause-fault g c = memory_told g.D.Disk.meaning c.no_memory.result c.no_memory.ensures
    c.args.store.now
    c.read_first.new.store c.load.new.store c.in-Ok.ensures.fault c.in-Ok-load.ensures.fault

pub returns-in-Err-undecided-clause-own : goal.returns-in-Err-undecided-clause-own
returns-in-Err-undecided-clause-own g c = memory_alone g.D.Disk.meaning c.no_memory.result c.no_memory.ensures

pub returns-in-Err-undecided-clause-refused : goal.returns-in-Err-undecided-clause-refused
returns-in-Err-undecided-clause-refused g c = λ image tells. memory_refused g.D.Disk.meaning c.no_memory.result
    c.no_memory.ensures c.load.new.store c.args.store.now.geometry (shown c.args.store.now.dirty image)

pub returns-in-Err-catalog_table-clause-keeps : goal.returns-in-Err-catalog_table-clause-keeps
returns-in-Err-catalog_table-clause-keeps g c = keeps_on g.D.Disk.meaning g.met.D.Disk.counts_now
    c.args.store.now c.read_first.new.store
    c.load.new.store c.read_first.ensures.keeps c.load.ensures.keeps

pub returns-in-Err-catalog_table-clause-fault : goal.returns-in-Err-catalog_table-clause-fault
returns-in-Err-catalog_table-clause-fault g c = memory_told g.D.Disk.meaning
    c.no_memory-in-Err-catalog_table.result c.no_memory-in-Err-catalog_table.ensures c.args.store.now
    c.read_first.new.store c.load.new.store c.in-Ok.ensures.fault c.in-Ok-load.ensures.fault

pub returns-in-Err-catalog_table-clause-own : goal.returns-in-Err-catalog_table-clause-own
returns-in-Err-catalog_table-clause-own g c = memory_alone g.D.Disk.meaning
    c.no_memory-in-Err-catalog_table.result c.no_memory-in-Err-catalog_table.ensures

pub returns-in-Err-catalog_table-clause-refused : goal.returns-in-Err-catalog_table-clause-refused
returns-in-Err-catalog_table-clause-refused g c = λ image tells. memory_refused g.D.Disk.meaning
    c.no_memory-in-Err-catalog_table.result
    c.no_memory-in-Err-catalog_table.ensures c.load.new.store c.args.store.now.geometry (shown
    c.args.store.now.dirty image)

pub check_table-requires-clause-pool : goal.check_table-requires-clause-pool
check_table-requires-clause-pool g c = c.load.ensures.keeps.pool

pub check_table-requires-clause-geometry : goal.check_table-requires-clause-geometry
check_table-requires-clause-geometry g c = subst IsGeometry
    (sym (c.load.ensures.keeps.geometry ∙ c.read_first.ensures.keeps.geometry)) c.requires.geometry

pub check_table-requires-clause-owner : goal.check_table-requires-clause-owner
check_table-requires-clause-owner g c = c.in-Ok.ensures.catalog

pub returns-in-Err-check_table-clause-fault : goal.returns-in-Err-check_table-clause-fault
returns-in-Err-check_table-clause-fault g c = space_up TablePages g.D.Disk.meaning c.args.store.now
    c.load.new.store c.check_table.new.store c.in-Err-check_table.fault
    (keeps_on g.D.Disk.meaning g.met.D.Disk.counts_now c.args.store.now c.read_first.new.store
    c.load.new.store c.read_first.ensures.keeps c.load.ensures.keeps)
    (c.in-Ok-load.ensures.fault.2 ∙ c.in-Ok.ensures.fault.2) c.in-Err-check_table.ensures.fault

pub returns-in-Err-check_table-clause-own : goal.returns-in-Err-check_table-clause-own
returns-in-Err-check_table-clause-own g c = table_alone TablePages c.in-Err-check_table.fault
    c.in-Err-check_table.ensures.own

pub returns-clause-fault : goal.returns-clause-fault
returns-clause-fault g c = (
  c.in-Ok.ensures.fault.0,
  c.in-Ok-check_table.ensures.fault.1,
  c.in-Ok-check_table.ensures.fault.2 ∙ (c.in-Ok-load.ensures.fault.2 ∙ c.in-Ok.ensures.fault.2),
)

pub returns-clause-own : goal.returns-clause-own
returns-clause-own g c = tt

pub returns-clause-refused : goal.returns-clause-refused
returns-clause-refused g c = λ image tells. tt
