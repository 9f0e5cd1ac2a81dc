use Rattle.std.proofs.Common.{◌∙◌, ap, refl}
use Rattle.std.specs.Prelude.{Ok}
use Rattle.std.specs.declared.alloc.Global.{Global}
use Rattle.std.specs.declared.vec.Vec.{Vec}
use Rattle.mg_base.specs.declared.geometry.Geometry.{Geometry}
use Rattle.mg_header.specs.declared.header.Header.{Header}
use Rattle.mg_space.specs.HandedLaws.{no_answer, own_as, told_as}
use Rattle.mg_space.specs.ViewLaws.{fault_on, keeps_on}
use Rattle.mg_txlist.specs.declared.list.TipPage.{TipPage}
use Rattle.mg_txlist.proofs.HandedLemmas.{geometry_on, told_then}
use Rattle.mg_txlist.proofs.LoadLemmas.{head_read, list_below, list_made}
use Rattle.mg_pool.specs.Pool.{shown}
use Rattle.mg_txlist.specs.Refusals.{RefusesLoad}
use Rattle.mg_txlist.proofs.ReadingLemmas.{read_list}
use Rattle.mg_txlist.proofs.RefusalLemmas.{err_as, head_load, load_refused}
use Rattle.mg_txlist.proofs.list.TxList.load.Goals as goal

pub returns-clause-list : goal.returns-clause-list
returns-clause-list g c = list_made _ c.args.store.now.geometry c.read_head.new.store.geometry
    c.geometry-size.result c.in_ok-header.header.next.0 c.places_of.result
    c.requires.geometry c.in_ok-header.ensures.keeps.geometry c.geometry-size.ensures refl refl
    c.places_of.ensures c.in_ok-header.ensures.least c.in_ok-header.ensures.most
    c.new.ensures.items c.in_ok-pages.ensures.count c.in_ok-pages.ensures.whole
    c.in_ok-pages.ensures.tested

pub returns-clause-says : goal.returns-clause-says
returns-clause-says g c = λ image tells. head_read g.D.Disk.meaning c.args.store.now
    c.read_head.new.store image c.in_ok-header.header c.geometry-size.result c.places_of.result
    c.in_ok-pages.pages.items c.in_ok-header.ensures.keeps tells c.geometry-size.ensures
    c.places_of.ensures (c.in_ok-header.ensures.says image tells)
    c.in_ok-pages.ensures.tested (c.in_ok-pages.ensures.says image)

pub returns-clause-reads : goal.returns-clause-reads
returns-clause-reads g c = read_list g.D.Disk.meaning c.args.store.now c.read_head.new.store
    c.load_pages.new.store c.in_ok-pages.pages.items c.read_head.ensures.reads c.in_ok-pages.ensures.reads

pub returns-in_err-header-clause-refused : goal.returns-in_err-header-clause-refused
returns-in_err-header-clause-refused g c = λ image tells. err_as c.from_residual.result
    c.in_err-header.field-0.0
    (RefusesLoad g.D.Disk.meaning c.read_head.new.store c.args.store.now.geometry
    (shown c.args.store.now.dirty image)) c.from_residual.ensures.1
    (head_load g.D.Disk.meaning c.read_head.new.store c.args.store.now.geometry
    (shown c.args.store.now.dirty image) c.in_err-header.field-0.0
    (c.in_err-header.ensures.refused image tells))

pub returns-in_err-pages-clause-refused : goal.returns-in_err-pages-clause-refused
returns-in_err-pages-clause-refused g c = λ image tells. err_as c.from_residual-in_err-pages.result
    c.in_err-pages.field-0.0
    (RefusesLoad g.D.Disk.meaning c.load_pages.new.store c.args.store.now.geometry
    (shown c.args.store.now.dirty image)) c.from_residual-in_err-pages.ensures.1
    (load_refused g.D.Disk.meaning c.args.store.now c.read_head.new.store c.load_pages.new.store image
    c.in_ok-header.header c.geometry-size.result c.places_of.result c.in_err-pages.field-0.0
    c.in_ok-header.ensures.keeps tells c.geometry-size.ensures c.places_of.ensures
    (c.in_ok-header.ensures.says image tells) (c.in_err-pages.ensures.refused image))

pub returns-in_err-header-clause-keeps : goal.returns-in_err-header-clause-keeps
returns-in_err-header-clause-keeps g c = c.read_head.ensures.keeps

pub returns-in_err-header-clause-fault : goal.returns-in_err-header-clause-fault
returns-in_err-header-clause-fault g c = told_as Header g.D.Disk.meaning c.args.store.now c.read_head.new.store
    c.from_residual.result c.in_err-header.field-0.0 c.from_residual.ensures.1 c.in_err-header.ensures.fault

pub returns-in_err-header-clause-own : goal.returns-in_err-header-clause-own
returns-in_err-header-clause-own g c = own_as Header c.from_residual.result c.in_err-header.field-0.0 c.from_residual.ensures.1
    c.in_err-header.ensures.own

pub returns-in_err-header-clause-list : goal.returns-in_err-header-clause-list
returns-in_err-header-clause-list g c = no_answer _ c.from_residual.result c.from_residual.ensures.0

pub returns-in_err-header-clause-size : goal.returns-in_err-header-clause-size
returns-in_err-header-clause-size g c = no_answer _ c.from_residual.result c.from_residual.ensures.0

pub returns-in_err-header-clause-fresh : goal.returns-in_err-header-clause-fresh
returns-in_err-header-clause-fresh g c = no_answer _ c.from_residual.result c.from_residual.ensures.0

pub returns-in_err-header-clause-reads : goal.returns-in_err-header-clause-reads
returns-in_err-header-clause-reads g c = no_answer _ c.from_residual.result c.from_residual.ensures.0

pub returns-in_err-header-clause-says : goal.returns-in_err-header-clause-says
returns-in_err-header-clause-says g c = λ image tells. no_answer _ c.from_residual.result c.from_residual.ensures.0

pub returns-in_err-pages-clause-keeps : goal.returns-in_err-pages-clause-keeps
returns-in_err-pages-clause-keeps g c = keeps_on g.D.Disk.meaning g.met.D.Disk.counts_now c.args.store.now c.read_head.new.store
    c.load_pages.new.store c.read_head.ensures.keeps c.load_pages.ensures.keeps

pub returns-in_err-pages-clause-fault : goal.returns-in_err-pages-clause-fault
returns-in_err-pages-clause-fault g c = told_then (Vec TipPage Global) g.D.Disk.meaning c.args.store.now
    c.read_head.new.store c.load_pages.new.store c.from_residual-in_err-pages.result c.in_err-pages.field-0.0
    c.from_residual-in_err-pages.ensures.1 c.read_head.ensures.keeps c.in_ok-header.ensures.fault.2
    c.in_err-pages.ensures.fault

pub returns-in_err-pages-clause-own : goal.returns-in_err-pages-clause-own
returns-in_err-pages-clause-own g c = own_as (Vec TipPage Global) c.from_residual-in_err-pages.result c.in_err-pages.field-0.0
    c.from_residual-in_err-pages.ensures.1 c.in_err-pages.ensures.own

pub returns-in_err-pages-clause-list : goal.returns-in_err-pages-clause-list
returns-in_err-pages-clause-list g c = no_answer _ c.from_residual-in_err-pages.result
    c.from_residual-in_err-pages.ensures.0

pub returns-in_err-pages-clause-size : goal.returns-in_err-pages-clause-size
returns-in_err-pages-clause-size g c = no_answer _ c.from_residual-in_err-pages.result
    c.from_residual-in_err-pages.ensures.0

pub returns-in_err-pages-clause-fresh : goal.returns-in_err-pages-clause-fresh
returns-in_err-pages-clause-fresh g c = no_answer _ c.from_residual-in_err-pages.result
    c.from_residual-in_err-pages.ensures.0

pub returns-in_err-pages-clause-reads : goal.returns-in_err-pages-clause-reads
returns-in_err-pages-clause-reads g c = no_answer _ c.from_residual-in_err-pages.result
    c.from_residual-in_err-pages.ensures.0

pub returns-in_err-pages-clause-says : goal.returns-in_err-pages-clause-says
returns-in_err-pages-clause-says g c = λ image tells. no_answer _ c.from_residual-in_err-pages.result
    c.from_residual-in_err-pages.ensures.0

pub returns-clause-keeps : goal.returns-clause-keeps
returns-clause-keeps g c = keeps_on g.D.Disk.meaning g.met.D.Disk.counts_now c.args.store.now c.read_head.new.store
    c.load_pages.new.store c.read_head.ensures.keeps c.load_pages.ensures.keeps

pub returns-clause-fault : goal.returns-clause-fault
returns-clause-fault g c = fault_on {T = Unit {0}} g.D.Disk.meaning c.args.store.now c.read_head.new.store
    c.load_pages.new.store (Ok tt) c.read_head.ensures.keeps c.in_ok-header.ensures.fault.2
    c.in_ok-pages.ensures.fault

pub returns-clause-own : goal.returns-clause-own
returns-clause-own g c = tt

pub returns-clause-size : goal.returns-clause-size
returns-clause-size g c = ap (λ (x : Geometry). x.size) (c.geometry-size.ensures ∙ c.read_head.ensures.keeps.geometry)

pub returns-clause-fresh : goal.returns-clause-fresh
returns-clause-fresh g c = c.new.ensures.items

pub returns-clause-refused : goal.returns-clause-refused
returns-clause-refused g c = λ image tells. tt

pub load_pages-requires-clause-pool : goal.load_pages-requires-clause-pool
load_pages-requires-clause-pool g c = c.read_head.ensures.keeps.pool

pub load_pages-requires-clause-geometry : goal.load_pages-requires-clause-geometry
load_pages-requires-clause-geometry g c = geometry_on g.D.Disk.meaning c.args.store.now c.read_head.new.store
    c.read_head.ensures.keeps c.requires.geometry

pub read_head-requires-clause-pool : goal.read_head-requires-clause-pool
read_head-requires-clause-pool g c = c.requires.pool

pub read_head-requires-clause-geometry : goal.read_head-requires-clause-geometry
read_head-requires-clause-geometry g c = c.requires.geometry

pub returns-in_err-header-clause-tips : goal.returns-in_err-header-clause-tips
returns-in_err-header-clause-tips g c = no_answer _ c.from_residual.result c.from_residual.ensures.0

pub returns-in_err-pages-clause-tips : goal.returns-in_err-pages-clause-tips
returns-in_err-pages-clause-tips g c = no_answer _ c.from_residual-in_err-pages.result
    c.from_residual-in_err-pages.ensures.0

pub returns-clause-tips : goal.returns-clause-tips
returns-clause-tips g c = list_below _ c.args.store.now.geometry c.read_head.new.store.geometry
    c.in_ok-header.ensures.keeps.geometry c.in_ok-pages.ensures.whole
