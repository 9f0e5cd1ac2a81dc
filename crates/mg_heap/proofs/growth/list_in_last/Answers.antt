use Rattle.std.proofs.Common.{◌∙◌, ap}
use Rattle.mg_pool.specs.Batch.{Changed}
use Rattle.mg_heap.proofs.GrowthLemmas.{makes_as, on_true, orders_as}
use Rattle.mg_heap.specs.GrowthLaws.{whole_made, whole_same, whole_taken}
use Rattle.mg_space.specs.BelowLaws.{taken_below}
use Rattle.mg_space.specs.HandedLaws.{fault_memory, fault_same, out_of_memory}
use Rattle.mg_space.specs.ViewLaws.{whole_on}
use Rattle.mg_base.specs.declared.numbers.PageNo.{PageNo}
use Rattle.mg_space.specs.Taking.{RefusesTake}
use Rattle.mg_heap.proofs.HandedLemmas.{alone_memory, alone_same, size_later, taken_small}
use Rattle.mg_heap.proofs.TableLemmas.{geometry_later, handed_on}
use Rattle.mg_space.specs.View.{viewed}
use Rattle.mg_heap.proofs.growth.list_in_last.Goals as goal

pub returns-in_err-order_to-clause-whole : goal.returns-in_err-order_to-clause-whole
returns-in_err-order_to-clause-whole g c =
    let geometry = c.args.store.now.geometry in
    let adds = on_true c.add_entry.result (c.add_entry.ensures.room.1 c.requires.room)
    c.add_entry.ensures.added in
    whole_same geometry c.put.new.self c.order_to.new.batch
    (whole_on geometry c.make_data.new.batch c.put.new.self c.args.q.0 c.add_entry.new.b
    (whole_made geometry c.take_page.new.batch c.make_data.new.batch c.args.owner.0 c.args.place
    c.in_ok-n.n.0 c.in_ok-bytes.bytes.items
    (whole_taken c.args.store.now.geometry c.args.batch.now c.take_page.new.batch c.in_ok-n.n.0
    c.requires.whole c.in_ok-n.ensures.puts)
    (taken_below c.args.store.now.geometry c.in_ok-n.n.0 c.in_ok-n.ensures.puts.below)
    (makes_as c.take_page.new.store.geometry c.args.store.now.geometry c.take_page.new.batch
    c.make_data.new.batch c.args.owner.0 c.args.place c.in_ok-n.n.0 c.in_ok-bytes.bytes.items
    c.in_ok-n.ensures.keeps.geometry c.in_ok-bytes.ensures.made))
    (adds.len ∙ c.requires.len) c.requires.below c.in_ok-put.ensures.puts) c.in_err-order_to.ensures.pages

pub returns-clause-whole : goal.returns-clause-whole
returns-clause-whole g c =
    let geometry = c.args.store.now.geometry in
    let adds = on_true c.add_entry.result (c.add_entry.ensures.room.1 c.requires.room)
    c.add_entry.ensures.added in
    whole_same geometry c.put.new.self c.order_to.new.batch
    (whole_on geometry c.make_data.new.batch c.put.new.self c.args.q.0 c.add_entry.new.b
    (whole_made geometry c.take_page.new.batch c.make_data.new.batch c.args.owner.0 c.args.place
    c.in_ok-n.n.0 c.in_ok-bytes.bytes.items
    (whole_taken c.args.store.now.geometry c.args.batch.now c.take_page.new.batch c.in_ok-n.n.0
    c.requires.whole c.in_ok-n.ensures.puts)
    (taken_below c.args.store.now.geometry c.in_ok-n.n.0 c.in_ok-n.ensures.puts.below)
    (makes_as c.take_page.new.store.geometry c.args.store.now.geometry c.take_page.new.batch
    c.make_data.new.batch c.args.owner.0 c.args.place c.in_ok-n.n.0 c.in_ok-bytes.bytes.items
    c.in_ok-n.ensures.keeps.geometry c.in_ok-bytes.ensures.made))
    (adds.len ∙ c.requires.len) c.requires.below c.in_ok-put.ensures.puts) c.in_ok-order_to.ensures.pages

pub returns-clause-lists : goal.returns-clause-lists
returns-clause-lists g c = λ image tells. record {
  taken = c.take_page.new.batch;
  made = c.make_data.new.batch;
  listed = c.put.new.self;
  bit = c.in_ok-n.ensures.puts;
  takes = c.in_ok-n.ensures.takes image tells;
  makes = makes_as c.take_page.new.store.geometry c.args.store.now.geometry c.take_page.new.batch
      c.make_data.new.batch c.args.owner.0 c.args.place c.in_ok-n.n.0 c.in_ok-bytes.bytes.items
      c.in_ok-n.ensures.keeps.geometry c.in_ok-bytes.ensures.made;
  page = c.add_entry.new.b;
  adds = on_true c.add_entry.result (c.add_entry.ensures.room.1 c.requires.room)
      c.add_entry.ensures.added;
  puts = c.in_ok-put.ensures.puts;
  orders = orders_as c.geometry.result c.args.store.now.geometry c.put.new.self c.order_to.new.batch
      c.in_ok-n.n.0 c.args.q.0 (c.geometry.ensures ∙ c.in_ok-n.ensures.keeps.geometry)
      c.in_ok-order_to.ensures.adds;
}

pub returns-in_err-bytes-clause-whole : goal.returns-in_err-bytes-clause-whole
returns-in_err-bytes-clause-whole g c = whole_same c.args.store.now.geometry
    c.take_page.new.batch c.make_data.new.batch
    (whole_taken c.args.store.now.geometry c.args.batch.now c.take_page.new.batch c.in_ok-n.n.0
    c.requires.whole c.in_ok-n.ensures.puts)
    (ap (λ (b : Changed). b.pages) c.in_err-bytes.ensures.same)

pub returns-in_err-put-clause-whole : goal.returns-in_err-put-clause-whole
returns-in_err-put-clause-whole g c = whole_same c.args.store.now.geometry
    c.make_data.new.batch c.put.new.self
    (whole_made c.args.store.now.geometry c.take_page.new.batch c.make_data.new.batch
    c.args.owner.0 c.args.place c.in_ok-n.n.0 c.in_ok-bytes.bytes.items
    (whole_taken c.args.store.now.geometry c.args.batch.now c.take_page.new.batch c.in_ok-n.n.0
    c.requires.whole c.in_ok-n.ensures.puts)
    (taken_below c.args.store.now.geometry c.in_ok-n.n.0 c.in_ok-n.ensures.puts.below)
    (makes_as c.take_page.new.store.geometry c.args.store.now.geometry c.take_page.new.batch
    c.make_data.new.batch c.args.owner.0 c.args.place c.in_ok-n.n.0 c.in_ok-bytes.bytes.items
    c.in_ok-n.ensures.keeps.geometry c.in_ok-bytes.ensures.made))
    (ap (λ (b : Changed). b.pages) c.in_err-put.ensures.same)

pub returns-in_err-n-clause-keeps : goal.returns-in_err-n-clause-keeps
returns-in_err-n-clause-keeps g c = c.in_err-n.ensures.keeps

pub returns-in_err-n-clause-fault : goal.returns-in_err-n-clause-fault
returns-in_err-n-clause-fault g c = fault_same PageNo g.D.Disk.meaning c.args.store.now
    c.take_page.new.store c.from_residual.result c.in_err-n.field-0.0 c.from_residual.ensures.0
    c.from_residual.ensures.1 c.in_err-n.ensures.fault

pub returns-in_err-n-clause-own : goal.returns-in_err-n-clause-own
returns-in_err-n-clause-own g c = alone_same PageNo c.from_residual.result c.in_err-n.field-0.0
    c.from_residual.ensures.0 c.from_residual.ensures.1 c.in_err-n.ensures.own

pub returns-in_err-n-clause-whole : goal.returns-in_err-n-clause-whole
returns-in_err-n-clause-whole g c = whole_same c.args.store.now.geometry c.args.batch.now
    c.take_page.new.batch c.requires.whole (ap (λ (b : Changed). b.pages) c.in_err-n.ensures.same)

pub returns-in_err-n-clause-lists : goal.returns-in_err-n-clause-lists
returns-in_err-n-clause-lists g c = λ image tells. handed_on c.from_residual.result c.in_err-n.field-0.0 _
    (RefusesTake c.args.store.now.geometry (viewed c.args.store.now image c.args.batch.now))
    c.from_residual.ensures.0 c.from_residual.ensures.1 (c.in_err-n.ensures.takes image tells)

pub returns-in_err-bytes-clause-keeps : goal.returns-in_err-bytes-clause-keeps
returns-in_err-bytes-clause-keeps g c = c.in_ok-n.ensures.keeps

pub returns-in_err-bytes-clause-fault : goal.returns-in_err-bytes-clause-fault
returns-in_err-bytes-clause-fault g c = fault_memory g.D.Disk.meaning c.args.store.now c.take_page.new.store
    c.from_residual-in_err-bytes.result c.from_residual-in_err-bytes.ensures.0
    c.from_residual-in_err-bytes.ensures.1 c.in_ok-n.ensures.fault

pub returns-in_err-bytes-clause-own : goal.returns-in_err-bytes-clause-own
returns-in_err-bytes-clause-own g c = alone_memory c.from_residual-in_err-bytes.result
    c.from_residual-in_err-bytes.ensures.1

pub returns-in_err-bytes-clause-lists : goal.returns-in_err-bytes-clause-lists
returns-in_err-bytes-clause-lists g c = λ image tells. handed_on c.from_residual-in_err-bytes.result
    out_of_memory _ (RefusesTake c.args.store.now.geometry (viewed c.args.store.now image c.args.batch.now))
    c.from_residual-in_err-bytes.ensures.0 c.from_residual-in_err-bytes.ensures.1 tt

pub returns-in_err-put-clause-keeps : goal.returns-in_err-put-clause-keeps
returns-in_err-put-clause-keeps g c = c.in_ok-n.ensures.keeps

pub returns-in_err-put-clause-fault : goal.returns-in_err-put-clause-fault
returns-in_err-put-clause-fault g c = fault_memory g.D.Disk.meaning c.args.store.now c.take_page.new.store
    c.from_residual-in_err-put.result c.from_residual-in_err-put.ensures.0
    c.from_residual-in_err-put.ensures.1 c.in_ok-n.ensures.fault

pub returns-in_err-put-clause-own : goal.returns-in_err-put-clause-own
returns-in_err-put-clause-own g c = alone_memory c.from_residual-in_err-put.result
    c.from_residual-in_err-put.ensures.1

pub returns-in_err-put-clause-lists : goal.returns-in_err-put-clause-lists
returns-in_err-put-clause-lists g c = λ image tells. handed_on c.from_residual-in_err-put.result
    out_of_memory _ (RefusesTake c.args.store.now.geometry (viewed c.args.store.now image c.args.batch.now))
    c.from_residual-in_err-put.ensures.0 c.from_residual-in_err-put.ensures.1 tt

pub returns-in_err-order_to-clause-keeps : goal.returns-in_err-order_to-clause-keeps
returns-in_err-order_to-clause-keeps g c = c.in_ok-n.ensures.keeps

pub returns-in_err-order_to-clause-fault : goal.returns-in_err-order_to-clause-fault
returns-in_err-order_to-clause-fault g c = fault_memory g.D.Disk.meaning c.args.store.now
    c.take_page.new.store c.from_residual-in_err-order_to.result c.from_residual-in_err-order_to.ensures.0
    c.from_residual-in_err-order_to.ensures.1 c.in_ok-n.ensures.fault

pub returns-in_err-order_to-clause-own : goal.returns-in_err-order_to-clause-own
returns-in_err-order_to-clause-own g c = alone_memory c.from_residual-in_err-order_to.result
    c.from_residual-in_err-order_to.ensures.1

pub returns-in_err-order_to-clause-lists : goal.returns-in_err-order_to-clause-lists
returns-in_err-order_to-clause-lists g c = λ image tells. handed_on c.from_residual-in_err-order_to.result
    out_of_memory _ (RefusesTake c.args.store.now.geometry (viewed c.args.store.now image c.args.batch.now))
    c.from_residual-in_err-order_to.ensures.0 c.from_residual-in_err-order_to.ensures.1 tt

pub returns-clause-keeps : goal.returns-clause-keeps
returns-clause-keeps g c = c.in_ok-n.ensures.keeps

pub returns-clause-fault : goal.returns-clause-fault
returns-clause-fault g c = c.in_ok-n.ensures.fault

pub make_data-requires : goal.make_data-requires
make_data-requires g c = geometry_later g.D.Disk.meaning c.args.store.now c.take_page.new.store
    c.in_ok-n.ensures.keeps c.requires.geometry

pub order_to-requires-clause-size : goal.order_to-requires-clause-size
order_to-requires-clause-size g c = size_later c.geometry.result c.args.store.now.geometry
    (c.geometry.ensures ∙ c.in_ok-n.ensures.keeps.geometry) c.requires.geometry

pub order_to-requires-clause-page : goal.order_to-requires-clause-page
order_to-requires-clause-page g c = taken_small c.args.store.now.geometry c.args.batch.now
    c.take_page.new.batch c.in_ok-n.n.0 c.requires.geometry c.in_ok-n.ensures.puts
