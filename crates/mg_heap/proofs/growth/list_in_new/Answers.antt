use Rattle.std.proofs.Common.{◌∙◌, ap, inl}
use Rattle.mg_pool.specs.Batch.{Changed}
use Rattle.mg_space.specs.HandedLaws.{fault_memory, fault_same, out_of_memory}
use Rattle.mg_heap.proofs.GrowthLemmas.{makes_as, orders_as, orders_on, pointer_as, whole_linked}
use Rattle.mg_heap.specs.Growth.{orders_to, RefusesTwo}
use Rattle.mg_heap.specs.GrowthLaws.{whole_begun, whole_made, whole_same}
use Rattle.mg_heap.specs.declared.growth.TwoPages.{TwoPages}
use Rattle.mg_heap.proofs.HandedLemmas.{alone_memory, alone_same, size_later}
use Rattle.mg_heap.proofs.TableLemmas.{geometry_later, handed_on}
use Rattle.mg_heap.proofs.growth.list_in_new.Goals as goal

pub returns-in_err-put-clause-whole : goal.returns-in_err-put-clause-whole
returns-in_err-put-clause-whole g c = whole_same c.args.store.now.geometry
    c.make_pointer.new.batch c.put.new.self
    (whole_begun c.args.store.now.geometry c.make_data.new.batch c.make_pointer.new.batch
    c.args.owner.0 c.args.at.pointer c.in_ok-taken.taken.first.0 c.in_ok-taken.taken.second.0
    (whole_made c.args.store.now.geometry c.take_two.new.batch c.make_data.new.batch
    c.args.owner.0 c.args.at.data c.in_ok-taken.taken.second.0 c.in_ok-bytes.bytes.items
    c.in_ok-taken.ensures.whole c.in_ok-taken.ensures.below.1
    (makes_as c.take_two.new.store.geometry c.args.store.now.geometry c.take_two.new.batch
    c.make_data.new.batch c.args.owner.0 c.args.at.data c.in_ok-taken.taken.second.0
    c.in_ok-bytes.bytes.items c.in_ok-taken.ensures.keeps.geometry c.in_ok-bytes.ensures.made)) c.in_ok-taken.ensures.below.0
    (pointer_as c.take_two.new.store.geometry c.args.store.now.geometry c.make_data.new.batch
    c.make_pointer.new.batch c.args.owner.0 c.args.at.pointer c.in_ok-taken.taken.first.0
    c.in_ok-taken.taken.second.0 c.in_ok-taken.ensures.keeps.geometry
    c.in_ok-make_pointer.ensures.made)) (ap (λ (b : Changed). b.pages) c.in_err-put.ensures.same)

pub returns-in_err-order_to-clause-whole : goal.returns-in_err-order_to-clause-whole
returns-in_err-order_to-clause-whole g c = whole_same c.args.store.now.geometry c.put.new.self
    c.order_to.new.batch (
    whole_linked c.args.store.now.geometry c.take_two.new.store.geometry
    c.take_two.new.batch c.make_data.new.batch c.make_pointer.new.batch c.put.new.self c.args.owner.0
    c.args.at.data c.args.at.pointer c.args.q.0 c.in_ok-taken.taken.first.0
    c.in_ok-taken.taken.second.0 c.in_ok-bytes.bytes.items c.args.pointer.now c.set_next.new.b
    c.in_ok-taken.ensures.keeps.geometry c.in_ok-taken.ensures.whole c.in_ok-taken.ensures.below.1
    c.in_ok-taken.ensures.below.0 c.requires.below c.in_ok-bytes.ensures.made
    c.in_ok-make_pointer.ensures.made c.requires.len c.set_next.ensures c.in_ok-put.ensures.puts)
    c.in_err-order_to.ensures.pages

pub returns-in_err-order_to-2-clause-whole : goal.returns-in_err-order_to-2-clause-whole
returns-in_err-order_to-2-clause-whole g c = whole_same c.args.store.now.geometry c.put.new.self
    c.order_to-2.new.batch (
    whole_linked c.args.store.now.geometry c.take_two.new.store.geometry
    c.take_two.new.batch c.make_data.new.batch c.make_pointer.new.batch c.put.new.self c.args.owner.0
    c.args.at.data c.args.at.pointer c.args.q.0 c.in_ok-taken.taken.first.0
    c.in_ok-taken.taken.second.0 c.in_ok-bytes.bytes.items c.args.pointer.now c.set_next.new.b
    c.in_ok-taken.ensures.keeps.geometry c.in_ok-taken.ensures.whole c.in_ok-taken.ensures.below.1
    c.in_ok-taken.ensures.below.0 c.requires.below c.in_ok-bytes.ensures.made
    c.in_ok-make_pointer.ensures.made c.requires.len c.set_next.ensures c.in_ok-put.ensures.puts)
    (c.in_err-order_to-2.ensures.pages ∙ c.in_ok-order_to.ensures.pages)

pub returns-clause-whole : goal.returns-clause-whole
returns-clause-whole g c = whole_same c.args.store.now.geometry c.put.new.self
    c.order_to-2.new.batch (
    whole_linked c.args.store.now.geometry c.take_two.new.store.geometry
    c.take_two.new.batch c.make_data.new.batch c.make_pointer.new.batch c.put.new.self c.args.owner.0
    c.args.at.data c.args.at.pointer c.args.q.0 c.in_ok-taken.taken.first.0
    c.in_ok-taken.taken.second.0 c.in_ok-bytes.bytes.items c.args.pointer.now c.set_next.new.b
    c.in_ok-taken.ensures.keeps.geometry c.in_ok-taken.ensures.whole c.in_ok-taken.ensures.below.1
    c.in_ok-taken.ensures.below.0 c.requires.below c.in_ok-bytes.ensures.made
    c.in_ok-make_pointer.ensures.made c.requires.len c.set_next.ensures c.in_ok-put.ensures.puts)
    (c.in_ok-order_to-2.ensures.pages ∙ c.in_ok-order_to.ensures.pages)

pub returns-clause-lists : goal.returns-clause-lists
returns-clause-lists g c = λ image tells.
    let two = c.in_ok-taken.ensures.takes image tells in
    let begins = pointer_as c.take_two.new.store.geometry c.args.store.now.geometry c.make_data.new.batch
    c.make_pointer.new.batch c.args.owner.0 c.args.at.pointer c.in_ok-taken.taken.first.0
    c.in_ok-taken.taken.second.0 c.in_ok-taken.ensures.keeps.geometry
    c.in_ok-make_pointer.ensures.made in (
      c.in_ok-taken.taken.first.0,
      record {
        with_bit = two.with_bit;
        taken = c.take_two.new.batch;
        made = c.make_data.new.batch;
        begun = c.make_pointer.new.batch;
        linked = c.put.new.self;
        bit_pointer = two.bit_first;
        takes_pointer = two.takes_first;
        bit = two.bit_second;
        takes = two.takes_second;
        makes = makes_as c.take_two.new.store.geometry c.args.store.now.geometry c.take_two.new.batch
            c.make_data.new.batch c.args.owner.0 c.args.at.data c.in_ok-taken.taken.second.0
            c.in_ok-bytes.bytes.items c.in_ok-taken.ensures.keeps.geometry c.in_ok-bytes.ensures.made;
        page = begins.page;
        adds = begins.adds;
        puts = begins.puts;
        link = c.set_next.new.b;
        links = c.set_next.ensures;
        puts_link = c.in_ok-put.ensures.puts;
        orders = orders_on c.put.new.self c.order_to.new.batch c.order_to-2.new.batch
            (orders_to c.args.store.now.geometry.size c.in_ok-taken.taken.second.0
            c.in_ok-taken.taken.first.0)
            (orders_to c.args.store.now.geometry.size c.in_ok-taken.taken.first.0 c.args.q.0)
            (orders_as c.geometry.result c.args.store.now.geometry c.put.new.self c.order_to.new.batch
            c.in_ok-taken.taken.second.0 c.in_ok-taken.taken.first.0
            (c.geometry.ensures ∙ c.in_ok-taken.ensures.keeps.geometry) c.in_ok-order_to.ensures.adds)
            (orders_as c.geometry-2.result c.args.store.now.geometry c.order_to.new.batch
            c.order_to-2.new.batch c.in_ok-taken.taken.first.0 c.args.q.0
            (c.geometry-2.ensures ∙ c.in_ok-taken.ensures.keeps.geometry)
            c.in_ok-order_to-2.ensures.adds);
      },
    )

pub returns-in_err-bytes-clause-whole : goal.returns-in_err-bytes-clause-whole
returns-in_err-bytes-clause-whole g c = whole_same c.args.store.now.geometry
    c.take_two.new.batch c.make_data.new.batch c.in_ok-taken.ensures.whole
    (ap (λ (b : Changed). b.pages) c.in_err-bytes.ensures.same)

pub returns-in_err-make_pointer-clause-whole : goal.returns-in_err-make_pointer-clause-whole
returns-in_err-make_pointer-clause-whole g c = whole_same c.args.store.now.geometry
    c.make_data.new.batch c.make_pointer.new.batch
    (whole_made c.args.store.now.geometry c.take_two.new.batch c.make_data.new.batch
    c.args.owner.0 c.args.at.data c.in_ok-taken.taken.second.0 c.in_ok-bytes.bytes.items
    c.in_ok-taken.ensures.whole c.in_ok-taken.ensures.below.1
    (makes_as c.take_two.new.store.geometry c.args.store.now.geometry c.take_two.new.batch
    c.make_data.new.batch c.args.owner.0 c.args.at.data c.in_ok-taken.taken.second.0
    c.in_ok-bytes.bytes.items c.in_ok-taken.ensures.keeps.geometry c.in_ok-bytes.ensures.made))
    (ap (λ (b : Changed). b.pages) c.in_err-make_pointer.ensures.same)

pub returns-in_err-taken-clause-keeps : goal.returns-in_err-taken-clause-keeps
returns-in_err-taken-clause-keeps g c = c.in_err-taken.ensures.keeps

pub returns-in_err-taken-clause-fault : goal.returns-in_err-taken-clause-fault
returns-in_err-taken-clause-fault g c = fault_same TwoPages g.D.Disk.meaning c.args.store.now
    c.take_two.new.store c.from_residual.result c.in_err-taken.field-0.0 c.from_residual.ensures.0
    c.from_residual.ensures.1 c.in_err-taken.ensures.fault

pub returns-in_err-taken-clause-own : goal.returns-in_err-taken-clause-own
returns-in_err-taken-clause-own g c = alone_same TwoPages c.from_residual.result c.in_err-taken.field-0.0
    c.from_residual.ensures.0 c.from_residual.ensures.1 c.in_err-taken.ensures.own

pub returns-in_err-taken-clause-whole : goal.returns-in_err-taken-clause-whole
returns-in_err-taken-clause-whole g c = c.in_err-taken.ensures.whole

pub returns-in_err-taken-clause-lists : goal.returns-in_err-taken-clause-lists
returns-in_err-taken-clause-lists g c = λ image tells. handed_on c.from_residual.result
    c.in_err-taken.field-0.0 _ (RefusesTwo c.args.store.now.geometry c.args.store.now image
    c.args.batch.now) c.from_residual.ensures.0 c.from_residual.ensures.1 (c.in_err-taken.ensures.takes
    image tells)

pub returns-in_err-bytes-clause-keeps : goal.returns-in_err-bytes-clause-keeps
returns-in_err-bytes-clause-keeps g c = c.in_ok-taken.ensures.keeps

pub returns-in_err-bytes-clause-fault : goal.returns-in_err-bytes-clause-fault
returns-in_err-bytes-clause-fault g c = fault_memory g.D.Disk.meaning c.args.store.now c.take_two.new.store
    c.from_residual-in_err-bytes.result c.from_residual-in_err-bytes.ensures.0
    c.from_residual-in_err-bytes.ensures.1 c.in_ok-taken.ensures.fault

pub returns-in_err-bytes-clause-own : goal.returns-in_err-bytes-clause-own
returns-in_err-bytes-clause-own g c = alone_memory c.from_residual-in_err-bytes.result
    c.from_residual-in_err-bytes.ensures.1

pub returns-in_err-bytes-clause-lists : goal.returns-in_err-bytes-clause-lists
returns-in_err-bytes-clause-lists g c = λ image tells. handed_on c.from_residual-in_err-bytes.result
    out_of_memory _ (RefusesTwo c.args.store.now.geometry c.args.store.now image c.args.batch.now)
    c.from_residual-in_err-bytes.ensures.0 c.from_residual-in_err-bytes.ensures.1 (inl tt)

pub returns-in_err-make_pointer-clause-keeps : goal.returns-in_err-make_pointer-clause-keeps
returns-in_err-make_pointer-clause-keeps g c = c.in_ok-taken.ensures.keeps

pub returns-in_err-make_pointer-clause-fault : goal.returns-in_err-make_pointer-clause-fault
returns-in_err-make_pointer-clause-fault g c = fault_memory g.D.Disk.meaning c.args.store.now
    c.take_two.new.store c.from_residual-in_err-make_pointer.result
    c.from_residual-in_err-make_pointer.ensures.0 c.from_residual-in_err-make_pointer.ensures.1
    c.in_ok-taken.ensures.fault

pub returns-in_err-make_pointer-clause-own : goal.returns-in_err-make_pointer-clause-own
returns-in_err-make_pointer-clause-own g c = alone_memory c.from_residual-in_err-make_pointer.result
    c.from_residual-in_err-make_pointer.ensures.1

pub returns-in_err-make_pointer-clause-lists : goal.returns-in_err-make_pointer-clause-lists
returns-in_err-make_pointer-clause-lists g c = λ image tells. handed_on
    c.from_residual-in_err-make_pointer.result out_of_memory _ (RefusesTwo c.args.store.now.geometry
    c.args.store.now image c.args.batch.now) c.from_residual-in_err-make_pointer.ensures.0
    c.from_residual-in_err-make_pointer.ensures.1 (inl tt)

pub returns-in_err-put-clause-keeps : goal.returns-in_err-put-clause-keeps
returns-in_err-put-clause-keeps g c = c.in_ok-taken.ensures.keeps

pub returns-in_err-put-clause-fault : goal.returns-in_err-put-clause-fault
returns-in_err-put-clause-fault g c = fault_memory g.D.Disk.meaning c.args.store.now c.take_two.new.store
    c.from_residual-in_err-put.result c.from_residual-in_err-put.ensures.0
    c.from_residual-in_err-put.ensures.1 c.in_ok-taken.ensures.fault

pub returns-in_err-put-clause-own : goal.returns-in_err-put-clause-own
returns-in_err-put-clause-own g c = alone_memory c.from_residual-in_err-put.result
    c.from_residual-in_err-put.ensures.1

pub returns-in_err-put-clause-lists : goal.returns-in_err-put-clause-lists
returns-in_err-put-clause-lists g c = λ image tells. handed_on c.from_residual-in_err-put.result
    out_of_memory _ (RefusesTwo c.args.store.now.geometry c.args.store.now image c.args.batch.now)
    c.from_residual-in_err-put.ensures.0 c.from_residual-in_err-put.ensures.1 (inl tt)

pub returns-in_err-order_to-clause-keeps : goal.returns-in_err-order_to-clause-keeps
returns-in_err-order_to-clause-keeps g c = c.in_ok-taken.ensures.keeps

pub returns-in_err-order_to-clause-fault : goal.returns-in_err-order_to-clause-fault
returns-in_err-order_to-clause-fault g c = fault_memory g.D.Disk.meaning c.args.store.now
    c.take_two.new.store c.from_residual-in_err-order_to.result c.from_residual-in_err-order_to.ensures.0
    c.from_residual-in_err-order_to.ensures.1 c.in_ok-taken.ensures.fault

pub returns-in_err-order_to-clause-own : goal.returns-in_err-order_to-clause-own
returns-in_err-order_to-clause-own g c = alone_memory c.from_residual-in_err-order_to.result
    c.from_residual-in_err-order_to.ensures.1

pub returns-in_err-order_to-clause-lists : goal.returns-in_err-order_to-clause-lists
returns-in_err-order_to-clause-lists g c = λ image tells. handed_on c.from_residual-in_err-order_to.result
    out_of_memory _ (RefusesTwo c.args.store.now.geometry c.args.store.now image c.args.batch.now)
    c.from_residual-in_err-order_to.ensures.0 c.from_residual-in_err-order_to.ensures.1 (inl tt)

pub returns-in_err-order_to-2-clause-keeps : goal.returns-in_err-order_to-2-clause-keeps
returns-in_err-order_to-2-clause-keeps g c = c.in_ok-taken.ensures.keeps

pub returns-in_err-order_to-2-clause-fault : goal.returns-in_err-order_to-2-clause-fault
returns-in_err-order_to-2-clause-fault g c = fault_memory g.D.Disk.meaning c.args.store.now
    c.take_two.new.store c.from_residual-in_err-order_to-2.result
    c.from_residual-in_err-order_to-2.ensures.0 c.from_residual-in_err-order_to-2.ensures.1
    c.in_ok-taken.ensures.fault

pub returns-in_err-order_to-2-clause-own : goal.returns-in_err-order_to-2-clause-own
returns-in_err-order_to-2-clause-own g c = alone_memory c.from_residual-in_err-order_to-2.result
    c.from_residual-in_err-order_to-2.ensures.1

pub returns-in_err-order_to-2-clause-lists : goal.returns-in_err-order_to-2-clause-lists
returns-in_err-order_to-2-clause-lists g c = λ image tells. handed_on
    c.from_residual-in_err-order_to-2.result out_of_memory _ (RefusesTwo c.args.store.now.geometry
    c.args.store.now image c.args.batch.now) c.from_residual-in_err-order_to-2.ensures.0
    c.from_residual-in_err-order_to-2.ensures.1 (inl tt)

pub returns-clause-keeps : goal.returns-clause-keeps
returns-clause-keeps g c = c.in_ok-taken.ensures.keeps

pub returns-clause-fault : goal.returns-clause-fault
returns-clause-fault g c = c.in_ok-taken.ensures.fault

pub make_data-requires : goal.make_data-requires
make_data-requires g c = geometry_later g.D.Disk.meaning c.args.store.now c.take_two.new.store
    c.in_ok-taken.ensures.keeps c.requires.geometry

pub make_pointer-requires : goal.make_pointer-requires
make_pointer-requires g c = geometry_later g.D.Disk.meaning c.args.store.now c.take_two.new.store
    c.in_ok-taken.ensures.keeps c.requires.geometry

pub order_to-requires-clause-size : goal.order_to-requires-clause-size
order_to-requires-clause-size g c = size_later c.geometry.result c.args.store.now.geometry
    (c.geometry.ensures ∙ c.in_ok-taken.ensures.keeps.geometry) c.requires.geometry

pub order_to-requires-2-clause-size : goal.order_to-requires-2-clause-size
order_to-requires-2-clause-size g c = size_later c.geometry-2.result c.args.store.now.geometry
    (c.geometry-2.ensures ∙ c.in_ok-taken.ensures.keeps.geometry) c.requires.geometry

pub order_to-requires-clause-page : goal.order_to-requires-clause-page
order_to-requires-clause-page g c = c.in_ok-taken.ensures.small.1

pub order_to-requires-2-clause-page : goal.order_to-requires-2-clause-page
order_to-requires-2-clause-page g c = c.in_ok-taken.ensures.small.0
