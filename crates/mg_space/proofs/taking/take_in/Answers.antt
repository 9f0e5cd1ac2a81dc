use Rattle.std.proofs.Common.{◌≡◌, ◌+◌, ◌*◌, ◌∙◌, ℕ, ap, arith, drop, length, refl}
use Rattle.std.specs.declared.alloc.Global.{Global}
use Rattle.std.specs.declared.vec.Vec.{Vec}
use Rattle.mg_space.specs.HandedLaws.{out_of_memory, own_as, told_as}
use Rattle.mg_space.specs.Taking.{RefusesRegion, taking_limit}
use Rattle.mg_space.specs.View.{viewed}
use Rattle.mg_space.specs.ViewLaws.{viewed_else, viewed_here}
use Rattle.mg_space.proofs.HandedLemmas.{no_ok, on_err, refused_as, told_online}
use Rattle.mg_space.proofs.RegionLemmas.{none_in, puts_in, takes_in, written_back}
use Rattle.mg_space.proofs.taking.take_in.Goals as goal

pub returns-in_default-clause-takes : goal.returns-in_default-clause-takes
returns-in_default-clause-takes g c = λ image tells. none_in c.args.store.now.geometry
    c.taking_limit.result c.args.region c.args.bits c.min-below.result c.requires.geometry
    (c.taking_limit.ensures ∙ ap taking_limit c.geometry-geometry.ensures) c.requires.bits c.min-below.ensures
    (viewed c.args.store.now image c.args.batch.now) c.in_ok-page.page.items c.deref_mut.result.now
    c.deref_mut.ensures.value (c.in_ok-page.ensures.seen image tells) c.in_default.ensures.bit

pub returns-clause-puts : goal.returns-clause-puts
returns-clause-puts g c =
    let len : c.in_ok-page.page.len ≡ length c.take_bit.new.page =
    omega (arith, c.take_bit.ensures.len, c.deref_mut.ensures.len) in
    puts_in c.args.store.now.geometry
    c.taking_limit.result c.args.region c.args.bits c.min-below.result c.requires.geometry
    (c.taking_limit.ensures ∙ ap taking_limit c.geometry-geometry.ensures) c.requires.bits c.min-below.ensures
    c.in_ok-page.page.items c.deref_mut.result.now c.take_bit.new.page c.deref.result.now
    c.in-Some.bit c.args.batch.now c.put.new.self c.deref_mut.ensures.value
    (written_back c.in_ok-page.page.len c.take_bit.new.page
    (drop (length c.take_bit.new.page) c.in_ok-page.page.items) c.deref.result.now len
    c.deref.ensures.value)
    c.in_ok-page.ensures.len c.in_ok-page.ensures.fixed c.requires.below c.in-Some.ensures.bit
    c.in_ok-put.ensures.puts

pub returns-clause-takes : goal.returns-clause-takes
returns-clause-takes g c = λ image tells.
    let len : c.in_ok-page.page.len ≡ length c.take_bit.new.page =
    omega (arith, c.take_bit.ensures.len, c.deref_mut.ensures.len) in
    takes_in c.args.store.now.geometry
    c.taking_limit.result c.args.region c.args.bits c.min-below.result c.requires.geometry
    (c.taking_limit.ensures ∙ ap taking_limit c.geometry-geometry.ensures) c.requires.bits c.min-below.ensures
    (viewed c.args.store.now image c.args.batch.now) (viewed c.args.store.now image c.put.new.self)
    c.in_ok-page.page.items c.deref_mut.result.now c.take_bit.new.page c.deref.result.now
    c.in-Some.bit c.deref_mut.ensures.value
    (written_back c.in_ok-page.page.len c.take_bit.new.page
    (drop (length c.take_bit.new.page) c.in_ok-page.page.items) c.deref.result.now len
    c.deref.ensures.value)
    c.in_ok-page.ensures.len (c.in_ok-page.ensures.seen image tells) c.requires.below
    c.in-Some.ensures.bit
    (viewed_here c.args.store.now image c.args.batch.now c.put.new.self
    (c.args.region * c.args.bits + 1) c.deref.result.now c.in_ok-put.ensures.puts)
    (viewed_else c.args.store.now image c.args.batch.now c.put.new.self
    (c.args.region * c.args.bits + 1) c.deref.result.now c.in_ok-put.ensures.puts)

pub returns-in_err-page-clause-keeps : goal.returns-in_err-page-clause-keeps
returns-in_err-page-clause-keeps g c = c.in_err-page.ensures.keeps

pub returns-in_err-page-clause-fault : goal.returns-in_err-page-clause-fault
returns-in_err-page-clause-fault g c = told_as (Vec ℕ Global) g.D.Disk.meaning c.args.store.now
    c.inventory_of.new.store c.from_residual.result c.in_err-page.field-0.0 c.from_residual.ensures.1
    c.in_err-page.ensures.fault

pub returns-in_err-page-clause-own : goal.returns-in_err-page-clause-own
returns-in_err-page-clause-own g c = own_as (Vec ℕ Global) c.from_residual.result
    c.in_err-page.field-0.0 c.from_residual.ensures.1 c.in_err-page.ensures.own

pub returns-in_err-page-clause-puts : goal.returns-in_err-page-clause-puts
returns-in_err-page-clause-puts g c = no_ok c.from_residual.result _ _ c.from_residual.ensures.1

pub returns-in_err-page-clause-none : goal.returns-in_err-page-clause-none
returns-in_err-page-clause-none g c = no_ok c.from_residual.result _ _ c.from_residual.ensures.1

pub returns-in_err-page-clause-same : goal.returns-in_err-page-clause-same
returns-in_err-page-clause-same g c = on_err c.from_residual.result _ refl

pub returns-in_err-page-clause-takes : goal.returns-in_err-page-clause-takes
returns-in_err-page-clause-takes g c = λ image tells. refused_as c.from_residual.result
    c.in_err-page.field-0.0 _
    (RefusesRegion c.args.store.now.geometry c.args.region (viewed c.args.store.now image c.args.batch.now))
    c.from_residual.ensures.1 (c.in_err-page.ensures.seen image tells)

pub returns-in_err-put-clause-keeps : goal.returns-in_err-put-clause-keeps
returns-in_err-put-clause-keeps g c = c.in_ok-page.ensures.keeps

pub returns-in_err-put-clause-fault : goal.returns-in_err-put-clause-fault
returns-in_err-put-clause-fault g c = told_online g.D.Disk.meaning c.args.store.now
    c.inventory_of.new.store c.from_residual-in_err-put.result out_of_memory
    c.from_residual-in_err-put.ensures.1 c.in_ok-page.ensures.fault

pub returns-in_err-put-clause-own : goal.returns-in_err-put-clause-own
returns-in_err-put-clause-own g c = own_as (Vec ℕ Global) c.from_residual-in_err-put.result
    out_of_memory c.from_residual-in_err-put.ensures.1 tt

pub returns-in_err-put-clause-puts : goal.returns-in_err-put-clause-puts
returns-in_err-put-clause-puts g c =
    no_ok c.from_residual-in_err-put.result _ _ c.from_residual-in_err-put.ensures.1

pub returns-in_err-put-clause-none : goal.returns-in_err-put-clause-none
returns-in_err-put-clause-none g c =
    no_ok c.from_residual-in_err-put.result _ _ c.from_residual-in_err-put.ensures.1

pub returns-in_err-put-clause-same : goal.returns-in_err-put-clause-same
returns-in_err-put-clause-same g c =
    on_err c.from_residual-in_err-put.result _ c.in_err-put.ensures.same

pub returns-in_err-put-clause-takes : goal.returns-in_err-put-clause-takes
returns-in_err-put-clause-takes g c = λ image tells. refused_as c.from_residual-in_err-put.result
    out_of_memory _
    (RefusesRegion c.args.store.now.geometry c.args.region (viewed c.args.store.now image c.args.batch.now))
    c.from_residual-in_err-put.ensures.1 tt

pub returns-in_default-clause-keeps : goal.returns-in_default-clause-keeps
returns-in_default-clause-keeps g c = c.in_ok-page.ensures.keeps

pub returns-in_default-clause-fault : goal.returns-in_default-clause-fault
returns-in_default-clause-fault g c = c.in_ok-page.ensures.fault

pub returns-in_default-clause-none : goal.returns-in_default-clause-none
returns-in_default-clause-none g c = refl

pub returns-clause-keeps : goal.returns-clause-keeps
returns-clause-keeps g c = c.in_ok-page.ensures.keeps

pub returns-clause-fault : goal.returns-clause-fault
returns-clause-fault g c = c.in_ok-page.ensures.fault

pub inventory_of-requires-clause-pool : goal.inventory_of-requires-clause-pool
inventory_of-requires-clause-pool g c = c.requires.pool

pub inventory_of-requires-clause-at : goal.inventory_of-requires-clause-at
inventory_of-requires-clause-at g c =
    ap (λ (b : ℕ). c.args.region * b + 1) c.requires.bits
