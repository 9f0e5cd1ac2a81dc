use Rattle.std.proofs.Common.{◌∙◌, ℕ, List, length, ap, subst, sym, refl}
use Rattle.mg_base.specs.declared.geometry.TheConstants.{GREATEST_LIMIT}
use Rattle.mg_image.specs.Form.{Pages}
use Rattle.mg_image.specs.Tables.{Has, IsOnce}
use Rattle.mg_space.specs.HandedLaws.{fault_up}
use Rattle.mg_space.specs.View.{viewed}
use Rattle.mg_space.specs.ViewLaws.{keeps_itself, keeps_on}
use Rattle.mg_heap.specs.Places.{LooksUp, RefusesPlace}
use Rattle.mg_heap.specs.Table.{LeadsTo, ListsPage, RefusesPointer, none}
use Rattle.mg_heap.specs.declared.lookup.Look.{Look}
use Rattle.mg_heap.proofs.LookupLemmas.{at_first, ends_here, few_first, few_here, few_passed, found_here, here_few, looked_on, passed_on, past_few, past_lists, place_refused}
use Rattle.mg_heap.proofs.TableLemmas.{as_started, count_fits, few, geometry_later, handed_on, one_further, still_once, still_small, whole_later}
use Rattle.mg_heap.proofs.lookup.reach_place.Goals as goal

pub loop-n-init : goal.loop-n-init
loop-n-init g c = record {
  keeps = keeps_itself g.D.Disk.meaning c.args.store.now c.requires.pool;
  faults = refl;
  once = subst IsOnce (sym c.new-pointers.ensures.items) tt;
  small = λ m is. absurd (subst (λ (ns : List ℕ). Has ns m) c.new-pointers.ensures.items is);
  below = c.requires.owner;
  new_one = λ some is. subst (λ (ns : List ℕ). Has ns c.args.owner.0) c.new-pointers.ensures.items is;
  few = few_first c.new-pointers.result.items c.args.place;
  leads = λ image tells. subst (λ (ns : List ℕ). LeadsTo (viewed c.args.store.now image c.args.batch.now)
      c.args.owner.0 ns c.args.owner.0) (sym c.new-pointers.ensures.items)
      (record { run = none c.args.owner.0; tested = tt });
  passed = λ image tells. at_first (viewed c.args.store.now image c.args.batch.now)
      c.new-pointers.result.items c.args.place c.new-pointers.ensures.items;
}

pub look_up-requires-clause-few : goal.look_up-requires-clause-few
look_up-requires-clause-few g c = count_fits (length c.loop-n.pointers.items)
    (few c.loop-n.pointers.items c.loop-n.n.0 GREATEST_LIMIT c.loop-n.invariant.once
    c.loop-n.invariant.small c.loop-n.invariant.new_one c.loop-n-test.true c.loop-n.invariant.below)

pub look_up-requires-clause-geometry : goal.look_up-requires-clause-geometry
look_up-requires-clause-geometry g c = geometry_later g.D.Disk.meaning c.args.store.now c.loop-n.store
    c.loop-n.invariant.keeps c.requires.geometry

pub look_up-requires-clause-whole : goal.look_up-requires-clause-whole
look_up-requires-clause-whole g c = whole_later g.D.Disk.meaning c.args.store.now c.loop-n.store
    c.loop-n.invariant.keeps c.args.batch.now.pages c.requires.whole

pub returns-in_err-look-clause-finds : goal.returns-in_err-look-clause-finds
returns-in_err-look-clause-finds g c = λ image tells. handed_on c.from_residual-in_err-look.result
    c.in_err-look.field-0.0 _
    (RefusesPlace g.D.Disk.meaning c.look_up.new.store c.args.batch.now.pages
    (viewed c.args.store.now image c.args.batch.now) c.args.owner.0 c.args.place)
    c.from_residual-in_err-look.ensures.0 c.from_residual-in_err-look.ensures.1
    (place_refused g.D.Disk.meaning c.look_up.new.store c.args.batch.now.pages
    (viewed c.args.store.now image c.args.batch.now) c.args.owner.0 c.args.place
    c.loop-n.pointers.items c.loop-n.n c.loop-n.rest c.in_err-look.field-0.0
    (c.loop-n.invariant.leads image tells) c.loop-n-test.true (c.loop-n.invariant.passed image tells)
    (as_started g.D.Disk.meaning c.args.store.now c.loop-n.store image c.args.batch.now
    c.loop-n.invariant.keeps tells (λ (pages : Pages). RefusesPointer g.D.Disk.meaning
    c.look_up.new.store c.args.batch.now.pages pages c.args.owner.0 c.loop-n.pointers.items c.loop-n.n
    c.in_err-look.field-0.0) (c.in_err-look.ensures.looks image)))

pub returns-in_err-look-clause-keeps : goal.returns-in_err-look-clause-keeps
returns-in_err-look-clause-keeps g c = keeps_on g.D.Disk.meaning g.met.D.Disk.counts_now
    c.args.store.now c.loop-n.store c.look_up.new.store c.loop-n.invariant.keeps
    c.in_err-look.ensures.keeps

pub returns-in_err-look-clause-fault : goal.returns-in_err-look-clause-fault
returns-in_err-look-clause-fault g c = fault_up Look g.D.Disk.meaning c.args.store.now
    c.loop-n.store c.look_up.new.store c.from_residual-in_err-look.result c.in_err-look.field-0.0
    c.loop-n.invariant.keeps c.loop-n.invariant.faults c.from_residual-in_err-look.ensures.0
    c.from_residual-in_err-look.ensures.1 c.in_err-look.ensures.fault

pub returns-in-Here-clause-keeps : goal.returns-in-Here-clause-keeps
returns-in-Here-clause-keeps g c = keeps_on g.D.Disk.meaning g.met.D.Disk.counts_now
    c.args.store.now c.loop-n.store c.look_up.new.store c.loop-n.invariant.keeps
    c.in_ok-look.ensures.keeps

pub returns-in-Here-clause-fault : goal.returns-in-Here-clause-fault
returns-in-Here-clause-fault g c = (
  c.in_ok-online.ensures.fault.0,
  c.in_ok-look.ensures.fault.1,
  c.in_ok-look.ensures.fault.2 ∙ c.loop-n.invariant.faults,
)

pub returns-in-Here-clause-few : goal.returns-in-Here-clause-few
returns-in-Here-clause-few g c = few_here c.loop-n.pointers.items c.args.place c.loop-n.rest
    (few c.loop-n.pointers.items c.loop-n.n.0 GREATEST_LIMIT c.loop-n.invariant.once
    c.loop-n.invariant.small c.loop-n.invariant.new_one c.loop-n-test.true c.loop-n.invariant.below)
    c.loop-n.invariant.few
    (here_few c.loop-n.pointers.items c.look_up.new.pointers.items c.loop-n.n.0 c.loop-n.rest
    c.in_ok-look.look c.in-Here.page c.in-Here.is c.in_ok-look.ensures.passes)

pub returns-in-Here-clause-finds : goal.returns-in-Here-clause-finds
returns-in-Here-clause-finds g c = λ image tells. found_here
    (viewed c.args.store.now image c.args.batch.now) c.args.owner.0 c.args.place
    c.loop-n.pointers.items c.loop-n.n.0 c.loop-n.rest (c.loop-n.invariant.leads image tells)
    (c.loop-n.invariant.passed image tells) c.in-Here.page c.loop-n-test.true
    (subst (LooksUp (viewed c.args.store.now image c.args.batch.now) c.args.owner.0
    c.loop-n.pointers.items c.loop-n.n.0 c.loop-n.rest) c.in-Here.is
    (as_started g.D.Disk.meaning c.args.store.now c.loop-n.store image c.args.batch.now
    c.loop-n.invariant.keeps tells (λ (pages : Pages). LooksUp pages c.args.owner.0
    c.loop-n.pointers.items c.loop-n.n.0 c.loop-n.rest c.in_ok-look.look)
    (c.in_ok-look.ensures.looks image)))

pub loop-n-smaller : goal.loop-n-smaller
loop-n-smaller g c = one_further c.loop-n.pointers.items c.look_up.new.pointers.items c.loop-n.n.0
    GREATEST_LIMIT (few c.loop-n.pointers.items c.loop-n.n.0 GREATEST_LIMIT c.loop-n.invariant.once
    c.loop-n.invariant.small c.loop-n.invariant.new_one c.loop-n-test.true c.loop-n.invariant.below)
    (past_lists c.loop-n.pointers.items c.look_up.new.pointers.items c.loop-n.n.0 c.loop-n.rest
    c.in_ok-look.look c.in-Past.left c.in-Past.next c.in-Past.is c.in_ok-look.ensures.passes).listed

pub loop-n-preserved : goal.loop-n-preserved
loop-n-preserved g c = record {
  keeps = keeps_on g.D.Disk.meaning g.met.D.Disk.counts_now c.args.store.now c.loop-n.store
      c.look_up.new.store c.loop-n.invariant.keeps c.in_ok-look.ensures.keeps;
  faults = c.in_ok-look.ensures.fault.2 ∙ c.loop-n.invariant.faults;
  once = still_once c.loop-n.pointers.items c.look_up.new.pointers.items c.loop-n.n.0
      c.loop-n.invariant.once c.loop-n.invariant.new_one c.loop-n-test.true lists.listed;
  small = still_small c.loop-n.pointers.items c.look_up.new.pointers.items c.loop-n.n.0
      GREATEST_LIMIT c.loop-n.invariant.small c.loop-n.invariant.below lists.listed;
  below = lists.below;
  new_one = lists.new_one;
  few = few_passed c.loop-n.pointers.items c.look_up.new.pointers.items c.loop-n.n.0 c.args.place
      c.loop-n.rest c.in-Past.left c.loop-n.invariant.few
      (past_few c.loop-n.pointers.items c.look_up.new.pointers.items c.loop-n.n.0 c.loop-n.rest
      c.in_ok-look.look c.in-Past.left c.in-Past.next c.in-Past.is c.in_ok-look.ensures.passes)
      lists.listed;
  leads = λ image tells. looked_on (viewed c.args.store.now image c.args.batch.now) c.args.owner.0
      c.args.place c.loop-n.pointers.items c.loop-n.n.0 c.loop-n.rest
      (c.loop-n.invariant.leads image tells) (c.loop-n.invariant.passed image tells)
      c.look_up.new.pointers.items c.in-Past.left c.in-Past.next c.loop-n-test.true
      (subst (LooksUp (viewed c.args.store.now image c.args.batch.now) c.args.owner.0
      c.loop-n.pointers.items c.loop-n.n.0 c.loop-n.rest) c.in-Past.is
      (as_started g.D.Disk.meaning c.args.store.now c.loop-n.store image c.args.batch.now
      c.loop-n.invariant.keeps tells (λ (pages : Pages). LooksUp pages c.args.owner.0
      c.loop-n.pointers.items c.loop-n.n.0 c.loop-n.rest c.in_ok-look.look)
      (c.in_ok-look.ensures.looks image))) lists.listed;
  passed = λ image tells. passed_on (viewed c.args.store.now image c.args.batch.now) c.args.owner.0
      c.args.place c.loop-n.pointers.items c.loop-n.n.0 c.loop-n.rest
      (c.loop-n.invariant.leads image tells) (c.loop-n.invariant.passed image tells)
      c.look_up.new.pointers.items c.in-Past.left c.in-Past.next
      (subst (LooksUp (viewed c.args.store.now image c.args.batch.now) c.args.owner.0
      c.loop-n.pointers.items c.loop-n.n.0 c.loop-n.rest) c.in-Past.is
      (as_started g.D.Disk.meaning c.args.store.now c.loop-n.store image c.args.batch.now
      c.loop-n.invariant.keeps tells (λ (pages : Pages). LooksUp pages c.args.owner.0
      c.loop-n.pointers.items c.loop-n.n.0 c.loop-n.rest c.in_ok-look.look)
      (c.in_ok-look.ensures.looks image))) lists.listed;
}
  where
    lists : ListsPage c.loop-n.pointers.items c.look_up.new.pointers.items c.loop-n.n.0 c.in-Past.next.0
    lists = past_lists c.loop-n.pointers.items c.look_up.new.pointers.items c.loop-n.n.0 c.loop-n.rest
        c.in_ok-look.look c.in-Past.left c.in-Past.next c.in-Past.is c.in_ok-look.ensures.passes

pub returns-clause-finds : goal.returns-clause-finds
returns-clause-finds g c = λ image tells. ends_here (viewed c.args.store.now image c.args.batch.now)
    c.args.owner.0 c.args.place c.loop-n.pointers.items c.loop-n.n.0 c.loop-n.rest
    (c.loop-n.invariant.leads image tells) (c.loop-n.invariant.passed image tells) c.loop-n-test.false

pub returns-clause-fault : goal.returns-clause-fault
returns-clause-fault g c = (
  c.in_ok-online.ensures.fault.0,
  c.loop-n.invariant.keeps.offline ∙ c.in_ok-online.ensures.fault.0,
  c.loop-n.invariant.faults,
)
