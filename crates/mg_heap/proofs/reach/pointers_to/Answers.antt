use Rattle.std.proofs.Common.{◌∙◌, ℕ, List, length, subst, sym, refl}
use Rattle.mg_base.specs.declared.geometry.TheConstants.{GREATEST_LIMIT}
use Rattle.mg_base.specs.declared.numbers.PageNo.{PageNo}
use Rattle.mg_image.specs.Form.{Pages}
use Rattle.mg_image.specs.Tables.{Has, IsOnce, entries_in}
use Rattle.mg_space.specs.HandedLaws.{fault_up}
use Rattle.mg_space.specs.View.{viewed}
use Rattle.mg_space.specs.ViewLaws.{keeps_itself, keeps_on}
use Rattle.mg_heap.specs.Reach.{RefusesReach}
use Rattle.mg_heap.specs.Table.{FollowsPage, LeadsTo, RefusesPointer, none}
use Rattle.mg_heap.proofs.ReachLemmas.{breaks_off, is_not, is_unlisted, none_further, reaches}
use Rattle.mg_heap.proofs.TableLemmas.{as_started, count_fits, few, handed_on, leads_further, one_further, still_once, still_small, geometry_later, whole_later}
use Rattle.mg_heap.proofs.reach.pointers_to.Goals as goal

pub loop-n-init : goal.loop-n-init
loop-n-init g c = record {
  keeps = keeps_itself g.D.Disk.meaning c.args.store.now c.requires.pool;
  faults = refl;
  once = subst IsOnce (sym c.new-pointers.ensures.items) tt;
  small = λ m is. absurd (subst (λ (ns : List ℕ). Has ns m) c.new-pointers.ensures.items is);
  below = c.requires.owner;
  new_one = λ some is. subst (λ (ns : List ℕ). Has ns c.args.owner.0) c.new-pointers.ensures.items is;
  leads = λ image tells. subst (λ (ns : List ℕ). LeadsTo (viewed c.args.store.now image c.args.batch.now)
      c.args.owner.0 ns c.args.owner.0) (sym c.new-pointers.ensures.items)
      (record { run = none c.args.owner.0; tested = tt });
  none_yet = λ image tells is. subst (λ (ns : List ℕ).
      Has (entries_in (viewed c.args.store.now image c.args.batch.now) ns) c.args.page.0)
      c.new-pointers.ensures.items is;
}

pub follow-requires-clause-few : goal.follow-requires-clause-few
follow-requires-clause-few g c = count_fits (length c.loop-n.pointers.items)
    (few c.loop-n.pointers.items c.loop-n.n.0 GREATEST_LIMIT c.loop-n.invariant.once
    c.loop-n.invariant.small c.loop-n.invariant.new_one c.loop-n-test.true c.loop-n.invariant.below)

pub returns-in_err-n-clause-reaches : goal.returns-in_err-n-clause-reaches
returns-in_err-n-clause-reaches g c = λ image tells. handed_on c.from_residual-in_err-n.result
    c.in_err-n.field-0.0 _
    (RefusesReach g.D.Disk.meaning c.follow.new.store c.args.batch.now.pages
    (viewed c.args.store.now image c.args.batch.now) c.args.owner.0 c.args.page)
    c.from_residual-in_err-n.ensures.0 c.from_residual-in_err-n.ensures.1
    (breaks_off g.D.Disk.meaning c.follow.new.store c.args.batch.now.pages
    (viewed c.args.store.now image c.args.batch.now) c.args.owner.0 c.loop-n.pointers.items
    c.loop-n.n c.args.page c.in_err-n.field-0.0 (c.loop-n.invariant.leads image tells) c.loop-n-test.true
    (as_started g.D.Disk.meaning c.args.store.now c.loop-n.store image c.args.batch.now
    c.loop-n.invariant.keeps tells (λ (pages : Pages). RefusesPointer g.D.Disk.meaning
    c.follow.new.store c.args.batch.now.pages pages c.args.owner.0 c.loop-n.pointers.items c.loop-n.n
    c.in_err-n.field-0.0) (c.in_err-n.ensures.follows image)))

pub returns-then-has_number-clause-reaches : goal.returns-then-has_number-clause-reaches
returns-then-has_number-clause-reaches g c = λ image tells.
    reaches (viewed c.args.store.now image c.args.batch.now) c.args.owner.0 c.loop-n.pointers.items
    c.follow.new.pointers.items c.loop-n.n.0 c.in_ok-n.n.0 c.args.page.0 c.new-entries.result.items
    c.follow.new.data_pages.items (c.loop-n.invariant.leads image tells) c.loop-n-test.true
    c.new-entries.ensures.items
    (as_started g.D.Disk.meaning c.args.store.now c.loop-n.store image c.args.batch.now
    c.loop-n.invariant.keeps tells (λ (pages : Pages). FollowsPage pages c.args.owner.0
    c.loop-n.pointers.items c.loop-n.n.0 c.new-entries.result.items c.follow.new.data_pages.items
    c.in_ok-n.n.0) (c.in_ok-n.ensures.follows image)) c.in_ok-n.ensures.lists.listed
    (subst (λ (xs : List ℕ). Has xs c.args.page.0) c.deref.ensures.value
    (c.has_number.ensures.0 c.if-has_number.true))

pub loop-n-smaller : goal.loop-n-smaller
loop-n-smaller g c = one_further c.loop-n.pointers.items c.follow.new.pointers.items c.loop-n.n.0
    GREATEST_LIMIT (few c.loop-n.pointers.items c.loop-n.n.0 GREATEST_LIMIT c.loop-n.invariant.once
    c.loop-n.invariant.small c.loop-n.invariant.new_one c.loop-n-test.true c.loop-n.invariant.below)
    c.in_ok-n.ensures.lists.listed

pub loop-n-preserved : goal.loop-n-preserved
loop-n-preserved g c = record {
  keeps = keeps_on g.D.Disk.meaning g.met.D.Disk.counts_now c.args.store.now c.loop-n.store
      c.follow.new.store c.loop-n.invariant.keeps c.in_ok-n.ensures.keeps;
  faults = c.in_ok-n.ensures.fault.2 ∙ c.loop-n.invariant.faults;
  once = still_once c.loop-n.pointers.items c.follow.new.pointers.items c.loop-n.n.0
      c.loop-n.invariant.once c.loop-n.invariant.new_one c.loop-n-test.true
      c.in_ok-n.ensures.lists.listed;
  small = still_small c.loop-n.pointers.items c.follow.new.pointers.items c.loop-n.n.0
      GREATEST_LIMIT c.loop-n.invariant.small c.loop-n.invariant.below c.in_ok-n.ensures.lists.listed;
  below = c.in_ok-n.ensures.lists.below;
  new_one = c.in_ok-n.ensures.lists.new_one;
  leads = λ image tells. leads_further (viewed c.args.store.now image c.args.batch.now)
      c.args.owner.0 c.loop-n.pointers.items c.follow.new.pointers.items c.loop-n.n.0
      c.new-entries.result.items c.follow.new.data_pages.items c.in_ok-n.n.0
      (c.loop-n.invariant.leads image tells) c.loop-n-test.true
      (as_started g.D.Disk.meaning c.args.store.now c.loop-n.store image c.args.batch.now
      c.loop-n.invariant.keeps tells (λ (pages : Pages). FollowsPage pages c.args.owner.0
      c.loop-n.pointers.items c.loop-n.n.0 c.new-entries.result.items c.follow.new.data_pages.items
      c.in_ok-n.n.0) (c.in_ok-n.ensures.follows image)) c.in_ok-n.ensures.lists.listed;
  none_yet = λ image tells. none_further (viewed c.args.store.now image c.args.batch.now)
      c.args.owner.0 c.loop-n.pointers.items c.follow.new.pointers.items c.loop-n.n.0 c.in_ok-n.n.0
      c.args.page.0 c.new-entries.result.items c.follow.new.data_pages.items
      (c.loop-n.invariant.none_yet image tells) c.new-entries.ensures.items
      (as_started g.D.Disk.meaning c.args.store.now c.loop-n.store image c.args.batch.now
      c.loop-n.invariant.keeps tells (λ (pages : Pages). FollowsPage pages c.args.owner.0
      c.loop-n.pointers.items c.loop-n.n.0 c.new-entries.result.items c.follow.new.data_pages.items
      c.in_ok-n.n.0) (c.in_ok-n.ensures.follows image)) c.in_ok-n.ensures.lists.listed
      (is_not c.has_number.result (Has c.follow.new.data_pages.items c.args.page.0)
      c.if-has_number.false (λ is. c.has_number.ensures.1
      (subst (λ (xs : List ℕ). Has xs c.args.page.0) (sym c.deref.ensures.value) is)));
}

pub returns-clause-reaches : goal.returns-clause-reaches
returns-clause-reaches g c = λ image tells. is_unlisted g.D.Disk.meaning c.loop-n.store
    c.args.batch.now.pages (viewed c.args.store.now image c.args.batch.now) c.args.owner.0
    c.loop-n.pointers.items c.loop-n.n.0 c.args.page c.unlisted.result
    (c.loop-n.invariant.leads image tells) c.loop-n-test.false
    (c.loop-n.invariant.none_yet image tells) c.unlisted.ensures

pub follow-requires-clause-geometry : goal.follow-requires-clause-geometry
follow-requires-clause-geometry g c = geometry_later g.D.Disk.meaning c.args.store.now c.loop-n.store
    c.loop-n.invariant.keeps c.requires.geometry

pub follow-requires-clause-whole : goal.follow-requires-clause-whole
follow-requires-clause-whole g c = whole_later g.D.Disk.meaning c.args.store.now c.loop-n.store
    c.loop-n.invariant.keeps c.args.batch.now.pages c.requires.whole

pub returns-in_err-n-clause-keeps : goal.returns-in_err-n-clause-keeps
returns-in_err-n-clause-keeps g c = keeps_on g.D.Disk.meaning g.met.D.Disk.counts_now
    c.args.store.now c.loop-n.store c.follow.new.store c.loop-n.invariant.keeps
    c.in_err-n.ensures.keeps

pub returns-in_err-n-clause-fault : goal.returns-in_err-n-clause-fault
returns-in_err-n-clause-fault g c = fault_up PageNo g.D.Disk.meaning c.args.store.now
    c.loop-n.store c.follow.new.store c.from_residual-in_err-n.result c.in_err-n.field-0.0
    c.loop-n.invariant.keeps c.loop-n.invariant.faults c.from_residual-in_err-n.ensures.0
    c.from_residual-in_err-n.ensures.1 c.in_err-n.ensures.fault

pub returns-clause-fault : goal.returns-clause-fault
returns-clause-fault g c = (
  c.in_ok-online.ensures.fault.0,
  c.loop-n.invariant.keeps.offline ∙ c.in_ok-online.ensures.fault.0,
  c.loop-n.invariant.faults,
)

pub returns-then-has_number-clause-keeps : goal.returns-then-has_number-clause-keeps
returns-then-has_number-clause-keeps g c = keeps_on g.D.Disk.meaning g.met.D.Disk.counts_now
    c.args.store.now c.loop-n.store c.follow.new.store c.loop-n.invariant.keeps
    c.in_ok-n.ensures.keeps

pub returns-then-has_number-clause-fault : goal.returns-then-has_number-clause-fault
returns-then-has_number-clause-fault g c = (
  c.in_ok-online.ensures.fault.0,
  c.in_ok-n.ensures.fault.1,
  c.in_ok-n.ensures.fault.2 ∙ c.loop-n.invariant.faults,
)
