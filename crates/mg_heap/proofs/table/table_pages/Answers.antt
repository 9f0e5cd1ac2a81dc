use Rattle.std.proofs.Common.{◌∙◌, ℕ, List, length, ap, subst, sym, refl}
use Rattle.mg_base.specs.declared.geometry.TheConstants.{GREATEST_LIMIT}
use Rattle.mg_base.specs.declared.numbers.PageNo.{PageNo}
use Rattle.mg_image.specs.Form.{Pages}
use Rattle.mg_image.specs.Tables.{Has, IsOnce, entries_in}
use Rattle.mg_space.specs.HandedLaws.{fault_up}
use Rattle.mg_space.specs.View.{viewed}
use Rattle.mg_space.specs.ViewLaws.{keeps_itself, keeps_on}
use Rattle.mg_heap.specs.Reads.{ReadsListed}
use Rattle.mg_heap.specs.ReadsLaws.{listed_more, none_listed}
use Rattle.mg_heap.specs.Table.{FollowsPage, LeadsTo, RefusesPointer, RefusesTable, none}
use Rattle.mg_heap.specs.TableLaws.{once_short, table_ends}
use Rattle.mg_heap.proofs.TableLemmas.{all_few, all_short, as_started, broken, count_fits, entries_further, few, few_entries, handed_on, leads_further, no_entries, one_further, some_listed, still_once, still_small, geometry_later, whole_later}
use Rattle.mg_heap.proofs.table.table_pages.Goals as goal

pub loop-n-init : goal.loop-n-init
loop-n-init g c = record {
  keeps = keeps_itself g.D.Disk.meaning c.args.store.now c.requires.pool;
  faults = refl;
  once = subst IsOnce (sym c.new-pointers.ensures.items) tt;
  small = λ m is. absurd (subst (λ (ns : List ℕ). Has ns m) c.new-pointers.ensures.items is);
  below = c.requires.owner;
  some = λ other. absurd (other refl);
  few = no_entries c.new-data_pages.result.items (length c.new-pointers.result.items)
      c.new-data_pages.ensures.items;
  new_one = λ some is. subst (λ (ns : List ℕ). Has ns c.args.owner.0) c.new-pointers.ensures.items is;
  reads = subst (ReadsListed g.D.Disk.meaning c.args.store.now c.args.store.now)
      (sym c.new-pointers.ensures.items) (none_listed g.D.Disk.meaning c.args.store.now);
  leads = λ image tells. subst (λ (ns : List ℕ). LeadsTo (viewed c.args.store.now image c.args.batch.now)
      c.args.owner.0 ns c.args.owner.0) (sym c.new-pointers.ensures.items)
      (record { run = none c.args.owner.0; tested = tt });
  entries = λ image tells. c.new-data_pages.ensures.items
      ∙ ap (entries_in (viewed c.args.store.now image c.args.batch.now)) (sym c.new-pointers.ensures.items);
}

pub follow-requires-clause-few : goal.follow-requires-clause-few
follow-requires-clause-few g c = count_fits (length c.loop-n.pointers.items)
    (few c.loop-n.pointers.items c.loop-n.n.0 GREATEST_LIMIT c.loop-n.invariant.once
    c.loop-n.invariant.small c.loop-n.invariant.new_one c.loop-n-test.true c.loop-n.invariant.below)

pub returns-in_err-n-clause-finds : goal.returns-in_err-n-clause-finds
returns-in_err-n-clause-finds g c = λ image tells. handed_on c.from_residual-in_err-n.result
    c.in_err-n.field-0.0 _
    (RefusesTable g.D.Disk.meaning c.follow.new.store c.args.batch.now.pages
    (viewed c.args.store.now image c.args.batch.now) c.args.owner.0)
    c.from_residual-in_err-n.ensures.0 c.from_residual-in_err-n.ensures.1
    (broken g.D.Disk.meaning c.follow.new.store c.args.batch.now.pages
    (viewed c.args.store.now image c.args.batch.now) c.args.owner.0 c.loop-n.pointers.items
    c.loop-n.n c.in_err-n.field-0.0 (c.loop-n.invariant.leads image tells) c.loop-n-test.true
    (as_started g.D.Disk.meaning c.args.store.now c.loop-n.store image c.args.batch.now
    c.loop-n.invariant.keeps tells (λ (pages : Pages). RefusesPointer g.D.Disk.meaning
    c.follow.new.store c.args.batch.now.pages pages c.args.owner.0 c.loop-n.pointers.items c.loop-n.n
    c.in_err-n.field-0.0) (c.in_err-n.ensures.follows image)))

pub loop-n-smaller : goal.loop-n-smaller
loop-n-smaller g c = one_further c.loop-n.pointers.items c.follow.new.pointers.items c.loop-n.n.0
    GREATEST_LIMIT (few c.loop-n.pointers.items c.loop-n.n.0 GREATEST_LIMIT c.loop-n.invariant.once
    c.loop-n.invariant.small c.loop-n.invariant.new_one c.loop-n-test.true c.loop-n.invariant.below)
    c.in_ok-n.ensures.lists.listed

pub loop-n-preserved : goal.loop-n-preserved
loop-n-preserved g c = record {
  keeps = keeps_on g.D.Disk.meaning g.met.D.Disk.counts_now c.args.store.now c.loop-n.store
      c.follow.new.store c.loop-n.invariant.keeps c.in_ok-n.ensures.keeps;
  faults = c.in_ok-n.ensures.fault.2 ∙ c.loop-n.invariant.faults;
  once = still_once c.loop-n.pointers.items c.follow.new.pointers.items c.loop-n.n.0
      c.loop-n.invariant.once c.loop-n.invariant.new_one c.loop-n-test.true
      c.in_ok-n.ensures.lists.listed;
  small = still_small c.loop-n.pointers.items c.follow.new.pointers.items c.loop-n.n.0
      GREATEST_LIMIT c.loop-n.invariant.small c.loop-n.invariant.below c.in_ok-n.ensures.lists.listed;
  below = c.in_ok-n.ensures.lists.below;
  some = λ other. some_listed c.loop-n.pointers.items c.follow.new.pointers.items c.loop-n.n.0
      c.in_ok-n.ensures.lists.listed;
  few = few_entries c.loop-n.pointers.items c.follow.new.pointers.items c.loop-n.data_pages.items
      c.follow.new.data_pages.items c.loop-n.n.0 c.in_ok-n.ensures.few c.loop-n.invariant.few
      c.in_ok-n.ensures.lists.listed;
  new_one = c.in_ok-n.ensures.lists.new_one;
  reads = listed_more g.D.Disk.meaning c.args.store.now c.loop-n.store c.follow.new.store
      c.loop-n.pointers.items c.follow.new.pointers.items c.loop-n.n.0 c.loop-n.invariant.reads
      c.in_ok-n.ensures.reads c.in_ok-n.ensures.lists.listed;
  leads = λ image tells. leads_further (viewed c.args.store.now image c.args.batch.now)
      c.args.owner.0 c.loop-n.pointers.items c.follow.new.pointers.items c.loop-n.n.0
      c.loop-n.data_pages.items c.follow.new.data_pages.items c.in_ok-n.n.0
      (c.loop-n.invariant.leads image tells) c.loop-n-test.true
      (as_started g.D.Disk.meaning c.args.store.now c.loop-n.store image c.args.batch.now
      c.loop-n.invariant.keeps tells (λ (pages : Pages). FollowsPage pages c.args.owner.0
      c.loop-n.pointers.items c.loop-n.n.0 c.loop-n.data_pages.items c.follow.new.data_pages.items
      c.in_ok-n.n.0) (c.in_ok-n.ensures.follows image)) c.in_ok-n.ensures.lists.listed;
  entries = λ image tells. entries_further (viewed c.args.store.now image c.args.batch.now)
      c.args.owner.0 c.loop-n.pointers.items c.follow.new.pointers.items c.loop-n.n.0
      c.loop-n.data_pages.items c.follow.new.data_pages.items c.in_ok-n.n.0
      (c.loop-n.invariant.entries image tells)
      (as_started g.D.Disk.meaning c.args.store.now c.loop-n.store image c.args.batch.now
      c.loop-n.invariant.keeps tells (λ (pages : Pages). FollowsPage pages c.args.owner.0
      c.loop-n.pointers.items c.loop-n.n.0 c.loop-n.data_pages.items c.follow.new.data_pages.items
      c.in_ok-n.n.0) (c.in_ok-n.ensures.follows image)) c.in_ok-n.ensures.lists.listed;
}

pub returns-clause-finds : goal.returns-clause-finds
returns-clause-finds g c = λ image tells. table_ends (viewed c.args.store.now image c.args.batch.now)
    c.args.owner.0 c.loop-n.pointers.items c.loop-n.data_pages.items c.loop-n.n.0
    (c.loop-n.invariant.leads image tells) c.loop-n-test.false (c.loop-n.invariant.entries image tells)

pub returns-clause-few : goal.returns-clause-few
returns-clause-few g c = all_few c.loop-n.pointers.items c.loop-n.data_pages.items
    (once_short c.loop-n.pointers.items GREATEST_LIMIT c.loop-n.invariant.once c.loop-n.invariant.small)
    c.loop-n.invariant.few

pub returns-clause-short : goal.returns-clause-short
returns-clause-short g c = all_short (length c.loop-n.pointers.items)
    (once_short c.loop-n.pointers.items GREATEST_LIMIT c.loop-n.invariant.once c.loop-n.invariant.small)

pub returns-clause-some : goal.returns-clause-some
returns-clause-some g c = λ first. c.loop-n.invariant.some (λ same. first (sym same ∙ c.loop-n-test.false))

pub follow-requires-clause-geometry : goal.follow-requires-clause-geometry
follow-requires-clause-geometry g c = geometry_later g.D.Disk.meaning c.args.store.now c.loop-n.store
    c.loop-n.invariant.keeps c.requires.geometry

pub follow-requires-clause-whole : goal.follow-requires-clause-whole
follow-requires-clause-whole g c = whole_later g.D.Disk.meaning c.args.store.now c.loop-n.store
    c.loop-n.invariant.keeps c.args.batch.now.pages c.requires.whole

pub returns-in_err-n-clause-keeps : goal.returns-in_err-n-clause-keeps
returns-in_err-n-clause-keeps g c = keeps_on g.D.Disk.meaning g.met.D.Disk.counts_now
    c.args.store.now c.loop-n.store c.follow.new.store c.loop-n.invariant.keeps
    c.in_err-n.ensures.keeps

pub returns-in_err-n-clause-fault : goal.returns-in_err-n-clause-fault
returns-in_err-n-clause-fault g c = fault_up PageNo g.D.Disk.meaning c.args.store.now
    c.loop-n.store c.follow.new.store c.from_residual-in_err-n.result c.in_err-n.field-0.0
    c.loop-n.invariant.keeps c.loop-n.invariant.faults c.from_residual-in_err-n.ensures.0
    c.from_residual-in_err-n.ensures.1 c.in_err-n.ensures.fault

pub returns-clause-fault : goal.returns-clause-fault
returns-clause-fault g c = (
  c.in_ok-online.ensures.fault.0,
  c.loop-n.invariant.keeps.offline ∙ c.in_ok-online.ensures.fault.0,
  c.loop-n.invariant.faults,
)
