use Rattle.std.proofs.Common.{◌≡◌, ◌∙◌, ap, refl}
use Rattle.mg_base.specs.declared.geometry.Geometry.{Geometry}
use Rattle.mg_image.specs.Form.{Pages}
use Rattle.mg_heap.specs.Walk.{RefusesTableData}
use Rattle.mg_heap.proofs.HandedLemmas.{fault_damage, no_answer_on, reads_damage}
use Rattle.mg_heap.proofs.HoldingLemmas.{marked_data, refused_on}
use Rattle.mg_heap.proofs.PageLemmas.{least_long, most_long, no_table_data_seen, reads_refused, table_data_refused}
use Rattle.mg_heap.proofs.TableLemmas.{as_started, whole_later}
use Rattle.mg_space.specs.HandedLaws.{fault_same}
use Rattle.mg_space.specs.Lawful.{readable}
use Rattle.mg_space.specs.View.{viewed}
use Rattle.mg_space.specs.declared.fault.SpaceFault.TheVariants as faults
use Rattle.mg_heap.proofs.walk.hold_table_data.Goals as goal

pub returns-in_err-hold-clause-keeps : goal.returns-in_err-hold-clause-keeps
returns-in_err-hold-clause-keeps g c = c.in_err-hold.ensures.keeps

pub returns-in_err-hold-clause-fault : goal.returns-in_err-hold-clause-fault
returns-in_err-hold-clause-fault g c = fault_same (Unit {0}) g.D.Disk.meaning c.args.store.now
    c.hold.new.store c.from_residual.result c.in_err-hold.field-0.0 c.from_residual.ensures.0
    c.from_residual.ensures.1 c.in_err-hold.ensures.fault

pub returns-in_err-hold-clause-own : goal.returns-in_err-hold-clause-own
returns-in_err-hold-clause-own g c = reads_refused g.D.Disk.meaning c.hold.new.store
    c.args.batch.now.pages c.args.n (Unit {0}) c.from_residual.result c.in_err-hold.field-0.0
    c.from_residual.ensures.1 c.in_err-hold.ensures.refusal

pub returns-in_err-hold-clause-held : goal.returns-in_err-hold-clause-held
returns-in_err-hold-clause-held g c = no_answer_on _ c.from_residual.result c.from_residual.ensures.0

pub returns-in_err-hold-clause-seen : goal.returns-in_err-hold-clause-seen
returns-in_err-hold-clause-seen g c = λ image tells. refused_on c.from_residual.result
    c.in_err-hold.field-0.0 (RefusesTableData g.D.Disk.meaning c.hold.new.store
    c.args.batch.now.pages (viewed c.args.store.now image c.args.batch.now c.args.n.0) c.args.owner.0
    c.args.at c.args.n) c.from_residual.ensures.1 (table_data_refused g.D.Disk.meaning c.hold.new.store
    c.args.batch.now.pages c.args.n (Unit {0}) (viewed c.args.store.now image c.args.batch.now
    c.args.n.0) c.args.owner.0 c.args.at c.in_err-hold.field-0.0 c.in_err-hold.ensures.refusal)

pub returns-in_err-hold-clause-reads : goal.returns-in_err-hold-clause-reads
returns-in_err-hold-clause-reads g c = c.in_err-hold.ensures.reads

pub lent-requires-clause-whole : goal.lent-requires-clause-whole
lent-requires-clause-whole g c = whole_later g.D.Disk.meaning c.args.store.now c.hold.new.store
    c.in_ok-hold.ensures.keeps c.args.batch.now.pages c.requires.whole

pub check_table_data-requires-clause-least : goal.check_table_data-requires-clause-least
check_table_data-requires-clause-least g c = least_long c.lent.result.now c.lent.result.now
    c.args.store.now.geometry.size refl
    (c.lent.ensures.len ∙ ap (λ (k : Geometry). k.size) c.in_ok-hold.ensures.keeps.geometry)
    c.requires.geometry.size

pub check_table_data-requires-clause-greatest : goal.check_table_data-requires-clause-greatest
check_table_data-requires-clause-greatest g c = most_long c.lent.result.now c.lent.result.now
    c.args.store.now.geometry.size refl
    (c.lent.ensures.len ∙ ap (λ (k : Geometry). k.size) c.in_ok-hold.ensures.keeps.geometry)
    c.requires.geometry.size

pub check_table_data-requires-clause-marked : goal.check_table_data-requires-clause-marked
check_table_data-requires-clause-marked g c = marked_data c.args.n.0
    (readable c.hold.new.store c.args.batch.now.pages c.args.n.0) c.lent.result.now
    c.passes-marked.result c.lent.ensures.read c.passes-marked.ensures

pub returns-in_err-check_table_data-clause-keeps : goal.returns-in_err-check_table_data-clause-keeps
returns-in_err-check_table_data-clause-keeps g c = c.in_ok-hold.ensures.keeps

pub returns-in_err-check_table_data-clause-fault : goal.returns-in_err-check_table_data-clause-fault
returns-in_err-check_table_data-clause-fault g c = fault_damage g.D.Disk.meaning c.args.store.now
    c.hold.new.store c.from_residual-in_err-check_table_data.result c.in_err-check_table_data.field-0.0
    c.from_residual-in_err-check_table_data.ensures.0 c.from_residual-in_err-check_table_data.ensures.1
    c.in_ok-hold.ensures.fault

pub returns-in_err-check_table_data-clause-own : goal.returns-in_err-check_table_data-clause-own
returns-in_err-check_table_data-clause-own g c = reads_damage c.from_residual-in_err-check_table_data.result
    c.in_err-check_table_data.field-0.0 c.from_residual-in_err-check_table_data.ensures.1

pub returns-in_err-check_table_data-clause-held : goal.returns-in_err-check_table_data-clause-held
returns-in_err-check_table_data-clause-held g c = no_answer_on _
    c.from_residual-in_err-check_table_data.result c.from_residual-in_err-check_table_data.ensures.0

pub returns-in_err-check_table_data-clause-seen : goal.returns-in_err-check_table_data-clause-seen
returns-in_err-check_table_data-clause-seen g c = λ image tells. refused_on
    c.from_residual-in_err-check_table_data.result (faults.Damaged c.in_err-check_table_data.field-0.0)
    (RefusesTableData g.D.Disk.meaning c.hold.new.store c.args.batch.now.pages (viewed
    c.args.store.now image c.args.batch.now c.args.n.0) c.args.owner.0 c.args.at c.args.n)
    c.from_residual-in_err-check_table_data.ensures.1
    (no_table_data_seen g.D.Disk.meaning c.hold.new.store c.args.batch.now.pages c.args.n
    c.lent.result.now c.lent.result.now (viewed c.args.store.now image c.args.batch.now c.args.n.0)
    c.args.owner.0 c.args.at c.in_err-check_table_data.field-0.0 refl
    (as_started g.D.Disk.meaning c.args.store.now c.hold.new.store image c.args.batch.now
    c.in_ok-hold.ensures.keeps tells (λ (pages : Pages). c.lent.result.now ≡ pages c.args.n.0)
    (c.lent.ensures.seen image))
    c.in_err-check_table_data.ensures.damaged)

pub returns-in_err-check_table_data-clause-reads : goal.returns-in_err-check_table_data-clause-reads
returns-in_err-check_table_data-clause-reads g c = c.in_ok-hold.ensures.reads

pub returns-clause-keeps : goal.returns-clause-keeps
returns-clause-keeps g c = c.in_ok-hold.ensures.keeps

pub returns-clause-fault : goal.returns-clause-fault
returns-clause-fault g c = c.in_ok-hold.ensures.fault

pub returns-clause-held : goal.returns-clause-held
returns-clause-held g c = record {
  bytes = c.lent.result.now;
  read = c.lent.ensures.read;
  common = c.in_ok-check_table_data.ensures.common;
  lawful = c.in_ok-check_table_data.ensures.lawful;
}

pub returns-clause-reads : goal.returns-clause-reads
returns-clause-reads g c = c.in_ok-hold.ensures.reads
