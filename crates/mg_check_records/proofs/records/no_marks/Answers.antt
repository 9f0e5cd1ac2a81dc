use Rattle.std.proofs.Common.{◌*◌, arith, length}
use Rattle.mg_base.specs.Image.{page_at}
use Rattle.mg_check_records.proofs.RecordLemmas.{clear_by, clear_long, clear_met, marks_few}
use Rattle.mg_check_records.specs.Marks.{most_slots}
use Rattle.mg_check_records.proofs.records.no_marks.Goals as goal

pub overflow_mul-count : goal.overflow_mul-count
overflow_mul-count c = omega (
  arith,
  marks_few c.args.size (page_at c.args.size c.args.pages.now) c.args.owner
      c.args.data_pages.now c.most_slots.result c.requires.tested c.most_slots.type_inv,
)

pub returns-clause-clear : goal.returns-clause-clear
returns-clause-clear c = clear_by c.most_slots.result 0 c.args.size c.args.data_pages.now c.new.result
    c.most_slots.ensures c.new.ensures

pub returns-clause-len : goal.returns-clause-len
returns-clause-len c = clear_long (length c.args.data_pages.now * most_slots c.args.size) c.new.result
    (clear_by c.most_slots.result 0 c.args.size c.args.data_pages.now c.new.result c.most_slots.ensures
    c.new.ensures)

pub returns-clause-met : goal.returns-clause-met
returns-clause-met c = clear_met c.args.data_pages.now c.args.size
    (length c.args.data_pages.now * most_slots c.args.size) c.new.result
    (clear_by c.most_slots.result 0 c.args.size c.args.data_pages.now c.new.result c.most_slots.ensures
    c.new.ensures)
