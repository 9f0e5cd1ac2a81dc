use Rattle.std.proofs.Common.{◌≡◌, length, arith, ap, ◌∙◌}
use Rattle.mg_base.specs.Fields.{length-new_page}
use Rattle.mg_slots.specs.declared.page.TheConstants.{DATA_KIND}
use Rattle.mg_slots.proofs.NewPageLemmas.{new_page_common, new_page_is}
use Rattle.mg_slots.proofs.page.new_data.Goals as goal

pub returns-clause-made : goal.returns-clause-made
returns-clause-made c =
    let size : length c.new_common.new.b ≡ length c.args.b.now = ap length c.new_common.ensures
    ∙ length-new_page (length c.args.b.now) c.args.page.0 DATA_KIND c.args.owner c.args.seq in
    new_page_is c.put_u16.new.b
    (length c.args.b.now) c.args.page.0 c.args.owner c.args.seq c.requires.least
    c.requires.greatest cc

pub returns-clause-passes : goal.returns-clause-passes
returns-clause-passes c =
    let size : length c.new_common.new.b ≡ length c.args.b.now = ap length c.new_common.ensures
    ∙ length-new_page (length c.args.b.now) c.args.page.0 DATA_KIND c.args.owner c.args.seq in
    new_page_common c.put_u16.new.b
    (length c.args.b.now) c.args.page c.args.owner c.args.seq c.requires.least (omega arith)
    (omega arith) (omega arith) cc
