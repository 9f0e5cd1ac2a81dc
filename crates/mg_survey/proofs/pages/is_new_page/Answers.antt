use Rattle.std.proofs.Common.{length, rules}
use Rattle.mg_survey.specs.UnmadeLaws.{told_new}
use Rattle.mg_survey.proofs.pages.is_new_page.Goals as goal

pub returns : goal.returns
returns c = told_new c.one_packed_text.ensures.one (length c.args.page.now) _ c.args.n c.args.page.now
    c.new_page.new.b c.is_same.result (search rules) c.new_page.ensures c.is_same.ensures
