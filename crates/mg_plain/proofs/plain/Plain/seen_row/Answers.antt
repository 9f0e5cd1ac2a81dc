-- The row is that of the newest change.
use Rattle.std.proofs.Common.{sym, ◌∙◌, ap, ◌++◌}
use Rattle.mg_model.specs.Machine.{changes_by}
use Rattle.mg_plain.specs.Kept.{kept}
use Rattle.mg_plain.specs.Keeping.{base_in}
use Rattle.mg_plain.specs.Lookups.{row_of}
use Rattle.mg_plain.proofs.LookupLemmas.{row_at-change_at}
use Rattle.mg_plain.proofs.plain.Plain.seen_row.Goals as goal

pub returns-in-Some : goal.returns-in-Some
returns-in-Some c =
    let is = row_at-change_at (changes_by c.args.t c.args.self.now.steps.items ++ base_in (kept c.args.self.now) c.args.t) c.args.table.now c.args.key.now in
    c.as_ref.ensures.value ∙ sym (is ∙ ap row_of (sym c.in-Some.ensures))

pub returns-in-None : goal.returns-in-None
returns-in-None c =
    let is = row_at-change_at (changes_by c.args.t c.args.self.now.steps.items ++ base_in (kept c.args.self.now) c.args.t) c.args.table.now c.args.key.now in
    sym (is ∙ ap row_of (sym c.in-None.ensures))
