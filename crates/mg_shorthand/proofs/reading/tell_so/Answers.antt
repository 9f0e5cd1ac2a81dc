use Rattle.std.proofs.Common.{◌∷◌, [], List, None, Ok, Err, Some, false, refl, subst, sym}
use Rattle.mg_expr.specs.Trees.{Column as ColumnTree}
use Rattle.mg_model.specs.declared.answer.Answer.TheVariants.{No, Rows}
use Rattle.mg_model.specs.declared.event.Event.TheVariants.{Find}
use Rattle.mg_model.specs.Changes.{Cells}
use Rattle.mg_model.specs.History.{entry}
use Rattle.mg_model.specs.NewDatabase.{kv_name}
use Rattle.mg_rows.specs.Selecting.{Selects}
use Rattle.mg_script.specs.declared.reply.Reply.{Reply}
use Rattle.mg_courses.specs.CarryLaws.{carries_event}
use Rattle.mg_shorthand.specs.Keys.{HasRead, found_of}
use Rattle.mg_shorthand.proofs.GoingLemmas.{spares_then}
use Rattle.mg_shorthand.proofs.ReadingLemmas.{answered, found_adds, machine, not_told, spares_answered, spares_leaves}
use Rattle.mg_shorthand.proofs.ValueLemmas.{answers_value}
use Rattle.mg_shorthand.proofs.reading.tell_so.Goals as goal

pub returns-in-Ok-clause-reads : goal.returns-in-Ok-clause-reads
returns-in-Ok-clause-reads g c = λ row o h is seen found stands active.
    let m = g.R.Records.meaning in
    let t = c.args.t in
    let key = c.args.key in
    let shape = c.args.table.now.shape in
    let filter = c.args.told.now.filter in
    let mid = c.found.new.self in
    let adds = found_adds m c.args.r.now mid t c.args.table.now.name filter c.args.told.now.rows row (Ok tt)
    c.requires.named is c.in-Ok.ensures.adds in
    let did = entry (Find t kv_name filter) (Rows (found_of row)) in
    subst (λ (reply : Reply). HasRead m c.args.r.now mid o h t key reply) (sym c.reply_of.ensures)
    (record {
      after = did ∷ h;
      runs = answered o h t key shape row c.requires.shape seen found filter c.requires.filter c.values_of.result active
          (answers_value shape key (found_of row) c.values_of.result c.requires.shape
          (subst (λ (rows : List Cells). Selects (Some (ColumnTree 1 ∷ [])) None 0 rows c.values_of.result) is
          c.values_of.ensures));
      stands = adds o h stands (machine o h t key shape row c.requires.shape seen found filter c.requires.filter active);
      carries = carries_event m g.met.R.Records.lasts c.args.r.now mid o h did None refl stands
          c.in-Ok.ensures.leaves.keeps c.in-Ok.ensures.undamaged c.in-Ok.ensures.crash;
    })

pub returns-in-Ok-clause-spares : goal.returns-in-Ok-clause-spares
returns-in-Ok-clause-spares g c = λ before spares.
    let m = g.R.Records.meaning in
    spares_answered m before c.found.new.self c.args.t c.values_of.result c.reply_of.result c.reply_of.ensures
    (spares_then m before c.args.r.now c.found.new.self c.args.t None false spares
    (spares_leaves m c.args.r.now c.found.new.self c.args.t None c.in-Ok.ensures.leaves c.in-Ok.ensures.told
    c.in-Ok.ensures.sessions))

pub returns-in-Err-clause-reads : goal.returns-in-Err-clause-reads
returns-in-Err-clause-reads g c = λ row o h is seen found stands active.
    let m = g.R.Records.meaning in
    let t = c.args.t in
    let refusal = c.in-Err.refusal in
    let filter = c.args.told.now.filter in
    let adds = found_adds m c.args.r.now c.found.new.self t c.args.table.now.name filter c.args.told.now.rows row
    (Err refusal) c.requires.named is c.in-Err.ensures.adds in
    let made = adds o h stands in
    let did = entry (Find t kv_name filter) (No refusal) in
    record {
      after = did ∷ h;
      runs = not_told o h t c.args.key c.args.table.now.shape row c.requires.shape seen found filter c.requires.filter
          refusal made.0;
      stands = made.1;
      carries = carries_event m g.met.R.Records.lasts c.args.r.now c.found.new.self o h did (Some refusal) refl stands
          c.in-Err.ensures.leaves.keeps c.in-Err.ensures.undamaged c.in-Err.ensures.crash;
    }

pub returns-in-Err-clause-spares : goal.returns-in-Err-clause-spares
returns-in-Err-clause-spares g c = λ before spares.
    let m = g.R.Records.meaning in
    spares_then m before c.args.r.now c.found.new.self c.args.t (Some c.in-Err.refusal) false spares
    (spares_leaves m c.args.r.now c.found.new.self c.args.t (Some c.in-Err.refusal) c.in-Err.ensures.leaves
    c.in-Err.ensures.told c.in-Err.ensures.sessions)
