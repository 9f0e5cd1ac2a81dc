use Rattle.std.proofs.Common.{List, get_or, None, Some, ap, false, subst, ◌≡◌, ◌∙◌, ℕ, w64}
use Rattle.std.proofs.lemmas.Int.{to_z-of_z}
use Rattle.mg_value.specs.declared.value.Value.{Value}
use Rattle.mg_value.specs.declared.value.Value.TheVariants as values
use Rattle.mg_model.specs.Changes.{Cells, row_at}
use Rattle.mg_model.specs.Machine.{view}
use Rattle.mg_model.specs.NewDatabase.{kv_name}
use Rattle.mg_shorthand.proofs.GoingLemmas.{spares_then}
use Rattle.mg_shorthand.proofs.ReadingLemmas.{read_behind, stopped}
use Rattle.mg_shorthand.proofs.ValueLemmas.{found_with_key}
use Rattle.mg_shorthand.proofs.reading.value_at.Goals as goal

pub returns-in-Ok-clause-reads : goal.returns-in-Ok-clause-reads
returns-in-Ok-clause-reads g c = λ o h seen stands active.
    let m = g.R.Records.meaning in
    let t = c.args.t in
    let key = c.args.key in
    let table = c.args.table.now in
    let mid = c.visit_key-2.new.r in
    let is : c.key_of.result ≡ values.Int key = rw (to_z-of_z w64 key c.ranges.key) at c.key_of.ensures in
    let row_is : c.in-Ok.row ≡ row_at (view o h t.0) kv_name (values.Int key) =
    c.in-Ok.ensures.finds o h stands active
    ∙ ap (λ (k : Value). row_at (view o h t.0) table.name k) is
    ∙ ap (λ (n : List ℕ). row_at (view o h t.0) n (values.Int key)) c.requires.named in
    let own = subst (λ (n : List ℕ). (k : Value) (its : Cells) → row_at (view o h t.0) n k ≡ Some its
    → get_or its table.shape.key values.Null ≡ k) c.requires.named (c.in-Ok.ensures.keyed o h stands active) in
    let told = rw (to_z-of_z w64 key c.ranges.key) at c.tell.ensures.reads in
    read_behind m g.met.R.Records.lasts c.args.r.now mid c.tell.new.r o h t key c.tell.result
    (c.in-Ok.ensures.reads o h stands) (told o h seen
    (found_with_key o h t table.shape key c.in-Ok.row c.requires.shape own row_is)
    (c.in-Ok.ensures.reads o h stands).stands active)

pub returns-in-Ok-clause-spares : goal.returns-in-Ok-clause-spares
returns-in-Ok-clause-spares g c = λ before spares.
    c.tell.ensures.spares before (spares_then g.R.Records.meaning before c.args.r.now c.visit_key-2.new.r c.args.t None
    false spares c.in-Ok.ensures.spares)

pub returns-clause-reads : goal.returns-clause-reads
returns-clause-reads g c = λ o h seen stands active.
    let reads = c.in-Err.ensures.reads o h stands in
    record {
      after = h;
      runs = stopped o h c.args.t c.args.key c.in-Err.refusal (c.in-Err.ensures.outside o h stands active);
      stands = reads.stands;
      carries = reads.carries;
    }

pub returns-clause-spares : goal.returns-clause-spares
returns-clause-spares g c = λ before spares.
    spares_then g.R.Records.meaning before c.args.r.now c.visit_key-2.new.r c.args.t (Some c.in-Err.refusal) false spares
    c.in-Err.ensures.spares
