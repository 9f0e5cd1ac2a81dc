-- The base's changes come first, and then the transaction's own.
use Rattle.std.proofs.Common.{◌≡◌, ◌∙◌, ap, sym, refl, [], length, vec_len}
use Rattle.mg_model.specs.Changes.{rows_over}
use Rattle.mg_model.specs.Machine.{changes_by}
use Rattle.mg_plain.specs.Keeping.{base_in}
use Rattle.mg_plain.specs.Kept.{kept}
use Rattle.mg_plain.proofs.RowLemmas.{rows_over-append}
use Rattle.mg_plain.proofs.plain.Plain.seen_rows.Goals as goal

pub returns : goal.returns
returns c =
    let table = c.args.table.now in
    let own = changes_by c.args.t c.args.self.now.steps.items in
    let counted : vec_len c.args.self.now.database ≡ length c.args.self.now.database.items =
    sym c.deref.ensures.len ∙ ap length c.deref.ensures.value in
    let older : c.split_at.result.1.now ≡ base_in (kept c.args.self.now) c.args.t =
    rw (c.split_at.ensures.back, c.deref.ensures.value, c.saturating_sub-newer.ensures, c.len.ensures, c.known.ensures, counted) refl in
    let first : c.put_changes.new.rows.items ≡ rows_over (base_in (kept c.args.self.now) c.args.t) table [] =
    c.in_ok-put_changes.ensures ∙ rw (older, c.new-rows.ensures.items, c.as_slice.ensures.bytes) refl in
    let second : c.put_steps.new.rows.items ≡ rows_over own table c.put_changes.new.rows.items =
    c.in_ok-put_steps.ensures ∙ rw (c.deref-2.ensures.value, c.as_slice-2.ensures.bytes) refl in
    second ∙ (ap (rows_over own table) first ∙ sym (rows_over-append own (base_in (kept c.args.self.now) c.args.t) table []))
