-- What is kept at an opening.
use Rattle.std.proofs.Common.{◌≡◌, ◌∙◌, ap, length, List, map}
use Rattle.mg_base.specs.declared.transaction.TxState.{TxState}
use Rattle.mg_model.specs.declared.opening.LimboChange.{LimboChange}
use Rattle.mg_model.specs.declared.opening.PlacedRow.{PlacedRow}
use Rattle.mg_model.specs.Catalog.{catalog_name}
use Rattle.mg_model.specs.Changes.{row_at}
use Rattle.mg_model.specs.Machine.{placed, opening_rows, limbo_step, catalog_changes}
use Rattle.mg_plain.specs.Beginning.{known_all}
use Rattle.mg_plain.proofs.FirstLemmas.{stands_made}
use Rattle.mg_plain.proofs.ViewLemmas.{within_made}
use Rattle.mg_plain.proofs.plain.Plain.new.Goals as goal

pub returns : goal.returns
returns c =
    let o = c.args.opening.now in
    let database : c.in_ok-database.database.items ≡ opening_rows o =
    c.in_ok-database.ensures
    ∙ ap (λ (rows : List PlacedRow). placed (row_at (catalog_changes rows) catalog_name) rows) c.as_slice-rows.ensures in
    let known = c.in_ok-known.ensures ∙ ap (λ (s : List TxState). known_all (length c.as_slice-opened.result.now) s) c.as_slice.ensures in
    let steps = c.in_ok-steps.ensures ∙ ap (λ (l : List LimboChange). map limbo_step l) c.as_slice-2.ensures in
    stands_made o (length c.as_slice-opened.result.now) c.in_ok-known.known.items c.new.result.items c.in_ok-steps.steps.items c.in_ok-database.database.items c.new-2.result.items
    c.requires.states (ap length c.as_slice-opened.ensures.value) known c.new.ensures.items steps database c.new-2.ensures.items

pub invariant_of-result-clause-bases : goal.invariant_of-result-clause-bases
invariant_of-result-clause-bases c =
    within_made (length c.in_ok-database.database.items) (length c.as_slice-opened.result.now) c.in_ok-known.known.items _
    c.in_ok-known.ensures (ap length c.as_slice-opened.ensures.value)
