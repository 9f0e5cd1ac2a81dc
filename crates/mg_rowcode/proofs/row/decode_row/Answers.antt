use Rattle.std.proofs.Common.{◌∙◌, subst, sym}
use Rattle.mg_rowcode.proofs.RowLemmas.{decodes}
use Rattle.mg_rowcode.proofs.StorableLemmas.{storable_nulls}
use Rattle.mg_rowcode.specs.Storable.{AreStorable}
use Rattle.mg_rowcode.proofs.row.decode_row.Goals as goal

pub returns-clause-ok : goal.returns-clause-ok
returns-clause-ok c =
    decodes c.args.s.now.columns c.as_slice-columns.result.now c.args.format c.args.packed.now c.in_ok-plain.plain.items c.deref.result.now c.columns_in-stored.result.now c.in_ok-values.values.items c.new.result
    c.as_slice-columns.ensures c.columns_in-stored.ensures c.in_ok-plain.ensures.ok c.deref.ensures.value c.in_ok-values.ensures.ok (c.new.ensures ∙ c.in_ok-push_nulls.ensures)

pub returns-clause-storable : goal.returns-clause-storable
returns-clause-storable c = subst AreStorable (sym (c.new.ensures ∙ c.in_ok-push_nulls.ensures))
    (storable_nulls c.in_ok-values.values.items _ c.in_ok-values.ensures.storable)
