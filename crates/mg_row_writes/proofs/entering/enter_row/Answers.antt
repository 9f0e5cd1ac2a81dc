use Rattle.std.proofs.Common.{List, refl, subst, sym}
use Rattle.std.specs.Prelude.{MatchResult}
use Rattle.mg_entries.specs.Entries.{FailsAll, LaysAll}
use Rattle.mg_model.specs.declared.table.Index.{Index}
use Rattle.mg_records.specs.declared.write.Write.{Write}
use Rattle.mg_row_writes.specs.Laying.{EntersRow, FailsEntering}
use Rattle.mg_row_writes.proofs.entering.enter_row.Goals as goal

pub returns-in-Insert-clause-enters : goal.returns-in-Insert-clause-enters
returns-in-Insert-clause-enters g c = subst (λ (w : Write). MatchResult c.lay_entries.result
    (λ x. EntersRow g.D.Disk.meaning c.args.store.now c.lay_entries.new.store c.args.table.now c.args.rec w)
    (FailsEntering g.D.Disk.meaning c.args.store.now c.lay_entries.new.store c.args.table.now c.args.rec w))
    (sym c.in-Insert.is) (subst (λ (indexes : List Index). MatchResult c.lay_entries.result
    (λ x. LaysAll g.D.Disk.meaning indexes c.args.rec c.in-Insert.row c.args.store.now c.lay_entries.new.store)
    (FailsAll g.D.Disk.meaning indexes c.args.rec c.in-Insert.row c.args.store.now c.lay_entries.new.store))
    c.as_slice.ensures c.lay_entries.ensures.lays)

pub returns-in-Change-clause-enters : goal.returns-in-Change-clause-enters
returns-in-Change-clause-enters g c = subst (λ (w : Write). MatchResult c.lay_entries-in-Change.result
    (λ x. EntersRow g.D.Disk.meaning c.args.store.now c.lay_entries-in-Change.new.store c.args.table.now c.args.rec w)
    (FailsEntering g.D.Disk.meaning c.args.store.now c.lay_entries-in-Change.new.store c.args.table.now c.args.rec w))
    (sym c.in-Change.is) (subst (λ (indexes : List Index). MatchResult c.lay_entries-in-Change.result
    (λ x. LaysAll g.D.Disk.meaning indexes c.args.rec c.in-Change.row c.args.store.now c.lay_entries-in-Change.new.store)
    (FailsAll g.D.Disk.meaning indexes c.args.rec c.in-Change.row c.args.store.now c.lay_entries-in-Change.new.store))
    c.as_slice-in-Change.ensures c.lay_entries-in-Change.ensures.lays)

pub returns-in-Erase-clause-enters : goal.returns-in-Erase-clause-enters
returns-in-Erase-clause-enters g c = subst
    (λ (w : Write). EntersRow g.D.Disk.meaning c.args.store.now c.args.store.now c.args.table.now c.args.rec w)
    (sym c.in-Erase.is) refl
