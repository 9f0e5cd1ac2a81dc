use Rattle.std.proofs.Common.{List, subst, sym}
use Rattle.mg_directory.specs.Bounds.{IsBounded, without}
use Rattle.mg_directory.specs.Candidates.{Drops, Kept, Noted, by_table}
use Rattle.mg_directory.proofs.TableLemmas.{bounded_without, drops}
use Rattle.mg_directory.proofs.directories.Directories.drop_table.Goals as goal

pub invariant_of-self : goal.invariant_of-self
invariant_of-self c = subst (IsBounded c.self.inside.most) (sym c.drop_from.ensures)
    (bounded_without c.self.inside.most c.self.inside.tables.items c.args.first.0 c.self.invariant)

pub returns-clause-drops : goal.returns-clause-drops
returns-clause-drops c = subst
    (λ (ds : List Noted). Drops (by_table c.args.self.now.dirs) (by_table ds) c.args.first.0)
    (sym c.drop_from.ensures)
    (subst (λ (k : Kept). Drops (by_table k.dirs)
    (by_table (without c.args.first.0 c.self.inside.tables.items)) c.args.first.0) c.self.view_is
    (drops c.self.inside.tables.items c.args.first.0))
