use Rattle.mg_pool_overlay_laws.specs.Ties.{changes_keep_needs, none_marked_none, not_asked_needs_all, runs_keep_needs}
use Rattle.mg_pool_overlay_laws.proofs.laws.needs_go_on.Goals as goal

pub returns-clause-over_page_writes : goal.returns-clause-over_page_writes
returns-clause-over_page_writes g c = runs_keep_needs g.row.D.Denot g.row.L.Denot g.D.Disk.meaning

pub returns-clause-over_changes : goal.returns-clause-over_changes
returns-clause-over_changes g c = changes_keep_needs g.row.D.Denot g.row.L.Denot

pub returns-clause-all_dirty : goal.returns-clause-all_dirty
returns-clause-all_dirty g c = not_asked_needs_all

pub returns-clause-none : goal.returns-clause-none
returns-clause-none g c = none_marked_none
