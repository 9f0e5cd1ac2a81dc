use Rattle.std.proofs.Common.{subst, sym}
use Rattle.std.specs.Prelude.{OnOk}
use Rattle.mg_base.specs.declared.geometry.Geometry.{Geometry}
use Rattle.mg_space.specs.View.{AreWhole}
use Rattle.mg_cache_tests.proofs.tests.btree.put_entry.Goals as goal

pub returns-clause-whole : goal.returns-clause-whole
returns-clause-whole c = subst (λ (k : Geometry). OnOk c.insert.result (AreWhole k c.insert.new.batch.pages)) (sym c.insert.ensures.reads.keeps.geometry) c.insert.ensures.whole
