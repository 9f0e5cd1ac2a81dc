use Rattle.std.proofs.Common.{subst, sym}
use Rattle.mg_base.specs.declared.geometry.Geometry.{Geometry}
use Rattle.mg_space.specs.View.{AreWhole}
use Rattle.mg_heap.proofs.ListedLemmas.{on_false}
use Rattle.mg_heap.proofs.listed.named_place.Goals as goal

pub returns-then-not-holds-clause-names : goal.returns-then-not-holds-clause-names
returns-then-not-holds-clause-names g c = λ image tells is.
    on_false c.in_ok-holds.holds c.if-not-holds.true (c.in_ok-holds.ensures.none image tells) is.data_page

pub lent-requires-clause-whole : goal.lent-requires-clause-whole
lent-requires-clause-whole g c = subst (λ (k : Geometry). AreWhole k c.args.batch.now.pages)
    (sym c.in_ok-holds.ensures.keeps.geometry) c.requires.whole
