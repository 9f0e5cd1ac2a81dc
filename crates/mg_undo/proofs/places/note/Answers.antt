use Rattle.std.specs.Prelude.{refl}
use Rattle.mg_undo.proofs.PlacesLemmas.{noted}
use Rattle.mg_undo.proofs.places.note.Goals as goal

pub returns-clause-pushed : goal.returns-clause-pushed
returns-clause-pushed c =
    (noted _ (λ p q. refl) c.args.latest.now.entries c.insert_full.new.self.entries c.args.place
    c.args.at c.in_ok-entry.entry c.in_ok-entry.earlier c.in_ok-entry.ensures.index
    c.in_ok-entry.ensures.old c.in_ok-entry.ensures.entries c.in_ok-entry.ensures.within).0

pub returns-clause-before : goal.returns-clause-before
returns-clause-before c =
    (noted _ (λ p q. refl) c.args.latest.now.entries c.insert_full.new.self.entries c.args.place
    c.args.at c.in_ok-entry.entry c.in_ok-entry.earlier c.in_ok-entry.ensures.index
    c.in_ok-entry.ensures.old c.in_ok-entry.ensures.entries c.in_ok-entry.ensures.within).1
