use Rattle.std.proofs.Common.{ap, refl, subst, sym, ◌∙◌}
use Rattle.std.proofs.lemmas.Bool.{false≢true}
use Rattle.mg_base.specs.declared.damage.Damaged.{Damaged}
use Rattle.mg_base.specs.declared.geometry.Geometry.{Geometry}
use Rattle.mg_row_writes.specs.Laying.{KeysMayBeLaid}
use Rattle.mg_row_writes.specs.Storing.{MayBeStored}
use Rattle.mg_space.specs.declared.fault.SpaceFault.TheVariants as faults
use Rattle.mg_taking_back.specs.Keys.{former_key_long, former_long, former_unfit}
use Rattle.mg_taking_back.proofs.KeyLemmas.{replaced_by}
use Rattle.mg_taking_back.proofs.keys.replace_by.Goals as goal

pub returns-then-not-fits-clause-replaces : goal.returns-then-not-fits-clause-replaces
returns-then-not-fits-clause-replaces g c = former_unfit
    (λ fit. false≢true (sym c.if-not-fits.true ∙ c.fits.ensures.1 fit))
    (ap (λ (it : Damaged). faults.Damaged it) c.unlawful.ensures) refl

pub returns-then-not-may_be_stored-clause-replaces : goal.returns-then-not-may_be_stored-clause-replaces
returns-then-not-may_be_stored-clause-replaces g c = former_long c.in-Ok.version c.in-Ok.ensures
    (λ may. false≢true (sym c.if-not-may_be_stored.true ∙ c.may_be_stored.ensures.1
    (subst (λ (g : Geometry). MayBeStored g.size c.args.table.now.pointer.0 c.in-Ok.version) (sym c.geometry-size.ensures)
    may)))
    (ap (λ (it : Damaged). faults.Damaged it) c.unlawful-then-not-may_be_stored.ensures) refl

pub returns-then-not-short-clause-replaces : goal.returns-then-not-short-clause-replaces
returns-then-not-short-clause-replaces g c = former_key_long
    (λ may. false≢true (sym c.if-not-short.true ∙ c.in-Ok-keys_may_be_laid.ensures.1
    (subst (λ (g : Geometry). KeysMayBeLaid g.size c.args.table.now c.args.write.now) (sym c.geometry-size.ensures) may)))
    (ap (λ (it : Damaged). faults.Damaged it) c.unlawful-then-not-short.ensures) refl

pub enter_own-requires-clause-short : goal.enter_own-requires-clause-short
enter_own-requires-clause-short g c = subst (λ (k : Geometry). KeysMayBeLaid k.size c.args.table.now c.args.write.now)
    c.geometry-size.ensures (c.in-Ok-keys_may_be_laid.ensures.0 c.if-not-short.false)

pub returns-clause-replaces : goal.returns-clause-replaces
returns-clause-replaces g c = replaced_by g.D.Disk.meaning c.args.store.now c.enter_own.new.store c.args.t.0
    c.args.table.now c.args.rec c.args.write.now c.in-Ok.version c.enter_own.result
    (c.fits.ensures.0 c.if-not-fits.false) c.in-Ok.ensures
    (subst (λ (g : Geometry). MayBeStored g.size c.args.table.now.pointer.0 c.in-Ok.version) c.geometry-size.ensures
    (c.may_be_stored.ensures.0 c.if-not-may_be_stored.false))
    (subst (λ (g : Geometry). KeysMayBeLaid g.size c.args.table.now c.args.write.now) c.geometry-size.ensures
    (c.in-Ok-keys_may_be_laid.ensures.0 c.if-not-short.false)) c.enter_own.ensures.lays
