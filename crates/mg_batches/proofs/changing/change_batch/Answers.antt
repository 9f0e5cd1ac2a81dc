use Rattle.std.proofs.Common.{◌∙◌, ap, refl, subst, sym, ℕ}
use Rattle.std.proofs.lemmas.Bool.{false≢true}
use Rattle.mg_base.specs.declared.geometry.Geometry.{Geometry}
use Rattle.mg_pool.specs.Batch.{IsLawful}
use Rattle.mg_batches.proofs.ChangeLemmas.{own_of}
use Rattle.mg_batches.proofs.changing.change_batch.Goals as goal

pub returns-then-not-is_lawful-clause-pool : goal.returns-then-not-is_lawful-clause-pool
returns-then-not-is_lawful-clause-pool g c = c.requires.pool

pub returns-then-not-is_lawful-clause-geometry : goal.returns-then-not-is_lawful-clause-geometry
returns-then-not-is_lawful-clause-geometry g c = refl

pub returns-then-not-is_lawful-clause-changes : goal.returns-then-not-is_lawful-clause-changes
returns-then-not-is_lawful-clause-changes g c = record {
  is = c.unlawful.ensures;
  unlawful = λ lawful. absurd (false≢true (sym c.if-not-is_lawful.true ∙ c.is_lawful.ensures.1
      (subst (λ (n : ℕ). IsLawful n c.args.batch.pages c.args.batch.orders)
      (sym (ap (λ (x : Geometry). x.size) c.geometry.ensures)) lawful)));
  same = refl;
}

pub change-requires-clause-pool : goal.change-requires-clause-pool
change-requires-clause-pool g c = c.requires.pool

pub change-requires-clause-lawful : goal.change-requires-clause-lawful
change-requires-clause-lawful g c = subst (λ (n : ℕ). IsLawful n c.args.batch.pages c.args.batch.orders)
    (ap (λ (x : Geometry). x.size) c.geometry.ensures) (c.is_lawful.ensures.0 c.if-not-is_lawful.false)

pub returns-in-Ok-clause-pool : goal.returns-in-Ok-clause-pool
returns-in-Ok-clause-pool g c = c.change.ensures.pool

pub returns-in-Ok-clause-geometry : goal.returns-in-Ok-clause-geometry
returns-in-Ok-clause-geometry g c = c.change.ensures.geometry

pub returns-in-Ok-clause-changes : goal.returns-in-Ok-clause-changes
returns-in-Ok-clause-changes g c = record {
  pool = c.change.ensures.pool;
  geometry = c.change.ensures.geometry;
  online = c.in-Ok.ensures.fault;
  lawful = subst (λ (n : ℕ). IsLawful n c.args.batch.pages c.args.batch.orders)
      (ap (λ (x : Geometry). x.size) c.geometry.ensures) (c.is_lawful.ensures.0 c.if-not-is_lawful.false);
  changes = c.in-Ok.ensures.changes;
  frame = c.in-Ok.ensures.frame;
  crash = c.change.ensures.crash;
}

pub returns-in-Err-clause-pool : goal.returns-in-Err-clause-pool
returns-in-Err-clause-pool g c = c.change.ensures.pool

pub returns-in-Err-clause-geometry : goal.returns-in-Err-clause-geometry
returns-in-Err-clause-geometry g c = c.change.ensures.geometry

pub returns-in-Err-clause-changes : goal.returns-in-Err-clause-changes
returns-in-Err-clause-changes g c = record {
  pool = c.change.ensures.pool;
  geometry = c.change.ensures.geometry;
  told = c.in-Err.ensures.fault;
  own = own_of c.in-Err.fault c.in-Err.ensures.own;
  same = c.in-Err.ensures.same;
  left = c.in-Err.ensures.refused;
  crash = c.change.ensures.crash;
}
