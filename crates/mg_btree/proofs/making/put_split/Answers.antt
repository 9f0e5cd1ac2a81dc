use Rattle.std.proofs.Common.{refl, ap, sym, ◌∙◌, subst, ◌≤◌, ◌/◌, ℕ, length}
use Rattle.mg_base.specs.declared.geometry.Geometry.{Geometry}
use Rattle.mg_pool.specs.declared.fault.PoolFault.TheVariants.{Memory}
use Rattle.mg_space.specs.declared.fault.SpaceFault.TheVariants.{Pool as OfPool}
use Rattle.mg_btree.specs.AboveLaws.{sized_by}
use Rattle.mg_btree.specs.MakingLaws.{named_err}
use Rattle.mg_btree.specs.OrderLaws.{widens_same}
use Rattle.mg_btree.specs.Making.{PutsSplit}
use Rattle.mg_btree.specs.Ordering.{Widens}
use Rattle.mg_base.specs.Geometry.{is_page_size}
use Rattle.mg_btree.proofs.making.put_split.Goals as goal

pub name_half-requires-clause-sized : goal.name_half-requires-clause-sized
name_half-requires-clause-sized g c = sized_by c.args.store.now.geometry c.args.above.bytes
    c.requires.geometry c.requires.len

pub returns-in_err-named-clause-splits : goal.returns-in_err-named-clause-splits
returns-in_err-named-clause-splits g c = named_err c.args.store.now.geometry.size c.args.batch.now
    c.args.batch.now c.args.halves c.args.above c.args.e.now c.in_err-named.field-0.0
    c.from_residual.result c.from_residual.ensures.1 c.in_err-named.ensures.names

pub returns-in_err-named-clause-widens : goal.returns-in_err-named-clause-widens
returns-in_err-named-clause-widens g c = widens_same c.args.store.now.geometry.size c.args.batch.now
    c.args.batch.now refl

pub returns-in_err-put_named-clause-splits : goal.returns-in_err-put_named-clause-splits
returns-in_err-put_named-clause-splits g c = named_err c.args.store.now.geometry.size
    c.args.batch.now c.put_named.new.batch c.args.halves c.args.above c.args.e.now (OfPool Memory)
    c.from_residual-in_err-put_named.result c.from_residual-in_err-put_named.ensures.1 refl

pub returns-in_err-put_named-clause-widens : goal.returns-in_err-put_named-clause-widens
returns-in_err-put_named-clause-widens g c = subst (λ (k : Geometry). Widens k.size c.args.batch.now
    c.put_named.new.batch) c.geometry.ensures c.in_err-put_named.ensures.widens

pub returns-clause-splits : goal.returns-clause-splits
returns-clause-splits g c = record {
  named = c.in_ok-named.named.bytes;
  names = c.in_ok-named.ensures.names;
  puts = subst (λ (n : ℕ). PutsSplit c.args.store.now.geometry.size c.args.batch.now c.put_named.new.batch
      c.args.halves n c.in_ok-named.named.bytes) (ap (λ p. p.0) c.in_ok-named.ensures.page)
      (subst (λ (k : Geometry). PutsSplit k.size c.args.batch.now c.put_named.new.batch c.args.halves
      c.in_ok-named.named.page.0 c.in_ok-named.named.bytes) c.geometry.ensures
      c.in_ok-put_named.ensures.puts);
  is_half = c.half_for.ensures;
}

pub returns-clause-widens : goal.returns-clause-widens
returns-clause-widens g c = subst (λ (k : Geometry). Widens k.size c.args.batch.now
    c.put_named.new.batch) c.geometry.ensures c.in_ok-put_named.ensures.widens

pub name_half-requires-clause-short : goal.name_half-requires-clause-short
name_half-requires-clause-short g c = subst (λ (n : ℕ). length c.args.halves.fence.key ≤ n / 8)
    (sym c.requires.len) c.requires.short

pub put_named-requires-clause-size : goal.put_named-requires-clause-size
put_named-requires-clause-size g c = ap (λ (k : Geometry). is_page_size k.size) c.geometry.ensures
    ∙ c.requires.geometry.size

pub put_named-requires-clause-left : goal.put_named-requires-clause-left
put_named-requires-clause-left g c = c.requires.left
    ∙ sym (ap (λ (k : Geometry). k.size) c.geometry.ensures)

pub put_named-requires-clause-right : goal.put_named-requires-clause-right
put_named-requires-clause-right g c = c.requires.right
    ∙ sym (ap (λ (k : Geometry). k.size) c.geometry.ensures)

pub put_named-requires-clause-named : goal.put_named-requires-clause-named
put_named-requires-clause-named g c = c.in_ok-named.ensures.names.keeps.size
    ∙ (c.requires.len ∙ sym (ap (λ (k : Geometry). k.size) c.geometry.ensures))
