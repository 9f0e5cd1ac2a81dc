use Rattle.std.proofs.Common.{refl, ap, sym, ◌∙◌, subst}
use Rattle.mg_base.specs.declared.geometry.Geometry.{Geometry}
use Rattle.mg_btree.specs.AboveLaws.{sized_by}
use Rattle.mg_btree.specs.OrderLaws.{widens_same}
use Rattle.mg_btree.specs.Making.{PutsRoot, SplitsRoot}
use Rattle.mg_btree.specs.Ordering.{Widens}
use Rattle.mg_base.specs.Geometry.{is_page_size}
use Rattle.mg_btree.specs.ReadingLaws.{ok_of_err}
use Rattle.mg_btree.proofs.making.put_growth.Goals as goal

pub grow-requires-clause-sized : goal.grow-requires-clause-sized
grow-requires-clause-sized g c = sized_by c.args.store.now.geometry c.args.full.bytes
    c.requires.geometry c.requires.len

pub returns-in_err-growth-clause-widens : goal.returns-in_err-growth-clause-widens
returns-in_err-growth-clause-widens g c = widens_same c.args.store.now.geometry.size c.args.batch.now
    c.args.batch.now refl

pub returns-in_err-put_root-clause-widens : goal.returns-in_err-put_root-clause-widens
returns-in_err-put_root-clause-widens g c = subst (λ (k : Geometry). Widens k.size c.args.batch.now
    c.put_root.new.batch) c.geometry.ensures c.in_err-put_root.ensures.widens

pub returns-clause-splits : goal.returns-clause-splits
returns-clause-splits g c = record {
  growth = c.in_ok-growth.growth;
  is = c.in_ok-growth.ensures;
  puts = subst (λ (k : Geometry). PutsRoot k.size c.args.batch.now c.put_root.new.batch
      c.in_ok-growth.growth) c.geometry.ensures c.in_ok-put_root.ensures.puts;
  is_half = c.half_for.ensures;
}

pub returns-clause-widens : goal.returns-clause-widens
returns-clause-widens g c = subst (λ (k : Geometry). Widens k.size c.args.batch.now
    c.put_root.new.batch) c.geometry.ensures c.in_ok-put_root.ensures.widens

pub put_root-requires-clause-size : goal.put_root-requires-clause-size
put_root-requires-clause-size g c = ap (λ (k : Geometry). is_page_size k.size) c.geometry.ensures
    ∙ c.requires.geometry.size

pub put_root-requires-clause-left : goal.put_root-requires-clause-left
put_root-requires-clause-left g c = c.in_ok-growth.ensures.halves.pair.splits.left_size
    ∙ (c.in_ok-growth.ensures.copies.size
    ∙ (c.requires.len ∙ sym (ap (λ (k : Geometry). k.size) c.geometry.ensures)))

pub put_root-requires-clause-right : goal.put_root-requires-clause-right
put_root-requires-clause-right g c = c.in_ok-growth.ensures.halves.pair.splits.right_size
    ∙ (c.in_ok-growth.ensures.copies.size
    ∙ (c.requires.len ∙ sym (ap (λ (k : Geometry). k.size) c.geometry.ensures)))

pub put_root-requires-clause-root : goal.put_root-requires-clause-root
put_root-requires-clause-root g c = c.in_ok-growth.ensures.len
    ∙ (c.requires.len ∙ sym (ap (λ (k : Geometry). k.size) c.geometry.ensures))

pub returns-in_err-growth-clause-splits : goal.returns-in_err-growth-clause-splits
returns-in_err-growth-clause-splits g c = ok_of_err (SplitsRoot c.args.store.now.geometry.size
    c.args.batch.now c.args.batch.now c.args.top.owner c.args.top.level c.args.full c.args.two
    c.args.e.now) _ c.from_residual.result c.from_residual.ensures.1

pub returns-in_err-put_root-clause-splits : goal.returns-in_err-put_root-clause-splits
returns-in_err-put_root-clause-splits g c = ok_of_err (SplitsRoot c.args.store.now.geometry.size
    c.args.batch.now c.put_root.new.batch c.args.top.owner c.args.top.level c.args.full c.args.two
    c.args.e.now) _ c.from_residual-in_err-put_root.result c.from_residual-in_err-put_root.ensures.1
