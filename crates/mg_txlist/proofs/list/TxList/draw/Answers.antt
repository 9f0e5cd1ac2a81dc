use Rattle.std.proofs.Common.{◌∙◌, refl, subst, sym, ℕ, Option}
use Rattle.mg_base.specs.declared.geometry.Geometry.{Geometry}
use Rattle.mg_pool.specs.Batch.{AreBelow, IsLawful}
use Rattle.std.specs.Prelude.{Ok, Err}
use Rattle.mg_pool.specs.Pool.{shown}
use Rattle.mg_space.specs.HandedLaws.{no_answer, out_of_memory, own_as, told_as}
use Rattle.mg_space.specs.View.{viewed}
use Rattle.mg_txlist.specs.Drawing.{DrawsOn, IsTipFor, not_changed}
use Rattle.mg_txlist.proofs.AddLemmas.{adds_below, adds_list, adds_number, own_back, pages_back, same_list}
use Rattle.mg_space.specs.ViewLaws.{fault_on}
use Rattle.mg_txlist.specs.Refusals.{RefusesDraw}
use Rattle.mg_txlist.specs.TipLaws.{items_same}
use Rattle.mg_txlist.specs.TxList.{next_said}
use Rattle.mg_txlist.specs.declared.list.TipPage.{TipPage}
use Rattle.mg_txlist.proofs.HandedLemmas.{is_also, on_err, own_memory, told_memory}
use Rattle.mg_txlist.proofs.RefusalLemmas.{err_as}
use Rattle.mg_txlist.proofs.WritingLemmas.{reads_alone}
use Rattle.mg_txlist.proofs.list.TxList.draw.Goals as goal

pub returns-in-Ok-clause-adds : goal.returns-in-Ok-clause-adds
returns-in-Ok-clause-adds g c = adds_number c.args.self.now c.add.new.self c.in_ok-page.page
    c.requires.list c.in_ok-add.ensures.pages c.in_ok-add.ensures.own c.add.ensures.first
    c.add.ensures.size

pub returns-in-Ok-clause-draws : goal.returns-in-Ok-clause-draws
returns-in-Ok-clause-draws g c = record {
  ready = c.fill.new.store;
  batch = c.fill.new.batch;
  page = c.in_ok-page.page;
  keeps = c.in_ok-page.ensures.keeps;
  lawful = c.in_ok-page.ensures.lawful;
  first = subst (λ (t : ℕ). IsTipFor c.args.store.now.geometry.size t c.in_ok-page.page) c.next-t.ensures
      c.in_ok-page.ensures.page;
  changes = c.in-Ok.ensures.changes;
  frame = c.in-Ok.ensures.frame;
  crash = c.in-Ok.ensures.crash;
  views = λ image tells. subst (λ (t : ℕ). DrawsOn c.args.store.now.geometry t
      (shown c.args.store.now.dirty image) (viewed c.args.store.now image c.fill.new.batch)
      c.in_ok-page.page c.fill.new.batch.orders) c.next-t.ensures
      (c.in_ok-page.ensures.draws image tells);
  adds = c.in_ok-add.ensures.pages;
}

pub returns-in-Err-clause-list : goal.returns-in-Err-clause-list
returns-in-Err-clause-list g c = same_list c.args.self.now _ (record {
  pages = pages_back c.args.self.now c.add.new.self c.in_ok-page.page c.len-pages.result
      c.truncate.new.self.items c.in_ok-add.ensures.pages (c.len-pages.ensures ∙ c.args.self.now.pages.ok.0)
      c.truncate.ensures.items;
  own = own_back c.args.self.now.own.items c.add.new.self.own.items c.len-own.result
      c.truncate-in-Err.new.self.items c.in_ok-add.ensures.own (c.len-own.ensures ∙ c.args.self.now.own.ok.0)
      c.truncate-in-Err.ensures.items;
  first = c.add.ensures.first;
  size = c.add.ensures.size;
}) c.requires.list

pub returns-in-Err-clause-left : goal.returns-in-Err-clause-left
returns-in-Err-clause-left g c =
    not_changed c.fill.new.store c.in-Err.fault c.in_ok-page.ensures.keeps c.in-Err.ensures.refused

pub returns-in_err-page-clause-left : goal.returns-in_err-page-clause-left
returns-in_err-page-clause-left g c =
    reads_alone g.D.Disk.meaning c.args.store.now c.fill.new.store c.from_residual.result c.fill.ensures.keeps
    (own_as (Option TipPage) c.from_residual.result c.in_err-page.field-0.0 c.from_residual.ensures.1 c.in_err-page.ensures.own)

pub returns-in_err-add-clause-left : goal.returns-in_err-add-clause-left
returns-in_err-add-clause-left g c = reads_alone g.D.Disk.meaning c.args.store.now c.fill.new.store
    c.from_residual-in_err-add.result c.in_ok-page.ensures.keeps
    (own_memory c.from_residual-in_err-add.result (is_also c.from_residual-in_err-add.result c.in_err-add.field-0.0 out_of_memory c.from_residual-in_err-add.ensures.1 c.in_err-add.ensures.memory))

pub returns-in_err-page-clause-fault : goal.returns-in_err-page-clause-fault
returns-in_err-page-clause-fault g c = told_as (Option TipPage) g.D.Disk.meaning c.args.store.now c.fill.new.store c.from_residual.result c.in_err-page.field-0.0 c.from_residual.ensures.1 c.in_err-page.ensures.fault

pub returns-in_err-page-clause-refused : goal.returns-in_err-page-clause-refused
returns-in_err-page-clause-refused g c = λ image tells. err_as c.from_residual.result c.in_err-page.field-0.0 (RefusesDraw g.D.Disk.meaning c.fill.new.store c.args.store.now.geometry (next_said c.args.self.now) (shown c.args.store.now.dirty image)) c.from_residual.ensures.1
    (subst (λ (t : ℕ). RefusesDraw g.D.Disk.meaning c.fill.new.store c.args.store.now.geometry t (shown c.args.store.now.dirty image) c.in_err-page.field-0.0) c.next-t.ensures (c.in_err-page.ensures.refused image tells))

pub returns-in_err-add-clause-list : goal.returns-in_err-add-clause-list
returns-in_err-add-clause-list g c = same_list c.args.self.now _ (record {
  pages = c.in_err-add.ensures.same_pages;
  own = c.in_err-add.ensures.same_own;
  first = c.add.ensures.first;
  size = c.add.ensures.size;
}) c.requires.list

pub returns-in_err-add-clause-fault : goal.returns-in_err-add-clause-fault
returns-in_err-add-clause-fault g c = told_memory g.D.Disk.meaning c.args.store.now c.fill.new.store c.from_residual-in_err-add.result (is_also c.from_residual-in_err-add.result c.in_err-add.field-0.0 out_of_memory c.from_residual-in_err-add.ensures.1 c.in_err-add.ensures.memory) c.in_ok-page.ensures.fault

pub returns-in_err-add-clause-same : goal.returns-in_err-add-clause-same
returns-in_err-add-clause-same g c = on_err c.from_residual-in_err-add.result _ (record {
  pages = c.in_err-add.ensures.same_pages;
  own = c.in_err-add.ensures.same_own;
  first = c.add.ensures.first;
  size = c.add.ensures.size;
})

pub returns-in_err-add-clause-refused : goal.returns-in_err-add-clause-refused
returns-in_err-add-clause-refused g c = λ image tells. err_as c.from_residual-in_err-add.result out_of_memory (RefusesDraw g.D.Disk.meaning c.fill.new.store c.args.store.now.geometry (next_said c.args.self.now) (shown c.args.store.now.dirty image)) (is_also c.from_residual-in_err-add.result c.in_err-add.field-0.0 out_of_memory c.from_residual-in_err-add.ensures.1 c.in_err-add.ensures.memory) tt

pub returns-in-Ok-clause-fault : goal.returns-in-Ok-clause-fault
returns-in-Ok-clause-fault g c = fault_on {T = Unit {0}} g.D.Disk.meaning c.args.store.now c.fill.new.store c.change.new.self (Ok tt) c.in_ok-page.ensures.keeps c.in_ok-page.ensures.fault.2 c.in-Ok.ensures.fault

pub returns-in-Err-clause-fault : goal.returns-in-Err-clause-fault
returns-in-Err-clause-fault g c = fault_on {T = Unit {0}} g.D.Disk.meaning c.args.store.now c.fill.new.store c.change.new.self (Err c.in-Err.fault) c.in_ok-page.ensures.keeps c.in_ok-page.ensures.fault.2 c.in-Err.ensures.fault

pub returns-in-Err-clause-refused : goal.returns-in-Err-clause-refused
returns-in-Err-clause-refused g c = λ image tells. tt

pub returns-in_err-page-clause-list : goal.returns-in_err-page-clause-list
returns-in_err-page-clause-list g c = c.requires.list

pub returns-in_err-page-clause-pool : goal.returns-in_err-page-clause-pool
returns-in_err-page-clause-pool g c = c.fill.ensures.keeps.pool

pub returns-in_err-page-clause-geometry : goal.returns-in_err-page-clause-geometry
returns-in_err-page-clause-geometry g c = c.fill.ensures.keeps.geometry

pub returns-in_err-page-clause-same : goal.returns-in_err-page-clause-same
returns-in_err-page-clause-same g c = on_err c.from_residual.result _ (record {
  pages = refl;
  own = refl;
  first = refl;
  size = refl;
})

pub returns-in_err-page-clause-number : goal.returns-in_err-page-clause-number
returns-in_err-page-clause-number g c = no_answer _ c.from_residual.result c.from_residual.ensures.0

pub returns-in_err-page-clause-adds : goal.returns-in_err-page-clause-adds
returns-in_err-page-clause-adds g c = no_answer _ c.from_residual.result c.from_residual.ensures.0

pub returns-in_err-page-clause-draws : goal.returns-in_err-page-clause-draws
returns-in_err-page-clause-draws g c = no_answer _ c.from_residual.result c.from_residual.ensures.0

pub returns-in_err-add-clause-pool : goal.returns-in_err-add-clause-pool
returns-in_err-add-clause-pool g c = c.fill.ensures.keeps.pool

pub returns-in_err-add-clause-geometry : goal.returns-in_err-add-clause-geometry
returns-in_err-add-clause-geometry g c = c.fill.ensures.keeps.geometry

pub returns-in_err-add-clause-number : goal.returns-in_err-add-clause-number
returns-in_err-add-clause-number g c = no_answer _ c.from_residual-in_err-add.result c.from_residual-in_err-add.ensures.0

pub returns-in_err-add-clause-adds : goal.returns-in_err-add-clause-adds
returns-in_err-add-clause-adds g c = no_answer _ c.from_residual-in_err-add.result c.from_residual-in_err-add.ensures.0

pub returns-in_err-add-clause-draws : goal.returns-in_err-add-clause-draws
returns-in_err-add-clause-draws g c = no_answer _ c.from_residual-in_err-add.result c.from_residual-in_err-add.ensures.0

pub returns-in-Ok-clause-list : goal.returns-in-Ok-clause-list
returns-in-Ok-clause-list g c = adds_list c.args.self.now c.add.new.self c.in_ok-page.page
    c.args.store.now.geometry.size c.next-t.result.0 c.requires.list c.requires.below c.requires.size
    c.next-t.ensures c.in_ok-page.ensures.page c.in_ok-add.ensures.pages c.in_ok-add.ensures.own
    c.add.ensures.first c.add.ensures.size

pub returns-in-Ok-clause-pool : goal.returns-in-Ok-clause-pool
returns-in-Ok-clause-pool g c = c.change.ensures.pool

pub returns-in-Ok-clause-geometry : goal.returns-in-Ok-clause-geometry
returns-in-Ok-clause-geometry g c = c.change.ensures.geometry ∙ c.fill.ensures.keeps.geometry

pub returns-in-Ok-clause-same : goal.returns-in-Ok-clause-same
returns-in-Ok-clause-same g c = tt

pub returns-in-Ok-clause-number : goal.returns-in-Ok-clause-number
returns-in-Ok-clause-number g c = c.next-t.ensures

pub returns-in-Ok-clause-left : goal.returns-in-Ok-clause-left
returns-in-Ok-clause-left g c = tt

pub returns-in-Ok-clause-refused : goal.returns-in-Ok-clause-refused
returns-in-Ok-clause-refused g c = λ image tells. tt

pub returns-in-Err-clause-pool : goal.returns-in-Err-clause-pool
returns-in-Err-clause-pool g c = c.change.ensures.pool

pub returns-in-Err-clause-geometry : goal.returns-in-Err-clause-geometry
returns-in-Err-clause-geometry g c = c.change.ensures.geometry ∙ c.fill.ensures.keeps.geometry

pub returns-in-Err-clause-same : goal.returns-in-Err-clause-same
returns-in-Err-clause-same g c = record {
  pages = pages_back c.args.self.now c.add.new.self c.in_ok-page.page c.len-pages.result
      c.truncate.new.self.items c.in_ok-add.ensures.pages (c.len-pages.ensures ∙ c.args.self.now.pages.ok.0)
      c.truncate.ensures.items;
  own = own_back c.args.self.now.own.items c.add.new.self.own.items c.len-own.result
      c.truncate-in-Err.new.self.items c.in_ok-add.ensures.own (c.len-own.ensures ∙ c.args.self.now.own.ok.0)
      c.truncate-in-Err.ensures.items;
  first = c.add.ensures.first;
  size = c.add.ensures.size;
}

pub returns-in-Err-clause-number : goal.returns-in-Err-clause-number
returns-in-Err-clause-number g c = tt

pub returns-in-Err-clause-adds : goal.returns-in-Err-clause-adds
returns-in-Err-clause-adds g c = tt

pub returns-in-Err-clause-draws : goal.returns-in-Err-clause-draws
returns-in-Err-clause-draws g c = tt

pub fill-requires-clause-pool : goal.fill-requires-clause-pool
fill-requires-clause-pool g c = c.requires.pool

pub fill-requires-clause-geometry : goal.fill-requires-clause-geometry
fill-requires-clause-geometry g c = c.requires.geometry

pub change-requires-clause-pool : goal.change-requires-clause-pool
change-requires-clause-pool g c = c.in_ok-page.ensures.keeps.pool

pub change-requires-clause-lawful : goal.change-requires-clause-lawful
change-requires-clause-lawful g c = subst (λ (x : Geometry). IsLawful x.size c.fill.new.batch.pages c.fill.new.batch.orders)
    (sym c.fill.ensures.keeps.geometry) c.in_ok-page.ensures.lawful

pub change-requires-clause-below : goal.change-requires-clause-below
change-requires-clause-below g c = subst (λ (x : Geometry). AreBelow x.limit c.fill.new.batch.pages)
    (sym c.fill.ensures.keeps.geometry) c.in_ok-page.ensures.below

pub returns-in_err-page-clause-tips : goal.returns-in_err-page-clause-tips
returns-in_err-page-clause-tips g c = λ each. each

pub returns-in_err-add-clause-tips : goal.returns-in_err-add-clause-tips
returns-in_err-add-clause-tips g c = λ each. items_same c.args.store.now.geometry.limit
    c.args.self.now.pages.items _ c.in_err-add.ensures.same_pages each

pub returns-in-Ok-clause-tips : goal.returns-in-Ok-clause-tips
returns-in-Ok-clause-tips g c = λ each. adds_below c.args.self.now c.add.new.self c.in_ok-page.page
    c.args.store.now.geometry.limit c.in_ok-add.ensures.pages c.in_ok-page.ensures.page_below each

pub returns-in-Err-clause-tips : goal.returns-in-Err-clause-tips
returns-in-Err-clause-tips g c = λ each. items_same c.args.store.now.geometry.limit
    c.args.self.now.pages.items _ (pages_back c.args.self.now c.add.new.self c.in_ok-page.page c.len-pages.result
    c.truncate.new.self.items c.in_ok-add.ensures.pages (c.len-pages.ensures ∙ c.args.self.now.pages.ok.0)
    c.truncate.ensures.items) each
