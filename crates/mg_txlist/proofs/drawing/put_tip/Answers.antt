use Rattle.std.proofs.Common.{◌≡◌, ◌≤◌, ◌∙◌, true, ◌/◌, ◌++◌, List, ap, arith, drop, length, subst, sym, ℕ}
use Rattle.mg_base.specs.declared.geometry.Geometry.{Geometry}
use Rattle.mg_image.specs.Inventory.{inventory_page}
use Rattle.mg_pool.specs.Batch.{PutsPage}
use Rattle.mg_space.specs.HandedLaws.{no_answer, out_of_memory, own_as, told_as}
use Rattle.mg_space.specs.Taking.{region_of}
use Rattle.mg_tip.specs.TipPage.{places}
use Rattle.mg_tip.specs.TipPageLaws.{length-new_tip_page}
use Rattle.mg_txlist.specs.Drawing.{last_orders}
use Rattle.mg_base.specs.declared.numbers.PageNo.{PageNo}
use Rattle.mg_space.specs.Taking.{RefusesTake}
use Rattle.mg_space.specs.View.{viewed}
use Rattle.mg_txlist.proofs.HandedLemmas.{own_memory, told_memory}
use Rattle.mg_txlist.proofs.RefusalLemmas.{err_as}
use Rattle.mg_txlist.proofs.DrawLemmas.{orders_made, tip_made, written_back}
use Rattle.mg_base.specs.Geometry.{is_page_size}
use Rattle.mg_space.specs.Taking.{IsGeometry}
use Rattle.mg_space.specs.TakingLaws.{page_sizes}
use Rattle.mg_tip.specs.declared.page.TheConstants.{STATES_AT}
use Rattle.mg_txlist.proofs.drawing.put_tip.Goals as goal

size_made : (g made : Geometry) → IsGeometry g → made ≡ g → is_page_size made.size ≡ true
size_made g made lawful is = subst (λ (x : Geometry). is_page_size x.size ≡ true) (sym is) lawful.size

has_room : (g made : Geometry) (len n : ℕ) → IsGeometry g → made ≡ g → len ≡ made.size → n ≡ len
    → STATES_AT ≤ n
has_room g made len n lawful is len_is n_is =
    let sizes = page_sizes g.size lawful.size in
    let least = sizes.0 in
    let size : made.size ≡ g.size = ap (λ (x : Geometry). x.size) is in
    omega (arith, least, size, len_is, n_is)

pub returns-clause-puts : goal.returns-clause-puts
returns-clause-puts g c =
    let size : c.geometry-size.result.size ≡ c.args.store.now.geometry.size =
    ap (λ (x : Geometry). x.size) c.geometry-size.ensures in
    let made_len : length c.new_tip.new.b ≡ length c.deref_mut.result.now =
    ap (λ (b : List ℕ). length b) c.new_tip.ensures.page
    ∙ length-new_tip_page (length c.deref_mut.result.now) c.in_ok-at.at.0
    (c.args.t.0 / c.places_of.result) c.args.last_tip.0 in
    let len : c.in_ok-bytes.bytes.len ≡ length c.new_tip.new.b =
    omega (arith, made_len, c.deref_mut.ensures.len) in
    let opened : length c.deref_mut.result.now ≡ c.args.store.now.geometry.size =
    omega (arith, c.deref_mut.ensures.len, c.in_ok-bytes.ensures.len, size) in
    let rest : List ℕ = drop (length c.new_tip.new.b) c.in_ok-bytes.bytes.items in
    let kept : c.new.result ≡ c.new_tip.new.b =
    written_back c.in_ok-bytes.bytes.len c.new_tip.new.b rest c.new.result len c.new.ensures in
    let given : c.deref.result.now ≡ c.new_tip.new.b =
    written_back c.in_ok-bytes.bytes.len c.new_tip.new.b rest c.deref.result.now len
    c.deref.ensures.value in record {
      taken = c.take_page.new.batch;
      inventory = c.in_ok-at.ensures.puts;
      takes = c.in_ok-at.ensures.takes;
      bytes_are = tip_made c.args.store.now.geometry.size c.args.t.0 c.in_ok-at.at.0
          c.args.last_tip.0 c.places_of.result c.deref_mut.result.now c.new_tip.new.b c.new.result
          opened (c.places_of.ensures ∙ ap places size) c.new_tip.ensures.page kept;
      put = c.put.new.self;
      puts = subst (λ (b : List ℕ). PutsPage c.take_page.new.batch c.put.new.self c.in_ok-at.at.0 b)
          (given ∙ sym kept) c.in_ok-put.ensures.puts;
      pages = c.in_ok-order_last.ensures.pages ∙ (c.in_ok-order-2.ensures.pages ∙ c.in_ok-order.ensures.pages);
      orders = orders_made c.args.store.now.geometry.size c.in_ok-at.at.0
          c.inventory_page_of.result.0 c.args.last_tip.0 c.args.batch.now.orders
          c.take_page.new.batch.orders c.put.new.self.orders c.order.new.self.orders
          c.order-2.new.self.orders c.order_last.new.batch.orders
          c.in_ok-at.ensures.puts.puts.same_orders c.in_ok-put.ensures.puts.same_orders
          c.in_ok-order.ensures.orders c.in_ok-order-2.ensures.orders
          (c.inventory_page_of.ensures
          ∙ ap (λ (n : ℕ). inventory_page n (region_of n c.in_ok-at.at.0)) size)
          (c.in_ok-order_last.ensures.orders
          ∙ ap (λ (n : ℕ). c.order-2.new.self.orders ++ last_orders n c.in_ok-at.at.0 c.args.last_tip.0) size);
    }

pub returns-in_err-at-clause-keeps : goal.returns-in_err-at-clause-keeps
returns-in_err-at-clause-keeps g c = c.take_page.ensures.keeps

pub returns-in_err-at-clause-fault : goal.returns-in_err-at-clause-fault
returns-in_err-at-clause-fault g c = told_as PageNo g.D.Disk.meaning c.args.store.now c.take_page.new.store c.from_residual.result c.in_err-at.field-0.0 c.from_residual.ensures.1 c.in_err-at.ensures.fault

pub returns-in_err-at-clause-own : goal.returns-in_err-at-clause-own
returns-in_err-at-clause-own g c = own_as PageNo c.from_residual.result c.in_err-at.field-0.0 c.from_residual.ensures.1 c.in_err-at.ensures.own

pub returns-in_err-bytes-clause-keeps : goal.returns-in_err-bytes-clause-keeps
returns-in_err-bytes-clause-keeps g c = c.take_page.ensures.keeps

pub returns-in_err-bytes-clause-fault : goal.returns-in_err-bytes-clause-fault
returns-in_err-bytes-clause-fault g c = told_memory g.D.Disk.meaning c.args.store.now c.take_page.new.store c.from_residual-in_err-bytes.result c.from_residual-in_err-bytes.ensures.1 c.in_ok-at.ensures.fault

pub returns-in_err-bytes-clause-own : goal.returns-in_err-bytes-clause-own
returns-in_err-bytes-clause-own g c = own_memory c.from_residual-in_err-bytes.result c.from_residual-in_err-bytes.ensures.1

pub returns-in_err-bytes-clause-refused : goal.returns-in_err-bytes-clause-refused
returns-in_err-bytes-clause-refused g c = λ image tells. err_as c.from_residual-in_err-bytes.result out_of_memory (RefusesTake c.args.store.now.geometry (viewed c.args.store.now image c.args.batch.now)) c.from_residual-in_err-bytes.ensures.1 tt

pub returns-in_err-put-clause-keeps : goal.returns-in_err-put-clause-keeps
returns-in_err-put-clause-keeps g c = c.take_page.ensures.keeps

pub returns-in_err-put-clause-fault : goal.returns-in_err-put-clause-fault
returns-in_err-put-clause-fault g c = told_memory g.D.Disk.meaning c.args.store.now c.take_page.new.store c.from_residual-in_err-put.result c.from_residual-in_err-put.ensures.1 c.in_ok-at.ensures.fault

pub returns-in_err-put-clause-own : goal.returns-in_err-put-clause-own
returns-in_err-put-clause-own g c = own_memory c.from_residual-in_err-put.result c.from_residual-in_err-put.ensures.1

pub returns-in_err-put-clause-refused : goal.returns-in_err-put-clause-refused
returns-in_err-put-clause-refused g c = λ image tells. err_as c.from_residual-in_err-put.result out_of_memory (RefusesTake c.args.store.now.geometry (viewed c.args.store.now image c.args.batch.now)) c.from_residual-in_err-put.ensures.1 tt

pub returns-in_err-order-clause-keeps : goal.returns-in_err-order-clause-keeps
returns-in_err-order-clause-keeps g c = c.take_page.ensures.keeps

pub returns-in_err-order-clause-fault : goal.returns-in_err-order-clause-fault
returns-in_err-order-clause-fault g c = told_memory g.D.Disk.meaning c.args.store.now c.take_page.new.store c.from_residual-in_err-order.result c.from_residual-in_err-order.ensures.1 c.in_ok-at.ensures.fault

pub returns-in_err-order-clause-own : goal.returns-in_err-order-clause-own
returns-in_err-order-clause-own g c = own_memory c.from_residual-in_err-order.result c.from_residual-in_err-order.ensures.1

pub returns-in_err-order-clause-refused : goal.returns-in_err-order-clause-refused
returns-in_err-order-clause-refused g c = λ image tells. err_as c.from_residual-in_err-order.result out_of_memory (RefusesTake c.args.store.now.geometry (viewed c.args.store.now image c.args.batch.now)) c.from_residual-in_err-order.ensures.1 tt

pub returns-in_err-order-2-clause-keeps : goal.returns-in_err-order-2-clause-keeps
returns-in_err-order-2-clause-keeps g c = c.take_page.ensures.keeps

pub returns-in_err-order-2-clause-fault : goal.returns-in_err-order-2-clause-fault
returns-in_err-order-2-clause-fault g c = told_memory g.D.Disk.meaning c.args.store.now c.take_page.new.store c.from_residual-in_err-order-2.result c.from_residual-in_err-order-2.ensures.1 c.in_ok-at.ensures.fault

pub returns-in_err-order-2-clause-own : goal.returns-in_err-order-2-clause-own
returns-in_err-order-2-clause-own g c = own_memory c.from_residual-in_err-order-2.result c.from_residual-in_err-order-2.ensures.1

pub returns-in_err-order-2-clause-refused : goal.returns-in_err-order-2-clause-refused
returns-in_err-order-2-clause-refused g c = λ image tells. err_as c.from_residual-in_err-order-2.result out_of_memory (RefusesTake c.args.store.now.geometry (viewed c.args.store.now image c.args.batch.now)) c.from_residual-in_err-order-2.ensures.1 tt

pub returns-in_err-order_last-clause-keeps : goal.returns-in_err-order_last-clause-keeps
returns-in_err-order_last-clause-keeps g c = c.take_page.ensures.keeps

pub returns-in_err-order_last-clause-fault : goal.returns-in_err-order_last-clause-fault
returns-in_err-order_last-clause-fault g c = told_memory g.D.Disk.meaning c.args.store.now c.take_page.new.store c.from_residual-in_err-order_last.result c.from_residual-in_err-order_last.ensures.1 c.in_ok-at.ensures.fault

pub returns-in_err-order_last-clause-own : goal.returns-in_err-order_last-clause-own
returns-in_err-order_last-clause-own g c = own_memory c.from_residual-in_err-order_last.result c.from_residual-in_err-order_last.ensures.1

pub returns-in_err-order_last-clause-refused : goal.returns-in_err-order_last-clause-refused
returns-in_err-order_last-clause-refused g c = λ image tells. err_as c.from_residual-in_err-order_last.result out_of_memory (RefusesTake c.args.store.now.geometry (viewed c.args.store.now image c.args.batch.now)) c.from_residual-in_err-order_last.ensures.1 tt

pub returns-clause-keeps : goal.returns-clause-keeps
returns-clause-keeps g c = c.take_page.ensures.keeps

pub returns-clause-fault : goal.returns-clause-fault
returns-clause-fault g c = c.in_ok-at.ensures.fault

pub returns-clause-own : goal.returns-clause-own
returns-clause-own g c = tt

pub returns-clause-refused : goal.returns-clause-refused
returns-clause-refused g c = λ image tells. tt

pub returns-in_err-at-clause-puts : goal.returns-in_err-at-clause-puts
returns-in_err-at-clause-puts g c = no_answer _ c.from_residual.result c.from_residual.ensures.0

pub returns-in_err-bytes-clause-puts : goal.returns-in_err-bytes-clause-puts
returns-in_err-bytes-clause-puts g c = no_answer _ c.from_residual-in_err-bytes.result c.from_residual-in_err-bytes.ensures.0

pub returns-in_err-put-clause-puts : goal.returns-in_err-put-clause-puts
returns-in_err-put-clause-puts g c = no_answer _ c.from_residual-in_err-put.result c.from_residual-in_err-put.ensures.0

pub returns-in_err-order-clause-puts : goal.returns-in_err-order-clause-puts
returns-in_err-order-clause-puts g c = no_answer _ c.from_residual-in_err-order.result c.from_residual-in_err-order.ensures.0

pub returns-in_err-order-2-clause-puts : goal.returns-in_err-order-2-clause-puts
returns-in_err-order-2-clause-puts g c = no_answer _ c.from_residual-in_err-order-2.result c.from_residual-in_err-order-2.ensures.0

pub returns-in_err-order_last-clause-puts : goal.returns-in_err-order_last-clause-puts
returns-in_err-order_last-clause-puts g c = no_answer _ c.from_residual-in_err-order_last.result c.from_residual-in_err-order_last.ensures.0

pub returns-in_err-at-clause-refused : goal.returns-in_err-at-clause-refused
returns-in_err-at-clause-refused g c = λ image tells. err_as c.from_residual.result c.in_err-at.field-0.0
    (RefusesTake c.args.store.now.geometry (viewed c.args.store.now image c.args.batch.now))
    c.from_residual.ensures.1 (c.in_err-at.ensures.takes image tells)

pub take_page-requires-clause-pool : goal.take_page-requires-clause-pool
take_page-requires-clause-pool g c = c.requires.pool

pub take_page-requires-clause-geometry : goal.take_page-requires-clause-geometry
take_page-requires-clause-geometry g c = c.requires.geometry

pub take_page-requires-clause-whole : goal.take_page-requires-clause-whole
take_page-requires-clause-whole g c = c.requires.whole

pub new_tip-requires : goal.new_tip-requires
new_tip-requires g c = has_room c.args.store.now.geometry c.geometry-size.result c.in_ok-bytes.bytes.len
    (length c.deref_mut.result.now) c.requires.geometry c.geometry-size.ensures c.in_ok-bytes.ensures.len
    c.deref_mut.ensures.len

pub places_of-requires : goal.places_of-requires
places_of-requires g c = size_made c.args.store.now.geometry c.geometry-size.result c.requires.geometry
    c.geometry-size.ensures

pub inventory_page_of-requires-clause-size : goal.inventory_page_of-requires-clause-size
inventory_page_of-requires-clause-size g c = size_made c.args.store.now.geometry c.geometry-size.result
    c.requires.geometry c.geometry-size.ensures

pub order_last-requires : goal.order_last-requires
order_last-requires g c = record {
  size = size_made c.args.store.now.geometry c.geometry-size.result c.requires.geometry
      c.geometry-size.ensures;
}
