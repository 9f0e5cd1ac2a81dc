use Rattle.std.proofs.Common.{◌≡◌, ◌<◌, ◌∙◌, sym, ap, subst, length, arith, ℕ, get_or, List}
use Rattle.std.proofs.lemmas.List.{get_or_read}
use Rattle.mg_pool.specs.declared.batch.BatchPage.{BatchPage}
use Rattle.mg_base.specs.declared.geometry.Geometry.{Geometry}
use Rattle.mg_careful.specs.Graph.{EntersPage}
use Rattle.mg_pool.specs.Dirty.{PutsContent}
use Rattle.mg_pool.proofs.BatchLemmas.{content_at, no_page}
use Rattle.mg_pool.proofs.ChangeLemmas.{puts_more, fits_more}
use Rattle.mg_pool.proofs.pool.Pool.put_pages.Goals as goal

pub put_page-requires-clause-whole : goal.put_page-requires-clause-whole
put_page-requires-clause-whole g c =
    let inside : c.loop-place.place < length c.args.pages.now.items = omega arith in
    let read : c.index-in-loop-place.result.now ≡ get_or c.args.pages.now.items c.loop-place.place no_page = get_or_read c.args.pages.now.items c.loop-place.place c.index-in-loop-place.result.now inside c.index-in-loop-place.ensures no_page in
    let whole = c.requires.whole (get_or c.args.pages.now.items c.loop-place.place no_page).page (get_or c.args.pages.now.items c.loop-place.place no_page).bytes (content_at c.args.pages.now.items c.loop-place.place no_page c.requires.once inside) in
    ap length c.as_slice.ensures ∙ (ap (λ (x : BatchPage). length x.bytes) read ∙ (whole ∙ sym (ap (λ (x : Geometry). x.size) c.loop-place.invariant.puts.geometry)))

pub put_page-requires-clause-below : goal.put_page-requires-clause-below
put_page-requires-clause-below g c =
    let inside : c.loop-place.place < length c.args.pages.now.items = omega arith in
    let read : c.index.result.now ≡ get_or c.args.pages.now.items c.loop-place.place no_page = get_or_read c.args.pages.now.items c.loop-place.place c.index.result.now inside c.index.ensures no_page in
    let below = c.requires.below (get_or c.args.pages.now.items c.loop-place.place no_page).page (get_or c.args.pages.now.items c.loop-place.place no_page).bytes (content_at c.args.pages.now.items c.loop-place.place no_page c.requires.once inside) in
    subst (λ (x : Geometry). c.index.result.now.page < x.limit) (sym c.loop-place.invariant.puts.geometry)
    (subst (λ (x : BatchPage). x.page < c.args.self.now.geometry.limit) (sym read) below)

pub loop-place-preserved : goal.loop-place-preserved
loop-place-preserved g c =
    let inside : c.loop-place.place < length c.args.pages.now.items = omega arith in
    let page_read : c.index.result.now ≡ get_or c.args.pages.now.items c.loop-place.place no_page = get_or_read c.args.pages.now.items c.loop-place.place c.index.result.now inside c.index.ensures no_page in
    let bytes_read : c.index-in-loop-place.result.now ≡ get_or c.args.pages.now.items c.loop-place.place no_page = get_or_read c.args.pages.now.items c.loop-place.place c.index-in-loop-place.result.now inside c.index-in-loop-place.ensures no_page in
    let is_bytes : c.as_slice.result.now ≡ (get_or c.args.pages.now.items c.loop-place.place no_page).bytes = c.as_slice.ensures ∙ ap (λ (x : BatchPage). x.bytes) bytes_read in
    let content = subst (λ (b : List ℕ). PutsContent c.loop-place.self.dirty c.put_page.new.self.dirty (get_or c.args.pages.now.items c.loop-place.place no_page).page b) is_bytes (subst (λ (x : BatchPage). PutsContent c.loop-place.self.dirty c.put_page.new.self.dirty x.page c.as_slice.result.now) page_read c.put_page.ensures.content) in
    let entered = subst (λ (x : BatchPage). EntersPage c.loop-place.self.graph c.put_page.new.self.graph x.page) page_read c.put_page.ensures.entered in
    record {
      puts = puts_more g.D.Disk.meaning c.args.self.now c.loop-place.self c.put_page.new.self c.args.pages.now.items c.loop-place.place c.requires.once inside c.loop-place.invariant.puts c.put_page.ensures.pool content entered c.put_page.ensures.same;
      fits = fits_more c.loop-place.self.dirty c.put_page.new.self.dirty c.args.pages.now.items c.loop-place.place c.requires.once inside content c.loop-place.invariant.fits;
    }
