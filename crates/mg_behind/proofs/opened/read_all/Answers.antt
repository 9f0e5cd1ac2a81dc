use Rattle.std.proofs.Common.{◌≡◌, ◌<◌, length, sym, ap, ◌∙◌, arith}
use Rattle.mg_base.specs.Image.{page_at}
use Rattle.mg_behind.specs.Mirror.{shown}
use Rattle.mg_behind.proofs.Mirrors.{read_more, stays_some, ok_gives, take_whole, slice_read}
use Rattle.mg_behind.proofs.opened.read_all.Goals as goal

pub loop-page-preserved : goal.loop-page-preserved
loop-page-preserved g c =
    let i = c.loop-page.invariant in
    let calm = c.read.ensures.calm in
    let good = sym c.is_err.ensures.value ∙ c.if-is_err.false in
    let long : length c.read.new.into ≡ c.loop-page.buffer.len = let a = c.read.auto.into in let b = c.as_mut_slice.ensures.len in omega arith in
    let same : c.loop-page.buffer.len ≡ c.in-Ok.size = let o = c.loop-page.buffer.ok in o.0 ∙ i.6 in
    let bytes : c.as_slice.result.now ≡ c.read.new.into = c.as_slice.ensures.value ∙ slice_read c.loop-page.buffer.len c.read.new.into c.loop-page.buffer.items long in
    let size : length c.as_slice.result.now ≡ c.in-Ok.size = ap length bytes ∙ (long ∙ same) in (
      stays_some _ _ _ calm.keeps.size i.0,
      stays_some _ _ _ calm.count i.1,
      calm.held ∙ i.2,
      ok_gives _ c.read.result good calm.keeps.steady ∙ i.3,
      c.put.ensures.size ∙ i.4,
      (let u = c.put.ensures.used in let v = i.5 in omega arith),
      ap length (sym c.as_slice.ensures.value) ∙ size,
      (λ image h.
          let before = sym calm.held ∙ h in
          let many = g.met.D.Disk.counted c.loop-page.device image c.in-Ok-pages.pages before i.1 in
          let there = ok_gives _ c.read.result good c.read.ensures.page image before in
          let below : c.loop-page.page < length image = let t = c.loop-page-test.true in omega arith in
          c.put.ensures.written ∙ read_more (length c.as_slice.result.now) image (shown c.loop-page.mirror) c.loop-page.page c.as_slice.result.now (i.7 image before) below (bytes ∙ (there ∙ ap (λ n. page_at n image c.loop-page.page) (c.as_mut_slice.ensures.len ∙ sym (ap length bytes ∙ long))))),
      calm.keeps.tells ∙ i.8,
      calm.asked ∙ i.9,
    )

pub returns-clause-read : goal.returns-clause-read
returns-clause-read g c = λ image h.
    let i = c.loop-page.invariant in
    let many = g.met.D.Disk.counted c.loop-page.device image c.in-Ok-pages.pages h i.1 in
    i.7 image h ∙ take_whole image c.loop-page.page (let e = c.loop-page.auto.page-end in let t = c.loop-page-test.false in omega arith)
