use Rattle.mg_heap.proofs.PageLemmas.{blank_len, least_long, most_long, pointer_made}
use Rattle.mg_heap.proofs.HandedLemmas.{no_answer_on, on_err}
use Rattle.std.proofs.Common.{refl, arith, length, ◌≡◌}
use Rattle.mg_heap.proofs.growth.make_pointer.Goals as goal

pub returns-in_err-page-clause-made : goal.returns-in_err-page-clause-made
returns-in_err-page-clause-made g c = no_answer_on _ c.from_residual.result c.from_residual.ensures.0

pub returns-in_err-page-clause-same : goal.returns-in_err-page-clause-same
returns-in_err-page-clause-same g c = on_err _ c.from_residual.result refl

pub returns-in_err-put-clause-made : goal.returns-in_err-put-clause-made
returns-in_err-put-clause-made g c = no_answer_on _ c.from_residual-in_err-put.result
    c.from_residual-in_err-put.ensures.0

pub returns-in_err-put-clause-same : goal.returns-in_err-put-clause-same
returns-in_err-put-clause-same g c = on_err _ c.from_residual-in_err-put.result c.in_err-put.ensures.same

pub start_pointer-requires-clause-least : goal.start_pointer-requires-clause-least
start_pointer-requires-clause-least g c = least_long c.deref_mut.result.now c.in_ok-page.page.items
    c.args.store.now.geometry.size c.deref_mut.ensures.value (blank_len c.in_ok-page.page.items
    c.args.store.now.geometry.size c.in_ok-page.ensures) c.requires.size

pub start_pointer-requires-clause-most : goal.start_pointer-requires-clause-most
start_pointer-requires-clause-most g c = most_long c.deref_mut.result.now c.in_ok-page.page.items
    c.args.store.now.geometry.size c.deref_mut.ensures.value (blank_len c.in_ok-page.page.items
    c.args.store.now.geometry.size c.in_ok-page.ensures) c.requires.size

pub returns-clause-made : goal.returns-clause-made
returns-clause-made g c =
    let len : c.in_ok-page.page.len ≡ length c.deref_mut.result.now =
    omega (arith, c.deref_mut.ensures.len) in
    pointer_made c.args.store.now.geometry.size c.in_ok-page.page.len c.args.batch.now c.put.new.self
    c.in_ok-page.page.items c.deref_mut.result.now c.start_pointer.new.b c.deref.result.now
    c.deref_mut.ensures.value c.in_ok-page.ensures c.deref.ensures.value c.args.owner.0 c.args.at
    c.args.p.0 c.args.n.0 len c.start_pointer.ensures c.in_ok-put.ensures.puts
