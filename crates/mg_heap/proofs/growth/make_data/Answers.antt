use Rattle.mg_space.specs.HandedLaws.{no_answer}
use Rattle.mg_heap.proofs.PageLemmas.{blank_len, least_long, most_long, data_made}
use Rattle.mg_heap.proofs.HandedLemmas.{on_err}
use Rattle.std.proofs.Common.{refl, arith, length, sym, ◌≡◌}
use Rattle.mg_heap.proofs.growth.make_data.Goals as goal

pub returns-in_err-page-clause-made : goal.returns-in_err-page-clause-made
returns-in_err-page-clause-made g c = no_answer _ c.from_residual.result c.from_residual.ensures.0

pub returns-in_err-page-clause-same : goal.returns-in_err-page-clause-same
returns-in_err-page-clause-same g c = on_err _ c.from_residual.result refl

pub returns-in_err-put-clause-made : goal.returns-in_err-put-clause-made
returns-in_err-put-clause-made g c = no_answer _ c.from_residual-in_err-put.result
    c.from_residual-in_err-put.ensures.0

pub returns-in_err-put-clause-same : goal.returns-in_err-put-clause-same
returns-in_err-put-clause-same g c = on_err _ c.from_residual-in_err-put.result c.in_err-put.ensures.same

pub new_data-requires-clause-least : goal.new_data-requires-clause-least
new_data-requires-clause-least g c = least_long c.deref_mut.result.now c.in_ok-page.page.items
    c.args.store.now.geometry.size c.deref_mut.ensures.value (blank_len c.in_ok-page.page.items
    c.args.store.now.geometry.size c.in_ok-page.ensures) c.requires.size

pub new_data-requires-clause-greatest : goal.new_data-requires-clause-greatest
new_data-requires-clause-greatest g c = most_long c.deref_mut.result.now c.in_ok-page.page.items
    c.args.store.now.geometry.size c.deref_mut.ensures.value (blank_len c.in_ok-page.page.items
    c.args.store.now.geometry.size c.in_ok-page.ensures) c.requires.size

pub returns-clause-made : goal.returns-clause-made
returns-clause-made g c =
    let len : c.in_ok-page.page.len ≡ length c.new_data.new.b =
    omega (arith, c.new_data.ensures.made.len, c.deref_mut.ensures.len) in
    data_made c.args.store.now.geometry.size c.in_ok-page.page.len c.args.batch.now c.put.new.self
    c.in_ok-page.page.items c.deref_mut.result.now c.new_data.new.b c.deref.result.now
    c.deref_mut.ensures.value c.in_ok-page.ensures c.deref.ensures.value c.args.owner.0 c.args.place
    c.args.n.0 _ len (sym c.deref.ensures.value) c.new_data.ensures.made c.in_ok-put.ensures.puts
