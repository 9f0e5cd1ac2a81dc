use Rattle.std.proofs.Common.{◌∙◌, refl, sym, subst, ◌≤◌, ◌/◌, ℕ, length}
use Rattle.mg_btree.proofs.WrittenLemmas.{names_written, sized_of}
use Rattle.mg_btree.proofs.growing.root_with.Goals as goal

pub name_two-requires-clause-sized : goal.name_two-requires-clause-sized
name_two-requires-clause-sized c = sized_of c.deref_mut.result.now c.args.size
    (c.deref_mut.ensures.len ∙ c.in_ok-bytes.ensures.len) c.requires.least c.requires.most

pub name_two-requires-clause-short : goal.name_two-requires-clause-short
name_two-requires-clause-short c = subst (λ (n : ℕ). length c.args.second.now.key ≤ n / 8)
    (sym (c.deref_mut.ensures.len ∙ c.in_ok-bytes.ensures.len)) c.requires.short

pub returns-clause-page : goal.returns-clause-page
returns-clause-page c = refl

pub returns-clause-names : goal.returns-clause-names
returns-clause-names c = names_written c.args.size c.in_ok-bytes.bytes.len c.args.page.0 c.args.owner
    c.args.level c.args.first.now c.args.second.now c.deref_mut.result.now c.name_two.new.b
    c.in_ok-bytes.bytes.items c.new.result c.deref_mut.ensures.len c.in_ok-bytes.ensures.len
    c.new.ensures c.name_two.ensures
