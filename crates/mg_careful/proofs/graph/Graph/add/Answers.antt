use Rattle.std.proofs.Common.{◌≡◌, ◌∙◌, length, rules, sym, true}
use Rattle.mg_careful.specs.Precedence.{Precedes}
use Rattle.mg_careful.specs.Graph.{is_ordered}
use Rattle.mg_careful.proofs.PlaceLemmas.{graph, at_entered, link_is}
use Rattle.mg_careful.proofs.GraphLemmas.{add_again, add_kept, add_changes, square_of}
use Rattle.mg_careful.proofs.ReadLemmas.{acyclic_told}
use Rattle.mg_careful.proofs.graph.Graph.add.Goals as goal

pub place_of-from-requires : goal.place_of-from-requires
place_of-from-requires c = at_entered c.self.inside.pages.items c.self.inside.before.items c.args.first (rw c.self.view_is c.requires.first)

pub place_of-to-requires : goal.place_of-to-requires
place_of-to-requires c = at_entered c.self.inside.pages.items c.self.inside.before.items c.args.later (rw c.self.view_is c.requires.later)

pub invariant_of-self : goal.invariant_of-self
invariant_of-self c =
    let size_is : c.len-size.result ≡ length c.self.inside.pages.items = search rules in
    let no_way : Precedes (is_ordered (graph c.self.inside.pages.items c.self.inside.before.items)) c.args.later c.args.first → ⊥ = rw c.self.view_is c.requires.no_cycle in
    add_kept _ _ _ _ c.self.invariant c.args.first c.args.later c.place_of-from.result c.place_of-to.result c.place_of-from.ensures.there c.place_of-to.ensures.there c.requires.apart no_way
    c.set_bit.new.rows.items (square_of size_is c.set_bit.ensures.square) c.set_bit.ensures.bits
    c.close.new.after.items c.close.new.row (square_of size_is c.close.ensures.square) (c.close.ensures.row ∙ size_is) c.close.ensures.bits

pub returns-clause-adds : goal.returns-clause-adds
returns-clause-adds c =
    let size_is : c.len-size.result ≡ length c.self.inside.pages.items = search rules in
    let no_way : Precedes (is_ordered (graph c.self.inside.pages.items c.self.inside.before.items)) c.args.later c.args.first → ⊥ = rw c.self.view_is c.requires.no_cycle in
    rw (← c.self.view_is) (add_changes _ _ _ _ c.self.invariant c.args.first c.args.later c.place_of-from.result c.place_of-to.result c.place_of-from.ensures.there c.place_of-to.ensures.there c.requires.apart no_way
    c.set_bit.new.rows.items (square_of size_is c.set_bit.ensures.square) c.set_bit.ensures.bits)

pub returns-clause-acyclic : goal.returns-clause-acyclic
returns-clause-acyclic c =
    let size_is : c.len-size.result ≡ length c.self.inside.pages.items = search rules in
    let no_way : Precedes (is_ordered (graph c.self.inside.pages.items c.self.inside.before.items)) c.args.later c.args.first → ⊥ = rw c.self.view_is c.requires.no_cycle in
    acyclic_told c.self.inside.pages.items c.set_bit.new.rows.items c.close.new.after.items c.close.new.row
    (add_kept _ _ _ _ c.self.invariant c.args.first c.args.later c.place_of-from.result c.place_of-to.result c.place_of-from.ensures.there c.place_of-to.ensures.there c.requires.apart no_way
    c.set_bit.new.rows.items (square_of size_is c.set_bit.ensures.square) c.set_bit.ensures.bits
    c.close.new.after.items c.close.new.row (square_of size_is c.close.ensures.square) (c.close.ensures.row ∙ size_is) c.close.ensures.bits)

pub returns-then-is_set-clause-adds : goal.returns-then-is_set-clause-adds
returns-then-is_set-clause-adds c =
    let there : is_ordered (graph c.self.inside.pages.items c.self.inside.before.items) c.args.first c.args.later ≡ true = link_is c.self.inside.pages.items c.self.inside.before.items c.self.invariant.once c.args.first c.args.later (record { from = c.place_of-from.result; to = c.place_of-to.result; at_from = c.place_of-from.ensures.there; at_to = c.place_of-to.ensures.there; linked = sym c.is_set.ensures ∙ c.if-is_set.true }) in
    rw (← c.self.view_is) (add_again (graph c.self.inside.pages.items c.self.inside.before.items) c.args.first c.args.later there)

pub returns-then-is_set-clause-acyclic : goal.returns-then-is_set-clause-acyclic
returns-then-is_set-clause-acyclic c =
    rw (← c.self.view_is) (acyclic_told c.self.inside.pages.items c.self.inside.before.items c.self.inside.after.items c.self.inside.row c.self.invariant)
