use Rattle.std.proofs.Common.{arith, sym, ap, ◌∙◌, ℕ, refl}
use Rattle.std.proofs.lemmas.Bool.{false≢true}
use Rattle.mg_node.specs.NodePage.{entry_at, is_inner}
use Rattle.mg_node_writing.proofs.InsertLemmas.{removed}
use Rattle.mg_node_writing.proofs.SeatLemmas.{entry_ends, found_at, is_there, not_there, other_child, other_children, place_behind, same_child, seated, untold}
use Rattle.mg_node_writing.proofs.removing.remove.Goals as goal

pub returns-then-not-stands_at-clause-when : goal.returns-then-not-stands_at-clause-when
returns-then-not-stands_at-clause-when c = (
  λ is. absurd (false≢true is),
  λ has. absurd (not_there c.args.b.now c.args.e.now c.seat-n.result c.requires.lawful
      (seated c.args.b.now c.args.e.now c.seat-n.result c.seat-n.ensures
      (untold c.stands_at.result c.stands_at.ensures.1 c.if-not-stands_at.true)) has),
)

pub child-requires-clause-inside : goal.child-requires-clause-inside
child-requires-clause-inside c =
    let stands = c.stands_at.ensures.0 c.if-not-stands_at.false in
    let ends = entry_ends c.args.b.now c.seat-n.result c.place-at.result c.requires.lawful
    c.place-at.ensures.is stands.there in
    let inside = c.requires.lawful.inside in omega (arith, ends, inside)

pub returns-then-ne-clause-when : goal.returns-then-ne-clause-when
returns-then-ne-clause-when c =
    let b = c.args.b.now in
    let stands = c.stands_at.ensures.0 c.if-not-stands_at.false in
    let differs = other_children c.child.result c.args.e.now.child (sym c.ne.ensures ∙ c.if-ne.true) in (
      λ is. absurd (false≢true is),
      λ has. absurd (other_child b c.args.e.now c.seat-n.result c.requires.lawful c.seat-n.ensures stands
          (λ same. differs (c.child.ensures ∙
          (ap (λ (x : ℕ). (entry_at (is_inner b) b x).child) c.place-at.ensures.is ∙ same))) has),
    )

pub close_at-requires-clause-front : goal.close_at-requires-clause-front
close_at-requires-clause-front c =
    let behind = place_behind c.args.b.now c.seat-n.result in
    let is = c.place-at.ensures.is in omega (arith, behind, is)

pub close_at-requires-clause-back : goal.close_at-requires-clause-back
close_at-requires-clause-back c =
    let stands = c.stands_at.ensures.0 c.if-not-stands_at.false in
    entry_ends c.args.b.now c.seat-n.result c.place-at.result c.requires.lawful
    c.place-at.ensures.is stands.there

pub returns-clause-when : goal.returns-clause-when
returns-clause-when c =
    let b = c.args.b.now in
    let stands = c.stands_at.ensures.0 c.if-not-stands_at.false in
    let child = same_child c.child.result c.args.e.now.child (sym c.ne.ensures ∙ c.if-ne.false) in
    let here = found_at b c.args.e.now c.seat-n.result c.place-at.result stands c.place-at.ensures.is
    (sym c.child.ensures ∙ child) in (
      λ t. is_there b c.args.e.now c.seat-n.result stands.there
          (ap (λ (x : ℕ). entry_at (is_inner b) b x) (sym c.place-at.ensures.is) ∙ here),
      λ has. refl,
    )

pub returns-clause-removes : goal.returns-clause-removes
returns-clause-removes c = λ t.
    let b = c.args.b.now in
    let stands = c.stands_at.ensures.0 c.if-not-stands_at.false in
    let child = same_child c.child.result c.args.e.now.child (sym c.ne.ensures ∙ c.if-ne.false) in
    let here = found_at b c.args.e.now c.seat-n.result c.place-at.result stands c.place-at.ensures.is
    (sym c.child.ensures ∙ child) in
    (removed b c.close_at.new.b c.place-at.result c.seat-n.result c.args.e.now c.requires.lawful
    stands.there c.place-at.ensures.is here c.close_at.ensures).removes

pub returns-clause-lawful : goal.returns-clause-lawful
returns-clause-lawful c =
    let b = c.args.b.now in
    let stands = c.stands_at.ensures.0 c.if-not-stands_at.false in
    let child = same_child c.child.result c.args.e.now.child (sym c.ne.ensures ∙ c.if-ne.false) in
    let here = found_at b c.args.e.now c.seat-n.result c.place-at.result stands c.place-at.ensures.is
    (sym c.child.ensures ∙ child) in
    (removed b c.close_at.new.b c.place-at.result c.seat-n.result c.args.e.now c.requires.lawful
    stands.there c.place-at.ensures.is here c.close_at.ensures).lawful

pub returns-clause-keeps : goal.returns-clause-keeps
returns-clause-keeps c =
    let b = c.args.b.now in
    let stands = c.stands_at.ensures.0 c.if-not-stands_at.false in
    let child = same_child c.child.result c.args.e.now.child (sym c.ne.ensures ∙ c.if-ne.false) in
    let here = found_at b c.args.e.now c.seat-n.result c.place-at.result stands c.place-at.ensures.is
    (sym c.child.ensures ∙ child) in
    (removed b c.close_at.new.b c.place-at.result c.seat-n.result c.args.e.now c.requires.lawful
    stands.there c.place-at.ensures.is here c.close_at.ensures).removes.keeps
