use Rattle.std.proofs.Common.{rules, ◌≡◌, ℕ, List, [], sym, refl, ap, subst, ◌∙◌, arith}
use Rattle.atomic_table.specs.Table.{Me, opening}
use Rattle.mg_turn.specs.declared.rule.Slot.{Slot}
use Rattle.mg_turn.specs.Keeping.{Kept}
use Rattle.mg_turn.specs.declared.rule.View.{View}
use Rattle.mg_turn.specs.Promises.{IsAtRest}
use Rattle.mg_turn.specs.Views.{named, newcomer}
use Rattle.mg_turn.proofs.Seats.{starts}
use Rattle.mg_turn.proofs.turn.new.Goals as goal

pub new-requires : goal.new-requires
new-requires g c = let ok = c.in-Ok-laid.ensures.ok in
    let ws : List ℕ = c.as_slice.result.now in
    subst (λ (l : List (Slot g.row.V.Denot g.row.V-Call.Denot g.row.V-Reply.Denot)). Kept g.V.Served.answers g.V.Served.ends c.of.result.value c.from.result (opening ws l (newcomer c.of.result.value c.from.result))) (sym ok.1)
    (starts g.V.Served.answers g.V.Served.ends c.of.result.value c.from.result ok.0 ws (c.as_slice.ensures.value ∙ c.in-Ok.ensures.items_if_clones_equal (λ y e. e)) (ok.2 ∙ sym c.of.ensures))

pub returns-in-Ok-new-clause-ok : goal.returns-in-Ok-new-clause-ok
returns-in-Ok-new-clause-ok g c =
    let ok = c.in-Ok-new.ensures.ok in
    let name = c.give_name.ensures.named in
    let W : Type 0 = View g.row.V.Denot g.row.V-Call.Denot g.row.V-Reply.Denot in
    let M : Type 0 = Me (Slot g.row.V.Denot g.row.V-Call.Denot g.row.V-Reply.Denot) W in
    let first_is : c.from.result ≡ c.args.first = search rules in
    let value_is : c.of.result.value ≡ c.args.value = c.of.ensures in
    let seat_is : c.in-Ok-new.seat.me ≡ (newcomer c.args.value c.args.first, []) = ok.4 ∙ (λ i. (newcomer (value_is i) (first_is i), [])) in
    let is : c.give_name.new.seat.me ≡ (named name.0 (newcomer c.args.value c.args.first), []) = name.2 ∙ ap (λ (m : M). (named name.0 m.0, m.1)) seat_is in
    let view_is = ap (λ (m : M). m.0) is in (
      (
        c.give_name.ensures.same.0 ∙ ok.2,
        ap (λ (m : M). m.1) is,
        ap (λ (m : M). m.0.start) is,
        subst (λ (v : W). IsAtRest v) (sym view_is) record { live = omega arith; named = name.1; idle = refl },
      ),
      refl,
      (name.0, view_is),
    )
