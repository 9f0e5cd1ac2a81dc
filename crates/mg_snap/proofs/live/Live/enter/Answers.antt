use Rattle.std.proofs.Common.{ℕ, ◌∷◌, ◌++◌, [], List, Some, ap, ◌∙◌}
use Rattle.mg_snap.specs.Live.{State, after_enter}
use Rattle.mg_snap.specs.LiveLaws.{base_after_enter}
use Rattle.mg_snap.specs.Room.{Roomy, Stored}
use Rattle.mg_snap.proofs.RoomLemmas.{entered_state, entered_table, table_wider}
use Rattle.mg_snap.proofs.live.Live.enter.Goals as goal

pub invariant_of-self : goal.invariant_of-self
invariant_of-self c =
    table_wider _ _ _ _ c.self.invariant c.widen.ensures.same c.widen.ensures.never_narrower

pub invariant_of-self-in_err-push : goal.invariant_of-self-in_err-push
invariant_of-self-in_err-push c = rw c.in_err-push.ensures.items
    (table_wider _ _ _ _ c.self.invariant c.widen.ensures.same c.widen.ensures.never_narrower)

pub invariant_of-self-2 : goal.invariant_of-self-2
invariant_of-self-2 c =
    let numbers = c.in_ok-numbers.ensures ∙ ap (λ (ns : List ℕ). ns ++ c.args.t.0 ∷ []) c.deref.ensures.value in
    let unended = c.in_ok-unended.ensures ∙ ap (λ (ns : List ℕ). ns ++ c.args.t.0 ∷ []) c.deref-2.ensures.value in
    let entry = c.new-entry.ensures
    ∙ ap (λ (b : Roomy). record { number = c.args.t.0; base = Some b }) c.new.ensures in
    let made = c.in_ok-push.ensures.items
    ∙ ap (λ (e : Stored). c.widen.new.entries.items ++ e ∷ []) entry in
    entered_table c.self.inside.next c.max-next.result c.args.t.0 c.self.inside.numbers.items
    c.in_ok-numbers.numbers.items c.in_ok-unended.unended.items c.self.inside.entries.items
    c.widen.new.entries.items c.push.new.self.items c.self.invariant c.widen.ensures.same
    c.in_ok-widen.ensures.wider c.max-next.ensures numbers unended made

pub returns-clause-base : goal.returns-clause-base
returns-clause-base c =
    let unended = c.in_ok-unended.ensures ∙ ap (λ (ns : List ℕ). ns ++ c.args.t.0 ∷ []) c.deref-2.ensures.value in
    let entry = c.new-entry.ensures
    ∙ ap (λ (b : Roomy). record { number = c.args.t.0; base = Some b }) c.new.ensures in
    let made = c.in_ok-push.ensures.items
    ∙ ap (λ (e : Stored). c.widen.new.entries.items ++ e ∷ []) entry in
    base_after_enter _ _ _ c.args.t.0 c.self.view_is c.self.invariant.0 c.requires.may_enter
    (entered_state c.self.inside.next c.max-next.result c.args.t.0 c.self.inside.numbers.items
    c.in_ok-unended.unended.items c.self.inside.entries.items c.widen.new.entries.items
    c.push.new.self.items c.self.invariant c.widen.ensures.same c.max-next.ensures unended made
    ∙ ap (λ (s : State). after_enter s c.args.t.0) c.self.view_is)
