-- What follows of legal histories, and of a call that was served.
use Rattle.std.specs.Prelude.{ℕ, List, [], ◌∷◌}
use Rattle.std.proofs.Common.{inl}
use mathlib.Core.Path.{refl, subst, sym}
use Rattle.mg_turn.specs.declared.rule.Entry.{Entry}
use Rattle.mg_turn.specs.declared.rule.View.{View}
use Rattle.mg_turn.specs.declared.served.End.{End}
use Rattle.mg_turn.specs.Histories.{Has, EndIn, Leads, entry}
use Rattle.mg_turn.specs.Promises.{Extends}

-- what each answer keeps, and the opening value has, the value has that a legal history leaves
pub kept_along : {V C R : Type 0} (answers : V → C → R → V → Type 0) (Good : V → Type 0)
    → ((old : V) (call : C) (reply : R) (new : V) → answers old call reply new → Good old → Good new)
    → (from : V) (log : List (Entry C R)) (value : V) → Leads answers from log value → Good from → Good value
kept_along answers Good keeps from [] value leads good = subst Good (sym leads) good
kept_along answers Good keeps from (e ∷ es) value leads good =
    keeps leads.0 e.call e.reply value leads.2 (kept_along answers Good keeps from es leads.0 leads.1 good)

-- an end that a call tells with its reply may be posted by the seat that was served
pub served_end : {V C R : Type 0} (answers : V → C → R → V → Type 0) (ends : C → R → ℕ → End → Type 0) (v w : View V C R) (call : C) (reply : R)
    → Extends answers ends v call reply w → (t : ℕ) (end : End) → ends call reply t end → EndIn ends w.seen t end
served_end answers ends v w call reply extends t end tells =
    let e = entry v.name call reply in (e, subst (λ log. Has e log) (sym extends.seen.1) (inl refl), tells)
