-- What the steps of one call come to.
use Rattle.std.proofs.Common.{◌≡◌, ℕ, List, [], ◌∷◌, Some, sym, refl, ap, ◌∙◌, subst, inr}
use Rattle.atomic_table.specs.Table.{Me}
use Rattle.mg_turn.specs.declared.rule.Deed.{Deed}
use Rattle.mg_turn.specs.declared.rule.Entry.{Entry}
use Rattle.mg_turn.specs.declared.rule.Slot.{Slot}
use Rattle.mg_turn.specs.declared.rule.View.{View}
use Rattle.mg_turn.specs.declared.served.End.{End}
use Rattle.mg_turn.specs.Histories.{entry, Leads}
use Rattle.mg_turn.specs.Promises.{IsAtRest, Extends}
use Rattle.mg_turn.specs.Tells.{Takes, Taken, Made, MayPass}
use Rattle.mg_turn.specs.Views.{waiting, holding, served_one}
use Rattle.mg_turn.proofs.Lists.{calls_same}

module _ {A : Type 0} where
  abbrev head_or : List A → A → A
  head_or [] a = a
  head_or (b ∷ bs) a = b

module _ {V C R : Type 0} (answers : V → C → R → V → Type 0) (ends : C → R → ℕ → End → Type 0) where
  abbrev S : Type 0
  S = Slot V C R

  abbrev M : Type 0
  M = Me S (View V C R)

  pub holds_one : (m0 m1 m2 : M) (n : ℕ) → m0.1 ≡ [] → m1 ≡ (waiting n m0.0, m0.1) → Taken answers ends m1 m2 → (x : S) × (m2.1 ≡ (0, x) ∷ [])
  holds_one m0 m1 m2 n carried drew took =
      (took.1, ap (λ (m : M). m.1) took.2 ∙ ap (λ (l : List (ℕ × S)). (0, took.1) ∷ l) (ap (λ (m : M). m.1) drew ∙ carried))

  same_slot : (m1 m2 m3 : M) (call : C) (reply : R) → (took : Taken answers ends m1 m2) → (made : Made answers m2 call reply m3) → made.0 ≡ took.1
  same_slot m1 m2 m3 call reply took made = ap (λ (l : List (ℕ × S)). (head_or l (0, made.0)).1) (sym made.2 ∙ ap (λ (m : M). m.1) took.2)

  pub made_ready : (m1 m2 m3 : M) (call : C) (reply : R) → Taken answers ends m1 m2 → Made answers m2 call reply m3 → MayPass answers m3
  made_ready m1 m2 m3 call reply took made =
      let d = made.4 in
      let x_is : made.0 ≡ took.1 = same_slot m1 m2 m3 call reply took made in
      let view_is : m3.0 ≡ holding took.0 m1.0 = ap (λ (m : M). m.0) made.3 ∙ ap (λ (m : M). m.0) took.2 in
      let seen_is : m3.0.seen ≡ took.0 = ap (λ (u : View V C R). u.seen) view_is in
      let answered : answers made.0.value d.0.call.value d.0.reply.value made.1.value = subst (λ (z : C × R). answers made.0.value z.0 z.1 made.1.value) (λ i. (sym d.2 i, sym d.3 i)) d.4 in (
        made.1,
        d.0,
        took.3.legal.0,
        ap (λ (m : M). m.1) made.3,
        d.1,
        ap (λ (u : View V C R). u.from) view_is ∙ took.3.legal.1,
        (made.0.value, subst (λ (z : List (Entry C R) × S). Leads answers took.3.legal.0 z.0 z.1.value) (λ i. (sym seen_is i, sym x_is i)) took.3.legal.2, answered),
      )

  pub extends : (m0 m1 m2 m3 m4 : M) (call : C) (reply : R) (n : ℕ) → IsAtRest m0.0 → m1 ≡ (waiting n m0.0, m0.1) → Taken answers ends m1 m2 → Made answers m2 call reply m3
      → ((x : S) (d : Deed C R) → m3.1 ≡ (0, x) ∷ [] → x.last ≡ Some d → m4 ≡ (served_one d.call.value d.reply.value m3.0, []))
      → Extends answers ends m0.0 call reply m4.0
  extends m0 m1 m2 m3 m4 call reply n rest drew took made passed =
      let v : View V C R = m0.0 in
      let d = made.4 in
      let log = took.0 in
      let x_is : made.0 ≡ took.1 = same_slot m1 m2 m3 call reply took made in
      let waits : m1.0 ≡ waiting n v = ap (λ (m : M). m.0) drew in
      let takes : Takes answers ends (waiting n v) log took.1 = subst (λ (u : View V C R). Takes answers ends u log took.1) waits took.3 in
      let view_is : m3.0 ≡ holding log (waiting n v) = ap (λ (m : M). m.0) made.3 ∙ (ap (λ (m : M). m.0) took.2 ∙ ap (λ (u : View V C R). holding log u) waits) in
      let went : m4.0 ≡ served_one d.0.call.value d.0.reply.value m3.0 = ap (λ (m : M). m.0) (passed made.1 d.0 (ap (λ (m : M). m.1) made.3) d.1) in
      let w : View V C R = served_one call reply (holding log (waiting n v)) in
      let is : m4.0 ≡ w = went ∙ (λ i. served_one (d.2 i) (d.3 i) (view_is i)) in
      let e : Entry C R = entry v.name call reply in
      let good : Extends answers ends v call reply w = record {
        seen = (takes.seen.0, ap (λ l. e ∷ l) takes.seen.1);
        legal = (made.1.value, (takes.legal.0, takes.legal.1, (made.0.value, subst (λ (z : S). Leads answers takes.legal.0 log z.value) (sym x_is) takes.legal.2, d.4)));
        mine = refl;
        own = calls_same v.name e log refl ∙ ap (λ l. e ∷ l) (takes.own rest.named);
        known = refl;
        ended = λ t end k. let it = takes.known t end k in (it.0, inr it.1, it.2);
        same = record { opening = refl; start = refl; name = refl; gathered = refl; parent = refl; children = refl };
        at_rest = record { live = rest.live; named = rest.named; idle = refl };
      } in
      subst (λ (u : View V C R). Extends answers ends v call reply u) (sym is) good
