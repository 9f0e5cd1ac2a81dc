-- What a freed cell pays: the version that stood there is dropped.
use Rattle.std.specs.Prelude.{◌≡◌, ◌≢◌, ◌⊎◌, ◌==◌, ◌&&◌, ℕ, zero, suc, Bool, true, false, not, List, [], length, Option, None, Some}
use Rattle.std.proofs.Common.{inl, inr, refl, sym, subst, ap, ◌∙◌, arith}
use Rattle.std.proofs.lemmas.Bool.{and_from, and_parts, both_ways, cases_eq, eq-eqb, eqb-true, not-true, not_from_false}
use Rattle.mg_base.specs.CheckLaws.{byte_front, front_checks}
use Rattle.mg_base.specs.Checks.{PassesAll, common_checks}
use Rattle.mg_base.specs.Fields.{byte}
use Rattle.mg_careful.specs.declared.links.Demand.{Demand}
use Rattle.mg_careful.specs.Precedence.{Orders}
use Rattle.mg_careful.specs.CarefulWrite.{DemandSet, Has, IsIn}
use Rattle.mg_demand_laws.specs.Freeing.{KeepsLinks, without}
use Rattle.mg_image.specs.Form.{Pages}
use Rattle.mg_image.specs.Inventory.{is_used}
use Rattle.mg_image.specs.Records.{slot_cell}
use Rattle.mg_slots.specs.DataPage.{cell_of, slot_count}
use Rattle.mg_slots.specs.declared.page.TheConstants.{DATA_KIND}
use Rattle.mg_space.specs.Demands.{cell_demands, data_demands, demands_of, is_version_of, meets_of, slot_demands, wanted_demands}
use Rattle.mg_space.specs.declared.links.TheConstants.{DATA, VERSION}
use Rattle.mg_version.specs.declared.cell.Cell.{Cell}
use Rattle.mg_version.specs.declared.cell.Cell.TheVariants as cells
use Rattle.mg_demand_laws.specs.CellLaws.{any_slot}
use Rattle.mg_demand_laws.specs.KindLaws.{as_want, data_alone, from_want}
use Rattle.mg_demand_laws.specs.Met.{has_either, met_is, of_data, of_version}
use Rattle.mg_demand_laws.specs.Steps.{FreesVersion, version_at}
use Rattle.mg_demand_laws.specs.TakeLaws.{used_same}
use Rattle.mg_demand_laws.specs.Wanting.{Drops, IsWanting, may_go, want_of}

-- one cell is a version of one transaction
one_writer : (t u : ℕ) (c : Option Cell) → is_version_of t c ≡ true → is_version_of u c ≡ true → t ≡ u
one_writer t u None first second = absurd cc
one_writer t u (Some (cells.Anchor link)) first second = absurd cc
one_writer t u (Some (cells.Version v)) first second =
    sym (eqb-true v.tx.0 t first) ∙ eqb-true v.tx.0 u second

pub version_is : (x slot t : ℕ) (d : Demand) → version_at x slot t d ≡ true → d ≡ want_of x VERSION slot t
version_is x slot t d is =
    let one = and_parts (d.what == VERSION) _ is in
    let two = and_parts (d.target == x) _ one.1 in
    let three = and_parts (d.a == slot) _ two.1 in
    ap (λ (n : ℕ). want_of n d.what d.a d.b) (eqb-true d.target x two.0)
    ∙ (ap (λ (n : ℕ). want_of x n d.a d.b) (eqb-true d.what VERSION one.0)
    ∙ (ap (λ (n : ℕ). want_of x VERSION n d.b) (eqb-true d.a slot three.0)
    ∙ ap (λ (n : ℕ). want_of x VERSION slot n) (eqb-true d.b t three.1)))

pub is_version : (x slot t : ℕ) (d : Demand) → d ≡ want_of x VERSION slot t → version_at x slot t d ≡ true
is_version x slot t d is = subst (λ (y : Demand). version_at x slot t y ≡ true) (sym is)
    (and_from _ _ (eq-eqb VERSION VERSION refl)
    (and_from _ _ (eq-eqb x x refl) (and_from _ _ (eq-eqb slot slot refl) (eq-eqb t t refl))))

module _ (size : ℕ) (old new : Pages) (x slot t : ℕ) (orders : Orders) (settled : ℕ → Bool) (wanted : DemandSet) (frees : FreesVersion size old new x slot t settled wanted) (was : IsWanting size old wanted) where
  abbrev gone : Demand
  gone = want_of x VERSION slot t

  -- what is another demand is not dropped
  kept : (d : Demand) → (d ≡ gone → ⊥) → version_at x slot t d ≡ false
  kept d other = at (version_at x slot t d) refl
    where
      at : (b : Bool) → version_at x slot t d ≡ b → version_at x slot t d ≡ false
      at true is = absurd (other (version_is x slot t d is))
      at false is = is

  whole : length (new x) ≡ size
  whole = frees.sets.sets.len ∙ was.whole x

  kind_now : byte (new x) 0 ≡ DATA_KIND
  kind_now = byte_front (new x) (old x) 16 0 frees.sets.sets.common (omega arith) ∙ frees.sets.data_

  abbrev IsData : Demand → Type 0
  IsData d = (d ≡ want_of d.target DATA d.a d.b) × PassesAll (common_checks (old x) x DATA_KIND d.a d.b)

  -- a version that is wanted of the page is the one that goes, or stands in another slot
  abbrev IsOther : Demand → Type 0
  IsOther d = (d ≡ want_of d.target VERSION d.a d.b)
      × (is_version_of d.b (slot_cell (cell_of (old x) d.a)) ≡ true) × (d.a ≢ slot)

  on_page : (d : Demand) → IsIn wanted d → d.target ≡ x → IsData d ⊎ (IsOther d ⊎ (d ≡ gone))
  on_page d h same = at (data_alone size old wanted was d h (λ none. frees.sets.off_header (sym same ∙ none))
      (ap (λ (m : ℕ). byte (old m) 0) same ∙ frees.sets.data_))
    where
      by : d ≡ want_of d.target VERSION d.a d.b → is_version_of d.b (slot_cell (cell_of (old x) d.a)) ≡ true
          → (d.a ≡ slot) ⊎ (d.a ≢ slot) → IsOther d ⊎ (d ≡ gone)
      by is there (inr other) = inl (is, there, other)
      by is there (inl here) =
          let of : d.b ≡ t = one_writer d.b t (slot_cell (cell_of (old x) slot))
          (subst (λ (s : ℕ). is_version_of d.b (slot_cell (cell_of (old x) s)) ≡ true) here there)
          frees.stood in
          inr (is ∙ (ap (λ (n : ℕ). want_of n VERSION d.a d.b) same
          ∙ (ap (λ (n : ℕ). want_of x VERSION n d.b) here ∙ ap (λ (n : ℕ). want_of x VERSION slot n) of)))

      at : ((d ≡ want_of d.target DATA d.a d.b) × PassesAll (common_checks (old d.target) d.target DATA_KIND d.a d.b))
          ⊎ ((d ≡ want_of d.target VERSION d.a d.b)
          × (is_version_of d.b (slot_cell (cell_of (old d.target) d.a)) ≡ true))
          → IsData d ⊎ (IsOther d ⊎ (d ≡ gone))
      at (inl (is, passes)) = inl (is, subst (λ (m : ℕ). PassesAll (common_checks (old m) m DATA_KIND d.a d.b)) same passes)
      at (inr (is, there)) = inr (by is
          (subst (λ (m : ℕ). is_version_of d.b (slot_cell (cell_of (old m) d.a)) ≡ true) same there)
          (cases_eq d.a slot))

  same_cell : (s : ℕ) → s ≢ slot → cell_of (new x) s ≡ cell_of (old x) s
  same_cell s other = frees.sets.sets.others s other

  -- the slots lead to what they led to, but for the one that is cleared, which led to nothing
  slots_now : (e : Demand) (k : ℕ) → Has (slot_demands (new x) k) e → Has (data_demands (old x)) e
  slots_now e zero h = absurd h
  slots_now e (suc k) h = elim (has_either (slot_demands (new x) k) _ e h) [
    | inl there ↦ slots_now e k there
    | inr here ↦ elim (cases_eq k slot) [
      | inl at_slot ↦ absurd (subst (λ (c : Option (List ℕ)). Has (cell_demands (slot_cell c)) e)
          (ap (cell_of (new x)) at_slot ∙ frees.sets.sets.here) here)
      | inr other ↦ any_slot (old x) k e
          (subst (λ (c : Option (List ℕ)). Has (cell_demands (slot_cell c)) e) (same_cell k other) here)
    ]
  ]

  slots_still : (e : Demand) (k : ℕ) → Has (slot_demands (old x) k) e → Has (data_demands (new x)) e
  slots_still e zero h = absurd h
  slots_still e (suc k) h = elim (has_either (slot_demands (old x) k) _ e h) [
    | inl there ↦ slots_still e k there
    | inr here ↦ elim (cases_eq k slot) [
      | inl at_slot ↦ absurd (frees.moved e
          (subst (λ (s : ℕ). Has (cell_demands (slot_cell (cell_of (old x) s))) e) at_slot here))
      | inr other ↦ any_slot (new x) k e
          (subst (λ (c : Option (List ℕ)). Has (cell_demands (slot_cell c)) e) (sym (same_cell k other)) here)
    ]
  ]

  data_links : (one other : List ℕ) → length one ≡ size → length other ≡ size
      → ((e : Demand) (k : ℕ) → Has (slot_demands one k) e → Has (data_demands other) e) → (d e : Demand)
      → d ≡ want_of d.target DATA d.a d.b → Has (demands_of one d) e → Has (demands_of other d) e
  data_links one other long wide slots d e is made =
      from_want size old wanted was other wide (want_of d.target DATA d.a d.b) d e is
      (slots e (slot_count one) (as_want size old wanted was one long (want_of d.target DATA d.a d.b) d e is made))

  other_links : (one other : List ℕ) → length one ≡ size → length other ≡ size → (d e : Demand)
      → cell_of one d.a ≡ cell_of other d.a
      → d ≡ want_of d.target VERSION d.a d.b → Has (demands_of one d) e → Has (demands_of other d) e
  other_links one other long wide d e same is made =
      from_want size old wanted was other wide (want_of d.target VERSION d.a d.b) d e is
      (subst (λ (c : Option (List ℕ)). Has (wanted_demands (slot_cell c)) e) same
      (as_want size old wanted was one long (want_of d.target VERSION d.a d.b) d e is made))

  still_on : (d : Demand) → IsIn wanted d → d.target ≡ x → version_at x slot t d ≡ false
      → meets_of (new x) d ≡ true
  still_on d h same not_gone = at (on_page d h same)
    where
      at : IsData d ⊎ (IsOther d ⊎ (d ≡ gone)) → meets_of (new x) d ≡ true
      at (inl it) = met_is size (new x) d was.lawful whole (of_data it.0
          (subst (λ (m : ℕ). PassesAll (common_checks (new x) m DATA_KIND d.a d.b)) (sym same)
          (subst PassesAll (sym (front_checks (new x) (old x) x DATA_KIND d.a d.b frees.sets.sets.common)) it.1)))
      at (inr (inl it)) = met_is size (new x) d was.lawful whole (of_version it.0
          (subst (λ (c : Option (List ℕ)). is_version_of d.b (slot_cell c) ≡ true) (sym (same_cell d.a it.2)) it.1))
      at (inr (inr is)) = absurd (both_ways _ not_gone (is_version x slot t d is))

  links_on : (d e : Demand) → IsIn wanted d → d.target ≡ x → version_at x slot t d ≡ false
      → Has (demands_of (new x) d) e → Has (demands_of (old x) d) e
  links_on d e h same not_gone made = at (on_page d h same)
    where
      at : IsData d ⊎ (IsOther d ⊎ (d ≡ gone)) → Has (demands_of (old x) d) e
      at (inl it) = data_links (new x) (old x) whole (was.whole x) slots_now d e it.0 made
      at (inr (inl it)) = other_links (new x) (old x) whole (was.whole x) d e (same_cell d.a it.2) it.0 made
      at (inr (inr is)) = absurd (both_ways _ not_gone (is_version x slot t d is))

  led_before : (d e : Demand) → IsIn wanted d → version_at x slot t d ≡ false
      → Has (demands_of (new d.target) d) e → Has (demands_of (old d.target) d) e
  led_before d e h not_gone made = elim (cases_eq d.target x) [
    | inl same ↦ subst (λ (n : ℕ). Has (demands_of (old n) d) e) (sym same) (links_on d e h same not_gone
        (subst (λ (n : ℕ). Has (demands_of (new n) d) e) same made))
    | inr ne ↦ subst (λ (page : List ℕ). Has (demands_of page d) e) (frees.sets.others d.target ne) made
  ]

  still_met : (d : Demand) → IsIn wanted d → version_at x slot t d ≡ false → meets_of (new d.target) d ≡ true
  still_met d h not_gone = elim (cases_eq d.target x) [
    | inl same ↦ subst (λ (n : ℕ). meets_of (new n) d ≡ true) (sym same) (still_on d h same not_gone)
    | inr ne ↦ ap (λ (page : List ℕ). meets_of page d) (frees.sets.others d.target ne) ∙ was.keeps.met d h
  ]

  not_led : (d e : Demand) → IsIn wanted d → Has (demands_of (old d.target) d) e → version_at x slot t e ≡ false
  not_led d e h made = kept e (λ is. frees.unled d h (subst (λ (y : Demand). Has (demands_of (old d.target) d) y) is made))

  -- a link to what may be dropped stays
  leaves_on : (d e : Demand) → IsIn wanted d → d.target ≡ x → Has (demands_of (old x) d) e
      → may_go settled e ≡ true → Has (demands_of (new x) d) e × (version_at x slot t d ≡ false)
  leaves_on d e h same made may = at (on_page d h same)
    where
      at : IsData d ⊎ (IsOther d ⊎ (d ≡ gone)) → Has (demands_of (new x) d) e × (version_at x slot t d ≡ false)
      at (inl it) = (
        data_links (old x) (new x) (was.whole x) whole slots_still d e it.0 made,
        kept d (λ is. let one = ap (λ (y : Demand). y.what) (sym it.0 ∙ is) in absurd (omega (arith, one))),
      )
      at (inr (inl it)) = (
        other_links (old x) (new x) (was.whole x) whole d e (sym (same_cell d.a it.2)) it.0 made,
        kept d (λ is. it.2 (ap (λ (y : Demand). y.a) is)),
      )
      at (inr (inr is)) = absurd (both_ways _ (frees.behind e
          (as_want size old wanted was (old x) (was.whole x) gone d e is made)) may)

  leaves_then : KeepsLinks demands_of old new orders wanted (version_at x slot t) (may_go settled)
  leaves_then d e h made may apart = elim (cases_eq d.target x) [
    | inl same ↦
        let stays = leaves_on d e h same (subst (λ (n : ℕ). Has (demands_of (old n) d) e) same made) may in
        inl (subst (λ (n : ℕ). Has (demands_of (new n) d) e) (sym same) stays.0, stays.1)
    | inr ne ↦ inl (
      subst (λ (page : List ℕ). Has (demands_of page d) e) (sym (frees.sets.others d.target ne)) made,
      kept d (λ is. ne (ap (λ (y : Demand). y.target) is)),
    )
  ]

  abbrev left : DemandSet
  left = without (version_at x slot t) wanted

  of_left : (d : Demand) → IsIn left d → IsIn wanted d × (version_at x slot t d ≡ false)
  of_left d h = let parts = and_parts (wanted d h.0) _ h.1 in ((h.0, parts.0), not-true _ parts.1)

  pub free_drops : Drops size old new orders settled wanted (version_at x slot t)
  free_drops = record {
    drops = record {
      still = still_met;
      links = λ d e h not_gone made.
          let before = led_before d e h not_gone made in (before, not_led d e h before);
    };
    wants = record {
      lawful = was.lawful;
      whole = λ n. elim (cases_eq n x) [
        | inl same ↦ subst (λ (m : ℕ). length (new m) ≡ size) (sym same) whole
        | inr ne ↦ ap (λ (page : List ℕ). length page) (frees.sets.others n ne) ∙ was.whole n
      ];
      keeps = record {
        met = λ d h. let it = of_left d h in still_met d it.0 it.1;
        in_turn = λ d e h made.
            let it = of_left d h in
            let before = led_before d e it.0 it.1 made in
            let in_turn = was.keeps.in_turn d e it.0 before in
            (in_turn.0, and_from _ _ in_turn.1 (not_from_false _ (not_led d e it.0 before)));
      };
      used = λ d h. used_same size old new x frees.sets.others frees.sets.off_inventory d.target
          ∙ was.used d (of_left d h).0;
      on_data = λ d h is. elim (cases_eq d.target x) [
        | inl same ↦ subst (λ (n : ℕ). byte (new n) 0 ≡ DATA_KIND) (sym same) kind_now
        | inr ne ↦ ap (λ (page : List ℕ). byte page 0) (frees.sets.others d.target ne)
            ∙ was.on_data d (of_left d h).0 is
      ];
    };
    leaves = leaves_then;
    may = λ d is. subst (λ (y : Demand). may_go settled y ≡ true) (sym (version_is x slot t d is))
        (and_from _ _ (eq-eqb VERSION VERSION refl) (not_from_false _ frees.unsettled));
  }
