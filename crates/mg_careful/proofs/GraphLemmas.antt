-- What each call of a graph leaves: its fields keep what they have to, and the graph that callers
-- see changes as the call says.
use Rattle.std.proofs.Common.{◌≡◌, ◌≢◌, ◌<◌, ℕ, Bool, true, false, ◌||◌, ◌&&◌, ◌==◌, not, ◌⊎◌, inl, inr, List, [], length, get_or, set, Option, Some, None, sym, ◌∙◌, ap, refl, subst, is_some}
use Rattle.std.specs.List.{list_any}
use Rattle.std.proofs.lemmas.Bool.{cases_eq, cases_lt, both_ways, and_parts, and_from, or_cases, or_left, or_right, eqb-true, eq-eqb, false_from_ne_true, not-true}
use Rattle.std.proofs.lemmas.List.{get_or_past, get_or-set_same, get_or-set_other, length-set, get_or_default}
use Rattle.std.proofs.lemmas.List.Folds.{list_any_at}
use Rattle.mg_careful.specs.Precedence.{Precedes}
use Rattle.mg_careful.specs.Rows.{bit, is_blank, IsSquare, IsClosure, with_order, with_closed, without}
use Rattle.mg_careful.specs.Graph.{PageGraph, is_entered, is_ordered, entered_count, room_of, IsGraph, EntersPage, ClearsPage, AddsOrder}
use Rattle.mg_careful.proofs.ClosureLemmas.{same_test, not_same, differ, closure_more, acyclic_more, acyclic_fewer, closure_without}
use Rattle.mg_careful.proofs.PlaceLemmas.{Once, Used, graph, some_page, is_some_of, at_inside, entered_at, at_entered, not_entered, Link, link_of, link_is, pages_of, count_enter, count_clear}

-- the same entered pages, where the same pages stand somewhere
entered_same : (p q : List (Option ℕ)) (b c : List (List Bool)) (page : ℕ) (test : Bool) → ((i : ℕ) → get_or q i None ≡ Some page → test ≡ true) → (test ≡ true → (i : ℕ) × (get_or q i None ≡ Some page)) → is_entered (graph q c) page ≡ test
entered_same p q b c page test to from =
    same_test _ _ (λ entered. let at = at_entered q c page entered in to at.0 at.1) (λ holds. let at = from holds in entered_at q c at.0 page at.1)

-- entering a page at a free place
module _ (pages : List (Option ℕ)) (before after : List (List Bool)) (row : List Bool) (kept : IsGraph pages before after row) (place page : ℕ) (inside : place < length pages) (free : get_or pages place (Some 0) ≡ None) (absent : (i : ℕ) → get_or pages i None ≢ Some page) where
  place_free : get_or pages place None ≡ None
  place_free = get_or_default pages place None (Some 0) inside ∙ free

  now_there : get_or (set pages place (Some page)) place None ≡ Some page
  now_there = get_or-set_same pages place (Some page) None inside

  -- a page that stood somewhere stands there still
  stands_still : (i p : ℕ) → get_or pages i None ≡ Some p → get_or (set pages place (Some page)) i None ≡ Some p
  stands_still i p at =
      let apart : i ≢ place = λ e. let gone : get_or pages i None ≡ None = ap (λ (k : ℕ). get_or pages k None) e ∙ place_free in (let f : Some p ≡ None = sym at ∙ gone in cc) in
      get_or-set_other pages place i (Some page) None apart ∙ at

  stood : (i p : ℕ) → get_or (set pages place (Some page)) i None ≡ Some p → ((i ≡ place) × (p ≡ page)) ⊎ (get_or pages i None ≡ Some p)
  stood i p at =
      elim (cases_eq i place) [
        | inl e ↦ let f : get_or (set pages place (Some page)) place None ≡ Some p = ap (λ (k : ℕ). get_or (set pages place (Some page)) k None) (sym e) ∙ at in let g : Some page ≡ Some p = sym now_there ∙ f in inl (e, (let h : page ≡ p = cc in sym h))
        | inr apart ↦ inr (sym (get_or-set_other pages place i (Some page) None apart) ∙ at)
      ]

  once_entered : Once (set pages place (Some page))
  once_entered i j p at_i at_j =
      elim (stood i p at_i) [
        | inl x ↦ elim (stood j p at_j) [ inl y ↦ x.0 ∙ sym y.0 | inr y ↦ absurd (absent j (y ∙ ap Some x.1)) ]
        | inr x ↦ elim (stood j p at_j) [ inl y ↦ absurd (absent i (x ∙ ap Some y.1)) | inr y ↦ kept.once i j p x y ]
      ]

  used_still : (i : ℕ) → is_some (get_or pages i None) ≡ true → is_some (get_or (set pages place (Some page)) i None) ≡ true
  used_still i some = let p = some_page (get_or pages i None) some in is_some_of _ p.0 (stands_still i p.0 p.1)

  pub enter_kept : IsGraph (set pages place (Some page)) before after row
  enter_kept = record {
    before_square = rw length-set kept.before_square;
    after_square = rw length-set kept.after_square;
    row_long = rw length-set kept.row_long;
    once = once_entered;
    used = λ a b linked. (used_still a (kept.used a b linked).0, used_still b (kept.used a b linked).1);
    closure = kept.closure;
    acyclic = kept.acyclic;
  }

  linked_place : (i : ℕ) → is_some (get_or pages i None) ≡ true → i ≢ place
  linked_place i some e = let p = some_page (get_or pages i None) some in let gone : get_or pages i None ≡ None = ap (λ (k : ℕ). get_or pages k None) e ∙ place_free in let f : Some p.0 ≡ None = sym p.1 ∙ gone in cc

  link_before : (a b : ℕ) → Link (set pages place (Some page)) before a b → Link pages before a b
  link_before a b link =
      let used = kept.used link.from link.to link.linked in
      record {
        from = link.from;
        to = link.to;
        at_from = elim (stood link.from a link.at_from) [ inl x ↦ absurd (linked_place link.from used.0 x.0) | inr x ↦ x ];
        at_to = elim (stood link.to b link.at_to) [ inl x ↦ absurd (linked_place link.to used.1 x.0) | inr x ↦ x ];
        linked = link.linked;
      }

  link_after : (a b : ℕ) → Link pages before a b → Link (set pages place (Some page)) before a b
  link_after a b link = record {
    from = link.from;
    to = link.to;
    at_from = stands_still link.from a link.at_from;
    at_to = stands_still link.to b link.at_to;
    linked = link.linked;
  }

  entered_now : (p : ℕ) → is_entered (graph (set pages place (Some page)) before) p ≡ (is_entered (graph pages before) p || p == page)
  entered_now p =
      entered_same pages (set pages place (Some page)) before before p _
      (λ i at. elim (stood i p at) [ inl x ↦ or_right (is_entered (graph pages before) p) _ (eq-eqb p page x.1) | inr x ↦ or_left _ _ (entered_at pages before i p x) ])
      (λ holds. elim (or_cases (is_entered (graph pages before) p) _ holds) [ inl x ↦ let at = at_entered pages before p x in (at.0, stands_still at.0 p at.1) | inr x ↦ (place, now_there ∙ ap Some (sym (eqb-true p page x))) ])

  ordered_now : (a b : ℕ) → is_ordered (graph (set pages place (Some page)) before) a b ≡ is_ordered (graph pages before) a b
  ordered_now a b =
      same_test _ _
      (λ holds. link_is pages before kept.once a b (link_before a b (link_of (set pages place (Some page)) before a b holds)))
      (λ holds. link_is (set pages place (Some page)) before once_entered a b (link_after a b (link_of pages before a b holds)))

  pub enter_changes : EntersPage (graph pages before) (graph (set pages place (Some page)) before) page
  unfolding entered_count room_of
  enter_changes = record {
    entered = entered_now;
    ordered = ordered_now;
    count = rw (not_entered pages before page absent) (count_enter pages place page inside free);
    room = length-set pages place (Some page);
  }

-- entering an entered page
pub enter_again : (g : PageGraph) (page : ℕ) → is_entered g page ≡ true → EntersPage g g page
enter_again g page entered = record {
  entered = λ p. same_test _ _ (λ x. or_left _ _ x) (λ x. elim (or_cases (is_entered g p) _ x) [ inl y ↦ y | inr y ↦ ap (is_entered g) (eqb-true p page y) ∙ entered ]);
  ordered = λ a b. refl;
  count = rw entered refl;
  room = refl;
}

-- adding an order that is there
pub add_again : (g : PageGraph) (first later : ℕ) → is_ordered g first later ≡ true → AddsOrder g g first later
add_again g first later there = record {
  entered = λ p. refl;
  ordered = λ a b. same_test _ _ (λ x. or_left _ _ x) (λ x. elim (or_cases (is_ordered g a b) _ x) [ inl y ↦ y | inr y ↦ let parts = and_parts _ _ y in rw (eqb-true a first parts.0, eqb-true b later parts.1) there ]);
  count = refl;
  room = refl;
}

and_turned : (x y z : Bool) → (x && (y && z)) ≡ (x && (z && y))
and_turned true true true = refl
and_turned true true false = refl
and_turned true false true = refl
and_turned true false false = refl
and_turned false y z = refl

-- a blank row has no bit that is set
pub blank_row : (row : List Bool) → is_blank row ≡ true → (b : ℕ) → get_or row b false ≡ false
blank_row row blank b =
    false_from_ne_true _ (λ holds. elim (cases_lt b (length row)) [
      | inl inside ↦ both_ways (list_any (λ x. x) row) (not-true _ blank) (list_any_at (λ x. x) row b false inside holds)
      | inr past ↦ both_ways (get_or row b false) (get_or_past row b false past) holds
    ])

-- clearing the page at a place
module _ (pages : List (Option ℕ)) (before after : List (List Bool)) (row : List Bool) (kept : IsGraph pages before after row) (place page : ℕ) (there : get_or pages place None ≡ Some page) (cleared : List (List Bool)) (square : IsSquare (length pages) cleared) (unset : (a b : ℕ) → bit cleared a b ≡ without (bit before) place a b) where
  turned : (a b : ℕ) → bit cleared b a ≡ without (λ x y. bit before y x) place a b
  turned a b = unset b a ∙ and_turned (bit before b a) (not (b == place)) (not (a == place))

  gone_there : get_or (set pages place None) place None ≡ None
  gone_there = get_or-set_same pages place None None (at_inside pages place page there)

  stays : (i p : ℕ) → i ≢ place → get_or pages i None ≡ Some p → get_or (set pages place None) i None ≡ Some p
  stays i p apart at = get_or-set_other pages place i None None apart ∙ at

  stayed : (i p : ℕ) → get_or (set pages place None) i None ≡ Some p → (i ≢ place) × (get_or pages i None ≡ Some p)
  stayed i p at =
      elim (cases_eq i place) [
        | inl e ↦ let f : get_or (set pages place None) place None ≡ Some p = ap (λ (k : ℕ). get_or (set pages place None) k None) (sym e) ∙ at in let g : None ≡ Some p = sym gone_there ∙ f in absurd cc
        | inr apart ↦ (apart, sym (get_or-set_other pages place i None None apart) ∙ at)
      ]

  once_cleared : Once (set pages place None)
  once_cleared i j p at_i at_j = kept.once i j p (stayed i p at_i).1 (stayed j p at_j).1

  some_stays : (i : ℕ) → i ≢ place → is_some (get_or pages i None) ≡ true → is_some (get_or (set pages place None) i None) ≡ true
  some_stays i apart some = let p = some_page (get_or pages i None) some in is_some_of _ p.0 (stays i p.0 apart p.1)

  used_cleared : Used (set pages place None) cleared
  used_cleared a b linked =
      let parts = and_parts (bit before b a) _ (sym (unset b a) ∙ linked) in
      let more = and_parts _ _ parts.1 in
      let used = kept.used a b parts.0 in
      (some_stays a (differ a place more.1) used.0, some_stays b (differ b place more.0) used.1)

  fewer_orders : (a b : ℕ) → bit cleared b a ≡ true → bit before b a ≡ true
  fewer_orders a b linked = (and_parts (bit before b a) _ (sym (unset b a) ∙ linked)).0

  pub clear_kept : (reach : List (List Bool)) (work : List Bool) → IsSquare (length pages) reach → length work ≡ length pages → IsClosure (λ a b. bit cleared b a) (bit reach) → IsGraph (set pages place None) cleared reach work
  clear_kept reach work reach_square work_long closure = record {
    before_square = rw length-set square;
    after_square = rw length-set reach_square;
    row_long = rw length-set work_long;
    once = once_cleared;
    used = used_cleared;
    closure = closure;
    acyclic = acyclic_fewer (λ a b. bit before b a) (bit after) (λ a b. bit cleared b a) (bit reach) kept.closure closure fewer_orders kept.acyclic;
  }

  -- nothing is ordered before the page: its row of the closure is unset
  pub clear_first : (reach : List (List Bool)) → is_blank (get_or before place []) ≡ true → IsSquare (length pages) reach → ((a b : ℕ) → bit reach a b ≡ (bit after a b && not (a == place))) → IsGraph (set pages place None) cleared reach row
  clear_first reach blank reach_square reaches =
      clear_kept reach row reach_square kept.row_long (closure_without (λ a b. bit before b a) (λ a b. bit cleared b a) (bit after) (bit reach) place kept.closure (λ q. blank_row (get_or before place []) blank q) turned reaches)

  page_apart : (i p : ℕ) → i ≢ place → get_or pages i None ≡ Some p → p ≢ page
  page_apart i p apart at e = apart (kept.once i place page (at ∙ ap Some e) there)

  place_apart : (i p : ℕ) → p ≢ page → get_or pages i None ≡ Some p → i ≢ place
  place_apart i p apart at e = let f : Some page ≡ Some p = sym there ∙ (ap (λ (k : ℕ). get_or pages k None) (sym e) ∙ at) in apart (let g : page ≡ p = cc in sym g)

  entered_left : (p : ℕ) → is_entered (graph (set pages place None) cleared) p ≡ (is_entered (graph pages before) p && not (p == page))
  entered_left p =
      entered_same pages (set pages place None) before cleared p _
      (λ i at. let x = stayed i p at in and_from _ _ (entered_at pages before i p x.1) (not_same p page (page_apart i p x.0 x.1)))
      (λ holds. let parts = and_parts (is_entered (graph pages before) p) _ holds in let at = at_entered pages before p parts.0 in (at.0, stays at.0 p (place_apart at.0 p (differ p page parts.1) at.1) at.1))

  ordered_left : (a b : ℕ) → is_ordered (graph (set pages place None) cleared) a b ≡ (is_ordered (graph pages before) a b && (not (a == page) && not (b == page)))
  ordered_left a b =
      same_test _ _
      (λ holds. let link = link_of (set pages place None) cleared a b holds in
      let x = stayed link.from a link.at_from in
      let y = stayed link.to b link.at_to in
      and_from _ _ (link_is pages before kept.once a b (record { from = link.from; to = link.to; at_from = x.1; at_to = y.1; linked = fewer_orders link.from link.to link.linked })) (and_from _ _ (not_same a page (page_apart link.from a x.0 x.1)) (not_same b page (page_apart link.to b y.0 y.1))))
      (λ holds. let parts = and_parts (is_ordered (graph pages before) a b) _ holds in
      let more = and_parts _ _ parts.1 in
      let link = link_of pages before a b parts.0 in
      let x = place_apart link.from a (differ a page more.0) link.at_from in
      let y = place_apart link.to b (differ b page more.1) link.at_to in
      link_is (set pages place None) cleared once_cleared a b (record { from = link.from; to = link.to; at_from = stays link.from a x link.at_from; at_to = stays link.to b y link.at_to; linked = turned link.from link.to ∙ and_from _ _ link.linked (and_from _ _ (not_same link.from place x) (not_same link.to place y)) }))

  pub clear_changes : ClearsPage (graph pages before) (graph (set pages place None) cleared) page
  unfolding entered_count room_of
  clear_changes = record {
    entered = entered_left;
    ordered = ordered_left;
    count = rw (entered_at pages before place page there) (count_clear pages place page there);
    room = length-set pages place None;
  }

-- clearing a page that isn't entered
pub clear_absent : (pages : List (Option ℕ)) (before : List (List Bool)) (page : ℕ) → ((i : ℕ) → get_or pages i None ≢ Some page) → ClearsPage (graph pages before) (graph pages before) page
clear_absent pages before page absent = record {
  entered = λ p. same_test _ _ (λ x. let at = at_entered pages before p x in and_from _ _ x (not_same p page (λ e. absent at.0 (at.1 ∙ ap Some e)))) (λ x. (and_parts (is_entered (graph pages before) p) _ x).0);
  ordered = λ a b. same_test _ _ (λ x. let link = link_of pages before a b x in and_from _ _ x (and_from _ _ (not_same a page (λ e. absent link.from (link.at_from ∙ ap Some e))) (not_same b page (λ e. absent link.to (link.at_to ∙ ap Some e))))) (λ x. (and_parts (is_ordered (graph pages before) a b) _ x).0);
  count = rw (not_entered pages before page absent) refl;
  room = refl;
}

-- adding an order between the pages of two places
module _ (pages : List (Option ℕ)) (before after : List (List Bool)) (row : List Bool) (kept : IsGraph pages before after row) (first later from to : ℕ) (at_first : get_or pages from None ≡ Some first) (at_later : get_or pages to None ≡ Some later) (apart : first ≢ later) (no_way : Precedes (is_ordered (graph pages before)) later first → ⊥) (linked : List (List Bool)) (square : IsSquare (length pages) linked) (bits : (a b : ℕ) → bit linked a b ≡ (bit before a b || (b == from && a == to))) where
  places_apart : from ≢ to
  places_apart e = let f : Some first ≡ Some later = sym at_first ∙ (ap (λ (k : ℕ). get_or pages k None) e ∙ at_later) in apart cc

  no_way_back : bit after to from ≡ false
  no_way_back = false_from_ne_true _ (λ holds. no_way (pages_of pages before kept.once kept.used to from (kept.closure.sound to from holds) later first at_later at_first))

  turn : (a b : ℕ) → bit linked b a ≡ with_order (λ x y. bit before y x) from to a b
  turn a b = bits b a

  used_linked : Used pages linked
  used_linked a b holds =
      elim (or_cases (bit before b a) _ (sym (bits b a) ∙ holds)) [
        | inl x ↦ kept.used a b x
        | inr y ↦ let parts = and_parts _ _ y in (ap (λ (k : ℕ). is_some (get_or pages k None)) (eqb-true a from parts.0) ∙ is_some_of _ first at_first, ap (λ (k : ℕ). is_some (get_or pages k None)) (eqb-true b to parts.1) ∙ is_some_of _ later at_later)
      ]

  pub add_kept : (reach : List (List Bool)) (work : List Bool) → IsSquare (length pages) reach → length work ≡ length pages → ((a b : ℕ) → bit reach a b ≡ with_closed (bit after) from to a b) → IsGraph pages linked reach work
  add_kept reach work reach_square work_long reaches = record {
    before_square = square;
    after_square = reach_square;
    row_long = work_long;
    once = kept.once;
    used = used_linked;
    closure = closure_more (λ a b. bit before b a) (λ a b. bit linked b a) (bit after) (bit reach) from to kept.closure turn reaches;
    acyclic = acyclic_more (λ a b. bit before b a) (λ a b. bit linked b a) (bit after) (bit reach) from to kept.closure turn reaches places_apart no_way_back kept.acyclic;
  }

  ordered_more : (a b : ℕ) → is_ordered (graph pages linked) a b ≡ with_order (is_ordered (graph pages before)) first later a b
  ordered_more a b =
      same_test _ _
      (λ holds. let link = link_of pages linked a b holds in
      elim (or_cases (bit before link.to link.from) _ (sym (bits link.to link.from) ∙ link.linked)) [
        | inl x ↦ or_left _ _ (link_is pages before kept.once a b (record { from = link.from; to = link.to; at_from = link.at_from; at_to = link.at_to; linked = x }))
        | inr y ↦ let parts = and_parts _ _ y in
            let e : Some a ≡ Some first = sym link.at_from ∙ (ap (λ (k : ℕ). get_or pages k None) (eqb-true link.from from parts.0) ∙ at_first) in
            let f : Some b ≡ Some later = sym link.at_to ∙ (ap (λ (k : ℕ). get_or pages k None) (eqb-true link.to to parts.1) ∙ at_later) in
            or_right (is_ordered (graph pages before) a b) _ (and_from _ _ (eq-eqb a first cc) (eq-eqb b later cc))
      ])
      (λ holds. elim (or_cases (is_ordered (graph pages before) a b) _ holds) [
        | inl x ↦ let link = link_of pages before a b x in link_is pages linked kept.once a b (record { from = link.from; to = link.to; at_from = link.at_from; at_to = link.at_to; linked = bits link.to link.from ∙ or_left _ _ link.linked })
        | inr y ↦ let parts = and_parts _ _ y in
            link_is pages linked kept.once a b (record { from = from; to = to; at_from = at_first ∙ ap Some (sym (eqb-true a first parts.0)); at_to = at_later ∙ ap Some (sym (eqb-true b later parts.1)); linked = bits to from ∙ or_right (bit before to from) _ (and_from _ _ (eq-eqb from from refl) (eq-eqb to to refl)) })
      ])

  pub add_changes : AddsOrder (graph pages before) (graph pages linked) first later
  unfolding entered_count room_of is_entered
  add_changes = record {
    entered = λ p. refl;
    ordered = ordered_more;
    count = refl;
    room = refl;
  }

pub square_of : {n m : ℕ} {rows : List (List Bool)} → n ≡ m → IsSquare n rows → IsSquare m rows
square_of {rows = rows} e square = subst (λ (k : ℕ). IsSquare k rows) e square
