-- What the calls that only read a graph answer, and what a new graph is.
use Rattle.std.proofs.Common.{◌≡◌, ◌≢◌, ◌<◌, ℕ, suc, zero, Bool, true, false, ◌==◌, ◌⊎◌, ◌↔◌, inl, inr, List, [], length, get_or, replicate, Option, Some, None, arith, sym, ◌∙◌, ap, refl, cond, is_some, IsNone, IfSome, IfNone}
use Rattle.std.specs.Prelude.{count_by}
use Rattle.std.proofs.lemmas.Bool.{cases_lt, both_ways, and_parts, and_from, or_cases, or_left, or_right, eqb-true, eq-eqb, false_from_ne_true, not_from_false}
use Rattle.std.proofs.lemmas.List.{get_or_past, get_or-replicate, length-replicate, get_or_default}
use Rattle.std.proofs.lemmas.List.Sums.{sum_by-cons}
use Rattle.std.proofs.lemmas.List.Folds.{list_any_none}
use Rattle.mg_careful.specs.Precedence.{Precedes, directly, through}
use Rattle.mg_careful.specs.PrecedenceLaws.{precedes_first, precedes_later}
use Rattle.mg_careful.specs.Rows.{bit, is_blank, is_ready_at, ready_page_at, IsLeast, IsSquare}
use Rattle.mg_careful.specs.Graph.{is_entered, is_ordered, entered_count, room_of, IsGraph, IsReady, IsFirstReady, IsBlankGraph, IsAcyclic}
use Rattle.mg_careful.proofs.RowsLemmas.{bit_inside, closure_none}
use Rattle.mg_careful.proofs.ReadyLemmas.{start_of}
use Rattle.mg_careful.proofs.PlaceLemmas.{graph, some_page, at_inside, entered_at, at_entered, not_entered, link_of, link_is, places_of, pages_of}
use Rattle.mg_careful.proofs.GraphLemmas.{blank_row}

module _ (pages : List (Option ℕ)) (before after : List (List Bool)) (row : List Bool) (kept : IsGraph pages before after row) where
  -- a bit of the closure is precedence
  pub bit_precedes : (i j a b : ℕ) → get_or pages i None ≡ Some a → get_or pages j None ≡ Some b → bit after i j ≡ true → Precedes (is_ordered (graph pages before)) a b
  bit_precedes i j a b at_a at_b holds = pages_of pages before kept.once kept.used i j (kept.closure.sound i j holds) a b at_a at_b

  pub precedes_bit : (i j a b : ℕ) → get_or pages i None ≡ Some a → get_or pages j None ≡ Some b → Precedes (is_ordered (graph pages before)) a b → bit after i j ≡ true
  precedes_bit i j a b at_a at_b chain = kept.closure.whole i j (places_of pages before kept.once kept.used a b chain i j at_a at_b)

  -- only entered pages precede or are preceded
  pub first_entered : (a b : ℕ) → Precedes (is_ordered (graph pages before)) a b → is_entered (graph pages before) a ≡ true
  first_entered a b chain = precedes_first (is_ordered (graph pages before)) (is_entered (graph pages before)) (λ x y o. let link = link_of pages before x y o in entered_at pages before link.from x link.at_from) a b chain

  pub later_entered : (a b : ℕ) → Precedes (is_ordered (graph pages before)) a b → is_entered (graph pages before) b ≡ true
  later_entered a b chain = precedes_later (is_ordered (graph pages before)) (is_entered (graph pages before)) (λ x y o. let link = link_of pages before x y o in entered_at pages before link.to y link.at_to) a b chain

  -- the answer of would_cycle: both pages stand somewhere
  pub cycle_told : (from to first later : ℕ) → get_or pages from None ≡ Some later → get_or pages to None ≡ Some first → first ≢ later → (bit after from to ≡ true) ↔ ((later ≡ first) ⊎ Precedes (is_ordered (graph pages before)) later first)
  cycle_told from to first later at_later at_first apart =
      (λ holds. inr (bit_precedes from to later first at_later at_first holds), λ either. elim either [ inl e ↦ absurd (apart (sym e)) | inr chain ↦ precedes_bit from to later first at_later at_first chain ])

  no_cycle_told : (first later : ℕ) → first ≢ later → (Precedes (is_ordered (graph pages before)) later first → ⊥) → (false ≡ true) ↔ ((later ≡ first) ⊎ Precedes (is_ordered (graph pages before)) later first)
  no_cycle_told first later apart never = (λ holds. absurd cc, λ either. elim either [ inl e ↦ absurd (apart (sym e)) | inr chain ↦ absurd (never chain) ])

  pub later_absent : (first later : ℕ) → first ≢ later → ((i : ℕ) → get_or pages i None ≢ Some later) → (false ≡ true) ↔ ((later ≡ first) ⊎ Precedes (is_ordered (graph pages before)) later first)
  later_absent first later apart absent = no_cycle_told first later apart (λ chain. let at = at_entered pages before later (first_entered later first chain) in absent at.0 at.1)

  pub first_absent : (first later : ℕ) → first ≢ later → ((i : ℕ) → get_or pages i None ≢ Some first) → (false ≡ true) ↔ ((later ≡ first) ⊎ Precedes (is_ordered (graph pages before)) later first)
  first_absent first later apart absent = no_cycle_told first later apart (λ chain. let at = at_entered pages before first (later_entered later first chain) in absent at.0 at.1)

  -- a place is ready exactly where its page is
  pub ready_told : (goal goal_page i page : ℕ) → get_or pages goal None ≡ Some goal_page → get_or pages i None ≡ Some page → is_ready_at before after goal i ≡ true → IsReady (graph pages before) goal_page page
  ready_told goal goal_page i page at_goal at_page holds =
      let parts = and_parts _ _ holds in
      record {
        due = elim (or_cases (i == goal) _ parts.0) [
          | inl e ↦ let f : Some page ≡ Some goal_page = sym at_page ∙ (ap (λ (k : ℕ). get_or pages k None) (eqb-true i goal e) ∙ at_goal) in inl cc
          | inr x ↦ inr (bit_precedes i goal page goal_page at_page at_goal x)
        ];
        free = λ q. false_from_ne_true _ (λ o. let link = link_of pages before q page o in
            let e : link.to ≡ i = kept.once link.to i page link.at_to at_page in
            both_ways (bit before link.to link.from) (ap (λ (k : ℕ). bit before k link.from) e ∙ blank_row (get_or before i []) parts.1 link.from) link.linked);
      }

  blank_from : (i : ℕ) → ((q : ℕ) → bit before i q ≡ false) → is_blank (get_or before i []) ≡ true
  blank_from i free = not_from_false _ (list_any_none (λ x. x) (get_or before i []) (λ k d below. rw (get_or_default (get_or before i []) k d false below) (free k)))

  pub told_ready : (goal goal_page i page : ℕ) → get_or pages goal None ≡ Some goal_page → get_or pages i None ≡ Some page → IsReady (graph pages before) goal_page page → is_ready_at before after goal i ≡ true
  told_ready goal goal_page i page at_goal at_page ready =
      and_from _ _
      (elim ready.due [ inl e ↦ or_left _ _ (eq-eqb i goal (kept.once i goal page at_page (at_goal ∙ ap Some (sym e)))) | inr chain ↦ or_right (i == goal) _ (precedes_bit i goal page goal_page at_page at_goal chain) ])
      (blank_from i (λ q. false_from_ne_true _ (λ holds. let used = kept.used q i holds in let p = some_page (get_or pages q None) used.0 in both_ways (is_ordered (graph pages before) p.0 page) (ready.free p.0) (link_is pages before kept.once p.0 page (record { from = q; to = i; at_from = p.1; at_to = at_page; linked = holds })))))

  given_of : (goal i page : ℕ) → is_ready_at before after goal i ≡ true → get_or pages i None ≡ Some page → ready_page_at pages before after goal i ≡ Some page
  given_of goal i page ready at = rw ready at

  of_given : (goal i page : ℕ) → ready_page_at pages before after goal i ≡ Some page → (is_ready_at before after goal i ≡ true) × (get_or pages i None ≡ Some page)
  of_given goal i page given = at (is_ready_at before after goal i) refl given
    where
      at : (b : Bool) → is_ready_at before after goal i ≡ b → cond b (get_or pages i None) None ≡ Some page → (is_ready_at before after goal i ≡ true) × (get_or pages i None ≡ Some page)
      at true ready same = (ready, same)
      at false ready same = absurd cc

  -- the least page that is ready is the first ready page
  pub first_ready_is : (goal goal_page page : ℕ) → get_or pages goal None ≡ Some goal_page → IsLeast (ready_page_at pages before after goal) (length pages) (Some page) → IsFirstReady (graph pages before) goal_page page
  first_ready_is goal goal_page page at_goal least =
      let found = least.found page refl in
      let given = of_given goal found.0 page found.2 in
      record {
        ready = ready_told goal goal_page found.0 page at_goal given.1 given.0;
        least = λ q ready. let at = at_entered pages before q (ready_entered q ready) in
            let told = told_ready goal goal_page at.0 q at_goal at.1 ready in
            let low = least.least_of at.0 q (at_inside pages at.0 q at.1) (given_of goal at.0 q told at.1) in
            let e : Some page ≡ Some low.0 = low.1 in
            let f : page ≡ low.0 = cc in
            rw f low.2;
      }
    where
      ready_entered : (q : ℕ) → IsReady (graph pages before) goal_page q → is_entered (graph pages before) q ≡ true
      ready_entered q ready = elim ready.due [ inl e ↦ ap (is_entered (graph pages before)) e ∙ entered_at pages before goal goal_page at_goal | inr chain ↦ first_entered q goal_page chain ]

  -- some page is ready
  pub some_ready : (goal goal_page : ℕ) → get_or pages goal None ≡ Some goal_page → IsLeast (ready_page_at pages before after goal) (length pages) None → ⊥
  some_ready goal goal_page at_goal least =
      let start = start_of (λ a b. bit before b a) (bit after) (length pages) kept.closure kept.acyclic (λ a b o. (bit_inside (length pages) before kept.before_square b a o).1) goal in
      let page = page_there start.place start.due in
      let ready : is_ready_at before after goal start.place ≡ true = and_from _ _ (elim start.due [ inl e ↦ or_left _ _ (eq-eqb start.place goal e) | inr x ↦ or_right (start.place == goal) _ x ]) (blank_from start.place start.free) in
      let low = least.least_of start.place page.0 (at_inside pages start.place page.0 page.1) (given_of goal start.place page.0 ready page.1) in
      let e : None ≡ Some low.0 = low.1 in
      cc
    where
      page_there : (i : ℕ) → (i ≡ goal) ⊎ (bit after i goal ≡ true) → (page : ℕ) × (get_or pages i None ≡ Some page)
      page_there i (inl e) = (goal_page, ap (λ (k : ℕ). get_or pages k None) e ∙ at_goal)
      page_there i (inr x) = at_start i goal (kept.closure.sound i goal x)
        where
          at_start : (i j : ℕ) → Precedes (λ a b. bit before b a) i j → (page : ℕ) × (get_or pages i None ≡ Some page)
          at_start i j (directly o) = some_page (get_or pages i None) (kept.used i j o).0
          at_start i k (through {b = j} y z) = at_start i j y

-- a blank table
blank_bit : (size a b : ℕ) → bit (replicate size (replicate size false)) a b ≡ false
blank_bit size a b =
    elim (cases_lt a size) [
      | inl inside ↦ let e : get_or (replicate size (replicate size false)) a [] ≡ replicate size false = get_or-replicate size a (replicate size false) [] inside in rw e (flat b)
      | inr past ↦ let e : get_or (replicate size (replicate size false)) a [] ≡ [] = get_or_past (replicate size (replicate size false)) a [] (omega (arith, length-replicate size (replicate size false))) in rw e refl
    ]
  where
    flat : (b : ℕ) → get_or (replicate size false) b false ≡ false
    flat b = elim (cases_lt b size) [ inl inside ↦ get_or-replicate size b false false inside | inr past ↦ get_or_past (replicate size false) b false (omega (arith, length-replicate size false)) ]

blank_square : (size : ℕ) → IsSquare size (replicate size (replicate size false))
blank_square size = record {
  rows_long = length-replicate size (replicate size false);
  row_long = λ i inside. let e : get_or (replicate size (replicate size false)) i [] ≡ replicate size false = get_or-replicate size i (replicate size false) [] inside in rw e (length-replicate size false);
}

no_page : (size i page : ℕ) → get_or (replicate size None) i None ≢ Some page
no_page size i page at =
    elim (cases_lt i size) [
      | inl inside ↦ let e : get_or {A = Option ℕ} (replicate size None) i None ≡ None = get_or-replicate size i None None inside in absurd cc
      | inr past ↦ let e : get_or {A = Option ℕ} (replicate size None) i None ≡ None = get_or_past (replicate size None) i None (omega (arith, length-replicate {A = Option ℕ} size None)) in absurd cc
    ]

pub new_kept : (size : ℕ) → IsGraph (replicate size None) (replicate size (replicate size false)) (replicate size (replicate size false)) (replicate size false)
new_kept size = record {
  before_square = rw length-replicate (blank_square size);
  after_square = rw length-replicate (blank_square size);
  row_long = length-replicate size false ∙ sym (length-replicate {A = Option ℕ} size None);
  once = λ i j page at_i at_j. absurd (no_page size i page at_i);
  used = λ a b linked. absurd (both_ways _ (blank_bit size b a) linked);
  closure = closure_none _ _ (λ a b. blank_bit size b a) (blank_bit size);
  acyclic = λ a. blank_bit size a a;
}

count_none : (size : ℕ) → count_by is_some (replicate {A = Option ℕ} size None) ≡ 0
count_none zero = refl
count_none (suc size) = let more = count_none size in omega (arith, more, sum_by-cons (λ (at : Option ℕ). cond (is_some at) 1 0) None (replicate size None))

pub new_blank : (size : ℕ) → IsBlankGraph (graph (replicate size None) (replicate size (replicate size false))) size
unfolding entered_count room_of
new_blank size = record {
  entered = λ page. not_entered (replicate size None) _ page (λ i. no_page size i page);
  ordered = λ a b. false_from_ne_true _ (λ holds. let link = link_of (replicate size None) (replicate size (replicate size false)) a b holds in no_page size link.from a link.at_from);
  count = count_none size;
  room = length-replicate {A = Option ℕ} size None;
}

-- whether a page was found tells whether it is entered
pub found_entered : (pages : List (Option ℕ)) (before : List (List Bool)) (page : ℕ) (place : Option ℕ) → IfSome place (λ i. (i < length pages) × (get_or pages i None ≡ Some page)) → IfNone place ((i : ℕ) → get_or pages i None ≢ Some page) → is_some place ≡ is_entered (graph pages before) page
found_entered pages before page None found absent = sym (not_entered pages before page absent)
found_entered pages before page (Some i) found absent = sym (entered_at pages before i page found.1)

-- what holds where nothing was found
pub not_found : {P : Type 0} (place : Option ℕ) → IfNone place P → is_some place ≡ false → P
not_found None fact none = fact
not_found (Some i) fact none = absurd cc

-- what was found, where the least page is asked for
pub least_told : (pages : List (Option ℕ)) (before after : List (List Bool)) (row : List Bool) (kept : IsGraph pages before after row) (goal goal_page : ℕ) (least : Option ℕ) → get_or pages goal None ≡ Some goal_page → IsLeast (ready_page_at pages before after goal) (length pages) least → IfSome least (λ page. IsFirstReady (graph pages before) goal_page page)
least_told pages before after row kept goal goal_page None at_goal least = tt
least_told pages before after row kept goal goal_page (Some page) at_goal least = first_ready_is pages before after row kept goal goal_page page at_goal least

pub least_none_told : (pages : List (Option ℕ)) (before after : List (List Bool)) (row : List Bool) (kept : IsGraph pages before after row) (goal goal_page : ℕ) (least : Option ℕ) → get_or pages goal None ≡ Some goal_page → IsLeast (ready_page_at pages before after goal) (length pages) least → IsNone least ↔ (is_entered (graph pages before) goal_page ≡ false)
least_none_told pages before after row kept goal goal_page None at_goal least = absurd (some_ready pages before after row kept goal goal_page at_goal least)
least_none_told pages before after row kept goal goal_page (Some page) at_goal least = (λ none. absurd (let gone : true ≡ false = none in cc), λ out. absurd (both_ways _ out (entered_at pages before goal goal_page at_goal)))

-- no page precedes itself
pub acyclic_told : (pages : List (Option ℕ)) (before after : List (List Bool)) (row : List Bool) → IsGraph pages before after row → IsAcyclic (graph pages before)
acyclic_told pages before after row kept page chain =
    let at = at_entered pages before page (first_entered pages before after row kept page page chain) in
    both_ways (bit after at.0 at.0) (kept.acyclic at.0) (precedes_bit pages before after row kept at.0 at.0 page page at.1 at.1 chain)
