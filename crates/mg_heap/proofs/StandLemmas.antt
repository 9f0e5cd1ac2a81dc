-- The pages of a table in a layout, as those of a table that is walked.
use Rattle.std.proofs.Common.{◌≡◌, ◌≢◌, ◌<◌, ◌⊎◌, ◌+◌, ◌++◌, ◌∷◌, [], ◌∙◌, Bool, false, ℕ, List, length, suc, get_or, append_assoc, refl, sym, ap, subst, arith, inl, inr, Option, None, Some, Ok, Err, is_some, unwrap_or}
use Rattle.std.proofs.lemmas.Bool.{cases_lt}
use Rattle.std.proofs.lemmas.List.{get_or-replicate, get_or_past, length-replicate}
use Rattle.mg_base.specs.CheckLaws.{verdict_from_passes}
use Rattle.mg_base.specs.Checks.{Check, PassesAll, common_checks}
use Rattle.mg_base.specs.Disk.{Meaning}
use Rattle.mg_base.specs.Fields.{byte}
use Rattle.mg_base.specs.Image.{Image, blank, page_at}
use Rattle.mg_base.specs.declared.damage.Damaged.{Damaged}
use Rattle.mg_base.specs.declared.geometry.TheConstants.{GREATEST_LIMIT}
use Rattle.mg_base.specs.declared.numbers.PageNo.{PageNo}
use Rattle.mg_base.specs.declared.numbers.RecId.{RecId}
use Rattle.mg_image.specs.Form.{Pages}
use Rattle.mg_image.specs.Sound.{HasTablePages, IsTableData, IsTablePointer}
use Rattle.mg_image.specs.Tables.{EachFrom, Has, LinkChain, Stand, ended, goes}
use Rattle.mg_pointer.specs.PointerPage.{next_in, pointer_checks}
use Rattle.mg_pointer.specs.declared.page.TheConstants.{POINTER_KIND}
use Rattle.mg_pool.specs.Dirty.{content_of}
use Rattle.mg_pool.specs.Pool.{shown}
use Rattle.mg_pool.specs.declared.pool.Pool.{Pool}
use Rattle.mg_slots.specs.Damage.{IsFirstDamage}
use Rattle.mg_slots.specs.DamageLaws.{damaged_is_not_lawful}
use Rattle.mg_slots.specs.DataPage.{IsDataPage}
use Rattle.mg_slots.specs.declared.page.TheConstants.{DATA_KIND}
use Rattle.mg_space.specs.View.{IsMissing, Tells}
use Rattle.mg_space.specs.declared.fault.SpaceFault.TheVariants as faults
use Rattle.mg_space.specs.declared.links.FireLinks.{FireLinks}
use Rattle.mg_heap.specs.Reading.{IsAbsence, RefusesData, owner_in, sequence_in}
use Rattle.mg_heap.specs.Places.{FindsPlace, RefusesPlace}
use Rattle.mg_heap.specs.PlacesLaws.{none_there, place_there}
use Rattle.mg_heap.specs.Stands.{RefusesWalking, StandsIn, TablesAreWalked, WalksMeetNoDamage}
use Rattle.mg_heap.specs.StandsLaws.{stands_at_its_place}
use Rattle.mg_heap.specs.Table.{IsBrokenChain, IsLinkDamage, IsPointerAt, IsPointerDamage, IsTable, LeadsTo, RefusesPointer, back, misled, past, unlike}
use Rattle.mg_heap.specs.TableLaws.{table_once}
use Rattle.mg_heap.specs.Walk.{IsBrokenPlace, IsBrokenTable, IsMisplaced, RefusesBehind, RefusesFrom, RefusesNext, RefusesTableData, RefusesWalk}
use Rattle.mg_heap.proofs.ChainLemmas.{each_at, each_behind, each_has, leads_on_only, run_in_chain}

fields_pass : (size : ℕ) (pages : Pages) (owner at : ℕ) (ns : List ℕ)
    → EachFrom (IsTablePointer size pages owner) at ns → EachFrom (IsPointerAt pages owner) at ns
fields_pass size pages owner at [] each = tt
fields_pass size pages owner at (n ∷ ns) each =
    (each.0.fields, fields_pass size pages owner (suc at) ns each.1)

pub stands_are_tables : TablesAreWalked
stands_are_tables in_primary size pages stand has = record {
  chain = has.chain;
  tested = fields_pass size pages stand.table.pointer.0 0 stand.pointers has.pointers;
  entries = has.entries;
}

-- ---- a page that is missing is blank, and is no page of a table

pub else_of : (o : Option (List ℕ)) (x : List ℕ) → is_some o ≡ false → unwrap_or o x ≡ x
else_of None x none = refl
else_of (Some y) x none = absurd cc

blank_byte : (size at : ℕ) → byte (blank size) at ≡ 0
blank_byte size at = elim (cases_lt at size) [
  | inl inside ↦ get_or-replicate size at 0 0 inside
  | inr past_ ↦ get_or_past (blank size) at 0 (omega (arith, length-replicate {A = ℕ} size 0))
]

pub no_kind : (b : List ℕ) (size n kind owner at : ℕ) → b ≡ blank size → kind ≢ 0
    → PassesAll (common_checks b n kind owner at) → ⊥
unfolding common_checks
no_kind b size n kind owner at is some passes =
    some (sym passes.0 ∙ (ap (λ (x : List ℕ). byte x 0) is ∙ blank_byte size 0))

passes_first : (first others : List Check) → PassesAll (first ++ others) → PassesAll first
passes_first [] others passes = tt
passes_first (x ∷ xs) others passes = (passes.0, passes_first xs others passes.1)

no_pointer : (b : List ℕ) (size n owner at : ℕ) → b ≡ blank size
    → PassesAll (pointer_checks b n owner at) → ⊥
unfolding pointer_checks
no_pointer b size n owner at is passes = no_kind b size n POINTER_KIND owner at is
    (λ zero_. absurd (omega (arith, zero_))) (passes_first _ _ passes)

own_owner : (b : List ℕ) (n kind owner at : ℕ) → PassesAll (common_checks b n kind owner at)
    → (owner_in b ≡ owner) × (sequence_in b ≡ at)
unfolding common_checks
own_owner b n kind owner at passes = (passes.1.1.1.1.0, passes.1.1.1.1.1.0)

begins_or : (next : ℕ → ℕ) (n : ℕ) (ns : List ℕ) → LinkChain next n ns
    → (n ≡ 0) ⊎ ((later : List ℕ) × (ns ≡ n ∷ later))
begins_or next n ns ended = inl refl
begins_or next n ns (goes k ks some on) = inr (ks, refl)

has_behind : (ps : List ℕ) (n : ℕ) (later : List ℕ) (m : ℕ) → Has later m → Has (ps ++ n ∷ later) m
has_behind [] n later m has = inr has
has_behind (p ∷ ps) n later m has = inr (has_behind ps n later m has)

module _ {D : Type 0} (m : Meaning D)
    (counted : (disk : D) (image : Image) (n : ℕ) → m.held disk ≡ Some image → m.count disk ≡ Some n
    → length image ≡ n)
    (store : Pool D FireLinks) (image : Image) (in_primary : Bool) (size : ℕ) (stand : Stand)
    (tells : Tells m store.disk image)
    (stands : HasTablePages in_primary size (shown store.dirty image) stand) where
  abbrev pages : Pages
  pages = shown store.dirty image

  abbrev owner : ℕ
  owner = stand.table.pointer.0

  missing_blank : (n count : ℕ) → IsMissing m store [] n count → pages n ≡ blank store.dirty.size
  missing_blank n count missing =
      let long : length image ≡ count = counted store.disk image count tells.held missing.count_is in
      let beyond = missing.past in
      else_of (content_of store.dirty n) (page_at store.dirty.size image n) missing.clean
      ∙ get_or_past image n (blank store.dirty.size) (omega (arith, long, beyond))

  -- a data page of the table is there, and has no damage
  no_damage : (at n : ℕ) (page : PageNo) (damage : Damaged) → page.0 ≡ n
      → IsTableData in_primary size pages owner at n
      → IsAbsence m store [] page damage ⊎ IsFirstDamage (pages page.0) page owner at damage → ⊥
  no_damage at n page damage is data_page (inl absent) = no_kind (pages n) store.dirty.size n DATA_KIND
      owner at (missing_blank n absent.0 (subst (λ (k : ℕ). IsMissing m store [] k absent.0) is absent.2))
      (λ zero_. absurd (omega (arith, zero_))) data_page.wanted.fields
  no_damage at n page damage is data_page (inr damaged) =
      damaged_is_not_lawful (pages page.0) page owner at damage damaged
      (verdict_from_passes page (common_checks (pages page.0) page.0 DATA_KIND owner at)
      (subst (λ (k : ℕ). PassesAll (common_checks (pages k) k DATA_KIND owner at)) (sym is)
      data_page.wanted.fields))
      (subst (λ (k : ℕ). IsDataPage (pages k)) (sym is) data_page.lawful)

  link_sound : (ps later : List ℕ) (n : PageNo) (damage : Damaged)
      → stand.pointers ≡ ps ++ n.0 ∷ later
      → LinkChain (λ k. next_in (pages k)) (next_in (pages n.0)) later
      → IsLinkDamage n (pages n.0) (ps ++ n.0 ∷ []) damage → ⊥
  link_sound ps later n _ is on (past beyond) = at later is on
    where
      at : (rest : List ℕ) → stand.pointers ≡ ps ++ n.0 ∷ rest
          → LinkChain (λ k. next_in (pages k)) (next_in (pages n.0)) rest → ⊥
      at rest is_ chain = small (begins_or (λ k. next_in (pages k)) (next_in (pages n.0)) rest chain)
        where
          small : (next_in (pages n.0) ≡ 0) ⊎ ((last : List ℕ) × (rest ≡ next_in (pages n.0) ∷ last))
              → ⊥
          small (inl zero_) = omega (arith, zero_, beyond)
          small (inr (last, opens)) =
              let below : next_in (pages n.0) < GREATEST_LIMIT =
              each_has (IsTablePointer size pages owner) (λ k. k < GREATEST_LIMIT) 0 stand.pointers
              (next_in (pages n.0)) (λ k x it. it.below) stands.pointers
              (subst (λ (ns : List ℕ). Has ns (next_in (pages n.0))) (sym is_)
              (has_behind ps n.0 rest (next_in (pages n.0))
              (subst (λ (ns : List ℕ). Has ns (next_in (pages n.0))) (sym opens) (inl refl)))) in
              omega (arith, below, beyond)
  link_sound ps later n _ is on (back some has) = leads_on_only (λ k. next_in (pages k)) owner n.0 ps
      later stand.pointers stands.chain (is ∙ sym (append_assoc ps (n.0 ∷ []) later)) on has

  -- a pointer page of the table is there, and is as wanted
  pointer_at : (ps later : List ℕ) (n : ℕ) → stand.pointers ≡ ps ++ n ∷ later
      → PassesAll (pointer_checks (pages n) n owner (length ps))
  pointer_at ps later n is =
      let it : IsTablePointer size pages owner (0 + length ps) n =
      each_behind (IsTablePointer size pages owner) 0 ps n later
      (subst (EachFrom (IsTablePointer size pages owner) 0) is stands.pointers) in
      subst (λ (k : ℕ). PassesAll (pointer_checks (pages n) n owner k)) (same (length ps)) it.fields
    where
      same : (k : ℕ) → 0 + k ≡ k
      same k = omega arith

  pointer_sound : (ps later : List ℕ) (n : PageNo) (damage : Damaged)
      → stand.pointers ≡ ps ++ n.0 ∷ later
      → LinkChain (λ k. next_in (pages k)) (next_in (pages n.0)) later
      → IsAbsence m store [] n damage ⊎ IsPointerDamage pages owner ps n damage → ⊥
  pointer_sound ps later n damage is on (inl absent) = no_pointer (pages n.0) store.dirty.size n.0
      owner (length ps) (missing_blank n.0 absent.0 absent.2) (pointer_at ps later n.0 is)
  pointer_sound ps later n damage is on (inr (unlike e differs)) =
      let same : Ok tt ≡ Err e = sym (verdict_from_passes n
      (pointer_checks (pages n.0) n.0 owner (length ps)) (pointer_at ps later n.0 is)) ∙ differs in cc
  pointer_sound ps later n damage is on (inr (misled e tested link)) =
      link_sound ps later n e is on link

  led_sound : (ps : List ℕ) (n : PageNo) (damage : Damaged) → LeadsTo pages owner ps n.0 → n.0 ≢ 0
      → RefusesPointer m store [] pages owner ps n (faults.Damaged damage) → ⊥
  led_sound ps n damage leads some refused =
      let found = run_in_chain (λ k. next_in (pages k)) owner ps stand.pointers n.0 leads.run some
      stands.chain in
      pointer_sound ps found.0 n damage found.1 found.2 refused

  chain_sound : (damage : Damaged) → IsBrokenChain m store [] pages owner (faults.Damaged damage) → ⊥
  chain_sound damage it = led_sound it.pointers it.page damage it.leads it.some it.refused

  listed_sound : (place : ℕ) (page : PageNo) (damage : Damaged) → place < length stand.data_pages
      → get_or stand.data_pages place 0 ≡ page.0
      → RefusesTableData m store [] (pages page.0) owner place page (faults.Damaged damage) → ⊥
  listed_sound place page damage inside listed refused =
      no_damage place (get_or stand.data_pages place 0) page damage (sym listed)
      (subst (λ (k : ℕ). IsTableData in_primary size pages owner k (get_or stand.data_pages place 0))
      (first place)
      (each_at (IsTableData in_primary size pages owner) 0 stand.data_pages place stands.data_pages inside))
      refused
    where
      first : (k : ℕ) → 0 + k ≡ k
      first k = omega arith

  table_sound : (damage : Damaged) → IsBrokenTable m store [] pages owner (faults.Damaged damage) → ⊥
  table_sound damage it =
      let same : it.data_pages ≡ stand.data_pages = table_once pages owner it.pointers it.data_pages
      stand.pointers stand.data_pages it.table (stands_are_tables in_primary size pages stand stands) in
      let broken = it.broken in
      listed_sound broken.place broken.page damage
      (subst (λ (ns : List ℕ). broken.place < length ns) same broken.inside)
      (sym (ap (λ (ns : List ℕ). get_or ns broken.place 0) same) ∙ broken.listed) broken.refused

  walk_sound : (damage : Damaged) → RefusesWalk m store [] pages owner (faults.Damaged damage) → ⊥
  walk_sound damage (inl chain) = chain_sound damage chain
  walk_sound damage (inr table) = table_sound damage table

  -- ---- from a record to the next one

  is_table : IsTable pages owner stand.pointers stand.data_pages
  is_table = stands_are_tables in_primary size pages stand stands

  place_sound : (place : ℕ) (damage : Damaged)
      → RefusesPlace m store [] pages owner place (faults.Damaged damage) → ⊥
  place_sound place damage it = led_sound it.pointers it.page damage it.leads it.some it.refused

  broken_sound : (place : ℕ) (damage : Damaged)
      → IsBrokenPlace m store [] pages owner place (faults.Damaged damage) → ⊥
  broken_sound place damage it =
      let there = place_there pages owner stand.pointers stand.data_pages is_table place it.page it.found in
      listed_sound place it.page damage there.0 there.1 it.refused

  from_sound : (start : ℕ) (damage : Damaged)
      → RefusesFrom m store [] pages owner start (faults.Damaged damage) → ⊥
  from_sound start damage it = at it.refused
    where
      at : RefusesPlace m store [] pages owner it.place (faults.Damaged damage)
          ⊎ IsBrokenPlace m store [] pages owner it.place (faults.Damaged damage) → ⊥
      at (inl place) = place_sound it.place damage place
      at (inr broken) = broken_sound it.place damage broken

  -- a page of the table stands at the place that it names
  misplaced_sound : (page : PageNo) (damage : Damaged) → Has stand.data_pages page.0
      → IsMisplaced pages owner page (sequence_in (pages page.0)) damage → ⊥
  misplaced_sound page damage within it = at it.there it.found it.other
    where
      place : ℕ
      place = sequence_in (pages page.0)

      there : (place < length stand.data_pages) × (get_or stand.data_pages place 0 ≡ page.0)
      there = stands_at_its_place in_primary size pages owner stand.data_pages page.0 stands.data_pages within

      numbered : ℕ → PageNo
      numbered k = record { 0 = k }

      at : (found : Option PageNo) → FindsPlace pages owner place found → (found ≡ Some page → ⊥) → ⊥
      at None found other =
          let few = none_there pages owner stand.pointers stand.data_pages is_table place found in
          let inside = there.0 in omega (arith, few, inside)
      at (Some n) found other =
          let its = place_there pages owner stand.pointers stand.data_pages is_table place n found in
          other (ap (λ (k : ℕ). Some (numbered k)) (sym its.1 ∙ there.1))

  behind_sound : (page : PageNo) (damage : Damaged) → Has stand.data_pages page.0
      → RefusesBehind m store [] pages owner page (sequence_in (pages page.0)) (faults.Damaged damage)
      → ⊥
  behind_sound page damage within (inl place) = place_sound (sequence_in (pages page.0)) damage place
  behind_sound page damage within (inr (inl misplaced)) = misplaced_sound page damage within misplaced
  behind_sound page damage within (inr (inr later)) =
      from_sound (sequence_in (pages page.0) + 1) damage later

  own_page_sound : (x : RecId) (damage : Damaged)
      → (at : ℕ) × IsTableData in_primary size pages owner at x.page.0
      → RefusesData m store [] x.page (pages x.page.0) (faults.Damaged damage) → ⊥
  own_page_sound x damage (at, data_page) (inl absent) =
      no_damage at x.page.0 x.page damage refl data_page (inl absent)
  own_page_sound x damage (at, data_page) (inr damaged) =
      let own = own_owner (pages x.page.0) x.page.0 DATA_KIND owner at data_page.wanted.fields in
      no_damage at x.page.0 x.page damage refl data_page
      (inr (subst (λ (k : ℕ). IsFirstDamage (pages x.page.0) x.page owner k damage) own.1
      (subst (λ (k : ℕ). IsFirstDamage (pages x.page.0) x.page k (sequence_in (pages x.page.0)) damage)
      own.0 damaged)))

  next_sound : (after : Option RecId) (damage : Damaged) → StandsIn stand.data_pages after
      → RefusesNext m store [] pages owner after (faults.Damaged damage) → ⊥
  next_sound None damage within refused = from_sound 0 damage refused
  next_sound (Some x) damage within (inl own) = own_page_sound x damage
      (each_has (IsTableData in_primary size pages owner)
      (λ n. (at : ℕ) × IsTableData in_primary size pages owner at n) 0 stand.data_pages x.page.0
      (λ k n it. (k, it)) stands.data_pages within) own
  next_sound (Some x) damage within (inr (last, behind)) = behind_sound x.page damage within behind

  pub walking_sound : (after : Option RecId) (damage : Damaged) → StandsIn stand.data_pages after
      → RefusesWalking m store [] pages owner after (faults.Damaged damage) → ⊥
  walking_sound after damage within (inl next) = next_sound after damage within next
  walking_sound after damage within (inr walk) = walk_sound damage walk

pub meets_no_damage : {D : Type 0} (m : Meaning D)
    → ((disk : D) (image : Image) (n : ℕ) → m.held disk ≡ Some image → m.count disk ≡ Some n
    → length image ≡ n) → WalksMeetNoDamage m
meets_no_damage m counted store image in_primary size stand after damage tells stands within =
    walking_sound m counted store image in_primary size stand tells stands after damage within
