-- Laws of the records of a table, by the places that their pages name: a place has one page at most, and
-- where a table stands in a layout these are the records on its data pages.
use Rattle.std.specs.Prelude.{◌≡◌, ◌<◌, ◌≤◌, ◌⊎◌, Bool, ℕ, suc, true, List, [], ◌∷◌, ◌++◌, Option, None, Some, Ok, length}
use Rattle.std.proofs.Common.{refl, sym, ap, subst, ◌∙◌, arith, inl, inr, length-append, get_or}
use Rattle.std.proofs.lemmas.Grind.{flat_map-append}
use Rattle.std.proofs.lemmas.List.{append-nil, get_or_append_left}
use Rattle.mg_base.specs.CheckLaws.{verdict_from_passes}
use Rattle.mg_base.specs.Checks.{PassesAll, common_checks}
use Rattle.mg_base.specs.declared.numbers.PageNo.{PageNo}
use Rattle.mg_base.specs.declared.numbers.RecId.{RecId}
use Rattle.mg_image.specs.Form.{Pages}
use Rattle.mg_image.specs.Sound.{HasTablePages, IsTableData}
use Rattle.mg_image.specs.Tables.{EachFrom, Has, LinkChain, Stand, ended, entries_in, goes}
use Rattle.mg_pointer.specs.PointerPage.{entries_of, next_in}
use Rattle.mg_slots.specs.DataPage.{cell_of}
use Rattle.mg_slots.specs.Verdict.{common_verdict}
use Rattle.mg_slots.specs.declared.page.TheConstants.{DATA_KIND}
use Rattle.mg_heap.specs.Listed.{IsRecordOf}
use Rattle.mg_heap.specs.Places.{FindsPlace}
use Rattle.mg_heap.specs.PlacesLaws.{place_there}
use Rattle.mg_heap.specs.Reading.{owner_in, sequence_in}
use Rattle.mg_heap.specs.Stands.{TablesAreWalked}
use Rattle.mg_heap.specs.StandsLaws.{names_place, stands_at_its_place}
use Rattle.mg_heap.specs.Table.{IsTable, LinkRun, more, none}
use Rattle.mg_heap.specs.Walk.{is_primary}
use Rattle.mg_heap.specs.WalkLaws.{has_at}

-- ---- a place has one page at most

-- a run from no page has no page
run_nowhere : (next : ℕ → ℕ) (f n : ℕ) (ps : List ℕ) → LinkRun next f ps n → f ≡ 0 → ps ≡ []
run_nowhere next f n ps (none k) zero_ = refl
run_nowhere next f n ps (more g k ks some run) zero_ = absurd (some zero_)

run_opens : (next : ℕ → ℕ) (f n : ℕ) (ps : List ℕ) → LinkRun next f ps n
    → ((f ≡ n) × (ps ≡ [])) ⊎ ((later : List ℕ) × (ps ≡ f ∷ later) × LinkRun next (next f) later n)
run_opens next f n ps (none k) = inl (refl, refl)
run_opens next f n ps (more g k ks some run) = inr (ks, refl, run)

-- one of two runs is the first part of the other
abbrev AreParts : (ℕ → ℕ) → ℕ → ℕ → List ℕ → List ℕ → Type 0
AreParts next n m ps qs = ((later : List ℕ) × (qs ≡ ps ++ later) × LinkRun next n later m)
    ⊎ ((later : List ℕ) × (ps ≡ qs ++ later) × LinkRun next m later n)

parts_on : (next : ℕ → ℕ) (f n m : ℕ) (ps qs later : List ℕ) → qs ≡ f ∷ later
    → AreParts next n m ps later → AreParts next n m (f ∷ ps) qs
parts_on next f n m ps qs later is (inl (rest, same, run)) =
    inl (rest, is ∙ ap (λ (xs : List ℕ). f ∷ xs) same, run)
parts_on next f n m ps qs later is (inr (rest, same, run)) =
    inr (rest, ap (λ (xs : List ℕ). f ∷ xs) same ∙ sym (ap (λ (xs : List ℕ). xs ++ rest) is), run)

runs_part : (next : ℕ → ℕ) (f n m : ℕ) (ps qs : List ℕ) → LinkRun next f ps n → LinkRun next f qs m
    → AreParts next n m ps qs
runs_part next f n m ps qs (none k) second = inl (qs, refl, second)
runs_part next f n m ps qs (more g k ks some run) second =
    at (run_opens next g m qs second) (λ later on. runs_part next (next g) n m ks later run on)
  where
    at : ((g ≡ m) × (qs ≡ [])) ⊎ ((later : List ℕ) × (qs ≡ g ∷ later) × LinkRun next (next g) later m)
        → ((later : List ℕ) → LinkRun next (next g) later m → AreParts next n m ks later)
        → AreParts next n m (g ∷ ks) qs
    at (inl (same, empty)) further = inr (
      g ∷ ks,
      sym (ap (λ (xs : List ℕ). xs ++ g ∷ ks) empty),
      subst (λ (x : ℕ). LinkRun next x (g ∷ ks) n) same (more g n ks some run),
    )
    at (inr (later, is, on)) further = parts_on next g n m ks qs later is (further later on)

module _ (pages : Pages) (owner place : ℕ) where
  -- what one page lists at a place, a longer list has there
  same_there : (ds es xs : List ℕ) → es ≡ ds ++ xs → place < length ds
      → get_or es place 0 ≡ get_or ds place 0
  same_there ds es xs is inside = ap (λ (ns : List ℕ). get_or ns place 0) is
      ∙ get_or_append_left ds xs 0 place inside

  lists_on : (ps qs later ds es : List ℕ) → qs ≡ ps ++ later → ds ≡ entries_in pages ps
      → es ≡ entries_in pages qs → es ≡ ds ++ entries_in pages later
  lists_on ps qs later ds es is ds_are es_are = es_are
      ∙ (ap (entries_in pages) is
      ∙ (flat_map-append (λ (n : ℕ). entries_of (pages n)) ps later
      ∙ ap (λ (xs : List ℕ). xs ++ entries_in pages later) (sym ds_are)))

  longer : (ds es xs : List ℕ) → es ≡ ds ++ xs → length ds ≤ length es
  longer ds es xs is = omega (arith, ap (length {A = ℕ}) is, length-append ds xs)

  parts : (a b : Option PageNo) (first : FindsPlace pages owner place a)
      (second : FindsPlace pages owner place b)
      → AreParts (λ n. next_in (pages n)) first.next second.next first.pointers second.pointers
  parts a b first second = runs_part (λ (n : ℕ). next_in (pages n)) owner first.next second.next
      first.pointers second.pointers first.front.leads.run second.front.leads.run

  no_none : (a : PageNo) → FindsPlace pages owner place (Some a) → FindsPlace pages owner place None → ⊥
  no_none a first second = at (parts (Some a) None first second)
    where
      inside : place < length first.data_pages
      inside = first.is_entry.0

      few : length second.data_pages ≤ place
      few = second.is_entry.1

      at : AreParts (λ n. next_in (pages n)) first.next second.next first.pointers second.pointers → ⊥
      at (inl (later, is, run)) =
          let long : length first.data_pages ≤ length second.data_pages =
          longer first.data_pages second.data_pages (entries_in pages later)
          (lists_on first.pointers second.pointers later first.data_pages second.data_pages is
          first.front.entries second.front.entries) in
          omega (arith, long, inside, few)
      at (inr (later, is, run)) =
          let empty : later ≡ [] = run_nowhere (λ (n : ℕ). next_in (pages n)) second.next first.next later
          run second.is_entry.0 in
          let same : first.pointers ≡ second.pointers =
          is ∙ (ap (λ (xs : List ℕ). second.pointers ++ xs) empty ∙ append-nil second.pointers) in
          let listed : first.data_pages ≡ second.data_pages =
          first.front.entries ∙ (ap (entries_in pages) same ∙ sym second.front.entries) in
          omega (arith, ap (length {A = ℕ}) listed, inside, few)

  same_page : (a b : PageNo) → FindsPlace pages owner place (Some a) → FindsPlace pages owner place (Some b)
      → b.0 ≡ a.0
  same_page a b first second = sym second.is_entry.1
      ∙ (at (parts (Some a) (Some b) first second) ∙ first.is_entry.1)
    where
      at : AreParts (λ n. next_in (pages n)) first.next second.next first.pointers second.pointers
          → get_or second.data_pages place 0 ≡ get_or first.data_pages place 0
      at (inl (later, is, run)) = same_there first.data_pages second.data_pages (entries_in pages later)
          (lists_on first.pointers second.pointers later first.data_pages second.data_pages is
          first.front.entries second.front.entries) first.is_entry.0
      at (inr (later, is, run)) = sym (same_there second.data_pages first.data_pages
          (entries_in pages later)
          (lists_on second.pointers first.pointers later second.data_pages first.data_pages is
          second.front.entries first.front.entries) second.is_entry.0)

  -- whatever is found at a place is the page that is found there
  pub one_place : (a : PageNo) (there : Option PageNo) → FindsPlace pages owner place (Some a)
      → FindsPlace pages owner place there → there ≡ Some a
  one_place a None first second = absurd (no_none a first second)
  one_place a (Some b) first second = ap (λ (k : ℕ). Some (numbered k)) (same_page a b first second)
    where
      numbered : ℕ → PageNo
      numbered k = record { 0 = k }

-- ---- in a table that stands in a layout

chain_run : (next : ℕ → ℕ) (f : ℕ) (ps : List ℕ) → LinkChain next f ps → LinkRun next f ps 0
chain_run next f ps ended = none 0
chain_run next f ps (goes g ks some on) = more g 0 ks some (chain_run next (next g) ks on)

module _ (pages : Pages) (owner : ℕ) (pointers data_pages : List ℕ)
    (table : IsTable pages owner pointers data_pages) where
  -- the page of a record is one of the table's
  pub page_of_record : (rec : RecId) → IsRecordOf pages owner rec → Has data_pages rec.page.0
  page_of_record rec is =
      let there = place_there pages owner pointers data_pages table (sequence_in (pages rec.page.0)) rec.page
      is.listed in
      subst (Has data_pages) there.1 (has_at data_pages (sequence_in (pages rec.page.0)) there.0)

  -- a page that the table has at a place is found there
  pub found_at : (place : ℕ) (page : PageNo) → place < length data_pages
      → get_or data_pages place 0 ≡ page.0 → FindsPlace pages owner place (Some page)
  found_at place page inside is = record {
    pointers = pointers;
    data_pages = data_pages;
    next = 0;
    front = record {
      leads = record {
        run = chain_run (λ (n : ℕ). next_in (pages n)) owner pointers table.chain;
        tested = table.tested;
      };
      entries = table.entries;
    };
    is_entry = (inside, is);
  }

each_of : (P : ℕ → ℕ → Type 0) (at : ℕ) (ns : List ℕ) (n : ℕ) → EachFrom P at ns → Has ns n
    → (place : ℕ) × P place n
each_of P at [] n each has = absurd has
each_of P at (m ∷ ms) n each (inl same) = (at, subst (P at) (sym same) each.0)
each_of P at (m ∷ ms) n each (inr later) = each_of P (suc at) ms n each.1 later

names_owner : (b : List ℕ) (n kind owner at : ℕ) → PassesAll (common_checks b n kind owner at)
    → owner_in b ≡ owner
unfolding common_checks
names_owner b n kind owner at passes = passes.1.1.1.1.0

-- a data page is one of the owner and of the place that it names
pub own_data : (page : PageNo) (b : List ℕ) (owner at : ℕ)
    → PassesAll (common_checks b page.0 DATA_KIND owner at)
    → common_verdict b page DATA_KIND (owner_in b) (sequence_in b) ≡ Ok tt
own_data page b owner at passes = verdict_from_passes page
    (common_checks b page.0 DATA_KIND (owner_in b) (sequence_in b))
    (subst (λ (k : ℕ). PassesAll (common_checks b page.0 DATA_KIND k (sequence_in b)))
    (sym (names_owner b page.0 DATA_KIND owner at passes))
    (subst (λ (k : ℕ). PassesAll (common_checks b page.0 DATA_KIND owner k))
    (sym (names_place b page.0 DATA_KIND owner at passes)) passes))

-- each primary slot of a data page of the table is a record of it
pub record_of_page : TablesAreWalked → (in_primary : Bool) (size : ℕ) (pages : Pages) (stand : Stand)
    → HasTablePages in_primary size pages stand → (rec : RecId) → Has stand.data_pages rec.page.0
    → is_primary (cell_of (pages rec.page.0) rec.slot) ≡ true
    → IsRecordOf pages stand.table.pointer.0 rec
record_of_page walked in_primary size pages stand has rec within primary =
    let (at, data_page) = each_of (IsTableData in_primary size pages stand.table.pointer.0) 0
    stand.data_pages rec.page.0 has.data_pages within in
    let there = stands_at_its_place in_primary size pages stand.table.pointer.0 stand.data_pages rec.page.0
    has.data_pages within in
    record {
      stands = record {
        data_page = record {
          common = own_data rec.page (pages rec.page.0) stand.table.pointer.0 at data_page.wanted.fields;
          lawful = data_page.lawful;
        };
        its = names_owner (pages rec.page.0) rec.page.0 DATA_KIND stand.table.pointer.0 at
            data_page.wanted.fields;
        primary = primary;
      };
      listed = found_at pages stand.table.pointer.0 stand.pointers stand.data_pages
          (walked in_primary size pages stand has) (sequence_in (pages rec.page.0)) rec.page there.0
          there.1;
    }
