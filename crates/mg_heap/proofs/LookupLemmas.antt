-- Lemmas of looking up the data page at a place.
use Rattle.std.proofs.Common.{◌≡◌, ◌≢◌, ◌<◌, ◌≤◌, ◌+◌, ◌*◌, ◌-◌, ◌^◌, ◌++◌, ◌∷◌, [], ◌∙◌, ℕ, true, List, Option, None, Some, length, length-append, get_or, refl, sym, ap, subst, arith}
use Rattle.std.proofs.lemmas.List.{get_or-append-add}
use Rattle.mg_base.specs.Checks.{PassesAll}
use Rattle.mg_base.specs.Disk.{Meaning}
use Rattle.mg_base.specs.Geometry.{is_page_size}
use Rattle.mg_base.specs.declared.geometry.TheConstants.{GREATEST_LIMIT}
use Rattle.mg_base.specs.declared.numbers.PageNo.{PageNo}
use Rattle.mg_image.specs.Form.{Pages}
use Rattle.mg_image.specs.Tables.{entries_in}
use Rattle.mg_pointer.specs.PointerPage.{IsPointerPage, entries_of, next_in, pointer_checks}
use Rattle.mg_pool.specs.declared.batch.BatchPage.{BatchPage}
use Rattle.mg_pool.specs.declared.pool.Pool.{Pool}
use Rattle.mg_space.specs.declared.fault.SpaceFault.{SpaceFault}
use Rattle.mg_space.specs.declared.fault.SpaceFault.TheVariants as faults
use Rattle.mg_heap.specs.Places.{EndsBefore, FindsPlace, HasCount, IsFew, IsPageIn, LooksUp, Passes, Reaches, RefusesPlace, Says}
use Rattle.mg_heap.specs.Table.{LeadsTo, LinksTo, ListsPage, RefusesPointer, RefusesTable}
use Rattle.mg_heap.specs.TableLaws.{entries_push, leads_on, table_ends}
use Rattle.mg_heap.specs.declared.lookup.Look.{Look}
use Rattle.mg_heap.specs.declared.lookup.Look.TheVariants.{Here, Past}
use Rattle.mg_heap.specs.declared.lookup.Reached.{Reached}
use Rattle.mg_heap.specs.declared.lookup.Reached.TheVariants.{At, End}
use Rattle.std.specs.Prelude.{IfSome}
use Rattle.mg_heap.proofs.TableLemmas.{entries_few, lists_page, tested_at}

-- ---- one pointer page

most_entries : (page : List ℕ) (size : ℕ) → is_page_size size ≡ true → length page ≡ size
    → IsPointerPage page → length (entries_of page) ≤ 4090
most_entries page size lawful len may = entries_few page [] (entries_of page) size lawful len may refl

module _ (old new : List ℕ) (n rest size : ℕ) (slice read : List ℕ) (lawful : is_page_size size ≡ true)
    (len : length read ≡ size) (may : IsPointerPage read) (same : slice ≡ read) where
  pub here_passes : (page : PageNo) → new ≡ old → rest < length (entries_of slice)
      → Passes old new n rest (Here page)
  here_passes page stays inside = (
    stays,
    (let most = most_entries read size lawful len may in
        omega (arith, inside, most, ap (λ (b : List ℕ). length (entries_of b)) same)),
  )

  pub past_passes : (count : ℕ) (next : PageNo) → new ≡ old ++ n ∷ [] → LinksTo read new next.0
      → count ≡ length (entries_of slice) → Passes old new n rest (Past (rest - count) next)
  past_passes count next listed links is = (
    lists_page old new n read next.0 listed links,
    (let most = most_entries read size lawful len may in
        omega (arith, is, most, ap (λ (b : List ℕ). length (entries_of b)) same)),
  )

module _ (pages : Pages) (owner at : ℕ) (pointers : List ℕ) (n rest : ℕ) (read : List ℕ)
    (is : at ≡ length pointers) (seen : read ≡ pages n)
    (passes : PassesAll (pointer_checks read n owner at)) where
  pub looks_here : (slice : List ℕ) (page : PageNo) → slice ≡ read
      → (rest < length (entries_of slice)) × (get_or (entries_of slice) rest 0 ≡ page.0)
      → LooksUp pages owner pointers n rest (Here page)
  looks_here slice page same found = record {
    tested = tested_at pages owner at pointers n read is seen passes;
    says = subst (λ (b : List ℕ). Says b rest (Here page)) (same ∙ seen) found;
  }

  pub looks_past : (slice other listed : List ℕ) (count : ℕ) (next : PageNo) → slice ≡ read → other ≡ read
      → length (entries_of slice) ≤ rest → count ≡ length (entries_of other) → LinksTo read listed next.0
      → LooksUp pages owner pointers n rest (Past (rest - count) next)
  looks_past slice other listed count next same other_same few count_is links = record {
    tested = tested_at pages owner at pointers n read is seen passes;
    says = (
      omega (
        arith,
        few,
        count_is,
        ap (λ (b : List ℕ). length (entries_of b)) same,
        ap (λ (b : List ℕ). length (entries_of b)) other_same,
        ap (λ (b : List ℕ). length (entries_of b)) seen,
      ),
      links.next_is ∙ ap next_in seen,
    );
  }

-- what is passed is not more than there is
pub count_fits : (slice other read : List ℕ) (count rest : ℕ) → slice ≡ read → other ≡ read
    → length (entries_of slice) ≤ rest → count ≡ length (entries_of other) → count ≤ rest
count_fits slice other read count rest same other_same few is =
    omega (
      arith,
      few,
      is,
      ap (λ (b : List ℕ). length (entries_of b)) same,
      ap (λ (b : List ℕ). length (entries_of b)) other_same,
    )

-- what a page that was looked at does to the list
module _ (old new : List ℕ) (n rest : ℕ) (look : Look) where
  pub here_few : (page : PageNo) → look ≡ Here page → Passes old new n rest look → rest < 4090
  here_few page is passes = (subst (Passes old new n rest) is passes).1

  pub past_lists : (left : ℕ) (next : PageNo) → look ≡ Past left next → Passes old new n rest look
      → ListsPage old new n next.0
  past_lists left next is passes = (subst (Passes old new n rest) is passes).0

  pub past_few : (left : ℕ) (next : PageNo) → look ≡ Past left next → Passes old new n rest look
      → rest ≤ left + 4090
  past_few left next is passes = (subst (Passes old new n rest) is passes).1

-- ---- all of them

pub at_first : (pages : Pages) (pointers : List ℕ) (place : ℕ) → pointers ≡ []
    → place + length (entries_in pages pointers) ≡ place
at_first pages pointers place none = subst (λ (ns : List ℕ). place + length (entries_in pages ns) ≡ place)
    (sym none) (nothing place)
  where
    nothing : (k : ℕ) → k + 0 ≡ k
    nothing k = omega arith

pub few_first : (pointers : List ℕ) (place : ℕ) → place ≤ 4090 * length pointers + place
few_first pointers place = omega arith

pub few_passed : (pointers listed : List ℕ) (n place rest left : ℕ) → place ≤ 4090 * length pointers + rest
    → rest ≤ left + 4090 → listed ≡ pointers ++ n ∷ [] → place ≤ 4090 * length listed + left
few_passed pointers listed n place rest left before here is =
    omega (arith, before, here, ap (length {A = ℕ}) is, length-append pointers (n ∷ []))

pub few_here : (pointers : List ℕ) (place rest : ℕ) → length pointers < GREATEST_LIMIT
    → place ≤ 4090 * length pointers + rest → rest < 4090 → place + 1 < 2 ^ 32
few_here pointers place rest short before here = omega (arith, short, before, here)

module _ (pages : Pages) (owner place : ℕ) (pointers : List ℕ) (n rest : ℕ)
    (leads : LeadsTo pages owner pointers n)
    (passed : rest + length (entries_in pages pointers) ≡ place) where
  pub looked_on : (listed : List ℕ) (left : ℕ) (next : PageNo) → n ≢ 0
      → LooksUp pages owner pointers n rest (Past left next) → listed ≡ pointers ++ n ∷ []
      → LeadsTo pages owner listed next.0
  looked_on listed left next some looks is = subst (λ (ns : List ℕ). LeadsTo pages owner ns next.0) (sym is)
      (leads_on pages owner pointers n next.0 leads some looks.tested looks.says.1)

  pub passed_on : (listed : List ℕ) (left : ℕ) (next : PageNo)
      → LooksUp pages owner pointers n rest (Past left next) → listed ≡ pointers ++ n ∷ []
      → left + length (entries_in pages listed) ≡ place
  passed_on listed left next looks is =
      let count = looks.says.0 in
      omega (
        arith,
        passed,
        count,
        ap (λ (ns : List ℕ). length (entries_in pages ns)) is,
        ap (length {A = ℕ}) (entries_push pages pointers n),
        length-append (entries_in pages pointers) (entries_of (pages n)),
      )

  pub found_here : (page : PageNo) → n ≢ 0 → LooksUp pages owner pointers n rest (Here page)
      → FindsPlace pages owner place (Some page)
  found_here page some looks = record {
    pointers = pointers ++ n ∷ [];
    data_pages = entries_in pages (pointers ++ n ∷ []);
    next = next_in (pages n);
    front = record {
      leads = leads_on pages owner pointers n (next_in (pages n)) leads some looks.tested refl;
      entries = refl;
    };
    is_entry = (
      (let inside = looks.says.0 in
          omega (
            arith,
            passed,
            inside,
            ap (length {A = ℕ}) (entries_push pages pointers n),
            length-append (entries_in pages pointers) (entries_of (pages n)),
          )),
      ap (λ (xs : List ℕ). get_or xs place 0) (entries_push pages pointers n)
          ∙ (ap (λ (k : ℕ). get_or (entries_in pages pointers ++ entries_of (pages n)) k 0) there
          ∙ (get_or-append-add (entries_in pages pointers) (entries_of (pages n)) rest 0 ∙ looks.says.1)),
    );
  }
    where
      there : place ≡ length (entries_in pages pointers) + rest
      there = omega (arith, passed)

  pub ends_here : n ≡ 0 → EndsBefore pages owner place rest
  ends_here zero_ = record {
    pointers = pointers;
    data_pages = entries_in pages pointers;
    front = record { leads = subst (LeadsTo pages owner pointers) zero_ leads; entries = refl };
    passed = passed;
  }

-- ---- what was reached

pub page_few : (place : ℕ) (reached : Reached) (found : Option PageNo) → IsPageIn reached found
    → IsFew place reached → IfSome found (λ page. place + 1 < 2 ^ 32)
page_few place (At page) found is few =
    subst (λ (o : Option PageNo). IfSome o (λ page. place + 1 < 2 ^ 32)) (sym is) few
page_few place (End left) found is few =
    subst (λ (o : Option PageNo). IfSome o (λ page. place + 1 < 2 ^ 32)) (sym is) tt

pub page_reached : (pages : Pages) (owner place : ℕ) (reached : Reached) (found : Option PageNo)
    → IsPageIn reached found → Reaches pages owner place reached → FindsPlace pages owner place found
page_reached pages owner place (At page) found is reaches =
    subst (FindsPlace pages owner place) (sym is) reaches
page_reached pages owner place (End left) found is reaches =
    subst (FindsPlace pages owner place) (sym is) (record {
      pointers = reaches.pointers;
      data_pages = reaches.data_pages;
      next = 0;
      front = reaches.front;
      is_entry = (refl, (let passed = reaches.passed in omega (arith, passed)));
    })

pub counted : (pages : Pages) (owner : ℕ) (reached : Reached) (count : ℕ) → IsFew 4294967295 reached
    → ((left : ℕ) → reached ≡ End left → count + left ≡ 4294967295)
    → Reaches pages owner 4294967295 reached → HasCount pages owner count
counted pages owner (At page) count few is reaches = absurd (omega (arith, few))
counted pages owner (End left) count few is reaches = record {
  pointers = reaches.pointers;
  data_pages = reaches.data_pages;
  table = table_ends pages owner reaches.pointers reaches.data_pages 0 reaches.front.leads refl
      reaches.front.entries;
  count_is = let passed = reaches.passed in let told = is left refl in omega (arith, passed, told);
}

-- the table is not found either
pub table_refused : {D L : Type 0} (m : Meaning D) (store : Pool D L) (batch : List BatchPage)
    (pages : Pages) (owner place : ℕ) (fault : SpaceFault)
    → RefusesPlace m store batch pages owner place fault → RefusesTable m store batch pages owner fault
table_refused m store batch pages owner place (faults.Full limit) refused = refused
table_refused m store batch pages owner place (faults.Damaged damage) refused = record {
  pointers = refused.pointers;
  page = refused.page;
  leads = refused.leads;
  some = refused.some;
  refused = refused.refused;
}
table_refused m store batch pages owner place (faults.Pool fault) refused = tt

-- the chain breaks before
pub place_refused : {D L : Type 0} (m : Meaning D) (store : Pool D L) (batch : List BatchPage)
    (pages : Pages) (owner place : ℕ) (pointers : List ℕ) (n : PageNo) (rest : ℕ) (fault : SpaceFault)
    → LeadsTo pages owner pointers n.0 → n.0 ≢ 0 → rest + length (entries_in pages pointers) ≡ place
    → RefusesPointer m store batch pages owner pointers n fault
    → RefusesPlace m store batch pages owner place fault
place_refused m store batch pages owner place pointers n rest (faults.Full limit) leads some passed refused =
    refused
place_refused m store batch pages owner place pointers n rest (faults.Damaged damage) leads some passed
    refused = record {
      pointers = pointers;
      page = n;
      leads = leads;
      some = some;
      before = omega (arith, passed);
      refused = refused;
    }
place_refused m store batch pages owner place pointers n rest (faults.Pool fault) leads some passed refused =
    tt
