-- Lemmas of following the chain of a table's pointer pages.
use Rattle.std.proofs.Common.{◌≡◌, ◌≢◌, ◌<◌, ◌≤◌, ◌+◌, ◌*◌, ◌-◌, ◌^◌, ◌++◌, ◌∷◌, [], ◌∙◌, ◌⊎◌, inl, inr, ℕ, true, List, length, length-append, refl, sym, ap, subst, arith, Result, Ok, Err}
use Rattle.std.specs.Prelude.{IsErr, IsErrAnd, MatchResult, OnOk}
use Rattle.mg_base.specs.Checks.{PassesAll, verdict}
use Rattle.mg_base.specs.CheckLaws.{passes_from_verdict}
use Rattle.mg_base.specs.Disk.{Meaning}
use Rattle.mg_base.specs.Geometry.{is_page_size}
use Rattle.mg_base.specs.Image.{Image}
use Rattle.mg_base.specs.declared.damage.Damaged.{Damaged}
use Rattle.mg_base.specs.declared.geometry.Geometry.{Geometry}
use Rattle.mg_base.specs.declared.geometry.TheConstants.{GREATEST_LIMIT}
use Rattle.mg_base.specs.declared.numbers.PageNo.{PageNo}
use Rattle.mg_image.specs.Form.{Pages}
use Rattle.mg_image.specs.Tables.{Has, IsOnce, entries_in}
use Rattle.mg_pointer.specs.PointerPage.{IsPointerPage, entries_of, next_in, pointer_checks}
use Rattle.mg_pointer.specs.PointerPageLaws.{length-entries_of, page_that_passes}
use Rattle.mg_pool.specs.Batch.{Changed}
use Rattle.mg_pool.specs.declared.batch.BatchPage.{BatchPage}
use Rattle.mg_pool.specs.declared.pool.Pool.{Pool}
use Rattle.mg_space.specs.Taking.{IsGeometry}
use Rattle.mg_space.specs.TakingLaws.{page_sizes}
use Rattle.mg_space.specs.View.{AreWhole, KeepsStore, Tells, viewed}
use Rattle.mg_space.specs.ViewLaws.{tells_on, viewed_on}
use Rattle.mg_space.specs.declared.fault.SpaceFault.{SpaceFault}
use Rattle.mg_space.specs.declared.fault.SpaceFault.TheVariants as faults
use Rattle.mg_heap.specs.Table.{FollowsPage, IsLinkDamage, IsPointerAt, IsPointerDamage, LeadsTo, LinksTo, ListsPage, RefusesPointer, RefusesPointerPage, RefusesTable, back, link_damage, misled, past, unlike}
use Rattle.mg_heap.specs.TableLaws.{entries_push, has_push, leads_on, once_push, once_short}

pub handed_on : {T : Type 0} (result : Result T SpaceFault) (fault : SpaceFault)
    (P : T → Type 0) (Q : SpaceFault → Type 0) → IsErr result
    → IsErrAnd result (λ given. given ≡ fault) → Q fault → MatchResult result P Q
handed_on (Ok x) fault P Q err is holds = absurd cc
handed_on (Err e) fault P Q err is holds = subst Q (sym is) holds

-- ---- one page

pub passes_ok : (page : PageNo) (b : List ℕ) (owner at : ℕ) (result : Result (Unit {0}) Damaged)
    (x : Unit {0}) → result ≡ verdict page (pointer_checks b page.0 owner at) → result ≡ Ok x
    → PassesAll (pointer_checks b page.0 owner at)
passes_ok page b owner at result x is ok = passes_from_verdict page (pointer_checks b page.0 owner at)
    (sym is ∙ ok)

pub unlike_seen : {D L : Type 0} (m : Meaning D) (store : Pool D L) (batch : List BatchPage)
    (read b : List ℕ) (owner at : ℕ) (n : PageNo) (damage : Damaged) → read ≡ b
    → Err damage ≡ verdict n (pointer_checks read n.0 owner at)
    → RefusesPointerPage m store batch b owner at n (faults.Damaged damage)
unlike_seen m store batch read b owner at n damage seen is =
    inr (subst (λ (x : List ℕ). verdict n (pointer_checks x n.0 owner at) ≡ Err damage) seen (sym is))

pub past_is : (n : PageNo) (b pointers : List ℕ) (next wanted : ℕ) (made : Damaged)
    → next ≡ next_in b → wanted ≡ GREATEST_LIMIT - 1 → GREATEST_LIMIT ≤ next
    → made ≡ link_damage n next wanted → IsLinkDamage n b pointers made
past_is n b pointers next wanted made is limit le made_is =
    subst (IsLinkDamage n b pointers) (sym (made_is ∙ ap (λ (x : ℕ). link_damage n x wanted) is
    ∙ ap (λ (x : ℕ). link_damage n (next_in b) x) limit)) (past (subst (λ (x : ℕ). GREATEST_LIMIT ≤ x) is le))

pub back_is : (n : PageNo) (b pointers : List ℕ) (next : ℕ) (made : Damaged)
    → next ≡ next_in b → next ≢ 0 → Has pointers next
    → made ≡ link_damage n next 0 → IsLinkDamage n b pointers made
back_is n b pointers next made is some has made_is =
    subst (IsLinkDamage n b pointers) (sym (made_is ∙ ap (λ (x : ℕ). link_damage n x 0) is))
    (back (subst (λ (x : ℕ). x ≢ 0) is some) (subst (Has pointers) is has))

pub page_refused : {D L : Type 0} (m : Meaning D) (store : Pool D L) (batch : List BatchPage)
    (pages : Pages) (owner at : ℕ) (pointers : List ℕ) (n : PageNo) (fault : SpaceFault)
    → at ≡ length pointers → RefusesPointerPage m store batch (pages n.0) owner at n fault
    → RefusesPointer m store batch pages owner pointers n fault
page_refused m store batch pages owner at pointers n (faults.Full limit) is refused = refused
page_refused m store batch pages owner at pointers n (faults.Damaged damage) is (inl absent) = inl absent
page_refused m store batch pages owner at pointers n (faults.Damaged damage) is (inr differs) =
    inr (unlike damage (subst (λ (k : ℕ). verdict n (pointer_checks (pages n.0) n.0 owner k) ≡ Err damage)
    is differs))
page_refused m store batch pages owner at pointers n (faults.Pool fault) is refused = tt

pub tested_at : (pages : Pages) (owner at : ℕ) (pointers : List ℕ) (n : ℕ) (read : List ℕ)
    → at ≡ length pointers → read ≡ pages n → PassesAll (pointer_checks read n owner at)
    → IsPointerAt pages owner (length pointers) n
tested_at pages owner at pointers n read is seen passes =
    subst (λ (k : ℕ). PassesAll (pointer_checks (pages n) n owner k)) is
    (subst (λ (b : List ℕ). PassesAll (pointer_checks b n owner at)) seen passes)

pub link_refused : (pages : Pages) (owner at : ℕ) (pointers listed : List ℕ) (n : PageNo)
    (read : List ℕ) (damage : Damaged) → at ≡ length pointers → read ≡ pages n.0
    → PassesAll (pointer_checks read n.0 owner at) → listed ≡ pointers ++ n.0 ∷ []
    → IsLinkDamage n read listed damage → IsPointerDamage pages owner pointers n damage
link_refused pages owner at pointers listed n read damage is seen passes lists wrong =
    misled damage (tested_at pages owner at pointers n.0 read is seen passes)
    (subst (λ (b : List ℕ). IsLinkDamage n b (pointers ++ n.0 ∷ []) damage) seen
    (subst (λ (ns : List ℕ). IsLinkDamage n read ns damage) lists wrong))

pub follows_page : (pages : Pages) (owner at : ℕ) (pointers listed : List ℕ) (n : ℕ)
    (read old new : List ℕ) (next : ℕ) → at ≡ length pointers → read ≡ pages n
    → PassesAll (pointer_checks read n owner at) → new ≡ old ++ entries_of read
    → LinksTo read listed next → FollowsPage pages owner pointers n old new next
follows_page pages owner at pointers listed n read old new next is seen passes entries links = record {
  tested = tested_at pages owner at pointers n read is seen passes;
  entries = entries ∙ ap (λ (b : List ℕ). old ++ entries_of b) seen;
  next_is = links.next_is ∙ ap next_in seen;
}

pub lists_page : (pointers listed : List ℕ) (n : ℕ) (read : List ℕ) (next : ℕ)
    → listed ≡ pointers ++ n ∷ [] → LinksTo read listed next → ListsPage pointers listed n next
lists_page pointers listed n read next lists links = record {
  listed = lists;
  below = links.below;
  new_one = links.new_one;
}

-- ---- all of them

pub few : (pointers : List ℕ) (n bound : ℕ) → IsOnce pointers → ((m : ℕ) → Has pointers m → m < bound)
    → (n ≢ 0 → Has pointers n → ⊥) → n ≢ 0 → n < bound → length pointers < bound
few pointers n bound once small new_one some fits =
    let short : length (pointers ++ n ∷ []) ≤ bound =
    once_short (pointers ++ n ∷ []) bound (once_push pointers n once (new_one some))
    (λ m is. at m (has_push pointers n m is)) in
    omega (arith, length-append pointers (n ∷ []))
  where
    at : (m : ℕ) → Has pointers m ⊎ (m ≡ n) → m < bound
    at m (inl is) = small m is
    at m (inr e) = subst (λ (k : ℕ). k < bound) (sym e) fits

pub still_once : (pointers listed : List ℕ) (n : ℕ) → IsOnce pointers → (n ≢ 0 → Has pointers n → ⊥)
    → n ≢ 0 → listed ≡ pointers ++ n ∷ [] → IsOnce listed
still_once pointers listed n once new_one some is = subst IsOnce (sym is)
    (once_push pointers n once (new_one some))

pub still_small : (pointers listed : List ℕ) (n bound : ℕ) → ((m : ℕ) → Has pointers m → m < bound)
    → n < bound → listed ≡ pointers ++ n ∷ [] → (m : ℕ) → Has listed m → m < bound
still_small pointers listed n bound small fits is m has =
    at (has_push pointers n m (subst (λ (ns : List ℕ). Has ns m) is has))
  where
    at : Has pointers m ⊎ (m ≡ n) → m < bound
    at (inl is) = small m is
    at (inr e) = subst (λ (k : ℕ). k < bound) (sym e) fits

module _ {D L : Type 0} (m : Meaning D) (start store : Pool D L) (image : Image) (batch : Changed)
    (kept : KeepsStore m start store) (tells : Tells m start.disk image) where
  -- a clause on the pages as seen later is one on the pages as seen at the start
  pub as_started : (P : Pages → Type 0)
      → (Tells m store.disk image → P (viewed store image batch)) → P (viewed start image batch)
  as_started P later = subst P (viewed_on m start store image batch kept)
      (later (tells_on m start store image kept tells))

pub leads_further : (pages : Pages) (owner : ℕ) (pointers listed : List ℕ) (n : ℕ)
    (old new : List ℕ) (next : ℕ) → LeadsTo pages owner pointers n → n ≢ 0
    → FollowsPage pages owner pointers n old new next → listed ≡ pointers ++ n ∷ []
    → LeadsTo pages owner listed next
leads_further pages owner pointers listed n old new next leads some follows is =
    subst (λ (ns : List ℕ). LeadsTo pages owner ns next) (sym is)
    (leads_on pages owner pointers n next leads some follows.tested follows.next_is)

pub entries_further : (pages : Pages) (owner : ℕ) (pointers listed : List ℕ) (n : ℕ)
    (old new : List ℕ) (next : ℕ) → old ≡ entries_in pages pointers
    → FollowsPage pages owner pointers n old new next → listed ≡ pointers ++ n ∷ []
    → new ≡ entries_in pages listed
entries_further pages owner pointers listed n old new next are follows is =
    follows.entries ∙ (ap (λ (ns : List ℕ). ns ++ entries_of (pages n)) are
    ∙ (sym (entries_push pages pointers n) ∙ ap (entries_in pages) (sym is)))

pub broken : {D L : Type 0} (m : Meaning D) (store : Pool D L) (batch : List BatchPage)
    (pages : Pages) (owner : ℕ) (pointers : List ℕ) (n : PageNo) (fault : SpaceFault)
    → LeadsTo pages owner pointers n.0 → n.0 ≢ 0
    → RefusesPointer m store batch pages owner pointers n fault
    → RefusesTable m store batch pages owner fault
broken m store batch pages owner pointers n (faults.Full limit) leads some refused = refused
broken m store batch pages owner pointers n (faults.Damaged damage) leads some refused =
    record { pointers = pointers; page = n; leads = leads; some = some; refused = refused }
broken m store batch pages owner pointers n (faults.Pool fault) leads some refused = tt

-- ---- a page that passes may be read

pub tested_ok : (page : PageNo) (b : List ℕ) (owner at : ℕ) (result : Result (Unit {0}) Damaged)
    → result ≡ verdict page (pointer_checks b page.0 owner at)
    → OnOk result (PassesAll (pointer_checks b page.0 owner at))
tested_ok page b owner at (Ok x) is = passes_ok page b owner at (Ok x) x is refl
tested_ok page b owner at (Err damage) is = tt

pub lawful_ok : (page : PageNo) (b : List ℕ) (owner at : ℕ) (result : Result (Unit {0}) Damaged)
    → 24 ≤ length b → length b ≤ 2 ^ 16
    → result ≡ verdict page (pointer_checks b page.0 owner at) → OnOk result (IsPointerPage b)
lawful_ok page b owner at (Ok x) least most is = page_that_passes b page.0 owner at least most
    (passes_ok page b owner at (Ok x) x is refl)
lawful_ok page b owner at (Err damage) least most is = tt

-- a pointer page has a few thousand entries
pub entries_few : (page old new : List ℕ) (size : ℕ) → is_page_size size ≡ true → length page ≡ size
    → IsPointerPage page → new ≡ old ++ entries_of page → length new ≤ length old + 4090
entries_few page old new size lawful len may is =
    let sizes = page_sizes size lawful in
    let most = sizes.1 in
    let count = may.count in
    omega (arith, length-entries_of page, ap (length {A = ℕ}) is, length-append old (entries_of page))

-- ---- counts of what is listed

-- one page more leaves less to go
pub one_further : (pointers listed : List ℕ) (n bound : ℕ) → length pointers < bound
    → listed ≡ pointers ++ n ∷ [] → bound - length listed < bound - length pointers
one_further pointers listed n bound short is =
    omega (arith, short, ap (length {A = ℕ}) is, length-append pointers (n ∷ []))

pub some_listed : (pointers listed : List ℕ) (n : ℕ) → listed ≡ pointers ++ n ∷ [] → 0 < length listed
some_listed pointers listed n is =
    omega (arith, ap (length {A = ℕ}) is, length-append pointers (n ∷ []))

-- each pointer page has a few thousand entries
pub few_entries : (pointers listed old new : List ℕ) (n : ℕ) → length new ≤ length old + 4090
    → length old ≤ 4090 * length pointers → listed ≡ pointers ++ n ∷ []
    → length new ≤ 4090 * length listed
few_entries pointers listed old new n here before is =
    omega (arith, here, before, ap (length {A = ℕ}) is, length-append pointers (n ∷ []))

pub no_entries : (old : List ℕ) (count : ℕ) → old ≡ [] → length old ≤ 4090 * count
no_entries old count none = omega (arith, ap (length {A = ℕ}) none)

pub count_fits : (n : ℕ) → n < GREATEST_LIMIT → n < 2 ^ 32
count_fits n short = omega (arith, short)

pub all_few : (pointers data_pages : List ℕ) → length pointers ≤ GREATEST_LIMIT
    → length data_pages ≤ 4090 * length pointers → length data_pages < 2 ^ 32
all_few pointers data_pages short few_ = omega (arith, short, few_)

pub all_short : (n : ℕ) → n ≤ GREATEST_LIMIT → n < 2 ^ 31
all_short n short = omega (arith, short)

-- ---- one call after another

module _ {D L : Type 0} (m : Meaning D) (a b : Pool D L) (kept : KeepsStore m a b) where
  pub geometry_later : IsGeometry a.geometry → IsGeometry b.geometry
  geometry_later lawful = subst IsGeometry (sym kept.geometry) lawful

  pub whole_later : (pages : List BatchPage) → AreWhole a.geometry pages
      → AreWhole b.geometry pages
  whole_later pages whole =
      subst (λ (g : Geometry). AreWhole g pages) (sym kept.geometry) whole

  pub whole_before : (pages : List BatchPage) → AreWhole b.geometry pages
      → AreWhole a.geometry pages
  whole_before pages whole = subst (λ (g : Geometry). AreWhole g pages) kept.geometry whole

  pub below_later : (n : ℕ) → n < a.geometry.limit → n < b.geometry.limit
  below_later n below = subst (λ (g : Geometry). n < g.limit) (sym kept.geometry) below

  pub below_before : (n : ℕ) → n < b.geometry.limit → n < a.geometry.limit
  below_before n below = subst (λ (g : Geometry). n < g.limit) kept.geometry below
