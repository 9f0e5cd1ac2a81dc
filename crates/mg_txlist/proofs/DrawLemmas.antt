-- A number is drawn: the header, the page, and the batch of both.
use Rattle.std.proofs.Common.{◌≡◌, ◌≢◌, ◌<◌, ◌≤◌, ◌⊎◌, ◌+◌, ◌/◌, ◌++◌, ◌&&◌, ◌||◌, ◌==◌, min, ℕ, Bool, true, false, List, [], ◌∷◌, length, take, refl, sym, ap, subst, ◌∙◌, arith, append-nil, append_assoc, inl, inr, if◌then◌else◌, unwrap_or}
use Rattle.std.proofs.Common.{Option, Some, None, Ok, is_some, not, nat_lt}
use Rattle.std.proofs.Math.Seq.{take-append_seam}
use Rattle.std.proofs.lemmas.Bool.{and_parts, eq-eqb, eqb-true, or_cases}
use Rattle.mg_base.specs.Checks.{Check, PassesAll, common_checks}
use Rattle.mg_base.specs.Disk.{Meaning}
use Rattle.mg_base.specs.Fields.{u16_at}
use Rattle.mg_base.specs.Image.{Image}
use Rattle.mg_base.specs.declared.geometry.Geometry.{Geometry}
use Rattle.mg_base.specs.declared.geometry.TheConstants.{GREATEST_LIMIT}
use Rattle.mg_careful.specs.Precedence.{Precedes}
use Rattle.mg_careful.specs.Precedence.Precedes.{directly, through}
use Rattle.mg_careful.specs.declared.graph.Order.{Order}
use Rattle.mg_header.specs.HeaderPage.{AreMarkers, database_checks, file_checks, marker_checks, reading}
use Rattle.mg_header.specs.HeaderPageLaws.{reading_ok}
use Rattle.mg_header.specs.declared.header.Header.{Header}
use Rattle.mg_header.specs.declared.header.TheConstants.{GREATEST_NEXT, HEADER_KIND, MINOR_AT, OPENED_MINOR}
use Rattle.mg_image.specs.Form.{Pages}
use Rattle.mg_image.specs.Inventory.{header_of, inventory_page}
use Rattle.mg_pool.specs.Batch.{Changed, IsLawful, PutsPage, content_in, is_in, lists}
use Rattle.mg_pool.specs.Pool.{shown}
use Rattle.mg_pool.specs.declared.batch.BatchPage.{BatchPage}
use Rattle.mg_pool.specs.declared.pool.Pool.{Pool}
use Rattle.mg_space.specs.Taking.{TakesPage, region_of}
use Rattle.mg_space.specs.View.{AreWhole, KeepsStore, Tells, viewed}
use Rattle.mg_space.specs.BelowLaws.{taken_below}
use Rattle.mg_space.specs.ViewLaws.{tells_on, viewed_else, viewed_here, viewed_on, whole_on}
use Rattle.mg_tip.specs.TipPage.{new_tip_page, places}
use Rattle.mg_tip.specs.TipPageLaws.{length-new_tip_page}
use Rattle.mg_txlist.specs.Drawing.{DrawsOn, MayBeHeader, PutsHead, PutsTip, RaisesHead, last_orders, may_precede, orders_before, raised_header, tip_orders}
use Rattle.mg_txlist.specs.Drawing.DrawsOn.{on_last, on_new}
use Rattle.mg_txlist.specs.declared.list.TipPage.{TipPage}
use Rattle.mg_txlist.proofs.ChainLemmas.{head_markers}

-- bytes that were written through a slice
pub written_back : (len : ℕ) (made rest put : List ℕ) → len ≡ length made
    → put ≡ take len (made ++ rest) → put ≡ made
written_back len made rest put same is = is
    ∙ (ap (λ (n : ℕ). take n (made ++ rest)) same ∙ take-append_seam made rest)

-- ---- the header

pub head_again : (size : ℕ) (header : Header) (page items opened made put : List ℕ)
    → length page ≡ size → items ≡ page → opened ≡ items → put ≡ made
    → (header.minor ≤ OPENED_MINOR
    → AreMarkers header.oit.0 header.ost.0 header.oat.0 header.next.0
    → PassesAll (common_checks opened 0 HEADER_KIND 0 0) → reading made (length opened) ≡ Ok header)
    → MayBeHeader header page → reading put size ≡ Ok header
head_again size header page items opened made put len same_items same_opened back read may =
    let same : opened ≡ page = same_opened ∙ same_items in
    let again : reading made (length opened) ≡ Ok header = read may.minor may.markers
    (subst (λ (b : List ℕ). PassesAll (common_checks b 0 HEADER_KIND 0 0)) (sym same) may.common) in
    let long : length opened ≡ size = ap (λ (b : List ℕ). length b) same ∙ len in
    subst (λ (b : List ℕ). reading b size ≡ Ok header) (sym back)
    (subst (λ (n : ℕ). reading made n ≡ Ok header) long again)

passes_first : (first others : List Check) → PassesAll (first ++ others) → PassesAll first
passes_first [] others passes = tt
passes_first (x ∷ xs) others passes = (passes.0, passes_first xs others passes.1)

at_most : (a k : ℕ) → a ≡ min a k → a ≤ k
at_most a k is = omega (arith, is)

minor_low : (b : List ℕ) (size : ℕ) → PassesAll (database_checks b size)
    → u16_at b MINOR_AT ≤ OPENED_MINOR
unfolding file_checks
minor_low b size passes = at_most (u16_at b MINOR_AT) OPENED_MINOR passes.1.1.0

-- a header that was read may have its next number one higher
pub may_raise : (b : List ℕ) (size last : ℕ) (h : Header) → reading b size ≡ Ok h
    → h.next.0 < GREATEST_NEXT → MayBeHeader (raised_header h last) b
may_raise b size last h is below =
    let parts = reading_ok b size h is in
    let markers = head_markers b b size h (Ok h) refl (sym is) refl in record {
      common = passes_first (common_checks b 0 HEADER_KIND 0 0) (marker_checks b) parts.1;
      minor = subst (λ (x : Header). x.minor ≤ OPENED_MINOR) (sym parts.2)
          (minor_low b size parts.0);
      markers = record {
        least = markers.least;
        oit_ost = markers.oit_ost;
        ost_oat = markers.ost_oat;
        oat_next = let most = markers.oat_next in omega (arith, most);
        greatest = omega (arith, below);
      };
    }

pub head_raises : {D L : Type 0} (m : Meaning D) (start mid : Pool D L) (image : Image)
    (old new : Changed) (before : Pages) (h raised : Header) (last : ℕ)
    → KeepsStore m start mid → Tells m start.disk image
    → before 0 ≡ viewed start image old 0 → PutsHead mid.geometry.size old new
    → reading (before 0) start.geometry.size ≡ Ok h → h.next.0 < GREATEST_NEXT
    → raised ≡ raised_header h last
    → ((i : Image) → Tells m mid.disk i → MayBeHeader raised (viewed mid i old 0)
    → reading (viewed mid i new 0) mid.geometry.size ≡ Ok raised)
    → RaisesHead start.geometry.size before (viewed start image new) last
head_raises m start mid image old new before h raised last kept tells first puts is below
    raised_is again = record {
      reads = subst (λ (v : Pages). reading (v 0) start.geometry.size
          ≡ Ok (raised_header (header_of before) last)) (viewed_on m start mid image new kept)
          (subst (λ (n : ℕ). reading (viewed mid image new 0) n
          ≡ Ok (raised_header (header_of before) last)) size_same
          (subst (λ (x : Header). reading (viewed mid image new 0) mid.geometry.size ≡ Ok x)
          (raised_is ∙ ap (λ (x : Header). raised_header x last) h_is) raw));
      len = ap (λ (b : List ℕ). length b)
          (viewed_here start image old new 0 puts.bytes puts.puts) ∙ (puts.len ∙ size_same);
    }
  where
    size_same : mid.geometry.size ≡ start.geometry.size
    size_same = ap (λ (g : Geometry). g.size) kept.geometry

    h_is : h ≡ header_of before
    h_is = (reading_ok (before 0) start.geometry.size h is).2

    same : before 0 ≡ viewed mid image old 0
    same = first ∙ ap (λ (v : Pages). v 0) (sym (viewed_on m start mid image old kept))

    raw : reading (viewed mid image new 0) mid.geometry.size ≡ Ok raised
    raw = again image (tells_on m start mid image kept tells)
        (subst (λ (b : List ℕ). MayBeHeader raised b) same
        (subst (λ (x : Header). MayBeHeader x (before 0)) (sym raised_is)
        (may_raise (before 0) start.geometry.size last h is below)))

-- ---- the page

pub tip_made : (size t at last k : ℕ) (opened made put : List ℕ) → length opened ≡ size
    → k ≡ places size → made ≡ new_tip_page (length opened) at (t / k) last → put ≡ made
    → put ≡ new_tip_page size at (t / places size) last
tip_made size t at last k opened made put len k_is is back =
    back ∙ (is ∙ (ap (λ (n : ℕ). new_tip_page n at (t / k) last) len
    ∙ ap (λ (n : ℕ). new_tip_page size at (t / n) last) k_is))

-- two orders, one behind the other
two_made : (size at inventory later : ℕ) (a b c : List Order)
    → b ≡ a ++ record { first = at; later = later } ∷ []
    → c ≡ b ++ record { first = inventory; later = later } ∷ []
    → inventory ≡ inventory_page size (region_of size at) → c ≡ a ++ orders_before size at later
two_made size at inventory later a b c first second is =
    second ∙ (ap (λ (x : List Order). x ++ record { first = inventory; later = later } ∷ []) first
    ∙ (ap (λ (n : ℕ). (a ++ record { first = at; later = later } ∷ [])
    ++ record { first = n; later = later } ∷ []) is
    ∙ append_assoc a (record { first = at; later = later } ∷ [])
    (record { first = inventory_page size (region_of size at); later = later } ∷ [])))

-- the orders of the last page so far, where it may come before the new one, and where it may not
pub with_last : (size page last inventory : ℕ) (a b c : List Order)
    → b ≡ a ++ record { first = last; later = page } ∷ []
    → c ≡ b ++ record { first = inventory; later = page } ∷ []
    → inventory ≡ inventory_page size (region_of size last) → may_precede page last ≡ true
    → c ≡ a ++ last_orders size page last
with_last size page last inventory a b c first second is may =
    rw may (two_made size last inventory page a b c first second is)

pub without_last : (size page last : ℕ) (a : List Order) → may_precede page last ≡ false
    → a ≡ a ++ last_orders size page last
without_last size page last a not_ = rw (not_, append-nil) refl

pub orders_made : (size at inventory last : ℕ) (a b c d e f : List Order) → b ≡ a → c ≡ b
    → d ≡ c ++ record { first = at; later = 0 } ∷ []
    → e ≡ d ++ record { first = inventory; later = 0 } ∷ []
    → inventory ≡ inventory_page size (region_of size at) → f ≡ e ++ last_orders size at last
    → f ≡ a ++ tip_orders size at last
orders_made size at inventory last a b c d e f taken put first second is behind =
    behind ∙ (ap (λ (x : List Order). x ++ last_orders size at last)
    (two_made size at inventory 0 c d e first second is
    ∙ ap (λ (x : List Order). x ++ orders_before size at 0) (put ∙ taken))
    ∙ append_assoc a (orders_before size at 0) (last_orders size at last))

-- ---- the batch

pub empty_whole : (g : Geometry) (pages : List BatchPage) → pages ≡ [] → AreWhole g pages
empty_whole g pages none page bytes is =
    let no : None ≡ Some bytes = sym (ap (λ (xs : List BatchPage). content_in xs page) none) ∙ is in
    absurd cc

count_most : (q : Bool) (n : ℕ) → (if q then n else (n + 1)) ≤ n + 1
count_most true n = omega arith
count_most false n = omega arith

one_more : (old new : Changed) (page : ℕ) (bytes : List ℕ) → PutsPage old new page bytes
    → length new.pages ≤ length old.pages + 1
one_more old new page bytes puts =
    subst (λ (n : ℕ). n ≤ length old.pages + 1) (sym puts.count)
    (count_most (is_in old.pages page) (length old.pages))

-- one page comes before the header page, or before a new page, which is neither
abbrev Leads : ℕ → ℕ → ℕ → Type 0
Leads page a b = ((b ≡ 0) × (a ≢ 0)) ⊎ ((b ≡ page) × (a ≢ 0) × (a ≢ page))

-- each order is such a one
abbrev AllLead : ℕ → List Order → Type 0
AllLead page orders = (a b : ℕ) → lists orders a b ≡ true → Leads page a b

no_head : (page a b : ℕ) → Leads page a b → a ≢ 0
no_head page a b (inl head) = head.1
no_head page a b (inr new) = new.1

leads_on : (page a mid b : ℕ) → Leads page a mid → Leads page mid b → Leads page a b
leads_on page a mid b first (inl head) = inl (head.0, no_head page a mid first)
leads_on page a mid b (inl head) (inr new) = absurd (new.1 head.0)
leads_on page a mid b (inr other) (inr new) = absurd (new.2 other.0)

ends : (page : ℕ) (orders : List Order) → AllLead page orders → (a b : ℕ) → Precedes (lists orders) a b
    → Leads page a b
ends page orders before a b (directly is) = before a b is
ends page orders before a b (through x y) =
    leads_on page a _ b (ends page orders before a _ x) (ends page orders before _ b y)

no_way_back : (page p : ℕ) → Leads page p p → ⊥
no_way_back page p (inl head) = head.1 head.0
no_way_back page p (inr new) = new.2 new.0

later_there : (pages : List BatchPage) (page a b : ℕ) → is_in pages 0 ≡ true → is_in pages page ≡ true
    → Leads page a b → is_in pages b ≡ true
later_there pages page a b head there (inl is) = subst (λ (n : ℕ). is_in pages n ≡ true) (sym is.0) head
later_there pages page a b head there (inr is) = subst (λ (n : ℕ). is_in pages n ≡ true) (sym is.0) there

head_there : (size : ℕ) (old new : Changed) → PutsHead size old new → is_in new.pages 0 ≡ true
head_there size old new puts = ap (λ (o : Option (List ℕ)). is_some o) puts.puts.here

lawful_of : (g : Geometry) (page : ℕ) (old new : Changed) → length old.pages ≤ 2 → AreWhole g new.pages
    → PutsHead g.size old new → is_in new.pages page ≡ true → AllLead page new.orders
    → IsLawful g.size new.pages new.orders
lawful_of g page old new few whole puts there before = record {
  few = let most = one_more old new 0 puts.bytes puts.puts in omega (arith, few, most);
  whole = λ n content is. (whole n content is).0;
  acyclic = λ p chain. no_way_back page p (ends page new.orders before p p chain);
  later_in = λ a b is. later_there new.pages page a b (head_there g.size old new puts) there (before a b is);
}

-- the header page is one of the pages that a database may have
head_whole : (g : Geometry) (old new : Changed) → AreWhole g old.pages → 0 < g.limit
    → PutsHead g.size old new → AreWhole g new.pages
head_whole g old new whole some puts = whole_on g old new 0 puts.bytes whole puts.len some puts.puts

none_before : (page : ℕ) (orders : List Order) → orders ≡ [] → AllLead page orders
none_before page orders none a b is =
    let no : false ≡ true = sym (ap (λ (os : List Order). lists os a b) none) ∙ is in absurd cc

module _ (g : Geometry) (old new : Changed) (none : old.pages ≡ []) (some : 0 < g.limit)
    (puts : PutsHead g.size old new) where
  pub whole_last : AreWhole g new.pages
  whole_last = head_whole g old new (empty_whole g old.pages none) some puts

  pub lawful_last : old.orders ≡ [] → IsLawful g.size new.pages new.orders
  lawful_last unordered =
      lawful_of g 0 old new
      (let long : length old.pages ≡ 0 = ap (λ (xs : List BatchPage). length xs) none in
      omega (arith, long)) whole_last puts (head_there g.size old new puts)
      (none_before 0 new.orders (puts.puts.same_orders ∙ unordered))

head_order : (x a b : ℕ) → x ≢ 0 → (x == a && 0 == b) ≡ true → (b ≡ 0) × (a ≢ 0)
head_order x a b some is =
    let parts = and_parts (x == a) (0 == b) is in
    (sym (eqb-true 0 b parts.1), λ zero. some (eqb-true x a parts.0 ∙ zero))

page_order : (page x a b : ℕ) → x ≢ 0 → x ≢ page → (x == a && page == b) ≡ true
    → (b ≡ page) × (a ≢ 0) × (a ≢ page)
page_order page x a b some other is =
    let parts = and_parts (x == a) (page == b) is in
    let same : x ≡ a = eqb-true x a parts.0 in
    (sym (eqb-true page b parts.1), λ zero. some (same ∙ zero), λ page_. other (same ∙ page_))

-- the page that a new one leads back to is neither that one nor the header page
last_apart : (page last : ℕ) → may_precede page last ≡ true → (last ≢ 0) × (last ≢ page)
last_apart page last may =
    let parts = and_parts (not (last == 0)) (not (last == page) && nat_lt last GREATEST_LIMIT) may in
    let more = and_parts (not (last == page)) (nat_lt last GREATEST_LIMIT) parts.1 in
    (other_than last 0 parts.0, other_than last page more.0)
  where
    other_than : (x y : ℕ) → not (x == y) ≡ true → x ≢ y
    other_than x y not_ same =
        let no : not true ≡ true = ap not (sym (eq-eqb x y same)) ∙ not_ in absurd cc

last_leads : (size page last a b : ℕ) → ((region : ℕ) → inventory_page size region ≢ page)
    → lists (last_orders size page last) a b ≡ true → Leads page a b
last_leads size page last a b apart is = by (may_precede page last) refl is
  where
    inventory : ℕ
    inventory = inventory_page size (region_of size last)

    of_two : (last ≢ 0) × (last ≢ page) → ((last == a && page == b) ≡ true)
        ⊎ (((inventory == a && page == b) || false) ≡ true) → Leads page a b
    of_two two (inl here) = inr (page_order page last a b two.0 two.1 here)
    of_two two (inr more) = second (or_cases _ _ more)
      where
        second : ((inventory == a && page == b) ≡ true) ⊎ (false ≡ true) → Leads page a b
        second (inl here) = inr (page_order page inventory a b (λ zero. absurd (omega (arith, zero)))
            (apart (region_of size last)) here)
        second (inr never) = absurd cc

    by : (q : Bool) → may_precede page last ≡ q
        → lists (if q then orders_before size last page else []) a b ≡ true → Leads page a b
    by true may listed = of_two (last_apart page last may) (or_cases _ _ listed)
    by false may listed = absurd cc

tip_leads : (size page last : ℕ) → page ≢ 0 → ((region : ℕ) → inventory_page size region ≢ page)
    → AllLead page (tip_orders size page last)
tip_leads size page last some apart a b is = of (or_cases _ _ is)
  where
    inventory : ℕ
    inventory = inventory_page size (region_of size page)

    rest : ((inventory == a && 0 == b) ≡ true) ⊎ (lists (last_orders size page last) a b ≡ true)
        → Leads page a b
    rest (inl here) = inl (head_order inventory a b (λ zero. absurd (omega (arith, zero))) here)
    rest (inr behind) = last_leads size page last a b apart behind

    of : ((page == a && 0 == b) ≡ true)
        ⊎ (((inventory == a && 0 == b) || lists (last_orders size page last) a b) ≡ true) → Leads page a b
    of (inl here) = inl (head_order page a b some here)
    of (inr more) = rest (or_cases _ _ more)

module _ {D L : Type 0} (m : Meaning D) (store : Pool D L) (old new : Changed) (t last : ℕ)
    (page : TipPage) (tip : PutsTip m store old new t last page) where
  abbrev size : ℕ
  size = store.geometry.size

  pub tip_len : length page.bytes ≡ size
  tip_len = ap (λ (b : List ℕ). length b) tip.bytes_are
      ∙ length-new_tip_page size page.page (t / places size) last

  pub tip_whole : old.pages ≡ [] → AreWhole store.geometry new.pages
  tip_whole none = subst (λ (xs : List BatchPage). AreWhole store.geometry xs) (sym tip.pages)
      (whole_on store.geometry tip.taken tip.put page.page page.bytes
      (whole_on store.geometry old tip.taken (inventory_page size (region_of size page.page))
      tip.inventory.bytes (empty_whole store.geometry old.pages none) tip.inventory.len
      (taken_below store.geometry _ tip.inventory.region) tip.inventory.puts) tip_len
      (taken_below store.geometry page.page tip.inventory.below) tip.puts)

  tip_few : old.pages ≡ [] → length new.pages ≤ 2
  tip_few none =
      let long : length old.pages ≡ 0 = ap (λ (xs : List BatchPage). length xs) none in
      let one = one_more old tip.taken (inventory_page size (region_of size page.page))
      tip.inventory.bytes tip.inventory.puts in
      let two = one_more tip.taken tip.put page.page page.bytes tip.puts in
      let same : length new.pages ≡ length tip.put.pages =
      ap (λ (xs : List BatchPage). length xs) tip.pages in omega (arith, long, one, two, same)

  pub tip_orders_are : old.orders ≡ [] → new.orders ≡ tip_orders size page.page last
  tip_orders_are none = tip.orders
      ∙ ap (λ (os : List Order). os ++ tip_orders size page.page last) none

  page_there : (last_ : Changed) → PutsHead size new last_ → is_in last_.pages page.page ≡ true
  page_there last_ puts = ap (λ (o : Option (List ℕ)). is_some o)
      (puts.puts.others page.page tip.inventory.no_header
      ∙ (ap (λ (xs : List BatchPage). content_in xs page.page) tip.pages ∙ tip.puts.here))

  pub whole_new : (last_ : Changed) → old.pages ≡ [] → 0 < store.geometry.limit → PutsHead size new last_
      → AreWhole store.geometry last_.pages
  whole_new last_ none some puts = head_whole store.geometry new last_ (tip_whole none) some puts

  pub lawful_new : (last_ : Changed) → old.pages ≡ [] → old.orders ≡ [] → 0 < store.geometry.limit
      → PutsHead size new last_ → IsLawful size last_.pages last_.orders
  lawful_new last_ none unordered some puts = lawful_of store.geometry page.page new last_ (tip_few none)
      (whole_new last_ none some puts) puts (page_there last_ puts) (subst (λ (os : List Order). AllLead page.page os)
      (sym (puts.puts.same_orders ∙ tip_orders_are unordered))
      (tip_leads size page.page last tip.inventory.no_header tip.inventory.no_inventory))

-- ---- what is seen

pub empty_view : {D L : Type 0} (store : Pool D L) (image : Image) (batch : Changed)
    → batch.pages ≡ [] → viewed store image batch ≡ shown store.dirty image
empty_view store image batch none = ap (λ (xs : List BatchPage). λ (n : ℕ).
    unwrap_or (content_in xs n) (shown store.dirty image n)) none

module _ {D L : Type 0} (m : Meaning D) (start : Pool D L) (t : ℕ) (image : Image)
    (tells : Tells m start.disk image) (old : Changed) (none : old.pages ≡ [])
    (unordered : old.orders ≡ []) (h raised : Header)
    (is : reading (shown start.dirty image 0) start.geometry.size ≡ Ok h)
    (below : h.next.0 < GREATEST_NEXT) where
  abbrev before : Pages
  before = shown start.dirty image

  abbrev size_ : ℕ
  size_ = start.geometry.size

  head_is : h ≡ header_of before
  head_is = (reading_ok (before 0) size_ h is).2

  seen : (p : ℕ) → viewed start image old p ≡ before p
  seen p = ap (λ (v : Pages). v p) (empty_view start image old none)

  pub draws_last : (mid : Pool D L) (new : Changed) → KeepsStore m start mid
      → PutsHead mid.geometry.size old new → raised ≡ raised_header h h.last_tip.0
      → ((i : Image) → Tells m mid.disk i → MayBeHeader raised (viewed mid i old 0)
      → reading (viewed mid i new 0) mid.geometry.size ≡ Ok raised)
      → DrawsOn start.geometry t before (viewed start image new) None new.orders
  draws_last mid new kept puts raised_is again =
      subst (λ (os : List Order). DrawsOn start.geometry t before (viewed start image new) None os)
      (sym (puts.puts.same_orders ∙ unordered))
      (on_last (subst (λ (x : Header). RaisesHead size_ before (viewed start image new) x.last_tip.0)
      head_is (head_raises m start mid image old new before h raised h.last_tip.0 kept tells
      (sym (seen 0)) puts is below raised_is again))
      (λ p apart. viewed_else start image old new 0 puts.bytes puts.puts p apart ∙ seen p))

  pub draws_new : (one two : Pool D L) (mid new : Changed) (page : TipPage) → KeepsStore m start one
      → KeepsStore m start two → PutsTip m one old mid t h.last_tip.0 page
      → PutsHead two.geometry.size mid new → raised ≡ raised_header h page.page
      → ((i : Image) → Tells m two.disk i → MayBeHeader raised (viewed two i mid 0)
      → reading (viewed two i new 0) two.geometry.size ≡ Ok raised)
      → DrawsOn start.geometry t before (viewed start image new) (Some page) new.orders
  draws_new one two mid new page kept_one kept_two tip puts raised_is again =
      subst (λ (os : List Order). DrawsOn start.geometry t before (viewed start image new)
      (Some page) os) (sym orders)
      (on_new page (viewed start image tip.taken) taking bytes here raises others)
    where
      orders : new.orders ≡ tip_orders size_ page.page (header_of before).last_tip.0
      orders = puts.puts.same_orders ∙ (tip_orders_are m one old mid t h.last_tip.0 page tip unordered
          ∙ (ap (λ (g : Geometry). tip_orders g.size page.page h.last_tip.0) kept_one.geometry
          ∙ ap (λ (x : Header). tip_orders size_ page.page x.last_tip.0) head_is))

      taking : TakesPage start.geometry before (viewed start image tip.taken) page.page
      taking = subst (λ (v : Pages). TakesPage start.geometry v (viewed start image tip.taken) page.page)
          (empty_view start image old none)
          (subst (λ (v : Pages). TakesPage start.geometry v (viewed start image tip.taken) page.page)
          (viewed_on m start one image old kept_one)
          (subst (λ (v : Pages). TakesPage start.geometry (viewed one image old) v page.page)
          (viewed_on m start one image tip.taken kept_one)
          (subst (λ (g : Geometry). TakesPage g (viewed one image old) (viewed one image tip.taken)
          page.page) kept_one.geometry (tip.takes image (tells_on m start one image kept_one tells)))))

      bytes : page.bytes ≡ new_tip_page size_ page.page (t / places size_) (header_of before).last_tip.0
      bytes = subst (λ (g : Geometry). page.bytes
          ≡ new_tip_page g.size page.page (t / places g.size) h.last_tip.0) kept_one.geometry
          tip.bytes_are
          ∙ ap (λ (x : Header). new_tip_page size_ page.page (t / places size_) x.last_tip.0) head_is

      put_view : (p : ℕ) → viewed start image mid p ≡ viewed start image tip.put p
      put_view p = ap (λ (xs : List BatchPage). unwrap_or (content_in xs p) (before p)) tip.pages

      here : viewed start image new page.page ≡ page.bytes
      here = viewed_else start image mid new 0 puts.bytes puts.puts page.page
          tip.inventory.no_header ∙ (put_view page.page
          ∙ viewed_here start image tip.taken tip.put page.page page.bytes tip.puts)

      others : (p : ℕ) → p ≢ 0 → p ≢ page.page
          → viewed start image new p ≡ viewed start image tip.taken p
      others p no_head apart = viewed_else start image mid new 0 puts.bytes puts.puts p no_head
          ∙ (put_view p
          ∙ viewed_else start image tip.taken tip.put page.page page.bytes tip.puts p apart)

      head_same : viewed start image mid 0 ≡ before 0
      head_same = put_view 0
          ∙ (viewed_else start image tip.taken tip.put page.page page.bytes tip.puts 0
          (λ zero. tip.inventory.no_header (sym zero))
          ∙ (viewed_else start image old tip.taken
          (inventory_page one.geometry.size (region_of one.geometry.size page.page))
          tip.inventory.bytes tip.inventory.puts 0 (λ zero. absurd (omega (arith, zero)))
          ∙ seen 0))

      raises : RaisesHead size_ before (viewed start image new) page.page
      raises = head_raises m start two image mid new before h raised page.page kept_two tells
          (sym head_same) puts is below raised_is again
