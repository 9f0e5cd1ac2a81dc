-- One step of a walk: marks, and what is found of a link.
use Rattle.std.specs.Prelude.{◌≡◌, ◌≢◌, ◌⊎◌, ◌<◌, ◌≤◌, ◌+◌, ◌-◌, ◌*◌, ◌/◌, ◌%◌, ◌==◌, ◌&&◌, ◌||◌, ℕ, zero, suc, Bool, true, false, nat_lt, List, [], ◌∷◌, Option, None, Some, Result, Ok, Err, IfOk, length, slice_set}
use Rattle.std.proofs.Common.{refl, sym, ap, ◌∙◌, inl, inr, arith, subst, get_or}
use Rattle.std.proofs.lemmas.Bool.{cases_eq, cases_lt, eq-eqb, eqb-true, lt-ltb, ltb-true, ne_eqb}
use Rattle.std.proofs.lemmas.List.{get_or-set_other, get_or-set_same, length-set}
use Rattle.mg_base.specs.Image.{Image, page_at}
use Rattle.mg_base.specs.declared.memory.Memory.{Memory}
use Rattle.mg_base.specs.declared.numbers.RecId.{RecId}
use Rattle.mg_base.specs.declared.numbers.TxNo.{TxNo}
use Rattle.mg_check_inventory.specs.ImagePages.{IsWholeImage}
use Rattle.mg_check_records.proofs.CellLemmas.{slot_within, version_short}
use Rattle.mg_check_records.proofs.PlaceLemmas.{data_there, has_from, has_true, place_there}
use Rattle.mg_check_records.specs.Marks.{IsPlaceOf, left_of, mark_at, met_in, most_slots, place_in}
use Rattle.mg_check_records.specs.Reads.{IsMatched, StepsTo, TakesEntry, Takes}
use Rattle.mg_check_records.specs.Walks.{IsBodyFinding, IsStoredAs, Meets, and_met, is_place, link_finding, target_finding, writer_found}
use Rattle.mg_check_records.specs.Walks as walks
use Rattle.mg_check_records.specs.declared.step.Meeting.{Meeting}
use Rattle.mg_check_records.specs.declared.step.Meeting.TheVariants as meetings
use Rattle.mg_check_records.specs.declared.step.Step.{Step}
use Rattle.mg_check_records.specs.declared.step.Step.TheVariants as steps
use Rattle.mg_findings.specs.declared.finding.Finding.{Finding}
use Rattle.mg_image.specs.declared.entry.Entry.{Entry}
use Rattle.mg_image.specs.Records.{Cells, cells_of}
use Rattle.mg_image.specs.Sound.{IsTableData}
use Rattle.mg_image.specs.Tables.{EachFrom, Has, has}
use Rattle.mg_model.specs.declared.table.Table.{Table}
use Rattle.mg_slots.specs.declared.page.TheConstants.{GREATEST_SIZE}
use Rattle.mg_version.specs.declared.cell.Cell.{Cell}
use Rattle.mg_version.specs.declared.cell.Cell.TheVariants as cells
use Rattle.mg_version.specs.declared.cell.Link.{Link}
use Rattle.mg_version.specs.declared.cell.Version.{Version}

-- ---- marks

-- one mark more is set
pub fewer_left : (marks : List Bool) (at : ℕ) → at < length marks → get_or marks at false ≡ false
    → left_of marks ≡ left_of (slice_set marks at true) + 1
fewer_left [] at below clear = absurd (omega (arith, below))
fewer_left (true ∷ marks) zero below clear = absurd cc
fewer_left (false ∷ marks) zero below clear = omega arith
fewer_left (true ∷ marks) (suc at) below clear = fewer_left marks at (omega (arith, below)) clear
fewer_left (false ∷ marks) (suc at) below clear =
    let rest = fewer_left marks at (omega (arith, below)) clear in omega (arith, rest)

-- two places have two marks
whole_product : (k m most : ℕ) → (k + 1 + m) * most ≡ k * most + most + m * most
whole_product k m most = omega arith

marks_less : (most a b s t : ℕ) → s < most → a < b → a * most + s ≡ b * most + t → ⊥
marks_less most a b s t low less same =
    let sum : a + 1 + (b - a - 1) ≡ b = omega (arith, less) in
    let product = ap (λ (k : ℕ). k * most) sum in
    let whole = whole_product a (b - a - 1) most in
    absurd (omega (arith, product, whole, same, low))

marks_apart : (most a b s t : ℕ) → s < most → t < most → a * most + s ≡ b * most + t → a ≡ b
marks_apart most a b s t low high same = at (cases_eq a b)
  where
    at : (a ≡ b) ⊎ (a ≢ b) → a ≡ b
    at (inl is) = is
    at (inr other) = elim (cases_lt a b) [
      | inl less ↦ absurd (marks_less most a b s t low less same)
      | inr past ↦ absurd (marks_less most b a t s high (omega (arith, past, other)) (sym same))
    ]

both_true : (a b : Bool) → (a && b) ≡ true → (a ≡ true) × (b ≡ true)
both_true true b is = (refl, is)
both_true false b is = absurd cc

same_place : (x y : RecId) → x.page.0 ≡ y.page.0 → x.slot ≡ y.slot → is_place x y ≡ true
same_place x y page slot = rw (eq-eqb x.page.0 y.page.0 page, eq-eqb x.slot y.slot slot) refl

module _ (ns : List ℕ) (most : ℕ) (old : List Bool) (x : RecId) (here : Has ns x.page.0)
    (slot : x.slot < most) (below : mark_at ns most x < length old) where
  -- the mark of another cell that may be met is another one
  other_mark : (y : RecId) → Has ns y.page.0 → y.slot < most → is_place x y ≡ false
      → mark_at ns most y ≢ mark_at ns most x
  other_mark y there low apart same =
      let place = marks_apart most (place_in ns y.page.0) (place_in ns x.page.0) y.slot x.slot low slot same in
      let first = place_there ns y.page.0 there in
      let second = place_there ns x.page.0 here in
      let page : x.page.0 ≡ y.page.0 =
      sym second.1 ∙ (ap (λ (k : ℕ). get_or ns k 0) (sym place) ∙ first.1) in
      let line : x.slot ≡ y.slot =
      omega (arith, same, ap (λ (k : ℕ). k * most) place) in
      absurd (let both = sym apart ∙ same_place x y page line in cc)

  -- where the mark of a cell is set, it was met, and those that were met before
  -- at each place
  put_met : (y : RecId) → met_in ns most (slice_set old (mark_at ns most x) true) y
      ≡ and_met x (met_in ns most old) y
  put_met y = at (is_place x y) refl
    where
      mine : x.page.0 ≡ y.page.0 → x.slot ≡ y.slot
          → met_in ns most (slice_set old (mark_at ns most x) true) y ≡ true
      mine page line = subst (λ (n : ℕ). (has ns n && (nat_lt y.slot most
          && get_or (slice_set old (mark_at ns most x) true) (place_in ns n * most + y.slot) false)) ≡ true)
          page (subst (λ (s : ℕ). (has ns x.page.0 && (nat_lt s most
          && get_or (slice_set old (mark_at ns most x) true) (place_in ns x.page.0 * most + s) false)) ≡ true)
          line (rw (
            has_true ns x.page.0 here,
            lt-ltb x.slot most slot,
            get_or-set_same old (mark_at ns most x) true false below,
          ) refl))

      others : is_place x y ≡ false → (a b : Bool) → has ns y.page.0 ≡ a → nat_lt y.slot most ≡ b
          → (a && (b && get_or (slice_set old (mark_at ns most x) true) (mark_at ns most y) false))
          ≡ (a && (b && get_or old (mark_at ns most y) false))
      others apart false b first second = refl
      others apart true false first second = refl
      others apart true true first second =
          get_or-set_other old (mark_at ns most x) (mark_at ns most y) true false
          (other_mark y (has_from ns y.page.0 first) (ltb-true y.slot most second) apart)

      at : (c : Bool) → is_place x y ≡ c
          → met_in ns most (slice_set old (mark_at ns most x) true) y
          ≡ (c || met_in ns most old y)
      at true is = let both = both_true (x.page.0 == y.page.0) (x.slot == y.slot) is in
          mine (eqb-true x.page.0 y.page.0 both.0) (eqb-true x.slot y.slot both.1)
      at false is = others is (has ns y.page.0) (nat_lt y.slot most) refl refl

  pub put_all : met_in ns most (slice_set old (mark_at ns most x) true)
      ≡ and_met x (met_in ns most old)
  put_all = λ i y. put_met y i

  -- whether a cell was met is its mark
  pub met_mark : met_in ns most old x ≡ get_or old (mark_at ns most x) false
  met_mark = rw (has_true ns x.page.0 here, lt-ltb x.slot most slot) refl

-- each place of a data page has a mark
pub mark_within : (ns : List ℕ) (most count : ℕ) (x : RecId) → Has ns x.page.0 → x.slot < most
    → count ≡ length ns * most → mark_at ns most x < count
mark_within ns most count x here slot long =
    let place = place_there ns x.page.0 here in
    let sum : place_in ns x.page.0 + 1 + (length ns - place_in ns x.page.0 - 1) ≡ length ns =
    omega (arith, place.0) in
    let product = ap (λ (k : ℕ). k * most) sum in
    let whole = whole_product (place_in ns x.page.0) (length ns - place_in ns x.page.0 - 1) most in
    omega (arith, long, product, whole, slot)

-- ---- a step

module _ (h : Cells) (table : Table) (ns : List ℕ) (size : ℕ) (old : List Bool) (holder : RecId)
    (l : Link) where
  -- a link leads to no data page
  pub step_outside : (new : List Bool) (f : Finding) → (Has ns l.rec.page.0 → ⊥) → new ≡ old
      → f ≡ link_finding holder l → StepsTo h table ns size old new holder l (steps.Stopped f)
  step_outside new f none same told = (
    same,
    walks.missed (walks.outside none told),
  )

  -- it meets no version of its transaction
  pub step_missed : (new : List Bool) (f : Finding) → Has ns l.rec.page.0 → new ≡ old
      → IsMatched l (h l.rec) (meetings.Stopped f)
      → StepsTo h table ns size old new holder l (steps.Stopped f)
  step_missed new f here same matched = (
    same,
    walks.missed (walks.strange here (λ v meets. matched.1 v meets.cell meets.tx) matched.0),
  )

  -- it meets one, which is taken or not
  pub step_met : (new : List Bool) (at place : ℕ) (v : Version) (it : Step) → Has ns l.rec.page.0
      → place ≡ place_in ns l.rec.page.0 → at ≡ place * most_slots size + l.rec.slot
      → length old ≡ length ns * most_slots size → l.rec.slot < most_slots size
      → IsMatched l (h l.rec) (meetings.Version v) → Takes table old new at holder l v it
      → StepsTo h table ns size old new holder l it
  step_met new at place v it here is marked long slot matched takes =
      this it (subst (λ (k : ℕ). Takes table old new k holder l v it) mark takes)
    where
      mark : at ≡ mark_at ns (most_slots size) l.rec
      mark = marked ∙ ap (λ (k : ℕ). k * most_slots size + l.rec.slot) is

      below : mark_at ns (most_slots size) l.rec < length old
      below = mark_within ns (most_slots size) (length old) l.rec here slot long

      meets : Meets h ns l v
      meets = record { placed = here; cell = matched.0; tx = matched.1 }

      met_is : met_in ns (most_slots size) old l.rec
          ≡ get_or old (mark_at ns (most_slots size) l.rec) false
      met_is = met_mark ns (most_slots size) old l.rec here slot below

      this : (it : Step)
          → Takes table old new (mark_at ns (most_slots size) l.rec) holder l v it
          → StepsTo h table ns size old new holder l it
      this (steps.Stopped f) (same, inl twice) = (
        same,
        walks.again v meets (met_is ∙ twice.0) twice.1,
      )
      this (steps.Stopped f) (same, inr unread) =
          (same, walks.unread v meets (met_is ∙ unread.0) unread.1)
      this (steps.Entry e) (clear, put, there, version, stored) = record {
        at = there;
        meets = subst (Meets h ns l) (sym version) meets;
        fresh = met_is ∙ clear;
        stored = subst (λ (w : Version). IsStoredAs table w e.row) (sym version) stored;
        met = ap (met_in ns (most_slots size)) put
            ∙ (put_all ns (most_slots size) old l.rec here slot below
            ∙ ap (λ (x : RecId). and_met x (met_in ns (most_slots size) old)) (sym there));
        len = ap length put ∙ length-set old (mark_at ns (most_slots size) l.rec) true;
        fewer = fewer_left old (mark_at ns (most_slots size) l.rec) below clear
            ∙ ap (λ (m : List Bool). left_of m + 1) (sym put);
      }

-- ---- a cell that is no version of a link's transaction

module _ (l : Link) (cell : Option Cell) (it : Meeting) where
  pub none_missed : cell ≡ None
      → ((o : Option Cell) → writer_found o ≡ 4294967295
      → it ≡ meetings.Stopped (target_finding o l)) → IsMatched l cell it
  none_missed none told = subst (IsMatched l cell) (sym (told cell (ap writer_found none)))
      (refl, λ v is same. absurd (let both = sym none ∙ is in cc))

  pub anchor_missed : (whole : Cell) (link : Link) → cell ≡ Some whole
      → whole ≡ cells.Anchor link
      → ((o : Option Cell) → writer_found o ≡ 4294967295
      → it ≡ meetings.Stopped (target_finding o l)) → IsMatched l cell it
  anchor_missed whole link some anchor told =
      let there : cell ≡ Some (cells.Anchor link) = some ∙ ap (λ (c : Cell). Some c) anchor in
      subst (IsMatched l cell) (sym (told cell (ap writer_found there)))
      (refl, λ v is same. absurd (let both = sym there ∙ is in cc))

  pub other_missed : (whole : Cell) (version : Version) (writer : ℕ) → cell ≡ Some whole
      → whole ≡ cells.Version version → version.tx.0 ≢ l.tx.0 → writer ≡ version.tx.0
      → ((o : Option Cell) → writer_found o ≡ writer
      → it ≡ meetings.Stopped (target_finding o l)) → IsMatched l cell it
  other_missed whole version writer some is_version other same told =
      let there : cell ≡ Some (cells.Version version) =
      some ∙ ap (λ (c : Cell). Some c) is_version in
      subst (IsMatched l cell) (sym (told cell (ap writer_found there ∙ sym same)))
      (refl, λ v is tx. other (one_writer version v (sym there ∙ is) ∙ ap (λ (t : TxNo). t.0) tx))
    where
      one_version : (v w : Version) → Some (cells.Version v) ≡ Some (cells.Version w) → v ≡ w
      one_version v w same = cc

      one_writer : (v w : Version) → Some (cells.Version v) ≡ Some (cells.Version w)
          → v.tx.0 ≡ w.tx.0
      one_writer v w same = ap (λ (u : Version). u.tx.0) (one_version v w same)

-- ---- a version that was met

version_cell : (l : Link) (cell : Option Cell) (it : Meeting) (v : Version) → IsMatched l cell it
    → it ≡ meetings.Version v → IsMatched l cell (meetings.Version v)
version_cell l cell it v matched is = subst (IsMatched l cell) is matched

pub met_short : (size : ℕ) (image : Image) (owner : ℕ) (ns : List ℕ) (l : Link) (it : Meeting)
    (v : Version) → EachFrom (IsTableData false size (page_at size image) owner) 0 ns
    → Has ns l.rec.page.0 → IsMatched l (cells_of (page_at size image) l.rec) it
    → it ≡ meetings.Version v → length v.body ≤ GREATEST_SIZE
met_short size image owner ns l it v tested here matched is =
    version_short size (page_at size image) owner (place_in ns l.rec.page.0) l.rec v
    (data_there size (page_at size image) owner ns tested l.rec.page.0 here)
    (version_cell l (cells_of (page_at size image) l.rec) it v matched is).0

met_slot : (size : ℕ) (image : Image) (owner : ℕ) (ns : List ℕ) (l : Link) (it : Meeting)
    (v : Version) → IsWholeImage size image
    → EachFrom (IsTableData false size (page_at size image) owner) 0 ns → Has ns l.rec.page.0
    → IsMatched l (cells_of (page_at size image) l.rec) it → it ≡ meetings.Version v
    → l.rec.slot < most_slots size
met_slot size image owner ns l it v whole tested here matched is =
    slot_within size (page_at size image) owner (place_in ns l.rec.page.0) l.rec v
    (whole.whole l.rec.page.0)
    (data_there size (page_at size image) owner ns tested l.rec.page.0 here)
    (version_cell l (cells_of (page_at size image) l.rec) it v matched is).0

pub met_inside : (size : ℕ) (image : Image) (owner : ℕ) (ns : List ℕ) (marks : List Bool)
    (l : Link) (it : Meeting) (v : Version) (at place : ℕ) → IsWholeImage size image
    → EachFrom (IsTableData false size (page_at size image) owner) 0 ns
    → IsPlaceOf ns l.rec.page.0 place → IsMatched l (cells_of (page_at size image) l.rec) it
    → it ≡ meetings.Version v → at ≡ place * most_slots size + l.rec.slot
    → length marks ≡ length ns * most_slots size → at < length marks
met_inside size image owner ns marks l it v at place whole tested placed matched is marked long =
    let below = mark_within ns (most_slots size) (length marks) l.rec placed.there
    (met_slot size image owner ns l it v whole tested placed.there matched is) long in
    let same : at ≡ mark_at ns (most_slots size) l.rec =
    marked ∙ ap (λ (k : ℕ). k * most_slots size + l.rec.slot) placed.is in
    omega (arith, below, same)

pub met_result : (size : ℕ) (image : Image) (table : Table) (ns : List ℕ) (old new : List Bool)
    (holder : RecId) (l : Link) (it : Meeting) (v : Version) (at place : ℕ)
    (result : Result Step Memory) → IsWholeImage size image
    → EachFrom (IsTableData false size (page_at size image) table.pointer.0) 0 ns
    → IsPlaceOf ns l.rec.page.0 place → IsMatched l (cells_of (page_at size image) l.rec) it
    → it ≡ meetings.Version v → at ≡ place * most_slots size + l.rec.slot
    → length old ≡ length ns * most_slots size
    → IfOk result (Takes table old new at holder l v)
    → IfOk result (StepsTo (cells_of (page_at size image)) table ns size old new holder l)
met_result size image table ns old new holder l it v at place (Ok step) whole tested placed matched is
    marked long takes =
    step_met (cells_of (page_at size image)) table ns size old holder l new at place v step
    placed.there placed.is marked long
    (met_slot size image table.pointer.0 ns l it v whole tested placed.there matched is)
    (version_cell l (cells_of (page_at size image) l.rec) it v matched is) takes
met_result size image table ns old new holder l it v at place (Err fault) whole tested placed matched
    is marked long takes = tt
