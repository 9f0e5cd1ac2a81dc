-- One cell changes, and one record gets another list of versions: what is sound stays so.
use Rattle.std.proofs.Common.{◌≡◌, ◌≢◌, ◌⊎◌, inl, inr, refl, sym, ap, ◌∙◌, ◌==◌, ◌&&◌, Bool, true, false, List, [], Option, None, Some}
use Rattle.std.specs.Prelude.{if◌then◌else◌}
use Rattle.std.proofs.lemmas.Bool.{cases_eq, eq-eqb, ne_eqb}
use Rattle.mg_base.specs.declared.numbers.RecId.{RecId}
use Rattle.mg_version.specs.declared.cell.Link.{Link}
use Rattle.mg_version.specs.declared.cell.Cell.{Cell}
use Rattle.mg_image.specs.declared.entry.Entry.{Entry}
use Rattle.mg_model.specs.declared.table.Table.{Table}
use Rattle.mg_image.specs.Form.{Coding}
use Rattle.mg_image.specs.RecordRules.{AreRecords, Facts, IsRecord, TakesKey, table_in}
use Rattle.mg_image.specs.Records.{Cells, Chain, Changes, Reading, Stands, ended, goes, newest_of, record_key}

-- whether two places are one
abbrev pub same_place : RecId → RecId → Bool
same_place a b = a.page.0 == b.page.0 && a.slot == b.slot

-- two places are one, or they differ
pub cases_place : (a b : RecId)
    → ((a ≡ b) × (same_place a b ≡ true)) ⊎ ((a ≢ b) × (same_place a b ≡ false))
cases_place a b = at (cases_eq a.page.0 b.page.0) (cases_eq a.slot b.slot)
  where
    at : (a.page.0 ≡ b.page.0) ⊎ (a.page.0 ≢ b.page.0) → (a.slot ≡ b.slot) ⊎ (a.slot ≢ b.slot)
        → ((a ≡ b) × (same_place a b ≡ true)) ⊎ ((a ≢ b) × (same_place a b ≡ false))
    at (inl e) (inl f) = inl (
      λ i. record { page = record { 0 = e i }; slot = f i },
      rw (eq-eqb a.page.0 b.page.0 e, eq-eqb a.slot b.slot f) refl,
    )
    at (inl e) (inr n) = inr (
      λ g. n (ap (λ (x : RecId). x.slot) g),
      rw (eq-eqb a.page.0 b.page.0 e, ne_eqb a.slot b.slot n) refl,
    )
    at (inr n) same = inr (
      λ g. n (ap (λ (x : RecId). x.page.0) g),
      rw (ne_eqb a.page.0 b.page.0 n) refl,
    )

-- another list of versions is read of one slot
abbrev pub put_reading : Reading → RecId → List Entry → Reading
put_reading r p es q = if same_place q p then es else r q

-- to show something of every record: of the one that got another list, and of the others
pub put_cases : (r : Reading) (p : RecId) (es : List Entry) (P : RecId → List Entry → Type 0)
    → P p es → ((q : RecId) → q ≢ p → P q (r q)) → (q : RecId) → P q (put_reading r p es q)
put_cases r p es P here others q = at (cases_place q p)
  where
    at : ((q ≡ p) × (same_place q p ≡ true)) ⊎ ((q ≢ p) × (same_place q p ≡ false))
        → P q (put_reading r p es q)
    at (inl (e, is)) = rw is (rw e here)
    at (inr (n, is)) = rw is (others q n)

-- a chain that does not come to the changed cell stays
pub chain_stays : (old new : Cells) (x : RecId) (cell : Option Cell) → Changes old new x cell
    → (l : Option Link) (es : List Entry) → Chain old l es → (Stands es x → ⊥) → Chain new l es
chain_stays old new x cell change l es ended out = ended
chain_stays old new x cell change l es (goes m e fs at is tx more) out =
    goes m e fs at (change.others e.at (λ same. out (inl same)) ∙ is) tx
    (chain_stays old new x cell change e.version.back fs more (λ i. out (inr i)))

-- What one record's new list of versions owes, where the cell at x is changed.
pub record IsStep (coding : Coding) (f : Facts) (r : Reading) (new : Cells) (x p : RecId)
    (table : Table) (es : List Entry) : Type 0 where
  pub of_table : table_in f p ≡ Some table
  pub reads : Chain new (newest_of p (new p)) es
  -- the changed cell is that record's slot, or it is as what is read of it wants
  pub slot : x ≢ p → (other : Table) → table_in f x ≡ Some other
      → Chain new (newest_of x (new x)) (r x)
  -- no other record comes to it
  pub out : (q : RecId) → q ≢ p → Stands (r q) x → ⊥
  pub lawful : IsRecord coding f table es
  pub apart : (q y : RecId) → q ≢ p → Stands es y → Stands (r q) y → ⊥
  pub keys : (q : RecId) → q ≢ p → table_in f q ≡ Some table → TakesKey f es → TakesKey f (r q)
      → record_key table es ≡ record_key table (r q) → ⊥

-- two tables of one place are one
pub one_table : (f : Facts) (p : RecId) (a b : Table) → table_in f p ≡ Some a
    → table_in f p ≡ Some b
    → a ≡ b
one_table f p a b is also = cc

-- the records that are read of the changed cells are lawful
pub step_sound : (coding : Coding) (f : Facts) (old new : Cells) (r : Reading) (x : RecId)
    (cell : Option Cell) (p : RecId) (table : Table) (es : List Entry) → AreRecords coding f old r
    → Changes old new x cell → IsStep coding f r new x p table es
    → AreRecords coding f new (put_reading r p es)
step_sound coding f old new r x cell p table es s change step = record {
  reads = put_cases r p es (λ q fs. (t : Table) → table_in f q ≡ Some t
      → Chain new (newest_of q (new q)) fs) (λ t is. step.reads) reads_other;
  outside = put_cases r p es (λ q fs. table_in f q ≡ None → fs ≡ [])
      (λ none. absurd (no_table none)) (λ q ne. s.outside q);
  each = put_cases r p es (λ q fs. (t : Table) → table_in f q ≡ Some t → IsRecord coding f t fs)
      (λ t is. rw (one_table f p t table is step.of_table) step.lawful) (λ q ne. s.each q);
  apart = put_cases r p es (λ a fs. (b y : RecId) → Stands fs y
      → Stands (put_reading r p es b) y → a ≡ b) apart_here apart_other;
  keys = put_cases r p es (λ a fs. (b : RecId) (t : Table) → table_in f a ≡ Some t
      → table_in f b ≡ Some t → TakesKey f fs → TakesKey f (put_reading r p es b)
      → record_key t fs ≡ record_key t (put_reading r p es b) → a ≡ b) keys_here keys_other;
}
  where
    no_table : table_in f p ≡ None → ⊥
    no_table none = let some = step.of_table in cc

    reads_other : (q : RecId) → q ≢ p → (t : Table) → table_in f q ≡ Some t
        → Chain new (newest_of q (new q)) (r q)
    reads_other q ne t is = at (cases_place q x)
      where
        at : ((q ≡ x) × (same_place q x ≡ true)) ⊎ ((q ≢ x) × (same_place q x ≡ false))
            → Chain new (newest_of q (new q)) (r q)
        at (inl (e, _)) = rw e (step.slot (λ g. ne (e ∙ g)) t (rw e at is))
        at (inr (n, _)) = rw (change.others q n)
            (chain_stays old new x cell change (newest_of q (old q)) (r q) (s.reads q t is)
            (step.out q ne))

    apart_here : (b y : RecId) → Stands es y → Stands (put_reading r p es b) y → p ≡ b
    apart_here b y i = put_cases r p es (λ c gs. Stands gs y → p ≡ c) (λ j. refl)
        (λ c ne j. absurd (step.apart c y ne i j)) b

    apart_other : (a : RecId) → a ≢ p → (b y : RecId) → Stands (r a) y
        → Stands (put_reading r p es b) y → a ≡ b
    apart_other a na b y i = put_cases r p es (λ c gs. Stands gs y → a ≡ c)
        (λ j. absurd (step.apart a y na j i)) (λ c ne j. s.apart a c y i j) b

    keys_here : (b : RecId) (t : Table) → table_in f p ≡ Some t → table_in f b ≡ Some t
        → TakesKey f es → TakesKey f (put_reading r p es b)
        → record_key t es ≡ record_key t (put_reading r p es b) → p ≡ b
    keys_here b t is = put_cases r p es (λ c gs. table_in f c ≡ Some t → TakesKey f es
        → TakesKey f gs → record_key t es ≡ record_key t gs → p ≡ c) (λ of i j same. refl)
        (λ c ne of i j same. absurd (key_taken c ne of i j same)) b
      where
        same_table : t ≡ table
        same_table = one_table f p t table is step.of_table

        key_taken : (c : RecId) → c ≢ p → table_in f c ≡ Some t → TakesKey f es → TakesKey f (r c)
            → record_key t es ≡ record_key t (r c) → ⊥
        key_taken c ne = rw same_table (step.keys c ne)

    keys_other : (a : RecId) → a ≢ p → (b : RecId) (t : Table) → table_in f a ≡ Some t
        → table_in f b ≡ Some t → TakesKey f (r a) → TakesKey f (put_reading r p es b)
        → record_key t (r a) ≡ record_key t (put_reading r p es b) → a ≡ b
    keys_other a na b t is = put_cases r p es (λ c gs. table_in f c ≡ Some t → TakesKey f (r a)
        → TakesKey f gs → record_key t (r a) ≡ record_key t gs → a ≡ c)
        (λ of i j same. sym (keys_here a t of is j (rw (other a na) i)
        (rw (other a na) (sym same))))
        (λ c ne of. s.keys a c t is of) b
      where
        other : (c : RecId) → c ≢ p → put_reading r p es c ≡ r c
        other c ne = put_cases r p es (λ d gs. d ≢ p → gs ≡ r d) (λ no. absurd (no refl))
            (λ d no _. refl) c ne

-- a cell that no record comes to, and that leads nowhere, is put or freed: the same is read
pub unread_sound : (coding : Coding) (f : Facts) (old new : Cells) (r : Reading) (x : RecId)
    (cell : Option Cell) → AreRecords coding f old r → Changes old new x cell
    → ((q : RecId) → Stands (r q) x → ⊥) → r x ≡ [] → newest_of x cell ≡ None
    → AreRecords coding f new r
unread_sound coding f old new r x cell s change out empty leads = record {
  reads = λ q t is. at q t is (cases_place q x);
  outside = s.outside;
  each = s.each;
  apart = s.apart;
  keys = s.keys;
}
  where
    at : (q : RecId) (t : Table) → table_in f q ≡ Some t
        → ((q ≡ x) × (same_place q x ≡ true)) ⊎ ((q ≢ x) × (same_place q x ≡ false))
        → Chain new (newest_of q (new q)) (r q)
    at q t is (inl (e, _)) = rw (e, change.here, leads, empty) ended
    at q t is (inr (n, _)) = rw (change.others q n)
        (chain_stays old new x cell change (newest_of q (old q)) (r q) (s.reads q t is) (out q))
