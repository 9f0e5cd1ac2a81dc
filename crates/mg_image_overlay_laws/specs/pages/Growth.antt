-- A table gets a data page: its own pages.
use Rattle.mg_base.specs.Checks.{Check, common_checks}
use Rattle.mg_base.specs.declared.numbers.RecId.{RecId}
use Rattle.mg_base.specs.declared.transaction.TxState.{TxState}
use Rattle.mg_image.specs.FactLaws.{each_has}
use Rattle.mg_image.specs.Form.{Coding, Pages}
use Rattle.mg_image.specs.Indexes.{AreTrees}
use Rattle.mg_image.specs.Inventory.{is_used}
use Rattle.mg_image.specs.Reached.{IsAsWanted}
use Rattle.mg_image.specs.RecordRules.{AreRecords, Facts, IsInLimbo, IsRecord, IsVersion, TakesKey, table_in}
use Rattle.mg_image.specs.Records.{Cells, Chain, Reading, ended, newest_of, record_key, shown}
use Rattle.mg_image.specs.Sound.{HasTablePages, IsTableData, IsTablePointer}
use Rattle.mg_image.specs.Tables.{EachFrom, Has, LinkChain, Stand, ended as chain_ended, entries_in, goes, has}
use Rattle.mg_image.specs.declared.entry.Entry.{Entry}
use Rattle.mg_model.specs.Answers.{is_committed}
use Rattle.mg_model.specs.declared.table.Table.{Table}
use Rattle.mg_pointer.specs.PointerPage.{AddsEntry, entries_of, next_in, pointer_checks}
use Rattle.mg_slots.specs.declared.page.TheConstants.{DATA_KIND}
use Rattle.mg_value.specs.declared.value.Value.{Value}
use Rattle.std.proofs.Common.{Bool, List, None, Some, [], ap, arith, inl, inr, length, refl, subst, suc, sym, true, ℕ, ◌++◌, ◌+◌, ◌∙◌, ◌∷◌, ◌≡◌, ◌≢◌, ◌⊎◌}
use Rattle.std.proofs.lemmas.Bool.{cases_eq}

-- ---- lists

pub has_front : (ms ns : List ℕ) (n : ℕ) → Has ms n → Has (ms ++ ns) n
has_front [] ns n is = absurd is
has_front (m ∷ ms) ns n (inl e) = inl e
has_front (m ∷ ms) ns n (inr more) = inr (has_front ms ns n more)

pub has_back : (ms ns : List ℕ) (n : ℕ) → Has ns n → Has (ms ++ ns) n
has_back [] ns n is = is
has_back (m ∷ ms) ns n is = inr (has_back ms ns n is)

pub has_either : (ms ns : List ℕ) (n : ℕ) → Has (ms ++ ns) n → Has ms n ⊎ Has ns n
has_either [] ns n is = inr is
has_either (m ∷ ms) ns n (inl e) = inl (inl e)
has_either (m ∷ ms) ns n (inr more) = by (has_either ms ns n more)
  where
    by : Has ms n ⊎ Has ns n → Has (m ∷ ms) n ⊎ Has ns n
    by (inl is) = inl (inr is)
    by (inr is) = inr is

each_with_last : (P : ℕ → ℕ → Type 0) (at : ℕ) (ns : List ℕ) (n : ℕ) → EachFrom P at ns
    → P (at + length ns) n → EachFrom P at (ns ++ (n ∷ []))
each_with_last P at [] n each last =
    let same : at + 0 ≡ at = omega arith in (subst (λ (k : ℕ). P k n) same last, tt)
each_with_last P at (m ∷ ms) n each last =
    let same : at + suc (length ms) ≡ suc at + length ms = omega arith in
    (each.0, each_with_last P (suc at) ms n each.1 (subst (λ (k : ℕ). P k n) same last))

each_from : (P Q : ℕ → ℕ → Type 0) (at : ℕ) (ns : List ℕ)
    → ((k n : ℕ) → Has ns n → P k n → Q k n) → EachFrom P at ns → EachFrom Q at ns
each_from P Q at [] gives each = tt
each_from P Q at (n ∷ ns) gives each =
    (gives at n (inl refl) each.0, each_from P Q (suc at) ns (λ k m is. gives k m (inr is)) each.1)

chain_as : (old new : ℕ → ℕ) (first : ℕ) (ns : List ℕ) → ((n : ℕ) → Has ns n → new n ≡ old n)
    → LinkChain old first ns → LinkChain new first ns
chain_as old new first ns same chain_ended = chain_ended
chain_as old new first ns same (goes n ms some more) =
    goes n ms some (rw (same n (inl refl)) (chain_as old new (old n) ms (λ m is. same m (inr is)) more))

-- the entries, where one page of a list has one more, which is the last page
pub entries_grow : (old new : Pages) (front : List ℕ) (q n : ℕ)
    → ((m : ℕ) → Has front m → new m ≡ old m) → entries_of (new q) ≡ entries_of (old q) ++ (n ∷ [])
    → entries_in new (front ++ (q ∷ [])) ≡ entries_in old (front ++ (q ∷ [])) ++ (n ∷ [])
entries_grow old new [] q n same entry =
    nil (entries_of (new q)) ∙ (entry ∙ ap (λ (ms : List ℕ). ms ++ (n ∷ [])) (sym (nil (entries_of (old q)))))
  where
    nil : (ms : List ℕ) → ms ++ [] ≡ ms
    nil [] = refl
    nil (m ∷ ms) = ap (λ (ks : List ℕ). m ∷ ks) (nil ms)
entries_grow old new (m ∷ ms) q n same entry =
    ap (λ (ks : List ℕ). ks ++ entries_in new (ms ++ (q ∷ []))) (ap entries_of (same m (inl refl)))
    ∙ (ap (λ (ks : List ℕ). entries_of (old m) ++ ks)
    (entries_grow old new ms q n (λ k is. same k (inr is)) entry)
    ∙ sym (assoc (entries_of (old m)) (entries_in old (ms ++ (q ∷ []))) (n ∷ [])))
  where
    assoc : (fs gs hs : List ℕ) → (fs ++ gs) ++ hs ≡ fs ++ (gs ++ hs)
    assoc [] gs hs = refl
    assoc (f ∷ fs) gs hs = ap (λ (ks : List ℕ). f ∷ ks) (assoc fs gs hs)

-- ---- the pages of the table

abbrev pub grown : Stand → ℕ → Stand
grown stand n = record stand { data_pages = stand.data_pages ++ (n ∷ []) }

-- A data page comes to the end of a table: its last pointer page has an entry more, and the page is
-- an empty one of the table. No other page of the table is changed, and what was used is used still.
pub record GrowsStand (in_primary : Bool) (size : ℕ) (old new : Pages) (stand : Stand)
    (front : List ℕ) (q n : ℕ) : Type 0 where
  pub pointers : stand.pointers ≡ front ++ (q ∷ [])
  pub entry : AddsEntry (old q) (new q) n
  pub is_pointer : IsTablePointer size new stand.table.pointer.0 (0 + length front) q
  pub made : IsTableData in_primary size new stand.table.pointer.0 (0 + length stand.data_pages) n
  pub front_kept : (m : ℕ) → Has front m → new m ≡ old m
  pub data_kept : (m : ℕ) → Has stand.data_pages m → new m ≡ old m
  pub used : (m : ℕ) → is_used size old m ≡ true → is_used size new m ≡ true
  pub trees : AreTrees size new stand.table.pointer.0 stand.table.indexes stand.trees

pub wanted_still : (size : ℕ) (old new : Pages) (n : ℕ) (before after : List Check)
    → (is_used size old n ≡ true → is_used size new n ≡ true) → after ≡ before
    → IsAsWanted size old n before → IsAsWanted size new n after
wanted_still size old new n before after used same is = record {
  below = is.below;
  used = used is.used;
  fields = rw same is.fields;
}

each_front : (P : ℕ → ℕ → Type 0) (at : ℕ) (ms ns : List ℕ) → EachFrom P at (ms ++ ns)
    → EachFrom P at ms
each_front P at [] ns each = tt
each_front P at (m ∷ ms) ns each = (each.0, each_front P (suc at) ms ns each.1)

pub table_grows : (in_primary : Bool) (size : ℕ) (old new : Pages) (stand : Stand)
    (front : List ℕ) (q n : ℕ) → GrowsStand in_primary size old new stand front q n
    → HasTablePages in_primary size old stand → HasTablePages in_primary size new (grown stand n)
table_grows in_primary size old new stand front q n grows has = record {
  first = has.first;
  chain = chain_as (λ m. next_in (old m)) (λ m. next_in (new m)) stand.table.pointer.0 stand.pointers
      next_same has.chain;
  entries = ap (λ (ms : List ℕ). ms ++ (n ∷ [])) has.entries
      ∙ (ap (λ (ms : List ℕ). entries_in old ms ++ (n ∷ [])) grows.pointers
      ∙ (sym (entries_grow old new front q n grows.front_kept grows.entry.entries)
      ∙ sym (ap (entries_in new) grows.pointers)));
  pointers = subst (EachFrom (IsTablePointer size new stand.table.pointer.0) 0) (sym grows.pointers)
      (each_with_last (IsTablePointer size new stand.table.pointer.0) 0 front q
      (each_from (IsTablePointer size old stand.table.pointer.0)
      (IsTablePointer size new stand.table.pointer.0) 0 front pointer_kept
      (each_front (IsTablePointer size old stand.table.pointer.0) 0 front (q ∷ [])
      (subst (EachFrom (IsTablePointer size old stand.table.pointer.0) 0) grows.pointers has.pointers)))
      grows.is_pointer);
  data_pages = each_with_last (IsTableData in_primary size new stand.table.pointer.0) 0
      stand.data_pages n
      (each_from (IsTableData in_primary size old stand.table.pointer.0)
      (IsTableData in_primary size new stand.table.pointer.0) 0 stand.data_pages data_still
      has.data_pages) grows.made;
  trees = grows.trees;
}
  where
    next_same : (m : ℕ) → Has stand.pointers m → next_in (new m) ≡ next_in (old m)
    next_same m is = at (has_either front (q ∷ []) m (subst (λ (ms : List ℕ). Has ms m) grows.pointers is))
      where
        at : Has front m ⊎ Has (q ∷ []) m → next_in (new m) ≡ next_in (old m)
        at (inl is) = ap next_in (grows.front_kept m is)
        at (inr (inl e)) = rw e grows.entry.next
        at (inr (inr none)) = absurd none

    pointer_kept : (k m : ℕ) → Has front m → IsTablePointer size old stand.table.pointer.0 k m
        → IsTablePointer size new stand.table.pointer.0 k m
    pointer_kept k m is = wanted_still size old new m
        (pointer_checks (old m) m stand.table.pointer.0 k)
        (pointer_checks (new m) m stand.table.pointer.0 k) (grows.used m)
        (ap (λ (b : List ℕ). pointer_checks b m stand.table.pointer.0 k) (grows.front_kept m is))

    data_still : (k m : ℕ) → Has stand.data_pages m
        → IsTableData in_primary size old stand.table.pointer.0 k m
        → IsTableData in_primary size new stand.table.pointer.0 k m
    data_still k m is of = record {
      wanted = wanted_still size old new m
          (common_checks (old m) m DATA_KIND stand.table.pointer.0 k)
          (common_checks (new m) m DATA_KIND stand.table.pointer.0 k) (grows.used m)
          (ap (λ (b : List ℕ). common_checks b m DATA_KIND stand.table.pointer.0 k)
          (grows.data_kept m is)) of.wanted;
      lawful = rw (grows.data_kept m is) of.lawful;
      cells = rw (grows.data_kept m is) of.cells;
    }

-- ---- what the records need to know

-- A page comes to be a data page of a table.
pub record AddsPage (f g : Facts) (n : ℕ) (table : Table) : Type 0 where
  pub was : f.table_of n ≡ None
  pub is : g.table_of n ≡ Some table
  pub others : (m : ℕ) → m ≢ n → g.table_of m ≡ f.table_of m
  pub state : g.state ≡ f.state
  pub next : g.next ≡ f.next
  pub oldest : g.oldest ≡ f.oldest

-- the same records are lawful, as long as no record begins on it
pub page_added : (coding : Coding) (f g : Facts) (h : Cells) (r : Reading) (n : ℕ) (table : Table)
    → AddsPage f g n table → ((p : RecId) → p.page.0 ≡ n → newest_of p (h p) ≡ None)
    → AreRecords coding f h r → AreRecords coding g h r
page_added coding f g h r n table adds none are = record {
  reads = λ p t of. by_reads p t of (cases_eq p.page.0 n);
  outside = λ p out. are.outside p (was_out p out (cases_eq p.page.0 n));
  each = λ p t of. by_each p t of (cases_eq p.page.0 n);
  apart = are.apart;
  keys = λ p q t of_p of_q takes_p takes_q same. by_keys p q t of_p of_q takes_p takes_q same
      (cases_eq p.page.0 n) (cases_eq q.page.0 n);
}
  where
    empty : (p : RecId) → p.page.0 ≡ n → r p ≡ []
    empty p e = are.outside p (ap f.table_of e ∙ adds.was)

    back : (p : RecId) (t : Table) → p.page.0 ≢ n → table_in g p ≡ Some t → table_in f p ≡ Some t
    back p t ne of = sym (adds.others p.page.0 ne) ∙ of

    was_out : (p : RecId) → table_in g p ≡ None → (p.page.0 ≡ n) ⊎ (p.page.0 ≢ n)
        → table_in f p ≡ None
    was_out p out (inl e) = ap f.table_of e ∙ adds.was
    was_out p out (inr ne) = sym (adds.others p.page.0 ne) ∙ out

    by_reads : (p : RecId) (t : Table) → table_in g p ≡ Some t → (p.page.0 ≡ n) ⊎ (p.page.0 ≢ n)
        → Chain h (newest_of p (h p)) (r p)
    by_reads p t of (inl e) = rw (none p e, empty p e) ended
    by_reads p t of (inr ne) = are.reads p t (back p t ne of)

    version_still : (t : Table) (key : Value) (e : Entry) → IsVersion coding f t key e
        → IsVersion coding g t key e
    version_still t key e is = record {
      placed = at (cases_eq e.at.page.0 n);
      drawn = rw adds.next is.drawn;
      dead = rw (adds.state, adds.oldest) is.dead;
      format = is.format;
      spelled = is.spelled;
      storable = is.storable;
      erased = is.erased;
      keyed = is.keyed;
    }
      where
        at : (e.at.page.0 ≡ n) ⊎ (e.at.page.0 ≢ n) → table_in g e.at ≡ Some t
        at (inl same) = let both = sym is.placed ∙ (ap f.table_of same ∙ adds.was) in absurd cc
        at (inr ne) = adds.others e.at.page.0 ne ∙ is.placed

    by_each : (p : RecId) (t : Table) → table_in g p ≡ Some t → (p.page.0 ≡ n) ⊎ (p.page.0 ≢ n)
        → IsRecord coding g t (r p)
    by_each p t of (inl e) = subst (IsRecord coding g t) (sym (empty p e))
        (record { once = tt; each = tt; backs = tt })
    by_each p t of (inr ne) =
        let is : IsRecord coding f t (r p) = are.each p t (back p t ne of) in
        record {
          once = is.once;
          each = each_has (IsVersion coding f t (record_key t (r p)))
              (IsVersion coding g t (record_key t (r p)))
              (version_still t (record_key t (r p))) (r p) is.each;
          backs = rw adds.state is.backs;
        }

    takes_none : TakesKey g [] → ⊥
    takes_none (inl (row, shows)) = absurd cc
    takes_none (inr limbo) = limbo

    takes_still : (es : List Entry) → TakesKey g es → TakesKey f es
    takes_still es (inl (row, shows)) =
        inl (row, subst (λ (s : ℕ → TxState). shown (λ t. is_committed (s t)) es ≡ Some row) adds.state shows)
    takes_still es (inr limbo) = inr (limbo_still es limbo)
      where
        limbo_still : (es : List Entry) → IsInLimbo g es → IsInLimbo f es
        limbo_still [] is = is
        limbo_still (e ∷ es) is = rw (sym adds.state) is

    by_keys : (p q : RecId) (t : Table) → table_in g p ≡ Some t → table_in g q ≡ Some t
        → TakesKey g (r p) → TakesKey g (r q) → record_key t (r p) ≡ record_key t (r q)
        → (p.page.0 ≡ n) ⊎ (p.page.0 ≢ n) → (q.page.0 ≡ n) ⊎ (q.page.0 ≢ n) → p ≡ q
    by_keys p q t of_p of_q takes_p takes_q same (inl e) there =
        absurd (takes_none (subst (TakesKey g) (empty p e) takes_p))
    by_keys p q t of_p of_q takes_p takes_q same (inr ne) (inl e) =
        absurd (takes_none (subst (TakesKey g) (empty q e) takes_q))
    by_keys p q t of_p of_q takes_p takes_q same (inr ne) (inr also) = are.keys p q t
        (back p t ne of_p) (back q t also of_q) (takes_still (r p) takes_p)
        (takes_still (r q) takes_q) same
