-- The table of a name that a transaction sees.
use Rattle.std.proofs.Common.{◌≡◌, ◌≢◌, inl, inr, ℕ, Bool, false, List, [], ◌∷◌, Option, None, Some, refl, sym, ap, ◌∙◌, subst}
use Rattle.std.proofs.lemmas.Bool.{false≢true}
use Rattle.std.specs.Prelude.{IsTrue, Result, Ok, Err, unwrap_or}
use Rattle.mg_base.specs.Disk.{Meaning}
use Rattle.mg_base.specs.Image.{Image}
use Rattle.mg_base.specs.declared.geometry.Geometry.{Geometry}
use Rattle.mg_base.specs.declared.numbers.TxNo.{TxNo}
use Rattle.mg_heap.specs.Reading.{ReadsData}
use Rattle.mg_image.specs.Form.{Pages}
use Rattle.mg_model.specs.Catalog.{catalog_name}
use Rattle.mg_model.specs.declared.refusal.Refusal.{Refusal}
use Rattle.mg_model.specs.declared.table.Table.{Table}
use Rattle.mg_pool.specs.Batch.{Changed, content_in}
use Rattle.mg_pool.specs.Fault.{StaysOnline, TellsFault}
use Rattle.mg_pool.specs.Pool.{shown}
use Rattle.mg_pool.specs.declared.batch.BatchPage.{BatchPage}
use Rattle.mg_pool.specs.declared.pool.Pool.{Pool}
use Rattle.mg_seek.specs.TableRows.{FindsNamed, IsTableSeen, RefusesTable}
use Rattle.mg_space.specs.Taking.{IsGeometry}
use Rattle.mg_space.specs.View.{KeepsStore, Tells, pool_answer}
use Rattle.mg_space.specs.ViewLaws.{keeps_itself}
use Rattle.mg_space.specs.declared.fault.SpaceFault.{SpaceFault}
use Rattle.mg_space.specs.declared.fault.SpaceFault.TheVariants as space
use Rattle.mg_space.specs.declared.links.FireLinks.{FireLinks}
use Rattle.mg_txlist.specs.TxList.{said}
use Rattle.mg_txlist.specs.declared.list.TxList.{TxList}
use Rattle.mg_works.specs.Works.{MayBeGiven, given_to, with_table, with_work}
use Rattle.mg_core.specs.declared.parts.Core.{Core}
use Rattle.mg_core.specs.Cores.{Continues, IsCore}
use Rattle.mg_core.specs.Refusing.{CountsFault, IsRefusal}
use Rattle.mg_core.specs.Tables.{AnswersTable, FindsSeen, IsLawfulOr, KeepsTable, LacksTable, ReadsPages, SeesTable, WhyNoTable, by_fault, by_memory}
use Rattle.mg_core.proofs.CoreLemmas.{core_made, with_same}
use Rattle.mg_txlist.specs.TipLaws.{tips_by}

-- ---- the cache has only read

-- another store, which has only read, and counts
pub core_read : {D : Type 0} (m : Meaning D) (core : Core D) (store : Pool D FireLinks) (damage shortages : ℕ)
    → IsCore m core → KeepsStore m core.store store
    → IsCore m (record core { store = store; damage = damage; shortages = shortages })
core_read m core store damage shortages is keeps = record {
  pool = keeps.pool;
  geometry = subst IsGeometry (sym keeps.geometry) is.geometry;
  list = is.list;
  size = is.size ∙ sym (ap (λ (g : Geometry). g.size) keeps.geometry);
  tips = tips_by core.store.geometry store.geometry core.list keeps.geometry is.tips;
  next = is.next;
  drawn = is.drawn;
  active = is.active;
  catalog = is.catalog;
}

-- nothing was read
pub reads_none : {D : Type 0} (m : Meaning D) (core : Core D) → IsCore m core → core.store.offline ≡ None
    → ReadsPages m core core
reads_none m core is online = record {
  keeps = keeps_itself m core.store is.pool;
  online = (online, online, refl);
}

-- ---- what was seen

-- a batch without pages shows what the cache shows
pub sees_shown : {D L : Type 0} (store : Pool D L) (image : Image) (batch : Changed)
    (P : List BatchPage → Pages → Type 0) → batch.pages ≡ []
    → P batch.pages (λ n. unwrap_or (content_in batch.pages n) (shown store.dirty image n))
    → P [] (shown store.dirty image)
sees_shown store image batch P empty holds = subst (λ (pages : List BatchPage).
    P pages (λ n. unwrap_or (content_in pages n) (shown store.dirty image n))) empty holds

-- the table of a name, or none, as the catalog's rows name it
pub seen_by : {D : Type 0} (m : Meaning D) (core : Core D) (list : TxList) (batch : Changed) (t : TxNo)
    (bytes name : List ℕ) (answer found : Option Table) → bytes ≡ name → answer ≡ found → list ≡ core.list
    → batch.pages ≡ [] → ((image : Image) → Tells m core.store.disk image
    → IsTableSeen (said list) core.live t
    (λ n. unwrap_or (content_in batch.pages n) (shown core.store.dirty image n)) core.catalog bytes answer)
    → SeesTable m core t name found
seen_by m core list batch t bytes name answer found named is same empty gives image tells =
    sees_shown core.store image batch (λ (pages : List BatchPage). λ (view : Pages).
    IsTableSeen (said core.list) core.live t view core.catalog name found) empty
    (subst (λ (l : TxList). IsTableSeen (said l) core.live t
    (λ n. unwrap_or (content_in batch.pages n) (shown core.store.dirty image n)) core.catalog name found) same
    (subst (λ (a : Option Table). IsTableSeen (said list) core.live t
    (λ n. unwrap_or (content_in batch.pages n) (shown core.store.dirty image n)) core.catalog name a) is
    (subst (λ (b : List ℕ). IsTableSeen (said list) core.live t
    (λ n. unwrap_or (content_in batch.pages n) (shown core.store.dirty image n)) core.catalog b answer) named
    (gives image tells))))

pub refused_by : {D : Type 0} (m : Meaning D) (core : Core D) (store : Pool D FireLinks) (list : TxList)
    (batch : Changed) (t : TxNo) (name : List ℕ) (fault : SpaceFault) → list ≡ core.list
    → batch.pages ≡ [] → ((image : Image) → Tells m core.store.disk image
    → RefusesTable m store batch.pages (said list) core.live t
    (λ n. unwrap_or (content_in batch.pages n) (shown core.store.dirty image n)) core.catalog fault)
    → WhyNoTable m core store t name fault
refused_by m core store list batch t name fault same empty gives = inl (λ image tells.
    sees_shown core.store image batch (λ (pages : List BatchPage). λ (view : Pages).
    RefusesTable m store pages (said core.list) core.live t view core.catalog fault) empty
    (subst (λ (l : TxList). RefusesTable m store batch.pages (said l) core.live t
    (λ n. unwrap_or (content_in batch.pages n) (shown core.store.dirty image n)) core.catalog fault)
    same (gives image tells)))

-- a fault of the cache is told whatever was to be answered
pub told_again : {D L : Type 0} (T : Type 0) (m : Meaning D) (old new : Pool D L) (fault : SpaceFault)
    → TellsFault m old new (pool_answer {T = T} (Err fault))
    → TellsFault m old new (pool_answer {T = Unit {0}} (Err fault))
told_again T m old new (space.Full limit) told = told
told_again T m old new (space.Damaged it) told = told
told_again T m old new (space.Pool fault) told = told

-- a reading is refused for the same, whatever was to be answered
pub own_again : (T : Type 0) (fault : SpaceFault) → ReadsData {T = T} (Err fault)
    → ReadsData {T = Unit {0}} (Err fault)
own_again T (space.Full limit) own = own
own_again T (space.Damaged it) own = own
own_again T (space.Pool fault) own = own

-- ---- the whole call

-- a table that was found is kept, or there was no memory
pub table_kept : {D : Type 0} (m : Meaning D) (old mid new : Core D) (t : TxNo) (name : List ℕ) (table : Table)
    (result : Result Table Refusal) → Continues old t.0 → name ≢ catalog_name
    → given_to old.works t.0 name ≡ None → FindsSeen m old mid t name (Ok (Some table))
    → KeepsTable mid new t.0 table result → AnswersTable m old new t name result
table_kept {D} m old mid new t name table (Ok given) continues other fresh seen keeps =
    subst (λ (x : Table). AnswersTable m old new t name (Ok x)) (sym keeps.0) (inr (record {
      continues = continues;
      other = other;
      fresh = fresh;
      named = seen.4;
      sees = seen.0;
      may = seen.1;
      reads = record {
        keeps = subst (KeepsStore m old.store) (sym same_store) seen.2.keeps;
        online = subst (StaysOnline m old.store) (sym same_store) seen.2.online;
      };
      same = keeps.1 ∙ ap (λ (c : Core D). record c { works = with_work t.0 (with_table table) c.works }) seen.3
          ∙ ap (λ (s : Pool D FireLinks). record old {
            store = s;
            works = with_work t.0 (with_table table) old.works;
          }) (sym same_store);
    }))
  where
    same_store : new.store ≡ mid.store
    same_store = ap (λ (c : Core D). c.store) keeps.1
table_kept {D} m old mid new t name table (Err refusal) continues other fresh seen keeps =
    subst (λ (r : Refusal). AnswersTable m old new t name (Err r)) (sym keeps.0) (by_memory (record {
      continues = continues;
      reads = subst (ReadsPages m old) (sym keeps.1) seen.2;
      same = keeps.1 ∙ seen.3 ∙ ap (λ (c : Core D). record old { store = c.store }) (sym keeps.1);
    }))

-- no row names it
pub table_lacked : {D : Type 0} (m : Meaning D) (old new : Core D) (t : TxNo) (name : List ℕ)
    → Continues old t.0 → name ≢ catalog_name → given_to old.works t.0 name ≡ None
    → FindsSeen m old new t name (Ok None) → LacksTable m old new t name
table_lacked m old new t name continues other fresh seen = record {
  continues = continues;
  fresh = fresh;
  none = inr (other, seen.0);
  reads = seen.2;
  same = seen.3;
}

-- it was not found
pub table_failed : {D : Type 0} (m : Meaning D) (old mid new : Core D) (t : TxNo) (name : List ℕ)
    (fault : SpaceFault) (refusal : Refusal) → Continues old t.0 → name ≢ catalog_name
    → given_to old.works t.0 name ≡ None → FindsSeen m old mid t name (Err fault) → IsRefusal fault refusal
    → CountsFault fault mid.damage new.damage mid.shortages new.shortages
    → new ≡ record mid { damage = new.damage; shortages = new.shortages }
    → AnswersTable m old new t name (Err refusal)
table_failed {D} m old mid new t name fault refusal continues other fresh seen is counts same =
    by_fault refusal (record {
      continues = continues;
      other = other;
      fresh = fresh;
      fault = fault;
      is = is;
      keeps = subst (KeepsStore m old.store) (sym same_store) seen.0;
      told = subst (λ (s : Pool D FireLinks). TellsFault m old.store s (pool_answer {T = Unit {0}} (Err fault)))
          (sym same_store) seen.1;
      own = seen.4;
      why = subst (λ (s : Pool D FireLinks). WhyNoTable m old s t name fault) (sym same_store) seen.2;
      counts = subst (λ (d : ℕ). CountsFault fault d new.damage old.shortages new.shortages) same_damage
          (subst (λ (s : ℕ). CountsFault fault mid.damage new.damage s new.shortages) same_shortages counts);
      same = same ∙ ap (λ (c : Core D). record c { damage = new.damage; shortages = new.shortages }) seen.3
          ∙ ap (λ (s : Pool D FireLinks). record old {
            store = s;
            damage = new.damage;
            shortages = new.shortages;
          }) (sym same_store);
    })
  where
    same_store : new.store ≡ mid.store
    same_store = ap (λ (c : Core D). c.store) same

    same_damage : mid.damage ≡ old.damage
    same_damage = ap (λ (c : Core D). c.damage) seen.3

    same_shortages : mid.shortages ≡ old.shortages
    same_shortages = ap (λ (c : Core D). c.shortages) seen.3

-- ---- the steps

-- the cache has only read, and nothing else has happened
pub core_read_store : {D : Type 0} (m : Meaning D) (old new : Core D) → IsCore m old
    → KeepsStore m old.store new.store → new ≡ record old { store = new.store } → IsCore m new
core_read_store m old new is keeps same = subst (IsCore m) (sym same)
    (core_read m old new.store old.damage old.shortages is keeps)

-- a table is kept, or there was no memory
pub kept_core : {D : Type 0} (m : Meaning D) (mid new : Core D) (t : ℕ) (table : Table)
    (result : Result Table Refusal) → IsCore m mid → KeepsTable mid new t table result → IsCore m new
kept_core m mid new t table (Ok given) is keeps = subst (IsCore m) (sym keeps.1)
    (core_made m mid (with_work t (with_table table) mid.works) is
    (with_same mid.works t (with_table table) (λ w. refl) (λ w. refl)))
kept_core m mid new t table (Err refusal) is keeps = subst (IsCore m) (sym keeps.1) is

-- the first table of a name has it
finds_named : (tables : List Table) (name : List ℕ) (table : Table) → FindsNamed tables name (Some table)
    → table.name ≡ name
finds_named [] name table finds = absurd cc
finds_named (first ∷ tables) name table (inl (same, is)) =
    let it : first ≡ table = cc in ap (λ (x : Table). x.name) (sym it) ∙ same
finds_named (first ∷ tables) name table (inr (other, later)) = finds_named tables name table later

-- so a table that is seen under a name is itself under the name
seen_under : {D : Type 0} (m : Meaning D) (core : Core D) (t : TxNo) (name : List ℕ) (table : Table)
    → SeesTable m core t name (Some table) → SeesTable m core t name (Some (record table { name = name }))
seen_under m core t name table sees image tells =
    let seen = sees image tells in
    subst (λ (n : List ℕ). IsTableSeen (said core.list) core.live t (shown core.store.dirty image) core.catalog
    name (Some (record table { name = n }))) (finds_named seen.names.0 name table seen.names.2) seen

-- a table that was found may be given
pub lawful_found : {D : Type 0} (m : Meaning D) (old new : Core D) (t : TxNo) (name : List ℕ)
    (table given under : Table) (page : ℕ) → SeesTable m old t name (Some table)
    → IsLawfulOr page table (Ok given) → under ≡ record given { name = name } → ReadsPages m old new
    → new ≡ record old { store = new.store } → FindsSeen m old new t name (Ok (Some under))
lawful_found m old new t name table given under page sees lawful is reads same = (
  subst (λ (x : Table). SeesTable m old t name (Some x)) (sym to) (seen_under m old t name table sees),
  subst MayBeGiven (sym to) (record { columns = lawful.1.columns; pointer = lawful.1.pointer }),
  reads,
  same,
  ap (λ (x : Table). x.name) is,
)
  where
    to : under ≡ record table { name = name }
    to = is ∙ ap (λ (x : Table). record x { name = name }) lawful.0

-- or it may not
pub stray_found : {D : Type 0} (m : Meaning D) (old new : Core D) (t : TxNo) (name : List ℕ)
    (table : Table) (fault : SpaceFault) → SeesTable m old t name (Some table)
    → IsLawfulOr old.catalog.pointer.0 table (Err fault) → ReadsPages m old new
    → new ≡ record old { store = new.store } → FindsSeen m old new t name (Err fault)
stray_found m old new t name table fault sees stray reads same = (
  reads.keeps,
  subst (λ (f : SpaceFault). TellsFault m old.store new.store (pool_answer {T = Unit {0}} (Err f)))
      (sym stray.1) reads.online,
  inr (record { table = table; sees = sees; stray = stray.0; is = stray.1 }),
  same,
  subst (λ (f : SpaceFault). ReadsData {T = Unit {0}} (Err f)) (sym stray.1) tt,
)

-- a name that was tested is another one than the catalog's
pub not_catalog : (name bytes : List ℕ) (b : Bool) → b ≡ false → bytes ≡ name
    → (bytes ≡ catalog_name → IsTrue b) → name ≢ catalog_name
not_catalog name bytes b no_ same told is = false≢true (sym no_ ∙ told (same ∙ is))

-- what was found, by its case
pub some_found : {D : Type 0} (m : Meaning D) (old new : Core D) (t : TxNo) (name : List ℕ) (table : Table)
    (found : Option Table) → found ≡ Some table → FindsSeen m old new t name (Ok found)
    → FindsSeen m old new t name (Ok (Some table))
some_found m old new t name table found is finds = subst (λ (f : Option Table).
    FindsSeen m old new t name (Ok f)) is finds

pub none_found : {D : Type 0} (m : Meaning D) (old new : Core D) (t : TxNo) (name : List ℕ)
    (found : Option Table) → found ≡ None → FindsSeen m old new t name (Ok found)
    → FindsSeen m old new t name (Ok None)
none_found m old new t name found is finds = subst (λ (f : Option Table). FindsSeen m old new t name (Ok f))
    is finds
