-- The one invariant that an engine keeps from call to call, over its cache and by what its memory says of its
-- transactions.
use Rattle.std.specs.Prelude.{◌≡◌, ◌≢◌, ◌⊎◌, ◌&&◌, ◌||◌, ◌==◌, ℕ, Bool, true, false, not, is_some, List}
use Rattle.mg_base.specs.declared.transaction.TxState.{TxState}
use Rattle.mg_base.specs.declared.transaction.TxState.TheVariants.{Active}
use Rattle.mg_careful.specs.declared.links.Demand.{Demand}
use Rattle.mg_careful.specs.Precedence.{Orders}
use Rattle.mg_careful.specs.CarefulWrite.{Cache, DemandSet, Has, IsClosed, IsIn, IsLinked, PageSet, overlay, three_parts}
use Rattle.mg_careful.specs.CarefulSteps.{Contents, LaysBatch, written_out}
use Rattle.mg_demand_laws.specs.Runs.{IsLasting, Lasting}
use Rattle.mg_image.specs.Form.{Pages}
use Rattle.mg_image.specs.Tables.{Layout}
use Rattle.mg_model.specs.Answers.{is_active, is_committed}
use Rattle.mg_model.specs.declared.table.Table.{Table}
use Rattle.mg_space.specs.Demands.{demands_of, meets_of}
use Rattle.mg_space.specs.declared.links.TheConstants.{HEADER, NEXT, VERSION}
use Rattle.mg_image_overlay_laws.specs.tables.Growing.{IsTableOf}
use Rattle.mg_demand_laws.specs.Wanting.{want_of}
use Rattle.mg_demand_laws.specs.BatchSteps.{HasLasting}
use Rattle.mg_demand_laws.specs.Wants.{WantsPointer}
use Rattle.mg_demand_laws.specs.Keeping.{BearsTables, PaysOrderly}
use Rattle.mg_engine_demand_laws.specs.Wanted.{WantsTables}

-- What an engine's memory says of its transactions: what has become of each, which active ones have asked for their
-- commit, and by which session pages are marked for each.
pub record Fates : Type 0 where
  pub state : ℕ → TxState
  pub asked : ℕ → Bool
  pub session : ℕ → ℕ

-- a transaction is active, and has asked for its commit
abbrev pub asks : Fates → ℕ → Bool
asks fates t = is_active (fates.state t) && fates.asked t

-- which pages are marked by which session
abbrev pub Marks : Type 0
Marks = ℕ → ℕ → Bool

-- What lasts by what has become of the transactions: settled are those that have committed, and versions last of these
-- and of active ones that have asked for their commit.
pub record LastsFor (fates : Fates) (it : Lasting) : Type 0 where
  pub settled : (t : ℕ) → it.settled t ≡ is_committed (fates.state t)
  pub lasts : (d : Demand) → it.lasts d ≡ true → (is_committed (fates.state d.b) ≡ true) ⊎ (asks fates d.b ≡ true)

-- Of a transaction that has asked for its commit each version that is wanted lasts, or its page is marked for it.
abbrev pub WritesItsOwn : Marks → Fates → Lasting → DemandSet → Type 0
WritesItsOwn marks fates it wanted = (d : Demand) → asks fates d.b ≡ true → IsIn wanted d → d.what ≡ VERSION
    → (it.lasts d ≡ true) ⊎ (marks d.target (fates.session d.b) ≡ true)

-- roots, of which none is a version, are wanted of disk and pool
abbrev pub HasRoots : DemandSet → DemandSet → DemandSet → Type 0
HasRoots roots of_disk of_pool = (d : Demand) → IsIn roots d
    → (d.what ≢ VERSION) × IsIn of_disk d × IsIn of_pool d

-- An engine's cache bears its demands, with what its disk and its pool want: its tables are wanted, the header is, and
-- the number of each active transaction; and each version of one that commits is on the disk, or its page is marked.
pub record EngineBears (size : ℕ) (cache : Cache) (marks : Marks) (fates : Fates) (layout : Layout)
    (roots : DemandSet) (it : Lasting) (of_disk of_pool : DemandSet) : Type 0 where
  pub its : BearsTables size cache it of_disk of_pool
  pub lasting : LastsFor fates it
  pub header : IsIn of_pool (want_of 0 HEADER 0 0)
  pub tables : WantsTables size of_pool layout
  pub numbers : (t : ℕ) → fates.state t ≡ Active → IsIn of_pool (want_of 0 NEXT t 0)
  pub written : WritesItsOwn marks fates it of_pool
  pub rooted : HasRoots roots of_disk of_pool

-- It does so for some sets of what disk and pool want.
pub record IsBorne (size : ℕ) (cache : Cache) (marks : Marks) (fates : Fates) (layout : Layout) (roots : DemandSet)
    : Type 0 where
  pub it : Lasting
  pub of_disk : DemandSet
  pub of_pool : DemandSet
  pub bears : EngineBears size cache marks fates layout roots it of_disk of_pool

-- ---- page writes

-- More versions last where pages are clean: those of transactions that have asked for their commit.
abbrev pub lasting_clean : Fates → PageSet → Lasting → Lasting
lasting_clean fates dirty it = record {
  settled = it.settled;
  lasts = λ d. it.lasts d || (d.what == VERSION && (asks fates d.b && not (dirty d.target)));
}

-- the marks of pages that were written out are gone
abbrev pub MarksGo : Marks → PageSet → Marks → Type 0
MarksGo old gone new = (page who : ℕ) → new page who ≡ (old page who && not (gone page))

-- the law: after page writes all is borne still
abbrev pub WritesKeep : Type 0
WritesKeep = (size : ℕ) (cache : Cache) (marks now : Marks) (fates : Fates) (layout : Layout) (roots : DemandSet)
    (it : Lasting) (of_disk of_pool : DemandSet)
    → EngineBears size cache marks fates layout roots it of_disk of_pool
    → (gone : PageSet) → IsClosed cache gone → MarksGo marks gone now
    → EngineBears size (written_out cache gone) now fates layout roots
    (lasting_clean fates (written_out cache gone).dirty it) (three_parts cache gone of_disk of_pool) of_pool

-- ---- a batch

-- no page
abbrev pub no_page : PageSet
no_page page = false

-- A batch pays, and keeps pointer pages orderly; of the versions that it newly wants none is of a transaction that has
-- asked for its commit; each table of the later layout stood before, or it is wanted newly; and so are these things, of
-- which none is a version.
pub record PaysFor (size : ℕ) (old new : Pages) (batch : Contents) (orders : Orders) (fates : Fates)
    (layout later : Layout) (brings : List Demand) (it : Lasting) (on_disk wanted : DemandSet) : Type 0 where
  pub pays : PaysOrderly size old new batch orders it on_disk wanted
  pub own : (d : Demand) → IsIn pays.paid.more d → d.what ≡ VERSION → asks fates d.b ≡ false
  pub tables : (table : Table) → IsTableOf later table → IsTableOf layout table
      ⊎ WantsPointer size pays.paid.more table.pointer.0 table.pointer.0 0
  pub newly : (d : Demand) → Has brings d → (d.what ≢ VERSION) × IsIn pays.paid.more d

-- whatever lasts for these transactions, and whatever the disk has then
abbrev pub PaysForAny : ℕ → Pages → Pages → Contents → Orders → Fates → Layout → Layout → List Demand → DemandSet
    → Type 0
PaysForAny size old new batch orders fates layout later brings wanted = (it : Lasting) (on_disk : DemandSet)
    → IsLasting it → LastsFor fates it → HasLasting it on_disk wanted
    → PaysFor size old new batch orders fates layout later brings it on_disk wanted

-- All is borne, and these are wanted.
pub record IsBorneWith (size : ℕ) (cache : Cache) (marks : Marks) (fates : Fates) (layout : Layout) (roots : DemandSet)
    (brings : List Demand) : Type 0 where
  pub borne : IsBorne size cache marks fates layout roots
  pub brought : (d : Demand) → Has brings d → IsIn borne.of_pool d

-- the law: after a batch that pays all is borne still, whatever pages were written out for it
abbrev pub BatchesKeep : Type 0
BatchesKeep = (size : ℕ) (old new : Cache) (marks now : Marks) (fates : Fates) (layout later : Layout)
    (roots of_pool : DemandSet) (brings : List Demand) (it : Lasting) (of_disk : DemandSet)
    → EngineBears size old marks fates layout roots it of_disk of_pool
    → (gone : PageSet) → IsClosed old gone → (batch : Contents) (orders : Orders) → LaysBatch old new gone batch orders
    → MarksGo marks gone now → ((a b : ℕ) → orders a b ≡ true → is_some (batch b) ≡ true)
    → PaysForAny size old.pool new.pool batch orders fates layout later brings of_pool
    → IsBorneWith size new now fates later roots brings

-- ---- crashes

-- the law: every image that a crash may leave is linked from the roots
abbrev pub CrashesLinked : Type 0
CrashesLinked = (size : ℕ) (cache : Cache) (marks : Marks) (fates : Fates) (layout : Layout) (roots : DemandSet)
    → IsBorne size cache marks fates layout roots
    → (set_ : PageSet) → IsClosed cache set_ → IsLinked demands_of meets_of (overlay cache set_) roots
