-- An engine's cache bears its demands after page writes, and after a batch that pays.
use Rattle.std.specs.Prelude.{◌≡◌, ◌≢◌, ◌⊎◌, ◌&&◌, ◌||◌, ◌==◌, ℕ, Bool, true, false, not, is_some, List}
use Rattle.std.proofs.Common.{inl, inr, refl, sym, ap, ◌∙◌, arith}
use Rattle.std.proofs.lemmas.Bool.{and_from, and_parts, both_ways, eq-eqb, eqb-true, not-true, not_from_false, or_cases, or_left, or_right}
use Rattle.mg_careful.specs.declared.links.Demand.{Demand}
use Rattle.mg_careful.specs.Precedence.{Orders}
use Rattle.mg_careful.specs.CarefulWrite.{Cache, DemandSet, IsClosed, IsIn, PageSet, either, three_parts}
use Rattle.mg_careful.specs.CarefulSteps.{Contents, LaysBatch, written_out}
use Rattle.mg_demand_laws.specs.Bearing.{OverlaysAreLinked}
use Rattle.mg_demand_laws.specs.Freeing.{WritesBearAll, without}
use Rattle.mg_demand_laws.specs.Runs.{BatchBearsExactly, BearsLinks, IsLasting, Lasting, ThreeHasBoth}
use Rattle.mg_image.specs.Inventory.{inventory_page}
use Rattle.mg_image.specs.Tables.{Layout}
use Rattle.mg_model.specs.declared.table.Table.{Table}
use Rattle.mg_space.specs.Demands.{demands_of, meets_of}
use Rattle.mg_space.specs.Taking.{region_of}
use Rattle.mg_space.specs.declared.links.TheConstants.{BIT, HEADER, NEXT, POINTER, VERSION}
use Rattle.mg_image_overlay_laws.specs.tables.Growing.{IsTableOf}
use Rattle.mg_demand_laws.specs.VersionLaws.{may_is_version}
use Rattle.mg_demand_laws.specs.Wanting.{may_go, want_of}
use Rattle.mg_demand_laws.specs.WantingLaws.{either_cases, in_one, in_other}
use Rattle.mg_demand_laws.specs.Wants.{WantsPointer}
use Rattle.mg_demand_laws.specs.KeepingTies.{in_wanted}
use Rattle.mg_engine_demand_laws.specs.Bearing.{BatchesKeep, CrashesLinked, EngineBears, Fates, IsBorneWith, LastsFor, Marks, MarksGo, PaysFor, PaysForAny, WritesKeep, asks, lasting_clean, no_page}

-- ---- page writes

-- what is asked for is of versions
more_lasting : (fates : Fates) (dirty : PageSet) (it : Lasting) → IsLasting it → IsLasting (lasting_clean fates dirty it)
more_lasting fates dirty it lasting = record {
  versions = λ d is. elim (or_cases (it.lasts d) _ is) [
    | inl x ↦ lasting.versions d x
    | inr y ↦ eqb-true d.what VERSION (and_parts (d.what == VERSION) _ y).0
  ];
  of_settled = λ d is done. or_left (it.lasts d) _ (lasting.of_settled d is done);
}

more_for : (fates : Fates) (dirty : PageSet) (it : Lasting) → LastsFor fates it
    → LastsFor fates (lasting_clean fates dirty it)
more_for fates dirty it for = record {
  settled = for.settled;
  lasts = λ d is. elim (or_cases (it.lasts d) _ is) [
    | inl x ↦ for.lasts d x
    | inr y ↦ inr (and_parts (asks fates d.b) _ (and_parts (d.what == VERSION) _ y).1).0
  ];
}

-- a page that was written out is clean
out_clean : (x y : Bool) → y ≡ true → (x && not y) ≡ false
out_clean true true is = refl
out_clean true false is = absurd cc
out_clean false y is = refl

pub clean_links : WritesBearAll demands_of meets_of → (size : ℕ) (cache : Cache) (fates : Fates) (it : Lasting)
    (of_disk of_pool : DemandSet) → BearsLinks size cache it of_disk of_pool → (gone : PageSet) → IsClosed cache gone
    → BearsLinks size (written_out cache gone) (lasting_clean fates (written_out cache gone).dirty it)
    (three_parts cache gone of_disk of_pool) of_pool
clean_links law size cache fates it of_disk of_pool links gone closed = record {
  lasting = more_lasting fates (written_out cache gone).dirty it links.lasting;
  all = law cache of_disk of_pool it.lasts (may_go it.settled)
      (lasting_clean fates (written_out cache gone).dirty it).lasts (may_go it.settled) links.all gone closed
      (λ d is. elim (or_cases (it.lasts d) _ is) [
        | inl x ↦ inl x
        | inr y ↦ inr (not-true _ (and_parts (asks fates d.b) _ (and_parts (d.what == VERSION) _ y).1).1)
      ]) (λ d may. may);
  wants = links.wants;
}

module _ (size : ℕ) (cache : Cache) (marks now : Marks) (fates : Fates) (it : Lasting) (gone : PageSet)
    (marks_go : MarksGo marks gone now) where
  abbrev after : Cache
  after = written_out cache gone

  marked_then : (d : Demand) → asks fates d.b ≡ true → d.what ≡ VERSION → marks d.target (fates.session d.b) ≡ true
      → ((lasting_clean fates after.dirty it).lasts d ≡ true) ⊎ (now d.target (fates.session d.b) ≡ true)
  marked_then d asking is marked = at (gone d.target) refl
    where
      at : (out : Bool) → gone d.target ≡ out
          → ((lasting_clean fates after.dirty it).lasts d ≡ true) ⊎ (now d.target (fates.session d.b) ≡ true)
      at true out = inl (or_right (it.lasts d) _ (and_from _ _ (eq-eqb d.what VERSION is)
          (and_from _ _ asking (not_from_false _ (out_clean (cache.dirty d.target) (gone d.target) out)))))
      at false out = inr (marks_go d.target (fates.session d.b) ∙ and_from _ _ marked (not_from_false _ out))

pub writes_keep : WritesBearAll demands_of meets_of → ThreeHasBoth → WritesKeep
writes_keep law both size cache marks now fates layout roots it of_disk of_pool bears gone closed marks_go = record {
  its = record {
    bears = clean_links law size cache fates it of_disk of_pool bears.its.bears gone closed;
    orderly = bears.its.orderly;
    chained = bears.its.chained;
  };
  lasting = more_for fates (written_out cache gone).dirty it bears.lasting;
  header = bears.header;
  tables = bears.tables;
  numbers = bears.numbers;
  written = λ d asking h is. elim (bears.written d asking h is) [
    | inl x ↦ inl (or_left (it.lasts d) _ x)
    | inr marked ↦ marked_then size cache marks now fates it gone marks_go d asking is marked
  ];
  rooted = λ d is. let roots_ = bears.rooted d is in
      (roots_.0, both cache gone of_disk of_pool d roots_.1 roots_.2, roots_.2);
}

-- ---- a batch

pub and_true : (x : Bool) → (x && not false) ≡ x
and_true true = refl
and_true false = refl

and_again : (o x y : Bool) → ((o && (x && y)) && ((x && not false) && (y && not false))) ≡ (o && (x && y))
and_again true true true = refl
and_again true true false = refl
and_again true false y = refl
and_again false x y = refl

pub nothing_closed : (cache : Cache) → IsClosed cache no_page
nothing_closed cache = record {
  only_dirty = λ p is. let out : false ≡ true = is in absurd cc;
  before = λ p q order dirty is. is;
}

-- a batch that was laid after page writes is laid on the cache behind them
pub laid_then : (old new : Cache) (gone : PageSet) (batch : Contents) (orders : Orders)
    → LaysBatch old new gone batch orders → LaysBatch (written_out old gone) new no_page batch orders
laid_then old new gone batch orders lays = record {
  disk = lays.disk;
  pool = lays.pool;
  dirty = λ p. lays.dirty p
      ∙ ap (λ (b : Bool). is_some (batch p) || b) (sym (and_true (old.dirty p && not (gone p))));
  ordered = λ a b. lays.ordered a b ∙ ap (λ (o : Bool). o || (orders a b && new.dirty a))
      (sym (and_again (old.ordered a b) (old.dirty a && not (gone a)) (old.dirty b && not (gone b))));
}

-- what is wanted of all is no version
pub no_header : HEADER ≢ VERSION
no_header is = omega (arith, is)

pub no_next : NEXT ≢ VERSION
no_next is = omega (arith, is)

pub no_pointer : POINTER ≢ VERSION
no_pointer is = omega (arith, is)

pub no_bit : BIT ≢ VERSION
no_bit is = omega (arith, is)

-- what is no version is wanted still, of what was wanted and of what is newly
stays_wanted : (settled : ℕ → Bool) (dropped : Demand → Bool)
    → ((d : Demand) → dropped d ≡ true → may_go settled d ≡ true) → (wanted : DemandSet) (d : Demand)
    → d.what ≢ VERSION → IsIn wanted d → IsIn (without dropped wanted) d
stays_wanted settled dropped may wanted d other h = (h.0, and_from _ _ h.1 (not_from_false _ (at (dropped d) refl)))
  where
    at : (b : Bool) → dropped d ≡ b → dropped d ≡ false
    at true is = absurd (other (may_is_version settled d (may d is)).0)
    at false is = is

module _ (writes : WritesBearAll demands_of meets_of) (both : ThreeHasBoth) (law : BatchBearsExactly) (size : ℕ)
    (old new : Cache) (marks now : Marks) (fates : Fates) (layout later : Layout) (roots of_pool : DemandSet)
    (brings : List Demand) (it : Lasting) (of_disk : DemandSet)
    (bears : EngineBears size old marks fates layout roots it of_disk of_pool) (gone : PageSet) (closed : IsClosed old gone)
    (batch : Contents) (orders : Orders) (lays : LaysBatch old new gone batch orders) (marks_go : MarksGo marks gone now)
    (own : (a b : ℕ) → orders a b ≡ true → is_some (batch b) ≡ true)
    (pays : PaysForAny size old.pool new.pool batch orders fates layout later brings of_pool) where
  abbrev mid : Cache
  mid = written_out old gone

  abbrev lasts : Lasting
  lasts = lasting_clean fates mid.dirty it

  abbrev disk_mid : DemandSet
  disk_mid = three_parts old gone of_disk of_pool

  abbrev disk_now : DemandSet
  disk_now = three_parts mid no_page disk_mid of_pool

  before : EngineBears size mid now fates layout roots lasts disk_mid of_pool
  before = writes_keep writes both size old marks now fates layout roots it of_disk of_pool bears gone closed marks_go

  paid : PaysFor size old.pool new.pool batch orders fates layout later brings lasts disk_now of_pool
  paid = pays lasts disk_now before.its.bears.lasting before.lasting (λ d h is.
      both mid no_page disk_mid of_pool d (before.its.bears.all.lasting d h is) h)

  abbrev pool_now : DemandSet
  pool_now = without paid.pays.paid.dropped (either of_pool paid.pays.paid.more)

  stays_in : (d : Demand) → d.what ≢ VERSION → IsIn of_pool d → IsIn pool_now d
  stays_in d other h = stays_wanted it.settled paid.pays.paid.dropped paid.pays.paid.drops.may
      (either of_pool paid.pays.paid.more) d other (in_one of_pool paid.pays.paid.more d h)

  comes_in : (d : Demand) → d.what ≢ VERSION → IsIn paid.pays.paid.more d → IsIn pool_now d
  comes_in d other h = stays_wanted it.settled paid.pays.paid.dropped paid.pays.paid.drops.may
      (either of_pool paid.pays.paid.more) d other (in_other of_pool paid.pays.paid.more d h)

  -- a table's first pointer page, and its bit
  root_in : (table : Table) → IsTableOf later table → WantsPointer size pool_now table.pointer.0 table.pointer.0 0
  root_in table its = elim (paid.tables table its) [
    | inl stood ↦ let root = before.tables table stood in record {
      page = stays_in (want_of table.pointer.0 POINTER table.pointer.0 0) no_pointer root.page;
      bit = stays_in (want_of (inventory_page size (region_of size table.pointer.0)) BIT table.pointer.0 0) no_bit root.bit;
    }
    | inr newly ↦ record {
      page = comes_in (want_of table.pointer.0 POINTER table.pointer.0 0) no_pointer newly.page;
      bit = comes_in (want_of (inventory_page size (region_of size table.pointer.0)) BIT table.pointer.0 0) no_bit newly.bit;
    }
  ]

  borne : EngineBears size new now fates later roots lasts disk_now pool_now
  borne = record {
    its = record {
      bears = law size mid new lasts no_page batch orders (nothing_closed mid) (laid_then old new gone batch orders lays)
          own disk_mid of_pool before.its.bears paid.pays.paid;
      orderly = paid.pays.orderly;
      chained = paid.pays.chained;
    };
    lasting = before.lasting;
    header = stays_in (want_of 0 HEADER 0 0) no_header before.header;
    tables = root_in;
    numbers = λ t active. stays_in (want_of 0 NEXT t 0) no_next (before.numbers t active);
    written = λ d asking h is. elim (either_cases of_pool paid.pays.paid.more d
        (in_wanted paid.pays.paid.dropped (either of_pool paid.pays.paid.more) d h)) [
          | inl stood ↦ before.written d asking stood is
          | inr newly ↦ absurd (both_ways _ (paid.own d newly is) asking)
        ];
    rooted = λ d is. let roots_ = before.rooted d is in
        (roots_.0, both mid no_page disk_mid of_pool d roots_.1 roots_.2, stays_in d roots_.0 roots_.2);
  }

  pub batch_keeps : IsBorneWith size new now fates later roots brings
  batch_keeps = record {
    borne = record { it = lasts; of_disk = disk_now; of_pool = pool_now; bears = borne };
    brought = λ d h. let newly = paid.newly d h in comes_in d newly.0 newly.1;
  }

pub batches_keep : WritesBearAll demands_of meets_of → ThreeHasBoth → BatchBearsExactly → BatchesKeep
batches_keep writes both law size old new marks now fates layout later roots of_pool brings it of_disk bears gone closed batch orders lays marks_go own pays =
    batch_keeps writes both law size old new marks now fates layout later roots of_pool brings it of_disk bears gone closed
    batch orders lays marks_go own pays

-- ---- crashes

pub crashes_linked : OverlaysAreLinked demands_of meets_of → CrashesLinked
crashes_linked law size cache marks fates layout roots borne set_ closed =
    law cache borne.of_disk borne.of_pool roots borne.bears.its.bears.all.bears
    (λ d is. let both = borne.bears.rooted d is in (both.1, both.2)) set_ closed
