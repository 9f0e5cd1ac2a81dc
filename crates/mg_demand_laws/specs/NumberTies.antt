-- A number that is drawn and the bits of a commit, as a caller has them who keeps one invariant over the cache.
use Rattle.std.specs.Prelude.{◌≡◌, ◌≢◌, ◌⊎◌, ◌<◌, ◌/◌, ℕ, true, List, [], ◌∷◌, Option, None, Some}
use Rattle.std.proofs.Common.{inl, inr, refl, sym, subst, ap, ◌∙◌, arith}
use Rattle.std.proofs.lemmas.Bool.{and_from, both_ways, ne_eqb}
use Rattle.mg_base.specs.Disk.{Meaning}
use Rattle.mg_base.specs.Fields.{byte}
use Rattle.mg_base.specs.declared.geometry.Geometry.{Geometry}
use Rattle.mg_careful.specs.Precedence.{Orders}
use Rattle.mg_careful.specs.declared.graph.Order.{Order}
use Rattle.mg_careful.specs.declared.links.Demand.{Demand}
use Rattle.mg_careful.specs.CarefulWrite.{DemandSet, Has, IsIn, either, listed}
use Rattle.mg_careful.specs.CarefulSteps.{Contents}
use Rattle.mg_demand_laws.specs.Freeing.{without}
use Rattle.mg_demand_laws.specs.DrawDemands.{SaysNumber, draw_wants, draws_pay}
use Rattle.mg_demand_laws.specs.Runs.{IsLasting, Lasting}
use Rattle.mg_image.specs.Form.{Pages}
use Rattle.mg_image.specs.Inventory.{inventory_page, is_used}
use Rattle.mg_pool.specs.Batch.{lists, orders_of}
use Rattle.mg_pool.specs.declared.pool.Pool.{Pool}
use Rattle.mg_slots.specs.declared.page.TheConstants.{DATA_KIND}
use Rattle.mg_space.specs.Demands.{bit_demand}
use Rattle.mg_space.specs.Taking.{IsGeometry, region_of}
use Rattle.mg_space.specs.declared.links.TheConstants.{BIT, DATA, HEADER, NEXT, POINTER, TRANSACTIONS, VERSION}
use Rattle.mg_tip.specs.TipPage.{places}
use Rattle.mg_txlist.specs.Drawing.{DrawsOn, IsTipFor, on_last, on_new}
use Rattle.mg_txlist.specs.Ending.{CommitsBits, header_first}
use Rattle.mg_txlist.specs.TxList.{tip_in}
use Rattle.mg_txlist.specs.declared.list.TipPage.{TipPage}
use Rattle.mg_txlist.specs.declared.list.TxList.{TxList}
use Rattle.mg_demand_laws.specs.KindLaws.{pointer_kind, tip_kind}
use Rattle.mg_demand_laws.specs.Met.{has_either, is_demand, of_listed}
use Rattle.mg_demand_laws.specs.NumberLaws.{header_kind}
use Rattle.mg_demand_laws.specs.Wanting.{IsWanting, Pays, nothing, want_of}
use Rattle.mg_demand_laws.specs.Alone.{drops_nothing}
use Rattle.mg_demand_laws.specs.EndTies.{KnowsEnd, commit_pays, with_page}
use Rattle.mg_demand_laws.specs.OrderlyTies.{orderly_else, orderly_less, taking_else}
use Rattle.mg_demand_laws.specs.Wants.{AreOrderly, IsDataOf, data_taken, pointer_passes, tip_passes}
use Rattle.mg_demand_laws.specs.Chained.{IsChained}
use Rattle.mg_demand_laws.specs.ChainedLaws.{chained_else, chained_within, data_kind}
use Rattle.mg_demand_laws.specs.Keeping.{PaysOrderly}
use Rattle.mg_demand_laws.specs.KeepingTies.{drops_none, in_wanted}

-- a number that is drawn
abbrev pub DrawKeeps : Type 0
DrawKeeps = (g : Geometry) (t : ℕ) (old new : Pages) (page : Option TipPage) (orders : List Order) (batch : Contents)
    (it : Lasting) (on_disk wanted : DemandSet) → IsGeometry g → SaysNumber g.size old t
    → DrawsOn g t old new page orders → IsTipFor g.size t page → IsLasting it
    → IsWanting g.size old wanted → IsIn wanted (want_of 0 HEADER 0 0) → AreOrderly g.size old wanted
    → IsChained g.size old wanted
    → PaysOrderly g.size old new batch (lists orders) it on_disk wanted

-- the bits of a commit
abbrev pub CommitKeeps : (D L : Type 0) → Meaning D → Type 0
CommitKeeps D L m = (old new : TxList) (before after : Pool D L) (pool : Pages) (t : ℕ)
    (commits : CommitsBits m old new before after t) (batch : Contents) (it : Lasting) (on_disk wanted : DemandSet)
    → KnowsEnd old pool t wanted → IsLasting it → IsWanting old.size pool wanted → AreOrderly old.size pool wanted
    → IsChained old.size pool wanted
    → PaysOrderly old.size pool (with_page pool (tip_in old (t / places old.size)).page commits.bytes) batch
    (lists (orders_of header_first (record { 0 = (tip_in old (t / places old.size)).page }))) it on_disk wanted

-- a demand is of none of a table's pages, nor of a version
abbrev pub IsNoTable : Demand → Type 0
IsNoTable d = ((d.what ≢ VERSION) × (d.what ≢ DATA)) × (d.what ≢ POINTER)

-- a batch that pays for no version, and changes no page of a table
abbrev pub alone_keeps : (size : ℕ) (old new : Pages) (batch : Contents) (orders : Orders) (it : Lasting) (on_disk wanted : DemandSet)
    (ds : List Demand) → IsLasting it → Pays size old new orders it.settled on_disk wanted (listed ds)
    → ((d : Demand) → Has ds d → IsNoTable d) → AreOrderly size old wanted → IsChained size old wanted
    → ((n owner at : ℕ) → IsIn wanted (want_of n POINTER owner at) → new n ≡ old n)
    → ((n : ℕ) → IsDataOf size wanted n → new n ≡ old n)
    → PaysOrderly size old new batch orders it on_disk wanted
alone_keeps size old new batch orders it on_disk wanted ds lasting pays none orderly chained same same_data = record {
  paid = record {
    mid = new;
    more = listed ds;
    dropped = nothing;
    pays = pays;
    fresh = λ d h is. absurd ((none d (of_listed ds d h)).0.0 (lasting.versions d is));
    drops = drops_nothing size new orders it.settled (either wanted (listed ds)) pays.wants;
    own = λ d is. absurd (drops_none d is);
  };
  orderly = orderly_less size new (either wanted (listed ds)) (without nothing (either wanted (listed ds)))
      (orderly_else size old new wanted (listed ds) orderly same (λ d h. (none d (of_listed ds d h)).1))
      (in_wanted nothing (either wanted (listed ds)));
  chained = chained_within size new (either wanted (listed ds)) (without nothing (either wanted (listed ds)))
      (in_wanted nothing (either wanted (listed ds))) (λ d other h. (h.0, and_from _ _ h.1 refl))
      (chained_else size old new wanted (listed ds) chained same_data (λ d h. (none d (of_listed ds d h)).0));
}

none_of : (k : ℕ) (d : Demand) → d.what ≡ k → (k < 4) ⊎ (6 < k) → IsNoTable d
none_of k d same (inl low) =
    ((λ is. omega (arith, same, low, is), λ is. omega (arith, same, low, is)), λ is. omega (arith, same, low, is))
none_of k d same (inr high) =
    ((λ is. omega (arith, same, high, is), λ is. omega (arith, same, high, is)), λ is. omega (arith, same, high, is))

pub next_none : (t : ℕ) (d : Demand) → d ≡ want_of 0 NEXT t 0 → IsNoTable d
next_none t d same = none_of 2 d (ap (λ (x : Demand). x.what) same) (inl (omega arith))

-- what is newly wanted by a draw is neither
pub drawn_none : (size t : ℕ) (page : Option TipPage) (d : Demand) → Has (draw_wants size t page) d
    → IsNoTable d
drawn_none size t None d (inl same) = next_none t d same
drawn_none size t None d (inr none) = absurd none
drawn_none size t (Some page) d h = elim (has_either (bit_demand size page.page) _ d h) [
  | inl bit ↦ none_of 9 d (ap (λ (x : Demand). x.what)
      (is_demand (inventory_page size (region_of size page.page)) BIT page.page 0 d bit)) (inr (omega arith))
  | inr two ↦ elim two [
    | inl same ↦ none_of 3 d (ap (λ (x : Demand). x.what) same) (inl (omega arith))
    | inr one ↦ elim one [
      | inl same ↦ next_none t d same
      | inr none ↦ absurd none
    ]
  ]
]

module _ (g : Geometry) (t : ℕ) (old new : Pages) (it : Lasting) (on_disk wanted : DemandSet) (lawful : IsGeometry g) (says : SaysNumber g.size old t) (was : IsWanting g.size old wanted) where
  -- a pointer page is not the header page
  off_header : (n owner at : ℕ) → IsIn wanted (want_of n POINTER owner at) → n ≢ 0
  off_header n owner at h none =
      let four = pointer_kind (old n) n owner at (pointer_passes g.size old wanted was n owner at h) in
      let one = header_kind g.size (old 0) says.header says.reads in
      let there : byte (old n) 0 ≡ byte (old 0) 0 = ap (λ (k : ℕ). byte (old k) 0) none in
      absurd (omega (arith, four, one, there))

  pub drawn_else : (page : Option TipPage) (orders : List Order) → DrawsOn g t old new page orders → (n owner at : ℕ)
      → IsIn wanted (want_of n POINTER owner at) → new n ≡ old n
  drawn_else page orders (on_last raises others) n owner at h = others n (off_header n owner at h)
  drawn_else page orders (on_new tip taken takes bytes_are put raises others) n owner at h =
      others n (off_header n owner at h) (λ same. both_ways _ takes.free.unused
      (subst (λ (k : ℕ). is_used g.size old k ≡ true) same (was.used (want_of n POINTER owner at) h)))
      ∙ taking_else g old taken tip.page wanted lawful takes was (lists orders) it.settled on_disk n owner at h

  -- and a data page is neither that nor one of the page inventory
  pub drawn_data : IsIn wanted (want_of 0 HEADER 0 0) → (page : Option TipPage) (orders : List Order)
      → DrawsOn g t old new page orders → (n : ℕ) → IsDataOf g.size wanted n → new n ≡ old n
  drawn_data head page orders (on_last raises others) n of = others n (data_taken g.size old wanted was n head of).off_header
  drawn_data head page orders (on_new tip taken takes bytes_are put raises others) n of =
      let mine = data_taken g.size old wanted was n head of in
      others n mine.off_header (λ same. both_ways _ takes.free.unused
      (subst (λ (k : ℕ). is_used g.size old k ≡ true) same mine.used))
      ∙ takes.others n (λ same. mine.off_inventory (region_of g.size tip.page) (sym same))

abbrev pub draw_keeps : DrawKeeps
draw_keeps g t old new page orders batch it on_disk wanted lawful says draws tip lasting was head orderly chained =
    alone_keeps g.size old new batch (lists orders) it on_disk wanted (draw_wants g.size t page) lasting
    (draws_pay g t old new page orders it.settled on_disk wanted lawful says draws tip was head)
    (drawn_none g.size t page) orderly chained (drawn_else g t old new it on_disk wanted lawful says was page orders draws)
    (drawn_data g t old new it on_disk wanted lawful says was head page orders draws)

pub elsewhere : (pool : Pages) (n : ℕ) (bytes : List ℕ) (p : ℕ) → p ≢ n → with_page pool n bytes p ≡ pool p
elsewhere pool n bytes p ne = rw (ne_eqb n p (λ e. ne (sym e))) refl

-- a page of another kind than that of transaction inventory pages is not the one that is put
pub other_page : (size : ℕ) (pool : Pages) (wanted : DemandSet) → IsWanting size pool wanted → (n sequence : ℕ)
    → IsIn wanted (want_of n TRANSACTIONS sequence 0) → (bytes : List ℕ) (k kind : ℕ) → byte (pool k) 0 ≡ kind → 3 < kind
    → with_page pool n bytes k ≡ pool k
other_page size pool wanted was n sequence tip bytes k kind is high = elsewhere pool n bytes k (λ same.
    let three = tip_kind (pool n) n sequence (tip_passes size pool wanted was n sequence tip) in
    let there : byte (pool k) 0 ≡ byte (pool n) 0 = ap (λ (i : ℕ). byte (pool i) 0) same in
    omega (arith, is, high, three, there))

abbrev pub commit_keeps : (D L : Type 0) (m : Meaning D) → CommitKeeps D L m
commit_keeps D L m old new before after pool t commits batch it on_disk wanted knows lasting was orderly chained =
    alone_keeps old.size pool (with_page pool (tip_in old (t / places old.size)).page commits.bytes) batch
    (lists (orders_of header_first (record { 0 = (tip_in old (t / places old.size)).page }))) it on_disk wanted (want_of 0 NEXT t 0 ∷ []) lasting
    (commit_pays D L m old new before after pool t commits it.settled on_disk wanted knows was)
    (λ d h. elim h [
      | inl same ↦ next_none t d same
      | inr none ↦ absurd none
    ]) orderly chained
    (λ k owner at h. other_page old.size pool wanted was (tip_in old (t / places old.size)).page (t / places old.size)
    knows.page commits.bytes k 4 (pointer_kind (pool k) k owner at (pointer_passes old.size pool wanted was k owner at h))
    (omega arith))
    (λ k of. other_page old.size pool wanted was (tip_in old (t / places old.size)).page (t / places old.size)
    knows.page commits.bytes k DATA_KIND (data_kind old.size pool wanted was k of) (omega arith))
