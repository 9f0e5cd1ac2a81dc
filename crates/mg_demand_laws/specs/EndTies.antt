-- The end of a transaction: what the change of its page pays, by the clause of the call that sets its bits.
use Rattle.std.specs.Prelude.{◌≡◌, ◌≢◌, ◌<◌, ◌/◌, ◌%◌, ◌*◌, ◌+◌, ℕ, Bool, List, unwrap_or}
use Rattle.std.proofs.Common.{refl, sym, subst, arith}
use Rattle.std.proofs.Math.Nat.{mod-add-div'}
use Rattle.std.proofs.lemmas.Bool.{eq-eqb, ne_eqb}
use Rattle.mg_base.specs.Checks.{PassesAll}
use Rattle.mg_base.specs.Disk.{Meaning}
use Rattle.mg_base.specs.declared.transaction.TxState.TheVariants.{Committed}
use Rattle.mg_careful.specs.CarefulWrite.{DemandSet, IsIn}
use Rattle.mg_demand_laws.specs.CommitDemands.{ends_pay}
use Rattle.mg_image.specs.Form.{Pages}
use Rattle.mg_image.specs.Inventory.{next_of}
use Rattle.mg_pool.specs.Batch.{content_in, lists, one_page, orders_of}
use Rattle.mg_pool.specs.declared.pool.Pool.{Pool}
use Rattle.mg_space.specs.declared.links.TheConstants.{HEADER, TRANSACTIONS}
use Rattle.mg_tip.specs.TipPage.{SetsState, places, tip_checks}
use Rattle.mg_txlist.specs.Ending.{CommitsBits, header_first}
use Rattle.mg_txlist.specs.TxList.{tip_in}
use Rattle.mg_txlist.specs.declared.list.TxList.{TxList}
use Rattle.mg_demand_laws.specs.KindLaws.{tip_kind}
use Rattle.mg_demand_laws.specs.Steps.{number_more}
use Rattle.mg_demand_laws.specs.Wanting.{IsWanting, Pays, want_of}
use Rattle.mg_demand_laws.specs.Wants.{IsTaken, WantsBit, is_head, taken_is, tip_passes}

-- What is known of a transaction whose bits are to be set: the list has its page as the cache shows it; the
-- page is wanted as a transaction inventory page, with its bit; the header is wanted, and says that the
-- number is drawn.
pub record KnowsEnd (list : TxList) (pool : Pages) (t : ℕ) (wanted : DemandSet) : Type 0 where
  pub bytes : (tip_in list (t / places list.size)).bytes ≡ pool (tip_in list (t / places list.size)).page
  pub page : IsIn wanted (want_of (tip_in list (t / places list.size)).page TRANSACTIONS (t / places list.size) 0)
  pub bit : WantsBit list.size wanted (tip_in list (t / places list.size)).page
  pub header : IsIn wanted (want_of 0 HEADER 0 0)
  pub drawn : t < next_of pool

-- pages with another content of one
abbrev pub with_page : Pages → ℕ → List ℕ → Pages
with_page pages n bytes p = unwrap_or (content_in (one_page n bytes) p) (pages p)

-- a commit that the list has made pays for its page, by the one order of its change
abbrev pub CommitPays : (D L : Type 0) → Meaning D → Type 0
CommitPays D L m = (old new : TxList) (before after : Pool D L) (pool : Pages) (t : ℕ)
    (commits : CommitsBits m old new before after t) (settled : ℕ → Bool) (on_disk wanted : DemandSet)
    → KnowsEnd old pool t wanted → IsWanting old.size pool wanted
    → Pays old.size pool (with_page pool (tip_in old (t / places old.size)).page commits.bytes)
    (lists (orders_of header_first (record { 0 = (tip_in old (t / places old.size)).page }))) settled on_disk wanted
    (number_more t)

module _ {D L : Type 0} (m : Meaning D) (old new : TxList) (before after : Pool D L) (pool : Pages) (t : ℕ) (commits : CommitsBits m old new before after t) (settled : ℕ → Bool) (on_disk wanted : DemandSet) (knows : KnowsEnd old pool t wanted) (was : IsWanting old.size pool wanted) where
  abbrev s : ℕ
  s = t / places old.size

  abbrev n : ℕ
  n = (tip_in old s).page

  abbrev now : Pages
  now = with_page pool n commits.bytes

  here : now n ≡ commits.bytes
  here = rw (eq-eqb n n refl) refl

  elsewhere : (p : ℕ) → p ≢ n → now p ≡ pool p
  elsewhere p ne = rw (ne_eqb n p (λ e. ne (sym e))) refl

  passes : PassesAll (tip_checks (pool n) n s)
  passes = tip_passes old.size pool wanted was n s knows.page

  taken : IsTaken old.size pool n
  taken = taken_is old.size pool wanted was n 3 knows.header knows.bit (tip_kind (pool n) n s passes) (omega arith)
      (want_of n TRANSACTIONS s 0) knows.page refl

  number : s * places old.size + t % places old.size ≡ t
  number = let whole = mod-add-div' t (places old.size) in omega (arith, whole)

  pub commit_pay : Pays old.size pool now (lists (orders_of header_first (record { 0 = n }))) settled on_disk wanted
      (number_more t)
  commit_pay = subst (λ (k : ℕ). Pays old.size pool now (lists (orders_of header_first (record { 0 = n })))
      settled on_disk wanted (number_more k)) number
      (ends_pay old.size pool now n s (t % places old.size) Committed settled on_disk wanted (record {
        others = elsewhere;
        sets = subst (λ (b : List ℕ). SetsState (pool n) b (t % places old.size) Committed) (sym here)
            (subst (λ (b : List ℕ). SetsState b commits.bytes (t % places old.size) Committed) knows.bytes commits.sets);
        passes = passes;
        off_header = taken.off_header;
        off_inventory = taken.off_inventory;
        head = is_head old.size pool wanted was knows.header;
        drawn = let below = knows.drawn in let is = number in omega (arith, below, is);
      }) was (was.used (want_of 0 HEADER 0 0) knows.header))

pub commit_pays : (D L : Type 0) (m : Meaning D) → CommitPays D L m
commit_pays D L m old new before after pool t commits settled on_disk wanted knows was =
    commit_pay m old new before after pool t commits settled on_disk wanted knows was
