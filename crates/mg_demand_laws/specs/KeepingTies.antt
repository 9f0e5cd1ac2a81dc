-- The batches of tables and of versions, as a caller has them who keeps one invariant over the cache.
use Rattle.std.specs.Prelude.{◌≡◌, ◌≢◌, ℕ, Bool, true, false, [], Some, unwrap_or}
use Rattle.std.proofs.Common.{inl, inr, refl, sym, subst, ap, ◌∙◌}
use Rattle.std.proofs.Math.Path.{fun_ext}
use Rattle.std.proofs.lemmas.Bool.{and_from, and_parts, not_from_false}
use Rattle.mg_base.specs.Disk.{Meaning}
use Rattle.mg_base.specs.Image.{Image}
use Rattle.mg_base.specs.declared.numbers.RecId.{RecId}
use Rattle.mg_careful.specs.Precedence.{Orders}
use Rattle.mg_careful.specs.declared.links.Demand.{Demand}
use Rattle.mg_careful.specs.CarefulWrite.{Cache, DemandSet, IsClosed, IsIn, PageSet, either, listed, three_parts}
use Rattle.mg_careful.specs.CarefulSteps.{Contents, LaysBatch}
use Rattle.mg_chain.specs.Writing.{Moves, PutsAt, Replaces, TakesOut}
use Rattle.mg_demand_laws.specs.Freeing.{Which, without}
use Rattle.mg_demand_laws.specs.Runs.{BatchBearsExactly, IsLasting, Lasting, ThreeHasBoth}
use Rattle.mg_image.specs.Form.{Pages}
use Rattle.mg_pool.specs.Batch.{Changed, IsLawful, content_in, lists}
use Rattle.mg_pool.specs.Change.{ChangesOverlays, ChangesPages}
use Rattle.mg_pool.specs.Dirty.{DirtyPages}
use Rattle.mg_pool.specs.Pool.{cache_of, shown}
use Rattle.mg_pool.specs.declared.pool.Pool.{Pool}
use Rattle.mg_space.specs.View.{KeepsStore, Tells, viewed}
use Rattle.mg_space.specs.declared.links.TheConstants.{HEADER, VERSION}
use Rattle.mg_version.specs.declared.cell.Version.{Version}
use Rattle.mg_demand_laws.specs.Met.{of_listed}
use Rattle.mg_demand_laws.specs.Steps.{version_at}
use Rattle.mg_demand_laws.specs.VersionLaws.{may_is_version}
use Rattle.mg_demand_laws.specs.Wanting.{IsWanting, may_go, nothing, want_of}
use Rattle.mg_demand_laws.specs.WantingLaws.{either_cases, in_one}
use Rattle.mg_demand_laws.specs.Alone.{drops_nothing}
use Rattle.mg_demand_laws.specs.Lists.{HaveOrders}
use Rattle.mg_demand_laws.specs.MoveTies.{move_orderly, move_step, move_wants}
use Rattle.mg_demand_laws.specs.OrderlyTies.{orderly_less}
use Rattle.mg_demand_laws.specs.OwnTies.{out_orderly, out_step, over_orderly, over_pays}
use Rattle.mg_demand_laws.specs.PoolTies.{cache_over, lays}
use Rattle.mg_demand_laws.specs.Wants.{AreOrderly, IsDataOf}
use Rattle.mg_demand_laws.specs.Chained.{IsChained}
use Rattle.mg_demand_laws.specs.ChainedLaws.{chained_within}
use Rattle.mg_demand_laws.specs.May.{MayMove, MayTakeOut}
use Rattle.mg_demand_laws.specs.MoveChains.{move_is_known, move_stays}
use Rattle.mg_demand_laws.specs.OwnChains.{newest_moved, newest_page, out_is_known, out_stays, over_chained}
use Rattle.mg_demand_laws.specs.Keeping.{BearsTables, KeepsNewly, KeepsTables, PaysNewly, PaysOrderly}
use Rattle.mg_demand_laws.specs.Parts.{PaysPart}

-- a part that is a whole batch, of a transaction none of whose versions lasts yet
abbrev pub PartKeeps : (D L : Type 0) → Type 0
PartKeeps D L = (store : Pool D L) (image : Image) (old new : Changed) (t : ℕ) (batch : Contents) (orders : Orders)
    (it : Lasting) (on_disk wanted : DemandSet) → IsLasting it → ((d : Demand) → it.lasts d ≡ true → d.b ≢ t)
    → PaysPart store image old new t orders it.settled on_disk wanted
    → PaysOrderly store.geometry.size (viewed store image old) (viewed store image new) batch orders it on_disk wanted

-- an own version that is moved to another cell
abbrev pub MoveKeeps : (D L : Type 0) → Type 0
MoveKeeps D L = (store : Pool D L) (image : Image) (old new : Changed) (rec : RecId) (v : Version)
    (replaces : Replaces store image old new rec v)
    (moves : Moves store image old new rec replaces.newest replaces.owner replaces.bytes v.tx replaces.was.back)
    (orders : Orders) (it : Lasting) (on_disk wanted : DemandSet)
    → MayMove store image old new rec v replaces it on_disk wanted → HaveOrders orders new
    → AreOrderly store.geometry.size (viewed store image old) wanted
    → IsChained store.geometry.size (viewed store image old) wanted
    → PaysOrderly store.geometry.size (viewed store image old) (viewed store image new) (content_in new.pages) orders it
    on_disk wanted

-- one that is written over in its cell
abbrev pub OverKeeps : (D L : Type 0) → Type 0
OverKeeps D L = (store : Pool D L) (image : Image) (old new : Changed) (rec : RecId) (v : Version)
    (replaces : Replaces store image old new rec v)
    → PutsAt store image old new replaces.newest.rec replaces.bytes → (orders : Orders) (it : Lasting) (on_disk wanted : DemandSet)
    → IsWanting store.geometry.size (viewed store image old) wanted → IsIn wanted (want_of 0 HEADER 0 0)
    → IsDataOf store.geometry.size wanted rec.page.0
    → AreOrderly store.geometry.size (viewed store image old) wanted
    → IsChained store.geometry.size (viewed store image old) wanted
    → PaysOrderly store.geometry.size (viewed store image old) (viewed store image new) (content_in new.pages) orders it
    on_disk wanted

-- one that is taken out
abbrev pub OutKeeps : (D L : Type 0) → Type 0
OutKeeps D L = (store : Pool D L) (image : Image) (old new : Changed) (rec : RecId)
    (takes : TakesOut store image old new rec) (orders : Orders) (it : Lasting) (on_disk wanted : DemandSet)
    → MayTakeOut store image old new rec takes it.settled on_disk wanted → HaveOrders orders new
    → AreOrderly store.geometry.size (viewed store image old) wanted
    → IsChained store.geometry.size (viewed store image old) wanted
    → PaysOrderly store.geometry.size (viewed store image old) (viewed store image new) (content_in new.pages) orders it
    on_disk wanted

-- the law: pages were read, and then a batch was changed that pays so
abbrev pub TablesBear : (D L : Type 0) → Meaning D → Type 0
TablesBear D L m = (before ready after : Pool D L) (i j : Image) (batch : Changed) (it : Lasting)
    (of_disk of_pool : DemandSet) → KeepsStore m before ready
    → ChangesOverlays m (content_in batch.pages) batch.orders ready after
    → Tells m before.disk i → m.held after.disk ≡ Some j
    → IsLawful before.geometry.size batch.pages batch.orders
    → BearsTables before.geometry.size (cache_over before i) it of_disk of_pool
    → ((on_disk : DemandSet) → ((d : Demand) → IsIn of_disk d → IsIn of_pool d → IsIn on_disk d)
    → PaysOrderly before.geometry.size (shown before.dirty i) (viewed before i batch) (content_in batch.pages)
    (lists batch.orders) it on_disk of_pool)
    → KeepsTables before.geometry.size (cache_over after j) it of_disk of_pool

-- the law where some things are newly wanted
abbrev pub NewsBear : (D L : Type 0) → Meaning D → Type 0
NewsBear D L m = (before ready after : Pool D L) (i j : Image) (batch : Changed) (it : Lasting)
    (of_disk of_pool news : DemandSet) → KeepsStore m before ready
    → ChangesOverlays m (content_in batch.pages) batch.orders ready after
    → Tells m before.disk i → m.held after.disk ≡ Some j
    → IsLawful before.geometry.size batch.pages batch.orders
    → BearsTables before.geometry.size (cache_over before i) it of_disk of_pool
    → ((on_disk : DemandSet) → ((d : Demand) → IsIn of_disk d → IsIn of_pool d → IsIn on_disk d)
    → PaysNewly before.geometry.size (shown before.dirty i) (viewed before i batch) (content_in batch.pages)
    (lists batch.orders) it on_disk of_pool news)
    → KeepsNewly before.geometry.size (cache_over after j) it of_disk of_pool news

-- ---- the batches

pub in_wanted : (dropped : Which) (wanted : DemandSet) (d : Demand) → IsIn (without dropped wanted) d → IsIn wanted d
in_wanted dropped wanted d h = (h.0, (and_parts (wanted d h.0) _ h.1).0)

pub in_alone : (dropped : Which) (wanted : DemandSet) (d : Demand) → IsIn (without dropped (either wanted (listed []))) d
    → IsIn wanted d
in_alone dropped wanted d h = elim (either_cases wanted (listed []) d (in_wanted dropped (either wanted (listed [])) d h)) [
  | inl x ↦ x
  | inr none ↦ absurd (of_listed [] d none)
]

-- where nothing is dropped, versions stay chained
pub chained_all : (size : ℕ) (pages : Pages) (wanted : DemandSet) → IsChained size pages wanted
    → IsChained size pages (without nothing wanted)
chained_all size pages wanted = chained_within size pages wanted (without nothing wanted) (in_wanted nothing wanted)
    (λ d other h. (h.0, and_from _ _ h.1 refl))

-- nothing is dropped
pub drops_none : (d : Demand) → nothing d ≡ true → ⊥
drops_none d is = absurd cc

abbrev pub part_keeps : (D L : Type 0) → PartKeeps D L
part_keeps D L store image old new t batch orders it on_disk wanted lasting young part = record {
  paid = record {
    mid = viewed store image new;
    more = listed part.more;
    dropped = nothing;
    pays = part.pays;
    fresh = λ d h is. absurd (young d is (part.own d (of_listed part.more d h) (lasting.versions d is)));
    drops = drops_nothing store.geometry.size (viewed store image new) orders it.settled (either wanted (listed part.more))
        part.pays.wants;
    own = λ d is. absurd (drops_none d is);
  };
  orderly = orderly_less store.geometry.size (viewed store image new) (either wanted (listed part.more))
      (without nothing (either wanted (listed part.more))) part.orderly
      (in_wanted nothing (either wanted (listed part.more)));
  chained = chained_all store.geometry.size (viewed store image new) (either wanted (listed part.more)) part.chained;
}

abbrev pub move_keeps : (D L : Type 0) → MoveKeeps D L
move_keeps D L store image old new rec v replaces moves orders it on_disk wanted may have orderly chained =
    let knows = move_is_known D L store image old new rec v replaces moves orders it on_disk wanted may have chained in
    let step = move_step store image old new rec v replaces moves orders it on_disk wanted knows have in
    record {
      paid = record {
        mid = step.mid;
        more = listed (move_wants store image old new rec v replaces moves orders it on_disk wanted knows have);
        dropped = version_at replaces.newest.rec.page.0 replaces.newest.rec.slot replaces.newest.tx.0;
        pays = step.pays;
        fresh = step.fresh;
        drops = step.drops;
        own = step.own;
      };
      orderly = orderly_less store.geometry.size (viewed store image new)
          (either wanted (listed (move_wants store image old new rec v replaces moves orders it on_disk wanted knows have)))
          (without (version_at replaces.newest.rec.page.0 replaces.newest.rec.slot replaces.newest.tx.0)
          (either wanted (listed (move_wants store image old new rec v replaces moves orders it on_disk wanted knows have))))
          (move_orderly store image old new rec v replaces moves orders it on_disk wanted knows have orderly)
          (in_wanted (version_at replaces.newest.rec.page.0 replaces.newest.rec.slot replaces.newest.tx.0)
          (either wanted (listed (move_wants store image old new rec v replaces moves orders it on_disk wanted knows have))));
      chained = move_stays D L store image old new rec v replaces moves orders it on_disk wanted may have chained;
    }

abbrev pub over_keeps : (D L : Type 0) → OverKeeps D L
over_keeps D L store image old new rec v replaces puts orders it on_disk wanted was head its orderly chained =
    let moved = newest_moved store.geometry.size (viewed store image old) wanted was head chained rec replaces.newest
    replaces.was its replaces.its.head.slot replaces.its.meets.cell in
    let of = newest_page store.geometry.size (viewed store image old) wanted was head chained rec replaces.newest
    replaces.was its replaces.its.head.slot replaces.its.meets.cell in
    let pays = over_pays D L store image old new rec v replaces puts moved orders it.settled on_disk wanted was head of in
    record {
      paid = record {
        mid = viewed store image new;
        more = listed [];
        dropped = nothing;
        pays = pays;
        fresh = λ d h is. absurd (of_listed [] d h);
        drops = drops_nothing store.geometry.size (viewed store image new) orders it.settled (either wanted (listed []))
            pays.wants;
        own = λ d is. absurd (drops_none d is);
      };
      orderly = orderly_less store.geometry.size (viewed store image new) wanted (without nothing (either wanted (listed [])))
          (over_orderly store image old new rec v replaces puts wanted was of orderly) (in_alone nothing wanted);
      chained = chained_within store.geometry.size (viewed store image new) wanted (without nothing (either wanted (listed [])))
          (in_alone nothing wanted) (λ d other h. let there = in_one wanted (listed []) d h in
          (there.0, and_from _ _ there.1 refl))
          (over_chained D L store image old new rec v replaces puts wanted chained);
    }

abbrev pub out_keeps : (D L : Type 0) → OutKeeps D L
out_keeps D L store image old new rec takes orders it on_disk wanted may have orderly chained =
    let knows = out_is_known D L store image old new rec takes it.settled on_disk wanted may chained in
    let step = out_step store image old new rec takes orders it on_disk wanted knows have in
    record {
      paid = record {
        mid = step.mid;
        more = listed [];
        dropped = version_at takes.newest.rec.page.0 takes.newest.rec.slot takes.newest.tx.0;
        pays = step.pays;
        fresh = step.fresh;
        drops = step.drops;
        own = step.own;
      };
      orderly = orderly_less store.geometry.size (viewed store image new) wanted
          (without (version_at takes.newest.rec.page.0 takes.newest.rec.slot takes.newest.tx.0) (either wanted (listed [])))
          (out_orderly store image old new rec takes orders it on_disk wanted knows have orderly)
          (in_alone (version_at takes.newest.rec.page.0 takes.newest.rec.slot takes.newest.tx.0) wanted);
      chained = out_stays D L store image old new rec takes it.settled on_disk wanted may chained;
    }

-- ---- the cache's change

-- what is no version is wanted still
pub wanted_on : (settled : ℕ → Bool) (dropped : Which) (wanted : DemandSet)
    → ((d : Demand) → dropped d ≡ true → may_go settled d ≡ true) → (d : Demand) → d.what ≢ VERSION
    → IsIn wanted d → IsIn (without dropped wanted) d
wanted_on settled dropped wanted may d other h = (h.0, and_from _ _ h.1 (not_from_false _ (kept (dropped d) refl)))
  where
    kept : (b : Bool) → dropped d ≡ b → dropped d ≡ false
    kept true is = absurd (other (may_is_version settled d (may d is)).0)
    kept false is = is

pub still_wanted : (settled : ℕ → Bool) (dropped : Which) (of_pool more : DemandSet)
    → ((d : Demand) → dropped d ≡ true → may_go settled d ≡ true) → (d : Demand) → d.what ≢ VERSION
    → IsIn of_pool d → IsIn (without dropped (either of_pool more)) d
still_wanted settled dropped of_pool more may d other h =
    wanted_on settled dropped (either of_pool more) may d other (in_one of_pool more d h)

pub news_bear : (D L : Type 0) (m : Meaning D) → ThreeHasBoth → BatchBearsExactly → NewsBear D L m
news_bear D L m both law before ready after i j batch it of_disk of_pool news keeps frame tells held lawful its pays =
    at (frame (keeps.disk.tells ∙ tells.told) i j (keeps.disk.held ∙ tells.held) held)
  where
    same : cache_over ready i ≡ cache_over before i
    same = λ k. cache_of (keeps.dirty k) (keeps.graph k) i

    at : (gone : PageSet) × ChangesPages ready.dirty after.dirty ready.graph after.graph i j gone
        (content_in batch.pages) batch.orders
        → KeepsNewly before.geometry.size (cache_over after j) it of_disk of_pool news
    at (gone, changes) =
        let pool : viewed before i batch ≡ shown after.dirty j = sym (fun_ext (λ p. changes.shown_new p
        ∙ ap (λ (d : DirtyPages). unwrap_or (content_in batch.pages p) (shown d i p)) keeps.dirty)) in
        let it_pays = subst (λ (pages : Pages). PaysNewly before.geometry.size (shown before.dirty i) pages
        (content_in batch.pages) (lists batch.orders) it (three_parts (cache_over before i) gone of_disk of_pool) of_pool news) pool
        (pays (three_parts (cache_over before i) gone of_disk of_pool) (both (cache_over before i) gone of_disk of_pool)) in
        let paid = it_pays.pays in
        record {
          keeps = record {
            of_disk = three_parts (cache_over before i) gone of_disk of_pool;
            of_pool = without paid.paid.dropped (either of_pool paid.paid.more);
            its = record {
              bears = law before.geometry.size (cache_over before i) (cache_over after j) it gone (content_in batch.pages)
                  (lists batch.orders) (subst (λ (c : Cache). IsClosed c gone) same changes.out)
                  (subst (λ (c : Cache). LaysBatch c (cache_over after j) gone (content_in batch.pages) (lists batch.orders)) same
                  (lays ready.dirty after.dirty ready.graph after.graph i j gone (content_in batch.pages) batch.orders changes))
                  lawful.later_in of_disk of_pool its.bears paid.paid;
              orderly = paid.orderly;
              chained = paid.chained;
            };
            rooted = λ d other disk has. (
              both (cache_over before i) gone of_disk of_pool d disk has,
              still_wanted it.settled paid.paid.dropped of_pool paid.paid.more paid.paid.drops.may d other has,
            );
            kept = λ d other has. still_wanted it.settled paid.paid.dropped of_pool paid.paid.more paid.paid.drops.may d
                other has;
          };
          newly = λ d other h. wanted_on it.settled paid.paid.dropped (either of_pool paid.paid.more) paid.paid.drops.may d
              other (it_pays.newly d h);
        }

pub tables_bear : (D L : Type 0) (m : Meaning D) → ThreeHasBoth → BatchBearsExactly → TablesBear D L m
tables_bear D L m both law before ready after i j batch it of_disk of_pool keeps frame tells held lawful its pays =
    (news_bear D L m both law before ready after i j batch it of_disk of_pool (listed []) keeps frame tells held lawful its
    (λ on_disk has. record {
      pays = pays on_disk has;
      newly = λ d h. absurd (of_listed [] d h);
    })).keeps
