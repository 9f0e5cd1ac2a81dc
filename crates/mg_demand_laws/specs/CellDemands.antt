-- What the writing of versions pays: a cell is put, a record's primary slot is turned, and a version is
-- written over one of the same transaction.
use Rattle.std.specs.Prelude.{◌≡◌, ◌≢◌, ◌⊎◌, ℕ, Bool, true, false, List, [], ◌∷◌, Option, None, Some, if◌then◌else◌}
use Rattle.std.proofs.Common.{inl, inr, refl, sym, subst, ap, ◌∙◌}
use Rattle.std.proofs.lemmas.Bool.{both_ways, eq-eqb}
use Rattle.mg_base.specs.declared.numbers.TxNo.{TxNo}
use Rattle.mg_careful.specs.declared.links.Demand.{Demand}
use Rattle.mg_careful.specs.Precedence.{Orders}
use Rattle.mg_careful.specs.CarefulWrite.{DemandSet, Has, IsIn, either, listed}
use Rattle.mg_demand_laws.specs.Bearing.{IsPaid}
use Rattle.mg_image.specs.Form.{Pages}
use Rattle.mg_image.specs.Records.{slot_cell}
use Rattle.mg_slots.specs.DataPage.{cell_of}
use Rattle.mg_space.specs.Demands.{back_demands, cell_demands, demand, is_version_of, link_demand, version_demands, wanted_demands}
use Rattle.mg_space.specs.declared.links.TheConstants.{NEXT, VERSION}
use Rattle.mg_version.specs.declared.cell.Cell.{Cell}
use Rattle.mg_version.specs.declared.cell.Cell.TheVariants as cells
use Rattle.mg_version.specs.declared.cell.Link.{Link}
use Rattle.mg_version.specs.declared.cell.Version.{Version}
use Rattle.mg_demand_laws.specs.CellLaws.{cell_pays}
use Rattle.mg_demand_laws.specs.Met.{has_back, has_either, has_front, in_listed, is_demand, of_listed}
use Rattle.mg_demand_laws.specs.Steps.{SetsSlot}
use Rattle.mg_demand_laws.specs.VersionLaws.{may_is_version}
use Rattle.mg_demand_laws.specs.Wanting.{IsWanting, Pays, may_go, want_of}
use Rattle.mg_demand_laws.specs.WantingLaws.{in_other, two_listed}

-- A demand is paid for before the pages of a batch: it is wanted, and its page comes before a page, or is
-- that page, or the disk has it.
pub record IsBehind (orders : Orders) (on_disk wanted : DemandSet) (page : ℕ) (e : Demand) : Type 0 where
  pub is_wanted : IsIn wanted e
  pub is_first : (e.target ≡ page) ⊎ ((orders e.target page ≡ true) ⊎ IsIn on_disk e)

-- the version that a link leads to
abbrev pub want_by : Link → Demand
want_by link = want_of link.rec.page.0 VERSION link.rec.slot link.tx.0

-- what a version or a slot leads to: the version behind, if there is one
abbrev pub BackIsBehind : Orders → DemandSet → DemandSet → ℕ → Option Link → Type 0
BackIsBehind orders on_disk wanted page None = Unit {0}
BackIsBehind orders on_disk wanted page (Some link) =
    (e : Demand) → Has (link_demand link) e → IsBehind orders on_disk wanted page e

-- the cell of a primary slot: an anchor, or none
abbrev pub anchor_to : Option Link → Option Cell
anchor_to None = None
anchor_to (Some link) = Some (cells.Anchor link)

-- A slot may leave the version that it led to: that is settled, or on the slot's own page, or the slot's page
-- is ordered before its page.
abbrev pub MayLeave : (ℕ → Bool) → Orders → ℕ → Option Link → Type 0
MayLeave settled orders page None = Unit {0}
MayLeave settled orders page (Some link) = (settled link.tx.0 ≡ true)
    ⊎ ((link.rec.page.0 ≡ page) ⊎ (orders page link.rec.page.0 ≡ true))

-- ---- a slot is turned

-- A record's primary slot led to one version, and leads to another now; or to none.
pub record TurnsSlot (size : ℕ) (old new : Pages) (rec slot : ℕ) (cell : Option (List ℕ))
    (from to : Option Link) : Type 0 where
  pub sets : SetsSlot size old new rec slot cell
  pub led : slot_cell (cell_of (old rec) slot) ≡ anchor_to from
  pub leads : slot_cell cell ≡ anchor_to to

-- the law: what it leads to is paid for, and what it led to it may leave
abbrev pub TurnsPay : Type 0
TurnsPay = (size : ℕ) (old new : Pages) (rec slot : ℕ) (cell : Option (List ℕ)) (from to : Option Link)
    (orders : Orders) (settled : ℕ → Bool) (on_disk wanted : DemandSet)
    → TurnsSlot size old new rec slot cell from to → IsWanting size old wanted
    → BackIsBehind orders on_disk wanted rec to → MayLeave settled orders rec from
    → Pays size old new orders settled on_disk wanted (listed [])

no_version_in : (o : Option Link) (t : ℕ) → is_version_of t (anchor_to o) ≡ true → ⊥
no_version_in None t is = absurd cc
no_version_in (Some link) t is = absurd cc

led_in : (o : Option Link) (e : Demand) → Has (cell_demands (anchor_to o)) e
    → (link : Link) × (o ≡ Some link) × (e ≡ want_by link)
led_in None e h = absurd h
led_in (Some link) e h =
    (link, refl, is_demand link.rec.page.0 VERSION link.rec.slot link.tx.0 e h)

none_wanted_in : (o : Option Link) (e : Demand) → Has (wanted_demands (anchor_to o)) e → ⊥
none_wanted_in None e h = h
none_wanted_in (Some link) e h = h

pub turns_pay : TurnsPay
turns_pay size old new rec slot cell from to orders settled on_disk wanted turns was behind leave =
    cell_pays size old new rec slot cell None orders settled on_disk wanted turns.sets
    (λ t is. absurd (no_version_in from t (subst (λ (c : Option Cell). is_version_of t c ≡ true) turns.led is)))
    tt was (record {
      led = λ d e same h. inr (paid to behind d e same (cell_now e h));
      wanted_led = λ d e same at h. absurd (none_wanted_in to e (wanted_now e h));
      new_led = λ d e same h made. absurd (of_listed [] d h);
      leaves = λ e may apart h. inr (left e may apart (led_in from e
          (subst (λ (c : Option Cell). Has (cell_demands c) e) turns.led h)));
      wanted_leaves = λ e may apart h. absurd (none_wanted_in from e
          (subst (λ (c : Option Cell). Has (wanted_demands c) e) turns.led h));
    })
  where
    cell_now : (e : Demand) → Has (cell_demands (slot_cell cell)) e → Has (cell_demands (anchor_to to)) e
    cell_now e h = subst (λ (c : Option Cell). Has (cell_demands c) e) turns.leads h

    wanted_now : (e : Demand) → Has (wanted_demands (slot_cell cell)) e → Has (wanted_demands (anchor_to to)) e
    wanted_now e h = subst (λ (c : Option Cell). Has (wanted_demands c) e) turns.leads h

    paid : (o : Option Link) → BackIsBehind orders on_disk wanted rec o → (d e : Demand) → d.target ≡ rec
        → Has (cell_demands (anchor_to o)) e → IsPaid orders on_disk wanted (listed []) d e
    paid None all d e same h = absurd h
    paid (Some link) all d e same h = let it = all e h in record {
      is_wanted = inl it.is_wanted;
      is_first = subst (λ (n : ℕ). (e.target ≡ n) ⊎ ((orders e.target n ≡ true) ⊎ IsIn on_disk e)) (sym same)
          it.is_first;
    }

    left : (e : Demand) → may_go settled e ≡ true → e.target ≢ rec
        → (link : Link) × (from ≡ Some link) × (e ≡ want_by link) → orders rec e.target ≡ true
    left e may apart (link, is, one) = by (subst (MayLeave settled orders rec) is leave)
      where
        by : (settled link.tx.0 ≡ true) ⊎ ((link.rec.page.0 ≡ rec) ⊎ (orders rec link.rec.page.0 ≡ true))
            → orders rec e.target ≡ true
        by (inl done) = absurd (both_ways _ (may_is_version settled (want_by link)
            (subst (λ (x : Demand). may_go settled x ≡ true) one may)).1 done)
        by (inr (inl here)) = absurd (apart (ap (λ (x : Demand). x.target) one ∙ here))
        by (inr (inr order)) = subst (λ (x : Demand). orders rec x.target ≡ true) (sym one) order

-- ---- a version is put

-- A version comes into a free slot, outside its record's primary slot.
pub record PutsNew (size : ℕ) (old new : Pages) (at slot : ℕ) (bytes : List ℕ) (v : Version) : Type 0 where
  pub sets : SetsSlot size old new at slot (Some bytes)
  pub was_free : cell_of (old at) slot ≡ None
  pub is_version : slot_cell (Some bytes) ≡ Some (cells.Version v)
  pub moved : v.primary ≡ false

-- the law: its number is wanted as drawn, and the header and the version behind come before its page
abbrev pub PutsPay : Type 0
PutsPay = (size : ℕ) (old new : Pages) (at slot : ℕ) (bytes : List ℕ) (v : Version) (orders : Orders)
    (settled : ℕ → Bool) (on_disk wanted : DemandSet)
    → PutsNew size old new at slot bytes v → IsWanting size old wanted
    → IsBehind orders on_disk wanted at (want_of 0 NEXT v.tx.0 0)
    → BackIsBehind orders on_disk wanted at v.back
    → Pays size old new orders settled on_disk wanted (listed (want_of at VERSION slot v.tx.0 ∷ []))

pub puts_pay : PutsPay
puts_pay size old new at slot bytes v orders settled on_disk wanted puts was number behind =
    cell_pays size old new at slot (Some bytes) (Some v.tx.0) orders settled on_disk wanted puts.sets
    (λ t is. let none : is_version_of t None ≡ true =
    subst (λ (c : Option (List ℕ)). is_version_of t (slot_cell c) ≡ true) puts.was_free is in absurd cc)
    (subst (λ (c : Option Cell). is_version_of v.tx.0 c ≡ true) (sym puts.is_version) (eq-eqb v.tx.0 v.tx.0 refl))
    was (record {
      led = λ d e same h. absurd (none_led e h);
      wanted_led = λ d e same here h. inr (version_led d e same h);
      new_led = λ d e same among h. version_led d e same h;
      leaves = λ e may apart h. absurd (let none : Has (cell_demands None) e =
          subst (λ (c : Option (List ℕ)). Has (cell_demands (slot_cell c)) e) puts.was_free h in none);
      wanted_leaves = λ e may apart h. absurd (let none : Has (wanted_demands None) e =
          subst (λ (c : Option (List ℕ)). Has (wanted_demands (slot_cell c)) e) puts.was_free h in none);
    })
  where
    none_led : (e : Demand) → Has (cell_demands (slot_cell (Some bytes))) e → ⊥
    none_led e h =
        let there = subst (λ (c : Option Cell). Has (cell_demands c) e) puts.is_version h in
        subst (λ (b : Bool). Has (if b then version_demands v else []) e) puts.moved there

    paid_by : (d e want : Demand) → d.target ≡ at → e ≡ want → IsBehind orders on_disk wanted at want
        → IsPaid orders on_disk wanted (listed (want_of at VERSION slot v.tx.0 ∷ [])) d e
    paid_by d e want same is it =
        subst (λ (x : Demand). IsPaid orders on_disk wanted (listed (want_of at VERSION slot v.tx.0 ∷ [])) d x) (sym is) (record {
          is_wanted = inl it.is_wanted;
          is_first = subst (λ (n : ℕ). (want.target ≡ n) ⊎ ((orders want.target n ≡ true) ⊎ IsIn on_disk want)) (sym same)
              it.is_first;
        })

    back_paid : (o : Option Link) → BackIsBehind orders on_disk wanted at o → (d e : Demand)
        → d.target ≡ at → Has (back_demands o) e
        → IsPaid orders on_disk wanted (listed (want_of at VERSION slot v.tx.0 ∷ [])) d e
    back_paid None it d e same h = absurd h
    back_paid (Some link) it d e same h = paid_by d e e same refl (it e h)

    version_led : (d e : Demand) → d.target ≡ at → Has (wanted_demands (slot_cell (Some bytes))) e
        → IsPaid orders on_disk wanted (listed (want_of at VERSION slot v.tx.0 ∷ [])) d e
    version_led d e same h = elim (has_either (demand 0 NEXT v.tx.0 0) (back_demands v.back) e
        (subst (λ (c : Option Cell). Has (wanted_demands c) e) puts.is_version h)) [
          | inl x ↦ paid_by d e (want_of 0 NEXT v.tx.0 0) same (is_demand 0 NEXT v.tx.0 0 e x) number
          | inr y ↦ back_paid v.back behind d e same y
        ]

-- The two steps of a version that is written: its cell comes into a free slot, and then its record's primary
-- slot leads to it, which led to another version before, or to none.
pub record WritesVersion (size : ℕ) (old put new : Pages) (at rec : ℕ) (slot rec_slot : ℕ)
    (bytes anchor : List ℕ) (v : Version) (from : Option Link) (link : Link) : Type 0 where
  pub puts : PutsNew size old put at slot bytes v
  pub turns : TurnsSlot size put new rec rec_slot (Some anchor) from (Some link)
  pub leads : want_by link ≡ want_of at VERSION slot v.tx.0

-- the law: the version's page comes before that of the primary slot, too
abbrev pub VersionsPay : Type 0
VersionsPay = (size : ℕ) (old put new : Pages) (at rec slot rec_slot : ℕ) (bytes anchor : List ℕ)
    (v : Version) (from : Option Link) (link : Link) (orders : Orders) (settled : ℕ → Bool)
    (on_disk wanted : DemandSet)
    → WritesVersion size old put new at rec slot rec_slot bytes anchor v from link
    → IsWanting size old wanted
    → IsBehind orders on_disk wanted at (want_of 0 NEXT v.tx.0 0)
    → BackIsBehind orders on_disk wanted at v.back
    → (at ≡ rec) ⊎ (orders at rec ≡ true) → MayLeave settled orders rec from
    → Pays size old new orders settled on_disk wanted (listed (want_of at VERSION slot v.tx.0 ∷ []))

pub versions_pay : VersionsPay
versions_pay size old put new at rec slot rec_slot bytes anchor v from link orders settled on_disk wanted writes was number behind order leave =
    two_listed size old put new orders settled on_disk wanted (want_of at VERSION slot v.tx.0 ∷ []) [] cell_step
    (turns_pay size put new rec rec_slot (Some anchor) from (Some link) orders settled on_disk
    (either wanted (listed (want_of at VERSION slot v.tx.0 ∷ []))) writes.turns cell_step.wants there leave)
  where
    cell_step : Pays size old put orders settled on_disk wanted (listed (want_of at VERSION slot v.tx.0 ∷ []))
    cell_step = puts_pay size old put at slot bytes v orders settled on_disk wanted writes.puts was number behind

    there : (e : Demand) → Has (link_demand link) e
        → IsBehind orders on_disk (either wanted (listed (want_of at VERSION slot v.tx.0 ∷ []))) rec e
    there e h = subst (λ (x : Demand). IsBehind orders on_disk (either wanted (listed (want_of at VERSION slot v.tx.0 ∷ []))) rec x)
        (sym (is_demand link.rec.page.0 VERSION link.rec.slot link.tx.0 e h ∙ writes.leads)) (record {
          is_wanted = in_other wanted (listed (want_of at VERSION slot v.tx.0 ∷ [])) (want_of at VERSION slot v.tx.0)
              (in_listed (want_of at VERSION slot v.tx.0 ∷ []) (want_of at VERSION slot v.tx.0) (inl refl));
          is_first = elim order [
            | inl one ↦ inl one
            | inr before ↦ inr (inl before)
          ];
        })

-- ---- a version is written over

-- A version is written over by another one of its transaction, which leads on as it did.
pub record WritesOver (size : ℕ) (old new : Pages) (x slot : ℕ) (bytes : List ℕ) (was now : Version)
    : Type 0 where
  pub sets : SetsSlot size old new x slot (Some bytes)
  pub stood : slot_cell (cell_of (old x) slot) ≡ Some (cells.Version was)
  pub stands : slot_cell (Some bytes) ≡ Some (cells.Version now)
  pub same_writer : now.tx ≡ was.tx
  pub same_back : now.back ≡ was.back
  pub moved : (was.primary ≡ false) × (now.primary ≡ false)

-- the law: it costs nothing
abbrev pub OverwritesPay : Type 0
OverwritesPay = (size : ℕ) (old new : Pages) (x slot : ℕ) (bytes : List ℕ) (was now : Version)
    (orders : Orders) (settled : ℕ → Bool) (on_disk wanted : DemandSet)
    → WritesOver size old new x slot bytes was now → IsWanting size old wanted
    → Pays size old new orders settled on_disk wanted (listed [])

pub overwrites_pay : OverwritesPay
overwrites_pay size old new x slot bytes was now orders settled on_disk wanted writes wanting =
    cell_pays size old new x slot (Some bytes) None orders settled on_disk wanted writes.sets
    (λ t is. subst (λ (c : Option Cell). is_version_of t c ≡ true) (sym writes.stands)
    (subst (λ (u : TxNo). is_version_of t (Some (cells.Version (record now { tx = u }))) ≡ true) (sym writes.same_writer)
    (subst (λ (c : Option Cell). is_version_of t c ≡ true) writes.stood is)))
    tt wanting (record {
      led = λ d e same h. absurd (none_led now writes.moved.1 e (subst (λ (c : Option Cell). Has (cell_demands c) e) writes.stands h));
      wanted_led = λ d e same here h. inl (subst (λ (c : Option Cell). Has (wanted_demands c) e) (sym writes.stood)
          (same_demands now was writes.same_writer writes.same_back e
          (subst (λ (c : Option Cell). Has (wanted_demands c) e) writes.stands h)));
      new_led = λ d e same h made. absurd (of_listed [] d h);
      leaves = λ e may apart h. absurd (none_led was writes.moved.0 e
          (subst (λ (c : Option Cell). Has (cell_demands c) e) writes.stood h));
      wanted_leaves = λ e may apart h. inl (subst (λ (c : Option Cell). Has (wanted_demands c) e) (sym writes.stands)
          (same_demands was now (sym writes.same_writer) (sym writes.same_back) e
          (subst (λ (c : Option Cell). Has (wanted_demands c) e) writes.stood h)));
    })
  where
    none_led : (v : Version) → v.primary ≡ false → (e : Demand) → Has (cell_demands (Some (cells.Version v))) e → ⊥
    none_led v moved e h = subst (λ (b : Bool). Has (if b then version_demands v else []) e) moved h

    same_demands : (one other : Version) → one.tx ≡ other.tx → one.back ≡ other.back → (e : Demand)
        → Has (version_demands one) e → Has (version_demands other) e
    same_demands one other writer back e h = elim (has_either (demand 0 NEXT one.tx.0 0) (back_demands one.back) e h) [
      | inl first ↦ has_front (demand 0 NEXT other.tx.0 0) (back_demands other.back) e
          (subst (λ (u : TxNo). Has (demand 0 NEXT u.0 0) e) writer first)
      | inr second ↦ has_back (demand 0 NEXT other.tx.0 0) (back_demands other.back) e
          (subst (λ (o : Option Link). Has (back_demands o) e) back second)
    ]
