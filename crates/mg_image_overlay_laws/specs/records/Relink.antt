-- The slot of a record comes to lead to another list of versions.
use Rattle.mg_base.specs.declared.numbers.RecId.{RecId}
use Rattle.mg_base.specs.declared.transaction.TxState.TheVariants.{Committed, Dead, Limbo}
use Rattle.mg_image.specs.Form.{Coding}
use Rattle.mg_image.specs.ReadingLaws.{Opens, chain_opens}
use Rattle.mg_image.specs.RecordRules.{AreOnce, AreRecords, Each, EachBack, Facts, IsRecord, IsVersion, TakesKey, committed_in, table_in}
use Rattle.mg_image.specs.Records.{Cells, Chain, Changes, Reading, Stands, goes, key_of, newest_of, record_key, shown, writer}
use Rattle.mg_image.specs.StepLaws.{chain_stays, put_reading, step_sound}
use Rattle.mg_image.specs.declared.entry.Entry.{Entry}
use Rattle.mg_image_overlay_laws.specs.records.Skips.{chain_cell}
use Rattle.mg_image_overlay_laws.specs.records.Fronts.{HasFronts, IsFront, IsLike, living}
use Rattle.mg_model.specs.declared.table.Table.{Table}
use Rattle.mg_value.specs.declared.value.Value.{Value}
use Rattle.mg_version.specs.declared.cell.Cell.{Cell}
use Rattle.mg_version.specs.declared.cell.Link.{Link}
use Rattle.mg_version.specs.declared.cell.Version.{Version}
use Rattle.std.proofs.Common.{List, None, Option, Some, [], ap, inl, inr, refl, subst, sym, ◌∙◌, ◌∷◌, ◌≡◌, ◌≢◌}
use Rattle.mg_version.specs.declared.cell.Cell.TheVariants as cells

-- What the new list of a record owes whose slot alone is changed, which is no version's.
pub record Relinks (coding : Coding) (g : Facts) (old new : Cells) (s : Reading) (p : RecId)
    (table : Table) (cell : Option Cell) (es : List Entry) : Type 0 where
  pub of_table : table_in g p ≡ Some table
  pub slot : (w : Version) → old p ≢ Some (cells.Version w)
  pub change : Changes old new p cell
  pub reads : Chain new (newest_of p cell) es
  pub lawful : IsRecord coding g table es
  pub apart : (q y : RecId) → q ≢ p → Stands es y → Stands (s q) y → ⊥
  pub keys : TakesKey g es → TakesKey g (s p) × (record_key table es ≡ record_key table (s p))

pub relink_sound : (coding : Coding) (g : Facts) (old new : Cells) (s : Reading) (p : RecId)
    (table : Table) (cell : Option Cell) (es : List Entry) → AreRecords coding g old s
    → Relinks coding g old new s p table cell es → AreRecords coding g new (put_reading s p es)
relink_sound coding g old new s p table cell es are relinks =
    step_sound coding g old new s p cell p table es are relinks.change (record {
      of_table = relinks.of_table;
      reads = rw relinks.change.here relinks.reads;
      slot = λ ne. absurd (ne refl);
      out = out;
      lawful = relinks.lawful;
      apart = λ q y ne there also. relinks.apart q y ne there also;
      keys = λ q ne of_q takes takes_q same. ne (are.keys q p table of_q relinks.of_table takes_q
          ((relinks.keys takes).0) (sym same ∙ (relinks.keys takes).1));
    })
  where
    out : (q : RecId) → q ≢ p → Stands (s q) p → ⊥
    out q ne there = by (table_in g q) refl
      where
        by : (t : Option Table) → table_in g q ≡ t → ⊥
        by None none = subst (λ (fs : List Entry). Stands fs p) (are.outside q none) there
        by (Some other) of = at (chain_cell old (newest_of q (old q)) (s q) p (are.reads q other of) there)
          where
            at : (w : Version) × (old p ≡ Some (cells.Version w)) → ⊥
            at (w, is) = relinks.slot w is

-- ---- the newest version of a dead transaction is taken out

-- another link leads to the same versions, where it meets the first of them
pub chain_from : (old new : Cells) (p : RecId) (cell : Option Cell) → Changes old new p cell
    → ((w : Version) → old p ≢ Some (cells.Version w)) → (l : Option Link) (m : Link) (e : Entry)
    (es : List Entry) → Chain old l (e ∷ es) → e.at ≡ m.rec → e.version.tx ≡ m.tx
    → Chain new (Some m) (e ∷ es)
chain_from old new p cell change slot l m e es chain at tx =
    goes m e es at (change.others e.at (λ same. slot e.version (ap old (sym same) ∙ opens.1)) ∙ opens.1)
    tx (chain_stays old new p cell change e.version.back es opens.3 not_there)
  where
    by_link : (l : Option Link) → Opens old l (e ∷ es)
        → (Unit {0}) × (old e.at ≡ Some (cells.Version e.version)) × (Unit {0})
        × Chain old e.version.back es
    by_link None o = absurd o
    by_link (Some k) o = (tt, o.1, tt, o.3)

    opens : (Unit {0}) × (old e.at ≡ Some (cells.Version e.version)) × (Unit {0})
        × Chain old e.version.back es
    opens = by_link l (chain_opens old l (e ∷ es) chain)

    not_there : Stands es p → ⊥
    not_there there = by (chain_cell old e.version.back es p opens.3 there)
      where
        by : (w : Version) × (old p ≡ Some (cells.Version w)) → ⊥
        by (w, is) = slot w is

-- What is known where the pool takes a dead version out of a record that has older ones, and an
-- overlay has the page of its slot: there the slot names the same version.
pub record TakesOutOver (f g : Facts) (r s : Reading) (old new : Cells) (p : RecId) (l m : Link)
    (u c : Entry) (cs : List Entry) : Type 0 where
  pub pool : r p ≡ u ∷ (c ∷ cs)
  pub dead : f.state (writer u) ≡ Dead
  pub names : u.version.tx ≡ l.tx
  pub behind : (c.at ≡ m.rec) × (c.version.tx ≡ m.tx)
  pub settled : f.state (writer c) ≡ Committed
  pub slot : old p ≡ Some (cells.Anchor l)
  pub change : Changes old new p (Some (cells.Anchor m))

tail : List Entry → List Entry
tail [] = []
tail (e ∷ es) = es

module _ (coding : Coding) (f g : Facts) (r s : Reading) (old new : Cells) (p : RecId)
    (l m : Link) (u c : Entry) (cs : List Entry) (table : Table) (are : AreRecords coding g old s)
    (fronts : HasFronts f g r s) (of : table_in g p ≡ Some table)
    (takes : TakesOutOver f g r s old new p l m u c cs) where
  -- what the overlay has
  pub record TakenOver : Type 0 where
    pub d : Entry
    pub e : Entry
    pub es : List Entry
    pub image : s p ≡ d ∷ (e ∷ es)
    pub dead : g.state (writer d) ≡ Dead
    pub like : IsLike c e

  pub taken_over : TakenOver
  taken_over = by (s p) refl (chain_opens old (Some l) (s p)
      (subst (λ (k : Option Link). Chain old k (s p)) (ap (newest_of p) takes.slot)
      (are.reads p table of)))
    where
      dropped : living f.state (u ∷ (c ∷ cs)) ≡ c ∷ cs
      dropped = rw takes.dead refl

      front : IsFront f.state (c ∷ cs) (living g.state (s p))
      front = subst (λ (fs : List Entry). IsFront f.state fs (living g.state (s p)))
          (ap (living f.state) takes.pool ∙ dropped) (fronts.fronts p)

      by : (fs : List Entry) → s p ≡ fs → Opens old (Some l) fs → TakenOver
      by [] none o = absurd o
      by (d ∷ ds) is o = rest ds refl (subst (IsFront f.state (c ∷ cs)) living_is front)
        where
          dead_d : g.state (writer d) ≡ Dead
          dead_d =
              let same : d.version.tx ≡ u.version.tx = o.2 ∙ sym takes.names in
              fronts.state (writer d) ∙ (ap (λ x. f.state x.0) same ∙ takes.dead)

          here : living g.state (d ∷ ds) ≡ ds
          here = rw dead_d refl

          living_is : living g.state (s p) ≡ ds
          living_is = ap (living g.state) is ∙ here

          rest : (fs : List Entry) → ds ≡ fs → IsFront f.state (c ∷ cs) ds → TakenOver
          rest [] none fr = absurd (subst (IsFront f.state (c ∷ cs)) none fr)
          rest (e ∷ es) more fr = record {
            d = d;
            e = e;
            es = es;
            image = is ∙ ap (λ (gs : List Entry). d ∷ gs) more;
            dead = dead_d;
            like = (subst (IsFront f.state (c ∷ cs)) more fr).0;
          }

  -- the record goes on without it
  pub take_out_sound : AreRecords coding g new (put_reading s p (taken_over.e ∷ taken_over.es))
  take_out_sound = relink_sound coding g old new s p table (Some (cells.Anchor m))
      (taken_over.e ∷ taken_over.es) are (record {
        of_table = of;
        slot = slot;
        change = takes.change;
        reads = chain_from old new p (Some (cells.Anchor m)) takes.change slot d.version.back m e es
            behind (sym taken_over.like.at ∙ takes.behind.0)
            (ap (λ (w : Version). w.tx) taken_over.like.version ∙ takes.behind.1);
        lawful = record {
          once = (subst AreOnce taken_over.image record_.once).1;
          each = subst (λ (k : Value). Each (IsVersion coding g table k) (e ∷ es)) key_is
              (subst (Each (IsVersion coding g table (record_key table (s p)))) taken_over.image
              record_.each).1;
          backs = (subst (EachBack (λ x. g.state (writer x) ≡ Committed)) taken_over.image record_.backs).1;
        };
        apart = λ q y ne there also. ne (are.apart q p y also
            (subst (λ (fs : List Entry). Stands fs y) (sym taken_over.image) (inr there)));
        keys = λ takes_key. (was_taken takes_key, sym key_is);
      })
    where
      d : Entry
      d = taken_over.d

      e : Entry
      e = taken_over.e

      es : List Entry
      es = taken_over.es

      record_ : IsRecord coding g table (s p)
      record_ = are.each p table of

      slot : (w : Version) → old p ≢ Some (cells.Version w)
      slot w is = let both : Some (cells.Anchor l) ≡ Some (cells.Version w) = sym takes.slot ∙ is in absurd cc

      behind : Chain old d.version.back (e ∷ es)
      behind = (chain_opens old (Some l) (d ∷ (e ∷ es))
          (subst (Chain old (Some l)) taken_over.image
          (subst (λ (k : Option Link). Chain old k (s p)) (ap (newest_of p) takes.slot)
          (are.reads p table of)))).3

      key_is : record_key table (s p) ≡ key_of table e.row
      key_is = sym ((subst (Each (IsVersion coding g table (record_key table (s p)))) taken_over.image
          record_.each).1.0.keyed)

      committed_e : g.state (writer e) ≡ Committed
      committed_e = (subst (EachBack (λ x. g.state (writer x) ≡ Committed)) taken_over.image record_.backs).0

      was_taken : TakesKey g (e ∷ es) → TakesKey g (s p)
      was_taken (inl (row, shows)) = inl (
        row,
        ap (shown (committed_in g)) taken_over.image
            ∙ (rw taken_over.dead refl ∙ shows),
      )
      was_taken (inr limbo) = let both : Committed ≡ Limbo = sym committed_e ∙ limbo in absurd cc
