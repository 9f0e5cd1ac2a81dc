-- A version is put, and pushed over the newest one, by a writer who counts as dead.
use Rattle.mg_base.specs.declared.numbers.RecId.{RecId}
use Rattle.mg_base.specs.declared.transaction.TxState.TheVariants.{Committed, Dead, Limbo}
use Rattle.mg_image.specs.Form.{Coding}
use Rattle.mg_image.specs.RecordRules.{AreRecords, Each, EachBack, Facts, IsRecord, IsVersion, TakesKey, committed_in, table_in}
use Rattle.mg_image.specs.Records.{Cells, Chain, Changes, Reading, Stands, goes, newest_of, record_key, shown, writer}
use Rattle.mg_image.specs.StepLaws.{put_cases, put_reading, unread_sound}
use Rattle.mg_image.specs.declared.entry.Entry.{Entry}
use Rattle.mg_image_overlay_laws.specs.records.Skips.{chain_cell, reads_none}
use Rattle.mg_image_overlay_laws.specs.records.QuietVersions.{SameLiving}
use Rattle.mg_image_overlay_laws.specs.records.Fronts.{living}
use Rattle.mg_image_overlay_laws.specs.records.Relink.{chain_from, relink_sound}
use Rattle.mg_model.specs.declared.table.Table.{Table}
use Rattle.mg_value.specs.declared.value.Value.{Value}
use Rattle.mg_version.specs.declared.cell.Link.{Link}
use Rattle.mg_version.specs.declared.cell.Version.{Version}
use Rattle.std.proofs.Common.{List, None, Option, Some, [], ap, false, inl, inr, refl, subst, sym, ◌∙◌, ◌∷◌, ◌≡◌, ◌≢◌}
use Rattle.mg_version.specs.declared.cell.Cell.TheVariants as cells

-- a cell that no chain can come to, since it is free
pub free_unread : (coding : Coding) (f : Facts) (h : Cells) (r : Reading) (x : RecId)
    → AreRecords coding f h r → h x ≡ None → (q : RecId) → Stands (r q) x → ⊥
free_unread coding f h r x are free q there = by (table_in f q) refl
  where
    by : (t : Option Table) → table_in f q ≡ t → ⊥
    by None none = subst (λ (es : List Entry). Stands es x) (are.outside q none) there
    by (Some table) of = at (chain_cell h (newest_of q (h q)) (r q) x (are.reads q table of) there)
      where
        at : (w : Version) × (h x ≡ Some (cells.Version w)) → ⊥
        at (w, is) = let both = sym free ∙ is in absurd cc

pub free_empty : (coding : Coding) (f : Facts) (h : Cells) (r : Reading) (x : RecId)
    → AreRecords coding f h r → h x ≡ None → r x ≡ []
free_empty coding f h r x are free = by (table_in f x) refl
  where
    by : (t : Option Table) → table_in f x ≡ t → r x ≡ []
    by None none = are.outside x none
    by (Some table) of = reads_none h (r x)
        (subst (λ (l : Option Link). Chain h l (r x)) (ap (newest_of x) free) (are.reads x table of))

-- the first step: the version's cell
pub put_sound : (coding : Coding) (f : Facts) (old new : Cells) (r : Reading) (x : RecId) (v : Version)
    → AreRecords coding f old r → old x ≡ None → v.primary ≡ false
    → Changes old new x (Some (cells.Version v)) → AreRecords coding f new r
put_sound coding f old new r x v are free apart change = unread_sound coding f old new r x
    (Some (cells.Version v)) are change (free_unread coding f old r x are free)
    (free_empty coding f old r x are free) (rw apart refl)

-- What the second step knows: the record's newest version is committed, the slot names it, and the
-- new version, which leads to it, stands in a cell that is not the record's.
pub record PushesOver (coding : Coding) (f : Facts) (old new : Cells) (r : Reading) (p : RecId)
    (table : Table) (n e : Entry) (es : List Entry) (l m link : Link) : Type 0 where
  pub of : table_in f p ≡ Some table
  pub first : r p ≡ e ∷ es
  pub settled : f.state (writer e) ≡ Committed
  pub dead : f.state (writer n) ≡ Dead
  pub slot : old p ≡ Some (cells.Anchor l)
  pub change : Changes old new p (Some (cells.Anchor link))
  pub cell : old n.at ≡ Some (cells.Version n.version)
  pub leads : (n.at ≡ link.rec) × (n.version.tx ≡ link.tx)
  pub back : n.version.back ≡ Some m
  pub behind : (e.at ≡ m.rec) × (e.version.tx ≡ m.tx)
  pub unread : (q : RecId) → Stands (r q) n.at → ⊥
  pub lawful : IsVersion coding f table (record_key table (r p)) n

pub push_sound : (coding : Coding) (f : Facts) (old new : Cells) (r : Reading) (p : RecId)
    (table : Table) (n e : Entry) (es : List Entry) (l m link : Link) → AreRecords coding f old r
    → PushesOver coding f old new r p table n e es l m link
    → AreRecords coding f new (put_reading r p (n ∷ r p))
push_sound coding f old new r p table n e es l m link are push =
    relink_sound coding f old new r p table (Some (cells.Anchor link)) (n ∷ r p) are (record {
      of_table = push.of;
      slot = slot;
      change = push.change;
      reads = goes link n (r p) push.leads.0 (push.change.others n.at not_slot ∙ push.cell) push.leads.1
          (subst (λ (k : Option Link). Chain new k (r p)) (sym push.back)
          (subst (Chain new (Some m)) (sym push.first)
          (chain_from old new p (Some (cells.Anchor link)) push.change slot (newest_of p (old p)) m e es
          (subst (Chain old (newest_of p (old p))) push.first (are.reads p table push.of))
          push.behind.0 push.behind.1)));
      lawful = record {
        once = (push.unread p, record_.once);
        each = subst (λ (k : Value). Each (IsVersion coding f table k) (n ∷ r p)) (sym key_is)
            (push.lawful, record_.each);
        backs = committed;
      };
      apart = λ q y ne there also. apart q y ne there also;
      keys = λ takes. (takes_old takes, key_is);
    })
  where
    record_ : IsRecord coding f table (r p)
    record_ = are.each p table push.of

    slot : (w : Version) → old p ≢ Some (cells.Version w)
    slot w is = let both : Some (cells.Anchor l) ≡ Some (cells.Version w) = sym push.slot ∙ is in absurd cc

    not_slot : n.at ≢ p
    not_slot same = slot n.version (ap old (sym same) ∙ push.cell)

    key_is : record_key table (n ∷ r p) ≡ record_key table (r p)
    key_is = push.lawful.keyed

    committed : Each (λ d. f.state (writer d) ≡ Committed) (r p)
    committed = subst (Each (λ d. f.state (writer d) ≡ Committed)) (sym push.first) (
      push.settled,
      subst (EachBack (λ d. f.state (writer d) ≡ Committed)) push.first record_.backs,
    )

    apart : (q y : RecId) → q ≢ p → Stands (n ∷ r p) y → Stands (r q) y → ⊥
    apart q y ne (inl at) also = push.unread q (subst (Stands (r q)) (sym at) also)
    apart q y ne (inr there) also = ne (are.apart q p y also there)

    takes_old : TakesKey f (n ∷ r p) → TakesKey f (r p)
    takes_old (inl (row, shows)) =
        let off : committed_in f (writer n) ≡ false = rw push.dead refl in
        let dropped : shown (committed_in f) (n ∷ r p) ≡ shown (committed_in f) (r p) = rw off refl in
        inl (row, sym dropped ∙ shows)
    takes_old (inr limbo) =
        let both : Dead ≡ Limbo = sym push.dead ∙ limbo in absurd cc

-- the same versions count
pub push_living : (coding : Coding) (f : Facts) (old new : Cells) (r : Reading) (p : RecId)
    (table : Table) (n e : Entry) (es : List Entry) (l m link : Link)
    → PushesOver coding f old new r p table n e es l m link
    → SameLiving f r (put_reading r p (n ∷ r p))
push_living coding f old new r p table n e es l m link push = put_cases r p (n ∷ r p)
    (λ q fs. living f.state fs ≡ living f.state (r q)) here (λ q ne. refl)
  where
    dropped : living f.state (n ∷ r p) ≡ r p
    dropped = rw push.dead refl

    stays : living f.state (e ∷ es) ≡ e ∷ es
    stays = rw push.settled refl

    here : living f.state (n ∷ r p) ≡ living f.state (r p)
    here = dropped ∙ (push.first ∙ (sym stays ∙ ap (living f.state) (sym push.first)))
