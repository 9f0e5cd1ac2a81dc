-- A version is pushed by a writer who counts as in limbo.
use Rattle.mg_base.specs.declared.numbers.RecId.{RecId}
use Rattle.mg_base.specs.declared.transaction.TxState.TheVariants.{Committed, Limbo}
use Rattle.mg_image.specs.Form.{Coding}
use Rattle.mg_image.specs.RecordRules.{AreRecords, Each, EachBack, Facts, IsRecord, IsVersion, TakesKey, table_in}
use Rattle.mg_image.specs.Records.{Cells, Chain, Changes as CellChanges, Reading, Stands, goes, newest_of, record_key, writer}
use Rattle.mg_image.specs.StepLaws.{put_reading, step_sound}
use Rattle.mg_image.specs.declared.entry.Entry.{Entry}
use Rattle.mg_image_overlay_laws.specs.records.Skips.{chain_cell}
use Rattle.mg_image_overlay_laws.specs.records.Relink.{chain_from}
use Rattle.mg_model.specs.declared.table.Table.{Table}
use Rattle.mg_value.specs.declared.value.Value.{Value}
use Rattle.mg_version.specs.declared.cell.Link.{Link}
use Rattle.mg_version.specs.declared.cell.Version.{Version}
use Rattle.std.proofs.Common.{List, None, Option, Some, ap, inl, inr, refl, subst, sym, ◌∙◌, ◌∷◌, ◌≡◌, ◌≢◌}
use Rattle.mg_version.specs.declared.cell.Cell.TheVariants as cells

-- What is known: as for a dead writer, but that it counts as in limbo; and nobody else takes the key.
pub record PushesWhole (coding : Coding) (f : Facts) (old new : Cells) (r : Reading) (p : RecId)
    (table : Table) (n e : Entry) (es : List Entry) (l m link : Link) : Type 0 where
  pub of : table_in f p ≡ Some table
  pub first : r p ≡ e ∷ es
  pub settled : f.state (writer e) ≡ Committed
  pub limbo : f.state (writer n) ≡ Limbo
  pub slot : old p ≡ Some (cells.Anchor l)
  pub change : CellChanges old new p (Some (cells.Anchor link))
  pub cell : old n.at ≡ Some (cells.Version n.version)
  pub leads : (n.at ≡ link.rec) × (n.version.tx ≡ link.tx)
  pub back : n.version.back ≡ Some m
  pub behind : (e.at ≡ m.rec) × (e.version.tx ≡ m.tx)
  pub unread : (q : RecId) → Stands (r q) n.at → ⊥
  pub lawful : IsVersion coding f table (record_key table (r p)) n
  pub free : (q : RecId) → q ≢ p → table_in f q ≡ Some table → TakesKey f (r q)
      → record_key table (r p) ≡ record_key table (r q) → ⊥

module _ (coding : Coding) (f : Facts) (old new : Cells) (r : Reading) (p : RecId) (table : Table)
    (n e : Entry) (es : List Entry) (l m link : Link) (are : AreRecords coding f old r)
    (push : PushesWhole coding f old new r p table n e es l m link) where
  abbrev pub pushed : Reading
  pushed = put_reading r p (n ∷ r p)

  record_ : IsRecord coding f table (r p)
  record_ = are.each p table push.of

  no_version : (w : Version) → old p ≢ Some (cells.Version w)
  no_version w is =
      let both : Some (cells.Anchor l) ≡ Some (cells.Version w) = sym push.slot ∙ is in absurd cc

  pub pushed_records : AreRecords coding f new pushed
  pushed_records = step_sound coding f old new r p (Some (cells.Anchor link)) p table (n ∷ r p) are
      push.change (record {
        of_table = push.of;
        reads = rw push.change.here (goes link n (r p) push.leads.0
            (push.change.others n.at not_slot ∙ push.cell) push.leads.1
            (subst (λ (k : Option Link). Chain new k (r p)) (sym push.back)
            (subst (Chain new (Some m)) (sym push.first)
            (chain_from old new p (Some (cells.Anchor link)) push.change no_version
            (newest_of p (old p)) m e es
            (subst (Chain old (newest_of p (old p))) push.first (are.reads p table push.of))
            push.behind.0 push.behind.1))));
        slot = λ ne. absurd (ne refl);
        out = out;
        lawful = record {
          once = (push.unread p, record_.once);
          each = subst (λ (k : Value). Each (IsVersion coding f table k) (n ∷ r p))
              (sym push.lawful.keyed) (push.lawful, record_.each);
          backs = subst (Each (λ d. f.state (writer d) ≡ Committed)) (sym push.first) (
            push.settled,
            subst (EachBack (λ d. f.state (writer d) ≡ Committed)) push.first record_.backs,
          );
        };
        apart = λ q y ne there also. apart q y ne there also;
        keys = λ q ne of_q takes takes_q same. push.free q ne of_q takes_q
            (sym push.lawful.keyed ∙ same);
      })
    where
      not_slot : n.at ≢ p
      not_slot same = no_version n.version (ap old (sym same) ∙ push.cell)

      out : (q : RecId) → q ≢ p → Stands (r q) p → ⊥
      out q ne there = by (table_in f q) refl
        where
          by : (t : Option Table) → table_in f q ≡ t → ⊥
          by None none = subst (λ (fs : List Entry). Stands fs p) (are.outside q none) there
          by (Some other) of = at (chain_cell old (newest_of q (old q)) (r q) p
              (are.reads q other of) there)
            where
              at : (w : Version) × (old p ≡ Some (cells.Version w)) → ⊥
              at (w, is) = no_version w is

      apart : (q y : RecId) → q ≢ p → Stands (n ∷ r p) y → Stands (r q) y → ⊥
      apart q y ne (inl at) also = push.unread q (subst (Stands (r q)) (sym at) also)
      apart q y ne (inr there) also = ne (are.apart q p y also there)
