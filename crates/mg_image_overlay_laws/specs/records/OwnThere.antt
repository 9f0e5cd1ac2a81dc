-- What an overlay has of a record whose newest version is of a writer that counts as dead, where it has
-- the page of the record's slot as the pool has it.
use Rattle.std.proofs.Common.{◌≡◌, ◌≢◌, inl, ap, sym, subst, ◌∙◌, refl, ℕ, false, List, [], ◌∷◌, Option, None, Some}
use Rattle.mg_base.specs.declared.numbers.RecId.{RecId}
use Rattle.mg_base.specs.declared.transaction.TxState.{TxState}
use Rattle.mg_base.specs.declared.transaction.TxState.TheVariants.{Committed, Dead}
use Rattle.mg_version.specs.declared.cell.Cell.{Cell}
use Rattle.mg_version.specs.declared.cell.Cell.TheVariants as cells
use Rattle.mg_version.specs.declared.cell.Link.{Link}
use Rattle.mg_version.specs.declared.cell.Version.{Version}
use Rattle.mg_model.specs.declared.opening.Opening.{Opening}
use Rattle.mg_model.specs.declared.table.Table.{Table}
use Rattle.mg_model.specs.History.{Entries}
use Rattle.mg_image.specs.declared.entry.Entry.{Entry}
use Rattle.mg_image.specs.Form.{Form, Pages}
use Rattle.mg_image.specs.ReadingLaws.{Opens, RowsAreOne, chain_opens}
use Rattle.mg_image.specs.RecordRules.{Each, EachBack, Facts, IsRecord, IsVersion, committed_in, table_in}
use Rattle.mg_image.specs.Records.{Cells, Chain, Changes, Reading, Stands, cells_of, key_of, newest_of, record_key, shown, writer}
use Rattle.mg_image.specs.Sound.{IsSoundBy, facts_by}
use Rattle.mg_image.specs.StepLaws.{put_cases, put_reading}
use Rattle.mg_image.specs.Tables.{Layout, stands_of}
use Rattle.mg_image_overlay_laws.specs.records.Skips.{reads_none}
use Rattle.mg_image_overlay_laws.specs.records.Fronts.{IsFront, IsLike, living}
use Rattle.mg_image_overlay_laws.specs.pages.Kinds.{HasNoSequences}
use Rattle.mg_image_overlay_laws.specs.records.QuietVersions.{GoesQuietly}
use Rattle.mg_image_overlay_laws.specs.records.Relink.{chain_from}
use Rattle.mg_image_overlay_laws.specs.kept.KeptImages.{IsKept}
use Rattle.mg_image_overlay_laws.specs.pages.Reach.{IsEntered, table_in_image}
use Rattle.mg_image_overlay_laws.specs.records.Hidden.{overlay_shows_none}
use Rattle.mg_image_overlay_laws.specs.records.OwnVersion.{FindsNewest, in_pool_too}
use Rattle.mg_image_overlay_laws.specs.records.Overwrite.{not_committed}

-- ---- the newest version of a record in the pool

module _ (form : Form) (size : ℕ) (state : ℕ → TxState) (pages : Pages) (layout : Layout) (r : Reading)
    (sound : IsSoundBy form size state pages layout r) (p : RecId) (table : Table) (x : RecId)
    (v : Version) (l : Link) (found : FindsNewest (facts_by state pages layout) r p table x v)
    (slot : cells_of pages p ≡ Some (cells.Anchor l)) where
  opens : Opens (cells_of pages) (Some l) (found.newest ∷ found.older)
  opens = chain_opens (cells_of pages) (Some l) (found.newest ∷ found.older)
      (subst (Chain (cells_of pages) (Some l)) found.first
      (subst (λ (c : Option Cell). Chain (cells_of pages) (newest_of p c) (r p)) slot
      (sound.records.reads p table found.of)))

  pub leads_to : l.rec ≡ x
  leads_to = sym opens.0 ∙ found.at

  pub of_writer : l.tx ≡ v.tx
  of_writer = sym opens.2 ∙ ap (λ (w : Version). w.tx) found.version

  pub behind : Chain (cells_of pages) v.back found.older
  behind = subst (λ (w : Version). Chain (cells_of pages) w.back found.older) found.version opens.3

  pub older_settled : Each (λ e. state (writer e) ≡ Committed) found.older
  older_settled = subst (EachBack (λ e. state (writer e) ≡ Committed)) found.first
      (sound.records.each p table found.of).backs

  pub newest_writer : writer found.newest ≡ v.tx.0
  newest_writer = ap (λ (w : Version). w.tx.0) found.version

  -- its cell is one of the record's, and none of the versions behind it
  pub stood : Stands (r p) x
  stood = subst (λ (fs : List Entry). Stands fs x) (sym found.first) (inl found.at)

  pub older_off : Stands found.older x → ⊥
  older_off there = (subst (IsRecord form.coding (facts_by state pages layout) table) found.first
      (sound.records.each p table found.of)).once.0 (subst (Stands found.older) (sym found.at) there)

  -- so nobody reads it where the record has other versions
  pub none_reads : (es : List Entry) → (Stands es x → ⊥) → (q : RecId)
      → Stands (put_reading r p es q) x → ⊥
  none_reads es off = put_cases r p es (λ q fs. Stands fs x → ⊥) off others
    where
      others : (q : RecId) → q ≢ p → Stands (r q) x → ⊥
      others q ne there = ne (sound.records.apart q p x there stood)

-- ---- the record in an overlay that has the slot's page

module _ (form : Form) (one : RowsAreOne form.coding) (none : HasNoSequences form) (size : ℕ)
    (o : Opening) (h : Entries) (state : ℕ → TxState) (pool image : Pages)
    (of_pool : IsKept form size o h state pool pool) (kept : IsKept form size o h state pool image)
    (p x : RecId) (table : Table) (v : Version) (l : Link)
    (found : FindsNewest (facts_by state pool kept.of_pool) kept.in_pool p table x v)
    (slot : cells_of pool p ≡ Some (cells.Anchor l)) (dead : state v.tx.0 ≡ Dead) where
  abbrev f : Facts
  f = facts_by state pool kept.of_pool

  abbrev g : Facts
  g = facts_by state image kept.layout

  pub dead_newest : state (writer found.newest) ≡ Dead
  dead_newest = ap state (newest_writer form size state pool kept.of_pool kept.in_pool kept.pool_sound p
      table x v l found slot) ∙ dead

  pub open_newest : state (writer found.newest) ≢ Committed
  open_newest is = let both : Dead ≡ Committed = sym dead_newest ∙ is in absurd cc

  pub pool_behind : Chain (cells_of pool) v.back found.older
  pool_behind = behind form size state pool kept.of_pool kept.in_pool kept.pool_sound p table x v l found
      slot

  pub pool_settled : Each (λ e. state (writer e) ≡ Committed) found.older
  pool_settled = older_settled form size state pool kept.of_pool kept.in_pool kept.pool_sound p table x v
      l found slot

  pub pool_living : living state (kept.in_pool p) ≡ found.older
  pool_living = ap (living state) found.first ∙ rw dead_newest refl

  -- where no version lies behind
  pub pool_empty : v.back ≡ None → found.older ≡ []
  pool_empty nothing = reads_none (cells_of pool) found.older
      (subst (λ (k : Option Link). Chain (cells_of pool) k found.older) nothing pool_behind)

  pool_hidden : v.back ≡ None → shown (committed_in f) (kept.in_pool p) ≡ None
  pool_hidden nothing =
      let off : committed_in f (writer found.newest) ≡ false =
      not_committed (state (writer found.newest)) open_newest in
      let dropped : shown (committed_in f) (found.newest ∷ found.older)
      ≡ shown (committed_in f) found.older = rw off refl in
      ap (shown (committed_in f)) found.first
      ∙ (dropped ∙ ap (shown (committed_in f)) (pool_empty nothing))

  module _ (slot_there : cells_of image p ≡ Some (cells.Anchor l))
      (entered : v.back ≡ None → IsEntered (λ m. image m ≡ pool m) pool p.page.0 table.pointer.0) where
    front : IsFront state found.older (living state (kept.reading p))
    front = subst (λ (ds : List Entry). IsFront state ds (living state (kept.reading p)))
        pool_living (kept.fronts.fronts p)

    -- the slot's page is reached
    pub reached : table_in g p ≡ Some table
    reached = by v.back refl
      where
        by_table : (t : Option Table) → table_in g p ≡ t → (m : Link) → v.back ≡ Some m
            → table_in g p ≡ Some table
        by_table (Some other) of m some =
            let in_pool : table_in f p ≡ Some other =
            in_pool_too form size o h state pool image kept p.page.0 other of in
            of ∙ (sym in_pool ∙ found.of)
        by_table None out m some = absurd (empty found.older
            (subst (λ (k : Option Link). Chain (cells_of pool) k found.older) some pool_behind)
            (subst (λ (es : List Entry). IsFront state found.older (living state es))
            (kept.sound.records.outside p out) front))
          where
            empty : (es : List Entry) → Chain (cells_of pool) (Some m) es → IsFront state es [] → ⊥
            empty [] chain is = chain_opens (cells_of pool) (Some m) [] chain
            empty (e ∷ es) chain is = is

        by : (b : Option Link) → v.back ≡ b → table_in g p ≡ Some table
        by None nothing = table_in_image form.in_primary size pool image (stands_of kept.layout)
            (stands_of kept.of_pool) kept.behind.stands kept.sound.tables p.page.0 table
            (entered nothing) found.of
        by (Some m) some = by_table (table_in g p) refl m some

    -- it has the version at that cell, too, and the committed ones behind it
    pub record HasIt : Type 0 where
      pub first : Entry
      pub rest : List Entry
      pub is : kept.reading p ≡ first ∷ rest
      pub at : first.at ≡ x
      pub tx : first.version.tx ≡ v.tx
      pub chain : Chain (cells_of image) first.version.back rest

    pub has_it : HasIt
    has_it = by (kept.reading p) refl (chain_opens (cells_of image) (Some l) (kept.reading p)
        (subst (λ (c : Option Cell). Chain (cells_of image) (newest_of p c) (kept.reading p)) slot_there
        (kept.sound.records.reads p table reached)))
      where
        by : (es : List Entry) → kept.reading p ≡ es → Opens (cells_of image) (Some l) es → HasIt
        by [] is o = absurd o
        by (d ∷ ds) is o = record {
          first = d;
          rest = ds;
          is = is;
          at = o.0 ∙ leads_to form size state pool kept.of_pool kept.in_pool kept.pool_sound p table x v l
              found slot;
          tx = o.2 ∙ of_writer form size state pool kept.of_pool kept.in_pool kept.pool_sound p table x v
              l found slot;
          chain = o.3;
        }

    abbrev pub found_there : FindsNewest g kept.reading p table x has_it.first.version
    found_there = record {
      of = reached;
      newest = has_it.first;
      older = has_it.rest;
      first = has_it.is;
      at = has_it.at;
      version = refl;
    }

    pub dead_there : state (writer has_it.first) ≡ Dead
    dead_there = ap (λ t. state t.0) has_it.tx ∙ dead

    pub open_there : state (writer has_it.first) ≢ Committed
    open_there is = let both : Dead ≡ Committed = sym dead_there ∙ is in absurd cc

    pub settled_there : Each (λ e. state (writer e) ≡ Committed) has_it.rest
    settled_there = subst (EachBack (λ e. state (writer e) ≡ Committed)) has_it.is
        (kept.sound.records.each p table reached).backs

    pub living_there : living state (kept.reading p) ≡ has_it.rest
    living_there = ap (living state) has_it.is ∙ rw dead_there refl

    -- what lies behind in the pool lies behind it, wherever the slot leads
    pub rest_leads : (new : Cells) (cell : Option Cell) → Changes (cells_of image) new p cell → (m : Link)
        → v.back ≡ Some m → Chain new (Some m) has_it.rest
    rest_leads new cell turn m some = by found.older refl has_it.rest refl
      where
        chain_m : Chain (cells_of pool) (Some m) found.older
        chain_m = subst (λ (k : Option Link). Chain (cells_of pool) k found.older) some pool_behind

        front_rest : IsFront state found.older has_it.rest
        front_rest = subst (IsFront state found.older) living_there front

        by : (cs : List Entry) → found.older ≡ cs → (ds : List Entry) → has_it.rest ≡ ds
            → Chain new (Some m) has_it.rest
        by [] empty ds is = absurd (chain_opens (cells_of pool) (Some m) []
            (subst (Chain (cells_of pool) (Some m)) empty chain_m))
        by (c ∷ cs) older [] is = absurd (subst (IsFront state (c ∷ cs)) is
            (subst (λ (es : List Entry). IsFront state es has_it.rest) older front_rest))
        by (c ∷ cs) older (e ∷ es) is =
            subst (Chain new (Some m)) (sym is)
            (chain_from (cells_of image) new p cell turn off
            has_it.first.version.back m e es
            (subst (Chain (cells_of image) has_it.first.version.back) is has_it.chain)
            (sym like.at ∙ behind_.0) (ap (λ (w : Version). w.tx) like.version ∙ behind_.2))
          where
            like : IsLike c e
            like = (subst (IsFront state (c ∷ cs)) is
                (subst (λ (fs : List Entry). IsFront state fs has_it.rest) older front_rest)).0

            behind_ : Opens (cells_of pool) (Some m) (c ∷ cs)
            behind_ = chain_opens (cells_of pool) (Some m) (c ∷ cs)
                (subst (Chain (cells_of pool) (Some m)) older chain_m)

            off : (w : Version) → cells_of image p ≢ Some (cells.Version w)
            off w is_ = let both : Some (cells.Anchor l) ≡ Some (cells.Version w) =
                sym slot_there ∙ is_ in absurd cc

    -- and the record has the key that it has in the pool
    pub rest_key : (m : Link) → v.back ≡ Some m
        → record_key table (kept.in_pool p) ≡ record_key table (kept.reading p)
    rest_key m some = by found.older refl has_it.rest refl
      where
        chain_m : Chain (cells_of pool) (Some m) found.older
        chain_m = subst (λ (k : Option Link). Chain (cells_of pool) k found.older) some pool_behind

        front_rest : IsFront state found.older has_it.rest
        front_rest = subst (IsFront state found.older) living_there front

        by : (cs : List Entry) → found.older ≡ cs → (ds : List Entry) → has_it.rest ≡ ds
            → record_key table (kept.in_pool p) ≡ record_key table (kept.reading p)
        by [] empty ds is = absurd (chain_opens (cells_of pool) (Some m) []
            (subst (Chain (cells_of pool) (Some m)) empty chain_m))
        by (c ∷ cs) older [] is = absurd (subst (IsFront state (c ∷ cs)) is
            (subst (λ (es : List Entry). IsFront state es has_it.rest) older front_rest))
        by (c ∷ cs) older (e ∷ es) is = sym pool_key ∙ (ap (key_of table) like.row ∙ image_key)
          where
            like : IsLike c e
            like = (subst (IsFront state (c ∷ cs)) is
                (subst (λ (fs : List Entry). IsFront state fs has_it.rest) older front_rest)).0

            pool_key : key_of table c.row ≡ record_key table (kept.in_pool p)
            pool_key = (subst (Each (IsVersion form.coding f table (record_key table (kept.in_pool p))))
                (found.first ∙ ap (λ (fs : List Entry). found.newest ∷ fs) older)
                (kept.pool_sound.records.each p table found.of).each).1.0.keyed

            image_key : key_of table e.row ≡ record_key table (kept.reading p)
            image_key = (subst (Each (IsVersion form.coding g table (record_key table (kept.reading p))))
                (has_it.is ∙ ap (λ (fs : List Entry). has_it.first ∷ fs) is)
                (kept.sound.records.each p table reached).each).1.0.keyed

    -- where nothing lies behind in the pool, the record shows nothing: its older versions may go
    pub goes_quietly : v.back ≡ None → (es : List Entry) → living state es ≡ []
        → GoesQuietly g (kept.reading p) es
    goes_quietly nothing es gone = record {
      gone = gone;
      hidden = overlay_shows_none form one none size o h state pool image of_pool kept p table reached
          (pool_hidden nothing);
      settled = subst (Each (λ e. state (writer e) ≡ Committed)) (sym living_there) settled_there;
    }
