-- A record is gone from the pool: what an overlay has of it shows nothing.
use Rattle.mg_base.specs.declared.numbers.RecId.{RecId}
use Rattle.mg_base.specs.declared.transaction.TxState.{TxState}
use Rattle.mg_base.specs.declared.transaction.TxState.TheVariants.{Active, Committed, Dead, Limbo}
use Rattle.mg_image.specs.FactLaws.{shown_keyed}
use Rattle.mg_image.specs.Form.{Coding, Row}
use Rattle.mg_image.specs.Held.{Database, HasTable, IsHeld, IsHeldAt, told_row}
use Rattle.mg_image.specs.RecordRules.{AreRecords, Facts, committed_in, table_in}
use Rattle.mg_image.specs.Records.{Cells, Reading, key_of, record_key, shown, writer}
use Rattle.mg_image.specs.declared.entry.Entry.{Entry}
use Rattle.mg_image_overlay_laws.specs.records.Fronts.{HasFronts, IsFront, IsThin, is_dead, living}
use Rattle.mg_model.specs.Answers.{is_committed}
use Rattle.mg_model.specs.declared.table.Table.{Table}
use Rattle.mg_version.specs.declared.cell.Version.{Version}
use Rattle.std.proofs.Common.{Bool, List, None, Option, Some, [], ap, false, inl, inr, refl, sym, true, ℕ, ◌∙◌, ◌∷◌, ◌≡◌, ◌⊎◌}
use Rattle.std.specs.Prelude.{if◌then◌else◌}

-- an overlay's tables are tables of the pool
pub record HasTablesOf (f g : Facts) : Type 0 where
  pub tables : (p : RecId) (table : Table) → table_in g p ≡ Some table → table_in f p ≡ Some table
  pub names : (p q : RecId) (a b : Table) → table_in f p ≡ Some a → table_in f q ≡ Some b
      → a.name ≡ b.name → a ≡ b

-- a dead newest version shows nothing
living_shown : (f : Facts) (es : List Entry)
    → shown (committed_in f) (living f.state es) ≡ shown (committed_in f) es
living_shown f [] = refl
living_shown f (e ∷ es) = by (f.state (writer e)) refl
  where
    by : (s : TxState) → f.state (writer e) ≡ s
        → shown (committed_in f) (living f.state (e ∷ es)) ≡ shown (committed_in f) (e ∷ es)
    by Active is = ap (λ (b : Bool). shown (committed_in f) (if b then es else e ∷ es)) (ap is_dead is)
    by Limbo is = ap (λ (b : Bool). shown (committed_in f) (if b then es else e ∷ es)) (ap is_dead is)
    by Committed is =
        ap (λ (b : Bool). shown (committed_in f) (if b then es else e ∷ es)) (ap is_dead is)
    by Dead is =
        let off : committed_in f (writer e) ≡ false = ap is_committed is in
        let dropped : shown (committed_in f) (e ∷ es) ≡ shown (committed_in f) es = rw off refl in
        ap (λ (b : Bool). shown (committed_in f) (if b then es else e ∷ es)) (ap is_dead is)
        ∙ sym dropped

-- what a front shows, the whole does
front_shows : (f g : Facts) (ds es : List Entry) (row : Row) → ((t : ℕ) → g.state t ≡ f.state t)
    → IsFront f.state ds es → shown (committed_in f) ds ≡ Some row → shown (committed_in g) es ≡ Some row
front_shows f g [] es row states front is = absurd cc
front_shows f g (d ∷ ds) [] row states front is = absurd front
front_shows f g (d ∷ ds) (e ∷ es) row states front is =
    by (front_shows f g ds es row states) (committed_in f (writer d)) refl d.version.deleted refl front.1 is
  where
    counts : committed_in g (writer e) ≡ committed_in f (writer d)
    counts = ap is_committed (states (writer e)
        ∙ ap (λ (w : Version). f.state w.tx.0) front.0.version)

    deleted : e.version.deleted ≡ d.version.deleted
    deleted = ap (λ (w : Version). w.deleted) front.0.version

    by : (IsFront f.state ds es → shown (committed_in f) ds ≡ Some row → shown (committed_in g) es ≡ Some row)
        → (b : Bool) → committed_in f (writer d) ≡ b → (gone : Bool) → d.version.deleted ≡ gone
        → IsFront f.state ds es ⊎ ((f.state (writer d) ≡ Committed) × IsThin ds es)
        → (if b then (if gone then None else Some d.row) else shown (committed_in f) ds) ≡ Some row
        → shown (committed_in g) (e ∷ es) ≡ Some row
    by rest true b_is true gone older is = absurd cc
    by rest true b_is false gone older is =
        let c : committed_in g (writer e) ≡ true = counts ∙ b_is in
        let alive : e.version.deleted ≡ false = deleted ∙ gone in
        rw (c, alive) (ap Some (sym front.0.row) ∙ is)
    by rest false b_is gone gone_is (inl older) is =
        let c : committed_in g (writer e) ≡ false = counts ∙ b_is in
        rw c (rest older is)
    by rest false b_is gone gone_is (inr older) is =
        let both : true ≡ false = sym (ap is_committed older.0) ∙ b_is in absurd cc

module _ (coding : Coding) (f g : Facts) (pool image : Cells) (r s : Reading) (db : Database)
    (in_image : AreRecords coding g image s) (fronts : HasFronts f g r s)
    (in_tables : HasTablesOf f g) (of_pool : IsHeld f (committed_in f) r db)
    (of_image : IsHeld g (committed_in g) s db) where
  -- what the pool shows, the overlay does
  pub shown_there : (q : RecId) (row : Row) → shown (committed_in f) (r q) ≡ Some row
      → shown (committed_in g) (s q) ≡ Some row
  shown_there q row is = sym (living_shown g (s q))
      ∙ front_shows f g (living f.state (r q)) (living g.state (s q)) row fronts.state
      (fronts.fronts q) (living_shown f (r q) ∙ is)

  -- where the pool shows no row of a record, the overlay shows none
  pub gone_shows_none : (p : RecId) (table : Table) → table_in g p ≡ Some table
      → HasTable db table.name → shown (committed_in f) (r p) ≡ None
      → shown (committed_in g) (s p) ≡ None
  gone_shows_none p table of has none = by (shown (committed_in g) (s p)) refl
    where
      by : (x : Option Row) → shown (committed_in g) (s p) ≡ x → x ≡ None
      by None is = refl
      by (Some row) is = absurd (at (of_pool.whole table.name (key_of table row) _
          (of_image.there p table row (record { of_table = of; row_shown = is }) has)))
        where
          at : IsHeldAt f (committed_in f) r table.name (key_of table row) (told_row table row) → ⊥
          at it = by_table (table_in g it.place) refl
            where
              also : shown (committed_in g) (s it.place) ≡ Some it.stored
              also = shown_there it.place it.stored it.shows.row_shown

              by_table : (t : Option Table) → table_in g it.place ≡ t → ⊥
              by_table None out =
                  let empty = ap (shown (committed_in g)) (sym (in_image.outside it.place out)) ∙ also in
                  absurd cc
              by_table (Some other) of_it =
                  let same_it : it.table ≡ other = in_tables.names it.place it.place it.table other
                  it.shows.of_table (in_tables.tables it.place other of_it)
                  (both_names it.table other it.shows.of_table (in_tables.tables it.place other of_it)) in
                  let same : other ≡ table = in_tables.names it.place p other table
                  (in_tables.tables it.place other of_it) (in_tables.tables p table of)
                  (ap (λ (t : Table). t.name) (sym same_it) ∙ it.named) in
                  let one : it.place ≡ p = in_image.keys it.place p table
                  (of_it ∙ ap Some same) of (inl (it.stored, also)) (inl (row, is))
                  (sym (key_there it.place table it.stored (of_it ∙ ap Some same) also)
                  ∙ (ap (λ (t : Table). key_of t it.stored) (sym (same_it ∙ same))
                  ∙ (it.keyed ∙ key_there p table row of is))) in
                  let both : Some it.stored ≡ None =
                  sym it.shows.row_shown ∙ (ap (λ (q : RecId). shown (committed_in f) (r q)) one ∙ none) in
                  absurd cc
                where
                  both_names : (a b : Table) → table_in f it.place ≡ Some a
                      → table_in f it.place ≡ Some b → a.name ≡ b.name
                  both_names a b is_a is_b =
                      let both : Some a ≡ Some b = sym is_a ∙ is_b in
                      let same : a ≡ b = cc in ap (λ (t : Table). t.name) same

                  key_there : (q : RecId) (t : Table) (x : Row) → table_in g q ≡ Some t
                      → shown (committed_in g) (s q) ≡ Some x → key_of t x ≡ record_key t (s q)
                  key_there q t x of_q shows = shown_keyed coding g t (record_key t (s q))
                      (committed_in g) (s q) x (in_image.each q t of_q).each shows
