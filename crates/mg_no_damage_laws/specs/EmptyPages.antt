-- Empty data pages of a table: while there is one, a row that is put gets no new page, and at most two of them are no
-- longer empty then.
use Rattle.std.proofs.Common.{◌≡◌, ◌≢◌, ◌∙◌, inl, inr, ◌≤◌, ◌<◌, ◌+◌, ◌-◌, ◌==◌, ℕ, suc, Bool, true, false, List, [], ◌∷◌, None, Some, length, refl, sym, ap, subst, arith}
use Rattle.std.specs.Prelude.{if◌then◌else◌, slice_index}
use Rattle.std.proofs.lemmas.Bool.{eqb-false, eqb-true, ne_eqb}
use Rattle.mg_base.specs.Image.{Image}
use Rattle.mg_base.specs.declared.numbers.PageNo.{PageNo}
use Rattle.mg_base.specs.declared.numbers.RecId.{RecId}
use Rattle.mg_chain.specs.Writing.{MakesRecord, leading_to, link_to}
use Rattle.mg_heap.specs.Apart.{PutsApart, need_with_anchor}
use Rattle.mg_heap.specs.Room.{FindsOrGrows, GivesRoom, IsFirstWithRoom, NoneHasRoom, looked_at}
use Rattle.mg_heap.specs.Table.{IsPointerAt, IsTable}
use Rattle.mg_heap.specs.TableLaws.{table_once}
use Rattle.mg_image.specs.Form.{Pages, Row}
use Rattle.mg_image.specs.Sound.{IsCellOf, IsTablePointer}
use Rattle.mg_image.specs.Tables.{EachFrom, Has, IsOnce, Stand}
use Rattle.mg_model.specs.declared.table.Table.{Table}
use Rattle.mg_pool.specs.Batch.{Changed}
use Rattle.mg_pool.specs.declared.pool.Pool.{Pool}
use Rattle.mg_slots.specs.Room.{room_of}
use Rattle.mg_space.specs.View.{viewed}
use Rattle.mg_space.specs.declared.links.FireLinks.{FireLinks}
use Rattle.mg_table_batch.specs.Filling.{PutsRow}
use Rattle.mg_tie_laws.specs.Batches.{viewed_same}
use Rattle.mg_tie_laws.specs.GivenTies.{has_at, looked_within}
use Rattle.mg_version.specs.declared.cell.Cell.TheVariants as cells
use Rattle.mg_version.specs.declared.cell.TheConstants.{ANCHOR_LEN}
use Rattle.mg_version.specs.declared.cell.Version.{Version}
use Rattle.mg_no_damage_laws.specs.PushLaws.{version_fits}
use Rattle.mg_no_damage_laws.specs.WriteStanding.{IsStanding, put_standing, set_standing}

-- A table that begins at a page stands, and so many of its data pages are empty: such a page has room for all but its
-- front and a slot.
pub record HasEmpty (size : ℕ) (pages : Pages) (owner left : ℕ) : Type 0 where
  pub stand : Stand
  pub begins : stand.table.pointer.0 ≡ owner
  pub standing : IsStanding size pages stand
  pub free : List ℕ
  pub many : left ≤ length free
  pub once : IsOnce free
  pub listed : (k : ℕ) → Has free k → Has stand.data_pages k
  pub empty : (k : ℕ) → Has free k → size ≤ room_of (pages k) + 24

-- ---- numbers in lists

has_index : (ns : List ℕ) (n : ℕ) → Has ns n → (k : ℕ) × (k < length ns) × (slice_index ns k ≡ n)
has_index [] n there = absurd there
has_index (m ∷ ms) n (inl same) = (0, (omega arith), sym same)
has_index (m ∷ ms) n (inr more) =
    let it = has_index ms n more in (suc it.0, (let inside = it.1 in omega (arith, inside)), it.2)

first_of : (ns : List ℕ) → 1 ≤ length ns → (k : ℕ) × Has ns k
first_of [] some = absurd (omega (arith, some))
first_of (n ∷ ns) some = (n, inl refl)

-- a list without a number
abbrev without : ℕ → List ℕ → List ℕ
without n [] = []
without n (m ∷ ms) = if m == n then without n ms else m ∷ without n ms

without_has : (n : ℕ) (ns : List ℕ) (k : ℕ) → Has (without n ns) k → Has ns k × (k ≢ n)
without_has n [] k there = absurd there
without_has n (m ∷ ms) k there = by (m == n) refl there (without_has n ms k)
  where
    by : (b : Bool) → (m == n) ≡ b → Has (if b then without n ms else m ∷ without n ms) k
        → (Has (without n ms) k → Has ms k × (k ≢ n)) → Has (m ∷ ms) k × (k ≢ n)
    by true is more further = let it = further more in (inr it.0, it.1)
    by false is (inl same) further = (inl same, λ e. eqb-false m n is (sym same ∙ e))
    by false is (inr more) further = let it = further more in (inr it.0, it.1)

without_once : (n : ℕ) (ns : List ℕ) → IsOnce ns → IsOnce (without n ns)
without_once n [] once = tt
without_once n (m ∷ ms) once = by (m == n) (without_once n ms once.1)
  where
    by : (b : Bool) → IsOnce (without n ms) → IsOnce (if b then without n ms else m ∷ without n ms)
    by true rest = rest
    by false rest = ((λ there. once.0 (without_has n ms m there).0), rest)

-- a number that is not there takes nothing away, and one that is there once takes one away
without_none : (n : ℕ) (ns : List ℕ) → (Has ns n → ⊥) → length (without n ns) ≡ length ns
without_none n [] none = refl
without_none n (m ∷ ms) none =
    let e : (m == n) ≡ false = ne_eqb m n (λ same. none (inl (sym same))) in
    let rest = without_none n ms (λ there. none (inr there)) in rw e (omega (arith, rest))

without_count : (n : ℕ) (ns : List ℕ) → IsOnce ns → length ns ≤ length (without n ns) + 1
without_count n [] once = omega arith
without_count n (m ∷ ms) once = by (m == n) refl (without_count n ms once.1)
  where
    by : (b : Bool) → (m == n) ≡ b → length ms ≤ length (without n ms) + 1
        → suc (length ms) ≤ length (if b then without n ms else m ∷ without n ms) + 1
    by true is rest =
        let none = without_none n ms (λ there. once.0 (subst (Has ms) (sym (eqb-true m n is)) there)) in
        omega (arith, none)
    by false is rest = omega (arith, rest)

-- ---- a page with room is there

-- the pointer pages of a table are such at their places
each_fields : (size : ℕ) (pages : Pages) (owner at : ℕ) (ns : List ℕ) → EachFrom (IsTablePointer size pages owner) at ns
    → EachFrom (IsPointerAt pages owner) at ns
each_fields size pages owner at [] each = tt
each_fields size pages owner at (n ∷ ns) each = (each.0.fields, each_fields size pages owner (suc at) ns each.1)

module _ {D : Type 0} (store : Pool D FireLinks) (image : Image) (catalog : Table)
    (least : 1024 ≤ store.geometry.size) where
  abbrev size : ℕ
  size = store.geometry.size

  abbrev view : Changed → Pages
  view b = viewed store image b

  module _ (batch : Changed) (left : ℕ) (it : HasEmpty size (view batch) catalog.pointer.0 left)
      (some : 1 ≤ left) where
    abbrev pages : List ℕ
    pages = it.stand.data_pages

    stand_table : IsTable (view batch) catalog.pointer.0 it.stand.pointers pages
    stand_table = subst (λ (k : ℕ). IsTable (view batch) k it.stand.pointers pages) it.begins (record {
      chain = it.standing.has.chain;
      tested = each_fields size (view batch) it.stand.table.pointer.0 0 it.stand.pointers it.standing.has.pointers;
      entries = it.standing.has.entries;
    })

    none_without : (need : ℕ) → need + 24 ≤ size → NoneHasRoom (view batch) pages need → ⊥
    none_without need fits none =
        let k = first_of it.free (let many = it.many in omega (arith, many, some)) in
        let at = has_index pages k.0 (it.listed k.0 k.1) in
        let small : room_of (view batch k.0) < need =
        subst (λ (n : ℕ). room_of (view batch n) < need) at.2 (none at.0 at.1) in
        let room = it.empty k.0 k.1 in omega (arith, small, room, fits)

    -- so the table gets none for a cell that is no longer than an empty page
    found : (given : Changed) (need : ℕ) (page : PageNo)
        → GivesRoom store image batch given catalog.pointer.0 need page → need + 24 ≤ size
        → (given ≡ batch) × Has pages page.0
    found given need page gives fits = by gives.found
      where
        same : gives.data_pages ≡ pages
        same = table_once (view batch) catalog.pointer.0 gives.pointers gives.data_pages it.stand.pointers pages
            gives.table stand_table

        there : IsFirstWithRoom (view batch) gives.data_pages need gives.it → Has pages page.0
        there first = subst (λ (n : PageNo). Has pages n.0) gives.page_is
            (subst (λ (ns : List ℕ). Has ns gives.it.page.0) same
            (subst (Has gives.data_pages) (sym first.page_is)
            (has_at gives.data_pages (looked_at first.after (length gives.data_pages))
            (looked_within first.after (length gives.data_pages) first.inside))))

        by : FindsOrGrows store image batch given catalog.pointer.0 gives.pointers gives.data_pages need gives.it
            → (given ≡ batch) × Has pages page.0
        by (inl (was, first)) = (was, there first)
        by (inr (none, grows)) =
            absurd (none_without need fits (subst (λ (ns : List ℕ). NoneHasRoom (view batch) ns need) same none))

    -- ---- a record is made

    module _ (new : Changed) (rec : RecId) (v : Version) (body : length v.body ≤ 216) (slot_has : Has pages rec.page.0)
        (makes : MakesRecord store image batch new catalog.pointer.0 rec v) where
      abbrev at : RecId
      at = makes.makes.at

      abbrev bytes : List ℕ
      bytes = makes.bytes

      abbrev put : Changed
      put = makes.makes.put

      abbrev turned : Changed
      turned = makes.makes.turned

      cell_found : (makes.makes.adds.given ≡ batch) × Has pages at.page.0
      cell_found = found makes.makes.adds.given (need_with_anchor bytes) at.page makes.makes.adds.gives
          (let fits = version_fits 258 (leading_to v None) (omega (arith, body)) (omega arith) bytes makes.spells in
          omega (arith, fits, least))

      puts : PutsApart (view batch) (view put) rec at bytes
      puts = subst (λ (b : Changed). PutsApart (view b) (view put) rec at bytes) cell_found.0 makes.makes.adds.puts

      -- the table stands
      put_stands : IsStanding size (view put) it.stand
      put_stands = set_standing size (view batch) it.stand it.standing (view put) at (Some bytes) cell_found.1 puts.sets
          puts.others (λ other is. by other is)
        where
          by : (other : List ℕ) → Some bytes ≡ Some other → IsCellOf false other
          by other is =
              let same : bytes ≡ other = cc in
              subst (IsCellOf false) same (inl (cells.Version (leading_to v None), makes.spells))

      turned_stands : IsStanding size (view turned) it.stand
      turned_stands = put_standing size (view put) it.stand put_stands (view turned) rec makes.makes.turns.bytes
          slot_has makes.makes.turns.puts.puts (inl (cells.Anchor (link_to at v.tx), makes.makes.turns.spells))

      view_is : view new ≡ view turned
      view_is = viewed_same store image turned new makes.makes.ordered.same_pages

      -- the pages that were empty are so still, but for the two that have changed
      still_empty : (k : ℕ) → Has it.free k → k ≢ at.page.0 → k ≢ rec.page.0 → size ≤ room_of (view new k) + 24
      still_empty k there off_cell off_slot = subst (λ (b : List ℕ). size ≤ room_of b + 24)
          (sym (ap (λ (ps : Pages). ps k) view_is ∙ (makes.makes.turns.puts.puts.others k off_slot
          ∙ puts.others k off_cell))) (it.empty k there)

      abbrev free_now : List ℕ
      free_now = without rec.page.0 (without at.page.0 it.free)

      was_free : (k : ℕ) → Has free_now k → Has it.free k × (k ≢ at.page.0) × (k ≢ rec.page.0)
      was_free k there =
          let outer = without_has rec.page.0 (without at.page.0 it.free) k there in
          let inner = without_has at.page.0 it.free k outer.0 in (inner.0, inner.1, outer.1)

      made_on : HasEmpty size (view new) catalog.pointer.0 (left - 2)
      made_on = record {
        stand = it.stand;
        begins = it.begins;
        standing = subst (λ (ps : Pages). IsStanding size ps it.stand) (sym view_is) turned_stands;
        free = free_now;
        many =
            let one_less = without_count at.page.0 it.free it.once in
            let two_less = without_count rec.page.0 (without at.page.0 it.free)
            (without_once at.page.0 it.free it.once) in
            let many = it.many in omega (arith, one_less, two_less, many);
        once = without_once rec.page.0 (without at.page.0 it.free) (without_once at.page.0 it.free it.once);
        listed = λ k there. it.listed k (was_free k there).0;
        empty = λ k there.
            let was = was_free k there in still_empty k was.0 was.1 was.2;
      }

    -- ---- a row of the catalog is put

    module _ (t : ℕ) (new : Changed) (row : Row) (rec : RecId)
        (of : PutsRow store image catalog t batch new row rec) (body : length of.version.body ≤ 216) where
      place_found : (of.given ≡ batch) × Has pages rec.page.0
      place_found = found of.given ANCHOR_LEN rec.page of.spot.gives (omega (arith, least))

      -- its place is on a page that is there: the record is made over the batch as it was
      pub row_makes : MakesRecord store image batch new catalog.pointer.0 rec of.version
      row_makes = subst (λ (b : Changed). MakesRecord store image b new catalog.pointer.0 rec of.version) place_found.0
          of.makes

      -- so is its version
      pub row_cell : row_makes.makes.adds.given ≡ batch
      row_cell = (cell_found new rec of.version body place_found.1 row_makes).0

      -- and two pages at most are no longer empty
      pub row_on : HasEmpty size (view new) catalog.pointer.0 (left - 2)
      row_on = made_on new rec of.version body place_found.1 row_makes
