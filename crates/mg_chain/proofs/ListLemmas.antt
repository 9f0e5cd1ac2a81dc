-- The writing calls as operations on lists.
use Rattle.std.proofs.Common.{◌≡◌, ◌≢◌, ◌⊎◌, ◌∙◌, inl, inr, ℕ, true, false, List, [], ◌∷◌, Option, None, Some, refl, sym, ap, subst}
use Rattle.std.specs.Prelude.{is_some}
use Rattle.mg_base.specs.declared.numbers.RecId.{RecId}
use Rattle.mg_image.specs.Form.{Pages}
use Rattle.mg_image.specs.Records.{Cells, Chain, Changes, Stands, cells_of, ended, goes, newest_of, slot_cell}
use Rattle.mg_image.specs.StepLaws.{cases_place, chain_stays, same_place}
use Rattle.mg_image.specs.declared.entry.Entry.{Entry}
use Rattle.mg_slots.specs.DataPage.{cell_of}
use Rattle.mg_version.specs.declared.cell.Cell.{Cell}
use Rattle.mg_version.specs.declared.cell.Cell.TheVariants as cells
use Rattle.mg_version.specs.declared.cell.Link.{Link}
use Rattle.mg_version.specs.declared.cell.Version.{Version}
use Rattle.std.proofs.lemmas.Bool.{cases_eq}
use Rattle.mg_chain.specs.Lists.{FreesSlot, MakesLists, MovesLists, OverwritesLists, PushesLists, PutsEntry, PutsSpelled, Reads, TakesOutLists, slot_cell_to}
use Rattle.mg_chain.specs.Writing.{link_to}
use Rattle.mg_chain.proofs.Reading.{spelled_is}

-- ---- one cell

-- a slot on the page of a place that is not the place is another slot
other_slot : (y at : RecId) → y ≢ at → y.page.0 ≡ at.page.0 → y.slot ≢ at.slot
other_slot y at ne on same = ne (λ i. record { page = record { 0 = on i }; slot = same i })

others_as : (old new : Pages) (at : RecId)
    → ((slot : ℕ) → slot ≢ at.slot → cell_of (new at.page.0) slot ≡ cell_of (old at.page.0) slot)
    → ((n : ℕ) → n ≢ at.page.0 → new n ≡ old n)
    → (y : RecId) → y ≢ at → cells_of new y ≡ cells_of old y
others_as old new at slots pages y ne = by (cases_eq y.page.0 at.page.0)
  where
    by : (y.page.0 ≡ at.page.0) ⊎ (y.page.0 ≢ at.page.0) → cells_of new y ≡ cells_of old y
    by (inl on) = ap (λ (n : ℕ). slot_cell (cell_of (new n) y.slot)) on
        ∙ (ap slot_cell (slots y.slot (other_slot y at ne on))
        ∙ ap (λ (n : ℕ). slot_cell (cell_of (old n) y.slot)) (sym on))
    by (inr off) = ap (λ (b : List ℕ). slot_cell (cell_of b y.slot)) (pages y.page.0 off)

pub puts_spelled : PutsSpelled
puts_spelled old new at bytes cell puts spells = record {
  here = ap slot_cell puts.puts.sets.here ∙ ap (λ (c : Cell). Some c) (sym (spelled_is bytes cell spells));
  others = others_as old new at puts.puts.sets.others puts.others;
}

pub frees_slot : FreesSlot
frees_slot old new at frees = by (cell_of (old at.page.0) at.slot) refl
  where
    by : (found : Option (List ℕ)) → cell_of (old at.page.0) at.slot ≡ found
        → Changes (cells_of old) (cells_of new) at None
    by None none = record {
      here = ap (λ (b : List ℕ). slot_cell (cell_of b at.slot)) (frees.unused none) ∙ ap slot_cell none;
      others = others_as old new at
          (λ slot ne. ap (λ (b : List ℕ). cell_of b slot) (frees.unused none)) frees.others;
    }
    by (Some bytes) some =
        let freed = frees.used (ap (λ (o : Option (List ℕ)). is_some o) some) in record {
          here = ap slot_cell freed.sets.here;
          others = others_as old new at freed.sets.others frees.others;
        }

-- ---- chains

stands_at : (h : Cells) (l : Option Link) (es : List Entry) (y : RecId) → Chain h l es
    → Stands es y → (w : Version) × (h y ≡ Some (cells.Version w))
stands_at h l es y ended there = absurd there
stands_at h l es y (goes m e fs at is tx more) (inl same) = (e.version, ap h (sym same) ∙ is)
stands_at h l es y (goes m e fs at is tx more) (inr there) =
    stands_at h e.version.back fs y more there

-- no chain reads a cell that is free, or an anchor
off_free : (h : Cells) (l : Option Link) (es : List Entry) (y : RecId) → h y ≡ None → Chain h l es
    → Stands es y → ⊥
off_free h l es y free chain there = at (stands_at h l es y chain there)
  where
    at : (w : Version) × (h y ≡ Some (cells.Version w)) → ⊥
    at (w, is) = let both : None ≡ Some (cells.Version w) = sym free ∙ is in absurd cc

off_anchor : (h : Cells) (l : Option Link) (es : List Entry) (y : RecId) (m : Link)
    → h y ≡ Some (cells.Anchor m) → Chain h l es → Stands es y → ⊥
off_anchor h l es y m slot chain there = at (stands_at h l es y chain there)
  where
    at : (w : Version) × (h y ≡ Some (cells.Version w)) → ⊥
    at (w, is) = let both : Some (cells.Anchor m) ≡ Some (cells.Version w) = sym slot ∙ is in absurd cc

begins_none : (q : RecId) (v : Version) → v.primary ≡ false → newest_of q (Some (cells.Version v)) ≡ None
begins_none q v apart = rw apart refl

nothing : (h : Cells) (l : Option Link) (es : List Entry) → Chain h l es → l ≡ None → es ≡ []
nothing h l es ended none = refl
nothing h l es (goes m e fs at is tx more) none =
    let both : Some m ≡ None = none in absurd cc

-- what another record reads, where one cell is changed that it does not read
module _ (old new : Cells) (x : RecId) (cell : Option Cell) (change : Changes old new x cell) where
  stays : (l : Option Link) (es : List Entry) → Chain old l es → (Stands es x → ⊥) → Chain new l es
  stays l es chain out = chain_stays old new x cell change l es chain out

  stays_at : (q : RecId) (es : List Entry) → q ≢ x → Reads old q es → (Stands es x → ⊥) → Reads new q es
  stays_at q es ne chain out = subst (λ (c : Option Cell). Chain new (newest_of q c) es)
      (sym (change.others q ne)) (stays (newest_of q (old q)) es chain out)

  -- a record that begins with nothing before and after has no version
  stays_none : (q : RecId) (es : List Entry) → newest_of q (old q) ≡ None → newest_of q (new q) ≡ None
      → Reads old q es → Reads new q es
  stays_none q es none none_now chain =
      let empty : es ≡ [] = nothing old (newest_of q (old q)) es chain none in
      subst (λ (fs : List Entry). Reads new q fs) (sym empty)
      (subst (λ (l : Option Link). Chain new l []) (sym none_now) ended)

-- a version that is put changes no record
put_keeps : (old new : Cells) (e : Entry) → PutsEntry old new e → (q : RecId) (es : List Entry)
    → Reads old q es → Reads new q es
put_keeps old new e puts q es chain = at (cases_place q e.at)
  where
    at : ((q ≡ e.at) × (same_place q e.at ≡ true)) ⊎ ((q ≢ e.at) × (same_place q e.at ≡ false)) → Reads new q es
    at (inl (same, yes_)) = stays_none old new e.at (Some (cells.Version e.version)) puts.put q es
        (ap (λ (y : RecId). newest_of q (old y)) same ∙ ap (newest_of q) puts.free)
        (ap (λ (y : RecId). newest_of q (new y)) same
        ∙ (ap (newest_of q) puts.put.here ∙ begins_none q e.version puts.apart)) chain
    at (inr (ne, no_)) = stays_at old new e.at (Some (cells.Version e.version)) puts.put q es ne chain
        (off_free old (newest_of q (old q)) es e.at puts.free chain)

-- ---- the laws

-- the slot leads to the version that was put, and that to what it leads to
module _ (mid new : Cells) (p : RecId) (e : Entry)
    (cell : mid e.at ≡ Some (cells.Version e.version)) (ne : e.at ≢ p)
    (turn : Changes mid new p (Some (cells.Anchor (link_to e.at e.version.tx)))) where
  leads_on : (es : List Entry) → Chain mid e.version.back es → (Stands es p → ⊥) → Reads new p (e ∷ es)
  leads_on es behind out = subst (λ (c : Option Cell). Chain new (newest_of p c) (e ∷ es)) (sym turn.here)
      (goes (link_to e.at e.version.tx) e es refl (turn.others e.at ne ∙ cell) refl
      (chain_stays mid new p (Some (cells.Anchor (link_to e.at e.version.tx))) turn e.version.back es
      behind out))

pub makes_lists : MakesLists
makes_lists old mid new p e makes = record {
  its = leads_on mid new p e makes.puts.put.here apart makes.turn []
      (subst (λ (l : Option Link). Chain mid l []) (sym makes.back) ended) (λ none. none);
  others = λ q es ne chain.
      let kept : Reads mid q es = put_keeps old mid e makes.puts q es chain in
      stays_at mid new p (Some (cells.Anchor (link_to e.at e.version.tx))) makes.turn q es ne kept
      (off_free mid (newest_of q (mid q)) es p makes.blank kept);
}
  where
    apart : e.at ≢ p
    apart same =
        let both : Some (cells.Version e.version) ≡ None =
        sym makes.puts.put.here ∙ (ap mid same ∙ makes.blank) in absurd cc

pub pushes_lists : PushesLists
pushes_lists old mid new p l e pushes = record {
  its = λ es chain.
      let before : Chain old (Some l) es =
      subst (λ (c : Option Cell). Chain old (newest_of p c) es) pushes.slot chain in
      let kept : Chain mid (Some l) es = chain_stays old mid e.at (Some (cells.Version e.version))
      pushes.puts.put (Some l) es before (off_free old (Some l) es e.at pushes.puts.free before) in
      leads_on mid new p e pushes.puts.put.here apart pushes.turn es
      (subst (λ (k : Option Link). Chain mid k es) (sym pushes.back) kept)
      (off_anchor mid (Some l) es p l slot kept);
  others = λ q es ne chain.
      let kept : Reads mid q es = put_keeps old mid e pushes.puts q es chain in
      stays_at mid new p (Some (cells.Anchor (link_to e.at e.version.tx))) pushes.turn q es ne kept
      (off_anchor mid (newest_of q (mid q)) es p l slot kept);
}
  where
    apart : e.at ≢ p
    apart same =
        let both : None ≡ Some (cells.Anchor l) =
        sym pushes.puts.free ∙ (ap old same ∙ pushes.slot) in absurd cc

    slot : mid p ≡ Some (cells.Anchor l)
    slot = pushes.puts.put.others p (λ same. apart (sym same)) ∙ pushes.slot

-- the versions behind the newest one
opens_to : (h : Cells) (l : Link) (v : Version) (d : Entry) (es : List Entry)
    → h l.rec ≡ Some (cells.Version v) → Chain h (Some l) (d ∷ es) → Chain h v.back es
opens_to h l v d es was (goes m e fs at is tx more) =
    let both : Some (cells.Version e.version) ≡ Some (cells.Version v) =
    sym is ∙ (ap h at ∙ was) in
    let same : e.version ≡ v = one e.version v both in
    subst (λ (w : Version). Chain h w.back fs) same more
  where
    one : (a b : Version) → Some (cells.Version a) ≡ Some (cells.Version b) → a ≡ b
    one a b same = cc

begins_elsewhere : (h : Cells) (q x : RecId) (v : Version) → h x ≡ Some (cells.Version v)
    → v.primary ≡ false → q ≡ x → newest_of q (h q) ≡ None
begins_elsewhere h q x v was apart same =
    ap (λ (y : RecId). newest_of q (h y)) same ∙ (ap (newest_of q) was ∙ begins_none q v apart)

pub overwrites_lists : OverwritesLists
overwrites_lists old new p l v e over = record {
  its = λ d es out chain.
      let before : Chain old (Some l) (d ∷ es) =
      subst (λ (c : Option Cell). Chain old (newest_of p c) (d ∷ es)) over.slot chain in
      let behind : Chain old v.back es = opens_to old l v d es over.was before in
      subst (λ (c : Option Cell). Chain new (newest_of p c) (e ∷ es))
      (sym (over.put.others p (λ same. apart (sym same)) ∙ over.slot))
      (goes l e es over.at over.put.here over.tx
      (subst (λ (k : Option Link). Chain new k es) (sym over.back)
      (chain_stays old new e.at (Some (cells.Version e.version)) over.put v.back es behind
      (λ there. out (subst (Stands es) over.at there)))));
  others = λ q es ne out chain. by q es out chain (cases_place q e.at);
}
  where
    apart : e.at ≢ p
    apart same =
        let both : Some (cells.Version v) ≡ Some (cells.Anchor l) =
        sym over.was ∙ (ap old (sym over.at ∙ same) ∙ over.slot) in absurd cc

    by : (q : RecId) (es : List Entry) → (Stands es l.rec → ⊥) → Reads old q es
        → ((q ≡ e.at) × (same_place q e.at ≡ true)) ⊎ ((q ≢ e.at) × (same_place q e.at ≡ false)) → Reads new q es
    by q es out chain (inl (same, yes_)) = stays_none old new e.at (Some (cells.Version e.version)) over.put
        q es (begins_elsewhere old q l.rec v over.was over.was_apart (same ∙ over.at))
        (begins_elsewhere new q e.at e.version over.put.here over.apart same) chain
    by q es out chain (inr (ne, no_)) = stays_at old new e.at (Some (cells.Version e.version)) over.put q es
        ne chain (λ there. out (subst (Stands es) over.at there))

pub takes_out_lists : TakesOutLists
takes_out_lists old mid new p l v takes = record {
  its = λ d es out chain.
      let before : Chain old (Some l) (d ∷ es) =
      subst (λ (c : Option Cell). Chain old (newest_of p c) (d ∷ es)) takes.slot chain in
      let behind : Chain old v.back es = opens_to old l v d es takes.was before in
      let turned : Chain mid v.back es = chain_stays old mid p (slot_cell_to v.back) takes.turn v.back es
      behind (off_anchor old v.back es p l takes.slot behind) in
      let freed : Chain new v.back es = chain_stays mid new l.rec None takes.freed v.back es turned out in
      subst (λ (k : Option Link). Chain new k es) (sym (leads v.back
      (takes.freed.others p (λ same. apart (sym same)) ∙ takes.turn.here))) freed;
  others = λ q es ne out chain.
      let turned : Reads mid q es = stays_at old mid p (slot_cell_to v.back) takes.turn q es ne chain
      (off_anchor old (newest_of q (old q)) es p l takes.slot chain) in
      by q es out turned (cases_place q l.rec);
}
  where
    apart : l.rec ≢ p
    apart same =
        let both : Some (cells.Version v) ≡ Some (cells.Anchor l) =
        sym takes.was ∙ (ap old same ∙ takes.slot) in absurd cc

    leads : (back : Option Link) → new p ≡ slot_cell_to back → newest_of p (new p) ≡ back
    leads None is = ap (newest_of p) is
    leads (Some link) is = ap (newest_of p) is

    was_mid : mid l.rec ≡ Some (cells.Version v)
    was_mid = takes.turn.others l.rec apart ∙ takes.was

    by : (q : RecId) (es : List Entry) → (Stands es l.rec → ⊥) → Reads mid q es
        → ((q ≡ l.rec) × (same_place q l.rec ≡ true)) ⊎ ((q ≢ l.rec) × (same_place q l.rec ≡ false)) → Reads new q es
    by q es out chain (inl (same, yes_)) = stays_none mid new l.rec None takes.freed q es
        (begins_elsewhere mid q l.rec v was_mid takes.was_apart same)
        (ap (λ (y : RecId). newest_of q (new y)) same ∙ ap (newest_of q) takes.freed.here) chain
    by q es out chain (inr (ne, no_)) = stays_at mid new l.rec None takes.freed q es ne chain out

pub moves_lists : MovesLists
moves_lists old put turned new p l v e moves = record {
  replaced = record {
    its = λ d es out chain.
        let before : Chain old (Some l) (d ∷ es) =
        subst (λ (c : Option Cell). Chain old (newest_of p c) (d ∷ es)) moves.slot chain in
        let behind : Chain old v.back es = opens_to old l v d es moves.was before in
        let kept : Chain put v.back es = chain_stays old put e.at (Some (cells.Version e.version))
        moves.puts.put v.back es behind (off_free old v.back es e.at moves.puts.free behind) in
        stays_at turned new l.rec None moves.freed p (e ∷ es) (λ same. away (sym same))
        (leads_on put turned p e moves.puts.put.here apart moves.turn es
        (subst (λ (k : Option Link). Chain put k es) (sym moves.back) kept)
        (off_anchor put v.back es p l slot kept)) (out_of es out);
    others = λ q es ne out chain.
        let kept : Reads put q es = put_keeps old put e moves.puts q es chain in
        by q es out (stays_at put turned p (Some (cells.Anchor (link_to e.at e.version.tx))) moves.turn q es
        ne kept (off_anchor put (newest_of q (put q)) es p l slot kept)) (cases_place q l.rec);
  };
  left = λ q es chain there. off_free new (newest_of q (new q)) es l.rec moves.freed.here chain there;
}
  where
    apart : e.at ≢ p
    apart same =
        let both : None ≡ Some (cells.Anchor l) =
        sym moves.puts.free ∙ (ap old same ∙ moves.slot) in absurd cc

    elsewhere : e.at ≢ l.rec
    elsewhere same =
        let both : None ≡ Some (cells.Version v) =
        sym moves.puts.free ∙ (ap old same ∙ moves.was) in absurd cc

    away : l.rec ≢ p
    away same =
        let both : Some (cells.Version v) ≡ Some (cells.Anchor l) =
        sym moves.was ∙ (ap old same ∙ moves.slot) in absurd cc

    slot : put p ≡ Some (cells.Anchor l)
    slot = moves.puts.put.others p (λ same. apart (sym same)) ∙ moves.slot

    was_turned : turned l.rec ≡ Some (cells.Version v)
    was_turned = moves.turn.others l.rec away
        ∙ (moves.puts.put.others l.rec (λ same. elsewhere (sym same)) ∙ moves.was)

    out_of : (es : List Entry) → (Stands es l.rec → ⊥) → Stands (e ∷ es) l.rec → ⊥
    out_of es out (inl same) = elsewhere same
    out_of es out (inr there) = out there

    by : (q : RecId) (es : List Entry) → (Stands es l.rec → ⊥) → Reads turned q es
        → ((q ≡ l.rec) × (same_place q l.rec ≡ true)) ⊎ ((q ≢ l.rec) × (same_place q l.rec ≡ false)) → Reads new q es
    by q es out chain (inl (same, yes_)) = stays_none turned new l.rec None moves.freed q es
        (begins_elsewhere turned q l.rec v was_turned moves.was_apart same)
        (ap (λ (y : RecId). newest_of q (new y)) same ∙ ap (newest_of q) moves.freed.here) chain
    by q es out chain (inr (ne, no_)) = stays_at turned new l.rec None moves.freed q es ne chain out
