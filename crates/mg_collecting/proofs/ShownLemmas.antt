-- What a batch of its own leaves of a record on the pages: the version behind another one is dropped, or the newest one is
-- taken out.
use Rattle.std.proofs.Common.{◌≡◌, ◌≢◌, ◌∙◌, sym, ap, subst, ℕ, true, List, ◌∷◌, ◌++◌, Option, None, Some}
use Rattle.std.specs.Prelude.{unwrap_or}
use Rattle.mg_base.specs.Image.{Image}
use Rattle.mg_base.specs.declared.numbers.RecId.{RecId}
use Rattle.mg_chain.specs.Dropping.{DropsBehind}
use Rattle.mg_chain.specs.Lists.{FreesSlot, PutsSpelled, slot_cell_to}
use Rattle.mg_chain.specs.Writing.{TakesOut, TurnsBack, leading_to, link_to}
use Rattle.mg_image.specs.Form.{Pages}
use Rattle.mg_image.specs.Records.{Changes, cells_of, newest_of}
use Rattle.mg_image.specs.declared.entry.Entry.{Entry}
use Rattle.mg_pool.specs.Batch.{Changed, content_in}
use Rattle.mg_pool.specs.Pool.{shown}
use Rattle.mg_pool.specs.declared.batch.BatchPage.{BatchPage}
use Rattle.mg_pool.specs.declared.pool.Pool.{Pool}
use Rattle.mg_batches.specs.Batches.{nothing_yet}
use Rattle.mg_space.specs.View.{viewed}
use Rattle.mg_version.specs.declared.cell.Cell.TheVariants as cells
use Rattle.mg_version.specs.declared.cell.Link.{Link}
use Rattle.mg_version.specs.declared.cell.Version.{Version}
use Rattle.mg_collecting.specs.Leaving.{HasInOrder, LeavesTold, first_link}
use Rattle.mg_collecting.specs.LeavingLaws.{drop_leaves, out_leaves}
use Rattle.mg_collecting.specs.LinkedLaws.{linked_behind}

pub one_version : (v w : Version) → Some (cells.Version v) ≡ Some (cells.Version w) → v ≡ w
one_version v w same = cc

pub one_link : (l m : Link) → Some l ≡ Some m → l ≡ m
one_link l m same = cc

-- orders alone change no page that is seen
orders_shown : {D L : Type 0} (store : Pool D L) (image : Image) (old new : Changed) → new.pages ≡ old.pages
    → viewed store image new ≡ viewed store image old
orders_shown store image old new same =
    ap (λ (pages : List BatchPage). λ (n : ℕ). unwrap_or (content_in pages n) (shown store.dirty image n)) same

module _ (puts : PutsSpelled) (frees : FreesSlot) {D L : Type 0} (store : Pool D L) (image : Image) (new : Pages)
    (batch : Changed) (new_is : new ≡ viewed store image batch) (p : RecId) where
  abbrev old : Pages
  old = shown store.dirty image

  -- ---- a version is dropped

  module _ (front : List Entry) (a y : Entry) (rest : List Entry) (newer gone : Link)
      (has : HasInOrder (cells_of old) p (front ++ a ∷ y ∷ rest)) (link : newer ≡ link_to a.at a.version.tx)
      (drops : DropsBehind store image nothing_yet batch newer gone) where
    abbrev put : Pages
    put = viewed store image drops.leads.put

    abbrev freed : Pages
    freed = viewed store image drops.leads.freed

    version_is : drops.version ≡ leading_to a.version (first_link (y ∷ rest))
    version_is = one_version drops.version (leading_to a.version (first_link (y ∷ rest)))
        (sym drops.meets.cell ∙ (ap (λ (l : Link). cells_of old l.rec) link
        ∙ (linked_behind (cells_of old) front (a ∷ y ∷ rest) has.linked).0))

    -- what was dropped is the next one
    pub gone_is : gone ≡ link_to y.at y.version.tx
    gone_is = one_link gone (link_to y.at y.version.tx)
        (sym drops.back ∙ ap (λ (v : Version). v.back) version_is)

    older_is : drops.older ≡ leading_to y.version (first_link rest)
    older_is = one_version drops.older (leading_to y.version (first_link rest))
        (sym drops.behind.cell ∙ (ap (λ (l : Link). cells_of old l.rec) gone_is
        ∙ (linked_behind (cells_of old) front (a ∷ y ∷ rest) has.linked).1.0))

    put_is : leading_to drops.version drops.older.back ≡ leading_to a.version (first_link rest)
    put_is = λ k. leading_to (version_is k) ((older_is k).back)

    change : Changes (cells_of old) (cells_of put) a.at (Some (cells.Version (leading_to a.version (first_link rest))))
    change = subst (λ (v : Version). Changes (cells_of old) (cells_of put) a.at (Some (cells.Version v))) put_is
        (subst (λ (l : Link). Changes (cells_of old) (cells_of put) l.rec
        (Some (cells.Version (leading_to drops.version drops.older.back)))) link
        (puts old put newer.rec drops.leads.puts.bytes (cells.Version (leading_to drops.version drops.older.back))
        drops.leads.puts.puts.puts drops.leads.puts.spells))

    free : Changes (cells_of put) (cells_of freed) y.at None
    free = subst (λ (l : Link). Changes (cells_of put) (cells_of freed) l.rec None) gone_is
        (frees put freed gone.rec drops.leads.frees.frees)

    pub drop_shown : LeavesTold old new p (front ++ a ∷ y ∷ rest) (front ++ a ∷ rest) true
    drop_shown = subst (λ (pages : Pages). LeavesTold old pages p (front ++ a ∷ y ∷ rest) (front ++ a ∷ rest) true)
        (sym (orders_shown store image drops.leads.freed batch drops.leads.ordered.same_pages) ∙ sym new_is)
        (drop_leaves old put freed p front a y rest has change free
        (λ n ne. drops.leads.puts.puts.puts.others n
        (λ same. ne (same ∙ ap (λ (l : Link). l.rec.page.0) link)))
        (λ n ne. drops.leads.frees.frees.others n
        (λ same. ne (same ∙ ap (λ (l : Link). l.rec.page.0) gone_is))))

  -- ---- the newest version is taken out

  -- a slot is turned
  turned_is : (turned : Changed) (to : Option Link) → TurnsBack store image nothing_yet turned p to
      → Changes (cells_of old) (cells_of (viewed store image turned)) p (slot_cell_to to)
      × ((n : ℕ) → n ≢ p.page.0 → viewed store image turned n ≡ old n)
  turned_is turned None turns = (frees old (viewed store image turned) p turns.frees, turns.frees.others)
  turned_is turned (Some l) turns = (
    puts old (viewed store image turned) p turns.bytes (cells.Anchor l) turns.puts.puts turns.spells,
    turns.puts.puts.others,
  )

  module _ (e : Entry) (fs : List Entry) (has : HasInOrder (cells_of old) p (e ∷ fs))
      (takes : TakesOut store image nothing_yet batch p) where
    pub newest_is : takes.newest ≡ link_to e.at e.version.tx
    newest_is = one_link takes.newest (link_to e.at e.version.tx)
        (sym (ap (newest_of p) takes.its.head.slot) ∙ has.slot)

    pub was_is : takes.was ≡ leading_to e.version (first_link fs)
    was_is = one_version takes.was (leading_to e.version (first_link fs))
        (sym takes.its.meets.cell ∙ (ap (λ (l : Link). cells_of old l.rec) newest_is ∙ has.linked.0))

    abbrev turned : Pages
    turned = viewed store image takes.taken.swings.turned

    abbrev taken : Pages
    taken = viewed store image takes.taken.freed

    turns : Changes (cells_of old) (cells_of turned) p (slot_cell_to takes.was.back)
        × ((n : ℕ) → n ≢ p.page.0 → turned n ≡ old n)
    turns = turned_is takes.taken.swings.turned takes.was.back takes.taken.swings.turns

    pub out_shown : LeavesTold old new p (e ∷ fs) fs true
    out_shown = subst (λ (pages : Pages). LeavesTold old pages p (e ∷ fs) fs true)
        (sym (orders_shown store image takes.taken.freed batch takes.taken.ordered.same_pages) ∙ sym new_is)
        (out_leaves old turned taken p takes.newest e fs has takes.its.head.slot
        (subst (λ (v : Version). Changes (cells_of old) (cells_of turned) p (slot_cell_to v.back)) was_is turns.0)
        (subst (λ (l : Link). Changes (cells_of turned) (cells_of taken) l.rec None) newest_is
        (frees turned taken takes.newest.rec takes.taken.swings.frees.frees))
        turns.1
        (λ n ne. takes.taken.swings.frees.frees.others n
        (λ same. ne (same ∙ ap (λ (l : Link). l.rec.page.0) newest_is))))
