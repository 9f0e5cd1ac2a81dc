-- Cells are put, turned and freed: only the giving of a page with room takes pages.
use Rattle.std.proofs.Common.{◌≡◌, inl, inr, ◌+◌, ℕ, List, Option, None, Some, ap, arith}
use Rattle.std.specs.Prelude.{unwrap_or}
use Rattle.mg_base.specs.Image.{Image}
use Rattle.mg_base.specs.declared.geometry.Geometry.{Geometry}
use Rattle.mg_base.specs.declared.numbers.RecId.{RecId}
use Rattle.mg_base.specs.declared.numbers.TxNo.{TxNo}
use Rattle.mg_chain.specs.Writing.{FreesAt, MakesRecord, Moves, OverwritesOrMoves, Pushes, PutsAt, PutsVersion, Replaces, Swings, TakesOut, TurnsBack, link_to}
use Rattle.mg_heap.specs.Apart.{AddsApart}
use Rattle.mg_heap.specs.Room.{AddsCell}
use Rattle.mg_image.specs.Form.{Pages}
use Rattle.mg_pool.specs.Batch.{Changed, content_in}
use Rattle.mg_pool.specs.Pool.{shown}
use Rattle.mg_pool.specs.declared.batch.BatchPage.{BatchPage}
use Rattle.mg_pool.specs.declared.pool.Pool.{Pool}
use Rattle.mg_space.specs.Taking.{IsGeometry}
use Rattle.mg_space.specs.View.{viewed}
use Rattle.mg_space.specs.declared.links.FireLinks.{FireLinks}
use Rattle.mg_version.specs.declared.cell.Link.{Link}
use Rattle.mg_version.specs.declared.cell.Version.{Version}
use Rattle.mg_free_page_laws.specs.BatchStages.{AddingApartTakes, AddingTakes, MakingTakes, OutTakesNone, PushTakes, PutTakes, ReplacingTakes, RoomTakes, SpotTakes}
use Rattle.mg_free_page_laws.specs.FreePages.{TakesAtMost}
use Rattle.mg_free_page_laws.specs.FreeLaws.{both_taken, same_taken, takes_more}
use Rattle.mg_free_page_laws.specs.KindLaws.{data_off, one_changed}

module _ (D : Type 0) (room : RoomTakes D) (store : Pool D FireLinks) (image : Image)
    (lawful : IsGeometry store.geometry) where
  abbrev g : Geometry
  g = store.geometry

  abbrev view : Changed → Pages
  view b = viewed store image b

  ordered : (old new : Changed) → new.pages ≡ old.pages → TakesAtMost g (view old) (view new) 0
  ordered old new same = same_taken g (view old) (view new)
      (λ n. ap (λ (pages : List BatchPage). unwrap_or (content_in pages n) (shown store.dirty image n)) same)

  -- one step after another
  then_ : (a b c : Changed) (first second : ℕ) → TakesAtMost g (view a) (view b) first
      → TakesAtMost g (view b) (view c) second → TakesAtMost g (view a) (view c) (first + second)
  then_ a b c first second = both_taken g (view a) (view b) (view c) first second

  puts : (old new : Changed) (at : RecId) (bytes : List ℕ) → PutsAt store image old new at bytes
      → TakesAtMost g (view old) (view new) 0
  puts old new at bytes it = one_changed g (view old) (view new) at.page.0
      (λ regions. data_off g (view old) at.page regions it.puts.data_page) it.puts.others

  frees : (old new : Changed) (at : RecId) → FreesAt store image old new at → TakesAtMost g (view old) (view new) 0
  frees old new at it = one_changed g (view old) (view new) at.page.0
      (λ regions. data_off g (view old) at.page regions it.frees.data_page) it.frees.others

  turns : (old new : Changed) (rec : RecId) (to : Option Link) → TurnsBack store image old new rec to
      → TakesAtMost g (view old) (view new) 0
  turns old new rec None it = frees old new rec it
  turns old new rec (Some link) it = puts old new rec it.bytes it.puts

  swings : (old new : Changed) (rec left : RecId) (to : Option Link) → Swings store image old new rec left to
      → TakesAtMost g (view old) (view new) 0
  swings old new rec left to it = then_ old it.turned new 0 0 (turns old it.turned rec to it.turns)
      (frees it.turned new left it.frees)

  adds : (old new : Changed) (owner : ℕ) (cell : List ℕ) (at : RecId) → AddsCell store image old new owner cell at
      → TakesAtMost g (view old) (view new) 2
  adds old new owner cell at it = then_ old it.given new 2 0
      (room store image old it.given owner _ at.page it.gives lawful)
      (one_changed g (view it.given) (view new) at.page.0
      (λ regions. data_off g (view it.given) at.page regions it.puts.puts.data_page) it.puts.puts.others)

  adds_apart : (old new : Changed) (owner : ℕ) (place : RecId) (cell : List ℕ) (at : RecId)
      → AddsApart store image old new owner place cell at → TakesAtMost g (view old) (view new) 2
  adds_apart old new owner place cell at it = then_ old it.given new 2 0
      (room store image old it.given owner _ at.page it.gives lawful)
      (one_changed g (view it.given) (view new) at.page.0
      (λ regions. data_off g (view it.given) at.page regions it.puts.data_page) it.puts.others)

  puts_version : (old new : Changed) (owner : ℕ) (bytes : List ℕ) (at : RecId) (pointers : List ℕ)
      → PutsVersion store image old new owner bytes at pointers → TakesAtMost g (view old) (view new) 2
  puts_version old new owner bytes at pointers it = adds old new owner bytes at it.adds

  makes : (old new : Changed) (owner : ℕ) (rec : RecId) (v : Version)
      → MakesRecord store image old new owner rec v → TakesAtMost g (view old) (view new) 2
  makes old new owner rec v it = then_ old it.makes.put new 2 0
      (adds_apart old it.makes.put owner rec it.bytes it.makes.at it.makes.adds)
      (then_ it.makes.put it.makes.turned new 0 0
      (puts it.makes.put it.makes.turned rec it.makes.turns.bytes it.makes.turns.puts)
      (ordered it.makes.turned new it.makes.ordered.same_pages))

  pushes : (old new : Changed) (rec : RecId) (v : Version) → Pushes store image old new rec v
      → TakesAtMost g (view old) (view new) 2
  pushes old new rec v it = then_ old it.pushes.put new 2 0
      (puts_version old it.pushes.put it.owner it.bytes it.pushes.at it.pushes.pointers it.pushes.puts)
      (then_ it.pushes.put it.pushes.turned new 0 0
      (puts it.pushes.put it.pushes.turned rec it.pushes.turns.bytes it.pushes.turns.puts)
      (ordered it.pushes.turned new it.pushes.ordered.same_pages))

  moves : (old new : Changed) (rec : RecId) (newest : Link) (owner : ℕ) (bytes : List ℕ) (tx : TxNo)
      (back : Option Link) → Moves store image old new rec newest owner bytes tx back
      → TakesAtMost g (view old) (view new) 2
  moves old new rec newest owner bytes tx back it = then_ old it.put new 2 0
      (puts_version old it.put owner bytes it.at it.pointers it.puts)
      (then_ it.put it.freed new 0 0
      (swings it.put it.freed rec newest.rec (Some (link_to it.at tx)) it.swings)
      (ordered it.freed new it.ordered.same_pages))

  replaces : (old new : Changed) (rec : RecId) (v : Version) → Replaces store image old new rec v
      → TakesAtMost g (view old) (view new) 2
  replaces old new rec v it = on it.written
    where
      on : OverwritesOrMoves store image old new rec it.newest it.owner it.bytes v.tx it.was.back
          → TakesAtMost g (view old) (view new) 2
      on (inl over) = takes_more g (view old) (view new) 0 2 (omega arith) (puts old new it.newest.rec it.bytes over)
      on (inr moved) = moves old new rec it.newest it.owner it.bytes v.tx it.was.back moved.1

  out : (old new : Changed) (rec : RecId) → TakesOut store image old new rec → TakesAtMost g (view old) (view new) 0
  out old new rec it = then_ old it.taken.freed new 0 0
      (swings old it.taken.freed rec it.newest.rec it.was.back it.taken.swings)
      (ordered it.taken.freed new it.taken.ordered.same_pages)

module _ (D : Type 0) (room : RoomTakes D) where
  pub spot_takes : SpotTakes D
  spot_takes store image old new owner at it lawful = room store image old new owner _ at.page it.gives lawful

  pub adding_takes : AddingTakes D
  adding_takes store image old new owner cell at it lawful = adds D room store image lawful old new owner cell at it

  pub adding_apart_takes : AddingApartTakes D
  adding_apart_takes store image old new owner place cell at it lawful =
      adds_apart D room store image lawful old new owner place cell at it

  pub put_takes : PutTakes D
  put_takes store image old new owner bytes at pointers it lawful =
      puts_version D room store image lawful old new owner bytes at pointers it

  pub making_takes : MakingTakes D
  making_takes store image old new owner rec v it lawful = makes D room store image lawful old new owner rec v it

  pub push_takes : PushTakes D
  push_takes store image old new rec v it lawful = pushes D room store image lawful old new rec v it

  pub replacing_takes : ReplacingTakes D
  replacing_takes store image old new rec v it lawful = replaces D room store image lawful old new rec v it

  pub out_takes : OutTakesNone D
  out_takes store image old new rec it lawful = out D room store image lawful old new rec it
