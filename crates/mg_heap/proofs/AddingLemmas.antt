-- Lemmas of a cell that is added.
use Rattle.std.proofs.Common.{◌≡◌, ◌<◌, ◌∙◌, inr, ℕ, List, refl, sym, ap, subst, Result, Ok, Err}
use Rattle.std.specs.Prelude.{IfOk, MatchResult}
use Rattle.mg_base.specs.Disk.{Meaning}
use Rattle.mg_base.specs.Image.{Image}
use Rattle.mg_base.specs.declared.damage.Damaged.{Damaged}
use Rattle.mg_base.specs.declared.geometry.Geometry.{Geometry}
use Rattle.mg_base.specs.declared.numbers.PageNo.{PageNo}
use Rattle.mg_base.specs.declared.numbers.RecId.{RecId}
use Rattle.mg_image.specs.Form.{Pages}
use Rattle.mg_pool.specs.Batch.{Changed, PutsPage}
use Rattle.mg_pool.specs.declared.pool.Pool.{Pool}
use Rattle.mg_slots.specs.Changes.{PutsCell}
use Rattle.mg_slots.specs.Room.{least_free, need_of, room_of}
use Rattle.mg_slots.specs.declared.change.NoRoom.{NoRoom}
use Rattle.mg_space.specs.View.{KeepsStore, viewed}
use Rattle.mg_space.specs.ViewLaws.{viewed_else, viewed_here, viewed_on}
use Rattle.mg_space.specs.declared.fault.SpaceFault.{SpaceFault}
use Rattle.mg_space.specs.declared.fault.SpaceFault.TheVariants as faults
use Rattle.mg_heap.specs.Changing.{ChangesOne}
use Rattle.mg_heap.specs.Reading.{IsSomeData}
use Rattle.mg_heap.specs.Room.{AddsCell, GivesRoom, PutsIn, RefusesAdd, RefusesPutIn, lack_of, room_damage}

pub puts_in_at : {D L : Type 0} (store : Pool D L) (image : Image) (old new : Changed) (page : PageNo)
    (slot : ℕ) (cell read slice after put : List ℕ) → IsSomeData page read
    → read ≡ viewed store image old page.0 → slice ≡ read → put ≡ after
    → PutsPage old new page.0 put → slot ≡ least_free slice
    → PutsCell slice after (least_free slice) cell
    → PutsIn (viewed store image old) (viewed store image new) page cell (record { page = page; slot = slot })
puts_in_at store image old new page slot cell read slice after put some seen same written puts is puts_cell =
    record {
      page_is = refl;
      least = is ∙ ap least_free (same ∙ seen);
      puts = record {
        data_page = subst (IsSomeData page) seen some;
        puts = subst (λ (b : List ℕ). PutsCell (viewed store image old page.0) b slot cell)
            (sym written ∙ sym (viewed_here store image old new page.0 put puts))
            (subst (λ (b : List ℕ). PutsCell b after slot cell) (same ∙ seen)
            (subst (λ (k : ℕ). PutsCell slice after k cell) (sym is) puts_cell));
        others = viewed_else store image old new page.0 put puts;
      };
    }

-- the page is named with what the cell needs, and what it may take
pub room_told : (page : PageNo) (need room : ℕ) (lack : NoRoom) (damage : Damaged) → damage ≡ room_damage page lack
    → lack ≡ lack_of need room → damage ≡ room_damage page (lack_of need room)
room_told page need room lack damage is lacks = is ∙ ap (λ (x : NoRoom). room_damage page x) lacks

pub no_room_there : {D L : Type 0} (m : Meaning D) (store : Pool D L) (batch : Changed) (page : PageNo)
    (cell b read slice : List ℕ) (damage : Damaged) → IsSomeData page read → read ≡ b → slice ≡ read
    → room_of slice < need_of cell → damage ≡ room_damage page (lack_of (need_of cell) (room_of slice))
    → RefusesPutIn m store batch b page cell (faults.Damaged damage)
no_room_there m store batch page cell b read slice damage some seen same less is = inr (record {
  data_page = subst (IsSomeData page) seen some;
  small = subst (λ (x : List ℕ). room_of x < need_of cell) (same ∙ seen) less;
  is = subst (λ (x : List ℕ). faults.Damaged damage
      ≡ faults.Damaged (room_damage page (lack_of (need_of cell) (room_of x)))) (same ∙ seen)
      (ap (λ (it : Damaged). faults.Damaged it) is);
})

module _ {D L : Type 0} (m : Meaning D) (a b : Pool D L) (image : Image) (kept : KeepsStore m a b) where
  puts_on : (old new : Changed) (page : PageNo) (cell : List ℕ) (at : RecId)
      → PutsIn (viewed b image old) (viewed b image new) page cell at
      → PutsIn (viewed a image old) (viewed a image new) page cell at
  puts_on old new page cell at puts = subst (λ (pages : Pages). PutsIn (viewed a image old) pages page cell at)
      (viewed_on m a b image new kept)
      (subst (λ (pages : Pages). PutsIn pages (viewed b image new) page cell at)
      (viewed_on m a b image old kept) puts)

  pub added : (store : Pool D L) (old given new : Changed) (owner need : ℕ) (page : PageNo) (cell : List ℕ)
      (result : Result RecId SpaceFault) → need ≡ need_of cell
      → GivesRoom a image old given owner need page
      → IfOk result (λ at. ChangesOne b.geometry.size given new at.page.0)
      → MatchResult result (PutsIn (viewed b image given) (viewed b image new) page cell)
      (RefusesPutIn m store given (viewed b image given page.0) page cell)
      → MatchResult result (AddsCell a image old new owner cell) (RefusesAdd m a store image old owner cell)
  added store old given new owner need page cell (Ok at) is gives changes puts = record {
    given = given;
    gives = subst (λ (n : PageNo). GivesRoom a image old given owner (need_of cell) n) (sym puts.page_is)
        (subst (λ (k : ℕ). GivesRoom a image old given owner k page) is gives);
    one = subst (λ (g : Geometry). ChangesOne g.size given new at.page.0) kept.geometry changes;
    puts = subst (λ (n : PageNo). PutsIn (viewed a image given) (viewed a image new) n cell at)
        (sym puts.page_is) (puts_on given new page cell at puts);
  }
  added store old given new owner need page cell (Err fault) is gives changes refused = inr (record {
    given = given;
    page = page;
    gives = subst (λ (k : ℕ). GivesRoom a image old given owner k page) is gives;
    refused = subst (λ (pages : Pages). RefusesPutIn m store given (pages page.0) page cell fault)
        (viewed_on m a b image given kept) refused;
  })
