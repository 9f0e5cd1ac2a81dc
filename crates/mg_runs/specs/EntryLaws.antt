-- Disks on which a history can begin: those in memory without pages, and those that a run has left.
use Rattle.std.proofs.Common.{◌≡◌, ◌≤◌, ◌+◌, ◌∙◌, inl, ℕ, Bool, true, false, List, [], Option, Some, refl, sym, ap, subst, length}
use Rattle.mg_base.specs.Acts.{Act, Leaves, Left, acts_of, image_of, leaves_left}
use Rattle.mg_base.specs.Disk.{Meaning}
use Rattle.mg_base.specs.Geometry.{is_page_size}
use Rattle.mg_base.specs.Image.{Image, page_at}
use Rattle.mg_base.specs.FaultyDisk.{disk_of}
use Rattle.mg_base.specs.MemDisk.{acts_in, mem_meaning, writes_of}
use Rattle.mg_base.specs.declared.obeyed.Obeyed.{Obeyed}
use Rattle.mg_base.specs.declared.geometry.TheConstants.{GREATEST_LIMIT}
use Rattle.mg_engine_meaning_laws.specs.Closings.{HasLeft}
use Rattle.mg_engine_meaning_laws.specs.ComposeLaws.{begins_with, goes_on_from, next_is}
use Rattle.mg_grown_catalog_laws.specs.Grown.{CatalogGrows, OwnRowsAreNew}
use Rattle.mg_image.specs.Form.{packed_form}
use Rattle.mg_image_opening_laws.specs.Begun.{begun}
use Rattle.mg_image_opening_laws.specs.Openings.{packed_fitting}
use Rattle.mg_model.specs.History.{Entries}
use Rattle.mg_model.specs.Laws.{OpeningsBegin}
use Rattle.mg_lasting_laws.specs.CrashLaws.{after_legal}
use Rattle.mg_model.specs.Legal.{IsLegal, MayBegin, after_durable, durable_count}
use Rattle.mg_records.specs.Needed.{pages_needed}
use Rattle.mg_model.specs.declared.opening.Opening.{Opening}
use Rattle.mg_new_database_laws.specs.Soundness.{HasWholePages, MemDisksAreWhole}
use Rattle.mg_space.specs.FreePages.{HasFree}
use Rattle.mg_runs.specs.Entry.{TellsWholePages, of_new, of_sound, promising}
use Rattle.mg_runs.specs.Headline.{HasEnded}
use Rattle.mg_runs.specs.Laws.{BlankIsEntry, FaultyIsEntry, SettledIsEntry}
use Rattle.mg_runs.specs.MemLaws.{crashes_whole}
use Rattle.mg_runs.specs.PromisingLaws.{any_free_begins}

-- ---- disks in memory

-- where nothing was asked of it, a crash leaves an image without pages
none_left : (size : ℕ) (acts : List Act) (c : Image) → acts ≡ [] → Left size acts (length acts) c → c ≡ []
none_left size acts c none left = subst (λ (others : List Act). Leaves size others c) none (leaves_left size acts c left)

abbrev some_image : Image → Option Image
some_image image = Some image

pub whole_of : (size other : ℕ) (image : Image) → Some other ≡ Some size → HasWholePages other image
    → HasWholePages size image
whole_of size other image told whole = let same : other ≡ size = cc in
    subst (λ (n : ℕ). HasWholePages n image) same whole

mem_whole : MemDisksAreWhole → (size : ℕ) → TellsWholePages mem_meaning size
mem_whole are_whole size = record {
  held = λ other image sized tells. whole_of size other.size image sized (are_whole other image tells.held);
  left = λ other t c sized left. whole_of size other.size c sized (crashes_whole other t c left);
}

pub blank_is_entry : MemDisksAreWhole → BlankIsEntry
blank_is_entry are_whole disk limit free none room = record {
  sized = refl;
  lawful = disk.kept.lawful;
  whole = mem_whole are_whole disk.size;
  settled = record {
    tells = record { told = refl; held = ap (λ (acts : List Act). some_image (image_of disk.size acts)) none };
    only = λ c may. none_left disk.size (acts_in disk) c none may;
  };
  opening = of_new free (record { header = refl; others = λ n some below. inl refl }) room;
}

-- where it was settled last, a crash leaves what it holds
only_settled : (size : ℕ) (es : List Obeyed) (settled : Bool) (c image : Image) → settled ≡ true
    → Some (image_of size (acts_of es settled)) ≡ Some image
    → Left size (acts_of es settled) (length (acts_of es settled)) c → c ≡ image
only_settled size es true c image is held left =
    let same : image_of size (acts_of es true) ≡ image = cc in leaves_left size (acts_of es true) c left ∙ same
only_settled size es false c image is held left = absurd cc

pub settled_is_entry : MemDisksAreWhole → SettledIsEntry
settled_is_entry are_whole disk limit image o settled held begins = record {
  sized = refl;
  lawful = disk.kept.lawful;
  whole = mem_whole are_whole disk.size;
  settled = record {
    tells = record { told = refl; held = held };
    only = λ c may. only_settled disk.size (writes_of disk) disk.settled c image settled held may;
  };
  opening = begins;
}

pub faulty_is_entry : FaultyIsEntry
faulty_is_entry disk limit size image o entry = record {
  sized = entry.sized;
  lawful = entry.lawful;
  whole = record {
    held = λ other held sized tells. entry.whole.held (disk_of other) held sized
        (record { told = tells.told; held = tells.held });
    left = λ other t c sized left. entry.whole.left (disk_of other) t c sized left;
  };
  settled = record {
    tells = record { told = entry.settled.tells.told; held = entry.settled.tells.held };
    only = entry.settled.only;
  };
  opening = entry.opening;
}

-- ---- disks that a run has left

pub has_ended : OpeningsBegin → OwnRowsAreNew → {D : Type 0} (m : Meaning D) (disk : D) (size : ℕ) (o : Opening)
    (h : Entries) → MayBegin o → IsLegal o h → CatalogGrows o h → m.size disk ≡ Some size
    → is_page_size size ≡ true → TellsWholePages m size → (left : HasLeft m disk size o h (durable_count h))
    → ((count : ℕ) → pages_needed o h + count ≤ o.free
    → HasFree (record { size = size; limit = GREATEST_LIMIT }) (page_at size left.image) count)
    → HasEnded m disk size o h
has_ended begin own_new m disk size o h opening legal grows sized lawful whole left room = record {
  left = left;
  later = begun packed_form packed_fitting size (page_at size left.image) left.holds.opened left.sound;
  goes_on = goes_on_from begin own_new size left.image o h (durable_count h) opening until grows left.holds left.sound;
  next = sym (next_is begin own_new size left.image o h (durable_count h) opening until grows left.holds left.sound)
      ∙ left.next;
  free = room;
  entry = λ limit free has. record {
    sized = sized;
    lawful = lawful;
    whole = whole;
    settled = left.settled;
    opening = of_sound
        (promising free (begun packed_form packed_fitting size (page_at size left.image) left.holds.opened left.sound))
        (any_free_begins size left.image
        (begun packed_form packed_fitting size (page_at size left.image) left.holds.opened left.sound) free
        (begins_with begin own_new size left.image o h (durable_count h) opening until grows left.holds left.sound
        left.plain)) has;
  };
}
  where
    until : IsLegal o (after_durable h (durable_count h))
    until = after_legal o h (durable_count h) legal
