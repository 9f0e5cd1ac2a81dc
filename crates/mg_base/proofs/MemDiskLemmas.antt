-- One page write of a disk in memory keeps what its fields say.
use Rattle.std.specs.Option.{option_map}
use Rattle.std.proofs.Common.{Option, Some, Ok, ◌⊎◌, ◌≡◌, ◌≢◌, ℕ, ◌+◌, ◌-◌, ◌<◌, ◌≤◌, Bool, true, false, List, [], ◌∷◌, ◌++◌, length, take, replicate, max, get_or, refl, ap, sym, inl, inr, ◌∙◌, arith, append_assoc}
use Rattle.std.proofs.Math.ListN.{set}
use Rattle.std.proofs.lemmas.List.{take_more, get_or-take, take_more_set, set-append_left, length-set, length-append, length-replicate, replicate-append-replicate, get_or-set_same, get_or-set_other}
use Rattle.std.proofs.lemmas.Bool.{cases_eq}
use Rattle.std.proofs.lemmas.List.Sums.{fold_push}
use Rattle.std.specs.Prelude.{fold}
use Rattle.mg_base.specs.Image.{Image, blank, written, length-written}
use Rattle.mg_base.specs.Acts.{Act, Write, Left, after_obeyed, acts_of, image_of, acts_more, times_one, crash_write, held_settle}
use Rattle.mg_base.specs.Disk.{Writes}
use Rattle.mg_base.specs.MemDisk.{mem_meaning, acts_in, Obeys}
use Rattle.mg_base.specs.declared.mem_disk.MemDisk.{MemDisk}
use Rattle.mg_base.specs.Kept.{IsKept}
use Rattle.mg_base.specs.declared.obeyed.Obeyed.{Obeyed}

-- the pages after a write: the written image, and fewer blank pages
written_rest : (size : ℕ) (image : Image) (n total : ℕ) (bytes : List ℕ) → n < total → length image ≤ total
    → set (image ++ replicate (total - length image) (blank size)) n bytes ≡ written size image n bytes ++ replicate (total - max (length image) (n + 1)) (blank size)
unfolding written
written_rest size image n total bytes below fits =
    let front : List (List ℕ) = image ++ replicate (n + 1 - length image) (blank size) in
    let rest : ℕ = total - max (length image) (n + 1) in
    let long : n < length front = grind (arith, length-append, length-replicate) in
    let sum : (n + 1 - length image) + rest ≡ total - length image = omega arith in
    let joined : image ++ replicate (total - length image) (blank size) ≡ front ++ replicate rest (blank size) =
    ap (λ k. image ++ replicate k (blank size)) (sym sum) ∙ ap (λ xs. image ++ xs) (sym (replicate-append-replicate (n + 1 - length image) rest (blank size))) ∙ sym (append_assoc image _ _) in
    ap (λ xs. set xs n bytes) joined ∙ set-append_left front _ n bytes long

-- after one page was replaced by a whole one, each page is whole
whole_set : {A : Type 0} (size_of : A → ℕ) (size : ℕ) (xs : List A) (n : ℕ) (x d : A) → ((k : ℕ) → k < length xs → size_of (get_or xs k d) ≡ size) → size_of x ≡ size → n < length xs
    → (k : ℕ) → k < length (set xs n x) → size_of (get_or (set xs n x) k d) ≡ size
whole_set size_of size xs n x d each whole below k in_list = elim (cases_eq k n) [ inl here ↦ at here | inr ne ↦ other ne ]
  where
    inside : k < length xs
    inside = rw length-set at in_list

    at : k ≡ n → size_of (get_or (set xs n x) k d) ≡ size
    at here = rw (here, get_or-set_same xs n x d below) whole

    other : k ≢ n → size_of (get_or (set xs n x) k d) ≡ size
    other ne = rw (get_or-set_other xs n k x d ne) (each k inside)

-- the record after one page write more
pub acts_after : (old new : List Obeyed) (writes : ℕ) (settled : Bool) (n : ℕ) (bytes : List ℕ) → new ≡ set old writes (record { page = n; settled = settled; bytes = bytes }) → writes < length old
    → acts_of (take (writes + 1) new) false ≡ Write n bytes ∷ acts_of (take writes old) settled
acts_after old new writes settled n bytes is room =
    rw is (ap (λ es. acts_of es false) (take_more_set old writes (record { page = n; settled = settled; bytes = bytes }) room) ∙ acts_more (take writes old) settled n bytes)

-- the pages of the record lie in the room, with one write more
pages_within : (old : List Obeyed) (writes room : ℕ) (e : Obeyed) → writes < length old → e.page < room → ((k : ℕ) (d : Obeyed) → k < writes → (get_or old k d).page < room)
    → (k : ℕ) (d : Obeyed) → k < writes + 1 → (get_or (set old writes e) k d).page < room
pages_within old writes room e below new_within each k d le = elim (cases_eq k writes) [ inl here ↦ at here | inr ne ↦ other ne ]
  where
    at : k ≡ writes → (get_or (set old writes e) k d).page < room
    at here = rw (here, get_or-set_same old writes e d below) new_within

    other : k ≢ writes → (get_or (set old writes e) k d).page < room
    other ne = rw (get_or-set_other old writes k e d ne) (each k d (omega arith))

pub kept_write : (size : ℕ) (pages : List (List ℕ)) (used : ℕ) (obeyed : List Obeyed) (writes : ℕ) (settled : Bool) (n : ℕ) (bytes : List ℕ)
    → IsKept size pages used obeyed writes settled → n < length pages → writes < length obeyed → length bytes ≡ size
    → IsKept size (set pages n bytes) (max used (n + 1)) (set obeyed writes (record { page = n; settled = settled; bytes = bytes })) (writes + 1) false
kept_write size pages used obeyed writes settled n bytes kept below room whole =
    let e : Obeyed = record { page = n; settled = settled; bytes = bytes } in
    let acts : List Act = acts_of (take writes obeyed) settled in
    let image : Image = image_of size acts in
    let entries_more : take (writes + 1) (set obeyed writes e) ≡ take writes obeyed ++ e ∷ [] = take_more_set obeyed writes e room in
    let more : acts_of (take (writes + 1) (set obeyed writes e)) false ≡ Write n bytes ∷ acts =
    ap (λ es. acts_of es false) entries_more ∙ acts_more (take writes obeyed) settled n bytes in
    let count : length image ≡ used = kept.count in
    let fits : length image ≤ length pages = let r = kept.room in omega arith in
    let blanks : pages ≡ image ++ replicate (length pages - length image) (blank size) = kept.held ∙ ap (λ k. image ++ replicate (length pages - k) (blank size)) (sym count) in
    let held : set pages n bytes ≡ written size image n bytes ++ replicate (length pages - max used (n + 1)) (blank size) =
    ap (λ xs. set xs n bytes) blanks ∙ written_rest size image n (length pages) bytes below fits ∙ ap (λ k. written size image n bytes ++ replicate (length pages - max k (n + 1)) (blank size)) count in
    record {
      lawful = kept.lawful;
      bounded = rw length-set kept.bounded;
      entries = rw length-set (omega arith);
      room = rw length-set (let r = kept.room in omega arith);
      held = rw (length-set, more) held;
      count = rw more (length-written size image n bytes ∙ ap (λ k. max k (n + 1)) count);
      whole_pages = whole_set length size pages n bytes (blank size) kept.whole_pages whole below;
      whole_entries = λ k d. whole_set (λ (o : Obeyed). length o.bytes) size obeyed writes e d (λ j. kept.whole_entries j d) whole room k;
      within = rw length-set (pages_within obeyed writes (length pages) e room below kept.within);
    }

-- One page write as the disk's meaning tells it. The size and the acts are variables here, so that equations of them apply.
later_write : (acts acts' : List Act) (n : ℕ) (bytes : List ℕ) → acts' ≡ Write n bytes ∷ acts → length acts ≤ length acts'
later_write acts acts' n bytes is = rw is (omega arith)

else_write : (size size' : ℕ) (acts acts' : List Act) (n : ℕ) (bytes : List ℕ) → size' ≡ size → acts' ≡ Write n bytes ∷ acts
    → (t : ℕ) (c : Image) → t ≤ length acts → Left size' acts' t c → Left size acts t c ⊎ Left size' acts' (length acts') c
else_write size size' acts acts' n bytes same is = rw (same, is) ((times_one size acts (Write n bytes)).nothing_else)

keeps_write : (size size' : ℕ) (acts acts' : List Act) (n : ℕ) (bytes : List ℕ) → size' ≡ size → acts' ≡ Write n bytes ∷ acts
    → (t : ℕ) (c : Image) → t ≤ length acts → Left size acts t c → Left size' acts' t c
keeps_write size size' acts acts' n bytes same is = rw (same, is) ((times_one size acts (Write n bytes)).keeps)

crash_of_write : (size size' : ℕ) (acts acts' : List Act) (n : ℕ) (bytes : List ℕ) → size' ≡ size → acts' ≡ Write n bytes ∷ acts
    → (c : Image) → Left size' acts' (length acts') c → Left size acts (length acts) c ⊎ (Some (image_of size' acts') ≡ Some c)
crash_of_write size size' acts acts' n bytes same is = rw (same, is) (crash_write size acts (Write n bytes ∷ acts) n bytes refl)

stored_write : (size size' : ℕ) (acts acts' : List Act) (n : ℕ) (bytes : List ℕ) → size' ≡ size → length bytes ≡ size → acts' ≡ Write n bytes ∷ acts
    → (image : Image) → Some (image_of size acts) ≡ Some image → Some (image_of size' acts') ≡ Some (written (length bytes) image n bytes)
stored_write size size' acts acts' n bytes same whole is image held =
    rw (same, is, whole) (ap (λ (o : Option Image). option_map (λ i. written size i n bytes) o) held)

pub writes_obeys : {T E : Type 0} (old new : MemDisk) (n : ℕ) (bytes : List ℕ) (done : T) → Obeys old new n bytes → length bytes ≡ old.size → new.asked ≤ old.asked + 1 → new.reads ≡ old.reads → new.were_read ≡ old.were_read
    → Writes {T = T} {E = E} mem_meaning old new n bytes (Ok done)
writes_obeys old new n bytes done obeys whole counted reads were_read =
    let acts : List Act = acts_in old in
    let acts' : List Act = acts_in new in
    let used = obeys.used in
    let faults = obeys.faults in
    record {
      count = λ m is. let u : new.used ≡ max old.used (n + 1) = obeys.used in cc;
      stored = stored_write old.size new.size acts acts' n bytes obeys.size whole obeys.acts;
      failed = tt;
      crash = λ told. crash_of_write old.size new.size acts acts' n bytes obeys.size obeys.acts;
      failed_count = tt;
      untold = λ none. absurd cc;
      asked = counted;
      unread = record { reads = reads; was_read = λ k. rw were_read refl };
      keeps = record {
        size = ap Some obeys.size;
        tells = refl;
        most_writes = refl;
        time = λ told. record {
          later = later_write acts acts' n bytes obeys.acts;
          nothing_else = else_write old.size new.size acts acts' n bytes obeys.size obeys.acts;
          keeps = keeps_write old.size new.size acts acts' n bytes obeys.size obeys.acts;
        };
        never_falls = let f : new.faults ≡ old.faults = obeys.faults in omega arith;
        cause = λ no. absurd (let h = no in cc);
        steady = obeys.faults;
      };
    }

-- the image of a record's front with one write more
pub image_more : (size : ℕ) (es : List Obeyed) (i : ℕ) (e : Obeyed) → i < length es → e ≡ get_or es i e
    → image_of size (acts_of (take (i + 1) es) true) ≡ written size (image_of size (acts_of (take i es) true)) e.page e.bytes
image_more size es i e below is =
    let front : List Obeyed = take i es in
    let more : take (i + 1) es ≡ front ++ e ∷ [] = take_more es i e below ∙ ap (λ x. front ++ x ∷ []) (sym is) in
    ap (λ xs. image_of size (acts_of xs true)) more
    ∙ ap (image_of size) (fold_push after_obeyed [] front e)
    ∙ with_flag e.settled refl
  where
    with_flag : (flag : Bool) → e.settled ≡ flag → image_of size (after_obeyed (fold after_obeyed [] (take i es)) e) ≡ written size (image_of size (fold after_obeyed [] (take i es))) e.page e.bytes
    with_flag true is_flag = rw is_flag refl
    with_flag false is_flag = rw is_flag refl

-- the entry of a record's front
pub entry_of_front : (es : List Obeyed) (writes i : ℕ) (e : Obeyed) → i < writes → e ≡ get_or es i e → e ≡ get_or (take writes es) i e
entry_of_front es writes i e below is = is ∙ sym (get_or-take writes es i e below)

-- a settle at the end changes nothing of what is held
pub held_after : (size size' : ℕ) (es : List Obeyed) (flag : Bool) (image : Image) → size' ≡ size → image_of size (acts_of es flag) ≡ image → Some (image_of size' (acts_of es true)) ≡ Some image
held_after size size' es flag image same is = rw same (ap Some (held_settle size es flag ∙ is))
