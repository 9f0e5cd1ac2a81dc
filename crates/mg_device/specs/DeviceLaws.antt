-- What a device promises, read as a disk.
use Rattle.std.specs.Prelude.{◌≡◌, ◌⊎◌, ℕ, ◌≤◌, true, false, Option, Some, None, Result, Ok, Err, List, [], ◌∷◌, ◌++◌, length}
use Rattle.std.proofs.Common.{refl, arith, inl, inr, sym, ap, ◌∙◌, subst}
use Rattle.mg_base.specs.Disk.{Calm, MayLeave}
use Rattle.mg_base.specs.Image.{Image}
use Rattle.mg_device.specs.Device.{DeviceMeaning, IsDevice, PageWrite, Reaches, Rests, Syncs, after_write, after_writes, as_disk, first, none, written_through}

-- Which images come of pending page writes.

-- where nothing is pending, nothing more reaches the device
pub reaches_none : (image : Image) (ws : List PageWrite) (c : Image) → ws ≡ [] → Reaches image ws c → c ≡ image
reaches_none image ws c empty none = refl
reaches_none image ws c empty (first i [] w after d reaches) = absurd (let e = empty in cc)
reaches_none image ws c empty (first i (b ∷ before) w after d reaches) = absurd (let e = empty in cc)

-- where one page write is pending, it has reached the device or not
pub reaches_one : (image : Image) (ws : List PageWrite) (w : PageWrite) (c : Image) → ws ≡ w ∷ [] → Reaches image ws c
    → (c ≡ image) ⊎ (c ≡ after_write image w)
reaches_one image ws w c one none = inl refl
reaches_one image ws w c one (first i [] v after d reaches) =
    let same : v ≡ w = let e = one in cc in
    let rest : after ≡ [] = let e = one in cc in
    inr (reaches_none (after_write i v) after d rest reaches ∙ ap (after_write i) same)
reaches_one image ws w c one (first i (b ∷ before) v after d reaches) = absurd (tail before v after (let e = one in cc))
  where
    tail : (before : List PageWrite) (v : PageWrite) (after : List PageWrite) → before ++ v ∷ after ≡ [] → ⊥
    tail [] v after empty = let e = empty in cc
    tail (b ∷ before) v after empty = let e = empty in cc

-- the newest page write may reach it last
reaches_last : (image : Image) (ws : List PageWrite) (w : PageWrite) (c : Image) → Reaches image ws c → Reaches image (w ∷ ws) (after_write c w)
reaches_last image ws w c none = first image [] w ws (after_write image w) none
reaches_last image ws w c (first i before v after d reaches) =
    first i (w ∷ before) v after (after_write d w) (reaches_last (after_write i v) (before ++ after) w d reaches)

-- every page write may have reached the device
pub reaches_all : (image : Image) (ws : List PageWrite) → Reaches image ws (after_writes image ws)
reaches_all image [] = none
reaches_all image (w ∷ ws) = reaches_last image ws w (after_writes image ws) (reaches_all image ws)

-- The laws of a disk, of a device read as one.
module _ {V : Type 0} (m : DeviceMeaning V) (law : IsDevice m) where
  pub device_holds : (v : V) → m.tells v ≡ true → (image : Image) × ((as_disk m).held v ≡ Some image) × MayLeave (as_disk m) v image
  device_holds v told =
      let base = law.told v told in
      let image : Image = after_writes base.0 (m.pending v) in
      (image, ap (λ s. written_through s (m.pending v)) base.1, law.may_leave v (m.moment v) base.0 image told base.1 (omega arith) (reaches_all base.0 (m.pending v)))

  pub device_counts_now : (v : V) (t : ℕ) (c : Image) → m.tells v ≡ true → t ≤ m.moment v → MayLeave (as_disk m) v c → m.left v t c
  device_counts_now v t c told le now =
      let base = law.told v told in
      law.may_leave v t base.0 c told base.1 le (law.leaves v base.0 c told base.1 now)

  pub device_counted : (v : V) (image : Image) (n : ℕ) → (as_disk m).held v ≡ Some image → m.count v ≡ Some n → length image ≡ n
  device_counted v image n held is = at (m.synced v) refl held
    where
      at : (s : Option Image) → m.synced v ≡ s → written_through s (m.pending v) ≡ Some image → length image ≡ n
      at None synced holds = absurd (let h = holds in cc)
      at (Some base) synced holds =
          let same : after_writes base (m.pending v) ≡ image = let h = holds in cc in
          ap (λ (i : Image). length i) (sym same) ∙ law.counted v base n synced is

  pub device_never_shrinks : (v : V) (t : ℕ) (c image : Image) → m.tells v ≡ true → m.left v t c → (as_disk m).held v ≡ Some image
      → length c ≤ length image
  device_never_shrinks v t c image told left held =
      let base = law.told v told in
      let same : after_writes base.0 (m.pending v) ≡ image = some_is (sym (ap (λ s. written_through s (m.pending v)) base.1) ∙ held) in
      subst (λ (i : Image). length c ≤ length i) same (law.never_shrinks v t base.0 c told base.1 left)
    where
      some_is : {a b : Image} → Some a ≡ Some b → a ≡ b
      some_is is = let i = is in cc

  -- what a crash may leave depends on what was synced and on what is pending alone
  pub same_crash : (old new : V) (c : Image) → m.tells old ≡ true → m.tells new ≡ m.tells old → m.synced new ≡ m.synced old → m.pending new ≡ m.pending old
      → MayLeave (as_disk m) new c → MayLeave (as_disk m) old c
  same_crash old new c told tells synced pending left =
      let base = law.told old told in
      law.may_leave old (m.moment old) base.0 c told base.1 (omega arith)
      (subst (λ ws. Reaches base.0 ws c) pending (law.leaves new base.0 c (tells ∙ told) (synced ∙ base.1) left))

  pub calm_of_rests : {T E : Type 0} (old new : V) (result : Result T E) → Rests m old new result → Calm (as_disk m) old new result
  calm_of_rests old new result rests = record {
    keeps = rests.keeps;
    count = rests.count;
    held = rw (rests.synced, rests.pending) refl;
    crash = λ told c. same_crash old new c told rests.keeps.tells rests.synced rests.pending;
    asked = refl;
  }

  -- a sync takes nothing away that a crash might not have left without it
  pub calm_of_sync : {T E : Type 0} (old new : V) (result : Result T E) → m.failed old ≡ false → Syncs m old new result → Calm (as_disk m) old new result
  calm_of_sync old new (Ok x) whole syncs = record {
    keeps = syncs.keeps;
    count = syncs.count;
    held = rw (syncs.synced whole, syncs.none_pending whole) (twice (m.synced old) (m.pending old));
    crash = λ told c left.
        let base = law.told old told in
        let now : m.synced new ≡ Some (after_writes base.0 (m.pending old)) = syncs.synced whole ∙ ap (λ s. written_through s (m.pending old)) base.1 in
        let is : c ≡ after_writes base.0 (m.pending old) = reaches_none _ (m.pending new) c (syncs.none_pending whole)
        (law.leaves new (after_writes base.0 (m.pending old)) c (syncs.keeps.tells ∙ told) now left) in
        law.may_leave old (m.moment old) base.0 c told base.1 (omega arith) (rw is (reaches_all base.0 (m.pending old)));
    asked = refl;
  }
    where
      twice : (s : Option Image) (ws : List PageWrite) → written_through (written_through s ws) [] ≡ written_through s ws
      twice None ws = refl
      twice (Some i) ws = refl
  calm_of_sync old new (Err e) whole syncs = record {
    keeps = syncs.keeps;
    count = syncs.count;
    held = rw (syncs.in_doubt.0, syncs.in_doubt.1) refl;
    crash = λ told c. same_crash old new c told syncs.keeps.tells syncs.in_doubt.0 syncs.in_doubt.1;
    asked = refl;
  }
