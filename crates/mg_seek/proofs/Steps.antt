-- The steps of a walk along the versions of a record, and how refusals are handed on.
use Rattle.std.specs.Prelude.{◌≡◌, ◌⊎◌, ℕ, ◌+◌, ◌<◌, ◌≤◌, ◌-◌, ◌^◌, Bool, true, false, List, [], Option, None, Some, unwrap_or, Result, Ok, Err, IsErr, IsErrAnd, MatchResult, refl}
use Rattle.std.proofs.Common.{sym, ◌∙◌, ap, subst, inl, inr, arith}
use Rattle.mg_base.specs.Disk.{Meaning}
use Rattle.mg_base.specs.Image.{Image}
use Rattle.mg_base.specs.declared.damage.Damaged.{Damaged}
use Rattle.mg_base.specs.declared.damage.Field.TheVariants as fields
use Rattle.mg_base.specs.declared.numbers.RecId.{RecId}
use Rattle.mg_image.specs.Form.{Pages}
use Rattle.mg_image.specs.Records.{cells_of}
use Rattle.mg_pool.specs.Batch.{Changed, content_in}
use Rattle.mg_pool.specs.Pool.{shown}
use Rattle.mg_pool.specs.declared.batch.BatchPage.{BatchPage}
use Rattle.mg_pool.specs.declared.pool.Pool.{Pool}
use Rattle.mg_space.specs.View.{KeepsStore, Tells, viewed}
use Rattle.mg_space.specs.ViewLaws.{tells_on, viewed_on}
use Rattle.mg_space.specs.declared.fault.SpaceFault.{SpaceFault}
use Rattle.mg_space.specs.declared.fault.SpaceFault.TheVariants as faults
use Rattle.mg_version.specs.declared.cell.Link.{Link}
use Rattle.mg_version.specs.declared.cell.Version.{Version}
use Rattle.mg_chain.specs.Chains.{Meets, newest_link, starts, goes_on}
use Rattle.mg_chain.specs.Refusals.{RefusesCellAt, RefusesVersion, Follows, IsChainDamage, primary, version, comes_back, too_long, RefusesChain, damage}
use Rattle.mg_seek.specs.declared.walk.Placed.{Placed}
use Rattle.mg_seek.specs.Versions.{FirstAt, stops, is_it, is_older, placed}

-- a fault that a call met is handed on
pub handed_on : {T : Type 0} (result : Result T SpaceFault) (fault : SpaceFault)
    (P : T → Type 0) (Q : SpaceFault → Type 0) → IsErr result
    → IsErrAnd result (λ given. given ≡ fault) → Q fault → MatchResult result P Q
handed_on (Ok x) fault P Q err is holds = absurd cc
handed_on (Err e) fault P Q err is holds = subst Q (sym is) holds

module _ {D L : Type 0} (m : Meaning D) (store : Pool D L) (pages : List BatchPage)
    (view : Pages) (rec : RecId) where
  pub primary_refuses : (fault : SpaceFault) → RefusesCellAt m store pages view rec fault
      → RefusesChain m store pages view rec fault
  primary_refuses (faults.Full most) refuses = refuses
  primary_refuses (faults.Damaged it) refuses = primary it refuses
  primary_refuses (faults.Pool fault) refuses = tt

  pub version_refuses : (n holder : ℕ) (l : Link) → Follows view rec n holder l
      → (fault : SpaceFault) → RefusesVersion m store pages view holder l fault
      → RefusesChain m store pages view rec fault
  version_refuses n holder l follows (faults.Full most) refuses = refuses
  version_refuses n holder l follows (faults.Damaged it) refuses =
      version n holder l it follows refuses
  version_refuses n holder l follows (faults.Pool fault) refuses = tt

-- ---- one call after another

-- a version that was read after a call that has only read is one of the pages before that call
pub met_on : {D L : Type 0} (m : Meaning D) (a b c : Pool D L) (image : Image) (batch : Changed)
    (holder : ℕ) (l : Link) (result : Result Version SpaceFault) → KeepsStore m a b
    → Tells m a.disk image
    → ((image : Image) → Tells m b.disk image → MatchResult result
    (Meets (cells_of (viewed b image batch)) l)
    (RefusesVersion m c batch.pages (viewed b image batch) holder l))
    → MatchResult result (Meets (cells_of (viewed a image batch)) l)
    (RefusesVersion m c batch.pages (viewed a image batch) holder l)
met_on m a b c image batch holder l result kept tells gives =
    let P : Pages → Type 0 = λ view. MatchResult result (Meets (cells_of view) l)
    (RefusesVersion m c batch.pages view holder l) in
    subst P (viewed_on m a b image batch kept) (gives image (tells_on m a b image kept tells))

-- ---- the walk

pub starts_at : (view : Pages) (rec : RecId) (found : Option Link) (l : Link)
    → found ≡ newest_link view rec → found ≡ Some l → Follows view rec 0 rec.page.0 l
starts_at view rec found l is some = starts l (sym is ∙ some)

-- a place that is marked was come to before
abbrev pub IsMark : Pages → RecId → ℕ → Option RecId → Type 0
IsMark view rec n None = Unit {0}
IsMark view rec n (Some at) =
    (earlier : ℕ) × (before : ℕ) × (first : Link) × (earlier < n) × (at ≡ first.rec)
    × Follows view rec earlier before first

-- where a walk stands: the link that it has come to, what comes from there is what comes from the
-- start, and the mark
pub record WalkAt (view : Pages) (rec : RecId) (takes : ℕ → Bool) (n holder : ℕ) (l : Link)
    (mark : Option RecId) : Type 0 where
  pub follows : Follows view rec n holder l
  pub onward : (found : Option Placed) → FirstAt (cells_of view) takes (Some l) found
      → FirstAt (cells_of view) takes (newest_link view rec) found
  pub marked : IsMark view rec n mark

module _ (view : Pages) (rec : RecId) (takes : ℕ → Bool) where
  pub walk_starts : (found : Option Link) (l : Link) → found ≡ newest_link view rec
      → found ≡ Some l → WalkAt view rec takes 0 rec.page.0 l None
  walk_starts found l is some = record {
    follows = starts_at view rec found l is some;
    onward = λ out first.
        let P : Option Link → Type 0 = λ link. FirstAt (cells_of view) takes link out in
        subst P (sym (sym is ∙ some)) first;
    marked = tt;
  }

  pub walk_none : (found : Option Link) → found ≡ newest_link view rec → found ≡ None
      → FirstAt (cells_of view) takes (newest_link view rec) None
  walk_none found is none =
      let P : Option Link → Type 0 = λ link. FirstAt (cells_of view) takes link None in
      subst P (sym (sym is ∙ none)) stops

  later_mark : (n : ℕ) (mark : Option RecId) → IsMark view rec n mark → IsMark view rec (n + 1) mark
  later_mark n None is = tt
  later_mark n (Some at) (earlier, before, first, less, same, follows) =
      (earlier, before, first, omega arith, same, follows)

  pub walk_on : (n holder : ℕ) (l m : Link) (v : Version) (mark new : Option RecId)
      → WalkAt view rec takes n holder l mark → Meets (cells_of view) l v → takes v.tx.0 ≡ false
      → v.back ≡ Some m → (new ≡ mark) ⊎ (new ≡ Some l.rec)
      → WalkAt view rec takes (n + 1) l.rec.page.0 m new
  walk_on n holder l m v mark new walk meets other back marks = record {
    follows = goes_on n holder l m v walk.follows meets back;
    onward = λ out first.
        let P : Option Link → Type 0 = λ link. FirstAt (cells_of view) takes link out in
        walk.onward out (is_older l v out meets other (subst P (sym back) first));
    marked = at marks;
  }
    where
      at : (new ≡ mark) ⊎ (new ≡ Some l.rec) → IsMark view rec (n + 1) new
      at (inl same) =
          let P : Option RecId → Type 0 = λ it. IsMark view rec (n + 1) it in
          subst P (sym same) (later_mark n mark walk.marked)
      at (inr here_) =
          let P : Option RecId → Type 0 = λ it. IsMark view rec (n + 1) it in
          subst P (sym here_) (n, holder, l, omega arith, refl, walk.follows)

  pub walk_here : (n holder : ℕ) (l : Link) (v : Version) (mark : Option RecId)
      → WalkAt view rec takes n holder l mark → Meets (cells_of view) l v → takes v.tx.0 ≡ true
      → FirstAt (cells_of view) takes (newest_link view rec) (Some (placed l.rec v))
  walk_here n holder l v mark walk meets taken = walk.onward (Some (placed l.rec v)) (is_it l v meets taken)

  pub walk_ends : (n holder : ℕ) (l : Link) (v : Version) (mark : Option RecId)
      → WalkAt view rec takes n holder l mark → Meets (cells_of view) l v → takes v.tx.0 ≡ false
      → v.back ≡ None → FirstAt (cells_of view) takes (newest_link view rec) None
  walk_ends n holder l v mark walk meets other back =
      let P : Option Link → Type 0 = λ link. FirstAt (cells_of view) takes link None in
      walk.onward None (is_older l v None meets other (subst P (sym back) stops))

  module _ {D L : Type 0} (m : Meaning D) (store : Pool D L) (pages : List BatchPage)
    where
      pub walk_comes_back : (n holder : ℕ) (l : Link) (mark : Option RecId)
          → WalkAt view rec takes n holder l mark → mark ≡ Some l.rec
          → IsChainDamage m store pages view rec (damage holder fields.Link l.rec.page.0 0)
      walk_comes_back n holder l mark walk is =
          let P : Option RecId → Type 0 = λ it. IsMark view rec n it in
          at (subst P is walk.marked)
        where
          at : IsMark view rec n (Some l.rec)
              → IsChainDamage m store pages view rec (damage holder fields.Link l.rec.page.0 0)
          at (earlier, before, first, less, same, follows) =
              comes_back n before holder earlier l first walk.follows follows less same

      pub walk_is_long : (n holder : ℕ) (l : Link) (mark : Option RecId)
          → WalkAt view rec takes n holder l mark → 2 ^ 32 - 1 ≤ n
          → IsChainDamage m store pages view rec (damage holder fields.Link l.rec.page.0 0)
      walk_is_long n holder l mark walk long = too_long n holder l walk.follows long

-- the damage that is told is the one that is meant
pub damage_at : {D L : Type 0} (m : Meaning D) (store : Pool D L) (pages : List BatchPage) (view : Pages)
    (rec : RecId) (told meant : Damaged) → told ≡ meant
    → IsChainDamage m store pages view rec meant
    → IsChainDamage m store pages view rec told
damage_at m store pages view rec told meant is it =
    let P : Damaged → Type 0 = λ d. IsChainDamage m store pages view rec d in
    subst P (sym is) it
