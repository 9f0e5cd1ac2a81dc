-- The steps of a walk along a record's versions to their end, and how refusals are handed on.
use Rattle.std.specs.Prelude.{◌≡◌, ◌⊎◌, ℕ, ◌+◌, ◌<◌, ◌≤◌, ◌-◌, ◌^◌, List, [], ◌∷◌, length, Option, None, Some, Result, MatchResult, refl}
use Rattle.std.proofs.Common.{sym, ◌∙◌, ap, subst, inl, inr, arith}
use Rattle.mg_base.specs.Disk.{Meaning}
use Rattle.mg_base.specs.Image.{Image}
use Rattle.mg_base.specs.declared.damage.Damaged.{Damaged}
use Rattle.mg_base.specs.declared.damage.Field.TheVariants as fields
use Rattle.mg_base.specs.declared.numbers.RecId.{RecId}
use Rattle.mg_chain.specs.Chains.{Meets, goes_on, newest_link, starts}
use Rattle.mg_chain.specs.Refusals.{Follows, IsChainDamage, RefusesCellAt, RefusesChain, RefusesVersion, comes_back, damage, primary, too_long, version}
use Rattle.mg_chain.specs.Writing.{leading_to, link_to}
use Rattle.mg_image.specs.Form.{Pages}
use Rattle.mg_image.specs.Records.{cells_of}
use Rattle.mg_image.specs.declared.entry.Entry.{Entry}
use Rattle.mg_pool.specs.Dirty.{DirtyPages}
use Rattle.mg_pool.specs.Pool.{shown}
use Rattle.mg_pool.specs.declared.batch.BatchPage.{BatchPage}
use Rattle.mg_pool.specs.declared.pool.Pool.{Pool}
use Rattle.mg_space.specs.View.{KeepsStore, Tells}
use Rattle.mg_space.specs.ViewLaws.{tells_on}
use Rattle.mg_space.specs.declared.fault.SpaceFault.{SpaceFault}
use Rattle.mg_space.specs.declared.fault.SpaceFault.TheVariants as faults
use Rattle.mg_version.specs.declared.cell.Cell.TheVariants as cells
use Rattle.mg_version.specs.declared.cell.Link.{Link}
use Rattle.mg_version.specs.declared.cell.Version.{Version}
use Rattle.mg_collecting.specs.Collecting.{HasCount}
use Rattle.mg_collecting.specs.Leaving.{AreLinked, first_link}

module _ {D L : Type 0} (m : Meaning D) (store : Pool D L) (pages : List BatchPage) (view : Pages) (rec : RecId) where
  pub primary_refuses : (fault : SpaceFault) → RefusesCellAt m store pages view rec fault
      → RefusesChain m store pages view rec fault
  primary_refuses (faults.Full most) refuses = refuses
  primary_refuses (faults.Damaged it) refuses = primary it refuses
  primary_refuses (faults.Pool fault) refuses = tt

  pub version_refuses : (n holder : ℕ) (l : Link) → Follows view rec n holder l → (fault : SpaceFault)
      → RefusesVersion m store pages view holder l fault → RefusesChain m store pages view rec fault
  version_refuses n holder l follows (faults.Full most) refuses = refuses
  version_refuses n holder l follows (faults.Damaged it) refuses = version n holder l it follows refuses
  version_refuses n holder l follows (faults.Pool fault) refuses = tt

-- after calls that have only read the same pages are shown over an image
pub shown_on : {D L : Type 0} (m : Meaning D) (a b : Pool D L) (image : Image) → KeepsStore m a b
    → shown b.dirty image ≡ shown a.dirty image
shown_on m a b image kept = ap (λ (d : DirtyPages). shown d image) kept.dirty

-- a version that was read after calls that have only read is one of the pages before them
pub met_on : {D L : Type 0} (m : Meaning D) (a b c : Pool D L) (image : Image) (holder : ℕ) (l : Link)
    (result : Result Version SpaceFault) → KeepsStore m a b → Tells m a.disk image
    → ((image : Image) → Tells m b.disk image → MatchResult result (Meets (cells_of (shown b.dirty image)) l)
    (RefusesVersion m c [] (shown b.dirty image) holder l))
    → MatchResult result (Meets (cells_of (shown a.dirty image)) l)
    (RefusesVersion m c [] (shown a.dirty image) holder l)
met_on m a b c image holder l result kept tells gives =
    let P : Pages → Type 0 = λ view. MatchResult result (Meets (cells_of view) l)
    (RefusesVersion m c [] view holder l) in
    subst P (shown_on m a b image kept) (gives image (tells_on m a b image kept tells))

-- ---- the walk

-- a place that is marked was come to before
abbrev pub IsMark : Pages → RecId → ℕ → Option RecId → Type 0
IsMark view rec n None = Unit {0}
IsMark view rec n (Some at) =
    (earlier : ℕ) × (before : ℕ) × (first : Link) × (earlier < n) × (at ≡ first.rec)
    × Follows view rec earlier before first

-- Where a walk stands: the link that it has come to, that the versions from there on are those of the record but for so
-- many, and the mark.
pub record CountsAt (view : Pages) (rec : RecId) (n holder : ℕ) (l : Link) (mark : Option RecId) : Type 0 where
  pub follows : Follows view rec n holder l
  pub onward : (es : List Entry) → first_link es ≡ Some l → AreLinked (cells_of view) es
      → HasCount (cells_of view) rec (n + length es)
  pub marked : IsMark view rec n mark

-- a version that a link met, as one of a list
abbrev entry : Link → Version → Entry
entry l v = record { at = l.rec; version = v; row = [] }

module _ (view : Pages) (rec : RecId) where
  pub count_starts : (found : Option Link) (l : Link) → found ≡ newest_link view rec → found ≡ Some l
      → CountsAt view rec 0 rec.page.0 l None
  count_starts found l is some = record {
    follows = starts l (sym is ∙ some);
    onward = λ es first linked. record {
      versions = es;
      its = record { slot = sym is ∙ (some ∙ sym first); linked = linked };
      many = omega arith;
    };
    marked = tt;
  }

  pub count_none : (found : Option Link) → found ≡ newest_link view rec → found ≡ None
      → HasCount (cells_of view) rec 0
  count_none found is none = record {
    versions = [];
    its = record { slot = sym is ∙ none; linked = tt };
    many = refl;
  }

  module _ (n holder : ℕ) (l : Link) (v : Version) (mark : Option RecId) (walk : CountsAt view rec n holder l mark)
      (meets : Meets (cells_of view) l v) where
    -- the version stands in front of those to which it leads
    in_front : (es : List Entry) → v.back ≡ first_link es → AreLinked (cells_of view) es
        → HasCount (cells_of view) rec (n + length (entry l v ∷ es))
    in_front es back linked = walk.onward (entry l v ∷ es) (λ k. Some (link_to l.rec (meets.by k)))
        (meets.cell ∙ ap (λ (b : Option Link). Some (cells.Version (leading_to v b))) back, linked)

    later_mark : (other : Option RecId) → IsMark view rec n other → IsMark view rec (n + 1) other
    later_mark None is = tt
    later_mark (Some at) (earlier, before, first, less, same, follows) =
        (earlier, before, first, omega arith, same, follows)

    pub count_on : (next : Link) (new : Option RecId) → v.back ≡ Some next → (new ≡ mark) ⊎ (new ≡ Some l.rec)
        → CountsAt view rec (n + 1) l.rec.page.0 next new
    count_on next new back marks = record {
      follows = goes_on n holder l next v walk.follows meets back;
      onward = λ es first linked. subst (HasCount (cells_of view) rec) (omega arith)
          (in_front es (back ∙ sym first) linked);
      marked = at marks;
    }
      where
        at : (new ≡ mark) ⊎ (new ≡ Some l.rec) → IsMark view rec (n + 1) new
        at (inl same) =
            let P : Option RecId → Type 0 = λ it. IsMark view rec (n + 1) it in
            subst P (sym same) (later_mark mark walk.marked)
        at (inr here_) =
            let P : Option RecId → Type 0 = λ it. IsMark view rec (n + 1) it in
            subst P (sym here_) (n, holder, l, omega arith, refl, walk.follows)

    pub count_ends : v.back ≡ None → HasCount (cells_of view) rec (n + 1)
    count_ends back = in_front [] back tt

  module _ {D L : Type 0} (m : Meaning D) (store : Pool D L) (pages : List BatchPage) (n holder : ℕ) (l : Link)
      (mark : Option RecId) (walk : CountsAt view rec n holder l mark) where
    pub count_comes_back : mark ≡ Some l.rec
        → IsChainDamage m store pages view rec (damage holder fields.Link l.rec.page.0 0)
    count_comes_back is =
        let P : Option RecId → Type 0 = λ it. IsMark view rec n it in
        at (subst P is walk.marked)
      where
        at : IsMark view rec n (Some l.rec)
            → IsChainDamage m store pages view rec (damage holder fields.Link l.rec.page.0 0)
        at (earlier, before, first, less, same, follows) =
            comes_back n before holder earlier l first walk.follows follows less same

    pub count_is_long : 2 ^ 32 - 1 ≤ n
        → IsChainDamage m store pages view rec (damage holder fields.Link l.rec.page.0 0)
    count_is_long long = too_long n holder l walk.follows long

-- the damage that is told is the one that is meant
pub damage_at : {D L : Type 0} (m : Meaning D) (store : Pool D L) (pages : List BatchPage) (view : Pages)
    (rec : RecId) (told meant : Damaged) → told ≡ meant → IsChainDamage m store pages view rec meant
    → IsChainDamage m store pages view rec told
damage_at m store pages view rec told meant is it =
    let P : Damaged → Type 0 = λ d. IsChainDamage m store pages view rec d in
    subst P (sym is) it
