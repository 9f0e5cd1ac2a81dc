-- The careful-write law: whatever part of the changed pages a crash leaves on the disk, the page
-- image stays linked, if what each page demands of other pages is written first.
use Rattle.std.specs.Prelude.{◌≡◌, ◌≢◌, ℕ, Bool, true, false, not, ◌&&◌, ◌||◌, ◌==◌, ◌⊎◌}
use Rattle.std.specs.Prelude.{List, [], ◌∷◌, if◌then◌else◌}
use Rattle.mg_careful.specs.declared.links.Demand.{Demand}
use Rattle.mg_careful.specs.Precedence.{Orders, Precedes}

-- the content of every page, by its number
abbrev pub Pages : Type 0
Pages = ℕ → List ℕ

-- a set of pages, as a test
abbrev pub PageSet : Type 0
PageSet = ℕ → Bool

-- what a wanted thing demands in turn, by the content of its target page
abbrev pub Demands : Type 0
Demands = List ℕ → Demand → List Demand

-- whether the content of its target page has what is wanted
abbrev pub Meets : Type 0
Meets = List ℕ → Demand → Bool

-- what the bytes of the page of a number have to be
abbrev pub Lawful : Type 1
Lawful = ℕ → List ℕ → Type 0

-- a demand is in a list
abbrev pub Has : List Demand → Demand → Type 0
Has [] d = ⊥
Has (x ∷ xs) d = (d ≡ x) ⊎ Has xs d

-- A set of demands, as a test of a demand and a witness, which is a list of numbers. A set that can
-- be decided looks at no witness. "Some record of the image has it" names the record by a witness.
abbrev pub DemandSet : Type 0
DemandSet = Demand → List ℕ → Bool

-- a demand is in a set: some witness passes
abbrev pub IsIn : DemandSet → Demand → Type 0
IsIn set_ d = (witness : List ℕ) × (set_ d witness ≡ true)

-- whether two demands are the same
abbrev pub is_same : Demand → Demand → Bool
is_same d e = d.target == e.target && (d.what == e.what && (d.a == e.a && d.b == e.b))

-- the members of a list as a set
abbrev pub listed : List Demand → DemandSet
listed [] d witness = false
listed (x ∷ xs) d witness = is_same d x || listed xs d witness

-- what is in a list is in the set of its members, and nothing else
abbrev pub ListsAreSets : Type 0
ListsAreSets = (list : List Demand) (d : Demand)
    → (Has list d → IsIn (listed list) d) × (IsIn (listed list) d → Has list d)

-- an image keeps a set of demands: each member is met by its target page, and each demand that the
-- member makes in turn from that page is in the set
pub record KeepsDemands (demands : Demands) (meets : Meets) (image : Pages) (set_ : DemandSet)
    : Type 0 where
  pub met : (d : Demand) → IsIn set_ d → meets (image d.target) d ≡ true
  pub in_turn : (d e : Demand) → IsIn set_ d → Has (demands (image d.target) d) e → IsIn set_ e

-- an image is linked from some roots: it keeps a set that contains them
pub record IsLinked (demands : Demands) (meets : Meets) (image : Pages) (roots : DemandSet)
    : Type 0 where
  pub set_ : DemandSet
  pub keeps : KeepsDemands demands meets image set_
  pub rooted : (d : Demand) → IsIn roots d → IsIn set_ d

-- a cache of pages over a disk: the disk's image, the pool's image, which pages are dirty, and how
-- they are ordered
pub record Cache : Type 0 where
  pub disk : Pages
  pub pool : Pages
  pub dirty : PageSet
  pub ordered : Orders

-- a set is closed: it has dirty pages alone, and with each of its members every dirty page that
-- precedes the member
pub record IsClosed (cache : Cache) (set_ : PageSet) : Type 0 where
  pub only_dirty : (p : ℕ) → set_ p ≡ true → cache.dirty p ≡ true
  pub before : (p q : ℕ) → Precedes cache.ordered p q → cache.dirty p ≡ true → set_ q ≡ true
      → set_ p ≡ true

-- the overlay of a set: the pool's content of just its pages, laid over the disk's image
abbrev pub overlay : Cache → PageSet → Pages
overlay cache set_ n = if set_ n then cache.pool n else cache.disk n

-- the members of a set whose target passes a test
abbrev pub aimed_at : PageSet → DemandSet → DemandSet
aimed_at test set_ d witness = test d.target && set_ d witness

-- the members of two sets
abbrev pub either : DemandSet → DemandSet → DemandSet
either one other d witness = one d witness || other d witness

-- the set of three parts: the pool's demands on pages of the set, the disk's demands on dirty pages
-- outside the set, and the demands of either on clean pages
abbrev pub three_parts : Cache → PageSet → DemandSet → DemandSet → DemandSet
three_parts cache set_ of_disk of_pool =
    either (aimed_at set_ of_pool)
    (either (aimed_at (λ p. cache.dirty p && not (set_ p)) of_disk)
    (aimed_at (λ p. not (cache.dirty p)) (either of_disk of_pool)))

-- What a writer owes for a cache: the disk's image keeps one set of demands, the pool's image
-- another, and the orders bear what is not yet on the disk.
pub record BearsDemands (demands : Demands) (meets : Meets) (cache : Cache)
    (of_disk of_pool : DemandSet) : Type 0 where
  pub disk_keeps : KeepsDemands demands meets cache.disk of_disk
  pub pool_keeps : KeepsDemands demands meets cache.pool of_pool
  -- what a page of the pool demands of another dirty page is kept on the disk already, or that
  -- page precedes it
  pub new : (d e : Demand) → IsIn of_pool d → Has (demands (cache.pool d.target) d) e
      → e.target ≢ d.target → cache.dirty e.target ≡ true
      → IsIn of_disk e ⊎ Precedes cache.ordered e.target d.target
  -- what a page of the disk demands of another dirty page is kept in the pool still, or it precedes
  -- that page
  pub old : (d e : Demand) → IsIn of_disk d → Has (demands (cache.disk d.target) d) e
      → e.target ≢ d.target → cache.dirty e.target ≡ true
      → IsIn of_pool e ⊎ Precedes cache.ordered d.target e.target

-- the writer is careful: he bears the demands, the disk's image and the pool's differ on dirty pages
-- alone, and only dirty pages are ordered
pub record IsCareful (demands : Demands) (meets : Meets) (cache : Cache)
    (of_disk of_pool : DemandSet) : Type 0 where
  pub bears : BearsDemands demands meets cache of_disk of_pool
  pub clean : (p : ℕ) → cache.dirty p ≡ false → cache.pool p ≡ cache.disk p
  pub only_dirty : (p q : ℕ) → cache.ordered p q ≡ true
      → (cache.dirty p ≡ true) × (cache.dirty q ≡ true)

-- an overlay is safe: it keeps the set of three parts, which contains what both sets contain, and so
-- it is linked from all roots that both contain
pub record IsSafeOverlay (demands : Demands) (meets : Meets) (cache : Cache) (set_ : PageSet)
    (of_disk of_pool : DemandSet) : Type 0 where
  pub keeps : KeepsDemands demands meets (overlay cache set_)
      (three_parts cache set_ of_disk of_pool)
  pub both : (d : Demand) → IsIn of_disk d → IsIn of_pool d
      → IsIn (three_parts cache set_ of_disk of_pool) d
  pub linked : (roots : DemandSet)
      → ((d : Demand) → IsIn roots d → IsIn of_disk d × IsIn of_pool d)
      → IsLinked demands meets (overlay cache set_) roots

-- the law: under a careful writer the overlay of every closed set is safe
abbrev pub CarefulWrite : Demands → Meets → Type 0
CarefulWrite demands meets = (cache : Cache) (of_disk of_pool : DemandSet)
    → IsCareful demands meets cache of_disk of_pool
    → (set_ : PageSet) → IsClosed cache set_
    → IsSafeOverlay demands meets cache set_ of_disk of_pool
