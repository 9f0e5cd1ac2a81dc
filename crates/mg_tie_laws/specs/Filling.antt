-- What a statement fills into one batch: several records of one table, and pages that nothing names yet.
use Rattle.mg_base.specs.Image.{Image}
use Rattle.mg_base.specs.declared.numbers.RecId.{RecId}
use Rattle.mg_careful.specs.declared.graph.Order.{Order}
use Rattle.mg_chain.specs.Writing.{GivesSpot, MakesRecord}
use Rattle.mg_heap.specs.Growth.{AddsOrders}
use Rattle.mg_image.specs.Form.{Row}
use Rattle.mg_pool.specs.Batch.{Changed, PutsPage}
use Rattle.mg_pool.specs.declared.pool.Pool.{Pool}
use Rattle.mg_space.specs.Taking.{PutsInventory, TakesPage}
use Rattle.mg_space.specs.View.{viewed}
use Rattle.mg_version.specs.declared.cell.Version.{Version}
use Rattle.std.proofs.Common.{List, inl, inr, length, ℕ, ◌≡◌, ◌⊎◌}

-- A row that is written: where its record begins, its version, and the values that this codes.
pub record NewRow : Type 0 where
  pub at : RecId
  pub version : Version
  pub row : Row

-- A free page is taken, and then it has other bytes, a page of them. In between the batch is `taken`.
pub record TakesAndMakes {D L : Type 0} (store : Pool D L) (image : Image) (old new : Changed) (n : ℕ)
    (bytes : List ℕ) : Type 0 where
  pub taken : Changed
  pub bit : PutsInventory store.geometry old taken n
  pub takes : TakesPage store.geometry (viewed store image old) (viewed store image taken) n
  pub puts : PutsPage taken new n bytes
  pub len : length bytes ≡ store.geometry.size

-- A batch is filled, step by step: a free page is taken and made, as the first pointer page of a new table;
-- orders come to it; or a record of the table is made, at a place that was given for it, with its first
-- version. Of each row something holds.
pub data Fills {D L : Type 0} (store : Pool D L) (image : Image) (owner : ℕ) (P : NewRow → Type 0)
    : Changed → Changed → Type 0 where
  filled : (b : Changed) → Fills store image owner P b b
  takes : (old made new : Changed) (n : ℕ) (bytes : List ℕ)
      → TakesAndMakes store image old made n bytes
      → Fills store image owner P made new → Fills store image owner P old new
  orders_more : (old mid new : Changed) (os : List Order) → AddsOrders old mid os
      → Fills store image owner P mid new → Fills store image owner P old new
  makes : (old given made new : Changed) (row : NewRow) → P row
      → GivesSpot store image old given owner row.at
      → MakesRecord store image given made owner row.at row.version
      → Fills store image owner P made new → Fills store image owner P old new

-- what holds of each row may be said in other words
pub fills_as : {D L : Type 0} (store : Pool D L) (image : Image) (owner : ℕ) (P Q : NewRow → Type 0)
    → ((row : NewRow) → P row → Q row) → (old new : Changed) → Fills store image owner P old new
    → Fills store image owner Q old new
fills_as store image owner P Q gives old new (filled b) = filled b
fills_as store image owner P Q gives old new (takes a b c n bytes taken more) =
    takes a b c n bytes taken (fills_as store image owner P Q gives b c more)
fills_as store image owner P Q gives old new (orders_more a b c os adds more) =
    orders_more a b c os adds (fills_as store image owner P Q gives b c more)
fills_as store image owner P Q gives old new (makes a b c d row is spot record_ more) =
    makes a b c d row (gives row is) spot record_ (fills_as store image owner P Q gives c d more)

-- a page was taken in it, and made with these bytes
abbrev pub HasTaken : {D L : Type 0} (store : Pool D L) (image : Image) (owner : ℕ) (P : NewRow → Type 0)
    (old new : Changed) → Fills store image owner P old new → ℕ → List ℕ → Type 0
HasTaken store image owner P old new (filled b) n bytes = ⊥
HasTaken store image owner P old new (takes a b c k content taking more) n bytes =
    ((n ≡ k) × (bytes ≡ content)) ⊎ HasTaken store image owner P b new more n bytes
HasTaken store image owner P old new (orders_more a b c os adds more) n bytes =
    HasTaken store image owner P b new more n bytes
HasTaken store image owner P old new (makes a b c d row is spot record_ more) n bytes =
    HasTaken store image owner P c new more n bytes

-- and so it is where of each row something else is said
pub taken_as : {D L : Type 0} (store : Pool D L) (image : Image) (owner : ℕ) (P Q : NewRow → Type 0)
    (gives : (row : NewRow) → P row → Q row) (old new : Changed) (fills : Fills store image owner P old new)
    (n : ℕ) (bytes : List ℕ) → HasTaken store image owner P old new fills n bytes
    → HasTaken store image owner Q old new (fills_as store image owner P Q gives old new fills) n bytes
unfolding fills_as
taken_as store image owner P Q gives old new (filled b) n bytes has_ = has_
taken_as store image owner P Q gives old new (takes a b c k content taking more) n bytes (inl here_) = inl here_
taken_as store image owner P Q gives old new (takes a b c k content taking more) n bytes (inr later_) =
    inr (taken_as store image owner P Q gives b c more n bytes later_)
taken_as store image owner P Q gives old new (orders_more a b c os adds more) n bytes has_ =
    taken_as store image owner P Q gives b c more n bytes has_
taken_as store image owner P Q gives old new (makes a b c d row is spot record_ more) n bytes has_ =
    taken_as store image owner P Q gives c d more n bytes has_
