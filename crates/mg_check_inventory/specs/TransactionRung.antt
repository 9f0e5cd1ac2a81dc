-- What is found in the transaction inventory of an image.
use Rattle.std.specs.Prelude.{◌≡◌, ◌⊎◌, ◌↔◌, ◌+◌, ◌*◌, ◌-◌, ℕ, zero, suc, true, length}
use Rattle.mg_base.specs.Checks.{PassesAll, verdict}
use Rattle.mg_base.specs.Image.{Image, page_at}
use Rattle.mg_check_pages.specs.PageTests.{undrawn_test}
use Rattle.mg_findings.specs.declared.finding.Finding.{Finding}
use Rattle.mg_findings.specs.Findings.{HasNone, IsFirst, OfFirst, Tells}
use Rattle.mg_header.specs.HeaderPage.{page_checks}
use Rattle.mg_image.specs.Form.{Pages}
use Rattle.mg_image.specs.Inventory.{header_of, is_used, last_sequence, next_of}
use Rattle.mg_image.specs.Sound.{HasTransactions}
use Rattle.mg_tip.specs.TipPage.{places, prev_in, tip_checks}
use Rattle.mg_check_inventory.specs.ImagePages.{IsWholeImage, bit_checks, link_checks, numbered, presence_checks}

-- how many numbers on the transaction inventory page of a sequence are drawn; a greater number
-- where all of them are
abbrev pub drawn_on : ℕ → Pages → ℕ → ℕ
drawn_on size pages sequence = next_of pages - sequence * places size

-- what is found on a transaction inventory page of which the numbers from a place on are not drawn,
-- where its fields are lawful: the first of these numbers that has become something, or else that
-- the page is not marked as used
abbrev pub IsContentFinding : ℕ → Pages → ℕ → ℕ → Finding → Type 0
IsContentFinding size pages n from = OfFirst
    (IsFirst (undrawn_test (pages n) (numbered n) from) (places size))
    (Tells (verdict (numbered n) (bit_checks size pages n)))

-- what is found on the transaction inventory page of a sequence, where it is there
abbrev pub IsPageFinding : ℕ → Pages → ℕ → ℕ → ℕ → Finding → Type 0
IsPageFinding size pages n sequence from = OfFirst
    (Tells (verdict (numbered n) (tip_checks (pages n) n sequence)))
    (IsContentFinding size pages n from)

-- what is found of it in a file with so many pages: that it is absent, or on it
abbrev pub IsThereFinding : ℕ → Pages → ℕ → ℕ → ℕ → ℕ → Finding → Type 0
IsThereFinding size pages count n sequence from = OfFirst
    (Tells (verdict (numbered n) (presence_checks count n)))
    (IsPageFinding size pages n sequence from)

-- what is found of it, and of the link to it, at the page that holds the link
abbrev pub IsTipFinding : ℕ → Pages → ℕ → ℕ → ℕ → ℕ → ℕ → Finding → Type 0
IsTipFinding size pages count holder n sequence from = OfFirst
    (Tells (verdict (numbered holder) (link_checks n)))
    (IsThereFinding size pages count n sequence from)

-- what is found of so many transaction inventory pages from one on, each of which names the one
-- before it: what stands behind a damage is not looked at
abbrev pub IsChainFinding : ℕ → Pages → ℕ → ℕ → ℕ → ℕ → Finding → Type 0
IsChainFinding size pages count holder n zero f = ⊥
IsChainFinding size pages count holder n (suc sequence) f = OfFirst
    (IsTipFinding size pages count holder n sequence (drawn_on size pages sequence))
    (IsChainFinding size pages count n (prev_in (pages n)) sequence) f

-- of all of them, from the last one on, which the header names
abbrev pub IsTipsFinding : ℕ → Pages → ℕ → Finding → Type 0
IsTipsFinding size pages count = IsChainFinding size pages count 0
    (header_of pages).last_tip.0 (last_sequence size pages + 1)

-- what is found in the transaction inventory of an image: that the header page is not marked as
-- used, and one thing at most of the chain of transaction inventory pages
abbrev pub IsTransactionFinding : ℕ → Image → Finding → Type 0
IsTransactionFinding size image f =
    Tells (verdict (numbered 0) (bit_checks size (page_at size image) 0)) f
    ⊎ IsTipsFinding size (page_at size image) (length image) f

-- where the header's fields are lawful, nothing is found exactly where the header page is used and
-- transactions are as a sound image asks it
abbrev pub TransactionLaw : Type 0
TransactionLaw = (size : ℕ) (image : Image) → IsWholeImage size image
    → PassesAll (page_checks (page_at size image 0))
    → HasNone (IsTransactionFinding size image)
    ↔ ((is_used size (page_at size image) 0 ≡ true) × HasTransactions size (page_at size image))
