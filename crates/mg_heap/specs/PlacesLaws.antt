-- Laws of the data page at a place: where a table's pointer pages are whole, it is the one that they list
-- there.
use Rattle.std.specs.Prelude.{◌≡◌, ◌<◌, ◌≤◌, ◌+◌, ◌⊎◌, ℕ, List, [], ◌∷◌, ◌++◌, None, Some, length}
use Rattle.std.proofs.Common.{refl, sym, ap, ◌∙◌, arith, inl, inr, length-append, get_or}
use Rattle.std.proofs.lemmas.Grind.{flat_map-append}
use Rattle.std.proofs.lemmas.List.{append-nil, get_or_append_left}
use Rattle.mg_base.specs.declared.numbers.PageNo.{PageNo}
use Rattle.mg_image.specs.Form.{Pages}
use Rattle.mg_image.specs.Tables.{LinkChain, entries_in}
use Rattle.mg_pointer.specs.PointerPage.{entries_of, next_in}
use Rattle.mg_heap.specs.Places.{FindsPlace, IsFront}
use Rattle.mg_heap.specs.Table.{IsTable, LinkRun, more, none}
use Rattle.mg_heap.specs.TableLaws.{chain_none, chain_opens}

-- a run is the first part of the chain
run_part : (next : ℕ → ℕ) (first n : ℕ) (ps qs : List ℕ) → LinkRun next first ps n
    → LinkChain next first qs → (later : List ℕ) × (qs ≡ ps ++ later) × LinkChain next n later
run_part next first n ps qs (none k) chain = (qs, refl, chain)
run_part next first n ps qs (more f k ms some run) chain =
    at (chain_opens next f qs chain) (λ later on. run_part next (next f) n ms later run on)
  where
    at : ((f ≡ 0) × (qs ≡ [])) ⊎ ((later : List ℕ) × (qs ≡ f ∷ later) × LinkChain next (next f) later)
        → ((later : List ℕ) → LinkChain next (next f) later
        → (rest : List ℕ) × (later ≡ ms ++ rest) × LinkChain next n rest)
        → (rest : List ℕ) × (qs ≡ f ∷ (ms ++ rest)) × LinkChain next n rest
    at (inl (zero_, empty)) further = absurd (some zero_)
    at (inr (later, is, on)) further =
        let found = further later on in
        (found.0, is ∙ ap (λ (xs : List ℕ). f ∷ xs) found.1, found.2)

module _ (pages : Pages) (owner : ℕ) (pointers data_pages : List ℕ)
    (table : IsTable pages owner pointers data_pages) where
  -- what first pointer pages list comes first in the table, and is all of it where they lead to no page
  pub front_part : (ps ds : List ℕ) (next : ℕ) → IsFront pages owner ps ds next
      → (rest : List ℕ) × (data_pages ≡ ds ++ rest) × (next ≡ 0 → rest ≡ [])
  front_part ps ds next front = (
    entries_in pages part.0,
    table.entries ∙ (ap (entries_in pages) part.1
        ∙ (flat_map-append (λ (n : ℕ). entries_of (pages n)) ps part.0
        ∙ ap (λ (xs : List ℕ). xs ++ entries_in pages part.0) (sym front.entries))),
    (λ zero_. ap (entries_in pages)
        (chain_none (λ (n : ℕ). next_in (pages n)) next part.0 part.2 zero_)),
  )
    where
      part : (later : List ℕ) × (pointers ≡ ps ++ later)
          × LinkChain (λ n. next_in (pages n)) next later
      part = run_part (λ (n : ℕ). next_in (pages n)) owner next ps pointers front.leads.run table.chain

  -- the page that is found at a place stands there
  pub place_there : (place : ℕ) (page : PageNo) → FindsPlace pages owner place (Some page)
      → (place < length data_pages) × (get_or data_pages place 0 ≡ page.0)
  place_there place page it = (
    (let inside = it.is_entry.0 in
        omega (arith, inside, ap (length {A = ℕ}) part.1, length-append it.data_pages part.0)),
    ap (λ (xs : List ℕ). get_or xs place 0) part.1
        ∙ (get_or_append_left it.data_pages part.0 0 place it.is_entry.0 ∙ it.is_entry.1),
  )
    where
      part : (rest : List ℕ) × (data_pages ≡ it.data_pages ++ rest) × (it.next ≡ 0 → rest ≡ [])
      part = front_part it.pointers it.data_pages it.next it.front

  -- where none is found, the table has so few
  pub none_there : (place : ℕ) → FindsPlace pages owner place None → length data_pages ≤ place
  none_there place it =
      let few = it.is_entry.1 in
      omega (
        arith,
        few,
        ap (length {A = ℕ}) (part.1
            ∙ (ap (λ (xs : List ℕ). it.data_pages ++ xs) (part.2 it.is_entry.0) ∙ append-nil it.data_pages)),
      )
    where
      part : (rest : List ℕ) × (data_pages ≡ it.data_pages ++ rest) × (it.next ≡ 0 → rest ≡ [])
      part = front_part it.pointers it.data_pages it.next it.front
