-- The data pages of a table as a list: one pointer page after another.
use Rattle.std.specs.Prelude.{◌≡◌, ◌≢◌, ◌⊎◌, ◌↔◌, ◌<◌, ◌≤◌, ◌+◌, ◌*◌, ℕ, zero, suc, false, List, [], ◌∷◌, ◌++◌, Result, Ok, Err, IfOk}
use Rattle.std.proofs.Common.{refl, sym, ap, ◌∙◌, inl, inr, arith, subst, add-one, append-nil}
use Rattle.std.specs.declared.alloc.Global.{Global}
use Rattle.std.specs.declared.vec.Vec.{Vec}
use Rattle.std.proofs.lemmas.Bool.{cases_lt}
use Rattle.std.proofs.lemmas.List.{append_assoc}
use Rattle.mg_base.specs.Checks.{verdict}
use Rattle.mg_base.specs.Fields.{u32_at}
use Rattle.mg_base.specs.declared.damage.Damaged.{Damaged}
use Rattle.mg_base.specs.declared.damage.Field.TheVariants.{Link}
use Rattle.mg_base.specs.declared.fields.TheConstants.{SEQUENCE_AT}
use Rattle.mg_base.specs.declared.geometry.TheConstants.{GREATEST_LIMIT}
use Rattle.mg_base.specs.declared.memory.Memory.{Memory}
use Rattle.mg_check_data.specs.DataRung.{IsDataFinding}
use Rattle.mg_check_data.specs.declared.data.DataSeat.{DataSeat}
use Rattle.mg_check_inventory.specs.ImagePages.{lawful_link, link_checks, numbered}
use Rattle.mg_check_tables.proofs.ChainLemmas.{chain_ended, chain_here, chain_next}
use Rattle.mg_check_tables.specs.FewPlaces.{IsToldBelow, places_few}
use Rattle.mg_check_tables.proofs.PointerLemmas.{sequence_of}
use Rattle.mg_check_tables.proofs.TableLemmas.{pages_more, pages_none}
use Rattle.mg_check_tables.specs.Seats.{AreDataPages, AreSeats, AreWanted, IsSeatFinding, entry_seats, seat_on, seat_pages}
use Rattle.mg_check_tables.specs.TableRung.{HasPagesFrom, IsChainFinding, IsEntryBelow, IsEntryFinding, IsPointerFinding, IsTableFinding}
use Rattle.mg_findings.specs.declared.finding.Finding.{Finding}
use Rattle.mg_findings.specs.Findings.{HasNone, Tells, damage_finding}
use Rattle.mg_image.specs.Form.{Pages}
use Rattle.mg_image.specs.Sound.{IsTableData, IsTablePointer}
use Rattle.mg_image.specs.Tables.{PointerChain, ended, entries_in, goes}
use Rattle.mg_pointer.specs.PointerPage.{count_in, entries_of, first_entries, next_in, place_of}

-- ---- lists of seats

-- one entry more
pub entry_more : (b : List ℕ) (owner n place i : ℕ) (seat : DataSeat) (old now new : List DataSeat)
    → seat.holder ≡ n → seat.page ≡ u32_at b (place_of i) → seat.owner ≡ owner
    → seat.place ≡ place + i → now ≡ old ++ entry_seats b owner n place i
    → new ≡ now ++ seat ∷ [] → new ≡ old ++ entry_seats b owner n place (i + 1)
entry_more b owner n place i seat old now new holder page own at before is =
    is ∙ (ap (λ (l : List DataSeat). l ++ seat ∷ []) before
    ∙ (append_assoc old (entry_seats b owner n place i) (seat ∷ [])
    ∙ (ap (λ (s : DataSeat). old ++ (entry_seats b owner n place i ++ s ∷ [])) same
    ∙ ap (λ (k : ℕ). old ++ entry_seats b owner n place k) (sym (add-one i)))))
  where
    same : seat ≡ seat_on b owner n place i
    same = λ k. record { holder = holder k; page = page k; owner = own k; place = at k }

module _ (size : ℕ) (pages : Pages) (count : ℕ) where
  pub seat_append : (xs ys : List DataSeat) (f : Finding) → IsSeatFinding size pages count (xs ++ ys) f
      ↔ (IsSeatFinding size pages count xs f ⊎ IsSeatFinding size pages count ys f)
  seat_append [] ys f = (
    λ found. inr found,
    λ found. elim found [ inl none ↦ absurd none | inr it ↦ it ],
  )
  seat_append (x ∷ xs) ys f = let rest = seat_append xs ys f in (
    λ found. elim found [
      | inl here ↦ inl (inl here)
      | inr later ↦ elim (rest.0 later) [ inl it ↦ inl (inr it) | inr it ↦ inr it ]
    ],
    λ found. elim found [
      | inl first ↦ elim first [ inl here ↦ inl here | inr it ↦ inr (rest.1 (inl it)) ]
      | inr it ↦ inr (rest.1 (inr it))
    ],
  )

  pub wanted_append : (xs ys : List DataSeat) → AreWanted size pages (xs ++ ys)
      → AreWanted size pages xs × AreWanted size pages ys
  wanted_append [] ys all = (tt, all)
  wanted_append (x ∷ xs) ys all =
      let rest = wanted_append xs ys all.1 in ((all.0, rest.0), rest.1)

  -- ---- what is found of those that a page's entries name

  entry_found : (owner n place i : ℕ) (f : Finding)
      → IsSeatFinding size pages count (entry_seats (pages n) owner n place i) f
      ↔ IsEntryBelow size pages count owner n place i f
  entry_found owner n place zero f =
      (λ found. absurd found, λ found. absurd (omega (arith, found.1)))
  entry_found owner n place (suc i) f =
      let before = entry_found owner n place i f in
      let parts = seat_append (entry_seats (pages n) owner n place i)
      (seat_on (pages n) owner n place i ∷ []) f in (
        λ found. elim (parts.0 found) [
          | inl first ↦ (let it = before.0 first in (it.0, omega (arith, it.1), it.2))
          | inr last ↦ elim last [ inl here ↦ (i, omega arith, here) | inr none ↦ absurd none ]
        ],
        λ found. parts.1 (elim (cases_lt found.0 i) [
          | inl less ↦ inl (before.1 (found.0, less, found.2))
          | inr past ↦ inr (inl (subst (λ (k : ℕ).
              IsDataFinding size pages count (seat_on (pages n) owner n place k) f)
              (last found.0 found.1 past) found.2))
        ]),
      )
    where
      last : (k : ℕ) → k < suc i → i ≤ k → k ≡ i
      last k below past = omega (arith, below, past)

  entry_wanted : (owner n place i : ℕ) → AreWanted size pages (entry_seats (pages n) owner n place i)
      → (k : ℕ) → k < i → IsTableData false size pages owner (place + k) (u32_at (pages n) (place_of k))
  entry_wanted owner n place zero all k below = absurd (omega (arith, below))
  entry_wanted owner n place (suc i) all k below =
      let parts = wanted_append (entry_seats (pages n) owner n place i)
      (seat_on (pages n) owner n place i ∷ []) all in elim (cases_lt k i) [
        | inl less ↦ entry_wanted owner n place i parts.0 k less
        | inr past ↦ subst (λ (j : ℕ).
            IsTableData false size pages owner (place + j) (u32_at (pages n) (place_of j)))
            (last k below past) parts.1.0
      ]
    where
      last : (k : ℕ) → k < suc i → i ≤ k → i ≡ k
      last k below past = omega (arith, below, past)

-- ---- the pages that seats name

pages_append : (xs ys : List DataSeat) → seat_pages (xs ++ ys) ≡ seat_pages xs ++ seat_pages ys
pages_append [] ys = refl
pages_append (x ∷ xs) ys = ap (λ (ns : List ℕ). x.page ∷ ns) (pages_append xs ys)

entry_pages : (b : List ℕ) (owner n place i : ℕ)
    → seat_pages (entry_seats b owner n place i) ≡ first_entries b i
entry_pages b owner n place zero = refl
entry_pages b owner n place (suc i) =
    pages_append (entry_seats b owner n place i) (seat_on b owner n place i ∷ [])
    ∙ ap (λ (ns : List ℕ). ns ++ u32_at b (place_of i) ∷ []) (entry_pages b owner n place i)

-- those of a whole page
page_entries : (b : List ℕ) (owner n place : ℕ)
    → seat_pages (entry_seats b owner n place (count_in b)) ≡ entries_of b
unfolding entries_of
page_entries b owner n place = entry_pages b owner n place (count_in b)

-- with the entries of the pointer pages from one on they are those of all pointer pages
abbrev AreListed : Pages → ℕ → List DataSeat → ℕ → Type 0
AreListed pages first seats n = (rest : List ℕ) → PointerChain pages n rest
    → (pointers : List ℕ) × PointerChain pages first pointers
    × (seat_pages seats ++ entries_in pages rest ≡ entries_in pages pointers)

listed_page : (pages : Pages) (first : ℕ) (seats new : List DataSeat) (n next place : ℕ) → n ≢ 0
    → next ≡ next_in (pages n)
    → new ≡ seats ++ entry_seats (pages n) first n place (count_in (pages n))
    → AreListed pages first seats n → AreListed pages first new next
listed_page pages first seats new n next place some next_is added before rest chain =
    let whole = before (n ∷ rest) (goes n rest some
    (subst (λ (k : ℕ). PointerChain pages k rest) next_is chain)) in
    (whole.0, whole.1, same ∙ whole.2)
  where
    same : seat_pages new ++ entries_in pages rest
        ≡ seat_pages seats ++ (entries_of (pages n) ++ entries_in pages rest)
    same = ap (λ (ns : List ℕ). ns ++ entries_in pages rest)
        (ap seat_pages added ∙ (pages_append seats (entry_seats (pages n) first n place (count_in (pages n)))
        ∙ ap (λ (ns : List ℕ). seat_pages seats ++ ns) (page_entries (pages n) first n place)))
        ∙ append_assoc (seat_pages seats) (entries_of (pages n)) (entries_in pages rest)

-- where the chain ends they are all
listed_all : (pages : Pages) (first : ℕ) (seats : List DataSeat) (n : ℕ) → n ≡ 0
    → AreListed pages first seats n → AreDataPages pages first (seat_pages seats)
listed_all pages first seats n none listed =
    let whole = listed [] (subst (λ (k : ℕ). PointerChain pages k []) (sym none) ended) in record {
      pointers = whole.0;
      chain = whole.1;
      entries = sym (append-nil (seat_pages seats)) ∙ whole.2;
    }

-- ---- the walk

-- How far a walk over the pointer pages has come, with these data pages in its list.
pub record IsListing (size : ℕ) (pages : Pages) (count holder first : ℕ) (seats : List DataSeat)
    (from n at place : ℕ) : Type 0 where
  pub members : (f : Finding) → IsChainFinding size pages count first holder first 0 0 f
      ↔ (IsSeatFinding size pages count seats f
      ⊎ IsChainFinding size pages count first from n at place f)
  pub decided : AreWanted size pages seats → HasPagesFrom size pages first n at place
      → HasPagesFrom size pages first first 0 0
  pub told : (k : ℕ) → k < at → IsToldBelow (λ m. u32_at (pages m) SEQUENCE_AT) GREATEST_LIMIT k
  pub room : place ≤ 16378 * at
  pub listed : AreListed pages first seats n

pub listing_first : (size : ℕ) (pages : Pages) (count holder first : ℕ) (seats : List DataSeat)
    → seats ≡ [] → IsListing size pages count holder first seats holder first 0 0
listing_first size pages count holder first seats empty = subst
    (λ (s : List DataSeat). IsListing size pages count holder first s holder first 0 0) (sym empty)
    (record {
      members = λ f. (
        λ found. inr found,
        λ found. elim found [ inl none ↦ absurd none | inr it ↦ it ],
      );
      decided = λ all has. has;
      told = λ k below. absurd (omega (arith, below));
      room = omega arith;
      listed = λ rest chain. (rest, chain, refl);
    })

module _ (size : ℕ) (pages : Pages) (count holder first : ℕ) (seats : List DataSeat)
    (from n at place : ℕ) (is : IsListing size pages count holder first seats from n at place) where
  pub listed_few : at ≤ GREATEST_LIMIT
  listed_few = places_few GREATEST_LIMIT at (λ m. u32_at (pages m) SEQUENCE_AT) is.told

  told_more : IsTablePointer size pages first at n → (k : ℕ) → k < at + 1
      → IsToldBelow (λ m. u32_at (pages m) SEQUENCE_AT) GREATEST_LIMIT k
  told_more pointer k below = elim (cases_lt k at) [
    | inl less ↦ is.told k less
    | inr past ↦ (
      n,
      pointer.below,
      sequence_of size pages first at n pointer ∙ last k below past,
    )
  ]
    where
      last : (k : ℕ) → k < at + 1 → at ≤ k → at ≡ k
      last k below past = omega (arith, below, past)

  pub listed_more : IsTablePointer size pages first at n → at + 1 ≤ GREATEST_LIMIT
  listed_more pointer =
      places_few GREATEST_LIMIT (at + 1) (λ m. u32_at (pages m) SEQUENCE_AT) (told_more pointer)

  -- what is found from the first page on is what is found in the table, where there is one
  table_some : first ≢ 0 → (f : Finding) → IsTableFinding size pages count holder first f
      ↔ IsChainFinding size pages count first holder first 0 0 f
  table_some some f = (
    λ found. elim found [ inl none ↦ absurd (some none.0) | inr chain ↦ chain ],
    λ chain. inr chain,
  )

  -- the walk ends at a damage,
  pub listing_stops : (damage : Damaged) (test : Result (Unit {0}) Damaged) → first ≢ 0 → n ≢ 0
      → test ≡ Err damage
      → ((f : Finding) → Tells test f ↔ IsPointerFinding size pages count from n first at f)
      → AreSeats size pages count holder first seats (Err damage)
  listing_stops damage test has some failed tells = record {
    members = λ f.
        let all_ = chain_here size pages count first from n at place damage test some failed tells f in
        let table = table_some has f in (
          λ found. elim ((is.members f).0 (table.0 found)) [
            | inl seat ↦ inr seat
            | inr chain ↦ inl (all_.1 chain)
          ],
          λ found. table.1 ((is.members f).1 (elim found [
            | inl told ↦ inr (all_.0 told)
            | inr seat ↦ inl seat
          ])),
        );
    decided = λ passed. absurd cc;
    listed = λ passed. absurd cc;
  }

  -- or where the chain does,
  pub listing_ends : first ≢ 0 → n ≡ 0 → AreSeats size pages count holder first seats (Ok tt)
  listing_ends has none = record {
    members = λ f. let table = table_some has f in (
      λ found. elim ((is.members f).0 (table.0 found)) [
        | inl seat ↦ inr seat
        | inr chain ↦ absurd (chain_ended size pages count first from n at place f none chain)
      ],
      λ found. table.1 ((is.members f).1 (elim found [
        | inl told ↦ absurd told
        | inr seat ↦ inl seat
      ])),
    );
    decided = λ passed all. record {
      some = has;
      whole = is.decided all (pages_none size pages first n at place none);
    };
    listed = λ passed. listed_all pages first seats n none is.listed;
  }

  -- or it goes on
  pub listing_goes_on : (new : List DataSeat) (b : List ℕ) (next many : ℕ)
      (test : Result (Unit {0}) Damaged) → n ≢ 0 → test ≡ Ok tt
      → ((f : Finding) → Tells test f ↔ IsPointerFinding size pages count from n first at f)
      → IsTablePointer size pages first at n → b ≡ pages n
      → new ≡ seats ++ entry_seats b first n place (count_in b)
      → next ≡ next_in b → many ≡ count_in b → many ≤ 16378
      → IsListing size pages count holder first new n next (at + 1) (place + many)
  listing_goes_on new b next many test some passed tells pointer same added next_is many_is few =
      record {
        members = λ f.
            let parts = split f in
            let seats_ = found f in (
              λ chain. elim ((is.members f).0 chain) [
                | inl seat ↦ inl (seats_.1 (inl seat))
                | inr rest ↦ elim (parts.0 rest) [
                  | inl entry ↦ inl (seats_.1 (inr entry))
                  | inr later ↦ inr later
                ]
              ],
              λ all. (is.members f).1 (elim all [
                | inl seat ↦ elim (seats_.0 seat) [
                  | inl before ↦ inl before
                  | inr entry ↦ inr (parts.1 (inl entry))
                ]
                | inr later ↦ inr (parts.1 (inr later))
              ]),
            );
        decided = λ all rest.
            let both = wanted_append size pages count seats (entry_seats (pages n) first n place
            (count_in (pages n))) (subst (AreWanted size pages) whole all) in
            is.decided both.0 (pages_more size pages first n at place next many some pointer
            (entry_wanted size pages count first n place (count_in (pages n)) both.1) next_here
            many_here rest);
        told = told_more pointer;
        room = omega (arith, is.room, few);
        listed = listed_page pages first seats new n next place some next_here whole is.listed;
      }
    where
      next_here : next ≡ next_in (pages n)
      next_here = next_is ∙ ap next_in same

      many_here : many ≡ count_in (pages n)
      many_here = many_is ∙ ap count_in same

      whole : new ≡ seats ++ entry_seats (pages n) first n place (count_in (pages n))
      whole = added ∙ ap (λ (p : List ℕ). seats ++ entry_seats p first n place (count_in p)) same

      split : (f : Finding) → IsChainFinding size pages count first from n at place f
          ↔ (IsEntryFinding size pages count first n place f
          ⊎ IsChainFinding size pages count first n next (at + 1) (place + many) f)
      split f = chain_next size pages count first from n at place next many test some passed tells
          next_here many_here f

      found : (f : Finding) → IsSeatFinding size pages count new f
          ↔ (IsSeatFinding size pages count seats f
          ⊎ IsEntryFinding size pages count first n place f)
      found f =
          let parts = seat_append size pages count seats
          (entry_seats (pages n) first n place (count_in (pages n))) f in
          let entry = entry_found size pages count first n place (count_in (pages n)) f in (
            λ it. elim (parts.0 (subst (λ (l : List DataSeat). IsSeatFinding size pages count l f)
                whole it)) [
                  | inl before ↦ inl before
                  | inr here ↦ inr (entry.0 here)
                ],
            λ it. subst (λ (l : List DataSeat). IsSeatFinding size pages count l f) (sym whole)
                (parts.1 (elim it [
                  | inl before ↦ inl before
                  | inr here ↦ inr (entry.1 here)
                ])),
          )

-- ---- a table without a first pointer page

no_seats : (size : ℕ) (pages : Pages) (count holder first : ℕ) (test : Result (Unit {0}) Damaged)
    → first ≡ 0 → test ≡ verdict (numbered holder) (link_checks first)
    → AreSeats size pages count holder first [] test
no_seats size pages count holder first test none is = record {
  members = λ f. (
    λ found. elim found [
      | inl told ↦ inl (subst (λ (t : Result (Unit {0}) Damaged). Tells t f) (sym is) told.1)
      | inr chain ↦ absurd (chain_ended size pages count first holder first 0 0 f none chain)
    ],
    λ found. elim found [
      | inl told ↦ inl (none, subst (λ (t : Result (Unit {0}) Damaged). Tells t f) is told)
      | inr empty ↦ absurd empty
    ],
  );
  decided = λ passed. absurd (failed (sym passed ∙ (is ∙ sym told)));
  listed = λ passed. absurd (failed (sym passed ∙ (is ∙ sym told)));
}
  where
    damage : Damaged
    damage = record {
      page = numbered holder;
      field = Link;
      found = 0;
      wanted = lawful_link 0;
    }

    told : ◌≡◌ {A = Result (Unit {0}) Damaged} (Err damage)
        (verdict (numbered holder) (link_checks first))
    told = rw none refl

    failed : ◌≡◌ {A = Result (Unit {0}) Damaged} (Ok tt) (Err damage) → ⊥
    failed same = absurd cc

pub zero_seats : (size : ℕ) (pages : Pages) (count holder first : ℕ) (seats : List DataSeat)
    (test : Result (Unit {0}) Damaged) → seats ≡ [] → first ≡ 0
    → test ≡ verdict (numbered holder) (link_checks first)
    → AreSeats size pages count holder first seats test
zero_seats size pages count holder first seats test empty none is =
    subst (λ (s : List DataSeat). AreSeats size pages count holder first s test) (sym empty)
    (no_seats size pages count holder first test none is)

-- ---- a table in which nothing is found

pub never_failed : (size : ℕ) (pages : Pages) (count holder first : ℕ) (seats : List DataSeat)
    (test : Result (Unit {0}) Damaged) (damage : Damaged)
    → AreSeats size pages count holder first seats test
    → HasNone (IsTableFinding size pages count holder first) → test ≡ Err damage → ⊥
never_failed size pages count holder first seats test damage are none failed =
    none (damage_finding damage) ((are.members (damage_finding damage)).1
    (inl (subst (λ (t : Result (Unit {0}) Damaged). Tells t (damage_finding damage)) (sym failed) refl)))

pub passed_pages : (size : ℕ) (pages : Pages) (count holder first : ℕ) (seats items : List DataSeat)
    (test : Result (Unit {0}) Damaged) (result : Result (Vec ℕ Global) Memory)
    → AreSeats size pages count holder first items test → test ≡ Ok tt → seats ≡ items
    → IfOk result (λ numbers. numbers.items ≡ seat_pages seats)
    → IfOk result (λ numbers. AreDataPages pages first numbers.items)
passed_pages size pages count holder first seats items test (Ok numbers) are passed same told =
    subst (AreDataPages pages first) (sym (told ∙ ap seat_pages same)) (are.listed passed)
passed_pages size pages count holder first seats items test (Err fault) are passed same told = tt
