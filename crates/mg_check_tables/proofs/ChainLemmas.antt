-- The walk over the pointer pages of a table.
use Rattle.std.specs.Prelude.{◌≡◌, ◌≢◌, ◌↔◌, ◌⊎◌, ◌<◌, ◌≤◌, ◌+◌, ◌*◌, ℕ, List, Result, Ok, Err, OnOk}
use Rattle.std.proofs.Common.{refl, sym, ◌∙◌, inl, inr, arith, subst}
use Rattle.std.proofs.lemmas.Bool.{cases_lt}
use Rattle.mg_base.specs.Checks.{verdict}
use Rattle.mg_base.specs.Fields.{u32_at}
use Rattle.mg_base.specs.declared.damage.Damaged.{Damaged}
use Rattle.mg_base.specs.declared.damage.Field.TheVariants.{Link}
use Rattle.mg_base.specs.declared.fields.TheConstants.{SEQUENCE_AT}
use Rattle.mg_base.specs.declared.geometry.TheConstants.{GREATEST_LIMIT}
use Rattle.mg_base.specs.declared.memory.Memory.{Memory}
use Rattle.mg_check_data.specs.DataRung.{HasOne}
use Rattle.mg_check_tables.specs.FewPlaces.{IsToldBelow, places_few}
use Rattle.mg_check_tables.proofs.PointerLemmas.{sequence_of}
use Rattle.mg_check_tables.proofs.TableLemmas.{pages_more, pages_none}
use Rattle.mg_check_inventory.specs.ImagePages.{lawful_link, link_checks, numbered}
use Rattle.mg_check_tables.specs.TableRung.{HasEntries, HasPagesFrom, HasTable, IsChainFinding, IsEntryFinding, IsPointerFinding, IsTableFinding}
use Rattle.mg_check_tables.specs.TableRung.{of_page, of_entry, of_next}
use Rattle.mg_findings.specs.declared.finding.Finding.{Finding}
use Rattle.mg_findings.specs.Findings.{Adds, Has, HasNone, Tells, damage_finding}
use Rattle.mg_findings.specs.RungLaws.{none_from_passed}
use Rattle.mg_image.specs.Form.{Pages}
use Rattle.mg_image.specs.Sound.{IsTablePointer}
use Rattle.mg_pointer.specs.PointerPage.{count_in, next_in}

-- How far a walk over a table's pointer pages has come: at this page, which the one before it names,
-- at this place of the chain and with this place for its first entry.
pub record IsAt (size : ℕ) (pages : Pages) (count holder first : ℕ) (old now : List Finding)
    (from n at place : ℕ) : Type 0 where
  -- what was found, and what is found from here on, is what was there and what is found in all
  pub adds : (f : Finding) → (Has old f ⊎ IsChainFinding size pages count first holder first 0 0 f)
      ↔ (Has now f ⊎ IsChainFinding size pages count first from n at place f)
  pub within : (f : Finding) → IsChainFinding size pages count first from n at place f
      → IsChainFinding size pages count first holder first 0 0 f
  pub decided : HasOne (IsChainFinding size pages count first holder first 0 0)
      ⊎ (HasPagesFrom size pages first n at place → HasPagesFrom size pages first first 0 0)
  -- the pages before are of different sequences
  pub told : (k : ℕ) → k < at → IsToldBelow (λ m. u32_at (pages m) SEQUENCE_AT) GREATEST_LIMIT k
  pub room : place ≤ 16378 * at

-- so they are no more than an image may have
pub at_few : (size : ℕ) (pages : Pages) (count holder first : ℕ) (old now : List Finding)
    (from n at place : ℕ) → IsAt size pages count holder first old now from n at place
    → at ≤ GREATEST_LIMIT
at_few size pages count holder first old now from n at place is =
    places_few GREATEST_LIMIT at (λ m. u32_at (pages m) SEQUENCE_AT) is.told

-- nor are they with one more that is as wanted
pub at_more : (size : ℕ) (pages : Pages) (count holder first : ℕ) (old now : List Finding)
    (from n at place : ℕ) → IsAt size pages count holder first old now from n at place
    → IsTablePointer size pages first at n → at + 1 ≤ GREATEST_LIMIT
at_more size pages count holder first old now from n at place is pointer =
    places_few GREATEST_LIMIT (at + 1) (λ m. u32_at (pages m) SEQUENCE_AT)
    (λ k below. elim (cases_lt k at) [
      | inl less ↦ is.told k less
      | inr past ↦ (
        n,
        pointer.below,
        sequence_of size pages first at n pointer ∙ last k below past,
      )
    ])
  where
    last : (k : ℕ) → k < at + 1 → at ≤ k → at ≡ k
    last k below past = omega (arith, below, past)

pub at_first : (size : ℕ) (pages : Pages) (count holder first : ℕ) (fs : List Finding)
    → IsAt size pages count holder first fs fs holder first 0 0
at_first size pages count holder first fs = record {
  adds = λ f. (λ has. has, λ has. has);
  within = λ f found. found;
  decided = inr (λ has. has);
  told = λ k below. absurd (omega (arith, below));
  room = omega arith;
}

module _ (size : ℕ) (pages : Pages) (count owner : ℕ) where
  -- where something is found of the first page, this is all
  pub chain_here : (from n at place : ℕ) (damage : Damaged) (test : Result (Unit {0}) Damaged)
      → n ≢ 0 → test ≡ Err damage
      → ((f : Finding) → Tells test f ↔ IsPointerFinding size pages count from n owner at f)
      → (f : Finding)
      → (f ≡ damage_finding damage) ↔ IsChainFinding size pages count owner from n at place f
  chain_here from n at place damage test some is tells f = (
    λ same. of_page from n at place f some ((tells f).0 (moved f same)),
    λ found. back f found,
  )
    where
      moved : (g : Finding) → g ≡ damage_finding damage → Tells test g
      moved g same = subst (λ (t : Result (Unit {0}) Damaged). Tells t g) (sym is) same

      never : HasNone (IsPointerFinding size pages count from n owner at) → ⊥
      never none = none (damage_finding damage)
          ((tells (damage_finding damage)).0 (moved (damage_finding damage) refl))

      back : (g : Finding) → IsChainFinding size pages count owner from n at place g
          → g ≡ damage_finding damage
      back g (of_page _ _ _ _ _ other found) =
          subst (λ (t : Result (Unit {0}) Damaged). Tells t g) is ((tells g).1 found)
      back g (of_entry _ _ _ _ _ other none found) = absurd (never none)
      back g (of_next _ _ _ _ _ other none found) = absurd (never none)

  -- where nothing is, it is what is found of its entries, and from the next page on
  pub chain_next : (from n at place next many : ℕ) (test : Result (Unit {0}) Damaged)
      → n ≢ 0 → test ≡ Ok tt
      → ((f : Finding) → Tells test f ↔ IsPointerFinding size pages count from n owner at f)
      → next ≡ next_in (pages n) → many ≡ count_in (pages n) → (f : Finding)
      → IsChainFinding size pages count owner from n at place f
      ↔ (IsEntryFinding size pages count owner n place f
      ⊎ IsChainFinding size pages count owner n next (at + 1) (place + many) f)
  chain_next from n at place next many test some is tells goes_on counts f = (
    λ found. parts f found,
    λ found. elim found [
      | inl entry ↦ of_entry from n at place f some none entry
      | inr rest ↦ of_next from n at place f some none
          (subst (λ (k : ℕ). IsChainFinding size pages count owner n (next_in (pages n)) (at + 1) (place + k) f)
          counts (subst (λ (m : ℕ). IsChainFinding size pages count owner n m (at + 1) (place + many) f)
          goes_on rest))
    ],
  )
    where
      none : HasNone (IsPointerFinding size pages count from n owner at)
      none g found = none_from_passed test is g ((tells g).1 found)

      parts : (g : Finding) → IsChainFinding size pages count owner from n at place g
          → IsEntryFinding size pages count owner n place g
          ⊎ IsChainFinding size pages count owner n next (at + 1) (place + many) g
      parts g (of_page _ _ _ _ _ other found) = absurd (none g found)
      parts g (of_entry _ _ _ _ _ other empty found) = inl found
      parts g (of_next _ _ _ _ _ other empty found) = inr
          (subst (λ (k : ℕ). IsChainFinding size pages count owner n next (at + 1) (place + k) g)
          (sym counts)
          (subst (λ (m : ℕ). IsChainFinding size pages count owner n m (at + 1) (place + count_in (pages n)) g)
          (sym goes_on) found))

  -- from no page on nothing is found
  pub chain_ended : (from n at place : ℕ) (f : Finding) → n ≡ 0
      → IsChainFinding size pages count owner from n at place f → ⊥
  chain_ended from n at place f is (of_page _ _ _ _ _ some found) = some is
  chain_ended from n at place f is (of_entry _ _ _ _ _ some none found) = some is
  chain_ended from n at place f is (of_next _ _ _ _ _ some none found) = some is

-- ---- one step of the walk

pub on_ok : (call : Result (Unit {0}) Memory) (P Q : Type 0) → (P → Q) → OnOk call P → OnOk call Q
on_ok (Ok _) P Q says is = says is
on_ok (Err e) P Q says is = tt

module _ (size : ℕ) (pages : Pages) (count holder first : ℕ) (old now : List Finding)
    (from n at place : ℕ) (is : IsAt size pages count holder first old now from n at place) where
  -- it ends at a damage,
  pub stops_adds : (new : List Finding) (damage : Damaged) (test : Result (Unit {0}) Damaged)
      → n ≢ 0 → test ≡ Err damage
      → ((f : Finding) → Tells test f ↔ IsPointerFinding size pages count from n first at f)
      → Adds now new (Tells (Err damage))
      → Adds old new (IsChainFinding size pages count first holder first 0 0)
  stops_adds new damage test some failed tells adds f =
      let all_ = chain_here size pages count first from n at place damage test some failed tells f in (
        λ has. (is.adds f).1 (elim ((adds f).0 has) [
          | inl before ↦ inl before
          | inr told ↦ inr (all_.0 told)
        ]),
        λ has. elim ((is.adds f).0 has) [
          | inl before ↦ (adds f).1 (inl before)
          | inr found ↦ (adds f).1 (inr (all_.1 found))
        ],
      )

  pub stops_adds_call : (new : List Finding) (damage : Damaged) (test : Result (Unit {0}) Damaged)
      (call : Result (Unit {0}) Memory) → n ≢ 0 → test ≡ Err damage
      → ((f : Finding) → Tells test f ↔ IsPointerFinding size pages count from n first at f)
      → OnOk call (Adds now new (Tells (Err damage)))
      → OnOk call (Adds old new (IsChainFinding size pages count first holder first 0 0))
  stops_adds_call new damage test call some failed tells adds = on_ok call
      (Adds now new (Tells (Err damage)))
      (Adds old new (IsChainFinding size pages count first holder first 0 0))
      (λ here. stops_adds new damage test some failed tells here) adds

  pub stops_one : (damage : Damaged) (test : Result (Unit {0}) Damaged) → n ≢ 0
      → test ≡ Err damage
      → ((f : Finding) → Tells test f ↔ IsPointerFinding size pages count from n first at f)
      → HasOne (IsChainFinding size pages count first holder first 0 0)
  stops_one damage test some failed tells = (
    damage_finding damage,
    is.within (damage_finding damage)
        ((chain_here size pages count first from n at place damage test some failed tells
        (damage_finding damage)).0 refl),
  )

  -- or for want of memory behind something found,
  pub fails_one : (test : Result (Unit {0}) Damaged) → n ≢ 0 → test ≡ Ok tt
      → ((f : Finding) → Tells test f ↔ IsPointerFinding size pages count from n first at f)
      → HasOne (IsEntryFinding size pages count first n place)
      → HasOne (IsChainFinding size pages count first holder first 0 0)
  fails_one test some passed tells one = (
    one.0,
    is.within one.0 ((chain_next size pages count first from n at place (next_in (pages n))
        (count_in (pages n)) test some passed tells refl refl one.0).1 (inl one.1)),
  )

  -- or where the chain does,
  pub ends_adds : n ≡ 0 → Adds old now (IsChainFinding size pages count first holder first 0 0)
  ends_adds none f = (
    λ has. (is.adds f).1 (inl has),
    λ has. elim ((is.adds f).0 has) [
      | inl before ↦ before
      | inr found ↦ absurd (chain_ended size pages count first from n at place f none found)
    ],
  )

  pub ends_decided : n ≡ 0 → HasOne (IsChainFinding size pages count first holder first 0 0)
      ⊎ HasPagesFrom size pages first first 0 0
  ends_decided none = elim is.decided [
    | inl one ↦ inl one
    | inr good ↦ inr (good (pages_none size pages first n at place none))
  ]

  -- or it goes on
  pub goes_on : (new : List Finding) (next many : ℕ) (test : Result (Unit {0}) Damaged)
      → n ≢ 0 → test ≡ Ok tt
      → ((f : Finding) → Tells test f ↔ IsPointerFinding size pages count from n first at f)
      → IsTablePointer size pages first at n
      → Adds now new (IsEntryFinding size pages count first n place)
      → HasOne (IsEntryFinding size pages count first n place)
      ⊎ HasEntries size pages first n place
      → next ≡ next_in (pages n) → many ≡ count_in (pages n) → many ≤ 16378
      → IsAt size pages count holder first old new n next (at + 1) (place + many)
  goes_on new next many test some passed tells pointer adds entries next_is many_is few = record {
    adds = λ f. let parts = split f in (
      λ has. elim ((is.adds f).0 has) [
        | inl before ↦ inl ((adds f).1 (inl before))
        | inr found ↦ elim (parts.0 found) [
          | inl entry ↦ inl ((adds f).1 (inr entry))
          | inr rest ↦ inr rest
        ]
      ],
      λ has. (is.adds f).1 (elim has [
        | inl there ↦ elim ((adds f).0 there) [
          | inl before ↦ inl before
          | inr entry ↦ inr (parts.1 (inl entry))
        ]
        | inr rest ↦ inr (parts.1 (inr rest))
      ]),
    );
    within = λ f found. is.within f ((split f).1 (inr found));
    decided = decided is.decided entries;
    told = λ k below. told k below (cases_lt k at);
    room = omega (arith, is.room, few);
  }
    where
      split : (f : Finding) → IsChainFinding size pages count first from n at place f
          ↔ (IsEntryFinding size pages count first n place f
          ⊎ IsChainFinding size pages count first n next (at + 1) (place + many) f)
      split f = chain_next size pages count first from n at place next many test some passed tells
          next_is many_is f

      decided : HasOne (IsChainFinding size pages count first holder first 0 0)
          ⊎ (HasPagesFrom size pages first n at place → HasPagesFrom size pages first first 0 0)
          → HasOne (IsEntryFinding size pages count first n place)
          ⊎ HasEntries size pages first n place
          → HasOne (IsChainFinding size pages count first holder first 0 0)
          ⊎ (HasPagesFrom size pages first next (at + 1) (place + many)
          → HasPagesFrom size pages first first 0 0)
      decided (inl one) which = inl one
      decided (inr good) (inl one) = inl (one.0, is.within one.0 ((split one.0).1 (inl one.1)))
      decided (inr good) (inr each) = inr (λ rest. good
          (pages_more size pages first n at place next many some pointer each next_is many_is rest))

      last : (k : ℕ) → k < at + 1 → at ≤ k → at ≡ k
      last k below past = omega (arith, below, past)

      told : (k : ℕ) → k < at + 1 → (k < at) ⊎ (at ≤ k)
          → IsToldBelow (λ m. u32_at (pages m) SEQUENCE_AT) GREATEST_LIMIT k
      told k below (inl less) = is.told k less
      told k below (inr past) =
          (n, pointer.below, sequence_of size pages first at n pointer ∙ last k below past)

-- ---- the whole table

-- a table without a first pointer page: that is told of the page that names it
pub zero_adds : (size : ℕ) (pages : Pages) (count holder first : ℕ) (old new : List Finding)
    (test : Result (Unit {0}) Damaged) (call : Result (Unit {0}) Memory) → first ≡ 0
    → test ≡ verdict (numbered holder) (link_checks first) → OnOk call (Adds old new (Tells test))
    → OnOk call (Adds old new (IsTableFinding size pages count holder first))
zero_adds size pages count holder first old new test call none is adds = on_ok call
    (Adds old new (Tells test)) (Adds old new (IsTableFinding size pages count holder first))
    (λ here f. (
      λ has. elim ((here f).0 has) [
        | inl before ↦ inl before
        | inr told ↦ inr (inl (none, subst (λ (t : Result (Unit {0}) Damaged). Tells t f) is told))
      ],
      λ has. (here f).1 (elim has [
        | inl before ↦ inl before
        | inr found ↦ elim found [
          | inl told ↦ inr (subst (λ (t : Result (Unit {0}) Damaged). Tells t f) (sym is) told.1)
          | inr chain ↦ absurd (chain_ended size pages count first holder first 0 0 f none chain)
        ]
      ]),
    )) adds

pub zero_one : (size : ℕ) (pages : Pages) (count holder first : ℕ) → first ≡ 0
    → HasOne (IsTableFinding size pages count holder first)
zero_one size pages count holder first none = (
  damage_finding damage,
  inl (none, subst (λ (t : Result (Unit {0}) Damaged). Tells t (damage_finding damage)) told refl),
)
  where
    damage : Damaged
    damage = record {
      page = numbered holder;
      field = Link;
      found = 0;
      wanted = lawful_link 0;
    }

    told : ◌≡◌ {A = Result (Unit {0}) Damaged} (Err damage)
        (verdict (numbered holder) (link_checks first))
    told = rw none refl

-- and one with one
pub some_adds : (size : ℕ) (pages : Pages) (count holder first : ℕ) (old new : List Finding)
    (call : Result (Unit {0}) Memory) → first ≢ 0
    → OnOk call (Adds old new (IsChainFinding size pages count first holder first 0 0))
    → OnOk call (Adds old new (IsTableFinding size pages count holder first))
some_adds size pages count holder first old new call some adds = on_ok call
    (Adds old new (IsChainFinding size pages count first holder first 0 0))
    (Adds old new (IsTableFinding size pages count holder first))
    (λ here f. (
      λ has. elim ((here f).0 has) [ inl before ↦ inl before | inr found ↦ inr (inr found) ],
      λ has. (here f).1 (elim has [
        | inl before ↦ inl before
        | inr found ↦ elim found [ inl none ↦ absurd (some none.0) | inr chain ↦ inr chain ]
      ]),
    )) adds

pub some_one : (size : ℕ) (pages : Pages) (count holder first : ℕ)
    → HasOne (IsChainFinding size pages count first holder first 0 0)
    → HasOne (IsTableFinding size pages count holder first)
some_one size pages count holder first one = (one.0, inr one.1)

pub some_decided : (size : ℕ) (pages : Pages) (count holder first : ℕ) → first ≢ 0
    → HasOne (IsChainFinding size pages count first holder first 0 0)
    ⊎ HasPagesFrom size pages first first 0 0
    → HasOne (IsTableFinding size pages count holder first) ⊎ HasTable size pages first
some_decided size pages count holder first some (inl one) =
    inl (some_one size pages count holder first one)
some_decided size pages count holder first some (inr whole) =
    inr (record { some = some; whole = whole })
