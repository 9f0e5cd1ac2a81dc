-- A transaction that commits: its versions last, page by page, as they are written; and once all of them last, it is
-- settled.
use Rattle.std.specs.Prelude.{◌≡◌, ◌==◌, ◌&&◌, ◌||◌, ℕ, Bool, true, false, not}
use Rattle.std.proofs.Common.{inl, inr, refl}
use Rattle.std.proofs.lemmas.Bool.{and_from, and_parts, eq-eqb, eqb-true, not-true, or_cases, or_left, or_right}
use Rattle.mg_careful.specs.declared.links.Demand.{Demand}
use Rattle.mg_careful.specs.CarefulWrite.{Cache, DemandSet, IsClosed, IsIn, PageSet, three_parts}
use Rattle.mg_careful.specs.CarefulSteps.{written_out}
use Rattle.mg_demand_laws.specs.Freeing.{Which, WritesBearAll}
use Rattle.mg_demand_laws.specs.Runs.{BearsLinks, Lasting}
use Rattle.mg_space.specs.Demands.{demands_of, meets_of}
use Rattle.mg_space.specs.declared.links.TheConstants.{VERSION}
use Rattle.mg_demand_laws.specs.Wanting.{may_go}

-- a version of a transaction
abbrev pub version_of : ℕ → Which
version_of t d = d.what == VERSION && d.b == t

-- of a transaction the versions on clean pages last, too
abbrev pub lasting_with : Lasting → Cache → ℕ → Lasting
lasting_with it cache t = record {
  settled = it.settled;
  lasts = λ d. it.lasts d || (version_of t d && not (cache.dirty d.target));
}

-- a transaction is settled, too: all of its versions last
abbrev pub settled_with : Lasting → ℕ → Lasting
settled_with it t = record {
  settled = λ u. it.settled u || u == t;
  lasts = λ d. it.lasts d || version_of t d;
}

-- the law of page writes while a transaction commits; with none written out, that of the moment when it asks for it
abbrev pub WritesLast : Type 0
WritesLast = (size : ℕ) (cache : Cache) (it : Lasting) (t : ℕ) (gone : PageSet) → IsClosed cache gone
    → (of_disk of_pool : DemandSet) → BearsLinks size cache it of_disk of_pool
    → BearsLinks size (written_out cache gone) (lasting_with it (written_out cache gone) t)
    (three_parts cache gone of_disk of_pool) of_pool

-- the law of the end: where each version of the transaction that is wanted lasts, it is settled
abbrev pub CommitSettles : Type 0
CommitSettles = (size : ℕ) (cache : Cache) (it : Lasting) (t : ℕ) (of_disk of_pool : DemandSet)
    → BearsLinks size cache it of_disk of_pool
    → ((d : Demand) → IsIn of_pool d → d.what ≡ VERSION → d.b ≡ t → it.lasts d ≡ true)
    → BearsLinks size cache (settled_with it t) of_disk of_pool

is_version : (t : ℕ) (d : Demand) → version_of t d ≡ true → (d.what ≡ VERSION) × (d.b ≡ t)
is_version t d is = let parts = and_parts (d.what == VERSION) _ is in
    (eqb-true d.what VERSION parts.0, eqb-true d.b t parts.1)

pub writes_last : WritesBearAll demands_of meets_of → WritesLast
writes_last law size cache it t gone closed of_disk of_pool bears = record {
  lasting = record {
    versions = λ d is. elim (or_cases (it.lasts d) _ is) [
      | inl x ↦ bears.lasting.versions d x
      | inr y ↦ (is_version t d (and_parts (version_of t d) _ y).0).0
    ];
    of_settled = λ d is done. or_left _ _ (bears.lasting.of_settled d is done);
  };
  all = law cache of_disk of_pool it.lasts (may_go it.settled)
      (λ d. it.lasts d || (version_of t d && not ((written_out cache gone).dirty d.target))) (may_go it.settled)
      bears.all gone closed (λ d is. elim (or_cases (it.lasts d) _ is) [
        | inl x ↦ inl x
        | inr y ↦ inr (not-true _ (and_parts (version_of t d) _ y).1)
      ]) (λ d may. may);
  wants = bears.wants;
}

pub commit_settles : CommitSettles
commit_settles size cache it t of_disk of_pool bears all = record {
  lasting = record {
    versions = λ d is. elim (or_cases (it.lasts d) _ is) [
      | inl x ↦ bears.lasting.versions d x
      | inr y ↦ (is_version t d y).0
    ];
    of_settled = λ d is done. elim (or_cases (it.settled d.b) _ done) [
      | inl x ↦ or_left _ _ (bears.lasting.of_settled d is x)
      | inr same ↦ or_right (it.lasts d) _ (and_from _ _ (eq-eqb d.what VERSION is) same)
    ];
  };
  all = record {
    bears = bears.all.bears;
    lasting = λ d h is. elim (or_cases (it.lasts d) _ is) [
      | inl x ↦ bears.all.lasting d h x
      | inr y ↦ let its = is_version t d y in bears.all.lasting d h (all d h its.0 its.1)
    ];
    links = λ d e h made may apart. bears.all.links d e h made (less e may) apart;
  };
  wants = bears.wants;
}
  where
    less : (e : Demand) → may_go (λ u. it.settled u || u == t) e ≡ true → may_go it.settled e ≡ true
    less e may = let parts = and_parts (e.what == VERSION) _ may in and_from _ _ parts.0 (at (it.settled e.b) refl parts.1)
      where
        at : (b : Bool) → it.settled e.b ≡ b → not (b || e.b == t) ≡ true → not b ≡ true
        at true is out = absurd cc
        at false is out = refl
