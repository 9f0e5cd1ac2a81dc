-- A batch that pays, and drops nothing.
use Rattle.std.specs.Prelude.{◌≡◌, ℕ, Bool, true}
use Rattle.std.proofs.Common.{inl, refl}
use Rattle.std.proofs.lemmas.Bool.{and_from, and_parts}
use Rattle.mg_careful.specs.declared.links.Demand.{Demand}
use Rattle.mg_careful.specs.Precedence.{Orders}
use Rattle.mg_careful.specs.CarefulWrite.{DemandSet, IsIn, either}
use Rattle.mg_careful.specs.CarefulSteps.{Contents}
use Rattle.mg_demand_laws.specs.Freeing.{without}
use Rattle.mg_demand_laws.specs.Runs.{Lasting, PaysThenDrops}
use Rattle.mg_image.specs.Form.{Pages}
use Rattle.mg_demand_laws.specs.Wanting.{Drops, IsWanting, Pays, nothing}

-- the law: a batch that pays drops nothing; what it newly wants does not last yet
abbrev pub PayingDropsNothing : Type 0
PayingDropsNothing = (size : ℕ) (old new : Pages) (batch : Contents) (orders : Orders) (it : Lasting)
    (on_disk wanted more : DemandSet) → Pays size old new orders it.settled on_disk wanted more
    → ((d : Demand) → IsIn more d → it.lasts d ≡ true → IsIn wanted d)
    → PaysThenDrops size old new batch orders it on_disk wanted

in_all : (wanted : DemandSet) (d : Demand) → IsIn (without nothing wanted) d → IsIn wanted d
in_all wanted d h = (h.0, (and_parts (wanted d h.0) _ h.1).0)

of_all : (wanted : DemandSet) (d : Demand) → IsIn wanted d → IsIn (without nothing wanted) d
of_all wanted d h = (h.0, and_from _ _ h.1 refl)

pub drops_nothing : (size : ℕ) (pages : Pages) (orders : Orders) (settled : ℕ → Bool) (wanted : DemandSet)
    → IsWanting size pages wanted → Drops size pages pages orders settled wanted nothing
drops_nothing size pages orders settled wanted was = record {
  drops = record {
    still = λ d h kept. was.keeps.met d h;
    links = λ d e h kept made. (made, refl);
  };
  wants = record {
    lawful = was.lawful;
    whole = was.whole;
    keeps = record {
      met = λ d h. was.keeps.met d (in_all wanted d h);
      in_turn = λ d e h made. of_all wanted e (was.keeps.in_turn d e (in_all wanted d h) made);
    };
    used = λ d h. was.used d (in_all wanted d h);
    on_data = λ d h is. was.on_data d (in_all wanted d h) is;
  };
  leaves = λ d e h made may apart. inl (made, refl);
  may = λ d is. absurd cc;
}

pub paying_drops_nothing : PayingDropsNothing
paying_drops_nothing size old new batch orders it on_disk wanted more pays fresh = record {
  mid = new;
  more = more;
  dropped = nothing;
  pays = pays;
  fresh = fresh;
  drops = drops_nothing size new orders it.settled (either wanted more) pays.wants;
  own = λ d is. absurd cc;
}
