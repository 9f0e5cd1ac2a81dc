-- A table that is left stood before.
use Rattle.std.proofs.Common.{◌≡◌, ◌∙◌, ◌++◌, ◌∷◌, Bool, true, false, List, [], ap, refl, sym}
use Rattle.std.specs.Prelude.{if◌then◌else◌}
use Rattle.mg_value.specs.declared.value.Value.{Value}
use Rattle.mg_image.specs.Tables.{Layout, Stand, stands_of}
use Rattle.mg_model.specs.Catalog.{table_key}
use Rattle.mg_model.specs.declared.table.Table.{Table}
use Rattle.mg_image_overlay_laws.specs.tables.Growing.{IsTableOf}
use Rattle.mg_engine_step_laws.specs.tables_back.Taken.{layout_left, stands_left}

-- A stand is one of these.
record IsAmong (stand : Stand) (ss : List Stand) : Type 0 where
  before : List Stand
  after : List Stand
  is_ : ss ≡ before ++ stand ∷ after

among_all : (gone : Value → Bool) (ss before : List Stand) (stand : Stand) (after : List Stand)
    → stands_left gone ss ≡ before ++ stand ∷ after → IsAmong stand ss
among_all gone [] [] stand after is = absurd cc
among_all gone [] (x ∷ before) stand after is = absurd cc
among_all gone (s ∷ ss) before stand after is =
    at (gone (table_key s.table.name)) before is (λ b also. among_all gone ss b stand after also)
  where
    more : IsAmong stand ss → IsAmong stand (s ∷ ss)
    more its = record {
      before = s ∷ its.before;
      after = its.after;
      is_ = ap (λ (xs : List Stand). s ∷ xs) its.is_;
    }

    at : (x : Bool) (b : List Stand)
        → (if x then stands_left gone ss else s ∷ stands_left gone ss) ≡ b ++ stand ∷ after
        → ((c : List Stand) → stands_left gone ss ≡ c ++ stand ∷ after → IsAmong stand ss) → IsAmong stand (s ∷ ss)
    at true b is_ on = more (on b is_)
    at false [] is_ on = let its : s ≡ stand = cc in
        record { before = []; after = ss; is_ = ap (λ (x : Stand). x ∷ ss) its }
    at false (y ∷ b) is_ on = let rest : stands_left gone ss ≡ b ++ stand ∷ after = cc in more (on b rest)

pub stood_before : (gone : Value → Bool) (a c : Layout) → c.catalog ≡ a.catalog → (its : Table)
    → IsTableOf (layout_left gone a c) its → IsTableOf a its
stood_before gone a c same its of = at of.before of.is_
  where
    at : (before : List Stand) → stands_of (layout_left gone a c) ≡ before ++ of.stand ∷ of.after → IsTableOf a its
    at [] is =
        let first : c.catalog ≡ of.stand = cc in record {
          before = [];
          stand = a.catalog;
          after = a.tables;
          is_ = refl;
          table_is = ap (λ (x : Stand). x.table) (sym same ∙ first) ∙ of.table_is;
        }
    at (x ∷ before) is =
        let rest : stands_left gone a.tables ≡ before ++ of.stand ∷ of.after = cc in
        let among : IsAmong of.stand a.tables = among_all gone a.tables before of.stand of.after rest in record {
          before = a.catalog ∷ among.before;
          stand = of.stand;
          after = among.after;
          is_ = ap (λ (ss : List Stand). a.catalog ∷ ss) among.is_;
          table_is = of.table_is;
        }
