-- An image is behind itself.
use Rattle.mg_base.specs.declared.transaction.TxState.{TxState}
use Rattle.mg_base.specs.declared.transaction.TxState.TheVariants.{Limbo}
use Rattle.mg_image.specs.Form.{Form, Pages}
use Rattle.mg_image.specs.Held.{AreChanges, Changes, Database, IsHeld}
use Rattle.mg_image.specs.Histories.{newest_at}
use Rattle.mg_image.specs.RecordRules.{committed_in}
use Rattle.mg_image.specs.Records.{Reading}
use Rattle.mg_image.specs.Sound.{IsSoundBy, facts_by}
use Rattle.mg_image.specs.Tables.{Layout, Stand, stands_of}
use Rattle.mg_image_overlay_laws.specs.pages.BehindTrees.{behind_by_itself}
use Rattle.mg_image_overlay_laws.specs.records.Fronts.{living}
use Rattle.mg_image_overlay_laws.specs.records.Thins.{front_self}
use Rattle.mg_image_overlay_laws.specs.kept.KeptImages.{AreFrontStands, IsFrontOf, IsKept}
use Rattle.mg_model.specs.Changes.{row_at}
use Rattle.mg_model.specs.History.{Entries}
use Rattle.mg_model.specs.Machine.{database, own}
use Rattle.mg_model.specs.declared.opening.Opening.{Opening}
use Rattle.mg_value.specs.declared.value.Value.{Value}
use Rattle.std.proofs.Common.{List, [], arith, refl, ℕ, ◌∷◌, ◌≡◌}

pub list_self : (ns : List ℕ) → IsFrontOf ns ns
list_self [] = tt
list_self (n ∷ ns) = (refl, list_self ns)

pub stands_self : (stands : List Stand) → AreFrontStands stands stands
stands_self [] = tt
stands_self (stand ∷ stands) = (
  record { table = refl; pointers = list_self stand.pointers; data_pages = list_self stand.data_pages },
  stands_self stands,
)

-- an image is behind itself
unfoldable pub kept_by_itself : (form : Form) (size : ℕ) (o : Opening) (h : Entries) (state : ℕ → TxState)
    (pages : Pages) (layout : Layout) (r : Reading) (rows : Database) (changes : Changes)
    → IsSoundBy form size state pages layout r
    → IsHeld (facts_by state pages layout) (committed_in (facts_by state pages layout)) r rows
    → ((name : List ℕ) (key : Value) → rows name key ≡ row_at (database o h) name key)
    → AreChanges (facts_by state pages layout) r changes
    → ((t : ℕ) (name : List ℕ) (key : Value) → state t ≡ Limbo
    → changes t name key ≡ newest_at (own o h t) name key)
    → IsKept form size o h state pages pages
kept_by_itself form size o h state pages layout r rows changes sound held rows_are changed changes_are =
    record {
      of_pool = layout;
      in_pool = r;
      layout = layout;
      reading = r;
      sound = sound;
      pool_sound = sound;
      behind = record {
        next = omega arith;
        used = λ n used. used;
        stands = stands_self (stands_of layout);
        chained = λ m is some_. refl;
        tips = λ sequence within. (refl, refl);
        trees = behind_by_itself pages (stands_of layout);
      };
      fronts = record { state = λ t. refl; fronts = λ p. front_self state (living state (r p)) };
      rows = rows;
      held = held;
      rows_are = rows_are;
      changes = changes;
      changed = changed;
      changes_are = changes_are;
    }
