-- An engine is opened over a sound image: its cache bears its demands.
use Rattle.std.specs.Prelude.{◌≢◌, ◌&&◌, ◌==◌, ℕ}
use Rattle.mg_base.specs.declared.transaction.TxState.TheVariants.{Active}
use Rattle.mg_careful.specs.CarefulWrite.{Cache, listed}
use Rattle.mg_demand_laws.specs.Runs.{Lasting}
use Rattle.mg_demand_laws.specs.Starts.{IsOpened}
use Rattle.mg_image.specs.Form.{packed_form}
use Rattle.mg_image.specs.Records.{Reading}
use Rattle.mg_image.specs.Tables.{Layout}
use Rattle.mg_model.specs.Answers.{is_committed}
use Rattle.mg_demand_laws.specs.Roots.{roots_of}
use Rattle.mg_space.specs.declared.links.TheConstants.{VERSION}
use Rattle.mg_engine_demand_laws.specs.Bearing.{Fates, IsBorne, Marks}

-- the versions of those that have committed last, and no others
abbrev pub lasting_first : Fates → Lasting
lasting_first fates = record {
  settled = λ t. is_committed (fates.state t);
  lasts = λ d. d.what == VERSION && is_committed (fates.state d.b);
}

-- the law: nothing is dirty, and no transaction is active; the roots are the header, and the tables and indexes of the image
abbrev pub OpeningBears : Type 0
OpeningBears = (size : ℕ) (cache : Cache) (marks : Marks) (fates : Fates) (layout : Layout) (r : Reading)
    → IsOpened packed_form size fates.state cache layout r → ((t : ℕ) → fates.state t ≢ Active)
    → IsBorne size cache marks fates layout (listed (roots_of size layout))
