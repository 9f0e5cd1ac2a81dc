-- What a start began with.
use Rattle.std.specs.Prelude.{Bool, Option, None, Some, []}
use Rattle.std.specs.declared.alloc.Global.{Global}
use Rattle.mg_base.specs.Image.{Image}
use Rattle.rtrb.specs.declared.AnyItems.{AnyItems}
use Rattle.rtrb.specs.declared.producer.Producer.{Producer}
use Rattle.rtrb.specs.declared.consumer.Consumer.{Consumer}
use Rattle.mg_behind.specs.declared.job.Job.{Job}
use Rattle.mg_behind.specs.declared.job.Receipt.{Receipt}
use Rattle.mg_behind.specs.declared.job.Numbered.{Numbered}

-- The device once its pages were read, what they were, and the rings: of jobs, of receipts, and the one
-- that tells whether a thread was started.
pub record Origin (D : Type 0) : Type 0 where
  pub device : D
  pub image : Image
  pub jobs : Producer Job Global Numbered
  pub receipts : Consumer Receipt Global Numbered
  pub threaded : Producer Bool Global AnyItems

abbrev pub image_from : {D : Type 0} → Option (Origin D) → Image
image_from None = []
image_from (Some o) = o.image
