-- What one job more makes of what a worker has done.
use Rattle.std.proofs.Common.{◌≡◌, ◌≢◌, ◌⊎◌, ℕ, ◌+◌, ◌-◌, ◌≤◌, ◌||◌, Bool, true, false, List, [], ◌∷◌, ◌++◌, length, take, Some, Result, Ok, Err, is_err, OnOk, IfErr, refl, sym, ap, ◌∙◌, subst, arith, inl, inr, length-append}
use Rattle.std.proofs.lemmas.List.Elements.{All-pop}
use Rattle.std.proofs.lemmas.List.Sums.{fold_push}
use Rattle.mg_base.specs.Image.{Image, written}
use Rattle.mg_base.specs.Disk.{Meaning, MayLeave, Rose, Writes, Calm, KeepsReads}
use Rattle.mg_behind.specs.declared.job.Task.{Task}
use Rattle.mg_behind.specs.declared.job.Task.TheVariants.{Write, Settle}
use Rattle.mg_behind.specs.declared.job.Job.{Job}
use Rattle.mg_behind.specs.declared.job.Receipt.{Receipt}
use Rattle.mg_behind.specs.declared.worker.State.{State}
use Rattle.mg_behind.specs.declared.worker.State.TheVariants.{Works, Failed, Odd}
use Rattle.mg_behind.specs.Jobs.{made, after, any_failed, page_write, page_writes, IsWhole, EachWhole, IsSettle, Fine, Broke, Did, HasRisen}

-- the last of a list is one
pub last_is : {A : Type 0} (xs ys : List A) (x y : A) → xs ++ x ∷ [] ≡ ys ++ y ∷ [] → x ≡ y
last_is [] [] x y e = cc (e)
last_is [] (b ∷ []) x y e = absurd (cc (e))
last_is [] (b ∷ c ∷ ys) x y e = absurd (cc (e))
last_is (a ∷ []) [] x y e = absurd (cc (e))
last_is (a ∷ c ∷ xs) [] x y e = absurd (cc (e))
last_is (a ∷ xs) (b ∷ ys) x y e = last_is xs ys x y (cc (e))

pub take_front : {A : Type 0} (xs : List A) (x : A) → take (length xs) (xs ++ x ∷ []) ≡ xs
take_front [] x = refl
take_front (a ∷ xs) x = ap (λ ys. a ∷ ys) (take_front xs x)

pub all_but_last : {A : Type 0} (xs : List A) (x : A) → take (length (xs ++ x ∷ []) - 1) (xs ++ x ∷ []) ≡ xs
all_but_last xs x = let n : length (xs ++ x ∷ []) - 1 ≡ length xs = omega (arith, length-append xs (x ∷ [])) in ap (λ k. take k (xs ++ x ∷ [])) n ∙ take_front xs x

after_more : (image : Image) (jobs : List Job) (job : Job) → after image (jobs ++ job ∷ []) ≡ made (after image jobs) job
after_more image jobs job = fold_push made image jobs job

risen : (before was now : ℕ) → was ≡ before → Rose was now → HasRisen before now
risen before was now e (inl lt) le = absurd (omega arith)
risen before was now e (inr end) le = end

pub job_is : (job : Job) (task : Task) → job.task ≡ task → job ≡ record { number = job.number; task = task }
job_is job task e = ap (λ (t : Task). record { number = job.number; task = t }) e

pub any_failed_more : (rs qs : List Receipt) → any_failed (rs ++ qs) ≡ (any_failed rs || any_failed qs)
any_failed_more [] qs = refl
any_failed_more (r ∷ rs) qs = ap (λ (b : Bool). r.failed || b) (any_failed_more rs qs) ∙ or_more r.failed (any_failed rs) (any_failed qs)
  where
    or_more : (a b c : Bool) → (a || (b || c)) ≡ ((a || b) || c)
    or_more true b c = refl
    or_more false b c = refl

pub none_failed_more : (rs : List Receipt) (r : Receipt) → any_failed rs ≡ false → r.failed ≡ false → any_failed (rs ++ r ∷ []) ≡ false
none_failed_more rs r e f = any_failed_more rs (r ∷ []) ∙ (ap (λ (b : Bool). b || (r.failed || false)) e ∙ ap (λ (b : Bool). b || false) f)

-- the last of whole pages is one
last_whole : (size : ℕ) (all : List Job) (job : Job) → EachWhole size (all ++ job ∷ []) → IsWhole size job.task
last_whole size all job whole = (All-pop (λ (j : Job). IsWhole size j.task) (all ++ job ∷ []) all (Some job) refl whole).1

page_writes_more : (jobs : List Job) (job : Job) → page_writes (jobs ++ job ∷ []) ≡ page_writes jobs + page_write job.task
page_writes_more [] job = omega arith
page_writes_more (j ∷ jobs) job = let more = page_writes_more jobs job in omega arith

module _ {D : Type 0} (m : Meaning D) where
  reads_on : (first old new : D) → KeepsReads m first old → KeepsReads m old new → KeepsReads m first new
  reads_on first old new before now = record { reads = now.reads ∙ before.reads; was_read = λ n. now.was_read n ∙ before.was_read n }

  pub did_same : (first now : D) (size : ℕ) (all all' : List Job) (state : State) → all' ≡ all → Did m first now size all state → Did m first now size all' state
  did_same first now size all all' state e d = subst (λ (xs : List Job). Did m first now size xs state) (sym e) d

  write_more : {T E : Type 0} (first old new : D) (size : ℕ) (all : List Job) (n page : ℕ) (bytes : List ℕ) (result : Result T E) (failed : Bool) (job : Job)
      → is_err result ≡ failed → Fine m first old all → Writes m old new page bytes result → job ≡ record { number = n; task = Write page bytes }
      → (failed ≡ false → Fine m first new (all ++ job ∷ [])) × (failed ≡ true → Broke m first new (all ++ job ∷ []))
  write_more first old new size all n page bytes (Ok x) failed job e fine writes is = (
    (λ f. record {
      faults = writes.keeps.steady ∙ fine.faults;
      held = λ image h. writes.stored (after image all) (fine.held image h) ∙ ap Some (ap (made (after image all)) (sym is) ∙ sym (after_more image all job));
      settled = λ ends. absurd (subst IsSettle (ap (λ (j : Job). j.task) (sym (last_is all ends.0 job ends.1 ends.2) ∙ is)) ends.3);
    }),
    (λ f. absurd (cc (e, f))),
  )
  write_more first old new size all n page bytes (Err x) failed job e fine writes is = (
    (λ f. absurd (cc (e, f))),
    (λ f. record {
      rose = risen (m.faults first) (m.faults old) (m.faults new) fine.faults (writes.keeps.cause refl);
      some = omega (arith, length-append all (job ∷ []));
      held = λ image h ne. lost image ne (writes.failed (after image all) (fine.held image h));
    }),
  )
    where
      lost : (image : Image) → m.held new ≢ Some (after image (all ++ job ∷ [])) → (m.held new ≡ Some (after image all)) ⊎ (m.held new ≡ Some (written (length bytes) (after image all) page bytes)) → m.held new ≡ Some (after image (take (length (all ++ job ∷ []) - 1) (all ++ job ∷ [])))
      lost image ne (inl same) = same ∙ ap (λ xs. Some (after image xs)) (sym (all_but_last all job))
      lost image ne (inr done) = absurd (ne (done ∙ ap Some (ap (made (after image all)) (sym is) ∙ sym (after_more image all job))))

  settle_more : {T E : Type 0} (first old new : D) (size : ℕ) (all : List Job) (n : ℕ) (result : Result T E) (failed : Bool) (job : Job)
      → is_err result ≡ failed → Fine m first old all → Calm m old new result → (failed ≡ false → m.tells old ≡ true → (c : Image) → MayLeave m new c → m.held new ≡ Some c) → job ≡ record { number = n; task = Settle }
      → (failed ≡ false → Fine m first new (all ++ job ∷ [])) × (failed ≡ true → Broke m first new (all ++ job ∷ []))
  settle_more {T} {E} first old new size all n result failed job e fine calm durable is = (good result e calm.keeps.steady, bad result e calm.keeps.cause)
    where
      same : (image : Image) → m.held first ≡ Some image → m.held new ≡ Some (after image (all ++ job ∷ []))
      same image h = calm.held ∙ (fine.held image h ∙ ap Some (ap (made (after image all)) (sym is) ∙ sym (after_more image all job)))

      good : (r : Result T E) → is_err r ≡ failed → OnOk r (m.faults new ≡ m.faults old) → failed ≡ false → Fine m first new (all ++ job ∷ [])
      good (Ok x) e' steady f = record { faults = steady ∙ fine.faults; held = same; settled = λ ends told. durable f (sym calm.keeps.tells ∙ told) }
      good (Err x) e' steady f = absurd (cc (e', f))

      bad : (r : Result T E) → is_err r ≡ failed → (is_err r ≡ true → Rose (m.faults old) (m.faults new)) → failed ≡ true → Broke m first new (all ++ job ∷ [])
      bad r e' cause f = record {
        rose = risen (m.faults first) (m.faults old) (m.faults new) fine.faults (cause (e' ∙ f));
        some = omega (arith, length-append all (job ∷ []));
        held = λ image h ne. absurd (ne (same image h));
      }

  did_fine : (first old new : D) (size : ℕ) (all all' : List Job) (state state' : State) → Did m first old size all state → m.faults old ≤ m.faults new → m.tells new ≡ m.tells old → m.asked new ≤ m.asked first + page_writes all' → KeepsReads m old new → state' ≡ Works → Fine m first new all' → Did m first new size all' state'
  did_fine first old new size all all' state state' d rises tells asked unread is fine = record {
    never_falls = let b = d.never_falls in omega arith;
    tells = tells ∙ d.tells;
    measured = d.measured;
    asked = asked;
    unread = reads_on first old new d.unread unread;
    works = λ w. fine;
    failed = λ w. absurd (cc (is, w));
    odd = λ w. absurd (cc (is, w));
  }

  did_broke : (first old new : D) (size : ℕ) (all all' : List Job) (state state' : State) → Did m first old size all state → m.faults old ≤ m.faults new → m.tells new ≡ m.tells old → m.asked new ≤ m.asked first + page_writes all' → KeepsReads m old new → state' ≡ Failed → Broke m first new all' → Did m first new size all' state'
  did_broke first old new size all all' state state' d rises tells asked unread is broke = record {
    never_falls = let b = d.never_falls in omega arith;
    tells = tells ∙ d.tells;
    measured = d.measured;
    asked = asked;
    unread = reads_on first old new d.unread unread;
    works = λ w. absurd (cc (is, w));
    failed = λ w. broke;
    odd = λ w. absurd (cc (is, w));
  }

  -- a job that is no whole page: the device is not given it
  pub did_odd : (first now : D) (size : ℕ) (all all' : List Job) (state state' : State) (job : Job)
      → Did m first now size all state → all' ≡ all ++ job ∷ [] → state' ≡ Odd → (IsWhole size job.task → ⊥) → Did m first now size all' state'
  did_odd first now size all all' state state' job d more is odd = record {
    never_falls = d.never_falls;
    tells = d.tells;
    measured = d.measured;
    asked = subst (λ (xs : List Job). m.asked now ≤ m.asked first + page_writes xs) (sym more) (let a = d.asked in omega (arith, page_writes_more all job));
    unread = d.unread;
    works = λ w. absurd (cc (is, w));
    failed = λ w. absurd (cc (is, w));
    odd = λ w whole. odd (last_whole size all job (subst (EachWhole size) more whole));
  }

  -- a page write of a worker that works
  pub did_write : {T E : Type 0} (first old new : D) (size : ℕ) (all all' : List Job) (state state' : State) (n page : ℕ) (bytes : List ℕ) (result : Result T E) (failed : Bool) (job : Job)
      → Did m first old size all state → state ≡ Works → all' ≡ all ++ job ∷ [] → is_err result ≡ failed → Writes m old new page bytes result → job ≡ record { number = n; task = Write page bytes }
      → (failed ≡ false → state' ≡ Works) → (failed ≡ true → state' ≡ Failed) → Did m first new size all' state'
  did_write first old new size all all' state state' n page bytes result failed job d works more e writes is fine broke =
      did_same first new size (all ++ job ∷ []) all' state' more (by failed e fine broke)
    where
      asked : m.asked new ≤ m.asked first + page_writes (all ++ job ∷ [])
      asked = let a = d.asked in let w = writes.asked in omega (arith, page_writes_more all job, ap (λ (j : Job). page_write j.task) is)

      by : (b : Bool) → is_err result ≡ b → (b ≡ false → state' ≡ Works) → (b ≡ true → state' ≡ Failed) → Did m first new size (all ++ job ∷ []) state'
      by false e f b = did_fine first old new size all (all ++ job ∷ []) state state' d writes.keeps.never_falls writes.keeps.tells asked writes.unread (f refl) ((write_more first old new size all n page bytes result false job e (d.works works) writes is).0 refl)
      by true e f b = did_broke first old new size all (all ++ job ∷ []) state state' d writes.keeps.never_falls writes.keeps.tells asked writes.unread (b refl) ((write_more first old new size all n page bytes result true job e (d.works works) writes is).1 refl)

  -- a settle of a worker that works
  pub did_settle : {T E : Type 0} (first old new : D) (size : ℕ) (all all' : List Job) (state state' : State) (n : ℕ) (result : Result T E) (failed : Bool) (job : Job)
      → Did m first old size all state → state ≡ Works → all' ≡ all ++ job ∷ [] → is_err result ≡ failed → Calm m old new result → KeepsReads m old new
      → OnOk result (m.tells old ≡ true → (c : Image) → MayLeave m new c → m.held new ≡ Some c) → job ≡ record { number = n; task = Settle }
      → (failed ≡ false → state' ≡ Works) → (failed ≡ true → state' ≡ Failed) → Did m first new size all' state'
  did_settle {T} {E} first old new size all all' state state' n result failed job d works more e calm unread durable is fine broke =
      did_same first new size (all ++ job ∷ []) all' state' more (by failed e fine broke)
    where
      lasts : (r : Result T E) → OnOk r (m.tells old ≡ true → (c : Image) → MayLeave m new c → m.held new ≡ Some c) → is_err r ≡ false → m.tells old ≡ true → (c : Image) → MayLeave m new c → m.held new ≡ Some c
      lasts (Ok x) l n = l
      lasts (Err x) l n = absurd (cc (n))

      asked : m.asked new ≤ m.asked first + page_writes (all ++ job ∷ [])
      asked = let a = d.asked in let c = calm.asked in omega (arith, page_writes_more all job)

      by : (b : Bool) → is_err result ≡ b → (b ≡ false → state' ≡ Works) → (b ≡ true → state' ≡ Failed) → Did m first new size (all ++ job ∷ []) state'
      by false e f b = did_fine first old new size all (all ++ job ∷ []) state state' d calm.keeps.never_falls calm.keeps.tells asked unread (f refl) ((settle_more first old new size all n result false job e (d.works works) calm (λ n. lasts result durable e) is).0 refl)
      by true e f b = did_broke first old new size all (all ++ job ∷ []) state state' d calm.keeps.never_falls calm.keeps.tells asked unread (b refl) ((settle_more first old new size all n result true job e (d.works works) calm (λ n. absurd (cc (n))) is).1 refl)

-- a push adds its item or changes nothing
pub pushed : {T E A : Type 0} (P : E → Type 0) (Y Z : Type 0) (old new : List A) (x : A) (result : Result T E) → OnOk result ((new ≡ old ++ x ∷ []) × Y) → IfErr result (λ e. P e × (new ≡ old) × Z) → (new ≡ old ++ x ∷ []) ⊎ (new ≡ old)
pushed P Y Z old new x (Ok y) ok full = inl ok.0
pushed P Y Z old new x (Err e) ok full = inr full.1

pub honest_push : (old new : List Receipt) (r : Receipt) → (new ≡ old ++ r ∷ []) ⊎ (new ≡ old) → any_failed old ≡ false → r.failed ≡ false → any_failed new ≡ false
honest_push old new r (inl more) e f = ap any_failed more ∙ none_failed_more old r e f
honest_push old new r (inr same) e f = ap any_failed same ∙ e

pub heard : (failed : Bool) (old new : List Receipt) (r : Receipt) → failed ≡ any_failed old → new ≡ old ++ r ∷ [] → (failed || r.failed) ≡ any_failed new
heard failed old new r e more = ap (λ (b : Bool). b || r.failed) e ∙ (ap (λ (b : Bool). any_failed old || b) (sym (or_none r.failed)) ∙ (sym (any_failed_more old (r ∷ [])) ∙ ap any_failed (sym more)))
  where
    or_none : (b : Bool) → (b || false) ≡ b
    or_none true = refl
    or_none false = refl

pub told_push : (old new : List Receipt) (r : Receipt) (n : ℕ) → (new ≡ old ++ r ∷ []) ⊎ (new ≡ old) → (length old ≡ n → any_failed old ≡ true) → r.failed ≡ true → length new ≡ n → any_failed new ≡ true
told_push old new r n (inl more) e f is = ap any_failed more ∙ (any_failed_more old (r ∷ []) ∙ (ap (λ (b : Bool). any_failed old || (b || false)) f ∙ or_true (any_failed old)))
  where
    or_true : (b : Bool) → (b || true) ≡ true
    or_true true = refl
    or_true false = refl
told_push old new r n (inr same) e f is = ap any_failed same ∙ e (ap length (sym same) ∙ is)
