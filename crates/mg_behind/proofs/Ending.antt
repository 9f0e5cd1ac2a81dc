-- What the jobs that were taken say of the device in the end.
use Rattle.std.proofs.Common.{◌≡◌, ℕ, zero, suc, ◌+◌, ◌-◌, ◌<◌, ◌≤◌, ◌||◌, Bool, true, false, List, [], ◌∷◌, ◌++◌, length, take, Some, refl, sym, ap, ◌∙◌, subst, arith, length-append}
use mathlib.Core.List.{IsPrefix}
use Rattle.mg_base.specs.Image.{Image}
use Rattle.mg_base.specs.Disk.{Meaning}
use Rattle.mg_behind.specs.declared.job.Job.{Job}
use Rattle.mg_behind.specs.declared.job.Receipt.{Receipt}
use Rattle.mg_behind.specs.declared.worker.State.{State}
use Rattle.mg_behind.specs.declared.worker.State.TheVariants.{Works, Failed, Odd}
use Rattle.mg_behind.specs.Jobs.{after, any_failed, page_writes, IsWhole, EachWhole, EndsSettled, Fine, Broke, Did}
use Rattle.mg_behind.specs.Ends.{Ends}
use Rattle.mg_behind.proofs.Does.{any_failed_more}
use Rattle.std.proofs.lemmas.List.{append-nil, get_or_append_left}

take_less : {A : Type 0} (n : ℕ) (xs ys : List A) → n ≤ length xs → take n (xs ++ ys) ≡ take n xs
take_less zero xs ys le = refl
take_less (suc n) [] ys le = absurd (omega arith)
take_less (suc n) (x ∷ xs) ys le = ap (λ zs. x ∷ zs) (take_less n xs ys (omega arith))

take_own : {A : Type 0} (xs : List A) → take (length xs) xs ≡ xs
take_own [] = refl
take_own (x ∷ xs) = ap (λ zs. x ∷ zs) (take_own xs)

-- the front of a list of whole pages is one
whole_front : (size : ℕ) (xs ys zs : List Job) → xs ++ ys ≡ zs → EachWhole size zs → EachWhole size xs
whole_front size xs ys zs e whole k d lt =
    let there : EachWhole size (xs ++ ys) = subst (EachWhole size) (sym e) whole in
    subst (λ (j : Job). IsWhole size j.task) (get_or_append_left xs ys d k lt) (there k d (omega (arith, length-append xs ys)))

quiet_front : (xs ys zs : List Receipt) → xs ++ ys ≡ zs → any_failed zs ≡ false → any_failed xs ≡ false
quiet_front xs ys zs e quiet = left (any_failed xs) (any_failed ys) (sym (any_failed_more xs ys) ∙ (ap any_failed e ∙ quiet))
  where
    left : (a b : Bool) → (a || b) ≡ false → a ≡ false
    left false b h = refl
    left true b h = h

shorter : (xs ys zs : List Receipt) (n : ℕ) → xs ++ ys ≡ zs → length zs ≤ n → length xs ≤ n
shorter xs ys zs n e le = omega (arith, ap length e, length-append xs ys)

take_front_of : (all jobs rest : List Job) → all ++ rest ≡ jobs → take (length all) jobs ≡ all
take_front_of all jobs rest e = ap (take (length all)) (sym e) ∙ (take_less (length all) all rest (omega arith) ∙ take_own all)

-- the receipts that were read are a front of those that were handed back: where they are all of them, one tells of the failure
whole_told : (xs ys zs : List Receipt) (n : ℕ) → xs ++ ys ≡ zs → length zs ≤ n → (length zs ≡ n → any_failed zs ≡ true) → length xs ≡ n → any_failed xs ≡ true
whole_told xs [] zs n e le told is = ap any_failed (sym (append-nil xs) ∙ e) ∙ told (ap length (sym e ∙ append-nil xs) ∙ is)
whole_told xs (y ∷ ys) zs n e le told is = absurd (omega (arith, ap length e, length-append xs (y ∷ ys)))

module _ {D : Type 0} (m : Meaning D) (first now : D) (size : ℕ) (all jobs rest : List Job) (state : State) (start mirror : Image) (receipts : List Receipt) (refused : ℕ)
    (did : Did m first now size all state) (front : all ++ rest ≡ jobs) (answered : length receipts ≤ length all) where
  asked_front : m.asked now ≤ m.asked first + page_writes (take (length all) jobs)
  asked_front = subst (λ (xs : List Job). m.asked now ≤ m.asked first + page_writes xs) (sym (take_front_of all jobs rest front)) did.asked

  fine_ends : Fine m first now all → all ≡ jobs → mirror ≡ after start jobs → ((image : Image) → m.held first ≡ Some image → start ≡ image) → any_failed receipts ≡ false → (0 < refused → any_failed receipts ≡ true)
      → Ends m first now jobs receipts (length all) mirror refused
  fine_ends fine same shows read quiet refusals = record {
    never_falls = did.never_falls;
    tells = did.tells;
    content = λ image h ne. absurd (ne (fine.held image h ∙ ap (λ xs. Some (after image xs)) (sym (take_front_of all jobs rest front))));
    asked = asked_front;
    unread = did.unread;
    all = λ n. ap length same;
    mirror_held = λ n image h. fine.held image h ∙ ap Some (ap (after image) same ∙ (ap (λ i. after i jobs) (sym (read image h)) ∙ sym shows));
    settled = λ n ends told. fine.settled (subst EndsSettled (sym same) ends) (did.tells ∙ told);
    answered = answered;
    calm = λ each none. fine.faults;
    cause = λ some. absurd (cc (refusals some, quiet));
  }

  broke_ends : Broke m first now all → (length receipts ≡ length all → any_failed receipts ≡ true)
      → Ends m first now jobs receipts (length all) mirror refused
  broke_ends broke told = record {
    never_falls = did.never_falls;
    tells = did.tells;
    content = λ image h ne. (broke.rose, broke.held image h (λ is. ne (is ∙ ap (λ xs. Some (after image xs)) (sym (take_front_of all jobs rest front)))) ∙ ap (λ xs. Some (after image xs)) (sym less), told);
    asked = asked_front;
    unread = did.unread;
    all = λ n. absurd (n broke.rose);
    mirror_held = λ n. absurd (n broke.rose);
    settled = λ n. absurd (n broke.rose);
    answered = answered;
    calm = λ each none. absurd (let each_job : length receipts ≡ length all = omega (arith, ap length front, length-append all rest) in cc (told each_job, none));
    cause = λ some. broke.rose;
  }
    where
      less : take (length all - 1) jobs ≡ take (length all - 1) all
      less = ap (take (length all - 1)) (sym front) ∙ take_less (length all - 1) all rest (omega arith)

-- whatever became of the worker
pub ends_so : {D : Type 0} (m : Meaning D) (first now : D) (size : ℕ) (all jobs : List Job) (start mirror : Image) (refused : ℕ) (state : State) (received sent : List Receipt)
    → Did m first now size all state → IsPrefix all jobs → (state ≡ Works → all ≡ jobs) → EachWhole size jobs → mirror ≡ after start jobs
    → ((image : Image) → m.held first ≡ Some image → start ≡ image) → IsPrefix received sent → length sent ≤ length all → (state ≡ Works → any_failed sent ≡ false)
    → (state ≡ Failed → length sent ≡ length all → any_failed sent ≡ true) → (0 < refused → any_failed received ≡ true)
    → Ends m first now jobs received (length all) mirror refused
ends_so m first now size all jobs start mirror refused Works received sent did front same whole shows read heard fewer honest told refusals =
    fine_ends m first now size all jobs front.0 Works start mirror received refused did front.1 (shorter received heard.0 sent (length all) heard.1 fewer) (did.works refl) (same refl) shows read (quiet_front received heard.0 sent heard.1 (honest refl)) refusals
ends_so m first now size all jobs start mirror refused Failed received sent did front same whole shows read heard fewer honest told refusals =
    broke_ends m first now size all jobs front.0 Failed start mirror received refused did front.1 (shorter received heard.0 sent (length all) heard.1 fewer) (did.failed refl) (whole_told received heard.0 sent (length all) heard.1 fewer (told refl))
ends_so m first now size all jobs start mirror refused Odd received sent did front same whole shows read heard fewer honest told refusals = absurd (did.odd refl (whole_front size all front.0 jobs front.1 whole))
