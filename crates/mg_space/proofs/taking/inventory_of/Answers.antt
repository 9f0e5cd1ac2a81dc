use Rattle.std.proofs.Common.{◌≡◌, ◌++◌, ◌∙◌, ℕ, List, ap, arith, drop, length, refl, subst, sym, take}
use Rattle.std.specs.declared.alloc.Global.{Global}
use Rattle.std.specs.declared.vec.Vec.{Vec}
use Rattle.mg_base.specs.Image.{blank}
use Rattle.mg_base.specs.declared.geometry.Geometry.{Geometry}
use Rattle.mg_image.specs.Inventory.{inventory_page}
use Rattle.mg_space.specs.HandedLaws.{out_of_memory, own_as, told_as}
use Rattle.mg_space.specs.Taking.{IsMarked, MarksFixed, RefusesRegion}
use Rattle.mg_space.specs.View.{viewed}
use Rattle.mg_space.specs.declared.fault.SpaceFault.TheVariants as faults
use Rattle.mg_space.specs.declared.reading.Found.{Found}
use Rattle.mg_space.proofs.HandedLemmas.{is_also, no_ok, reads_own, reads_region, refused_as, told_online}
use Rattle.mg_space.proofs.InventoryLemmas.{damage_on, made_len, made_seen, marks_on, there_len, there_seen}
use Rattle.mg_space.proofs.RegionLemmas.{written_back}
use Rattle.mg_space.proofs.TakingLemmas.{marked}
use Rattle.mg_space.proofs.taking.inventory_of.Goals as goal
use Rattle.mg_space.proofs.taking.inventory_of.Goals.{in-Page, in-Absent+in_ok-page-in-Absent}

pub returns-in_err-bytes : goal.returns-in_err-bytes
returns-in_err-bytes g c =
    let r = c.from_residual.result in
    let fault = c.in_err-bytes.field-0.0 in
    let is = c.from_residual.ensures.1 in
    let only = c.in_err-bytes.ensures.refusal in
    record {
      keeps = c.find_page.ensures.keeps;
      fault = told_as Found g.D.Disk.meaning c.args.store.now c.find_page.new.store r fault is
          c.in_err-bytes.ensures.fault;
      own = own_as Found r fault is (reads_own Found Found fault only);
      len = no_ok r _ _ is;
      fixed = no_ok r _ _ is;
      seen = λ image tells. refused_as r fault
          (λ (page : Vec ℕ Global). MarksFixed
          (inventory_page c.args.store.now.geometry.size c.args.region) c.args.region
          (viewed c.args.store.now image c.args.batch.now
          (inventory_page c.args.store.now.geometry.size c.args.region)) page.items)
          (RefusesRegion c.args.store.now.geometry c.args.region
          (viewed c.args.store.now image c.args.batch.now)) is
          (reads_region Found c.args.store.now.geometry c.args.region
          (viewed c.args.store.now image c.args.batch.now) fault only);
    }

pub returns-in_err-page-in-Absent : goal.returns-in_err-page-in-Absent
returns-in_err-page-in-Absent g c =
    let r = c.from_residual-in_err-page-in-Absent.result in
    let is = is_also r c.in_err-page-in-Absent.field-0.0 out_of_memory
    c.from_residual-in_err-page-in-Absent.ensures.1 c.in_err-page-in-Absent.ensures.memory in
    record {
      keeps = c.find_page.ensures.keeps;
      fault = told_online g.D.Disk.meaning c.args.store.now c.find_page.new.store r out_of_memory is
          c.in_ok-bytes.ensures.fault;
      own = own_as Found r out_of_memory is tt;
      len = no_ok r _ _ is;
      fixed = no_ok r _ _ is;
      seen = λ image tells. refused_as r out_of_memory
          (λ (page : Vec ℕ Global). MarksFixed
          (inventory_page c.args.store.now.geometry.size c.args.region) c.args.region
          (viewed c.args.store.now image c.args.batch.now
          (inventory_page c.args.store.now.geometry.size c.args.region)) page.items)
          (RefusesRegion c.args.store.now.geometry c.args.region
          (viewed c.args.store.now image c.args.batch.now)) is tt;
    }

pub returns-in_err-mark_fixed-clause-keeps : goal.returns-in_err-mark_fixed-clause-keeps
returns-in_err-mark_fixed-clause-keeps g c = c.find_page.ensures.keeps

pub returns-in_err-mark_fixed-clause-fault : goal.returns-in_err-mark_fixed-clause-fault
returns-in_err-mark_fixed-clause-fault g c = told_online g.D.Disk.meaning c.args.store.now
    c.find_page.new.store c.from_residual-in_err-mark_fixed.result
    (faults.Damaged c.in_err-mark_fixed.field-0.0) c.from_residual-in_err-mark_fixed.ensures.1
    c.in_ok-bytes.ensures.fault

pub returns-in_err-mark_fixed-clause-own : goal.returns-in_err-mark_fixed-clause-own
returns-in_err-mark_fixed-clause-own g c = own_as Found c.from_residual-in_err-mark_fixed.result
    (faults.Damaged c.in_err-mark_fixed.field-0.0) c.from_residual-in_err-mark_fixed.ensures.1 tt

pub returns-in_err-mark_fixed-clause-len : goal.returns-in_err-mark_fixed-clause-len
returns-in_err-mark_fixed-clause-len g c = no_ok c.from_residual-in_err-mark_fixed.result _ _
    c.from_residual-in_err-mark_fixed.ensures.1

pub returns-in_err-mark_fixed-clause-fixed : goal.returns-in_err-mark_fixed-clause-fixed
returns-in_err-mark_fixed-clause-fixed g c = no_ok c.from_residual-in_err-mark_fixed.result _ _
    c.from_residual-in_err-mark_fixed.ensures.1

pub returns-clause-keeps : goal.returns-clause-keeps
returns-clause-keeps g c = c.find_page.ensures.keeps

pub returns-clause-fault : goal.returns-clause-fault
returns-clause-fault g c = c.in_ok-bytes.ensures.fault

pub returns-clause-fixed : goal.returns-clause-fixed
returns-clause-fixed g c =
    let len : c.match-branch-2.page.len ≡ length c.mark_fixed.new.page =
    omega (arith, c.mark_fixed.ensures.len, c.deref_mut.ensures.len) in
    let rest : List ℕ = drop (length c.mark_fixed.new.page) c.match-branch-2.page.items in
    subst (λ (p : List ℕ). IsMarked c.args.region p)
    (sym (written_back c.match-branch-2.page.len c.mark_fixed.new.page rest
    (take c.match-branch-2.page.len (c.mark_fixed.new.page ++ rest)) len refl))
    (marked c.args.at.0 c.args.region c.deref_mut.result.now c.mark_fixed.new.page
    c.in_ok-mark_fixed.ensures.marks)

pub returns-clause-len : goal.returns-clause-len
returns-clause-len g c = ap (λ (b : List ℕ). length b) back ∙ (c.mark_fixed.ensures.len
    ∙ (ap (λ (b : List ℕ). length b) c.deref_mut.ensures.value ∙ (long
    ∙ ap (λ (x : Geometry). x.size) c.find_page.ensures.keeps.geometry)))
  where
    rest : List ℕ
    rest = drop (length c.mark_fixed.new.page) c.match-branch-2.page.items

    whole : c.match-branch-2.page.len ≡ length c.mark_fixed.new.page
    whole = omega (arith, c.mark_fixed.ensures.len, c.deref_mut.ensures.len)

    back : take c.match-branch-2.page.len (c.mark_fixed.new.page ++ rest) ≡ c.mark_fixed.new.page
    back = written_back c.match-branch-2.page.len c.mark_fixed.new.page rest
        (take c.match-branch-2.page.len (c.mark_fixed.new.page ++ rest)) whole refl

    long : length c.match-branch-2.page.items ≡ c.find_page.new.store.geometry.size
    long = elim c.match-branch-2.branch [
      | in-Page w ↦ there_len g.D.Disk.meaning c.find_page.new.store c.args.batch.now.pages c.args.at.0
          c.in_ok-bytes.field-0 w.in-Page.bytes c.match-branch-2.page.items w.in-Page.is
          (ap (λ (v : Vec ℕ Global). v.items) w.page-is ∙ w.into_vec-page.ensures)
          c.in_ok-bytes.ensures.found
      | in-Absent+in_ok-page-in-Absent w ↦ made_len c.find_page.new.store.geometry.size
          c.match-branch-2.page.items (ap (λ (v : Vec ℕ Global). v.items) w.page-is
          ∙ w.in_ok-page-in-Absent.ensures.page)
    ]

pub returns-clause-seen : goal.returns-clause-seen
returns-clause-seen g c image tells = marks_on
    (viewed c.args.store.now image c.args.batch.now) c.args.at.0
    (inventory_page c.args.store.now.geometry.size c.args.region) c.args.region
    c.deref_mut.result.now c.mark_fixed.new.page
    (take c.match-branch-2.page.len (c.mark_fixed.new.page ++ rest)) c.requires.at
    (c.deref_mut.ensures.value ∙ items) back c.in_ok-mark_fixed.ensures.marks
  where
    rest : List ℕ
    rest = drop (length c.mark_fixed.new.page) c.match-branch-2.page.items

    whole : c.match-branch-2.page.len ≡ length c.mark_fixed.new.page
    whole = omega (arith, c.mark_fixed.ensures.len, c.deref_mut.ensures.len)

    back : take c.match-branch-2.page.len (c.mark_fixed.new.page ++ rest) ≡ c.mark_fixed.new.page
    back = written_back c.match-branch-2.page.len c.mark_fixed.new.page rest
        (take c.match-branch-2.page.len (c.mark_fixed.new.page ++ rest)) whole refl

    items : c.match-branch-2.page.items ≡ viewed c.args.store.now image c.args.batch.now c.args.at.0
    items = elim c.match-branch-2.branch [
      | in-Page w ↦ there_seen c.args.store.now.geometry.size c.in_ok-bytes.field-0 w.in-Page.bytes
          c.match-branch-2.page.items (viewed c.args.store.now image c.args.batch.now c.args.at.0)
          w.in-Page.is (ap (λ (v : Vec ℕ Global). v.items) w.page-is ∙ w.into_vec-page.ensures)
          (c.in_ok-bytes.ensures.seen image tells)
      | in-Absent+in_ok-page-in-Absent w ↦ made_seen c.args.store.now.geometry.size
          c.in_ok-bytes.field-0 w.in-Absent.pages c.match-branch-2.page.items
          (viewed c.args.store.now image c.args.batch.now c.args.at.0) w.in-Absent.is
          (ap (λ (v : Vec ℕ Global). v.items) w.page-is ∙ (w.in_ok-page-in-Absent.ensures.page
          ∙ ap (λ (x : Geometry). blank x.size) c.find_page.ensures.keeps.geometry))
          (c.in_ok-bytes.ensures.seen image tells)
    ]

pub returns-in_err-mark_fixed-clause-seen : goal.returns-in_err-mark_fixed-clause-seen
returns-in_err-mark_fixed-clause-seen g c image tells = refused_as
    c.from_residual-in_err-mark_fixed.result (faults.Damaged c.in_err-mark_fixed.field-0.0)
    (λ (page : Vec ℕ Global). MarksFixed
    (inventory_page c.args.store.now.geometry.size c.args.region) c.args.region
    (viewed c.args.store.now image c.args.batch.now
    (inventory_page c.args.store.now.geometry.size c.args.region)) page.items)
    (RefusesRegion c.args.store.now.geometry c.args.region
    (viewed c.args.store.now image c.args.batch.now))
    c.from_residual-in_err-mark_fixed.ensures.1
    (damage_on (viewed c.args.store.now image c.args.batch.now) c.args.at
    (inventory_page c.args.store.now.geometry.size c.args.region) c.args.region
    c.deref_mut.result.now c.in_err-mark_fixed.field-0.0 c.requires.at
    (c.deref_mut.ensures.value ∙ items) c.in_err-mark_fixed.ensures.damaged)
  where
    items : c.match-branch-2.page.items ≡ viewed c.args.store.now image c.args.batch.now c.args.at.0
    items = elim c.match-branch-2.branch [
      | in-Page w ↦ there_seen c.args.store.now.geometry.size c.in_ok-bytes.field-0 w.in-Page.bytes
          c.match-branch-2.page.items (viewed c.args.store.now image c.args.batch.now c.args.at.0)
          w.in-Page.is (ap (λ (v : Vec ℕ Global). v.items) w.page-is ∙ w.into_vec-page.ensures)
          (c.in_ok-bytes.ensures.seen image tells)
      | in-Absent+in_ok-page-in-Absent w ↦ made_seen c.args.store.now.geometry.size
          c.in_ok-bytes.field-0 w.in-Absent.pages c.match-branch-2.page.items
          (viewed c.args.store.now image c.args.batch.now c.args.at.0) w.in-Absent.is
          (ap (λ (v : Vec ℕ Global). v.items) w.page-is ∙ (w.in_ok-page-in-Absent.ensures.page
          ∙ ap (λ (x : Geometry). blank x.size) c.find_page.ensures.keeps.geometry))
          (c.in_ok-bytes.ensures.seen image tells)
    ]
