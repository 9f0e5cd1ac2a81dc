-- Laws of what pages are wanted for: a change of one page, two changes one after the other, more orders,
-- and the same demands by another set.
use Rattle.std.specs.Prelude.{◌++◌, ◌≡◌, ◌⊎◌, ℕ, true, List, length, Bool}
use Rattle.std.proofs.Common.{inl, inr, refl, sym, subst, ap, ◌∙◌}
use Rattle.std.proofs.lemmas.Bool.{cases_eq, or_cases, or_left, or_right}
use Rattle.mg_base.specs.Fields.{byte}
use Rattle.mg_careful.specs.declared.links.Demand.{Demand}
use Rattle.mg_careful.specs.Precedence.{Orders}
use Rattle.mg_careful.specs.CarefulWrite.{listed, DemandSet, Has, IsIn, either}
use Rattle.mg_demand_laws.specs.Bearing.{IsPaid}
use Rattle.mg_demand_laws.specs.Freeing.{KeepsLinks}
use Rattle.mg_image.specs.Form.{Pages}
use Rattle.mg_slots.specs.declared.page.TheConstants.{DATA_KIND}
use Rattle.mg_space.specs.Demands.{demands_of, meets_of}
use Rattle.mg_space.specs.declared.links.TheConstants.{VERSION}
use Rattle.mg_demand_laws.specs.Met.{has_back, has_either, has_front, in_listed, of_listed}
use Rattle.mg_demand_laws.specs.Wanting.{IsWanting, OwesPage, Pays, may_go, nothing}

-- ---- members of two sets

pub either_cases : (one other : DemandSet) (d : Demand) → IsIn (either one other) d
    → IsIn one d ⊎ IsIn other d
either_cases one other d h = elim (or_cases (one d h.0) _ h.1) [
  | inl x ↦ inl (h.0, x)
  | inr y ↦ inr (h.0, y)
]

pub in_one : (one other : DemandSet) (d : Demand) → IsIn one d → IsIn (either one other) d
in_one one other d h = (h.0, or_left _ _ h.1)

pub in_other : (one other : DemandSet) (d : Demand) → IsIn other d → IsIn (either one other) d
in_other one other d h = (h.0, or_right (one d h.0) _ h.1)

-- ---- a change of one page

module _ (size : ℕ) (old new : Pages) (b : ℕ) (orders : Orders) (settled : ℕ → Bool) (on_disk wanted more : DemandSet) (was : IsWanting size old wanted) (owes : OwesPage size old new b orders settled on_disk wanted more) where
  still_met : (d : Demand) → IsIn wanted d → meets_of (new d.target) d ≡ true
  still_met d h = elim (cases_eq d.target b) [
    | inl same ↦ subst (λ (n : ℕ). meets_of (new n) d ≡ true) (sym same) (owes.still d h same)
    | inr ne ↦ ap (λ (page : List ℕ). meets_of page d) (owes.others d.target ne) ∙ was.keeps.met d h
  ]

  still_links : (d e : Demand) → IsIn wanted d → Has (demands_of (new d.target) d) e
      → Has (demands_of (old d.target) d) e ⊎ IsPaid orders on_disk wanted more d e
  still_links d e h made = elim (cases_eq d.target b) [
    | inl same ↦ elim (owes.links d e h same (subst (λ (n : ℕ). Has (demands_of (new n) d) e) same made)) [
      | inl stood ↦ inl (subst (λ (n : ℕ). Has (demands_of (old n) d) e) (sym same) stood)
      | inr paid ↦ inr paid
    ]
    | inr ne ↦ inl (subst (λ (page : List ℕ). Has (demands_of page d) e) (owes.others d.target ne) made)
  ]

  still_data : (d : Demand) → IsIn wanted d → d.what ≡ VERSION → byte (new d.target) 0 ≡ DATA_KIND
  still_data d h is = elim (cases_eq d.target b) [
    | inl same ↦ subst (λ (n : ℕ). byte (new n) 0 ≡ DATA_KIND) (sym same) (owes.kept_data d h same is)
    | inr ne ↦ ap (λ (page : List ℕ). byte page 0) (owes.others d.target ne) ∙ was.on_data d h is
  ]

  page_leaves : KeepsLinks demands_of old new orders wanted nothing (may_go settled)
  page_leaves d e h made may apart = elim (cases_eq d.target b) [
    | inl same ↦ elim (owes.leaves d e h same (subst (λ (n : ℕ). Has (demands_of (old n) d) e) same made) may
        (λ on. apart (on ∙ sym same))) [
          | inl stays ↦ inl (subst (λ (n : ℕ). Has (demands_of (new n) d) e) (sym same) stays, refl)
          | inr order ↦ inr (subst (λ (n : ℕ). orders n e.target ≡ true) (sym same) order)
        ]
    | inr ne ↦ inl (subst (λ (page : List ℕ). Has (demands_of page d) e) (sym (owes.others d.target ne)) made, refl)
  ]

  now_whole : (n : ℕ) → length (new n) ≡ size
  now_whole n = elim (cases_eq n b) [
    | inl same ↦ subst (λ (m : ℕ). length (new m) ≡ size) (sym same) owes.len
    | inr ne ↦ ap (λ (page : List ℕ). length page) (owes.others n ne) ∙ was.whole n
  ]

  in_turn_then : (d e : Demand) → IsIn wanted d ⊎ IsIn more d → Has (demands_of (new d.target) d) e
      → IsIn (either wanted more) e
  in_turn_then d e (inl h) made = elim (still_links d e h made) [
    | inl stood ↦ in_one wanted more e (was.keeps.in_turn d e h stood)
    | inr paid ↦ is_wanted_then e paid.is_wanted
  ]
    where
      is_wanted_then : (e : Demand) → IsIn wanted e ⊎ IsIn more e → IsIn (either wanted more) e
      is_wanted_then e (inl x) = in_one wanted more e x
      is_wanted_then e (inr y) = in_other wanted more e y
  in_turn_then d e (inr h) made = elim (owes.new_links d e h made).is_wanted [
    | inl x ↦ in_one wanted more e x
    | inr y ↦ in_other wanted more e y
  ]

  pub page_pays : Pays size old new orders settled on_disk wanted more
  page_pays = record {
    pays = record { still = still_met; met = owes.met; links = still_links; new_links = owes.new_links };
    leaves = page_leaves;
    wants = record {
      lawful = was.lawful;
      whole = now_whole;
      keeps = record {
        met = λ d h. elim (either_cases wanted more d h) [
          | inl x ↦ still_met d x
          | inr y ↦ owes.met d y
        ];
        in_turn = λ d e h made. in_turn_then d e (either_cases wanted more d h) made;
      };
      used = λ d h. elim (either_cases wanted more d h) [
        | inl x ↦ owes.used d.target (was.used d x)
        | inr y ↦ owes.new_used d y
      ];
      on_data = λ d h is. elim (either_cases wanted more d h) [
        | inl x ↦ still_data d x is
        | inr y ↦ owes.new_data d y is
      ];
    };
  }

-- ---- two changes, one after the other

module _ (size : ℕ) (old mid new : Pages) (orders : Orders) (settled : ℕ → Bool) (on_disk wanted more most : DemandSet) (first : Pays size old mid orders settled on_disk wanted more) (second : Pays size mid new orders settled on_disk (either wanted more) most) where
  abbrev both_sets : DemandSet
  both_sets = either more most

  first_paid : (d e : Demand) → IsPaid orders on_disk wanted more d e
      → IsPaid orders on_disk wanted both_sets d e
  first_paid d e paid = record {
    is_wanted = elim paid.is_wanted [
      | inl x ↦ inl x
      | inr y ↦ inr (in_one more most e y)
    ];
    is_first = paid.is_first;
  }

  second_paid : (d e : Demand) → IsPaid orders on_disk (either wanted more) most d e
      → IsPaid orders on_disk wanted both_sets d e
  second_paid d e paid = record {
    is_wanted = elim paid.is_wanted [
      | inl x ↦ elim (either_cases wanted more e x) [
        | inl w ↦ inl w
        | inr y ↦ inr (in_one more most e y)
      ]
      | inr z ↦ inr (in_other more most e z)
    ];
    is_first = paid.is_first;
  }

  regroup : (d : Demand) → IsIn (either wanted both_sets) d → IsIn (either (either wanted more) most) d
  regroup d h = elim (either_cases wanted both_sets d h) [
    | inl w ↦ in_one (either wanted more) most d (in_one wanted more d w)
    | inr x ↦ elim (either_cases more most d x) [
      | inl y ↦ in_one (either wanted more) most d (in_other wanted more d y)
      | inr z ↦ in_other (either wanted more) most d z
    ]
  ]

  degroup : (d : Demand) → IsIn (either (either wanted more) most) d → IsIn (either wanted both_sets) d
  degroup d h = elim (either_cases (either wanted more) most d h) [
    | inl x ↦ elim (either_cases wanted more d x) [
      | inl w ↦ in_one wanted both_sets d w
      | inr y ↦ in_other wanted both_sets d (in_one more most d y)
    ]
    | inr z ↦ in_other wanted both_sets d (in_other more most d z)
  ]

  pub two_pay : Pays size old new orders settled on_disk wanted (either more most)
  two_pay = record {
    pays = record {
      still = λ d h. second.pays.still d (in_one wanted more d h);
      met = λ d h. elim (either_cases more most d h) [
        | inl x ↦ second.pays.still d (in_other wanted more d x)
        | inr y ↦ second.pays.met d y
      ];
      links = λ d e h made. elim (second.pays.links d e (in_one wanted more d h) made) [
        | inl stood ↦ elim (first.pays.links d e h stood) [
          | inl then_ ↦ inl then_
          | inr paid ↦ inr (first_paid d e paid)
        ]
        | inr paid ↦ inr (second_paid d e paid)
      ];
      new_links = λ d e h made. elim (either_cases more most d h) [
        | inl x ↦ elim (second.pays.links d e (in_other wanted more d x) made) [
          | inl stood ↦ first_paid d e (first.pays.new_links d e x stood)
          | inr paid ↦ second_paid d e paid
        ]
        | inr y ↦ second_paid d e (second.pays.new_links d e y made)
      ];
    };
    leaves = λ d e h made may apart. elim (first.leaves d e h made may apart) [
      | inl stays ↦ second.leaves d e (in_one wanted more d h) stays.0 may apart
      | inr order ↦ inr order
    ];
    wants = record {
      lawful = second.wants.lawful;
      whole = second.wants.whole;
      keeps = record {
        met = λ d h. second.wants.keeps.met d (regroup d h);
        in_turn = λ d e h made. degroup e (second.wants.keeps.in_turn d e (regroup d h) made);
      };
      used = λ d h. second.wants.used d (regroup d h);
      on_data = λ d h is. second.wants.on_data d (regroup d h) is;
    };
  }

-- ---- more orders, and other sets with the same members

-- what is paid for by some orders is paid for by more
pub more_orders : (size : ℕ) (old new : Pages) (orders all : Orders) (settled : ℕ → Bool)
    (on_disk wanted more : DemandSet) → ((a b : ℕ) → orders a b ≡ true → all a b ≡ true)
    → Pays size old new orders settled on_disk wanted more → Pays size old new all settled on_disk wanted more
more_orders size old new orders all settled on_disk wanted more grows it = record {
  pays = record {
    still = it.pays.still;
    met = it.pays.met;
    links = λ d e h made. elim (it.pays.links d e h made) [
      | inl stood ↦ inl stood
      | inr paid ↦ inr (by d e paid)
    ];
    new_links = λ d e h made. by d e (it.pays.new_links d e h made);
  };
  wants = it.wants;
  leaves = λ d e h made may apart. elim (it.leaves d e h made may apart) [
    | inl stays ↦ inl stays
    | inr order ↦ inr (grows d.target e.target order)
  ];
}
  where
    by : (d e : Demand) → IsPaid orders on_disk wanted more d e → IsPaid all on_disk wanted more d e
    by d e paid = record {
      is_wanted = paid.is_wanted;
      is_first = elim paid.is_first [
        | inl same ↦ inl same
        | inr other ↦ inr (elim other [
          | inl order ↦ inl (grows e.target d.target order)
          | inr there ↦ inr there
        ])
      ];
    }

-- what is newly wanted may be told by another set with the same members
pub same_more : (size : ℕ) (old new : Pages) (orders : Orders) (settled : ℕ → Bool)
    (on_disk wanted one other : DemandSet) → ((d : Demand) → IsIn one d → IsIn other d)
    → ((d : Demand) → IsIn other d → IsIn one d)
    → Pays size old new orders settled on_disk wanted one → Pays size old new orders settled on_disk wanted other
same_more size old new orders settled on_disk wanted one other to from it = record {
  pays = record {
    still = it.pays.still;
    met = λ d h. it.pays.met d (from d h);
    links = λ d e h made. elim (it.pays.links d e h made) [
      | inl stood ↦ inl stood
      | inr paid ↦ inr (by d e paid)
    ];
    new_links = λ d e h made. by d e (it.pays.new_links d e (from d h) made);
  };
  wants = record {
    lawful = it.wants.lawful;
    whole = it.wants.whole;
    keeps = record {
      met = λ d h. it.wants.keeps.met d (back d h);
      in_turn = λ d e h made. forth e (it.wants.keeps.in_turn d e (back d h) made);
    };
    used = λ d h. it.wants.used d (back d h);
    on_data = λ d h is. it.wants.on_data d (back d h) is;
  };
  leaves = it.leaves;
}
  where
    back : (d : Demand) → IsIn (either wanted other) d → IsIn (either wanted one) d
    back d h = elim (either_cases wanted other d h) [
      | inl x ↦ in_one wanted one d x
      | inr y ↦ in_other wanted one d (from d y)
    ]

    forth : (d : Demand) → IsIn (either wanted one) d → IsIn (either wanted other) d
    forth d h = elim (either_cases wanted one d h) [
      | inl x ↦ in_one wanted other d x
      | inr y ↦ in_other wanted other d (to d y)
    ]

    by : (d e : Demand) → IsPaid orders on_disk wanted one d e → IsPaid orders on_disk wanted other d e
    by d e paid = record {
      is_wanted = elim paid.is_wanted [
        | inl x ↦ inl x
        | inr y ↦ inr (to e y)
      ];
      is_first = paid.is_first;
    }

-- ---- what is newly wanted, as a list

to_both : (ds es : List Demand) (d : Demand) → IsIn (either (listed ds) (listed es)) d
    → IsIn (listed (ds ++ es)) d
to_both ds es d h = in_listed (ds ++ es) d (elim (either_cases (listed ds) (listed es) d h) [
  | inl x ↦ has_front ds es d (of_listed ds d x)
  | inr y ↦ has_back ds es d (of_listed es d y)
])

from_both : (ds es : List Demand) (d : Demand) → IsIn (listed (ds ++ es)) d
    → IsIn (either (listed ds) (listed es)) d
from_both ds es d h = elim (has_either ds es d (of_listed (ds ++ es) d h)) [
  | inl x ↦ in_one (listed ds) (listed es) d (in_listed ds d x)
  | inr y ↦ in_other (listed ds) (listed es) d (in_listed es d y)
]

-- two steps that newly want lists are one that wants both
pub two_listed : (size : ℕ) (old mid new : Pages) (orders : Orders) (settled : ℕ → Bool)
    (on_disk wanted : DemandSet) (ds es : List Demand)
    → Pays size old mid orders settled on_disk wanted (listed ds)
    → Pays size mid new orders settled on_disk (either wanted (listed ds)) (listed es)
    → Pays size old new orders settled on_disk wanted (listed (ds ++ es))
two_listed size old mid new orders settled on_disk wanted ds es first second =
    same_more size old new orders settled on_disk wanted (either (listed ds) (listed es)) (listed (ds ++ es))
    (to_both ds es) (from_both ds es)
    (two_pay size old mid new orders settled on_disk wanted (listed ds) (listed es) first second)
