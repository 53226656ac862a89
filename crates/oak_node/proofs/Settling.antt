-- The head's own entry, found from the front of what was drawn.
use Rattle.std.proofs.Common.{◌≡◌, Bool, true, false, cond, not, List, [], ◌∷◌, filter, fold, refl, sym, ap, subst, ◌∙◌}
use Rattle.std.proofs.lemmas.Bool.{cond-true, both_ways, false_from_ne_true}
use Rattle.std.specs.List.{AllByRecursion, list_all}
use Rattle.std.specs.List.Sorted.{IsStrictlySortedBy}
use Rattle.std.specs.declared.cmp.Ordering.TheVariants.{Less}
use Rattle.jr_rev.specs.declared.revision.Revision.{Revision}
use Rattle.jr_rev.specs.Revisions.{revision_cmp, is_before}
use Rattle.oak_node.specs.declared.drawn.Drawn.{Drawn}
use Rattle.oak_node.specs.Memory.{revisions_in, begins_in_flight}
use Rattle.oak_node.specs.Heads.{later_draw, flying_in, local_from}
use Rattle.oak_node.proofs.Rising.{less_before, not_before_back, not_before_itself, before_along}

-- each of these revisions is after r
abbrev pub Follows : Revision → List Revision → Type 0
Follows r rs = AllByRecursion (λ q. revision_cmp r q ≡ Less) rs

-- the drawn revisions rise from e on
abbrev pub RisesFrom : Revision → List Drawn → Type 0
RisesFrom e ds = IsStrictlySortedBy revision_cmp (e ∷ revisions_in ds)

pub first_follows : (e : Revision) (d : Drawn) (ds : List Drawn) → RisesFrom e (d ∷ ds) → is_before e d.revision ≡ true
unfolding IsStrictlySortedBy
first_follows e d ds h = less_before e d.revision h.0.0

pub rises_on : (e : Revision) (d : Drawn) (ds : List Drawn) → RisesFrom e (d ∷ ds) → RisesFrom d.revision ds
unfolding IsStrictlySortedBy
rises_on e d ds h = h.1

pub others_follow : (e : Revision) (d : Drawn) (ds : List Drawn) → RisesFrom e (d ∷ ds) → Follows d.revision (revisions_in ds)
unfolding IsStrictlySortedBy
others_follow e d ds h = h.1.0

all_step : (r : Revision) (d : Drawn) (ds : List Drawn) (b : Bool) → is_before r d.revision ≡ true → list_all (is_before r) (flying_in ds) ≡ true → list_all (is_before r) (revisions_in (cond (not b) (d ∷ filter (λ x. not x.ended) ds) (filter (λ x. not x.ended) ds))) ≡ true
all_step r d ds true h rest = rest
all_step r d ds false h rest = rw h rest

-- what is before each of the drawn revisions is before each in flight
all_of : (r : Revision) (ds : List Drawn) → Follows r (revisions_in ds) → list_all (is_before r) (flying_in ds) ≡ true
all_of r [] h = refl
all_of r (d ∷ ds) h = all_step r d ds d.ended (less_before r d.revision h.0) (all_of r ds h.1)

greater_after : (a b : Revision) → is_before a b ≡ true → later_draw a b ≡ b
greater_after a b h = rw h refl

none_of : (r : Revision) (rs flying : List Revision) → Follows r rs → filter (λ q. list_all (is_before q) (r ∷ flying)) rs ≡ []
none_of r [] flying h = refl
none_of r (q ∷ rs) flying h = rw (not_before_back r q (less_before r q h.0)) (none_of r rs flying h.1)

-- one that has ended, with only later ones behind it, takes the place of what was before it
past : (e r : Revision) (ds : List Drawn) → is_before e r ≡ true → Follows r (revisions_in ds) → local_from e (record { revision = r; ended = true } ∷ ds) ≡ local_from r ds
past e r ds h k =
    let P : Revision → Bool = λ q. list_all (is_before q) (flying_in ds) in
    let kept : filter P (r ∷ revisions_in ds) ≡ r ∷ filter P (revisions_in ds) = cond-true (P r) (r ∷ filter P (revisions_in ds)) (filter P (revisions_in ds)) (all_of r ds k) in
    ap (λ qs. fold later_draw e qs) kept ∙ ap (λ q. fold later_draw q (filter P (revisions_in ds))) (greater_after e r h)

-- nothing moves past one in flight
at_flight : (e r : Revision) (ds : List Drawn) → Follows r (revisions_in ds) → local_from e (record { revision = r; ended = false } ∷ ds) ≡ e
at_flight e r ds k = rw (not_before_itself r, none_of r (revisions_in ds) (flying_in ds) k) refl

pub past_ended : (e : Revision) (d : Drawn) (ds : List Drawn) → d.ended ≡ true → RisesFrom e (d ∷ ds) → local_from e (d ∷ ds) ≡ local_from d.revision ds
past_ended e d ds h rising =
    let same : d ≡ record { revision = d.revision; ended = true } = ap (λ (b : Bool). record { revision = d.revision; ended = b }) h in
    subst (λ (x : Drawn). local_from e (x ∷ ds) ≡ local_from d.revision ds) (sym same) (past e d.revision ds (first_follows e d ds rising) (others_follow e d ds rising))

pub at_flying : (e : Revision) (d : Drawn) (ds : List Drawn) → d.ended ≡ false → RisesFrom e (d ∷ ds) → local_from e (d ∷ ds) ≡ e
at_flying e d ds h rising =
    let same : d ≡ record { revision = d.revision; ended = false } = ap (λ (b : Bool). record { revision = d.revision; ended = b }) h in
    subst (λ (x : Drawn). local_from e (x ∷ ds) ≡ e) (sym same) (at_flight e d.revision ds (others_follow e d ds rising))

-- one step of the search: what is left begins with d
pub step_on : (e : Revision) (d : Drawn) (left ds : List Drawn) → left ≡ d ∷ ds → d.ended ≡ true → RisesFrom e left → RisesFrom d.revision ds × (local_from e left ≡ local_from d.revision ds)
step_on e d left ds is h rising =
    let rising' : RisesFrom e (d ∷ ds) = rw is at rising in
    (rises_on e d ds rising', rw is (past_ended e d ds h rising'))

pub step_end : (e : Revision) (d : Drawn) (left ds : List Drawn) → left ≡ d ∷ ds → d.ended ≡ false → RisesFrom e left → local_from e left ≡ e
step_end e d left ds is h rising = rw is (at_flying e d ds h (rw is at rising))

-- ---- what is kept above the own entry

-- the own entry never falls
pub local_least : (e : Revision) (ds : List Drawn) → RisesFrom e ds → is_before (local_from e ds) e ≡ false
local_least e [] h = not_before_itself e
local_least e (d ∷ ds) h = by d.ended refl (local_least d.revision ds (rises_on e d ds h))
  where
    by : (b : Bool) → d.ended ≡ b → is_before (local_from d.revision ds) d.revision ≡ false → is_before (local_from e (d ∷ ds)) e ≡ false
    by true is least =
        rw (past_ended e d ds is h) (false_from_ne_true (is_before (local_from d.revision ds) e) (λ below. both_ways _ least (before_along (local_from d.revision ds) e d.revision below (first_follows e d ds h))))
    by false is least = rw (at_flying e d ds is h) (not_before_itself e)

-- what is above the own entry begins with one in flight
pub rest_flies : (e : Revision) (ds : List Drawn) → RisesFrom e ds → begins_in_flight (filter (λ d. is_before (local_from e ds) d.revision) ds) ≡ true
rest_flies e [] h = refl
rest_flies e (d ∷ ds) h = by d.ended refl (rest_flies d.revision ds (rises_on e d ds h))
  where
    by : (b : Bool) → d.ended ≡ b → begins_in_flight (filter (λ x. is_before (local_from d.revision ds) x.revision) ds) ≡ true → begins_in_flight (filter (λ x. is_before (local_from e (d ∷ ds)) x.revision) (d ∷ ds)) ≡ true
    by true is rest =
        subst (λ (l : Revision). begins_in_flight (filter (λ x. is_before l x.revision) (d ∷ ds)) ≡ true) (sym (past_ended e d ds is h)) (rw (local_least d.revision ds (rises_on e d ds h)) rest)
    by false is rest = rw (at_flying e d ds is h, first_follows e d ds h, is) refl
