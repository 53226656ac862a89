-- Where a node knows what changed, before and after a background write.
use Rattle.std.proofs.Common.{◌≡◌, ℕ, zero, suc, ◌+◌, Bool, true, false, cond, not, Option, Some, None, List, [], ◌∷◌, get_or, filter, fold, inl, inr, refl, sym, ap, subst, ◌∙◌, arith}
use Rattle.std.specs.Prelude.{◌==◌, Contains, unwrap_or}
use Rattle.std.specs.BTreeMap.{is_at}
use Rattle.std.specs.Cmp.{Equal-is}
use Rattle.std.specs.List.{AllByRecursion}
use Rattle.std.specs.Option.{IsSomeAnd, option_map_or}
use Rattle.std.specs.Ordering.{nat_cmp, ord_min}
use Rattle.std.proofs.lemmas.Bool.{false≢true, both_ways, cases_eq, eqb-true, false_from_ne_true}
use Rattle.std.proofs.lemmas.List.Elements.{All-contains, All-from_recursion, recursion_from_All}
use Rattle.std.proofs.lemmas.Map.Lookups.{exact_unsigned}
use Rattle.std.proofs.lemmas.Map.Views.{Contains-from_lookup}
use Rattle.jr_rev.specs.declared.revision.Revision.{Revision}
use Rattle.jr_rev.specs.declared.vector.Pin.{Pin}
use Rattle.jr_rev.specs.Revisions.{revision_cmp, is_at_most, is_before}
use Rattle.jr_rev.specs.Vectors.{Entries, IsVector, entry, is_below, is_entry_below, own_in, sees, stands_from, start_of}
use Rattle.jr_rev.proofs.Bounds.{below_along, below_entries, entries_below, entry_at, entry_itself}
use Rattle.jr_rev.proofs.Entries.{both}
use Rattle.jr_rev.proofs.Order.{at_most_itself, at_most_trans}
use Rattle.oak_node.specs.declared.pending.Note.{Note}
use Rattle.oak_node.specs.Changes.{changed_since, knowing_pins, known_from, oldest_own}
use Rattle.oak_node.specs.Memory.{NodeState, IsMemory, own_entry}
use Rattle.oak_node.specs.Notes.{without_seen}
use Rattle.oak_node.specs.Pins.{pin_of}
use Rattle.oak_node.proofs.Changes.{min_left, oldest_is, own_in_is, since_entry, since_oldest}
use Rattle.oak_node.proofs.Members.{Contains-filter}
use Rattle.oak_node.proofs.Owns.{entry-with_entry}
use Rattle.oak_node.proofs.Rising.{not_before_at_most}
use Rattle.oak_node.proofs.Rules.{entry-with_other}

-- ---- the least vector

known_other : (s : NodeState) (e : Revision) (k : ℕ) → IsMemory s → e.cluster ≡ s.cluster → (k ≡ s.cluster → ⊥) → entry (known_from (record s { since = e })) k ≡ entry s.head k
known_other s e k is node other = let low = is.low in entry-with_other s.head e k (omega (arith, node, low)) (λ same. other (same ∙ node))

known_own : (s : NodeState) (e : Revision) → IsMemory s → e.cluster ≡ s.cluster → entry (known_from (record s { since = e })) s.cluster ≡ Some e
known_own s e is node = entry-with_entry s.head s.cluster (own_entry s) e is.own node

-- the least vectors with two own entries
known_rises : (s : NodeState) (a b : Revision) → IsMemory s → a.cluster ≡ s.cluster → b.cluster ≡ s.cluster → is_at_most a b ≡ true → is_below (known_from (record s { since = a })) (known_from (record s { since = b })) ≡ true
known_rises s a b is ac bc low =
    entries_below (known_from (record s { since = a })) (known_from (record s { since = b }))
    (λ k. elim (cases_eq k s.cluster) [
      | inl own ↦
          subst (λ (j : ℕ). is_entry_below (entry (known_from (record s { since = a })) j) (entry (known_from (record s { since = b })) j) ≡ true) (sym own)
          (subst (λ (o : Option Revision). is_entry_below o (entry (known_from (record s { since = b })) s.cluster) ≡ true) (sym (known_own s a is ac))
          (subst (λ (o : Option Revision). is_entry_below (Some a) o ≡ true) (sym (known_own s b is bc)) low))
      | inr other ↦
          subst (λ (o : Option Revision). is_entry_below o (entry (known_from (record s { since = b })) k) ≡ true) (sym (known_other s a k is ac other))
          (subst (λ (o : Option Revision). is_entry_below (entry s.head k) o ≡ true) (sym (known_other s b k is bc other)) (entry_itself (entry s.head k)))
    ])

pub known_low : (s : NodeState) → IsMemory s → is_below (known_from s) s.head ≡ true
known_low s is =
    entries_below (known_from s) s.head
    (λ k. elim (cases_eq k s.cluster) [
      | inl own ↦
          subst (λ (j : ℕ). is_entry_below (entry (known_from s) j) (entry s.head j) ≡ true) (sym own)
          (subst (λ (o : Option Revision). is_entry_below o (entry s.head s.cluster) ≡ true) (sym (since_entry s is))
          (subst (λ (o : Option Revision). is_entry_below (Some s.since) o ≡ true) (sym is.own) is.kept.low))
      | inr other ↦
          subst (λ (o : Option Revision). is_entry_below o (entry s.head k) ≡ true) (sym (known_other s s.since k is is.kept.node other)) (entry_itself (entry s.head k))
    ])

-- ---- the oldest own entry is at most that of each pin

fold_low : (k : ℕ) (e : Revision) (pins : List (ℕ × Pin)) → is_at_most (fold (λ e pin. ord_min revision_cmp e (own_in k pin.1.base)) e pins) e ≡ true
fold_low k e [] = at_most_itself e
fold_low k e (p ∷ ps) =
    at_most_trans (fold (λ e pin. ord_min revision_cmp e (own_in k pin.1.base)) e (p ∷ ps)) (ord_min revision_cmp e (own_in k p.1.base)) e
    (fold_low k (ord_min revision_cmp e (own_in k p.1.base)) ps) (min_left e (own_in k p.1.base))

min_right : (a b : Revision) → is_at_most (ord_min revision_cmp a b) b ≡ true
min_right a b = by (is_before b a) refl
  where
    by : (c : Bool) → is_before b a ≡ c → is_at_most (cond c b a) b ≡ true
    by true h = at_most_itself b
    by false h = not_before_at_most b a h

fold_each : (k : ℕ) (e : Revision) (pins : List (ℕ × Pin)) → AllByRecursion (λ pin. is_at_most (fold (λ e pin. ord_min revision_cmp e (own_in k pin.1.base)) e pins) (own_in k pin.1.base) ≡ true) pins
fold_each k e [] = tt
fold_each k e (p ∷ ps) =
    let m : Revision = ord_min revision_cmp e (own_in k p.1.base) in (
      at_most_trans (fold (λ e pin. ord_min revision_cmp e (own_in k pin.1.base)) m ps) m (own_in k p.1.base) (fold_low k m ps) (min_right e (own_in k p.1.base)),
      fold_each k m ps,
    )

-- ---- a pin

exact_number : (x y : ℕ) → is_at (nat_cmp x) y ≡ true → x ≡ y
exact_number x y h = exact_unsigned x y ((Equal-is (nat_cmp x y)).0 h)

pin_there : (s : NodeState) (owner : ℕ) (pin : Pin) → pin_of s owner ≡ Some pin → Contains s.pins (owner, pin)
pin_there s owner pin h = Contains-from_lookup {eq = λ x y. is_at (nat_cmp x) y} exact_number owner pin s.pins h

stands_at : (n : ℕ) (v : Entries) (i : ℕ) (f : Revision) → stands_from n v ≡ true → get_or v i None ≡ Some f → f.cluster ≡ n + i
stands_at n [] i f h is = absurd (none is)
  where
    none : None ≡ Some f → ⊥
    none e = cc
stands_at n (None ∷ v) zero f h is = absurd (none is)
  where
    none : None ≡ Some f → ⊥
    none e = cc
stands_at n (Some r ∷ v) zero f h is =
    let node : r.cluster ≡ n = eqb-true r.cluster n (both (r.cluster == n) _ h).0 in
    let same : r.cluster ≡ f.cluster = ap (λ (o : Option Revision). option_map_or (λ (q : Revision). q.cluster) o 0) is in
    omega arith
stands_at n (None ∷ v) (suc i) f h is = let rest = stands_at (n + 1) v i f h is in omega arith
stands_at n (Some r ∷ v) (suc i) f h is = let rest = stands_at (n + 1) v i f (both (r.cluster == n) _ h).1 is in omega arith

entry_node : (v : Entries) (k : ℕ) (f : Revision) → IsVector v → entry v k ≡ Some f → f.cluster ≡ k
entry_node v zero f vector h = absurd (none h)
  where
    none : None ≡ Some f → ⊥
    none e = cc
entry_node v (suc i) f vector h = let at = stands_at 1 v i f vector.stands (sym (entry_at v i) ∙ h) in omega arith

-- an entry that is at least a revision is there
entry_above : (a : Revision) (o : Option Revision) → is_entry_below (Some a) o ≡ true → (f : Revision) × (o ≡ Some f)
entry_above a None h = absurd (false≢true h)
entry_above a (Some f) h = (f, refl)

-- ---- notes

filter_within : {X : Type 0} (p q : X → Bool) (xs : List X) → AllByRecursion (λ x. p x ≡ true → q x ≡ true) xs → filter p (filter q xs) ≡ filter p xs
filter_within p q [] h = refl
filter_within {X} p q (x ∷ xs) h = by (filter_within p q xs h.1) (q x) refl
  where
    out : filter p (filter q xs) ≡ filter p xs → (b : Bool) → p x ≡ b → q x ≡ false → filter p (filter q xs) ≡ cond b (x ∷ filter p xs) (filter p xs)
    out rest true passes fails = absurd (false≢true (sym fails ∙ h.0 passes))
    out rest false passes fails = rest

    by : filter p (filter q xs) ≡ filter p xs → (b : Bool) → q x ≡ b → filter p (cond b (x ∷ filter q xs) (filter q xs)) ≡ filter p (x ∷ xs)
    by rest true is = ap (λ (ys : List X). cond (p x) (x ∷ ys) ys) rest
    by rest false is = out rest (p x) refl is

-- ---- a background write

module _ (s : NodeState) (owner : ℕ) (pin : Pin) (is : IsMemory s) (vector : IsVector pin.base) (there : pin_of s owner ≡ Some pin) where
  abbrev e : Revision
  e = oldest_own s

  node : e.cluster ≡ s.cluster
  node = (oldest_is s is).0

  -- where the node knows what changed since the pin's base
  module _ (known : is_below (known_from s) pin.base ≡ true) where
    found : (f : Revision) × (entry pin.base s.cluster ≡ Some f)
    found = entry_above s.since (entry pin.base s.cluster) (subst (λ (o : Option Revision). is_entry_below o (entry pin.base s.cluster) ≡ true) (since_entry s is) (below_entries (known_from s) pin.base known s.cluster))

    abbrev f : Revision
    f = found.0

    f_node : f.cluster ≡ s.cluster
    f_node = entry_node pin.base s.cluster f vector found.1

    own_is : own_in s.cluster pin.base ≡ f
    own_is =
        own_in_is s.cluster pin.base (subst (λ (o : Option Revision). IsSomeAnd o (λ r. r.cluster ≡ s.cluster)) (sym found.1) f_node)
        ∙ ap (λ (o : Option Revision). unwrap_or o (start_of s.cluster)) found.1

    low : is_at_most e f ≡ true
    low =
        subst (λ (r : Revision). is_at_most e r ≡ true) own_is
        (All-contains (λ (p : ℕ × Pin). is_at_most e (own_in s.cluster p.1.base) ≡ true) (knowing_pins s) (owner, pin)
        (All-from_recursion (λ (p : ℕ × Pin). is_at_most e (own_in s.cluster p.1.base) ≡ true) (knowing_pins s) (fold_each s.cluster (own_entry s) (knowing_pins s)))
        (Contains-filter (λ (p : ℕ × Pin). is_below (known_from s) p.1.base) s.pins (owner, pin) (pin_there s owner pin there) known))

    still_known : is_below (known_from (without_seen s)) pin.base ≡ true
    still_known =
        entries_below (known_from (without_seen s)) pin.base
        (λ k. elim (cases_eq k s.cluster) [
          | inl own ↦
              subst (λ (j : ℕ). is_entry_below (entry (known_from (without_seen s)) j) (entry pin.base j) ≡ true) (sym own)
              (subst (λ (o : Option Revision). is_entry_below o (entry pin.base s.cluster) ≡ true) (sym (known_own s e is node))
              (subst (λ (o : Option Revision). is_entry_below (Some e) o ≡ true) (sym found.1) low))
          | inr other ↦
              subst (λ (o : Option Revision). is_entry_below o (entry pin.base k) ≡ true) (known_other s s.since k is is.kept.node other ∙ sym (known_other s e k is node other))
              (below_entries (known_from s) pin.base known k)
        ])

    seen_early : (note : Note) → note.revision.cluster ≡ s.cluster → is_before e note.revision ≡ false → sees pin.base note.revision ≡ true
    seen_early note of early =
        ap (λ (o : Option Revision). option_map_or (is_at_most note.revision) o false) (ap (entry pin.base) of ∙ found.1)
        ∙ at_most_trans note.revision e f (not_before_at_most e note.revision early) low

    each : (note : Note) → note.revision.cluster ≡ s.cluster → not (sees pin.base note.revision) ≡ true → is_before e note.revision ≡ true
    each note of unseen = by (is_before e note.revision) refl
      where
        by : (b : Bool) → is_before e note.revision ≡ b → b ≡ true
        by true h = refl
        by false h = absurd (false≢true (ap not (sym (seen_early note of h)) ∙ unseen))

    all : (notes : List Note) → AllByRecursion (λ (note : Note). note.revision.cluster ≡ s.cluster) notes → AllByRecursion (λ (note : Note). not (sees pin.base note.revision) ≡ true → is_before e note.revision ≡ true) notes
    all [] h = tt
    all (note ∷ notes) h = (each note h.0, all notes h.1)

    told : changed_since (without_seen s) pin.base ≡ changed_since s pin.base
    told =
        ap (λ (b : Bool). cond b (Some (filter (λ (note : Note). not (sees pin.base note.revision)) (without_seen s).changed)) None) still_known
        ∙ (ap (λ (ns : List Note). Some ns) (filter_within (λ (note : Note). not (sees pin.base note.revision)) (λ (note : Note). is_before e note.revision) s.changed (all s.changed (recursion_from_All (λ (note : Note). note.revision.cluster ≡ s.cluster) s.changed is.kept.of_node)))
        ∙ sym (ap (λ (b : Bool). cond b (Some (filter (λ (note : Note). not (sees pin.base note.revision)) s.changed)) None) known))

  untold : is_below (known_from s) pin.base ≡ false → changed_since (without_seen s) pin.base ≡ changed_since s pin.base
  untold unknown =
      ap (λ (b : Bool). cond b (Some (filter (λ (note : Note). not (sees pin.base note.revision)) (without_seen s).changed)) None)
      (false_from_ne_true (is_below (known_from (without_seen s)) pin.base) (λ h. both_ways (is_below (known_from s) pin.base) unknown
      (below_along (known_from s) (known_from (without_seen s)) pin.base (known_rises s s.since e is is.kept.node node (since_oldest s is)) h)))
      ∙ sym (ap (λ (b : Bool). cond b (Some (filter (λ (note : Note). not (sees pin.base note.revision)) s.changed)) None) unknown)

  pub told_still : changed_since (without_seen s) pin.base ≡ changed_since s pin.base
  told_still = by (is_below (known_from s) pin.base) refl
    where
      by : (b : Bool) → is_below (known_from s) pin.base ≡ b → changed_since (without_seen s) pin.base ≡ changed_since s pin.base
      by true h = told h
      by false h = untold h
