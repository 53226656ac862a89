-- What is left of entries, put one after another.
use Rattle.std.proofs.Common.{◌≡◌, ◌≤◌, ℕ, ◌+◌, Bool, true, false, cond, List, [], ◌∷◌, ◌++◌}
use Rattle.std.proofs.Common.{Option, length, refl, sym, ap, subst, ◌∙◌, append_assoc, arith}
use Rattle.std.specs.declared.cmp.Ordering.TheVariants.{Less}
use Rattle.std.specs.Prelude.{filter, ◌==◌, ◌&&◌}
use Rattle.std.proofs.lemmas.Bool.{true≢false}
use Rattle.std.specs.List.{AllByRecursion, list_all}
use Rattle.std.specs.List.Sorted.{IsStrictlySortedBy}
use Rattle.std.specs.Map.{keys_of, values_of}
use Rattle.std.specs.BTreeMap.{insert_entry}
use Rattle.std.proofs.lemmas.List.Kept.{IsStrictlySortedBy-filter}
use Rattle.jr_path.proofs.Entries.{copied_step}
use Rattle.jr_path.specs.Names.{name_cmp}
use Rattle.jr_path.specs.declared.name.Name.{Name}
use Rattle.jr_path.specs.declared.path.DocId.{DocId}
use Rattle.std.proofs.lemmas.Cmp.{nat_list_cmp_total}
use Rattle.jr_rev.specs.declared.revision.Revision.{Revision}
use Rattle.jr_rev.specs.declared.vector.Pin.{Pin}
use Rattle.jr_rev.specs.Revisions.{revision_cmp}
use Rattle.jr_rev.proofs.Order.{revision_total}
use Rattle.jr_value.specs.declared.value.Property.{Property}
use Rattle.oak_doc.specs.declared.document.Document.{Document}
use Rattle.oak_doc.specs.Updates.{Props}
use Rattle.oak_sound.specs.Meant.{ById}
use Rattle.oak_open.specs.Opened.{cleaned, changes_at_opening, number_after, opened_document, opened_from, begun_anew, those, values_left}

module _ (test : Revision → Bool) where
  module _ {X : Type 0} where
    keys_those : (es : List (Revision × X)) → keys_of (those test es) ≡ filter test (keys_of es)
    keys_those [] = refl
    keys_those (e ∷ es) = by (test e.0) refl (keys_those es)
      where
        by : (b : Bool) → test e.0 ≡ b → keys_of (those test es) ≡ filter test (keys_of es)
            → keys_of (those test (e ∷ es)) ≡ filter test (keys_of (e ∷ es))
        by true is rest = rw is (ap (λ ks. e.0 ∷ ks) rest)
        by false is rest = rw is rest

    sorted_those : (es : List (Revision × X)) → IsStrictlySortedBy revision_cmp (keys_of es)
        → IsStrictlySortedBy revision_cmp (keys_of (those test es))
    sorted_those es sorted = subst (IsStrictlySortedBy revision_cmp) (sym (keys_those es))
        (IsStrictlySortedBy-filter revision_cmp test (keys_of es) sorted)

    kept_by : (b : Bool) (front rest more new es : List (Revision × X)) (k : Revision) (v : X) → test k ≡ b → rest ≡ (k, v) ∷ more
        → new ≡ cond b (insert_entry revision_cmp front k v) front → front ++ those test rest ≡ those test es
        → IsStrictlySortedBy revision_cmp (keys_of es) → new ++ those test more ≡ those test es
    kept_by true front rest more new es k v is first put so_far sorted =
        copied_step revision_cmp revision_total front (those test rest) (those test more) (those test es) new k k v v put refl refl
        (ap (those test) first ∙ ap (λ c. cond c ((k, v) ∷ those test more) (those test more)) is) so_far (sorted_those es sorted)
    kept_by false front rest more new es k v is first put so_far sorted =
        ap (λ xs. xs ++ those test more) put
        ∙ ap (λ xs. front ++ xs) (sym (ap (those test) first ∙ ap (λ c. cond c ((k, v) ∷ those test more) (those test more)) is)) ∙ so_far

    -- one more entry is put, where it passes
    pub kept_step : (front rest more new es : List (Revision × X)) (k : Revision) (v : X) (b : Bool) → b ≡ test k
        → rest ≡ (k, v) ∷ more → new ≡ cond b (insert_entry revision_cmp front k v) front
        → front ++ those test rest ≡ those test es → IsStrictlySortedBy revision_cmp (keys_of es) → new ++ those test more ≡ those test es
    kept_step front rest more new es k v b is = kept_by b front rest more new es k v (sym is)

  all_left : (P : Name → Type 0) (ps : Props) → AllByRecursion P (keys_of ps) → AllByRecursion P (keys_of (values_left test ps))
  all_left P [] all = tt
  all_left P (p ∷ ps) all = by (length (those test p.1) == 0) refl (all_left P ps all.1)
    where
      by : (b : Bool) → (length (those test p.1) == 0) ≡ b → AllByRecursion P (keys_of (values_left test ps))
          → AllByRecursion P (keys_of (values_left test (p ∷ ps)))
      by true is rest = rw is rest
      by false is rest = rw is (all.0, rest)

  sorted_by : (p : Name × List (Revision × Option Property)) (ps : Props) (b : Bool) → (length (those test p.1) == 0) ≡ b
      → AllByRecursion (λ q. name_cmp p.0 q ≡ Less) (keys_of ps) → IsStrictlySortedBy name_cmp (keys_of (values_left test ps))
      → IsStrictlySortedBy name_cmp (keys_of (values_left test (p ∷ ps)))
  unfolding IsStrictlySortedBy
  sorted_by p ps true is below rest = rw is rest
  sorted_by p ps false is below rest = rw is (all_left (λ q. name_cmp p.0 q ≡ Less) ps below, rest)

  sorted_left : (ps : Props) → IsStrictlySortedBy name_cmp (keys_of ps) → IsStrictlySortedBy name_cmp (keys_of (values_left test ps))
  unfolding IsStrictlySortedBy
  sorted_left [] sorted = tt
  sorted_left (p ∷ ps) sorted = sorted_by p ps (length (those test p.1) == 0) refl sorted.0 (sorted_left ps sorted.1)

  left_is : (n : Name) (vs : List (Revision × Option Property)) (more : Props) (b : Bool) → (length (those test vs) == 0) ≡ b
      → values_left test ((n, vs) ∷ more) ≡ cond b (values_left test more) ((n, those test vs) ∷ values_left test more)
  left_is n vs more true is = rw is refl
  left_is n vs more false is = rw is refl

  values_by : (b : Bool) (front rest more new ps : Props) (n : Name) (vs kept : List (Revision × Option Property))
      → rest ≡ (n, vs) ∷ more → kept ≡ those test vs → (length (those test vs) == 0) ≡ b
      → new ≡ cond b front (insert_entry name_cmp front n kept) → front ++ values_left test rest ≡ values_left test ps
      → IsStrictlySortedBy name_cmp (keys_of ps) → new ++ values_left test more ≡ values_left test ps
  values_by true front rest more new ps n vs kept first kept_is is put so_far sorted =
      ap (λ xs. xs ++ values_left test more) put
      ∙ ap (λ xs. front ++ xs) (sym (ap (values_left test) first ∙ left_is n vs more true is)) ∙ so_far
  values_by false front rest more new ps n vs kept first kept_is is put so_far sorted =
      copied_step name_cmp nat_list_cmp_total front (values_left test rest) (values_left test more) (values_left test ps) new n n
      (those test vs) kept put refl kept_is
      (ap (values_left test) first ∙ left_is n vs more false is) so_far (sorted_left ps sorted)

  -- the values of one more property are put, where some are left
  pub values_step : (front rest more new ps : Props) (n : Name) (vs kept : List (Revision × Option Property))
      → rest ≡ (n, vs) ∷ more → kept ≡ those test vs → new ≡ cond (length kept == 0) front (insert_entry name_cmp front n kept)
      → front ++ values_left test rest ≡ values_left test ps → IsStrictlySortedBy name_cmp (keys_of ps)
      → new ++ values_left test more ≡ values_left test ps
  values_step front rest more new ps n vs kept first kept_is put =
      values_by (length kept == 0) front rest more new ps n vs kept first kept_is (ap (λ es. length es == 0) (sym kept_is)) put

module _ (ds : ById) (pin : Pin) (sessions : ℕ) where
  -- so far these are opened, and that is the last number; those that are left go on from there
  pub record AreOpened (number : ℕ) (all rest : ById) (items : List Document) (last : ℕ) : Type 0 where
    pub made : items ++ (opened_from ds pin sessions last (values_of rest)).0 ≡ (opened_from ds pin sessions number (values_of all)).0
    pub drawn : (opened_from ds pin sessions last (values_of rest)).1 ≡ (opened_from ds pin sessions number (values_of all)).1

  number_by : (b : Bool) (n next counted own : ℕ) → next ≡ cond b (n + 1) n → counted ≡ cond b next own → counted ≡ cond b (n + 1) own
  number_by true n next counted own drawn is = is ∙ drawn
  number_by false n next counted own drawn is = is

  opened_is : (n next counted : ℕ) (d made : Document) (b : Bool) → b ≡ changes_at_opening ds pin d → next ≡ cond b (n + 1) n
      → counted ≡ cond b next d.mod_count → made ≡ record (begun_anew pin.base sessions (cleaned ds pin d)) { mod_count = counted }
      → made ≡ opened_document ds pin sessions n d
  opened_is n next counted d made b changed drawn is made_is =
      made_is ∙ ap (λ k. record (begun_anew pin.base sessions (cleaned ds pin d)) { mod_count = k })
      (number_by b n next counted d.mod_count drawn is ∙ ap (λ c. cond c (n + 1) d.mod_count) changed)

  -- one more document is opened
  pub opened_step : (number n next counted : ℕ) (all rest more : ById) (items new : List Document) (id : DocId) (d made : Document)
      (b : Bool) → rest ≡ (id, d) ∷ more → b ≡ changes_at_opening ds pin d → next ≡ cond b (n + 1) n → counted ≡ cond b next d.mod_count
      → made ≡ record (begun_anew pin.base sessions (cleaned ds pin d)) { mod_count = counted } → new ≡ items ++ made ∷ []
      → AreOpened number all rest items n → AreOpened number all more new next
  opened_step number n next counted all rest more items new id d made b first changed drawn is made_is pushed so_far =
      let next_is : next ≡ number_after ds pin n d = drawn ∙ ap (λ c. cond c (n + 1) n) changed in
      let made' = opened_is n next counted d made b changed drawn is made_is in
      record {
        made = ap (λ xs. xs ++ (opened_from ds pin sessions next (values_of more)).0) pushed
            ∙ append_assoc items (made ∷ []) (opened_from ds pin sessions next (values_of more)).0
            ∙ ap (λ x. items ++ x ∷ (opened_from ds pin sessions next (values_of more)).0) made'
            ∙ ap (λ k. items ++ opened_document ds pin sessions n d ∷ (opened_from ds pin sessions k (values_of more)).0) next_is
            ∙ ap (λ r. items ++ (opened_from ds pin sessions n (values_of r)).0) (sym first)
            ∙ so_far.made;
        drawn = ap (λ k. (opened_from ds pin sessions k (values_of more)).1) next_is
            ∙ ap (λ r. (opened_from ds pin sessions n (values_of r)).1) (sym first)
            ∙ so_far.drawn;
      }

-- a test that all of the rest pass, the first passes, and all behind it
pub first_of_all : {X : Type 0} (p : X → Bool) (rest more : List X) (x : X) → rest ≡ x ∷ more → list_all p rest ≡ true
    → (p x ≡ true) × (list_all p more ≡ true)
first_of_all p rest more x first all = split (p x) (list_all p more) (ap (list_all p) (sym first) ∙ all)
  where
    split : (a b : Bool) → (a && b) ≡ true → (a ≡ true) × (b ≡ true)
    split true b is = (refl, is)
    split false b is = absurd (true≢false (sym is))

length_more : {X : Type 0} (xs : List X) (x : X) → length (xs ++ x ∷ []) ≡ length xs + 1
length_more [] x = refl
length_more (y ∷ ys) x = let rest : length (ys ++ x ∷ []) ≡ length ys + 1 = length_more ys x in omega arith

at_most_one : (last next : ℕ) (b : Bool) → next ≡ cond b (last + 1) last → next ≤ last + 1
at_most_one last next true is = omega arith
at_most_one last next false is = omega arith

-- one more document draws at most one number
pub drawn_step : {X : Type 0} (n last next : ℕ) (b : Bool) (xs new : List X) (x : X) → next ≡ cond b (last + 1) last
    → new ≡ xs ++ x ∷ [] → last ≤ n + length xs → next ≤ n + length new
drawn_step n last next b xs new x is pushed low =
    let more : length new ≡ length xs + 1 = ap length pushed ∙ length_more xs x in
    let one : next ≤ last + 1 = at_most_one last next b is in
    omega arith
