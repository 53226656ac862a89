-- Entries of which those stay whose revisions pass a test.
use Rattle.std.proofs.Common.{◌≡◌, ℕ, suc, arith, Bool, true, false, cond, not, ◌&&◌, List, [], ◌∷◌, ◌++◌, Option, None, Some, length, refl, sym, ap, ◌∙◌, subst, is_some}
use Rattle.std.specs.Prelude.{◌==◌, option_to_list}
use Rattle.std.specs.declared.cmp.Ordering.{Ordering}
use Rattle.std.specs.Ordering.{is_eq, eq_by_cmp}
use Rattle.std.specs.FinMap.{is_sorted}
use Rattle.std.specs.List.{filter, list_all}
use Rattle.std.specs.Map.{keys_of, lookup}
use Rattle.std.specs.BTreeMap.{is_at}
use Rattle.std.specs.Option.{option_map_or, unwrap_or}
use Rattle.std.proofs.lemmas.Bool.{false≢true}
use Rattle.std.proofs.lemmas.Bool.Decides.{nat_tests}
use Rattle.std.proofs.lemmas.Cmp.{nat_list_cmp_total}
use Rattle.jr_path.specs.Names.{name_cmp}
use Rattle.jr_path.specs.declared.name.Name.{Name}
use Rattle.jr_value.specs.declared.value.Property.{Property}
use Rattle.jr_rev.specs.declared.revision.Revision.{Revision}
use Rattle.jr_rev.specs.Revisions.{revision_cmp, is_before}
use Rattle.oak_doc.specs.Updates.{Props, of_revision, values_of_property}
use Rattle.oak_read.specs.Meaning.{later_of, latest}
use Rattle.oak_read.proofs.Entries.{latest-append}
use Rattle.oak_open.specs.Opened.{those, values_left}
use Rattle.core_read.proofs.Entries.{both, exactly, first, second, none_below}
use Rattle.core_read.proofs.Latest.{at_most_both, before_at_most, before_itself, same_revision}
use Rattle.core_keep.proofs.Found.{found_first}

not_turned : (a b : Revision) → is_before b a ≡ true → is_before a b ≡ false
not_turned a b h = by (is_before a b) refl
  where
    by : (c : Bool) → is_before a b ≡ c → c ≡ false
    by false k = refl
    by true k = absurd (false≢true (sym (before_itself a)
        ∙ subst (λ (x : Revision). is_before x a ≡ true) (sym (at_most_both a b (before_at_most a b k) (before_at_most b a h))) h))

module _ {X : Type 0} where
  -- none is left of a revision that doesn't pass
  pub filtered_none : (test : Revision → Bool) (es : List (Revision × X)) (r : Revision) → test r ≡ false
      → of_revision (filter (λ e. test e.0) es) r ≡ None
  filtered_none test [] r h = refl
  filtered_none test (e ∷ es) r h = by (test e.0) refl (filtered_none test es r h)
    where
      by : (b : Bool) → test e.0 ≡ b → of_revision (filter (λ e. test e.0) es) r ≡ None
          → of_revision (cond b (e ∷ filter (λ e. test e.0) es) (filter (λ e. test e.0) es)) r ≡ None
      by false k rest = rest
      by true k rest = at (eq_by_cmp revision_cmp r e.0) refl
        where
          at : (c : Bool) → eq_by_cmp revision_cmp r e.0 ≡ c → cond c (Some e.1) (of_revision (filter (λ e. test e.0) es) r) ≡ None
          at true j = absurd (false≢true (sym h ∙ ap test (same_revision r e.0 j) ∙ k))
          at false j = rest

  -- what is left was there
  pub filtered_there : (test : Revision → Bool) (es : List (Revision × X)) (r : Revision)
      → is_some (of_revision (filter (λ e. test e.0) es) r) ≡ true → is_some (of_revision es r) ≡ true
  filtered_there test [] r h = h
  filtered_there test (e ∷ es) r h = by (test e.0) (filtered_there test es r) h
    where
      later : (c : Bool) → (is_some (of_revision (filter (λ e. test e.0) es) r) ≡ true → is_some (of_revision es r) ≡ true)
          → is_some (cond c (Some e.1) (of_revision (filter (λ e. test e.0) es) r)) ≡ true → is_some (cond c (Some e.1) (of_revision es r)) ≡ true
      later true rest k = refl
      later false rest k = rest k

      behind : (c : Bool) → is_some (of_revision es r) ≡ true → is_some (cond c (Some e.1) (of_revision es r)) ≡ true
      behind true k = refl
      behind false k = k

      by : (b : Bool) → (is_some (of_revision (filter (λ e. test e.0) es) r) ≡ true → is_some (of_revision es r) ≡ true)
          → is_some (of_revision (cond b (e ∷ filter (λ e. test e.0) es) (filter (λ e. test e.0) es)) r) ≡ true
          → is_some (of_revision (e ∷ es) r) ≡ true
      by true rest k = later (eq_by_cmp revision_cmp r e.0) rest k
      by false rest k = behind (eq_by_cmp revision_cmp r e.0) (rest k)

  -- the first part of a test again leaves all
  pub filtered_again : (s u : Revision → Bool) (es : List (Revision × X))
      → filter (λ e. s e.0) (filter (λ e. s e.0 && u e.0) es) ≡ filter (λ e. s e.0 && u e.0) es
  filtered_again s u [] = refl
  filtered_again s u (e ∷ es) = by (s e.0) (u e.0) refl (filtered_again s u es)
    where
      by : (b c : Bool) → s e.0 ≡ b → filter (λ e. s e.0) (filter (λ e. s e.0 && u e.0) es) ≡ filter (λ e. s e.0 && u e.0) es
          → filter (λ e. s e.0) (cond (b && c) (e ∷ filter (λ e. s e.0 && u e.0) es) (filter (λ e. s e.0 && u e.0) es))
          ≡ cond (b && c) (e ∷ filter (λ e. s e.0 && u e.0) es) (filter (λ e. s e.0 && u e.0) es)
      by true true k rest =
          ap (λ x. cond x (e ∷ filter (λ e. s e.0) (filter (λ e. s e.0 && u e.0) es)) (filter (λ e. s e.0) (filter (λ e. s e.0 && u e.0) es))) k
          ∙ ap (λ (l : List (Revision × X)). e ∷ l) rest
      by true false k rest = rest
      by false c k rest = rest

  -- what all entries have, those that are left have
  pub filtered_all : (P : Revision × X → Bool) (test : Revision × X → Bool) (es : List (Revision × X)) → list_all P es ≡ true
      → list_all P (filter test es) ≡ true
  filtered_all P test [] h = h
  filtered_all P test (e ∷ es) h = by (test e) (filtered_all P test es (second _ _ h))
    where
      by : (b : Bool) → list_all P (filter test es) ≡ true → list_all P (cond b (e ∷ filter test es) (filter test es)) ≡ true
      by true rest = both _ _ (first _ _ h) rest
      by false rest = rest

  pub all_keys : (P : Revision → Bool) (es : List (Revision × X)) → list_all P (keys_of es) ≡ true → list_all (λ e. P e.0) es ≡ true
  all_keys P [] h = h
  all_keys P (e ∷ es) h = both _ _ (first _ _ h) (all_keys P es (second _ _ h))

  -- the latest entry has what all have
  pub latest_passes : (P : Revision × X → Bool) (es : List (Revision × X)) → list_all P es ≡ true → option_map_or P (latest es) true ≡ true
  latest_passes P [] h = refl
  latest_passes P (e ∷ es) h = by (latest es) (latest_passes P es (second _ _ h))
    where
      by : (o : Option (Revision × X)) → option_map_or P o true ≡ true → P (later_of e o) ≡ true
      by None k = first _ _ h
      by (Some f) k = at (is_before e.0 f.0)
        where
          at : (b : Bool) → P (cond b f e) ≡ true
          at true = k
          at false = first _ _ h

  each_found : (all es : List (Revision × X)) → ((r : Revision) → is_some (of_revision es r) ≡ true → is_some (of_revision all r) ≡ true)
      → list_all (λ e. is_some (of_revision all e.0)) es ≡ true
  each_found all [] within = refl
  each_found all (e ∷ es) within =
      both _ _ (within e.0 (ap is_some (found_first e es))) (each_found all es (λ r h. within r (behind r (eq_by_cmp revision_cmp r e.0) h)))
    where
      behind : (r : Revision) (c : Bool) → is_some (of_revision es r) ≡ true → is_some (cond c (Some e.1) (of_revision es r)) ≡ true
      behind r true k = refl
      behind r false k = k

  -- the latest entry is one of them
  pub latest_there : (es : List (Revision × X)) (a : Revision × X) → latest es ≡ Some a → is_some (of_revision es a.0) ≡ true
  latest_there es a h =
      sym (ap (λ o. option_map_or (λ (e : Revision × X). is_some (of_revision es e.0)) o true) h)
      ∙ latest_passes (λ e. is_some (of_revision es e.0)) es (each_found es es (λ r k. k))

  no_rest : (ys : List (Revision × X)) → list_all (λ y. false) ys ≡ true → latest ys ≡ None
  no_rest [] h = refl
  no_rest (y ∷ ys) h = absurd (false≢true h)

  -- entries that are before the latest of others don't count behind these
  pub latest_front : (xs ys : List (Revision × X)) → list_all (λ y. option_map_or (λ a. is_before y.0 a.0) (latest xs) false) ys ≡ true
      → latest (xs ++ ys) ≡ latest xs
  latest_front xs ys h = sym (latest-append xs ys) ∙ by (latest xs) h
    where
      by : (o : Option (Revision × X)) → list_all (λ y. option_map_or (λ a. is_before y.0 a.0) o false) ys ≡ true
          → latest (option_to_list o ++ ys) ≡ o
      by None k = no_rest ys k
      by (Some a) k = at (latest ys) (latest_passes (λ y. is_before y.0 a.0) ys k)
        where
          at : (o : Option (Revision × X)) → option_map_or (λ y. is_before y.0 a.0) o true ≡ true → Some (later_of a o) ≡ Some a
          at None j = refl
          at (Some b) j = ap (λ c. Some (cond c b a)) (not_turned a.0 b.0 j)

pub all_passing : (P test : Revision → Bool) (rs : List Revision) → list_all P rs ≡ true → list_all P (filter test rs) ≡ true
all_passing P test [] h = h
all_passing P test (r ∷ rs) h = by (test r) (all_passing P test rs (second _ _ h))
  where
    by : (b : Bool) → list_all P (filter test rs) ≡ true → list_all P (cond b (r ∷ filter test rs) (filter test rs)) ≡ true
    by true rest = both _ _ (first _ _ h) rest
    by false rest = rest

longer : (n : ℕ) → (suc n == 0) ≡ false
longer n = grind (arith, nat_tests)

none_of : {X : Type 0} (xs : List X) → (length xs == 0) ≡ true → xs ≡ []
none_of [] h = refl
none_of (x ∷ xs) h = absurd (false≢true (sym (longer (length xs)) ∙ h))

-- the values of a property that stay
pub values_left_at : (test : Revision → Bool) (n : Name) (ps : Props) → is_sorted name_cmp ps ≡ true
    → values_of_property (values_left test ps) n ≡ those test (values_of_property ps n)
values_left_at test n [] sorted = refl
values_left_at test n (p ∷ ps) sorted =
    by (eq_by_cmp name_cmp n p.0) refl (length (those test p.1) == 0) refl (values_left_at test n ps (second _ _ sorted))
  where
    rest : values_of_property (values_left test ps) n ≡ those test (values_of_property ps n)
        → values_of_property ps n ≡ [] → values_of_property (values_left test ps) n ≡ []
    rest is none = is ∙ ap (those test) none

    by : (a : Bool) → eq_by_cmp name_cmp n p.0 ≡ a → (b : Bool) → (length (those test p.1) == 0) ≡ b
        → values_of_property (values_left test ps) n ≡ those test (values_of_property ps n)
        → values_of_property (cond (not b) ((p.0, those test p.1) ∷ values_left test ps) (values_left test ps)) n
        ≡ those test (unwrap_or (cond a (Some p.1) (lookup (is_at (name_cmp n)) ps)) [])
    by true k false j is = ap (λ c. unwrap_or (cond c (Some (those test p.1)) (lookup (is_at (name_cmp n)) (values_left test ps))) []) k
    by true k true j is =
        rest is (ap (λ o. unwrap_or o []) (none_below name_cmp nat_list_cmp_total n p.0 (exactly _ k) ps (first _ _ sorted)))
        ∙ sym (none_of (those test p.1) j)
    by false k false j is = ap (λ c. unwrap_or (cond c (Some (those test p.1)) (lookup (is_at (name_cmp n)) (values_left test ps))) []) k ∙ is
    by false k true j is = is
