-- Among the children of the node above a path the child at the path stands as it is now.
use Rattle.std.proofs.Common.{◌≡◌, ◌⊎◌, inl, inr, Bool, true, false, cond, Some, None, Option, [], ◌∷◌, ◌++◌, is_some, refl, sym, ap, ◌∙◌, subst}
use Rattle.std.specs.Prelude.{Result, Ok, Err, OnOk}
use Rattle.std.specs.BTreeMap.{is_at}
use Rattle.std.specs.FinMap.{is_sorted}
use Rattle.std.specs.Map.{lookup}
use Rattle.std.specs.Option.{unwrap_or}
use Rattle.std.specs.Ordering.{eq_by_cmp}
use Rattle.std.proofs.lemmas.Bool.{false≢true}
use Rattle.std.proofs.lemmas.Cmp.{eq_by_cmp_equiv, nat_list_cmp_total}
use Rattle.jr_path.specs.Names.{last_name, name_cmp, parent_of, path_cmp}
use Rattle.jr_path.specs.declared.name.Name.{Name}
use Rattle.jr_path.specs.declared.path.Path.{Path}
use Rattle.jr_path.proofs.Maps.{lookup-insert_entry, path_total}
use Rattle.jr_path.proofs.Parts.{last_name-child, parent_of-child}
use Rattle.jr_rev.specs.declared.revision.Revision.{Revision}
use Rattle.jr_tree.proofs.Entries.{lookup-remove, sorted_insert, sorted_remove}
use Rattle.jr_tree.proofs.Pointwise.{same_path}
use Rattle.jr_part.specs.Parts.{ChildNames, Knowledge, list_at, with_children}
use Rattle.jr_part.proofs.Named.{ends, same_names}
use Rattle.jr_known.specs.Renewal.{ListsChild, with_child}

-- ---- what an option has

pub inside : {X : Type 0} (x y : X) → Some x ≡ Some y → x ≡ y
inside x y h = ap (λ o. unwrap_or o x) h

both_inside : {X : Type 0} (o : Option X) (x y : X) → o ≡ Some x → o ≡ Some y → y ≡ x
both_inside o x y h k = inside y x (sym k ∙ h)

-- ---- a child's path

pub same_above : (p q : Path) (m n : Name) → p ++ m ∷ [] ≡ q ++ n ∷ [] → p ≡ q
same_above p q m n e = inside p q (sym (parent_of-child p m) ∙ (ap parent_of e ∙ parent_of-child q n))

same_last : (p q : Path) (m n : Name) → p ++ m ∷ [] ≡ q ++ n ∷ [] → m ≡ n
same_last p q m n e = inside m n (sym (last_name-child p m) ∙ (ap last_name e ∙ last_name-child q n))

no_root : (q : Path) (n : Name) → eq_by_cmp path_cmp (q ++ n ∷ []) [] ≡ false
no_root [] n = refl
no_root (m ∷ q) n = refl

-- ---- what is found among the names once one child stands as it is now

with_child_at : (born : Option (Option Revision)) (n m : Name) (names : ChildNames) → is_sorted name_cmp names ≡ true
    → lookup (is_at (name_cmp m)) (with_child born n names) ≡ cond (eq_by_cmp name_cmp m n) born (lookup (is_at (name_cmp m)) names)
with_child_at (Some by) n m names sorted = lookup-insert_entry name_cmp nat_list_cmp_total m n by names
with_child_at None n m names sorted = lookup-remove name_cmp nat_list_cmp_total m n names sorted

pub with_child_rises : (born : Option (Option Revision)) (n : Name) (names : ChildNames) → is_sorted name_cmp names ≡ true → is_sorted name_cmp (with_child born n names) ≡ true
with_child_rises (Some by) n names sorted = sorted_insert name_cmp nat_list_cmp_total n by names sorted
with_child_rises None n names sorted = sorted_remove name_cmp (is_at (name_cmp n)) names sorted

module _ (k : Knowledge) (born : Option (Option Revision)) where
  -- ---- where nothing changes

  -- names in which the child stands as it is now
  abbrev Stands : (p q : Path) → Type 0
  Stands p q = (n : Name) (names : ChildNames) → list_at k q ≡ Some names → eq_by_cmp path_cmp (q ++ n ∷ []) p ≡ true → lookup (is_at (name_cmp n)) names ≡ born

  unchanged : (p : Path) → ((q : Path) → Stands p q) → ListsChild k k p born
  unchanged p stands = record {
    nodes = refl;
    known = λ q. refl;
    named = λ q n before after h now. ap (lookup (is_at (name_cmp n))) (both_inside (list_at k q) before after h now) ∙ by q n before h (eq_by_cmp path_cmp (q ++ n ∷ []) p) refl;
  }
    where
      by : (q : Path) (n : Name) (before : ChildNames) → list_at k q ≡ Some before → (b : Bool) → eq_by_cmp path_cmp (q ++ n ∷ []) p ≡ b
          → lookup (is_at (name_cmp n)) before ≡ cond b born (lookup (is_at (name_cmp n)) before)
      by q n before h true same = stands q n before h same
      by q n before h false same = refl

  at_root : ListsChild k k [] born
  at_root = unchanged [] (λ q n names h same. absurd (false≢true (sym (no_root q n) ∙ same)))

  pub lists_nameless : (p : Path) → last_name p ≡ None → ListsChild k k p born
  lists_nameless p none = by (ends p)
    where
      by : (p ≡ []) ⊎ ((above : Path) × (n : Name) × (p ≡ above ++ n ∷ [])) → ListsChild k k p born
      by (inl e) = subst (λ (q : Path). ListsChild k k q born) (sym e) at_root
      by (inr r) = absurd (false≢true (ap is_some (sym none ∙ (ap last_name r.2 ∙ last_name-child r.0 r.1))))

  pub lists_topmost : (p : Path) → parent_of p ≡ None → ListsChild k k p born
  lists_topmost p none = by (ends p)
    where
      by : (p ≡ []) ⊎ ((above : Path) × (n : Name) × (p ≡ above ++ n ∷ [])) → ListsChild k k p born
      by (inl e) = subst (λ (q : Path). ListsChild k k q born) (sym e) at_root
      by (inr r) = absurd (false≢true (ap is_some (sym none ∙ (ap parent_of r.2 ∙ parent_of-child r.0 r.1))))

  module _ (above : Path) (n : Name) where
    abbrev child : Path
    child = above ++ n ∷ []

    pub lists_unknown : list_at k above ≡ None → ListsChild k k child born
    lists_unknown none = unchanged child (λ q m names h same.
        absurd (false≢true (ap is_some (sym none ∙ (ap (list_at k) (sym (same_above q above m n (same_path (q ++ m ∷ []) child same))) ∙ h)))))

    module _ (names : ChildNames) (known : list_at k above ≡ Some names) where
      pub lists_already : lookup (is_at (name_cmp n)) names ≡ born → ListsChild k k child born
      lists_already is = unchanged child (λ q m ns h same.
          let e = same_path (q ++ m ∷ []) child same in
          let here : ns ≡ names = both_inside (list_at k above) names ns known (ap (list_at k) (sym (same_above q above m n e)) ∙ h) in
          ap (λ (x : Name). lookup (is_at (name_cmp x)) ns) (same_last q above m n e)
          ∙ (ap (lookup (is_at (name_cmp n))) here ∙ is))

      -- ---- where the names are made anew

      abbrev made : ChildNames
      made = with_child born n names

      list_made : (q : Path) → list_at (with_children k above made) q ≡ cond (eq_by_cmp path_cmp q above) (Some made) (list_at k q)
      list_made q = lookup-insert_entry path_cmp path_total q above made k.lists

      known_made : (q : Path) (b : Bool) → eq_by_cmp path_cmp q above ≡ b → is_some (cond b (Some made) (list_at k q)) ≡ is_some (list_at k q)
      known_made q true same = sym (ap is_some (ap (list_at k) (same_path q above same) ∙ known))
      known_made q false same = refl

      module _ (sorted : is_sorted name_cmp names ≡ true) where
        named_made : (q : Path) (m : Name) (before after : ChildNames) → list_at k q ≡ Some before → (b : Bool) → eq_by_cmp path_cmp q above ≡ b → cond b (Some made) (list_at k q) ≡ Some after
            → lookup (is_at (name_cmp m)) after ≡ cond (eq_by_cmp path_cmp (q ++ m ∷ []) child) born (lookup (is_at (name_cmp m)) before)
        named_made q m before after h true same now =
            let here : q ≡ above = same_path q above same in
            let is : before ≡ names = both_inside (list_at k above) names before known (ap (list_at k) (sym here) ∙ h) in
            ap (lookup (is_at (name_cmp m))) (sym (inside made after now))
            ∙ (with_child_at born n m names sorted
            ∙ (ap (λ (ns : ChildNames). cond (eq_by_cmp name_cmp m n) born (lookup (is_at (name_cmp m)) ns)) (sym is)
            ∙ ap (λ b. cond b born (lookup (is_at (name_cmp m)) before)) (sym (ap (λ (x : Path). eq_by_cmp path_cmp (x ++ m ∷ []) child) here ∙ same_names above m n))))
        named_made q m before after h false same now =
            ap (lookup (is_at (name_cmp m))) (both_inside (list_at k q) before after h now)
            ∙ by (eq_by_cmp path_cmp (q ++ m ∷ []) child) refl
          where
            by : (b : Bool) → eq_by_cmp path_cmp (q ++ m ∷ []) child ≡ b → lookup (is_at (name_cmp m)) before ≡ cond b born (lookup (is_at (name_cmp m)) before)
            by true e =
                absurd (false≢true (sym same ∙ (ap (λ (x : Path). eq_by_cmp path_cmp x above) (same_above q above m n (same_path (q ++ m ∷ []) child e)) ∙ (eq_by_cmp_equiv path_total).refl above)))
            by false e = refl

        pub lists_made : ListsChild k (with_children k above made) child born
        lists_made = record {
          nodes = refl;
          known = λ q. ap is_some (list_made q) ∙ known_made q (eq_by_cmp path_cmp q above) refl;
          named = λ q m before after h now. named_made q m before after h (eq_by_cmp path_cmp q above) refl (sym (list_made q) ∙ now);
        }

-- the names above are made anew, unless memory is refused
pub lists_put : {A E : Type 0} (k new : Knowledge) (born : Option (Option Revision)) (above : Path) (n : Name) (names now : ChildNames) (r : Result A E)
    → list_at k above ≡ Some names → is_sorted name_cmp names ≡ true → now ≡ with_child born n names → OnOk r (new ≡ with_children k above now) → OnOk r (ListsChild k new (above ++ n ∷ []) born)
lists_put k new born above n names now (Err e) known sorted is put = tt
lists_put k new born above n names now (Ok x) known sorted is put =
    subst (λ (y : Knowledge). ListsChild k y (above ++ n ∷ []) born) (sym (put ∙ ap (with_children k above) is)) (lists_made k born above n names known sorted)

-- the path is a child's of the node above it
pub lists_at_child : {A E : Type 0} (k new : Knowledge) (born : Option (Option Revision)) (p above : Path) (n : Name) (r : Result A E) → last_name p ≡ Some n → parent_of p ≡ Some above
    → OnOk r (ListsChild k new (above ++ n ∷ []) born) → OnOk r (ListsChild k new p born)
lists_at_child k new born p above n r last parent h = subst (λ (q : Path). OnOk r (ListsChild k new q born)) (sym (by (ends p))) h
  where
    by : (p ≡ []) ⊎ ((a : Path) × (m : Name) × (p ≡ a ++ m ∷ [])) → p ≡ above ++ n ∷ []
    by (inl e) = absurd (false≢true (ap is_some (sym (ap parent_of e) ∙ parent)))
    by (inr x) =
        x.2
        ∙ (ap (λ (q : Path). q ++ x.1 ∷ []) (inside x.0 above (sym (parent_of-child x.0 x.1) ∙ (sym (ap parent_of x.2) ∙ parent)))
        ∙ ap (λ (m : Name). above ++ m ∷ []) (inside x.1 n (sym (last_name-child x.0 x.1) ∙ (sym (ap last_name x.2) ∙ last))))
