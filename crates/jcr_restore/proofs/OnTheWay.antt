-- On the way down to a node: what a version keeps is brought back, and what it leaves out stays.
use Rattle.std.proofs.Common.{◌≡◌, Bool, true, false, cond, ◌++◌, None, Option, List, [], ◌∷◌, refl, sym, ap, ◌∙◌, append_assoc}
use Rattle.std.specs.Prelude.{◌&&◌, is_some, not}
use Rattle.std.proofs.lemmas.Bool.{and_parts, false≢true, true≢false}
use Rattle.basics.proofs.Bools.{and_never}
use Rattle.basics.proofs.Options.{none_unless}
use Rattle.jr_path.specs.declared.name.Name.{Name}
use Rattle.jr_path.specs.declared.path.Path.{Path}
use Rattle.jr_tree.specs.declared.tree.Node.{Node}
use Rattle.jr_tree.specs.Trees.{IsTree, Nodes, node_at}
use Rattle.jr_items.specs.Items.{child_path}
use Rattle.jr_types.specs.declared.TypeDef.{TypeDef}
use Rattle.jcr_frozen.specs.Frozen.{is_frozen_along, is_frozen_down}
use Rattle.jcr_restore.specs.declared.fates.Fate.TheVariants as fate
use Rattle.jcr_restore.specs.Restored.{fate_below, is_kept_back, is_staying, is_there}
use Rattle.jcr_restore.specs.BroughtBack.{left_out}
use Rattle.jcr_restore.proofs.Standing.{above_there}
use Rattle.jcr_restore.proofs.Ways.{stays, then}

-- what is known of a node that is brought to its frozen node, and of what is below
pub record IsFrozenAs (types : List TypeDef) (old new : Nodes) (here there : Path) : Type 0 where
  pub kept : (ns : List Name) → is_some (node_at new (there ++ ns)) ≡ (is_frozen_down types old here ns && is_some (node_at old (here ++ ns)))
  pub others : (ns : List Name) → left_out types new here ns ≡ left_out types old here ns

pub none_either : {X : Type 0} (b : Bool) → ◌≡◌ {A = Option X} (cond b None None) None
none_either true = refl
none_either false = refl

moved : (t : Nodes) (p : Path) (n : Name) (ns : List Name) → node_at t (child_path p n ++ ns) ≡ node_at t (p ++ n ∷ ns)
moved t p n ns = ap (node_at t) (append_assoc p (n ∷ []) ns)

-- below what isn't there nothing is
gone_below : (t : Nodes) → IsTree t → (p : Path) (n : Name) (ns : List Name) → node_at t (child_path p n) ≡ None → node_at t (child_path p n ++ ns) ≡ None
gone_below t tree p n ns none = none_unless _ (λ h. false≢true (sym (ap is_some none) ∙ above_there t tree (child_path p n) ns h))

-- what a version leaves out below a child that it keeps
ahead : (types : List TypeDef) (t : Nodes) (p : Path) (n : Name) (ns : List Name) → is_frozen_along types t (child_path p n) ≡ true → left_out types t p (n ∷ ns) ≡ left_out types t (child_path p n) ns
ahead types t p n ns along =
    ap (λ b. cond (b && is_frozen_down types t (child_path p n) ns) None (node_at t (p ++ n ∷ ns))) along
    ∙ ap (cond (is_frozen_down types t (child_path p n) ns) None) (sym (moved t p n ns))

-- it leaves out nothing below what isn't there
out_of_none : (types : List TypeDef) (t : Nodes) (p ns : Path) → node_at t (p ++ ns) ≡ None → left_out types t p ns ≡ None
out_of_none types t p ns none = ap (cond (is_frozen_down types t p ns) None) none ∙ none_either (is_frozen_down types t p ns)

-- a node that is brought nowhere on the way stays only where a version leaves it out
pub never_stays : (types : List TypeDef) (t : Nodes) (here there ns : Path) → is_frozen_down types t here ns ≡ true → is_staying (fate_below types t here there ns) ≡ false
unfolding is_kept_back
never_stays types t here there [] h = refl
never_stays types t here there (n ∷ ns) h = sym (ap is_staying (then types t here there n ns (is_there t (child_path there n)) not_back refl)) ∙ by (is_there t (child_path there n)) (never_stays types t (child_path here n) (child_path there n) ns (and_parts _ _ h).1)
  where
    not_back : is_kept_back types t (child_path here n) ≡ false
    not_back = ap (λ b. is_some (node_at t (child_path here n)) && not b) (and_parts _ _ h).0 ∙ and_never (is_some (node_at t (child_path here n)))

    by : (b : Bool) → is_staying (fate_below types t (child_path here n) (child_path there n) ns) ≡ false → is_staying (cond b (fate_below types t (child_path here n) (child_path there n) ns) fate.Goes) ≡ false
    by true rest = rest
    by false rest = refl

module _ (types : List TypeDef) (old new : Nodes) (was : IsTree old) (is : IsTree new) where
  -- a child that a version keeps isn't kept back
  not_back : (here there : Path) → IsFrozenAs types old new here there → (n : Name) → is_frozen_along types old (child_path here n) ≡ true → is_kept_back types new (child_path here n) ≡ false
  unfolding is_kept_back
  not_back here there known n along = by (is_frozen_along types new (child_path here n)) (known.others (n ∷ []))
    where
      by : (b : Bool) → cond (b && true) None (node_at new (child_path here n)) ≡ cond (is_frozen_along types old (child_path here n) && true) None (node_at old (child_path here n))
          → (is_some (node_at new (child_path here n)) && not b) ≡ false
      by true h = and_never (is_some (node_at new (child_path here n)))
      by false h = ap (λ (o : Option Node). is_some o && true) (h ∙ ap (λ b. cond (b && true) None (node_at old (child_path here n))) along)

  -- and has its frozen node
  frozen_there : (here there : Path) → IsFrozenAs types old new here there → (n : Name) → is_frozen_along types old (child_path here n) ≡ true → is_some (node_at old (child_path here n)) ≡ true → is_there new (child_path there n) ≡ true
  unfolding is_there
  frozen_there here there known n along stands = known.kept (n ∷ []) ∙ (ap (λ b. (b && true) && is_some (node_at old (child_path here n))) along ∙ stands)

  -- the same is known of a child that a version keeps
  below : (here there : Path) → IsFrozenAs types old new here there → (n : Name) → is_frozen_along types old (child_path here n) ≡ true → IsFrozenAs types old new (child_path here n) (child_path there n)
  below here there known n along = record {
    kept = λ ns. ap is_some (moved new there n ns)
        ∙ (known.kept (n ∷ ns)
        ∙ (ap (λ b. (b && is_frozen_down types old (child_path here n) ns) && is_some (node_at old (here ++ n ∷ ns))) along
        ∙ ap (λ (o : Option Node). is_frozen_down types old (child_path here n) ns && is_some o) (sym (moved old here n ns))));
    others = λ ns. by ns (is_frozen_along types new (child_path here n)) refl;
  }
    where
      gone : is_frozen_along types new (child_path here n) ≡ false → node_at new (child_path here n) ≡ None
      gone h =
          sym (ap (λ b. cond (b && true) None (node_at new (child_path here n))) h)
          ∙ (known.others (n ∷ []) ∙ ap (λ b. cond (b && true) None (node_at old (child_path here n))) along)

      by : (ns : List Name) (b : Bool) → is_frozen_along types new (child_path here n) ≡ b → left_out types new (child_path here n) ns ≡ left_out types old (child_path here n) ns
      by ns true h = sym (ahead types new here n ns h) ∙ (known.others (n ∷ ns) ∙ ahead types old here n ns along)
      by ns false h =
          let none : node_at new (child_path here n ++ ns) ≡ None = gone_below new is here n ns (gone h) in
          out_of_none types new (child_path here n) ns none
          ∙ (sym (out_of_none types new here (n ∷ ns) (sym (moved new here n ns) ∙ none)) ∙ (known.others (n ∷ ns) ∙ ahead types old here n ns along))

  -- above a node that was there its ancestor was
  was_above : (here : Path) (n : Name) (ns : List Name) → is_some (node_at old (here ++ n ∷ ns)) ≡ true → is_some (node_at old (child_path here n)) ≡ true
  was_above here n ns stands = above_there old was (child_path here n) ns (ap is_some (moved old here n ns) ∙ stands)

  -- one step down a child that a version keeps
  step : (here there : Path) → IsFrozenAs types old new here there → (n : Name) (ns : List Name) → is_frozen_along types old (child_path here n) ≡ true → is_some (node_at old (here ++ n ∷ ns)) ≡ true
      → fate_below types new here there (n ∷ ns) ≡ fate_below types new (child_path here n) (child_path there n) ns
  step here there known n ns along stands =
      sym (then types new here there n ns true (not_back here there known n along) (frozen_there here there known n along (was_above here n ns stands)))

  -- a node that the version keeps is brought to its frozen node
  pub brought_down : (here there ns : Path) → IsFrozenAs types old new here there → is_frozen_down types old here ns ≡ true → is_some (node_at old (here ++ ns)) ≡ true → fate_below types new here there ns ≡ fate.Brought
  brought_down here there [] known h stands = refl
  brought_down here there (n ∷ ns) known h stands =
      let parts : (is_frozen_along types old (child_path here n) ≡ true) × (is_frozen_down types old (child_path here n) ns ≡ true) = and_parts _ _ h in
      step here there known n ns parts.0 stands
      ∙ brought_down (child_path here n) (child_path there n) ns (below here there known n parts.0) parts.1 (ap is_some (moved old here n ns) ∙ stands)

  -- a node that the version leaves out stays
  pub stays_down : (here there ns : Path) → IsFrozenAs types old new here there → is_frozen_down types old here ns ≡ false → is_some (node_at old (here ++ ns)) ≡ true → fate_below types new here there ns ≡ fate.Stays
  unfolding is_kept_back
  stays_down here there [] known h stands = absurd (true≢false h)
  stays_down here there (n ∷ ns) known h stands =
      by (is_frozen_along types old (child_path here n)) refl
      (λ along down. stays_down (child_path here n) (child_path there n) ns (below here there known n along) down (ap is_some (moved old here n ns) ∙ stands))
    where
      by : (b : Bool) → is_frozen_along types old (child_path here n) ≡ b
          → (is_frozen_along types old (child_path here n) ≡ true → is_frozen_down types old (child_path here n) ns ≡ false → fate_below types new (child_path here n) (child_path there n) ns ≡ fate.Stays)
          → fate_below types new here there (n ∷ ns) ≡ fate.Stays
      by true along rest = step here there known n ns along stands ∙ rest along (sym (ap (λ b. b && is_frozen_down types old (child_path here n) ns) along) ∙ h)
      by false apart rest = sym (stays types new here there n ns (back (is_frozen_along types new (child_path here n)) refl))
        where
          left : left_out types new here (n ∷ []) ≡ node_at old (child_path here n)
          left = known.others (n ∷ []) ∙ ap (λ b. cond (b && true) None (node_at old (child_path here n))) apart

          back : (b : Bool) → is_frozen_along types new (child_path here n) ≡ b → is_kept_back types new (child_path here n) ≡ true
          back true e =
              absurd (false≢true (ap is_some (sym (ap (λ b. cond (b && true) None (node_at new (child_path here n))) e) ∙ left) ∙ was_above here n ns stands))
          back false e =
              ap (λ b. is_some (node_at new (child_path here n)) && not b) e
              ∙ ap (λ b. b && true) (ap is_some (sym (ap (λ b. cond (b && true) None (node_at new (child_path here n))) e) ∙ left) ∙ was_above here n ns stands)
