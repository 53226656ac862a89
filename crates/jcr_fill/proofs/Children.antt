-- The children that are made of themselves, by lists in which each test finds the same first definition.
use Rattle.std.proofs.Common.{◌≡◌, ℕ, zero, suc, Bool, true, false, cond, Option, None, Some, List, [], ◌∷◌, refl, sym, ap, ◌∙◌, is_some}
use Rattle.std.specs.Prelude.{Result, Ok, Err}
use Rattle.std.specs.List.{flat_map}
use Rattle.std.specs.Option.{option_and_then, unwrap_or}
use Rattle.std.specs.Map.{lookup}
use Rattle.std.specs.BTreeMap.{is_at}
use Rattle.std.specs.Ordering.{eq_by_cmp, is_eq}
use Rattle.std.proofs.lemmas.Bool.{true≢false}
use Rattle.std.proofs.lemmas.Cmp.{tied_itself}
use Rattle.std.proofs.lemmas.Option.{none-some}
use Rattle.jr_path.specs.Names.{path_cmp}
use Rattle.jr_path.specs.declared.name.Name.{Name}
use Rattle.jr_path.specs.declared.path.Path.{Path}
use Rattle.jr_path.proofs.Maps.{lookup-insert_entry, path_total}
use Rattle.jr_tree.specs.declared.shared.Refusal.{Refusal}
use Rattle.jr_tree.specs.declared.shared.Who.{Who}
use Rattle.jr_tree.specs.declared.tree.Node.{Node}
use Rattle.jr_tree.specs.Trees.{node_of_type}
use Rattle.jr_items.specs.Items.{child_path}
use Rattle.jr_types.specs.Registered.{IsAlike}
use Rattle.jr_types.specs.Types.{props_of}
use Rattle.jr_types.specs.declared.ChildDef.{ChildDef}
use Rattle.jr_types.specs.declared.TypeDef.{TypeDef}
use Rattle.jr_types.proofs.Alike.{flat-alike}
use Rattle.jr_overlay.specs.Drafts.{Steps, drafted, with_step}
use Rattle.jr_overlay.specs.Overlays.{View}
use Rattle.jcr_write.specs.Places.{types_of_node, unless_refused}
use Rattle.jcr_fill.specs.declared.completing.MissingChild.{MissingChild}
use Rattle.jcr_fill.specs.declared.fill.Filling.{Filling}
use Rattle.jcr_fill.specs.Filled.{filled}
use Rattle.jcr_fill.specs.Makings.{Making, absent_child, child_refusal, completed, missing_child, with_made_child, with_made_children, with_filled, with_own_child}
use Rattle.jcr_fill.specs.Steps.{and_then, each}
use Rattle.jcr_fill.proofs.Each.{each-alike}
use Rattle.jcr_fill.proofs.Fills.{err-ok, ok_same}

-- what makes a node whole puts it, and keeps the others
pub record IsCompleting (view : View) (complete : Path → Node → Making → Result Making Refusal) : Type 0 where
  pub keeps : (p : Path) (node : Node) (m n : Making) → complete p node m ≡ Ok n → (q : Path) → is_some (drafted view m.steps q) ≡ true → is_some (drafted view n.steps q) ≡ true
  pub there : (p : Path) (node : Node) (m n : Making) → complete p node m ≡ Ok n → is_some (drafted view n.steps p) ≡ true

drafted_put : (view : View) (steps : Steps) (p q : Path) (node : Node)
    → drafted view (with_step steps p (Some node)) q ≡ unwrap_or (cond (eq_by_cmp path_cmp q p) (Some (Some node)) (lookup (is_at (path_cmp q)) steps)) (view.node q)
drafted_put view steps p q node = ap (λ o. unwrap_or o (view.node q)) (lookup-insert_entry path_cmp path_total q p (Some node) steps)

pub kept_by_put : (view : View) (steps : Steps) (p : Path) (node : Node) (q : Path) → is_some (drafted view steps q) ≡ true → is_some (drafted view (with_step steps p (Some node)) q) ≡ true
kept_by_put view steps p node q h = ap is_some (drafted_put view steps p q node) ∙ by (eq_by_cmp path_cmp q p)
  where
    by : (b : Bool) → is_some (unwrap_or (cond b (Some (Some node)) (lookup (is_at (path_cmp q)) steps)) (view.node q)) ≡ true
    by true = refl
    by false = h

pub now_put : (view : View) (steps : Steps) (p : Path) (node : Node) → drafted view (with_step steps p (Some node)) p ≡ Some node
now_put view steps p node = drafted_put view steps p p node
    ∙ ap (λ b. unwrap_or (cond b (Some (Some node)) (lookup (is_at (path_cmp p)) steps)) (view.node p)) (ap is_eq (tied_itself path_total p))

-- what a step makes, by the child that is missing
abbrev pub by_missing : (Path → Node → Making → Result Making Refusal) → List TypeDef → Making → Option MissingChild → Result Making Refusal
by_missing complete types m None = Ok m
by_missing complete types m (Some c) = with_made_child complete types c.path c.node_type m

-- a child, unless it is there
abbrev unless_there : Path → (name type : Name) → Bool → Option MissingChild
unless_there p name type there = cond there None (Some (record { path = child_path p name; node_type = type }))

module _ (types : List TypeDef) (view : View) (p : Path) (complete : Path → Node → Making → Result Making Refusal) (whole : IsCompleting view complete) where
  -- a child that is to be made
  abbrev is_missing : Making → ChildDef → Bool
  is_missing m d = is_some (missing_child view m.steps p d)

  made_child : (path : Path) (type : Name) (m n : Making) (o : Option Refusal) → unless_refused o (complete path (node_of_type type) m) ≡ Ok n → complete path (node_of_type type) m ≡ Ok n
  made_child path type m n None h = h
  made_child path type m n (Some r) h = absurd (err-ok h)

  keeps_step : (d : ChildDef) (m n : Making) → with_own_child complete types view p d m ≡ Ok n → (q : Path) → is_some (drafted view m.steps q) ≡ true → is_some (drafted view n.steps q) ≡ true
  keeps_step d m n h q there = by (missing_child view m.steps p d) h
    where
      by : (o : Option MissingChild) → by_missing complete types m o ≡ Ok n → is_some (drafted view n.steps q) ≡ true
      by None e = ap (λ (k : Making). is_some (drafted view k.steps q)) (ok_same e) ∙ there
      by (Some c) e = whole.keeps c.path (node_of_type c.node_type) m n (made_child c.path c.node_type m n (child_refusal types c.path c.node_type) e) q there

  keeps_each : (ds : List ChildDef) (m n : Making) → each (with_own_child complete types view p) ds m ≡ Ok n → (q : Path) → is_some (drafted view m.steps q) ≡ true → is_some (drafted view n.steps q) ≡ true
  keeps_each [] m n h q there = ap (λ (k : Making). is_some (drafted view k.steps q)) (ok_same h) ∙ there
  keeps_each (d ∷ ds) m n h q there = by (λ k. keeps_each ds k n) (with_own_child complete types view p d m) refl h
    where
      by : ((k : Making) → each (with_own_child complete types view p) ds k ≡ Ok n → (r : Path) → is_some (drafted view k.steps r) ≡ true → is_some (drafted view n.steps r) ≡ true)
          → (r : Result Making Refusal) → with_own_child complete types view p d m ≡ r → and_then r (each (with_own_child complete types view p) ds) ≡ Ok n → is_some (drafted view n.steps q) ≡ true
      by rest (Ok k) e f = rest k f q (keeps_step d m k e q there)
      by rest (Err r) e f = absurd (err-ok f)

  idle_child : (m : Making) (d : ChildDef) → is_missing m d ≡ false → with_own_child complete types view p d m ≡ Ok m
  idle_child m d h = by (missing_child view m.steps p d) h
    where
      by : (o : Option MissingChild) → is_some o ≡ false → by_missing complete types m o ≡ Ok m
      by None e = refl
      by (Some c) e = absurd (true≢false e)

  -- once the child is there none is missing
  found : (steps : Steps) (n : Making) (d : ChildDef) (c : MissingChild) → missing_child view steps p d ≡ Some c → is_some (drafted view n.steps c.path) ≡ true → missing_child view n.steps p d ≡ None
  found steps n d c h there = by d.autocreated d.name d.default_type h
    where
      at : (name type : Name) (b : Bool) → unless_there p name type b ≡ Some c → absent_child view n.steps p name type ≡ None
      at name type true e = absurd (none-some c e)
      at name type false e = ap (λ b. unless_there p name type b)
          (ap (λ (o : Option MissingChild). is_some (drafted view n.steps (elim o [ Some x ↦ x.path | None ↦ c.path ]))) e ∙ there)

      by : (b : Bool) (o t : Option Name) → cond b (option_and_then (λ name. option_and_then (absent_child view steps p name) t) o) None ≡ Some c
          → cond b (option_and_then (λ name. option_and_then (absent_child view n.steps p name) t) o) None ≡ None
      by false o t e = refl
      by true None t e = refl
      by true (Some name) None e = refl
      by true (Some name) (Some type) e = at name type (is_some (drafted view steps (child_path p name))) e

  done_child : (m n : Making) (d : ChildDef) → with_own_child complete types view p d m ≡ Ok n → is_missing n d ≡ false
  done_child m n d h = by (missing_child view m.steps p d) refl h
    where
      by : (o : Option MissingChild) → missing_child view m.steps p d ≡ o → by_missing complete types m o ≡ Ok n → is_missing n d ≡ false
      by None l e = ap (λ (k : Making). is_missing k d) (ok_same e) ∙ ap is_some l
      by (Some c) l e = ap is_some (found m.steps n d c l
          (whole.there c.path (node_of_type c.node_type) m n (made_child c.path c.node_type m n (child_refusal types c.path c.node_type) e)))

  kept_child : (m n : Making) (d e : ChildDef) → with_own_child complete types view p d m ≡ Ok n → is_missing m e ≡ false → is_missing n e ≡ false
  kept_child m n d e h before = by e.autocreated e.name e.default_type before
    where
      at : (name type : Name) (b c : Bool) → is_some (drafted view m.steps (child_path p name)) ≡ b → is_some (drafted view n.steps (child_path p name)) ≡ c
          → is_some (unless_there p name type b) ≡ false → is_some (unless_there p name type c) ≡ false
      at name type true true f g k = refl
      at name type true false f g k = absurd (true≢false (sym (keeps_step d m n h (child_path p name) f) ∙ g))
      at name type false c f g k = absurd (true≢false k)

      by : (b : Bool) (o t : Option Name) → is_some (cond b (option_and_then (λ name. option_and_then (absent_child view m.steps p name) t) o) None) ≡ false
          → is_some (cond b (option_and_then (λ name. option_and_then (absent_child view n.steps p name) t) o) None) ≡ false
      by false o t k = refl
      by true None t k = refl
      by true (Some name) None k = refl
      by true (Some name) (Some type) k = at name type (is_some (drafted view m.steps (child_path p name))) (is_some (drafted view n.steps (child_path p name))) refl refl k

  children_same : (ds es : List ChildDef) (m : Making) → IsAlike ds es → each (with_own_child complete types view p) ds m ≡ each (with_own_child complete types view p) es m
  children_same ds es m h = each-alike is_missing (λ d k. with_own_child complete types view p d k)
      (record { idle = idle_child; done = done_child; kept = kept_child }) ds es m h

-- what makes nodes whole, so many levels down, puts them and keeps the others
pub whole_at : (levels : ℕ) (types : List TypeDef) (who : Who) (view : View) → IsCompleting view (completed levels types who view)
unfolding completed
whole_at zero types who view = record {
  keeps = λ p node m n h q there. ap (λ (k : Making). is_some (drafted view k.steps q)) (ok_same h) ∙ kept_by_put view m.steps p node q there;
  there = λ p node m n h. ap (λ (k : Making). is_some (drafted view k.steps p)) (ok_same h) ∙ ap is_some (now_put view m.steps p node);
}
whole_at (suc levels) types who view = by (whole_at levels types who view)
  where
    by : IsCompleting view (completed levels types who view) → IsCompleting view (completed (suc levels) types who view)
    by whole = record {
      keeps = λ p node m n h q there. filled_first p node m n h q (λ f. kept_by_put view m.steps p f.node q there);
      there = λ p node m n h. filled_first p node m n h p (λ f. ap is_some (now_put view m.steps p f.node));
    }
      where
        filled_first : (p : Path) (node : Node) (m n : Making) → completed (suc levels) types who view p node m ≡ Ok n → (q : Path)
            → ((f : Filling) → is_some (drafted view (with_step m.steps p (Some f.node)) q) ≡ true) → is_some (drafted view n.steps q) ≡ true
        filled_first p node m n h q put = at (filled who (flat_map props_of (types_of_node types node)) (record { node = node; ids = m.ids })) h
          where
            at : (r : Result Filling Refusal)
                → and_then (and_then r (λ f. Ok (with_filled m.steps p f))) (with_made_children (completed levels types who view) types view p (types_of_node types node)) ≡ Ok n
                → is_some (drafted view n.steps q) ≡ true
            at (Ok f) e = keeps_each types view p (completed levels types who view) whole (flat_map (λ d. d.children) (types_of_node types node)) (with_filled m.steps p f) n e q (put f)
            at (Err r) e = absurd (err-ok e)

-- lists of types in which each test finds the same make the same children
pub children_alike : (levels : ℕ) (types : List TypeDef) (who : Who) (view : View) (p : Path) (ds es : List TypeDef) (m : Making) → IsAlike ds es
    → with_made_children (completed levels types who view) types view p ds m ≡ with_made_children (completed levels types who view) types view p es m
children_alike levels types who view p ds es m h = children_same types view p (completed levels types who view) (whole_at levels types who view)
    (flat_map (λ d. d.children) ds) (flat_map (λ d. d.children) es) m (flat-alike (λ d. d.children) ds es h)
