-- What making a node whole touches, and the identifier that it leaves the node.
use Rattle.std.proofs.Common.{◌≡◌, ◌⊎◌, inl, inr, ℕ, zero, suc, ◌+◌, Bool, true, false, cond, ◌&&◌, Option, None, Some, List, [], ◌∷◌, ◌++◌, refl, sym, ap, ◌∙◌, append_assoc, is_some}
use Rattle.std.specs.Prelude.{IfOk, Result, Ok, Err}
use Rattle.std.specs.List.{AllByRecursion, flat_map}
use Rattle.std.specs.Option.{option_and_then, unwrap_or}
use Rattle.std.specs.Ordering.{eq_by_cmp, is_eq}
use Rattle.std.proofs.lemmas.Bool.{true≢false}
use Rattle.std.proofs.lemmas.Cmp.{nat_list_cmp_total, tied_itself}
use Rattle.std.proofs.lemmas.List.{append-nil}
use Rattle.std.proofs.lemmas.Option.{none-some}
use Rattle.std.proofs.lemmas.Result.{IfOk-at_ok, IfOk-weaker}
use Rattle.jr_path.specs.Names.{is_under, name_cmp, path_cmp}
use Rattle.jr_path.specs.declared.name.Name.{Name}
use Rattle.jr_path.specs.declared.path.Path.{Path}
use Rattle.jr_path.proofs.Maps.{lookup-insert_entry, path_total}
use Rattle.jr_path.proofs.Parts.{below_is_prefix}
use Rattle.jr_value.specs.declared.value.Property.{Property}
use Rattle.jr_tree.specs.declared.shared.Refusal.{Refusal}
use Rattle.jr_tree.specs.declared.shared.Who.{Who}
use Rattle.jr_tree.specs.declared.tree.Node.{Node}
use Rattle.jr_tree.specs.Trees.{node_of_type}
use Rattle.jr_tree.proofs.Pointwise.{same_path}
use Rattle.jr_tree.proofs.Proper.{same_name as equal_name}
use Rattle.jr_items.specs.Items.{child_path, property_of, same_name}
use Rattle.jr_items.specs.Names.{uuid}
use Rattle.jr_types.specs.declared.ChildDef.{ChildDef}
use Rattle.jr_types.specs.declared.PropDef.{PropDef}
use Rattle.jr_types.specs.declared.TypeDef.{TypeDef}
use Rattle.jr_types.specs.Types.{props_of}
use Rattle.jr_overlay.specs.Drafts.{Steps, drafted, with_step}
use Rattle.jr_overlay.specs.Overlays.{View}
use Rattle.jr_overlay.specs.Views.{step_at}
use Rattle.jr_overlay.proofs.KeepingSteps.{at_step}
use Rattle.jcr_ref.specs.Drawn.{too_many_ids}
use Rattle.jcr_write.specs.Places.{types_of_node, unless_refused, with_property}
use Rattle.jcr_fill.specs.declared.completing.MissingChild.{MissingChild}
use Rattle.jcr_fill.specs.declared.fill.Filling.{Filling}
use Rattle.jcr_fill.specs.Filled.{filled, given, identified, lacking, next_identifier, with_given, with_own_property}
use Rattle.jcr_fill.specs.Kept.{IsAsBefore, IsOwnOrNext, IsPutWith}
use Rattle.jcr_fill.specs.Makings.{Making, absent_child, child_refusal, completed, missing_child, put_filled, with_made_children, with_filled, with_own_child}
use Rattle.jcr_fill.specs.Steps.{and_then, each}
use Rattle.jcr_fill.proofs.Children.{by_missing}
use Rattle.jcr_fill.proofs.Fills.{by_name}

-- ---- what holds after steps

-- what follows holds of what it is made of
pub then_holds : {A B : Type 0} (J : B → Type 0) (r : Result A Refusal) (next : A → Result B Refusal) → ((a : A) → r ≡ Ok a → IfOk (next a) J) → IfOk (and_then r next) J
then_holds J (Ok a) next h = h a refl
then_holds J (Err e) next h = tt

pub unless_holds : {A : Type 0} (J : A → Type 0) (o : Option Refusal) (r : Result A Refusal) → IfOk r J → IfOk (unless_refused o r) J
unless_holds J None r h = h
unless_holds J (Some e) r h = tt

-- each element has what all things have
pub all_have : {X : Type 0} (P : X → Type 0) → ((x : X) → P x) → (xs : List X) → AllByRecursion P xs
all_have P h [] = tt
all_have P h (x ∷ xs) = (h x, all_have P h xs)

-- where each step keeps what holds, all of them do
pub each_holds : {X S : Type 0} (I : S → Type 0) (step : X → S → Result S Refusal) (xs : List X)
    → AllByRecursion (λ x. (s : S) → I s → IfOk (step x s) I) xs → (s : S) → I s → IfOk (each step xs s) I
each_holds I step [] keep s i = i
each_holds I step (x ∷ xs) keep s i = then_holds I (step x s) (each step xs) (λ t e. each_holds I step xs keep.1 t (IfOk-at_ok I e (keep.0 s i)))

-- ---- steps at other places

-- a path is at or below itself, and not below what stands below it
under_itself : (p q : Path) → q ≡ p → is_under q p ≡ true
under_itself p q e = (below_is_prefix q p).1 ([], e ∙ sym (append-nil p))

child_apart : (p : Path) (n : Name) → is_under p (child_path p n) ≡ false
child_apart [] n = refl
child_apart (m ∷ p) n = by (eq_by_cmp name_cmp m m) (is_under p (child_path p n)) (child_apart p n)
  where
    by : (a b : Bool) → b ≡ false → (a && b) ≡ false
    by true b h = h
    by false b h = refl

-- what isn't at or below a path isn't at or below one that is below it
pub below_apart : (r p more : Path) → is_under r p ≡ false → is_under r (p ++ more) ≡ false
below_apart r p more apart = by (is_under r (p ++ more)) refl
  where
    by : (b : Bool) → is_under r (p ++ more) ≡ b → b ≡ false
    by true under =
        let b = (below_is_prefix r (p ++ more)).0 under in
        absurd (true≢false (sym ((below_is_prefix r p).1 (more ++ b.0, b.1 ∙ append_assoc p more b.0)) ∙ apart))
    by false under = refl

-- a step at p leaves what isn't at or below p, and shows at p
pub put_apart : (steps : Steps) (p r : Path) (o : Option Node) → is_under r p ≡ false → step_at (with_step steps p o) r ≡ step_at steps r
put_apart steps p r o apart = at_step steps p o r ∙ by (eq_by_cmp path_cmp r p) refl
  where
    by : (b : Bool) → eq_by_cmp path_cmp r p ≡ b → cond b (Some o) (step_at steps r) ≡ step_at steps r
    by true same = absurd (true≢false (sym (under_itself p r (same_path r p same)) ∙ apart))
    by false same = refl

put_here : (steps : Steps) (p : Path) (o : Option Node) → step_at (with_step steps p o) p ≡ Some o
put_here steps p o = at_step steps p o p ∙ ap (λ b. cond b (Some o) (step_at steps p)) (ap is_eq (tied_itself path_total p))

-- a child that is missing stands below
pub missing_path : (view : View) (steps : Steps) (p : Path) (d : ChildDef) (c : MissingChild) → missing_child view steps p d ≡ Some c → (n : Name) × (c.path ≡ child_path p n)
missing_path view steps p d c h = by d.autocreated d.name d.default_type h
  where
    at : (n t : Name) (b : Bool) → cond b None (Some (record { path = child_path p n; node_type = t })) ≡ Some c → (m : Name) × (c.path ≡ child_path p m)
    at n t true e = absurd (none-some c e)
    at n t false e = (n, sym (ap (λ (o : Option MissingChild). elim o [ Some x ↦ x.path | None ↦ c.path ]) e))

    by : (b : Bool) (o t : Option Name) → cond b (option_and_then (λ n. option_and_then (absent_child view steps p n) t) o) None ≡ Some c → (m : Name) × (c.path ≡ child_path p m)
    by false o t e = absurd (none-some c e)
    by true None t e = absurd (none-some c e)
    by true (Some n) None e = absurd (none-some c e)
    by true (Some n) (Some t) e = at n t (is_some (drafted view steps (child_path p n))) e

module _ (types : List TypeDef) (who : Who) (view : View) (r : Path) (start : Option (Option Node)) where
  -- the step at r is the one that it was
  abbrev Stays : Making → Type 0
  Stays m = step_at m.steps r ≡ start

  filled_stays : (steps : Steps) (p : Path) → is_under r p ≡ false → step_at steps r ≡ start → (f : Result Filling Refusal) → IfOk (and_then f (λ g. Ok (with_filled steps p g))) Stays
  filled_stays steps p apart stays (Ok g) = put_apart steps p r (Some g.node) apart ∙ stays
  filled_stays steps p apart stays (Err e) = tt

  children_stay : (complete : Path → Node → Making → Result Making Refusal)
      → ((q : Path) (node : Node) (m : Making) → is_under r q ≡ false → Stays m → IfOk (complete q node m) Stays)
      → (p : Path) → ((n : Name) → is_under r (child_path p n) ≡ false) → (of : List TypeDef) (m : Making) → Stays m
      → IfOk (with_made_children complete types view p of m) Stays
  children_stay complete rest p apart of m stays = each_holds Stays (with_own_child complete types view p) (flat_map (λ d. d.children) of)
      (all_have (λ d. (l : Making) → Stays l → IfOk (with_own_child complete types view p d l) Stays) child (flat_map (λ d. d.children) of)) m stays
    where
      made : (d : ChildDef) (l : Making) → Stays l → (o : Option MissingChild) → missing_child view l.steps p d ≡ o → IfOk (by_missing complete types l o) Stays
      made d l s None e = s
      made d l s (Some c) e =
          let at = missing_path view l.steps p d c e in
          unless_holds Stays (child_refusal types c.path c.node_type) (complete c.path (node_of_type c.node_type) l)
          (rest c.path (node_of_type c.node_type) l (ap (λ q. is_under r q) at.1 ∙ apart at.0) s)

      child : (d : ChildDef) (l : Making) → Stays l → IfOk (with_own_child complete types view p d l) Stays
      child d l s = made d l s (missing_child view l.steps p d) refl

  -- what makes a node whole leaves what isn't at or below it
  pub completed_apart : (levels : ℕ) (p : Path) (node : Node) (m : Making) → is_under r p ≡ false → Stays m → IfOk (completed levels types who view p node m) Stays
  unfolding completed
  completed_apart zero p node m apart stays = put_apart m.steps p r (Some node) apart ∙ stays
  completed_apart (suc k) p node m apart stays =
      then_holds Stays (put_filled types who p node m) (with_made_children (completed k types who view) types view p (types_of_node types node))
      (λ l e. children_stay (completed k types who view) (λ q n j. completed_apart k q n j) p (λ n. below_apart r p (n ∷ []) apart) (types_of_node types node) l
      (IfOk-at_ok Stays e (filled_stays m.steps p apart stays (filled who (flat_map props_of (types_of_node types node)) (record { node = node; ids = m.ids })))))

-- so what was made at other places is as it was
pub completed_elsewhere : (levels : ℕ) (types : List TypeDef) (who : Who) (view : View) (p : Path) (node : Node) (m : Making) (r : Path)
    → is_under r p ≡ false → IfOk (completed levels types who view p node m) (IsAsBefore r m)
completed_elsewhere levels types who view p node m r apart = completed_apart types who view r (step_at m.steps r) levels p node m apart refl

-- ---- the identifier of the node

-- a node that lacks a definition's property has none of that name
lacks_property : (node : Node) (d : PropDef) (n : Name) → lacking node d ≡ Some n → is_some (property_of node n) ≡ false
lacks_property node d n h = by d.autocreated d.name h
  where
    at : (m : Name) (b : Bool) → is_some (property_of node m) ≡ b → cond b None (Some m) ≡ Some n → is_some (property_of node n) ≡ false
    at m true e k = absurd (none-some n k)
    at m false e k = ap (λ x. is_some (property_of node x)) (sym (ap (λ (o : Option Name). unwrap_or o m) k)) ∙ e

    by : (b : Bool) (o : Option Name) → cond b (option_and_then (λ m. cond (is_some (property_of node m)) None (Some m)) o) None ≡ Some n → is_some (property_of node n) ≡ false
    by false o k = absurd (none-some n k)
    by true None k = absurd (none-some n k)
    by true (Some m) k = at m (is_some (property_of node m)) refl k

-- the identifier once a property is put
uuid_put : (node : Node) (n : Name) (x : Property) (b : Bool) → same_name uuid n ≡ b → property_of (with_property node n x) uuid ≡ cond b (Some x) (property_of node uuid)
uuid_put node n x b h = lookup-insert_entry name_cmp nat_list_cmp_total uuid n x node.props ∙ ap (λ c. cond c (Some x) (property_of node uuid)) h

module _ (who : Who) (ids : ℕ) where
  -- the identifier is the one that the node had, or else none is drawn yet or the next one is
  abbrev IsFilledFrom : Option Property → Filling → Type 0
  IsFilledFrom (Some x) f = property_of f.node uuid ≡ Some x
  IsFilledFrom None f = ((property_of f.node uuid ≡ None) × (f.ids ≡ ids)) ⊎ (property_of f.node uuid ≡ Some (next_identifier who ids))

  begins_filled : (node : Node) (o : Option Property) → property_of node uuid ≡ o → IsFilledFrom o (record { node = node; ids = ids })
  begins_filled node (Some x) e = e
  begins_filled node None e = inl (e, refl)

  own_or_next : (o : Option Property) (f : Filling) → IsFilledFrom o f → IsOwnOrNext who ids o (property_of f.node uuid)
  own_or_next (Some x) f h = h
  own_or_next None f (inl h) = inl h.0
  own_or_next None f (inr h) = inr h

  still_own : (o : Option Property) → IsOwnOrNext who ids o o
  still_own (Some x) = refl
  still_own None = inl refl

  -- another property leaves the identifier
  other_put : (old : Option Property) (f g : Filling) → property_of g.node uuid ≡ property_of f.node uuid → g.ids ≡ f.ids → IsFilledFrom old f → IsFilledFrom old g
  other_put (Some x) f g same count h = same ∙ h
  other_put None f g same count (inl h) = inl (same ∙ h.0, count ∙ h.1)
  other_put None f g same count (inr h) = inr (same ∙ h)

  -- an identifier is drawn where the node has none
  drawn_put : (old : Option Property) (f g : Filling) → is_some (property_of f.node uuid) ≡ false → property_of g.node uuid ≡ Some (next_identifier who f.ids) → IsFilledFrom old f → IsFilledFrom old g
  drawn_put (Some x) f g none put h = absurd (true≢false (sym (ap is_some h) ∙ none))
  drawn_put None f g none put (inl h) = inr (put ∙ ap (λ k. Some (next_identifier who k)) h.1)
  drawn_put None f g none put (inr h) = absurd (true≢false (sym (ap is_some h) ∙ none))

  filled_step : (old : Option Property) (d : PropDef) (f : Filling) → IsFilledFrom old f → IfOk (with_own_property who d f) (IsFilledFrom old)
  filled_step old d f h = by (lacking f.node d) refl
    where
      given_by : (n : Name) (o : Option Property) → same_name uuid n ≡ false → IsFilledFrom old (with_given n o f)
      given_by n None other = h
      given_by n (Some x) other = other_put old f (record f { node = with_property f.node n x }) (uuid_put f.node n x false other) refl h

      named : (n : Name) → is_some (property_of f.node n) ≡ false → (b : Bool) → same_name uuid n ≡ b → IfOk (cond b (identified who n f) (Ok (with_given n (given who n d) f))) (IsFilledFrom old)
      named n none true same =
          unless_holds (IsFilledFrom old) (too_many_ids (f.ids + 1)) (Ok (record { node = with_property f.node n (next_identifier who f.ids); ids = f.ids + 1 }))
          (drawn_put old f (record { node = with_property f.node n (next_identifier who f.ids); ids = f.ids + 1 })
          (ap (λ x. is_some (property_of f.node x)) (equal_name uuid n same) ∙ none)
          (uuid_put f.node n (next_identifier who f.ids) true same) h)
      named n none false same = given_by n (given who n d) same

      by : (o : Option Name) → lacking f.node d ≡ o → IfOk (by_name who d f o) (IsFilledFrom old)
      by None l = h
      by (Some n) l = named n (lacks_property f.node d n l) (same_name uuid n) refl

-- the node that was made whole stands at p
pub completed_here : (levels : ℕ) (types : List TypeDef) (who : Who) (view : View) (p : Path) (node : Node) (m : Making) → IfOk (completed levels types who view p node m) (IsPutWith who m.ids (property_of node uuid) p)
unfolding completed
completed_here zero types who view p node m = (node, put_here m.steps p (Some node), still_own who m.ids (property_of node uuid))
completed_here (suc k) types who view p node m =
    then_holds (IsPutWith who m.ids (property_of node uuid) p) (put_filled types who p node m) (with_made_children (completed k types who view) types view p (types_of_node types node))
    (λ l e. children l (IfOk-at_ok (IsPutWith who m.ids (property_of node uuid) p) e properties))
  where
    defs : List PropDef
    defs = flat_map props_of (types_of_node types node)

    begun : Filling
    begun = record { node = node; ids = m.ids }

    properties : IfOk (put_filled types who p node m) (IsPutWith who m.ids (property_of node uuid) p)
    properties = then_holds (IsPutWith who m.ids (property_of node uuid) p) (filled who defs begun) (λ f. Ok (with_filled m.steps p f))
        (λ f e. (
          f.node,
          put_here m.steps p (Some f.node),
          own_or_next who m.ids (property_of node uuid) f
              (IfOk-at_ok (IsFilledFrom who m.ids (property_of node uuid)) e
              (each_holds (IsFilledFrom who m.ids (property_of node uuid)) (with_own_property who) defs
              (all_have (λ d. (f : Filling) → IsFilledFrom who m.ids (property_of node uuid) f → IfOk (with_own_property who d f) (IsFilledFrom who m.ids (property_of node uuid))) (filled_step who m.ids (property_of node uuid)) defs)
              begun (begins_filled who m.ids node (property_of node uuid) refl))),
        ))

    children : (l : Making) → IsPutWith who m.ids (property_of node uuid) p l → IfOk (with_made_children (completed k types who view) types view p (types_of_node types node) l) (IsPutWith who m.ids (property_of node uuid) p)
    children l h = IfOk-weaker (with_made_children (completed k types who view) types view p (types_of_node types node) l) (λ j. step_at j.steps p ≡ Some (Some h.0)) (IsPutWith who m.ids (property_of node uuid) p)
        (λ j at. (h.0, at, h.2))
        (children_stay types who view p (Some (Some h.0)) (completed k types who view) (λ q n j. completed_apart types who view p (Some (Some h.0)) k q n j) p (λ n. child_apart p n) (types_of_node types node) l h.1)
