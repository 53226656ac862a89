-- The properties of a node that are made of themselves, by lists in which each test finds the same first definition.
use Rattle.std.proofs.Common.{◌≡◌, ◌+◌, Bool, true, false, cond, ◌||◌, Option, None, Some, List, refl, sym, ap, ◌∙◌, ◌⊎◌, inl, inr, is_some}
use Rattle.std.specs.Prelude.{Result, Ok, Err}
use Rattle.std.specs.Option.{option_and_then, option_map_or}
use Rattle.std.specs.Map.{lookup}
use Rattle.std.specs.BTreeMap.{is_at}
use Rattle.std.specs.Ordering.{eq_by_cmp, is_eq}
use Rattle.jr_path.specs.Names.{name_cmp}
use Rattle.jr_path.specs.declared.name.Name.{Name}
use Rattle.jr_path.proofs.Maps.{lookup-insert_entry}
use Rattle.std.proofs.lemmas.Bool.{true≢false}
use Rattle.std.proofs.lemmas.Cmp.{nat_list_cmp_total, tied_itself}
use Rattle.jr_value.specs.declared.value.Property.{Property}
use Rattle.jr_tree.specs.declared.shared.Refusal.{Refusal}
use Rattle.jr_tree.specs.declared.shared.Who.{Who}
use Rattle.jr_tree.specs.declared.tree.Node.{Node}
use Rattle.jr_items.specs.Items.{property_of, same_name}
use Rattle.jr_items.specs.Names.{uuid}
use Rattle.jr_types.specs.Registered.{IsAlike}
use Rattle.jr_types.specs.declared.PropDef.{PropDef}
use Rattle.jcr_ref.specs.Drawn.{too_many_ids}
use Rattle.jcr_write.specs.Places.{unless_refused, with_property}
use Rattle.jcr_fill.specs.declared.fill.Filling.{Filling}
use Rattle.jcr_fill.specs.Filled.{filled, given, identified, lacking, next_identifier, with_given, with_made, with_own_property}
use Rattle.jcr_fill.proofs.Each.{each-alike}

-- a property is made by the definition: a node lacks it, and there is something to put
abbrev pub is_made : Who → Filling → PropDef → Bool
is_made who f d = option_map_or (λ n. same_name uuid n || is_some (given who n d)) (lacking f.node d) false

-- what a step makes, by the name that the node lacks
abbrev pub by_name : Who → PropDef → Filling → Option Name → Result Filling Refusal
by_name who d f None = Ok f
by_name who d f (Some n) = with_made who d n f

-- what a step did: nothing, or it put one property by its name
pub record HasPut (d : PropDef) (f g : Filling) : Type 0 where
  pub name : Name
  pub property : Property
  pub of : d.name ≡ Some name
  pub put : g.node ≡ with_property f.node name property

pub err-ok : {A : Type 0} {r : Refusal} {a : A} → Err r ≡ Ok a → ⊥
err-ok e = cc

pub ok_same : {A : Type 0} {a b : A} → ◌≡◌ {A = Result A Refusal} (Ok a) (Ok b) → b ≡ a
ok_same {a = a} e = sym (ap (λ (r : Result _ Refusal). elim r [ Ok x ↦ x | Err r ↦ a ]) e)

-- a node that lacks the name of a definition
lacks_named : (node : Node) (d : PropDef) (n : Name) → lacking node d ≡ Some n → d.name ≡ Some n
lacks_named node d n h = by d.autocreated d.name h
  where
    one : (m : Name) (b : Bool) → cond b None (Some m) ≡ Some n → m ≡ n
    one m true e = cc
    one m false e = cc

    by : (b : Bool) (o : Option Name) → cond b (option_and_then (λ m. cond (is_some (property_of node m)) None (Some m)) o) None ≡ Some n → o ≡ Some n
    by false o e = cc
    by true None e = cc
    by true (Some m) e = ap Some (one m (is_some (property_of node m)) e)

-- what is there is there after a property is put, and that property is
still_there : (node : Node) (n : Name) (x : Property) (m : Name) → is_some (property_of node m) ≡ true → is_some (property_of (with_property node n x) m) ≡ true
still_there node n x m h = ap is_some (lookup-insert_entry name_cmp nat_list_cmp_total m n x node.props) ∙ by (eq_by_cmp name_cmp m n)
  where
    by : (b : Bool) → is_some (cond b (Some x) (lookup (is_at (name_cmp m)) node.props)) ≡ true
    by true = refl
    by false = h

now_there : (node : Node) (n : Name) (x : Property) → is_some (property_of (with_property node n x) n) ≡ true
now_there node n x = ap is_some (lookup-insert_entry name_cmp nat_list_cmp_total n n x node.props)
    ∙ ap (λ b. is_some (cond b (Some x) (lookup (is_at (name_cmp n)) node.props))) (ap is_eq (tied_itself nat_list_cmp_total n))

-- a definition whose name is there has nothing lacking
none_lacking : (node : Node) (d : PropDef) (n : Name) → d.name ≡ Some n → is_some (property_of node n) ≡ true → lacking node d ≡ None
none_lacking node d n named there = ap (λ o. cond d.autocreated (option_and_then (λ m. cond (is_some (property_of node m)) None (Some m)) o) None) named
    ∙ (ap (λ b. cond d.autocreated (cond b None (Some n)) None) there ∙ either d.autocreated)
  where
    either : (b : Bool) → ◌≡◌ {A = Option Name} (cond b None None) None
    either true = refl
    either false = refl

-- what is lacking afterwards was lacking before
lacking_before : (u v : Node) (d : PropDef) → ((m : Name) → is_some (property_of u m) ≡ true → is_some (property_of v m) ≡ true)
    → (lacking v d ≡ None) ⊎ (lacking v d ≡ lacking u d)
lacking_before u v d more = by d.autocreated d.name
  where
    within : Bool → Option Name → Node → Option Name
    within b o node = cond b (option_and_then (λ m. cond (is_some (property_of node m)) None (Some m)) o) None

    at : (m : Name) (a b : Bool) → is_some (property_of u m) ≡ a → is_some (property_of v m) ≡ b
        → (cond b None (Some m) ≡ None) ⊎ (cond b None (Some m) ≡ cond a None (Some m))
    at m a true p q = inl refl
    at m true false p q = absurd (true≢false (sym (more m p) ∙ q))
    at m false false p q = inr refl

    by : (b : Bool) (o : Option Name) → (within b o v ≡ None) ⊎ (within b o v ≡ within b o u)
    by false o = inl refl
    by true None = inl refl
    by true (Some m) = at m (is_some (property_of u m)) (is_some (property_of v m)) refl refl

-- a step does nothing, or puts one property
pub step_does : (who : Who) (d : PropDef) (f g : Filling) → with_own_property who d f ≡ Ok g → ((g ≡ f) × (is_made who f d ≡ false)) ⊎ HasPut d f g
step_does who d f g h = by (lacking f.node d) refl h
  where
    given_case : (n : Name) → lacking f.node d ≡ Some n → same_name uuid n ≡ false → (o : Option Property) → given who n d ≡ o
        → ◌≡◌ {A = Result Filling Refusal} (Ok (with_given n o f)) (Ok g) → ((g ≡ f) × (is_made who f d ≡ false)) ⊎ HasPut d f g
    given_case n l u None e k = inl (
      ok_same k,
      ap (λ o. option_map_or (λ m. same_name uuid m || is_some (given who m d)) o false) l
          ∙ (ap (λ b. b || is_some (given who n d)) u ∙ ap is_some e),
    )
    given_case n l u (Some x) e k = inr (record {
      name = n;
      property = x;
      of = lacks_named f.node d n l;
      put = ap (λ (m : Filling). m.node) (ok_same k);
    })

    drawn : (n : Name) → lacking f.node d ≡ Some n → (o : Option Refusal)
        → unless_refused o (Ok (record { node = with_property f.node n (next_identifier who f.ids); ids = f.ids + 1 })) ≡ Ok g
        → ((g ≡ f) × (is_made who f d ≡ false)) ⊎ HasPut d f g
    drawn n l None k = inr (record {
      name = n;
      property = next_identifier who f.ids;
      of = lacks_named f.node d n l;
      put = ap (λ (m : Filling). m.node) (ok_same k);
    })
    drawn n l (Some r) k = absurd (err-ok k)

    named : (n : Name) → lacking f.node d ≡ Some n → (b : Bool) → same_name uuid n ≡ b
        → ◌≡◌ {A = Result Filling Refusal} (cond b (identified who n f) (Ok (with_given n (given who n d) f))) (Ok g) → ((g ≡ f) × (is_made who f d ≡ false)) ⊎ HasPut d f g
    named n l true u k = drawn n l (too_many_ids (f.ids + 1)) k
    named n l false u k = given_case n l u (given who n d) refl k

    by : (o : Option Name) → lacking f.node d ≡ o → by_name who d f o ≡ Ok g
        → ((g ≡ f) × (is_made who f d ≡ false)) ⊎ HasPut d f g
    by None l k = inl (ok_same k, ap (λ o. option_map_or (λ m. same_name uuid m || is_some (given who m d)) o false) l)
    by (Some n) l k = named n l (same_name uuid n) refl k

-- where nothing is made by a definition its step does nothing
idle_step : (who : Who) (f : Filling) (d : PropDef) → is_made who f d ≡ false → with_own_property who d f ≡ Ok f
idle_step who f d h = by (lacking f.node d) h
  where
    at : (n : Name) (b : Bool) (o : Option Property) → (b || is_some o) ≡ false → ◌≡◌ {A = Result Filling Refusal} (cond b (identified who n f) (Ok (with_given n o f))) (Ok f)
    at n true o e = absurd (true≢false e)
    at n false None e = refl
    at n false (Some x) e = absurd (true≢false e)

    by : (o : Option Name) → option_map_or (λ m. same_name uuid m || is_some (given who m d)) o false ≡ false
        → by_name who d f o ≡ Ok f
    by None e = refl
    by (Some n) e = at n (same_name uuid n) (given who n d) e

done_step : (who : Who) (f g : Filling) (d : PropDef) → with_own_property who d f ≡ Ok g → is_made who g d ≡ false
done_step who f g d h = elim (step_does who d f g h) [
  | inl same ↦ ap (λ (k : Filling). is_made who k d) same.0 ∙ same.1
  | inr put ↦ ap (λ o. option_map_or (λ m. same_name uuid m || is_some (given who m d)) o false)
      (none_lacking g.node d put.name put.of (ap (λ node. is_some (property_of node put.name)) put.put ∙ now_there f.node put.name put.property))
]

kept_step : (who : Who) (f g : Filling) (d e : PropDef) → with_own_property who d f ≡ Ok g → is_made who f e ≡ false → is_made who g e ≡ false
kept_step who f g d e h before = elim (step_does who d f g h) [
  | inl same ↦ ap (λ (k : Filling). is_made who k e) same.0 ∙ before
  | inr put ↦ elim (lacking_before f.node g.node e (λ m there. ap (λ node. is_some (property_of node m)) put.put ∙ still_there f.node put.name put.property m there)) [
    | inl none ↦ ap (λ o. option_map_or (λ m. same_name uuid m || is_some (given who m e)) o false) none
    | inr alike ↦ ap (λ o. option_map_or (λ m. same_name uuid m || is_some (given who m e)) o false) alike ∙ before
  ]
]

pub filled-alike : (who : Who) (ds es : List PropDef) (f : Filling) → IsAlike ds es → filled who ds f ≡ filled who es f
filled-alike who ds es f h = each-alike (is_made who) (λ d g. with_own_property who d g)
    (record { idle = idle_step who; done = done_step who; kept = kept_step who }) ds es f h

-- a property that a node lacks is made by its name
pub made_by : (who : Who) (d : PropDef) (n : Name) (f : Filling) → Some n ≡ lacking f.node d → with_own_property who d f ≡ with_made who d n f
made_by who d n f h = ap (by_name who d f) (sym h)
