-- A command for which there is nothing to write leaves the lock tokens and the cursor: a lock always writes its owner.
use Rattle.std.proofs.Common.{◌≡◌, ◌∙◌, ℕ, ◌+◌, Bool, true, false, cond, not, ◌&&◌, ◌||◌, List, [], ◌∷◌, ◌++◌, map, Option, None, Some, is_some, is_none, Ok, Err, refl, sym, ap}
use Rattle.std.specs.Prelude.{Result, option_map}
use Rattle.std.specs.declared.alloc.Global.{Global}
use Rattle.std.specs.declared.string.String.{String}
use Rattle.std.specs.String.{string_bytes}
use Rattle.std.specs.Cmp.{eq_by_cmp_equiv}
use Rattle.std.specs.List.{filter, find}
use Rattle.std.specs.Option.{option_map_or, option_or, unwrap_or}
use Rattle.std.specs.Ordering.{eq_by_cmp}
use Rattle.std.proofs.lemmas.Bool.{true≢false}
use Rattle.std.proofs.lemmas.Option.{none-some}
use Rattle.jr_path.specs.Names.{path_cmp}
use Rattle.jr_path.specs.declared.path.Path.{Path}
use Rattle.jr_path.proofs.Maps.{path_total}
use Rattle.jr_value.specs.declared.value.Property.{Property}
use Rattle.jr_value.specs.declared.value.Property.TheVariants.{Single}
use Rattle.jr_value.specs.declared.value.Value.TheVariants as value
use Rattle.jr_value.specs.Values.{same_property}
use Rattle.jr_value.specs.Equality.{same_property_decides}
use Rattle.jr_tree.specs.declared.shared.Refusal.{Refusal}
use Rattle.jr_tree.specs.declared.edit.Write.{Write}
use Rattle.jr_tree.specs.declared.edit.Write.TheVariants.{Put}
use Rattle.jr_tree.specs.Trees.{IsTree, Nodes, node_at, property_at}
use Rattle.jr_tree.specs.Edits.{applied, is_change}
use Rattle.jr_tree.specs.Items.{put_of, written}
use Rattle.jr_tree.proofs.EditLaw.{Orderly-all, property_applied}
use Rattle.jr_items.specs.Items.{first_some, needed_writes, upward}
use Rattle.jr_items.specs.Names.{lock_is_deep, lock_owner}
use Rattle.jr_items.specs.Refusals.{in_system, locked, no_item, no_node, or_else, place_refusal, too_deep, too_long}
use Rattle.jcr_lock.specs.Locks.{first_lock, is_lock, lock_covers, lock_edit, lock_in_way, lock_refusal, lock_writes, unlockable}
use Rattle.jcr_ref.specs.Drawn.{too_many_ids}
use Rattle.jcr_trans.specs.declared.command.Command.{Command}
use Rattle.jcr_trans.specs.declared.command.Command.TheVariants as command
use Rattle.jcr_view.specs.Outcomes.{eval, is_viewed}
use Rattle.jcr_law.specs.Commits.{drawing_one, edit_due, refusal_of_plan}
use Rattle.jcr_law.specs.Law.{no_text}
use Rattle.jcr_law.specs.State.{Call, accepted, is_ok_text, next_id, viewed}
use Rattle.jcr_call.specs.Comings.{reply_to_due}
use Rattle.jcr_call.specs.declared.coming.Coming.TheVariants as coming
use Rattle.jcr_held.specs.declared.held.Held.{Held}
use Rattle.jcr_held.specs.Accepts.{AcceptsAs, cursor_behind}
use Rattle.jcr_held.specs.Comes.{ComesTo}
use Rattle.jcr_held.specs.Holds.{Holds}
use Rattle.jcr_held.proofs.Holding.{base_tree}

-- ---- a path is among those from it upwards

none_first : {X : Type 0} (test : X → Bool) (x : X) (xs : List X) → find test (x ∷ xs) ≡ None
    → (test x ≡ false) × (find test xs ≡ None)
none_first test x xs = by (test x)
  where
    by : (b : Bool) → cond b (Some x) (find test xs) ≡ None → (b ≡ false) × (find test xs ≡ None)
    by true h = absurd (none-some x (sym h))
    by false h = (refl, h)

none_mapped : (f : Path → Path) (test : Path → Bool) (xs ys : List Path) → find test (map f xs ++ ys) ≡ None
    → find (λ q. test (f q)) xs ≡ None
none_mapped f test [] ys h = refl
none_mapped f test (x ∷ xs) ys h =
    let first = none_first test (f x) (map f xs ++ ys) h in
    ap (λ b. cond b (Some x) (find (λ q. test (f q)) xs)) first.0 ∙ none_mapped f test xs ys first.1

none_upward : (test : Path → Bool) (p : Path) → find test (upward p) ≡ None → test p ≡ false
none_upward test [] h = (none_first test [] [] h).0
none_upward test (n ∷ p) h = none_upward (λ q. test (n ∷ q)) p (none_mapped (λ q. n ∷ q) test (upward p) ([] ∷ []) h)

-- ---- where a lock isn't refused its node is there, without an owner

first_none : {X : Type 0} (a : Option X) (xs : List (Option X)) → first_some (a ∷ xs) ≡ None
    → (a ≡ None) × (first_some xs ≡ None)
first_none None xs h = (refl, h)
first_none (Some x) xs h = absurd (none-some x (sym h))

there : {X : Type 0} (o : Option X) (r : Refusal) → cond (is_none o) (Some r) None ≡ None → is_some o ≡ true
there None r h = absurd (none-some r (sym h))
there (Some x) r h = refl

node_there : (t : Nodes) (p : Path) → place_refusal t p ≡ None → is_some (node_at t p) ≡ true
node_there t p h =
    let deep = first_none (too_deep p) (too_long p ∷ in_system p ∷ no_node t p ∷ []) h in
    let long = first_none (too_long p) (in_system p ∷ no_node t p ∷ []) deep.1 in
    let system = first_none (in_system p) (no_node t p ∷ []) long.1 in
    there (node_at t p) (no_item p) (first_none (no_node t p) [] system.1).0

none_way : (o : Option Path) → option_map locked o ≡ None → o ≡ None
none_way None h = refl
none_way (Some q) h = absurd (none-some (locked q) (sym h))

none_either : (a b : Option Path) → option_or a b ≡ None → a ≡ None
none_either None b h = refl
none_either (Some q) b h = absurd (none-some q (sym h))

uncovered : (a b c : Bool) → b ≡ true → (a && (b || c)) ≡ false → a ≡ false
uncovered false b c is h = refl
uncovered true b c is h = absurd (true≢false (sym (ap (λ x. x || c) is) ∙ h))

nothing : {X : Type 0} (o : Option X) → is_some o ≡ false → o ≡ None
nothing None h = refl
nothing (Some x) h = absurd (true≢false h)

unowned : (t : Nodes) (p : Path) (deep : Bool) → lock_in_way t p deep ≡ None → property_at t p lock_owner ≡ None
unowned t p deep h =
    nothing (property_at t p lock_owner)
    (uncovered (is_lock t p) (eq_by_cmp path_cmp p p) _ ((eq_by_cmp_equiv path_total).refl p)
    (none_upward (λ q. lock_covers t q p) p (none_either _ (cond deep (first_lock t p) None) h)))

-- ---- a lock has something to write

module _ (t : Nodes) (tree : IsTree t) (p : Path) (deep : Bool) (token : List ℕ) where
  abbrev writes : List Write
  writes = lock_writes p deep token

  abbrev owner : Property
  owner = Single (value.Str token)

  abbrev flag : Property
  flag = Single (value.Boolean deep)

  owned_then : is_some (node_at t p) ≡ true → property_at (applied None t writes) p lock_owner ≡ Some owner
  owned_then stands =
      property_applied None t writes tree.paths (Orderly-all t tree.names) p lock_owner
      ∙ (ap (λ b. cond b (unwrap_or (written (put_of p lock_owner) writes) (property_at t p lock_owner)) None) stands
      ∙ ap (λ w. unwrap_or w (property_at t p lock_owner))
      (ap (λ b. option_or (option_or None (cond (b && true) (Some (Some owner)) None)) (cond (b && false) (Some (Some flag)) None))
      ((eq_by_cmp_equiv path_total).refl p)))

  owner_changes : is_some (node_at t p) ≡ true → property_at t p lock_owner ≡ None
      → is_change t (applied None t writes) (Put p lock_owner owner) ≡ true
  owner_changes stands free =
      ap (λ (o : Option Property). not (option_map_or (same_property owner) o false)
      && option_map_or (same_property owner) (property_at (applied None t writes) p lock_owner) false) free
      ∙ (ap (λ (o : Option Property). option_map_or (same_property owner) o false) (owned_then stands)
      ∙ (same_property_decides owner owner).1 refl)

  abbrev has_some : List Write → Bool
  has_some [] = false
  has_some (w ∷ ws) = true

  some_left : (test : Write → Bool) (v w : Write) → test w ≡ true → has_some (filter test (v ∷ w ∷ [])) ≡ true
  some_left test v w h =
      ap (λ b. has_some (cond (test v) (v ∷ cond b (w ∷ []) []) (cond b (w ∷ []) []))) h ∙ by (test v)
    where
      by : (b : Bool) → has_some (cond b (v ∷ w ∷ []) (w ∷ [])) ≡ true
      by true = refl
      by false = refl

  some_needed : lock_refusal t p deep ≡ None → has_some (needed_writes t writes) ≡ true
  some_needed h =
      let place = first_none (place_refusal t p) (unlockable t p ∷ option_map locked (lock_in_way t p deep) ∷ []) h in
      let kind = first_none (unlockable t p) (option_map locked (lock_in_way t p deep) ∷ []) place.1 in
      let way = none_way (lock_in_way t p deep) (first_none (option_map locked (lock_in_way t p deep)) [] kind.1).0 in
      some_left (is_change t (applied None t writes)) (Put p lock_is_deep flag) (Put p lock_owner owner)
      (owner_changes (node_there t p place.0) (unowned t p deep way))

  -- an edit without writes
  abbrev is_empty : Result (List Write) Refusal → Bool
  is_empty (Ok ws) = not (has_some ws)
  is_empty (Err r) = false

  never_empty : is_empty (lock_edit t p deep token) ≡ false
  never_empty = by (lock_refusal t p deep) some_needed
    where
      by : (o : Option Refusal) → (o ≡ None → has_some (needed_writes t writes) ≡ true) → is_empty (or_else o (needed_writes t writes)) ≡ false
      by None some = ap not (some refl)
      by (Some r) some = refl

  still_never : (c : Call) (due : Result (List Write) Refusal) → is_empty due ≡ false → is_empty (drawing_one c due) ≡ false
  still_never c (Err r) h = refl
  still_never c (Ok ws) h = by (too_many_ids (c.who.ids + 1))
    where
      by : (o : Option Refusal) → is_empty (or_else o ws) ≡ false
      by None = h
      by (Some r) = refl

  pub lock_writes_some : (c : Call) → ◌≡◌ {A = Option (Result (List Write) Refusal)} (Some (drawing_one c (lock_edit t p deep token))) (Some (Ok [])) → ⊥
  lock_writes_some c h =
      true≢false (sym (ap (λ (o : Option (Result (List Write) Refusal)). option_map_or is_empty o false) h)
      ∙ still_never c (lock_edit t p deep token) never_empty)

-- ---- nothing to write

unwritten_keeps : (c : Call) → IsTree c.base → (m : Command) → edit_due c m ≡ Some (Ok []) → (accepted c m).tokens ≡ c.state.tokens
unwritten_keeps c tree command.Save h = refl
unwritten_keeps c tree (command.Refresh false) h = refl
unwritten_keeps c tree (command.Token t) h = absurd (none-some _ h)
unwritten_keeps c tree (command.DropToken t) h = absurd (none-some _ h)
unwritten_keeps c tree (command.Lock p deep) h = absurd (lock_writes_some c.base tree p deep (next_id c.who) c h)
unwritten_keeps c tree (command.Observe p deep mask) h = refl
unwritten_keeps c tree command.Events h = refl
unwritten_keeps c tree m h = by (is_viewed m)
  where
    by : (b : Bool) → (cond b (viewed (eval c.types c.who c.base c.state.view m) c.state) c.state).tokens ≡ c.state.tokens
    by true = refl
    by false = refl

-- no command that has an edit moves the cursor
cursor_stays : (c : Call) (x : Held) (m : Command) (due : Result (List Write) Refusal) → x.cursor ≡ c.state.cursor → edit_due c m ≡ Some due
    → cursor_behind x m ≡ (accepted c m).cursor
cursor_stays c x command.Save due is h = is
cursor_stays c x (command.Refresh false) due is h = is
cursor_stays c x (command.Token t) due is h = is
cursor_stays c x (command.DropToken t) due is h = is
cursor_stays c x (command.Lock p deep) due is h = is
cursor_stays c x (command.Observe p deep mask) due is h = absurd (none-some due h)
cursor_stays c x command.Events due is h = absurd (none-some due h)
cursor_stays c x m due is h = by (is_viewed m)
  where
    by : (b : Bool) → x.cursor ≡ (cond b (viewed (eval c.types c.who c.base c.state.view m) c.state) c.state).cursor
    by true = is
    by false = is

-- a refusal accepts nothing
refuses : (o : Option Refusal) (text : List ℕ) → option_map no_text o ≡ Some text → is_ok_text text ≡ true → ⊥
refuses None text h ok = none-some _ h
refuses (Some r) text h ok =
    true≢false (sym ok ∙ sym (ap (λ (o : Option (List ℕ)). option_map_or is_ok_text o false) h))

pub said_fits : (c : Call) (x : Held) (m : Command) (text : String Global) → Holds c x → ComesTo c m (coming.Said text)
    → is_ok_text (string_bytes text) ≡ true → AcceptsAs x None c m
said_fits c x m text h comes ok = by comes.due comes.is_due comes.comes
  where
    by : (due : Result (List Write) Refusal) → edit_due c m ≡ Some due → reply_to_due c m due ≡ Some (string_bytes text)
        → AcceptsAs x None c m
    by (Ok []) is said = record {
      tokens_are = h.tokens ∙ sym (unwritten_keeps c (base_tree c x h) m is);
      cursor_is = cursor_stays c x m (Ok []) h.cursor is;
    }
    by (Ok (w ∷ ws)) is said = absurd (refuses (refusal_of_plan c (w ∷ ws)) (string_bytes text) said ok)
    by (Err r) is said = absurd (refuses (Some r) (string_bytes text) said ok)
