-- The pins of a memory, and those of the sessions by the past.
use Rattle.std.proofs.Common.{◌≡◌, inl, inr, ℕ, Bool, true, false, cond, not, ◌&&◌, ◌||◌, Option, Some, None, List, [], ◌∷◌, is_some, refl, sym, ap, subst, ◌∙◌, arith}
use Rattle.std.specs.Prelude.{◌==◌, ◌-◌, ◌⊎◌, nat_le, slice_get, unwrap_or}
use Rattle.std.specs.BTreeMap.{is_at, insert_entry}
use Rattle.std.specs.List.{AllByRecursion}
use Rattle.std.specs.List.Sorted.{IsStrictlySortedBy}
use Rattle.std.specs.Map.{keys_of, lookup, remove_entry}
use Rattle.std.specs.Option.{option_map_or}
use Rattle.std.specs.Ordering.{nat_cmp, is_eq, match_ordering}
use Rattle.std.specs.declared.cmp.Ordering.{Ordering}
use Rattle.std.specs.declared.cmp.Ordering.TheVariants.{Less, Equal, Greater}
use Rattle.std.proofs.lemmas.Bool.Decides.{nat_tests}
use mathlib.Core.Bool.{false≢true}
use Rattle.jr_rev.specs.declared.vector.Pin.{Pin}
use Rattle.jr_rev.specs.declared.vector.RevVec.{RevVec}
use Rattle.oak_machine.specs.declared.event.Event.{Event}
use Rattle.oak_machine.specs.declared.event.Event.TheVariants as event
use Rattle.oak_machine.specs.declared.event.StepKind.TheVariants as kind
use Rattle.oak_machine.specs.History.{Begin, Past}
use Rattle.oak_machine.specs.Laws.{Says, Starts}
use Rattle.oak_machine.specs.Runs.{IsRunOf}
use Rattle.oak_machine.specs.Sessions.{cursor_at, has_left, has_login, is_recovered, is_recovery_of, pinned_at, session_base}
use Rattle.oak_node.specs.Memory.{NodeState}
use Rattle.oak_node.specs.Pins.{pin_of, with_pin, without_pin}
use Rattle.core_heads.proofs.Orders.{not_both, same_itself, same_number}
use Rattle.oak_node.proofs.Places.{remove_sorted}
use Rattle.core_nodes.specs.Nodes.{ArePinsOf, IsCursorAt, IsPair, IsPinnedAt, base_of_pin, cursor_base, cursor_owner, is_of_node, kept_base, leaves_memory, leaves_pins, moved_pin, owner_base, without_session}
use Rattle.core_nodes.proofs.Pasts.{not_true}

-- ---- entries by their numbers

same_order : (k : ℕ) → is_eq (nat_cmp k k) ≡ true
same_order k = grind (arith, nat_tests)

other_order : (q k : ℕ) → (k == q) ≡ false → is_eq (nat_cmp q k) ≡ false
other_order q k h = grind (arith, nat_tests)

equals : (a b : ℕ) → nat_cmp a b ≡ Equal → a ≡ b
equals a b h = grind (arith, nat_tests)

behind : (k e y : ℕ) → nat_cmp e y ≡ Less → is_eq (nat_cmp k e) ≡ true → is_eq (nat_cmp k y) ≡ false
behind k e y h i = grind (arith, nat_tests)

module _ {X : Type 0} (k : ℕ) where
  pub lookup_put : (v : X) (es : List (ℕ × X)) → lookup (is_at (nat_cmp k)) (insert_entry nat_cmp es k v) ≡ Some v
  lookup_put v [] = ap (λ b. cond b (Some v) None) (same_order k)
  lookup_put v (e ∷ es) = by (nat_cmp k e.0) refl (lookup_put v es)
    where
      by : (o : Ordering) → nat_cmp k e.0 ≡ o → lookup (is_at (nat_cmp k)) (insert_entry nat_cmp es k v) ≡ Some v → lookup (is_at (nat_cmp k)) (match_ordering o ((k, v) ∷ e ∷ es) ((e.0, v) ∷ es) (e ∷ insert_entry nat_cmp es k v)) ≡ Some v
      by Less is rest = ap (λ b. cond b (Some v) (lookup (is_at (nat_cmp k)) (e ∷ es))) (same_order k)
      by Equal is rest = ap (λ o. cond (is_eq o) (Some v) (lookup (is_at (nat_cmp k)) es)) is
      by Greater is rest = ap (λ o. cond (is_eq o) (Some e.1) (lookup (is_at (nat_cmp k)) (insert_entry nat_cmp es k v))) is ∙ rest

  pub lookup_beside : (v : X) (es : List (ℕ × X)) (q : ℕ) → (k == q) ≡ false → lookup (is_at (nat_cmp q)) (insert_entry nat_cmp es k v) ≡ lookup (is_at (nat_cmp q)) es
  lookup_beside v [] q other = ap (λ b. cond b (Some v) None) (other_order q k other)
  lookup_beside v (e ∷ es) q other = by (nat_cmp k e.0) refl (lookup_beside v es q other)
    where
      here : (n : ℕ) → k ≡ n → (w : X) → cond (is_eq (nat_cmp q n)) (Some w) (lookup (is_at (nat_cmp q)) es) ≡ lookup (is_at (nat_cmp q)) es
      here n same w = ap (λ b. cond b (Some w) (lookup (is_at (nat_cmp q)) es)) (ap (λ j. is_eq (nat_cmp q j)) (sym same) ∙ other_order q k other)

      by : (o : Ordering) → nat_cmp k e.0 ≡ o → lookup (is_at (nat_cmp q)) (insert_entry nat_cmp es k v) ≡ lookup (is_at (nat_cmp q)) es → lookup (is_at (nat_cmp q)) (match_ordering o ((k, v) ∷ e ∷ es) ((e.0, v) ∷ es) (e ∷ insert_entry nat_cmp es k v)) ≡ lookup (is_at (nat_cmp q)) (e ∷ es)
      by Less is rest = ap (λ b. cond b (Some v) (lookup (is_at (nat_cmp q)) (e ∷ es))) (other_order q k other)
      by Equal is rest = let same = equals k e.0 is in here e.0 same v ∙ sym (here e.0 same e.1)
      by Greater is rest = ap (λ l. cond (is_eq (nat_cmp q e.0)) (Some e.1) l) rest

  none_behind : (n : ℕ) (es : List (ℕ × X)) → is_eq (nat_cmp k n) ≡ true → AllByRecursion (λ y. nat_cmp n y ≡ Less) (keys_of es) → lookup (is_at (nat_cmp k)) es ≡ None
  none_behind n [] h all = refl
  none_behind n (e ∷ es) h all = ap (λ b. cond b (Some e.1) (lookup (is_at (nat_cmp k)) es)) (behind k n e.0 all.0 h) ∙ none_behind n es h all.1

  pub lookup_taken : (es : List (ℕ × X)) → IsStrictlySortedBy nat_cmp (keys_of es) → lookup (is_at (nat_cmp k)) (remove_entry (is_at (nat_cmp k)) es) ≡ None
  unfolding IsStrictlySortedBy
  lookup_taken [] sorted = refl
  lookup_taken (e ∷ es) sorted = by (is_eq (nat_cmp k e.0)) refl (lookup_taken es sorted.1)
    where
      by : (b : Bool) → is_eq (nat_cmp k e.0) ≡ b → lookup (is_at (nat_cmp k)) (remove_entry (is_at (nat_cmp k)) es) ≡ None → lookup (is_at (nat_cmp k)) (cond b es (e ∷ remove_entry (is_at (nat_cmp k)) es)) ≡ None
      by true is rest = none_behind e.0 es is sorted.0
      by false is rest = ap (λ b. cond b (Some e.1) (lookup (is_at (nat_cmp k)) (remove_entry (is_at (nat_cmp k)) es))) is ∙ rest

  pub lookup_left : (es : List (ℕ × X)) (q : ℕ) → (k == q) ≡ false → lookup (is_at (nat_cmp q)) (remove_entry (is_at (nat_cmp k)) es) ≡ lookup (is_at (nat_cmp q)) es
  lookup_left [] q other = refl
  lookup_left (e ∷ es) q other = by (is_eq (nat_cmp k e.0)) refl (lookup_left es q other)
    where
      apart : is_eq (nat_cmp k e.0) ≡ true → (k == q) ≡ false → is_eq (nat_cmp q e.0) ≡ false
      apart h i = grind (arith, nat_tests)

      by : (b : Bool) → is_eq (nat_cmp k e.0) ≡ b → lookup (is_at (nat_cmp q)) (remove_entry (is_at (nat_cmp k)) es) ≡ lookup (is_at (nat_cmp q)) es → lookup (is_at (nat_cmp q)) (cond b es (e ∷ remove_entry (is_at (nat_cmp k)) es)) ≡ lookup (is_at (nat_cmp q)) (e ∷ es)
      by true is rest = sym (ap (λ b. cond b (Some e.1) (lookup (is_at (nat_cmp q)) es)) (apart is other))
      by false is rest = ap (λ l. cond (is_eq (nat_cmp q e.0)) (Some e.1) l) rest

-- ---- sessions

-- who has left had come
pub left_had_login : (begin : Begin) (starts : Starts) (says : Says) (clusters : ℕ) (sessions : List ℕ) (past : Past) → IsRunOf starts says clusters sessions begin past → (s : ℕ) → has_left past s ≡ true → has_login past s ≡ true
left_had_login begin starts says clusters sessions [] run s h = absurd (false≢true h)
left_had_login begin starts says clusters sessions (event.Login t v ∷ past) run s h = or_second (t == s) (has_login past s) (left_had_login begin starts says clusters sessions past run.1 s h)
  where
    or_second : (a b : Bool) → b ≡ true → (a || b) ≡ true
    or_second true b h = refl
    or_second false b h = h
left_had_login begin starts says clusters sessions (event.Went t kind.End ∷ past) run s h = by (left_had_login begin starts says clusters sessions past run.1 s) (t == s) refl h
  where
    by : (has_left past s ≡ true → has_login past s ≡ true) → (b : Bool) → (t == s) ≡ b → (b || has_left past s) ≡ true → has_login past s ≡ true
    by rest true e h = subst (λ (n : ℕ). has_login past n ≡ true) (same_number t s e) run.0.0
    by rest false e h = rest h
left_had_login begin starts says clusters sessions (e ∷ past) run s h = left_had_login begin starts says clusters sessions past run.1 s h

-- an event that doesn't move it leaves a session's pin where it was
pub base_left : (past : Past) (e : Event) (s : ℕ) → option_map_or (λ t. t == s) (moved_pin e) false ≡ false → session_base (e ∷ past) s ≡ session_base past s
base_left past (event.Login t v) s h = ap (λ b. cond ((b || has_login past s) && not (has_left past s)) (cond b (Some v) (pinned_at past s)) None) h
base_left past (event.Refresh t v) s h = ap (λ b. cond (has_login past s && not (has_left past s)) (cond b (Some v) (pinned_at past s)) None) h
base_left past (event.Went t kind.End) s h = ap (λ b. cond (has_login past s && not (b || has_left past s)) (pinned_at past s) None) h
base_left past e s h = refl

-- and its cursor
pub cursor_left : (past : Past) (e : Event) (s : ℕ) → option_map_or (λ t. t == s) (moved_pin e) false ≡ false → cursor_at (e ∷ past) s ≡ cursor_at past s
cursor_left past (event.Went t kind.Pin) s h = ap (λ b. cond b (session_base past s) (cursor_at past s)) h
cursor_left past (event.Went t kind.End) s h = ap (λ b. cond b None (cursor_at past s)) h
cursor_left past e s h = refl

-- what an owner has, by another equation of what is found
same_pin : (a b pin : Pin) → Some a ≡ Some b → IsPair a.base a.sweep → IsPair b.base b.sweep
same_pin a b pin e h = subst (λ (p : Pin). IsPair p.base p.sweep) (ap (λ o. unwrap_or o pin) e) h

-- ---- owners

-- the owner of a cursor is that of its session
pub its_cursor : (s : ℕ) → (nat_le 64 (cursor_owner s) ≡ true) × (cursor_owner s - 64 ≡ s)
its_cursor s = (grind (arith, nat_tests), omega arith)

cursor_is : (owner s : ℕ) → nat_le 64 owner ≡ true → (s == owner - 64) ≡ true → owner ≡ cursor_owner s
cursor_is owner s h e = grind (arith, nat_tests)

-- no other owner's session has this cursor
other_cursor : (owner s : ℕ) → nat_le 64 owner ≡ true → (cursor_owner s == owner) ≡ false → (s == owner - 64) ≡ false
other_cursor owner s h e = grind (arith, nat_tests)

not_itself : (s : ℕ) → (s == cursor_owner s) ≡ false
not_itself s = grind (arith, nat_tests)

and_parts : (a b : Bool) → (a && b) ≡ true → (a ≡ true) × (b ≡ true)
and_parts true true h = (refl, refl)
and_parts true false h = absurd (false≢true h)
and_parts false b h = absurd (false≢true h)

-- what leaves the memory of a node doesn't recover it
no_recovery : (k : ℕ) (e : Event) → leaves_memory k e ≡ true → is_recovery_of k e ≡ false
no_recovery k (event.Recover m) h = not_true (m == k) h
no_recovery k e h = refl

-- an event that leaves the memory of a node, and moves no pin of its sessions
pub leaves_both : (sessions : List ℕ) (k : ℕ) (e : Event) → leaves_memory k e ≡ true → option_map_or (λ s. not (is_of_node sessions k s)) (moved_pin e) true ≡ true → leaves_pins sessions k e ≡ true
leaves_both sessions k e h i = ap (λ b. not b && option_map_or (λ s. not (is_of_node sessions k s)) (moved_pin e) true) (no_recovery k e h) ∙ i

module _ (sessions : List ℕ) (past : Past) (k : ℕ) where
  -- an owner that is a session of the node
  pub session_owner : (s : ℕ) → slice_get sessions s ≡ Some k → owner_base sessions past k s ≡ session_base past s
  session_owner s of =
      ap (λ o. cond (is_some o) (cond (option_map_or (λ m. m == k) o false) (session_base past s) None) (cursor_base sessions past k s)) of
      ∙ ap (λ b. cond b (session_base past s) None) (same_itself k)

  -- an owner that is the cursor of one
  pub cursor_owned : (s : ℕ) → slice_get sessions s ≡ Some k → slice_get sessions (cursor_owner s) ≡ None → owner_base sessions past k (cursor_owner s) ≡ cursor_at past s
  cursor_owned s of none =
      ap (λ o. cond (is_some o) (cond (option_map_or (λ m. m == k) o false) (session_base past (cursor_owner s)) None) (cursor_base sessions past k (cursor_owner s))) none
      ∙ (ap (λ b. cond (b && is_of_node sessions k (cursor_owner s - 64)) (cursor_at past (cursor_owner s - 64)) None) (its_cursor s).0
      ∙ (ap (λ n. cond (is_of_node sessions k n) (cursor_at past n) None) (its_cursor s).1
      ∙ (ap (λ o. cond (option_map_or (λ m. m == k) o false) (cursor_at past s) None) of
      ∙ ap (λ b. cond b (cursor_at past s) None) (same_itself k))))

  -- an owner is as it was after an event that moves neither its session nor the session of its cursor
  pub owner_left : (e : Event) (owner : ℕ) → (is_of_node sessions k owner ≡ true → session_base (e ∷ past) owner ≡ session_base past owner)
      → (nat_le 64 owner ≡ true → is_of_node sessions k (owner - 64) ≡ true → cursor_at (e ∷ past) (owner - 64) ≡ cursor_at past (owner - 64)) → owner_base sessions past k owner ≡ owner_base sessions (e ∷ past) k owner
  owner_left e owner base cursor = whole (is_some (slice_get sessions owner)) (session (is_of_node sessions k owner) refl) (other (nat_le 64 owner && is_of_node sessions k (owner - 64)) refl)
    where
      session : (b : Bool) → is_of_node sessions k owner ≡ b → cond b (session_base past owner) None ≡ cond b (session_base (e ∷ past) owner) None
      session true of = sym (base of)
      session false of = refl

      other : (b : Bool) → (nat_le 64 owner && is_of_node sessions k (owner - 64)) ≡ b → cond b (cursor_at past (owner - 64)) None ≡ cond b (cursor_at (e ∷ past) (owner - 64)) None
      other true h = let p = and_parts (nat_le 64 owner) (is_of_node sessions k (owner - 64)) h in sym (cursor p.0 p.1)
      other false h = refl

      whole : (b : Bool) {a c d x : Option RevVec} → a ≡ c → d ≡ x → cond b a d ≡ cond b c x
      whole true p q = p
      whole false p q = q

  -- a node that isn't recovered keeps what its owners have, and a recovered one nothing
  pub alive_base : is_recovered past k ≡ false → (owner : ℕ) → kept_base sessions past k owner ≡ owner_base sessions past k owner
  alive_base h owner = ap (λ b. cond b None (owner_base sessions past k owner)) h

  pub gone_base : is_recovered past k ≡ true → (owner : ℕ) → kept_base sessions past k owner ≡ None
  gone_base h owner = ap (λ b. cond b None (owner_base sessions past k owner)) h

module _ (sessions : List ℕ) (past : Past) (k : ℕ) (s : NodeState) (are : ArePinsOf sessions past k s) where
  -- whose owner has a pin isn't recovered
  pub pinned_alive : (owner : ℕ) (pin : Pin) → pin_of s owner ≡ Some pin → is_recovered past k ≡ false
  pinned_alive owner pin h = by (is_recovered past k) refl
    where
      by : (b : Bool) → is_recovered past k ≡ b → b ≡ false
      by true e = absurd (false≢true (ap is_some (sym (gone_base sessions past k e owner) ∙ (sym (are.bases owner) ∙ ap base_of_pin h))))
      by false e = refl

  -- an event that moves no pin of the node
  pub pins_kept : (e : Event) → leaves_pins sessions k e ≡ true → ArePinsOf sessions (e ∷ past) k s
  pins_kept e leaves = record {
    bases = λ owner.
        are.bases owner
        ∙ (ap (cond (is_recovered past k) None) (owner_left sessions past k e owner (λ of. base_left past e owner (apart owner (moved_pin e) h of)) (λ high of. cursor_left past e (owner - 64) (apart (owner - 64) (moved_pin e) h of)))
        ∙ sym (ap (λ b. cond (b || is_recovered past k) None (owner_base sessions (e ∷ past) k owner)) (not_true (is_recovery_of k e) parts.0)));
    pairs = are.pairs;
  }
    where
      parts : (not (is_recovery_of k e) ≡ true) × (option_map_or (λ t. not (is_of_node sessions k t)) (moved_pin e) true ≡ true)
      parts = and_parts (not (is_recovery_of k e)) _ leaves

      h : option_map_or (λ t. not (is_of_node sessions k t)) (moved_pin e) true ≡ true
      h = parts.1

      apart : (owner : ℕ) (o : Option ℕ) → option_map_or (λ t. not (is_of_node sessions k t)) o true ≡ true → is_of_node sessions k owner ≡ true → option_map_or (λ t. t == owner) o false ≡ false
      apart owner None h of = refl
      apart owner (Some t) h of = at (t == owner) refl
        where
          at : (b : Bool) → (t == owner) ≡ b → b ≡ false
          at true e = not_both (is_of_node sessions k t) (ap (is_of_node sessions k) (same_number t owner e) ∙ of) (not_true (is_of_node sessions k t) h)
          at false e = refl

  -- the session is as it was where the event moves another's pin
  base_beside : (e : Event) (t : ℕ) → moved_pin e ≡ Some t → (owner : ℕ) → (t == owner) ≡ false → session_base (e ∷ past) owner ≡ session_base past owner
  base_beside e t moved owner other = base_left past e owner (ap (λ o. option_map_or (λ n. n == owner) o false) moved ∙ other)

  -- and so is its cursor
  cursor_beside : (e : Event) (t : ℕ) → moved_pin e ≡ Some t → (owner : ℕ) → (t == owner) ≡ false → cursor_at (e ∷ past) owner ≡ cursor_at past owner
  cursor_beside e t moved owner other = cursor_left past e owner (ap (λ o. option_map_or (λ n. n == owner) o false) moved ∙ other)

  -- an owner is pinned at what the past has for it, and the others are as they were
  pub owner_put : (e : Event) (t : ℕ) (pin : Pin) → is_recovered past k ≡ false → is_recovered (e ∷ past) k ≡ false → owner_base sessions (e ∷ past) k t ≡ Some pin.base → ((owner : ℕ) → (t == owner) ≡ false → owner_base sessions past k owner ≡ owner_base sessions (e ∷ past) k owner) → IsPair pin.base pin.sweep → ArePinsOf sessions (e ∷ past) k (with_pin s t pin)
  owner_put e t pin was now is left pair = record { bases = λ owner. by owner (t == owner) refl; pairs = λ owner x h. pairs owner x h (t == owner) refl }
    where
      there : base_of_pin (pin_of (with_pin s t pin) t) ≡ kept_base sessions (e ∷ past) k t
      there = ap base_of_pin (lookup_put t pin s.pins) ∙ sym (alive_base sessions (e ∷ past) k now t ∙ is)

      by : (owner : ℕ) (b : Bool) → (t == owner) ≡ b → base_of_pin (pin_of (with_pin s t pin) owner) ≡ kept_base sessions (e ∷ past) k owner
      by owner true same = subst (λ (n : ℕ). base_of_pin (pin_of (with_pin s t pin) n) ≡ kept_base sessions (e ∷ past) k n) (same_number t owner same) there
      by owner false other =
          ap base_of_pin (lookup_beside t pin s.pins owner other)
          ∙ (are.bases owner
          ∙ (alive_base sessions past k was owner
          ∙ (left owner other
          ∙ sym (alive_base sessions (e ∷ past) k now owner))))

      pairs : (owner : ℕ) (x : Pin) → pin_of (with_pin s t pin) owner ≡ Some x → (b : Bool) → (t == owner) ≡ b → IsPair x.base x.sweep
      pairs owner x h true same = same_pin pin x pin (sym (lookup_put t pin s.pins) ∙ (ap (λ n. pin_of (with_pin s t pin) n) (same_number t owner same) ∙ h)) pair
      pairs owner x h false other = are.pairs owner x (sym (lookup_beside t pin s.pins owner other) ∙ h)

  -- a session of the node is pinned at what the past has for it
  pub pins_put : (e : Event) (t : ℕ) (pin : Pin) → is_recovered past k ≡ false → is_recovered (e ∷ past) k ≡ false → moved_pin e ≡ Some t → ((q : ℕ) → cursor_at (e ∷ past) q ≡ cursor_at past q) → slice_get sessions t ≡ Some k → session_base (e ∷ past) t ≡ Some pin.base → IsPair pin.base pin.sweep → ArePinsOf sessions (e ∷ past) k (with_pin s t pin)
  pins_put e t pin was now moved cursors of is pair = owner_put e t pin was now (session_owner sessions (e ∷ past) k t of ∙ is) (λ owner other. owner_left sessions past k e owner (λ on. base_beside e t moved owner other) (λ high on. cursors (owner - 64))) pair

  -- a session of the node pins its cursor at its own pin
  pub cursor_put : (t : ℕ) (pin : Pin) → slice_get sessions t ≡ Some k → slice_get sessions (cursor_owner t) ≡ None → pin_of s t ≡ Some pin → ArePinsOf sessions (event.Went t kind.Pin ∷ past) k (with_pin s (cursor_owner t) pin)
  cursor_put t pin of none has = owner_put (event.Went t kind.Pin) (cursor_owner t) pin alive alive here (λ owner other. owner_left sessions past k (event.Went t kind.Pin) owner (λ on. refl) (λ high on. cursor_beside (event.Went t kind.Pin) t refl (owner - 64) (other_cursor owner t high other))) (are.pairs t pin has)
    where
      alive : is_recovered past k ≡ false
      alive = pinned_alive t pin has

      here : owner_base sessions (event.Went t kind.Pin ∷ past) k (cursor_owner t) ≡ Some pin.base
      here =
          cursor_owned sessions (event.Went t kind.Pin ∷ past) k t of none
          ∙ (ap (λ b. cond b (session_base past t) (cursor_at past t)) (same_itself t)
          ∙ (sym (session_owner sessions past k t of)
          ∙ (sym (alive_base sessions past k alive t)
          ∙ (sym (are.bases t)
          ∙ ap base_of_pin has))))

  -- a session has no pin any more, nor has its cursor
  pub pins_taken : (t : ℕ) → IsStrictlySortedBy nat_cmp (keys_of s.pins) → slice_get sessions t ≡ Some k → slice_get sessions (cursor_owner t) ≡ None → session_base (event.Went t kind.End ∷ past) t ≡ None → ArePinsOf sessions (event.Went t kind.End ∷ past) k (without_session s t)
  pins_taken t sorted of none is = record { bases = λ owner. by owner (cursor_owner t == owner) refl (t == owner) refl; pairs = λ owner x h. pairs owner x h (cursor_owner t == owner) refl (t == owner) refl }
    where
      -- who has none keeps none
      none_kept : (o : Option RevVec) → o ≡ None → (b : Bool) → cond b None o ≡ None
      none_kept o h true = refl
      none_kept o h false = h

      cursor_none : kept_base sessions (event.Went t kind.End ∷ past) k (cursor_owner t) ≡ None
      cursor_none = none_kept _ (cursor_owned sessions (event.Went t kind.End ∷ past) k t of none ∙ ap (λ b. cond b None (cursor_at past t)) (same_itself t)) (is_recovered past k)

      session_none : kept_base sessions (event.Went t kind.End ∷ past) k t ≡ None
      session_none = none_kept _ (session_owner sessions (event.Went t kind.End ∷ past) k t of ∙ is) (is_recovered past k)

      at_cursor : pin_of (without_session s t) (cursor_owner t) ≡ None
      at_cursor = lookup_taken (cursor_owner t) (without_pin s t).pins (remove_sorted t s.pins sorted)

      at_session : pin_of (without_session s t) t ≡ None
      at_session = lookup_left (cursor_owner t) (without_pin s t).pins t (apart_back t) ∙ lookup_taken t s.pins sorted
        where
          apart_back : (n : ℕ) → (cursor_owner n == n) ≡ false
          apart_back n = grind (arith, nat_tests)

      at_other : (owner : ℕ) → (cursor_owner t == owner) ≡ false → (t == owner) ≡ false → pin_of (without_session s t) owner ≡ pin_of s owner
      at_other owner far other = lookup_left (cursor_owner t) (without_pin s t).pins owner far ∙ lookup_left t s.pins owner other

      by : (owner : ℕ) (a : Bool) → (cursor_owner t == owner) ≡ a → (b : Bool) → (t == owner) ≡ b → base_of_pin (pin_of (without_session s t) owner) ≡ kept_base sessions (event.Went t kind.End ∷ past) k owner
      by owner true same b other = subst (λ (n : ℕ). base_of_pin (pin_of (without_session s t) n) ≡ kept_base sessions (event.Went t kind.End ∷ past) k n) (same_number (cursor_owner t) owner same) (ap base_of_pin at_cursor ∙ sym cursor_none)
      by owner false far true same = subst (λ (n : ℕ). base_of_pin (pin_of (without_session s t) n) ≡ kept_base sessions (event.Went t kind.End ∷ past) k n) (same_number t owner same) (ap base_of_pin at_session ∙ sym session_none)
      by owner false far false other =
          ap base_of_pin (at_other owner far other)
          ∙ (are.bases owner
          ∙ ap (cond (is_recovered past k) None) (owner_left sessions past k (event.Went t kind.End) owner (λ on. base_beside (event.Went t kind.End) t refl owner other) (λ high on. cursor_beside (event.Went t kind.End) t refl (owner - 64) (other_cursor owner t high far))))

      no_pair : (x : Pin) → None ≡ Some x → IsPair x.base x.sweep
      no_pair x h = absurd (false≢true (ap is_some h))

      pairs : (owner : ℕ) (x : Pin) → pin_of (without_session s t) owner ≡ Some x → (a : Bool) → (cursor_owner t == owner) ≡ a → (b : Bool) → (t == owner) ≡ b → IsPair x.base x.sweep
      pairs owner x h true same b other = no_pair x (sym at_cursor ∙ (ap (pin_of (without_session s t)) (same_number (cursor_owner t) owner same) ∙ h))
      pairs owner x h false far true same = no_pair x (sym at_session ∙ (ap (pin_of (without_session s t)) (same_number t owner same) ∙ h))
      pairs owner x h false far false other = are.pairs owner x (sym (at_other owner far other) ∙ h)

-- ---- the events that move a pin

module _ (past : Past) where
  pub login_base : (s : ℕ) (v : RevVec) → has_left past s ≡ false → session_base (event.Login s v ∷ past) s ≡ Some v
  login_base s v stays =
      ap (λ b. cond ((b || has_login past s) && not (has_left past s)) (cond b (Some v) (pinned_at past s)) None) (same_itself s)
      ∙ ap (λ b. cond (not b) (Some v) None) stays

  pub refresh_base : (s : ℕ) (v : RevVec) → has_login past s ≡ true → has_left past s ≡ false → session_base (event.Refresh s v ∷ past) s ≡ Some v
  refresh_base s v login stays =
      ap (λ b. cond (has_login past s && not (has_left past s)) (cond b (Some v) (pinned_at past s)) None) (same_itself s)
      ∙ (ap (λ b. cond (b && not (has_left past s)) (Some v) None) login
      ∙ ap (λ b. cond (not b) (Some v) None) stays)

  pub end_base : (s : ℕ) → session_base (event.Went s kind.End ∷ past) s ≡ None
  end_base s = ap (λ b. cond (has_login past s && not (b || has_left past s)) (pinned_at past s) None) (same_itself s) ∙ none (has_login past s)
    where
      none : (b : Bool) → cond (b && false) (pinned_at past s) None ≡ None
      none true = refl
      none false = refl

-- ---- who is pinned

module _ (sessions : List ℕ) (past : Past) (k : ℕ) (s : NodeState) (are : ArePinsOf sessions past k s) (owner : ℕ) where
  -- whoever has a pin is a session that has come and not left, or the cursor of a session
  pub pinned : (pin : Pin) → pin_of s owner ≡ Some pin → IsPinnedAt sessions past k owner pin.base ⊎ IsCursorAt sessions past k owner pin.base
  pinned pin h = whole (slice_get sessions owner) refl (sym (alive_base sessions past k alive owner) ∙ (sym (are.bases owner) ∙ ap base_of_pin h))
    where
      alive : is_recovered past k ≡ false
      alive = pinned_alive sessions past k s are owner pin h

      none : (c : Bool) → cond {A = Option RevVec} c None None ≡ Some pin.base → ⊥
      none true h = false≢true (ap is_some h)
      none false h = false≢true (ap is_some h)

      at : (m : ℕ) (v : RevVec) → slice_get sessions owner ≡ Some m → has_login past owner ≡ true → has_left past owner ≡ false → pinned_at past owner ≡ Some v → (c : Bool) → (m == k) ≡ c → cond c (Some v) None ≡ Some pin.base → IsPinnedAt sessions past k owner pin.base
      at m v of login stays base true same h = record { kept = alive; node = of ∙ ap Some (same_number m k same); login = login; stays = stays; base = base ∙ h }
      at m v of login stays base false same h = absurd (false≢true (ap is_some h))

      by : (m : ℕ) → slice_get sessions owner ≡ Some m → (a : Bool) → has_login past owner ≡ a → (b : Bool) → has_left past owner ≡ b → (w : Option RevVec) → pinned_at past owner ≡ w → cond (m == k) (cond (a && not b) w None) None ≡ Some pin.base → IsPinnedAt sessions past k owner pin.base
      by m of false login b left w base h = absurd (none (m == k) h)
      by m of true login true left w base h = absurd (none (m == k) h)
      by m of true login false left None base h = absurd (none (m == k) h)
      by m of true login false left (Some v) base h = at m v of login left base (m == k) refl h

      on_node : (o : Option ℕ) → slice_get sessions (owner - 64) ≡ o → option_map_or (λ m. m == k) o false ≡ true → slice_get sessions (owner - 64) ≡ Some k
      on_node None e h = absurd (false≢true h)
      on_node (Some m) e h = e ∙ ap Some (same_number m k h)

      cursor : (b : Bool) → (nat_le 64 owner && is_of_node sessions k (owner - 64)) ≡ b → cond b (cursor_at past (owner - 64)) None ≡ Some pin.base → IsCursorAt sessions past k owner pin.base
      cursor true e h =
          let p = and_parts (nat_le 64 owner) (is_of_node sessions k (owner - 64)) e in
          record { kept = alive; session = owner - 64; owner_is = cursor_is owner (owner - 64) p.0 (same_itself (owner - 64)); node = on_node (slice_get sessions (owner - 64)) refl p.1; base = h }
      cursor false e h = absurd (false≢true (ap is_some h))

      whole : (o : Option ℕ) → slice_get sessions owner ≡ o → cond (is_some o) (cond (option_map_or (λ m. m == k) o false) (session_base past owner) None) (cursor_base sessions past k owner) ≡ Some pin.base → IsPinnedAt sessions past k owner pin.base ⊎ IsCursorAt sessions past k owner pin.base
      whole (Some m) of h = inl (by m of (has_login past owner) refl (has_left past owner) refl (pinned_at past owner) refl h)
      whole None of h = inr (cursor (nat_le 64 owner && is_of_node sessions k (owner - 64)) refl h)

  -- an owner has a pin at its vector
  pub found_pin : (v : RevVec) → is_recovered past k ≡ false → owner_base sessions past k owner ≡ Some v → (pin : Pin) × (pin_of s owner ≡ Some pin) × (pin.base ≡ v)
  found_pin v alive base = by (pin_of s owner) refl (are.bases owner ∙ (alive_base sessions past k alive owner ∙ base))
    where
      by : (o : Option Pin) → pin_of s owner ≡ o → base_of_pin o ≡ Some v → (pin : Pin) × (pin_of s owner ≡ Some pin) × (pin.base ≡ v)
      by None e h = absurd (false≢true (ap is_some h))
      by (Some pin) e h = (pin, e, ap (λ o. unwrap_or o v) h)

  -- each such session has one
  pub has_pin : (v : RevVec) → IsPinnedAt sessions past k owner v → (pin : Pin) × (pin_of s owner ≡ Some pin) × (pin.base ≡ v)
  has_pin v p = found_pin v p.kept (session_owner sessions past k owner p.node
      ∙ (ap (λ a. cond (a && not (has_left past owner)) (pinned_at past owner) None) p.login
      ∙ (ap (λ b. cond (not b) (pinned_at past owner) None) p.stays
      ∙ p.base)))

  -- and so has each such cursor
  pub has_cursor : (v : RevVec) → slice_get sessions owner ≡ None → IsCursorAt sessions past k owner v → (pin : Pin) × (pin_of s owner ≡ Some pin) × (pin.base ≡ v)
  has_cursor v none p = found_pin v p.kept (ap (λ n. owner_base sessions past k n) p.owner_is ∙ (cursor_owned sessions past k p.session p.node (ap (λ n. slice_get sessions n) (sym p.owner_is) ∙ none) ∙ p.base))
