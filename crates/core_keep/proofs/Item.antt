-- One item: its entries show at a sight that is wider than all bounds what the commits show that it sees.
use Rattle.std.proofs.Common.{◌≡◌, ◌⊎◌, inl, inr, Bool, true, false, cond, ◌&&◌, ◌||◌, Some, None, Option, List, [], ◌∷◌, ◌++◌, refl, sym, ap, ◌∙◌, subst, is_some}
use Rattle.std.specs.Option.{option_and_then}
use Rattle.std.specs.List.{filter}
use mathlib.Core.Bool.{false≢true}
use Rattle.jr_rev.specs.declared.revision.Revision.{Revision}
use Rattle.jr_rev.specs.Revisions.{is_before, is_at_most}
use Rattle.jr_tree.specs.declared.edit.Write.{Write}
use Rattle.jr_tree.specs.Items.{written}
use Rattle.oak_doc.specs.Updates.{of_revision}
use Rattle.oak_read.specs.Meaning.{latest}
use Rattle.core_read.specs.Commits.{Sight, last_entry}
use Rattle.core_read.proofs.Latest.{at_most_both, before_at_most, not_before, IsLastEntry, only_entry, passing, latest_entry, writing, last_entry_last}
use Rattle.core_keep.specs.Keeps.{Course, edit_in, is_done, Matches, KeepsItem, IsWrittenBelow, IsCourse}

append_nil : {X : Type 0} (xs : List X) → xs ++ [] ≡ xs
append_nil [] = refl
append_nil (x ∷ xs) = ap (λ ys. x ∷ ys) (append_nil xs)

-- the last of the entries that pass a test
pub latest_of : {X : Type 0} (test : Revision → Bool) (es : List (Revision × X)) → IsLastEntry (passing test es) (latest (filter (λ e. test e.0) es))
latest_of {X} test es = subst (λ (l : List (Revision × X)). IsLastEntry (passing test es) (latest l)) (append_nil (filter (λ e. test e.0) es)) (latest_entry test es)

pub is_none : {X : Type 0} (o : Option X) → ((x : X) → o ≡ Some x → ⊥) → o ≡ None
is_none None f = refl
is_none (Some x) f = absurd (f x refl)

some_none : {X : Type 0} (o : Option X) (x : X) → o ≡ Some x → o ≡ None → ⊥
some_none o x h k = false≢true (ap is_some (sym k ∙ h))

cond_none : {X : Type 0} (b : Bool) → ◌≡◌ {A = Option X} (cond b None None) None
cond_none true = refl
cond_none false = refl

pub cond_some : {X : Type 0} (b : Bool) (o : Option X) (x : X) → cond b o None ≡ Some x → (b ≡ true) × (o ≡ Some x)
cond_some true o x h = (refl, h)
cond_some false o x h = absurd (false≢true (ap is_some h))

pub and_both : (a b : Bool) → (a && b) ≡ true → (a ≡ true) × (b ≡ true)
and_both true b h = (refl, h)
and_both false b h = absurd (false≢true h)

pub not_true : (b : Bool) → (b ≡ true → ⊥) → b ≡ false
not_true true f = absurd (f refl)
not_true false f = refl

-- either of two
pub either_true : (a b : Bool) → (a || b) ≡ true → (a ≡ true) ⊎ (b ≡ true)
either_true true b h = inl refl
either_true false b h = inr h

pub some_of : {X : Type 0} (o : Option X) → is_some o ≡ true → (x : X) × (o ≡ Some x)
some_of None h = absurd (false≢true h)
some_of (Some x) h = (x, refl)

module _ {X Y : Type 0} (f : Write → Option X) (show : Revision × X → Option Y) (begun : Option Y) (c : Course) (course : IsCourse c) (es : List (Revision × X)) (keeps : KeepsItem f show begun c es) where
  -- an entry that a bound sees is done
  pub entry_done : (r : Revision) (x : X) → of_revision es r ≡ Some x → (c.flying r ≡ true → edit_in c r ≡ None → ⊥) → is_done c r ≡ true
  entry_done r x at calm = by (edit_in c r) refl (c.old r) refl (c.flying r) refl
    where
      by : (o : Option (List Write)) → edit_in c r ≡ o → (b : Bool) → c.old r ≡ b → (d : Bool) → c.flying r ≡ d → (is_some o || b) ≡ true
      by (Some ws) e b k d h = refl
      by None e true k d h = refl
      by None e false k true h = absurd (calm h e)
      by None e false k false h = absurd (some_none _ x at (keeps.none_else r e k h))

  -- an entry that is done is a write, or was there from the beginning
  wrote : (r : Revision) (x : X) → of_revision es r ≡ Some x → is_done c r ≡ true → (option_and_then (written f) (edit_in c r) ≡ Some x) ⊎ (c.old r ≡ true)
  wrote r x at done = by (edit_in c r) refl done
    where
      by : (o : Option (List Write)) → edit_in c r ≡ o → (is_some o || c.old r) ≡ true → (option_and_then (written f) o ≡ Some x) ⊎ (c.old r ≡ true)
      by (Some ws) e h = inl (keeps.genuine r ws x e at)
      by None e h = inr h

  module _ (s : Sight) (wider : (r : Revision) → c.bound r ≡ true → s r ≡ true) (down : IsWrittenBelow c c.bound f) where
    abbrev test : Revision → Bool
    test r = s r && is_done c r

    abbrev told : Sight → Revision → Option X
    told s r = writing f s (of_revision c.commits r) r

    -- what passes is seen, done, and stands
    passed : (q : Revision) (y : X) → passing test es q ≡ Some y → (s q ≡ true) × (is_done c q ≡ true) × (of_revision es q ≡ Some y)
    passed q y h =
        let p = cond_some (test q) (of_revision es q) y h in
        let b = and_both (s q) (is_done c q) p.0 in
        (b.0, b.1, p.1)

    passes : (q : Revision) (y : X) → s q ≡ true → is_done c q ≡ true → of_revision es q ≡ Some y → passing test es q ≡ Some y
    passes q y seen done at = ap (λ b. cond b (of_revision es q) None) (ap (λ b. b && is_done c q) seen ∙ done) ∙ at

    -- a write that is seen is what the commits tell
    tells : (g : Sight) (q : Revision) (y : X) → g q ≡ true → option_and_then (written f) (edit_in c q) ≡ Some y → told g q ≡ Some y
    tells g q y seen at = ap (λ b. cond b (option_and_then (written f) (edit_in c q)) None) seen ∙ at

    -- ---- no write is seen

    module _ (silent : (r : Revision) → told s r ≡ None) where
      bound_silent : (r : Revision) → told c.bound r ≡ None
      bound_silent r = is_none _ (λ x h. let p = cond_some (c.bound r) _ x h in some_none _ x (tells s r x (wider r p.0) p.1) (silent r))

      alike : (r : Revision) → passing test es r ≡ passing c.bound es r
      alike r = by (of_revision es r) refl (c.bound r) refl
        where
          at_bound : (x : X) → of_revision es r ≡ Some x → c.bound r ≡ true → passing test es r ≡ Some x
          at_bound x at b = passes r x (wider r b) (entry_done r x at (λ f e. false≢true (sym (course.bound_done r f e) ∙ b))) at

          beyond : (x : X) → of_revision es r ≡ Some x → c.bound r ≡ false → passing test es r ≡ None
          beyond x at b = is_none _ (λ y h.
              let p = passed r y h in
              (elim (wrote r x at p.1) [
                | inl w ↦ some_none _ x (tells s r x p.0 w) (silent r)
                | inr o ↦ false≢true (sym b ∙ course.old_bound r o)
              ]))

          by : (o : Option X) → of_revision es r ≡ o → (b : Bool) → c.bound r ≡ b → passing test es r ≡ passing c.bound es r
          by None at b h = ap (λ o. cond (test r) o None) at ∙ (cond_none (test r) ∙ sym (ap (λ o. cond (c.bound r) o None) at ∙ cond_none (c.bound r)))
          by (Some x) at true h = at_bound x at h ∙ sym (ap (λ b. cond b (of_revision es r) None) h ∙ at)
          by (Some x) at false h = beyond x at h ∙ sym (ap (λ b. cond b (of_revision es r) None) h)

      pub matches_none : Matches show begun None (latest (filter (λ e. test e.0) es))
      matches_none =
          let none : last_entry f c.bound c.commits ≡ None = only_entry (told c.bound) (told c.bound) (λ r. refl) _ None (last_entry_last f c.bound c.commits course.falls) bound_silent in
          let one : latest (filter (λ e. test e.0) es) ≡ latest (filter (λ e. c.bound e.0) es) = only_entry _ _ alike _ _ (latest_of test es) (latest_of c.bound es) in
          ap (option_and_then show) one ∙ subst (λ o. Matches show begun o (latest (filter (λ e. c.bound e.0) es))) none keeps.last

    -- ---- the last write that is seen

    module _ (r : Revision) (x : X) (seen : s r ≡ true) (writes : option_and_then (written f) (edit_in c r) ≡ Some x) (greatest : (q : Revision) → is_some (told s q) ≡ true → is_at_most q r ≡ true) where
      edited : (ws : List Write) × (edit_in c r ≡ Some ws)
      edited = by (edit_in c r) refl writes
        where
          by : (o : Option (List Write)) → edit_in c r ≡ o → option_and_then (written f) o ≡ Some x → (ws : List Write) × (edit_in c r ≡ Some ws)
          by None e h = absurd (false≢true (ap is_some h))
          by (Some ws) e h = (ws, e)

      written_there : written f edited.0 ≡ Some x
      written_there = sym (ap (option_and_then (written f)) edited.1) ∙ writes

      below : (q : Revision) → is_some (passing test es q) ≡ true → is_at_most q r ≡ true
      below q h =
          let y = some_of (passing test es q) h in
          let p = passed q y.0 y.1 in
          elim (wrote q y.0 p.2 p.1) [
            | inl w ↦ greatest q (ap is_some (tells s q y.0 p.0 w))
            | inr o ↦ before_at_most q r (course.old_first q r edited.0 o edited.1)
          ]

      done : is_done c r ≡ true
      done = ap (λ o. is_some o || c.old r) edited.1

      standing : of_revision es r ≡ Some x → latest (filter (λ e. test e.0) es) ≡ Some (r, x)
      standing at = only_entry (passing test es) (passing test es) (λ q. refl) _ (Some (r, x)) (latest_of test es) (passes r x seen done at, below)

      last_bound : c.bound r ≡ true → last_entry f c.bound c.commits ≡ Some (r, x)
      last_bound b = only_entry (told c.bound) (told c.bound) (λ q. refl) _ (Some (r, x)) (last_entry_last f c.bound c.commits course.falls)
          (tells c.bound r x b writes, λ q h. let y = some_of (told c.bound q) h in let p = cond_some (c.bound q) _ y.0 y.1 in greatest q (ap is_some (tells s q y.0 (wider q p.0) p.1)))

      -- it stands no more: nothing else does
      dropped : c.bound r ≡ true → latest (filter (λ e. c.bound e.0) es) ≡ None → latest (filter (λ e. test e.0) es) ≡ None
      dropped b none = only_entry (passing test es) (passing test es) (λ q. refl) _ None (latest_of test es) (λ q. is_none _ (λ y h. impossible q y h))
        where
          nothing : (q : Revision) → passing c.bound es q ≡ None
          nothing = subst (λ o. IsLastEntry (passing c.bound es) o) none (latest_of c.bound es)

          unbound : (q : Revision) (y : X) → of_revision es q ≡ Some y → c.bound q ≡ true → ⊥
          unbound q y at k = some_none _ y (ap (λ b. cond b (of_revision es q) None) k ∙ at) (nothing q)

          impossible : (q : Revision) (y : X) → passing test es q ≡ Some y → ⊥
          impossible q y h =
              let p = passed q y h in
              elim (wrote q y p.2 p.1) [
                | inl w ↦ unbound q y p.2 (by (edit_in c q) refl w (is_before q r) refl)
                | inr o ↦ unbound q y p.2 (course.old_bound q o)
              ]
            where
              by : (o : Option (List Write)) → edit_in c q ≡ o → option_and_then (written f) o ≡ Some y → (b : Bool) → is_before q r ≡ b → c.bound q ≡ true
              by None e w b k = absurd (false≢true (ap is_some w))
              by (Some us) e w true k = down r q edited.0 us edited.1 e (ap is_some written_there) (ap is_some w) k b
              by (Some us) e w false k =
                  let one : q ≡ r = at_most_both q r (below q (ap is_some h)) (not_before q r k) in
                  subst (λ (z : Revision). c.bound z ≡ true) (sym one) b

      pub matches_some : Matches show begun (Some (r, x)) (latest (filter (λ e. test e.0) es))
      matches_some = by (c.bound r) refl
        where
          at_bound : c.bound r ≡ true → Matches show begun (Some (r, x)) (latest (filter (λ e. c.bound e.0) es)) → Matches show begun (Some (r, x)) (latest (filter (λ e. test e.0) es))
          at_bound b (inl h) = inl (standing (cond_some (c.bound r) _ x (subst (λ o. IsLastEntry (passing c.bound es) o) h (latest_of c.bound es)).0).1)
          at_bound b (inr h) = inr (h.0, dropped b h.1)

          by : (b : Bool) → c.bound r ≡ b → Matches show begun (Some (r, x)) (latest (filter (λ e. test e.0) es))
          by false b = inl (standing (keeps.exact r edited.0 edited.1 b ∙ written_there))
          by true b = at_bound b (subst (λ o. Matches show begun o (latest (filter (λ e. c.bound e.0) es))) (last_bound b) keeps.last)

    -- the entries that are seen match the commits that are seen
    pub matches : Matches show begun (last_entry f s c.commits) (latest (filter (λ e. s e.0 && is_done c e.0) es))
    matches = by (last_entry f s c.commits) (last_entry_last f s c.commits course.falls)
      where
        by : (o : Option (Revision × X)) → IsLastEntry (told s) o → Matches show begun o (latest (filter (λ e. test e.0) es))
        by None l = matches_none l
        by (Some e) l = let p = cond_some (s e.0) _ e.1 l.0 in matches_some e.0 e.1 p.0 p.1 l.1
