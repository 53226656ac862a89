-- One item: what its entries keep, over changes of them and of what the journal tells.
use Rattle.std.proofs.Common.{◌≡◌, ◌⊎◌, inl, inr, Bool, true, false, cond, ◌&&◌, Some, None, Option, List, refl, sym, ap, ◌∙◌, subst, is_some}
use Rattle.std.specs.Option.{option_and_then}
use Rattle.std.specs.Ordering.{eq_by_cmp}
use Rattle.std.specs.List.{filter}
use mathlib.Core.Bool.{false≢true}
use Rattle.jr_rev.specs.declared.revision.Revision.{Revision}
use Rattle.jr_rev.specs.Revisions.{revision_cmp, is_before, is_at_most}
use Rattle.jr_tree.specs.declared.edit.Write.{Write}
use Rattle.jr_tree.specs.Items.{written}
use Rattle.oak_doc.specs.Updates.{of_revision}
use Rattle.oak_read.specs.Meaning.{latest}
use Rattle.core_read.specs.Commits.{Commits, Sight, last_entry, Fall}
use Rattle.core_read.proofs.Latest.{same_revision, before_itself, at_most_both, before_at_most, IsLastEntry, only_entry, passing, writing, last_entry_last}
use Rattle.core_keep.specs.Keeps.{Course, edit_in, is_done, Matches, KeepsItem, IsWrittenBelow, IsCourse}
use Rattle.core_keep.proofs.Item.{latest_of, is_none, cond_some, not_true, some_of, matches, entry_done}

-- the same of a sight have the same last entry
pub same_latest : {X : Type 0} (s : Sight) (es left : List (Revision × X)) → ((q : Revision) → s q ≡ true → of_revision left q ≡ of_revision es q) → latest (filter (λ e. s e.0) left) ≡ latest (filter (λ e. s e.0) es)
same_latest {X} s es left same = only_entry (passing s left) (passing s es) (λ q. by q (s q) refl) _ _ (latest_of s left) (latest_of s es)
  where
    by : (q : Revision) (b : Bool) → s q ≡ b → cond b (of_revision left q) None ≡ cond b (of_revision es q) None
    by q true h = same q h
    by q false h = refl

module _ {X Y : Type 0} (f : Write → Option X) (show : Revision × X → Option Y) (begun : Option Y) (c : Course) (es left : List (Revision × X)) (keeps : KeepsItem f show begun c es) where
  -- entries of revisions that are neither done nor seen by a bound, but in flight, may change
  pub item_besides : (own : Sight) → ((q : Revision) → own q ≡ true → (edit_in c q ≡ None) × (c.flying q ≡ true) × (c.bound q ≡ false)) → ((q : Revision) → own q ≡ false → of_revision left q ≡ of_revision es q) → KeepsItem f show begun c left
  item_besides own open_ same = record {
    exact = λ q ws e b. at q (edited q ws e) ∙ keeps.exact q ws e b;
    genuine = λ q ws x e h. keeps.genuine q ws x e (sym (at q (edited q ws e)) ∙ h);
    none_else = λ q e o g. at q (not_true (own q) (λ h. false≢true (sym g ∙ (open_ q h).1))) ∙ keeps.none_else q e o g;
    last = subst (λ o. Matches show begun (last_entry f c.bound c.commits) o) (sym (same_latest c.bound es left (λ q b. at q (not_true (own q) (λ h. false≢true (sym (open_ q h).2 ∙ b)))))) keeps.last;
  }
    where
      at : (q : Revision) → own q ≡ false → of_revision left q ≡ of_revision es q
      at = same

      edited : (q : Revision) (ws : List Write) → edit_in c q ≡ Some ws → own q ≡ false
      edited q ws e = not_true (own q) (λ h. false≢true (ap is_some (sym (open_ q h).0 ∙ e)))

  -- entries that went: a bound sees each, and a later one that stands
  pub item_left : ((q : Revision) → (of_revision left q ≡ of_revision es q) ⊎ ((c.bound q ≡ true) × ((r : Revision) × (is_before q r ≡ true) × (c.bound r ≡ true) × (is_some (of_revision left r) ≡ true))))
      → ((q : Revision) → is_some (of_revision left q) ≡ true → is_some (of_revision es q) ≡ true)
      → ((r : Revision) (ws : List Write) (x : X) → edit_in c r ≡ Some ws → of_revision left r ≡ Some x → written f ws ≡ Some x)
      → KeepsItem f show begun c left
  item_left each sub genuine = record {
    exact = λ q ws e b. elim (each q) [ inl same ↦ same ∙ keeps.exact q ws e b | inr gone ↦ absurd (false≢true (sym b ∙ gone.0)) ];
    genuine = genuine;
    none_else = λ q e o g. is_none _ (λ x h. false≢true (sym (ap is_some (keeps.none_else q e o g)) ∙ sub q (ap is_some h)));
    last = subst (λ o. Matches show begun (last_entry f c.bound c.commits) o) (sym one) keeps.last;
  }
    where
      passes : (l : List (Revision × X)) (q : Revision) → c.bound q ≡ true → is_some (of_revision l q) ≡ true → is_some (passing c.bound l q) ≡ true
      passes l q b h = ap (λ b. is_some (cond b (of_revision l q) None)) b ∙ h

      still : (q : Revision) → is_some (passing c.bound left q) ≡ true → is_some (passing c.bound es q) ≡ true
      still q h =
          let y = some_of (passing c.bound left q) h in
          let p = cond_some (c.bound q) (of_revision left q) y.0 y.1 in
          passes es q p.0 (sub q (ap is_some p.1))

      top : (o : Option (Revision × X)) → IsLastEntry (passing c.bound es) o → IsLastEntry (passing c.bound left) o
      top None l = λ q. is_none _ (λ x h. false≢true (sym (ap is_some (l q)) ∙ still q (ap is_some h)))
      top (Some e) l = (stands (each e.0), λ q h. l.1 q (still q h))
        where
          seen : (c.bound e.0 ≡ true) × (of_revision es e.0 ≡ Some e.1)
          seen = cond_some (c.bound e.0) (of_revision es e.0) e.1 l.0

          later : (r : Revision) → is_before e.0 r ≡ true → is_at_most r e.0 ≡ true → ⊥
          later r b m = false≢true (sym (before_itself e.0) ∙ subst (λ (z : Revision). is_before e.0 z ≡ true) (at_most_both r e.0 m (before_at_most e.0 r b)) b)

          stands : (of_revision left e.0 ≡ of_revision es e.0) ⊎ ((c.bound e.0 ≡ true) × ((r : Revision) × (is_before e.0 r ≡ true) × (c.bound r ≡ true) × (is_some (of_revision left r) ≡ true))) → passing c.bound left e.0 ≡ Some e.1
          stands (inl same) = ap (λ b. cond b (of_revision left e.0) None) seen.0 ∙ (same ∙ seen.1)
          stands (inr gone) = absurd (later (gone.1).0 (gone.1).1 (l.1 (gone.1).0 (still (gone.1).0 (passes left (gone.1).0 (gone.1).2 (gone.1).3))))

      one : latest (filter (λ e. c.bound e.0) left) ≡ latest (filter (λ e. c.bound e.0) es)
      one = only_entry (passing c.bound left) (passing c.bound left) (λ q. refl) _ _ (latest_of c.bound left) (top _ (latest_of c.bound es))

-- ---- what the journal tells

module _ {X Y : Type 0} (f : Write → Option X) (show : Revision × X → Option Y) (begun : Option Y) (c : Course) (es : List (Revision × X)) (keeps : KeepsItem f show begun c es) where
  -- others are in flight: what isn't any more, and isn't committed, has left nothing
  pub item_flying : (flying : Sight) → ((q : Revision) → edit_in c q ≡ None → c.old q ≡ false → flying q ≡ false → of_revision es q ≡ None) → KeepsItem f show begun (record c { flying = flying }) es
  item_flying flying left = record { exact = keeps.exact; genuine = keeps.genuine; none_else = left; last = keeps.last }

  -- one edit more, of a revision in flight that no bound sees, which has its entries
  pub item_commit : (r : Revision) (ws : List Write) (commits : Commits) → Fall c.commits → Fall commits → c.bound r ≡ false → of_revision commits r ≡ Some ws → ((q : Revision) → eq_by_cmp revision_cmp q r ≡ false → of_revision commits q ≡ edit_in c q)
      → of_revision es r ≡ written f ws → KeepsItem f show begun (record c { commits = commits }) es
  item_commit r ws commits fall falls unbound own other at = record {
    exact = λ q us e b. by q us (eq_by_cmp revision_cmp q r) refl e (λ k. keeps.exact q us k b) (λ one. one);
    genuine = λ q us x e h. by_genuine q us x h (eq_by_cmp revision_cmp q r) refl e;
    none_else = λ q e o g. keeps.none_else q (sym (other q (not_true _ (λ k. false≢true (ap is_some (sym e ∙ (ap (of_revision commits) (same_revision q r k) ∙ own)))))) ∙ e) o g;
    last = subst (λ o. Matches show begun o (latest (filter (λ e. c.bound e.0) es))) (sym same_last) keeps.last;
  }
    where
      value : (us : List Write) → of_revision commits r ≡ Some us → written f ws ≡ written f us
      value us e = ap (option_and_then (written f)) (sym own ∙ e)

      by : (q : Revision) (us : List Write) (b : Bool) → eq_by_cmp revision_cmp q r ≡ b → of_revision commits q ≡ Some us → (edit_in c q ≡ Some us → of_revision es q ≡ written f us) → ((x : of_revision es q ≡ written f us) → of_revision es q ≡ written f us) → of_revision es q ≡ written f us
      by q us true k e old same = ap (of_revision es) (same_revision q r k) ∙ (at ∙ value us (ap (of_revision commits) (sym (same_revision q r k)) ∙ e))
      by q us false k e old same = old (sym (other q k) ∙ e)

      by_genuine : (q : Revision) (us : List Write) (x : X) → of_revision es q ≡ Some x → (b : Bool) → eq_by_cmp revision_cmp q r ≡ b → of_revision commits q ≡ Some us → written f us ≡ Some x
      by_genuine q us x h true k e = sym (value us (ap (of_revision commits) (sym (same_revision q r k)) ∙ e)) ∙ (sym at ∙ (ap (of_revision es) (sym (same_revision q r k)) ∙ h))
      by_genuine q us x h false k e = keeps.genuine q us x (sym (other q k) ∙ e) h

      told : (q : Revision) (b : Bool) → c.bound q ≡ b → (k : Bool) → eq_by_cmp revision_cmp q r ≡ k → cond b (option_and_then (written f) (of_revision commits q)) None ≡ cond b (option_and_then (written f) (edit_in c q)) None
      told q false h k m = refl
      told q true h true m = absurd (false≢true (sym unbound ∙ (ap c.bound (sym (same_revision q r m)) ∙ h)))
      told q true h false m = ap (option_and_then (written f)) (other q m)

      same_last : last_entry f c.bound commits ≡ last_entry f c.bound c.commits
      same_last = only_entry (λ q. writing f c.bound (of_revision commits q) q) (λ q. writing f c.bound (of_revision c.commits q) q) (λ q. told q (c.bound q) refl (eq_by_cmp revision_cmp q r) refl) _ _ (last_entry_last f c.bound commits falls) (last_entry_last f c.bound c.commits fall)

  -- bounds that see more
  pub item_bound : IsCourse c → (bound swept : Sight) → ((r : Revision) → c.bound r ≡ true → bound r ≡ true) → ((r : Revision) → c.flying r ≡ true → edit_in c r ≡ None → bound r ≡ false) → IsWrittenBelow c c.bound f → KeepsItem f show begun (record c { bound = bound; swept = swept }) es
  item_bound course bound swept wider calm down = record {
    exact = λ q ws e b. keeps.exact q ws e (not_true (c.bound q) (λ h. false≢true (sym b ∙ wider q h)));
    genuine = keeps.genuine;
    none_else = keeps.none_else;
    last = subst (λ o. Matches show begun (last_entry f bound c.commits) o) one (matches f show begun c course es keeps bound wider down);
  }
    where
      one : latest (filter (λ e. bound e.0 && is_done c e.0) es) ≡ latest (filter (λ e. bound e.0) es)
      one = only_entry (passing (λ r. bound r && is_done c r) es) (passing bound es) (λ q. by q (bound q) refl (of_revision es q) refl) _ _ (latest_of (λ r. bound r && is_done c r) es) (latest_of bound es)
        where
          none : (b : Bool) → ◌≡◌ {A = Option X} (cond b None None) None
          none true = refl
          none false = refl

          by : (q : Revision) (b : Bool) → bound q ≡ b → (o : Option X) → of_revision es q ≡ o → cond (b && is_done c q) o None ≡ cond b o None
          by q false h o k = refl
          by q true h None k = none (is_done c q)
          by q true h (Some x) k = ap (λ b. cond b (Some x) None) (entry_done f show begun c course es keeps q x k (λ g e. false≢true (sym (calm q g e) ∙ h)))
