-- One item: its entries tell the changes of the new commits that write it.
use Rattle.std.proofs.Common.{◌≡◌, inl, inr, Bool, true, false, cond, not, ◌&&◌, ◌||◌, Some, None, Option, List, [], ◌∷◌, map, refl, sym, ap, ◌∙◌, subst, is_some}
use Rattle.std.specs.Prelude.{unwrap_or}
use Rattle.std.specs.Option.{option_and_then, option_map, option_map_or}
use Rattle.std.specs.Ordering.{eq_by_cmp}
use Rattle.std.specs.List.{filter}
use Rattle.std.specs.Map.{keys_of}
use mathlib.Core.Bool.{false≢true}
use Rattle.jr_rev.specs.declared.revision.Revision.{Revision}
use Rattle.jr_rev.specs.declared.vector.RevVec.{RevVec}
use Rattle.jr_rev.specs.Revisions.{revision_cmp, is_at_most, is_before}
use Rattle.jr_rev.specs.Vectors.{sees}
use Rattle.jr_tree.specs.declared.edit.Write.{Write}
use Rattle.jr_tree.specs.Items.{written}
use Rattle.oak_changes.specs.Saying.{is_there, States, states_before, was_there}
use Rattle.oak_doc.specs.Updates.{of_revision}
use Rattle.oak_machine.specs.History.{Past}
use Rattle.oak_read.specs.Meaning.{latest, later_of}
use Rattle.core_keep.proofs.Found.{found_first, same_filter}
use Rattle.core_keep.proofs.Item.{and_both, either_true, not_true, some_of}
use Rattle.core_keep.proofs.Shown.{shown}
use Rattle.core_keep.specs.From.{course_from}
use Rattle.core_keep.specs.Journal.{Separate}
use Rattle.core_begun.specs.Kept.{AreSeparateSince}
use Rattle.core_keep.specs.Keeps.{edit_in, is_done, Matches}
use Rattle.core_begun.proofs.Sound.{found}
use Rattle.core_read.proofs.Latest.{at_most_both, at_most_trans, before_at_most, not_before, same_revision, before_itself}
use Rattle.core_read.specs.Commits.{last_entry}
use Rattle.core_begun.specs.Told.{edit_since}
use Rattle.core_read.specs.Told.{IsIn}
use Rattle.core_begun.specs.Told.{IsInUseSince, IsToldSince}
use Rattle.core_changes.proofs.Below.{same_below, sees_below}
use Rattle.core_changes.proofs.Cuts.{cut, cut_between, cut_commits, cut_place}
use Rattle.core_changes.specs.Between.{is_new, IsBetween}
use Rattle.oak_machine.specs.declared.event.Start.{Start}

-- ---- states of entries

module _ {X : Type 0} (there : X → Bool) where
  abbrev pub state : Revision × X → Revision × Bool
  state e = (e.0, there e.1)

  state_at : (es : List (Revision × X)) (r : Revision) → of_revision (map state es) r ≡ option_map there (of_revision es r)
  state_at [] r = refl
  state_at (e ∷ es) r = ap (cond (eq_by_cmp revision_cmp r e.0) (Some (there e.1))) (state_at es r) ∙ by (eq_by_cmp revision_cmp r e.0)
    where
      by : (b : Bool) → cond b (Some (there e.1)) (option_map there (of_revision es r)) ≡ option_map there (cond b (Some e.1) (of_revision es r))
      by true = refl
      by false = refl

  later_state : (e : Revision × X) (o : Option (Revision × X)) → later_of (state e) (option_map state o) ≡ state (later_of e o)
  later_state e None = refl
  later_state e (Some f) = by (is_before e.0 f.0)
    where
      by : (b : Bool) → cond b (state f) (state e) ≡ state (cond b f e)
      by true = refl
      by false = refl

  latest_state : (es : List (Revision × X)) → latest (map state es) ≡ option_map state (latest es)
  latest_state [] = refl
  latest_state (e ∷ es) = ap (λ o. Some (later_of (state e) o)) (latest_state es) ∙ ap Some (later_state e (latest es))

  filter_state : (test : Revision → Bool) (es : List (Revision × X)) → filter (λ e. test e.0) (map state es) ≡ map state (filter (λ e. test e.0) es)
  filter_state test [] = refl
  filter_state test (e ∷ es) = ap (λ (l : States). cond (test e.0) (state e ∷ l) l) (filter_state test es) ∙ by (test e.0)
    where
      by : (b : Bool) → cond b (state e ∷ map state (filter (λ e. test e.0) es)) (map state (filter (λ e. test e.0) es)) ≡ map state (cond b (e ∷ filter (λ e. test e.0) es) (filter (λ e. test e.0) es))
      by true = refl
      by false = refl

  filter_twice : (s u : Revision → Bool) (es : List (Revision × X)) → filter (λ e. u e.0) (filter (λ e. s e.0) es) ≡ filter (λ e. s e.0 && u e.0) es
  filter_twice s u [] = refl
  filter_twice s u (e ∷ es) = by (s e.0) ∙ ap (λ (l : List (Revision × X)). cond (s e.0 && u e.0) (e ∷ l) l) (filter_twice s u es)
    where
      rest : List (Revision × X)
      rest = filter (λ e. u e.0) (filter (λ e. s e.0) es)

      by : (b : Bool) → filter (λ e. u e.0) (cond b (e ∷ filter (λ e. s e.0) es) (filter (λ e. s e.0) es)) ≡ cond (b && u e.0) (e ∷ filter (λ e. u e.0) (filter (λ e. s e.0) es)) (filter (λ e. u e.0) (filter (λ e. s e.0) es))
      by true = refl
      by false = refl

  pub filter_at : (s : Revision → Bool) (es : List (Revision × X)) (r : Revision) → of_revision (filter (λ e. s e.0) es) r ≡ cond (s r) (of_revision es r) None
  filter_at s [] r = none (s r)
    where
      none : (b : Bool) → ◌≡◌ {A = Option X} None (cond b None None)
      none true = refl
      none false = refl
  filter_at s (e ∷ es) r = by (s e.0) refl (eq_by_cmp revision_cmp r e.0) refl (filter_at s es r)
    where
      by : (b : Bool) → s e.0 ≡ b → (d : Bool) → eq_by_cmp revision_cmp r e.0 ≡ d → of_revision (filter (λ e. s e.0) es) r ≡ cond (s r) (of_revision es r) None
          → of_revision (cond b (e ∷ filter (λ e. s e.0) es) (filter (λ e. s e.0) es)) r ≡ cond (s r) (cond (eq_by_cmp revision_cmp r e.0) (Some e.1) (of_revision es r)) None
      by true h true k rest =
          ap (λ d. cond d (Some e.1) (of_revision (filter (λ e. s e.0) es) r)) k
          ∙ sym (ap (λ b. cond b (cond (eq_by_cmp revision_cmp r e.0) (Some e.1) (of_revision es r)) None) (ap s (same_revision r e.0 k) ∙ h) ∙ ap (λ d. cond d (Some e.1) (of_revision es r)) k)
      by true h false k rest =
          ap (λ d. cond d (Some e.1) (of_revision (filter (λ e. s e.0) es) r)) k
          ∙ (rest ∙ sym (ap (λ d. cond (s r) (cond d (Some e.1) (of_revision es r)) None) k))
      by false h true k rest =
          let out : s r ≡ false = ap s (same_revision r e.0 k) ∙ h in
          rest ∙ (ap (λ b. cond b (of_revision es r) None) out ∙ sym (ap (λ b. cond b (cond (eq_by_cmp revision_cmp r e.0) (Some e.1) (of_revision es r)) None) out))
      by false h false k rest = rest ∙ sym (ap (λ d. cond (s r) (cond d (Some e.1) (of_revision es r)) None) k)

pub key_found : {X : Type 0} (es : List (Revision × X)) (r : Revision) → IsIn r (keys_of es) → is_some (of_revision es r) ≡ true
key_found [] r i = absurd i
key_found {X} (e ∷ es) r (inl one) = ap is_some (subst (λ (z : Revision). of_revision (e ∷ es) z ≡ Some e.1) one (found_first e es))
key_found {X} (e ∷ es) r (inr i) = by (eq_by_cmp revision_cmp r e.0) (key_found es r i)
  where
    by : (b : Bool) → is_some (of_revision es r) ≡ true → is_some (cond b (Some e.1) (of_revision es r)) ≡ true
    by true rest = refl
    by false rest = rest

pub found_key : {X : Type 0} (es : List (Revision × X)) (r : Revision) → is_some (of_revision es r) ≡ true → IsIn r (keys_of es)
found_key [] r h = absurd (false≢true h)
found_key {X} (e ∷ es) r h = by (eq_by_cmp revision_cmp r e.0) refl h (λ k. found_key es r k)
  where
    by : (b : Bool) → eq_by_cmp revision_cmp r e.0 ≡ b → is_some (cond b (Some e.1) (of_revision es r)) ≡ true → (is_some (of_revision es r) ≡ true → IsIn r (keys_of es)) → IsIn r (keys_of (e ∷ es))
    by true k h rest = inl (sym (same_revision r e.0 k))
    by false k h rest = inr (rest h)

-- ---- the item

module _ (start : Start) where
  module _ {X Y : Type 0} (f : Write → Option X) (apart : (ws us : List Write) → Separate ws us → is_some (written f ws) ≡ true → written f us ≡ None)
      (show : Revision × X → Option Y) (there : X → Bool) (shows : (e : Revision × X) → is_some (show e) ≡ there e.1)
      (past : Past) (told : IsToldSince start past) (separate : AreSeparateSince past) (from to : RevVec) (less : IsInUseSince start past from) (more : IsInUseSince start past to) (below : (q : Revision) → sees from q ≡ true → sees to q ≡ true)
      (begun : Option Y) (es : List (Revision × X))
      (exact : (r : Revision) (ws : List Write) → edit_since past r ≡ Some ws → is_new from to r ≡ true → of_revision es r ≡ written f ws)
      (done : (q : Revision) → sees to q ≡ true → is_some (of_revision es q) ≡ true → is_done (course_from start past) q ≡ true)
      (matches : (v : RevVec) → IsBetween past from to v → Matches show begun (last_entry f (sees v) (course_from start past).commits) (latest (filter (λ e. sees v e.0) es))) where
    abbrev pub states : States
    states = map (state there) (filter (λ e. sees to e.0) es)

    states_at : (r : Revision) → of_revision states r ≡ cond (sees to r) (option_map there (of_revision es r)) None
    states_at r = state_at there (filter (λ e. sees to e.0) es) r ∙ (ap (option_map there) (filter_at there (sees to) es r) ∙ by (sees to r))
      where
        by : (b : Bool) → option_map there (cond b (of_revision es r) None) ≡ cond b (option_map there (of_revision es r)) None
        by true = refl
        by false = refl

    unseen : (b : Bool) → not b ≡ true → b ≡ false
    unseen true h = absurd (false≢true h)
    unseen false h = refl

    -- what is done and `from` doesn't see is committed
    committed : (q : Revision) → is_done (course_from start past) q ≡ true → sees from q ≡ false → (ws : List Write) × (edit_since past q ≡ Some ws)
    committed q h out = elim (either_true (is_some (edit_in (course_from start past) q)) (sees start.at q) h) [
      | inl e ↦ some_of (edit_since past q) (sym (ap is_some (found past q)) ∙ e)
      | inr old ↦ absurd (false≢true (sym out ∙ less.begun q old))
    ]

    -- a new revision of a state is a commit that writes the item
    pub state_written : (r : Revision) → IsIn r (keys_of states) → not (sees from r) ≡ true → (ws : List Write) × (x : X) × (edit_since past r ≡ Some ws) × (is_new from to r ≡ true) × (written f ws ≡ Some x)
    state_written r i out = by (sees to r) refl (of_revision es r) refl (sym (ap is_some (states_at r)) ∙ key_found states r i)
      where
        by : (b : Bool) → sees to r ≡ b → (o : Option X) → of_revision es r ≡ o → is_some (cond b (option_map there o) None) ≡ true → (ws : List Write) × (x : X) × (edit_since past r ≡ Some ws) × (is_new from to r ≡ true) × (written f ws ≡ Some x)
        by false h o k s = absurd (false≢true s)
        by true h None k s = absurd (false≢true s)
        by true h (Some x) k s =
            let ws = committed r (done r h (ap is_some k)) (unseen (sees from r) out) in
            let new : is_new from to r ≡ true = ap (λ b. b && not (sees from r)) h ∙ out in
            (ws.0, x, ws.1, new, sym (exact r ws.0 ws.1 new) ∙ k)

    module _ (r : Revision) (ws : List Write) (x : X) (is : edit_since past r ≡ Some ws) (new : is_new from to r ≡ true) (writes : written f ws ≡ Some x) where
      seen : sees to r ≡ true
      seen = (and_both (sees to r) (not (sees from r)) new).0

      here : of_revision states r ≡ Some (there x)
      here = states_at r ∙ (ap (λ b. cond b (option_map there (of_revision es r)) None) seen ∙ ap (option_map there) (exact r ws is new ∙ writes))

      -- and each such commit has a state
      pub written_state : IsIn r (keys_of states)
      written_state = found_key states r (ap is_some here)

      pub after_is : is_there r states ≡ there x
      after_is = ap (λ o. unwrap_or o false) here

      down : (q s : Revision) → is_at_most q s ≡ true → is_before s r ≡ true → is_before q r ≡ true
      down q s low h = by (is_before q r) refl
        where
          by : (b : Bool) → is_before q r ≡ b → b ≡ true
          by true k = refl
          by false k =
              let one : s ≡ r = at_most_both s r (before_at_most s r h) (at_most_trans r q s (not_before q r k) low) in
              absurd (false≢true (sym (before_itself r) ∙ subst (λ (z : Revision). is_before z r ≡ true) one h))

      abbrev v : RevVec
      v = cut start past told from to less more below (λ q. is_before q r) down

      between : IsBetween past from to v
      between = cut_between start past told from to less more below (λ q. is_before q r) down

      sees_cut : (q : Revision) (us : List Write) → edit_since past q ≡ Some us → sees v q ≡ (sees to q && (sees from q || is_before q r))
      sees_cut q us e = by (sees v q) refl (sees to q) refl (sees from q) refl (is_before q r) refl
        where
          by : (a : Bool) → sees v q ≡ a → (b : Bool) → sees to q ≡ b → (c : Bool) → sees from q ≡ c → (d : Bool) → is_before q r ≡ d → a ≡ (b && (c || d))
          by true h false k c l d m = absurd (false≢true (sym k ∙ between.high q h))
          by true h true k true l d m = refl
          by true h true k false l true m = refl
          by true h true k false l false m = elim (cut_place start past told from to less more below (λ q. is_before q r) down q h) [ inl s ↦ absurd (false≢true (sym l ∙ s)) | inr s ↦ absurd (false≢true (sym m ∙ s)) ]
          by false h false k c l d m = refl
          by false h true k true l d m = absurd (false≢true (sym h ∙ between.low q l))
          by false h true k false l true m = absurd (false≢true (sym h ∙ cut_commits start past told from to less more below (λ q. is_before q r) down q us e k m))
          by false h true k false l false m = refl

      -- the states before it are what the vector just below it sees
      before_states : latest (states_before from r states) ≡ option_map (state there) (latest (filter (λ e. sees v e.0) es))
      before_states =
          ap latest (filter_state there (λ q. sees from q || is_before q r) (filter (λ e. sees to e.0) es))
          ∙ (latest_state there (filter (λ e. sees from e.0 || is_before e.0 r) (filter (λ e. sees to e.0) es))
          ∙ ap (λ (l : List (Revision × X)). option_map (state there) (latest l)) (filter_twice there (sees to) (λ q. sees from q || is_before q r) es ∙ sym (same_filter (sees v) (λ q. sees to q && (sees from q || is_before q r)) es (λ q h. each q h (sees to q) refl))))
        where
          each : (q : Revision) → is_some (of_revision es q) ≡ true → (b : Bool) → sees to q ≡ b → sees v q ≡ (sees to q && (sees from q || is_before q r))
          each q h true k = by (sees from q) refl
            where
              by : (c : Bool) → sees from q ≡ c → sees v q ≡ (sees to q && (sees from q || is_before q r))
              by false l = let us = committed q (done q k h) l in sees_cut q us.0 us.1
              by true l = between.low q l ∙ sym (ap (λ b. b && (sees from q || is_before q r)) k ∙ ap (λ b. b || is_before q r) l)
          each q h false k = not_true (sees v q) (λ s. false≢true (sym k ∙ between.high q s)) ∙ sym (ap (λ b. b && (sees from q || is_before q r)) k)

      pub before_is : was_there from r states ≡ is_some (option_map_or show (last_entry f (sees_below to r) (course_from start past).commits) begun)
      before_is =
          ap (λ o. option_map_or (λ e. e.1) o false) before_states
          ∙ (by (latest (filter (λ e. sees v e.0) es))
          ∙ (ap is_some (shown show begun (last_entry f (sees v) (course_from start past).commits) _ (matches v between))
          ∙ ap (λ o. is_some (option_map_or show o begun)) (same_below start f apart past told separate from to v less below r ws x is new writes sees_cut)))
        where
          by : (o : Option (Revision × X)) → option_map_or (λ (e : Revision × Bool). e.1) (option_map (state there) o) false ≡ is_some (option_and_then show o)
          by None = refl
          by (Some e) = sym (shows e)
