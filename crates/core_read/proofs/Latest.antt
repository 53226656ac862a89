-- The last of what stands for revisions: by entries of a document, and by commits in descending order.
use Rattle.std.proofs.Common.{◌≡◌, Bool, true, false, cond, Some, None, Option, List, [], ◌∷◌, ◌++◌, refl, sym, ap, ◌∙◌, subst, is_some}
use Rattle.std.specs.declared.cmp.Ordering.{Ordering}
use Rattle.std.specs.declared.cmp.Ordering.TheVariants.{Less, Equal, Greater}
use Rattle.std.specs.Ordering.{is_eq, is_lt, is_le, eq_by_cmp, ordering_reverse}
use Rattle.std.specs.Cmp.{alike_right, tied_itself}
use Rattle.std.specs.Option.{option_map, option_and_then, option_or, unwrap_or}
use Rattle.std.specs.List.{filter}
use mathlib.Core.Bool.{false≢true}
use Rattle.jr_rev.specs.declared.revision.Revision.{Revision}
use Rattle.jr_rev.specs.Revisions.{revision_cmp, is_before, is_at_most}
use Rattle.jr_rev.proofs.Order.{revision_total, revision_exact}
use Rattle.jr_tree.specs.declared.edit.Write.{Write}
use Rattle.oak_doc.specs.Updates.{of_revision}
use Rattle.oak_read.specs.Meaning.{latest, later_of}
use Rattle.jr_tree.specs.Items.{written}
use Rattle.core_read.specs.Commits.{Commits, Sight, last, last_entry, Each, Fall}
use Rattle.core_read.proofs.Entries.{exactly}

-- ---- the order of revisions

pub same_revision : (q r : Revision) → eq_by_cmp revision_cmp q r ≡ true → q ≡ r
same_revision q r h = revision_exact q r (exactly (revision_cmp q r) h)

le_of : (a b c : Ordering) → is_le a ≡ true → (a ≡ Less → b ≡ Less → c ≡ Less) → (a ≡ Equal → c ≡ b) → (b ≡ Equal → c ≡ a) → is_le b ≡ true → is_le c ≡ true
le_of Less Less c h f g k i = ap is_le (f refl refl)
le_of Less Equal c h f g k i = ap is_le (k refl)
le_of Less Greater c h f g k i = absurd (false≢true i)
le_of Equal b c h f g k i = ap is_le (g refl) ∙ i
le_of Greater b c h f g k i = absurd (false≢true h)

pub at_most_trans : (a b c : Revision) → is_at_most a b ≡ true → is_at_most b c ≡ true → is_at_most a c ≡ true
at_most_trans a b c h k = le_of (revision_cmp a b) (revision_cmp b c) (revision_cmp a c) h (revision_total.trans a b c) (λ e. revision_total.congr a b c e) (λ e. sym (alike_right revision_total b c a e)) k

below_le : (o : Ordering) → is_lt o ≡ true → is_le o ≡ true
below_le Less h = refl
below_le Equal h = absurd (false≢true h)
below_le Greater h = absurd (false≢true h)

pub before_at_most : (a b : Revision) → is_before a b ≡ true → is_at_most a b ≡ true
before_at_most a b h = below_le (revision_cmp a b) h

turned : (o : Ordering) → is_lt o ≡ false → is_le (ordering_reverse o) ≡ true
turned Less h = absurd (false≢true (sym h))
turned Equal h = refl
turned Greater h = refl

pub not_before : (a b : Revision) → is_before a b ≡ false → is_at_most b a ≡ true
not_before a b h = ap is_le (revision_total.antisymm b a) ∙ turned (revision_cmp a b) h

opposite : (o : Ordering) → is_le o ≡ true → is_le (ordering_reverse o) ≡ true → o ≡ Equal
opposite Less h k = absurd (false≢true k)
opposite Equal h k = refl
opposite Greater h k = absurd (false≢true h)

pub at_most_both : (a b : Revision) → is_at_most a b ≡ true → is_at_most b a ≡ true → a ≡ b
at_most_both a b h k = revision_exact a b (opposite (revision_cmp a b) h (sym (ap is_le (revision_total.antisymm b a)) ∙ k))

pub before_itself : (a : Revision) → is_before a a ≡ false
before_itself a = ap is_lt (tied_itself revision_total a)

pub at_most_itself : (a b : Revision) → a ≡ b → is_at_most a b ≡ true
at_most_itself a b e = subst (λ (x : Revision). is_at_most a x ≡ true) e (not_before a a (before_itself a))

-- ---- the last one

-- o is what g has at the greatest revision at which it has something
abbrev pub IsLast : {X : Type 0} → (Revision → Option X) → Option X → Type 0
IsLast g None = (r : Revision) → g r ≡ None
IsLast g (Some x) = (r : Revision) × (g r ≡ Some x) × ((q : Revision) → is_some (g q) ≡ true → is_at_most q r ≡ true)

none_some : {X : Type 0} (o : Option X) (x : X) → o ≡ None → o ≡ Some x → (G : Type 0) → G
none_some o x h k G = absurd (false≢true (ap is_some (sym h ∙ k)))

-- where two functions agree, so do what they have last
pub only : {X : Type 0} (g h : Revision → Option X) → ((r : Revision) → g r ≡ h r) → (a b : Option X) → IsLast g a → IsLast h b → a ≡ b
only g h same None None l m = refl
only g h same None (Some y) l m = none_some (g m.0) y (l m.0) (same m.0 ∙ m.1) _
only g h same (Some x) None l m = none_some (g l.0) x (same l.0 ∙ m l.0) l.1 _
only g h same (Some x) (Some y) l m =
    let one : l.0 ≡ m.0 = at_most_both l.0 m.0 (m.2 l.0 (ap is_some (sym (same l.0) ∙ l.1))) (l.2 m.0 (ap is_some (same m.0 ∙ m.1))) in
    sym l.1 ∙ (same l.0 ∙ (ap h one ∙ m.1))

pub last_moved : {X : Type 0} (g h : Revision → Option X) → ((r : Revision) → h r ≡ g r) → (o : Option X) → IsLast g o → IsLast h o
last_moved g h same None l = λ r. same r ∙ l r
last_moved g h same (Some x) l = (l.0, same l.0 ∙ l.1, λ q k. l.2 q (ap is_some (sym (same q)) ∙ k))

-- ---- over the entries of a document

abbrev pub IsLastEntry : {X : Type 0} → (Revision → Option X) → Option (Revision × X) → Type 0
IsLastEntry g None = (r : Revision) → g r ≡ None
IsLastEntry g (Some f) = (g f.0 ≡ Some f.1) × ((q : Revision) → is_some (g q) ≡ true → is_at_most q f.0 ≡ true)

entry_value : {X : Type 0} (g : Revision → Option X) (o : Option (Revision × X)) → IsLastEntry g o → IsLast g (option_map (λ e. e.1) o)
entry_value g None l = l
entry_value g (Some f) l = (f.0, l.0, l.1)

-- where two functions agree, so do their last entries
pub only_entry : {X : Type 0} (g h : Revision → Option X) → ((r : Revision) → g r ≡ h r) → (a b : Option (Revision × X)) → IsLastEntry g a → IsLastEntry h b → a ≡ b
only_entry g h same None None l m = refl
only_entry g h same None (Some y) l m = none_some (g y.0) y.1 (l y.0) (same y.0 ∙ m.0) _
only_entry g h same (Some x) None l m = none_some (g x.0) x.1 (same x.0 ∙ m x.0) l.0 _
only_entry g h same (Some x) (Some y) l m =
    let one : x.0 ≡ y.0 = at_most_both x.0 y.0 (m.1 x.0 (ap is_some (sym (same x.0) ∙ l.0))) (l.1 y.0 (ap is_some (same y.0 ∙ m.0))) in
    let value : x.1 ≡ y.1 = ap (λ o. unwrap_or o x.1) (sym l.0 ∙ (same x.0 ∙ (ap h one ∙ m.0))) in
    λ i. Some (one i, value i)

-- equal functions have the same last entry
pub moved : {X : Type 0} (g h : Revision → Option X) → ((r : Revision) → h r ≡ g r) → (o : Option (Revision × X)) → IsLastEntry g o → IsLastEntry h o
moved g h same None l = λ r. same r ∙ l r
moved g h same (Some f) l = (same f.0 ∙ l.0, λ q k. l.1 q (ap is_some (sym (same q)) ∙ k))

module _ {X : Type 0} (test : Revision → Bool) where
  -- the entry of a revision that passes the test
  abbrev pub passing : List (Revision × X) → Revision → Option X
  passing es r = cond (test r) (of_revision es r) None

  hidden : (e : Revision × X) (es : List (Revision × X)) → test e.0 ≡ false → (r : Revision) → passing (e ∷ es) r ≡ passing es r
  hidden e es h r = by (eq_by_cmp revision_cmp r e.0) refl
    where
      by : (b : Bool) → eq_by_cmp revision_cmp r e.0 ≡ b → cond (test r) (cond b (Some e.1) (of_revision es r)) None ≡ cond (test r) (of_revision es r) None
      by false k = refl
      by true k =
          let out : test r ≡ false = ap test (same_revision r e.0 k) ∙ h in
          ap (λ b. cond b (Some e.1) None) out ∙ sym (ap (λ b. cond b (of_revision es r) None) out)

  -- an entry more that passes
  shown : (e : Revision × X) (es : List (Revision × X)) → test e.0 ≡ true → passing (e ∷ es) e.0 ≡ Some e.1
  shown e es h = ap (λ b. cond b (cond (eq_by_cmp revision_cmp e.0 e.0) (Some e.1) (of_revision es e.0)) None) h ∙ ap (λ o. cond (is_eq o) (Some e.1) (of_revision es e.0)) (tied_itself revision_total e.0)

  -- another revision than that of the first entry
  other : (e : Revision × X) (es : List (Revision × X)) (q : Revision) → eq_by_cmp revision_cmp q e.0 ≡ false → passing (e ∷ es) q ≡ passing es q
  other e es q h = ap (λ b. cond (test q) (cond b (Some e.1) (of_revision es q)) None) h

  either_of : (e : Revision × X) (es : List (Revision × X)) (q : Revision) → is_some (passing (e ∷ es) q) ≡ true → (G : Type 0) → (q ≡ e.0 → G) → (is_some (passing es q) ≡ true → G) → G
  either_of e es q h G f g = by (eq_by_cmp revision_cmp q e.0) refl
    where
      by : (b : Bool) → eq_by_cmp revision_cmp q e.0 ≡ b → G
      by true k = f (same_revision q e.0 k)
      by false k = g (ap is_some (sym (other e es q k)) ∙ h)

  later_entry : (e : Revision × X) (es : List (Revision × X)) → test e.0 ≡ true → (o : Option (Revision × X)) → IsLastEntry (passing es) o → IsLastEntry (passing (e ∷ es)) (Some (later_of e o))
  later_entry e es h None l = (shown e es h, λ q k. either_of e es q k _ (λ s. at_most_itself q e.0 s) (λ s. absurd (false≢true (ap is_some (sym (l q)) ∙ s))))
  later_entry e es h (Some f) l = by (is_before e.0 f.0) refl
    where
      apart : is_before e.0 f.0 ≡ true → (b : Bool) → eq_by_cmp revision_cmp f.0 e.0 ≡ b → b ≡ false
      apart p true k = absurd (false≢true (sym (ap (is_before e.0) (same_revision f.0 e.0 k) ∙ before_itself e.0) ∙ p))
      apart p false k = refl

      by : (b : Bool) → is_before e.0 f.0 ≡ b → IsLastEntry (passing (e ∷ es)) (Some (cond b f e))
      by true p = (other e es f.0 (apart p _ refl) ∙ l.0, λ q k. either_of e es q k _ (λ s. subst (λ (x : Revision). is_at_most x f.0 ≡ true) (sym s) (before_at_most e.0 f.0 p)) (λ s. l.1 q s))
      by false p = (shown e es h, λ q k. either_of e es q k _ (λ s. at_most_itself q e.0 s) (λ s. at_most_trans q f.0 e.0 (l.1 q s) (not_before e.0 f.0 p)))

  pub latest_entry : (es : List (Revision × X)) → IsLastEntry (passing es) (latest (filter (λ e. test e.0) es ++ []))
  latest_entry [] = λ r. elim (test r) as (λ b. ◌≡◌ {A = Option X} (cond b None None) None) [ true ↦ refl | false ↦ refl ]
  latest_entry (e ∷ es) =
      let rest : IsLastEntry (passing es) (latest (filter (λ e. test e.0) es ++ [])) = latest_entry es in
      (elim (test e.0) as (λ b. test e.0 ≡ b → IsLastEntry (passing (e ∷ es)) (latest (cond b (e ∷ filter (λ e. test e.0) es) (filter (λ e. test e.0) es) ++ []))) [
        | true ↦ λ h. later_entry e es h _ rest
        | false ↦ λ h. moved (passing es) (passing (e ∷ es)) (hidden e es h) _ rest
      ]) refl

-- ---- over commits

module _ {X : Type 0} (f : Write → Option X) (s : Sight) where
  -- what the edit of a revision that is seen writes
  abbrev pub writing : Option (List Write) → Revision → Option X
  writing o r = cond (s r) (option_and_then (written f) o) None

  writing_none : (b : Bool) → ◌≡◌ {A = Option X} (cond b None None) None
  writing_none true = refl
  writing_none false = refl

  fallen : (e : Revision × List Write) (es : Commits) → Each (λ o. is_before o.0 e.0 ≡ true) es → (q : Revision) → is_some (of_revision es q) ≡ true → is_at_most q e.0 ≡ true
  fallen e [] a q h = absurd (false≢true h)
  fallen e (o ∷ es) a q h =
      (elim (eq_by_cmp revision_cmp q o.0) as (λ b. eq_by_cmp revision_cmp q o.0 ≡ b → is_some (cond b (Some o.1) (of_revision es q)) ≡ true → is_at_most q e.0 ≡ true) [
        | true ↦ λ k m. subst (λ (x : Revision). is_at_most x e.0 ≡ true) (sym (same_revision q o.0 k)) (before_at_most o.0 e.0 a.0)
        | false ↦ λ k m. fallen e es a.1 q m
      ]) refl h

  absent : (e : Revision × List Write) (es : Commits) → Each (λ o. is_before o.0 e.0 ≡ true) es → of_revision es e.0 ≡ None
  absent e [] a = refl
  absent e (o ∷ es) a =
      elim (eq_by_cmp revision_cmp e.0 o.0) as (λ b. eq_by_cmp revision_cmp e.0 o.0 ≡ b → cond b (Some o.1) (of_revision es e.0) ≡ None) [
        | true ↦ λ k. absurd (false≢true (sym (before_itself e.0) ∙ subst (λ (x : Revision). is_before x e.0 ≡ true) (sym (same_revision e.0 o.0 k)) a.0))
        | false ↦ λ k. absent e es a.1
      ] refl

  then_some : (b : Bool) (o : Option (List Write)) → is_some (cond b (option_and_then (written f) o) None) ≡ true → is_some o ≡ true
  then_some b (Some ws) h = refl
  then_some true None h = h
  then_some false None h = h

  pub last_entry_last : (es : Commits) → Fall es → IsLastEntry (λ r. writing (of_revision es r) r) (last_entry f s es)
  last_entry_last [] fall = λ r. writing_none (s r)
  last_entry_last (e ∷ es) fall = by (cond (s e.0) (written f e.1) None) refl (last_entry f s es) (last_entry_last es fall.1)
    where
      G : Revision → Option X
      G r = writing (of_revision (e ∷ es) r) r

      here : G e.0 ≡ cond (s e.0) (written f e.1) None
      here = ap (λ o. cond (s e.0) (option_and_then (written f) (cond (is_eq o) (Some e.1) (of_revision es e.0))) None) (tied_itself revision_total e.0)

      away : (q : Revision) → eq_by_cmp revision_cmp q e.0 ≡ false → G q ≡ writing (of_revision es q) q
      away q k = ap (λ b. cond (s q) (option_and_then (written f) (cond b (Some e.1) (of_revision es q))) None) k

      below : (q : Revision) → is_some (G q) ≡ true → is_at_most q e.0 ≡ true
      below q h = elim (eq_by_cmp revision_cmp q e.0) as (λ b. eq_by_cmp revision_cmp q e.0 ≡ b → is_at_most q e.0 ≡ true) [
        | true ↦ λ k. at_most_itself q e.0 (same_revision q e.0 k)
        | false ↦ λ k. fallen e es fall.0 q (then_some (s q) (of_revision es q) (ap is_some (sym (away q k)) ∙ h))
      ] refl

      alike : cond (s e.0) (written f e.1) None ≡ None → (r : Revision) → G r ≡ writing (of_revision es r) r
      alike none r = elim (eq_by_cmp revision_cmp r e.0) as (λ b. eq_by_cmp revision_cmp r e.0 ≡ b → G r ≡ writing (of_revision es r) r) [
        | true ↦ λ k. subst (λ (x : Revision). G x ≡ writing (of_revision es x) x) (sym (same_revision r e.0 k))
            (here ∙ (none ∙ (sym (writing_none (s e.0)) ∙ ap (λ o. cond (s e.0) (option_and_then (written f) o) None) (sym (absent e es fall.0)))))
        | false ↦ λ k. away r k
      ] refl

      by : (o : Option X) → cond (s e.0) (written f e.1) None ≡ o → (rest : Option (Revision × X)) → IsLastEntry (λ r. writing (of_revision es r) r) rest → IsLastEntry G (option_or (option_map (λ x. (e.0, x)) o) rest)
      by (Some x) k rest l = (here ∙ k, below)
      by None k rest l = moved (λ r. writing (of_revision es r) r) G (alike k) rest l

  last_value : (es : Commits) → option_map (λ e. e.1) (last_entry f s es) ≡ last f s es
  last_value [] = refl
  last_value (e ∷ es) = by (cond (s e.0) (written f e.1) None) ∙ ap (option_or (cond (s e.0) (written f e.1) None)) (last_value es)
    where
      by : (o : Option X) → option_map (λ (e : Revision × X). e.1) (option_or (option_map (λ x. (e.0, x)) o) (last_entry f s es)) ≡ option_or o (option_map (λ e. e.1) (last_entry f s es))
      by None = refl
      by (Some x) = refl

  pub last_last : (es : Commits) → Fall es → IsLast (λ r. writing (of_revision es r) r) (last f s es)
  last_last es fall = subst (IsLast (λ r. writing (of_revision es r) r)) (last_value es) (entry_value (λ r. writing (of_revision es r) r) (last_entry f s es) (last_entry_last es fall))
