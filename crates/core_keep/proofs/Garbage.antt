-- What is garbage by the definition may go.
use Rattle.std.proofs.Common.{◌≡◌, ◌⊎◌, inl, inr, ℕ, Bool, true, false, cond, not, ◌&&◌, ◌||◌, Some, None, Option, List, [], ◌∷◌, ◌++◌, map, refl, sym, ap, ◌∙◌, subst, is_some}
use Rattle.std.specs.Prelude.{◌==◌}
use Rattle.std.specs.Option.{option_map_or, option_or, option_and_then, unwrap_or}
use Rattle.std.specs.Ordering.{eq_by_cmp}
use Rattle.std.specs.Map.{keys_of, lookup}
use Rattle.std.specs.BTreeMap.{is_at}
use Rattle.std.specs.FinMap.{is_sorted}
use Rattle.std.specs.List.{filter, fold, flat_map, list_all, list_any}
use mathlib.Core.Bool.{false≢true}
use Rattle.jr_path.specs.Names.{name_cmp}
use Rattle.jr_path.specs.declared.name.Name.{Name}
use Rattle.jr_path.specs.declared.path.Path.{Path}
use Rattle.jr_path.specs.declared.path.DocId.TheVariants as id
use Rattle.jr_value.specs.declared.value.Property.{Property}
use Rattle.jr_rev.specs.declared.revision.Revision.{Revision}
use Rattle.jr_rev.specs.declared.vector.RevVec.{RevVec}
use Rattle.jr_rev.specs.Revisions.{revision_cmp, is_before, is_at_most, is_same}
use Rattle.jr_rev.specs.Vectors.{sees}
use Rattle.jr_tree.proofs.Proper.{same_name}
use Rattle.oak_doc.specs.declared.document.Document.{Document}
use Rattle.oak_doc.specs.declared.document.PrevEntry.{PrevEntry}
use Rattle.oak_doc.specs.declared.update.EntryKey.{EntryKey}
use Rattle.oak_doc.specs.declared.update.Field.{Field}
use Rattle.oak_doc.specs.declared.update.Field.TheVariants as field
use Rattle.oak_doc.specs.declared.update.Change.{Change}
use Rattle.oak_doc.specs.declared.update.Change.TheVariants as change
use Rattle.oak_doc.specs.declared.update.UpdateOp.{UpdateOp}
use Rattle.oak_doc.specs.Updates.{of_revision, without_revision, values_of_property, pruned, changed, after_changes, Props}
use Rattle.oak_read.specs.Meaning.{Documents, latest}
use Rattle.core_read.specs.Told.{IsIn}
use Rattle.core_read.specs.Writes.{IsOrderedDocument}
use Rattle.core_read.proofs.Latest.{same_revision, before_itself, before_at_most, at_most_trans, at_most_both, not_before, passing, IsLastEntry}
use Rattle.core_read.proofs.Updates.{own_without, other_without, values_with, sorted_with}
use Rattle.core_keep.specs.Standing.{shows_node, HasEntryOf}
use Rattle.core_keep.specs.Keeps.{Course}
use Rattle.core_keep.specs.Steps.{AreLeft, AreNotes, IsPruned, IsUnwanted}
use Rattle.core_keep.specs.Garbage.{revisions_kept, is_superseded, are_superseded, is_garbage_previous, is_absent, is_garbage_document}
use Rattle.core_keep.specs.Dropping.{is_garbage_of, is_number_of, DropsGarbage}
use Rattle.core_keep.proofs.Item.{latest_of, and_both, cond_some, not_true, either_true}
use Rattle.core_keep.proofs.Found.{found_append, found_first}

-- ---- one entry less, at a revision

pub without_at : {X : Type 0} (r q : Revision) (es : List (Revision × X)) → of_revision (without_revision r es) q ≡ cond (is_same q r) None (of_revision es q)
without_at r q es = by (is_same q r) refl
  where
    by : (b : Bool) → is_same q r ≡ b → of_revision (without_revision r es) q ≡ cond b None (of_revision es q)
    by true h = subst (λ (x : Revision). of_revision (without_revision r es) x ≡ None) (sym (same_revision q r h)) (own_without r es)
    by false h = other_without r q h es

-- ---- the entries that some keys drop

abbrev pub drops_deleted : Field → Revision → Revision → Bool
drops_deleted field.Deleted r q = is_same q r
drops_deleted _ r q = false

abbrev pub drops_root : Field → Revision → Revision → Bool
drops_root field.CommitRoot r q = is_same q r
drops_root _ r q = false

abbrev pub drops_status : Field → Revision → Revision → Bool
drops_status field.Revisions r q = is_same q r
drops_status _ r q = false

abbrev pub drops_value : Name → Field → Revision → Revision → Bool
drops_value n (field.Prop m) r q = eq_by_cmp name_cmp n m && is_same q r
drops_value n _ r q = false

abbrev pub by_keys : (Field → Revision → Revision → Bool) → List EntryKey → Revision → Bool
by_keys hit keys q = list_any (λ k. hit k.field k.revision q) keys

abbrev pub key : Field → Revision → EntryKey
key f r = record { field = f; revision = r }

-- names stay in order
pub sorted_pruned : (f : Field) (r : Revision) (d : Document) → is_sorted name_cmp d.props ≡ true → is_sorted name_cmp (pruned d (key f r)).props ≡ true
sorted_pruned field.Deleted r d s = s
sorted_pruned field.CommitRoot r d s = s
sorted_pruned field.Revisions r d s = s
sorted_pruned field.Collisions r d s = s
sorted_pruned field.Touched r d s = s
sorted_pruned field.Guard r d s = s
sorted_pruned (field.Prop n) r d s = sorted_with d.props n (without_revision r (values_of_property d.props n)) s

pub sorted_keys : (ks : List EntryKey) (d : Document) → is_sorted name_cmp d.props ≡ true → is_sorted name_cmp (fold pruned d ks).props ≡ true
sorted_keys [] d s = s
sorted_keys (k ∷ ks) d s = sorted_keys ks (pruned d k) (sorted_pruned k.field k.revision d s)

pub none_or : {X : Type 0} (a b : Bool) (o : Option X) → cond a None (cond b None o) ≡ cond (b || a) None o
none_or true true o = refl
none_or true false o = refl
none_or false true o = refl
none_or false false o = refl

module _ {X : Type 0} (get : Document → List (Revision × X)) (hit : Field → Revision → Revision → Bool)
    (one : (f : Field) (r : Revision) (d : Document) → is_sorted name_cmp d.props ≡ true → (q : Revision) → of_revision (get (pruned d (key f r))) q ≡ cond (hit f r q) None (of_revision (get d) q)) where
  pub after_keys : (keys : List EntryKey) (d : Document) → is_sorted name_cmp d.props ≡ true → (q : Revision) → of_revision (get (fold pruned d keys)) q ≡ cond (by_keys hit keys q) None (of_revision (get d) q)
  after_keys [] d s q = refl
  after_keys (k ∷ keys) d s q =
      after_keys keys (pruned d k) (sorted_pruned k.field k.revision d s) q
      ∙ (ap (cond (by_keys hit keys q) None) (one k.field k.revision d s q) ∙ none_or (by_keys hit keys q) (hit k.field k.revision q) (of_revision (get d) q))

pub one_deleted : (f : Field) (r : Revision) (d : Document) → is_sorted name_cmp d.props ≡ true → (q : Revision) → of_revision (pruned d (key f r)).deleted q ≡ cond (drops_deleted f r q) None (of_revision d.deleted q)
one_deleted field.Deleted r d s q = without_at r q d.deleted
one_deleted field.CommitRoot r d s q = refl
one_deleted field.Revisions r d s q = refl
one_deleted field.Collisions r d s q = refl
one_deleted field.Touched r d s q = refl
one_deleted field.Guard r d s q = refl
one_deleted (field.Prop n) r d s q = refl

pub one_root : (f : Field) (r : Revision) (d : Document) → is_sorted name_cmp d.props ≡ true → (q : Revision) → of_revision (pruned d (key f r)).commit_root q ≡ cond (drops_root f r q) None (of_revision d.commit_root q)
one_root field.Deleted r d s q = refl
one_root field.CommitRoot r d s q = without_at r q d.commit_root
one_root field.Revisions r d s q = refl
one_root field.Collisions r d s q = refl
one_root field.Touched r d s q = refl
one_root field.Guard r d s q = refl
one_root (field.Prop n) r d s q = refl

pub one_status : (f : Field) (r : Revision) (d : Document) → is_sorted name_cmp d.props ≡ true → (q : Revision) → of_revision (pruned d (key f r)).revisions q ≡ cond (drops_status f r q) None (of_revision d.revisions q)
one_status field.Deleted r d s q = refl
one_status field.CommitRoot r d s q = refl
one_status field.Revisions r d s q = without_at r q d.revisions
one_status field.Collisions r d s q = refl
one_status field.Touched r d s q = refl
one_status field.Guard r d s q = refl
one_status (field.Prop n) r d s q = refl

pub one_value : (n : Name) (f : Field) (r : Revision) (d : Document) → is_sorted name_cmp d.props ≡ true → (q : Revision) → of_revision (values_of_property (pruned d (key f r)).props n) q ≡ cond (drops_value n f r q) None (of_revision (values_of_property d.props n) q)
one_value n field.Deleted r d s q = refl
one_value n field.CommitRoot r d s q = refl
one_value n field.Revisions r d s q = refl
one_value n field.Collisions r d s q = refl
one_value n field.Touched r d s q = refl
one_value n field.Guard r d s q = refl
one_value n (field.Prop m) r d s q =
    ap (λ (es : List (Revision × Option Property)). of_revision es q) (values_with d.props m n (without_revision r (values_of_property d.props m)) (λ e. s)) ∙ by (eq_by_cmp name_cmp n m) refl
  where
    by : (b : Bool) → eq_by_cmp name_cmp n m ≡ b → of_revision (cond b (without_revision r (values_of_property d.props m)) (values_of_property d.props n)) q ≡ cond (b && is_same q r) None (of_revision (values_of_property d.props n) q)
    by true h = without_at r q (values_of_property d.props m) ∙ ap (λ (a : Name). cond (is_same q r) None (of_revision (values_of_property d.props a) q)) (sym (same_name n m h))
    by false h = refl

-- other parts stay
pub same_parts : (keys : List EntryKey) (d : Document) → ((fold pruned d keys).prev ≡ d.prev) × ((fold pruned d keys).id ≡ d.id)
same_parts [] d = (refl, refl)
same_parts (k ∷ keys) d = let rest = same_parts keys (pruned d k) in let one = parts k.field k.revision in (rest.0 ∙ one.0, rest.1 ∙ one.1)
  where
    parts : (f : Field) (r : Revision) → ((pruned d (key f r)).prev ≡ d.prev) × ((pruned d (key f r)).id ≡ d.id)
    parts field.Deleted r = (refl, refl)
    parts field.CommitRoot r = (refl, refl)
    parts field.Revisions r = (refl, refl)
    parts field.Collisions r = (refl, refl)
    parts field.Touched r = (refl, refl)
    parts field.Guard r = (refl, refl)
    parts (field.Prop n) r = (refl, refl)

-- ---- previous documents are unlisted

pub record IsUnlistedFrom (ns : List ℕ) (d e : Document) : Type 0 where
  pub deleted : e.deleted ≡ d.deleted
  pub roots : e.commit_root ≡ d.commit_root
  pub revisions : e.revisions ≡ d.revisions
  pub collisions : e.collisions ≡ d.collisions
  pub touched : e.touched ≡ d.touched
  pub guard : e.guard ≡ d.guard
  pub props : e.props ≡ d.props
  pub names : e.id ≡ d.id
  pub prev : e.prev ≡ filter (λ x. not (is_number_of ns x)) d.prev

filter_twice : (f g h : PrevEntry → Bool) → ((x : PrevEntry) → h x ≡ (g x && f x)) → (es : List PrevEntry) → filter f (filter g es) ≡ filter h es
filter_twice f g h same [] = refl
filter_twice f g h same (e ∷ es) = by (filter_twice f g h same es) (g e) refl (f e) refl
  where
    by : filter f (filter g es) ≡ filter h es → (b : Bool) → g e ≡ b → (c : Bool) → f e ≡ c → filter f (cond b (e ∷ filter g es) (filter g es)) ≡ cond (h e) (e ∷ filter h es) (filter h es)
    by rest true k true m = ap (λ b. cond b (e ∷ filter f (filter g es)) (filter f (filter g es))) m ∙ (ap (λ l. e ∷ l) rest ∙ sym (ap (λ b. cond b (e ∷ filter h es) (filter h es)) (same e ∙ (ap (λ b. b && f e) k ∙ m))))
    by rest true k false m = ap (λ b. cond b (e ∷ filter f (filter g es)) (filter f (filter g es))) m ∙ (rest ∙ sym (ap (λ b. cond b (e ∷ filter h es) (filter h es)) (same e ∙ (ap (λ b. b && f e) k ∙ m))))
    by rest false k c m = rest ∙ sym (ap (λ b. cond b (e ∷ filter h es) (filter h es)) (same e ∙ ap (λ b. b && f e) k))

filter_all : (es : List PrevEntry) → es ≡ filter (λ x. true) es
filter_all [] = refl
filter_all (e ∷ es) = ap (λ l. e ∷ l) (filter_all es)

not_or : (a b : Bool) → not (a || b) ≡ (not a && not b)
not_or true b = refl
not_or false b = refl

pub unlisted_from : (ns : List ℕ) (d : Document) → IsUnlistedFrom ns d (fold changed d (map change.Unlist ns))
unlisted_from [] d = record { deleted = refl; roots = refl; revisions = refl; collisions = refl; touched = refl; guard = refl; props = refl; names = refl; prev = filter_all d.prev }
unlisted_from (n ∷ ns) d =
    let rest = unlisted_from ns (changed d (change.Unlist n)) in
    record {
      deleted = rest.deleted;
      roots = rest.roots;
      revisions = rest.revisions;
      collisions = rest.collisions;
      touched = rest.touched;
      guard = rest.guard;
      props = rest.props;
      names = rest.names;
      prev = rest.prev ∙ filter_twice (λ x. not (is_number_of ns x)) (λ e. not (e.number == n)) (λ x. not (is_number_of (n ∷ ns) x)) (λ x. not_or (x.number == n) (is_number_of ns x)) d.prev;
    }

-- ---- what is superseded

any_key : {X : Type 0} (test : Revision → Bool) (es : List (Revision × X)) → list_any test (keys_of es) ≡ true → (q : Revision) × (test q ≡ true) × (is_some (of_revision es q) ≡ true)
any_key test [] h = absurd (false≢true h)
any_key {X} test (e ∷ es) h = by (either_true (test e.0) (list_any test (keys_of es)) h) (λ k. any_key test es k)
  where
    still : (q : Revision) → is_some (of_revision es q) ≡ true → is_some (of_revision (e ∷ es) q) ≡ true
    still q k = at (eq_by_cmp revision_cmp q e.0)
      where
        at : (b : Bool) → is_some (cond b (Some e.1) (of_revision es q)) ≡ true
        at true = refl
        at false = k

    by : (test e.0 ≡ true) ⊎ (list_any test (keys_of es) ≡ true) → (list_any test (keys_of es) ≡ true → (q : Revision) × (test q ≡ true) × (is_some (of_revision es q) ≡ true)) → (q : Revision) × (test q ≡ true) × (is_some (of_revision (e ∷ es) q) ≡ true)
    by (inl k) rest = (e.0, k, ap is_some (found_first e es))
    by (inr k) rest = let r = rest k in (r.0, r.1, still r.0 r.2)

before_least : (a b c : Revision) → is_before a b ≡ true → is_at_most b c ≡ true → is_before a c ≡ true
before_least a b c h k = by (is_before a c) refl
  where
    by : (t : Bool) → is_before a c ≡ t → t ≡ true
    by true e = refl
    by false e =
        let back : is_at_most b a ≡ true = at_most_trans b c a k (not_before a c e) in
        let one : a ≡ b = at_most_both a b (before_at_most a b h) back in
        absurd (false≢true (sym (before_itself a) ∙ subst (λ (z : Revision). is_before a z ≡ true) (sym one) h))

module _ (m t : RevVec) where
  abbrev swept_at : Revision → Bool
  swept_at q = sees m q && sees t q

  -- what supersedes
  pub over : {X : Type 0} (es : List (Revision × X)) (r : Revision) → is_superseded m t (keys_of es) r ≡ true → (sees m r ≡ true) × ((q : Revision) × (is_before r q ≡ true) × (swept_at q ≡ true) × (is_some (of_revision es q) ≡ true))
  over es r h =
      let b = and_both (sees m r) _ h in
      let q = any_key (λ q. is_before r q && sees m q && sees t q) es b.1 in
      let c = and_both (is_before r q.0 && sees m q.0) (sees t q.0) q.1 in
      let e = and_both (is_before r q.0) (sees m q.0) c.0 in
      (b.0, (q.0, e.0, ap (λ b. b && sees t q.0) e.1 ∙ c.1, q.2))

  -- the greatest of the entries that both see isn't superseded
  greatest : {X : Type 0} (es : List (Revision × X)) (r : Revision) → is_superseded m t (keys_of es) r ≡ true → (g : Revision) × (is_before r g ≡ true) × (swept_at g ≡ true) × (is_some (of_revision es g) ≡ true) × (is_superseded m t (keys_of es) g ≡ false)
  greatest {X} es r h =
      let f = over es r h in
      by f.1.0 f.1.1 f.1.2 f.1.3 _ (latest_of swept_at es)
    where
      by : (q : Revision) → is_before r q ≡ true → swept_at q ≡ true → is_some (of_revision es q) ≡ true → (o : Option (Revision × X)) → IsLastEntry (passing swept_at es) o
          → (g : Revision) × (is_before r g ≡ true) × (swept_at g ≡ true) × (is_some (of_revision es g) ≡ true) × (is_superseded m t (keys_of es) g ≡ false)
      by q b s k None l = absurd (false≢true (sym (ap is_some (l q)) ∙ (ap (λ b. is_some (cond b (of_revision es q) None)) s ∙ k)))
      by q b s k (Some e) l =
          let p = cond_some (swept_at e.0) (of_revision es e.0) e.1 l.0 in (
            e.0,
            before_least r q e.0 b (l.1 q (ap (λ b. is_some (cond b (of_revision es q) None)) s ∙ k)),
            p.0,
            ap is_some p.1,
            not_true _ (λ h.
                let u = over es e.0 h in
                false≢true (sym (before_itself e.0) ∙ before_least e.0 u.1.0 e.0 u.1.1 (l.1 u.1.0 (ap (λ b. is_some (cond b (of_revision es u.1.0) None)) u.1.2 ∙ u.1.3)))),
          )

  module _ (c : Course) (wider : (r : Revision) → sees m r ≡ true → c.bound r ≡ true) where
    bound_swept : (g : Revision) → swept_at g ≡ true → c.bound g ≡ true
    bound_swept g h = wider g (and_both (sees m g) (sees t g) h).0

    -- superseded entries went
    left_superseded : {X : Type 0} (es left : List (Revision × X)) (gone : Revision → Bool) → ((q : Revision) → of_revision left q ≡ cond (gone q) None (of_revision es q)) → ((q : Revision) → gone q ≡ true → is_superseded m t (keys_of es) q ≡ true) → AreLeft c es left
    left_superseded es left gone is garbage = record { each = λ q. by q (gone q) refl }
      where
        stands : (g : Revision) → is_superseded m t (keys_of es) g ≡ false → is_some (of_revision es g) ≡ true → is_some (of_revision left g) ≡ true
        stands g h k = ap is_some (is g) ∙ (ap (λ b. is_some (cond b None (of_revision es g))) (not_true (gone g) (λ e. false≢true (sym h ∙ garbage g e))) ∙ k)

        by : (q : Revision) (b : Bool) → gone q ≡ b → (of_revision left q ≡ of_revision es q) ⊎ ((of_revision left q ≡ None) × (c.bound q ≡ true) × ((r : Revision) × (is_before q r ≡ true) × (c.bound r ≡ true) × (is_some (of_revision left r) ≡ true)))
        by q false h = inl (is q ∙ ap (λ b. cond b None (of_revision es q)) h)
        by q true h =
            let g = greatest es q (garbage q h) in
            inr (is q ∙ ap (λ b. cond b None (of_revision es q)) h, wider q (over es q (garbage q h)).0, (g.0, g.1, bound_swept g.0 g.2, stands g.0 g.4 g.3))

-- ---- the keys that drop an entry

pub hit_by : (hit : Field → Revision → Revision → Bool) (keys : List EntryKey) (q : Revision) → by_keys hit keys q ≡ true → (k : EntryKey) × IsIn k keys × (hit k.field k.revision q ≡ true)
hit_by hit [] q h = absurd (false≢true h)
hit_by hit (k ∷ keys) q h = by (either_true (hit k.field k.revision q) (by_keys hit keys q) h) (λ m. hit_by hit keys q m)
  where
    by : (hit k.field k.revision q ≡ true) ⊎ (by_keys hit keys q ≡ true) → (by_keys hit keys q ≡ true → (j : EntryKey) × IsIn j keys × (hit j.field j.revision q ≡ true)) → (j : EntryKey) × IsIn j (k ∷ keys) × (hit j.field j.revision q ≡ true)
    by (inl m) rest = (k, inl refl, m)
    by (inr m) rest = let r = rest m in (r.0, inr r.1, r.2)

module _ (m t : RevVec) (old : Document) where
  same_at : (r q : Revision) (test : Revision → Bool) → is_same q r ≡ true → test r ≡ true → test q ≡ true
  same_at r q test h k = ap test (same_revision q r h) ∙ k

  pub deleted_garbage : (f : Field) (r q : Revision) → is_garbage_of m t old f r ≡ true → drops_deleted f r q ≡ true → is_superseded m t (keys_of old.deleted) q ≡ true
  deleted_garbage field.Deleted r q g h = same_at r q (is_superseded m t (keys_of old.deleted)) h g
  deleted_garbage field.CommitRoot r q g h = absurd (false≢true h)
  deleted_garbage field.Revisions r q g h = absurd (false≢true h)
  deleted_garbage field.Collisions r q g h = absurd (false≢true h)
  deleted_garbage field.Touched r q g h = absurd (false≢true h)
  deleted_garbage field.Guard r q g h = absurd (false≢true h)
  deleted_garbage (field.Prop n) r q g h = absurd (false≢true h)

  pub root_garbage : (f : Field) (r q : Revision) → is_garbage_of m t old f r ≡ true → drops_root f r q ≡ true → sees t q ≡ true
  root_garbage field.CommitRoot r q g h = same_at r q (sees t) h g
  root_garbage field.Deleted r q g h = absurd (false≢true h)
  root_garbage field.Revisions r q g h = absurd (false≢true h)
  root_garbage field.Collisions r q g h = absurd (false≢true h)
  root_garbage field.Touched r q g h = absurd (false≢true h)
  root_garbage field.Guard r q g h = absurd (false≢true h)
  root_garbage (field.Prop n) r q g h = absurd (false≢true h)

  pub status_garbage : (f : Field) (r q : Revision) → is_garbage_of m t old f r ≡ true → drops_status f r q ≡ true → sees t q ≡ true
  status_garbage field.Revisions r q g h = same_at r q (sees t) h g
  status_garbage field.Deleted r q g h = absurd (false≢true h)
  status_garbage field.CommitRoot r q g h = absurd (false≢true h)
  status_garbage field.Collisions r q g h = absurd (false≢true h)
  status_garbage field.Touched r q g h = absurd (false≢true h)
  status_garbage field.Guard r q g h = absurd (false≢true h)
  status_garbage (field.Prop n) r q g h = absurd (false≢true h)

  pub value_garbage : (n : Name) (f : Field) (r q : Revision) → is_garbage_of m t old f r ≡ true → drops_value n f r q ≡ true → is_superseded m t (keys_of (values_of_property old.props n)) q ≡ true
  value_garbage n (field.Prop k) r q g h =
      let b = and_both (eq_by_cmp name_cmp n k) (is_same q r) h in
      same_at r q (is_superseded m t (keys_of (values_of_property old.props n))) b.1 (subst (λ (a : Name). is_superseded m t (keys_of (values_of_property old.props a)) r ≡ true) (sym (same_name n k b.0)) g)
  value_garbage n field.Deleted r q g h = absurd (false≢true h)
  value_garbage n field.CommitRoot r q g h = absurd (false≢true h)
  value_garbage n field.Revisions r q g h = absurd (false≢true h)
  value_garbage n field.Collisions r q g h = absurd (false≢true h)
  value_garbage n field.Touched r q g h = absurd (false≢true h)
  value_garbage n field.Guard r q g h = absurd (false≢true h)

-- ---- the update of a collection

keys_append : {X : Type 0} (xs ys : List (Revision × X)) → keys_of (xs ++ ys) ≡ keys_of xs ++ keys_of ys
keys_append [] ys = refl
keys_append (x ∷ xs) ys = ap (λ l. x.0 ∷ l) (keys_append xs ys)

pub all_of : {X : Type 0} (test : X → Bool) (xs : List X) → list_all test xs ≡ true → (x : X) → IsIn x xs → test x ≡ true
all_of test [] h x i = absurd i
all_of test (y ∷ xs) h x (inl one) = ap test (sym one) ∙ (and_both (test y) _ h).0
all_of test (y ∷ xs) h x (inr i) = all_of test xs (and_both (test y) _ h).1 x i

pub key_in : {X : Type 0} (es : List (Revision × X)) (q : Revision) → is_some (of_revision es q) ≡ true → IsIn q (keys_of es)
key_in [] q h = absurd (false≢true h)
key_in (e ∷ es) q h = by (λ k. key_in es q k) (eq_by_cmp revision_cmp q e.0) refl h
  where
    by : (is_some (of_revision es q) ≡ true → IsIn q (keys_of es)) → (b : Bool) → eq_by_cmp revision_cmp q e.0 ≡ b → is_some (cond b (Some e.1) (of_revision es q)) ≡ true → IsIn q (keys_of (e ∷ es))
    by rest true k h = inl (sym (same_revision q e.0 k))
    by rest false k h = inr (rest h)

-- the values of a name stand in the list of properties
pub property_in : (n : Name) (ps : Props) (q : Revision) → is_some (of_revision (values_of_property ps n) q) ≡ true → (p : Name × List (Revision × Option Property)) × IsIn p ps × (p.0 ≡ n) × (p.1 ≡ values_of_property ps n)
property_in n [] q h = absurd (false≢true h)
property_in n (e ∷ ps) q h = by (λ k. property_in n ps q k) (eq_by_cmp name_cmp n e.0) refl h
  where
    by : (is_some (of_revision (values_of_property ps n) q) ≡ true → (p : Name × List (Revision × Option Property)) × IsIn p ps × (p.0 ≡ n) × (p.1 ≡ values_of_property ps n)) → (b : Bool) → eq_by_cmp name_cmp n e.0 ≡ b
        → is_some (of_revision (unwrap_or (cond b (Some e.1) (lookup (is_at (name_cmp n)) ps)) []) q) ≡ true → (p : Name × List (Revision × Option Property)) × IsIn p (e ∷ ps) × (p.0 ≡ n) × (p.1 ≡ unwrap_or (cond b (Some e.1) (lookup (is_at (name_cmp n)) ps)) [])
    by rest true k h = (e, inl refl, sym (same_name n e.0 k), refl)
    by rest false k h = let r = rest h in (r.0, inr r.1, r.2, r.3)

module _ (ds : Documents) (c : Course) (p : Path) (m t : RevVec) (wider : (r : Revision) → sees m r ≡ true → c.bound r ≡ true) (more : (r : Revision) → sees t r ≡ true → c.swept r ≡ true)
    (old : Document) (op : UpdateOp) (number : ℕ) (keys : List EntryKey) (ns : List ℕ) (named : old.id ≡ id.Node p) (rise : IsOrderedDocument old) (drops : DropsGarbage ds m t p old op keys ns) where
  abbrev mid : Document
  mid = fold pruned old keys

  abbrev final : Document
  final = after_changes (Some old) op number

  abbrev last : Document
  last = fold changed mid (map change.Unlist ns)

  shape : final ≡ record last { mod_count = number }
  shape = ap (λ (cs : List Change). record (fold changed old cs) { mod_count = number }) drops.changes

  from : IsUnlistedFrom ns mid last
  from = unlisted_from ns mid

  hits : (hit : Field → Revision → Revision → Bool) (G : Revision → Type 0) → ((f : Field) (r q : Revision) → is_garbage_of m t old f r ≡ true → hit f r q ≡ true → G q) → (q : Revision) → by_keys hit keys q ≡ true → G q
  hits hit G garbage q h = let k = hit_by hit keys q h in garbage k.0.field k.0.revision q (drops.entries k.0 k.1) k.2

  deleted : AreLeft c old.deleted final.deleted
  deleted = left_superseded m t c wider old.deleted final.deleted (by_keys drops_deleted keys)
      (λ q. ap (λ (d : Document). of_revision d.deleted q) shape ∙ (ap (λ (es : List (Revision × Bool)). of_revision es q) from.deleted ∙ after_keys (λ d. d.deleted) drops_deleted one_deleted keys old rise.names q))
      (hits drops_deleted (λ q. is_superseded m t (keys_of old.deleted) q ≡ true) (deleted_garbage m t old))

  values_final : (n : Name) (q : Revision) → of_revision (values_of_property final.props n) q ≡ cond (by_keys (drops_value n) keys q) None (of_revision (values_of_property old.props n) q)
  values_final n q = ap (λ (d : Document). of_revision (values_of_property d.props n) q) shape ∙ (ap (λ ps. of_revision (values_of_property ps n) q) from.props ∙ after_keys (λ d. values_of_property d.props n) (drops_value n) (one_value n) keys old rise.names q)

  value_dropped : (n : Name) (q : Revision) → by_keys (drops_value n) keys q ≡ true → is_superseded m t (keys_of (values_of_property old.props n)) q ≡ true
  value_dropped n = hits (drops_value n) (λ q. is_superseded m t (keys_of (values_of_property old.props n)) q ≡ true) (value_garbage m t old n)

  props : (n : Name) → AreLeft c (values_of_property old.props n) (values_of_property final.props n)
  props n = left_superseded m t c wider _ _ (by_keys (drops_value n) keys) (values_final n) (value_dropped n)

  notes : {X : Type 0} (es left : List (Revision × X)) (gone : Revision → Bool) → ((q : Revision) → of_revision left q ≡ cond (gone q) None (of_revision es q)) → ((q : Revision) → gone q ≡ true → sees t q ≡ true) → AreNotes c es left
  notes es left gone is garbage = record {
    sub = λ q h. by q (gone q) refl (sym (ap is_some (is q)) ∙ h);
    kept = λ q s. is q ∙ ap (λ b. cond b None (of_revision es q)) (not_true (gone q) (λ h. false≢true (sym s ∙ more q (garbage q h))));
  }
    where
      by : (q : Revision) (b : Bool) → gone q ≡ b → is_some (cond b None (of_revision es q)) ≡ true → is_some (of_revision es q) ≡ true
      by q true h k = absurd (false≢true k)
      by q false h k = k

  -- the values of a previous document that is garbage: a later one stands in the document
  behind : (x : Document) → is_garbage_previous m t old x ≡ true → (n : Name) (q : Revision) → is_some (of_revision (values_of_property x.props n) q) ≡ true
      → (c.bound q ≡ true) × ((r : Revision) × (is_before q r ≡ true) × (c.bound r ≡ true) × (is_some (of_revision (values_of_property final.props n) r) ≡ true))
  behind x garbage n q h =
      let f = property_in n x.props q h in
      by f.0 f.2 f.3 (all_of (are_superseded m t old) x.props (and_both (list_all (λ e. sees t e.0) x.commit_root) _ garbage).1 f.0 f.1)
    where
      mine : List (Revision × Option Property)
      mine = values_of_property old.props n

      theirs : List (Revision × Option Property)
      theirs = values_of_property x.props n

      by : (e : Name × List (Revision × Option Property)) → e.0 ≡ n → e.1 ≡ theirs → are_superseded m t old e ≡ true
          → (c.bound q ≡ true) × ((r : Revision) × (is_before q r ≡ true) × (c.bound r ≡ true) × (is_some (of_revision (values_of_property final.props n) r) ≡ true))
      by e same is all =
          let each : list_all (is_superseded m t (keys_of (mine ++ theirs))) (keys_of theirs) ≡ true =
          ap (λ (ks : List Revision). list_all (is_superseded m t ks) (keys_of theirs)) (keys_append mine theirs)
          ∙ subst (λ (es : List (Revision × Option Property)). list_all (is_superseded m t (keys_of mine ++ keys_of es)) (keys_of es) ≡ true) is
          (subst (λ (a : Name). list_all (is_superseded m t (keys_of (values_of_property old.props a) ++ keys_of e.1)) (keys_of e.1) ≡ true) same all) in
          let s = all_of (is_superseded m t (keys_of (mine ++ theirs))) (keys_of theirs) each in
          let own = s q (key_in theirs q h) in
          let g = greatest m t (mine ++ theirs) q own in
          (wider q (over m t (mine ++ theirs) q own).0, (g.0, g.1, bound_swept m t c wider g.0 g.2, stands g.0 g.2 g.4 (λ k. s g.0 (key_in theirs g.0 k)) (of_revision mine g.0) refl (sym (ap is_some (found_append mine theirs g.0)) ∙ g.3)))
        where
          -- the greatest stands in the document, and isn't dropped
          stands : (g : Revision) → swept_at m t g ≡ true → is_superseded m t (keys_of (mine ++ theirs)) g ≡ false → (is_some (of_revision theirs g) ≡ true → is_superseded m t (keys_of (mine ++ theirs)) g ≡ true) → (o : Option (Option Property)) → of_revision mine g ≡ o
              → is_some (option_or (of_revision mine g) (of_revision theirs g)) ≡ true → is_some (of_revision (values_of_property final.props n) g) ≡ true
          stands g sw free theirs_not None k h = absurd (false≢true (sym free ∙ theirs_not (sym (ap (λ o. is_some (option_or o (of_revision theirs g))) k) ∙ h)))
          stands g sw free theirs_not (Some v) k h =
              ap is_some (values_final n g) ∙ (ap (λ b. is_some (cond b None (of_revision mine g))) (not_true (by_keys (drops_value n) keys g) (λ d. false≢true (sym free ∙ wider_superseded (value_dropped n g d)))) ∙ ap is_some k)
            where
              -- superseded in the document: superseded by more
              any_first : (test : Revision → Bool) (xs ys : List Revision) → list_any test xs ≡ true → list_any test (xs ++ ys) ≡ true
              any_first test [] ys h = absurd (false≢true h)
              any_first test (x ∷ xs) ys h = at (test x) (list_any test xs) h (any_first test xs ys)
                where
                  at : (a b : Bool) → (a || b) ≡ true → (b ≡ true → list_any test (xs ++ ys) ≡ true) → (a || list_any test (xs ++ ys)) ≡ true
                  at true b h rest = refl
                  at false b h rest = rest h

              wider_superseded : is_superseded m t (keys_of mine) g ≡ true → is_superseded m t (keys_of (mine ++ theirs)) g ≡ true
              wider_superseded u =
                  let b = and_both (sees m g) _ u in
                  ap (λ (ks : List Revision). is_superseded m t ks g) (keys_append mine theirs)
                  ∙ (ap (λ b. b && list_any (λ q. is_before g q && sees m q && sees t q) (keys_of mine ++ keys_of theirs)) b.0 ∙ any_first (λ q. is_before g q && sees m q && sees t q) (keys_of mine) (keys_of theirs) b.1)

  pub garbage_pruned : IsPruned ds c p old final
  garbage_pruned = record {
    deleted = deleted;
    props = props;
    roots = notes old.commit_root final.commit_root (by_keys drops_root keys)
        (λ q. ap (λ (d : Document). of_revision d.commit_root q) shape ∙ (ap (λ (es : List (Revision × ℕ)). of_revision es q) from.roots ∙ after_keys (λ d. d.commit_root) drops_root one_root keys old rise.names q))
        (hits drops_root (λ q. sees t q ≡ true) (root_garbage m t old));
    revisions = notes old.revisions final.revisions (by_keys drops_status keys)
        (λ q. ap (λ (d : Document). of_revision d.revisions q) shape ∙ (ap (λ es. of_revision es q) from.revisions ∙ after_keys (λ d. d.revisions) drops_status one_status keys old rise.names q))
        (hits drops_status (λ q. sees t q ≡ true) (status_garbage m t old));
    prev = (λ e. not (is_number_of ns e), ap (λ (d : Document). d.prev) shape ∙ (from.prev ∙ ap (filter (λ x. not (is_number_of ns x))) (same_parts keys old).0), λ e i k x h n q v. behind x (drops.previous e i (turn (is_number_of ns e) k) x h) n q v);
    named = ap (λ (d : Document). d.id) shape ∙ (from.names ∙ ((same_parts keys old).1 ∙ named));
  }
    where
      turn : (b : Bool) → not b ≡ false → b ≡ true
      turn true h = refl
      turn false h = absurd (false≢true (sym h))

-- ---- a document of an absent node

pub in_append_first : {X : Type 0} (k : X) (xs ys : List X) → IsIn k xs → IsIn k (xs ++ ys)
in_append_first k [] ys h = absurd h
in_append_first k (x ∷ xs) ys (inl e) = inl e
in_append_first k (x ∷ xs) ys (inr i) = inr (in_append_first k xs ys i)

pub in_append_second : {X : Type 0} (k : X) (xs ys : List X) → IsIn k ys → IsIn k (xs ++ ys)
in_append_second k [] ys h = h
in_append_second k (x ∷ xs) ys h = inr (in_append_second k xs ys h)

pub in_flat : {X Y : Type 0} (f : X → List Y) (xs : List X) (x : X) (y : Y) → IsIn x xs → IsIn y (f x) → IsIn y (flat_map f xs)
in_flat f [] x y i j = absurd i
in_flat f (z ∷ xs) x y (inl one) j = in_append_first y (f z) (flat_map f xs) (subst (λ (w : _). IsIn y (f w)) (sym one) j)
in_flat f (z ∷ xs) x y (inr i) j = in_append_second y (f z) (flat_map f xs) (in_flat f xs x y i j)

pub garbage_unwanted : (c : Course) (p : Path) (m t : RevVec) → ((r : Revision) → sees m r ≡ true → c.bound r ≡ true) → ((r : Revision) → sees t r ≡ true → c.swept r ≡ true) → (old : Document) → is_garbage_document m t old ≡ true → IsUnwanted c p old
garbage_unwanted c p m t wider more old garbage = record {
  entries = λ q h. wider q (seen q h);
  statuses = λ q h. more q (all_of (sees t) (keys_of old.revisions) parts.1 q (key_in old.revisions q h));
  absent = by (latest (filter (λ e. sees m e.0) old.deleted)) refl (and_both (is_absent m t old) _ first_parts.0).0;
}
  where
    parts : ((is_absent m t old && list_all (sees m) (revisions_kept old)) ≡ true) × (list_all (sees t) (keys_of old.revisions) ≡ true)
    parts = and_both (is_absent m t old && list_all (sees m) (revisions_kept old)) _ garbage

    first_parts : ((is_absent m t old && list_all (sees m) (revisions_kept old)) ≡ true) × (list_all (sees t) (keys_of old.revisions) ≡ true)
    first_parts = parts

    all_seen : (q : Revision) → IsIn q (revisions_kept old) → sees m q ≡ true
    all_seen = all_of (sees m) (revisions_kept old) (and_both (is_absent m t old) _ parts.0).1

    front : (q : Revision) (ks bs cs es fs gs hs : List Revision) → IsIn q ks → IsIn q (ks ++ bs ++ cs ++ es ++ fs ++ gs ++ hs)
    front q ks bs cs es fs gs hs i = in_append_first q _ hs (in_append_first q _ gs (in_append_first q _ fs (in_append_first q _ es (in_append_first q _ cs (in_append_first q ks bs i)))))

    seen : (q : Revision) → HasEntryOf q old → sees m q ≡ true
    seen q (inl h) = all_seen q (front q (keys_of old.deleted) _ _ _ _ _ _ (key_in old.deleted q h))
    seen q (inr h) =
        let f = property_in h.0 old.props q h.1 in
        all_seen q (in_append_second q _ (flat_map (λ p. keys_of p.1) old.props) (in_flat (λ p. keys_of p.1) old.props f.0 q f.1 (subst (λ (es : List (Revision × Option Property)). IsIn q (keys_of es)) (sym f.3) (key_in (values_of_property old.props h.0) q h.1))))

    same : latest (filter (λ e. c.bound e.0) old.deleted) ≡ latest (filter (λ e. sees m e.0) old.deleted)
    same = Rattle.core_read.proofs.Latest.only_entry (passing c.bound old.deleted) (passing (sees m) old.deleted) (λ q. at q (of_revision old.deleted q) refl) _ _ (latest_of c.bound old.deleted) (latest_of (sees m) old.deleted)
      where
        none : (b : Bool) → ◌≡◌ {A = Option Bool} (cond b None None) None
        none true = refl
        none false = refl

        at : (q : Revision) (o : Option Bool) → of_revision old.deleted q ≡ o → cond (c.bound q) o None ≡ cond (sees m q) o None
        at q None h = none (c.bound q) ∙ sym (none (sees m q))
        at q (Some b) h = let s = seen q (inl (ap is_some h)) in ap (λ b'. cond b' (Some b) None) (wider q s) ∙ sym (ap (λ b'. cond b' (Some b) None) s)

    by : (o : Option (Revision × Bool)) → latest (filter (λ e. sees m e.0) old.deleted) ≡ o → option_map_or (λ e. e.1) o true ≡ true → option_and_then shows_node (latest (filter (λ e. c.bound e.0) old.deleted)) ≡ None
    by None h k = ap (option_and_then shows_node) (same ∙ h)
    by (Some e) h k = ap (option_and_then shows_node) (same ∙ h) ∙ ap (λ b. cond b None (Some e.0)) k
