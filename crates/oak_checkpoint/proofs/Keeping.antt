-- What each update makes of the settings' document.
use Rattle.std.proofs.Common.{◌≡◌, ◌≢◌, ℕ, Bool, true, false, cond, List, [], ◌∷◌, Option, None, Some, Ok, refl, sym, ap, ◌∙◌}
use Rattle.std.specs.Prelude.{◌||◌, Contains, map, nat_eq}
use Rattle.std.specs.Option.{option_map_or, option_or}
use Rattle.std.specs.declared.cmp.Ordering.{Ordering}
use Rattle.std.specs.declared.cmp.Ordering.TheVariants.{Less, Equal, Greater}
use Rattle.std.specs.Ordering.{eq_by_cmp, is_eq, match_ordering, nat_cmp, ordering_reverse}
use Rattle.std.specs.Cmp.{IsTotalOrder}
use Rattle.std.specs.Cmp.Lexicographic.{lists_total}
use Rattle.std.specs.FinMap.{IsAntisymmetric, nat_cmp-IsAntisymmetric}
use Rattle.std.specs.List.{AllByRecursion, fold, list_any}
use Rattle.std.specs.List.Sorted.{IsStrictlySortedBy}
use Rattle.std.specs.Map.{keys_of, lookup, remove_entry}
use Rattle.std.specs.BTreeMap.{is_at, insert_entry}
use Rattle.std.proofs.lemmas.Cmp.{eq_by_cmp_equiv, nat_cmp_total, tied_itself}
use Rattle.std.proofs.lemmas.Bool.{false≢true}
use Rattle.std.proofs.lemmas.Map.{lookup-remove_entry}
use Rattle.std.proofs.lemmas.Map.Views.{Contains-from_any, list_any-from_Contains}
use Rattle.std.specs.Cmp.Lexicographic.{pointwise_decides}
use Rattle.std.specs.Cmp.{unsigned_Decides}
use lib.Pointwise.{pointwise}
use Rattle.std.proofs.lemmas.Map.Keys.{IsDistinct-from_sorted}
use Rattle.jr_path.specs.Names.{name_cmp}
use Rattle.jr_path.specs.Lists.{Text}
use Rattle.jr_path.proofs.Maps.{lookup-insert_entry, name_exact}
use Rattle.jr_path.proofs.Orders.{tested}
use Rattle.jr_rev.specs.declared.vector.Pin.{Pin}
use Rattle.oak_doc.specs.declared.document.Document.{Document}
use Rattle.oak_doc.specs.declared.update.Change.TheVariants as change
use Rattle.oak_doc.specs.Updates.{after_changes, changed}
use Rattle.oak_checkpoint.specs.Settings.{attach_op, checkpoint_of, create_op, detach_op, drop_readers_op, release_op}
use Rattle.oak_checkpoint.specs.Kept.{AreDropped, Attaches, Creates, Detaches, DropsReaders, IsSetAt, MakesOfSettings, Releases}

-- ---- maps

module _ {K : Type 0} (R : K → K → Ordering) (total : IsTotalOrder R) where
  above_less : (x k : K) → R x k ≡ Less → (ks : List K) → AllByRecursion (λ y. R k y ≡ Less) ks → AllByRecursion (λ y. R x y ≡ Less) ks
  above_less x k less [] h = tt
  above_less x k less (y ∷ ks) h = (total.trans x k y less h.0, above_less x k less ks h.1)

  same_key : (k : K) → eq_by_cmp R k k ≡ true
  same_key k = ap is_eq (tied_itself total k)

  pub other_key : IsAntisymmetric R → (q k : K) → q ≢ k → eq_by_cmp R q k ≡ false
  other_key exact q k apart = by (eq_by_cmp R q k) refl
    where
      by : (b : Bool) → eq_by_cmp R q k ≡ b → b ≡ false
      by true e = absurd (apart ((tested total exact q k).0 e))
      by false e = refl

module _ {K X : Type 0} (R : K → K → Ordering) (total : IsTotalOrder R) where
  -- what is below each key is below each after an insertion of another that it is below
  below_put : (x k : K) (v : X) (es : List (K × X)) → R x k ≡ Less → AllByRecursion (λ y. R x y ≡ Less) (keys_of es) → AllByRecursion (λ y. R x y ≡ Less) (keys_of (insert_entry R es k v))
  below_put x k v [] less h = (less, tt)
  below_put x k v (e ∷ es) less h = by (R k e.0) (below_put x k v es less h.1)
    where
      by : (o : Ordering) → AllByRecursion (λ y. R x y ≡ Less) (keys_of (insert_entry R es k v)) → AllByRecursion (λ y. R x y ≡ Less) (keys_of (match_ordering o ((k, v) ∷ e ∷ es) ((e.0, v) ∷ es) (e ∷ insert_entry R es k v)))
      by Less more = (less, h)
      by Equal more = h
      by Greater more = (h.0, more)

  -- an insertion keeps the order
  sorted_put : (k : K) (v : X) (es : List (K × X)) → IsStrictlySortedBy R (keys_of es) → IsStrictlySortedBy R (keys_of (insert_entry R es k v))
  unfolding IsStrictlySortedBy
  sorted_put k v [] h = (tt, tt)
  sorted_put k v (e ∷ es) h = by (R k e.0) refl (sorted_put k v es h.1)
    where
      by : (o : Ordering) → R k e.0 ≡ o → IsStrictlySortedBy R (keys_of (insert_entry R es k v)) → IsStrictlySortedBy R (keys_of (match_ordering o ((k, v) ∷ e ∷ es) ((e.0, v) ∷ es) (e ∷ insert_entry R es k v)))
      by Less is more = ((is, above_less R total k e.0 is (keys_of es) h.0), h)
      by Equal is more = h
      by Greater is more = (below_put e.0 k v es (total.antisymm e.0 k ∙ ap ordering_reverse is) h.0, more)

  below_dropped : (x : K) (test : K → Bool) (es : List (K × X)) → AllByRecursion (λ y. R x y ≡ Less) (keys_of es) → AllByRecursion (λ y. R x y ≡ Less) (keys_of (remove_entry test es))
  below_dropped x test [] h = tt
  below_dropped x test (e ∷ es) h = by (test e.0) (below_dropped x test es h.1)
    where
      by : (b : Bool) → AllByRecursion (λ y. R x y ≡ Less) (keys_of (remove_entry test es)) → AllByRecursion (λ y. R x y ≡ Less) (keys_of (cond b es (e ∷ remove_entry test es)))
      by true more = h.1
      by false more = (h.0, more)

  -- a removal keeps the order
  sorted_dropped : (test : K → Bool) (es : List (K × X)) → IsStrictlySortedBy R (keys_of es) → IsStrictlySortedBy R (keys_of (remove_entry test es))
  unfolding IsStrictlySortedBy
  sorted_dropped test [] h = tt
  sorted_dropped test (e ∷ es) h = by (test e.0) (sorted_dropped test es h.1)
    where
      by : (b : Bool) → IsStrictlySortedBy R (keys_of (remove_entry test es)) → IsStrictlySortedBy R (keys_of (cond b es (e ∷ remove_entry test es)))
      by true more = h.1
      by false more = (below_dropped e.0 test es h.0, more)

  module _ (exact : IsAntisymmetric R) where
    -- after an insertion
    put_sets : (k : K) (v : X) (es : List (K × X)) → IsSetAt k (Some v) (λ q. lookup (is_at (R q)) es) (λ q. lookup (is_at (R q)) (insert_entry R es k v))
    put_sets k v es = record {
      here = lookup-insert_entry R total k k v es ∙ ap (λ b. cond b (Some v) (lookup (is_at (R k)) es)) (same_key R total k);
      others = λ q apart. lookup-insert_entry R total q k v es ∙ ap (λ b. cond b (Some v) (lookup (is_at (R q)) es)) (other_key R total exact q k apart);
    }

    removed_at : (q k : K) (es : List (K × X)) → IsStrictlySortedBy R (keys_of es) → lookup (is_at (R q)) (remove_entry (is_at (R k)) es) ≡ cond (eq_by_cmp R k q) None (lookup (is_at (R q)) es)
    removed_at q k es ordered = lookup-remove_entry (eq_by_cmp_equiv total) (is_at (R k)) (λ x y h. (eq_by_cmp_equiv total).congr k x y h) q es (IsDistinct-from_sorted R (keys_of es) ordered)

    -- after a removal
    removal_sets : (k : K) (es : List (K × X)) → IsStrictlySortedBy R (keys_of es) → IsSetAt k None (λ q. lookup (is_at (R q)) es) (λ q. lookup (is_at (R q)) (remove_entry (is_at (R k)) es))
    removal_sets k es ordered = record {
      here = removed_at k k es ordered ∙ ap (λ b. cond b None (lookup (is_at (R k)) es)) (same_key R total k);
      others = λ q apart. removed_at q k es ordered ∙ ap (λ b. cond b None (lookup (is_at (R q)) es)) (other_key R total exact k q (λ e. apart (sym e)));
    }

name_total : IsTotalOrder name_cmp
name_total = lists_total nat_cmp_total

-- ---- the updates

pub creates : (id : Text) (pin : Pin) → MakesOfSettings (create_op id pin) (Creates id pin)
creates id pin d n is = (
  after_changes (Some d) (create_op id pin) n,
  refl,
  record { ids = sorted_put name_cmp name_total id pin d.checkpoints is.ids; sessions = is.sessions },
  refl,
  (put_sets name_cmp name_total name_exact id pin d.checkpoints, refl),
)

pub releases : (id : Text) → MakesOfSettings (release_op id) (Releases id)
releases id d n is = (
  after_changes (Some d) (release_op id) n,
  refl,
  record { ids = sorted_dropped name_cmp name_total (is_at (name_cmp id)) d.checkpoints is.ids; sessions = is.sessions },
  refl,
  (removal_sets name_cmp name_total name_exact id d.checkpoints is.ids, refl),
)

pub detaches : (s : ℕ) → MakesOfSettings (detach_op s) (Detaches s)
detaches s d n is = (
  after_changes (Some d) (detach_op s) n,
  refl,
  record { ids = is.ids; sessions = sorted_dropped nat_cmp nat_cmp_total (is_at (nat_cmp s)) d.readers is.sessions },
  refl,
  (removal_sets nat_cmp nat_cmp_total nat_cmp-IsAntisymmetric s d.readers is.sessions, refl),
)

-- the readers, with a pin for session s where there is one
abbrev with_reader : List (ℕ × Pin) → ℕ → Option Pin → List (ℕ × Pin)
with_reader es s o = option_map_or (λ pin. insert_entry nat_cmp es s pin) o es

reader_sorted : (es : List (ℕ × Pin)) (s : ℕ) (o : Option Pin) → IsStrictlySortedBy nat_cmp (keys_of es) → IsStrictlySortedBy nat_cmp (keys_of (with_reader es s o))
reader_sorted es s None h = h
reader_sorted es s (Some pin) h = sorted_put nat_cmp nat_cmp_total s pin es h

reader_sets : (es : List (ℕ × Pin)) (s : ℕ) (o : Option Pin) → IsSetAt s (option_or o (lookup (is_at (nat_cmp s)) es)) (λ q. lookup (is_at (nat_cmp q)) es) (λ q. lookup (is_at (nat_cmp q)) (with_reader es s o))
reader_sets es s None = record { here = refl; others = λ q apart. refl }
reader_sets es s (Some pin) = put_sets nat_cmp nat_cmp_total nat_cmp-IsAntisymmetric s pin es

pub attaches : (s : ℕ) (id : Text) → MakesOfSettings (attach_op s id) (Attaches s id)
attaches s id d n is = (
  after_changes (Some d) (attach_op s id) n,
  refl,
  record { ids = is.ids; sessions = reader_sorted d.readers s (checkpoint_of d id) is.sessions },
  refl,
  (reader_sets d.readers s (checkpoint_of d id), refl),
)

-- ---- several readers

abbrev without_readers : List (ℕ × Pin) → List ℕ → List (ℕ × Pin)
without_readers es ss = fold (λ es s. remove_entry (is_at (nat_cmp s)) es) es ss

all_dropped : (ss : List ℕ) (d : Document) → fold changed d (map change.Detach ss) ≡ record d { readers = without_readers d.readers ss }
all_dropped [] d = refl
all_dropped (s ∷ ss) d = all_dropped ss (changed d (change.Detach s))

sorted_without : (ss : List ℕ) (es : List (ℕ × Pin)) → IsStrictlySortedBy nat_cmp (keys_of es) → IsStrictlySortedBy nat_cmp (keys_of (without_readers es ss))
sorted_without [] es h = h
sorted_without (s ∷ ss) es h = sorted_without ss (remove_entry (is_at (nat_cmp s)) es) (sorted_dropped nat_cmp nat_cmp_total (is_at (nat_cmp s)) es h)

abbrev reader_in : List (ℕ × Pin) → ℕ → Option Pin
reader_in es s = lookup (is_at (nat_cmp s)) es

none_or : (a b : Bool) (x : Option Pin) → cond a None (cond b None x) ≡ cond (b || a) None x
none_or true true x = refl
none_or true false x = refl
none_or false true x = refl
none_or false false x = refl

-- the readers of all but these sessions are found as before
found_without : (ss : List ℕ) (es : List (ℕ × Pin)) (q : ℕ) → IsStrictlySortedBy nat_cmp (keys_of es) → reader_in (without_readers es ss) q ≡ cond (list_any (eq_by_cmp nat_cmp q) ss) None (reader_in es q)
found_without [] es q ordered = refl
found_without (s ∷ ss) es q ordered =
    found_without ss (remove_entry (is_at (nat_cmp s)) es) q (sorted_dropped nat_cmp nat_cmp_total (is_at (nat_cmp s)) es ordered)
    ∙ (ap (cond (list_any (eq_by_cmp nat_cmp q) ss) None) (removed_at nat_cmp nat_cmp_total nat_cmp-IsAntisymmetric q s es ordered ∙ ap (λ b. cond b None (reader_in es q)) ((eq_by_cmp_equiv nat_cmp_total).symm s q))
    ∙ none_or (list_any (eq_by_cmp nat_cmp q) ss) (eq_by_cmp nat_cmp q s) (reader_in es q))

dropped : (ss : List ℕ) (d : Document) → IsStrictlySortedBy nat_cmp (keys_of d.readers) → AreDropped ss d (record d { readers = without_readers d.readers ss })
dropped ss d ordered = record {
  gone = λ q there. found_without ss d.readers q ordered ∙ ap (λ b. cond b None (reader_in d.readers q)) (list_any-from_Contains (eq_by_cmp_equiv nat_cmp_total) q ss there);
  others = λ q apart. found_without ss d.readers q ordered ∙ ap (λ b. cond b None (reader_in d.readers q)) (not_any q apart (list_any (eq_by_cmp nat_cmp q) ss) refl);
}
  where
    not_any : (q : ℕ) → (Contains ss q → ⊥) → (b : Bool) → list_any (eq_by_cmp nat_cmp q) ss ≡ b → b ≡ false
    not_any q apart true e = absurd (apart (Contains-from_any (λ x y h. (tested nat_cmp_total nat_cmp-IsAntisymmetric x y).0 h) q ss e))
    not_any q apart false e = refl

pub drops_readers : (ss : List ℕ) → MakesOfSettings (drop_readers_op ss) (DropsReaders ss)
drops_readers ss d n is = (
  record d { readers = without_readers d.readers ss; mod_count = n },
  ap (λ (e : Document). Ok (record e { mod_count = n })) (all_dropped ss d),
  record { ids = is.ids; sessions = sorted_without ss d.readers is.sessions },
  refl,
  ((let are = dropped ss d is.sessions in record { gone = are.gone; others = are.others }), refl),
)

-- ---- texts

-- texts are equal, byte by byte, exactly where they tie in the order of ids
pub same_text : (a b : Text) → eq_by_cmp name_cmp b a ≡ pointwise nat_eq a b
same_text a b = by (pointwise nat_eq a b) refl
  where
    by : (c : Bool) → pointwise nat_eq a b ≡ c → eq_by_cmp name_cmp b a ≡ c
    by true e = (tested name_total name_exact b a).1 (sym ((pointwise_decides unsigned_Decides a b).0 e))
    by false e = other_key name_cmp name_total name_exact b a (λ same. false≢true (sym e ∙ (pointwise_decides unsigned_Decides a b).1 (sym same)))

-- the first of the checkpoints that are left is the one looked for
pub found_here : (id key : Text) (pin : Pin) (es more : List (Text × Pin)) (x : Option Pin) → es ≡ (key, pin) ∷ more → true ≡ pointwise nat_eq key id → lookup (is_at (name_cmp id)) es ≡ x → Some pin ≡ x
found_here id key pin es more x is same left = sym (ap (λ b. cond b (Some pin) (lookup (is_at (name_cmp id)) more)) (same_text key id ∙ sym same)) ∙ (sym (ap (lookup (is_at (name_cmp id))) is) ∙ left)

-- it is another one
pub found_behind : (id key : Text) (pin : Pin) (es more : List (Text × Pin)) (x : Option Pin) → es ≡ (key, pin) ∷ more → false ≡ pointwise nat_eq key id → lookup (is_at (name_cmp id)) es ≡ x → lookup (is_at (name_cmp id)) more ≡ x
found_behind id key pin es more x is other left = sym (ap (λ b. cond b (Some pin) (lookup (is_at (name_cmp id)) more)) (same_text key id ∙ sym other)) ∙ (sym (ap (lookup (is_at (name_cmp id))) is) ∙ left)
