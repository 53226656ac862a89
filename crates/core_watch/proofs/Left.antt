-- Which ids a reader is left to read, and what it knows once a document is noted.
use Rattle.std.proofs.Common.{◌≡◌, ◌⊎◌, inl, inr, Bool, true, false, cond, not, ◌&&◌, ◌||◌, Some, None, Option, List, [], ◌∷◌, ◌++◌, refl, sym, ap, ◌∙◌, subst, is_some}
use Rattle.std.specs.Prelude.{is_none, map}
use Rattle.std.specs.declared.cmp.Ordering.{Ordering}
use Rattle.std.specs.declared.cmp.Ordering.TheVariants.{Less, Equal, Greater}
use Rattle.std.specs.Option.{option_map, option_map_or, option_or, unwrap_or}
use Rattle.std.specs.Ordering.{eq_by_cmp, is_eq, match_ordering, ordering_reverse}
use Rattle.std.specs.FinMap.{is_sorted}
use Rattle.std.specs.FinMap.Entries.{below_all}
use Rattle.std.specs.Map.{lookup, keys_of}
use Rattle.std.specs.BTreeMap.{is_at, insert_entry}
use Rattle.std.specs.List.{filter, filter_map, flat_map, fold, list_all, list_any}
use mathlib.Core.Bool.{false≢true}
use Rattle.jr_path.specs.Ids.{id_cmp}
use Rattle.jr_path.specs.Names.{name_cmp}
use Rattle.jr_path.specs.declared.name.Name.{Name}
use Rattle.jr_path.specs.declared.path.Path.{Path}
use Rattle.jr_path.specs.declared.path.DocId.{DocId}
use Rattle.jr_path.specs.declared.path.DocId.TheVariants as id
use Rattle.jr_path.proofs.Maps.{lookup-insert_entry}
use Rattle.jr_path.proofs.Orders.{id_total}
use Rattle.jr_rev.specs.declared.revision.Revision.{Revision}
use Rattle.jr_rev.specs.declared.vector.RevVec.{RevVec}
use Rattle.jr_rev.specs.Revisions.{revision_cmp}
use Rattle.jr_rev.specs.Vectors.{sees}
use Rattle.oak_doc.specs.declared.document.Document.{Document}
use Rattle.oak_doc.specs.Updates.{Props, of_revision, values_of_property}
use Rattle.oak_read.specs.Meaning.{documents_in, commit_root_of}
use Rattle.oak_read.specs.Shown.{with_previous}
use Rattle.oak_read.specs.Wanted.{Known, Ids, with_unknown, unknown, asked_roots, property_roots, roots_of, roots_wanted}
use Rattle.oak_read.specs.Reading.{with_known}
use Rattle.oak_read.proofs.Walking.{same_id, own_id}
use Rattle.core_read.proofs.Entries.{both, first, is_less, second, sorted_insert}
use Rattle.core_read.proofs.Latest.{same_revision}
use Rattle.core_watch.specs.Standing.{HasEntry, is_known_or_left}

or_first : (a b : Bool) → a ≡ true → (a || b) ≡ true
or_first true b h = refl
or_first false b h = absurd (false≢true h)

or_else : (a b : Bool) → b ≡ true → (a || b) ≡ true
or_else true b h = refl
or_else false b h = h

pub either : (a b : Bool) → (a || b) ≡ true → (a ≡ true) ⊎ (b ≡ true)
either true b h = inl refl
either false b h = inr h

some_kept : {X : Type 0} (b : Bool) (x : X) (o : Option X) → is_some o ≡ true → is_some (cond b (Some x) o) ≡ true
some_kept true x o h = refl
some_kept false x o h = h

-- ---- ids that aren't known are left

module _ (known : Known) where
  kept_by_one : (x y : DocId) (ids : Ids) → is_known_or_left known ids x ≡ true → is_known_or_left known (with_unknown known ids y) x ≡ true
  kept_by_one x y ids h = by (is_some (lookup (is_at (id_cmp y)) known))
    where
      by : (b : Bool) → is_known_or_left known (cond b ids (insert_entry id_cmp ids y tt)) x ≡ true
      by true = h
      by false = ap (λ o. is_some (documents_in known x) || is_some o) (lookup-insert_entry id_cmp id_total x y tt ids) ∙ at (either (is_some (documents_in known x)) (is_some (lookup (is_at (id_cmp x)) ids)) h)
        where
          at : (is_some (documents_in known x) ≡ true) ⊎ (is_some (lookup (is_at (id_cmp x)) ids) ≡ true) → (is_some (documents_in known x) || is_some (cond (eq_by_cmp id_cmp x y) (Some tt) (lookup (is_at (id_cmp x)) ids))) ≡ true
          at (inl k) = or_first _ _ k
          at (inr k) = or_else (is_some (documents_in known x)) _ (some_kept (eq_by_cmp id_cmp x y) tt (lookup (is_at (id_cmp x)) ids) k)

  taken : (x : DocId) (ids : Ids) → is_known_or_left known (with_unknown known ids x) x ≡ true
  taken x ids = by (is_some (lookup (is_at (id_cmp x)) known)) refl
    where
      by : (b : Bool) → is_some (lookup (is_at (id_cmp x)) known) ≡ b → is_known_or_left known (cond b ids (insert_entry id_cmp ids x tt)) x ≡ true
      by true h = or_first _ _ h
      by false h = or_else (is_some (documents_in known x)) _ (ap is_some (lookup-insert_entry id_cmp id_total x x tt ids) ∙ ap (λ b. is_some (cond b (Some tt) (lookup (is_at (id_cmp x)) ids))) (own_id x))

  kept_by_all : (x : DocId) (ys : List DocId) (ids : Ids) → is_known_or_left known ids x ≡ true → is_known_or_left known (fold (with_unknown known) ids ys) x ≡ true
  kept_by_all x [] ids h = h
  kept_by_all x (y ∷ ys) ids h = kept_by_all x ys (with_unknown known ids y) (kept_by_one x y ids h)

  pub unknown_left : (x : DocId) (ys : List DocId) (ids : Ids) → list_any (eq_by_cmp id_cmp x) ys ≡ true → is_known_or_left known (fold (with_unknown known) ids ys) x ≡ true
  unknown_left x [] ids h = absurd (false≢true h)
  unknown_left x (y ∷ ys) ids h = by (eq_by_cmp id_cmp x y) refl h (λ k. unknown_left x ys (with_unknown known ids y) k)
    where
      by : (b : Bool) → eq_by_cmp id_cmp x y ≡ b → (b || list_any (eq_by_cmp id_cmp x) ys) ≡ true → (list_any (eq_by_cmp id_cmp x) ys ≡ true → is_known_or_left known (fold (with_unknown known) (with_unknown known ids y) ys) x ≡ true)
          → is_known_or_left known (fold (with_unknown known) (with_unknown known ids y) ys) x ≡ true
      by true e k rest = kept_by_all x ys (with_unknown known ids y) (subst (λ (z : DocId). is_known_or_left known (with_unknown known ids z) x ≡ true) (same_id x y e) (taken x ids))
      by false e k rest = rest k

-- ---- the commit roots of entries are asked for

pub any_front : {X : Type 0} (f : X → Bool) (xs ys : List X) → list_any f xs ≡ true → list_any f (xs ++ ys) ≡ true
any_front f [] ys h = absurd (false≢true h)
any_front f (x ∷ xs) ys h = by (either (f x) (list_any f xs) h) (λ k. any_front f xs ys k)
  where
    by : (f x ≡ true) ⊎ (list_any f xs ≡ true) → (list_any f xs ≡ true → list_any f (xs ++ ys) ≡ true) → (f x || list_any f (xs ++ ys)) ≡ true
    by (inl k) rest = or_first (f x) _ k
    by (inr k) rest = or_else (f x) _ (rest k)

pub any_back : {X : Type 0} (f : X → Bool) (xs ys : List X) → list_any f ys ≡ true → list_any f (xs ++ ys) ≡ true
any_back f [] ys h = h
any_back f (x ∷ xs) ys h = or_else (f x) _ (any_back f xs ys h)

some_of_not : (o : Option Bool) → is_some (option_map not o) ≡ true → is_some o ≡ true
some_of_not None h = h
some_of_not (Some b) h = refl

module _ (t v : RevVec) (d : Document) (q : Revision) (seen : sees v q ≡ true) (unswept : sees t q ≡ false) where
  abbrev pub is_root : DocId → Bool
  is_root = eq_by_cmp id_cmp (commit_root_of d q)

  wanted : (sees v q && not (sees t q)) ≡ true
  wanted = ap (λ b. b && not (sees t q)) seen ∙ ap not unswept

  among_entries : {X : Type 0} (es : List (Revision × X)) → is_some (of_revision es q) ≡ true → list_any is_root (asked_roots t v d (keys_of es)) ≡ true
  among_entries [] h = absurd (false≢true h)
  among_entries (e ∷ es) h = by (eq_by_cmp revision_cmp q e.0) refl h (λ k. among_entries es k)
    where
      passed : (b : Bool) → (sees v e.0 && not (sees t e.0)) ≡ b → b ≡ true → q ≡ e.0
          → list_any is_root (map (commit_root_of d) (cond b (e.0 ∷ filter (λ r. sees v r && not (sees t r)) (keys_of es)) (filter (λ r. sees v r && not (sees t r)) (keys_of es)))) ≡ true
      passed true h k same = or_first _ _ (subst (λ (r : Revision). is_root (commit_root_of d r) ≡ true) same (own_id (commit_root_of d q)))
      passed false h k same = absurd (false≢true k)

      behind : (b : Bool) → list_any is_root (map (commit_root_of d) (filter (λ r. sees v r && not (sees t r)) (keys_of es))) ≡ true
          → list_any is_root (map (commit_root_of d) (cond b (e.0 ∷ filter (λ r. sees v r && not (sees t r)) (keys_of es)) (filter (λ r. sees v r && not (sees t r)) (keys_of es)))) ≡ true
      behind true k = or_else (is_root (commit_root_of d e.0)) _ k
      behind false k = k

      by : (b : Bool) → eq_by_cmp revision_cmp q e.0 ≡ b → is_some (cond b (Some e.1) (of_revision es q)) ≡ true → (is_some (of_revision es q) ≡ true → list_any is_root (asked_roots t v d (keys_of es)) ≡ true)
          → list_any is_root (asked_roots t v d (keys_of (e ∷ es))) ≡ true
      by true k some rest =
          let same : q ≡ e.0 = same_revision q e.0 k in
          passed (sees v e.0 && not (sees t e.0)) refl (subst (λ (r : Revision). (sees v r && not (sees t r)) ≡ true) same wanted) same
      by false k some rest = behind (sees v e.0 && not (sees t e.0)) (rest some)

  among_properties : (n : Name) (ps : Props) → is_some (of_revision (values_of_property ps n) q) ≡ true → list_any is_root (property_roots t v d ps) ≡ true
  among_properties n [] h = absurd (false≢true h)
  among_properties n (p ∷ ps) h = by (is_at (name_cmp n) p.0) h (λ k. among_properties n ps k)
    where
      by : (b : Bool) → is_some (of_revision (unwrap_or (cond b (Some p.1) (lookup (is_at (name_cmp n)) ps)) []) q) ≡ true → (is_some (of_revision (values_of_property ps n) q) ≡ true → list_any is_root (property_roots t v d ps) ≡ true)
          → list_any is_root (asked_roots t v d (keys_of p.1) ++ property_roots t v d ps) ≡ true
      by true some rest = any_front is_root (asked_roots t v d (keys_of p.1)) (property_roots t v d ps) (among_entries p.1 some)
      by false some rest = any_back is_root (asked_roots t v d (keys_of p.1)) (property_roots t v d ps) (rest some)

  pub among_roots : (whole : Bool) → HasEntry whole d q → list_any is_root (roots_of t v whole d) ≡ true
  among_roots whole (inl some) = any_front is_root (asked_roots t v d (keys_of d.deleted)) _ (among_entries d.deleted (some_of_not (of_revision d.deleted q) some))
  among_roots whole (inr some) = any_back is_root (asked_roots t v d (keys_of d.deleted)) _
      (subst (λ (b : Bool). list_any is_root (cond b (property_roots t v d d.props) []) ≡ true) (sym some.1) (among_properties some.0 d.props some.2))

-- ---- what is left stands in order, and isn't known

module _ (known : Known) where
  abbrev pub AreUnknown : Ids → Type 0
  AreUnknown ids = list_all (λ e. is_none (documents_in known e.0)) ids ≡ true

  none_of : (o : Option Document) → is_some o ≡ false → is_none o ≡ true
  none_of None h = refl
  none_of (Some d) h = absurd (false≢true (sym h))

  unknown_more : (x : DocId) (ids : Ids) → is_none (documents_in known x) ≡ true → AreUnknown ids → AreUnknown (insert_entry id_cmp ids x tt)
  unknown_more x [] none h = both _ _ none refl
  unknown_more x (e ∷ ids) none h = by (id_cmp x e.0) (unknown_more x ids none (second _ _ h))
    where
      by : (o : Ordering) → AreUnknown (insert_entry id_cmp ids x tt) → AreUnknown (match_ordering o ((x, tt) ∷ e ∷ ids) ((e.0, tt) ∷ ids) (e ∷ insert_entry id_cmp ids x tt))
      by Less rest = both _ _ none h
      by Equal rest = h
      by Greater rest = both _ _ (first _ _ h) rest

  one_unknown : (x : DocId) (ids : Ids) → AreUnknown ids → AreUnknown (with_unknown known ids x)
  one_unknown x ids h = by (is_some (lookup (is_at (id_cmp x)) known)) refl
    where
      by : (b : Bool) → is_some (lookup (is_at (id_cmp x)) known) ≡ b → AreUnknown (cond b ids (insert_entry id_cmp ids x tt))
      by true e = h
      by false e = unknown_more x ids (none_of (documents_in known x) e) h

  pub all_unknown : (xs : List DocId) (ids : Ids) → AreUnknown ids → AreUnknown (fold (with_unknown known) ids xs)
  all_unknown [] ids h = h
  all_unknown (x ∷ xs) ids h = all_unknown xs (with_unknown known ids x) (one_unknown x ids h)

  one_rising : (x : DocId) (ids : Ids) → is_sorted id_cmp ids ≡ true → is_sorted id_cmp (with_unknown known ids x) ≡ true
  one_rising x ids h = by (is_some (lookup (is_at (id_cmp x)) known))
    where
      by : (b : Bool) → is_sorted id_cmp (cond b ids (insert_entry id_cmp ids x tt)) ≡ true
      by true = h
      by false = sorted_insert id_cmp id_total x tt ids h

  pub all_rising : (xs : List DocId) (ids : Ids) → is_sorted id_cmp ids ≡ true → is_sorted id_cmp (fold (with_unknown known) ids xs) ≡ true
  all_rising [] ids h = h
  all_rising (x ∷ xs) ids h = all_rising xs (with_unknown known ids x) (one_rising x ids h)

-- ---- a document is noted

-- what is known of an id once the answer to another is noted
pub noted_at : (known : Known) (y : DocId) (o : Option Document) (x : DocId) → documents_in (with_known known y o) x ≡ cond (eq_by_cmp id_cmp x y) (option_or (documents_in known y) o) (documents_in known x)
noted_at known y o x = by o
  where
    or_nothing : (b : Option Document) → option_or b None ≡ b
    or_nothing None = refl
    or_nothing (Some d) = refl

    -- the id itself, or another
    at_either : (b : Option Document) → documents_in known y ≡ b → documents_in known x ≡ cond (eq_by_cmp id_cmp x y) b (documents_in known x)
    at_either b is = at (eq_by_cmp id_cmp x y) refl
      where
        at : (c : Bool) → eq_by_cmp id_cmp x y ≡ c → documents_in known x ≡ cond c b (documents_in known x)
        at true e = ap (documents_in known) (same_id x y e) ∙ is
        at false e = refl

    found : (d : Document) (b : Option Document) → documents_in known y ≡ b → documents_in (cond (is_some b) known (insert_entry id_cmp known y d)) x ≡ cond (eq_by_cmp id_cmp x y) (option_or b (Some d)) (documents_in known x)
    found d None is = lookup-insert_entry id_cmp id_total x y d known
    found d (Some c) is = at_either (Some c) is

    by : (o : Option Document) → documents_in (with_known known y o) x ≡ cond (eq_by_cmp id_cmp x y) (option_or (documents_in known y) o) (documents_in known x)
    by None = at_either (option_or (documents_in known y) None) (sym (or_nothing (documents_in known y)))
    by (Some d) = found d (documents_in known y) refl

-- what was known stays known
pub still_known : (known : Known) (y : DocId) (o : Option Document) (x : DocId) → is_some (documents_in known x) ≡ true → is_some (documents_in (with_known known y o) x) ≡ true
still_known known y o x h = ap is_some (noted_at known y o x) ∙ by (eq_by_cmp id_cmp x y) refl
  where
    kept : (a b : Option Document) → is_some a ≡ true → is_some (option_or a b) ≡ true
    kept None b h = absurd (false≢true h)
    kept (Some d) b h = refl

    by : (c : Bool) → eq_by_cmp id_cmp x y ≡ c → is_some (cond c (option_or (documents_in known y) o) (documents_in known x)) ≡ true
    by true e = kept (documents_in known y) o (ap (λ z. is_some (documents_in known z)) (sym (same_id x y e)) ∙ h)
    by false e = h

pub same_known : (known : Known) (y : DocId) (o : Option Document) (x : DocId) (d : Document) → documents_in known x ≡ Some d → documents_in (with_known known y o) x ≡ Some d
same_known known y o x d h = noted_at known y o x ∙ by (eq_by_cmp id_cmp x y) refl
  where
    by : (c : Bool) → eq_by_cmp id_cmp x y ≡ c → cond c (option_or (documents_in known y) o) (documents_in known x) ≡ Some d
    by true e = ap (λ b. option_or b o) (ap (documents_in known) (sym (same_id x y e)) ∙ h)
    by false e = h

-- the document that was found is known
pub now_known : (known : Known) (y : DocId) (o : Option Document) → is_some o ≡ true → is_some (documents_in (with_known known y o) y) ≡ true
now_known known y o h = ap is_some (noted_at known y o y) ∙ (ap (λ c. is_some (cond c (option_or (documents_in known y) o) (documents_in known y))) (own_id y) ∙ found (documents_in known y) o h)
  where
    found : (a b : Option Document) → is_some b ≡ true → is_some (option_or a b) ≡ true
    found None b h = h
    found (Some d) b h = refl

-- what is known stays in order
pub noted_rising : (known : Known) (y : DocId) (o : Option Document) → is_sorted id_cmp known ≡ true → is_sorted id_cmp (with_known known y o) ≡ true
noted_rising known y None h = h
noted_rising known y (Some d) h = by (is_some (documents_in known y))
  where
    by : (b : Bool) → is_sorted id_cmp (cond b known (insert_entry id_cmp known y d)) ≡ true
    by true = h
    by false = sorted_insert id_cmp id_total y d known h

-- of ids behind the one that is noted none is known yet
pub still_unknown : (known : Known) (y : DocId) (o : Option Document) (ids : Ids) → below_all id_cmp y ids ≡ true → list_all (λ e. is_none (documents_in known e.0)) ids ≡ true → list_all (λ e. is_none (documents_in (with_known known y o) e.0)) ids ≡ true
still_unknown known y o [] below h = refl
still_unknown known y o (e ∷ ids) below h = both _ _
    (ap is_none (noted_at known y o e.0 ∙ ap (λ b. cond b (option_or (documents_in known y) o) (documents_in known e.0)) other) ∙ first _ _ h)
    (still_unknown known y o ids (second _ _ below) (second _ _ h))
  where
    other : eq_by_cmp id_cmp e.0 y ≡ false
    other = ap is_eq (id_total.antisymm e.0 y ∙ ap ordering_reverse (is_less (id_cmp y e.0) (first _ _ below)))
