-- The changes at or below a path stand one after another.
use Rattle.std.proofs.Common.{◌≡◌, Bool, true, false, cond, List, [], ◌∷◌, ◌++◌, refl, sym, ap, ◌∙◌, append_assoc, append-nil}
use Rattle.std.specs.Ordering.{is_le}
use Rattle.std.specs.List.{filter, list_all}
use Rattle.std.specs.FinMap.{is_sorted}
use Rattle.std.specs.FinMap.Entries.{below_all}
use Rattle.std.specs.BTreeMap.Range.{range_contains, entries_between}
use Rattle.std.specs.declared.ops.Bound.TheVariants.{Included, Unbounded}
use Rattle.std.proofs.lemmas.Bool.{false≢true, and_parts, and_from, false_from_ne_true}
use Rattle.jr_path.specs.Names.{path_cmp, is_under}
use Rattle.jr_path.specs.declared.path.Path.{Path}
use Rattle.jr_tree.proofs.Entries.{first, second, sorted_filter}
use Rattle.jr_tree.proofs.Under.{under_between, under_from}
use Rattle.basics.proofs.Orders.{less_of}
use Rattle.jr_overlay.specs.declared.overlay.Change.{Change}
use Rattle.jr_overlay.specs.Overlays.{Changed}
use Rattle.jr_overlay.specs.Merging.{changes_under}

-- the entries from a path on
abbrev is_from : Path → Path × Change → Bool
is_from p e = range_contains path_cmp (Included p) Unbounded e.0

all_filtered : {X : Type 0} (test : X → Bool) (xs : List X) → list_all test (filter test xs) ≡ true
all_filtered test [] = refl
all_filtered test (x ∷ xs) = by (test x) refl (all_filtered test xs)
  where
    by : (b : Bool) → test x ≡ b → list_all test (filter test xs) ≡ true → list_all test (cond b (x ∷ filter test xs) (filter test xs)) ≡ true
    by true e rest = and_from _ _ e rest
    by false e rest = rest

-- where an entry from p on isn't under p, none behind it is
none_under : (p : Path) (e : Path × Change) (es : Changed) → is_from p e ≡ true → is_under e.0 p ≡ false → below_all path_cmp e.0 es ≡ true → changes_under es p ≡ []
none_under p e [] from out above = refl
none_under p e (f ∷ es) from out above =
    let not_f : is_under f.0 p ≡ false =
    false_from_ne_true _ (λ h. false≢true (sym out ∙ under_between p e.0 f.0 ((and_parts _ _ from).0) (ap is_le (less_of _ (first _ _ above))) h)) in
    ap (λ b. cond b (f ∷ changes_under es p) (changes_under es p)) not_f ∙ none_under p e es from out (second _ _ above)

-- what is at or below p is from p on
under_range : (c : Changed) (p : Path) → changes_under (filter (is_from p) c) p ≡ changes_under c p
under_range [] p = refl
under_range (e ∷ c) p = by (is_from p e) refl (under_range c p)
  where
    by : (b : Bool) → is_from p e ≡ b → changes_under (filter (is_from p) c) p ≡ changes_under c p → changes_under (cond b (e ∷ filter (is_from p) c) (filter (is_from p) c)) p ≡ changes_under (e ∷ c) p
    by true h rest = ap (λ (es : Changed). cond (is_under e.0 p) (e ∷ es) es) rest
    by false h rest =
        let out : is_under e.0 p ≡ false = false_from_ne_true _ (λ u. false≢true (sym h ∙ and_from _ _ (under_from p e.0 u) refl)) in
        rest ∙ ap (λ b. cond b (e ∷ changes_under c p) (changes_under c p)) (sym out)

-- a search of what is at or below p in c: what was found, and what is left
pub record IsSearch (p : Path) (c found rest : Changed) : Type 0 where
  pub whole : found ++ changes_under rest p ≡ changes_under c p
  pub sorted : is_sorted path_cmp rest ≡ true
  pub from : list_all (is_from p) rest ≡ true

pub search_begins : (p : Path) (entries c found range rest : Changed) → entries ≡ c → is_sorted path_cmp c ≡ true → range ≡ entries_between path_cmp (Included p) Unbounded entries → rest ≡ range → found ≡ [] → IsSearch p c found rest
search_begins p entries c found range rest all sorted between same none =
    rw (none, same, between, all) (record { whole = under_range c p; sorted = sorted_filter path_cmp (is_from p) c sorted; from = all_filtered (is_from p) c })

-- the next entry is found
pub search_goes_on : (p : Path) (c found found' rest more : Changed) (e : Path × Change) → IsSearch p c found rest → rest ≡ e ∷ more → is_under e.0 p ≡ true → found' ≡ found ++ e ∷ [] → IsSearch p c found' more
search_goes_on p c found found' rest more e so_far split under new =
    let at : IsSearch p c found (e ∷ more) = rw split at so_far in
    record {
      whole = rw new (append_assoc found (e ∷ []) (changes_under more p) ∙ (ap (λ b. found ++ cond b (e ∷ changes_under more p) (changes_under more p)) (sym under) ∙ at.whole));
      sorted = second _ _ at.sorted;
      from = (and_parts _ _ at.from).1;
    }

pub search_ends : (p : Path) (c found rest : Changed) → IsSearch p c found rest → rest ≡ [] → found ≡ changes_under c p
search_ends p c found rest so_far none = sym (append-nil found) ∙ (ap (λ (es : Changed). found ++ changes_under es p) (sym none) ∙ so_far.whole)

-- an entry isn't under p, so none behind it is
pub search_stops : (p : Path) (c found rest more : Changed) (e : Path × Change) → IsSearch p c found rest → rest ≡ e ∷ more → is_under e.0 p ≡ false → found ≡ changes_under c p
search_stops p c found rest more e so_far split out =
    let at : IsSearch p c found (e ∷ more) = rw split at so_far in
    sym (append-nil found)
    ∙ (ap (λ (es : Changed). found ++ es) (sym (none_under p e more (and_parts _ _ at.from).0 out (first _ _ at.sorted)))
    ∙ (ap (λ b. found ++ cond b (e ∷ changes_under more p) (changes_under more p)) (sym out) ∙ at.whole))

-- the changes at or below a path stand in order
pub sorted_under : (c : Changed) (p : Path) → is_sorted path_cmp c ≡ true → is_sorted path_cmp (changes_under c p) ≡ true
sorted_under c p s = sorted_filter path_cmp (λ e. is_under e.0 p) c s
