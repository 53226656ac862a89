-- A reader of documents at rest ends in what they mean.
use Rattle.std.proofs.Common.{◌≡◌, ◌≢◌, ◌+◌, zero, Bool, true, false, cond, ◌&&◌, ◌⊎◌, inl, inr, List, [], ◌∷◌, ◌++◌, Option, None, Some, refl, sym, ap, ◌∙◌, subst, append-nil, append_assoc}
use Rattle.std.specs.Prelude.{All, codes, is_some, not, option_to_list, slice_get}
use Rattle.std.specs.Option.{option_map, option_map_or}
use Rattle.std.specs.declared.cmp.Ordering.{Ordering}
use Rattle.std.specs.declared.cmp.Ordering.TheVariants.{Less, Equal, Greater}
use Rattle.std.specs.declared.ops.Bound.TheVariants.{Excluded, Unbounded}
use Rattle.std.specs.Ordering.{is_eq, is_lt, ordering_reverse}
use Rattle.std.specs.List.{AllByRecursion, filter_map, cons_option}
use Rattle.std.specs.List.Sorted.{IsStrictlySortedBy}
use Rattle.std.specs.Map.{keys_of, lookup}
use Rattle.std.specs.BTreeMap.{is_at}
use Rattle.std.specs.BTreeMap.Range.{entries_between, range_contains}
use Rattle.std.proofs.lemmas.Bool.{false≢true}
use Rattle.std.proofs.lemmas.List.Elements.{recursion_from_All}
use Rattle.std.specs.declared.alloc.Global.{Global}
use Rattle.jr_path.specs.Grammar.{IsName}
use Rattle.jr_path.specs.Ids.{id_cmp}
use Rattle.jr_path.specs.Names.{last_name}
use Rattle.jr_path.specs.declared.name.Name.{Name}
use Rattle.jr_path.specs.declared.path.Path.{Path}
use Rattle.jr_path.specs.declared.path.DocId.{DocId}
use Rattle.jr_path.specs.declared.path.DocId.TheVariants as id
use Rattle.jr_path.proofs.Orders.{id_total, id_exact}
use Rattle.jr_path.proofs.Pieces.{AllNoSlash, all_no_slash, names_from_all}
use Rattle.jr_rev.specs.declared.revision.Revision.{Revision}
use Rattle.jr_tree.specs.declared.tree.Node.{Node}
use Rattle.jr_tree.specs.Trees.{born_of, is_child_of}
use Rattle.jr_rev.specs.declared.vector.Pin.{Pin}
use Rattle.oak_doc.specs.declared.document.Document.{Document}
use Rattle.oak_read.specs.Meaning.{documents_in, path_of, child_found, found_node, found_children}
use Rattle.oak_read.specs.Wanted.{Known}
use Rattle.oak_read.specs.Reading.{IsTable, EndsIn, ReadsNode, ReadsChildren, child_path_in, children_reader, ended, fed_main, fed_next, node_reader, noted, settled, with_known}
use Rattle.oak_read.specs.declared.reader.Reader.{Reader}
use Rattle.oak_read.specs.declared.reader.ReadOut.{ReadOut}
use Rattle.oak_read.specs.declared.reader.ReadOut.TheVariants as out
use Rattle.oak_read.specs.declared.reader.Step.{Step}
use Rattle.oak_read.specs.declared.reader.Step.TheVariants as step
use Rattle.oak_read.proofs.Agreeing.{birth_agrees, found_agrees, none_found, presence_agrees}
use Rattle.oak_read.proofs.Below.{Child, found_below, names_rise, own_child}
use Rattle.oak_read.proofs.Ranges.{child_between, none_before}
use Rattle.oak_read.proofs.Walking.{Within, IsRead, ends_after, main_end, noted_at, own_id, within_noted}

-- ---- a node

nothing_known : (table : List (DocId × Document)) → Within table []
nothing_known table x d h = cc

-- what is known once the document of an id is found
first_known : (table : List (DocId × Document)) (known : Known) (x : DocId) (d : Document) → Within table known → documents_in table x ≡ Some d → Within table (with_known known x (Some d)) × (documents_in (with_known known x (Some d)) x ≡ Some d)
first_known table known x d within there = (
  subst (λ o. Within table (with_known known x o)) there (within_noted table known within x),
  subst (λ o. documents_in (with_known known x o) x ≡ Some d) there (noted_at table known within x x ∙ ap (λ b. cond b (documents_in table x) (documents_in known x)) (own_id x) ∙ there),
)

abbrev gives : Option Node → ReadOut
gives found = out.Node found

pub reads_node : ReadsNode
reads_node table a pin p is = by (documents_in table (id.Node p)) refl
  where
    by : (o : Option Document) → documents_in table (id.Node p) ≡ o → EndsIn table (node_reader a pin p) (gives (found_node (documents_in table) pin.sweep pin.base p))
    by None none =
        ends_after table (node_reader a pin p) _
        (subst (λ o. EndsIn table (fed_main (node_reader a pin p) o) (gives (found_node (documents_in table) pin.sweep pin.base p))) (sym none)
        (zero, ap (λ o. step.Done (gives o)) (sym (none_found (documents_in table) pin.sweep pin.base p none))))
    by (Some d) there =
        ends_after table (node_reader a pin p) _
        (subst (λ o. EndsIn table (fed_main (node_reader a pin p) o) (gives (found_node (documents_in table) pin.sweep pin.base p))) (sym there)
        (main_end table (record (node_reader a pin p) { known = with_known [] (id.Node p) (Some d) }) _ d there
        (λ known s read. (zero, ap (λ o. step.Done (gives o)) (found_agrees (documents_in table) (documents_in known) pin.sweep pin.base p d read.here there read.previous read.roots)))
        (first_known table [] (id.Node p) d (nothing_known table) there).0 (first_known table [] (id.Node p) d (nothing_known table) there).1))

-- ---- what stands behind an id

abbrev pub Entries : Type 0
Entries = List (DocId × Document)

abbrev pub behind : DocId → Entries → Entries
behind x es = entries_between id_cmp (Excluded x) Unbounded es

abbrev pub passes : DocId → DocId → Bool
passes x y = range_contains id_cmp (Excluded x) Unbounded y

passes_less : (x y : DocId) → id_cmp x y ≡ Less → passes x y ≡ true
passes_less x y h = ap (λ o. is_lt o && not false) h

less_passes : (x y : DocId) → passes x y ≡ true → id_cmp x y ≡ Less
less_passes x y h = by (id_cmp x y) h
  where
    by : (o : Ordering) → (is_lt o && not false) ≡ true → o ≡ Less
    by Less e = refl
    by Equal e = cc
    by Greater e = cc

pub passes_not : (x y : DocId) → id_cmp x y ≢ Less → passes x y ≡ false
passes_not x y h = by (id_cmp x y) h
  where
    by : (o : Ordering) → o ≢ Less → (is_lt o && not false) ≡ false
    by Less e = absurd (e refl)
    by Equal e = refl
    by Greater e = refl

turned : (x y : DocId) → id_cmp x y ≡ Less → id_cmp y x ≡ Greater
turned x y h = id_total.antisymm y x ∙ ap ordering_reverse h

pub not_less_itself : (x : DocId) → id_cmp x x ≢ Less
not_less_itself x h = let e : is_eq (id_cmp x x) ≡ true = own_id x in let no : is_eq (id_cmp x x) ≡ false = ap is_eq h in false≢true (sym no ∙ e)

pub all_pass : (x : DocId) (es : Entries) → AllByRecursion (λ y. id_cmp x y ≡ Less) (keys_of es) → behind x es ≡ es
all_pass x [] h = refl
all_pass x (e ∷ es) h = ap (λ b. cond b (e ∷ behind x es) (behind x es)) (passes_less x e.0 h.0) ∙ ap (λ (rest : Entries). e ∷ rest) (all_pass x es h.1)

above_too : (x y : DocId) → id_cmp x y ≡ Less → (ks : List DocId) → AllByRecursion (λ k. id_cmp y k ≡ Less) ks → AllByRecursion (λ k. id_cmp x k ≡ Less) ks
above_too x y less [] h = tt
above_too x y less (k ∷ ks) h = (id_total.trans x y k less h.0, above_too x y less ks h.1)

none_at : (x : DocId) (es : Entries) → AllByRecursion (λ y. id_cmp x y ≡ Less) (keys_of es) → lookup (is_at (id_cmp x)) es ≡ None
none_at x [] h = refl
none_at x (e ∷ es) h = ap (λ b. cond b (Some e.1) (lookup (is_at (id_cmp x)) es)) (ap is_eq h.0) ∙ none_at x es h.1

-- what is so of each entry is so of each behind an id
pub all_behind : (P : DocId × Document → Type 0) (x : DocId) (es : Entries) → AllByRecursion P es → AllByRecursion P (behind x es)
all_behind P x [] h = tt
all_behind P x (e ∷ es) h = by (passes x e.0) (all_behind P x es h.1)
  where
    by : (b : Bool) → AllByRecursion P (behind x es) → AllByRecursion P (cond b (e ∷ behind x es) (behind x es))
    by true rest = (h.0, rest)
    by false rest = rest

keys_behind : (P : DocId → Type 0) (es : Entries) → AllByRecursion P (keys_of es) → AllByRecursion (λ e. P e.0) es
keys_behind P [] h = tt
keys_behind P (e ∷ es) h = (h.0, keys_behind P es h.1)

-- the first entry behind an id, and those behind it
pub record IsNext (x : DocId) (es : Entries) (e : DocId × Document) (more : Entries) : Type 0 where
  pub behind_it : behind e.0 es ≡ more
  pub above : id_cmp x e.0 ≡ Less
  pub found : lookup (is_at (id_cmp e.0)) es ≡ Some e.1
  pub others : AllByRecursion (λ y. id_cmp e.0 y ≡ Less) (keys_of more)

pub next_is : (x : DocId) (es : Entries) (e : DocId × Document) (more : Entries) → IsStrictlySortedBy id_cmp (keys_of es) → behind x es ≡ e ∷ more → IsNext x es e more
unfolding IsStrictlySortedBy
next_is x [] e more sorted h = cc
next_is x (f ∷ fs) e more sorted h = by (passes x f.0) refl h (λ h'. next_is x fs e more sorted.1 h')
  where
    here : passes x f.0 ≡ true → IsNext x (f ∷ fs) f fs
    here pass = record {
      behind_it = ap (λ b. cond b (f ∷ behind f.0 fs) (behind f.0 fs)) (passes_not f.0 f.0 (not_less_itself f.0)) ∙ all_pass f.0 fs sorted.0;
      above = less_passes x f.0 pass;
      found = ap (λ b. cond b (Some f.1) (lookup (is_at (id_cmp f.0)) fs)) (own_id f.0);
      others = sorted.0;
    }

    later : IsNext x fs e more → id_cmp f.0 e.0 ≡ Less → IsNext x (f ∷ fs) e more
    later n less = record {
      behind_it = ap (λ b. cond b (f ∷ behind e.0 fs) (behind e.0 fs)) (passes_not e.0 f.0 (λ l. let g : Less ≡ Greater = sym l ∙ turned f.0 e.0 less in cc)) ∙ n.behind_it;
      above = n.above;
      found = ap (λ b. cond b (Some f.1) (lookup (is_at (id_cmp e.0)) fs)) (ap is_eq (turned f.0 e.0 less)) ∙ n.found;
      others = n.others;
    }

    head_above : (es : Entries) → es ≡ e ∷ more → AllByRecursion (λ g. id_cmp f.0 g.0 ≡ Less) es → id_cmp f.0 e.0 ≡ Less
    head_above es is all = (subst (λ es. AllByRecursion (λ g. id_cmp f.0 g.0 ≡ Less) es) is all).0

    by : (b : Bool) → passes x f.0 ≡ b → cond b (f ∷ behind x fs) (behind x fs) ≡ e ∷ more → (behind x fs ≡ e ∷ more → IsNext x fs e more) → IsNext x (f ∷ fs) e more
    by true pass h' rest =
        let first : f ≡ e = cc in
        let all : behind x fs ≡ more = cc in
        subst (λ e'. IsNext x (f ∷ fs) e' more) first (subst (λ more'. IsNext x (f ∷ fs) f more') (sym (all_pass x fs (above_too x f.0 (less_passes x f.0 pass) (keys_of fs) sorted.0)) ∙ all) (here pass))
    by false pass h' rest = later (rest h') (head_above (behind x fs) h' (all_behind (λ g. id_cmp f.0 g.0 ≡ Less) x fs (keys_behind (λ y. id_cmp f.0 y ≡ Less) fs sorted.0)))

-- ---- the children

front_no_slash : (p q : Path) → AllNoSlash (p ++ q) → AllNoSlash p
front_no_slash [] q h = tt
front_no_slash (n ∷ p) q h = (h.0, front_no_slash p q h.1)

last_named : (p : Path) (n : Name) → All IsName (p ++ n ∷ []) → IsName n
last_named p n all = by p (names_from_all (p ++ n ∷ []) all)
  where
    by : (p : Path) → AllByRecursion IsName (p ++ n ∷ []) → IsName n
    by [] h = h.0
    by (m ∷ p) h = by p h.1

onto : {X : Type 0} (o : Option X) (xs : List X) → cons_option o xs ≡ option_to_list o ++ xs
onto None xs = refl
onto (Some x) xs = refl

module _ (table : Entries) (is : IsTable table) (a : Global) (pin : Pin) (p : Path) where
  -- the last name of a path, with the revision that added its node
  abbrev dated_name : Path → Option Child
  dated_name q = option_map (λ n. (n, born_of (found_node (documents_in table) pin.sweep pin.base q))) (last_name q)

  -- the least id that a child can have
  abbrev least : DocId
  least = id.Node (p ++ codes "!" ∷ [])

  abbrev child : DocId → Option Child
  child = child_found (documents_in table) pin.sweep pin.base p

  abbrev found : Entries → List Child
  found es = filter_map child (keys_of es)

  abbrev Lawful : DocId × Document → Type 0
  Lawful e = All IsName (path_of e.0)

  abbrev below : (x : DocId) (c : Child) → child x ≡ Some c → (x ≡ id.Node (p ++ c.0 ∷ [])) × (is_some (found_node (documents_in table) pin.sweep pin.base (p ++ c.0 ∷ [])) ≡ true) × (born_of (found_node (documents_in table) pin.sweep pin.base (p ++ c.0 ∷ [])) ≡ c.1)
  below = found_below table pin.sweep pin.base p

  -- no child stands before the least id
  none_below : (x : DocId) → All IsName (path_of x) → id_cmp x least ≡ Less → child x ≡ None
  none_below x lawful less = by (child x) refl
    where
      by : (o : Option Child) → child x ≡ o → o ≡ None
      by None h = refl
      by (Some (n, b)) h =
          let same : x ≡ id.Node (p ++ n ∷ []) = (below x (n, b) h).0 in
          absurd (none_before n (last_named p n (subst (λ x. All IsName (path_of x)) same lawful)) (names_rise p n (codes "!") (subst (λ x. id_cmp x least ≡ Less) same less)))

  -- behind a document that is none of a child there is no child
  none_behind : (x : DocId) → id_cmp least x ≡ Less → All IsName (path_of x) → ((q : Path) → x ≡ id.Node q → is_child_of p q ≡ false) → (es : Entries) → AllByRecursion Lawful es → AllByRecursion (λ y. id_cmp x y ≡ Less) (keys_of es) → found es ≡ []
  none_behind x above lawful other [] all less = refl
  none_behind x above lawful other (e ∷ es) all less = ap (λ o. cons_option o (found es)) (by (child e.0) refl) ∙ none_behind x above lawful other es all.1 less.1
    where
      by : (o : Option Child) → child e.0 ≡ o → o ≡ None
      by None h = refl
      by (Some (n, b)) h =
          let same : e.0 ≡ id.Node (p ++ n ∷ []) = (below e.0 (n, b) h).0 in
          let names : AllNoSlash p = front_no_slash p (n ∷ []) (all_no_slash (p ++ n ∷ []) (names_from_all (p ++ n ∷ []) (subst (λ x. All IsName (path_of x)) same all.0))) in
          let between = child_between p (codes "!") n x names (all_no_slash (path_of x) (names_from_all (path_of x) lawful)) above (subst (λ y. id_cmp x y ≡ Less) same less.0) in
          absurd (false≢true (sym (other between.0 between.1) ∙ between.2))

  -- the children are the one of the least name and those behind it
  from_least : (es : Entries) → IsStrictlySortedBy id_cmp (keys_of es) → AllByRecursion Lawful es → found es ≡ option_to_list (cond (is_some (lookup (is_at (id_cmp least)) es)) (child least) None) ++ found (behind least es)
  unfolding IsStrictlySortedBy
  from_least [] sorted lawful = refl
  from_least (e ∷ es) sorted lawful = by (id_cmp least e.0) refl (from_least es sorted.1 lawful.1)
    where
      rest : (b c : Bool) → is_at (id_cmp least) e.0 ≡ b → passes least e.0 ≡ c → option_to_list (cond (is_some (cond b (Some e.1) (lookup (is_at (id_cmp least)) es))) (child least) None) ++ found (cond c (e ∷ behind least es) (behind least es))
          ≡ option_to_list (cond (is_some (lookup (is_at (id_cmp least)) (e ∷ es))) (child least) None) ++ found (behind least (e ∷ es))
      rest b c is_b is_c = rw (is_b, is_c) refl

      by : (o : Ordering) → id_cmp least e.0 ≡ o → found es ≡ option_to_list (cond (is_some (lookup (is_at (id_cmp least)) es)) (child least) None) ++ found (behind least es)
          → found (e ∷ es) ≡ option_to_list (cond (is_some (lookup (is_at (id_cmp least)) (e ∷ es))) (child least) None) ++ found (behind least (e ∷ es))
      by Less is' ih =
          let all = above_too least e.0 is' (keys_of es) sorted.0 in
          ap (λ (es' : Entries). found (e ∷ es')) (sym (all_pass least es all))
          ∙ sym (ap (λ o. option_to_list (cond (is_some o) (child least) None) ++ found (e ∷ behind least es)) (none_at least es all))
          ∙ rest false true (ap is_eq is') (passes_less least e.0 is')
      by Equal is' ih =
          let same : least ≡ e.0 = id_exact least e.0 is' in
          let all : AllByRecursion (λ y. id_cmp least y ≡ Less) (keys_of es) = subst (λ x. AllByRecursion (λ y. id_cmp x y ≡ Less) (keys_of es)) (sym same) sorted.0 in
          onto (child e.0) (found es)
          ∙ ap (λ x. option_to_list (child x) ++ found es) (sym same)
          ∙ ap (λ (es' : Entries). option_to_list (child least) ++ found es') (sym (all_pass least es all))
          ∙ rest true false (ap is_eq is') (passes_not least e.0 (λ l. let g : Less ≡ Equal = sym l ∙ is' in cc))
      by Greater is' ih =
          ap (λ o. cons_option o (found es)) (none_below e.0 lawful.0 (id_total.antisymm e.0 least ∙ ap ordering_reverse is'))
          ∙ ih
          ∙ rest false false (ap is_eq is') (passes_not least e.0 (λ l. let g : Less ≡ Greater = sym l ∙ is' in cc))

  -- a child of which all is read
  abbrev reader : Known → List Child → Path → Step → Reader
  reader known names q s = record { alloc = a; pin = pin; parent = Some p; at = q; known = known; names = names; step = s }

  same_child : (known : Known) (q : Path) (d : Document) → is_child_of p q ≡ true → documents_in table (id.Node q) ≡ Some d → IsRead table false pin.sweep pin.base q d known → child_found (documents_in known) pin.sweep pin.base p (id.Node q) ≡ child (id.Node q)
  same_child known q d is_child there read =
      ap (λ b. cond (is_child_of p q && b) (option_map (λ n. (n, born_of (found_node (documents_in known) pin.sweep pin.base q))) (last_name q)) None) (presence_agrees (documents_in table) (documents_in known) pin.sweep pin.base q d read.here there read.previous read.roots)
      ∙ ap (λ (b : Option Revision). cond (is_child_of p q && is_some (found_node (documents_in table) pin.sweep pin.base q)) (option_map (λ n. (n, b)) (last_name q)) None) (birth_agrees (documents_in table) (documents_in known) pin.sweep pin.base q d read.here there read.previous read.roots)

  all_lawful : AllByRecursion Lawful table
  all_lawful = recursion_from_All Lawful table is.lawful

  all_named : AllByRecursion (λ e. e.1.id ≡ e.0) table
  all_named = recursion_from_All (λ e. e.1.id ≡ e.0) table is.named

  no_child_none : (x : DocId) → ((q : Path) → x ≡ id.Node q → is_child_of p q ≡ false) → child x ≡ None
  no_child_none (id.Node q) other = ap (λ b. cond (b && is_some (found_node (documents_in table) pin.sweep pin.base q)) (dated_name q) None) (other q refl)
  no_child_none (id.Prev n q) other = refl
  no_child_none id.Settings other = refl

  after : (x y : DocId) → (x ≡ least) ⊎ (id_cmp least x ≡ Less) → id_cmp x y ≡ Less → id_cmp least y ≡ Less
  after x y (inl same) less = subst (λ x. id_cmp x y ≡ Less) same less
  after x y (inr above) less = id_total.trans least x y above less

  -- behind the document of a child the reader finds the children that are left
  walk : (rest : Entries) (known : Known) (names : List Child) (q : Path) → Within table known → (id.Node q ≡ least) ⊎ (id_cmp least (id.Node q) ≡ Less) → behind (id.Node q) table ≡ rest → EndsIn table (reader known names q step.Next) (out.Children (names ++ found rest))
  walk [] known names q within from at =
      ends_after table (reader known names q step.Next) (out.Children (names ++ []))
      (subst (λ (es : Entries). EndsIn table (fed_next (reader known names q step.Next) (option_map (λ e. e.1) (slice_get es 0))) (out.Children (names ++ []))) (sym at)
      (zero, ap (λ ns. step.Done (out.Children ns)) (sym (append-nil names))))
  walk (e ∷ more) known names q within from at =
      ends_after table (reader known names q step.Next) (out.Children (names ++ found (e ∷ more)))
      (subst (λ (es : Entries). EndsIn table (fed_next (reader known names q step.Next) (option_map (λ e. e.1) (slice_get es 0))) (out.Children (names ++ found (e ∷ more)))) (sym at)
      (subst (λ x. EndsIn table (option_map_or (λ q'. settled (noted (reader known names q' step.Next) x (Some e.1))) (child_path_in (Some p) x) (ended (reader known names q step.Next))) (out.Children (names ++ found (e ∷ more)))) (sym id_is)
      (by e.0 refl (λ known' names' q' within' from' at'. walk more known' names' q' within' from' at'))))
    where
      Going : Type 0
      Going = (known' : Known) (names' : List Child) (q' : Path) → Within table known' → (id.Node q' ≡ least) ⊎ (id_cmp least (id.Node q') ≡ Less) → behind (id.Node q') table ≡ more → EndsIn table (reader known' names' q' step.Next) (out.Children (names' ++ found more))

      next : IsNext (id.Node q) table e more
      next = next_is (id.Node q) table e more is.ordered at

      above : id_cmp least e.0 ≡ Less
      above = after (id.Node q) e.0 from next.above

      lawful : AllByRecursion Lawful (e ∷ more)
      lawful = subst (λ es. AllByRecursion Lawful es) at (all_behind Lawful (id.Node q) table all_lawful)

      id_is : e.1.id ≡ e.0
      id_is = (subst (λ es. AllByRecursion (λ e. e.1.id ≡ e.0) es) at (all_behind (λ e. e.1.id ≡ e.0) (id.Node q) table all_named)).0

      past : ((q' : Path) → e.0 ≡ id.Node q' → is_child_of p q' ≡ false) → EndsIn table (ended (reader known names q step.Next)) (out.Children (names ++ found (e ∷ more)))
      past other = (zero, ap (λ ns. step.Done (out.Children ns)) (sym (append-nil names) ∙ ap (λ ns. names ++ ns) (sym (ap (λ o. cons_option o (found more)) (no_child_none e.0 other) ∙ none_behind e.0 above lawful.0 other more lawful.1 next.others))))

      one_more : (q' : Path) → e.0 ≡ id.Node q' → is_child_of p q' ≡ true → Going → EndsIn table (settled (noted (reader known names q' step.Next) e.0 (Some e.1))) (out.Children (names ++ found (e ∷ more)))
      one_more q' same is_child go =
          let there : documents_in table (id.Node q') ≡ Some e.1 = subst (λ x. documents_in table x ≡ Some e.1) same next.found in
          let begun = first_known table known (id.Node q') e.1 within there in
          subst (λ x. EndsIn table (settled (noted (reader known names q' step.Next) x (Some e.1))) (out.Children (names ++ found (e ∷ more)))) (sym same)
          (main_end table (reader (with_known known (id.Node q') (Some e.1)) names q' step.Next) (out.Children (names ++ found (e ∷ more))) e.1 there
          (λ known' s read.
          subst (λ ns. EndsIn table (reader known' (names ++ option_to_list (child_found (documents_in known') pin.sweep pin.base p (id.Node q'))) q' step.Next) (out.Children ns))
          (append_assoc names (option_to_list (child_found (documents_in known') pin.sweep pin.base p (id.Node q'))) (found more)
          ∙ ap (λ ns. names ++ ns) (ap (λ o. option_to_list o ++ found more) (same_child known' q' e.1 is_child there read ∙ ap child (sym same)) ∙ sym (onto (child e.0) (found more))))
          (go known' (names ++ option_to_list (child_found (documents_in known') pin.sweep pin.base p (id.Node q'))) q' read.within
          (inr (subst (λ x. id_cmp least x ≡ Less) same above)) (subst (λ x. behind x table ≡ more) same next.behind_it)))
          begun.0 begun.1)

      by : (x : DocId) → e.0 ≡ x → Going → EndsIn table (option_map_or (λ q'. settled (noted (reader known names q' step.Next) e.0 (Some e.1))) (child_path_in (Some p) e.0) (ended (reader known names q step.Next))) (out.Children (names ++ found (e ∷ more)))
      by (id.Node q') same go = at_node (is_child_of p q') refl
        where
          at_node : (b : Bool) → is_child_of p q' ≡ b → EndsIn table (option_map_or (λ q'. settled (noted (reader known names q' step.Next) e.0 (Some e.1))) (child_path_in (Some p) e.0) (ended (reader known names q step.Next))) (out.Children (names ++ found (e ∷ more)))
          at_node true is_child = subst (λ o. EndsIn table (option_map_or (λ q'. settled (noted (reader known names q' step.Next) e.0 (Some e.1))) o (ended (reader known names q step.Next))) (out.Children (names ++ found (e ∷ more)))) (sym (ap (child_path_in (Some p)) same ∙ ap (λ b. cond b (Some q') None) is_child)) (one_more q' same is_child go)
          at_node false is_child = subst (λ o. EndsIn table (option_map_or (λ q'. settled (noted (reader known names q' step.Next) e.0 (Some e.1))) o (ended (reader known names q step.Next))) (out.Children (names ++ found (e ∷ more)))) (sym (ap (child_path_in (Some p)) same ∙ ap (λ b. cond b (Some q') None) is_child)) (past (λ q'' same'. let both : id.Node q' ≡ id.Node q'' = sym same ∙ same' in let one : q' ≡ q'' = cc in subst (λ q. is_child_of p q ≡ false) one is_child))
      by (id.Prev n q') same go = subst (λ o. EndsIn table (option_map_or (λ q'. settled (noted (reader known names q' step.Next) e.0 (Some e.1))) o (ended (reader known names q step.Next))) (out.Children (names ++ found (e ∷ more)))) (sym (ap (child_path_in (Some p)) same)) (past (λ q'' same'. let both : id.Prev n q' ≡ id.Node q'' = sym same ∙ same' in cc))
      by id.Settings same go = subst (λ o. EndsIn table (option_map_or (λ q'. settled (noted (reader known names q' step.Next) e.0 (Some e.1))) o (ended (reader known names q step.Next))) (out.Children (names ++ found (e ∷ more)))) (sym (ap (child_path_in (Some p)) same)) (past (λ q'' same'. let both : id.Settings ≡ id.Node q'' = sym same ∙ same' in cc))

  no_document_no_child : documents_in table least ≡ None → child least ≡ None
  no_document_no_child none =
      ap (λ b. cond (b && is_some (found_node (documents_in table) pin.sweep pin.base (p ++ codes "!" ∷ []))) (dated_name (p ++ codes "!" ∷ [])) None) (own_child p (codes "!"))
      ∙ ap (λ o. cond (is_some o) (dated_name (p ++ codes "!" ∷ [])) None) (none_found (documents_in table) pin.sweep pin.base (p ++ codes "!" ∷ []) none)

  -- the children, by the least one and those behind it
  all_children : found_children (documents_in table) pin.sweep pin.base (keys_of table) p ≡ option_to_list (child least) ++ found (behind least table)
  all_children = from_least table is.ordered all_lawful ∙ ap (λ o. option_to_list o ++ found (behind least table)) (by (documents_in table least) refl)
    where
      by : (o : Option Document) → documents_in table least ≡ o → cond (is_some o) (child least) None ≡ child least
      by None none = sym (no_document_no_child none)
      by (Some d) there = refl

  pub reads_them : EndsIn table (children_reader a pin p) (out.Children (found_children (documents_in table) pin.sweep pin.base (keys_of table) p))
  reads_them = subst (λ ns. EndsIn table (children_reader a pin p) (out.Children ns)) (sym all_children)
      (ends_after table (children_reader a pin p) (out.Children (option_to_list (child least) ++ found (behind least table))) (by (documents_in table least) refl))
    where
      by : (o : Option Document) → documents_in table least ≡ o → EndsIn table (fed_main (children_reader a pin p) (documents_in table least)) (out.Children (option_to_list (child least) ++ found (behind least table)))
      by None none = subst (λ o. EndsIn table (fed_main (children_reader a pin p) o) (out.Children (option_to_list (child least) ++ found (behind least table)))) (sym none)
          (subst (λ o. EndsIn table (reader [] [] (p ++ codes "!" ∷ []) step.Next) (out.Children (option_to_list o ++ found (behind least table)))) (sym (no_document_no_child none))
          (walk (behind least table) [] [] (p ++ codes "!" ∷ []) (nothing_known table) (inl refl) refl))
      by (Some d) there =
          let begun = first_known table [] least d (nothing_known table) there in
          subst (λ o. EndsIn table (fed_main (children_reader a pin p) o) (out.Children (option_to_list (child least) ++ found (behind least table)))) (sym there)
          (main_end table (reader (with_known [] least (Some d)) [] (p ++ codes "!" ∷ []) step.Main) (out.Children (option_to_list (child least) ++ found (behind least table))) d there
          (λ known s read.
          subst (λ o. EndsIn table (reader known (option_to_list (child_found (documents_in known) pin.sweep pin.base p least)) (p ++ codes "!" ∷ []) step.Next) (out.Children (option_to_list o ++ found (behind least table))))
          (same_child known (p ++ codes "!" ∷ []) d (own_child p (codes "!")) there read)
          (walk (behind least table) known (option_to_list (child_found (documents_in known) pin.sweep pin.base p least)) (p ++ codes "!" ∷ []) read.within (inl refl) refl))
          begun.0 begun.1)

pub reads_children : ReadsChildren
reads_children table a pin p is = reads_them table is a pin p
