-- How a reader comes to know the documents that a node rests on.
use Rattle.std.proofs.Common.{◌≡◌, suc, Bool, true, false, cond, ◌⊎◌, inl, inr, List, [], ◌∷◌, ◌++◌, Option, None, Some, fold, refl, sym, ap, ◌∙◌, subst}
use Rattle.std.specs.Prelude.{is_some, is_none}
use Rattle.std.specs.Option.{option_map_or}
use Rattle.std.specs.Ordering.{eq_by_cmp}
use Rattle.std.specs.Map.{lookup}
use Rattle.std.specs.BTreeMap.{insert_entry, is_at}
use Rattle.std.specs.List.{AllByRecursion, flat_map}
use Rattle.std.proofs.lemmas.Bool.{false≢true}
use Rattle.jr_path.specs.Ids.{id_cmp}
use Rattle.jr_path.specs.declared.path.DocId.{DocId}
use Rattle.jr_path.specs.declared.path.DocId.TheVariants as id
use Rattle.jr_path.proofs.Maps.{lookup-insert_entry}
use Rattle.jr_path.proofs.Orders.{id_total, id_exact, tested}
use Rattle.jr_path.specs.declared.path.Path.{Path}
use Rattle.jr_rev.specs.declared.vector.RevVec.{RevVec}
use Rattle.oak_doc.specs.declared.document.Document.{Document}
use Rattle.oak_read.specs.Meaning.{documents_in}
use Rattle.oak_read.specs.Shown.{with_previous}
use Rattle.oak_read.specs.Wanted.{Known, Ids, with_unknown, unknown, listed, roots_of, left_of}
use Rattle.oak_read.specs.Reading.{answer, due, fed, with_known, on_main, on_previous, on_roots, EndsIn}
use Rattle.oak_read.specs.declared.wanted.Left.{Left}
use Rattle.oak_read.specs.declared.reader.Reader.{Reader}
use Rattle.oak_read.specs.declared.reader.ReadOut.{ReadOut}
use Rattle.oak_read.specs.declared.reader.Step.{Step}
use Rattle.oak_read.specs.declared.reader.Step.TheVariants as step
use Rattle.oak_read.proofs.Agreeing.{Agree, previous_here}

pub all_both : {X : Type 0} (P : X → Type 0) (xs ys : List X) → AllByRecursion P xs → AllByRecursion P ys → AllByRecursion P (xs ++ ys)
all_both P [] ys h k = k
all_both P (x ∷ xs) ys h k = (h.0, all_both P xs ys h.1 k)

pub all_first : {X : Type 0} (P : X → Type 0) (xs ys : List X) → AllByRecursion P (xs ++ ys) → AllByRecursion P xs
all_first P [] ys h = tt
all_first P (x ∷ xs) ys h = (h.0, all_first P xs ys h.1)

pub all_second : {X : Type 0} (P : X → Type 0) (xs ys : List X) → AllByRecursion P (xs ++ ys) → AllByRecursion P ys
all_second P [] ys h = h
all_second P (x ∷ xs) ys h = all_second P xs ys h.1

pub all_of : {X : Type 0} (P Q : X → Type 0) → ((x : X) → P x → Q x) → (xs : List X) → AllByRecursion P xs → AllByRecursion Q xs
all_of P Q f [] h = tt
all_of P Q f (x ∷ xs) h = (f x h.0, all_of P Q f xs h.1)

pub same_id : (x y : DocId) → eq_by_cmp id_cmp x y ≡ true → x ≡ y
same_id x y = (tested id_total id_exact x y).0

pub own_id : (x : DocId) → eq_by_cmp id_cmp x x ≡ true
own_id x = (tested id_total id_exact x x).1 refl

-- of two values that are equal at one id, either serves there
either_at : {X : Type 0} (x y : DocId) (a b : X) → ((x ≡ y) → a ≡ b) → b ≡ cond (eq_by_cmp id_cmp x y) a b
either_at {X} x y a b same = by (eq_by_cmp id_cmp x y) refl
  where
    by : (c : Bool) → eq_by_cmp id_cmp x y ≡ c → b ≡ cond c a b
    by true e = sym (same (same_id x y e))
    by false e = refl

no_some : {X Y : Type 0} (x : X) → None ≡ Some x → Y
no_some x h = cc

module _ (table : List (DocId × Document)) where
  -- what is known stands so in the table
  abbrev pub Within : Known → Type 0
  Within known = (x : DocId) (d : Document) → documents_in known x ≡ Some d → documents_in table x ≡ Some d

  -- what is known of an id is what the table has, or the id is left to be read
  abbrev pub Covered : Known → Ids → DocId → Type 0
  Covered known left x = (documents_in known x ≡ documents_in table x) ⊎ (is_some (lookup (is_at (id_cmp x)) left) ≡ true)

  abbrev pub Alike : Known → DocId → Type 0
  Alike known = Agree (documents_in table) (documents_in known)

  same_here : (known : Known) → Within known → (x : DocId) (d : Document) → documents_in known x ≡ Some d → documents_in known x ≡ documents_in table x
  same_here known within x d h = h ∙ sym (within x d h)

  -- what is known once the table's document of an id is noted
  pub noted_at : (known : Known) → Within known → (y x : DocId) → documents_in (with_known known y (documents_in table y)) x ≡ cond (eq_by_cmp id_cmp x y) (documents_in table y) (documents_in known x)
  noted_at known within y x = by (documents_in table y) refl
    where
      none_known : (o : Option Document) → documents_in known x ≡ o → documents_in table x ≡ None → None ≡ documents_in known x
      none_known None is none = sym is
      none_known (Some d) is none = no_some d (sym none ∙ within x d is)

      known_too : (d : Document) (o : Option Document) → documents_in known y ≡ o → is_some o ≡ true → documents_in table y ≡ Some d → Some d ≡ documents_in known y
      known_too d None is some there = absurd (false≢true some)
      known_too d (Some e) is some there = sym there ∙ within y e is ∙ sym is

      by : (o : Option Document) → documents_in table y ≡ o → documents_in (with_known known y o) x ≡ cond (eq_by_cmp id_cmp x y) o (documents_in known x)
      by None is = either_at x y None (documents_in known x) (λ same. none_known (documents_in known x) refl (ap (documents_in table) same ∙ is))
      by (Some d) is = at (is_some (documents_in known y)) refl
        where
          at : (b : Bool) → is_some (documents_in known y) ≡ b → documents_in (cond b known (insert_entry id_cmp known y d)) x ≡ cond (eq_by_cmp id_cmp x y) (Some d) (documents_in known x)
          at true some = either_at x y (Some d) (documents_in known x) (λ same. known_too d (documents_in known y) refl some is ∙ ap (documents_in known) (sym same))
          at false none = lookup-insert_entry id_cmp id_total x y d known

  pub within_noted : (known : Known) → Within known → (y : DocId) → Within (with_known known y (documents_in table y))
  within_noted known within y x d h = by (eq_by_cmp id_cmp x y) refl (sym (noted_at known within y x) ∙ h)
    where
      by : (b : Bool) → eq_by_cmp id_cmp x y ≡ b → cond b (documents_in table y) (documents_in known x) ≡ Some d → documents_in table x ≡ Some d
      by true e is = ap (documents_in table) (same_id x y e) ∙ is
      by false e is = within x d is

  -- the first of those that are left is read
  pub covered_noted : (known : Known) → Within known → (y : DocId) (rest : Ids) (x : DocId) → Covered known ((y, tt) ∷ rest) x → Covered (with_known known y (documents_in table y)) rest x
  covered_noted known within y rest x c = by (eq_by_cmp id_cmp x y) refl c
    where
      by : (b : Bool) → eq_by_cmp id_cmp x y ≡ b → (documents_in known x ≡ documents_in table x) ⊎ (is_some (cond b (Some tt) (lookup (is_at (id_cmp x)) rest)) ≡ true) → Covered (with_known known y (documents_in table y)) rest x
      by true e h = inl (noted_at known within y x ∙ ap (λ b. cond b (documents_in table y) (documents_in known x)) e ∙ ap (documents_in table) (sym (same_id x y e)))
      by false e (inl h) = inl (noted_at known within y x ∙ ap (λ b. cond b (documents_in table y) (documents_in known x)) e ∙ h)
      by false e (inr h) = inr h

  -- ---- the ids that are not known

  some_cond : {X : Type 0} (b : Bool) (x : X) (o : Option X) → is_some o ≡ true → is_some (cond b (Some x) o) ≡ true
  some_cond true x o h = refl
  some_cond false x o h = h

  stays : (known : Known) (x y : DocId) (left : Ids) → is_some (lookup (is_at (id_cmp x)) left) ≡ true → is_some (lookup (is_at (id_cmp x)) (with_unknown known left y)) ≡ true
  stays known x y left h = by (is_some (lookup (is_at (id_cmp y)) known))
    where
      by : (b : Bool) → is_some (lookup (is_at (id_cmp x)) (cond b left (insert_entry id_cmp left y tt))) ≡ true
      by true = h
      by false = ap is_some (lookup-insert_entry id_cmp id_total x y tt left) ∙ some_cond (eq_by_cmp id_cmp x y) tt (lookup (is_at (id_cmp x)) left) h

  stays_behind : (known : Known) (x : DocId) (ys : List DocId) (left : Ids) → is_some (lookup (is_at (id_cmp x)) left) ≡ true → is_some (lookup (is_at (id_cmp x)) (fold (with_unknown known) left ys)) ≡ true
  stays_behind known x [] left h = h
  stays_behind known x (y ∷ ys) left h = stays_behind known x ys (with_unknown known left y) (stays known x y left h)

  from_some : (o : Option Document) → is_some o ≡ true → (d : Document) × (o ≡ Some d)
  from_some None h = absurd (false≢true h)
  from_some (Some d) h = (d, refl)

  taken_up : (known : Known) → Within known → (x : DocId) (left : Ids) → Covered known (with_unknown known left x) x
  taken_up known within x left = by (is_some (documents_in known x)) refl
    where
      by : (b : Bool) → is_some (documents_in known x) ≡ b → (documents_in known x ≡ documents_in table x) ⊎ (is_some (lookup (is_at (id_cmp x)) (cond b left (insert_entry id_cmp left x tt))) ≡ true)
      by true h = let d = from_some (documents_in known x) h in inl (same_here known within x d.0 d.1)
      by false h = inr (ap is_some (lookup-insert_entry id_cmp id_total x x tt left) ∙ ap (λ b. is_some (cond b (Some tt) (lookup (is_at (id_cmp x)) left))) (own_id x))

  pub each_covered : (known : Known) → Within known → (xs : List DocId) (left : Ids) → AllByRecursion (Covered known (fold (with_unknown known) left xs)) xs
  each_covered known within [] left = tt
  each_covered known within (x ∷ xs) left = (by (taken_up known within x left), each_covered known within xs (with_unknown known left x))
    where
      by : Covered known (with_unknown known left x) x → Covered known (fold (with_unknown known) (with_unknown known left x) xs) x
      by (inl h) = inl h
      by (inr h) = inr (stays_behind known x xs (with_unknown known left x) h)

  pub none_left : (known : Known) (x : DocId) → Covered known [] x → Alike known x
  none_left known x (inl h) = h
  none_left known x (inr h) = absurd (false≢true h)

  -- ---- the steps of a reader

  pub ends_after : (r : Reader) (o : ReadOut) → EndsIn table (fed r (answer table (due r))) o → EndsIn table r o
  ends_after r o e = (suc e.0, e.1)

  module _ (r : Reader) (o : ReadOut) (kind : Left → Step) (next : Known → Step → Reader)
      (goes_on : (known : Known) (left : Left) → fed (record r { known = known; step = kind left }) (answer table (due (record r { known = known; step = kind left })))
      ≡ option_map_or (λ more. record r { known = with_known known left.first (documents_in table left.first); step = kind more }) (left_of left.rest) (next (with_known known left.first (documents_in table left.first)) (kind left))) where
    -- the documents that are left are read one after another
    read_left : (rest : Ids) (first : DocId) (known : Known) (xs : List DocId) → Within known → AllByRecursion (Covered known ((first, tt) ∷ rest)) xs
        → ((known' : Known) (s : Step) → Within known' → AllByRecursion (Alike known') xs → EndsIn table (next known' s) o)
        → EndsIn table (record r { known = known; step = kind (record { first = first; rest = rest }) }) o
    read_left [] first known xs within covered then =
        ends_after (record r { known = known; step = kind (record { first = first; rest = [] }) }) o
        (subst (λ r'. EndsIn table r' o) (sym (goes_on known (record { first = first; rest = [] })))
        (then (with_known known first (documents_in table first)) (kind (record { first = first; rest = [] })) (within_noted known within first)
        (all_of (Covered known ((first, tt) ∷ [])) (Alike (with_known known first (documents_in table first))) (λ x c. none_left (with_known known first (documents_in table first)) x (covered_noted known within first [] x c)) xs covered)))
    read_left (e ∷ rest) first known xs within covered then =
        ends_after (record r { known = known; step = kind (record { first = first; rest = e ∷ rest }) }) o
        (subst (λ r'. EndsIn table r' o) (sym (goes_on known (record { first = first; rest = e ∷ rest })))
        (read_left rest e.0 (with_known known first (documents_in table first)) xs (within_noted known within first)
        (all_of (Covered known ((first, tt) ∷ e ∷ rest)) (Covered (with_known known first (documents_in table first)) (e ∷ rest)) (λ x c. covered_noted known within first (e ∷ rest) x c) xs covered) then))

    -- those of some ids that aren't known are read, and then all of them are known
    read_unknown : (known : Known) (s : Step) (before xs : List DocId) → Within known → AllByRecursion (Alike known) before
        → ((known' : Known) (s : Step) → Within known' → AllByRecursion (Alike known') before → AllByRecursion (Alike known') xs → EndsIn table (next known' s) o)
        → EndsIn table (option_map_or (λ left. record r { known = known; step = kind left }) (left_of (unknown known xs)) (next known s)) o
    read_unknown known s before xs within alike then = by (unknown known xs) (each_covered known within xs [])
      where
        by : (ids : Ids) → AllByRecursion (Covered known ids) xs → EndsIn table (option_map_or (λ left. record r { known = known; step = kind left }) (left_of ids) (next known s)) o
        by [] covered = then known s within alike (all_of (Covered known []) (Alike known) (none_left known) xs covered)
        by (e ∷ es) covered =
            read_left es e.0 known (before ++ xs) within
            (all_both (Covered known (e ∷ es)) before xs (all_of (Alike known) (Covered known (e ∷ es)) (λ x h. inl h) before alike) covered)
            (λ known' s within' all. then known' s within' (all_first (Alike known') before xs all) (all_second (Alike known') before xs all))

  -- what is known once all is read that a node rests on
  pub record IsRead (whole : Bool) (t v : RevVec) (p : Path) (d : Document) (known : Known) : Type 0 where
    pub within : Within known
    pub here : documents_in known (id.Node p) ≡ Some d
    pub previous : AllByRecursion (Alike known) (listed p d)
    pub roots : AllByRecursion (Alike known) (flat_map (roots_of t v whole) (with_previous (documents_in known) p d))

  module _ (r : Reader) (o : ReadOut) (d : Document) (there : documents_in table (id.Node r.at) ≡ Some d)
      (then : (known : Known) (s : Step) → IsRead (is_none r.parent) r.pin.sweep r.pin.base r.at d known → EndsIn table (on_roots (record r { known = known; step = s })) o) where
    abbrev base : List DocId
    base = id.Node r.at ∷ listed r.at d

    roots_end : (known : Known) (s : Step) → Within known → documents_in known (id.Node r.at) ≡ Some d → AllByRecursion (Alike known) (listed r.at d) → EndsIn table (on_previous (record r { known = known; step = s })) o
    roots_end known s within here previous =
        subst (λ ids. EndsIn table (option_map_or (λ left. record r { known = known; step = step.Roots left }) (left_of ids) (on_roots (record r { known = known; step = s }))) o)
        (sym (ap (λ o'. option_map_or (λ d. unknown known (flat_map (roots_of r.pin.sweep r.pin.base (is_none r.parent)) (with_previous (documents_in known) r.at d))) o' []) here))
        (read_unknown r o (λ left. step.Roots left) (λ known' s'. on_roots (record r { known = known'; step = s' })) (λ known' left. refl)
        known s base (flat_map (roots_of r.pin.sweep r.pin.base (is_none r.parent)) (with_previous (documents_in known) r.at d)) within (here ∙ sym there, previous)
        (λ known' s' within' before roots.
        let same : with_previous (documents_in known) r.at d ≡ with_previous (documents_in known') r.at d =
        previous_here (documents_in table) (documents_in known) r.at d previous ∙ sym (previous_here (documents_in table) (documents_in known') r.at d before.1) in
        then known' s' (record {
          within = within';
          here = before.0 ∙ there;
          previous = before.1;
          roots = subst (λ ds. AllByRecursion (Alike known') (flat_map (roots_of r.pin.sweep r.pin.base (is_none r.parent)) ds)) same roots;
        })))

    -- the node's document is known: the reader goes on until all is read that the node rests on
    pub main_end : Within r.known → documents_in r.known (id.Node r.at) ≡ Some d → EndsIn table (on_main r) o
    main_end within here =
        subst (λ ids. EndsIn table (option_map_or (λ left. record r { step = step.Previous left }) (left_of ids) (on_previous r)) o)
        (sym (ap (λ o'. option_map_or (λ d. unknown r.known (listed r.at d)) o' []) here))
        (read_unknown r o (λ left. step.Previous left) (λ known' s'. on_previous (record r { known = known'; step = s' })) (λ known' left. refl)
        r.known r.step (id.Node r.at ∷ []) (listed r.at d) within (here ∙ sym there, tt)
        (λ known' s' within' before previous. roots_end known' s' within' (before.0 ∙ there) previous))
