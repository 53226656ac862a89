-- Lists and maps that are read one after another.
use Rattle.std.proofs.Common.{◌≡◌, ℕ, ◌+◌, ◌<◌, ◌≤◌, List, [], ◌∷◌, ◌++◌, Err, append_assoc, append-nil, length, get_or, drop, drop-cons, add-one, refl, subst, String, Global}
use Rattle.std.specs.String.{string_bytes}
use Rattle.std.proofs.lemmas.List.{drop_all}
use Rattle.std.specs.BTreeMap.{insert_entry}
use Rattle.serde_json.specs.Data.{Data, Items, Members, no_items, item, no_members, member}
use Rattle.serde_json.specs.View.{view, items_view, members_view}
use Rattle.serde_json.specs.declared.value.Value as json
use Rattle.jr_path.specs.Names.{name_cmp}
use Rattle.jr_path.specs.declared.name.Name.{Name}
use Rattle.jr_args.specs.declared.fault.Fault.{Fault}
use Rattle.jr_args.specs.declared.fault.Fault.TheVariants as fault
use Rattle.jr_args.specs.declared.fault.Step.TheVariants.{Key, Index}
use Rattle.jr_args.specs.Outcomes.{Outcome, Means, Breaks, Reading, Answers, IsRaised, is}
use Rattle.jr_args.specs.Trees.{entry_of, list_of, map_of}
use Rattle.jr_args.proofs.Readings.{raised}

-- the outcome with these before what it means
abbrev pub behind : {X : Type 0} → List X → Outcome (List X) → Outcome (List X)
behind front (Means xs) = Means (front ++ xs)
behind front (Breaks rule steps) = Breaks rule steps

pub behind_none : {X : Type 0} (o : Outcome (List X)) → behind [] o ≡ o
behind_none (Means xs) = refl
behind_none (Breaks rule steps) = refl

pub behind_more : {X : Type 0} (front more : List X) (o : Outcome (List X)) → behind front (behind more o) ≡ behind (front ++ more) o
behind_more front more (Means xs) = rw (append_assoc front more xs) refl
behind_more front more (Breaks rule steps) = refl

-- so many items are read, and what the rest comes to the whole does behind them
pub record IsReadTo {X : Type 0} (M : Data → Reading X) (vs : List json.Value) (i : ℕ) (front : List X) : Type 0 where
  pub next : (o : Outcome (List X)) → list_of M i (items_view (drop i vs)) o → list_of M 0 (items_view vs) (behind front o)

pub read_none : {X : Type 0} (M : Data → Reading X) (vs : List json.Value) → IsReadTo M vs 0 []
read_none M vs = record { next = λ o h. rw (behind_none o) h }

rest_more : (vs : List json.Value) (i : ℕ) (v : json.Value) → i < length vs → v ≡ get_or vs i v → items_view (drop i vs) ≡ item (view v) (items_view (drop (i + 1) vs))
rest_more vs i v within is = rw (drop-cons vs i v within, ← is, add-one) refl

rest_all : (vs : List json.Value) (i : ℕ) → length vs ≤ i → items_view (drop i vs) ≡ no_items
rest_all vs i past = rw (drop_all i vs past) refl

put_before : {X : Type 0} (M : Data → Reading X) (d : Data) (ds : Items) (i : ℕ) (x : X) (o : Outcome (List X)) → M d (Means x) → list_of M (i + 1) ds o → list_of M i (item d ds) (behind (x ∷ []) o)
put_before M d ds i x (Means xs) g h = record { first = Means x; is_first = g; rest = record { first = Means xs; is_first = h; rest = refl } }
put_before M d ds i x (Breaks rule steps) g h = record { first = Means x; is_first = g; rest = record { first = Breaks rule steps; is_first = h; rest = refl } }

pub read_more : {X : Type 0} (M : Data → Reading X) (vs : List json.Value) (i : ℕ) (front more : List X) (v : json.Value) (x : X) → IsReadTo M vs i front → i < length vs → v ≡ get_or vs i v
    → M (view v) (Means x) → more ≡ front ++ x ∷ [] → IsReadTo M vs (i + 1) more
read_more M vs i front more v x read within at good put = record {
  next = λ o h. rw (put, ← behind_more front (x ∷ []) o) (read.next (behind (x ∷ []) o) (rw (rest_more vs i v within at) (put_before M (view v) _ i x o good h)));
}

pub read_stop : {X : Type 0} (M : Data → Reading X) (vs : List json.Value) (i : ℕ) (front : List X) (v : json.Value) (below above : Fault) → IsReadTo M vs i front → i < length vs → v ≡ get_or vs i v
    → IsRaised (Index i) below above → Answers (M (view v)) (Err below) → Answers (list_of M 0 (items_view vs)) (Err above)
read_stop M vs i front v below (fault.Bad rule steps) read within at up bad =
    let here = raised (Index i) (M (view v)) below (fault.Bad rule steps) up bad in
    read.next (Breaks rule steps) (rw (rest_more vs i v within at) (record { first = Breaks rule steps; is_first = here; rest = refl }))
read_stop M vs i front v below fault.Memory read within at up bad = tt

pub read_all : {X : Type 0} (M : Data → Reading X) (vs : List json.Value) (i : ℕ) (front all : List X) → IsReadTo M vs i front → length vs ≤ i → all ≡ front → list_of M 0 (items_view vs) (Means all)
read_all M vs i front all read past same = rw same (rw (append-nil front) at (read.next (Means []) (rw (rest_all vs i past) refl)))

-- some members are put into the map, and what the rest comes to from it the whole does
pub record IsPutTo {X : Type 0} (M : Data → Reading X) (all rest : Members) (map : List (Name × X)) : Type 0 where
  pub next : (o : Outcome (List (Name × X))) → map_of M map rest o → map_of M [] all o

pub put_none : {X : Type 0} (M : Data → Reading X) (all : Members) → IsPutTo M all all []
put_none M all = record { next = λ o h. h }

-- the same where the key that is read and the step's are written otherwise
pub put_more : {X : Type 0} (M : Data → Reading X) (all rest left : Members) (map more : List (Name × X)) (key read : List ℕ) (d : Data) (name : Name) (x : X) → IsPutTo M all rest map → rest ≡ member key d left
    → read ≡ key → entry_of M read d (Means (name, x)) → more ≡ insert_entry name_cmp map name x → IsPutTo M all left more
put_more M all rest left map more key read d name x put at is good same = record {
  next = λ o h. put.next o (rw at (record { first = Means (name, x); is_first = rw is at good; rest = rw same at h }));
}

pub put_stop : {X : Type 0} (M : Data → Reading X) (all rest left : Members) (map : List (Name × X)) (key read step : List ℕ) (d : Data) (below above : Fault) → IsPutTo M all rest map → rest ≡ member key d left
    → read ≡ key → step ≡ key → IsRaised (Key step) below above → Answers (entry_of M read d) (Err below) → Answers (map_of M [] all) (Err above)
put_stop M all rest left map key read step d below (fault.Bad rule steps) put at is same up bad =
    let here = raised (Key key) (entry_of M key d) below (fault.Bad rule steps) (subst (λ k. IsRaised (Key k) below (fault.Bad rule steps)) same up) (subst (λ k. Answers (entry_of M k d) (Err below)) is bad) in
    put.next (Breaks rule steps) (rw at (record { first = Breaks rule steps; is_first = here; rest = refl }))
put_stop M all rest left map key read step d below fault.Memory put at is same up bad = tt

-- what an iterator goes on with
pub first_member : (es : List (String Global × json.Value)) (k : String Global) (v : json.Value) (rest : List (String Global × json.Value)) → es ≡ (k, v) ∷ rest → members_view es ≡ member (string_bytes k) (view v) (members_view rest)
first_member es k v rest is = rw is refl

pub no_member : (es : List (String Global × json.Value)) → es ≡ [] → members_view es ≡ no_members
no_member es is = rw is refl
