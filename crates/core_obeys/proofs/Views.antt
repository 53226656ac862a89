-- What is seen of commits in their order, item by item.
use Rattle.std.proofs.Common.{◌≡◌, ◌⊎◌, inl, inr, Bool, true, false, cond, Some, None, Option, List, refl, ap, ◌∙◌, is_some}
use Rattle.std.specs.Option.{unwrap_or}
use mathlib.Core.Bool.{false≢true}
use Rattle.jr_path.specs.declared.name.Name.{Name}
use Rattle.jr_path.specs.declared.path.Path.{Path}
use Rattle.jr_value.specs.declared.value.Property.{Property}
use Rattle.jr_rev.specs.declared.revision.Revision.{Revision}
use Rattle.jr_rev.specs.Vectors.{sees}
use Rattle.jr_tree.specs.declared.edit.Write.{Write}
use Rattle.jr_tree.specs.Trees.{Nodes, node_at, property_at}
use Rattle.jr_tree.specs.Items.{here_of, put_of, written}
use Rattle.oak_machine.specs.declared.event.Draw.{Draw}

-- which nodes are there, and which properties they have
pub record View : Type 0 where
  pub has : Path → Bool
  pub prop : Path → Name → Option Property

abbrev pub view_of : Nodes → View
view_of t = record { has = λ p. is_some (node_at t p); prop = λ p n. property_at t p n }

-- after an edit an item is as its last write says, and else as it was
abbrev pub after : View → List Write → View
after v ws = record { has = λ p. unwrap_or (written (here_of p) ws) (v.has p); prop = λ p n. unwrap_or (written (put_of p n) ws) (v.prop p n) }

-- which revisions are seen
abbrev pub Sight : Type 0
Sight = Revision → Bool

abbrev pub all : Sight
all r = true

-- what the base of a draw sees
abbrev pub base : Draw → Sight
base d r = sees d.base r

-- commits in their order, the last one first, over what there was before them
pub data Series : Type 0 where
  Over : View → Series
  Then : Draw → Series → Series

-- d is one of the commits
abbrev pub IsOne : Draw → Series → Type 0
IsOne d (Over v) = ⊥
IsOne d (Then e ds) = (e ≡ d) ⊎ IsOne d ds

-- what is seen of some commits
abbrev pub seen : Sight → Series → View
seen s (Over v) = v
seen s (Then d ds) = cond (s d.revision) (after (seen s ds) d.edit.writes) (seen s ds)

-- each unseen commit leaves the node at p alone
abbrev pub IsStill : Sight → Series → Path → Type 0
IsStill s ds p = (e : Draw) → IsOne e ds → s e.revision ≡ false → written (here_of p) e.edit.writes ≡ None

-- each unseen commit leaves that property alone
abbrev pub IsKept : Sight → Series → Path → Name → Type 0
IsKept s ds p n = (e : Draw) → IsOne e ds → s e.revision ≡ false → written (put_of p n) e.edit.writes ≡ None

pub same_has : (s : Sight) (ds : Series) (p : Path) → IsStill s ds p → (seen all ds).has p ≡ (seen s ds).has p
same_has s (Over v) p still = refl
same_has s (Then d ds) p still = by (s d.revision) refl (same_has s ds p (λ e i h. still e (inr i) h))
  where
    by : (b : Bool) → s d.revision ≡ b → (seen all ds).has p ≡ (seen s ds).has p → unwrap_or (written (here_of p) d.edit.writes) ((seen all ds).has p) ≡ (cond b (after (seen s ds) d.edit.writes) (seen s ds)).has p
    by true h rest = ap (unwrap_or (written (here_of p) d.edit.writes)) rest
    by false h rest = ap (λ o. unwrap_or o ((seen all ds).has p)) (still d (inl refl) h) ∙ rest

pub same_prop : (s : Sight) (ds : Series) (p : Path) (n : Name) → IsKept s ds p n → (seen all ds).prop p n ≡ (seen s ds).prop p n
same_prop s (Over v) p n kept = refl
same_prop s (Then d ds) p n kept = by (s d.revision) refl (same_prop s ds p n (λ e i h. kept e (inr i) h))
  where
    by : (b : Bool) → s d.revision ≡ b → (seen all ds).prop p n ≡ (seen s ds).prop p n → unwrap_or (written (put_of p n) d.edit.writes) ((seen all ds).prop p n) ≡ (cond b (after (seen s ds) d.edit.writes) (seen s ds)).prop p n
    by true h rest = ap (unwrap_or (written (put_of p n) d.edit.writes)) rest
    by false h rest = ap (λ o. unwrap_or o ((seen all ds).prop p n)) (kept d (inl refl) h) ∙ rest

-- where the values are the same, so they are after an edit
pub same_has_after : (v w : View) (ws : List Write) (p : Path) → v.has p ≡ w.has p → (after v ws).has p ≡ (after w ws).has p
same_has_after v w ws p h = ap (unwrap_or (written (here_of p) ws)) h

pub same_prop_after : (v w : View) (ws : List Write) (p : Path) (n : Name) → v.prop p n ≡ w.prop p n → (after v ws).prop p n ≡ (after w ws).prop p n
same_prop_after v w ws p n h = ap (unwrap_or (written (put_of p n) ws)) h

-- what isn't written stays
pub has_stays : (v : View) (ws : List Write) (p : Path) → written (here_of p) ws ≡ None → (after v ws).has p ≡ v.has p
has_stays v ws p h = ap (λ o. unwrap_or o (v.has p)) h

pub prop_stays : (v : View) (ws : List Write) (p : Path) (n : Name) → written (put_of p n) ws ≡ None → (after v ws).prop p n ≡ v.prop p n
prop_stays v ws p n h = ap (λ o. unwrap_or o (v.prop p n)) h

-- what is written is so, on whatever it is written
pub has_written : (v w : View) (ws : List Write) (p : Path) → is_some (written (here_of p) ws) ≡ true → (after v ws).has p ≡ (after w ws).has p
has_written v w ws p h = by (written (here_of p) ws) h
  where
    by : (o : Option Bool) → is_some o ≡ true → unwrap_or o (v.has p) ≡ unwrap_or o (w.has p)
    by None h = absurd (false≢true h)
    by (Some b) h = refl

pub prop_written : (v w : View) (ws : List Write) (p : Path) (n : Name) → is_some (written (put_of p n) ws) ≡ true → (after v ws).prop p n ≡ (after w ws).prop p n
prop_written v w ws p n h = by (written (put_of p n) ws) h
  where
    by : (o : Option (Option Property)) → is_some o ≡ true → unwrap_or o (v.prop p n) ≡ unwrap_or o (w.prop p n)
    by None h = absurd (false≢true h)
    by (Some b) h = refl

-- an option has something, or not
pub some_or_none : {X : Type 0} (o : Option X) → (is_some o ≡ true) ⊎ (o ≡ None)
some_or_none None = inr refl
some_or_none (Some x) = inl refl

pub none_unless : {X : Type 0} (o : Option X) → (is_some o ≡ true → ⊥) → o ≡ None
none_unless None h = refl
none_unless (Some x) h = absurd (h refl)
