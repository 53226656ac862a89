-- What the last write of an item writes: readings of writes that give something at one item alone.
use Rattle.std.proofs.Common.{◌≡◌, Bool, true, false, cond, ◌&&◌, ◌||◌, List, [], ◌∷◌, Option, None, Some, is_some, refl, sym, ap, ◌∙◌}
use Rattle.std.specs.Ordering.{eq_by_cmp}
use Rattle.std.specs.Option.{option_or}
use Rattle.std.specs.List.{list_any}
use Rattle.std.proofs.lemmas.Cmp.{eq_by_cmp_equiv}
use mathlib.Core.Bool.{false≢true}
use Rattle.jr_path.specs.Names.{name_cmp, path_cmp}
use Rattle.jr_path.specs.declared.name.Name.{Name}
use Rattle.jr_path.specs.declared.path.Item.{Item}
use Rattle.jr_path.specs.declared.path.Path.{Path}
use Rattle.jr_tree.specs.declared.edit.Write.{Write}
use Rattle.jr_tree.specs.declared.edit.Write.TheVariants.{Here, Gone, Put, Unset}
use Rattle.jr_tree.specs.Edits.{is_same_item, item_of, item_cmp, last_writes}
use Rattle.jr_tree.specs.Items.{here_of, put_of, written}
use Rattle.jr_tree.proofs.LastWrites.{item_total, same_is, none_tied, both_tied, apart_less, apart_greater}
use Rattle.basics.proofs.Options.{some_if}
pub use Rattle.basics.proofs.Options.{none_of as none_from}

-- a reading gives something exactly at the writes of an item
abbrev pub Reads : {X : Type 0} → Item → (Write → Option X) → Type 0
Reads i f = (w : Write) → is_some (f w) ≡ eq_by_cmp item_cmp i (item_of w)

pub here_reads : (p : Path) → Reads (record { path = p; name = None }) (here_of p)
here_reads p (Here q) = some_if (eq_by_cmp path_cmp p q) true ∙ none_tied (path_cmp p q)
here_reads p (Gone q) = some_if (eq_by_cmp path_cmp p q) false ∙ none_tied (path_cmp p q)
here_reads p (Put q m x) = apart_less (path_cmp p q)
here_reads p (Unset q m) = apart_less (path_cmp p q)

pub put_reads : (p : Path) (n : Name) → Reads (record { path = p; name = Some n }) (put_of p n)
put_reads p n (Here q) = apart_greater (path_cmp p q)
put_reads p n (Gone q) = apart_greater (path_cmp p q)
put_reads p n (Put q m x) = some_if (eq_by_cmp path_cmp p q && eq_by_cmp name_cmp n m) (Some x) ∙ both_tied (path_cmp p q) (name_cmp n m)
put_reads p n (Unset q m) = some_if (eq_by_cmp path_cmp p q && eq_by_cmp name_cmp n m) None ∙ both_tied (path_cmp p q) (name_cmp n m)

-- where a reading gives something, a write of the same item is one where it does
one_item : {X : Type 0} (i : Item) (f : Write → Option X) → Reads i f → (w v : Write) → is_some (f w) ≡ true → is_same_item w v ≡ is_some (f v)
one_item i f reads w v h = same_is w v ∙ (sym ((eq_by_cmp_equiv item_total).congr i (item_of w) (item_of v) (sym (reads w) ∙ h)) ∙ sym (reads v))

either_some : {X : Type 0} (a b : Option X) → is_some (option_or a b) ≡ (is_some b || is_some a)
either_some None None = refl
either_some None (Some y) = refl
either_some (Some x) None = refl
either_some (Some x) (Some y) = refl

pub written_among : {X : Type 0} (i : Item) (f : Write → Option X) → Reads i f → (w : Write) (ws : List Write) → is_some (f w) ≡ true → list_any (is_same_item w) ws ≡ is_some (written f ws)
written_among i f reads w [] h = refl
written_among i f reads w (v ∷ ws) h = (λ k. one_item i f reads w v h k || written_among i f reads w ws h k) ∙ sym (either_some (written f ws) (f v))

pub or_none : {X : Type 0} (o : Option X) → option_or o None ≡ o
or_none None = refl
or_none (Some x) = refl

-- a write of an item that is written again doesn't count
overwritten : {X : Type 0} (o r : Option X) → (is_some r ≡ true → is_some o ≡ true) → option_or o r ≡ o
overwritten (Some x) r h = refl
overwritten None None h = refl
overwritten None (Some x) h = absurd (false≢true (h refl))

-- the last writes write what all writes do
pub written_last : {X : Type 0} (i : Item) (f : Write → Option X) → Reads i f → (ws : List Write) → written f (last_writes ws) ≡ written f ws
written_last i f reads [] = refl
written_last i f reads (w ∷ ws) = by (list_any (is_same_item w) ws) refl (written_last i f reads ws)
  where
    by : (b : Bool) → list_any (is_same_item w) ws ≡ b → written f (last_writes ws) ≡ written f ws → written f (cond b (last_writes ws) (w ∷ last_writes ws)) ≡ option_or (written f ws) (f w)
    by true e rest = rest ∙ sym (overwritten (written f ws) (f w) (λ h. sym (written_among i f reads w ws h) ∙ e))
    by false e rest = ap (λ o. option_or o (f w)) rest
