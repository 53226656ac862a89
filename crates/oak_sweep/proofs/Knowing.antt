-- Documents at rest know of each document among them.
use Rattle.std.proofs.Common.{◌≡◌, ◌≢◌, Bool, true, false, cond, [], ◌∷◌, Option, Some, None, refl, sym, ap, subst, ◌∙◌}
use Rattle.std.specs.Prelude.{slice_get}
use Rattle.std.specs.Option.{option_map}
use Rattle.std.specs.List.{AllByRecursion}
use Rattle.std.specs.List.Sorted.{IsStrictlySortedBy}
use Rattle.std.specs.Map.{keys_of, lookup}
use Rattle.std.specs.BTreeMap.{is_at}
use Rattle.std.specs.Ordering.{eq_by_cmp}
use Rattle.std.specs.declared.cmp.Ordering.TheVariants.{Less, Equal, Greater}
use Rattle.std.proofs.lemmas.Bool.{false≢true}
use Rattle.std.proofs.lemmas.Cmp.{tied_itself}
use Rattle.std.proofs.lemmas.List.Elements.{recursion_from_All}
use Rattle.jr_path.specs.Ids.{id_cmp}
use Rattle.jr_path.specs.declared.path.DocId.{DocId}
use Rattle.jr_path.proofs.Orders.{id_exact, id_total, tested}
use Rattle.oak_doc.specs.declared.document.Document.{Document}
use Rattle.oak_doc.specs.declared.asks.Ask.{Ask}
use Rattle.oak_doc.specs.declared.asks.Ask.TheVariants as ask
use Rattle.oak_doc.specs.declared.asks.Reply.TheVariants as reply
use Rattle.oak_sweep.specs.Ending.{IsUpTo, KnowsOf, TablesKnow, sweeper_answer}
use Rattle.oak_sweep.proofs.Passing.{Entries, behind, passes, passes_if}

abbrev Named : Entries → Type 0
Named es = AllByRecursion (λ e. e.1.id ≡ e.0) es

abbrev found_at : DocId → Entries → Option Document
found_at y es = lookup (is_at (id_cmp y)) es

-- the first of some documents is one that isn't behind y
abbrev IsFirstUpTo : DocId → Entries → Type 0
IsFirstUpTo y es = (d : Document) × (option_map (λ e. e.1) (slice_get es 0) ≡ Some d) × IsUpTo y d

-- what is below each document is below one that is found
below_found : (x y : DocId) (d : Document) (es : Entries) → AllByRecursion (λ k. id_cmp x k ≡ Less) (keys_of es) → found_at y es ≡ Some d → id_cmp x y ≡ Less
below_found x y d [] all there = cc
below_found x y d (e ∷ es) all there = by (eq_by_cmp id_cmp y e.0) refl there (λ h. below_found x y d es all.1 h)
  where
    by : (b : Bool) → eq_by_cmp id_cmp y e.0 ≡ b → cond b (Some e.1) (found_at y es) ≡ Some d → (found_at y es ≡ Some d → id_cmp x y ≡ Less) → id_cmp x y ≡ Less
    by true same h rest = subst (λ k. id_cmp x k ≡ Less) (sym ((tested id_total id_exact y e.0).0 same)) all.0
    by false other h rest = rest h

not_above : (x y : DocId) → (id_cmp x y ≡ Less) → id_cmp x y ≢ Greater
not_above x y less h = let e : Less ≡ Greater = sym less ∙ h in cc

-- the first document of all
first_upto : (y : DocId) (d : Document) (e : DocId × Document) (es : Entries) → e.1.id ≡ e.0 → AllByRecursion (λ k. id_cmp e.0 k ≡ Less) (keys_of es) → found_at y (e ∷ es) ≡ Some d → IsUpTo y e.1
first_upto y d e es named above there = subst (λ k. id_cmp k y ≢ Greater) (sym named) (by (eq_by_cmp id_cmp y e.0) refl there)
  where
    by : (b : Bool) → eq_by_cmp id_cmp y e.0 ≡ b → cond b (Some e.1) (found_at y es) ≡ Some d → id_cmp e.0 y ≢ Greater
    by true same h = subst (λ k. id_cmp k y ≢ Greater) ((tested id_total id_exact y e.0).0 same) (λ g. let t : Equal ≡ Greater = sym (tied_itself id_total y) ∙ g in cc)
    by false other h = not_above e.0 y (below_found e.0 y d es above h)

all_upto : (y : DocId) (d : Document) (es : Entries) → IsStrictlySortedBy id_cmp (keys_of es) → Named es → found_at y es ≡ Some d → IsFirstUpTo y es
unfolding IsStrictlySortedBy
all_upto y d [] sorted named there = cc
all_upto y d (e ∷ es) sorted named there = (e.1, refl, first_upto y d e es named.0 sorted.0 there)

-- the first document behind one that y is behind
behind_upto : (x y : DocId) (d : Document) (es : Entries) → IsStrictlySortedBy id_cmp (keys_of es) → Named es → id_cmp x y ≡ Less → found_at y es ≡ Some d → IsFirstUpTo y (behind x es)
unfolding IsStrictlySortedBy
behind_upto x y d [] sorted named less there = cc
behind_upto x y d (e ∷ es) sorted named less there = by (passes x e.0) refl (eq_by_cmp id_cmp y e.0) refl there (λ h. behind_upto x y d es sorted.1 named.1 less h)
  where
    by : (b : Bool) → passes x e.0 ≡ b → (c : Bool) → eq_by_cmp id_cmp y e.0 ≡ c → cond c (Some e.1) (found_at y es) ≡ Some d → (found_at y es ≡ Some d → IsFirstUpTo y (behind x es)) → IsFirstUpTo y (cond b (e ∷ behind x es) (behind x es))
    by true pass c is h rest = (e.1, refl, first_upto y d e es named.0 sorted.0 there)
    by false pass true is h rest = absurd (false≢true (sym pass ∙ passes_if (id_cmp x e.0) (subst (λ k. id_cmp x k ≡ Less) ((tested id_total id_exact y e.0).0 is) less)))
    by false pass false is h rest = rest h

pub tables_know : TablesKnow
tables_know table is y d there a = by a
  where
    named : Named table
    named = recursion_from_All (λ e. e.1.id ≡ e.0) table is.named

    by : (a : Ask) → KnowsOf y a (sweeper_answer table a)
    by (ask.NextAfter None) = λ h. let f = all_upto y d table is.ordered named there in (f.0, ap reply.Found f.1, f.2)
    by (ask.NextAfter (Some x)) = λ less. let f = behind_upto x y d table is.ordered named less there in (f.0, ap reply.Found f.1, f.2)
    by (ask.Find x) = tt
    by (ask.Update op) = tt
    by (ask.Undo r) = tt
    by (ask.RemoveIf x n) = tt
    by (ask.Memory m) = tt
    by ask.Done = tt
