-- Lists of JSON that are read back and mean something.
use Rattle.std.proofs.Common.{◌≡◌, ℕ, suc, ◌+◌, List, [], ◌∷◌, All, length, ap, refl}
use Rattle.std.proofs.lemmas.List.Elements.{All-cons, All-head, All-nil, All-tail}
use Rattle.serde_json.specs.Data.{Data}
use Rattle.serde_json.specs.View.{items_of}
use Rattle.jr_args.specs.Outcomes.{Means, Reading}
use Rattle.jr_args.specs.Trees.{list_of}
use Rattle.jr_args.proofs.Readings.{means}
use Rattle.jr_gen.proofs.Spelled.{AreReadBack, IsReadBack, item_back, no_items_back}

-- JSON that is read back, and means a thing of which the fact holds
pub record IsGood {X : Type 0} (n : ℕ) (M : Data → Reading X) (P : X → Type 0) (d : Data) : Type 0 where
  pub back : IsReadBack n d
  pub thing : X
  pub means : M d (Means thing)
  pub holds : P thing

-- a list means as many things, of each of which the fact holds
pub record AreMeant {X : Type 0} (M : Data → Reading X) (P : X → Type 0) (i : ℕ) (ds : List Data) : Type 0 where
  pub things : List X
  pub means : list_of M i (items_of ds) (Means things)
  pub size : length things ≡ length ds
  pub hold : All P things

pub are_back : {X : Type 0} (n : ℕ) (M : Data → Reading X) (P : X → Type 0) (ds : List Data) → All (IsGood n M P) ds
    → AreReadBack n (items_of ds)
are_back n M P [] h = no_items_back n
are_back n M P (d ∷ ds) h =
    item_back n d (items_of ds) (All-head (IsGood n M P) d ds h).back
    (are_back n M P ds (All-tail (IsGood n M P) d ds h))

pub are_meant : {X : Type 0} (n : ℕ) (M : Data → Reading X) (P : X → Type 0) (i : ℕ) (ds : List Data)
    → All (IsGood n M P) ds → AreMeant M P i ds
are_meant n M P i [] h = record { things = []; means = refl; size = refl; hold = All-nil P }
are_meant n M P i (d ∷ ds) h =
    let first = All-head (IsGood n M P) d ds h in
    let rest = are_meant n M P (i + 1) ds (All-tail (IsGood n M P) d ds h) in
    record {
      things = first.thing ∷ rest.things;
      means = means _ _ first.thing _ first.means (means _ _ rest.things _ rest.means refl);
      size = ap suc rest.size;
      hold = All-cons P first.thing rest.things first.holds rest.hold;
    }
