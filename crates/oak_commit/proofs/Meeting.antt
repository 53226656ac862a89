-- What is met in a document, one revision after another.
use Rattle.std.proofs.Common.{◌≡◌, Bool, List, ◌∷◌, ◌++◌, map, Option, Some, None, Bor, refl, ap, ◌∙◌, append_assoc}
use Rattle.std.specs.Prelude.{option_to_list}
use Rattle.std.specs.Option.{option_copied, option_map}
use Rattle.std.specs.List.{filter_map}
use Rattle.std.specs.Map.{keys_of}
use Rattle.jr_path.specs.Ids.{names_of}
use Rattle.jr_path.specs.declared.path.DocId.{DocId}
use Rattle.jr_path.specs.declared.path.Path.{Path}
use Rattle.jr_rev.specs.declared.revision.Revision.{Revision}
use Rattle.jr_rev.specs.declared.vector.RevVec.{RevVec}
use Rattle.oak_clash.specs.declared.mark.MarkAt.{MarkAt}
use Rattle.oak_clash.specs.Clashes.{marks_at}
use Rattle.oak_doc.specs.declared.document.Document.{Document}
use Rattle.oak_commit.specs.Clashing.{Met, found}
use Rattle.oak_commit.specs.Meeting.{due_in, dues_in, met_in}
use Rattle.oak_commit.specs.declared.met.Due.{Due}

-- one more revision
pub met_step : (d : Document) (f : Revision → Option Met) (dues new : List Due) (o : Revision) (b : Bool) (left rest : List (Revision × Bool)) (all : List Due) → left ≡ (o, b) ∷ rest → new ≡ dues ++ option_to_list (option_map (due_in d) (f o)) → dues ++ map (due_in d) (filter_map f (keys_of left)) ≡ all → new ++ map (due_in d) (filter_map f (keys_of rest)) ≡ all
met_step d f dues new o b left rest all first more so_far =
    ap (λ ds. ds ++ map (due_in d) (filter_map f (keys_of rest))) more
    ∙ append_assoc dues (option_to_list (option_map (due_in d) (f o))) (map (due_in d) (filter_map f (keys_of rest)))
    ∙ ap (λ ds. dues ++ ds) (by (f o) refl)
    ∙ (rw first at so_far)
  where
    by : (m : Option Met) → f o ≡ m → option_to_list (option_map (due_in d) m) ++ map (due_in d) (filter_map f (keys_of rest)) ≡ map (due_in d) (filter_map f (keys_of ((o, b) ∷ rest)))
    by None is = rw is refl
    by (Some y) is = rw is refl

-- what is found in the document of an id
pub found_is : (base : RevVec) (r : Revision) (ms : List MarkAt) (id : DocId) (p : Path) (before : Option (Bor Document)) (d : Bor Document) → before ≡ Some d → names_of id ≡ p → map (due_in d.now) (met_in base r p (marks_at p ms) d.now) ≡ dues_in (option_copied before) (found base r (names_of id) ms (option_copied before))
found_is base r ms id p before d there of = rw (there, of) refl
