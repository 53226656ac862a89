-- Each step as one of a world.
use Rattle.std.proofs.Common.{◌≡◌, ℕ, ◌∷◌, Bool, true, false, cond, not, ◌&&◌, Option, Some, Result, Ok, Err, is_none, refl, ap, ◌∙◌}
use Rattle.jr_path.specs.declared.path.DocId.{DocId}
use Rattle.jr_path.specs.declared.path.DocId.TheVariants as id
use Rattle.jr_path.specs.declared.path.Path.{Path}
use Rattle.oak_doc.specs.declared.asks.Ask.TheVariants as ask
use Rattle.oak_doc.specs.declared.asks.RemoveOut.{RemoveOut}
use Rattle.oak_doc.specs.declared.document.Document.{Document}
use Rattle.oak_doc.specs.declared.update.OpFault.{OpFault}
use Rattle.oak_doc.specs.declared.update.OpFault.TheVariants as fault
use Rattle.oak_doc.specs.declared.update.UpdateOp.{UpdateOp}
use Rattle.oak_doc.specs.Updates.{after_changes, is_met, update_refusal, updated}
use Rattle.oak_machine.specs.declared.event.Event.TheVariants as event
use Rattle.oak_machine.specs.declared.event.StepKind.{StepKind}
use Rattle.oak_machine.specs.declared.event.StepKind.TheVariants as kind
use Rattle.oak_prev.specs.Splits.{main_write}
use Rattle.oak_read.specs.Meaning.{documents_in}
use Rattle.oak_store.specs.Tables.{Table, after_removal, found, next_number, with_document}
use Rattle.core_world.specs.Collecting.{after_split}
use Rattle.core_world.specs.States.{State}
use Rattle.core_world.specs.Steps.{with_result}
use Rattle.oak_acts.specs.Acts.{result_of}
use Rattle.oak_tidy.specs.Moves.{AbsentStay, BoundsGo, ChangedStay, DocumentsGo, GarbageGoes, LooksGo, NodesTell, ReadsStay, RefusalsGo, SplitsCopy, SplitsList, SplitsUndo}

-- the world with these documents and one event more
abbrev changed_to : State → ℕ → StepKind → Table → State
changed_to w s y t = record w { past = event.Went s y ∷ w.past; table = t }

pub reads_stay : ReadsStay
reads_stay w s (ask.Find i) looking = refl
reads_stay w s (ask.NextAfter i) looking = refl
reads_stay w s _ looking = absurd looking

pub looks_go : LooksGo
looks_go w s (ask.Find i) y looking = refl
looks_go w s (ask.NextAfter i) y looking = refl
looks_go w s _ y looking = absurd looking

pub nodes_tell : NodesTell
nodes_tell w s k y = refl

pub refusals_go : RefusalsGo
refusals_go w s op f y is = ap (λ (o : Result Document OpFault). changed_to w s y (with_result w.table op.id o)) is

pub changed_stay : ChangedStay
changed_stay w s i n k y is = ap (λ (o : RemoveOut). changed_to w s y (after_removal w.table i o)) is

pub absent_stay : AbsentStay
absent_stay w s i n y is = ap (λ (o : RemoveOut). changed_to w s y (after_removal w.table i o)) is

pub splits_undo : SplitsUndo
splits_undo w s i n is = ap (λ (o : RemoveOut). changed_to w s kind.Split (after_removal w.table i o)) is

pub documents_go : DocumentsGo
documents_go w s i n is = ap (λ (o : RemoveOut). changed_to w s kind.Collect (after_removal w.table i o)) is

pub splits_copy : SplitsCopy
splits_copy w s p k x op at is =
    ap (λ (o : Result Document OpFault). changed_to w s kind.Split (with_result w.table op.id o)) is
    ∙ ap (λ (i : DocId). changed_to w s kind.Split (with_document w.table i x (next_number w.table))) at

-- an update that is made makes its changes
made_is : (before : Option Document) (op : UpdateOp) (n : ℕ) (d : Document) → updated before op n ≡ Ok d → d ≡ after_changes before op n
made_is before op n d = by (is_none before && not op.create) (is_met before op.cond)
  where
    by : (a b : Bool) → cond a (Err fault.Absent) (cond b (Ok (after_changes before op n)) (Err (update_refusal before op.cond))) ≡ Ok d → d ≡ after_changes before op n
    by true b h = cc
    by false true h = cc
    by false false h = cc

-- so does one of a document that is there
made_there : (w : State) (p : Path) (old d : Document) (op : UpdateOp) → op.id ≡ id.Node p → documents_in w.table.documents (id.Node p) ≡ Some old → result_of w.table op ≡ Ok d → d ≡ after_changes (Some old) op (next_number w.table)
made_there w p old d op at there is =
    made_is (found w.table op.id) op (next_number w.table) d is
    ∙ ap (λ (o : Option Document). after_changes o op (next_number w.table)) (ap (λ (i : DocId). found w.table i) at ∙ there)

put_there : (w : State) (s : ℕ) (y : StepKind) (p : Path) (old d : Document) (op : UpdateOp) → op.id ≡ id.Node p → documents_in w.table.documents (id.Node p) ≡ Some old → result_of w.table op ≡ Ok d
    → changed_to w s y (with_result w.table op.id (result_of w.table op)) ≡ changed_to w s y (with_document w.table (id.Node p) (after_changes (Some old) op (next_number w.table)) (next_number w.table))
put_there w s y p old d op at there is =
    ap (λ (o : Result Document OpFault). changed_to w s y (with_result w.table op.id o)) is
    ∙ (ap (λ (i : DocId). changed_to w s y (with_document w.table i d (next_number w.table))) at
    ∙ ap (λ (x : Document). changed_to w s y (with_document w.table (id.Node p) x (next_number w.table))) (made_there w p old d op at there is))

pub garbage_goes : GarbageGoes
garbage_goes w s p old d op at there is = put_there w s kind.Collect p old d op at there is

pub splits_list : SplitsList
splits_list w s read pin p old d e at there is =
    ap (λ (v : State). record v { formers = (after_split w s read pin p old e).formers }) (put_there w s kind.Split p old d (main_write read pin old e) at there is)

pub bounds_go : BoundsGo
bounds_go w s m t = refl
