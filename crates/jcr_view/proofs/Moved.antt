-- What is made of a whole tree.
use Rattle.std.proofs.Common.{◌≡◌, Bool, true, false, cond, List, [], ap, sym, ◌∙◌}
use Rattle.std.specs.Prelude.{Result, Ok, Err, IfErr, IfOk}
use Rattle.std.specs.String.{string_bytes}
use Rattle.std.specs.declared.alloc.Global.{Global}
use Rattle.std.specs.declared.string.String.{String}
use Rattle.std.specs.FinMap.{is_sorted}
use Rattle.jr_path.specs.Names.{path_cmp}
use Rattle.jr_tree.specs.Trees.{Nodes, node_at}
use Rattle.jr_tree.specs.Edits.{changes}
use Rattle.jr_tree.specs.declared.edit.Write.{Write}
use Rattle.jr_tree.specs.declared.shared.Refusal.{Refusal}
use Rattle.jr_tree.specs.declared.shared.Who.{Who}
use Rattle.jr_overlay.specs.Drafts.{Steps, stepped, with_steps}
use Rattle.jr_items.specs.Refusals.{out_of_memory}
use Rattle.jr_part.specs.Parts.{Knowledge}
use Rattle.jr_overlay.specs.Overlays.{Changed, View, known_view, view_of, whole_view}
use Rattle.jr_overlay.proofs.Commits.{nothing_over, view_steps}
use Rattle.jr_types.specs.declared.TypeDef.{TypeDef}
use Rattle.jcr_fill.specs.Makings.{Making, making}
use Rattle.jcr_trans.specs.Answers.{Answer, Done}
use Rattle.jcr_trans.specs.Texts.{answer_text}
use Rattle.jcr_trans.specs.declared.command.Command.{Command}
use Rattle.jcr_view.specs.Outcomes.{Evaluated, eval, evaluated, is_writing, made_outcome, shown_outcome, written_outcome}
use Rattle.jcr_read.specs.Reading.{Replies, refused, shown}
use Rattle.jcr_view.specs.Rebases.{moved_view, rebased, steps_again}

-- steps over a tree of which all is known make of it what they make of a tree
pub view_made : (t known : Nodes) (steps : Steps) → is_sorted path_cmp t ≡ true → known ≡ t
    → view_of t (with_steps known [] steps) ≡ stepped t t steps
view_made t known steps s same =
    view_steps t known [] steps s (nothing_over t) (λ p h. ap (λ (u : Nodes). node_at u p) same)

-- a view made again where all of the new tree is known
pub moved_by : (old new view moved : Nodes) (k : Knowledge) (ws : List Write) (c : Changed)
    → is_sorted path_cmp new ≡ true → k.nodes ≡ new → known_view k [] ≡ whole_view new
    → ws ≡ changes old view → c ≡ rebased k ws → moved ≡ view_of new c → moved ≡ moved_view old new view
moved_by old new view moved k ws c sorted nodes seen writes made is =
    is ∙ ap (view_of new) made
    ∙ view_made new k.nodes (steps_again (known_view k []) ws) sorted nodes
    ∙ ap (λ (v : View). stepped new new (steps_again v ws)) seen
    ∙ ap (λ (us : List Write). stepped new new (steps_again (whole_view new) us)) writes

module _ (types : List TypeDef) (who : Who) (base view : Nodes) (command : Command) where
  writing : is_writing command ≡ true → eval types who base view command
      ≡ evaluated base view (made_outcome who.ids (written_outcome types who (whole_view view) command (making [] who.ids)))
  writing writes = ap (λ (b : Bool). evaluated base view (cond b
      (made_outcome who.ids (written_outcome types who (whole_view view) command (making [] who.ids)))
      (shown_outcome who.ids (shown types (whole_view view) base command)))) writes

  -- what a writing command made counts
  pub write_made : (steps : Steps) (ids : _) → is_writing command ≡ true
      → written_outcome types who (whole_view view) command (making [] who.ids) ≡ Ok (making steps ids)
      → eval types who base view command
      ≡ record { answer = Done; view = stepped base view steps; ids = ids }
  write_made steps ids writes is =
      writing writes ∙ ap (λ (m : Result Making Refusal). evaluated base view (made_outcome who.ids m)) is

  -- of one that is refused nothing does
  pub write_refused : (r : Refusal) → is_writing command ≡ true
      → written_outcome types who (whole_view view) command (making [] who.ids) ≡ Err r
      → eval types who base view command ≡ record { answer = refused r; view = view; ids = who.ids }
  write_refused r writes is =
      writing writes ∙ ap (λ (m : Result Making Refusal). evaluated base view (made_outcome who.ids m)) is

  -- a command that isn't writing changes nothing
  pub read_shown : is_writing command ≡ false → eval types who base view command
      ≡ record { answer = shown types (whole_view view) base command; view = view; ids = who.ids }
  read_shown reads = ap (λ (b : Bool). evaluated base view (cond b
      (made_outcome who.ids (written_outcome types who (whole_view view) command (making [] who.ids)))
      (shown_outcome who.ids (shown types (whole_view view) base command)))) reads

  pub read_text : (result : Result (String Global) Refusal) → is_writing command ≡ false
      → Replies (shown types (whole_view view) base command) result
      → IfOk result (λ text. string_bytes text ≡ answer_text (eval types who base view command).answer)
  read_text (Ok text) reads is = is ∙ ap (λ (e : Evaluated). answer_text e.answer) (sym (read_shown reads))
  read_text (Err r) reads is = tt

  pub read_refused : (result : Result (String Global) Refusal) → is_writing command ≡ false
      → Replies (shown types (whole_view view) base command) result
      → IfErr result (λ r. ¬ (r ≡ out_of_memory) → eval types who base view command
      ≡ record { answer = refused r; view = view; ids = who.ids })
  read_refused (Ok text) reads is = tt
  read_refused (Err r) reads is = λ m.
      read_shown reads ∙ ap (λ (a : Answer). record { answer = a; view = view; ids = who.ids }) (is m)
