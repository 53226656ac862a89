-- Replies that show something of a view.
use Rattle.std.proofs.Common.{◌≡◌, List, None, Option, sym, subst, ap, ◌∙◌}
use Rattle.std.specs.Prelude.{Result, codes}
use Rattle.std.specs.declared.alloc.Global.{Global}
use Rattle.std.specs.declared.string.String.{String}
use Rattle.jr_path.specs.declared.path.Path.{Path}
use Rattle.jr_tree.specs.Trees.{Nodes}
use Rattle.jr_tree.specs.declared.shared.Refusal.{Refusal}
use Rattle.jr_tree.specs.declared.tree.Node.{Node}
use Rattle.jr_items.specs.Refusals.{IsTheRefusal, out_of_memory}
use Rattle.jr_part.specs.Parts.{Knowledge}
use Rattle.jr_overlay.specs.Overlays.{Changed, Sighted, View, known_view, sighted}
use Rattle.jr_types.specs.declared.TypeDef.{TypeDef}
use Rattle.jcr_ref.specs.Histories.{version_history_of, version_names}
use Rattle.jcr_trans.specs.Answers.{Answer, ShowsNames}
use Rattle.jcr_trans.specs.declared.command.Command.{Command}
use Rattle.jcr_frozen.specs.Histories.{no_versions}
use Rattle.jcr_read.specs.Reading.{Replies, answer_at, refused, refused_or, shown, versions_answer}

pub replies_same : (a b : Answer) (result : Result (String Global) Refusal) → a ≡ b → Replies b result → Replies a result
replies_same a b result e is = subst (λ (x : Answer). Replies x result) (sym e) is

-- what is seen of a part with changes is seen of them
pub seen_as : (s : Sighted) (k : Knowledge) (c : Changed) (P : View → Type 0) → s.known ≡ k → s.changed ≡ c
    → P (sighted s) → P (known_view k c)
seen_as s k c P known changed is =
    subst (λ (x : Changed). P (known_view k x)) changed
    (subst (λ (j : Knowledge). P (known_view j s.changed)) known is)

pub replies_seen : (s : Sighted) (k : Knowledge) (c : Changed) (p : Path) (shows : Node → Answer) (b : Answer)
    (result : Result (String Global) Refusal) → s.known ≡ k → s.changed ≡ c
    → answer_at (sighted s) p shows ≡ b → Replies b result → Replies (answer_at (known_view k c) p shows) result
replies_seen s k c p shows b result known changed e is =
    replies_same _ b result (seen_as s k c (λ v. answer_at v p shows ≡ b) known changed e) is

-- what is seen is the whole view
pub replies_viewed : (seen whole : View) (p : Path) (shows : Node → Answer) (b : Answer)
    (result : Result (String Global) Refusal) → seen ≡ whole → answer_at seen p shows ≡ b → Replies b result
    → Replies (answer_at whole p shows) result
replies_viewed seen whole p shows b result same e is =
    replies_same _ b result (subst (λ (v : View). answer_at v p shows ≡ b) same e) is

pub viewed_as : (seen whole : View) (p : Path) (shows : Node → Answer) (b : Answer) → seen ≡ whole
    → answer_at seen p shows ≡ b → answer_at whole p shows ≡ b
viewed_as seen whole p shows b same e = subst (λ (v : View). answer_at v p shows ≡ b) same e

pub versions_shown : (base t : Nodes) (p h : Path) (result : Result (String Global) Refusal) → t ≡ base
    → no_versions (codes "versions") t p ≡ None → h ≡ version_history_of t p
    → Replies (ShowsNames (version_names t h)) result → Replies (versions_answer base p) result
versions_shown base t p h result same none there is =
    subst (λ (u : Nodes). Replies (versions_answer u p) result) same
    (replies_same (versions_answer t p) (ShowsNames (version_names t h)) result
    (ap (λ (r : Option Refusal). refused_or r (ShowsNames (version_names t (version_history_of t p)))) none
    ∙ ap (λ (q : Path). ShowsNames (version_names t q)) (sym there)) is)

pub versions_refused : (base t : Nodes) (p : Path) (r : Refusal) → t ≡ base
    → IsTheRefusal (no_versions (codes "versions") t p) r
    → ¬ (r ≡ out_of_memory) → versions_answer base p ≡ refused r
versions_refused base t p r same is m =
    subst (λ (u : Nodes). versions_answer u p ≡ refused r) same
    (ap (λ (x : Option Refusal). refused_or x (ShowsNames (version_names t (version_history_of t p)))) (is m))

pub read_as : (types : List TypeDef) (base : Nodes) (command made : Command) (k : Knowledge) (c d : Changed)
    (result : Result (String Global) Refusal) → command ≡ made → c ≡ d
    → Replies (shown types (known_view k c) base made) result
    → Replies (shown types (known_view k d) base command) result
read_as types base command made k c d result e f is =
    subst (λ (x : Changed). Replies (shown types (known_view k x) base command) result) f
    (subst (λ (x : Command). Replies (shown types (known_view k c) base x) result) (sym e) is)
