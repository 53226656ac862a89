-- What is told of a command once its commit is made, and its plan.
use Rattle.std.proofs.Common.{◌≡◌, ◌≢◌, Bool, true, cond, Ok, Err, Option, None, Some, List, [], ◌∷◌, ℕ, refl, sym, ap, subst, ◌∙◌, String}
use Rattle.std.specs.Prelude.{IfErr, IfOk, Result, option_map, string_bytes}
use Rattle.std.specs.Option.{option_map_or, unwrap_or}
use Rattle.std.proofs.lemmas.Option.{none-some}
use Rattle.std.specs.declared.alloc.Global.{Global}
use Rattle.jr_tree.specs.declared.shared.Who.{Who}
use Rattle.jr_rev.specs.declared.revision.Revision.{Revision}
use Rattle.jr_tree.specs.declared.edit.Edit.{Edit}
use Rattle.jr_tree.specs.declared.edit.Write.{Write}
use Rattle.jr_tree.specs.Edits.{IsProper}
use Rattle.jr_tree.specs.Trees.{IsTree, Nodes}
use Rattle.jr_tree.specs.declared.shared.Refusal.{Refusal}
use Rattle.jr_items.specs.Names.{version_storage}
use Rattle.jr_items.specs.Refusals.{IsTheRefusal, own_rule}
use Rattle.jcr_marks.specs.Marks.{marks_of}
use Rattle.jcr_plan.specs.Checked.{refusal_by}
use Rattle.jcr_plan.specs.Plans.{PlanOk}
use Rattle.jcr_plan.specs.Refusals.{plan_refusal}
use Rattle.jcr_plan.proofs.Accepted.{accepted as plan_accepted}
use Rattle.jcr_plan.specs.declared.plans.Plan.{Plan}
use Rattle.jcr_trans.specs.Answers.{ShowsRevision, ShowsText}
use Rattle.jcr_trans.specs.Texts.{answer_text}
use Rattle.jcr_trans.specs.declared.command.Command.{Command}
use Rattle.jcr_trans.specs.declared.command.Command.TheVariants as command
use Rattle.jcr_law.specs.Commits.{committed_answer, edit_due}
use Rattle.jcr_law.specs.Law.{no_text}
use Rattle.jcr_law.specs.Proper.{is_proper}
use Rattle.jcr_law.proofs.Proper.{proper_of}
use Rattle.jcr_law.specs.State.{Call, accepted, next_id, with_token}
use Rattle.jcr_call.specs.Comings.{IsAcceptedOf, IsTold, reply_to_due}
use Rattle.jcr_call.specs.Footings.{IsAsKnown, IsOn, RefusesAlike}
use Rattle.jcr_call.specs.declared.footing.Footing.{Footing}
use Rattle.jcr_call.specs.declared.coming.Accepted.{Accepted}

-- ---- what is told of a command once its commit is made

shown : {X Y : Type 0} (f : X → Y) (o : Option X) (d : Y) → option_map_or f o d ≡ unwrap_or (option_map f o) d
shown f None d = refl
shown f (Some x) d = refl

pub accepted_by : (c : Call) (m : Command) (a : Accepted) (text : Option (List ℕ)) (tokens : List (List ℕ)) → IsTold text tokens a
    → ((r : Revision) → unwrap_or text (answer_text (ShowsRevision r)) ≡ answer_text (committed_answer c c.base r m))
    → tokens ≡ (accepted c m).tokens → IsAcceptedOf c m a
accepted_by c m a text tokens told shows holds = record {
  text = λ r. shown string_bytes a.text _ ∙ (ap (λ o. unwrap_or o (answer_text (ShowsRevision r))) told.text ∙ shows r);
  tokens = told.tokens ∙ holds;
}

-- of a command that commits, but for a lock and a check-in, only the revision is told
pub untold_answer : (c : Call) (m : Command) (due : Result (List Write) Refusal) → edit_due c m ≡ Some due
    → ((p : _) (deep : Bool) → m ≢ command.Lock p deep) → ((p : _) → m ≢ command.Checkin p)
    → (r : Revision) → answer_text (ShowsRevision r) ≡ answer_text (committed_answer c c.base r m)
untold_answer c (command.Lock p deep) due is no_lock no_checkin r = absurd (no_lock p deep refl)
untold_answer c (command.Checkin p) due is no_lock no_checkin r = absurd (no_checkin p refl)
untold_answer c m due is no_lock no_checkin r = refl

-- it leaves the tokens
pub untold_tokens : (c : Call) (m : Command) (due : Result (List Write) Refusal) → edit_due c m ≡ Some due
    → ((p : _) (deep : Bool) → m ≢ command.Lock p deep) → c.state.tokens ≡ (accepted c m).tokens
untold_tokens c command.Save due is no_lock = refl
untold_tokens c (command.Lock p deep) due is no_lock = absurd (no_lock p deep refl)
untold_tokens c (command.Unlock p) due is no_lock = refl
untold_tokens c (command.Checkin p) due is no_lock = refl
untold_tokens c (command.Checkout p) due is no_lock = refl
untold_tokens c (command.Label p v n take) due is no_lock = refl
untold_tokens c (command.Unlabel p n) due is no_lock = refl
untold_tokens c (command.Restore p v) due is no_lock = refl
untold_tokens c m due is no_lock = absurd (none-some due is)

-- ---- the plan

-- what is lent is a tree, where that is known
pub tree_lent : (f : Footing) (c : Call) → IsOn f c → IsAsKnown f c → f.is_tree ≡ true → IsTree f.base.now
tree_lent f c on known is = subst IsTree (sym on.base) (known.tree is)

-- a refusal by what is lent is the plan's of the call
pub refused_alike : (f : Footing) (c : Call) (tokens : List (List ℕ)) (ws : List Write) → IsOn f c → RefusesAlike f.assured c
    → refusal_by f.assured f.types.now f.base.now tokens ws ≡ plan_refusal c.types c.base tokens ws
refused_alike f c tokens ws on alike = (λ i. refusal_by f.assured (on.types i) (on.base i) tokens ws) ∙ alike tokens ws

pub free_alike : (made : Result Plan Refusal) (f : Footing) (c : Call) (tokens : List (List ℕ)) (ws : List Write) → IsOn f c → RefusesAlike f.assured c
    → IfOk made (λ plan. refusal_by f.assured f.types.now f.base.now tokens ws ≡ None) → IfOk made (λ plan. plan_refusal c.types c.base tokens ws ≡ None)
free_alike (Ok plan) f c tokens ws on alike none = sym (refused_alike f c tokens ws on alike) ∙ none
free_alike (Err r) f c tokens ws on alike none = tt

pub cause_alike : (made : Result Plan Refusal) (f : Footing) (c : Call) (tokens : List (List ℕ)) (ws : List Write) → IsOn f c → RefusesAlike f.assured c
    → IfErr made (IsTheRefusal (refusal_by f.assured f.types.now f.base.now tokens ws)) → IfErr made (IsTheRefusal (plan_refusal c.types c.base tokens ws))
cause_alike (Ok plan) f c tokens ws on alike is = tt
cause_alike (Err r) f c tokens ws on alike is = λ other. sym (refused_alike f c tokens ws on alike) ∙ is other

-- the plan of an edit that passes the test of proper writes
pub plan_there : (c : Call) (t : Nodes) (tokens : List (List ℕ)) (edit : Edit) (plan : Plan)
    → t ≡ c.base → tokens ≡ c.state.tokens → plan.edit ≡ edit → is_proper t edit.writes ≡ true
    → plan.marks ≡ marks_of t edit.writes → plan_refusal c.types c.base tokens edit.writes ≡ None
    → PlanOk c.types c.base c.state.tokens plan.edit.writes plan.marks
plan_there c t tokens edit plan base held is proper marks none =
    let there : IsProper c.base edit.writes = proper_of c.base edit.writes (subst (λ (x : Nodes). is_proper x edit.writes ≡ true) base proper) in
    let planned : PlanOk c.types c.base tokens edit.writes (marks_of c.base edit.writes) = plan_accepted c.types c.base tokens edit.writes there none in
    subst (λ (x : Edit). PlanOk c.types c.base c.state.tokens x.writes plan.marks) (sym is)
    (subst (λ (x : List (List ℕ)). PlanOk c.types c.base x edit.writes plan.marks) held
    (subst (PlanOk c.types c.base tokens edit.writes) (sym (marks ∙ ap (λ (x : Nodes). marks_of x edit.writes) base)) planned))

-- the reply to a command whose edit is proper: the refusal of its plan, if there is one
pub plan_reply : (c : Call) (m : Command) (t : Nodes) (tokens : List (List ℕ)) (ws : List Write) (r : Option Refusal)
    → t ≡ c.base → tokens ≡ c.state.tokens → ws ≢ [] → is_proper t ws ≡ true → plan_refusal c.types c.base tokens ws ≡ r
    → option_map no_text r ≡ reply_to_due c m (Ok ws)
plan_reply c m t tokens [] r base held some proper is = absurd (some refl)
plan_reply c m t tokens (w ∷ ws) r base held some proper is =
    let there : is_proper c.base (w ∷ ws) ≡ true = subst (λ (x : Nodes). is_proper x (w ∷ ws) ≡ true) base proper in
    let same : plan_refusal c.types c.base c.state.tokens (w ∷ ws) ≡ r = subst (λ (x : List (List ℕ)). plan_refusal c.types c.base x (w ∷ ws) ≡ r) held is in
    sym (ap (option_map no_text) (ap (λ b. cond b (plan_refusal c.types c.base c.state.tokens (w ∷ ws)) (Some (own_rule version_storage))) there ∙ same))

-- ---- the token of a lock

pub token_told : (c : Call) (who : Who) (id shown : List ℕ) (held tokens : List (List ℕ)) (text : String Global) → who ≡ c.who → held ≡ c.state.tokens
    → id ≡ next_id who → shown ≡ id → string_bytes text ≡ answer_text (ShowsText shown) → tokens ≡ with_token held id
    → IsTold (Some (answer_text (ShowsText (next_id c.who)))) (with_token c.state.tokens (next_id c.who)) (record { text = Some text; tokens = tokens })
token_told c who id shown held tokens text w h is same said new =
    let id_is : id ≡ next_id c.who = is ∙ ap next_id w in
    record {
      text = ap Some (said ∙ ap (λ s. answer_text (ShowsText s)) (same ∙ id_is));
      tokens = new ∙ (λ i. with_token (h i) (id_is i));
    }
