-- The last write of an item, with its revision and without.
use Rattle.std.proofs.Common.{◌≡◌, Bool, true, false, cond, not, Some, None, Option, List, [], ◌∷◌, refl, ap, ◌∙◌}
use Rattle.std.specs.Option.{option_map, option_or}
use Rattle.jr_path.specs.declared.path.Path.{Path}
use Rattle.jr_rev.specs.declared.revision.Revision.{Revision}
use Rattle.jr_tree.specs.declared.edit.Write.{Write}
use Rattle.jr_tree.specs.Items.{here_of, written}
use Rattle.core_read.specs.Commits.{Commits, Sight, last, last_entry}
use Rattle.core_keep.specs.Standing.{gone_of}

-- the last write of a node, as `_deleted`
pub gone_last : (p : Path) (s : Sight) (es : Commits) → last_entry (gone_of p) s es ≡ option_map (λ (e : Revision × Bool). (e.0, not e.1)) (last_entry (here_of p) s es)
gone_last p s [] = refl
gone_last p s (e ∷ es) = join (written (gone_of p) e.1) (last_entry (gone_of p) s es) (written_gone e.1) (gone_last p s es) ∙ by (s e.0) (written (here_of p) e.1) (last_entry (here_of p) s es)
  where
    join : (w : Option Bool) (rest : Option (Revision × Bool)) → w ≡ option_map not (written (here_of p) e.1) → rest ≡ option_map (λ (f : Revision × Bool). (f.0, not f.1)) (last_entry (here_of p) s es)
        → option_or {T = Revision × Bool} (option_map (λ x. (e.0, x)) (cond (s e.0) w None)) rest ≡ option_or {T = Revision × Bool} (option_map (λ x. (e.0, x)) (cond (s e.0) (option_map not (written (here_of p) e.1)) None)) (option_map (λ (f : Revision × Bool). (f.0, not f.1)) (last_entry (here_of p) s es))
    join w rest h k = λ i. option_or {T = Revision × Bool} (option_map (λ x. (e.0, x)) (cond (s e.0) (h i) None)) (k i)

    written_gone : (us : List Write) → written (gone_of p) us ≡ option_map not (written (here_of p) us)
    written_gone [] = refl
    written_gone (w ∷ us) = ap (λ o. option_or o (option_map not (here_of p w))) (written_gone us) ∙ at (written (here_of p) us)
      where
        at : (o : Option Bool) → option_or (option_map not o) (option_map not (here_of p w)) ≡ option_map not (option_or o (here_of p w))
        at None = refl
        at (Some b) = refl

    by : (b : Bool) (w : Option Bool) (rest : Option (Revision × Bool)) → option_or {T = Revision × Bool} (option_map (λ x. (e.0, x)) (cond b (option_map not w) None)) (option_map (λ (e : Revision × Bool). (e.0, not e.1)) rest) ≡ option_map (λ (e : Revision × Bool). (e.0, not e.1)) (option_or {T = Revision × Bool} (option_map (λ x. (e.0, x)) (cond b w None)) rest)
    by true None rest = refl
    by true (Some x) rest = refl
    by false w rest = refl

-- the last write with its revision has the value of the last write
pub last_value : {X : Type 0} (f : Write → Option X) (s : Sight) (es : Commits) → last f s es ≡ option_map (λ (e : Revision × X). e.1) (last_entry f s es)
last_value f s [] = refl
last_value {X} f s (e ∷ es) = ap (option_or (cond (s e.0) (written f e.1) None)) (last_value f s es) ∙ by (cond (s e.0) (written f e.1) None) (last_entry f s es)
  where
    by : (w : Option X) (rest : Option (Revision × X)) → option_or w (option_map (λ (e : Revision × X). e.1) rest) ≡ option_map (λ (e : Revision × X). e.1) (option_or (option_map (λ x. (e.0, x)) w) rest)
    by None rest = refl
    by (Some x) rest = refl
