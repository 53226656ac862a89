-- Where a collector goes on: the previous documents that are unlisted, that are left to be asked for, and that are removed.
use Rattle.std.proofs.Common.{◌≡◌, ◌<◌, ◌+◌, ℕ, Bool, true, false, cond, List, [], ◌∷◌, ◌++◌, Some, map, length, take, get_or, refl, sym, ap, ◌∙◌, append-nil, append_assoc}
use Rattle.std.proofs.lemmas.List.{take_more}
use Rattle.std.proofs.lemmas.List.Concat.{flat_map-append}
use Rattle.std.specs.List.{filter, flat_map}
use Rattle.jr_rev.specs.declared.vector.Pin.{Pin}
use Rattle.oak_doc.specs.declared.document.Document.{Document}
use Rattle.oak_doc.specs.declared.document.PrevEntry.{PrevEntry}
use Rattle.oak_doc.specs.declared.update.Change.{Change}
use Rattle.oak_doc.specs.declared.update.Change.TheVariants as change
use Rattle.oak_gc.specs.Collecting.{Previous, decided, found_in, going_on, last_of}
use Rattle.oak_gc.specs.Garbage.{garbage_listed, is_garbage_listed}
use Rattle.oak_gc.specs.Noting.{unlisting}
use Rattle.oak_gc.specs.declared.collector.Collector.{Collector}
use Rattle.oak_gc.specs.declared.reading.Reading.{Reading}
use Rattle.oak_gc.specs.declared.reading.Step.{Step}
use Rattle.oak_gc.specs.declared.reading.Step.TheVariants as step

-- what stands at the end is the last
pub last_is : (es : Previous) (e : ℕ × Document) → last_of (es ++ e ∷ []) ≡ Some (e, es)
last_is [] e = refl
last_is (f ∷ es) e = rw (last_is es e) refl

-- those that are unlisted are the listed ones of which all is garbage
pub unlisted : (bound : Pin) (r : Reading) → flat_map (unlisting bound r) r.document.prev ≡ map change.Unlist (garbage_listed bound.base bound.sweep (found_in r.previous) r.document)
unlisted bound r = over r.document.prev
  where
    by : (b : Bool) (e : PrevEntry) (rest : List Change) (more : List PrevEntry) → rest ≡ map change.Unlist (map (λ e. e.number) more) → cond b (change.Unlist e.number ∷ []) [] ++ rest ≡ map change.Unlist (map (λ e. e.number) (cond b (e ∷ more) more))
    by true e rest more is = ap (λ cs. change.Unlist e.number ∷ cs) is
    by false e rest more is = is

    over : (es : List PrevEntry) → flat_map (unlisting bound r) es ≡ map change.Unlist (map (λ e. e.number) (filter (is_garbage_listed bound.base bound.sweep (found_in r.previous) r.document) es))
    over [] = refl
    over (e ∷ es) = by (is_garbage_listed bound.base bound.sweep (found_in r.previous) r.document e) e (flat_map (unlisting bound r) es) (filter (is_garbage_listed bound.base bound.sweep (found_in r.previous) r.document) es) (over es)

-- the changes for one more entry are put
pub changes_more : (h : PrevEntry → List Change) (xs : List PrevEntry) (i : ℕ) (d : PrevEntry) (start old new : List Change) → i < length xs → old ≡ start ++ flat_map h (take i xs) → new ≡ old ++ h (get_or xs i d) → new ≡ start ++ flat_map h (take (i + 1) xs)
changes_more h xs i d start old new within so_far more =
    more
    ∙ ap (λ cs. cs ++ h (get_or xs i d)) so_far
    ∙ append_assoc start (flat_map h (take i xs)) (h (get_or xs i d))
    ∙ ap (λ cs. start ++ cs) (ap (λ cs. flat_map h (take i xs) ++ cs) (sym (append-nil (h (get_or xs i d)))) ∙ sym (flat_map-append h (take i xs) (get_or xs i d ∷ [])) ∙ ap (flat_map h) (sym (take_more xs i d within)))

-- nothing is left to be asked for
pub gone_on : (c : Collector) (r : Reading) (s : Step) → c.reading.listed ≡ [] → r ≡ c.reading → s ≡ decided c.bound r → record c { reading = r; step = s } ≡ going_on c
gone_on c r s empty same is =
    ap (λ r. record c { reading = r; step = s }) same ∙ ap (λ s. record c { step = s }) (is ∙ ap (decided c.bound) same) ∙ end
  where
    end : record c { step = decided c.bound c.reading } ≡ going_on c
    end = rw empty refl

-- the first of those that are left is asked for
pub gone_listed : (c : Collector) (n : ℕ) (ns : List ℕ) → c.reading.listed ≡ n ∷ ns → record c { reading = record c.reading { listed = ns }; step = step.Listed n } ≡ going_on c
gone_listed c n ns is = rw is refl
