-- What a collector asks for a document is what its bound says of it, whatever it is fed.
use Rattle.std.proofs.Common.{◌≡◌, ℕ, Bool, true, false, cond, ◌||◌, List, [], ◌∷◌, Option, None, Some, length, map, refl, sym, ap, ◌∙◌, subst, arith}
use Rattle.std.specs.Prelude.{not, ◌==◌, ◌+◌, nat_lt}
use Rattle.std.specs.List.{filter, list_any}
use Rattle.std.specs.Option.{option_map_or}
use Rattle.jr_path.specs.declared.path.DocId.{DocId}
use Rattle.jr_path.specs.declared.path.DocId.TheVariants as id
use Rattle.jr_rev.specs.declared.vector.Pin.{Pin}
use Rattle.oak_doc.specs.declared.asks.Ask.TheVariants as ask
use Rattle.oak_doc.specs.declared.asks.RemoveOut.TheVariants as removal
use Rattle.oak_doc.specs.declared.asks.Reply.{Reply}
use Rattle.oak_doc.specs.declared.asks.Reply.TheVariants as reply
use Rattle.oak_doc.specs.declared.document.Document.{Document}
use Rattle.oak_doc.specs.declared.document.PrevEntry.{PrevEntry}
use Rattle.oak_doc.specs.declared.update.Change.TheVariants as change
use Rattle.oak_doc.specs.declared.update.Cond.TheVariants.{Unchanged}
use Rattle.oak_doc.specs.declared.update.EntryKey.{EntryKey}
use Rattle.oak_doc.specs.declared.update.Kept.TheVariants as kept
use Rattle.oak_gc.proofs.Going.{gone_listed, gone_on}
use Rattle.oak_gc.specs.Asking.{AskForGarbage, AsksForGarbage}
use Rattle.oak_gc.specs.Bounding.{collector_after}
use Rattle.oak_gc.specs.Collecting.{Previous, begun, decided, fed, found_document, found_in, garbage_previous, going_on, has_garbage_in, last_of, lowered, no_pair, nothing_read, node_reading, removing, with_document, with_entries, with_previous_read, with_skip}
use Rattle.oak_gc.specs.Bounds.{kept_pairs, root_pair}
use Rattle.oak_gc.specs.Garbage.{garbage_in, has_garbage, is_garbage_document, is_garbage_listed, garbage_listed}
use Rattle.oak_gc.specs.declared.collector.Collector.{Collector}
use Rattle.oak_gc.specs.declared.reading.Reading.{Reading}
use Rattle.oak_gc.specs.declared.reading.Step.{Step}
use Rattle.oak_gc.specs.declared.reading.Step.TheVariants as step

-- what is known of a document at a step
abbrev Knows : Step → Pin → Reading → Type 0
Knows step.Root b r = r ≡ nothing_read
Knows (step.Node k) b r = r ≡ nothing_read
Knows step.Settings b r = r ≡ nothing_read
Knows step.Prune b r = (is_garbage_document b.base b.sweep r.document ≡ false) × (has_garbage_in b r ≡ true)
Knows step.Remove b r = is_garbage_document b.base b.sweep r.document ≡ true
Knows step.First b r = Unit {0}
Knows step.Next b r = Unit {0}
Knows (step.Listed n) b r = Unit {0}
Knows (step.RemovePrevious n k) b r = Unit {0}
Knows step.Done b r = Unit {0}

record IsRight (c : Collector) : Type 0 where
  garbage : c.reading.garbage ≡ garbage_in c.bound.base c.bound.sweep c.reading.document
  knows : Knows c.step c.bound c.reading

-- before the bound is whole nothing is read
nothing_there : (c : Collector) → c.reading ≡ nothing_read → c.reading.garbage ≡ garbage_in c.bound.base c.bound.sweep c.reading.document
nothing_there c is = ap (λ r. r.garbage) is ∙ sym (ap (λ r. garbage_in c.bound.base c.bound.sweep r.document) is)

unread : (c : Collector) (s : Step) → c.reading ≡ nothing_read → Knows s c.bound c.reading → IsRight (record c { step = s })
unread c s is knows = record { garbage = nothing_there c is; knows = knows }

behind : (c : Collector) (b : Bool) (k : ℕ) → c.reading ≡ nothing_read → IsRight (record c { step = cond b (step.Node k) step.Settings })
behind c true k is = unread c (step.Node k) is is
behind c false k is = unread c step.Settings is is

decided_right : (b : Pin) (r : Reading) (g h : Bool) → is_garbage_document b.base b.sweep r.document ≡ g → has_garbage_in b r ≡ h → Knows (cond g step.Remove (cond h step.Prune step.Next)) b r
decided_right b r true h is_g is_h = is_g
decided_right b r false true is_g is_h = (is_g, is_h)
decided_right b r false false is_g is_h = tt

decided_knows : (b : Pin) (r : Reading) → Knows (decided b r) b r
decided_knows b r = decided_right b r (is_garbage_document b.base b.sweep r.document) (has_garbage_in b r) refl refl

going_right : (c : Collector) → c.reading.garbage ≡ garbage_in c.bound.base c.bound.sweep c.reading.document → IsRight (going_on c)
going_right c garbage = by c.reading.listed refl
  where
    by : (ns : List ℕ) → c.reading.listed ≡ ns → IsRight (going_on c)
    by [] is = subst IsRight (gone_on c c.reading (decided c.bound c.reading) is refl refl) (record { garbage = garbage; knows = decided_knows c.bound c.reading })
    by (n ∷ ns) is = subst IsRight (gone_listed c n ns is) (record { garbage = garbage; knows = tt })

found_right : (c : Collector) (d : Document) → IsRight c → IsRight (found_document c d)
found_right c d right = by d.id
  where
    by : (x : DocId) → IsRight (option_map_or (λ r. going_on (record c { reading = r })) (node_reading c.bound x d) (record c { step = step.Done }))
    by (id.Node p) = going_right (record c { reading = record { at = p; document = d; garbage = garbage_in c.bound.base c.bound.sweep d; listed = map (λ e. e.number) d.prev; previous = [] } }) refl
    by (id.Prev n p) = record { garbage = right.garbage; knows = tt }
    by id.Settings = record { garbage = right.garbage; knows = tt }

removing_right : (c : Collector) → c.reading.garbage ≡ garbage_in c.bound.base c.bound.sweep c.reading.document → IsRight (removing c)
removing_right c garbage = by (last_of c.reading.previous)
  where
    by : (o : Option ((ℕ × Document) × Previous)) → IsRight (option_map_or (λ l. record c { reading = record c.reading { previous = l.1 }; step = step.RemovePrevious l.0.0 l.0.1.mod_count }) o (record c { step = step.Next }))
    by None = record { garbage = garbage; knows = tt }
    by (Some l) = record { garbage = garbage; knows = tt }

next_right : (c : Collector) (found : Option Document) → IsRight c → IsRight (option_map_or (found_document c) found (record c { step = step.Done }))
next_right c None right = record { garbage = right.garbage; knows = tt }
next_right c (Some d) right = found_right c d right

goes_on : (c : Collector) (s : Step) (r : Reply) → IsRight (record c { step = s }) → IsRight (fed (record c { step = s }) r)
goes_on c step.Root (reply.Found found) right = behind (record c { bound = option_map_or root_pair found no_pair }) (nat_lt 0 c.clusters) (0 + 1) right.knows
goes_on c step.Root (reply.Updated before) right = right
goes_on c step.Root (reply.Unmet c' (kept.Entry o i)) right = right
goes_on c step.Root (reply.Unmet c' (kept.Number found)) right = right
goes_on c step.Root (reply.Unmet c' kept.Nothing) right = right
goes_on c step.Root reply.Absent right = right
goes_on c step.Root reply.NoMemory right = right
goes_on c step.Root reply.Undone right = right
goes_on c step.Root (reply.Removed removal.Removed) right = right
goes_on c step.Root (reply.Removed (removal.Changed found)) right = right
goes_on c step.Root (reply.Removed removal.Absent) right = right
goes_on c step.Root reply.Finished right = right
goes_on c step.Root reply.Learnt right = right
goes_on c step.Root (reply.Pins head sweep pins) right = right
goes_on c step.Root reply.Gone right = right
goes_on c step.Root reply.Recovered right = right
goes_on c (step.Node k) (reply.Found found) right = right
goes_on c (step.Node k) (reply.Updated before) right = right
goes_on c (step.Node k) (reply.Unmet c' (kept.Entry o i)) right = right
goes_on c (step.Node k) (reply.Unmet c' (kept.Number found)) right = right
goes_on c (step.Node k) (reply.Unmet c' kept.Nothing) right = right
goes_on c (step.Node k) reply.Absent right = right
goes_on c (step.Node k) reply.NoMemory right = right
goes_on c (step.Node k) reply.Undone right = right
goes_on c (step.Node k) (reply.Removed removal.Removed) right = right
goes_on c (step.Node k) (reply.Removed (removal.Changed found)) right = right
goes_on c (step.Node k) (reply.Removed removal.Absent) right = right
goes_on c (step.Node k) reply.Finished right = right
goes_on c (step.Node k) reply.Learnt right = right
goes_on c (step.Node k) (reply.Pins head sweep pins) right = behind (lowered c (record { base = head; sweep = sweep } ∷ pins)) (nat_lt k c.clusters) (k + 1) right.knows
goes_on c (step.Node k) reply.Gone right = behind c (nat_lt k c.clusters) (k + 1) right.knows
goes_on c (step.Node k) reply.Recovered right = right
goes_on c step.Settings (reply.Found found) right = unread (lowered c (option_map_or kept_pairs found [])) step.First right.knows tt
goes_on c step.Settings (reply.Updated before) right = right
goes_on c step.Settings (reply.Unmet c' (kept.Entry o i)) right = right
goes_on c step.Settings (reply.Unmet c' (kept.Number found)) right = right
goes_on c step.Settings (reply.Unmet c' kept.Nothing) right = right
goes_on c step.Settings reply.Absent right = right
goes_on c step.Settings reply.NoMemory right = right
goes_on c step.Settings reply.Undone right = right
goes_on c step.Settings (reply.Removed removal.Removed) right = right
goes_on c step.Settings (reply.Removed (removal.Changed found)) right = right
goes_on c step.Settings (reply.Removed removal.Absent) right = right
goes_on c step.Settings reply.Finished right = right
goes_on c step.Settings reply.Learnt right = right
goes_on c step.Settings (reply.Pins head sweep pins) right = right
goes_on c step.Settings reply.Gone right = right
goes_on c step.Settings reply.Recovered right = right
goes_on c step.First (reply.Found found) right = next_right (record c { step = step.First }) found right
goes_on c step.First (reply.Updated before) right = right
goes_on c step.First (reply.Unmet c' (kept.Entry o i)) right = right
goes_on c step.First (reply.Unmet c' (kept.Number found)) right = right
goes_on c step.First (reply.Unmet c' kept.Nothing) right = right
goes_on c step.First reply.Absent right = right
goes_on c step.First reply.NoMemory right = right
goes_on c step.First reply.Undone right = right
goes_on c step.First (reply.Removed removal.Removed) right = right
goes_on c step.First (reply.Removed (removal.Changed found)) right = right
goes_on c step.First (reply.Removed removal.Absent) right = right
goes_on c step.First reply.Finished right = right
goes_on c step.First reply.Learnt right = right
goes_on c step.First (reply.Pins head sweep pins) right = right
goes_on c step.First reply.Gone right = right
goes_on c step.First reply.Recovered right = right
goes_on c step.Next (reply.Found found) right = next_right (record c { step = step.Next }) found right
goes_on c step.Next (reply.Updated before) right = right
goes_on c step.Next (reply.Unmet c' (kept.Entry o i)) right = right
goes_on c step.Next (reply.Unmet c' (kept.Number found)) right = right
goes_on c step.Next (reply.Unmet c' kept.Nothing) right = right
goes_on c step.Next reply.Absent right = right
goes_on c step.Next reply.NoMemory right = right
goes_on c step.Next reply.Undone right = right
goes_on c step.Next (reply.Removed removal.Removed) right = right
goes_on c step.Next (reply.Removed (removal.Changed found)) right = right
goes_on c step.Next (reply.Removed removal.Absent) right = right
goes_on c step.Next reply.Finished right = right
goes_on c step.Next reply.Learnt right = right
goes_on c step.Next (reply.Pins head sweep pins) right = right
goes_on c step.Next reply.Gone right = right
goes_on c step.Next reply.Recovered right = right
goes_on c (step.Listed n) (reply.Found found) right = going_right (record c { reading = with_previous_read c.reading n found; step = step.Listed n }) right.garbage
goes_on c (step.Listed n) (reply.Updated before) right = right
goes_on c (step.Listed n) (reply.Unmet c' (kept.Entry o i)) right = right
goes_on c (step.Listed n) (reply.Unmet c' (kept.Number found)) right = right
goes_on c (step.Listed n) (reply.Unmet c' kept.Nothing) right = right
goes_on c (step.Listed n) reply.Absent right = right
goes_on c (step.Listed n) reply.NoMemory right = right
goes_on c (step.Listed n) reply.Undone right = right
goes_on c (step.Listed n) (reply.Removed removal.Removed) right = right
goes_on c (step.Listed n) (reply.Removed (removal.Changed found)) right = right
goes_on c (step.Listed n) (reply.Removed removal.Absent) right = right
goes_on c (step.Listed n) reply.Finished right = right
goes_on c (step.Listed n) reply.Learnt right = right
goes_on c (step.Listed n) (reply.Pins head sweep pins) right = right
goes_on c (step.Listed n) reply.Gone right = right
goes_on c (step.Listed n) reply.Recovered right = right
goes_on c step.Prune (reply.Found found) right = right
goes_on c step.Prune (reply.Updated before) right = removing_right (with_entries (record c { reading = record c.reading { previous = garbage_previous c.bound c.reading }; step = step.Prune }) (length c.reading.garbage)) right.garbage
goes_on c step.Prune (reply.Unmet c' (kept.Entry o i)) right = right
goes_on c step.Prune (reply.Unmet c' (kept.Number found)) right = record { garbage = right.garbage; knows = tt }
goes_on c step.Prune (reply.Unmet c' kept.Nothing) right = right
goes_on c step.Prune reply.Absent right = record { garbage = right.garbage; knows = tt }
goes_on c step.Prune reply.NoMemory right = right
goes_on c step.Prune reply.Undone right = right
goes_on c step.Prune (reply.Removed removal.Removed) right = right
goes_on c step.Prune (reply.Removed (removal.Changed found)) right = right
goes_on c step.Prune (reply.Removed removal.Absent) right = right
goes_on c step.Prune reply.Finished right = right
goes_on c step.Prune reply.Learnt right = right
goes_on c step.Prune (reply.Pins head sweep pins) right = right
goes_on c step.Prune reply.Gone right = right
goes_on c step.Prune reply.Recovered right = right
goes_on c step.Remove (reply.Found found) right = right
goes_on c step.Remove (reply.Updated before) right = right
goes_on c step.Remove (reply.Unmet c' (kept.Entry o i)) right = right
goes_on c step.Remove (reply.Unmet c' (kept.Number found)) right = right
goes_on c step.Remove (reply.Unmet c' kept.Nothing) right = right
goes_on c step.Remove reply.Absent right = right
goes_on c step.Remove reply.NoMemory right = right
goes_on c step.Remove reply.Undone right = right
goes_on c step.Remove (reply.Removed removal.Removed) right = removing_right (with_document (record c { step = step.Remove })) right.garbage
goes_on c step.Remove (reply.Removed (removal.Changed found)) right = record { garbage = right.garbage; knows = tt }
goes_on c step.Remove (reply.Removed removal.Absent) right = record { garbage = right.garbage; knows = tt }
goes_on c step.Remove reply.Finished right = right
goes_on c step.Remove reply.Learnt right = right
goes_on c step.Remove (reply.Pins head sweep pins) right = right
goes_on c step.Remove reply.Gone right = right
goes_on c step.Remove reply.Recovered right = right
goes_on c (step.RemovePrevious n read) (reply.Found found) right = right
goes_on c (step.RemovePrevious n read) (reply.Updated before) right = right
goes_on c (step.RemovePrevious n read) (reply.Unmet c' (kept.Entry o i)) right = right
goes_on c (step.RemovePrevious n read) (reply.Unmet c' (kept.Number found)) right = right
goes_on c (step.RemovePrevious n read) (reply.Unmet c' kept.Nothing) right = right
goes_on c (step.RemovePrevious n read) reply.Absent right = right
goes_on c (step.RemovePrevious n read) reply.NoMemory right = right
goes_on c (step.RemovePrevious n read) reply.Undone right = right
goes_on c (step.RemovePrevious n read) (reply.Removed removal.Removed) right = removing_right (with_document (record c { step = step.RemovePrevious n read })) right.garbage
goes_on c (step.RemovePrevious n read) (reply.Removed (removal.Changed found)) right = removing_right (with_skip (record c { step = step.RemovePrevious n read }) (id.Prev n c.reading.at) read found) right.garbage
goes_on c (step.RemovePrevious n read) (reply.Removed removal.Absent) right = removing_right (record c { step = step.RemovePrevious n read }) right.garbage
goes_on c (step.RemovePrevious n read) reply.Finished right = right
goes_on c (step.RemovePrevious n read) reply.Learnt right = right
goes_on c (step.RemovePrevious n read) (reply.Pins head sweep pins) right = right
goes_on c (step.RemovePrevious n read) reply.Gone right = right
goes_on c (step.RemovePrevious n read) reply.Recovered right = right
goes_on c step.Done (reply.Found found) right = right
goes_on c step.Done (reply.Updated before) right = right
goes_on c step.Done (reply.Unmet c' (kept.Entry o i)) right = right
goes_on c step.Done (reply.Unmet c' (kept.Number found)) right = right
goes_on c step.Done (reply.Unmet c' kept.Nothing) right = right
goes_on c step.Done reply.Absent right = right
goes_on c step.Done reply.NoMemory right = right
goes_on c step.Done reply.Undone right = right
goes_on c step.Done (reply.Removed removal.Removed) right = right
goes_on c step.Done (reply.Removed (removal.Changed found)) right = right
goes_on c step.Done (reply.Removed removal.Absent) right = right
goes_on c step.Done reply.Finished right = right
goes_on c step.Done reply.Learnt right = right
goes_on c step.Done (reply.Pins head sweep pins) right = right
goes_on c step.Done reply.Gone right = right
goes_on c step.Done reply.Recovered right = right

kept_all : (rs : List Reply) (c : Collector) → IsRight c → IsRight (collector_after c rs)
kept_all [] c right = right
kept_all (r ∷ rs) c right = kept_all rs (fed c r) (goes_on c c.step r right)

-- of a document that doesn't go whole, what is found to be garbage is what its definition says
pub garbage_is : (bound : Pin) (r : Reading) → r.garbage ≡ garbage_in bound.base bound.sweep r.document → is_garbage_document bound.base bound.sweep r.document ≡ false → has_garbage bound.base bound.sweep (found_in r.previous) r.document ≡ has_garbage_in bound r
garbage_is bound r garbage stays =
    ap (λ b. (b || not (length (garbage_in bound.base bound.sweep r.document) == 0)) || not (length (garbage_listed bound.base bound.sweep (found_in r.previous) r.document) == 0)) stays
    ∙ ap (λ (keys : List EntryKey). not (length keys == 0) || not (length (garbage_listed bound.base bound.sweep (found_in r.previous) r.document) == 0)) (sym garbage)
    ∙ ap (λ b. not (length r.garbage == 0) || b) (sym (some_listed r.document.prev))
  where
    some_listed : (es : List PrevEntry) → list_any (is_garbage_listed bound.base bound.sweep (found_in r.previous) r.document) es ≡ not (length (map (λ e. e.number) (filter (is_garbage_listed bound.base bound.sweep (found_in r.previous) r.document) es)) == 0)
    some_listed [] = refl
    some_listed (e ∷ es) = at (is_garbage_listed bound.base bound.sweep (found_in r.previous) r.document e) (some_listed es)
      where
        at : (b : Bool) → list_any (is_garbage_listed bound.base bound.sweep (found_in r.previous) r.document) es ≡ not (length (map (λ e. e.number) (filter (is_garbage_listed bound.base bound.sweep (found_in r.previous) r.document) es)) == 0)
            → (b || list_any (is_garbage_listed bound.base bound.sweep (found_in r.previous) r.document) es) ≡ not (length (map (λ e. e.number) (cond b (e ∷ filter (is_garbage_listed bound.base bound.sweep (found_in r.previous) r.document) es) (filter (is_garbage_listed bound.base bound.sweep (found_in r.previous) r.document) es))) == 0)
        at true rest = grind arith
        at false rest = rest

asks : (c : Collector) (s : Step) → IsRight (record c { step = s }) → AsksForGarbage (record c { step = s })
asks c step.Remove right = (right.knows, refl)
asks c step.Prune right = (right.knows.0, garbage_is c.bound c.reading right.garbage right.knows.0 ∙ right.knows.1, ap (λ keys. ask.Update (record { id = c.reading.document.id; create = false; cond = Some (Unchanged c.reading.document.mod_count); changes = change.Prune keys ∷ map change.Unlist (garbage_listed c.bound.base c.bound.sweep (found_in c.reading.previous) c.reading.document) })) right.garbage)
asks c step.Root right = tt
asks c (step.Node k) right = tt
asks c step.Settings right = tt
asks c step.First right = tt
asks c step.Next right = tt
asks c (step.Listed n) right = tt
asks c (step.RemovePrevious n read) right = tt
asks c step.Done right = tt

pub ask_for_garbage : AskForGarbage
ask_for_garbage a clusters rs =
    let c = collector_after (begun a clusters) rs in
    asks c c.step (kept_all rs (begun a clusters) (record { garbage = refl; knows = refl }))
