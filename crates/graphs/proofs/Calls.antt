-- The call case by case: where the text is refused so is the call; else it is what the writer does with the text's table, which it refuses only for a short buffer.
use Prim.Native.Nat.{ℕ, ◌≤◌, ◌<◌}
use mathlib.Core.Path.{◌≡◌, refl, sym, ap, subst, ◌∙◌}
use mathlib.Core.Bool.{Bool, true, false}
use mathlib.Core.List.{List}
use lib.ListN.{length, take}
use lib.Dec.{ltb}
use Rattle.std.specs.Prelude.{Result, Ok, Err, ⊤}
use borrow.Author.Tests.{ltb-true, ltb-false}
use Rattle.refusals.specs.declared.Refusal.{Refusal}
use Rattle.refusals.specs.Numbers.{wrong_length}
use Rattle.refusals.specs.Refusal.{refusal}
use Rattle.refusals.specs.After.{After}
use Rattle.records.proofs.Answers.{Filling}
use Rattle.writers.specs.Record.{record_of}
use Rattle.writers.specs.Writing.{before_writing, unwritten, record_put, writing, write_call}
use Rattle.writers.proofs.Back.{table-ranges}
use Rattle.writers.proofs.Trip.{own-call}
use Rattle.graphs.specs.declared.Graph.{Graph}
use Rattle.graphs.specs.Graph.{graph_of}
use Rattle.graphs.specs.Record.{graph_call}
use Rattle.graphs.proofs.Filled.{graph-filling, graph-runs}

module _ (text bytes : List ℕ) (id period : ℕ) where
  pub call-refused : (r : Refusal) → (graph_of text id period).outcome ≡ Err r → graph_call text bytes id period ≡ unwritten bytes r
  unfolding graph_call
  call-refused r e = rw e

  call-written : (graph_of text id period).outcome ≡ Ok tt → graph_call text bytes id period ≡ writing (graph_of text id period).table bytes
  unfolding graph_call
  call-written e = rw e

  -- as the code writes it
  module _ (graph : Graph) (e : graph ≡ graph_of text id period) (ok : graph.outcome ≡ Ok tt) where
    pub filling : Filling graph.table.count graph.table
    filling = subst (λ (g : Graph). Filling g.table.count g.table) (sym e) (graph-filling text id period (ap (λ (g : Graph). g.outcome) (sym e) ∙ ok))

    pub call-put : (after : After (List ℕ)) →
        (let t = graph.table in after ≡ write_call (take t.count t.execution) (take t.count t.parents) bytes t.edition t.id t.period) →
        graph_call text bytes id period ≡ after
    call-put after w =
        call-written (ap (λ (g : Graph). g.outcome) (sym e) ∙ ok)
        ∙ ap (λ (g : Graph). writing g.table bytes) (sym e)
        ∙ sym (w ∙ own-call graph.table filling bytes)

  -- so the call comes to one of these
  pub data Coming : After (List ℕ) → Type 0 where
    refused : (r : Refusal) → (graph_of text id period).outcome ≡ Err r → Coming (unwritten bytes r)
    short : (graph_of text id period).outcome ≡ Ok tt → length bytes < length (record_of (graph_of text id period).table) → Coming (unwritten bytes (refusal wrong_length (length bytes)))
    fits : (graph_of text id period).outcome ≡ Ok tt → length (record_of (graph_of text id period).table) ≤ length bytes → Coming (record_put bytes (graph_of text id period).table)

  pub coming : Coming (graph_call text bytes id period)
  unfolding writing before_writing
  coming = start (graph_of text id period).outcome refl
    where
      by : (e : (graph_of text id period).outcome ≡ Ok tt) (s : Bool) → ltb (length bytes) (length (record_of (graph_of text id period).table)) ≡ s →
          Coming (writing (graph_of text id period).table bytes)
      by e true g = rw (table-ranges (graph_of text id period).table (graph-filling text id period e), graph-runs text id period e, g) (short e (ltb-true _ _ g))
      by e false g = rw (table-ranges (graph_of text id period).table (graph-filling text id period e), graph-runs text id period e, g) (fits e (ltb-false _ _ g))

      start : (o : Result ⊤ Refusal) → (graph_of text id period).outcome ≡ o → Coming (graph_call text bytes id period)
      start (Err r) e = subst Coming (sym (call-refused r e)) (refused r e)
      start (Ok tt) e = subst Coming (sym (call-written e)) (by e _ refl)
