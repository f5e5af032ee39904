-- Reading a graph answers by its rules: the caller's numbers are tried first, a text is then refused just by its own rules, and its table passes the writer's, so that
-- only the buffer's length is left. What is written is a record that the reader accepts.
use mathlib.Core.Path.{◌≡◌, refl, sym, ap, ◌∙◌}
use mathlib.Core.Logic.{◌⊎◌, inl, inr}
use mathlib.Core.Bool.{true}
use mathlib.Core.List.{List, [], ◌∷◌}
use Prim.Native.Nat.{ℕ, ◌≤◌, ◌<◌}
use native.Mathlib.Omega.{arith}
use lib.ListN.{length, take, drop}
use lib.Seq.{take-append_seam}
use borrow.Author.Tests.{eqb-false}
use Rattle.std.specs.Prelude.{Ok, Err}
use Rattle.plain.proofs.Picks.{true-false}
use Rattle.refusals.specs.declared.Refusal.{Refusal}
use Rattle.refusals.specs.declared.Answer.{Answer}
use Rattle.refusals.specs.Refusal.{refusal}
use Rattle.refusals.specs.Readers.{is_in}
use Rattle.refusals.specs.Numbers.{bad_id, bad_period, wrong_length}
use Rattle.refusals.specs.Answer as answer
use Rattle.refusals.specs.After.{After}
use Rattle.tables.specs.declared.TaskTable.{TaskTable}
use Rattle.tables.specs.Table.{empty_table}
use Rattle.numbers.proofs.Cases.{clash}
use Rattle.records.specs.Reading.{reading_of}
use Rattle.records.proofs.Answers.{filling-all}
use Rattle.writers.specs.Record.{record_of}
use Rattle.writers.specs.Writing.{record_put}
use Rattle.writers.proofs.Back.{record-read}
use Rattle.writers.proofs.Longest.{record-length}
use Rattle.graphwords.proofs.Standing.{word_stands, stands_word, words-ascend}
use Rattle.graphs.specs.declared.Graph.{Graph}
use Rattle.graphs.specs.Graph.{graph_of}
use Rattle.graphs.specs.Met.{Commented, Refuses}
use Rattle.graphs.specs.Record.{graph_call}
use Rattle.graphs.proofs.Cases.{Begun, begun, begun-reading, between_in}
use Rattle.graphs.proofs.Cases.Begun.{bad-id, bad-period, ranged}
use Rattle.graphs.proofs.Meets.{whole, rule-refused, refused-rule, refused-table, gives-read, comment-told, told-comment, one_table, place_inside, own-number}
use Rattle.graphs.proofs.Filled.{graph-read, graph-filling}
use Rattle.graphs.proofs.Calls.{Coming, coming}
use Rattle.graphs.proofs.Calls.Coming.{refused, short, fits}
use Rattle.graphs.proofs.Alike.{zeros-alike, parted-alike}
use Rattle.plans.proofs.Tests.{not-both}
use Rattle.claims.specs.Rule.{rule_at, Decides, IsAccepted, IsRefused}
use Rattle.claims.specs.Write.{write_value}
use Rattle.claims.specs.Graph.{graph_rules, GraphRead, OfGraphs}
use Rattle.claims.proofs.Rule.{Singles, single, single-at, single-by, not-given}
use Rattle.claims.proofs.Promise.{promised}

-- what is in its range is not outside it
not-outside : {low v high : ℕ} → low ≤ v → v ≤ high → (v < low) ⊎ (high < v) → ⊥
not-outside l h (inl k) = omega arith
not-outside l h (inr k) = omega arith

module _ (text : List ℕ) (id period : ℕ) where
  -- the reader's refusals are the first three rules
  refuses : (bytes : List ℕ) (t : TaskTable) (r : Refusal) {g : Graph} → Begun text id period g → g.outcome ≡ Err r →
      Decides (graph_rules text bytes id period t) (write_value t) (answer.refused r)
  refuses bytes t r (bad-id o) e = let same : r ≡ refusal bad_id 0 = cc in inl (r, (o, same), refl)
  refuses bytes t r (bad-period l h o) e = let same : r ≡ refusal bad_period 0 = cc in inr (not-given (not-outside l h), inl (r, (o, same), refl))
  refuses bytes t r (ranged l h k g) e = let w = refused-rule text id period r e in
      inr (not-given (not-outside l h), inr (not-given (not-outside k g), inl (r, (r.number, r.place, w.0, w.1), refl)))

  passes : (bytes : List ℕ) (t : TaskTable) (a : Answer) {g : Graph} → Begun text id period g → g.outcome ≡ Ok tt →
      Decides (rule_at 19 (length bytes) (length bytes < length (record_of t)) ∷ []) (write_value t) a → Decides (graph_rules text bytes id period t) (write_value t) a
  passes bytes t a (bad-id o) e d = clash (cc)
  passes bytes t a (bad-period l h o) e d = clash (cc)
  passes bytes t a (ranged l h k g) e d =
      inr (not-given (not-outside l h), inr (not-given (not-outside k g), inr ((λ r (n, p, f, q). not-both (rule-refused text id period f) e), d)))

  -- none of them is an acceptance, and each stands beside the table that is all zeros
  some_number : (r : Refusal) {g : Graph} → Begun text id period g → g.outcome ≡ Err r → r.number ≡ 0 → ⊥
  unfolding is_in
  some_number r (bad-id o) e z = let same : refusal bad_id 0 ≡ r = cc in omega (arith, ap (λ (x : Refusal). x.number) same)
  some_number r (bad-period l h o) e z = let same : refusal bad_period 0 ≡ r = cc in omega (arith, ap (λ (x : Refusal). x.number) same)
  some_number r (ranged l h k g) e z = let q = rw z at (own-number text id period (refused-rule text id period r e).0) in true-false q refl

  empty : (r : Refusal) {g : Graph} → Begun text id period g → g.outcome ≡ Err r → g.table ≡ empty_table
  empty r (bad-id o) e = refl
  empty r (bad-period l h o) e = refl
  empty r (ranged l h k g) e = refused-table text id period r e

  commented : {g : Graph} → Begun text id period g → g.commented ≡ true → Commented text id period
  commented (bad-id o) q = absurd (true-false q refl)
  commented (bad-period l h o) q = absurd (true-false q refl)
  commented (ranged l h k g) q = told-comment text id period q

  abbrev table : TaskTable
  table = (graph_of text id period).table

  module _ (bytes : List ℕ) where
    singles : Singles (graph_rules text bytes id period table)
    singles = (single _ _, (single _ _, (single-by (Refuses text id period) (whole text id period).outcome (λ n p f. rule-refused text id period f), (single-at _ _ _, tt))))

    -- its rules decide its answer
    decides : Decides (graph_rules text bytes id period table) (write_value table) (graph_call text bytes id period).answer
    decides = go (coming text bytes id period)
      where
        go : {a : After (List ℕ)} → Coming text bytes id period a → Decides (graph_rules text bytes id period table) (write_value table) a.answer
        go (refused r e) = refuses bytes _ r (begun text id period) e
        go (short e h) = passes bytes _ _ (begun text id period) e (inl (refusal 19 (length bytes), (h, refl), refl))
        go (fits e h) = passes bytes _ _ (begun text id period) e (inr ((λ r (l, q). absurd (omega (arith, l, h))), (_, refl, refl)))

    -- an accepted call is that of an accepted text whose record has room
    record Fits (a : After (List ℕ)) : Type 0 where
      pub accepted : (graph_of text id period).outcome ≡ Ok tt
      pub is : a ≡ record_put bytes table

    fitted : IsAccepted (graph_call text bytes id period).answer → Fits (graph_call text bytes id period)
    fitted = go (coming text bytes id period)
      where
        go : {a : After (List ℕ)} → Coming text bytes id period a → IsAccepted a.answer → Fits a
        go (refused r e) z = absurd (some_number r (begun text id period) e z)
        go (short e h) z = absurd (eqb-false wrong_length 0 refl z)
        go (fits e h) z = record { accepted = e; is = refl }

    untouched : IsRefused (graph_call text bytes id period).answer → (graph_call text bytes id period).lent ≡ bytes
    untouched = go (coming text bytes id period)
      where
        go : {a : After (List ℕ)} → Coming text bytes id period a → IsRefused a.answer → a.lent ≡ bytes
        go (refused r e) z = refl
        go (short e h) z = refl
        go (fits e h) z = absurd (z refl)

  -- how an accepted text was read
  was_read : (graph_of text id period).outcome ≡ Ok tt → GraphRead text id period table
  was_read e = let r = graph-read text id period e in record {
    gives = r.gives;
    range = filling-all table r.runs r.tasks.filling;
    edition = r.tasks.edition-is;
    id-is = r.tasks.id-is;
    period-is = r.tasks.period-is;
  }

-- the promises
pub of-graphs : OfGraphs
of-graphs = record {
  call = λ text bytes id period. let t = (graph_of text id period).table in
      promised (graph_call text bytes id period) (graph_rules text bytes id period t) (write_value t) (singles text id period bytes) (λ v w e f. e ∙ sym f)
      (decides text id period bytes) (untouched text id period bytes) (λ z. ap (λ (a : After (List ℕ)). a.lent) (fitted text id period bytes z).is);
  words = word_stands;
  all_words = stands_word;
  from-left = words-ascend;
  own = λ text id period k place f. (own-number text id period f, place_inside text id period f);
  gives = was_read;
  reads = λ text id period t l h k g f runs. let e = begun-reading text id period (between_in 1 id 65535 l h) (between_in 1 period 16777215 k g) ∙ (gives-read text id period f runs).1 in
      (ap (λ (x : Graph). x.outcome) e, ap (λ (x : Graph). x.table) e);
  one_table = λ text id period t u. one_table text id period;
  all-zeros = λ text id period r. empty text id period r (begun text id period);
  commented = λ text id period. commented text id period (begun text id period);
  comment-told = λ text id period l h k g c. ap (λ (x : Graph). x.commented) (begun-reading text id period (between_in 1 id 65535 l h) (between_in 1 period 16777215 k g)) ∙ comment-told text id period c;
  parted = parted-alike;
  zeros = zeros-alike;
  back = λ text bytes id period a e z.
      let f = fitted text id period bytes (rw e at z) in
      let t = (graph_of text id period).table in
      ap (λ (a : After (List ℕ)). reading_of (take a.answer.value a.lent)) (e ∙ f.is)
      ∙ ap reading_of (take-append_seam (record_of t) (drop (length (record_of t)) bytes))
      ∙ record-read t (graph-filling text id period f.accepted) (graph-read text id period f.accepted).runs;
  longest = λ text bytes id period a e z.
      let f = fitted text id period bytes (rw e at z) in
      rw (ap (λ (x : After (List ℕ)). x.answer.value) (e ∙ f.is)) (record-length (graph_of text id period).table (was_read text id period f.accepted).range);
}
