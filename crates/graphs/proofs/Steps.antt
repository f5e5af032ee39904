-- One word. The text ends, or its next word is no number, is one outside the range, or is in it: a value up to a limit below the cap is the word's own number, and
-- the reading goes on past the word.
use Prim.Native.Nat.{ℕ, ◌≤◌, ◌<◌}
use mathlib.Core.Path.{◌≡◌, refl, sym, ap, subst, ◌∙◌}
use mathlib.Core.Bool.{Bool, true, false, not}
use mathlib.Core.List.{List, [], ◌∷◌}
use native.Mathlib.Omega.{arith}
use lib.ListN.{length}
use borrow.Author.Tests.{lt-ltb, le-ltb}
use Rattle.std.specs.Prelude.{Result, Ok, Err}
use Rattle.std.specs.Result.{IsErrAnd}
use Rattle.plain.specs.Pick.{pick}
use Rattle.refusals.specs.declared.Refusal.{Refusal}
use Rattle.refusals.specs.Numbers.{bad_layout}
use Rattle.refusals.specs.Refusal.{refusal}
use Rattle.tables.specs.declared.TaskTable.{TaskTable}
use Rattle.graphwords.specs.declared.Number.{Number}
use Rattle.graphwords.specs.declared.Fault.TheVariants.{Other}
use Rattle.graphwords.specs.Words.{Word, words_at}
use Rattle.graphwords.specs.Decimal.{is_decimal, decimal_of}
use Rattle.graphwords.specs.Inner.Found.{cap, capped, past_word, found_in}
use Rattle.graphwords.proofs.Words.{First, word_here, past-inside, first_word}
use Rattle.graphwords.proofs.Words.First.{none, one}
use Rattle.graphwords.proofs.Capped.{capped-below, capped-high, capped-low}
use Rattle.graphs.specs.declared.Graph.{Graph}
use Rattle.graphs.specs.Expected.{Due, range, between, repeats, task_from, after}
use Rattle.graphs.specs.Expected.Due.{number}
use Rattle.graphs.specs.Expected.Next.{word, done}
use Rattle.graphs.specs.Graph.{no_graph, reading}
use Rattle.graphs.specs.Inner.Taken.{found_taken, number_taken, then_taken, reading_at}
use Rattle.graphs.proofs.Cases.{Between, tried, between_in, between-out}
use Rattle.graphs.proofs.Cases.Between.{inside, outside}

-- a refusal ends the reading
pub taken-out : {T : Type 0} (graph : Graph) (taken : Result T Refusal) (more : T → Graph) {r : Refusal} →
    IsErrAnd taken (λ x. x ≡ r) → graph ≡ no_graph false r → graph ≡ then_taken (no_graph false) taken more
taken-out graph (Ok t) more w e = absurd w
taken-out graph (Err x) more w e = e ∙ ap (no_graph false) (sym w)

-- a number that was found ends inside the text
found_none : {A : Type 0} (n : Number) → Ok n ≡ found_in [] → A
unfolding found_in
found_none n e = cc

found_end : (w : Word) (words : List Word) (n : Number) → Ok n ≡ found_in (w ∷ words) → n.end ≡ past_word w
unfolding found_in
found_end w words n e = by (is_decimal w.letters) e
  where
    by : (t : Bool) → Ok n ≡ pick t (Ok (record { value = capped (decimal_of w.letters); place = w.place; end = past_word w })) (Err (Other w.place)) → n.end ≡ past_word w
    by true e = let q : n ≡ record { value = capped (decimal_of w.letters); place = w.place; end = past_word w } = cc in ap (λ (r : Number). r.end) q
    by false e = cc

pub found_inside : (text : List ℕ) (from : ℕ) (n : Number) → Ok n ≡ found_in (words_at text from) → n.end ≤ length text
found_inside text from n e = by (first_word text from) e
  where
    by : {words : List Word} → First text words → Ok n ≡ found_in words → n.end ≤ length text
    by none e = found_none n e
    by (one place h) e = rw (found_end _ _ n e) (past-inside text place h)

-- task i is expected where it is one of the tasks, else nothing more
pub task-left : (t : TaskTable) (i : ℕ) → i < t.count → task_from t i ≡ word (number t i)
task-left t i h = rw (lt-ltb i t.count h)

pub none_left : (t : TaskTable) (i : ℕ) → t.count ≤ i → task_from t i ≡ done t
none_left t i h = rw (le-ltb i t.count h)

module _ (text : List ℕ) (due : Due) where
  -- the first of the words was taken: its number, and what the reading comes to past it
  pub record Taking (words : List Word) (n : Number) : Type 0 where
    pub least : (range due).low ≤ n.value
    pub most : n.value ≤ (range due).high
    pub goes : reading (length text) (word due) words ≡
        pick (not (repeats due n.value)) (reading_at text (after due n.value) n.end) (no_graph false (refusal (range due).broken n.place))

  -- it was refused or taken
  data Step : Result Number Refusal → List Word → Type 0 where
    out : (r : Refusal) {words : List Word} → reading (length text) (word due) words ≡ no_graph false r → Step (Err r) words
    on : {n : Number} {words : List Word} → Taking words n → Step (Ok n) words

  -- the first word from a place on
  abbrev pub Passed : (from : ℕ) (n : Number) → Type 0
  Passed from n = Taking (words_at text from) n

  -- limits below the cap
  module _ (low : (range due).low < cap) (high : (range due).high < cap) where
    -- the words that are left, tried in the range
    abbrev taken : List Word → Result Number Refusal
    taken words = found_taken (range due).broken (range due).low (range due).high (length text) (found_in words)

    -- the range says the same of a number counted up to the cap
    counted : (v : ℕ) → between (range due).low (capped v) (range due).high ≡ between (range due).low v (range due).high
    counted v = rw (capped-low v (range due).low low, capped-high v (range due).high high)

    module _ (w : Word) where
      abbrev words : List Word
      words = w ∷ words_at text (past_word w)

      in-range : is_decimal w.letters ≡ true → {b : Bool} → Between (range due).low (decimal_of w.letters) (range due).high b → Step (taken words) words
      unfolding found_in reading
      in-range d (inside l h) =
          let v = decimal_of w.letters in
          let e = between_in (range due).low v (range due).high l h in
          let same : capped v ≡ v = capped-below v (omega (arith, h, high)) in
          let read : taken words ≡ Ok (record { value = v; place = w.place; end = past_word w }) = rw (found_in, d, same, e) in
          subst (λ (t : Result Number Refusal). Step t words) (sym read) (on record { least = l; most = h; goes = rw (reading, d, e) })
      in-range d (outside o) =
          let v = decimal_of w.letters in
          let e = between-out (range due).low v (range due).high o in
          let refused : taken words ≡ Err (refusal (range due).broken w.place) = rw (found_in, d, counted v, e) in
          subst (λ (t : Result Number Refusal). Step t words) (sym refused) (out _ (rw (reading, d, e)))

      any : (b : Bool) → is_decimal w.letters ≡ b → Step (taken words) words
      unfolding found_in reading
      any true d = in-range d (tried _ _ _)
      any false d =
          let refused : taken words ≡ Err (refusal bad_layout w.place) = rw (found_in, d) in
          subst (λ (t : Result Number Refusal). Step t words) (sym refused) (out _ (rw (reading, d)))

    step : {words : List Word} → First text words → Step (taken words) words
    unfolding found_in reading
    step none = out _ refl
    step (one place h) = any (word_here text place) _ refl

    -- a step that was refused, and one that was taken
    module _ (from : ℕ) where
      stepped : {found : Result Number Refusal} → found ≡ number_taken (range due).broken (range due).low (range due).high text from → Step found (words_at text from)
      stepped is = subst (λ (t : Result Number Refusal). Step t (words_at text from)) (sym is) (step (first_word text from))

      pub step-out : (r : Refusal) → Err r ≡ number_taken (range due).broken (range due).low (range due).high text from → reading_at text (word due) from ≡ no_graph false r
      step-out r is = go (stepped is)
        where
          go : {words : List Word} → Step (Err r) words → reading (length text) (word due) words ≡ no_graph false r
          go (out _ q) = q

      pub passed : (n : Number) → Ok n ≡ number_taken (range due).broken (range due).low (range due).high text from → Passed from n
      passed n is = go (stepped is)
        where
          go : Step (Ok n) (words_at text from) → Passed from n
          go (on t) = t
