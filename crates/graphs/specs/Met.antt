-- The text's refusals as a relation: what is expected where, and what is refused there.
use Rattle.std.specs.Prelude.{ℕ, ◌≤◌, ◌<◌, ◌≡◌, ◌⊎◌, true, false, List, [], ◌∷◌, length}
use Rattle.refusals.specs.Numbers.{bad_layout, none_runs}
use Rattle.tables.specs.declared.TaskTable.{TaskTable}
use Rattle.tables.specs.Runs.{AllZero}
use Rattle.graphwords.specs.Words.{Word, words_at}
use Rattle.graphwords.specs.Decimal.{is_decimal, decimal_of, is_comment}
use Rattle.graphs.specs.Expected.{Due, range, repeats, Next, after}
use Rattle.graphs.specs.Expected.Due.{count}
use Rattle.graphs.specs.Expected.Next.{word, done}

-- v is what the word may say
abbrev pub Fits : Due → (v : ℕ) → Type 0
Fits due v = ((range due).low ≤ v) × (v ≤ (range due).high) × (repeats due v ≡ false)

-- v is what it may not say: outside its range, or a repeat
abbrev pub Fails : Due → (v : ℕ) → Type 0
Fails due v = (v < (range due).low) ⊎ (((range due).high < v) ⊎ (repeats due v ≡ true))

module _ (text : List ℕ) (id period : ℕ) where
  -- what is expected where so many words are left, reached over numbers that may stand there
  pub data Meets : (left : List Word) → Next → Type 0 where
    begin : Meets (words_at text 0) (word (count id period))
    on : {w : Word} {left : List Word} {due : Due} → Meets (w ∷ left) (word due) → is_decimal w.letters ≡ true → Fits due (decimal_of w.letters) →
        Meets left (after due (decimal_of w.letters))

  -- all tasks were read, and the text ends, or "a word starting with # ends the reading"
  pub data Gives : TaskTable → Type 0 where
    at-end : {t : TaskTable} → Meets [] (done t) → Gives t
    at-comment : {w : Word} {left : List Word} {t : TaskTable} → Meets (w ∷ left) (done t) → is_comment w.letters ≡ true → Gives t

  -- "a word starting with # ends the reading"
  pub data Commented : Type 0 where
    ends : {w : Word} {left : List Word} {t : TaskTable} → Meets (w ∷ left) (done t) → is_comment w.letters ≡ true → Commented

  -- the refusals of a text: the number, and the place that is told with it
  pub data Refuses : (number place : ℕ) → Type 0 where
    short : {due : Due} → Meets [] (word due) → Refuses bad_layout (length text)
    bad : {w : Word} {left : List Word} {due : Due} → Meets (w ∷ left) (word due) → is_decimal w.letters ≡ false → Refuses bad_layout w.place
    outside : {w : Word} {left : List Word} {due : Due} → Meets (w ∷ left) (word due) → is_decimal w.letters ≡ true → Fails due (decimal_of w.letters) →
        Refuses (range due).broken w.place
    follows : {w : Word} {left : List Word} {t : TaskTable} → Meets (w ∷ left) (done t) → is_comment w.letters ≡ false → Refuses bad_layout w.place
    nothing_runs : {t : TaskTable} → Gives t → AllZero t → Refuses none_runs 0
