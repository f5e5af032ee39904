-- The definitions case by case: each test holds just where its statement does, and picks one clause.
use Prim.Native.Nat.{ℕ, ◌≤◌, ◌<◌}
use mathlib.Core.Path.{◌≡◌, refl}
use mathlib.Core.Logic.{◌⊎◌, inl, inr}
use mathlib.Core.Bool.{Bool, true, false, not, ◌&&◌, and-false}
use mathlib.Core.List.{List}
use lib.Dec.{leb}
use lib.ListN.{length}
use borrow.Author.Tests.{leb-true, leb-false, le-leb, lt-leb}
use Rattle.plain.specs.Pick.{pick}
use Rattle.refusals.specs.Numbers.{bad_id, bad_period}
use Rattle.refusals.specs.Refusal.{refusal}
use Rattle.tables.specs.Limits.{id_max, period_max}
use Rattle.graphwords.specs.Words.{words_at}
use Rattle.graphs.specs.declared.Graph.{Graph}
use Rattle.graphs.specs.Expected.{Due, range, repeats, between, allows}
use Rattle.graphs.specs.Expected.Due.{count}
use Rattle.graphs.specs.Expected.Next.{word}
use Rattle.graphs.specs.Graph.{no_graph, reading, graph_of}
use Rattle.graphs.specs.Met.{Fits, Fails}

-- low..high
pub data Between (low v high : ℕ) : Bool → Type 0 where
  inside : low ≤ v → v ≤ high → Between low v high true
  outside : (v < low) ⊎ (high < v) → Between low v high false

pub tried : (low v high : ℕ) → Between low v high (between low v high)
tried low v high = by (leb low v) (leb v high) refl refl
  where
    by : (l h : Bool) → leb low v ≡ l → leb v high ≡ h → Between low v high (l && h)
    by true true p q = inside (leb-true low v p) (leb-true v high q)
    by true false p q = outside (inr (leb-false v high q))
    by false h p q = outside (inl (leb-false low v p))

pub between_in : (low v high : ℕ) → low ≤ v → v ≤ high → between low v high ≡ true
between_in low v high l h = simp (le-leb low v l, le-leb v high h)

pub between-out : (low v high : ℕ) → (v < low) ⊎ (high < v) → between low v high ≡ false
between-out low v high (inl l) = simp (lt-leb low v l)
between-out low v high (inr h) = simp (lt-leb v high h, and-false)

-- what a word may say
pub data Allowed (due : Due) (v : ℕ) : Bool → Type 0 where
  fits : Fits due v → Allowed due v true
  fails : Fails due v → Allowed due v false

pub allowed : (due : Due) (v : ℕ) → Allowed due v (allows due v)
allowed due v = by (tried (range due).low v (range due).high) (repeats due v) refl
  where
    by : {b : Bool} → Between (range due).low v (range due).high b → (t : Bool) → repeats due v ≡ t → Allowed due v (b && not t)
    by (inside l h) false e = fits (l, h, e)
    by (inside l h) true e = fails (inr (inr e))
    by (outside (inl l)) t e = fails (inl l)
    by (outside (inr h)) t e = fails (inr (inl h))

pub fits-allowed : (due : Due) (v : ℕ) → Fits due v → allows due v ≡ true
fits-allowed due v (l, h, e) = rw (between_in (range due).low v (range due).high l h, e)

pub fails-refused : (due : Due) (v : ℕ) → Fails due v → allows due v ≡ false
fails-refused due v (inl l) = rw (between-out (range due).low v (range due).high (inl l))
fails-refused due v (inr (inl h)) = rw (between-out (range due).low v (range due).high (inr h))
fails-refused due v (inr (inr e)) = rw (e, and-false)

-- the caller's id and period come first
pub data Begun (text : List ℕ) (id period : ℕ) : Graph → Type 0 where
  bad-id : (id < 1) ⊎ (id_max < id) → Begun text id period (no_graph false (refusal bad_id 0))
  bad-period : 1 ≤ id → id ≤ id_max → (period < 1) ⊎ (period_max < period) → Begun text id period (no_graph false (refusal bad_period 0))
  ranged : 1 ≤ id → id ≤ id_max → 1 ≤ period → period ≤ period_max → Begun text id period (reading (length text) (word (count id period)) (words_at text 0))

pub begun : (text : List ℕ) (id period : ℕ) → Begun text id period (graph_of text id period)
unfolding graph_of
begun text id period = by (tried 1 id id_max) (tried 1 period period_max)
  where
    by : {a b : Bool} → Between 1 id id_max a → Between 1 period period_max b → Begun text id period (pick a
        (pick b (reading (length text) (word (count id period)) (words_at text 0)) (no_graph false (refusal bad_period 0))) (no_graph false (refusal bad_id 0)))
    by (outside o) q = bad-id o
    by (inside l h) (outside o) = bad-period l h o
    by (inside l h) (inside k g) = ranged l h k g

pub begun-id : (text : List ℕ) (id period : ℕ) → between 1 id id_max ≡ false → graph_of text id period ≡ no_graph false (refusal bad_id 0)
unfolding graph_of
begun-id text id period o = rw o

module _ (text : List ℕ) (id period : ℕ) (h : between 1 id id_max ≡ true) where
  pub begun-period : between 1 period period_max ≡ false → graph_of text id period ≡ no_graph false (refusal bad_period 0)
  unfolding graph_of
  begun-period o = rw (h, o)

  pub begun-reading : between 1 period period_max ≡ true → graph_of text id period ≡ reading (length text) (word (count id period)) (words_at text 0)
  unfolding graph_of
  begun-reading g = rw (h, g)
