-- Triples of words: each turn of a writer stores three words where the written part ends and the old words go on.
use mathlib.Core.Path.{◌≡◌, refl, sym, ap, ◌∙◌}
use mathlib.Core.Logic.{⊎_elim}
use mathlib.Core.List.{List, [], ◌∷◌, ◌++◌, append_assoc, append-nil}
use Prim.Native.Nat.{ℕ, zero, suc, ◌+◌, ◌*◌, ◌≤◌, ◌<◌}
use native.Mathlib.Nat.{le_of_suc-le-suc, not-suc-le-zero, eq-or-lt_of_le, add-zero}
use native.Mathlib.Numerals.{add-one}
use native.Mathlib.Omega.{arith}
use lib.ListN.{length, take, drop, set, get_or, length-append, take-append-drop, get_or-append}
use lib.Seq.{drop-cons, set_at, append_snoc, get_or-append-add}
use Rattle.plain.specs.At.{at}
use Rattle.shares.specs.Words.{threads_at, length_at, numerator_at}
use Rattle.shares.specs.Triples.{triples}
use Rattle.shares.proofs.Holding.{HoldsSegments}

-- how long they are
pub length-triples : (f g h : ℕ → ℕ) (n : ℕ) → length (triples f g h n) ≡ 3 * n
unfolding triples
length-triples f g h zero = refl
length-triples f g h (suc n) = simp length-append (omega (arith, length-triples f g h n))

-- what stands in them: word r of triple v
abbrev three : (f g h : ℕ → ℕ) → ℕ → List ℕ
three f g h v = f v ∷ g v ∷ h v ∷ []

at-triples : (f g h : ℕ → ℕ) (n v r : ℕ) → v < n → r < 3 → at (triples f g h n) (3 * v + r) ≡ at (three f g h v) r
unfolding triples
at-triples f g h zero v r l b = absurd (not-suc-le-zero l)
at-triples f g h (suc n) v r l b = ⊎_elim last (λ k. earlier k (at-triples f g h n v r k b)) (eq-or-lt_of_le (le_of_suc-le-suc l))
  where
    last : v ≡ n → at (triples f g h n ++ three f g h n) (3 * v + r) ≡ at (three f g h v) r
    last e =
        let k : 3 * v + r ≡ length (triples f g h n) + r = omega (arith, length-triples f g h n) in
        ap (at (triples f g h n ++ three f g h n)) k ∙ get_or-append-add (triples f g h n) (three f g h n) r 0 ∙ ap (λ (x : ℕ). at (three f g h x) r) (sym e)

    earlier : v < n → at (triples f g h n) (3 * v + r) ≡ at (three f g h v) r → at (triples f g h n ++ three f g h n) (3 * v + r) ≡ at (three f g h v) r
    earlier k ih = get_or-append (triples f g h n) (three f g h n) 0 (3 * v + r) (rw (length-triples f g h n) (omega arith)) ∙ ih

pub first_of : (f g h : ℕ → ℕ) (n v : ℕ) → v < n → at (triples f g h n) (3 * v) ≡ f v
first_of f g h n v l = ap (at (triples f g h n)) (sym (add-zero (3 * v))) ∙ at-triples f g h n v 0 l (omega arith)

pub second-of : (f g h : ℕ → ℕ) (n v : ℕ) → v < n → at (triples f g h n) (3 * v + 1) ≡ g v
second-of f g h n v l = at-triples f g h n v 1 l (omega arith)

pub third_of : (f g h : ℕ → ℕ) (n v : ℕ) → v < n → at (triples f g h n) (3 * v + 2) ≡ h v
third_of f g h n v l = at-triples f g h n v 2 l (omega arith)

-- equal words, equal triples
pub triples-same : (f g h f' g' h' : ℕ → ℕ) (n : ℕ) → ((v : ℕ) → v < n → f v ≡ f' v) → ((v : ℕ) → v < n → g v ≡ g' v) → ((v : ℕ) → v < n → h v ≡ h' v) → triples f g h n ≡ triples f' g' h' n
unfolding triples
triples-same f g h f' g' h' zero p q r = refl
triples-same f g h f' g' h' (suc n) p q r =
    rw (triples-same f g h f' g' h' n (λ v l. p v (omega arith)) (λ v l. q v (omega arith)) (λ v l. r v (omega arith)), p n (omega arith), q n (omega arith), r n (omega arith))

-- a store where the written part p ends, and three of them
store : (p w : List ℕ) (k a : ℕ) → length p ≡ k → k < length w → set (p ++ drop k w) k a ≡ p ++ (a ∷ []) ++ drop (k + 1) w
store p w k a e h = rw (add-one, drop-cons w k 0, append_snoc) (set_at p (get_or w k 0) (drop (suc k) w) a k e)

pub store3 : (p w : List ℕ) (k a b c : ℕ) → length p ≡ k → k + 3 ≤ length w → set (set (set (p ++ drop k w) k a) (k + 1) b) (k + 2) c ≡ p ++ (a ∷ b ∷ c ∷ []) ++ drop (k + 3) w
store3 p w k a b c e h =
    let one = store p w k a e (omega arith) in
    let two = store (p ++ (a ∷ [])) w (k + 1) b (simp length-append (omega arith)) (omega arith) in
    let three = store (p ++ (a ∷ []) ++ (b ∷ [])) w (k + 2) c (simp length-append (omega arith)) (omega arith) in
    let k2 : k + 1 + 1 ≡ k + 2 = omega arith in
    let k3 : k + 2 + 1 ≡ k + 3 = omega arith in
    rw (one, two, k2, three, k3) (simp append_assoc)

-- a writer of triples: i of them stand in front, and the old words go on behind them
pub record Tripled (f g h : ℕ → ℕ) (old : List ℕ) (i : ℕ) (w : List ℕ) : Type 0 where
  pub is : w ≡ triples f g h i ++ drop (3 * i) old

pub tripled-none : {f g h : ℕ → ℕ} {old : List ℕ} → Tripled f g h old 0 old
unfolding triples
tripled-none = record { is = refl }

pub tripled-more : {f g h : ℕ → ℕ} {old w : List ℕ} {i : ℕ} (a b c : ℕ) → Tripled f g h old i w → 3 * (i + 1) ≤ length old → a ≡ f i → b ≡ g i → c ≡ h i → Tripled f g h old (i + 1) (set (set (set w (3 * i) a) (3 * i + 1) b) (3 * i + 2) c)
unfolding triples
tripled-more {f} {g} {h} {old} {w} {i} a b c z room p q r =
    let next : 3 * (i + 1) ≡ 3 * i + 3 = omega arith in
    record { is = rw (z.is, store3 (triples f g h i) old (3 * i) a b c (length-triples f g h i) (omega arith), next, p, q, r, add-one) }

-- three words taken off the front of what is left
drop3 : (w : List ℕ) (k a b c : ℕ) → a ≡ suc k → b ≡ suc a → c ≡ suc b → b < length w → drop k w ≡ at w k ∷ at w a ∷ at w b ∷ drop c w
drop3 w k a b c p q r h = rw (drop-cons w k 0 (omega arith), ← p, drop-cons w a 0 (omega arith), ← q, drop-cons w b 0 h, ← r)

-- a plan's words are its head, its segments' triples and the rest
pub in-triples : (w : List ℕ) (s : ℕ) → 3 + 3 * s ≤ length w → w ≡ take 3 w ++ triples (threads_at w) (length_at w) (numerator_at w) s ++ drop (3 + 3 * s) w
unfolding triples
in-triples w zero h = sym (ap (λ (l : List ℕ). l ++ drop 3 w) (append-nil (take 3 w)) ∙ take-append-drop 3 w)
in-triples w (suc s) h =
    in-triples w s (omega arith) ∙ ap (λ (l : List ℕ). take 3 w ++ triples (threads_at w) (length_at w) (numerator_at w) s ++ l) (drop3 w (3 + 3 * s) (4 + 3 * s) (5 + 3 * s) (3 + 3 * suc s) (omega arith) (omega arith) (omega arith) (omega arith)) ∙ simp append_assoc

-- words in that form hold the cut they are made of, and words that hold a cut have that form
module _ (m e f : ℕ → ℕ) (s : ℕ) where
  pub triples-hold : (head rest : List ℕ) → length head ≡ 3 → HoldsSegments (head ++ triples m e f s ++ rest) s m e f
  triples-hold head rest long =
      record {
        threads = λ j l. inner (3 + 3 * j) (3 * j) (omega arith) (omega arith) ∙ first_of m e f s j l;
        lengths = λ j l. inner (4 + 3 * j) (3 * j + 1) (omega arith) (omega arith) ∙ second-of m e f s j l;
        numerators = λ j l. inner (5 + 3 * j) (3 * j + 2) (omega arith) (omega arith) ∙ third_of m e f s j l;
      }
    where
      inner : (i k : ℕ) → i ≡ length head + k → k < 3 * s → at (head ++ triples m e f s ++ rest) i ≡ at (triples m e f s) k
      inner i k p h =
          get_or-append (head ++ triples m e f s) rest 0 i (simp length-append (omega (arith, length-triples m e f s))) ∙ ap (at (head ++ triples m e f s)) p ∙ get_or-append-add head (triples m e f s) k 0

  pub hold-triples : {w : List ℕ} → 3 + 3 * s ≤ length w → HoldsSegments w s m e f → w ≡ take 3 w ++ triples m e f s ++ drop (3 + 3 * s) w
  hold-triples {w} room is = in-triples w s room ∙ ap (λ (l : List ℕ). take 3 w ++ l ++ drop (3 + 3 * s) w) (triples-same _ _ _ m e f s is.threads is.lengths is.numerators)
