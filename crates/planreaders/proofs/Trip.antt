-- Numbers that are written in shortest form are read back, each where the one before it ends; and the bytes of a plan record that was read are its numbers in that
-- form, since each number has only one.
use Prim.Native.Nat.{ℕ, suc, ◌+◌, ◌*◌, ◌^◌, ◌≤◌, ◌<◌}
use mathlib.Core.Path.{◌≡◌, refl, sym, ap, ap₂, subst, ◌∙◌}
use mathlib.Core.Logic.{⊎_elim}
use mathlib.Core.List.{List, [], ◌∷◌, ◌++◌, append_assoc, append-nil}
use native.Mathlib.Omega.{arith}
use lib.ListN.{length, take, drop, length-append, length-drop, get_or-append, get_or-eq_default}
use lib.Seq.{length-take-le, take_all, take-length, take-add, split_at, take_at, drop_at, get_or_at, get_or-drop, drop-drop, drop-append_seam}
use Rattle.plain.specs.At.{at}
use Rattle.plain.proofs.Lists.{lt-or-ge}
use Rattle.tables.specs.Limits.{count_max}
use Rattle.numbers.specs.Number.{plan_more}
use Rattle.numbers.specs.Shortest.{Bytes, shortest, all_shortest}
use Rattle.numbers.proofs.Shortest.{shortest-whole, form-shortest}
use Rattle.numbers.proofs.Written.{written-append}
use Rattle.planreaders.specs.Plan.{PlanRead, plan_of}
use Rattle.planreaders.specs.Met.{CountDue, Complete, Met, Spelt, words_in}
use Rattle.planreaders.specs.Met.Met.{begin, on}
use Rattle.planreaders.proofs.Reached.{nodes-count, nodes-words, spelt-read, read-spelt}
use Rattle.planreaders.proofs.Plans.{Shape, plan-shape}

-- the numbers of a record, from its id and its words: the two lists of triples, each behind its count
abbrev segments_in : (words : List ℕ) → List ℕ
segments_in words = take (3 * at words 1) (drop 3 words)

abbrev nodes_in : (words : List ℕ) → List ℕ
nodes_in words = take (3 * at words 2) (drop (3 + 3 * at words 1) words)

abbrev numbers_by : (id : ℕ) (words : List ℕ) → List ℕ
numbers_by id words = id ∷ at words 0 ∷ at words 1 ∷ segments_in words ++ at words 2 ∷ nodes_in words

-- complete numbers, part by part
record Parted (values : List ℕ) : Type 0 where
  id : ℕ
  over : ℕ
  s : ℕ
  n : ℕ
  vs : List ℕ
  us : List ℕ
  front : length vs ≡ 3 * s
  back : length us ≡ 3 * n
  is : values ≡ id ∷ over ∷ s ∷ (vs ++ n ∷ us)

parted : (values : List ℕ) → Complete values → Parted values
parted [] c = absurd (omega arith)
parted (id ∷ []) c = absurd (omega arith)
parted (id ∷ over ∷ []) c = absurd (omega arith)
parted (id ∷ over ∷ s ∷ rest) c =
    let q : 3 + 3 * s ≡ suc (suc (suc (3 * s))) = omega arith in
    let n = at rest (3 * s) in
    let size : length rest ≡ 1 + 3 * s + 3 * n = omega (arith, rw q at c) in
    record {
      id = id;
      over = over;
      s = s;
      n = n;
      vs = take (3 * s) rest;
      us = drop (suc (3 * s)) rest;
      front = length-take-le (3 * s) rest (omega arith);
      back = omega (arith, length-drop (suc (3 * s)) rest);
      is = ap (λ (l : List ℕ). id ∷ over ∷ s ∷ l) (split_at rest (3 * s) 0 (omega arith));
    }

-- so they are the numbers of their words
parts-numbers : (id over s n : ℕ) (vs us : List ℕ) → length vs ≡ 3 * s → length us ≡ 3 * n → numbers_by id (over ∷ s ∷ n ∷ (vs ++ us)) ≡ id ∷ over ∷ s ∷ (vs ++ n ∷ us)
parts-numbers id over s n vs us h l =
    let q : 3 + 3 * s ≡ suc (suc (suc (3 * s))) = omega arith in
    let behind : drop (3 + 3 * s) (over ∷ s ∷ n ∷ (vs ++ us)) ≡ us = rw q (drop_at vs us (3 * s) h) in
    ap₂ (λ (x y : List ℕ). id ∷ over ∷ s ∷ (x ++ n ∷ y)) (take_at vs us (3 * s) h) (ap (take (3 * n)) behind ∙ take_all (3 * n) us (omega arith))

pub complete-numbers : (values : List ℕ) → Complete values → numbers_by (at values 0) (words_in values) ≡ values
complete-numbers values c =
    let p = parted values c in
    rw p.is (ap (numbers_by p.id) (sym (nodes-words p.id p.over p.s p.n p.vs p.us p.front)) ∙ parts-numbers p.id p.over p.s p.n p.vs p.us p.front p.back)

-- the numbers of words that hold a plan are complete, and have these words
module _ (id : ℕ) (words : List ℕ) (room : 3 + 3 * at words 1 + 3 * at words 2 ≤ length words) where
  segments-long : length (segments_in words) ≡ 3 * at words 1
  segments-long = length-take-le (3 * at words 1) (drop 3 words) (omega (arith, length-drop 3 words))

  nodes-long : length (nodes_in words) ≡ 3 * at words 2
  nodes-long = length-take-le (3 * at words 2) (drop (3 + 3 * at words 1) words) (omega (arith, length-drop (3 + 3 * at words 1) words))

  pub numbers-complete : Complete (numbers_by id words)
  numbers-complete =
      omega (arith, segments-long, nodes-long, length-append (segments_in words) (at words 2 ∷ nodes_in words), nodes-count id (at words 0) (at words 1) (at words 2) (segments_in words) (nodes_in words) segments-long)

  pub numbers-words : words_in (numbers_by id words) ≡ take (3 + 3 * at words 1 + 3 * at words 2) words
  numbers-words = sym (nodes-words id (at words 0) (at words 1) (at words 2) (segments_in words) (nodes_in words) segments-long) ∙ by words room
    where
      by : (w : List ℕ) → 3 + 3 * at w 1 + 3 * at w 2 ≤ length w →
          at w 0 ∷ at w 1 ∷ at w 2 ∷ (segments_in w ++ nodes_in w) ≡ take (3 + 3 * at w 1 + 3 * at w 2) w
      by [] h = absurd (omega arith)
      by (a ∷ []) h = absurd (omega arith)
      by (a ∷ b ∷ []) h = absurd (omega arith)
      by (a ∷ b ∷ d ∷ rest) h =
          let p : 3 + 3 * b ≡ suc (suc (suc (3 * b))) = omega arith in
          let q : 3 + 3 * b + 3 * d ≡ suc (suc (suc (3 * b + 3 * d))) = omega arith in
          rw (q, p) (ap (λ (l : List ℕ). a ∷ b ∷ d ∷ l) (sym (take-add (3 * b) (3 * d) rest)))

-- complete numbers below the limit, with both counts in their range
module _ (values : List ℕ) (complete : Complete values) (small : (k : ℕ) → at values k < 128 ^ suc plan_more) (segments : (1 ≤ at values 2) × (at values 2 ≤ count_max))
    (nodes : (1 ≤ at values (3 + 3 * at values 2)) × (at values (3 + 3 * at values 2) ≤ count_max)) where
  -- in front of one of them stand no complete numbers, and where a count is due it is in its range
  module _ (done : List ℕ) (v : ℕ) (rest : List ℕ) (e : done ++ v ∷ rest ≡ values) where
    before : (k : ℕ) → k < length done → at values k ≡ at done k
    before k h = sym (ap (λ (l : List ℕ). at l k) e) ∙ get_or-append done (v ∷ rest) 0 k h

    here : at values (length done) ≡ v
    here = sym (ap (λ (l : List ℕ). at l (length done)) e) ∙ get_or_at done v rest 0 (length done) refl

    some_left : Complete done → ⊥
    some_left c =
        let s = before 2 (omega arith) in
        let n = before (3 + 3 * at done 2) (omega arith) in
        let long = sym (ap (length {A = ℕ}) e) ∙ length-append done (v ∷ rest) in
        omega (arith, rw s at complete)

    due_in : CountDue done → (1 ≤ v) × (v ≤ count_max)
    due_in = ⊎_elim
        (λ (q : length done ≡ 2). let z : at values 2 ≡ v = rw q at here in rw z at segments)
        (λ (q : length done ≡ 3 + 3 * at done 2).
        let s = before 2 (omega arith) in
        let z : at values (3 + 3 * at values 2) ≡ v = rw s (rw q at here) in
        rw z at nodes)

  met-written : (bytes done rest : List ℕ) (place : ℕ) → done ++ rest ≡ values → drop place bytes ≡ all_shortest plan_more rest → Met bytes place done →
      Met bytes (place + length (all_shortest plan_more rest)) values
  unfolding all_shortest
  met-written bytes done [] place e d m = let q : values ≡ done = sym e ∙ append-nil done in let z : place + 0 ≡ place = omega arith in rw (z, q) m
  met-written bytes done (v ∷ rest) place e d m =
      let n = length (shortest plan_more v) in
      let w = shortest-whole plan_more v (all_shortest plan_more rest) (rw (here done v rest e) at (small (length done))) in
      let fine = on m (some_left done v rest e) (rw (← d) at w) (due_in done v rest e) in
      let left = sym (drop-drop n place bytes) ∙ ap (drop n) d ∙ drop-append_seam (shortest plan_more v) (all_shortest plan_more rest) in
      let q : place + n + length (all_shortest plan_more rest) ≡ place + length (shortest plan_more v ++ all_shortest plan_more rest) = omega (arith, length-append (shortest plan_more v) (all_shortest plan_more rest)) in
      subst (λ (k : ℕ). Met bytes k values) q (met-written bytes (done ++ v ∷ []) rest (place + n) (append_assoc done (v ∷ []) rest ∙ e) left fine)

  -- written in shortest form they are spelt, and read back
  pub written-spelt : Spelt (all_shortest plan_more values) values
  written-spelt =
      let bytes = all_shortest plan_more values in
      let q : 0 + length bytes ≡ length bytes = omega arith in
      (subst (λ (k : ℕ). Met bytes k values) q (met-written bytes [] values 0 refl refl begin), complete)

  pub written_read : plan_of (all_shortest plan_more values) ≡ PlanRead.read (at values 0) (words_in values)
  written_read = spelt-read (all_shortest plan_more values) written-spelt

-- the same from words that hold a plan: those of the plan are read back
pub words-read : (id : ℕ) (words : List ℕ) → 3 + 3 * at words 1 + 3 * at words 2 ≤ length words → ((k : ℕ) → at (numbers_by id words) k < 128 ^ suc plan_more) →
    (1 ≤ at words 1) × (at words 1 ≤ count_max) → (1 ≤ at words 2) × (at words 2 ≤ count_max) →
    plan_of (all_shortest plan_more (numbers_by id words)) ≡ PlanRead.read id (take (3 + 3 * at words 1 + 3 * at words 2) words)
words-read id words room small segments nodes =
    let n = nodes-count id (at words 0) (at words 1) (at words 2) (segments_in words) (nodes_in words) (segments-long id words room) in
    written_read (numbers_by id words) (numbers-complete id words room) small segments (rw n nodes) ∙ ap (PlanRead.read id) (numbers-words id words room)

-- the bytes before a place that is reached are the numbers before it, written
met-shortest : (bytes : List ℕ) → Bytes bytes → {place : ℕ} {values : List ℕ} → Met bytes place values → take place bytes ≡ all_shortest plan_more values
unfolding all_shortest
met-shortest bytes b begin = refl
met-shortest bytes b (on {place = place} {v = v} {n = n} {values = values} m some w range) =
    let x = (form-shortest plan_more (λ k. rw (get_or-drop place bytes k 0) (b (place + k))) w.0 w.1).1 in
    take-add place n bytes ∙ ap₂ ◌++◌ (met-shortest bytes b m) (x ∙ sym (append-nil (shortest plan_more v))) ∙ sym (written-append plan_more values (v ∷ []))

-- so a plan record that is read spells its numbers, and is these, written
pub read-numbers : (bytes : List ℕ) {id : ℕ} {words : List ℕ} → plan_of bytes ≡ PlanRead.read id words → Spelt bytes (numbers_by id words)
read-numbers bytes e =
    let s = read-spelt bytes e in
    let q = sym (complete-numbers s.0 s.1.1) ∙ ap₂ numbers_by s.2 s.3 in
    subst (Spelt bytes) q s.1

pub read_again : (bytes : List ℕ) {id : ℕ} {words : List ℕ} → Bytes bytes → plan_of bytes ≡ PlanRead.read id words → bytes ≡ all_shortest plan_more (numbers_by id words)
read_again bytes b e = sym (take-length bytes) ∙ met-shortest bytes b (read-numbers bytes e).0

-- numbers whose words are read are spelt: they are complete, since their words have the size that their counts say
pub words-spelt : (bytes values : List ℕ) → plan_of bytes ≡ PlanRead.read (at values 0) (words_in values) → Spelt bytes values
words-spelt bytes values e = subst (Spelt bytes) (complete-numbers values complete) (read-numbers bytes e)
  where
    shape : Shape (at values 0) (words_in values)
    shape = plan-shape bytes e

    complete : Complete values
    complete =
        let s = at values 2 in
        let vs = take (3 * s) (drop 3 values) in
        let us = drop (4 + 3 * s) values in
        ⊎_elim
        (λ (h : 3 + 3 * s < length values).
        let long = length-take-le (3 * s) (drop 3 values) (omega (arith, length-drop 3 values)) in
        omega (arith, shape.size, length-append vs us, length-drop (4 + 3 * s) values))
        (λ (h : length values ≤ 3 + 3 * s). let none = get_or-eq_default values 0 h in absurd (omega (arith, shape.nodes-low)))
        (lt-or-ge (3 + 3 * s) (length values))
