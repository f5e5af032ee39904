-- Texts that say the same. The reading asks of a word only whether it is decimal, its number and whether it starts a comment, and of its place only where it tells it; zeros in
-- front of a number change none of the three, and a parting changes places alone.
use Prim.Native.Nat.{ℕ, zero, suc}
use mathlib.Core.Path.{◌≡◌, refl, sym, ap, subst, ◌∙◌}
use mathlib.Core.Bool.{Bool, true, false, ◌&&◌}
use mathlib.Core.List.{List, [], ◌∷◌, ◌++◌}
use native.Mathlib.Omega.{arith}
use lib.ListN.{length, replicate}
use lib.Dec.{eqb}
use borrow.Author.Tests.{ne_eqb}
use Rattle.plain.specs.Pick.{pick}
use Rattle.plain.proofs.Picks.{true-false}
use Rattle.refusals.specs.Numbers.{bad_id, bad_period, bad_layout}
use Rattle.refusals.specs.Refusal.{refusal}
use Rattle.tables.specs.Limits.{id_max, period_max}
use Rattle.graphwords.specs.Words.{Word, words_at}
use Rattle.graphwords.specs.Decimal.{is_digit, is_decimal, decimal_after, decimal_of, is_comment}
use Rattle.graphwords.proofs.Capped.{digit_low}
use Rattle.graphs.specs.declared.Graph.{Graph}
use Rattle.graphs.specs.Expected.{range, between, allows, Next, after}
use Rattle.graphs.specs.Expected.Due.{count}
use Rattle.graphs.specs.Expected.Next.{word, done}
use Rattle.graphs.specs.Graph.{no_graph, unless_all_zero, reading, graph_of}
use Rattle.graphs.specs.Alike.{spelt, spelling, Zeros, SaySame}
use Rattle.graphs.specs.Alike.Zeros.{none, as_is, in-front}

-- what is asked of a word
record Says (a b : List ℕ) : Type 0 where
  pub decimal : is_decimal a ≡ is_decimal b
  pub number : decimal_of a ≡ decimal_of b
  pub comment : is_comment a ≡ is_comment b

says-self : {a b : List ℕ} → a ≡ b → Says a b
says-self e = record { decimal = ap is_decimal e; number = ap decimal_of e; comment = ap is_comment e }

-- zeros in front
zeros-decimal : (k : ℕ) (w : List ℕ) → is_decimal w ≡ is_decimal (replicate k 48 ++ w)
unfolding is_decimal
zeros-decimal zero w = refl
zeros-decimal (suc k) w = zeros-decimal k w

zeros-number : (k : ℕ) (w : List ℕ) → decimal_of w ≡ decimal_of (replicate k 48 ++ w)
unfolding decimal_after
zeros-number zero w = refl
zeros-number (suc k) w = zeros-number k w

no-comment : (w : List ℕ) → is_decimal w ≡ true → is_comment w ≡ false
unfolding is_decimal
no-comment [] d = refl
no-comment (c ∷ w) d = by (is_digit c) refl d
  where
    by : (t : Bool) → is_digit c ≡ t → (t && is_decimal w) ≡ true → eqb c 35 ≡ false
    by true e z = ne_eqb c 35 λ (q : c ≡ 35). omega (arith, digit_low c e)
    by false e z = absurd (true-false z refl)

says-zeros : (k : ℕ) (w : List ℕ) → is_decimal w ≡ true → Says w (replicate k 48 ++ w)
says-zeros k w d = let same = zeros-decimal k w in
    record { decimal = same; number = zeros-number k w; comment = no-comment w d ∙ sym (no-comment (replicate k 48 ++ w) (sym same ∙ d)) }

-- whatever the tests say, only places differ
word_same : (p q : Bool) (k x y : ℕ) (g h : Graph) → SaySame g h →
    SaySame (pick p (pick q g (no_graph false (refusal k x))) (no_graph false (refusal bad_layout x))) (pick p (pick q h (no_graph false (refusal k y))) (no_graph false (refusal bad_layout y)))
word_same true true k x y g h s = s
word_same true false k x y g h s = (refl, refl)
word_same false q k x y g h s = (refl, refl)

done-same : (c : Bool) (x y : ℕ) (g : Graph) → SaySame (pick c g (no_graph false (refusal bad_layout x))) (pick c g (no_graph false (refusal bad_layout y)))
done-same true x y g = (refl, refl)
done-same false x y g = (refl, refl)

begun-same : (a b : Bool) (g h : Graph) → SaySame g h →
    SaySame (pick a (pick b g (no_graph false (refusal bad_period 0))) (no_graph false (refusal bad_id 0))) (pick a (pick b h (no_graph false (refusal bad_period 0))) (no_graph false (refusal bad_id 0)))
begun-same true true g h s = s
begun-same true false g h s = (refl, refl)
begun-same false b g h s = (refl, refl)

module _ (m n : ℕ) where
  -- a word more in front
  one_more : (w v : Word) (ws vs : List Word) (next : Next) → Says w.letters v.letters → ((next : Next) → SaySame (reading m next ws) (reading n next vs)) →
      SaySame (reading m next (w ∷ ws)) (reading n next (v ∷ vs))
  unfolding reading
  one_more w v ws vs (word due) s more = rw (← s.decimal, ← s.number)
      (word_same (is_decimal w.letters) (allows due (decimal_of w.letters)) (range due).broken w.place v.place _ _ (more (after due (decimal_of w.letters))))
  one_more w v ws vs (done t) s more = rw (← s.comment) (done-same (is_comment w.letters) w.place v.place (unless_all_zero true t))

  alike : {a b : List (List ℕ)} → Zeros a b → (ws vs : List Word) → spelt ws ≡ a → spelt vs ≡ b → (next : Next) → SaySame (reading m next ws) (reading n next vs)
  unfolding reading spelt
  alike none [] [] d e (word due) = (refl, refl)
  alike none [] [] d e (done t) = (refl, refl)
  alike none [] (v ∷ vs) d e next = cc
  alike none (w ∷ ws) vs d e next = cc
  alike (as_is a z) [] vs d e next = cc
  alike (as_is a z) (w ∷ ws) [] d e next = cc
  alike (as_is a z) (w ∷ ws) (v ∷ vs) d e next = one_more w v ws vs next (says-self (cc)) (λ next. alike z ws vs (cc) (cc) next)
  alike (in-front k a p z) [] vs d e next = cc
  alike (in-front k a p z) (w ∷ ws) [] d e next = cc
  alike (in-front k a p z) (w ∷ ws) (v ∷ vs) d e next =
      let x : a ≡ w.letters = cc in
      let y : replicate k 48 ++ a ≡ v.letters = cc in
      one_more w v ws vs next (rw (← x, ← y) (says-zeros k a p)) (λ next. alike z ws vs (cc) (cc) next)

module _ (text other : List ℕ) (id period : ℕ) where
  pub zeros-alike : Zeros (spelling text) (spelling other) → SaySame (graph_of text id period) (graph_of other id period)
  unfolding graph_of
  zeros-alike z = begun-same (between 1 id id_max) (between 1 period period_max) _ _ (alike (length text) (length other) z (words_at text 0) (words_at other 0) refl refl (word (count id period)))

  pub parted-alike : spelling text ≡ spelling other → SaySame (graph_of text id period) (graph_of other id period)
  parted-alike e = zeros-alike (subst (Zeros (spelling text)) e (as-given (spelling text)))
    where
      as-given : (words : List (List ℕ)) → Zeros words words
      as-given [] = none
      as-given (w ∷ words) = as_is w (as-given words)
