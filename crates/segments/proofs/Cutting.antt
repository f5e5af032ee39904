-- The document's sentence, as a theorem: the cuts are 0, every start and every finish, each once and ascending; and whatever lists those
-- times so is this cut, because two ascending lists of the same times keep in step.
use mathlib.Core.Path.{◌≡◌, sym, ◌∙◌}
use mathlib.Core.Logic.{◌⊎◌, inl, inr, ⊎_elim}
use Prim.Native.Nat.{ℕ, zero, suc, ◌≤◌, ◌<◌, zero-le}
use native.Mathlib.Nat.{le_refl, le_antisymm}
use native.Mathlib.Decide.{le_ind}
use native.Mathlib.Omega.{arith}
use Rattle.plain.proofs.Lists.{lt-or-ge}
use Rattle.segments.specs.Cut.{cut, latest, segments}
use Rattle.segments.specs.Inner.Diagram.{Diagram}
use Rattle.segments.specs.Cutting.{Cutting}
use Rattle.segments.proofs.Cuts.{Mark, gap, cut-none, cut_up, cut-le, cut-mark}
use Rattle.segments.proofs.Segments.{cut-end, mark-le, segment-up, only-segments}
use Rattle.segments.proofs.Diagram.{start-mark, start-cut, finish-cut}

module _ {n : ℕ} {S F X : ℕ → ℕ} (d : Diagram n S F X) where
  -- the cut is such a list
  pub is-cutting : Cutting n S F (segments n F) (cut n F)
  is-cutting = record {
    from = cut-none n F;
    up = segment-up n F;
    start = start-cut d;
    finish = finish-cut d;
    only = λ j h. ⊎_elim (λ (z : cut n F j ≡ 0). inl z) (λ w. inr (w.0, w.1, inr w.2)) (cut-mark n F j);
  }

  module _ {s : ℕ} {c : ℕ → ℕ} (k : Cutting n S F s c) where
    -- each of its times is 0 or a finish
    mark : (j : ℕ) → j ≤ s → Mark n F (c j)
    mark j h = go (k.only j h)
      where
        go : (c j ≡ 0) ⊎ ((v : ℕ) × (v < n) × ((c j ≡ S v) ⊎ (c j ≡ F v))) → Mark n F (c j)
        go (inl z) = inl z
        go (inr w) = ⊎_elim (λ (e : c j ≡ S w.0). rw e (start-mark d w.0 w.1)) (λ (e : c j ≡ F w.0). inr (w.0, w.1, e)) w.2

    -- 0 and every finish is one of its times
    each : {t : ℕ} → Mark n F t → (j : ℕ) × (j ≤ s) × (c j ≡ t)
    each (inl z) = (0, zero-le, k.from ∙ sym z)
    each (inr w) = let a = k.finish w.0 w.1 in (a.0, a.1, a.2 ∙ sym w.2)

    -- it ascends
    rise : (i j : ℕ) → i ≤ j → j ≤ s → c i ≤ c j
    rise i j h l = le_ind (λ (m : ℕ). m ≤ s → c i ≤ c m) (λ q. le_refl (c i)) (λ m p ih q. let a = ih (omega arith) in let b = k.up m (omega arith) in omega arith) j h l

    -- one step further: the next of c is a start or a finish, so not before the next cut; the next cut is one of c, so not before the next of c
    step : (j : ℕ) → j < s → c j ≡ cut n F j → c (suc j) ≡ cut n F (suc j)
    step j h e = le_antisymm (upper (each (cut-mark n F (suc j)))) lower
      where
        up : c j < c (suc j)
        up = k.up j h

        lower : cut n F (suc j) ≤ c (suc j)
        lower = ⊎_elim (λ (q : c (suc j) ≤ cut n F j). let u = up in absurd (omega arith)) (λ q. q) (gap n F (mark (suc j) h) j)

        upper : (i : ℕ) × (i ≤ s) × (c i ≡ cut n F (suc j)) → c (suc j) ≤ cut n F (suc j)
        upper w =
            let z = w.2 in
            let v = cut_up n F j (let u = up in let l = mark-le n F (mark (suc j) h) in omega arith) in
            ⊎_elim
            (λ (q : w.0 < suc j). let r = rise w.0 j (omega arith) (omega arith) in absurd (omega arith))
            (λ (q : suc j ≤ w.0). let r = rise (suc j) w.0 q w.1 in omega arith)
            (lt-or-ge w.0 (suc j))

    -- in step with the cut
    same : (j : ℕ) → j ≤ s → c j ≡ cut n F j
    same zero h = k.from ∙ sym (cut-none n F)
    same (suc j) h = step j h (same j (omega arith))

    -- no other cutting
    pub one-cutting : (s ≡ segments n F) × ((j : ℕ) → j ≤ s → c j ≡ cut n F j)
    one-cutting = (only-segments n F s end before, same)
      where
        end : cut n F s ≡ latest n F
        end =
            let w = each (cut-mark n F (segments n F)) in
            let a = rise w.0 s w.1 (le_refl s) in
            let b = same s (le_refl s) in
            let e = cut-end n F in
            let l = cut-le n F s in
            let z = w.2 in
            omega arith

        before : (j : ℕ) → j < s → cut n F j < latest n F
        before j h =
            let a = k.up j h in
            let b = same j (omega arith) in
            let e = same (suc j) h in
            let l = cut-le n F (suc j) in
            omega arith
