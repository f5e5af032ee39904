-- Words that are filled from the front: each store puts one word more behind those that stand, and a part that is lent from there on is filled in the same way.
use Prim.Native.Nat.{ℕ, suc, ◌+◌, ◌-◌, ◌≤◌, ◌<◌}
use mathlib.Core.Path.{◌≡◌, refl, sym, ap, ap₂, ◌∙◌}
use mathlib.Core.List.{List, [], ◌∷◌, ◌++◌, append_assoc, append-nil}
use native.Mathlib.Omega.{arith}
use lib.ListN.{length, take, drop, set, length-append, length-drop, length-take, drop_of_length-le, take-append-drop}
use lib.Seq.{drop-cons, append_snoc, set-append_seam, take_at, drop_at, drop-drop, length-take-le, take-suc}
use borrow.Rule.Slice.PartMut.{put_mid}
use Rattle.plain.specs.At.{at}
use Rattle.plain.proofs.Lists.{part-from, put-from}
use Rattle.planreaders.specs.Reading.{filled_with}

-- the length stays
pub filled-length : (vs w : List ℕ) → length vs ≤ length w → length (filled_with vs w) ≡ length w
filled-length vs w h = omega (arith, length-append vs (drop (length vs) w), length-drop (length vs) w)

-- one word more
pub fill_more : (vs w : List ℕ) (v : ℕ) → length vs < length w → set (filled_with vs w) (length vs) v ≡ filled_with (vs ++ v ∷ []) w
fill_more vs w v h =
    let size : length (vs ++ v ∷ []) ≡ suc (length vs) = omega (arith, length-append vs (v ∷ [])) in
    ap (λ (x : List ℕ). set (vs ++ x) (length vs) v) (drop-cons w (length vs) 0 h)
    ∙ set-append_seam vs _ _ v
    ∙ sym (append_snoc vs v (drop (suc (length vs)) w))
    ∙ ap (λ (k : ℕ). (vs ++ v ∷ []) ++ drop k w) (sym size)

-- one that is copied
pub copy_more : (from w : List ℕ) (i : ℕ) → i < length from → i < length w → set (filled_with (take i from) w) i (at from i) ≡ filled_with (take (i + 1) from) w
copy_more from w i h l =
    let size = length-take-le i from (omega arith) in
    let e : i + 1 ≡ suc i = omega arith in
    ap (λ (k : ℕ). set (filled_with (take i from) w) k (at from i)) (sym size)
    ∙ fill_more (take i from) w (at from i) (omega arith)
    ∙ ap (λ (x : List ℕ). filled_with x w) (sym (take-suc from i 0 h) ∙ ap (λ (k : ℕ). take k from) (sym e))

-- a part from the front, filled whole, with the words behind it
pub fill-part : (vs w : List ℕ) (size : ℕ) → length vs ≡ size → filled_with vs (take size w) ++ drop size w ≡ filled_with vs w
fill-part vs w size h =
    let none : drop (length vs) (take size w) ≡ [] = drop_of_length-le (take size w) (omega (arith, length-take size w)) in
    rw (none, append-nil, ← h)

-- the room in a part behind them
pub room-behind : (from k : ℕ) (x : List ℕ) → from + k ≤ length x → k ≤ length (take (length x - from) (drop from x))
room-behind from k x h = rw (part-from from x) (omega (arith, length-drop from x))

-- that part, filled as well
pub fill-behind : (vs ws w x y : List ℕ) (from : ℕ) → length vs ≡ from → from ≤ length w → x ≡ filled_with vs w → y ≡ filled_with ws (take (length x - from) (drop from x)) →
    put_mid from (length x - from) x y ≡ filled_with (vs ++ ws) w
fill-behind vs ws w x y from size h d e =
    let long = ap (length {A = ℕ}) d ∙ filled-length vs w (omega arith) in
    let front : take from x ≡ vs = ap (take from) d ∙ take_at vs (drop (length vs) w) from size in
    let rest : drop from x ≡ drop (length vs) w = ap (drop from) d ∙ drop_at vs (drop (length vs) w) from size in
    put-from from x y (omega arith)
    ∙ ap₂ ◌++◌ front (e ∙ ap (filled_with ws) (part-from from x ∙ rest))
    ∙ rw (drop-drop, length-append) (sym (append_assoc vs ws _))

-- a part from the third word on, filled with the words behind the head; the part behind those, filled as well; and then the head
module _ (vs w y : List ℕ) (head : 3 ≤ length w) (is : y ≡ filled_with vs (take (length w - 3) (drop 3 w))) where
  pub fill-after : put_mid 3 (length w - 3) w y ≡ filled_with (take 3 w ++ vs) w
  fill-after =
      let long = length-take-le 3 w head in
      let whole : w ≡ filled_with (take 3 w) w = rw long (sym (take-append-drop 3 w)) in
      fill-behind (take 3 w) vs w w y 3 long head whole is

  module _ {from : ℕ} (size : 3 + length vs ≡ from) (room : from ≤ length w) where
    -- both parts and the head are as long as they are together
    front : length (take 3 w ++ vs) ≡ from
    front = omega (arith, length-append (take 3 w) vs, length-take-le 3 w head)

    pub after-length : length (put_mid 3 (length w - 3) w y) ≡ length w
    after-length = ap (length {A = ℕ}) fill-after ∙ filled-length (take 3 w ++ vs) w (omega (arith, front))

    pub fill-plan : (ws z : List ℕ) (a b d : ℕ) → (let x = put_mid 3 (length w - 3) w y in z ≡ filled_with ws (take (length x - from) (drop from x)) →
        set (set (set (put_mid from (length x - from) x z) 0 a) 1 b) 2 d ≡ filled_with (a ∷ b ∷ d ∷ vs ++ ws) w)
    fill-plan ws z a b d e =
        ap (λ (x : List ℕ). set (set (set x 0 a) 1 b) 2 d)
        (fill-behind (take 3 w ++ vs) ws w _ z from front room fill-after e ∙ ap (λ (x : List ℕ). filled_with x w) (append_assoc (take 3 w) vs ws))
        ∙ headed (vs ++ ws) w a b d head
      where
        headed : (us w : List ℕ) (a b d : ℕ) → 3 ≤ length w → set (set (set (filled_with (take 3 w ++ us) w) 0 a) 1 b) 2 d ≡ filled_with (a ∷ b ∷ d ∷ us) w
        headed us [] a b d h = absurd (omega arith)
        headed us (p ∷ []) a b d h = absurd (omega arith)
        headed us (p ∷ q ∷ []) a b d h = absurd (omega arith)
        headed us (p ∷ q ∷ r ∷ w) a b d h = refl
