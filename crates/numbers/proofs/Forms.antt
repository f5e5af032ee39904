-- Every list begins with a number or with one of its faults: its first byte is not there, is the last, or stands before a list of which the
-- same is true. The reader tells which, since its clauses ask the same.
use Prim.Native.Nat.{ℕ, zero, suc, ◌+◌, ◌*◌, ◌%◌, ◌≤◌, ◌<◌, suc-le-suc}
use mathlib.Core.Path.{◌≡◌, refl, sym, ap, ◌∙◌}
use mathlib.Core.Logic.{⊎_elim}
use mathlib.Core.List.{List, [], ◌∷◌}
use native.Mathlib.Nat.{le_of_suc-le-suc}
use native.Mathlib.Numerals.{add-one}
use native.Mathlib.Omega.{arith}
use Rattle.std.specs.Prelude.{Ok, Err}
use lib.ListN.{length}
use borrow.Author.Tests.{lt-ltb, le-ltb}
use Rattle.plain.proofs.Lists.{lt-or-ge}
use Rattle.numbers.specs.declared.Number.{Number}
use Rattle.numbers.specs.declared.Fault.TheVariants.{Ended, TooLong, NotShortest}
use Rattle.numbers.specs.Number.{before, number, worth}
use Rattle.numbers.specs.Form.{Form, AnyForm, Led, Whole, Ends, Long, Padded}
use Rattle.numbers.specs.Form.Form.{sole, first}
use Rattle.numbers.specs.Form.Led.{none, byte}
use Rattle.numbers.proofs.Cases.{last, longer}

-- a form has a byte, and its bytes are of the list, whether or not it is the shortest
pub any_some : {s : List ℕ} {v n : ℕ} → AnyForm s v n → 0 < n
any_some (AnyForm.sole h) = omega arith
any_some (AnyForm.first l r) = omega arith

pub any-within : {s : List ℕ} {v n : ℕ} → AnyForm s v n → n ≤ length s
any-within (AnyForm.sole h) = omega arith
any-within (AnyForm.first l r) = suc-le-suc (any-within r)

form-any : {s : List ℕ} {v n : ℕ} → Form s v n → AnyForm s v n
form-any (sole h) = AnyForm.sole h
form-any (first l z r) = AnyForm.first l (form-any r)

pub form-some : {s : List ℕ} {v n : ℕ} → Form s v n → 0 < n
form-some f = any_some (form-any f)

pub form-within : {s : List ℕ} {v n : ℕ} → Form s v n → n ≤ length s
form-within f = any-within (form-any f)

-- what the reader tells of each
pub whole-read : (more : ℕ) {s : List ℕ} {v n : ℕ} → Form s v n → n ≤ suc more → number more s ≡ Ok (worth v n)
unfolding number
whole-read zero (sole {b} h) k = rw (lt-ltb b 128 h)
whole-read (suc more) (sole {b} h) k = rw (lt-ltb b 128 h)
whole-read zero (first l z r) k = absurd (omega (arith, form-some r))
whole-read (suc more) (first {b} {s} {v} {n} l z r) k =
    longer more b s (worth v n) l (whole-read more r (le_of_suc-le-suc k)) z ∙ ap (λ (k : ℕ). Ok (worth (b % 128 + 128 * v) k)) (add-one n)

pub ends_read : (more : ℕ) {k : ℕ} {s : List ℕ} → Led k s [] → k ≤ more → number more s ≡ Err Ended
unfolding number before
ends_read more none h = refl
ends_read zero (byte l r) h = absurd (omega arith)
ends_read (suc more) (byte {b} l r) h = rw (le-ltb b 128 l, ends_read more r (le_of_suc-le-suc h))

pub long-read : (more : ℕ) {s rest : List ℕ} → Led (suc more) s rest → number more s ≡ Err TooLong
unfolding number before
long-read zero (byte {b} l r) = rw (le-ltb b 128 l)
long-read (suc more) (byte {b} l r) = rw (le-ltb b 128 l, long-read more r)

pub padded-read : (more : ℕ) {k : ℕ} {s rest : List ℕ} → Led k s (0 ∷ rest) → 0 < k → k ≤ more → (v : ℕ) × (n : ℕ) × (number more s ≡ Err (NotShortest (worth v n)))
unfolding number before
padded-read more none z h = absurd (omega arith)
padded-read zero (byte l r) z h = absurd (omega arith)
padded-read (suc more) {rest = rest} (byte {b} l none) z h =
    (b % 128 + 128 * 0, 2, rw (le-ltb b 128 l, last more (0 ∷ rest) (omega arith) (omega arith)))
padded-read (suc more) (byte {b} l (byte l' r)) z h =
    let p = padded-read more (byte l' r) (omega arith) (le_of_suc-le-suc h) in
    (b % 128 + 128 * p.0, p.1 + 1, rw (le-ltb b 128 l, p.2))

-- a padded one has its bytes' worth, and is told with it
pub padded-worth : {k : ℕ} {s rest : List ℕ} → Led k s (0 ∷ rest) → (v : ℕ) × AnyForm s v (suc k)
padded-worth none = (0, AnyForm.sole {b = 0} (omega arith))
padded-worth (byte {b} l r) = let w = padded-worth r in (b % 128 + 128 * w.0, AnyForm.first l w.1)

pub padded-told : (more : ℕ) {k : ℕ} {s rest : List ℕ} {v n : ℕ} → Led k s (0 ∷ rest) → 0 < k → k ≤ more → AnyForm s v n → number more s ≡ Err (NotShortest (worth v n))
unfolding number before
padded-told more none z h f = absurd (omega arith)
padded-told zero (byte l r) z h f = absurd (omega arith)
padded-told (suc more) (byte l r) z h (AnyForm.sole q) = absurd (omega arith)
padded-told (suc more) {rest = rest} (byte {b} l none) z h (AnyForm.first _ (AnyForm.sole q)) =
    rw (le-ltb b 128 l, last more (0 ∷ rest) (omega arith) (omega arith)) refl
padded-told (suc more) (byte l none) z h (AnyForm.first _ (AnyForm.first q f)) = absurd (omega arith)
padded-told (suc more) (byte {b} l (byte l' r)) z h (AnyForm.first {v = v} {n = n} _ f) =
    rw (le-ltb b 128 l, padded-told more (byte l' r) (omega arith) (le_of_suc-le-suc h) f) (ap (λ (k : ℕ). Err (NotShortest (worth (b % 128 + 128 * v) k))) (add-one n))

-- one of the four is there
pub data Found (more : ℕ) (s : List ℕ) : Type 0 where
  whole : (v n : ℕ) → Whole more s v n → Found more s
  ends : Ends more s → Found more s
  long : Long more s → Found more s
  padded : Padded more s → Found more s

-- a byte with its top bit set before a list of which this is known
found_before : (more b : ℕ) {s : List ℕ} → 128 ≤ b → Found more s → Found (suc more) (b ∷ s)
found_before more b l (whole v n (f, k)) = ⊎_elim (λ (z : 0 < v). whole _ (suc n) (first l z f, suc-le-suc k)) (λ (z : v ≤ 0). worthless f z) (lt-or-ge 0 v)
  where
    worthless : {s : List ℕ} {v n : ℕ} → Form s v n → v ≤ 0 → Found (suc more) (b ∷ s)
    worthless (sole {b = c} {s = s} h) z = let e : c ≡ 0 = omega arith in padded (1, s, omega arith, omega arith, rw e (byte l none))
    worthless (first l' z' r) z = absurd (omega arith)
found_before more b l (ends (k, h, r)) = ends (suc k, suc-le-suc h, byte l r)
found_before more b l (long (rest, r)) = long (rest, byte l r)
found_before more b l (padded (k, rest, z, h, r)) = padded (suc k, rest, omega arith, suc-le-suc h, byte l r)

pub found : (more : ℕ) (s : List ℕ) → Found more s
found more [] = ends (0, omega arith, none)
found zero (b ∷ s) = ⊎_elim (λ (h : b < 128). whole b 1 (sole h, omega arith)) (λ (l : 128 ≤ b). long (s, byte l none)) (lt-or-ge b 128)
found (suc more) (b ∷ s) = ⊎_elim (λ (h : b < 128). whole b 1 (sole h, omega arith)) (λ (l : 128 ≤ b). found_before more b l (found more s)) (lt-or-ge b 128)

-- so what is read as a value has its form
pub read_whole : (more : ℕ) (s : List ℕ) (v n : ℕ) → number more s ≡ Ok (worth v n) → Whole more s v n
read_whole more s v n e = by (found more s)
  where
    by : Found more s → Whole more s v n
    by (whole u m w) =
        let q : worth u m ≡ worth v n = let p = sym (whole-read more w.0 w.1) ∙ e in cc in
        let x : u ≡ v = ap (λ (r : Number). r.value) q in let y : m ≡ n = ap (λ (r : Number). r.length) q in rw (← x, ← y) w
    by (ends f) = let q = sym (ends_read more f.2 f.1) ∙ e in cc
    by (long f) = let q = sym (long-read more f.1) ∙ e in cc
    by (padded f) = let q = sym (padded-read more f.4 f.2 f.3).2 ∙ e in cc
