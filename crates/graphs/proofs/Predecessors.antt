-- One predecessor more. The word says a number below n that was given before, which is 8, or one that was not, which goes behind those that were.
use Prim.Native.Nat.{ℕ, zero, suc, ◌+◌, ◌-◌, ◌≤◌, ◌<◌}
use mathlib.Core.Path.{◌≡◌, refl, sym, ap, ◌∙◌}
use mathlib.Core.Bool.{true, false}
use mathlib.Core.List.{List, [], ◌∷◌, ◌++◌}
use native.Mathlib.Omega.{arith}
use Rattle.std.specs.Prelude.{Result, Ok, Err}
use Rattle.refusals.specs.Numbers.{bad_parent}
use Rattle.refusals.specs.declared.Refusal.{Refusal}
use Rattle.refusals.specs.Refusal.{refusal}
use Rattle.tables.specs.declared.TaskTable.{TaskTable}
use Rattle.tables.specs.Limits.{count_max}
use Rattle.records.specs.Nodes.{with_node}
use Rattle.records.specs.Reading.{headed}
use Rattle.sets.specs.Member.{is_member}
use Rattle.sets.specs.Inner.Put.{with_member}
use Rattle.listings.specs.Lists.{is_listed, list_set}
use Rattle.listings.specs.declared.Listing.{Listing}
use Rattle.listings.proofs.Lists.{member-listed, set-behind, met-none}
use Rattle.graphwords.specs.declared.Number.{Number}
use Rattle.graphs.specs.Expected.{task_from, predecessor_from}
use Rattle.graphs.specs.Expected.Due.{predecessor}
use Rattle.graphs.specs.Graph.{no_graph}
use Rattle.graphs.specs.Inner.Taken.{number_taken, reading_at}
use Rattle.graphs.proofs.Steps.{step-out, Passed, passed}

-- none is left
pub next-none : (t : TaskTable) (i time left : ℕ) (given : List ℕ) → left ≤ 0 → predecessor_from t i time left given ≡ task_from (with_node t i time (list_set given)) (i + 1)
next-none t i time zero given h = refl
next-none t i time (suc left) given h = absurd (omega arith)

module _ (text : List ℕ) (n : ℕ) (some : 1 ≤ n) (few : n ≤ count_max) (from : ℕ) where
  abbrev Is : Result Number Refusal → Type 0
  Is found = found ≡ number_taken bad_parent 0 (n - 1) text from

  -- whichever task it is a predecessor of
  module _ (t : TaskTable) (i time : ℕ) (same : t.count ≡ n) where
    was : {found : Result Number Refusal} → Is found → found ≡ number_taken bad_parent 0 (t.count - 1) text from
    was is = rw same is

    gone : (left : ℕ) (given : List ℕ) (p : Number) → Is (Ok p) → Passed text (predecessor t i time left given) from p
    gone left given p is = passed text (predecessor t i time left given) (omega arith) (omega arith) from p (was is)

    pub next-out : (left : ℕ) (given : List ℕ) → 0 < left → (r : Refusal) → Is (Err r) → reading_at text (predecessor_from t i time left given) from ≡ no_graph false r
    next-out zero given h r is = absurd (omega arith)
    next-out (suc left) given h r is = step-out text (predecessor t i time left given) (omega arith) (omega arith) from r (was is)

    pub next-again : (left : ℕ) (given : List ℕ) → 0 < left → (p : Number) → Is (Ok p) → is_listed given p.value ≡ true →
        reading_at text (predecessor_from t i time left given) from ≡ no_graph false (refusal bad_parent p.place)
    next-again zero given h p is l = absurd (omega arith)
    next-again (suc left) given h p is l = (gone left given p is).goes ∙ rw l

    pub next-on : (left : ℕ) (given : List ℕ) → 0 < left → (p : Number) → Is (Ok p) → is_listed given p.value ≡ false →
        reading_at text (predecessor_from t i time left given) from ≡ reading_at text (predecessor_from t i time (left - 1) (given ++ p.value ∷ [])) p.end
    next-on zero given h p is l = absurd (omega arith)
    next-on (suc left) given h p is l = let k : suc left - 1 ≡ left = omega arith in (gone left given p is).goes ∙ rw (l, k)

  -- it is below n
  pub next-below : (p : Number) → Is (Ok p) → p.value < n
  next-below p is = omega (arith, (gone (headed 0 0 0 n) 0 0 refl 0 [] p is).most)

-- so many of them were taken: those that were given, as a set, and the reading has come to the others
pub record Given (text : List ℕ) (from n count passed set at : ℕ) : Type 0 where
  pub given : List ℕ
  pub is : set ≡ list_set given
  pub goes : (t : TaskTable) (i time : ℕ) → t.count ≡ n → reading_at text (predecessor_from t i time count []) from ≡ reading_at text (predecessor_from t i time (count - passed) given) at

pub given-none : (text : List ℕ) (from n count : ℕ) → Given text from n count 0 0 from
given-none text from n count =
    record { given = []; is = ap (λ (l : Listing). l.set) (sym (met-none 0)); goes = λ t i time same. let e : count - 0 ≡ count = omega arith in rw e }

module _ {text : List ℕ} {from n count passed set at : ℕ} (g : Given text from n count passed set at) (some : 1 ≤ n) (few : n ≤ count_max) where
  -- one more is refused
  pub given-out : passed < count → (r : Refusal) → Err r ≡ number_taken bad_parent 0 (n - 1) text at → (t : TaskTable) (i time : ℕ) → t.count ≡ n →
      reading_at text (predecessor_from t i time count []) from ≡ no_graph false r
  given-out h r is t i time same = g.goes t i time same ∙ next-out text n some few at t i time same (count - passed) g.given (omega arith) r is

  -- it was taken, and was given before, or was not
  module _ {p : Number} (is : Ok p ≡ number_taken bad_parent 0 (n - 1) text at) where
    pub given-small : p.value < count_max
    given-small = omega (arith, next-below text n some few at p is)

    was-given : is_listed g.given p.value ≡ is_member p.value set
    was-given = sym (member-listed g.given p.value given-small) ∙ ap (is_member p.value) (sym g.is)

    pub given-again : passed < count → is_member p.value set ≡ true → (t : TaskTable) (i time : ℕ) → t.count ≡ n →
        reading_at text (predecessor_from t i time count []) from ≡ no_graph false (refusal bad_parent p.place)
    given-again h m t i time same = g.goes t i time same ∙ next-again text n some few at t i time same (count - passed) g.given (omega arith) p is (was-given ∙ m)

    pub given-more : passed < count → is_member p.value set ≡ false → Given text from n count (passed + 1) (with_member p.value set) p.end
    given-more h m = record {
      given = g.given ++ p.value ∷ [];
      is = ap (with_member p.value) g.is ∙ sym (set-behind g.given p.value given-small);
      goes = λ t i time same. let e : count - (passed + 1) ≡ count - passed - 1 = omega arith in
          g.goes t i time same ∙ next-on text n some few at t i time same (count - passed) g.given (omega arith) p is (was-given ∙ m) ∙ rw e;
    }
