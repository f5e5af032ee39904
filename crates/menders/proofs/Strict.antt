-- A record that the reader accepts has nothing to mend: along its numbers the mender expects the same, none of them is padded, and each list ascends.
use Prim.Native.Nat.{ℕ, zero, suc, ◌+◌, ◌^◌, ◌≤◌, ◌<◌, zero-le}
use mathlib.Core.Path.{◌≡◌, refl, ap, ap₂, subst, ◌∙◌}
use mathlib.Core.Bool.{Bool, true, false}
use mathlib.Core.List.{List, [], ◌∷◌, ◌++◌}
use native.Mathlib.Omega.{arith}
use lib.ListN.{drop}
use lib.Dec.{ltb}
use Rattle.plain.specs.Pick.{pick}
use Rattle.plain.specs.Sums.{total}
use Rattle.plain.proofs.Sums.{total-behind}
use Rattle.tables.specs.declared.TaskTable.{TaskTable}
use Rattle.tables.specs.Limits.{count_max}
use Rattle.numbers.specs.Number.{record_more}
use Rattle.numbers.specs.Form.{Whole}
use Rattle.records.specs.Nodes.{with_node}
use Rattle.records.specs.Reading.{headed}
use Rattle.records.specs.Expected as reader
use Rattle.records.proofs.Answers as answers
use Rattle.listings.specs.declared.Listing.{Listing}
use Rattle.listings.specs.Lists.{list_set, ascends, reordered, dropped}
use Rattle.menders.specs.Draft.{no_counts, drawn, draft_of}
use Rattle.menders.specs.Given.{node_from, Meets}
use Rattle.menders.specs.Given.Due.{edition, id, period, count, execution, parent_count, parent}
use Rattle.menders.specs.Given.Next.{number, nothing}
use Rattle.menders.specs.Given.Number.{as-shortest}
use Rattle.menders.specs.Given.Meets.{begin, on}
use Rattle.listings.specs.Inner.Listing.{past}
use Rattle.listings.proofs.Lists.{met-none, past-behind}
use Rattle.listings.proofs.Ascending.{ascends-tidy, ascends-more, set_more}
use Rattle.menders.proofs.Given.{given-drawn}

-- lists with nothing to mend
Tidy : List (List ℕ) → Type 0
Tidy lists = (total reordered lists ≡ 0) × (total dropped lists ≡ 0)

none-tidy : Tidy []
unfolding Tidy total
none-tidy = (refl, refl)

tidy-more : (lists : List (List ℕ)) (given : List ℕ) → ascends given 0 ≡ true → Tidy lists → Tidy (lists ++ given ∷ [])
unfolding Tidy
tidy-more lists given e (x, y) = let t = ascends-tidy given e in (omega (arith, total-behind reordered lists given, t.0), omega (arith, total-behind dropped lists given, t.1))

-- the parents given so far, beside what the reader keeps of them
Kept : (low set : ℕ) (given : List ℕ) → Type 0
Kept low set given = (ascends given 0 ≡ true) × (past given 0 ≡ low) × (list_set given ≡ set)

none_kept : Kept 0 0 []
unfolding Kept ascends past
none_kept = (refl, refl, ap (λ (l : Listing). l.set) (met-none 0))

more-kept : (low set v : ℕ) (given : List ℕ) → low ≤ v → v < count_max → Kept low set given → Kept (v + 1) (set + 2 ^ v) (given ++ v ∷ [])
unfolding Kept
more-kept low set v given l b (e, p, q) = let h : past given 0 ≤ v = rw p l in
    (ascends-more given v e h, past-behind given v 0, set_more given v e h b ∙ ap (λ (s : ℕ). s + 2 ^ v) q)

-- what the mender meets where the reader expects something
Like : List ℕ → (place : ℕ) → reader.Next → Type 0
Like s place (reader.Next.number reader.Due.edition) = Meets s place 0 (number edition)
Like s place (reader.Next.number (reader.Due.id x)) = Meets s place 0 (number (id x))
Like s place (reader.Next.number (reader.Due.period x d)) = Meets s place 0 (number (period x d))
Like s place (reader.Next.number (reader.Due.count x d p)) = Meets s place 0 (number (count x d p))
Like s place (reader.Next.number (reader.Due.execution t i)) = (lists : List (List ℕ)) × Tidy lists × Meets s place 0 (number (execution t i lists))
Like s place (reader.Next.number (reader.Due.parent_count t i e)) = (lists : List (List ℕ)) × Tidy lists × Meets s place 0 (number (parent_count t i lists e))
Like s place (reader.Next.number (reader.Due.parent t i e left low set)) =
    (lists : List (List ℕ)) × (given : List ℕ) × Tidy lists × Kept low set given × Meets s place 0 (number (parent t i lists e left given))
Like s place (reader.Next.nothing t) = (lists : List (List ℕ)) × Tidy lists × Meets s place 0 (nothing t lists)

-- from a node on, and after a node's last parent
node-like : (s : List ℕ) (place : ℕ) (t : TaskTable) (i : ℕ) (lists : List (List ℕ)) → Tidy lists → Meets s place 0 (node_from t i lists) → Like s place (reader.node_from t i)
unfolding Like
node-like s place t i lists z m = by (ltb i t.count) m
  where
    by : (b : Bool) → Meets s place 0 (pick b (number (execution t i lists)) (nothing t lists)) → Like s place (pick b (reader.Next.number (reader.Due.execution t i)) (reader.Next.nothing t))
    by true m = (lists, z, m)
    by false m = (lists, z, m)

last-like : (s : List ℕ) (place : ℕ) (t : TaskTable) (i e low set : ℕ) (lists : List (List ℕ)) (given : List ℕ) → Tidy lists → Kept low set given →
    Meets s place 0 (node_from (with_node t i e (list_set given)) (i + 1) (lists ++ given ∷ [])) → Like s place (reader.node_from (with_node t i e set) (i + 1))
unfolding Kept
last-like s place t i e low set lists given z (a, p, q) m =
    node-like s place (with_node t i e set) (i + 1) (lists ++ given ∷ []) (tidy-more lists given a z)
    (subst (λ (w : ℕ). Meets s place 0 (node_from (with_node t i e w) (i + 1) (lists ++ given ∷ []))) q m)

-- after a number that is whole and in the reader's range
after-like : (s : List ℕ) (place n : ℕ) (d : reader.Due) (v : ℕ) → Whole record_more (drop place s) v n → (reader.range d).low ≤ v → v ≤ (reader.range d).high →
    answers.Held (reader.Next.number d) → Like s place (reader.Next.number d) → Like s (place + n) (reader.after d v)
unfolding Like answers.Held
after-like s place n reader.Due.edition v w l h b m = on m (as-shortest w) l h
after-like s place n (reader.Due.id x) v w l h b m = on m (as-shortest w) l h
after-like s place n (reader.Due.period x d) v w l h b m = on m (as-shortest w) l h
after-like s place n (reader.Due.count x d p) v w l h b m = node-like s _ (headed x d p v) 0 [] none-tidy (on m (as-shortest w) l h)
after-like s place n (reader.Due.execution t i) v w l h b (lists, z, m) = (lists, z, on m (as-shortest w) l h)
after-like s place n (reader.Due.parent_count t i e) zero w l h b (lists, z, m) = last-like s _ t i e 0 0 lists [] z none_kept (on m (as-shortest w) l (omega arith))
after-like s place n (reader.Due.parent_count t i e) (suc k) w l h b (lists, z, m) = (lists, [], z, none_kept, on m (as-shortest w) l (omega (arith, b.0.size)))
after-like s place n (reader.Due.parent t i e zero low set) v w l h b (lists, given, z, k, m) =
    last-like s _ t i e (v + 1) (set + 2 ^ v) lists (given ++ v ∷ []) z (more-kept low set v given l (omega (arith, b.0.size, b.1)) k) (on m (as-shortest w) zero-le h)
after-like s place n (reader.Due.parent t i e (suc left) low set) v w l h b (lists, given, z, k, m) =
    (lists, given ++ v ∷ [], z, more-kept low set v given l (omega (arith, b.0.size, b.1)) k, on m (as-shortest w) zero-le h)

like : {s : List ℕ} {place : ℕ} {next : reader.Next} → reader.Expects s place next → Like s place next
unfolding Like
like reader.Expects.begin = begin
like (reader.Expects.on {place = place} {v = v} {n = n} {due = d} e w l h) = after-like _ place n d v w l h (answers.held e) (like e)

-- so it is drawn as it is read, with three zeros
pub strict-drawn : (s : List ℕ) (t : TaskTable) → reader.Spelt s t → draft_of s ≡ drawn t no_counts
unfolding Like Tidy
strict-drawn s t (e, runs) = let m = like e in
    given-drawn s m.2 ∙ ap₂ (λ (x y : ℕ). drawn t (record { padded = 0; reordered = x; dropped = y })) m.1.0 m.1.1
