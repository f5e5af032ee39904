-- What a draft can be. Every number that goes into the table passed its range, every list holds only nodes, and what no node has filled is still 0; so the
-- table of a draft is one that the writer's ranges let through, and its sets are those of the lists.
use Prim.Native.Nat.{ℕ, zero, suc, ◌+◌, ◌≤◌, ◌<◌}
use mathlib.Core.Path.{◌≡◌, refl, sym, ap, subst, ◌∙◌}
use mathlib.Core.Bool.{Bool, true, false}
use mathlib.Core.List.{List, [], ◌∷◌, ◌++◌}
use native.Mathlib.Nat.{not-suc-le-zero}
use native.Mathlib.Omega.{arith}
use lib.ListN.{length, set, length-append, get_or-append}
use lib.Dec.{ltb}
use lib.Seq.{get_or_at, get_or-set_same, get_or-set_other}
use borrow.Author.Count as indices
use borrow.Author.Tests.{ltb-true, ltb-false}
use Rattle.plain.specs.Pick.{pick}
use Rattle.plain.specs.At.{at}
use Rattle.std.specs.Prelude.{Ok}
use Rattle.tables.specs.declared.TaskTable.{TaskTable}
use Rattle.records.specs.Nodes.{with_node}
use Rattle.records.specs.Reading.{headed}
use Rattle.records.specs.Expected as reader
use Rattle.records.proofs.Answers.{In, Head, Filling, filling-none, filling-more}
use Rattle.menders.specs.declared.Draft.{Draft}
use Rattle.listings.specs.Lists.{list_set}
use Rattle.menders.specs.Draft.{drawn, draft_of}
use Rattle.menders.specs.Given.{Due, range, Next, node_from, after, Meets, Gives, list_at, counts_of}
use Rattle.menders.specs.Given.Due.{edition, id, period, count, execution, parent_count, parent}
use Rattle.menders.specs.Given.Next.{number, nothing}
use Rattle.menders.specs.Given.Meets.{begin, on}
use Rattle.listings.proofs.Below.{Below, below_none, below_more, set_below}
use Rattle.menders.proofs.Given.{Comes, comes, rule-refused, given-drawn}
use Rattle.menders.proofs.Given.Comes.{refuses, gives}

-- the nodes before node i: their numbers in range, and the set of each one's parents that of its list
pub record Read (i : ℕ) (t : TaskTable) (lists : List (List ℕ)) : Type 0 where
  pub filling : Filling i t
  pub many : length lists ≡ i
  pub sets : (v : ℕ) → v < i → at t.parents v ≡ list_set (list_at lists v)

read_more : (i : ℕ) (t : TaskTable) (lists : List (List ℕ)) (e : ℕ) (given : List ℕ) → i < t.count → In (reader.Due.execution t i) e → Below t.count given → Read i t lists →
    Read (i + 1) (with_node t i e (list_set given)) (lists ++ given ∷ [])
read_more i t lists e given h x b r = record {
  filling = filling-more i t e (list_set given) h x (set_below t.count given r.filling.size.1 b) r.filling;
  many = length-append lists (given ∷ []) ∙ ap (λ (k : ℕ). k + 1) r.many;
  sets =
      indices.below_more (λ v. at (set t.parents i (list_set given)) v ≡ list_set (list_at (lists ++ given ∷ []) v)) i
      (λ v l. get_or-set_other t.parents i v (list_set given) 0 (λ q. omega arith) ∙ r.sets v l
      ∙ ap list_set (sym (get_or-append lists (given ∷ []) [] v (rw r.many l))))
      (get_or-set_same t.parents i (list_set given) 0 (rw r.filling.sets.size (omega (arith, r.filling.size)))
      ∙ ap list_set (sym (get_or_at lists given [] [] i r.many)));
}

-- what holds where something is expected: of the head's numbers, of the nodes before node i, and of what was read of node i
Held : Next → Type 0
Held (number edition) = Unit
Held (number (id x)) = In reader.Due.edition x
Held (number (period x d)) = In reader.Due.edition x × In (reader.Due.id x) d
Held (number (count x d p)) = Head x d p
Held (number (execution t i lists)) = Read i t lists × (i < t.count)
Held (number (parent_count t i lists e)) = Read i t lists × (i < t.count) × In (reader.Due.execution t i) e
Held (number (parent t i lists e left given)) = Read i t lists × (i < t.count) × In (reader.Due.execution t i) e × Below t.count given
Held (nothing t lists) = Read t.count t lists

-- from a node on, and after a node's last parent
node-held : (t : TaskTable) (i : ℕ) (lists : List (List ℕ)) → i ≤ t.count → Read i t lists → Held (node_from t i lists)
unfolding Held
node-held t i lists l r = by (ltb i t.count) refl
  where
    by : (b : Bool) → ltb i t.count ≡ b → Held (pick b (number (execution t i lists)) (nothing t lists))
    by true e = (r, ltb-true i t.count e)
    by false e = let q : i ≡ t.count = omega (arith, ltb-false i t.count e) in subst (λ (k : ℕ). Read k t lists) q r

last-held : (t : TaskTable) (i : ℕ) (lists : List (List ℕ)) (e : ℕ) (given : List ℕ) → Read i t lists → i < t.count → In (reader.Due.execution t i) e → Below t.count given →
    Held (node_from (with_node t i e (list_set given)) (i + 1) (lists ++ given ∷ []))
last-held t i lists e given r h x b = node-held (with_node t i e (list_set given)) (i + 1) (lists ++ given ∷ []) (omega arith) (read_more i t lists e given h x b r)

-- after a number in its range
after-held : (d : Due) (v : ℕ) → (range d).low ≤ v → v ≤ (range d).high → Held (number d) → Held (after d v)
unfolding Held
after-held edition v l h b = (l, h)
after-held (id x) v l h b = (b, (l, h))
after-held (period x d) v l h b = (b.0, b.1, (l, h))
after-held (count x d p) v l h b =
    node-held (headed x d p v) 0 [] (omega arith) (record { filling = filling-none x d p v b (l, h); many = refl; sets = λ v h. absurd (not-suc-le-zero h) })
after-held (execution t i lists) v l h b = (b.0, b.1, (l, h))
after-held (parent_count t i lists e) zero l h b = last-held t i lists e [] b.0 b.1 b.2 (below_none t.count)
after-held (parent_count t i lists e) (suc k) l h b = (b.0, b.1, b.2, below_none t.count)
after-held (parent t i lists e zero given) v l h b = last-held t i lists e (given ++ v ∷ []) b.0 b.1 b.2 (below_more t.count given v (omega (arith, b.1)) b.3)
after-held (parent t i lists e (suc left) given) v l h b = (b.0, b.1, b.2, below_more t.count given v (omega (arith, b.1)) b.3)

held : {s : List ℕ} {place padded : ℕ} {next : Next} → Meets s place padded next → Held next
unfolding Held
held begin = tt
held (on {v = v} {due = d} m w l h) = after-held d v l h (held m)

-- the table that is given
pub given-read : {s : List ℕ} {t : TaskTable} {padded : ℕ} {lists : List (List ℕ)} → Gives s t padded lists → Read t.count t lists
unfolding Held
given-read m = held m

-- and by the draft's outcome
pub record Drawn (s : List ℕ) : Type 0 where
  pub padded : ℕ
  pub lists : List (List ℕ)
  pub gives : Gives s (draft_of s).table padded lists
  pub is : draft_of s ≡ drawn (draft_of s).table (counts_of padded lists)

pub was-drawn : (s : List ℕ) → (draft_of s).outcome ≡ Ok tt → Drawn s
was-drawn s e = by (comes s)
  where
    by : Comes s → Drawn s
    by (refuses f) = absurd (let q = ap (λ (x : Draft). x.outcome) (sym (rule-refused s f)) ∙ e in cc)
    by (gives {t} {padded} {lists} m) =
        let q = given-drawn s m in
        let same : t ≡ (draft_of s).table = ap (λ (x : Draft). x.table) (sym q) in
        record { padded = padded; lists = lists; gives = rw same at m; is = q ∙ ap (λ (u : TaskTable). drawn u (counts_of padded lists)) same }

pub drawn-filling : (s : List ℕ) → (draft_of s).outcome ≡ Ok tt → Filling (draft_of s).table.count (draft_of s).table
drawn-filling s e = (given-read (was-drawn s e).gives).filling
