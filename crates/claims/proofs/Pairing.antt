-- The pairing of rows and tables that every call keeps: a refusal changes nothing; an admission writes the row of a new table over a free one; a
-- withdrawal frees the one row of the one table that has the id. So every figure added up over the rows is the same added up over the tables.
use mathlib.Core.Path.{◌≡◌, refl, sym, ap, ◌∙◌}
use mathlib.Core.Logic.{◌⊎◌, inl, inr, ⊎_elim}
use mathlib.Core.Bool.{Bool, true, false}
use mathlib.Core.List.Memᴰ
use mathlib.Core.List.{List, [], ◌∷◌}
use Prim.Native.Nat.{ℕ, ◌+◌, ◌≤◌, ◌<◌}
use native.Mathlib.Decide.{ℕ_discrete}
use native.Mathlib.Omega.{arith}
use lib.Dec.{eqb}
use lib.ListN.{set, get_or-replicate}
use borrow.Author.Tests.{eqb-true, eqb-false}
use Rattle.std.specs.Prelude.{Result}
use Rattle.plain.specs.Pick.{pick}
use Rattle.plain.specs.Sums.{sum_to}
use Rattle.plain.proofs.Sums.{sum-changed}
use Rattle.refusals.specs.declared.Refusal.{Refusal}
use Rattle.tables.specs.declared.TaskTable.{TaskTable}
use Rattle.tables.proofs.Cost.{plannable}
use Rattle.plans.specs.Accepted.{Accepted}
use Rattle.plans.specs.Calls.{task_of}
use Rattle.boards.specs.declared.Row.{Row}
use Rattle.boards.specs.declared.Change.{Change}
use Rattle.boards.specs.Row.{free_row, rows_max, row_at}
use Rattle.boards.specs.Sound.{Sound}
use Rattle.boards.specs.Find.{place_of, free_at}
use Rattle.boards.specs.Change.{answer_to, changed, withdrawn}
use Rattle.boards.proofs.Sound.{empty-sound}
use Rattle.boards.proofs.Find.{place-before}
use Rattle.boards.proofs.Keeping.{withdrawn-refused, withdrawn-sound, place-stands, place-free, one-row, row_written, others-kept}
use Rattle.admissions.specs.Admission.{Admission, row_of, noting}
use Rattle.guards.specs.Guarded.{admission}
use Rattle.planner.specs.Calls.{Lent, withdraw_call}
use Rattle.claims.specs.Rule.{IsAccepted, IsRefused}
use Rattle.claims.specs.Calls.{Call, State, without, if_accepted, empty_day, after_call, after_calls}
use Rattle.claims.specs.Calls.Call.{note, admit, withdraw, ask, ask_to_end}
use Rattle.claims.specs.Day.{Among, RowIs, NoIdTwice}
use Rattle.claims.specs.Day.NoIdTwice.{none, more}
use Rattle.claims.proofs.Note.{Joins, note-accepted, note-untouched}
use Rattle.claims.proofs.Admit.{admit-accepted, admit-untouched}
use Rattle.claims.proofs.Withdraw.{Withdrew, withdraw-accepted}
use Rattle.claims.proofs.Standing.{sums_of, without-among, among-without, without-apart, sums-without}

-- a figure of each row
abbrev pub figure : (Row → ℕ) → List Row → ℕ → ℕ
figure f rows k = f (row_at rows k)

-- the pairing that every call keeps
pub record Paired (s : State) : Type 0 where
  pub sound : Sound s.rows
  -- the tables are accepted ones
  pub stand : (t : TaskTable) → Among t s.standing → Accepted t
  pub admitted : (t : TaskTable) → Among t s.admitted → Accepted t
  -- each standing table has a row, and each row is free or a standing table's
  pub row : (t : TaskTable) → Among t s.standing → (k : ℕ) × (k < rows_max) × RowIs s.rows t k
  pub table : (k : ℕ) → k < rows_max → (row_at s.rows k ≡ free_row) ⊎ ((t : TaskTable) × Among t s.standing × RowIs s.rows t k)
  -- no id twice, and any figure adds up alike
  pub apart : NoIdTwice s.standing
  pub sums : (f : Row → ℕ) → f free_row ≡ 0 → sum_to rows_max (figure f s.rows) ≡ sums_of f s.standing

-- the empty board
pub paired-empty : Paired empty_day
unfolding sums_of sum_to
paired-empty = record {
  sound = empty-sound;
  stand = λ t m. absurd (Memᴰ.not-nil m);
  admitted = λ t m. absurd (Memᴰ.not-nil m);
  row = λ t m. absurd (Memᴰ.not-nil m);
  table = λ k h. inl (get_or-replicate rows_max k free_row free_row h);
  apart = none;
  sums = λ f z. rw z;
}

-- one row written over another of a sound board
module _ {rows : List Row} (s : Sound rows) (at : ℕ) (h : at < rows_max) (new : Row) where
  -- a figure's sum changes by that row
  sum-written : (f : Row → ℕ) → sum_to rows_max (figure f (set rows at new)) + f (row_at rows at) ≡ sum_to rows_max (figure f rows) + f new
  sum-written f = sum-changed rows_max (figure f (set rows at new)) (figure f rows) at h (λ k n. ap f (others-kept rows at new k n)) ∙ ap (λ (r : Row). sum_to rows_max (figure f rows) + f r) (row_written s at h new)

-- the row of an accepted table has an id
pub id-some : {t : TaskTable} → Accepted t → t.id ≡ 0 → ⊥
id-some ok e = let l = (plannable ok.range).id-low in omega arith

-- an admission
module _ {s : State} (p : Paired s) (t : TaskTable) (ok : Accepted t) (new : rows_max ≤ place_of t.id s.rows) (free : free_at s.rows < rows_max) (fine : Sound (set s.rows (free_at s.rows) (row_of t))) where
  -- the lowest free row
  abbrev place : ℕ
  place = free_at s.rows

  -- the state after it
  abbrev joined : State
  joined = record { rows = set s.rows place (row_of t); standing = t ∷ s.standing; admitted = t ∷ s.admitted }

  -- a standing table's row isn't the free one
  elsewhere : (u : TaskTable) → Accepted u → (k : ℕ) → RowIs s.rows u k → k ≡ place → ⊥
  elsewhere u oku k r e = id-some oku (sym (ap (λ (x : Row). x.id) r) ∙ rw e (ap (λ (x : Row). x.id) (place-free p.sound free)))

  -- each table has its row, the new one the row that was free
  joined-row : (u : TaskTable) → Among u (t ∷ s.standing) → (k : ℕ) × (k < rows_max) × RowIs joined.rows u k
  joined-row u m = ⊎_elim
      (λ (e : u ≡ t). rw e (place, free, row_written p.sound place free (row_of t)))
      (λ (n : Among u s.standing). let w = p.row u n in (w.0, w.1, others-kept s.rows place (row_of t) w.0 (elsewhere u (p.stand u n) w.0 w.2) ∙ w.2))
      (Memᴰ.cases_cons m)

  -- each row its table
  joined-table : (k : ℕ) → k < rows_max → (row_at joined.rows k ≡ free_row) ⊎ ((u : TaskTable) × Among u (t ∷ s.standing) × RowIs joined.rows u k)
  joined-table k h = elim (ℕ_discrete k place) [
    | yes e ↦ inr (t, Memᴰ.head refl, rw e (row_written p.sound place free (row_of t)))
    | no n ↦ (let same = others-kept s.rows place (row_of t) k n in
        ⊎_elim (λ (z : row_at s.rows k ≡ free_row). inl (same ∙ z)) (λ (w : (u : TaskTable) × Among u s.standing × RowIs s.rows u k). inr (w.0, Memᴰ.tail w.1, same ∙ w.2)) (p.table k h))
  ]

  -- no table has its id, since no row has
  joined-new : (u : TaskTable) → Among u s.standing → u.id ≡ t.id → ⊥
  joined-new u n e = let w = p.row u n in let l = w.1 in place-before t.id s.rows w.0 (omega arith) (ap (λ (x : Row). x.id) w.2 ∙ e)

  -- so the pairing is kept
  paired-joined : Paired joined
  unfolding sums_of
  paired-joined = record {
    sound = fine;
    stand = λ u m. ⊎_elim (λ (e : u ≡ t). rw e ok) (λ (n : Among u s.standing). p.stand u n) (Memᴰ.cases_cons m);
    admitted = λ u m. ⊎_elim (λ (e : u ≡ t). rw e ok) (λ (n : Among u s.admitted). p.admitted u n) (Memᴰ.cases_cons m);
    row = joined-row;
    table = joined-table;
    apart = more joined-new p.apart;
    sums = λ f z.
        let a = sum-written p.sound place free (row_of t) f in
        let b = ap f (place-free p.sound free) in
        let c = p.sums f z in
        omega arith;
  }

-- a withdrawal
module _ {s : State} (p : Paired s) (id : ℕ) (w : Withdrew s.rows id (withdrawn s.rows id)) where
  -- the row that has the id
  abbrev freed : ℕ
  freed = place_of id s.rows

  -- the state after it
  abbrev left : State
  left = record { rows = set s.rows freed free_row; standing = without id s.standing; admitted = s.admitted }

  -- the row freed has the id, and no row of a table with another id is freed
  had : (row_at s.rows freed).id ≡ id
  had = place-stands p.sound id w.stood

  not-freed : (u : TaskTable) → (u.id ≡ id → ⊥) → (k : ℕ) → RowIs s.rows u k → k ≡ freed → ⊥
  not-freed u n k r e = n (sym (ap (λ (x : Row). x.id) r) ∙ rw e had)

  -- the table that goes
  gone : (u : TaskTable) × Among u s.standing × RowIs s.rows u freed
  gone = ⊎_elim (λ (z : row_at s.rows freed ≡ free_row). absurd (w.some (sym had ∙ ap (λ (x : Row). x.id) z))) (λ g. g) (p.table freed w.stood)

  -- each table that is left has its row
  left-row : (u : TaskTable) → Among u (without id s.standing) → (k : ℕ) × (k < rows_max) × RowIs left.rows u k
  left-row u m =
      let a = without-among id s.standing m in
      let r = p.row u a.0 in
      (r.0, r.1, others-kept s.rows freed free_row r.0 (not-freed u a.1 r.0 r.2) ∙ r.2)

  -- each row its table, but for the one freed
  left-table : (k : ℕ) → k < rows_max → (row_at left.rows k ≡ free_row) ⊎ ((u : TaskTable) × Among u (without id s.standing) × RowIs left.rows u k)
  left-table k h = elim (ℕ_discrete k freed) [
    | yes e ↦ inl (rw e (row_written p.sound freed w.stood free_row))
    | no n ↦ (let same = others-kept s.rows freed free_row k n in
        ⊎_elim (λ (z : row_at s.rows k ≡ free_row). inl (same ∙ z))
        (λ (g : (u : TaskTable) × Among u s.standing × RowIs s.rows u k).
        inr (g.0, among-without id s.standing g.1 (λ e. n (one-row p.sound id w.some k h (ap (λ (x : Row). x.id) g.2 ∙ e))), same ∙ g.2)) (p.table k h))
  ]

  -- so the pairing is kept
  paired-left : Paired left
  paired-left = record {
    sound = let e = withdrawn-sound s.rows id p.sound in rw w.is at e;
    stand = λ u m. p.stand u (without-among id s.standing m).0;
    admitted = p.admitted;
    row = left-row;
    table = left-table;
    apart = without-apart id s.standing p.apart;
    sums = λ f z.
        let a = sum-written p.sound freed w.stood free_row f in
        let b = ap f gone.2 in
        let c = p.sums f z in
        let d = sums-without id f s.standing p.apart gone.0 gone.1 (sym (ap (λ (x : Row). x.id) gone.2) ∙ had) in
        omega arith;
  }

-- a record's task, noted or admitted: it joins, or nothing has changed
paired-entry : (bytes words : List ℕ) (cost : ℕ) {s : State} → Paired s → (x : Admission) → (IsAccepted (answer_to x.change) → Joins bytes words s.rows cost x) → (IsRefused (answer_to x.change) → changed s.rows x.change ≡ s.rows)
    → Paired (record { rows = changed s.rows x.change; standing = if_accepted (answer_to x.change) (task_of bytes cost ∷ s.standing) s.standing; admitted = if_accepted (answer_to x.change) (task_of bytes cost ∷ s.admitted) s.admitted })
paired-entry bytes words cost {s} p x joins stays = go (eqb (answer_to x.change).refusal 0) refl
  where
    go : (b : Bool) → eqb (answer_to x.change).refusal 0 ≡ b
        → Paired (record { rows = changed s.rows x.change; standing = pick b (task_of bytes cost ∷ s.standing) s.standing; admitted = pick b (task_of bytes cost ∷ s.admitted) s.admitted })
    go true e =
        let a = joins (eqb-true _ 0 e) in
        rw (ap (λ (y : Admission). changed s.rows y.change) a.is) (paired-joined p (task_of bytes cost) a.table a.new a.free a.fine)
    go false e = rw (stays (eqb-false _ 0 e)) p

-- every call keeps the pairing
pub paired-call : (call : Call) {s : State} → Paired s → Paired (after_call call s)
unfolding after_call
paired-call (note bytes words cost) {s} p = paired-entry bytes words cost p (noting bytes words s.rows cost) (note-accepted bytes words s.rows cost) (λ n. ap (λ (l : Lent). l.rows) (note-untouched bytes words s.rows cost n))
paired-call (admit bytes words cores cost) {s} p = paired-entry bytes words cost p (admission bytes words s.rows cores cost) (admit-accepted bytes words s.rows cores cost) (λ n. ap (λ (l : Lent). l.rows) (admit-untouched bytes words s.rows cores cost n))
paired-call (withdraw id) {s} p = go (eqb (answer_to (withdrawn s.rows id)).refusal 0) refl
  where
    go : (b : Bool) → eqb (answer_to (withdrawn s.rows id)).refusal 0 ≡ b
        → Paired (record { rows = (withdraw_call s.rows id).lent; standing = pick b (without id s.standing) s.standing; admitted = s.admitted })
    go true e =
        let w = withdraw-accepted s.rows id (eqb-true _ 0 e) in
        rw (ap (λ (c : Result Change Refusal). changed s.rows c) w.is) (paired-left p id w)
    go false e = rw (withdrawn-refused s.rows id (eqb-false _ 0 e)) p
paired-call (ask cores) p = p
paired-call (ask_to_end cores) p = p

-- so does a day
pub paired_calls : (calls : List Call) {s : State} → Paired s → Paired (after_calls calls s)
unfolding after_calls
paired_calls [] p = p
paired_calls (call ∷ calls) p = paired_calls calls (paired-call call p)
