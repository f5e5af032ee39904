-- What a plan is held to by the words of our own plan is what it is held to by the task: they have the task's cut, and who runs where.
use mathlib.Core.Path.{◌≡◌, refl}
use mathlib.Core.List.{List}
use Prim.Native.Nat.{ℕ}
use Rattle.tables.specs.declared.TaskTable.{TaskTable}
use Rattle.plans.proofs.Read.{at-segments, at-nodes, segments-held}
use Rattle.rules.specs.Rules.{first_broken}
use Rattle.rules.specs.Inner.Own.{held_by}
use Rattle.trials.specs.Inner.Numbered.{SameHeld}
use Rattle.trials.proofs.Alike.{held_same}
use Rattle.judges.specs.Judging.{held_to, broken_of}
use Rattle.judges.specs.Inner.Judged.{OwnIn}
use Rattle.judges.proofs.Window.{window-share}

module _ {t : TaskTable} {own : List ℕ} {C : ℕ} (o : OwnIn t own C) where
  same-held : SameHeld (held_by own t.parents t.execution t.period C) (held_to t)
  same-held = rw o.is (record {
    period = refl;
    work = o.work;
    count = at-nodes t o.old;
    parents = refl;
    execution = λ v h. refl;
    segments = at-segments t o.old;
    threads = λ j h. (segments-held t o.old).threads j (rw (at-segments t o.old) at h);
    lengths = λ j h. (segments-held t o.old).lengths j (rw (at-segments t o.old) at h);
    share = λ given v h. window-share o.table o.old given v (rw (at-nodes t o.old) at h);
  })

  pub broken-own : (plan : List ℕ) → first_broken (held_by own t.parents t.execution t.period C) plan ≡ broken_of t plan
  broken-own plan = held_same same-held plan
