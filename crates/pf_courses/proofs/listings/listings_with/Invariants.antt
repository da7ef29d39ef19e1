use Rattle.std.proofs.Common.{◌≡◌, ◌==◌, ℕ, ◌-◌, ◌≤◌, find}
use Rattle.pf_courses.specs.Built.{listings_by}
use Rattle.pf_courses.proofs.listings.listings_with.Given as goal

-- the courses of the tasks that are left are still there
abbrev pub invariant-loop-task : goal.invariant-loop-task
invariant-loop-task l = record {
  listed : l.listed.items ≡ listings_by l.fn.courses.items l.own l.denied l.now (l.task - 1);
  others : (other : ℕ) → l.task ≤ other
      → find (λ track. track.task == other) l.courses.items ≡ find (λ track. track.task == other) l.fn.courses.items;
}
