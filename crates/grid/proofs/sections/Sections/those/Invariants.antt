use Rattle.std.proofs.Common.{◌≡◌, ℕ, ◌<◌, ◌≤◌, false}
use Rattle.model.specs.Pictures.{bit}
use Rattle.grid.proofs.sections.Sections.those.Given as goal

-- the sections below the next one were tested, and no other is in the set
abbrev pub invariant-loop-section : goal.invariant-loop-section
invariant-loop-section g l = record {
  tested : (k : ℕ) → k < l.section → goal.F-post g l.test k (bit l.bits k);
  others : (k : ℕ) → l.section ≤ k → bit l.bits k ≡ false;
}
