use Rattle.std.proofs.Common.{◌≡◌, ℕ, ◌<◌, ◌^◌, drop}
use Rattle.std.specs.Prelude.{◌||◌}
use Rattle.std.specs.List.{list_any}
use Rattle.step_maps.specs.Covers.{AreStretches, reaches}
use Rattle.core_file.specs.Code.{has_code}
use Rattle.core_file.proofs.code.add_loads.Given as goal

abbrev pub invariant-segments : goal.invariant-segments
invariant-segments l = record {
  some : AreStretches l.code.items;
  left : (a : ℕ) → a < 2 ^ 64 → (list_any (λ s. reaches s a) l.code.items || list_any (has_code a) (drop l.k l.segments)) ≡ (list_any (λ s. reaches s a) l.fn.code.items || list_any (has_code a) l.segments);
}
