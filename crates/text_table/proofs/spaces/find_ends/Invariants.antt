use Rattle.std.proofs.Common.{◌≡◌, ℕ, ◌*◌, ◌<◌, ◌≤◌, get_or, length}
use Rattle.text_table.specs.Ends.{spaces_end}
use Rattle.text_table.proofs.spaces.find_ends.Given as goal

abbrev pub invariant-starts : goal.invariant-starts
invariant-starts l = record {
  size : length l.ends.items ≡ l.k;
  each : (j : ℕ) → j < l.k → get_or l.ends.items j 0 ≡ spaces_end l.bytes (j * l.block);
  end : (p : ℕ) × (p ≤ l.k * l.block) × (l.end ≡ spaces_end l.bytes p);
}
