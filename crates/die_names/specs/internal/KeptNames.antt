-- The bytes of a kept name.
use Rattle.std.specs.Prelude.{ℕ, List}
use Rattle.die_names.specs.declared.kept.KeptName.{KeptName}
use Rattle.die_names.specs.declared.kept.KeptName.TheVariants.{Whole, Made}

abbrev pub kept_name : KeptName → List ℕ
kept_name (Whole bytes) = bytes.now
kept_name (Made text) = text
