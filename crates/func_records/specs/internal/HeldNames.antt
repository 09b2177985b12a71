-- The bytes of a held name.
use Rattle.std.specs.Prelude.{ℕ, List}
use Rattle.std.specs.Arc.{arc_value}
use Rattle.func_records.specs.declared.made_names.HeldName.{HeldName}
use Rattle.func_records.specs.declared.made_names.HeldName.TheVariants.{Whole, Made}

abbrev pub held_name : HeldName → List ℕ
held_name (Whole bytes) = bytes.now
held_name (Made text) = arc_value text
