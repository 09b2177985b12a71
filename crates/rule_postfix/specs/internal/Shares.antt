-- The entries of a section, which are translated in shares.
use Rattle.std.specs.Prelude.{ℕ, List}
use Rattle.sym_edges.specs.Addresses.{Range}
use Rattle.frame_entries.specs.declared.description.Entry.{Entry}

-- the input of the jobs that translate entries share by share
pub record TranslatorParts : Type 0 where
  pub entries : List Entry
  pub code : List Range
  pub base : ℕ
  pub size : ℕ
